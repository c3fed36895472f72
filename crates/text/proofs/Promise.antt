-- What crates above cite of text.
pub use Rattle.text.proofs.Writing.{sets_past, sets_append, put_length, put_room, put_cells, put_front}
pub use Rattle.text.proofs.Writing.{put_nothing, put_past, put_then, put_unique}
pub use Rattle.text.proofs.Writing.{Completes, completes_start, completes_more, completes_all}
pub use Rattle.text.proofs.DecimalDigits.{decimal_value, decimal_digits, decimal_no_leading_zero}
pub use Rattle.text.proofs.DecimalDigits.{decimal_numeral, decimal_unique, decimal_length, decimal_longer}
pub use Rattle.text.proofs.DecimalDigits.{decimal_length_word}
pub use Rattle.text.proofs.HexadecimalDigits.{hexadecimal_length, hexadecimal_digits, hexadecimal_value}
pub use Rattle.text.proofs.HexadecimalDigits.{hexadecimal_unique}
pub use Rattle.text.proofs.ReadingDigits.{digit_is, is_digit_lem, number_written}
