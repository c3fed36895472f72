-- What crates above cite of the reader.
pub use Rattle.reader.proofs.Records.{RecordAt}
unfoldable pub use Rattle.reader.proofs.Records.{records_size, record_place}
pub use Rattle.reader.proofs.Positions.{record_at, record_within, record_place_suc}
pub use Rattle.reader.proofs.Cells.{zero_cell, zeros_behind, places_length, places_cell, places_rest}
pub use Rattle.reader.proofs.Turns.{places_turn, places_over}
pub use Rattle.reader.proofs.Bytes.{symbol_of_known, refused_not_reads}
pub use Rattle.reader.proofs.Forms.{form_next, form_turn, form_past, form_none, form_dropped}
pub use Rattle.reader.proofs.Forms.{every_in, form_spelled, symbol_token, symbol_nonterminal, byte_of_symbol}
pub use Rattle.reader.proofs.Forms.{symbol_low, symbol_high, symbol_none}
pub use Rattle.reader.proofs.Written.{read_written, written_read, read_limits}
pub use Rattle.reader.proofs.Longest.{longest_book_lem, judged_by_first, refused_within}
pub use Rattle.reader.proofs.Place.{refused_kinds, refused_number}
pub use Rattle.reader.proofs.Telling.{verdict_reads, verdict_refused}
