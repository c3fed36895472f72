-- What crates above cite of the stack and its buffers.
pub use Rattle.stack.proofs.Buffers.{length_over, over_more, over_over}
pub use Rattle.stack.proofs.Stacked.{byte_spelled, symbols_spelled, cells_spelled, nonterminal_spelled}
pub use Rattle.stack.proofs.Stacked.{every_append, every_rest, length_bytes, length_symbols, length_spelled}
pub use Rattle.stack.proofs.Stacked.{stacked_pop, stacked_replace, stacked_open, stacked_spelled, stacked_again}
pub use Rattle.stack.proofs.Stacked.{length_stacked, spelled_stacked}
pub use Rattle.stack.proofs.Replacing.{replacing_fits}
pub use Rattle.stack.proofs.Next.{next_first, end_none}
pub use Rattle.stack.proofs.Sides.{spelled_none, spelled_top, replaced_length}
pub use Rattle.stack.proofs.Calls.{Call, refused, barred, ended, Apart, call_unique}
pub use Rattle.stack.proofs.Unique.{ahead_unique, counts_unique}
pub use Rattle.stack.proofs.Unique.{put_start_unique, replace_unique, clear_unique}
