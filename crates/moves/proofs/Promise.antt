-- What crates above cite of moves.
pub use Rattle.moves.proofs.Unique.{after_unique}
