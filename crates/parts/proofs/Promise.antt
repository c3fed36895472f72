-- What crates above cite of parts.
pub use Rattle.parts.proofs.Marks.{mark_inside}
pub use Rattle.parts.proofs.Growth.{grown_exactly, rows_none, rows_then, rows_alike, rows_put, rows_unite}
pub use Rattle.parts.proofs.PositionSets.{positions_points}
