-- What crates above cite of the pieces of a line.
pub use Rattle.pieces.proofs.Walks.{walk_start, walk_end, walk_unique, walk_joined, walk_split}
pub use Rattle.pieces.proofs.Walks.{walk_more, walk_next, walk_stuck, says_token, says_unique}
pub use Rattle.pieces.proofs.Beginning.{says_beginning}
pub use Rattle.pieces.proofs.Unique.{token_unique, token_not_none, cut_unique, cut_with_unique}
pub use Rattle.pieces.proofs.Exact.{cut_exact, cut_lowest}
pub use Rattle.pieces.proofs.Parts.{cut_parts}
pub use Rattle.pieces.proofs.Laying.{cut_stops, cut_keeps_all}
pub use Rattle.pieces.proofs.Standing.{cut_ends, stands_unique, ends_tell}
pub use Rattle.pieces.proofs.Matching.{cut_matches, room_lacking, pieces_few, place_inside}
pub use Rattle.pieces.proofs.Deciding.{cut_exists, meaning_decided, says_decidable, says_decided}
pub use Rattle.pieces.proofs.Deciding.{cut_with_exists}
pub use Rattle.pieces.proofs.Written.{over_length, over_next, over_taken}
