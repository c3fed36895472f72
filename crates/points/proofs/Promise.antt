-- What crates above cite of points.
pub use Rattle.points.proofs.Flat.{words_at_length, word_at, word_past, words_at_words, words_alike}
pub use Rattle.points.proofs.Stored.{points_whole, points_fit, points_alike, member_points, member_lacking}
pub use Rattle.points.proofs.Stored.{stored_at_length, stored_at_words, stored_at_before, stored_at_after}
pub use Rattle.points.proofs.Stored.{stored_at_elsewhere, rows_apart, stored_at_there, stored_at_back}
pub use Rattle.points.proofs.Compared.{points_same, points_none}
pub use Rattle.points.proofs.Outcomes.{put_length, put_words, put_elsewhere, put_lacking, put_there, put_adds}
pub use Rattle.points.proofs.Outcomes.{put_members, put_exactly}
pub use Rattle.points.proofs.Outcomes.{unite_length, unite_words, unite_elsewhere, unite_word, unite_there}
pub use Rattle.points.proofs.Outcomes.{unite_unites, unite_members, unite_exactly}
pub use Rattle.points.proofs.Unique.{has_unique, put_unique, unite_unique, same_unique, none_unique}
pub use Rattle.points.proofs.Unique.{lowest_unique}
pub use Rattle.points.proofs.Zeros.{lowest_none, without_there, without_other, without_keeps, without_falls}
unfoldable pub use Rattle.points.proofs.Zeros.{without}
