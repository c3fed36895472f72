-- What crates above cite of patterns, beside the page of results.
-- what can come first, last, next, or reads in x lies among its positions, and two parts side by side share none
pub use Rattle.pattern.proofs.PositionBounds.{PositionOf, first_inside, last_inside, follow_inside}
pub use Rattle.pattern.proofs.PositionBounds.{follower_inside, reads_inside, parts_apart}
-- each relation on each form of expression, both ways; what a class reads depends on `InClass` alone
pub use Rattle.pattern.proofs.PositionLaws.{null_of_one, null_of_cat, null_of_alt, null_of_plus}
pub use Rattle.pattern.proofs.PositionLaws.{first_of_one, first_of_cat, first_of_alt}
pub use Rattle.pattern.proofs.PositionLaws.{first_of_plus, first_of_opt}
pub use Rattle.pattern.proofs.PositionLaws.{last_of_one, last_of_cat, last_of_alt, last_of_plus, last_of_opt}
pub use Rattle.pattern.proofs.PositionLaws.{follow_of_one, follow_of_cat, follow_of_alt, follow_of_plus}
pub use Rattle.pattern.proofs.PositionLaws.{follow_of_opt, reads_of_one, reads_of_cat, reads_of_alt}
pub use Rattle.pattern.proofs.PositionLaws.{reads_of_plus, reads_of_opt}
-- what one pattern more behind the list adds
pub use Rattle.pattern.proofs.OnePatternMore.{start_position_more, start_end_more, onward_position_more}
pub use Rattle.pattern.proofs.OnePatternMore.{onward_end_more, reads_in_more, positions_append}
-- from a place on, for a reader over a slice: what is left equals the whole, or the place is refused
pub use Rattle.pattern.proofs.Says.{says_moves, says_stops, says_ends, says_short}
pub use Rattle.pattern.proofs.Says.{says_kind, says_no_kind, says_settled}
-- and by the byte: what reading on, plain bytes and signs come to
pub use Rattle.pattern.proofs.Steps.{read_after, move_plain, move_special}
pub use Rattle.pattern.proofs.ByteKinds.{plain_kind, sign_kind, outside_kind}
-- every byte has one kind, and which
pub use Rattle.pattern.proofs.ByteKinds.{KindIs, plain_is, dash_is, backslash_is, close_class_is, open_class_is}
pub use Rattle.pattern.proofs.ByteKinds.{open_group_is, close_group_is, bar_is, sign_is, kind_is, impossible}
-- what can be passed without a byte, as it is decided
unfoldable pub use Rattle.pattern.proofs.Nullable.{nullable}
pub use Rattle.pattern.proofs.Nullable.{matches_null, null_matches}
-- a pattern that stands in the list has a number below its length
pub use Rattle.pattern.proofs.PlacedPatterns.{below_length}
-- the theorems of the page of results that they cite
pub use Rattle.pattern.proofs.Theorems.{after_end_below, bad_texts_lem, first_bad_not_all_good, first_bad_unique}
pub use Rattle.pattern.proofs.Theorems.{house_sizes, meaning_unique, moved_same, null_exact, onward_below}
pub use Rattle.pattern.proofs.Theorems.{onward_end_below, onward_position_below, pattern_place, patterns_length}
pub use Rattle.pattern.proofs.Theorems.{read_exact, reads_below, refused_exact, start_end_below}
pub use Rattle.pattern.proofs.Theorems.{start_position_below, state_exact}
