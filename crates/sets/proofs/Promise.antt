-- What crates above cite of sets.
pub use Rattle.sets.proofs.Members.{member_none, member_past, shifted_one}
pub use Rattle.sets.proofs.Operations.{member_united, member_only, member_added, member_removed, member_joined}
pub use Rattle.sets.proofs.Operations.{or_left, or_right, or_cases, added_none, added_new, added_keep}
pub use Rattle.sets.proofs.Operations.{added_cases, removed_keep, removed_cases, join_keep, join_skip}
pub use Rattle.sets.proofs.Operations.{join_cases}
pub use Rattle.sets.proofs.Equality.{same_below, same_members, exactly_unique, united_subset, subset_united}
pub use Rattle.sets.proofs.Order.{united_grows, subset_le, subset_lt, fits_members, members_fit, only_fits}
pub use Rattle.sets.proofs.Order.{united_fits, added_fits, removed_fits, joined_fits}
pub use Rattle.sets.proofs.Algebra.{joined_vanishes, joined_elsewhere, join_assoc, join_neutral_left}
pub use Rattle.sets.proofs.Algebra.{join_neutral_right, join_distributes_left, join_distributes_right}
pub use Rattle.sets.proofs.Algebra.{join_monotone}
pub use Rattle.sets.proofs.Answers.{none_is, single_is, with_is, without_is, union_is, join_is, decided}
pub use Rattle.sets.proofs.Answers.{decides_true, decides_false, stored_length, stored_there, stored_elsewhere}
pub use Rattle.sets.proofs.Unique.{value_unique, decides_unique, number_unique, members_unique}
pub use Rattle.sets.proofs.Exactness.{exactly_alike, exactly_none, exactly_added, exactly_united}
pub use Rattle.sets.proofs.Words.{places_are, no_words, more_words, set_words, value_fits, value_words}
pub use Rattle.sets.proofs.Words.{words_value, words_length, words_fit, same_words, value_none, member_place}
pub use Rattle.sets.proofs.Words.{member_value}
pub use Rattle.sets.proofs.Words.{united_word, united_words_length, united_words_fit, value_united}
pub use Rattle.sets.proofs.Words.{added_words_length, added_words_fit, value_added, words_past}
pub use Rattle.sets.proofs.Joining.{joining, joined_exactly}
