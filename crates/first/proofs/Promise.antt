-- What crates above cite of FIRST and of the sets of a grammar as numbers.
pub use Rattle.first.proofs.Closed.{first_is, sets_at, taken_at, at_taken, family_at, family_taken, sets_sound}
pub use Rattle.first.proofs.Closed.{Bits, bits_cover}
pub use Rattle.first.proofs.Closed.{join_proper, known_fits, trail_of_first}
pub use Rattle.first.proofs.Coming.{Columned, columned, columned_alike, columned_members, columned_united}
pub use Rattle.first.proofs.Coming.{can_come_is, own_tokens_is, seen_none_is, seen_more_is, next_set_is}
pub use Rattle.first.proofs.Coming.{stop_set_is}
pub use Rattle.first.proofs.Judged.{given_count, given_limits, given_lists, given_nonterminals}
pub use Rattle.first.proofs.Judged.{given_part, given_readable, given_served}
pub use Rattle.first.proofs.Growth.{Ends, Expands, ends_none, ends_stored, expands_then, expands_united}
pub use Rattle.first.proofs.Growth.{grown_same, made_next}
pub use Rattle.first.proofs.Growth.{made_then, no_member, passed_expands, passed_fires, passed_keeps}
pub use Rattle.first.proofs.Growth.{passed_nothing, total}
pub use Rattle.first.proofs.Growth.{united_there}
pub use Rattle.first.proofs.Members.{at_column, first_proper, first_reasons, follow_reasons, reasons_inside}
pub use Rattle.first.proofs.Rounds.{Fits, Refines, Round, fits_none, round_last, round_nearer, round_next}
pub use Rattle.first.proofs.Rounds.{stored_fits}
pub use Rattle.first.proofs.Rounds.{united_at_fits}
pub use Rattle.first.proofs.Joins.{Covers, Reason, Reasons, only_one, only_there, trail_reasons}
pub use Rattle.first.proofs.Known.{Proper, below, the_end_mark, proper_token, first_known, follow_known}
pub use Rattle.first.proofs.Known.{lookahead_proper, claims_row, claims_proper}
pub use Rattle.first.proofs.OfBook.{OfBook, of_book_unique, of_grammar, of_refusal}
pub use Rattle.first.proofs.Unique.{family_unique, sets_unique}
pub use Rattle.first.proofs.Spelled.{lists_limits, left_is, right_is, rule_at, tail_is, right_part}
pub use Rattle.first.proofs.Worked.{sets_tested}
unfoldable pub use Rattle.first.proofs.Worked.{places_test, rows_test}
pub use Rattle.first.proofs.Trail.{every_symbol_fits, join_stops, single_empty, single_token, token_set_lem}
pub use Rattle.first.proofs.Trail.{trail_fits}
pub use Rattle.first.proofs.Additions.{sound_none, sound_stored, sound_united}
pub use Rattle.first.proofs.Outcomes.{first_outcome_unique, first_worked_out_unique, set_for_unique}
pub use Rattle.first.proofs.Vanishing.{vanishing_is}
pub use Rattle.first.proofs.Examples.{house_first_sets_lem}
pub use Rattle.first.proofs.Joined.{trail_append, trail_joined, at_empty, first_joined}
pub use Rattle.first.proofs.JoinedCalls.{first_of_joined, first_of_split}
pub use Rattle.first.proofs.WholeCalls.{first_of_whole}
