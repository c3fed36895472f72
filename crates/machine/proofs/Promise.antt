-- What crates above cite of the machines.
pub use Rattle.machine.proofs.Walk.{Walk, here, match, expand, Halt, ComesTo, ends, goes_on}
pub use Rattle.machine.proofs.Agreement.{offer_answers}
pub use Rattle.machine.proofs.Offer.{offer_match, offer_use, offer_halt, run_taken, run_stopped}
pub use Rattle.machine.proofs.Count.{Counted, Grown, halt_final, offer_counted, offer_grown, run_grown}
unfoldable pub use Rattle.machine.proofs.Count.{gained}
pub use Rattle.machine.proofs.Relation.{Rows, right_of_lem}
pub use Rattle.machine.proofs.Peak.{peak_start}
pub use Rattle.machine.proofs.Outcome.{Outcome, enough, list_short, stack_short}
unfoldable pub use Rattle.machine.proofs.Outcome.{whole}
pub use Rattle.machine.proofs.RunTheorems.{run_steps, run_sound, run_lists_few, run_stays_low, run_always_enough}
pub use Rattle.machine.proofs.RunTheorems.{run_place, run_syntax, run_complete, run_short_iff, run_room}
pub use Rattle.machine.proofs.RunTheorems.{run_inside, run_plain_few, run_plain_low, run_plain_enough}
pub use Rattle.machine.proofs.RunTheorems.{run_next, run_next_stop, run_next_some, run_next_other}
pub use Rattle.machine.proofs.RunTheorems.{run_plain_no_more, run_plain_next}
pub use Rattle.machine.proofs.PlainHint.{Wanted, wants_end, wants_token, wants_row}
pub use Rattle.machine.proofs.LastOffer.{OneOffer, by_match, by_halt, LastOffer, last_offer}
pub use Rattle.machine.proofs.NextTokens.{Since}
pub use Rattle.machine.proofs.RoomNeeded.{room_needed, run_tall}
pub use Rattle.machine.proofs.ExpandMoves.{finished_is, left_over_is, too_short_is, misfit_is, no_stack_is}
pub use Rattle.machine.proofs.ExpandMoves.{apply_is, no_output_is, write_is}
pub use Rattle.machine.proofs.ExpandDerivation.{fits_rule, rule_fits}
pub use Rattle.machine.proofs.ExpandTheorems.{expand_steps, expand_sound, expand_complete, expand_exact}
pub use Rattle.machine.proofs.ExpandTheorems.{expand_refuses, expand_place, expand_room}
pub use Rattle.machine.proofs.ExpandRoom.{WantsRoom, wants_stack, wants_output, expand_stops}
pub use Rattle.machine.proofs.Depth.{run_depth_same, run_depth_down, run_depth_short}
pub use Rattle.machine.proofs.Depth.{expand_tall, expand_depth_same, expand_depth_down, expand_depth_short}
