-- The offer to the state that the buffers spell.
use Rattle.offer.proofs.Resumed.{clamped_ready, offer_resumed}
use Rattle.offer.proofs.offering.offer_on.Goals as goal

pub offer_at-requires : goal.offer_at-requires
offer_at-requires c = rw c.clamp-from.ensures (clamped_ready _ _ _)

pub returns : goal.returns
returns c =
    offer_resumed _ c.args.index.now _ _ c.column_ahead-ahead.ensures _ c.clamp-from.ensures (rw (c.new-rules.ensures.book, c.new-rules.ensures.places, c.new-rules.ensures.outline) at c.offer_at.ensures)
