-- `cutting::refused` meets its contract: there is no expected set.
use mathlib.Core.Path.{◌∙◌, ap, ap₂}
use Prim.Native.Nat.{ℕ}
use Rattle.sets.specs.declared.Set.{Set}
use Rattle.sets.proofs.Promise.{none_is, number_unique}
use Rattle.answers.specs.Answers.{stop}
use Rattle.answers.specs.Refusals.{no_token, room}
use Rattle.pieces.specs.Cut.{answer_of}
use Rattle.pieces.proofs.cutting.refused.Goals as goal

pub returns-in-NoToken : goal.returns-in-NoToken
unfolding answer_of
returns-in-NoToken c =
    rw c.in-NoToken.is (c.stop.ensures ∙ ap (stop no_token c.in-NoToken.place 0 c.args.tokens) (number_unique (none_is c.none.ensures)))

pub returns-in-NoRoom : goal.returns-in-NoRoom
unfolding answer_of
returns-in-NoRoom c =
    rw c.in-NoRoom.is
    (c.stop-in-NoRoom.ensures
    ∙ ap₂ (λ (d : ℕ) (s : Set). stop room c.in-NoRoom.place d c.args.tokens s) c.detail.ensures
    (number_unique (none_is c.none-in-NoRoom.ensures)))
