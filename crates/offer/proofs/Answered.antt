-- The answer to each way in which a run ends, and what its number says of that.
use mathlib.Core.Path.{◌≡◌, refl}
use mathlib.Core.Logic.{◌⊎◌, inl, inr}
use native.Mathlib.Omega.{arith}
use Rattle.sets.specs.declared.Set.{Set}
use Rattle.answers.specs.declared.Answer.{Answer}
use Rattle.answers.specs.Answers.{done, stop, at_depth}
use Rattle.answers.specs.Refusals.{room, syntax, stack_room, list_room}
use Rattle.machine.specs.Machine.{State, Offered, taken, stopped, final}
use Rattle.machine.specs.declared.Reason.{Reason}
use Rattle.machine.specs.declared.Reason.TheVariants.{FullList, FullStack, WantsEnd, WantsToken, WantsRow}
use Rattle.machine.specs.Stopping.{Syntax, wanted_end, wanted_token, wanted_row, Short, short_list, short_stack}
use Rattle.offer.specs.Stops.{answered}

-- how a run ended, and its answer, the depth included
pub data Told (e : Reason → Set) : Offered → Answer → Type 0 where
  served : (s : State) → Told e (taken s) (at_depth s.height (done s.moves))
  short_of_list : (s : State) → Told e (stopped FullList s) (at_depth s.height (stop room s.matched list_room s.moves (e FullList)))
  short_of_stack : (s : State) → Told e (stopped FullStack s) (at_depth s.height (stop room s.matched stack_room s.moves (e FullStack)))
  blocked : {r : Reason} (s : State) → Syntax r → Told e (stopped r s) (at_depth s.height (stop syntax s.matched 0 s.moves (e r)))

pub told : (e : Reason → Set) (o : Offered) → Told e o (at_depth (final o).height (answered e o))
unfolding answered final
told e (taken s) = served s
told e (stopped FullList s) = short_of_list s
told e (stopped FullStack s) = short_of_stack s
told e (stopped WantsEnd s) = blocked s wanted_end
told e (stopped (WantsToken t) s) = blocked s wanted_token
told e (stopped (WantsRow A) s) = blocked s wanted_row

module _ {e : Reason → Set} where
  pub told_done : {o : Offered} {a : Answer} → Told e o a → a.number ≡ 0 → (s : State) × (o ≡ taken s)
  unfolding stop at_depth
  told_done (served s) h = (s, refl)
  told_done (short_of_list s) h = absurd (omega arith)
  told_done (short_of_stack s) h = absurd (omega arith)
  told_done (blocked s k) h = absurd (omega arith)

  pub told_room : {o : Offered} {a : Answer} → Told e o a → a.number ≡ room → (r : Reason) × (s : State) × Short r × (o ≡ stopped r s)
  unfolding done stop at_depth
  told_room (served s) h = absurd (omega arith)
  told_room (short_of_list s) h = (_, s, short_list, refl)
  told_room (short_of_stack s) h = (_, s, short_stack, refl)
  told_room (blocked s k) h = absurd (omega arith)

  pub told_syntax : {o : Offered} {a : Answer} → Told e o a → a.number ≡ syntax → (r : Reason) × (s : State) × Syntax r × (o ≡ stopped r s) × (a.place ≡ s.matched)
  unfolding done stop at_depth
  told_syntax (served s) h = absurd (omega arith)
  told_syntax (short_of_list s) h = absurd (omega arith)
  told_syntax (short_of_stack s) h = absurd (omega arith)
  told_syntax (blocked {r = r} s k) h = (r, s, k, refl, refl)

  pub told_numbers : {o : Offered} {a : Answer} → Told e o a → (a.number ≡ 0) ⊎ ((a.number ≡ room) ⊎ (a.number ≡ syntax))
  unfolding done stop at_depth
  told_numbers (served s) = inl refl
  told_numbers (short_of_list s) = inr (inl refl)
  told_numbers (short_of_stack s) = inr (inl refl)
  told_numbers (blocked s k) = inr (inr refl)

  pub told_steps : {o : Offered} {a : Answer} → Told e o a → a.steps ≡ (final o).moves
  unfolding done stop final at_depth
  told_steps (served s) = refl
  told_steps (short_of_list s) = refl
  told_steps (short_of_stack s) = refl
  told_steps (blocked s k) = refl

  pub told_depth : {o : Offered} {a : Answer} → Told e o a → a.depth ≡ (final o).height
  unfolding final at_depth
  told_depth (served s) = refl
  told_depth (short_of_list s) = refl
  told_depth (short_of_stack s) = refl
  told_depth (blocked s k) = refl

pub short_room : (e : Reason → Set) {r : Reason} (s : State) → Short r → (answered e (stopped r s)).number ≡ room
unfolding answered stop
short_room e s short_list = refl
short_room e s short_stack = refl
