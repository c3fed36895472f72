-- What any run has spent: one step for each production listed and each token matched, and no more than there is room for.
use mathlib.Core.Path.{◌≡◌, refl}
use mathlib.Core.Bool.{Bool, true, false}
use mathlib.Core.List.{List, [], ◌∷◌}
use mathlib.Core.Option.{Option, some, none}
use Prim.Native.Nat.{ℕ, zero, suc, ◌+◌, ◌-◌, ◌≤◌, ◌<◌}
use native.Mathlib.Omega.{arith}
use lib.Dec.{T, ltb, ltb→lt}
use lib.ListN.{length, drop, length-append}
use Rattle.grammar.specs.Grammar.{Column, token, endmark}
use Rattle.slr.specs.Actions.{Action, shift, reduce, accept}
use Rattle.slr.specs.RoomMachine.{Setting, Progress, SlrReason, full_list, full_stack, wants, SlrOffered, taken, stopped}
use Rattle.slr.specs.RoomMachine.{slr_begun, shifted, reduced, shifting, uncovering, acting, slr_facing, moving, slr_offer, slr_run_from, slr_run}
use Rattle.slr.specs.Ends.{slr_final, SlrSpent}

module _ (m : Setting) where
  -- what holds of every way a column is met holds of the way it is met
  module _ (apply : ℕ → ℕ → List ℕ → SlrOffered) (c : Column) (s : Progress) (Q : SlrOffered → Type 0)
      (stops : (r : SlrReason) → Q (stopped r s))
      (accepts : Q (taken s))
      (shifts : (j : ℕ) → suc (length s.below) < m.room → Q (taken (shifted j s)))
      (reduces : (p j : ℕ) (rest : List ℕ) → Q (apply p j rest)) where
    shifting_any : (j : ℕ) → Q (shifting m j s)
    unfolding shifting
    shifting_any j = go (ltb (suc (length s.below)) m.room) (ltb→lt (suc (length s.below)) m.room)
      where
        go : (b : Bool)
            → (T b → suc (length s.below) < m.room)
            → Q (elim b [ true ↦ taken (shifted j s) | false ↦ stopped full_stack s ])
        go true h = shifts j (h tt)
        go false h = stops full_stack

    uncovering_any : (p : ℕ) (rest : List ℕ) → Q (uncovering m (apply p) p s rest)
    unfolding uncovering
    uncovering_any p [] = stops (wants s.top)
    uncovering_any p (k ∷ rest) = go (m.move k (m.left p))
      where
        go : (o : Option ℕ) → Q (elim o [ none ↦ stopped (wants s.top) s | some j ↦ apply p j (k ∷ rest) ])
        go none = stops (wants s.top)
        go (some j) = reduces p j (k ∷ rest)

    acting_any : (a : Action) → Q (acting m apply s a)
    unfolding acting
    acting_any accept = accepts
    acting_any (shift j) = shifting_any j
    acting_any (reduce p) = uncovering_any p (drop (m.size p) (s.top ∷ s.below))

    facing_any : Q (slr_facing m apply c s)
    unfolding slr_facing
    facing_any = go (m.cell s.top c)
      where
        go : (o : Option Action) → Q (elim o [ none ↦ stopped (wants s.top) s | some a ↦ acting m apply s a ])
        go none = stops (wants s.top)
        go (some a) = acting_any a

  shifted_spent : (j : ℕ) (s : Progress) → suc (length s.below) < m.room → SlrSpent m s → SlrSpent m (shifted j s)
  unfolding shifted
  shifted_spent j s h spent =
      record {
        steps = omega (arith, spent.steps);
        listed = spent.listed;
        held = omega arith;
        height = omega (arith, spent.height);
      }

  reduced_spent : (p j : ℕ) (rest : List ℕ) (s : Progress) → length rest < m.room
      → length s.listed < m.cells
      → SlrSpent m s
      → SlrSpent m (reduced p j rest s)
  unfolding reduced
  reduced_spent p j rest s h few spent =
      record {
        steps = omega (arith, spent.steps, length-append s.listed (p ∷ []));
        listed = omega (arith, length-append s.listed (p ∷ []));
        held = omega arith;
        height = omega (arith, spent.height);
      }

  reduced_listed : (p j : ℕ) (rest : List ℕ) (s : Progress)
      → length (reduced p j rest s).listed ≡ suc (length s.listed)
  unfolding reduced
  reduced_listed p j rest s = omega (arith, length-append s.listed (p ∷ []))

  moving_spent : (next : Progress → SlrOffered) (s : Progress) (p j : ℕ) (rest : List ℕ) → SlrSpent m s
      → (length rest < m.room → SlrSpent m (slr_final (next (reduced p j rest s))))
      → SlrSpent m (slr_final (moving m next s p j rest))
  unfolding moving slr_final
  moving_spent next s p j rest spent on = go (ltb (length rest) m.room) (λ t. on (ltb→lt (length rest) m.room t))
    where
      go : (b : Bool) → (T b → SlrSpent m (slr_final (next (reduced p j rest s))))
          → SlrSpent m (slr_final (elim b [ true ↦ next (reduced p j rest s) | false ↦ stopped full_stack s ]))
      go true h = h tt
      go false h = spent

  offer_spent : (l : ℕ) (c : Column) (s : Progress)
      → length s.listed + l ≤ m.cells
      → SlrSpent m s
      → SlrSpent m (slr_final (slr_offer m l c s))
  unfolding slr_offer slr_final
  offer_spent zero c s few spent =
      facing_any (λ p j rest. stopped full_list s) c s (λ o. SlrSpent m (slr_final o)) (λ r. spent) spent
      (λ j h. shifted_spent j s h spent) (λ p j rest. spent)
  offer_spent (suc l) c s few spent =
      facing_any (moving m (slr_offer m l c) s) c s (λ o. SlrSpent m (slr_final o)) (λ r. spent) spent
      (λ j h. shifted_spent j s h spent)
      (λ p j rest. moving_spent (slr_offer m l c) s p j rest spent (λ h. offer_spent l c (reduced p j rest s) (omega (arith, reduced_listed p j rest s)) (reduced_spent p j rest s h (omega arith) spent)))

  run_spent : (w : List ℕ) (s : Progress) → SlrSpent m s → SlrSpent m (slr_final (slr_run_from m w s))
  unfolding slr_run_from slr_final
  run_spent [] s spent = offer_spent (m.cells - length s.listed) endmark s (omega (arith, spent.listed)) spent
  run_spent (t ∷ w) s spent =
      go (slr_offer m (m.cells - length s.listed) (token t) s)
      (offer_spent (m.cells - length s.listed) (token t) s (omega (arith, spent.listed)) spent)
      (λ s' h. run_spent w s' h)
    where
      go : (o : SlrOffered)
          → SlrSpent m (slr_final o)
          → ((s' : Progress) → SlrSpent m s' → SlrSpent m (slr_final (slr_run_from m w s')))
          → SlrSpent m (slr_final (elim o [ taken s' ↦ slr_run_from m w s' | stopped r s' ↦ stopped r s' ]))
      go (taken s') h on = on s' h
      go (stopped r s') h on = h

  -- whatever the table
  pub slr_run_spent : (w : List ℕ) → SlrSpent m (slr_final (slr_run m w))
  unfolding slr_begun
  slr_run_spent w =
      run_spent w slr_begun (record { steps = refl; listed = omega arith; held = omega arith; height = omega arith })
