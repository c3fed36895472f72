-- The greatest height so far is only told: what the machine does goes by its stack, its list and its counts alone, and one that was higher
-- before tells that height, or the greatest since if that is more.
use mathlib.Core.Path.{◌≡◌, refl, sym, ap, subst}
use mathlib.Core.Bool.{Bool, true, false}
use mathlib.Core.List.{List, [], ◌∷◌, ◌++◌}
use mathlib.Core.Option.{Option, some, none}
use Prim.Native.Nat.{ℕ, zero, suc, ◌-◌, max}
use native.Mathlib.Omega.{arith}
use lib.Dec.{leb}
use lib.ListN.{length}
use Rattle.grammar.specs.declared.Symbol.TheVariants.{Token, Nonterminal}
use Rattle.grammar.specs.Grammar.{Form, Column, token, endmark}
use Rattle.machine.specs.Machine.{State, Offered, taken, stopped, final, popped, replaced, meets, used, facing, offer, run_from}
use Rattle.machine.specs.declared.Reason.{Reason}
use Rattle.machine.specs.declared.Reason.TheVariants.{FullList, FullStack, WantsToken, WantsRow}

-- the same stack, list and counts; the second was so high before
pub record Alike (before : ℕ) (s e : State) : Type 0 where
  pub stack : s.stack ≡ e.stack
  pub listed : s.listed ≡ e.listed
  pub matched : s.matched ≡ e.matched
  pub moves : s.moves ≡ e.moves
  pub height : e.height ≡ max before s.height

-- outcomes of the same kind, in such states
pub data AlikeEnds (before : ℕ) : Offered → Offered → Type 0 where
  both_taken : {s e : State} → Alike before s e → AlikeEnds before (taken s) (taken e)
  both_stopped : {r : Reason} {s e : State} → Alike before s e → AlikeEnds before (stopped r s) (stopped r e)

pub alike_final : {before : ℕ} {o q : Offered} → AlikeEnds before o q → Alike before (final o) (final q)
unfolding final
alike_final (both_taken a) = a
alike_final (both_stopped a) = a

popped_alike : (α : Form) {before : ℕ} {s e : State} → Alike before s e → Alike before (popped α s) (popped α e)
unfolding popped
popped_alike α a =
    record { stack = refl; listed = a.listed; matched = ap suc a.matched; moves = ap suc a.moves; height = a.height }

replaced_alike : (p : ℕ) (β : Form) {before : ℕ} {s e : State} → Alike before s e → Alike before (replaced p β s) (replaced p β e)
unfolding replaced
replaced_alike p β a =
    record {
      stack = refl;
      listed = ap (λ (l : List ℕ). l ++ (p ∷ [])) a.listed;
      matched = a.matched;
      moves = ap suc a.moves;
      height = omega (arith, a.height);
    }

module _ (right : ℕ → Form) (cell : ℕ → Column → Option ℕ) (room cells : ℕ) {before : ℕ} where
  used_alike : (next : State → Offered) (p : ℕ) (α : Form) {s e : State}
      → ((x y : State) → Alike before x y → AlikeEnds before (next x) (next y))
      → Alike before s e
      → AlikeEnds before (used right cell room cells next p α s) (used right cell room cells next p α e)
  unfolding used
  used_alike next p α {s} {e} on a = go (leb (length (right p ++ α)) room)
    where
      go : (b : Bool)
          → AlikeEnds before
          (elim b [ true ↦ next (replaced p (right p ++ α) s) | false ↦ stopped FullStack s ])
          (elim b [ true ↦ next (replaced p (right p ++ α) e) | false ↦ stopped FullStack e ])
      go true = on _ _ (replaced_alike p (right p ++ α) a)
      go false = both_stopped a

  facing_alike : (f g : ℕ → Form → Offered) (c : Column) {s e : State} (σ : Form)
      → Alike before s e
      → ((p : ℕ) (α : Form) → AlikeEnds before (f p α) (g p α))
      → AlikeEnds before (facing right cell room cells f c s σ) (facing right cell room cells g c e σ)
  unfolding facing
  facing_alike f g (token t) [] a on = both_stopped a
  facing_alike f g endmark [] a on = both_taken a
  facing_alike f g c {s} {e} (Token t ∷ α) a on = go (meets c t)
    where
      go : (b : Bool)
          → AlikeEnds before
          (elim b [ true ↦ taken (popped α s) | false ↦ stopped (WantsToken t) s ])
          (elim b [ true ↦ taken (popped α e) | false ↦ stopped (WantsToken t) e ])
      go true = both_taken (popped_alike α a)
      go false = both_stopped a
  facing_alike f g c {s} {e} (Nonterminal A ∷ α) a on = go (cell A c)
    where
      go : (o : Option ℕ)
          → AlikeEnds before
          (elim o [ none ↦ stopped (WantsRow A) s | some p ↦ f p α ])
          (elim o [ none ↦ stopped (WantsRow A) e | some p ↦ g p α ])
      go none = both_stopped a
      go (some p) = on p α

  pub offer_alike : (l : ℕ) (c : Column) {s e : State}
      → Alike before s e
      → AlikeEnds before (offer right cell room cells l c s) (offer right cell room cells l c e)
  unfolding offer
  offer_alike zero c {s} {e} a =
      let full : State → ℕ → Form → Offered = λ x p α. stopped FullList x in
      subst (λ (σ : Form). AlikeEnds before (facing right cell room cells (full s) c s σ) (offer right cell room cells zero c e)) (sym a.stack)
      (facing_alike (full s) (full e) c e.stack a (λ p α. both_stopped a))
  offer_alike (suc l) c {s} {e} a =
      let on : State → ℕ → Form → Offered = λ x p α. used right cell room cells (offer right cell room cells l c) p α x in
      subst (λ (σ : Form). AlikeEnds before (facing right cell room cells (on s) c s σ) (offer right cell room cells (suc l) c e)) (sym a.stack)
      (facing_alike (on s) (on e) c e.stack a (λ p α. used_alike (offer right cell room cells l c) p α (λ x y b. offer_alike l c b) a))

  -- with the list cells that are left
  offered_alike : (c : Column) {s e : State}
      → Alike before s e
      → AlikeEnds before
      (offer right cell room cells (cells - length s.listed) c s)
      (offer right cell room cells (cells - length e.listed) c e)
  offered_alike c {s} {e} a =
      let o : Offered = offer right cell room cells (cells - length e.listed) c e in
      subst (λ (l : List ℕ). AlikeEnds before (offer right cell room cells (cells - length l) c s) o) (sym a.listed)
      (offer_alike (cells - length e.listed) c a)

  pub run_alike : (w : List ℕ) {s e : State}
      → Alike before s e
      → AlikeEnds before (run_from right cell room cells w s) (run_from right cell room cells w e)
  unfolding run_from
  run_alike [] a = offered_alike endmark a
  run_alike (t ∷ w) a = go (offered_alike (token t) a) (λ x y b. run_alike w b)
    where
      go : {o q : Offered}
          → AlikeEnds before o q
          → ((x y : State) → Alike before x y → AlikeEnds before (run_from right cell room cells w x) (run_from right cell room cells w y))
          → AlikeEnds before
          (elim o [ taken x ↦ run_from right cell room cells w x | stopped r x ↦ stopped r x ])
          (elim q [ taken x ↦ run_from right cell room cells w x | stopped r x ↦ stopped r x ])
      go (both_taken b) on = on _ _ b
      go (both_stopped b) on = both_stopped b
