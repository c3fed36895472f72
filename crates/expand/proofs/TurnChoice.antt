-- The next turn of an expansion from the symbol on top, the next production and the room.
use Rattle.std.specs.Prelude.{⊤, Option, Some, None, Result, Err}
use mathlib.Core.Path.{◌≡◌, refl, ◌∙◌, ap}
use mathlib.Core.Bool.{Bool, true, false}
use mathlib.Core.List.{List, [], ◌∷◌, ◌++◌}
use Prim.Native.Nat.{ℕ, ◌≤◌, ◌<◌}
use lib.ListN.{length}
use Rattle.grammar.specs.Grammar.{Form}
use Rattle.grammar.specs.declared.Symbol.TheVariants.{Token, Nonterminal}
use Rattle.grammar.specs.declared.Symbol.{Symbol}
use Rattle.sets.specs.Calls.{Decides}
use Rattle.book.specs.declared.Index.{Index}
use Rattle.book.specs.Columns.{grammar_in, Lefts, IsOf}
use Rattle.book.proofs.Promise.{is_of_rule, rule_is_of}
use Rattle.machine.specs.Room.{is_of}
use Rattle.machine.specs.declared.Obstacle.{Obstacle}
use Rattle.machine.specs.declared.Obstacle.TheVariants.{Unfit, FullStack, FullOutput}
use Rattle.machine.proofs.Promise.{fits_rule, rule_fits}
use Rattle.stack.specs.Ahead.{ahead_in}
use Rattle.stack.proofs.Promise.{next_first, end_none}
use Rattle.expand.specs.Turns.{emptied, Turns}
use Rattle.expand.specs.declared.Turn.TheVariants.{Write, Apply, Close}

-- what the column of left sides decides is whether the machine takes the production for one of A
pub is_of_fits : (book : List ℕ) (index : Index) {lefts : List ℕ} (A p : ℕ) (r : Bool)
    → Lefts book index lefts
    → Decides r (IsOf lefts index.outline A p)
    → is_of (grammar_in book index) A p ≡ r
is_of_fits book index A p true column h = rule_fits (is_of_rule book index.places index.outline column h).1
is_of_fits book index A p false column h = go (is_of (grammar_in book index) A p) refl
  where
    go : (x : Bool) → is_of (grammar_in book index) A p ≡ x → x ≡ false
    go true e = absurd (h (rule_is_of book index.places index.outline column (fits_rule p A e)))
    go false e = refl

module _ {fits : ℕ → ℕ → Bool} {right : ℕ → Form} {room output : ℕ} {ps : List ℕ} {α : Form} {written : ℕ} where
  pub turn_bottom : (a : Option ℕ) {f : Result ⊤ Obstacle} → a ≡ ahead_in ps → α ≡ [] → f ≡ emptied a → Turns fits right room output ps α written (Close f)
  turn_bottom (Some p) ahead e g = let (v, first) = next_first ps ahead refl in rw g (Turns.left_over e first)
  turn_bottom None ahead e g = rw g (Turns.finished e (end_none ps ahead refl))

  module _ {x : Symbol} {β : Form} (stands : α ≡ x ∷ β) where
    pub turn_write : {t : ℕ} → x ≡ Token t → written < output → Turns fits right room output ps α written (Write t)
    turn_write e h = Turns.writes (stands ∙ ap (λ (y : Symbol). y ∷ β) e) h

    pub turn_no_output : {t : ℕ} → x ≡ Token t → output ≤ written → Turns fits right room output ps α written (Close (Err FullOutput))
    turn_no_output e h = Turns.no_output (stands ∙ ap (λ (y : Symbol). y ∷ β) e) h

    module _ {A : ℕ} {a : Option ℕ} (name : x ≡ Nonterminal A) (ahead : a ≡ ahead_in ps) where
      pub turn_too_short : a ≡ None → Turns fits right room output ps α written (Close (Err Unfit))
      turn_too_short e = Turns.too_short (stands ∙ ap (λ (y : Symbol). y ∷ β) name) (end_none ps ahead e)

      pub turn_misfit : {p : ℕ} → a ≡ Some p → fits A p ≡ false → Turns fits right room output ps α written (Close (Err Unfit))
      turn_misfit e f = let (v, first) = next_first ps ahead e in Turns.misfit (stands ∙ ap (λ (y : Symbol). y ∷ β) name) first f

      pub turn_no_stack : {p : ℕ} → a ≡ Some p → fits A p ≡ true → room < length (right p ++ β) → Turns fits right room output ps α written (Close (Err FullStack))
      turn_no_stack e f h = let (v, first) = next_first ps ahead e in Turns.no_stack (stands ∙ ap (λ (y : Symbol). y ∷ β) name) first f h

      pub turn_apply : {p : ℕ} → a ≡ Some p → fits A p ≡ true → length (right p ++ β) ≤ room → Turns fits right room output ps α written (Apply p)
      turn_apply e f h = let (v, first) = next_first ps ahead e in Turns.applies (stands ∙ ap (λ (y : Symbol). y ∷ β) name) first f h
