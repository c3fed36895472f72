-- The productions of a grammar by number: those below their count, and no others.
use mathlib.Core.Path.{◌≡◌, refl}
use mathlib.Core.List.{List, [], ◌∷◌}
use mathlib.Core.Option.{some, none-ne-some}
use Prim.Native.Nat.{ℕ, zero, suc, ◌<◌}
use native.Mathlib.Omega.{arith}
use lib.ListN.{length, get_elem?}
use Rattle.grammar.specs.Grammar.{Form, Grammar, Rule}

-- below the length of a list there is an element
pub element : {A : Type 0} (xs : List A) (i : ℕ) → i < length xs → (x : A) × (get_elem? xs i ≡ some x)
element [] i h = absurd (omega arith)
element (x ∷ xs) zero h = (x, refl)
element (x ∷ xs) (suc i) h = element xs i (omega arith)

pub inside : {A : Type 0} (xs : List A) (i : ℕ) {x : A} → get_elem? xs i ≡ some x → i < length xs
inside [] i {x} e = absurd (none-ne-some x e)
inside (x ∷ xs) zero e = omega arith
inside (x ∷ xs) (suc i) e = omega (arith, inside xs i e)

-- a number below the count has its production
pub rule_below : (g : Grammar) (p : ℕ) → p < length g.productions → (A : ℕ) × (β : Form) × Rule g p A β
rule_below g p h = let found = element g.productions p h in (found.0.left, found.0.right, record { at = found.1 })

pub below_rule : {g : Grammar} {p A : ℕ} {β : Form} → Rule g p A β → p < length g.productions
below_rule {g} {p} rule = inside g.productions p rule.at
