-- The greatest height along a derivation is determined by the list.
use mathlib.Core.Path.{◌≡◌, refl, ◌∙◌, ap, subst}
use mathlib.Core.List.{List, ◌++◌}
use Prim.Native.Nat.{ℕ, suc, max}
use lib.ListN.{length}
use Rattle.grammar.specs.Grammar.{Form, Grammar, Leftmost, done, shift, expand}
use Rattle.grammar.proofs.Leftmost.{rule_same}
use Rattle.machine.specs.Room.{peak}

module _ {g : Grammar} where
  -- the same derivation from an equal stack
  pub record Moved {α : Form} {ps w : List ℕ} (d : Leftmost g α ps w) (β : Form) : Type 0 where
    pub derivation : Leftmost g β ps w
    pub as_high : peak derivation ≡ peak d

  pub moved : {α β : Form} {ps w : List ℕ} → α ≡ β → (d : Leftmost g α ps w) → Moved d β
  moved e d = subst (λ (x : Form). Moved d x) e (record { derivation = d; as_high = refl })

  -- peak is determined by the list
  pub peak_of_list : {α : Form} {ps w w' : List ℕ} (d : Leftmost g α ps w) (e : Leftmost g α ps w') → peak d ≡ peak e
  unfolding peak
  peak_of_list done done = refl
  peak_of_list (shift {α = α} d) (shift e) = ap (λ (n : ℕ). max (suc (length α)) n) (peak_of_list d e)
  peak_of_list (expand {α = α} r d) (expand s e) =
      let m = moved (ap (λ (x : Form). x ++ α) (rule_same s r).1) e in
      ap (λ (n : ℕ). max (suc (length α)) n) (peak_of_list d m.derivation ∙ m.as_high)
