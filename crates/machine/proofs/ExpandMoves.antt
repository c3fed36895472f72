-- The moves and endings of the expansion as equations, one a case.
use Rattle.std.specs.Prelude.{Ok, Err}
use mathlib.Core.Path.{◌≡◌, refl}
use mathlib.Core.Bool.{Bool, true, false}
use mathlib.Core.List.{List, [], ◌∷◌, ◌++◌}
use Prim.Native.Nat.{ℕ, ◌≤◌, ◌<◌}
use borrow.Author.Tests.{lt-ltb, le-ltb, le-leb, lt-leb}
use lib.ListN.{length}
use Rattle.grammar.specs.declared.Symbol.TheVariants.{Token, Nonterminal}
use Rattle.grammar.specs.Grammar.{Form}
use Rattle.machine.specs.Expansion.{Course, ended, wrote, applied, writing, applying, expand_from}
use Rattle.machine.specs.declared.Obstacle.TheVariants.{Unfit, FullStack, FullOutput}

module _ (fits : ℕ → ℕ → Bool) (right : ℕ → Form) (room output : ℕ) where
  pub finished_is : (s : Course) → expand_from fits right room output [] [] s ≡ ended (Ok tt) s
  unfolding expand_from writing
  finished_is s = refl

  pub left_over_is : (p : ℕ) (ps : List ℕ) (s : Course) → expand_from fits right room output (p ∷ ps) [] s ≡ ended (Err Unfit) s
  unfolding expand_from writing
  left_over_is p ps s = refl

  pub too_short_is : (A : ℕ) (α : Form) (s : Course) → expand_from fits right room output [] (Nonterminal A ∷ α) s ≡ ended (Err Unfit) s
  unfolding expand_from writing
  too_short_is A α s = refl

  pub misfit_is : (p A : ℕ) (ps : List ℕ) (α : Form) (s : Course) → fits A p ≡ false → expand_from fits right room output (p ∷ ps) (Nonterminal A ∷ α) s ≡ ended (Err Unfit) s
  unfolding expand_from writing applying
  misfit_is p A ps α s f = rw (f, applying)

  pub no_stack_is : (p A : ℕ) (ps : List ℕ) (α : Form) (s : Course) → fits A p ≡ true → room < length (right p ++ α) → expand_from fits right room output (p ∷ ps) (Nonterminal A ∷ α) s ≡ ended (Err FullStack) s
  unfolding expand_from writing applying
  no_stack_is p A ps α s f h = rw (f, lt-leb (length (right p ++ α)) room h, applying)

  pub apply_is : (p A : ℕ) (ps : List ℕ) (α : Form) (s : Course) → fits A p ≡ true → length (right p ++ α) ≤ room → expand_from fits right room output (p ∷ ps) (Nonterminal A ∷ α) s ≡ expand_from fits right room output ps (right p ++ α) (applied (right p ++ α) s)
  unfolding expand_from writing applying
  apply_is p A ps α s f h = rw (f, le-leb (length (right p ++ α)) room h, applying)

  pub no_output_is : (t : ℕ) (ps : List ℕ) (α : Form) (s : Course) → output ≤ length s.written → expand_from fits right room output ps (Token t ∷ α) s ≡ ended (Err FullOutput) s
  unfolding expand_from writing
  no_output_is t [] α s h = rw (le-ltb (length s.written) output h, writing)
  no_output_is t (p ∷ ps) α s h = rw (le-ltb (length s.written) output h, writing)

  pub write_is : (t : ℕ) (ps : List ℕ) (α : Form) (s : Course) → length s.written < output → expand_from fits right room output ps (Token t ∷ α) s ≡ expand_from fits right room output ps α (wrote t s)
  unfolding expand_from writing
  write_is t [] α s h = rw (lt-ltb (length s.written) output h, writing)
  write_is t (p ∷ ps) α s h = rw (lt-ltb (length s.written) output h, writing)
