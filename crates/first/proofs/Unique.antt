-- The sets of a grammar are determined.
use mathlib.Core.Path.{◌≡◌, sym, ◌∙◌}
use mathlib.Core.List.{List}
use Prim.Native.Nat.{ℕ, ◌≤◌, ◌<◌}
use native.Mathlib.Decide.{dec_lt}
use native.Mathlib.Omega.{arith}
use lib.ListN.{get_or}
use lib.Seq.{ext_get_or}
use Rattle.grammar.specs.Grammar.{Grammar, Member}
use Rattle.sets.proofs.Promise.{exactly_unique}
use Rattle.first.specs.Numbers.{Sets, FamilyOf}

module _ {g : Grammar} {P : ℕ → Member → Type 0} where
  pub sets_unique : (xs ys : List ℕ) → Sets g P xs → Sets g P ys → xs ≡ ys
  sets_unique xs ys s t =
      ext_get_or 0 xs ys (s.size ∙ sym t.size)
      (λ A h. let a : A < g.nonterminals = omega (arith, s.size) in exactly_unique (get_or xs A 0) (get_or ys A 0) (s.each A a) (t.each A a))

  pub family_unique : (xs ys : List ℕ) → FamilyOf g P xs → FamilyOf g P ys → xs ≡ ys
  family_unique xs ys s t = ext_get_or 0 xs ys (s.sized ∙ sym t.sized) (λ A h. go A (dec_lt A g.nonterminals))
    where
      go : (A : ℕ) → Dec (A < g.nonterminals) → get_or xs A 0 ≡ get_or ys A 0
      go A (yes a) = exactly_unique (get_or xs A 0) (get_or ys A 0) (s.each A a) (t.each A a)
      go A (no n) = let past : g.nonterminals ≤ A = omega arith in s.beyond A past ∙ sym (t.beyond A past)
