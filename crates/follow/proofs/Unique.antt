-- The lookaheads of a grammar are determined.
use mathlib.Core.Path.{◌≡◌, sym, ◌∙◌}
use mathlib.Core.List.{List}
use Prim.Native.Nat.{ℕ, ◌≤◌, ◌<◌}
use native.Mathlib.Decide.{dec_lt}
use native.Mathlib.Omega.{arith}
use lib.ListN.{length, get_or}
use lib.Seq.{ext_get_or}
use Rattle.grammar.specs.Grammar.{Grammar}
use Rattle.sets.proofs.Promise.{exactly_unique}
use Rattle.grammar.proofs.Rules.{rule_below}
use Rattle.follow.specs.Families.{Lookaheads}

pub lookaheads_unique : {g : Grammar} (xs ys : List ℕ) → Lookaheads g xs → Lookaheads g ys → xs ≡ ys
lookaheads_unique {g} xs ys s t = ext_get_or 0 xs ys (s.sized ∙ sym t.sized) (λ p h. go p (dec_lt p (length g.productions)))
  where
    go : (p : ℕ) → Dec (p < length g.productions) → get_or xs p 0 ≡ get_or ys p 0
    go p (yes below) = let (A, α, rule) = rule_below g p below in exactly_unique (get_or xs p 0) (get_or ys p 0) (s.each rule) (t.each rule)
    go p (no n) = let past : length g.productions ≤ p = omega arith in s.beyond p past ∙ sym (t.beyond p past)
