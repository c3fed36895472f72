-- A test that computes for a grammar to be well formed.
use mathlib.Core.Bool.{Bool, true, ◌&&◌}
use mathlib.Core.List.{[], ◌∷◌}
use Prim.Native.Nat.{ℕ}
use lib.Dec.{T, ltb, ltb→lt}
use Rattle.grammar.specs.declared.Symbol.TheVariants.{Token, Nonterminal}
use Rattle.grammar.specs.Grammar.{Form, Production, Grammar, Every, nothing, each, Rule, Known, known_token, known_nonterminal, WellFormed}
use Rattle.grammar.proofs.Tests.{and_left, and_right, all, all_every}
use Rattle.grammar.proofs.Every.{every_at}

module _ (g : Grammar) where
  unfoldable pub known_test : Form → Bool
  known_test [] = true
  known_test (Token t ∷ α) = ltb t g.tokens && known_test α
  known_test (Nonterminal A ∷ α) = ltb A g.nonterminals && known_test α

  known_tested : (α : Form) → T (known_test α) → Every (Known g) α
  unfolding known_test
  known_tested [] h = nothing
  known_tested (Token t ∷ α) h =
      each (known_token (ltb→lt t g.tokens (and_left (ltb t g.tokens) (known_test α) h))) (known_tested α (and_right (ltb t g.tokens) (known_test α) h))
  known_tested (Nonterminal A ∷ α) h =
      each (known_nonterminal (ltb→lt A g.nonterminals (and_left (ltb A g.nonterminals) (known_test α) h))) (known_tested α (and_right (ltb A g.nonterminals) (known_test α) h))

  unfoldable pub rule_test : Production → Bool
  rule_test r = ltb r.left g.nonterminals && known_test r.right

  unfoldable pub form_test : Bool
  unfolding all known_test rule_test
  form_test = ltb g.start g.nonterminals && all rule_test g.productions

  pub form_tested : T form_test → WellFormed g
  unfolding form_test
  form_tested t =
      record {
        start_known = ltb→lt g.start g.nonterminals (and_left (ltb g.start g.nonterminals) (all rule_test g.productions) t);
        left_known = λ {p} {A} {β} r. ltb→lt A g.nonterminals (and_left (ltb A g.nonterminals) (known_test β) (tested p A β r));
        right_known = λ {p} {A} {β} r. known_tested β (and_right (ltb A g.nonterminals) (known_test β) (tested p A β r));
      }
    where
      tested : (p A : ℕ) (β : Form) → Rule g p A β → T (rule_test (record { left = A; right = β }))
      tested p A β r = every_at (all_every rule_test g.productions (and_right (ltb g.start g.nonterminals) (all rule_test g.productions) t)) p _ r.at
