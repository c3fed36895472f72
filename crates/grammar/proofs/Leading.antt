-- The numbers of leading symbols that can vanish, of forms of the house grammar and of grammar V.
use mathlib.Core.Path.{refl}
use mathlib.Core.List.{[], ◌∷◌}
use Prim.Native.Nat.{ℕ}
use Rattle.grammar.specs.declared.Symbol.TheVariants.{Nonterminal}
use Rattle.grammar.specs.Grammar.{Grammar, empty, Rule, First, vanishes}
use Rattle.grammar.specs.House.{house}
use Rattle.grammar.specs.Leading.{leading, LeadingNumbers}
use Rattle.grammar.proofs.Derivation.{derives_rule}
use Rattle.grammar.proofs.Vanishing.{token_stays, vanishes_none, vanishes_more, vanishes_ends}

-- a nonterminal with an empty right side can vanish
rule_vanishes : {g : Grammar} {p A : ℕ} → Rule g p A [] → First g (Nonterminal A ∷ []) empty
rule_vanishes r = vanishes (derives_rule r)

house_two : First house (Nonterminal 2 ∷ []) empty
unfolding house
house_two = rule_vanishes {p = 3} (record { at = refl })

house_three : First house (Nonterminal 3 ∷ []) empty
unfolding house
house_three = rule_vanishes {p = 5} (record { at = refl })

leading_one : First leading (Nonterminal 1 ∷ []) empty
unfolding leading
leading_one = rule_vanishes {p = 2} (record { at = refl })

leading_two : First leading (Nonterminal 2 ∷ []) empty
unfolding leading
leading_two = rule_vanishes {p = 4} (record { at = refl })

pub leading_numbers : LeadingNumbers
leading_numbers =
    record {
      all = vanishes_more house_two (vanishes_more house_three vanishes_none);
      two = vanishes_more house_two (vanishes_more house_three (vanishes_ends (token_stays 0)));
      one = vanishes_more house_two (vanishes_ends (token_stays 0));
      of_right_side = vanishes_more leading_one (vanishes_more leading_two (vanishes_ends (token_stays 2)));
    }
