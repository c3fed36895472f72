-- A plain grammar, so that the profile is not empty, and the lowest production by which house book H breaks it.
use mathlib.Core.Path.{◌≡◌, refl, sym, subst}
use mathlib.Core.List.{[], ◌∷◌}
use mathlib.Core.Option.{none-ne-some}
use Prim.Native.Nat.{ℕ, zero, suc, ◌<◌}
use native.Mathlib.Omega.{arith}
use Rattle.grammar.specs.declared.Symbol.TheVariants.{Token, Nonterminal}
use Rattle.grammar.specs.Grammar.{Form, Production, Grammar, Rule, Conflict}
use Rattle.grammar.specs.House.{house}
use Rattle.grammar.specs.Plain.{Breaks, bare, named, again, Plain, LowestBreak}
use Rattle.grammar.proofs.Leftmost.{rule_same}
use Rattle.grammar.proofs.Plain.{plain_no_conflict, lowest_break_not_plain}

abbrev production : ℕ → Form → Production
production A β = record { left = A; right = β }

-- book Q of request W14: S → a B, B → b, B → c S
unfoldable pub plain_grammar : Grammar
plain_grammar =
    record {
      tokens = 3;
      nonterminals = 2;
      start = 0;
      productions =
          production 0 (Token 0 ∷ Nonterminal 1 ∷ [])
          ∷ production 1 (Token 1 ∷ [])
          ∷ production 1 (Token 2 ∷ Nonterminal 0 ∷ [])
          ∷ [];
    }

-- its productions, by number, left side, first token and the rest
data Listed : ℕ → ℕ → ℕ → Form → Type 0 where
  listed_0 : Listed 0 0 0 (Nonterminal 1 ∷ [])
  listed_1 : Listed 1 1 1 []
  listed_2 : Listed 2 1 2 (Nonterminal 0 ∷ [])

-- a right side is one of these
record Headed (p A : ℕ) (β : Form) : Type 0 where
  head : ℕ
  rest : Form
  whole : β ≡ Token head ∷ rest
  among : Listed p A head rest

found : {p A B t : ℕ} {β γ : Form} → Listed p A t γ → Rule plain_grammar p A (Token t ∷ γ) → Rule plain_grammar p B β → Headed p B β
found {p} {A} {t = t} {γ = γ} l r s =
    let (left, right) = rule_same r s in
    record { head = t; rest = γ; whole = sym right; among = subst (λ (C : ℕ). Listed p C t γ) left l }

rules : (p : ℕ) {A : ℕ} {β : Form} → Rule plain_grammar p A β → Headed p A β
unfolding plain_grammar
rules zero r = found listed_0 (record { at = refl }) r
rules (suc zero) r = found listed_1 (record { at = refl }) r
rules (suc (suc zero)) r = found listed_2 (record { at = refl }) r
rules (suc (suc (suc p))) {A} {β} r = absurd (none-ne-some (production A β) r.at)

-- left side and first token tell the number
once : {p q A t : ℕ} {γ δ : Form} → Listed p A t γ → Listed q A t δ → p ≡ q
once listed_0 listed_0 = refl
once listed_1 listed_1 = refl
once listed_2 listed_2 = refl

pub plain_grammar_lem : Plain plain_grammar
plain_grammar_lem =
    record {
      headed = λ {p} {A} {β} r. let h = rules p r in (h.head, h.rest, h.whole);
      apart = λ {p} {q} {A} {t} r s. same (rules p r) (rules q s);
    }
  where
    same : {p q A t : ℕ} {α β : Form} → Headed p A (Token t ∷ α) → Headed q A (Token t ∷ β) → p ≡ q
    same {p} {A = A} {t = t} h k =
        let one : h.head ≡ k.head = cc in
        once (subst (λ (i : ℕ). Listed p A i h.rest) one h.among) k.among

pub plain_grammar_no_conflict : ¬ Conflict plain_grammar
plain_grammar_no_conflict = plain_no_conflict plain_grammar_lem

-- the productions 0 to 2 of H start with a token, and their left sides are 0 to 2
record Opening (q A : ℕ) (β : Form) : Type 0 where
  left : A ≡ q
  head : ℕ
  rest : Form
  whole : β ≡ Token head ∷ rest

opened : {q B t : ℕ} {β γ : Form} → Rule house q q (Token t ∷ γ) → Rule house q B β → Opening q B β
opened {t = t} {γ = γ} r s = let (left, right) = rule_same s r in record { left = left; head = t; rest = γ; whole = right }

openings : (q : ℕ) {A : ℕ} {β : Form} → q < 3 → Rule house q A β → Opening q A β
unfolding house
openings zero h r = opened (record { at = refl }) r
openings (suc zero) h r = opened (record { at = refl }) r
openings (suc (suc zero)) h r = opened (record { at = refl }) r
openings (suc (suc (suc q))) h r = absurd (omega arith)

house_earlier : (q : ℕ) → q < 3 → ¬ Breaks house q
house_earlier q h (bare r) = let o = openings q h r in let e = o.whole in let bad : ◌≡◌ {A = ℕ} 0 1 = cc in omega arith
house_earlier q h (named r) = let o = openings q h r in let e = o.whole in let bad : ◌≡◌ {A = ℕ} 0 1 = cc in omega arith
house_earlier q h (again {q = i} below r s) = omega (arith, (openings i (omega arith) r).left, (openings q h s).left)

-- H breaks the profile, by production 3 first: its right side is empty
pub house_lowest_break : LowestBreak house 3
unfolding house
house_lowest_break = record { breaks = bare {A = 2} (record { at = refl }); earlier = house_earlier }

pub house_not_plain : ¬ Plain house
house_not_plain = lowest_break_not_plain house_lowest_break
