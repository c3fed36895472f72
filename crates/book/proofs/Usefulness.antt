-- From the sides of the productions, as sets, the two closures come to the productive and to the useful nonterminals.
use mathlib.Core.Path.{◌≡◌, refl, sym, ◌∙◌, subst}
use mathlib.Core.Bool.{true, false, false≢true, true≢false}
use mathlib.Core.List.{List, [], ◌∷◌}
use mathlib.Core.Option.{some}
use Rattle.std.specs.Prelude.{Option, Some, None}
use Prim.Native.Nat.{ℕ, zero, suc, ◌<◌}
use native.Mathlib.Omega.{arith}
use lib.ListN.{get_elem?}
use Rattle.grammar.specs.declared.Symbol.{Symbol}
use Rattle.grammar.specs.declared.Symbol.TheVariants.{Token, Nonterminal}
use Rattle.grammar.specs.Grammar.{Form, Grammar, Rule, Productive, Useful}
use Rattle.grammar.proofs.Join.{Behind, first, later}
use Rattle.grammar.proofs.Useful.{Named, a_token, named, Names, ProductiveClosed, UsefulClosed, productive_addition, productive_complete, useful_addition, useful_complete, useful_start, start_useful}
use Rattle.grammar.proofs.Every.{every_at, at_every}
use Rattle.grammar.proofs.Rules.{rule_below, below_rule}
use Rattle.sets.specs.Sets.{width, member, Exactly}
use Rattle.sets.specs.declared.Set.{Set}
use Rattle.sets.specs.Calls.{set_at, number}
use Rattle.sets.specs.Calls as calls
use Rattle.sets.proofs.Promise.{member_none}
use Rattle.book.specs.Closure.{Follows, InClosure, given, fired}
use Rattle.book.specs.Useful.{IsNumber, SetsOf, KeptNames, Occurs, Sides, LowestMissing, FirstUseless, TellsUseless}
use Rattle.book.proofs.Filling.{exactly_alike, none_exactly}

behind_occurs : {B : ℕ} {v β : Form} → Behind B v β → Occurs β B
behind_occurs first = record { index = 0; at = refl }
behind_occurs (later b) = let o = behind_occurs b in record { index = suc o.index; at = o.at }

occurs_behind : {B : ℕ} (β : Form) (i : ℕ) → get_elem? β i ≡ some (Nonterminal B) → (v : Form) × Behind B v β
occurs_behind [] i e = let bad : ◌≡◌ {A = ℕ} 0 1 = cc in absurd (omega arith)
occurs_behind {B} (s ∷ β) zero e = let same : Nonterminal B ≡ s = cc in (β, rw (← same) first)
occurs_behind (s ∷ β) (suc i) e = let found = occurs_behind β i e in (found.0, later found.1)

module _ {M : ℕ → Type 0} where
  names_all : (β : Form) → ((B : ℕ) → Occurs β B → M B) → Names M β
  names_all β all = at_every β by_symbol
    where
      by_symbol : (i : ℕ) (s : Symbol) → get_elem? β i ≡ some s → Named M s
      by_symbol i (Token t) e = a_token
      by_symbol i (Nonterminal B) e = named (all B (record { index = i; at = e }))

  names_one : {β : Form} {B : ℕ} → Names M β → Occurs β B → M B
  names_one {β} {B} names occurs = by_named (every_at names occurs.index (Nonterminal B) occurs.at)
    where
      by_named : {C : ℕ} → Named M (Nonterminal C) → M C
      by_named (named m) = m

module _ {g : Grammar} {count : ℕ} {names lefts : List ℕ} (sides : Sides g count names lefts) where
  rule_at : (p : ℕ) → p < count → (A : ℕ) × (β : Form) × Rule g p A β
  rule_at p below = rule_below g p (omega (arith, sides.counted))

  counted : {p A : ℕ} {β : Form} → Rule g p A β → p < count
  counted rule = omega (arith, sides.counted, below_rule rule)

  productive_sound : {k : ℕ} → InClosure names lefts count 0 k → Productive g k
  productive_sound {k} (given m) = absurd (false≢true (sym (member_none k) ∙ m))
  productive_sound {k} (fired p below holds m) =
      let (A, β, rule) = rule_at p below in
      subst (Productive g) (sym ((sides.left_of rule).sound k m))
      (productive_addition rule (names_all β (λ B occurs. productive_sound (holds B ((sides.names_of rule).complete B occurs)))))

  reached_closed : ProductiveClosed g (InClosure names lefts count 0)
  reached_closed =
      record {
        closed = λ {p} {A} {β} rule reached.
            fired p (counted rule) (λ j m. names_one reached ((sides.names_of rule).sound j m)) ((sides.left_of rule).complete A refl);
      }

  -- the closure of the left sides under the names of the right sides is the productive nonterminals
  pub productive_exactly : {m : ℕ} → Exactly width m (InClosure names lefts count 0) → Exactly width m (Productive g)
  productive_exactly = exactly_alike (λ k. productive_sound) (productive_complete reached_closed)

  module _ {m seed : ℕ} {kept : List ℕ} (productive : Exactly width m (Productive g)) (filled : SetsOf (λ p. Follows (set_at names p) (set_at names p) m) count kept)
      (one : Exactly width seed (IsNumber g.start)) (starts : member g.start m ≡ true) where
    used_sound : {k : ℕ} → InClosure lefts kept count seed k → Useful g k
    used_sound {k} (given is_in) = subst (Useful g) (sym (one.sound k is_in).same) (start_useful (productive.sound g.start starts))
    used_sound {k} (fired p below holds is_in) =
        let (A, β, rule) = rule_at p below in
        let follows : Follows (set_at names p) (set_at names p) m k = (filled.each p below).sound k is_in in
        let occurs : Occurs β k = (sides.names_of rule).sound k follows.gives in
        useful_addition
        (used_sound (holds A ((sides.left_of rule).complete A refl)))
        rule
        (names_all β (λ B o. productive.sound B (follows.holds B ((sides.names_of rule).complete B o))))
        (occurs_behind β occurs.index occurs.at).1

    used_closed : UsefulClosed g (InClosure lefts kept count seed)
    used_closed =
        record {
          at_start = given (one.complete g.start (record { same = refl; fits = sides.start_fits }));
          closed = λ {p} {A} {B} {β} reached rule names behind.
              fired p (counted rule)
              (λ j is_in. subst (InClosure lefts kept count seed) (sym ((sides.left_of rule).sound j is_in)) reached)
              ((filled.each p (counted rule)).complete B
              (record {
                holds = λ j is_in. productive.complete j (names_one names ((sides.names_of rule).sound j is_in));
                gives = (sides.names_of rule).complete B (behind_occurs behind);
              }));
        }

    -- the closure of the names under the left sides, productive productions only, is the useful nonterminals
    pub useful_exactly : {used : ℕ} → Exactly width used (InClosure lefts kept count seed) → Exactly width used (Useful g)
    useful_exactly = exactly_alike (λ k. used_sound) (useful_complete used_closed)

pub lowest_useless : {g : Grammar} {used : ℕ} (r : Option ℕ) → Exactly width used (Useful g) → LowestMissing used g.nonterminals r → FirstUseless g r
lowest_useless None exact all = λ B below. exact.sound B (all B below)
lowest_useless (Some A) exact lowest =
    record {
      inside = lowest.inside;
      fails = λ useful. lowest.fails (exact.complete A useful);
      earlier = λ B below. exact.sound B (lowest.earlier B below);
    }

-- a start that is not productive makes every nonterminal useless
pub all_useless : {g : Grammar} {m : ℕ} → Exactly width m (Productive g) → member g.start m ≡ false → (A : ℕ) → ¬ Useful g A
all_useless {g} exact fails A useful = true≢false (sym (exact.complete g.start (useful_start useful)) ∙ fails)

-- what the two closures and the lowest number missing in the second tell
module _ {names lefts : List ℕ} {count productive nonterminals start : ℕ} (first : Exactly width productive (InClosure names lefts count 0)) where
  pub tells_lowest : {kept : List ℕ} {seed used : ℕ} (r : Option ℕ)
      → member start productive ≡ true
      → SetsOf (KeptNames names productive) count kept
      → Exactly width seed (IsNumber start)
      → Exactly width used (InClosure lefts kept count seed)
      → LowestMissing used nonterminals r
      → TellsUseless count names lefts nonterminals start r
  tells_lowest r starts kept one second lowest =
      record {
        first = λ g sides numbered started.
            lowest_useless r
            (useful_exactly sides (productive_exactly sides first) kept (rw started at one) (rw started at starts) second)
            (rw numbered at lowest);
      }

  pub tells_all : {none : Set} (r : Option ℕ)
      → calls.None none
      → member start productive ≡ false
      → LowestMissing (number none) nonterminals r
      → TellsUseless count names lefts nonterminals start r
  tells_all r empty fails lowest =
      record {
        first = λ g sides numbered started.
            lowest_useless r
            (none_exactly empty (all_useless (productive_exactly sides first) (rw started at fails)))
            (rw numbered at lowest);
      }
