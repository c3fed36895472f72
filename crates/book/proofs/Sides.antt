-- The sets that are read off a book's records are the sides of its grammar's productions.
use mathlib.Core.Path.{◌≡◌, sym, ◌∙◌}
use mathlib.Core.List.{List}
use Prim.Native.Nat.{ℕ, ◌+◌, ◌<◌}
use native.Mathlib.Omega.{arith}
use lib.ListN.{length, get_or}
use Rattle.grammar.specs.declared.Symbol.TheVariants.{Nonterminal}
use Rattle.grammar.specs.Grammar.{Form, Grammar, Rule, Known, known_nonterminal}
use Rattle.grammar.proofs.Every.{every_at}
use Rattle.grammar.proofs.Rules.{element, inside, below_rule}
use Rattle.reader.specs.Book.{reads, spells, Limits}
use Rattle.reader.specs.Fields.{place_of_record}
use Rattle.reader.proofs.Promise.{read_limits}
use Rattle.book.specs.Useful.{IsNumber, NamedAt, RightNames, LeftName, SetsOf, Occurs, Sides}
use Rattle.book.proofs.Filling.{exactly_alike}
use Rattle.book.proofs.Indexing.{record_counted, symbol_counted}

nonterminal_known : {g : Grammar} {A : ℕ} → Known g (Nonterminal A) → A < g.nonterminals
nonterminal_known (known_nonterminal h) = h

module _ (b : List ℕ) {g : Grammar} (read : spells b ≡ reads g) where
  limits : Limits g
  limits = read_limits b read

  abbrev place : ℕ → ℕ
  place p = place_of_record b p

  module _ {p A : ℕ} {β : Form} (rule : Rule g p A β) where
    named_occurs : (k : ℕ) → NamedAt b (place p) (get_or b (place p + 3) 0) k → Occurs β k
    named_occurs k named =
        let (s, at) = element β named.index (omega (arith, named.inside, (record_counted b read rule).size)) in
        let same : s ≡ Nonterminal k = sym (symbol_counted b read rule named.index at) ∙ named.names.same in
        record { index = named.index; at = rw same at at }

    occurs_named : (k : ℕ) → Occurs β k → NamedAt b (place p) (get_or b (place p + 3) 0) k
    occurs_named k occurs =
        let known : Known g (Nonterminal k) = every_at (limits.well_formed.right_known rule) occurs.index (Nonterminal k) occurs.at in
        record {
          index = occurs.index;
          inside = omega (arith, inside β occurs.index occurs.at, (record_counted b read rule).size);
          names = record {
            same = symbol_counted b read rule occurs.index occurs.at;
            fits = omega (arith, nonterminal_known known, limits.nonterminals_fit);
          };
        }

    left_same : (k : ℕ) → IsNumber (get_or b (place p + 2) 0) k → k ≡ A
    left_same k one = one.same ∙ (record_counted b read rule).left

    same_left : (k : ℕ) → k ≡ A → IsNumber (get_or b (place p + 2) 0) k
    same_left k same =
        record {
          same = same ∙ sym (record_counted b read rule).left;
          fits = omega (arith, limits.well_formed.left_known rule, limits.nonterminals_fit);
        }

pub sides_surveyed : {b names lefts : List ℕ} {count : ℕ} {g : Grammar} → spells b ≡ reads g → count ≡ length g.productions
    → SetsOf (RightNames b) count names → SetsOf (LeftName b) count lefts → Sides g count names lefts
sides_surveyed {b} {count = count} {g = g} read counted rights left =
    record {
      counted = counted;
      names_of = λ {p} {A} {β} rule. exactly_alike (named_occurs b read rule) (occurs_named b read rule) (rights.each p (below rule));
      left_of = λ {p} {A} {β} rule. exactly_alike (left_same b read rule) (same_left b read rule) (left.each p (below rule));
      start_fits = omega (arith, (read_limits b read).well_formed.start_known, (read_limits b read).nonterminals_fit);
    }
  where
    below : {p A : ℕ} {β : Form} → Rule g p A β → p < count
    below rule = omega (arith, below_rule rule, counted)
