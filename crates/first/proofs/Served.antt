-- From what is found to what is promised: FIRST of a book's grammar, and FIRST of a symbol string.
use mathlib.Core.List.{List}
use Prim.Native.Nat.{ℕ}
use lib.ListN.{length}
use Rattle.sets.specs.Sets.{empty_string, only}
use Rattle.answers.specs.declared.Answer.{Answer}
use Rattle.answers.specs.Lowest.{LowestAt}
use Rattle.book.specs.declared.Index.{Index}
use Rattle.book.specs.Judging.{Indexes}
use Rattle.first.specs.declared.forms.Trail.{Trail}
use Rattle.first.specs.Trail.{Trailed, form_of}
use Rattle.first.specs.Steps.{FirstFound}
use Rattle.first.specs.Checks.{IsStrange, Unspelled, too_long, strange, SymbolString}
use Rattle.first.specs.Calls.{FirstServed, FirstStranger, FirstRefused, FirstTold}
use Rattle.first.specs.Calls as calls
use Rattle.first.proofs.Closed.{first_is, family_at}
use Rattle.first.proofs.Vanishing.{vanishing_is}
use Rattle.first.proofs.SymbolStrings.{Spells, spells, something}
use Rattle.first.proofs.Judged.{given_served, given_limits, given_lists}

module _ {book : List ℕ} {index : Index} where
  -- FIRST that is found
  pub found_first : {first : List ℕ}
      → Indexes book index
      → FirstFound book index.places index.outline.productions first
      → FirstServed book first index
  found_first given found = record { given = given; family = found.found given.grammar (given_lists given) }

  module _ {symbols : List ℕ} (given : Indexes book index) where
    stranger_first : {i : ℕ}
        → LowestAt (IsStrange index.outline.tokens index.outline.nonterminals symbols) (length symbols) i
        → FirstStranger given.grammar symbols i
    stranger_first s =
        rw (← (given_served given).tokens, ← (given_served given).nonterminals)
        (record {
          inside = s.inside;
          stranger = λ x e. s.holds (x, e);
          earlier = λ j below. something _ (s.earlier j below);
        })

    pub first_refused : {a : Answer}
        → Unspelled index.outline.tokens index.outline.nonterminals symbols a
        → FirstRefused book symbols a
    first_refused (too_long l) = calls.too_long given.serves l
    first_refused (strange short s) = calls.strange given.serves short (stranger_first s)

  module _ {symbols : List ℕ} {firsts : List ℕ} (worked : FirstServed book firsts index)
      (good : SymbolString index.outline.tokens index.outline.nonterminals symbols) where
    abbrev given : Indexes book index
    given = worked.given

    ready_spells : Spells given.grammar symbols
    ready_spells = spells (given_limits given) symbols (λ i h. rw (← (given_served given).tokens, ← (given_served given).nonterminals) (good.symbol i h))

    pub first_served : {begun : Trail} → Trailed firsts (only empty_string) (form_of symbols) begun → FirstTold book symbols begun
    first_served t =
        let limits = given_limits given in
        let first = family_at worked.family in
        record {
          grammar = given.grammar;
          form = ready_spells.form;
          serves = given.serves;
          short = good.short;
          spelled = ready_spells.spelled;
          told =
              record {
                holds = rw (t.holds, ready_spells.is) (first_is limits first ready_spells.known);
                leading = rw (t.leading, ready_spells.is) (vanishing_is limits first ready_spells.known);
              };
        }
