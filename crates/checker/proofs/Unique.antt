-- No statement of the crate allows a second outcome: the first cell that differs, and what a check answers.
use mathlib.Core.Path.{◌≡◌, refl, sym, ◌∙◌}
use mathlib.Core.Logic.{◌⊎◌, inl, inr}
use mathlib.Core.List.{List}
use Prim.Native.Nat.{ℕ, ◌+◌, ◌*◌, ◌<◌}
use native.Mathlib.Decide.{dec_lt}
use native.Mathlib.Omega.{arith}
use lib.ListN.{replicate}
use Rattle.grammar.specs.Grammar.{Grammar, Conflict}
use Rattle.answers.specs.declared.Answer.{Answer}
use Rattle.answers.specs.Answers.{done, refusal}
use Rattle.answers.specs.Limits.{most_nonterminals}
use Rattle.answers.specs.Refusals as refusals
use Rattle.answers.proofs.Promise.{Unique, either_unique}
use Rattle.first.specs.Numbers.{FirstFamily}
use Rattle.first.proofs.Promise.{OfBook, of_refusal, of_grammar, of_book_unique, family_unique}
use Rattle.table.specs.Table.{TableOf, FirstConflict}
use Rattle.table.specs.Fitting.{FitTable, Misfit}
use Rattle.table.proofs.Promise.{table_fits, misfit_not_fit, misfit_unique, first_conflict_unique, conflict_no_table}
use Rattle.table.proofs.Promise.{first_is_conflict}
use Rattle.checker.specs.Calls.{FirstDifferent, CheckOutcome, misfit, conflict, differs, passed}
use Rattle.checker.specs.Calls.{CheckedWithFirst}
use Rattle.checker.specs.Calls as calls
use Rattle.checker.proofs.Answering.{checked_outcome}

module _ {g : Grammar} {table : List ℕ} where
  -- the first cell that differs is determined
  pub first_different_unique : {i j : ℕ} → FirstDifferent g table i → FirstDifferent g table j → i ≡ j
  first_different_unique {i} {j} d e = go (dec_lt i j) (dec_lt j i)
    where
      go : Dec (i < j) → Dec (j < i) → i ≡ j
      go (yes h) m = absurd (d.wrong (e.earlier i h))
      go (no n) (yes h) = absurd (e.wrong (d.earlier j h))
      go (no n) (no m) = omega arith

  -- a table of the grammar has no cell that differs
  pub table_not_different : {i : ℕ} → TableOf g table → FirstDifferent g table i → ⊥
  table_not_different {i} t d = d.wrong (t.cells i d.inside)

-- the outcomes of a served book, by its grammar
module _ (table : List ℕ) where
  record Misfitting (g : Grammar) (a : Answer) : Type 0 where
    pub place : ℕ
    pub misfit : Misfit g table place
    pub is : a ≡ refusal refusals.table place 0

  record Conflicting (g : Grammar) (a : Answer) : Type 0 where
    pub fits : FitTable g table
    pub cell : ℕ
    pub lowest : ℕ
    pub next : ℕ
    pub first : FirstConflict g cell lowest next
    pub is : a ≡ refusal refusals.conflict cell (lowest * 256 + next)

  record Differing (g : Grammar) (a : Answer) : Type 0 where
    pub fits : FitTable g table
    pub no_conflict : ¬ Conflict g
    pub cell : ℕ
    pub first : FirstDifferent g table cell
    pub is : a ≡ refusal refusals.differs cell 0

  record Passing (g : Grammar) (a : Answer) : Type 0 where
    pub built : TableOf g table
    pub is : a ≡ done 0

  abbrev Fitted : Grammar → Answer → Type 0
  Fitted g a = Conflicting g a ⊎ (Differing g a ⊎ Passing g a)

  fits_of : {g : Grammar} {a : Answer} → Fitted g a → FitTable g table
  fits_of (inl c) = c.fits
  fits_of (inr (inl d)) = d.fits
  fits_of (inr (inr p)) = table_fits p.built

  no_conflict_of : {g : Grammar} {a b : Answer} → Conflicting g a → Differing g b ⊎ Passing g b → ⊥
  no_conflict_of c (inl d) = d.no_conflict (first_is_conflict c.first)
  no_conflict_of c (inr p) = conflict_no_table c.first p.built

  misfitting_unique : (g : Grammar) → Unique (Misfitting g)
  misfitting_unique g a b x y =
      let same = misfit_unique x.misfit y.misfit in
      x.is ∙ (λ i. refusal refusals.table (same i) 0) ∙ sym y.is

  conflicting_unique : (g : Grammar) → Unique (Conflicting g)
  conflicting_unique g a b x y =
      let (cell, lowest, next) = first_conflict_unique x.first y.first in
      x.is ∙ (λ i. refusal refusals.conflict (cell i) (lowest i * 256 + next i)) ∙ sym y.is

  differing_unique : (g : Grammar) → Unique (Differing g)
  differing_unique g a b x y =
      let same = first_different_unique x.first y.first in
      x.is ∙ (λ i. refusal refusals.differs (same i) 0) ∙ sym y.is

  served_unique : (g : Grammar) → Unique (λ a. Misfitting g a ⊎ Fitted g a)
  served_unique g =
      either_unique (misfitting_unique g)
      (either_unique (conflicting_unique g)
      (either_unique (differing_unique g) (λ a b x y. x.is ∙ sym y.is)
      (λ a b d p. table_not_different p.built d.first))
      (λ a b c d. no_conflict_of c d))
      (λ a b m f. misfit_not_fit m.misfit (fits_of f))

  of_book : {book : List ℕ} {a : Answer}
      → CheckOutcome book table a
      → OfBook book (λ b c. c ≡ b) (λ g b. Misfitting g b ⊎ Fitted g b) a
  of_book (calls.refused r) = of_refusal r refl
  of_book (misfit {k = k} s m) = of_grammar s (inl (record { place = k; misfit = m; is = refl }))
  of_book (conflict {i = i} {p = p} {q = q} s f c) =
      of_grammar s (inr (inl (record { fits = f; cell = i; lowest = p; next = q; first = c; is = refl })))
  of_book (differs {i = i} s f n d) =
      of_grammar s (inr (inr (inl (record { fits = f; no_conflict = n; cell = i; first = d; is = refl }))))
  of_book (passed b) = of_grammar b.serves (inr (inr (inr (record { built = b.built; is = refl }))))

-- a check allows one answer
pub check_outcome_unique : {book table : List ℕ} {a b : Answer}
    → CheckOutcome book table a
    → CheckOutcome book table b
    → a ≡ b
check_outcome_unique {table = table} o p =
    of_book_unique (λ a x y e f. e ∙ sym f) (served_unique table) _ _ (of_book table o) (of_book table p)

-- and one family of sets
abbrev FirstLeft : List ℕ → List ℕ → Type 0
FirstLeft book = OfBook book (λ a x. x ≡ replicate most_nonterminals 0) (λ g x. FirstFamily g x)

first_left : {book table : List ℕ} {a : Answer} {first : List ℕ} → CheckedWithFirst book table a first → FirstLeft book first
first_left (calls.refused r) = of_refusal r refl
first_left (calls.served s f o) = of_grammar s f

pub checked_with_first_unique : {book table : List ℕ} {a b : Answer} {first other : List ℕ}
    → CheckedWithFirst book table a first
    → CheckedWithFirst book table b other
    → (a ≡ b) × (first ≡ other)
checked_with_first_unique x y = (
  check_outcome_unique (checked_outcome x) (checked_outcome y),
  of_book_unique (λ a f h d e. d ∙ sym e) (λ g f h d e. family_unique f h d e) _ _ (first_left x) (first_left y),
)
