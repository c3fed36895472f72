-- Any two outcomes that the promises of the crate allow of the same inputs are equal, the answer and every buffer.
use mathlib.Core.Path.{◌≡◌, refl, subst}
use mathlib.Core.List.{List}
use Prim.Native.Nat.{ℕ}
use Rattle.grammar.specs.Grammar.{Grammar}
use Rattle.grammar.specs.Plain.{Plain, LowestBreak}
use Rattle.grammar.proofs.Plain.{lowest_break_unique, lowest_break_not_plain}
use Rattle.answers.specs.declared.Answer.{Answer}
use Rattle.book.specs.Judging.{Serves}
use Rattle.book.proofs.Promise.{refuses_unique, refuses_not_serves, serves_unique}
use Rattle.table.specs.Table.{TableOf, BuiltWithoutConflict}
use Rattle.table.proofs.Promise.{table_unique}
use Rattle.run.specs.Running.{RunOutcome}
use Rattle.run.proofs.Promise.{Result, run_outcome_unique}
use Rattle.profile.specs.Plain.{PlainOutcome, PlainRunOutcome, refused, unfit, runs}
use Rattle.profile.specs.Plain as plain

module _ {book : List ℕ} {g h : Grammar} (s : Serves book g) (t : Serves book h) where
  -- the production that is named is one
  break_same : {p q : ℕ} → LowestBreak g p → LowestBreak h q → p ≡ q
  break_same {p} l m = lowest_break_unique (subst (λ (x : Grammar). LowestBreak x p) (serves_unique s t) l) m

  -- and no book is plain that has one
  pub break_other : {p : ℕ} → LowestBreak g p → ¬ Plain h
  break_other {p} l = lowest_break_not_plain (subst (λ (x : Grammar). LowestBreak x p) (serves_unique s t) l)

-- the test of the profile allows one answer
pub plain_outcome_unique : {book : List ℕ} {a b : Answer} → PlainOutcome book a → PlainOutcome book b → a ≡ b
plain_outcome_unique (plain.refused r) (plain.refused s) = refuses_unique r s
plain_outcome_unique (plain.refused r) (plain.unfit s l) = absurd (refuses_not_serves r s)
plain_outcome_unique (plain.refused r) (plain.fits s p) = absurd (refuses_not_serves r s)
plain_outcome_unique (plain.unfit s l) (plain.refused r) = absurd (refuses_not_serves r s)
plain_outcome_unique (plain.unfit s l) (plain.unfit t m) = rw (break_same s t l m)
plain_outcome_unique (plain.unfit s l) (plain.fits t p) = absurd (break_other s t l p)
plain_outcome_unique (plain.fits s p) (plain.refused r) = absurd (refuses_not_serves r s)
plain_outcome_unique (plain.fits s p) (plain.unfit t m) = absurd (break_other t s m p)
plain_outcome_unique (plain.fits s p) (plain.fits t q) = refl

-- a table that is built of a book is one
pub built_same : {book table other : List ℕ} → BuiltWithoutConflict book table → BuiltWithoutConflict book other → table ≡ other
built_same {book} {table} {other} b c =
    table_unique table other
    (subst (λ (g : Grammar). TableOf g table) (serves_unique b.serves c.serves) b.built) c.built

module _ {book tokens stack list : List ℕ} where
  -- the run on a plain book is the run on every table that is built of it
  pub on_built : {table other : List ℕ} {a : Answer} {s l : List ℕ}
      → BuiltWithoutConflict book table
      → BuiltWithoutConflict book other
      → RunOutcome book table tokens stack list a s l
      → RunOutcome book other tokens stack list a s l
  on_built {a = a} {s = s} {l = l} b c o = subst (λ (t : List ℕ). RunOutcome book t tokens stack list a s l) (built_same b c) o

  -- and allows one outcome
  pub plain_run_outcome_unique : {a b : Answer} {s l t m : List ℕ}
      → PlainRunOutcome book tokens stack list a s l
      → PlainRunOutcome book tokens stack list b t m
      → ◌≡◌ {A = Result} (a, s, l) (b, t, m)
  plain_run_outcome_unique (refused r) (refused s) = rw (refuses_unique r s)
  plain_run_outcome_unique (refused r) (unfit s l) = absurd (refuses_not_serves r s)
  plain_run_outcome_unique (refused r) (runs c p o) = absurd (refuses_not_serves r c.serves)
  plain_run_outcome_unique (unfit s l) (refused r) = absurd (refuses_not_serves r s)
  plain_run_outcome_unique (unfit s l) (unfit t m) = rw (break_same s t l m)
  plain_run_outcome_unique (unfit s l) (runs c p o) = absurd (break_other s c.serves l p)
  plain_run_outcome_unique (runs b p o) (refused r) = absurd (refuses_not_serves r b.serves)
  plain_run_outcome_unique (runs b p o) (unfit t m) = absurd (break_other t b.serves m p)
  plain_run_outcome_unique (runs {table = table} b p o) (runs {table = other} c q r) =
      run_outcome_unique book other tokens stack list (on_built b c o) r
