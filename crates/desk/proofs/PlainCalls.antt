-- What is proved of the C functions of the plain profile: each call allows one outcome, and its words lose nothing.
use mathlib.Core.Path.{◌≡◌}
use mathlib.Core.List.{List}
use Prim.Native.Nat.{ℕ, ◌^◌, ◌<◌}
use native.Mathlib.Omega.{arith}
use lib.ListN.{length}
use Rattle.grammar.specs.Grammar.{Grammar}
use Rattle.grammar.specs.Plain.{Breaks, bare, named, again}
use Rattle.grammar.proofs.Rules.{below_rule}
use Rattle.answers.specs.declared.Answer.{Answer}
use Rattle.answers.proofs.Promise.{Unique}
use Rattle.book.specs.Judging.{Serves}
use Rattle.book.proofs.Promise.{serves_limits}
use Rattle.profile.specs.Plain.{PlainOutcome, PlainRunOutcome}
use Rattle.profile.specs.Plain as plain
use Rattle.profile.proofs.Promise.{plain_outcome_unique, plain_run_outcome_unique}
use Rattle.desk.specs.Demands.{answer_from}
use Rattle.desk.specs.Desk.{Lent}
use Rattle.desk.specs.Plain.{PlainCall, PlainRunCall}
use Rattle.desk.proofs.Calls.{called_unique, two_unique}
use Rattle.desk.proofs.Fitting.{done_fits, refusal_fits, size_bounded, refused_fits, run_fits}
use Rattle.desk.proofs.ReadBack.{FitsWords, called_exact}

-- a production that breaks the profile is one of the grammar's
break_inside : {g : Grammar} {p : ℕ} → Breaks g p → p < length g.productions
break_inside (bare rule) = below_rule rule
break_inside (named rule) = below_rule rule
break_inside (again below lower rule) = below_rule rule

unfit_fits : {book : List ℕ} {g : Grammar} {p : ℕ} → Serves book g → Breaks g p → p < 2 ^ 64
unfit_fits s breaks = omega (arith, break_inside breaks, (serves_limits s).productions_fit)

plain_fits : {book : List ℕ} {a : Answer} → length book < 2 ^ 64 → PlainOutcome book a → FitsWords a
plain_fits b (plain.refused r) = refused_fits b r
plain_fits b (plain.unfit s l) = refusal_fits 21 (unfit_fits s l.breaks) (omega arith)
plain_fits b (plain.fits s p) = done_fits 0 (omega arith)

plain_run_fits : {book tokens stack list : List ℕ} {a : Answer} {s l : List ℕ}
    → length book < 2 ^ 64
    → PlainRunOutcome book tokens stack list a s l
    → FitsWords a
plain_run_fits b (plain.refused r) = refused_fits b r
plain_run_fits b (plain.unfit s l) = refusal_fits 21 (unfit_fits s l.breaks) (omega arith)
plain_run_fits b (plain.runs c p o) =
    run_fits b (omega (arith, c.built.sized, size_bounded (serves_limits c.serves))) o

-- any two outcomes that a call allows are equal: the number returned, and every lent buffer
pub plain_call_unique : (book answer : List ℕ) {n m : ℕ} {x y : List ℕ}
    → PlainCall book answer n x
    → PlainCall book answer m y
    → (n ≡ m) × (x ≡ y)
plain_call_unique book answer c d =
    let (number, none, bytes) = called_unique one c.call d.call in
    (number, bytes)
  where
    one : Unique (λ (x : Answer × Unit {0}). PlainOutcome book x.0)
    one x y o p = let same : x.0 ≡ y.0 = plain_outcome_unique o p in λ i. (same i, tt)

pub plain_run_call_unique : (book tokens stack list answer : List ℕ) {n m : ℕ} {s t l k x y : List ℕ}
    → PlainRunCall book tokens stack list answer n s l x
    → PlainRunCall book tokens stack list answer m t k y
    → (n ≡ m) × (s ≡ t) × (l ≡ k) × (x ≡ y)
plain_run_call_unique book tokens stack list answer c d =
    two_unique (PlainRunOutcome book tokens stack list) (λ r q o p. plain_run_outcome_unique o p) c.call d.call

-- the words lose nothing: where the book is shorter than 2 ^ 64, the answer read from them is an answer of the function
-- beneath
pub plain_call_exact : {book answer : List ℕ} {n : ℕ} {x : List ℕ} → length book < 2 ^ 64
    → Lent answer
    → PlainCall book answer n x
    → PlainOutcome book (answer_from n x)
plain_call_exact b lent c = called_exact (λ a o. plain_fits b o) lent c.call

pub plain_run_call_exact : {book tokens stack list answer : List ℕ} {n : ℕ} {s l x : List ℕ} → length book < 2 ^ 64
    → Lent answer
    → PlainRunCall book tokens stack list answer n s l x
    → PlainRunOutcome book tokens stack list (answer_from n x) s l
plain_run_call_exact b lent c = called_exact (λ a o. plain_run_fits b o) lent c.call
