-- A call that lends an answer buffer: what it leaves when the answer is written, and that it allows one outcome if what it answers does.
use Rattle.std.specs.Prelude.{Result}
use mathlib.Core.Path.{◌≡◌, refl, sym, ap, ◌∙◌}
use mathlib.Core.List.{List, [], ◌∷◌}
use Prim.Native.Nat.{ℕ, ◌≤◌}
use native.Mathlib.Omega.{arith}
use lib.ListN.{length, set}
use Rattle.sets.specs.Calls.{number}
use Rattle.answers.specs.declared.Answer.{Answer}
use Rattle.answers.specs.Buffers.{over}
use Rattle.patterns.specs.Calls.{JudgePatterns}
use Rattle.patterns.proofs.Promise.{judge_patterns_unique}
use Rattle.checker.specs.Calls.{CheckOutcome}
use Rattle.checker.proofs.Promise.{check_outcome_unique}
use Rattle.pieces.specs.Calls.{CutWithOutcome}
use Rattle.pieces.proofs.Promise.{cut_with_unique}
use Rattle.book.proofs.Promise.{refuses_unique, refuses_not_serves}
use Rattle.first.specs.declared.forms.Trail.{Trail}
use Rattle.answers.proofs.Promise.{Unique}
use Rattle.desk.specs.Desk.{answer_bytes, LentCell, JudgeOutcome, refused, served, answer_in, set_in, vanishing_in, SetOutcome, TrailTold, Called, short, answered}

-- the answer whose number is returned and whose bytes are written
pub record AnswerOf {Buffers : Type 0} (Outcome : Answer → Buffers → Type 0) (answer : List ℕ) (n : ℕ) (after : Buffers) (answer' : List ℕ) : Type 0 where
  pub told : Answer
  pub outcome : Outcome told after
  pub returned : n ≡ told.number
  pub written : answer' ≡ over (answer_bytes told) answer

module _ {Buffers Enough : Type 0} {Outcome : Answer → Buffers → Type 0} {before : Buffers} {answer : List ℕ} where
  pub answered_call : (a : Answer) {after : Buffers} {n : ℕ} {answer' : List ℕ}
      → Enough
      → Outcome a after
      → n ≡ a.number
      → answer' ≡ over (answer_bytes a) answer
      → Called Enough Outcome before answer n after answer'
  answered_call a lent outcome number written = rw (number, written) (answered lent outcome)

  -- with enough lent there is an answer
  pub called_answer : {n : ℕ} {after : Buffers} {answer' : List ℕ} → Enough → Called Enough Outcome before answer n after answer' → AnswerOf Outcome answer n after answer'
  called_answer lent (short n) = absurd (n lent)
  called_answer lent (answered {a = a} l outcome) = record { told = a; outcome = outcome; returned = refl; written = refl }

  -- the number, the buffers and the answer buffer are determined
  pub called_unique : Unique (λ (r : Answer × Buffers). Outcome r.0 r.1) → {n m : ℕ} {x y : Buffers} {s t : List ℕ}
      → Called Enough Outcome before answer n x s → Called Enough Outcome before answer m y t → (n ≡ m) × (x ≡ y) × (s ≡ t)
  called_unique same (short n) (short m) = (refl, refl, refl)
  called_unique same (short n) (answered l o) = absurd (n l)
  called_unique same (answered l o) (short n) = absurd (n l)
  called_unique same (answered {a = a} {after = x} l o) (answered {a = b} {after = y} k p) =
      let e : ◌≡◌ {A = Answer × Buffers} (a, x) (b, y) = same (a, x) (b, y) o p in
      (ap (λ (r : Answer × Buffers). r.0.number) e, ap (λ (r : Answer × Buffers). r.1) e, ap (λ (r : Answer × Buffers). over (answer_bytes r.0) answer) e)

-- the same of calls that lend two other buffers
pub two_unique : {Enough : Type 0} (Outcome : Answer → List ℕ → List ℕ → Type 0) {before : List ℕ × List ℕ} {answer : List ℕ}
    → Unique (λ (r : Answer × List ℕ × List ℕ). Outcome r.0 r.1 r.2) → {n m : ℕ} {s t l k x y : List ℕ}
    → Called Enough (λ a after. Outcome a after.0 after.1) before answer n (s, l) x → Called Enough (λ a after. Outcome a after.0 after.1) before answer m (t, k) y
    → (n ≡ m) × (s ≡ t) × (l ≡ k) × (x ≡ y)
two_unique Outcome same c d =
    let (number, buffers, bytes) = called_unique (λ r q o p. ap (λ (z : Answer × List ℕ × List ℕ). (z.0, (z.1, z.2))) (same _ _ o p)) c d in
    (number, ap (λ (z : List ℕ × List ℕ). z.0) buffers, ap (λ (z : List ℕ × List ℕ). z.1) buffers, bytes)

-- and of calls that lend three
pub three_unique : {Enough : Type 0} (Outcome : Answer → List ℕ → List ℕ → List ℕ → Type 0) {before : List ℕ × List ℕ × List ℕ} {answer : List ℕ}
    → Unique (λ (r : Answer × List ℕ × List ℕ × List ℕ). Outcome r.0 r.1 r.2 r.3) → {n m : ℕ} {s t l k u v x y : List ℕ}
    → Called Enough (λ a after. Outcome a after.0 after.1 after.2) before answer n (s, l, u) x → Called Enough (λ a after. Outcome a after.0 after.1 after.2) before answer m (t, k, v) y
    → (n ≡ m) × (s ≡ t) × (l ≡ k) × (u ≡ v) × (x ≡ y)
three_unique Outcome same c d =
    let (number, buffers, bytes) = called_unique (λ r q o p. ap (λ (z : Answer × List ℕ × List ℕ × List ℕ). (z.0, (z.1, z.2, z.3))) (same _ _ o p)) c d in
    (number, ap (λ (z : List ℕ × List ℕ × List ℕ). z.0) buffers, ap (λ (z : List ℕ × List ℕ × List ℕ). z.1) buffers, ap (λ (z : List ℕ × List ℕ × List ℕ). z.2) buffers, bytes)

-- one answer with its set and its number leaves one buffer of each
pub set_outcome_unique : {Told : Result Trail Answer → Type 0} {cells counts : List ℕ} → Unique Told → Unique (λ (x : Answer × List ℕ × List ℕ). SetOutcome Told cells counts x.0 x.1 x.2)
set_outcome_unique {cells = cells} {counts = counts} same x y o p =
    let told : o.told ≡ p.told = same o.told p.told o.outcome p.outcome in
    (λ i. (sym o.answer i, o.written i, o.counted i))
    ∙ (λ i. (answer_in (told i), over (set_in (told i) ∷ []) cells, over (vanishing_in (told i) ∷ []) counts))
    ∙ (λ i. (p.answer i, sym p.written i, sym p.counted i))

-- a book is judged one way
judged_same : {book : List ℕ} {a b : Answer} → JudgeOutcome book a → JudgeOutcome book b → a ≡ b
judged_same (refused r) (refused s) = refuses_unique r s
judged_same (refused r) (served x) = absurd (refuses_not_serves r x.serves)
judged_same (served x) (refused r) = absurd (refuses_not_serves r x.serves)
judged_same (served x) (served y) = refl

pub judge_outcome_unique : (book : List ℕ) → Unique (λ (x : Answer × Unit {0}). JudgeOutcome book x.0)
judge_outcome_unique book x y o p = let same : x.0 ≡ y.0 = judged_same o p in λ i. (same i, tt)

-- a cut with given cells has one outcome
pub cut_with_same : (machine line tokens ends : List ℕ)
    → Unique (λ (r : Answer × List ℕ × List ℕ). CutWithOutcome machine line tokens ends r.0 r.1 r.2)
cut_with_same machine line tokens ends r q o p =
    let (answer, numbers, places) = cut_with_unique o p in
    λ i. (answer i, numbers i, places i)

-- a table is checked one way
pub check_same : (book table : List ℕ) → Unique (λ (x : Answer × Unit {0}). CheckOutcome book table x.0)
check_same book table x y o p =
    let same : x.0 ≡ y.0 = check_outcome_unique o p in
    λ i. (same i, tt)

-- patterns are judged one way
pub patterns_outcome_unique : (patterns lengths : List ℕ)
    → Unique (λ (x : Answer × Unit {0}). JudgePatterns patterns lengths x.0)
patterns_outcome_unique patterns lengths x y o p =
    let same : x.0 ≡ y.0 = judge_patterns_unique o p in
    λ i. (same i, tt)

first_written : (cells : List ℕ) (n : ℕ) → 1 ≤ length cells → set cells 0 n ≡ over (n ∷ []) cells
first_written [] n h = absurd (omega arith)
first_written (x ∷ cells) n h = refl

-- a set and a number are written into the first cells of their buffers, and the answer over the answer buffer
pub set_call : {Told : Result Trail Answer → Type 0} (r : Result Trail Answer) {cells counts answer : List ℕ} {n : ℕ} {cells' counts' answer' : List ℕ}
    → LentCell cells counts answer
    → Told r
    → TrailTold r cells counts answer n cells' counts' answer'
    → Called {Buffers = List ℕ × List ℕ} (LentCell cells counts answer) (λ a after. SetOutcome Told cells counts a after.0 after.1) (cells, counts) answer
    n (cells', counts') answer'
set_call r {cells} {counts} lent outcome told =
    answered_call (answer_in r) lent
    (record {
      told = r;
      outcome = outcome;
      answer = refl;
      written = told.written ∙ first_written cells (set_in r) lent.cell;
      counted = told.counted ∙ first_written counts (vanishing_in r) lent.count;
    })
    told.number told.bytes
