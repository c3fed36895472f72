-- What the depth that a caller reads says of another call that lends all but the stack alike, from what it says of the two answers.
use mathlib.Core.Path.{◌≡◌, refl, sym, ap, ◌∙◌}
use mathlib.Core.Logic.{◌↔◌}
use mathlib.Core.List.{List}
use Prim.Native.Nat.{ℕ, ◌≤◌, ◌<◌}
use native.Mathlib.Omega.{arith}
use Rattle.answers.specs.declared.Answer.{Answer}
use Rattle.answers.specs.Buffers.{over, counted}
use Rattle.answers.specs.Refusals.{room, stack_room}
use Rattle.run.specs.Running.{RunOutcome}
use Rattle.expand.specs.Expanding.{ExpandOutcome}
use Rattle.demands.proofs.Promise.{run_deep_counted, expansion_deep_counted}
use Rattle.desk.specs.Desk.{little_endian, answer_bytes}
use Rattle.desk.specs.Demands.{word_at, answer_from}
use Rattle.desk.proofs.Calls.{AnswerOf}
use Rattle.desk.proofs.ReadBack.{answer_read}

-- one answer, written over two buffers, is read alike
written_alike : (a : Answer) (answer other : List ℕ)
    → answer_from a.number (over (answer_bytes a) answer) ≡ answer_from a.number (over (answer_bytes a) other)
unfolding answer_from word_at answer_bytes little_endian
written_alike a answer other = refl

module _ {Buffers : Type 0} {Outcome Other : Answer → Buffers → Type 0} {answer buffer : List ℕ} {n m : ℕ}
    {after left : Buffers} {x y : List ℕ} (r : AnswerOf Outcome answer n after x) (q : AnswerOf Other buffer m left y) where
  -- one answer, one reading
  same_read : q.told ≡ r.told → answer_from m y ≡ answer_from n x
  same_read e =
      let one : answer_from n x ≡ answer_from r.told.number (over (answer_bytes r.told) answer) = λ i. answer_from (r.returned i) (r.written i) in
      let two : answer_from m y ≡ answer_from q.told.number (over (answer_bytes q.told) buffer) = λ i. answer_from (q.returned i) (q.written i) in
      two ∙ ap (λ (a : Answer). answer_from a.number (over (answer_bytes a) buffer)) e ∙ written_alike r.told buffer answer ∙ sym one

  module _ (stack other : List ℕ) (deep : r.told.depth ≤ counted stack) (far : q.told.depth ≤ counted other) where
    depth_read : (answer_from n x).depth ≡ r.told.depth
    depth_read = (answer_read r).depth (omega arith)

    pub exactly_read : {Alike : Type 0}
        → (((q.told ≡ r.told) × Alike) ↔ (r.told.depth ≤ counted other))
        → (((answer_from m y ≡ answer_from n x) × Alike) ↔ ((answer_from n x).depth ≤ counted other))
    exactly_read {Alike} exactly = (
      λ (same, alike). omega (arith, far, (answer_read q).depth (omega arith), ap (λ (a : Answer). a.depth) same),
      λ fits. let (same, alike) = exactly.1 (omega (arith, depth_read)) in (same_read same, alike),
    )

    pub enough_read : {Alike : Type 0}
        → (r.told.depth ≤ counted other → (q.told ≡ r.told) × Alike)
        → (answer_from n x).depth ≤ counted other
        → (answer_from m y ≡ answer_from n x) × Alike
    enough_read enough fits = let (same, alike) = enough (omega (arith, depth_read)) in (same_read same, alike)

    pub least_read : {Sooner : Type 0}
        → (counted other < r.told.depth → (q.told.number ≡ room) × (q.told.detail ≡ stack_room) × Sooner)
        → counted other < (answer_from n x).depth
        → ((answer_from m y).number ≡ room) × ((answer_from m y).detail ≡ stack_room)
    least_read least low =
        let (number, detail, sooner) = least (omega (arith, depth_read)) in
        ((answer_read q).number ∙ number, (answer_read q).detail (omega (arith, detail)) ∙ detail)

-- an answer tells of no more cells than count
pub ran_counted : {book table tokens stack list : List ℕ} {a : Answer} {s l : List ℕ} → RunOutcome book table tokens stack list a s l → a.depth ≤ counted stack
ran_counted {book} {table} {tokens} {stack} {list} {a} {s} {l} o = run_deep_counted book table tokens stack list (record { answer = a; stack = s; list = l }) o

pub expanded_counted : {book list stack output : List ℕ} {a : Answer} {s w : List ℕ} → ExpandOutcome book list stack output a s w → a.depth ≤ counted stack
expanded_counted {book} {list} {stack} {output} {a} {s} {w} o = expansion_deep_counted book list stack output (record { answer = a; stack = s; output = w }) o
