-- A refusal's place: the bytes before it can be continued to a book that reads, and with the byte at it they cannot.
use mathlib.Core.Path.{◌≡◌, refl, ◌∙◌, ap}
use mathlib.Core.Logic.{◌≢◌, ◌⊎◌, inl, inr}
use mathlib.Core.List.{List, [], ◌∷◌, ◌++◌, append_assoc}
use Prim.Native.Nat.{ℕ, suc, ◌+◌, ◌≤◌}
use native.Mathlib.Omega.{arith}
use lib.ListN.{length, take, length-append}
use lib.Seq.{take_at, take-append-add}
use Rattle.answers.specs.Refusals.{number_of}
use Rattle.answers.specs.declared.refusals.Refusal.{Refusal}
use Rattle.answers.specs.declared.refusals.Refusal.TheVariants as refusals
use Rattle.reader.specs.Book.{refused, reads, spells, Continued}
use Rattle.reader.specs.Faults.{BadByte, bad_mark, extra_byte, over_limit, not_a_symbol, RefusedAt}
use Rattle.reader.proofs.Bytes.{refused_not_reads}
use Rattle.reader.proofs.Order.{FirstDecides, ended, stopped, decided_as, continued}

bad_not_short : {why : Refusal} → BadByte why → why ≢ refusals.Short
bad_not_short bad_mark e = cc
bad_not_short extra_byte e = cc
bad_not_short over_limit e = cc
bad_not_short not_a_symbol e = cc

pub refused_kinds : (b : List ℕ) {why : Refusal} {k : ℕ} → spells b ≡ refused why k → RefusedAt b why k
refused_kinds b e = by_judged (decided_as b e)
  where
    by_judged : {why : Refusal} {k : ℕ} → FirstDecides spells 0 b (refused why k) → RefusedAt b why k
    by_judged (ended k place g) = record { kind = inl refl; within = omega arith; inside = λ other. absurd (other refl) }
    by_judged (stopped k fault used c rest split place g all) =
        let long : length b ≡ length used + suc (length rest) = ap length split ∙ length-append used (c ∷ rest) in
        record { kind = inr fault; within = omega arith; inside = λ other. omega arith }

-- the number of a refusal is one of 1 to 5
pub refused_number : (b : List ℕ) {why : Refusal} {k : ℕ} → spells b ≡ refused why k → (1 ≤ number_of why) × (number_of why ≤ 5)
refused_number b e = by_kind (refused_kinds b e).kind
  where
    by_bad : {why : Refusal} → BadByte why → (1 ≤ number_of why) × (number_of why ≤ 5)
    by_bad bad_mark = omega arith
    by_bad extra_byte = omega arith
    by_bad over_limit = omega arith
    by_bad not_a_symbol = omega arith

    by_kind : {why : Refusal} → (why ≡ refusals.Short) ⊎ BadByte why → (1 ≤ number_of why) × (number_of why ≤ 5)
    by_kind (inl short) = rw short (omega arith)
    by_kind (inr bad) = by_bad bad

-- a missing byte is missing behind the whole book, which can be continued
pub book_short : (b : List ℕ) {k : ℕ} → spells b ≡ refused refusals.Short k → (k ≡ length b) × Continued b
book_short b e = by_judged (decided_as b e) refl
  where
    by_judged : {why : Refusal} {k : ℕ} → FirstDecides spells 0 b (refused why k) → why ≡ refusals.Short → (k ≡ length b) × Continued b
    by_judged (ended k place g) _ = (omega arith, continued g)
    by_judged (stopped k fault used c rest split place g all) e = absurd (bad_not_short fault e)

-- the bytes before a bad byte can be continued, and with it they cannot
pub book_place : (b : List ℕ) {why : Refusal} {k : ℕ} → spells b ≡ refused why k → why ≢ refusals.Short → Continued (take k b) × (¬ Continued (take (suc k) b))
book_place b e = by_judged (decided_as b e)
  where
    by_judged : {why : Refusal} {k : ℕ} → FirstDecides spells 0 b (refused why k) → why ≢ refusals.Short → Continued (take k b) × (¬ Continued (take (suc k) b))
    by_judged (ended k place g) other = absurd (other refl)
    by_judged (stopped k fault used c rest split place g all) _ =
        let before : take k b ≡ used = rw split (take_at used (c ∷ rest) k (omega arith)) in
        let one_more : suc k ≡ length used + 1 = omega arith in
        let with_it : take (suc k) b ≡ used ++ (c ∷ []) = rw (one_more, split) (take-append-add used (c ∷ rest) 1) in (
          rw before (continued g),
          λ next.
              let read : spells (used ++ (c ∷ next.more)) ≡ reads next.to = rw (with_it, append_assoc) at next.read in
              refused_not_reads (all next.more) read,
        )
