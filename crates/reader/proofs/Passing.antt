-- What the positional reader makes of one byte, and that a refusal goes through every part untouched.
use mathlib.Core.Path.{◌≡◌, refl, sym, ◌∙◌}
use mathlib.Core.Logic.{◌≢◌}
use mathlib.Core.Bool.{Bool, true, false}
use mathlib.Core.List.{List}
use Prim.Native.Nat.{ℕ, zero, suc, ◌≤◌, ◌<◌}
use native.Mathlib.Decide.{dec_lt}
use native.Mathlib.Numerals.{add-one}
use native.Mathlib.Omega.{arith}
use lib.Dec.{leb}
use lib.ListN.{length}
use borrow.Author.Tests.{lt-ltb, le-ltb, le-leb, lt-leb}
use Rattle.std.specs.Prelude.{Ok, Err}
use Rattle.answers.specs.declared.refusals.Refusal.{Refusal}
use Rattle.answers.specs.declared.refusals.Refusal.TheVariants as refusals
use Rattle.reader.specs.declared.Fault.{Fault}
use Rattle.reader.specs.Verdicts.{Verdict, bad, and_then}
use Rattle.reader.specs.Positional.{next_byte, within, checked_at, wanted_from, symbol_from, symbols_from, marked_from, right_from, left_from, record_from, each_record_from}

abbrev pub Passes : (Verdict → Verdict) → Type 0
Passes K = (fault : Fault) → K (Err fault) ≡ Err fault

pub by_cases : {A : Type 0} (t : Bool) → (t ≡ true → A) → (t ≡ false → A) → A
by_cases true so not_so = so refl
by_cases false so not_so = not_so refl

-- a byte within a range, below it or above it
module _ (low high byte : ℕ) where
  pub within_right : low ≤ byte → byte < high → within low high byte ≡ true
  unfolding within
  within_right h k = simp (within, le-leb low byte h, lt-ltb byte high k)

  pub within_below : byte < low → within low high byte ≡ false
  unfolding within
  within_below h = simp (within, lt-leb low byte h)

  pub within_above : high ≤ byte → within low high byte ≡ false
  unfolding within
  within_above h = by_cases (leb low byte) (λ t. simp (within, t, le-ltb byte high h)) (λ t. simp (within, t))

-- a byte from a number up to the next is that number
pub within_other : (wanted byte : ℕ) → byte ≢ wanted → within wanted (suc wanted) byte ≡ false
within_other wanted byte other = go (dec_lt byte wanted)
  where
    go : Dec (byte < wanted) → within wanted (suc wanted) byte ≡ false
    go (yes h) = within_below wanted (suc wanted) byte h
    go (no n) = within_above wanted (suc wanted) byte (omega arith)

-- a byte from 0 up to and with a number
pub within_up_to : (most byte : ℕ) → within 0 (suc most) byte ≡ leb byte most
within_up_to most byte = go (dec_lt most byte)
  where
    go : Dec (most < byte) → within 0 (suc most) byte ≡ leb byte most
    go (yes h) = within_above 0 (suc most) byte (omega arith) ∙ sym (lt-leb byte most h)
    go (no n) = within_right 0 (suc most) byte (omega arith) (omega arith) ∙ sym (le-leb byte most (omega arith))

module _ (b : List ℕ) (right : Bool) (why : Refusal) (at : ℕ) where
  pub checked_right : at < length b → right ≡ true → checked_at b right why at ≡ Ok (suc at)
  unfolding checked_at
  checked_right h e = simp (checked_at, lt-ltb at (length b) h, e, add-one)

  pub checked_wrong : at < length b → right ≡ false → checked_at b right why at ≡ bad why at
  unfolding checked_at
  checked_wrong h e = simp (checked_at, lt-ltb at (length b) h, e)

  pub checked_short : length b ≤ at → checked_at b right why at ≡ bad refusals.Short (length b)
  unfolding checked_at
  checked_short h = simp (checked_at, le-ltb at (length b) h)

module _ (b : List ℕ) (T N : ℕ) where
  pub symbols_pass : (l : ℕ) → Passes (symbols_from b T N l)
  unfolding symbols_from symbol_from and_then
  symbols_pass zero fault = refl
  symbols_pass (suc l) fault = symbols_pass l fault

  pub records_pass : (p : ℕ) → Passes (each_record_from b T N p)
  unfolding each_record_from record_from left_from right_from next_byte symbols_from wanted_from marked_from and_then
  records_pass zero fault = refl
  records_pass (suc p) fault = records_pass p fault
