-- What a check comes to is determined, and two checks, one after the other, are one.
use mathlib.Core.Path.{◌≡◌, refl, sym, ◌∙◌, ap, subst}
use Prim.Native.Nat.{ℕ, ◌≤◌}
use native.Mathlib.Omega.{arith}
use Rattle.std.specs.Prelude.{⊤, Result, Ok, Err}
use Rattle.answers.specs.declared.Answer.{Answer}
use Rattle.answers.specs.Checks.{because, Either, first_stops, next_stops, Lacking, Tested, Checked, passes, goes, RoomTested}
use Rattle.answers.proofs.Unique.{Unique}

no_ok : {a : Answer} → ◌≡◌ {A = Result ⊤ Answer} (Ok tt) (Err a) → ⊥
no_ok e = let bad : ◌≡◌ {A = ℕ} 0 1 = cc in absurd (omega arith)

-- a check has one answer, if it stops with one and not where all is good
pub tested_unique : {Bad : Answer → Type 0} {Good : Type 0}
    → Unique Bad
    → ((a : Answer) → Bad a → ¬ Good)
    → Unique (Tested Bad Good)
tested_unique one apart (Ok _) (Ok _) x y = refl
tested_unique one apart (Ok _) (Err a) x y = absurd (apart a y x)
tested_unique one apart (Err a) (Ok _) x y = absurd (apart a x y)
tested_unique one apart (Err a) (Err b) x y = ap Err (one a b x y)

module _ {before : Result ⊤ Answer} {Bad : Answer → Type 0} {Good : Type 0} where
  -- two checks, one after the other, are one
  pub checked_then : {middle after : Result ⊤ Answer} {Next : Answer → Type 0} {Better : Type 0}
      → Checked before Bad Good middle
      → Checked middle Next Better after
      → Checked before (Either Bad Good Next) (Good × Better) after
  checked_then {middle = Err a} (passes d) (passes e) = passes (d ∙ e)
  checked_then {middle = Err a} (passes d) (goes e next) = absurd (no_ok (sym e))
  checked_then {middle = Err a} {Next} {Better} (goes d bad) (passes e) =
      subst (Checked before (Either Bad Good Next) (Good × Better)) e (goes d (first_stops bad))
  checked_then {middle = Err a} (goes d bad) (goes e next) = absurd (no_ok (sym e))
  checked_then {middle = Ok _} (goes d good) (passes e) = absurd (no_ok e)
  checked_then {middle = Ok _} {after = Ok _} (goes d good) (goes e better) = goes d (good, better)
  checked_then {middle = Ok _} {after = Err a} (goes d good) (goes e bad) = goes d (next_stops good bad)

  -- a check after another has one answer, if it stops with one and not where all is good
  pub checked_unique : Unique Bad → ((a : Answer) → Bad a → ¬ Good) → Unique (Checked before Bad Good)
  checked_unique one apart x y (passes d) (passes e) = sym d ∙ e
  checked_unique one apart x y (passes d) (goes e s) = absurd (no_ok (sym e ∙ d))
  checked_unique one apart x y (goes d s) (passes e) = absurd (no_ok (sym d ∙ e))
  checked_unique one apart x y (goes d s) (goes e t) = tested_unique one apart x y s t

-- the first of two checks comes after nothing
pub checked_first : {Bad : Answer → Type 0} {Good : Type 0} {r : Result ⊤ Answer}
    → Checked (Ok tt) Bad Good r
    → Tested Bad Good r
checked_first (passes e) = absurd (no_ok e)
checked_first (goes e tested) = tested

lacking_unique : (have want detail : ℕ) → Unique (Lacking have want detail)
lacking_unique have want detail a b (because h) (because k) = refl

lacking_apart : {have want : ℕ} (detail : ℕ) (a : Answer) → Lacking have want detail a → ¬ (want ≤ have)
lacking_apart detail a (because less) fits = omega arith

pub roomed_unique : (have want detail : ℕ) → Unique (RoomTested have want detail)
roomed_unique have want detail = tested_unique (lacking_unique have want detail) (lacking_apart detail)

-- and after another check
pub roomed_after_unique : {before : Result ⊤ Answer} (have want detail : ℕ)
    → Unique (Checked before (Lacking have want detail) (want ≤ have))
roomed_after_unique have want detail = checked_unique (lacking_unique have want detail) (lacking_apart detail)
