-- Which bytes are among the marks, told by their order.
use mathlib.Core.Path.{◌≡◌, refl, ap, ◌∙◌}
use mathlib.Core.Logic.{◌≢◌}
use mathlib.Core.Bool.{true, false}
use mathlib.Core.List.{List, [], ◌∷◌}
use Prim.Native.Nat.{ℕ, zero, suc, ◌+◌, ◌-◌, ◌≤◌, ◌<◌}
use native.Mathlib.Omega.{arith}
use native.Mathlib.Decide.{dec_lt}
use lib.ListN.{length, get_or, get_or-eq_default}
use borrow.Author.Tests.{ne_eqb}
use Rattle.pattern.specs.Marks.{special, among}

-- a byte is none of the list
abbrev pub Apart : ℕ → List ℕ → Type 0
Apart b [] = Unit {0}
Apart b (c ∷ cs) = (b ≢ c) × Apart b cs

pub not_among : (b : ℕ) (cs : List ℕ) → Apart b cs → among b cs ≡ false
unfolding among
not_among b [] apart = refl
not_among b (c ∷ cs) apart = rw (ne_eqb b c apart.0, not_among b cs apart.1)

-- between the marks all bytes are plain
pub below_marks : (b : ℕ) → b < 40 → among b special ≡ false
below_marks b h = not_among b special (omega arith)

pub between_marks : (b : ℕ) → b ≢ 63 → 44 ≤ b → b < 91 → among b special ≡ false
between_marks b n l h = not_among b special (omega arith)

pub above_marks : (b : ℕ) → b ≢ 124 → 94 ≤ b → among b special ≡ false
above_marks b n l = not_among b special (omega arith)

-- the signs and groups stand side by side, and so do the brackets and the backslash
signs_run : (k : ℕ) → k < 4 → among (40 + k) special ≡ true
unfolding among
signs_run zero h = refl
signs_run (suc zero) h = refl
signs_run (suc (suc zero)) h = refl
signs_run (suc (suc (suc zero))) h = refl
signs_run (suc (suc (suc (suc k)))) h = absurd (omega arith)

pub among_signs : (b : ℕ) → 40 ≤ b → b < 44 → among b special ≡ true
among_signs b l h =
    let there : b ≡ 40 + (b - 40) = omega arith in
    ap (λ (c : ℕ). among c special) there ∙ signs_run (b - 40) (omega arith)

brackets_run : (k : ℕ) → k < 3 → among (91 + k) special ≡ true
unfolding among
brackets_run zero h = refl
brackets_run (suc zero) h = refl
brackets_run (suc (suc zero)) h = refl
brackets_run (suc (suc (suc k))) h = absurd (omega arith)

pub among_brackets : (b : ℕ) → 91 ≤ b → b < 94 → among b special ≡ true
among_brackets b l h =
    let there : b ≡ 91 + (b - 91) = omega arith in
    ap (λ (c : ℕ). among c special) there ∙ brackets_run (b - 91) (omega arith)

-- a mark lies within the text: past its end there is none
pub mark_inside : (text : List ℕ) (at : ℕ) {b : ℕ} → get_or text at 0 ≡ suc b → at < length text
mark_inside text at {b} e = go (dec_lt at (length text))
  where
    go : Dec (at < length text) → at < length text
    go (yes inside) = inside
    go (no end) =
        let none : get_or text at 0 ≡ 0 = get_or-eq_default text 0 (omega arith) in
        absurd (omega arith)
