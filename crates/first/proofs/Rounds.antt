-- Passes until one changes nothing: sets that fit their width stay so, each pass keeps what holds so far, and one that changes
-- something leaves less to come.
use mathlib.Core.Path.{◌≡◌, sym, ap, ◌∙◌}
use mathlib.Core.Bool.{Bool, true, false}
use mathlib.Core.Logic.{◌≢◌}
use mathlib.Core.List.{List}
use Prim.Native.Nat.{ℕ, ◌-◌, ◌*◌, ◌^◌, ◌≤◌, ◌<◌}
use native.Mathlib.Decide.{ℕ_discrete, dec_lt}
use native.Mathlib.Omega.{arith}
use lib.ListN.{length, get_or, replicate}
use lib.Seq.{get_or-set_same, get_or-set_other, set_out}
use Rattle.sets.specs.Sets.{width, united}
use Rattle.sets.specs.Calls.{set_at, stored}
use Rattle.sets.proofs.Promise.{united_fits, decides_true, decides_false}
use Rattle.answers.specs.Limits.{most_nonterminals}
use Rattle.first.specs.Trail.{Grown}
use Rattle.first.specs.Steps.{Made, united_at}
use Rattle.first.proofs.Growth.{no_member, Expands, total, total_bound, total_grows}

-- every set fits its width
pub record Fits (cells : List ℕ) : Type 0 where
  pub each : (A : ℕ) → get_or cells A 0 < 2 ^ width

-- a pass that only adds, and keeps S
pub record Refines (S : List ℕ → Type 0) (pass : List ℕ → List ℕ) : Type 0 where
  pub expands : Expands pass
  pub fits : (cells : List ℕ) → Fits cells → Fits (pass cells)
  pub keeps : (cells : List ℕ) → S cells → S (pass cells)

-- 64 sets of which S holds so far
pub record Round (S : List ℕ → Type 0) (cells : List ℕ) : Type 0 where
  pub sized : length cells ≡ most_nonterminals
  pub fits : Fits cells
  pub so_far : S cells

module _ {S : List ℕ → Type 0} {pass : List ℕ → List ℕ} (refines : Refines S pass) {before after : List ℕ} {r : Bool} (round : Round S before) (made : Made pass before after r) where
  pub round_next : Round S after
  round_next =
      rw made.made
      (record { sized = refines.expands.keeps before ∙ round.sized; fits = refines.fits before round.fits; so_far = refines.keeps before round.so_far })

  -- a pass that changes something leaves less to come
  pub round_nearer : r ≡ false → most_nonterminals * 2 ^ width - total after < most_nonterminals * 2 ^ width - total before
  round_nearer told =
      let differ : before ≢ after = λ same. decides_false _ r made.same told (sym same) in
      let grown : Grown before after = rw made.made (refines.expands.grows before) in
      let larger : total before < total after = total_grows before after (round.sized ∙ sym round_next.sized) grown differ in
      let bounded : total after ≤ most_nonterminals * 2 ^ width = rw round_next.sized at (total_bound (2 ^ width) after round_next.fits.each) in
      omega arith

-- where a pass changes nothing, neither does the next
pub round_last : {pass : List ℕ → List ℕ} {before after : List ℕ} {r : Bool} → Made pass before after r → r ≡ true → pass after ≡ after
round_last {pass} {r = r} made told = ap pass (decides_true _ r made.same told) ∙ sym made.made

pub fits_none : (n : ℕ) → Fits (replicate n 0)
fits_none n = record { each = λ A. omega (arith, no_member n A) }

pub stored_fits : (cells : List ℕ) (n x : ℕ) → Fits cells → x < 2 ^ width → Fits (stored cells n x)
stored_fits cells n x fits small = record { each = λ A. go A (ℕ_discrete A n) (dec_lt n (length cells)) }
  where
    go : (A : ℕ) → Dec (A ≡ n) → Dec (n < length cells) → get_or (stored cells n x) A 0 < 2 ^ width
    go A (no d) inside = rw (get_or-set_other cells n A x 0 d) (fits.each A)
    go A (yes e) (yes inside) = rw (e, get_or-set_same cells n x 0 inside) small
    go A (yes e) (no out) = rw (set_out cells n x (omega arith)) (fits.each A)

pub united_at_fits : (cells : List ℕ) (n x : ℕ) → Fits cells → x < 2 ^ width → Fits (united_at cells n x)
united_at_fits cells n x fits small = stored_fits cells n (united (set_at cells n) x) fits (united_fits width (set_at cells n) x (fits.each n) small)
