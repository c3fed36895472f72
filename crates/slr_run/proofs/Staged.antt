-- Where the machine stands, and where it stands after a reduction or a shift.
use mathlib.Core.Path.{◌≡◌, sym, ◌∙◌, ap}
use mathlib.Core.List.{List, [], ◌∷◌, ◌++◌}
use Prim.Native.Nat.{ℕ, suc, ◌+◌, ◌-◌, ◌≤◌, ◌<◌, max}
use native.Mathlib.Decide.{dec_lt}
use native.Mathlib.Numerals.{add-one}
use native.Mathlib.Omega.{arith}
use lib.ListN.{length, get_or, take, drop, set, length-set}
use lib.Seq.{get_or-set_same, get_or-set_other, take-suc-set, drop-drop, length-take-le}
use Rattle.answers.specs.Buffers.{counted}
use Rattle.slr.specs.RoomMachine.{shifted, reduced}
use Rattle.slr_run.specs.Stages.{held_by, stage_in, Held}
use Rattle.slr_run.specs.Reducing.{reduced_to, shifted_to, Kept}
use Rattle.slr_run.specs.declared.Stage.{Stage}
use Rattle.slr_run.proofs.Held.{length_held, held_top, held_set, drop_held}

pub stage_listed : (at : Stage) (stack list : List ℕ) → at.listed ≤ counted list → length (stage_in at stack list).listed ≡ at.listed
unfolding stage_in
stage_listed at stack list h = length-take-le at.listed list (omega arith)

-- the states that stay where n are popped
pub uncovered : {rows : ℕ} {at : Stage} {stack : List ℕ} (held : Held rows at stack) (n : ℕ) {k : ℕ} {rest : List ℕ}
    → drop n (at.top ∷ held_by stack (at.height - 1)) ≡ k ∷ rest
    → (held_by stack (length rest + 1) ≡ k ∷ rest) × (length rest < at.height)
uncovered {at = at} {stack = stack} held n {k} {rest} e =
    let stays : held_by stack (at.height - n) ≡ k ∷ rest =
    sym (drop_held stack n at.height) ∙ ap (drop n) (sym (held_top stack at.height held.some held.top)) ∙ e in
    let many : at.height - n ≡ suc (length rest) = sym (length_held stack (at.height - n)) ∙ ap length stays in
    let same : at.height - n ≡ length rest + 1 = omega arith in
    (rw same at stays, omega arith)

module _ (at : Stage) (stack list : List ℕ) where
  pub reduced_stage : (p j base k : ℕ) (rest : List ℕ)
      → at.listed < length list
      → held_by stack (base + 1) ≡ k ∷ rest
      → length rest ≡ base
      → stage_in (reduced_to j base at) (set stack (base + 1) j) (set list at.listed p) ≡ reduced p j (k ∷ rest) (stage_in at stack list)
  unfolding stage_in reduced_to reduced
  reduced_stage p j base k rest few uncovers long =
      let one : base + 2 - 1 ≡ base + 1 = omega arith in
      let stays : held_by (set stack (base + 1) j) (base + 2 - 1) ≡ k ∷ rest =
      ap (held_by (set stack (base + 1) j)) one ∙ held_set stack (base + 1) j (base + 1) (omega arith) ∙ uncovers in
      let lists : take (at.listed + 1) (set list at.listed p) ≡ take at.listed list ++ (p ∷ []) =
      ap (λ (n : ℕ). take n (set list at.listed p)) (add-one at.listed) ∙ take-suc-set list at.listed p few in
      let steps : at.listed + 1 + at.matched ≡ suc (at.listed + at.matched) = omega arith in
      let tall : base + 2 ≡ suc (suc (length rest)) = omega arith in
      λ i. record {
        top = j;
        below = stays i;
        listed = lists i;
        matched = at.matched;
        steps = steps i;
        height = ap (max at.deepest) tall i;
      }

  pub shifted_stage : {rows : ℕ}
      → Held rows at stack
      → (j : ℕ)
      → stage_in (shifted_to j at) (set stack at.height j) list ≡ shifted j (stage_in at stack list)
  unfolding stage_in shifted_to shifted
  shifted_stage held j =
      let one : at.height + 1 - 1 ≡ at.height = omega arith in
      let stays : held_by (set stack at.height j) (at.height + 1 - 1) ≡ at.top ∷ held_by stack (at.height - 1) =
      ap (held_by (set stack at.height j)) one
      ∙ held_set stack at.height j at.height (omega arith)
      ∙ sym (held_top stack at.height held.some held.top) in
      let steps : at.listed + (at.matched + 1) ≡ suc (at.listed + at.matched) = omega arith in
      let tall : at.height + 1 ≡ suc (suc (length (held_by stack (at.height - 1)))) =
      omega (arith, held.some, length_held stack (at.height - 1)) in
      λ i. record {
        top = j;
        below = stays i;
        listed = take at.listed list;
        matched = add-one at.matched i;
        steps = steps i;
        height = ap (max at.deepest) tall i;
      }

-- a state is pushed above those in the first cells
pub pushed_held : {rows : ℕ} (stack : List ℕ) (height j : ℕ)
    → height < length stack
    → j < rows
    → ((i : ℕ) → i < height → get_or stack i 0 < rows)
    → (i : ℕ)
    → i < height + 1
    → get_or (set stack height j) i 0 < rows
pushed_held {rows} stack height j inside row states i h = go (dec_lt i height)
  where
    go : Dec (i < height) → get_or (set stack height j) i 0 < rows
    go (yes below) = rw (get_or-set_other stack height i j 0 (λ e. omega arith)) (states i below)
    go (no above) = let last : i ≡ height = omega arith in rw (last, get_or-set_same stack height j 0 inside) row

module _ {rows : ℕ} {at : Stage} {stack : List ℕ} (held : Held rows at stack) where
  pub reduced_held : (j base : ℕ)
      → j < rows
      → base < at.height
      → base + 1 < counted stack
      → Held rows (reduced_to j base at) (set stack (base + 1) j)
  unfolding reduced_to
  reduced_held j base row low room =
      let one : base + 2 - 1 ≡ base + 1 = omega arith in
      let many : base + 2 ≡ base + 1 + 1 = omega arith in
      record {
        some = omega arith;
        height = omega (arith, length-set stack (base + 1) j);
        top = rw one (sym (get_or-set_same stack (base + 1) j 0 (omega arith)));
        states = rw many (pushed_held stack (base + 1) j (omega arith) row (λ i h. held.states i (omega arith)));
      }

  pub shifted_held : (j : ℕ) → j < rows → at.height < counted stack → Held rows (shifted_to j at) (set stack at.height j)
  unfolding shifted_to
  shifted_held j row room =
      let one : at.height + 1 - 1 ≡ at.height = omega arith in
      record {
        some = omega arith;
        height = omega (arith, length-set stack at.height j);
        top = rw one (sym (get_or-set_same stack at.height j 0 (omega arith)));
        states = pushed_held stack at.height j (omega arith) row held.states;
      }

-- what is beyond more cells is beyond fewer
pub beyond_more : (n m : ℕ) (list list₀ : List ℕ) → n ≤ m → drop n list ≡ drop n list₀ → drop m list ≡ drop m list₀
beyond_more n m list list₀ h e =
    let more : m ≡ n + (m - n) = omega arith in
    rw more (sym (drop-drop (m - n) n list) ∙ ap (drop (m - n)) e ∙ drop-drop (m - n) n list₀)

pub kept_on : {at at' : Stage} {stack₀ list₀ stack list stack' list' : List ℕ}
    → Kept at stack₀ list₀ stack list
    → Kept at' stack list stack' list'
    → at.listed ≤ at'.listed
    → Kept at' stack₀ list₀ stack' list'
kept_on {at} {at'} {list₀ = list₀} {list = list} a b h =
    record {
      beyond = b.beyond ∙ beyond_more at.listed at'.listed list list₀ h a.beyond;
      stack_length = b.stack_length ∙ a.stack_length;
      list_length = b.list_length ∙ a.list_length;
    }
