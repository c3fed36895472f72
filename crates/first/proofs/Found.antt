-- FIRST is found: every pass keeps its soundness, and where one changes nothing the sets are closed, so exact.
use mathlib.Core.Path.{◌≡◌, refl, ◌∙◌}
use mathlib.Core.List.{List}
use Prim.Native.Nat.{ℕ, ◌<◌}
use native.Mathlib.Omega.{arith}
use lib.ListN.{length, get_or, replicate}
use Rattle.grammar.specs.Grammar.{Form, Grammar, Rule}
use Rattle.sets.specs.Sets.{width, empty_string, Subset, only}
use Rattle.sets.proofs.Promise.{only_fits}
use Rattle.answers.specs.Limits.{most_nonterminals}
use Rattle.reader.specs.Fields.{left_at, right_at}
use Rattle.grammar.proofs.Rules.{below_rule}
use Rattle.first.specs.Numbers.{FirstFamily}
use Rattle.first.specs.Forms.{Lists}
use Rattle.first.specs.Trail.{trail, FirstSound, FirstClosed}
use Rattle.first.specs.Steps.{first_step, passed, first_steps, FirstFound}
use Rattle.first.proofs.Trail.{every_symbol_fits, trail_fits}
use Rattle.first.proofs.Additions.{sound_none, first_addition_sound}
use Rattle.first.proofs.Closed.{first_words_exact}
use Rattle.first.proofs.Growth.{Ends, ends_none, ends_stored, Expands, expands_united, united_nothing, passed_keeps, passed_expands}
use Rattle.first.proofs.Growth.{passed_nothing}
use Rattle.first.proofs.Rounds.{Fits, fits_none, united_at_fits, Refines, Round}
use Rattle.first.proofs.Spelled.{lists_limits, left_is, right_is, rule_at}

pub first_expands : (book places : List ℕ) (p : ℕ) → Expands (first_steps book places p)
unfolding first_step
first_expands book places p = expands_united (left_at book (get_or places p 0)) (λ fs. trail fs (only empty_string) (right_at book (get_or places p 0)))

module _ (book places : List ℕ) (count : ℕ) where
  -- what each pass of FIRST keeps
  pub record SoundFirst (g : Grammar) (cells : List ℕ) : Type 0 where
    pub sound : FirstSound g cells
    pub ends : Ends g.nonterminals cells

  pub record FirstSoFar (cells : List ℕ) : Type 0 where
    pub none : count ≡ 0 → cells ≡ replicate most_nonterminals 0
    pub of : (g : Grammar) → Lists book places count g → SoundFirst g cells

  abbrev pub first_pass : List ℕ → List ℕ
  first_pass = passed (first_steps book places) count

  first_step_fits : (p : ℕ) (cells : List ℕ) → Fits cells → Fits (first_steps book places p cells)
  unfolding first_step
  first_step_fits p cells fits =
      let right = right_at book (get_or places p 0) in
      united_at_fits cells (left_at book (get_or places p 0)) (trail cells (only empty_string) right) fits
      (trail_fits cells (only_fits width empty_string (omega arith)) (every_symbol_fits cells fits.each right))

  nothing_passed : (cells : List ℕ) → count ≡ 0 → first_pass cells ≡ cells
  unfolding passed
  nothing_passed cells none = rw none

  first_step_sound : {g : Grammar}
      → Lists book places count g
      → (p : ℕ)
      → p < count
      → (cells : List ℕ)
      → SoundFirst g cells
      → SoundFirst g (first_steps book places p cells)
  unfolding first_step
  first_step_sound index p h cells so_far =
      let (A, β, rule) = rule_at index p h in
      let limits = lists_limits index in
      rw (left_is index rule, right_is index rule)
      (record { sound = first_addition_sound limits so_far.sound rule; ends = ends_stored (limits.well_formed.left_known rule) _ so_far.ends })

  pub first_refines : Refines FirstSoFar first_pass
  first_refines =
      record {
        expands = passed_expands (first_expands book places) count;
        fits = passed_keeps Fits count (λ p h. first_step_fits p);
        keeps = λ cells s.
            record {
              none = λ e. nothing_passed cells e ∙ s.none e;
              of = λ g index. passed_keeps (SoundFirst g) count (first_step_sound index) cells (s.of g index);
            };
      }

  -- before the first pass no set has a member
  pub first_begun : Round FirstSoFar (replicate most_nonterminals 0)
  first_begun =
      record {
        sized = refl;
        fits = fits_none most_nonterminals;
        so_far =
            record {
              none = λ e. refl;
              of = λ g index. record { sound = sound_none most_nonterminals; ends = ends_none g.nonterminals most_nonterminals };
            };
      }

  first_closed : {g : Grammar} (index : Lists book places count g) {cells : List ℕ}
      → length cells ≡ most_nonterminals
      → first_pass cells ≡ cells
      → FirstClosed g cells
  unfolding first_step
  first_closed {g} index {cells} sized same = record { closed = λ {p} {A} {β} rule. go p A β rule }
    where
      go : (p A : ℕ) (β : Form) → Rule g p A β → Subset (trail cells (only empty_string) β) (get_or cells A 0)
      go p A β rule =
          let unchanged : first_steps book places p cells ≡ cells = passed_nothing (first_expands book places) count cells same p (omega (arith, index.counted, below_rule rule)) in
          let inside : A < length cells = omega (arith, (lists_limits index).well_formed.left_known rule, (lists_limits index).nonterminals_fit) in
          united_nothing cells A (trail cells (only empty_string) β) inside (rw (left_is index rule, right_is index rule) at unchanged)

  -- where a pass changes nothing, the sets are FIRST
  pub first_found : {cells : List ℕ} → Round FirstSoFar cells → first_pass cells ≡ cells → FirstFound book places count cells
  first_found {cells} round same = record { sized = round.sized; none = round.so_far.none; found = found }
    where
      found : (g : Grammar) → Lists book places count g → FirstFamily g cells
      found g index =
          let so_far = round.so_far.of g index in
          let exact = first_words_exact (lists_limits index) (λ A a. round.fits.each A) so_far.sound (first_closed index round.sized same) in
          record { sized = round.sized; each = exact.each; beyond = so_far.ends.beyond }
