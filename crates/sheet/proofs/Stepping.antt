-- The laws by which the code of `form` meets its contracts: each case of a step, and what the bytes read so far have come to.
use mathlib.Core.Path.{◌≡◌, refl, sym, ap, ◌∙◌}
use mathlib.Core.Bool.{true, false}
use mathlib.Core.List.{List, [], ◌∷◌}
use Prim.Native.Nat.{ℕ, suc, ◌+◌, ◌≤◌, ◌<◌}
use native.Mathlib.Omega.{arith}
use borrow.Author.Tests.{eq-eqb, ne_eqb}
use lib.ListN.{length, take, get_or}
use lib.Seq.{take-suc, take_all}
use Rattle.text.specs.Reading.{is_digit}
use Rattle.std.specs.Prelude.{Option, Some, None}
use Rattle.sheet.specs.Sheet.{line_feed, space, letter_n, letter_t, HasForm, BreaksAt}
use Rattle.sheet.specs.Form.{zero_digit, wants, behind, begin, go_on, letter, step, lead, after}
use Rattle.sheet.specs.declared.form.Slot.{Slot}
use Rattle.sheet.specs.declared.form.Slot.TheVariants.{Tokens, Right}
use Rattle.sheet.specs.declared.form.Phase.{Phase}
use Rattle.sheet.specs.declared.form.Phase.TheVariants.{First, More, Behind, Line, Letter}
use Rattle.sheet.proofs.Place.{form_exact, after_append, breaks_inside, breaks_off}

pub behind_same : {slot other : Slot} {r : Option Phase} (b : ℕ) → slot ≡ other → r ≡ behind other b → r ≡ behind slot b
behind_same b told e = e ∙ ap (λ s. behind s b) (sym told)

pub right_space : (b : ℕ) → b ≡ space → Some Letter ≡ behind Right b
unfolding behind
right_space b e = rw (eq-eqb b space e)

pub right_other : {r : Option Phase} (b : ℕ) → (b ≡ space → ⊥) → r ≡ wants b line_feed Line → r ≡ behind Right b
unfolding behind
right_other b other e = rw (ne_eqb b space other) e

pub begin_zero : (slot : Slot) (b : ℕ) → b ≡ zero_digit → Some (Behind slot) ≡ begin slot b
unfolding begin
begin_zero slot b e = rw (eq-eqb b zero_digit e)

pub begin_digit : (slot : Slot) (b : ℕ) → (b ≡ zero_digit → ⊥) → is_digit b ≡ true → Some (More slot) ≡ begin slot b
unfolding begin
begin_digit slot b other d = rw (ne_eqb b zero_digit other, d)

pub begin_stuck : (slot : Slot) (b : ℕ) → (b ≡ zero_digit → ⊥) → is_digit b ≡ false → None ≡ begin slot b
unfolding begin
begin_stuck slot b other d = rw (ne_eqb b zero_digit other, d)

pub more_digit : (slot : Slot) (b : ℕ) → is_digit b ≡ true → Some (More slot) ≡ go_on slot b
unfolding go_on
more_digit slot b d = rw d

pub more_other : {r : Option Phase} (slot : Slot) (b : ℕ) → is_digit b ≡ false → r ≡ behind slot b → r ≡ go_on slot b
unfolding go_on
more_other slot b d e = rw d e

pub letter_t_lem : (b : ℕ) → b ≡ letter_t → Some (First Right) ≡ letter b
unfolding letter
letter_t_lem b e = rw (eq-eqb b letter_t e)

pub letter_other : {r : Option Phase} (b : ℕ) → (b ≡ letter_t → ⊥) → r ≡ wants b letter_n (First Right) → r ≡ letter b
unfolding letter
letter_other b other e = rw (ne_eqb b letter_t other) e

pub step_same : {phase other : Phase} {r : Option Phase} (b : ℕ) → phase ≡ other → r ≡ step other b → r ≡ step phase b
step_same b told e = e ∙ ap (λ p. step p b) (sym told)

-- the first bytes have come to this phase
pub record Reached (text : List ℕ) (phase : Phase) (at : ℕ) : Type 0 where
  pub inside : at ≤ length text
  pub read : after (Some (First Tokens)) (take at text) ≡ Some phase

pub reached_start : (text : List ℕ) → Reached text (First Tokens) 0
unfolding after lead
reached_start text = record { inside = omega arith; read = refl }

module _ {text : List ℕ} {phase : Phase} {at : ℕ} (r : Reached text phase at) where
  -- one byte more
  read_next : at < length text → after (Some (First Tokens)) (take (suc at) text) ≡ step phase (get_or text at 0)
  unfolding after lead
  read_next inside =
      ap (after (Some (First Tokens))) (take-suc text at 0 inside)
      ∙ after_append (Some (First Tokens)) (take at text) (get_or text at 0 ∷ [])
      ∙ ap (λ p. lead p (get_or text at 0)) r.read

  pub reached_more : {next : Phase} → at < length text → step phase (get_or text at 0) ≡ Some next → Reached text next (at + 1)
  reached_more inside leads =
      let one : at + 1 ≡ suc at = omega arith in
      record {
        inside = omega arith;
        read = ap (λ (k : ℕ). after (Some (First Tokens)) (take k text)) one ∙ read_next inside ∙ leads;
      }

  -- a byte that leads nowhere is the place
  pub reached_stuck : at < length text → step phase (get_or text at 0) ≡ None → BreaksAt text at
  reached_stuck inside stuck = breaks_inside text at inside (λ none. let read = r.read in cc) (read_next inside ∙ stuck)

  -- the end of the text: it has the form at the start of a line, and breaks off elsewhere
  module _ (past : length text ≤ at) where
    all_read : after (Some (First Tokens)) text ≡ Some phase
    all_read = ap (after (Some (First Tokens))) (sym (take_all at text past)) ∙ r.read

    pub reached_form : phase ≡ Line → HasForm text
    reached_form line = (form_exact text).1 (all_read ∙ ap Some line)

    pub reached_short : (phase ≡ Line → ⊥) → BreaksAt text (length text)
    reached_short other =
        breaks_off text (λ none. let read = all_read in cc)
        (λ line. let read = all_read in let same : phase ≡ Line = cc in other same)
