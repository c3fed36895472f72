-- Where a text stops having the form: it begins a sheet exactly as long as the phases lead on, and the place is one.
use mathlib.Core.Path.{◌≡◌, refl, sym, ap, ◌∙◌, subst}
use mathlib.Core.Logic.{◌↔◌}
use mathlib.Core.List.{List, [], ◌∷◌, ◌++◌, append_assoc}
use Prim.Native.Nat.{ℕ, suc, ◌+◌, ◌-◌, ◌≤◌, ◌<◌}
use native.Mathlib.Omega.{arith}
use lib.ListN.{length, take, drop}
use lib.Seq.{take_all, take-add}
use Rattle.std.specs.Prelude.{Option, Some, None}
use Rattle.sheet.specs.Sheet.{HasForm, Begins, BreaksAt}
use Rattle.text.specs.Reading.{is_digit}
use Rattle.sheet.specs.Form.{wants, behind, step, begin, go_on, letter, lead, after}
use Rattle.sheet.specs.declared.form.Slot.{Slot}
use Rattle.sheet.specs.declared.form.Slot.TheVariants.{Tokens, Nonterminals, Start, Count, Left, Right}
use Rattle.sheet.specs.declared.form.Phase.{Phase}
use Rattle.sheet.specs.declared.form.Phase.TheVariants.{First, More, Behind, Line, Colon, Letter}
use Rattle.sheet.proofs.FormSound.{reads_form}
use Rattle.sheet.proofs.FormComplete.{draft_read}

-- the text has the form exactly if it leads from the first number to the start of a line
pub form_exact : (text : List ℕ) → HasForm text ↔ (after (Some (First Tokens)) text ≡ Some Line)
form_exact text = (λ h. rw h.told (draft_read h.draft), reads_form text)

pub after_append : (phase : Option Phase) (u v : List ℕ) → after phase (u ++ v) ≡ after (after phase u) v
unfolding after lead
after_append phase [] v = refl
after_append phase (b ∷ u) v = after_append (lead phase b) u v

after_stuck : (text : List ℕ) → after None text ≡ None
unfolding after step begin go_on letter lead
after_stuck [] = refl
after_stuck (b ∷ text) = after_stuck text

-- 0 for each number that is missing, and the marks between them
behind_completion : Slot → List ℕ
behind_completion Tokens = 32 ∷ 48 ∷ 32 ∷ 48 ∷ 32 ∷ 48 ∷ 10 ∷ []
behind_completion Nonterminals = 32 ∷ 48 ∷ 32 ∷ 48 ∷ 10 ∷ []
behind_completion Start = 32 ∷ 48 ∷ 10 ∷ []
behind_completion Count = 10 ∷ []
behind_completion Left = 32 ∷ 58 ∷ 10 ∷ []
behind_completion Right = 10 ∷ []

-- every phase but one can be completed
completion : (phase : Option Phase) → ¬ (phase ≡ None) → (rest : List ℕ) × (after phase rest ≡ Some Line)
unfolding after step behind wants is_digit behind_completion begin go_on letter lead
completion (Some (First Tokens)) going = (48 ∷ behind_completion Tokens, refl)
completion (Some (First Nonterminals)) going = (48 ∷ behind_completion Nonterminals, refl)
completion (Some (First Start)) going = (48 ∷ behind_completion Start, refl)
completion (Some (First Count)) going = (48 ∷ behind_completion Count, refl)
completion (Some (First Left)) going = (48 ∷ behind_completion Left, refl)
completion (Some (First Right)) going = (48 ∷ behind_completion Right, refl)
completion (Some (More Tokens)) going = (behind_completion Tokens, refl)
completion (Some (More Nonterminals)) going = (behind_completion Nonterminals, refl)
completion (Some (More Start)) going = (behind_completion Start, refl)
completion (Some (More Count)) going = (behind_completion Count, refl)
completion (Some (More Left)) going = (behind_completion Left, refl)
completion (Some (More Right)) going = (behind_completion Right, refl)
completion (Some (Behind Tokens)) going = (behind_completion Tokens, refl)
completion (Some (Behind Nonterminals)) going = (behind_completion Nonterminals, refl)
completion (Some (Behind Start)) going = (behind_completion Start, refl)
completion (Some (Behind Count)) going = (behind_completion Count, refl)
completion (Some (Behind Left)) going = (behind_completion Left, refl)
completion (Some (Behind Right)) going = (behind_completion Right, refl)
completion (Some Line) going = ([], refl)
completion (Some Colon) going = (58 ∷ 10 ∷ [], refl)
completion (Some Letter) going = (110 ∷ 48 ∷ 10 ∷ [], refl)
completion None going = absurd (going refl)

-- the phases lead on exactly as long as some sheet begins so
pub begins_exact : (u : List ℕ) → Begins u ↔ (¬ (after (Some (First Tokens)) u ≡ None))
begins_exact u = (leads, begins)
  where
    leads : Begins u → ¬ (after (Some (First Tokens)) u ≡ None)
    leads h stuck =
        let line : after (Some (First Tokens)) (u ++ h.rest) ≡ Some Line = (form_exact (u ++ h.rest)).0 h.form in
        let none : None ≡ Some Line =
        sym (after_stuck h.rest) ∙ ap (λ phase. after phase h.rest) (sym stuck) ∙ sym (after_append (Some (First Tokens)) u h.rest) ∙ line in
        cc

    begins : ¬ (after (Some (First Tokens)) u ≡ None) → Begins u
    begins going =
        let (rest, line) = completion (after (Some (First Tokens)) u) going in
        record { rest = rest; form = (form_exact (u ++ rest)).1 (after_append (Some (First Tokens)) u rest ∙ line) }

-- what begins a beginning begins a sheet
begins_before : (u v : List ℕ) → Begins (u ++ v) → Begins u
begins_before u v h = record { rest = v ++ h.rest; form = rw append_assoc at h.form }

pub begins_take : (text : List ℕ) (i j : ℕ) → i ≤ j → Begins (take j text) → Begins (take i text)
begins_take text i j h b =
    let e : j ≡ i + (j - i) = omega arith in
    begins_before (take i text) (take (j - i) (drop i text)) (subst Begins (ap (λ (n : ℕ). take n text) e ∙ take-add i (j - i) text) b)

no_lower : {text : List ℕ} {i j : ℕ} → BreaksAt text i → BreaksAt text j → ¬ (i < j)
no_lower {text} {i} {j} a b h = a.blocked (omega (arith, b.inside)) (begins_take text (suc i) j h b.begun)

-- the place is one
pub form_place : {text : List ℕ} {i j : ℕ} → BreaksAt text i → BreaksAt text j → i ≡ j
form_place a b = omega (arith, no_lower a b, no_lower b a)

-- the first k bytes lead on, and the next one does not
pub breaks_inside : (text : List ℕ) (k : ℕ)
    → k < length text
    → ¬ (after (Some (First Tokens)) (take k text) ≡ None)
    → after (Some (First Tokens)) (take (suc k) text) ≡ None
    → BreaksAt text k
breaks_inside text k inside leads stops =
    record {
      inside = omega arith;
      begun = (begins_exact (take k text)).1 leads;
      blocked = λ h b. (begins_exact (take (suc k) text)).0 b stops;
      broken_off = λ e. absurd (omega arith);
    }

-- all of them lead on, but not to the start of a line
pub breaks_off : (text : List ℕ)
    → ¬ (after (Some (First Tokens)) text ≡ None)
    → ¬ (after (Some (First Tokens)) text ≡ Some Line)
    → BreaksAt text (length text)
breaks_off text leads unfinished =
    record {
      inside = omega arith;
      begun = rw (take_all (length text) text (omega arith)) ((begins_exact text).1 leads);
      blocked = λ h. absurd (omega arith);
      broken_off = λ e has. unfinished ((form_exact text).0 has);
    }

-- what leads to a phase leads on, and to the start of a line only if the phase is that
pub goes_on : {reached : Option Phase} {phase : Phase} → reached ≡ Some phase → ¬ (reached ≡ None)
goes_on at none = cc

pub no_line : {reached : Option Phase} {phase : Phase} → reached ≡ Some phase → ¬ (phase ≡ Line) → ¬ (reached ≡ Some Line)
no_line at other line = other cc
