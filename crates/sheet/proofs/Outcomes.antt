-- Writing and reading allow one outcome only.
use mathlib.Core.Path.{◌≡◌, refl, sym, ap, ap₂, ◌∙◌, subst}
use mathlib.Core.List.{List, [], ◌++◌, append-nil}
use Prim.Native.Nat.{ℕ, suc, ◌<◌}
use native.Mathlib.Omega.{arith}
use native.Mathlib.Decide.{dec_lt}
use lib.ListN.{length, take}
use lib.Seq.{take_all}
use Rattle.grammar.specs.Grammar.{Grammar}
use Rattle.answers.specs.declared.Answer.{Answer}
use Rattle.answers.specs.Answers.{refusal}
use Rattle.answers.specs.Refusals.{number_of, short, extra, form}
use Rattle.answers.specs.declared.refusals.Refusal.{Refusal}
use Rattle.reader.specs.Book.{bytes_of}
use Rattle.reader.proofs.Promise.{refused_not_reads}
use Rattle.sheet.specs.Sheet.{Draft, draft_text, draft_of, sheet_of, HasForm, Begins, BreaksAt, first_line, lines_text, announced, fields_of, FirstFault, Faultless}
use Rattle.sheet.specs.Calls.{Copied, no_room, served, WriteOutcome, misread, written, ReadOutcome, malformed, faulty, missing, beyond, booked}
use Rattle.sheet.proofs.Place.{form_place, begins_take}
use Rattle.sheet.proofs.Drafts.{draft_unique}
use Rattle.sheet.proofs.Faults.{fault_unique, fault_not_faultless}
use Rattle.sheet.proofs.Fields.{sheet_faultless}

pub copied_unique : {bytes buffer : List ℕ} {a b : Answer} {c d : List ℕ} → Copied bytes buffer a c → Copied bytes buffer b d → (a ≡ b) × (c ≡ d)
copied_unique (no_room few) (no_room short) = (refl, refl)
copied_unique (no_room few) (served enough) = absurd (omega arith)
copied_unique (served enough) (no_room few) = absurd (omega arith)
copied_unique (served enough) (served plenty) = (refl, refl)

pub write_outcome_unique : {book buffer : List ℕ} {a b : Answer} {c d : List ℕ}
    → WriteOutcome book buffer a c → WriteOutcome book buffer b d → (a ≡ b) × (c ≡ d)
write_outcome_unique (misread {why = n} {place = p} e) (misread {why = m} {place = q} f) =
    let kinds : n ≡ m = cc in
    let places : p ≡ q = cc in
    (ap₂ (λ (why : Refusal) (p : ℕ). refusal (number_of why) p 0) kinds places, refl)
write_outcome_unique (misread e) (written f copied) = absurd (refused_not_reads e f)
write_outcome_unique (written e copied) (misread f) = absurd (refused_not_reads f e)
write_outcome_unique {buffer = buffer} {b = b} {d = d} (written {g = g} e copied) (written {g = h} f again) =
    let same : h ≡ g = cc in
    copied_unique copied (subst (λ g. Copied (sheet_of g) buffer b d) same again)

-- a text with the form breaks it nowhere
pub form_unbroken : {text : List ℕ} {k : ℕ} → HasForm text → BreaksAt text k → ⊥
form_unbroken {text} {k} has breaks = by (dec_lt k (length text))
  where
    whole : Begins (take (length text) text)
    whole = record { rest = []; form = rw (take_all (length text) text (omega arith), append-nil text) has }

    by : Dec (k < length text) → ⊥
    by (yes inside) = breaks.blocked inside (begins_take text (suc k) (length text) inside whole)
    by (no outside) = breaks.broken_off (omega (arith, breaks.inside)) has

-- what reading answers to a text of this draft
data Answered (d : Draft) (buffer : List ℕ) : Answer → List ℕ → Type 0 where
  at_fault : {why : Refusal} {place : ℕ} → FirstFault (fields_of d) why place → Answered d buffer (refusal (number_of why) place 0) buffer
  lacking : Faultless (fields_of d) → length d.productions < d.count → Answered d buffer (refusal short (length (draft_text d)) 0) buffer
  too_long : Faultless (fields_of d) → d.count < length d.productions
      → Answered d buffer (refusal extra (length (first_line d ++ lines_text (announced d))) 0) buffer
  whole : (g : Grammar) {a : Answer} {c : List ℕ} → Faultless (fields_of d) → d ≡ draft_of g → Copied (bytes_of g) buffer a c → Answered d buffer a c

grammar_counted : {d : Draft} (g : Grammar) → d ≡ draft_of g → d.count ≡ length d.productions
unfolding draft_of
grammar_counted g e = ap (λ (d : Draft). d.count) e ∙ sym (ap (λ (d : Draft). length d.productions) e)

grammar_same : {d : Draft} (g h : Grammar) → d ≡ draft_of g → d ≡ draft_of h → h ≡ g
unfolding draft_of
grammar_same g h e f =
    ap (λ (d : Draft). record { tokens = d.tokens; nonterminals = d.nonterminals; start = d.start; productions = d.productions }) (sym f ∙ e)

answered_unique : {d : Draft} {buffer : List ℕ} {a b : Answer} {c e : List ℕ} → Answered d buffer a c → Answered d buffer b e → (a ≡ b) × (c ≡ e)
answered_unique (at_fault f) (at_fault g) = let (kinds, places) = fault_unique f g in (ap₂ (λ (why : Refusal) (p : ℕ). refusal (number_of why) p 0) kinds places, refl)
answered_unique (at_fault f) (lacking fine few) = absurd (fault_not_faultless f fine)
answered_unique (at_fault f) (too_long fine many) = absurd (fault_not_faultless f fine)
answered_unique (at_fault f) (whole g fine same copied) = absurd (fault_not_faultless f fine)
answered_unique (lacking fine few) (at_fault f) = absurd (fault_not_faultless f fine)
answered_unique (lacking fine few) (lacking good less) = (refl, refl)
answered_unique (lacking fine few) (too_long good many) = absurd (omega arith)
answered_unique (lacking fine few) (whole g good same copied) = absurd (omega (arith, grammar_counted g same))
answered_unique (too_long fine many) (at_fault f) = absurd (fault_not_faultless f fine)
answered_unique (too_long fine many) (lacking good few) = absurd (omega arith)
answered_unique (too_long fine many) (too_long good more) = (refl, refl)
answered_unique (too_long fine many) (whole g good same copied) = absurd (omega (arith, grammar_counted g same))
answered_unique (whole g fine same copied) (at_fault f) = absurd (fault_not_faultless f fine)
answered_unique (whole g fine same copied) (lacking good few) = absurd (omega (arith, grammar_counted g same))
answered_unique (whole g fine same copied) (too_long good many) = absurd (omega (arith, grammar_counted g same))
answered_unique {buffer = buffer} {b = b} {e = e} (whole g fine same copied) (whole h good also again) =
    copied_unique copied (subst (λ g. Copied (bytes_of g) buffer b e) (grammar_same g h same also) again)

-- an outcome is a broken form, or an answer to a draft
data Split (sheet buffer : List ℕ) : Answer → List ℕ → Type 0 where
  broken : {k : ℕ} → BreaksAt sheet k → Split sheet buffer (refusal form k 0) buffer
  drafted : (d : Draft) {a : Answer} {c : List ℕ} → sheet ≡ draft_text d → Answered d buffer a c → Split sheet buffer a c

split : {sheet buffer : List ℕ} {a : Answer} {c : List ℕ} → ReadOutcome sheet buffer a c → Split sheet buffer a c
unfolding sheet_of
split (malformed breaks) = broken breaks
split (faulty d told first) = drafted d told (at_fault first)
split {buffer = buffer} (missing d told fine few) =
    drafted d told (subst (λ (text : List ℕ). Answered d buffer (refusal short (length text) 0) buffer) (sym told) (lacking fine few))
split (beyond d told fine many) = drafted d told (too_long fine many)
split (booked g told limits copied) = drafted (draft_of g) told (whole g (sheet_faultless g limits) refl copied)

split_unique : {sheet buffer : List ℕ} {a b : Answer} {c d : List ℕ} → Split sheet buffer a c → Split sheet buffer b d → (a ≡ b) × (c ≡ d)
split_unique (broken breaks) (broken again) = (ap (λ (k : ℕ). refusal form k 0) (form_place breaks again), refl)
split_unique (broken breaks) (drafted d told answered) = absurd (form_unbroken (record { draft = d; told = told }) breaks)
split_unique (drafted d told answered) (broken breaks) = absurd (form_unbroken (record { draft = d; told = told }) breaks)
split_unique {buffer = buffer} {b = b} {d = after} (drafted d told answered) (drafted e also again) =
    answered_unique answered (subst (λ d. Answered d buffer b after) (draft_unique e d (sym also ∙ told)) again)

pub read_outcome_unique : {sheet buffer : List ℕ} {a b : Answer} {c d : List ℕ}
    → ReadOutcome sheet buffer a c → ReadOutcome sheet buffer b d → (a ≡ b) × (c ≡ d)
read_outcome_unique one other = split_unique (split one) (split other)
