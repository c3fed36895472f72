-- A sheet that has the form, judged by place, comes to the first fault of its fields, or to the lines that are missing or too many.
use mathlib.Core.Path.{◌≡◌, refl, sym, ap, ◌∙◌, subst}
use mathlib.Core.Bool.{Bool, true, false, ◌&&◌, cond, true≢false}
use mathlib.Core.List.{List, [], ◌∷◌, ◌++◌, append_assoc}
use Prim.Native.Nat.{ℕ, zero, suc, ◌+◌, ◌≤◌, ◌<◌, min}
use native.Mathlib.Nat.{add-zero}
use native.Mathlib.Decide.{dec_lt}
use native.Mathlib.Omega.{arith}
use borrow.Author.Tests.{le-leb, lt-ltb, le-ltb, leb-true, ltb-true}
use lib.Dec.{leb, ltb}
use lib.ListN.{length, take, drop, get_or, length-drop, length-append}
use lib.Seq.{take_all}
use Rattle.grammar.specs.declared.Symbol.{Symbol}
use Rattle.grammar.specs.declared.Symbol.TheVariants.{Token, Nonterminal}
use Rattle.grammar.specs.Grammar.{Form, Production, nothing, each}
use Rattle.grammar.proofs.Every.{every_append}
use Rattle.answers.specs.Limits.{most_tokens, most_nonterminals, most_productions, most_symbols}
use Rattle.answers.specs.declared.refusals.Refusal.{Refusal}
use Rattle.answers.specs.declared.refusals.Refusal.TheVariants as refusals
use Rattle.text.specs.Text.{decimal}
use Rattle.text.specs.Reading.{is_digit, most_read}
use Rattle.text.specs.declared.Number.{Number}
use Rattle.std.specs.Prelude.{Ok}
use Rattle.reader.specs.Verdicts.{Verdict, bad, and_then}
use Rattle.sheet.specs.Sheet.{line_feed, space, letter_n, letter_t, Draft, symbol_text, symbols_text, line_text, lines_text, first_line, draft_text}
use Rattle.sheet.specs.Sheet.{Field, InRange, field, symbol_field, symbols_fields, line_fields, lines_fields, first_fields, announced, fields_of, FirstFault, here, later, Faultless}
use Rattle.sheet.specs.Judging.{past, head_in, both, checked, head_judged, is_space, highest, symbol_judged, closed, symbols_judged, line_judged, next_judged, lines_judged, ended_at, end_judged, sheet_judged}
use Rattle.sheet.proofs.Standing.{rest_past, rest_on, number_of, symbol_space, symbol_letter, symbol_digits, symbol_number_lem, behind_symbols, no_space, right_from, LineAt, line_at, second, third, fourth, HeadAt, head_at}

-- judging fields comes to the first fault, or goes on to a place
pub data Judges (fs : List Field) (end : ℕ) : Verdict → Type 0 where
  fine : Faultless fs → Judges fs end (Ok end)
  wrong : {why : Refusal} {place : ℕ} → FirstFault fs why place → Judges fs end (bad why place)

fault_front : {fs : List Field} (gs : List Field) {n : Refusal} {p : ℕ} → FirstFault fs n p → FirstFault (fs ++ gs) n p
fault_front gs (here out) = here out
fault_front gs (later in_range first) = later in_range (fault_front gs first)

fault_behind : {fs gs : List Field} {n : Refusal} {p : ℕ} → Faultless fs → FirstFault gs n p → FirstFault (fs ++ gs) n p
fault_behind nothing first = first
fault_behind (each in_range all) first = later in_range (fault_behind all first)

judges_behind : {fs gs : List Field} {end : ℕ} {v : Verdict} → Faultless fs → Judges gs end v → Judges (fs ++ gs) end v
judges_behind {fs} {gs} all (fine more) = fine (every_append fs gs all more)
judges_behind all (wrong first) = wrong (fault_behind all first)

pub judges_then : {fs : List Field} {middle : ℕ} {v : Verdict} (gs : List Field) {end : ℕ} (next : ℕ → Verdict)
    → Judges fs middle v
    → (Faultless fs → Judges gs end (next middle))
    → Judges (fs ++ gs) end (and_then v next)
unfolding and_then
judges_then gs next (fine all) more = judges_behind all (more all)
judges_then gs next (wrong first) more = wrong (fault_front gs first)

and_true : (x y : Bool) → x && y ≡ true → (x ≡ true) × (y ≡ true)
and_true true y e = (refl, e)
and_true false y e = absurd (true≢false (sym e))

-- a number that was read is judged as its field, since every range ends below the largest that is read
pub field_judged : (f : Field) (number : Number) → number.value ≡ min f.value most_read → f.high ≤ most_read
    → Judges (f ∷ []) number.next (checked number f.low f.high f.why f.place)
unfolding checked
field_judged f number same small = by (leb f.low number.value && ltb number.value f.high) refl
  where
    by : (x : Bool) → leb f.low number.value && ltb number.value f.high ≡ x
        → Judges (f ∷ []) number.next (cond x (Ok number.next) (bad f.why f.place))
    by true e =
        let (low, high) = and_true (leb f.low number.value) (ltb number.value f.high) e in
        let above : f.low ≤ number.value = leb-true f.low number.value low in
        let below : number.value < f.high = ltb-true number.value f.high high in
        fine (each {x = f} (record { above = omega arith; below = omega arith }) nothing)
    by false e =
        wrong
        (here {f = f}
        (λ inside.
        let above : f.low ≤ number.value = omega (arith, inside.above, inside.below) in
        let below : number.value < f.high = omega (arith, inside.below) in
        true≢false (sym (rw (le-leb f.low number.value above, lt-ltb number.value f.high below)) ∙ e)))

module _ (text : List ℕ) (T N : ℕ) (T-small : T ≤ most_read) (N-small : N ≤ most_read) where
  symbol_judged_lem : (at : ℕ) (s : Symbol) (rest : List ℕ) → drop at text ≡ symbol_text s ++ rest → is_digit (get_or rest 0 0) ≡ false
      → (is_space text at ≡ true)
      × (past text at ≡ at + 1)
      × Judges (symbol_field T N at s ∷ []) (at + length (symbol_text s)) (symbol_judged text T N at)
  unfolding symbol_text symbol_field symbol_judged highest
  symbol_judged_lem at (Token t) rest stands other =
      let one : suc at ≡ at + 1 = omega arith in
      let end : at + length (space ∷ letter_t ∷ decimal t) ≡ at + 2 + length (decimal t) = omega arith in (
        symbol_space text at letter_t t rest stands,
        rest_past text at stands ∙ one,
        rw (symbol_letter text at letter_t t rest stands, symbol_digits text at letter_t t rest stands, symbol_number_lem text at letter_t t rest stands other, end)
            (field_judged (field t 0 T refusals.Symbol (at + 2)) (number_of t (at + 2)) refl T-small),
      )
  symbol_judged_lem at (Nonterminal n) rest stands other =
      let one : suc at ≡ at + 1 = omega arith in
      let end : at + length (space ∷ letter_n ∷ decimal n) ≡ at + 2 + length (decimal n) = omega arith in (
        symbol_space text at letter_n n rest stands,
        rest_past text at stands ∙ one,
        rw (symbol_letter text at letter_n n rest stands, symbol_digits text at letter_n n rest stands, symbol_number_lem text at letter_n n rest stands other, end)
            (field_judged (field n 0 N refusals.Symbol (at + 2)) (number_of n (at + 2)) refl N-small),
      )

  symbols_judged_lem : (room at : ℕ) (form : Form) (rest : List ℕ) → drop at text ≡ symbols_text form ++ (line_feed ∷ rest)
      → Judges (symbols_fields T N room at form) (at + length (symbols_text form)) (symbols_judged text T N room at)
  unfolding symbols_text symbols_fields symbols_judged closed
  symbols_judged_lem zero at [] rest stands = rw (no_space text at rest stands, add-zero) (fine nothing)
  symbols_judged_lem (suc room) at [] rest stands = rw (no_space text at rest stands, add-zero) (fine nothing)
  symbols_judged_lem zero at (s ∷ form) rest stands =
      let more : List ℕ = symbols_text form ++ (line_feed ∷ rest) in
      let first : drop at text ≡ symbol_text s ++ more = stands ∙ append_assoc (symbol_text s) (symbols_text form) (line_feed ∷ rest) in
      let (space_here, letter_here, judged) = symbol_judged_lem at s more first (behind_symbols form rest) in
      let out : ¬ InRange (field 0 0 0 refusals.Limit (at + 1)) = λ inside. absurd (omega (arith, inside.below)) in
      rw (space_here, letter_here) (wrong (here out))
  symbols_judged_lem (suc room) at (s ∷ form) rest stands =
      let more : List ℕ = symbols_text form ++ (line_feed ∷ rest) in
      let first : drop at text ≡ symbol_text s ++ more = stands ∙ append_assoc (symbol_text s) (symbols_text form) (line_feed ∷ rest) in
      let (space_here, letter_here, judged) = symbol_judged_lem at s more first (behind_symbols form rest) in
      let next : ℕ = at + length (symbol_text s) in
      let end : at + length (symbol_text s ++ symbols_text form) ≡ next + length (symbols_text form) =
      omega (arith, length-append (symbol_text s) (symbols_text form)) in
      rw (space_here, end)
      (judges_then (symbols_fields T N room next form) (symbols_judged text T N room) judged
      (λ all. symbols_judged_lem room next form rest (rest_on text at (symbol_text s) more first)))

  line_judged_lem : (at : ℕ) (r : Production) (rest : List ℕ) → LineAt text at r rest
      → Judges (line_fields T N at r) (right_from at r + length (symbols_text r.right)) (line_judged text T N at)
  unfolding line_fields line_judged both
  line_judged_lem at r rest l =
      rw (l.left, l.letter, l.right)
      (judges_then (symbols_fields T N most_symbols (right_from at r) r.right) (λ next. symbols_judged text T N most_symbols (right_from at r))
      (field_judged (field r.left 0 N refusals.Symbol (at + 1)) (number_of r.left (at + 1)) refl N-small)
      (λ all. symbols_judged_lem most_symbols (right_from at r) r.right rest l.symbols))

-- judging so many of the lines that stand from a place on
pub data LinesJudge (text : List ℕ) (T N at count : ℕ) (ps : List Production) : Verdict → Type 0 where
  all_there : count ≤ length ps
      → Faultless (lines_fields T N at (take count ps))
      → LinesJudge text T N at count ps (Ok (at + length (lines_text (take count ps))))
  too_few : length ps < count
      → Faultless (lines_fields T N at (take count ps))
      → LinesJudge text T N at count ps (bad refusals.Short (length text))
  at_fault : {why : Refusal} {place : ℕ}
      → FirstFault (lines_fields T N at (take count ps)) why place
      → LinesJudge text T N at count ps (bad why place)

lines_more : {text : List ℕ} {T N at count : ℕ} {ps : List Production} (r : Production) {v : Verdict}
    → Faultless (line_fields T N at r)
    → LinesJudge text T N (at + length (line_text r)) count ps v
    → LinesJudge text T N at (suc count) (r ∷ ps) v
unfolding lines_fields lines_text
lines_more {text} {T} {N} {at} {count} {ps} r all (all_there enough more) =
    let end : at + length (line_text r) + length (lines_text (take count ps)) ≡ at + length (line_text r ++ lines_text (take count ps)) =
    omega (arith, length-append (line_text r) (lines_text (take count ps))) in
    let all_enough : suc count ≤ length (r ∷ ps) = omega arith in
    rw end
    (all_there all_enough
    (every_append (line_fields T N at r) (lines_fields T N (at + length (line_text r)) (take count ps)) all more))
lines_more {T = T} {N} {at} {count} {ps} r all (too_few few more) =
    let too : length (r ∷ ps) < suc count = omega arith in
    too_few too
    (every_append (line_fields T N at r) (lines_fields T N (at + length (line_text r)) (take count ps)) all more)
lines_more r all (at_fault first) = at_fault (fault_behind all first)

module _ (text : List ℕ) (T N : ℕ) (T-small : T ≤ most_read) (N-small : N ≤ most_read) where
  lines_judged_lem : (count at : ℕ) (ps : List Production) → drop at text ≡ lines_text ps
      → LinesJudge text T N at count ps (lines_judged text T N count at)
  unfolding lines_judged next_judged lines_fields lines_text and_then
  lines_judged_lem zero at ps stands =
      subst (λ (end : ℕ). LinesJudge text T N at zero ps (Ok end)) (add-zero at) (all_there (omega arith) nothing)
  lines_judged_lem (suc count) at [] stands =
      rw (le-ltb at (length text) (omega (arith, length-drop at text, ap length stands))) (too_few (omega arith) nothing)
  lines_judged_lem (suc count) at (r ∷ ps) stands =
      let l : LineAt text at r (lines_text ps) = line_at text at r (lines_text ps) stands in
      let rest : LinesJudge text T N (at + length (line_text r)) count ps (lines_judged text T N count (at + length (line_text r))) =
      lines_judged_lem count (at + length (line_text r)) ps l.next in
      rw (lt-ltb at (length text) l.inside) (by l rest (line_judged_lem text T N T-small N-small at r (lines_text ps) l))
    where
      by : {v : Verdict} → LineAt text at r (lines_text ps)
          → LinesJudge text T N (at + length (line_text r)) count ps (lines_judged text T N count (at + length (line_text r)))
          → Judges (line_fields T N at r) (right_from at r + length (symbols_text r.right)) v
          → LinesJudge text T N at (suc count) (r ∷ ps) (and_then v λ end. lines_judged text T N count (past text end))
      by l rest (fine all) = rw l.end (lines_more r all rest)
      by l rest (wrong first) = at_fault (fault_front (lines_fields T N (at + length (line_text r)) (take count ps)) first)

-- the four numbers of the first line
head_judged_lem : (text : List ℕ) (d : Draft) → HeadAt text d
    → Judges (first_fields d) (fourth d + length (decimal d.count)) (head_judged text (head_in text))
unfolding first_fields head_judged both
head_judged_lem text d h =
    let one : Verdict = checked (number_of d.tokens 0) 1 (suc most_tokens) refusals.Limit 0 in
    let two : Verdict = checked (number_of d.nonterminals (second d)) 1 (suc most_nonterminals) refusals.Limit (second d) in
    let three : Verdict = checked (number_of d.start (third d)) 0 (min d.nonterminals most_read) refusals.Limit (third d) in
    let four : Verdict = checked (number_of d.count (fourth d)) 1 (suc most_productions) refusals.Limit (fourth d) in
    let tokens : Field = field d.tokens 1 (suc most_tokens) refusals.Limit 0 in
    let nonterminals : Field = field d.nonterminals 1 (suc most_nonterminals) refusals.Limit (second d) in
    let start : Field = field d.start 0 d.nonterminals refusals.Limit (third d) in
    let count : Field = field d.count 1 (suc most_productions) refusals.Limit (fourth d) in
    rw (h.head, h.second_at, h.third_at, h.fourth_at)
    (judges_then (nonterminals ∷ start ∷ count ∷ []) (λ at. both two (both three four))
    (field_judged tokens (number_of d.tokens 0) refl (omega arith))
    (λ fine_tokens. judges_then (start ∷ count ∷ []) (λ at. both three four)
    (field_judged nonterminals (number_of d.nonterminals (second d)) refl (omega arith))
    (λ fine_nonterminals.
    let same : min d.nonterminals most_read ≡ d.nonterminals = small fine_nonterminals in
    rw same
    (judges_then (count ∷ []) (λ at. four)
    (field_judged start (number_of d.start (third d)) refl (omega (arith, same)))
    (λ fine_start. field_judged count (number_of d.count (fourth d)) refl (omega arith))))))
  where
    small : Faultless (field d.nonterminals 1 (suc most_nonterminals) refusals.Limit (second d) ∷ [])
        → min d.nonterminals most_read ≡ d.nonterminals
    small (each inside nothing) = omega (arith, inside.below)

-- numbers in range are read as they are
record Small (d : Draft) : Type 0 where
  tokens : min d.tokens most_read ≡ d.tokens
  nonterminals : min d.nonterminals most_read ≡ d.nonterminals
  count : min d.count most_read ≡ d.count

first_small : (d : Draft) → Faultless (first_fields d) → Small d
unfolding first_fields
first_small d (each tokens (each nonterminals (each start (each count nothing)))) =
    record {
      tokens = omega (arith, tokens.below);
      nonterminals = omega (arith, nonterminals.below);
      count = omega (arith, count.below);
    }

-- fewer lines have fewer bytes
lines_shorter : (count : ℕ) (ps : List Production) → count < length ps → length (lines_text (take count ps)) < length (lines_text ps)
unfolding lines_text line_text
lines_shorter count [] less = absurd (omega arith)
lines_shorter zero (r ∷ ps) less = omega (arith, length-append (line_text r) (lines_text ps))
lines_shorter (suc count) (r ∷ ps) less =
    omega (
      arith,
      length-append (line_text r) (lines_text (take count ps)),
      length-append (line_text r) (lines_text ps),
      lines_shorter count ps (omega arith),
    )

-- what a sheet's draft comes to
pub data DraftJudge (text : List ℕ) (d : Draft) : Verdict → Type 0 where
  faulted : {why : Refusal} {place : ℕ}
      → FirstFault (fields_of d) why place
      → DraftJudge text d (bad why place)
  few : Faultless (fields_of d)
      → length d.productions < d.count
      → DraftJudge text d (bad refusals.Short (length text))
  many : Faultless (fields_of d)
      → d.count < length d.productions
      → DraftJudge text d (bad refusals.Extra (length (first_line d ++ lines_text (announced d))))
  good : {end : ℕ}
      → Faultless (fields_of d)
      → d.count ≡ length d.productions
      → DraftJudge text d (Ok end)

module _ (text : List ℕ) (d : Draft) (told : text ≡ draft_text d) where
  size : length text ≡ length (first_line d) + length (lines_text d.productions)
  unfolding draft_text
  size = ap length told ∙ length-append (first_line d) (lines_text d.productions)

  abbrev end : ℕ
  end = length (first_line d) + length (lines_text (take d.count d.productions))

  end_judged_lem : (all : Faultless (first_fields d)) {v : Verdict}
      → LinesJudge text d.tokens d.nonterminals (length (first_line d)) d.count d.productions v
      → DraftJudge text d (end_judged text v)
  unfolding end_judged ended_at and_then fields_of announced
  end_judged_lem all (at_fault first) = faulted (fault_behind all first)
  end_judged_lem all (too_few less more) =
      few
      (every_append (first_fields d) (lines_fields d.tokens d.nonterminals (length (first_line d)) (take d.count d.productions)) all more)
      less
  end_judged_lem all (all_there enough more) =
      by (dec_lt d.count (length d.productions))
      (every_append (first_fields d) (lines_fields d.tokens d.nonterminals (length (first_line d)) (take d.count d.productions)) all more)
    where
      by : Dec (d.count < length d.productions) → Faultless (fields_of d)
          → DraftJudge text d (cond (ltb end (length text)) (bad refusals.Extra end) (Ok end))
      by (yes less) fine_all =
          let inside : end < length text = omega (arith, size, lines_shorter d.count d.productions less) in
          let place : length (first_line d ++ lines_text (take d.count d.productions)) ≡ end =
          length-append (first_line d) (lines_text (take d.count d.productions)) in
          rw (lt-ltb end (length text) inside, ← place) (many fine_all less)
      by (no other) fine_all =
          let same : d.count ≡ length d.productions = omega arith in
          let whole : take d.count d.productions ≡ d.productions = take_all d.count d.productions (omega arith) in
          let past_end : length text ≤ end = omega (arith, size, ap (λ (ps : List Production). length (lines_text ps)) whole) in
          rw (le-ltb end (length text) past_end) (good fine_all same)

  -- judging the sheet by place comes to what its draft comes to
  pub sheet_judged_lem : DraftJudge text d (sheet_judged text (head_in text))
  unfolding sheet_judged both fields_of and_then
  sheet_judged_lem =
      let h : HeadAt text d = head_at text d told in
      by h (head_judged_lem text d h)
    where
      by : {v : Verdict} → HeadAt text d
          → Judges (first_fields d) (fourth d + length (decimal d.count)) v
          → DraftJudge text d
          (both v
          (end_judged text
          (lines_judged text (head_in text).tokens.value (head_in text).nonterminals.value (head_in text).count.value
          (past text (head_in text).count.next))))
      by h (wrong first) =
          faulted
          (fault_front (lines_fields d.tokens d.nonterminals (length (first_line d)) (announced d)) first)
      by h (fine all) =
          let s = first_small d all in
          rw (h.head, s.tokens, s.nonterminals, s.count, h.lines_at)
          (end_judged_lem all
          (lines_judged_lem text d.tokens d.nonterminals (omega (arith, s.tokens)) (omega (arith, s.nonterminals)) d.count
          (length (first_line d))
          d.productions
          h.lines))
