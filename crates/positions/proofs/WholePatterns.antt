-- A text that is an alternation to its end is a pattern with its meaning; any other is bad where the alternation stops.
use mathlib.Core.Path.{◌≡◌, refl, ap, ◌∙◌, subst}
use mathlib.Core.Bool.{Bool, true, false}
use mathlib.Core.List.{List, []}
use mathlib.Core.Option.{none}
use Prim.Native.Nat.{ℕ, ◌≤◌, ◌<◌}
use native.Mathlib.Decide.{dec_lt, ℕ_discrete}
use native.Mathlib.Omega.{arith}
use lib.ListN.{length, get_or}
use Rattle.sets.proofs.Promise.{decides_true, decides_false}
use Rattle.pattern.specs.Marks.{most_open_groups, close_group}
use Rattle.pattern.specs.Written.{IsPattern, BadAt, malformed, empty}
use Rattle.pattern.specs.Kinds.{kind_in, kind_of}
use Rattle.pattern.specs.Reader.{Begun, outside, standing, start, settled, closed, marked, moved, ended, refused}
use Rattle.pattern.specs.Reader.{says, read_pattern}
use Rattle.pattern.specs.Positions.{Null}
use Rattle.pattern.proofs.Promise.{says_ends, says_no_kind}
use Rattle.pattern.proofs.Promise.{read_exact, refused_exact, null_exact}
use Rattle.parts.specs.declared.Part.{Part}
use Rattle.parts.specs.Places.{Unread}
use Rattle.parts.specs.Reading.{AlternationStopped, AlternationMeant}
use Rattle.parts.proofs.Promise.{mark_inside}
use Rattle.positions.specs.Whole.{WholePart, PatternMeant}

-- outside all groups none ends
no_group_ends : (text : List ℕ) (begun : Begun) (at : ℕ) → get_or text at 0 ≡ close_group
    → says text (standing most_open_groups [] begun (outside none)) at ≡ refused at
unfolding moved marked closed kind_of kind_in
no_group_ends text begun at here =
    says_no_kind text most_open_groups [] begun (outside none) at (mark_inside text at here) (ap kind_of here) refl

-- where the reader of one byte stops the text is bad
stops_there : {text : List ℕ} {place : ℕ} → read_pattern text ≡ refused place → BadAt text place
stops_there {text} e = malformed ((refused_exact text).0 e)

-- a text of which no part was read
pub unread_bad : {text : List ℕ} {place : ℕ}
    → Unread text 0 (AlternationStopped text most_open_groups 0) place
    → BadAt text place
unfolding read_pattern start
unread_bad u = stops_there (u.stopped.same [])

module _ {text : List ℕ} {n : ℕ} {R F : List ℕ} {part : Part} {R₁ F₁ : List ℕ}
    (read : AlternationMeant text most_open_groups 0 n R F part R₁ F₁) where
  -- the reader of one byte stands where the part ends
  to_the_part : read_pattern text
      ≡ says text (standing most_open_groups [] read.alternatives.part.passed.begun (outside none)) part.at
  unfolding read_pattern start
  to_the_part = read.alternatives.part.passed.same []

  part_means : length text ≤ part.at → IsPattern text read.alternatives.part.meaning
  unfolding ended settled
  part_means end =
      let m = read.alternatives.part in
      (read_exact text).0
      (to_the_part ∙ says_ends text (standing most_open_groups [] m.passed.begun (outside none)) part.at end m.passed.means)

  closing : part.at < length text → get_or text part.at 0 ≡ close_group
  closing inside = go (ℕ_discrete (get_or text part.at 0) close_group)
    where
      go : Dec (get_or text part.at 0 ≡ close_group) → get_or text part.at 0 ≡ close_group
      go (yes here) = here
      go (no other) =
          absurd (read.alternatives.ends (record { inside = inside; no_bar = read.no_bar; no_close = other }))

  -- a part that does not reach the end
  short_bad : part.at < length text → BadAt text part.at
  short_bad inside =
      stops_there
      (to_the_part ∙ no_group_ends text read.alternatives.part.passed.begun part.at (closing inside))

  -- one that matches the empty string
  empty_bad : length text ≤ part.at → part.empty ≡ true → BadAt text part.at
  empty_bad end null =
      let m = read.alternatives.part in
      let there : length text ≡ part.at = omega (arith, m.place) in
      subst (BadAt text) there
      (empty (part_means end) (null_exact.0 (decides_true (Null m.meaning) part.empty m.told.empty null)))

  pub bad_part : ¬ WholePart (length text) part → BadAt text part.at
  bad_part other = by_end (dec_lt part.at (length text))
    where
      by_empty : length text ≤ part.at → (e : Bool) → part.empty ≡ e → BadAt text part.at
      by_empty end true null = empty_bad end null
      by_empty end false full = absurd (other (record { ended = end; not_empty = full }))

      by_end : Dec (part.at < length text) → BadAt text part.at
      by_end (yes inside) = short_bad inside
      by_end (no end) = by_empty (omega arith) part.empty refl

  pub whole_part : WholePart (length text) part → PatternMeant text n R F part R₁ F₁
  whole_part w =
      let m = read.alternatives.part in
      record {
        meaning = m.meaning;
        pattern = part_means w.ended;
        not_null = decides_false (Null m.meaning) part.empty m.told.empty w.not_empty;
        told = m.told;
        tabled = m.tabled;
      }
