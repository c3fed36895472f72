-- The definitions at work on one pattern, the letter a: two states, and the line "a a" cut by them.
use mathlib.Core.Path.{◌≡◌, refl, sym, ap, subst, ◌∙◌}
use mathlib.Core.Bool.{true, false≢true}
use mathlib.Core.Logic.{◌≢◌}
use mathlib.Core.List.{List, [], ◌∷◌, ◌++◌, append-nil, append_assoc}
use mathlib.Core.Option.{Option, some, none, none-ne-some, some-injective}
use Prim.Native.Nat.{ℕ, zero, suc, ◌+◌, ◌-◌, ◌*◌, ◌≤◌, ◌<◌}
use native.Mathlib.Decide.{dec_lt}
use native.Mathlib.Numerals.{add-one}
use native.Mathlib.Omega.{arith}
use borrow.Author.Tests.{eqb-true, eq-eqb}
use lib.ListN.{length, take, get_elem?, replicate, length-append, length-replicate, replicate-append-replicate}
use lib.Seq.{length-take-le}
use Rattle.sets.specs.Sets.{member, only}
use Rattle.sets.specs.Words.{places}
use Rattle.sets.proofs.Promise.{member_only, member_none, only_fits, exactly_none, exactly_unique, places_are}
use Rattle.answers.specs.Answers.{done}
use Rattle.answers.specs.Buffers.{over}
use Rattle.answers.specs.Limits.{point_words, row_cells}
use Rattle.numbering.specs.Numbering.{IsState, Follows, Found, FoundAll}
use Rattle.numbering.proofs.Promise.{found_begun, follows_at, turn_nothing, turn_new}
use Rattle.pattern.specs.Pattern.{Expression, one, InClass, here, there, Matches, byte, Pattern}
use Rattle.pattern.specs.Positions.{size, Null, positions, Point, position, end_of, FirstPosition, first_one, last_one, FollowPosition, Reads, reads_one, Placed, Start, start_position, start_end, Onward, onward_position, onward_end, ReadsIn, reads_in, Moved, moved}
use Rattle.pattern.specs.Marks.{among}
use Rattle.pattern.specs.Written.{range, plain, IsPattern, alternative, alone, unsigned, one_byte, Good, patterns_of}
use Rattle.pattern.proofs.Promise.{null_of_one, first_of_one, follow_of_one, reads_of_one}
use Rattle.patterns.specs.Calls.{point_at, no_texts, text_means, Accepted}
use Rattle.states.specs.Machine.{cell_of, lowest_end, token_of, rows_of}
use Rattle.pieces.specs.Cut.{space, numbers_of, TokenAt, end_of_line, space_dropped, token_cut, answer_of}
use Rattle.cut.specs.Patterns.{InSet, SomePoints, point_states}
use Rattle.cut.specs.Calls.{CutOutcome, cut}
use Rattle.cut.specs.Examples.{letter_rows}
use Rattle.cut.proofs.Pointing.{point_position, point_end, place_of_position, place_of_end}
use Rattle.cut.proofs.Alike.{states_lawful}

abbrev letter : Expression
letter = one (range 97 97 ∷ [])

-- the only pattern
abbrev letters : List Expression
letters = letter ∷ []

only_pattern : (k : ℕ) {x : Expression} → get_elem? letters k ≡ some x → (k ≡ 0) × (x ≡ letter)
only_pattern zero {x} e = (refl, sym (some-injective letter x e))
only_pattern (suc k) {x} e = absurd (none-ne-some x e)

-- what holds of a pattern of the list holds of the letter, with its position at 0
placed_is : (P : ℕ → ℕ → Expression → Type 0) {k n : ℕ} {x : Expression} → Placed letters k n x → P k n x → P 0 0 letter
unfolding positions
placed_is P {k} {n} {x} at p =
    let same = only_pattern k at.at in
    let from : n ≡ 0 = at.from ∙ ap (λ (i : ℕ). positions (take i letters)) same.0 in
    subst (P 0 0) same.1 (subst (λ (i : ℕ). P 0 i x) from (subst (λ (i : ℕ). P i n x) same.0 p))

there_placed : Placed letters 0 0 letter
unfolding positions
there_placed = record { at = refl; from = refl }

starts_are : (t : Point) → Start letters t → t ≡ position 0
starts_are t (start_position {p = p} at first) =
    ap position (first_of_one.0 (placed_is (λ k n x. FirstPosition n x p) at first))
starts_are t (start_end at null) = absurd (null_of_one (placed_is (λ k n x. Null x) at null))

onward_are : {p : ℕ} (t : Point) → Onward letters p t → t ≡ end_of 0
onward_are {p} t (onward_position {q = q} at follows) = absurd (follow_of_one (placed_is (λ k n x. FollowPosition n x p q) at follows))
onward_are {p} t (onward_end {k = k} at last) = ap end_of (only_pattern k at.at).0

in_class_lem : InClass (range 97 97 ∷ []) 97
in_class_lem = here {r = range 97 97} {b = 97} (omega arith) (omega arith)

class_is : {b : ℕ} → InClass (range 97 97 ∷ []) b → b ≡ 97
class_is (here low high) = omega arith
class_is (there c) = elim c [ ]

reads_are : {p b : ℕ} → ReadsIn letters p b → (p ≡ 0) × (b ≡ 97)
reads_are {p} {b} (reads_in at reads) =
    let r = reads_of_one.0 (placed_is (λ k n x. Reads n x p b) at reads) in
    (r.0, class_is r.1)

-- a set with one point
exactly_only : (j : ℕ) (P : Point → Type 0) → j < 320 → P (point_at j) → ((k : ℕ) → P (point_at k) → k ≡ j) → SomePoints P (only j)
exactly_only j P below point unique =
    record {
      exact =
          record {
            fits = only_fits (places point_words) j (omega (arith, places_are point_words));
            sound = λ k m. subst (λ (i : ℕ). P (point_at i)) (sym (eqb-true k j (sym (member_only k j) ∙ m))) point;
            complete = λ k p. member_only k j ∙ eq-eqb k j (unique k p);
          };
      nonempty = λ e.
          false≢true (sym (member_none j) ∙ rw e at (member_only j j ∙ eq-eqb j j refl));
    }

begin : SomePoints (Start letters) (only 0)
begin =
    exactly_only 0 (Start letters) (omega arith)
    (subst (Start letters) (sym (point_position 0 (omega arith))) (start_position there_placed first_one))
    (λ k s. place_of_position k (starts_are (point_at k) s))

in_begin : InSet (only 0) (position 0)
in_begin = record { place = 0; point = point_position 0 (omega arith); there = member_only 0 0 ∙ eq-eqb 0 0 refl }

-- by an a, the end
ends : SomePoints (Moved letters (InSet (only 0)) 97) (only 256)
ends =
    exactly_only 256 (Moved letters (InSet (only 0)) 97) (omega arith)
    (subst (Moved letters (InSet (only 0)) 97) (sym (point_end 0))
    (moved in_begin (reads_in there_placed (reads_one in_class_lem)) (onward_end there_placed last_one)))
    (λ k m. last k m)
  where
    last : (k : ℕ) → Moved letters (InSet (only 0)) 97 (point_at k) → k ≡ 256
    last k (moved s r o) = place_of_end k (onward_are (point_at k) o)

-- where no point comes after there is no state
nowhere : {x b : ℕ} → ((t : Point) → ¬ Moved letters (InSet x) b t) → (y : ℕ) → ¬ SomePoints (Moved letters (InSet x) b) y
nowhere nothing y state =
    state.nonempty (exactly_unique y 0 state.exact (exactly_none (places point_words) (λ q m. nothing (point_at q) m)))

-- by another byte nothing comes after
other_byte : {x b : ℕ} → b ≢ 97 → (t : Point) → ¬ Moved letters (InSet x) b t
other_byte other t (moved s r o) = other (reads_are r).1

-- nor after the end
after_end : {b : ℕ} (t : Point) → ¬ Moved letters (InSet (only 256)) b t
after_end t (moved {p = p} s r o) =
    let place : s.place ≡ 256 = eqb-true s.place 256 (sym (member_only s.place 256) ∙ s.there) in
    omega (arith, place_of_position s.place s.point, (reads_are r).0)

-- one cell more that is none
none_more : (n : ℕ) → replicate {A = Option ℕ} n none ++ (none ∷ []) ≡ replicate (suc n) none
none_more n = replicate-append-replicate n 1 none ∙ ap (λ (i : ℕ). replicate {A = Option ℕ} i none) (add-one n)

-- the cells of the first state before the a
before : (n : ℕ) → n ≤ 97 → Found (point_states letters) (only 0 ∷ []) (replicate n none)
before zero below = found_begun (states_lawful letters) (only 0) begin
before (suc n) below =
    let cells = replicate {A = Option ℕ} n none in
    let long : length cells ≡ n = length-replicate {A = Option ℕ} n none in
    subst (Found (point_states letters) (only 0 ∷ [])) (none_more n)
    (turn_nothing (before n (omega arith)) (omega (arith, long)) (λ y follows.
    nowhere (other_byte {x = only 0} {b = n} (λ e. omega arith)) y
    ((follows_at {m = point_states letters} (only 0 ∷ []) (length cells) 0 n (only 0) y (omega (arith, long)) (omega arith) refl).0 follows)))

abbrev front : List (Option ℕ)
front = replicate 97 none ++ (some 1 ∷ [])

front_length : length front ≡ 98
front_length = omega (arith, length-append (replicate {A = Option ℕ} 97 none) (some 1 ∷ []), length-replicate {A = Option ℕ} 97 none)

-- the a leads to a new state
at_letter : Found (point_states letters) (only 0 ∷ only 256 ∷ []) front
at_letter =
    let long : length (replicate {A = Option ℕ} 97 none) ≡ 97 = length-replicate {A = Option ℕ} 97 none in
    turn_new (before 97 (omega arith)) (omega (arith, long)) (states_lawful letters) (only 256)
    ((follows_at {m = point_states letters} (only 0 ∷ []) (length (replicate {A = Option ℕ} 97 none)) 0 97 (only 0) (only 256)
    (omega (arith, long)) (omega arith) refl).1 ends)
    new
  where
    new : (j : ℕ) → ¬ IsState (point_states letters) (only 0 ∷ []) j (only 256)
    new zero is =
        let same : only 0 ≡ only 256 = some-injective (only 0) is.state is.at ∙ sym is.same in
        let place : member 0 (only 256) ≡ true = rw same at (member_only 0 0 ∙ eq-eqb 0 0 refl) in
        omega (arith, eqb-true 0 256 (sym (member_only 0 256) ∙ place))
    new (suc j) is = none-ne-some is.state is.at

-- nothing else leads anywhere
rest_nothing : (n t : ℕ) → n < 414 → t ≡ 98 + n → (y : ℕ)
    → ¬ Follows (point_states letters) (only 0 ∷ only 256 ∷ []) t y
rest_nothing n t below e y follows = go (dec_lt t 256)
  where
    go : Dec (t < 256) → ⊥
    go (yes first) =
        nowhere (other_byte {x = only 0} {b = t} (λ d. omega arith)) y
        ((follows_at {m = point_states letters} (only 0 ∷ only 256 ∷ []) t 0 t (only 0) y (omega arith) first refl).0 follows)
    go (no second) =
        nowhere (after_end {b = n - 158}) y
        ((follows_at {m = point_states letters} (only 0 ∷ only 256 ∷ []) t 1 (n - 158) (only 256) y (omega arith) (omega arith) refl).0
        follows)

after : (n : ℕ) → n ≤ 414 → Found (point_states letters) (only 0 ∷ only 256 ∷ []) (front ++ replicate n none)
after zero below = rw append-nil at_letter
after (suc n) below =
    let cells = front ++ replicate {A = Option ℕ} n none in
    let long : length cells ≡ 98 + n =
    omega (arith, length-append front (replicate {A = Option ℕ} n none), front_length, length-replicate {A = Option ℕ} n none) in
    subst (Found (point_states letters) (only 0 ∷ only 256 ∷ []))
    (append_assoc front (replicate n none) (none ∷ []) ∙ ap (λ (cs : List (Option ℕ)). front ++ cs) (none_more n))
    (turn_nothing (after n (omega arith)) (omega (arith, long)) (λ y follows.
    rest_nothing n (length cells) (omega arith) long y follows))

-- the two states and the 512 cells of their bytes
abbrev letter_sets : List ℕ
letter_sets = only 0 ∷ only 256 ∷ []

abbrev letter_cells : List (Option ℕ)
letter_cells = (replicate 97 none ++ (some 1 ∷ [])) ++ replicate 414 none

letter_found : FoundAll (point_states letters) letter_sets letter_cells
letter_found =
    record {
      found = after 414 (omega arith);
      all = omega (arith, length-append front (replicate {A = Option ℕ} 414 none), front_length, length-replicate {A = Option ℕ} 414 none);
    }

letter_pattern : IsPattern (97 ∷ []) letter
unfolding among
letter_pattern = alternative (alone (unsigned (one_byte (plain refl))))

-- the letter matches one byte
match_long : {u : List ℕ} → Matches letter u → length u ≡ 1
match_long (byte c) = refl

pattern_long : {k : ℕ} {u : List ℕ} → Pattern letters k u → length u ≡ 1
pattern_long {k} {u} m =
    match_long (subst (λ (x : Expression). Matches x u) (only_pattern k m.at).1 m.matches)

letter_accepted : Accepted (97 ∷ []) (1 ∷ []) letters
unfolding patterns_of positions size
letter_accepted =
    record {
      few = omega arith;
      means = text_means letter_pattern no_texts;
      good = record { good = good };
      fit = omega arith;
    }
  where
    good : (j : ℕ) (t : List ℕ) → get_elem? ((97 ∷ []) ∷ []) j ≡ some t → Good t
    good zero t e =
        subst Good (some-injective (97 ∷ []) t e)
        (record { meaning = letter; pattern = letter_pattern; not_empty = λ m. omega (arith, match_long m) })
    good (suc j) t e = absurd (none-ne-some t e)

letter_matches : Pattern letters 0 (97 ∷ [])
letter_matches = record { meaning = letter; at = refl; matches = byte in_class_lem }

letter_token : (w : List ℕ) → TokenAt (Pattern letters) (97 ∷ w) 0 1
letter_token w =
    record {
      some_byte = omega arith;
      within = omega arith;
      matches = letter_matches;
      longest = λ j m more within long. omega (arith, pattern_long long, length-take-le m (97 ∷ w) within);
      lowest = λ j lower m. omega arith;
    }

letter_is_no_space : ◌≢◌ {A = ℕ} 97 space
letter_is_no_space e = omega arith

letter_rows_lem : rows_of letter_sets letter_cells ≡ letter_rows
unfolding rows_of cell_of token_of lowest_end member only
letter_rows_lem = refl

-- "a a" has two tokens, both of pattern 0
pub one_letter : (machine : List ℕ)
    → 2 * row_cells ≤ length machine
    → CutOutcome (97 ∷ []) (1 ∷ []) (97 ∷ 32 ∷ 97 ∷ []) machine (9 ∷ 9 ∷ 9 ∷ []) (done 2)
    (over letter_rows machine) (0 ∷ 0 ∷ 9 ∷ [])
unfolding numbers_of answer_of
one_letter machine fits =
    subst
    (λ (rows : List ℕ).
    CutOutcome (97 ∷ []) (1 ∷ []) (97 ∷ 32 ∷ 97 ∷ []) machine (9 ∷ 9 ∷ 9 ∷ []) (done 2) (over rows machine) (0 ∷ 0 ∷ 9 ∷ []))
    letter_rows_lem
    (cut letter_accepted letter_found (omega arith) fits
    (token_cut letter_is_no_space (letter_token (32 ∷ 97 ∷ []))
    (space_dropped (token_cut letter_is_no_space (letter_token []) end_of_line))))
