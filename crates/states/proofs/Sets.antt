-- The sets of states in a slice: the list of the first n of them, two that are compared, and one that is kept.
use mathlib.Core.Path.{◌≡◌, refl, sym, ap, ◌∙◌}
use mathlib.Core.Bool.{Bool, true, false, false≢true}
use mathlib.Core.Logic.{◌⊎◌, inl, inr}
use mathlib.Core.List.{List, [], ◌∷◌, ◌++◌}
use mathlib.Core.Option.{some}
use Prim.Native.Nat.{ℕ, zero, suc, ◌+◌, ◌-◌, ◌*◌, ◌≤◌, ◌<◌}
use native.Mathlib.Nat.{zero-add}
use native.Mathlib.Decide.{dec_lt}
use native.Mathlib.Omega.{arith}
use lib.Bits.{or_zero_l}
use lib.ListN.{length, get_or, get_elem?, replicate, length-append, length-replicate, get_or-replicate}
use lib.Seq.{ext_get_or}
use borrow.Rule.Slice.PartMut.{put_mid}
use Rattle.std.specs.List.{between}
use Rattle.std.proofs.Common.{rules}
use Rattle.std.proofs.lemmas.List.{places}
use Rattle.std.proofs.lemmas.List.Edits.{get_or-between, length-between}
use Rattle.sets.specs.Calls.{Decides}
use Rattle.sets.specs.Sets.{united}
use Rattle.sets.specs.Words.{AreWords}
use Rattle.points.specs.Points.{points_at, Unite}
use Rattle.points.proofs.Promise.{points_alike, points_same, points_none, rows_apart, unite_unites}
use Rattle.answers.specs.Limits.{most_positions, point_words}
use Rattle.numbering.proofs.Promise.{at_append, at_last}
use Rattle.moves.specs.Tables.{follow_of, first_of, set_of}
use Rattle.states.specs.Sets.{states_of, Kept}

pub states_length : (sets : List ℕ) (n : ℕ) → length (states_of sets n) ≡ n
unfolding states_of
states_length sets zero = refl
states_length sets (suc n) = omega (arith, length-append (states_of sets n) (set_of sets n ∷ []), states_length sets n)

pub state_at : (sets : List ℕ) (n j : ℕ) → j < n → get_elem? (states_of sets n) j ≡ some (set_of sets j)
unfolding states_of
state_at sets zero j inside = absurd (omega arith)
state_at sets (suc n) j inside = go (state_at sets n j) (dec_lt j n)
  where
    go : (j < n → get_elem? (states_of sets n) j ≡ some (set_of sets j))
        → Dec (j < n)
        → get_elem? (states_of sets n ++ (set_of sets n ∷ [])) j ≡ some (set_of sets j)
    go before (yes lower) = at_append (states_of sets n) (set_of sets n ∷ []) j (before lower)
    go before (no last) =
        let here : j ≡ length (states_of sets n) = omega (arith, states_length sets n) in
        let same : n ≡ j = omega arith in
        rw here (at_last (states_of sets n) (set_of sets n) ∙ ap (λ (k : ℕ). some (set_of sets k)) (same ∙ here))

-- the list goes by its sets alone
pub states_alike : (sets sets' : List ℕ) (n : ℕ)
    → ((j : ℕ) → j < n → set_of sets' j ≡ set_of sets j)
    → states_of sets' n ≡ states_of sets n
unfolding states_of
states_alike sets sets' zero alike = refl
states_alike sets sets' (suc n) alike =
    rw (states_alike sets sets' n (λ j inside. alike j (omega arith)), alike n (omega arith))

-- two sets with the same words are the same, and the other way round
pub same_set : (sets next : List ℕ) (i : ℕ)
    → ((j : ℕ) → j < point_words → get_or sets (i * point_words + j) 0 ≡ get_or next j 0)
    → set_of sets i ≡ set_of next 0
unfolding set_of
same_set sets next i alike =
    points_alike sets next (i * point_words) 0 point_words (λ j inside. rw zero-add (alike j inside))

same_word : (sets next : List ℕ) (i : ℕ) → AreWords sets → AreWords next → set_of sets i ≡ set_of next 0
    → (j : ℕ)
    → j < point_words
    → get_or sets (i * point_words + j) 0 ≡ get_or next j 0
unfolding set_of
same_word sets next i hs hn same j inside =
    rw zero-add at ((points_same sets (i * point_words) next 0 point_words hs hn).1 same j inside)

decided : {A : Type 0} (r : Bool) → (r ≡ true → A) → (A → r ≡ true) → Decides r A
decided true to from = to refl
decided false to from = λ a. absurd (false≢true (from a))

-- the words of a set, as a part of the slice, decide whether it is this one
pub part_decides : (sets next : List ℕ) (i : ℕ) → AreWords sets → AreWords next → length next ≡ point_words
    → i * point_words + point_words ≤ length sets
    → (r : Bool)
    → (r ≡ true → between (i * point_words) (i * point_words + point_words) sets ≡ next)
    × (between (i * point_words) (i * point_words + point_words) sets ≡ next → r ≡ true)
    → Decides r (set_of sets i ≡ set_of next 0)
part_decides sets next i hs hn long fits r (to, from) =
    decided r (λ told. same_set sets next i (words (to told))) (λ same. from (part same))
  where
    at : ℕ
    at = i * point_words

    read : (j : ℕ) → j < point_words → get_or (between at (at + point_words) sets) j 0 ≡ get_or sets (at + j) 0
    read j inside = get_or-between sets at (at + point_words) j 0 (omega arith)

    words : between at (at + point_words) sets ≡ next → (j : ℕ) → j < point_words → get_or sets (at + j) 0 ≡ get_or next j 0
    words e j inside = sym (read j inside) ∙ ap (λ (l : List ℕ). get_or l j 0) e

    size : length (between at (at + point_words) sets) ≡ point_words
    size = length-between sets at (at + point_words) fits ∙ omega arith

    part : set_of sets i ≡ set_of next 0 → between at (at + point_words) sets ≡ next
    part same =
        ext_get_or 0 (between at (at + point_words) sets) next (size ∙ sym long)
        (λ j inside.
        let short : j < point_words = omega (arith, size) in
        read j short ∙ same_word sets next i hs hn same j short)

-- a set that was copied into its part of the slice is kept
pub part_kept : (sets next part : List ℕ) (i : ℕ) → part ≡ next → length next ≡ point_words
    → i * point_words + point_words ≤ length sets
    → Kept sets i next (put_mid (i * point_words) (i * point_words + point_words - i * point_words) sets part)
unfolding set_of
part_kept sets next part i same long fits =
    record {
      long = size;
      there = same_set after next i (λ k inside. there k inside);
      others = λ k other.
          points_alike after sets (k * point_words) (k * point_words) point_words
          (λ w inside. beside (k * point_words + w) (apart k w inside (rows_apart point_words k i other)));
    }
  where
    after : List ℕ
    after = put_mid (i * point_words) (i * point_words + point_words - i * point_words) sets part

    size : length after ≡ length sets
    size = search (rules, places)

    there : (k : ℕ) → k < point_words → get_or after (i * point_words + k) 0 ≡ get_or next k 0
    there k inside = search (rules, places)

    beside : (k : ℕ) → (k < i * point_words) ⊎ (i * point_words + point_words ≤ k) → get_or after k 0 ≡ get_or sets k 0
    beside k (inl low) = search (rules, places)
    beside k (inr high) = search (rules, places)

    apart : (k w : ℕ) → w < point_words
        → (k * point_words + point_words ≤ i * point_words) ⊎ (i * point_words + point_words ≤ k * point_words)
        → (k * point_words + w < i * point_words) ⊎ (i * point_words + point_words ≤ k * point_words + w)
    apart k w inside (inl low) = inl (omega arith)
    apart k w inside (inr high) = inr (omega arith)

-- the row of what can come first, united with no set, is what can come first
pub first_set_lem : (follow first : List ℕ)
    → Unite (replicate point_words 0) 0 point_words follow (most_positions * point_words) first
    → set_of first 0 ≡ first_of follow
unfolding set_of first_of follow_of united
first_set_lem follow first unite =
    let none : points_at (replicate point_words 0) 0 point_words ≡ 0 =
    (points_none (replicate point_words 0) 0 point_words).0
    (λ j inside. rw zero-add (get_or-replicate {A = ℕ} point_words j 0 0 inside)) in
    unite_unites unite (omega (arith, length-replicate {A = ℕ} point_words 0))
    ∙ rw none (or_zero_l (points_at follow (most_positions * point_words) point_words))
