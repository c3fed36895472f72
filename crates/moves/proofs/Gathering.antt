-- What comes after a set by a byte, gathered word by word of its positions.
use mathlib.Core.Path.{◌≡◌, refl, sym, ◌∙◌}
use mathlib.Core.Logic.{◌↔◌, ◌⊎◌, inl, inr, ⊎_elim}
use mathlib.Core.Bool.{Bool, true, false, ◌&&◌, false≢true}
use mathlib.Core.List.{List, ◌∷◌}
use Prim.Native.Nat.{ℕ, ◌+◌, ◌-◌, ◌*◌, ◌/◌, ◌%◌, ◌^◌, ◌≤◌, ◌<◌}
use native.Mathlib.Nat.{zero-add}
use native.Mathlib.Decide.{dec_lt}
use native.Mathlib.Omega.{arith}
use lib.Bits.{bit_and, and_lt}
use lib.ListN.{get_or, replicate, get_or-replicate}
use Rattle.sets.specs.Sets.{member}
use Rattle.sets.specs.Words.{word_width, AreWords}
use Rattle.sets.proofs.Members.{member_and}
use Rattle.sets.proofs.Promise.{member_none, places_are, fits_members, no_words, more_words}
use Rattle.points.specs.Points.{points_at}
use Rattle.points.proofs.Promise.{points_fit, points_none, member_points}
use Rattle.answers.specs.Limits.{position_words, point_words}
use Rattle.moves.specs.Tables.{readers_of, set_of, NextPoint, NextWords}
use Rattle.moves.specs.Growing.{Five, Grown, WordLeads}

-- both are so exactly if each is
both : (a b : Bool) → a && b ≡ true ↔ (a ≡ true) × (b ≡ true)
both true b = (λ h. (refl, h), λ h. h.1)
both false b = (λ h. absurd (false≢true h), λ h. absurd (false≢true h.0))

-- a position of the first i words
pub record Below (readers follow : List ℕ) (x b i q : ℕ) : Type 0 where
  pub next : NextPoint readers follow x b q
  pub low : next.position < i * word_width

-- what comes after the positions of the first i words
pub record Gathered (readers follow : List ℕ) (x b i : ℕ) (next : List ℕ) : Type 0 where
  pub five : Five next
  pub sound : (q : ℕ) → member q (set_of next 0) ≡ true → Below readers follow x b i q
  pub complete : (q : ℕ) → Below readers follow x b i q → member q (set_of next 0) ≡ true

pub none_five : Five (replicate point_words 0)
none_five = record { long = refl; fit = zero (zero (zero (zero (zero no_words)))) }
  where
    zero : {ws : List ℕ} → AreWords ws → AreWords (0 ∷ ws)
    zero h = more_words (omega arith) h

none_set : set_of (replicate point_words 0) 0 ≡ 0
unfolding set_of
none_set = (points_none (replicate point_words 0) 0 point_words).0 (λ j inside. rw zero-add (get_or-replicate {A = ℕ} point_words j 0 0 inside))

pub gathered_none : (readers follow : List ℕ) (x b : ℕ) → Gathered readers follow x b 0 (replicate point_words 0)
gathered_none readers follow x b =
    record {
      five = none_five;
      sound = λ q m. absurd (false≢true (sym (member_none q) ∙ rw none_set at m));
      complete = λ q below. absurd (omega (arith, below.low));
    }

-- the positions of word i that set number s has and that read byte b
unfoldable pub meet : List ℕ → ℕ → List ℕ → ℕ → ℕ → ℕ
meet sets s readers b i = bit_and (get_or sets (s * point_words + i) 0) (get_or readers (b * position_words + i) 0)

module _ (sets : List ℕ) (s : ℕ) (readers : List ℕ) (b : ℕ) (follow : List ℕ) (hs : AreWords sets) (hr : AreWords readers) where
  -- position p of word i
  here : (i p : ℕ) → i < position_words → i * word_width ≤ p → p < i * word_width + word_width
      → member (p - i * word_width) (meet sets s readers b i) ≡ true
      ↔ (member p (set_of sets s) ≡ true) × (member p (readers_of readers b) ≡ true)
  unfolding set_of readers_of meet
  here i p inside low high =
      let word : p / word_width ≡ i = omega arith in
      let place : p % word_width ≡ p - i * word_width = omega arith in
      rw (
        member_and,
        member_points sets (s * point_words) point_words p hs (omega arith),
        member_points readers (b * position_words) position_words p hr (omega arith),
        word,
        place,
      )
      (both (member (p - i * word_width) (get_or sets (s * point_words + i) 0))
      (member (p - i * word_width) (get_or readers (b * position_words + i) 0)))

  module _ (i : ℕ) (inside : i < position_words) where
    meet_fits : meet sets s readers b i < 2 ^ word_width
    unfolding meet
    meet_fits =
        and_lt word_width (get_or sets (s * point_words + i) 0) (get_or readers (b * position_words + i) 0)
        (hs.fits (s * point_words + i)) (hr.fits (b * position_words + i))

    to_more : (q : ℕ) → Below readers follow (set_of sets s) b i q ⊎ WordLeads (i * word_width) (meet sets s readers b i) follow q
        → Below readers follow (set_of sets s) b (i + 1) q
    to_more q (inl old) = record { next = old.next; low = omega (arith, old.low) }
    to_more q (inr l) =
        let place = l.position - i * word_width in
        let short : place < word_width = fits_members word_width place (meet sets s readers b i) meet_fits l.there in
        let (there, reads) = (here i l.position inside l.low (omega (arith, l.low))).0 l.there in
        record {
          next = record { position = l.position; there = there; reads = reads; leads = l.leads };
          low = omega (arith, l.low);
        }

    from_more : (q : ℕ) → Below readers follow (set_of sets s) b (i + 1) q
        → Below readers follow (set_of sets s) b i q ⊎ WordLeads (i * word_width) (meet sets s readers b i) follow q
    from_more q below = go (dec_lt below.next.position (i * word_width))
      where
        go : Dec (below.next.position < i * word_width)
            → Below readers follow (set_of sets s) b i q ⊎ WordLeads (i * word_width) (meet sets s readers b i) follow q
        go (yes before) = inl (record { next = below.next; low = before })
        go (no after) =
            let next = below.next in
            let low : i * word_width ≤ next.position = omega arith in
            inr (record {
              position = next.position;
              low = low;
              there = (here i next.position inside low (omega (arith, below.low))).1 (next.there, next.reads);
              leads = next.leads;
            })

    pub gathered_more : {now after : List ℕ} → Gathered readers follow (set_of sets s) b i now
        → Grown now after (WordLeads (i * word_width) (meet sets s readers b i) follow)
        → Gathered readers follow (set_of sets s) b (i + 1) after
    gathered_more g grown =
        record {
          five = grown.five;
          sound = λ q m. to_more q (⊎_elim (λ old. inl (g.sound q old)) inr (grown.because q m));
          complete = λ q below.
              ⊎_elim (λ old. grown.kept q (g.complete q old)) (λ l. grown.new q l) (from_more q below);
        }

  pub gathered_all : (i : ℕ) {next : List ℕ} → position_words ≤ i
      → Gathered readers follow (set_of sets s) b i next
      → NextWords sets s readers b follow next
  unfolding set_of readers_of
  gathered_all i {next} all g =
      record {
        long = g.five.long;
        words = g.five.fit;
        exact =
            record {
              fits = points_fit next 0 point_words g.five.fit;
              sound = λ q m. (g.sound q m).next;
              complete = λ q n. g.complete q (record { next = n; low = low q n });
            };
      }
    where
      low : (q : ℕ) (n : NextPoint readers follow (points_at sets (s * point_words) point_words) b q) → n.position < i * word_width
      low q n =
          omega (
            arith,
            places_are position_words,
            fits_members _ n.position (readers_of readers b) (points_fit readers (b * position_words) position_words hr) n.reads,
          )
