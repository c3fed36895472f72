-- Bytes that have the same readers: up to where they go, and that the same comes after by each of them.
use mathlib.Core.Path.{◌≡◌, sym, ap, ◌∙◌}
use mathlib.Core.List.{List}
use Prim.Native.Nat.{ℕ, ◌+◌, ◌*◌}
use native.Mathlib.Omega.{arith}
use lib.ListN.{get_or}
use Rattle.std.specs.List.{between}
use Rattle.std.proofs.lemmas.List.Edits.{get_or-between}
use Rattle.sets.specs.Sets.{Exactly}
use Rattle.sets.specs.Words.{places}
use Rattle.points.proofs.Promise.{points_alike}
use Rattle.answers.specs.Limits.{position_words, point_words}
use Rattle.moves.specs.Tables.{readers_of, NextPoint}

-- where two parts of the table one behind the other are the same, two bytes have the same readers
pub part_readers : (readers : List ℕ) (b : ℕ)
    → between (b * position_words + position_words) (b * position_words + position_words + position_words) readers
    ≡ between (b * position_words) (b * position_words + position_words) readers
    → readers_of readers (b + 1) ≡ readers_of readers b
unfolding readers_of
part_readers readers b same =
    let next : (b + 1) * position_words ≡ b * position_words + position_words = omega arith in
    rw next
    (points_alike readers readers (b * position_words + position_words) (b * position_words) position_words
    (λ j inside.
    sym (get_or-between readers (b * position_words + position_words) (b * position_words + position_words + position_words) j 0 (omega arith))
    ∙ ap (λ (l : List ℕ). get_or l j 0) same
    ∙ get_or-between readers (b * position_words) (b * position_words + position_words) j 0 (omega arith)))

-- by bytes with the same readers the same comes after
pub next_repeats : (readers follow : List ℕ) (x b b' : ℕ) → readers_of readers b ≡ readers_of readers b'
    → (q : ℕ)
    → NextPoint readers follow x b q
    → NextPoint readers follow x b' q
next_repeats readers follow x b b' same q n =
    record { position = n.position; there = n.there; reads = rw (← same) n.reads; leads = n.leads }

pub exactly_repeats : (readers follow : List ℕ) (x b b' : ℕ) {y : ℕ} → readers_of readers b ≡ readers_of readers b'
    → Exactly (places point_words) y (NextPoint readers follow x b)
    → Exactly (places point_words) y (NextPoint readers follow x b')
exactly_repeats readers follow x b b' same e =
    record {
      fits = e.fits;
      sound = λ q m. next_repeats readers follow x b b' same q (e.sound q m);
      complete = λ q n. e.complete q (next_repeats readers follow x b' b (sym same) q n);
    }
