-- The tables of a pattern that matches any number of bytes 0: position 0 reads byte 0, and it and the pattern's end can come first
-- and after it. Its machine has one state, so that no premise of the theorems is empty.
use mathlib.Core.Path.{◌≡◌, refl, sym, ap, ◌∙◌}
use mathlib.Core.Bool.{false≢true}
use mathlib.Core.Logic.{◌≢◌}
use mathlib.Core.List.{List, [], ◌∷◌, ◌++◌}
use mathlib.Core.Option.{Option, some, none}
use Prim.Native.Nat.{ℕ, zero, suc, ◌+◌, ◌*◌, ◌^◌, ◌≤◌, ◌<◌}
use native.Mathlib.Numerals.{add-one}
use native.Mathlib.Omega.{arith}
use borrow.Author.Tests.{eqb-true}
use lib.ListN.{length, replicate, length-replicate, replicate-append-replicate, get_or-eq_default}
use Rattle.sets.specs.Sets.{member}
use Rattle.sets.specs.Words.{word_width, places, value_of}
use Rattle.sets.proofs.Members.{member_power}
use Rattle.sets.proofs.Promise.{exactly_none, exactly_unique, member_none, no_words, more_words}
use Rattle.points.specs.Points.{points_at, words_at}
use Rattle.points.proofs.Promise.{points_fit, points_none}
use Rattle.std.specs.Prelude.{Ok, Err}
use Rattle.answers.specs.Answers.{refusal}
use Rattle.answers.specs.Buffers.{over}
use Rattle.answers.specs.Limits.{position_words, point_words, byte_values, row_cells}
use Rattle.answers.specs.Refusals.{room, machine_room}
use Rattle.numbering.specs.Numbering.{Follows, Found, FoundAll}
use Rattle.numbering.proofs.Promise.{found_nothing, found_begun, follows_at, turn_nothing, turn_met}
use Rattle.moves.specs.Tables.{readers_of, follow_of, first_of}
use Rattle.states.specs.Machine.{Started, TableMove, tables, no_cell, cell_of, rows_of, token_of, lowest_end}
use Rattle.states.specs.Making.{no_room, made, MadeOutcome}
use Rattle.states.proofs.Turning.{tables_lawful}

pub reads : List ℕ
reads = 1 ∷ []

pub leads : List ℕ
leads = 1 ∷ 0 ∷ 0 ∷ 0 ∷ 1 ∷ (replicate 1275 0 ++ (1 ∷ 0 ∷ 0 ∷ 0 ∷ 1 ∷ []))

-- position 0 and end 0
pub only : ℕ
only = 1 + 2 ^ 256

first_is : first_of leads ≡ only
unfolding first_of follow_of points_at words_at value_of leads only
first_is = refl

after_is : follow_of leads 0 ≡ only
unfolding follow_of points_at words_at value_of leads only
after_is = refl

token_is : token_of only ≡ 0
unfolding token_of lowest_end member only
token_is = refl

fits : only < 2 ^ places point_words
unfolding points_at words_at value_of only
fits =
    points_fit (1 ∷ 0 ∷ 0 ∷ 0 ∷ 1 ∷ []) 0 point_words
    (more_words one (more_words nil (more_words nil (more_words nil (more_words one no_words)))))
  where
    one : 1 < 2 ^ word_width
    one = omega arith

    nil : 0 < 2 ^ word_width
    nil = omega arith

not_empty : only ≢ 0
unfolding member only
not_empty e = false≢true (ap (member 0) (sym e))

starts : Started leads only
starts = record { first = sym first_is; nonempty = not_empty }

-- byte 0 leads back
loops : TableMove reads leads only 0 only
unfolding member only readers_of points_at words_at value_of reads
loops =
    record {
      exact =
          record {
            fits = fits;
            sound = λ q m. record { position = 0; there = refl; reads = refl; leads = rw after_is m };
            complete = λ q n. rw (← after_is) (rw (eqb-true n.position 0 (sym (member_power n.position 0) ∙ n.reads)) at n.leads);
          };
      nonempty = not_empty;
    }

-- no other byte leads anywhere
unread : (b : ℕ) → 0 < b → readers_of reads b ≡ 0
unfolding readers_of reads
unread b above =
    (points_none (1 ∷ []) (b * position_words) position_words).0
    (λ j inside.
    let past : 1 ≤ b * position_words + j = omega arith in
    get_or-eq_default (1 ∷ []) 0 past)

stops : (b : ℕ) → 0 < b → (y : ℕ) → ¬ TableMove reads leads only b y
stops b above y moved =
    moved.nonempty
    (exactly_unique y 0 moved.exact
    (exactly_none (places point_words) (λ q n. false≢true (sym (member_none n.position) ∙ rw (unread b above) at n.reads))))

-- a machine of one state, from which byte 0 leads back and no other byte leads anywhere: its cells one by one
module _ (readers follow : List ℕ) (x : ℕ) (starts : Started follow x) (loops : TableMove readers follow x 0 x)
    (stops : (b : ℕ) → 0 < b → (y : ℕ) → ¬ TableMove readers follow x b y) where
  met : Found (tables readers follow) (x ∷ []) (some 0 ∷ [])
  met =
      turn_met (found_begun (tables_lawful readers follow) x starts) (omega arith) 0 x
      ((follows_at {m = tables readers follow} (x ∷ []) 0 0 0 x x refl (omega arith) refl).1 loops)
      (record { state = x; at = refl; same = refl })

  blocked : (k : ℕ) → suc k < byte_values → (y : ℕ) → ¬ Follows (tables readers follow) (x ∷ []) (suc k) y
  blocked k inside y f =
      stops (suc k) (omega arith) y
      ((follows_at {m = tables readers follow} (x ∷ []) (suc k) 0 (suc k) x y (omega arith) inside refl).0 f)

  one_more : (k : ℕ) → suc k < byte_values → Found (tables readers follow) (x ∷ []) (some 0 ∷ replicate k none)
      → Found (tables readers follow) (x ∷ []) (some 0 ∷ replicate (suc k) none)
  one_more k inside before =
      let long : length {A = Option ℕ} (some 0 ∷ replicate k none) ≡ suc k =
      omega (arith, length-replicate {A = Option ℕ} k none) in
      let next : Found (tables readers follow) (x ∷ []) ((some 0 ∷ replicate k none) ++ (none ∷ [])) =
      turn_nothing before (omega (arith, long)) (rw long (blocked k inside)) in
      let same : replicate {A = Option ℕ} k none ++ (none ∷ []) ≡ replicate (suc k) none =
      replicate-append-replicate {A = Option ℕ} k 1 none ∙ ap (λ (n : ℕ). replicate {A = Option ℕ} n none) (add-one k) in
      rw same at next

  nothing_more : (k : ℕ) → k < byte_values → Found (tables readers follow) (x ∷ []) (some 0 ∷ replicate k none)
  nothing_more zero inside = met
  nothing_more (suc k) inside = one_more k inside (nothing_more k (omega arith))

  one_state : FoundAll (tables readers follow) (x ∷ []) (some 0 ∷ replicate 255 none)
  one_state = record { found = nothing_more 255 (omega arith); all = refl }

pub star_found : FoundAll (tables reads leads) (only ∷ []) (some 0 ∷ replicate 255 none)
star_found = one_state reads leads only starts loops stops

-- so its row, with token 0, is made where there is room for it, and else it is refused
pub star_made : (machine : List ℕ) → row_cells ≤ length machine
    → MadeOutcome reads leads machine (Ok 1) (over (0 ∷ (replicate 255 no_cell ++ (0 ∷ []))) machine)
unfolding rows_of cell_of
star_made machine enough =
    let outcome : MadeOutcome reads leads machine (Ok 1) (over (rows_of (only ∷ []) (some 0 ∷ replicate 255 none)) machine) =
    made star_found (omega arith) (omega arith) in
    rw token_is at outcome

pub star_no_room : (machine : List ℕ) → length machine < row_cells
    → MadeOutcome reads leads machine (Err (refusal room row_cells machine_room)) machine
star_no_room machine short = no_room star_found (omega arith) (omega arith)

-- with no row in either table there is no state, and the machine has no cell
pub nothing_made : (machine : List ℕ) → MadeOutcome [] [] machine (Ok 0) machine
unfolding rows_of first_of follow_of points_at words_at value_of
nothing_made machine = made (found_nothing none_starts) (omega arith) (omega arith)
  where
    none_starts : (x : ℕ) → ¬ Started [] x
    none_starts x s = s.nonempty s.first
