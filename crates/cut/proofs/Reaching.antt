-- The states of patterns are the sets of points that can come next once some string of bytes was read.
use mathlib.Core.Path.{◌≡◌, sym, ap, subst, ◌∙◌}
use mathlib.Core.Logic.{◌↔◌}
use mathlib.Core.List.{List}
use mathlib.Core.Option.{Option, some}
use Prim.Native.Nat.{ℕ, ◌^◌, ◌≤◌, ◌<◌}
use lib.ListN.{length, get_elem?}
use Rattle.sets.specs.Words.{places}
use Rattle.sets.proofs.Promise.{exactly_unique, exactly_alike}
use Rattle.answers.specs.Limits.{most_patterns, most_positions, point_words, most_states}
use Rattle.numbering.specs.Numbering.{FoundAll, TooMany, whole, too_many, Leads, here, on, Reached, ManyReached}
use Rattle.numbering.proofs.Promise.{is_itself, found_reaches, too_many_iff, too_many_excludes_whole}
use Rattle.pattern.specs.Pattern.{Expression}
use Rattle.pattern.specs.Positions.{positions, Point, Moved, After, AfterFrom}
use Rattle.pattern.specs.Text.{Bytes, no_byte, and_byte}
use Rattle.pattern.proofs.Promise.{moved_same}
use Rattle.states.specs.Machine.{rows_of}
use Rattle.pieces.specs.Rows.{Walk}
use Rattle.cut.specs.Patterns.{InSet, SomePoints, point_states, AfterSome, ManyAfter}
use Rattle.cut.proofs.Pointing.{Holds, HasPlace, exactly_holds, holds_exactly}
use Rattle.cut.proofs.Alike.{states_lawful}
use Rattle.cut.proofs.PointSets.{start_place, moved_place, some_point}
use Rattle.cut.proofs.Walking.{after_some, walk_holds, walk_exists}
use Rattle.cut.proofs.Exact.{start_row, row_there}

module _ {rs : List Expression} (few : length rs ≤ most_patterns) (fit : positions rs ≤ most_positions) where
  -- what leads from a set leads from the points that it holds
  points_moved : {S : Point → Type 0} {x b y : ℕ} → Holds x S
      → SomePoints (Moved rs (InSet x) b) y
      → SomePoints (Moved rs S b) y
  points_moved h points =
      record {
        exact = exactly_alike (λ q. moved_same (λ s. (h.sound s, h.complete s))) points.exact;
        nonempty = points.nonempty;
      }

  leads_after : {S : Point → Type 0} {x y : ℕ} {w : List ℕ} → Leads (point_states rs) x w y
      → ((t : Point) → S t → HasPlace t)
      → SomePoints S x
      → Bytes w × SomePoints (AfterFrom rs S w) y
  unfolding AfterFrom
  leads_after here have points = (no_byte, points)
  leads_after {S = S} (on {x = x} {y = y} {z = z} {c = c} {w = w} byte moves rest) have points =
      let (bytes, after) = leads_after {S = Moved rs S c} rest (moved_place few fit) (points_moved (exactly_holds have points.exact) moves) in
      (and_byte byte bytes, after)

  reached_after : {y : ℕ} → Reached (point_states rs) y → AfterSome rs y
  reached_after (x, w, starts, leads) =
      let (bytes, after) = leads_after leads (start_place few fit) starts in
      (w, bytes, after)

  -- more states than the limit are more sets after strings
  pub many_after : {limit : ℕ} → TooMany (point_states rs) limit → ManyAfter rs limit
  many_after found =
      let many = (too_many_iff (states_lawful rs) (too_many found)).0 found in
      record {
        sets = many.states;
        more = many.more;
        after = λ i x e. reached_after (many.reached i x e);
        distinct = λ i j x e d. many.distinct i j x (is_itself (states_lawful rs) e) (is_itself (states_lawful rs) d);
      }

  module _ {sets : List ℕ} {cells : List (Option ℕ)}
      (f : FoundAll (point_states rs) sets cells)
      (short : length sets ≤ most_states) where
    state_after : (i : ℕ) {x : ℕ} → get_elem? sets i ≡ some x → AfterSome rs x
    state_after i {x} e =
        let (y, reached, same) = (found_reaches (states_lawful rs) f x).0 (i, is_itself (states_lawful rs) e) in
        subst (AfterSome rs) same (reached_after reached)

    state_fits : (i : ℕ) {x : ℕ} → get_elem? sets i ≡ some x → x < 2 ^ places point_words
    state_fits i e = let (w, bytes, points) = state_after i e in points.exact.fits

    -- a string of bytes after which points can come leads to the row of their set
    pub row_after : {w : List ℕ} {x : ℕ} → Bytes w
        → SomePoints (After rs w) x
        → (i : ℕ) × (get_elem? sets i ≡ some x) × Walk (rows_of sets cells) 0 w i
    row_after {w} {x} bytes points =
        let (t, a) = some_point points in
        let (s, first) = after_some rs w t a in
        let (y, at, holds) = start_row few fit f short (row_there few fit f short s first) in
        let (i, walk) = walk_exists few fit f short w bytes t a at holds in
        let (z, there, after) = walk_holds few fit f short walk at holds in
        let same : z ≡ x = exactly_unique z x (holds_exactly (state_fits i there) after) points.exact in
        (i, there ∙ ap {B = Option ℕ} some same, walk)

    -- the states are the sets of the points that can come next once some string of bytes was read
    pub states_after : (x : ℕ) → ((i : ℕ) × (get_elem? sets i ≡ some x)) ↔ AfterSome rs x
    states_after x = (
      λ (i, e). state_after i e,
      λ (w, bytes, points). let (i, at, walk) = row_after bytes points in (i, at),
    )

    -- where all states are found and are not too many, there are no more such sets
    pub not_many_after : ManyAfter rs most_states → ⊥
    not_many_after many =
        too_many_excludes_whole (states_lawful rs) f most_states
        ((too_many_iff (states_lawful rs) (whole f short)).1 reached) short
      where
        is_reached : {x : ℕ} → AfterSome rs x → Reached (point_states rs) x
        is_reached {x} after =
            let (i, at) = (states_after x).1 after in
            let (y, reached, same) = (found_reaches (states_lawful rs) f x).0 (i, is_itself (states_lawful rs) at) in
            subst (λ (z : ℕ). Reached (point_states rs) z) same reached

        reached : ManyReached (point_states rs) most_states
        reached =
            record {
              states = many.sets;
              more = many.more;
              reached = λ i x e. is_reached (many.after i x e);
              distinct = λ i j x h k.
                  many.distinct i j x (h.at ∙ ap {B = Option ℕ} some (sym h.same)) (k.at ∙ ap {B = Option ℕ} some (sym k.same));
            }
