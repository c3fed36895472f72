-- Where it can be decided what follows and what is the same, the search ends for every limit.
use mathlib.Core.Path.{◌≡◌, refl, sym, ◌∙◌}
use mathlib.Core.List.{List, [], ◌∷◌, ◌++◌}
use mathlib.Core.Option.{Option, some, none, none-ne-some, some-injective}
use Prim.Native.Nat.{ℕ, zero, suc, ◌+◌, ◌*◌, ◌/◌, ◌%◌, ◌≤◌, ◌<◌}
use native.Mathlib.Decide.{dec_le, dec_lt}
use native.Mathlib.Nat.{mul-le-mul_left}
use native.Mathlib.Omega.{arith}
use lib.ListN.{length, get_elem?, length-append}
use Rattle.numbering.specs.Numbering.{Automaton, Lawful, Decided, IsState, Follows, Found, Ending, whole, too_many}
use Rattle.numbering.proofs.Places.{element, row_inside}
use Rattle.numbering.proofs.Turns.{found_nothing, found_begun, turn_nothing, turn_met, turn_new}

module _ {A : Type 0} {m : Automaton A} (decided : Decided m) where
  -- whether y is one of the states
  seek : (states : List A) (y : A) → Dec ((j : ℕ) × IsState m states j y)
  seek [] y = no (λ (j, is). none-ne-some is.state is.at)
  seek (x ∷ states) y = go (decided.same y x) (seek states y)
    where
      go : Dec (m.Same y x) → Dec ((j : ℕ) × IsState m states j y) → Dec ((j : ℕ) × IsState m (x ∷ states) j y)
      go (yes e) d = yes (zero, record { state = x; at = refl; same = e })
      go (no n) (yes (j, is)) = yes (suc j, record { state = is.state; at = is.at; same = is.same })
      go (no n) (no k) = no (λ (j, is). none_is j is)
        where
          none_is : (j : ℕ) → IsState m (x ∷ states) j y → ⊥
          none_is zero is = n (rw (some-injective x is.state is.at) is.same)
          none_is (suc j) is = k (j, record { state = is.state; at = is.at; same = is.same })

-- a finding with one cell more
record Longer {A : Type 0} (m : Automaton A) (n : ℕ) : Type 0 where
  states : List A
  cells : List (Option ℕ)
  found : Found m states cells
  size : length cells ≡ suc n

module _ {A : Type 0} {m : Automaton A} (law : Lawful m) (decided : Decided m) where
  module _ {states : List A} {cells : List (Option ℕ)}
      (f : Found m states cells)
      (room : length cells < m.columns * length states) where
    longer : {states' : List A} (v : Option ℕ) → Found m states' (cells ++ (v ∷ [])) → Longer m (length cells)
    longer {states'} v g = record { states = states'; cells = cells ++ (v ∷ []); found = g; size = omega (arith, length-append cells (v ∷ [])) }

    -- a turn can always be made
    next : Longer m (length cells)
    next =
        let (x, row) = element states (length cells / m.columns) (row_inside m.columns (length cells) (length states) room) in
        move x row (decided.moves x (length cells % m.columns))
      where
        place : (y : A) → Follows m states (length cells) y → Dec ((j : ℕ) × IsState m states j y) → Longer m (length cells)
        place y follows (yes (j, is)) = longer (some j) (turn_met f room j y follows is)
        place y follows (no new) = longer (some (length states)) (turn_new f room law y follows (λ j is. new (j, is)))

        move : (x : A) → get_elem? states (length cells / m.columns) ≡ some x
            → Dec ((y : A) × m.Moves x (length cells % m.columns) y)
            → Longer m (length cells)
        move x row (yes (y, moves)) = place y (record { state = x; row = row; moves = moves }) (seek decided states y)
        move x row (no nothing) = longer none (turn_nothing f room blocked)
          where
            blocked : (y : A) → ¬ Follows m states (length cells) y
            blocked y follows =
                let one : follows.state ≡ x = some-injective follows.state x (sym follows.row ∙ row) in
                nothing (y, rw one at follows.moves)

  -- too many states, all cells, or one more turn
  judged : (limit : ℕ) {states : List A} {cells : List (Option ℕ)} → Found m states cells
      → (length states ≤ limit → length cells < m.columns * length states → Ending m limit)
      → Ending m limit
  judged limit {states} {cells} f more = go (dec_le (length states) limit) (dec_lt (length cells) (m.columns * length states))
    where
      go : Dec (length states ≤ limit) → Dec (length cells < m.columns * length states) → Ending m limit
      go (no many) d = too_many (record { states = states; cells = cells; found = f; more = omega arith })
      go (yes few) (no full) = whole (record { found = f; all = omega (arith, f.within) }) few
      go (yes few) (yes room) = more few room

  -- as many turns as the limit has cells are enough
  ends_from : (limit turns : ℕ) {states : List A} {cells : List (Option ℕ)} → Found m states cells
      → m.columns * limit ≤ turns + length cells
      → Ending m limit
  ends_from limit zero f enough = judged limit f (λ few room. absurd (omega (arith, mul-le-mul_left m.columns few)))
  ends_from limit (suc turns) f enough =
      judged limit f (λ few room. let g = next f room in ends_from limit turns g.found (omega (arith, g.size)))

  -- a search for no more states than any limit ends
  pub search_ends : (limit : ℕ) → Ending m limit
  search_ends limit = go decided.starts
    where
      go : Dec ((x : A) × m.Start x) → Ending m limit
      go (yes (x, starts)) = ends_from limit (m.columns * limit) (found_begun law x starts) (omega arith)
      go (no nothing) = whole (found_nothing (λ x starts. nothing (x, starts))) (omega arith)
