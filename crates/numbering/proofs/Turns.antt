-- One cell more: nothing follows, a state met before, or a new state; and what there is before the first cell.
use mathlib.Core.Path.{◌≡◌, refl, sym, ap, ◌∙◌}
use mathlib.Core.Logic.{◌⊎◌, inl, inr, ◌↔◌}
use mathlib.Core.List.{List, [], ◌∷◌, ◌++◌}
use mathlib.Core.Option.{Option, some, none, none-ne-some, some-injective}
use Prim.Native.Nat.{ℕ, ◌+◌, ◌*◌, ◌/◌, ◌%◌, ◌≤◌, ◌<◌}
use native.Mathlib.Decide.{dec_le, dec_lt}
use native.Mathlib.Nat.{mul-le-mul_left}
use native.Mathlib.Omega.{arith}
use lib.ListN.{length, get_elem?, length-append}
use lib.Arith.{digits_div, digits_mod}
use Rattle.numbering.specs.Numbering.{Automaton, Names, Lawful, IsState, Distinct, Follows, Found, FoundAll}
use Rattle.numbering.proofs.Places.{element, inside, at_append, at_last, at_cases, row_inside}
use Rattle.numbering.proofs.Agreement.{is_itself, is_inside, is_same}

module _ {A : Type 0} {m : Automaton A} where
  -- with no start there is nothing to find
  pub found_nothing : ((x : A) → ¬ m.Start x) → FoundAll m [] []
  found_nothing no_start =
      record {
        found =
            record {
              first = λ x s. absurd (no_start x s);
              started = λ h. absurd (omega arith);
              within = omega arith;
              filled = λ t j e. absurd (none-ne-some (some j) e);
              empty = λ t e. absurd (none-ne-some none e);
              distinct = λ i j x h k. absurd (none-ne-some h.state h.at);
              born = λ j h k. absurd (omega arith);
              order = λ t i j e. absurd (none-ne-some (some j) e);
            };
        all = omega arith;
      }

  -- the start alone, before its first cell
  pub found_begun : Lawful m → (x : A) → m.Start x → Found m (x ∷ []) []
  found_begun law x starts =
      record {
        first = λ y s. record { state = x; at = refl; same = law.one_start y x s starts };
        started = λ h. (x, starts);
        within = omega arith;
        filled = λ t j e. absurd (none-ne-some (some j) e);
        empty = λ t e. absurd (none-ne-some none e);
        distinct = λ i j y h k. omega (arith, is_inside h, is_inside k);
        born = λ j h k. absurd (omega arith);
        order = λ t i j e. absurd (none-ne-some (some j) e);
      }

  -- what follows in the cell of row r and column c is where the row's state leads by that column
  pub follows_at : (states : List A) (t r c : ℕ) (x y : A) → t ≡ r * m.columns + c
      → c < m.columns
      → get_elem? states r ≡ some x
      → Follows m states t y ↔ m.Moves x c y
  follows_at states t r c x y e h at = (forth, back)
    where
      row : t / m.columns ≡ r
      row = rw e (digits_div r h)

      column : t % m.columns ≡ c
      column = rw e (digits_mod r h)

      back : m.Moves x c y → Follows m states t y
      back moves = record { state = x; row = rw row at; moves = rw column moves }

      forth : Follows m states t y → m.Moves x c y
      forth f =
          let one : f.state ≡ x = some-injective f.state x (sym f.row ∙ rw row at) in
          rw (one, column) at f.moves

-- what makes one cell more, and perhaps one state more, a finding again
record Turn {A : Type 0} (m : Automaton A) (states : List A) (t : ℕ) (states' : List A) (v : Option ℕ) : Type 0 where
  kept : (i : ℕ) (x : A) → get_elem? states i ≡ some x → get_elem? states' i ≡ some x
  filled : (j : ℕ) → v ≡ some j → (y : A) × Follows m states t y × IsState m states' j y
  empty : v ≡ none → (y : A) → ¬ Follows m states t y
  low : (j : ℕ) → v ≡ some j → j ≤ length states
  distinct : Distinct m states'
  born : (j : ℕ) → length states ≤ j → j < length states' → v ≡ some j

module _ {A : Type 0} {m : Automaton A} {states states' : List A} {cells : List (Option ℕ)} {v : Option ℕ}
    (f : Found m states cells)
    (room : length cells < m.columns * length states)
    (turn : Turn m states (length cells) states' v) where
  is_kept : {i : ℕ} {x : A} → IsState m states i x → IsState m states' i x
  is_kept {i} h = record { state = h.state; at = turn.kept i h.state h.at; same = h.same }

  follows_kept : {t : ℕ} {y : A} → Follows m states t y → Follows m states' t y
  follows_kept {t} h =
      record { state = h.state; row = turn.kept (t / m.columns) h.state h.row; moves = h.moves }

  follows_before : {t : ℕ} {y : A} → t < m.columns * length states → Follows m states' t y → Follows m states t y
  follows_before {t} early h =
      let (x, e) = element states (t / m.columns) (row_inside m.columns t (length states) early) in
      let one : x ≡ h.state = some-injective x h.state (sym (turn.kept (t / m.columns) x e) ∙ h.row) in
      record { state = h.state; row = e ∙ ap {B = Option A} some one; moves = h.moves }

  no_fewer : length states ≤ length states'
  no_fewer = go (dec_le (length states) (length states'))
    where
      go : Dec (length states ≤ length states') → length states ≤ length states'
      go (yes h) = h
      go (no h) =
          let (x, e) = element states (length states') (omega arith) in
          omega (arith, inside states' (length states') (turn.kept (length states') x e))

  within_turn : length (cells ++ (v ∷ [])) ≤ m.columns * length states'
  within_turn = omega (arith, length-append cells (v ∷ []), mul-le-mul_left m.columns no_fewer)

  filled_turn : (t j : ℕ) → Names (cells ++ (v ∷ [])) t j → (y : A) × Follows m states' t y × IsState m states' j y
  filled_turn t j e = go (at_cases cells v t e)
    where
      go : Names cells t j ⊎ ((t ≡ length cells) × (v ≡ some j)) → (y : A) × Follows m states' t y × IsState m states' j y
      go (inl k) = let (y, follows, is) = f.filled t j k in (y, follows_kept follows, is_kept is)
      go (inr k) = let (y, follows, is) = turn.filled j k.1 in (y, follows_kept (rw k.0 follows), is)

  empty_turn : (t : ℕ) → get_elem? (cells ++ (v ∷ [])) t ≡ some none → (y : A) → ¬ Follows m states' t y
  empty_turn t e y h = go (at_cases cells v t e)
    where
      go : (get_elem? cells t ≡ some none) ⊎ ((t ≡ length cells) × (v ≡ none)) → ⊥
      go (inl k) = f.empty t k y (follows_before (omega (arith, inside cells t k)) h)
      go (inr k) = turn.empty k.1 y (rw k.0 at (follows_before (omega (arith, k.0)) h))

  born_turn : (j : ℕ) → 0 < j → j < length states' → (t : ℕ) × (t / m.columns < j) × Names (cells ++ (v ∷ [])) t j
  born_turn j above below = go (dec_lt j (length states))
    where
      go : Dec (j < length states) → (t : ℕ) × (t / m.columns < j) × Names (cells ++ (v ∷ [])) t j
      go (yes h) = let (t, lower, names) = f.born j above h in (t, lower, at_append cells (v ∷ []) t names)
      go (no h) =
          let last : v ≡ some j = turn.born j (omega arith) below in
          let lower = row_inside m.columns (length cells) (length states) room in
          (length cells, omega arith, at_last cells v ∙ ap {B = Option (Option ℕ)} some last)

  order_turn : (t i j : ℕ) → Names (cells ++ (v ∷ [])) t j
      → 0 < i
      → i < j
      → (s : ℕ) × (s < t) × Names (cells ++ (v ∷ [])) s i
  order_turn t i j e above below = go (at_cases cells v t e)
    where
      go : Names cells t j ⊎ ((t ≡ length cells) × (v ≡ some j)) → (s : ℕ) × (s < t) × Names (cells ++ (v ∷ [])) s i
      go (inl k) = let (s, before, names) = f.order t i j k above below in (s, before, at_append cells (v ∷ []) s names)
      go (inr k) =
          let (s, lower, names) = f.born i above (omega (arith, turn.low j k.1)) in
          (s, omega (arith, inside cells s names, k.0), at_append cells (v ∷ []) s names)

  turned : Found m states' (cells ++ (v ∷ []))
  turned =
      record {
        first = λ x s. is_kept (f.first x s);
        started = λ h. f.started (omega (arith, row_inside m.columns (length cells) (length states) room));
        within = within_turn;
        filled = filled_turn;
        empty = empty_turn;
        distinct = turn.distinct;
        born = born_turn;
        order = order_turn;
      }

module _ {A : Type 0} {m : Automaton A} {states : List A} {y : A} where
  -- with one state more, a state is one of before or the last
  new_cases : {i : ℕ} {x : A} → IsState m (states ++ (y ∷ [])) i x → IsState m states i x ⊎ ((i ≡ length states) × m.Same x y)
  new_cases {i} {x} h = go (at_cases states y i h.at)
    where
      go : (get_elem? states i ≡ some h.state) ⊎ ((i ≡ length states) × (y ≡ h.state)) → IsState m states i x ⊎ ((i ≡ length states) × m.Same x y)
      go (inl e) = inl (record { state = h.state; at = e; same = h.same })
      go (inr e) = inr (e.0, rw e.1 h.same)

  -- a state that is none of those before is told apart from each of them
  apart : Lawful m → ((j : ℕ) → ¬ IsState m states j y) → Distinct m states
      → {i j : ℕ} {x : A}
      → IsState m states i x ⊎ ((i ≡ length states) × m.Same x y)
      → IsState m states j x ⊎ ((j ≡ length states) × m.Same x y)
      → i ≡ j
  apart law new distinct {i} {j} {x} (inl h) (inl k) = distinct i j x h k
  apart law new distinct {i} {j} {x} (inl h) (inr k) = absurd (new i (is_same law (law.symmetric x y k.1) h))
  apart law new distinct {i} {j} {x} (inr h) (inl k) = absurd (new j (is_same law (law.symmetric x y h.1) k))
  apart law new distinct {i} {j} {x} (inr h) (inr k) = h.0 ∙ sym k.0

module _ {A : Type 0} {m : Automaton A} {states : List A} {cells : List (Option ℕ)}
    (f : Found m states cells)
    (room : length cells < m.columns * length states) where
  -- nothing follows
  pub turn_nothing : ((y : A) → ¬ Follows m states (length cells) y) → Found m states (cells ++ (none ∷ []))
  turn_nothing nothing =
      turned f room
      record {
        kept = λ i x e. e;
        filled = λ j e. absurd (none-ne-some j e);
        empty = λ e. nothing;
        low = λ j e. absurd (none-ne-some j e);
        distinct = f.distinct;
        born = λ j h k. absurd (omega arith);
      }

  -- what follows is a state met before
  pub turn_met : (j : ℕ) (y : A) → Follows m states (length cells) y
      → IsState m states j y
      → Found m states (cells ++ (some j ∷ []))
  turn_met j y follows is =
      turned f room
      record {
        kept = λ i x e. e;
        filled = λ i e. (y, follows, rw (← some-injective j i e) is);
        empty = λ e. absurd (none-ne-some j (sym e));
        low = λ i e. omega (arith, is_inside is, some-injective j i e);
        distinct = f.distinct;
        born = λ i h k. absurd (omega arith);
      }

  -- what follows is no state met before
  pub turn_new : Lawful m → (y : A) → Follows m states (length cells) y
      → ((j : ℕ) → ¬ IsState m states j y)
      → Found m (states ++ (y ∷ [])) (cells ++ (some (length states) ∷ []))
  turn_new law y follows new =
      turned f room
      record {
        kept = λ i x e. at_append states (y ∷ []) i e;
        filled = λ j e. (y, follows, is_itself law (rw (← some-injective (length states) j e) (at_last states y)));
        empty = λ e. absurd (none-ne-some (length states) (sym e));
        low = λ j e. omega (arith, some-injective (length states) j e);
        distinct = λ i j x h k. apart law new f.distinct (new_cases h) (new_cases k);
        born = λ j h k. ap {B = Option ℕ} some (omega (arith, length-append states (y ∷ [])));
      }
