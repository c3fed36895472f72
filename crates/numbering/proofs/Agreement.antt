-- Two findings of one automaton agree: by induction over the cells that both have.
use mathlib.Core.Path.{◌≡◌, refl, sym, ◌∙◌}
use mathlib.Core.List.{List}
use mathlib.Core.Option.{Option, some, none, some-injective}
use Prim.Native.Nat.{ℕ, zero, suc, ◌/◌, ◌%◌, ◌≤◌, ◌<◌}
use native.Mathlib.Omega.{arith}
use native.Mathlib.Decide.{dec_lt}
use lib.ListN.{length, get_elem?}
use Rattle.numbering.specs.Numbering.{Automaton, Names, Lawful, IsState, Follows, Found}
use Rattle.numbering.proofs.Places.{element, inside, row_rises, row_earlier}

module _ {A : Type 0} {m : Automaton A} where
  -- a state of a list is that state
  pub is_itself : Lawful m → {states : List A} {i : ℕ} {x : A} → get_elem? states i ≡ some x → IsState m states i x
  is_itself law {x = x} e = record { state = x; at = e; same = law.reflexive x }

  pub is_inside : {states : List A} {i : ℕ} {x : A} → IsState m states i x → i < length states
  is_inside {states} {i} h = inside states i h.at

  -- what is the same as a state is that state
  pub is_same : Lawful m → {states : List A} {i : ℕ} {x y : A} → m.Same y x → IsState m states i x → IsState m states i y
  is_same law {x = x} {y = y} e h =
      record { state = h.state; at = h.at; same = law.transitive y x h.state e h.same }

  -- two that are one state are the same
  pub same_state : Lawful m → {states : List A} {i : ℕ} {x y : A} → IsState m states i x → IsState m states i y → m.Same x y
  same_state law {x = x} {y = y} h k =
      let one : k.state ≡ h.state = some-injective k.state h.state (sym k.at ∙ h.at) in
      law.transitive x h.state y h.same (law.symmetric y h.state (rw one at k.same))

module _ {A : Type 0} {m : Automaton A} (law : Lawful m) {states states' : List A} where
  -- where two rows have the same state, what follows in one follows in the other
  module _ (t : ℕ) (rows : (x : A) → IsState m states (t / m.columns) x → IsState m states' (t / m.columns) x) where
    pub follows_same : {y y' : A} → Follows m states t y → Follows m states' t y' → m.Same y y'
    follows_same {y} {y'} f g =
        law.one_move (t % m.columns) f.state g.state y y'
        (same_state law (rows f.state (is_itself law f.row)) (is_itself law g.row))
        f.moves
        g.moves

    pub follows_both : {y : A} → Follows m states t y → (y' : A) × Follows m states' t y'
    follows_both {y} f =
        let other : IsState m states' (t / m.columns) f.state = rows f.state (is_itself law f.row) in
        let (y', moves) = law.both_move (t % m.columns) f.state other.state y other.same f.moves in
        (y', record { state = other.state; row = other.at; moves = moves })

module _ {A : Type 0} {m : Automaton A} (law : Lawful m)
    {states states' : List A} {cells cells' : List (Option ℕ)}
    (f : Found m states cells)
    (g : Found m states' cells') where
  -- a state that both name in one cell, of rows with the same state, is the same
  named_agree : (t j : ℕ) → ((x : A) → IsState m states (t / m.columns) x → IsState m states' (t / m.columns) x)
      → Names cells t j
      → Names cells' t j
      → (x : A)
      → IsState m states j x
      → IsState m states' j x
  named_agree t j rows e e' x h =
      let (y, follows, is) = f.filled t j e in
      let (y', follows', is') = g.filled t j e' in
      let same : m.Same x y' = law.transitive x y y' (same_state law h is) (follows_same law t rows follows follows') in
      is_same law same is'

  first_agree : (x : A) → IsState m states 0 x → IsState m states' 0 x
  first_agree x h =
      let (start, starts) = f.started (is_inside h) in
      is_same law (same_state law h (f.first start starts)) (g.first start starts)

  -- states are the same as far as the cells of lower rows agree
  pub states_agree : (n : ℕ) → ((s j : ℕ) → s / m.columns < n → Names cells s j → Names cells' s j)
      → (i : ℕ)
      → i ≤ n
      → (x : A)
      → IsState m states i x
      → IsState m states' i x
  states_agree n agree i le x h = go (suc i) i (omega arith) le x h
    where
      go : (bound i : ℕ) → i < bound → i ≤ n → (x : A) → IsState m states i x → IsState m states' i x
      go zero i b le x h = absurd (omega arith)
      go (suc bound) zero b le x h = first_agree x h
      go (suc bound) (suc i) b le x h =
          let (s, lower, names) = f.born (suc i) (omega arith) (is_inside h) in
          let rows = go bound (s / m.columns) (omega arith) (omega arith) in
          named_agree s (suc i) rows names (agree s (suc i) (omega arith) names) x h

  module _ (t : ℕ) (agree : (s : ℕ) → s < t → get_elem? cells s ≡ get_elem? cells' s) where
    rows_agree : (i : ℕ) → i ≤ t / m.columns → (x : A) → IsState m states i x → IsState m states' i x
    rows_agree =
        states_agree (t / m.columns) (λ s j lower names. sym (agree s (row_earlier m.columns s t lower)) ∙ names)

    -- a number that stands in an earlier cell of the other, or 0, is the same state in both
    lower_agree : (j : ℕ) → (0 < j → (s : ℕ) × (s < t) × Names cells' s j)
        → (x : A)
        → IsState m states j x
        → IsState m states' j x
    lower_agree zero earlier x h = first_agree x h
    lower_agree (suc j) earlier x h =
        let (s, before, names) = earlier (omega arith) in
        let rows = rows_agree (s / m.columns) (row_rises m.columns s t (omega arith)) in
        named_agree s (suc j) rows (agree s before ∙ names) names x h

    -- where all earlier cells agree, one does not name a lower state than the other
    not_lower : (j j' : ℕ) → Names cells t j → Names cells' t j' → j < j' → ⊥
    not_lower j j' e e' lower =
        let (y, follows, is) = f.filled t j e in
        let (y', follows', is') = g.filled t j' e' in
        let same : m.Same y y' = follows_same law t (rows_agree (t / m.columns) (omega arith)) follows follows' in
        let one : IsState m states' j y = lower_agree j (λ above. g.order t j j' e' above lower) y is in
        let other : IsState m states' j' y = is_same law same is' in
        omega (arith, g.distinct j j' y one other)

    -- nor is one empty where the other names a state
    not_empty : (j : ℕ) → Names cells t j → get_elem? cells' t ≡ some none → ⊥
    not_empty j e e' =
        let (y, follows, is) = f.filled t j e in
        let (y', follows') = follows_both law t (rows_agree (t / m.columns) (omega arith)) follows in
        g.empty t e' y' follows'

module _ {A : Type 0} {m : Automaton A} (law : Lawful m)
    {states states' : List A} {cells cells' : List (Option ℕ)}
    (f : Found m states cells)
    (g : Found m states' cells') where
  cell_agrees : (t : ℕ) → ((s : ℕ) → s < t → get_elem? cells s ≡ get_elem? cells' s)
      → (v v' : Option ℕ)
      → get_elem? cells t ≡ some v
      → get_elem? cells' t ≡ some v'
      → v ≡ v'
  cell_agrees t agree none none e e' = refl
  cell_agrees t agree none (some j') e e' = absurd (not_empty law g f t (λ s h. sym (agree s h)) j' e' e)
  cell_agrees t agree (some j) none e e' = absurd (not_empty law f g t agree j e e')
  cell_agrees t agree (some j) (some j') e e' = go (dec_lt j j') (dec_lt j' j)
    where
      go : Dec (j < j') → Dec (j' < j) → some j ≡ some j'
      go (yes h) d = absurd (not_lower law f g t agree j j' e e' h)
      go (no h) (yes k) = absurd (not_lower law g f t (λ s h. sym (agree s h)) j' j e' e k)
      go (no h) (no k) = let same : j ≡ j' = omega arith in cc

  -- the cells that both have are the same
  pub cells_agree : (t : ℕ) → t < length cells → t < length cells' → get_elem? cells t ≡ get_elem? cells' t
  cells_agree t h h' = go (suc t) t (omega arith) h h'
    where
      go : (bound t : ℕ) → t < bound → t < length cells → t < length cells' → get_elem? cells t ≡ get_elem? cells' t
      go zero t b h h' = absurd (omega arith)
      go (suc bound) t b h h' =
          let (v, e) = element cells t h in
          let (v', e') = element cells' t h' in
          let same : v ≡ v' = cell_agrees t (λ s k. go bound s (omega arith) (omega arith) (omega arith)) v v' e e' in
          cc
