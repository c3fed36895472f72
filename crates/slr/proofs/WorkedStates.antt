-- The states of a small grammar worked out: given paths and cells are its numbering wherever a test passes that
-- computes.
use mathlib.Core.Path.{◌≡◌, refl, sym, ◌∙◌}
use mathlib.Core.Bool.{Bool, ◌&&◌, ◌||◌, not}
use mathlib.Core.List.{List, [], ◌∷◌}
use mathlib.Core.Option.{Option, some, none, none-ne-some, some-injective}
use Prim.Native.Nat.{ℕ, ◌*◌, ◌/◌, ◌%◌, ◌<◌}
use native.Mathlib.Decide.{dec_lt}
use native.Mathlib.Nat.{div-lt_iff_lt-mul}
use native.Mathlib.Omega.{arith}
use lib.Dec.{T, eqb, eqb→eq, T_not}
use lib.ListN.{length, get_elem?}
use Rattle.grammar.specs.declared.Symbol.{Symbol}
use Rattle.grammar.specs.Grammar.{Form, Grammar}
use Rattle.grammar.proofs.Every.{every_at}
use Rattle.grammar.proofs.Tests.{and_left, and_right, or_elim, all, all_every, below, below_each}
use Rattle.numbering.specs.Numbering.{Names, IsState, Follows, FoundAll}
use Rattle.numbering.proofs.Promise.{inside}
use Rattle.slr.specs.Items.{Along}
use Rattle.slr.specs.States.{columns_of, SameState, GoesTo, MovesTo, collection}
use Rattle.slr.proofs.Items.{same_itself, same_back, same_trans}
use Rattle.slr.proofs.WorkedItems.{items_along, along_test, items_sound, items_complete}
use Rattle.slr.proofs.WorkedSets.{some_below, some_below_lem, is_empty, same_set, symbol_in, symbol_column, column_symbol_in, same_set_state, state_same_set, holds_of, holds_of_lem, holds_at, is_none, none_there, empty_is, not_empty}

module _ (g : Grammar) (n : ℕ) (paths : List Form) (cells : List (Option ℕ)) where
  -- over x the set is not empty, and is that of state j
  unfoldable pub leads_test : Form → Symbol → ℕ → Bool
  unfolding is_empty holds_of same_set items_along
  leads_test γ x j =
      not (is_empty (items_along g n (x ∷ γ)))
      && holds_of (get_elem? paths j) (λ δ. same_set (items_along g n (x ∷ γ)) (items_along g n δ))

  -- a cell names the state that its row's state goes to over its column's symbol, and is none where there is none
  unfoldable pub move_test : Form → Option Symbol → Option ℕ → Bool
  unfolding is_none is_empty along_test items_along leads_test
  move_test γ none o = is_none o
  move_test γ (some x) none = along_test g n (x ∷ γ) && is_empty (items_along g n (x ∷ γ))
  move_test γ (some x) (some j) = along_test g n (x ∷ γ) && leads_test γ x j

  unfoldable pub cell_test : ℕ → Bool
  unfolding holds_of move_test symbol_in
  cell_test t =
      holds_of (get_elem? cells t)
      (λ o. holds_of (get_elem? paths (t / columns_of g)) (λ γ. move_test γ (symbol_in g (t % columns_of g)) o))

  -- two states are told apart
  unfoldable pub apart_test : ℕ → ℕ → Bool
  unfolding holds_of same_set items_along
  apart_test i j =
      holds_of (get_elem? paths i)
      (λ γ. holds_of (get_elem? paths j) (λ δ. not (same_set (items_along g n γ) (items_along g n δ))))

  unfoldable pub names_test : ℕ → ℕ → Bool
  unfolding holds_of
  names_test t j = holds_of (get_elem? cells t) (λ o. holds_of o (eqb j))

  -- a number but 0 stands in a cell before t
  unfoldable pub met_test : ℕ → ℕ → Bool
  unfolding some_below names_test
  met_test t j = eqb j 0 || some_below t (λ s. names_test s j)

  -- each lower number stands in an earlier cell
  unfoldable pub rises_test : ℕ → Bool
  unfolding holds_of is_none below met_test
  rises_test t = holds_of (get_elem? cells t) (λ o. is_none o || holds_of o (λ j. below j (met_test t)))

  unfoldable pub start_test : Bool
  unfolding holds_of is_empty
  start_test = holds_of (get_elem? paths 0) is_empty

  -- what is computed of paths and cells
  pub record Tested : Type 0 where
    pub starts : T start_test
    pub closed : T (all (along_test g n) paths)
    pub sized : T (eqb (length cells) (columns_of g * length paths))
    pub right : T (below (length cells) cell_test)
    pub apart : T (below (length paths) (λ i. below i (apart_test i)))
    pub born : T (below (length paths) (λ j. met_test (j * columns_of g) j))
    pub rises : T (below (length cells) rises_test)

  module _ (tested : Tested) where
    path_closed : (i : ℕ) {γ : Form} → get_elem? paths i ≡ some γ → T (along_test g n γ)
    path_closed i {γ} e = every_at (all_every (along_test g n) paths tested.closed) i γ e

    names_tested : (t j : ℕ) → T (names_test t j) → Names cells t j
    unfolding names_test
    names_tested t j h =
        let (o, e, inner) = holds_of_lem (get_elem? cells t) (λ o. holds_of o (eqb j)) h in
        let (i, f, same) = holds_of_lem o (eqb j) inner in
        rw (e, f, ← eqb→eq j i same)

    met : (t j : ℕ) → 0 < j → T (met_test t j) → (s : ℕ) × (s < t) × Names cells s j
    unfolding met_test
    met t j h test =
        or_elim (eqb j 0) (some_below t (λ s. names_test s j))
        (λ z. absurd (omega (arith, eqb→eq j 0 z)))
        (λ there.
        let (s, low, named) = some_below_lem t (λ s. names_test s j) there in
        (s, low, names_tested s j named))
        test

    -- what the test of a cell says
    cell_tested : (t : ℕ) (o : Option ℕ) → get_elem? cells t ≡ some o
        → (γ : Form) × (get_elem? paths (t / columns_of g) ≡ some γ) × T (move_test γ (symbol_in g (t % columns_of g)) o)
    unfolding cell_test
    cell_tested t o e =
        let test : T (cell_test t) = below_each (length cells) cell_test tested.right t (inside cells t e) in
        let rows : Option ℕ → Bool =
        λ o. holds_of (get_elem? paths (t / columns_of g)) (λ γ. move_test γ (symbol_in g (t % columns_of g)) o) in
        holds_of_lem (get_elem? paths (t / columns_of g)) (λ γ. move_test γ (symbol_in g (t % columns_of g)) o)
        (holds_at (get_elem? cells t) rows e test)

    leads_there : (γ : Form) (x : Symbol) (j : ℕ) → T (along_test g n (x ∷ γ)) → T (leads_test γ x j)
        → GoesTo g γ x (x ∷ γ) × IsState (collection g) paths j (x ∷ γ)
    unfolding leads_test
    leads_there γ x j closed test =
        let (δ, at, same) =
        holds_of_lem (get_elem? paths j) (λ δ. same_set (items_along g n (x ∷ γ)) (items_along g n δ))
        (and_right (not (is_empty (items_along g n (x ∷ γ)))) _ test) in
        let (i, h) =
        not_empty (items_along g n (x ∷ γ)) (items_sound g n (x ∷ γ))
        (and_left (not (is_empty (items_along g n (x ∷ γ)))) _ test) in
        let sets : SameState g (x ∷ γ) δ = same_set_state g n (x ∷ γ) δ closed (path_closed j at) same in (
          record { item = i; inside = h; same = same_itself (Along g (x ∷ γ)) },
          record { state = δ; at = at; same = sets },
        )

    cell_filled : (t j : ℕ)
        → Names cells t j
        → (y : Form) × Follows (collection g) paths t y × IsState (collection g) paths j y
    unfolding move_test is_none
    cell_filled t j names =
        let (γ, row, test) = cell_tested t (some j) names in go γ row (symbol_in g (t % columns_of g)) refl test
      where
        go : (γ : Form)
            → get_elem? paths (t / columns_of g) ≡ some γ
            → (o : Option Symbol)
            → symbol_in g (t % columns_of g) ≡ o
            → T (move_test γ o (some j))
            → (y : Form) × Follows (collection g) paths t y × IsState (collection g) paths j y
        go γ row none e test = absurd test
        go γ row (some x) e test =
            let (goes, is) =
            leads_there γ x j (and_left (along_test g n (x ∷ γ)) (leads_test γ x j) test)
            (and_right (along_test g n (x ∷ γ)) (leads_test γ x j) test) in
            let moves : MovesTo g γ (t % columns_of g) (x ∷ γ) =
            record { symbol = x; column = symbol_column g (t % columns_of g) x e; goes = goes } in
            (x ∷ γ, record { state = γ; row = row; moves = moves }, is)

    cell_empty : (t : ℕ) → get_elem? cells t ≡ some none → (y : Form) → ¬ Follows (collection g) paths t y
    unfolding move_test
    cell_empty t e y follows =
        let (γ, row, test) = cell_tested t none e in go γ row (symbol_in g (t % columns_of g)) refl test
      where
        go : (γ : Form)
            → get_elem? paths (t / columns_of g) ≡ some γ
            → (o : Option Symbol)
            → symbol_in g (t % columns_of g) ≡ o
            → T (move_test γ o none)
            → ⊥
        go γ row none f test =
            none-ne-some follows.moves.symbol (sym f ∙ column_symbol_in follows.moves.column)
        go γ row (some x) f test =
            let symbol : follows.moves.symbol ≡ x =
            some-injective follows.moves.symbol x
            (sym (column_symbol_in follows.moves.column) ∙ f) in
            let path : follows.state ≡ γ = some-injective follows.state γ (sym follows.row ∙ row) in
            let goes : GoesTo g γ x y = rw (symbol, path) at follows.moves.goes in
            let closed : T (along_test g n (x ∷ γ)) =
            and_left (along_test g n (x ∷ γ)) (is_empty (items_along g n (x ∷ γ))) test in
            none_there (items_along g n (x ∷ γ)) goes.item
            (and_right (along_test g n (x ∷ γ)) (is_empty (items_along g n (x ∷ γ))) test)
            (items_complete g n (x ∷ γ) closed goes.item goes.inside)

    apart_states : (i j : ℕ) (γ δ : Form)
        → get_elem? paths i ≡ some γ
        → get_elem? paths j ≡ some δ
        → j < i
        → SameState g γ δ
        → ⊥
    unfolding apart_test
    apart_states i j γ δ at there low same =
        let test : T (apart_test i j) =
        below_each i (apart_test i)
        (below_each (length paths) (λ k. below k (apart_test k)) tested.apart i (inside paths i at)) j low in
        let differ : Form → Form → Bool = λ γ δ. not (same_set (items_along g n γ) (items_along g n δ)) in
        let apart : T (differ γ δ) =
        holds_at (get_elem? paths j) (differ γ) there
        (holds_at (get_elem? paths i) (λ γ. holds_of (get_elem? paths j) (differ γ)) at test) in
        T_not (same_set (items_along g n γ) (items_along g n δ)) apart
        (state_same_set g n γ δ (path_closed i at) (path_closed j there) same)

    states_apart : (i j : ℕ) (γ : Form) → IsState (collection g) paths i γ → IsState (collection g) paths j γ → i ≡ j
    states_apart i j γ h k = go (dec_lt i j) (dec_lt j i)
      where
        go : Dec (i < j) → Dec (j < i) → i ≡ j
        go (yes low) d =
            let same : SameState g k.state h.state = same_trans (same_back k.same) h.same in
            absurd (apart_states j i k.state h.state k.at h.at low same)
        go (no n) (yes low) =
            let same : SameState g h.state k.state = same_trans (same_back h.same) k.same in
            absurd (apart_states i j h.state k.state h.at k.at low same)
        go (no n) (no m) = omega arith

    state_born : (j : ℕ) → 0 < j → j < length paths → (t : ℕ) × (t / columns_of g < j) × Names cells t j
    state_born j h k =
        let (t, low, names) =
        met (j * columns_of g) j h
        (below_each (length paths) (λ j. met_test (j * columns_of g) j) tested.born j k) in
        let some_column : 0 < columns_of g = omega arith in
        (t, (div-lt_iff_lt-mul some_column).1 low, names)

    cells_rise : (t i j : ℕ) → Names cells t j → 0 < i → i < j → (s : ℕ) × (s < t) × Names cells s i
    unfolding rises_test is_none holds_of
    cells_rise t i j names h k =
        let test : T (rises_test t) = below_each (length cells) rises_test tested.rises t (inside cells t names) in
        let rises : Option ℕ → Bool = λ o. is_none o || holds_of o (λ j. below j (met_test t)) in
        met t i h (below_each j (met_test t) (holds_at (get_elem? cells t) rises names test) i k)

    start_is : IsState (collection g) paths 0 []
    unfolding start_test
    start_is =
        let (γ, at, empty) = holds_of_lem (get_elem? paths 0) is_empty tested.starts in
        record { state = γ; at = at; same = rw (empty_is γ empty) (same_itself (Along g [])) }

    -- paths and cells that pass are the grammar's numbering
    pub tested_numbering : FoundAll (collection g) paths cells
    tested_numbering =
        let size : length cells ≡ columns_of g * length paths =
        eqb→eq (length cells) (columns_of g * length paths) tested.sized in
        record {
          found =
              record {
                first = λ γ e. rw e start_is;
                started = λ h. ([], refl);
                within = omega arith;
                filled = cell_filled;
                empty = cell_empty;
                distinct = states_apart;
                born = state_born;
                order = cells_rise;
              };
          all = size;
        }
