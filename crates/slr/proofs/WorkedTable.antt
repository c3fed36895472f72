-- The table of a small grammar worked out: given numbers are its table wherever a test passes that computes.
use mathlib.Core.Path.{◌≡◌, refl, sym, subst}
use mathlib.Core.Logic.{◌↔◌}
use mathlib.Core.Bool.{Bool, true, false, ◌&&◌}
use mathlib.Core.List.{List, [], ◌∷◌, ◌++◌, map}
use mathlib.Core.Option.{Option, some, none, none-ne-some, some-injective}
use Prim.Native.Nat.{ℕ, ◌+◌, ◌*◌, ◌/◌, ◌%◌, ◌≤◌, ◌<◌}
use native.Mathlib.Nat.{mod-lt, div-add-mod'}
use native.Mathlib.Omega.{arith}
use lib.Dec.{T, eqb, ltb, eqb→eq, eqb_refl, ltb→lt}
use lib.ListN.{length, get_or, get_elem?}
use Rattle.grammar.specs.declared.Symbol.{Symbol}
use Rattle.grammar.specs.declared.Symbol.TheVariants.{Token, Nonterminal}
use Rattle.grammar.specs.Grammar.{Form, Production, Grammar, Column, token, endmark, Every, nothing, each, Rule}
use Rattle.grammar.proofs.Every.{every_append, every_at}
use Rattle.grammar.proofs.Sets.{FollowOf}
use Rattle.grammar.proofs.Tests.{and_left, and_right, and_both, or_left, or_elim, all, any, all_every, any_append_left, any_append_right, below, below_each}
use Rattle.grammar.proofs.Worked.{Entry, is, In}
use Rattle.numbering.specs.Numbering.{Names, FoundAll}
use Rattle.numbering.proofs.Promise.{is_itself}
use Rattle.numbering.proofs.Promise.{cell_named}
use Rattle.slr.specs.Items.{Item, finish, dotted, Along}
use Rattle.slr.specs.States.{columns_of, SymbolColumn, column_token, column_nonterminal, MovesTo, collection, InState, LeadsTo}
use Rattle.slr.specs.Actions.{Action, reduce, accept, Acts, shifts, reduces, accepts}
use Rattle.slr.specs.Cells.{reduce_from, accept_cell, empty_cell, code_of, ActionColumn, under_token, under_end, SlrClaims, claims_action, claims_move, SlrHolds, only, unclaimed, SlrTableOf}
use Rattle.slr.proofs.Items.{same_trans}
use Rattle.slr.proofs.States.{collection_lawful, column_inside}
use Rattle.slr.proofs.Codes.{is_true, below_true, below_false}
use Rattle.slr.proofs.Choosing.{choosing, Chosen, choosing_sound, choosing_all, any_map, map_every}
use Rattle.slr.proofs.WorkedItems.{has_item, has_every, items_along, along_test, items_sound, items_complete}

-- the column of a number
unfoldable pub end_in : Grammar → ℕ → Option Column
end_in g n = elim (eqb n g.tokens) [ true ↦ some endmark | false ↦ none ]

unfoldable pub column_in : Grammar → ℕ → Option Column
unfolding end_in
column_in g n = elim (ltb n g.tokens) [ true ↦ some (token n) | false ↦ end_in g n ]

end_is : (g : Grammar) (n : ℕ) (c : Column) → end_in g n ≡ some c → ActionColumn g c n
unfolding end_in
end_is g n c e = go (eqb n g.tokens) (eqb→eq n g.tokens) e
  where
    go : (b : Bool)
        → (T b → n ≡ g.tokens)
        → elim b [ true ↦ some endmark | false ↦ none ] ≡ some c
        → ActionColumn g c n
    go true f h = rw (f tt, ← some-injective endmark c h) under_end
    go false f h = absurd (none-ne-some c h)

column_is : (g : Grammar) (n : ℕ) (c : Column) → column_in g n ≡ some c → ActionColumn g c n
unfolding column_in
column_is g n c e = go (ltb n g.tokens) (ltb→lt n g.tokens) e
  where
    go : (b : Bool)
        → (T b → n < g.tokens)
        → elim b [ true ↦ some (token n) | false ↦ end_in g n ] ≡ some c
        → ActionColumn g c n
    go true f h = rw (← some-injective (token n) c h) (under_token (f tt))
    go false f h = end_is g n c h

is_column : {g : Grammar} {n : ℕ} {c : Column} → ActionColumn g c n → column_in g n ≡ some c
unfolding column_in end_in
is_column (under_token h) = rw (below_true h, column_in)
is_column {g} under_end =
    let past : g.tokens ≤ g.tokens = omega arith in
    rw (below_false past, is_true {b = eqb g.tokens g.tokens} (eqb_refl g.tokens), column_in, end_in)

first_of : {P : ℕ → Type 0} {x : ℕ} {xs : List ℕ} → Every P (x ∷ xs) → P x
first_of (each p h) = p

token_column : {g : Grammar} {t m : ℕ} {c : Column} → ActionColumn g c m → c ≡ token t → SymbolColumn g (Token t) m
token_column {g} {t} {m} (under_token {t = s} h) e =
    let same : s ≡ t = cc in subst (λ (o : ℕ). SymbolColumn g (Token o) m) same (column_token h)
token_column under_end e = let bad : ◌≡◌ {A = ℕ} 0 1 = cc in absurd (omega arith)

-- the only claim, or 65,535
unfoldable pub held_test : List ℕ → ℕ → Bool
held_test [] v = eqb v empty_cell
held_test (u ∷ []) v = eqb v u
held_test (u ∷ (o ∷ us)) v = false

module _ (g : Grammar) (n : ℕ) (paths : List Form) (cells : List (Option ℕ)) (W : List Entry) where
  -- p is reduced by: its item with the dot at the end is in the set, and the column is in FOLLOW of its left side
  unfoldable pub reduces_test : Column → List Item → ℕ → Production → Bool
  unfolding has_item any is
  reduces_test c xs p r = has_item xs (dotted p (length r.right)) && any (is r.left c) W

  -- the state that the cell of the numbering names
  unfoldable pub moves_at : ℕ → List ℕ
  moves_at i = elim (get_elem? cells i) [ none ↦ [] | some o ↦ elim o [ none ↦ [] | some j ↦ j ∷ [] ] ]

  unfoldable pub reductions_of : Column → List Item → List ℕ
  unfolding choosing reduces_test
  reductions_of c xs = map (λ p. reduce_from + p) (choosing (reduces_test c xs) 0 g.productions)

  unfoldable pub accepts_of : Column → List Item → List ℕ
  unfolding has_item
  accepts_of (token t) xs = []
  accepts_of endmark xs = elim (has_item xs finish) [ true ↦ accept_cell ∷ [] | false ↦ [] ]

  -- the reductions and the acceptance of a state under a column
  unfoldable pub ends_of : Option Column → Option Form → List ℕ
  unfolding reductions_of accepts_of items_along
  ends_of none q = []
  ends_of (some c) none = []
  ends_of (some c) (some γ) = reductions_of c (items_along g n γ) ++ accepts_of c (items_along g n γ)

  -- the numbers that claim a cell
  unfoldable pub claims_at : ℕ → List ℕ
  unfolding moves_at ends_of column_in
  claims_at i = moves_at i ++ ends_of (column_in g (i % columns_of g)) (get_elem? paths (i / columns_of g))

  module _ (found : FoundAll (collection g) paths cells) (closed : T (all (along_test g n) paths))
      (W-exact : (A : ℕ) (c : Column) → In W A c ↔ FollowOf g A c) where
    -- a shift or a move
    leads_claim : (i : ℕ) {x : Symbol} {c j : ℕ}
        → SymbolColumn g x c
        → i % columns_of g ≡ c
        → LeadsTo g paths (i / columns_of g) x j
        → SlrClaims g paths i j
    unfolding code_of
    leads_claim i (column_token {t = t} h) e l =
        let column : ActionColumn g (token t) (i % columns_of g) = rw e (under_token h) in
        claims_action column (shifts l)
    leads_claim i (column_nonterminal h) e l = claims_move e l

    names_claim : (i j : ℕ) → Names cells i j → SlrClaims g paths i j
    names_claim i j names =
        let (y, follows, is_y) = found.found.filled i j names in
        let goes = follows.moves.goes in
        leads_claim i follows.moves.column refl
        (record {
          from = follows.state;
          to = is_y.state;
          at = follows.row;
          there = is_y.at;
          goes = record { item = goes.item; inside = goes.inside; same = same_trans goes.same is_y.same };
        })

    claim_names : (i : ℕ) {x : Symbol} {j : ℕ}
        → SymbolColumn g x (i % columns_of g)
        → LeadsTo g paths (i / columns_of g) x j
        → Names cells i j
    claim_names i {x} {j} column l =
        let law = collection_lawful g in
        let moves : MovesTo g l.from (i % columns_of g) l.to =
        record { symbol = x; column = column; goes = l.goes } in
        let named : Names cells (i / columns_of g * columns_of g + i % columns_of g) j =
        (cell_named law found (i / columns_of g) (i % columns_of g) j l.from (column_inside column)
        (is_itself law l.at)).1 (l.to, moves, is_itself law l.there) in
        rw (div-add-mod' i (columns_of g)) at named

    moves_sound : (i : ℕ) → Every (SlrClaims g paths i) (moves_at i)
    unfolding moves_at
    moves_sound i = go (get_elem? cells i) refl
      where
        go : (o : Option (Option ℕ))
            → get_elem? cells i ≡ o
            → Every (SlrClaims g paths i) (elim o [ none ↦ [] | some o ↦ elim o [ none ↦ [] | some j ↦ j ∷ [] ] ])
        go none e = nothing
        go (some none) e = nothing
        go (some (some j)) e = each (names_claim i j e) nothing

    moves_all : (i j : ℕ) → Names cells i j → T (any (eqb j) (moves_at i))
    unfolding moves_at any
    moves_all i j names = rw (names, moves_at) (or_left (eqb j j) false (eqb_refl j))

    module _ (i : ℕ) {c : Column} {γ : Form} (column : ActionColumn g c (i % columns_of g))
        (row : get_elem? paths (i / columns_of g) ≡ some γ) where
      in_row : {x : Item} → Along g γ x → InState g paths (i / columns_of g) x
      in_row h = record { path = γ; at = row; inside = h }

      reduction_claim : (p : ℕ) → Chosen g (reduces_test c (items_along g n γ)) p → SlrClaims g paths i (reduce_from + p)
      unfolding reduces_test code_of
      reduction_claim p k =
          let r : Production = k.production in
          let ends : Bool = has_item (items_along g n γ) (dotted p (length r.right)) in
          let follows : Bool = any (is r.left c) W in
          let item : Along g γ (dotted p (length r.right)) =
          has_every (Along g γ) (items_sound g n γ) (dotted p (length r.right))
          (and_left ends follows k.holds) in
          let follow : FollowOf g r.left c = (W-exact r.left c).0 (and_right ends follows k.holds) in
          claims_action {a = reduce p} column (reduces k.rule (in_row item) follow)

      reductions_sound : Every (SlrClaims g paths i) (reductions_of c (items_along g n γ))
      unfolding reductions_of
      reductions_sound =
          map_every (λ p. reduce_from + p) reduction_claim (choosing_sound g (reduces_test c (items_along g n γ)))

    accepts_sound : (i : ℕ) (c : Column) {γ : Form}
        → ActionColumn g c (i % columns_of g)
        → get_elem? paths (i / columns_of g) ≡ some γ
        → Every (SlrClaims g paths i) (accepts_of c (items_along g n γ))
    unfolding accepts_of code_of
    accepts_sound i (token t) column row = nothing
    accepts_sound i endmark {γ} column row =
        go (has_item (items_along g n γ) finish) (has_every (Along g γ) (items_sound g n γ) finish)
      where
        go : (b : Bool)
            → (T b → Along g γ finish)
            → Every (SlrClaims g paths i) (elim b [ true ↦ accept_cell ∷ [] | false ↦ [] ])
        go true h = each (claims_action {a = accept} column (accepts (in_row i column row (h tt)))) nothing
        go false h = nothing

    ends_sound : (i : ℕ) (o : Option Column) (q : Option Form)
        → column_in g (i % columns_of g) ≡ o
        → get_elem? paths (i / columns_of g) ≡ q
        → Every (SlrClaims g paths i) (ends_of o q)
    unfolding ends_of
    ends_sound i none q e row = nothing
    ends_sound i (some c) none e row = nothing
    ends_sound i (some c) (some γ) e row =
        let column : ActionColumn g c (i % columns_of g) = column_is g (i % columns_of g) c e in
        every_append (reductions_of c (items_along g n γ)) (accepts_of c (items_along g n γ))
        (reductions_sound i column row)
        (accepts_sound i c column row)

    claims_sound : (i : ℕ) → Every (SlrClaims g paths i) (claims_at i)
    unfolding claims_at
    claims_sound i =
        every_append (moves_at i) (ends_of (column_in g (i % columns_of g)) (get_elem? paths (i / columns_of g)))
        (moves_sound i)
        (ends_sound i (column_in g (i % columns_of g)) (get_elem? paths (i / columns_of g)) refl refl)

    -- an action but a shift stands behind the moves
    behind_moves : (i v : ℕ) {c : Column} {γ : Form}
        → ActionColumn g c (i % columns_of g)
        → get_elem? paths (i / columns_of g) ≡ some γ
        → T (any (eqb v) (reductions_of c (items_along g n γ) ++ accepts_of c (items_along g n γ)))
        → T (any (eqb v) (claims_at i))
    unfolding claims_at ends_of
    behind_moves i v column row t =
        any_append_right (eqb v) (moves_at i) (ends_of (column_in g (i % columns_of g)) (get_elem? paths (i / columns_of g)))
        (rw (is_column column, row) t)

    closed_at : (s : ℕ) {γ : Form} → get_elem? paths s ≡ some γ → T (along_test g n γ)
    closed_at s {γ} e = every_at (all_every (along_test g n) paths closed) s γ e

    moves_there : (i : ℕ) {x : Symbol} {j : ℕ}
        → SymbolColumn g x (i % columns_of g)
        → LeadsTo g paths (i / columns_of g) x j
        → T (any (eqb j) (claims_at i))
    unfolding claims_at
    moves_there i {j = j} column l =
        any_append_left (eqb j) (moves_at i) (ends_of (column_in g (i % columns_of g)) (get_elem? paths (i / columns_of g)))
        (moves_all i j (claim_names i column l))

    reductions_there : (i : ℕ) {c : Column} {p A : ℕ} {β γ : Form}
        → get_elem? paths (i / columns_of g) ≡ some γ
        → Rule g p A β
        → Along g γ (dotted p (length β))
        → FollowOf g A c
        → T (any (eqb (reduce_from + p)) (reductions_of c (items_along g n γ)))
    unfolding reductions_of reduces_test
    reductions_there i {c} {p} {A} {β} {γ} row r h f =
        let test : ℕ → Production → Bool = reduces_test c (items_along g n γ) in
        let item : T (has_item (items_along g n γ) (dotted p (length β))) =
        items_complete g n γ (closed_at (i / columns_of g) row) (dotted p (length β)) h in
        let passes : T (test p (record { left = A; right = β })) =
        and_both (has_item (items_along g n γ) (dotted p (length β))) (any (is A c) W) item ((W-exact A c).1 f) in
        any_map (eqb p) (eqb (reduce_from + p)) (λ q. reduce_from + q)
        (λ q t. subst (λ (o : ℕ). T (eqb (reduce_from + p) (reduce_from + o))) (eqb→eq p q t) (eqb_refl (reduce_from + p)))
        (choosing test 0 g.productions)
        (choosing_all g test r passes)

    accepts_there : (i : ℕ) {γ : Form}
        → get_elem? paths (i / columns_of g) ≡ some γ
        → Along g γ finish
        → T (any (eqb accept_cell) (accepts_of endmark (items_along g n γ)))
    unfolding accepts_of any
    accepts_there i {γ} row h =
        go (has_item (items_along g n γ) finish) (items_complete g n γ (closed_at (i / columns_of g) row) finish h)
      where
        go : (b : Bool) → T b → T (any (eqb accept_cell) (elim b [ true ↦ accept_cell ∷ [] | false ↦ [] ]))
        go true t = tt
        go false t = absurd t

    acts_there : (i : ℕ) {c : Column} {a : Action}
        → ActionColumn g c (i % columns_of g)
        → Acts g paths (i / columns_of g) c a
        → T (any (eqb (code_of a)) (claims_at i))
    unfolding code_of
    acts_there i column (shifts {j = j} l) = moves_there i (token_column column refl) l
    acts_there i {c} column (reduces {p = p} r h f) =
        let items : List Item = items_along g n h.path in
        behind_moves i (reduce_from + p) column h.at
        (any_append_left (eqb (reduce_from + p)) (reductions_of c items) (accepts_of c items)
        (reductions_there i h.at r h.inside f))
    acts_there i column (accepts h) =
        let items : List Item = items_along g n h.path in
        behind_moves i accept_cell column h.at
        (any_append_right (eqb accept_cell) (reductions_of endmark items) (accepts_of endmark items)
        (accepts_there i h.at h.inside))

    claims_there : (i : ℕ) {v : ℕ} → SlrClaims g paths i v → T (any (eqb v) (claims_at i))
    claims_there i (claims_action column acts) = acts_there i column acts
    claims_there i (claims_move {A = A} e l) =
        let some_column : 0 < columns_of g = omega arith in
        let h : A < g.nonterminals = omega (arith, mod-lt i some_column) in
        let column : SymbolColumn g (Nonterminal A) (i % columns_of g) = rw e (column_nonterminal h) in
        moves_there i column l

    -- numbers that pass are the grammar's table
    pub tested_table : (table : List ℕ)
        → T (eqb (length table) (columns_of g * length paths))
        → T (below (length table) (λ i. held_test (claims_at i) (get_or table i empty_cell)))
        → SlrTableOf g paths table
    unfolding held_test any
    tested_table table size test =
        record {
          sized = eqb→eq (length table) (columns_of g * length paths) size;
          holds = λ i h. go i (claims_at i) refl (get_or table i empty_cell) (below_each (length table) right test i h);
        }
      where
        right : ℕ → Bool
        right i = held_test (claims_at i) (get_or table i empty_cell)

        none_claims : (i : ℕ) → claims_at i ≡ [] → (u : ℕ) → ¬ SlrClaims g paths i u
        none_claims i e u k = subst (λ (us : List ℕ). T (any (eqb u) us)) e (claims_there i k)

        one_claims : (i v : ℕ) → claims_at i ≡ v ∷ [] → (u : ℕ) → SlrClaims g paths i u → u ≡ v
        one_claims i v e u k =
            or_elim (eqb u v) false (eqb→eq u v) (λ t. absurd t)
            (subst (λ (us : List ℕ). T (any (eqb u) us)) e (claims_there i k))

        go : (i : ℕ) (us : List ℕ) → claims_at i ≡ us → (v : ℕ) → T (held_test us v) → SlrHolds g paths i v
        go i [] e v t = subst (SlrHolds g paths i) (sym (eqb→eq v empty_cell t)) (unclaimed (none_claims i e))
        go i (u ∷ []) e v t =
            subst (SlrHolds g paths i) (sym (eqb→eq v u t))
            (only (first_of (subst (Every (SlrClaims g paths i)) e (claims_sound i))) (one_claims i u e))
        go i (u ∷ (o ∷ us)) e v t = absurd t
