-- The expected set of a syntax stop as a number: its members are the columns that the reason asks for.
use mathlib.Core.Path.{◌≡◌, refl, sym, ◌∙◌}
use mathlib.Core.Logic.{◌↔◌, ◌⊎◌, inl, inr}
use mathlib.Core.List.{List, [], ◌∷◌, ◌++◌}
use mathlib.Core.Option.{Option, some, none}
use Prim.Native.Nat.{ℕ, zero, suc, ◌+◌, ◌*◌, ◌≤◌, ◌<◌}
use native.Mathlib.Decide.{dec_lt}
use native.Mathlib.Omega.{arith}
use borrow.Author.Tests.{lt-ltb, le-ltb}
use lib.ListN.{get_or}
use Rattle.grammar.specs.declared.Symbol.TheVariants.{Token}
use Rattle.grammar.specs.Grammar.{Form, spelled, Grammar, Column, token, endmark, Member, column, empty, Every, each, Known, known_token, WellFormed}
use Rattle.grammar.specs.Machine.{Continues, may_come}
use Rattle.grammar.proofs.Every.{every_left, every_right}
use Rattle.grammar.proofs.Leftmost.{spelled_append}
use Rattle.grammar.proofs.Useful.{sentential_known}
use Rattle.sets.specs.Sets.{width, end_mark, added, column_place, Exactly}
use Rattle.sets.specs.Calls.{number}
use Rattle.sets.proofs.Promise.{exactly_alike, exactly_none, exactly_added}
use Rattle.first.specs.Numbers.{place_of, At, IsSet}
use Rattle.first.proofs.Promise.{Columned, columned, columned_alike, columned_members}
use Rattle.table.specs.Table.{held, cell_of}
use Rattle.machine.specs.declared.Reason.{Reason}
use Rattle.machine.specs.declared.Reason.TheVariants.{WantsEnd, WantsToken, WantsRow}
use Rattle.machine.specs.Stopping.{Syntax, wanted_end, wanted_token, wanted_row}
use Rattle.machine.proofs.Promise.{Wanted, wants_end, wants_token, wants_row}
use Rattle.offer.specs.Stops.{marking, filled_below, expected}

marking_added : (k x : ℕ) → k < width → marking k x ≡ added k x
unfolding marking
marking_added k x h = rw (lt-ltb k width h)

-- the set with one place
marked_only : (j : ℕ) → j < width → Exactly width (marking j 0) (λ (k : ℕ). k ≡ j)
marked_only j h =
    rw (marking_added j 0 h)
    (exactly_alike (λ k. (λ p. one p, λ e. inr e)) (exactly_added j h (exactly_none width {P = λ (k : ℕ). ⊥} (λ k p. p))))
  where
    one : {k : ℕ} → ⊥ ⊎ (k ≡ j) → k ≡ j
    one {k = k} (inl x') = elim x' [ ]
    one (inr e) = e

-- a filled column among the first j of row A has this place
record FilledAt (g : Grammar) (table : List ℕ) (A j k : ℕ) : Type 0 where
  index : ℕ
  below : index < j
  production : ℕ
  filled : held (get_or table (A * (g.tokens + 1) + index) 255) ≡ some production
  place : column_place index g.tokens ≡ k

place_fits : (j T : ℕ) → T ≤ 62 → column_place j T < width
place_fits j T few = go (dec_lt j T)
  where
    go : Dec (j < T) → column_place j T < width
    go (yes h) = rw (lt-ltb j T h) (omega arith)
    go (no n) = let far : T ≤ j = omega arith in rw (le-ltb j T far) (omega arith)

module _ (g : Grammar) (table : List ℕ) (A : ℕ) where
  filled_later : {j k : ℕ} → FilledAt g table A j k → FilledAt g table A (suc j) k
  filled_later f = record { index = f.index; below = omega (arith, f.below); production = f.production; filled = f.filled; place = f.place }

  -- the last of them, or one before it
  filled_last : {j k : ℕ} → FilledAt g table A (suc j) k → FilledAt g table A j k ⊎ ((p : ℕ) × (held (get_or table (A * (g.tokens + 1) + j) 255) ≡ some p) × (column_place j g.tokens ≡ k))
  filled_last {j} {k} f = go (dec_lt f.index j)
    where
      go : Dec (f.index < j) → FilledAt g table A j k ⊎ ((p : ℕ) × (held (get_or table (A * (g.tokens + 1) + j) 255) ≡ some p) × (column_place j g.tokens ≡ k))
      go (yes h) = inl (record { index = f.index; below = h; production = f.production; filled = f.filled; place = f.place })
      go (no n) =
          let same : f.index ≡ j = omega (arith, f.below) in
          inr (f.production, rw (← same) f.filled, rw (← same) f.place)

  filled_exactly : g.tokens ≤ 62 → (j : ℕ) → Exactly width (filled_below g table A j) (FilledAt g table A j)
  unfolding filled_below
  filled_exactly few zero = exactly_none width (λ k f. omega (arith, f.below))
  filled_exactly few (suc j) = go (held (get_or table (A * (g.tokens + 1) + j) 255)) refl (filled_exactly few j)
    where
      go : (o : Option ℕ)
          → held (get_or table (A * (g.tokens + 1) + j) 255) ≡ o
          → Exactly width (filled_below g table A j) (FilledAt g table A j)
          → Exactly width (elim o [ none ↦ filled_below g table A j | some p ↦ marking (column_place j g.tokens) (filled_below g table A j) ]) (FilledAt g table A (suc j))
      go none e before = exactly_alike (λ k. (λ f. filled_later f, λ f. back (filled_last f))) before
        where
          back : {k : ℕ} → FilledAt g table A j k ⊎ ((p : ℕ) × (held (get_or table (A * (g.tokens + 1) + j) 255) ≡ some p) × (column_place j g.tokens ≡ k)) → FilledAt g table A j k
          back (inl f) = f
          back (inr (p, f, place)) = let bad : ◌≡◌ {A = ℕ} 0 1 = cc in absurd (omega arith)
      go (some p) e before =
          rw (marking_added (column_place j g.tokens) (filled_below g table A j) (place_fits j g.tokens few))
          (exactly_alike (λ k. (λ m. forth m, λ f. back (filled_last f))) (exactly_added (column_place j g.tokens) (place_fits j g.tokens few) before))
        where
          forth : {k : ℕ} → FilledAt g table A j k ⊎ (k ≡ column_place j g.tokens) → FilledAt g table A (suc j) k
          forth (inl f) = filled_later f
          forth (inr same) = record { index = j; below = omega arith; production = p; filled = e; place = sym same }

          back : {k : ℕ} → FilledAt g table A j k ⊎ ((q : ℕ) × (held (get_or table (A * (g.tokens + 1) + j) 255) ≡ some q) × (column_place j g.tokens ≡ k)) → FilledAt g table A j k ⊎ (k ≡ column_place j g.tokens)
          back (inl f) = inl f
          back (inr (q, f, place)) = inr (sym place)

  -- what the machine finds in the row
  module _ (inside : A < g.nonterminals) where
    cell_token : {t : ℕ} → t < g.tokens → cell_of g table A (token t) ≡ held (get_or table (A * (g.tokens + 1) + t) 255)
    unfolding cell_of
    cell_token {t} h = rw (lt-ltb A g.nonterminals inside, lt-ltb t g.tokens h, cell_of)

    cell_end : cell_of g table A endmark ≡ held (get_or table (A * (g.tokens + 1) + g.tokens) 255)
    unfolding cell_of
    cell_end = rw (lt-ltb A g.nonterminals inside, cell_of)

    cell_known : {t p : ℕ} → cell_of g table A (token t) ≡ some p → t < g.tokens
    unfolding cell_of
    cell_known {t} {p} e = go (dec_lt t g.tokens)
      where
        go : Dec (t < g.tokens) → t < g.tokens
        go (yes h) = h
        go (no n) =
            let far : g.tokens ≤ t = omega arith in
            let vacant : cell_of g table A (token t) ≡ none = rw (lt-ltb A g.nonterminals inside, le-ltb t g.tokens far, cell_of) in
            let bad : ◌≡◌ {A = ℕ} 0 1 = cc in absurd (omega arith)

    row_asks : g.tokens ≤ 62 → IsSet (filled_below g table A (g.tokens + 1)) (Columned (Wanted (cell_of g table) (WantsRow A)))
    row_asks few = exactly_alike (λ k. (λ f. forth f (dec_lt f.index g.tokens), λ a. back a.member a.place a.in_set)) (filled_exactly few (g.tokens + 1))
      where
        forth : {k : ℕ} (f : FilledAt g table A (g.tokens + 1) k) → Dec (f.index < g.tokens) → At (Columned (Wanted (cell_of g table) (WantsRow A))) k
        forth {k} f (yes h) =
            let there : f.index ≡ k = rw (lt-ltb f.index g.tokens h) at f.place in
            record { member = column (token f.index); place = there; in_set = columned (wants_row (cell_token h ∙ f.filled)) }
        forth {k} f (no n) =
            let last : f.index ≡ g.tokens = omega (arith, f.below) in
            let far : g.tokens ≤ f.index = omega arith in
            let there : end_mark ≡ k = rw (le-ltb f.index g.tokens far) at f.place in
            let filled : held (get_or table (A * (g.tokens + 1) + g.tokens) 255) ≡ some f.production = rw last at f.filled in
            record { member = column endmark; place = there; in_set = columned (wants_row (cell_end ∙ filled)) }

        back : {k : ℕ} (m : Member) → place_of m ≡ k → Columned (Wanted (cell_of g table) (WantsRow A)) m → FilledAt g table A (g.tokens + 1) k
        back {k = k} empty e x'' = elim x'' [ ]
        back (column (token t)) e (columned (wants_row {p = p} f)) =
            let h = cell_known f in
            record { index = t; below = omega arith; production = p; filled = sym (cell_token h) ∙ f; place = rw (lt-ltb t g.tokens h) e }
        back (column endmark) e (columned (wants_row {p = p} f)) =
            let far : g.tokens ≤ g.tokens = omega arith in
            record { index = g.tokens; below = omega arith; production = p; filled = sym cell_end ∙ f; place = rw (le-ltb g.tokens g.tokens far) e }

token_asks : {cell : ℕ → Column → Option ℕ} (t : ℕ) → t < width → IsSet (marking t 0) (Columned (Wanted cell (WantsToken t)))
token_asks {cell} t h = exactly_alike (λ k. (λ e. record { member = column (token t); place = sym e; in_set = columned wants_token }, λ a. back a.member a.place a.in_set)) (marked_only t h)
  where
    back : {k : ℕ} (m : Member) → place_of m ≡ k → Columned (Wanted cell (WantsToken t)) m → k ≡ t
    back {k = k} empty e x'' = elim x'' [ ]
    back (column (token s)) e (columned wants_token) = sym e
    back (column endmark) e (columned h) = elim h [ ]

end_asks : {cell : ℕ → Column → Option ℕ} → IsSet (marking end_mark 0) (Columned (Wanted cell WantsEnd))
end_asks {cell} = exactly_alike (λ k. (λ e. record { member = column endmark; place = sym e; in_set = columned wants_end }, λ a. back a.member a.place a.in_set)) (marked_only end_mark (omega arith))
  where
    back : {k : ℕ} (m : Member) → place_of m ≡ k → Columned (Wanted cell WantsEnd) m → k ≡ end_mark
    back {k = k} empty e x'' = elim x'' [ ]
    back (column endmark) e (columned wants_end) = sym e
    back (column (token t)) e (columned h) = elim h [ ]

-- a token that can come is one of the grammar's
token_known : {g : Grammar} → WellFormed g → (u : List ℕ) {t : ℕ} → Continues g u (column (token t)) → t < g.tokens
token_known {g} well u {t} (may_come b) =
    let whole : Every (Known g) (spelled ((u ++ (t ∷ [])) ++ b.rest)) = sentential_known well b.derivable in
    let parts : Every (Known g) (spelled (u ++ (t ∷ [])) ++ spelled b.rest) = rw (spelled_append (u ++ (t ∷ [])) b.rest) at whole in
    let begun : Every (Known g) (spelled (u ++ (t ∷ []))) = every_left (spelled (u ++ (t ∷ []))) (spelled b.rest) parts in
    let behind : Every (Known g) (spelled u ++ spelled (t ∷ [])) = rw (spelled_append u (t ∷ [])) at begun in
    first (every_right (spelled u) (spelled (t ∷ [])) behind)
  where
    known : Known g (Token t) → t < g.tokens
    known (known_token h) = h

    first : {α : Form} → Every (Known g) (Token t ∷ α) → t < g.tokens
    first (each k rest) = known k

-- a row with a filled cell is one of the grammar's
row_known : (g : Grammar) (table : List ℕ) (A : ℕ) (c : Column) {p : ℕ} → cell_of g table A c ≡ some p → A < g.nonterminals
unfolding cell_of
row_known g table A c {p} e = go (dec_lt A g.nonterminals)
  where
    vacant : g.nonterminals ≤ A → (c : Column) → cell_of g table A c ≡ none
    vacant far (token t) = rw (le-ltb A g.nonterminals far, cell_of)
    vacant far endmark = rw (le-ltb A g.nonterminals far, cell_of)

    go : Dec (A < g.nonterminals) → A < g.nonterminals
    go (yes h) = h
    go (no n) =
        let none_there = vacant (omega arith) c in
        let bad : ◌≡◌ {A = ℕ} 0 1 = cc in absurd (omega arith)

-- where the reason asks for just what can come, and something can, the expected set is what can come
module _ {g : Grammar} (few : g.tokens ≤ 62) (well : WellFormed g) (table u : List ℕ) where
  no_empty : ¬ Continues g u empty
  no_empty k = elim k [ ]

  reason_is : {r : Reason} → Syntax r
      → ((c : Column) → Continues g u (column c) ↔ Wanted (cell_of g table) r c)
      → (c : Column) × Continues g u (column c)
      → IsSet (number (expected g table r)) (Columned (Wanted (cell_of g table) r))
  unfolding expected
  reason_is wanted_end asks something = end_asks
  reason_is (wanted_token {t = t}) asks something = token_asks t (omega (arith, token_known well u ((asks (token t)).1 wants_token)))
  reason_is (wanted_row {A = A}) asks (c, k) = row_asks g table A (inside ((asks c).0 k)) few
    where
      inside : {c : Column} → Wanted (cell_of g table) (WantsRow A) c → A < g.nonterminals
      inside {c} (wants_row e) = row_known g table A c e

  pub hint_is : {r : Reason} → Syntax r
      → ((c : Column) → Continues g u (column c) ↔ Wanted (cell_of g table) r c)
      → (c : Column) × Continues g u (column c)
      → IsSet (number (expected g table r)) (Continues g u)
  hint_is why asks something =
      columned_members (Continues g u) no_empty (columned_alike (λ c. ((asks c).1, (asks c).0)) (reason_is why asks something))
