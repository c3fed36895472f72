-- The claims of one production, laid along its row: before the row and behind it the production claims nothing.
use mathlib.Core.Path.{◌≡◌, refl, sym, ◌∙◌}
use mathlib.Core.Bool.{Bool, true, false, false≢true}
use mathlib.Core.Logic.{◌⊎◌, inl, inr}
use mathlib.Core.List.{List}
use Prim.Native.Nat.{ℕ, ◌+◌, ◌*◌, ◌%◌, ◌≤◌, ◌<◌}
use native.Mathlib.Decide.{ℕ_discrete, dec_lt}
use native.Mathlib.Nat.{div-add-mod', mod-lt}
use native.Mathlib.Omega.{arith}
use lib.Arith.{digits_div, digits_mod}
use lib.ListN.{length, get_or}
use Rattle.std.specs.Prelude.{Option, None}
use Rattle.sets.specs.Sets.{member, column_place}
use Rattle.table.specs.declared.claims.Contest.{Contest}
use Rattle.table.specs.Claims.{claims, Laid, Ledger, Claimed, passes, RowClaimed}
use Rattle.table.proofs.Ledgers.{Adds, ledger_same, ledger_none, ledger_claim}

module _ {C : ℕ → ℕ → Type 0} {p : ℕ} where
  laid_later : {cell q : ℕ} → Laid C p cell cell q → q < p
  laid_later {cell} {q} l = go l.turn
    where
      go : (q < p) ⊎ ((q ≡ p) × (cell < cell)) → q < p
      go (inl h) = h
      go (inr e) = absurd (omega (arith, e.1))

  laid_adds : {cell : ℕ} → C cell p → Adds (Laid C p cell) (Laid C p (cell + 1)) cell p
  laid_adds {cell} c = record { keeps = λ i q l. record { claim = l.claim; turn = longer i q l.turn }; new = record { claim = c; turn = inr (refl, omega arith) }; only = λ i q l. go i q l.claim l.turn }
    where
      longer : (i q : ℕ) → (q < p) ⊎ ((q ≡ p) × (i < cell)) → (q < p) ⊎ ((q ≡ p) × (i < cell + 1))
      longer i q (inl h) = inl h
      longer i q (inr e) = inr (e.0, omega (arith, e.1))

      go : (i q : ℕ) → C i q → (q < p) ⊎ ((q ≡ p) × (i < cell + 1)) → Laid C p cell i q ⊎ ((i ≡ cell) × (q ≡ p))
      go i q k (inl h) = inl (record { claim = k; turn = inl h })
      go i q k (inr e) = at_last (ℕ_discrete i cell)
        where
          at_last : Dec (i ≡ cell) → Laid C p cell i q ⊎ ((i ≡ cell) × (q ≡ p))
          at_last (yes same) = inr (same, e.0)
          at_last (no other) = inl (record { claim = k; turn = inr (e.0, omega (arith, e.1)) })

  module _ {table : List ℕ} {known : Option Contest} where
    -- cells that p does not claim are passed by
    pub laid_skip : {f f' : ℕ}
        → f ≤ f'
        → ((i : ℕ) → f ≤ i → i < f' → ¬ C i p)
        → Ledger (Laid C p f) table known
        → Ledger (Laid C p f') table known
    laid_skip {f} {f'} further none = ledger_same (λ i q l. record { claim = l.claim; turn = longer i q l.turn }) (λ i q h l. record { claim = l.claim; turn = shorter i q l.claim l.turn })
      where
        longer : (i q : ℕ) → (q < p) ⊎ ((q ≡ p) × (i < f)) → (q < p) ⊎ ((q ≡ p) × (i < f'))
        longer i q (inl h) = inl h
        longer i q (inr e) = inr (e.0, omega (arith, e.1))

        shorter : (i q : ℕ) → C i q → (q < p) ⊎ ((q ≡ p) × (i < f')) → (q < p) ⊎ ((q ≡ p) × (i < f))
        shorter i q c (inl h) = inl h
        shorter i q c (inr e) = within (dec_lt i f)
          where
            within : Dec (i < f) → (q < p) ⊎ ((q ≡ p) × (i < f))
            within (yes h) = inr (e.0, h)
            within (no n) = absurd (none i (omega arith) e.1 (rw e.0 at c))

    -- past the last cell the next production begins
    pub laid_over : {f : ℕ} → length table ≤ f → Ledger (Laid C p f) table known → Ledger (Laid C (p + 1) 0) table known
    laid_over {f} past = ledger_same (λ i q l. record { claim = l.claim; turn = inl (before i q l.turn) }) (λ i q h l. record { claim = l.claim; turn = back i q h l.turn (dec_lt q p) })
      where
        before : (i q : ℕ) → (q < p) ⊎ ((q ≡ p) × (i < f)) → q < p + 1
        before i q (inl h) = omega arith
        before i q (inr e) = omega (arith, e.0)

        back : (i q : ℕ) → i < length table → (q < p + 1) ⊎ ((q ≡ p + 1) × (i < 0)) → Dec (q < p) → (q < p) ⊎ ((q ≡ p) × (i < f))
        back i q h t (yes l) = inl l
        back i q h (inl b) (no n) = inr (omega arith, omega arith)
        back i q h (inr e) (no n) = absurd (omega (arith, e.1))

  -- before the first production nothing is claimed
  pub laid_none : {table : List ℕ}
      → p ≡ 0
      → ((i : ℕ) → i < length table → get_or table i 0 ≡ 255)
      → Ledger (Laid C p 0) table None
  laid_none first = ledger_none (λ i q l. go i q l.turn)
    where
      go : (i q : ℕ) → (q < p) ⊎ ((q ≡ p) × (i < 0)) → ⊥
      go i q (inl h) = omega arith
      go i q (inr e) = omega (arith, e.1)

-- the claims of a production of this row and with this lookahead are laid on its first columns
pub record RowSoFar (row ahead tokens p : ℕ) (table : List ℕ) (known : Option Contest) (column : ℕ) (table' : List ℕ) (known' : Option Contest) : Type 0 where
  pub laid : (left look : ℕ → ℕ) → left p ≡ row → look p ≡ ahead
      → Ledger (Laid (claims left look tokens) p 0) table known
      → Ledger (Laid (claims left look tokens) p (row * (tokens + 1) + column)) table' known'

module _ (tokens : ℕ) {row ahead p : ℕ} (left look : ℕ → ℕ) (sided : left p ≡ row) (looks : look p ≡ ahead) where
  -- the cells that it claims lie in its row
  claims_inside : {i : ℕ} → claims left look tokens i p → (row * (tokens + 1) ≤ i) × (i < row * (tokens + 1) + (tokens + 1))
  claims_inside {i} k =
      let whole : row * (tokens + 1) + i % (tokens + 1) ≡ i = rw (sym sided ∙ k.of_row) (div-add-mod' i (tokens + 1)) in
      let rest : i % (tokens + 1) < tokens + 1 = mod-lt i {m = tokens + 1} (omega arith) in
      (omega arith, omega arith)

  module _ {column : ℕ} (inside : column < tokens + 1) where
    claims_column : member (column_place column tokens) ahead ≡ true → claims left look tokens (row * (tokens + 1) + column) p
    claims_column bit = rw (digits_div row inside, digits_mod row inside) (record { of_row = sided; has_bit = rw looks bit })

    column_claimed : claims left look tokens (row * (tokens + 1) + column) p → member (column_place column tokens) ahead ≡ true
    column_claimed k = rw looks at (rw (digits_div row inside, digits_mod row inside) at k).has_bit

module _ {row ahead tokens p : ℕ} {table : List ℕ} {known : Option Contest} where
  pub row_begun : RowSoFar row ahead tokens p table known 0 table known
  row_begun = record { laid = λ left look sided looks. laid_skip (omega arith) (λ i from before k. omega (arith, (claims_inside tokens left look sided looks k).0)) }

  module _ {column : ℕ} {table' : List ℕ} {known' : Option Contest} (so_far : RowSoFar row ahead tokens p table known column table' known') where
    row_skip : column < tokens + 1
        → member (column_place column tokens) ahead ≡ false
        → RowSoFar row ahead tokens p table known (column + 1) table' known'
    row_skip inside none = record { laid = λ left look sided looks begun. laid_skip (omega arith) (here left look sided looks) (so_far.laid left look sided looks begun) }
      where
        here : (left look : ℕ → ℕ)
            → left p ≡ row
            → look p ≡ ahead
            → (i : ℕ)
            → row * (tokens + 1) + column ≤ i
            → i < row * (tokens + 1) + (column + 1)
            → ¬ claims left look tokens i p
        here left look sided looks i from before k =
            let there : i ≡ row * (tokens + 1) + column = omega arith in
            false≢true (sym none ∙ column_claimed tokens left look sided looks inside (rw there at k))

    -- one column more, claimed or not
    pub row_next : column < tokens + 1
        → row * (tokens + 1) + column < length table'
        → p < 255
        → {b : Bool} {table'' : List ℕ} {known'' : Option Contest}
        → Claimed table' (row * (tokens + 1) + column) p known' b known'' table''
        → member (column_place column tokens) ahead ≡ b
        → RowSoFar row ahead tokens p table known (column + 1) table'' known''
    row_next inside there small {b = false} passes bit = row_skip inside bit
    row_next inside there small {b = true} claimed bit =
        let next : row * (tokens + 1) + column + 1 ≡ row * (tokens + 1) + (column + 1) = omega arith in
        record {
          laid = λ left look sided looks begun.
              rw next
              at (ledger_claim (laid_adds (claims_column tokens left look sided looks inside bit)) (λ q l. laid_later l) (so_far.laid left look sided looks begun) there small claimed);
        }

    pub row_over : tokens + 1 ≤ column → RowClaimed row ahead tokens p table known table' known'
    row_over past =
        record { laid = λ left look sided looks begun. laid_over {f = row * (tokens + 1) + column + length table'} (omega arith) (laid_skip (omega arith) (λ i from before k. omega (arith, (claims_inside tokens left look sided looks k).1)) (so_far.laid left look sided looks begun)) }
