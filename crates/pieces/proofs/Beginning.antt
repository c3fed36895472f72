-- What stands behind the rows of a machine says nothing: no walk leads there.
use mathlib.Core.Path.{◌≡◌, sym, subst, ◌∙◌}
use mathlib.Core.List.{List, ◌++◌}
use mathlib.Core.Logic.{◌↔◌, ◌⊎◌, inl, inr}
use Prim.Native.Nat.{ℕ, ◌+◌, ◌*◌, ◌≤◌, ◌<◌}
use native.Mathlib.Omega.{arith}
use lib.ListN.{length-append, get_or-append}
use Rattle.answers.specs.Limits.{byte_values, row_cells, most_states}
use Rattle.pieces.specs.Rows.{rows_in, cell_at, Walk, here, on, Says, Closed}
use Rattle.pieces.proofs.Walks.{walk_start, walk_end}

module _ (cells more : List ℕ) {rows : ℕ} (closed : Closed cells rows) where
  rows_are : rows_in cells ≡ rows
  rows_are = omega (arith, closed.whole, closed.few)

  rows_more : rows ≤ rows_in (cells ++ more)
  rows_more = simp length-append (omega (arith, closed.whole, closed.few))

  cell_same : (r c : ℕ) → r < rows → c < row_cells → cell_at (cells ++ more) r c ≡ cell_at cells r c
  cell_same r c inside column = get_or-append cells more 0 (r * row_cells + c) (omega (arith, closed.whole))

  walk_longer : {r s : ℕ} {u : List ℕ} → Walk cells r u s → Walk (cells ++ more) r u s
  walk_longer (here {r = r} inside) = here {r = r} (omega (arith, rows_are, rows_more))
  walk_longer (on {r = r} {b} {s} {u} inside byte walk) =
      on {r = r} (omega (arith, rows_are, rows_more)) byte
      (subst (λ (q : ℕ). Walk (cells ++ more) q u s) (sym (cell_same r b (omega (arith, rows_are)) (omega arith))) (walk_longer walk))

  -- a cell that names a row of the whole names one of the beginning
  named : (r b : ℕ) → r < rows → b < byte_values → cell_at (cells ++ more) r b < rows_in (cells ++ more) → cell_at cells r b < rows
  named r b inside byte below = go (closed.names r b inside byte)
    where
      go : (cell_at cells r b < rows) ⊎ (most_states ≤ cell_at cells r b) → cell_at cells r b < rows
      go (inl names) = names
      go (inr none) = absurd (omega (arith, cell_same r b inside (omega arith)))

  walk_shorter : {r s : ℕ} {u : List ℕ} → Walk (cells ++ more) r u s → r < rows → Walk cells r u s
  walk_shorter (here {r = r} inside) below = here {r = r} (omega (arith, rows_are))
  walk_shorter (on {r = r} {b} {s} {u} inside byte walk) below =
      let same = cell_same r b below (omega arith) in
      let next = named r b below byte (walk_start walk) in
      on {r = r} (omega (arith, rows_are)) byte
      (subst (λ (q : ℕ). Walk cells q u s) same (walk_shorter walk (subst (λ (q : ℕ). q < rows) (sym same) next)))

  -- cells behind the rows of a machine say nothing
  pub says_beginning : {k : ℕ} {u : List ℕ} → Says cells k u ↔ Says (cells ++ more) k u
  says_beginning = (longer, shorter)
    where
      longer : {k : ℕ} {u : List ℕ} → Says cells k u → Says (cells ++ more) k u
      longer says =
          record {
            row = says.row;
            walk = walk_longer says.walk;
            token = says.token ∙ sym (cell_same says.row byte_values (omega (arith, rows_are, walk_end says.walk)) (omega arith));
            counts = says.counts;
          }

      shorter : {k : ℕ} {u : List ℕ} → Says (cells ++ more) k u → Says cells k u
      shorter says =
          let walk = walk_shorter says.walk closed.some_row in
          record {
            row = says.row;
            walk = walk;
            token = says.token ∙ cell_same says.row byte_values (omega (arith, rows_are, walk_end walk)) (omega arith);
            counts = says.counts;
          }
