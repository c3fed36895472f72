-- Laws of walking the rows: a string leads to one row at most, and walks are put together and taken apart.
use mathlib.Core.Path.{◌≡◌, refl, sym, ap, subst, ◌∙◌}
use mathlib.Core.List.{List, [], ◌∷◌, ◌++◌}
use Prim.Native.Nat.{ℕ, ◌≤◌, ◌<◌}
use native.Mathlib.Omega.{arith}
use Rattle.answers.specs.Limits.{byte_values}
use Rattle.pieces.specs.Rows.{rows_in, cell_at, Walk, here, on, Says}

module _ {cells : List ℕ} where
  -- a walk starts at a row that is there
  pub walk_start : {r s : ℕ} {u : List ℕ} → Walk cells r u s → r < rows_in cells
  walk_start (here inside) = inside
  walk_start (on inside byte walk) = inside

  -- and ends at one
  pub walk_end : {r s : ℕ} {u : List ℕ} → Walk cells r u s → s < rows_in cells
  walk_end (here inside) = inside
  walk_end (on inside byte walk) = walk_end walk

  -- a string leads to one row at most
  pub walk_unique : {r s t : ℕ} {u : List ℕ} → Walk cells r u s → Walk cells r u t → s ≡ t
  walk_unique (here inside) (here inside') = refl
  walk_unique (on inside byte walk) (on inside' byte' walk') = walk_unique walk walk'

  pub walk_joined : {r s t : ℕ} {u v : List ℕ} → Walk cells r u s → Walk cells s v t → Walk cells r (u ++ v) t
  walk_joined (here inside) more = more
  walk_joined (on inside byte walk) more = on inside byte (walk_joined walk more)

  pub walk_split : {r t : ℕ} (u v : List ℕ)
      → Walk cells r (u ++ v) t
      → (s : ℕ) × Walk cells r u s × Walk cells s v t
  walk_split {r = r} [] v walk = (r, here (walk_start walk), walk)
  walk_split {r = r} (b ∷ u) v (on inside byte walk) =
      let rest = walk_split {r = cell_at cells r b} u v walk in (rest.0, on inside byte rest.1, rest.2)

  -- one byte more
  pub walk_more : {r s b : ℕ} {u : List ℕ}
      → Walk cells r u s
      → b < byte_values
      → cell_at cells s b < rows_in cells
      → Walk cells r (u ++ (b ∷ [])) (cell_at cells s b)
  walk_more walk byte inside = walk_joined walk (on (walk_end walk) byte (here inside))

  -- the cell of a walk's first byte names a row
  pub walk_next : {s t b : ℕ} {v : List ℕ} → Walk cells s (b ∷ v) t → cell_at cells s b < rows_in cells
  walk_next (on inside byte rest) = walk_start rest

  -- a cell that names no row leads nowhere, whatever follows
  pub walk_stuck : {r s t : ℕ} (b : ℕ) (u v : List ℕ)
      → Walk cells r u s
      → rows_in cells ≤ cell_at cells s b
      → Walk cells r (u ++ (b ∷ v)) t
      → ⊥
  walk_stuck b u v walk outside more =
      let parts = walk_split u (b ∷ v) more in
      let inside = walk_next parts.2 in
      let same = walk_unique walk parts.1 in
      omega (arith, subst (λ (q : ℕ). cell_at cells q b < rows_in cells) (sym same) inside)

  -- of a string the cells say the token of the row where its walk ends
  pub says_token : {k row : ℕ} {u : List ℕ} → Walk cells 0 u row → Says cells k u → k ≡ cell_at cells row byte_values
  says_token walk says =
      says.token ∙ ap (λ (q : ℕ). cell_at cells q byte_values) (walk_unique says.walk walk)

  -- and so one token at most
  pub says_unique : {j k : ℕ} {u : List ℕ} → Says cells j u → Says cells k u → j ≡ k
  says_unique one other = says_token other.walk one ∙ sym other.token
