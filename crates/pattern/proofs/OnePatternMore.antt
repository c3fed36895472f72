-- What one pattern more behind a list adds to its points: for reading patterns one after another.
use mathlib.Core.Path.{◌≡◌, refl, sym, ◌∙◌, ap, subst}
use mathlib.Core.Logic.{◌↔◌, ◌⊎◌, inl, inr, ⊎_map}
use mathlib.Core.List.{List, [], ◌∷◌, ◌++◌}
use mathlib.Core.Option.{some}
use Prim.Native.Nat.{ℕ, zero, suc, ◌+◌, ◌<◌}
use native.Mathlib.Omega.{arith}
use lib.ListN.{get_elem?, length, take}
use lib.Seq.{take-append-le, take-append_seam}
use Rattle.pattern.specs.Pattern.{Expression}
use Rattle.pattern.specs.Positions.{Null, FirstPosition, LastPosition, FollowPosition, Reads, positions, position, end_of, Placed, Start, start_position, start_end, Onward, onward_position, onward_end, ReadsIn, reads_in}
use Rattle.pattern.proofs.PlacedPatterns.{below_length}

pub positions_append : (rs qs : List Expression) → positions (rs ++ qs) ≡ positions rs + positions qs
unfolding positions
positions_append [] qs = omega arith
positions_append (x ∷ rs) qs = omega (arith, positions_append rs qs)

-- element k of a list with x behind it is y: among the others, or x, the one added
data Element (rs : List Expression) (x : Expression) (k : ℕ) (y : Expression) : Type 0 where
  among : get_elem? rs k ≡ some y → Element rs x k y
  added : k ≡ length rs → y ≡ x → Element rs x k y

element_cases : (rs : List Expression) (x : Expression) (k : ℕ) {y : Expression}
    → get_elem? (rs ++ (x ∷ [])) k ≡ some y
    → Element rs x k y
element_cases [] x zero {y} e = added refl (cc)
element_cases [] x (suc k) e = let bad : ◌≡◌ {A = ℕ} 0 1 = cc in absurd (omega arith)
element_cases (z ∷ rs) x zero e = among e
element_cases (z ∷ rs) x (suc k) {y} e = go (element_cases rs x k e)
  where
    go : Element rs x k y → Element (z ∷ rs) x (suc k) y
    go (among f) = among f
    go (added f g) = added (omega arith) g

still_at : (rs : List Expression) (x : Expression) (k : ℕ) {y : Expression}
    → get_elem? rs k ≡ some y
    → get_elem? (rs ++ (x ∷ [])) k ≡ some y
still_at [] x k e = let bad : ◌≡◌ {A = ℕ} 0 1 = cc in absurd (omega arith)
still_at (z ∷ rs) x zero e = e
still_at (z ∷ rs) x (suc k) e = still_at rs x k e

now_at : (rs : List Expression) (x : Expression) → get_elem? (rs ++ (x ∷ [])) (length rs) ≡ some x
now_at [] x = refl
now_at (z ∷ rs) x = now_at rs x

module _ (rs : List Expression) (x : Expression) where
  -- the patterns, with x behind them
  abbrev more : List Expression
  more = rs ++ (x ∷ [])

  pub placed_before : {k n : ℕ} {y : Expression} → Placed rs k n y → Placed more k n y
  placed_before {k} a =
      let below : k < length rs = below_length rs k a.at in
      let same : take k more ≡ take k rs = take-append-le k rs (x ∷ []) (omega arith) in
      record { at = still_at rs x k a.at; from = a.from ∙ ap positions (sym same) }

  pub placed_new : Placed more (length rs) (positions rs) x
  placed_new = record { at = now_at rs x; from = ap positions (sym (take-append_seam rs (x ∷ []))) }

  -- a pattern of the longer list is one of the shorter, or what holds of it holds of the new one, numbered behind them
  placed_cases : (P : ℕ → ℕ → Expression → Type 0) {k n : ℕ} {y : Expression}
      → Placed more k n y
      → P k n y
      → Placed rs k n y ⊎ P (length rs) (positions rs) x
  placed_cases P {k} {n} {y} a d = go (element_cases rs x k a.at)
    where
      go : Element rs x k y → Placed rs k n y ⊎ P (length rs) (positions rs) x
      go (among e) =
          let below : k < length rs = below_length rs k e in
          inl (record { at = e; from = a.from ∙ ap positions (take-append-le k rs (x ∷ []) (omega arith)) })
      go (added e f) =
          let h : positions (take k more) ≡ positions (take (length rs) more) = ap (λ j. positions (take j more)) e in
          let g : n ≡ positions rs = a.from ∙ (h ∙ ap positions (take-append_seam rs (x ∷ []))) in
          inr (rw (e, f, g) at d)

  pub start_position_more : {p : ℕ}
      → Start more (position p)
      ↔ (Start rs (position p) ⊎ FirstPosition (positions rs) x p)
  start_position_more {p} = (to, from)
    where
      to : Start more (position p) → Start rs (position p) ⊎ FirstPosition (positions rs) x p
      to (start_position a f) =
          ⊎_map (λ b. start_position b f) (λ g. g) (placed_cases (λ k n y. FirstPosition n y p) a f)

      from : Start rs (position p) ⊎ FirstPosition (positions rs) x p → Start more (position p)
      from (inl (start_position a f)) = start_position (placed_before a) f
      from (inr f) = start_position placed_new f

  pub start_end_more : {k : ℕ} → Start more (end_of k) ↔ (Start rs (end_of k) ⊎ ((k ≡ length rs) × Null x))
  start_end_more {k} = (to, from)
    where
      to : Start more (end_of k) → Start rs (end_of k) ⊎ ((k ≡ length rs) × Null x)
      to (start_end a z) =
          ⊎_map (λ b. start_end b z) (λ g. g) (placed_cases (λ j n y. (k ≡ j) × Null y) a (refl, z))

      from : Start rs (end_of k) ⊎ ((k ≡ length rs) × Null x) → Start more (end_of k)
      from (inl (start_end a z)) = start_end (placed_before a) z
      from (inr (e, z)) = subst (λ (j : ℕ). Start more (end_of j)) (sym e) (start_end placed_new z)

  pub onward_position_more : {p q : ℕ}
      → Onward more p (position q)
      ↔ (Onward rs p (position q) ⊎ FollowPosition (positions rs) x p q)
  onward_position_more {p} {q} = (to, from)
    where
      to : Onward more p (position q) → Onward rs p (position q) ⊎ FollowPosition (positions rs) x p q
      to (onward_position a f) =
          ⊎_map (λ b. onward_position b f) (λ g. g) (placed_cases (λ k n y. FollowPosition n y p q) a f)

      from : Onward rs p (position q) ⊎ FollowPosition (positions rs) x p q → Onward more p (position q)
      from (inl (onward_position a f)) = onward_position (placed_before a) f
      from (inr f) = onward_position placed_new f

  pub onward_end_more : {p k : ℕ}
      → Onward more p (end_of k)
      ↔ (Onward rs p (end_of k) ⊎ ((k ≡ length rs) × LastPosition (positions rs) x p))
  onward_end_more {p} {k} = (to, from)
    where
      to : Onward more p (end_of k) → Onward rs p (end_of k) ⊎ ((k ≡ length rs) × LastPosition (positions rs) x p)
      to (onward_end a l) =
          ⊎_map (λ b. onward_end b l) (λ g. g) (placed_cases (λ j n y. (k ≡ j) × LastPosition n y p) a (refl, l))

      from : Onward rs p (end_of k) ⊎ ((k ≡ length rs) × LastPosition (positions rs) x p) → Onward more p (end_of k)
      from (inl (onward_end a l)) = onward_end (placed_before a) l
      from (inr (e, l)) = subst (λ (j : ℕ). Onward more p (end_of j)) (sym e) (onward_end placed_new l)

  pub reads_in_more : {p b : ℕ} → ReadsIn more p b ↔ (ReadsIn rs p b ⊎ Reads (positions rs) x p b)
  reads_in_more {p} {b} = (to, from)
    where
      to : ReadsIn more p b → ReadsIn rs p b ⊎ Reads (positions rs) x p b
      to (reads_in a r) = ⊎_map (λ c. reads_in c r) (λ g. g) (placed_cases (λ k n y. Reads n y p b) a r)

      from : ReadsIn rs p b ⊎ Reads (positions rs) x p b → ReadsIn more p b
      from (inl (reads_in a r)) = reads_in (placed_before a) r
      from (inr r) = reads_in placed_new r
