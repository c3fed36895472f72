-- Every line has a cut where each string is known to begin with a token or with none, and by given cells it is known.
use Rattle.std.specs.Prelude.{Ok, Err}
use mathlib.Core.Path.{◌≡◌, refl, sym, subst}
use mathlib.Core.List.{List, [], ◌∷◌, ◌++◌}
use mathlib.Core.Logic.{◌≢◌, ◌⊎◌, inl, inr}
use Prim.Native.Nat.{ℕ, zero, suc, ◌+◌, ◌≤◌, ◌<◌}
use native.Mathlib.Decide.{dec_lt, ℕ_discrete}
use native.Mathlib.Omega.{arith}
use lib.ListN.{length, take, drop, get_or, length-append, length-drop}
use lib.Seq.{take-suc, take_all, take-length}
use Rattle.answers.specs.declared.Answer.{Answer}
use Rattle.answers.specs.Buffers.{over}
use Rattle.answers.specs.Limits.{most_patterns, byte_values}
use Rattle.pieces.specs.Cut.{Ending}
use Rattle.pieces.specs.declared.Stuck.TheVariants.{NoToken, NoRoom}
use Rattle.pieces.specs.Cut.{space, Piece, piece, numbers_of, ends_of, answer_of}
use Rattle.pieces.specs.Cut.{TokenAt, Cut, end_of_line, space_dropped, token_cut, no_token_starts, no_room}
use Rattle.pieces.specs.Calls.{CutWithOutcome}
use Rattle.pieces.specs.Meanings.{TokenKnown}
use Rattle.pieces.specs.Rows.{rows_in, cell_at, Walk, here, on, Says}
use Rattle.pieces.proofs.Best.{NoneBeyond, none_at_end, token_kept, none_kept, token_whole}
use Rattle.pieces.proofs.Walks.{walk_start, says_token}

module _ (M : ℕ → List ℕ → Type 0) where
  -- the line is cut
  abbrev pub IsCut : (room place : ℕ) → List ℕ → Type 0
  IsCut room place w = (pieces : List Piece) × (ending : Ending) × Cut M room place w pieces ending

  -- where shorter lines are cut, so is one that begins with a byte
  module _ (b : ℕ) (w : List ℕ) (shorter : (room place : ℕ) (v : List ℕ) → length v ≤ length w → IsCut room place v) where
    cut_token : {k n : ℕ} (room place : ℕ) → b ≢ space → TokenAt M (b ∷ w) k n → IsCut room place (b ∷ w)
    cut_token zero place no_space t = ([], Err (NoRoom place), no_room no_space t)
    cut_token {k} {n} (suc room) place no_space t =
        let fits : length (drop n (b ∷ w)) ≤ length w = simp length-drop (omega (arith, t.some_byte)) in
        let rest = shorter room (place + n) (drop n (b ∷ w)) fits in
        (piece k place (take n (b ∷ w)) ∷ rest.0, rest.1, token_cut no_space t rest.2)

    cut_byte : (room place : ℕ) → TokenKnown M (b ∷ w) → Dec (b ≡ space) → IsCut room place (b ∷ w)
    cut_byte room place decided (yes is_space) =
        let rest = shorter room (suc place) w (omega arith) in
        (rest.0, rest.1, subst (λ (c : ℕ). Cut M room place (c ∷ w) rest.0 rest.1) (sym is_space) (space_dropped rest.2))
    cut_byte room place (inl t) (no no_space) = cut_token room place no_space t.2
    cut_byte room place (inr none) (no no_space) = ([], Err (NoToken place), no_token_starts no_space none)

  module _ (decided : (w : List ℕ) → TokenKnown M w) where
    -- where shorter lines are cut, so is this one
    cut_line : (w : List ℕ)
        → ((room place : ℕ) (v : List ℕ) → length v < length w → IsCut room place v)
        → (room place : ℕ)
        → IsCut room place w
    cut_line [] shorter room place = ([], Ok tt, end_of_line)
    cut_line (b ∷ w) shorter room place =
        cut_byte b w (λ room place v less. shorter room place v (omega arith)) room place (decided (b ∷ w)) (ℕ_discrete b space)

    cut_within : (most room place : ℕ) (w : List ℕ) → length w ≤ most → IsCut room place w
    cut_within zero room place w fits = cut_line w (λ room place v less. absurd (omega arith)) room place
    cut_within (suc most) room place w fits =
        cut_line w (λ room place v less. cut_within most room place v (omega arith)) room place

    -- for every line there is a cut
    pub cut_exists : (room place : ℕ) (w : List ℕ) → IsCut room place w
    cut_exists room place w = cut_within (length w) room place w (omega arith)

module _ {M : ℕ → List ℕ → Type 0} (decide : (k : ℕ) (u : List ℕ) → Dec (M k u)) where
  -- the lowest pattern that matches u, or none below the bound
  LowestBelow : ℕ → List ℕ → Type 0
  LowestBelow bound u =
      ((k : ℕ) × M k u × ((j : ℕ) → j < k → M j u → ⊥)) ⊎ ((j : ℕ) → j < bound → M j u → ⊥)

  lowest_next : (bound : ℕ) (u : List ℕ) → LowestBelow bound u → Dec (M bound u) → LowestBelow (suc bound) u
  unfolding LowestBelow
  lowest_next bound u (inl found) this = inl found
  lowest_next bound u (inr none) (yes matches) = inl (bound, matches, none)
  lowest_next bound u (inr none) (no other) = inr (λ j below matches. go j below matches (dec_lt j bound))
    where
      go : (j : ℕ) → j < suc bound → M j u → Dec (j < bound) → ⊥
      go j below matches (yes less) = none j less matches
      go j below matches (no last) = let e : j ≡ bound = omega arith in other (subst (λ (i : ℕ). M i u) e matches)

  lowest : (bound : ℕ) (u : List ℕ) → LowestBelow bound u
  unfolding LowestBelow
  lowest zero u = inr (λ j below matches. omega arith)
  lowest (suc bound) u = lowest_next bound u (lowest bound u) (decide bound u)

  module _ (bound : ℕ) (bounded : (k : ℕ) (u : List ℕ) → M k u → k < bound) where
    -- one byte more
    decided_next : (u : List ℕ) (b : ℕ) → TokenKnown M u → LowestBelow bound (u ++ (b ∷ [])) → TokenKnown M (u ++ (b ∷ []))
    unfolding LowestBelow
    decided_next u b before (inl found) =
        let w = u ++ (b ∷ []) in
        inl (found.0, length w, token_whole w (simp length-append (omega arith)) found.1 found.2)
    decided_next u b before (inr none) = keep before
      where
        beyond : NoneBeyond M u (b ∷ [])
        beyond j m past within matches =
            let w = u ++ (b ∷ []) in
            let whole : take m w ≡ w = take_all m w (simp length-append (omega arith)) in
            let matched : M j w = subst (λ (v : List ℕ). M j v) whole matches in
            none j (bounded j w matched) matched

        keep : TokenKnown M u → TokenKnown M (u ++ (b ∷ []))
        keep (inl t) = inl (t.0, t.1, token_kept u (b ∷ []) t.2 beyond)
        keep (inr t) = inr (none_kept u (b ∷ []) t beyond)

    decided_prefix : (w : List ℕ) (j : ℕ) → j ≤ length w → TokenKnown M (take j w)
    decided_prefix w zero fits = inr none_at_end
    decided_prefix w (suc j) fits =
        let b = get_or w j 0 in
        rw (take-suc w j 0 fits) (decided_next (take j w) b (decided_prefix w j (omega arith)) (lowest bound (take j w ++ (b ∷ []))))

    -- a meaning that is decidable, of a bounded number of patterns, tells the token of every string
    pub meaning_decided : (w : List ℕ) → TokenKnown M w
    meaning_decided w = rw take-length at (decided_prefix w (length w) (omega arith))

module _ (cells : List ℕ) where
  -- where a walk leads, if anywhere
  walk_found : (r : ℕ) (u : List ℕ) → ((s : ℕ) × Walk cells r u s) ⊎ ((s : ℕ) → Walk cells r u s → ⊥)
  walk_found r [] = go (dec_lt r (rows_in cells))
    where
      go : Dec (r < rows_in cells) → ((s : ℕ) × Walk cells r [] s) ⊎ ((s : ℕ) → Walk cells r [] s → ⊥)
      go (yes inside) = inl (r, here inside)
      go (no outside) = inr (λ s walk. outside (walk_start walk))
  walk_found r (b ∷ u) = go (dec_lt r (rows_in cells)) (dec_lt b byte_values) (walk_found (cell_at cells r b) u)
    where
      byte_of : {s : ℕ} → Walk cells r (b ∷ u) s → b < byte_values
      byte_of (on inside byte walk) = byte

      rest_of : {s : ℕ} → Walk cells r (b ∷ u) s → Walk cells (cell_at cells r b) u s
      rest_of (on inside byte walk) = walk

      go : Dec (r < rows_in cells)
          → Dec (b < byte_values)
          → ((s : ℕ) × Walk cells (cell_at cells r b) u s) ⊎ ((s : ℕ) → Walk cells (cell_at cells r b) u s → ⊥)
          → ((s : ℕ) × Walk cells r (b ∷ u) s) ⊎ ((s : ℕ) → Walk cells r (b ∷ u) s → ⊥)
      go (no outside) byte rest = inr (λ s walk. outside (walk_start walk))
      go (yes inside) (no wide) rest = inr (λ s walk. wide (byte_of walk))
      go (yes inside) (yes byte) (inl rest) = inl (rest.0, on inside byte rest.1)
      go (yes inside) (yes byte) (inr none) = inr (λ s walk. none s (rest_of walk))

  -- whether the cells say k of u
  pub says_decidable : (k : ℕ) (u : List ℕ) → Dec (Says cells k u)
  says_decidable k u = go (walk_found 0 u)
    where
      said : {row : ℕ} → Walk cells 0 u row → Dec (k ≡ cell_at cells row byte_values) → Dec (k < most_patterns) → Dec (Says cells k u)
      said walk (yes token) (yes counts) = yes (record { row = _; walk = walk; token = token; counts = counts })
      said walk (yes token) (no past) = no (λ says. past says.counts)
      said walk (no other) counts = no (λ says. other (says_token walk says))

      go : ((s : ℕ) × Walk cells 0 u s) ⊎ ((s : ℕ) → Walk cells 0 u s → ⊥) → Dec (Says cells k u)
      go (inl walk) = said walk.1 (ℕ_discrete k (cell_at cells walk.0 byte_values)) (dec_lt k most_patterns)
      go (inr none) = no (λ says. none says.row says.walk)

  pub says_decided : (w : List ℕ) → TokenKnown (Says cells) w
  says_decided = meaning_decided says_decidable most_patterns (λ k u says. says.counts)

-- a cut with given cells has an outcome, whatever the cells, the line and the buffers
pub cut_with_exists : (machine line tokens ends : List ℕ)
    → (answer : Answer) × (tokens' : List ℕ) × (ends' : List ℕ) × CutWithOutcome machine line tokens ends answer tokens' ends'
cut_with_exists machine line tokens ends =
    let found = cut_exists (Says machine) (says_decided machine) (length tokens) 0 line in
    let pieces = found.0 in
    let ending = found.1 in (
      answer_of ending (length pieces),
      over (numbers_of pieces) tokens,
      over (take (length ends) (ends_of pieces)) ends,
      record { pieces = pieces; ending = ending; cut = found.2; answered = refl; numbers = refl; places = refl },
    )
