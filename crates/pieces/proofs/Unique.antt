-- A line has one cut, and a cut with given cells one outcome.
use mathlib.Core.Path.{◌≡◌, refl, sym, ap, ap₂, subst, ◌∙◌}
use mathlib.Core.List.{List, ◌∷◌}
use Prim.Native.Nat.{ℕ, ◌+◌, ◌<◌}
use native.Mathlib.Decide.{dec_lt}
use native.Mathlib.Omega.{arith}
use lib.ListN.{length, take, drop}
use Rattle.answers.specs.declared.Answer.{Answer}
use Rattle.answers.specs.Buffers.{over}
use Rattle.pieces.specs.Cut.{Ending}
use Rattle.pieces.specs.Cut.{Piece, piece, numbers_of, ends_of, answer_of}
use Rattle.pieces.specs.Cut.{TokenAt, NoTokenAt, Cut, end_of_line, space_dropped, token_cut, no_token_starts, no_room}
use Rattle.pieces.specs.Calls.{CutWithOutcome}

module _ {M : ℕ → List ℕ → Type 0} where
  token_length : {w : List ℕ} {j k m n : ℕ} → TokenAt M w j m → TokenAt M w k n → m ≡ n
  token_length {m = m} {n} t s = go (dec_lt m n) (dec_lt n m)
    where
      go : Dec (m < n) → Dec (n < m) → m ≡ n
      go (yes less) other = absurd (t.longest _ n less s.within s.matches)
      go (no least) (yes more) = absurd (s.longest _ m more t.within t.matches)
      go (no least) (no most) = omega arith

  token_number : {w : List ℕ} {j k n : ℕ} → TokenAt M w j n → TokenAt M w k n → j ≡ k
  token_number {j = j} {k} t s = go (dec_lt j k) (dec_lt k j)
    where
      go : Dec (j < k) → Dec (k < j) → j ≡ k
      go (yes less) other = absurd (s.lowest j less t.matches)
      go (no least) (yes more) = absurd (t.lowest k more s.matches)
      go (no least) (no most) = omega arith

  -- a string begins with one token at most
  pub token_unique : {w : List ℕ} {j k m n : ℕ} → TokenAt M w j m → TokenAt M w k n → (j ≡ k) × (m ≡ n)
  token_unique {w} {k = k} t s =
      let same = token_length t s in
      (token_number t (subst (λ (i : ℕ). TokenAt M w k i) (sym same) s), same)

  -- and not with one and with none
  pub token_not_none : {w : List ℕ} {k n : ℕ} → TokenAt M w k n → NoTokenAt M w → ⊥
  token_not_none t none = none.none _ _ t.some_byte t.within t.matches

  -- a line has one cut
  pub cut_unique : {room place : ℕ} {w : List ℕ} {pieces pieces' : List Piece} {ending ending' : Ending}
      → Cut M room place w pieces ending
      → Cut M room place w pieces' ending'
      → (pieces ≡ pieces') × (ending ≡ ending')
  cut_unique end_of_line end_of_line = (refl, refl)
  cut_unique (space_dropped cut) (space_dropped cut') = cut_unique cut cut'
  cut_unique (space_dropped cut) (token_cut no_space t cut') = absurd (no_space refl)
  cut_unique (space_dropped cut) (no_token_starts no_space none) = absurd (no_space refl)
  cut_unique (space_dropped cut) (no_room no_space t) = absurd (no_space refl)
  cut_unique (token_cut no_space t cut) (space_dropped cut') = absurd (no_space refl)
  cut_unique
      (token_cut {room = room} {place = place} {b = b} {w = w} no_space t cut)
      (token_cut {pieces = pieces} {ending = ending} no_space' t' cut') =
      let same = token_unique t t' in
      let cut'' = subst (λ (i : ℕ). Cut M room (place + i) (drop i (b ∷ w)) pieces ending) (sym same.1) cut' in
      let rest = cut_unique cut cut'' in
      let first = ap₂ (λ (i j : ℕ). piece i place (take j (b ∷ w))) same.0 same.1 in
      (ap₂ (λ (q : Piece) (r : List Piece). q ∷ r) first rest.0, rest.1)
  cut_unique (token_cut no_space t cut) (no_token_starts no_space' none) = absurd (token_not_none t none)
  cut_unique (no_token_starts no_space none) (space_dropped cut') = absurd (no_space refl)
  cut_unique (no_token_starts no_space none) (token_cut no_space' t cut') = absurd (token_not_none t none)
  cut_unique (no_token_starts no_space none) (no_token_starts no_space' none') = (refl, refl)
  cut_unique (no_token_starts no_space none) (no_room no_space' t) = absurd (token_not_none t none)
  cut_unique (no_room no_space t) (space_dropped cut') = absurd (no_space refl)
  cut_unique (no_room no_space t) (no_token_starts no_space' none) = absurd (token_not_none t none)
  cut_unique (no_room no_space t) (no_room no_space' t') = (refl, refl)

-- a cut with given cells has one outcome
pub cut_with_unique : {machine line tokens ends tokens' tokens'' ends' ends'' : List ℕ} {answer answer' : Answer}
    → CutWithOutcome machine line tokens ends answer tokens' ends'
    → CutWithOutcome machine line tokens ends answer' tokens'' ends''
    → (answer ≡ answer') × (tokens' ≡ tokens'') × (ends' ≡ ends'')
cut_with_unique {tokens = tokens} {ends} one other =
    let same = cut_unique one.cut other.cut in (
      one.answered ∙ ap₂ (λ (e : Ending) (p : List Piece). answer_of e (length p)) same.1 same.0 ∙ sym other.answered,
      one.numbers ∙ ap (λ (p : List Piece). over (numbers_of p) tokens) same.0 ∙ sym other.numbers,
      one.places ∙ ap (λ (p : List Piece). over (take (length ends) (ends_of p)) ends) same.0 ∙ sym other.places,
    )
