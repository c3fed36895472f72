-- Two meanings that say the same, or of which one says the lowest of what the other says, cut alike.
use mathlib.Core.Path.{◌≡◌, subst}
use mathlib.Core.List.{List}
use mathlib.Core.Logic.{◌↔◌}
use Prim.Native.Nat.{ℕ, ◌<◌}
use native.Mathlib.Decide.{dec_lt}
use native.Mathlib.Omega.{arith}
use lib.ListN.{take}
use Rattle.pieces.specs.Cut.{Ending}
use Rattle.pieces.specs.Cut.{Piece, TokenAt, NoTokenAt, Cut, end_of_line, space_dropped, token_cut, no_token_starts, no_room}
use Rattle.pieces.specs.Meanings.{Agree, Picks}

module _ {M N : ℕ → List ℕ → Type 0} where
  -- where tokens are tokens, and none is none, cuts are cuts
  along : ((w : List ℕ) (k n : ℕ) → TokenAt M w k n → TokenAt N w k n)
      → ((w : List ℕ) → NoTokenAt M w → NoTokenAt N w)
      → {room place : ℕ} {w : List ℕ} {pieces : List Piece} {ending : Ending}
      → Cut M room place w pieces ending
      → Cut N room place w pieces ending
  along tokens nones end_of_line = end_of_line
  along tokens nones (space_dropped cut) = space_dropped (along tokens nones cut)
  along tokens nones (token_cut no_space t cut) = token_cut no_space (tokens _ _ _ t) (along tokens nones cut)
  along tokens nones (no_token_starts no_space none) = no_token_starts no_space (nones _ none)
  along tokens nones (no_room no_space t) = no_room no_space (tokens _ _ _ t)

  token_agree : Agree M N → (w : List ℕ) (k n : ℕ) → TokenAt M w k n → TokenAt N w k n
  token_agree agree w k n t =
      record {
        some_byte = t.some_byte;
        within = t.within;
        matches = (agree k (take n w)).0 t.matches;
        longest = λ j m more within matches. t.longest j m more within ((agree j (take m w)).1 matches);
        lowest = λ j lower matches. t.lowest j lower ((agree j (take n w)).1 matches);
      }

  none_agree : Agree M N → (w : List ℕ) → NoTokenAt M w → NoTokenAt N w
  none_agree agree w none =
      record { none = λ k n some_byte within matches. none.none k n some_byte within ((agree k (take n w)).1 matches) }

  -- what two meanings that agree make of a line is the same
  pub cut_exact : {room place : ℕ} {w : List ℕ} {pieces : List Piece} {ending : Ending}
      → Agree M N
      → Cut M room place w pieces ending
      → Cut N room place w pieces ending
  cut_exact agree cut = along (token_agree agree) (none_agree agree) cut

module _ {M N : ℕ → List ℕ → Type 0} (picks : Picks N M) where
  token_picked : (w : List ℕ) (k n : ℕ) → TokenAt N w k n → TokenAt M w k n
  token_picked w k n t =
      record {
        some_byte = t.some_byte;
        within = t.within;
        matches = picks.matches k (take n w) t.matches;
        longest = λ j m more within matches.
            let lowest = picks.some j (take m w) matches in t.longest lowest.0 m more within lowest.1;
        lowest = λ j lower matches. picks.lowest j k (take n w) t.matches lower matches;
      }

  none_picked : (w : List ℕ) → NoTokenAt N w → NoTokenAt M w
  none_picked w none =
      record {
        none = λ k n some_byte within matches.
            let lowest = picks.some k (take n w) matches in none.none lowest.0 n some_byte within lowest.1;
      }

  -- the lowest that N says is the lowest by M
  picked_is : (w : List ℕ) (k n : ℕ) → TokenAt M w k n → N k (take n w)
  picked_is w k n t = go (picks.some k (take n w) t.matches)
    where
      go : (j : ℕ) × N j (take n w) → N k (take n w)
      go found = same (dec_lt found.0 k) (dec_lt k found.0)
        where
          same : Dec (found.0 < k) → Dec (k < found.0) → N k (take n w)
          same (yes lower) other = absurd (t.lowest found.0 lower (picks.matches found.0 (take n w) found.1))
          same (no above) (yes higher) = absurd (picks.lowest k found.0 (take n w) found.1 higher t.matches)
          same (no above) (no below) =
              let e : found.0 ≡ k = omega arith in subst (λ (i : ℕ). N i (take n w)) e found.1

  token_picks : (w : List ℕ) (k n : ℕ) → TokenAt M w k n → TokenAt N w k n
  token_picks w k n t =
      record {
        some_byte = t.some_byte;
        within = t.within;
        matches = picked_is w k n t;
        longest = λ j m more within matches. t.longest j m more within (picks.matches j (take m w) matches);
        lowest = λ j lower matches. t.lowest j lower (picks.matches j (take n w) matches);
      }

  none_picks : (w : List ℕ) → NoTokenAt M w → NoTokenAt N w
  none_picks w none =
      record { none = λ k n some_byte within matches. none.none k n some_byte within (picks.matches k (take n w) matches) }

  -- saying only the lowest pattern cuts a line as all patterns do
  pub cut_lowest : {room place : ℕ} {w : List ℕ} {pieces : List Piece} {ending : Ending}
      → Cut N room place w pieces ending ↔ Cut M room place w pieces ending
  cut_lowest = (along token_picked none_picked, along token_picks none_picks)
