-- What a meaning says of strings that are no parts of the line does not matter.
use mathlib.Core.List.{List, ◌∷◌}
use mathlib.Core.Logic.{◌↔◌}
use Prim.Native.Nat.{ℕ, suc, ◌+◌}
use lib.ListN.{drop}
use lib.Seq.{drop-drop}
use Rattle.pieces.specs.Cut.{Ending}
use Rattle.pieces.specs.Cut.{Piece, TokenAt, NoTokenAt, Cut, end_of_line, space_dropped, token_cut, no_token_starts, no_room}
use Rattle.pieces.specs.Meanings.{Only, OfParts}

module _ {Q : List ℕ → Type 0} where
  parts_drop : (m : ℕ) (w : List ℕ) → OfParts Q w → OfParts Q (drop m w)
  parts_drop m w has = record { part = λ i n. rw (drop-drop i m w) (has.part (m + i) n) }

  parts_next : (b : ℕ) (w : List ℕ) → OfParts Q (b ∷ w) → OfParts Q w
  parts_next b w has = record { part = λ i n. has.part (suc i) n }

module _ {M : ℕ → List ℕ → Type 0} {Q : List ℕ → Type 0} where
  token_only : (w : List ℕ) → OfParts Q w → {k n : ℕ} → TokenAt M w k n → TokenAt (Only Q M) w k n
  token_only w has {n = n} t =
      record {
        some_byte = t.some_byte;
        within = t.within;
        matches = (t.matches, has.part 0 n);
        longest = λ j m more within matches. t.longest j m more within matches.0;
        lowest = λ j lower matches. t.lowest j lower matches.0;
      }

  token_any : (w : List ℕ) → OfParts Q w → {k n : ℕ} → TokenAt (Only Q M) w k n → TokenAt M w k n
  token_any w has {n = n} t =
      record {
        some_byte = t.some_byte;
        within = t.within;
        matches = t.matches.0;
        longest = λ j m more within matches. t.longest j m more within (matches, has.part 0 m);
        lowest = λ j lower matches. t.lowest j lower (matches, has.part 0 n);
      }

  none_only : (w : List ℕ) → NoTokenAt M w → NoTokenAt (Only Q M) w
  none_only w t = record { none = λ k n some_byte within matches. t.none k n some_byte within matches.0 }

  none_any : (w : List ℕ) → OfParts Q w → NoTokenAt (Only Q M) w → NoTokenAt M w
  none_any w has t = record { none = λ k n some_byte within matches. t.none k n some_byte within (matches, has.part 0 n) }

  cut_only : {room place : ℕ} {w : List ℕ} {pieces : List Piece} {ending : Ending}
      → OfParts Q w
      → Cut M room place w pieces ending
      → Cut (Only Q M) room place w pieces ending
  cut_only has end_of_line = end_of_line
  cut_only has (space_dropped {w = w} cut) = space_dropped (cut_only (parts_next _ w has) cut)
  cut_only has (token_cut {b = b} {n = n} {w = w} no_space t cut) =
      token_cut no_space (token_only (b ∷ w) has t) (cut_only (parts_drop n (b ∷ w) has) cut)
  cut_only has (no_token_starts {b = b} {w = w} no_space none) = no_token_starts no_space (none_only (b ∷ w) none)
  cut_only has (no_room {b = b} {w = w} no_space t) = no_room no_space (token_only (b ∷ w) has t)

  cut_any : {room place : ℕ} {w : List ℕ} {pieces : List Piece} {ending : Ending}
      → OfParts Q w
      → Cut (Only Q M) room place w pieces ending
      → Cut M room place w pieces ending
  cut_any has end_of_line = end_of_line
  cut_any has (space_dropped {w = w} cut) = space_dropped (cut_any (parts_next _ w has) cut)
  cut_any has (token_cut {b = b} {n = n} {w = w} no_space t cut) =
      token_cut no_space (token_any (b ∷ w) has t) (cut_any (parts_drop n (b ∷ w) has) cut)
  cut_any has (no_token_starts {b = b} {w = w} no_space none) = no_token_starts no_space (none_any (b ∷ w) has none)
  cut_any has (no_room {b = b} {w = w} no_space t) = no_room no_space (token_any (b ∷ w) has t)

  -- where every part of the line has Q, a meaning cuts it as the same meaning of the strings that have Q
  pub cut_parts : {room place : ℕ} {w : List ℕ} {pieces : List Piece} {ending : Ending}
      → OfParts Q w
      → Cut M room place w pieces ending ↔ Cut (Only Q M) room place w pieces ending
  cut_parts has = (cut_only has, cut_any has)
