-- The token that a string begins with, over any meaning: what it becomes when more of the string is looked at.
use mathlib.Core.Path.{subst}
use mathlib.Core.List.{List, [], ◌++◌}
use Prim.Native.Nat.{ℕ, ◌≤◌, ◌<◌}
use native.Mathlib.Decide.{dec_lt}
use native.Mathlib.Omega.{arith}
use lib.ListN.{length, take, length-append}
use lib.Seq.{take-append-le, take-length}
use Rattle.pieces.specs.Cut.{TokenAt, NoTokenAt}

-- no pattern matches a beginning of u ++ v that is longer than u
abbrev pub NoneBeyond : (ℕ → List ℕ → Type 0) → List ℕ → List ℕ → Type 0
NoneBeyond M u v = (j m : ℕ) → length u < m → m ≤ length (u ++ v) → M j (take m (u ++ v)) → ⊥

module _ {M : ℕ → List ℕ → Type 0} where
  -- an empty string begins with no token
  pub none_at_end : NoTokenAt M []
  none_at_end = record { none = λ k n some_byte within matches. omega arith }

  -- where no longer beginning matches, the token stays
  pub token_kept : {k n : ℕ} (u v : List ℕ) → TokenAt M u k n → NoneBeyond M u v → TokenAt M (u ++ v) k n
  token_kept {k} {n} u v t beyond =
      record {
        some_byte = t.some_byte;
        within = omega (arith, t.within, length-append u v);
        matches = rw (take-append-le n u v t.within) t.matches;
        longest = λ j m more within matches.
            elim (dec_lt (length u) m) [
              | yes past ↦ beyond j m past within matches
              | no short ↦ t.longest j m more (omega arith) (rw (take-append-le m u v (omega arith)) at matches)
            ];
        lowest = λ j lower matches.
            t.lowest j lower (subst (λ (w : List ℕ). M j w) (take-append-le n u v t.within) matches);
      }

  -- and where none began it, none does
  pub none_kept : (u v : List ℕ) → NoTokenAt M u → NoneBeyond M u v → NoTokenAt M (u ++ v)
  none_kept u v t beyond =
      record {
        none = λ j m some_byte within matches.
            elim (dec_lt (length u) m) [
              | yes past ↦ beyond j m past within matches
              | no short ↦ t.none j m some_byte (omega arith) (rw (take-append-le m u v (omega arith)) at matches)
            ];
      }

  -- a string with a byte that some pattern matches, and no lower one, is its own token
  pub token_whole : {k : ℕ} (u : List ℕ)
      → 0 < length u
      → M k u
      → ((j : ℕ) → j < k → M j u → ⊥)
      → TokenAt M u k (length u)
  token_whole {k} u some_byte matches lowest =
      record {
        some_byte = some_byte;
        within = omega arith;
        matches = rw (take-length u) matches;
        longest = λ j m more within matches. omega arith;
        lowest = λ j lower matches. lowest j lower (subst (λ (w : List ℕ). M j w) (take-length u) matches);
      }
