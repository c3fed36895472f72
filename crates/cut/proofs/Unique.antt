-- A call has one outcome: any two allowed are equal, so the cases exclude each other.
use mathlib.Core.Path.{◌≡◌, refl, ap, subst}
use mathlib.Core.List.{List}
use mathlib.Core.Option.{Option}
use Prim.Native.Nat.{ℕ, ◌≤◌}
use native.Mathlib.Omega.{arith}
use lib.ListN.{length}
use Rattle.answers.specs.declared.Answer.{Answer}
use Rattle.answers.specs.Limits.{most_states}
use Rattle.numbering.specs.Numbering.{FoundAll, TooMany}
use Rattle.numbering.proofs.Promise.{found_unique, states_unique, too_many_excludes_whole}
use Rattle.pattern.specs.Pattern.{Expression, Pattern}
use Rattle.patterns.specs.Calls.{Accepted}
use Rattle.patterns.proofs.Promise.{accepted_unique, refuses_unique, refused_not_accepted}
use Rattle.pieces.specs.Cut.{Ending}
use Rattle.pieces.specs.Cut.{Piece, Cut}
use Rattle.pieces.proofs.Promise.{cut_unique}
use Rattle.cut.specs.Patterns.{point_states}
use Rattle.cut.specs.Calls.{CutOutcome, refused, too_many, no_cells, cut, CutResult}
use Rattle.cut.proofs.Alike.{states_lawful}

module _ {patterns lengths : List ℕ} {rs qs : List Expression}
    (accept : Accepted patterns lengths rs)
    (other : Accepted patterns lengths qs) where
  -- patterns have one machine
  pub machine_unique : {sets sets' : List ℕ} {cells cells' : List (Option ℕ)} → FoundAll (point_states rs) sets cells
      → FoundAll (point_states qs) sets' cells'
      → (sets ≡ sets') × (cells ≡ cells')
  machine_unique {sets' = sets'} {cells' = cells'} f g =
      let same : FoundAll (point_states rs) sets' cells' =
      subst (λ (ps : List Expression). FoundAll (point_states ps) sets' cells') (accepted_unique accept other) g in
      (states_unique (states_lawful rs) (λ x y e. e) f same, (found_unique (states_lawful rs) f same).0)

  -- too many states, or all within the limit, but not both
  many_not_whole : {sets : List ℕ} {cells : List (Option ℕ)} → TooMany (point_states rs) most_states
      → FoundAll (point_states qs) sets cells
      → length sets ≤ most_states
      → ⊥
  many_not_whole {sets} {cells} many g few =
      too_many_excludes_whole (states_lawful rs)
      (subst (λ (ps : List Expression). FoundAll (point_states ps) sets cells) (accepted_unique accept other) g) most_states many few

  -- a line has one cut by the patterns
  pub pieces_unique : {room place : ℕ} {w : List ℕ} {pieces pieces' : List Piece} {ending ending' : Ending}
      → Cut (Pattern rs) room place w pieces ending
      → Cut (Pattern qs) room place w pieces' ending'
      → (pieces ≡ pieces') × (ending ≡ ending')
  pieces_unique {room} {place} {w} {pieces' = pieces'} {ending' = ending'} one two =
      cut_unique one
      (subst (λ (ps : List Expression). Cut (Pattern ps) room place w pieces' ending') (accepted_unique accept other) two)

module _ {patterns lengths line machine tokens : List ℕ} where
  pub cut_outcome_unique : {a b : Answer} {m m' t t' : List ℕ}
      → CutOutcome patterns lengths line machine tokens a m t
      → CutOutcome patterns lengths line machine tokens b m' t'
      → ◌≡◌ {A = CutResult} (a, m, t) (b, m', t')
  cut_outcome_unique (refused r) (refused s) = rw (refuses_unique r s)
  cut_outcome_unique (refused r) (too_many accept many) = absurd (refused_not_accepted r accept)
  cut_outcome_unique (refused r) (no_cells accept f few short) = absurd (refused_not_accepted r accept)
  cut_outcome_unique (refused r) (cut accept f few fits c) = absurd (refused_not_accepted r accept)
  cut_outcome_unique (too_many accept many) (refused s) = absurd (refused_not_accepted s accept)
  cut_outcome_unique (too_many accept many) (too_many accept' many') = refl
  cut_outcome_unique (too_many accept many) (no_cells accept' f few short) = absurd (many_not_whole accept accept' many f few)
  cut_outcome_unique (too_many accept many) (cut accept' f few fits c) = absurd (many_not_whole accept accept' many f few)
  cut_outcome_unique (no_cells accept f few short) (refused s) = absurd (refused_not_accepted s accept)
  cut_outcome_unique (no_cells accept f few short) (too_many accept' many) = absurd (many_not_whole accept' accept many f few)
  cut_outcome_unique (no_cells accept f few short) (no_cells accept' f' few' short') =
      rw (machine_unique accept accept' f f').0
  cut_outcome_unique (no_cells accept f few short) (cut accept' f' few' fits c) =
      absurd (omega (arith, ap length (machine_unique accept accept' f f').0))
  cut_outcome_unique (cut accept f few fits c) (refused s) = absurd (refused_not_accepted s accept)
  cut_outcome_unique (cut accept f few fits c) (too_many accept' many) = absurd (many_not_whole accept' accept many f few)
  cut_outcome_unique (cut accept f few fits c) (no_cells accept' f' few' short) =
      absurd (omega (arith, ap length (machine_unique accept accept' f f').0))
  cut_outcome_unique (cut accept f few fits c) (cut accept' f' few' fits' c') =
      let same = machine_unique accept accept' f f' in
      let pieces = pieces_unique accept accept' c c' in
      rw (same.0, same.1, pieces.0, pieces.1)
