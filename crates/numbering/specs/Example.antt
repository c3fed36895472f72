-- An automaton of three states and two columns, for the examples on the page of results.
use Rattle.std.specs.Prelude.{◌≡◌, ℕ, zero, suc}
use Rattle.std.proofs.Math.Option.{Option, some, none}
use Rattle.numbering.specs.Numbering.{Automaton}

pub data Corner : Type 0 where
  top left right : Corner
  deriving Discrete as Corner-discrete

unfoldable pub next_corner : Corner → ℕ → Option Corner
next_corner top zero = some right
next_corner top (suc c) = some left
next_corner left zero = some top
next_corner left (suc c) = some right
next_corner right zero = some right
next_corner right (suc c) = none

abbrev pub corners : Automaton Corner
corners =
    record {
      Same = λ x y. x ≡ y;
      Start = λ x. x ≡ top;
      Moves = λ x c y. next_corner x c ≡ some y;
      columns = 2;
    }
