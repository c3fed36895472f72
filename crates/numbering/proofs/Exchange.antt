-- What is found in one automaton is found in every other that is like it.
use mathlib.Core.Path.{◌≡◌, sym}
use mathlib.Core.List.{List}
use mathlib.Core.Option.{Option, some}
use Prim.Native.Nat.{ℕ, ◌%◌, ◌<◌}
use native.Mathlib.Nat.{mod-lt}
use native.Mathlib.Omega.{arith}
use lib.ListN.{length, get_elem?}
use Rattle.numbering.specs.Numbering.{Automaton, IsState, Follows, Found, FoundAll, TooMany, Alike}
use Rattle.numbering.proofs.Places.{inside, some_column}

module _ {A : Type 0} {m m' : Automaton A} where
  pub alike_back : Alike m m' → Alike m' m
  alike_back a =
      record {
        columns = sym a.columns;
        same = λ x y. ((a.same x y).1, (a.same x y).0);
        starts = λ x. ((a.starts x).1, (a.starts x).0);
        moves = λ x c y h. let one = a.moves x c y (rw a.columns h) in (one.1, one.0);
      }

  is_alike : Alike m m' → {states : List A} {j : ℕ} {x : A} → IsState m states j x → IsState m' states j x
  is_alike a {x = x} h = record { state = h.state; at = h.at; same = (a.same x h.state).0 h.same }

  follows_alike : Alike m m' → {states : List A} {t : ℕ} {y : A} → 0 < m.columns → Follows m states t y → Follows m' states t y
  follows_alike a {t = t} {y = y} h f =
      record {
        state = f.state;
        row = rw a.columns at f.row;
        moves = rw a.columns at ((a.moves f.state (t % m.columns) y (mod-lt t h)).0 f.moves);
      }

module _ {A : Type 0} {m m' : Automaton A} (a : Alike m m') {states : List A} {cells : List (Option ℕ)} where
  pub found_alike : Found m states cells → Found m' states cells
  found_alike f =
      record {
        first = λ x s. is_alike a (f.first x ((a.starts x).1 s));
        started = λ h. let (x, s) = f.started h in (x, (a.starts x).0 s);
        within = rw (← a.columns) f.within;
        filled = λ t j e. let (y, follows, is) = f.filled t j e in (y, follows_alike a (column t e) follows, is_alike a is);
        empty = λ t e y follows. f.empty t e y (follows_alike (alike_back a) (rw (← a.columns) (column t e)) follows);
        distinct = λ i j x h k. f.distinct i j x (is_alike (alike_back a) h) (is_alike (alike_back a) k);
        born = λ j h k. let (t, lower, names) = f.born j h k in (t, rw (← a.columns) lower, names);
        order = f.order;
      }
    where
      column : (t : ℕ) {v : Option ℕ} → get_elem? cells t ≡ some v → 0 < m.columns
      column t e = some_column m.columns t (length states) (omega (arith, f.within, inside cells t e))

  pub found_all_alike : FoundAll m states cells → FoundAll m' states cells
  found_all_alike f = record { found = found_alike f.found; all = rw (← a.columns) f.all }

pub too_many_alike : {A : Type 0} {m m' : Automaton A} → Alike m m' → {limit : ℕ} → TooMany m limit → TooMany m' limit
too_many_alike a many =
    record { states = many.states; cells = many.cells; found = found_alike a many.found; more = many.more }
