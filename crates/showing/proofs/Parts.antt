-- A text written part by part: the elements of a list, and what is left of them.
use mathlib.Core.Path.{◌≡◌, ap, sym}
use mathlib.Core.Logic.{◌≢◌}
use mathlib.Core.List.{List, [], ◌∷◌, ◌++◌, append_assoc}
use Prim.Native.Nat.{ℕ, suc, ◌+◌, ◌≤◌, ◌<◌}
use native.Mathlib.Numerals.{add-one}
use borrow.Author.Tests.{eq-eqb, ne_eqb}
use lib.ListN.{length, drop, get_or, drop_of_length-le}
use lib.Seq.{drop-cons}
use Rattle.text.specs.Text.{decimal, Put}
use Rattle.text.proofs.Promise.{put_then}
use Rattle.showing.specs.Words.{each}
use Rattle.showing.specs.Lines.{dash, cell_sign}

-- a text behind one of two parts makes a text of three
pub put_behind : {before : List ℕ} {at : ℕ} (xs ys zs : List ℕ) {between after : List ℕ} {middle next : ℕ}
    → Put before at (xs ++ ys) between middle
    → Put between middle zs after next
    → Put before at (xs ++ (ys ++ zs)) after next
put_behind xs ys zs p q = rw append_assoc at (put_then (xs ++ ys) zs p q)

-- of the elements from i on, the first and the others
pub each_next : {A : Type 0} (text : A → List ℕ) (xs : List A) (i : ℕ) (x : A)
    → i < length xs
    → x ≡ get_or xs i x
    → each text (drop i xs) ≡ text x ++ each text (drop (i + 1) xs)
unfolding each
each_next {A} text xs i x inside is =
    rw (drop-cons xs i x inside, add-one i) (ap (λ (y : A). text y ++ each text (drop (suc i) xs)) (sym is))

pub each_past : {A : Type 0} (text : A → List ℕ) (xs : List A) (i : ℕ)
    → length xs ≤ i
    → each text (drop i xs) ≡ []
unfolding each
each_past text xs i past = rw (drop_of_length-le xs past)

pub cell_vacant : (cell : ℕ) → cell ≡ 255 → cell_sign cell ≡ dash ∷ []
cell_vacant cell vacant = rw (eq-eqb cell 255 vacant, cell_sign)

pub cell_filled : (cell : ℕ) → cell ≢ 255 → cell_sign cell ≡ decimal cell
cell_filled cell filled = rw (ne_eqb cell 255 filled, cell_sign)
