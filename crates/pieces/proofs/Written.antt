-- Cells written one after the other from the front of a buffer.
use mathlib.Core.Path.{◌≡◌, refl, sym, ◌∙◌}
use mathlib.Core.List.{List, [], ◌∷◌, ◌++◌, append_assoc}
use Prim.Native.Nat.{ℕ, suc, ◌≤◌, ◌<◌}
use native.Mathlib.Decide.{dec_lt}
use native.Mathlib.Numerals.{add-one}
use native.Mathlib.Omega.{arith}
use lib.ListN.{length, take, drop, set, get_or, length-append, length-take, length-drop}
use lib.Seq.{drop-cons, set_at, set_out, take_all, take-append-le}
use Rattle.answers.specs.Buffers.{over}

-- a buffer keeps its length
pub over_length : (xs buffer : List ℕ) → length xs ≤ length buffer → length (over xs buffer) ≡ length buffer
over_length xs buffer fits = simp (length-append, length-drop) (omega arith)

-- one cell more
pub over_next : (xs buffer : List ℕ) (v : ℕ)
    → length xs < length buffer
    → set (over xs buffer) (length xs) v ≡ over (xs ++ (v ∷ [])) buffer
over_next xs buffer v below =
    let n = length xs in
    let front : set (over xs buffer) n v ≡ xs ++ (v ∷ drop (suc n) buffer) =
    rw (drop-cons buffer n 0 below) (set_at xs (get_or buffer n 0) (drop (suc n) buffer) v n refl) in
    let behind : over (xs ++ (v ∷ [])) buffer ≡ xs ++ (v ∷ drop (suc n) buffer) = simp (length-append, add-one, append_assoc) in
    front ∙ sym behind

-- of more cells than the buffer has, the first are written
pub over_taken : (xs buffer : List ℕ) (v : ℕ)
    → set (over (take (length buffer) xs) buffer) (length xs) v ≡ over (take (length buffer) (xs ++ (v ∷ []))) buffer
over_taken xs buffer v =
    elim (dec_lt (length xs) (length buffer)) [
      | yes below ↦
          let old : take (length buffer) xs ≡ xs = take_all (length buffer) xs (omega arith) in
          let new : take (length buffer) (xs ++ (v ∷ [])) ≡ xs ++ (v ∷ []) =
          take_all (length buffer) (xs ++ (v ∷ [])) (simp length-append (omega arith)) in
          rw (old, new) (over_next xs buffer v below)
      | no past ↦
          let same : take (length buffer) (xs ++ (v ∷ [])) ≡ take (length buffer) xs =
          take-append-le (length buffer) xs (v ∷ []) (omega arith) in
          let fits : length (over (take (length buffer) xs) buffer) ≡ length buffer =
          over_length (take (length buffer) xs) buffer (simp length-take (omega arith)) in
          rw same (set_out (over (take (length buffer) xs) buffer) (length xs) v (omega arith))
    ]
