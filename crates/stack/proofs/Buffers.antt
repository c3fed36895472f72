-- A lent buffer that is written from the front, and one of which every cell is 0.
use mathlib.Core.Path.{◌≡◌, refl, sym, ◌∙◌, ap}
use mathlib.Core.List.{List, [], ◌∷◌, ◌++◌, append_assoc, append-nil}
use Prim.Native.Nat.{ℕ, suc, ◌+◌, ◌-◌, ◌≤◌, ◌<◌}
use native.Mathlib.Omega.{arith}
use lib.ListN.{length, get_or, drop, set, replicate, length-append, length-drop, drop_of_length-le}
use lib.Seq.{drop-cons, drop-drop, drop_at, set_at}
use Rattle.answers.specs.Buffers.{over, cleared}

pub length_over : (ps list : List ℕ) → length ps ≤ length list → length (over ps list) ≡ length list
length_over ps list h = simp (length-append, length-drop) (omega arith)

-- one cell more is written
pub over_more : (ps : List ℕ) (p : ℕ) (list : List ℕ)
    → length ps < length list
    → set (over ps list) (length ps) p ≡ over (ps ++ (p ∷ [])) list
over_more ps p list h =
    let one : length (ps ++ (p ∷ [])) ≡ suc (length ps) = length-append ps (p ∷ []) ∙ omega arith in
    rw (drop-cons list (length ps) 0 h, one)
    (set_at ps (get_or list (length ps) 0) (drop (suc (length ps)) list) p (length ps) refl
    ∙ sym (append_assoc ps (p ∷ []) (drop (suc (length ps)) list)))

-- what is written later stands over what was written before
pub over_over : (ps qs list : List ℕ) → length ps ≤ length qs → over qs (over ps list) ≡ over qs list
over_over ps qs list h =
    let more : length qs ≡ length ps + (length qs - length ps) = omega arith in
    let beyond : drop (length ps + (length qs - length ps)) (over ps list) ≡ drop (length ps + (length qs - length ps)) list =
    sym (drop-drop (length qs - length ps) (length ps) (over ps list))
    ∙ rw (drop_at ps (drop (length ps) list) (length ps) refl) (drop-drop (length qs - length ps) (length ps) list) in
    ap (λ (l : List ℕ). qs ++ l) (rw more beyond)

-- every cell is 0
pub cleared_all : (i : ℕ) (buffer : List ℕ)
    → i ≤ length buffer
    → length buffer ≤ i
    → replicate i 0 ++ drop i buffer ≡ cleared buffer
cleared_all i buffer h k =
    let all : i ≡ length buffer = omega arith in
    rw (drop_of_length-le buffer k, append-nil, all)
