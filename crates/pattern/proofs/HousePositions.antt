-- The house patterns carried through the definitions: their positions, that none is `Null`, and strings they match.
use mathlib.Core.Path.{◌≡◌, refl}
use mathlib.Core.List.{List, [], ◌∷◌, ◌++◌, map, append_assoc, append-nil}
use mathlib.Core.Option.{some}
use Prim.Native.Nat.{ℕ, zero, suc, ◌≤◌}
use native.Mathlib.Omega.{arith}
use lib.ListN.{get_elem?}
use Rattle.pattern.specs.Pattern.{Class, Expression, one, cat, plus, opt, here, Matches, byte, in_turn, once, again, nothing, itself, Pattern}
use Rattle.pattern.specs.Positions.{size, Null, null_cat, null_plus, positions}
use Rattle.pattern.specs.House.{codes, span, along, word, parish, house, house_patterns}
use Rattle.pattern.proofs.PositionLaws.{null_of_one}

-- 7 + 5 + 2 + 3 positions
pub house_sizes : map size house_patterns ≡ 7 ∷ 5 ∷ 2 ∷ 3 ∷ []
unfolding size house_patterns house parish word along
house_sizes = refl

pub house_positions : positions house_patterns ≡ 17
unfolding positions size house_patterns house parish word along
house_positions = refl

not_null_behind : {x : Expression} {c : Class} → ¬ Null (cat x (one c))
not_null_behind (null_cat a z) = null_of_one z

along_not_null : {x : Expression} (w : List ℕ) → ¬ Null x → ¬ Null (along x w)
unfolding along
along_not_null [] h z = h z
along_not_null (b ∷ w) h z = along_not_null w not_null_behind z

word_not_null : (w : List ℕ) → ¬ Null (word w)
unfolding word
word_not_null [] z = null_of_one z
word_not_null (b ∷ w) z = along_not_null w null_of_one z

name_not_null : {x : Expression} {c : Class} → ¬ Null (cat x (plus (one c)))
name_not_null (null_cat a (null_plus z)) = null_of_one z

same_not_null : {x y : Expression} → some x ≡ some y → ¬ Null x → ¬ Null y
same_not_null {x} {y} e h = let same : x ≡ y = cc in rw same at h

-- no house pattern is `Null`
pub house_not_null : (k : ℕ) {x : Expression} → get_elem? house_patterns k ≡ some x → ¬ Null x
unfolding house_patterns house parish
house_not_null zero e = same_not_null e (word_not_null (codes "restore"))
house_not_null (suc zero) e = same_not_null e name_not_null
house_not_null (suc (suc zero)) e = same_not_null e (word_not_null (codes "in"))
house_not_null (suc (suc (suc zero))) e = same_not_null e (word_not_null (codes "and"))
house_not_null (suc (suc (suc (suc k)))) e = let bad : ◌≡◌ {A = ℕ} 0 1 = cc in absurd (omega arith)

in_span : (low high b : ℕ) → low ≤ b → b ≤ high → Matches (span low high) (b ∷ [])
in_span low high b l h = byte (here l h)

byte_itself : (b : ℕ) → Matches (span b b) (b ∷ [])
byte_itself b = in_span b b b (omega arith) (omega arith)

along_matches : {x : Expression} (u w : List ℕ) → Matches x u → Matches (along x w) (u ++ w)
unfolding along
along_matches u [] m = rw append-nil m
along_matches u (b ∷ w) m = rw append_assoc at (along_matches (u ++ (b ∷ [])) w (in_turn m (byte_itself b)))

-- a word matches itself
pub word_matches : (b : ℕ) (w : List ℕ) → Matches (word (b ∷ w)) (b ∷ w)
unfolding word
word_matches b w = along_matches (b ∷ []) w (byte_itself b)

pub house_restore : Pattern house_patterns 0 (codes "restore")
unfolding house_patterns house
house_restore = record { meaning = word (codes "restore"); at = refl; matches = word_matches 114 (codes "estore") }

small_letters : Matches (plus (span 97 122)) (codes "nne")
small_letters =
    let n : Matches (span 97 122) (codes "n") = in_span 97 122 110 (omega arith) (omega arith) in
    let e : Matches (span 97 122) (codes "e") = in_span 97 122 101 (omega arith) (omega arith) in
    again n (again n (once e))

capital_a : Matches (span 65 90) (codes "A")
capital_a = in_span 65 90 65 (omega arith) (omega arith)

pub house_anne : Pattern house_patterns 1 (codes "Anne")
unfolding house_patterns house parish
house_anne = record { meaning = parish; at = refl; matches = in_turn (in_turn nothing capital_a) small_letters }

pub house_saint_anne : Pattern house_patterns 1 (codes "St Anne")
unfolding house_patterns house parish
house_saint_anne =
    let saint : Matches (opt (word (codes "St "))) (codes "St ") = itself (word_matches 83 (codes "t ")) in
    record { meaning = parish; at = refl; matches = in_turn (in_turn saint capital_a) small_letters }
