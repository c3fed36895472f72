-- The laws of joining, at a place e of the empty string, for numbers of any width. Document 02, W9.
use Rattle.std.specs.Prelude.{◌≡◌, ℕ, ◌^◌, ◌<◌}
use Rattle.sets.specs.Sets.{only, united, joined}

pub record Joining (e : ℕ) : Type 0 where
  -- joining is associative
  pub assoc : (x y z : ℕ) → joined e (joined e x y) z ≡ joined e x (joined e y z)
  -- the set with only the empty string is neutral on either side
  pub neutral_left : (y : ℕ) → joined e (only e) y ≡ y
  pub neutral_right : (x : ℕ) → joined e x (only e) ≡ x
  -- joining distributes over union on the left and on the right
  pub over_union_left : (x y z : ℕ) → joined e x (united y z) ≡ united (joined e x y) (joined e x z)
  pub over_union_right : (x y z : ℕ) → joined e (united x y) z ≡ united (joined e x z) (joined e y z)
  -- and the join of two numbers of w places has w places
  pub within : (w x y : ℕ) → x < 2 ^ w → y < 2 ^ w → joined e x y < 2 ^ w
