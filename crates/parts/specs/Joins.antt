-- What a sign, the end of a group, two parts in turn and either of two make of a part. Working definitions.
use Rattle.std.specs.Prelude.{◌≡◌, Bool, true, false, cond, ◌&&◌, ◌||◌, ◌≢◌, List, ℕ, ◌+◌, ◌≤◌, ◌<◌, get_or}
use Rattle.std.specs.Prelude.{Result, Ok, Err}
use Rattle.sets.specs.Sets.{Exactly, united}
use Rattle.sets.specs.Words.{places}
use Rattle.answers.specs.Limits.{most_positions, position_words, point_words}
use Rattle.pattern.specs.Pattern.{Class, one}
use Rattle.pattern.specs.Marks.{open_group, close_group, star_sign, plus_sign, question_mark, among}
use Rattle.pattern.specs.Kinds.{signs}
use Rattle.parts.specs.declared.Part.{Part}
use Rattle.parts.specs.Rows.{Rows}
use Rattle.parts.specs.Parts.{positions_in, Told}
use Rattle.parts.specs.Leading.{Leads}
use Rattle.parts.specs.Reading.{ItemRead}

-- one position more: a byte or a class, where no group opens
pub record SingleRead (text : List ℕ) (at n : ℕ) (readers : List ℕ) (r : Result Part ℕ) (after : List ℕ) : Type 0 where
  pub item : get_or text at 0 ≢ open_group
      → (room : ℕ) (follow : List ℕ)
      → ItemRead text room at n readers follow r after follow

-- a part of one position, whatever its class is
pub record Lone (at count : ℕ) (r : Part) : Type 0 where
  pub place : r.at ≡ at
  pub told : (c : Class) → Told count (one c) r

-- the set with one position, if it can be stored
abbrev pub Only : ℕ → List ℕ → Type 0
Only position r =
    position < most_positions → Exactly (places position_words) (positions_in r) (λ (k : ℕ). k ≡ position)

-- from each position of `last` to each of `first`, if they are no more than can be stored
abbrev pub LedOn : ℕ → List ℕ → List ℕ → List ℕ → List ℕ → Type 0
LedOn count last first follow after =
    count ≤ most_positions → Rows point_words follow after (Leads (positions_in last) (positions_in first))

-- one set, united with another if there is a way past it
abbrev pub Through : Bool → List ℕ → List ℕ → List ℕ → Type 0
Through passes own other r =
    positions_in r ≡ cond passes (united (positions_in own) (positions_in other)) (positions_in own)

-- the part with the byte behind it
abbrev pub behind : Part → Bool → Part
behind item empty =
    record {
      at = item.at + 1;
      count = item.count;
      empty = empty;
      first = item.first;
      last = item.last;
    }

-- a sign behind a part
pub data SignRead (text : List ℕ) (item : Part) (follow : List ℕ) : Part → List ℕ → Type 0 where
  no_sign : among (get_or text item.at 0) signs ≡ false → SignRead text item follow item follow
  question_read : get_or text item.at 0 ≡ question_mark → SignRead text item follow (behind item true) follow
  plus_read : {after : List ℕ}
      → get_or text item.at 0 ≡ plus_sign
      → LedOn item.count item.last item.first follow after
      → SignRead text item follow (behind item item.empty) after
  star_read : {after : List ℕ}
      → get_or text item.at 0 ≡ star_sign
      → LedOn item.count item.last item.first follow after
      → SignRead text item follow (behind item true) after

-- the end of a group behind what was read in it
pub data CloseRead (text : List ℕ) (inner : Part) : Result Part ℕ → Type 0 where
  closed_there : get_or text inner.at 0 ≡ close_group → CloseRead text inner (Ok (behind inner inner.empty))
  not_closed : get_or text inner.at 0 ≢ close_group → CloseRead text inner (Err inner.at)

-- two parts in turn
pub record InTurn (left right : Part) (follow : List ℕ) (r : Part) (after : List ℕ) : Type 0 where
  pub place : r.at ≡ right.at
  pub count : r.count ≡ right.count
  pub empty : r.empty ≡ left.empty && right.empty
  pub first : Through left.empty left.first right.first r.first
  pub last : Through right.empty right.last left.last r.last
  pub led : LedOn right.count left.last right.first follow after

-- either of two parts
pub record EitherOf (left right r : Part) : Type 0 where
  pub place : r.at ≡ right.at
  pub count : r.count ≡ right.count
  pub empty : r.empty ≡ left.empty || right.empty
  pub first : Through true left.first right.first r.first
  pub last : Through true left.last right.last r.last
