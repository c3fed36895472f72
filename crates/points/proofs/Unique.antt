-- No contract of the crate allows a second outcome.
use mathlib.Core.Path.{◌≡◌, refl, ap}
use mathlib.Core.Bool.{Bool}
use mathlib.Core.List.{List}
use Prim.Native.Nat.{ℕ}
use Rattle.std.specs.Prelude.{Option, Some, None as NoneOf}
use Rattle.sets.proofs.Promise.{value_unique, decides_unique}
use Rattle.answers.proofs.Promise.{lowest_unique as lowest_in_unique, lowest_or_count}
use Rattle.points.specs.Points.{points_at, Has, Put, Unite, Same, None, Lowest}

pub has_unique : (slice : List ℕ) (at n place : ℕ) {r r' : Bool}
    → Has slice at n place r
    → Has slice at n place r'
    → r ≡ r'
has_unique slice at n place = value_unique

pub put_unique : {before : List ℕ} {at n place : ℕ} {after after' : List ℕ}
    → Put before at n place after
    → Put before at n place after'
    → after ≡ after'
put_unique h h' = value_unique h.content h'.content

pub unite_unique : {before : List ℕ} {at n : ℕ} {other : List ℕ} {from : ℕ} {after after' : List ℕ}
    → Unite before at n other from after
    → Unite before at n other from after'
    → after ≡ after'
unite_unique h h' = value_unique h.content h'.content

pub same_unique : (slice : List ℕ) (at : ℕ) (other : List ℕ) (from n : ℕ) (r r' : Bool)
    → Same slice at other from n r
    → Same slice at other from n r'
    → r ≡ r'
same_unique slice at other from n = decides_unique (points_at slice at n ≡ points_at other from n)

pub none_unique : (slice : List ℕ) (at n : ℕ) (r r' : Bool)
    → None slice at n r
    → None slice at n r'
    → r ≡ r'
none_unique slice at n = decides_unique (points_at slice at n ≡ 0)

pub lowest_unique : (word : ℕ) {r r' : Option ℕ} → Lowest word r → Lowest word r' → r ≡ r'
lowest_unique word {r = NoneOf} {r' = NoneOf} h h' = refl
lowest_unique word {r = NoneOf} {r' = Some j} h h' = absurd (h j h'.inside h'.holds)
lowest_unique word {r = Some i} {r' = NoneOf} h h' = absurd (h' i h.inside h.holds)
lowest_unique word {r = Some i} {r' = Some j} h h' =
    ap Some (lowest_in_unique (lowest_or_count (Some i) h) (lowest_or_count (Some j) h'))
