-- Sound and closed is exact, of numbers: words whose members have their reasons, and to which no production adds, are FOLLOW; and
-- with FIRST and FOLLOW the trail of a right side is the lookahead of its production.
use mathlib.Core.Path.{◌≡◌, refl}
use mathlib.Core.Bool.{true}
use mathlib.Core.List.{List}
use Prim.Native.Nat.{ℕ, ◌^◌, ◌<◌}
use lib.ListN.{get_or}
use Rattle.grammar.specs.Grammar.{Form, Grammar, Column, column, Every, Rule, Follow, Lookahead, Known}
use Rattle.grammar.proofs.Join.{Join, Behind, join_cases}
use Rattle.grammar.proofs.Sets.{FirstOf, FollowOf, first_of_closed, follow_complete, join_lookahead, lookahead_join, follow_not_empty}
use Rattle.grammar.proofs.Sets.{lookahead_not_empty}
use Rattle.grammar.proofs.Sets as textbook
use Rattle.sets.specs.Sets.{width, member}
use Rattle.reader.specs.Book.{Limits}
use Rattle.first.specs.Numbers.{place_of, IsSet}
use Rattle.first.specs.Trail.{trail, FirstAt}
use Rattle.first.proofs.Promise.{the_end_mark, trail_fits, Reason, Reasons, Covers, trail_reasons, reasons_inside, at_column, first_reasons}
use Rattle.first.proofs.Promise.{follow_reasons, first_proper, Bits, bits_cover, join_proper, sets_sound, trail_of_first, known_fits}
use Rattle.follow.specs.Walks.{FollowSound, FollowAt, FollowClosed}
use Rattle.follow.proofs.Additions.{behind_every}

module _ {g : Grammar} (limits : Limits g) {fs : List ℕ} (first : FirstAt g fs) where
  follow_family_closed : {ys : List ℕ} → FollowClosed g fs ys → textbook.FollowClosed g (FirstOf g) (Bits g column ys)
  follow_family_closed {ys} c = record { at_start = record { proper = the_end_mark; bit = c.at_start }; closed = λ {p} {B} {β} rule {A} {v} b {c = d} j. go p B β rule A v b d j }
    where
      go : (p B : ℕ) (β : Form)
          → Rule g p B β
          → (A : ℕ) (v : Form)
          → Behind A v β
          → (d : Column)
          → Join (FirstOf g) (Bits g column ys B) v d
          → Bits g column ys A d
      go p B β rule A v b d j =
          let known : Every (Known g) v = behind_every b (limits.well_formed.right_known rule) in
          record {
            proper = join_proper (first_proper limits.well_formed) (λ e i. i.proper) known j;
            bit = c.closed rule b (place_of (column d)) ((trail_of_first limits first column (λ t. refl) (bits_cover B) known).covered d j);
          }

  pub follow_words_exact : {ys : List ℕ}
      → ((A : ℕ) → A < g.nonterminals → get_or ys A 0 < 2 ^ width)
      → FollowSound g ys
      → FollowClosed g fs ys
      → FollowAt g ys
  follow_words_exact {ys} fits s c = record { each = λ A a. record { fits = fits A a; sound = (s.each A a).reason; complete = λ k i. go A (at_column (Follow g A) follow_not_empty i) } }
    where
      go : (A : ℕ) {k : ℕ} → Reason column (FollowOf g A) k → member k (get_or ys A 0) ≡ true
      go A r = rw r.place at (follow_complete first_of_closed (follow_family_closed c) A r.column r.holds).bit

  -- the lookahead of a production is the trail that ends with FOLLOW of its left side
  pub lookahead_is : {ys : List ℕ}
      → FollowAt g ys
      → {p A : ℕ} {α : Form}
      → Rule g p A α
      → IsSet (trail fs (get_or ys A 0) α) (Lookahead g A α)
  lookahead_is {ys} follow {A = A} {α = α} rule =
      record {
        fits = trail_fits fs (follow.each A left).fits (known_fits limits first known);
        sound = (reasons_inside column (Lookahead g A α) (λ c j. join_lookahead (join_cases j)) joins).reason;
        complete = λ k i. go (at_column (Lookahead g A α) lookahead_not_empty i);
      }
    where
      left : A < g.nonterminals
      left = limits.well_formed.left_known rule

      known : Every (Known g) α
      known = limits.well_formed.right_known rule

      joins : Reasons column (Join (FirstOf g) (FollowOf g A) α) (trail fs (get_or ys A 0) α)
      joins = trail_reasons limits (first_proper limits.well_formed) fs (first_reasons (sets_sound first)) column (λ t. refl) (follow_reasons ((sets_sound follow).each A left)) α known

      follow_covers : Covers column (FollowOf g A) (get_or ys A 0)
      follow_covers = record { covered = λ c f. (follow.each A left).complete (place_of (column c)) (record { member = column c; place = refl; in_set = f }) }

      go : {k : ℕ} → Reason column (λ c. Lookahead g A α (column c)) k → member k (trail fs (get_or ys A 0) α) ≡ true
      go r = rw r.place at ((trail_of_first limits first column (λ t. refl) follow_covers known).covered r.column (lookahead_join r.holds))
