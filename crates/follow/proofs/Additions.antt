-- Each single addition to FOLLOW is sound: a trail of what stands behind a nonterminal on a right side, united into its set, adds
-- only members that have their reason.
use mathlib.Core.Path.{refl, sym}
use mathlib.Core.Logic.{◌⊎◌, inl, inr}
use mathlib.Core.List.{List, [], ◌∷◌}
use Prim.Native.Nat.{ℕ, zero, suc, ◌<◌}
use lib.ListN.{drop, replicate}
use Rattle.grammar.specs.Grammar.{Form, Grammar, column, Every, each, Rule, itself, last, Follow, Known, known_nonterminal, Reachable}
use Rattle.grammar.specs.Grammar.{endmark}
use Rattle.grammar.proofs.Join.{Behind, first, later}
use Rattle.grammar.proofs.Sets.{follow_addition}
use Rattle.grammar.proofs.Useful.{useful_reachable}
use Rattle.sets.specs.Sets.{end_mark, only, united}
use Rattle.sets.specs.Calls.{set_at, stored}
use Rattle.reader.specs.Book.{Limits}
use Rattle.book.specs.Judging.{AllUseful}
use Rattle.first.specs.Trail.{trail, Inside, FirstSound}
use Rattle.first.proofs.Promise.{only_one, trail_reasons, reasons_inside, first_reasons, follow_reasons, first_proper, sound_none}
use Rattle.first.proofs.Promise.{sound_stored, sound_united}
use Rattle.follow.specs.Walks.{Halts, FollowSound}
use Rattle.follow.proofs.Halting.{halts_dropped}

-- what stands behind an occurrence in a form of known symbols is known
pub behind_every : {g : Grammar} {A : ℕ} {v β : Form} → Behind A v β → Every (Known g) β → Every (Known g) v
behind_every first (each p h) = h
behind_every (later b) (each p h) = behind_every b h

pub behind_below : {g : Grammar} {A : ℕ} {v β : Form} → Behind A v β → Every (Known g) β → A < g.nonterminals
behind_below first (each (known_nonterminal h) rest) = h
behind_below (later b) (each p h) = behind_below b h

-- an occurrence in a form from a position on is one in the form; an occurrence before that position has the rest of the form behind it
pub behind_dropped : {A : ℕ} {v : Form} (n : ℕ) (β : Form) → Behind A v (drop n β) → Behind A v β
behind_dropped zero β b = b
behind_dropped (suc n) [] b = b
behind_dropped (suc n) (s ∷ β) b = later (behind_dropped n β b)

pub behind_tail : {fs : List ℕ} {A : ℕ} {v β : Form} (n : ℕ) → Halts fs (drop n β) → Behind A v β → Behind A v (drop n β) ⊎ Halts fs v
behind_tail zero h b = inl b
behind_tail {v = v} (suc n) h first = inr (halts_dropped n v h)
behind_tail (suc n) h (later b) = behind_tail n h b

-- the end mark follows the start symbol
pub follow_begun : {g : Grammar} (n : ℕ) → FollowSound g (stored (replicate n 0) g.start (only end_mark))
follow_begun {g} n =
    sound_stored (sound_none n) g.start
    (record { reason = λ k m. record { member = column endmark; place = sym (only_one k end_mark m); in_set = last [] itself } })

module _ {g : Grammar} (limits : Limits g) {fs : List ℕ} (sound : FirstSound g fs) (useful : AllUseful g) where
  -- what lies behind a nonterminal on a right side, going on with FOLLOW of the left side, lies in FOLLOW of that nonterminal
  pub follow_addition_inside : {p A B : ℕ} {β v : Form} {x : ℕ}
      → Rule g p B β
      → Behind A v β
      → Inside (Follow g B) x
      → Inside (Follow g A) (trail fs x v)
  follow_addition_inside {A = A} {B = B} {v = v} rule b h =
      let known : Every (Known g) v = behind_every b (limits.well_formed.right_known rule) in
      let reached : Reachable g B = useful_reachable (useful.useful B (limits.well_formed.left_known rule)) in
      reasons_inside column (Follow g A) (λ c j. follow_addition (λ C d i. i) (λ C d i. i) reached rule b j)
      (trail_reasons limits (first_proper limits.well_formed) fs (first_reasons sound) column (λ t. refl) (follow_reasons h) v known)

  pub follow_addition_sound : {ys : List ℕ}
      → FollowSound g ys
      → {p A B : ℕ} {β v : Form} {x : ℕ}
      → Rule g p B β
      → Behind A v β
      → Inside (Follow g B) x
      → FollowSound g (stored ys A (united (set_at ys A) (trail fs x v)))
  follow_addition_sound s {A = A} rule b h = sound_united s A (behind_below b (limits.well_formed.right_known rule)) (follow_addition_inside rule b h)
