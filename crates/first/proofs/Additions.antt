-- Each single addition to FIRST is sound: a production's trail, united into the set of its left side, adds only members that
-- have their reason.
use mathlib.Core.Path.{◌≡◌, refl, sym, ◌∙◌}
use mathlib.Core.Bool.{false≢true}
use mathlib.Core.Logic.{⊎_elim}
use mathlib.Core.List.{List, [], ◌∷◌}
use Prim.Native.Nat.{ℕ, ◌<◌}
use native.Mathlib.Decide.{ℕ_discrete, dec_lt}
use native.Mathlib.Omega.{arith}
use lib.ListN.{length, get_or, replicate}
use lib.Seq.{get_or-set_same, get_or-set_other, set_out}
use Rattle.grammar.specs.declared.Symbol.TheVariants.{Nonterminal}
use Rattle.grammar.specs.Grammar.{Form, Grammar, Member, Every, Rule, First, Known}
use Rattle.grammar.specs.Next.{merged}
use Rattle.grammar.proofs.Join.{End, Join}
use Rattle.grammar.proofs.Sets.{FirstOf, join_first, first_addition}
use Rattle.sets.specs.Sets.{empty_string, only, united}
use Rattle.sets.specs.Calls.{set_at, stored}
use Rattle.sets.proofs.Promise.{member_none, or_cases}
use Rattle.reader.specs.Book.{Limits}
use Rattle.first.specs.Trail.{trail, Inside, Sound, FirstSound}
use Rattle.first.proofs.Growth.{no_member}
use Rattle.first.proofs.Joins.{Reasons, trail_reasons}
use Rattle.first.proofs.Members.{reasons_inside, first_reasons, first_proper, end_reasons}

pub inside_united : {P : Member → Type 0} {x y : ℕ} → Inside P x → Inside P y → Inside P (united x y)
inside_united {x = x} {y = y} h i = record { reason = λ k m. ⊎_elim (h.reason k) (i.reason k) (or_cases k x y m) }

pub inside_none : {P : Member → Type 0} → Inside P 0
inside_none = record { reason = λ k m. absurd (false≢true (sym (member_none k) ∙ m)) }

module _ {g : Grammar} {P : ℕ → Member → Type 0} where
  pub sound_none : (n : ℕ) → Sound g P (replicate n 0)
  sound_none n = record { each = λ A a. rw (no_member n A) inside_none }

  -- a set replaced by one that lies in it
  pub sound_stored : {cells : List ℕ} → Sound g P cells → (B : ℕ) {y : ℕ} → Inside (P B) y → Sound g P (stored cells B y)
  sound_stored {cells} s B {y} h = record { each = λ A a. go A a (ℕ_discrete A B) (dec_lt B (length cells)) }
    where
      go : (A : ℕ) → A < g.nonterminals → Dec (A ≡ B) → Dec (B < length cells) → Inside (P A) (get_or (stored cells B y) A 0)
      go A a (no d) inside = rw (get_or-set_other cells B A y 0 d) (s.each A a)
      go A a (yes e) (yes i) = rw (e, get_or-set_same cells B y 0 i) h
      go A a (yes e) (no o) = rw (set_out cells B y (omega arith)) (s.each A a)

  -- a set united with a number that lies in it
  pub sound_united : {cells : List ℕ}
      → Sound g P cells
      → (B : ℕ) {x : ℕ}
      → B < g.nonterminals
      → Inside (P B) x
      → Sound g P (stored cells B (united (set_at cells B) x))
  sound_united s B b h = sound_stored s B (inside_united (s.each B b) h)

module _ {g : Grammar} (limits : Limits g) {fs : List ℕ} (sound : FirstSound g fs) where
  joins_first : {α : Form} → Every (Known g) α → Reasons merged (Join (FirstOf g) End α) (trail fs (only empty_string) α)
  joins_first {α} h = trail_reasons limits (first_proper limits.well_formed) fs (first_reasons sound) merged (λ t. refl) end_reasons α h

  -- the trail of a form lies in its FIRST
  pub first_trail_inside : {α : Form} → Every (Known g) α → Inside (First g α) (trail fs (only empty_string) α)
  first_trail_inside {α} h = reasons_inside merged (First g α) (λ c j. join_first (λ A d i. i) j) (joins_first h)

  -- the trail of a right side lies in FIRST of the left side
  pub first_addition_inside : {p A : ℕ} {β : Form} → Rule g p A β → Inside (First g (Nonterminal A ∷ [])) (trail fs (only empty_string) β)
  first_addition_inside {A = A} rule =
      reasons_inside merged (First g (Nonterminal A ∷ [])) (λ c j. first_addition (λ B d i. i) rule c j) (joins_first (limits.well_formed.right_known rule))

  pub first_addition_sound : {p A : ℕ} {β : Form}
      → Rule g p A β
      → FirstSound g (stored fs A (united (set_at fs A) (trail fs (only empty_string) β)))
  first_addition_sound {A = A} rule = sound_united sound A (limits.well_formed.left_known rule) (first_addition_inside rule)
