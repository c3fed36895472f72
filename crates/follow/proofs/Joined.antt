-- The lookahead of a production is the join of FIRST of its right side with FOLLOW of its left side.
use mathlib.Core.Path.{◌≡◌, refl, sym, ap, ◌∙◌, subst}
use mathlib.Core.Logic.{◌⊎◌, ◌≢◌, inl, inr}
use Prim.Native.Nat.{ℕ}
use native.Mathlib.Omega.{arith}
use Rattle.grammar.specs.Grammar.{Form, Grammar, Column, Member, column, empty}
use Rattle.grammar.specs.Grammar.{Rule, First, Follow, Lookahead, first, follow}
use Rattle.sets.specs.Sets.{empty_string, joined}
use Rattle.sets.proofs.Promise.{exactly_alike, joined_exactly}
use Rattle.reader.specs.Book.{Limits}
use Rattle.first.specs.Numbers.{place_of, At, IsSet}
use Rattle.first.proofs.Promise.{at_empty}

-- what a join of the two holds at a place
abbrev PartsAt : Grammar → ℕ → Form → ℕ → Type 0
PartsAt g A α k = (At (First g α) k × (k ≢ empty_string)) ⊎ (At (First g α) empty_string × At (Follow g A) k)

not_empty : (c : Column) → ◌≡◌ {A = Member} (column c) empty → ⊥
not_empty c e = let none : ◌≡◌ {A = ℕ} 0 1 = cc in omega arith

module _ {g : Grammar} (limits : Limits g) {p A : ℕ} {α : Form} (rule : Rule g p A α) where
  first_there : (m : Member) → First g α m → m ≢ empty → Lookahead g A α m
  first_there (column c) f kept = first f
  first_there empty f kept = absurd (kept refl)

  ahead_at : (k : ℕ) → PartsAt g A α k → At (Lookahead g A α) k
  ahead_at k (inl (a, other)) =
      let kept : a.member ≢ empty = λ e. other (sym a.place ∙ ap place_of e) in
      record { member = a.member; place = a.place; in_set = first_there a.member a.in_set kept }
  ahead_at k (inr (a, b)) =
      let known = limits.well_formed.right_known rule in
      let vanishes = subst (First g α) (at_empty limits known a.member a.in_set a.place) a.in_set in
      record { member = b.member; place = b.place; in_set = follow vanishes b.in_set }

  parts_at : (k : ℕ) → At (Lookahead g A α) k → PartsAt g A α k
  parts_at k a = go a.member a.place a.in_set
    where
      go : (m : Member) → place_of m ≡ k → Lookahead g A α m → PartsAt g A α k
      go m e (first {c = c} f) =
          inl (
            record { member = column c; place = e; in_set = f },
            λ at. not_empty c (at_empty limits (limits.well_formed.right_known rule) (column c) f (e ∙ at)),
          )
      go m e (follow v f) =
          inr (record { member = empty; place = refl; in_set = v }, record { member = m; place = e; in_set = f })

  pub lookahead_joined : {x y : ℕ}
      → IsSet x (First g α)
      → IsSet y (Follow g A)
      → IsSet (joined empty_string x y) (Lookahead g A α)
  lookahead_joined x_is y_is =
      exactly_alike (λ k. (ahead_at k, parts_at k)) (joined_exactly empty_string x_is y_is)
