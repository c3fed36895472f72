-- FIRST of two strings put together is the join of their FIRST sets: of numbers, of trails, and of the calls.
use mathlib.Core.Path.{◌≡◌, refl, sym, ap, ◌∙◌, subst}
use mathlib.Core.Logic.{◌⊎◌, ◌≢◌, inl, inr}
use mathlib.Core.List.{List, [], ◌∷◌, ◌++◌}
use Prim.Native.Nat.{ℕ}
use native.Mathlib.Omega.{arith}
use Rattle.grammar.specs.Grammar.{Form, Grammar, token, endmark, Member, column, empty, Every, Known, First}
use Rattle.grammar.proofs.Append.{JoinedFirst, first_append}
use Rattle.sets.specs.Sets.{empty_string, only, joined}
use Rattle.sets.proofs.Promise.{exactly_alike, joined_exactly, join_assoc, join_neutral_left}
use Rattle.reader.specs.Book.{Limits}
use Rattle.first.specs.Numbers.{place_of, At, IsSet}
use Rattle.first.specs.Trail.{trail, symbol_set}
use Rattle.first.proofs.Known.{first_known}

-- the trail of two forms put together
pub trail_append : (fs : List ℕ) (k : ℕ) (α β : Form) → trail fs k (α ++ β) ≡ trail fs (trail fs k β) α
unfolding trail
trail_append fs k [] β = refl
trail_append fs k (s ∷ α) β = ap (joined empty_string (symbol_set fs s)) (trail_append fs k α β)

-- what stands behind a form is joined to its own set
pub trail_joined : (fs : List ℕ) (k : ℕ) (α : Form)
    → trail fs k α ≡ joined empty_string (trail fs (only empty_string) α) k
unfolding trail
trail_joined fs k [] = sym (join_neutral_left empty_string k)
trail_joined fs k (s ∷ α) =
    ap (joined empty_string (symbol_set fs s)) (trail_joined fs k α)
    ∙ sym (join_assoc empty_string (symbol_set fs s) (trail fs (only empty_string) α) k)

module _ {g : Grammar} (limits : Limits g) where
  -- of FIRST of known symbols, only the empty string stands at its place
  pub at_empty : {α : Form}
      → Every (Known g) α
      → (m : Member)
      → First g α m
      → place_of m ≡ empty_string
      → m ≡ empty
  at_empty known (column (token t)) f e =
      absurd (omega (arith, limits.tokens_fit, first_known limits.well_formed known f))
  at_empty known (column endmark) f e = absurd (omega arith)
  at_empty known empty f e = refl

  module _ (α β : Form) (left : Every (Known g) α) where
    whole_at : (k : ℕ)
        → (At (First g α) k × (k ≢ empty_string)) ⊎ (At (First g α) empty_string × At (First g β) k)
        → At (First g (α ++ β)) k
    whole_at k (inl (a, other)) =
        let kept : a.member ≢ empty = λ e. other (sym a.place ∙ ap place_of e) in
        record {
          member = a.member;
          place = a.place;
          in_set = (first_append α β a.member).1 (inl (a.in_set, kept));
        }
    whole_at k (inr (a, b)) =
        let vanishes = subst (First g α) (at_empty left a.member a.in_set a.place) a.in_set in
        record {
          member = b.member;
          place = b.place;
          in_set = (first_append α β b.member).1 (inr (vanishes, b.in_set));
        }

    parts_at : (k : ℕ) → At (First g (α ++ β)) k
        → (At (First g α) k × (k ≢ empty_string)) ⊎ (At (First g α) empty_string × At (First g β) k)
    parts_at k a = go ((first_append α β a.member).0 a.in_set)
      where
        go : JoinedFirst g α β a.member
            → (At (First g α) k × (k ≢ empty_string)) ⊎ (At (First g α) empty_string × At (First g β) k)
        go (inl (f, kept)) =
            inl (
              record { member = a.member; place = a.place; in_set = f },
              λ e. kept (at_empty left a.member f (a.place ∙ e)),
            )
        go (inr (v, f)) =
            inr (
              record { member = empty; place = refl; in_set = v },
              record { member = a.member; place = a.place; in_set = f },
            )

  -- FIRST of two strings put together is the join of their FIRST sets
  pub first_joined : (α β : Form) {x y : ℕ} → Every (Known g) α
      → IsSet x (First g α)
      → IsSet y (First g β)
      → IsSet (joined empty_string x y) (First g (α ++ β))
  first_joined α β left x_is y_is =
      exactly_alike (λ k. (whole_at α β left k, parts_at α β left k)) (joined_exactly empty_string x_is y_is)
