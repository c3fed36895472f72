-- FIRST of two forms put together, by FIRST of each.
use mathlib.Core.Path.{◌≡◌, refl}
use mathlib.Core.Logic.{◌↔◌, ◌⊎◌, ◌≢◌, inl, inr}
use mathlib.Core.List.{◌++◌}
use Prim.Native.Nat.{ℕ}
use native.Mathlib.Omega.{arith}
use Rattle.grammar.specs.Grammar.{Form, Grammar, Column, token, endmark, Member, column, empty, First}
use Rattle.grammar.specs.Next.{merged}
use Rattle.grammar.proofs.Join.{End, Join, Cases, own, beyond, join_in, join_out, join_cases, join_own, join_beyond}
use Rattle.grammar.proofs.Sets.{FirstOf, join_first, first_join, first_of_closed, first_not_end}

-- what FIRST of both holds: FIRST of the first without the empty string and, if the first can vanish, FIRST of the second
abbrev pub JoinedFirst : Grammar → (α β : Form) → Member → Type 0
JoinedFirst g α β m = (First g α m × (m ≢ empty)) ⊎ (First g α empty × First g β m)

module _ {g : Grammar} (α β : Form) where
  in_parts : {c : Column} → Cases (FirstOf g) (Join (FirstOf g) End β) α c → JoinedFirst g α β (merged c)
  in_parts (own {t = t} j) = inl (join_first (λ A c h. h) j, λ e. let bad : ◌≡◌ {A = ℕ} 0 1 = cc in omega arith)
  in_parts (beyond j k) = inr (join_first (λ A c h. h) j, join_first (λ A c h. h) k)

  whole_first : (c : Column) → First g (α ++ β) (merged c) → JoinedFirst g α β (merged c)
  whole_first c f = in_parts (join_cases (join_out α β (first_join first_of_closed c f)))

  behind_first : (c : Column) → First g α empty → First g β (merged c) → First g (α ++ β) (merged c)
  behind_first c v f =
      join_first (λ A c h. h)
      (join_in α β (join_beyond (first_join first_of_closed endmark v) (first_join first_of_closed c f)))

  own_first : (t : ℕ) → First g α (column (token t)) → First g (α ++ β) (column (token t))
  own_first t f = join_first (λ A c h. h) (join_in α β (join_own (first_join first_of_closed (token t) f)))

  parts_first : (m : Member) → JoinedFirst g α β m → First g (α ++ β) m
  parts_first (column (token t)) (inl (f, kept)) = own_first t f
  parts_first (column endmark) (inl (f, kept)) = absurd (first_not_end f)
  parts_first empty (inl (f, kept)) = absurd (kept refl)
  parts_first (column (token t)) (inr (v, f)) = behind_first (token t) v f
  parts_first (column endmark) (inr (v, f)) = absurd (first_not_end f)
  parts_first empty (inr (v, f)) = behind_first endmark v f

  first_parts : (m : Member) → First g (α ++ β) m → JoinedFirst g α β m
  first_parts (column (token t)) f = whole_first (token t) f
  first_parts (column endmark) f = absurd (first_not_end f)
  first_parts empty f = whole_first endmark f

  pub first_append : (m : Member) → First g (α ++ β) m ↔ JoinedFirst g α β m
  first_append m = (first_parts m, parts_first m)
