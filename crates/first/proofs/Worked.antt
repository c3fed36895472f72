-- The sets of a small grammar worked out as numbers, right wherever a test passes that computes.
use mathlib.Core.Path.{◌≡◌, sym, ◌∙◌, subst}
use mathlib.Core.Bool.{Bool, true, false≢true}
use mathlib.Core.Logic.{◌↔◌, ⊎_elim}
use mathlib.Core.List.{List, [], ◌∷◌}
use Prim.Native.Nat.{ℕ, ◌^◌, ◌<◌}
use native.Mathlib.Omega.{arith}
use lib.Dec.{T, eqb, ltb, eqb→eq, ltb→lt}
use lib.ListN.{length, get_or}
use Rattle.grammar.specs.Grammar.{Grammar, Column, Member, Every, nothing, each}
use Rattle.grammar.proofs.Tests.{or_left, or_right, or_elim, all, any, all_every, any_of, below, below_each}
use Rattle.grammar.proofs.Worked.{Entry, same, same_is, same_self, In, Among, row_of, row_every, in_row, in_self}
use Rattle.grammar.proofs.Every.{every_map}
use Rattle.sets.specs.Sets.{width, Exactly, member, only, united, added}
use Rattle.sets.proofs.Promise.{member_none, added_new, added_keep, added_cases, added_fits}
use Rattle.first.specs.Numbers.{place_of, At, Sets}
use Rattle.first.proofs.Joins.{Reason}

module _ (mark : Column → Member) where
  -- the number of a list of columns
  unfoldable pub number_of : List Column → ℕ
  unfolding added united only
  number_of [] = 0
  number_of (c ∷ cs) = added (place_of (mark c)) (number_of cs)

  number_has : (cs : List Column) (c : Column) → Among cs c → member (place_of (mark c)) (number_of cs) ≡ true
  unfolding number_of any
  number_has [] c h = absurd h
  number_has (d ∷ cs) c h =
      or_elim (same d c) (any (λ e. same e c) cs)
      (λ s. subst (λ (e : Column). member (place_of (mark e)) (added (place_of (mark d)) (number_of cs)) ≡ true) (same_is d c s) (added_new (place_of (mark d)) (number_of cs)))
      (λ s. added_keep (place_of (mark c)) (place_of (mark d)) (number_of cs) (number_has cs c s))
      h

  number_reason : (cs : List Column) (k : ℕ) → member k (number_of cs) ≡ true → Reason mark (Among cs) k
  unfolding number_of any
  number_reason [] k m = absurd (false≢true (sym (member_none k) ∙ m))
  number_reason (d ∷ cs) k m =
      ⊎_elim (λ l. let r = number_reason cs k l in record { column = r.column; place = r.place; holds = or_right (same d r.column) _ r.holds })
      (λ e. record { column = d; place = sym e; holds = or_left (same d d) _ (same_self d) })
      (added_cases k (place_of (mark d)) (number_of cs) m)

  number_fits : {cs : List Column} → Every (λ c. place_of (mark c) < width) cs → number_of cs < 2 ^ width
  unfolding number_of
  number_fits nothing = omega arith
  number_fits (each {x = c} {xs = cs} p h) = added_fits width (place_of (mark c)) (number_of cs) p (number_fits h)

  -- every place of a family lies within the width
  unfoldable pub places_test : List Entry → Bool
  unfolding all
  places_test fam = all (λ e. ltb (place_of (mark e.col)) width) fam

  -- the first n cells are the numbers of the rows of a family
  unfoldable pub rows_test : List Entry → ℕ → List ℕ → Bool
  unfolding below row_of number_of
  rows_test fam n cells = below n (λ A. eqb (get_or cells A 0) (number_of (row_of A fam)))

  row_among : (fam : List Entry) (A : ℕ) (c : Column) → Among (row_of A fam) c → In fam A c
  row_among fam A c h = any_of (λ d. same d c) (row_every (In fam) A fam (in_self fam)) (λ d i s. subst (In fam A) (same_is d c s) i) h

  module _ (g : Grammar) (fam : List Entry) {P : ℕ → Member → Type 0}
      (exact : (A : ℕ) (c : Column) → In fam A c ↔ P A (mark c)) (as_column : (A k : ℕ) → At (P A) k → Reason mark (λ c. P A (mark c)) k) where
    row_number_set : (A : ℕ)
        → Every (λ (e : Entry). place_of (mark e.col) < width) fam
        → Exactly width (number_of (row_of A fam)) (At (P A))
    row_number_set A within =
        record {
          fits = number_fits (row_every (λ B c. place_of (mark c) < width) A fam within);
          sound = λ k m.
              let r = number_reason (row_of A fam) k m in
              record { member = mark r.column; place = r.place; in_set = (exact A r.column).0 (row_among fam A r.column r.holds) };
          complete = λ k i.
              let r = as_column A k i in
              subst (λ (j : ℕ). member j (number_of (row_of A fam)) ≡ true) r.place (number_has (row_of A fam) r.column (in_row A r.column fam ((exact A r.column).1 r.holds)));
        }

    -- the sets of the nonterminals, by the tests
    pub sets_tested : (cells : List ℕ)
        → length cells ≡ g.nonterminals
        → T (places_test fam)
        → T (rows_test fam g.nonterminals cells)
        → Sets g P cells
    unfolding places_test rows_test
    sets_tested cells e places rows =
        let within : Every (λ (e : Entry). place_of (mark e.col) < width) fam = every_map (λ e h. ltb→lt (place_of (mark e.col)) width h) (all_every (λ (e : Entry). ltb (place_of (mark e.col)) width) fam places) in
        let row : ℕ → Bool = λ A. eqb (get_or cells A 0) (number_of (row_of A fam)) in
        record { size = e; each = λ A a. rw (eqb→eq (get_or cells A 0) (number_of (row_of A fam)) (below_each g.nonterminals row rows A a)) (row_number_set A within) }
