-- A small grammar worked out: its table and its first conflict, right wherever a test passes that computes.
use mathlib.Core.Path.{◌≡◌, refl, sym, ap, ◌∙◌, subst}
use mathlib.Core.Bool.{Bool, true, false, ◌||◌}
use mathlib.Core.Logic.{◌↔◌, ◌⊎◌, inl, inr}
use mathlib.Core.List.{List, [], ◌∷◌}
use mathlib.Core.Option.{Option, some, none}
use Prim.Native.Nat.{ℕ, ◌≤◌, ◌<◌}
use lib.Dec.{T, eqb, leb, eqb→eq, leb→le}
use lib.ListN.{length, get_or, get_elem?}
use Rattle.grammar.specs.Grammar.{Production, Grammar, Column, Every, Cell, Reachable, Useful, WellFormed}
use Rattle.grammar.specs.Machine.{Exact}
use Rattle.grammar.proofs.Sets.{FirstOf, FollowOf, first_exact, follow_exact}
use Rattle.grammar.proofs.Tests.{or_elim, all, any, all_every, any_of, below, below_each}
use Rattle.grammar.proofs.Worked.{Entry, In, in_every, ruled}
use Rattle.grammar.proofs.Worked.{first_sets, follow_sets, first_test, follow_test, first_sets_sound, first_test_closed, follow_sets_sound}
use Rattle.grammar.proofs.Worked.{follow_test_closed}
use Rattle.grammar.proofs.WorkedForm.{form_test, form_tested}
use Rattle.grammar.proofs.WorkedUseful.{productives, usefuls, productives_sound, usefuls_sound, has, has_every}
use Rattle.grammar.proofs.WorkedCells.{claiming, claimants, single, claims_found, found_claims}
use Rattle.grammar.proofs.Every.{every_map}
use Rattle.grammar.proofs.Useful.{useful_reachable}
use Rattle.book.specs.Judging.{AllUseful}
use Rattle.table.specs.Table.{size, column_of, row_at, column_at, ClaimsCell, held, TableOf, FirstConflict}

unfoldable pub same_held : Option ℕ → Option ℕ → Bool
same_held none none = true
same_held none (some q) = false
same_held (some p) none = false
same_held (some p) (some q) = eqb p q

same_held_lem : (o o' : Option ℕ) → T (same_held o o') → o ≡ o'
unfolding same_held
same_held_lem none none t = refl
same_held_lem none (some q) t = absurd t
same_held_lem (some p) none t = absurd t
same_held_lem (some p) (some q) t = ap some (eqb→eq p q t)

module _ (g : Grammar) where
  -- each cell holds what the family of exact cells has there
  unfoldable pub table_test : (ℕ → Column → Option ℕ) → List ℕ → Bool
  unfolding below same_held held column_of
  table_test cell table = below (size g) (λ i. same_held (cell (row_at g i) (column_at g i)) (held (get_or table i 255)))

  -- the table, by the test
  pub table_tested : {cell : ℕ → Column → Option ℕ}
      → Exact g cell
      → (table : List ℕ)
      → length table ≡ size g
      → T (table_test cell table)
      → TableOf g table
  unfolding table_test
  table_tested {cell} exact table e t =
      record {
        sized = e;
        cells = λ i h.
            let right = below_each (size g) (λ j. same_held (cell (row_at g j) (column_at g j)) (held (get_or table j 255))) t i h in
            subst (λ (o : Option ℕ). Cell g (row_at g i) (column_at g i) o) (same_held_lem (cell (row_at g i) (column_at g i)) (held (get_or table i 255)) right) (exact.cells (row_at g i) (column_at g i));
      }

one_only : (xs : List ℕ) → T (single xs) → (r s : ℕ) → T (any (eqb r) xs) → T (any (eqb s) xs) → r ≡ s
unfolding single any
one_only [] t r s a b = absurd a
one_only (p ∷ []) t r s a b = is_it r a ∙ sym (is_it s b)
  where
    is_it : (r : ℕ) → T (eqb r p || false) → r ≡ p
    is_it r a = or_elim (eqb r p) false (λ h. eqb→eq r p h) (λ h. absurd h) a
one_only (p ∷ (q ∷ xs)) t r s a b = absurd t

module _ (g : Grammar) (fam W : List Entry) where
  abbrev claimants_at : ℕ → List ℕ
  claimants_at i = claimants g fam W (row_at g i) (column_at g i)

  -- production p claims cell i
  unfoldable pub claim_test : ℕ → ℕ → Bool
  unfolding claiming column_of
  claim_test i p = elim (get_elem? g.productions p) [ none ↦ false | some r ↦ claiming g fam W (row_at g i) (column_at g i) r ]

  -- every claimant of cell i is p or at least q
  unfoldable pub others_test : ℕ → ℕ → ℕ → Bool
  unfolding all claimants column_of
  others_test i p q = all (λ r. eqb r p || leb q r) (claimants_at i)

  -- no cell before i has two claimants
  unfoldable pub earlier_test : ℕ → Bool
  unfolding below single claimants column_of
  earlier_test i = below i (λ j. single (claimants_at j))

  module _ (F-exact : (A : ℕ) (c : Column) → In fam A c ↔ FirstOf g A c) (W-exact : (A : ℕ) (c : Column) → In W A c ↔ FollowOf g A c) where
    claim_tested : (i p : ℕ) → T (claim_test i p) → ClaimsCell g i p
    unfolding claim_test
    claim_tested i p t = go (get_elem? g.productions p) refl t
      where
        go : (o : Option Production)
            → get_elem? g.productions p ≡ o
            → T (elim o [ none ↦ false | some r ↦ claiming g fam W (row_at g i) (column_at g i) r ])
            → ClaimsCell g i p
        go none e t = absurd t
        go (some r) e t = found_claims g fam W F-exact W-exact (record { production = r; at = e; holds = t })

    claimed_any : (i r : ℕ) → ClaimsCell g i r → T (any (eqb r) (claimants_at i))
    claimed_any i r k = claims_found g fam W F-exact W-exact k

    -- the first conflict, by the tests
    pub first_conflict_tested : (i p q : ℕ)
        → i < size g
        → p < q
        → T (claim_test i p)
        → T (claim_test i q)
        → T (others_test i p q)
        → T (earlier_test i)
        → FirstConflict g i p q
    unfolding others_test earlier_test
    first_conflict_tested i p q inside order one other others earlier =
        record {
          inside = inside;
          lowest = claim_tested i p one;
          next = claim_tested i q other;
          order = order;
          others = λ r k. any_of (eqb r) (all_every (λ s. eqb s p || leb q s) (claimants_at i) others) (λ s h e. at_most r s e h) (claimed_any i r k);
          earlier = λ j h r s k l. one_only (claimants_at j) (below_each i (λ n. single (claimants_at n)) earlier j h) r s (claimed_any j r k) (claimed_any j s l);
        }
      where
        at_most : (r s : ℕ) → T (eqb r s) → T (eqb s p || leb q s) → (r ≡ p) ⊎ (q ≤ r)
        at_most r s e h =
            let same : r ≡ s = eqb→eq r s e in
            or_elim (eqb s p) (leb q s) (λ a. inl (same ∙ eqb→eq s p a)) (λ b. inr (rw same (leb→le q s b))) h

-- FIRST, FOLLOW and the useful nonterminals of a grammar, worked out in n passes
module _ (g : Grammar) (n : ℕ) where
  unfoldable pub worked_first : List Entry
  unfolding first_sets
  worked_first = first_sets g n

  unfoldable pub worked_follow : List Entry
  unfolding worked_first follow_sets
  worked_follow = follow_sets g worked_first n

  unfoldable pub worked_useful : List ℕ
  unfolding productives usefuls
  worked_useful = usefuls g (productives g n) n

  pub useful_tested : T (has (productives g n) g.start) → T (below g.nonterminals (has worked_useful)) → AllUseful g
  unfolding worked_useful
  useful_tested start all = record { useful = λ A a. has_every (Useful g) (usefuls_sound g (productives_sound g n) start n) A (below_each g.nonterminals (has worked_useful) all A a) }

  pub first_tested : T (first_test g worked_first) → (A : ℕ) (c : Column) → In worked_first A c ↔ FirstOf g A c
  unfolding worked_first
  first_tested t = first_exact (λ A c. in_every (FirstOf g) A c (first_sets_sound g n)) (first_test_closed g worked_first t)

  pub follow_tested : WellFormed g
      → AllUseful g
      → T (first_test g worked_first)
      → T (follow_test g worked_first worked_follow)
      → (A : ℕ) (c : Column)
      → In worked_follow A c ↔ FollowOf g A c
  unfolding worked_first worked_follow
  follow_tested well useful t u =
      follow_exact (first_test_closed g worked_first t) (λ A c. in_every (FollowOf g) A c (follow_sets_sound g (first_sets_sound g n) reachable n)) (follow_test_closed g worked_first worked_follow u)
    where
      reachable : Every (λ r. Reachable g r.left) g.productions
      reachable = every_map (λ r q. useful_reachable (useful.useful r.left (well.left_known q.rule))) (ruled g)

  -- the first conflict of a grammar that is worked out
  pub conflict_tested : T (form_test g)
      → T (has (productives g n) g.start)
      → T (below g.nonterminals (has worked_useful))
      → T (first_test g worked_first)
      → T (follow_test g worked_first worked_follow)
      → (i p q : ℕ)
      → i < size g
      → p < q
      → T (claim_test g worked_first worked_follow i p)
      → T (claim_test g worked_first worked_follow i q)
      → T (others_test g worked_first worked_follow i p q)
      → T (earlier_test g worked_first worked_follow i)
      → FirstConflict g i p q
  conflict_tested form start useful f w =
      first_conflict_tested g worked_first worked_follow (first_tested f) (follow_tested (form_tested g form) (useful_tested start useful) f w)
