-- A small grammar carried through every definition by tests that compute: from its paths and its table it is well formed
-- and useful throughout, its states are numbered, and its table is the only one.
use mathlib.Core.Logic.{◌↔◌}
use mathlib.Core.Bool.{Bool, true, false}
use mathlib.Core.List.{List, map}
use mathlib.Core.Option.{Option, some, none}
use Prim.Native.Nat.{ℕ, ◌*◌, ◌<◌}
use lib.Dec.{T, eqb, ltb}
use lib.ListN.{length, get_or}
use Rattle.grammar.specs.Grammar.{Form, Grammar, Column, Every, Reachable, Useful, WellFormed}
use Rattle.grammar.proofs.Every.{every_map}
use Rattle.grammar.proofs.Sets.{FollowOf, follow_exact}
use Rattle.grammar.proofs.Tests.{below, below_each}
use Rattle.grammar.proofs.Useful.{useful_reachable}
use Rattle.grammar.proofs.Worked.{Entry, In, first_sets, first_test, follow_sets, follow_test, first_sets_sound, first_test_closed, follow_sets_sound, follow_test_closed, in_every, ruled}
use Rattle.grammar.proofs.WorkedForm.{form_test, form_tested}
use Rattle.grammar.proofs.WorkedUseful.{productives, usefuls, productives_sound, usefuls_sound, has, has_every}
use Rattle.slr.specs.States.{columns_of, NumberedStates}
use Rattle.slr.specs.Cells.{reduce_from, empty_cell, SlrTableOf}
use Rattle.slr.proofs.WorkedStates.{Tested, tested_numbering}
use Rattle.slr.proofs.WorkedTable.{claims_at, held_test, tested_table}

-- the states that the cells of a table name
unfoldable pub moves_in : List ℕ → List (Option ℕ)
moves_in table = map (λ v. elim (ltb v reduce_from) [ true ↦ some v | false ↦ none ]) table

module _ (g : Grammar) (n : ℕ) (paths : List Form) (table : List ℕ) where
  unfoldable pub follow_of : List Entry
  unfolding first_sets follow_sets
  follow_of = follow_sets g (first_sets g n) n

  unfoldable pub useful_of : List ℕ
  unfolding productives usefuls
  useful_of = usefuls g (productives g n) n

  unfoldable pub table_test : Bool
  unfolding below held_test claims_at follow_of moves_in
  table_test =
      below (length table) (λ i. held_test (claims_at g n paths (moves_in table) follow_of i) (get_or table i empty_cell))

  -- what is computed of a grammar, its paths and its table, in n passes where passes are made
  pub record Worked : Type 0 where
    pub formed : T (form_test g)
    pub productive : T (has (productives g n) g.start)
    pub useful : T (below g.nonterminals (has useful_of))
    pub first : T (first_test g (first_sets g n))
    pub follow : T (follow_test g (first_sets g n) follow_of)
    pub states : Tested g n paths (moves_in table)
    pub sized : T (eqb (length table) (columns_of g * length paths))
    pub right : T table_test

  module _ (worked : Worked) where
    pub worked_formed : WellFormed g
    worked_formed = form_tested g worked.formed

    pub worked_useful_lem : (A : ℕ) → A < g.nonterminals → Useful g A
    unfolding useful_of
    worked_useful_lem A h =
        has_every (Useful g) (usefuls_sound g (productives_sound g n) worked.productive n) A
        (below_each g.nonterminals (has useful_of) worked.useful A h)

    reachable_left : Every (λ r. Reachable g r.left) g.productions
    reachable_left =
        every_map (λ r q. useful_reachable (worked_useful_lem r.left (worked_formed.left_known q.rule))) (ruled g)

    worked_follow_lem : (A : ℕ) (c : Column) → In follow_of A c ↔ FollowOf g A c
    unfolding follow_of
    worked_follow_lem =
        follow_exact (first_test_closed g (first_sets g n) worked.first)
        (λ A c. in_every (FollowOf g) A c (follow_sets_sound g (first_sets_sound g n) reachable_left n))
        (follow_test_closed g (first_sets g n) follow_of worked.follow)

    pub worked_numbered : NumberedStates g paths
    worked_numbered =
        record { cells = moves_in table; found = tested_numbering g n paths (moves_in table) worked.states }

    pub worked_table : SlrTableOf g paths table
    unfolding table_test
    worked_table =
        tested_table g n paths (moves_in table) follow_of (tested_numbering g n paths (moves_in table) worked.states)
        worked.states.closed worked_follow_lem table worked.sized worked.right
