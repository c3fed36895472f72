-- House book H carried through every definition, so that no premise of a theorem is empty.
use mathlib.Core.Path.{◌≡◌, refl}
use mathlib.Core.Logic.{◌↔◌}
use mathlib.Core.List.{List, [], ◌∷◌, map}
use mathlib.Core.Option.{Option, some, none}
use Prim.Native.Nat.{ℕ, ◌<◌}
use lib.Dec.{T}
use Rattle.grammar.specs.declared.Symbol.TheVariants.{Nonterminal}
use Rattle.grammar.specs.Grammar.{Column, token, endmark, Every, Derivable, done, shift, Complete, Productive, Reachable, Useful, WellFormed, Conflict}
use Rattle.grammar.specs.Grammar as textbook
use Rattle.grammar.specs.House.{house}
use Rattle.grammar.specs.Machine.{Exact, Accepts, Run, here, match, expand, Stopped, vacant, Longest}
use Rattle.grammar.proofs.Sets.{FirstOf, FollowOf}
use Rattle.grammar.proofs.Every.{every_map}
use Rattle.grammar.proofs.Theorems.{first_exact, follow_exact, useful_reachable, accepts_exactly, exact_no_conflict, viable_prefix, stopped_not_derivable}
use Rattle.grammar.proofs.Tests.{below, below_each}
use Rattle.grammar.proofs.Worked.{Entry, In, row_of, first_sets, first_test, follow_sets, follow_test, first_sets_sound, first_test_closed, follow_sets_sound, follow_test_closed, in_every, ruled}
use Rattle.grammar.proofs.WorkedCells.{worked_cell, conflict_test, conflict_test_exact}
use Rattle.grammar.proofs.WorkedUseful.{productives, usefuls, productive_test, useful_test, productives_sound, usefuls_sound, productives_exact, usefuls_exact, has, has_every}
use Rattle.grammar.proofs.WorkedForm.{form_test, form_tested}

pub house_well_formed : WellFormed house
unfolding house form_test
house_well_formed = form_tested house tt

unfoldable pub house_productive : List ℕ
unfolding house productives
house_productive = productives house 3

pub house_productive_exact : (A : ℕ) → T (has house_productive A) ↔ Productive house A
unfolding house house_productive productive_test
house_productive_exact = productives_exact house (productives_sound house 3) tt

unfoldable pub house_useful : List ℕ
unfolding house productives usefuls
house_useful = usefuls house (productives house 3) 3

all_useful : Every (Useful house) house_useful
unfolding house_useful
all_useful = usefuls_sound house (productives_sound house 3) tt 3

pub house_useful_exact : (A : ℕ) → T (has house_useful A) ↔ Useful house A
unfolding house house_useful productive_test useful_test
house_useful_exact = usefuls_exact house (productives_sound house 3) tt all_useful tt

-- every nonterminal of H is useful
pub house_useful_lem : (A : ℕ) → A < house.nonterminals → Useful house A
unfolding house house_useful has below
house_useful_lem A h = has_every (Useful house) all_useful A (below_each 4 (has house_useful) tt A h)

unfoldable pub house_first : List Entry
unfolding house first_sets
house_first = first_sets house 3

unfoldable pub house_follow : List Entry
unfolding house house_first follow_sets
house_follow = follow_sets house house_first 3

pub house_first_exact : (A : ℕ) (c : Column) → In house_first A c ↔ FirstOf house A c
unfolding house house_first first_test
house_first_exact = first_exact (λ A c. in_every (FirstOf house) A c (first_sets_sound house 3)) (first_test_closed house house_first tt)

reachable_left : Every (λ r. Reachable house r.left) house.productions
reachable_left = every_map (λ r q. useful_reachable (house_useful_lem r.left (house_well_formed.left_known q.rule))) (ruled house)

pub house_follow_exact : (A : ℕ) (c : Column) → In house_follow A c ↔ FollowOf house A c
unfolding house house_first house_follow first_test follow_test
house_follow_exact =
    follow_exact (first_test_closed house house_first tt)
    (λ A c. in_every (FollowOf house) A c (follow_sets_sound house (first_sets_sound house 3) reachable_left 3))
    (follow_test_closed house house_first house_follow tt)

-- the sets that 01 lists, the end mark of FIRST standing for the empty string
pub house_first_rows : map (λ A. row_of A house_first) (0 ∷ 1 ∷ 2 ∷ 3 ∷ []) ≡ (token 0 ∷ []) ∷ (token 1 ∷ []) ∷ (endmark ∷ token 2 ∷ []) ∷ (endmark ∷ token 3 ∷ []) ∷ []
unfolding house_first
house_first_rows = refl

pub house_follow_rows : map (λ A. row_of A house_follow) (0 ∷ 1 ∷ 2 ∷ 3 ∷ []) ≡ (endmark ∷ []) ∷ (endmark ∷ []) ∷ (endmark ∷ token 3 ∷ []) ∷ (endmark ∷ []) ∷ []
unfolding house_first house_follow
house_follow_rows = refl

-- the rows of the table of H, column by column
unfoldable pub house_cell : ℕ → Column → Option ℕ
unfolding house house_first house_follow worked_cell
house_cell = worked_cell house house_first house_follow

pub house_exact : Exact house house_cell
unfolding house house_first house_follow house_cell conflict_test
house_exact = conflict_test_exact house house_first house_follow house_first_exact house_follow_exact tt

pub house_no_conflict : ¬ Conflict house
house_no_conflict = exact_no_conflict house_exact

abbrev columns : List Column
columns = token 0 ∷ token 1 ∷ token 2 ∷ token 3 ∷ endmark ∷ []

abbrev row : ℕ → List (Option ℕ)
row A = map (house_cell A) columns

-- the table that 01 lists
pub house_table_lem : map row (0 ∷ 1 ∷ 2 ∷ 3 ∷ []) ≡ (some 0 ∷ none ∷ none ∷ none ∷ none ∷ []) ∷ (none ∷ some 1 ∷ none ∷ none ∷ none ∷ []) ∷ (none ∷ none ∷ some 2 ∷ some 3 ∷ some 3 ∷ []) ∷ (none ∷ none ∷ none ∷ some 4 ∷ some 5 ∷ []) ∷ []
unfolding house_cell
house_table_lem = refl

-- restore name, as in example D
pub house_derivation : Complete house (0 ∷ 1 ∷ 3 ∷ 5 ∷ []) (0 ∷ 1 ∷ [])
unfolding house
house_derivation =
    textbook.expand (record { at = refl }) (shift (textbook.expand (record { at = refl }) (shift (textbook.expand (record { at = refl }) (textbook.expand (record { at = refl }) done)))))

pub house_accepts : Accepts house house_cell (0 ∷ 1 ∷ []) (0 ∷ 1 ∷ 3 ∷ 5 ∷ [])
house_accepts = (accepts_exactly house_exact).1 house_derivation

-- restore name name, as in example F: the machine stops after two tokens
house_reads : Run house house_cell (1 ∷ []) (Nonterminal 0 ∷ []) (0 ∷ 1 ∷ []) (0 ∷ 1 ∷ []) (Nonterminal 2 ∷ Nonterminal 3 ∷ [])
unfolding house house_cell
house_reads = expand refl (record { at = refl }) (match (expand refl (record { at = refl }) (match here)))

house_stops : Stopped house house_cell (Nonterminal 2 ∷ Nonterminal 3 ∷ []) (1 ∷ [])
unfolding house_cell
house_stops = vacant refl

pub house_place : Longest house (0 ∷ 1 ∷ 1 ∷ []) 2
unfolding house
house_place = viable_prefix house_exact house_reads house_stops house_well_formed house_useful_lem

pub house_not_derivable : ¬ Derivable house (0 ∷ 1 ∷ 1 ∷ [])
unfolding house
house_not_derivable = stopped_not_derivable house_exact house_reads house_stops
