-- The book of request W2: S → a B b, S → c B d, B → e, B → nothing. After a, only b and e can come, though B also stands before d.
use mathlib.Core.Path.{◌≡◌, refl, sym, subst}
use mathlib.Core.Logic.{◌↔◌, ◌⊎◌, inl, inr}
use mathlib.Core.List.{List, [], ◌∷◌}
use mathlib.Core.Option.{Option}
use Prim.Native.Nat.{ℕ, ◌<◌}
use native.Mathlib.Omega.{arith}
use Rattle.grammar.specs.declared.Symbol.TheVariants.{Token, Nonterminal}
use Rattle.grammar.specs.Grammar.{Form, Production, Grammar, Column, token, endmark, column, Every, nothing, each, Reachable, Useful, WellFormed, starts, vanishes}
use Rattle.grammar.specs.Machine.{Exact, Continues}
use Rattle.grammar.specs.Next.{matched, used, ConsumesAll, none_yet, one_more}
use Rattle.grammar.proofs.Derivation.{derives_rule}
use Rattle.grammar.proofs.Join.{here, begins, past}
use Rattle.grammar.proofs.Sets.{FirstOf, FollowOf}
use Rattle.grammar.proofs.Every.{every_map}
use Rattle.grammar.proofs.Useful.{useful_all}
use Rattle.grammar.proofs.Theorems.{first_exact, follow_exact, useful_reachable}
use Rattle.grammar.proofs.Tests.{below, below_each}
use Rattle.grammar.proofs.Worked.{Entry, In, first_sets, first_test, follow_sets, follow_test, first_sets_sound, first_test_closed, follow_sets_sound, follow_test_closed, in_every, ruled}
use Rattle.grammar.proofs.WorkedCells.{worked_cell, conflict_test, conflict_test_exact}
use Rattle.grammar.proofs.WorkedUseful.{productives, usefuls, productives_sound, usefuls_sound, has, has_every}
use Rattle.grammar.proofs.WorkedForm.{form_test, form_tested}
use Rattle.grammar.proofs.Next.{CanCome, can_come_next}

abbrev production : ℕ → Form → Production
production A β = record { left = A; right = β }

-- tokens 0 a, 1 b, 2 c, 3 d, 4 e
unfoldable pub between_grammar : Grammar
between_grammar =
    record {
      tokens = 5;
      nonterminals = 2;
      start = 0;
      productions =
          production 0 (Token 0 ∷ Nonterminal 1 ∷ Token 1 ∷ [])
          ∷ production 0 (Token 2 ∷ Nonterminal 1 ∷ Token 3 ∷ [])
          ∷ production 1 (Token 4 ∷ [])
          ∷ production 1 []
          ∷ [];
    }

between_well_formed : WellFormed between_grammar
unfolding between_grammar form_test
between_well_formed = form_tested between_grammar tt

between_useful : List ℕ
between_useful = usefuls between_grammar (productives between_grammar 2) 2

between_useful_lem : (A : ℕ) → A < between_grammar.nonterminals → Useful between_grammar A
unfolding between_grammar between_useful productives usefuls has below
between_useful_lem A h = has_every (Useful between_grammar) (usefuls_sound between_grammar (productives_sound between_grammar 2) tt 2) A (below_each 2 (has between_useful) tt A h)

unfoldable between_first : List Entry
unfolding between_grammar first_sets
between_first = first_sets between_grammar 2

unfoldable between_follow : List Entry
unfolding between_grammar between_first follow_sets
between_follow = follow_sets between_grammar between_first 2

between_first_exact : (A : ℕ) (c : Column) → In between_first A c ↔ FirstOf between_grammar A c
unfolding between_grammar between_first first_test
between_first_exact = first_exact (λ A c. in_every (FirstOf between_grammar) A c (first_sets_sound between_grammar 2)) (first_test_closed between_grammar between_first tt)

reachable_left : Every (λ r. Reachable between_grammar r.left) between_grammar.productions
reachable_left = every_map (λ r q. useful_reachable (between_useful_lem r.left (between_well_formed.left_known q.rule))) (ruled between_grammar)

between_follow_exact : (A : ℕ) (c : Column) → In between_follow A c ↔ FollowOf between_grammar A c
unfolding between_grammar between_first between_follow first_test follow_test
between_follow_exact =
    follow_exact (first_test_closed between_grammar between_first tt)
    (λ A c. in_every (FollowOf between_grammar) A c (follow_sets_sound between_grammar (first_sets_sound between_grammar 2) reachable_left 2))
    (follow_test_closed between_grammar between_first between_follow tt)

unfoldable pub between_cell : ℕ → Column → Option ℕ
unfolding between_grammar between_first between_follow worked_cell
between_cell = worked_cell between_grammar between_first between_follow

pub between_exact : Exact between_grammar between_cell
unfolding between_grammar between_first between_follow between_cell conflict_test
between_exact = conflict_test_exact between_grammar between_first between_follow between_first_exact between_follow_exact tt

-- with a matched, B and b stand on the stack
between_matched : ConsumesAll between_grammar between_cell (Nonterminal 0 ∷ []) (0 ∷ []) (0 ∷ []) (Nonterminal 1 ∷ Token 1 ∷ [])
unfolding between_grammar between_cell
between_matched = one_more (used refl (record { at = refl }) matched) none_yet

-- FIRST of B is e and the empty string
OfB : ℕ → Column → Type 0
OfB A c = A ≡ 1 → (c ≡ token 4) ⊎ (c ≡ endmark)

other_row : {c : Column} → ◌≡◌ {A = ℕ} 0 1 → (c ≡ token 4) ⊎ (c ≡ endmark)
other_row h = absurd (omega arith)

entries_of_b : Every (λ e. OfB e.row e.col) between_first
unfolding between_grammar between_first OfB
entries_of_b = each (λ h. inr refl) (each (λ h. inl refl) (each (λ h. other_row h) (each (λ h. other_row h) nothing)))

first_of_b : (c : Column) → FirstOf between_grammar 1 c → (c ≡ token 4) ⊎ (c ≡ endmark)
unfolding OfB
first_of_b c f = in_every OfB 1 c entries_of_b ((between_first_exact 1 c).1 f) refl

b_begins : FirstOf between_grammar 1 (token 4)
unfolding between_grammar
b_begins = starts [] (derives_rule {p = 2} (record { at = refl }))

b_vanishes : FirstOf between_grammar 1 endmark
unfolding between_grammar
b_vanishes = vanishes (derives_rule {p = 3} (record { at = refl }))

-- so B b goes on with e or b
abbrev Either : Column → Type 0
Either c = (c ≡ token 1) ⊎ (c ≡ token 4)

goes_on_so : {c : Column} → CanCome between_grammar (Nonterminal 1 ∷ Token 1 ∷ []) c → Either c
goes_on_so (begins {t = t} h) = go (first_of_b (token t) h)
  where
    go : (token t ≡ token 4) ⊎ (token t ≡ endmark) → Either (token t)
    go (inl e) = inr e
    go (inr e) = let bad : ◌≡◌ {A = ℕ} 0 1 = cc in absurd (omega arith)
goes_on_so (past h here) = inl refl

so_goes_on : {c : Column} → Either c → CanCome between_grammar (Nonterminal 1 ∷ Token 1 ∷ []) c
so_goes_on (inl e) = subst (λ (d : Column). CanCome between_grammar (Nonterminal 1 ∷ Token 1 ∷ []) d) (sym e) (past b_vanishes here)
so_goes_on (inr e) = subst (λ (d : Column). CanCome between_grammar (Nonterminal 1 ∷ Token 1 ∷ []) d) (sym e) (begins b_begins)

-- after a, exactly b and e can come
pub between_next : (c : Column) → Continues between_grammar (0 ∷ []) (column c) ↔ ((c ≡ token 1) ⊎ (c ≡ token 4))
unfolding between_grammar
between_next c =
    let next = can_come_next between_exact (useful_all between_well_formed between_useful_lem) between_matched c in
    (λ k. goes_on_so (next.1 k), λ e. next.0 (so_goes_on e))
