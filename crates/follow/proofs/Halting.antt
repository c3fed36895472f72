-- Trails that halt: a token does not vanish, nothing behind a form that halts counts, and larger sets make a larger trail.
use mathlib.Core.Path.{◌≡◌, sym, ap, ◌∙◌}
use mathlib.Core.List.{List, [], ◌∷◌}
use Prim.Native.Nat.{ℕ, zero, suc, ◌<◌}
use native.Mathlib.Omega.{arith}
use borrow.Author.Tests.{ne_eqb}
use lib.ListN.{drop, get_or}
use Rattle.grammar.specs.declared.Symbol.TheVariants.{Token, Nonterminal}
use Rattle.grammar.specs.Grammar.{Form}
use Rattle.sets.specs.declared.Set.{Set}
use Rattle.sets.specs.Sets.{end_mark, empty_string, Subset, only, joined}
use Rattle.sets.specs.Calls.{number, Single}
use Rattle.sets.proofs.Promise.{single_is, member_only, join_monotone}
use Rattle.first.specs.Trail.{token_set, symbol_set, trail, Grown}
use Rattle.first.proofs.Promise.{token_set_lem, join_stops}
use Rattle.follow.specs.Walks.{Halts, halts_here, halts_later}

pub single_end : {r : Set} → Single end_mark r → number r ≡ only end_mark
single_end = single_is (omega arith)

pub join_token : {t : ℕ} → t < end_mark → (y : ℕ) → joined empty_string (token_set t) y ≡ token_set t
join_token {t} h y = rw (token_set_lem {t = t} (omega arith)) (join_stops (only t) y (member_only empty_string t ∙ ne_eqb empty_string t (λ same. omega arith)))

-- nothing behind a form that halts counts
pub halts_same : {fs : List ℕ} {v : Form} → Halts fs v → (k l : ℕ) → trail fs k v ≡ trail fs l v
unfolding trail
halts_same {fs} (halts_here {s = s} {α = α} e) k l = join_stops (symbol_set fs s) (trail fs k α) e ∙ sym (join_stops (symbol_set fs s) (trail fs l α) e)
halts_same {fs} (halts_later {s = s} h) k l = ap (joined empty_string (symbol_set fs s)) (halts_same h k l)

pub halts_dropped : {fs : List ℕ} (n : ℕ) (β : Form) → Halts fs (drop n β) → Halts fs β
halts_dropped zero β h = h
halts_dropped (suc n) [] h = h
halts_dropped (suc n) (s ∷ β) h = halts_later (halts_dropped n β h)

-- larger sets make a larger trail
module _ {fs gs : List ℕ} (grown : Grown fs gs) (k l : ℕ) (behind : Subset k l) where
  pub trail_monotone : (α : Form) → Subset (trail fs k α) (trail gs l α)
  unfolding trail symbol_set
  trail_monotone [] = behind
  trail_monotone (Token t ∷ α) = join_monotone empty_string (token_set t) (token_set t) (trail fs k α) (trail gs l α) (λ j m. m) (trail_monotone α)
  trail_monotone (Nonterminal A ∷ α) = join_monotone empty_string (get_or fs A 0) (get_or gs A 0) (trail fs k α) (trail gs l α) (grown.keeps A) (trail_monotone α)
