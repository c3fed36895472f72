-- The members of a set as columns: FIRST has no end mark, so there the end mark's column stands for the empty string; FOLLOW and
-- lookahead have no empty string.
use mathlib.Core.Path.{◌≡◌, sym}
use mathlib.Core.Bool.{true}
use mathlib.Core.List.{List, [], ◌∷◌}
use Prim.Native.Nat.{ℕ, ◌<◌}
use lib.ListN.{get_or}
use Rattle.grammar.specs.declared.Symbol.TheVariants.{Nonterminal}
use Rattle.grammar.specs.Grammar.{Grammar, Column, token, endmark, Member, column, empty, nothing, each, known_nonterminal, WellFormed}
use Rattle.grammar.specs.Grammar.{First, Follow}
use Rattle.grammar.specs.Next.{merged}
use Rattle.grammar.proofs.Join.{End, ended}
use Rattle.grammar.proofs.Sets.{FirstOf, FollowOf, first_not_end, follow_not_empty}
use Rattle.sets.specs.Sets.{empty_string, member, only}
use Rattle.first.specs.Numbers.{place_of, At}
use Rattle.first.specs.Trail.{Inside, FirstSound}
use Rattle.first.proofs.Known.{first_known}
use Rattle.first.proofs.Joins.{Reason, Reasons, Covers, ProperFamily, only_one, only_there}

pub reasons_inside : (mark : Column → Member) (P : Member → Type 0) {K : Column → Type 0} {x : ℕ}
    → ((c : Column) → K c → P (mark c))
    → Reasons mark K x
    → Inside P x
reasons_inside mark P f h = record { reason = λ k m. let r = h.reason k m in record { member = mark r.column; place = r.place; in_set = f r.column r.holds } }

pub at_merged : (P : Member → Type 0) → ¬ P (column endmark) → {k : ℕ} → At P k → Reason merged (λ c. P (merged c)) k
at_merged P n {k} a = go a.member a.place a.in_set
  where
    go : (m : Member) → place_of m ≡ k → P m → Reason merged (λ c. P (merged c)) k
    go (column (token t)) e h = record { column = token t; place = e; holds = h }
    go (column endmark) e h = absurd (n h)
    go empty e h = record { column = endmark; place = e; holds = h }

pub at_column : (P : Member → Type 0) → ¬ P empty → {k : ℕ} → At P k → Reason column (λ c. P (column c)) k
at_column P n {k} a = go a.member a.place a.in_set
  where
    go : (m : Member) → place_of m ≡ k → P m → Reason column (λ c. P (column c)) k
    go (column c) e h = record { column = c; place = e; holds = h }
    go empty e h = absurd (n h)

module _ {g : Grammar} where
  pub first_reasons : {fs : List ℕ} → FirstSound g fs → (A : ℕ) → A < g.nonterminals → Reasons merged (FirstOf g A) (get_or fs A 0)
  first_reasons s A a = record { reason = λ k m. at_merged (First g (Nonterminal A ∷ [])) first_not_end ((s.each A a).reason k m) }

  pub follow_reasons : {A x : ℕ} → Inside (Follow g A) x → Reasons column (FollowOf g A) x
  follow_reasons {A} h = record { reason = λ k m. at_column (Follow g A) follow_not_empty (h.reason k m) }

  pub first_proper : WellFormed g → ProperFamily g (FirstOf g)
  first_proper well = record { proper = λ A t a f. first_known well (each (known_nonterminal a) nothing) f }

pub end_reasons : Reasons merged End (only empty_string)
end_reasons = record { reason = λ k m. record { column = endmark; place = sym (only_one k empty_string m); holds = ended } }

pub end_covers : Covers merged End (only empty_string)
end_covers = record { covered = go }
  where
    go : (c : Column) → End c → member (place_of (merged c)) (only empty_string) ≡ true
    go (token _) x'' = elim x'' [ ]
    go endmark ended = only_there empty_string
