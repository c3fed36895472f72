-- The members of a trail are those of the textbook's join: each has its column, and each column has its member.
-- A mark says which member a column stands for: in FIRST the end mark's column stands for the empty string.
use mathlib.Core.Path.{◌≡◌, refl, sym, ◌∙◌}
use mathlib.Core.Bool.{true}
use mathlib.Core.Logic.{◌≢◌, ⊎_elim}
use mathlib.Core.List.{List, [], ◌∷◌}
use Prim.Native.Nat.{ℕ, ◌<◌}
use native.Mathlib.Omega.{arith}
use borrow.Author.Tests.{eq-eqb, eqb-true}
use lib.ListN.{get_or}
use Rattle.grammar.specs.declared.Symbol.TheVariants.{Token, Nonterminal}
use Rattle.grammar.specs.Grammar.{Form, Grammar, Column, token, endmark, Member, Every, nothing, each, Known, known_token}
use Rattle.grammar.specs.Grammar.{known_nonterminal}
use Rattle.grammar.specs.Next.{merged}
use Rattle.grammar.proofs.Join.{Family, Join, over, here, begins, past}
use Rattle.sets.specs.Sets.{empty_string, member, only}
use Rattle.sets.proofs.Promise.{member_only, join_keep, join_skip, join_cases}
use Rattle.reader.specs.Book.{Limits}
use Rattle.first.specs.Numbers.{place_of}
use Rattle.first.specs.Trail.{trail, symbol_set}
use Rattle.first.proofs.Trail.{token_set_lem}

-- a column of the set stands at place k
pub record Reason (mark : Column → Member) (K : Column → Type 0) (k : ℕ) : Type 0 where
  pub column : Column
  pub place : place_of (mark column) ≡ k
  pub holds : K column

-- each member of the number has its column in the set
pub record Reasons (mark : Column → Member) (K : Column → Type 0) (x : ℕ) : Type 0 where
  pub reason : (k : ℕ) → member k x ≡ true → Reason mark K k

-- each column of the set has its member in the number
pub record Covers (mark : Column → Member) (K : Column → Type 0) (x : ℕ) : Type 0 where
  pub covered : (c : Column) → K c → member (place_of (mark c)) x ≡ true

pub only_there : (t : ℕ) → member t (only t) ≡ true
only_there t = member_only t t ∙ eq-eqb t t refl

pub only_one : (k t : ℕ) → member k (only t) ≡ true → k ≡ t
only_one k t h = eqb-true k t (sym (member_only k t) ∙ h)

-- the tokens of a family are those of the grammar
pub record ProperFamily (g : Grammar) (F : Family) : Type 0 where
  pub proper : (A t : ℕ) → A < g.nonterminals → F A (token t) → t < g.tokens

module _ {g : Grammar} (limits : Limits g) {F : Family} (family : ProperFamily g F) (fs : List ℕ) where
  token_place : {A t : ℕ} → A < g.nonterminals → F A (token t) → t ≢ empty_string
  token_place {A} {t} a f = omega (arith, limits.tokens_fit, family.proper A t a f)

  -- each member of the trail has its column in the join
  module _ (words : (A : ℕ) → A < g.nonterminals → Reasons merged (F A) (get_or fs A 0)) {K : Column → Type 0} {k : ℕ}
      (mark : Column → Member) (at_token : (t : ℕ) → place_of (mark (token t)) ≡ t) (behind : Reasons mark K k) where
    begun : {A : ℕ} (α : Form) {j : ℕ} → Reason merged (F A) j → j ≢ empty_string → Reason mark (Join F K (Nonterminal A ∷ α)) j
    begun {A} α {j} r d = go r.column r.place r.holds
      where
        go : (c : Column) → place_of (merged c) ≡ j → F A c → Reason mark (Join F K (Nonterminal A ∷ α)) j
        go (token t) e h = record { column = token t; place = at_token t ∙ e; holds = begins h }
        go endmark e h = absurd (d (sym e))

    vanished : {A : ℕ} → A < g.nonterminals → Reason merged (F A) empty_string → F A endmark
    vanished {A} a r = go r.column r.place r.holds
      where
        go : (c : Column) → place_of (merged c) ≡ empty_string → F A c → F A endmark
        go (token t) e f = absurd (token_place a f e)
        go endmark e f = f

    passed : {A : ℕ} {α : Form} {j : ℕ} → F A endmark → Reason mark (Join F K α) j → Reason mark (Join F K (Nonterminal A ∷ α)) j
    passed v r = record { column = r.column; place = r.place; holds = past v r.holds }

    trail_reason : (α : Form) → Every (Known g) α → (j : ℕ) → member j (trail fs k α) ≡ true → Reason mark (Join F K α) j
    unfolding trail symbol_set
    trail_reason [] nothing j m = let r : Reason mark K j = behind.reason j m in record { column = r.column; place = r.place; holds = over r.holds }
    trail_reason (Token t ∷ α) (each (known_token h) rest) j m =
        ⊎_elim (λ l. record { column = token t; place = at_token t ∙ sym (only_one j t l.0); holds = here }) (λ r. absurd (omega (arith, limits.tokens_fit, only_one empty_string t r.0)))
        (join_cases empty_string j (only t) (trail fs k α) (rw (token_set_lem {t = t} (omega (arith, limits.tokens_fit))) at m))
    trail_reason (Nonterminal A ∷ α) (each (known_nonterminal a) rest) j m =
        ⊎_elim (λ l. begun α ((words A a).reason j l.0) l.1) (λ r. passed (vanished a ((words A a).reason empty_string r.0)) (trail_reason α rest j r.1))
        (join_cases empty_string j (get_or fs A 0) (trail fs k α) m)

    pub trail_reasons : (α : Form) → Every (Known g) α → Reasons mark (Join F K α) (trail fs k α)
    trail_reasons α h = record { reason = trail_reason α h }

  -- each column of the join has its member in the trail
  module _ (words : (A : ℕ) → A < g.nonterminals → Covers merged (F A) (get_or fs A 0)) {K : Column → Type 0} {k : ℕ}
      (mark : Column → Member) (at_token : (t : ℕ) → place_of (mark (token t)) ≡ t) (behind : Covers mark K k) where
    trail_has : {α : Form} {c : Column} → Every (Known g) α → Join F K α c → member (place_of (mark c)) (trail fs k α) ≡ true
    unfolding trail symbol_set
    trail_has h (over {c = c} i) = behind.covered c i
    trail_has (each (known_token h) rest) (here {t = t} {α = α}) =
        rw (at_token, token_set_lem {t = t} (omega (arith, limits.tokens_fit))) (join_keep empty_string t (only t) (trail fs k α) (only_there t) (omega (arith, limits.tokens_fit)))
    trail_has (each (known_nonterminal a) rest) (begins {A = A} {t = t} {α = α} f) =
        rw at_token (join_keep empty_string t (get_or fs A 0) (trail fs k α) ((words A a).covered (token t) f) (token_place a f))
    trail_has (each (known_nonterminal a) rest) (past {A = A} {α = α} {c = c} f j) =
        join_skip empty_string (place_of (mark c)) (get_or fs A 0) (trail fs k α) ((words A a).covered endmark f) (trail_has rest j)

    pub trail_covers : (α : Form) → Every (Known g) α → Covers mark (Join F K α) (trail fs k α)
    trail_covers α h = record { covered = λ c j. trail_has h j }
