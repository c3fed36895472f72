-- FIRST of two symbol strings put together, as the calls answer it: where both parts are done, the whole is done with
-- the join of their sets, and where the whole is done, so are both parts.
use mathlib.Core.Path.{◌≡◌, refl, sym, ◌∙◌, subst}
use mathlib.Core.List.{List, [], ◌∷◌, ◌++◌, map}
use mathlib.Core.Option.{Option, some}
use Prim.Native.Nat.{ℕ, ◌≤◌}
use native.Mathlib.Omega.{arith}
use lib.ListN.{length}
use Rattle.std.specs.Prelude.{Result, Ok, Err, IsOk, IsOkAnd}
use Rattle.grammar.specs.Grammar.{Form, Grammar, Every, nothing, each, Known, First}
use Rattle.sets.specs.Sets.{empty_string, joined}
use Rattle.sets.specs.Calls.{number}
use Rattle.sets.proofs.Promise.{exactly_unique}
use Rattle.answers.specs.declared.Answer.{Answer}
use Rattle.answers.specs.Limits.{most_symbols}
use Rattle.reader.specs.Book.{symbol_of}
use Rattle.reader.proofs.Promise.{symbol_of_known}
use Rattle.book.specs.Judging.{Serves}
use Rattle.book.proofs.Promise.{serves_unique, serves_limits, refuses_not_serves}
use Rattle.first.specs.declared.forms.Trail.{Trail}
use Rattle.first.specs.Numbers.{IsSet}
use Rattle.first.specs.Calls.{FirstRefused, FirstTold, FirstOutcome}
use Rattle.first.specs.Calls as calls
use Rattle.first.specs.Joined.{FirstJoined}
use Rattle.first.proofs.Outcomes.{mapped_at, images_unique}
use Rattle.first.proofs.Joined.{first_joined}

-- the bytes spell the form in the grammar
abbrev pub SpellsIn : Grammar → List ℕ → Form → Type 0
SpellsIn g symbols α = map (symbol_of g.tokens g.nonterminals) symbols ≡ map some α

-- a string that spells a form has symbols of the grammar only
pub spelled_known : {g : Grammar} (symbols : List ℕ) (α : Form) → SpellsIn g symbols α → Every (Known g) α
spelled_known [] [] e = nothing
spelled_known [] (s ∷ α) e = let bad : ◌≡◌ {A = ℕ} 0 1 = cc in absurd (omega arith)
spelled_known (b ∷ symbols) [] e = let bad : ◌≡◌ {A = ℕ} 0 1 = cc in absurd (omega arith)
spelled_known {g} (b ∷ symbols) (s ∷ α) e =
    let here : symbol_of g.tokens g.nonterminals b ≡ some s = cc in
    each (symbol_of_known b here).1 (spelled_known symbols α (cc))

module _ {book : List ℕ} (symbols : List ℕ) (α : Form) where
  -- a short string that spells a form is served
  first_served : {g : Grammar}
      → Serves book g
      → length symbols ≤ most_symbols
      → SpellsIn g symbols α
      → (r : Result Trail Answer)
      → FirstOutcome book symbols r
      → IsOkAnd r (λ t. IsSet (number t.set) (First g α))
  first_served s short spelled (Err a) o = refused o
    where
      refused : {b : Answer} → FirstRefused book symbols b → ⊥
      refused (calls.refused x) = refuses_not_serves x s
      refused (calls.too_long s' l) = omega arith
      refused (calls.strange {g = g'} {i = i} s' l k) =
          let there = subst (λ (x : Grammar). SpellsIn x symbols α) (serves_unique s s') spelled in
          let (x, e) = mapped_at (symbol_of g'.tokens g'.nonterminals) symbols α there i k.inside in
          k.stranger x e
  first_served {g} s short spelled (Ok t) o =
      let same : o.grammar ≡ g = serves_unique o.serves s in
      let there : SpellsIn g symbols o.form = subst (λ (x : Grammar). SpellsIn x symbols o.form) same o.spelled in
      let form : o.form ≡ α = images_unique o.form α (sym there ∙ spelled) in
      subst (λ (β : Form). IsSet (number t.set) (First g β)) form
      (subst (λ (x : Grammar). IsSet (number t.set) (First x o.form)) same o.told.holds)

-- a string that spells α before one that spells β spells both
spells_both : {A : Type 0} (f : ℕ → Option A) (xs ys : List ℕ) (α β : List A)
    → map f xs ≡ map some α
    → map f ys ≡ map some β
    → map f (xs ++ ys) ≡ map some (α ++ β)
spells_both f [] ys [] β e d = d
spells_both f [] ys (s ∷ α) β e d = let bad : ◌≡◌ {A = ℕ} 0 1 = cc in absurd (omega arith)
spells_both f (x ∷ xs) ys [] β e d = let bad : ◌≡◌ {A = ℕ} 0 1 = cc in absurd (omega arith)
spells_both f (x ∷ xs) ys (s ∷ α) β e d =
    let rest : map f (xs ++ ys) ≡ map some (α ++ β) = spells_both f xs ys α β (cc) d in
    cc

-- what a string spells is spelled part by part
record Parts {A : Type 0} (f : ℕ → Option A) (xs ys : List ℕ) : Type 0 where
  left : List A
  right : List A
  spells_left : map f xs ≡ map some left
  spells_right : map f ys ≡ map some right

spells_parts : {A : Type 0} (f : ℕ → Option A) (xs ys : List ℕ) (γ : List A)
    → map f (xs ++ ys) ≡ map some γ
    → Parts f xs ys
spells_parts f [] ys γ e = record { left = []; right = γ; spells_left = refl; spells_right = e }
spells_parts f (x ∷ xs) ys [] e = let bad : ◌≡◌ {A = ℕ} 0 1 = cc in absurd (omega arith)
spells_parts f (x ∷ xs) ys (s ∷ γ) e =
    let rest = spells_parts f xs ys γ (cc) in
    let behind = rest.spells_left in
    record { left = s ∷ rest.left; right = rest.right; spells_left = cc; spells_right = rest.spells_right }

length_parts : (xs ys : List ℕ) → (length xs ≤ length (xs ++ ys)) × (length ys ≤ length (xs ++ ys))
length_parts [] ys = (omega arith, omega arith)
length_parts (x ∷ xs) ys = let (l, k) = length_parts xs ys in (omega arith, omega arith)

module _ {book : List ℕ} (xs ys : List ℕ) (short : length (xs ++ ys) ≤ most_symbols) where
  -- where both parts are done, the whole is done with the join of their sets
  pub first_of_joined : {r s : Trail}
      → FirstTold book xs r
      → FirstTold book ys s
      → (t : Result Trail Answer)
      → FirstOutcome book (xs ++ ys) t
      → FirstJoined r s t
  first_of_joined {r} {s} a b t q =
      let same : b.grammar ≡ a.grammar = serves_unique b.serves a.serves in
      let there = subst (λ (g : Grammar). SpellsIn g ys b.form) same b.spelled in
      let right = subst (λ (g : Grammar). IsSet (number s.set) (First g b.form)) same b.told.holds in
      let meaning = symbol_of a.grammar.tokens a.grammar.nonterminals in
      let whole = first_served (xs ++ ys) (a.form ++ b.form) a.serves short (spells_both meaning xs ys a.form b.form a.spelled there) t q in
      let known = spelled_known xs a.form a.spelled in
      let join = first_joined (serves_limits a.serves) a.form b.form known a.told.holds right in
      go a.grammar (a.form ++ b.form) t whole join
    where
      go : (g : Grammar) (α : Form) (t : Result Trail Answer)
          → IsOkAnd t (λ u. IsSet (number u.set) (First g α))
          → IsSet (joined empty_string (number r.set) (number s.set)) (First g α)
          → FirstJoined r s t
      go g α (Err b) none join = none
      go g α (Ok u) holds join = exactly_unique (number u.set) (joined empty_string (number r.set) (number s.set)) holds join

  -- where the whole is done, so are both parts
  pub first_of_split : {t : Trail}
      → FirstTold book (xs ++ ys) t
      → (r s : Result Trail Answer)
      → FirstOutcome book xs r
      → FirstOutcome book ys s
      → IsOk r × IsOk s
  first_of_split c r s o p =
      let meaning = symbol_of c.grammar.tokens c.grammar.nonterminals in
      let parts = spells_parts meaning xs ys c.form c.spelled in
      let (left_fits, right_fits) = length_parts xs ys in (
        done _ r (first_served xs parts.left c.serves (omega arith) parts.spells_left r o),
        done _ s (first_served ys parts.right c.serves (omega arith) parts.spells_right s p),
      )
    where
      done : (P : Trail → Type 0) (r : Result Trail Answer) → IsOkAnd r P → IsOk r
      done P (Ok t) holds = refl
      done P (Err a) none = absurd none
