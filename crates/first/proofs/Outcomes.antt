-- Any two outcomes that the promises of FIRST and of FIRST of a symbol string allow of the same inputs are equal.
use mathlib.Core.Path.{◌≡◌, refl, sym, ap, ◌∙◌, subst}
use mathlib.Core.List.{List, [], ◌∷◌, map}
use mathlib.Core.Option.{Option, some}
use Prim.Native.Nat.{ℕ, zero, suc, ◌<◌}
use native.Mathlib.Decide.{dec_lt}
use native.Mathlib.Omega.{arith}
use lib.ListN.{length, get_or}
use Rattle.std.specs.Prelude.{Result, Ok, Err}
use Rattle.grammar.specs.Grammar.{Form, Grammar, Member, First}
use Rattle.grammar.proofs.Vanishing.{vanishes_unique}
use Rattle.sets.specs.Calls.{number}
use Rattle.sets.proofs.Promise.{exactly_unique, number_unique}
use Rattle.answers.specs.declared.Answer.{Answer}
use Rattle.answers.specs.Answers.{refusal}
use Rattle.answers.specs.Refusals.{symbol}
use Rattle.answers.proofs.Promise.{Unique}
use Rattle.book.specs.declared.Index.{Index}
use Rattle.reader.specs.Book.{symbol_of}
use Rattle.book.specs.Judging.{Serves}
use Rattle.book.proofs.Promise.{refuses_unique, refuses_not_serves, serves_unique, indexes_unique}
use Rattle.first.specs.declared.forms.Trail.{Trail}
use Rattle.first.specs.Numbers.{FirstFamily}
use Rattle.first.specs.Calls.{FirstServed, FirstWorkedOut, FirstResult, SetFor, FirstStranger, FirstRefused, FirstTold, FirstOutcome}
use Rattle.first.specs.Calls as calls
use Rattle.first.proofs.Unique.{family_unique}

trail_same : (r s : Trail) → r.set ≡ s.set → r.vanishing ≡ s.vanishing → r ≡ s
trail_same r s q n = λ i. record { set = q i; vanishing = n i }

pub set_for_unique : {P : Member → Type 0} {g : Grammar} {α : Form} → Unique (SetFor P g α)
set_for_unique {α = α} r s h k =
    trail_same r s (number_unique (exactly_unique (number r.set) (number s.set) h.holds k.holds))
    (vanishes_unique α r.vanishing s.vanishing h.leading k.leading)

pub stranger_unique : {g : Grammar} {symbols : List ℕ} {i j : ℕ}
    → FirstStranger g symbols i
    → FirstStranger g symbols j
    → i ≡ j
stranger_unique {g} {symbols} {i} {j} a b = go (dec_lt i j) (dec_lt j i)
  where
    go : Dec (i < j) → Dec (j < i) → i ≡ j
    go (yes l) k = let (s, e) = b.earlier i l in absurd (a.stranger s e)
    go (no n) (yes l) = let (s, e) = a.earlier j l in absurd (b.stranger s e)
    go (no n) (no m) = omega arith

-- where each element has its image, the image at an index is one of them
pub mapped_at : {A : Type 0} (f : ℕ → Option A) (xs : List ℕ) (ys : List A)
    → map f xs ≡ map some ys
    → (i : ℕ)
    → i < length xs
    → (y : A) × (f (get_or xs i 0) ≡ some y)
mapped_at f [] ys e i h = absurd (omega arith)
mapped_at f (x ∷ xs) [] e i h = let bad : ◌≡◌ {A = ℕ} 0 1 = cc in absurd (omega arith)
mapped_at f (x ∷ xs) (y ∷ ys) e zero h = (y, cc)
mapped_at f (x ∷ xs) (y ∷ ys) e (suc i) h = mapped_at f xs ys (cc) i (omega arith)

pub images_unique : {A : Type 0} (xs ys : List A) → ◌≡◌ {A = List (Option A)} (map some xs) (map some ys) → xs ≡ ys
images_unique [] [] e = refl
images_unique [] (y ∷ ys) e = let bad : ◌≡◌ {A = ℕ} 0 1 = cc in absurd (omega arith)
images_unique (x ∷ xs) [] e = let bad : ◌≡◌ {A = ℕ} 0 1 = cc in absurd (omega arith)
images_unique (x ∷ xs) (y ∷ ys) e = let rest : xs ≡ ys = images_unique xs ys (cc) in cc

module _ (book symbols : List ℕ) where
  -- a string that spells a form has no stranger
  stranger_not_told : {g : Grammar} {i : ℕ} {t : Trail} → Serves book g → FirstStranger g symbols i → FirstTold book symbols t → ⊥
  stranger_not_told {g} s k told =
      let there = subst (λ (h : Grammar). map (symbol_of h.tokens h.nonterminals) symbols ≡ map some told.form) (serves_unique told.serves s) told.spelled in
      let (x, e) = mapped_at (symbol_of g.tokens g.nonterminals) symbols told.form there _ k.inside in
      k.stranger x e

  refused_not_told : {a : Answer} {t : Trail} → FirstRefused book symbols a → FirstTold book symbols t → ⊥
  refused_not_told (calls.refused r) told = refuses_not_serves r told.serves
  refused_not_told (calls.too_long s l) told = omega (arith, told.short)
  refused_not_told (calls.strange s l k) told = stranger_not_told s k told

  refused_unique : {a b : Answer} → FirstRefused book symbols a → FirstRefused book symbols b → a ≡ b
  refused_unique (calls.refused r) (calls.refused q) = refuses_unique r q
  refused_unique (calls.refused r) (calls.too_long s l) = absurd (refuses_not_serves r s)
  refused_unique (calls.refused r) (calls.strange s l k) = absurd (refuses_not_serves r s)
  refused_unique (calls.too_long s l) (calls.refused r) = absurd (refuses_not_serves r s)
  refused_unique (calls.too_long s l) (calls.too_long t m) = refl
  refused_unique (calls.too_long s l) (calls.strange t m k) = absurd (omega arith)
  refused_unique (calls.strange s l k) (calls.refused r) = absurd (refuses_not_serves r s)
  refused_unique (calls.strange s l k) (calls.too_long t m) = absurd (omega arith)
  refused_unique (calls.strange s l k) (calls.strange {i = j} t m h) =
      let there = subst (λ (g : Grammar). FirstStranger g symbols j) (serves_unique t s) h in
      ap (λ (i : ℕ). refusal symbol i 0) (stranger_unique k there)

  told_unique : {t u : Trail} → FirstTold book symbols t → FirstTold book symbols u → t ≡ u
  told_unique {t} {u} x y =
      let grammars : y.grammar ≡ x.grammar = serves_unique y.serves x.serves in
      let spelled = subst (λ (g : Grammar). map (symbol_of g.tokens g.nonterminals) symbols ≡ map some y.form) grammars y.spelled in
      let forms : y.form ≡ x.form = images_unique y.form x.form (sym spelled ∙ x.spelled) in
      let there = subst (λ (g : Grammar). SetFor (First g y.form) g y.form u) grammars y.told in
      set_for_unique t u x.told (subst (λ (α : Form). SetFor (First x.grammar α) x.grammar α u) forms there)

  pub first_outcome_unique : (r s : Result Trail Answer) → FirstOutcome book symbols r → FirstOutcome book symbols s → r ≡ s
  first_outcome_unique (Ok t) (Ok u) o p = ap Ok (told_unique o p)
  first_outcome_unique (Ok t) (Err a) o p = absurd (refused_not_told p o)
  first_outcome_unique (Err a) (Ok t) o p = absurd (refused_not_told o p)
  first_outcome_unique (Err a) (Err b) o p = ap Err (refused_unique o p)

-- FIRST of the grammar that a book serves
module _ {book x y : List ℕ} where
  served_unique : {i j : Index} → FirstServed book x i → FirstServed book y j → (i ≡ j) × (x ≡ y)
  served_unique a b =
      let there = subst (λ (g : Grammar). FirstFamily g y) (serves_unique b.given.serves a.given.serves) b.family in
      (indexes_unique a.given b.given, family_unique x y a.family there)

pub first_worked_out_unique : (book : List ℕ) {x y : List ℕ} (r s : Result Index Answer)
    → FirstWorkedOut book r x
    → FirstWorkedOut book s y
    → ◌≡◌ {A = FirstResult} (r, x) (s, y)
first_worked_out_unique book (Ok i) (Ok j) o p = let (indexes, families) = served_unique o p in λ k. (Ok (indexes k), families k)
first_worked_out_unique book (Ok i) (Err a) o p = absurd (refuses_not_serves p.0 o.given.serves)
first_worked_out_unique book (Err a) (Ok i) o p = absurd (refuses_not_serves o.0 p.given.serves)
first_worked_out_unique book (Err a) (Err b) o p =
    let answers = refuses_unique o.0 p.0 in
    let families = o.1 ∙ sym p.1 in
    λ k. (Err (answers k), families k)
