-- Sets made member by member, and families of them made set by set.
use mathlib.Core.Path.{◌≡◌, refl, sym, ◌∙◌, ap}
use mathlib.Core.Bool.{Bool, true, false, ◌&&◌, and-false, or-false, false≢true}
use mathlib.Core.Logic.{inl, inr, ⊎_elim}
use mathlib.Core.List.{List}
use Prim.Native.Nat.{ℕ, ◌+◌, ◌^◌, ◌≤◌, ◌<◌}
use native.Mathlib.Decide.{dec_lt, ℕ_discrete}
use native.Mathlib.Omega.{arith}
use lib.ListN.{length}
use borrow.Author.Count.{below_more}
use borrow.Author.Tests.{lt-ltb, le-ltb, ltb-true, eqb-true, eq-eqb}
use lib.Dec.{ltb, eqb}
use Rattle.grammar.specs.declared.Symbol.{Symbol}
use Rattle.grammar.specs.declared.Symbol.TheVariants.{Token, Nonterminal}
use Rattle.sets.specs.declared.Set.{Set}
use Rattle.sets.specs.Sets.{width, member, Subset, Exactly}
use Rattle.sets.specs.Calls.{number, None, Single, With, set_at, stored}
use Rattle.sets.proofs.Promise.{with_is, added_new, added_keep, added_cases, stored_length, stored_there, stored_elsewhere}
use Rattle.answers.specs.Limits.{most_productions}
use Rattle.reader.specs.Fields.{symbol_at}
use Rattle.book.specs.Closure.{Extended, Follows}
use Rattle.book.specs.Useful.{IsNumber, IsNonterminal, NamedAt, SetsOf}
use Rattle.book.proofs.Passes.{adds_nothing}

with_adds_nothing : {s r : Set} {bit : ℕ} → width ≤ bit → With s bit r → Extended (IsNumber bit) (number s) (number r)
with_adds_nothing {s} {r} {bit} past h =
    let same : (k : ℕ) → member k (number r) ≡ member k (number s) = λ k. h.members k ∙ rw (le-ltb bit width past, and-false, or-false) in
    record {
      fits = h.fits;
      keeps = λ k m. same k ∙ m;
      added = λ k one. absurd (omega (arith, one.same, one.fits));
      because = λ k m. inl (sym (same k) ∙ m);
    }

pub with_adds : {s r : Set} {bit : ℕ} → With s bit r → Extended (IsNumber bit) (number s) (number r)
with_adds {s} {r} {bit} h = go (dec_lt bit width)
  where
    go : Dec (bit < width) → Extended (IsNumber bit) (number s) (number r)
    go (no past) = with_adds_nothing (omega arith) h
    go (yes below) =
        let e = with_is below h in
        record {
          fits = h.fits;
          keeps = λ k m. rw e (added_keep k bit (number s) m);
          added = λ k one. rw (e, one.same) (added_new bit (number s));
          because = λ k m. ⊎_elim inl (λ same. inr (record { same = same; fits = omega arith })) (added_cases k bit (number s) (rw e at m));
        }

adds_alike : {P Q : ℕ → Type 0} {before after : ℕ} → ((k : ℕ) → P k → Q k) → ((k : ℕ) → Q k → P k) → Extended P before after → Extended Q before after
adds_alike to from h =
    record {
      fits = h.fits;
      keeps = h.keeps;
      added = λ k q. h.added k (from k q);
      because = λ k m. ⊎_elim inl (λ p. inr (to k p)) (h.because k m);
    }

pub token_names_none : {s : Symbol} {t before : ℕ} → s ≡ Token t → before < 2 ^ width → Extended (IsNonterminal s) before before
token_names_none e fits = adds_nothing fits (λ k named. let other = named.same in let bad : ◌≡◌ {A = ℕ} 0 1 = cc in omega arith)

pub nonterminal_names_one : {s : Symbol} {n before after : ℕ} → s ≡ Nonterminal n → Extended (IsNumber n) before after → Extended (IsNonterminal s) before after
nonterminal_names_one {s} {n} e h =
    adds_alike
    (λ k one. record { same = e ∙ ap Nonterminal (sym one.same); fits = one.fits })
    (λ k named. let other = named.same in record { same = cc; fits = named.fits })
    h

pub exactly_alike : {w x : ℕ} {P Q : ℕ → Type 0} → ((k : ℕ) → P k → Q k) → ((k : ℕ) → Q k → P k) → Exactly w x P → Exactly w x Q
exactly_alike to from exact =
    record {
      fits = exact.fits;
      sound = λ k m. to k (exact.sound k m);
      complete = λ k q. exact.complete k (from k q);
    }

pub none_exactly : {P : ℕ → Type 0} {r : Set} → None r → ((k : ℕ) → P k → ⊥) → Exactly width (number r) P
none_exactly none empty =
    record {
      fits = none.fits;
      sound = λ k m. absurd (false≢true (sym (none.members k) ∙ m));
      complete = λ k p. absurd (empty k p);
    }

both : (t u : Bool) → (t && u) ≡ true → (t ≡ true) × (u ≡ true)
both true u e = (refl, e)
both false u e = absurd (false≢true e)

pub single_exactly : {r : Set} {bit : ℕ} → Single bit r → Exactly width (number r) (IsNumber bit)
single_exactly {r} {bit} one =
    record {
      fits = one.fits;
      sound = λ k m.
          let (same, below) = both (eqb k bit) (ltb bit width) (sym (one.members k) ∙ m) in
          record { same = eqb-true k bit same; fits = omega (arith, eqb-true k bit same, ltb-true bit width below) };
      complete = λ k is. one.members k ∙ rw (eq-eqb k bit is.same, lt-ltb bit width (omega (arith, is.same, is.fits)));
    }

-- one symbol more of a right side
pub named_next : (b : List ℕ) {at i before after : ℕ} {s : Symbol} → s ≡ symbol_at b at i → Exactly width before (NamedAt b at i) → Extended (IsNonterminal s) before after → Exactly width after (NamedAt b at (i + 1))
named_next b {at} {i} {before} {after} {s} e exact adds =
    record {
      fits = adds.fits;
      sound = λ k m.
          ⊎_elim
          (λ old. let earlier = exact.sound k old in record { index = earlier.index; inside = omega (arith, earlier.inside); names = earlier.names })
          (λ new. record { index = i; inside = omega arith; names = rw e at new })
          (adds.because k m);
      complete = λ k named. by_index k named (ℕ_discrete named.index i);
    }
  where
    by_index : (k : ℕ) (named : NamedAt b at (i + 1) k) → Dec (named.index ≡ i) → member k after ≡ true
    by_index k named (yes same) = adds.added k (rw (e, ← same) named.names)
    by_index k named (no other) = adds.keeps k (exact.complete k (record { index = named.index; inside = omega (arith, named.inside); names = named.names }))

-- the members of a set that lies within another, and of one that does not
pub follows_whole : {input before : ℕ} → input < 2 ^ width → Subset input before → Exactly width input (Follows input input before)
follows_whole fits holds = record { fits = fits; sound = λ k m. record { holds = holds; gives = m }; complete = λ k h. h.gives }

module _ {P : ℕ → ℕ → Type 0} where
  pub filled_none : {sets : List ℕ} → length sets ≡ most_productions → SetsOf P 0 sets
  filled_none size = record { size = size; each = λ p none. absurd (omega arith) }

  pub filled_next : {n set : ℕ} {sets after : List ℕ} → n < most_productions → SetsOf P n sets → Exactly width set (P n) → after ≡ stored sets n set → SetsOf P (n + 1) after
  filled_next {n} {set} {sets} inside filled exact e =
      let there : n < length sets = omega (arith, filled.size) in
      rw e
      (record {
        size = stored_length sets n set ∙ filled.size;
        each =
            below_more _ n
            (λ p below. rw (stored_elsewhere sets n set p (λ same. omega arith)) (filled.each p below))
            (rw (stored_there sets n set there) exact);
      })

-- the sets below n are those of which the members follow, and the others are as they were
pub record Keeping (productive : ℕ) (before : List ℕ) (n : ℕ) (sets : List ℕ) : Type 0 where
  pub filled : SetsOf (λ p. Follows (set_at before p) (set_at before p) productive) n sets
  pub rest : (p : ℕ) → n ≤ p → set_at sets p ≡ set_at before p

module _ {productive : ℕ} {before : List ℕ} where
  pub keeping_none : length before ≡ most_productions → Keeping productive before 0 before
  keeping_none size = record { filled = filled_none size; rest = λ p _. refl }

  pub keeping_next : {n x set : ℕ} {sets after : List ℕ} → n < most_productions → Keeping productive before n sets → x ≡ set_at sets n → Exactly width set (Follows x x productive)
      → after ≡ stored sets n set → Keeping productive before (n + 1) after
  keeping_next {n} {x} {set} {sets} inside keeping same exact e =
      record {
        filled = filled_next inside keeping.filled (rw (same ∙ keeping.rest n (omega arith)) at exact) e;
        rest = λ p past. rw e (stored_elsewhere sets n set p (λ here. omega arith) ∙ keeping.rest p (omega arith));
      }
