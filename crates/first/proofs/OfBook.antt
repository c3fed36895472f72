-- An outcome that goes by the book: made from its refusal, or from the grammar that it serves, and so determined.
use mathlib.Core.Path.{subst}
use mathlib.Core.List.{List}
use Prim.Native.Nat.{ℕ}
use Rattle.grammar.specs.Grammar.{Grammar}
use Rattle.answers.specs.declared.Answer.{Answer}
use Rattle.answers.proofs.Promise.{Unique}
use Rattle.book.specs.Judging.{Refuses, Serves}
use Rattle.book.proofs.Promise.{refuses_unique, serves_unique, refuses_not_serves}

-- the outcome is made from the refusal of a book that is refused, or from the grammar of one that serves
pub data OfBook (book : List ℕ) {X : Type 0} (R : Answer → X → Type 0) (S : Grammar → X → Type 0) (x : X) : Type 0 where
  of_refusal : {a : Answer} → Refuses book a → R a x → OfBook book R S x
  of_grammar : {g : Grammar} → Serves book g → S g x → OfBook book R S x

pub of_book_unique : {book : List ℕ} {X : Type 0} {R : Answer → X → Type 0} {S : Grammar → X → Type 0}
    → ((a : Answer) → Unique (R a))
    → ((g : Grammar) → Unique (S g))
    → Unique (OfBook book R S)
of_book_unique {R = R} r s x y (of_refusal {a = a} h c) (of_refusal k d) = r a x y c (subst (λ b. R b y) (refuses_unique k h) d)
of_book_unique r s x y (of_refusal h c) (of_grammar k d) = absurd (refuses_not_serves h k)
of_book_unique r s x y (of_grammar h c) (of_refusal k d) = absurd (refuses_not_serves k h)
of_book_unique {S = S} r s x y (of_grammar {g = g} h c) (of_grammar k d) = s g x y c (subst (λ b. S b y) (serves_unique k h) d)
