-- Whether a production breaks the profile, by the columns of an index, and the profile of a judged book.
use mathlib.Core.Path.{◌≡◌, sym, ◌∙◌, subst}
use mathlib.Core.Logic.{◌≢◌}
use mathlib.Core.Bool.{Bool, true, false}
use mathlib.Core.List.{List}
use Prim.Native.Nat.{ℕ, ◌≤◌, ◌<◌}
use native.Mathlib.Omega.{arith}
use lib.ListN.{get_or}
use Rattle.grammar.specs.Grammar.{Grammar}
use Rattle.grammar.specs.Plain.{Breaks, bare, named, again, Plain, LowestBreak}
use Rattle.grammar.proofs.Theorems.{plain_iff}
use Rattle.sets.specs.Calls.{Decides}
use Rattle.answers.specs.Answers.{done, refusal}
use Rattle.answers.specs.Lowest.{LowestAt}
use Rattle.answers.specs.Refusals.{profile}
use Rattle.answers.specs.declared.Answer.{Answer}
use Rattle.book.specs.declared.Index.{Index}
use Rattle.book.specs.Columns.{grammar_in}
use Rattle.book.specs.Judging.{Indexes}
use Rattle.book.proofs.Promise.{reading_grammar}
use Rattle.profile.specs.Breaking.{Shared, BreaksAt, PlainRefused, unfit}
use Rattle.profile.specs.Entering.{PlainBook}
use Rattle.profile.specs.Plain.{PlainOutcome}
use Rattle.profile.specs.Plain as plain
use Rattle.profile.proofs.Starts.{rule_inside, bare_breaks, named_breaks, shared_breaks, alone_keeps}

module _ {lefts lengths heads : List ℕ} {p n : ℕ} (length_is : n ≡ get_or lengths p 0) where
  pub breaks_empty : n ≡ 0 → BreaksAt lefts lengths heads p true
  breaks_empty none =
      record {
        decides = λ book index left size head inside lower.
            bare_breaks book index.places index.outline inside (sym (size.inside p inside) ∙ sym length_is ∙ none);
      }

  module _ (some_symbol : n ≢ 0) {m : ℕ} (head_is : m ≡ get_or heads p 0) where
    pub breaks_named : 128 ≤ m → BreaksAt lefts lengths heads p true
    breaks_named high =
        record {
          decides = λ book index left size head inside lower.
              named_breaks book index.places index.outline inside (λ e. some_symbol (length_is ∙ size.inside p inside ∙ e)) (omega (arith, head.inside p inside));
        }

    pub breaks_shared : m < 128 → {r : Bool} → Decides r (Shared lefts heads p) → BreaksAt lefts lengths heads p r
    breaks_shared low {r = true} shared =
        record {
          decides = λ book index left size head inside lower.
              shared_breaks book index.places index.outline inside (λ e. some_symbol (length_is ∙ size.inside p inside ∙ e)) (omega (arith, head.inside p inside)) shared.below
              (lower shared.lower shared.below)
              (sym (left.inside shared.lower (omega (arith, shared.below))) ∙ shared.alike.left ∙ left.inside p inside)
              (sym (head.inside shared.lower (omega (arith, shared.below))) ∙ shared.alike.head ∙ head.inside p inside);
        }
    breaks_shared low {r = false} alone =
        record {
          decides = λ book index left size head inside lower.
              alone_keeps book index.places index.outline inside (λ e. some_symbol (length_is ∙ size.inside p inside ∙ e)) (omega (arith, head.inside p inside))
              (λ q below l h. alone
              (record {
                lower = q;
                below = below;
                alike =
                    record {
                      left = left.inside q (omega arith) ∙ l ∙ sym (left.inside p inside);
                      head = head.inside q (omega arith) ∙ h ∙ sym (head.inside p inside);
                    };
              }));
        }

-- a grammar of which no production below P breaks the profile is plain
unbroken_plain : (book : List ℕ) (i : Index)
    → ((p : ℕ) → p < i.outline.productions → ¬ Breaks (grammar_in book i) p)
    → Plain (grammar_in book i)
unbroken_plain book i none = plain_iff.1 (λ p breaks. none p (broken_inside p breaks) breaks)
  where
    broken_inside : (p : ℕ) → Breaks (grammar_in book i) p → p < i.outline.productions
    broken_inside p (bare rule) = rule_inside book i.places i.outline rule
    broken_inside p (named rule) = rule_inside book i.places i.outline rule
    broken_inside p (again below lower rule) = rule_inside book i.places i.outline rule

-- the profile of an indexed book
module _ {book : List ℕ} {i : Index} (x : Indexes book i) where
  index_is : grammar_in book i ≡ x.grammar
  index_is = reading_grammar x.serves x.index

  pub profile_unfit : {p : ℕ} {a : Answer}
      → LowestAt (Breaks (grammar_in book i)) i.outline.productions p
      → a ≡ refusal profile p 0
      → PlainRefused book a
  profile_unfit low e =
      rw e (unfit x.serves (subst (λ (h : Grammar). LowestBreak h _) index_is (record { breaks = low.holds; earlier = low.earlier })))

  pub profile_fits : ((p : ℕ) → p < i.outline.productions → ¬ Breaks (grammar_in book i) p) → PlainBook book i
  profile_fits none = record { given = x; plain = subst (λ (h : Grammar). Plain h) index_is (unbroken_plain book i none) }

-- so a plain book is done, and another is refused
pub plain_fits : {book : List ℕ} {i : Index} → PlainBook book i → PlainOutcome book (done 0)
plain_fits x = plain.fits x.given.serves x.plain

pub refused_plain : {book : List ℕ} {a : Answer} → PlainRefused book a → PlainOutcome book a
refused_plain (unfit s l) = plain.unfit s l
