-- No contract of the crate allows a second outcome.
use mathlib.Core.Path.{◌≡◌, refl, sym, ◌∙◌, subst}
use mathlib.Core.List.{List}
use Prim.Native.Nat.{ℕ}
use native.Mathlib.Omega.{arith}
use Rattle.grammar.specs.Grammar.{Grammar}
use Rattle.std.specs.Prelude.{Result}
use Rattle.answers.specs.declared.Answer.{Answer}
use Rattle.book.specs.declared.Index.{Index}
use Rattle.book.specs.Columns.{grammar_in}
use Rattle.offer.specs.Resuming.{OfferResult, OfferedOn, OfferOutcome, refused, offered}
use Rattle.offer.specs.Strings.{StringOutcome, no_stack, ended}
use Rattle.offer.specs.declared.Progress.{Progress}
use Rattle.offer.specs.Reply.{Reply}

-- an offer on a grammar allows one outcome
offered_on_unique : {g : Grammar} {table : List ℕ} {column : ℕ} {at : Progress} {stack list : List ℕ} {r q : Reply} {s l t m : List ℕ}
    → OfferedOn g table column at stack list r s l
    → OfferedOn g table column at stack list q t m
    → ◌≡◌ {A = OfferResult} (r, s, l) (q, t, m)
offered_on_unique o p = λ i. ((o.offers.answer ∙ sym p.offers.answer) i, (o.offers.stack_cells ∙ sym p.offers.stack_cells) i, (o.offers.list_cells ∙ sym p.offers.list_cells) i)

-- and so does one on any reading
pub offer_outcome_unique : {book : List ℕ} {reading : Result Index Answer} {table : List ℕ} {column : ℕ} {at : Progress} {stack list : List ℕ} {r q : Reply} {s l t m : List ℕ}
    → OfferOutcome book reading table column at stack list r s l
    → OfferOutcome book reading table column at stack list q t m
    → ◌≡◌ {A = OfferResult} (r, s, l) (q, t, m)
offer_outcome_unique (refused {answer = a} e) (refused {answer = b} f) = let same : a ≡ b = cc in rw same
offer_outcome_unique (refused e) (offered f p) = let bad : ◌≡◌ {A = ℕ} 0 1 = cc in absurd (omega arith)
offer_outcome_unique (offered e o) (refused f) = let bad : ◌≡◌ {A = ℕ} 0 1 = cc in absurd (omega arith)
offer_outcome_unique {book} {table = table} {column = column} {at = at} {stack = stack} {list = list} {r = r} {s = s} {l = l} (offered {index = i} e o) (offered {index = j} f p) =
    let same : i ≡ j = cc in
    offered_on_unique (subst (λ (x : Index). OfferedOn (grammar_in book x) table column at stack list r s l) same o) p

-- and so does a whole string
pub string_outcome_unique : {g : Grammar} {table tokens stack list : List ℕ} {r q : Reply} {s l t m : List ℕ}
    → StringOutcome g table tokens stack list r s l
    → StringOutcome g table tokens stack list q t m
    → ◌≡◌ {A = OfferResult} (r, s, l) (q, t, m)
string_outcome_unique (no_stack e) (no_stack f) = refl
string_outcome_unique (no_stack e) (ended h) = absurd (omega arith)
string_outcome_unique (ended h) (no_stack e) = absurd (omega arith)
string_outcome_unique (ended h) (ended k) = refl
