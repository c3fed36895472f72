-- A call on a book that is refused with the book, refused before steps, or ended in steps allows one outcome.
use mathlib.Core.Path.{◌≡◌, ap, subst}
use mathlib.Core.List.{List}
use Prim.Native.Nat.{ℕ}
use Rattle.grammar.specs.Grammar.{Grammar}
use Rattle.answers.specs.declared.Answer.{Answer}
use Rattle.book.specs.Judging.{Refuses, Serves}
use Rattle.book.proofs.Promise.{refuses_unique, serves_unique, refuses_not_serves}

module _ (book : List ℕ) (Bars : Grammar → Answer → Type 0) (Admitted : Grammar → Type 0) where
  -- a refusal keeps everything, and the steps end as the grammar has it
  pub data Call {X : Type 0} (kept : Answer → X) (end : Grammar → X) : X → Type 0 where
    refused : {a : Answer} → Refuses book a → Call kept end (kept a)
    barred : {g : Grammar} {a : Answer} → Serves book g → Bars g a → Call kept end (kept a)
    ended : {g : Grammar} → Serves book g → Admitted g → Call kept end (end g)

  -- a grammar bars with one answer, and what it bars it does not admit
  pub record Apart : Type 0 where
    pub one : {g : Grammar} {a b : Answer} → Bars g a → Bars g b → a ≡ b
    pub other : {g : Grammar} {a : Answer} → Bars g a → Admitted g → ⊥

module _ {book : List ℕ} {Bars : Grammar → Answer → Type 0} {Admitted : Grammar → Type 0}
    {X : Type 0} {kept : Answer → X} {end : Grammar → X} (apart : Apart book Bars Admitted) where
  pub call_unique : {x y : X} → Call book Bars Admitted kept end x → Call book Bars Admitted kept end y → x ≡ y
  call_unique (Call.refused h) (Call.refused k) = ap kept (refuses_unique h k)
  call_unique (Call.refused h) (Call.barred k b) = absurd (refuses_not_serves h k)
  call_unique (Call.refused h) (Call.ended k a) = absurd (refuses_not_serves h k)
  call_unique (Call.barred h b) (Call.refused k) = absurd (refuses_not_serves k h)
  call_unique (Call.barred h b) (Call.barred {a = a} k d) =
      ap kept (apart.one b (subst (λ (g : Grammar). Bars g a) (serves_unique k h) d))
  call_unique (Call.barred h b) (Call.ended k d) = absurd (apart.other b (subst Admitted (serves_unique k h) d))
  call_unique (Call.ended h b) (Call.refused k) = absurd (refuses_not_serves k h)
  call_unique (Call.ended h b) (Call.barred k d) = absurd (apart.other d (subst Admitted (serves_unique h k) b))
  call_unique (Call.ended h b) (Call.ended k d) = ap end (serves_unique h k)
