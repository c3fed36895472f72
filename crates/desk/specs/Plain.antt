-- What the C functions of the plain profile answer and leave in the lent buffers. Request W14.
use Rattle.std.specs.Prelude.{List, ℕ}
use Rattle.profile.specs.Plain.{PlainOutcome, PlainRunOutcome}
use Rattle.desk.specs.Desk.{Called, Lent}

-- a book tested for the profile, which changes no other buffer
pub record PlainCall (book answer : List ℕ) (number : ℕ) (answer' : List ℕ) : Type 0 where
  pub call : Called {Buffers = Unit {0}} (Lent answer) (λ a after. PlainOutcome book a) tt answer number tt answer'

-- a token string run on a plain book alone
pub record PlainRunCall (book tokens stack list answer
    : List ℕ) (number : ℕ) (stack' list' answer' : List ℕ) : Type 0 where
  pub call :
      Called {Buffers = List ℕ × List ℕ} (Lent answer)
      (λ a after. PlainRunOutcome book tokens stack list a after.0 after.1) (stack, list) answer number
      (stack', list') answer'
