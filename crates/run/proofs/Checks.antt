-- The checks before steps: the tokens, and what a call is refused with.
use Rattle.std.specs.Prelude.{Ok, Err}
use mathlib.Core.Path.{◌≡◌, refl, ◌∙◌, subst}
use mathlib.Core.Logic.{◌≢◌}
use mathlib.Core.List.{List}
use Prim.Native.Nat.{ℕ, ◌≤◌, ◌<◌}
use native.Mathlib.Omega.{arith}
use lib.ListN.{length, get_or}
use Rattle.grammar.specs.Grammar.{Grammar}
use Rattle.answers.specs.Answers.{refusal}
use Rattle.answers.specs.Limits.{longest_string}
use Rattle.answers.specs.Lowest.{Lowest, LowestAt}
use Rattle.answers.specs.Refusals as refusals
use Rattle.answers.specs.declared.Answer.{Answer}
use Rattle.answers.proofs.Promise.{Unique, lowest_unique}
use Rattle.book.specs.declared.columns.Outline.{Outline}
use Rattle.book.specs.Columns.{Outlines}
use Rattle.table.specs.Fitting.{FitTable}
use Rattle.run.specs.Checking.{CheckedWith}
use Rattle.run.specs.Running.{Strange, Barred}
use Rattle.run.specs.Running as running
use Rattle.run.specs.Tokens.{BarredTokens, too_long, strange, KnownTokens, TokensChecked}

tokens_once : (T : ℕ) (tokens : List ℕ) → Unique (BarredTokens T tokens)
tokens_once T tokens a b (too_long h) (too_long k) = refl
tokens_once T tokens a b (too_long h) (strange short k low) = absurd (omega arith)
tokens_once T tokens a b (strange short h low) (too_long k) = absurd (omega arith)
tokens_once T tokens a b (strange short h low) (strange other k first) = rw (lowest_unique low first)

tokens_apart : (T : ℕ) (tokens : List ℕ) {a : Answer} → BarredTokens T tokens a → ¬ KnownTokens T tokens
tokens_apart T tokens (too_long h) k = omega (arith, k.short)
tokens_apart T tokens (strange {i = i} short h low) k = omega (arith, k.known i h, low.found h)

-- the check of a token string allows one answer
pub tokens_checked_unique : (T : ℕ) (tokens : List ℕ) → Unique (TokensChecked T tokens)
tokens_checked_unique T tokens (Ok x) (Ok y) h k = refl
tokens_checked_unique T tokens (Ok x) (Err b) h k = absurd (tokens_apart T tokens k h)
tokens_checked_unique T tokens (Err a) (Ok y) h k = absurd (tokens_apart T tokens h k)
tokens_checked_unique T tokens (Err a) (Err b) h k = rw (tokens_once T tokens a b h k)

module _ {T : ℕ} {tokens : List ℕ} where
  -- the first strange token is refused
  pub tokens_strange : {i : ℕ} → length tokens ≤ longest_string → LowestAt (Strange T tokens) (length tokens) i → BarredTokens T tokens (refusal refusals.token i 0)
  tokens_strange short at =
      strange short at.inside
      (record { within = omega (arith, at.inside); earlier = at.earlier; found = λ h. at.holds })

  -- and without one all are known
  pub tokens_known : length tokens ≤ longest_string → ((i : ℕ) → i < length tokens → ¬ Strange T tokens i) → KnownTokens T tokens
  tokens_known short none = record { short = short; known = λ i h. below i (none i h) }
    where
      below : (i : ℕ) → ¬ (T ≤ get_or tokens i 0) → get_or tokens i 0 < T
      below i not = omega arith

  -- a run on any table that fits is refused with the same answer
  pub tokens_barred : {g : Grammar} {table stack : List ℕ} {a : Answer} → T ≡ g.tokens → FitTable g table → BarredTokens T tokens a → Barred g table tokens stack a
  tokens_barred same fits (too_long h) = running.too_long fits h
  tokens_barred same fits (strange {i = i} short h low) =
      running.strange fits short
      (record { inside = h; lowest = subst (λ (t : ℕ). Lowest (Strange t tokens) (length tokens) i) same low })

-- the table fits, and the tokens are known
module _ {g : Grammar} {o : Outline} {table tokens : List ℕ} (fits : FitTable g table) (sized : Outlines o g)
    (known : KnownTokens o.tokens tokens) where
  known_below : (i : ℕ) → i < length tokens → get_or tokens i 0 < g.tokens
  known_below i h = omega (arith, sized.tokens, known.known i h)

  pub check_no_stack : {cells : ℕ} → cells ≡ 0 → CheckedWith g table tokens cells (Err (refusal refusals.room 0 refusals.stack_room))
  check_no_stack h = record { checked = λ stack all. running.no_stack fits known.short known_below (all ∙ h) }

  pub check_done : {cells : ℕ} → cells ≢ 0 → CheckedWith g table tokens cells (Ok tt)
  check_done n =
      record {
        checked = λ stack all. record { fits = fits; short = known.short; known = known_below; stacked = omega arith };
      }
