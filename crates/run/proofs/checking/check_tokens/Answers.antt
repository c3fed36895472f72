-- One case for each answer.
use Rattle.run.specs.Tokens.{too_long}
use Rattle.run.proofs.Checks.{tokens_strange, tokens_known}
use Rattle.run.proofs.checking.check_tokens.Goals as goal

pub returns-then-tokens-gt-LONGEST_STRING : goal.returns-then-tokens-gt-LONGEST_STRING
returns-then-tokens-gt-LONGEST_STRING c = rw c.refusal.ensures (too_long c.if-tokens-gt-LONGEST_STRING.true)

pub returns-in-Some : goal.returns-in-Some
returns-in-Some c = rw c.refusal-in-Some.ensures (tokens_strange c.if-tokens-gt-LONGEST_STRING.false c.in-Some.ensures)

pub returns-in-None : goal.returns-in-None
returns-in-None c = tokens_known c.if-tokens-gt-LONGEST_STRING.false c.in-None.ensures
