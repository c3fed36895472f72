-- The lowest useless nonterminal decides between refusal 6 and the index.
use native.Mathlib.Omega.{arith}
use borrow.Author.Rules.{rules}
use Rattle.book.proofs.Outcome.{header_counted, survey_decides, judged_useless, judged_served}
use Rattle.book.proofs.judging.indexed.Goals as goal

pub survey-requires : goal.survey-requires
survey-requires c =
    let pre = c.requires in
    record {
      lists = record {
        grammar = pre.0;
        read = pre.1;
        counted = header_counted _ pre.1 c.byte_at-productions.ensures c.cells_for-count.ensures;
      };
      places_sized = search rules;
      names_sized = search rules;
      lefts_sized = search rules;
    }

pub first_useless-requires : goal.first_useless-requires
first_useless-requires c =
    (omega (arith, c.cells_for-count.ensures), c.survey.ensures.named.size)

pub returns-in-Some : goal.returns-in-Some
returns-in-Some c =
    let (indexed, first) =
    survey_decides _ c.requires.1 c.byte_at-nonterminals.ensures c.byte_at-start.ensures c.byte_at-productions.ensures
    c.cells_for-count.ensures c.survey.ensures (rw c.in-Some.is at c.first_useless.ensures) in
    rw c.refusal.ensures (judged_useless indexed first)

pub returns : goal.returns
returns c =
    let (indexed, first) =
    survey_decides _ c.requires.1 c.byte_at-nonterminals.ensures c.byte_at-start.ensures c.byte_at-productions.ensures
    c.cells_for-count.ensures c.survey.ensures (rw c.in_default.is at c.first_useless.ensures) in
    judged_served indexed first c.byte_at-tokens.ensures
