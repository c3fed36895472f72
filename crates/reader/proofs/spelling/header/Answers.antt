-- The six bytes in order, each where the one before it was right.
use mathlib.Core.Path.{sym, ◌∙◌}
use Rattle.std.proofs.lemmas.Result.{err_from_is_err_and}
use Rattle.reader.specs.Verdicts.{and_then}
use Rattle.reader.specs.Positional.{wanted_from, header_of}
use Rattle.reader.proofs.spelling.header.Goals as goal

pub returns-in_err-tokens : goal.returns-in_err-tokens
unfolding header_of wanted_from and_then
returns-in_err-tokens c =
    let p = err_from_is_err_and c.from_residual.result c.from_residual.ensures.1 in
    rw (p.1, p.2, sym c.marked.ensures ∙ c.in_err-tokens.was)

pub returns-in_err-nonterminals : goal.returns-in_err-nonterminals
unfolding header_of wanted_from and_then
returns-in_err-nonterminals c =
    let p = err_from_is_err_and c.from_residual-in_err-nonterminals.result c.from_residual-in_err-nonterminals.ensures.1 in
    rw (p.1, p.2, sym c.marked.ensures ∙ c.in_ok-tokens.was, sym c.wanted.ensures ∙ c.in_err-nonterminals.was)

pub returns-in_err-start : goal.returns-in_err-start
unfolding header_of wanted_from and_then
returns-in_err-start c =
    let p = err_from_is_err_and c.from_residual-in_err-start.result c.from_residual-in_err-start.ensures.1 in
    rw (p.1, p.2, sym c.marked.ensures ∙ c.in_ok-tokens.was, sym c.wanted.ensures ∙ c.in_ok-nonterminals.was, sym c.wanted-2.ensures ∙ c.in_err-start.was)

pub returns-in_err-productions : goal.returns-in_err-productions
unfolding header_of wanted_from and_then
returns-in_err-productions c =
    let p = err_from_is_err_and c.from_residual-in_err-productions.result c.from_residual-in_err-productions.ensures.1 in
    let fifth = rw c.byte_at-n.ensures at (sym c.wanted-3.ensures ∙ c.in_err-productions.was) in
    rw (p.1, p.2, sym c.marked.ensures ∙ c.in_ok-tokens.was, sym c.wanted.ensures ∙ c.in_ok-nonterminals.was, sym c.wanted-2.ensures ∙ c.in_ok-start.was, fifth)

pub returns : goal.returns
unfolding header_of
returns c =
    let fifth = rw c.byte_at-n.ensures at (sym c.wanted-3.ensures ∙ c.in_ok-productions.was) in
    rw (c.wanted-4.ensures, sym c.marked.ensures ∙ c.in_ok-tokens.was, sym c.wanted.ensures ∙ c.in_ok-nonterminals.was, sym c.wanted-2.ensures ∙ c.in_ok-start.was, fifth)
