-- `parts::letters::letter_at` meets its contract: each return is one of the cases of `LetterRead`.
use mathlib.Core.Path.{sym, ◌∙◌}
use borrow.Author.Rules.{rules}
use native.Mathlib.Numerals.{add-one}
use Rattle.std.proofs.lemmas.Result.{err_from_is_err_and}
use Rattle.parts.specs.Letters.{letter_plain, letter_escaped, letter_mark, letter_missing, letter_cut_off}
use Rattle.parts.proofs.letters.letter_at.Goals as goal

pub returns-in_err-byte : goal.returns-in_err-byte
returns-in_err-byte c = search (rules, letter_missing)

pub returns-in_err-byte-2 : goal.returns-in_err-byte-2
returns-in_err-byte-2 c =
    let p = err_from_is_err_and c.from_residual-in_err-byte-2.result c.from_residual-in_err-byte-2.ensures.1 in
    let byte = c.in_ok-byte.ensures in
    let ended = c.in_err-byte-2.ensures in
    rw (p.1, p.2, ended.1, add-one) (letter_cut_off (sym byte.1 ∙ c.if-byte-eq-BACKSLASH.true) (rw add-one at ended.0))

pub returns-then-byte-eq-BACKSLASH : goal.returns-then-byte-eq-BACKSLASH
returns-then-byte-eq-BACKSLASH c =
    let byte = c.in_ok-byte.ensures in
    let escaped = c.in_ok-byte-2.ensures in
    rw escaped.1
    (simp add-one (letter_escaped (sym byte.1 ∙ c.if-byte-eq-BACKSLASH.true) (rw add-one at escaped.0)))

pub returns-then-special : goal.returns-then-special
returns-then-special c =
    let byte = c.in_ok-byte.ensures in
    letter_mark byte.0 (rw byte.1 at (sym c.special.ensures ∙ c.if-special.true))
    (λ e. c.if-byte-eq-BACKSLASH.false (byte.1 ∙ e))

pub returns : goal.returns
returns c =
    let byte = c.in_ok-byte.ensures in
    rw (add-one, byte.1) (letter_plain byte.0 (rw byte.1 at (sym c.special.ensures ∙ c.if-special.false)))
