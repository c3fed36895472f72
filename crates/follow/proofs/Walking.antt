-- Records that can be walked: the tokens of a grammar's right sides have places in a set.
use mathlib.Core.List.{List}
use Prim.Native.Nat.{ℕ, ◌<◌}
use native.Mathlib.Omega.{arith}
use Rattle.grammar.specs.declared.Symbol.TheVariants.{Token}
use Rattle.grammar.specs.Grammar.{Form, Grammar, Every, nothing, each, Known, known_token, known_nonterminal}
use Rattle.sets.specs.Sets.{end_mark}
use Rattle.book.specs.declared.Index.{Index}
use Rattle.reader.specs.Book.{Limits}
use Rattle.book.specs.Judging.{Indexes}
use Rattle.first.proofs.Promise.{right_is, rule_at, given_limits, given_lists, given_readable}
use Rattle.follow.specs.Walks.{Narrow, narrow_token, narrow_nonterminal, Walkable}

pub narrow_below : {t : ℕ} → Narrow (Token t) → t < end_mark
narrow_below (narrow_token h) = h

-- the symbols of a grammar within the limits have sets
pub known_narrow : {g : Grammar} → Limits g → {α : Form} → Every (Known g) α → Every Narrow α
known_narrow limits nothing = nothing
known_narrow limits (each (known_token {t = t} h) rest) = each (narrow_token {t = t} (omega (arith, limits.tokens_fit))) (known_narrow limits rest)
known_narrow limits (each (known_nonterminal h) rest) = each narrow_nonterminal (known_narrow limits rest)

pub given_walkable : {book : List ℕ} {index : Index} → Indexes book index → Walkable book index.places index.outline.productions
given_walkable given =
    let lists = given_lists given in
    record {
      readable = given_readable given;
      narrow = λ p h. let (A, β, rule) = rule_at lists p h in rw (right_is lists rule) (known_narrow (given_limits given) ((given_limits given).well_formed.right_known rule));
    }
