-- `listing::served` meets its contract: the grammar's line, then the `first` lines, the `follow` lines and the rows.
use mathlib.Core.List.{◌++◌}
use Prim.Native.Nat.{◌+◌}
use native.Mathlib.Omega.{arith}
use lib.ListN.{take, length-take}
use Rattle.text.proofs.Promise.{put_then}
use Rattle.showing.specs.Lines.{set_lines, row_lines}
use Rattle.listing.specs.Listing.{first_word, follow_word, grammar_line, served_text}
use Rattle.listing.proofs.served.Goals as goal

pub slice_bounds-set_lines-end-4 : goal.slice_bounds-set_lines-end-4
slice_bounds-set_lines-end-4 c = simp length-take (omega arith)

pub returns : goal.returns
unfolding served_text
returns c =
    record {
      put = λ {g} header.
          let firsts = set_lines first_word 0 (take g.nonterminals c.args.first.now) in
          let follows = set_lines follow_word 0 (take g.nonterminals c.args.follow.now) in
          let rows = row_lines (g.tokens + 1) 0 g.nonterminals c.args.table.now in
          put_then (grammar_line g) (firsts ++ (follows ++ rows)) (c.grammar_line-opened.ensures.put header)
          (put_then firsts (follows ++ rows) (rw header.nonterminals at c.set_lines-begun.ensures)
          (put_then follows rows (rw header.nonterminals at c.set_lines-followed.ensures)
          (rw (header.tokens, header.nonterminals) at c.row_lines.ensures)));
    }
