-- `states::finding::turn` meets its contract: one cell more, and where what comes after was not met before one state more.
use mathlib.Core.Path.{◌≡◌, sym, ◌∙◌}
use native.Mathlib.Omega.{arith}
use Rattle.sets.proofs.Promise.{decides_true, decides_false}
use Rattle.moves.specs.Tables.{set_of}
use Rattle.states.proofs.Turning.{sought_some, sought_none, search_nothing, search_met, search_new, search_past}
use Rattle.states.proofs.finding.turn.Goals as goal
use Rattle.states.proofs.finding.turn.Goals.{then-none-via-then-none, then-none-via-else-none+then-is_some, After-none}

-- what `none` was asked of
abbrev empty : After-none → Type 0
empty c = set_of c.after-next.result 0 ≡ 0

pub returns-then-none : goal.returns-then-none
unfolding set_of
returns-then-none c =
    let args = c.args in
    let asked = empty (goal.at.returns-then-none c).After-none in
    record {
      more = omega arith;
      searched =
          elim c.then-none.branch [
            | then-none-via-then-none w ↦ search_nothing args.tables.now args.states.now args.state args.byte
                c.ranges.byte.fits c.requires.row c.requires.searched c.after-next.ensures (decides_true asked c.none.result c.none.ensures w.if-none.true)
            | then-none-via-else-none+then-is_some w ↦
                let met = sought_some args.states.now.sets args.states.now.count (set_of c.after-next.result 0) w.seek.result w.seek.ensures (sym w.is_some.ensures ∙ w.if-is_some.true) in
                search_met args.tables.now args.states.now args.state args.byte
                c.ranges.byte.fits c.requires.row c.requires.searched c.after-next.ensures (decides_false asked c.none.result c.none.ensures w.if-none.false) met.1
          ];
    }

pub returns-then-states-eq-MOST_STATES : goal.returns-then-states-eq-MOST_STATES
unfolding set_of
returns-then-states-eq-MOST_STATES c =
    let args = c.args in
    let full = decides_false (empty (goal.at.returns-then-states-eq-MOST_STATES c).After-none) c.none.result c.none.ensures c.if-none.false in
    search_past args.tables.now args.states.now args.state args.byte c.ranges.byte.fits c.requires.row
    c.requires.searched c.after-next.ensures full (sought_none args.states.now.sets args.states.now.count (set_of c.after-next.result 0) c.seek.result c.seek.ensures (sym c.is_some.ensures ∙ c.if-is_some.false))
    (omega arith)

pub returns : goal.returns
unfolding set_of
returns c =
    let args = c.args in
    let full = decides_false (empty (goal.at.returns c).After-none) c.none.result c.none.ensures c.if-none.false in
    record {
      more = omega arith;
      searched =
          search_new args.tables.now args.states.now args.state args.byte c.ranges.byte.fits c.requires.row
          c.requires.searched c.after-next.ensures full (sought_none args.states.now.sets args.states.now.count (set_of c.after-next.result 0) c.seek.result c.seek.ensures (sym c.is_some.ensures ∙ c.if-is_some.false))
          c.keep.new.self c.keep.ensures.kept c.keep.ensures.one;
    }
