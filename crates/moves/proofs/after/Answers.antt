use Rattle.sets.specs.Words.{AreWords}
use Rattle.moves.specs.Tables.{set_of}
use Rattle.moves.proofs.Gathering.{meet, gathered_none, gathered_more, gathered_all}
use Rattle.moves.proofs.after.Goals as goal
use Rattle.moves.proofs.after.Goals.{At-loop-i}

pub loop-i-init : goal.loop-i-init
loop-i-init c =
    let args = c.args in
    gathered_none args.readers.now args.follow.now (set_of args.sets.now args.state) args.byte

-- sets and readers are words
sets_words : (c : At-loop-i) → AreWords c.args.sets.now
sets_words c = record { fits = λ i. (c.type_inv.sets i).fits }

readers_words : (c : At-loop-i) → AreWords c.args.readers.now
readers_words c = record { fits = λ i. (c.type_inv.readers i).fits }

pub loop-i-preserved : goal.loop-i-preserved
unfolding meet
loop-i-preserved c =
    let args = c.args in
    gathered_more args.sets.now args.state args.readers.now args.byte args.follow.now
    (sets_words (goal.at.loop-i-preserved c).At-loop-i) (readers_words (goal.at.loop-i-preserved c).At-loop-i) c.loop-i.i c.loop-i-test.true
    c.loop-i.invariant
    (rw (c.cell_or.ensures, c.cell_or-in-loop-i.ensures, c.from-from.ensures, c.from-row.ensures) at c.lead_word.ensures)

pub returns : goal.returns
returns c =
    let args = c.args in
    gathered_all args.sets.now args.state args.readers.now args.byte args.follow.now
    (sets_words (goal.at.returns c).At-loop-i) (readers_words (goal.at.returns c).At-loop-i) c.loop-i.i c.loop-i-test.false c.loop-i.invariant
