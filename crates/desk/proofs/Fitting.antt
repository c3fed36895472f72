-- Every answer fits its five words, wherever the book and the table are shorter than 2 ^ 64.
use Rattle.std.specs.Prelude.{⊤, Result, Ok, Err}
use mathlib.Core.List.{List}
use mathlib.Core.Option.{Option, some, none}
use Prim.Native.Nat.{ℕ, zero, suc, ◌+◌, ◌*◌, ◌^◌, ◌≤◌, ◌<◌}
use native.Mathlib.Nat.{mul-le-mul}
use native.Mathlib.Decide.{dec_lt}
use native.Mathlib.Omega.{arith}
use borrow.Author.Tests.{lt-ltb, le-ltb}
use lib.ListN.{length, get_or}
use Rattle.grammar.specs.Grammar.{Grammar}
use Rattle.grammar.proofs.Rules.{below_rule}
use Rattle.sets.specs.Calls as sets
use Rattle.sets.specs.Sets.{width, end_mark, column_place}
use Rattle.sets.specs.declared.Set.{Set}
use Rattle.sets.proofs.Promise.{added_fits}
use Rattle.answers.specs.declared.Answer.{Answer}
use Rattle.answers.specs.Answers.{done, refusal, stop, at_depth}
use Rattle.answers.specs.Buffers.{counted}
use Rattle.answers.specs.Refusals.{number_of}
use Rattle.patterns.specs.Calls.{JudgePatterns}
use Rattle.patterns.specs.Calls as patterns
use Rattle.patterns.proofs.Promise.{refuses_bounded}
use Rattle.pieces.specs.declared.Stuck.TheVariants.{NoToken, NoRoom}
use Rattle.pieces.specs.Cut.{Ending, Piece, Cut, answer_of}
use Rattle.pieces.specs.Calls.{CutWithOutcome}
use Rattle.pieces.proofs.Promise.{pieces_few, place_inside}
use Rattle.cut.specs.Calls.{CutOutcome}
use Rattle.cut.specs.Calls as cuts
use Rattle.reader.specs.Book.{Limits}
use Rattle.reader.proofs.Promise.{refused_within, read_limits}
use Rattle.book.specs.Judging.{Refuses, misread, useless_one}
use Rattle.book.proofs.Promise.{serves_limits}
use Rattle.first.specs.declared.forms.Trail.{Trail}
use Rattle.desk.specs.Desk.{JudgeOutcome, refused, served, answer_in}
use Rattle.first.specs.Calls.{FirstOutcome}
use Rattle.follow.specs.Calls.{SetsRoom, no_first, no_follow, SetsOutcome, LookaheadOutcome}
use Rattle.table.specs.Calls.{BuildOutcome}
use Rattle.first.specs.Calls as first_calls
use Rattle.follow.specs.Calls as follow_calls
use Rattle.table.specs.Calls as calls
use Rattle.checker.specs.Calls.{CheckOutcome}
use Rattle.checker.specs.Calls as checks
use Rattle.table.specs.Table.{size, held, cell_of}
use Rattle.table.specs.Fitting.{Misfit, length_given, cell}
use Rattle.machine.specs.Machine.{Offered, final}
use Rattle.machine.specs.declared.Reason.{Reason}
use Rattle.machine.specs.declared.Reason.TheVariants.{FullList, FullStack, WantsEnd, WantsToken, WantsRow}
use Rattle.machine.specs.Expansion.{expansion, Course}
use Rattle.machine.specs.declared.Obstacle.{Obstacle}
use Rattle.machine.specs.Room.{right_of}
use Rattle.machine.proofs.Promise.{Counted, run_steps, run_inside, expand_steps}
use Rattle.offer.specs.Stops.{marking, filled_below, expected, run_answer}
use Rattle.offer.specs.Strings.{ran}
use Rattle.offer.proofs.Promise.{Told, told, served, short_of_list, short_of_stack, blocked, told_steps}
use Rattle.run.specs.Running.{Barred, bad_table, too_long, strange, no_stack, RunOutcome}
use Rattle.run.specs.Running as running
use Rattle.expand.specs.Expanding.{ExpandOutcome}
use Rattle.expand.specs.Expanding as expanding
use Rattle.expand.proofs.Promise.{ToldBy, told_by, finished, misfitting, out_of_stack, out_of_output}
use Rattle.desk.proofs.ReadBack.{FitsWords}

pub done_fits : (n : ℕ) → n < 2 ^ 64 → FitsWords (done n)
unfolding done
done_fits n h = record { place = omega arith; detail = omega arith; steps = h; expected = omega arith; depth = omega arith }

pub refusal_fits : (number : ℕ) {place detail : ℕ} → place < 2 ^ 64 → detail < 2 ^ 64 → FitsWords (refusal number place detail)
unfolding refusal
refusal_fits number h k = record { place = h; detail = k; steps = omega arith; expected = omega arith; depth = omega arith }

-- no table has more than 64 × 63 cells
pub size_bounded : {g : Grammar} → Limits g → size g ≤ 4032
size_bounded {g} l =
    let columns : g.tokens + 1 ≤ 63 = omega (arith, l.tokens_fit) in
    mul-le-mul l.nonterminals_fit columns

pub refused_fits : {book : List ℕ} {a : Answer} → length book < 2 ^ 64 → Refuses book a → FitsWords a
refused_fits {book} short (misread {why = w} e) = refusal_fits (number_of w) (omega (arith, refused_within book e)) (omega arith)
refused_fits {book} short (useless_one e h) = refusal_fits 6 (omega (arith, h.inside, (read_limits book e).nonterminals_fit)) (omega arith)

misfit_bounded : {g : Grammar} {table : List ℕ} {k : ℕ} → Limits g → Misfit g table k → length table < 2 ^ 64 → k < 2 ^ 64
misfit_bounded l (length_given n) h = h
misfit_bounded l (cell e i n earlier) h = omega (arith, size_bounded l)

barred_fits : {g : Grammar} {table tokens stack : List ℕ} {a : Answer} → Limits g → length table < 2 ^ 64 → Barred g table tokens stack a → FitsWords a
barred_fits l h (bad_table m) = refusal_fits 9 (misfit_bounded l m h) (omega arith)
barred_fits l h (too_long f k) = refusal_fits 4 (omega arith) (omega arith)
barred_fits l h (strange f k s) = refusal_fits 10 (omega (arith, s.inside)) (omega arith)
barred_fits l h (no_stack f k m e) = refusal_fits 7 (omega arith) (omega arith)

-- a set that is marked stays within its width
marking_fits : (k x : ℕ) → x < 2 ^ width → marking k x < 2 ^ width
unfolding marking
marking_fits k x h = go (dec_lt k width)
  where
    go : Dec (k < width) → marking k x < 2 ^ width
    go (yes l) = rw (lt-ltb k width l, marking) (added_fits width k x l h)
    go (no n) = let past : width ≤ k = omega arith in rw (le-ltb k width past, marking) h

filled_fits : (g : Grammar) (table : List ℕ) (A j : ℕ) → filled_below g table A j < 2 ^ width
unfolding filled_below
filled_fits g table A zero = omega arith
filled_fits g table A (suc j) = go (held (get_or table (A * (g.tokens + 1) + j) 255)) (filled_fits g table A j)
  where
    go : (o : Option ℕ) → filled_below g table A j < 2 ^ width → elim o [ none ↦ filled_below g table A j | some p ↦ marking (column_place j g.tokens) (filled_below g table A j) ] < 2 ^ width
    go none h = h
    go (some p) h = marking_fits (column_place j g.tokens) (filled_below g table A j) h

expected_fits : (g : Grammar) (table : List ℕ) (r : Reason) → sets.number (expected g table r) < 2 ^ 64
unfolding expected
expected_fits g table FullList = omega arith
expected_fits g table FullStack = omega arith
expected_fits g table WantsEnd = marking_fits end_mark 0 (omega arith)
expected_fits g table (WantsToken t) = marking_fits t 0 (omega arith)
expected_fits g table (WantsRow A) = filled_fits g table A (g.tokens + 1)

told_fits : {e : Reason → Set} {o : Offered} {a : Answer} → Told e o a → ((r : Reason) → sets.number (e r) < 2 ^ 64) → (final o).matched < 2 ^ 64 → a.steps < 2 ^ 64 → (final o).height < 2 ^ 64 → FitsWords a
unfolding final done stop at_depth
told_fits (served s) sets_fit h k d = record { place = omega arith; detail = omega arith; steps = k; expected = omega arith; depth = d }
told_fits (short_of_list s) sets_fit h k d = record { place = h; detail = omega arith; steps = k; expected = sets_fit FullList; depth = d }
told_fits (short_of_stack s) sets_fit h k d = record { place = h; detail = omega arith; steps = k; expected = sets_fit FullStack; depth = d }
told_fits (blocked {r = r} s b) sets_fit h k d = record { place = h; detail = omega arith; steps = k; expected = sets_fit r; depth = d }

module _ (g : Grammar) (table tokens stack list : List ℕ) where
  ran_counted : Counted (counted stack) (counted list) (final (ran g table tokens stack list))
  unfolding ran
  ran_counted = run_steps (right_of g) (cell_of g table) (counted stack) (counted list) g.start tokens

  ran_inside : (final (ran g table tokens stack list)).matched ≤ length tokens
  unfolding ran
  ran_inside = run_inside (right_of g) (cell_of g table) (counted stack) (counted list) g.start tokens

  -- a run lists at most 65,535 productions and matches no more tokens than there are
  pub ran_bounded : (length (final (ran g table tokens stack list)).listed ≤ 65535) × ((final (ran g table tokens stack list)).matched ≤ length tokens)
  ran_bounded = (omega (arith, ran_counted.list_fits), ran_inside)

  ran_fits : length tokens ≤ 4096 → 1 ≤ length stack → FitsWords (run_answer g table (ran g table tokens stack list))
  unfolding run_answer
  ran_fits short stacked =
      let o : Offered = ran g table tokens stack list in
      let answer : Told (expected g table) o (run_answer g table o) = told (expected g table) o in
      let low = ran_counted.height_fits (omega arith) in
      told_fits answer (expected_fits g table) (omega (arith, ran_inside)) (omega (arith, told_steps answer, ran_counted.steps, ran_counted.list_fits, ran_inside)) (omega arith)

-- the answer of a run
pub run_fits : {book table tokens stack list : List ℕ} {a : Answer} {stack' list' : List ℕ} → length book < 2 ^ 64 → length table < 2 ^ 64 → RunOutcome book table tokens stack list a stack' list' → FitsWords a
run_fits b t (running.refused r) = refused_fits b r
run_fits b t (running.barred s r) = barred_fits (serves_limits s) t r
run_fits {table = table} {tokens} {stack} {list} b t (running.ended {g = g} s a) = ran_fits g table tokens stack list a.short a.stacked

told_by_fits : {s : Course} {e : Result ⊤ Obstacle} {a : Answer} → ToldBy s e a → s.used < 2 ^ 64 → s.moves < 2 ^ 64 → s.height < 2 ^ 64 → FitsWords a
unfolding done stop at_depth
told_by_fits finished h k d = record { place = omega arith; detail = omega arith; steps = k; expected = omega arith; depth = d }
told_by_fits misfitting h k d = record { place = h; detail = omega arith; steps = k; expected = omega arith; depth = d }
told_by_fits out_of_stack h k d = record { place = h; detail = omega arith; steps = k; expected = omega arith; depth = d }
told_by_fits out_of_output h k d = record { place = h; detail = omega arith; steps = k; expected = omega arith; depth = d }

-- of an expansion
pub expand_fits : {book list stack output : List ℕ} {a : Answer} {stack' output' : List ℕ} → length book < 2 ^ 64 → ExpandOutcome book list stack output a stack' output' → FitsWords a
expand_fits b (expanding.refused r) = refused_fits b r
expand_fits b (expanding.too_long s h) = refusal_fits 4 (omega arith) (omega arith)
expand_fits b (expanding.no_stack s h e) = refusal_fits 7 (omega arith) (omega arith)
expand_fits {list = list} {stack} {output} b (expanding.ended {g = g} s h k) =
    let counts = expand_steps g (counted stack) (counted output) list in
    told_by_fits (told_by (expansion g (counted stack) (counted output) list)) (omega (arith, counts.used)) (omega (arith, counts.used, counts.written, counts.moves)) (omega (arith, counts.height))

room_fits : {g : Grammar} {first follow : List ℕ} {a : Answer} → Limits g → SetsRoom g first follow a → FitsWords a
room_fits l (no_first h) = refusal_fits 7 (omega (arith, l.nonterminals_fit)) (omega arith)
room_fits l (no_follow h k) = refusal_fits 7 (omega (arith, l.nonterminals_fit)) (omega arith)

-- of judging
pub judge_fits : {book : List ℕ} {a : Answer} → length book < 2 ^ 64 → JudgeOutcome book a → FitsWords a
judge_fits b (refused r) = refused_fits b r
judge_fits b (served x) = done_fits 0 (omega arith)

-- of the sets
pub sets_fits : {book first follow : List ℕ} {a : Answer} {first' follow' : List ℕ} → length book < 2 ^ 64 → SetsOutcome book first follow a first' follow' → FitsWords a
sets_fits b (follow_calls.refused r) = refused_fits b r
sets_fits b (follow_calls.no_room s r) = room_fits (serves_limits s) r
sets_fits b (follow_calls.served s f x y) = done_fits 0 (omega arith)

-- of building
pub build_fits : {book first follow table : List ℕ} {a : Answer} {first' follow' table' : List ℕ} → length book < 2 ^ 64 → BuildOutcome book first follow table a first' follow' table' → FitsWords a
build_fits b (calls.refused r) = refused_fits b r
build_fits b (calls.no_room s r) = room_fits (serves_limits s) r
build_fits b (calls.no_table s f h) = refusal_fits 7 (omega (arith, size_bounded (serves_limits s))) (omega arith)
build_fits b (calls.conflict s f h c) =
    let limits = serves_limits s in
    refusal_fits 8 (omega (arith, c.inside, size_bounded limits)) (omega (arith, below_rule c.lowest.rule, below_rule c.next.rule, limits.productions_fit))
build_fits b (calls.served s f h x y t) = done_fits 0 (omega arith)

-- of a check
pub check_fits : {book table : List ℕ} {a : Answer}
    → length book < 2 ^ 64
    → length table < 2 ^ 64
    → CheckOutcome book table a
    → FitsWords a
check_fits b t (checks.refused r) = refused_fits b r
check_fits b t (checks.misfit s m) = refusal_fits 9 (misfit_bounded (serves_limits s) m t) (omega arith)
check_fits b t (checks.conflict s f c) =
    let limits = serves_limits s in
    refusal_fits 8 (omega (arith, c.inside, size_bounded limits)) (omega (arith, below_rule c.lowest.rule, below_rule c.next.rule, limits.productions_fit))
check_fits b t (checks.differs s f n d) = refusal_fits 17 (omega (arith, d.inside, size_bounded (serves_limits s))) (omega arith)
check_fits b t (checks.passed p) = done_fits 0 (omega arith)

-- of a lookahead
pub lookahead_fits : (book : List ℕ) (production : ℕ) (r : Result Trail Answer)
    → length book < 2 ^ 64
    → production < 2 ^ 64
    → LookaheadOutcome book production r
    → FitsWords (answer_in r)
unfolding answer_in
lookahead_fits book production (Ok t) b p found = done_fits 0 (omega arith)
lookahead_fits book production (Err a) b p (follow_calls.refused r) = refused_fits b r
lookahead_fits book production (Err a) b p (follow_calls.no_production s h) = refusal_fits 12 p (omega arith)

-- and of FIRST of a symbol string
pub first_fits : (book symbols : List ℕ) (r : Result Trail Answer)
    → length book < 2 ^ 64
    → FirstOutcome book symbols r
    → FitsWords (answer_in r)
unfolding answer_in
first_fits book symbols (Ok t) b found = done_fits 0 (omega arith)
first_fits book symbols (Err a) b (first_calls.refused r) = refused_fits b r
first_fits book symbols (Err a) b (first_calls.too_long s h) = refusal_fits 4 (omega arith) (omega arith)
first_fits book symbols (Err a) b (first_calls.strange s h f) = refusal_fits 5 (omega (arith, f.inside)) (omega arith)

pub patterns_fits : {patterns lengths : List ℕ} {a : Answer}
    → length patterns < 2 ^ 64
    → JudgePatterns patterns lengths a
    → FitsWords a
unfolding refusal
patterns_fits short (patterns.refused (patterns.many_patterns past)) = refusal_fits 4 (omega arith) (omega arith)
patterns_fits short (patterns.refused (patterns.bad_pattern few bad)) =
    let bounds = refuses_bounded (patterns.bad_pattern few bad) in
    refusal_fits 14 (omega (arith, bounds.0)) (omega (arith, bounds.1))
patterns_fits short (patterns.refused (patterns.many_positions few means good past)) =
    refusal_fits 4 (omega arith) (omega arith)
patterns_fits short (patterns.accepted accept) = done_fits 0 (omega arith)

-- of a cut along the line
line_fits : {M : ℕ → List ℕ → Type 0} {room : ℕ} {line : List ℕ} {pieces : List Piece} {ending : Ending}
    → length line < 2 ^ 64
    → Cut M room 0 line pieces ending
    → FitsWords (answer_of ending (length pieces))
unfolding answer_of done stop
line_fits {line = line} {pieces = pieces} {ending = ending} short cut = go ending (place_inside cut (length pieces))
  where
    steps : length pieces < 2 ^ 64
    steps = omega (arith, pieces_few cut)

    go : (e : Ending) → (answer_of e (length pieces)).place ≤ 0 + length line → FitsWords (answer_of e (length pieces))
    go (Ok x) h = record { place = omega arith; detail = omega arith; steps = steps; expected = omega arith; depth = omega arith }
    go (Err (NoToken place)) h = record { place = omega arith; detail = omega arith; steps = steps; expected = omega arith; depth = omega arith }
    go (Err (NoRoom place)) h = record { place = omega arith; detail = omega arith; steps = steps; expected = omega arith; depth = omega arith }

pub cut_fits : {patterns lengths line machine tokens machine' tokens' : List ℕ} {a : Answer}
    → length patterns < 2 ^ 64
    → length line < 2 ^ 64
    → CutOutcome patterns lengths line machine tokens a machine' tokens'
    → FitsWords a
cut_fits short line_short (cuts.refused r) = patterns_fits short (patterns.refused r)
cut_fits short line_short (cuts.too_many accept many) = refusal_fits 16 (omega arith) (omega arith)
cut_fits short line_short (cuts.no_cells accept f few lacking) = refusal_fits 7 (omega arith) (omega arith)
cut_fits short line_short (cuts.cut accept f few fits c) = line_fits line_short c

pub cut_with_fits : {machine line tokens ends tokens' ends' : List ℕ} {a : Answer}
    → length line < 2 ^ 64
    → CutWithOutcome machine line tokens ends a tokens' ends'
    → FitsWords a
cut_with_fits short o = rw o.answered (line_fits short o.cut)
