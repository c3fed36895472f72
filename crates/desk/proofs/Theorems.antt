-- What is proved of the C functions, one page: each call allows one outcome, and meets the demands, read of calls that
-- lend an answer buffer long enough.
use mathlib.Core.Path.{◌≡◌, refl, sym, ◌∙◌, subst}
use mathlib.Core.Logic.{◌↔◌, ◌⊎◌}
use mathlib.Core.List.{List}
use Prim.Native.Nat.{ℕ, ◌^◌, ◌≤◌, ◌<◌}
use native.Mathlib.Nat.{mul-le-mul}
use native.Mathlib.Omega.{arith}
use lib.ListN.{length, get_or, take}
use Rattle.grammar.specs.Grammar.{Grammar}
use Rattle.grammar.specs.Machine.{Longest}
use Rattle.answers.specs.Answers.{done}
use Rattle.answers.specs.declared.Answer.{Answer}
use Rattle.answers.specs.Buffers.{counted, over}
use Rattle.answers.specs.Refusals.{room, syntax, production, stack_room, served}
use Rattle.answers.specs.Limits.{longest_string}
use Rattle.patterns.specs.Calls.{JudgePatterns}
use Rattle.pieces.specs.Calls.{CutWithOutcome}
use Rattle.cut.specs.Calls.{CutOutcome}
use Rattle.cut.proofs.Promise.{cut_outcome_unique}
use Rattle.book.specs.Judging.{Serves}
use Rattle.book.proofs.Promise.{serves_limits}
use Rattle.first.specs.Calls.{FirstOutcome}
use Rattle.follow.specs.Calls.{SetsOutcome, LookaheadOutcome}
use Rattle.table.specs.Calls.{BuildOutcome}
use Rattle.first.proofs.Promise.{first_outcome_unique}
use Rattle.follow.proofs.Promise.{sets_outcome_unique, lookahead_outcome_unique}
use Rattle.table.proofs.Promise.{build_outcome_unique}
use Rattle.checker.specs.Calls.{CheckOutcome}
use Rattle.machine.proofs.Promise.{expand_steps}
use Rattle.run.specs.Running.{RunOutcome}
use Rattle.run.proofs.Promise.{run_outcome_unique}
use Rattle.expand.specs.Expanding.{ExpandOutcome}
use Rattle.expand.proofs.Promise.{expand_outcome_unique}
use Rattle.slr_run.specs.Running.{SlrRunOutcome}
use Rattle.slr_run.specs.Demands.{SlrMeets3}
use Rattle.slr_run.proofs.Promise.{slr_run_outcome_unique, slr_run_meets3}
use Rattle.sheet.specs.Calls.{WriteOutcome, ReadOutcome}
use Rattle.demands.specs.Depth.{RunDepth, ExpandDepth}
use Rattle.demands.specs.Formula.{RunWithinFormula}
use Rattle.demands.specs.Demands.{Premises}
use Rattle.demands.specs.Demands.{BuildMeets2, ExpandMeets2, RunMeets2, RunMeets3, RunStepsAdd, ExpandStepsAdd}
use Rattle.demands.proofs.Promise.{build_meets2, run_meets3, run_meets2, run_steps_add, run_formula, expand_meets2}
use Rattle.demands.proofs.Promise.{expand_steps_add, run_depth, expand_depth, passed_premises}
use Rattle.demands.proofs.Promise.{run_depth_exactly, run_depth_least, run_depth_enough}
use Rattle.demands.proofs.Promise.{expand_depth_exactly, expand_depth_least, expand_depth_enough}
use Rattle.desk.specs.Desk.{little_endian, answer_bytes, answer_size, Lent, LentCell, JudgeOutcome, SetOutcome}
use Rattle.desk.specs.Desk.{JudgeCall, PatternsCall, CutCall, CutWithCall, SetsCall, BuildCall, RunCall}
use Rattle.desk.specs.Desk.{ExpandCall, LookaheadCall, FirstCall, WriteSheetCall, ReadSheetCall, SlrRunCall}
use Rattle.desk.specs.Demands.{answer_from}
use Rattle.desk.proofs.Calls.{called_answer, called_unique, two_unique, three_unique, judge_outcome_unique}
use Rattle.desk.specs.Desk.{Called, CheckCall, short, answered}
use Rattle.desk.proofs.Calls.{check_same, patterns_outcome_unique, cut_with_same, set_outcome_unique}
use Rattle.desk.proofs.ReadBack.{FitsWords, answer_read, called_exact}
use Rattle.desk.proofs.Depth.{ran_counted, expanded_counted, exactly_read, least_read, enough_read}
use Rattle.desk.proofs.Fitting.{ran_bounded, run_fits, expand_fits, judge_fits, sets_fits, build_fits}
use Rattle.desk.proofs.SheetCalls.{write_sheet_same, read_sheet_same, write_sheet_fits, read_sheet_fits}
use Rattle.desk.proofs.SheetCalls.{call_sheet_book_sheet, call_book_sheet_book}
use Rattle.desk.proofs.Fitting.{check_fits, lookahead_fits, first_fits, patterns_fits, cut_fits, cut_with_fits}

-- any two outcomes that a call allows are equal: the number returned, and every lent buffer
pub run_call_unique : (book table tokens stack list answer : List ℕ) {n m : ℕ} {s t l k x y : List ℕ}
    → RunCall book table tokens stack list answer n s l x
    → RunCall book table tokens stack list answer m t k y
    → (n ≡ m) × (s ≡ t) × (l ≡ k) × (x ≡ y)
run_call_unique book table tokens stack list answer c d =
    two_unique (RunOutcome book table tokens stack list)
    (λ r q o p. run_outcome_unique book table tokens stack list o p) c.call d.call

pub expand_call_unique : (book list stack output answer : List ℕ) {n m : ℕ} {s t w v x y : List ℕ}
    → ExpandCall book list stack output answer n s w x
    → ExpandCall book list stack output answer m t v y
    → (n ≡ m) × (s ≡ t) × (w ≡ v) × (x ≡ y)
expand_call_unique book list stack output answer c d =
    two_unique (ExpandOutcome book list stack output) (λ r q o p. expand_outcome_unique book list stack output o p)
    c.call d.call

pub judge_call_unique : (book answer : List ℕ) {n m : ℕ} {x y : List ℕ}
    → JudgeCall book answer n x
    → JudgeCall book answer m y
    → (n ≡ m) × (x ≡ y)
judge_call_unique book answer c d =
    let (number, none, bytes) = called_unique (judge_outcome_unique book) c.call d.call in
    (number, bytes)

pub check_call_unique : (book table answer : List ℕ) {n m : ℕ} {x y : List ℕ}
    → CheckCall book table answer n x
    → CheckCall book table answer m y
    → (n ≡ m) × (x ≡ y)
check_call_unique book table answer c d =
    let (number, none, bytes) = called_unique (check_same book table) c.call d.call in
    (number, bytes)

pub patterns_call_unique : (patterns lengths answer : List ℕ) {n m : ℕ} {x y : List ℕ}
    → PatternsCall patterns lengths answer n x
    → PatternsCall patterns lengths answer m y
    → (n ≡ m) × (x ≡ y)
patterns_call_unique patterns lengths answer c d =
    let (number, none, bytes) = called_unique (patterns_outcome_unique patterns lengths) c.call d.call in
    (number, bytes)

pub cut_call_unique : (patterns lengths line machine tokens answer : List ℕ) {n m : ℕ} {s t l k x y : List ℕ}
    → CutCall patterns lengths line machine tokens answer n s l x
    → CutCall patterns lengths line machine tokens answer m t k y
    → (n ≡ m) × (s ≡ t) × (l ≡ k) × (x ≡ y)
cut_call_unique patterns lengths line machine tokens answer c d =
    two_unique (CutOutcome patterns lengths line machine tokens) (λ r q o p. cut_outcome_unique o p) c.call d.call

pub cut_with_call_unique : (machine line tokens ends answer : List ℕ) {n m : ℕ} {s t l k x y : List ℕ}
    → CutWithCall machine line tokens ends answer n s l x
    → CutWithCall machine line tokens ends answer m t k y
    → (n ≡ m) × (s ≡ t) × (l ≡ k) × (x ≡ y)
cut_with_call_unique machine line tokens ends answer c d =
    two_unique (CutWithOutcome machine line tokens ends) (cut_with_same machine line tokens ends) c.call d.call

pub sets_call_unique : (book first follow answer : List ℕ) {n m : ℕ} {f g w v x y : List ℕ}
    → SetsCall book first follow answer n f w x
    → SetsCall book first follow answer m g v y
    → (n ≡ m) × (f ≡ g) × (w ≡ v) × (x ≡ y)
sets_call_unique book first follow answer c d =
    two_unique (SetsOutcome book first follow) (λ r q o p. sets_outcome_unique book first follow o p) c.call
    d.call

pub build_call_unique : (book first follow table answer : List ℕ) {n m : ℕ} {f g w v t u x y : List ℕ}
    → BuildCall book first follow table answer n f w t x
    → BuildCall book first follow table answer m g v u y
    → (n ≡ m) × (f ≡ g) × (w ≡ v) × (t ≡ u) × (x ≡ y)
build_call_unique book first follow table answer c d =
    three_unique (BuildOutcome book first follow table) (λ r q o p. build_outcome_unique book first follow table o p)
    c.call d.call

pub lookahead_call_unique : (book : List ℕ) (production : ℕ) (cells counts answer : List ℕ) {n m : ℕ}
    {s t l k x y : List ℕ}
    → LookaheadCall book production cells counts answer n s l x
    → LookaheadCall book production cells counts answer m t k y
    → (n ≡ m) × (s ≡ t) × (l ≡ k) × (x ≡ y)
lookahead_call_unique book production cells counts answer c d =
    two_unique (SetOutcome (LookaheadOutcome book production) cells counts)
    (set_outcome_unique (λ r q o p. lookahead_outcome_unique book production r q o p)) c.call d.call

pub first_call_unique : (book symbols cells counts answer : List ℕ) {n m : ℕ} {s t l k x y : List ℕ}
    → FirstCall book symbols cells counts answer n s l x
    → FirstCall book symbols cells counts answer m t k y
    → (n ≡ m) × (s ≡ t) × (l ≡ k) × (x ≡ y)
first_call_unique book symbols cells counts answer c d =
    two_unique (SetOutcome (FirstOutcome book symbols) cells counts)
    (set_outcome_unique (λ r q o p. first_outcome_unique book symbols r q o p)) c.call d.call

pub write_sheet_call_unique : (book sheet answer : List ℕ) {n m : ℕ} {s t x y : List ℕ}
    → WriteSheetCall book sheet answer n s x
    → WriteSheetCall book sheet answer m t y
    → (n ≡ m) × (s ≡ t) × (x ≡ y)
write_sheet_call_unique book sheet answer c d = called_unique (write_sheet_same book sheet) c.call d.call

pub read_sheet_call_unique : (sheet book answer : List ℕ) {n m : ℕ} {s t x y : List ℕ}
    → ReadSheetCall sheet book answer n s x
    → ReadSheetCall sheet book answer m t y
    → (n ≡ m) × (s ≡ t) × (x ≡ y)
read_sheet_call_unique sheet book answer c d = called_unique (read_sheet_same sheet book) c.call d.call

-- the words lose nothing: where the book and the table are shorter than 2 ^ 64, the answer read from them is an answer
-- of the function beneath
pub run_call_exact : {book table tokens stack list answer : List ℕ} {n : ℕ} {s l x : List ℕ}
    → length book < 2 ^ 64
    → length table < 2 ^ 64
    → Lent answer
    → RunCall book table tokens stack list answer n s l x
    → RunOutcome book table tokens stack list (answer_from n x) s l
run_call_exact b t lent c = called_exact (λ a o. run_fits b t o) lent c.call

pub expand_call_exact : {book list stack output answer : List ℕ} {n : ℕ} {s w x : List ℕ} → length book < 2 ^ 64
    → Lent answer
    → ExpandCall book list stack output answer n s w x
    → ExpandOutcome book list stack output (answer_from n x) s w
expand_call_exact b lent c = called_exact (λ a o. expand_fits b o) lent c.call

pub judge_call_exact : {book answer : List ℕ} {n : ℕ} {x : List ℕ} → length book < 2 ^ 64
    → Lent answer → JudgeCall book answer n x → JudgeOutcome book (answer_from n x)
judge_call_exact b lent c = called_exact (λ a o. judge_fits b o) lent c.call

pub check_call_exact : {book table answer : List ℕ} {n : ℕ} {x : List ℕ}
    → length book < 2 ^ 64
    → length table < 2 ^ 64
    → Lent answer
    → CheckCall book table answer n x
    → CheckOutcome book table (answer_from n x)
check_call_exact b t lent c = called_exact (λ a o. check_fits b t o) lent c.call

pub patterns_call_exact : {patterns lengths answer : List ℕ} {n : ℕ} {x : List ℕ} → length patterns < 2 ^ 64
    → Lent answer
    → PatternsCall patterns lengths answer n x
    → JudgePatterns patterns lengths (answer_from n x)
patterns_call_exact b lent c = called_exact (λ a o. patterns_fits b o) lent c.call

pub cut_call_exact : {patterns lengths line machine tokens answer : List ℕ} {n : ℕ} {s l x : List ℕ}
    → length patterns < 2 ^ 64
    → length line < 2 ^ 64
    → Lent answer
    → CutCall patterns lengths line machine tokens answer n s l x
    → CutOutcome patterns lengths line machine tokens (answer_from n x) s l
cut_call_exact b w lent c = called_exact (λ a o. cut_fits b w o) lent c.call

pub cut_with_call_exact : {machine line tokens ends answer : List ℕ} {n : ℕ} {s l x : List ℕ}
    → length line < 2 ^ 64
    → Lent answer
    → CutWithCall machine line tokens ends answer n s l x
    → CutWithOutcome machine line tokens ends (answer_from n x) s l
cut_with_call_exact w lent c = called_exact (λ a o. cut_with_fits w o) lent c.call

pub sets_call_exact : {book first follow answer : List ℕ} {n : ℕ} {f w x : List ℕ} → length book < 2 ^ 64
    → Lent answer → SetsCall book first follow answer n f w x → SetsOutcome book first follow (answer_from n x) f w
sets_call_exact b lent c = called_exact (λ a o. sets_fits b o) lent c.call

pub build_call_exact : {book first follow table answer : List ℕ} {n : ℕ} {f w t x : List ℕ} → length book < 2 ^ 64
    → Lent answer
    → BuildCall book first follow table answer n f w t x
    → BuildOutcome book first follow table (answer_from n x) f w t
build_call_exact b lent c = called_exact (λ a o. build_fits b o) lent c.call

pub lookahead_call_exact : {book : List ℕ} {production : ℕ} {cells counts answer : List ℕ} {n : ℕ} {s l x : List ℕ}
    → length book < 2 ^ 64
    → production < 2 ^ 64
    → LentCell cells counts answer
    → LookaheadCall book production cells counts answer n s l x
    → SetOutcome (LookaheadOutcome book production) cells counts (answer_from n x) s l
lookahead_call_exact {book} {production} b p lent c =
    called_exact (λ a o. subst FitsWords o.answer (lookahead_fits book production o.told b p o.outcome)) lent c.call

pub first_call_exact : {book symbols cells counts answer : List ℕ} {n : ℕ} {s l x : List ℕ} → length book < 2 ^ 64
    → LentCell cells counts answer
    → FirstCall book symbols cells counts answer n s l x
    → SetOutcome (FirstOutcome book symbols) cells counts (answer_from n x) s l
first_call_exact {book} {symbols} b lent c =
    called_exact (λ a o. subst FitsWords o.answer (first_fits book symbols o.told b o.outcome)) lent c.call

pub write_sheet_call_exact : {book sheet answer : List ℕ} {n : ℕ} {s x : List ℕ}
    → length book < 2 ^ 64
    → Lent answer
    → WriteSheetCall book sheet answer n s x
    → WriteOutcome book sheet (answer_from n x) s
write_sheet_call_exact b lent c = called_exact (λ a o. write_sheet_fits b o) lent c.call

pub read_sheet_call_exact : {sheet book answer : List ℕ} {n : ℕ} {s x : List ℕ}
    → length sheet < 2 ^ 64
    → Lent answer
    → ReadSheetCall sheet book answer n s x
    → ReadOutcome sheet book (answer_from n x) s
read_sheet_call_exact w lent c = called_exact (λ a o. read_sheet_fits w o) lent c.call

-- over and back by calls: a sheet that is read, and the bytes that it gave written again, with room for it
pub desk_sheet_book_sheet : {sheet book_room sheet_room book text answer again : List ℕ} {n m : ℕ} {x y : List ℕ}
    → Lent answer
    → Lent again
    → ReadSheetCall sheet book_room answer n book x
    → n ≡ served
    → length sheet ≤ length sheet_room
    → WriteSheetCall (take (answer_from n x).steps book) sheet_room again m text y
    → (m ≡ served) × (text ≡ over sheet sheet_room) × (y ≡ over (answer_bytes (done (length sheet))) again)
desk_sheet_book_sheet = call_sheet_book_sheet

-- and a book that is written as a sheet and read again
pub desk_book_sheet_book : {book sheet_room book_room sheet bytes answer again : List ℕ} {n m : ℕ} {x y : List ℕ}
    → Lent answer
    → Lent again
    → WriteSheetCall book sheet_room answer n sheet x
    → n ≡ served
    → length book ≤ length book_room
    → ReadSheetCall (take (answer_from n x).steps sheet) book_room again m bytes y
    → (m ≡ served) × (bytes ≡ over book book_room) × (y ≡ over (answer_bytes (done (length book))) again)
desk_book_sheet_book = call_book_sheet_book

-- a check that returns 0 had room for its answer
check_answer : {book table answer : List ℕ} {n : ℕ} {x : List ℕ}
    → Called {Buffers = Unit {0}} (Lent answer) (λ a after. CheckOutcome book table a) tt answer n tt x
    → n ≡ 0
    → (a : Answer) × (a.number ≡ 0) × CheckOutcome book table a
check_answer (short none) e = absurd (omega arith)
check_answer (answered {a = a} lent outcome) e = (a, e, outcome)

-- the demands of one call that lends an answer buffer long enough, its answer read back from the number returned and
-- the words written
module _ {answer : List ℕ} (lent : Lent answer) where
  module _ {book table tokens stack list : List ℕ} {n : ℕ} {s l x : List ℕ}
      (c : RunCall book table tokens stack list answer n s l x) where
    -- demand 3
    pub desk_run_meets3 :
        RunMeets3 book table tokens stack list (record { answer = answer_from n x; stack = s; list = l })
    desk_run_meets3 =
        let told = called_answer lent c.call in
        let read = answer_read told in
        let meets =
        run_meets3 book table tokens stack list (record { answer = told.told; stack = s; list = l })
        told.outcome in
        record {
          accepts = λ h m. meets.accepts h (sym read.number ∙ m);
          only_one = meets.only_one;
          served_or_room = λ h {ps} d. rw read.number (meets.served_or_room h d);
          room_iff = λ h {ps} d. rw read.number (meets.room_iff h d);
          decided = λ h need k. rw read.number (meets.decided h need k);
          place = λ h m.
              let longest = meets.place h (sym read.number ∙ m) in
              let same = read.place (omega (arith, longest.inside, h.short)) in
              subst (λ (k : ℕ). Longest h.built.grammar tokens k) (sym same) longest;
        }

    -- demand 2: with room, the string of a complete list runs back to the list
    pub desk_run_meets2 :
        RunMeets2 book table tokens stack list (record { answer = answer_from n x; stack = s; list = l })
    desk_run_meets2 =
        let told = called_answer lent c.call in
        record {
          back = λ {ps} h d k m.
              let (accepted, listed) =
              (run_meets2 book table tokens stack list (record { answer = told.told; stack = s; list = l })
              told.outcome).back h d k m in
              ((answer_read told).number ∙ accepted, listed);
        }

    -- steps = productions listed + tokens matched
    pub desk_run_steps_add :
        RunStepsAdd book table tokens stack list (record { answer = answer_from n x; stack = s; list = l })
    desk_run_steps_add =
        let told = called_answer lent c.call in
        let read = answer_read told in
        let adds =
        run_steps_add book table tokens stack list (record { answer = told.told; stack = s; list = l })
        told.outcome in
        record {
          sum = λ {g} serves admits.
              let counted = adds.sum serves admits in
              let (listed, matched) = ran_bounded g table tokens stack list in
              read.steps (omega (arith, admits.short)) ∙ counted;
          listed = adds.listed;
          none = λ m. let zero = adds.none m in read.steps (omega arith) ∙ zero;
        }

    -- the depth is the most stack cells held at any moment, and 0 where steps do not begin
    pub desk_run_depth :
        RunDepth book table tokens stack list (record { answer = answer_from n x; stack = s; list = l })
    desk_run_depth =
        let told = called_answer lent c.call in
        let read = answer_read told in
        let deep =
        run_depth book table tokens stack list (record { answer = told.told; stack = s; list = l })
        told.outcome in
        record {
          held = λ {g} serves admits.
              let (some, low) = deep.within serves admits in
              read.depth (omega arith) ∙ deep.held serves admits;
          within = λ {g} serves admits.
              let (some, low) = deep.within serves admits in
              rw (read.depth (omega arith)) (some, low);
          none = λ m. let zero = deep.none m in read.depth (omega arith) ∙ zero;
        }

    -- room by formula: with N × n list cells and 1 + 15 × N × n stack cells, both counted, it is never refused for room
    pub desk_run_formula :
        RunWithinFormula book table tokens stack list (record { answer = answer_from n x; stack = s; list = l })
    desk_run_formula =
        let told = called_answer lent c.call in
        let read = answer_read told in
        let within =
        run_formula book table tokens stack list (record { answer = told.told; stack = s; list = l })
        told.outcome in
        record {
          listed = λ h full.
              let (lists, steps) = within.listed h full in
              let (few, matched) = ran_bounded h.built.grammar table tokens stack list in
              let small = mul-le-mul (serves_limits h.built.serves).nonterminals_fit h.short in
              (lists, rw (read.steps (omega (arith, steps, matched, small, h.short))) steps);
          held = λ h full.
              let (low, deep) = within.held h full in
              let small = mul-le-mul (serves_limits h.built.serves).nonterminals_fit h.short in
              (low, rw (read.depth (omega (arith, deep, small))) deep);
          kept = within.kept;
          never_room = λ h full k m. rw read.number (within.never_room h full k m);
        }

  -- demand 3 on a table for which the check returned 0, whoever made it: of at most 4,096 tokens of its grammar
  pub desk_passed_run_meets3 : {book table tokens stack list other : List ℕ} {g : Grammar} {n : ℕ} {s l x y : List ℕ}
      → CheckCall book table other 0 y
      → Serves book g
      → length tokens ≤ longest_string
      → ((i : ℕ) → i < length tokens → get_or tokens i 0 < g.tokens)
      → RunCall book table tokens stack list answer n s l x
      → Premises book table tokens
      × RunMeets3 book table tokens stack list (record { answer = answer_from n x; stack = s; list = l })
  desk_passed_run_meets3 {book} {table} check serves few known c =
      let (a, told, outcome) = check_answer check.call refl in
      (passed_premises outcome told serves few known, desk_run_meets3 c)

  -- demand 2 of an expansion: given room, a complete list expands to the string that it derives
  pub desk_expand_meets2 : {book list stack output : List ℕ} {n : ℕ} {s v x : List ℕ}
      → ExpandCall book list stack output answer n s v x
      → ExpandMeets2 book list stack output (record { answer = answer_from n x; stack = s; output = v })
  desk_expand_meets2 {book} {list} {stack} {output} {n} {s} {v} c =
      let told = called_answer lent c.call in
      record {
        expands = λ {g} {w} serves d short h k.
            let (done, written) =
            (expand_meets2 book list stack output (record { answer = told.told; stack = s; output = v })
            told.outcome).expands serves d short h k in
            ((answer_read told).number ∙ done, written);
      }

  -- steps = productions used + tokens written
  pub desk_expand_steps_add : {book list stack output : List ℕ} {n : ℕ} {s v x : List ℕ}
      → ExpandCall book list stack output answer n s v x
      → ExpandStepsAdd book list stack output (record { answer = answer_from n x; stack = s; output = v })
  desk_expand_steps_add {book} {list} {stack} {output} {n} {s} {v} c =
      let told = called_answer lent c.call in
      let read = answer_read told in
      let adds =
      expand_steps_add book list stack output (record { answer = told.told; stack = s; output = v })
      told.outcome in
      record {
        sum = λ {g} serves short k.
            let told_sum = adds.sum serves short k in
            let spent = expand_steps g (counted stack) (counted output) list in
            read.steps (omega (arith, spent.used, spent.written)) ∙ told_sum;
        written = adds.written;
        none = λ m. let zero = adds.none m in read.steps (omega arith) ∙ zero;
      }

  pub desk_expand_depth : {book list stack output : List ℕ} {n : ℕ} {s v x : List ℕ}
      → ExpandCall book list stack output answer n s v x
      → ExpandDepth book list stack output (record { answer = answer_from n x; stack = s; output = v })
  desk_expand_depth {book} {list} {stack} {output} {n} {s} {v} c =
      let told = called_answer lent c.call in
      let read = answer_read told in
      let deep =
      expand_depth book list stack output (record { answer = told.told; stack = s; output = v })
      told.outcome in
      record {
        held = λ {g} serves short k.
            let (some, low) = deep.within serves short k in
            read.depth (omega arith) ∙ deep.held serves short k;
        within = λ {g} serves short k.
            let (some, low) = deep.within serves short k in
            rw (read.depth (omega arith)) (some, low);
        none = λ m. let zero = deep.none m in read.depth (omega arith) ∙ zero;
      }

  -- demand 2 of building: sets and tables have no member missing and none added, and a conflict is found exactly if two
  -- productions claim one cell
  pub desk_build_meets2 : {book first follow table : List ℕ} {n : ℕ} {f w t x : List ℕ}
      → BuildCall book first follow table answer n f w t x
      → BuildMeets2 book first follow table (record { answer = answer_from n x; first = f; follow = w; table = t })
  desk_build_meets2 {book} {first} {follow} {table} {n} {f} {w} {t} c =
      let told = called_answer lent c.call in
      let read = answer_read told in
      let meets =
      build_meets2 book first follow table (record { answer = told.told; first = f; follow = w; table = t })
      told.outcome in
      record {
        conflict_iff = λ {g} serves k. rw read.number (meets.conflict_iff serves k);
        done_iff = λ {g} serves k. rw read.number (meets.done_iff serves k);
        first_sets = λ {g} serves m. meets.first_sets serves (sym read.number ∙ m);
        follow_sets = λ {g} serves m. meets.follow_sets serves (sym read.number ∙ m);
        cells = λ {g} serves m. meets.cells serves (sym read.number ∙ m);
      }

-- how deep a call went, of two calls that lend answer buffers long enough and, but for the stack, the same
module _ {answer buffer : List ℕ} (lent : Lent answer) (given : Lent buffer) (stack other : List ℕ) where
  module _ {book table tokens list : List ℕ} {n m : ℕ} {s l x t k y : List ℕ}
      (c : RunCall book table tokens stack list answer n s l x)
      (d : RunCall book table tokens other list buffer m t k y) where
    -- with a stack that is not larger it goes the same way exactly if at least so many cells of it count
    pub desk_run_depth_exactly : counted other ≤ counted stack
        → ((answer_from m y ≡ answer_from n x) × (k ≡ l)) ↔ ((answer_from n x).depth ≤ counted other)
    desk_run_depth_exactly less =
        let r = called_answer lent c.call in
        let q = called_answer given d.call in
        exactly_read r q stack other (ran_counted r.outcome) (ran_counted q.outcome)
        (run_depth_exactly book table tokens stack list (record { answer = r.told; stack = s; list = l }) r.outcome
        other (record { answer = q.told; stack = t; list = k }) q.outcome less)

    -- with fewer it is refused for room, for want of stack
    pub desk_run_depth_least : counted other < (answer_from n x).depth
        → ((answer_from m y).number ≡ room) × ((answer_from m y).detail ≡ stack_room)
    desk_run_depth_least =
        let r = called_answer lent c.call in
        let q = called_answer given d.call in
        least_read r q stack other (ran_counted r.outcome) (ran_counted q.outcome)
        (run_depth_least book table tokens stack list (record { answer = r.told; stack = s; list = l }) r.outcome
        other (record { answer = q.told; stack = t; list = k }) q.outcome)

    -- and where it ends with 0 or 11, it goes the same way with a larger stack too
    pub desk_run_depth_enough : (n ≡ 0) ⊎ (n ≡ syntax)
        → (answer_from n x).depth ≤ counted other
        → (answer_from m y ≡ answer_from n x) × (k ≡ l)
    desk_run_depth_enough decides =
        let r = called_answer lent c.call in
        let q = called_answer given d.call in
        enough_read r q stack other (ran_counted r.outcome) (ran_counted q.outcome)
        (run_depth_enough book table tokens stack list (record { answer = r.told; stack = s; list = l }) r.outcome
        other (record { answer = q.told; stack = t; list = k }) q.outcome (rw r.returned at decides))

  module _ {book list output : List ℕ} {n m : ℕ} {s v x t w y : List ℕ}
      (c : ExpandCall book list stack output answer n s v x)
      (d : ExpandCall book list other output buffer m t w y) where
    -- the same of an expansion that is lent the same output
    pub desk_expand_depth_exactly : counted other ≤ counted stack
        → ((answer_from m y ≡ answer_from n x) × (w ≡ v)) ↔ ((answer_from n x).depth ≤ counted other)
    desk_expand_depth_exactly less =
        let r = called_answer lent c.call in
        let q = called_answer given d.call in
        exactly_read r q stack other (expanded_counted r.outcome) (expanded_counted q.outcome)
        (expand_depth_exactly book list stack output (record { answer = r.told; stack = s; output = v }) r.outcome
        other (record { answer = q.told; stack = t; output = w }) q.outcome less)

    pub desk_expand_depth_least : counted other < (answer_from n x).depth
        → ((answer_from m y).number ≡ room) × ((answer_from m y).detail ≡ stack_room)
    desk_expand_depth_least =
        let r = called_answer lent c.call in
        let q = called_answer given d.call in
        least_read r q stack other (expanded_counted r.outcome) (expanded_counted q.outcome)
        (expand_depth_least book list stack output (record { answer = r.told; stack = s; output = v }) r.outcome
        other (record { answer = q.told; stack = t; output = w }) q.outcome)

    -- it goes the same way with a larger stack where it ends with 0 or 12
    pub desk_expand_depth_enough : (n ≡ 0) ⊎ (n ≡ production)
        → (answer_from n x).depth ≤ counted other
        → (answer_from m y ≡ answer_from n x) × (w ≡ v)
    desk_expand_depth_enough decides =
        let r = called_answer lent c.call in
        let q = called_answer given d.call in
        enough_read r q stack other (expanded_counted r.outcome) (expanded_counted q.outcome)
        (expand_depth_enough book list stack output (record { answer = r.told; stack = s; output = v }) r.outcome
        other (record { answer = q.told; stack = t; output = w }) q.outcome (rw r.returned at decides))

-- an answer buffer has 40 bytes or more
pub answer_size_lem : answer_size ≡ 40
unfolding answer_size answer_bytes little_endian
answer_size_lem = refl

-- a bottom-up run allows one outcome
pub slr_run_call_unique : (book table tokens stack list answer : List ℕ) {n m : ℕ} {s t l k x y : List ℕ}
    → SlrRunCall book table tokens stack list answer n s l x
    → SlrRunCall book table tokens stack list answer m t k y
    → (n ≡ m) × (s ≡ t) × (l ≡ k) × (x ≡ y)
slr_run_call_unique book table tokens stack list answer c d =
    two_unique (SlrRunOutcome book table tokens stack list)
    (λ r q o p. slr_run_outcome_unique book table tokens stack list o p) c.call d.call

-- and meets demand 3, its answer read back from the number returned and the words written
pub desk_slr_run_meets3 : {answer : List ℕ}
    → Lent answer
    → {book table tokens stack list : List ℕ} {n : ℕ} {s l x : List ℕ}
    → SlrRunCall book table tokens stack list answer n s l x
    → SlrMeets3 book table tokens stack list (record { answer = answer_from n x; stack = s; list = l })
desk_slr_run_meets3 lent {book} {table} {tokens} {stack} {list} {n} {s} {l} c =
    let told = called_answer lent c.call in
    let read = answer_read told in
    let meets =
    slr_run_meets3 book table tokens stack list (record { answer = told.told; stack = s; list = l })
    told.outcome in
    record {
      accepts = λ h m. meets.accepts h (sym read.number ∙ m);
      only_one = meets.only_one;
      served_or_room = λ h {ps} d. rw read.number (meets.served_or_room h d);
      room_iff = λ h {ps} d. rw read.number (meets.room_iff h d);
    }
