-- The invariant of a run: the buffers hold a state from which the machine comes to the run's outcome on the tokens that are left.
use Rattle.std.specs.Prelude.{Option, Some, None, Ok, Err}
use mathlib.Core.Path.{◌≡◌, refl, sym, ◌∙◌, ap, subst, subst₂}
use mathlib.Core.List.{List, [], ◌∷◌}
use mathlib.Core.Option as math
use Prim.Native.Nat.{ℕ, suc, ◌+◌, ◌-◌, ◌%◌, ◌≤◌, ◌<◌, min}
use native.Mathlib.Numerals.{add-one}
use native.Mathlib.Omega.{arith}
use lib.ListN.{length, get_or, drop, set, replicate, length-append, length-set, drop_of_length-le}
use lib.Seq.{drop-cons}
use Rattle.grammar.specs.Grammar.{Form, Grammar, Column, nothing, each}
use Rattle.grammar.specs.Machine.{front}
use Rattle.grammar.specs.declared.Symbol.TheVariants.{Nonterminal}
use Rattle.answers.specs.Buffers.{over, counted, cleared}
use Rattle.reader.specs.Book.{byte_of}
use Rattle.book.specs.Columns.{grammar_in, outlined}
use Rattle.book.specs.declared.Index.{Index}
use Rattle.table.specs.Table.{cell_of}
use Rattle.machine.specs.Machine.{State, Offered, taken, stopped, begun, offer, run_from, final}
use Rattle.machine.specs.declared.Reason.{Reason}
use Rattle.machine.specs.Room.{right_of}
use Rattle.machine.proofs.Promise.{Grown, gained, offer_grown, run_taken, run_stopped}
use Rattle.stack.specs.Ahead.{column_in}
use Rattle.stack.specs.Stack.{stacked}
use Rattle.stack.proofs.Promise.{length_over, over_over, nonterminal_spelled, stacked_open, length_stacked, stacked_again}
use Rattle.offer.specs.Strings.{Stepped, ran, StringOutcome, ended}
use Rattle.offer.specs.Offering.{Holds, Offering, OfferedAt}
use Rattle.offer.specs.Resuming.{progress_of, reported}
use Rattle.offer.specs.declared.Progress.{Progress}
use Rattle.offer.specs.Reply.{Reply}
use Rattle.offer.specs.declared.Halt.{Halt}

module _ {s : State} {at : Progress} {stack₀ list₀ stack list : List ℕ} (h : Holds s at stack₀ list₀ stack list) where
  pub holds_stack_length : length stack ≡ length stack₀
  holds_stack_length = ap length h.stack_cells ∙ length_stacked s.stack s.height stack₀ h.highest (omega (arith, h.stack_room))

  pub holds_list_length : length list ≡ length list₀
  holds_list_length = ap length h.list_cells ∙ length_over s.listed list₀ (omega (arith, h.list_room))

  -- the buffers hold the state as they are
  pub holds_again : Holds s at stack list stack list
  holds_again =
      record {
        height = h.height;
        listed = h.listed;
        matched = h.matched;
        deepest = h.deepest;
        moves = h.moves;
        highest = h.highest;
        stack_room = omega (arith, h.stack_room, holds_stack_length);
        list_room = omega (arith, h.list_room, holds_list_length);
        spelled = h.spelled;
        stack_cells = h.stack_cells ∙ sym (ap (stacked s.stack s.height) h.stack_cells ∙ stacked_again s.stack s.height stack₀ h.highest);
        list_cells = h.list_cells ∙ sym (ap (over s.listed) h.list_cells ∙ over_over s.listed s.listed list₀ (omega arith));
      }

-- the start symbol stands on the stack
begun_held : (A : ℕ) (stack list : List ℕ)
    → 1 ≤ length stack
    → Holds (begun A) (record { height = 1; listed = 0; matched = 0; deepest = 1 }) (set stack 0 (byte_of (Nonterminal A))) list (set stack 0 (byte_of (Nonterminal A))) list
unfolding begun
begun_held A stack list h =
    record {
      height = refl;
      listed = refl;
      matched = refl;
      deepest = refl;
      moves = refl;
      highest = omega arith;
      stack_room = omega (arith, length-set stack 0 (byte_of (Nonterminal A)));
      list_room = omega arith;
      spelled = each (nonterminal_spelled A) nothing;
      stack_cells = stacked_open (Nonterminal A) stack h;
      list_cells = refl;
    }

module _ (right : ℕ → Form) (cell : ℕ → Column → math.Option ℕ) (room cells : ℕ) (s : State) where
  -- a stop ends the run, and so does the end mark
  stop_ends : (w : List ℕ) {q : Reason} {e : State} → offer right cell room cells (cells - length s.listed) (front w) s ≡ stopped q e → run_from right cell room cells w s ≡ stopped q e
  unfolding run_from
  stop_ends [] f = f
  stop_ends (t ∷ w) f = run_stopped right cell room cells t w s f

  end_ends : (w : List ℕ) → w ≡ [] → offer right cell room cells (cells - length s.listed) (front w) s ≡ run_from right cell room cells w s
  unfolding run_from
  end_ends w e = rw e

  -- a token that is taken is matched
  taken_on : (w v : List ℕ) {t : ℕ} {e : State} → w ≡ t ∷ v → offer right cell room cells (cells - length s.listed) (front w) s ≡ taken e → (run_from right cell room cells w s ≡ run_from right cell room cells v e) × (gained (front w) (offer right cell room cells (cells - length s.listed) (front w) s) ≡ 1)
  unfolding gained
  taken_on w v {t} same f = rw same (run_taken right cell room cells t v s (rw same at f), rw (rw same at f))

-- what is offered is at the front of the tokens that are left
pub front_token : (tokens : List ℕ) {i matched : ℕ} → i < length tokens → matched ≡ i → column_in (Some (get_or tokens i 0)) ≡ front (drop matched tokens)
unfolding column_in
front_token tokens {i} h e = rw (e, drop-cons tokens i 0 h)

pub front_end : (tokens : List ℕ) {i matched : ℕ} → length tokens ≤ i → matched ≡ i → column_in None ≡ front (drop matched tokens)
unfolding column_in
front_end tokens h e = rw (e, drop_of_length-le tokens h)

module _ (book : List ℕ) (index : Index) (table tokens stack₀ list₀ : List ℕ) where
  abbrev right : ℕ → Form
  right = right_of (grammar_in book index)

  abbrev cell : ℕ → Column → math.Option ℕ
  cell = cell_of (grammar_in book index) table

  abbrev pub whole : Offered
  whole = ran (grammar_in book index) table tokens stack₀ list₀

  pub record Running (at : Progress) (stack list : List ℕ) : Type 0 where
    pub state : State
    pub same : run_from right cell (counted stack₀) (counted list₀) (drop at.matched tokens) state ≡ whole
    pub holds : Holds state at stack list stack list
    pub inside : at.matched ≤ length tokens
    pub lists : list ≡ over state.listed list₀
    pub stack_length : length stack ≡ length stack₀
    pub list_length : length list ≡ length list₀

  -- what the run leaves before the stack is cleared
  abbrev Ends : Reply → List ℕ → List ℕ → Type 0
  Ends = Stepped (grammar_in book index) table tokens stack₀ list₀

  pub running_start : (stack : List ℕ) → 1 ≤ length stack → stack₀ ≡ set stack 0 (byte_of (Nonterminal (index.outline.start % 128))) → Running (record { height = 1; listed = 0; matched = 0; deepest = 1 }) stack₀ list₀
  unfolding ran begun outlined
  running_start stack h e =
      record {
        state = begun (index.outline.start % 128);
        same = refl;
        holds = rw e (begun_held (index.outline.start % 128) stack list₀ h);
        inside = omega arith;
        lists = refl;
        stack_length = refl;
        list_length = refl;
      }

  module _ {at : Progress} {stack list : List ℕ} (w : Running at stack list) where
    -- the offer of what comes next
    abbrev rest : List ℕ
    rest = drop at.matched tokens

    abbrev left : ℕ
    left = counted list₀ - length w.state.listed

    abbrev next : Offered
    next = offer right cell (counted stack₀) (counted list₀) left (front rest) w.state

    module _ {a : Option ℕ} {r : Reply} {stack' list' : List ℕ} (ahead : column_in a ≡ front rest)
        (offered : OfferedAt book index table a at stack list r stack' list') where
      offering : Offering next stack list r stack' list'
      offering =
          let room : counted stack ≡ counted stack₀ = ap (λ (n : ℕ). min n 65535) w.stack_length in
          let cells : counted list ≡ counted list₀ = ap (λ (n : ℕ). min n 65535) w.list_length in
          let same : offer right cell (counted stack) (counted list) (counted list - at.listed) (column_in a) w.state ≡ next = rw (room, cells, ahead, w.holds.listed) in
          subst (λ (x : Offered). Offering x stack list r stack' list') same (offered.offers w.state w.holds)

      grown : Grown w.state (final next) (gained (front rest) next)
      grown = offer_grown right cell (counted stack₀) (counted list₀) left (front rest) w.state (omega (arith, w.holds.list_room, w.list_length))

      lists_on : list' ≡ over (final next).listed list₀
      lists_on =
          let longer : length w.state.listed ≤ length (final next).listed = omega (arith, ap length grown.lists, length-append w.state.listed grown.new) in
          offering.holds.list_cells ∙ ap (over (final next).listed) w.lists ∙ over_over w.state.listed (final next).listed list₀ longer

      -- the outcome of the last offer is the run's
      ends : next ≡ whole → Ends r stack' list'
      ends same =
          record {
            answer = offering.answer ∙ ap reported same;
            lists = lists_on ∙ ap (λ (x : Offered). over (final x).listed list₀) same;
            stack_length = holds_stack_length offering.holds ∙ w.stack_length;
            list_length = holds_list_length offering.holds ∙ w.list_length;
          }

      pub running_stopped : {e : Halt} → r ≡ Err e → Ends (Err e) stack' list'
      unfolding reported
      running_stopped {e} stops = subst (λ (y : Reply). Ends y stack' list') stops (go next refl)
        where
          go : (y : Offered) → next ≡ y → Ends r stack' list'
          go (taken s) f = let answer : r ≡ reported (taken s) = offering.answer ∙ ap reported f in let bad : ◌≡◌ {A = ℕ} 0 1 = cc in absurd (omega arith)
          go (stopped q s) f = ends (f ∙ sym (stop_ends right cell (counted stack₀) (counted list₀) w.state rest f) ∙ w.same)

      pub running_over : length tokens ≤ at.matched → Ends r stack' list'
      running_over h = ends (end_ends right cell (counted stack₀) (counted list₀) w.state rest (drop_of_length-le tokens h) ∙ w.same)

      pub running_next : {x : Progress} → r ≡ Ok x → at.matched < length tokens → Running x stack' list' × (x.matched ≡ at.matched + 1)
      unfolding reported progress_of final
      running_next {x} e h = go next refl
        where
          go : (y : Offered) → next ≡ y → Running x stack' list' × (x.matched ≡ at.matched + 1)
          go (stopped q s) f = let answer : r ≡ reported (stopped q s) = offering.answer ∙ ap reported f in let bad : ◌≡◌ {A = ℕ} 0 1 = cc in absurd (omega arith)
          go (taken s) f =
              let here : x ≡ progress_of s = let answer : r ≡ reported (taken s) = offering.answer ∙ ap reported f in cc in
              let (on, one) = taken_on right cell (counted stack₀) (counted list₀) w.state rest (drop (suc at.matched) tokens) (drop-cons tokens at.matched 0 h) f in
              let left_in : final next ≡ s = ap final f in
              let matched : x.matched ≡ at.matched + 1 = omega (arith, ap (λ (z : Progress). z.matched) here, ap (λ (z : State). z.matched) left_in, grown.matches, one, w.holds.matched) in (
                record {
                  state = s;
                  same = rw (matched, add-one at.matched) (sym on ∙ w.same);
                  holds = holds_again (subst₂ (λ (z : State) (p : Progress). Holds z p stack list stack' list') left_in (ap progress_of left_in ∙ sym here) offering.holds);
                  inside = omega arith;
                  lists = lists_on ∙ ap (λ (z : State). over z.listed list₀) left_in;
                  stack_length = holds_stack_length offering.holds ∙ w.stack_length;
                  list_length = holds_list_length offering.holds ∙ w.list_length;
                },
                matched,
              )

-- that the start symbol is put on the stack changes no room
pub stepped_from : {g : Grammar} {table tokens : List ℕ} (stack : List ℕ) (b : ℕ) {stack₀ list : List ℕ}
    {r : Reply} {stack' list' : List ℕ}
    → stack₀ ≡ set stack 0 b
    → Stepped g table tokens stack₀ list r stack' list'
    → Stepped g table tokens stack list r stack' list'
unfolding ran
stepped_from {g} {table} {tokens} stack b {stack₀} {list} e h =
    let long : length stack₀ ≡ length stack = ap length e ∙ length-set stack 0 b in
    let same : ran g table tokens stack₀ list ≡ ran g table tokens stack list = rw long in
    record {
      answer = h.answer ∙ ap reported same;
      lists = h.lists ∙ ap (λ (x : Offered). over (final x).listed list) same;
      stack_length = h.stack_length ∙ long;
      list_length = h.list_length;
    }

-- the steps, and then the cleared stack
pub stepped_cleared : {g : Grammar} {table tokens stack list : List ℕ} {r : Reply} {stack' list' cells : List ℕ}
    → 1 ≤ length stack
    → Stepped g table tokens stack list r stack' list'
    → cells ≡ cleared stack'
    → StringOutcome g table tokens stack list r cells list'
stepped_cleared h steps clears =
    let cells_are = clears ∙ ap (λ (n : ℕ). replicate n 0) steps.stack_length in
    rw (steps.answer, cells_are, steps.lists) (ended h)
