-- Offers make a run: what is offered column by column comes to what the machine makes of the whole string.
use Rattle.std.specs.Prelude.{Result, Ok, Err}
use mathlib.Core.Path.{◌≡◌, refl, sym, ◌∙◌, ap, subst}
use mathlib.Core.Logic.{◌≢◌}
use mathlib.Core.List.{List, [], ◌∷◌}
use mathlib.Core.Option as math
use Prim.Native.Nat.{ℕ, suc, ◌+◌, ◌-◌, ◌%◌, ◌≤◌, ◌<◌, min, max}
use native.Mathlib.Decide.{dec_lt}
use native.Mathlib.Omega.{arith}
use borrow.Author.Tests.{lt-ltb, le-ltb}
use lib.ListN.{length, get_or, drop, replicate, length-append, length-set}
use lib.Seq.{length-take-le, take_at}
use Rattle.grammar.specs.Grammar.{Form, Grammar, Column, token, endmark, Every}
use Rattle.grammar.specs.declared.Symbol.TheVariants.{Nonterminal}
use Rattle.grammar.specs.declared.Symbol.{Symbol}
use Rattle.sets.specs.declared.Set.{Set}
use Rattle.answers.specs.declared.Answer.{Answer}
use Rattle.answers.specs.Answers.{done, at_depth}
use Rattle.answers.specs.Buffers.{over, counted}
use Rattle.answers.specs.Limits.{most_cells}
use Rattle.reader.specs.Book.{byte_of}
use Rattle.book.specs.Columns.{grammar_in, outlined, production_at}
use Rattle.book.specs.declared.Index.{Index}
use Rattle.book.specs.declared.columns.Outline.{Outline}
use Rattle.book.proofs.Promise.{production_found, production_missing}
use Rattle.table.specs.Table.{column_of, cell_of}
use Rattle.machine.specs.Machine.{State, Offered, taken, stopped, begun, popped, replaced, final, offer, run_from}
use Rattle.machine.specs.Room.{right_of}
use Rattle.machine.specs.declared.Reason.{Reason}
use Rattle.machine.proofs.Promise as walk
use Rattle.machine.proofs.Promise.{Walk, here, match, expand, ComesTo, offer_answers, run_taken, run_stopped}
use Rattle.machine.proofs.Promise.{Counted, Grown, gained, halt_final, offer_counted, offer_grown, run_grown}
use Rattle.stack.specs.Stack.{Spelled, spelled_by, stacked}
use Rattle.stack.proofs.Promise.{symbols_spelled, cells_spelled, nonterminal_spelled, every_append, every_rest}
use Rattle.stack.proofs.Promise.{length_spelled, length_stacked, spelled_stacked, length_over, over_over}
use Rattle.offer.specs.Resuming.{OfferResult, progress_of, reported, clamped, standing, offered_to, Offers, OfferedOn, OfferOutcome, refused, offered}
use Rattle.offer.specs.Stops.{expected, answered, run_answer, values_of, deepest_in, answer_of}
use Rattle.offer.specs.Strings.{ran}
use Rattle.offer.specs.declared.Progress.{Progress}
use Rattle.offer.specs.declared.Halt.TheVariants.{Refused}
use Rattle.offer.specs.Reply.{Reply}
use Rattle.offer.proofs.Promise.{offer_outcome_unique}
use Rattle.run.specs.Judged.{JudgedRun, RanOn, ran_on}
use Rattle.run.specs.Judged as judged
use Rattle.demands.specs.Offers.{grammar_on, start_on, at_start, OfferedInTurn, at_end, stops, goes_on, deepest_of, MakesRun}
use Rattle.demands.proofs.Height.{Alike, AlikeEnds, both_taken, both_stopped, alike_final, run_alike}

-- every right side of a book is spelled by its bytes
rights_spelled : (book places : List ℕ) (o : Outline) (p : ℕ) → Every Spelled (right_of (outlined book places o) p)
unfolding right_of production_at
rights_spelled book places o p = go (dec_lt p o.productions)
  where
    go : Dec (p < o.productions) → Every Spelled (right_of (outlined book places o) p)
    go (yes h) = rw (production_found book places o h, right_of) (symbols_spelled book _ _)
    go (no n) = rw (production_missing book places o {p = p} (omega arith), right_of) Every.nothing

-- what holds of each symbol of the right sides and of the stack, an offer keeps
module _ {right : ℕ → Form} {cell : ℕ → Column → math.Option ℕ} {room cells : ℕ} {P : Symbol → Type 0}
    (rights : (p : ℕ) → Every P (right p)) where
  walk_every : {z : List ℕ} {e : State} {w : List ℕ} {s : State}
      → Walk right cell room cells z e w s
      → Every P s.stack
      → Every P e.stack
  unfolding popped replaced
  walk_every here h = h
  walk_every (match f r) h = walk_every r (every_rest (subst (λ (α : Form). Every P α) f h))
  walk_every (expand {p = p} f c l m r) h =
      walk_every r (every_append (rights p) (every_rest (subst (λ (α : Form). Every P α) f h)))

  comes_every : {w : List ℕ} {s : State} {o : Offered}
      → ComesTo right cell room cells w s o
      → Every P s.stack
      → Every P (final o).stack
  unfolding final
  comes_every (walk.goes_on f r) h = walk_every r h
  comes_every (walk.ends r k) h = subst (λ (e : State). Every P e.stack) (sym (halt_final k)) (walk_every r h)

offer_every : (right : ℕ → Form) (cell : ℕ → Column → math.Option ℕ) (room cells : ℕ) {P : Symbol → Type 0}
    → ((p : ℕ) → Every P (right p))
    → (l : ℕ) (c : Column) (s : State)
    → length s.listed + l ≡ cells
    → Every P s.stack
    → Every P (final (offer right cell room cells l c s)).stack
offer_every right cell room cells rights l (token t) s e h =
    comes_every rights (offer_answers right cell room cells (t ∷ []) l s e) h
offer_every right cell room cells rights l endmark s e h =
    comes_every rights (offer_answers right cell room cells [] l s e) h

answered_alike : (e : Reason → Set) {before : ℕ} {o q : Offered} → AlikeEnds before o q → answered e o ≡ answered e q
unfolding answered
answered_alike e (both_taken a) = ap done a.moves
answered_alike e (both_stopped a) = rw (a.matched, a.moves)

-- where the machine was higher before, the answer is the same at the greater of the two depths
raised_answer : (g : Grammar) (table : List ℕ) {before : ℕ} {o q : Offered}
    → AlikeEnds before o q
    → (deepest : ℕ) (values : Answer)
    → at_depth deepest values ≡ run_answer g table o
    → at_depth (max before deepest) values ≡ run_answer g table q
unfolding run_answer at_depth
raised_answer g table {before} {o} {q} a deepest values e =
    let depth : deepest ≡ (final o).height = ap (λ (x : Answer). x.depth) e in
    let height : max before deepest ≡ (final q).height = omega (arith, (alike_final a).height) in
    ap (λ (x : Answer). at_depth (max before deepest) x) e
    ∙ ap (λ (x : Answer). at_depth (max before deepest) x) (answered_alike (expected g table) a)
    ∙ ap (λ (n : ℕ). at_depth n (answered (expected g table) q)) height

-- the counts are within the room, and n tokens more can be counted
record Within (at : Progress) (stack list : List ℕ) (n : ℕ) : Type 0 where
  pub some_cell : 1 ≤ length stack
  pub height : at.height ≤ counted stack
  pub listed : at.listed ≤ counted list
  pub matched : at.matched + n ≤ most_cells

module _ {at : Progress} {stack list : List ℕ} {n : ℕ} (h : Within at stack list n) where
  -- so they count as they are, all but the most cells held, which is not believed
  within_clamped : clamped at (length stack) (length list)
      ≡ record { height = at.height; listed = at.listed; matched = at.matched; deepest = at.height }
  unfolding clamped
  within_clamped =
      let height : min at.height (counted stack) ≡ at.height = omega (arith, h.height) in
      let listed : min at.listed (counted list) ≡ at.listed = omega (arith, h.listed) in
      let matched : min at.matched most_cells ≡ at.matched = omega (arith, h.matched) in
      λ i. record { height = height i; listed = listed i; matched = matched i; deepest = height i }

  within_listed : length (standing at stack list).listed ≡ at.listed
  unfolding standing
  within_listed = length-take-le at.listed list (omega (arith, h.listed))

  within_counted : Counted (counted stack) (counted list) (standing at stack list)
  unfolding standing
  within_counted =
      record {
        steps = omega (arith, within_listed);
        list_fits = omega (arith, within_listed, h.listed);
        stack_within = omega (arith, length_spelled stack at.height);
        height_fits = λ k. h.height;
      }

module _ (book : List ℕ) (index : Index) (table : List ℕ) where
  abbrev g : Grammar
  g = grammar_in book index

  -- the run of tokens from the state that the buffers spell
  abbrev runs : List ℕ → Progress → List ℕ → List ℕ → Offered
  runs w at stack list = run_from (right_of g) (cell_of g table) (counted stack) (counted list) w (standing at stack list)

  -- the offer of a column to that state
  abbrev offers : Column → Progress → List ℕ → List ℕ → Offered
  offers c at stack list =
      offer (right_of g) (cell_of g table) (counted stack) (counted list)
      (counted list - length (standing at stack list).listed) c (standing at stack list)

  -- what was lent this stack and list comes to the outcome, with so many cells held at most
  record Comes (o : Offered) (stack list : List ℕ) (r : Reply) (deepest : ℕ) (stack' list' : List ℕ) : Type 0 where
    pub answer : at_depth deepest (values_of g table r) ≡ run_answer g table o
    pub lists : list' ≡ over (final o).listed list
    pub stack_length : length stack' ≡ length stack

  column_token : {t : ℕ} → t < index.outline.tokens → column_of g t ≡ token t
  unfolding column_of outlined
  column_token {t} h = rw (lt-ltb t index.outline.tokens h, column_of)

  column_end : column_of g index.outline.tokens ≡ endmark
  unfolding column_of outlined
  column_end = let h : index.outline.tokens ≤ index.outline.tokens = omega arith in rw (le-ltb index.outline.tokens index.outline.tokens h, column_of)

  module _ {at : Progress} {stack list : List ℕ} {n : ℕ} (h : Within at stack list n) {column : ℕ} {c : Column}
      (same : column_of g column ≡ c) {r : Reply} {stack' list' : List ℕ}
      (on : OfferedOn g table column at stack list r stack' list') where
    offered_is : offered_to g table column (clamped at (length stack) (length list)) stack list ≡ offers c at stack list
    unfolding offered_to standing
    offered_is = rw (within_clamped h, same, within_listed h)

    left_is : length (standing at stack list).listed + (counted list - length (standing at stack list).listed) ≡ counted list
    left_is = omega (arith, within_listed h, h.listed)

    step_offers : Offers (offers c at stack list) stack list r stack' list'
    step_offers = subst (λ (o : Offered). Offers o stack list r stack' list') offered_is on.offers

    step_counted : Counted (counted stack) (counted list) (final (offers c at stack list))
    step_counted =
        offer_counted (right_of g) (cell_of g table) (counted stack) (counted list)
        (counted list - length (standing at stack list).listed) c (standing at stack list) left_is (within_counted h)

    step_grown : Grown (standing at stack list) (final (offers c at stack list)) (gained c (offers c at stack list))
    step_grown =
        offer_grown (right_of g) (cell_of g table) (counted stack) (counted list)
        (counted list - length (standing at stack list).listed) c (standing at stack list) left_is

    step_spelled : Every Spelled (final (offers c at stack list)).stack
    unfolding standing
    step_spelled =
        offer_every (right_of g) (cell_of g table) (counted stack) (counted list)
        (rights_spelled book index.places index.outline)
        (counted list - length (standing at stack list).listed) c (standing at stack list) left_is
        (cells_spelled stack at.height)

    step_comes : Comes (offers c at stack list) stack list r (deepest_in r) stack' list'
    unfolding answer_of
    step_comes =
        let o : Offered = offers c at stack list in
        let low : (final o).height ≤ counted stack = step_counted.height_fits (omega (arith, h.some_cell)) in
        record {
          answer = on.told ∙ ap (run_answer g table) offered_is;
          lists = step_offers.list_cells;
          stack_length = ap length step_offers.stack_cells
              ∙ length_stacked (final o).stack (final o).height stack step_counted.stack_within (omega arith);
        }

  -- the buffers as they are left spell the state that the machine came to
  left_alike : (e : State) (stack list : List ℕ)
      → Every Spelled e.stack
      → e.moves ≡ length e.listed + e.matched
      → length e.stack ≤ e.height
      → Alike e.height (standing (progress_of e) (stacked e.stack e.height stack) (over e.listed list)) e
  unfolding standing progress_of
  left_alike e stack list spelled steps high =
      record {
        stack = spelled_stacked spelled e.height stack;
        listed = take_at e.listed (drop (length e.listed) list) (length e.listed) refl;
        matched = refl;
        moves = sym steps;
        height = omega arith;
      }

  -- a token is taken, and the run goes on from what the offer left
  record Goes (t : ℕ) (at : Progress) (stack list : List ℕ) (next : Progress) (stack₁ list₁ : List ℕ) (n : ℕ) : Type 0 where
    pub state : State
    pub comes : offers (token t) at stack list ≡ taken state
    pub alike : Alike next.deepest (standing next stack₁ list₁) state
    pub lists : list₁ ≡ over state.listed list
    pub stack_length : length stack₁ ≡ length stack
    pub list_length : length list₁ ≡ length list
    pub within : Within next stack₁ list₁ n

  module _ {at : Progress} {stack list : List ℕ} {n : ℕ} (h : Within at stack list (suc n)) {t : ℕ}
      (small : t < index.outline.tokens) {next : Progress} {stack₁ list₁ : List ℕ}
      (on : OfferedOn g table t at stack list (Ok next) stack₁ list₁) where
    abbrev last : State
    last = final (offers (token t) at stack list)

    goes_taken : (e : State) → offers (token t) at stack list ≡ taken e → Goes t at stack list next stack₁ list₁ n
    unfolding reported progress_of final standing gained
    goes_taken e f =
        let same : column_of g t ≡ token t = column_token small in
        let x = step_offers h same on in
        let counts = step_counted h same on in
        let comes = step_comes h same on in
        let left_in : last ≡ e = ap final f in
        let here : next ≡ progress_of last =
        (let answer : Ok next ≡ reported (taken e) = x.answer ∙ ap reported f in
        let there : next ≡ progress_of e = cc in
        there ∙ ap progress_of (sym left_in)) in
        let one : gained (token t) (offers (token t) at stack list) ≡ 1 = ap (gained (token t)) f in
        let matched : last.matched ≡ at.matched + 1 = omega (arith, (step_grown h same on).matches) in
        let low : last.height ≤ counted stack = counts.height_fits (omega (arith, h.some_cell)) in
        let long : length list₁ ≡ length list =
        ap length comes.lists ∙ length_over last.listed list (omega (arith, counts.list_fits)) in
        record {
          state = last;
          comes = f ∙ ap taken (sym left_in);
          alike = rw (here, x.stack_cells, x.list_cells) (left_alike last stack list (step_spelled h same on) counts.steps counts.stack_within);
          lists = comes.lists;
          stack_length = comes.stack_length;
          list_length = long;
          within =
              record {
                some_cell = omega (arith, h.some_cell, comes.stack_length);
                height = omega (arith, ap (λ (p : Progress). p.height) here, counts.stack_within, comes.stack_length);
                listed = omega (arith, ap (λ (p : Progress). p.listed) here, counts.list_fits);
                matched = omega (arith, ap (λ (p : Progress). p.matched) here, h.matched);
              };
        }

    goes_next : Goes t at stack list next stack₁ list₁ n
    unfolding reported
    goes_next = go (offers (token t) at stack list) refl
      where
        go : (o : Offered) → offers (token t) at stack list ≡ o → Goes t at stack list next stack₁ list₁ n
        go (stopped q e) f =
            let answer : Ok next ≡ reported (stopped q e) = (step_offers h (column_token small) on).answer ∙ ap reported f in
            let bad : ◌≡◌ {A = ℕ} 0 1 = cc in absurd (omega arith)
        go (taken e) f = goes_taken e f

  module _ {t : ℕ} (w : List ℕ) {at : Progress} {stack list : List ℕ} {next : Progress} {stack₁ list₁ : List ℕ} {n : ℕ}
      (k : Goes t at stack list next stack₁ list₁ n) where
    -- the rest of the run from what was left, and from where the machine came to
    goes_alike : AlikeEnds next.deepest (runs w next stack₁ list₁) (runs (t ∷ w) at stack list)
    goes_alike =
        let room : counted stack₁ ≡ counted stack = ap (λ (n : ℕ). min n most_cells) k.stack_length in
        let cells : counted list₁ ≡ counted list = ap (λ (n : ℕ). min n most_cells) k.list_length in
        let on = run_taken (right_of g) (cell_of g table) (counted stack) (counted list) t w (standing at stack list) k.comes in
        subst (λ (o : Offered). AlikeEnds next.deepest (runs w next stack₁ list₁) o) (rw (room, cells) (sym on))
        (run_alike (right_of g) (cell_of g table) (counted stack₁) (counted list₁) w k.alike)

    goes_comes : {r : Reply} {deepest : ℕ} {stack' list' : List ℕ}
        → Comes (runs w next stack₁ list₁) stack₁ list₁ r deepest stack' list'
        → Comes (runs (t ∷ w) at stack list) stack list r (max next.deepest deepest) stack' list'
    goes_comes {r = r} {deepest = deepest} c =
        let o : Offered = runs w next stack₁ list₁ in
        let s : State = standing next stack₁ list₁ in
        let fits : length s.listed ≤ counted list₁ = omega (arith, within_listed k.within, k.within.listed) in
        let (m, few, grown) = run_grown (right_of g) (cell_of g table) (counted stack₁) (counted list₁) w s fits in
        let longer : length k.state.listed ≤ length (final o).listed =
        omega (arith, ap length grown.lists, length-append s.listed grown.new, ap length k.alike.listed) in
        record {
          answer = raised_answer g table goes_alike deepest (values_of g table r) c.answer;
          lists = c.lists ∙ ap (over (final o).listed) k.lists ∙ over_over k.state.listed (final o).listed list longer
              ∙ ap (λ (l : List ℕ). over l list) (alike_final goes_alike).listed;
          stack_length = c.stack_length ∙ k.stack_length;
        }

  on_grammar : {column : ℕ} {at : Progress} {stack list : List ℕ} {r : Reply} {stack' list' : List ℕ}
      → OfferOutcome book (Ok index) table column at stack list r stack' list'
      → OfferedOn g table column at stack list r stack' list'
  on_grammar (refused e) = let bad : ◌≡◌ {A = ℕ} 0 1 = cc in absurd (omega arith)
  on_grammar {column} {at} {stack} {list} {r} {stack'} {list'} (offered {index = other} e on) =
      let same : other ≡ index = cc in
      subst (λ (x : Index). OfferedOn (grammar_in book x) table column at stack list r stack' list') same on

  -- an offer that is not taken ends the run
  stops_comes : {t : ℕ} (w : List ℕ) {at : Progress} {stack list : List ℕ} {n : ℕ}
      → Within at stack list n
      → t < index.outline.tokens
      → {r : Reply} {stack' list' : List ℕ}
      → OfferedOn g table t at stack list r stack' list'
      → ((next : Progress) → r ≢ Ok next)
      → Comes (runs (t ∷ w) at stack list) stack list r (deepest_in r) stack' list'
  unfolding reported
  stops_comes {t} w {at} {stack} {list} h small {r} {stack'} {list'} on other = go (offers (token t) at stack list) refl
    where
      go : (o : Offered) → offers (token t) at stack list ≡ o → Comes (runs (t ∷ w) at stack list) stack list r (deepest_in r) stack' list'
      go (taken e) f = absurd (other (progress_of e) ((step_offers h (column_token small) on).answer ∙ ap reported f))
      go (stopped q e) f =
          subst (λ (o : Offered). Comes o stack list r (deepest_in r) stack' list')
          (f ∙ sym (run_stopped (right_of g) (cell_of g table) (counted stack) (counted list) t w (standing at stack list) f))
          (step_comes h (column_token small) on)

  -- offers in turn come to what the machine makes of the tokens
  turn_comes : {w : List ℕ} {at : Progress} {stack list : List ℕ} {r : Reply} {stack' list' : List ℕ}
      → (turn : OfferedInTurn book (Ok index) table w at stack list r stack' list')
      → Within at stack list (length w)
      → ((i : ℕ) → i < length w → get_or w i 0 < index.outline.tokens)
      → Comes (runs w at stack list) stack list r (deepest_of turn) stack' list'
  unfolding run_from deepest_of
  turn_comes (at_end o) h known = step_comes h column_end (on_grammar o)
  turn_comes (stops {w = w} o other) h known = stops_comes w h (known 0 (omega arith)) (on_grammar o) other
  turn_comes (goes_on {w = w} o rest) h known =
      let k = goes_next h (known 0 (omega arith)) (on_grammar o) in
      goes_comes w k (turn_comes rest k.within (λ i l. known (suc i) (omega arith)))

  -- the start symbol alone on the stack
  start_alike : (stack list : List ℕ)
      → 1 ≤ length stack
      → Alike 0 (standing at_start (start_on (Ok index) stack) list) (begun g.start)
  unfolding standing begun spelled_by outlined
  start_alike [] list h = absurd (omega arith)
  start_alike (x ∷ stack) list h =
      record {
        stack = ap (λ (y : Symbol). y ∷ []) (nonterminal_spelled (index.outline.start % 128)).same;
        listed = refl;
        matched = refl;
        moves = refl;
        height = refl;
      }

  module _ (tokens stack list : List ℕ) (some_cell : 1 ≤ length stack) (short : length tokens ≤ most_cells)
      (known : (i : ℕ) → i < length tokens → get_or tokens i 0 < index.outline.tokens) {r : Reply} {s l : List ℕ}
      (turn : OfferedInTurn book (Ok index) table tokens at_start (start_on (Ok index) stack) list r s l) where
    start_within : Within at_start (start_on (Ok index) stack) list (length tokens)
    start_within =
        let same = length-set stack 0 (byte_of (Nonterminal (index.outline.start % 128))) in
        record { some_cell = omega arith; height = omega arith; listed = omega arith; matched = omega arith }

    -- the machine from what the buffers spell, and from the start symbol
    start_ran : AlikeEnds 0 (runs tokens at_start (start_on (Ok index) stack) list) (ran g table tokens stack list)
    unfolding ran
    start_ran =
        let long = length-set stack 0 (byte_of (Nonterminal (index.outline.start % 128))) in
        let same : counted (start_on (Ok index) stack) ≡ counted stack = ap (λ (n : ℕ). min n most_cells) long in
        rw same (run_alike (right_of g) (cell_of g table) (counted stack) (counted list) tokens (start_alike stack list some_cell))

    made_ran : {a : Answer} {stack' list' : List ℕ}
        → RanOn g table tokens stack list a stack' list'
        → MakesRun book (Ok index) table stack r (deepest_of turn) s l a stack' list'
    made_ran (judged.no_stack e) = absurd (omega arith)
    made_ran (judged.ended h) =
        let c = turn_comes turn start_within known in
        let deepest : deepest_of turn ≡ max 0 (deepest_of turn) = omega arith in
        let same = length-set stack 0 (byte_of (Nonterminal (index.outline.start % 128))) in
        record {
          answer = sym (ap (λ (n : ℕ). at_depth n (values_of g table r)) deepest ∙ raised_answer g table start_ran (deepest_of turn) (values_of g table r) c.answer);
          list = sym (c.lists ∙ ap (λ (ps : List ℕ). over ps list) (alike_final start_ran).listed);
          refused = λ e. let bad : ◌≡◌ {A = ℕ} 0 1 = cc in absurd (omega arith);
          stack_cleared = λ e. ap (λ (n : ℕ). replicate n 0) (sym (c.stack_length ∙ same));
          stack_kept = λ e. let bad : ◌≡◌ {A = ℕ} 0 1 = cc in absurd (omega arith);
        }

module _ (book : List ℕ) (reading : Result Index Answer) (table : List ℕ) where
  -- offers in turn allow one outcome
  pub turn_unique : {w : List ℕ} {at : Progress} {stack list : List ℕ} {r q : Reply} {s l t m : List ℕ}
      → OfferedInTurn book reading table w at stack list r s l
      → OfferedInTurn book reading table w at stack list q t m
      → ◌≡◌ {A = OfferResult} (r, s, l) (q, t, m)
  turn_unique (at_end o) (at_end p) = offer_outcome_unique o p
  turn_unique (stops o n) (stops p k) = offer_outcome_unique o p
  turn_unique (stops o n) (goes_on {next = next} p more) = absurd (n next (ap (λ (x : OfferResult). x.0) (offer_outcome_unique o p)))
  turn_unique (goes_on {next = next} o rest) (stops p k) =
      absurd (k next (ap (λ (x : OfferResult). x.0) (sym (offer_outcome_unique o p))))
  turn_unique {q = q} {t = t} {m = m}
      (goes_on {w = w} {next = x} {stack₁ = s₁} {list₁ = l₁} o rest)
      (goes_on {next = y} {stack₁ = t₁} {list₁ = m₁} p more) =
      let same = offer_outcome_unique o p in
      let replies : ◌≡◌ {A = Reply} (Ok x) (Ok y) = ap (λ (z : OfferResult). z.0) same in
      let there : x ≡ y = cc in
      let left : ◌≡◌ {A = Progress × List ℕ × List ℕ} (x, s₁, l₁) (y, t₁, m₁) = λ i. (there i, (same i).1, (same i).2) in
      turn_unique rest
      (subst (λ (z : Progress × List ℕ × List ℕ). OfferedInTurn book reading table w z.0 z.1 z.2 q t m) (sym left) more)

refused_as : {r : Reply} {answer other : Answer}
    → r ≡ Err (Refused answer)
    → ◌≡◌ {A = Result Index Answer} (Err answer) (Err other)
    → r ≡ Err (Refused other)
refused_as {r} {answer} {other} reply e = let same : answer ≡ other = cc in rw (← same) reply

-- on a book that was refused the first offer is the last
module _ {book : List ℕ} {answer : Answer} {table : List ℕ} where
  refused_outcome : {column : ℕ} {at : Progress} {stack list : List ℕ} {r : Reply} {stack' list' : List ℕ}
      → OfferOutcome book (Err answer) table column at stack list r stack' list'
      → ◌≡◌ {A = OfferResult} (r, stack', list') (Err (Refused answer), stack, list)
  refused_outcome (refused {answer = other} e) = let same : other ≡ answer = cc in rw same
  refused_outcome (offered e on) = let bad : ◌≡◌ {A = ℕ} 0 1 = cc in absurd (omega arith)

  not_taken : {column : ℕ} {at next : Progress} {stack list stack' list' : List ℕ}
      → OfferOutcome book (Err answer) table column at stack list (Ok next) stack' list'
      → ⊥
  not_taken {next = next} o =
      let replies : ◌≡◌ {A = Reply} (Ok next) (Err (Refused answer)) = ap (λ (x : OfferResult). x.0) (refused_outcome o) in
      let bad : ◌≡◌ {A = ℕ} 0 1 = cc in
      omega arith

  turn_refused : {w : List ℕ} {at : Progress} {stack list : List ℕ} {r : Reply} {stack' list' : List ℕ}
      → OfferedInTurn book (Err answer) table w at stack list r stack' list'
      → ◌≡◌ {A = OfferResult} (r, stack', list') (Err (Refused answer), stack, list)
  turn_refused (at_end o) = refused_outcome o
  turn_refused (stops o other) = refused_outcome o
  turn_refused (goes_on o rest) = absurd (not_taken o)

  refused_deepest : {w : List ℕ} {at : Progress} {stack list : List ℕ} {r : Reply} {stack' list' : List ℕ}
      → (turn : OfferedInTurn book (Err answer) table w at stack list r stack' list')
      → deepest_of turn ≡ 0
  unfolding deepest_of deepest_in
  refused_deepest (at_end o) = ap (λ (x : OfferResult). deepest_in x.0) (refused_outcome o)
  refused_deepest (stops o other) = ap (λ (x : OfferResult). deepest_in x.0) (refused_outcome o)
  refused_deepest (goes_on o rest) = absurd (not_taken o)

  made_refused : {w : List ℕ} {at : Progress} {stack list : List ℕ} {r : Reply} {s l : List ℕ}
      → (turn : OfferedInTurn book (Err answer) table w at (start_on (Err answer) stack) list r s l)
      → MakesRun book (Err answer) table stack r (deepest_of turn) s l (at_depth 0 answer) stack list
  unfolding values_of
  made_refused {r = r} turn =
      let same = turn_refused turn in
      let reply : r ≡ Err (Refused answer) = ap (λ (x : OfferResult). x.0) same in
      record {
        answer = ap (λ (d : ℕ). at_depth d answer) (sym (refused_deepest turn))
            ∙ ap (λ (q : Reply). at_depth (deepest_of turn) (values_of (grammar_on book (Err answer)) table q)) (sym reply);
        refused = refused_as reply;
        list = sym (ap (λ (x : OfferResult). x.2) same);
        stack_cleared = λ e. let bad : ◌≡◌ {A = ℕ} 0 1 = cc in absurd (omega arith);
        stack_kept = λ e. (refl, ap (λ (x : OfferResult). x.1) same);
      }

pub offers_made : (book : List ℕ) (reading : Result Index Answer) (table tokens stack list : List ℕ)
    → 1 ≤ length stack
    → length tokens ≤ most_cells
    → ((index : Index) → reading ≡ Ok index → (i : ℕ) → i < length tokens → get_or tokens i 0 < index.outline.tokens)
    → {r : Reply} {s l : List ℕ}
    → (turn : OfferedInTurn book reading table tokens at_start (start_on reading stack) list r s l)
    → {a : Answer} {stack' list' : List ℕ}
    → JudgedRun book reading table tokens stack list a stack' list'
    → MakesRun book reading table stack r (deepest_of turn) s l a stack' list'
offers_made book (Ok index) table tokens stack list some_cell short known turn (judged.refused e) =
    let bad : ◌≡◌ {A = ℕ} 0 1 = cc in absurd (omega arith)
offers_made book (Ok index) table tokens stack list some_cell short known turn {a} {stack'} {list'} (ran_on {index = other} e on) =
    let same : other ≡ index = cc in
    made_ran book index table tokens stack list some_cell short (known index refl) turn
    (subst (λ (x : Index). RanOn (grammar_in book x) table tokens stack list a stack' list') same on)
offers_made book (Err answer) table tokens stack list some_cell short known turn (judged.refused {answer = other} e) =
    let same : other ≡ answer = cc in rw same (made_refused turn)
offers_made book (Err answer) table tokens stack list some_cell short known turn (ran_on e on) =
    let bad : ◌≡◌ {A = ℕ} 0 1 = cc in absurd (omega arith)
