-- The invariant of an offer: the buffers hold a state from which the machine comes to the offer's outcome.
use Rattle.std.specs.Prelude.{Result, Ok, Err}
use mathlib.Core.Path.{◌≡◌, refl, sym, ◌∙◌, ap, subst, subst₂}
use mathlib.Core.List.{List, [], ◌∷◌, ◌++◌}
use mathlib.Core.Option.{Option}
use Prim.Native.Nat.{ℕ, suc, ◌+◌, ◌-◌, ◌≤◌, ◌<◌, max}
use native.Mathlib.Omega.{arith}
use lib.ListN.{length, set, length-append}
use lib.Seq.{sets}
use Rattle.grammar.specs.Grammar.{Form, Column, token, Every}
use Rattle.grammar.specs.declared.Symbol.TheVariants.{Token}
use Rattle.grammar.specs.declared.Symbol.{Symbol}
use Rattle.answers.specs.Buffers.{counted}
use Rattle.reader.specs.Fields.{form_in}
use Rattle.machine.specs.Machine.{State, Offered, taken, stopped, popped, replaced, offer, final}
use Rattle.machine.specs.declared.Reason.{Reason}
use Rattle.machine.specs.declared.Reason.TheVariants.{FullList, FullStack, WantsEnd, WantsToken, WantsRow}
use Rattle.machine.proofs.Promise.{offer_match, offer_use, offer_halt, Halt}
use Rattle.stack.specs.Stack.{Spelled, stack_bytes, spelled_by}
use Rattle.stack.proofs.Promise.{over_more, symbols_spelled, every_append, every_rest, length_symbols, spelled_stacked, stacked_pop, stacked_replace}
use Rattle.offer.specs.Moves.{Chosen}
use Rattle.offer.specs.Offering.{Holds, Offering, matched_at}
use Rattle.offer.specs.Resuming.{progress_of, reported}
use Rattle.offer.specs.declared.Move.TheVariants.{Use, Match, Accept}
use Rattle.offer.specs.declared.Move.{Move}
use Rattle.offer.specs.declared.Progress.{Progress}
use Rattle.offer.specs.declared.Halt.TheVariants.{Stopped}
use Rattle.offer.specs.Reply.{Reply}

-- the counts after the symbol on top gave way to so many
abbrev pub grown_by : ℕ → Progress → Progress
grown_by count at =
    record {
      height = at.height - 1 + count;
      listed = at.listed + 1;
      matched = at.matched;
      deepest = max at.deepest (at.height - 1 + count);
    }

-- the offer ends with the stack as it is: the end mark is taken, or the run stops
pub data Finishes (at : Progress) : Result Move Reason → Reply → Type 0 where
  accepting : Finishes at (Ok Accept) (Ok at)
  stopping : {reason : Reason} → Finishes at (Err reason) (Err (Stopped reason at))

module _ {s : State} {at : Progress} {stack₀ list₀ stack list : List ℕ} (h : Holds s at stack₀ list₀ stack list) where
  -- the first cells spell the stack
  pub holds_spells : spelled_by stack at.height ≡ s.stack
  holds_spells = rw (h.height, h.stack_cells) (spelled_stacked h.spelled s.height stack₀)

  pub holds_progress : at ≡ progress_of s
  unfolding progress_of
  holds_progress = λ i. record { height = h.height i; listed = h.listed i; matched = h.matched i; deepest = h.deepest i }

  -- the buffers hold the state in which an outcome leaves the machine
  pub holds_outcome : {o o' : Offered} {r : Reply} → o ≡ o' → final o ≡ s → r ≡ reported o → Offering o' stack₀ list₀ r stack list
  holds_outcome {r = r} same left answer =
      subst (λ (x : Offered). Offering x stack₀ list₀ r stack list) same
      (record { answer = answer; holds = subst (λ (e : State). Holds e (progress_of e) stack₀ list₀ stack list) (sym left) (subst (λ (x : Progress). Holds s x stack₀ list₀ stack list) holds_progress h) })

  -- the token on top is matched and popped
  holds_pop : {x : Symbol} {α : Form} → s.stack ≡ x ∷ α → Holds (popped α s) (record { height = at.height - 1; listed = at.listed; matched = at.matched + 1; deepest = at.deepest }) stack₀ list₀ (set stack (at.height - 1) 0) list
  unfolding popped
  holds_pop {x} {α} e =
      let n : at.height ≡ suc (length α) = h.height ∙ ap length e in
      let below : at.height - 1 ≡ length α = omega arith in
      record {
        height = below;
        listed = h.listed;
        matched = omega (arith, h.matched);
        deepest = h.deepest;
        moves = omega (arith, h.moves);
        highest = omega (arith, h.highest, h.height);
        stack_room = h.stack_room;
        list_room = h.list_room;
        spelled = every_rest (subst (λ (β : Form). Every Spelled β) e h.spelled);
        stack_cells = rw (below, h.stack_cells, e) (stacked_pop x α s.height stack₀ (omega (arith, h.highest, h.height)));
        list_cells = h.list_cells;
      }

  -- the symbol on top gives way to the right side of production p, which is listed
  holds_use : (book : List ℕ) (from count p : ℕ) {x : Symbol} {α β : Form} → s.stack ≡ x ∷ α → β ≡ form_in book from count → length s.listed < counted list₀ → length (β ++ α) ≤ counted stack₀
      → Holds (replaced p (β ++ α) s) (grown_by count at) stack₀ list₀ (sets (set stack (at.height - 1) 0) (at.height - 1) (stack_bytes (form_in book from count))) (set list at.listed p)
  unfolding replaced
  holds_use book from count p {x} {α} {β} e side room fits =
      let n : at.height ≡ suc (length α) = h.height ∙ ap length e in
      let below : at.height - 1 ≡ length α = omega arith in
      let many : length β ≡ count = ap length side ∙ length_symbols book from count in
      let whole = length-append β α in
      record {
        height = omega arith;
        listed = omega (arith, h.listed, length-append s.listed (p ∷ []));
        matched = h.matched;
        deepest = omega (arith, h.deepest);
        moves = omega (arith, h.moves);
        highest = omega arith;
        stack_room = omega (arith, h.stack_room);
        list_room = omega (arith, length-append s.listed (p ∷ []));
        spelled = every_append (subst (λ (γ : Form). Every Spelled γ) (sym side) (symbols_spelled book from count)) (every_rest (subst (λ (γ : Form). Every Spelled γ) e h.spelled));
        stack_cells = rw (below, h.stack_cells, e, ← side) (stacked_replace x β α s.height stack₀ (omega (arith, h.highest, h.height)) (omega arith));
        list_cells = rw (h.listed, h.list_cells) (over_more s.listed p list₀ (omega arith));
      }

module _ (right : ℕ → Form) (cell : ℕ → Column → Option ℕ) (c : Column) (s₀ : State) (at₀ : Progress) (stack₀ list₀ : List ℕ) where
  -- what the offer comes to
  abbrev pub outcome : Offered
  outcome = offer right cell (counted stack₀) (counted list₀) (counted list₀ - at₀.listed) c s₀

  pub record Walking (at : Progress) (stack list : List ℕ) : Type 0 where
    pub state : State
    pub same : offer right cell (counted stack₀) (counted list₀) (counted list₀ - at.listed) c state ≡ outcome
    pub holds : Holds state at stack₀ list₀ stack list

  pub walking_start : Holds s₀ at₀ stack₀ list₀ stack₀ list₀ → Walking at₀ stack₀ list₀
  walking_start h = record { state = s₀; same = refl; holds = h }

  module _ {at : Progress} {stack list : List ℕ} (w : Walking at stack list) where
    -- the move is chosen by the state that the buffers hold
    chosen_by : {m : Result Move Reason} → Chosen right cell (counted stack₀) (counted list₀) c (spelled_by stack at.height) at.listed m → Chosen right cell (counted stack₀) (counted list₀) c w.state.stack (length w.state.listed) m
    chosen_by {m} k = subst₂ (λ (α : Form) (n : ℕ). Chosen right cell (counted stack₀) (counted list₀) c α n m) (holds_spells w.holds) w.holds.listed k

    -- so many list cells are left
    counts_left : length w.state.listed + (counted list₀ - at.listed) ≡ counted list₀
    counts_left = omega (arith, w.holds.listed, w.holds.list_room)

    pub walking_use : (book : List ℕ) (from count : ℕ) {p : ℕ} → right p ≡ form_in book from count → Chosen right cell (counted stack₀) (counted list₀) c (spelled_by stack at.height) at.listed (Ok (Use p))
        → Walking (grown_by count at) (sets (set stack (at.height - 1) 0) (at.height - 1) (stack_bytes (form_in book from count))) (set list at.listed p)
    walking_use book from count {p} side k = go (chosen_by k)
      where
        go : Chosen right cell (counted stack₀) (counted list₀) c w.state.stack (length w.state.listed) (Ok (Use p)) → Walking (grown_by count at) (sets (set stack (at.height - 1) 0) (at.height - 1) (stack_bytes (form_in book from count))) (set list at.listed p)
        go (Chosen.uses {β = β} e f l m) =
            let one : counted list₀ - at.listed ≡ suc (counted list₀ - (at.listed + 1)) = omega (arith, w.holds.listed) in
            record {
              state = replaced p (right p ++ β) w.state;
              same = sym (offer_use right cell (counted stack₀) (counted list₀) (counted list₀ - (at.listed + 1)) w.state e f m) ∙ ap (λ (l : ℕ). offer right cell (counted stack₀) (counted list₀) l c w.state) (sym one) ∙ w.same;
              holds = holds_use w.holds book from count p e side l m;
            }

    -- the machine makes no move any more, and that is the outcome
    halted : {o : Offered} → Halt right cell (counted stack₀) (counted list₀) c w.state o → o ≡ outcome
    halted k = sym (offer_halt right cell (counted stack₀) (counted list₀) (counted list₀ - at.listed) counts_left k) ∙ w.same

    -- or the token on top is matched
    matched : {t : ℕ} {α : Form} → w.state.stack ≡ Token t ∷ α → c ≡ token t → taken (popped α w.state) ≡ outcome
    matched {t} e f = sym (offer_match right cell (counted stack₀) (counted list₀) (counted list₀ - at.listed) w.state e) ∙ rw (← f) w.same

    pub walking_match : Chosen right cell (counted stack₀) (counted list₀) c (spelled_by stack at.height) at.listed (Ok Match) → Offering outcome stack₀ list₀ (Ok (matched_at at)) (set stack (at.height - 1) 0) list
    unfolding reported final
    walking_match k = go (chosen_by k)
      where
        go : Chosen right cell (counted stack₀) (counted list₀) c w.state.stack (length w.state.listed) (Ok Match) → Offering outcome stack₀ list₀ (Ok (matched_at at)) (set stack (at.height - 1) 0) list
        go (Chosen.matches f g) = let p = holds_pop w.holds f in holds_outcome p (matched f g) refl (ap Ok (holds_progress p))

    pub walking_finish : {m : Result Move Reason} {r : Reply} → Chosen right cell (counted stack₀) (counted list₀) c (spelled_by stack at.height) at.listed m → Finishes at m r → Offering outcome stack₀ list₀ r stack list
    unfolding reported final
    walking_finish k ends = go (chosen_by k) ends
      where
        h : Holds w.state at stack₀ list₀ stack list
        h = w.holds

        accept : Ok at ≡ reported (taken w.state)
        accept = ap Ok (holds_progress h)

        stop : (r : Reason) → Err (Stopped r at) ≡ reported (stopped r w.state)
        stop r = ap (λ (x : Progress). Err (Stopped r x)) (holds_progress h)

        go : {m : Result Move Reason} {r : Reply} → Chosen right cell (counted stack₀) (counted list₀) c w.state.stack (length w.state.listed) m → Finishes at m r → Offering outcome stack₀ list₀ r stack list
        go (Chosen.accepts f g) accepting = holds_outcome h (halted (Halt.accepts f g)) refl accept
        go (Chosen.left_over f g) stopping = holds_outcome h (halted (Halt.left_over f g)) refl (stop WantsEnd)
        go (Chosen.unmatched {t = t} f g) stopping = holds_outcome h (halted (Halt.unmatched f g)) refl (stop (WantsToken t))
        go (Chosen.vacant {A = A} f g) stopping = holds_outcome h (halted (Halt.vacant f g)) refl (stop (WantsRow A))
        go (Chosen.list_full f g l) stopping = holds_outcome h (halted (Halt.list_full f g l)) refl (stop FullList)
        go (Chosen.stack_full f g l m) stopping = holds_outcome h (halted (Halt.stack_full f g l m)) refl (stop FullStack)
        go (Chosen.matches f g) ends = elim ends [ ]
        go (Chosen.uses f g l m) ends = elim ends [ ]
