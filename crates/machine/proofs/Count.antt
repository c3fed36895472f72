-- Counting: what a walk adds to the list, to the tokens matched and to the moves, and what stays within the room.
use mathlib.Core.Path.{◌≡◌, refl, sym, ◌∙◌, ap, subst, subst₂}
use mathlib.Core.List.{List, [], ◌∷◌, ◌++◌, append_assoc, append-nil}
use mathlib.Core.Option.{Option}
use Prim.Native.Nat.{ℕ, suc, ◌+◌, ◌≤◌}
use native.Mathlib.Omega.{arith}
use lib.ListN.{length, length-append}
use Rattle.grammar.specs.Grammar.{Form, Column, token, endmark}
use Rattle.grammar.specs.Machine.{front}
use Rattle.machine.specs.Machine.{State, Offered, taken, stopped, begun, popped, replaced, offer, run_from}
use Rattle.machine.specs.declared.Reason.{Reason}
use Rattle.machine.proofs.Walk.{final, Walk, here, match, expand, Halt, accepts, left_over, unmatched, vacant, list_full, stack_full, Walked, ComesTo, goes_on, ends}
use Rattle.machine.proofs.Agreement.{walk_lists, offer_answers, ran}

-- the counts of a state that has so much room
pub record Counted (room cells : ℕ) (s : State) : Type 0 where
  pub steps : s.moves ≡ length s.listed + s.matched
  pub list_fits : length s.listed ≤ cells
  pub stack_within : length s.stack ≤ s.height
  pub height_fits : 1 ≤ room → s.height ≤ room

-- from s to e, which are k matches apart, the list grows at its end, and each production and each token is one move
pub record Grown (s e : State) (k : ℕ) : Type 0 where
  pub new : List ℕ
  pub lists : e.listed ≡ s.listed ++ new
  pub matches : e.matched ≡ s.matched + k
  pub steps : e.moves ≡ s.moves + length new + k

-- the stack is within its room
pub counted_stack : {room cells : ℕ} {s : State} → Counted room cells s → 1 ≤ room → length s.stack ≤ room
counted_stack c h = omega (arith, c.height_fits h)

pub begun_counted : (room cells start : ℕ) → Counted room cells (begun start)
unfolding begun
begun_counted room cells start = record { steps = omega arith; list_fits = omega arith; stack_within = omega arith; height_fits = λ h. h }

grown_none : (s : State) → Grown s s 0
grown_none s = record { new = []; lists = sym (append-nil s.listed); matches = omega arith; steps = omega arith }

grown_match : (α : Form) {s e : State} {k : ℕ} → Grown (popped α s) e k → Grown s e (suc k)
unfolding popped
grown_match α g = record { new = g.new; lists = g.lists; matches = omega arith; steps = omega arith }

grown_use : (p : ℕ) (β : Form) {s e : State} {k : ℕ} → Grown (replaced p β s) e k → Grown s e k
unfolding replaced
grown_use p β {s} g = record { new = p ∷ g.new; lists = g.lists ∙ append_assoc s.listed (p ∷ []) g.new; matches = g.matches; steps = omega arith }

module _ {right : ℕ → Form} {cell : ℕ → Column → Option ℕ} {room cells : ℕ} where
  -- a walk reads k tokens and matches them
  pub walk_grown : {z : List ℕ} {e : State} {w : List ℕ} {s : State} → Walk right cell room cells z e w s → (k : ℕ) × (length w ≡ k + length z) × Grown s e k
  walk_grown {e = e} here = (0, omega arith, grown_none e)
  walk_grown (match {α = α} f r) = let (k, h, g) = walk_grown r in (suc k, omega arith, grown_match α g)
  walk_grown (expand {p = p} {α = α} f c l m r) = let (k, h, g) = walk_grown r in (k, h, grown_use p (right p ++ α) g)

  walk_stack : {z : List ℕ} {e : State} {w : List ℕ} {s : State} → Walk right cell room cells z e w s → length s.stack ≤ s.height → length e.stack ≤ e.height
  unfolding popped replaced
  walk_stack here h = h
  walk_stack (match f r) h = walk_stack r (omega (arith, ap length f))
  walk_stack (expand f c l m r) h = walk_stack r (omega arith)

  walk_height : {z : List ℕ} {e : State} {w : List ℕ} {s : State} → Walk right cell room cells z e w s → s.height ≤ room → e.height ≤ room
  unfolding popped replaced
  walk_height here h = h
  walk_height (match f r) h = walk_height r h
  walk_height (expand f c l m r) h = walk_height r (omega arith)

  pub walk_counted : {z : List ℕ} {e : State} {w : List ℕ} {s : State} → Walk right cell room cells z e w s → Counted room cells s → Counted room cells e
  walk_counted {s = s} r c =
      let (k, h, g) = walk_grown r in
      record {
        steps = omega (arith, length-append s.listed g.new, ap length g.lists);
        list_fits = walk_lists r c.list_fits;
        stack_within = walk_stack r c.stack_within;
        height_fits = λ m. walk_height r (c.height_fits m);
      }

-- the machine is left in the state in which it halts
pub halt_final : {right : ℕ → Form} {cell : ℕ → Column → Option ℕ} {room cells : ℕ} {c : Column} {s : State} {o : Offered} → Halt right cell room cells c s o → final o ≡ s
unfolding final
halt_final (accepts e f) = refl
halt_final (left_over e f) = refl
halt_final (unmatched e f) = refl
halt_final (vacant e f) = refl
halt_final (list_full e f h) = refl
halt_final (stack_full e f h m) = refl

-- the tokens that an offer matches: one, if it is a token that is taken
unfoldable pub gained : Column → Offered → ℕ
gained (token t) (taken s) = 1
gained (token t) (stopped r s) = 0
gained endmark o = 0

grown_to : {s e f : State} {k n : ℕ} → e ≡ f → k ≡ n → Grown s e k → Grown s f n
grown_to {s} e f g = subst₂ (λ (x : State) (n : ℕ). Grown s x n) e f g

gained_stopped : (c : Column) (r : Reason) (s : State) → gained c (stopped r s) ≡ 0
unfolding gained
gained_stopped (token t) r s = refl
gained_stopped endmark r s = refl

module _ {right : ℕ → Form} {cell : ℕ → Column → Option ℕ} {room cells : ℕ} where
  halt_gained : {c : Column} {s : State} {o : Offered} → Halt right cell room cells c s o → gained c o ≡ 0
  unfolding gained
  halt_gained (accepts e f) = rw f
  halt_gained {c} {s} (left_over e f) = gained_stopped c _ s
  halt_gained {c} {s} (unmatched e f) = gained_stopped c _ s
  halt_gained {c} {s} (vacant e f) = gained_stopped c _ s
  halt_gained {c} {s} (list_full e f h) = gained_stopped c _ s
  halt_gained {c} {s} (stack_full e f h m) = gained_stopped c _ s

  answers_grown : {w : List ℕ} {s : State} {o : Offered} → ComesTo right cell room cells w s o → Grown s (final o) (gained (front w) o)
  unfolding final gained
  answers_grown {w} (goes_on {e = e} f r) =
      let one : gained (front w) (taken e) ≡ 1 = rw f in
      let (k, m, g) = walk_grown r in
      grown_to refl (omega (arith, ap length f)) g
  answers_grown (ends r h) = let (k, m, g) = walk_grown r in grown_to (sym (halt_final h)) (omega (arith, halt_gained h)) g

  answers_counted : {w : List ℕ} {s : State} {o : Offered} → ComesTo right cell room cells w s o → Counted room cells s → Counted room cells (final o)
  unfolding final
  answers_counted (goes_on f r) c = walk_counted r c
  answers_counted (ends r h) c = subst (λ (e : State). Counted room cells e) (sym (halt_final h)) (walk_counted r c)

module _ (right : ℕ → Form) (cell : ℕ → Column → Option ℕ) (room cells : ℕ) where
  -- the end of a run from any state whose counts are right
  pub run_counted : (w : List ℕ) (s : State) → Counted room cells s → Counted room cells (final (run_from right cell room cells w s))
  run_counted w s c =
      let r : Walked right cell room cells w s (run_from right cell room cells w s) = ran right cell room cells w s c.list_fits in
      subst (λ (e : State). Counted room cells e) (sym (halt_final r.halt)) (walk_counted r.walk c)

  -- and what it adds on the way
  pub run_grown : (w : List ℕ) (s : State) → length s.listed ≤ cells → (k : ℕ) × (k ≤ length w) × Grown s (final (run_from right cell room cells w s)) k
  run_grown w s h =
      let r : Walked right cell room cells w s (run_from right cell room cells w s) = ran right cell room cells w s h in
      let (k, m, g) = walk_grown r.walk in
      (k, omega arith, subst (λ (e : State). Grown s e k) (sym (halt_final r.halt)) g)

  -- the same of one offer, which matches one token or none
  pub offer_counted : (l : ℕ) (c : Column) (s : State) → length s.listed + l ≡ cells → Counted room cells s → Counted room cells (final (offer right cell room cells l c s))
  offer_counted l (token t) s e h = answers_counted (offer_answers right cell room cells (t ∷ []) l s e) h
  offer_counted l endmark s e h = answers_counted (offer_answers right cell room cells [] l s e) h

  pub offer_grown : (l : ℕ) (c : Column) (s : State) → length s.listed + l ≡ cells → Grown s (final (offer right cell room cells l c s)) (gained c (offer right cell room cells l c s))
  offer_grown l (token t) s e = answers_grown (offer_answers right cell room cells (t ∷ []) l s e)
  offer_grown l endmark s e = answers_grown (offer_answers right cell room cells [] l s e)
