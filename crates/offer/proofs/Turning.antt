-- One turn of an offer's loop: the counts stay within the room, and whatever state the buffers held, they hold what the machine makes of it.
use Rattle.std.specs.Prelude.{Option, Result, Ok}
use mathlib.Core.Path.{◌≡◌, refl, ◌∙◌, ap, subst, subst₂}
use mathlib.Core.List.{List, ◌∷◌, ◌++◌}
use mathlib.Core.Option as math
use Prim.Native.Nat.{ℕ, zero, suc, ◌+◌, ◌-◌, ◌≤◌, ◌<◌, min, max}
use native.Mathlib.Omega.{arith}
use lib.ListN.{length, get_or, set, length-set}
use lib.Seq.{length-sets}
use Rattle.grammar.specs.Grammar.{Form, Column}
use Rattle.grammar.specs.declared.Symbol.{Symbol}
use Rattle.answers.specs.Buffers.{counted}
use Rattle.book.specs.Columns.{grammar_in}
use Rattle.book.specs.declared.Index.{Index}
use Rattle.table.specs.Table.{cell_of}
use Rattle.machine.specs.Machine.{State}
use Rattle.machine.specs.declared.Reason.{Reason}
use Rattle.machine.specs.Room.{right_of}
use Rattle.stack.specs.Sides.{RightSide}
use Rattle.stack.specs.Ahead.{column_in}
use Rattle.stack.specs.Stack.{replacing, stack_bytes, spelled_by}
use Rattle.stack.proofs.Promise.{replacing_fits, replaced_length}
use Rattle.offer.specs.Moves.{Chosen, Choice}
use Rattle.offer.specs.Offering.{Holds, Ready, OfferedAt, matched_at}
use Rattle.offer.specs.declared.Move.TheVariants.{Use, Match}
use Rattle.offer.specs.declared.Move.{Move}
use Rattle.offer.specs.declared.Progress.{Progress}
use Rattle.offer.specs.Reply.{Reply}
use Rattle.offer.proofs.Holding.{Walking, Finishes, walking_start, walking_use, walking_finish, walking_match}

-- the numbers of a replacement
pub record UseFits (height listed count room cells : ℕ) : Type 0 where
  pub some_symbol : 1 ≤ height
  pub list_left : listed < cells
  pub stack_left : height - 1 + count ≤ room

cons_height : (stack : List ℕ) {x : Symbol} {β : Form} (height : ℕ) → spelled_by stack height ≡ x ∷ β → (1 ≤ height) × (β ≡ spelled_by stack (height - 1))
unfolding spelled_by
cons_height stack zero e = let bad : ◌≡◌ {A = ℕ} 0 1 = cc in absurd (omega arith)
cons_height stack (suc h) e = let one : suc h - 1 ≡ h = omega arith in (omega arith, rw one (cc))

module _ (book : List ℕ) (index : Index) (table : List ℕ) (ahead : Option ℕ) (at₀ : Progress)
    (stack₀ list₀ : List ℕ) (cells : ℕ) where
  abbrev right : ℕ → Form
  right = right_of (grammar_in book index)

  abbrev cell : ℕ → Column → math.Option ℕ
  cell = cell_of (grammar_in book index) table

  abbrev c : Column
  c = column_in ahead

  -- the loop's invariant, with so many cells in use, and so many of the stack's at most
  pub record Turning (stack list : List ℕ) (height listed deepest : ℕ) : Type 0 where
    pub cells_are : cells ≡ counted list₀
    pub height_fits : height ≤ counted stack₀
    pub listed_fits : listed ≤ counted list₀
    pub stack_length : length stack ≡ length stack₀
    pub list_length : length list ≡ length list₀
    pub walks : (s : State) → Holds s at₀ stack₀ list₀ stack₀ list₀ → Walking right cell c s at₀ stack₀ list₀ (record { height = height; listed = listed; matched = at₀.matched; deepest = deepest }) stack list

  pub turning_start : Ready at₀ stack₀ list₀ → cells ≡ counted list₀ → Turning stack₀ list₀ at₀.height at₀.listed at₀.deepest
  turning_start ready counts = record { cells_are = counts; height_fits = ready.height; listed_fits = ready.listed; stack_length = refl; list_length = refl; walks = λ s h. walking_start right cell c s at₀ stack₀ list₀ h }

  module _ {stack list : List ℕ} {height listed deepest : ℕ} (t : Turning stack list height listed deepest) {m : Result Move Reason}
      (choice : Choice book index table ahead stack height cells listed m) where
    -- the move is chosen by the room of the buffers as they were lent
    by_room : {n : Result Move Reason} → m ≡ n → Chosen right cell (counted stack₀) (counted list₀) c (spelled_by stack height) listed n
    by_room {n} same =
        subst (λ (m : Result Move Reason). Chosen right cell (counted stack₀) (counted list₀) c (spelled_by stack height) listed m) same
        (subst₂ (λ (room cells : ℕ). Chosen right cell room cells c (spelled_by stack height) listed m) (ap (λ (n : ℕ). min n 65535) t.stack_length) t.cells_are choice)

    -- a token is matched only where there is one
    pub match_some : m ≡ Ok Match → 1 ≤ height
    match_some same = go (by_room same)
      where
        go : Chosen right cell (counted stack₀) (counted list₀) c (spelled_by stack height) listed (Ok Match) → 1 ≤ height
        go (Chosen.matches e f) = (cons_height stack height e).0

    pub use_fits : {p count : ℕ} → m ≡ Ok (Use p) → RightSide book index p count → UseFits height listed count (counted stack₀) (counted list₀)
    use_fits {p = p} {count = count} same side = go (by_room same)
      where
        go : Chosen right cell (counted stack₀) (counted list₀) c (spelled_by stack height) listed (Ok (Use p)) → UseFits height listed count (counted stack₀) (counted list₀)
        go (Chosen.uses {β = β} e f l m) =
            let (some_symbol, below) = cons_height stack height e in
            let long : length (right p ++ β) ≡ height - 1 + count = ap (λ (α : Form). length (right p ++ α)) below ∙ replaced_length side stack (height - 1) in
            record { some_symbol = some_symbol; list_left = l; stack_left = omega arith }

    pub turning_use : {p count deeper : ℕ} {after : List ℕ}
        → m ≡ Ok (Use p)
        → RightSide book index p count
        → after ≡ replacing (stack_bytes (right p)) (height - 1) stack
        → deeper ≡ max deepest (height - 1 + count)
        → Turning after (set list listed p) (height - 1 + count) (listed + 1) deeper
    turning_use {p = p} {count = count} same side replaced greatest =
        let fits = use_fits same side in
        let from : ℕ = get_or index.places p 0 + 4 in
        let inside : height - 1 < length stack = omega (arith, fits.some_symbol, t.height_fits, t.stack_length) in
        let room : height - 1 + count ≤ length stack = omega (arith, fits.stack_left, t.stack_length) in
        let e = (rw side.symbols at replaced) ∙ replacing_fits book from count (height - 1) stack inside room in
        record {
          cells_are = t.cells_are;
          height_fits = fits.stack_left;
          listed_fits = omega (arith, fits.list_left);
          stack_length = ap length e ∙ simp (length-sets, length-set) t.stack_length;
          list_length = simp length-set t.list_length;
          walks = λ s h. rw (e, greatest) (walking_use right cell c s at₀ stack₀ list₀ (t.walks s h) book from count side.symbols (by_room same));
        }

    -- the counts as the buffers have them
    abbrev here : Progress
    here = record { height = height; listed = listed; matched = at₀.matched; deepest = deepest }

    pub turning_match : {at : Progress} {after : List ℕ}
        → m ≡ Ok Match
        → at ≡ matched_at here
        → after ≡ set stack (height - 1) 0
        → OfferedAt book index table ahead at₀ stack₀ list₀ (Ok at) after list
    turning_match same pops after =
        record {
          offers = λ s h. rw (pops, after) (walking_match right cell c s at₀ stack₀ list₀ (t.walks s h) (by_room same));
        }

    pub turning_finish : {r : Reply} → Finishes here m r → OfferedAt book index table ahead at₀ stack₀ list₀ r stack list
    turning_finish {r} ends =
        record {
          offers = λ s h. walking_finish right cell c s at₀ stack₀ list₀ (t.walks s h) (by_room refl) ends;
        }
