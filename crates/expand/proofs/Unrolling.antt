-- The invariant of an expansion: the buffers hold a stack and a progress from which the machine comes to the expansion's end.
use Rattle.std.specs.Prelude.{⊤, Result, Ok, Err}
use mathlib.Core.Path.{◌≡◌, refl, sym, ◌∙◌, ap, subst, subst₂, subst₃}
use mathlib.Core.Bool.{Bool}
use mathlib.Core.List.{List, [], ◌∷◌, ◌++◌}
use Prim.Native.Nat.{ℕ, zero, suc, ◌+◌, ◌-◌, ◌%◌, ◌≤◌, ◌<◌, min, max}
use native.Mathlib.Omega.{arith}
use lib.ListN.{length, get_or, drop, set, length-append, length-set}
use lib.Seq.{sets, drop-nil}
use Rattle.grammar.specs.Grammar.{Form, Grammar, Every, nothing, each}
use Rattle.grammar.specs.declared.Symbol.TheVariants.{Token, Nonterminal}
use Rattle.answers.specs.Buffers.{over, counted}
use Rattle.reader.specs.Fields.{form_in}
use Rattle.reader.specs.Book.{byte_of}
use Rattle.book.specs.Columns.{grammar_in, outlined, Lefts}
use Rattle.book.specs.declared.Index.{Index}
use Rattle.machine.specs.Expansion.{opened, expansion, Course, Expansion, ended, wrote, applied, expand_from}
use Rattle.machine.specs.declared.Obstacle.{Obstacle}
use Rattle.machine.specs.declared.Obstacle.TheVariants.{Unfit, FullStack, FullOutput}
use Rattle.machine.specs.Room.{right_of, is_of}
use Rattle.machine.proofs.Promise.{finished_is, left_over_is, too_short_is, misfit_is, no_stack_is, apply_is, no_output_is, write_is}
use Rattle.stack.specs.Sides.{RightSide}
use Rattle.stack.specs.Stack.{Spelled, stack_bytes, spelled_by, stacked, replacing}
use Rattle.stack.proofs.Promise.{replacing_fits, over_more, symbols_spelled, every_append, every_rest, length_symbols, spelled_stacked, stacked_pop, stacked_replace, length_stacked, stacked_open, nonterminal_spelled, length_over}
use Rattle.expand.specs.Turns.{Turns, TurnAt, unfolded, Unfolds}
use Rattle.expand.specs.declared.Turn.TheVariants.{Write, Apply, Close}
use Rattle.expand.specs.declared.Turn.{Turn}
use Rattle.expand.specs.declared.Unfolding.{Unfolding}

-- the list after its first production
drop_next : (list : List ℕ) (used : ℕ) {p : ℕ} {qs : List ℕ} → drop used list ≡ p ∷ qs → (qs ≡ drop (used + 1) list) × (used < length list)
drop_next [] used {p} {qs} e = let none : ◌≡◌ {A = List ℕ} [] (p ∷ qs) = rw (drop-nil used) at e in let bad : ◌≡◌ {A = ℕ} 0 1 = cc in absurd (omega arith)
drop_next (x ∷ list) zero e = ((cc), omega arith)
drop_next (x ∷ list) (suc used) e = let (rest, inside) = drop_next list used e in let one : suc used + 1 ≡ suc (used + 1) = omega arith in (rw one rest, omega arith)

module _ (book : List ℕ) (index : Index) (lefts list stack₀ output₀ : List ℕ) (cells : ℕ) where
  abbrev fits : ℕ → ℕ → Bool
  fits = is_of (grammar_in book index)

  abbrev right : ℕ → Form
  right = right_of (grammar_in book index)

  abbrev runs : List ℕ → Form → Course → Expansion
  runs = expand_from fits right (counted stack₀) (counted output₀)

  abbrev whole : Expansion
  whole = expansion (grammar_in book index) (counted stack₀) (counted output₀) list

  -- what stays: the column of left sides is the book's, and so many cells of the output count
  pub record Given : Type 0 where
    pub lefts_are : Lefts book index lefts
    pub cells_are : cells ≡ counted output₀

  pub record Unrolled (stack output : List ℕ) (height used written deepest : ℕ) : Type 0 where
    pub given : Given
    pub form : Form
    pub progress : Course
    pub same : runs (drop used list) form progress ≡ whole
    pub height_is : height ≡ length form
    pub used_is : used ≡ progress.used
    pub written_is : written ≡ length progress.written
    pub deepest_is : deepest ≡ progress.height
    pub inside : used ≤ length list
    pub highest : length form ≤ progress.height
    pub stack_room : progress.height ≤ counted stack₀
    pub output_room : written ≤ counted output₀
    pub spelled : Every Spelled form
    pub stack_cells : stack ≡ stacked form progress.height stack₀
    pub output_cells : output ≡ over progress.written output₀

  pub unrolled_start : (stack : List ℕ) → Given → 1 ≤ length stack → stack₀ ≡ set stack 0 (byte_of (Nonterminal (index.outline.start % 128))) → Unrolled stack₀ output₀ 1 0 0 1
  unfolding opened outlined
  unrolled_start stack given h e =
      record {
        given = given;
        form = Nonterminal (index.outline.start % 128) ∷ [];
        progress = opened;
        same = refl;
        height_is = refl;
        used_is = refl;
        written_is = refl;
        deepest_is = refl;
        inside = omega arith;
        highest = omega arith;
        stack_room = omega (arith, ap length e, length-set stack 0 (byte_of (Nonterminal (index.outline.start % 128))));
        output_room = omega arith;
        spelled = each (nonterminal_spelled (index.outline.start % 128)) nothing;
        stack_cells = rw e (stacked_open (Nonterminal (index.outline.start % 128)) stack h);
        output_cells = refl;
      }

  module _ {stack output : List ℕ} {height used written deepest : ℕ} (u : Unrolled stack output height used written deepest) where
    pub unrolled_stack : length stack ≡ length stack₀
    unrolled_stack = ap length u.stack_cells ∙ length_stacked u.form u.progress.height stack₀ u.highest (omega (arith, u.stack_room))

    pub unrolled_output : length output ≡ length output₀
    unrolled_output = ap length u.output_cells ∙ length_over u.progress.written output₀ (omega (arith, u.output_room, u.written_is))

    pub unrolled_height : height ≤ counted stack₀
    unrolled_height = omega (arith, u.height_is, u.highest, u.stack_room)

    unrolled_spells : spelled_by stack height ≡ u.form
    unrolled_spells = rw (u.height_is, u.stack_cells) (spelled_stacked u.spelled u.progress.height stack₀)

    module _ {m : Turn} (turn : TurnAt book index lefts list used stack height written cells m) where
      -- the turn is chosen by what the buffers hold and the room as it was lent
      by_form : {n : Turn} → m ≡ n → Turns fits right (counted stack₀) (counted output₀) (drop used list) u.form (length u.progress.written) n
      by_form same =
          subst₃ (λ (α : Form) (w : ℕ) (n : Turn). Turns fits right (counted stack₀) (counted output₀) (drop used list) α w n) unrolled_spells u.written_is same
          (subst₂ (λ (room cells : ℕ). Turns fits right room cells (drop used list) (spelled_by stack height) written m) (ap (λ (n : ℕ). min n 65535) unrolled_stack) u.given.cells_are (turn.turns u.given.lefts_are))

      pub record WriteFits : Type 0 where
        pub some_symbol : 1 ≤ height
        pub output_left : written < counted output₀

      pub write_fits : {t : ℕ} → m ≡ Write t → WriteFits
      write_fits {t = t} same = go (by_form same)
        where
          go : Turns fits right (counted stack₀) (counted output₀) (drop used list) u.form (length u.progress.written) (Write t) → WriteFits
          go (Turns.writes e h) = record { some_symbol = omega (arith, u.height_is, ap length e); output_left = omega (arith, u.written_is) }

      pub unrolled_write : {t : ℕ} → m ≡ Write t → Unrolled (set stack (height - 1) 0) (set output written t) (height - 1) used (written + 1) deepest
      unfolding wrote
      unrolled_write {t = t} same = go (by_form same)
        where
          go : Turns fits right (counted stack₀) (counted output₀) (drop used list) u.form (length u.progress.written) (Write t) → Unrolled (set stack (height - 1) 0) (set output written t) (height - 1) used (written + 1) deepest
          go (Turns.writes {β = β} e h) =
              let n : height ≡ suc (length β) = u.height_is ∙ ap length e in
              let below : height - 1 ≡ length β = omega arith in
              record {
                given = u.given;
                form = β;
                progress = wrote t u.progress;
                same = sym (write_is fits right (counted stack₀) (counted output₀) t (drop used list) β u.progress h) ∙ ap (λ (α : Form). runs (drop used list) α u.progress) (sym e) ∙ u.same;
                height_is = below;
                used_is = u.used_is;
                written_is = omega (arith, u.written_is, length-append u.progress.written (t ∷ []));
                deepest_is = u.deepest_is;
                inside = u.inside;
                highest = omega (arith, u.highest, u.height_is);
                stack_room = u.stack_room;
                output_room = omega (arith, u.written_is);
                spelled = every_rest (subst (λ (α : Form). Every Spelled α) e u.spelled);
                stack_cells = rw (below, u.stack_cells, e) (stacked_pop (Token t) β u.progress.height stack₀ (omega (arith, u.highest, u.height_is)));
                output_cells = rw (u.written_is, u.output_cells) (over_more u.progress.written t output₀ (omega arith));
              }

      pub record ApplyFits (count : ℕ) : Type 0 where
        pub some_symbol : 1 ≤ height
        pub list_left : used < length list
        pub stack_left : height - 1 + count ≤ counted stack₀

      pub apply_fits : {p count : ℕ} → m ≡ Apply p → RightSide book index p count → ApplyFits count
      apply_fits {p = p} {count = count} same side = go (by_form same)
        where
          go : Turns fits right (counted stack₀) (counted output₀) (drop used list) u.form (length u.progress.written) (Apply p) → ApplyFits count
          go (Turns.applies {β = β} e f g h) =
              let many : length (right p) ≡ count = ap length side.symbols ∙ length_symbols book (get_or index.places p 0 + 4) count in
              record { some_symbol = omega (arith, u.height_is, ap length e); list_left = (drop_next list used f).1; stack_left = omega (arith, u.height_is, ap length e, length-append (right p) β) }

      pub unrolled_apply : {p count deeper : ℕ} {after : List ℕ}
          → m ≡ Apply p
          → RightSide book index p count
          → after ≡ replacing (stack_bytes (right p)) (height - 1) stack
          → deeper ≡ max deepest (height - 1 + count)
          → Unrolled after output (height - 1 + count) (used + 1) written deeper
      unfolding applied
      unrolled_apply {p = p} {count = count} {deeper = deeper} {after = after} same side replaced greatest = go (by_form same)
        where
          from : ℕ
          from = get_or index.places p 0 + 4

          room : ApplyFits count
          room = apply_fits same side

          cells_are : after ≡ sets (set stack (height - 1) 0) (height - 1) (stack_bytes (form_in book from count))
          cells_are =
              (rw side.symbols at replaced)
              ∙ replacing_fits book from count (height - 1) stack (omega (arith, room.some_symbol, unrolled_height, unrolled_stack)) (omega (arith, room.stack_left, unrolled_stack))

          go : Turns fits right (counted stack₀) (counted output₀) (drop used list) u.form (length u.progress.written) (Apply p) → Unrolled after output (height - 1 + count) (used + 1) written deeper
          go (Turns.applies {A = A} {β = β} {qs = qs} e f g h) =
              let n : height ≡ suc (length β) = u.height_is ∙ ap length e in
              let below : height - 1 ≡ length β = omega arith in
              let many : length (right p) ≡ count = ap length side.symbols ∙ length_symbols book from count in
              let long = length-append (right p) β in
              let (rest, inside) = drop_next list used f in
              record {
                given = u.given;
                form = right p ++ β;
                progress = applied (right p ++ β) u.progress;
                same = ap (λ (ps : List ℕ). runs ps (right p ++ β) (applied (right p ++ β) u.progress)) (sym rest) ∙ sym (apply_is fits right (counted stack₀) (counted output₀) p A qs β u.progress g h) ∙ ap (λ (α : Form). runs (p ∷ qs) α u.progress) (sym e) ∙ ap (λ (ps : List ℕ). runs ps u.form u.progress) (sym f) ∙ u.same;
                height_is = omega arith;
                used_is = omega (arith, u.used_is);
                written_is = u.written_is;
                deepest_is = omega (arith, greatest, u.deepest_is);
                inside = omega arith;
                highest = omega arith;
                stack_room = omega (arith, u.stack_room);
                output_room = u.output_room;
                spelled = every_append (subst (λ (γ : Form). Every Spelled γ) (sym side.symbols) (symbols_spelled book from count)) (every_rest (subst (λ (γ : Form). Every Spelled γ) e u.spelled));
                stack_cells = cells_are ∙ rw (below, u.stack_cells, e, ← side.symbols) (stacked_replace (Nonterminal A) (right p) β u.progress.height stack₀ (omega (arith, u.highest, u.height_is)) (omega arith));
                output_cells = u.output_cells;
              }

      -- where no move is made
      closes : (e : Result ⊤ Obstacle) → runs (drop used list) u.form u.progress ≡ ended e u.progress → Unfolds (grammar_in book index) list stack₀ output₀ (record { ending = e; used = used; written = written; deepest = deepest }) stack output
      unfolding unfolded ended
      closes e k =
          let last : whole ≡ ended e u.progress = sym u.same ∙ k in
          record {
            answer = (λ i. record { ending = e; used = u.used_is i; written = u.written_is i; deepest = u.deepest_is i }) ∙ ap unfolded (sym last);
            written = u.output_cells ∙ ap (λ (x : Expansion). over x.progress.written output₀) (sym last);
            stack_length = unrolled_stack;
            output_length = unrolled_output;
          }

      pub unrolled_close : {f : Result ⊤ Obstacle} → m ≡ Close f → Unfolds (grammar_in book index) list stack₀ output₀ (record { ending = f; used = used; written = written; deepest = deepest }) stack output
      unrolled_close same = go (by_form same)
        where
          from : (ps : List ℕ) (α : Form) → drop used list ≡ ps → u.form ≡ α → {x : Expansion} → runs ps α u.progress ≡ x → runs (drop used list) u.form u.progress ≡ x
          from ps α f g h = rw (f, g) h

          go : {f : Result ⊤ Obstacle} → Turns fits right (counted stack₀) (counted output₀) (drop used list) u.form (length u.progress.written) (Close f) → Unfolds (grammar_in book index) list stack₀ output₀ (record { ending = f; used = used; written = written; deepest = deepest }) stack output
          go (Turns.finished e f) = closes (Ok tt) (from _ _ f e (finished_is fits right (counted stack₀) (counted output₀) u.progress))
          go (Turns.left_over {p = p} {qs = qs} e f) = closes (Err Unfit) (from _ _ f e (left_over_is fits right (counted stack₀) (counted output₀) p qs u.progress))
          go (Turns.too_short {A = A} {β = β} e f) = closes (Err Unfit) (from _ _ f e (too_short_is fits right (counted stack₀) (counted output₀) A β u.progress))
          go (Turns.misfit {A = A} {p = p} {β = β} {qs = qs} e f g) = closes (Err Unfit) (from _ _ f e (misfit_is fits right (counted stack₀) (counted output₀) p A qs β u.progress g))
          go (Turns.no_stack {A = A} {p = p} {β = β} {qs = qs} e f g h) = closes (Err FullStack) (from _ _ f e (no_stack_is fits right (counted stack₀) (counted output₀) p A qs β u.progress g h))
          go (Turns.no_output {t = t} {β = β} e h) = closes (Err FullOutput) (from _ _ refl e (no_output_is fits right (counted stack₀) (counted output₀) t (drop used list) β u.progress h))

-- that the start symbol is put on the stack changes no room
pub unfolds_from : {g : Grammar} {list : List ℕ} (stack : List ℕ) (b : ℕ) {stack₀ output : List ℕ}
    {r : Unfolding} {stack' output' : List ℕ}
    → stack₀ ≡ set stack 0 b
    → Unfolds g list stack₀ output r stack' output'
    → Unfolds g list stack output r stack' output'
unfolds_from {g} {list} stack b {stack₀} {output} e h =
    let long : length stack₀ ≡ length stack = ap length e ∙ length-set stack 0 b in
    let same : expansion g (counted stack₀) (counted output) list ≡ expansion g (counted stack) (counted output) list =
    ap (λ (n : ℕ). expansion g (min n 65535) (counted output) list) long in
    record {
      answer = h.answer ∙ ap unfolded same;
      written = h.written ∙ ap (λ (x : Expansion). over x.progress.written output) same;
      stack_length = h.stack_length ∙ long;
      output_length = h.output_length;
    }
