-- A run on the grammar that an index finds in a book: what the checks admit, what the machine goes by, and the outcome.
use Rattle.std.specs.Prelude.{Ok, Err}
use mathlib.Core.Path.{◌≡◌, refl, sym, ◌∙◌, ap, subst}
use mathlib.Core.List.{List}
use Prim.Native.Nat.{ℕ, zero, suc, ◌+◌, ◌*◌, ◌%◌, ◌^◌, ◌<◌}
use native.Mathlib.Decide.{dec_lt}
use native.Mathlib.Nat.{div-add-mod'}
use native.Mathlib.Omega.{arith}
use lib.Arith.{digits_lt, digits_mod}
use lib.ListN.{length, get_or, replicate}
use Rattle.grammar.specs.Grammar.{Grammar, Column, token, endmark, WellFormed}
use Rattle.answers.specs.declared.Answer.{Answer}
use Rattle.answers.specs.Buffers.{counted, cleared, over}
use Rattle.reader.specs.Fields.{left_at, length_at}
use Rattle.book.specs.Judging.{Indexes}
use Rattle.book.specs.declared.Index.{Index}
use Rattle.book.specs.Columns.{production_at, productions_from, outlined, grammar_in, Gathered}
use Rattle.book.specs.declared.columns.Outline.{Outline}
use Rattle.book.proofs.Promise.{production_found, production_missing, outlined_sized, is_of_rule, reading_grammar, serves_well_formed}
use Rattle.stack.proofs.Promise.{length_symbols}
use Rattle.slr.specs.Cells.{action_in, move_in}
use Rattle.slr.specs.RoomMachine.{Setting, SlrOffered, left_in, size_in, setting_of, slr_run}
use Rattle.slr.specs.Ends.{slr_final}
use Rattle.slr_run.specs.Fitting.{NumberFits}
use Rattle.slr_run.specs.Running.{slr_ran, slr_answered, SlrAdmits, SlrRunOutcome}
use Rattle.slr_run.specs.Checking.{columns_in, rows_of, Counts, CheckedFor}
use Rattle.slr_run.specs.Stages.{numbers_of, setting_by, number_at, Grounds, stage_of}
use Rattle.slr_run.specs.Reducing.{Ended}
use Rattle.slr_run.specs.Answering.{Answers, RanFor}
use Rattle.slr_run.specs.Stages.{Reply}

count_from : (book places : List ℕ) (n i : ℕ) → length (productions_from book places n i) ≡ n
unfolding productions_from
count_from book places zero i = refl
count_from book places (suc n) i = ap suc (count_from book places n (suc i))

-- the numbers of the outline are the grammar's
pub outline_counts : (book places : List ℕ) (o : Outline) → Counts o (outlined book places o)
unfolding outlined
outline_counts book places o =
    record { tokens = refl; nonterminals = refl; productions = count_from book places o.productions 0 }

module _ (book places : List ℕ) (o : Outline) (table tokens stack : List ℕ) where
  abbrev g : Grammar
  g = outlined book places o

  pub ran_barred : {list : List ℕ} {a : Answer}
      → CheckedFor o table tokens (length stack) (Err a)
      → RanFor g table tokens stack list a stack list
  ran_barred check =
      record { served = λ serves. SlrRunOutcome.barred serves (check.checked g (outline_counts book places o) stack refl) }

  pub ran_admits : CheckedFor o table tokens (length stack) (Ok tt) → SlrAdmits g table tokens stack
  ran_admits check = check.checked g (outline_counts book places o) stack refl

  pub admitted_known : SlrAdmits g table tokens stack → (i : ℕ) → i < length tokens → get_or tokens i 0 < o.tokens
  unfolding outlined
  admitted_known admits = admits.known

  -- what the checks and the judging leave to the steps
  pub admitted_grounds : {lefts : List ℕ}
      → WellFormed g
      → Gathered (left_at book) places o.productions lefts
      → SlrAdmits g table tokens stack
      → Grounds o table lefts
  unfolding outlined
  admitted_grounds {lefts} well column admits =
      let split : rows_of o table * columns_in o + length table % columns_in o ≡ length table = div-add-mod' (length table) (columns_in o) in
      let whole : length table % columns_in o ≡ 0 = admits.fits.sized.whole in
      let sized : length table ≡ rows_of o table * columns_in o = omega arith in
      record {
        sized = sized;
        some = admits.fits.sized.some;
        few = admits.fits.sized.few;
        fits = λ s c row col. fits_at s c col (let inside : s * columns_in o + c < rows_of o table * columns_in o = digits_lt row col in omega arith);
        lefts_known = λ p h. well.left_known (is_of_rule book places o column (record { inside = h; left = refl })).1;
      }
    where
      fits_at : (s c : ℕ)
          → c < columns_in o
          → s * columns_in o + c < length table
          → NumberFits o.tokens o.productions (rows_of o table) c (number_at o table s c)
      fits_at s c col inside =
          rw (digits_mod s col, count_from book places o.productions 0) at (admits.fits.cells (s * columns_in o + c) inside)

  module _ {lefts lengths : List ℕ} (left_column : Gathered (left_at book) places o.productions lefts) (length_column : Gathered (length_at book) places o.productions lengths) where
    left_same : (p : ℕ) → get_or lefts p 0 ≡ left_in g p
    unfolding left_in production_at
    left_same p = go (dec_lt p o.productions)
      where
        go : Dec (p < o.productions) → get_or lefts p 0 ≡ left_in g p
        go (yes h) = left_column.inside p h ∙ rw (production_found book places o h, left_in)
        go (no n) = left_column.beyond p (omega arith) ∙ rw (production_missing book places o {p = p} (omega arith), left_in)

    size_same : (p : ℕ) → get_or lengths p 0 ≡ size_in g p
    unfolding size_in production_at
    size_same p = go (dec_lt p o.productions)
      where
        go : Dec (p < o.productions) → get_or lengths p 0 ≡ size_in g p
        go (yes h) =
            length_column.inside p h
            ∙ rw (production_found book places o h, size_in) (sym (length_symbols book (get_or places p 0 + 4) (get_or book (get_or places p 0 + 3) 0)))
        go (no n) = length_column.beyond p (omega arith) ∙ rw (production_missing book places o {p = p} (omega arith), size_in)

    cell_same : (s : ℕ) (c : Column) → action_in (numbers_of o) table s c ≡ action_in g table s c
    unfolding action_in outlined
    cell_same s (token t) = refl
    cell_same s endmark = refl

    move_same : (s A : ℕ) → move_in (numbers_of o) table s A ≡ move_in g table s A
    unfolding move_in outlined
    move_same s A = refl

    -- what the code goes by is what the machine goes by
    setting_is : (room cells : ℕ) → setting_by o lefts lengths table room cells ≡ setting_of g (action_in g table) (move_in g table) room cells
    unfolding setting_by
    setting_is room cells = λ i. record {
      left = λ p. left_same p i;
      size = λ p. size_same p i;
      cell = λ s c. cell_same s c i;
      move = λ s A. move_same s A i;
      room = room;
      cells = cells;
    }

    module _ (list : List ℕ) {reply : Reply} {stack₁ list₁ : List ℕ}
        (ends : Ended (setting_by o lefts lengths table (counted stack) (counted list)) tokens stack list reply stack₁ list₁) where
      ran_is : slr_run (setting_by o lefts lengths table (counted stack) (counted list)) tokens ≡ slr_ran g table tokens stack list
      unfolding slr_ran
      ran_is = ap (λ (m : Setting). slr_run m tokens) (setting_is (counted stack) (counted list))

      -- productions listed and tokens matched can be counted together
      pub ended_countable : SlrAdmits g table tokens stack → (stage_of reply).listed + (stage_of reply).matched < 2 ^ 64
      ended_countable admits = omega (arith, ends.listed, ends.few, admits.short)

      pub ran_ended : {r : Answer} {after : List ℕ}
          → SlrAdmits g table tokens stack
          → after ≡ cleared stack₁
          → Answers o table reply r
          → RanFor g table tokens stack list r after list₁
      ran_ended {r} admits clears answers =
          let answer : r ≡ slr_answered g table (slr_ran g table tokens stack list) =
          answers.answer g (outlined_sized book places o) stack₁ list₁
          ∙ ap (slr_answered g table) (sym ends.ends ∙ ran_is) in
          let cells = clears ∙ ap (λ (n : ℕ). replicate n 0) ends.stack_length in
          let lists = ends.lists ∙ ap (λ (x : SlrOffered). over (slr_final x).listed list) ran_is in
          rw (answer, cells, lists) (record { served = λ serves. SlrRunOutcome.ended serves admits })

-- what judging gives of a book that it does not refuse
module _ {book : List ℕ} {i : Index} (x : Indexes book i) where
  pub run_formed : WellFormed (grammar_in book i)
  run_formed = subst WellFormed (sym (reading_grammar x.serves x.index)) (serves_well_formed x.serves)

  pub run_served : {table tokens stack list : List ℕ} {r : Answer} {stack' list' : List ℕ}
      → RanFor (grammar_in book i) table tokens stack list r stack' list'
      → SlrRunOutcome book table tokens stack list r stack' list'
  run_served {table} {tokens} {stack} {list} {r} {stack'} {list'} on =
      (subst (λ (g : Grammar). RanFor g table tokens stack list r stack' list') (reading_grammar x.serves x.index) on).served x.serves
