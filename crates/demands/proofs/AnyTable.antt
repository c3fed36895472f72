-- A run on any table that passes refusal 9, also one never built here: its steps are counted, and it accepts only what the start derives.
use mathlib.Core.Path.{◌≡◌, subst}
use mathlib.Core.List.{List}
use mathlib.Core.Option.{Option, some, none}
use Prim.Native.Nat.{ℕ, ◌+◌, ◌*◌, ◌≤◌, ◌<◌}
use native.Mathlib.Decide.{dec_lt}
use native.Mathlib.Omega.{arith}
use borrow.Author.Tests.{lt-ltb, le-ltb}
use lib.Arith.{digits_lt, digits_div}
use lib.ListN.{length, get_or}
use Rattle.grammar.specs.Grammar.{Grammar, Column, token, endmark, Rule, Complete}
use Rattle.answers.specs.Buffers.{over, counted}
use Rattle.table.specs.Table.{row_at, held, cell_of}
use Rattle.table.specs.Fitting.{Fits, vacant, filled, FitTable}
use Rattle.machine.specs.Room.{right_of}
use Rattle.machine.specs.Machine.{Offered, final}
use Rattle.machine.proofs.Promise.{Counted, Rows, right_of_lem, run_steps, run_sound}
use Rattle.offer.specs.Strings.{ran}
use Rattle.offer.specs.Stops.{expected, run_answer}
use Rattle.offer.proofs.Promise.{Told, told, told_done, told_steps}
use Rattle.demands.specs.Demands.{Ran}
use Rattle.demands.proofs.Kept.{EndsRun}

module _ {g : Grammar} {table tokens stack list : List ℕ} {r : Ran} (e : EndsRun g table tokens stack list r) where
  -- how the machine ended, and the answer
  pub ends_told : Told (expected g table) (ran g table tokens stack list) r.answer
  unfolding run_answer
  ends_told = rw e.answer (told (expected g table) (ran g table tokens stack list))

  -- the steps are the productions listed and the tokens matched
  pub ends_steps : r.answer.steps ≡ length (final (ran g table tokens stack list)).listed + (final (ran g table tokens stack list)).matched
  unfolding ran
  ends_steps =
      let o : Offered = ran g table tokens stack list in
      let counts : Counted (counted stack) (counted list) (final o) = run_steps (right_of g) (cell_of g table) (counted stack) (counted list) g.start tokens in
      omega (arith, told_steps ends_told, counts.steps)

module _ {g : Grammar} {table : List ℕ} (fit : FitTable g table) where
  -- a filled cell holds a production of its row
  fits_row : {i : ℕ} → Fits g table i → {p : ℕ} → held (get_or table i 255) ≡ some p → Rule g p (row_at g i) (right_of g p)
  fits_row (vacant e) f = let bad : ◌≡◌ {A = ℕ} 0 1 = cc in absurd (omega arith)
  fits_row {i} (filled {p = q} e rule) {p} f =
      let same : q ≡ p = cc in
      rw (← same, right_of_lem rule) rule

  cell_row : {A j : ℕ} → A < g.nonterminals → j < g.tokens + 1 → {p : ℕ} → held (get_or table (A * (g.tokens + 1) + j) 255) ≡ some p → Rule g p A (right_of g p)
  cell_row {A} {j} a h {p} e = subst (λ (B : ℕ). Rule g p B (right_of g p)) (digits_div A h) (fits_row (fit.cells (A * (g.tokens + 1) + j) (digits_lt a h)) e)

  outside : {o : Option ℕ} {p : ℕ} → o ≡ none → o ≡ some p → ⊥
  outside e f = let bad : ◌≡◌ {A = ℕ} 0 1 = cc in omega arith

  -- what the machine finds in the table is a production of the row
  pub fit_rows : Rows g (cell_of g table)
  unfolding cell_of
  fit_rows = record { rows = λ A c p e. row A c p e (dec_lt A g.nonterminals) }
    where
      row : (A : ℕ) (c : Column) (p : ℕ) → cell_of g table A c ≡ some p → Dec (A < g.nonterminals) → Rule g p A (right_of g p)
      row A (token t) p e (no n) = let far : g.nonterminals ≤ A = omega arith in absurd (outside (rw (le-ltb A g.nonterminals far, cell_of)) e)
      row A endmark p e (no n) = let far : g.nonterminals ≤ A = omega arith in absurd (outside (rw (le-ltb A g.nonterminals far, cell_of)) e)
      row A endmark p e (yes a) = cell_row a (omega arith) (rw (lt-ltb A g.nonterminals a, cell_of) at e)
      row A (token t) p e (yes a) = column (dec_lt t g.tokens)
        where
          column : Dec (t < g.tokens) → Rule g p A (right_of g p)
          column (yes h) = cell_row a (omega arith) (rw (lt-ltb A g.nonterminals a, lt-ltb t g.tokens h, cell_of) at e)
          column (no n) = let far : g.tokens ≤ t = omega arith in absurd (outside (rw (lt-ltb A g.nonterminals a, le-ltb t g.tokens far, cell_of)) e)

  -- a string that is accepted is derived, by the list that is written, and the steps are its productions and the tokens
  pub any_accepted : {tokens stack list : List ℕ} {r : Ran}
      → EndsRun g table tokens stack list r
      → r.answer.number ≡ 0
      → (ps : List ℕ) × Complete g ps tokens × (r.list ≡ over ps list) × (r.answer.steps ≡ length ps + length tokens)
  unfolding ran final
  any_accepted {tokens} {stack} {list} e n =
      let (s, taken_at) = told_done (ends_told e) n in
      let sound = run_sound fit_rows (counted stack) (counted list) tokens taken_at in
      let steps = rw taken_at at (ends_steps e) in
      (s.listed, sound.complete, rw taken_at at e.written, omega (arith, steps, sound.matches))
