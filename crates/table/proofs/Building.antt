-- What a call of build tells: a conflict exactly if the grammar has one, and then the first; otherwise the table built without
-- conflict, and no other.
use mathlib.Core.Path.{◌≡◌, refl, ap, ◌∙◌, subst}
use mathlib.Core.Logic.{◌↔◌, inl, inr}
use mathlib.Core.List.{List}
use Prim.Native.Nat.{ℕ, ◌≤◌}
use native.Mathlib.Omega.{arith}
use lib.ListN.{length, take, drop}
use lib.Seq.{take_at}
use Rattle.grammar.specs.Grammar.{Grammar, Conflict}
use Rattle.grammar.proofs.Machine.{exact_no_conflict}
use Rattle.answers.specs.declared.Answer.{Answer}
use Rattle.answers.specs.Answers.{done, refusal}
use Rattle.answers.specs.Buffers.{over}
use Rattle.reader.specs.Book.{Limits}
use Rattle.book.specs.Judging.{Serves}
use Rattle.book.proofs.Promise.{serves_unique, serves_limits, refuses_number}
use Rattle.table.specs.Table.{size, row_at, column_at, TableOf, FirstConflict, BuiltWithoutConflict}
use Rattle.follow.specs.Calls.{no_first, no_follow, SetsFit}
use Rattle.table.specs.Calls.{BuildOutcome, refused, no_room, no_table, conflict, served, BuildResult, ReportsConflict}
use Rattle.table.proofs.Cells.{table_exact}
use Rattle.table.proofs.Unique.{table_unique, conflict_no_table}
use Rattle.table.proofs.Outcomes.{Built, WithTable, build_with_room}

module _ {g : Grammar} where
  pub first_is_conflict : {i p q : ℕ} → FirstConflict g i p q → Conflict g
  first_is_conflict {i} {p} {q} k =
      record { row = row_at g i; col = column_at g i; one = p; other = q; distinct = λ e. omega (arith, k.order); claims_one = k.lowest; claims_other = k.next }

  -- a table leaves no conflict
  pub table_no_conflict : Limits g → {cells : List ℕ} → TableOf g cells → ¬ Conflict g
  table_no_conflict limits {cells} t = exact_no_conflict (table_exact limits cells t)

module _ {book first follow table : List ℕ} where
  -- the answer's number is 8 exactly if two productions claim one cell
  pub conflict_iff : {g : Grammar} {a : Answer} {f w t : List ℕ}
      → Serves book g
      → SetsFit g first follow
      → size g ≤ length table
      → BuildOutcome book first follow table a f w t
      → (a.number ≡ 8) ↔ Conflict g
  unfolding done refusal
  conflict_iff {g} {a} {f} {w} {t} s fit room o = (found (build_with_room book first follow table s fit room o), told (build_with_room book first follow table s fit room o))
    where
      found : WithTable book first follow table g (a, f, w, t) → a.number ≡ 8 → Conflict g
      found (inl c) e = first_is_conflict c.conflict
      found (inr b) e = let number : a.number ≡ 0 = ap (λ (x : BuildResult). x.0.number) b.is in absurd (omega arith)

      told : WithTable book first follow table g (a, f, w, t) → Conflict g → a.number ≡ 8
      told (inl c) k = ap (λ (x : BuildResult). x.0.number) c.is
      told (inr b) k = absurd (table_no_conflict (serves_limits s) b.built k)

  -- the conflict reported is the first in cell order, with the two lowest claimants
  pub conflict_first : {a : Answer} {f w t : List ℕ}
      → BuildOutcome book first follow table a f w t
      → a.number ≡ 8
      → ReportsConflict book first follow table (a, f, w, t)
  unfolding done refusal
  conflict_first (refused r) e = absurd (omega (arith, refuses_number r))
  conflict_first (no_room s (no_first l)) e = absurd (omega arith)
  conflict_first (no_room s (no_follow h l)) e = absurd (omega arith)
  conflict_first (no_table s fit l) e = absurd (omega arith)
  conflict_first (conflict {g = g} {i = i} {p = p} {q = q} s fit l c) e = record { grammar = g; serves = s; cell = i; lowest = p; next = q; first_conflict = c; is = refl }
  conflict_first (served s fit l h k t) e = absurd (omega arith)

  done_built : {a : Answer} {f w t : List ℕ}
      → BuildOutcome book first follow table a f w t
      → a.number ≡ 0
      → (g : Grammar) × Serves book g × Built book first follow table g (a, f, w, t)
  unfolding done refusal
  done_built (refused r) e = absurd (omega (arith, refuses_number r))
  done_built (no_room s (no_first l)) e = absurd (omega arith)
  done_built (no_room s (no_follow h l)) e = absurd (omega arith)
  done_built (no_table s fit l) e = absurd (omega arith)
  done_built (conflict s fit l c) e = absurd (omega arith)
  done_built (served {g = g} {xs = xs} {ys = ys} {cells = cells} s fit l h k t) e =
      (g, s, record { fit = fit; room = l; xs = xs; ys = ys; cells = cells; firsts = h; follows = k; built = t; is = refl })

  -- building that is done gives a table built without conflict
  pub build_built : {a : Answer} {f w t : List ℕ}
      → BuildOutcome book first follow table a f w t
      → a.number ≡ 0
      → (g : Grammar) × Serves book g × BuiltWithoutConflict book (take (size g) t)
  build_built {t = t} o e =
      let (g, s, b) = done_built o e in
      let there : take (size g) t ≡ b.cells = ap (λ (x : BuildResult). take (size g) x.3) b.is ∙ take_at b.cells (drop (length b.cells) table) (size g) b.built.sized in
      (g, s, rw there (record { grammar = g; serves = s; no_conflict = table_no_conflict (serves_limits s) b.built; built = b.built }))

  module _ {cells : List ℕ} (b : BuiltWithoutConflict book cells) where
    -- a table built without conflict, whoever made it, is what building writes
    pub built_build : {a : Answer} {f w t : List ℕ} → BuildOutcome book first follow table a f w t → a.number ≡ 0 → t ≡ over cells table
    built_build {t = t} o e =
        let (g, s, made) = done_built o e in
        let same : made.cells ≡ cells = table_unique made.cells cells made.built (subst (λ (h : Grammar). TableOf h cells) (serves_unique b.serves s) b.built) in
        ap (λ (x : BuildResult). x.3) made.is ∙ ap (λ (x : List ℕ). over x table) same

    -- and with room for all, building is done
    pub built_done : {a : Answer} {f w t : List ℕ}
        → SetsFit b.grammar first follow
        → size b.grammar ≤ length table
        → BuildOutcome book first follow table a f w t
        → a ≡ done 0
    built_done {a} {f} {w} {t} fit room o = go (build_with_room book first follow table b.serves fit room o)
      where
        go : WithTable book first follow table b.grammar (a, f, w, t) → a ≡ done 0
        go (inl c) = absurd (conflict_no_table c.conflict b.built)
        go (inr x) = ap (λ (y : BuildResult). y.0) x.is
