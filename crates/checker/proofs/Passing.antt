-- What a check tells: it passes a table exactly if that is built without conflict, and so exactly if building writes it.
use mathlib.Core.Path.{◌≡◌, refl, sym, ap, ◌∙◌, subst}
use mathlib.Core.Logic.{◌↔◌}
use mathlib.Core.List.{List}
use Prim.Native.Nat.{ℕ, ◌≤◌}
use native.Mathlib.Omega.{arith}
use lib.ListN.{length, take, drop}
use lib.Seq.{take_at}
use Rattle.grammar.specs.Grammar.{Grammar, Conflict}
use Rattle.answers.specs.declared.Answer.{Answer}
use Rattle.answers.specs.Answers.{done, refusal}
use Rattle.answers.specs.Buffers.{over}
use Rattle.book.specs.Judging.{Serves}
use Rattle.book.proofs.Promise.{refuses_number, refuses_not_serves, serves_unique}
use Rattle.follow.specs.Calls.{SetsFit}
use Rattle.table.specs.Table.{size, BuiltWithoutConflict}
use Rattle.table.specs.Fitting.{FitTable}
use Rattle.table.specs.Calls.{BuildOutcome}
use Rattle.table.proofs.Promise.{misfit_not_fit, first_is_conflict, build_built, built_build, built_done}
use Rattle.checker.specs.Calls.{CheckOutcome, refused, misfit, conflict, differs, passed}
use Rattle.checker.proofs.Unique.{check_outcome_unique}

module _ {book table : List ℕ} {a : Answer} (outcome : CheckOutcome book table a) where
  passed_built : a.number ≡ 0 → BuiltWithoutConflict book table
  unfolding refusal
  passed_built e = go outcome e
    where
      go : {b : Answer} → CheckOutcome book table b → b.number ≡ 0 → BuiltWithoutConflict book table
      go (refused r) e = absurd (omega (arith, refuses_number r))
      go (misfit s m) e = absurd (omega arith)
      go (conflict s f c) e = absurd (omega arith)
      go (differs s f n d) e = absurd (omega arith)
      go (passed b) e = b

  pub check_passes : (a.number ≡ 0) ↔ BuiltWithoutConflict book table
  unfolding done
  check_passes = (passed_built, λ b. ap (λ (c : Answer). c.number) (check_outcome_unique outcome (passed b)))

  pub check_conflict : {g : Grammar} → Serves book g → FitTable g table → (a.number ≡ 8) ↔ Conflict g
  unfolding refusal done
  check_conflict {g} serves fits = (told outcome, λ k. number k outcome)
    where
      same : {h : Grammar} → Serves book h → h ≡ g
      same s = serves_unique s serves

      told : {b : Answer} → CheckOutcome book table b → b.number ≡ 8 → Conflict g
      told (refused r) e = absurd (omega (arith, refuses_number r))
      told (misfit s m) e = absurd (omega arith)
      told (conflict s f c) e = subst Conflict (same s) (first_is_conflict c)
      told (differs s f n d) e = absurd (omega arith)
      told (passed b) e = absurd (omega arith)

      number : Conflict g → {b : Answer} → CheckOutcome book table b → b.number ≡ 8
      number k (refused r) = absurd (refuses_not_serves r serves)
      number k (misfit {g = h} s m) =
          absurd (misfit_not_fit m (subst (λ (x : Grammar). FitTable x table) (sym (same s)) fits))
      number k (conflict s f c) = refl
      number k (differs s f n d) = absurd (n (subst Conflict (sym (same s)) k))
      number k (passed b) = absurd (b.no_conflict (subst Conflict (sym (same b.serves)) k))

  -- on a served book with room, building is done and writes this very table exactly if the check passes it
  pub check_build : {g : Grammar} {first follow buffer : List ℕ} {b : Answer} {f w t : List ℕ}
      → Serves book g
      → SetsFit g first follow
      → size g ≤ length buffer
      → BuildOutcome book first follow buffer b f w t
      → (a.number ≡ 0) ↔ ((b.number ≡ 0) × (take (size g) t ≡ table))
  unfolding done
  check_build {g} {first} {follow} {buffer} {b} {f} {w} {t} serves fit room built = (λ e. writes (passed_built e), λ h. passes h)
    where
      writes : BuiltWithoutConflict book table → (b.number ≡ 0) × (take (size g) t ≡ table)
      writes x =
          let same : x.grammar ≡ g = serves_unique x.serves serves in
          let answered = built_done x (subst (λ (h : Grammar). SetsFit h first follow) (sym same) fit) (rw same room) built in
          let number : b.number ≡ 0 = ap (λ (c : Answer). c.number) answered in
          let sized : length table ≡ size g = x.built.sized ∙ ap size same in
          let cells : t ≡ over table buffer = built_build x built number in
          (number, ap (take (size g)) cells ∙ take_at table (drop (length table) buffer) (size g) sized)

      passes : (b.number ≡ 0) × (take (size g) t ≡ table) → a.number ≡ 0
      passes h =
          let (k, s, x) = build_built built h.0 in
          let same : take (size k) t ≡ table = ap (λ (y : Grammar). take (size y) t) (serves_unique s serves) ∙ h.1 in
          check_passes.1 (subst (BuiltWithoutConflict book) same x)
