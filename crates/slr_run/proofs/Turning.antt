-- The invariant of one column's reductions: every string that begins with it runs from here as it ran from where they began.
use mathlib.Core.Path.{◌≡◌, refl, sym, ◌∙◌, ap}
use mathlib.Core.List.{List, [], ◌∷◌}
use mathlib.Core.Option.{some}
use Prim.Native.Nat.{ℕ, suc, ◌+◌, ◌-◌, ◌≤◌, ◌<◌}
use native.Mathlib.Omega.{arith}
use lib.ListN.{length, set, length-set}
use lib.Seq.{drop-set-lt}
use Rattle.grammar.specs.Grammar.{Column, token, endmark}
use Rattle.grammar.specs.Machine.{front}
use Rattle.answers.specs.Buffers.{counted}
use Rattle.slr.specs.Actions.{shift, accept}
use Rattle.slr.specs.RoomMachine.{Setting, Progress, stopped, slr_run_from}
use Rattle.slr.proofs.Promise.{run_empty, run_bare, run_no_move, run_accepts, run_shifts, run_shift_full, run_reduces, run_list_full, run_stack_full}
use Rattle.slr_run.specs.Stages.{held_by, stage_in, Held, stage_of, reason_in}
use Rattle.slr_run.specs.Deciding.{Turns}
use Rattle.slr_run.specs.Reducing.{reduced_to, shifted_to, finished, finished_stack, goes_on, continued, Kept, Offered}
use Rattle.slr_run.specs.declared.Cause.TheVariants.{FullList, FullStack, Wants}
use Rattle.slr_run.specs.declared.Cause.{Cause}
use Rattle.slr_run.specs.declared.Ending.TheVariants.{Shift, Accept, Stop}
use Rattle.slr_run.specs.declared.Ending.{Ending}
use Rattle.std.specs.Prelude.{Ok}
use Rattle.slr_run.specs.Stages.{halted}
use Rattle.slr_run.specs.declared.Stage.{Stage}
use Rattle.slr_run.specs.declared.Turn.TheVariants.{Reduce, Finish}
use Rattle.slr_run.specs.declared.Turn.{Turn}
use Rattle.slr_run.proofs.Held.{length_held}
use Rattle.slr_run.proofs.Staged.{stage_listed, uncovered, reduced_stage, shifted_stage, reduced_held, shifted_held, beyond_more}

-- the string that begins with a token, and the one that is over
front_token : (w : List ℕ) {t : ℕ} → front w ≡ token t → (v : List ℕ) × (w ≡ t ∷ v)
front_token [] e = let bad : ◌≡◌ {A = ℕ} 0 1 = cc in absurd (omega arith)
front_token (s ∷ v) {t} e = let same : s ≡ t = cc in (v, ap (λ (x : ℕ). x ∷ v) same)

front_end : (w : List ℕ) → front w ≡ endmark → w ≡ []
front_end [] e = refl
front_end (s ∷ v) e = let bad : ◌≡◌ {A = ℕ} 0 1 = cc in absurd (omega arith)

pub finished_length : (e : Ending) (at : Stage) (stack : List ℕ) → length (finished_stack e at stack) ≡ length stack
unfolding finished_stack
finished_length (Shift j) at stack = length-set stack at.height j
finished_length Accept at stack = refl
finished_length (Stop cause) at stack = refl

module _ (m : Setting) (rows : ℕ) (c : Column) (at₀ : Stage) (stack₀ list₀ : List ℕ) where
  pub record Turning (at : Stage) (stack list : List ℕ) : Type 0 where
    pub held : Held rows at stack
    pub listed : at.listed ≤ counted list
    pub further : at₀.listed ≤ at.listed
    pub matched : at.matched ≡ at₀.matched
    pub kept : Kept at stack₀ list₀ stack list
    pub same : (w : List ℕ)
        → front w ≡ c
        → slr_run_from m w (stage_in at₀ stack₀ list₀) ≡ slr_run_from m w (stage_in at stack list)

  pub turning_start : Held rows at₀ stack₀ → at₀.listed ≤ counted list₀ → Turning at₀ stack₀ list₀
  turning_start held listed =
      record {
        held = held;
        listed = listed;
        further = omega arith;
        matched = refl;
        kept = record { beyond = refl; stack_length = refl; list_length = refl };
        same = λ w e. refl;
      }

  module _ (room_is : m.room ≡ counted stack₀) (cells_are : m.cells ≡ counted list₀)
      {at : Stage} {stack list : List ℕ} (t : Turning at stack list) where
    abbrev Says : Turn → Type 0
    Says = Turns m rows c at.top (held_by stack (at.height - 1)) at.listed

    abbrev here : Progress
    here = stage_in at stack list

    -- the numbers of a reduction
    pub reduce_fits : {p j base : ℕ} → Says (Reduce p j base) → (base + 1 < counted stack) × (at.listed < counted list)
    reduce_fits (Turns.reduces says uncovers moved row few tall long) =
        (omega (arith, room_is, t.kept.stack_length), omega (arith, cells_are, t.kept.list_length))

    -- a state that is shifted to has a cell
    pub shift_fits : {e : Ending} → Says (Finish e) → (j : ℕ) → e ≡ Shift j → at.height < length stack
    shift_fits (Turns.empty says) j same = let bad : ◌≡◌ {A = ℕ} 0 1 = cc in absurd (omega arith)
    shift_fits (Turns.accepts says end) j same = let bad : ◌≡◌ {A = ℕ} 0 1 = cc in absurd (omega arith)
    shift_fits (Turns.shifts says next row tall) j same = omega (arith, room_is, t.held.some, t.kept.stack_length, length_held stack (at.height - 1))
    shift_fits (Turns.shift_full says next tall) j same = let bad : ◌≡◌ {A = ℕ} 0 1 = cc in absurd (omega arith)
    shift_fits (Turns.bare says uncovers) j same = let bad : ◌≡◌ {A = ℕ} 0 1 = cc in absurd (omega arith)
    shift_fits (Turns.no_move says uncovers moved) j same = let bad : ◌≡◌ {A = ℕ} 0 1 = cc in absurd (omega arith)
    shift_fits (Turns.list_full says uncovers moved few) j same = let bad : ◌≡◌ {A = ℕ} 0 1 = cc in absurd (omega arith)
    shift_fits (Turns.stack_full says uncovers moved few tall) j same = let bad : ◌≡◌ {A = ℕ} 0 1 = cc in absurd (omega arith)

    pub turning_reduce : {p j base : ℕ}
        → Says (Reduce p j base)
        → Turning (reduced_to j base at) (set stack (base + 1) j) (set list at.listed p)
    unfolding stage_in reduced_to
    turning_reduce {p} {j} {base} (Turns.reduces {k = k} {rest = rest} says uncovers moved row few tall long) =
        let (stays, low) = uncovered t.held (m.size p) uncovers in
        let stays_base : held_by stack (base + 1) ≡ k ∷ rest = rw (← long) stays in
        let cells_left : at.listed < counted list = omega (arith, cells_are, t.kept.list_length) in
        let next = reduced_stage at stack list p j base k rest (omega arith) stays_base long in
        record {
          held = reduced_held t.held j base row (omega arith) (omega (arith, room_is, t.kept.stack_length));
          listed = omega (arith, length-set list at.listed p);
          further = omega (arith, t.further);
          matched = t.matched;
          kept = record {
            beyond = drop-set-lt (at.listed + 1) list at.listed p (omega arith) ∙ beyond_more at.listed (at.listed + 1) list list₀ (omega arith) t.kept.beyond;
            stack_length = length-set stack (base + 1) j ∙ t.kept.stack_length;
            list_length = length-set list at.listed p ∙ t.kept.list_length;
          };
          same = λ w e. t.same w e ∙ run_reduces m w here p j k rest (rw e says) uncovers moved (omega (arith, stage_listed at stack list t.listed)) tall ∙ ap (slr_run_from m w) (sym next);
        }

    -- the run stops where it stands
    stops : (cause : Cause)
        → ((w : List ℕ) → front w ≡ c → slr_run_from m w here ≡ stopped (reason_in cause at) here)
        → Offered m rows c at₀ stack₀ list₀ (halted cause at) stack list
    unfolding continued stage_of
    stops cause h =
        record {
          goes = λ w e. t.same w e ∙ h w e;
          held = t.held;
          listed = t.listed;
          further = t.further;
          kept = t.kept;
          gains = λ x e n. let bad : ◌≡◌ {A = ℕ} 0 1 = cc in absurd (omega arith);
          few = omega (arith, t.matched);
        }

    -- the end mark is accepted
    accepted : m.cell at.top c ≡ some accept → c ≡ endmark → Offered m rows c at₀ stack₀ list₀ (Ok at) stack list
    unfolding continued goes_on stage_of stage_in
    accepted says end =
        record {
          goes = λ w e. let over : w ≡ [] = front_end w (e ∙ end) in t.same w e ∙ rw over (run_accepts m here (rw end at says));
          held = t.held;
          listed = t.listed;
          further = t.further;
          kept = t.kept;
          gains = λ x e n. absurd (n end);
          few = omega (arith, t.matched);
        }

    -- a token is matched
    shifted_on : {s j : ℕ}
        → m.cell at.top c ≡ some (shift j)
        → c ≡ token s
        → j < rows
        → suc (length (held_by stack (at.height - 1))) < m.room
        → Offered m rows c at₀ stack₀ list₀ (Ok (shifted_to j at)) (set stack at.height j) list
    unfolding continued goes_on stage_of stage_in shifted_to
    shifted_on {s} {j} says next row tall =
        record {
          goes = λ w e. let (v, same) = front_token w (e ∙ next) in t.same w e ∙ rw same (run_shifts m s j v here (rw next at says) tall ∙ ap (slr_run_from m v) (sym (shifted_stage at stack list t.held j)));
          held = shifted_held t.held j row (omega (arith, room_is, t.held.some, t.kept.stack_length, length_held stack (at.height - 1)));
          listed = t.listed;
          further = t.further;
          kept = record {
            beyond = t.kept.beyond;
            stack_length = length-set stack at.height j ∙ t.kept.stack_length;
            list_length = t.kept.list_length;
          };
          gains = λ x e n. let one : x ≡ shifted_to j at = cc in omega (arith, ap (λ (z : Stage). z.matched) one, t.matched);
          few = omega (arith, t.matched);
        }

    pub turning_finish : {e : Ending}
        → Says (Finish e)
        → Offered m rows c at₀ stack₀ list₀ (finished e at) (finished_stack e at stack) list
    unfolding finished finished_stack reason_in stage_in
    turning_finish (Turns.empty says) = stops Wants (λ w e. run_empty m w here (rw e says))
    turning_finish (Turns.bare {p = p} says uncovers) = stops Wants (λ w e. run_bare m w here p (rw e says) uncovers)
    turning_finish (Turns.no_move {p = p} {k = k} {rest = rest} says uncovers moved) =
        stops Wants (λ w e. run_no_move m w here p (rw e says) k rest uncovers moved)
    turning_finish (Turns.list_full {p = p} {k = k} {j = j} {rest = rest} says uncovers moved few) =
        stops FullList (λ w e. run_list_full m w here p j k rest (rw e says) uncovers moved (omega (arith, stage_listed at stack list t.listed)))
    turning_finish (Turns.stack_full {p = p} {k = k} {j = j} {rest = rest} says uncovers moved few tall) =
        stops FullStack (λ w e. run_stack_full m w here p j k rest (rw e says) uncovers moved (omega (arith, stage_listed at stack list t.listed)) tall)
    turning_finish (Turns.shift_full {t = s} {j = j} says next tall) =
        stops FullStack (λ w e. let (v, same) = front_token w (e ∙ next) in rw same (run_shift_full m s j v here (rw next at says) tall))
    turning_finish (Turns.accepts says end) = accepted says end
    turning_finish (Turns.shifts {t = s} {j = j} says next row tall) = shifted_on says next row tall
