-- The invariant of a run: from where it stands, the tokens that are left come to what the whole string comes to.
use mathlib.Core.Path.{◌≡◌, refl, sym, ◌∙◌, ap, subst}
use mathlib.Core.Logic.{◌≢◌}
use mathlib.Core.List.{List}
use Prim.Native.Nat.{ℕ, suc, ◌+◌, ◌≤◌, ◌<◌}
use native.Mathlib.Decide.{dec_lt}
use native.Mathlib.Numerals.{add-one}
use native.Mathlib.Omega.{arith}
use lib.ListN.{length, get_or, take, drop, set, length-set, take-append-drop, drop_of_length-le}
use lib.Seq.{drop-cons, get_or-set_same, length-take-le}
use Rattle.grammar.specs.Grammar.{token, endmark}
use Rattle.grammar.specs.Machine.{front}
use Rattle.answers.specs.Buffers.{counted}
use Rattle.slr.specs.RoomMachine.{Setting, SlrOffered, slr_begun, slr_run_from, slr_run}
use Rattle.slr.specs.Ends.{slr_final}
use Rattle.slr_run.specs.Stages.{column_at, held_by, stage_in, Held, stage_of, outcome_in}
use Rattle.slr_run.specs.Machines.{machine_setting}
use Rattle.slr_run.specs.declared.reading.Machine.{Machine}
use Rattle.slr_run.specs.Reducing.{goes_on, continued, Kept, Offered, Ended}
use Rattle.std.specs.Prelude.{[], Ok, Err}
use Rattle.slr_run.specs.Stages.{Reply}
use Rattle.slr_run.specs.declared.Stage.{Stage}
use Rattle.slr_run.proofs.Told.{under_end, under_token}
use Rattle.slr_run.proofs.Staged.{kept_on}

-- the column of token i, or of the end mark
pub record ColumnOf (T : ℕ) (tokens : List ℕ) (i column : ℕ) : Type 0 where
  pub inside : i < length tokens → column ≡ get_or tokens i 0
  pub over : length tokens ≤ i → column ≡ T

module _ (T : ℕ) (tokens : List ℕ) (known : (i : ℕ) → i < length tokens → get_or tokens i 0 < T) {i column : ℕ}
    (is : ColumnOf T tokens i column) where
  pub column_low : column ≤ T
  column_low = go (dec_lt i (length tokens))
    where
      go : Dec (i < length tokens) → column ≤ T
      go (yes h) = omega (arith, is.inside h, known i h)
      go (no h) = omega (arith, is.over (omega arith))

  -- what is left begins with it
  front_is : front (drop i tokens) ≡ column_at T column
  front_is = go (dec_lt i (length tokens))
    where
      go : Dec (i < length tokens) → front (drop i tokens) ≡ column_at T column
      go (yes h) =
          ap front (drop-cons tokens i 0 h)
          ∙ sym (ap (column_at T) (is.inside h) ∙ under_token T (get_or tokens i 0) (known i h))
      go (no h) =
          ap front (drop_of_length-le tokens {i = i} (omega arith))
          ∙ sym (under_end T column (is.over (omega arith)))

  -- and it is no end mark where tokens are left
  token_next : i < length tokens → column_at T column ≢ endmark
  token_next h e =
      let next : column_at T column ≡ token (get_or tokens i 0) =
      ap (column_at T) (is.inside h) ∙ under_token T (get_or tokens i 0) (known i h) in
      let bad : ◌≡◌ {A = ℕ} 0 1 = cc in omega arith

stopped_told : (m : Setting) (w : List ℕ) (x : Reply) (stack list : List ℕ)
    → ((y : Stage) → x ≢ Ok y)
    → continued m w x stack list ≡ outcome_in x stack list
unfolding continued outcome_in
stopped_told m w (Ok y) stack list n = absurd (n y refl)
stopped_told m w (Err h) stack list n = refl

module _ (m : Setting) (rows : ℕ) (tokens stack₀ list₀ : List ℕ) where
  pub record Running (at : Stage) (stack list : List ℕ) : Type 0 where
    pub held : Held rows at stack
    pub listed : at.listed ≤ counted list
    pub inside : at.matched ≤ length tokens
    pub kept : Kept at stack₀ list₀ stack list
    pub same : slr_run_from m (drop at.matched tokens) (stage_in at stack list) ≡ slr_run m tokens

  pub running_start : (stack : List ℕ)
      → 1 ≤ rows
      → 1 ≤ length stack
      → stack₀ ≡ set stack 0 0
      → Running (record { top = 0; height = 1; listed = 0; matched = 0; deepest = 1 }) stack₀ list₀
  unfolding stage_in held_by slr_begun
  running_start stack some h e =
      let bottom : get_or stack₀ 0 0 ≡ 0 = ap (λ (s : List ℕ). get_or s 0 0) e ∙ get_or-set_same stack 0 0 0 (omega arith) in
      let long : length stack₀ ≡ length stack = ap length e ∙ length-set stack 0 0 in
      record {
        held = record {
          some = omega arith;
          height = omega arith;
          top = sym bottom;
          states = λ i k. let first : i ≡ 0 = omega arith in rw (first, bottom) (omega arith);
        };
        listed = omega arith;
        inside = omega arith;
        kept = record { beyond = refl; stack_length = refl; list_length = refl };
        same = refl;
      }

  module _ (T : ℕ) (known : (i : ℕ) → i < length tokens → get_or tokens i 0 < T)
      {at : Stage} {stack list : List ℕ} (w : Running at stack list) {column : ℕ} (is : ColumnOf T tokens at.matched column) {r : Reply} {stack' list' : List ℕ}
      (offered : Offered m rows (column_at T column) at stack list r stack' list') where
    abbrev rest : List ℕ
    rest = drop at.matched tokens

    goes : slr_run m tokens ≡ continued m rest r stack' list'
    goes = sym w.same ∙ offered.goes rest (front_is T tokens known is)

    kept : Kept (stage_of r) stack₀ list₀ stack' list'
    kept = kept_on w.kept offered.kept offered.further

    listed_final : (x : Reply) → slr_run m tokens ≡ outcome_in x stack' list' → (slr_final (slr_run m tokens)).listed ≡ take (stage_of x).listed list'
    unfolding outcome_in slr_final stage_in stage_of
    listed_final (Ok at) e = ap (λ (o : SlrOffered). (slr_final o).listed) e
    listed_final (Err h) e = ap (λ (o : SlrOffered). (slr_final o).listed) e

    -- what the last column comes to is what the run comes to
    ends : slr_run m tokens ≡ outcome_in r stack' list' → Ended m tokens stack₀ list₀ r stack' list'
    ends e =
        let n : ℕ = (stage_of r).listed in
        let long : length (take n list') ≡ n = length-take-le n list' (omega (arith, offered.listed)) in
        record {
          ends = e;
          lists = sym (rw (listed_final r e, long, ← kept.beyond) (take-append-drop n list'));
          listed = omega (arith, offered.listed, kept.list_length);
          few = omega (arith, offered.few, w.inside);
          stack_length = kept.stack_length;
          list_length = kept.list_length;
        }

    -- the end mark is the last column, whatever becomes of it
    pub running_over : length tokens ≤ at.matched → Ended m tokens stack₀ list₀ r stack' list'
    unfolding continued outcome_in goes_on
    running_over h = ends (goes ∙ rw (drop_of_length-le tokens {i = at.matched} h) (over r))
      where
        over : (x : Reply) → continued m [] x stack' list' ≡ outcome_in x stack' list'
        over (Ok y) = refl
        over (Err y) = refl

    pub running_stopped : ((x : Stage) → r ≢ Ok x) → Ended m tokens stack₀ list₀ r stack' list'
    running_stopped other = ends (goes ∙ stopped_told m rest r stack' list' other)

    pub running_next : {x : Stage} → r ≡ Ok x → at.matched < length tokens → Running x stack' list' × (x.matched ≡ at.matched + 1)
    unfolding continued goes_on stage_of
    running_next {x} e h =
        let matched : x.matched ≡ at.matched + 1 = offered.gains x e (token_next T tokens known is h) in
        let here : stage_of r ≡ x = ap stage_of e in
        let on : slr_run m tokens ≡ slr_run_from m (drop (suc at.matched) tokens) (stage_in x stack' list') =
        goes ∙ rw (e, drop-cons tokens at.matched 0 h) in (
          record {
            held = subst (λ (y : Stage). Held rows y stack') here offered.held;
            listed = omega (arith, offered.listed, ap (λ (y : Stage). y.listed) here);
            inside = omega arith;
            kept = subst (λ (y : Stage). Kept y stack₀ list₀ stack' list') here kept;
            same = ap (λ (n : ℕ). slr_run_from m (drop n tokens) (stage_in x stack' list')) (matched ∙ add-one at.matched) ∙ sym on;
          },
          matched,
        )

-- that state 0 is put on the stack, and that a buffer is written, changes no room
pub setting_same : (b : Machine) (stack list stack₀ list₀ : List ℕ)
    → length stack ≡ length stack₀
    → length list ≡ length list₀
    → machine_setting b (counted stack) (counted list) ≡ machine_setting b (counted stack₀) (counted list₀)
setting_same b stack list stack₀ list₀ e f = rw (e, f)
