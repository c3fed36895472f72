-- The expected set as the code collects it, and the answer to an outcome.
use Rattle.std.specs.Prelude.{Ok, Err}
use mathlib.Core.Path.{◌≡◌, refl, ◌∙◌, ap}
use mathlib.Core.Logic.{◌≢◌}
use mathlib.Core.Bool.{false, and-false, or-false}
use mathlib.Core.List.{List}
use Prim.Native.Nat.{ℕ, ◌+◌, ◌*◌, ◌<◌}
use native.Mathlib.Decide.{dec_lt}
use native.Mathlib.Numerals.{add-one}
use native.Mathlib.Omega.{arith}
use lib.Dec.{ltb}
use lib.ListN.{get_or}
use borrow.Author.Tests.{lt-ltb, le-ltb}
use Rattle.grammar.specs.Grammar.{Grammar}
use Rattle.sets.specs.Calls.{number, None, With}
use Rattle.sets.specs.Sets.{width, end_mark, column_place}
use Rattle.sets.specs.declared.Set.{Set}
use Rattle.sets.proofs.Promise.{none_is, with_is, same_members, number_unique}
use Rattle.answers.specs.Answers.{done, stop, at_depth}
use Rattle.answers.specs.declared.Answer.{Answer}
use Rattle.book.specs.Columns.{Outlines}
use Rattle.book.specs.declared.columns.Outline.{Outline}
use Rattle.table.specs.Table.{held}
use Rattle.table.proofs.Promise.{held_vacant, held_filled}
use Rattle.machine.specs.declared.Reason.{Reason}
use Rattle.machine.specs.declared.Reason.TheVariants.{FullList, FullStack, WantsEnd, WantsToken, WantsRow}
use Rattle.offer.specs.Stops.{marking, filled_below, expected, number_of, detail_of, values_of, deepest_in, answer_of}
use Rattle.offer.specs.declared.Progress.{Progress}
use Rattle.offer.specs.declared.Halt.TheVariants.{Stopped, Refused}
use Rattle.offer.specs.Reply.{Reply}
use Rattle.run.specs.Answering.{RowColumns, Expects, progress_in, Values, Answers}

-- a place past the width adds nothing
pub with_marks : {s : Set} {bit : ℕ} {r : Set} → With s bit r → number r ≡ marking bit (number s)
unfolding marking
with_marks {s} {bit} {r} h = go (dec_lt bit width)
  where
    go : Dec (bit < width) → number r ≡ marking bit (number s)
    go (yes below) = rw (lt-ltb bit width below) (with_is below h)
    go (no above) =
        let past : ltb bit width ≡ false = le-ltb bit width (omega arith) in
        rw past (same_members (number r) (number s) (λ k. h.members k ∙ rw (past, and-false, or-false)))

module _ {o : Outline} {g : Grammar} (sized : Outlines o g) (table : List ℕ) (A column : ℕ) {cell : ℕ} (there : cell ≡ get_or table (A * (o.tokens + 1) + column) 255) where
  cell_there : held (get_or table (A * (g.tokens + 1) + column) 255) ≡ held cell
  cell_there = rw (sized.tokens, there)

  pub column_vacant : {x : ℕ} → cell ≡ 255 → x ≡ filled_below g table A column → x ≡ filled_below g table A (column + 1)
  unfolding filled_below
  column_vacant e f = rw (add-one column, cell_there ∙ held_vacant refl e, filled_below) f

  pub column_filled : {s : Set} {bit : ℕ} {r : Set} → cell ≢ 255 → With s bit r → bit ≡ column_place column o.tokens → number s ≡ filled_below g table A column → number r ≡ filled_below g table A (column + 1)
  unfolding filled_below
  column_filled n h place f = with_marks h ∙ rw (add-one column, cell_there ∙ held_filled refl n, filled_below, place, f, sized.tokens)

module _ {o : Outline} (table : List ℕ) {reason : Reason} {r : Set} where
  pub expects_list : reason ≡ FullList → None r → Expects o table reason r
  unfolding expected
  expects_list e h = record { given = λ g sized. rw e (number_unique (none_is h)) }

  pub expects_stack : reason ≡ FullStack → None r → Expects o table reason r
  unfolding expected
  expects_stack e h = record { given = λ g sized. rw e (number_unique (none_is h)) }

  pub expects_end : {s : Set} → reason ≡ WantsEnd → None s → With s end_mark r → Expects o table reason r
  unfolding expected
  expects_end e n h =
      record { given = λ g sized. rw e (number_unique (with_marks h ∙ ap (marking end_mark) (none_is n))) }

  pub expects_token : {s : Set} {t : ℕ} → reason ≡ WantsToken t → None s → With s t r → Expects o table reason r
  unfolding expected
  expects_token {t = t} e n h =
      record { given = λ g sized. rw e (number_unique (with_marks h ∙ ap (marking t) (none_is n))) }

  pub expects_row : {A : ℕ} → reason ≡ WantsRow A → RowColumns o table A r → Expects o table reason r
  unfolding expected
  expects_row e h = record { given = λ g sized. rw e (number_unique (h.filled g sized)) }

module _ {o : Outline} (table : List ℕ) {reply : Reply} {at : Progress} {steps : ℕ} {r : Answer}
    (here : at ≡ progress_in reply) (counts : steps ≡ at.listed + at.matched) where
  pub values_done : {x : Progress} → reply ≡ Ok x → r ≡ done steps → Values o table reply r
  unfolding values_of
  values_done {x} e f =
      let same : at ≡ x = here ∙ ap progress_in e in
      record { values = λ g sized. f ∙ ap done counts ∙ rw (e, same) }

  pub values_stop : {x : Progress} {reason : Reason} {n place d : ℕ} {set : Set}
      → reply ≡ Err (Stopped reason x)
      → Expects o table reason set
      → n ≡ number_of reason
      → place ≡ at.matched
      → d ≡ detail_of reason
      → r ≡ stop n place d steps set
      → Values o table reply r
  unfolding values_of
  values_stop {x} {reason} e expects number_is place_is detail_is f =
      let same : at ≡ x = here ∙ ap progress_in e in
      record { values = λ g sized. f ∙ rw (number_is, place_is, detail_is, counts, expects.given g sized, e, same) }

-- a refusal is its answer
pub values_refused : {o : Outline} (table : List ℕ) {reply : Reply} {r : Answer} → reply ≡ Err (Refused r) → Values o table reply r
unfolding values_of
values_refused table e = record { values = λ g sized. rw e }

progress_deepest : (reply : Reply) → (progress_in reply).deepest ≡ deepest_in reply
unfolding deepest_in
progress_deepest (Ok at) = refl
progress_deepest (Err (Stopped reason at)) = refl
progress_deepest (Err (Refused answer)) = refl

-- the values and the most stack cells held are the answer
pub answers_at : {o : Outline} (table : List ℕ) {reply : Reply} {at : Progress} {values r : Answer}
    → at ≡ progress_in reply
    → Values o table reply values
    → r ≡ at_depth at.deepest values
    → Answers o table reply r
unfolding answer_of
answers_at table {reply} here v f =
    record { answer = λ g sized. f ∙ rw (here, progress_deepest reply, v.values g sized) }
