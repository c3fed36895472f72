-- Writing a text into a buffer: past the end, one text after the other, a text that is written piece by piece, and that there
-- is no second outcome.
use mathlib.Core.Path.{◌≡◌, refl, sym, ap, ◌∙◌}
use mathlib.Core.List.{List, [], ◌∷◌, ◌++◌}
use mathlib.Core.Logic.{◌≢◌}
use Prim.Native.Nat.{ℕ, suc, ◌+◌, ◌≤◌}
use native.Mathlib.Nat.{add-zero, add-suc, suc-add}
use native.Mathlib.Decide.{ℕ_discrete}
use native.Mathlib.Omega.{arith}
use lib.ListN.{length, take, drop, length-append, set}
use lib.Seq.{sets, set_out, length-sets, sets-eq, take_at}
use Rattle.text.specs.Text.{Put}

-- past the end nothing is written
pub sets_past : (l : List ℕ) (at : ℕ) (text : List ℕ) → length l ≤ at → sets l at text ≡ l
sets_past l at [] past = refl
sets_past l at (c ∷ text) past = rw (set_out l at c past) (sets_past l (suc at) text (omega arith))

same_past : (l : List ℕ) (i j : ℕ) (text : List ℕ) → Dec (i ≡ j) → (i ≢ j → (length l ≤ i) × (length l ≤ j))
    → sets l i text ≡ sets l j text
same_past l i j text (yes same) past = ap (λ (k : ℕ). sets l k text) same
same_past l i j text (no other) past = sets_past l i text (past other).0 ∙ sym (sets_past l j text (past other).1)

-- two writings one after the other are one of the texts put together
pub sets_append : (l : List ℕ) (at : ℕ) (xs ys : List ℕ) → sets (sets l at xs) (at + length xs) ys ≡ sets l at (xs ++ ys)
sets_append l at [] ys = rw add-zero
sets_append l at (x ∷ xs) ys = rw (add-suc, ← suc-add) (sets_append (set l at x) (suc at) xs ys)

pub put_length : {before : List ℕ} {at : ℕ} {text after : List ℕ} {next : ℕ}
    → Put before at text after next → length after ≡ length before
put_length {before} {at} {text} p = ap length p.cells ∙ length-sets before at text

pub put_room : {before : List ℕ} {at : ℕ} {text after : List ℕ} {next : ℕ}
    → Put before at text after next → at + length text ≤ length before → next ≡ at + length text
put_room p room = omega arith

pub put_cells : {before : List ℕ} {at : ℕ} {text after : List ℕ} {next : ℕ}
    → Put before at text after next → at + length text ≤ length before
    → after ≡ take at before ++ text ++ drop (at + length text) before
put_cells {before} {at} {text} p room = p.cells ∙ sets-eq text before at room

-- what a buffer that is written from its start holds up to the next place
pub put_front : {before text after : List ℕ} {next : ℕ}
    → Put before 0 text after next → length text ≤ length before → take next after ≡ text
put_front {before} {text} {after} {next} p room =
    ap (take next) (put_cells p (omega arith)) ∙ take_at text (drop (0 + length text) before) next (omega arith)

pub put_nothing : (l : List ℕ) (at : ℕ) → Put l at [] l at
put_nothing l at = record { cells = refl; place = omega arith }

pub put_then : {before : List ℕ} {at : ℕ} (xs ys : List ℕ) {between after : List ℕ} {middle next : ℕ}
    → Put before at xs between middle → Put between middle ys after next → Put before at (xs ++ ys) after next
put_then {before} {at} xs ys {between} {after} {middle} {next} p q =
    let same : length between ≡ length before = put_length p in record {
      cells =
          q.cells
          ∙ same_past between middle (at + length xs) ys (ℕ_discrete middle (at + length xs)) (λ other. omega arith)
          ∙ ap (λ (l : List ℕ). sets l (at + length xs) ys) p.cells
          ∙ sets_append before at xs ys;
      place = omega (arith, length-append xs ys);
    }

-- past the end nothing is written and the place stays
pub put_past : (l : List ℕ) (at : ℕ) (text : List ℕ) → length l ≤ at → Put l at text l at
put_past l at text past = record { cells = sym (sets_past l at text past); place = omega arith }

-- whoever writes the rest from here on has written the whole
abbrev pub Completes : List ℕ → ℕ → List ℕ → List ℕ → ℕ → List ℕ → Type 0
Completes before at whole between middle rest =
    (after : List ℕ) (next : ℕ) → Put between middle rest after next → Put before at whole after next

pub completes_start : (l : List ℕ) (at : ℕ) (text : List ℕ) → Completes l at text l at text
completes_start l at text after next p = p

pub completes_more : {before : List ℕ} {at : ℕ} {whole between : List ℕ} {middle : ℕ} (xs rest : List ℕ)
    {further : List ℕ} {later : ℕ} → Completes before at whole between middle (xs ++ rest)
    → Put between middle xs further later → Completes before at whole further later rest
completes_more xs rest whole p after next q = whole after next (put_then xs rest p q)

pub completes_all : {before : List ℕ} {at : ℕ} {whole between : List ℕ} {middle : ℕ}
    → Completes before at whole between middle [] → Put before at whole between middle
completes_all {between = between} {middle = middle} whole = whole between middle (put_nothing between middle)

-- there is no second outcome
pub put_unique : {before : List ℕ} {at : ℕ} {text after after' : List ℕ} {next next' : ℕ}
    → Put before at text after next → Put before at text after' next' → (after ≡ after') × (next ≡ next')
put_unique p q = (p.cells ∙ sym q.cells, p.place ∙ sym q.place)
