-- From what the two passes find to the outcome: a contested cell is the first conflict; where there is none, a cell
-- that differs by number is not the right one, and one that does not is.
use mathlib.Core.Path.{◌≡◌, refl, sym, ap, ◌∙◌, subst}
use mathlib.Core.Bool.{Bool, true, false, not, true≢false}
use mathlib.Core.Logic.{◌≢◌}
use mathlib.Core.List.{List}
use mathlib.Core.Option.{Option, some, none, none-ne-some}
use Prim.Native.Nat.{ℕ, ◌+◌, ◌/◌, ◌≤◌, ◌<◌}
use native.Mathlib.Decide.{ℕ_discrete}
use native.Mathlib.Omega.{arith}
use lib.ListN.{length, get_or, replicate, length-replicate}
use borrow.Author.Tests.{not-true}
use Rattle.std.specs.Prelude.{None}
use Rattle.grammar.specs.Grammar.{Grammar, Cell, only, vacant, Conflict}
use Rattle.grammar.proofs.Rules.{below_rule}
use Rattle.sets.specs.Sets.{member}
use Rattle.sets.specs.Calls.{Decides, set_at}
use Rattle.sets.proofs.Promise.{decided}
use Rattle.answers.specs.declared.Answer.{Answer}
use Rattle.answers.specs.Answers.{done, refusal}
use Rattle.answers.specs.Lowest.{LowestAt}
use Rattle.answers.specs.Refusals as refusals
use Rattle.book.specs.declared.Index.{Index}
use Rattle.first.specs.Forms.{Lists}
use Rattle.first.proofs.Promise.{given_lists, given_served, given_limits, given_count, left_is, rule_at, no_member}
use Rattle.table.specs.Table.{size, row_at, column_at, ClaimsCell, held}
use Rattle.table.specs.Fitting.{Fits}
use Rattle.table.specs.Fitting as fitting
use Rattle.table.specs.Claims.{left_of}
use Rattle.table.proofs.Promise.{claims_indexed, conflict_cell, row_inside, held_vacant, held_filled}
use Rattle.checker.specs.Calls.{Right, CheckOutcome, conflict, differs, passed}
use Rattle.checker.specs.Checking.{Twice, claims_before, Contested, Disputed, disputed, DiffersAt}
use Rattle.checker.specs.Checking.{Differs, missing, strange, Comparable, Countable, row_of, bit_of}

-- what a byte is, by what it says that the cell holds
held_none : (byte : ℕ) → held byte ≡ none → byte ≡ 255
held_none byte e = go (ℕ_discrete byte 255)
  where
    go : Dec (byte ≡ 255) → byte ≡ 255
    go (yes f) = f
    go (no n) = absurd (none-ne-some byte (held_filled e n))

held_some : (byte : ℕ) {p : ℕ} → held byte ≡ some p → (byte ≢ 255) × (byte ≡ p)
held_some byte {p} e = go (ℕ_discrete byte 255)
  where
    go : Dec (byte ≡ 255) → (byte ≢ 255) × (byte ≡ p)
    go (yes f) = absurd (none-ne-some p (sym (held_vacant e f)))
    go (no n) = let h = held_filled e n in (n, cc)

-- whether a byte differs, by the bit that counts
module _ (claimed : ℕ) (ahead : List ℕ) (bit : ℕ) {byte : ℕ} {r : Bool} where
  pub vacant_differs : byte ≡ 255 → r ≡ member bit claimed → Decides r (Differs claimed ahead bit byte)
  vacant_differs e told = decided r (λ h. missing e (sym told ∙ h)) back
    where
      back : Differs claimed ahead bit byte → r ≡ true
      back (missing f h) = told ∙ h
      back (strange n h) = absurd (n e)

  pub filled_differs : byte ≢ 255 → r ≡ member bit (set_at ahead byte) → Decides (not r) (Differs claimed ahead bit byte)
  filled_differs n told = decided (not r) (λ h. strange n (sym told ∙ not-true r h)) back
    where
      back : Differs claimed ahead bit byte → not r ≡ true
      back (missing e h) = absurd (n e)
      back (strange m h) = rw (told ∙ h)

-- cell i, by its row's claims, the bit of its column and its byte
pub differs_at : (claimed ahead : List ℕ) (tokens : ℕ) (table : List ℕ) (i : ℕ) {x bit byte : ℕ} (r : Bool)
    → x ≡ set_at claimed (row_of tokens i)
    → bit ≡ bit_of tokens i
    → byte ≡ get_or table i 255
    → Decides r (Differs x ahead bit byte)
    → Decides r (DiffersAt claimed ahead tokens table i)
differs_at claimed ahead tokens table i {x} {bit} {byte} r row column cell told =
    subst (λ (y : ℕ). Decides r (Differs y ahead (bit_of tokens i) (get_or table i 255))) row
    (subst (λ (b : ℕ). Decides r (Differs x ahead b (get_or table i 255))) column
    (subst (λ (z : ℕ). Decides r (Differs x ahead bit z)) cell told))

module _ {book : List ℕ} {index : Index} {ahead table : List ℕ} (x : Comparable book index ahead table) where
  abbrev g : Grammar
  g = x.given.grammar

  abbrev T : ℕ
  T = index.outline.tokens

  abbrev Claimed : ℕ → ℕ → Type 0
  Claimed = claims_before (left_of book index.places) (set_at ahead) T index.outline.productions

  lists : Lists book index.places index.outline.productions g
  lists = given_lists x.given

  same : T ≡ g.tokens
  same = (given_served x.given).tokens

  -- every production has a set for its row, at first without a member
  pub compare_countable : Countable (left_of book index.places) index.outline.productions (replicate 64 0)
  compare_countable = record { rows = rows; blank = λ row. no_member 64 row }
    where
      rows : (p : ℕ) → p < index.outline.productions → left_of book index.places p < length {A = ℕ} (replicate 64 0)
      rows p below =
          let limits = given_limits x.given in
          let (A, α, rule) = rule_at lists p below in
          let known = limits.well_formed.left_known rule in
          rw (left_is lists rule, length-replicate {A = ℕ} 64 0) (omega (arith, known, limits.nonterminals_fit))

  -- the claims by number are those by derivation
  derived : (i : ℕ) {p : ℕ} → Claimed i p → ClaimsCell g i p
  derived i {p} b = (claims_indexed lists same x.looks i p).1 (b.below, b.claim)

  numbered : (i : ℕ) {p : ℕ} → ClaimsCell g i p → Claimed i p
  numbered i {p} k =
      let (below, claim) = (claims_indexed lists same x.looks i p).0 k in
      record { below = below; claim = claim }

  one_claimant : (i : ℕ) → ¬ Twice (Claimed i) → (r s : ℕ) → ClaimsCell g i r → ClaimsCell g i s → r ≡ s
  one_claimant i once r s k l = go (ℕ_discrete r s)
    where
      go : Dec (r ≡ s) → r ≡ s
      go (yes e) = e
      go (no d) =
          absurd (once (record { one = r; other = s; distinct = d; claims_one = numbered i k; claims_other = numbered i l }))

  -- a contested cell has a row and two claimants, which are the first conflict
  module _ {r : ℕ} (found : LowestAt (λ i. Twice (Claimed i)) (length table) r) where
    pub compare_contested : (index.outline.productions ≤ 128) × (row_of T r < 256) × Twice (Claimed r)
    compare_contested =
        let row = row_inside g {i = r} (omega (arith, found.inside, x.fits.sized)) in
        let same_row : row_of T r ≡ row_at g r = ap (λ (t : ℕ). r / (t + 1)) same in
        (given_count x.given, omega (arith, (given_limits x.given).nonterminals_fit), found.holds)

    pub compare_conflict : {a : Answer} → Disputed (Claimed r) r a → CheckOutcome book table a
    compare_conflict (disputed k) =
        conflict {i = r} x.given.serves x.fits
        (record {
          inside = omega (arith, found.inside, x.fits.sized);
          lowest = derived r k.lowest;
          next = derived r k.next;
          order = k.order;
          others = λ s c. k.others s (numbered r c);
          earlier = λ j below s t c d. one_claimant j (found.earlier j below) s t c d;
        })

  module _ {claimed : List ℕ}
      (found : Contested (left_of book index.places) (set_at ahead) T index.outline.productions (length table) None claimed) where
    once : (i : ℕ) → i < size g → ¬ Twice (Claimed i)
    once i inside = found.first i (omega (arith, x.fits.sized))

    no_conflict : ¬ Conflict g
    no_conflict k =
        let c = (conflict_cell (given_limits x.given)).0 k in
        c.distinct (one_claimant c.cell (once c.cell c.inside) c.one c.other c.claims_one c.claims_other)

    -- a cell that does not differ by number is right
    right_cell : (i : ℕ) → i < size g → ¬ DiffersAt claimed ahead T table i → Right g table i
    right_cell i inside alike = go (x.fits.cells i inside)
      where
        byte : ℕ
        byte = get_or table i 255

        unclaimed : held byte ≡ none → (q : ℕ) → ¬ ClaimsCell g i q
        unclaimed e q k =
            alike (missing (held_none byte e) (found.tallied.complete (row_of T i) (bit_of T i) q (numbered i k)))

        has_bit : byte ≢ 255 → (b : Bool) → member (bit_of T i) (set_at ahead byte) ≡ b → member (bit_of T i) (set_at ahead byte) ≡ true
        has_bit n true e = e
        has_bit n false e = absurd (alike (strange n e))

        go : Fits g table i → Right g table i
        go (fitting.vacant e) = subst (λ (o : Option ℕ). Cell g (row_at g i) (column_at g i) o) (sym e) (vacant (unclaimed e))
        go (fitting.filled {p = p} e rule) =
            let (n, there) = held_some byte e in
            let row : left_of book index.places p ≡ row_of T i = left_is lists rule ∙ ap (λ (t : ℕ). i / (t + 1)) (sym same) in
            let bit : member (bit_of T i) (set_at ahead p) ≡ true = rw there at (has_bit n (member (bit_of T i) (set_at ahead byte)) refl) in
            let k : ClaimsCell g i p =
            derived i
            (record { below = omega (arith, lists.counted, below_rule rule); claim = record { of_row = row; has_bit = bit } }) in
            subst (λ (o : Option ℕ). Cell g (row_at g i) (column_at g i) o) (sym e)
            (only k (λ q l. one_claimant i (once i inside) q p l k))

    -- and one that differs is not
    wrong_cell : (i : ℕ) → DiffersAt claimed ahead T table i → ¬ Right g table i
    wrong_cell i d right = go d refl right
      where
        byte : ℕ
        byte = get_or table i 255

        go : Differs (set_at claimed (row_of T i)) ahead (bit_of T i) byte
            → {o : Option ℕ}
            → held byte ≡ o
            → Cell g (row_at g i) (column_at g i) o
            → ⊥
        go (missing e h) f (only {p = p} k one) = none-ne-some p (sym (held_vacant f e))
        go (missing e h) f (vacant none_claims) =
            let (q, b) = found.tallied.sound (row_of T i) (bit_of T i) h in
            none_claims q (derived i b)
        go (strange n h) f (only {p = p} k one) =
            let (m, there) = held_some byte f in
            true≢false (sym (numbered i k).claim.has_bit ∙ rw there at h)
        go (strange n h) f (vacant none_claims) = none-ne-some byte (held_filled f n)

    pub compare_differs : {i : ℕ}
        → LowestAt (DiffersAt claimed ahead T table) (length table) i
        → CheckOutcome book table (refusal refusals.differs i 0)
    compare_differs {i} lowest =
        differs {i = i} x.given.serves x.fits no_conflict
        (record {
          inside = omega (arith, lowest.inside, x.fits.sized);
          wrong = wrong_cell i lowest.holds;
          earlier = λ j below. right_cell j (omega (arith, x.fits.sized, lowest.inside)) (lowest.earlier j below);
        })

    pub compare_passed : ((i : ℕ) → i < length table → ¬ DiffersAt claimed ahead T table i) → CheckOutcome book table (done 0)
    compare_passed alike =
        passed
        (record {
          grammar = g;
          serves = x.given.serves;
          no_conflict = no_conflict;
          built =
              record {
                sized = x.fits.sized;
                cells = λ j inside. right_cell j inside (alike j (omega (arith, x.fits.sized)));
              };
        })
