-- The claims by the numbers of an index's lookaheads are the claims by derivation: so the contest that a ledger of all of them knows is
-- the first conflict, and where it knows none its cells are the table.
use mathlib.Core.Path.{◌≡◌, refl, sym, ◌∙◌, subst}
use mathlib.Core.Logic.{◌↔◌, ◌⊎◌, inl, inr}
use mathlib.Core.List.{List, [], ◌∷◌}
use mathlib.Core.Option.{some, none}
use Prim.Native.Nat.{ℕ, zero, suc, ◌<◌}
use native.Mathlib.Omega.{arith}
use lib.ListN.{length, get_or}
use borrow.Author.Tests.{ne_eqb}
use Rattle.std.specs.Prelude.{Some, None}
use Rattle.grammar.specs.Grammar.{Grammar, Cell, only, vacant as empty}
use Rattle.grammar.proofs.Rules.{below_rule}
use Rattle.table.specs.declared.claims.Contest.{Contest}
use Rattle.follow.specs.Families.{Lookaheads}
use Rattle.table.specs.Table.{size, row_at, column_at, ClaimsCell, held, TableOf, FirstConflict}
use Rattle.first.specs.Forms.{Lists}
use Rattle.table.specs.Claims.{book_claims, Laid, AtMostOne, Holds, lowest, vacant, Ledger}
use Rattle.table.proofs.Cells.{claims_exactly}
use Rattle.first.proofs.Promise.{lists_limits, left_is, rule_at}

-- within a list the default does not matter
pub get_d_inside : (l : List ℕ) (i d e : ℕ) → i < length l → get_or l i d ≡ get_or l i e
get_d_inside [] i d e h = absurd (omega arith)
get_d_inside (x ∷ l) zero d e h = refl
get_d_inside (x ∷ l) (suc i) d e h = get_d_inside l i d e (omega arith)

held_number : (p : ℕ) → p < 255 → held p ≡ some p
unfolding held
held_number p h = rw (ne_eqb p 255 (λ e. omega arith), held)

held_none : held 255 ≡ none
unfolding held
held_none = refl

module _ {g : Grammar} {book places ahead : List ℕ} {count T : ℕ} (index : Lists book places count g) (same : T ≡ g.tokens)
    (looks : Lookaheads g ahead) where
  -- a production claims a cell exactly if it is one of the records that the index lists, of the cell's row, and its
  -- lookahead has the bit of the cell's column
  pub claims_indexed : (i p : ℕ) → ClaimsCell g i p ↔ ((p < count) × book_claims book places ahead T i p)
  claims_indexed i p = (claimed, λ h. derived h.0 h.1)
    where
      claimed : ClaimsCell g i p → (p < count) × book_claims book places ahead T i p
      claimed k =
          let (row, bit) = (claims_exactly (lists_limits index) k.rule (looks.each k.rule) i).0 k in
          let here : book_claims book places ahead g.tokens i p = record { of_row = left_is index k.rule ∙ row; has_bit = bit } in
          (omega (arith, index.counted, below_rule k.rule), subst (λ (t : ℕ). book_claims book places ahead t i p) (sym same) here)

      derived : p < count → book_claims book places ahead T i p → ClaimsCell g i p
      derived below claim =
          let (A, α, rule) = rule_at index p below in
          let here : book_claims book places ahead g.tokens i p = subst (λ (t : ℕ). book_claims book places ahead t i p) same claim in
          (claims_exactly (lists_limits index) rule (looks.each rule) i).1 (sym (left_is index rule) ∙ here.of_row, here.has_bit)

  -- the claims by number are those by derivation
  claim_derived : (i p : ℕ) → Laid (book_claims book places ahead T) count 0 i p → (p < count) × ClaimsCell g i p
  claim_derived i p laid = let below = before laid.turn in (below, (claims_indexed i p).1 (below, laid.claim))
    where
      before : (p < count) ⊎ ((p ≡ count) × (i < 0)) → p < count
      before (inl h) = h
      before (inr e) = absurd (omega (arith, e.1))

  derived_claim : (i p : ℕ) → ClaimsCell g i p → Laid (book_claims book places ahead T) count 0 i p
  derived_claim i p k = let (below, claim) = (claims_indexed i p).0 k in record { claim = claim; turn = inl below }

  one_derived : (j : ℕ) → AtMostOne (Laid (book_claims book places ahead T) count 0 j) → (r s : ℕ) → ClaimsCell g j r → ClaimsCell g j s → r ≡ s
  one_derived j one r s k l = one r s (derived_claim j r k) (derived_claim j s l)

  module _ {table : List ℕ} where
    -- the contest is the first conflict
    pub contest_conflict : {contest : Contest}
        → Ledger (Laid (book_claims book places ahead T) count 0) table (Some contest)
        → length table ≡ size g
        → FirstConflict g contest.cell contest.lowest contest.next
    contest_conflict ledger sized =
        let k = ledger.contest.rivals in
        record {
          inside = omega (arith, ledger.contest.inside);
          lowest = (claim_derived _ _ k.lowest).1;
          next = (claim_derived _ _ k.next).1;
          order = k.order;
          others = λ r c. k.others r (derived_claim _ r c);
          earlier = λ j h. one_derived j (ledger.contest.earlier j h);
        }

    -- the cells of which none is contested are the table
    pub ledger_table : Ledger (Laid (book_claims book places ahead T) count 0) table None → length table ≡ size g → TableOf g table
    ledger_table ledger sized = record { sized = sized; cells = λ i h. rw (get_d_inside table i 255 0 (omega arith)) (cell i h (ledger.held i (omega arith))) }
      where
        cell : (i : ℕ)
            → i < size g
            → {byte : ℕ}
            → Holds (Laid (book_claims book places ahead T) count 0 i) byte
            → Cell g (row_at g i) (column_at g i) (held byte)
        cell i h (lowest {p = p} c fewer) =
            let (below, k) = claim_derived i p c in
            rw (held_number p (omega (arith, index.counted, (lists_limits index).productions_fit))) (only k (λ q l. one_derived i (ledger.contest i (omega arith)) q p l k))
        cell i h (vacant unclaimed) = rw held_none (empty (λ q l. unclaimed q (derived_claim i q l)))
