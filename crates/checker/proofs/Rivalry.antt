-- The first cell that two productions claim: what one production more does to it and to the columns claimed so far, and
-- the two lowest claimants of a cell that has two.
use mathlib.Core.Path.{◌≡◌, sym, ap, ◌∙◌, subst}
use mathlib.Core.Bool.{Bool, true, false, ◌&&◌, false≢true}
use mathlib.Core.Logic.{◌⊎◌, inl, inr, ◌≢◌}
use mathlib.Core.List.{List}
use Prim.Native.Nat.{ℕ, ◌+◌, ◌*◌, ◌%◌, ◌≤◌, ◌<◌}
use native.Mathlib.Decide.{ℕ_discrete, dec_lt}
use native.Mathlib.Nat.{mod-lt}
use native.Mathlib.Omega.{arith}
use lib.ListN.{length}
use Rattle.std.specs.Option.{option_or}
use Rattle.std.specs.Prelude.{Option, Some, None, unwrap_or}
use Rattle.sets.specs.Sets.{member, Disjoint, united, column_place}
use Rattle.sets.specs.Calls.{Decides, set_at, stored}
use Rattle.sets.proofs.Promise.{decided, member_none, or_left, or_right, or_cases, stored_there, stored_elsewhere}
use Rattle.answers.specs.declared.Answer.{Answer}
use Rattle.answers.specs.Answers.{refusal}
use Rattle.answers.specs.Refusals as refusals
use Rattle.answers.specs.Lowest.{LowestAt, LowestIn}
use Rattle.table.specs.Claims.{ClaimsAt, claims, Rivals}
use Rattle.checker.specs.Checking.{Before, Twice, claims_before, Tallied, Both, Shared, From}
use Rattle.checker.specs.Checking.{row_of, bit_of, ClaimsAdded, Disputed, disputed}

neither : {A B : Type 0} → ¬ A → ¬ B → A ⊎ B → ⊥
neither a b (inl x) = a x
neither a b (inr y) = b y

-- the lowest of either kind, the one kind sought below the lowest of the other
lowest_either : (P Q : ℕ → Type 0) (count : ℕ) (known r : Option ℕ)
    → LowestIn P count known
    → LowestIn Q (unwrap_or known count) r
    → LowestIn (λ i. P i ⊎ Q i) count (option_or r known)
lowest_either P Q count None None l m = λ i below. neither (l i below) (m i below)
lowest_either P Q count (Some k) None l m =
    record { inside = l.inside; holds = inl l.holds; earlier = λ i below. neither (l.earlier i below) (m i below) }
lowest_either P Q count None (Some r) l m =
    record {
      inside = m.inside;
      holds = inr m.holds;
      earlier = λ i below. neither (l i (omega (arith, m.inside))) (m.earlier i below);
    }
lowest_either P Q count (Some k) (Some r) l m =
    record {
      inside = omega (arith, l.inside, m.inside);
      holds = inr m.holds;
      earlier = λ i below. neither (l.earlier i (omega (arith, m.inside))) (m.earlier i below);
    }

-- the same number is the lowest of another predicate that says the same below the count
lowest_same : {P Q : ℕ → Type 0} (count : ℕ) (r : Option ℕ)
    → ((i : ℕ) → P i → Q i)
    → ((i : ℕ) → Q i → P i)
    → LowestIn P count r
    → LowestIn Q count r
lowest_same count None there back l = λ i below q. l i below (back i q)
lowest_same count (Some r) there back l =
    record { inside = l.inside; holds = there r l.holds; earlier = λ i below q. l.earlier i below (back i q) }

-- the cells of a row, by its columns
module _ {row x y tokens : ℕ} where
  pub none_shared : (bound : ℕ)
      → ((column : ℕ) → column < tokens + 1 → ¬ Both x y (column_place column tokens))
      → LowestIn (Shared row x y tokens) bound None
  none_shared bound none i below s = none (i % (tokens + 1)) (mod-lt i {m = tokens + 1} (omega arith)) s.both

  pub apart_shared : (bound : ℕ) → Disjoint x y → LowestIn (Shared row x y tokens) bound None
  apart_shared bound apart = none_shared bound (λ column inside b. apart _ b.in_one b.in_other)

module _ {left look : ℕ → ℕ} where
  -- before the first production no column is claimed
  pub tallied_none : {claimed : List ℕ} → ((row : ℕ) → set_at claimed row ≡ 0) → Tallied left look 0 claimed
  tallied_none {claimed} blank =
      record {
        sound = λ row bit h. absurd (false≢true (sym (member_none bit) ∙ rw (blank row) at h));
        complete = λ row bit p b. absurd (omega (arith, b.below));
      }

  module _ {p : ℕ} {claimed : List ℕ} (tallied : Tallied left look p claimed) where
    later : {C : ℕ → Type 0} {q : ℕ} → Before p C q → Before (p + 1) C q
    later b = record { below = omega (arith, b.below); claim = b.claim }

    -- the columns of one production more
    pub tallied_next : {row ahead : ℕ} {claimed' : List ℕ}
        → left p ≡ row
        → look p ≡ ahead
        → row < length claimed
        → claimed' ≡ stored claimed row (united (set_at claimed row) ahead)
        → Tallied left look (p + 1) claimed'
    tallied_next {row} {ahead} {claimed'} sided looks inside after =
        rw after (record { sound = λ A bit h. sound A bit (ℕ_discrete A row) h; complete = λ A bit q b. complete A bit q b (ℕ_discrete A row) (ℕ_discrete q p) })
      where
        new : ℕ
        new = united (set_at claimed row) ahead

        here : {bit : ℕ} → (member bit (set_at claimed row) ≡ true) ⊎ (member bit ahead ≡ true)
            → (q : ℕ) × Before (p + 1) (ClaimsAt left look row bit) q
        here {bit} (inl h) = let (q, b) = tallied.sound row bit h in (q, later b)
        here {bit} (inr h) = (p, record { below = omega arith; claim = record { of_row = sided; has_bit = rw looks h } })

        sound : (A bit : ℕ) → Dec (A ≡ row) → member bit (set_at (stored claimed row new) A) ≡ true
            → (q : ℕ) × Before (p + 1) (ClaimsAt left look A bit) q
        sound A bit (yes e) h =
            let there : member bit new ≡ true = rw (e, stored_there claimed row new inside) at h in
            rw e (here (or_cases bit (set_at claimed row) ahead there))
        sound A bit (no d) h =
            let (q, b) = tallied.sound A bit (rw (stored_elsewhere claimed row new A d) at h) in (q, later b)

        complete : (A bit q : ℕ) → Before (p + 1) (ClaimsAt left look A bit) q → Dec (A ≡ row) → Dec (q ≡ p)
            → member bit (set_at (stored claimed row new) A) ≡ true
        complete A bit q b (yes e) (yes f) =
            let bit_set : member bit ahead ≡ true = rw (f, looks) at b.claim.has_bit in
            rw (e, stored_there claimed row new inside) (or_right bit (set_at claimed row) ahead bit_set)
        complete A bit q b (yes e) (no d) =
            let was = tallied.complete A bit q (record { below = omega (arith, b.below); claim = b.claim }) in
            rw (e, stored_there claimed row new inside) (or_left bit (set_at claimed row) ahead (rw e at was))
        complete A bit q b (no d) (yes f) = absurd (d (sym b.claim.of_row ∙ rw f sided))
        complete A bit q b (no d) (no n) =
            rw (stored_elsewhere claimed row new A d)
            (tallied.complete A bit q (record { below = omega (arith, b.below); claim = b.claim }))

    -- the first contested cell with one production more
    pub contested_next : {row ahead : ℕ} (tokens cells : ℕ) (known r : Option ℕ)
        → left p ≡ row
        → look p ≡ ahead
        → LowestIn (λ i. Twice (claims_before left look tokens p i)) cells known
        → LowestIn (Shared row (set_at claimed row) ahead tokens) (unwrap_or known cells) r
        → LowestIn (λ i. Twice (claims_before left look tokens (p + 1) i)) cells (option_or r known)
    contested_next {row} {ahead} tokens cells known r sided looks lowest shared =
        lowest_same cells (option_or r known) there back (lowest_either _ _ cells known r lowest shared)
      where
        itself : {i : ℕ} → Shared row (set_at claimed row) ahead tokens i → claims_before left look tokens (p + 1) i p
        itself s =
            record {
              below = omega arith;
              claim = record { of_row = sided ∙ sym s.of_row; has_bit = rw looks s.both.in_other };
            }

        there : (i : ℕ) → Twice (claims_before left look tokens p i) ⊎ Shared row (set_at claimed row) ahead tokens i
            → Twice (claims_before left look tokens (p + 1) i)
        there i (inl t) =
            record { one = t.one; other = t.other; distinct = t.distinct; claims_one = later t.claims_one; claims_other = later t.claims_other }
        there i (inr s) =
            let (q, b) = tallied.sound row (bit_of tokens i) s.both.in_one in
            record {
              one = q;
              other = p;
              distinct = λ e. omega (arith, b.below);
              claims_one = later (rw s.of_row b);
              claims_other = itself s;
            }

        earlier : {C : ℕ → Type 0} {q : ℕ} → q ≢ p → Before (p + 1) C q → Before p C q
        earlier d b = record { below = omega (arith, b.below); claim = b.claim }

        share : {i q : ℕ} → q ≢ p → claims_before left look tokens (p + 1) i q → claims_before left look tokens (p + 1) i p
            → Shared row (set_at claimed row) ahead tokens i
        share {i} d b c =
            let of_row : row_of tokens i ≡ row = sym c.claim.of_row ∙ sided in
            record {
              of_row = of_row;
              both =
                  record {
                    in_one = rw of_row at (tallied.complete _ _ _ (earlier d b));
                    in_other = rw looks at c.claim.has_bit;
                  };
            }

        back : (i : ℕ) → Twice (claims_before left look tokens (p + 1) i)
            → Twice (claims_before left look tokens p i) ⊎ Shared row (set_at claimed row) ahead tokens i
        back i t = go (ℕ_discrete t.one p) (ℕ_discrete t.other p)
          where
            go : Dec (t.one ≡ p) → Dec (t.other ≡ p)
                → Twice (claims_before left look tokens p i) ⊎ Shared row (set_at claimed row) ahead tokens i
            go (yes e) (yes f) = absurd (t.distinct (e ∙ sym f))
            go (yes e) (no d) = inr (share d t.claims_other (rw e at t.claims_one))
            go (no d) (yes e) = inr (share d t.claims_one (rw e at t.claims_other))
            go (no d) (no n) =
                inl (record { one = t.one; other = t.other; distinct = t.distinct; claims_one = earlier d t.claims_one; claims_other = earlier n t.claims_other })

  -- before the first production no cell is claimed twice
  pub contested_none : (tokens : ℕ) {cells : ℕ} → LowestIn (λ i. Twice (claims_before left look tokens 0 i)) cells None
  contested_none tokens i below t = omega (arith, t.claims_one.below)

-- the lowest claimant of those below the count, and the lowest behind it, are rivals
module _ {C : ℕ → Type 0} {count p q : ℕ} (lowest : LowestAt (From 0 C) count p) (next : LowestAt (From (p + 1) C) count q) where
  not_before : {r : ℕ} → Before count C r → p ≤ r
  not_before {r} b = go (dec_lt r p)
    where
      go : Dec (r < p) → p ≤ r
      go (yes h) = absurd (lowest.earlier r h (record { reached = omega arith; claim = b.claim }))
      go (no n) = omega arith

  pub rivals : Rivals (Before count C) p q
  rivals =
      record {
        lowest = record { below = lowest.inside; claim = lowest.holds.claim };
        next = record { below = next.inside; claim = next.holds.claim };
        order = omega (arith, next.holds.reached);
        others = λ r b. go r b (ℕ_discrete r p) (dec_lt r q);
      }
    where
      go : (r : ℕ) → Before count C r → Dec (r ≡ p) → Dec (r < q) → (r ≡ p) ⊎ (q ≤ r)
      go r b (yes e) h = inl e
      go r b (no d) (yes h) =
          absurd (next.earlier r h (record { reached = omega (arith, not_before b); claim = b.claim }))
      go r b (no d) (no n) = inr (omega arith)

-- two answers on one bit, taken together
pub both_decided : (x y bit : ℕ) {r s : Bool}
    → r ≡ member bit x
    → s ≡ member bit y
    → Decides (r && s) (Both x y bit)
both_decided x y bit {r} {s} e f = decided (r && s) (λ h. holds r s e f h) (λ b. told (sym e) (sym f) b)
  where
    holds : (r s : Bool) → r ≡ member bit x → s ≡ member bit y → r && s ≡ true → Both x y bit
    holds true true e f h = record { in_one = sym e; in_other = sym f }
    holds true false e f h = absurd (false≢true h)
    holds false s e f h = absurd (false≢true h)

    told : member bit x ≡ r → member bit y ≡ s → Both x y bit → r && s ≡ true
    told e f b = rw (sym e ∙ b.in_one, sym f ∙ b.in_other)

-- what adding the claims of a production comes to
pub claims_added : {row ahead tokens bound before union : ℕ} {r : Option ℕ} {claimed claimed' : List ℕ}
    → before ≡ set_at claimed row
    → union ≡ united before ahead
    → claimed' ≡ stored claimed row union
    → LowestIn (Shared row before ahead tokens) bound r
    → ClaimsAdded row ahead tokens claimed bound r claimed'
claims_added {row} {ahead} {tokens} {bound} {r = r} {claimed = claimed} was joined after lowest =
    record {
      contested = subst (λ (x : ℕ). LowestIn (Shared row x ahead tokens) bound r) was lowest;
      united = after ∙ ap (stored claimed row) (joined ∙ ap (λ (x : ℕ). united x ahead) was);
    }

-- the claimants of a contested cell, sought by its row and the bit of its column
module _ (left look : ℕ → ℕ) (tokens cell : ℕ) {count bit : ℕ} (column : bit ≡ bit_of tokens cell) where
  claimed : {from r : ℕ}
      → LowestAt (From from (ClaimsAt left look (row_of tokens cell) bit)) count r
      → LowestAt (From from (claims left look tokens cell)) count r
  claimed {from} {r} = subst (λ (b : ℕ). LowestAt (From from (ClaimsAt left look (row_of tokens cell) b)) count r) column

  pub conflict_told : {p q : ℕ} {a : Answer}
      → LowestAt (From 0 (ClaimsAt left look (row_of tokens cell) bit)) count p
      → LowestAt (From (p + 1) (ClaimsAt left look (row_of tokens cell) bit)) count q
      → a ≡ refusal refusals.conflict cell (p * 256 + q)
      → Disputed (claims_before left look tokens count cell) cell a
  conflict_told lowest next told = rw told (disputed (rivals (claimed lowest) (claimed next)))
