-- A build that keeps its promise meets demand 2: its sets and its table are exact, and it finds a conflict exactly if there is one.
use mathlib.Core.Path.{◌≡◌, ap, subst}
use mathlib.Core.Logic.{◌↔◌, inl, inr}
use mathlib.Core.List.{List}
use Prim.Native.Nat.{ℕ}
use native.Mathlib.Omega.{arith}
use lib.ListN.{length, take, drop}
use lib.Seq.{take_at}
use Rattle.grammar.specs.Grammar.{Grammar, Conflict}
use Rattle.grammar.proofs.Theorems.{exact_no_conflict}
use Rattle.answers.specs.declared.Answer.{Answer}
use Rattle.answers.specs.Answers.{done, refusal}
use Rattle.answers.specs.Refusals.{conflict}
use Rattle.answers.specs.Buffers.{over}
use Rattle.book.specs.Judging.{Serves}
use Rattle.book.proofs.Promise.{serves_limits, serves_unique, refuses_not_serves}
use Rattle.follow.specs.Calls.{no_first, no_follow}
use Rattle.table.specs.Calls.{BuildOutcome}
use Rattle.table.specs.Calls as calls
use Rattle.first.specs.Numbers.{FirstSets}
use Rattle.follow.specs.Families.{FollowSets}
use Rattle.table.specs.Table.{size, row_at, column_at, TableOf, FirstConflict}
use Rattle.table.proofs.Promise.{table_exact, WithTable, build_with_room}
use Rattle.demands.specs.Demands.{BuildRoom}

-- the first conflict is a conflict
first_conflict_is : {g : Grammar} {i p q : ℕ} → FirstConflict g i p q → Conflict g
first_conflict_is {g} {i} {p} {q} k =
    record { row = row_at g i; col = column_at g i; one = p; other = q; distinct = λ e. omega (arith, k.order); claims_one = k.lowest; claims_other = k.next }

-- a grammar that has a table has no conflict
pub table_no_conflict : {book : List ℕ} {g : Grammar} {cells : List ℕ} → Serves book g → TableOf g cells → ¬ Conflict g
table_no_conflict {cells = cells} s t = exact_no_conflict (table_exact (serves_limits s) cells t)

-- what a build that is done leaves
pub record Exactly (g : Grammar) (f w t : List ℕ) : Type 0 where
  pub firsts : FirstSets g (take g.nonterminals f)
  pub follows : FollowSets g (take g.nonterminals w)
  pub cells : TableOf g (take (size g) t)

module _ (book first follow table : List ℕ) {g : Grammar} (s : Serves book g) where
  pub done_exactly : {a : Answer} {f w t : List ℕ} → BuildOutcome book first follow table a f w t → a.number ≡ 0 → Exactly g f w t
  unfolding refusal
  done_exactly (calls.refused r) n = absurd (refuses_not_serves r s)
  done_exactly (calls.no_room k (no_first l)) n = absurd (omega arith)
  done_exactly (calls.no_room k (no_follow h l)) n = absurd (omega arith)
  done_exactly (calls.no_table k fit l) n = absurd (omega arith)
  done_exactly (calls.conflict k fit l c) n = absurd (omega arith)
  done_exactly (calls.served {g = h} {xs = xs} {ys = ys} {cells = cells} k fit l x y t) n = subst (λ (h : Grammar). Exactly h (over xs first) (over ys follow) (over cells table)) (serves_unique k s) exactly
    where
      exactly : Exactly h (over xs first) (over ys follow) (over cells table)
      exactly =
          record {
            firsts = rw (take_at xs (drop (length xs) first) h.nonterminals x.size) x;
            follows = rw (take_at ys (drop (length ys) follow) h.nonterminals y.size) y;
            cells = rw (take_at cells (drop (length cells) table) (size h) t.sized) t;
          }

  module _ (room : BuildRoom g first follow table) {a : Answer} {f w t : List ℕ} (o : BuildOutcome book first follow table a f w t) where
    with_table : WithTable book first follow table g (a, f, w, t)
    with_table = build_with_room book first follow table s room.sets_room room.table_room o

    pub conflict_exactly : (a.number ≡ conflict) ↔ Conflict g
    unfolding done refusal
    conflict_exactly = (to with_table, from with_table)
      where
        to : WithTable book first follow table g (a, f, w, t) → a.number ≡ conflict → Conflict g
        to (inl c) n = first_conflict_is c.conflict
        to (inr b) n = absurd (omega (arith, ap (λ x. x.0.number) b.is))

        from : WithTable book first follow table g (a, f, w, t) → Conflict g → a.number ≡ conflict
        from (inl c) k = ap (λ x. x.0.number) c.is
        from (inr b) k = absurd (table_no_conflict s b.built k)

    pub done_exactly_if : (a.number ≡ 0) ↔ (¬ Conflict g)
    unfolding done refusal
    done_exactly_if = (to with_table, from with_table)
      where
        to : WithTable book first follow table g (a, f, w, t) → a.number ≡ 0 → ¬ Conflict g
        to (inl c) n k = omega (arith, ap (λ x. x.0.number) c.is)
        to (inr b) n k = table_no_conflict s b.built k

        from : WithTable book first follow table g (a, f, w, t) → (¬ Conflict g) → a.number ≡ 0
        from (inl c) k = absurd (k (first_conflict_is c.conflict))
        from (inr b) k = ap (λ x. x.0.number) b.is
