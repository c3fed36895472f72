-- What can come after the tokens matched, as a number: the trail of a stack that ends with the end mark, and with it FIRST of the left
-- sides listed since, without the empty string.
use mathlib.Core.Path.{◌≡◌, refl, sym}
use mathlib.Core.Bool.{true}
use mathlib.Core.Logic.{◌↔◌, ◌⊎◌, ◌≢◌, inl, inr}
use mathlib.Core.List.{List, [], ◌∷◌, ◌++◌}
use mathlib.Core.Option.{Option}
use Prim.Native.Nat.{ℕ, ◌<◌}
use native.Mathlib.Omega.{arith}
use lib.ListN.{get_or}
use Rattle.grammar.specs.declared.Symbol.TheVariants.{Nonterminal}
use Rattle.grammar.specs.Grammar.{Form, spelled, Grammar, Column, token, endmark, Member, column, empty, Every, nothing, each, Known, known_nonterminal, Rule, Sentential, First, Useful}
use Rattle.grammar.specs.Machine.{Exact, Run, Stopped, Continues}
use Rattle.grammar.specs.Next.{merged, ConsumesAll, OwnToken, own_token, Seen}
use Rattle.grammar.proofs.Every.{every_right}
use Rattle.grammar.proofs.Derivation.{derives_trans, derives_behind}
use Rattle.grammar.proofs.Join.{End, ended, Join}
use Rattle.grammar.proofs.Machine.{run_derives}
use Rattle.grammar.proofs.Sets.{FirstOf, first_not_end}
use Rattle.grammar.proofs.Useful.{sentential_known, useful_all}
use Rattle.grammar.proofs.Next.{CanCome, seen_last, consumes_derives, can_come_next, next_at_stop}
use Rattle.sets.specs.Sets.{width, end_mark, empty_string, member, only, united, removed}
use Rattle.sets.proofs.Promise.{only_fits, removed_fits, removed_keep, removed_cases, exactly_alike, exactly_none, exactly_united}
use Rattle.reader.specs.Book.{Limits}
use Rattle.first.specs.Numbers.{place_of, At, IsSet}
use Rattle.first.specs.Trail.{trail, FirstAt}
use Rattle.first.proofs.Known.{first_known}
use Rattle.first.proofs.Trail.{trail_fits}
use Rattle.first.proofs.Joins.{Reason, Reasons, Covers, only_one, only_there, trail_reasons}
use Rattle.first.proofs.Members.{at_column, at_merged, first_reasons, first_proper, reasons_inside}
use Rattle.first.proofs.Closed.{known_fits, sets_sound, trail_of_first}

-- columns as members
pub data Columned (K : Column → Type 0) : Member → Type 0 where
  columned : {c : Column} → K c → Columned K (column c)

held : {K : Column → Type 0} {c : Column} → Columned K (column c) → K c
held (columned h) = h

at_other : {P Q : Member → Type 0} → ((m : Member) → P m → Q m) → {k : ℕ} → At P k → At Q k
at_other f a = record { member = a.member; place = a.place; in_set = f a.member a.in_set }

-- the same members make the same set
members_alike : {x : ℕ} {P Q : Member → Type 0} → ((m : Member) → P m ↔ Q m) → IsSet x P → IsSet x Q
members_alike e s = exactly_alike (λ k. (λ a. at_other (λ m. (e m).0) a, λ a. at_other (λ m. (e m).1) a)) s

columned_map : {K L : Column → Type 0} → ((c : Column) → K c → L c) → (m : Member) → Columned K m → Columned L m
columned_map f m (columned {c = c} h) = columned (f c h)

pub columned_alike : {x : ℕ} {K L : Column → Type 0} → ((c : Column) → K c ↔ L c) → IsSet x (Columned K) → IsSet x (Columned L)
columned_alike e s = members_alike (λ m. (columned_map (λ c. (e c).0) m, columned_map (λ c. (e c).1) m)) s

-- a set that has no empty string
columned_out : (P : Member → Type 0) (m : Member) → Columned (λ c. P (column c)) m → P m
columned_out P m (columned h) = h

columned_in : (P : Member → Type 0) → ¬ P empty → (m : Member) → P m → Columned (λ c. P (column c)) m
columned_in P n (column c) h = columned h
columned_in P n empty h = absurd (n h)

pub columned_members : {x : ℕ} (P : Member → Type 0) → ¬ P empty → IsSet x (Columned (λ c. P (column c))) → IsSet x P
columned_members P n s = members_alike (λ m. (columned_out P m, columned_in P n m)) s

pub columned_united : {x y : ℕ} {K L : Column → Type 0} → IsSet x (Columned K) → IsSet y (Columned L) → IsSet (united x y) (Columned (λ c. K c ⊎ L c))
columned_united {K = K} {L = L} s t = exactly_alike (λ k. (λ a. forth a, λ a. back a)) (exactly_united s t)
  where
    forth : {k : ℕ} → At (Columned K) k ⊎ At (Columned L) k → At (Columned (λ c. K c ⊎ L c)) k
    forth (inl a) = at_other (columned_map (λ c h. inl h)) a
    forth (inr a) = at_other (columned_map (λ c h. inr h)) a

    back : {k : ℕ} → At (Columned (λ c. K c ⊎ L c)) k → At (Columned K) k ⊎ At (Columned L) k
    back {k} a = go a.member a.place a.in_set
      where
        go : (m : Member) → place_of m ≡ k → Columned (λ c. K c ⊎ L c) m → At (Columned K) k ⊎ At (Columned L) k
        go empty e x3 = elim x3 [ ]
        go (column c) e (columned (inl h)) = inl (record { member = column c; place = e; in_set = columned h })
        go (column c) e (columned (inr h)) = inr (record { member = column c; place = e; in_set = columned h })

end_mark_reasons : Reasons column End (only end_mark)
end_mark_reasons = record { reason = λ k m. record { column = endmark; place = sym (only_one k end_mark m); holds = ended } }

end_mark_covers : Covers column End (only end_mark)
end_mark_covers = record { covered = go }
  where
    go : (c : Column) → End c → member (place_of (column c)) (only end_mark) ≡ true
    go (token _) x'' = elim x'' [ ]
    go endmark ended = only_there end_mark

module _ {g : Grammar} (limits : Limits g) {fs : List ℕ} (first : FirstAt g fs) where
  -- what a stack of known symbols can go on with is its trail that ends with the end mark
  pub can_come_is : {α : Form} → Every (Known g) α → IsSet (trail fs (only end_mark) α) (Columned (CanCome g α))
  can_come_is {α} known =
      record {
        fits = trail_fits fs (only_fits width end_mark (omega arith)) (known_fits limits first known);
        sound = (reasons_inside column (Columned (CanCome g α)) (λ c j. columned j) joins).reason;
        complete = λ k a. go (at_column (Columned (CanCome g α)) (λ e. elim e [ ]) a);
      }
    where
      joins : Reasons column (Join (FirstOf g) End α) (trail fs (only end_mark) α)
      joins = trail_reasons limits (first_proper limits.well_formed) fs (first_reasons (sets_sound first)) column (λ t. refl) end_mark_reasons α known

      go : {k : ℕ} → Reason column (λ c. Columned (CanCome g α) (column c)) k → member k (trail fs (only end_mark) α) ≡ true
      go r = rw r.place at ((trail_of_first limits first column (λ t. refl) end_mark_covers known).covered r.column (held r.holds))

  -- the tokens of FIRST of a nonterminal: its set without the empty string
  pub own_tokens_is : {A : ℕ} → A < g.nonterminals → IsSet (removed empty_string (get_or fs A 0)) (Columned (OwnToken g A))
  own_tokens_is {A} below =
      record {
        fits = removed_fits width empty_string (get_or fs A 0) (first.each A below).fits;
        sound = λ k m. let (there, other) = removed_cases k empty_string (get_or fs A 0) m in token_at other (at_merged (First g (Nonterminal A ∷ [])) first_not_end ((first.each A below).sound k there));
        complete = λ k a. kept a.member a.place a.in_set;
      }
    where
      token_at : {k : ℕ} → k ≢ empty_string → Reason merged (FirstOf g A) k → At (Columned (OwnToken g A)) k
      token_at {k} other r = go r.column r.place r.holds
        where
          go : (c : Column) → place_of (merged c) ≡ k → FirstOf g A c → At (Columned (OwnToken g A)) k
          go (token t) e h = record { member = column (token t); place = e; in_set = columned (own_token h) }
          go endmark e h = absurd (other (sym e))

      kept : (m : Member) {k : ℕ} → place_of m ≡ k → Columned (OwnToken g A) m → member k (removed empty_string (get_or fs A 0)) ≡ true
      kept empty {k = k} e x'' = elim x'' [ ]
      kept (column (token t)) {k} e (columned (own_token h)) =
          let known = first_known limits.well_formed (each (known_nonterminal below) nothing) h in
          removed_keep k empty_string (get_or fs A 0) ((first.each A below).complete k (record { member = column (token t); place = e; in_set = h })) (λ same. omega (arith, limits.tokens_fit))
      kept (column endmark) e (columned h) = elim h [ ]

  -- the left sides of a list of productions: none, and one more
  pub seen_none_is : IsSet 0 (Columned (Seen g []))
  seen_none_is = exactly_none width (λ k a. empty_list a.member a.in_set)
    where
      empty_list : (m : Member) → Columned (Seen g []) m → ⊥
      empty_list empty x' = elim x' [ ]
      empty_list (column c) (columned h) = elim h [ ]

  pub seen_more_is : (ps : List ℕ) {x p A : ℕ} {β : Form} → Rule g p A β → IsSet x (Columned (Seen g ps)) → IsSet (united x (removed empty_string (get_or fs A 0))) (Columned (Seen g (ps ++ (p ∷ []))))
  seen_more_is ps r s = columned_alike (λ c. let both = seen_last ps r in (both.1, both.0)) (columned_united s (own_tokens_is (limits.well_formed.left_known r)))

  module _ {cell : ℕ → Column → Option ℕ} (exact : Exact g cell) (useful : (A : ℕ) → A < g.nonterminals → Useful g A)
      {u ps : List ℕ} {σ : Form} (h : ConsumesAll g cell (Nonterminal g.start ∷ []) u ps σ) where
    no_empty : ¬ Continues g u empty
    no_empty k = elim k [ ]

    behind_known : {β : Form} → Sentential g (spelled u ++ β) → Every (Known g) β
    behind_known s = every_right (spelled u) _ (sentential_known limits.well_formed s)

    -- what can come after the tokens matched is the trail of the stack right after the last match
    pub next_set_is : IsSet (trail fs (only end_mark) σ) (Continues g u)
    next_set_is =
        columned_members (Continues g u) no_empty
        (columned_alike (can_come_next exact (useful_all limits.well_formed useful) h) (can_come_is (behind_known (consumes_derives h))))

    -- and where the machine then stops, the tokens of FIRST of the left sides listed since, and the trail of the stack there
    pub stop_set_is : {z qs : List ℕ} {β : Form} {x : ℕ} → Run g cell z σ [] qs β → Stopped g cell β z → IsSet x (Columned (Seen g qs)) → IsSet (united x (trail fs (only end_mark) β)) (Continues g u)
    stop_set_is run stop seen =
        let known = behind_known (derives_trans (consumes_derives h) (derives_behind (spelled u) (run_derives run))) in
        columned_members (Continues g u) no_empty
        (columned_alike (λ c. let both = next_at_stop exact (useful_all limits.well_formed useful) h run stop c in (both.1, both.0)) (columned_united seen (can_come_is known)))
