-- What can come after the tokens that the machine has matched: the tokens that its stack right after the last match begins with, and the
-- end mark where that stack vanishes. Productions used since, where the machine then stops, vanish, so the same is read off them and the
-- stack at the stop.
use mathlib.Core.Path.{◌≡◌, refl, subst}
use mathlib.Core.Logic.{◌↔◌, ◌⊎◌, inl, inr}
use mathlib.Core.List.{List, [], ◌∷◌, ◌++◌, append_assoc, append-nil}
use mathlib.Core.Option.{Option, some, none}
use Prim.Native.Nat.{ℕ}
use native.Mathlib.Omega.{arith}
use Rattle.grammar.specs.declared.Symbol.TheVariants.{Token, Nonterminal}
use Rattle.grammar.specs.Grammar.{Form, spelled, Grammar, Column, token, endmark, column, empty, Rule, Derives, Sentential, Derivable, Complete, First, starts, vanishes, Lookahead, first, follow, Claims, Productive, Reachable}
use Rattle.grammar.specs.Grammar as textbook
use Rattle.grammar.specs.Machine.{front, Exact, Run, here, match, expand, Stopped, left_over, unmatched, vacant, Begins, Continues, may_come, may_end}
use Rattle.grammar.specs.Next.{merged, Consumes, matched, used, ConsumesAll, none_yet, one_more, OwnToken, own_token, Seen, now_seen, later_seen}
use Rattle.grammar.proofs.Derivation.{derives_trans, derives_before, derives_behind}
use Rattle.grammar.proofs.Leftmost.{derives_leftmost, leftmost_derives, spelled_append, rule_same}
use Rattle.grammar.proofs.Join.{End, Join, begins, past, join_in, join_out, join_cases, join_beyond}
use Rattle.grammar.proofs.Sets.{FirstOf, join_first, first_join, first_of_closed, first_not_end, pull_rule}
use Rattle.grammar.proofs.Useful.{names_from, Ends, names_end}
use Rattle.grammar.proofs.Machine.{run_from, run_leftmost, run_derives, run_through, blocked}
use Rattle.grammar.proofs.Place.{behind_reachable}
use Rattle.grammar.proofs.Unique.{sentential_expand}
use Rattle.grammar.proofs.Starting.{Started, starting, start_run}
use Rattle.grammar.proofs.Chains.{claimed_by}

-- what a stack can go on with: the tokens it begins with, and the end mark if it vanishes
abbrev pub CanCome : Grammar → Form → Column → Type 0
CanCome g σ c = Join (FirstOf g) End σ c

module _ {g : Grammar} {cell : ℕ → Column → Option ℕ} where
  consumed_run : {t : ℕ} {α β γ : Form} {z u ps qs : List ℕ} → Consumes g cell t α ps β → Run g cell z β u qs γ → Run g cell z α (t ∷ u) (ps ++ qs) γ
  consumed_run matched r = match r
  consumed_run (used c k h) r = expand c k (consumed_run h r)

  -- what stands right after a match does not hang on what comes
  pub consumes_run : {α β : Form} {u ps : List ℕ} → ConsumesAll g cell α u ps β → (z : List ℕ) → Run g cell z α u ps β
  consumes_run none_yet z = here
  consumes_run (one_more h k) z = consumed_run h (consumes_run k z)

  -- a run that reads nothing and stops, and one from the same stack that reads the next token, exclude each other
  pub stuck_excludes : {z v ps : List ℕ} {α β : Form} → Run g cell z α v ps β → v ≡ [] → Stopped g cell β z → {t : ℕ} {y w qs : List ℕ} {δ : Form} → Run g cell y α w qs δ → w ≡ t ∷ [] → z ≡ t ∷ y → ⊥
  stuck_excludes here v left_over here w e = let bad : ◌≡◌ {A = ℕ} 0 1 = cc in omega arith
  stuck_excludes here v (unmatched n) here w e = let bad : ◌≡◌ {A = ℕ} 0 1 = cc in omega arith
  stuck_excludes here v (unmatched n) {t} (match {t = s} r) w e = let same : t ≡ s = cc in n (rw (e, same))
  stuck_excludes here v (vacant n) here w e = let bad : ◌≡◌ {A = ℕ} 0 1 = cc in omega arith
  stuck_excludes here v (vacant {A = A} n) {t} (expand {p = p} d k r) w e =
      let one : cell A (token t) ≡ some p = rw w at d in
      let two : cell A (token t) ≡ none = rw e at n in
      let bad : ◌≡◌ {A = ℕ} 0 1 = cc in
      omega arith
  stuck_excludes (match r) v s a w e = let bad : ◌≡◌ {A = ℕ} 0 1 = cc in absurd (omega arith)
  stuck_excludes (expand c k r) v s here w e = let bad : ◌≡◌ {A = ℕ} 0 1 = cc in absurd (omega arith)
  stuck_excludes (expand {p = p} {A = A} {α = α} {γ = γ} c k r) v s {t} {y} {w = x} (expand {p = q} {β = β} {γ = δ} {ps = qs} d l a) w e =
      let one : cell A (token t) ≡ some q = rw w at d in
      let two : cell A (token t) ≡ some p = rw (v, e) at c in
      let same : q ≡ p = cc in
      let right : δ ≡ γ = (rule_same (subst (λ (o : ℕ). Rule g o A δ) same l) k).1 in
      stuck_excludes r v s (subst (λ (f : Form). Run g cell y (f ++ α) x qs β) right a) w e

  -- the tokens matched and the stack are a sentential form
  pub consumes_derives : {α β : Form} {u ps : List ℕ} → ConsumesAll g cell α u ps β → Derives g α (spelled u ++ β)
  consumes_derives h = run_derives (consumes_run h [])

  module _ (exact : Exact g cell) where
    module _ {u ps : List ℕ} {σ : Form} (h : ConsumesAll g cell (Nonterminal g.start ∷ []) u ps σ) where
      -- with what a derivable string goes on after u, the stack goes on
      stack_goes_on : (y : List ℕ) → Derivable g (u ++ y) → Derives g σ (spelled y)
      stack_goes_on y d =
          let found : (qs : List ℕ) × Complete g qs (u ++ y) = derives_leftmost (u ++ y) d in
          let passed = run_through (consumes_run h y) (run_from exact [] textbook.itself found.1) refl in
          leftmost_derives (run_leftmost passed.1)

      pub derivable_vanishes : First g σ empty ↔ Derivable g u
      derivable_vanishes = (λ f. forth f, λ d. vanishes (stack_goes_on [] (rw append-nil d)))
        where
          forth : First g σ empty → Derivable g u
          forth (vanishes d) =
              let whole : Sentential g (spelled u ++ []) = derives_trans (consumes_derives h) (derives_behind (spelled u) d) in
              rw append-nil at whole

      module _ (productive : (A : ℕ) → Reachable g A → Productive g A) where
        -- what stands behind u and a token derives a string
        begun : (t : ℕ) (γ : Form) → Sentential g (spelled u ++ (Token t ∷ γ)) → Begins g (u ++ (t ∷ []))
        begun t γ s =
            let behind : Sentential g ((spelled u ++ (Token t ∷ [])) ++ γ) = rw append_assoc s in
            let e : Ends g γ = names_end (names_from γ (λ A v b. productive A (behind_reachable (spelled u ++ (Token t ∷ [])) behind b))) in
            let whole : Derivable g (u ++ (t ∷ e.string)) = rw spelled_append (derives_trans s (derives_behind (spelled u) (derives_behind (Token t ∷ []) e.derives))) in
            record { rest = e.string; derivable = rw append_assoc whole }

        pub begins_first : {t : ℕ} → First g σ (column (token t)) ↔ Begins g (u ++ (t ∷ []))
        begins_first {t} = (λ f. forth f, λ b. starts (spelled b.rest) (stack_goes_on (t ∷ b.rest) (rw append_assoc at b.derivable)))
          where
            forth : First g σ (column (token t)) → Begins g (u ++ (t ∷ []))
            forth (starts γ d) = begun t γ (derives_trans (consumes_derives h) (derives_behind (spelled u) d))

        -- what can come after u is what the stack right after its last token goes on with
        pub next_first : (c : Column) → First g σ (merged c) ↔ Continues g u (column c)
        next_first (token t) = (λ f. may_come (begins_first.0 f), λ k. back k)
          where
            back : Continues g u (column (token t)) → First g σ (column (token t))
            back (may_come b) = begins_first.1 b
        next_first endmark = (λ f. may_end (derivable_vanishes.0 f), λ k. back k)
          where
            back : Continues g u (column endmark) → First g σ empty
            back (may_end d) = derivable_vanishes.1 d

    -- a production used where the machine then stops before any match was chosen because it vanishes
    pub stuck_vanishes : (x α : Form) {z ps : List ℕ} {p A : ℕ} {γ β : Form} → Sentential g (x ++ (Nonterminal A ∷ α)) → cell A (front z) ≡ some p → Rule g p A γ → Run g cell z (γ ++ α) [] ps β → Stopped g cell β z → First g γ empty
    stuck_vanishes x α {z} {ps} {p} {A} {γ} {β} s c r run stop = go (claimed_by (exact.cells A (front z)) c)
      where
        put : Sentential g (x ++ (γ ++ α))
        put = sentential_expand x α s r

        not_first : (y : List ℕ) → z ≡ y → First g γ (column (front y)) → ⊥
        not_first [] e f = first_not_end f
        not_first (t ∷ y) e (starts δ d) =
            let h : Started g t (γ ++ α) = starting (derives_before α d) (δ ++ α) refl in
            stuck_excludes run refl stop (start_run exact x put h.by y) refl e

        looked : Lookahead g A γ (column (front z)) → First g γ empty
        looked (first f) = absurd (not_first z refl f)
        looked (follow v f) = v

        go : Claims g A (front z) p → First g γ empty
        go k = looked (subst (λ (β : Form). Lookahead g A β (column (front z))) (rule_same k.rule r).1 k.ahead)

module _ {g : Grammar} where
  -- what a stack can go on with is FIRST of it, its end mark being FIRST's empty string
  pub can_come_first : {σ : Form} (c : Column) → CanCome g σ c ↔ First g σ (merged c)
  can_come_first c = (λ j. join_first (λ A c h. h) j, λ f. first_join first_of_closed c f)

  -- past a production that vanishes: the tokens of its left side, and what comes with its right side in the place of that
  pub can_come_past : {p A : ℕ} {γ α : Form} {c : Column} → Rule g p A γ → First g γ empty → CanCome g (Nonterminal A ∷ α) c ↔ (OwnToken g A c ⊎ CanCome g (γ ++ α) c)
  can_come_past {A = A} {γ = γ} {α = α} r v = (λ j. forth j, λ k. back k)
    where
      forth : {c : Column} → CanCome g (Nonterminal A ∷ α) c → OwnToken g A c ⊎ CanCome g (γ ++ α) c
      forth (begins h) = inl (own_token h)
      forth (past h j) = inr (join_in γ α (join_beyond (first_join first_of_closed endmark v) j))

      back : {c : Column} → OwnToken g A c ⊎ CanCome g (γ ++ α) c → CanCome g (Nonterminal A ∷ α) c
      back (inl (own_token h)) = begins h
      back (inr j) = pull_rule first_of_closed r (join_cases (join_out γ α j))

  seen_first : {p A : ℕ} {γ : Form} {ps : List ℕ} {c : Column} → Rule g p A γ → Seen g (p ∷ ps) c → OwnToken g A c ⊎ Seen g ps c
  seen_first {c = c} r (now_seen k h) = inl (subst (λ (B : ℕ). OwnToken g B c) (rule_same k r).0 h)
  seen_first r (later_seen h) = inr h

  -- of a list's first production and the rest of it
  seen_more : {p A : ℕ} {γ : Form} {ps : List ℕ} {c : Column} {X Y Z : Type 0} → Rule g p A γ → X ↔ (OwnToken g A c ⊎ Y) → Y ↔ (Seen g ps c ⊎ Z) → X ↔ (Seen g (p ∷ ps) c ⊎ Z)
  seen_more {p} {A} {ps = ps} {c = c} {X} {Y} {Z} r e f = (λ x. forth (e.0 x), λ k. back k)
    where
      on : Seen g ps c ⊎ Z → Seen g (p ∷ ps) c ⊎ Z
      on (inl h) = inl (later_seen h)
      on (inr z) = inr z

      forth : OwnToken g A c ⊎ Y → Seen g (p ∷ ps) c ⊎ Z
      forth (inl h) = inl (now_seen r h)
      forth (inr y) = on (f.0 y)

      from : OwnToken g A c ⊎ Seen g ps c → X
      from (inl h) = e.1 (inl h)
      from (inr h) = e.1 (inr (f.1 (inl h)))

      back : Seen g (p ∷ ps) c ⊎ Z → X
      back (inl h) = from (seen_first r h)
      back (inr z) = e.1 (inr (f.1 (inr z)))

  seen_left : {ps : List ℕ} {c : Column} → Seen g ps c → (qs : List ℕ) → Seen g (ps ++ qs) c
  seen_left (now_seen r h) qs = now_seen r h
  seen_left (later_seen h) qs = later_seen (seen_left h qs)

  seen_right : (ps : List ℕ) {qs : List ℕ} {c : Column} → Seen g qs c → Seen g (ps ++ qs) c
  seen_right [] h = h
  seen_right (p ∷ ps) h = later_seen (seen_right ps h)

  seen_split : (ps : List ℕ) {qs : List ℕ} {c : Column} → Seen g (ps ++ qs) c → Seen g ps c ⊎ Seen g qs c
  seen_split [] h = inr h
  seen_split (p ∷ ps) (now_seen r h) = inl (now_seen r h)
  seen_split (p ∷ ps) (later_seen h) = elim (seen_split ps h) [ inl k ↦ inl (later_seen k) | inr k ↦ inr k ]

  -- of a list's last production and those before it
  pub seen_last : (ps : List ℕ) {p A : ℕ} {γ : Form} {c : Column} → Rule g p A γ → Seen g (ps ++ (p ∷ [])) c ↔ (Seen g ps c ⊎ OwnToken g A c)
  seen_last ps {p} {A} {c = c} r = (λ h. forth (seen_split ps h), λ k. back k)
    where
      own : OwnToken g A c ⊎ Seen g [] c → OwnToken g A c
      own (inl k) = k
      own (inr k) = elim k [ ]

      forth : Seen g ps c ⊎ Seen g (p ∷ []) c → Seen g ps c ⊎ OwnToken g A c
      forth (inl h) = inl h
      forth (inr h) = inr (own (seen_first r h))

      back : Seen g ps c ⊎ OwnToken g A c → Seen g (ps ++ (p ∷ [])) c
      back (inl h) = seen_left h (p ∷ [])
      back (inr k) = seen_right ps (now_seen r k)

  module _ {cell : ℕ → Column → Option ℕ} (exact : Exact g cell) where
    -- what can come where the machine has used ps and stops: the tokens of FIRST of their left sides, and what the stack there goes on with
    pub can_come_since : (x : Form) {z v ps : List ℕ} {σ β : Form} → Sentential g (x ++ σ) → Run g cell z σ v ps β → v ≡ [] → Stopped g cell β z → (c : Column) → CanCome g σ c ↔ (Seen g ps c ⊎ CanCome g β c)
    can_come_since x s here e stop c = (λ j. inr j, λ k. elim k [ inl h ↦ elim h [ ] | inr j ↦ j ])
    can_come_since x s (match r) e stop c = let bad : ◌≡◌ {A = ℕ} 0 1 = cc in absurd (omega arith)
    can_come_since x {z} s (expand {p = p} {A = A} {α = α} {β = β} {γ = γ} {ps = ps} d k r) e stop c =
        let quiet : Run g cell z (γ ++ α) [] ps β = rw e at r in
        let here_cell : cell A (front z) ≡ some p = rw e at d in
        let v : First g γ empty = stuck_vanishes exact x α s here_cell k quiet stop in
        seen_more k (can_come_past k v) (can_come_since x (sentential_expand x α s k) r e stop c)

    module _ (productive : (A : ℕ) → Reachable g A → Productive g A) {u ps : List ℕ} {σ : Form} (h : ConsumesAll g cell (Nonterminal g.start ∷ []) u ps σ) where
      -- what the stack right after a match goes on with is what can come after the tokens matched
      pub can_come_next : (c : Column) → CanCome g σ c ↔ Continues g u (column c)
      can_come_next c = (λ j. (next_first exact h productive c).0 ((can_come_first c).0 j), λ k. (can_come_first c).1 ((next_first exact h productive c).1 k))

      -- what can come after the last match: the tokens of FIRST of the left sides listed since, and what the stack at the stop goes on with
      pub next_at_stop : {z qs : List ℕ} {β : Form} → Run g cell z σ [] qs β → Stopped g cell β z → (c : Column) → Continues g u (column c) ↔ (Seen g qs c ⊎ CanCome g β c)
      next_at_stop r stop c =
          let since = can_come_since (spelled u) (consumes_derives h) r refl stop c in
          let next = can_come_next c in
          (λ k. since.0 (next.1 k), λ k. next.0 (since.1 k))

      -- the same, by FIRST of the stack
      pub next_at_stop_first : {z qs : List ℕ} {β : Form} → Run g cell z σ [] qs β → Stopped g cell β z → (c : Column) → Continues g u (column c) ↔ (Seen g qs c ⊎ First g β (merged c))
      next_at_stop_first {qs = qs} {β = β} r stop c = (λ k. forth ((next_at_stop r stop c).0 k), λ k. (next_at_stop r stop c).1 (back k))
        where
          forth : Seen g qs c ⊎ CanCome g β c → Seen g qs c ⊎ First g β (merged c)
          forth (inl h) = inl h
          forth (inr j) = inr ((can_come_first c).0 j)

          back : Seen g qs c ⊎ First g β (merged c) → Seen g qs c ⊎ CanCome g β c
          back (inl h) = inl h
          back (inr f) = inr ((can_come_first c).1 f)

-- something can come after whatever begins a derivable string
pub next_some : {g : Grammar} {u : List ℕ} → Begins g u → (c : Column) × Continues g u (column c)
next_some {g} {u} b = go b.rest b.derivable
  where
    go : (y : List ℕ) → Derivable g (u ++ y) → (c : Column) × Continues g u (column c)
    go [] d = (endmark, may_end (rw append-nil at d))
    go (t ∷ y) d = (token t, may_come {t = t} (record { rest = y; derivable = rw append_assoc d }))

-- but not the column on which the machine stops
pub stopped_not_next : {g : Grammar} {cell : ℕ → Column → Option ℕ} → Exact g cell → {z : List ℕ} {β : Form} {u ps : List ℕ} → Run g cell z (Nonterminal g.start ∷ []) u ps β → Stopped g cell β z → ¬ Continues g u (column (front z))
stopped_not_next {g} exact {z} {β} {u} r stop k = go z refl k
  where
    go : (y : List ℕ) → z ≡ y → Continues g u (column (front y)) → ⊥
    go [] e (may_end d) = blocked exact r stop [] (rw e) (rw append-nil d)
    go (t ∷ y) e (may_come b) = blocked exact r stop (t ∷ b.rest) (rw e) (rw append_assoc at b.derivable)
