-- Sound and closed is exact: a family of sets in which every member has a derivation, and which is closed under every production, is
-- the family by derivation. FIRST, FOLLOW, and with them lookaheads.
use mathlib.Core.Path.{◌≡◌}
use mathlib.Core.Logic.{◌↔◌}
use mathlib.Core.List.{[], ◌∷◌, ◌++◌, append_assoc}
use Prim.Native.Nat.{ℕ}
use Rattle.grammar.specs.declared.Symbol.TheVariants.{Token, Nonterminal}
use Rattle.grammar.specs.Grammar.{Form, Grammar, Column, token, endmark, column, empty, Rule, Step, replace, Derives, itself, step, Sentential, First, starts, vanishes, Follow, before, last, Lookahead, Claims, Reachable}
use Rattle.grammar.specs.Grammar as textbook
use Rattle.grammar.specs.Next.{merged}
use Rattle.grammar.proofs.Derivation.{derives_trans, derives_before, derives_behind, derives_rule}
use Rattle.grammar.proofs.Join.{Family, End, ended, Join, over, here, begins, past, Behind, first, later, Cases, own, beyond, Within, left, right, join_map, join_in, join_out, join_cases, join_own, join_beyond, behind_split, behind_at, behind_left, behind_right, behind_append}

module _ (g : Grammar) where
  -- FIRST of each nonterminal
  abbrev pub FirstOf : Family
  FirstOf A c = First g (Nonterminal A ∷ []) (merged c)

  -- FOLLOW of each nonterminal
  abbrev pub FollowOf : Family
  FollowOf A c = Follow g A (column c)

  pub record FirstClosed (F : Family) : Type 0 where
    pub closed : {p A : ℕ} {β : Form} → Rule g p A β → {c : Column} → Join F End β c → F A c

  pub record FollowClosed (F W : Family) : Type 0 where
    pub at_start : W g.start endmark
    pub closed : {p B : ℕ} {β : Form} → Rule g p B β → {A : ℕ} {v : Form} → Behind A v β → {c : Column} → Join F (W B) v c → W A c

module _ {g : Grammar} where
  first_before : {A t : ℕ} {α : Form} → First g (Nonterminal A ∷ []) (column (token t)) → First g (Nonterminal A ∷ α) (column (token t))
  first_before {α = α} (starts γ d) = starts (γ ++ α) (derives_before α d)

  first_past : {A : ℕ} {α : Form} → First g (Nonterminal A ∷ []) empty → (c : Column) → First g α (merged c) → First g (Nonterminal A ∷ α) (merged c)
  first_past {α = α} (vanishes d) (token t) (starts γ e) = starts γ (derives_trans (derives_before α d) e)
  first_past {α = α} (vanishes d) endmark (vanishes e) = vanishes (derives_trans (derives_before α d) e)

  pub join_first : {F : Family} → ((A : ℕ) (c : Column) → F A c → FirstOf g A c) → {α : Form} {c : Column} → Join F End α c → First g α (merged c)
  join_first f (over ended) = vanishes itself
  join_first f (here {α = α}) = starts α itself
  join_first f (begins {A = A} {t = t} h) = first_before (f A (token t) h)
  join_first f (past {A = A} {c = c} h j) = first_past (f A endmark h) c (join_first f j)

  -- what a production's right side begins with, its left side begins with
  pub rule_first : {p A : ℕ} {β : Form} → Rule g p A β → (c : Column) → First g β (merged c) → FirstOf g A c
  rule_first r (token t) (starts γ d) = starts γ (derives_trans (derives_rule r) d)
  rule_first r endmark (vanishes d) = vanishes (derives_trans (derives_rule r) d)

  -- each single addition to FIRST is sound
  pub first_addition : {F : Family} → ((A : ℕ) (c : Column) → F A c → FirstOf g A c) → {p A : ℕ} {β : Form} → Rule g p A β → (c : Column) → Join F End β c → FirstOf g A c
  first_addition f r c j = rule_first r c (join_first f j)

  module _ {F : Family} (F-closed : FirstClosed g F) where
    pub pull_rule : {K : Column → Type 0} {p A : ℕ} {β v : Form} → Rule g p A β → {c : Column} → Cases F (Join F K v) β c → Join F K (Nonterminal A ∷ v) c
    pull_rule r (own j) = begins (F-closed.closed r j)
    pull_rule r (beyond j k) = past (F-closed.closed r j) k

    pull_step : {K : Column → Type 0} {α β : Form} {c : Column} → Step g α β → Join F K β c → Join F K α c
    pull_step (replace u v {A = A} {β = β} r) j =
        join_in u (Nonterminal A ∷ v) (join_map (λ B c h. h) (λ c k. pull_rule r (join_cases (join_out β v k))) (join_out u (β ++ v) j))

    pull : {K : Column → Type 0} {α β : Form} {c : Column} → Derives g α β → Join F K β c → Join F K α c
    pull itself j = j
    pull (step s d) j = pull_step s (pull d j)

    pub first_join : {α : Form} (c : Column) → First g α (merged c) → Join F End α c
    first_join (token t) (starts γ d) = pull d here
    first_join endmark (vanishes d) = pull d (over ended)

    pub first_complete : (A : ℕ) (c : Column) → FirstOf g A c → F A c
    first_complete A c f = single (first_join c f)
      where
        single : {x : Column} → Join F End (Nonterminal A ∷ []) x → F A x
        single (begins h) = h
        single (past h (over ended)) = h

    module _ {W : Family} (W-closed : FollowClosed g F W) where
      -- after each nonterminal of a form, what can come lies in W
      After : Form → Type 0
      After α = (A : ℕ) (v : Form) (c : Column) → Behind A v α → Join F End v c → W A c

      push_inside : {p B : ℕ} {β : Form} (u v : Form) → Rule g p B β → After (u ++ (Nonterminal B ∷ v)) → {A : ℕ} {w : Form} {c : Column} → Within A w β v → Join F End w c → W A c
      unfolding After
      push_inside {B = B} u v r h (left x b e) j =
          W-closed.closed r b (join_map (λ A c i. i) (λ c k. h B v c (behind_at u) k) (join_out x v (rw e at j)))
      push_inside u v r h (right b) j = h _ _ _ (behind_right u (later b)) j

      push_within : {p B : ℕ} {β : Form} (u v : Form) → Rule g p B β → After (u ++ (Nonterminal B ∷ v)) → {A : ℕ} {w : Form} {c : Column} → Within A w u (β ++ v) → Join F End w c → W A c
      unfolding After
      push_within {B = B} u v r h (left x b e) j = h _ _ _ (behind_left (Nonterminal B ∷ v) b) (pull_step (replace x v r) (rw e at j))
      push_within {β = β} u v r h (right b) j = push_inside u v r h (behind_append β v b) j

      push : {α β : Form} → Derives g α β → After α → After β
      unfolding After
      push itself h = h
      push (step (replace u v {β = β} r) d) h = push d (λ A w c b j. push_within u v r h (behind_append u (β ++ v) b) j)

      only_start : (s : ℕ) {A : ℕ} {v : Form} {c : Column} → W s endmark → Behind A v (Nonterminal s ∷ []) → Join F End v c → W A c
      only_start s w first (over ended) = w
      only_start s w (later b) j = elim b [ ]

      after_start : After (Nonterminal g.start ∷ [])
      unfolding After
      after_start A v c b j = only_start g.start W-closed.at_start b j

      pub follow_complete : (A : ℕ) (c : Column) → FollowOf g A c → W A c
      unfolding After
      follow_complete A (token t) (before u v d) = push d after_start A (Token t ∷ v) (token t) (behind_at u) here
      follow_complete A endmark (last u d) = push d after_start A [] endmark (behind_at u) (over ended)

  -- a sentential form with B is one with what B → u A v puts there
  inside : {p B : ℕ} {β : Form} (A : ℕ) (u v x y : Form) {v' : Form} → Rule g p B β → β ≡ u ++ (Nonterminal A ∷ v) → Derives g v v' → Sentential g (x ++ (Nonterminal B ∷ y)) → Sentential g ((x ++ u) ++ (Nonterminal A ∷ (v' ++ y)))
  inside {B = B} {β = β} A u v x y r e d s =
      let put : Sentential g (x ++ (β ++ y)) = derives_trans s (step (replace x y r) itself) in
      rw append_assoc (derives_trans (simp append_assoc at (rw e at put)) (derives_behind x (derives_behind u (derives_behind (Nonterminal A ∷ []) (derives_before y d)))))

  follow_own : {p A B t : ℕ} {β v : Form} → Rule g p B β → (u : Form) × (β ≡ u ++ (Nonterminal A ∷ v)) → Reachable g B → First g v (column (token t)) → FollowOf g A (token t)
  follow_own {A = A} {v = v} r (u, e) b (starts γ d) = before (b.left ++ u) (γ ++ b.right) (inside A u v b.left b.right r e d b.occurs)

  follow_beyond : {p A B : ℕ} {β v : Form} → Rule g p B β → (u : Form) × (β ≡ u ++ (Nonterminal A ∷ v)) → First g v empty → (c : Column) → FollowOf g B c → FollowOf g A c
  follow_beyond {A = A} {v = v} r (u, e) (vanishes d) (token t) (before x y s) = before (x ++ u) y (inside A u v x (Token t ∷ y) r e d s)
  follow_beyond {A = A} {v = v} r (u, e) (vanishes d) endmark (last x s) = last (x ++ u) (inside A u v x [] r e d s)

  -- each single addition to FOLLOW is sound, if its left side is reachable
  pub follow_addition : {F W : Family} → ((A : ℕ) (c : Column) → F A c → FirstOf g A c) → ((A : ℕ) (c : Column) → W A c → FollowOf g A c) → {p A B : ℕ} {β v : Form} → Reachable g B → Rule g p B β → Behind A v β → {c : Column} → Join F (W B) v c → FollowOf g A c
  follow_addition {F} {W} f w {A = A} {B = B} {v = v} b r at j = go (join_cases j)
    where
      go : {c : Column} → Cases F (W B) v c → FollowOf g A c
      go (own i) = follow_own r (behind_split at) b (join_first f i)
      go (beyond {c = c} i k) = follow_beyond r (behind_split at) (join_first f i) c (w B c k)

  -- FIRST: sound and closed is exact
  pub first_exact : {F : Family} → ((A : ℕ) (c : Column) → F A c → FirstOf g A c) → FirstClosed g F → (A : ℕ) (c : Column) → F A c ↔ FirstOf g A c
  first_exact f F-closed A c = (f A c, first_complete F-closed A c)

  -- FOLLOW: sound and closed is exact
  pub follow_exact : {F W : Family} → FirstClosed g F → ((A : ℕ) (c : Column) → W A c → FollowOf g A c) → FollowClosed g F W → (A : ℕ) (c : Column) → W A c ↔ FollowOf g A c
  follow_exact F-closed w W-closed A c = (w A c, follow_complete F-closed W-closed A c)

  pub first_of_closed : FirstClosed g (FirstOf g)
  first_of_closed = record { closed = λ r {c} j. first_addition (λ A c h. h) r c j }

  -- a lookahead is the join that goes on with FOLLOW of the left side
  pub join_lookahead : {A : ℕ} {α : Form} {c : Column} → Cases (FirstOf g) (FollowOf g A) α c → Lookahead g A α (column c)
  join_lookahead (own j) = textbook.first (join_first (λ A c h. h) j)
  join_lookahead (beyond j k) = textbook.follow (join_first (λ A c h. h) j) k

  pub lookahead_join : {A : ℕ} {α : Form} {c : Column} → Lookahead g A α (column c) → Join (FirstOf g) (FollowOf g A) α c
  lookahead_join (textbook.first f) = own_first f
    where
      own_first : {A : ℕ} {α : Form} {c : Column} → First g α (column c) → Join (FirstOf g) (FollowOf g A) α c
      own_first (starts {t = t} γ d) = join_own (first_join first_of_closed (token t) (starts γ d))
  lookahead_join (textbook.follow v f) = join_beyond (first_join first_of_closed endmark v) f

  -- exact families give exact lookaheads
  pub lookahead_exact : {F W : Family} → ((A : ℕ) (c : Column) → F A c ↔ FirstOf g A c) → ((A : ℕ) (c : Column) → W A c ↔ FollowOf g A c) → {A : ℕ} {α : Form} {c : Column} → Join F (W A) α c ↔ Lookahead g A α (column c)
  lookahead_exact f w {A} =
      (λ j. join_lookahead (join_cases (join_map (λ B c. (f B c).0) (λ c. (w A c).0) j)), λ l. join_map (λ B c. (f B c).1) (λ c. (w A c).1) (lookahead_join l))

  -- FIRST never holds the end mark, FOLLOW and a lookahead never the empty string
  pub first_not_end : {α : Form} → ¬ First g α (column endmark)
  first_not_end f = elim f [ ]

  pub follow_not_empty : {A : ℕ} → ¬ Follow g A empty
  follow_not_empty f = elim f [ ]

  pub lookahead_not_empty : {A : ℕ} {α : Form} → ¬ Lookahead g A α empty
  lookahead_not_empty (textbook.follow v f) = follow_not_empty f

  -- exact families give exact claims
  pub claims_exact : {F W : Family} → ((A : ℕ) (c : Column) → F A c ↔ FirstOf g A c) → ((A : ℕ) (c : Column) → W A c ↔ FollowOf g A c) → {A p : ℕ} {c : Column} → ((β : Form) × Rule g p A β × Join F (W A) β c) ↔ Claims g A c p
  claims_exact f w =
      (λ k. record { right = k.0; rule = k.1; ahead = (lookahead_exact f w).0 k.2 }, λ k. (k.right, k.rule, (lookahead_exact f w).1 k.ahead))
