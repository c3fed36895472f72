-- How a form brings a token to the front: whatever derives something that starts with a token does so leftmost, and the machine on exact
-- cells follows.
use mathlib.Core.Path.{◌≡◌, refl, sym, ap, subst}
use mathlib.Core.List.{List, [], ◌∷◌, ◌++◌, append_assoc}
use mathlib.Core.Option.{Option}
use Prim.Native.Nat.{ℕ}
use Rattle.grammar.specs.declared.Symbol.{Symbol}
use Rattle.grammar.specs.declared.Symbol.TheVariants.{Token, Nonterminal}
use Rattle.grammar.specs.Grammar.{Form, Grammar, Column, token, column, Rule, replace, Derives, itself, step, Sentential, starts, vanishes, before, Lookahead, first, follow, Claims}
use Rattle.grammar.specs.Machine.{Exact, Run, here, match, expand}
use Rattle.grammar.proofs.Derivation.{derives_trans, derives_behind}
use Rattle.grammar.proofs.Unique.{sentential_expand}
use Rattle.grammar.proofs.Machine.{claims_cell}

-- the productions ps, applied leftmost from α, bring the token t to the front, with δ behind it
pub data Starting (g : Grammar) (t : ℕ) : Form → List ℕ → Form → Type 0 where
  there : {δ : Form} → Starting g t (Token t ∷ δ) [] δ
  sooner : {p A : ℕ} {α β δ : Form} {ps : List ℕ} → Rule g p A β → Starting g t (β ++ α) ps δ → Starting g t (Nonterminal A ∷ α) (p ∷ ps) δ

pub record Started (g : Grammar) (t : ℕ) (α : Form) : Type 0 where
  pub list : List ℕ
  pub rest : Form
  pub by : Starting g t α list rest

-- either β itself brings t to the front, or β vanishes and α does
data StartedIn (g : Grammar) (t : ℕ) (β α : Form) : Type 0 where
  left : Started g t β → StartedIn g t β α
  right : Derives g β [] → Started g t α → StartedIn g t β α

module _ {g : Grammar} where
  recast_starting : {t : ℕ} {α β δ : Form} {ps : List ℕ} → α ≡ β → Starting g t α ps δ → Started g t β
  recast_starting {t} {δ = δ} {ps = ps} e s = record { list = ps; rest = δ; by = subst (λ (x : Form). Starting g t x ps δ) e s }

  sooner_started : {t p A : ℕ} {β : Form} (α : Form) → Rule g p A β → Started g t (β ++ α) → Started g t (Nonterminal A ∷ α)
  sooner_started {p = p} α r s = record { list = p ∷ s.list; rest = s.rest; by = sooner r s.by }

  starting_back : {t p A : ℕ} {β : Form} → Rule g p A β → {σ δ : Form} {ps : List ℕ} → Starting g t σ ps δ → (u v : Form) → σ ≡ u ++ (β ++ v) → Started g t (u ++ (Nonterminal A ∷ v))
  starting_back r there [] v e = sooner_started v r (recast_starting e there)
  starting_back {t} {A = A} r there (x ∷ u) v e = let f : Token t ≡ x = cc in recast_starting (ap (λ (y : Symbol). y ∷ (u ++ (Nonterminal A ∷ v))) f) there
  starting_back r (sooner k s) [] v e = sooner_started v r (recast_starting e (sooner k s))
  starting_back {t} {A = A} {β = β} r (sooner {A = B} {α = α} {β = γ} k s) (x ∷ u) v e =
      let f : Nonterminal B ≡ x = cc in
      let tail : α ≡ u ++ (β ++ v) = cc in
      let inner : Started g t ((γ ++ u) ++ (Nonterminal A ∷ v)) = starting_back r s (γ ++ u) v (rw (tail, append_assoc)) in
      let whole : Started g t (Nonterminal B ∷ (u ++ (Nonterminal A ∷ v))) = sooner_started (u ++ (Nonterminal A ∷ v)) k (rw append_assoc at inner) in
      rw f at whole

  -- whatever derives something that starts with t does so leftmost
  pub starting : {t : ℕ} {α β : Form} → Derives g α β → (γ : Form) → β ≡ Token t ∷ γ → Started g t α
  starting itself γ e = recast_starting (sym e) there
  starting (step (replace u v r) d) γ e = starting_back r (starting d γ e).by u v refl

  pub starting_derives : {t : ℕ} {α δ : Form} {ps : List ℕ} → Starting g t α ps δ → Derives g α (Token t ∷ δ)
  starting_derives there = itself
  starting_derives (sooner {α = α} r s) = step (replace [] α r) (starting_derives s)

  starting_cut : {t : ℕ} {σ δ : Form} {ps : List ℕ} → Starting g t σ ps δ → (β α : Form) → σ ≡ β ++ α → StartedIn g t β α
  starting_cut there [] α e = right itself (recast_starting e there)
  starting_cut {t} there (x ∷ β) α e = let f : Token t ≡ x = cc in left (recast_starting (ap (λ (y : Symbol). y ∷ β) f) there)
  starting_cut (sooner k s) [] α e = right itself (recast_starting e (sooner k s))
  starting_cut {t} (sooner {A = B} {α = σ} {β = γ} k s) (x ∷ β) α e =
      let f : Nonterminal B ≡ x = cc in
      let tail : σ ≡ β ++ α = cc in
      again f (starting_cut s (γ ++ β) α (rw (tail, append_assoc)))
    where
      again : Nonterminal B ≡ x → StartedIn g t (γ ++ β) α → StartedIn g t (x ∷ β) α
      again f (left h) = left (rw f at (sooner_started β k h))
      again f (right d h) = right (subst (λ (y : Symbol). Derives g (y ∷ β) []) f (step (replace [] β k) d)) h

  leads_token : (x α : Form) {t p A : ℕ} {β δ : Form} {ps : List ℕ} → Sentential g (x ++ (Nonterminal A ∷ α)) → Rule g p A β → Starting g t (β ++ α) ps δ → Claims g A (token t) p
  leads_token x α {t} {p} {A} {β} s r h = record { right = β; rule = r; ahead = go (starting_cut h β α refl) }
    where
      go : StartedIn g t β α → Lookahead g A β (column (token t))
      go (left k) = first (starts k.rest (starting_derives k.by))
      go (right d k) =
          follow (vanishes d) (before x k.rest (derives_trans s (derives_behind x (derives_behind (Nonterminal A ∷ []) (starting_derives k.by)))))

  module _ {cell : ℕ → Column → Option ℕ} (exact : Exact g cell) where
    -- and the machine on exact cells does so too
    pub start_run : (x : Form) {t : ℕ} {α δ : Form} {ps : List ℕ} → Sentential g (x ++ α) → Starting g t α ps δ → (z : List ℕ) → Run g cell z α (t ∷ []) ps δ
    start_run x s there z = match here
    start_run x s (sooner {α = α} r h) z = expand (claims_cell exact (leads_token x α s r h)) r (start_run x (sentential_expand x α s r) h z)
