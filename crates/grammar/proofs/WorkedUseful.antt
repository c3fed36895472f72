-- The productive and the useful nonterminals of a small grammar worked out, exact wherever a test passes that computes.
use mathlib.Core.Path.{sym, subst}
use mathlib.Core.Logic.{◌↔◌}
use mathlib.Core.Bool.{Bool, true, false, ◌&&◌, ◌||◌, not}
use mathlib.Core.List.{List, [], ◌∷◌}
use Prim.Native.Nat.{ℕ}
use lib.Dec.{T, eqb, eqb→eq}
use Rattle.grammar.specs.declared.Symbol.{Symbol}
use Rattle.grammar.specs.declared.Symbol.TheVariants.{Token, Nonterminal}
use Rattle.grammar.specs.Grammar.{Form, Production, Grammar, Every, nothing, each, Rule, Productive, Useful}
use Rattle.grammar.proofs.Join.{Behind, first, later}
use Rattle.grammar.proofs.Useful.{Named, Names, a_token, named, productive_addition, useful_addition, productive_complete, useful_complete, start_useful}
use Rattle.grammar.proofs.Tests.{and_left, and_right, and_both, all, any, all_every, any_of}
use Rattle.grammar.proofs.Every.{every_map, every_at, repeated, every_repeated}
use Rattle.grammar.proofs.Worked.{Ruled, ruled}

-- A is in the list
unfoldable pub has : List ℕ → ℕ → Bool
has M A = any (eqb A) M

pub has_every : (P : ℕ → Type 0) {M : List ℕ} → Every P M → (A : ℕ) → T (has M A) → P A
unfolding has
has_every P h A t = any_of (eqb A) h (λ B p s. subst P (sym (eqb→eq A B s)) p) t

unfoldable pub names_in : List ℕ → Form → Bool
names_in M [] = true
names_in M (Token t ∷ α) = names_in M α
names_in M (Nonterminal A ∷ α) = has M A && names_in M α

names_every : (P : ℕ → Type 0) {M : List ℕ} → Every P M → (α : Form) → T (names_in M α) → Names P α
unfolding names_in
names_every P h [] t = nothing
names_every P h (Token s ∷ α) t = each a_token (names_every P h α t)
names_every P {M} h (Nonterminal A ∷ α) t = each (named (has_every P h A (and_left (has M A) (names_in M α) t))) (names_every P h α (and_right (has M A) (names_in M α) t))

names_test_lem : (M : List ℕ) {α : Form} → Names (λ A. T (has M A)) α → T (names_in M α)
unfolding names_in
names_test_lem M nothing = tt
names_test_lem M (each a_token h) = names_test_lem M h
names_test_lem M (each {xs = α} (named {A = A} p) h) = and_both (has M A) (names_in M α) p (names_test_lem M h)

unfoldable pub names_of : Form → List ℕ
names_of [] = []
names_of (Token t ∷ α) = names_of α
names_of (Nonterminal A ∷ α) = A ∷ names_of α

names_behind : {P : ℕ → Type 0} (α : Form) → ((A : ℕ) (v : Form) → Behind A v α → P A) → Every P (names_of α)
unfolding names_of
names_behind [] f = nothing
names_behind (Token t ∷ α) f = names_behind α (λ A v b. f A v (later b))
names_behind (Nonterminal A ∷ α) f = each (f A α first) (names_behind α (λ B v b. f B v (later b)))

behind_names : {P : ℕ → Type 0} {A : ℕ} {v α : Form} → Behind A v α → Every P (names_of α) → P A
unfolding names_of
behind_names first (each p h) = p
behind_names (later {s = Token t} b) h = behind_names b h
behind_names (later {s = Nonterminal B} b) (each p h) = behind_names b h

unfoldable pub join_lists : List ℕ → List ℕ → List ℕ
join_lists [] M = M
join_lists (A ∷ As) M = join_lists As (elim (has M A) [ true ↦ M | false ↦ A ∷ M ])

every_join : {P : ℕ → Type 0} (As M : List ℕ) → Every P As → Every P M → Every P (join_lists As M)
unfolding join_lists
every_join [] M nothing h = h
every_join {P} (A ∷ As) M (each p k) h = every_join As _ k (go (has M A))
  where
    go : (b : Bool) → Every P (elim b [ true ↦ M | false ↦ A ∷ M ])
    go true = h
    go false = each p h

unfoldable pub productive_pass : List Production → List ℕ → List ℕ
productive_pass [] M = M
productive_pass (r ∷ rs) M = productive_pass rs (elim (names_in M r.right) [ true ↦ join_lists (r.left ∷ []) M | false ↦ M ])

unfoldable pub useful_pass : List ℕ → List Production → List ℕ → List ℕ
useful_pass M [] U = U
useful_pass M (r ∷ rs) U = useful_pass M rs (elim (has U r.left && names_in M r.right) [ true ↦ join_lists (names_of r.right) U | false ↦ U ])

implies_use : (a b : Bool) → T (not a || b) → T a → T b
implies_use true b t s = t
implies_use false b t s = absurd s

module _ (g : Grammar) where
  unfoldable pub productives : ℕ → List ℕ
  unfolding repeated productive_pass names_in has any join_lists
  productives n = repeated n (productive_pass g.productions) []

  unfoldable pub usefuls : List ℕ → ℕ → List ℕ
  unfolding repeated useful_pass names_in has any join_lists names_of
  usefuls M n = repeated n (useful_pass M g.productions) (g.start ∷ [])

  -- no production adds anything
  unfoldable pub productive_test : List ℕ → Bool
  unfolding all names_in has any
  productive_test M = all (λ r. not (names_in M r.right) || has M r.left) g.productions

  unfoldable pub useful_test : List ℕ → List ℕ → Bool
  unfolding all names_in has any names_of
  useful_test M U = has U g.start && all (λ r. not (has U r.left && names_in M r.right) || all (has U) (names_of r.right)) g.productions

  productive_pass_sound : (rs : List Production) → Every (Ruled g) rs → (M : List ℕ) → Every (Productive g) M → Every (Productive g) (productive_pass rs M)
  unfolding productive_pass
  productive_pass_sound [] nothing M h = h
  productive_pass_sound (r ∷ rs) (each q k) M h = productive_pass_sound rs k _ (go (names_in M r.right) (λ t. productive_addition q.rule (names_every (Productive g) h r.right t)))
    where
      go : (b : Bool) → (T b → Productive g r.left) → Every (Productive g) (elim b [ true ↦ join_lists (r.left ∷ []) M | false ↦ M ])
      go true f = every_join (r.left ∷ []) M (each (f tt) nothing) h
      go false f = h

  pub productives_sound : (n : ℕ) → Every (Productive g) (productives n)
  unfolding productives
  productives_sound n = every_repeated (productive_pass g.productions) (productive_pass_sound g.productions (ruled g)) n [] nothing

  pub productives_exact : {M : List ℕ} → Every (Productive g) M → T (productive_test M) → (A : ℕ) → T (has M A) ↔ Productive g A
  unfolding productive_test
  productives_exact {M} h t A = (has_every (Productive g) h A, productive_complete (record { closed = λ {p} {A = B} {β} r k. closed p B β r k }) A)
    where
      closed : (p B : ℕ) (β : Form) → Rule g p B β → Names (λ A. T (has M A)) β → T (has M B)
      closed p B β r k =
          implies_use (names_in M β) (has M B) (every_at (all_every (λ r. not (names_in M r.right) || has M r.left) g.productions t) p (record { left = B; right = β }) r.at) (names_test_lem M k)

  useful_pass_sound : {M : List ℕ} → Every (Productive g) M → (rs : List Production) → Every (Ruled g) rs → (U : List ℕ) → Every (Useful g) U → Every (Useful g) (useful_pass M rs U)
  unfolding useful_pass
  useful_pass_sound m [] nothing U h = h
  useful_pass_sound {M} m (r ∷ rs) (each q k) U h = useful_pass_sound m rs k _ (go (has U r.left && names_in M r.right) adds)
    where
      adds : T (has U r.left && names_in M r.right) → Every (Useful g) (names_of r.right)
      adds t =
          names_behind r.right
          (λ A v b. useful_addition (has_every (Useful g) h r.left (and_left (has U r.left) (names_in M r.right) t)) q.rule (names_every (Productive g) m r.right (and_right (has U r.left) (names_in M r.right) t)) b)

      go : (b : Bool) → (T b → Every (Useful g) (names_of r.right)) → Every (Useful g) (elim b [ true ↦ join_lists (names_of r.right) U | false ↦ U ])
      go true f = every_join (names_of r.right) U (f tt) h
      go false f = h

  pub usefuls_sound : {M : List ℕ} → Every (Productive g) M → T (has M g.start) → (n : ℕ) → Every (Useful g) (usefuls M n)
  unfolding usefuls
  usefuls_sound {M} m s n = every_repeated (useful_pass M g.productions) (useful_pass_sound m g.productions (ruled g)) n _ (each (start_useful (has_every (Productive g) m g.start s)) nothing)

  pub usefuls_exact : {M U : List ℕ} → Every (Productive g) M → T (productive_test M) → Every (Useful g) U → T (useful_test M U) → (A : ℕ) → T (has U A) ↔ Useful g A
  unfolding useful_test
  usefuls_exact {M} {U} m mt u t A =
      (has_every (Useful g) u A, useful_complete (record { at_start = and_left (has U g.start) _ t; closed = λ {p} {A = B} {B = C} {β} {v} b r k i. closed p B C β v b r k i }) A)
    where
      within : (s : Symbol) → Named (Productive g) s → Named (λ A. T (has M A)) s
      within (Token t) n = a_token
      within (Nonterminal B) (named p) = named ((productives_exact m mt B).1 p)

      test : Production → Bool
      test r = not (has U r.left && names_in M r.right) || all (has U) (names_of r.right)

      closed : (p B C : ℕ) (β v : Form) → T (has U B) → Rule g p B β → Names (Productive g) β → Behind C v β → T (has U C)
      closed p B C β v b r k i =
          let members : Names (λ A. T (has M A)) β = every_map (λ s n. within s n) k in
          let tested : T (test (record { left = B; right = β })) = every_at (all_every test g.productions (and_right (has U g.start) _ t)) p (record { left = B; right = β }) r.at in
          behind_names i (all_every (has U) (names_of β) (implies_use (has U B && names_in M β) (all (has U) (names_of β)) tested (and_both (has U B) (names_in M β) b (names_test_lem M members))))
