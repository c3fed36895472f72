-- A small grammar worked out: FIRST and FOLLOW by passes over its productions, exact wherever a test passes that computes.
-- A family is a list of its members, each with its row; the end mark stands in FIRST for the empty string.
use mathlib.Core.Path.{◌≡◌, refl, ap, subst}
use mathlib.Core.Bool.{Bool, true, false, ◌&&◌, ◌||◌}
use mathlib.Core.List.{List, [], ◌∷◌, ◌++◌, map}
use Prim.Native.Nat.{ℕ}
use lib.Dec.{T, eqb, eqb→eq, eqb_refl}
use Rattle.grammar.specs.declared.Symbol.TheVariants.{Token, Nonterminal}
use Rattle.grammar.specs.Grammar.{Form, Production, Grammar, Column, token, endmark, Every, nothing, each, Rule, itself, last, Reachable}
use Rattle.grammar.proofs.Join.{Family, End, ended, Join, over, here, begins, past, Behind, first, later, join_map}
use Rattle.grammar.proofs.Sets.{FirstOf, FollowOf, FirstClosed, FollowClosed, first_addition, follow_addition}
use Rattle.grammar.proofs.Every.{every_append, every_map, every_at, at_every, repeated, every_repeated}
use Rattle.grammar.proofs.Tests.{and_left, and_right, and_both, or_left, or_right, or_elim, all, any, all_every, any_append_left, any_append_right, any_of}

pub record Entry : Type 0 where
  pub row : ℕ
  pub col : Column

unfoldable pub same : Column → Column → Bool
same (token s) (token t) = eqb s t
same (token s) endmark = false
same endmark (token t) = false
same endmark endmark = true

pub same_is : (c d : Column) → T (same c d) → c ≡ d
unfolding same
same_is (token s) (token t) h = ap token (eqb→eq s t h)
same_is (token s) endmark h = absurd h
same_is endmark (token t) h = absurd h
same_is endmark endmark h = refl

pub same_self : (c : Column) → T (same c c)
unfolding same
same_self (token t) = eqb_refl t
same_self endmark = tt

unfoldable pub is : ℕ → Column → Entry → Bool
is A c e = eqb e.row A && same e.col c

unfoldable pub entry : ℕ → Column → Entry
entry A c = record { row = A; col = c }

-- the family that a list of entries is
abbrev pub In : List Entry → Family
In fam A c = T (any (is A c) fam)

-- the columns of a list
abbrev pub Among : List Column → Column → Type 0
Among K c = T (any (λ d. same d c) K)

unfoldable pub row_of : ℕ → List Entry → List Column
row_of A [] = []
row_of A (e ∷ fam) = elim (eqb e.row A) [ true ↦ e.col ∷ row_of A fam | false ↦ row_of A fam ]

unfoldable pub tokens_in : List Column → List Column
tokens_in [] = []
tokens_in (token t ∷ cs) = token t ∷ tokens_in cs
tokens_in (endmark ∷ cs) = tokens_in cs

-- what a form can begin with, going on with K where all of it vanishes
unfoldable pub joins : List Entry → List Column → Form → List Column
joins fam K [] = K
joins fam K (Token t ∷ α) = token t ∷ []
joins fam K (Nonterminal A ∷ α) = tokens_in (row_of A fam) ++ elim (any (is A endmark) fam) [ true ↦ joins fam K α | false ↦ [] ]

-- the entry of row A and column c is what it says
is_there : (F : Family) (A : ℕ) (c : Column) (e : Entry) → T (is A c e) → F e.row e.col → F A c
unfolding is
is_there F A c e s p =
    let row : e.row ≡ A = eqb→eq e.row A (and_left (eqb e.row A) (same e.col c) s) in
    let col : e.col ≡ c = same_is e.col c (and_right (eqb e.row A) (same e.col c) s) in
    subst (λ (n : ℕ). F n c) row (subst (F e.row) col p)

self_in : (fam : List Entry) (sub : List Entry) → ((A : ℕ) (c : Column) → In sub A c → In fam A c) → Every (λ e. In fam e.row e.col) sub
unfolding any is
self_in fam [] f = nothing
self_in fam (e ∷ sub) f =
    each
    (f e.row e.col (or_left (eqb e.row e.row && same e.col e.col) (any (is e.row e.col) sub) (and_both (eqb e.row e.row) (same e.col e.col) (eqb_refl e.row) (same_self e.col))))
    (self_in fam sub (λ A c t. f A c (or_right (eqb e.row A && same e.col c) (any (is A c) sub) t)))

-- every entry of a list is in its family
pub in_self : (fam : List Entry) → Every (λ e. In fam e.row e.col) fam
in_self fam = self_in fam fam (λ A c t. t)

-- what is true of every entry is true of each member of a row
module _ (F : Family) where
  pub row_every : (A : ℕ) (fam : List Entry) → Every (λ e. F e.row e.col) fam → Every (F A) (row_of A fam)
  unfolding row_of
  row_every A [] h = nothing
  row_every A (e ∷ fam) (each p h) = go (eqb e.row A) (λ t. subst (λ (n : ℕ). F n e.col) (eqb→eq e.row A t) p) (row_every A fam h)
    where
      go : (b : Bool) → (T b → F A e.col) → Every (F A) (row_of A fam) → Every (F A) (elim b [ true ↦ e.col ∷ row_of A fam | false ↦ row_of A fam ])
      go true f k = each (f tt) k
      go false f k = k

  pub in_every : (A : ℕ) (c : Column) {fam : List Entry} → Every (λ e. F e.row e.col) fam → In fam A c → F A c
  in_every A c h t = any_of (is A c) h (λ e p s. is_there F A c e s p) t

  tokens_begin : (A : ℕ) {K : Column → Type 0} (α : Form) (cs : List Column) → Every (F A) cs → Every (Join F K (Nonterminal A ∷ α)) (tokens_in cs)
  unfolding tokens_in
  tokens_begin A α [] h = nothing
  tokens_begin A α (token t ∷ cs) (each p h) = each (begins p) (tokens_begin A α cs h)
  tokens_begin A α (endmark ∷ cs) (each p h) = tokens_begin A α cs h

  pub joins_every : (fam : List Entry) → Every (λ e. F e.row e.col) fam → (K : List Column) {L : Column → Type 0} → Every L K → (α : Form) → Every (Join F L α) (joins fam K α)
  unfolding joins
  joins_every fam h K k [] = every_map (λ c l. over l) k
  joins_every fam h K k (Token t ∷ α) = each here nothing
  joins_every fam h K {L} k (Nonterminal A ∷ α) =
      every_append (tokens_in (row_of A fam)) _ (tokens_begin A α (row_of A fam) (row_every A fam h)) (go (any (is A endmark) fam) (λ t. in_every A endmark h t) (joins_every fam h K k α))
    where
      go : (b : Bool) → (T b → F A endmark) → Every (Join F L α) (joins fam K α) → Every (Join F L (Nonterminal A ∷ α)) (elim b [ true ↦ joins fam K α | false ↦ [] ])
      go true f js = every_map (λ c j. past (f tt) j) js
      go false f js = nothing

pub in_row : (A : ℕ) (c : Column) (fam : List Entry) → In fam A c → Among (row_of A fam) c
unfolding row_of any is
in_row A c [] t = t
in_row A c (e ∷ fam) t = go (eqb e.row A) t (λ s. in_row A c fam s)
  where
    col : Bool
    col = same e.col c

    below : Bool
    below = any (λ d. same d c) (row_of A fam)

    go : (b : Bool) → T ((b && col) || any (is A c) fam) → (In fam A c → T below) → Among (elim b [ true ↦ e.col ∷ row_of A fam | false ↦ row_of A fam ]) c
    go true h k = or_elim col (any (is A c) fam) (λ s. or_left col below s) (λ s. or_right col below (k s)) h
    go false h k = k h

among_tokens : (t : ℕ) (cs : List Column) → Among cs (token t) → Among (tokens_in cs) (token t)
unfolding tokens_in any same
among_tokens t [] h = h
among_tokens t (token s ∷ cs) h =
    let below : Bool = any (λ d. same d (token t)) (tokens_in cs) in
    or_elim (eqb s t) (any (λ d. same d (token t)) cs) (λ k. or_left (eqb s t) below k) (λ k. or_right (eqb s t) below (among_tokens t cs k)) h
among_tokens t (endmark ∷ cs) h = among_tokens t cs h

pub joins_all : (fam : List Entry) (K : List Column) {α : Form} {c : Column} → Join (In fam) (Among K) α c → Among (joins fam K α) c
unfolding joins any same
joins_all fam K (over k) = k
joins_all fam K (here {t = t}) = or_left (eqb t t) false (eqb_refl t)
joins_all fam K (begins {A = A} {t = t} {α = α} h) = any_append_left (λ d. same d (token t)) (tokens_in (row_of A fam)) _ (among_tokens t (row_of A fam) (in_row A (token t) fam h))
joins_all fam K (past {A = A} {α = α} {c = c} h j) = any_append_right (λ d. same d c) (tokens_in (row_of A fam)) _ (go (any (is A endmark) fam) h (joins_all fam K j))
  where
    go : (b : Bool) → T b → Among (joins fam K α) c → Among (elim b [ true ↦ joins fam K α | false ↦ [] ]) c
    go true t k = k
    go false t k = absurd t

unfoldable pub insert : Entry → List Entry → List Entry
insert e fam = elim (any (is e.row e.col) fam) [ true ↦ fam | false ↦ e ∷ fam ]

unfoldable pub inserts : List Entry → List Entry → List Entry
inserts [] fam = fam
inserts (e ∷ es) fam = inserts es (insert e fam)

every_inserts : {P : Entry → Type 0} (es fam : List Entry) → Every P es → Every P fam → Every P (inserts es fam)
unfolding inserts insert
every_inserts [] fam nothing h = h
every_inserts {P} (e ∷ es) fam (each p k) h = every_inserts es (insert e fam) k (go (any (is e.row e.col) fam))
  where
    go : (b : Bool) → Every P (elim b [ true ↦ fam | false ↦ e ∷ fam ])
    go true = h
    go false = each p h

unfoldable pub entries : ℕ → List Column → List Entry
entries A cs = map (entry A) cs

every_entries : {P : Entry → Type 0} (A : ℕ) {cs : List Column} → Every (λ c. P (entry A c)) cs → Every P (entries A cs)
unfolding entries
every_entries A nothing = nothing
every_entries A (each p h) = each p (every_entries A h)

-- a production with its number
pub record Ruled (g : Grammar) (r : Production) : Type 0 where
  pub number : ℕ
  pub rule : Rule g number r.left r.right

pub ruled : (g : Grammar) → Every (Ruled g) g.productions
ruled g = at_every g.productions (λ i r e. record { number = i; rule = record { at = e } })

unfoldable pub first_pass : List Production → List Entry → List Entry
first_pass [] fam = fam
first_pass (r ∷ rs) fam = first_pass rs (inserts (entries r.left (joins fam (endmark ∷ []) r.right)) fam)

-- adding what each right side of B puts after its nonterminals
unfoldable pub follow_adds : List Entry → List Column → Form → List Entry
follow_adds fam K [] = []
follow_adds fam K (Token t ∷ v) = follow_adds fam K v
follow_adds fam K (Nonterminal A ∷ v) = entries A (joins fam K v) ++ follow_adds fam K v

unfoldable pub follow_pass : List Entry → List Production → List Entry → List Entry
follow_pass fam [] W = W
follow_pass fam (r ∷ rs) W = follow_pass fam rs (inserts (follow_adds fam (row_of r.left W) r.right) W)

entries_any : (A : ℕ) (c : Column) (cs : List Column) → Among cs c → T (any (is A c) (entries A cs))
unfolding any is entries entry
entries_any A c [] h = h
entries_any A c (d ∷ cs) h =
    let below : Bool = any (is A c) (entries A cs) in
    or_elim (same d c) (any (λ d. same d c) cs) (λ s. or_left (eqb A A && same d c) below (and_both (eqb A A) (same d c) (eqb_refl A) s)) (λ s. or_right (eqb A A && same d c) below (entries_any A c cs s)) h

adds_all : (fam W : List Entry) (B : ℕ) {A : ℕ} {v β : Form} {c : Column} → Behind A v β → Join (In fam) (In W B) v c → T (any (is A c) (follow_adds fam (row_of B W) β))
unfolding follow_adds
adds_all fam W B {A} {v} {c = c} first j =
    any_append_left (is A c) (entries A (joins fam (row_of B W) v)) _ (entries_any A c (joins fam (row_of B W) v) (joins_all fam (row_of B W) (join_map (λ C d i. i) (λ d i. in_row B d W i) j)))
adds_all fam W B (later {s = Token t} b) j = adds_all fam W B b j
adds_all fam W B {A} {c = c} (later {s = Nonterminal C} {α = α} b) j = any_append_right (is A c) (entries C (joins fam (row_of B W) α)) _ (adds_all fam W B b j)

end_among : (c : Column) → End c → Among (endmark ∷ []) c
unfolding any same
end_among c ended = tt

module _ (g : Grammar) where
  unfoldable pub first_sets : ℕ → List Entry
  unfolding repeated first_pass joins inserts insert entries entry row_of tokens_in any is same
  first_sets n = repeated n (first_pass g.productions) []

  -- no production adds anything
  unfoldable pub first_test : List Entry → Bool
  unfolding all any is same joins row_of tokens_in
  first_test fam = all (λ r. all (λ c. any (is r.left c) fam) (joins fam (endmark ∷ []) r.right)) g.productions

  unfoldable pub follow_sets : List Entry → ℕ → List Entry
  unfolding repeated follow_pass follow_adds joins inserts insert entries entry row_of tokens_in any is same
  follow_sets fam n = repeated n (follow_pass fam g.productions) (entry g.start endmark ∷ [])

  unfoldable pub follow_test : List Entry → List Entry → Bool
  unfolding all any is same follow_adds joins entries entry row_of tokens_in
  follow_test fam W =
      any (is g.start endmark) W && all (λ r. all (λ e. any (is e.row e.col) W) (follow_adds fam (row_of r.left W) r.right)) g.productions

  -- every entry is in FIRST of its row
  abbrev pub SoundFirst : List Entry → Type 0
  SoundFirst fam = Every (λ e. FirstOf g e.row e.col) fam

  abbrev pub SoundFollow : List Entry → Type 0
  SoundFollow fam = Every (λ e. FollowOf g e.row e.col) fam

  first_pass_sound : (rs : List Production) → Every (Ruled g) rs → (fam : List Entry) → SoundFirst fam → SoundFirst (first_pass rs fam)
  unfolding first_pass entry
  first_pass_sound [] nothing fam h = h
  first_pass_sound (r ∷ rs) (each q k) fam h =
      first_pass_sound rs k _
      (every_inserts (entries r.left (joins fam (endmark ∷ []) r.right)) fam
      (every_entries r.left (every_map (λ c j. first_addition (λ A d i. i) q.rule c j) (joins_every (FirstOf g) fam h (endmark ∷ []) (each ended nothing) r.right)))
      h)

  pub first_sets_sound : (n : ℕ) → SoundFirst (first_sets n)
  unfolding first_sets
  first_sets_sound n = every_repeated (first_pass g.productions) (first_pass_sound g.productions (ruled g)) n [] nothing

  pub first_test_closed : (fam : List Entry) → T (first_test fam) → FirstClosed g (In fam)
  unfolding first_test
  first_test_closed fam t = record { closed = λ {p} {A} {β} r {c} j. go p A β r c j }
    where
      added : Production → Column → Bool
      added r c = any (is r.left c) fam

      go : (p A : ℕ) (β : Form) → Rule g p A β → (c : Column) → Join (In fam) End β c → In fam A c
      go p A β r c j =
          let tested : T (all (added (record { left = A; right = β })) (joins fam (endmark ∷ []) β)) = every_at (all_every (λ (r : Production). all (added r) (joins fam (endmark ∷ []) r.right)) g.productions t) p _ r.at in
          any_of (λ d. same d c) (all_every (added (record { left = A; right = β })) (joins fam (endmark ∷ []) β) tested)
          (λ d k s. subst (In fam A) (same_is d c s) k)
          (joins_all fam (endmark ∷ []) (join_map (λ B d i. i) end_among j))

  adds_sound : {fam : List Entry} → SoundFirst fam → (W : List Entry) → SoundFollow W → {p B : ℕ} {β : Form} → Reachable g B → Rule g p B β → (α : Form) → ((A : ℕ) (v : Form) → Behind A v α → Behind A v β) → SoundFollow (follow_adds fam (row_of B W) α)
  unfolding follow_adds entry
  adds_sound f W w b r [] sub = nothing
  adds_sound f W w b r (Token t ∷ v) sub = adds_sound f W w b r v (λ A x k. sub A x (later k))
  adds_sound {fam} f W w {B = B} b r (Nonterminal A ∷ v) sub =
      every_append (entries A (joins fam (row_of B W) v)) _
      (every_entries A (every_map (λ c j. follow_addition (λ C d i. i) (λ C d i. i) b r (sub A v first) j) (joins_every (FirstOf g) fam f (row_of B W) (row_every (FollowOf g) B W w) v)))
      (adds_sound f W w b r v (λ C x k. sub C x (later k)))

  follow_pass_sound : {fam : List Entry} → SoundFirst fam → (rs : List Production) → Every (Ruled g) rs → Every (λ r. Reachable g r.left) rs → (W : List Entry) → SoundFollow W → SoundFollow (follow_pass fam rs W)
  unfolding follow_pass
  follow_pass_sound f [] nothing nothing W w = w
  follow_pass_sound {fam} f (r ∷ rs) (each q k) (each b bs) W w =
      follow_pass_sound f rs k bs _
      (every_inserts (follow_adds fam (row_of r.left W) r.right) W (adds_sound f W w b q.rule r.right (λ A v i. i)) w)

  pub follow_sets_sound : {fam : List Entry} → SoundFirst fam → Every (λ r. Reachable g r.left) g.productions → (n : ℕ) → SoundFollow (follow_sets fam n)
  unfolding follow_sets entry
  follow_sets_sound {fam} f b n =
      every_repeated (follow_pass fam g.productions) (follow_pass_sound f g.productions (ruled g) b) n _ (each (last [] itself) nothing)

  pub follow_test_closed : (fam W : List Entry) → T (follow_test fam W) → FollowClosed g (In fam) (In W)
  unfolding follow_test
  follow_test_closed fam W t = record { at_start = and_left (any (is g.start endmark) W) _ t; closed = λ {p} {B} {β} r {A} {v} b {c} j. go p B β r A v b c j }
    where
      added : Entry → Bool
      added e = any (is e.row e.col) W

      adds : Production → List Entry
      adds r = follow_adds fam (row_of r.left W) r.right

      go : (p B : ℕ) (β : Form) → Rule g p B β → (A : ℕ) (v : Form) → Behind A v β → (c : Column) → Join (In fam) (In W B) v c → In W A c
      go p B β r A v b c j =
          let tested : T (all added (adds (record { left = B; right = β }))) = every_at (all_every (λ (r : Production). all added (adds r)) g.productions (and_right (any (is g.start endmark) W) _ t)) p _ r.at in
          any_of (is A c) (all_every added (adds (record { left = B; right = β })) tested) (λ e k s. is_there (In W) A c e s k) (adds_all fam W B b j)
