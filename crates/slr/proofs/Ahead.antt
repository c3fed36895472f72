-- What stands after the dot of an item, and what may follow where the dot comes to the end.
use mathlib.Core.Path.{◌≡◌, refl, sym, ap, ◌∙◌}
use mathlib.Core.List.{List, [], ◌∷◌, ◌++◌, append_assoc, append-nil}
use mathlib.Core.Option.{some}
use Prim.Native.Nat.{ℕ, suc}
use native.Mathlib.Omega.{arith}
use lib.ListN.{length, get_elem?, length-append}
use Rattle.grammar.specs.declared.Symbol.{Symbol}
use Rattle.grammar.specs.declared.Symbol.TheVariants.{Token, Nonterminal}
use Rattle.grammar.specs.Grammar.{Form, spelled, Grammar, Column, token, endmark, column, Rule, Derives, itself, starts, vanishes, Follow, before, last, Reachable}
use Rattle.grammar.specs.Machine.{front}
use Rattle.grammar.proofs.Join.{Join, Behind, join_own, join_beyond, behind_at}
use Rattle.grammar.proofs.Leftmost.{rule_same}
use Rattle.grammar.proofs.Sets.{FirstOf, FollowOf, first_join, first_of_closed, follow_addition}
use Rattle.slr.specs.Rightmost.{Rightmost, done}
use Rattle.slr.specs.Items.{Item, begin, finish, dotted, Advances, over_start, over_symbol}
use Rattle.slr.proofs.Rightmost.{rightmost_derives}

module _ (g : Grammar) where
  -- α stands after the dot of the first item, and at the end of α it is the second
  pub data Ahead : Item → Form → Item → Type 0 where
    ahead_begin : Ahead begin (Nonterminal g.start ∷ []) finish
    ahead_finish : Ahead finish [] finish
    ahead_dotted : {p A k : ℕ} {α β : Form} (u : Form)
        → Rule g p A β
        → β ≡ u ++ α
        → k ≡ length u
        → Ahead (dotted p k) α (dotted p (length β))

  -- the column may come where the dot is at the end
  pub data Fits : Item → Column → Type 0 where
    fits_finish : Fits finish endmark
    fits_dotted : {p A k : ℕ} {β : Form} {c : Column} → Rule g p A β → Follow g A (column c) → Fits (dotted p k) c

at_middle : {A : Type 0} (u : List A) (x : A) (v : List A) → get_elem? (u ++ (x ∷ v)) (length u) ≡ some x
at_middle [] x v = refl
at_middle (y ∷ u) x v = at_middle u x v

module _ {g : Grammar} where
  pub ahead_whole : {p A : ℕ} {β : Form} → Rule g p A β → Ahead g (dotted p 0) β (dotted p (length β))
  ahead_whole r = ahead_dotted [] r refl refl

  -- the dot goes over the first symbol
  pub ahead_next : {i e : Item} {x : Symbol} {α : Form}
      → Ahead g i (x ∷ α) e
      → (j : Item) × Advances g i x j × Ahead g j α e
  ahead_next ahead_begin = (finish, over_start, ahead_finish)
  ahead_next {x = x} {α} (ahead_dotted {p = p} {k = k} {β = β} u r e n) =
      let at : get_elem? β k ≡ some x = rw (e, n) (at_middle u x α) in
      let rest : β ≡ (u ++ (x ∷ [])) ++ α = rw append_assoc e in
      let more : suc k ≡ length (u ++ (x ∷ [])) = omega (arith, length-append u (x ∷ [])) in
      (dotted p (suc k), over_symbol r at, ahead_dotted (u ++ (x ∷ [])) r rest more)

  -- with nothing after the dot the item is at its end
  pub ahead_ends : {i e : Item} → Ahead g i [] e → i ≡ e
  ahead_ends ahead_finish = refl
  ahead_ends (ahead_dotted {p = p} {k = k} {β = β} u r e n) =
      let same : k ≡ length β = n ∙ ap (λ (x : Form). length x) (sym (e ∙ append-nil u)) in
      ap (dotted p) same

  reachable : {A : ℕ} {c : Column} → Follow g A (column c) → Reachable g A
  reachable (before {t = t} u v s) = record { left = u; right = Token t ∷ v; occurs = s }
  reachable (last u s) = record { left = u; right = []; occurs = s }

  -- what the string w ++ z begins with, α can begin with, or α vanishes and B is followed by it
  begins_ahead : {B : ℕ} {α : Form} (w z : List ℕ)
      → Derives g α (spelled w)
      → FollowOf g B (front z)
      → Join (FirstOf g) (FollowOf g B) α (front (w ++ z))
  begins_ahead [] z d f = join_beyond (first_join first_of_closed endmark (vanishes d)) f
  begins_ahead (t ∷ w) z d f = join_own (first_join first_of_closed (token t) (starts (spelled w) d))

  -- what may follow B may, after what α gives, follow the A of B → γ A α
  pub follow_after : {i e : Item} {A : ℕ} {α : Form} {ps w : List ℕ} {c : Column} (z : List ℕ)
      → Ahead g i (Nonterminal A ∷ α) e
      → Rightmost g α ps w
      → Fits g e c
      → c ≡ front z
      → Follow g A (column (front (w ++ z)))
  follow_after z ahead_begin done fits_finish e = rw (← e) (last [] itself)
  follow_after {A = A} {α} {w = w} z (ahead_dotted u r e n) d (fits_dotted {A = B} {β = β} r' f) same =
      let right : β ≡ u ++ (Nonterminal A ∷ α) = (rule_same r' r).1 ∙ e in
      let behind : Behind A α β = rw right (behind_at u) in
      let next : FollowOf g B (front z) = rw same at f in
      follow_addition (λ C c h. h) (λ C c h. h) (reachable f) r' behind (begins_ahead w z (rightmost_derives d) next)
