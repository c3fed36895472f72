-- The expansion as a relation, one constructor a move or an ending, so that whatever is said of expansions is said by induction.
use Rattle.std.specs.Prelude.{⊤, Result, Ok, Err}
use mathlib.Core.Path.{◌≡◌, refl}
use mathlib.Core.Bool.{Bool, true, false}
use mathlib.Core.List.{List, [], ◌∷◌, ◌++◌}
use Prim.Native.Nat.{ℕ, ◌≤◌, ◌<◌}
use borrow.Author.Tests.{ltb-true, ltb-false, leb-true, leb-false}
use lib.Dec.{leb, ltb}
use lib.ListN.{length}
use Rattle.grammar.specs.declared.Symbol.TheVariants.{Token, Nonterminal}
use Rattle.grammar.specs.Grammar.{Form}
use Rattle.machine.specs.Expansion.{Course, Expansion, ended, wrote, applied, writing, applying, expand_from}
use Rattle.machine.specs.declared.Obstacle.{Obstacle}
use Rattle.machine.specs.declared.Obstacle.TheVariants.{Unfit, FullStack, FullOutput}

module _ (fits : ℕ → ℕ → Bool) (right : ℕ → Form) (room output : ℕ) where
  -- with the list ps left, from a stack and a progress, the expansion comes to its ending and its last progress
  pub data Expands : List ℕ → Form → Course → Result ⊤ Obstacle → Course → Type 0 where
    finished : {s : Course} → Expands [] [] s (Ok tt) s
    left_over : {p : ℕ} {ps : List ℕ} {s : Course} → Expands (p ∷ ps) [] s (Err Unfit) s
    too_short : {A : ℕ} {α : Form} {s : Course} → Expands [] (Nonterminal A ∷ α) s (Err Unfit) s
    misfit : {p A : ℕ} {ps : List ℕ} {α : Form} {s : Course} → fits A p ≡ false → Expands (p ∷ ps) (Nonterminal A ∷ α) s (Err Unfit) s
    no_output : {t : ℕ} {ps : List ℕ} {α : Form} {s : Course} → output ≤ length s.written → Expands ps (Token t ∷ α) s (Err FullOutput) s
    no_stack : {p A : ℕ} {ps : List ℕ} {α : Form} {s : Course} → fits A p ≡ true → room < length (right p ++ α) → Expands (p ∷ ps) (Nonterminal A ∷ α) s (Err FullStack) s
    write : {t : ℕ} {ps : List ℕ} {α : Form} {s s' : Course} {e : Result ⊤ Obstacle} → length s.written < output → Expands ps α (wrote t s) e s' → Expands ps (Token t ∷ α) s e s'
    apply : {p A : ℕ} {ps : List ℕ} {α : Form} {s s' : Course} {e : Result ⊤ Obstacle} → fits A p ≡ true → length (right p ++ α) ≤ room → Expands ps (right p ++ α) (applied (right p ++ α) s) e s' → Expands (p ∷ ps) (Nonterminal A ∷ α) s e s'

  -- what it computes is what it comes to
  abbrev pub Traced : List ℕ → Form → Course → Expansion → Type 0
  Traced ps α s x = Expands ps α s x.ending x.progress

  writing_traced : (ps : List ℕ) (empty : Course → Expansion) (next : ℕ → Form → Course → Expansion) → ((s : Course) → Traced ps [] s (empty s)) → ((A : ℕ) (α : Form) (s : Course) → Traced ps (Nonterminal A ∷ α) s (next A α s)) → (α : Form) (s : Course) → Traced ps α s (writing fits right room output empty next α s)
  unfolding writing ended
  writing_traced ps empty next h k [] s = h s
  writing_traced ps empty next h k (Nonterminal A ∷ α) s = k A α s
  writing_traced ps empty next h k (Token t ∷ α) s = go (ltb (length s.written) output) refl (writing_traced ps empty next h k α (wrote t s))
    where
      go : (b : Bool) → ltb (length s.written) output ≡ b → Traced ps α (wrote t s) (writing fits right room output empty next α (wrote t s)) → Traced ps (Token t ∷ α) s (elim b [ true ↦ writing fits right room output empty next α (wrote t s) | false ↦ ended (Err FullOutput) s ])
      go true e r = write (ltb-true _ _ e) r
      go false e r = no_output (ltb-false _ _ e)

  applying_traced : (ps : List ℕ) (next : Form → Course → Expansion) → ((α : Form) (s : Course) → Traced ps α s (next α s)) → (p A : ℕ) (α : Form) (s : Course) → Traced (p ∷ ps) (Nonterminal A ∷ α) s (applying fits right room output next p A α s)
  unfolding applying ended
  applying_traced ps next h p A α s = go (fits A p) refl (leb (length (right p ++ α)) room) refl
    where
      go : (b : Bool) → fits A p ≡ b → (c : Bool) → leb (length (right p ++ α)) room ≡ c → Traced (p ∷ ps) (Nonterminal A ∷ α) s (elim b [ true ↦ elim c [ true ↦ next (right p ++ α) (applied (right p ++ α) s) | false ↦ ended (Err FullStack) s ] | false ↦ ended (Err Unfit) s ])
      go false e c f = misfit e
      go true e false f = no_stack e (leb-false _ _ f)
      go true e true f = apply e (leb-true _ _ f) (h (right p ++ α) (applied (right p ++ α) s))

  -- every expansion is traced
  pub traced : (ps : List ℕ) (α : Form) (s : Course) → Traced ps α s (expand_from fits right room output ps α s)
  unfolding expand_from ended
  traced [] α s = writing_traced [] (ended (Ok tt)) (λ A β s. ended (Err Unfit) s) (λ s. finished) (λ A β s. too_short) α s
  traced (p ∷ ps) α s = writing_traced (p ∷ ps) (ended (Err Unfit)) (λ A β s. applying fits right room output (expand_from fits right room output ps) p A β s) (λ s. left_over) (λ A β s. applying_traced ps (expand_from fits right room output ps) (traced ps) p A β s) α s
