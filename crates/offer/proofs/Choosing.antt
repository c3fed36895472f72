-- The next move from what the symbol on top says and what the room allows.
use Rattle.std.specs.Prelude.{Result, Ok, Err}
use mathlib.Core.Path.{◌≡◌, refl, ◌∙◌, ap}
use mathlib.Core.Logic.{◌≢◌}
use mathlib.Core.List.{[], ◌∷◌, ◌++◌}
use mathlib.Core.Option.{Option, some}
use Prim.Native.Nat.{ℕ, ◌≤◌, ◌<◌}
use native.Mathlib.Omega.{arith}
use lib.ListN.{length}
use Rattle.grammar.specs.Grammar.{Form, Column}
use Rattle.grammar.specs.declared.Symbol.TheVariants.{Nonterminal}
use Rattle.grammar.specs.declared.Symbol.{Symbol}
use Rattle.machine.specs.declared.Reason.{Reason}
use Rattle.machine.specs.declared.Reason.TheVariants.{FullList, FullStack}
use Rattle.offer.specs.Moves.{Bottom, Faces, Chosen}
use Rattle.offer.specs.declared.Move.TheVariants.{Use}
use Rattle.offer.specs.declared.Move.{Move}

-- a production that is to be used stands in the cell of a nonterminal on top
facing_cell : {cell : ℕ → Column → Option ℕ} {c : Column} {α β : Form} {x : Symbol} {m : Result Move Reason} {p : ℕ} → α ≡ x ∷ β → Faces cell c x m → m ≡ Ok (Use p) → (A : ℕ) × (α ≡ Nonterminal A ∷ β) × (cell A c ≡ some p)
facing_cell stands (Faces.matches f g) n = let bad : ◌≡◌ {A = ℕ} 0 1 = cc in absurd (omega arith)
facing_cell stands (Faces.unmatched f g) n = let bad : ◌≡◌ {A = ℕ} 0 1 = cc in absurd (omega arith)
facing_cell stands (Faces.vacant f g) n = let bad : ◌≡◌ {A = ℕ} 0 1 = cc in absurd (omega arith)
facing_cell {β = β} stands (Faces.filled {A = A} f g) n = (A, stands ∙ ap (λ (y : Symbol). y ∷ β) f, (cc))

module _ {right : ℕ → Form} {cell : ℕ → Column → Option ℕ} {room cells : ℕ} {c : Column} {α : Form} {listed : ℕ} where
  pub chosen_bottom : {m : Result Move Reason} → α ≡ [] → Bottom c m → Chosen right cell room cells c α listed m
  chosen_bottom e (Bottom.accepts f) = Chosen.accepts e f
  chosen_bottom e (Bottom.left_over f) = Chosen.left_over e f

  module _ {x : Symbol} {β : Form} (stands : α ≡ x ∷ β) where
    -- where no production is to be used the symbol decides
    pub chosen_finish : {m : Result Move Reason} → Faces cell c x m → ((p : ℕ) → m ≢ Ok (Use p)) → Chosen right cell room cells c α listed m
    chosen_finish (Faces.matches f g) n = Chosen.matches (stands ∙ ap (λ (y : Symbol). y ∷ β) f) g
    chosen_finish (Faces.unmatched f g) n = Chosen.unmatched (stands ∙ ap (λ (y : Symbol). y ∷ β) f) g
    chosen_finish (Faces.vacant f g) n = Chosen.vacant (stands ∙ ap (λ (y : Symbol). y ∷ β) f) g
    chosen_finish (Faces.filled {p = p} f g) n = absurd (n p refl)

    module _ {m : Result Move Reason} {p : ℕ} (faces : Faces cell c x m) (used : m ≡ Ok (Use p)) where
      pub chosen_full_list : cells ≤ listed → Chosen right cell room cells c α listed (Err FullList)
      chosen_full_list h = let (A, e, f) = facing_cell stands faces used in Chosen.list_full e f h

      pub chosen_full_stack : listed < cells → room < length (right p ++ β) → Chosen right cell room cells c α listed (Err FullStack)
      chosen_full_stack h k = let (A, e, f) = facing_cell stands faces used in Chosen.stack_full e f h k

      pub chosen_use : listed < cells → length (right p ++ β) ≤ room → Chosen right cell room cells c α listed (Ok (Use p))
      chosen_use h k = let (A, e, f) = facing_cell stands faces used in Chosen.uses e f h k
