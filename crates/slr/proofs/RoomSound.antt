-- What the machine with room takes, the machine with room without end accepts.
use mathlib.Core.Path.{◌≡◌, refl, sym, ap, ◌∙◌}
use mathlib.Core.Bool.{Bool, true, false}
use mathlib.Core.List.{List, [], ◌∷◌, ◌++◌, append_assoc, append-nil}
use mathlib.Core.Option.{Option, some, none}
use Prim.Native.Nat.{ℕ, zero, suc, ◌-◌}
use native.Mathlib.Omega.{arith}
use lib.Dec.{ltb}
use lib.ListN.{length, drop}
use Rattle.grammar.specs.Grammar.{Form, Grammar, Column, token, endmark, Rule}
use Rattle.grammar.specs.Machine.{front}
use Rattle.slr.specs.Actions.{Action, shift, reduce, accept, Acts, ExactActions}
use Rattle.slr.specs.Actions as textbook
use Rattle.slr.specs.Machine.{Accepting, accepts, shifts, reduces, SlrAccepts}
use Rattle.slr.specs.RoomMachine.{Setting, Progress, SlrReason, full_stack, wants, SlrOffered, taken, stopped, slr_begun, shifted, reduced, shifting, uncovering, acting, slr_facing, moving, slr_offer, slr_run_from, left_in, size_in, setting_of, slr_run}
use Rattle.slr.proofs.Room.{rule_left, rule_size}

never : {r : SlrReason} {s s' : Progress} → stopped r s ≡ taken s' → ⊥
never e = let bad : ◌≡◌ {A = ℕ} 0 1 = cc in absurd (omega arith)

module _ (m : Setting) where
  -- how a column comes to be taken: accepted, shifted, or after a reduction
  data Takes (apply : ℕ → ℕ → List ℕ → SlrOffered) (c : Column) (s s' : Progress) : Type 0 where
    by_accepting : m.cell s.top c ≡ some accept → s ≡ s' → Takes apply c s s'
    by_shifting : (j : ℕ) → m.cell s.top c ≡ some (shift j) → shifted j s ≡ s' → Takes apply c s s'
    by_reducing : (p j k : ℕ) (rest : List ℕ) → m.cell s.top c ≡ some (reduce p)
        → drop (m.size p) (s.top ∷ s.below) ≡ k ∷ rest
        → m.move k (m.left p) ≡ some j
        → apply p j (k ∷ rest) ≡ taken s'
        → Takes apply c s s'

  shifting_taken : (j : ℕ) (s s' : Progress) → shifting m j s ≡ taken s' → shifted j s ≡ s'
  unfolding shifting
  shifting_taken j s s' e = go (ltb (suc (length s.below)) m.room) e
    where
      go : (b : Bool)
          → elim b [ true ↦ taken (shifted j s) | false ↦ stopped full_stack s ] ≡ taken s'
          → shifted j s ≡ s'
      go true f = cc
      go false f = absurd (never f)

  facing_taken : (apply : ℕ → ℕ → List ℕ → SlrOffered) (c : Column) (s s' : Progress)
      → slr_facing m apply c s ≡ taken s'
      → Takes apply c s s'
  unfolding slr_facing acting uncovering
  facing_taken apply c s s' e = cell_says (m.cell s.top c) refl e
    where
      moves_say : (p k : ℕ) (rest : List ℕ)
          → m.cell s.top c ≡ some (reduce p)
          → drop (m.size p) (s.top ∷ s.below) ≡ k ∷ rest
          → (o : Option ℕ) → m.move k (m.left p) ≡ o
          → elim o [ none ↦ stopped (wants s.top) s | some j ↦ apply p j (k ∷ rest) ] ≡ taken s'
          → Takes apply c s s'
      moves_say p k rest at uncovers none is f = absurd (never f)
      moves_say p k rest at uncovers (some j) is f = by_reducing p j k rest at uncovers is f

      states_say : (p : ℕ)
          → m.cell s.top c ≡ some (reduce p)
          → (left : List ℕ)
          → drop (m.size p) (s.top ∷ s.below) ≡ left
          → uncovering m (apply p) p s left ≡ taken s'
          → Takes apply c s s'
      states_say p at [] is f = absurd (never f)
      states_say p at (k ∷ rest) is f = moves_say p k rest at is (m.move k (m.left p)) refl f

      action_says : (a : Action) → m.cell s.top c ≡ some a → acting m apply s a ≡ taken s' → Takes apply c s s'
      action_says accept at f = by_accepting at (cc)
      action_says (shift j) at f = by_shifting j at (shifting_taken j s s' f)
      action_says (reduce p) at f = states_say p at (drop (m.size p) (s.top ∷ s.below)) refl f

      cell_says : (o : Option Action) → m.cell s.top c ≡ o
          → elim o [ none ↦ stopped (wants s.top) s | some a ↦ acting m apply s a ] ≡ taken s'
          → Takes apply c s s'
      cell_says none at f = absurd (never f)
      cell_says (some a) at f = action_says a at f

  moving_taken : (next : Progress → SlrOffered) (s s' : Progress) (p j : ℕ) (rest : List ℕ)
      → moving m next s p j rest ≡ taken s'
      → next (reduced p j rest s) ≡ taken s'
  unfolding moving
  moving_taken next s s' p j rest e = go (ltb (length rest) m.room) e
    where
      go : (b : Bool)
          → elim b [ true ↦ next (reduced p j rest s) | false ↦ stopped full_stack s ] ≡ taken s'
          → next (reduced p j rest s) ≡ taken s'
      go true f = f
      go false f = absurd (never f)

module _ {g : Grammar} {paths : List Form} {cell : ℕ → Column → Option Action} {move : ℕ → ℕ → Option ℕ}
    (exact : ExactActions g paths cell move) (room cells : ℕ) where
  not_shifted : {s j : ℕ} → Acts g paths s endmark (shift j) → ⊥
  not_shifted a = elim a [ ]

  not_accepted : {s t : ℕ} → Acts g paths s (token t) accept → ⊥
  not_accepted a = elim a [ ]

  production : {s p : ℕ} {c : Column} → Acts g paths s c (reduce p) → (A : ℕ) × (β : Form) × Rule g p A β
  production (textbook.reduces {A = A} {β = β} r h f) = (A, β, r)

  -- a reduction of the machine with room is one of the machine without
  reduction : (s : Progress) (w : List ℕ) (c : Column) (p j k : ℕ) (rest ps : List ℕ) → c ≡ front w
      → cell s.top c ≡ some (reduce p)
      → drop (size_in g p) (s.top ∷ s.below) ≡ k ∷ rest
      → move k (left_in g p) ≡ some j
      → Accepting g cell move (j ∷ k ∷ rest) w ps
      → Accepting g cell move (s.top ∷ s.below) w (p ∷ ps)
  reduction s w c p j k rest ps same at uncovers moves a =
      let (A, β, r) = production ((exact.cells s.top c (reduce p)).0 at) in
      reduces (rw same at at) r (rw (rule_size r) at uncovers) (rw (rule_left r) at moves) a

  -- the column is accepted, or shifted
  data Last (c : Column) (s s' : Progress) : Type 0 where
    last_accepts : cell s.top c ≡ some accept → s ≡ s' → Last c s s'
    last_shifts : (j : ℕ) → cell s.top c ≡ some (shift j) → shifted j s ≡ s' → Last c s s'

  -- the reductions made before the column is taken, and how it is taken
  record Offers (c : Column) (s s' : Progress) : Type 0 where
    at : Progress
    list : List ℕ
    listed : at.listed ≡ s.listed ++ list
    back : (w ps : List ℕ) → c ≡ front w
        → Accepting g cell move (at.top ∷ at.below) w ps
        → Accepting g cell move (s.top ∷ s.below) w (list ++ ps)
    takes : Last c at s'

  offers_last : {c : Column} {s s' : Progress} → Last c s s' → Offers c s s'
  offers_last {s = s} t =
      record { at = s; list = []; listed = sym (append-nil s.listed); back = λ w ps e a. a; takes = t }

  offers_reduced : {c : Column} {s s' : Progress} (p j k : ℕ) (rest : List ℕ) → cell s.top c ≡ some (reduce p)
      → drop (size_in g p) (s.top ∷ s.below) ≡ k ∷ rest
      → move k (left_in g p) ≡ some j
      → Offers c (reduced p j (k ∷ rest) s) s'
      → Offers c s s'
  unfolding reduced
  offers_reduced {c} {s} p j k rest at uncovers moves o =
      record {
        at = o.at;
        list = p ∷ o.list;
        listed = o.listed ∙ append_assoc s.listed (p ∷ []) o.list;
        back = λ w ps e a. reduction s w c p j k rest (o.list ++ ps) e at uncovers moves (o.back w ps e a);
        takes = o.takes;
      }

  offers_by : {apply : ℕ → ℕ → List ℕ → SlrOffered} {c : Column} {s s' : Progress}
      → ((p j k : ℕ) (rest : List ℕ) → apply p j (k ∷ rest) ≡ taken s' → Offers c (reduced p j (k ∷ rest) s) s')
      → Takes (setting_of g cell move room cells) apply c s s'
      → Offers c s s'
  offers_by next (by_accepting at same) = offers_last (last_accepts at same)
  offers_by next (by_shifting j at same) = offers_last (last_shifts j at same)
  offers_by next (by_reducing p j k rest at uncovers moves f) =
      offers_reduced p j k rest at uncovers moves (next p j k rest f)

  offered : (l : ℕ) (c : Column) (s s' : Progress)
      → slr_offer (setting_of g cell move room cells) l c s ≡ taken s'
      → Offers c s s'
  unfolding slr_offer
  offered zero c s s' e =
      offers_by (λ p j k rest f. absurd (never f)) (facing_taken (setting_of g cell move room cells) _ c s s' e)
  offered (suc l) c s s' e =
      let m : Setting = setting_of g cell move room cells in
      offers_by
      (λ p j k rest f. offered l c (reduced p j (k ∷ rest) s) s' (moving_taken m (slr_offer m l c) s s' p j (k ∷ rest) f))
      (facing_taken m _ c s s' e)

  -- what a run lists, and that it is a run of the machine without end
  record Listing (w : List ℕ) (s last : Progress) : Type 0 where
    list : List ℕ
    listed : last.listed ≡ s.listed ++ list
    run : Accepting g cell move (s.top ∷ s.below) w list

  listing_end : (s last : Progress) → Offers endmark s last → Listing [] s last
  listing_end s last o = go o.takes
    where
      go : Last endmark o.at last → Listing [] s last
      go (last_accepts at same) =
          let listed : last.listed ≡ s.listed ++ o.list = ap (λ (x : Progress). x.listed) (sym same) ∙ o.listed in
          record { list = o.list ++ []; listed = rw append-nil listed; run = o.back [] [] refl (accepts at) }
      go (last_shifts j at same) = absurd (not_shifted ((exact.cells o.at.top endmark (shift j)).0 at))

  listing_token : (t : ℕ) (w : List ℕ) (s s' last : Progress)
      → Offers (token t) s s'
      → Listing w s' last
      → Listing (t ∷ w) s last
  unfolding shifted
  listing_token t w s s' last o rest = go o.takes
    where
      go : Last (token t) o.at s' → Listing (t ∷ w) s last
      go (last_accepts at same) = absurd (not_accepted ((exact.cells o.at.top (token t) accept).0 at))
      go (last_shifts j at same) =
          let listed : s'.listed ≡ s.listed ++ o.list = ap (λ (x : Progress). x.listed) (sym same) ∙ o.listed in
          record {
            list = o.list ++ rest.list;
            listed = rest.listed ∙ rw (listed, append_assoc);
            run = o.back (t ∷ w) rest.list refl (shifts at (rw (← same) at rest.run));
          }

  listing : (w : List ℕ) (s last : Progress)
      → slr_run_from (setting_of g cell move room cells) w s ≡ taken last
      → Listing w s last
  unfolding slr_run_from
  listing [] s last e = listing_end s last (offered (cells - length s.listed) endmark s last e)
  listing (t ∷ w) s last e = go (slr_offer m (cells - length s.listed) (token t) s) refl e (λ s' f. listing w s' last f)
    where
      m : Setting
      m = setting_of g cell move room cells

      go : (o : SlrOffered)
          → slr_offer m (cells - length s.listed) (token t) s ≡ o
          → elim o [ taken s' ↦ slr_run_from m w s' | stopped r s' ↦ stopped r s' ] ≡ taken last
          → ((s' : Progress) → slr_run_from m w s' ≡ taken last → Listing w s' last)
          → Listing (t ∷ w) s last
      go (taken s') is f on =
          listing_token t w s s' last (offered (cells - length s.listed) (token t) s s' is) (on s' f)
      go (stopped r s') is f on = absurd (never f)

  -- what the machine with room accepts, it accepts with room without end
  pub taken_accepts : {w : List ℕ} {last : Progress}
      → slr_run (setting_of g cell move room cells) w ≡ taken last
      → SlrAccepts g cell move w last.listed
  unfolding slr_begun
  taken_accepts {w} {last} e = let l = listing w slr_begun last e in rw l.listed l.run
