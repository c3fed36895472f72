-- Where an expansion that does not fit ends: what it has used is the longest beginning of the list that some complete list shares.
use Rattle.std.specs.Prelude.{Err}
use mathlib.Core.Path.{◌≡◌, refl, ◌∙◌, ap, ap₂}
use mathlib.Core.Bool.{false}
use mathlib.Core.List.{List, [], ◌∷◌, ◌++◌, append_assoc}
use Prim.Native.Nat.{ℕ, suc, ◌+◌, ◌-◌, ◌≤◌}
use native.Mathlib.Decide.{dec_le}
use native.Mathlib.Omega.{arith}
use lib.ListN.{length, take, length-append}
use lib.Seq.{take-append-add, take_at}
use Rattle.grammar.specs.declared.Symbol.TheVariants.{Nonterminal}
use Rattle.grammar.specs.Grammar.{Form, spelled, Grammar, Leftmost, expand, Productive, Reachable}
use Rattle.grammar.proofs.Leftmost.{derives_leftmost}
use Rattle.grammar.proofs.Useful.{names_from, Ends, names_end}
use Rattle.grammar.proofs.Place.{behind_reachable}
use Rattle.machine.specs.Expansion.{Course, wrote, applied}
use Rattle.machine.specs.declared.Obstacle.TheVariants.{Unfit}
use Rattle.machine.specs.Room.{right_of, is_of, BeginsList, LongestList}
use Rattle.machine.proofs.ExpandTrace.{Expands, left_over, too_short, misfit, write, apply}
use Rattle.machine.proofs.ExpandPasses as beginning
use Rattle.machine.proofs.ExpandPasses.{Passes, stay, use_rule, passes_on, passes_through, passes_derives}
use Rattle.machine.proofs.ExpandDerivation.{fits_rule, misfit_no_rule}

-- the rest of the list does not fit the stack: there is no stack, no rest, or its first number is no production of the nonterminal on top
pub data NoFit (g : Grammar) : Form → List ℕ → Type 0 where
  no_stack : {p : ℕ} {rs : List ℕ} → NoFit g [] (p ∷ rs)
  no_rest : {A : ℕ} {α : Form} → NoFit g (Nonterminal A ∷ α) []
  no_rule : {p A : ℕ} {rs : List ℕ} {α : Form} → is_of g A p ≡ false → NoFit g (Nonterminal A ∷ α) (p ∷ rs)

-- how an expansion comes to where the list does not fit
pub record Stuck (g : Grammar) (ps : List ℕ) (α : Form) (s s' : Course) : Type 0 where
  pub before : List ℕ
  pub rest : List ℕ
  pub tokens : List ℕ
  pub stack : Form
  pub passes : Passes g α before tokens stack
  pub misfits : NoFit g stack rest
  pub list : ps ≡ before ++ rest
  pub used : s'.used ≡ s.used + length before

-- the length of the longest shared beginning is determined
pub list_place_determined : {g : Grammar} {ps : List ℕ} {j k : ℕ} → LongestList g ps j → LongestList g ps k → j ≡ k
list_place_determined {j = j} {k = k} a b = omega (arith, a.longest k b.inside b.begun, b.longest j a.inside a.begun)

module _ {g : Grammar} where
  at_once : {ps : List ℕ} {α : Form} {s : Course} → NoFit g α ps → Stuck g ps α s s
  at_once {ps} {α} m =
      record {
        before = [];
        rest = ps;
        tokens = [];
        stack = α;
        passes = stay;
        misfits = m;
        list = refl;
        used = omega arith;
      }

  pub unfit_stuck : {room output : ℕ} {ps : List ℕ} {α : Form} {s s' : Course} → Expands (is_of g) (right_of g) room output ps α s (Err Unfit) s' → Stuck g ps α s s'
  unfolding wrote applied
  unfit_stuck left_over = at_once no_stack
  unfit_stuck too_short = at_once no_rest
  unfit_stuck (misfit f) = at_once (no_rule f)
  unfit_stuck (write {t = t} f r) =
      let k = unfit_stuck r in
      record {
        before = k.before;
        rest = k.rest;
        tokens = t ∷ k.tokens;
        stack = k.stack;
        passes = beginning.write k.passes;
        misfits = k.misfits;
        list = k.list;
        used = k.used;
      }
  unfit_stuck (apply {p = p} {A = A} f b r) =
      let k = unfit_stuck r in
      record {
        before = p ∷ k.before;
        rest = k.rest;
        tokens = k.tokens;
        stack = k.stack;
        passes = use_rule (fits_rule p A f) k.passes;
        misfits = k.misfits;
        list = ap (λ x. p ∷ x) k.list;
        used = omega (arith, k.used);
      }

  -- from that stack no derivation goes on with the first number of the rest, nor with the whole rest
  misfit_next : {α : Form} {p : ℕ} {rs qs v : List ℕ} → NoFit g α (p ∷ rs) → Leftmost g α (p ∷ qs) v → ⊥
  misfit_next no_stack d = elim d [ ]
  misfit_next (no_rule f) (expand r d) = misfit_no_rule f r

  misfit_rest : {α : Form} {rs v : List ℕ} → NoFit g α rs → Leftmost g α rs v → ⊥
  misfit_rest no_stack d = elim d [ ]
  misfit_rest no_rest d = elim d [ ]
  misfit_rest (no_rule f) (expand r d) = misfit_no_rule f r

  module _ {ps : List ℕ} {α : Form} {s s' : Course} (k : Stuck g ps α s s') where
    -- a list that does not fit derives nothing
    pub stuck_incomplete : {w : List ℕ} → Leftmost g α ps w → ⊥
    stuck_incomplete d = misfit_rest k.misfits (passes_through k.passes k.rest (rw k.list at d)).1

    stuck_length : length ps ≡ length k.before + length k.rest
    stuck_length = ap length k.list ∙ length-append k.before k.rest

    one_more : (m : ℕ) (rs : List ℕ) → k.rest ≡ rs → suc m ≤ length rs → (qs : List ℕ) {w : List ℕ} → Leftmost g α (k.before ++ (take (suc m) rs ++ qs)) w → ⊥
    one_more m [] e h qs d = omega arith
    one_more m (p ∷ rs) e h qs d = misfit_next (rw e at k.misfits) (passes_through k.passes (p ∷ (take m rs ++ qs)) d).1

    -- no derivation shares more of it than was used
    pub stuck_no_longer : (j : ℕ) → j ≤ length ps → (qs : List ℕ) {w : List ℕ} → Leftmost g α (take j ps ++ qs) w → j ≤ length k.before
    stuck_no_longer j h qs {w} d = go (dec_le j (length k.before))
      where
        go : Dec (j ≤ length k.before) → j ≤ length k.before
        go (yes l) = l
        go (no l) =
            let m : ℕ = j - suc (length k.before) in
            let n : j ≡ length k.before + suc m = omega arith in
            let e : take j ps ≡ k.before ++ take (suc m) k.rest = ap₂ take n k.list ∙ take-append-add k.before k.rest (suc m) in
            absurd (one_more m k.rest refl (omega (arith, stuck_length)) qs (rw append_assoc at (rw e at d)))

  module _ (productive : (A : ℕ) → Reachable g A → Productive g A) where
    -- what can be passed begins a complete list
    pub passes_begins : {β : Form} {qs u : List ℕ} → Passes g (Nonterminal g.start ∷ []) qs u β → BeginsList g qs
    passes_begins {β} {u = u} r =
        let e : Ends g β = names_end (names_from β (λ A v b. productive A (behind_reachable (spelled u) (passes_derives r) b))) in
        let (rs, d) = derives_leftmost e.string e.derives in
        record { rest = rs; string = u ++ e.string; complete = passes_on r d }

    module _ {ps : List ℕ} {s s' : Course} (k : Stuck g ps (Nonterminal g.start ∷ []) s s') where
      pub stuck_longest : s.used ≡ 0 → LongestList g ps s'.used
      stuck_longest z =
          let n : length k.before ≡ s'.used = omega (arith, k.used) in
          let e : take s'.used ps ≡ k.before = ap (take s'.used) k.list ∙ take_at k.before k.rest s'.used n in
          record {
            inside = omega (arith, stuck_length k);
            begun = rw e (passes_begins k.passes);
            longest = λ j h b. omega (arith, stuck_no_longer k j h b.rest b.complete);
          }
