-- Where an expansion that lacks room stops: what it used and wrote begins a leftmost derivation, whose stack then stands.
use Rattle.std.specs.Prelude.{⊤, Result, Err}
use mathlib.Core.Path.{◌≡◌, refl, sym, ap, ◌∙◌}
use mathlib.Core.List.{List, [], ◌∷◌, ◌++◌, append_assoc, append-nil}
use Prim.Native.Nat.{ℕ, suc, ◌+◌, ◌≤◌}
use native.Mathlib.Omega.{arith}
use lib.ListN.{length, length-append}
use Rattle.grammar.specs.declared.Symbol.TheVariants.{Nonterminal}
use Rattle.grammar.specs.Grammar.{Form, spelled, Grammar, LeftmostSteps, leftmost}
use Rattle.grammar.specs.Grammar as chain
use Rattle.grammar.proofs.Leftmost.{spelled_append}
use Rattle.machine.specs.Expansion.{Course, wrote, applied, opened, expansion}
use Rattle.machine.specs.declared.Obstacle.{Obstacle}
use Rattle.machine.specs.declared.Obstacle.TheVariants.{FullStack, FullOutput}
use Rattle.machine.specs.Room.{right_of, is_of}
use Rattle.machine.specs.Stopping.{Midway, Lacks, lacks_stack, lacks_output}
use Rattle.machine.proofs.ExpandTrace.{Expands, finished, left_over, too_short, misfit, no_output, no_stack, write, apply, traced}
use Rattle.machine.proofs.ExpandPasses.{Passes, stay, use_rule}
use Rattle.machine.proofs.ExpandPasses as beginning
use Rattle.machine.proofs.ExpandDerivation.{fits_rule}

-- what is passed is a chain of leftmost steps, also behind tokens
passes_steps_behind : {g : Grammar} (x : List ℕ) {α β : Form} {qs u : List ℕ}
    → Passes g α qs u β
    → LeftmostSteps g (spelled x ++ α) qs (spelled x ++ (spelled u ++ β))
passes_steps_behind x stay = chain.stay
passes_steps_behind x (beginning.write {t = t} r) =
    simp (spelled_append, append_assoc) at (passes_steps_behind (x ++ (t ∷ [])) r)
passes_steps_behind x (use_rule {α = α} k r) = chain.next (leftmost x α k) (passes_steps_behind x r)

-- how an expansion comes to where it lacks room, from any stack and course
record Stops (g : Grammar) (cells output : ℕ) (ps : List ℕ) (α : Form) (s s' : Course) (e : Result ⊤ Obstacle) : Type 0 where
  pub before : List ℕ
  pub rest : List ℕ
  pub tokens : List ℕ
  pub stack : Form
  pub passes : Passes g α before tokens stack
  pub lacks : Lacks g cells output s' e rest stack
  pub list : ps ≡ before ++ rest
  pub used : s'.used ≡ s.used + length before
  pub written : s'.written ≡ s.written ++ tokens

-- the endings for want of room
pub data WantsRoom : Result ⊤ Obstacle → Type 0 where
  wants_stack : WantsRoom (Err FullStack)
  wants_output : WantsRoom (Err FullOutput)

module _ {g : Grammar} {cells output : ℕ} where
  at_once : {ps : List ℕ} {α : Form} {s : Course} {e : Result ⊤ Obstacle}
      → Lacks g cells output s e ps α
      → Stops g cells output ps α s s e
  at_once {ps} {α} {s} l =
      record {
        before = [];
        rest = ps;
        tokens = [];
        stack = α;
        passes = stay;
        lacks = l;
        list = refl;
        used = omega arith;
        written = sym (append-nil s.written);
      }

  stops : {ps : List ℕ} {α : Form} {s s' : Course} {e : Result ⊤ Obstacle}
      → Expands (is_of g) (right_of g) cells output ps α s e s'
      → WantsRoom e
      → length s.written ≤ output
      → Stops g cells output ps α s s' e
  unfolding wrote applied
  stops finished w h = elim w [ ]
  stops left_over w h = elim w [ ]
  stops too_short w h = elim w [ ]
  stops (misfit f) w h = elim w [ ]
  stops (no_output full) w h = at_once (lacks_output (omega arith))
  stops (no_stack f short) w h = at_once (lacks_stack short)
  stops (write {t = t} {s = s} more r) w h =
      let longer : length (s.written ++ (t ∷ [])) ≡ suc (length s.written) = length-append s.written (t ∷ []) ∙ omega arith in
      let k = stops r w (omega (arith, longer)) in
      record {
        before = k.before;
        rest = k.rest;
        tokens = t ∷ k.tokens;
        stack = k.stack;
        passes = beginning.write k.passes;
        lacks = k.lacks;
        list = k.list;
        used = k.used;
        written = k.written ∙ append_assoc s.written (t ∷ []) k.tokens;
      }
  stops (apply {p = p} {A = A} f fits r) w h =
      let k = stops r w h in
      record {
        before = p ∷ k.before;
        rest = k.rest;
        tokens = k.tokens;
        stack = k.stack;
        passes = use_rule (fits_rule p A f) k.passes;
        lacks = k.lacks;
        list = ap (λ x. p ∷ x) k.list;
        used = omega (arith, k.used);
        written = k.written;
      }

  -- from the start symbol it stands midway in its list
  midway : {ps : List ℕ} {s : Course} {e : Result ⊤ Obstacle} (k : Stops g cells output ps (Nonterminal g.start ∷ []) opened s e)
      → Midway g ps s k.rest k.stack
  unfolding opened
  midway k =
      record {
        before = k.before;
        list = k.list;
        used = omega (arith, k.used);
        form = rw k.written (passes_steps_behind [] k.passes);
      }

-- an expansion that stops for room stands midway in its list, with what it lacks
pub expand_stops : (g : Grammar) (cells output : ℕ) (ps : List ℕ)
    → WantsRoom (expansion g cells output ps).ending
    → (rest : List ℕ) × ((α : Form)
    × Midway g ps (expansion g cells output ps).progress rest α
    × Lacks g cells output (expansion g cells output ps).progress (expansion g cells output ps).ending rest α)
unfolding opened
expand_stops g cells output ps w =
    let k : Stops g cells output ps (Nonterminal g.start ∷ []) opened (expansion g cells output ps).progress (expansion g cells output ps).ending =
    stops (traced (is_of g) (right_of g) cells output ps (Nonterminal g.start ∷ []) opened) w (omega arith) in
    (k.rest, (k.stack, midway k, k.lacks))
