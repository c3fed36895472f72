-- FOLLOW is found: every pass keeps its soundness; after a pass over whole right sides all is there that does not come from FOLLOW of
-- their left sides; and where a pass over their tails changes nothing the sets are closed, so exact.
use mathlib.Core.Path.{◌≡◌, refl, sym, ◌∙◌}
use mathlib.Core.Bool.{Bool, true, ◌&&◌, false≢true}
use mathlib.Core.Logic.{◌⊎◌, inl, inr}
use mathlib.Core.List.{List, [], ◌∷◌}
use Prim.Native.Nat.{ℕ, ◌+◌, ◌^◌, ◌≤◌, ◌<◌, ◌-◌}
use native.Mathlib.Decide.{dec_lt}
use native.Mathlib.Omega.{arith}
use lib.ListN.{length, drop, get_or, set, replicate, length-replicate, length-set}
use lib.Seq.{get_or-set_same, get_or-set_other}
use borrow.Author.Count.{below_more}
use Rattle.grammar.specs.declared.Symbol.{Symbol}
use Rattle.grammar.specs.declared.Symbol.TheVariants.{Token, Nonterminal}
use Rattle.grammar.specs.Grammar.{Form, Grammar, Rule, Follow}
use Rattle.grammar.proofs.Join.{Behind, first, later}
use Rattle.grammar.proofs.Rules.{below_rule}
use Rattle.sets.specs.Sets.{width, end_mark, member, Subset, only}
use Rattle.sets.specs.Calls.{set_at, stored, number}
use Rattle.sets.specs.declared.Set.{Set}
use Rattle.sets.proofs.Promise.{member_none, only_fits}
use Rattle.answers.specs.Limits.{most_nonterminals, most_productions}
use Rattle.reader.specs.Book.{Limits}
use Rattle.book.specs.Judging.{AllUseful}
use Rattle.reader.specs.Fields.{left_at, tail_at, symbol_of_byte, length_at}
use Rattle.grammar.proofs.Rules.{below_rule}
use Rattle.reader.proofs.Promise.{form_none, form_turn}
use Rattle.first.specs.Forms.{Lists}
use Rattle.first.specs.Trail.{trail, Inside, FirstSound, FirstAt, Grown}
use Rattle.first.specs.Steps.{Made, passed}
use Rattle.first.proofs.Promise.{only_there, sets_sound, no_member, Ends, ends_none, ends_stored, grown_same, Expands, expands_united}
use Rattle.first.proofs.Promise.{expands_then, united_there, made_then, passed_keeps, passed_expands, passed_fires, passed_nothing}
use Rattle.first.proofs.Promise.{every_symbol_fits, trail_fits, Fits, fits_none, stored_fits, united_at_fits, Refines, Round, round_next, round_last}
use Rattle.first.proofs.Promise.{lists_limits, left_is, tail_is, rule_at}
use Rattle.follow.specs.Families.{FollowFamily}
use Rattle.follow.specs.Walks.{Halts, FollowSound, FollowClosed, spread, walked, follow_step, follow_steps, Walkable, WalkableFrom}
use Rattle.follow.specs.Walks.{TailAt, Tails, FollowFound, PassedOver}
use Rattle.follow.specs.declared.follow.Passed.{Passed}
use Rattle.follow.proofs.Halting.{halts_same, trail_monotone}
use Rattle.follow.proofs.Additions.{behind_below, behind_dropped, behind_tail, follow_begun, follow_addition_sound}
use Rattle.follow.proofs.Closed.{follow_words_exact}

spread_expands : (s : Symbol) (x : ℕ) → Expands (spread s x)
unfolding spread
spread_expands (Token t) x = record { grows = λ cells. grown_same; keeps = λ cells. refl }
spread_expands (Nonterminal A) x = expands_united A (λ cells. x)

spread_fits : (s : Symbol) (x : ℕ) → x < 2 ^ width → (cells : List ℕ) → Fits cells → Fits (spread s x cells)
unfolding spread
spread_fits (Token t) x small cells fits = fits
spread_fits (Nonterminal A) x small cells fits = united_at_fits cells A x fits small

module _ (fs : List ℕ) (k : ℕ) where
  walked_expands : (α : Form) → Expands (walked fs k α)
  unfolding walked
  walked_expands [] = record { grows = λ cells. grown_same; keeps = λ cells. refl }
  walked_expands (s ∷ α) = expands_then (walked_expands α) (spread_expands s (trail fs k α))

  -- one symbol more, and whether the walk so far changed nothing
  pub made_walked : (s : Symbol) (α : Form) {xs ys zs : List ℕ} (a b : Bool)
      → Made (walked fs k α) xs ys a
      → Made (spread s (trail fs k α)) ys zs b
      → Made (walked fs k (s ∷ α)) xs zs (a && b)
  unfolding walked
  made_walked s α a b walk next = made_then (walked_expands α) (spread_expands s (trail fs k α)) a b walk next

  walked_fits : Fits fs → k < 2 ^ width → (α : Form) → (cells : List ℕ) → Fits cells → Fits (walked fs k α cells)
  unfolding walked
  walked_fits firsts small [] cells fits = fits
  walked_fits firsts small (s ∷ α) cells fits =
      spread_fits s (trail fs k α) (trail_fits fs small (every_symbol_fits fs firsts.each α)) (walked fs k α cells) (walked_fits firsts small α cells fits)

  -- a walk over a right side adds what lies behind each occurrence
  walked_fires : {A : ℕ} {v β : Form}
      → Behind A v β
      → (cells : List ℕ)
      → A < length cells
      → Subset (trail fs k v) (get_or (walked fs k β cells) A 0)
  unfolding walked spread
  walked_fires {A} {v} first cells inside = united_there (walked fs k v cells) A (trail fs k v) (omega (arith, (walked_expands v).keeps cells))
  walked_fires {A} (later {s = s} {α = α} b) cells inside = λ j m. ((spread_expands s (trail fs k α)).grows (walked fs k α cells)).keeps A j (walked_fires b cells inside j m)

  -- one that changes nothing has nothing to add
  walked_nothing : {A : ℕ} {v β : Form}
      → Behind A v β
      → (cells : List ℕ)
      → A < length cells
      → walked fs k β cells ≡ cells
      → Subset (trail fs k v) (get_or cells A 0)
  walked_nothing {A} {v} b cells inside same j m = rw same at (walked_fires b cells inside j m)

-- a right side walked from the right to position j: the trailer is the trail of what was gone through, which has added to FOLLOW or
-- changed nothing
pub record Walking (book fs : List ℕ) (place from k : ℕ) (before : List ℕ) (passed : Passed) (after : List ℕ) (j : ℕ) : Type 0 where
  pub beyond : from ≤ j
  pub within : j ≤ length_at book place
  pub sized : length after ≡ length before
  pub trailer : number passed.ahead ≡ trail fs k (tail_at book place j)
  pub so_far : Made (walked fs k (tail_at book place j)) before after passed.settled

module _ {book fs : List ℕ} {place from k : ℕ} {before : List ℕ} where
  pub walking_begun : {ahead : Set} → number ahead ≡ k → from ≤ length_at book place
      → Walking book fs place from k before (record { ahead = ahead; settled = true }) before (length_at book place)
  unfolding trail walked
  walking_begun is below =
      let none : tail_at book place (length_at book place) ≡ [] = form_none book (place + 4) (length_at book place) in
      record { beyond = below; within = omega arith; sized = refl; trailer = rw none is; so_far = rw none (record { made = refl; same = refl }) }

  module _ {passed : Passed} {after : List ℕ} {j : ℕ} (w : Walking book fs place from k before passed after j) where
    pub walking_next : {r : Passed} {after' : List ℕ} → from < j → length after' ≡ length after
        → PassedOver fs (symbol_of_byte (get_or book (place + 4 + (j - 1)) 0)) passed after r after'
        → Walking book fs place from k before r after' (j - 1)
    unfolding trail
    walking_next {r} {after'} above sized over =
        let turn = form_turn book (place + 4) (length_at book place) j (omega arith) w.within in
        record {
          beyond = omega arith;
          within = omega (arith, w.within);
          sized = sized ∙ w.sized;
          trailer = rw (turn, over.ahead, w.trailer);
          so_far = rw (turn, over.settled) (made_walked fs k _ _ passed.settled over.same w.so_far (rw w.trailer at over.added));
        }

    pub walking_over : j ≤ from → k ≡ set_at before (left_at book place) → Made (follow_step book fs place from) before after passed.settled
    unfolding follow_step
    walking_over over is = let there : j ≡ from = omega (arith, w.beyond) in record { made = rw (there, is) at w.so_far.made; same = w.so_far.same }

pub follow_expands : (book places fs from : List ℕ) (p : ℕ) → Expands (follow_steps book places fs from p)
unfolding follow_step
follow_expands book places fs from p =
    record {
      grows = λ cells. (walked_expands fs (set_at cells (left_at book (get_or places p 0))) (tail_at book (get_or places p 0) (get_or from p 0))).grows cells;
      keeps = λ cells. (walked_expands fs (set_at cells (left_at book (get_or places p 0))) (tail_at book (get_or places p 0) (get_or from p 0))).keeps cells;
    }

-- a walk over a right side keeps FOLLOW sound, where it starts inside FOLLOW of the left side
walked_sound : {g : Grammar}
    → Limits g
    → AllUseful g
    → {fs : List ℕ}
    → FirstSound g fs
    → {p B : ℕ} {β : Form}
    → Rule g p B β
    → {k : ℕ}
    → Inside (Follow g B) k
    → (α : Form)
    → ((A : ℕ) (v : Form) → Behind A v α → Behind A v β)
    → {cells : List ℕ}
    → FollowSound g cells
    → FollowSound g (walked fs k α cells)
unfolding walked spread
walked_sound limits useful sound rule inside [] occurs s = s
walked_sound limits useful sound rule inside (Token t ∷ α) occurs s = walked_sound limits useful sound rule inside α (λ A v b. occurs A v (later b)) s
walked_sound limits useful sound rule inside (Nonterminal A ∷ α) occurs s =
    follow_addition_sound limits sound useful (walked_sound limits useful sound rule inside α (λ B v b. occurs B v (later b)) s) rule (occurs A α first) inside

-- and adds to no set past the grammar's
walked_ends : (fs : List ℕ) (k : ℕ) {n : ℕ} (α : Form)
    → ((A : ℕ) (v : Form) → Behind A v α → A < n)
    → {cells : List ℕ}
    → Ends n cells
    → Ends n (walked fs k α cells)
unfolding walked spread
walked_ends fs k [] below ends = ends
walked_ends fs k (Token t ∷ α) below ends = walked_ends fs k α (λ A v b. below A v (later b)) ends
walked_ends fs k (Nonterminal A ∷ α) below ends = ends_stored (below A α first) _ (walked_ends fs k α (λ B v b. below B v (later b)) ends)

-- what lies behind each nonterminal on the right side of production p is there, but for FOLLOW of the left side
pub record Seeds (g : Grammar) (fs : List ℕ) (p : ℕ) (cells : List ℕ) : Type 0 where
  pub seeded : {B : ℕ} {β : Form} → Rule g p B β → {A : ℕ} {v : Form} → Behind A v β → Subset (trail fs 0 v) (get_or cells A 0)

seeds_grow : {g : Grammar} {fs : List ℕ} (p : ℕ) (xs ys : List ℕ) → Grown xs ys → Seeds g fs p xs → Seeds g fs p ys
seeds_grow p xs ys grown seeds = record { seeded = λ rule {A} b k m. grown.keeps A k (seeds.seeded rule b k m) }

-- the records can be walked whole, and from their tails on
module _ {book places : List ℕ} {count : ℕ} (walkable : Walkable book places count) where
  pub whole_walkable : count ≤ most_productions → WalkableFrom book places count (replicate most_productions 0)
  whole_walkable few = record { walkable = walkable; listed = omega (arith, length-replicate {A = ℕ} most_productions 0); inside = λ p h. omega (arith, no_member most_productions p) }

  pub tails_walkable : {fs from : List ℕ} → count ≤ length from → Tails book places count fs from → WalkableFrom book places count from
  tails_walkable few tails = record { walkable = walkable; listed = few; inside = λ p h. (tails.each p h).inside }

-- the position of one record more
pub tails_next : {book places fs tails : List ℕ} {n r : ℕ}
    → n < length tails
    → Tails book places n fs tails
    → TailAt book fs (get_or places n 0) r
    → Tails book places (n + 1) fs (set tails n r)
tails_next {tails = tails} {n = n} {r = r} inside so_far here =
    record {
      each =
          below_more _ n
          (λ p below. rw (get_or-set_other tails n p r 0 (λ same. omega arith)) (so_far.each p below))
          (rw (get_or-set_same tails n r 0 inside) here);
    }

module _ (book places : List ℕ) (count start : ℕ) (fs : List ℕ) where
  -- what a pass over whole right sides establishes, and every pass keeps
  pub record SoFar (g : Grammar) (cells : List ℕ) : Type 0 where
    pub sound : FollowSound g cells
    pub ends : Ends g.nonterminals cells
    pub ended : member end_mark (get_or cells start 0) ≡ true
    pub seeds : (p : ℕ) → p < count → Seeds g fs p cells

  abbrev pub FollowSoFar : List ℕ → Type 0
  FollowSoFar cells = (g : Grammar) → Lists book places count g → start ≡ g.start → FirstAt g fs → SoFar g cells

  module _ (from : List ℕ) where
    abbrev pub follow_pass : List ℕ → List ℕ
    follow_pass = passed (follow_steps book places fs from) count

    follow_step_fits : Fits fs → (p : ℕ) (cells : List ℕ) → Fits cells → Fits (follow_steps book places fs from p cells)
    unfolding follow_step
    follow_step_fits firsts p cells fits =
        let left = left_at book (get_or places p 0) in
        walked_fits fs (set_at cells left) firsts (fits.each left) (tail_at book (get_or places p 0) (get_or from p 0)) cells fits

    follow_step_sound : {g : Grammar}
        → Lists book places count g
        → FirstAt g fs
        → (p : ℕ)
        → p < count
        → (cells : List ℕ)
        → FollowSound g cells
        → FollowSound g (follow_steps book places fs from p cells)
    unfolding follow_step
    follow_step_sound index exact p h cells sound =
        let (B, β, rule) = rule_at index p h in
        let limits = lists_limits index in
        rw (left_is index rule, tail_is index rule (get_or from p 0))
        (walked_sound limits index.serves.useful (sets_sound exact) rule (sound.each B (limits.well_formed.left_known rule)) (drop (get_or from p 0) β) (λ A v b. behind_dropped (get_or from p 0) β b) sound)

    follow_step_ends : {g : Grammar}
        → Lists book places count g
        → (p : ℕ)
        → p < count
        → (cells : List ℕ)
        → Ends g.nonterminals cells
        → Ends g.nonterminals (follow_steps book places fs from p cells)
    unfolding follow_step
    follow_step_ends index p h cells ends =
        let (B, β, rule) = rule_at index p h in
        rw (left_is index rule, tail_is index rule (get_or from p 0))
        (walked_ends fs (set_at cells B) (drop (get_or from p 0) β) (λ A v b. behind_below (behind_dropped (get_or from p 0) β b) ((lists_limits index).well_formed.right_known rule)) ends)

    pub follow_refines : Fits fs → Refines FollowSoFar follow_pass
    follow_refines firsts =
        record {
          expands = passed_expands (follow_expands book places fs from) count;
          fits = passed_keeps Fits count (λ p h. follow_step_fits firsts p);
          keeps = λ cells so_far g index started exact.
              let grown : Grown cells (follow_pass cells) = (passed_expands (follow_expands book places fs from) count).grows cells in
              let s = so_far g index started exact in
              record {
                sound = passed_keeps (FollowSound g) count (follow_step_sound index exact) cells s.sound;
                ends = passed_keeps (Ends g.nonterminals) count (follow_step_ends index) cells s.ends;
                ended = grown.keeps start end_mark s.ended;
                seeds = λ p h. seeds_grow p cells (follow_pass cells) grown (s.seeds p h);
              };
        }

    module _ {g : Grammar} (index : Lists book places count g) where
      limits : Limits g
      limits = lists_limits index

      occurs_inside : {p B : ℕ} {β : Form}
          → Rule g p B β
          → {A : ℕ} {v : Form}
          → Behind A v β
          → (cells : List ℕ)
          → length cells ≡ most_nonterminals
          → A < length cells
      occurs_inside rule b cells sized = omega (arith, behind_below b (limits.well_formed.right_known rule), limits.nonterminals_fit)

      -- a step over a whole right side puts its seeds there
      step_seeds : {p : ℕ}
          → get_or from p 0 ≡ 0
          → (cells : List ℕ)
          → length cells ≡ most_nonterminals
          → Seeds g fs p (follow_steps book places fs from p cells)
      unfolding follow_step
      step_seeds {p} whole cells sized =
          record {
            seeded = λ {B} {β} rule {A} {v} b j m.
                rw (left_is index rule, tail_is index rule (get_or from p 0), whole)
                (walked_fires fs (set_at cells B) b cells (occurs_inside rule b cells sized) j (trail_monotone grown_same 0 (set_at cells B) (λ i none. absurd (false≢true (sym (member_none i) ∙ none))) v j m));
          }

      -- where a pass over the tails changes nothing, the sets are closed
      follow_closed : start ≡ g.start
          → Tails book places count fs from
          → {cells : List ℕ}
          → length cells ≡ most_nonterminals
          → SoFar g cells
          → follow_pass cells ≡ cells
          → FollowClosed g fs cells
      unfolding follow_step
      follow_closed started tails {cells} sized so_far same = record { at_start = rw started at so_far.ended; closed = λ {p} {B} {β} rule {A} {v} b. go p B β rule A v b }
        where
          go : (p B : ℕ) (β : Form)
              → Rule g p B β
              → (A : ℕ) (v : Form)
              → Behind A v β
              → Subset (trail fs (get_or cells B 0) v) (get_or cells A 0)
          go p B β rule A v b = by_place (place (dec_lt 0 n))
            where
              n : ℕ
              n = get_or from p 0

              below : p < count
              below = omega (arith, index.counted, below_rule rule)

              place : Dec (0 < n) → Behind A v (drop n β) ⊎ Halts fs v
              place (yes positive) = behind_tail n (rw (tail_is index rule n) at ((tails.each p below).halts positive)) b
              place (no none) = let whole : n ≡ 0 = omega arith in rw whole (inl b)

              unchanged : follow_steps book places fs from p cells ≡ cells
              unchanged = passed_nothing (follow_expands book places fs from) count cells same p below

              by_place : Behind A v (drop n β) ⊎ Halts fs v → Subset (trail fs (get_or cells B 0) v) (get_or cells A 0)
              by_place (inl b') = walked_nothing fs (get_or cells B 0) b' cells (occurs_inside rule b cells sized) (rw (left_is index rule, tail_is index rule n) at unchanged)
              by_place (inr h) = rw (halts_same h (get_or cells B 0) 0) ((so_far.seeds p below).seeded rule b)

  module _ (firsts : Fits fs) where
    -- from the end mark behind the start symbol, a pass over whole right sides
    pub follow_begun_round : (none : List ℕ)
        → ((p : ℕ) → get_or none p 0 ≡ 0)
        → {cells after : List ℕ}
        → cells ≡ stored (replicate most_nonterminals 0) start (only end_mark)
        → after ≡ follow_pass none cells
        → Round FollowSoFar after
    follow_begun_round none whole {cells} {after} begun once = rw once (record { sized = (passed_expands (follow_expands book places fs none) count).keeps cells ∙ sized; fits = passed_keeps Fits count (λ p h. follow_step_fits none firsts p) cells fits; so_far = so_far })
      where
        sized : length cells ≡ most_nonterminals
        sized = rw begun (length-set (replicate most_nonterminals 0) start (only end_mark))

        fits : Fits cells
        fits = rw begun (stored_fits (replicate most_nonterminals 0) start (only end_mark) (fits_none most_nonterminals) (only_fits width end_mark (omega arith)))

        ended : {g : Grammar} → Lists book places count g → start ≡ g.start → member end_mark (get_or cells start 0) ≡ true
        ended index started =
            let inside : start < most_nonterminals = omega (arith, started, (lists_limits index).well_formed.start_known, (lists_limits index).nonterminals_fit) in
            let there : get_or cells start 0 ≡ only end_mark = rw begun (get_or-set_same (replicate most_nonterminals 0) start (only end_mark) 0 inside) in
            rw there (only_there end_mark)

        begun_ends : {g : Grammar} → Lists book places count g → start ≡ g.start → Ends g.nonterminals cells
        begun_ends {g} index started =
            rw (begun, started) (ends_stored (lists_limits index).well_formed.start_known (only end_mark) (ends_none g.nonterminals most_nonterminals))

        so_far : FollowSoFar (follow_pass none cells)
        so_far g index started exact =
            record {
              sound = passed_keeps (FollowSound g) count (follow_step_sound none index exact) cells (rw (begun, started) (follow_begun {g = g} most_nonterminals));
              ends = passed_keeps (Ends g.nonterminals) count (follow_step_ends none index) cells (begun_ends index started);
              ended = ((passed_expands (follow_expands book places fs none) count).grows cells).keeps start end_mark (ended index started);
              seeds = passed_fires (follow_expands book places fs none) seeds_grow count cells (λ p h xs same. step_seeds none index (whole p) xs (same ∙ sized));
            }

  -- where a pass changes nothing, the sets are FOLLOW
  pub follow_found : {from cells : List ℕ}
      → Tails book places count fs from
      → Round FollowSoFar cells
      → follow_pass from cells ≡ cells
      → FollowFound book places count start fs cells
  follow_found {from} {cells} tails round same = record { sized = round.sized; found = found }
    where
      found : (g : Grammar) → Lists book places count g → start ≡ g.start → FirstAt g fs → FollowFamily g cells
      found g index started exact_first =
          let s = round.so_far g index started exact_first in
          let exact = follow_words_exact (lists_limits index) exact_first (λ A a. round.fits.each A) s.sound (follow_closed from index started tails round.sized s same) in
          record { sized = round.sized; each = exact.each; beyond = s.ends.beyond }

  -- so they are after a pass that changed nothing
  pub follow_settled : Fits fs
      → {from before after : List ℕ} {r : Bool}
      → Tails book places count fs from
      → Round FollowSoFar before
      → Made (follow_pass from) before after r
      → r ≡ true
      → FollowFound book places count start fs after
  follow_settled firsts {from} tails round made told =
      follow_found tails (round_next (follow_refines from firsts) round made) (round_last made told)
