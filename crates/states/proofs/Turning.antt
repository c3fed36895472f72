-- The search of the tables' machine, cell by cell: nothing comes after, a state met before, a new state, or what came after by the
-- byte before; where it begins, and where it ends.
use mathlib.Core.Path.{◌≡◌, refl, sym, ◌∙◌}
use mathlib.Core.Logic.{◌≢◌, ◌↔◌}
use mathlib.Core.Bool.{true, false, false≢true}
use Rattle.std.specs.Prelude.{Some, None, is_some}
use Rattle.std.specs.Prelude as found
use mathlib.Core.List.{List, [], ◌∷◌, ◌++◌}
use mathlib.Core.Option.{Option, some, none, some-injective}
use Prim.Native.Nat.{ℕ, zero, suc, ◌+◌, ◌-◌, ◌*◌, ◌≤◌, ◌<◌}
use native.Mathlib.Numerals.{add-one}
use native.Mathlib.Omega.{arith}
use lib.ListN.{length, get_elem?, length-append}
use Rattle.sets.specs.Sets.{Exactly}
use Rattle.sets.specs.Words.{places}
use Rattle.sets.proofs.Promise.{exactly_unique}
use Rattle.answers.specs.Limits.{point_words, byte_values, most_states}
use Rattle.answers.specs.Lowest.{LowestAt}
use Rattle.numbering.specs.Numbering.{Lawful, IsState, Follows, Found, TooMany}
use Rattle.numbering.proofs.Promise.{element, inside, found_nothing, found_begun, follows_at, turn_nothing, turn_met, turn_new}
use Rattle.moves.specs.Tables.{readers_of, set_of, NextPoint, NextWords}
use Rattle.states.specs.Machine.{TableMove, tables}
use Rattle.states.specs.declared.found.States.{States}
use Rattle.states.specs.declared.tables.Tables.{Tables}
use Rattle.states.specs.Runs.{RunEnd}
use Rattle.states.specs.Sets.{states_of, Kept, Sought, Begun}
use Rattle.states.specs.Searching.{machine_of, found_in, SearchedTo, Searched}
use Rattle.states.proofs.Sets.{states_length, state_at, states_alike}
use Rattle.states.proofs.Bytes.{exactly_repeats}

pub tables_lawful : (readers follow : List ℕ) → Lawful (tables readers follow)
tables_lawful readers follow =
    record {
      reflexive = λ x. refl;
      symmetric = λ x y e. sym e;
      transitive = λ x y z e d. e ∙ d;
      one_start = λ x y s t. s.first ∙ sym t.first;
      one_move = λ b x x' y y' e m m'. exactly_unique y y' m.exact (rw (← e) at m'.exact);
      both_move = λ b x x' y e m. (y, rw e at m);
    }

module _ (given : Tables) (states : States) (i b : ℕ) (short : b < byte_values) (row : i < states.count)
    {cells : List (Option ℕ)}
    (found : Found (machine_of given) (found_in states) cells)
    (turns : length cells ≡ i * byte_values + b) where
  -- what follows in a cell of this row is where the row's state leads
  cell_at : (t c y : ℕ) → t ≡ i * byte_values + c → c < byte_values
      → Follows (machine_of given) (found_in states) t y ↔ TableMove given.readers.now given.follow.now (set_of states.sets i) c y
  cell_at t c y e inside =
      follows_at {m = machine_of given} (found_in states) t i c (set_of states.sets i) y e inside (state_at states.sets states.count i row)

  room : length cells < byte_values * length (found_in states)
  room = omega (arith, states_length states.sets states.count)

  -- what follows in the next cell is what comes after by this byte
  module _ (y : ℕ) (exact : Exactly (places point_words) y (NextPoint given.readers.now given.follow.now (set_of states.sets i) b)) where
    follows : y ≢ 0 → Follows (machine_of given) (found_in states) (length cells) y
    follows full =
        (cell_at (length cells) b y turns short).1 (record { exact = exact; nonempty = full })

    only : (z : ℕ) → Follows (machine_of given) (found_in states) (length cells) z → (z ≡ y) × (z ≢ 0)
    only z f =
        let moved : TableMove given.readers.now given.follow.now (set_of states.sets i) b z =
        (cell_at (length cells) b z turns short).0 f in
        (exactly_unique z y moved.exact exact, moved.nonempty)

    pub turned_nothing : y ≡ 0 → Found (machine_of given) (found_in states) (cells ++ (none ∷ []))
    turned_nothing empty = turn_nothing found room (λ z f. (only z f).1 ((only z f).0 ∙ empty))

    pub turned_met : (j : ℕ) → y ≢ 0 → j < states.count → set_of states.sets j ≡ y
        → Found (machine_of given) (found_in states) (cells ++ (some j ∷ []))
    turned_met j full lower e =
        turn_met found room j y (follows full) (record { state = set_of states.sets j; at = state_at states.sets states.count j lower; same = sym e })

    pub turned_new : y ≢ 0 → ((j : ℕ) → j < states.count → set_of states.sets j ≢ y)
        → Found (machine_of given) (found_in states ++ (y ∷ [])) (cells ++ (some (length (found_in states)) ∷ []))
    turned_new full new = turn_new found room (tables_lawful given.readers.now given.follow.now) y (follows full) none_is
      where
        none_is : (j : ℕ) → IsState (machine_of given) (found_in states) j y → ⊥
        none_is j is =
            let lower : j < states.count = omega (arith, inside (found_in states) j is.at, states_length states.sets states.count) in
            new j lower (some-injective (set_of states.sets j) is.state (sym (state_at states.sets states.count j lower) ∙ is.at) ∙ sym is.same)

  -- by a byte with the readers of the byte before the same comes after
  module _ (above : 0 < b) (repeats : readers_of given.readers.now b ≡ readers_of given.readers.now (b - 1)) where
    earlier : length cells - 1 ≡ i * byte_values + (b - 1)
    earlier = omega arith

    moved_now : (y : ℕ) → Follows (machine_of given) (found_in states) (length cells - 1) y
        → Follows (machine_of given) (found_in states) (length cells) y
    moved_now y f =
        let moved : TableMove given.readers.now given.follow.now (set_of states.sets i) (b - 1) y =
        (cell_at (length cells - 1) (b - 1) y earlier (omega arith)).0 f in
        let exact = exactly_repeats given.readers.now given.follow.now (set_of states.sets i) (b - 1) b (sym repeats) moved.exact in
        (cell_at (length cells) b y turns short).1 (record { exact = exact; nonempty = moved.nonempty })

    moved_before : (y : ℕ) → Follows (machine_of given) (found_in states) (length cells) y
        → Follows (machine_of given) (found_in states) (length cells - 1) y
    moved_before y f =
        let moved : TableMove given.readers.now given.follow.now (set_of states.sets i) b y =
        (cell_at (length cells) b y turns short).0 f in
        let exact = exactly_repeats given.readers.now given.follow.now (set_of states.sets i) b (b - 1) repeats moved.exact in
        (cell_at (length cells - 1) (b - 1) y earlier (omega arith)).1
        (record { exact = exact; nonempty = moved.nonempty })

    pub turned_again : (v : Option ℕ) × Found (machine_of given) (found_in states) (cells ++ (v ∷ []))
    turned_again = go (element cells (length cells - 1) (omega arith))
      where
        go : (v : Option ℕ) × (get_elem? cells (length cells - 1) ≡ some v)
            → (v : Option ℕ) × Found (machine_of given) (found_in states) (cells ++ (v ∷ []))
        go (none, e) = (none, turn_nothing found room (λ y f. found.empty (length cells - 1) e y (moved_before y f)))
        go (some j, e) =
            let (y, follows, is) = found.filled (length cells - 1) j e in
            (some j, turn_met found room j y (moved_now y follows) is)

-- what was sought is there, or is not
module _ (sets : List ℕ) (n y : ℕ) where
  pub sought_some : (r : found.Option ℕ) → Sought sets n y r → is_some r ≡ true → (j : ℕ) × LowestAt (λ (k : ℕ). set_of sets k ≡ y) n j
  sought_some (Some j) answer told = (j, answer)
  sought_some None answer told = absurd (false≢true told)

  pub sought_none : (r : found.Option ℕ) → Sought sets n y r → is_some r ≡ false → (j : ℕ) → j < n → set_of sets j ≢ y
  sought_none (Some j) answer told = absurd (false≢true (sym told))
  sought_none None answer told = answer

-- the search as the code goes on with it
module _ (given : Tables) (states : States) (i b : ℕ) (short : b < byte_values) (row : i < states.count) where
  longer : {sets : List ℕ} (cells : List (Option ℕ)) (v : Option ℕ) (next : States)
      → length cells ≡ i * byte_values + b
      → Found (machine_of given) sets (cells ++ (v ∷ []))
      → sets ≡ found_in next
      → SearchedTo given next (i * byte_values + b + 1)
  longer cells v next turns found e =
      record { cells = cells ++ (v ∷ []); found = rw e at found; turns = omega (arith, length-append cells (v ∷ [])) }

  module _ (s : SearchedTo given states (i * byte_values + b)) where
    pub search_again : (0 < b) × (readers_of given.readers.now b ≡ readers_of given.readers.now (b - 1))
        → SearchedTo given states (i * byte_values + b + 1)
    search_again (above, repeats) =
        let (v, found) = turned_again given states i b short row s.found s.turns above repeats in
        longer s.cells v states s.turns found refl

    module _ {next : List ℕ} (after : NextWords states.sets i given.readers.now b given.follow.now next) where
      -- what comes after is nothing
      pub search_nothing : set_of next 0 ≡ 0 → SearchedTo given states (i * byte_values + b + 1)
      search_nothing empty =
          longer s.cells none states s.turns
          (turned_nothing given states i b short row s.found s.turns (set_of next 0) after.exact empty)
          refl

      module _ (full : set_of next 0 ≢ 0) where
        -- or was met before
        pub search_met : {j : ℕ} → LowestAt (λ (k : ℕ). set_of states.sets k ≡ set_of next 0) states.count j
            → SearchedTo given states (i * byte_values + b + 1)
        search_met {j} met =
            longer s.cells (some j) states s.turns
            (turned_met given states i b short row s.found s.turns (set_of next 0) after.exact j full met.inside met.holds)
            refl

        module _ (new : (j : ℕ) → j < states.count → set_of states.sets j ≢ set_of next 0) where
          -- or it is new
          found_new : Found (machine_of given) (found_in states ++ (set_of next 0 ∷ [])) (s.cells ++ (some (length (found_in states)) ∷ []))
          found_new =
              turned_new given states i b short row s.found s.turns (set_of next 0) after.exact full new

          pub search_new : (later : States) → Kept states.sets states.count next later.sets → later.count ≡ states.count + 1
              → SearchedTo given later (i * byte_values + b + 1)
          unfolding states_of
          search_new later kept one =
              let others : states_of later.sets states.count ≡ found_in states =
              states_alike states.sets later.sets states.count (λ j lower. kept.others j (λ d. omega arith)) in
              let sets : found_in states ++ (set_of next 0 ∷ []) ≡ found_in later =
              rw (one, add-one, others, kept.there) in
              longer s.cells (some (length (found_in states))) later s.turns found_new sets

          -- and with it there are too many
          pub search_past : most_states ≤ states.count → TooMany (machine_of given) most_states
          search_past all =
              record {
                states = found_in states ++ (set_of next 0 ∷ []);
                cells = s.cells ++ (some (length (found_in states)) ∷ []);
                found = found_new;
                more = omega (arith, length-append (found_in states) (set_of next 0 ∷ []), states_length states.sets states.count);
              }

-- and up to the end of a byte's run
module _ (given : Tables) (states : States) (i b e : ℕ) (row : i < states.count) (run : RunEnd given.readers.now b e) where
  run_step : (k : ℕ) → b + 1 + k < e → SearchedTo given states (i * byte_values + (b + 1 + k))
      → SearchedTo given states (i * byte_values + (b + 1 + suc k))
  run_step k inside s =
      let c = b + 1 + k in
      let repeats : readers_of given.readers.now c ≡ readers_of given.readers.now (c - 1) =
      run.same c (omega arith) inside ∙ sym (run.same (c - 1) (omega arith) (omega arith)) in
      let next : SearchedTo given states (i * byte_values + c + 1) =
      search_again given states i c (omega (arith, run.within)) row s (omega arith, repeats) in
      let same : i * byte_values + c + 1 ≡ i * byte_values + (b + 1 + suc k) = omega arith in
      rw same at next

  run_all : (k : ℕ) → b + 1 + k ≤ e → SearchedTo given states (i * byte_values + b + 1)
      → SearchedTo given states (i * byte_values + (b + 1 + k))
  run_all zero inside s =
      let same : i * byte_values + b + 1 ≡ i * byte_values + (b + 1 + 0) = omega arith in
      rw same at s
  run_all (suc k) inside s = run_step k (omega arith) (run_all k (omega arith) s)

  pub search_run : SearchedTo given states (i * byte_values + b + 1) → SearchedTo given states (i * byte_values + e)
  search_run s =
      let all : b + 1 + (e - (b + 1)) ≡ e = omega (arith, run.above) in
      rw all at (run_all (e - (b + 1)) (omega (arith, run.above)) s)

-- where the search begins: nowhere, or with what can come first
begun_found : (readers follow sets : List ℕ) (n : ℕ) → Begun follow sets n → Found (tables readers follow) (states_of sets n) []
unfolding states_of
begun_found readers follow sets zero begun =
    (found_nothing {m = tables readers follow} (λ x starts. starts.nonempty (starts.first ∙ begun.empty refl))).found
begun_found readers follow sets (suc zero) begun =
    let (full, first) = begun.first (omega arith) in
    found_begun (tables_lawful readers follow) (set_of sets 0)
    (record { first = first; nonempty = λ e. full (sym first ∙ e) })
begun_found readers follow sets (suc (suc n)) begun = absurd (omega (arith, begun.few))

pub search_begun : (given : Tables) (states : States) → Begun given.follow.now states.sets states.count → SearchedTo given states 0
search_begun given states begun =
    record {
      cells = [];
      found = begun_found given.readers.now given.follow.now states.sets states.count begun;
      turns = refl;
    }

-- where it ends: all cells of all states
pub search_whole : {given : Tables} {states : States} {t : ℕ} → SearchedTo given states t → t ≡ states.count * byte_values
    → Searched given states
search_whole {states = states} s all =
    record { cells = s.cells; all = record { found = s.found; all = omega (arith, s.turns, states_length states.sets states.count) } }
