-- The rows say of every string of bytes the lowest pattern that matches it, or none; so they cut a line as the patterns do.
use mathlib.Core.Path.{◌≡◌, sym, ◌∙◌}
use mathlib.Core.Bool.{true}
use mathlib.Core.Logic.{◌↔◌}
use mathlib.Core.List.{List, [], ◌∷◌}
use mathlib.Core.Option.{Option, some}
use Prim.Native.Nat.{ℕ, zero, suc, ◌+◌, ◌≤◌, ◌<◌}
use native.Mathlib.Decide.{dec_lt}
use native.Mathlib.Omega.{arith}
use lib.ListN.{length, take, drop, get_or, get_elem?}
use Rattle.sets.specs.Sets.{member}
use Rattle.answers.specs.Limits.{most_patterns, most_positions, byte_values, most_states}
use Rattle.numbering.specs.Numbering.{IsState, FoundAll}
use Rattle.numbering.proofs.Promise.{inside}
use Rattle.pattern.specs.Pattern.{Expression, Pattern}
use Rattle.pattern.specs.Positions.{positions, Point, end_of, Start, After}
use Rattle.pattern.specs.Text.{Bytes, no_byte, and_byte}
use Rattle.pattern.proofs.Promise.{state_exact, after_end_below}
use Rattle.states.specs.Machine.{token_of, rows_of}
use Rattle.states.proofs.Promise.{rows_token}
use Rattle.pieces.specs.Cut.{Ending}
use Rattle.pieces.specs.Cut.{Piece, Cut}
use Rattle.pieces.specs.Meanings.{Picks, Only, OfParts}
use Rattle.pieces.specs.Rows.{Walk, here, on, Says}
use Rattle.pieces.proofs.Promise.{walk_start, cut_parts, cut_lowest}
use Rattle.cut.specs.Patterns.{point_states}
use Rattle.cut.specs.Promised.{LowestMatch}
use Rattle.cut.proofs.Pointing.{Holds, in_set_end, exactly_holds}
use Rattle.cut.proofs.Tokens.{LowestEnd, token_lowest, token_low}
use Rattle.cut.proofs.Deciding.{start_decided}
use Rattle.cut.proofs.PointSets.{points_some, start_place}
use Rattle.cut.proofs.Walking.{after_some, rows_in_lem, walk_holds, walk_exists}

-- only strings of bytes can be walked
walk_bytes : {cells : List ℕ} {r s : ℕ} {u : List ℕ} → Walk cells r u s → Bytes u
walk_bytes (here row) = no_byte
walk_bytes (on row byte walk) = and_byte byte (walk_bytes walk)

module _ {rs : List Expression} (few : length rs ≤ most_patterns) (fit : positions rs ≤ most_positions)
    {sets : List ℕ} {cells : List (Option ℕ)}
    (f : FoundAll (point_states rs) sets cells)
    (short : length sets ≤ most_states) where
  abbrev rows : List ℕ
  rows = rows_of sets cells

  -- where there is a row, row 0 is the start's
  pub start_row : 0 < length sets → (x : ℕ) × (get_elem? sets 0 ≡ some x) × Holds x (Start rs)
  start_row some_row =
      let (x, starts) = f.found.started some_row in
      let is : IsState (point_states rs) sets 0 x = f.found.first x starts in
      (x, rw is.same is.at, exactly_holds (start_place few fit) starts.exact)

  -- where some point can come first there is a row
  pub row_there : (t : Point) → Start rs t → 0 < length sets
  row_there t s = go (dec_lt 0 (length sets))
    where
      go : Dec (0 < length sets) → 0 < length sets
      go (yes there) = there
      go (no lack) =
          let (x, starts) = points_some (start_decided rs) (start_place few fit) t s in
          absurd (lack (inside sets 0 (f.found.first x starts).at))

  -- the row where the walk of u ends
  record EndsAt (u : List ℕ) : Type 0 where
    row : ℕ
    state : ℕ
    walk : Walk rows 0 u row
    at : get_elem? sets row ≡ some state
    holds : Holds state (After rs u)

  walk_ends : {u : List ℕ} {s : ℕ} → Walk rows 0 u s → EndsAt u
  walk_ends {u} {s} walk =
      let (x, at, holds) = start_row (omega (arith, walk_start walk, rows_in_lem few fit f short)) in
      let (y, there, after) = walk_holds few fit f short walk at holds in
      record { row = s; state = y; walk = walk; at = there; holds = after }

  matched_ends : {j : ℕ} {u : List ℕ} → Bytes u → Pattern rs j u → EndsAt u
  matched_ends {j} {u} bytes m =
      let a : After rs u (end_of j) = (state_exact rs u j).1 m in
      let (t, first) = after_some rs u (end_of j) a in
      let (x, at, holds) = start_row (row_there t first) in
      let (s, walk) = walk_exists few fit f short u bytes (end_of j) a at holds in
      walk_ends walk

  -- a state has the place of a pattern's end exactly if the pattern matches what leads there
  end_matches : {u : List ℕ} (e : EndsAt u) (k : ℕ) → (member (most_positions + k) e.state ≡ true) ↔ Pattern rs k u
  end_matches {u} e k = (
    λ m. (state_exact rs u k).0 (e.holds.sound (end_of k) ((in_set_end e.state k).1 m)),
    λ p. (in_set_end e.state k).0 (e.holds.complete (end_of k) ((state_exact rs u k).1 p)),
  )

  matched_below : {j : ℕ} {u : List ℕ} → Pattern rs j u → j < most_patterns
  matched_below {j} {u} m = omega (arith, after_end_below rs u j ((state_exact rs u j).1 m))

  says_sound : {k : ℕ} {u : List ℕ} → Says rows k u → LowestMatch rs k u
  unfolding walk_ends
  says_sound {k} {u} says =
      let e = walk_ends says.walk in
      let token : k ≡ token_of e.state = says.token ∙ rows_token sets cells e.row e.state f.all e.at in
      let low : LowestEnd e.state k = (token_lowest e.state k says.counts).0 token in
      record {
        matches = (end_matches e k).0 low.there;
        lowest = λ j less m. low.lowest j less ((end_matches e j).1 m);
      }

  says_complete : {k : ℕ} {u : List ℕ} → Bytes u → LowestMatch rs k u → Says rows k u
  says_complete {k} {u} bytes l =
      let e = matched_ends bytes l.matches in
      let below : k < most_patterns = matched_below l.matches in
      let low : LowestEnd e.state k =
      record { there = (end_matches e k).1 l.matches; lowest = λ j less m. l.lowest j less ((end_matches e j).0 m) } in
      record {
        row = e.row;
        walk = e.walk;
        token = (token_lowest e.state k below).1 low ∙ sym (rows_token sets cells e.row e.state f.all e.at);
        counts = below;
      }

  -- walking the rows says of every string of bytes the lowest pattern that matches it
  pub rows_exact : (u : List ℕ) → Bytes u → (k : ℕ) → Says rows k u ↔ LowestMatch rs k u
  rows_exact u bytes k = (says_sound, says_complete bytes)

  -- and where some pattern matches it they say one
  says_some : {j : ℕ} {u : List ℕ} → Bytes u → Pattern rs j u → (k : ℕ) × Says rows k u
  says_some {j} bytes m =
      let e = matched_ends bytes m in
      let low = token_low e.state j (matched_below m) ((end_matches e j).1 m) in (
        token_of e.state,
        record {
          row = e.row;
          walk = e.walk;
          token = sym (rows_token sets cells e.row e.state f.all e.at);
          counts = omega (arith, low, matched_below m);
        },
      )

  rows_pick : Picks (Says rows) (Only Bytes (Pattern rs))
  rows_pick =
      record {
        matches = λ k u says. ((says_sound says).matches, walk_bytes says.walk);
        lowest = λ j k u says less m. (says_sound says).lowest j less m.0;
        some = λ j u m. says_some m.1 m.0;
      }

  -- cutting a line of bytes by the rows is cutting it by the patterns' meaning
  pub cut_exact : {room place : ℕ} {line : List ℕ} {pieces : List Piece} {ending : Ending}
      → OfParts Bytes line
      → Cut (Says rows) room place line pieces ending ↔ Cut (Pattern rs) room place line pieces ending
  cut_exact bytes = (
    λ cut. (cut_parts bytes).1 ((cut_lowest rows_pick).0 cut),
    λ cut. (cut_lowest rows_pick).1 ((cut_parts bytes).0 cut),
  )

-- every part of a line of bytes is one of bytes
pub bytes_of : (line : List ℕ) → ((i : ℕ) → get_or line i 0 < byte_values) → Bytes line
bytes_of [] fits = no_byte
bytes_of (b ∷ line) fits = and_byte (fits 0) (bytes_of line (λ i. fits (suc i)))

bytes_taken : {line : List ℕ} (n : ℕ) → Bytes line → Bytes (take n line)
bytes_taken zero bytes = no_byte
bytes_taken (suc n) no_byte = no_byte
bytes_taken (suc n) (and_byte byte bytes) = and_byte byte (bytes_taken n bytes)

bytes_dropped : {line : List ℕ} (n : ℕ) → Bytes line → Bytes (drop n line)
bytes_dropped zero bytes = bytes
bytes_dropped (suc n) no_byte = no_byte
bytes_dropped (suc n) (and_byte byte bytes) = bytes_dropped n bytes

pub bytes_parts : {line : List ℕ} → Bytes line → OfParts Bytes line
bytes_parts bytes = record { part = λ i n. bytes_taken n (bytes_dropped i bytes) }
