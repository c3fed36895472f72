-- From what the functions find to the outcomes that they promise: the sets, a lookahead, and all that is worked out of a book.
use mathlib.Core.Path.{◌≡◌, refl, ap}
use mathlib.Core.List.{List}
use Prim.Native.Nat.{ℕ, ◌≤◌, ◌<◌}
use native.Mathlib.Omega.{arith}
use lib.ListN.{length, take, get_or}
use Rattle.std.specs.Prelude.{⊤, Result, Ok, Err}
use Rattle.grammar.specs.Grammar.{Grammar, Member}
use Rattle.sets.specs.Calls.{set_at}
use Rattle.answers.specs.declared.Answer.{Answer}
use Rattle.answers.specs.Answers.{done}
use Rattle.answers.specs.Refusals.{follow_room}
use Rattle.answers.specs.Checks.{because, first_stops, next_stops, goes, Checked, RoomTested}
use Rattle.answers.specs.Buffers.{over, written}
use Rattle.answers.proofs.Promise.{Unique, tested_unique, checked_then, checked_unique, checked_first, written_all}
use Rattle.book.specs.declared.Index.{Index}
use Rattle.reader.specs.Book.{Limits}
use Rattle.book.specs.Judging.{Indexes}
use Rattle.reader.specs.Fields.{left_at, right_at}
use Rattle.first.specs.declared.forms.Trail.{Trail}
use Rattle.first.specs.Numbers.{FamilyOf}
use Rattle.first.specs.Trail.{Trailed}
use Rattle.first.specs.Calls.{FirstServed}
use Rattle.first.proofs.Promise.{family_at, family_taken, left_is, right_is, rule_at, given_served, given_limits, given_lists}
use Rattle.first.proofs.Promise.{vanishing_is}
use Rattle.follow.specs.Walks.{FollowFound, AheadFilled, SetsServed}
use Rattle.follow.specs.Checks.{SetsLacking, SetsRoomed, Unnumbered}
use Rattle.follow.specs.Calls.{SetsRoom, no_first, no_follow, SetsFit, SetsOutcome, LookaheadRefused, LookaheadTold}
use Rattle.follow.specs.Calls as calls
use Rattle.follow.specs.WorkedOut.{AllServed}
use Rattle.follow.proofs.Closed.{lookahead_is}
use Rattle.follow.proofs.Lookaheads.{ahead_found}

-- two checks of room are one
pub both_tested : (first follow N : ℕ) (r : Result ⊤ Answer)
    → N ≤ first
    → RoomTested follow N follow_room r
    → SetsRoomed first follow N r
both_tested first follow N r h room = checked_first (checked_then (goes refl h) (goes refl room))

-- the check of room for the sets has one answer
lacking_unique : (first follow N : ℕ) → Unique (SetsLacking first follow N)
lacking_unique first follow N x y (first_stops (because l)) (first_stops (because m)) = refl
lacking_unique first follow N x y (first_stops (because l)) (next_stops h (because m)) = absurd (omega arith)
lacking_unique first follow N x y (next_stops h (because l)) (first_stops (because m)) = absurd (omega arith)
lacking_unique first follow N x y (next_stops h (because l)) (next_stops i (because m)) = refl

lacking_not_fit : (first follow N : ℕ) (a : Answer) → SetsLacking first follow N a → ¬ ((N ≤ first) × (N ≤ follow))
lacking_not_fit first follow N a (first_stops (because l)) (h, i) = omega arith
lacking_not_fit first follow N a (next_stops g (because l)) (h, i) = omega arith

pub sets_roomed_unique : (first follow N : ℕ) → Unique (SetsRoomed first follow N)
sets_roomed_unique first follow N = tested_unique (lacking_unique first follow N) (lacking_not_fit first follow N)

-- and after another check
pub sets_roomed_after_unique : {before : Result ⊤ Answer} (first follow N : ℕ)
    → Unique (Checked before (SetsLacking first follow N) ((N ≤ first) × (N ≤ follow)))
sets_roomed_after_unique first follow N = checked_unique (lacking_unique first follow N) (lacking_not_fit first follow N)

module _ {book : List ℕ} {index : Index} (first follow : List ℕ) (given : Indexes book index) where
  pub given_lacking : {a : Answer}
      → SetsLacking (length first) (length follow) index.outline.nonterminals a
      → SetsRoom given.grammar first follow a
  given_lacking (first_stops (because l)) = rw (given_served given).nonterminals (no_first (rw (given_served given).nonterminals at l))
  given_lacking (next_stops h (because l)) = rw (given_served given).nonterminals (no_follow (rw (given_served given).nonterminals at h) (rw (given_served given).nonterminals at l))

  pub given_fit : (index.outline.nonterminals ≤ length first) × (index.outline.nonterminals ≤ length follow) → SetsFit given.grammar first follow
  given_fit (h, l) = record { first_fits = rw (given_served given).nonterminals at h; follow_fits = rw (given_served given).nonterminals at l }

-- with room for the sets of a family, all of them are written
pub family_written : {g : Grammar}
    → Limits g
    → {P : ℕ → Member → Type 0} {cells : List ℕ}
    → FamilyOf g P cells
    → (buffer : List ℕ)
    → g.nonterminals ≤ length buffer
    → written (take g.nonterminals cells) buffer ≡ over (take g.nonterminals cells) buffer
family_written {g} limits {cells = cells} f buffer room = written_all (take g.nonterminals cells) buffer (omega (arith, (family_taken limits f).size))

-- FIRST that is worked out, and with it FOLLOW, are both families
pub found_sets : {book : List ℕ} {index : Index} {fs ys : List ℕ}
    → FirstServed book fs index
    → FollowFound book index.places index.outline.productions index.outline.start fs ys
    → SetsServed book fs ys index
found_sets worked follow =
    let given = worked.given in
    record {
      given = given;
      first = worked.family;
      follow = follow.found given.grammar (given_lists given) (given_served given).start (family_at worked.family);
    }

module _ {book : List ℕ} {index : Index} {firsts follows : List ℕ} (found : SetsServed book firsts follows index) where
  abbrev given : Indexes book index
  given = found.given

  module _ (first follow : List ℕ) where
    pub sets_no_room : {a : Answer}
        → SetsLacking (length first) (length follow) index.outline.nonterminals a
        → SetsOutcome book first follow a first follow
    sets_no_room lacking = calls.no_room given.serves (given_lacking first follow given lacking)

    -- the first N cells of each family are written
    pub sets_served : {first' follow' : List ℕ}
        → (index.outline.nonterminals ≤ length first) × (index.outline.nonterminals ≤ length follow)
        → first' ≡ written (take index.outline.nonterminals firsts) first
        → follow' ≡ written (take index.outline.nonterminals follows) follow
        → SetsOutcome book first follow (done 0) first' follow'
    sets_served good p q =
        let fit = given_fit first follow given good in
        let limits = given_limits given in
        rw (p, q, (given_served given).nonterminals, family_written limits found.first first fit.first_fits, family_written limits found.follow follow fit.follow_fits)
        (calls.served given.serves fit (family_taken limits found.first) (family_taken limits found.follow))

  -- and with them the lookaheads
  pub found_worked_out : {ahead : List ℕ}
      → AheadFilled book index.places firsts follows index.outline.productions ahead
      → AllServed book firsts follows ahead index
  found_worked_out filled =
      record {
        given = given;
        firsts = found.first;
        follows = found.follow;
        looks = ahead_found (given_lists given) found.first found.follow filled;
      }

  pub lookahead_refused : {production : ℕ} {a : Answer} → Unnumbered production index.outline.productions a → LookaheadRefused book production a
  lookahead_refused (because l) = calls.no_production given.serves (rw (given_served given).productions at l)

  pub lookahead_served : {production : ℕ} {looked : Trail}
      → production < index.outline.productions
      → Trailed firsts (set_at follows (left_at book (get_or index.places production 0))) (right_at book (get_or index.places production 0)) looked
      → LookaheadTold book production looked
  lookahead_served {production} below t =
      let lists = given_lists given in
      let (A, α, rule) = rule_at lists production below in
      let trailed = rw (left_is lists rule, right_is lists rule) at t in
      let limits = given_limits given in
      record {
        grammar = given.grammar;
        left = A;
        right = α;
        serves = given.serves;
        rule = rule;
        told =
            record {
              holds = rw trailed.holds (lookahead_is limits (family_at found.first) (family_at found.follow) rule);
              leading = rw trailed.leading (vanishing_is limits (family_at found.first) (limits.well_formed.right_known rule));
            };
      }
