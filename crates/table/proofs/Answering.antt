-- From what the functions find to the outcomes that they promise: the checks on the buffers, the claims laid, and what is written.
use mathlib.Core.Path.{◌≡◌, ◌∙◌, subst}
use mathlib.Core.List.{List}
use Prim.Native.Nat.{ℕ, ◌+◌, ◌*◌, ◌^◌, ◌≤◌, ◌<◌}
use native.Mathlib.Nat.{mul-le-mul, mul-le-mul_left, mul-le-mul_right}
use native.Mathlib.Omega.{arith}
use lib.ListN.{length, take}
use Rattle.std.specs.Prelude.{⊤, Result, MatchResult}
use Rattle.grammar.specs.Grammar.{Grammar}
use Rattle.answers.specs.declared.Answer.{Answer}
use Rattle.answers.specs.Answers.{done}
use Rattle.answers.specs.Refusals as refusals
use Rattle.answers.specs.Buffers.{written}
use Rattle.answers.specs.Checks.{because, Lacking}
use Rattle.book.specs.declared.Index.{Index}
use Rattle.book.specs.Judging.{Serves}
use Rattle.book.proofs.Promise.{serves_unique}
use Rattle.book.specs.Judging.{Indexes}
use Rattle.first.proofs.Promise.{family_taken, left_is, rule_at, given_served, given_limits, given_lists, given_count}
use Rattle.follow.specs.Checks.{SetsLacking}
use Rattle.follow.specs.Calls.{SetsFit}
use Rattle.follow.specs.WorkedOut.{AllServed}
use Rattle.follow.proofs.Promise.{given_lacking, given_fit, family_written}
use Rattle.table.specs.Table.{size}
use Rattle.table.specs.Claims.{left_of, book_claims, Laid, Rowed, Claimable, Tabulated, disputed}
use Rattle.table.specs.Claims as claims
use Rattle.table.specs.Vacancy.{Vacancy}
use Rattle.table.specs.Filling.{Enterable, Entered, clash, entered}
use Rattle.table.specs.Calls.{BuildOutcome}
use Rattle.table.specs.Calls as calls
use Rattle.table.proofs.Claimed.{contest_conflict, ledger_table}
use Rattle.table.proofs.Vacant.{taken_sized, taken_vacant}

module _ {book : List ℕ} {index : Index} (given : Indexes book index) where
  -- the number of cells
  pub given_size : index.outline.nonterminals * (index.outline.tokens + 1) ≡ size given.grammar
  given_size = rw ((given_served given).nonterminals, (given_served given).tokens)

  -- no table is larger than 64 rows of 63 columns
  pub given_most : index.outline.nonterminals * (index.outline.tokens + 1) ≤ 4032
  given_most =
      let limits = given_limits given in
      rw given_size
      (mul-le-mul {n₁ = given.grammar.nonterminals} {m₁ = given.grammar.tokens + 1} {n₂ = 64} {m₂ = 63}
      limits.nonterminals_fit (omega (arith, limits.tokens_fit)))

-- the number of cells fits, whatever the two bytes are
pub cells_fit : (n t : ℕ) → n < 256 → t < 256 → n * (t + 1) < 2 ^ 64
cells_fit n t hn ht =
    let rows : n * (t + 1) ≤ n * 256 = mul-le-mul_left n (omega arith) in
    omega arith

-- among vacant cells that are enough, the first so many are vacant
pub taken_claimable : {book places : List ℕ} {count tokens n most : ℕ} {cells : List ℕ}
    → n ≤ most
    → Vacancy most cells
    → Rowed book places count tokens n
    → Claimable book places count tokens (take n cells)
taken_claimable fits vacancy rowed =
    let sized = taken_sized fits vacancy in
    record {
      rowed = rw sized rowed;
      blank = λ i h. (taken_vacant fits vacancy).blank i (omega (arith, sized));
    }

-- a contest is the first conflict; cells without one are the table
module _ {book : List ℕ} {index : Index} {ahead table : List ℕ} (x : Enterable book index ahead table) where
  -- each production has its row among the cells, and the table's buffer has room for them
  pub enter_ready : (index.outline.nonterminals * (index.outline.tokens + 1) ≤ length table)
      × Rowed book index.places index.outline.productions index.outline.tokens (index.outline.nonterminals * (index.outline.tokens + 1))
  enter_ready = (rw (given_size x.given) x.room, record { numbered = given_count x.given; rows = rows })
    where
      rows : (p : ℕ)
          → p < index.outline.productions
          → (left_of book index.places p + 1) * (index.outline.tokens + 1) ≤ index.outline.nonterminals * (index.outline.tokens + 1)
      rows p h =
          let given = x.given in
          let lists = given_lists given in
          let (A, α, rule) = rule_at lists p h in
          let known = (given_limits given).well_formed.left_known rule in
          let below : A + 1 ≤ index.outline.nonterminals = omega (arith, (given_served given).nonterminals, known) in
          rw (left_is lists rule) (mul-le-mul_right (index.outline.tokens + 1) below)

  pub enter_tabulated : {r : Result ⊤ Answer} {table' : List ℕ}
      → Tabulated (Laid (book_claims book index.places ahead index.outline.tokens) index.outline.productions 0)
      (index.outline.nonterminals * (index.outline.tokens + 1)) table r table'
      → (g : Grammar)
      → Serves book g
      → Entered g table r table'
  enter_tabulated {r} {table'} drawn g serves =
      subst (λ (h : Grammar). Entered h table r table') (serves_unique x.given.serves serves) (go drawn)
    where
      same : index.outline.tokens ≡ x.given.grammar.tokens
      same = (given_served x.given).tokens

      go : {b : Result ⊤ Answer} {after : List ℕ}
          → Tabulated (Laid (book_claims book index.places ahead index.outline.tokens) index.outline.productions 0)
          (index.outline.nonterminals * (index.outline.tokens + 1)) table b after
          → Entered x.given.grammar table b after
      go (disputed filled ledger) =
          clash (contest_conflict (given_lists x.given) same x.looks ledger (filled ∙ given_size x.given))
      go (claims.written filled ledger) =
          entered (ledger_table (given_lists x.given) same x.looks ledger (filled ∙ given_size x.given))

-- the checks on the buffers, the sets' and then the table's; and all that is written
module _ {book : List ℕ} {index : Index} {begins ends ahead : List ℕ} (worked : AllServed book begins ends ahead index)
    (first follow table : List ℕ) where
  abbrev given : Indexes book index
  given = worked.given

  pub build_no_sets : {a : Answer}
      → SetsLacking (length first) (length follow) index.outline.nonterminals a
      → BuildOutcome book first follow table a first follow table
  build_no_sets lacking = calls.no_room given.serves (given_lacking first follow given lacking)

  module _ (good : (index.outline.nonterminals ≤ length first) × (index.outline.nonterminals ≤ length follow)) where
    fit : SetsFit given.grammar first follow
    fit = given_fit first follow given good

    pub build_no_table : {a : Answer}
        → Lacking (length table) (index.outline.nonterminals * (index.outline.tokens + 1)) refusals.table_room a
        → BuildOutcome book first follow table a first follow table
    build_no_table (because l) = rw (given_size given) (calls.no_table given.serves fit (rw (given_size given) at l))

    module _ (room : index.outline.nonterminals * (index.outline.tokens + 1) ≤ length table) where
      roomy : size given.grammar ≤ length table
      roomy = rw (given_size given) at room

      pub build_enterable : Enterable book index ahead table
      build_enterable = record { given = given; looks = worked.looks; room = roomy }

      -- the first conflict is the answer, and all buffers are kept; or the table is entered, and with it the sets
      pub build_entered : {r : Result ⊤ Answer} {table' : List ℕ} → Entered given.grammar table r table'
          → MatchResult r
          (λ _. (first' follow' : List ℕ)
          → first' ≡ written (take index.outline.nonterminals begins) first
          → follow' ≡ written (take index.outline.nonterminals ends) follow
          → BuildOutcome book first follow table (done 0) first' follow' table')
          (λ a. BuildOutcome book first follow table a first follow table')
      build_entered (clash conflict) = calls.conflict given.serves fit roomy conflict
      build_entered (entered built) = λ first' follow' p q.
          let limits = given_limits given in
          rw (p, q, (given_served given).nonterminals, family_written limits worked.firsts first fit.first_fits, family_written limits worked.follows follow fit.follow_fits)
          (calls.served given.serves fit roomy (family_taken limits worked.firsts) (family_taken limits worked.follows) built)
