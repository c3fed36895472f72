-- Any two outcomes that the promises of sets, a lookahead and working out allow of the same inputs are equal, the answer and every buffer.
use mathlib.Core.Path.{◌≡◌, refl, sym, ap, ◌∙◌, subst, subst₂}
use mathlib.Core.Logic.{◌⊎◌, inl, inr}
use mathlib.Core.List.{List}
use Prim.Native.Nat.{ℕ}
use native.Mathlib.Omega.{arith}
use Rattle.std.specs.Prelude.{Result, Ok, Err}
use Rattle.grammar.specs.Grammar.{Grammar, Form, Rule, Lookahead}
use Rattle.grammar.proofs.Leftmost.{rule_same}
use Rattle.answers.specs.declared.Answer.{Answer}
use Rattle.answers.specs.Answers.{done}
use Rattle.answers.specs.Buffers.{over}
use Rattle.answers.proofs.Promise.{Unique, either_unique}
use Rattle.book.specs.declared.Index.{Index}
use Rattle.book.proofs.Promise.{refuses_unique, refuses_not_serves, serves_unique, indexes_unique}
use Rattle.grammar.proofs.Rules.{below_rule}
use Rattle.first.specs.Numbers.{FirstSets, FirstFamily}
use Rattle.first.specs.declared.forms.Trail.{Trail}
use Rattle.first.specs.Calls.{SetFor}
use Rattle.first.proofs.Promise.{sets_unique, family_unique, OfBook, of_refusal, of_grammar, of_book_unique}
use Rattle.first.proofs.Promise.{set_for_unique}
use Rattle.follow.specs.Families.{FollowSets, FollowFamily, Lookaheads}
use Rattle.follow.specs.Calls.{SetsRoom, no_first, no_follow, SetsFit, SetsOutcome, SetsResult}
use Rattle.follow.specs.Calls.{LookaheadRefused, LookaheadTold, LookaheadOutcome}
use Rattle.follow.specs.Calls as calls
use Rattle.follow.specs.WorkedOut.{AllServed, WorkedOut, WorkedOutResult}
use Rattle.follow.proofs.Unique.{lookaheads_unique}

module _ {g : Grammar} {first follow : List ℕ} where
  pub room_not_fit : {a : Answer} → SetsRoom g first follow a → SetsFit g first follow → ⊥
  room_not_fit (no_first l) f = omega (arith, f.first_fits)
  room_not_fit (no_follow h l) f = omega (arith, f.follow_fits)

  pub room_unique : {a b : Answer} → SetsRoom g first follow a → SetsRoom g first follow b → a ≡ b
  room_unique (no_first l) (no_first m) = refl
  room_unique (no_first l) (no_follow h m) = absurd (omega arith)
  room_unique (no_follow h l) (no_first m) = absurd (omega arith)
  room_unique (no_follow h l) (no_follow i m) = refl

module _ (first follow : List ℕ) {X : Type 0} (kept : Answer → X) where
  -- a set buffer is too short, and all buffers are kept
  pub record NoRoom (g : Grammar) (x : X) : Type 0 where
    pub answer : Answer
    pub room : SetsRoom g first follow answer
    pub is : x ≡ kept answer

  pub no_room_unique : (g : Grammar) → Unique (NoRoom g)
  no_room_unique g x y a b = a.is ∙ ap kept (room_unique a.room b.room) ∙ sym b.is

pub kept_unique : {X : Type 0} (kept : Answer → X) (a : Answer) → Unique (λ x. x ≡ kept a)
kept_unique kept a x y e f = e ∙ sym f

module _ (book first follow : List ℕ) where
  abbrev pub sets_kept : Answer → SetsResult
  sets_kept a = (a, first, follow)

  record SetsServed (g : Grammar) (x : SetsResult) : Type 0 where
    fit : SetsFit g first follow
    xs : List ℕ
    ys : List ℕ
    firsts : FirstSets g xs
    follows : FollowSets g ys
    is : x ≡ (done 0, over xs first, over ys follow)

  sets_served_unique : (g : Grammar) → Unique (SetsServed g)
  sets_served_unique g x y a b =
      let firsts : a.xs ≡ b.xs = sets_unique a.xs b.xs a.firsts b.firsts in
      let follows : a.ys ≡ b.ys = sets_unique a.ys b.ys a.follows b.follows in
      a.is ∙ (λ i. (done 0, over (firsts i) first, over (follows i) follow)) ∙ sym b.is

  sets_of_book : {a : Answer} {f w : List ℕ} → SetsOutcome book first follow a f w
      → OfBook book (λ b x. x ≡ sets_kept b) (λ g x. NoRoom first follow sets_kept g x ⊎ SetsServed g x) (a, f, w)
  sets_of_book (calls.refused r) = of_refusal r refl
  sets_of_book (calls.no_room {a = a} s r) = of_grammar s (inl (record { answer = a; room = r; is = refl }))
  sets_of_book (calls.served {xs = xs} {ys = ys} s fit h k) = of_grammar s (inr (record { fit = fit; xs = xs; ys = ys; firsts = h; follows = k; is = refl }))

  pub sets_outcome_unique : {a b : Answer} {f w x y : List ℕ}
      → SetsOutcome book first follow a f w
      → SetsOutcome book first follow b x y
      → ◌≡◌ {A = SetsResult} (a, f, w) (b, x, y)
  sets_outcome_unique o p =
      of_book_unique (kept_unique sets_kept)
      (λ g. either_unique (no_room_unique first follow sets_kept g) (sets_served_unique g) (λ x y r s. room_not_fit r.room s.fit))
      _ _ (sets_of_book o) (sets_of_book p)

-- what is worked out of a book
module _ {book f w a x y z : List ℕ} where
  served_unique : {i j : Index} → AllServed book f w a i → AllServed book x y z j → ◌≡◌ {A = WorkedOutResult} (Ok i, f, w, a) (Ok j, x, y, z)
  served_unique o p =
      let same = serves_unique p.given.serves o.given.serves in
      let indexes = indexes_unique o.given p.given in
      let firsts = family_unique f x o.firsts (subst (λ (g : Grammar). FirstFamily g x) same p.firsts) in
      let follows = family_unique w y o.follows (subst (λ (g : Grammar). FollowFamily g y) same p.follows) in
      let looks = lookaheads_unique a z o.looks (subst (λ (g : Grammar). Lookaheads g z) same p.looks) in
      λ k. (Ok (indexes k), firsts k, follows k, looks k)

pub worked_out_unique : (book : List ℕ) {f w a x y z : List ℕ} (r s : Result Index Answer)
    → WorkedOut book r f w a
    → WorkedOut book s x y z
    → ◌≡◌ {A = WorkedOutResult} (r, f, w, a) (s, x, y, z)
worked_out_unique book (Ok i) (Ok j) o p = served_unique o p
worked_out_unique book (Ok i) (Err b) o p = absurd (refuses_not_serves p.0 o.given.serves)
worked_out_unique book (Err b) (Ok i) o p = absurd (refuses_not_serves o.0 p.given.serves)
worked_out_unique book (Err b) (Err c) o p =
    let answers = refuses_unique o.0 p.0 in
    let firsts = o.1 ∙ sym p.1 in
    let follows = o.2 ∙ sym p.2 in
    let looks = o.3 ∙ sym p.3 in
    λ k. (Err (answers k), firsts k, follows k, looks k)

module _ (book : List ℕ) (production : ℕ) where
  refused_not_told : {a : Answer} {t : Trail} → LookaheadRefused book production a → LookaheadTold book production t → ⊥
  refused_not_told (calls.refused r) told = refuses_not_serves r told.serves
  refused_not_told (calls.no_production s l) told =
      let rule = subst (λ (g : Grammar). Rule g production told.left told.right) (serves_unique told.serves s) told.rule in
      omega (arith, below_rule rule)

  refused_unique : {a b : Answer} → LookaheadRefused book production a → LookaheadRefused book production b → a ≡ b
  refused_unique (calls.refused r) (calls.refused q) = refuses_unique r q
  refused_unique (calls.refused r) (calls.no_production s l) = absurd (refuses_not_serves r s)
  refused_unique (calls.no_production s l) (calls.refused r) = absurd (refuses_not_serves r s)
  refused_unique (calls.no_production s l) (calls.no_production t m) = refl

  told_unique : {t u : Trail} → LookaheadTold book production t → LookaheadTold book production u → t ≡ u
  told_unique {t} {u} x y =
      let same = serves_unique y.serves x.serves in
      let rule = subst (λ (g : Grammar). Rule g production y.left y.right) same y.rule in
      let there = subst (λ (g : Grammar). SetFor (Lookahead g y.left y.right) g y.right u) same y.told in
      let (left, right) = rule_same rule x.rule in
      set_for_unique t u x.told (subst₂ (λ (A : ℕ) (α : Form). SetFor (Lookahead x.grammar A α) x.grammar α u) left right there)

  pub lookahead_outcome_unique : (r s : Result Trail Answer) → LookaheadOutcome book production r → LookaheadOutcome book production s → r ≡ s
  lookahead_outcome_unique (Ok t) (Ok u) o p = ap Ok (told_unique o p)
  lookahead_outcome_unique (Ok t) (Err a) o p = absurd (refused_not_told p o)
  lookahead_outcome_unique (Err a) (Ok t) o p = absurd (refused_not_told o p)
  lookahead_outcome_unique (Err a) (Err b) o p = ap Err (refused_unique o p)
