-- Any two outcomes that the promise of building allows of the same inputs are equal, the answer and every buffer.
use mathlib.Core.Path.{◌≡◌, refl, sym, ◌∙◌, subst}
use mathlib.Core.Logic.{◌⊎◌, inl, inr}
use mathlib.Core.List.{List}
use Prim.Native.Nat.{ℕ, ◌+◌, ◌*◌, ◌≤◌, ◌<◌}
use native.Mathlib.Omega.{arith}
use lib.ListN.{length}
use Rattle.grammar.specs.Grammar.{Grammar}
use Rattle.answers.specs.declared.Answer.{Answer}
use Rattle.answers.specs.Answers.{done, refusal}
use Rattle.answers.specs.Buffers.{over}
use Rattle.answers.proofs.Promise.{Unique, either_unique}
use Rattle.book.specs.Judging.{Serves}
use Rattle.book.proofs.Promise.{serves_unique, refuses_not_serves}
use Rattle.first.specs.Numbers.{FirstSets}
use Rattle.follow.specs.Families.{FollowSets}
use Rattle.table.specs.Table.{size, TableOf, FirstConflict}
use Rattle.follow.specs.Calls.{SetsFit}
use Rattle.table.specs.Calls.{BuildOutcome, BuildResult}
use Rattle.table.specs.Calls as calls
use Rattle.first.proofs.Promise.{sets_unique, OfBook, of_refusal, of_grammar, of_book_unique}
use Rattle.follow.proofs.Promise.{room_not_fit, NoRoom, no_room_unique, kept_unique}
use Rattle.table.proofs.Unique.{table_unique, conflict_no_table, first_conflict_unique}

module _ (book first follow table : List ℕ) where
  abbrev pub build_kept : Answer → BuildResult
  build_kept a = (a, first, follow, table)

  pub record NoTable (g : Grammar) (x : BuildResult) : Type 0 where
    pub fit : SetsFit g first follow
    pub short : length table < size g
    pub is : x ≡ build_kept (refusal 7 (size g) 6)

  pub record Conflicted (g : Grammar) (x : BuildResult) : Type 0 where
    pub fit : SetsFit g first follow
    pub room : size g ≤ length table
    pub cell : ℕ
    pub lowest : ℕ
    pub next : ℕ
    pub conflict : FirstConflict g cell lowest next
    pub is : x ≡ build_kept (refusal 8 cell (lowest * 256 + next))

  pub record Built (g : Grammar) (x : BuildResult) : Type 0 where
    pub fit : SetsFit g first follow
    pub room : size g ≤ length table
    pub xs : List ℕ
    pub ys : List ℕ
    pub cells : List ℕ
    pub firsts : FirstSets g xs
    pub follows : FollowSets g ys
    pub built : TableOf g cells
    pub is : x ≡ (done 0, over xs first, over ys follow, over cells table)

  conflicted_unique : (g : Grammar) → Unique (Conflicted g)
  conflicted_unique g x y a b =
      let (cell, lowest, next) = first_conflict_unique a.conflict b.conflict in
      a.is ∙ (λ i. build_kept (refusal 8 (cell i) (lowest i * 256 + next i))) ∙ sym b.is

  built_unique : (g : Grammar) → Unique (Built g)
  built_unique g x y a b =
      let firsts : a.xs ≡ b.xs = sets_unique a.xs b.xs a.firsts b.firsts in
      let follows : a.ys ≡ b.ys = sets_unique a.ys b.ys a.follows b.follows in
      let cells : a.cells ≡ b.cells = table_unique a.cells b.cells a.built b.built in
      a.is ∙ (λ i. (done 0, over (firsts i) first, over (follows i) follow, over (cells i) table)) ∙ sym b.is

  abbrev pub WithTable : Grammar → BuildResult → Type 0
  WithTable g x = Conflicted g x ⊎ Built g x

  abbrev pub WithSets : Grammar → BuildResult → Type 0
  WithSets g x = NoTable g x ⊎ WithTable g x

  fit_of : {g : Grammar} {x : BuildResult} → WithSets g x → SetsFit g first follow
  fit_of (inl n) = n.fit
  fit_of (inr (inl c)) = c.fit
  fit_of (inr (inr b)) = b.fit

  table_room_lem : {g : Grammar} {x : BuildResult} → WithTable g x → size g ≤ length table
  table_room_lem (inl c) = c.room
  table_room_lem (inr b) = b.room

  with_sets_unique : (g : Grammar) → Unique (WithSets g)
  with_sets_unique g =
      either_unique (λ x y a b. a.is ∙ sym b.is)
      (either_unique (conflicted_unique g) (built_unique g) (λ x y c b. conflict_no_table c.conflict b.built))
      (λ x y n t. omega (arith, n.short, table_room_lem t))

  build_of_book : {a : Answer} {f w t : List ℕ} → BuildOutcome book first follow table a f w t
      → OfBook book (λ b x. x ≡ build_kept b) (λ g x. NoRoom first follow build_kept g x ⊎ WithSets g x) (a, f, w, t)
  build_of_book (calls.refused r) = of_refusal r refl
  build_of_book (calls.no_room {a = a} s r) = of_grammar s (inl (record { answer = a; room = r; is = refl }))
  build_of_book (calls.no_table s fit l) = of_grammar s (inr (inl (record { fit = fit; short = l; is = refl })))
  build_of_book (calls.conflict {i = i} {p = p} {q = q} s fit l c) =
      of_grammar s (inr (inr (inl (record { fit = fit; room = l; cell = i; lowest = p; next = q; conflict = c; is = refl }))))
  build_of_book (calls.served {xs = xs} {ys = ys} {cells = cells} s fit l h k t) =
      of_grammar s (inr (inr (inr (record { fit = fit; room = l; xs = xs; ys = ys; cells = cells; firsts = h; follows = k; built = t; is = refl }))))

  -- with room for all, the outcome is a conflict or a table
  pub build_with_room : {g : Grammar} {a : Answer} {f w t : List ℕ}
      → Serves book g
      → SetsFit g first follow
      → size g ≤ length table
      → BuildOutcome book first follow table a f w t
      → WithTable g (a, f, w, t)
  build_with_room {g} {a} {f} {w} {t} s fit room o = of (build_of_book o)
    where
      at_grammar : NoRoom first follow build_kept g (a, f, w, t) ⊎ WithSets g (a, f, w, t) → WithTable g (a, f, w, t)
      at_grammar (inl n) = absurd (room_not_fit n.room fit)
      at_grammar (inr (inl n)) = absurd (omega (arith, n.short))
      at_grammar (inr (inr x)) = x

      of : OfBook book (λ b x. x ≡ build_kept b) (λ h x. NoRoom first follow build_kept h x ⊎ WithSets h x) (a, f, w, t)
          → WithTable g (a, f, w, t)
      of (of_refusal r e) = absurd (refuses_not_serves r s)
      of (of_grammar h x) = at_grammar (subst (λ (k : Grammar). NoRoom first follow build_kept k (a, f, w, t) ⊎ WithSets k (a, f, w, t)) (serves_unique h s) x)

  pub build_outcome_unique : {a b : Answer} {f w t x y z : List ℕ}
      → BuildOutcome book first follow table a f w t
      → BuildOutcome book first follow table b x y z
      → ◌≡◌ {A = BuildResult} (a, f, w, t) (b, x, y, z)
  build_outcome_unique o p =
      of_book_unique (kept_unique build_kept)
      (λ g. either_unique (no_room_unique first follow build_kept g) (with_sets_unique g) (λ x y r s. room_not_fit r.room (fit_of s)))
      _ _ (build_of_book o) (build_of_book p)
