-- A book has one listing, and listing it allows one outcome.
use Rattle.std.specs.Prelude.{Result}
use mathlib.Core.Path.{◌≡◌, refl, sym, ◌∙◌, ap}
use mathlib.Core.Logic.{◌⊎◌, inl, inr}
use mathlib.Core.List.{List}
use Prim.Native.Nat.{ℕ, ◌+◌, ◌*◌}
use native.Mathlib.Omega.{arith}
use lib.ListN.{length}
use Rattle.grammar.specs.Grammar.{Grammar}
use Rattle.answers.specs.declared.Answer.{Answer}
use Rattle.answers.specs.Answers.{refusal}
use Rattle.answers.specs.Refusals.{conflict}
use Rattle.reader.specs.Book.{Limits}
use Rattle.book.proofs.Promise.{serves_limits}
use Rattle.first.specs.Numbers.{FirstSets}
use Rattle.follow.specs.Families.{FollowSets}
use Rattle.table.specs.Table.{TableOf, FirstConflict}
use Rattle.answers.proofs.Promise.{Unique}
use Rattle.first.proofs.Promise.{sets_unique, OfBook, of_refusal, of_grammar, of_book_unique}
use Rattle.table.proofs.Promise.{table_unique, first_conflict_unique, table_no_conflict, first_is_conflict}
use Rattle.listing.specs.Listing.{refused_line, served_text, Listing, refused, conflicted, served}
use Rattle.listing.specs.Calls.{Listed, listed, no_room}

-- the text is the line of the grammar's first conflict
record ConflictLine (g : Grammar) (text : List ℕ) : Type 0 where
  cell : ℕ
  lowest : ℕ
  next : ℕ
  first : FirstConflict g cell lowest next
  is : text ≡ refused_line (refusal conflict cell (lowest * 256 + next))

-- the text is all lines of the grammar, its sets and its table
record AllLines (g : Grammar) (text : List ℕ) : Type 0 where
  limits : Limits g
  first : List ℕ
  follow : List ℕ
  table : List ℕ
  firsts : FirstSets g first
  follows : FollowSets g follow
  cells : TableOf g table
  is : text ≡ served_text g first follow table

module _ (g : Grammar) where
  conflict_unique : Unique (ConflictLine g)
  conflict_unique one other a b =
      let (cell, lowest, next) = first_conflict_unique a.first b.first in
      a.is ∙ (λ d. refused_line (refusal conflict (cell d) (lowest d * 256 + next d))) ∙ sym b.is

  lines_unique : Unique (AllLines g)
  lines_unique one other a b =
      let firsts : a.first ≡ b.first = sets_unique a.first b.first a.firsts b.firsts in
      let follows : a.follow ≡ b.follow = sets_unique a.follow b.follow a.follows b.follows in
      let cells : a.table ≡ b.table = table_unique a.table b.table a.cells b.cells in
      a.is ∙ (λ d. served_text g (firsts d) (follows d) (cells d)) ∙ sym b.is

  apart : {one other : List ℕ} → ConflictLine g one → AllLines g other → ⊥
  apart a b = table_no_conflict b.limits b.cells (first_is_conflict a.first)

  grammar_unique : Unique (λ text. ConflictLine g text ⊎ AllLines g text)
  grammar_unique one other (inl a) (inl b) = conflict_unique one other a b
  grammar_unique one other (inl a) (inr b) = absurd (apart a b)
  grammar_unique one other (inr a) (inl b) = absurd (apart b a)
  grammar_unique one other (inr a) (inr b) = lines_unique one other a b

refusal_unique : (a : Answer) → Unique (λ text. text ≡ refused_line a)
refusal_unique a one other e f = e ∙ sym f

of_listing : {book text : List ℕ} → Listing book text → OfBook book (λ a text. text ≡ refused_line a) (λ g text. ConflictLine g text ⊎ AllLines g text) text
of_listing (refused r) = of_refusal r refl
of_listing (conflicted {i = i} {p = p} {q = q} s c) = of_grammar s (inl (record { cell = i; lowest = p; next = q; first = c; is = refl }))
of_listing (served {first = xs} {follow = ys} {table = cells} s h k t) =
    of_grammar s (inr (record { limits = serves_limits s; first = xs; follow = ys; table = cells; firsts = h; follows = k; cells = t; is = refl }))

-- a book has one listing
pub listing_unique : {book one other : List ℕ} → Listing book one → Listing book other → one ≡ other
listing_unique {one = one} {other = other} a b = of_book_unique refusal_unique grammar_unique one other (of_listing a) (of_listing b)

-- listing a book into a buffer has one outcome
pub listed_unique : {book before after after' : List ℕ} {r r' : Result ℕ Answer}
    → Listed book before r after
    → Listed book before r' after'
    → (r ≡ r') × (after ≡ after')
listed_unique {before = before} (listed a fits) (listed b fits') = rw (listing_unique a b) (refl, refl)
listed_unique (listed a fits) (no_room b short) = absurd (omega (arith, ap length (listing_unique a b)))
listed_unique (no_room a short) (listed b fits) = absurd (omega (arith, ap length (listing_unique a b)))
listed_unique (no_room a short) (no_room b short') = rw (listing_unique a b) (refl, refl)
