-- From what the bytes spell, and the lowest useless nonterminal, to what judging answers.
use mathlib.Core.Path.{◌≡◌, refl, ap, ◌∙◌}
use mathlib.Core.List.{List}
use Rattle.std.specs.Prelude.{Option, Some, None}
use Prim.Native.Nat.{ℕ, min}
use native.Mathlib.Omega.{arith}
use lib.ListN.{length, get_or, replicate}
use Rattle.grammar.specs.Grammar.{Grammar}
use Rattle.answers.specs.Limits.{most_productions}
use Rattle.answers.specs.Answers.{refusal}
use Rattle.answers.specs.Refusals.{useless}
use Rattle.reader.specs.Book.{reads, spells}
use Rattle.reader.specs.Fields.{places_of}
use Rattle.reader.proofs.Promise.{read_limits}
use Rattle.book.specs.Judging.{AllUseful, index_of, Indexes, Refuses, useless_one}
use Rattle.book.specs.Useful.{Surveyed, FirstUseless, TellsUseless, Indexed}
use Rattle.book.proofs.Indexing.{header_tokens, header_nonterminals, header_start, header_productions, places_indexed}
use Rattle.book.proofs.Sides.{sides_surveyed}

module _ (b : List ℕ) where
  -- as many records are surveyed as there are productions
  pub header_counted : {g : Grammar} {P count : ℕ} → spells b ≡ reads g → P ≡ get_or b 5 0 → count ≡ min P most_productions → count ≡ length g.productions
  header_counted read P-is count_is = omega (arith, P-is, count_is, header_productions b read, (read_limits b read).productions_fit)

  -- the header's bytes and the places counted through the book are the fields of the index
  pub header_indexed : {g : Grammar} {places : List ℕ} {P N start : ℕ}
      → spells b ≡ reads g
      → N ≡ get_or b 3 0
      → start ≡ get_or b 4 0
      → P ≡ get_or b 5 0
      → places ≡ places_of b P
      → Indexed b places P N start g
  header_indexed {g} {P = P} read N-is start_is P-is places_are =
      let counted : P ≡ length g.productions = P-is ∙ header_productions b read in
      record {
        read = read;
        placed = places_are ∙ ap (places_of b) counted ∙ places_indexed b read;
        counted = counted;
        numbered = N-is ∙ header_nonterminals b read;
        started = start_is ∙ header_start b read;
      }

  -- the survey gives the index, and with it the lowest useless nonterminal
  pub survey_decides : {g : Grammar} {places names lefts : List ℕ} {P N start count : ℕ} {r : Option ℕ}
      → spells b ≡ reads g
      → N ≡ get_or b 3 0
      → start ≡ get_or b 4 0
      → P ≡ get_or b 5 0
      → count ≡ min P most_productions
      → Surveyed b count (replicate most_productions 0) places names lefts
      → TellsUseless count names lefts N start r
      → Indexed b places P N start g × FirstUseless g r
  unfolding places_of
  survey_decides {g} read N-is start_is P-is count_is surveyed tells =
      let indexed = header_indexed read N-is start_is P-is (rw count_is at surveyed.placed) in
      let sides = sides_surveyed read (header_counted read P-is count_is) surveyed.named surveyed.left in
      (indexed, tells.first g sides indexed.numbered indexed.started)

module _ {b places : List ℕ} {P N start : ℕ} {g : Grammar} (indexed : Indexed b places P N start g) where
  pub judged_useless : {A : ℕ} → FirstUseless g (Some A) → Refuses b (refusal useless A 0)
  judged_useless first =
      useless_one indexed.read (record { inside = first.inside; useless = first.fails; lowest = first.earlier })

  -- the fields of the index are those that are read off the book
  pub judged_served : {tokens : ℕ} → FirstUseless g None → tokens ≡ get_or b 2 0
      → Indexes b
      (record {
        outline = record { tokens = tokens; nonterminals = N; start = start; productions = P };
        places = places;
      })
  unfolding index_of
  judged_served first tokens_are =
      let all : AllUseful g = record { useful = first } in
      rw (tokens_are, header_tokens b indexed.read, indexed.numbered, indexed.started, indexed.counted, indexed.placed)
      (record { grammar = g; serves = record { read = indexed.read; useful = all }; index = refl })
