-- What a verdict on a book tells of what its bytes spell.
use mathlib.Core.Path.{◌≡◌, refl, sym, ◌∙◌}
use mathlib.Core.List.{List}
use Prim.Native.Nat.{ℕ}
use lib.ListN.{length}
use Rattle.std.specs.Prelude.{Ok, Err}
use Rattle.grammar.specs.Grammar.{Grammar}
use Rattle.reader.specs.declared.Fault.{Fault}
use Rattle.reader.specs.Book.{Spelling, refused, reads, spells}
use Rattle.reader.specs.Verdicts.{Verdict, verdict_on, verdict_of}

spelling_read : (size : ℕ) (x : Spelling) {at : ℕ} → verdict_on size x ≡ Ok at → (g : Grammar) × (x ≡ reads g)
unfolding verdict_on
spelling_read size (reads g) e = (g, refl)
spelling_read size (refused why place) e = let no : ⊥ = cc in absurd no

spelling_refused : (size : ℕ) (x : Spelling) {fault : Fault} → verdict_on size x ≡ Err fault → x ≡ refused fault.why fault.place
unfolding verdict_on
spelling_refused size (reads g) e = let no : ⊥ = cc in absurd no
spelling_refused size (refused why place) e = cc

module _ (b : List ℕ) where
  -- a verdict that goes on means that the book spells a grammar
  pub verdict_reads : {v : Verdict} {at : ℕ} → v ≡ verdict_of b → v ≡ Ok at → (g : Grammar) × (spells b ≡ reads g)
  unfolding verdict_of
  verdict_reads e next = spelling_read (length b) (spells b) (sym e ∙ next)

  pub verdict_refused : {v : Verdict} {fault : Fault} → v ≡ verdict_of b → v ≡ Err fault → spells b ≡ refused fault.why fault.place
  unfolding verdict_of
  verdict_refused e bad = spelling_refused (length b) (spells b) (sym e ∙ bad)
