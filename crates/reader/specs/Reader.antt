-- A reader carries the caller's book and its own place. Document 01, "The book" and "What form each place needs".
-- Only contracts inside the crate cite what stands here.
use Rattle.std.specs.Prelude.{◌≡◌, List, ℕ, Result, Ok, Err, MatchResult}
use Rattle.std.specs.Borrow.{Bor}
use Rattle.reader.specs.declared.Fault.{Fault}
use Rattle.reader.specs.declared.Reader.{Reader}
use Rattle.reader.specs.Verdicts.{Verdict}

-- at the front of the book
abbrev pub at_front : Bor (List ℕ) → Reader
at_front book = record { book = book; at = 0 }

-- the same book, at the place that reading has come to, or the refusal
abbrev pub Carried : Reader → Verdict → Result Reader Fault → Type 0
Carried r v result = MatchResult result (λ q. (q.book ≡ r.book) × (v ≡ Ok q.at)) (λ fault. v ≡ Err fault)
