-- From gathering to what is left: tables filled, or of the same lengths.
use mathlib.Core.Path.{◌≡◌, ap, ◌∙◌}
use mathlib.Core.List.{List, ◌++◌}
use Prim.Native.Nat.{ℕ}
use native.Mathlib.Omega.{arith}
use lib.ListN.{length, take, drop, length-append, length-take, length-drop, length-replicate}
use Rattle.sets.specs.Words.{AreWords}
use Rattle.answers.specs.declared.Answer.{Answer}
use Rattle.answers.specs.Buffers.{cleared}
use Rattle.patterns.specs.Calls.{RefusesPatterns, readers_length, follow_length, TablesFit}
use Rattle.patterns.specs.Promised.{ReadServed}
use Rattle.patterns.specs.Gathering.{Gathered, FillRefused}
use Rattle.patterns.proofs.Cleared.{tables_filled}

-- the first words of a cleared table changed and the others are as they were
refilled_length : (size : ℕ) (table xs : List ℕ) {R : List ℕ}
    → R ≡ cleared table
    → length xs ≡ length (take size R)
    → length (xs ++ drop size R) ≡ length table
refilled_length size table xs {R} none long =
    let same : length R ≡ length table = ap length none ∙ length-replicate {A = ℕ} (length table) 0 in
    omega (arith, long, length-append xs (drop size R), length-take size R, length-drop size R)

module _ (patterns lengths readers follow R F xs ys : List ℕ)
    (r : R ≡ cleared readers) (f : F ≡ cleared follow)
    (xs_long : length xs ≡ length (take readers_length R)) (ys_long : length ys ≡ length (take follow_length F)) where
  pub fill_refused : {a : Answer}
      → RefusesPatterns patterns lengths a
      → FillRefused patterns lengths readers follow a (xs ++ drop readers_length R) (ys ++ drop follow_length F)
  fill_refused refuses =
      record {
        refuses = refuses;
        readers_sized = refilled_length readers_length readers xs r xs_long;
        follow_sized = refilled_length follow_length follow ys f ys_long;
      }

  pub filled : TablesFit readers follow
      → AreWords (xs ++ drop readers_length R)
      → AreWords (ys ++ drop follow_length F)
      → Gathered patterns lengths (take readers_length R) (take follow_length F) xs ys
      → ReadServed patterns lengths readers follow (xs ++ drop readers_length R) (ys ++ drop follow_length F)
  filled fit xs_words ys_words g =
      record {
        meanings = g.meanings;
        accepted = g.accepted;
        readers_sized = refilled_length readers_length readers xs r xs_long;
        follow_sized = refilled_length follow_length follow ys f ys_long;
        tables =
            rw (r, f) (tables_filled fit (rw r at g.reads) (rw f at g.follows) (rw r at xs_words) (rw f at ys_words));
      }
