-- House book H called from C: the premises of the theorems are met, and the bytes of the answers are as document 01 has them.
use mathlib.Core.Path.{refl}
use mathlib.Core.List.{List, [], ◌∷◌, ◌++◌}
use Prim.Native.Nat.{ℕ}
use native.Mathlib.Omega.{arith}
use lib.ListN.{replicate}
use Rattle.grammar.proofs.Every.{every_at}
use Rattle.grammar.proofs.Tests.{below}
use Rattle.answers.specs.Answers.{done, refusal}
use Rattle.patterns.specs.Calls.{accepted}
use Rattle.patterns.specs.Examples as patterns
use Rattle.patterns.specs.Examples.{house_bytes, house_lengths}
use Rattle.patterns.proofs.Promise.{examples_judged, house_accepted}
use Rattle.book.specs.Examples.{house_book}
use Rattle.first.specs.Examples.{house_first_sets}
use Rattle.follow.specs.Examples.{house_follow_sets}
use Rattle.table.specs.Examples.{house_table}
use Rattle.table.proofs.Promise.{house_build}
use Rattle.demands.specs.Demands.{Premises}
use Rattle.demands.specs.Examples.{Allowed, answering, runs, expands, example_a, example_f, example_k, examples}
use Rattle.demands.proofs.Promise.{house_premises, examples_allowed}
use Rattle.desk.specs.Desk.{little_endian, answer_bytes, Lent, short, answered, PatternsCall, BuildCall, RunCall, ExpandCall}
use Rattle.desk.proofs.AnswerBytes.{answer_size_is}

-- an answer buffer that is longer than an answer, and one that is too short
abbrev long : List ℕ
long = replicate 48 9

abbrev too_short : List ℕ
too_short = replicate 39 9

pub long_lent : Lent long
long_lent = omega (arith, answer_size_is)

-- the string of example A meets the premises of demand 3
pub example_a_premises : Premises house_book house_table (0 ∷ 1 ∷ 2 ∷ 1 ∷ 3 ∷ 1 ∷ [])
unfolding below
example_a_premises = house_premises (0 ∷ 1 ∷ 2 ∷ 1 ∷ 3 ∷ 1 ∷ []) (omega arith) tt

-- A: done after 13 steps, and at most 3 stack cells held
pub example_a_called : RunCall house_book house_table (0 ∷ 1 ∷ 2 ∷ 1 ∷ 3 ∷ 1 ∷ []) (replicate 3 9) (replicate 7 9) long
    0 (replicate 3 0) (0 ∷ 1 ∷ 2 ∷ 4 ∷ 1 ∷ 3 ∷ 5 ∷ []) (replicate 16 0 ++ (13 ∷ replicate 15 0) ++ (3 ∷ replicate 7 0) ++ replicate 8 9)
unfolding examples Allowed example_a runs answering answer_bytes little_endian
example_a_called = record { call = answered long_lent (every_at examples_allowed 0 example_a refl) }

-- F: syntax, place 2, steps 4, expected bits 2, 3 and 62, depth 3
pub example_f_called : RunCall house_book house_table (0 ∷ 1 ∷ 1 ∷ []) (replicate 3 9) (replicate 4 9) long
    11 (replicate 3 0) (0 ∷ 1 ∷ 9 ∷ 9 ∷ []) ((2 ∷ replicate 15 0) ++ (4 ∷ replicate 7 0) ++ (12 ∷ 0 ∷ 0 ∷ 0 ∷ 0 ∷ 0 ∷ 0 ∷ 64 ∷ []) ++ (3 ∷ replicate 7 0)
    ++ replicate 8 9)
unfolding examples Allowed example_f runs answering answer_bytes little_endian
example_f_called = record { call = answered long_lent (every_at examples_allowed 5 example_f refl) }

-- A with an answer buffer of 39 bytes: 7, and nothing changes
pub example_a_short : RunCall house_book house_table (0 ∷ 1 ∷ 2 ∷ 1 ∷ 3 ∷ 1 ∷ []) (replicate 3 9) (replicate 7 9) too_short
    7 (replicate 3 9) (replicate 7 9) too_short
example_a_short = record { call = short (λ lent. omega (arith, answer_size_is)) }

-- K: the list of example D expands to its string
pub example_k_called : ExpandCall house_book (0 ∷ 1 ∷ 3 ∷ 5 ∷ []) (replicate 3 9) (replicate 3 9) long
    0 (replicate 3 0) (0 ∷ 1 ∷ 9 ∷ []) (replicate 16 0 ++ (6 ∷ replicate 15 0) ++ (3 ∷ replicate 7 0) ++ replicate 8 9)
unfolding examples Allowed example_k expands answering answer_bytes little_endian
example_k_called = record { call = answered long_lent (every_at examples_allowed 10 example_k refl) }

-- the house patterns are good
pub house_patterns_called : PatternsCall house_bytes house_lengths long 0 (replicate 40 0 ++ replicate 8 9)
unfolding done answer_bytes little_endian
house_patterns_called = record { call = answered long_lent (accepted house_accepted) }

-- of `a`, `b*` and `(` the second is told: 14, place 2, detail 1
pub bad_pattern_called : PatternsCall (97 ∷ 98 ∷ 42 ∷ 40 ∷ []) (1 ∷ 2 ∷ 1 ∷ []) long
    14 ((2 ∷ replicate 7 0) ++ (1 ∷ replicate 31 0) ++ replicate 8 9)
unfolding patterns.examples refusal answer_bytes little_endian
bad_pattern_called =
    record {
      call =
          answered long_lent
          (examples_judged 2
          (record { patterns = 97 ∷ 98 ∷ 42 ∷ 40 ∷ []; lengths = 1 ∷ 2 ∷ 1 ∷ []; answer = refusal 14 2 1 }) refl);
    }

-- H is built
pub house_built_called : BuildCall house_book (replicate 5 9) (replicate 5 9) (replicate 21 9) long
    0 (house_first_sets ++ (9 ∷ [])) (house_follow_sets ++ (9 ∷ [])) (house_table ++ (9 ∷ [])) (replicate 40 0 ++ replicate 8 9)
unfolding house_first_sets house_follow_sets house_table done answer_bytes little_endian
house_built_called = record { call = answered long_lent (house_build (omega arith) (omega arith) (omega arith)) }
