-- The books H, I, J and Q tested for the profile, and runs on Q: the definitions give each row, and no other outcome.
use mathlib.Core.Path.{◌≡◌, refl}
use mathlib.Core.List.{List, [], ◌∷◌}
use Prim.Native.Nat.{ℕ, zero, suc, ◌<◌}
use native.Mathlib.Omega.{arith}
use lib.ListN.{length, get_or, replicate}
use Rattle.grammar.specs.declared.Symbol.TheVariants.{Token, Nonterminal}
use Rattle.grammar.specs.Grammar.{Form, Rule, Every, nothing, each}
use Rattle.grammar.specs.Plain.{Breaks, bare, named, again, Plain, LowestBreak}
use Rattle.grammar.proofs.Every.{every_map}
use Rattle.grammar.proofs.Leftmost.{rule_same}
use Rattle.grammar.proofs.PlainExamples.{plain_grammar, plain_grammar_lem, house_lowest_break}
use Rattle.grammar.proofs.Tests.{below}
use Rattle.grammar.proofs.Worked.{first_test, follow_test}
use Rattle.grammar.proofs.WorkedCells.{worked_cell, conflict_test}
use Rattle.grammar.proofs.WorkedForm.{form_test}
use Rattle.grammar.proofs.WorkedUseful.{productives, has}
use Rattle.sets.specs.Sets.{only, united, added}
use Rattle.answers.specs.declared.Answer.{Answer}
use Rattle.answers.specs.Answers.{done, refusal, stop, at_depth}
use Rattle.answers.specs.Refusals.{profile, useless}
use Rattle.reader.specs.Book.{spells, marked, wanted, records, symbols, symbol_of, ending}
use Rattle.book.specs.Examples.{house_book, useless_book}
use Rattle.book.proofs.Promise.{house_serves}
use Rattle.book.proofs.Promise as judging
use Rattle.table.specs.Examples.{nested_book, nested_grammar}
use Rattle.table.specs.Table.{held, BuiltWithoutConflict, cell_of}
use Rattle.table.proofs.Promise.{worked_first, worked_follow, worked_useful, table_test, table_fits, nested_serves}
use Rattle.machine.specs.Machine.{begun, meets, popped, replaced, used, facing, offer, run_from, final}
use Rattle.machine.specs.Room.{right_of}
use Rattle.offer.specs.Stops.{marking, filled_below, expected, answered, run_answer}
use Rattle.offer.specs.Strings.{ran}
use Rattle.run.specs.Running as running
use Rattle.run.specs.Running.{Admits}
use Rattle.run.proofs.Promise.{Result}
use Rattle.demands.specs.Demands.{Premises}
use Rattle.demands.specs.Examples.{answering}
use Rattle.demands.proofs.Promise.{built_tested}
use Rattle.profile.specs.Examples.{plain_book, plain_table, PlainRun, Allowed, taken_run, stopped_run, listless_run, low_run}
use Rattle.profile.specs.Plain.{PlainOutcome, PlainRunOutcome, runs}
use Rattle.profile.specs.Plain as plain
use Rattle.profile.proofs.Unique.{plain_run_outcome_unique}

-- H: 21, place 3
pub house_unfit : PlainOutcome house_book (refusal profile 3 0)
house_unfit = plain.unfit house_serves house_lowest_break

-- I: 6, place 1
pub useless_refused : PlainOutcome useless_book (refusal useless 1 0)
useless_refused = plain.refused judging.useless_refused

-- J: its production 0 starts with a token, and 1 with a nonterminal
nested_first : {A : ℕ} {β : Form} → Rule nested_grammar 0 A β → (t : ℕ) × (γ : Form) × (β ≡ Token t ∷ γ)
unfolding nested_grammar
nested_first rule =
    let there : Rule nested_grammar 0 0 (Token 1 ∷ Nonterminal 0 ∷ Token 1 ∷ []) = record { at = refl } in
    (1, Nonterminal 0 ∷ Token 1 ∷ [], (rule_same rule there).1)

nested_earlier : (q : ℕ) → q < 1 → ¬ Breaks nested_grammar q
nested_earlier zero h (bare rule) = let (t, γ, e) = nested_first rule in let bad : ◌≡◌ {A = ℕ} 0 1 = cc in omega arith
nested_earlier zero h (named rule) = let (t, γ, e) = nested_first rule in let bad : ◌≡◌ {A = ℕ} 0 1 = cc in omega arith
nested_earlier zero h (again lower r s) = omega arith
nested_earlier (suc q) h breaks = omega arith

nested_lowest_break : LowestBreak nested_grammar 1
unfolding nested_grammar
nested_lowest_break = record { breaks = named {A = 0} {B = 1} (record { at = refl }); earlier = nested_earlier }

-- J: 21, place 1
pub nested_unfit : PlainOutcome nested_book (refusal profile 1 0)
nested_unfit = plain.unfit nested_serves nested_lowest_break

-- the table of Q
unfoldable pub plain_built : BuiltWithoutConflict plain_book plain_table
unfolding spells marked wanted records symbols symbol_of ending plain_book plain_grammar plain_table form_test has productives worked_useful below first_test follow_test worked_first worked_follow conflict_test worked_cell table_test built_tested
plain_built = built_tested plain_grammar 3 plain_book plain_table refl refl (record { form = tt; start = tt; useful = tt; firsts = tt; follows = tt; single = tt; cells = tt })

unfoldable plain_built_plain : Plain plain_built.grammar
unfolding plain_built built_tested
plain_built_plain = plain_grammar_lem

-- Q is plain
pub plain_book_fits : PlainOutcome plain_book (done 0)
plain_book_fits = plain.fits plain_built.serves plain_built_plain

pub four_known : (i : ℕ) → i < 4 → get_or (0 ∷ 2 ∷ 0 ∷ 1 ∷ []) i 0 < 3
four_known zero h = omega arith
four_known (suc zero) h = omega arith
four_known (suc (suc zero)) h = omega arith
four_known (suc (suc (suc zero))) h = omega arith
four_known (suc (suc (suc (suc i)))) h = absurd (omega arith)

pub two_known : (i : ℕ) → i < 2 → get_or (0 ∷ 0 ∷ []) i 0 < 3
two_known zero h = omega arith
two_known (suc zero) h = omega arith
two_known (suc (suc i)) h = absurd (omega arith)

-- a c a b and a a are strings of its tokens
unfoldable pub plain_example : Premises plain_book plain_table (0 ∷ 2 ∷ 0 ∷ 1 ∷ [])
unfolding plain_grammar plain_built built_tested
plain_example = record { built = plain_built; short = omega arith; known = four_known }

unfoldable short_example : Premises plain_book plain_table (0 ∷ 0 ∷ [])
unfolding plain_grammar plain_built built_tested
short_example = record { built = plain_built; short = omega arith; known = two_known }

admitted : {tokens : List ℕ} (h : Premises plain_book plain_table tokens) (stack : List ℕ) → 0 < length stack → Admits h.built.grammar plain_table tokens stack
admitted h stack k = record { fits = table_fits h.built.built; short = h.short; known = h.known; stacked = omega arith }

-- the definitions give the rows
plain_runs_allowed : Every Allowed (taken_run ∷ stopped_run ∷ listless_run ∷ low_run ∷ [])
unfolding Allowed taken_run stopped_run listless_run low_run answering plain_grammar plain_table plain_built built_tested plain_built_plain plain_example short_example begun meets popped replaced used facing offer run_from right_of cell_of held only united added marking filled_below ran expected answered run_answer at_depth final stop done
plain_runs_allowed =
    each {x = taken_run} (runs plain_built plain_built_plain (running.ended plain_built.serves (admitted plain_example (replicate 2 9) (omega arith))))
    (each {x = stopped_run} (runs plain_built plain_built_plain (running.ended plain_built.serves (admitted short_example (replicate 2 9) (omega arith))))
    (each {x = listless_run} (runs plain_built plain_built_plain (running.ended plain_built.serves (admitted plain_example (replicate 2 9) (omega arith))))
    (each {x = low_run} (runs plain_built plain_built_plain (running.ended plain_built.serves (admitted plain_example (replicate 1 9) (omega arith)))) nothing)))

-- a row is allowed, and nothing else is
pub record Given (x : PlainRun) : Type 0 where
  pub allowed : Allowed x
  pub only : {a : Answer} {s l : List ℕ}
      → PlainRunOutcome plain_book x.tokens (replicate x.stack 9) (replicate x.list 9) a s l
      → ◌≡◌ {A = Result} (a, s, l) (x.answer, replicate x.stack 0, x.written)

pub plain_runs_given : Every Given (taken_run ∷ stopped_run ∷ listless_run ∷ low_run ∷ [])
unfolding Allowed
plain_runs_given = every_map (λ x row. record { allowed = row; only = λ o. plain_run_outcome_unique o row }) plain_runs_allowed
