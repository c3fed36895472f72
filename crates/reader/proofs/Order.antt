-- Reading in order: whatever a book spells, its first bad or missing byte decides, and what stands before that can be continued.
use mathlib.Core.Path.{◌≡◌, refl, ◌∙◌, ap}
use mathlib.Core.List.{List, [], ◌∷◌, ◌++◌}
use Prim.Native.Nat.{ℕ, zero, suc, ◌+◌, ◌≤◌}
use native.Mathlib.Omega.{arith}
use lib.ListN.{length}
use Rattle.grammar.specs.declared.Symbol.TheVariants.{Token}
use Rattle.grammar.specs.Grammar.{Form, Production, Grammar}
use Rattle.answers.specs.Limits.{most_tokens, most_nonterminals, most_productions, most_symbols}
use Rattle.answers.specs.declared.refusals.Refusal.{Refusal}
use Rattle.answers.specs.declared.refusals.Refusal.TheVariants as refusals
use Rattle.reader.specs.Book.{Spelling, refused, reads, Rest, marked, symbols, records, ending, spells, Continued}
use Rattle.reader.specs.Faults.{BadByte, bad_mark, extra_byte, over_limit, not_a_symbol}
use Rattle.reader.proofs.Bytes.{token_spelled, Look, taken, turned, Takes, wanted_takes, symbols_takes}

-- the answer to some continuation of the bytes is a grammar
pub record Goes (answer : List ℕ → Spelling) (bs : List ℕ) : Type 0 where
  pub more : List ℕ
  pub to : Grammar
  pub read : answer (bs ++ more) ≡ reads to

-- an answer to bytes from the place `at` on that the first bad or missing byte decides
pub data FirstDecides (answer : List ℕ → Spelling) (at : ℕ) (bs : List ℕ) : Spelling → Type 0 where
  whole : {g : Grammar} → FirstDecides answer at bs (reads g)
  ended : (k : ℕ) → k ≡ at + length bs → Goes answer bs → FirstDecides answer at bs (refused refusals.Short k)
  stopped : {why : Refusal} (k : ℕ) → BadByte why → (used : List ℕ) (b : ℕ) (rest : List ℕ) → bs ≡ used ++ (b ∷ rest) → k ≡ at + length used → Goes answer used
      → ((others : List ℕ) → answer (used ++ (b ∷ others)) ≡ refused why k) → FirstDecides answer at bs (refused why k)

-- the reader's answers are such, and there are bytes that it reads
record Orderly (r : Rest) : Type 0 where
  goes : (at : ℕ) → Goes (λ bs. r bs at) []
  judged : (bs : List ℕ) (at : ℕ) → FirstDecides (λ bs. r bs at) at bs (r bs at)

-- one byte more in front
module _ {answer next : List ℕ → Spelling} {b : ℕ} (on : (bs : List ℕ) → answer (b ∷ bs) ≡ next bs) where
  goes_before : {bs : List ℕ} → Goes next bs → Goes answer (b ∷ bs)
  goes_before {bs} g = record { more = g.more; to = g.to; read = on (bs ++ g.more) ∙ g.read }

  judged_before : {at : ℕ} {bs : List ℕ} {x : Spelling} → FirstDecides next (suc at) bs x → FirstDecides answer at (b ∷ bs) x
  judged_before whole = whole
  judged_before (ended k place g) = ended k (omega arith) (goes_before g)
  judged_before (stopped k fault used c rest split place g all) =
      stopped k fault (b ∷ used) c rest (ap (λ bs. b ∷ bs) split) (omega arith) (goes_before g) (λ others. on (used ++ (c ∷ others)) ∙ all others)

module _ {A : Type 0} {byte : A → ℕ} {Fine : A → Type 0} {next : A → Rest} {why : Refusal} {r : Rest} where
  takes_orderly : Takes byte Fine next why r → BadByte why → (a : A) → Fine a → ((a : A) → Fine a → Orderly (next a)) → Orderly r
  takes_orderly t fault a fine h = record { goes = goes; judged = judged }
    where
      goes : (at : ℕ) → Goes (λ bs. r bs at) []
      goes at = let g = (h a fine).goes (suc at) in record { more = byte a ∷ g.more; to = g.to; read = t.goes a fine g.more at ∙ g.read }

      by_look : {b : ℕ} → Look byte Fine next why r b → (bs : List ℕ) (at : ℕ) → FirstDecides (λ bs. r bs at) at (b ∷ bs) (r (b ∷ bs) at)
      by_look (taken a fine) bs at = rw (t.goes a fine bs at) (judged_before (λ bs. t.goes a fine bs at) ((h a fine).judged bs (suc at)))
      by_look (turned b stops) bs at = rw (stops bs at) (stopped at fault [] b bs refl (omega arith) (goes at) (λ others. stops others at))

      judged : (bs : List ℕ) (at : ℕ) → FirstDecides (λ bs. r bs at) at bs (r bs at)
      judged [] at = rw (t.missing at) (ended at (omega arith) (goes at))
      judged (b ∷ bs) at = by_look (t.look b) bs at

marked_orderly : (one other : ℕ) {next : Rest} → Orderly next → Orderly (marked one other next)
unfolding marked
marked_orderly one other h =
    takes_orderly (wanted_takes one (suc one) refusals.Mark) bad_mark one (omega arith) λ _ _.
    takes_orderly (wanted_takes other (suc other) refusals.Mark) bad_mark other (omega arith) λ _ _. h

symbols_orderly : (T N l : ℕ) {next : Form → Rest} → 1 ≤ T → ((form : Form) → Orderly (next form)) → Orderly (symbols T N l next)
unfolding symbols
symbols_orderly T N zero some_token h = h []
symbols_orderly T N (suc l) {next} some_token h =
    takes_orderly (symbols_takes T N l next) not_a_symbol (Token 0) (token_spelled T N 0 some_token) λ s _. symbols_orderly T N l some_token λ form. h (s ∷ form)

records_orderly : (T N p : ℕ) {next : List Production → Rest} → 1 ≤ T → 1 ≤ N → ((ps : List Production) → Orderly (next ps)) → Orderly (records T N p next)
unfolding records
records_orderly T N zero some_token some_nonterminal h = h []
records_orderly T N (suc p) some_token some_nonterminal h =
    marked_orderly 80 82
    (takes_orderly (wanted_takes 0 N refusals.Symbol) not_a_symbol 0 (omega arith) λ A _.
    takes_orderly (wanted_takes 0 (suc most_symbols) refusals.Limit) over_limit 0 (omega arith) λ l _.
    symbols_orderly T N l some_token λ form.
    records_orderly T N p some_token some_nonterminal λ ps. h (record { left = A; right = form } ∷ ps))

ending_orderly : (g : Grammar) → Orderly (ending g)
unfolding ending
ending_orderly g = record { goes = goes; judged = judged }
  where
    goes : (at : ℕ) → Goes (λ bs. ending g bs at) []
    goes at = record { more = []; to = g; read = refl }

    judged : (bs : List ℕ) (at : ℕ) → FirstDecides (λ bs. ending g bs at) at bs (ending g bs at)
    judged [] at = whole
    judged (b ∷ bs) at = stopped at extra_byte [] b bs refl (omega arith) (goes at) (λ others. refl)

-- what a book spells is decided by the first bad or missing byte
pub spells_decided : (b : List ℕ) → FirstDecides spells 0 b (spells b)
unfolding spells
spells_decided b =
    let order =
    marked_orderly 71 82
    (takes_orderly (wanted_takes 1 (suc most_tokens) refusals.Limit) over_limit 1 (omega arith) λ T tokens.
    takes_orderly (wanted_takes 1 (suc most_nonterminals) refusals.Limit) over_limit 1 (omega arith) λ N nonterminals.
    takes_orderly (wanted_takes 0 N refusals.Limit) over_limit 0 (omega arith) λ start _.
    takes_orderly (wanted_takes 1 (suc most_productions) refusals.Limit) over_limit 1 (omega arith) λ P _.
    records_orderly T N P tokens.0 nonterminals.0 λ ps.
    ending_orderly (record { tokens = T; nonterminals = N; start = start; productions = ps })) in
    order.judged b 0

pub decided_as : (b : List ℕ) {x : Spelling} → spells b ≡ x → FirstDecides spells 0 b x
decided_as b e = rw e at (spells_decided b)

pub continued : {b : List ℕ} → Goes spells b → Continued b
continued g = record { more = g.more; to = g.to; read = g.read }
