-- The bytes of a grammar within the limits read back to it, and a book that reads is the bytes of what it reads to.
use mathlib.Core.Path.{◌≡◌, refl, sym, ◌∙◌, ap, subst}
use mathlib.Core.List.{List, [], ◌∷◌, ◌++◌, map, append_assoc, append-nil}
use Prim.Native.Nat.{ℕ, zero, suc, ◌≤◌, ◌<◌}
use native.Mathlib.Omega.{arith}
use lib.ListN.{length}
use Rattle.grammar.specs.Grammar.{Form, Production, Grammar, Rule, Every, nothing, each}
use Rattle.grammar.proofs.Every.{at_every, every_at, every_map}
use Rattle.answers.specs.Limits.{most_tokens, most_nonterminals, most_productions, most_symbols}
use Rattle.answers.specs.declared.refusals.Refusal.{Refusal}
use Rattle.answers.specs.declared.refusals.Refusal.TheVariants as refusals
use Rattle.reader.specs.Book.{Spelling, reads, Rest, marked, symbols, records, ending, spells, byte_of, record_bytes, records_bytes, bytes_of, Limits}
use Rattle.reader.proofs.Bytes.{refused_not_reads, Spelled, Look, taken, turned, Takes, wanted_takes, symbols_takes, wanted_taken, marked_taken, symbol_of_byte_of, symbol_of_known}

-- a production that a record can hold
record Recordable (T N : ℕ) (r : Production) : Type 0 where
  left_known : r.left < N
  length_fits : length r.right ≤ most_symbols
  right_spelled : Every (Spelled T N) r.right

module _ (T N : ℕ) where
  symbols_written : {form : Form} → Every (Spelled T N) form → (next : Form → Rest) (bs : List ℕ) {x : Spelling} → ((at : ℕ) → next form bs at ≡ x)
      → (at : ℕ) → symbols T N (length form) next (map byte_of form ++ bs) at ≡ x
  unfolding symbols
  symbols_written nothing next bs h at = h at
  symbols_written (each {x = s} e es) next bs h at = rw (e, symbols) (symbols_written es (λ form. next (s ∷ form)) bs h (suc at))

  records_written : {ps : List Production} → Every (Recordable T N) ps → (next : List Production → Rest) (bs : List ℕ) {x : Spelling} → ((at : ℕ) → next ps bs at ≡ x)
      → (at : ℕ) → records T N (length ps) next (records_bytes ps ++ bs) at ≡ x
  unfolding records records_bytes record_bytes
  records_written nothing next bs h at = h at
  records_written (each {x = r} {xs = ps} held rest) next bs h at =
      let low : 0 ≤ r.left = omega arith in
      let known : r.left < N = held.left_known in
      let any : 0 ≤ length r.right = omega arith in
      let fits : length r.right < suc most_symbols = omega (arith, held.length_fits) in
      simp (marked_taken, wanted_taken, append_assoc)
      (symbols_written held.right_spelled (λ form. records T N (length ps) (λ tail. next (record { left = r.left; right = form } ∷ tail))) (records_bytes ps ++ bs) (records_written rest (λ tail. next (r ∷ tail)) bs h) _)

-- each production of a grammar within the limits can be held by a record
every_held : {g : Grammar} → Limits g → Every (Recordable g.tokens g.nonterminals) g.productions
every_held {g} limits =
    at_every
    g.productions
    (λ p r at.
    let rule : Rule g p r.left r.right = record { at = at } in
    record {
      left_known = limits.well_formed.left_known rule;
      length_fits = limits.lengths_fit rule;
      right_spelled = every_map (λ s. symbol_of_byte_of limits.tokens_fit) (limits.well_formed.right_known rule);
    })

-- the bytes of a grammar within the limits read back to it
pub read_written : {g : Grammar} → Limits g → spells (bytes_of g) ≡ reads g
unfolding spells bytes_of ending
read_written {g} limits =
    let tokens : g.tokens < suc most_tokens = omega (arith, limits.tokens_fit) in
    let nonterminals : g.nonterminals < suc most_nonterminals = omega (arith, limits.nonterminals_fit) in
    let start : 0 ≤ g.start = omega arith in
    let productions : length g.productions < suc most_productions = omega (arith, limits.productions_fit) in
    simp (marked_taken, wanted_taken, limits.some_token, limits.some_nonterminal, limits.well_formed.start_known, limits.some_production)
    (rw append-nil at (records_written g.tokens g.nonterminals (every_held limits) (λ ps. ending (record { tokens = g.tokens; nonterminals = g.nonterminals; start = g.start; productions = ps })) [] (λ at. refl) 6))

-- where the reader reads a grammar, W holds of the bytes and the grammar
record Only (r : Rest) (W : List ℕ → Grammar → Type 0) : Type 0 where
  holds : (bs : List ℕ) (at : ℕ) (g : Grammar) → r bs at ≡ reads g → W bs g

module _ {A : Type 0} {byte : A → ℕ} {Fine : A → Type 0} {next : A → Rest} {why : Refusal} {r : Rest} {W : List ℕ → Grammar → Type 0} where
  takes_only : Takes byte Fine next why r → ((a : A) → Fine a → Only (next a) (λ bs. W (byte a ∷ bs))) → Only r W
  takes_only t h = record { holds = by_bytes }
    where
      by_look : {b : ℕ} → Look byte Fine next why r b → (bs : List ℕ) (at : ℕ) (g : Grammar) → r (b ∷ bs) at ≡ reads g → W (b ∷ bs) g
      by_look (taken a fine) bs at g e = (h a fine).holds bs (suc at) g (sym (t.goes a fine bs at) ∙ e)
      by_look (turned b stops) bs at g e = absurd (refused_not_reads (stops bs at) e)

      by_bytes : (bs : List ℕ) (at : ℕ) (g : Grammar) → r bs at ≡ reads g → W bs g
      by_bytes [] at g e = absurd (refused_not_reads (t.missing at) e)
      by_bytes (b ∷ bs) at g e = by_look (t.look b) bs at g e

symbols_only : (T N l : ℕ) {next : Form → Rest} {W : List ℕ → Grammar → Type 0}
    → ((form : Form) → length form ≡ l → Every (Spelled T N) form → Only (next form) (λ bs. W (map byte_of form ++ bs))) → Only (symbols T N l next) W
unfolding symbols
symbols_only T N zero h = h [] refl nothing
symbols_only T N (suc l) {next} h =
    takes_only (symbols_takes T N l next) λ s spelled. symbols_only T N l λ form same all. h (s ∷ form) (ap suc same) (each spelled all)

marked_only : (one other : ℕ) {next : Rest} {W : List ℕ → Grammar → Type 0} → Only next (λ bs. W (one ∷ (other ∷ bs))) → Only (marked one other next) W
unfolding marked
marked_only one other h =
    takes_only (wanted_takes one (suc one) refusals.Mark) λ a near.
    takes_only (wanted_takes other (suc other) refusals.Mark) λ b close.
    let first : a ≡ one = omega arith in
    let second : b ≡ other = omega arith in
    rw (first, second) h

records_only : (T N p : ℕ) {next : List Production → Rest} {W : List ℕ → Grammar → Type 0}
    → ((ps : List Production) → length ps ≡ p → Every (Recordable T N) ps → Only (next ps) (λ bs. W (records_bytes ps ++ bs))) → Only (records T N p next) W
unfolding records records_bytes record_bytes
records_only T N zero h = h [] refl nothing
records_only T N (suc p) h =
    marked_only 80 82
    (takes_only (wanted_takes 0 N refusals.Symbol) λ A known.
    takes_only (wanted_takes 0 (suc most_symbols) refusals.Limit) λ l fits.
    symbols_only T N l λ form same spelled.
    records_only T N p λ ps count held.
    let kept : Recordable T N (record { left = A; right = form }) = record { left_known = known.1; length_fits = omega arith; right_spelled = spelled } in
    record { holds = λ bs at g e. rw (append_assoc, same) at ((h (record { left = A; right = form } ∷ ps) (ap suc count) (each kept held)).holds bs at g e) })

ending_only : (h : Grammar) {W : List ℕ → Grammar → Type 0} → W [] h → Only (ending h) W
unfolding ending
ending_only h {W} w = record { holds = by_bytes }
  where
    by_bytes : (bs : List ℕ) (at : ℕ) (g : Grammar) → ending h bs at ≡ reads g → W bs g
    by_bytes [] at g e = let same : h ≡ g = cc in subst (W []) same w
    by_bytes (b ∷ bs) at g e = absurd (refused_not_reads refl e)

-- a grammar with its numbers in range, and with productions that records can hold, is within the limits
held_limits : (g : Grammar) → (1 ≤ g.tokens) × (g.tokens < suc most_tokens) → (1 ≤ g.nonterminals) × (g.nonterminals < suc most_nonterminals) → g.start < g.nonterminals
    → (1 ≤ length g.productions) × (length g.productions < suc most_productions) → Every (Recordable g.tokens g.nonterminals) g.productions → Limits g
held_limits g tokens nonterminals start count held =
    record {
      some_token = tokens.0;
      tokens_fit = omega arith;
      some_nonterminal = nonterminals.0;
      nonterminals_fit = omega arith;
      some_production = count.0;
      productions_fit = omega arith;
      lengths_fit = λ {p} {A} {β} rule. (every_at held p _ rule.at).length_fits;
      well_formed = record {
        start_known = start;
        left_known = λ {p} {A} {β} rule. (every_at held p _ rule.at).left_known;
        right_known = λ {p} {A} {β} rule. every_map (λ s spelled. (symbol_of_known (byte_of s) spelled).1) (every_at held p _ rule.at).right_spelled;
      };
    }

spells_only : (b : List ℕ) (g : Grammar) → spells b ≡ reads g → (b ≡ bytes_of g) × Limits g
unfolding spells bytes_of ending
spells_only b g e =
    let all : Only _ (λ bs g. (bs ≡ bytes_of g) × Limits g) = marked_only 71 82
    (takes_only (wanted_takes 1 (suc most_tokens) refusals.Limit) λ T tokens.
    takes_only (wanted_takes 1 (suc most_nonterminals) refusals.Limit) λ N nonterminals.
    takes_only (wanted_takes 0 N refusals.Limit) λ start known.
    takes_only (wanted_takes 1 (suc most_productions) refusals.Limit) λ P count.
    records_only T N P λ ps same held.
    ending_only (record { tokens = T; nonterminals = N; start = start; productions = ps })
    (rw (append-nil, same), held_limits _ tokens nonterminals known.1 (omega arith) held)) in
    all.holds b 0 g e

-- a book that reads is the bytes of the grammar it reads to
pub written_read : (b : List ℕ) {g : Grammar} → spells b ≡ reads g → b ≡ bytes_of g
written_read b {g} e = (spells_only b g e).0

pub read_limits : (b : List ℕ) {g : Grammar} → spells b ≡ reads g → Limits g
read_limits b {g} e = (spells_only b g e).1
