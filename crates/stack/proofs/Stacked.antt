-- The stack in its buffer: what its bytes spell, and what reading, popping and pushing do to it.
use mathlib.Core.Path.{◌≡◌, refl, sym, ◌∙◌, ap}
use mathlib.Core.List.{List, [], ◌∷◌, ◌++◌, append_assoc}
use Prim.Native.Nat.{ℕ, zero, suc, ◌+◌, ◌-◌, ◌≤◌, ◌<◌, max}
use native.Mathlib.Decide.{dec_lt}
use native.Mathlib.Nat.{add-zero, add-suc, suc-add}
use native.Mathlib.Omega.{arith}
use borrow.Author.Tests.{le-ltb}
use lib.ListN.{length, get_or, take, drop, set, replicate, take-append-drop, length-append, length-drop, length-replicate}
use lib.Seq.{sets, set_comm, set_at, get_or_at, drop-cons, take-suc, drop_at}
use Rattle.grammar.specs.Grammar.{Form, Every, nothing, each}
use Rattle.grammar.specs.declared.Symbol.{Symbol}
use Rattle.grammar.specs.declared.Symbol.TheVariants.{Nonterminal}
use Rattle.reader.specs.Fields.{symbol_of_byte, symbol_at, form_in}
use Rattle.reader.specs.Book.{byte_of}
use Rattle.reader.proofs.Promise.{byte_of_symbol}
use Rattle.stack.specs.Stack.{Spelled, stack_bytes, spelled_by, stacked}

-- the symbol of a byte is spelled by it
pub byte_spelled : (b : ℕ) → Spelled (symbol_of_byte b)
byte_spelled b = record { same = ap symbol_of_byte (byte_of_symbol b) }

pub nonterminal_spelled : (A : ℕ) → Spelled (Nonterminal A)
unfolding byte_of symbol_of_byte
nonterminal_spelled A =
    let high : 128 ≤ 128 + A = omega arith in
    let same : 128 + A - 128 ≡ A = omega arith in
    record { same = rw (le-ltb (128 + A) 128 high, symbol_of_byte, same) }

pub symbols_spelled : (book : List ℕ) (from n : ℕ) → Every Spelled (form_in book from n)
unfolding form_in
symbols_spelled book from zero = nothing
symbols_spelled book from (suc n) = each (byte_spelled _) (symbols_spelled book (suc from) n)

pub cells_spelled : (cells : List ℕ) (height : ℕ) → Every Spelled (spelled_by cells height)
unfolding spelled_by
cells_spelled cells zero = nothing
cells_spelled cells (suc h) = each (byte_spelled _) (cells_spelled cells h)

pub every_append : {P : Symbol → Type 0} {α β : Form} → Every P α → Every P β → Every P (α ++ β)
every_append nothing b = b
every_append (each h a) b = each h (every_append a b)

pub every_rest : {P : Symbol → Type 0} {x : Symbol} {α : Form} → Every P (x ∷ α) → Every P α
every_rest (each h a) = a

every_first : {P : Symbol → Type 0} {x : Symbol} {α : Form} → Every P (x ∷ α) → P x
every_first (each h a) = h

pub length_bytes : (α : Form) → length (stack_bytes α) ≡ length α
unfolding stack_bytes
length_bytes [] = refl
length_bytes (x ∷ α) = length-append (stack_bytes α) (byte_of x ∷ []) ∙ (omega (arith, length_bytes α))

pub length_symbols : (book : List ℕ) (from n : ℕ) → length (form_in book from n) ≡ n
unfolding form_in
length_symbols book from zero = refl
length_symbols book from (suc n) = ap suc (length_symbols book (suc from) n)

pub length_spelled : (cells : List ℕ) (height : ℕ) → length (spelled_by cells height) ≡ height
unfolding spelled_by
length_spelled cells zero = refl
length_spelled cells (suc h) = ap suc (length_spelled cells h)

sets_append : (us vs l : List ℕ) (i : ℕ) → sets l i (us ++ vs) ≡ sets (sets l i us) (i + length us) vs
sets_append [] vs l i = rw (add-zero i)
sets_append (u ∷ us) vs l i = sets_append us vs (set l i u) (suc i) ∙ rw (add-suc i (length us), suc-add i (length us))

-- a cell above those that are written keeps what it is set to
set_above : (us l : List ℕ) (i j v : ℕ) → i + length us ≤ j → sets (set l j v) i us ≡ set (sets l i us) j v
set_above [] l i j v h = refl
set_above (u ∷ us) l i j v h = ap (λ (m : List ℕ). sets m (suc i) us) (set_comm l j i v u (λ e. omega arith)) ∙ set_above us (set l i u) (suc i) j v (omega arith)

-- a loop that writes the symbols from the top down puts them on the stack
pub push_turn : (book : List ℕ) (at height count i : ℕ) (stack : List ℕ) {v : ℕ}
    → i < count
    → v ≡ byte_of (symbol_at book at i)
    → sets (set stack (height + count - 1 - i) v) height (stack_bytes (form_in book (at + 4 + (i + 1)) (count - (i + 1)))) ≡ sets stack height (stack_bytes (form_in book (at + 4 + i) (count - i)))
unfolding stack_bytes form_in symbol_at
push_turn book at height count i stack {v} h e =
    let top : ℕ = height + count - 1 - i in
    let rest : List ℕ = stack_bytes (form_in book (suc (at + 4 + i)) (count - (i + 1))) in
    let more : count - i ≡ suc (count - (i + 1)) = omega arith in
    let reach : height + length rest ≡ top = omega (arith, length_bytes (form_in book (suc (at + 4 + i)) (count - (i + 1))), length_symbols book (suc (at + 4 + i)) (count - (i + 1))) in
    let next : at + 4 + (i + 1) ≡ suc (at + 4 + i) = omega arith in
    rw (next, more, e)
    (set_above rest stack height top (byte_of (symbol_at book at i)) (omega arith)
    ∙ sym (sets_append rest (byte_of (symbol_at book at i) ∷ []) stack height ∙ ap (λ (k : ℕ). set (sets stack height rest) k (byte_of (symbol_at book at i))) reach))

pub push_over : (book : List ℕ) (at height count i : ℕ) (stack : List ℕ)
    → count ≤ i
    → sets stack height (stack_bytes (form_in book (at + 4 + i) (count - i))) ≡ stack
unfolding form_in stack_bytes
push_over book at height count i stack h = let none : count - i ≡ 0 = omega arith in rw none

zeros : (m n : ℕ) → n < m → replicate {A = ℕ} (m - n) 0 ≡ 0 ∷ replicate (m - suc n) 0
zeros m n h = let one : m - n ≡ suc (m - suc n) = omega arith in ap (λ (k : ℕ). replicate {A = ℕ} k 0) one

-- a stack on top of one symbol more
stacked_cons : (x : Symbol) (α : Form) (m : ℕ) (b : List ℕ)
    → stacked (x ∷ α) m b ≡ stack_bytes α ++ (byte_of x ∷ (replicate (m - suc (length α)) 0 ++ drop m b))
unfolding stacked stack_bytes
stacked_cons x α m b = append_assoc (stack_bytes α) (byte_of x ∷ []) (replicate (m - suc (length α)) 0 ++ drop m b)

-- the cell above a stack, in use before or not yet
stacked_next : (α : Form) (m : ℕ) (b : List ℕ)
    → length α ≤ m
    → length α < length b
    → (y : ℕ) × (stacked α m b ≡ stack_bytes α ++ (y ∷ (replicate (max m (suc (length α)) - suc (length α)) 0 ++ drop (max m (suc (length α))) b)))
unfolding stacked
stacked_next α m b h k = go (dec_lt (length α) m)
  where
    go : Dec (length α < m)
        → (y : ℕ) × (stacked α m b ≡ stack_bytes α ++ (y ∷ (replicate (max m (suc (length α)) - suc (length α)) 0 ++ drop (max m (suc (length α))) b)))
    go (yes l) = (0, let e : max m (suc (length α)) ≡ m = omega arith in rw (e, zeros m (length α) l))
    go (no n) =
        let e : max m (suc (length α)) ≡ suc m = omega arith in
        let f : m - length α ≡ 0 = omega arith in
        let g : suc m - suc (length α) ≡ 0 = omega arith in
        (get_or b m 0, rw (e, f, g, drop-cons b m 0 (omega arith)))

pub stacked_push : (x : Symbol) (α : Form) (m : ℕ) (b : List ℕ)
    → length α ≤ m
    → length α < length b
    → set (stacked α m b) (length α) (byte_of x) ≡ stacked (x ∷ α) (max m (suc (length α))) b
stacked_push x α m b h k =
    let (y, e) = stacked_next α m b h k in
    ap (λ (l : List ℕ). set l (length α) (byte_of x)) e ∙ set_at (stack_bytes α) y _ (byte_of x) (length α) (length_bytes α) ∙ sym (stacked_cons x α (max m (suc (length α))) b)

pub stacked_pop : (x : Symbol) (α : Form) (m : ℕ) (b : List ℕ)
    → suc (length α) ≤ m
    → set (stacked (x ∷ α) m b) (length α) 0 ≡ stacked α m b
unfolding stacked
stacked_pop x α m b h = ap (λ (l : List ℕ). set l (length α) 0) (stacked_cons x α m b) ∙ set_at (stack_bytes α) (byte_of x) _ 0 (length α) (length_bytes α) ∙ rw (zeros m (length α) h)

-- the symbol on top
pub stacked_top : (x : Symbol) (α : Form) (m : ℕ) (b : List ℕ)
    → Every Spelled (x ∷ α)
    → symbol_of_byte (get_or (stacked (x ∷ α) m b) (length α) 0) ≡ x
stacked_top x α m b e = ap (λ (l : List ℕ). symbol_of_byte (get_or l (length α) 0)) (stacked_cons x α m b) ∙ ap symbol_of_byte (get_or_at (stack_bytes α) (byte_of x) _ 0 (length α) (length_bytes α)) ∙ (every_first e).same

-- symbols put on the stack one after the other
pub stacked_pushes : (β α : Form) (m : ℕ) (b : List ℕ)
    → length α ≤ m
    → length β + length α ≤ length b
    → sets (stacked α m b) (length α) (stack_bytes β) ≡ stacked (β ++ α) (max m (length (β ++ α))) b
unfolding stack_bytes
stacked_pushes [] α m b h k = let e : max m (length α) ≡ m = omega arith in rw e
stacked_pushes (x ∷ β) α m b h k =
    let n = length-append β α in
    sets_append (stack_bytes β) (byte_of x ∷ []) (stacked α m b) (length α)
    ∙ ap (λ (l : List ℕ). set l (length α + length (stack_bytes β)) (byte_of x)) (stacked_pushes β α m b h (omega arith))
    ∙ ap (λ (i : ℕ). set (stacked (β ++ α) (max m (length (β ++ α))) b) i (byte_of x)) {y = length (β ++ α)} (omega (arith, length_bytes β))
    ∙ stacked_push x (β ++ α) (max m (length (β ++ α))) b (omega arith) (omega arith)
    ∙ ap (λ (i : ℕ). stacked (x ∷ (β ++ α)) i b) (omega arith)

-- the symbol on top gives way to others
pub stacked_replace : (x : Symbol) (β α : Form) (m : ℕ) (b : List ℕ)
    → suc (length α) ≤ m
    → length β + length α ≤ length b
    → sets (set (stacked (x ∷ α) m b) (length α) 0) (length α) (stack_bytes β) ≡ stacked (β ++ α) (max m (length (β ++ α))) b
stacked_replace x β α m b h k = rw (stacked_pop x α m b h) (stacked_pushes β α m b (omega arith) k)

bytes_spelled : (cells : List ℕ) (height : ℕ)
    → height ≤ length cells
    → stack_bytes (spelled_by cells height) ≡ take height cells
unfolding stack_bytes spelled_by
bytes_spelled cells zero k = refl
bytes_spelled cells (suc h) k = rw (bytes_spelled cells h (omega arith), byte_of_symbol (get_or cells h 0)) (sym (take-suc cells h 0 k))

-- what the first cells spell stands in them
pub stacked_spelled : (cells : List ℕ) (height : ℕ)
    → height ≤ length cells
    → cells ≡ stacked (spelled_by cells height) height cells
unfolding stacked
stacked_spelled cells h k =
    let none : h - length (spelled_by cells h) ≡ 0 = omega (arith, length_spelled cells h) in
    rw (none, bytes_spelled cells h k) (sym (take-append-drop h cells))

pub length_stacked : (α : Form) (m : ℕ) (b : List ℕ) → length α ≤ m → m ≤ length b → length (stacked α m b) ≡ length b
unfolding stacked
length_stacked α m b h k = simp (length-append, length_bytes, length-replicate, length-drop) (omega arith)

pub drop_stacked : (α : Form) (m : ℕ) (b : List ℕ) → length α ≤ m → drop m (stacked α m b) ≡ drop m b
unfolding stacked
drop_stacked α m b h = sym (ap (drop m) (append_assoc (stack_bytes α) (replicate (m - length α) 0) (drop m b))) ∙ drop_at (stack_bytes α ++ replicate (m - length α) 0) (drop m b) m (simp (length-append, length_bytes, length-replicate) (omega arith))

spells_bytes : {α : Form} → Every Spelled α → (rest : List ℕ) → spelled_by (stack_bytes α ++ rest) (length α) ≡ α
unfolding stack_bytes spelled_by
spells_bytes nothing rest = refl
spells_bytes (each {x = x} {xs = α} h e) rest =
    let below : (stack_bytes α ++ (byte_of x ∷ [])) ++ rest ≡ stack_bytes α ++ (byte_of x ∷ rest) = append_assoc (stack_bytes α) (byte_of x ∷ []) rest in
    rw (below, get_or_at (stack_bytes α) (byte_of x) rest 0 (length α) (length_bytes α), h.same) (ap (λ (l : List ℕ). x ∷ spelled_by l (length α)) below ∙ ap (λ (β : Form). x ∷ β) (spells_bytes e (byte_of x ∷ rest)))

-- the buffer spells the stack
pub spelled_stacked : {α : Form} → Every Spelled α → (m : ℕ) (b : List ℕ) → spelled_by (stacked α m b) (length α) ≡ α
unfolding stacked
spelled_stacked e m b = spells_bytes e _

pub stacked_again : (α : Form) (m : ℕ) (b : List ℕ) → length α ≤ m → stacked α m (stacked α m b) ≡ stacked α m b
unfolding stacked
stacked_again α m b h = ap (λ (rest : List ℕ). stack_bytes α ++ (replicate (m - length α) 0 ++ rest)) (drop_stacked α m b h)

-- the start symbol alone on the stack
pub stacked_open : (x : Symbol) (b : List ℕ)
    → 1 ≤ length b
    → set b 0 (byte_of x) ≡ stacked (x ∷ []) 1 (set b 0 (byte_of x))
unfolding stacked stack_bytes
stacked_open x [] h = absurd (omega arith)
stacked_open x (y ∷ b) h = refl
