-- The records that an index lists spell the grammar's productions, and can be read.
use mathlib.Core.Path.{◌≡◌, refl, ap, ◌∙◌}
use mathlib.Core.List.{List, ◌∷◌}
use Prim.Native.Nat.{ℕ, zero, suc, ◌+◌, ◌-◌, ◌≤◌, ◌<◌}
use native.Mathlib.Omega.{arith}
use lib.ListN.{length, take, drop, get_or}
use lib.Seq.{drop-cons}
use Rattle.grammar.specs.Grammar.{Form, Grammar, Rule}
use Rattle.reader.specs.Fields.{symbol_of_byte, symbol_at, form_in, left_at, length_at, right_at, tail_at}
use Rattle.reader.specs.Book.{Limits}
use Rattle.book.specs.Judging.{index_of}
use Rattle.grammar.proofs.Rules.{rule_below}
use Rattle.reader.proofs.Promise.{form_spelled, form_dropped}
use Rattle.book.proofs.Promise.{Entry, serves_limits, served}
use Rattle.first.specs.Trail.{form_of}
use Rattle.first.specs.Forms.{Legible, Readable, Lists}

-- the bytes from a place on, as a form
pub form_part : (book : List ℕ) (from count : ℕ)
    → from + count ≤ length book
    → form_of (take count (drop from book)) ≡ form_in book from count
unfolding form_in
form_part book from zero inside = refl
form_part book from (suc count) inside =
    rw (drop-cons book from 0 (omega arith)) (ap (λ (rest : Form). symbol_of_byte (get_or book from 0) ∷ rest) (form_part book (suc from) count (omega arith)))

-- the right side of the record at a place, cut out of the book
pub right_part : (book : List ℕ) (place : ℕ)
    → Legible book place
    → form_of (take (place + 4 + length_at book place - (place + 4)) (drop (place + 4) book)) ≡ right_at book place
right_part book place legible =
    let same : place + 4 + length_at book place - (place + 4) ≡ length_at book place = omega arith in
    rw same (form_part book (place + 4) (length_at book place) legible.inside)

module _ {book places : List ℕ} {count : ℕ} {g : Grammar} (index : Lists book places count g) where
  pub lists_limits : Limits g
  lists_limits = serves_limits index.serves

  module _ {p A : ℕ} {β : Form} (rule : Rule g p A β) where
    entry : Entry book (get_or places p 0) A β
    unfolding index_of
    entry = rw index.placed ((served index.serves {i = index_of g} refl).entry rule)

    -- the record of a production spells its two sides
    pub left_is : left_at book (get_or places p 0) ≡ A
    left_is = entry.left

    pub right_is : right_at book (get_or places p 0) ≡ β
    unfolding symbol_at
    right_is = rw entry.size (form_spelled book (get_or places p 0 + 4) β (λ i s e. entry.symbols i e))

    pub tail_is : (n : ℕ) → tail_at book (get_or places p 0) n ≡ drop n β
    tail_is n = form_dropped book (get_or places p 0 + 4) _ n ∙ ap (drop n) right_is

  -- each record below the count is a production
  pub rule_at : (p : ℕ) → p < count → (A : ℕ) × (β : Form) × Rule g p A β
  rule_at p h = rule_below g p (omega (arith, index.counted))

  record_legible : {p A : ℕ} {β : Form} → Rule g p A β → Legible book (get_or places p 0)
  record_legible rule = record { inside = omega (arith, (entry rule).size, (entry rule).within) }

  cells : length places ≡ 128
  unfolding index_of
  cells = rw index.placed (served index.serves {i = index_of g} refl).cells

  pub lists_readable : Readable book places count
  lists_readable =
      record {
        listed = omega (arith, index.counted, cells, lists_limits.productions_fit);
        each = λ p h. let (A, β, rule) = rule_at p h in record_legible rule;
      }
