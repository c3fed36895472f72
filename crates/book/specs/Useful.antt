-- The steps to refusal 6: which nonterminals the right sides name, and the lowest nonterminal that is useless.
-- Document 01, "Refusals and their numbers", 6; only contracts inside the crate cite what stands here.
use Rattle.std.specs.Prelude.{◌≡◌, true, List, ℕ, ◌<◌, length, Option}
use Rattle.std.proofs.Math.Option.{some}
use Rattle.std.proofs.Math.ListN.{get_elem?}
use Rattle.std.proofs.lemmas.List.Edits.{sets}
use Rattle.grammar.specs.declared.Symbol.{Symbol}
use Rattle.grammar.specs.declared.Symbol.TheVariants.{Nonterminal}
use Rattle.grammar.specs.Grammar.{Form, Grammar, Rule, Useful}
use Rattle.sets.specs.Sets.{width, member, Exactly}
use Rattle.sets.specs.Calls.{set_at}
use Rattle.answers.specs.Limits.{most_productions}
use Rattle.answers.specs.Lowest.{FailingIn}
use Rattle.reader.specs.Book.{reads, spells}
use Rattle.reader.specs.Fields.{left_at, length_at, symbol_at, place_of_record, places_from}
use Rattle.book.specs.Closure.{Follows}
use Rattle.book.specs.Judging.{places_in}

-- k is the number a, and has a place in a set
pub record IsNumber (a k : ℕ) : Type 0 where
  pub same : k ≡ a
  pub fits : k < width

-- the symbol is the nonterminal k, and k has a place in a set
pub record IsNonterminal (s : Symbol) (k : ℕ) : Type 0 where
  pub same : s ≡ Nonterminal k
  pub fits : k < width

-- one of the first l symbols of the record at a place is the nonterminal k
pub record NamedAt (book : List ℕ) (at l k : ℕ) : Type 0 where
  pub index : ℕ
  pub inside : index < l
  pub names : IsNonterminal (symbol_at book at index) k

-- the nonterminals on the right side of record p
abbrev pub RightNames : List ℕ → ℕ → ℕ → Type 0
RightNames book p = NamedAt book (place_of_record book p) (length_at book (place_of_record book p))

-- the left side of record p
abbrev pub LeftName : List ℕ → ℕ → ℕ → Type 0
LeftName book p = IsNumber (left_at book (place_of_record book p))

-- 128 sets, of which each number p below `count` has those k as members of which P p holds
pub record SetsOf (P : ℕ → ℕ → Type 0) (count : ℕ) (sets : List ℕ) : Type 0 where
  pub size : length sets ≡ most_productions
  pub each : (p : ℕ) → p < count → Exactly width (set_at sets p) (P p)

-- the book spells a grammar of so many productions
pub record Lists (book : List ℕ) (count : ℕ) : Type 0 where
  pub grammar : Grammar
  pub read : spells book ≡ reads grammar
  pub counted : count ≡ length grammar.productions

-- room for the survey of a book that spells a grammar of so many productions
pub record Surveyable (book : List ℕ) (count : ℕ) (places names lefts : List ℕ) : Type 0 where
  pub lists : Lists book count
  pub places_sized : length places ≡ most_productions
  pub names_sized : length names ≡ most_productions
  pub lefts_sized : length lefts ≡ most_productions

-- the first `count` records: their places written over the cells, the names on their right sides, their left sides
pub record Surveyed (book : List ℕ) (count : ℕ) (cells places names lefts : List ℕ) : Type 0 where
  pub placed : places ≡ sets cells 0 (places_from book count 0)
  pub named : SetsOf (RightNames book) count names
  pub left : SetsOf (LeftName book) count lefts

-- the members of set number p, where they are all productive
abbrev pub KeptNames : (names : List ℕ) (productive : ℕ) → ℕ → ℕ → Type 0
KeptNames names productive p = Follows (set_at names p) (set_at names p) productive

-- the nonterminal k occurs in a form
pub record Occurs (β : Form) (k : ℕ) : Type 0 where
  pub index : ℕ
  pub at : get_elem? β index ≡ some (Nonterminal k)

-- the nonterminals of each right side, and each left side, as sets
pub record Sides (g : Grammar) (count : ℕ) (names lefts : List ℕ) : Type 0 where
  pub counted : count ≡ length g.productions
  pub names_of : {p A : ℕ} {β : Form} → Rule g p A β → Exactly width (set_at names p) (Occurs β)
  pub left_of : {p A : ℕ} {β : Form} → Rule g p A β → Exactly width (set_at lefts p) (λ k. k ≡ A)
  pub start_fits : g.start < width

-- the lowest number below `count` that is not in the set, if one is not
abbrev pub LowestMissing : (set count : ℕ) → Option ℕ → Type 0
LowestMissing set = FailingIn (λ k. member k set ≡ true)

-- the lowest useless nonterminal, if there is one
abbrev pub FirstUseless : Grammar → Option ℕ → Type 0
FirstUseless g = FailingIn (Useful g) g.nonterminals

-- r is the lowest useless nonterminal of any grammar with these sides, so many nonterminals and this start symbol
pub record TellsUseless (count : ℕ) (names lefts : List ℕ) (nonterminals start : ℕ) (r : Option ℕ) : Type 0 where
  pub first : (g : Grammar)
      → Sides g count names lefts
      → nonterminals ≡ g.nonterminals
      → start ≡ g.start
      → FirstUseless g r

-- the book spells the grammar, and these are the fields of its index
pub record Indexed (book places : List ℕ) (productions nonterminals start : ℕ) (g : Grammar) : Type 0 where
  pub read : spells book ≡ reads g
  pub placed : places ≡ places_in g.productions
  pub counted : productions ≡ length g.productions
  pub numbered : nonterminals ≡ g.nonterminals
  pub started : start ≡ g.start
