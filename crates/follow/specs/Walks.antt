-- What working out FOLLOW does to a family of sets: each right side is walked from the right, with one trailer; and
-- what it comes to. Document 01, "Sets and table". Only contracts inside the crate cite what stands here.
use Rattle.std.specs.Prelude.{◌≡◌, Bool, true, false, ◌&&◌, List, [], ◌∷◌, ℕ, ◌≤◌, ◌<◌, length, get_or, replicate, Result, MatchResult}
use Rattle.grammar.specs.declared.Symbol.{Symbol}
use Rattle.grammar.specs.declared.Symbol.TheVariants.{Token, Nonterminal}
use Rattle.grammar.specs.Grammar.{Form, Grammar, Every, Rule, Follow}
use Rattle.grammar.specs.Occurrence.{Behind}
use Rattle.sets.specs.Sets.{end_mark, empty_string, member, Subset, joined}
use Rattle.sets.specs.Calls.{number, set_at}
use Rattle.answers.specs.declared.Answer.{Answer}
use Rattle.answers.specs.Limits.{most_nonterminals, most_productions}
use Rattle.book.specs.declared.Index.{Index}
use Rattle.book.specs.Judging.{Refuses, Indexes}
use Rattle.reader.specs.Fields.{left_at, length_at, right_at, tail_at}
use Rattle.first.specs.Numbers.{FirstFamily}
use Rattle.first.specs.Trail.{symbol_set, trail, Sound, SetsAt, FirstAt}
use Rattle.first.specs.Forms.{Readable, Lists}
use Rattle.first.specs.Steps.{Made, united_at}
use Rattle.follow.specs.declared.follow.Passed.{Passed}
use Rattle.follow.specs.Families.{FollowFamily}

abbrev pub FollowSound : Grammar → List ℕ → Type 0
FollowSound g ys = Sound g (Follow g) ys

abbrev pub FollowAt : Grammar → List ℕ → Type 0
FollowAt g ys = SetsAt g (Follow g) ys

-- no production adds to FOLLOW, and the end mark follows the start symbol
pub record FollowClosed (g : Grammar) (fs ys : List ℕ) : Type 0 where
  pub at_start : member end_mark (get_or ys g.start 0) ≡ true
  pub closed : {p B : ℕ} {β : Form}
      → Rule g p B β
      → {A : ℕ} {v : Form}
      → Behind A v β
      → Subset (trail fs (get_or ys B 0) v) (get_or ys A 0)

-- some symbol of the form cannot vanish, so that nothing behind the form counts
pub data Halts (fs : List ℕ) : Form → Type 0 where
  halts_here : {s : Symbol} {α : Form} → member empty_string (symbol_set fs s) ≡ false → Halts fs (s ∷ α)
  halts_later : {s : Symbol} {α : Form} → Halts fs α → Halts fs (s ∷ α)

-- a symbol whose number, if it is a token, is a token's place in a set
pub data Narrow : Symbol → Type 0 where
  narrow_token : {t : ℕ} → t < end_mark → Narrow (Token t)
  narrow_nonterminal : {A : ℕ} → Narrow (Nonterminal A)

-- what comes behind a symbol adds to FOLLOW of it, if it is a nonterminal
unfoldable pub spread : Symbol → ℕ → List ℕ → List ℕ
spread (Token t) x ys = ys
spread (Nonterminal A) x ys = united_at ys A x

-- one symbol with a set behind it, which adds to its FOLLOW; what lies before it is its set joined with that one
pub record PassedOver (fs : List ℕ) (s : Symbol) (behind : Passed) (ys : List ℕ) (r : Passed) (after : List ℕ)
    : Type 0 where
  pub same : Bool
  pub added : Made (spread s (number behind.ahead)) ys after same
  pub settled : r.settled ≡ behind.settled && same
  pub ahead : number r.ahead ≡ joined empty_string (symbol_set fs s) (number behind.ahead)

-- each symbol of a form, from the right, with the trail of what lies behind it
unfoldable pub walked : List ℕ → ℕ → Form → List ℕ → List ℕ
walked fs k [] ys = ys
walked fs k (s ∷ α) ys = spread s (trail fs k α) (walked fs k α ys)

-- the record at a place, going on with FOLLOW of its left side; of its right side only from a position on
unfoldable pub follow_step : List ℕ → List ℕ → (place from : ℕ) → List ℕ → List ℕ
follow_step book fs place from ys = walked fs (set_at ys (left_at book place)) (tail_at book place from) ys

-- a position of the right side: 0, or from there on some symbol cannot vanish, so that before it FOLLOW of the left
-- side does not count
pub record TailAt (book fs : List ℕ) (place from : ℕ) : Type 0 where
  pub inside : from ≤ length_at book place
  pub halts : 0 < from → Halts fs (tail_at book place from)

module _ (book places : List ℕ) where
  abbrev pub follow_steps : (fs from : List ℕ) → ℕ → List ℕ → List ℕ
  follow_steps fs from p = follow_step book fs (get_or places p 0) (get_or from p 0)

  -- so many records can be read, and the tokens of their right sides have places in a set
  pub record Walkable (count : ℕ) : Type 0 where
    pub readable : Readable book places count
    pub narrow : (p : ℕ) → p < count → Every Narrow (right_at book (get_or places p 0))

  -- and each is walked from a position on
  pub record WalkableFrom (count : ℕ) (from : List ℕ) : Type 0 where
    pub walkable : Walkable count
    pub listed : count ≤ length from
    pub inside : (p : ℕ) → p < count → get_or from p 0 ≤ length_at book (get_or places p 0)

  -- the position from which each record has to be walked again
  pub record Tails (count : ℕ) (fs from : List ℕ) : Type 0 where
    pub each : (p : ℕ) → p < count → TailAt book fs (get_or places p 0) (get_or from p 0)

  -- FOLLOW of each nonterminal of the grammar that the index lists, with FIRST
  pub record FollowFound (count start : ℕ) (fs cells : List ℕ) : Type 0 where
    pub sized : length cells ≡ most_nonterminals
    pub found : (g : Grammar)
        → Lists book places count g
        → start ≡ g.start
        → FirstAt g fs
        → FollowFamily g cells

  -- the lookahead of record p, with FIRST and FOLLOW
  abbrev pub lookahead_of : List ℕ → List ℕ → ℕ → ℕ
  lookahead_of fs ys p = trail fs (set_at ys (left_at book (get_or places p 0))) (right_at book (get_or places p 0))

  -- so many lookaheads in the first cells, and no member beyond them
  pub record AheadFilled (fs ys : List ℕ) (count : ℕ) (cells : List ℕ) : Type 0 where
    pub sized : length cells ≡ most_productions
    pub each : (p : ℕ) → p < count → get_or cells p 0 ≡ lookahead_of fs ys p
    pub beyond : (p : ℕ) → count ≤ p → get_or cells p 0 ≡ 0

-- the index of the grammar that the book serves, and both families
pub record SetsServed (book fs ys : List ℕ) (index : Index) : Type 0 where
  pub given : Indexes book index
  pub first : FirstFamily given.grammar fs
  pub follow : FollowFamily given.grammar ys

-- both families of a book that is not refused; with a refusal no member anywhere
abbrev pub SetsFound : List ℕ → Result Index Answer → (fs ys : List ℕ) → Type 0
SetsFound book r fs ys =
    MatchResult r (SetsServed book fs ys)
    (λ a. Refuses book a × (fs ≡ replicate most_nonterminals 0) × (ys ≡ replicate most_nonterminals 0))
