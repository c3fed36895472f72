-- What reading a part of a pattern comes to, for any groups open around it: what the reader of one byte at a time says
-- from the place before is what it says from the place after, with the meaning read in between, or the place is
-- refused. Working definitions, which no public contract of a crate above cites.
use Rattle.std.specs.Prelude.{◌≡◌, ◌≢◌, List, ℕ, ◌<◌, length, get_or, Result, MatchResult}
use Rattle.std.proofs.Math.Option.{Option, some, none}
use Rattle.pattern.specs.Pattern.{Expression}
use Rattle.pattern.specs.Marks.{bar, close_group}
use Rattle.pattern.specs.Reader.{Begun, outside, standing, nothing_begun, with_item, alternation_of, refused, says}
use Rattle.parts.specs.declared.Part.{Part}
use Rattle.parts.specs.Parts.{Told, Tabled}
use Rattle.parts.specs.Places.{Behind, Unread}

-- the text goes on with neither a bar nor the end of a group
pub record GoesOn (text : List ℕ) (at : ℕ) : Type 0 where
  pub inside : at < length text
  pub no_bar : get_or text at 0 ≢ bar
  pub no_close : get_or text at 0 ≢ close_group

-- an item has to start: it follows, or nothing was begun before it
pub data MayStart (text : List ℕ) (at : ℕ) (a : Begun) : Type 0 where
  nothing_before : a.items ≡ none → MayStart text at a
  item_follows : GoesOn text at → MayStart text at a

-- the alternatives before, and the items of the last one
abbrev pub alternative : Option Expression → Option Expression → Begun
alternative before items = record { before = before; items = items }

module _ (text : List ℕ) (room at : ℕ) where
  -- from `at` to `next` an item with the meaning x, which a sign may still follow
  pub record ItemPassed (next : ℕ) (x : Expression) : Type 0 where
    pub same : (around : List Begun) (a : Begun)
        → says text (standing room around a (outside none)) at
        ≡ says text (standing room around a (outside (some x))) next

  -- a repetition with the meaning x
  pub record RepetitionPassed (next : ℕ) (x : Expression) : Type 0 where
    pub same : (around : List Begun) (a : Begun)
        → says text (standing room around a (outside none)) at
        ≡ says text (standing room around (with_item a x) (outside none)) next

  -- both stop at a place alike
  pub record ItemStopped (place : ℕ) : Type 0 where
    pub same : (around : List Begun) (a : Begun)
        → MayStart text at a
        → says text (standing room around a (outside none)) at ≡ refused place

  -- an alternative with the meaning x
  pub record SequencePassed (next : ℕ) (x : Expression) : Type 0 where
    pub same : (around : List Begun) (before : Option Expression)
        → says text (standing room around (alternative before none) (outside none)) at
        ≡ says text (standing room around (alternative before (some x)) (outside none)) next

  pub record SequenceStopped (place : ℕ) : Type 0 where
    pub same : (around : List Begun) (before : Option Expression)
        → says text (standing room around (alternative before none) (outside none)) at ≡ refused place

  -- alternatives with the meaning x
  pub record AlternationPassed (next : ℕ) (x : Expression) : Type 0 where
    pub begun : Begun
    pub means : alternation_of begun ≡ some x
    pub same : (around : List Begun)
        → says text (standing room around nothing_begun (outside none)) at
        ≡ says text (standing room around begun (outside none)) next

  pub record AlternationStopped (place : ℕ) : Type 0 where
    pub same : (around : List Begun)
        → says text (standing room around nothing_begun (outside none)) at ≡ refused place

-- a part was read: its meaning, what it tells and what it adds to the tables
pub record Meant (text : List ℕ) (at : ℕ) (Passed : ℕ → Expression → Type 0) (n : ℕ) (readers follow : List ℕ)
    (p : Part) (readers_after follow_after : List ℕ) : Type 0 where
  pub place : Behind text at p.at
  pub meaning : Expression
  pub passed : Passed p.at meaning
  pub told : Told n meaning p
  pub tabled : Tabled n meaning readers follow readers_after follow_after

-- a part of the text from `at` on: read, or refused at its place
abbrev pub PartRead : List ℕ → ℕ → (ℕ → Expression → Type 0) → (ℕ → Type 0)
    → ℕ → List ℕ → List ℕ → Result Part ℕ → List ℕ → List ℕ → Type 0
PartRead text at Passed Stopped n readers follow r readers_after follow_after =
    MatchResult r (λ p. Meant text at Passed n readers follow p readers_after follow_after) (Unread text at Stopped)

module _ (text : List ℕ) (room at n : ℕ) (readers follow : List ℕ) where
  module _ (r : Result Part ℕ) (readers_after follow_after : List ℕ) where
    abbrev pub ItemRead : Type 0
    ItemRead =
        PartRead text at (ItemPassed text room at) (ItemStopped text room at) n readers follow r readers_after
        follow_after

    abbrev pub RepetitionRead : Type 0
    RepetitionRead =
        PartRead text at (RepetitionPassed text room at) (ItemStopped text room at) n readers follow r readers_after
        follow_after

  module _ (p : Part) (readers_after follow_after : List ℕ) where
    -- the repetitions of an alternative so far
    abbrev pub RepetitionsMeant : Type 0
    RepetitionsMeant = Meant text at (SequencePassed text room at) n readers follow p readers_after follow_after

    -- all of them: the text does not go on behind them
    pub record SequenceMeant : Type 0 where
      pub part : RepetitionsMeant
      pub ends : ¬ GoesOn text p.at

    -- the alternatives so far
    pub record AlternativesMeant : Type 0 where
      pub part : Meant text at (AlternationPassed text room at) n readers follow p readers_after follow_after
      pub ends : ¬ GoesOn text p.at

    -- all of them: no bar stands behind them
    pub record AlternationMeant : Type 0 where
      pub alternatives : AlternativesMeant
      pub no_bar : get_or text p.at 0 ≢ bar

  module _ (r : Result Part ℕ) (readers_after follow_after : List ℕ) where
    abbrev pub SequenceRead : Type 0
    SequenceRead =
        MatchResult r (λ p. SequenceMeant p readers_after follow_after) (Unread text at (SequenceStopped text room at))

    abbrev pub AlternationRead : Type 0
    AlternationRead =
        MatchResult r (λ p. AlternationMeant p readers_after follow_after)
        (Unread text at (AlternationStopped text room at))
