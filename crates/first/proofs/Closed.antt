-- Sound and closed is exact, of numbers: words whose members have their reasons, and to which no production adds, are FIRST; and
-- with exact words the trail of a form is its FIRST.
use mathlib.Core.Path.{◌≡◌, refl}
use mathlib.Core.Bool.{true}
use mathlib.Core.List.{List, [], ◌∷◌}
use Prim.Native.Nat.{ℕ, ◌^◌, ◌≤◌, ◌<◌}
use native.Mathlib.Omega.{arith}
use lib.ListN.{length, take, get_or}
use lib.Seq.{length-take-le, get_or-take}
use Rattle.grammar.specs.declared.Symbol.TheVariants.{Nonterminal}
use Rattle.grammar.specs.Grammar.{Form, Grammar, Column, token, endmark, Member, Every, nothing, each, Rule, First, Known}
use Rattle.grammar.specs.Grammar.{known_token, known_nonterminal}
use Rattle.grammar.specs.Next.{merged}
use Rattle.grammar.proofs.Join.{Family, End, ended, Join, over, here, begins, past}
use Rattle.grammar.proofs.Sets.{FirstOf, first_of_closed, first_complete, first_join, first_not_end}
use Rattle.grammar.proofs.Sets as textbook
use Rattle.sets.specs.Sets.{width, empty_string, member, only}
use Rattle.sets.proofs.Promise.{only_fits}
use Rattle.reader.specs.Book.{Limits}
use Rattle.first.specs.Numbers.{place_of, IsSet, Sets, FamilyOf}
use Rattle.first.specs.Trail.{symbol_set, trail, Sound, FirstSound, SetsAt, FirstAt, FirstClosed}
use Rattle.first.proofs.Known.{Proper, below, the_end_mark, proper_token}
use Rattle.first.proofs.Trail.{token_set_fits, FittingForm, trail_fits}
use Rattle.first.proofs.Joins.{Reason, Covers, ProperFamily, trail_covers}
use Rattle.first.proofs.Members.{at_merged, first_proper, end_covers}
use Rattle.first.proofs.Additions.{first_trail_inside}

-- the family of sets that words are: columns of the grammar whose bit is set
pub record Bits (g : Grammar) (mark : Column → Member) (cells : List ℕ) (A : ℕ) (c : Column) : Type 0 where
  pub proper : Proper g c
  pub bit : member (place_of (mark c)) (get_or cells A 0) ≡ true

module _ {g : Grammar} where
  pub bits_cover : {mark : Column → Member} {cells : List ℕ} (A : ℕ) → Covers mark (Bits g mark cells A) (get_or cells A 0)
  bits_cover A = record { covered = λ c b. b.bit }

  pub join_proper : {F : Family} {K : Column → Type 0}
      → ProperFamily g F
      → ((c : Column) → K c → Proper g c)
      → {α : Form} {c : Column}
      → Every (Known g) α
      → Join F K α c
      → Proper g c
  join_proper f k h (over {c = c} i) = k c i
  join_proper f k (each (known_token t) rest) here = below t
  join_proper f k (each (known_nonterminal a) rest) (begins {A = A} {t = t} i) = below (f.proper A t a i)
  join_proper f k (each p rest) (past i j) = join_proper f k rest j

  module _ {P : ℕ → Member → Type 0} where
    pub sets_sound : {cells : List ℕ} → SetsAt g P cells → Sound g P cells
    sets_sound s = record { each = λ A a. record { reason = (s.each A a).sound } }

    -- the sets of a list, and of the first N cells of a longer one
    pub sets_at : {cells : List ℕ} → Sets g P cells → SetsAt g P cells
    sets_at s = record { each = s.each }

    pub taken_at : (cells : List ℕ) → Sets g P (take g.nonterminals cells) → SetsAt g P cells
    taken_at cells s = record { each = λ A a. rw (get_or-take g.nonterminals cells A 0 a) at (s.each A a) }

    -- of a family with no member beyond them
    pub family_at : {cells : List ℕ} → FamilyOf g P cells → SetsAt g P cells
    family_at f = record { each = f.each }

    pub at_taken : {cells : List ℕ} → g.nonterminals ≤ length cells → SetsAt g P cells → Sets g P (take g.nonterminals cells)
    at_taken {cells} room s = record { size = length-take-le g.nonterminals cells room; each = λ A a. rw (get_or-take g.nonterminals cells A 0 a) (s.each A a) }

  module _ (limits : Limits g) where
    pub family_taken : {P : ℕ → Member → Type 0} {cells : List ℕ} → FamilyOf g P cells → Sets g P (take g.nonterminals cells)
    family_taken f = at_taken (omega (arith, f.sized, limits.nonterminals_fit)) (family_at f)

    first_family_closed : {fs : List ℕ} → FirstClosed g fs → textbook.FirstClosed g (Bits g merged fs)
    first_family_closed {fs} c = record { closed = λ {p} {A} {β} rule {c = d} j. go p A β rule d j }
      where
        end_proper : (d : Column) → End d → Proper g d
        end_proper (token _) x'' = elim x'' [ ]
        end_proper endmark ended = the_end_mark

        bits_proper : ProperFamily g (Bits g merged fs)
        bits_proper = record { proper = λ A t a b. proper_token b.proper }

        go : (p A : ℕ) (β : Form) → Rule g p A β → (d : Column) → Join (Bits g merged fs) End β d → Bits g merged fs A d
        go p A β rule d j =
            let known : Every (Known g) β = limits.well_formed.right_known rule in
            record {
              proper = join_proper bits_proper end_proper known j;
              bit = c.closed rule (place_of (merged d)) ((trail_covers limits bits_proper fs (λ B b. bits_cover B) merged (λ t. refl) end_covers β known).covered d j);
            }

    -- FIRST: sound and closed is exact
    pub first_words_exact : {fs : List ℕ}
        → ((A : ℕ) → A < g.nonterminals → get_or fs A 0 < 2 ^ width)
        → FirstSound g fs
        → FirstClosed g fs
        → FirstAt g fs
    first_words_exact {fs} fits s c = record { each = λ A a. record { fits = fits A a; sound = (s.each A a).reason; complete = λ k i. go A (at_merged (First g (Nonterminal A ∷ [])) first_not_end i) } }
      where
        go : (A : ℕ) {k : ℕ} → Reason merged (FirstOf g A) k → member k (get_or fs A 0) ≡ true
        go A r = rw r.place at (first_complete (first_family_closed c) A r.column r.holds).bit

    -- with FIRST, trails are exact
    module _ {fs : List ℕ} (first : FirstAt g fs) where
      pub first_covers : (A : ℕ) → A < g.nonterminals → Covers merged (FirstOf g A) (get_or fs A 0)
      first_covers A a = record { covered = λ c f. (first.each A a).complete (place_of (merged c)) (record { member = merged c; place = refl; in_set = f }) }

      pub trail_of_first : {K : Column → Type 0} {k : ℕ} (mark : Column → Member)
          → ((t : ℕ) → place_of (mark (token t)) ≡ t)
          → Covers mark K k
          → {α : Form}
          → Every (Known g) α
          → Covers mark (Join (FirstOf g) K α) (trail fs k α)
      trail_of_first mark at_token h {α} known = trail_covers limits (first_proper limits.well_formed) fs first_covers mark at_token h α known

      pub known_fits : {α : Form} → Every (Known g) α → FittingForm fs α
      unfolding symbol_set
      known_fits nothing = nothing
      known_fits (each (known_token {t = t} h) rest) = each (token_set_fits t) (known_fits rest)
      known_fits (each (known_nonterminal {A = A} h) rest) = each (first.each A h).fits (known_fits rest)

      -- FIRST of a form of known symbols is the trail that ends with the empty string
      pub first_is : {α : Form} → Every (Known g) α → IsSet (trail fs (only empty_string) α) (First g α)
      first_is {α} known =
          record {
            fits = trail_fits fs (only_fits width empty_string (omega arith)) (known_fits known);
            sound = (first_trail_inside limits (sets_sound first) known).reason;
            complete = λ k i. go (at_merged (First g α) first_not_end i);
          }
        where
          go : {k : ℕ} → Reason merged (λ c. First g α (merged c)) k → member k (trail fs (only empty_string) α) ≡ true
          go r = rw r.place at ((trail_of_first merged (λ t. refl) end_covers known).covered r.column (first_join first_of_closed r.column r.holds))
