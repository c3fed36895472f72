-- The sets that a trail is made of, that it fits their width, and how a form is gone through from the left.
use mathlib.Core.Path.{◌≡◌, refl, sym, ◌∙◌}
use mathlib.Core.Bool.{true, false, and-false}
use mathlib.Core.List.{List, [], ◌∷◌}
use Prim.Native.Nat.{ℕ, suc, ◌+◌, ◌^◌, ◌≤◌, ◌<◌}
use native.Mathlib.Decide.{dec_lt}
use native.Mathlib.Nat.{zero-add}
use native.Mathlib.Numerals.{add-one}
use native.Mathlib.Omega.{arith}
use borrow.Author.Tests.{lt-ltb, le-ltb, eq-eqb}
use lib.ListN.{length, drop, get_or, drop_of_length-le}
use lib.Seq.{drop-cons}
use Rattle.grammar.specs.declared.Symbol.{Symbol}
use Rattle.grammar.specs.declared.Symbol.TheVariants.{Token, Nonterminal}
use Rattle.grammar.specs.Grammar.{Form, Every, nothing, each}
use Rattle.sets.specs.declared.Set.{Set}
use Rattle.sets.specs.Sets.{width, empty_string, member, only, joined}
use Rattle.sets.specs.Calls.{number, Single}
use Rattle.sets.proofs.Promise.{single_is, same_members, member_none, member_only, only_fits, joined_fits, join_assoc}
use Rattle.sets.proofs.Promise.{join_neutral_left, joined_vanishes, number_unique}
use Rattle.answers.proofs.Promise.{Unique}
use Rattle.reader.specs.Fields.{symbol_of_byte}
use Rattle.first.specs.declared.forms.Trail.{Trail}
use Rattle.first.specs.Trail.{token_set, symbol_set, trail, vanishing, Trailed, form_of}

-- the set of a token alone
pub token_set_lem : {t : ℕ} → t < width → token_set t ≡ only t
unfolding token_set
token_set_lem {t} below = rw (lt-ltb t width below, token_set)

token_set_past : {t : ℕ} → ¬ (t < width) → token_set t ≡ 0
unfolding token_set
token_set_past {t} past = rw (le-ltb t width (omega arith), token_set)

pub token_set_fits : (t : ℕ) → token_set t < 2 ^ width
token_set_fits t = go (dec_lt t width)
  where
    go : Dec (t < width) → token_set t < 2 ^ width
    go (yes below) = rw (token_set_lem below) (only_fits width t below)
    go (no past) = rw (token_set_past past) (omega arith)

pub single_token : {t : ℕ} {r : Set} → Single t r → number r ≡ token_set t
single_token {t} {r} s = go (dec_lt t width)
  where
    go : Dec (t < width) → number r ≡ token_set t
    go (yes below) = single_is below s ∙ sym (token_set_lem below)
    go (no past) = same_members (number r) 0 (λ k. s.members k ∙ rw (le-ltb t width (omega arith), and-false) (sym (member_none k))) ∙ sym (token_set_past past)

pub single_empty : {r : Set} → Single empty_string r → number r ≡ only empty_string
single_empty = single_is (omega arith)

-- nothing is joined to a set without the empty string
pub join_stops : (x y : ℕ) → member empty_string x ≡ false → joined empty_string x y ≡ x
unfolding joined
join_stops x y e = rw e

-- the symbols of a form have sets that fit the width
abbrev pub FittingForm : List ℕ → Form → Type 0
FittingForm fs = Every (λ s. symbol_set fs s < 2 ^ width)

pub symbol_set_fits : (fs : List ℕ) → ((A : ℕ) → get_or fs A 0 < 2 ^ width) → (s : Symbol) → symbol_set fs s < 2 ^ width
unfolding symbol_set
symbol_set_fits fs words (Token t) = token_set_fits t
symbol_set_fits fs words (Nonterminal A) = words A

pub every_symbol_fits : (fs : List ℕ) → ((A : ℕ) → get_or fs A 0 < 2 ^ width) → (α : Form) → FittingForm fs α
every_symbol_fits fs words [] = nothing
every_symbol_fits fs words (s ∷ α) = each (symbol_set_fits fs words s) (every_symbol_fits fs words α)

-- and so does its trail
pub trail_fits : (fs : List ℕ) {k : ℕ} → k < 2 ^ width → {α : Form} → FittingForm fs α → trail fs k α < 2 ^ width
unfolding trail
trail_fits fs small nothing = small
trail_fits fs {k} small (each {x = s} {xs = α} here rest) = joined_fits width empty_string (symbol_set fs s) (trail fs k α) here (trail_fits fs small rest)

-- a trail as it is worked out is determined, the set and the number
pub trailed_unique : (fs : List ℕ) (k : ℕ) (α : Form) → Unique (Trailed fs k α)
trailed_unique fs k α r s a b =
    let sets : r.set ≡ s.set = number_unique (a.holds ∙ sym b.holds) in
    let numbers : r.vanishing ≡ s.vanishing = a.leading ∙ sym b.leading in
    λ i. record { set = sets i; vanishing = numbers i }

-- a symbol whose set has the empty string counts, and then the others are counted; one whose set has not ends the count
module _ (fs : List ℕ) (s : Symbol) (α : Form) where
  pub vanishing_more : member empty_string (symbol_set fs s) ≡ true → vanishing fs (s ∷ α) ≡ suc (vanishing fs α)
  unfolding vanishing
  vanishing_more e = rw (e, vanishing)

  pub vanishing_ends : member empty_string (symbol_set fs s) ≡ false → vanishing fs (s ∷ α) ≡ 0
  unfolding vanishing
  vanishing_ends e = rw (e, vanishing)

-- a form gone through from the left, all of which vanishes so far: what has begun, joined with the trail of what is left, is the
-- trail of the whole, and so many symbols with the number of what is left are the number of the whole
pub record Begun (fs form : List ℕ) (k begun j : ℕ) : Type 0 where
  pub within : j ≤ length form
  pub vanishes : member empty_string begun ≡ true
  pub whole : joined empty_string begun (trail fs k (form_of (drop j form))) ≡ trail fs k (form_of form)
  pub leading : j + vanishing fs (form_of (drop j form)) ≡ vanishing fs (form_of form)

module _ {fs form : List ℕ} {k : ℕ} where
  pub begun_none : Begun fs form k (only empty_string) 0
  begun_none =
      record {
        within = omega arith;
        vanishes = member_only empty_string empty_string ∙ eq-eqb empty_string empty_string refl;
        whole = join_neutral_left empty_string (trail fs k (form_of form));
        leading = zero-add (vanishing fs (form_of form));
      }

  module _ {begun j : ℕ} (b : Begun fs form k begun j) where
    pub begun_over : length form ≤ j → {r : Trail} → number r.set ≡ joined empty_string begun k → r.vanishing ≡ length form
        → Trailed fs k (form_of form) r
    unfolding trail vanishing
    begun_over over set_is number_is =
        let none : drop j form ≡ [] = drop_of_length-le form over in
        record {
          holds = set_is ∙ rw none at b.whole;
          leading = omega (arith, number_is, b.within, rw none at b.leading);
        }

    module _ (below : j < length form) where
      abbrev here : Symbol
      here = symbol_of_byte (get_or form j 0)

      abbrev more : ℕ
      more = joined empty_string begun (symbol_set fs here)

      more_whole : joined empty_string more (trail fs k (form_of (drop (suc j) form))) ≡ trail fs k (form_of form)
      unfolding trail
      more_whole = rw join_assoc (rw (drop-cons form j 0 below) at b.whole)

      more_leading : j + vanishing fs (here ∷ form_of (drop (suc j) form)) ≡ vanishing fs (form_of form)
      more_leading = rw (drop-cons form j 0 below) at b.leading

      -- the symbol alone decides whether all vanishes with it
      more_vanishes : member empty_string more ≡ member empty_string (symbol_set fs here)
      more_vanishes = joined_vanishes empty_string begun (symbol_set fs here) ∙ rw b.vanishes

      pub begun_next : member empty_string more ≡ true → Begun fs form k more (j + 1)
      begun_next goes =
          record {
            within = omega arith;
            vanishes = goes;
            whole = rw add-one more_whole;
            leading =
                let counts = vanishing_more fs here (form_of (drop (suc j) form)) (sym more_vanishes ∙ goes) in
                rw add-one (omega (arith, counts, more_leading));
          }

      pub begun_stops : member empty_string more ≡ false → {r : Trail} → number r.set ≡ more → r.vanishing ≡ j
          → Trailed fs k (form_of form) r
      begun_stops halts set_is number_is =
          record {
            holds = set_is ∙ sym (join_stops more (trail fs k (form_of (drop (suc j) form))) halts) ∙ more_whole;
            leading =
                let ends = vanishing_ends fs here (form_of (drop (suc j) form)) (sym more_vanishes ∙ halts) in
                omega (arith, number_is, ends, more_leading);
          }
