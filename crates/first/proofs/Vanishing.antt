-- How many leading symbols of a form can vanish, told by the sets of its symbols.
use mathlib.Core.Path.{◌≡◌, refl, sym, ◌∙◌, subst}
use mathlib.Core.Bool.{Bool, true, false, false≢true}
use mathlib.Core.List.{List, [], ◌∷◌}
use Prim.Native.Nat.{ℕ}
use Rattle.grammar.specs.declared.Symbol.{Symbol}
use Rattle.grammar.specs.Grammar.{Form, Grammar, empty, Every, nothing, each, Known, First}
use Rattle.grammar.specs.Vanishing.{Vanishes}
use Rattle.grammar.proofs.Vanishing.{vanishes_none, vanishes_more, vanishes_ends}
use Rattle.sets.specs.Sets.{empty_string, member}
use Rattle.sets.proofs.Promise.{join_neutral_right}
use Rattle.reader.specs.Book.{Limits}
use Rattle.first.specs.Numbers.{At, IsSet}
use Rattle.first.specs.Trail.{symbol_set, trail, vanishing, FirstAt}
use Rattle.first.proofs.Trail.{vanishing_more, vanishing_ends}
use Rattle.first.proofs.Closed.{first_is}
use Rattle.first.proofs.Joined.{at_empty}

module _ {g : Grammar} (limits : Limits g) {fs : List ℕ} (first : FirstAt g fs) where
  -- the set of a known symbol is its FIRST
  symbol_is : {s : Symbol} → Known g s → IsSet (symbol_set fs s) (First g (s ∷ []))
  unfolding trail
  symbol_is {s} known = rw join_neutral_right at (first_is limits first {α = s ∷ []} (each known nothing))

  symbol_vanishes : {s : Symbol} → Known g s → member empty_string (symbol_set fs s) ≡ true → First g (s ∷ []) empty
  symbol_vanishes {s} known m =
      let a : At (First g (s ∷ [])) empty_string = (symbol_is known).sound empty_string m in
      subst (First g (s ∷ [])) (at_empty limits (each known nothing) a.member a.in_set a.place) a.in_set

  symbol_stays : {s : Symbol} → Known g s → member empty_string (symbol_set fs s) ≡ false → ¬ First g (s ∷ []) empty
  symbol_stays known m f =
      let there = (symbol_is known).complete empty_string (record { member = empty; place = refl; in_set = f }) in
      false≢true (sym m ∙ there)

  pub vanishing_is : {α : Form} → Every (Known g) α → Vanishes g α (vanishing fs α)
  unfolding vanishing
  vanishing_is nothing = vanishes_none
  vanishing_is (each {x = s} {xs = α} known rest) =
      go (member empty_string (symbol_set fs s)) refl (vanishing_is rest)
    where
      go : (b : Bool)
          → member empty_string (symbol_set fs s) ≡ b
          → Vanishes g α (vanishing fs α)
          → Vanishes g (s ∷ α) (vanishing fs (s ∷ α))
      go true m counted = rw (vanishing_more fs s α m) (vanishes_more (symbol_vanishes known m) counted)
      go false m counted = rw (vanishing_ends fs s α m) (vanishes_ends (symbol_stays known m))
