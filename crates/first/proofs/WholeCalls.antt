-- FIRST of a symbol string that is done: it has the empty string exactly if all of the string's symbols are counted.
use mathlib.Core.Path.{◌≡◌, refl, sym, ap, ◌∙◌, subst}
use mathlib.Core.Bool.{true}
use mathlib.Core.Logic.{◌↔◌}
use mathlib.Core.List.{List}
use mathlib.Core.Option.{some}
use Prim.Native.Nat.{ℕ}
use lib.ListN.{length, length-map}
use Rattle.grammar.specs.Grammar.{empty, First}
use Rattle.grammar.proofs.Vanishing.{vanishes_whole}
use Rattle.sets.specs.Sets.{empty_string, member}
use Rattle.sets.specs.Calls.{number}
use Rattle.reader.specs.Book.{symbol_of}
use Rattle.book.proofs.Promise.{serves_limits}
use Rattle.first.specs.declared.forms.Trail.{Trail}
use Rattle.first.specs.Numbers.{At}
use Rattle.first.specs.Calls.{FirstTold}
use Rattle.first.proofs.Joined.{at_empty}
use Rattle.first.proofs.JoinedCalls.{spelled_known}

module _ {book symbols : List ℕ} {t : Trail} where
  pub first_of_whole : FirstTold book symbols t → (member empty_string (number t.set) ≡ true) ↔ (t.vanishing ≡ length symbols)
  first_of_whole s =
      let whole = vanishes_whole s.told.leading in
      let known = spelled_known symbols s.form s.spelled in
      let meaning = symbol_of s.grammar.tokens s.grammar.nonterminals in
      let long : length s.form ≡ length symbols =
      sym (length-map s.form some) ∙ ap length (sym s.spelled) ∙ length-map symbols meaning in (
        λ m.
            let a : At (First s.grammar s.form) empty_string = s.told.holds.sound empty_string m in
            let is = at_empty (serves_limits s.serves) known a.member a.in_set a.place in
            whole.0 (subst (First s.grammar s.form) is a.in_set) ∙ long,
        λ e. s.told.holds.complete empty_string (record { member = empty; place = refl; in_set = whole.1 (e ∙ sym long) }),
      )
