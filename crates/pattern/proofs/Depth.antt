-- The text of a meaning has groups only where they are needed: no text with that meaning nests fewer.
use mathlib.Core.Path.{◌≡◌, refl, sym, ap}
use mathlib.Core.Bool.{Bool, true, false}
use mathlib.Core.List.{List, [], ◌∷◌}
use Prim.Native.Nat.{ℕ, suc, ◌≤◌}
use native.Mathlib.Omega.{arith}
use lib.Dec.{ltb}
use borrow.Author.Tests.{ltb-true, ltb-false}
use Rattle.pattern.specs.Pattern.{Expression, one, cat, alt, plus, opt}
use Rattle.pattern.specs.Marks.{bar, plus_sign, star_sign, question_mark}
use Rattle.pattern.specs.Written.{Sort, alternation, sequence, repetition, item, any_number, at_least_once, at_most_once, Written, alternative, or_else, alone, followed, unsigned, signed, one_byte, class, group}
use Rattle.pattern.specs.Text.{Draft, both, behind, rank, asked, drafted, class_text}
use Rattle.pattern.proofs.Drafts.{loosest, tightest}

-- as asked for by a looser sort it nests no deeper
asked_looser : (sort tighter own : Sort) (t : Draft)
    → rank sort ≤ rank tighter
    → (asked sort own t).depth ≤ (asked tighter own t).depth
unfolding asked
asked_looser sort tighter own t h = go (ltb (rank own) (rank sort)) refl (ltb (rank own) (rank tighter)) refl
  where
    go : (o : Bool)
        → ltb (rank own) (rank sort) ≡ o
        → (p : Bool)
        → ltb (rank own) (rank tighter) ≡ p
        → (asked sort own t).depth ≤ (asked tighter own t).depth
    go true e true f = rw (e, f, asked) (omega arith)
    go true e false f = absurd (omega (arith, ltb-true (rank own) (rank sort) e, ltb-false (rank own) (rank tighter) f))
    go false e true f = rw (e, f, asked) (omega arith)
    go false e false f = rw (e, f, asked) (omega arith)

-- and in one group more it is as tight as can be
asked_in_group : (sort own : Sort) (t : Draft) → (asked sort own t).depth ≤ suc t.depth
unfolding asked
asked_in_group sort own t = go (ltb (rank own) (rank sort)) refl
  where
    go : (o : Bool) → ltb (rank own) (rank sort) ≡ o → (asked sort own t).depth ≤ suc t.depth
    go true e = rw (e, asked) (omega arith)
    go false e = rw (e, asked) (omega arith)

-- the draft of a meaning is one draft, asked for by each sort
record Shape (x : Expression) : Type 0 where
  pub own : Sort
  pub draft : Draft
  pub as_asked : (sort : Sort) → drafted sort x ≡ asked sort own draft

item_asked : (sort : Sort) (t : Draft) → asked sort item t ≡ t
unfolding asked
item_asked sort t = rw (tightest sort, asked)

loosest_asked : (own : Sort) (t : Draft) → asked alternation own t ≡ t
unfolding asked
loosest_asked own t = rw (loosest own, asked)

shape : (x : Expression) → Shape x
unfolding drafted
shape (one c) = record { own = item; draft = record { text = class_text c; depth = 0 }; as_asked = λ sort. sym (item_asked sort (record { text = class_text c; depth = 0 })) }
shape (cat x y) = record { own = sequence; draft = both (drafted sequence x) [] (drafted repetition y); as_asked = λ sort. refl }
shape (alt x y) = record { own = alternation; draft = both (drafted alternation x) (bar ∷ []) (drafted sequence y); as_asked = λ sort. refl }
shape (plus x) = record { own = repetition; draft = behind (drafted item x) plus_sign; as_asked = λ sort. refl }
shape (opt (plus x)) = record { own = repetition; draft = behind (drafted item x) star_sign; as_asked = λ sort. refl }
shape (opt (one c)) = record { own = repetition; draft = behind (drafted item (one c)) question_mark; as_asked = λ sort. refl }
shape (opt (cat x y)) = record { own = repetition; draft = behind (drafted item (cat x y)) question_mark; as_asked = λ sort. refl }
shape (opt (alt x y)) = record { own = repetition; draft = behind (drafted item (alt x y)) question_mark; as_asked = λ sort. refl }
shape (opt (opt x)) = record { own = repetition; draft = behind (drafted item (opt x)) question_mark; as_asked = λ sort. refl }

drafted_looser : (x : Expression) (sort tighter : Sort)
    → rank sort ≤ rank tighter
    → (drafted sort x).depth ≤ (drafted tighter x).depth
drafted_looser x sort tighter h =
    let s : Shape x = shape x in
    omega (arith, asked_looser sort tighter s.own s.draft h, ap (λ (t : Draft). t.depth) (s.as_asked sort), ap (λ (t : Draft). t.depth) (s.as_asked tighter))

drafted_in_group : (x : Expression) → (drafted item x).depth ≤ suc (drafted alternation x).depth
drafted_in_group x =
    let s : Shape x = shape x in
    omega (arith, asked_in_group item s.own s.draft, ap (λ (t : Draft). t.depth) (s.as_asked item), ap (λ (t : Draft). t.depth) (s.as_asked alternation), ap (λ (t : Draft). t.depth) (loosest_asked s.own s.draft))

-- a star or a question mark asks for no more than its item
optional_depth : (x : Expression) → (drafted repetition (opt x)).depth ≤ (drafted item x).depth
unfolding drafted asked rank behind
optional_depth (one c) = omega arith
optional_depth (cat x y) = omega arith
optional_depth (alt x y) = omega arith
optional_depth (plus x) = omega arith
optional_depth (opt x) = omega arith

pub depth_needed : {sort : Sort} {d : ℕ} {s : List ℕ} {x : Expression} → Written sort d s x → (drafted sort x).depth ≤ d
unfolding drafted asked rank both behind
depth_needed (alternative {x = x} w) = omega (arith, drafted_looser x alternation sequence (omega arith), depth_needed w)
depth_needed (or_else w v) = omega (arith, depth_needed w, depth_needed v)
depth_needed (alone {x = x} w) = omega (arith, drafted_looser x sequence repetition (omega arith), depth_needed w)
depth_needed (followed w v) = omega (arith, depth_needed w, depth_needed v)
depth_needed (unsigned {x = x} w) = omega (arith, drafted_looser x repetition item (omega arith), depth_needed w)
depth_needed (signed w any_number) = depth_needed w
depth_needed (signed w at_least_once) = depth_needed w
depth_needed (signed {x = x} w at_most_once) = omega (arith, optional_depth x, depth_needed w)
depth_needed (one_byte e) = omega arith
depth_needed (class es) = omega arith
depth_needed (group {x = x} w) = omega (arith, drafted_in_group x, depth_needed w)
