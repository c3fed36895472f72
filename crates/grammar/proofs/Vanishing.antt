-- The number of leading symbols that can vanish: it is determined, it is the length exactly where the form can vanish, and what
-- it is of two forms put together and of the beginning of one.
use mathlib.Core.Path.{◌≡◌, refl, ap}
use mathlib.Core.Bool.{cond}
use mathlib.Core.Logic.{◌↔◌, inl, inr}
use mathlib.Core.List.{[], ◌∷◌, ◌++◌}
use mathlib.Core.Option.{some}
use Prim.Native.Nat.{ℕ, zero, suc, ◌+◌, ◌≤◌, ◌<◌, min}
use native.Mathlib.Nat.{zero-add, suc-add, zero-min, min-zero, suc-min-suc}
use native.Mathlib.Decide.{dec_lt}
use native.Mathlib.Omega.{arith}
use borrow.Author.Tests.{lt-ltb, le-ltb}
use lib.Dec.{ltb}
use lib.ListN.{length, take, get_elem?}
use Rattle.grammar.specs.declared.Symbol.{Symbol}
use Rattle.grammar.specs.declared.Symbol.TheVariants.{Token}
use Rattle.grammar.specs.Grammar.{Form, Grammar, endmark, empty, itself, First, vanishes}
use Rattle.grammar.specs.Vanishing.{Vanishes}
use Rattle.grammar.proofs.Join.{End, Join}
use Rattle.grammar.proofs.Sets.{FirstOf, first_join, first_of_closed}
use Rattle.grammar.proofs.Append.{JoinedFirst, first_append}

module _ {g : Grammar} where
  -- a token never vanishes
  pub token_stays : (t : ℕ) → ¬ First g (Token t ∷ []) empty
  token_stays t f = none (first_join first_of_closed endmark f)
    where
      none : Join (FirstOf g) End (Token t ∷ []) endmark → ⊥
      none j = elim j [ ]

  -- no symbols: none can vanish
  pub vanishes_none : Vanishes g [] 0
  vanishes_none =
      record {
        inside = omega arith;
        before = λ i s below e. absurd (omega arith);
        stays = λ s e f. let bad : ◌≡◌ {A = ℕ} 0 1 = cc in omega arith;
      }

  module _ {s : Symbol} {α : Form} where
    -- a symbol that can vanish counts, and then the others are counted
    pub vanishes_more : First g (s ∷ []) empty → {n : ℕ} → Vanishes g α n → Vanishes g (s ∷ α) (suc n)
    vanishes_more here {n} rest = record { inside = omega (arith, rest.inside); before = go; stays = rest.stays }
      where
        go : (i : ℕ) (x : Symbol) → i < suc n → get_elem? (s ∷ α) i ≡ some x → First g (x ∷ []) empty
        go zero x below e = let same : s ≡ x = cc in rw same at here
        go (suc i) x below e = rest.before i x (omega arith) e

    -- one that cannot ends the count
    pub vanishes_ends : ¬ First g (s ∷ []) empty → Vanishes g (s ∷ α) 0
    vanishes_ends halts =
        record {
          inside = omega arith;
          before = λ i x below e. absurd (omega arith);
          stays = λ x e f. let same : x ≡ s = cc in halts (rw same at f);
        }

    vanishes_first : {n : ℕ} → Vanishes g (s ∷ α) (suc n) → First g (s ∷ []) empty
    vanishes_first v = v.before 0 s (omega arith) refl

    vanishes_rest : {n : ℕ} → Vanishes g (s ∷ α) (suc n) → Vanishes g α n
    vanishes_rest v =
        record {
          inside = omega (arith, v.inside);
          before = λ i x below e. v.before (suc i) x (omega arith) e;
          stays = v.stays;
        }

    vanishes_halts : Vanishes g (s ∷ α) 0 → ¬ First g (s ∷ []) empty
    vanishes_halts v = v.stays s refl

  -- two such numbers are equal
  pub vanishes_unique : (α : Form) (n m : ℕ) → Vanishes g α n → Vanishes g α m → n ≡ m
  vanishes_unique [] n m v w = omega (arith, v.inside, w.inside)
  vanishes_unique (s ∷ α) zero zero v w = refl
  vanishes_unique (s ∷ α) zero (suc m) v w = absurd (vanishes_halts v (vanishes_first w))
  vanishes_unique (s ∷ α) (suc n) zero v w = absurd (vanishes_halts w (vanishes_first v))
  vanishes_unique (s ∷ α) (suc n) (suc m) v w = ap suc (vanishes_unique α n m (vanishes_rest v) (vanishes_rest w))

  -- a form can vanish if its first symbol and the rest can
  first_parts : (s : Symbol) (α : Form) → First g (s ∷ α) empty → First g (s ∷ []) empty × First g α empty
  first_parts s α f = go ((first_append (s ∷ []) α empty).0 f)
    where
      go : JoinedFirst g (s ∷ []) α empty → First g (s ∷ []) empty × First g α empty
      go (inl (h, kept)) = absurd (kept refl)
      go (inr both) = both

  first_both : (s : Symbol) (α : Form) → First g (s ∷ []) empty → First g α empty → First g (s ∷ α) empty
  first_both s α f h = (first_append (s ∷ []) α empty).1 (inr (f, h))

  whole_number : (α : Form) (n : ℕ) → Vanishes g α n → First g α empty → n ≡ length α
  whole_number [] n v f = omega (arith, v.inside)
  whole_number (s ∷ α) zero v f = absurd (vanishes_halts v (first_parts s α f).0)
  whole_number (s ∷ α) (suc n) v f = ap suc (whole_number α n (vanishes_rest v) (first_parts s α f).1)

  number_whole : (α : Form) (n : ℕ) → Vanishes g α n → n ≡ length α → First g α empty
  number_whole [] n v e = vanishes itself
  number_whole (s ∷ α) zero v e = absurd (omega arith)
  number_whole (s ∷ α) (suc n) v e =
      first_both s α (vanishes_first v) (number_whole α n (vanishes_rest v) (omega arith))

  -- the number is the length exactly if the form can vanish
  pub vanishes_whole : {α : Form} {n : ℕ} → Vanishes g α n → First g α empty ↔ (n ≡ length α)
  vanishes_whole {α} {n} v = (whole_number α n v, number_whole α n v)

  append_before : (α β : Form) (n : ℕ) → n < length α → Vanishes g α n → Vanishes g (α ++ β) n
  append_before [] β n below v = absurd (omega arith)
  append_before (s ∷ α) β zero below v = vanishes_ends (vanishes_halts v)
  append_before (s ∷ α) β (suc n) below v =
      vanishes_more (vanishes_first v) (append_before α β n (omega arith) (vanishes_rest v))

  append_past : (α β : Form) (n m : ℕ) → length α ≤ n → Vanishes g α n → Vanishes g β m → Vanishes g (α ++ β) (n + m)
  append_past [] β zero m past v w = rw zero-add w
  append_past [] β (suc n) m past v w = absurd (omega (arith, v.inside))
  append_past (s ∷ α) β zero m past v w = absurd (omega arith)
  append_past (s ∷ α) β (suc n) m past v w =
      rw suc-add (vanishes_more (vanishes_first v) (append_past α β n m (omega arith) (vanishes_rest v) w))

  -- of two forms put together: that of the first, and where all of the first can vanish that of the second added
  pub vanishes_append : (α β : Form) (n m : ℕ)
      → Vanishes g α n
      → Vanishes g β m
      → Vanishes g (α ++ β) (cond (ltb n (length α)) n (n + m))
  vanishes_append α β n m v w = go (dec_lt n (length α))
    where
      go : Dec (n < length α) → Vanishes g (α ++ β) (cond (ltb n (length α)) n (n + m))
      go (yes below) = rw (lt-ltb n (length α) below) (append_before α β n below v)
      go (no past) =
          let over : length α ≤ n = omega arith in
          rw (le-ltb n (length α) over) (append_past α β n m over v w)

  -- of the beginning of a form: no more than it has symbols
  pub vanishes_beginning : (k : ℕ) (α : Form) (n : ℕ) → Vanishes g α n → Vanishes g (take k α) (min n k)
  vanishes_beginning zero α n v = rw min-zero vanishes_none
  vanishes_beginning (suc k) [] zero v = rw zero-min vanishes_none
  vanishes_beginning (suc k) [] (suc n) v = absurd (omega (arith, v.inside))
  vanishes_beginning (suc k) (s ∷ α) zero v = rw zero-min (vanishes_ends (vanishes_halts v))
  vanishes_beginning (suc k) (s ∷ α) (suc n) v =
      rw suc-min-suc (vanishes_more (vanishes_first v) (vanishes_beginning k α n (vanishes_rest v)))
