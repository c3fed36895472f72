-- The sets of points of patterns together, by computing: what can come first, next, and after a string.
use mathlib.Core.Path.{◌≡◌, refl, sym, ap, subst, ◌∙◌}
use mathlib.Core.Bool.{Bool, true, false, ◌&&◌, false≢true}
use mathlib.Core.Logic.{◌⊎◌, inl, inr}
use mathlib.Core.List.{List, [], ◌∷◌}
use mathlib.Core.Option.{Option, some, none, none-ne-some, some-injective}
use Prim.Native.Nat.{ℕ, zero, suc, ◌+◌, ◌≤◌, ◌<◌}
use native.Mathlib.Decide.{ℕ_discrete}
use native.Mathlib.Omega.{arith}
use lib.ListN.{length, take, get_elem?}
use Rattle.sets.specs.Sets.{member, only, united}
use Rattle.sets.specs.Words.{places}
use Rattle.sets.proofs.Promise.{exactly_alike, exactly_none, exactly_united}
use Rattle.answers.specs.Limits.{most_patterns, most_positions, point_words}
use Rattle.pattern.specs.Pattern.{Expression}
use Rattle.pattern.specs.Positions.{size, Null, FirstPosition, LastPosition, FollowPosition, Reads, positions, Point}
use Rattle.pattern.specs.Positions.{position, Placed, Start, start_position, start_end, Onward, onward_position}
use Rattle.pattern.specs.Positions.{onward_end, ReadsIn, reads_in, Moved, moved, AfterFrom, After}
use Rattle.pattern.proofs.Promise.{below_length, start_position_below, onward_position_below, reads_below, moved_same}
use Rattle.pattern.proofs.Promise.{nullable}
use Rattle.patterns.specs.Calls.{point_at}
use Rattle.cut.specs.Patterns.{InSet}
use Rattle.cut.proofs.Pointing.{HasPlace, point_position, point_end, place_of_position, place_of_end, exactly_holds}
use Rattle.cut.proofs.Computing.{given, first_set, last_set, follow_set, reads_set, Points, only_exact, given_exact, passed_exact, first_exact, behind_last, follow_exact, reads_exact}
use Rattle.cut.proofs.PointSets.{start_place, moved_place}

-- the union of n sets
unfoldable pub union_below : ℕ → (ℕ → ℕ) → ℕ
union_below zero f = 0
union_below (suc n) f = united (union_below n f) (f n)

union_exact : (n : ℕ) (f : ℕ → ℕ) (P : ℕ → ℕ → Type 0) → ((k : ℕ) → k < n → Points (f k) (P k))
    → Points (union_below n f) (λ q. (k : ℕ) × (k < n) × P k q)
unfolding union_below
union_exact zero f P exact = exactly_none (places point_words) (λ q (k, below, p). omega arith)
union_exact (suc n) f P exact =
    exactly_alike (λ q. (to q, λ (k, below, p). from q k below p (ℕ_discrete k n)))
    (exactly_united (union_exact n f P (λ k below. exact k (omega arith))) (exact n (omega arith)))
  where
    to : (q : ℕ) → ((k : ℕ) × (k < n) × P k q) ⊎ P n q → (k : ℕ) × (k < suc n) × P k q
    to q (inl (k, below, p)) = (k, omega arith, p)
    to q (inr p) = (n, omega arith, p)

    from : (q k : ℕ) → k < suc n → P k q → Dec (k ≡ n) → ((k : ℕ) × (k < n) × P k q) ⊎ P n q
    from q k below p (yes same) = inr (subst (λ (i : ℕ). P i q) same p)
    from q k below p (no other) = inl (k, omega arith, p)

-- the set of a pattern, if there is one
unfoldable pub of_meaning : Option Expression → (Expression → ℕ) → ℕ
of_meaning none f = 0
of_meaning (some x) f = f x

-- the positions of a pattern lie among those of all
pattern_fits : (rs : List Expression) (k : ℕ) {x : Expression}
    → get_elem? rs k ≡ some x
    → positions (take k rs) + size x ≤ positions rs
unfolding positions
pattern_fits [] k {x} e = absurd (none-ne-some x e)
pattern_fits (y ∷ rs) zero {x} e = omega (arith, ap size (some-injective y x e))
pattern_fits (y ∷ rs) (suc k) e = omega (arith, pattern_fits rs k e)

module _ (rs : List Expression) where
  -- of pattern k, whose positions start at n
  unfoldable pub of_pattern : ℕ → (ℕ → Expression → ℕ) → ℕ
  unfolding of_meaning
  of_pattern k f = of_meaning (get_elem? rs k) (f (positions (take k rs)))

  of_exact : (k : ℕ) (f : ℕ → Expression → ℕ) (Q : ℕ → Expression → ℕ → Type 0)
      → ((n : ℕ) (x : Expression) → Placed rs k n x → Points (f n x) (Q n x))
      → Points (of_pattern k f) (λ q. (n : ℕ) × (x : Expression) × Placed rs k n x × Q n x q)
  unfolding of_pattern of_meaning
  of_exact k f Q exact = go (get_elem? rs k) refl
    where
      go : (o : Option Expression)
          → get_elem? rs k ≡ o
          → Points (of_meaning o (f (positions (take k rs)))) (λ q. (n : ℕ) × (x : Expression) × Placed rs k n x × Q n x q)
      go none e = exactly_none (places point_words) (λ q (n, x, at, p). none-ne-some x (sym e ∙ at.at))
      go (some x) e =
          exactly_alike (λ q. (
            λ p. (positions (take k rs), x, record { at = e; from = refl }, p),
            λ (n, y, at, p).
                subst (λ (z : Expression). Q (positions (take k rs)) z q) (some-injective y x (sym at.at ∙ e))
                (subst (λ (i : ℕ). Q i y q) at.from p),
          ))
          (exact (positions (take k rs)) x (record { at = e; from = refl }))

  unfoldable pub start_set : ℕ
  unfolding union_below of_pattern first_set given
  start_set =
      union_below (length rs) (λ k. of_pattern k (λ n x. united (first_set n x) (given (nullable x) (only (most_positions + k)))))

  unfoldable pub onward_set : ℕ → ℕ
  unfolding union_below of_pattern follow_set last_set given
  onward_set p =
      union_below (length rs) (λ k.
      of_pattern k (λ n x. united (follow_set n x p) (given (member p (last_set n x)) (only (most_positions + k)))))

  unfoldable pub readers_set : ℕ → ℕ
  unfolding union_below of_pattern reads_set
  readers_set b = union_below (length rs) (λ k. of_pattern k (λ n x. reads_set n x b))

  -- what comes after those of x that are among the readers
  unfoldable pub next_by : ℕ → ℕ → ℕ
  unfolding union_below given onward_set
  next_by x readers = union_below (positions rs) (λ p. given (member p x && member p readers) (onward_set p))

  -- what comes after x by byte b
  unfoldable pub next_set : ℕ → ℕ → ℕ
  unfolding next_by readers_set
  next_set x b = next_by x (readers_set b)

  -- and after a string
  unfoldable pub after_from : ℕ → List ℕ → ℕ
  unfolding next_set
  after_from x [] = x
  after_from x (b ∷ w) = after_from (next_set x b) w

  module _ (few : length rs ≤ most_patterns) (fit : positions rs ≤ most_positions) where
    fits : {k n : ℕ} {x : Expression} → Placed rs k n x → n + size x ≤ most_positions
    fits {k} {n} {x} at = omega (arith, at.from, pattern_fits rs k at.at)

    end_exact : (k : ℕ) → k < length rs → Points (only (most_positions + k)) (λ q. q ≡ most_positions + k)
    end_exact k below = only_exact (most_positions + k) (omega arith)

    pub start_exact : Points start_set (λ q. Start rs (point_at q))
    unfolding start_set
    start_exact =
        exactly_alike (λ q. (λ (k, below, (n, x, at, p)). to q k at p, λ s. from q (point_at q) refl s))
        (union_exact (length rs) _ (λ k q.
        (n : ℕ) × (x : Expression) × Placed rs k n x × (FirstPosition n x q ⊎ (Null x × (q ≡ most_positions + k)))) (λ k below.
        of_exact k _ (λ n x q. FirstPosition n x q ⊎ (Null x × (q ≡ most_positions + k))) (λ n x at.
        exactly_united (first_exact n x (fits at)) (passed_exact x (end_exact k below)))))
      where
        to : (q k : ℕ) {n : ℕ} {x : Expression} → Placed rs k n x → FirstPosition n x q ⊎ (Null x × (q ≡ most_positions + k))
            → Start rs (point_at q)
        to q k at (inl first) =
            let s : Start rs (position q) = start_position at first in
            subst (Start rs) (sym (point_position q (omega (arith, start_position_below s)))) s
        to q k at (inr (null, e)) =
            subst (Start rs) (sym (ap point_at e ∙ point_end k)) (start_end at null)

        from : (q : ℕ) (t : Point) → point_at q ≡ t → Start rs t
            → (k : ℕ) × (k < length rs)
            × ((n : ℕ) × (x : Expression) × Placed rs k n x × (FirstPosition n x q ⊎ (Null x × (q ≡ most_positions + k))))
        from q t e (start_position {k = k} {n = n} {p = p} {x = x} at first) = (
          k,
          below_length rs k at.at,
          (n, x, at, inl (subst (FirstPosition n x) (sym (place_of_position q e)) first)),
        )
        from q t e (start_end {k = k} {n = n} {x = x} at null) =
            (k, below_length rs k at.at, (n, x, at, inr (null, place_of_end q e)))

    pub onward_exact : (p : ℕ) → Points (onward_set p) (λ q. Onward rs p (point_at q))
    unfolding onward_set
    onward_exact p =
        exactly_alike (λ q. (λ (k, below, (n, x, at, f)). to q k at f, λ o. from q (point_at q) refl o))
        (union_exact (length rs) _ (λ k q.
        (n : ℕ) × (x : Expression) × Placed rs k n x × (FollowPosition n x p q ⊎ (LastPosition n x p × (q ≡ most_positions + k))))
        (λ k below.
        of_exact k _ (λ n x q. FollowPosition n x p q ⊎ (LastPosition n x p × (q ≡ most_positions + k))) (λ n x at.
        exactly_united (follow_exact n x p (fits at)) (behind_last p (fits at) (end_exact k below)))))
      where
        to : (q k : ℕ) {n : ℕ} {x : Expression} → Placed rs k n x
            → FollowPosition n x p q ⊎ (LastPosition n x p × (q ≡ most_positions + k))
            → Onward rs p (point_at q)
        to q k at (inl follows) =
            let o : Onward rs p (position q) = onward_position at follows in
            subst (Onward rs p) (sym (point_position q (omega (arith, onward_position_below o)))) o
        to q k at (inr (last, e)) = subst (Onward rs p) (sym (ap point_at e ∙ point_end k)) (onward_end at last)

        from : (q : ℕ) (t : Point) → point_at q ≡ t → Onward rs p t
            → (k : ℕ) × (k < length rs)
            × ((n : ℕ) × (x : Expression) × Placed rs k n x × (FollowPosition n x p q ⊎ (LastPosition n x p × (q ≡ most_positions + k))))
        from q t e (onward_position {k = k} {n = n} {x = x} at follows) = (
          k,
          below_length rs k at.at,
          (n, x, at, inl (subst (FollowPosition n x p) (sym (place_of_position q e)) follows)),
        )
        from q t e (onward_end {k = k} {n = n} {x = x} at last) =
            (k, below_length rs k at.at, (n, x, at, inr (last, place_of_end q e)))

    pub readers_exact : (b : ℕ) → Points (readers_set b) (λ p. ReadsIn rs p b)
    unfolding readers_set
    readers_exact b =
        exactly_alike (λ p. (λ (k, below, (n, x, at, r)). reads_in at r, λ r. from p r))
        (union_exact (length rs) _ (λ k p. (n : ℕ) × (x : Expression) × Placed rs k n x × Reads n x p b) (λ k below.
        of_exact k _ (λ n x p. Reads n x p b) (λ n x at. reads_exact n x b (fits at))))
      where
        from : (p : ℕ) → ReadsIn rs p b
            → (k : ℕ) × (k < length rs) × ((n : ℕ) × (x : Expression) × Placed rs k n x × Reads n x p b)
        from p (reads_in {k = k} {n = n} {x = x} at r) = (k, below_length rs k at.at, (n, x, at, r))

    both_true : (s t : Bool) → s && t ≡ true → (s ≡ true) × (t ≡ true)
    both_true true t e = (refl, e)
    both_true false t e = absurd (false≢true e)

    true_both : (s t : Bool) → s ≡ true → t ≡ true → s && t ≡ true
    true_both true t e d = d
    true_both false t e d = absurd (false≢true e)

    pub next_exact : (x b : ℕ) → Points (next_set x b) (λ q. Moved rs (InSet x) b (point_at q))
    unfolding next_set next_by
    next_exact x b =
        exactly_alike (λ q. (λ (p, below, (way, o)). to q p below way o, λ m. from q m))
        (union_exact (positions rs) _ (λ p q. ((member p x ≡ true) × ReadsIn rs p b) × Onward rs p (point_at q)) (λ p below.
        given_exact (member p x && member p (readers_set b))
        (λ e. let (l, r) = both_true (member p x) (member p (readers_set b)) e in (l, (readers_exact b).sound p r))
        (λ (l, r). true_both (member p x) (member p (readers_set b)) l ((readers_exact b).complete p r))
        (onward_exact p)))
      where
        to : (q p : ℕ) → p < positions rs → (member p x ≡ true) × ReadsIn rs p b → Onward rs p (point_at q)
            → Moved rs (InSet x) b (point_at q)
        to q p below (l, r) o =
            moved {p = p} (record { place = p; point = point_position p (omega arith); there = l }) r o

        from : (q : ℕ) → Moved rs (InSet x) b (point_at q)
            → (p : ℕ) × (p < positions rs) × (((member p x ≡ true) × ReadsIn rs p b) × Onward rs p (point_at q))
        from q (moved {p = p} i r o) =
            (p, omega (arith, reads_below r), ((rw (place_of_position i.place i.point) at i.there, r), o))

    pub after_exact : {x : ℕ} {S : Point → Type 0} (w : List ℕ) → ((t : Point) → S t → HasPlace t)
        → Points x (λ q. S (point_at q))
        → Points (after_from x w) (λ q. AfterFrom rs S w (point_at q))
    unfolding after_from AfterFrom
    after_exact [] have exact = exact
    after_exact {x = x} {S = S} (b ∷ w) have exact =
        let h = exactly_holds have exact in
        after_exact {x = next_set x b} {S = Moved rs S b} w (moved_place few fit)
        (exactly_alike (λ q. moved_same (λ s. (h.sound s, h.complete s))) (next_exact x b))

    -- what can come next once a string was read
    pub string_exact : (w : List ℕ) → Points (after_from start_set w) (λ q. After rs w (point_at q))
    string_exact w = after_exact w (start_place few fit) start_exact
