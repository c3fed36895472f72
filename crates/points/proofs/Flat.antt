-- The words of a set that lies in a slice: where they stand, what a store changes of them, and words that are written from
-- a place on.
use mathlib.Core.Path.{◌≡◌, refl, sym, ap, subst, ◌∙◌}
use mathlib.Core.List.{List, [], ◌∷◌}
use Prim.Native.Nat.{ℕ, zero, suc, ◌+◌, ◌^◌, ◌≤◌, ◌<◌}
use native.Mathlib.Nat.{add-zero}
use native.Mathlib.Decide.{dec_lt}
use native.Mathlib.Omega.{arith}
use lib.ListN.{length, get_or, set, length-set, get_or-eq_default}
use lib.Seq.{sets as written, get_or-set_same, get_or-set_other, set-get_or, set_out}
use Rattle.sets.specs.Words.{word_width, AreWords}
use Rattle.sets.proofs.Promise.{set_words}
use Rattle.points.specs.Points.{words_at}

next_word : (at j : ℕ) → at + suc j ≡ suc at + j
next_word at j = omega arith

pub words_at_length : (l : List ℕ) (at n : ℕ) → length (words_at l at n) ≡ n
unfolding words_at
words_at_length l at zero = refl
words_at_length l at (suc n) = ap suc (words_at_length l (suc at) n)

pub word_at : (l : List ℕ) (at n j : ℕ) → j < n → get_or (words_at l at n) j 0 ≡ get_or l (at + j) 0
unfolding words_at
word_at l at zero j inside = absurd (omega arith)
word_at l at (suc n) zero inside = rw add-zero
word_at l at (suc n) (suc j) inside = rw (next_word at j) (word_at l (suc at) n j (omega arith))

pub word_past : (l : List ℕ) (at n j : ℕ) → n ≤ j → get_or (words_at l at n) j 0 ≡ 0
word_past l at n j past = get_or-eq_default (words_at l at n) 0 (omega (arith, words_at_length l at n))

pub words_at_words : (l : List ℕ) (at n : ℕ) → AreWords l → AreWords (words_at l at n)
words_at_words l at n h = record { fits = λ j. go j (dec_lt j n) }
  where
    go : (j : ℕ) → Dec (j < n) → get_or (words_at l at n) j 0 < 2 ^ word_width
    go j (yes inside) = rw (word_at l at n j inside) (h.fits (at + j))
    go j (no past) = rw (word_past l at n j (omega arith)) (omega arith)

-- two slices in which the words of a set are the same
pub words_alike : (l k : List ℕ) (at from n : ℕ)
    → ((j : ℕ) → j < n → get_or l (at + j) 0 ≡ get_or k (from + j) 0)
    → words_at l at n ≡ words_at k from n
unfolding words_at
words_alike l k at from zero alike = refl
words_alike l k at from (suc n) alike =
    let first : get_or l at 0 ≡ get_or k from 0 = simp add-zero at (alike 0 (omega arith)) in
    let others : words_at l (suc at) n ≡ words_at k (suc from) n =
    words_alike l k (suc at) (suc from) n
    (λ j inside. rw (← (next_word at j), ← (next_word from j)) (alike (suc j) (omega arith))) in
    rw (first, others)

-- a store before the words leaves them as they are, and one among them replaces that word
pub words_before : (l : List ℕ) (i x at n : ℕ) → i < at → words_at (set l i x) at n ≡ words_at l at n
words_before l i x at n before =
    words_alike (set l i x) l at at n (λ j inside. get_or-set_other l i (at + j) x 0 (λ same. omega arith))

pub words_set : (l : List ℕ) (at n j x : ℕ) → j < n → at + j < length l
    → words_at (set l (at + j) x) at n ≡ set (words_at l at n) j x
unfolding words_at
words_set l at zero j x inside held = absurd (omega arith)
words_set l at (suc n) zero x inside held =
    subst (λ (i : ℕ). get_or (set l i x) at 0 ∷ words_at (set l i x) (suc at) n ≡ x ∷ words_at l (suc at) n)
    (sym (add-zero at))
    (rw (get_or-set_same l at x 0 (omega arith), words_before l at x (suc at) n (omega arith)))
words_set l at (suc n) (suc j) x inside held =
    subst
    (λ (i : ℕ). get_or (set l i x) at 0 ∷ words_at (set l i x) (suc at) n ≡ get_or l at 0 ∷ set (words_at l (suc at) n) j x)
    (sym (next_word at j))
    (rw (get_or-set_other l (suc at + j) at x 0 (λ same. omega arith))
    (ap (λ (ws : List ℕ). get_or l at 0 ∷ ws) (words_set l (suc at) n j x (omega arith) (omega arith))))

-- words that are written back change nothing, and with one of them replaced they change that one
pub written_back : (l : List ℕ) (at n : ℕ) → written l at (words_at l at n) ≡ l
unfolding words_at
written_back l at zero = refl
written_back l at (suc n) =
    ap (λ (k : List ℕ). written k (suc at) (words_at l (suc at) n)) (set-get_or l at 0) ∙ written_back l (suc at) n

pub written_one : (l : List ℕ) (at n j x : ℕ) → j < n
    → written l at (set (words_at l at n) j x) ≡ set l (at + j) x
unfolding words_at
written_one l at zero j x inside = absurd (omega arith)
written_one l at (suc n) zero x inside =
    rw (add-zero at, ← (words_before l at x (suc at) n (omega arith))) (written_back (set l at x) (suc at) n)
written_one l at (suc n) (suc j) x inside =
    ap (λ (k : List ℕ). written k (suc at) (set (words_at l (suc at) n) j x)) (set-get_or l at 0)
    ∙ rw (next_word at j) (written_one l (suc at) n j x (omega arith))

-- words that are written past the end change nothing
pub written_past : (l : List ℕ) (at : ℕ) (vs : List ℕ) → length l ≤ at → written l at vs ≡ l
written_past l at [] past = refl
written_past l at (v ∷ vs) past =
    ap (λ (k : List ℕ). written k (suc at) vs) (set_out l at v past) ∙ written_past l (suc at) vs (omega arith)

pub written_words : (l : List ℕ) (at : ℕ) (vs : List ℕ) → AreWords l → AreWords vs → AreWords (written l at vs)
written_words l at [] hl hv = hl
written_words l at (v ∷ vs) hl hv =
    written_words (set l at v) (suc at) vs (set_words l at v hl (hv.fits 0)) (record { fits = λ i. hv.fits (suc i) })

-- what stands elsewhere, and where the words were written
pub written_before : (l : List ℕ) (at : ℕ) (vs : List ℕ) (i : ℕ) → i < at → get_or (written l at vs) i 0 ≡ get_or l i 0
written_before l at [] i before = refl
written_before l at (v ∷ vs) i before =
    written_before (set l at v) (suc at) vs i (omega arith) ∙ get_or-set_other l at i v 0 (λ same. omega arith)

pub written_after : (l : List ℕ) (at : ℕ) (vs : List ℕ) (i : ℕ) → at + length vs ≤ i
    → get_or (written l at vs) i 0 ≡ get_or l i 0
written_after l at [] i after = refl
written_after l at (v ∷ vs) i after =
    written_after (set l at v) (suc at) vs i (omega arith) ∙ get_or-set_other l at i v 0 (λ same. omega arith)

pub written_there : (l : List ℕ) (at : ℕ) (vs : List ℕ) (j : ℕ) → j < length vs → at + j < length l
    → get_or (written l at vs) (at + j) 0 ≡ get_or vs j 0
written_there l at [] j inside held = absurd (omega arith)
written_there l at (v ∷ vs) zero inside held =
    rw (add-zero at)
    (written_before (set l at v) (suc at) vs at (omega arith) ∙ get_or-set_same l at v 0 (omega arith))
written_there l at (v ∷ vs) (suc j) inside held =
    rw (next_word at j)
    (written_there (set l at v) (suc at) vs j (omega arith) (omega (arith, length-set l at v)))

pub words_written : (l : List ℕ) (at : ℕ) (vs : List ℕ) → at + length vs ≤ length l
    → words_at (written l at vs) at (length vs) ≡ vs
unfolding words_at
words_written l at [] held = refl
words_written l at (v ∷ vs) held =
    let others : words_at (written (set l at v) (suc at) vs) (suc at) (length vs) ≡ vs =
    words_written (set l at v) (suc at) vs (omega (arith, length-set l at v)) in
    rw (written_before (set l at v) (suc at) vs at (omega arith), get_or-set_same l at v 0 (omega arith), others)
