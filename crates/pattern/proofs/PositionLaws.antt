-- What each relation on positions says of each form of expression, both ways: what a reader of patterns joins.
use mathlib.Core.Path.{◌≡◌, refl, sym, subst}
use mathlib.Core.Logic.{◌↔◌, ◌⊎◌, inl, inr}
use Prim.Native.Nat.{ℕ, ◌+◌}
use Rattle.pattern.specs.Pattern.{Class, InClass, Expression, one, cat, alt, plus, opt}
use Rattle.pattern.specs.Positions.{size, Null, null_cat, null_left, null_right, null_plus, FirstPosition, first_one, first_cat, first_past, first_left, first_right, first_plus, first_opt, LastPosition, last_one, last_cat, last_before, last_left, last_right, last_plus, last_opt, FollowPosition, follow_before, follow_behind, follow_cat, follow_left, follow_right, follow_within, follow_plus, follow_opt, Reads, reads_one, reads_before, reads_behind, reads_left, reads_right, reads_plus, reads_opt}

pub null_of_one : {c : Class} → ¬ Null (one c)
null_of_one z = elim z [ ]

only_first : {n p : ℕ} {c : Class} → FirstPosition n (one c) p → p ≡ n
only_first first_one = refl

pub first_of_one : {n p : ℕ} {c : Class} → FirstPosition n (one c) p ↔ (p ≡ n)
first_of_one {n} {p} {c} = (only_first, λ e. subst (λ (q : ℕ). FirstPosition n (one c) q) (sym e) first_one)

only_last : {n p : ℕ} {c : Class} → LastPosition n (one c) p → p ≡ n
only_last last_one = refl

pub last_of_one : {n p : ℕ} {c : Class} → LastPosition n (one c) p ↔ (p ≡ n)
last_of_one {n} {p} {c} = (only_last, λ e. subst (λ (q : ℕ). LastPosition n (one c) q) (sym e) last_one)

pub follow_of_one : {n p q : ℕ} {c : Class} → ¬ FollowPosition n (one c) p q
follow_of_one f = elim f [ ]

only_reads : {n p b : ℕ} {c : Class} → Reads n (one c) p b → (p ≡ n) × InClass c b
only_reads (reads_one h) = (refl, h)

-- what a position reads depends on its class alone, by `InClass`
pub reads_of_one : {n p b : ℕ} {c : Class} → Reads n (one c) p b ↔ ((p ≡ n) × InClass c b)
reads_of_one {n} {p} {b} {c} = (only_reads, λ h. subst (λ (q : ℕ). Reads n (one c) q b) (sym h.0) (reads_one h.1))

first_cases : {n p : ℕ} {x y : Expression}
    → FirstPosition n (cat x y) p
    → FirstPosition n x p ⊎ (Null x × FirstPosition (n + size x) y p)
first_cases (first_cat a) = inl a
first_cases (first_past z b) = inr (z, b)

follow_cases : {n p q : ℕ} {x : Expression}
    → FollowPosition n (plus x) p q
    → FollowPosition n x p q ⊎ (LastPosition n x p × FirstPosition n x q)
follow_cases (follow_within a) = inl a
follow_cases (follow_plus l d) = inr (l, d)

module _ {x y : Expression} where
  pub null_of_cat : Null (cat x y) ↔ (Null x × Null y)
  null_of_cat = (λ z. elim z [ null_cat a b ↦ (a, b) ], λ h. null_cat h.0 h.1)

  pub null_of_alt : Null (alt x y) ↔ (Null x ⊎ Null y)
  null_of_alt = (
    λ z. elim z [ null_left a ↦ inl a | null_right b ↦ inr b ],
    λ h. elim h [ inl a ↦ null_left a | inr b ↦ null_right b ],
  )

  module _ {n p : ℕ} where
    pub first_of_cat : FirstPosition n (cat x y) p ↔ (FirstPosition n x p ⊎ (Null x × FirstPosition (n + size x) y p))
    first_of_cat = (first_cases, λ h. elim h [ inl a ↦ first_cat a | inr b ↦ first_past b.0 b.1 ])

    pub first_of_alt : FirstPosition n (alt x y) p ↔ (FirstPosition n x p ⊎ FirstPosition (n + size x) y p)
    first_of_alt = (
      λ f. elim f [ first_left a ↦ inl a | first_right b ↦ inr b ],
      λ h. elim h [ inl a ↦ first_left a | inr b ↦ first_right b ],
    )

    pub last_of_cat : LastPosition n (cat x y) p ↔ (LastPosition (n + size x) y p ⊎ (LastPosition n x p × Null y))
    last_of_cat = (
      λ l. elim l [ last_cat b ↦ inl b | last_before a z ↦ inr (a, z) ],
      λ h. elim h [ inl b ↦ last_cat b | inr a ↦ last_before a.0 a.1 ],
    )

    pub last_of_alt : LastPosition n (alt x y) p ↔ (LastPosition n x p ⊎ LastPosition (n + size x) y p)
    last_of_alt = (
      λ l. elim l [ last_left a ↦ inl a | last_right b ↦ inr b ],
      λ h. elim h [ inl a ↦ last_left a | inr b ↦ last_right b ],
    )

    pub follow_of_cat : {q : ℕ}
        → FollowPosition n (cat x y) p q
        ↔ ((FollowPosition n x p q ⊎ FollowPosition (n + size x) y p q) ⊎ (LastPosition n x p × FirstPosition (n + size x) y q))
    follow_of_cat = (
      λ f. elim f [ follow_before a ↦ inl (inl a) | follow_behind b ↦ inl (inr b) | follow_cat l d ↦ inr (l, d) ],
      λ h. elim h [ inl (inl a) ↦ follow_before a | inl (inr b) ↦ follow_behind b | inr c ↦ follow_cat c.0 c.1 ],
    )

    pub follow_of_alt : {q : ℕ}
        → FollowPosition n (alt x y) p q
        ↔ (FollowPosition n x p q ⊎ FollowPosition (n + size x) y p q)
    follow_of_alt = (
      λ f. elim f [ follow_left a ↦ inl a | follow_right b ↦ inr b ],
      λ h. elim h [ inl a ↦ follow_left a | inr b ↦ follow_right b ],
    )

    pub reads_of_cat : {b : ℕ} → Reads n (cat x y) p b ↔ (Reads n x p b ⊎ Reads (n + size x) y p b)
    reads_of_cat = (
      λ r. elim r [ reads_before a ↦ inl a | reads_behind c ↦ inr c ],
      λ h. elim h [ inl a ↦ reads_before a | inr c ↦ reads_behind c ],
    )

    pub reads_of_alt : {b : ℕ} → Reads n (alt x y) p b ↔ (Reads n x p b ⊎ Reads (n + size x) y p b)
    reads_of_alt = (
      λ r. elim r [ reads_left a ↦ inl a | reads_right c ↦ inr c ],
      λ h. elim h [ inl a ↦ reads_left a | inr c ↦ reads_right c ],
    )

module _ {x : Expression} where
  pub null_of_plus : Null (plus x) ↔ Null x
  null_of_plus = (λ z. elim z [ null_plus a ↦ a ], null_plus)

  module _ {n p : ℕ} where
    pub first_of_plus : FirstPosition n (plus x) p ↔ FirstPosition n x p
    first_of_plus = (λ f. elim f [ first_plus a ↦ a ], λ a. first_plus a)

    pub first_of_opt : FirstPosition n (opt x) p ↔ FirstPosition n x p
    first_of_opt = (λ f. elim f [ first_opt a ↦ a ], λ a. first_opt a)

    pub last_of_plus : LastPosition n (plus x) p ↔ LastPosition n x p
    last_of_plus = (λ l. elim l [ last_plus a ↦ a ], λ a. last_plus a)

    pub last_of_opt : LastPosition n (opt x) p ↔ LastPosition n x p
    last_of_opt = (λ l. elim l [ last_opt a ↦ a ], λ a. last_opt a)

    pub follow_of_plus : {q : ℕ}
        → FollowPosition n (plus x) p q
        ↔ (FollowPosition n x p q ⊎ (LastPosition n x p × FirstPosition n x q))
    follow_of_plus = (follow_cases, λ h. elim h [ inl a ↦ follow_within a | inr c ↦ follow_plus c.0 c.1 ])

    pub follow_of_opt : {q : ℕ} → FollowPosition n (opt x) p q ↔ FollowPosition n x p q
    follow_of_opt = (λ f. elim f [ follow_opt a ↦ a ], λ a. follow_opt a)

    pub reads_of_plus : {b : ℕ} → Reads n (plus x) p b ↔ Reads n x p b
    reads_of_plus = (λ r. elim r [ reads_plus a ↦ a ], λ a. reads_plus a)

    pub reads_of_opt : {b : ℕ} → Reads n (opt x) p b ↔ Reads n x p b
    reads_of_opt = (λ r. elim r [ reads_opt a ↦ a ], λ a. reads_opt a)
