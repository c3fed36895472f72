-- Leading on word by word, and in a word from its lowest member on.
use mathlib.Core.Path.{◌≡◌, sym, ap, ◌∙◌}
use mathlib.Core.Logic.{◌≢◌, ◌⊎◌, inl, inr, ⊎_elim}
use mathlib.Core.Bool.{true, false, false≢true}
use mathlib.Core.List.{List}
use Prim.Native.Nat.{ℕ, ◌+◌, ◌-◌, ◌*◌, ◌≤◌}
use native.Mathlib.Decide.{ℕ_discrete}
use native.Mathlib.Omega.{arith}
use Rattle.sets.specs.Sets.{member, Subset, united}
use Rattle.sets.proofs.Promise.{member_none, or_left, or_right, or_cases}
use Rattle.points.specs.Points.{Unite}
use Rattle.points.proofs.Promise.{unite_length, unite_words, unite_unites, without, without_there, without_other}
use Rattle.answers.specs.Limits.{point_words}
use Rattle.moves.specs.Tables.{follow_of, set_of}
use Rattle.moves.specs.Growing.{Grown, WordLeads}

-- the row of one position is added
grown_unite : {before now after : List ℕ} {P : ℕ → Type 0} (follow : List ℕ) (p : ℕ)
    → Grown before now P
    → Unite now 0 point_words follow (p * point_words) after
    → Grown before after (λ (q : ℕ). P q ⊎ (member q (follow_of follow p) ≡ true))
unfolding follow_of set_of
grown_unite {before} {now} {after} {P} follow p g unite =
    record {
      five = record { long = unite_length unite ∙ g.five.long; fit = unite_words unite };
      kept = λ q m. rw whole (or_left q (set_of now 0) (follow_of follow p) (g.kept q m));
      new = λ q. ⊎_elim (λ old. rw whole (or_left q (set_of now 0) (follow_of follow p) (g.new q old)))
          (λ m. rw whole (or_right q (set_of now 0) (follow_of follow p) m));
      because = λ q m.
          ⊎_elim (λ old. ⊎_elim inl (λ p. inr (inl p)) (g.because q old)) (λ m. inr (inr m))
          (or_cases q (set_of now 0) (follow_of follow p) (rw whole at m));
    }
  where
    whole : set_of after 0 ≡ united (set_of now 0) (follow_of follow p)
    whole = unite_unites unite (omega (arith, g.five.long))

-- the members of a word that are not among the rest lead on
pub record Gone (base word rest : ℕ) (follow : List ℕ) (q : ℕ) : Type 0 where
  pub position : ℕ
  pub low : base ≤ position
  pub there : member (position - base) word ≡ true
  pub done : member (position - base) rest ≡ false
  pub leads : member q (follow_of follow position) ≡ true

module _ (base word : ℕ) (follow : List ℕ) where
  module _ (rest place : ℕ) (sub : Subset rest word) (there : member place rest ≡ true) where
    to_more : (q : ℕ) → Gone base word rest follow q ⊎ (member q (follow_of follow (base + place)) ≡ true)
        → Gone base word (without place rest) follow q
    to_more q (inl g) =
        let other : g.position - base ≢ place =
        λ e. false≢true (sym g.done ∙ (ap (λ (k : ℕ). member k rest) e ∙ there)) in
        record {
          position = g.position;
          low = g.low;
          there = g.there;
          done = without_other rest place there (g.position - base) other ∙ g.done;
          leads = g.leads;
        }
    to_more q (inr m) =
        let here : base + place - base ≡ place = omega arith in
        record {
          position = base + place;
          low = omega arith;
          there = rw here (sub place there);
          done = rw here (without_there rest place there);
          leads = m;
        }

    from_more : (q : ℕ) → Gone base word (without place rest) follow q
        → Gone base word rest follow q ⊎ (member q (follow_of follow (base + place)) ≡ true)
    from_more q g = go (ℕ_discrete (g.position - base) place)
      where
        go : Dec (g.position - base ≡ place)
            → Gone base word rest follow q ⊎ (member q (follow_of follow (base + place)) ≡ true)
        go (yes here) =
            let same : g.position ≡ base + place = omega (arith, g.low) in
            inr (rw same at g.leads)
        go (no other) =
            inl (record {
              position = g.position;
              low = g.low;
              there = g.there;
              done = sym (without_other rest place there (g.position - base) other) ∙ g.done;
              leads = g.leads;
            })

    pub led_more : {before now after : List ℕ}
        → Grown before now (Gone base word rest follow)
        → Unite now 0 point_words follow ((base + place) * point_words) after
        → Grown before after (Gone base word (without place rest) follow)
    led_more g unite =
        let more = grown_unite follow (base + place) g unite in
        record {
          five = more.five;
          kept = more.kept;
          new = λ q gone. more.new q (from_more q gone);
          because = λ q m. ⊎_elim inl (λ p. inr (to_more q p)) (more.because q m);
        }

  pub led_all : {before after : List ℕ} → Grown before after (Gone base word 0 follow) → Grown before after (WordLeads base word follow)
  led_all g =
      record {
        five = g.five;
        kept = g.kept;
        new = λ q l.
            g.new q (record {
              position = l.position;
              low = l.low;
              there = l.there;
              done = member_none (l.position - base);
              leads = l.leads;
            });
        because = λ q m.
            ⊎_elim inl
            (λ p. inr (record { position = p.position; low = p.low; there = p.there; leads = p.leads }))
            (g.because q m);
      }
