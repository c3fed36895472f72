-- Leading on word by word, and in a word from its lowest member on.
use mathlib.Core.Path.{◌≡◌, sym, ap, ◌∙◌}
use mathlib.Core.Logic.{◌↔◌, ◌≢◌, ◌⊎◌, inl, inr}
use mathlib.Core.Bool.{true, false, false≢true}
use mathlib.Core.List.{List}
use Prim.Native.Nat.{ℕ, ◌+◌, ◌-◌, ◌*◌, ◌/◌, ◌%◌, ◌≤◌, ◌<◌}
use native.Mathlib.Decide.{dec_lt, ℕ_discrete}
use native.Mathlib.Omega.{arith}
use lib.ListN.{get_or}
use Rattle.sets.specs.Sets.{member, Subset}
use Rattle.sets.specs.Words.{word_width, AreWords}
use Rattle.sets.proofs.Members.{member_none}
use Rattle.sets.proofs.Promise.{fits_members, places_are}
use Rattle.points.specs.Points.{Unite}
use Rattle.points.proofs.Promise.{points_fit, member_points, without, without_there, without_other}
use Rattle.answers.specs.Limits.{position_words, point_words}
use Rattle.parts.specs.Rows.{Rows}
use Rattle.parts.specs.Parts.{positions_in}
use Rattle.parts.specs.Leading.{Leads, LeadsWord, points_in, LedWord, Led}
use Rattle.parts.proofs.Growth.{rows_none, rows_then, rows_alike, rows_unite}

-- the members of a word that are not among the rest lead on
pub record Gone (base word rest next p q : ℕ) : Type 0 where
  pub low : base ≤ p
  pub from : member (p - base) word ≡ true
  pub done : member (p - base) rest ≡ false
  pub to : member q next ≡ true

module _ (base word : ℕ) (next : List ℕ) where
  pub led_none : (follow : List ℕ) → Rows point_words follow follow (Gone base word word (points_in next))
  led_none follow = rows_none follow (λ p q gone. false≢true (sym gone.done ∙ gone.from))

  pub led_more : (rest place : ℕ) {before now after : List ℕ}
      → Subset rest word
      → member place rest ≡ true
      → Rows point_words before now (Gone base word rest (points_in next))
      → Unite now ((base + place) * point_words) point_words next 0 after
      → Rows point_words before after (Gone base word (without place rest) (points_in next))
  led_more rest place sub there rows unite = rows_alike alike (rows_then rows (rows_unite (base + place) unite))
    where
      alike : (p q : ℕ)
          → (Gone base word rest (points_in next) p q ⊎ ((p ≡ base + place) × (member q (points_in next) ≡ true)))
          ↔ Gone base word (without place rest) (points_in next) p q
      alike p q = (to, from)
        where
          to : Gone base word rest (points_in next) p q ⊎ ((p ≡ base + place) × (member q (points_in next) ≡ true))
              → Gone base word (without place rest) (points_in next) p q
          to (inl g) =
              let other : p - base ≢ place =
              λ e. false≢true (sym g.done ∙ (ap (λ (k : ℕ). member k rest) e ∙ there)) in
              record { low = g.low; from = g.from; done = without_other rest place there (p - base) other ∙ g.done; to = g.to }
          to (inr (e, m)) =
              let here : p - base ≡ place = omega arith in
              record {
                low = omega arith;
                from = rw here (sub place there);
                done = rw here (without_there rest place there);
                to = m;
              }

          from : Gone base word (without place rest) (points_in next) p q
              → Gone base word rest (points_in next) p q ⊎ ((p ≡ base + place) × (member q (points_in next) ≡ true))
          from g = go (ℕ_discrete (p - base) place)
            where
              go : Dec (p - base ≡ place)
                  → Gone base word rest (points_in next) p q ⊎ ((p ≡ base + place) × (member q (points_in next) ≡ true))
              go (yes here) = inr (omega (arith, g.low), g.to)
              go (no other) =
                  inl (record { low = g.low; from = g.from; done = sym (without_other rest place there (p - base) other) ∙ g.done; to = g.to })

  pub led_all : {before after : List ℕ}
      → Rows point_words before after (Gone base word 0 (points_in next))
      → LedWord base word next before after
  led_all rows =
      rows_alike (λ p q. (
        λ g. record { low = g.low; from = g.from; to = g.to },
        λ l. record { low = l.low; from = l.from; done = member_none (p - base); to = l.to },
      )) rows

-- the positions of the first i words lead on
pub record Below (last : List ℕ) (next i p q : ℕ) : Type 0 where
  pub low : p < i * word_width
  pub leads : Leads (positions_in last) next p q

module _ (last next : List ℕ) (words : AreWords last) where
  pub below_none : (follow : List ℕ) → Rows point_words follow follow (Below last (points_in next) 0)
  below_none follow = rows_none follow (λ p q b. omega (arith, b.low))

  pub below_more : (i : ℕ) {before now after : List ℕ}
      → i < position_words
      → Rows point_words before now (Below last (points_in next) i)
      → LedWord (i * word_width) (get_or last i 0) next now after
      → Rows point_words before after (Below last (points_in next) (i + 1))
  below_more i inside rows led = rows_alike alike (rows_then rows led)
    where
      -- position p of word i
      here : (p : ℕ) → i * word_width ≤ p → p < i * word_width + word_width
          → member p (positions_in last) ≡ member (p - i * word_width) (get_or last i 0)
      here p low high =
          let word : 0 + p / word_width ≡ i = omega arith in
          let place : p % word_width ≡ p - i * word_width = omega arith in
          member_points last 0 position_words p words (omega arith) ∙ rw (word, place)

      alike : (p q : ℕ)
          → (Below last (points_in next) i p q ⊎ LeadsWord (i * word_width) (get_or last i 0) (points_in next) p q)
          ↔ Below last (points_in next) (i + 1) p q
      alike p q = (to, from)
        where
          to : Below last (points_in next) i p q ⊎ LeadsWord (i * word_width) (get_or last i 0) (points_in next) p q
              → Below last (points_in next) (i + 1) p q
          to (inl b) = record { low = omega (arith, b.low); leads = b.leads }
          to (inr l) =
              let short : p - i * word_width < word_width =
              fits_members word_width (p - i * word_width) (get_or last i 0) (words.fits i) l.from in
              record {
                low = omega (arith, l.low);
                leads = record { from = here p l.low (omega (arith, l.low)) ∙ l.from; to = l.to };
              }

          from : Below last (points_in next) (i + 1) p q
              → Below last (points_in next) i p q ⊎ LeadsWord (i * word_width) (get_or last i 0) (points_in next) p q
          from b = go (dec_lt p (i * word_width))
            where
              go : Dec (p < i * word_width)
                  → Below last (points_in next) i p q ⊎ LeadsWord (i * word_width) (get_or last i 0) (points_in next) p q
              go (yes before) = inl (record { low = before; leads = b.leads })
              go (no after) =
                  let low : i * word_width ≤ p = omega arith in
                  inr (record {
                    low = low;
                    from = sym (here p low (omega (arith, b.low))) ∙ b.leads.from;
                    to = b.leads.to;
                  })

  pub below_all : {i : ℕ} {before after : List ℕ}
      → position_words ≤ i
      → Rows point_words before after (Below last (points_in next) i)
      → Led last next before after
  below_all {i} all rows = rows_alike (λ p q. (λ b. b.leads, λ l. record { low = low p q l; leads = l })) rows
    where
      low : (p q : ℕ) → Leads (positions_in last) (points_in next) p q → p < i * word_width
      low p q l =
          omega (
            arith,
            places_are position_words,
            fits_members _ p (positions_in last) (points_fit last 0 position_words words) l.from,
          )
