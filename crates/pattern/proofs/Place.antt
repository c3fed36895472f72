-- The place at which a text stops being a pattern is where the reader cannot go on, and it is one.
use mathlib.Core.Path.{◌≡◌, refl, sym, ap, ◌∙◌, subst}
use mathlib.Core.Logic.{◌⊎◌, inl, inr}
use mathlib.Core.List.{List, [], ◌∷◌, ◌++◌, append_assoc}
use mathlib.Core.Option.{some}
use Prim.Native.Nat.{ℕ, suc, ◌+◌, ◌-◌, ◌<◌, ◌≤◌}
use native.Mathlib.Nat.{zero-add}
use native.Mathlib.Omega.{arith}
use lib.ListN.{length, take, drop}
use lib.Seq.{take-add}
use Rattle.pattern.specs.Pattern.{Expression}
use Rattle.pattern.specs.Marks.{backslash, dash}
use Rattle.pattern.specs.Written.{IsPattern, Viable, Malformed}
use Rattle.pattern.specs.Text.{Bytes}
use Rattle.pattern.specs.Reader.{Pending, Standing, start, after, Outcome, means, refused, says, read_pattern}
use Rattle.pattern.proofs.Steps.{read_after, Passed, means_passed, Stopped, refused_stopped}
use Rattle.pattern.proofs.Complete.{pattern_read}
use Rattle.pattern.proofs.Spelled.{PendingBy, nothing_pending, item_pending, class_pending_lem, byte_pending, range_pending, Spells, spells, spells_backslash}
use Rattle.pattern.proofs.Sound.{after_spells, start_spells, read_pattern_lem}
use Rattle.pattern.proofs.Bytes.{bytes_left, bytes_right, bytes_tail, byte_below}
use Rattle.pattern.proofs.Completion.{LowerEnd, LowerByte, Completed, completed}

pub viable_read : (u : List ℕ) → Viable u → (s : Standing) × (after start u ≡ some s)
unfolding read_pattern says
viable_read u v =
    let p : Passed start u v.rest 0 v.meaning = means_passed u v.rest start 0 (pattern_read v.pattern) in
    (p.reached, p.read)

pub read_viable : (u : List ℕ) {s : Standing} → after start u ≡ some s → Viable u
unfolding read_pattern says
read_viable u {s} e =
    let c : Completed s = completed s in
    record { rest = c.rest; meaning = c.meaning; pattern = read_pattern_lem (read_after u c.rest start 0 e ∙ c.read (0 + length u)) }

pending_lower : {d : ℕ} {p : Pending} {u : List ℕ} → PendingBy d p u → Bytes u → LowerEnd p
pending_lower nothing_pending k = tt
pending_lower (item_pending w) k = tt
pending_lower (class_pending_lem es) k = tt
pending_lower (byte_pending es e) k = tt
pending_lower (range_pending {s = s} {t = t} es e) k =
    byte_below e (bytes_left t (dash ∷ []) (bytes_right s (t ++ (dash ∷ [])) (bytes_tail k)))

spells_lower : {s : Standing} {u : List ℕ} → Spells s u → Bytes u → LowerByte s
spells_lower (spells {s = s} {t = t} {u = u} r g p) k = pending_lower p (bytes_right t u (bytes_right s (t ++ u) k))
spells_lower (spells_backslash {s = s} p) k = spells_lower p (bytes_left s (backslash ∷ []) k)

-- what some numbers complete, bytes complete, if it consists of bytes
pub viable_bytes : (u : List ℕ)
    → Viable u
    → Bytes u
    → (rest : List ℕ) × Bytes rest × ((x : Expression) × IsPattern (u ++ rest) x)
unfolding read_pattern says
viable_bytes u v k =
    let (s, e) = viable_read u v in
    let c : Completed s = completed s in
    (c.rest, c.in_bytes (spells_lower (after_spells u start_spells e) k), (c.meaning, read_pattern_lem (read_after u c.rest start 0 e ∙ c.read (0 + length u))))

-- what begins a beginning begins a pattern
pub viable_before : (u v : List ℕ) → Viable (u ++ v) → Viable u
viable_before u v h = record { rest = v ++ h.rest; meaning = h.meaning; pattern = rw append_assoc at h.pattern }

viable_take : (s : List ℕ) (i j : ℕ) → i ≤ j → Viable (take j s) → Viable (take i s)
viable_take s i j h v =
    let e : j ≡ i + (j - i) = omega arith in
    viable_before (take i s) (take (j - i) (drop i s)) (subst Viable (ap (λ (n : ℕ). take n s) e ∙ take-add i (j - i) s) v)

-- the place is one
no_lower : {s : List ℕ} {i j : ℕ} → Malformed s i → Malformed s j → ¬ (i < j)
no_lower {s} {i} {j} a b h = a.blocked (omega (arith, b.inside)) (viable_take s (suc i) j h b.begun)

pub malformed_place : {s : List ℕ} {i j : ℕ} → Malformed s i → Malformed s j → i ≡ j
malformed_place a b = omega (arith, no_lower a b, no_lower b a)

stopped_malformed : (s : List ℕ) (k : ℕ) → Stopped start s k → ((x : Expression) → ¬ IsPattern s x) → Malformed s k
stopped_malformed s k p n =
    record {
      inside = p.inside;
      begun = read_viable (take k s) p.read;
      blocked = λ h v. let (t, e) = viable_read (take (suc k) s) v in let bad : ◌≡◌ {A = ℕ} 0 1 = cc (p.further h) in omega arith;
      not_pattern = n;
    }

-- the place is where the reader cannot go on
pub refused_malformed : (s : List ℕ) {i : ℕ} → read_pattern s ≡ refused i → Malformed s i
unfolding read_pattern says
refused_malformed s {i} e =
    let (k, same, p) = refused_stopped s start 0 e in
    subst (Malformed s) (sym (same ∙ zero-add k)) (stopped_malformed s k p (λ x w. let bad : ◌≡◌ {A = ℕ} 0 1 = cc (pattern_read w) in omega arith))

pub malformed_refused : (s : List ℕ) {i : ℕ} → Malformed s i → read_pattern s ≡ refused i
malformed_refused s {i} m = go (read_pattern s) refl
  where
    go : (o : Outcome) → read_pattern s ≡ o → o ≡ refused i
    go (means x) e = absurd (m.not_pattern x (read_pattern_lem e))
    go (refused j) e = ap refused (malformed_place (refused_malformed s e) m)

pub pattern_or_refused : (s : List ℕ) → ((x : Expression) × IsPattern s x) ⊎ ((i : ℕ) × Malformed s i)
pattern_or_refused s = go (read_pattern s) refl
  where
    go : (o : Outcome) → read_pattern s ≡ o → ((x : Expression) × IsPattern s x) ⊎ ((i : ℕ) × Malformed s i)
    go (means x) e = inl (x, read_pattern_lem e)
    go (refused i) e = inr (i, refused_malformed s e)

pub same_meaning : {s : List ℕ} {x y : Expression} → IsPattern s x → IsPattern s y → x ≡ y
same_meaning w v = let e : means _ ≡ means _ = sym (pattern_read w) ∙ pattern_read v in cc
