-- Viable prefix: where the machine stops, what it has read is the longest beginning that some derivable string shares.
use mathlib.Core.Path.{◌≡◌, refl, ap, subst}
use mathlib.Core.List.{List, [], ◌∷◌, ◌++◌, append_assoc}
use mathlib.Core.Option.{Option}
use Prim.Native.Nat.{ℕ, suc, ◌+◌, ◌-◌, ◌≤◌}
use native.Mathlib.Omega.{arith}
use native.Mathlib.Decide.{dec_le}
use lib.ListN.{length, take, length-append}
use lib.Seq.{take-append_seam, take-append-add}
use Rattle.grammar.specs.declared.Symbol.TheVariants.{Nonterminal}
use Rattle.grammar.specs.Grammar.{Form, spelled, Grammar, Column, Sentential, Productive, Reachable}
use Rattle.grammar.specs.Machine.{Exact, Run, Stopped, Begins, Longest}
use Rattle.grammar.proofs.Derivation.{derives_trans, derives_behind}
use Rattle.grammar.proofs.Leftmost.{spelled_append}
use Rattle.grammar.proofs.Join.{Behind, behind_split}
use Rattle.grammar.proofs.Useful.{names_from, Ends, names_end}
use Rattle.grammar.proofs.Machine.{run_derives, blocked}

-- that place is determined
pub place_determined : {g : Grammar} {w : List ℕ} {j k : ℕ} → Longest g w j → Longest g w k → j ≡ k
place_determined {j = j} {k = k} a b = omega (arith, a.longest k b.inside b.begun, b.longest j a.inside a.begun)

module _ {g : Grammar} where
  pub behind_reachable : (x : Form) {A : ℕ} {v β : Form} → Sentential g (x ++ β) → Behind A v β → Reachable g A
  behind_reachable x {v = v} s b =
      let (u, e) = behind_split b in
      record { left = x ++ u; right = v; occurs = rw append_assoc (rw e at s) }

  module _ {cell : ℕ → Column → Option ℕ} (productive : (A : ℕ) → Reachable g A → Productive g A) where
    -- what the machine has read begins some derivable string
    pub read_begins : {z : List ℕ} {β : Form} {u ps : List ℕ} → Run g cell z (Nonterminal g.start ∷ []) u ps β → Begins g u
    read_begins {β = β} {u = u} r =
        let s : Sentential g (spelled u ++ β) = run_derives r in
        let e : Ends g β = names_end (names_from β (λ A v b. productive A (behind_reachable (spelled u) s b))) in
        record { rest = e.string; derivable = rw spelled_append (derives_trans s (derives_behind (spelled u) e.derives)) }

    module _ (exact : Exact g cell) {z : List ℕ} {β : Form} {u ps : List ℕ} (r : Run g cell z (Nonterminal g.start ∷ []) u ps β) (s : Stopped g cell β z) where
      one_more : (m : ℕ) (y : List ℕ) → z ≡ y → Begins g (u ++ take (suc m) y) → length u + suc m ≤ length (u ++ z) → ⊥
      one_more m [] e b h = omega (arith, length-append u z, ap length e)
      one_more m (t ∷ y) e b h = blocked exact r s (t ∷ (take m y ++ b.rest)) (rw e) (rw append_assoc at b.derivable)

      no_longer : (j : ℕ) → j ≤ length (u ++ z) → Begins g (take j (u ++ z)) → j ≤ length u
      no_longer j h b = go (dec_le j (length u))
        where
          go : Dec (j ≤ length u) → j ≤ length u
          go (yes k) = k
          go (no k) =
              let m : ℕ = j - suc (length u) in
              let e : j ≡ length u + suc m = omega arith in
              let more : Begins g (take (length u + suc m) (u ++ z)) = subst (λ (n : ℕ). Begins g (take n (u ++ z))) e b in
              absurd (one_more m z refl (rw take-append-add at more) (omega arith))

      pub longest_read : Longest g (u ++ z) (length u)
      longest_read = record { inside = omega (arith, length-append u z); begun = rw take-append_seam (read_begins r); longest = no_longer }
