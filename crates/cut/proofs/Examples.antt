-- The definitions at work where there is no pattern: spaces are dropped, and every other byte starts no token.
use mathlib.Core.Path.{◌≡◌, sym, subst, ◌∙◌}
use mathlib.Core.List.{List, [], ◌∷◌}
use mathlib.Core.Option.{none-ne-some, some-injective}
use Prim.Native.Nat.{ℕ, zero, suc, ◌+◌}
use native.Mathlib.Omega.{arith}
use lib.ListN.{length, replicate}
use Rattle.sets.specs.Calls.{no_set}
use Rattle.answers.specs.Answers.{done, stop}
use Rattle.answers.specs.Refusals.{no_token}
use Rattle.pattern.specs.Pattern.{Pattern}
use Rattle.states.specs.Machine.{rows_of}
use Rattle.std.specs.Prelude.{Ok, Err}
use Rattle.pieces.specs.Cut.{Ending}
use Rattle.pieces.specs.declared.Stuck.TheVariants.{NoToken}
use Rattle.pieces.specs.Cut.{space, numbers_of, NoTokenAt, Cut, end_of_line, space_dropped, no_token_starts, answer_of}
use Rattle.pieces.specs.Laid.{FirstByte}
use Rattle.cut.specs.Calls.{CutOutcome, cut}
use Rattle.cut.proofs.Nothing.{nothing_accepted, nothing_found}

nothing_matches : (w : List ℕ) → NoTokenAt (Pattern []) w
nothing_matches w = record { none = λ k n some_byte within m. none-ne-some m.meaning m.at }

-- the cut stops at the first byte that is no space
stops_at : {room : ℕ} (line : List ℕ) (start place : ℕ) → FirstByte line 0 start
    → Cut (Pattern []) room place line [] (Err (NoToken (place + start)))
stops_at [] start place first = absurd (none-ne-some first.byte first.at)
stops_at {room} (b ∷ line) zero place first =
    let here : b ≡ first.byte = some-injective b first.byte first.at in
    let at : place ≡ place + 0 = omega arith in
    subst (λ (i : ℕ). Cut (Pattern []) room place (b ∷ line) [] (Err (NoToken i))) at
    (no_token_starts (λ e. first.no_space (sym here ∙ e)) (nothing_matches (b ∷ line)))
stops_at {room} (b ∷ line) (suc start) place first =
    let dropped : b ≡ space = some-injective b space (first.spaces 0 (omega arith) (omega arith)) in
    let rest : FirstByte line 0 start =
    record {
      order = omega arith;
      spaces = λ i low high. first.spaces (suc i) (omega arith) (omega arith);
      byte = first.byte;
      at = first.at;
      no_space = first.no_space;
    } in
    let at : suc place + start ≡ place + suc start = omega arith in
    subst (λ (i : ℕ). Cut (Pattern []) room place (b ∷ line) [] (Err (NoToken i))) at
    (subst (λ (c : ℕ). Cut (Pattern []) room place (c ∷ line) [] (Err (NoToken (suc place + start)))) (sym dropped)
    (space_dropped (stops_at line start (suc place) rest)))

drops_all : {room : ℕ} (n place : ℕ) → Cut (Pattern []) room place (replicate n space) [] (Ok tt)
drops_all zero place = end_of_line
drops_all (suc n) place = space_dropped (drops_all n (suc place))

module _ {patterns line machine tokens : List ℕ} where
  nothing_cut : {ending : Ending} → Cut (Pattern []) (length tokens) 0 line [] ending
      → CutOutcome patterns [] line machine tokens (answer_of ending 0) machine tokens
  unfolding rows_of numbers_of
  nothing_cut along = cut (nothing_accepted patterns) nothing_found (omega arith) (omega arith) along

  -- any line is refused at its first byte that is no space
  pub no_pattern : {start : ℕ} → FirstByte line 0 start
      → CutOutcome patterns [] line machine tokens (stop no_token start 0 0 no_set) machine tokens
  unfolding answer_of
  no_pattern {start} first =
      let at : 0 + start ≡ start = omega arith in
      nothing_cut (subst (λ (i : ℕ). Cut (Pattern []) (length tokens) 0 line [] (Err (NoToken i))) at (stops_at line start 0 first))

-- and a line of spaces is done
pub only_spaces : {patterns machine tokens : List ℕ} (n : ℕ)
    → CutOutcome patterns [] (replicate n space) machine tokens (done 0) machine tokens
unfolding answer_of
only_spaces n = nothing_cut (drops_all n 0)
