-- House book H and its table meet the premises of the demands.
use mathlib.Core.List.{List}
use Prim.Native.Nat.{ℕ, ◌≤◌}
use lib.Dec.{T, ltb, ltb→lt}
use lib.ListN.{length, get_or}
use Rattle.grammar.specs.House.{house}
use Rattle.grammar.proofs.Tests.{below, below_each}
use Rattle.book.specs.Examples.{house_book}
use Rattle.table.specs.Examples.{house_table}
use Rattle.table.proofs.Promise.{house_built}
use Rattle.run.specs.Running.{Admits}
use Rattle.demands.specs.Demands.{Premises}
use Rattle.demands.proofs.Kept.{premises_admit}

module _ (tokens : List ℕ) (short : length tokens ≤ 4096) (known : T (below (length tokens) (λ i. ltb (get_or tokens i 0) 4))) where
  -- strings of H's tokens meet the premises
  unfoldable pub house_premises : Premises house_book house_table tokens
  unfolding house house_built
  house_premises = record { built = house_built; short = short; known = λ i h. ltb→lt (get_or tokens i 0) 4 (below_each (length tokens) (λ i. ltb (get_or tokens i 0) 4) known i h) }

  pub house_admits : (stack : List ℕ) → 1 ≤ length stack → Admits house house_table tokens stack
  unfolding house_built house_premises
  house_admits stack k = premises_admit house_premises stack k
