-- Vacant cells: they are determined, and the first of them are vacant too.
use mathlib.Core.Path.{◌≡◌, sym, ◌∙◌}
use mathlib.Core.List.{List}
use Prim.Native.Nat.{ℕ, ◌≤◌}
use native.Mathlib.Omega.{arith}
use lib.ListN.{length, take, replicate, length-replicate, get_or-replicate}
use lib.Seq.{ext_get_or, length-take-le, get_or-take}
use Rattle.table.specs.Vacancy.{Vacancy}

-- cells that are one byte, repeated
pub all_vacant : (n : ℕ) → Vacancy n (replicate n 255)
all_vacant n = record { sized = length-replicate {A = ℕ} n 255; blank = λ i h. get_or-replicate {A = ℕ} n i 255 0 h }

pub vacancy_unique : (n : ℕ) {cells other : List ℕ} → Vacancy n cells → Vacancy n other → cells ≡ other
vacancy_unique n {cells} {other} a b =
    ext_get_or 0 cells other (a.sized ∙ sym b.sized)
    (λ i h. a.blank i (omega (arith, a.sized)) ∙ sym (b.blank i (omega (arith, a.sized))))

-- of enough cells, the first n are n
pub taken_sized : {n most : ℕ} {cells : List ℕ} → n ≤ most → Vacancy most cells → length (take n cells) ≡ n
taken_sized {n} {most} {cells} fits vacancy = length-take-le n cells (omega (arith, vacancy.sized))

-- and vacant
pub taken_vacant : {n most : ℕ} {cells : List ℕ} → n ≤ most → Vacancy most cells → Vacancy n (take n cells)
taken_vacant {n} {cells = cells} fits vacancy =
    record {
      sized = taken_sized fits vacancy;
      blank = λ i h. get_or-take n cells i 0 h ∙ vacancy.blank i (omega arith);
    }
