-- The bytes of a grammar have each production's record at its place, one behind the other up to the end.
use mathlib.Core.Path.{◌≡◌, refl, ◌∙◌}
use mathlib.Core.List.{List, [], ◌∷◌, ◌++◌, map, append_assoc}
use mathlib.Core.Option.{some, none-ne-some}
use Prim.Native.Nat.{ℕ, zero, suc, ◌+◌, ◌≤◌}
use native.Mathlib.Omega.{arith}
use native.Mathlib.Nat.{add-zero}
use lib.ListN.{length, get_or, take, drop, get_elem?, length-append, length-map}
use lib.Seq.{get_or-append-add}
use Rattle.grammar.specs.Grammar.{Form, Production, Grammar, Rule}
use Rattle.reader.specs.Book.{byte_of, record_bytes, records_bytes, bytes_of}
use Rattle.reader.proofs.Records.{records_size, record_place, RecordAt}

pub records_bytes_length : (ps : List Production) → length (records_bytes ps) ≡ records_size ps
unfolding records_bytes record_bytes records_size
records_bytes_length [] = refl
records_bytes_length (r ∷ ps) = omega (arith, length-append (map byte_of r.right) (records_bytes ps), length-map r.right byte_of, records_bytes_length ps)

records_size_suc : (ps : List Production) (p : ℕ) {r : Production} → get_elem? ps p ≡ some r → records_size (take (suc p) ps) ≡ records_size (take p ps) + 4 + length r.right
unfolding records_size
records_size_suc [] p {r} e = absurd (none-ne-some r e)
records_size_suc (q ∷ ps) zero {r} e = let same : q ≡ r = cc in rw same (omega arith)
records_size_suc (q ∷ ps) (suc p) e = omega (arith, records_size_suc ps p e)

records_size_take : (p : ℕ) (ps : List Production) → records_size (take p ps) ≤ records_size ps
unfolding records_size
records_size_take zero ps = omega arith
records_size_take (suc p) [] = omega arith
records_size_take (suc p) (r ∷ ps) = omega (arith, records_size_take p ps)

-- the bytes of the records, split at the record of production p
records_bytes_split : (ps : List Production) (p : ℕ) {r : Production} → get_elem? ps p ≡ some r
    → records_bytes ps ≡ records_bytes (take p ps) ++ (record_bytes r ++ records_bytes (drop (suc p) ps))
unfolding records_bytes
records_bytes_split [] p {r} e = absurd (none-ne-some r e)
records_bytes_split (q ∷ ps) zero {r} e = let same : q ≡ r = cc in rw same
records_bytes_split (q ∷ ps) (suc p) {r} e = rw (append_assoc, records_bytes_split ps p e)

map_at : {A : Type 0} (f : A → ℕ) (xs : List A) (ys : List ℕ) (i : ℕ) {x : A} → get_elem? xs i ≡ some x → get_or (map f xs ++ ys) i 0 ≡ f x
map_at f [] ys i {x} e = absurd (none-ne-some x e)
map_at f (y ∷ xs) ys zero {x} e = cc
map_at f (y ∷ xs) ys (suc i) e = map_at f xs ys i e

module _ {g : Grammar} {p A : ℕ} {β : Form} (rule : Rule g p A β) where
  abbrev place : ℕ
  place = record_place g.productions p

  abbrev behind : List ℕ
  behind = record_bytes (record { left = A; right = β }) ++ records_bytes (drop (suc p) g.productions)

  from_place : (i : ℕ) → get_or (bytes_of g) (place + i) 0 ≡ get_or behind i 0
  unfolding bytes_of record_place
  from_place i =
      let front : List ℕ = 71 ∷ (82 ∷ (g.tokens ∷ (g.nonterminals ∷ (g.start ∷ (length g.productions ∷ records_bytes (take p g.productions)))))) in
      let long : record_place g.productions p ≡ length front = omega (arith, records_bytes_length (take p g.productions)) in
      rw (records_bytes_split g.productions p rule.at, long) (get_or-append-add front behind i 0)

  pub record_at : RecordAt (bytes_of g) (record_place g.productions p) A β
  unfolding record_bytes
  record_at =
      record {
        first_mark = rw add-zero at (from_place 0);
        second_mark = from_place 1;
        left = from_place 2;
        size = from_place 3;
        symbols = λ i {s} e.
            let further : place + 4 + i ≡ place + suc (suc (suc (suc i))) = omega arith in
            rw further (from_place (suc (suc (suc (suc i)))) ∙ map_at byte_of β (records_bytes (drop (suc p) g.productions)) i e);
      }

  -- the next record follows at once
  pub record_place_suc : record_place g.productions (suc p) ≡ record_place g.productions p + 4 + length β
  unfolding record_place
  record_place_suc = omega (arith, records_size_suc g.productions p rule.at)

  -- and the record lies within the book
  pub record_within : record_place g.productions p + 4 + length β ≤ length (bytes_of g)
  unfolding record_place bytes_of records_size
  record_within = omega (arith, records_size_suc g.productions p rule.at, records_size_take (suc p) g.productions, records_bytes_length g.productions)
