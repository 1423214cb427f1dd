-- A column behind others, by what is left of its place.
use Rattle.std.proofs.Common.{◌≡◌, ℕ, ◌+◌, ◌-◌, ◌&&◌, nat_le, arith}
use Rattle.std.specs.Prelude.{nat_eq}
use Rattle.std.specs.Cmp.{both_ways}
use Rattle.std.proofs.lemmas.Bool.{eq-eqb, eqb-true, le-leb, leb-true}
use Rattle.vkg_lists.proofs.Bools.{and_parts, and_true}

pub column_behind : (n at column : ℕ) → (nat_le n column && nat_eq (column - n) at) ≡ nat_eq (n + at) column
column_behind n at column = both_ways _ _
    (λ h.
    let b = and_parts (nat_le n column) (nat_eq (column - n) at) h in
    let below = leb-true n column b.0 in
    let same = eqb-true (column - n) at b.1 in
    eq-eqb (n + at) column (omega (arith, below, same)))
    (λ h.
    let same = eqb-true (n + at) column h in
    and_true _ _ (le-leb n column (omega (arith, same))) (eq-eqb (column - n) at (omega (arith, same))))
