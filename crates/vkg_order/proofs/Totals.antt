-- The orders of values and of entries are total.
use Rattle.std.proofs.Common.{◌≡◌, refl, List, [], ◌∷◌, Equal}
use Rattle.std.specs.Cmp.{IsTotalOrder, back_total, nat_cmp_total, on_total, then_total}
use Rattle.std.proofs.lemmas.Cmp.{nat_list_cmp_total}
use Rattle.std.proofs.lemmas.Map.Lookups.{exact_bytes}
use Rattle.vkg_lists.proofs.Orders.{then_equal}
use Rattle.vkg_cells.proofs.OrderLemmas.{order-total}
use Rattle.vkg_order.specs.declared.modifiers.Direction.{Direction}
use Rattle.vkg_order.specs.declared.modifiers.Direction.TheVariants.{Ascending, Descending}
use Rattle.vkg_order.specs.Entries.{Entry, directed_cmp, entry_cmp, first_value, keys_cmp, other_values}
use Rattle.vkg_order.specs.Kept.{line_first_cmp}
use Rattle.vkg_order.specs.Values.{sort_key, value_cmp}

pub value-total : IsTotalOrder value_cmp
unfolding value_cmp
value-total = then_total (on_total (λ v. (sort_key v).0) nat_cmp_total) (on_total (λ v. (sort_key v).1) order-total)

directed-total : (d : Direction) → IsTotalOrder (directed_cmp d)
directed-total Ascending = value-total
directed-total Descending = back_total value-total

all_level : {A : Type 0} → IsTotalOrder (λ (x y : A). Equal)
all_level = record { antisymm = λ x y. refl; trans = λ x y z p q. p; congr = λ x y z p. refl }

pub keys-total : (directions : List Direction) → IsTotalOrder (keys_cmp directions)
keys-total [] = all_level
keys-total (d ∷ ds) = then_total (on_total first_value (directed-total d)) (on_total other_values (keys-total ds))

pub entry-total : (directions : List Direction) → IsTotalOrder (entry_cmp directions)
entry-total directions = then_total (on_total (λ (e : Entry). e.keys) (keys-total directions)) (on_total (λ (e : Entry). e.line) nat_list_cmp_total)

pub line_first-total : (directions : List Direction) → IsTotalOrder (line_first_cmp directions)
line_first-total directions = then_total (on_total (λ (e : Entry). e.line) nat_list_cmp_total) (on_total (λ (e : Entry). e.keys) (keys-total directions))

-- entries that tie have one line
pub one_line : (directions : List Direction) (e f : Entry) → entry_cmp directions e f ≡ Equal → e.line ≡ f.line
one_line directions e f h = exact_bytes e.line f.line (then_equal (keys_cmp directions e.keys f.keys) _ h).1
