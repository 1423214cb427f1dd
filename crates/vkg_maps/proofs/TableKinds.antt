-- The kinds of a table's columns.
use Rattle.std.proofs.Common.{◌≡◌, ℕ, List, [], map, Some, ap}
use Rattle.std.specs.Prelude.{option_map, slice_get, unwrap_or}
use Rattle.vkg_schema.specs.declared.table.Column.{Column}
use Rattle.vkg_schema.specs.declared.table.Table.{Table}
use Rattle.vkg_maps.specs.Within.{kinds_at}

pub kinds_of : (schema : List Table) (k : ℕ) (table : Table) → slice_get schema k ≡ Some table → kinds_at schema k ≡ map (λ (c : Column). c.kind) table.columns
kinds_of schema k table e = ap (λ o. unwrap_or (option_map (λ (t : Table). map (λ (c : Column). c.kind) t.columns) o) []) e
