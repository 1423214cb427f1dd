use Rattle.std.proofs.Common.{◌≡◌, ◌++◌, map, option_map, string_bytes, drop}
use Rattle.vkg_tables.specs.Parts.{parts as parts_of_row}
use Rattle.vkg_tables.proofs.keys.parts.Given as goal

abbrev pub invariant-loop-column : goal.invariant-loop-column
invariant-loop-column l =
    option_map (λ ps. map string_bytes l.out.items ++ ps) (parts_of_row (drop l.column-index l.columns) l.row) ≡ parts_of_row l.columns l.row
