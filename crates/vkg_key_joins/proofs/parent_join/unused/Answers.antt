-- Where no foreign key refers to the table, none is found.
use Rattle.std.proofs.Common.{◌≡◌, false, map, sym, arith}
use Rattle.std.specs.Prelude.{nat_eq}
use Rattle.std.specs.List.{list_any}
use Rattle.std.proofs.lemmas.Grind.{common_steps}
use Rattle.vkg_expr.specs.Seen.{expr_seen}
use Rattle.vkg_schema.specs.declared.table.Reference.{Reference}
use Rattle.vkg_keys.specs.ScansSeen.{place_in}
use Rattle.vkg_key_joins.specs.Tables.{references_of}
use Rattle.vkg_key_joins.proofs.Found.{none_refers}
use Rattle.vkg_key_joins.proofs.parent_join.unused.Goals as goal

pub returns-then-not-any_refers : goal.returns-then-not-any_refers
returns-then-not-any_refers c =
    let s = c.args.schema.now in
    let none : list_any (λ (r : Reference). nat_eq r.table c.args.y.table) (references_of s c.args.x.table) ≡ false = grind (arith, common_steps) in
    sym (none_refers s (map expr_seen c.args.es.now) (expr_seen c.args.c.now) (place_in c.args.ps.now c.args.x) (place_in c.args.ps.now c.args.y) (references_of s c.args.x.table) none)
