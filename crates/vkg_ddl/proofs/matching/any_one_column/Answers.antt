use Rattle.std.proofs.Common.{◌∙◌, sym, ap}
use Rattle.std.specs.Prelude.{nat_eq}
use Rattle.std.specs.List.{list_any}
use Rattle.vkg_lists.specs.Options.{both_pass}
use Rattle.vkg_ddl.specs.NameChecks.{column_place}
use Rattle.vkg_ddl.proofs.Placing.{none_of}
use Rattle.vkg_ddl.proofs.matching.any_one_column.Goals as goal

pub returns-in-None : goal.returns-in-None
returns-in-None c =
    none_of (column_place c.args.columns.now) c.args.seen.now
    ∙ ap (λ o. list_any (λ b. both_pass nat_eq o (column_place c.args.columns.now b)) c.args.seen.now) (sym c.in-None.is ∙ c.place.ensures)
