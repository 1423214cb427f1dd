use Rattle.std.proofs.Common.{◌∙◌, ap}
use Rattle.vkg_lists.specs.Places.{lesser, least_of}
use Rattle.vkg_ddl.specs.NameChecks.{unknown_columns}
use Rattle.vkg_ddl.proofs.unknown.unknown_in_table.Goals as goal

pub returns : goal.returns
returns c =
    let t = c.args.t.now in
    c.unknown_in.ensures
    ∙ ap (λ columns. lesser (least_of (λ k. unknown_columns columns k.columns) t.keys) (least_of (λ r. unknown_columns columns r.columns) t.references)) (c.new-columns.ensures ∙ c.as_slice.ensures)
