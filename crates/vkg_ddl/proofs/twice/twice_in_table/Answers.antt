use Rattle.std.proofs.Common.{◌∙◌, ap}
use Rattle.vkg_lists.specs.Places.{lesser, least_of}
use Rattle.vkg_ddl.specs.NameChecks.{name_twice}
use Rattle.vkg_ddl.proofs.twice.twice_in_table.Goals as goal

pub returns : goal.returns
returns c =
    let t = c.args.t.now in
    c.twice_in.ensures
    ∙ ap (λ columns. lesser (least_of (λ k. name_twice columns k.columns) t.keys) (least_of (λ r. name_twice columns r.columns) t.references)) (c.new-columns.ensures ∙ c.as_slice.ensures)
