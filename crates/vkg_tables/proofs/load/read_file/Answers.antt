use Rattle.std.proofs.Common.{◌∙◌, ap, subst, sym}
use Rattle.vkg_tables.specs.Kept.{GivesTable}
use Rattle.vkg_tables.specs.Steps.{table_of_records}
use Rattle.vkg_tables.proofs.FileFaults.{file_from-settled}
use Rattle.vkg_tables.proofs.load.read_file.Goals as goal

pub returns-clause-rows : goal.returns-clause-rows
returns-clause-rows c =
    let columns = c.args.columns.now in
    subst (λ d. GivesTable c.read_table.new.texts d c.read_table.result)
    (ap (table_of_records columns) (sym c.in_ok-records.ensures.ok) ∙ file_from-settled columns c.args.bytes.now)
    c.read_table.ensures.rows
