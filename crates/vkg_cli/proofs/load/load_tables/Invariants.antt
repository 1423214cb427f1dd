use Rattle.std.proofs.Common.{◌≡◌, drop}
use Rattle.std.specs.Prelude.{Result}
use Rattle.vkg_base.specs.Outside.{StoreState}
use Rattle.vkg_cli.specs.declared.stops.Stop.{Stop}
use Rattle.vkg_tables.specs.Seen.{Seen, without_rows}
use Rattle.vkg_cli.specs.Stages.{Ran}
use Rattle.vkg_cli.specs.Work.{LoadsTables}
use Rattle.vkg_cli.proofs.load.load_tables.Given as goal

-- whatever the rest does, all of it does
abbrev pub invariant-loop-k : goal.invariant-loop-k
invariant-loop-k g l = record {
  schema : l.db.schema ≡ l.schema;
  rest : (new : StoreState) (result : Result Seen Stop)
      → Ran (λ files. LoadsTables files l.folder l.db l.k (drop l.k l.table-items)) (g.S.Store.state l.store) new result
      → Ran (λ files. LoadsTables files l.folder (without_rows l.schema) 0 l.schema) (g.S.Store.state l.initial.store) new result;
}
