-- The tables of a schema, one after another.
use Rattle.std.proofs.Common.{◌≡◌, ℕ, ◌+◌, ◌<◌, List, [], ◌∷◌, length, get_or, drop, sym, ◌∙◌, subst, Ok, Err}
use Rattle.std.specs.Prelude.{Result}
use Rattle.vkg_lists.proofs.Firsts.{opened}
use Rattle.vkg_base.specs.Outside.{Files, StoreState}
use Rattle.vkg_schema.specs.declared.table.Table.{Table}
use Rattle.vkg_cli.specs.declared.load.TheConstants.{LIMIT}
use Rattle.vkg_cli.specs.declared.stops.Stop.{Stop}
use Rattle.vkg_tables.specs.Seen.{Seen}
use Rattle.vkg_cli.specs.Stages.{IsDetermined, IsOneOutcome, Ran}
use Rattle.vkg_cli.specs.Work.{LoadsTable, LoadsTables}
use Rattle.vkg_cli.proofs.Ran.{determined_loads, determined_settles, determined_then, ran_then, ran_stop}

pub one_equal : {A : Type 0} (defined : Result A Stop) → IsOneOutcome (λ outcome. outcome ≡ defined)
one_equal defined = λ o p first second. first ∙ sym second

pub determined_table : (files : Files) (folder : List ℕ) (db : Seen) (k : ℕ) (table : Table) → IsDetermined (LoadsTable files folder db k table)
determined_table files folder db k table = determined_then _ _ (determined_loads LIMIT files _) (λ bytes. determined_settles _ (one_equal _))

pub determined_tables : (files : Files) (folder : List ℕ) (db : Seen) (k : ℕ) (tables : List Table) → IsDetermined (LoadsTables files folder db k tables)
determined_tables files folder db k [] = determined_settles _ (one_equal _)
determined_tables files folder db k (table ∷ tables) = determined_then _ _ (determined_table files folder db k table) (λ next. determined_tables files folder next (k + 1) tables)

module _ (folder : List ℕ) (db : Seen) (k : ℕ) (table : Table) (tables : List Table) (inside : k < length tables) (is : table ≡ get_or tables k table) where
  pub tables_next : (next : Seen) (old mid new : StoreState) (result : Result Seen Stop)
      → Ran (λ files. LoadsTable files folder db k table) old mid (Ok next)
      → Ran (λ files. LoadsTables files folder next (k + 1) (drop (k + 1) tables)) mid new result
      → Ran (λ files. LoadsTables files folder db k (drop k tables)) old new result
  tables_next next old mid new result first rest =
      subst (λ l. Ran (λ files. LoadsTables files folder db k l) old new result) (sym (opened tables k table inside is))
      (ran_then _ _ next old mid new result (λ files. determined_table files folder db k table) first rest)

  pub tables_stop : (old new : StoreState) (stop : Stop)
      → Ran {A = Seen} (λ files. LoadsTable files folder db k table) old new (Err stop)
      → Ran {A = Seen} (λ files. LoadsTables files folder db k (drop k tables)) old new (Err stop)
  tables_stop old new stop first =
      subst (λ l. Ran {A = Seen} (λ files. LoadsTables files folder db k l) old new (Err stop)) (sym (opened tables k table inside is))
      (ran_stop _ _ old new stop first)
