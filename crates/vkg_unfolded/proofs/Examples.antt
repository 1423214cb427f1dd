-- The rows of the plans of worked queries.
use Rattle.std.specs.Prelude.{◌≡◌, true, [], ◌∷◌, codes, refl}
use Rattle.std.specs.Str.{chars}
use Rattle.std.specs.Char.{encode_utf8}
use Rattle.vkg_cells.specs.declared.cell.Cell.TheVariants as cell
use Rattle.vkg_schema.specs.Company.{company}
use Rattle.vkg_algebra.proofs.Data.{e, plain}
use Rattle.vkg_plan.specs.Rows.{rows_of}
use Rattle.vkg_unfolded.specs.Unfolded.{start_plan}
use Rattle.vkg_unfolded.proofs.Data.{rules}
use Rattle.vkg_algebra.proofs.Rows.{name_query, optional_query}
use Rattle.vkg_maps.proofs.Company.{db}

-- what has to be opened so that texts compute
unfoldable opened : Unit {0}
unfolding chars encode_utf8
opened = tt

-- SELECT ?n { ?e <http://e/emp#name> ?n }: a row for each employee, also of one name
names_rows : rows_of company (start_plan company rules name_query) db ≡ (cell.Term (plain (codes "Ann")) ∷ []) ∷ (cell.Term (plain (codes "Bo")) ∷ []) ∷ (cell.Term (plain (codes "Ann")) ∷ []) ∷ []
unfolding opened
names_rows = refl

-- under DISTINCT each name once
distinct_rows : rows_of company (start_plan company rules (record name_query { distinct = true })) db ≡ (cell.Term (plain (codes "Ann")) ∷ []) ∷ (cell.Term (plain (codes "Bo")) ∷ []) ∷ []
unfolding opened
distinct_rows = refl

-- SELECT ?n ?d { ?e <http://e/emp#name> ?n OPTIONAL { ?e <http://e/emp#ref-dept> ?d } }: NULL where there is no department
optional_rows : rows_of company (start_plan company rules optional_query) db ≡
    (cell.Term (plain (codes "Ann")) ∷ cell.Term (e (codes "dept/id=1")) ∷ [])
    ∷ (cell.Term (plain (codes "Ann")) ∷ cell.Term (e (codes "dept/id=1")) ∷ [])
    ∷ (cell.Term (plain (codes "Bo")) ∷ cell.Null ∷ [])
    ∷ []
unfolding opened
optional_rows = refl
