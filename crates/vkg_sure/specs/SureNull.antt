-- The rule: the test for NULL of a column that no row below has NULL in is false.
use Rattle.vkg_rules.specs.Steps.{Rule}
use Rattle.vkg_nulls.specs.NullTests.{known_column}
use Rattle.vkg_nulls.specs.SimplifyNull.{changed_by}
use Rattle.vkg_sure.specs.NeverNull.{own_never_null}

-- SQL-92, 8.6: at the first such test in the plan's own expressions
unfoldable pub sure_null : Rule
sure_null schema p = changed_by (known_column (own_never_null schema p)) p
