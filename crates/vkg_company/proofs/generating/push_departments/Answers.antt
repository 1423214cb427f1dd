use Rattle.std.proofs.Common.{[], lit<}
use Rattle.vkg_company.specs.Company.{department_rows}
use Rattle.vkg_company.proofs.Meets.{one_department_more, pushed_department, table_there}
use Rattle.vkg_company.proofs.generating.push_departments.Goals as goal

pub push_row-requires-clause-table : goal.push_row-requires-clause-table
push_row-requires-clause-table c = table_there c.loop-k.database (department_rows c.loop-k.k) [] 0 c.loop-k.invariant (lit< tt)

pub push_row-requires-clause-row : goal.push_row-requires-clause-row
push_row-requires-clause-row c = pushed_department c.loop-k.database (department_rows c.loop-k.k) c.in_ok-row.row.items c.loop-k.k c.args.count c.loop-k.invariant c.in_ok-row.ensures c.loop-k-test.true c.requires.small

pub loop-k-preserved : goal.loop-k-preserved
loop-k-preserved c = one_department_more c.loop-k.database _ c.in_ok-row.row.items c.loop-k.k c.loop-k.invariant c.in_ok-row.ensures c.in_ok-push_row.ensures.ok
