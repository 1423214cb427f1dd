use Rattle.std.proofs.Common.{lit<}
use Rattle.vkg_company.specs.Company.{department_rows, employee_rows}
use Rattle.vkg_company.proofs.Meets.{one_employee_more, pushed_employee, table_there}
use Rattle.vkg_company.proofs.generating.push_employees.Goals as goal

pub push_row-requires-clause-table : goal.push_row-requires-clause-table
push_row-requires-clause-table c = table_there c.loop-i.database (department_rows c.args.departments) (employee_rows c.args.departments c.loop-i.i) 1 c.loop-i.invariant (lit< tt)

pub push_row-requires-clause-row : goal.push_row-requires-clause-row
push_row-requires-clause-row c = pushed_employee c.loop-i.database (department_rows c.args.departments) (employee_rows c.args.departments c.loop-i.i) c.in_ok-row.row.items c.args.departments c.loop-i.i c.args.count c.loop-i.invariant c.in_ok-row.ensures c.requires.some c.requires.departments c.loop-i-test.true c.requires.small

pub loop-i-preserved : goal.loop-i-preserved
loop-i-preserved c = one_employee_more c.loop-i.database _ (department_rows c.args.departments) c.in_ok-row.row.items c.args.departments c.loop-i.i c.loop-i.invariant c.in_ok-row.ensures c.in_ok-push_row.ensures.ok
