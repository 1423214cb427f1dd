use Rattle.std.proofs.Common.{◌≡◌}
use Rattle.vkg_company.specs.Company.{department_rows, employee_rows, holding}
use Rattle.vkg_company.proofs.generating.push_employees.Given as goal

abbrev pub invariant-loop-i : goal.invariant-loop-i
invariant-loop-i l = l.database ≡ holding (department_rows l.departments) (employee_rows l.departments l.i)
