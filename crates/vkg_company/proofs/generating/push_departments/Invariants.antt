use Rattle.std.proofs.Common.{◌≡◌, []}
use Rattle.vkg_company.specs.Company.{department_rows, holding}
use Rattle.vkg_company.proofs.generating.push_departments.Given as goal

abbrev pub invariant-loop-k : goal.invariant-loop-k
invariant-loop-k l = l.database ≡ holding (department_rows l.k) []
