use Rattle.std.proofs.Common.{sym, subst}
use Rattle.vkg_schema.specs.Meets.{MeetsSchema}
use Rattle.vkg_company.proofs.Meets.{company_meets}
use Rattle.vkg_company.proofs.generating.generate.Goals as goal

pub returns-clause-meets : goal.returns-clause-meets
returns-clause-meets c =
    subst (λ db. MeetsSchema db.schema db.tables) (sym c.in_ok-push_employees.ensures) (company_meets c.args.n c.requires.some c.requires.limit)
