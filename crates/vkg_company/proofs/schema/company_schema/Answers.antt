use Rattle.std.proofs.Common.{subst}
use Rattle.vkg_schema.specs.declared.reading.SchemaError.TheVariants.{Fault}
use Rattle.vkg_schema.specs.Reading.{Fails, IsSchemaOf}
use Rattle.vkg_company.proofs.OwnText.{no_company_fault, one_company}
use Rattle.vkg_company.proofs.schema.company_schema.Goals as goal

pub unreachable-requires : goal.unreachable-requires
unreachable-requires c =
    no_company_fault c.in-Err-Fault.field-0-0
    (subst (λ b. Fails b (Fault c.in-Err-Fault.field-0-0)) c.as_bytes.ensures.value
    (subst (Fails c.as_bytes.result.now) c.in-Err-Fault.field-0-is c.in-Err-Fault.ensures.err))

pub returns-in-Ok-clause-value : goal.returns-in-Ok-clause-value
returns-in-Ok-clause-value c = one_company c.in-Ok.schema (subst (λ b. IsSchemaOf b c.in-Ok.schema) c.as_bytes.ensures.value c.in-Ok.ensures.ok)

pub returns-in-Ok-clause-text : goal.returns-in-Ok-clause-text
returns-in-Ok-clause-text c = subst (λ b. IsSchemaOf b c.in-Ok.schema) c.as_bytes.ensures.value c.in-Ok.ensures.ok
