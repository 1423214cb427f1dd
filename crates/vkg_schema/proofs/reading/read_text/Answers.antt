use Rattle.std.proofs.Common.{ap, sym, ◌∙◌, subst}
use Rattle.vkg_ddl.specs.FirstFault.{first_fault}
use Rattle.vkg_ddl.specs.Reading.{Says, TextFails as NoText}
use Rattle.vkg_schema.specs.Meets.{IsWellFormed}
use Rattle.vkg_schema.specs.Names.{HasOwnNames}
use Rattle.vkg_schema.specs.Reading.{TextFails, no_utf8}
use Rattle.vkg_schema.specs.Resolve.{schema_of}
use Rattle.vkg_schema.proofs.Failing.{no_text_of, no_schema_of}
use Rattle.vkg_schema.proofs.OwnNames.{own_names}
use Rattle.vkg_schema.proofs.WellFormed.{well_formed}
use Rattle.vkg_schema.proofs.reading.read_text.Goals as goal

pub returns-in-Err-clause-err : goal.returns-in-Err-clause-err
returns-in-Err-clause-err c = no_utf8 c.in-Err.ensures.cases.0 (c.valid_up_to-at.ensures ∙ c.in-Err.ensures.valid_len)

pub returns-in-Err-read_written-clause-err : goal.returns-in-Err-read_written-clause-err
returns-in-Err-read_written-clause-err c = subst (TextFails c.args.bytes.now) (sym c.of_text.ensures) (no_text_of c.args.bytes.now c.in-Err-read_written.e c.in-Ok.ensures.cases.1 (subst (λ t. NoText t c.in-Err-read_written.e) c.in-Ok.ensures.cases.0 c.in-Err-read_written.ensures.err))

pub returns-in-Some-clause-err : goal.returns-in-Some-clause-err
returns-in-Some-clause-err c = no_schema_of c.in-Ok-read_written.written c.as_slice.result.now c.in-Some.check c.in-Some.at c.in-Ok.ensures.cases.0 c.as_slice.ensures c.in-Ok.ensures.cases.1 c.in-Ok-read_written.ensures.ok (sym c.first_fault.ensures ∙ c.in-Some.is)

pub new-requires : goal.new-requires
new-requires c = subst IsWellFormed (sym (c.in_ok-tables.ensures ∙ ap schema_of c.as_slice-2.ensures)) (well_formed c.in-Ok-read_written.written (ap first_fault (sym c.as_slice.ensures) ∙ sym c.first_fault.ensures ∙ c.in_default.is) c.in-Ok-read_written.ensures.form)

pub returns-clause-ok : goal.returns-clause-ok
returns-clause-ok c = record {
  written = c.in-Ok-read_written.written;
  utf8 = c.in-Ok.ensures.cases.1;
  says = subst (λ t. Says t c.in-Ok-read_written.written) c.in-Ok.ensures.cases.0 c.in-Ok-read_written.ensures.ok;
  fine = ap first_fault (sym c.as_slice.ensures) ∙ sym c.first_fault.ensures ∙ c.in_default.is;
  resolved = c.new.ensures ∙ c.in_ok-tables.ensures ∙ ap schema_of c.as_slice-2.ensures;
}

pub returns-clause-names : goal.returns-clause-names
returns-clause-names c =
    let fine = ap first_fault (sym c.as_slice.ensures) ∙ sym c.first_fault.ensures ∙ c.in_default.is in
    subst HasOwnNames (sym (c.new.ensures ∙ c.in_ok-tables.ensures ∙ ap schema_of c.as_slice-2.ensures))
    (own_names c.in-Ok-read_written.written fine (well_formed c.in-Ok-read_written.written fine c.in-Ok-read_written.ensures.form))
