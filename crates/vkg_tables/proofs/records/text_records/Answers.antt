use Rattle.std.proofs.Common.{sym, subst, ◌∙◌, ap}
use Rattle.std.proofs.lemmas.Result.{IfOk-weaker}
use Rattle.csv.specs.Reading.{default_config, records, strip_bom}
use Rattle.vkg_tables.specs.Texts.{AreTexts}
use Rattle.vkg_tables.proofs.TextLemmas.{AreTexts-records, IsUtf8-strip_bom}
use Rattle.vkg_tables.proofs.records.text_records.Goals as goal

pub returns-clause-texts : goal.returns-clause-texts
returns-clause-texts c =
    IfOk-weaker c.byte_records.result _ _
    (λ v is. subst AreTexts (sym (is ∙ ap (λ t. records default_config (strip_bom t)) c.as_bytes.ensures.value))
    (AreTexts-records (strip_bom c.args.text.now) (IsUtf8-strip_bom c.args.text.now c.utf8.text)))
    c.byte_records.ensures
