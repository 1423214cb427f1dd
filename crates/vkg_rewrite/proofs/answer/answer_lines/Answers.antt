use Rattle.vkg_sparql.specs.Seen.{query_seen}
use Rattle.vkg_rewrite.proofs.Answered.{answered}
use Rattle.vkg_rewrite.proofs.Permuted.{lines_of_all}
use Rattle.vkg_rewrite.proofs.answer.answer_lines.Goals as goal

pub returns-clause-rows : goal.returns-clause-rows
returns-clause-rows c = lines_of_all c.result_lines.result (query_seen c.args.query.now) c.in_ok-rows.rows _ c.result_lines.ensures c.in_ok-rows.ensures

pub returns-clause-answer : goal.returns-clause-answer
returns-clause-answer c =
    let db = c.args.db.now in
    answered db.schema c.args.mapping.now db.tables (query_seen c.args.query.now) (rw c.schema.ensures at c.tables-tables.ensures.form) c.requires.within c.requires.meets
    c.requires.faultless c.requires.lawful c.result_lines.result c.in_ok-rows.rows c.result_lines.ensures c.in_ok-rows.ensures
