use Rattle.vkg_sparql.specs.Seen.{query_seen}
use Rattle.vkg_plain.proofs.Written.{by_form, written_ask, written_construct}
use Rattle.vkg_sparql.specs.declared.query.Form.TheVariants.{Select}
use Rattle.vkg_plain.proofs.lines.solution_lines.Goals as goal

pub returns-in-Select : goal.returns-in-Select
returns-in-Select c = by_form (query_seen c.args.query.now) c.args.rows.now c.select_lines.result Select c.in-Select.is c.select_lines.ensures

pub returns-in-Ask : goal.returns-in-Ask
returns-in-Ask c = written_ask (query_seen c.args.query.now) c.args.rows.now c.ask_lines.result c.has_solution.result c.in-Ask.is c.has_solution.ensures c.ask_lines.ensures

pub returns-in-Construct : goal.returns-in-Construct
returns-in-Construct c = written_construct (query_seen c.args.query.now) c.args.rows.now c.made_lines.result _ _ c.in-Construct.is c.as_slice.ensures c.made_lines.ensures
