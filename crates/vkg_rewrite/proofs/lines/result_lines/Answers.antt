use Rattle.std.proofs.Common.{sym, ap, map}
use Rattle.vkg_sparql.specs.Seen.{query_seen}
use Rattle.vkg_rewrite.proofs.Offers.{written_ask, written_construct, written_select}
use Rattle.vkg_rewrite.proofs.lines.result_lines.Goals as goal

pub returns-in-Select : goal.returns-in-Select
returns-in-Select c = written_select (query_seen c.args.query.now) c.args.rows.now c.select_lines.result c.in-Select.is c.select_lines.ensures

pub returns-in-Ask : goal.returns-in-Ask
returns-in-Ask c = written_ask (query_seen c.args.query.now) c.args.rows.now c.ask_lines.result c.has_row.result c.in-Ask.is c.has_row.ensures c.ask_lines.ensures

pub returns-in-Construct : goal.returns-in-Construct
returns-in-Construct c = written_construct (query_seen c.args.query.now) c.args.rows.now c.made_lines.result _ _ c.in-Construct.is c.as_slice.ensures c.made_lines.ensures
