use Rattle.vkg_gen.proofs.Reported.{reported}
use Rattle.vkg_gen.proofs.ThreeQueries.{depts_faultless, distinct_faultless, names_faultless}
use Rattle.vkg_gen.proofs.lines.report_by.Goals as goal

pub count_solutions-requires-clause-readable : goal.count_solutions-requires-clause-readable
count_solutions-requires-clause-readable c = names_faultless

pub count_solutions-requires-2-clause-readable : goal.count_solutions-requires-2-clause-readable
count_solutions-requires-2-clause-readable c = distinct_faultless

pub count_solutions-requires-3-clause-readable : goal.count_solutions-requires-3-clause-readable
count_solutions-requires-3-clause-readable c = depts_faultless

pub returns : goal.returns
returns c = λ n is maps.
    reported n c.args.db.now c.args.mapping.now c.in_ok-quads.quads c.in_ok-names.names c.in_ok-distinct.distinct c.in_ok-depts.depts
    c.new-lines.result c.push_line.new.lines c.push_line-2.new.lines c.push_line-3.new.lines c.push_line-4.new.lines
    is maps c.in_ok-quads.ensures c.in_ok-names.ensures c.in_ok-distinct.ensures c.in_ok-depts.ensures
    c.new-lines.ensures c.in_ok-push_line.ensures c.in_ok-push_line-2.ensures c.in_ok-push_line-3.ensures c.in_ok-push_line-4.ensures
