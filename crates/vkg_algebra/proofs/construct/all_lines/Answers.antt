use Rattle.std.proofs.Common.{◌∙◌, ◌++◌, ap, arith, map}
use Rattle.vkg_terms.specs.NQuads.{line}
use Rattle.vkg_algebra.specs.Construct.{found_triples}
use Rattle.vkg_algebra.proofs.Numbered.{numbered_more, numbered_none}
use Rattle.vkg_algebra.proofs.construct.all_lines.Goals as goal

pub loop-k-init : goal.loop-k-init
loop-k-init c = numbered_none (found_triples c.args.template.now c.args.variables.now c.args.labels.now) c.args.solutions.now c.args.first c.new-out.result c.new-out.ensures

pub loop-k-preserved : goal.loop-k-preserved
loop-k-preserved c =
    numbered_more (found_triples c.args.template.now c.args.variables.now c.args.labels.now) c.args.solutions.now c.args.first c.loop-k.k c.index-solutions-k.result _ _ _ (omega arith) c.index-solutions-k.is c.loop-k.invariant
    (c.in_ok-push_found.ensures ∙ ap (λ n. c.loop-k.out ++ map line (found_triples c.args.template.now c.args.variables.now c.args.labels.now (n, c.index-solutions-k.result))) c.numbered-number.ensures)
