use Rattle.std.proofs.Common.{subst}
use Rattle.vkg_base.specs.Outside.{Took, Broke}
use Rattle.vkg_cli.proofs.HelpLemmas.{broke_piece, took_piece}
use Rattle.vkg_cli.proofs.top.write_each.Goals as goal

pub loop-line-preserved : goal.loop-line-preserved
loop-line-preserved g c =
    took_piece (λ line. line.now) c.args.lines.now c.loop-line.line-index _ _ _ _ c.loop-line-test.true c.loop-line.invariant
    (subst (λ p. Took (g.O.Sink.state c.loop-line.out) (g.O.Sink.state c.write.new.self) p) c.as_bytes.ensures.value c.in-Ok.ensures.ok)

pub returns-in_default-clause-fault : goal.returns-in_default-clause-fault
returns-in_default-clause-fault g c =
    broke_piece (λ line. line.now) c.args.lines.now c.loop-line.line-index _ _ _ _ c.loop-line-test.true c.loop-line.invariant
    (subst (λ p. Broke (g.O.Sink.state c.loop-line.out) (g.O.Sink.state c.write.new.self) p) c.as_bytes.ensures.value c.in_default.ensures.failed)
