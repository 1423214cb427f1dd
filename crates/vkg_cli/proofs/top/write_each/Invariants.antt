use Rattle.std.proofs.Common.{take}
use Rattle.std.specs.List.{flat_map}
use Rattle.vkg_base.specs.Outside.{Took}
use Rattle.vkg_cli.proofs.top.write_each.Given as goal

abbrev pub invariant-loop-line : goal.invariant-loop-line
invariant-loop-line g l = Took (g.O.Sink.state l.initial.out) (g.O.Sink.state l.out) (flat_map (λ line. line.now) (take l.line-index l.lines))
