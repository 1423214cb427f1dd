use Rattle.std.proofs.Common.{◌-◌, arith, length}
use Rattle.vkg_base.proofs.host_sink.HostSinkSink.write.Goals as goal

pub returns-clause-failed : goal.returns-clause-failed
returns-clause-failed g c = rw (← c.self.view_is) (record { count = length c.args.piece.now - c.write_until-left.result; bytes = c.write_until-left.ensures.bytes; faults = omega (arith, c.saturating_add-self-inside.ensures) })
