use Rattle.std.proofs.Common.{◌≡◌, ◌-◌, arith, ap, subst, take, drop, length, length-drop}
use Rattle.std.proofs.Math.Seq.{take-add}
use Rattle.std.proofs.lemmas.List.{take_all}
use Rattle.std.specs.Io.KnownBytes.{Appends}
use Rattle.std.proofs.KnownBytes.{Appends-trans}
use Rattle.vkg_base.proofs.host_sink.write_until.Goals as goal

pub loop-preserved : goal.loop-preserved
loop-preserved g c =
    let piece = c.args.piece.now in
    let rest : take (length piece - c.loop.done) (drop c.loop.done piece) ≡ drop c.loop.done piece = take_all _ _ (omega (arith, length-drop c.loop.done piece)) in
    let bytes = subst (λ l. Appends (g.W.Write.contents c.loop.writer) (g.W.Write.contents c.write.new.self) (take c.in-Ok.count l)) rest c.in-Ok.ensures.bytes in
    let more = Appends-trans _ _ _ _ _ c.loop.invariant.1 bytes in
    (omega (arith, c.loop.invariant.0, c.in-Ok.ensures.bound, ap length rest, length-drop c.loop.done piece), rw (take-add c.loop.done c.in-Ok.count piece) more)
