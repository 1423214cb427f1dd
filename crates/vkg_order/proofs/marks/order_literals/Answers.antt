use Rattle.vkg_terms.specs.NQuads.{annotation_text}
use Rattle.vkg_order.proofs.Texts.{quoted-order}
use Rattle.vkg_order.proofs.marks.order_literals.Goals as goal

pub returns : goal.returns
returns c =
    let q = quoted-order c.args.s.now c.args.t.now (annotation_text c.args.x.now) (annotation_text c.args.y.now) c.utf8.s c.utf8.t in
    cc
