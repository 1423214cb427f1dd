use Rattle.vkg_unfold.proofs.pattern.agreement.Goals as goal

pub equalities-requires : goal.equalities-requires
equalities-requires c = rw c.as_slice.ensures c.requires.1

pub returns : goal.returns
returns c = rw c.as_slice.ensures at c.equalities.ensures
