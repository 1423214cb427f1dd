use Rattle.std.proofs.Common.{◌+◌, ◌∷◌, ap, option_map}
use Rattle.vkg_cells.specs.Order.{family_of}
use Rattle.vkg_tables.specs.Parts.{part}
use Rattle.vkg_tables.proofs.keys.part.Goals as goal

pub returns-in-None : goal.returns-in-None
unfolding part
returns-in-None c = ap (option_map (λ text. (48 + family_of c.args.cell.now) ∷ text)) c.in-None.ensures
