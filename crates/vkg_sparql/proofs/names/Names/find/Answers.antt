use Rattle.std.proofs.Common.{◌∙◌, ap, position, string_bytes}
use Rattle.std.specs.Str.{bytes_eq}
use Rattle.vkg_lists.proofs.Positions.{position-map}
use Rattle.vkg_sparql.proofs.names.Names.find.Goals as goal

pub returns : goal.returns
returns c =
    c.get_index_of.ensures.index ∙ position-map string_bytes (bytes_eq c.args.text.now) c.self.inside.texts.keys
    ∙ ap (position (bytes_eq c.args.text.now)) c.self.view_is
