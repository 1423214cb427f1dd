use Rattle.std.proofs.Common.{◌∙◌, ap, map, string_bytes}
use Rattle.std.specs.Str.{bytes_eq}
use Rattle.indexmap.specs.IndexSet.{insert_key}
use Rattle.vkg_sparql.proofs.NamesLemmas.{insert_key-map}
use Rattle.vkg_sparql.proofs.names.Names.add.Goals as goal

pub returns : goal.returns
returns c =
    ap (map string_bytes) c.in_ok-insert_full.ensures.keys ∙ insert_key-map string_bytes bytes_eq c.self.inside.texts.keys c.args.text
    ∙ ap (λ xs. insert_key bytes_eq xs (string_bytes c.args.text)) c.self.view_is
