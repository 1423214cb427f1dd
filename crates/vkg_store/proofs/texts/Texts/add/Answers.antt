use Rattle.std.proofs.Common.{◌≡◌, ◌∙◌, ◌++◌, ◌∷◌, [], false, map, string_bytes, sym, ap}
use Rattle.std.specs.List.{list_any}
use Rattle.std.specs.Str.{bytes_eq}
use Rattle.vkg_lists.proofs.Walks.{list_any-map}
use Rattle.vkg_store.proofs.TextLemmas.{map-added}
use Rattle.vkg_store.proofs.texts.Texts.add.Goals as goal

pub returns-clause-ok : goal.returns-clause-ok
returns-clause-ok c =
    let keys = c.self.inside.texts.keys in
    let s = c.in_ok-from_str.field-0 in
    let same = c.in_ok-from_str.ensures.ok in
    let absent : list_any (λ k. bytes_eq (string_bytes s) (string_bytes k)) keys ≡ false = sym (list_any-map (bytes_eq (string_bytes s)) string_bytes keys) ∙ (λ i. list_any (bytes_eq (same i)) (c.self.view_is i)) ∙ c.requires in
    ap (map string_bytes) c.in_ok-insert_full.ensures.keys ∙ map-added string_bytes (list_any (λ k. bytes_eq (string_bytes s) (string_bytes k)) keys) keys s absent
    ∙ (λ i. c.self.view_is i ++ same i ∷ [])
