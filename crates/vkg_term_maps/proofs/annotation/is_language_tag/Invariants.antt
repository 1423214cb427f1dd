use Rattle.std.proofs.Common.{◌≡◌, drop, true, false}
use Rattle.vkg_term_maps.specs.Languages.{tag_from}
use Rattle.vkg_term_maps.proofs.annotation.is_language_tag.Given as goal

abbrev pub invariant-loop-b : goal.invariant-loop-b
invariant-loop-b l = tag_from l.first l.some (drop l.b-index l.text) ≡ tag_from true false l.text
