use Rattle.std.proofs.Common.{◌≡◌, fold, drop}
use Rattle.vkg_terms.specs.Standing.{after_part}
use Rattle.vkg_terms.specs.declared.template_standing.Front.TheVariants.{Empty}
use Rattle.vkg_terms.proofs.template_standing.front_of.Given as goal

abbrev pub invariant-loop-part : goal.invariant-loop-part
invariant-loop-part l = fold after_part l.front (drop l.part-index l.template) ≡ fold after_part Empty l.template
