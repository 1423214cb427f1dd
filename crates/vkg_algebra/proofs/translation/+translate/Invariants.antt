-- What is done, and the parts that are left, give the whole.
use Rattle.std.proofs.Common.{◌≡◌, [], drop}
use Rattle.vkg_sparql.specs.Seen.{group_seen, part_seen, unions_seen}
use Rattle.vkg_algebra.specs.Algebra.{Bgp}
use Rattle.vkg_algebra.specs.Seen.{algebra_seen}
use Rattle.vkg_algebra.specs.Simplified.{grown_by, inner_of, united_simply}
use Rattle.vkg_algebra.specs.Translation.{element, elements, simplified}
use Rattle.vkg_algebra.proofs.translation.+translate.Given as goal

abbrev pub invariant-pattern-loop-part : goal.invariant-pattern-loop-part
invariant-pattern-loop-part l = grown_by (algebra_seen l.growing.grown) l.growing.block (elements (group_seen (drop l.part-index l.parts))) ≡ grown_by (Bgp []) [] (elements (group_seen l.parts))

abbrev pub invariant-inner-loop-parts : goal.invariant-inner-loop-parts
invariant-inner-loop-parts l = united_simply (algebra_seen l.whole) (unions_seen (drop l.parts-index l.parts-items)) ≡ simplified (inner_of (element (part_seen l.part)))
