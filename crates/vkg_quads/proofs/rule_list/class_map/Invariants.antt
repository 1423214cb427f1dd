use Rattle.std.proofs.Common.{◌≡◌, take, map}
use Rattle.vkg_terms.specs.declared.term.Term.TheVariants.{Iri}
use Rattle.vkg_maps.specs.declared.term_map.TermMap.TheVariants.{Constant}
use Rattle.vkg_maps.specs.declared.mapping.ObjectMap.TheVariants as object
use Rattle.vkg_quads.proofs.rule_list.class_map.Given as goal

abbrev pub invariant-loop-class : goal.invariant-loop-class
invariant-loop-class l = l.objects ≡ map (λ class. object.Term (Constant (Iri class))) (take l.class-index l.class-items)
