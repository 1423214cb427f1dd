use Rattle.std.proofs.Common.{◌≡◌, ◌∷◌, take, not}
use Rattle.std.specs.List.{filter}
use Rattle.vkg_terms.specs.declared.term.Term.{Term}
use Rattle.vkg_terms.specs.Same.{term_eq}
use Rattle.vkg_plain.proofs.graphs.before.Given as goal

abbrev pub invariant-loop-other : goal.invariant-loop-other
invariant-loop-other l = l.out ≡ l.name ∷ filter (λ (t : Term). not (term_eq l.name t)) (take l.other-index l.names)
