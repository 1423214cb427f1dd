-- One triple: the laws of its test, which `==` and the hash of a triple rest on.
use Rattle.std.specs.Prelude.{ℕ, Bool, ◌&&◌, List, ◌++◌}
use Rattle.std.specs.Cmp.{IsEquivalence, decided, and_equiv, on_equiv}
use Rattle.std.specs.Hash as fed
use Rattle.vkg_terms.proofs.SameLemmas.{term_decides}
use Rattle.vkg_terms.specs.declared.term.Term.{Term}
use Rattle.vkg_terms.specs.Same.{annotation_name, term_annotation, term_eq, term_name}
use Rattle.vkg_turtle.specs.declared.triple.Triple.{Triple}

-- RDF 1.1 Concepts, 3.1: one triple, wherever it stands
abbrev pub triple_eq : Triple → Triple → Bool
triple_eq a b = term_eq a.subject b.subject && (term_eq a.predicate b.predicate && term_eq a.object b.object)

-- what a triple's hash is made of: literals of one text are told from each other, too
abbrev pub object_hash : Term → List (List ℕ)
object_hash t = fed.str (term_name t) ++ fed.str (annotation_name (term_annotation t))

abbrev pub triple_hash : Triple → List (List ℕ)
triple_hash t = fed.str (term_name t.subject) ++ (fed.str (term_name t.predicate) ++ object_hash t.object)

term_equiv : IsEquivalence term_eq
term_equiv = decided term_eq term_decides

term_alike : fed.Alike term_eq (λ t. fed.str (term_name t))
term_alike = fed.same_Alike (λ t. fed.str (term_name t)) term_decides

object_alike : fed.Alike term_eq object_hash
object_alike = fed.same_Alike object_hash term_decides

pub triple_equiv : IsEquivalence triple_eq
triple_equiv = and_equiv (on_equiv (λ t. t.subject) term_equiv) (and_equiv (on_equiv (λ t. t.predicate) term_equiv) (on_equiv (λ t. t.object) term_equiv))

-- one triple has one hash
pub triple_alike : fed.Alike triple_eq triple_hash
triple_alike = fed.and-Alike (fed.on_Alike (λ t. t.subject) term_alike) (fed.and-Alike (fed.on_Alike (λ t. t.predicate) term_alike) (fed.on_Alike (λ t. t.object) object_alike))
