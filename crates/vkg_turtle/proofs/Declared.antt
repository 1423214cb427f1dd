-- Prefixes by the bytes of their names.
use Rattle.std.proofs.Common.{◌≡◌, ℕ, cond, List, [], ◌∷◌, Some, String, string_bytes, refl, ap, ⊎_elim}
use Rattle.std.proofs.lemmas.Bool.{cases_Bool}
use Rattle.std.specs.Map.{lookup}
use Rattle.std.specs.Str.{bytes_eq}
use Rattle.indexmap.specs.IndexMap.{insert_entry}
use Rattle.vkg_turtle.specs.Document.{declared, namespace}
use Rattle.vkg_turtle.specs.Entries.{texts_of_entries}

module _ {Z : Type 0} where
  pub declared_entries : (es : List (String Z × List ℕ)) (k : String Z) (iri : List ℕ) → texts_of_entries (insert_entry (λ a b. bytes_eq (string_bytes a) (string_bytes b)) es k iri) ≡ declared (string_bytes k) iri (texts_of_entries es)
  declared_entries [] k iri = refl
  declared_entries (e ∷ es) k iri = ⊎_elim (λ t. rw t refl) (λ f. rw f (ap (λ l. (string_bytes e.0, e.1) ∷ l) (declared_entries es k iri))) (cases_Bool (bytes_eq (string_bytes k) (string_bytes e.0)))

  pub namespace_entries : (es : List (String Z × List ℕ)) (name : List ℕ) → lookup (λ k. bytes_eq name (string_bytes k)) es ≡ namespace name (texts_of_entries es)
  namespace_entries [] name = refl
  namespace_entries (e ∷ es) name = ap (cond (bytes_eq name (string_bytes e.0)) (Some e.1)) (namespace_entries es name)
