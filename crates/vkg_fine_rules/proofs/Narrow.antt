-- The terms of a term map are no numbers of too many digits.
use Rattle.std.proofs.Common.{◌≡◌, ℕ, Bool, true, false, not, ◌&&◌, List, refl, sym, subst}
use Rattle.std.specs.Prelude.{Option, Some, None, option_map, if◌then◌else◌, Ok, Err, IsTrue, IsFalse}
use Rattle.std.proofs.lemmas.Bool.{not_from_false}
use Rattle.vkg_terms.specs.declared.term.Annotation.TheVariants.{Plain, Lang, Typed}
use Rattle.vkg_terms.specs.declared.term.Term.{Term}
use Rattle.vkg_terms.specs.declared.term.Term.TheVariants.{Iri, Lit}
use Rattle.vkg_terms.specs.Iri.{is_absolute}
use Rattle.vkg_cells.specs.Form.{lexical_form}
use Rattle.vkg_cells.specs.WellTyped.{is_well_typed, is_too_wide, is_wide_number}
use Rattle.vkg_schema.specs.Rows.{Row, cell_at}
use Rattle.vkg_maps.specs.declared.data_fault.TermFault.TheVariants.{NotIri, IllTyped, TooWide}
use Rattle.vkg_maps.specs.declared.term_map.TermMap.{TermMap}
use Rattle.vkg_maps.specs.declared.term_map.TermMap.TheVariants as from
use Rattle.vkg_maps.specs.declared.term_map.TermType.{TermType}
use Rattle.vkg_maps.specs.declared.term_map.TermType.TheVariants as sort
use Rattle.vkg_maps.specs.Terms.{against, term_of, term_if_any, term_from, template_value, where_value}
use Rattle.vkg_maps.specs.Within.{is_wide_constant}
use Rattle.vkg_unfolded.specs.FineRows.{IsNarrow}

narrow_constant : (c : Term) → IsFalse (is_wide_constant (from.Constant c)) → IsNarrow (Some c)
narrow_constant c h = not_from_false (is_wide_number c) h

narrow_text : (t : TermType) (s : List ℕ) → IsNarrow (term_if_any (term_from t s))
narrow_text sort.Iri s = of (is_absolute s)
  where
    of : (b : Bool) → IsNarrow (term_if_any (if b then Ok (Some (Iri s)) else Err NotIri))
    of true = refl
    of false = tt
narrow_text sort.Blank s = refl
narrow_text (sort.Literal Plain) s = refl
narrow_text (sort.Literal (Lang tag)) s = refl
narrow_text (sort.Literal (Typed d)) s = of (is_well_typed d s) refl (is_too_wide d s) refl
  where
    of : (b : Bool) → is_well_typed d s ≡ b → (c : Bool) → is_too_wide d s ≡ c → IsNarrow (term_if_any (if b then (if c then Err TooWide else Ok (Some (Lit s (Typed d)))) else Err IllTyped))
    of true w true v = tt
    of true w false v = subst (λ x. IsTrue (not x)) (sym (λ i. w i && v i)) refl
    of false w c v = tt

narrow_value : (t : TermType) (o : Option (List ℕ)) → IsNarrow (term_if_any (where_value t o))
narrow_value t None = tt
narrow_value t (Some s) = narrow_text t s

pub narrow_term : (base : List ℕ) (t : TermMap) (row : Row) → IsFalse (is_wide_constant t) → IsNarrow (term_if_any (term_of base t row))
narrow_term base (from.Constant c) row h = narrow_constant c h
narrow_term base (from.Column c t) row h = narrow_value t (option_map (against base t) (lexical_form (cell_at row c)))
narrow_term base (from.Template ps t) row h = narrow_value t (template_value t row ps)
