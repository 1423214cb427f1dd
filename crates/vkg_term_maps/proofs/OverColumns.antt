-- The term maps of a mapping graph are over the columns that they are read over.
use Rattle.std.proofs.Common.{◌≡◌, ℕ, ◌<◌, Bool, true, false, cond, List, [], ◌∷◌, map, length, refl, sym, subst}
use Rattle.std.specs.Prelude.{Option, Some, None, option_map, Result, Ok, Err, flat_map}
use Rattle.std.proofs.lemmas.List.{length-map}
use Rattle.vkg_lists.proofs.Positions.{place_within}
use Rattle.vkg_lists.specs.Lists.{AllBelow}
use Rattle.vkg_lists.specs.Results.{mapped}
use Rattle.vkg_lists.specs.Options.{with_first}
use Rattle.vkg_terms.specs.declared.template.Part.{Part}
use Rattle.vkg_terms.specs.declared.template.Part.TheVariants as part
use Rattle.vkg_terms.specs.declared.template.Standing.{Standing}
use Rattle.vkg_terms.specs.declared.template.Standing.TheVariants as stands
use Rattle.vkg_terms.specs.declared.term.Term.{Term}
use Rattle.vkg_terms.specs.Name.{template_read}
use Rattle.vkg_terms.specs.TemplateParts.{standing}
use Rattle.vkg_cells.specs.declared.cell.SqlType.{SqlType}
use Rattle.vkg_schema.specs.declared.table.Column.{Column}
use Rattle.vkg_maps.specs.declared.term_map.TermMap.{TermMap}
use Rattle.vkg_maps.specs.declared.term_map.TermMap.TheVariants as from
use Rattle.vkg_maps.specs.declared.term_map.Piece.{Piece}
use Rattle.vkg_maps.specs.declared.term_map.Piece.TheVariants as piece
use Rattle.vkg_maps.specs.declared.term_map.TermType.{TermType}
use Rattle.vkg_turtle.specs.declared.triple.Triple.{Triple}
use Rattle.vkg_term_maps.specs.declared.error.TermMapFault.{TermMapFault}
use Rattle.vkg_term_maps.specs.declared.error.TermMapFault.TheVariants as fault
use Rattle.vkg_term_maps.specs.declared.kind.Kind.{Kind}
use Rattle.vkg_term_maps.specs.declared.kind.Kind.TheVariants as kind
use Rattle.vkg_term_maps.specs.declared.place.Place.{Place}
use Rattle.vkg_term_maps.specs.declared.place.Place.TheVariants as place
use Rattle.vkg_term_maps.specs.declared.place.Role.{Role}
use Rattle.vkg_term_maps.specs.declared.term_type.Properties.{Properties}
use Rattle.vkg_term_maps.specs.declared.term_type.Sort.{Sort}
use Rattle.vkg_term_maps.specs.declared.term_type.Sort.TheVariants as sort
use Rattle.vkg_term_maps.specs.Columns.{column_of, means}
use Rattle.vkg_term_maps.specs.TermMaps.{by_standing, column_map, constant, constant_map, kind_at, no_properties, of_kind, of_pieces, piece_of, pieces_of, properties, template_map, term_map_of}
use Rattle.vkg_maps.specs.Within.{IsOver, piece_columns}
use Rattle.vkg_cells.specs.WellTyped.{is_wide_number}

abbrev Read : Type 0
Read = Result TermMap TermMapFault

abbrev kinds : List Column → List SqlType
kinds columns = map (λ (c : Column). c.kind) columns

module _ (columns : List Column) where
  abbrev Over : TermMap → Type 0
  Over t = IsOver (kinds columns) t

  -- a width by the columns as one by their kinds
  as_kinds : (n : ℕ) → n < length columns → n < length (kinds columns)
  as_kinds n l = subst (λ m. n < m) (sym (length-map columns (λ (c : Column). c.kind))) l

  over_constant : (c : Term) (t : TermMap) → constant_map c ≡ Ok t → Over t
  over_constant c t e = of (is_wide_number c) refl e
    where
      of : (b : Bool) → is_wide_number c ≡ b → ◌≡◌ {A = Read} (cond b (Err fault.WideNumber) (Ok (from.Constant c))) (Ok t) → Over t
      of true w e = cc
      of false w e =
          let same : from.Constant c ≡ t = cc in
          subst Over same (record { columns = tt; narrow = w })

  over_typed : (made : TermType → TermMap) → ((y : TermType) → Over (made y)) → (r : Result TermType TermMapFault) (t : TermMap) → mapped made r ≡ Ok t → Over t
  over_typed made h (Ok y) t e = let same : made y ≡ t = cc in subst Over same (h y)
  over_typed made h (Err f) t e = cc

  pub column_below : (text : List ℕ) (at : ℕ) → column_of columns text ≡ Some at → at < length (kinds columns)
  column_below text at e = as_kinds at (place_within (λ (c : Column). means text c.name) columns at e)

  over_column : (role : Role) (p : Properties) (text : List ℕ) (t : TermMap) → column_map role p columns (column_of columns text) ≡ Ok t → Over t
  over_column role p text t e = of (column_of columns text) refl e
    where
      of : (o : Option ℕ) → column_of columns text ≡ o → column_map role p columns o ≡ Ok t → Over t
      of None w e = cc
      of (Some at) w e = over_typed (from.Column at) (λ y. record { columns = (column_below text at w, tt); narrow = refl }) _ t e

  abbrev BelowPieces : List Piece → Type 0
  BelowPieces ps = AllBelow (length (kinds columns)) (flat_map piece_columns ps)

  more_pieces : (p : Part) (rest : Option (List Piece)) → ((ps : List Piece) → rest ≡ Some ps → BelowPieces ps) → (ps : List Piece) → with_first (piece_of columns p) rest ≡ Some ps → BelowPieces ps
  more_pieces (part.Fixed text) None h ps e = cc
  more_pieces (part.Fixed text) (Some qs) h ps e = let same : piece.Fixed text ∷ qs ≡ ps = cc in subst BelowPieces same (h qs refl)
  more_pieces (part.Hole name) rest h ps e = of (column_of columns name) refl rest h e
    where
      of : (o : Option ℕ) → column_of columns name ≡ o → (rest : Option (List Piece)) → ((ps : List Piece) → rest ≡ Some ps → BelowPieces ps) → with_first (option_map piece.Column o) rest ≡ Some ps → BelowPieces ps
      of None w rest h e = cc
      of (Some at) w None h e = cc
      of (Some at) w (Some qs) h e = let same : piece.Column at ∷ qs ≡ ps = cc in subst BelowPieces same (column_below name at w, h qs refl)

  pieces_below : (parts : List Part) (ps : List Piece) → pieces_of columns parts ≡ Some ps → BelowPieces ps
  pieces_below [] ps e = let same : [] ≡ ps = cc in subst BelowPieces same tt
  pieces_below (p ∷ parts) ps e = more_pieces p (pieces_of columns parts) (pieces_below parts) ps e

  over_template : (base : List ℕ) (p : Properties) (ps : List Piece) → BelowPieces ps → (stand : Standing) (s : Option Sort) (t : TermMap) → by_standing base p ps stand s ≡ Ok t → Over t
  over_template base p ps h stands.Doubtful (Some sort.Iri) t e = cc
  over_template base p ps h stands.Doubtful (Some sort.Blank) t e = over_typed (from.Template ps) (λ y. record { columns = h; narrow = refl }) _ t e
  over_template base p ps h stands.Doubtful (Some sort.Literal) t e = over_typed (from.Template ps) (λ y. record { columns = h; narrow = refl }) _ t e
  over_template base p ps h stands.Doubtful None t e = cc
  over_template base p ps h stands.Relative (Some sort.Iri) t e = over_typed (from.Template (piece.Fixed base ∷ ps)) (λ y. record { columns = h; narrow = refl }) _ t e
  over_template base p ps h stands.Relative (Some sort.Blank) t e = over_typed (from.Template ps) (λ y. record { columns = h; narrow = refl }) _ t e
  over_template base p ps h stands.Relative (Some sort.Literal) t e = over_typed (from.Template ps) (λ y. record { columns = h; narrow = refl }) _ t e
  over_template base p ps h stands.Relative None t e = cc
  over_template base p ps h stands.Absolute (Some sort.Iri) t e = over_typed (from.Template ps) (λ y. record { columns = h; narrow = refl }) _ t e
  over_template base p ps h stands.Absolute (Some sort.Blank) t e = over_typed (from.Template ps) (λ y. record { columns = h; narrow = refl }) _ t e
  over_template base p ps h stands.Absolute (Some sort.Literal) t e = over_typed (from.Template ps) (λ y. record { columns = h; narrow = refl }) _ t e
  over_template base p ps h stands.Absolute None t e = cc

  over_parts : (role : Role) (p : Properties) (base : List ℕ) (o : Option (List Part)) (t : TermMap) → template_map role p columns base o ≡ Ok t → Over t
  over_parts role p base None t e = cc
  over_parts role p base (Some parts) t e = of (pieces_of columns parts) refl e
    where
      of : (o : Option (List Piece)) → pieces_of columns parts ≡ o → of_pieces role p base (standing parts) o ≡ Ok t → Over t
      of None w e = cc
      of (Some ps) w e = over_template base p ps (pieces_below parts ps w) (standing parts) _ t e

  over_kind : (role : Role) (p : Properties) (base : List ℕ) (k : Option Kind) (t : TermMap) → of_kind role p columns base k ≡ Ok t → Over t
  over_kind role p base None t e = cc
  over_kind role p base (Some (kind.Constant c)) t e = over_constant c t e
  over_kind role p base (Some (kind.Column text)) t e = over_column role p text t e
  over_kind role p base (Some (kind.Template text)) t e = over_parts role p base (template_read text) t e

  pub over_read : (triples : List Triple) (base : List ℕ) (role : Role) (p : Place) (t : TermMap) → term_map_of triples columns base role p ≡ Ok t → Over t
  over_read triples base role (place.Constant c) t e = over_kind role no_properties base (constant role c) t e
  over_read triples base role (place.Node node) t e = over_kind role (properties triples node) base (kind_at triples role node) t e
