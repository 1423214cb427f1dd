-- The term maps of a mapping graph whose objects can be written can be written.
use Rattle.std.proofs.Common.{◌≡◌, ℕ, Bool, true, false, cond, ◌&&◌, ◌==◌, List, [], ◌∷◌, map, codes, refl, Option, Some, None, Result, Ok, Err, arith}
use Rattle.std.specs.Prelude.{IfOk, IfSome, option_map, slice_get}
use Rattle.std.specs.Char.{to_ascii_lowercase}
use Rattle.std.specs.List.{AllByRecursion, list_all}
use Rattle.std.specs.Str.{bytes_eq}
use Rattle.std.proofs.lemmas.Bool.{cond_both}
use Rattle.std.proofs.lemmas.Bool.Decides.{nat_tests}
use Rattle.vkg_lists.proofs.Bools.{and_parts, and_true}
use Rattle.vkg_lists.proofs.Each.{recursion_filter_map}
use Rattle.vkg_lists.specs.Options.{with_first}
use Rattle.vkg_lists.specs.Results.{mapped}
use Rattle.vkg_terms.specs.declared.template.Part.{Part}
use Rattle.vkg_terms.specs.declared.template.Part.TheVariants as part
use Rattle.vkg_terms.specs.declared.template.Standing.{Standing}
use Rattle.vkg_terms.specs.declared.template.Standing.TheVariants as stands
use Rattle.vkg_terms.specs.declared.term.Annotation.{Annotation}
use Rattle.vkg_terms.specs.declared.term.Annotation.TheVariants.{Plain, Lang, Typed}
use Rattle.vkg_terms.specs.declared.term.Term.{Term}
use Rattle.vkg_terms.specs.declared.term.Term.TheVariants.{Iri, Blank, Lit}
use Rattle.vkg_terms.specs.Name.{template_read}
use Rattle.vkg_terms.specs.Same.{term_eq}
use Rattle.vkg_terms.specs.TemplateParts.{standing}
use Rattle.vkg_terms.specs.Vocabulary.{xsd_string, rdf_lang_string}
use Rattle.vkg_terms.specs.Writable.{IsWritable, IsWritableAnnotation, is_visible}
use Rattle.vkg_cells.specs.declared.cell.SqlType.{SqlType}
use Rattle.vkg_cells.specs.declared.cell.SqlType.TheVariants as data_kind
use Rattle.vkg_cells.specs.Form.{natural}
use Rattle.vkg_cells.specs.WellTyped.{is_wide_number}
use Rattle.vkg_schema.specs.declared.table.Column.{Column}
use Rattle.vkg_maps.specs.declared.term_map.TermMap.TheVariants as from
use Rattle.vkg_maps.specs.declared.term_map.Piece.{Piece}
use Rattle.vkg_maps.specs.declared.term_map.Piece.TheVariants as piece
use Rattle.vkg_maps.specs.declared.term_map.TermType.{TermType}
use Rattle.vkg_maps.specs.declared.term_map.TermType.TheVariants as type
use Rattle.vkg_maps.specs.Writable.{IsTextPiece, IsWritableMap}
use Rattle.vkg_turtle.specs.declared.triple.Triple.{Triple}
use Rattle.vkg_term_maps.specs.declared.error.TermMapFault.{TermMapFault}
use Rattle.vkg_term_maps.specs.declared.error.TermMapFault.TheVariants as fault
use Rattle.vkg_term_maps.specs.declared.place.Place.{Place}
use Rattle.vkg_term_maps.specs.declared.place.Place.TheVariants as place
use Rattle.vkg_term_maps.specs.declared.place.Role.{Role}
use Rattle.vkg_term_maps.specs.declared.place.Role.TheVariants.{Subject, Predicate, Object, Graph}
use Rattle.vkg_term_maps.specs.Columns.{column_of}
use Rattle.vkg_term_maps.specs.Graph.{objects, object_if, place_if, place_of, places}
use Rattle.vkg_term_maps.specs.Languages.{is_language_tag, is_tag_character, tag_from}
use Rattle.vkg_term_maps.specs.TermMaps.{annotation_of, by_standing, column_map, constant, counted, default_sort, if_allowed, is_annotated, kind_of, lacks_tag, literal_of, natural_at, natural_if_any, of_datatype, of_kind, of_language, of_pieces, piece_of, pieces_of, properties, sort_named, sort_of, template_map, term_map_of, text_of, type_of, unless_annotated}
use Rattle.vkg_term_maps.specs.Vocabulary.{map_property, rr, shortcut}
use Rattle.vkg_written.specs.Mappings.{HoldsWritableValues, IsWritableValue}
use Rattle.vkg_written.proofs.Templates.{IsTextPart, read_texts}
use Rattle.vkg_written.proofs.Texts.{lower_visible}

-- ---- language tags

tag_character_visible : (first : Bool) (b : ℕ) → is_tag_character first b ≡ true → is_visible b ≡ true
tag_character_visible true b h = grind (arith, nat_tests)
tag_character_visible false b h = grind (arith, nat_tests)

tag_visible : (first some : Bool) (tag : List ℕ) → tag_from first some tag ≡ true → list_all is_visible (map to_ascii_lowercase tag) ≡ true
tag_visible first some [] e = refl
tag_visible first some (b ∷ bs) e = of (b == 45) refl e (λ f s h. tag_visible f s bs h)
  where
    of : (t : Bool) → (b == 45) ≡ t → cond t (some && tag_from false false bs) (is_tag_character first b && tag_from first true bs) ≡ true
        → ((f s : Bool) → tag_from f s bs ≡ true → list_all is_visible (map to_ascii_lowercase bs) ≡ true) → list_all is_visible (map to_ascii_lowercase (b ∷ bs)) ≡ true
    of true w h more = and_true (is_visible (to_ascii_lowercase b)) _ (lower_visible b (grind (arith, nat_tests))) (more false false (and_parts some (tag_from false false bs) h).1)
    of false w h more =
        let p = and_parts (is_tag_character first b) (tag_from first true bs) h in
        and_true (is_visible (to_ascii_lowercase b)) _ (lower_visible b (tag_character_visible first b p.0)) (more first true p.1)

natural_writable : (o : Option Column) → IsWritableAnnotation (natural_if_any o)
natural_writable None = tt
natural_writable (Some column) = of column.kind
  where
    of : (k : SqlType) → IsWritableAnnotation (natural k)
    of data_kind.Text = tt
    of data_kind.Int = refl
    of data_kind.Dec = refl
    of data_kind.Bool = refl
    of data_kind.Date = refl
    of data_kind.Stamp = refl
    of data_kind.Bin = refl
    of data_kind.Time = refl
    of data_kind.Term = tt

-- ---- annotations

abbrev Values : List Term → Type 0
Values ts = AllByRecursion IsWritableValue ts

abbrev FineType : TermType → Type 0
FineType type.Iri = Unit {0}
FineType type.Blank = Unit {0}
FineType (type.Literal annotation) = IsWritableAnnotation annotation

language_fine : (o : Option (List ℕ)) → IfSome (of_language o) IsWritableAnnotation
language_fine None = tt
language_fine (Some tag) = cond_both (is_language_tag tag) (Some (Lang (map to_ascii_lowercase tag))) None (λ o. IfSome o IsWritableAnnotation) (λ e. tag_visible true false tag e) (λ _. tt)

datatype_fine : (t : Term) → IsWritableValue t → IfSome (of_datatype t) IsWritableAnnotation
datatype_fine (Iri iri) w =
    cond_both (bytes_eq iri rdf_lang_string) None (Some (cond (bytes_eq iri xsd_string) Plain (Typed iri))) (λ o. IfSome o IsWritableAnnotation) (λ _. tt)
    (λ _. cond_both (bytes_eq iri xsd_string) Plain (Typed iri) IsWritableAnnotation (λ _. tt) (λ _. w))
datatype_fine (Blank label) w = tt
datatype_fine (Lit text a) w = tt

annotation_fine : (default : Annotation) → IsWritableAnnotation default → (l d : List Term) → Values d → IfSome (annotation_of default (counted l) (counted d)) IsWritableAnnotation
annotation_fine default w [] [] v = w
annotation_fine default w [] (t ∷ []) v = datatype_fine t v.0
annotation_fine default w [] (t ∷ u ∷ ts) v = tt
annotation_fine default w (t ∷ []) [] v = language_fine (text_of t)
annotation_fine default w (t ∷ []) (s ∷ []) v = tt
annotation_fine default w (t ∷ []) (s ∷ u ∷ us) v = tt
annotation_fine default w (t ∷ s ∷ ts) [] v = tt
annotation_fine default w (t ∷ s ∷ ts) (u ∷ []) v = tt
annotation_fine default w (t ∷ s ∷ ts) (u ∷ v ∷ us) h = tt

literal_fine : (o : Option Annotation) → IfSome o IsWritableAnnotation → IfOk (literal_of o) FineType
literal_fine None h = tt
literal_fine (Some a) h = h

-- ---- term types: none, one of the three

abbrev a_blank : Term
a_blank = Iri (rr (codes "BlankNode"))

named : (t : Term) (P : _ → Type 0) → P None → P (Some (default_sort Subject true)) → P (Some (default_sort Object true)) → P (sort_named a_blank) → P (sort_named t)
named (Blank label) P n i l b = n
named (Lit text a) P n i l b = n
named (Iri iri) P n i l b =
    cond_both (bytes_eq iri (rr (codes "IRI"))) _ _ P (λ _. i)
    (λ _. cond_both (bytes_eq iri (rr (codes "BlankNode"))) _ _ P (λ _. b)
    (λ _. cond_both (bytes_eq iri (rr (codes "Literal"))) _ _ P (λ _. l) (λ _. n)))

by_sort : (role : Role) (literal : Bool) (ts : List Term) (P : _ → Type 0) → P None → P (Some (default_sort Subject true)) → P (Some (default_sort Object true)) → P (sort_named a_blank) → P (sort_of role literal (counted ts))
by_sort Subject literal [] P n i l b = i
by_sort Predicate literal [] P n i l b = i
by_sort Graph literal [] P n i l b = i
by_sort Object true [] P n i l b = l
by_sort Object false [] P n i l b = i
by_sort Subject literal (t ∷ []) P n i l b = named t (λ s. P (if_allowed Subject s)) n i n b
by_sort Predicate literal (t ∷ []) P n i l b = named t (λ s. P (if_allowed Predicate s)) n i n n
by_sort Graph literal (t ∷ []) P n i l b = named t (λ s. P (if_allowed Graph s)) n i n n
by_sort Object literal (t ∷ []) P n i l b = named t P n i l b
by_sort role literal (t ∷ u ∷ ts) P n i l b = n

-- ---- term maps

column_typed : (at : ℕ) (r : Result TermType TermMapFault) → IfOk r FineType → IfOk (mapped (from.Column at) r) IsWritableMap
column_typed at (Err f) h = tt
column_typed at (Ok type.Iri) h = tt
column_typed at (Ok type.Blank) h = tt
column_typed at (Ok (type.Literal a)) h = (tt, h)

template_typed : (ps : List Piece) → AllByRecursion IsTextPiece ps → (r : Result TermType TermMapFault) → IfOk r FineType → IfOk (mapped (from.Template ps) r) IsWritableMap
template_typed ps t (Err f) h = tt
template_typed ps t (Ok type.Iri) h = tt
template_typed ps t (Ok type.Blank) h = tt
template_typed ps t (Ok (type.Literal a)) h = (t, h)

first_fine : (o : Option Piece) → IfSome o IsTextPiece → (r : Option (List Piece)) → IfSome r (AllByRecursion IsTextPiece) → IfSome (with_first o r) (AllByRecursion IsTextPiece)
first_fine None h None k = tt
first_fine None h (Some ps) k = tt
first_fine (Some x) h None k = tt
first_fine (Some x) h (Some ps) k = (h, k)

piece_fine : (columns : List Column) (q : Part) → IsTextPart q → IfSome (piece_of columns q) IsTextPiece
piece_fine columns (part.Fixed text) h = h
piece_fine columns (part.Hole name) h = of (column_of columns name)
  where
    of : (o : Option ℕ) → IfSome (option_map piece.Column o) IsTextPiece
    of None = tt
    of (Some at) = tt

pieces_fine : (columns : List Column) (parts : List Part) → AllByRecursion IsTextPart parts → IfSome (pieces_of columns parts) (AllByRecursion IsTextPiece)
pieces_fine columns [] h = tt
pieces_fine columns (q ∷ parts) h = first_fine (piece_of columns q) (piece_fine columns q h.0) (pieces_of columns parts) (pieces_fine columns parts h.1)

-- of a node of these triples; one of no triples has no properties
module _ (triples : List Triple) (fine : HoldsWritableValues triples) where
  pub objects_fine : (node : Term) (name : List ℕ) → AllByRecursion IsWritableValue (objects triples node name)
  objects_fine node name =
      recursion_filter_map (λ (t : Triple). IsWritableValue t.object) IsWritableValue (object_if node name)
      (λ t h. cond_both (term_eq node t.subject && term_eq t.predicate (Iri name)) (Some t.object) None (λ o. IfSome o IsWritableValue) (λ _. h) (λ _. tt)) triples fine

  module _ (node : Term) where
    unless_fine : (t : TermType) → FineType t → IfOk (unless_annotated (properties triples node) t) FineType
    unless_fine t h = cond_both (is_annotated (properties triples node)) (Err fault.Annotation) (Ok t) (λ r. IfOk r FineType) (λ _. tt) (λ _. h)

    literal_typed : (default : Annotation) → IsWritableAnnotation default → IfOk (type_of default (properties triples node) (Some (default_sort Object true))) FineType
    literal_typed default w = literal_fine _ (annotation_fine default w (objects triples node (rr (codes "language"))) (objects triples node (rr (codes "datatype"))) (objects_fine node (rr (codes "datatype"))))

    column_map_fine : (role : Role) (columns : List Column) (o : Option ℕ) → IfOk (column_map role (properties triples node) columns o) IsWritableMap
    column_map_fine role columns None = tt
    column_map_fine role columns (Some at) =
        let default = natural_at columns at in
        by_sort role true (objects triples node (rr (codes "termType"))) (λ s. IfOk (mapped (from.Column at) (type_of default (properties triples node) s)) IsWritableMap)
        tt (column_typed at _ (unless_fine type.Iri tt)) (column_typed at _ (literal_typed default (natural_writable (slice_get columns at)))) (column_typed at _ (unless_fine type.Blank tt))

    iri_template : (ps : List Piece) → IfOk (mapped (from.Template ps) (unless_annotated (properties triples node) type.Iri)) IsWritableMap
    iri_template ps = cond_both (is_annotated (properties triples node)) (Err fault.Annotation) (Ok type.Iri) (λ r. IfOk (mapped (from.Template ps) r) IsWritableMap) (λ _. tt) (λ _. tt)

    module _ (role : Role) (base : List ℕ) where
      of_pieces_fine : (stand : Standing) (o : Option (List Piece)) → IfSome o (AllByRecursion IsTextPiece) → IfOk (of_pieces role (properties triples node) base stand o) IsWritableMap
      of_pieces_fine stand None h = tt
      of_pieces_fine stand (Some ps) h =
          by_sort role (is_annotated (properties triples node)) (objects triples node (rr (codes "termType"))) (λ s. IfOk (by_standing base (properties triples node) ps stand s) IsWritableMap)
          (none stand) (iri stand) (literal stand) (blank stand)
        where
          none : (stand : Standing) → IfOk (by_standing base (properties triples node) ps stand None) IsWritableMap
          none stands.Doubtful = tt
          none stands.Relative = tt
          none stands.Absolute = tt

          iri : (stand : Standing) → IfOk (by_standing base (properties triples node) ps stand (Some (default_sort Subject true))) IsWritableMap
          iri stands.Doubtful = tt
          iri stands.Relative = iri_template (piece.Fixed base ∷ ps)
          iri stands.Absolute = iri_template ps

          literal : (stand : Standing) → IfOk (by_standing base (properties triples node) ps stand (Some (default_sort Object true))) IsWritableMap
          literal stands.Doubtful = template_typed ps h _ (literal_typed Plain tt)
          literal stands.Relative = template_typed ps h _ (literal_typed Plain tt)
          literal stands.Absolute = template_typed ps h _ (literal_typed Plain tt)

          blank : (stand : Standing) → IfOk (by_standing base (properties triples node) ps stand (sort_named a_blank)) IsWritableMap
          blank stands.Doubtful = template_typed ps h _ (unless_fine type.Blank tt)
          blank stands.Relative = template_typed ps h _ (unless_fine type.Blank tt)
          blank stands.Absolute = template_typed ps h _ (unless_fine type.Blank tt)

      template_map_fine : (columns : List Column) (o : Option (List Part)) → IfSome o (AllByRecursion IsTextPart) → IfOk (template_map role (properties triples node) columns base o) IsWritableMap
      template_map_fine columns None h = tt
      template_map_fine columns (Some parts) h = of_pieces_fine (standing parts) (pieces_of columns parts) (pieces_fine columns parts h)

      constant_fine : (columns : List Column) (c : Term) → IsWritable c → IfOk (cond (is_wide_number c) (Err fault.WideNumber) (Ok (from.Constant c))) IsWritableMap
      constant_fine columns c h = cond_both (is_wide_number c) (Err fault.WideNumber) (Ok (from.Constant c)) (λ r. IfOk r IsWritableMap) (λ _. tt) (λ _. h)

  -- ---- a term map, by its constant, its column or its template

  module _ (role : Role) (columns : List Column) (base : List ℕ) where
    constant_at : (node t : Term) → IsWritableValue t → IfOk (of_kind role (properties triples node) columns base (constant role t)) IsWritableMap
    constant_at = by role
      where
        by : (role : Role) (node t : Term) → IsWritableValue t → IfOk (of_kind role (properties triples node) columns base (constant role t)) IsWritableMap
        by role node (Iri iri) w = constant_fine node role base columns (Iri iri) w
        by Subject node (Blank label) w = tt
        by Predicate node (Blank label) w = tt
        by Object node (Blank label) w = tt
        by Graph node (Blank label) w = tt
        by Subject node (Lit text a) w = tt
        by Predicate node (Lit text a) w = tt
        by Object node (Lit text a) w =
            cond_both (lacks_tag a) _ _ (λ k. IfOk (of_kind Object (properties triples node) columns base k) IsWritableMap) (λ _. tt) (λ _. constant_fine node Object base columns (Lit text a) w)
        by Graph node (Lit text a) w = tt

    column_at : (node t : Term) → IfOk (of_kind role (properties triples node) columns base (kind_of role (counted []) (counted (t ∷ [])) (counted []))) IsWritableMap
    column_at node (Iri iri) = tt
    column_at node (Blank label) = tt
    column_at node (Lit text Plain) = column_map_fine node role columns (column_of columns text)
    column_at node (Lit text (Lang tag)) = tt
    column_at node (Lit text (Typed d)) = tt

    template_at : (node t : Term) → IsWritableValue t → IfOk (of_kind role (properties triples node) columns base (kind_of role (counted []) (counted []) (counted (t ∷ [])))) IsWritableMap
    template_at node (Iri iri) w = tt
    template_at node (Blank label) w = tt
    template_at node (Lit text Plain) w = template_map_fine node role base columns (template_read text) (read_texts text w.0)
    template_at node (Lit text (Lang tag)) w = tt
    template_at node (Lit text (Typed d)) w = tt

    kind_fine : (node : Term) (c k t : List Term) → Values c → Values t → IfOk (of_kind role (properties triples node) columns base (kind_of role (counted c) (counted k) (counted t))) IsWritableMap
    kind_fine node [] [] [] u w = tt
    kind_fine node [] [] (t ∷ []) u w = template_at node t w.0
    kind_fine node [] [] (t ∷ t2 ∷ ts) u w = tt
    kind_fine node [] (k ∷ []) [] u w = column_at node k
    kind_fine node [] (k ∷ []) (t ∷ []) u w = tt
    kind_fine node [] (k ∷ []) (t ∷ t2 ∷ ts) u w = tt
    kind_fine node [] (k ∷ k2 ∷ ks) [] u w = tt
    kind_fine node [] (k ∷ k2 ∷ ks) (t ∷ []) u w = tt
    kind_fine node [] (k ∷ k2 ∷ ks) (t ∷ t2 ∷ ts) u w = tt
    kind_fine node (c ∷ []) [] [] u w = constant_at node c u.0
    kind_fine node (c ∷ []) [] (t ∷ []) u w = tt
    kind_fine node (c ∷ []) [] (t ∷ t2 ∷ ts) u w = tt
    kind_fine node (c ∷ []) (k ∷ []) [] u w = tt
    kind_fine node (c ∷ []) (k ∷ []) (t ∷ []) u w = tt
    kind_fine node (c ∷ []) (k ∷ []) (t ∷ t2 ∷ ts) u w = tt
    kind_fine node (c ∷ []) (k ∷ k2 ∷ ks) [] u w = tt
    kind_fine node (c ∷ []) (k ∷ k2 ∷ ks) (t ∷ []) u w = tt
    kind_fine node (c ∷ []) (k ∷ k2 ∷ ks) (t ∷ t2 ∷ ts) u w = tt
    kind_fine node (c ∷ c2 ∷ cs) [] [] u w = tt
    kind_fine node (c ∷ c2 ∷ cs) [] (t ∷ []) u w = tt
    kind_fine node (c ∷ c2 ∷ cs) [] (t ∷ t2 ∷ ts) u w = tt
    kind_fine node (c ∷ c2 ∷ cs) (k ∷ []) [] u w = tt
    kind_fine node (c ∷ c2 ∷ cs) (k ∷ []) (t ∷ []) u w = tt
    kind_fine node (c ∷ c2 ∷ cs) (k ∷ []) (t ∷ t2 ∷ ts) u w = tt
    kind_fine node (c ∷ c2 ∷ cs) (k ∷ k2 ∷ ks) [] u w = tt
    kind_fine node (c ∷ c2 ∷ cs) (k ∷ k2 ∷ ks) (t ∷ []) u w = tt
    kind_fine node (c ∷ c2 ∷ cs) (k ∷ k2 ∷ ks) (t ∷ t2 ∷ ts) u w = tt

    node_fine : (node : Term) → IfOk (term_map_of triples columns base role (place.Node node)) IsWritableMap
    node_fine node =
        kind_fine node (objects triples node (rr (codes "constant"))) (objects triples node (rr (codes "column"))) (objects triples node (rr (codes "template")))
        (objects_fine node (rr (codes "constant"))) (objects_fine node (rr (codes "template")))

-- ---- the graph

abbrev pub FinePlace : Place → Type 0
FinePlace (place.Constant t) = IsWritableValue t
FinePlace (place.Node node) = Unit {0}

module _ (triples : List Triple) (fine : HoldsWritableValues triples) where
  pub places_fine : (node : Term) (role : Role) → AllByRecursion FinePlace (places triples node role)
  places_fine node role =
      recursion_filter_map (λ (t : Triple). IsWritableValue t.object) FinePlace (place_if node role)
      (λ t h. cond_both (term_eq node t.subject) (place_of role t) None (λ o. IfSome o FinePlace)
      (λ _. cond_both (term_eq t.predicate (Iri (shortcut role))) (Some (place.Constant t.object)) (cond (term_eq t.predicate (Iri (map_property role))) (Some (place.Node t.object)) None) (λ o. IfSome o FinePlace) (λ _. h)
      (λ _. cond_both (term_eq t.predicate (Iri (map_property role))) (Some (place.Node t.object)) None (λ o. IfSome o FinePlace) (λ _. tt) (λ _. tt)))
      (λ _. tt)) triples fine

  -- a constant has no node, and so no properties
  pub term_map_fine : (columns : List Column) (base : List ℕ) (role : Role) (p : Place) → FinePlace p → IfOk (term_map_of triples columns base role p) IsWritableMap
  term_map_fine columns base role (place.Constant c) h = constant_at [] tt role columns base c c h
  term_map_fine columns base role (place.Node node) h = node_fine triples fine role columns base node
