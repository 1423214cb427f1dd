-- Over a database that meets its schema, each quad of a mapping whose term maps can be written can be written.
use Rattle.std.proofs.Common.{◌≡◌, ◌∙◌, inl, inr, ℕ, zero, suc, true, cond, List, [], ◌∷◌, ◌++◌, ◌/◌, ◌%◌, map, flat_map, refl, sym, ap, subst, Option, Some, None, Ok, Err, arith, ◌||◌, IsUtf8}
use Rattle.std.specs.Prelude.{IfSome, filter_map, option_map, slice_get, unwrap_or}
use Rattle.std.specs.Char.{digit_char}
use Rattle.std.specs.List.{AllByRecursion, AllZip, list_all}
use Rattle.std.proofs.lemmas.Bool.{cond_both}
use Rattle.std.proofs.lemmas.Bool.Decides.{nat_tests}
use Rattle.std.proofs.lemmas.Option.{none-some, same_Some}
use Rattle.std.proofs.lemmas.Str.{IsUtf8-append, IsUtf8-from_ascii, IsUtf8-nil}
use Rattle.hex.specs.Hex.{decode_of, encode_upper}
use Rattle.vkg_lists.specs.Options.{joined}
use Rattle.vkg_lists.proofs.Bools.{and_parts, and_true}
use Rattle.vkg_lists.proofs.Each.{recursion_distinct, recursion_filter, recursion_filter_map, recursion_flat_map, recursion_get, recursion_map, recursion_map_weaken}
use Rattle.vkg_lists.proofs.Members.{recursion_append, recursion_from_each}
use Rattle.vkg_lists.proofs.Results.{ok_same}
use Rattle.vkg_terms.specs.declared.term.Term.{Term}
use Rattle.vkg_terms.specs.declared.term.Term.TheVariants.{Iri, Lit}
use Rattle.vkg_terms.specs.declared.term.Annotation.{Annotation}
use Rattle.vkg_terms.specs.declared.term.Annotation.TheVariants.{Plain, Lang, Typed}
use Rattle.vkg_terms.specs.Iri.{has_scheme, is_absolute, is_iri_character}
use Rattle.vkg_terms.specs.Same.{term_eq}
use Rattle.vkg_terms.specs.Vocabulary.{rr_default_graph}
use Rattle.vkg_terms.specs.Writable.{IsWritableAnnotation, IsWritableIfAny, IsWritableQuad, is_visible}
use Rattle.vkg_cells.specs.declared.cell.SqlType.{SqlType}
use Rattle.vkg_cells.specs.declared.cell.SqlType.TheVariants as kind
use Rattle.vkg_cells.specs.declared.cell.Cell.{Cell}
use Rattle.vkg_cells.specs.declared.cell.Cell.TheVariants as cell
use Rattle.vkg_cells.specs.Field.{cell_of_field, is_true_word, is_false_word}
use Rattle.vkg_cells.specs.Form.{IsOfKind, lexical_form, bool_form}
use Rattle.vkg_cells.specs.Moment.{is_date, stamp_form, time_form}
use Rattle.vkg_cells.specs.Number.{is_integer, is_decimal, canonical}
use Rattle.vkg_cells.specs.WellTyped.{is_too_wide, is_well_typed}
use Rattle.vkg_cells.proofs.CanonicalLemmas.{integer-decimal}
use Rattle.vkg_cells.proofs.AsciiForms.{bool_ascii, canonical_ascii, octets_ascii}
use Rattle.vkg_cells.proofs.FieldLemmas.{field_ok, number_ok, octets_ok, stamp_ok, time_ok}
use Rattle.vkg_cells.proofs.MomentText.{stamp_ascii, time_ascii}
use Rattle.vkg_schema.specs.declared.table.Column.{Column}
use Rattle.vkg_schema.specs.declared.table.Table.{Table}
use Rattle.vkg_schema.specs.Meets.{FitsColumn, MeetsSchema}
use Rattle.vkg_schema.specs.Rows.{Database, Row, agree, cell_at, rows_of}
use Rattle.vkg_schema.proofs.RowFits.{row_of_table}
use Rattle.vkg_maps.specs.declared.term_map.TermMap.{TermMap}
use Rattle.vkg_maps.specs.declared.term_map.TermMap.TheVariants as from
use Rattle.vkg_maps.specs.declared.term_map.Piece.{Piece}
use Rattle.vkg_maps.specs.declared.term_map.Piece.TheVariants as piece
use Rattle.vkg_maps.specs.declared.term_map.TermType.{TermType}
use Rattle.vkg_maps.specs.declared.term_map.TermType.TheVariants as sort
use Rattle.vkg_maps.specs.declared.data_fault.TermFault.TheVariants.{NotIri, IllTyped, TooWide}
use Rattle.vkg_maps.specs.declared.mapping.Mapping.{Mapping}
use Rattle.vkg_maps.specs.declared.mapping.TriplesMap.{TriplesMap}
use Rattle.vkg_maps.specs.declared.mapping.PredicateObjectMap.{PredicateObjectMap}
use Rattle.vkg_maps.specs.declared.mapping.ObjectMap.{ObjectMap}
use Rattle.vkg_maps.specs.declared.mapping.ObjectMap.TheVariants as object
use Rattle.vkg_maps.specs.declared.quad_rule.Join.{Join}
use Rattle.vkg_maps.specs.declared.quad_rule.QuadRule.{QuadRule}
use Rattle.vkg_maps.specs.Dataset.{dataset, graph_name, object_rows, quad_eq, quad_from, quad_of, quads, quads_of_rule, target}
use Rattle.vkg_maps.specs.QuadRules.{class_map, map_rules, object_rule, parent_of, predicate_object_rules, quad_rules, targets}
use Rattle.vkg_maps.specs.Terms.{Made, against, literal, piece_text, put, template_value, term_from, term_if_any, term_of, where_value}
use Rattle.vkg_maps.specs.Writable.{HoldsWritable, IsTextPiece, IsWritableMap, IsWritableMapIfAny, IsWritableObject, IsWritablePair, IsWritableRule, IsWritableTriplesMap, IsWritableType}

-- ---- the forms of cells are texts

record Spelled (c : Cell) : Type 0 where
  form : List ℕ
  is : lexical_form c ≡ Some form
  utf8 : IsUtf8 form

spelled : (k : SqlType) (c : Cell) (text : List ℕ) → IsUtf8 text → cell_of_field k text ≡ Ok c → Spelled c
spelled kind.Text c text u e = subst Spelled (ok_same (cell.Text text) c e) (record { form = text; is = refl; utf8 = u })
spelled kind.Int c text u e =
    let h = number_ok (is_integer text) text (cell.Int (canonical text)) c e in
    subst Spelled h.2 (record { form = canonical text; is = refl; utf8 = IsUtf8-from_ascii (canonical text) (canonical_ascii text (integer-decimal text h.0)) })
spelled kind.Dec c text u e =
    let h = number_ok (is_decimal text) text (cell.Dec (canonical text)) c e in
    subst Spelled h.2 (record { form = canonical text; is = refl; utf8 = IsUtf8-from_ascii (canonical text) (canonical_ascii text h.0) })
spelled kind.Bool c text u e =
    let b = is_true_word text in
    let h = field_ok (b || is_false_word text) (cell.Bool b) c e in
    subst Spelled h.1 (record { form = bool_form b; is = refl; utf8 = IsUtf8-from_ascii (bool_form b) (bool_ascii b) })
spelled kind.Date c text u e = let h = field_ok (is_date text) (cell.Date text) c e in subst Spelled h.1 (record { form = text; is = refl; utf8 = u })
spelled kind.Stamp c text u e =
    let h = stamp_ok (stamp_form text) c e in
    subst Spelled h.2 (record { form = h.0; is = refl; utf8 = IsUtf8-from_ascii h.0 (stamp_ascii text h.0 h.1) })
spelled kind.Bin c text u e =
    let h = octets_ok (decode_of text) c e in
    subst Spelled h.1 (record { form = encode_upper h.0; is = refl; utf8 = IsUtf8-from_ascii (encode_upper h.0) (octets_ascii h.0) })
spelled kind.Time c text u e =
    let h = time_ok (time_form text) c e in
    subst Spelled h.2 (record { form = h.0; is = refl; utf8 = IsUtf8-from_ascii h.0 (time_ascii text h.0 h.1) })
spelled kind.Term c text u e = cc

form_text : (c : Cell) → Spelled c → (form : List ℕ) → lexical_form c ≡ Some form → IsUtf8 form
form_text c s form e = subst IsUtf8 (same_Some s.form form (sym s.is ∙ e)) s.utf8

kind_text : (k : SqlType) (c : Cell) → IsOfKind k c → (form : List ℕ) → lexical_form c ≡ Some form → IsUtf8 form
kind_text kind.Text c (text, u, e) form f = form_text c (spelled kind.Text c text u e) form f
kind_text kind.Int c (text, u, e) form f = form_text c (spelled kind.Int c text u e) form f
kind_text kind.Dec c (text, u, e) form f = form_text c (spelled kind.Dec c text u e) form f
kind_text kind.Bool c (text, u, e) form f = form_text c (spelled kind.Bool c text u e) form f
kind_text kind.Date c (text, u, e) form f = form_text c (spelled kind.Date c text u e) form f
kind_text kind.Stamp c (text, u, e) form f = form_text c (spelled kind.Stamp c text u e) form f
kind_text kind.Bin c (text, u, e) form f = form_text c (spelled kind.Bin c text u e) form f
kind_text kind.Time c (text, u, e) form f = form_text c (spelled kind.Time c text u e) form f
kind_text kind.Term c (term, e) form f = absurd (none-some form (sym (ap lexical_form e) ∙ f))

fitted_text : (column : Column) (c : Cell) → FitsColumn column c → (form : List ℕ) → lexical_form c ≡ Some form → IsUtf8 form
fitted_text column c f form e = elim f.kind [
  | inl n ↦ absurd (none-some form (sym (ap lexical_form n) ∙ e))
  | inr o ↦ kind_text column.kind c o form e
]

-- each form of a row is a text
abbrev pub HoldsTexts : Row → Type 0
HoldsTexts row = (column : ℕ) (form : List ℕ) → lexical_form (cell_at row column) ≡ Some form → IsUtf8 form

row_texts : (columns : List Column) (row : Row) → AllZip FitsColumn columns row → HoldsTexts row
row_texts [] [] h column form e = cc
row_texts [] (c ∷ cs) h column form e = absurd h
row_texts (k ∷ ks) [] h column form e = absurd h
row_texts (k ∷ ks) (c ∷ cs) h zero form e = fitted_text k c h.0 form e
row_texts (k ∷ ks) (c ∷ cs) h (suc n) form e = row_texts ks cs h.1 n form e

-- ---- terms

digit_visible : (n : ℕ) → is_visible (digit_char n) ≡ true
digit_visible n = grind (arith, nat_tests)

digits_visible : (octets : List ℕ) → list_all is_visible (flat_map (λ octet. digit_char (octet / 16) ∷ digit_char (octet % 16) ∷ []) octets) ≡ true
digits_visible [] = refl
digits_visible (o ∷ os) = and_true _ _ (digit_visible (o / 16)) (and_true _ _ (digit_visible (o % 16)) (digits_visible os))

-- what a term of the type needs of its text
abbrev TextFor : TermType → List ℕ → Type 0
TextFor sort.Iri text = Unit {0}
TextFor sort.Blank text = Unit {0}
TextFor (sort.Literal annotation) text = IsUtf8 text × IsWritableAnnotation annotation

abbrev MadeWritable : Made → Type 0
MadeWritable made = IsWritableIfAny (term_if_any made)

literal_made : (text : List ℕ) (a : Annotation) → IsUtf8 text × IsWritableAnnotation a → MadeWritable (literal text a)
literal_made text Plain w = w
literal_made text (Lang tag) w = w
literal_made text (Typed d) w =
    let lit : Made = Ok (Some (Lit text (Typed d))) in
    cond_both (is_well_typed d text) (cond (is_too_wide d text) (Err TooWide) lit) (Err IllTyped) MadeWritable
    (λ _. cond_both (is_too_wide d text) (Err TooWide) lit MadeWritable (λ _. tt) (λ _. w))
    (λ _. tt)

text_made : (type : TermType) (text : List ℕ) → TextFor type text → MadeWritable (term_from type text)
text_made sort.Iri text w =
    cond_both (is_absolute text) (Ok (Some (Iri text))) (Err NotIri) MadeWritable (λ e. (and_parts (has_scheme text) (list_all is_iri_character text) e).1) (λ _. tt)
text_made sort.Blank text w = digits_visible text
text_made (sort.Literal annotation) text w = literal_made text annotation w

any_made : (type : TermType) (o : Option (List ℕ)) → ((text : List ℕ) → o ≡ Some text → TextFor type text) → MadeWritable (where_value type o)
any_made type None h = tt
any_made type (Some text) h = text_made type text (h text refl)

joined_text : (o p : Option (List ℕ)) → ((x : List ℕ) → o ≡ Some x → IsUtf8 x) → ((y : List ℕ) → p ≡ Some y → IsUtf8 y) → (text : List ℕ) → joined o p ≡ Some text → IsUtf8 text
joined_text None p h k text e = cc
joined_text (Some x) None h k text e = cc
joined_text (Some x) (Some y) h k text e = subst IsUtf8 (same_Some (x ++ y) text e) (IsUtf8-append x y (h x refl) (k y refl))

module _ (row : Row) (texts : HoldsTexts row) where
  column_made : (base : List ℕ) (type : TermType) → IsWritableType [] type → (o : Option (List ℕ)) → ((form : List ℕ) → o ≡ Some form → IsUtf8 form) → MadeWritable (where_value type (option_map (against base type) o))
  column_made base type w None h = tt
  column_made base sort.Iri w (Some form) h = text_made sort.Iri (against base sort.Iri form) tt
  column_made base sort.Blank w (Some form) h = text_made sort.Blank form tt
  column_made base (sort.Literal a) w (Some form) h = text_made (sort.Literal a) form (h form refl, w.1)

  piece_utf8 : (a : Annotation) (p : Piece) → IsTextPiece p → (text : List ℕ) → piece_text (sort.Literal a) row p ≡ Some text → IsUtf8 text
  piece_utf8 a (piece.Fixed fixed) w text e = subst IsUtf8 (same_Some fixed text e) w
  piece_utf8 a (piece.Column column) w text e = of (lexical_form (cell_at row column)) (texts column) e
    where
      of : (o : Option (List ℕ)) → ((form : List ℕ) → o ≡ Some form → IsUtf8 form) → option_map (put (sort.Literal a)) o ≡ Some text → IsUtf8 text
      of None h e = cc
      of (Some form) h e = h text e

  value_utf8 : (a : Annotation) (ps : List Piece) → AllByRecursion IsTextPiece ps → (text : List ℕ) → template_value (sort.Literal a) row ps ≡ Some text → IsUtf8 text
  value_utf8 a [] w text e = subst IsUtf8 (same_Some [] text e) IsUtf8-nil
  value_utf8 a (p ∷ ps) w text e = joined_text (piece_text (sort.Literal a) row p) (template_value (sort.Literal a) row ps) (piece_utf8 a p w.0) (value_utf8 a ps w.1) text e

  template_made : (type : TermType) (ps : List Piece) → IsWritableType ps type → MadeWritable (where_value type (template_value type row ps))
  template_made sort.Iri ps w = any_made sort.Iri (template_value sort.Iri row ps) (λ text e. tt)
  template_made sort.Blank ps w = any_made sort.Blank (template_value sort.Blank row ps) (λ text e. tt)
  template_made (sort.Literal a) ps w = any_made (sort.Literal a) (template_value (sort.Literal a) row ps) (λ text e. (value_utf8 a ps w.0 text e, w.1))

  pub term_written : (base : List ℕ) (t : TermMap) → IsWritableMap t → MadeWritable (term_of base t row)
  term_written base (from.Constant term) w = w
  term_written base (from.Column column type) w = column_made base type w (lexical_form (cell_at row column)) (texts column)
  term_written base (from.Template pieces type) w = template_made type pieces w

  target_written : (base : List ℕ) (g : Option TermMap) → IsWritableMapIfAny g → IfSome (target base g row) IsWritableIfAny
  target_written base None w = tt
  target_written base (Some g) w = of (term_if_any (term_of base g row)) (term_written base g w)
    where
      of : (o : Option Term) → IsWritableIfAny o → IfSome (option_map graph_name o) IsWritableIfAny
      of None h = tt
      of (Some t) h = cond_both (term_eq t (Iri rr_default_graph)) None (Some t) IsWritableIfAny (λ _. tt) (λ _. h)

-- ---- quads

from_written : (s p o : Option Term) (g : Option (Option Term)) → IsWritableIfAny s → IsWritableIfAny p → IsWritableIfAny o → IfSome g IsWritableIfAny → IfSome (quad_from s p o g) IsWritableQuad
from_written None p o g a b c d = tt
from_written (Some s) None o g a b c d = tt
from_written (Some s) (Some p) None g a b c d = tt
from_written (Some s) (Some p) (Some o) None a b c d = tt
from_written (Some s) (Some p) (Some o) (Some g) a b c d = record { subject = a; predicate = b; object = c; graph = d }

quad_written : (base : List ℕ) (rule : QuadRule) → IsWritableRule rule → (row other : Row) → HoldsTexts row → HoldsTexts other → IfSome (quad_of base rule row other) IsWritableQuad
quad_written base rule w row other h k =
    from_written (term_if_any (term_of base rule.subject row)) (term_if_any (term_of base rule.predicate row)) (term_if_any (term_of base rule.object other)) (target base rule.graph row)
    (term_written row h base rule.subject w.subject) (term_written row h base rule.predicate w.predicate) (term_written other k base rule.object w.object) (target_written row h base rule.graph w.graph)

-- ---- rules

targets_written : (gs : List TermMap) → AllByRecursion IsWritableMap gs → AllByRecursion IsWritableMapIfAny (targets gs)
targets_written [] w = (tt, tt)
targets_written (g ∷ gs) w = recursion_map IsWritableMapIfAny Some (g ∷ gs) w

class_written : (m : TriplesMap) → IsWritableTriplesMap m → IsWritablePair (class_map m)
class_written m w = record { predicates = (refl, tt); objects = recursion_map IsWritableObject (λ class. object.Term (from.Constant (Iri class))) m.classes w.classes; graphs = tt }

module _ (maps : List TriplesMap) (all : AllByRecursion IsWritableTriplesMap maps) where
  parent_written : (m : TriplesMap) → IsWritableTriplesMap m → (k : ℕ) → IsWritableMap (parent_of maps m k).subject
  parent_written m w k = of (slice_get maps k) refl
    where
      of : (o : Option TriplesMap) → slice_get maps k ≡ o → IsWritableMap (unwrap_or o m).subject
      of None e = w.subject
      of (Some p) e = (recursion_get IsWritableTriplesMap maps k p all e).subject

  rule_written : (m : TriplesMap) → IsWritableTriplesMap m → (p : TermMap) → IsWritableMap p → (o : ObjectMap) → IsWritableObject o → (g : Option TermMap) → IsWritableMapIfAny g → IsWritableRule (object_rule maps m p o g)
  rule_written m w p v (object.Term t) u g h = record { subject = w.subject; predicate = v; object = u; graph = h }
  rule_written m w p v (object.Parent k conditions) u g h = record { subject = w.subject; predicate = v; object = parent_written m w k; graph = h }

  pair_written : (m : TriplesMap) → IsWritableTriplesMap m → (po : PredicateObjectMap) → IsWritablePair po → AllByRecursion IsWritableRule (predicate_object_rules maps m po)
  pair_written m w po v =
      let gs = targets (m.graphs ++ po.graphs) in
      let graphs = targets_written (m.graphs ++ po.graphs) (recursion_append IsWritableMap m.graphs po.graphs w.graphs v.graphs) in
      recursion_flat_map IsWritableMap IsWritableRule (λ p. flat_map (λ o. map (object_rule maps m p o) gs) po.objects)
      (λ p u. recursion_flat_map IsWritableObject IsWritableRule (λ o. map (object_rule maps m p o) gs)
      (λ o t. recursion_map_weaken IsWritableMapIfAny IsWritableRule (object_rule maps m p o) (λ g h. rule_written m w p u o t g h) gs graphs)
      po.objects v.objects)
      po.predicates v.predicates

  map_written : (m : TriplesMap) → IsWritableTriplesMap m → AllByRecursion IsWritableRule (map_rules maps m)
  map_written m w =
      recursion_flat_map IsWritablePair IsWritableRule (predicate_object_rules maps m) (pair_written m w) (class_map m ∷ m.predicate_objects) (class_written m w, w.predicate_objects)

pub rules_written : (mapping : Mapping) → HoldsWritable mapping → AllByRecursion IsWritableRule (quad_rules mapping)
rules_written mapping w = recursion_flat_map IsWritableTriplesMap IsWritableRule (map_rules mapping.maps) (map_written mapping.maps w) mapping.maps w

-- ---- the dataset

module _ (schema : List Table) (db : Database) (meets : MeetsSchema schema db) where
  table_texts : (k : ℕ) → AllByRecursion HoldsTexts (rows_of db k)
  table_texts k = recursion_from_each HoldsTexts (rows_of db k) (λ row c. let r = row_of_table db schema db meets k row c in row_texts r.0.columns row r.2)

  others_texts : (join : Option Join) (row : Row) → HoldsTexts row → AllByRecursion HoldsTexts (object_rows join db row)
  others_texts None row h = (h, tt)
  others_texts (Some join) row h = recursion_filter HoldsTexts (agree join.conditions row) (rows_of db join.table) (table_texts join.table)

  of_rule_written : (base : List ℕ) (rule : QuadRule) → IsWritableRule rule → AllByRecursion IsWritableQuad (quads_of_rule base db rule)
  of_rule_written base rule w =
      recursion_flat_map HoldsTexts IsWritableQuad (λ row. filter_map (quad_of base rule row) (object_rows rule.join db row))
      (λ row h. recursion_filter_map HoldsTexts IsWritableQuad (quad_of base rule row) (λ other k. quad_written base rule w row other h k) (object_rows rule.join db row) (others_texts rule.join row h))
      (rows_of db rule.table) (table_texts rule.table)

  pub dataset_written : (mapping : Mapping) → HoldsWritable mapping → AllByRecursion IsWritableQuad (dataset mapping db)
  dataset_written mapping w =
      recursion_distinct IsWritableQuad quad_eq (quads mapping db)
      (recursion_flat_map IsWritableRule IsWritableQuad (quads_of_rule mapping.base db) (of_rule_written mapping.base) (quad_rules mapping) (rules_written mapping w))
