-- The subject map of a table makes the row node.
use Rattle.std.proofs.Common.{◌≡◌, ◌≢◌, ℕ, refl, sym, ◌∙◌, ap, List, [], ◌∷◌, ◌++◌, codes, map, flat_map, true, cond, Some, Ok, Err, append_assoc}
use Rattle.std.specs.Prelude.{chars, option_map, unwrap_or}
use Rattle.std.specs.List.{list_all, join_with_byte, AllByRecursion}
use Rattle.std.proofs.lemmas.List.Folds.{list_all-append}
use lib.Utf8.{scalars}
use Rattle.vkg_lists.specs.Options.{joined}
use Rattle.vkg_terms.specs.declared.term.Term.TheVariants.{Iri}
use Rattle.vkg_terms.specs.Iri.{is_absolute, is_iri_character}
use Rattle.vkg_terms.specs.Safe.{safe}
use Rattle.vkg_cells.specs.Form.{lexical_form}
use Rattle.vkg_schema.specs.declared.table.Table.{Table}
use Rattle.vkg_schema.specs.Rows.{Row, cell_at}
use Rattle.vkg_maps.specs.declared.term_map.Piece.{Piece}
use Rattle.vkg_maps.specs.declared.term_map.Piece.TheVariants.{Fixed}
use Rattle.vkg_maps.specs.declared.term_map.TermType.TheVariants as sort
use Rattle.vkg_maps.specs.declared.data_fault.TermFault.TheVariants.{NotIri}
use Rattle.vkg_maps.specs.Terms.{term_of, template_value, where_value, put}
use Rattle.vkg_direct.specs.DirectGraph.{primary_key, column_name, table_iri, node_part, row_node}
use Rattle.vkg_direct.specs.DirectMapping.{node_pieces, key_pieces, direct_map}
use Rattle.vkg_direct.proofs.Joined.{joined_is}
use Rattle.vkg_lists.proofs.Bools.{and_true}
use Rattle.vkg_terms.proofs.SafeText.{safe_all, absolute_more}

-- a column of a row has a form, of characters
pub record Known (row : Row) (column : ℕ) : Type 0 where
  pub form : List ℕ
  pub is : lexical_form (cell_at row column) ≡ Some form
  pub spelled : scalars (chars form) ≡ true

module _ (table : Table) (row : Row) where
  abbrev part : ℕ → List ℕ
  part c = node_part table row c

  -- the text of the pieces of one column, before what the other pieces make
  one_node : (sign : List ℕ) (c : ℕ) → Known row c → (rest : List Piece) (r : List ℕ) → template_value sort.Iri row rest ≡ Some r → template_value sort.Iri row (node_pieces table sign c ++ rest) ≡ Some ((sign ++ part c) ++ r)
  one_node sign c k rest r e =
      let name = safe (column_name table c) in
      let f : option_map (put sort.Iri) (lexical_form (cell_at row c)) ≡ Some (safe k.form) = ap (λ o. option_map (put sort.Iri) o) k.is in
      let g : part c ≡ (name ++ codes "=") ++ safe k.form = ap (λ o. (name ++ codes "=") ++ safe (unwrap_or o [])) k.is in
      ap (λ o. joined (Some ((sign ++ name) ++ codes "=")) (joined o (template_value sort.Iri row rest))) f
      ∙ (ap (λ o. joined (Some ((sign ++ name) ++ codes "=")) (joined (Some (safe k.form)) o)) e
      ∙ ap Some (
      sym (append_assoc ((sign ++ name) ++ codes "=") (safe k.form) r)
      ∙ ap (λ l. l ++ r) (ap (λ l. l ++ safe k.form) (append_assoc sign name (codes "=")) ∙ append_assoc sign (name ++ codes "=") (safe k.form) ∙ ap (λ l. sign ++ l) (sym g))))

  later_nodes : (cs : List ℕ) → AllByRecursion (Known row) cs → template_value sort.Iri row (flat_map (node_pieces table (codes ";")) cs) ≡ Some (flat_map (λ c. 59 ∷ part c) cs)
  later_nodes [] k = refl
  later_nodes (c ∷ cs) k = one_node (codes ";") c k.0 (flat_map (node_pieces table (codes ";")) cs) (flat_map (λ c. 59 ∷ part c) cs) (later_nodes cs k.1)

  key_value : (cs : List ℕ) → cs ≢ [] → AllByRecursion (Known row) cs → template_value sort.Iri row (key_pieces table cs) ≡ Some (codes "/" ++ join_with_byte 59 (map part cs))
  key_value [] n k = absurd (n refl)
  key_value (c ∷ cs) n k =
      one_node (codes "/") c k.0 (flat_map (node_pieces table (codes ";")) cs) (flat_map (λ c. 59 ∷ part c) cs) (later_nodes cs k.1)
      ∙ ap Some (append_assoc (codes "/") (part c) (flat_map (λ c. 59 ∷ part c) cs) ∙ ap (λ l. codes "/" ++ l) (sym (joined_is 59 part c cs)))

-- the names of a table's columns that a key has, and the table's own, are of characters
pub record Named (table : Table) : Type 0 where
  pub name : scalars (chars table.name) ≡ true
  pub columns : (c : ℕ) → scalars (chars (column_name table c)) ≡ true

part_all : (table : Table) (row : Row) → Named table → (c : ℕ) → Known row c → list_all is_iri_character (node_part table row c) ≡ true
part_all table row n c k =
    let name = safe (column_name table c) in
    ap (λ o. list_all is_iri_character ((name ++ codes "=") ++ safe (unwrap_or o []))) k.is
    ∙ (list_all-append is_iri_character (name ++ codes "=") (safe k.form)
    ∙ and_true (list_all is_iri_character (name ++ codes "=")) _ (list_all-append is_iri_character name (codes "=") ∙ and_true (list_all is_iri_character name) _ (safe_all (column_name table c) (n.columns c)) refl) (safe_all k.form k.spelled))

parts_all : (table : Table) (row : Row) → Named table → (cs : List ℕ) → AllByRecursion (Known row) cs → list_all is_iri_character (flat_map (λ c. 59 ∷ node_part table row c) cs) ≡ true
parts_all table row n [] k = refl
parts_all table row n (c ∷ cs) k =
    list_all-append is_iri_character (59 ∷ node_part table row c) (flat_map (λ c. 59 ∷ node_part table row c) cs)
    ∙ and_true (list_all is_iri_character (node_part table row c)) _ (part_all table row n c k.0) (parts_all table row n cs k.1)

joined_all : (table : Table) (row : Row) → Named table → (cs : List ℕ) → AllByRecursion (Known row) cs → list_all is_iri_character (join_with_byte 59 (map (node_part table row) cs)) ≡ true
joined_all table row n [] k = refl
joined_all table row n (c ∷ cs) k =
    ap (λ l. list_all is_iri_character l) (joined_is 59 (node_part table row) c cs)
    ∙ (list_all-append is_iri_character (node_part table row c) (flat_map (λ c. 59 ∷ node_part table row c) cs)
    ∙ and_true (list_all is_iri_character (node_part table row c)) _ (part_all table row n c k.0) (parts_all table row n cs k.1))

-- the subject map makes the row node
pub node_made : (base : List ℕ) (k : ℕ) (table : Table) (row : Row) → is_absolute base ≡ true → Named table → primary_key table ≢ [] → AllByRecursion (Known row) (primary_key table) → term_of base (direct_map base (k, table)).subject row ≡ Ok (Some (row_node base table row))
node_made base k table row a n some known =
    let text = table_iri base table in
    let tail = codes "/" ++ join_with_byte 59 (map (node_part table row) (primary_key table)) in
    let value : template_value sort.Iri row (Fixed text ∷ key_pieces table (primary_key table)) ≡ Some (text ++ tail) = ap (λ o. joined (Some text) o) (key_value table row (primary_key table) some known) in
    let whole : is_absolute (text ++ tail) ≡ true =
    absolute_more text tail (absolute_more base (safe table.name) a (safe_all table.name n.name)) (joined_all table row n (primary_key table) known) in
    let same : text ++ tail ≡ (text ++ codes "/") ++ join_with_byte 59 (map (node_part table row) (primary_key table)) = sym (append_assoc text (codes "/") (join_with_byte 59 (map (node_part table row) (primary_key table)))) in
    ap (λ o. where_value sort.Iri o) value ∙ (ap (λ b. cond b (Ok (Some (Iri (text ++ tail)))) (Err NotIri)) whole ∙ ap (λ t. Ok (Some (Iri t))) same)
