-- The three queries of the report are read without a fault, each as one query.
use Rattle.std.proofs.Common.{◌≡◌, List, [], ◌∷◌, None, Ok, refl, length, get_or}
use Rattle.std.specs.Prelude.{IsUtf8}
use Rattle.std.specs.Str.{chars}
use Rattle.std.specs.Char.{encode_utf8}
use Rattle.vkg_grammar.specs.declared.note.Note.{Note}
use Rattle.vkg_grammar.specs.Decoding.{acts_of, decoded}
use Rattle.vkg_grammar.specs.Form.{deepened, IsShallow}
use Rattle.vkg_grammar.specs.Grammar.{Derives}
use Rattle.vkg_grammar.specs.Kinds.{kinds_of}
use Rattle.vkg_grammar.specs.OneTree.{IsTreeOf}
use Rattle.vkg_grammar.specs.Trees.{Tree, nothing}
use Rattle.vkg_grammar.proofs.Same.{tree_found}
use Rattle.vkg_tokens.specs.declared.cutting.Token.{Token}
use Rattle.vkg_tokens.specs.Characters.{is_base, is_base_or_low_line, is_label_start, is_variable_part, is_name_part, is_escaped_sign, is_iri_part, is_escaped_letter, code_point_more}
use Rattle.vkg_tokens.specs.Cut.{cut, piece}
use Rattle.vkg_tokens.specs.Lang.{token_class}
use Rattle.vkg_tokens.specs.Words.{turtle_word, turtle_tag, is_outside_form, is_outside_call, outside_word, modifier_word, pattern_word, string_word, call_word, sparql_word}
use Rattle.vkg_turtle.specs.Escapes.{text_meant}
use Rattle.vkg_sparql.specs.declared.grammar_table.TheConstants.{SPARQL}
use Rattle.vkg_sparql.specs.declared.query.Query.{Query}
use Rattle.vkg_sparql.specs.Checks.{fails}
use Rattle.vkg_sparql.specs.Literals.{meaning_of}
use Rattle.vkg_sparql.specs.Reading.{IsQuery, fault_of, read, sparql, sparql_tokens}
use Rattle.vkg_company.proofs.Derivation.{derives, found, notes_or, tokens_or}
use Rattle.vkg_schema.specs.Company.{base}
use Rattle.vkg_gen.specs.Report.{names_text, distinct_text, depts_text}
use Rattle.vkg_gen.specs.Readable.{IsFaultless}
use Rattle.vkg_gen.proofs.QueryTexts.{no_query_fault, same_query, shallow}

unfoldable opened : Unit {0}
unfolding chars encode_utf8 cut piece token_class sparql_word outside_word modifier_word pattern_word string_word call_word is_outside_form is_outside_call turtle_word turtle_tag is_base is_base_or_low_line is_label_start is_variable_part is_name_part is_escaped_sign is_iri_part is_escaped_letter code_point_more text_meant meaning_of fails deepened
opened = tt

-- ---- names

abbrev names_tokens : List Token
names_tokens = tokens_or (sparql_tokens names_text)

names_cut : sparql_tokens names_text ≡ Ok names_tokens
unfolding opened
names_cut = refl

abbrev names_notes : List Note
names_notes = notes_or (found 2000 SPARQL (0 ∷ []) (kinds_of names_tokens))

names_derived : Derives SPARQL (0 ∷ []) (kinds_of names_tokens) names_notes
unfolding opened
names_derived = derives 2000 SPARQL (0 ∷ []) (kinds_of names_tokens) names_notes refl

abbrev names_tree : Tree
names_tree = get_or (decoded (length (kinds_of names_tokens)) (acts_of names_notes)).trees 0 nothing

names_is_tree : IsTreeOf SPARQL (kinds_of names_tokens) names_tree
unfolding opened
names_is_tree = tree_found SPARQL (kinds_of names_tokens) names_notes names_tree names_derived refl

names_shallow : IsShallow sparql (kinds_of names_tokens)
unfolding opened
names_shallow = shallow sparql (kinds_of names_tokens) refl

names_utf8 : IsUtf8 names_text
unfolding opened
names_utf8 = (names_text, (refl, refl))

names_fine : fault_of (read names_text names_tokens base names_tree) ≡ None
unfolding opened
names_fine = refl

pub names_faultless : IsFaultless names_text
names_faultless = no_query_fault names_text base names_utf8 names_tokens names_cut names_shallow names_notes names_derived names_tree names_is_tree names_fine

pub names_same : (q r : Query) → IsQuery names_text base q → IsQuery names_text base r → q ≡ r
names_same q r h k = same_query names_text base names_utf8 names_tokens names_cut names_shallow names_notes names_derived names_tree names_is_tree q r h k

-- ---- distinct

abbrev distinct_tokens : List Token
distinct_tokens = tokens_or (sparql_tokens distinct_text)

distinct_cut : sparql_tokens distinct_text ≡ Ok distinct_tokens
unfolding opened
distinct_cut = refl

abbrev distinct_notes : List Note
distinct_notes = notes_or (found 2000 SPARQL (0 ∷ []) (kinds_of distinct_tokens))

distinct_derived : Derives SPARQL (0 ∷ []) (kinds_of distinct_tokens) distinct_notes
unfolding opened
distinct_derived = derives 2000 SPARQL (0 ∷ []) (kinds_of distinct_tokens) distinct_notes refl

abbrev distinct_tree : Tree
distinct_tree = get_or (decoded (length (kinds_of distinct_tokens)) (acts_of distinct_notes)).trees 0 nothing

distinct_is_tree : IsTreeOf SPARQL (kinds_of distinct_tokens) distinct_tree
unfolding opened
distinct_is_tree = tree_found SPARQL (kinds_of distinct_tokens) distinct_notes distinct_tree distinct_derived refl

distinct_shallow : IsShallow sparql (kinds_of distinct_tokens)
unfolding opened
distinct_shallow = shallow sparql (kinds_of distinct_tokens) refl

distinct_utf8 : IsUtf8 distinct_text
unfolding opened
distinct_utf8 = (distinct_text, (refl, refl))

distinct_fine : fault_of (read distinct_text distinct_tokens base distinct_tree) ≡ None
unfolding opened
distinct_fine = refl

pub distinct_faultless : IsFaultless distinct_text
distinct_faultless = no_query_fault distinct_text base distinct_utf8 distinct_tokens distinct_cut distinct_shallow distinct_notes distinct_derived distinct_tree distinct_is_tree distinct_fine

pub distinct_same : (q r : Query) → IsQuery distinct_text base q → IsQuery distinct_text base r → q ≡ r
distinct_same q r h k = same_query distinct_text base distinct_utf8 distinct_tokens distinct_cut distinct_shallow distinct_notes distinct_derived distinct_tree distinct_is_tree q r h k

-- ---- depts

abbrev depts_tokens : List Token
depts_tokens = tokens_or (sparql_tokens depts_text)

depts_cut : sparql_tokens depts_text ≡ Ok depts_tokens
unfolding opened
depts_cut = refl

abbrev depts_notes : List Note
depts_notes = notes_or (found 2000 SPARQL (0 ∷ []) (kinds_of depts_tokens))

depts_derived : Derives SPARQL (0 ∷ []) (kinds_of depts_tokens) depts_notes
unfolding opened
depts_derived = derives 2000 SPARQL (0 ∷ []) (kinds_of depts_tokens) depts_notes refl

abbrev depts_tree : Tree
depts_tree = get_or (decoded (length (kinds_of depts_tokens)) (acts_of depts_notes)).trees 0 nothing

depts_is_tree : IsTreeOf SPARQL (kinds_of depts_tokens) depts_tree
unfolding opened
depts_is_tree = tree_found SPARQL (kinds_of depts_tokens) depts_notes depts_tree depts_derived refl

depts_shallow : IsShallow sparql (kinds_of depts_tokens)
unfolding opened
depts_shallow = shallow sparql (kinds_of depts_tokens) refl

depts_utf8 : IsUtf8 depts_text
unfolding opened
depts_utf8 = (depts_text, (refl, refl))

depts_fine : fault_of (read depts_text depts_tokens base depts_tree) ≡ None
unfolding opened
depts_fine = refl

pub depts_faultless : IsFaultless depts_text
depts_faultless = no_query_fault depts_text base depts_utf8 depts_tokens depts_cut depts_shallow depts_notes depts_derived depts_tree depts_is_tree depts_fine

pub depts_same : (q r : Query) → IsQuery depts_text base q → IsQuery depts_text base r → q ≡ r
depts_same q r h k = same_query depts_text base depts_utf8 depts_tokens depts_cut depts_shallow depts_notes depts_derived depts_tree depts_is_tree q r h k
