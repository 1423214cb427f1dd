-- The text of the schema is the schema.
use Rattle.std.proofs.Common.{◌≡◌, ◌∙◌, List, [], ◌∷◌, None, Ok, refl}
use Rattle.std.specs.Prelude.{IsUtf8}
use Rattle.std.specs.Str.{chars}
use Rattle.std.specs.Char.{encode_utf8}
use Rattle.vkg_grammar.specs.declared.note.Note.{Note}
use Rattle.vkg_grammar.specs.Grammar.{Derives}
use Rattle.vkg_grammar.specs.Kinds.{kinds_of}
use Rattle.vkg_tokens.specs.declared.cutting.Token.{Token}
use Rattle.vkg_tokens.specs.declared.lang.Lang.TheVariants.{Ddl}
use Rattle.vkg_tokens.specs.Cut.{cut, piece, tokens_of}
use Rattle.vkg_tokens.specs.Ddl.{keyword_kind}
use Rattle.vkg_tokens.specs.Lang.{token_class}
use Rattle.vkg_ddl.specs.declared.grammar_table.TheConstants.{DDL}
use Rattle.vkg_ddl.specs.FirstFault.{first_fault}
use Rattle.vkg_ddl.specs.Names.{names_of, undoubled_from}
use Rattle.vkg_ddl.specs.Reading.{role_of, written_of}
use Rattle.vkg_ddl.specs.TypeChecks.{kind_named}
use Rattle.vkg_ddl.specs.Written.{on_last}
use Rattle.vkg_schema.specs.Resolve.{schema_of}
use Rattle.vkg_schema.specs.Company.{company}
use Rattle.vkg_company.specs.Company.{company_text}
use Rattle.vkg_schema.specs.declared.reading.SchemaFault.{SchemaFault}
use Rattle.vkg_schema.specs.declared.table.Table.{Table}
use Rattle.vkg_schema.specs.Reading.{IsFirstFault, IsSchemaOf}
use Rattle.vkg_company.proofs.Derivation.{derives, found, notes_or, tokens_or}
use Rattle.vkg_company.proofs.SchemaTexts.{no_fault, one_schema}

unfoldable opened : Unit {0}
unfolding chars encode_utf8 cut piece keyword_kind token_class role_of written_of kind_named undoubled_from on_last
opened = tt

the_tokens : List Token
unfolding opened
the_tokens = tokens_or (tokens_of Ddl company_text)

is_cut : tokens_of Ddl company_text ≡ Ok the_tokens
unfolding opened the_tokens
is_cut = refl

the_notes : List Note
unfolding opened the_tokens
the_notes = notes_or (found 1000 DDL (0 ∷ []) (kinds_of the_tokens))

is_derived : Derives DDL (0 ∷ []) (kinds_of the_tokens) the_notes
unfolding opened the_tokens the_notes
is_derived = derives 1000 DDL (0 ∷ []) (kinds_of the_tokens) the_notes refl

is_fine : first_fault (written_of the_notes (names_of company_text the_tokens) []) ≡ None
unfolding opened the_tokens the_notes
is_fine = refl

is_company : schema_of (written_of the_notes (names_of company_text the_tokens) []) ≡ company
unfolding opened the_tokens the_notes
is_company = refl

is_text : IsUtf8 company_text
unfolding opened
is_text = (company_text, (refl, refl))

pub no_company_fault : (f : SchemaFault) → IsFirstFault company_text f → ⊥
no_company_fault f h = no_fault company_text is_text the_tokens is_cut the_notes is_derived is_fine f h

pub one_company : (tables : List Table) → IsSchemaOf company_text tables → tables ≡ company
one_company tables h = one_schema company_text is_text the_tokens is_cut the_notes is_derived tables h ∙ is_company
