-- What a text says, by its one derivation.
use Rattle.vkg_grammar.specs.declared.note.Note.{Note}
use Rattle.std.specs.Prelude.{◌≡◌, ℕ, Bool, true, false, List, [], ◌∷◌, slice_get, unwrap_or, Ok, Err, if◌then◌else◌}
use Rattle.vkg_grammar.specs.Kinds.{kinds_of}
use Rattle.vkg_grammar.specs.Parsing.{IsTheText, NoTextAt}
use Rattle.vkg_tokens.specs.declared.cutting.Token.{Token}
use Rattle.vkg_tokens.specs.declared.lang.Lang.TheVariants.{Ddl}
use Rattle.vkg_tokens.specs.Cut.{tokens_of}
use Rattle.vkg_ddl.specs.declared.role.Role.{Role}
use Rattle.vkg_ddl.specs.declared.role.Role.TheVariants as role
use Rattle.vkg_ddl.specs.declared.written.WrittenTable.{WrittenTable}
use Rattle.vkg_ddl.specs.declared.reading.TextFault.{TextFault}
use Rattle.vkg_ddl.specs.declared.reading.TextFault.TheVariants.{Memory, Lexical, Grammar}
use Rattle.vkg_ddl.specs.declared.grammar_table.TheConstants.{DDL, ROLES}
use Rattle.vkg_ddl.specs.Written.{act}
use Rattle.vkg_ddl.specs.declared.name.Name.{Name}
use Rattle.vkg_ddl.specs.Names.{names_of}

-- what a symbol of the grammar means
unfoldable pub role_of : ℕ → Role
role_of symbol = unwrap_or (slice_get ROLES symbol) role.Choice

abbrev pub is_choice : Role → Bool
is_choice role.Choice = true
is_choice r = false

-- a token with its meaning changes the tables, and the others follow
abbrev pub with_token : Role → List Name → List WrittenTable → (List Name → List WrittenTable → List WrittenTable) → List WrittenTable
with_token r [] tables more = tables
with_token r (t ∷ ts) tables more = more ts (act r t tables)

abbrev pub with_note : Role → List Name → List WrittenTable → (List Name → List WrittenTable → List WrittenTable) → List WrittenTable
with_note r ts tables more = if is_choice r then more ts tables else with_token r ts tables more

-- what the tokens add to the tables, where the notes of the derivation say what each of them means
unfoldable pub written_of : List Note → List Name → List WrittenTable → List WrittenTable
written_of [] ts tables = tables
written_of (n ∷ ns) ts tables = with_note (role_of n.symbol) ts tables (λ us next. written_of ns us next)

-- The text is one of the grammar, and says this.
pub record Says (text : List ℕ) (draft : List WrittenTable) : Type 0 where
  pub tokens : List Token
  pub notes : List Note
  pub cut : tokens_of Ddl text ≡ Ok tokens
  pub derived : IsTheText DDL (kinds_of tokens) notes
  pub said : draft ≡ written_of notes (names_of text tokens) []

-- The first token that no text of the grammar goes on with begins here, or the text ends too early.
pub record IsNoText (text : List ℕ) (at : ℕ) : Type 0 where
  pub tokens : List Token
  pub cut : tokens_of Ddl text ≡ Ok tokens
  pub place : NoTextAt DDL text tokens at

abbrev pub TextFails : List ℕ → TextFault → Type 0
TextFails text Memory = Unit {0}
TextFails text (Lexical at) = tokens_of Ddl text ≡ Err at
TextFails text (Grammar at) = IsNoText text at
