-- The tokens of the DDL by their productions, and the law that the automaton of vkg_tokens takes just these.
use Rattle.std.specs.Prelude.{◌≡◌, ◌≢◌, ◌↔◌, ℕ, Bool, ◌||◌, IsTrue, List, [], ◌∷◌, codes, Some, None}
use Rattle.std.specs.Char.{is_ascii_digit}
use Rattle.std.specs.List.{list_all}
use Rattle.std.specs.Str.{str_to_ascii_lowercase}
use Rattle.vkg_terms.specs.Name.{IsDelimited}
use Rattle.vkg_tokens.specs.declared.lang.Lang.TheVariants.{Ddl}
use Rattle.vkg_tokens.specs.Characters.{is_word_letter}
use Rattle.vkg_tokens.specs.Lang.{kind_of, token_class}

-- SQL-92, 5.2, identifier part; own: the letters are those of ASCII, and `_` may stand where a letter may
abbrev pub is_part : ℕ → Bool
is_part b = is_word_letter b || is_ascii_digit b

-- SQL-92, 5.2, regular identifier: a letter, and then letters and digits, `[A-Za-z_][A-Za-z0-9_]*`
abbrev pub IsWord : List ℕ → Type 0
IsWord [] = ⊥
IsWord (b ∷ bs) = IsTrue (is_word_letter b) × IsTrue (list_all is_part bs)

-- SQL-92, 5.3, unsigned integer: one digit or more, `[0-9]+`
abbrev pub IsInteger : List ℕ → Type 0
IsInteger text = (text ≢ []) × IsTrue (list_all is_ascii_digit text)

-- SQL-92, 5.2, delimited identifier: a name that is not empty, between quotes (34), where each quote in it is doubled,
-- `"([^"]|"")+"`
abbrev pub IsBetweenQuotes : List ℕ → Type 0
IsBetweenQuotes [] = ⊥
IsBetweenQuotes (b ∷ bs) = (b ≡ 34) × IsDelimited bs

-- SQL-92, 5.2, token: these productions alone; own: the numbers of the classes, in the order of the line `kinds:` of
-- tools/ddl.grammar
pub data IsToken (text : List ℕ) : ℕ → Type 0 where
  opening : text ≡ codes "(" → IsToken text 2
  comma : text ≡ codes "," → IsToken text 3
  closing : text ≡ codes ")" → IsToken text 4
  semicolon : text ≡ codes ";" → IsToken text 5
  word : IsWord text → IsToken text 6
  integer : IsInteger text → IsToken text 7
  delimited : IsBetweenQuotes text → IsToken text 16

-- own: which of the key words of SQL-92, 5.2, this project's DDL has, in small letters, each with the number of its kind, in the
-- same order
pub data IsKeyword : List ℕ → ℕ → Type 0 where
  create : IsKeyword (codes "create") 0
  table : IsKeyword (codes "table") 1
  constraint : IsKeyword (codes "constraint") 8
  not : IsKeyword (codes "not") 9
  null : IsKeyword (codes "null") 10
  primary : IsKeyword (codes "primary") 11
  key : IsKeyword (codes "key") 12
  unique : IsKeyword (codes "unique") 13
  references : IsKeyword (codes "references") 14
  foreign : IsKeyword (codes "foreign") 15

pub record AreProductions : Type 0 where
  -- a text is one token of a class exactly where the production of this class makes it
  pub some : (text : List ℕ) (class : ℕ) → (token_class Ddl text ≡ Some class) ↔ IsToken text class
  -- and is no token exactly where no production makes it
  pub none : (text : List ℕ) → (token_class Ddl text ≡ None) ↔ ((class : ℕ) → IsToken text class → ⊥)
  -- a word has a kind other than 6 exactly where it is the keyword of this kind, whatever the case of its letters
  pub keyword : (text : List ℕ) (kind : ℕ) → kind ≢ 6 → (kind_of Ddl 6 text ≡ kind) ↔ IsKeyword (str_to_ascii_lowercase text) kind
  -- every other token has its class as its kind
  pub other : (text : List ℕ) (class : ℕ) → class ≢ 6 → kind_of Ddl class text ≡ class
