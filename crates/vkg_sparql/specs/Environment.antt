-- SPARQL 1.1, 4.1.1 and 19.5: what IRI references and prefixed names stand for in a query.
use Rattle.std.specs.Prelude.{ℕ, List, [], slice_get, Option, Some, None, unwrap_or, if◌then◌else◌}
use Rattle.vkg_grammar.specs.Trees.{Tree, pair, first, second}
use Rattle.vkg_lists.specs.Places.{earlier}
use Rattle.vkg_terms.specs.Iri.{is_absolute}
use Rattle.vkg_turtle.specs.declared.lexeme.Word.{Word}
use Rattle.vkg_turtle.specs.Document.{declared, iri_named, prefix_of}
use Rattle.vkg_sparql.specs.declared.environment.Environment.{Environment}
use Rattle.vkg_sparql.specs.declared.lexeme.Lexeme.{Lexeme}
use Rattle.vkg_sparql.specs.Meanings.{first_token}

-- a reference is resolved against the base, a name is what its prefix stands for and its local part
abbrev pub iri_of : Environment → Word → Option (List ℕ)
iri_of e word = iri_named word e.base e.prefixes

abbrev pub iri_text : Environment → Word → List ℕ
iri_text e word = unwrap_or (iri_of e word) []

abbrev pub begun : List ℕ → Environment
begun base = record { base = base; prefixes = []; relative = None }

abbrev pub relative_or : Option ℕ → List ℕ → ℕ → Option ℕ
relative_or before iri at = if is_absolute iri then before else earlier before at

-- what references are resolved against from now on
abbrev pub based : Environment → List ℕ → ℕ → Environment
based e iri at = record e { base = iri; relative = relative_or e.relative iri at }

-- BASE: its IRI is resolved against the base before it
abbrev pub with_base : Environment → Option Lexeme → Environment
with_base e None = e
with_base e (Some x) = based e (iri_text e x.word) x.at

-- PREFIX: a prefix named again takes the last IRI
abbrev pub with_prefix : Environment → Option Lexeme → Option Lexeme → Environment
with_prefix e (Some name) (Some x) = record e { prefixes = declared (prefix_of name.word) (iri_text e x.word) e.prefixes; relative = relative_or e.relative (iri_text e x.word) x.at }
with_prefix e name x = e

-- BASE IRIREF | PREFIX PNAME_NS IRIREF
abbrev pub declaration : List Lexeme → Environment → Tree → Environment
declaration xs e (first (pair word iri)) = with_base e (slice_get xs (first_token iri))
declaration xs e (second (pair word (pair name iri))) = with_prefix e (slice_get xs (first_token name)) (slice_get xs (first_token iri))
declaration xs e t = e

-- { declaration }
abbrev pub declarations : List Lexeme → Environment → Tree → Environment
declarations xs e (pair d more) = declarations xs (declaration xs e d) more
declarations xs e t = e

-- query = prologue SELECT ..: what the prologue declares, and the number of the token SELECT
abbrev pub environment_of : List Lexeme → List ℕ → Tree → Environment
environment_of xs base (pair prologue rest) = declarations xs (begun base) prologue
environment_of xs base t = begun base

abbrev pub body_start : Tree → ℕ
body_start (pair prologue rest) = first_token rest
body_start t = 0
