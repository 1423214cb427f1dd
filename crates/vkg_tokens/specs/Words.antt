-- The words of Turtle and of SPARQL 1.1 among the tokens that are letters and `_`.
use Rattle.std.specs.Prelude.{ℕ, Bool, ◌||◌, List, codes, if◌then◌else◌}
use Rattle.vkg_tokens.specs.declared.sparql_kinds.TheConstants as sparql
use Rattle.vkg_tokens.specs.declared.turtle_kinds.TheConstants as turtle
pub use Rattle.std.specs.Str.{bytes_eq as is_exactly, str_eq_ignore_ascii_case as is_caseless}

-- Turtle, 6.5: `a`, `true` and `false` in small letters, PREFIX and BASE (sparqlPrefix, sparqlBase) in any case
unfoldable pub turtle_word : List ℕ → ℕ
turtle_word text =
    if is_exactly text (codes "a") then turtle.IS_A
    else if is_exactly text (codes "true") then turtle.TRUE
    else if is_exactly text (codes "false") then turtle.FALSE
    else if is_caseless text (codes "prefix") then turtle.PREFIX
    else if is_caseless text (codes "base") then turtle.BASE
    else turtle.WORD

-- `@prefix` and `@base` are directives and no language tags
unfoldable pub turtle_tag : List ℕ → ℕ
turtle_tag text =
    if is_exactly text (codes "@prefix") then turtle.AT_PREFIX
    else if is_exactly text (codes "@base") then turtle.AT_BASE
    else turtle.LANGTAG

-- own: the words of SPARQL 1.1 that are told as left out and have no kinds of their own; its other words and functions are plain words
unfoldable pub is_outside_form : List ℕ → Bool
is_outside_form text =
    is_caseless text (codes "describe") || is_caseless text (codes "from") || is_caseless text (codes "service")
    || is_caseless text (codes "group") || is_caseless text (codes "having") || is_caseless text (codes "insert")
    || is_caseless text (codes "delete") || is_caseless text (codes "load") || is_caseless text (codes "clear")

unfoldable pub is_outside_call : List ℕ → Bool
is_outside_call text =
    is_caseless text (codes "count") || is_caseless text (codes "sum") || is_caseless text (codes "min")
    || is_caseless text (codes "max") || is_caseless text (codes "avg") || is_caseless text (codes "sample")
    || is_caseless text (codes "group_concat") || is_caseless text (codes "exists") || is_caseless text (codes "not")
    || is_caseless text (codes "in") || is_caseless text (codes "regex") || is_caseless text (codes "if")
    || is_caseless text (codes "coalesce") || is_caseless text (codes "langmatches")

unfoldable pub outside_word : List ℕ → ℕ
outside_word text = if is_outside_form text || is_outside_call text then sparql.OUTSIDE else sparql.WORD

-- SPARQL 1.1, 19.8: words with kinds of their own that stand in no production of the profile yet
unfoldable pub modifier_word : List ℕ → ℕ
modifier_word text =
    if is_caseless text (codes "order") then sparql.ORDER
    else if is_caseless text (codes "by") then sparql.BY
    else if is_caseless text (codes "asc") then sparql.ASC
    else if is_caseless text (codes "desc") then sparql.DESC
    else if is_caseless text (codes "limit") then sparql.LIMIT
    else if is_caseless text (codes "offset") then sparql.OFFSET
    else outside_word text

unfoldable pub pattern_word : List ℕ → ℕ
pattern_word text =
    if is_caseless text (codes "ask") then sparql.ASK
    else if is_caseless text (codes "construct") then sparql.CONSTRUCT
    else if is_caseless text (codes "minus") then sparql.MINUS
    else if is_caseless text (codes "bind") then sparql.BIND
    else if is_caseless text (codes "as") then sparql.AS
    else if is_caseless text (codes "values") then sparql.VALUES
    else if is_caseless text (codes "undef") then sparql.UNDEF
    else modifier_word text

unfoldable pub string_word : List ℕ → ℕ
string_word text =
    if is_caseless text (codes "strlen") then sparql.STRLEN
    else if is_caseless text (codes "strstarts") then sparql.STRSTARTS
    else if is_caseless text (codes "strends") then sparql.STRENDS
    else if is_caseless text (codes "contains") then sparql.CONTAINS
    else pattern_word text

unfoldable pub call_word : List ℕ → ℕ
call_word text =
    if is_caseless text (codes "bound") then sparql.BOUND
    else if is_caseless text (codes "sameterm") then sparql.SAMETERM
    else if is_caseless text (codes "isiri") then sparql.ISIRI
    else if is_caseless text (codes "isuri") then sparql.ISURI
    else if is_caseless text (codes "isblank") then sparql.ISBLANK
    else if is_caseless text (codes "isliteral") then sparql.ISLITERAL
    else if is_caseless text (codes "isnumeric") then sparql.ISNUMERIC
    else if is_caseless text (codes "str") then sparql.STR
    else if is_caseless text (codes "lang") then sparql.LANG
    else if is_caseless text (codes "datatype") then sparql.DATATYPE
    else string_word text

-- SPARQL 1.1, 19.8, note 1: the words are caseless but `a`
unfoldable pub sparql_word : List ℕ → ℕ
sparql_word text =
    if is_exactly text (codes "a") then sparql.IS_A
    else if is_caseless text (codes "true") then sparql.TRUE
    else if is_caseless text (codes "false") then sparql.FALSE
    else if is_caseless text (codes "base") then sparql.BASE
    else if is_caseless text (codes "prefix") then sparql.PREFIX
    else if is_caseless text (codes "select") then sparql.SELECT
    else if is_caseless text (codes "distinct") then sparql.DISTINCT
    else if is_caseless text (codes "reduced") then sparql.REDUCED
    else if is_caseless text (codes "where") then sparql.WHERE
    else if is_caseless text (codes "optional") then sparql.OPTIONAL
    else if is_caseless text (codes "graph") then sparql.GRAPH
    else if is_caseless text (codes "filter") then sparql.FILTER
    else if is_caseless text (codes "union") then sparql.UNION
    else call_word text
