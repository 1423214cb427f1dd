-- Where the directories of a base end, and which references are put behind them as they stand.
use Rattle.std.specs.Prelude.{◌≡◌, ◌≤◌, ◌<◌, ◌-◌, ℕ, Bool, true, false, not, ◌&&◌, ◌||◌, List, [], ◌∷◌, ◌++◌, codes, length, drop, get_or, IfSome, ◌==◌, nat_eq}
use Rattle.std.specs.List.{before_first, list_any, position_or_len, starts_with}
use Rattle.std.specs.Str.{bytes_eq}
use Rattle.vkg_terms.specs.Iri.{has_scheme, is_iri_character, is_one_of, is_scheme}
use Rattle.vkg_terms.specs.Resolve.{authority_of, is_dot, is_dots, path_of, prefixed, segments}
use Rattle.vkg_turtle.specs.declared.places.Places.{Places}

-- RFC 3986, 3.3: what stands before the query and the fragment
abbrev pub before_query : List ℕ → List ℕ
before_query text = before_first (is_one_of (codes "?#")) text

-- a `/` (47) is in it
abbrev pub has_slash : List ℕ → Bool
has_slash text = list_any (λ b. b == 47) text

-- RFC 3986, 3.3: a segment `.` or `..`
abbrev pub is_dot_segment : List ℕ → Bool
is_dot_segment s = is_dot s || is_dots s

abbrev pub has_dots : List ℕ → Bool
has_dots path = list_any is_dot_segment (segments path)

-- This place of a path is behind its last slash, or its start where it has none.
pub record IsBehindSlash (path : List ℕ) (n : ℕ) : Type 0 where
  pub inside : n ≤ length path
  pub slash : 0 < n → get_or path (n - 1) 0 ≡ 47
  pub last : has_slash (drop n path) ≡ false

-- RFC 3986, 3.3, path-noscheme: it begins with a segment that is not empty and has no `:` (58)
abbrev pub is_path_noscheme : List ℕ → Bool
is_path_noscheme path = not (bytes_eq path []) && (not (starts_with nat_eq path (codes "/")) && not (list_any (λ b. b == 58) (before_first (λ b. b == 47) path)))

-- RFC 3986, 4.2: a reference that begins with a path, which no dot segment is in. Its directories take n bytes.
pub record IsPlain (reference : List ℕ) (n : ℕ) : Type 0 where
  pub relative : is_path_noscheme (before_query reference) ≡ true
  pub dotless : has_dots (before_query reference) ≡ false
  pub behind : IsBehindSlash (before_query reference) n

-- RFC 3986, 3.2 and 3.3: `//` and an authority, or nothing, where a path goes on with these directories and a slash, whatever stands
-- behind that
abbrev pub IsRoot : List ℕ → List ℕ → Type 0
IsRoot root dirs =
    (last : List ℕ) → starts_with nat_eq last (codes "/") ≡ false
    → (path_of (root ++ (dirs ++ 47 ∷ last)) ≡ dirs ++ 47 ∷ last) × (prefixed (codes "//") (authority_of (root ++ (dirs ++ 47 ∷ last))) ≡ root)

-- RFC 3986, 3: a scheme, `:` (58), perhaps an authority, and directories without a dot segment, up to and with their last slash
pub record IsFront (front : List ℕ) : Type 0 where
  pub scheme : List ℕ
  pub root : List ℕ
  pub dirs : List ℕ
  pub is : front ≡ scheme ++ 58 ∷ (root ++ (dirs ++ 47 ∷ []))
  pub begins : is_scheme scheme ≡ true
  pub colonless : list_any (λ b. b == 58) scheme ≡ false
  pub rooted : IsRoot root dirs
  pub signless : list_any (is_one_of (codes "?#")) (root ++ dirs) ≡ false
  pub dotless : has_dots dirs ≡ false

-- The first n bytes of a text are such a front, and the path behind them has no slash.
pub record HasFront (text : List ℕ) (n : ℕ) : Type 0 where
  pub front : List ℕ
  pub last : List ℕ
  pub is : text ≡ front ++ last
  pub end : n ≡ length front
  pub begins : IsFront front
  pub ends : has_slash (before_query last) ≡ false

-- RFC 3986, 3.5: what stands before the fragment
abbrev pub before_fragment : List ℕ → List ℕ
before_fragment text = before_first (λ b. b == 35) text

-- how many bytes at the front may stand in an IRI
abbrev pub iri_length : List ℕ → ℕ
iri_length text = position_or_len (λ b. not (is_iri_character b)) text

-- what is known of the text of a base
pub record AreKnown (text : List ℕ) (places : Places) : Type 0 where
  pub scheme : places.has_scheme ≡ has_scheme text
  pub front : IfSome places.front (HasFront text)
  pub path : places.path ≡ length (before_query text)
  pub query : places.query ≡ length (before_fragment text)
  pub iri : places.iri ≡ iri_length text
