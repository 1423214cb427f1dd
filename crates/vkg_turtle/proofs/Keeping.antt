-- A reference without a path is put behind the path or the query of a base, and what is known of a base stays known.
use Rattle.std.proofs.Common.{◌≡◌, ◌∙◌, ◌==◌, ◌||◌, ◌&&◌, ◌++◌, ◌<◌, ◌≤◌, ◌+◌, ◌-◌, ℕ, zero, suc, Bool, true, false, not, nat_lt, List, [], ◌∷◌, length, take, drop, get_or, codes, refl, sym, ap, subst, arith, append_assoc, append-nil, Option, Some, None, nat_eq, true≢false, length-append, take-append-drop, take_at, eqb-true, ne_eqb, IsUtf8, IsCharBoundary, le-ltb}
use Rattle.std.specs.Prelude.{IfSome, if◌then◌else◌}
use Rattle.std.specs.List.{before_first, after_first, list_all, list_any, position_or_len, starts_with}
use Rattle.std.specs.Option.{option_or}
use Rattle.std.proofs.lemmas.Bool.{and_from, and_parts, both_ways, eqb-false, or_from, or_parts}
use Rattle.std.proofs.lemmas.List.{get_or_default}
use Rattle.std.proofs.lemmas.List.Folds.{list_any-append}
use Rattle.std.proofs.lemmas.List.Sums.{prefix_len-le-length, split_at_first}
use Rattle.std.proofs.lemmas.Str.{IsCharBoundary-before_ascii, IsCharBoundary-end}
use Rattle.vkg_lists.proofs.Positions.{first_here, first_later}
use Rattle.vkg_terms.specs.Iri.{has_scheme, is_absolute, is_iri_character, is_one_of, is_scheme}
use Rattle.vkg_terms.specs.Resolve.{Parts, after, after_scheme, authority_of, from_slash, hierarchy, join, path_of, prefixed, resolve, scheme_of, split, suffixed, transform}
use Rattle.vkg_terms.proofs.ComponentsLemmas.{parts_same}
use Rattle.vkg_terms.proofs.Cuts.{before_either}
use Rattle.vkg_turtle.specs.declared.places.Places.{Places}
use Rattle.vkg_turtle.specs.Fronts.{AreKnown, HasFront, IsFront, IsPlain, before_fragment, before_query, has_slash, iri_length}
use Rattle.vkg_turtle.proofs.Cutting.{before_here, before_lacks, before_later, before_past, glued, query_glued, slash_glued}
use Rattle.vkg_turtle.proofs.Fronting.{at_colon, begins_so, no_scheme_by, no_sign, scheme_characters, scheme_lacks}
use Rattle.vkg_turtle.proofs.Placing.{begun, front_taken, grown_from, two_slashes}

abbrev is_sign : ℕ → Bool
is_sign b = is_one_of (codes "?#") b

-- ---- a reference without a path

module _ (text : List ℕ) (empty : before_query text ≡ []) where
  no_scheme_here : has_scheme text ≡ false
  no_scheme_here = no_scheme_by text (ap (λ l. list_any (λ b. b == 58) (before_first (λ b. b == 47) l)) empty)

  rest_here : after_scheme text ≡ text
  rest_here = ap (λ b. if b then after_first (λ b. b == 58) text else text) no_scheme_here

  path_here : hierarchy text ≡ []
  path_here = ap before_query rest_here ∙ empty

  abbrev empty_parts : Parts
  empty_parts = record {
    scheme = None;
    authority = None;
    path = [];
    query = after 63 (before_first (λ b. b == 35) text);
    fragment = after 35 text;
  }

  empty_is : split text ≡ empty_parts
  empty_is = parts_same (split text) empty_parts
      (ap (λ b. if b then Some (before_first (λ b. b == 58) text) else None) no_scheme_here)
      (ap authority_of path_here)
      (ap path_of path_here)
      (ap (λ l. after 63 (before_first (λ b. b == 35) l)) rest_here)
      (ap (after 35) rest_here)

  -- it is its query and its fragment
  text_is : prefixed (codes "?") (after 63 (before_first (λ b. b == 35) text)) ++ prefixed (codes "#") (after 35 text) ≡ text
  text_is = ap (λ (l : List ℕ). (l ++ prefixed (codes "?") (after 63 (before_first (λ b. b == 35) text))) ++ prefixed (codes "#") (after 35 text)) (sym empty) ∙ query_glued text

-- the query of a text that begins with `?`
some_query : (text : List ℕ) → starts_with nat_eq text (codes "?") ≡ true → (x : List ℕ) × (after 63 (before_first (λ b. b == 35) text) ≡ Some x)
some_query [] e = absurd (cc)
some_query (x ∷ xs) e =
    let same : 63 ≡ x = eqb-true 63 x (and_parts (nat_eq 63 x) true e).0 in
    subst (λ y. (l : List ℕ) × (after 63 (before_first (λ b. b == 35) (y ∷ xs)) ≡ Some l)) same
    (after_first (λ b. b == 63) (63 ∷ before_first (λ b. b == 35) xs), ap (after 63) (before_later (λ b. b == 35) 63 xs refl))

and_true_false : (b : Bool) → (b && true) ≡ false → b ≡ false
and_true_false true h = absurd (true≢false h)
and_true_false false h = refl

-- a text without a path that does not begin with `?` is empty or begins with `#`
hash_by : (x : ℕ) (xs : List ℕ) (b c : Bool) → (63 == x) ≡ false → (35 == x) ≡ b → is_sign x ≡ c → before_query (x ∷ xs) ≡ [] → 35 ≡ x
hash_by x xs true c f e s h = eqb-true 35 x e
hash_by x xs false true f e s h = absurd (both_ways (is_sign x) (or_from (63 == x) ((35 == x) || false) f (or_from (35 == x) false e refl)) s)
hash_by x xs false false f e s h = absurd (let z = sym (before_later is_sign x xs s) ∙ h in cc)

pub no_fragment : (text : List ℕ) → before_query text ≡ [] → starts_with nat_eq text (codes "?") ≡ false → before_fragment text ≡ []
no_fragment [] h e = refl
no_fragment (x ∷ xs) h e =
    let same : 35 ≡ x = hash_by x xs (35 == x) (is_sign x) (and_true_false (nat_eq 63 x) e) refl refl h in
    subst (λ y. before_fragment (y ∷ xs) ≡ []) same (before_here (λ b. b == 35) 35 xs refl)

-- what has no sign has no `#`
pub hash_free : (xs : List ℕ) → list_any is_sign xs ≡ false → list_any (λ b. b == 35) xs ≡ false
hash_free [] e = refl
hash_free (x ∷ xs) e =
    let (here, more) = or_parts (is_sign x) (list_any is_sign xs) e in
    let no : (35 == x) ≡ false = (or_parts (35 == x) false (or_parts (63 == x) ((35 == x) || false) here).1).0 in
    or_from (x == 35) _ (ne_eqb x 35 (λ q. eqb-false 35 x no (sym q))) (hash_free xs more)

-- ---- a base with a scheme

host_by : (h : List ℕ) (b : Bool) → starts_with nat_eq h (codes "//") ≡ b → prefixed (codes "//") (if b then Some (before_first (λ b. b == 47) (drop 2 h)) else None) ++ (if b then from_slash (drop 2 h) else h) ≡ h
host_by h true e = ap (λ (l : List ℕ). 47 ∷ 47 ∷ l) (slash_glued (drop 2 h)) ∙ sym (two_slashes h e)
host_by h false e = refl

host_glued : (h : List ℕ) → prefixed (codes "//") (authority_of h) ++ path_of h ≡ h
host_glued h = host_by h (starts_with nat_eq h (codes "//")) refl

module _ (base : List ℕ) (h : has_scheme base ≡ true) where
  abbrev name : List ℕ
  name = before_first (λ b. b == 58) base

  abbrev rest : List ℕ
  rest = after_first (λ b. b == 58) base

  base_is : base ≡ name ++ 58 ∷ rest
  base_is = sym (at_colon base (and_parts (list_any (λ b. b == 58) base) _ h).0)

  named : is_scheme name ≡ true
  named = (and_parts (list_any (λ b. b == 58) base) _ h).1

  rest_is : after_scheme base ≡ rest
  rest_is = ap (λ b. if b then rest else base) h

  name_signless : list_any is_sign name ≡ false
  name_signless = scheme_lacks is_sign no_sign name (scheme_characters name named)

  query_cut : before_query base ≡ name ++ 58 ∷ before_query rest
  query_cut =
      ap before_query base_is
      ∙ before_past is_sign name (58 ∷ rest) name_signless
      ∙ ap (λ (l : List ℕ). name ++ l) (before_later is_sign 58 rest refl)

  fragment_cut : before_fragment base ≡ name ++ 58 ∷ before_fragment rest
  fragment_cut =
      ap before_fragment base_is
      ∙ before_past (λ b. b == 35) name (58 ∷ rest) (hash_free name name_signless)
      ∙ ap (λ (l : List ℕ). name ++ l) (before_later (λ b. b == 35) 58 rest refl)

  path_glued : (suffixed (scheme_of base) (codes ":") ++ prefixed (codes "//") (authority_of (hierarchy base))) ++ path_of (hierarchy base) ≡ before_query base
  path_glued =
      append_assoc (suffixed (scheme_of base) (codes ":")) (prefixed (codes "//") (authority_of (hierarchy base))) (path_of (hierarchy base))
      ∙ ap (λ (l : List ℕ). suffixed (scheme_of base) (codes ":") ++ l) (host_glued (hierarchy base) ∙ ap before_query rest_is)
      ∙ ap (λ b. suffixed (if b then Some name else None) (codes ":") ++ before_query rest) h
      ∙ append_assoc name (58 ∷ []) (before_query rest)
      ∙ sym query_cut

  query_end : before_query base ++ prefixed (codes "?") (after 63 (before_first (λ b. b == 35) (after_scheme base))) ≡ before_fragment base
  query_end =
      (λ i. query_cut i ++ prefixed (codes "?") (after 63 (before_first (λ b. b == 35) (rest_is i))))
      ∙ append_assoc name (58 ∷ before_query rest) (prefixed (codes "?") (after 63 (before_fragment rest)))
      ∙ ap (λ (l : List ℕ). name ++ 58 ∷ (l ++ prefixed (codes "?") (after 63 (before_fragment rest)))) (before_either rest)
      ∙ ap (λ (l : List ℕ). name ++ 58 ∷ l) (glued 63 (before_fragment rest))
      ∙ sym fragment_cut

  module _ (text : List ℕ) (empty : before_query text ≡ []) where
    abbrev own_query : Option (List ℕ)
    own_query = after 63 (before_first (λ b. b == 35) text)

    abbrev base_query : Option (List ℕ)
    base_query = after 63 (before_first (λ b. b == 35) (after_scheme base))

    joined : resolve base text ≡ (before_query base ++ prefixed (codes "?") (option_or own_query base_query)) ++ prefixed (codes "#") (after 35 text)
    joined =
        (λ i. join (transform (split base) (empty_is text empty i)))
        ∙ ap (λ (l : List ℕ). (l ++ prefixed (codes "?") (option_or own_query base_query)) ++ prefixed (codes "#") (after 35 text)) path_glued

    pub query_put : starts_with nat_eq text (codes "?") ≡ true → resolve base text ≡ before_query base ++ text
    query_put e =
        let some = some_query text e in
        joined
        ∙ ap (λ o. (before_query base ++ prefixed (codes "?") (option_or o base_query)) ++ prefixed (codes "#") (after 35 text)) some.1
        ∙ ap (λ o. (before_query base ++ prefixed (codes "?") o) ++ prefixed (codes "#") (after 35 text)) (sym some.1)
        ∙ append_assoc (before_query base) (prefixed (codes "?") own_query) (prefixed (codes "#") (after 35 text))
        ∙ ap (λ (l : List ℕ). before_query base ++ l) (text_is text empty)

    pub fragment_put : starts_with nat_eq text (codes "?") ≡ false → resolve base text ≡ before_fragment base ++ text
    fragment_put e =
        let none : own_query ≡ None = ap (after 63) (no_fragment text empty e) in
        joined
        ∙ ap (λ o. (before_query base ++ prefixed (codes "?") (option_or o base_query)) ++ prefixed (codes "#") (after 35 text)) none
        ∙ ap (λ (l : List ℕ). l ++ prefixed (codes "#") (after 35 text)) query_end
        ∙ ap (λ (l : List ℕ). before_fragment base ++ l) (ap (λ o. prefixed (codes "?") o ++ prefixed (codes "#") (after 35 text)) (sym none) ∙ text_is text empty)

    still_by : (front : List ℕ) → (more : List ℕ) → front ≡ name ++ 58 ∷ more → has_scheme (front ++ text) ≡ true
    still_by front more e = ap (λ (l : List ℕ). has_scheme (l ++ text)) e ∙ ap has_scheme (append_assoc name (58 ∷ more) text) ∙ begins_so name (more ++ text) named (before_lacks (λ b. b == 58) base)

    pub still_query : has_scheme (before_query base ++ text) ≡ true
    still_query = still_by (before_query base) (before_query rest) query_cut

    pub still_fragment : has_scheme (before_fragment base ++ text) ≡ true
    still_fragment = still_by (before_fragment base) (before_fragment rest) fragment_cut
