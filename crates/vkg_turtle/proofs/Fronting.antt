-- A plain reference is put behind the front of a base.
use Rattle.std.proofs.Common.{◌≡◌, ◌∙◌, ◌==◌, ◌||◌, ◌&&◌, ◌++◌, ◌<◌, ◌≤◌, ◌+◌, ◌-◌, ℕ, zero, suc, Bool, true, false, not, List, [], ◌∷◌, length, take, drop, get_or, codes, refl, sym, ap, subst, arith, append_assoc, append-nil, Option, Some, None, nat_eq, bytes_eq, true≢false, length-append, length-take-le, take-append-drop, ne_eqb}
use Rattle.std.specs.Prelude.{if◌then◌else◌, is_some}
use Rattle.std.specs.Char.{is_ascii_alphabetic, is_ascii_digit}
use Rattle.std.specs.List.{before_first, after_first, list_all, list_any, starts_with}
use Rattle.std.specs.Option.{option_or}
use Rattle.std.proofs.lemmas.Bool.{and_from, and_left, and_parts, and_right, both_ways, eqb-false, false_from_ne_true, not-true, or_from, or_left, or_parts, or_right}
use Rattle.std.proofs.lemmas.List.{take_more}
use Rattle.std.proofs.lemmas.List.Folds.{list_all-append, list_any-append}
use Rattle.vkg_terms.specs.Iri.{has_scheme, is_absolute, is_iri_character, is_one_of, is_scheme, is_scheme_character}
use Rattle.vkg_terms.specs.Resolve.{Parts, after, after_scheme, authority_of, from_slash, hierarchy, join, merge, path_of, path_on, prefixed, query_on, remove_dots, resolve, scheme_of, split, suffixed, transform, up_to_last_slash}
use Rattle.vkg_terms.proofs.ComponentsLemmas.{parts_same}
use Rattle.vkg_turtle.specs.Fronts.{IsBehindSlash, IsFront, IsPlain, IsRoot, HasFront, before_query, has_dots, has_slash, is_path_noscheme}
use Rattle.vkg_turtle.proofs.Cutting.{after_here, after_past, before_drop, before_here, before_lacks, before_later, before_past, glued, query_glued, slash_glued, up_to_last}
use Rattle.vkg_turtle.proofs.PathLemmas.{dotless_stays, dots_joined}

abbrev is_sign : ℕ → Bool
is_sign b = is_one_of (codes "?#") b

-- ---- a scheme

module _ (scheme rest : List ℕ) (begins : is_scheme scheme ≡ true) (colonless : list_any (λ b. b == 58) scheme ≡ false) where
  before_colon : before_first (λ b. b == 58) (scheme ++ 58 ∷ rest) ≡ scheme
  before_colon =
      before_past (λ b. b == 58) scheme (58 ∷ rest) colonless
      ∙ ap (λ (l : List ℕ). scheme ++ l) (before_here (λ b. b == 58) 58 rest refl)
      ∙ append-nil scheme

  pub begins_so : has_scheme (scheme ++ 58 ∷ rest) ≡ true
  begins_so =
      and_from _ _ (list_any-append (λ b. b == 58) scheme (58 ∷ rest) ∙ or_right (list_any (λ b. b == 58) scheme) _ refl)
      (ap is_scheme before_colon ∙ begins)

  scheme_is : scheme_of (scheme ++ 58 ∷ rest) ≡ Some scheme
  scheme_is = ap (λ b. if b then Some (before_first (λ b. b == 58) (scheme ++ 58 ∷ rest)) else None) begins_so ∙ ap Some before_colon

  after_is : after_scheme (scheme ++ 58 ∷ rest) ≡ rest
  after_is =
      ap (λ b. if b then after_first (λ b. b == 58) (scheme ++ 58 ∷ rest) else (scheme ++ 58 ∷ rest)) begins_so
      ∙ after_past (λ b. b == 58) scheme (58 ∷ rest) colonless
      ∙ after_here (λ b. b == 58) 58 rest refl

-- a scheme is what stands before a `:` that makes a scheme
pub scheme_alone : (scheme : List ℕ) → list_any (λ b. b == 58) scheme ≡ false → is_absolute (scheme ++ codes ":") ≡ true → is_scheme scheme ≡ true
scheme_alone scheme colonless h =
    let begun = and_parts (has_scheme (scheme ++ 58 ∷ [])) _ h in
    let is = and_parts (list_any (λ b. b == 58) (scheme ++ 58 ∷ [])) _ begun.0 in
    let same : before_first (λ b. b == 58) (scheme ++ 58 ∷ []) ≡ scheme =
    before_past (λ b. b == 58) scheme (58 ∷ []) colonless ∙ ap (λ (l : List ℕ). scheme ++ l) (before_here (λ b. b == 58) 58 [] refl) ∙ append-nil scheme in
    ap is_scheme (sym same) ∙ is.1

pub scheme_lacks : (p : ℕ → Bool) → ((c : ℕ) → is_scheme_character c ≡ true → p c ≡ false) → (s : List ℕ) → list_all is_scheme_character s ≡ true → list_any p s ≡ false
scheme_lacks p h [] e = refl
scheme_lacks p h (c ∷ cs) e = let (here, rest) = and_parts (is_scheme_character c) (list_all is_scheme_character cs) e in or_from (p c) (list_any p cs) (h c here) (scheme_lacks p h cs rest)

pub scheme_characters : (s : List ℕ) → is_scheme s ≡ true → list_all is_scheme_character s ≡ true
scheme_characters [] e = refl
scheme_characters (c ∷ cs) e =
    let (here, rest) = and_parts (is_ascii_alphabetic c) (list_all is_scheme_character cs) e in
    and_from (is_scheme_character c) _ (ap (λ b. (b || is_ascii_digit c) || is_one_of (codes "+.-") c) here) rest

differs : (n c : ℕ) → is_scheme_character n ≡ false → is_scheme_character c ≡ true → n ≡ c → ⊥
differs n c f t e = both_ways (is_scheme_character c) (ap is_scheme_character (sym e) ∙ f) t

no_slash : (c : ℕ) → is_scheme_character c ≡ true → (c == 47) ≡ false
no_slash c h = ne_eqb c 47 (λ e. differs 47 c refl h (sym e))

pub no_sign : (c : ℕ) → is_scheme_character c ≡ true → is_sign c ≡ false
no_sign c h = or_from (63 == c) ((35 == c) || false) (ne_eqb 63 c (differs 63 c refl h)) (or_from (35 == c) false (ne_eqb 35 c (differs 35 c refl h)) refl)

-- ---- a reference that begins with a path has no scheme

module _ (r : List ℕ) (h : is_path_noscheme r ≡ true) where
  parts : (not (bytes_eq r []) ≡ true) × ((not (starts_with nat_eq r (codes "/")) ≡ true) × (not (list_any (λ b. b == 58) (before_first (λ b. b == 47) r)) ≡ true))
  parts =
      let a = and_parts (not (bytes_eq r [])) _ h in
      let b = and_parts (not (starts_with nat_eq r (codes "/"))) _ a.1 in
      (a.0, (b.0, b.1))

  not_empty : bytes_eq r [] ≡ false
  not_empty = not-true (bytes_eq r []) parts.0

  pub not_rooted : starts_with nat_eq r (codes "/") ≡ false
  not_rooted = not-true (starts_with nat_eq r (codes "/")) parts.1.0

  no_colon : list_any (λ b. b == 58) (before_first (λ b. b == 47) r) ≡ false
  no_colon = not-true (list_any (λ b. b == 58) (before_first (λ b. b == 47) r)) parts.1.1

colon_kept : (s t : List ℕ) → list_all is_scheme_character s ≡ true → list_any (λ b. b == 58) (before_first (λ b. b == 47) (before_query (s ++ 58 ∷ t))) ≡ true
colon_kept s t h =
    let query : before_query (s ++ 58 ∷ t) ≡ s ++ 58 ∷ before_query t =
    before_past is_sign s (58 ∷ t) (scheme_lacks is_sign no_sign s h) ∙ ap (λ (l : List ℕ). s ++ l) (before_later is_sign 58 t refl) in
    let front : before_first (λ b. b == 47) (s ++ 58 ∷ before_query t) ≡ s ++ 58 ∷ before_first (λ b. b == 47) (before_query t) =
    before_past (λ b. b == 47) s (58 ∷ before_query t) (scheme_lacks (λ b. b == 47) no_slash s h) ∙ ap (λ (l : List ℕ). s ++ l) (before_later (λ b. b == 47) 58 (before_query t) refl) in
    ap (λ l. list_any (λ b. b == 58) (before_first (λ b. b == 47) l)) query
    ∙ ap (list_any (λ b. b == 58)) front
    ∙ list_any-append (λ b. b == 58) s (58 ∷ before_first (λ b. b == 47) (before_query t))
    ∙ or_right (list_any (λ b. b == 58) s) _ refl

pub at_colon : (text : List ℕ) → list_any (λ b. b == 58) text ≡ true → before_first (λ b. b == 58) text ++ 58 ∷ after_first (λ b. b == 58) text ≡ text
at_colon text h = ap (λ b. before_first (λ b. b == 58) text ++ prefixed (58 ∷ []) (if b then Some (after_first (λ b. b == 58) text) else None)) (sym h) ∙ glued 58 text

pub no_scheme_by : (text : List ℕ) → list_any (λ b. b == 58) (before_first (λ b. b == 47) (before_query text)) ≡ false → has_scheme text ≡ false
no_scheme_by text h = false_from_ne_true (has_scheme text) (λ e.
    let (any, is) = and_parts (list_any (λ b. b == 58) text) _ e in
    let kept = colon_kept (before_first (λ b. b == 58) text) (after_first (λ b. b == 58) text) (scheme_characters (before_first (λ b. b == 58) text) is) in
    both_ways (list_any (λ b. b == 58) (before_first (λ b. b == 47) (before_query text))) h (ap (λ l. list_any (λ b. b == 58) (before_first (λ b. b == 47) (before_query l))) (sym (at_colon text any)) ∙ kept))

no_scheme : (text : List ℕ) → is_path_noscheme (before_query text) ≡ true → has_scheme text ≡ false
no_scheme text h = no_scheme_by text (no_colon (before_query text) h)

-- ---- texts that begin with slashes

and_true_false : (b : Bool) → (b && true) ≡ false → b ≡ false
and_true_false true h = absurd (true≢false h)
and_true_false false h = refl

no_double : (r : List ℕ) → starts_with nat_eq r (codes "/") ≡ false → starts_with nat_eq r (codes "//") ≡ false
no_double [] h = refl
no_double (x ∷ xs) h = and_left (nat_eq 47 x) _ (and_true_false (nat_eq 47 x) h)

pub no_start : (l : List ℕ) → has_slash l ≡ false → starts_with nat_eq l (codes "/") ≡ false
no_start [] h = refl
no_start (x ∷ xs) h = and_left (nat_eq 47 x) true (ne_eqb 47 x (λ e. eqb-false x 47 (or_parts (x == 47) (has_slash xs) h).0 (sym e)))

pub single : (dirs x l : List ℕ) → starts_with nat_eq (dirs ++ 47 ∷ l) (codes "//") ≡ false → starts_with nat_eq x (codes "/") ≡ false → starts_with nat_eq (dirs ++ 47 ∷ x) (codes "//") ≡ false
single [] x l h k = k
single (d ∷ []) x l h k = h
single (d ∷ e ∷ ds) x l h k = h

pub later_start : (e x l : List ℕ) → starts_with nat_eq (e ++ 47 ∷ l) (codes "/") ≡ false → starts_with nat_eq (e ++ 47 ∷ x) (codes "/") ≡ false
later_start [] x l h = absurd (true≢false h)
later_start (d ∷ ds) x l h = h

-- ---- what is put together

pub glue_front : (s root dirs last : List ℕ) → (s ++ 58 ∷ (root ++ (dirs ++ 47 ∷ []))) ++ last ≡ s ++ 58 ∷ (root ++ (dirs ++ 47 ∷ last))
glue_front s root dirs last =
    append_assoc s (58 ∷ (root ++ (dirs ++ 47 ∷ []))) last
    ∙ ap (λ (l : List ℕ). s ++ 58 ∷ l) (append_assoc root (dirs ++ 47 ∷ []) last ∙ ap (λ (l : List ℕ). root ++ l) (append_assoc dirs (47 ∷ []) last))

glue_parts : (s root dirs r q f : List ℕ) → ((((s ++ 58 ∷ []) ++ root) ++ (dirs ++ 47 ∷ r)) ++ q) ++ f ≡ s ++ 58 ∷ (root ++ (dirs ++ 47 ∷ ((r ++ q) ++ f)))
glue_parts s root dirs r q f =
    ap (λ (l : List ℕ). l ++ f) (append_assoc ((s ++ 58 ∷ []) ++ root) (dirs ++ 47 ∷ r) q)
    ∙ append_assoc ((s ++ 58 ∷ []) ++ root) ((dirs ++ 47 ∷ r) ++ q) f
    ∙ append_assoc (s ++ 58 ∷ []) root (((dirs ++ 47 ∷ r) ++ q) ++ f)
    ∙ append_assoc s (58 ∷ []) (root ++ (((dirs ++ 47 ∷ r) ++ q) ++ f))
    ∙ ap (λ (l : List ℕ). s ++ 58 ∷ (root ++ l)) (ap (λ (l : List ℕ). l ++ f) (append_assoc dirs (47 ∷ r) q) ∙ append_assoc dirs (47 ∷ (r ++ q)) f)

-- ---- the reference's parts

module _ (text : List ℕ) (relative : is_path_noscheme (before_query text) ≡ true) where
  reference_rest : after_scheme text ≡ text
  reference_rest = ap (λ b. if b then after_first (λ b. b == 58) text else text) (no_scheme text relative)

  reference_path : hierarchy text ≡ before_query text
  reference_path = ap before_query reference_rest

  not_double : starts_with nat_eq (before_query text) (codes "//") ≡ false
  not_double = no_double (before_query text) (not_rooted (before_query text) relative)

  abbrev reference_parts : Parts
  reference_parts = record {
    scheme = None;
    authority = None;
    path = before_query text;
    query = after 63 (before_first (λ b. b == 35) text);
    fragment = after 35 text;
  }

  reference_is : split text ≡ reference_parts
  reference_is = parts_same (split text) reference_parts
      (ap (λ b. if b then Some (before_first (λ b. b == 58) text) else None) (no_scheme text relative))
      (ap authority_of reference_path ∙ ap (λ b. if b then Some (before_first (λ b. b == 47) (drop 2 (before_query text))) else None) not_double)
      (ap path_of reference_path ∙ ap (λ b. if b then from_slash (drop 2 (before_query text)) else before_query text) not_double)
      (ap (λ l. after 63 (before_first (λ b. b == 35) l)) reference_rest)
      (ap (after 35) reference_rest)

-- ---- the base's parts

module _ (front last : List ℕ) (b : IsFront front) (ends : has_slash (before_query last) ≡ false) where
  abbrev whole : List ℕ
  whole = b.scheme ++ 58 ∷ (b.root ++ (b.dirs ++ 47 ∷ last))

  whole_is : front ++ last ≡ whole
  whole_is = ap (λ (l : List ℕ). l ++ last) b.is ∙ glue_front b.scheme b.root b.dirs last

  base_path : hierarchy whole ≡ b.root ++ (b.dirs ++ 47 ∷ before_query last)
  base_path =
      ap before_query (after_is b.scheme (b.root ++ (b.dirs ++ 47 ∷ last)) b.begins b.colonless ∙ sym (append_assoc b.root b.dirs (47 ∷ last)))
      ∙ before_past is_sign (b.root ++ b.dirs) (47 ∷ last) b.signless
      ∙ ap (λ (l : List ℕ). (b.root ++ b.dirs) ++ l) (before_later is_sign 47 last refl)
      ∙ append_assoc b.root b.dirs (47 ∷ before_query last)

  abbrev base_root : Option (List ℕ)
  base_root = authority_of (b.root ++ (b.dirs ++ 47 ∷ before_query last))

  abbrev base_parts : Parts
  base_parts = record {
    scheme = Some b.scheme;
    authority = base_root;
    path = b.dirs ++ 47 ∷ before_query last;
    query = (split whole).query;
    fragment = (split whole).fragment;
  }

  base_is : split whole ≡ base_parts
  base_is = parts_same (split whole) base_parts
      (scheme_is b.scheme (b.root ++ (b.dirs ++ 47 ∷ last)) b.begins b.colonless)
      (ap authority_of base_path)
      (ap path_of base_path ∙ (b.rooted (before_query last) (no_start (before_query last) ends)).0)
      refl refl

  not_nothing : (dirs l : List ℕ) → bytes_eq (dirs ++ 47 ∷ l) [] ≡ false
  not_nothing [] l = refl
  not_nothing (d ∷ ds) l = refl

  module _ (r : List ℕ) (relative : is_path_noscheme r ≡ true) (dotless : has_dots r ≡ false) where
    merged : merge base_parts r ≡ b.dirs ++ 47 ∷ r
    merged =
        ap (λ t. if t then codes "/" ++ r else up_to_last_slash (b.dirs ++ 47 ∷ before_query last) ++ r) (and_right (is_some base_root) _ (not_nothing b.dirs (before_query last)))
        ∙ ap (λ (l : List ℕ). l ++ r) (up_to_last b.dirs (before_query last) ends)
        ∙ append_assoc b.dirs (47 ∷ []) r

    moved_path : path_on base_parts r ≡ b.dirs ++ 47 ∷ r
    moved_path =
        ap (λ t. if t then base_parts.path else if starts_with nat_eq r (codes "/") then remove_dots r else remove_dots (merge base_parts r)) (not_empty r relative)
        ∙ ap (λ t. if t then remove_dots r else remove_dots (merge base_parts r)) (not_rooted r relative)
        ∙ ap remove_dots merged
        ∙ dotless_stays (b.dirs ++ 47 ∷ r) (dots_joined b.dirs r ∙ or_from (has_dots b.dirs) (has_dots r) b.dotless dotless)

  -- the reference stands behind the front
  pub put_behind : (text : List ℕ) (n : ℕ) → IsPlain text n → resolve (front ++ last) text ≡ front ++ text
  put_behind text n p =
      let q = after 63 (before_first (λ b. b == 35) text) in
      let f = after 35 text in
      (λ i. resolve (whole_is i) text)
      ∙ (λ i. join (transform (base_is i) (reference_is text p.relative i)))
      ∙ (λ i. ((((b.scheme ++ 58 ∷ []) ++ (b.rooted (before_query last) (no_start (before_query last) ends)).1 i) ++ moved_path (before_query text) p.relative p.dotless i) ++ prefixed (codes "?") (if not_empty (before_query text) p.relative i then option_or q base_parts.query else q)) ++ prefixed (codes "#") f)
      ∙ glue_parts b.scheme b.root b.dirs (before_query text) (prefixed (codes "?") q) (prefixed (codes "#") f)
      ∙ ap (λ (l : List ℕ). b.scheme ++ 58 ∷ (b.root ++ (b.dirs ++ 47 ∷ l))) (query_glued text)
      ∙ sym (glue_front b.scheme b.root b.dirs text)
      ∙ ap (λ (l : List ℕ). l ++ text) (sym b.is)
