-- Where the front of a base ends, and that it grows by the directories of a plain reference.
use Rattle.std.proofs.Common.{◌≡◌, ◌∙◌, ◌==◌, ◌||◌, ◌&&◌, ◌++◌, ◌<◌, ◌≤◌, ◌+◌, ◌-◌, ℕ, zero, suc, Bool, true, false, not, nat_le, List, [], ◌∷◌, length, take, drop, get_or, codes, refl, sym, ap, subst, subst₂, arith, append_assoc, append-nil, Some, None, nat_eq, true≢false, length-append, length-take-le, take-append-drop, take_at, drop_at, eqb-true, ne_eqb, Bor, Option, IsUtf8, IsCharBoundary}
use Rattle.std.specs.Prelude.{if◌then◌else◌}
use Rattle.std.specs.List.{before_first, list_all, list_any, position_or_len, starts_with}
use Rattle.std.proofs.lemmas.Bool.{agree_below_at, and_from, and_parts, both_ways, false_from_ne_true, leb-true, not-true, or_from, or_parts, or_right}
use Rattle.std.proofs.lemmas.List.{get_or_append_left, get_or_default, get_or_at, length_push, take-append-le, take_more}
use Rattle.std.proofs.lemmas.List.Folds.{list_all-append, list_any-append, list_any_none}
use Rattle.std.proofs.lemmas.Str.{IsCharBoundary-after_ascii, IsCharBoundary-start}
use Rattle.std.proofs.lemmas.Str.Pattern.{IsSplitOnceResult, split_parts}
use Rattle.vkg_terms.specs.Iri.{has_scheme, is_absolute, is_iri_character, is_one_of, is_scheme, is_scheme_character}
use Rattle.vkg_terms.specs.Resolve.{authority_of, from_slash, path_of, prefixed, resolve}
use Rattle.vkg_turtle.specs.Fronts.{IsBehindSlash, IsFront, IsPlain, IsRoot, HasFront, before_query, has_dots, has_slash}
use Rattle.vkg_turtle.proofs.Cutting.{before_drop, before_here, before_lacks, before_later, before_past, slash_glued}
use Rattle.vkg_turtle.proofs.Fronting.{begins_so, glue_front, later_start, not_rooted, put_behind, scheme_alone, scheme_characters, single}
use Rattle.vkg_turtle.proofs.PathLemmas.{dots_joined}

abbrev is_sign : ℕ → Bool
is_sign b = is_one_of (codes "?#") b

-- the path and what stands behind it
query_cut : (text : List ℕ) → before_query text ++ drop (position_or_len is_sign text) text ≡ text
query_cut text = take-append-drop (position_or_len is_sign text) text

-- a place within the path is one of the text
path_within : (text : List ℕ) → length (before_query text) ≤ length text
path_within text = omega (arith, length-append (before_query text) (drop (position_or_len is_sign text) text), ap length (query_cut text))

path_take : (text : List ℕ) (n : ℕ) → n ≤ length (before_query text) → take n text ≡ take n (before_query text)
path_take text n l = ap (take n) (sym (query_cut text)) ∙ take-append-le n (before_query text) (drop (position_or_len is_sign text) text) l

path_get : (text : List ℕ) (k : ℕ) → k < length (before_query text) → get_or text k 0 ≡ get_or (before_query text) k 0
path_get text k l = ap (λ t. get_or t k 0) (sym (query_cut text)) ∙ get_or_append_left (before_query text) (drop (position_or_len is_sign text) text) 0 k l

-- ---- a path with a slash at a place

module _ (path : List ℕ) (k : ℕ) (b : IsBehindSlash path (suc k)) where
  slash_at : get_or path k 0 ≡ 47
  slash_at = let at : suc k - 1 ≡ k = omega arith in ap (λ n. get_or path n 0) (sym at) ∙ b.slash (omega arith)

  pub dirs_are : take (suc k) path ≡ take k path ++ 47 ∷ []
  dirs_are =
      let more : k + 1 ≡ suc k = omega arith in
      ap (λ n. take n path) (sym more) ∙ take_more path k 0 (omega (arith, b.inside)) ∙ ap (λ x. take k path ++ x ∷ []) slash_at

  pub path_is : path ≡ take k path ++ 47 ∷ drop (suc k) path
  path_is =
      sym (take-append-drop (suc k) path)
      ∙ ap (λ (l : List ℕ). l ++ drop (suc k) path) dirs_are
      ∙ append_assoc (take k path) (47 ∷ []) (drop (suc k) path)

  pub dirs_length : length (take k path) ≡ k
  dirs_length = length-take-le k path (omega (arith, b.inside))

-- ---- the front grows

module _ (front : List ℕ) (b : IsFront front) (text : List ℕ) where
  pub grown_from : (n : ℕ) → IsPlain text n → (m : ℕ) → m ≡ length front → HasFront (front ++ text) (m + n)
  grown_from zero p m e = record { front = front; last = text; is = refl; end = omega (arith, e); begins = b; ends = p.behind.last }
  grown_from (suc k) p m e =
      let path : List ℕ = before_query text in
      let dirs : List ℕ = take k path in
      let rest : List ℕ = drop (suc k) path in
      let is : path ≡ dirs ++ 47 ∷ rest = path_is path k p.behind in
      let taken : take (suc k) text ≡ dirs ++ 47 ∷ [] = path_take text (suc k) p.behind.inside ∙ dirs_are path k p.behind in
      let relative : starts_with nat_eq (dirs ++ 47 ∷ rest) (codes "/") ≡ false = ap (λ l. starts_with nat_eq l (codes "/")) (sym is) ∙ not_rooted path p.relative in
      let lacks : list_any is_sign dirs ≡ false = (or_parts (list_any is_sign dirs) _ (sym (list_any-append is_sign dirs (47 ∷ rest)) ∙ ap (list_any is_sign) (sym is) ∙ before_lacks is_sign text)).0 in
      let dotless : has_dots dirs ≡ false = (or_parts (has_dots dirs) (has_dots rest) (sym (dots_joined dirs rest) ∙ ap has_dots (sym is) ∙ p.dotless)).0 in
      record {
        front = front ++ (dirs ++ 47 ∷ []);
        last = drop (suc k) text;
        is = ap (λ (l : List ℕ). front ++ l) (sym (take-append-drop (suc k) text) ∙ ap (λ (l : List ℕ). l ++ drop (suc k) text) taken) ∙ sym (append_assoc front (dirs ++ 47 ∷ []) (drop (suc k) text));
        end = omega (arith, e, length-append front (dirs ++ 47 ∷ []), length-append dirs (47 ∷ []), dirs_length path k p.behind);
        begins = record {
          scheme = b.scheme;
          root = b.root;
          dirs = b.dirs ++ 47 ∷ dirs;
          is = ap (λ (l : List ℕ). l ++ (dirs ++ 47 ∷ [])) b.is ∙ glue_front b.scheme b.root b.dirs (dirs ++ 47 ∷ []) ∙ ap (λ (l : List ℕ). b.scheme ++ 58 ∷ (b.root ++ l)) (sym (append_assoc b.dirs (47 ∷ dirs) (47 ∷ [])));
          begins = b.begins;
          colonless = b.colonless;
          rooted = λ last h.
              let same : (b.dirs ++ 47 ∷ dirs) ++ 47 ∷ last ≡ b.dirs ++ 47 ∷ (dirs ++ 47 ∷ last) = append_assoc b.dirs (47 ∷ dirs) (47 ∷ last) in
              let so = b.rooted (dirs ++ 47 ∷ last) (later_start dirs last rest relative) in
              (ap (λ (l : List ℕ). path_of (b.root ++ l)) same ∙ so.0 ∙ sym same, ap (λ (l : List ℕ). prefixed (codes "//") (authority_of (b.root ++ l))) same ∙ so.1);
          signless = ap (list_any is_sign) (sym (append_assoc b.root b.dirs (47 ∷ dirs))) ∙ list_any-append is_sign (b.root ++ b.dirs) (47 ∷ dirs) ∙ or_from (list_any is_sign (b.root ++ b.dirs)) _ b.signless lacks;
          dotless = dots_joined b.dirs dirs ∙ or_from (has_dots b.dirs) (has_dots dirs) b.dotless dotless;
        };
        ends = ap has_slash (before_drop is_sign (suc k) text p.behind.inside) ∙ p.behind.last;
      }

  pub begun : has_scheme (front ++ text) ≡ true
  begun = ap has_scheme (ap (λ (l : List ℕ). l ++ text) b.is ∙ glue_front b.scheme b.root b.dirs text) ∙ begins_so b.scheme (b.root ++ (b.dirs ++ 47 ∷ text)) b.begins b.colonless

-- a front, as a base knows it
module _ (base : List ℕ) (n : ℕ) (h : HasFront base n) where
  pub front_taken : take n base ≡ h.front
  front_taken = ap (take n) h.is ∙ take_at h.front h.last n (sym h.end)

  pub put_resolved : (text : List ℕ) (e : ℕ) → IsPlain text e → (new : List ℕ) → new ≡ take n base ++ text → new ≡ resolve base text
  put_resolved text e p new q = q ∙ ap (λ (l : List ℕ). l ++ text) front_taken ∙ sym (put_behind h.front h.last h.begins h.ends text e p) ∙ ap (λ l. resolve l text) (sym h.is)

-- ---- where the front of a text ends

from_past : (xs ys : List ℕ) → has_slash xs ≡ false → from_slash (xs ++ ys) ≡ from_slash ys
from_past [] ys h = refl
from_past (x ∷ xs) ys h =
    let (here, rest) = or_parts (x == 47) (has_slash xs) h in
    ap (λ b. if b then x ∷ (xs ++ ys) else from_slash (xs ++ ys)) here ∙ from_past xs ys rest

begins_by : (x d : ℕ) (xs ds : List ℕ) (b : Bool) → (x == 47) ≡ b → (if b then x ∷ xs else from_slash xs) ≡ d ∷ ds → (from_slash xs ≡ d ∷ ds → d ≡ 47) → d ≡ 47
begins_by x d xs ds true e h more = let same : x ≡ d = cc in sym same ∙ eqb-true x 47 e
begins_by x d xs ds false e h more = more h

begins_slash : (xs : List ℕ) (d : ℕ) (ds : List ℕ) → from_slash xs ≡ d ∷ ds → d ≡ 47
begins_slash [] d ds h = absurd (cc)
begins_slash (x ∷ xs) d ds h = begins_by x d xs ds (x == 47) refl h (λ m. begins_slash xs d ds m)

-- directories that begin with a slash, or there are none
from_dirs : (xs dirs l x : List ℕ) → from_slash xs ≡ dirs ++ 47 ∷ l → (from_slash (dirs ++ 47 ∷ x) ≡ dirs ++ 47 ∷ x) × (before_first (λ b. b == 47) (dirs ++ 47 ∷ x) ≡ [])
from_dirs xs [] l x h = (refl, before_here (λ b. b == 47) 47 x refl)
from_dirs xs (d ∷ ds) l x h =
    let slash : (d == 47) ≡ true = ap (λ n. n == 47) (begins_slash xs d (ds ++ 47 ∷ l) h) in
    (ap (λ b. if b then d ∷ (ds ++ 47 ∷ x) else from_slash (ds ++ 47 ∷ x)) slash, before_here (λ b. b == 47) d (ds ++ 47 ∷ x) slash)

pub two_slashes : (h : List ℕ) → starts_with nat_eq h (codes "//") ≡ true → h ≡ 47 ∷ 47 ∷ drop 2 h
two_slashes [] e = absurd (cc)
two_slashes (x ∷ []) e = absurd (let r = (and_parts (nat_eq 47 x) _ e).1 in cc)
two_slashes (x ∷ y ∷ ys) e =
    let (first, rest) = and_parts (nat_eq 47 x) _ e in
    let second = (and_parts (nat_eq 47 y) _ rest).0 in
    (λ i. sym (eqb-true 47 x first) i ∷ sym (eqb-true 47 y second) i ∷ ys)

-- what stands before the path
record Rooted (h : List ℕ) : Type 0 where
  root : List ℕ
  is : h ≡ root ++ path_of h
  rooted : (dirs l : List ℕ) → path_of h ≡ dirs ++ 47 ∷ l → IsRoot root dirs

root_by : (h : List ℕ) (b : Bool) → starts_with nat_eq h (codes "//") ≡ b → Rooted h
root_by h true e =
    let host : List ℕ = before_first (λ b. b == 47) (drop 2 h) in
    let path : path_of h ≡ from_slash (drop 2 h) = ap (λ b. if b then from_slash (drop 2 h) else h) e in
    record {
      root = 47 ∷ 47 ∷ host;
      is = two_slashes h e ∙ ap (λ (l : List ℕ). 47 ∷ 47 ∷ l) (sym (slash_glued (drop 2 h)) ∙ ap (λ (l : List ℕ). host ++ l) (sym path));
      rooted = λ dirs l q last s.
          let so = from_dirs (drop 2 h) dirs l last (sym path ∙ q) in
          let none = before_lacks (λ b. b == 47) (drop 2 h) in (
            from_past host (dirs ++ 47 ∷ last) none ∙ so.0,
            ap (λ (l : List ℕ). 47 ∷ 47 ∷ l) (before_past (λ b. b == 47) host (dirs ++ 47 ∷ last) none ∙ ap (λ (l : List ℕ). host ++ l) so.1 ∙ append-nil host),
          );
    }
root_by h false e =
    let path : path_of h ≡ h = ap (λ b. if b then from_slash (drop 2 h) else h) e in
    record {
      root = [];
      is = sym path;
      rooted = λ dirs l q last s.
          let no : starts_with nat_eq (dirs ++ 47 ∷ last) (codes "//") ≡ false = single dirs last l (ap (λ t. starts_with nat_eq t (codes "//")) (sym (sym path ∙ q)) ∙ e) s in (
            ap (λ b. if b then from_slash (drop 2 (dirs ++ 47 ∷ last)) else (dirs ++ 47 ∷ last)) no,
            ap (λ b. prefixed (codes "//") (if b then Some (before_first (λ b. b == 47) (drop 2 (dirs ++ 47 ∷ last))) else None)) no,
          );
    }

module _ (text scheme rest : List ℕ) (is : text ≡ scheme ++ 58 ∷ rest) (colonless : list_any (λ b. b == 58) scheme ≡ false) (begins : is_scheme scheme ≡ true) where
  found_at : (k n : ℕ) → IsBehindSlash (path_of (before_query rest)) (suc k) → has_dots (path_of (before_query rest)) ≡ false
      → n ≡ length scheme + 1 + (length (before_query rest) - length (path_of (before_query rest))) + suc k → HasFront text n
  found_at k n b dotless e =
      let whole : List ℕ = before_query rest in
      let path : List ℕ = path_of whole in
      let r = root_by whole (starts_with nat_eq whole (codes "//")) refl in
      let dirs : List ℕ = take k path in
      let last : List ℕ = drop (suc k) path in
      let parts : path ≡ dirs ++ 47 ∷ last = path_is path k b in
      let whole_is : whole ≡ r.root ++ (dirs ++ 47 ∷ last) = r.is ∙ ap (λ (l : List ℕ). r.root ++ l) parts in
      let long : length whole ≡ length r.root + length path = ap length r.is ∙ length-append r.root path in
      let m : ℕ = length r.root + suc k in
      let front_length : length (r.root ++ (dirs ++ 47 ∷ [])) ≡ m = omega (arith, length-append r.root (dirs ++ 47 ∷ []), length-append dirs (47 ∷ []), dirs_length path k b) in
      let cut : r.root ++ (dirs ++ 47 ∷ last) ≡ (r.root ++ (dirs ++ 47 ∷ [])) ++ last = sym (append_assoc r.root (dirs ++ 47 ∷ []) last ∙ ap (λ (l : List ℕ). r.root ++ l) (append_assoc dirs (47 ∷ []) last)) in
      let inside : m ≤ length whole = omega (arith, long, b.inside) in
      let taken : take m rest ≡ r.root ++ (dirs ++ 47 ∷ []) = path_take rest m inside ∙ ap (take m) (whole_is ∙ cut) ∙ take_at (r.root ++ (dirs ++ 47 ∷ [])) last m front_length in
      let behind : drop m whole ≡ last = ap (drop m) (whole_is ∙ cut) ∙ drop_at (r.root ++ (dirs ++ 47 ∷ [])) last m front_length in
      record {
        front = scheme ++ 58 ∷ (r.root ++ (dirs ++ 47 ∷ []));
        last = drop m rest;
        is = is ∙ ap (λ (l : List ℕ). scheme ++ 58 ∷ l) (sym (take-append-drop m rest) ∙ ap (λ (l : List ℕ). l ++ drop m rest) taken) ∙ sym (append_assoc scheme (58 ∷ (r.root ++ (dirs ++ 47 ∷ []))) (drop m rest));
        end = omega (arith, e, long, length-append scheme (58 ∷ (r.root ++ (dirs ++ 47 ∷ []))), front_length);
        begins = record {
          scheme = scheme;
          root = r.root;
          dirs = dirs;
          is = refl;
          begins = begins;
          colonless = colonless;
          rooted = r.rooted dirs last parts;
          signless = (or_parts (list_any is_sign (r.root ++ dirs)) _ (sym (list_any-append is_sign (r.root ++ dirs) (47 ∷ last)) ∙ ap (list_any is_sign) (append_assoc r.root dirs (47 ∷ last) ∙ sym whole_is) ∙ before_lacks is_sign rest)).0;
          dotless = (or_parts (has_dots dirs) (has_dots last) (sym (dots_joined dirs last) ∙ ap has_dots (sym parts) ∙ dotless)).0;
        };
        ends = ap has_slash (before_drop is_sign m rest inside ∙ behind) ∙ b.last;
      }

-- what `split_once` cuts
pub colon_cut : (text : List ℕ) (r : Option (Bor (List ℕ) × Bor (List ℕ))) (x : Bor (List ℕ) × Bor (List ℕ)) → IsSplitOnceResult 58 text r → r ≡ Some x
    → (text ≡ x.0.now ++ 58 ∷ x.1.now) × (list_any (λ b. b == 58) x.0.now ≡ false)
colon_cut text r x h is =
    let parts = rw is at (split_parts 58 text r h (omega arith)) in
    (parts.0, list_any_none (λ b. b == 58) x.0.now (λ k d l. ap (λ n. n == 58) (get_or_default x.0.now k d 0 l) ∙ ne_eqb (get_or x.0.now k 0) 58 (parts.1 k l)))

-- a colon at which a scheme ends
begins_at : (scheme rest : List ℕ) → list_any (λ b. b == 58) scheme ≡ false → has_scheme (scheme ++ 58 ∷ rest) ≡ is_scheme scheme
begins_at scheme rest colonless =
    ap (λ b. b && is_scheme (before_first (λ b. b == 58) (scheme ++ 58 ∷ rest))) (list_any-append (λ b. b == 58) scheme (58 ∷ rest) ∙ or_right (list_any (λ b. b == 58) scheme) _ refl)
    ∙ ap is_scheme (before_past (λ b. b == 58) scheme (58 ∷ rest) colonless ∙ ap (λ (l : List ℕ). scheme ++ l) (before_here (λ b. b == 58) 58 rest refl) ∙ append-nil scheme)

not_among : (these : List ℕ) (c : ℕ) → list_all (λ x. not (is_scheme_character x)) these ≡ true → is_scheme_character c ≡ true → is_one_of these c ≡ false
not_among [] c h e = refl
not_among (x ∷ xs) c h e =
    let (here, rest) = and_parts (not (is_scheme_character x)) _ h in
    or_from (x == c) _ (ne_eqb x c (λ q. both_ways (is_scheme_character c) (ap is_scheme_character (sym q) ∙ not-true (is_scheme_character x) here) e)) (not_among xs c rest e)

no_control : (c : ℕ) → is_scheme_character c ≡ true → nat_le c 0x20 ≡ false
no_control c e = false_from_ne_true (nat_le c 0x20) (λ l. both_ways (is_scheme_character c) (agree_below_at is_scheme_character (λ _. false) 33 c refl (omega (arith, leb-true c 0x20 l))) e)

scheme_is_iri : (s : List ℕ) → list_all is_scheme_character s ≡ true → list_all is_iri_character (s ++ 58 ∷ []) ≡ true
scheme_is_iri [] h = refl
scheme_is_iri (c ∷ cs) h =
    let (here, rest) = and_parts (is_scheme_character c) (list_all is_scheme_character cs) h in
    and_from (is_iri_character c) _ (and_from (not (nat_le c 0x20)) _ (ap not (no_control c here)) (ap not (not_among (codes "<>\"{}|^`\\") c refl here))) (scheme_is_iri cs rest)

alone_by : (scheme : List ℕ) (b : Bool) → is_scheme scheme ≡ b → (is_scheme scheme && list_all is_iri_character (scheme ++ 58 ∷ [])) ≡ is_scheme scheme
alone_by scheme true e = (λ i. e i && scheme_is_iri scheme (scheme_characters scheme e) i) ∙ sym e
alone_by scheme false e = ap (λ b. b && list_all is_iri_character (scheme ++ 58 ∷ [])) e ∙ sym e

-- the scheme alone tells whether the text begins with one
pub scheme_told : (text : List ℕ) (r : Option (Bor (List ℕ) × Bor (List ℕ))) (x : Bor (List ℕ) × Bor (List ℕ)) → IsSplitOnceResult 58 text r → r ≡ Some x → is_absolute (x.0.now ++ codes ":") ≡ has_scheme text
scheme_told text r x h is =
    let cut = colon_cut text r x h is in
    ap (λ b. b && list_all is_iri_character (x.0.now ++ 58 ∷ [])) (begins_at x.0.now [] cut.1)
    ∙ alone_by x.0.now (is_scheme x.0.now) refl
    ∙ sym (ap has_scheme cut.0 ∙ begins_at x.0.now x.1.now cut.1)

pub no_colon_told : (text : List ℕ) (r : Option (Bor (List ℕ) × Bor (List ℕ))) → IsSplitOnceResult 58 text r → r ≡ None → has_scheme text ≡ false
no_colon_told text r h is =
    let none = rw is at (split_parts 58 text r h (omega arith)) in
    ap (λ b. b && is_scheme (before_first (λ b. b == 58) text)) (list_any_none (λ b. b == 58) text (λ k d l. ap (λ n. n == 58) (get_or_default text k d 0 l) ∙ ne_eqb (get_or text k 0) 58 (none k l)))

pub front_found : (text scheme rest whole path : List ℕ) (k n : ℕ) → text ≡ scheme ++ 58 ∷ rest → list_any (λ b. b == 58) scheme ≡ false → is_absolute (scheme ++ codes ":") ≡ true
    → whole ≡ before_query rest → path ≡ path_of whole → IsBehindSlash path k → (k ≡ 0 → ⊥) → has_dots path ≡ false
    → n ≡ length scheme + 1 + (length whole - length path) + k → HasFront text n
front_found text scheme rest whole path zero n is colonless a w p b some dotless e = absurd (some refl)
front_found text scheme rest whole path (suc k) n is colonless a w p b some dotless e =
    let same : path ≡ path_of (before_query rest) = p ∙ ap path_of w in
    found_at text scheme rest is colonless (scheme_alone scheme colonless a) k n (subst (λ t. IsBehindSlash t (suc k)) same b) (ap has_dots (sym same) ∙ dotless)
    (e ∙ (λ i. length scheme + 1 + (length (w i) - length (same i)) + suc k))

-- ---- where a text may be cut

-- behind a slash
pub front_boundary : (text : List ℕ) (n : ℕ) → IsUtf8 text → HasFront text n → IsCharBoundary text n
front_boundary text n u h =
    let b = h.begins in
    let init : List ℕ = b.scheme ++ 58 ∷ (b.root ++ b.dirs) in
    let front_is : h.front ≡ init ++ 47 ∷ [] = b.is ∙ ap (λ (l : List ℕ). b.scheme ++ 58 ∷ l) (sym (append_assoc b.root b.dirs (47 ∷ []))) ∙ sym (append_assoc b.scheme (58 ∷ (b.root ++ b.dirs)) (47 ∷ [])) in
    let text_is : text ≡ init ++ 47 ∷ h.last = h.is ∙ ap (λ (l : List ℕ). l ++ h.last) front_is ∙ append_assoc init (47 ∷ []) h.last in
    let place : length init + 1 ≡ n = sym (h.end ∙ ap length front_is ∙ length_push init 47) in
    let slash : get_or text (length init) 0 ≡ 47 = ap (λ t. get_or t (length init) 0) text_is ∙ get_or_at init 47 h.last 0 (length init) refl in
    let inside : length init < length text = omega (arith, ap length text_is, length-append init (47 ∷ h.last)) in
    subst (IsCharBoundary text) place (IsCharBoundary-after_ascii text (length init) u inside (omega (arith, slash)))

pub plain_boundary : (text : List ℕ) (n : ℕ) → IsUtf8 text → IsPlain text n → IsCharBoundary text n
plain_boundary text zero u p = IsCharBoundary-start text u
plain_boundary text (suc k) u p =
    let slash = path_get text k (omega (arith, p.behind.inside)) ∙ slash_at (before_query text) k p.behind in
    let more : k + 1 ≡ suc k = omega arith in
    subst (IsCharBoundary text) more (IsCharBoundary-after_ascii text k u (omega (arith, p.behind.inside, path_within text)) (omega (arith, slash)))
