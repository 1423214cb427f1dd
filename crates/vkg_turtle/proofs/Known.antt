-- What is known of the text of a base, where the text is cut and goes on with a reference.
use Rattle.std.proofs.Common.{◌≡◌, ◌∙◌, ◌==◌, ◌||◌, ◌&&◌, ◌++◌, ◌<◌, ◌≤◌, ◌+◌, ◌-◌, ◌⊎◌, inl, inr, ℕ, zero, suc, Bool, true, false, not, nat_lt, List, [], ◌∷◌, length, take, drop, get_or, codes, refl, sym, ap, subst, arith, append_assoc, append-nil, Option, Some, None, nat_eq, length-append, take-append-drop, take_at, eqb-true, IsUtf8, IsCharBoundary, lt-ltb, le-ltb, ltb-true, ltb-false, eq-eqb, ne_eqb}
use Rattle.std.specs.Prelude.{IfSome, if◌then◌else◌}
use Rattle.std.specs.List.{before_first, list_all, list_any, position_or_len, starts_with}
use Rattle.std.proofs.lemmas.Bool.{eqb-false, or_from}
use Rattle.std.proofs.lemmas.List.Folds.{list_any-append}
use Rattle.std.proofs.lemmas.List.Sums.{prefix_len-le-length}
use Rattle.vkg_lists.proofs.Positions.{first_here, first_later}
use Rattle.vkg_terms.specs.Iri.{has_scheme, is_absolute, is_iri_character, is_one_of, is_scheme}
use Rattle.vkg_terms.specs.Resolve.{resolve}
use Rattle.vkg_turtle.specs.declared.places.Places.{Places}
use Rattle.vkg_turtle.specs.Fronts.{AreKnown, HasFront, IsFront, IsPlain, before_fragment, before_query, has_slash, iri_length}
use Rattle.vkg_turtle.proofs.Cutting.{before_here, before_lacks, before_later, before_past}
use Rattle.vkg_turtle.proofs.Fronting.{no_sign, scheme_characters, scheme_lacks}
use Rattle.vkg_turtle.proofs.Keeping.{fragment_put, hash_free, no_fragment, query_put, still_fragment, still_query}
use Rattle.vkg_turtle.proofs.Placing.{begun, front_taken, grown_from}

abbrev is_sign : ℕ → Bool
is_sign b = is_one_of (codes "?#") b

-- ---- where a text may be cut

module _ (p : ℕ → Bool) where
  cut_is : (text : List ℕ) → before_first p text ++ drop (position_or_len p text) text ≡ text
  cut_is text = take-append-drop (position_or_len p text) text

  pub before_taken : (text : List ℕ) (n : ℕ) → n ≡ length (before_first p text) → take n text ≡ before_first p text
  before_taken text n e = ap (take n) (sym (cut_is text)) ∙ take_at (before_first p text) (drop (position_or_len p text) text) n (sym e)

  before_fits : (text : List ℕ) → length (before_first p text) ≤ length text
  before_fits text = omega (arith, length-append (before_first p text) (drop (position_or_len p text) text), ap length (cut_is text))

  -- there the text ends, or such a sign stands
  abbrev Ends : List ℕ → ℕ → Type 0
  Ends text n = (n ≡ length text) ⊎ (p (get_or text n 0) ≡ true)

  ends_by : (x : ℕ) (xs : List ℕ) (b : Bool) → p x ≡ b → Ends xs (length (before_first p xs)) → Ends (x ∷ xs) (length (before_first p (x ∷ xs)))
  ends_by x xs true e h = inr (ap (λ n. p (get_or (x ∷ xs) n 0)) (ap length (before_here p x xs e)) ∙ e)
  ends_by x xs false e (inl h) = inl (ap length (before_later p x xs e) ∙ ap suc h)
  ends_by x xs false e (inr h) = inr (ap (λ n. p (get_or (x ∷ xs) n 0)) (ap length (before_later p x xs e)) ∙ h)

  ends : (text : List ℕ) → Ends text (length (before_first p text))
  ends [] = inl refl
  ends (x ∷ xs) = ends_by x xs (p x) refl (ends xs)

  boundary_by : (text : List ℕ) (n : ℕ) → n ≤ length text → ((c : ℕ) → p c ≡ true → c < 128) → Ends text n → IsCharBoundary text n
  boundary_by text n l low (inl e) = (l, λ k m. absurd (omega (arith, e, k)))
  boundary_by text n l low (inr e) = (l, λ k m. absurd (let high : 128 ≤ get_or text n 0 = m in let small = low (get_or text n 0) e in omega (arith, small, high)))

  sign_boundary : ((c : ℕ) → p c ≡ true → c < 128) → (text : List ℕ) (n : ℕ) → n ≡ length (before_first p text) → IsCharBoundary text n
  sign_boundary low text n e = subst (IsCharBoundary text) (sym e) (boundary_by text (length (before_first p text)) (before_fits text) low (ends text))

low_by : (c : ℕ) (a b : Bool) → (63 == c) ≡ a → (35 == c) ≡ b → (a || (b || false)) ≡ true → c < 128
low_by c true b e f h = let same : 63 ≡ c = eqb-true 63 c e in omega (arith, same)
low_by c false true e f h = let same : 35 ≡ c = eqb-true 35 c f in omega (arith, same)
low_by c false false e f h = absurd (cc)

pub query_boundary : (text : List ℕ) (n : ℕ) → n ≡ length (before_query text) → IsCharBoundary text n
query_boundary text n e = sign_boundary is_sign (λ c h. low_by c (63 == c) (35 == c) refl refl h) text n e

pub fragment_boundary : (text : List ℕ) (n : ℕ) → n ≡ length (before_fragment text) → IsCharBoundary text n
fragment_boundary text n e = sign_boundary (λ b. b == 35) (λ c h. (let same : c ≡ 35 = eqb-true c 35 h in omega (arith, same))) text n e

-- ---- how far a text may stand in an IRI

abbrev outside : ℕ → Bool
outside b = not (is_iri_character b)

lower : (a n b : ℕ) (t : Bool) → nat_lt a n ≡ t → suc (if t then a else n + b) ≡ (if nat_lt (suc a) (suc n) then suc a else suc n + b)
lower a n b true e = sym (ap (λ t. if t then suc a else suc n + b) (lt-ltb (suc a) (suc n) (omega (arith, ltb-true a n e))))
lower a n b false e = (let one : suc (n + b) ≡ suc n + b = omega arith in one) ∙ sym (ap (λ t. if t then suc a else suc n + b) (le-ltb (suc a) (suc n) (omega (arith, ltb-false a n e))))

put_by : (x n : ℕ) (xs tail : List ℕ) (t : Bool) → outside x ≡ t → iri_length (take n xs ++ tail) ≡ (if nat_lt (iri_length xs) n then iri_length xs else n + iri_length tail)
    → iri_length (x ∷ (take n xs ++ tail)) ≡ (if nat_lt (iri_length (x ∷ xs)) (suc n) then iri_length (x ∷ xs) else suc n + iri_length tail)
put_by x n xs tail true e h =
    first_here outside x (take n xs ++ tail) e
    ∙ sym (ap (λ k. if nat_lt k (suc n) then k else suc n + iri_length tail) (first_here outside x xs e) ∙ ap (λ t. if t then 0 else suc n + iri_length tail) (lt-ltb 0 (suc n) (omega arith)))
put_by x n xs tail false e h =
    first_later outside x (take n xs ++ tail) e
    ∙ ap suc h
    ∙ lower (iri_length xs) n (iri_length tail) (nat_lt (iri_length xs) n) refl
    ∙ sym (ap (λ k. if nat_lt k (suc n) then k else suc n + iri_length tail) (first_later outside x xs e))

iri_put : (n : ℕ) (xs tail : List ℕ) → n ≤ length xs → iri_length (take n xs ++ tail) ≡ (if nat_lt (iri_length xs) n then iri_length xs else n + iri_length tail)
iri_put zero xs tail l = (let none : 0 + iri_length tail ≡ iri_length tail = omega arith in sym none) ∙ sym (ap (λ t. if t then iri_length xs else 0 + iri_length tail) (le-ltb (iri_length xs) 0 (omega arith)))
iri_put (suc n) [] tail l = absurd (omega (arith, l))
iri_put (suc n) (x ∷ xs) tail l = put_by x n xs tail (outside x) refl (iri_put n xs tail (omega (arith, l)))

eq_by : (a b : ℕ) (t : Bool) → (a == b) ≡ t → t ≡ (suc a == suc b)
eq_by a b true e = sym (eq-eqb (suc a) (suc b) (ap suc (eqb-true a b e)))
eq_by a b false e = sym (ne_eqb (suc a) (suc b) (λ q. eqb-false a b e (omega (arith, q))))

all_by : (x : ℕ) (xs : List ℕ) (t : Bool) → is_iri_character x ≡ t → list_all is_iri_character xs ≡ (iri_length xs == length xs) → (t && list_all is_iri_character xs) ≡ (iri_length (x ∷ xs) == suc (length xs))
all_by x xs true e h = h ∙ eq_by (iri_length xs) (length xs) (iri_length xs == length xs) refl ∙ sym (ap (λ k. k == suc (length xs)) (first_later outside x xs (ap not e)))
all_by x xs false e h = sym (ap (λ k. k == suc (length xs)) (first_here outside x xs (ap not e)) ∙ ne_eqb 0 (suc (length xs)) (λ q. omega (arith, q)))

all_iri : (text : List ℕ) → list_all is_iri_character text ≡ (iri_length text == length text)
all_iri [] = refl
all_iri (x ∷ xs) = all_by x xs (is_iri_character x) refl (all_iri xs)

pub absolute_is : (text : List ℕ) (places : Places) → AreKnown text places → (n : ℕ) → n ≡ length text → (places.has_scheme && (places.iri == n)) ≡ is_absolute text
absolute_is text places k n e = (λ i. k.scheme i && (k.iri i == e i)) ∙ ap (λ b. has_scheme text && b) (sym (all_iri text))

-- ---- behind the front

front_signless : (front : List ℕ) → IsFront front → list_any is_sign front ≡ false
front_signless front b =
    ap (list_any is_sign) b.is
    ∙ list_any-append is_sign b.scheme (58 ∷ (b.root ++ (b.dirs ++ 47 ∷ [])))
    ∙ or_from (list_any is_sign b.scheme) _ (scheme_lacks is_sign no_sign b.scheme (scheme_characters b.scheme b.begins))
    (ap (list_any is_sign) (sym (append_assoc b.root b.dirs (47 ∷ []))) ∙ list_any-append is_sign (b.root ++ b.dirs) (47 ∷ []) ∙ or_from (list_any is_sign (b.root ++ b.dirs)) false b.signless refl)

module _ (base : List ℕ) (places : Places) (k : AreKnown base places) (n : ℕ) (h : HasFront base n) (text : List ℕ) (e : ℕ) (p : IsPlain text e) where
  front_fits : n ≤ length base
  front_fits = omega (arith, h.end, ap length h.is, length-append h.front h.last)

  front_query : before_query (h.front ++ text) ≡ h.front ++ before_query text
  front_query = before_past is_sign h.front text (front_signless h.front h.begins)

  front_fragment : before_fragment (h.front ++ text) ≡ h.front ++ before_fragment text
  front_fragment = before_past (λ b. b == 35) h.front text (hash_free h.front (front_signless h.front h.begins))

  pub path_known : (new : List ℕ) → new ≡ take n base ++ text → (a b c : ℕ) → a ≡ length (before_query text) → b ≡ length (before_fragment text) → c ≡ (if nat_lt places.iri n then places.iri else n + iri_length text)
      → AreKnown new (record { has_scheme = true; front = Some (n + e); path = n + a; query = n + b; iri = c })
  path_known new q a b c u v w =
      let is : new ≡ h.front ++ text = q ∙ ap (λ (l : List ℕ). l ++ text) (front_taken base n h) in
      record {
        scheme = sym (ap has_scheme is ∙ begun h.front h.begins text);
        front = subst (λ t. HasFront t (n + e)) (sym is) (grown_from h.front h.begins text e p n h.end);
        path = (λ i. h.end i + u i) ∙ sym (length-append h.front (before_query text)) ∙ ap length (sym front_query) ∙ ap (λ t. length (before_query t)) (sym is);
        query = (λ i. h.end i + v i) ∙ sym (length-append h.front (before_fragment text)) ∙ ap length (sym front_fragment) ∙ ap (λ t. length (before_fragment t)) (sym is);
        iri = w ∙ ap (λ m. if nat_lt m n then m else n + iri_length text) k.iri ∙ sym (iri_put n base text front_fits) ∙ ap iri_length (sym q);
      }

-- ---- behind the path or the query

query_by : (x : ℕ) (xs text : List ℕ) (a b : Bool) → (x == 35) ≡ a → is_sign x ≡ b → before_query text ≡ [] → before_query (before_fragment xs ++ text) ≡ before_query xs → before_query (before_fragment (x ∷ xs) ++ text) ≡ before_query (x ∷ xs)
query_by x xs text true b e f empty h =
    let same : x ≡ 35 = eqb-true x 35 e in
    ap (λ (l : List ℕ). before_query (l ++ text)) (before_here (λ b. b == 35) x xs e) ∙ empty ∙ sym (before_here is_sign x xs (ap is_sign same))
query_by x xs text false true e f empty h =
    ap (λ (l : List ℕ). before_query (l ++ text)) (before_later (λ b. b == 35) x xs e)
    ∙ before_here is_sign x (before_fragment xs ++ text) f
    ∙ sym (before_here is_sign x xs f)
query_by x xs text false false e f empty h =
    ap (λ (l : List ℕ). before_query (l ++ text)) (before_later (λ b. b == 35) x xs e)
    ∙ before_later is_sign x (before_fragment xs ++ text) f
    ∙ ap (λ (l : List ℕ). x ∷ l) h
    ∙ sym (before_later is_sign x xs f)

query_kept : (xs text : List ℕ) → before_query text ≡ [] → before_query (before_fragment xs ++ text) ≡ before_query xs
query_kept [] text empty = empty
query_kept (x ∷ xs) text empty = query_by x xs text (x == 35) (is_sign x) refl refl empty (query_kept xs text empty)

module _ (base text : List ℕ) (empty : before_query text ≡ []) where
  query_query : before_query (before_query base ++ text) ≡ before_query base
  query_query = before_past is_sign (before_query base) text (before_lacks is_sign base) ∙ ap (λ (l : List ℕ). before_query base ++ l) empty ∙ append-nil (before_query base)

  query_fragment : before_fragment (before_query base ++ text) ≡ before_query base ++ before_fragment text
  query_fragment = before_past (λ b. b == 35) (before_query base) text (hash_free (before_query base) (before_lacks is_sign base))

  query_front : (n : ℕ) → HasFront base n → HasFront (before_query base ++ text) n
  query_front n h = record {
    front = h.front;
    last = before_query h.last ++ text;
    is = ap (λ (l : List ℕ). before_query l ++ text) h.is ∙ ap (λ (l : List ℕ). l ++ text) (before_past is_sign h.front h.last (front_signless h.front h.begins)) ∙ append_assoc h.front (before_query h.last) text;
    end = h.end;
    begins = h.begins;
    ends = ap has_slash (before_past is_sign (before_query h.last) text (before_lacks is_sign h.last) ∙ ap (λ (l : List ℕ). before_query h.last ++ l) empty ∙ append-nil (before_query h.last)) ∙ h.ends;
  }

  fragment_front : (n : ℕ) → HasFront base n → HasFront (before_fragment base ++ text) n
  fragment_front n h = record {
    front = h.front;
    last = before_fragment h.last ++ text;
    is = ap (λ (l : List ℕ). before_fragment l ++ text) h.is ∙ ap (λ (l : List ℕ). l ++ text) (before_past (λ b. b == 35) h.front h.last (hash_free h.front (front_signless h.front h.begins))) ∙ append_assoc h.front (before_fragment h.last) text;
    end = h.end;
    begins = h.begins;
    ends = ap has_slash (query_kept h.last text empty) ∙ h.ends;
  }

  front_kept : (o : Option ℕ) (new : List ℕ) → IfSome o (HasFront base) → ((n : ℕ) → HasFront base n → HasFront new n) → IfSome o (HasFront new)
  front_kept None new h f = tt
  front_kept (Some n) new h f = f n h

  module _ (places : Places) (k : AreKnown base places) (s : places.has_scheme ≡ true) where
    scheme_so : has_scheme base ≡ true
    scheme_so = sym k.scheme ∙ s

    pub query_resolved : starts_with nat_eq text (codes "?") ≡ true → (new : List ℕ) → new ≡ take places.path base ++ text → new ≡ resolve base text
    query_resolved f new q = q ∙ ap (λ (l : List ℕ). l ++ text) (before_taken is_sign base places.path k.path) ∙ sym (query_put base scheme_so text empty f)

    pub fragment_resolved : starts_with nat_eq text (codes "?") ≡ false → (new : List ℕ) → new ≡ take places.query base ++ text → new ≡ resolve base text
    fragment_resolved f new q = q ∙ ap (λ (l : List ℕ). l ++ text) (before_taken (λ b. b == 35) base places.query k.query) ∙ sym (fragment_put base scheme_so text empty f)

    pub query_known : (new : List ℕ) → new ≡ take places.path base ++ text → (b c : ℕ) → b ≡ length (before_fragment text) → c ≡ (if nat_lt places.iri places.path then places.iri else places.path + iri_length text)
        → AreKnown new (record places { query = places.path + b; iri = c })
    query_known new q b c v w =
        let is : new ≡ before_query base ++ text = q ∙ ap (λ (l : List ℕ). l ++ text) (before_taken is_sign base places.path k.path) in
        record {
          scheme = s ∙ sym (ap has_scheme is ∙ still_query base scheme_so text empty);
          front = front_kept places.front new k.front (λ n h. subst (λ t. HasFront t n) (sym is) (query_front n h));
          path = k.path ∙ ap length (sym query_query) ∙ ap (λ t. length (before_query t)) (sym is);
          query = (λ i. k.path i + v i) ∙ sym (length-append (before_query base) (before_fragment text)) ∙ ap length (sym query_fragment) ∙ ap (λ t. length (before_fragment t)) (sym is);
          iri = w ∙ ap (λ m. if nat_lt m places.path then m else places.path + iri_length text) k.iri ∙ sym (iri_put places.path base text (subst (λ m. m ≤ length base) (sym k.path) (before_fits is_sign base))) ∙ ap iri_length (sym q);
        }

    pub fragment_known : starts_with nat_eq text (codes "?") ≡ false → (new : List ℕ) → new ≡ take places.query base ++ text → (c : ℕ) → c ≡ (if nat_lt places.iri places.query then places.iri else places.query + iri_length text)
        → AreKnown new (record places { iri = c })
    fragment_known f new q c w =
        let is : new ≡ before_fragment base ++ text = q ∙ ap (λ (l : List ℕ). l ++ text) (before_taken (λ b. b == 35) base places.query k.query) in
        let hash : before_fragment (before_fragment base ++ text) ≡ before_fragment base =
        before_past (λ b. b == 35) (before_fragment base) text (before_lacks (λ b. b == 35) base) ∙ ap (λ (l : List ℕ). before_fragment base ++ l) (no_fragment text empty f) ∙ append-nil (before_fragment base) in
        record {
          scheme = s ∙ sym (ap has_scheme is ∙ still_fragment base scheme_so text empty);
          front = front_kept places.front new k.front (λ n h. subst (λ t. HasFront t n) (sym is) (fragment_front n h));
          path = k.path ∙ ap length (sym (query_kept base text empty)) ∙ ap (λ t. length (before_query t)) (sym is);
          query = k.query ∙ ap length (sym hash) ∙ ap (λ t. length (before_fragment t)) (sym is);
          iri = w ∙ ap (λ m. if nat_lt m places.query then m else places.query + iri_length text) k.iri ∙ sym (iri_put places.query base text (subst (λ m. m ≤ length base) (sym k.query) (before_fits (λ b. b == 35) base))) ∙ ap iri_length (sym q);
        }
