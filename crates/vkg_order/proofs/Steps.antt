-- What a keeper does with one entry more.
use Rattle.std.proofs.Common.{◌≡◌, ℕ, suc, ◌+◌, ◌-◌, ◌<◌, ◌≤◌, ◌⊎◌, inl, inr, Bool, true, false, cond, ⊎_elim, List, [], ◌∷◌, ◌++◌, map, length, take, drop, get_or, Option, Some, None, refl, sym, ap, subst, ◌∙◌, arith, append_assoc, nat_le, nat_lt, is_lt, Ordering, length-append, length-drop}
use Rattle.std.specs.List.{AllByRecursion, AllWithin, Contains, IsDistinct}
use Rattle.std.specs.List.Sorted.{IsPermutation}
use Rattle.std.specs.Str.{bytes_eq}
use Rattle.std.proofs.lemmas.Bool.Decides.{nat_tests}
use Rattle.std.proofs.lemmas.List.{get_or-drop, get_or-take, length-map, length-take-le, map-append, take_more}
use Rattle.std.proofs.lemmas.List.Elements.{Contains-append_cases, Contains-append_left, Contains-append_right}
use Rattle.std.proofs.lemmas.List.Sorted.{IsPermutation-map, IsPermutation-middle, IsPermutation-sym, IsPermutation-to_front, IsPermutation-trans}
use Rattle.std.proofs.lemmas.Map.Keys.{IsDistinct-IsPermutation}
use Rattle.std.proofs.Math.Seq.{take-length}
use Rattle.vkg_lists.specs.Ascending.{put_in}
use Rattle.vkg_lists.specs.Lists.{without_last}
use Rattle.vkg_lists.proofs.Counts.{eq_comm}
use Rattle.vkg_lists.proofs.Distinct.{IsDistinct-cons, IsDistinct-head, IsDistinct-nil, IsDistinct-tail, distinct_itself}
use Rattle.vkg_lists.proofs.Members.{Contains-cons_cases, Contains-from_map, Contains-here, Contains-none, each_from_recursion, recursion_append, recursion_left, recursion_right}
use Rattle.vkg_lists.proofs.Texts.{bytes_test}
use Rattle.vkg_order.specs.declared.modifiers.Modifiers.{Modifiers}
use Rattle.vkg_order.specs.Entries.{Entry, entry_cmp}
use Rattle.vkg_order.specs.Kept.{IsReady, Rises, StandFor, has_room, is_within, once_behind, within_slice, without_line}
use Rattle.vkg_order.specs.Listed.{IsWithin, once}
use Rattle.vkg_order.proofs.Ordered.{one_way, put-first, put-rises}
use Rattle.vkg_order.proofs.Standing.{stand-bag, stand-more, stand-repeat, stand-room, stand-trans}
use Rattle.vkg_order.proofs.Totals.{entry-total}

-- ---- lists

all-from_index : {A : Type 0} (P : A → Type 0) (xs : List A) → ((k : ℕ) (d : A) → k < length xs → P (get_or xs k d)) → AllByRecursion P xs
all-from_index P [] h = tt
all-from_index P (x ∷ xs) h = (h 0 x (omega arith), all-from_index P xs (λ k d l. h (suc k) d (omega arith)))

pub all-front : {A : Type 0} (P : A → Type 0) (xs : List A) (n : ℕ) → n ≤ length xs → AllWithin P xs 0 n → AllByRecursion P (take n xs)
all-front P xs n fits h = all-from_index P (take n xs) (λ k d l. let m : k < n = omega (arith, l, length-take-le n xs fits) in subst P (sym (get_or-take n xs k d m)) (h k d (omega arith) m))

pub all-back : {A : Type 0} (P : A → Type 0) (xs : List A) (n : ℕ) → n ≤ length xs → AllWithin P xs n (length xs) → AllByRecursion P (drop n xs)
all-back P xs n fits h = all-from_index P (drop n xs) (λ k d l. subst P (sym (get_or-drop n xs k d)) (h (n + k) d (omega arith) (omega (arith, l, length-drop n xs))))

-- a list that is not empty is all but the last, and the last
last-of : {A : Type 0} (xs : List A) → 0 < length xs → (x : A) × (xs ≡ without_last xs ++ x ∷ [])
last-of [] h = absurd (omega arith)
last-of (x ∷ xs) h =
    let n : length (x ∷ xs) - 1 + 1 ≡ length (x ∷ xs) = omega arith in
    (get_or (x ∷ xs) (length (x ∷ xs) - 1) x, sym (take-length (x ∷ xs)) ∙ ap (λ k. take k (x ∷ xs)) (sym n) ∙ take_more (x ∷ xs) (length (x ∷ xs) - 1) x (omega arith))

module _ {A : Type 0} (cmp : A → A → Ordering) where
  rises-drop : (xs : List A) (x : A) (ys : List A) → Rises cmp (xs ++ x ∷ ys) → Rises cmp (xs ++ ys)
  rises-drop [] x ys h = h.1
  rises-drop (w ∷ xs) x ys h =
      let P = λ (y : A). is_lt (cmp y w) ≡ false in
      (recursion_append P xs ys (recursion_left P xs (x ∷ ys) h.0) (recursion_right P xs (x ∷ ys) h.0).1, rises-drop xs x ys h.1)

  rises-front : (xs ys : List A) → Rises cmp (xs ++ ys) → Rises cmp xs
  rises-front [] ys h = tt
  rises-front (x ∷ xs) ys h = (recursion_left (λ y. is_lt (cmp y x) ≡ false) xs ys h.0, rises-front xs ys h.1)

  rises-last : (xs : List A) (y : A) → Rises cmp (xs ++ y ∷ []) → (x : A) → Contains xs x → is_lt (cmp y x) ≡ false
  rises-last [] y h x c = absurd (Contains-none x c)
  rises-last (w ∷ xs) y h x c = ⊎_elim (λ e. subst (λ z. is_lt (cmp y z) ≡ false) e (recursion_right (λ z. is_lt (cmp z w) ≡ false) xs (y ∷ []) h.0).0) (λ d. rises-last xs y h.1 x d) (Contains-cons_cases w xs x c)

abbrev pub line_of : Entry → List ℕ
line_of e = e.line

distinct-bag : (es fs : List Entry) → IsPermutation es fs → IsDistinct bytes_eq (map line_of es) → IsDistinct bytes_eq (map line_of fs)
distinct-bag es fs p = IsDistinct-IsPermutation bytes_eq (eq_comm bytes_test) (map line_of es) (map line_of fs) (IsPermutation-map line_of es fs p)

distinct-front : (us vs : List (List ℕ)) → IsDistinct bytes_eq (us ++ vs) → IsDistinct bytes_eq us
distinct-front [] vs d = IsDistinct-nil bytes_eq
distinct-front (u ∷ us) vs d = IsDistinct-cons bytes_eq u us (λ y c. IsDistinct-head bytes_eq u (us ++ vs) d y (Contains-append_left us vs y c)) (distinct-front us vs (IsDistinct-tail bytes_eq u (us ++ vs) d))

-- ---- what goes where a line is there already

-- no entry has the line; or one has, and goes
abbrev Gone : List ℕ → List Entry → List Entry → Type 0
Gone line es left =
    ((left ≡ es) × ((f : Entry) → Contains es f → bytes_eq f.line line ≡ false))
    ⊎ ((f : Entry) × (front : List Entry) × (back : List Entry) × (es ≡ front ++ f ∷ back) × (left ≡ front ++ back) × (f.line ≡ line))

gone : (line : List ℕ) (es : List Entry) → Gone line es (without_line line es)
gone line [] = inl (refl, λ f c. absurd (Contains-none f c))
gone line (e ∷ es) = by (gone line es) (bytes_eq e.line line) refl
  where
    more : bytes_eq e.line line ≡ false → Gone line es (without_line line es) → Gone line (e ∷ es) (e ∷ without_line line es)
    more h (inl (s, n)) = inl (ap (λ l. e ∷ l) s, λ f c. ⊎_elim (λ q. subst (λ (g : Entry). bytes_eq g.line line ≡ false) q h) (λ d. n f d) (Contains-cons_cases e es f c))
    more h (inr (f, front, back, s, t, q)) = inr (f, e ∷ front, back, ap (λ l. e ∷ l) s, ap (λ l. e ∷ l) t, q)

    by : Gone line es (without_line line es) → (b : Bool) → bytes_eq e.line line ≡ b → Gone line (e ∷ es) (cond b es (e ∷ without_line line es))
    by rest true h = inr (e, [], es, refl, refl, (bytes_test.decides e.line line).0 h)
    by rest false h = more h rest

module _ (m : Modifiers) where
  abbrev cmp : Entry → Entry → Ordering
  cmp = entry_cmp m.directions

  abbrev IsBelow : Entry → Entry → Type 0
  IsBelow x e = is_lt (cmp e x) ≡ true

  abbrev IsNotBelow : Entry → Entry → Type 0
  IsNotBelow x e = is_lt (cmp e x) ≡ false

  -- lines of which each is there once
  pub once-itself : (es : List Entry) → (m.distinct ≡ true → IsDistinct bytes_eq (map line_of es)) → once m.distinct (map line_of es) ≡ map line_of es
  once-itself es h = by m.distinct h
    where
      by : (b : Bool) → (b ≡ true → IsDistinct bytes_eq (map line_of es)) → once b (map line_of es) ≡ map line_of es
      by true h = distinct_itself bytes_eq (map line_of es) (h refl)
      by false h = refl

  once-long : (es : List Entry) → (m.distinct ≡ true → IsDistinct bytes_eq (map line_of es)) → length (once m.distinct (map line_of es)) ≡ length es
  once-long es h = ap length (once-itself es h) ∙ length-map es line_of

  -- an entry in its place
  put-split : (x : Entry) (front back : List Entry) → AllByRecursion (IsBelow x) front → AllByRecursion (IsNotBelow x) back → put_in cmp x (front ++ back) ≡ front ++ x ∷ back
  put-split x [] back below above = put-first (entry-total m.directions) x back above
  put-split x (e ∷ front) back below above = rw below.0 (ap (λ l. e ∷ l) (put-split x front back below.1 above))

  module _ (x : Entry) (front back : List Entry) (below : AllByRecursion (IsBelow x) front) (above : AllByRecursion (IsNotBelow x) back) (r : IsReady m (front ++ back)) where
    abbrev old : List Entry
    old = front ++ back

    abbrev entered : List Entry
    entered = front ++ x ∷ back

    entered-bag : IsPermutation (x ∷ old) entered
    entered-bag = IsPermutation-sym _ _ (IsPermutation-middle front x back)

    offered-bag : IsPermutation (x ∷ old) (old ++ x ∷ [])
    offered-bag = IsPermutation-sym _ _ (IsPermutation-to_front old x)

    -- no line is left for it
    pub step-no_room : has_room m.slice (length front) ≡ false → StandFor m old (old ++ x ∷ [])
    step-no_room h = by m.slice.limit refl h
      where
        not_above : (f : Entry) → Contains front f → is_lt (cmp x f) ≡ false
        not_above f c = one_way (entry-total m.directions) f x (each_from_recursion (IsBelow x) front below f c)

        lines_once : m.distinct ≡ true → IsDistinct bytes_eq (map line_of front)
        lines_once d = distinct-front (map line_of front) (map line_of back) (subst (IsDistinct bytes_eq) (map-append line_of front back) (r.once d))

        by : (limit : Option ℕ) → m.slice.limit ≡ limit → has_room m.slice (length front) ≡ false → StandFor m old (old ++ x ∷ [])
        by None e k = let f : has_room m.slice (length front) ≡ true = rw e refl in cc
        by (Some n) e k =
            let full : nat_lt (length front) (m.slice.offset + n) ≡ false = rw e at k in
            let long : m.slice.offset + n ≤ length (once m.distinct (map line_of front)) = let q = once-long front lines_once in let g : m.slice.offset + n ≤ length front = grind (arith, nat_tests) in omega (arith, q, g) in
            stand-trans m old (x ∷ old) (old ++ x ∷ []) (stand-more m front (x ∷ front) back (stand-room m n e x front not_above long)) (stand-bag m _ _ offered-bag)

    -- its line is there already
    pub step-repeat : m.distinct ≡ true → (f : Entry) → Contains front f → f.line ≡ x.line → StandFor m old (old ++ x ∷ [])
    step-repeat d f c e =
        stand-trans m old (x ∷ old) (old ++ x ∷ [])
        (stand-repeat m d x f old (Contains-append_left front back f c) (one_way (entry-total m.directions) f x (each_from_recursion (IsBelow x) front below f c)) e)
        (stand-bag m _ _ offered-bag)

    module _ (new : m.distinct ≡ true → (f : Entry) → Contains front f → bytes_eq f.line x.line ≡ false) where
      abbrev cleaned : List Entry
      cleaned = front ++ x ∷ once_behind m.distinct x.line back

      entered-rises : Rises cmp entered
      entered-rises = subst (Rises cmp) (put-split x front back below above) (put-rises (entry-total m.directions) x old r.rises)

      entered-stands : StandFor m entered (old ++ x ∷ [])
      entered-stands = stand-bag m _ _ (IsPermutation-trans _ _ _ (IsPermutation-sym _ _ entered-bag) offered-bag)

      -- what holds once the entry is there, and none behind it has its line
      pub record Entered (held : List Entry) : Type 0 where
        pub stands : StandFor m held (old ++ x ∷ [])
        pub ready : IsReady m held
        pub fewer : length held ≤ length old + 1
        pub some : 0 < length held

      plainly : (b : Bool) → m.distinct ≡ b → b ≡ false → Entered entered
      plainly b e f = record {
        stands = entered-stands;
        ready = record { rises = entered-rises; once = λ d. cc };
        fewer = omega (arith, length-append front back, length-append front (x ∷ back));
        some = omega (arith, length-append front (x ∷ back));
      }

      cleanly : m.distinct ≡ true → (left : List Entry) → Gone x.line back left → Entered (front ++ x ∷ left)
      cleanly d left (inl (s, n)) = subst (λ l. Entered (front ++ x ∷ l)) (sym s) (record {
        stands = entered-stands;
        ready = record {
          rises = entered-rises;
          once = λ _. distinct-bag (x ∷ old) entered entered-bag (IsDistinct-cons bytes_eq x.line (map line_of old) (λ u c. let q = Contains-from_map line_of old u c in subst (λ v. bytes_eq x.line v ≡ false) q.2 (eq_comm bytes_test x.line (line_of q.0) ∙ ⊎_elim (λ i. new d q.0 i) (λ i. n q.0 i) (Contains-append_cases front back q.0 q.1))) (r.once d));
        };
        fewer = omega (arith, length-append front back, length-append front (x ∷ back));
        some = omega (arith, length-append front (x ∷ back));
      })
      cleanly d left (inr (f, some, more, s, t, q)) = subst (λ l. Entered (front ++ x ∷ l)) (sym t) (record {
        stands = stand-trans m _ entered _ (stand-trans m _ (f ∷ (front ++ x ∷ (some ++ more))) _
            (stand-repeat m d f x (front ++ x ∷ (some ++ more)) (Contains-append_right front (x ∷ (some ++ more)) x (Contains-here x (some ++ more))) f_not_below (sym q))
            (stand-bag m _ _ taken)) entered-stands;
        ready = record {
          rises = subst (Rises cmp) (append_assoc front (x ∷ some) more) (rises-drop cmp (front ++ x ∷ some) f more (subst (Rises cmp) shape entered-rises));
          once = λ _. distinct-bag (x ∷ (front ++ (some ++ more))) (front ++ x ∷ (some ++ more)) (IsPermutation-sym _ _ (IsPermutation-middle front x (some ++ more)))
              (subst (λ u. IsDistinct bytes_eq (u ∷ map line_of (front ++ (some ++ more)))) q (distinct-bag old (f ∷ (front ++ (some ++ more))) old_taken (r.once d)));
        };
        fewer = omega (arith, ap length s, length-append front back, length-append some (f ∷ more), length-append some more, length-append front (x ∷ (some ++ more)));
        some = omega (arith, length-append front (x ∷ (some ++ more)));
      })
        where
          f_not_below : is_lt (cmp f x) ≡ false
          f_not_below = each_from_recursion (IsNotBelow x) back above f (subst (λ l. Contains l f) (sym s) (Contains-append_right some (f ∷ more) f (Contains-here f more)))

          shape : entered ≡ (front ++ x ∷ some) ++ f ∷ more
          shape = ap (λ l. front ++ x ∷ l) s ∙ sym (append_assoc front (x ∷ some) (f ∷ more))

          taken : IsPermutation (f ∷ (front ++ x ∷ (some ++ more))) entered
          taken = subst (IsPermutation (f ∷ (front ++ x ∷ (some ++ more)))) (sym shape)
              (subst (λ l. IsPermutation (f ∷ l) ((front ++ x ∷ some) ++ f ∷ more)) (append_assoc front (x ∷ some) more) (IsPermutation-sym _ _ (IsPermutation-middle (front ++ x ∷ some) f more)))

          old_taken : IsPermutation old (f ∷ (front ++ (some ++ more)))
          old_taken = subst (λ l. IsPermutation l (f ∷ (front ++ (some ++ more)))) (append_assoc front some (f ∷ more) ∙ ap (λ l. front ++ l) (sym s))
              (subst (λ l. IsPermutation ((front ++ some) ++ f ∷ more) (f ∷ l)) (append_assoc front some more) (IsPermutation-middle (front ++ some) f more))

      pub step-cleaned : Entered cleaned
      step-cleaned = by m.distinct refl
        where
          by : (b : Bool) → m.distinct ≡ b → Entered (front ++ x ∷ once_behind b x.line back)
          by true e = cleanly e (without_line x.line back) (gone x.line back)
          by false e = plainly false e refl

      -- the last goes where there is no room for it
      pub record Stepped (held : List Entry) : Type 0 where
        pub stands : StandFor m held (old ++ x ∷ [])
        pub ready : IsReady m held
        pub within : IsWithin m.slice (length held)

      pub step-within : IsWithin m.slice (length old) → Stepped (within_slice m.slice cleaned)
      step-within w = by (is_within m.slice (length cleaned)) refl
        where
          e : Entered cleaned
          e = step-cleaned

          fits : (limit : Option ℕ) → m.slice.limit ≡ limit → is_within m.slice (length cleaned) ≡ true → IsWithin m.slice (length cleaned)
          fits None l h = rw l tt
          fits (Some n) l h = let k : nat_le (length cleaned) (m.slice.offset + n) ≡ true = rw l at h in rw l (let g : length cleaned ≤ m.slice.offset + n = grind (arith, nat_tests) in g)

          cut : (limit : Option ℕ) → m.slice.limit ≡ limit → is_within m.slice (length cleaned) ≡ false → Stepped (without_last cleaned)
          cut None l h = let f : is_within m.slice (length cleaned) ≡ true = rw l refl in cc
          cut (Some n) l h =
              let q = last-of cleaned e.some in
              let kept = without_last cleaned in
              let long : length kept + 1 ≡ length cleaned = omega (arith, ap length q.1, length-append kept (q.0 ∷ [])) in
              let rises : Rises cmp (kept ++ q.0 ∷ []) = subst (Rises cmp) q.1 e.ready.rises in
              let lines_once : m.distinct ≡ true → IsDistinct bytes_eq (map line_of kept) = λ d. distinct-front (map line_of kept) (map line_of (q.0 ∷ [])) (subst (IsDistinct bytes_eq) (ap (map line_of) q.1 ∙ map-append line_of kept (q.0 ∷ [])) (e.ready.once d)) in
              let full : nat_le (length cleaned) (m.slice.offset + n) ≡ false = rw l at h in
              let enough : m.slice.offset + n ≤ length kept = let g : m.slice.offset + n < length cleaned = grind (arith, nat_tests) in omega (arith, g, long) in
              let old_fits : length old ≤ m.slice.offset + n = rw l at w in
              record {
                stands = stand-trans m kept cleaned _
                    (subst (StandFor m kept) (sym q.1) (stand-trans m kept (q.0 ∷ kept) (kept ++ q.0 ∷ []) (stand-room m n l q.0 kept (rises-last cmp kept q.0 rises) (omega (arith, enough, once-long kept lines_once))) (stand-bag m _ _ (IsPermutation-sym _ _ (IsPermutation-to_front kept q.0)))))
                    e.stands;
                ready = record { rises = rises-front cmp kept (q.0 ∷ []) rises; once = lines_once };
                within = rw l (let g : length kept ≤ m.slice.offset + n = let s = e.fewer in omega (arith, s, long, old_fits) in g);
              }

          by : (b : Bool) → is_within m.slice (length cleaned) ≡ b → Stepped (cond b cleaned (without_last cleaned))
          by true h = record { stands = e.stands; ready = e.ready; within = fits m.slice.limit refl h }
          by false h = cut m.slice.limit refl h
