-- Of the rows of a table at most one agrees with a row, or with other values, on a key.
use Rattle.std.proofs.Common.{◌≡◌, ◌∙◌, ◌⊎◌, inl, inr, ⊎_elim, ℕ, Bool, true, false, cond, true≢false, List, [], ◌∷◌, refl, sym, ap, subst, append-nil}
use Rattle.std.specs.List.{Contains, filter, flat_map, list_any}
use Rattle.std.proofs.lemmas.Bool.{cases_Bool}
use Rattle.vkg_lists.proofs.Members.{Contains-filter, Contains-from_filter, Contains-here, Contains-none, Contains-only, each_from_recursion, filter_drops, flat_map_agree_on}
use Rattle.vkg_lists.proofs.Positions.{Found, found, get_member}
use Rattle.vkg_lists.proofs.Walks.{flat_map-filter}
use Rattle.vkg_schema.specs.declared.table.Key.{Key}
use Rattle.vkg_schema.specs.Meets.{KeyHolds}
use Rattle.vkg_schema.specs.Rows.{Row, agree, has_no_null}
use Rattle.vkg_keys.specs.Keys.{AtMostOne, are_among, firsts, seconds, with_itself}
use Rattle.vkg_keys.proofs.Agreement.{agree-itself, agree-known, agree-on_key, among-itself, firsts-itself}

-- ---- lists in which at most one element passes

module _ {A : Type 0} (p : A → Bool) where
  pub none-fails : (xs : List A) → filter p xs ≡ [] → (x : A) → Contains xs x → p x ≡ false
  none-fails xs e x c = ⊎_elim (λ t. absurd (Contains-none x (subst (λ l. Contains l x) e (Contains-filter p xs x c t)))) (λ f. f) (cases_Bool (p x))

  -- the one that passes
  pub one-passes : (xs : List A) (x : A) → filter p xs ≡ x ∷ [] → Contains xs x × (p x ≡ true)
  one-passes xs x e = Contains-from_filter p xs x (subst (λ l. Contains l x) (sym e) (Contains-here x []))

  pub one-found : (xs : List A) → AtMostOne p xs → (x : A) → Contains xs x → p x ≡ true → filter p xs ≡ x ∷ []
  one-found xs (inl e) x c t = absurd (true≢false (sym t ∙ none-fails xs e x c))
  one-found xs (inr (y, e)) x c t = e ∙ ap (λ z. z ∷ []) (Contains-only y x (subst (λ l. Contains l x) e (Contains-filter p xs x c t)))

  pub one-there : (xs : List A) → AtMostOne p xs → list_any p xs ≡ true → (x : A) × Contains xs x × (p x ≡ true) × (filter p xs ≡ x ∷ [])
  one-there xs a h =
      let f = found p xs h in
      let k : Found p xs f.0 f.1 = f.2 in
      let c = get_member xs f.0 f.1 k.at in
      (f.1, c, k.passes, one-found xs a f.1 c k.passes)

-- a walk that gives something of those alone that pass
module _ {A B : Type 0} (p : A → Bool) (f : A → List B) where
  pub walk-one : (xs : List A) (x : A) → filter p xs ≡ x ∷ [] → flat_map (λ y. cond (p y) (f y) []) xs ≡ f x
  walk-one xs x e = sym (flat_map-filter f p xs) ∙ ap (flat_map f) e ∙ append-nil (f x)

  pub walk-none : (xs : List A) → filter p xs ≡ [] → flat_map (λ y. cond (p y) (f y) []) xs ≡ []
  walk-none xs e = sym (flat_map-filter f p xs) ∙ ap (flat_map f) e

  pub walk-cond : (b : Bool) (xs : List A) (x : A) → filter p xs ≡ cond b (x ∷ []) [] → flat_map (λ y. cond (p y) (f y) []) xs ≡ cond b (f x) []
  walk-cond true xs x e = walk-one xs x e
  walk-cond false xs x e = walk-none xs e

-- ---- rows under a key

-- a test that two rows pass only if they agree on the key
pub only_one : (key : Key) (p : Row → Bool) (rows : List Row) → KeyHolds key rows → ((q s : Row) → p q ≡ true → p s ≡ true → agree (with_itself key.columns) q s ≡ true) → AtMostOne p rows
only_one key p [] k h = inl refl
only_one key p (x ∷ rows) k h = by (p x) refl (only_one key p rows k.1 h)
  where
    others : p x ≡ true → (q : Row) → Contains rows q → p q ≡ false
    others e q c = ⊎_elim (λ t. absurd (true≢false (sym (h q x t e) ∙ each_from_recursion _ rows k.0 q c))) (λ f. f) (cases_Bool (p q))

    by : (b : Bool) → p x ≡ b → AtMostOne p rows → (cond b (x ∷ filter p rows) (filter p rows) ≡ []) ⊎ ((q : Row) × (cond b (x ∷ filter p rows) (filter p rows) ≡ q ∷ []))
    by true e rest = inr (x, ap (λ l. x ∷ l) (filter_drops p rows (others e)))
    by false e rest = rest

-- columns of a row, or values in the place of a row, tied to the columns of a key and maybe more
pub only_one_tied : (key : Key) (ties : List (ℕ × ℕ)) (rows : List Row) (r : Row) → are_among key.columns (seconds ties) ≡ true → KeyHolds key rows → AtMostOne (agree ties r) rows
only_one_tied key ties rows r h k = only_one key (agree ties r) rows k (λ q s e f. agree-on_key ties key.columns r q s h e f)

-- a row with a NULL among the tied columns has no partner
pub null_has_none : (ties : List (ℕ × ℕ)) (rows : List Row) (r : Row) → has_no_null (firsts ties) r ≡ false → filter (agree ties r) rows ≡ []
null_has_none ties rows r h = filter_drops (agree ties r) rows (λ q c. ⊎_elim (λ t. absurd (true≢false (sym (agree-known ties r q t) ∙ h))) (λ f. f) (cases_Bool (agree ties r q)))

-- ---- a row of the table itself

module _ (key : Key) (rows : List Row) (holds : KeyHolds key rows) where
  abbrev on_key : Row → Row → Bool
  on_key r q = agree (with_itself key.columns) r q

  -- the row that agrees with a row of the table is that row, if it has no NULL in the key
  pub only_itself : (r : Row) → Contains rows r → filter (agree (with_itself key.columns) r) rows ≡ cond (has_no_null key.columns r) (r ∷ []) []
  only_itself r c = by (has_no_null key.columns r) refl
    where
      by : (b : Bool) → has_no_null key.columns r ≡ b → filter (agree (with_itself key.columns) r) rows ≡ cond b (r ∷ []) []
      by true e = one-found (on_key r) rows (only_one_tied key (with_itself key.columns) rows r (among-itself key.columns) holds) r c (agree-itself key.columns r ∙ e)
      by false e = null_has_none (with_itself key.columns) rows r (ap (λ l. has_no_null l r) (firsts-itself key.columns) ∙ e)

  module _ {B : Type 0} where
    pub walk-itself : (f : Row → List B) (r : Row) → Contains rows r → flat_map (λ q. cond (agree (with_itself key.columns) r q) (f q) []) rows ≡ cond (has_no_null key.columns r) (f r) []
    walk-itself f r c = walk-cond (on_key r) f (has_no_null key.columns r) rows r (only_itself r c)

    cond-off : (b : Bool) (xs : List B) → (b ≡ false → xs ≡ []) → cond b xs [] ≡ xs
    cond-off true xs h = refl
    cond-off false xs h = sym (h refl)

    null-off : (f : Row → List B) (r : Row) → (agree (with_itself key.columns) r r ≡ false → f r ≡ []) → has_no_null key.columns r ≡ false → f r ≡ []
    null-off f r h e = h (agree-itself key.columns r ∙ e)

    -- a walk that gives nothing of rows that do not agree with the row
    pub walk-agreeing : (f : Row → List B) (r : Row) → Contains rows r → ((q : Row) → Contains rows q → agree (with_itself key.columns) r q ≡ false → f q ≡ []) → flat_map f rows ≡ f r
    walk-agreeing f r c h =
        flat_map_agree_on f (λ q. cond (on_key r q) (f q) []) rows (λ q d. sym (cond-off (on_key r q) (f q) (h q d)))
        ∙ walk-itself f r c
        ∙ cond-off (has_no_null key.columns r) (f r) (null-off f r (h r c))
