-- The first data error of a scan in order is the least one.
use Rattle.std.proofs.Common.{◌≡◌, refl, sym, ◌∙◌, ap, subst, ℕ, ◌+◌, ◌<◌, ◌≤◌, ◌⊎◌, inl, inr, List, [], ◌∷◌, ◌++◌, map, flat_map, Option, Some, None, Ok, Err, true, false, nat_lt, arith}
use Rattle.std.specs.Prelude.{Contains}
use Rattle.std.specs.List.{enumerate_from}
use Rattle.std.proofs.lemmas.Option.{same_Some}
use Rattle.vkg_lists.proofs.Nothing.{first_nothing}
use Rattle.vkg_lists.proofs.Numbered.{numbered_from, numbered_once}
use Rattle.vkg_lists.proofs.Results.{err_same}
use Rattle.vkg_lists.specs.Firsts.{first_of}
use Rattle.vkg_lists.proofs.Members.{Contains-none, Contains-here, Contains-there, Contains-cons_cases, Contains-flat_map}
use Rattle.vkg_schema.specs.Rows.{Row, Database, rows_of}
use Rattle.vkg_maps.specs.declared.term_map.TermMap.{TermMap}
use Rattle.vkg_maps.specs.declared.data_fault.TermFault.{TermFault}
use Rattle.vkg_maps.specs.declared.data_fault.DataFault.{DataFault}
use Rattle.vkg_maps.specs.declared.mapping.Mapping.{Mapping}
use Rattle.vkg_maps.specs.declared.mapping.TriplesMap.{TriplesMap}
use Rattle.vkg_maps.specs.Terms.{Made, term_of}
use Rattle.vkg_maps.specs.DataFaults.{fault_of, term_maps, fault_at, faults_at, row_faults, map_faults, data_faults, least_data_fault}
use Rattle.vkg_maps.specs.LeastFault.{IsDataFault, IsLeastFault, Precedes, FindsLeast}

-- ---- numbered elements

-- where the first of what all elements have is found
record Found {X A : Type 0} (F : (ℕ × X) → List A) (n : ℕ) (xs : List X) (a : A) : Type 0 where
  place : ℕ
  item : X
  is : Contains (enumerate_from n xs) (place, item)
  first : first_of (F (place, item)) ≡ Some a
  earlier : (p : ℕ × X) → Contains (enumerate_from n xs) p → p.0 < place → F p ≡ []

found : {X A : Type 0} (F : (ℕ × X) → List A) (n : ℕ) (xs : List X) (a : A) → first_of (flat_map F (enumerate_from n xs)) ≡ Some a → Found F n xs a
found F n [] a e = cc
found {X} {A} F n (x ∷ xs) a e = split (λ g. found F (n + 1) xs a g) (F (n, x)) refl e
  where
    split : (first_of (flat_map F (enumerate_from (n + 1) xs)) ≡ Some a → Found F (n + 1) xs a) → (ys : List A) → F (n, x) ≡ ys → first_of (ys ++ flat_map F (enumerate_from (n + 1) xs)) ≡ Some a → Found F n (x ∷ xs) a
    split later [] i e =
        let r = later e in
        record {
          place = r.place;
          item = r.item;
          is = Contains-there (n, x) (enumerate_from (n + 1) xs) (r.place, r.item) r.is;
          first = r.first;
          earlier = λ p c l. elim (Contains-cons_cases (n, x) (enumerate_from (n + 1) xs) p c) [ inl j ↦ ap F (sym j) ∙ i | inr d ↦ r.earlier p d l ];
        }
    split later (y ∷ ys) i e = record {
      place = n;
      item = x;
      is = Contains-here (n, x) (enumerate_from (n + 1) xs);
      first = ap first_of i ∙ e;
      earlier = λ p c l. let m : n ≤ p.0 = numbered_from n (x ∷ xs) p c in absurd (let no : ⊥ = omega (arith, l, m) in no);
    }

-- what an element before the first one has is nothing, so it has no member
no_earlier : {X A : Type 0} (F : (ℕ × X) → List A) (n : ℕ) (xs : List X) (a : A) (f : Found F n xs a) (p : ℕ × X) (b : A) → Contains (enumerate_from n xs) p → Contains (F p) b → (f.place < p.0) ⊎ (f.place ≡ p.0)
no_earlier F n xs a f p b c d = elim (nat_lt p.0 f.place) as (λ t. nat_lt p.0 f.place ≡ t → (f.place < p.0) ⊎ (f.place ≡ p.0)) [
  | true ↦ λ e. let l : p.0 < f.place = grind arith in absurd (Contains-none b (subst (λ ys. Contains ys b) (f.earlier p c l) d))
  | false ↦ λ e. let l : f.place ≤ p.0 = grind arith in elim (nat_lt f.place p.0) as (λ t. nat_lt f.place p.0 ≡ t → (f.place < p.0) ⊎ (f.place ≡ p.0)) [
    | true ↦ λ g. let m : f.place < p.0 = grind arith in inl m
    | false ↦ λ g. let m : f.place ≡ p.0 = grind arith in inr m
  ] refl
] refl

-- ---- the places of a data error

module _ (mapping : Mapping) (db : Database) where
  abbrev by_map : (ℕ × TriplesMap) → List DataFault
  by_map = map_faults mapping.base db

  abbrev by_row : ℕ → TriplesMap → (ℕ × Row) → List DataFault
  by_row k m = row_faults mapping.base (term_maps m) k

  abbrev by_term : ℕ → (ℕ × Row) → (ℕ × Option TermMap) → List DataFault
  by_term k r = faults_at mapping.base k r

  module _ (g : DataFault) (is : IsDataFault mapping db g) where
    in_term : Contains (by_term g.map (g.row, is.cells) (g.term, Some is.term_map)) g
    in_term = subst (λ made. Contains (map (fault_at g.map g.row g.term) (fault_of made)) g) (sym is.fails) (Contains-here g [])

    in_row : Contains (by_row g.map is.triples_map (g.row, is.cells)) g
    in_row = Contains-flat_map (by_term g.map (g.row, is.cells)) (enumerate_from 0 (term_maps is.triples_map)) (g.term, Some is.term_map) g is.is_term in_term

    in_map : Contains (by_map (g.map, is.triples_map)) g
    in_map = Contains-flat_map (by_row g.map is.triples_map) (enumerate_from 1 (rows_of db is.triples_map.table)) (g.row, is.cells) g is.is_row in_row

    in_all : Contains (data_faults mapping db) g
    in_all = Contains-flat_map by_map (enumerate_from 1 mapping.maps) (g.map, is.triples_map) g is.is_map in_map

  -- the fault of one term map
  one_fault : (k r t : ℕ) (row : Row) (o : Option TermMap) (f : DataFault) → first_of (by_term k (r, row) (t, o)) ≡ Some f → (term : TermMap) × (fault : TermFault) × (o ≡ Some term) × (term_of mapping.base term row ≡ Err fault) × (f ≡ fault_at k r t fault)
  one_fault k r t row None f e = cc
  one_fault k r t row (Some term) f e = split (term_of mapping.base term row) refl e
    where
      split : (made : Made) → term_of mapping.base term row ≡ made → first_of (map (fault_at k r t) (fault_of made)) ≡ Some f → (other : TermMap) × (fault : TermFault) × (Some term ≡ Some other) × (term_of mapping.base other row ≡ Err fault) × (f ≡ fault_at k r t fault)
      split (Ok x) i e = cc
      split (Err fault) i e = (term, fault, refl, i, sym (same_Some (fault_at k r t fault) f e))

  least : (f : DataFault) → least_data_fault mapping db ≡ Some f → IsLeastFault mapping db f
  least f e =
      let a = found by_map 1 mapping.maps f e in
      let b = found (by_row a.place a.item) 1 (rows_of db a.item.table) f a.first in
      let c = found (by_term a.place (b.place, b.item)) 0 (term_maps a.item) f b.first in
      let o = one_fault a.place b.place c.place b.item c.item f c.first in
      let h : DataFault = fault_at a.place b.place c.place o.1 in
      let first : (g : DataFault) → IsDataFault mapping db g → (h ≡ g) ⊎ Precedes h g = λ g is.
      elim (no_earlier by_map 1 mapping.maps f a (g.map, is.triples_map) g is.is_map (in_map g is)) [
        | inl l ↦ inr (inl l)
        | inr i ↦
            let m : is.triples_map ≡ a.item = numbered_once 1 mapping.maps (g.map, is.triples_map) (a.place, a.item) is.is_map a.is (sym i) in
            let row_is : Contains (enumerate_from 1 (rows_of db a.item.table)) (g.row, is.cells) = subst (λ m. Contains (enumerate_from 1 (rows_of db m.table)) (g.row, is.cells)) m is.is_row in
            let in_this : Contains (by_row a.place a.item (g.row, is.cells)) g = subst (λ m. Contains (by_row a.place m (g.row, is.cells)) g) m (subst (λ k. Contains (by_row k is.triples_map (g.row, is.cells)) g) (sym i) (in_row g is)) in
            elim (no_earlier (by_row a.place a.item) 1 (rows_of db a.item.table) f b (g.row, is.cells) g row_is in_this) [
              | inl l ↦ inr (inr (i, inl l))
              | inr j ↦
                  let r : is.cells ≡ b.item = numbered_once 1 (rows_of db a.item.table) (g.row, is.cells) (b.place, b.item) row_is b.is (sym j) in
                  let term_is : Contains (enumerate_from 0 (term_maps a.item)) (g.term, Some is.term_map) = subst (λ m. Contains (enumerate_from 0 (term_maps m)) (g.term, Some is.term_map)) m is.is_term in
                  let in_that : Contains (by_term a.place (b.place, b.item) (g.term, Some is.term_map)) g =
                  subst (λ row. Contains (by_term a.place (b.place, row) (g.term, Some is.term_map)) g) r
                  (subst (λ n. Contains (by_term a.place (n, is.cells) (g.term, Some is.term_map)) g) (sym j)
                  (subst (λ k. Contains (by_term k (g.row, is.cells) (g.term, Some is.term_map)) g) (sym i) (in_term g is))) in
                  elim (no_earlier (by_term a.place (b.place, b.item)) 0 (term_maps a.item) f c (g.term, Some is.term_map) g term_is in_that) [
                    | inl l ↦ inr (inr (i, inr (j, l)))
                    | inr n ↦
                        let t : Some is.term_map ≡ c.item = numbered_once 0 (term_maps a.item) (g.term, Some is.term_map) (c.place, c.item) term_is c.is (sym n) in
                        let u : is.term_map ≡ o.0 = same_Some is.term_map o.0 (t ∙ o.2) in
                        let fault : o.1 ≡ g.fault = err_same o.1 g.fault (sym o.3 ∙ ap (λ row. term_of mapping.base o.0 row) (sym r) ∙ ap (λ m. term_of mapping.base m is.cells) (sym u) ∙ is.fails) in
                        inl (λ x. record { fault = fault x; map = i x; row = j x; term = n x })
                  ]
            ]
      ] in
      let is : IsDataFault mapping db h = record {
        triples_map = a.item;
        cells = b.item;
        term_map = o.0;
        is_map = a.is;
        is_row = b.is;
        is_term = subst (λ m. Contains (enumerate_from 0 (term_maps a.item)) (c.place, m)) o.2 c.is;
        fails = o.3;
      } in
      subst (IsLeastFault mapping db) (sym o.4) (record { is = is; first = first })

  -- what the scan finds
  pub finds_least : FindsLeast mapping db (least_data_fault mapping db)
  finds_least = split (least_data_fault mapping db) refl
    where
      split : (o : Option DataFault) → least_data_fault mapping db ≡ o → FindsLeast mapping db o
      split None e = λ f is. Contains-none f (subst (λ fs. Contains fs f) (first_nothing (data_faults mapping db) e) (in_all f is))
      split (Some f) e = least f e
