-- The least place over things that are looked at one by one is the first place row by row.
use Rattle.std.proofs.Common.{◌≡◌, ◌∙◌, ◌+◌, ◌<◌, ◌≤◌, ◌++◌, ℕ, Bool, true, false, List, [], ◌∷◌, Option, Some, None, option_map, if◌then◌else◌, refl, ap, subst, arith, length, length-append, nat_lt, le-ltb, lt-ltb, map}
use Rattle.std.specs.Prelude.{IfSome, slice_get}
use Rattle.std.specs.List.{enumerate_from, flat_map, position_from, zip}
use Rattle.std.specs.Option.{option_or}
use Rattle.std.proofs.lemmas.Option.{IfSome_then}
use Rattle.vkg_schema.specs.declared.table.Table.{Table}
use Rattle.vkg_schema.specs.Rows.{Row}
use Rattle.vkg_tables.specs.Checks.{places_where, table_fault, with_before}
use Rattle.vkg_tables.specs.Firsts.{earlier, first_after}
use Rattle.vkg_tables.specs.declared.fault.TableFault.{TableFault}

-- each thing has a row or none: the least row, and the number of the first thing that has it
abbrev pub least_place : {X : Type 0} → (X → Option ℕ) → ℕ → List X → Option (ℕ × ℕ)
least_place row_of n [] = None
least_place row_of n (x ∷ xs) = earlier (option_map (λ r. (r, n)) (row_of x)) (least_place row_of (n + 1) xs)

-- the first table with a place
abbrev pub first_table : ℕ → (Table → List Row → Option (ℕ × ℕ)) → ℕ → List Table → List (List Row) → Option TableFault
first_table check place_of n [] dbs = None
first_table check place_of n (t ∷ ts) [] = None
first_table check place_of n (t ∷ ts) (rows ∷ dbs) = option_or (option_map (table_fault check n) (place_of t rows)) (first_table check place_of (n + 1) ts dbs)

abbrev or_later : Option ℕ → ℕ → Option (ℕ × ℕ) → Option (ℕ × ℕ)
or_later (Some k) m rest = Some (m, k)
or_later None m rest = rest

-- the first row at which one of the things fails, and the first such thing
abbrev row_major : {X A : Type 0} → (X → List A → A → Bool) → List X → List A → List A → Option (ℕ × ℕ)
row_major p xs before [] = None
row_major p xs before (r ∷ rs) = or_later (position_from (λ x. p x before r) 1 xs) (length before + 1) (row_major p xs (before ++ r ∷ []) rs)

abbrev AtLeast : ℕ → Option ℕ → Type 0
AtLeast m o = IfSome o (λ n. m ≤ n)

abbrev FromRow : ℕ → Option (ℕ × ℕ) → Type 0
FromRow m o = IfSome o (λ p. m ≤ p.0)

module _ {A : Type 0} (p : List A → A → Bool) where
  after-least : (before rows : List A) → AtLeast (length before + 1) (first_after p before rows)
  after-least before [] = tt
  after-least before (r ∷ rs) = by (p before r) (after-least (before ++ r ∷ []) rs)
    where
      by : (b : Bool) → AtLeast (length (before ++ r ∷ []) + 1) (first_after p (before ++ r ∷ []) rs) → AtLeast (length before + 1) (if b then Some (length before + 1) else first_after p (before ++ r ∷ []) rs)
      by true h = omega arith
      by false h = IfSome_then (first_after p (before ++ r ∷ []) rs) h (λ k l. omega (arith, l, length-append before (r ∷ [])))

earlier-first : (m k : ℕ) (o : Option (ℕ × ℕ)) → FromRow m o → earlier (Some (m, k)) o ≡ Some (m, k)
earlier-first m k None h = refl
earlier-first m k (Some b) h = rw (le-ltb b.0 m h) refl

earlier-second : (m k : ℕ) (o : Option ℕ) (n : ℕ) → AtLeast (m + 1) o → earlier (option_map (λ r. (r, n)) o) (Some (m, k)) ≡ Some (m, k)
earlier-second m k None n h = refl
earlier-second m k (Some r) n h = let less : m < r = omega (arith, h) in rw (lt-ltb m r less) refl

from-earlier : (m : ℕ) (a b : Option (ℕ × ℕ)) → FromRow m a → FromRow m b → FromRow m (earlier a b)
from-earlier m None b h k = k
from-earlier m (Some a) None h k = h
from-earlier m (Some a) (Some b) h k = by (nat_lt b.0 a.0)
  where
    by : (c : Bool) → FromRow m (if c then Some b else Some a)
    by true = k
    by false = h

from-map : (m n : ℕ) (o : Option ℕ) → AtLeast m o → FromRow m (option_map (λ r. (r, n)) o)
from-map m n None h = tt
from-map m n (Some r) h = h

module _ {X : Type 0} where
  from-least : (m : ℕ) (f : X → Option ℕ) → ((x : X) → AtLeast m (f x)) → (n : ℕ) (xs : List X) → FromRow m (least_place f n xs)
  from-least m f h n [] = tt
  from-least m f h n (x ∷ xs) = from-earlier m _ _ (from-map m n (f x) (h x)) (from-least m f h (n + 1) xs)

  none-least : (f : X → Option ℕ) → ((x : X) → f x ≡ None) → (n : ℕ) (xs : List X) → least_place f n xs ≡ None
  none-least f h n [] = refl
  none-least f h n (x ∷ xs) = rw (h x) (none-least f h (n + 1) xs)

  -- some fail at row m, and the others later
  split-row : (q : X → Bool) (m : ℕ) (g : X → Option ℕ) → ((x : X) → AtLeast (m + 1) (g x)) → (n : ℕ) (xs : List X)
      → least_place (λ x. if q x then Some m else g x) n xs ≡ or_later (position_from q n xs) m (least_place g n xs)
  split-row q m g h n [] = refl
  split-row q m g h n (x ∷ xs) = by (q x) (split-row q m g h (n + 1) xs)
    where
      here : (y : X) (b : Bool) → AtLeast m (if b then Some m else g y)
      here y true = omega arith
      here y false = IfSome_then (g y) (h y) (λ k l. omega (arith, l))

      rest : Option (ℕ × ℕ)
      rest = least_place (λ y. if q y then Some m else g y) (n + 1) xs

      later : (o : Option ℕ) → rest ≡ or_later o m (least_place g (n + 1) xs)
          → earlier (option_map (λ r. (r, n)) (g x)) rest ≡ or_later o m (earlier (option_map (λ r. (r, n)) (g x)) (least_place g (n + 1) xs))
      later None e = ap (earlier (option_map (λ r. (r, n)) (g x))) e
      later (Some k) e = ap (earlier (option_map (λ r. (r, n)) (g x))) e ∙ earlier-second m k (g x) n (h x)

      by : (b : Bool) → rest ≡ or_later (position_from q (n + 1) xs) m (least_place g (n + 1) xs)
          → earlier (option_map (λ r. (r, n)) (if b then Some m else g x)) rest
          ≡ or_later (if b then Some n else position_from q (n + 1) xs) m (earlier (option_map (λ r. (r, n)) (g x)) (least_place g (n + 1) xs))
      by true e = earlier-first m n rest (from-least m (λ y. if q y then Some m else g y) (λ y. here y (q y)) (n + 1) xs)
      by false e = later (position_from q (n + 1) xs) e

module _ {X A : Type 0} (p : X → List A → A → Bool) (xs : List X) where
  least-row_major : (before rows : List A) → least_place (λ x. first_after (p x) before rows) 1 xs ≡ row_major p xs before rows
  least-row_major before [] = none-least (λ x. first_after (p x) before []) (λ x. refl) 1 xs
  least-row_major before (r ∷ rs) =
      split-row (λ x. p x before r) (length before + 1) (λ x. first_after (p x) (before ++ r ∷ []) rs)
      (λ x. subst (λ n. AtLeast (n + 1) (first_after (p x) (before ++ r ∷ []) rs)) (length-append before (r ∷ [])) (after-least (p x) (before ++ r ∷ []) rs)) 1 xs
      ∙ ap (or_later (position_from (λ x. p x before r) 1 xs) (length before + 1)) (least-row_major (before ++ r ∷ []) rs)

-- ---- the first of the places
module _ {X : Type 0} (q : X → Bool) (m : ℕ) where
  first-number : (n : ℕ) (xs : List X) (rest : List (ℕ × ℕ))
      → or_later (position_from q n xs) m (slice_get rest 0) ≡ slice_get (flat_map (λ x. if q x.1 then (m, x.0) ∷ [] else []) (enumerate_from n xs) ++ rest) 0
  first-number n [] rest = refl
  first-number n (x ∷ xs) rest = by (q x) (first-number (n + 1) xs rest)
    where
      more : List (ℕ × ℕ)
      more = flat_map (λ x. if q x.1 then (m, x.0) ∷ [] else []) (enumerate_from (n + 1) xs)

      by : (b : Bool) → or_later (position_from q (n + 1) xs) m (slice_get rest 0) ≡ slice_get (more ++ rest) 0
          → or_later (if b then Some n else position_from q (n + 1) xs) m (slice_get rest 0)
          ≡ slice_get (((if b then (m, n) ∷ [] else []) ++ more) ++ rest) 0
      by true e = refl
      by false e = e

module _ {X A : Type 0} (p : X → List A → A → Bool) (xs : List X) where
  row_major-first : (before rows : List A)
      → row_major p xs before rows ≡ slice_get (flat_map (λ r. flat_map (λ x. if p x.1 r.0 r.1 then (length r.0 + 1, x.0) ∷ [] else []) (enumerate_from 1 xs)) (with_before before rows)) 0
  row_major-first before [] = refl
  row_major-first before (r ∷ rs) =
      ap (or_later (position_from (λ x. p x before r) 1 xs) (length before + 1)) (row_major-first (before ++ r ∷ []) rs)
      ∙ first-number (λ x. p x before r) (length before + 1) 1 xs _

  pub least_place-first : (rows : List A) → least_place (λ x. first_after (p x) [] rows) 1 xs ≡ slice_get (places_where p xs rows) 0
  least_place-first rows = least-row_major p xs [] rows ∙ row_major-first [] rows

-- ---- the first of the tables
first-map : {A : Type 0} (f : A → TableFault) (xs : List A) (rest : List TableFault) → option_or (option_map f (slice_get xs 0)) (slice_get rest 0) ≡ slice_get (map f xs ++ rest) 0
first-map f [] rest = refl
first-map f (x ∷ xs) rest = refl

module _ (check : ℕ) (places : Table → List Row → List (ℕ × ℕ)) where
  pub tables-first : (n : ℕ) (ts : List Table) (dbs : List (List Row))
      → first_table check (λ t rows. slice_get (places t rows) 0) n ts dbs ≡ slice_get (flat_map (λ t. map (table_fault check t.0) (places t.1.0 t.1.1)) (enumerate_from n (zip ts dbs))) 0
  tables-first n [] dbs = refl
  tables-first n (t ∷ ts) [] = refl
  tables-first n (t ∷ ts) (rows ∷ dbs) =
      ap (option_or (option_map (table_fault check n) (slice_get (places t rows) 0))) (tables-first (n + 1) ts dbs)
      ∙ first-map (table_fault check n) (places t rows) _
