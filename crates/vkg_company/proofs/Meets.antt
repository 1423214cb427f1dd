-- The rows of the company meet its schema.
use Rattle.std.proofs.Common.{◌≡◌, ◌≢◌, ◌∙◌, ◌+◌, ◌%◌, ◌/◌, ◌≤◌, ◌<◌, ◌^◌, ◌++◌, ◌&&◌, ℕ, zero, suc, Bool, true, false, List, [], ◌∷◌, map, if◌then◌else◌, refl, sym, ap, arith, codes, subst, decimal, lit<, Some, length}
use Rattle.std.specs.Prelude.{IsTrue, IsFalse}
use Rattle.std.specs.List.{AllByRecursion, AllZip, list_any, range_with_len}
use Rattle.std.specs.Str.{bytes_eq, IsAscii}
use Rattle.std.proofs.Math.Nat.{mod-lt, div-lt_self, lt_trans}
use Rattle.std.proofs.lemmas.Fmt.{IsAscii-decimal, decimal_injective}
use Rattle.std.proofs.lemmas.Str.{IsAscii-append, IsUtf8-from_ascii}
use Rattle.std.proofs.lemmas.Str.Ascii.{IsAscii-nil, IsAscii-push}
use Rattle.vkg_schema.proofs.Fitting.{int_fits, null_fits, text_fits}
use Rattle.vkg_lists.proofs.Counts.{eq_itself, eq_other}
use Rattle.vkg_lists.proofs.Each.{map_each, member_range, range_member}
use Rattle.vkg_lists.proofs.Members.{Contains-map}
use Rattle.vkg_lists.proofs.Positions.{any_from_member}
use Rattle.vkg_lists.proofs.Texts.{bytes_test}
use Rattle.vkg_cells.specs.Order.{same}
use Rattle.vkg_cells.specs.declared.cell.SqlType.TheVariants as kind
use Rattle.vkg_cells.specs.declared.cell.Cell.TheVariants as cell
use Rattle.vkg_schema.specs.Rows.{Row, Database, agree, cell_at, equal_at, has_no_null, is_known, is_known_true}
use Rattle.vkg_schema.specs.Meets.{FitsColumn, KeyHolds, MeetsSchema, TableMeets}
use Rattle.vkg_schema.specs.Company.{company, dept, emp, id_key}
use Rattle.vkg_company.specs.Company.{company_rows, department, department_rows, departments, divides, employee, employee_rows, holding, name, number}
use Rattle.vkg_tables.specs.Seen.{Seen, columns_of, with_row}
use Rattle.std.proofs.lemmas.List.FromFn.{map-range_with_len_more}
use Rattle.std.proofs.lemmas.Bool.{cond_both}
use Rattle.vkg_company.proofs.Numbers.{decimal_utf8, number_field}
use Rattle.vkg_company.proofs.Counts.{small}

-- ---- each cell is of its column's kind

number_fits : (text : List ℕ) (b : Bool) (n : ℕ) → n < 2 ^ 64 → FitsColumn (record { name = text; kind = kind.Int; not_null = b }) (number n)
number_fits text b n h = int_fits text (decimal n) b (decimal_utf8 n h) (number_field n h)

tagged_fits : (text letter : List ℕ) (n : ℕ) → n < 2 ^ 64 → IsAscii letter → FitsColumn (record { name = text; kind = kind.Text; not_null = false }) (cell.Text (letter ++ decimal n))
tagged_fits text letter n h a = text_fits text (letter ++ decimal n) (IsUtf8-from_ascii (letter ++ decimal n) (IsAscii-append letter (decimal n) a (IsAscii-decimal n h)))

pub department_fits : (k : ℕ) → k < 2 ^ 64 → AllZip FitsColumn dept.columns (department k)
department_fits k h = (
  number_fits _ _ k h,
  (cond_both (divides 5 k) _ _ (FitsColumn _) (λ _. null_fits _ _) (λ _. tagged_fits _ (codes "D") k h (IsAscii-push [] 68 IsAscii-nil (lit< tt))), tt),
)

pub employee_fits : (d i : ℕ) → i % 7 < 2 ^ 64 → i % d + 1 < 2 ^ 64 → i < 2 ^ 64 → AllZip FitsColumn emp.columns (employee d i)
employee_fits d i seven within h = (
  number_fits _ _ i h,
  (
    tagged_fits _ (codes "N") (i % 7) seven (IsAscii-push [] 78 IsAscii-nil (lit< tt)),
    (cond_both (divides 4 i) _ _ (FitsColumn _) (λ _. null_fits _ _) (λ _. number_fits _ _ (i % d + 1) within), tt),
  ),
)

-- ---- rows that are made one for each number

each : (P : Row → Type 0) (f : ℕ → Row) (a m : ℕ) → ((k : ℕ) → a ≤ k → k < a + m → P (f k)) → AllByRecursion P (map f (range_with_len a m))
each P f a m h = map_each P f (range_with_len a m) (λ k c. let r = range_member a m k c in h k r.0 r.1)

some_row : (p : Row → Bool) (f : ℕ → Row) (a m k : ℕ) → a ≤ k → k < a + m → p (f k) ≡ true → list_any p (map f (range_with_len a m)) ≡ true
some_row p f a m k low high e = any_from_member p (map f (range_with_len a m)) (f k) (Contains-map f (range_with_len a m) k (member_range a m k low high)) e

-- ---- keys

numbers_differ : (j k : ℕ) → j < 2 ^ 64 → k < 2 ^ 64 → j ≢ k → bytes_eq (decimal j) (decimal k) ≡ false
numbers_differ j k h i apart = eq_other bytes_test (decimal j) (decimal k) (λ e. apart (decimal_injective j k h i e))

rows_apart : (s r : Row) (j k : ℕ) → cell_at s 0 ≡ number j → cell_at r 0 ≡ number k → j < 2 ^ 64 → k < 2 ^ 64 → j ≢ k → agree ((0, 0) ∷ []) s r ≡ false
unfolding equal_at
rows_apart s r j k p q h i apart =
    let other : (is_known_true (same (number j) (number k)) && true) ≡ false = rw (numbers_differ j k h i apart) refl in
    (λ t. is_known_true (same (p t) (q t)) && true) ∙ other

pub keys_hold : (f : ℕ → Row) → ((k : ℕ) → cell_at (f k) 0 ≡ number k) → (a m : ℕ) → ((k : ℕ) → k < a + m → k < 2 ^ 64) → KeyHolds id_key (map f (range_with_len a m))
keys_hold f own a zero small = tt
keys_hold f own a (suc m) small =
    let first : a < 2 ^ 64 = small a (omega arith) in (
      each (λ s. IsFalse (agree ((0, 0) ∷ []) s (f a))) f (a + 1) m
          (λ k low high. rows_apart (f k) (f a) k a (own k) (own a) (small k (omega (arith, high))) first (λ e. omega (arith, e, low))),
      keys_hold f own (a + 1) m (λ k high. small k (omega (arith, high))),
    )

-- ---- references

works : ℕ → ℕ → Bool → Row
works d i b = number i ∷ name i ∷ (if b then cell.Null else number (i % d + 1)) ∷ []

same_number : (k : ℕ) → same (number k) (number k) ≡ Some true
same_number k = ap Some (eq_itself bytes_test (decimal k))

refers_by : (d i : ℕ) (b : Bool) → 0 < d → IsTrue (has_no_null (2 ∷ []) (works d i b)) → IsTrue (list_any (agree ((2, 0) ∷ []) (works d i b)) (department_rows d))
unfolding is_known equal_at works
refers_by d i true some h = cc h
refers_by d i false some h =
    let within : i % d < d = mod-lt i some in
    some_row (agree ((2, 0) ∷ []) (works d i false)) department 1 d (i % d + 1) (omega arith) (omega (arith, within))
    (ap (λ o. is_known_true o && true) (same_number (i % d + 1)))

refers : (d i : ℕ) → 0 < d → IsTrue (has_no_null (2 ∷ []) (employee d i)) → IsTrue (list_any (agree ((2, 0) ∷ []) (employee d i)) (department_rows d))
unfolding works
refers d i some h = refers_by d i (divides 4 i) some h

-- ---- all together

module _ (d n : ℕ) (some : 0 < d) (in_d : (k : ℕ) → k < 1 + d → k < 2 ^ 64) (in_n : (k : ℕ) → k < 1 + n → k < 2 ^ 64) where
  fits : (i : ℕ) → i < 1 + n → AllZip FitsColumn emp.columns (employee d i)
  fits i h =
      let within : i % d < d = mod-lt i some in
      employee_fits d i (below_seven i) (in_d (i % d + 1) (omega (arith, within))) (in_n i h)
    where
      below_seven : (j : ℕ) → j % 7 < 2 ^ 64
      below_seven j = let seven : j % 7 < 7 = mod-lt j (lit< tt) in lt_trans seven (lit< tt)

  depts_meet : (db : Database) → TableMeets db dept (department_rows d)
  depts_meet db = record {
    cells = each (AllZip FitsColumn dept.columns) department 1 d (λ k low high. department_fits k (in_d k high));
    keys = (keys_hold department (λ k. refl) 1 d in_d, tt);
    references = tt;
  }

  emps_meet : TableMeets (department_rows d ∷ employee_rows d n ∷ []) emp (employee_rows d n)
  emps_meet = record {
    cells = each (AllZip FitsColumn emp.columns) (employee d) 1 n (λ i low high. fits i high);
    keys = (keys_hold (employee d) (λ i. refl) 1 n in_n, tt);
    references = (each (λ r. IsTrue (has_no_null (2 ∷ []) r) → IsTrue (list_any (agree ((2, 0) ∷ []) r) (department_rows d))) (employee d) 1 n (λ i low high. refers d i some), tt);
  }

  pub rows_meet : MeetsSchema company (department_rows d ∷ employee_rows d n ∷ [])
  rows_meet = (depts_meet (department_rows d ∷ employee_rows d n ∷ []), (emps_meet, tt))

pub company_meets : (n : ℕ) → 0 < n → n ≤ 100000 → MeetsSchema company (company_rows n)
company_meets n some h =
    let less : n / 10 < n = div-lt_self some (lit< tt) in
    let few : departments n ≤ 100000 = omega (arith, less, h) in
    rows_meet (departments n) n (omega arith) (λ k i. small k (omega (arith, few, i))) (λ k i. small k (omega (arith, h, i)))

-- ---- the rows as they are pushed

pub table_there : (db : Seen) (ds es : List Row) (t : ℕ) → db ≡ holding ds es → t < 2 → t < length db.schema
table_there db ds es t q h = subst (λ s. t < length s.schema) (sym q) h

pub pushed_department : (db : Seen) (ds : List Row) (row : Row) (k count : ℕ) → db ≡ holding ds [] → row ≡ department (k + 1) → k < count → count ≤ 100000
    → AllZip FitsColumn (columns_of db.schema 0) row
pushed_department db ds row k count q e h i =
    let fits : AllZip FitsColumn dept.columns (department (k + 1)) = department_fits (k + 1) (small (k + 1) (omega (arith, h, i))) in
    subst (λ s. AllZip FitsColumn (columns_of s.schema 0) row) (sym q) (subst (AllZip FitsColumn dept.columns) (sym e) fits)

pub pushed_employee : (db : Seen) (ds es : List Row) (row : Row) (d i count : ℕ) → db ≡ holding ds es → row ≡ employee d (i + 1) → 0 < d → d ≤ 100000 → i < count → count ≤ 100000
    → AllZip FitsColumn (columns_of db.schema 1) row
pushed_employee db ds es row d i count q e some few h limit =
    let within : (i + 1) % d < d = mod-lt (i + 1) some in
    let seven : (i + 1) % 7 < 7 = mod-lt (i + 1) (lit< tt) in
    let fits : AllZip FitsColumn emp.columns (employee d (i + 1)) = employee_fits d (i + 1) (lt_trans seven (lit< tt)) (small ((i + 1) % d + 1) (omega (arith, within, few))) (small (i + 1) (omega (arith, h, limit))) in
    subst (λ s. AllZip FitsColumn (columns_of s.schema 1) row) (sym q) (subst (AllZip FitsColumn emp.columns) (sym e) fits)

pub one_department_more : (db new : Seen) (row : Row) (k : ℕ) → db ≡ holding (department_rows k) [] → row ≡ department (k + 1) → new ≡ with_row db 0 row → new ≡ holding (department_rows (k + 1)) []
one_department_more db new row k q e n =
    n ∙ (λ i. with_row (q i) 0 (e i)) ∙ ap (λ ds. holding ds []) (sym (map-range_with_len_more department 1 k (k + 1) (omega arith)))

pub one_employee_more : (db new : Seen) (ds : List Row) (row : Row) (d i : ℕ) → db ≡ holding ds (employee_rows d i) → row ≡ employee d (i + 1) → new ≡ with_row db 1 row
    → new ≡ holding ds (employee_rows d (i + 1))
one_employee_more db new ds row d i q e n =
    n ∙ (λ t. with_row (q t) 1 (e t)) ∙ ap (λ es. holding ds es) (sym (map-range_with_len_more (employee d) 1 i (i + 1) (omega arith)))
