-- A cell and a row put into columns.
use Rattle.std.proofs.Common.{◌≡◌, ◌∙◌, ◌+◌, ◌<◌, ◌≤◌, ◌++◌, ◌∷◌, ℕ, zero, suc, List, [], refl, sym, ap, subst, arith, length, get_or, set, map, take, length-append}
use Rattle.std.specs.Prelude.{Result, Ok, Err, OnErr}
use Rattle.std.specs.List.{AllByRecursion, AllZip, range_with_len}
use Rattle.std.proofs.lemmas.List.FromFn.{map-range_with_len_more}
use Rattle.vkg_cells.specs.declared.cell.Cell.{Cell}
use Rattle.vkg_schema.specs.declared.table.Column.{Column}
use Rattle.vkg_schema.specs.Meets.{FitsColumn, IsColumn}
use Rattle.vkg_schema.specs.Rows.{Row}
use Rattle.vkg_store.specs.declared.stored_column.StoredColumn.{StoredColumn}
use Rattle.vkg_store.specs.Held.{ArePut, CanTake, FitsKind, HasRows, IsPut, KeepsRows, held, table_held, without_rows}
use Rattle.vkg_store.specs.Stored.{ColumnNumbers, Extends, IsStoredColumn, number_at, row_at, rows_seen, stored, stored_at, table_seen}
use Rattle.vkg_store.proofs.StoredLemmas.{extends-longer, number-within, numbers-more, numbers-push, stored-more}

pub on-err : {T E P : Type 0} (r : Result T E) → P → OnErr r P
on-err (Ok x) p = tt
on-err (Err e) p = p

-- ---- lists of numbers

take-put : {A : Type 0} (n : ℕ) (xs ys : List A) → n ≤ length xs → take n (take n xs ++ ys) ≡ take n xs
take-put zero xs ys h = refl
take-put (suc n) [] ys h = absurd (omega (arith, h))
take-put (suc n) (x ∷ xs) ys h = ap (λ l. x ∷ l) (take-put n xs ys (omega (arith, h)))

take-long : {A : Type 0} (n : ℕ) (xs : List A) → n ≤ length xs → length (take n xs) ≡ n
take-long zero xs h = refl
take-long (suc n) [] h = absurd (omega (arith, h))
take-long (suc n) (x ∷ xs) h = ap (λ m. suc m) (take-long n xs (omega (arith, h)))

take-whole : {A : Type 0} (n : ℕ) (xs : List A) → length xs ≡ n → take n xs ≡ xs
take-whole zero [] h = refl
take-whole zero (x ∷ xs) h = absurd (omega (arith, h))
take-whole (suc n) [] h = refl
take-whole (suc n) (x ∷ xs) h = ap (λ l. x ∷ l) (take-whole n xs (omega (arith, h)))

number-before : (ns : List ℕ) (n row : ℕ) → row < length ns → number_at (ns ++ n ∷ []) row ≡ number_at ns row
number-before [] n row h = absurd (omega (arith, h))
number-before (m ∷ ns) n zero h = refl
number-before (m ∷ ns) n (suc row) h = number-before ns n row (omega (arith, h))

number-last : (ns : List ℕ) (n row : ℕ) → length ns ≡ row → number_at (ns ++ n ∷ []) row ≡ n
number-last [] n zero h = refl
number-last [] n (suc row) h = absurd (omega (arith, h))
number-last (m ∷ ns) n zero h = absurd (omega (arith, h))
number-last (m ∷ ns) n (suc row) h = number-last ns n row (omega (arith, h))

-- ---- one column

-- the column that a put makes
abbrev put_on : ℕ → StoredColumn → ℕ → ColumnNumbers
put_on rows o number = record { kind = o.kind; numbers = take rows o.numbers.items ++ number ∷ [] }

put-long : (texts : List (List ℕ)) (rows : ℕ) (o : StoredColumn) (c : Cell) (d : StoredColumn) → HasRows rows o → IsPut texts rows o c d → length d.numbers.items ≡ suc rows
put-long texts rows o c d h p =
    let one : length (p.number ∷ []) ≡ 1 = refl in
    ap length p.numbers ∙ length-append (take rows o.numbers.items) (p.number ∷ []) ∙ omega (arith, take-long rows o.numbers.items h, one)

put-keeps : (texts : List (List ℕ)) (rows : ℕ) (o : StoredColumn) (c : Cell) (d : StoredColumn) → HasRows rows o → IsPut texts rows o c d → KeepsRows rows o d
put-keeps texts rows o c d h p =
    let long = put-long texts rows o c d h p in
    record {
      same = λ i. record { kind = p.kind i; numbers = (ap (take rows) p.numbers ∙ take-put rows o.numbers.items (p.number ∷ []) h) i };
      long = omega (arith, long);
    }

put-held : (texts : List (List ℕ)) (rows : ℕ) (o : StoredColumn) (c : Cell) (d : StoredColumn) → HasRows rows o → (p : IsPut texts rows o c d) → held (suc rows) d ≡ put_on rows o p.number
put-held texts rows o c d h p = λ i. record { kind = p.kind i; numbers = (take-whole (suc rows) d.numbers.items (put-long texts rows o c d h p) ∙ p.numbers) i }

put-more : (old new : List (List ℕ)) (rows : ℕ) (o : StoredColumn) (c : Cell) (d : StoredColumn) → Extends old new → IsPut old rows o c d → IsPut new rows o c d
put-more old new rows o c d e p = record {
  number = p.number;
  kind = p.kind;
  numbers = p.numbers;
  bound = omega (arith, p.bound, extends-longer old new e);
  stands = stored-more old new o.kind p.number e p.bound ∙ p.stands;
}

-- ---- the columns one after another

pub puts-more : (old new : List (List ℕ)) (rows n : ℕ) (olds : List StoredColumn) (cells : Row) (news : List StoredColumn) → Extends old new → ArePut old rows n olds cells news → ArePut new rows n olds cells news
puts-more old new rows zero olds cells news e h = h
puts-more old new rows (suc n) (o ∷ os) (c ∷ cs) (d ∷ ds) e h = (put-more old new rows o c d e h.0, puts-more old new rows n os cs ds e h.1)
puts-more old new rows (suc n) [] cells news e h = absurd h
puts-more old new rows (suc n) (o ∷ os) [] news e h = absurd h
puts-more old new rows (suc n) (o ∷ os) (c ∷ cs) [] e h = absurd h

pub puts-long : (texts : List (List ℕ)) (rows n : ℕ) (olds : List StoredColumn) (cells : Row) (news : List StoredColumn) → ArePut texts rows n olds cells news → length news ≡ length olds
puts-long texts rows zero olds cells news h = ap length h
puts-long texts rows (suc n) (o ∷ os) (c ∷ cs) (d ∷ ds) h = ap (λ m. suc m) (puts-long texts rows n os cs ds h.1)
puts-long texts rows (suc n) [] cells news h = absurd h
puts-long texts rows (suc n) (o ∷ os) [] news h = absurd h
puts-long texts rows (suc n) (o ∷ os) (c ∷ cs) [] h = absurd h

-- the column at the next place is as it was
pub next-can-take : (texts : List (List ℕ)) (rows n : ℕ) (olds : List StoredColumn) (cells : Row) (news : List StoredColumn) (x : StoredColumn) (c : Cell) → ArePut texts rows n olds cells news → AllZip (CanTake rows) olds cells → n < length cells → x ≡ get_or news n x → c ≡ get_or cells n c → CanTake rows x c
next-can-take texts rows n [] [] news x c h t l e f = absurd (omega (arith, l))
next-can-take texts rows n [] (k ∷ ks) news x c h t l e f = absurd t
next-can-take texts rows n (o ∷ os) [] news x c h t l e f = absurd t
next-can-take texts rows zero (o ∷ os) (k ∷ ks) news x c h t l e f =
    let was : x ≡ o = e ∙ ap (λ ns. get_or ns 0 x) h in
    subst (λ y. CanTake rows y c) (sym was) (subst (CanTake rows o) (sym f) t.0)
next-can-take texts rows (suc n) (o ∷ os) (k ∷ ks) [] x c h t l e f = absurd h
next-can-take texts rows (suc n) (o ∷ os) (k ∷ ks) (d ∷ ds) x c h t l e f = next-can-take texts rows n os ks ds x c h.1 t.1 (omega (arith, l)) e f

-- one more cell is put
pub puts-next : (texts : List (List ℕ)) (rows n : ℕ) (olds : List StoredColumn) (cells : Row) (news : List StoredColumn) (x : StoredColumn) (c : Cell) (d : StoredColumn) → ArePut texts rows n olds cells news → AllZip (CanTake rows) olds cells → n < length cells → x ≡ get_or news n x → c ≡ get_or cells n c → IsPut texts rows x c d → ArePut texts rows (suc n) olds cells (set news n d)
puts-next texts rows n [] [] news x c d h t l e f p = absurd (omega (arith, l))
puts-next texts rows n [] (k ∷ ks) news x c d h t l e f p = absurd t
puts-next texts rows n (o ∷ os) [] news x c d h t l e f p = absurd t
puts-next texts rows zero (o ∷ os) (k ∷ ks) news x c d h t l e f p =
    let was : x ≡ o = e ∙ ap (λ ns. get_or ns 0 x) h in
    subst (λ ns. ArePut texts rows 1 (o ∷ os) (k ∷ ks) (set ns 0 d)) (sym h)
    (subst (λ y. IsPut texts rows o y d) f (subst (λ y. IsPut texts rows y c d) was p), refl)
puts-next texts rows (suc n) (o ∷ os) (k ∷ ks) [] x c d h t l e f p = absurd h
puts-next texts rows (suc n) (o ∷ os) (k ∷ ks) (b ∷ bs) x c d h t l e f p = (h.0, puts-next texts rows n os ks bs x c d h.1 t.1 (omega (arith, l)) e f p)

-- ---- what a refused put leaves

all-keep : (rows : ℕ) (olds : List StoredColumn) (cells : Row) → AllZip (CanTake rows) olds cells → AllZip (KeepsRows rows) olds olds
all-keep rows [] [] t = tt
all-keep rows [] (k ∷ ks) t = absurd t
all-keep rows (o ∷ os) [] t = absurd t
all-keep rows (o ∷ os) (k ∷ ks) t = (record { same = refl; long = t.0.0 }, all-keep rows os ks t.1)

pub puts-refused : (texts : List (List ℕ)) (rows n : ℕ) (olds : List StoredColumn) (cells : Row) (news : List StoredColumn) (x d : StoredColumn) → ArePut texts rows n olds cells news → AllZip (CanTake rows) olds cells → n < length cells → x ≡ get_or news n x → KeepsRows rows x d → AllZip (KeepsRows rows) olds (set news n d)
puts-refused texts rows n [] [] news x d h t l e k = absurd (omega (arith, l))
puts-refused texts rows n [] (c ∷ cs) news x d h t l e k = absurd t
puts-refused texts rows n (o ∷ os) [] news x d h t l e k = absurd t
puts-refused texts rows zero (o ∷ os) (c ∷ cs) news x d h t l e k =
    let was : x ≡ o = e ∙ ap (λ ns. get_or ns 0 x) h in
    subst (λ ns. AllZip (KeepsRows rows) (o ∷ os) (set ns 0 d)) (sym h) (subst (λ y. KeepsRows rows y d) was k, all-keep rows os cs t.1)
puts-refused texts rows (suc n) (o ∷ os) (c ∷ cs) [] x d h t l e k = absurd h
puts-refused texts rows (suc n) (o ∷ os) (c ∷ cs) (b ∷ bs) x d h t l e k = (put-keeps texts rows o c b t.0.0 h.0, puts-refused texts rows n os cs bs x d h.1 t.1 (omega (arith, l)) e k)

keeps-held : (rows : ℕ) (olds news : List StoredColumn) → AllZip (KeepsRows rows) olds news → map (held rows) news ≡ map (held rows) olds
keeps-held rows [] [] h = refl
keeps-held rows [] (d ∷ ds) h = absurd h
keeps-held rows (o ∷ os) [] h = absurd h
keeps-held rows (o ∷ os) (d ∷ ds) h = λ i. h.0.same i ∷ keeps-held rows os ds h.1 i

pub keeps-table : (rows : ℕ) (olds news : List StoredColumn) → AllZip (KeepsRows rows) olds news → table_held rows news ≡ table_held rows olds
keeps-table rows olds news h = λ i. record { rows = rows; columns = keeps-held rows olds news h i }

pub keeps-rows : (rows : ℕ) (olds news : List StoredColumn) → AllZip (KeepsRows rows) olds news → AllByRecursion (HasRows rows) news
keeps-rows rows [] [] h = tt
keeps-rows rows [] (d ∷ ds) h = absurd h
keeps-rows rows (o ∷ os) [] h = absurd h
keeps-rows rows (o ∷ os) (d ∷ ds) h = (h.0.long, keeps-rows rows os ds h.1)

-- ---- a table without rows

pub none-held : (texts : List (List ℕ)) (columns : List Column) (kept : List ColumnNumbers) → AllByRecursion IsColumn columns → kept ≡ map without_rows columns → AllZip (IsStoredColumn texts 0) columns kept
none-held texts columns kept h e = subst (AllZip (IsStoredColumn texts 0) columns) (sym e) (made columns h)
  where
    made : (cs : List Column) → AllByRecursion IsColumn cs → AllZip (IsStoredColumn texts 0) cs (map without_rows cs)
    made [] g = tt
    made (c ∷ cs) g = (record { kind = refl; known = g.0.kind; long = refl; numbers = tt }, made cs g.1)

pub none-rows : (columns : List StoredColumn) → AllByRecursion (HasRows 0) columns
none-rows [] = tt
none-rows (c ∷ cs) = (omega arith, none-rows cs)

-- ---- a row that fits can be put

pub can-take : (texts : List (List ℕ)) (rows : ℕ) (columns : List Column) (olds : List StoredColumn) (cells : Row) → AllByRecursion (HasRows rows) olds → AllZip (IsStoredColumn texts rows) columns (map (held rows) olds) → AllZip FitsColumn columns cells → AllZip (CanTake rows) olds cells
can-take texts rows [] [] [] g s f = tt
can-take texts rows [] [] (c ∷ cs) g s f = absurd f
can-take texts rows [] (o ∷ os) cells g s f = absurd s
can-take texts rows (k ∷ ks) [] cells g s f = absurd s
can-take texts rows (k ∷ ks) (o ∷ os) [] g s f = absurd f
can-take texts rows (k ∷ ks) (o ∷ os) (c ∷ cs) g s f =
    let is : k.kind ≡ o.kind = sym s.0.kind in
    ((g.0, subst (λ x. FitsKind x c) is (record { known = λ e. s.0.known (s.0.kind ∙ e); fits = f.0.kind })), can-take texts rows ks os cs g.1 s.1 f.1)

-- ---- the table with one row more

module _ (old new : List (List ℕ)) (ext : Extends old new) (rows : ℕ) where
  -- the columns that were put into stand for the rows that were there, and the new one behind them
  pub record IsLonger (columns : List Column) (olds : List StoredColumn) (cells : Row) (news : List StoredColumn) : Type 0 where
    pub before : (row : ℕ) → row < rows → row_at new (map (held (suc rows)) news) row ≡ row_at old (map (held rows) olds) row
    pub last : row_at new (map (held (suc rows)) news) rows ≡ cells
    pub stored : AllZip (IsStoredColumn new (suc rows)) columns (map (held (suc rows)) news)
    pub long : AllByRecursion (HasRows (suc rows)) news

  module _ (column : Column) (o : StoredColumn) (c : Cell) (d : StoredColumn) (h : HasRows rows o) (s : IsStoredColumn old rows column (held rows o)) (p : IsPut new rows o c d) where
    one-before : (row : ℕ) → row < rows → stored_at new row (held (suc rows) d) ≡ stored_at old row (held rows o)
    one-before row l =
        let ns = take rows o.numbers.items in
        let within : row < length ns = omega (arith, l, take-long rows o.numbers.items h) in
        ap (stored_at new row) (put-held new rows o c d h p) ∙ ap (stored new o.kind) (number-before ns p.number row within)
        ∙ stored-more old new o.kind (number_at ns row) ext (number-within old ns row s.numbers)

    one-last : stored_at new rows (held (suc rows) d) ≡ c
    one-last =
        let ns = take rows o.numbers.items in
        ap (stored_at new rows) (put-held new rows o c d h p) ∙ ap (stored new o.kind) (number-last ns p.number rows (take-long rows o.numbers.items h)) ∙ p.stands

    one-stored : IsStoredColumn new (suc rows) column (held (suc rows) d)
    one-stored =
        let ns = take rows o.numbers.items in
        let one : length (p.number ∷ []) ≡ 1 = refl in
        subst (IsStoredColumn new (suc rows) column) (sym (put-held new rows o c d h p))
        (record {
          kind = s.kind;
          known = s.known;
          long = length-append ns (p.number ∷ []) ∙ omega (arith, take-long rows o.numbers.items h, one);
          numbers = numbers-push new ns p.number (numbers-more old new ns ext s.numbers) p.bound;
        })

  pub longer : (columns : List Column) (olds : List StoredColumn) (cells : Row) (news : List StoredColumn) → AllZip (IsStoredColumn old rows) columns (map (held rows) olds) → AllZip (CanTake rows) olds cells → ArePut new rows (length cells) olds cells news → IsLonger columns olds cells news
  longer [] [] [] news s t p = subst (IsLonger [] [] []) (sym p) (record { before = λ row l. refl; last = refl; stored = tt; long = tt })
  longer [] (o ∷ os) cells news s t p = absurd s
  longer (k ∷ ks) [] cells news s t p = absurd s
  longer columns [] (c ∷ cs) news s t p = absurd t
  longer columns (o ∷ os) [] news s t p = absurd t
  longer (k ∷ ks) (o ∷ os) (c ∷ cs) [] s t p = absurd p
  longer (k ∷ ks) (o ∷ os) (c ∷ cs) (d ∷ ds) s t p =
      let r = longer ks os cs ds s.1 t.1 p.1 in
      let long = put-long new rows o c d t.0.0 p.0 in
      record {
        before = λ row l. λ i. one-before k o c d t.0.0 s.0 p.0 row l i ∷ r.before row l i;
        last = λ i. one-last k o c d t.0.0 s.0 p.0 i ∷ r.last i;
        stored = (one-stored k o c d t.0.0 s.0 p.0, r.stored);
        long = (omega (arith, long), r.long);
      }

-- two functions that agree below a bound give the same list
map-range-same : {A : Type 0} (f g : ℕ → A) (a n : ℕ) → ((k : ℕ) → k < a + n → f k ≡ g k) → map f (range_with_len a n) ≡ map g (range_with_len a n)
map-range-same f g a zero h = refl
map-range-same f g a (suc n) h = λ i. h a (omega arith) i ∷ map-range-same f g (a + 1) n (λ k l. h k (omega (arith, l))) i

module _ (old new : List (List ℕ)) (ext : Extends old new) (rows more : ℕ) (next : more ≡ rows + 1) (columns : List Column) (olds : List StoredColumn) (cells : Row) (news : List StoredColumn)
    (s : AllZip (IsStoredColumn old rows) columns (map (held rows) olds)) (t : AllZip (CanTake rows) olds cells) (p : ArePut new rows (length cells) olds cells news) where
  is-longer : IsLonger old new ext rows columns olds cells news
  is-longer = longer old new ext rows columns olds cells news s t p

  pub row-seen : table_seen new (table_held more news) ≡ table_seen old (table_held rows olds) ++ cells ∷ []
  row-seen =
      let f = row_at new (map (held (suc rows)) news) in
      let g = row_at old (map (held rows) olds) in
      let is : more ≡ suc rows = omega (arith, next) in
      ap (λ m. table_seen new (table_held m news)) is
      ∙ ap (λ m. rows_seen new (map (held (suc rows)) news) m) (sym is ∙ next)
      ∙ map-range_with_len_more f 0 rows rows (omega arith)
      ∙ (λ i. map-range-same f g 0 rows (λ k l. is-longer.before k (omega (arith, l))) i ++ is-longer.last i ∷ [])

  pub row-stored : AllZip (IsStoredColumn new more) columns (map (held more) news)
  row-stored =
      let is : suc rows ≡ more = omega (arith, next) in
      subst (λ m. AllZip (IsStoredColumn new m) columns (map (held m) news)) is is-longer.stored

  pub row-long : AllByRecursion (HasRows more) news
  row-long =
      let is : suc rows ≡ more = omega (arith, next) in
      subst (λ m. AllByRecursion (HasRows m) news) is is-longer.long
