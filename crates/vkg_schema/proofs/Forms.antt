-- The form of the columns, keys and foreign keys of a text in which no check finds a fault.
use Rattle.std.proofs.Common.{◌≡◌, ◌≢◌, ◌<◌, Bool, true, false, cond, ◌||◌, ◌&&◌, Option, Some, None, List, length, map, sym, ap, ◌∙◌, subst, arith}
use Rattle.std.specs.Prelude.{find, slice_get, unwrap_or, option_map, IfSome, IsTrue}
use Rattle.std.specs.List.{list_any, AllByRecursion, Contains}
use Rattle.std.proofs.lemmas.List.{length-map}
use Rattle.std.proofs.lemmas.Option.{slice_get-map}
use Rattle.vkg_lists.proofs.Nothing.{map_nothing}
use Rattle.vkg_lists.proofs.Each.{recursion_weaken, recursion_map}
use Rattle.vkg_lists.proofs.Positions.{Found, found, any_from_member}
use Rattle.vkg_lists.proofs.Bools.{or_right, and_true}
use Rattle.vkg_cells.specs.declared.cell.SqlType.TheVariants as kind
use Rattle.vkg_ddl.specs.declared.name.Name.{Name}
use Rattle.vkg_ddl.specs.declared.written.WrittenColumn.{WrittenColumn}
use Rattle.vkg_ddl.specs.declared.written.WrittenKey.{WrittenKey}
use Rattle.vkg_ddl.specs.declared.written.WrittenTable.{WrittenTable}
use Rattle.vkg_ddl.specs.Formed.{IsNamed, HasColumns}
use Rattle.vkg_ddl.specs.NameChecks.{matches, names_column}
use Rattle.vkg_ddl.specs.TypeChecks.{kind_named, column_kind}
use Rattle.vkg_lists.proofs.Members.{each_from_recursion, recursion_from_each}
use Rattle.vkg_schema.specs.Meets.{IsColumn, IsKey}
use Rattle.vkg_schema.specs.Resolve.{is_primary, column_at, columns_at, place_of, key_at, table_at}
use Rattle.vkg_schema.proofs.Faultless.{AreKnown}

kinds : (a b c d e f g h : Bool) → unwrap_or (cond a (Some kind.Text) (cond b (Some kind.Int) (cond c (Some kind.Dec) (cond d (Some kind.Bool) (cond e (Some kind.Date) (cond f (Some kind.Stamp) (cond g (Some kind.Bin) (cond h (Some kind.Time) None)))))))) kind.Text ≢ kind.Term
kinds true b c d e f g h = λ q. cc
kinds false true c d e f g h = λ q. cc
kinds false false true d e f g h = λ q. cc
kinds false false false true e f g h = λ q. cc
kinds false false false false true f g h = λ q. cc
kinds false false false false false true g h = λ q. cc
kinds false false false false false false true h = λ q. cc
kinds false false false false false false false true = λ q. cc
kinds false false false false false false false false = λ q. cc

pub no_terms : (c : WrittenColumn) → column_kind c ≢ kind.Term
unfolding kind_named
no_terms c = kinds _ _ _ _ _ _ _ _

pub column_form : (keys : List WrittenKey) (c : WrittenColumn) → IsNamed c → IsColumn (column_at keys c)
column_form keys c h = record { name = h; kind = no_terms c }

-- the column that a name means
pub record Means (keys : List WrittenKey) (columns : List WrittenColumn) (n : Name) (c : WrittenColumn) : Type 0 where
  pub inside : place_of columns n < length (columns_at keys columns)
  pub at : slice_get (columns_at keys columns) (place_of columns n) ≡ Some (column_at keys c)
  pub found : find (λ d. matches n d.name) columns ≡ Some c
  pub named : matches n c.name ≡ true

pub meant : (keys : List WrittenKey) (columns : List WrittenColumn) (n : Name) → names_column columns n ≡ true → (c : WrittenColumn) × Means keys columns n c
meant keys columns n e =
    let f = found (λ d. matches n d.name) columns e in
    let h : Found (λ d. matches n d.name) columns f.0 f.1 = f.2 in
    let place : place_of columns n ≡ f.0 = ap (λ o. unwrap_or o 0) h.place in
    let size : length (columns_at keys columns) ≡ length columns = length-map columns (column_at keys) in (
      f.1,
      record {
        inside = omega (arith, h.inside);
        at = slice_get-map (column_at keys) columns (place_of columns n) ∙ ap (λ i. option_map (column_at keys) (slice_get columns i)) place ∙ ap (option_map (column_at keys)) h.at;
        found = h.found;
        named = h.passes;
      },
    )

pub if_some : {A : Type 0} (P : A → Type 0) (o : Option A) (x : A) → o ≡ Some x → P x → IfSome o P
if_some P o x e p = subst (λ y. IfSome y P) (sym e) p

module _ (tables : List WrittenTable) (t : WrittenTable) where
  places_inside : (names : List Name) → AreKnown t.columns names → AllByRecursion (λ k. k < length (columns_at t.keys t.columns)) (map (place_of t.columns) names)
  places_inside names known = recursion_map (λ k. k < length (columns_at t.keys t.columns)) (place_of t.columns) names
      (recursion_weaken (λ n. names_column t.columns n ≡ true) (λ n. place_of t.columns n < length (columns_at t.keys t.columns)) names (λ n e. let m : Means t.keys t.columns n (meant t.keys t.columns n e).0 = (meant t.keys t.columns n e).1 in m.inside) known)

  primary_kept : (k : WrittenKey) (n : Name) (c : WrittenColumn) → Contains t.keys k → Contains k.columns n → k.primary ≡ true → matches n c.name ≡ true → (c.not_null || is_primary t.keys c) ≡ true
  primary_kept k n c km nm p e =
      or_right c.not_null (is_primary t.keys c) (any_from_member (λ j. j.primary && list_any (λ m. matches m c.name) j.columns) t.keys k km
      (and_true k.primary (list_any (λ m. matches m c.name) k.columns) p (any_from_member (λ m. matches m c.name) k.columns n nm e)))

  pub key_form : (k : WrittenKey) → AreKnown t.columns k.columns → HasColumns k → Contains t.keys k → IsKey (table_at tables t) (key_at t.columns k)
  key_form k known some km = record {
    some = λ e. some (map_nothing (place_of t.columns) k.columns e);
    columns = places_inside k.columns known;
    primary = λ p. recursion_map (λ i. IfSome (slice_get (columns_at t.keys t.columns) i) (λ c. IsTrue c.not_null)) (place_of t.columns) k.columns
        (recursion_from_each (λ n. IfSome (slice_get (columns_at t.keys t.columns) (place_of t.columns n)) (λ c. IsTrue c.not_null)) k.columns (λ n nm.
        let e : names_column t.columns n ≡ true = each_from_recursion (λ m. names_column t.columns m ≡ true) k.columns known n nm in
        let c : WrittenColumn = (meant t.keys t.columns n e).0 in
        let m : Means t.keys t.columns n c = (meant t.keys t.columns n e).1 in
        if_some (λ d. IsTrue d.not_null) (slice_get (columns_at t.keys t.columns) (place_of t.columns n)) (column_at t.keys c) m.at (primary_kept k n c km nm p m.named)));
  }
