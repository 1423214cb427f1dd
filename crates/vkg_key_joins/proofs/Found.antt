-- Foreign keys to a table, and how many columns a table has.
use Rattle.std.proofs.Common.{◌≡◌, ◌∙◌, ℕ, ◌≤◌, Bool, true, false, cond, ◌&&◌, List, [], ◌∷◌, Option, Some, None, length, map, take, refl, sym, ap}
use Rattle.std.specs.Prelude.{nat_eq, option_map, slice_get}
use Rattle.std.specs.List.{find, list_any}
use Rattle.std.specs.Option.{option_map_or}
use Rattle.std.proofs.lemmas.List.{length-map, length-take-le}
use Rattle.vkg_lists.proofs.Bools.{neither}
use Rattle.vkg_cells.specs.declared.cell.SqlType.{SqlType}
use Rattle.vkg_expr.specs.Expr.{Expr}
use Rattle.vkg_schema.specs.declared.table.Column.{Column}
use Rattle.vkg_schema.specs.declared.table.Reference.{Reference}
use Rattle.vkg_schema.specs.declared.table.Table.{Table}
use Rattle.vkg_schema.specs.Kinds.{columns_of}
use Rattle.vkg_plan.specs.Kinds.{Tables, width}
use Rattle.vkg_plan.specs.Plan.{Scan}
use Rattle.vkg_keys.specs.Members.{Place}
use Rattle.vkg_key_joins.specs.ParentJoin.{is_unused}

pub none_refers : (s : Tables) (es : List Expr) (c : Expr) (x y : Place) (references : List Reference) → list_any (λ r. nat_eq r.table y.table) references ≡ false → find (is_unused s es c x y) references ≡ None
none_refers s es c x y [] h = refl
none_refers s es c x y (r ∷ references) h =
    let n = neither (nat_eq r.table y.table) (list_any (λ z. nat_eq z.table y.table) references) h in
    ap (λ b. cond b (Some r) (find (is_unused s es c x y) references)) (fails (nat_eq r.table y.table) _ n.0)
    ∙ none_refers s es c x y references n.1
  where
    fails : (b d : Bool) → b ≡ false → (b && d) ≡ false
    fails b d h = ap (λ t. t && d) h

pub columns_wide : (s : Tables) (table : ℕ) → length (columns_of s table) ≡ width s (Scan table)
columns_wide s table = of (slice_get s table)
  where
    of : (o : Option Table) → length (option_map_or (λ t. t.columns) o []) ≡ option_map_or length (option_map (λ (t : Table). map (λ (c : Column). c.kind) t.columns) o) 0
    of None = refl
    of (Some t) = sym (length-map t.columns (λ (c : Column). c.kind))

pub first_columns : (ks : List SqlType) (n : ℕ) → n ≤ length ks → length (take n ks) ≡ n
first_columns ks n h = length-take-le n ks h
