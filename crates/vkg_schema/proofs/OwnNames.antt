-- No two tables of a text without a fault have one name.
use Rattle.std.proofs.Common.{◌≡◌, inl, inr, ℕ, ◌<◌, ◌+◌, true, false, None, List, [], ◌∷◌, sym, ap, subst, ◌∙◌, arith}
use Rattle.std.specs.Prelude.{IsUtf8, bytes_eq, get_or, length, option_map, slice_get, take}
use Rattle.std.specs.List.{Contains, list_any, range_with_len}
use Rattle.std.specs.Option.{option_map_or}
use Rattle.std.specs.Str.{str_to_ascii_lowercase}
use Rattle.std.proofs.lemmas.Bool.{cases_order, true≢false}
use Rattle.std.proofs.lemmas.List.{get_or-take, length-map, length-take-le}
use Rattle.std.proofs.lemmas.List.Elements.{Contains-get_or}
use Rattle.std.proofs.lemmas.List.Folds.{list_any_at}
use Rattle.std.proofs.lemmas.List.FromFn.{get_or-range_with_len, length-range_with_len}
use Rattle.std.proofs.lemmas.Option.{slice_get-get_or, slice_get-map, slice_get_cases}
use Rattle.std.proofs.lemmas.Str.{IsUtf8-nil}
use Rattle.std.proofs.lemmas.Slice.Eq.{bytes_eq-Decides}
use Rattle.vkg_lists.proofs.Places.{least_of-each}
use Rattle.vkg_lists.proofs.Members.{each_from_recursion}
use Rattle.vkg_ddl.specs.declared.written.WrittenTable.{WrittenTable}
use Rattle.vkg_ddl.specs.FirstFault.{first_fault}
use Rattle.vkg_ddl.specs.NameChecks.{same_name, table_again, table_twice}
use Rattle.vkg_schema.specs.declared.table.Table.{Table}
use Rattle.vkg_schema.specs.Meets.{IsTable, IsWellFormed}
use Rattle.vkg_schema.specs.Names.{HasOwnNames, table_name}
use Rattle.vkg_schema.specs.Resolve.{schema_of, table_at}
use Rattle.vkg_schema.proofs.Faultless.{IsFaultless, faultless, nowhere}

module _ (tables : List WrittenTable) (d : WrittenTable) (once : table_twice tables ≡ None) where
  abbrev named : ℕ → List ℕ
  named i = (get_or tables i d).name.text

  -- no table before the one at j has its name
  is_first : (j : ℕ) → j < length tables → list_any (λ u. same_name (get_or tables j d).name u.name) (take j tables) ≡ false
  is_first j h =
      let places = range_with_len 0 (length tables) in
      let from_zero : 0 + j ≡ j = omega arith in
      let there : Contains places j = subst (Contains places) (get_or-range_with_len 0 (length tables) j 0 h ∙ from_zero) (Contains-get_or places j 0 (subst (λ n. j < n) (sym (length-range_with_len 0 (length tables))) h)) in
      let fine = each_from_recursion (λ i. table_again tables (slice_get tables i) i ≡ None) places (least_of-each (λ i. table_again tables (slice_get tables i) i) places once) j there in
      nowhere (list_any (λ u. same_name (get_or tables j d).name u.name) (take j tables)) (get_or tables j d).name.at (subst (λ o. table_again tables o j ≡ None) (slice_get-get_or tables j d h) fine)

  not_before : (i j : ℕ) → i < j → j < length tables → named i ≡ named j → ⊥
  not_before i j b h e =
      let lower : bytes_eq (str_to_ascii_lowercase (named j)) (str_to_ascii_lowercase (named i)) ≡ true = (bytes_eq-Decides _ _).1 (ap str_to_ascii_lowercase (sym e)) in
      let short = length-take-le j tables (omega arith) in
      let again = list_any_at (λ u. same_name (get_or tables j d).name u.name) (take j tables) i d (subst (λ n. i < n) (sym short) b) (subst (λ (u : WrittenTable). same_name (get_or tables j d).name u.name ≡ true) (sym (get_or-take j tables i d b)) lower) in
      true≢false (sym again ∙ is_first j h)

  each_once : (i j : ℕ) → i < length tables → j < length tables → named i ≡ named j → i ≡ j
  each_once i j g h e = elim (cases_order i j) [
    | inl s ↦ s
    | inr o ↦ elim o [ inl b ↦ absurd (not_before i j b h e) | inr b ↦ absurd (not_before j i b g (sym e)) ]
  ]

  name_is : (i : ℕ) → i < length tables → table_name (schema_of tables) i ≡ named i
  name_is i h = ap (λ o. option_map_or (λ t. t.name) o []) (slice_get-map (table_at tables) tables i) ∙ ap (λ o. option_map_or (λ t. t.name) (option_map (table_at tables) o) []) (slice_get-get_or tables i d h)

  apart : (i j : ℕ) → i < length (schema_of tables) → j < length (schema_of tables) → table_name (schema_of tables) i ≡ table_name (schema_of tables) j → i ≡ j
  apart i j g h e =
      let long = length-map tables (table_at tables) in
      let a : i < length tables = subst (λ n. i < n) long g in
      let b : j < length tables = subst (λ n. j < n) long h in
      each_once i j a b (sym (name_is i a) ∙ e ∙ name_is j b)

apart_in : (tables : List WrittenTable) → table_twice tables ≡ None → (i j : ℕ) → i < length (schema_of tables) → j < length (schema_of tables) → table_name (schema_of tables) i ≡ table_name (schema_of tables) j → i ≡ j
apart_in [] once i j g h e = absurd (let none : i < 0 = g in omega (arith, none))
apart_in (t ∷ ts) once i j g h e = apart (t ∷ ts) t once i j g h e

named_utf8 : (schema : List Table) → IsWellFormed schema → (i : ℕ) → IsUtf8 (table_name schema i)
named_utf8 schema form i = elim (slice_get_cases schema i).1 [
  | inl w ↦ let t : IsTable schema w.0 = each_from_recursion (IsTable schema) schema form w.0 (i, w.1, w.3) in subst (λ o. IsUtf8 (option_map_or (λ (u : Table). u.name) o [])) (sym w.2) t.name
  | inr w ↦ subst (λ o. IsUtf8 (option_map_or (λ (u : Table). u.name) o [])) (sym w.1) IsUtf8-nil
]

pub own_names : (tables : List WrittenTable) → first_fault tables ≡ None → IsWellFormed (schema_of tables) → HasOwnNames (schema_of tables)
own_names tables e form = let fine : IsFaultless tables = faultless tables e in record { utf8 = named_utf8 (schema_of tables) form; apart = apart_in tables fine.names_once }
