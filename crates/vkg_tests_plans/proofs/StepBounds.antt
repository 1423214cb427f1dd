-- The steps of a scan of three rows.
use Rattle.std.proofs.Common.{◌≡◌, ◌∙◌, sym, ap, ℕ, ◌+◌, ◌≤◌, List, length, Result, Ok, Err, arith}
use Rattle.std.specs.Prelude.{IfOk, IsPermutation, OnOk}
use Rattle.std.proofs.lemmas.List.Sorted.{length_permutation}
use Rattle.vkg_schema.specs.Rows.{Database, Row, rows_of as table_rows}
use Rattle.vkg_plan.specs.declared.plan.Plan.{Plan as PlanValue}
use Rattle.vkg_plan.specs.declared.plan.Plan.TheFolds.{fold-roll-Plan}
use Rattle.vkg_plan.specs.declared.plan.Plan.TheOpen.{Plan-F}
use Rattle.vkg_plan.specs.declared.plan.Plan.TheVariants as value
use Rattle.vkg_plan.specs.declared.plan.Plan.TheVariants.{rolls-Scan}
use Rattle.vkg_plan.specs.Kinds.{Tables}
use Rattle.vkg_plan.specs.Plan.{Plan, Scan}
use Rattle.vkg_plan.specs.Rows.{rows_of}
use Rattle.vkg_plan.specs.Seen.{plan_seen, plan_step}
use Rattle.vkg_driven.specs.Touches.{nodes, touches}

seen-Scan : (table : ℕ) → plan_seen (value.Scan table) ≡ Scan table
seen-Scan table = ap plan_seen (sym (rolls-Scan table)) ∙ fold-roll-Plan Plan plan_step (Plan-F.Scan table)

module _ (s : Tables) (db : Database) (p : PlanValue) (n m : ℕ) (e : p ≡ value.Scan 0) (three : length (table_rows db 0) ≡ 3) where
  seen : plan_seen p ≡ Scan 0
  seen = ap plan_seen e ∙ seen-Scan 0

  one-node : nodes (plan_seen p) ≡ 1
  one-node = ap nodes seen

  three-touched : touches s (plan_seen p) db ≡ 3
  three-touched = ap (λ q. touches s q db) seen ∙ three

  three-rows : length (rows_of s (plan_seen p) db) ≡ 3
  three-rows = ap (λ q. length (rows_of s q db)) seen ∙ three

  pub at-most : {E : Type 0} (r : Result (List Row) E) → OnOk r (m ≤ n + touches s (plan_seen p) db + nodes (plan_seen p)) → OnOk r (m ≤ n + 4)
  at-most (Ok rows) h = omega (arith, h, one-node, three-touched)
  at-most (Err f) h = tt

  pub at-least : {E : Type 0} (r : Result (List Row) E) → IfOk r (λ rows. IsPermutation rows (rows_of s (plan_seen p) db)) → IfOk r (λ rows. n + length rows ≤ m + nodes (plan_seen p)) → OnOk r (n + 2 ≤ m)
  at-least (Ok rows) b h = let l = length_permutation rows (rows_of s (plan_seen p) db) b in omega (arith, h, l, one-node, three-rows)
  at-least (Err f) b h = tt
