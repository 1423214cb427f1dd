-- The row is kept exactly where it is none of those of its text.
use Rattle.std.proofs.Common.{◌≡◌, ◌∷◌, ◌∙◌, [], ap, sym, true}
use Rattle.std.specs.List.{list_any}
use Rattle.vkg_hash.specs.Groups.{group}
use Rattle.vkg_index.specs.Keys.{row_text}
use Rattle.vkg_plan.specs.Rows.{one_row}
use Rattle.vkg_feed.specs.Kept.{keep}
use Rattle.vkg_feed.proofs.KeptLemmas.{is-known, kept-new, kept-old}
use Rattle.vkg_feed.proofs.kept.Kept.push_new.Goals as goal

pub returns-then-is_there : goal.returns-then-is_there
returns-then-is_there c =
    let s = c.self.inside in
    let cells = c.args.cells in
    let text : c.as_str-key.result.now ≡ row_text cells = c.as_str-key.ensures.value ∙ (c.in_ok-text.ensures ∙ ap row_text c.as_slice.ensures) in
    let once : s.once ≡ true = ap (λ k. k.once) c.self.view_is ∙ c.requires in
    let known = is-known cells c.as_slice-2.result.now s.rows c.as_slice-rows.result.now c.as_str-key.result.now (group s.groups c.as_str-key.result.now) c.is_there.result c.is_there.ensures c.as_slice-rows.ensures c.as_slice-2.ensures text (c.self.invariant once c.as_str-key.result.now) in
    kept-old c.args.self.now cells c.requires (sym (known ∙ ap (λ k. list_any (λ r. one_row r cells) k.rows) c.self.view_is) ∙ c.if-is_there.true)

pub returns-in-Ok : goal.returns-in-Ok
returns-in-Ok c =
    let s = c.self.inside in
    let cells = c.args.cells in
    let text : c.as_str-key.result.now ≡ row_text cells = c.as_str-key.ensures.value ∙ (c.in_ok-text.ensures ∙ ap row_text c.as_slice.ensures) in
    let once : s.once ≡ true = ap (λ k. k.once) c.self.view_is ∙ c.requires in
    let known = is-known cells c.as_slice-2.result.now s.rows c.as_slice-rows.result.now c.as_str-key.result.now (group s.groups c.as_str-key.result.now) c.is_there.result c.is_there.ensures c.as_slice-rows.ensures c.as_slice-2.ensures text (c.self.invariant once c.as_str-key.result.now) in
    kept-new (record { once = s.once; rows = s.rows }) c.add_row.new.rows cells once (sym known ∙ c.if-is_there.false) c.in-Ok.ensures.rows
    ∙ ap (λ k. keep k (cells ∷ [])) c.self.view_is
