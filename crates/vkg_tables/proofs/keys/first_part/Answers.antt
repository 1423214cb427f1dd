use Rattle.std.proofs.Common.{◌≡◌, ◌∙◌, ℕ, List, None, Some, ap, option_map, string_bytes, sym}
use Rattle.vkg_cells.specs.Keys.{both_bytes, key_parts}
use Rattle.vkg_tables.proofs.PartsLemmas.{part-first}
use Rattle.vkg_tables.proofs.keys.first_part.Goals as goal

pub returns-in_default : goal.returns-in_default
returns-in_default c =
    let keys : None ≡ key_parts c.args.cell.now = ap (option_map both_bytes) (sym c.in_default.is) ∙ c.in_ok-text.ensures.parts in
    ap (option_map (λ (p : List ℕ × List ℕ). p.0)) keys ∙ part-first c.args.cell.now c.requires

pub returns : goal.returns
returns c =
    let keys : Some (string_bytes c.in-Some.text, string_bytes c.in-Some.field-0-1) ≡ key_parts c.args.cell.now = ap (option_map both_bytes) (sym c.in-Some.is) ∙ c.in_ok-text.ensures.parts in
    ap (option_map (λ (p : List ℕ × List ℕ). p.0)) keys ∙ part-first c.args.cell.now c.requires
