use Rattle.std.proofs.Common.{rules}
use Rattle.std.proofs.lemmas.Fn.{dedup_same}
use Rattle.vkg_order.specs.Kept.{have_one_line}
use Rattle.vkg_order.proofs.held.drop_repeats.Goals as goal

pub returns-clause-value : goal.returns-clause-value
returns-clause-value c = dedup_same _ have_one_line _ (λ x y b f' x' y' k. search rules) _ _ c.dedup_by.ensures.filtered
