-- Its laws: a row passes one condition after another exactly where it passes both.
use Rattle.vkg_plan.specs.Plan.{Select, Join, Left}
use Rattle.vkg_rules.specs.Steps.{FallsAll, KeepsAll}
use Rattle.vkg_moves.specs.MemberLaw.{beside-falls, beside-keeps, joined-falls, joined-keeps}
use Rattle.vkg_moves.specs.MergeSelects.{merge_selects}
use Rattle.vkg_moves.specs.SelectLaw.{over-falls, over-keeps}

pub merge_selects-keeps : KeepsAll merge_selects
merge_selects-keeps s form (Select c p) x t e = over-keeps s c p x t e
merge_selects-keeps s form (Join ps c) x t e = joined-keeps s ps c x t e
merge_selects-keeps s form (Left p q c) x t e = beside-keeps s p q c x t e
merge_selects-keeps s form _ x t e = cc

pub merge_selects-falls : FallsAll merge_selects
merge_selects-falls s form (Select c p) x t e = over-falls s c p x e
merge_selects-falls s form (Join ps c) x t e = joined-falls s ps c x e
merge_selects-falls s form (Left p q c) x t e = beside-falls s p q c x e
merge_selects-falls s form _ x t e = cc
