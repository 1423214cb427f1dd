use Rattle.std.proofs.Common.{◌≡◌, ◌∙◌, []}
use Rattle.vkg_algebra.specs.Seen.{algebra_seen}
use Rattle.vkg_algebra.specs.Visible.{appearing, each_once}
use Rattle.vkg_algebra.proofs.VisibleLemmas.{each_once_appearing}
use Rattle.vkg_algebra.proofs.visible_variables.visible.Goals as goal

pub returns-clause-by_appearance : goal.returns-clause-by_appearance
returns-clause-by_appearance c = c.in_ok-add_all.ensures [] c.new-found.ensures

pub returns-clause-value : goal.returns-clause-value
returns-clause-value c =
    let found : c.add_all.new.found ≡ each_once (appearing (algebra_seen c.args.algebra.now)) = c.in_ok-add_all.ensures [] c.new-found.ensures in
    found ∙ each_once_appearing (algebra_seen c.args.algebra.now)
