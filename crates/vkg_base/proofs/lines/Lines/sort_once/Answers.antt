use Rattle.std.proofs.lemmas.List.Filters.{dedup_is}
use Rattle.vkg_lists.proofs.Ascending.{sorted_dedup, sorted_dedup-ascending, sorted_dedup-members}
use Rattle.vkg_base.proofs.lines.Lines.sort_once.Goals as goal

pub returns-clause-ascending : goal.returns-clause-ascending
returns-clause-ascending c = rw (dedup_is _ _ _ c.dedup.ensures.filtered, c.self.view_is) (sorted_dedup-ascending _ c.sort.ensures.sorted)

pub returns-clause-same : goal.returns-clause-same
returns-clause-same c = rw (dedup_is _ _ _ c.dedup.ensures.filtered, c.self.view_is) (sorted_dedup-members _ _ c.sort.ensures.same)

pub returns-clause-value : goal.returns-clause-value
returns-clause-value c = rw (dedup_is _ _ _ c.dedup.ensures.filtered, c.self.view_is) (sorted_dedup _ _ c.sort.ensures.same c.sort.ensures.sorted)
