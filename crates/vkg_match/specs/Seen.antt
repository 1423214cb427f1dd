-- What the program's type stands for.
use Rattle.std.specs.Prelude.{map}
use Rattle.vkg_expr.specs.Seen.{expr_seen}
use Rattle.vkg_match.specs.declared.answer.Verdict.{Verdict as VerdictValue}
use Rattle.vkg_match.specs.declared.answer.Verdict.TheVariants as value
use Rattle.vkg_match.specs.Verdict.{Verdict, Never, All}

abbrev pub verdict_seen : VerdictValue → Verdict
verdict_seen value.Never = Never
verdict_seen (value.All es) = All (map expr_seen es)
