-- The parts are typed on the row, and their values are what the step asks for.
use Rattle.std.proofs.Common.{arith}
use Rattle.vkg_expr.proofs.TypedParts.{item-is_part, part-MakeIri, asks-MakeIri, part-IriOf, asks-IriOf, part-MakeBlank, asks-MakeBlank, part-MakeLit, asks-MakeLit, part-Lex, asks-Lex, part-IriSafe, asks-IriSafe, part-IsNull, asks-IsNull, part-Not, asks-Not, part-Ebv, asks-Ebv, part-Same_left, part-Same_right, parts-Concat, asks-Concat, parts-And, asks-And, parts-Or, asks-Or, parts-Coalesce, asks-Coalesce, parts-Sparql, asks-Sparql}
use Rattle.vkg_eval.proofs.evaluation.+eval.Goals as goal

pub eval_on-eval_on-requires : goal.eval_on-eval_on-requires
eval_on-eval_on-requires t c = let p = part-MakeIri c.args.e.now c.in-MakeIri.part c.deref.result.now c.args.row.now c.in-MakeIri.is c.deref.ensures c.requires in (omega (arith, p.0), p.1)

pub eval_on-after_one-requires : goal.eval_on-after_one-requires
eval_on-after_one-requires t c = asks-MakeIri c.eval_on.result c.args.e.now c.in-MakeIri.part c.deref.result.now c.args.row.now c.in-MakeIri.is c.deref.ensures c.requires c.eval_on.ensures

pub eval_on-eval_on-requires-in-IriOf : goal.eval_on-eval_on-requires-in-IriOf
eval_on-eval_on-requires-in-IriOf t c = let p = part-IriOf c.args.e.now c.in-IriOf.field-0 c.in-IriOf.part c.deref-in-IriOf.result.now c.args.row.now c.in-IriOf.is c.deref-in-IriOf.ensures c.requires in (omega (arith, p.0), p.1)

pub eval_on-after_one-requires-in-IriOf : goal.eval_on-after_one-requires-in-IriOf
eval_on-after_one-requires-in-IriOf t c = asks-IriOf c.eval_on-in-IriOf.result c.args.e.now c.in-IriOf.field-0 c.in-IriOf.part c.deref-in-IriOf.result.now c.args.row.now c.in-IriOf.is c.deref-in-IriOf.ensures c.requires c.eval_on-in-IriOf.ensures

pub eval_on-eval_on-requires-in-MakeBlank : goal.eval_on-eval_on-requires-in-MakeBlank
eval_on-eval_on-requires-in-MakeBlank t c = let p = part-MakeBlank c.args.e.now c.in-MakeBlank.part c.deref-in-MakeBlank.result.now c.args.row.now c.in-MakeBlank.is c.deref-in-MakeBlank.ensures c.requires in (omega (arith, p.0), p.1)

pub eval_on-after_one-requires-in-MakeBlank : goal.eval_on-after_one-requires-in-MakeBlank
eval_on-after_one-requires-in-MakeBlank t c = asks-MakeBlank c.eval_on-in-MakeBlank.result c.args.e.now c.in-MakeBlank.part c.deref-in-MakeBlank.result.now c.args.row.now c.in-MakeBlank.is c.deref-in-MakeBlank.ensures c.requires c.eval_on-in-MakeBlank.ensures

pub eval_on-eval_on-requires-in-MakeLit : goal.eval_on-eval_on-requires-in-MakeLit
eval_on-eval_on-requires-in-MakeLit t c = let p = part-MakeLit c.args.e.now c.in-MakeLit.part c.deref-in-MakeLit.result.now c.in-MakeLit.field-1 c.args.row.now c.in-MakeLit.is c.deref-in-MakeLit.ensures c.requires in (omega (arith, p.0), p.1)

pub eval_on-after_one-requires-in-MakeLit : goal.eval_on-after_one-requires-in-MakeLit
eval_on-after_one-requires-in-MakeLit t c = asks-MakeLit c.eval_on-in-MakeLit.result c.args.e.now c.in-MakeLit.part c.deref-in-MakeLit.result.now c.in-MakeLit.field-1 c.args.row.now c.in-MakeLit.is c.deref-in-MakeLit.ensures c.requires c.eval_on-in-MakeLit.ensures

pub eval_on-eval_on-requires-in-Lex : goal.eval_on-eval_on-requires-in-Lex
eval_on-eval_on-requires-in-Lex t c = let p = part-Lex c.args.e.now c.in-Lex.part c.deref-in-Lex.result.now c.args.row.now c.in-Lex.is c.deref-in-Lex.ensures c.requires in (omega (arith, p.0), p.1)

pub eval_on-after_one-requires-in-Lex : goal.eval_on-after_one-requires-in-Lex
eval_on-after_one-requires-in-Lex t c = asks-Lex c.eval_on-in-Lex.result c.args.e.now c.in-Lex.part c.in-Lex.is

pub eval_on-eval_on-requires-in-IriSafe : goal.eval_on-eval_on-requires-in-IriSafe
eval_on-eval_on-requires-in-IriSafe t c = let p = part-IriSafe c.args.e.now c.in-IriSafe.part c.deref-in-IriSafe.result.now c.args.row.now c.in-IriSafe.is c.deref-in-IriSafe.ensures c.requires in (omega (arith, p.0), p.1)

pub eval_on-after_one-requires-in-IriSafe : goal.eval_on-after_one-requires-in-IriSafe
eval_on-after_one-requires-in-IriSafe t c = asks-IriSafe c.eval_on-in-IriSafe.result c.args.e.now c.in-IriSafe.part c.deref-in-IriSafe.result.now c.args.row.now c.in-IriSafe.is c.deref-in-IriSafe.ensures c.requires c.eval_on-in-IriSafe.ensures

pub eval_on-eval_on-requires-in-IsNull : goal.eval_on-eval_on-requires-in-IsNull
eval_on-eval_on-requires-in-IsNull t c = let p = part-IsNull c.args.e.now c.in-IsNull.part c.deref-in-IsNull.result.now c.args.row.now c.in-IsNull.is c.deref-in-IsNull.ensures c.requires in (omega (arith, p.0), p.1)

pub eval_on-after_one-requires-in-IsNull : goal.eval_on-after_one-requires-in-IsNull
eval_on-after_one-requires-in-IsNull t c = asks-IsNull c.eval_on-in-IsNull.result c.args.e.now c.in-IsNull.part c.in-IsNull.is

pub eval_on-eval_on-requires-in-Not : goal.eval_on-eval_on-requires-in-Not
eval_on-eval_on-requires-in-Not t c = let p = part-Not c.args.e.now c.in-Not.part c.deref-in-Not.result.now c.args.row.now c.in-Not.is c.deref-in-Not.ensures c.requires in (omega (arith, p.0), p.1)

pub eval_on-after_one-requires-in-Not : goal.eval_on-after_one-requires-in-Not
eval_on-after_one-requires-in-Not t c = asks-Not c.eval_on-in-Not.result c.args.e.now c.in-Not.part c.deref-in-Not.result.now c.args.row.now c.in-Not.is c.deref-in-Not.ensures c.requires c.eval_on-in-Not.ensures

pub eval_on-eval_on-requires-in-Ebv : goal.eval_on-eval_on-requires-in-Ebv
eval_on-eval_on-requires-in-Ebv t c = let p = part-Ebv c.args.e.now c.in-Ebv.part c.deref-in-Ebv.result.now c.args.row.now c.in-Ebv.is c.deref-in-Ebv.ensures c.requires in (omega (arith, p.0), p.1)

pub eval_on-after_one-requires-in-Ebv : goal.eval_on-after_one-requires-in-Ebv
eval_on-after_one-requires-in-Ebv t c = asks-Ebv c.eval_on-in-Ebv.result c.args.e.now c.in-Ebv.part c.deref-in-Ebv.result.now c.args.row.now c.in-Ebv.is c.deref-in-Ebv.ensures c.requires c.eval_on-in-Ebv.ensures

pub eval_on-eval_on-requires-in-Same : goal.eval_on-eval_on-requires-in-Same
eval_on-eval_on-requires-in-Same t c = let p = part-Same_left c.args.e.now c.in-Same.a c.in-Same.b c.deref-in-Same.result.now c.args.row.now c.in-Same.is c.deref-in-Same.ensures c.requires in (omega (arith, p.0), p.1)

pub eval_on-eval_on-requires-in-Same-2 : goal.eval_on-eval_on-requires-in-Same-2
eval_on-eval_on-requires-in-Same-2 t c = let p = part-Same_right c.args.e.now c.in-Same.a c.in-Same.b c.deref-in-Same-2.result.now c.args.row.now c.in-Same.is c.deref-in-Same-2.ensures c.requires in (omega (arith, p.0), p.1)

pub eval_on-eval_each-requires : goal.eval_on-eval_each-requires
eval_on-eval_each-requires t c = let p = parts-Concat c.args.e.now c.in-Concat.list c.as_slice.result.now c.args.row.now c.in-Concat.is c.as_slice.ensures c.requires in (omega (arith, p.0), p.1)

pub eval_on-after_each-requires : goal.eval_on-after_each-requires
eval_on-after_each-requires t c = asks-Concat c.eval_each.result c.args.e.now c.in-Concat.list c.as_slice.result.now c.args.row.now c.in-Concat.is c.as_slice.ensures c.requires c.eval_each.ensures

pub eval_on-eval_each-requires-in-And : goal.eval_on-eval_each-requires-in-And
eval_on-eval_each-requires-in-And t c = let p = parts-And c.args.e.now c.in-And.list c.as_slice-in-And.result.now c.args.row.now c.in-And.is c.as_slice-in-And.ensures c.requires in (omega (arith, p.0), p.1)

pub eval_on-after_each-requires-in-And : goal.eval_on-after_each-requires-in-And
eval_on-after_each-requires-in-And t c = asks-And c.eval_each-in-And.result c.args.e.now c.in-And.list c.as_slice-in-And.result.now c.args.row.now c.in-And.is c.as_slice-in-And.ensures c.requires c.eval_each-in-And.ensures

pub eval_on-eval_each-requires-in-Or : goal.eval_on-eval_each-requires-in-Or
eval_on-eval_each-requires-in-Or t c = let p = parts-Or c.args.e.now c.in-Or.list c.as_slice-in-Or.result.now c.args.row.now c.in-Or.is c.as_slice-in-Or.ensures c.requires in (omega (arith, p.0), p.1)

pub eval_on-after_each-requires-in-Or : goal.eval_on-after_each-requires-in-Or
eval_on-after_each-requires-in-Or t c = asks-Or c.eval_each-in-Or.result c.args.e.now c.in-Or.list c.as_slice-in-Or.result.now c.args.row.now c.in-Or.is c.as_slice-in-Or.ensures c.requires c.eval_each-in-Or.ensures

pub eval_on-eval_each-requires-in-Coalesce : goal.eval_on-eval_each-requires-in-Coalesce
eval_on-eval_each-requires-in-Coalesce t c = let p = parts-Coalesce c.args.e.now c.in-Coalesce.list c.as_slice-in-Coalesce.result.now c.args.row.now c.in-Coalesce.is c.as_slice-in-Coalesce.ensures c.requires in (omega (arith, p.0), p.1)

pub eval_on-after_each-requires-in-Coalesce : goal.eval_on-after_each-requires-in-Coalesce
eval_on-after_each-requires-in-Coalesce t c = asks-Coalesce c.eval_each-in-Coalesce.result c.args.e.now c.in-Coalesce.list c.in-Coalesce.is

pub eval_on-eval_each-requires-in-Sparql : goal.eval_on-eval_each-requires-in-Sparql
eval_on-eval_each-requires-in-Sparql t c = let p = parts-Sparql c.args.e.now c.in-Sparql.field-0 c.in-Sparql.list c.as_slice-in-Sparql.result.now c.args.row.now c.in-Sparql.is c.as_slice-in-Sparql.ensures c.requires in (omega (arith, p.0), p.1)

pub eval_on-after_each-requires-in-Sparql : goal.eval_on-after_each-requires-in-Sparql
eval_on-after_each-requires-in-Sparql t c = asks-Sparql c.eval_each-in-Sparql.result c.args.e.now c.in-Sparql.field-0 c.in-Sparql.list c.as_slice-in-Sparql.result.now c.args.row.now c.in-Sparql.is c.as_slice-in-Sparql.ensures c.requires c.eval_each-in-Sparql.ensures

pub eval_each-eval_on-requires : goal.eval_each-eval_on-requires
eval_each-eval_on-requires t c = let p = item-is_part c.args.list.now c.e-item.result c.loop-e.e-index c.args.row.now c.loop-e-test.true c.e-item.is c.requires in (omega (arith, p.0), p.1)
