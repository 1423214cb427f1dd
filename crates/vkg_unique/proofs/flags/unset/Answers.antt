-- One more flag for one more column.
use Rattle.std.proofs.Common.{◌∙◌, ◌++◌, ◌∷◌, [], arith, false, get_or, take, sym, ap}
use Rattle.std.proofs.lemmas.List.{map-append, take_more}
use Rattle.vkg_cells.specs.declared.cell.SqlType.TheVariants as kind
use Rattle.vkg_unique.specs.Sure.{unset}
use Rattle.vkg_unique.proofs.flags.unset.Goals as goal

pub loop-preserved : goal.loop-preserved
loop-preserved c =
    let ks = c.args.kinds.now in
    let i = c.loop.index in
    c.in_ok-push.ensures.ok
    ∙ ap (λ fs. fs ++ false ∷ []) c.loop.invariant
    ∙ sym (ap unset (take_more ks i kind.Text (omega (arith, c.loop-test.true))) ∙ map-append (λ k. false) (take i ks) (get_or ks i kind.Text ∷ []))
