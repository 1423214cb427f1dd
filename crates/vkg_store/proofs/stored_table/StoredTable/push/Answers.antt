use Rattle.std.proofs.Common.{◌≡◌, ◌∙◌, ◌+◌, ◌++◌, ◌∷◌, [], sym, ap, subst, arith}
use Rattle.vkg_store.specs.Stored.{IsStored, table_seen}
use Rattle.vkg_store.proofs.HeldLemmas.{can-take, keeps-rows, keeps-table, on-err, row-long, row-seen, row-stored}
use Rattle.vkg_store.proofs.StoredLemmas.{IsStored-more}
use Rattle.vkg_store.proofs.stored_table.StoredTable.push.Goals as goal

pub put_row-requires : goal.put_row-requires
put_row-requires c =
    let s = c.self.inside in
    can-take c.args.texts.now s.rows c.requires.0 s.columns.items c.args.row.now c.self.invariant (subst (IsStored c.args.texts.now c.requires.0) (sym c.self.view_is) c.requires.1) c.requires.2

pub invariant_of-self : goal.invariant_of-self
invariant_of-self c = keeps-rows c.self.inside.rows c.self.inside.columns.items c.put_row.new.columns.items c.in_err-put_row.ensures.err

pub returns-in_err-put_row-clause-err : goal.returns-in_err-put_row-clause-err
returns-in_err-put_row-clause-err c =
    on-err c.from_residual.result (keeps-table c.self.inside.rows c.self.inside.columns.items c.put_row.new.columns.items c.in_err-put_row.ensures.err ∙ c.self.view_is)

pub returns-in_err-put_row-clause-stored : goal.returns-in_err-put_row-clause-stored
returns-in_err-put_row-clause-stored c columns h =
    let new = c.put_row.new.texts in
    subst (IsStored new columns) (sym (keeps-table c.self.inside.rows c.self.inside.columns.items c.put_row.new.columns.items c.in_err-put_row.ensures.err ∙ c.self.view_is))
    (IsStored-more c.args.texts.now new columns c.args.self.now c.in_err-put_row.ensures.extends h)

pub invariant_of-self-2 : goal.invariant_of-self-2
invariant_of-self-2 c =
    let s = c.self.inside in
    let old = c.args.texts.now in
    let row = c.args.row.now in
    let kept = subst (IsStored old c.requires.0) (sym c.self.view_is) c.requires.1 in
    let next : c.in-Some.more ≡ s.rows + 1 = omega (arith, c.in-Some.ensures) in
    row-long old c.put_row.new.texts c.in_ok-put_row.ensures.extends s.rows c.in-Some.more next c.requires.0 s.columns.items row c.put_row.new.columns.items
    kept (can-take old s.rows c.requires.0 s.columns.items row c.self.invariant kept c.requires.2) c.in_ok-put_row.ensures.ok

pub returns-clause-ok : goal.returns-clause-ok
returns-clause-ok c =
    let s = c.self.inside in
    let old = c.args.texts.now in
    let row = c.args.row.now in
    let kept = subst (IsStored old c.requires.0) (sym c.self.view_is) c.requires.1 in
    let next : c.in-Some.more ≡ s.rows + 1 = omega (arith, c.in-Some.ensures) in
    row-seen old c.put_row.new.texts c.in_ok-put_row.ensures.extends s.rows c.in-Some.more next c.requires.0 s.columns.items row c.put_row.new.columns.items
    kept (can-take old s.rows c.requires.0 s.columns.items row c.self.invariant kept c.requires.2) c.in_ok-put_row.ensures.ok
    ∙ ap (λ t. table_seen old t ++ row ∷ []) c.self.view_is

pub returns-clause-stored : goal.returns-clause-stored
returns-clause-stored c columns h =
    let s = c.self.inside in
    let old = c.args.texts.now in
    let row = c.args.row.now in
    let kept = subst (IsStored old c.requires.0) (sym c.self.view_is) c.requires.1 in
    let next : c.in-Some.more ≡ s.rows + 1 = omega (arith, c.in-Some.ensures) in
    row-stored old c.put_row.new.texts c.in_ok-put_row.ensures.extends s.rows c.in-Some.more next columns s.columns.items row c.put_row.new.columns.items
    (subst (IsStored old columns) (sym c.self.view_is) h) (can-take old s.rows c.requires.0 s.columns.items row c.self.invariant kept c.requires.2) c.in_ok-put_row.ensures.ok
