use Rattle.std.proofs.Common.{List, [], ◌∷◌, Ok, Err, subst}
use Rattle.vkg_turtle.specs.declared.triple.Triple.{Triple}
use Rattle.vkg_maps.specs.declared.mapping.Mapping.{Mapping}
use Rattle.vkg_cli.specs.declared.load.TheConstants.{LIMIT}
use Rattle.vkg_cli.specs.Stages.{Answers}
use Rattle.vkg_cli.specs.Work.{ReadsTriples}
use Rattle.vkg_cli.proofs.Ran.{determined_loads, determined_settles, ran_settle, ran_stop, ran_then}
use Rattle.vkg_cli.proofs.Whole.{one_document}
use Rattle.vkg_cli.proofs.AskedNames.{load_asks}
use Rattle.vkg_cli.proofs.mapping.load_text.Goals as goal

pub returns-in-Err-clause-ran : goal.returns-in-Err-clause-ran
returns-in-Err-clause-ran g c = ran_stop _ _ _ _ _ c.in-Err.ensures.ran

pub returns-in-Err-triples_of-clause-ran : goal.returns-in-Err-triples_of-clause-ran
returns-in-Err-triples_of-clause-ran g c =
    let is = subst (λ b. Answers {A = List Triple} (ReadsTriples b c.args.base.now) (Err c.in-Err-triples_of.stop)) c.deref.ensures.value c.in-Err-triples_of.ensures.value in
    ran_then _ _ _ _ _ _ _ (λ files. determined_loads LIMIT files _) c.in-Ok.ensures.ran (ran_stop _ _ _ _ _ (ran_settle _ _ (Err c.in-Err-triples_of.stop) is))

pub returns-clause-ran : goal.returns-clause-ran
returns-clause-ran g c =
    let is = subst (λ b. Answers {A = List Triple} (ReadsTriples b c.args.base.now) (Ok c.in-Ok-triples_of.triples)) c.deref.ensures.value c.in-Ok-triples_of.ensures.value in
    ran_then _ _ _ _ _ _ _ (λ files. determined_loads LIMIT files _) c.in-Ok.ensures.ran
    (ran_then _ _ _ _ _ _ _ (λ files. determined_settles _ (one_document _ _)) (ran_settle _ _ (Ok c.in-Ok-triples_of.triples) is)
    (ran_settle _ _ c.mapping_of.result (rw c.as_slice.ensures at c.mapping_of.ensures.value)))

pub returns-in-Err-clause-asked : goal.returns-in-Err-clause-asked
returns-in-Err-clause-asked g c = c.in-Err.ensures.asked

pub returns-in-Err-triples_of-clause-asked : goal.returns-in-Err-triples_of-clause-asked
returns-in-Err-triples_of-clause-asked g c = load_asks {A = Mapping} _ _ _ _ (c.args.name.now ∷ []) (Err c.in-Err-triples_of.stop) c.in-Ok.ensures.ran c.in-Ok.ensures.asked

pub returns-clause-asked : goal.returns-clause-asked
returns-clause-asked g c = load_asks _ _ _ _ (c.args.name.now ∷ []) c.mapping_of.result c.in-Ok.ensures.ran c.in-Ok.ensures.asked
