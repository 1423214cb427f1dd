use Rattle.std.proofs.Common.{◌≡◌, ◌∙◌, sym, ap, subst, fold, IfOk, Option, List, [], ◌∷◌}
use Rattle.std.proofs.lemmas.Iterator.{YieldsList-from_chars}
use Rattle.std.proofs.lemmas.Iterator.Consumers.{YieldsList-end}
use Rattle.std.proofs.lemmas.List.{map-id}
use Rattle.std.proofs.lemmas.List.Sums.{fold-append}
use Rattle.vkg_terms.specs.declared.template.Part.{Part}
use Rattle.vkg_terms.specs.TemplateReader.{start, step, finished}
use Rattle.vkg_terms.proofs.TemplateLemmas.{finished-run}
use Rattle.vkg_terms.proofs.template.read_parts.Goals as goal

pub loop-c-preserved : goal.loop-c-preserved
loop-c-preserved c = c.in_ok-read.ensures ∙ ap (λ s. step s c.in-Some.c) c.loop-c.invariant ∙ sym (fold-append step start c.loop-c.yielded (c.in-Some.c ∷ []))

pub returns : goal.returns
returns c =
    let end = YieldsList-end (YieldsList-from_chars c.args.text.now c.utf8.text cc) c.loop-c.yielded _ c.loop-c.yielded_by _ _ c.in-None.is c.next.ensures.steps in
    let read = ap finished (c.loop-c.invariant ∙ ap (fold step start) (sym (map-id c.loop-c.yielded) ∙ end.0)) ∙ finished-run c.args.text.now c.utf8.text in
    subst (λ (x : Option (List Part)). IfOk c.finish.result (λ t. t ≡ x)) read c.finish.ensures
