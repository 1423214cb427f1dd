use Rattle.std.proofs.Common.{◌≡◌, ◌∙◌, false, ◌++◌, [], ◌∷◌, nat_eq, sym, ap, subst}
use Rattle.std.specs.List.{list_any}
use Rattle.vkg_algebra.specs.Visible.{AddsEach}
use Rattle.vkg_algebra.proofs.VisibleLemmas.{adds_old, adds_new}
use Rattle.vkg_algebra.proofs.visible_variables.add.Goals as goal

pub returns-then-contains : goal.returns-then-contains
returns-then-contains c = adds_old c.args.found.now c.args.number (ap (list_any (λ k. nat_eq k c.args.number)) (sym c.as_slice.ensures) ∙ sym c.contains.ensures.value ∙ c.if-contains.true)

pub returns : goal.returns
returns c =
    let h : list_any (λ k. nat_eq k c.args.number) c.args.found.now ≡ false = ap (list_any (λ k. nat_eq k c.args.number)) (sym c.as_slice.ensures) ∙ sym c.contains.ensures.value ∙ c.if-contains.false in
    let more : c.push.new.self ≡ c.args.found.now ++ c.args.number ∷ [] = c.in_ok-push.ensures.ok in
    subst (λ s. AddsEach (c.args.number ∷ []) c.args.found.now s) (sym more) (adds_new c.args.found.now c.args.number h)
