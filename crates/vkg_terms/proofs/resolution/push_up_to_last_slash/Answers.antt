use Rattle.std.proofs.Common.{◌∙◌, ◌++◌, sym, ap, arith, List, ℕ, string_bytes}
use Rattle.std.proofs.lemmas.List.{append-nil}
use Rattle.vkg_terms.proofs.Cuts.{last_slash, no_slash, put_slash}
use Rattle.vkg_terms.proofs.resolution.push_up_to_last_slash.Goals as goal

pub returns-in_ok-push-in-Some : goal.returns-in_ok-push-in-Some
returns-in_ok-push-in-Some c =
    put_slash _ _ _ _ _ _ (c.in_ok-push_str-in-Some.ensures.bytes ∙ ap (λ (l : List ℕ). string_bytes c.args.out.now ++ l) c.split_at.ensures.front)
    (c.in_ok-push-in-Some.ensures.ascii (omega arith)) c.in_ok-push-in-Some.ensures.bytes (last_slash c.args.path.now _ c.in-Some.at c.rfind.ensures.cases c.in-Some.is)

pub returns-in-None : goal.returns-in-None
returns-in-None c = let e = no_slash c.args.path.now _ c.rfind.ensures.cases c.in-None.is in sym (ap (λ (l : List ℕ). string_bytes c.args.out.now ++ l) e ∙ append-nil _)
