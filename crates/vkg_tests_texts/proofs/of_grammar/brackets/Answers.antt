use Rattle.std.proofs.Common.{true, false, List, [], ◌∷◌, refl, sym, ap, subst, lit<}
use Rattle.vkg_tests_texts.specs.declared.of_grammar.TheConstants.{BRACKETS}
use Rattle.vkg_grammar.specs.Certified.{Claim, IsCertified}
use Rattle.vkg_grammar.specs.Grammar.{IsLL1}
use Rattle.vkg_grammar.proofs.Certifying.{certificates_hold}
use Rattle.vkg_tests_texts.proofs.of_grammar.brackets.Goals as goal

-- what begins and follows each symbol
abbrev claims : List Claim
claims =
    record { empty = false; begin = 0 ∷ []; follow = 0 ∷ 1 ∷ []; level = 3 }
    ∷ record { empty = false; begin = 0 ∷ 1 ∷ []; follow = 0 ∷ 1 ∷ []; level = 2 }
    ∷ record { empty = false; begin = 0 ∷ []; follow = 0 ∷ 1 ∷ []; level = 1 }
    ∷ record { empty = true; begin = 0 ∷ []; follow = 1 ∷ []; level = 1 }
    ∷ record { empty = false; begin = 1 ∷ []; follow = 0 ∷ 1 ∷ []; level = 1 }
    ∷ []

certified : IsCertified BRACKETS 2 claims
certified = record { some = lit< tt; closed = refl; fits = refl; claimed = refl; lower = refl }

pub returns-clause-ll1 : goal.returns-clause-ll1
returns-clause-ll1 c = subst IsLL1 (sym (ap (λ g. g.rules) c.with_limit.ensures)) (certificates_hold BRACKETS 2 claims certified).2
