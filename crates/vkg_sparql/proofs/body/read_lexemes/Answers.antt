use Rattle.std.proofs.Common.{refl, sym, ◌∙◌}
use Rattle.vkg_grammar.specs.Forest.{tree}
use Rattle.vkg_sparql.proofs.Failing.{checked_named, is_query}
use Rattle.vkg_sparql.proofs.body.read_lexemes.Goals as goal

pub returns-in-Some-clause-err : goal.returns-in-Some-clause-err
returns-in-Some-clause-err c =
    checked_named c.args.text.now c.args.base.now c.utf8.text c.args.tokens.now c.requires.cut (tree c.args.parsed.now.forest c.args.parsed.now.root) c.requires.shallow c.requires.the_tree
    c.requires.lexed c.in_ok-environment.ensures c.body_start.ensures c.behind-body.ensures c.in_ok-named.ensures refl c.in-Some.found (sym c.in_ok-checked.ensures ∙ c.in-Some.is)

pub returns-clause-ok : goal.returns-clause-ok
returns-clause-ok c =
    is_query c.args.text.now c.args.base.now c.utf8.text c.args.tokens.now c.requires.cut (tree c.args.parsed.now.forest c.args.parsed.now.root) c.requires.shallow c.requires.the_tree
    c.requires.lexed c.in_ok-environment.ensures c.body_start.ensures c.behind-body.ensures c.in_ok-named.ensures refl _ (sym c.in_ok-checked.ensures ∙ c.in_default.is) c.in_ok-query.ensures
