use Rattle.std.proofs.Common.{[], ◌∷◌}
use Rattle.vkg_cli.proofs.Ran.{ran_settle, ran_stop, ran_then}
use Rattle.vkg_cli.proofs.Whole.{determined_asked, determined_mapping, determined_schema}
use Rattle.vkg_lists.proofs.Onto.{map_lacking}
use Rattle.vkg_cli.proofs.Headline.{sql_text_is}
use Rattle.vkg_cli.proofs.Names.{all_then, up_to_all, up_to_more, up_to_then}
use Rattle.vkg_cli.proofs.sql.text_of_sql.Goals as goal

pub returns-in-Err-clause-ran : goal.returns-in-Err-clause-ran
returns-in-Err-clause-ran g c = ran_stop _ _ _ _ _ c.in-Err.ensures.ran

pub returns-in-Err-load_mapping-clause-ran : goal.returns-in-Err-load_mapping-clause-ran
returns-in-Err-load_mapping-clause-ran g c =
    ran_then _ _ _ _ _ _ _ (λ files. determined_schema files _) c.in-Ok.ensures.ran (ran_stop _ _ _ _ _ c.in-Err-load_mapping.ensures.ran)

pub returns-in-Err-load_query-clause-ran : goal.returns-in-Err-load_query-clause-ran
returns-in-Err-load_query-clause-ran g c =
    ran_then _ _ _ _ _ _ _ (λ files. determined_schema files _) c.in-Ok.ensures.ran
    (ran_then _ _ _ _ _ _ _ (λ files. determined_mapping files _ _ _) c.in-Ok-load_mapping.ensures.ran (ran_stop _ _ _ _ _ c.in-Err-load_query.ensures.ran))

pub returns-clause-ran : goal.returns-clause-ran
returns-clause-ran g c =
    ran_then _ _ _ _ _ _ _ (λ files. determined_schema files _) c.in-Ok.ensures.ran
    (ran_then _ _ _ _ _ _ _ (λ files. determined_mapping files _ _ _) c.in-Ok-load_mapping.ensures.ran
    (ran_then _ _ _ _ _ _ _ (λ files. determined_asked files _ _) c.in-Ok-load_query.ensures.ran (ran_settle _ _ c.text.result c.text.ensures.value)))

pub returns-clause-text : goal.returns-clause-text
returns-clause-text g c =
    sql_text_is _ _ _ _ _ _ _ _ _ _ _ c.in-Ok.ensures.ran c.in-Ok-load_mapping.ensures.ran (λ none. c.in-Ok-load_mapping.ensures.graph (map_lacking _ _ none))
    c.in-Ok-load_query.ensures.ran c.text.result c.text.ensures.value

pub returns-in-Err-clause-asked : goal.returns-in-Err-clause-asked
returns-in-Err-clause-asked g c = up_to_more (_ ∷ []) _ _ _ c.in-Err.ensures.asked

pub returns-in-Err-load_mapping-clause-asked : goal.returns-in-Err-load_mapping-clause-asked
returns-in-Err-load_mapping-clause-asked g c = up_to_then (_ ∷ []) _ _ _ _ c.in-Ok.ensures.asked (up_to_more _ _ _ _ c.in-Err-load_mapping.ensures.asked)

pub returns-in-Err-load_query-clause-asked : goal.returns-in-Err-load_query-clause-asked
returns-in-Err-load_query-clause-asked g c =
    up_to_then (_ ∷ []) _ _ _ _ c.in-Ok.ensures.asked (up_to_then _ _ _ _ _ c.in-Ok-load_mapping.ensures.asked c.in-Err-load_query.ensures.asked)

pub returns-clause-asked : goal.returns-clause-asked
returns-clause-asked g c =
    up_to_all _ _ _ (all_then (_ ∷ []) _ _ _ _ c.in-Ok.ensures.asked (all_then _ _ _ _ _ c.in-Ok-load_mapping.ensures.asked c.in-Ok-load_query.ensures.asked))
