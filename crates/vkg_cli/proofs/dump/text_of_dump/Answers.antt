use Rattle.vkg_cli.proofs.Ran.{ran_settle, ran_stop, ran_then}
use Rattle.vkg_cli.proofs.Whole.{determined_database, determined_faultless}
use Rattle.vkg_lists.proofs.Onto.{map_lacking}
use Rattle.vkg_cli.proofs.Headline.{dump_text}
use Rattle.vkg_cli.proofs.Names.{first_more}
use Rattle.vkg_cli.proofs.dump.text_of_dump.Goals as goal

pub returns-in-Err-clause-ran : goal.returns-in-Err-clause-ran
returns-in-Err-clause-ran g c = ran_stop _ _ _ _ _ c.in-Err.ensures.ran

pub returns-in-Err-load_faultless-clause-ran : goal.returns-in-Err-load_faultless-clause-ran
returns-in-Err-load_faultless-clause-ran g c =
    ran_then _ _ _ _ _ _ _ (λ files. determined_database files _ _) c.in-Ok.ensures.ran (ran_stop _ _ _ _ _ c.in-Err-load_faultless.ensures.ran)

pub returns-clause-ran : goal.returns-clause-ran
returns-clause-ran g c =
    ran_then _ _ _ _ _ _ _ (λ files. determined_database files _ _) c.in-Ok.ensures.ran
    (ran_then _ _ _ _ _ _ _ (λ files. determined_faultless files _ _ _) c.in-Ok-load_faultless.ensures.ran (ran_settle _ _ c.lines.result c.lines.ensures.value))

pub returns-clause-text : goal.returns-clause-text
returns-clause-text g c =
    dump_text _ _ _ _ _ _ _ _ _ c.in-Ok.ensures.ran c.in-Ok.ensures.meets c.in-Ok-load_faultless.ensures.ran
    (λ none. c.in-Ok-load_faultless.ensures.graph (map_lacking _ _ none)) c.lines.result c.lines.ensures.order

pub returns-in-Err-clause-asked : goal.returns-in-Err-clause-asked
returns-in-Err-clause-asked g c = c.in-Err.ensures.asked

pub returns-in-Err-load_faultless-clause-asked : goal.returns-in-Err-load_faultless-clause-asked
returns-in-Err-load_faultless-clause-asked g c = first_more _ _ _ _ _ c.in-Ok.ensures.asked.1 c.in-Err-load_faultless.ensures.ran.more

pub returns-clause-asked : goal.returns-clause-asked
returns-clause-asked g c = first_more _ _ _ _ _ c.in-Ok.ensures.asked.1 c.in-Ok-load_faultless.ensures.ran.more
