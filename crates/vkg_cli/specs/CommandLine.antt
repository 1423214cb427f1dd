-- The command line's definition, as `clap` reads it.
use Rattle.std.specs.Prelude.{true, Some, codes}
use Rattle.clap.specs.Words.{App, Rule, Text, new_app, new_rule, with_rule, with_subcommand}
use Rattle.clap.specs.Simple.{on_top}
use Rattle.clap.specs.declared.builder.ArgAction.TheVariants.{Set}

-- an option with one value, which has to be given
abbrev pub option_rule : Text → Rule
option_rule name = record (new_rule name) {
  long = Some name;
  required = true;
  action = Some Set;
}

-- an option with one value, which may be left out
abbrev pub optional_rule : Text → Rule
optional_rule name = record (new_rule name) {
  long = Some name;
  action = Some Set;
}

-- a word of its own, which has to be given
abbrev pub word_rule : Text → Rule
word_rule name = record (new_rule name) {
  required = true;
  action = Some Set;
}

-- a command over a schema, tables and a base
abbrev pub tables_app : Text → App
tables_app name = with_rule (with_rule (with_rule (new_app name) (option_rule (codes "schema"))) (option_rule (codes "data"))) (option_rule (codes "base"))

abbrev pub dump_app : App
dump_app = with_rule (tables_app (codes "dump")) (optional_rule (codes "mapping"))

abbrev pub query_app : App
query_app = with_rule (with_rule (tables_app (codes "query")) (option_rule (codes "query"))) (optional_rule (codes "mapping"))

abbrev pub sql_app : App
sql_app =
    with_rule (with_rule (with_rule (with_rule (new_app (codes "sql")) (option_rule (codes "schema"))) (option_rule (codes "base"))) (option_rule (codes "query")))
    (optional_rule (codes "mapping"))

abbrev pub gen_app : App
gen_app = with_rule (new_app (codes "gen")) (word_rule (codes "N"))

-- no flag or command asks for help or a version, and a command has to be named
abbrev pub vkg_alone : App
vkg_alone = on_top (λ s. record s {
  disable_help_flag = true;
  disable_help_subcommand = true;
  disable_version_flag = true;
  subcommand_required = true;
}) (new_app (codes "vkg"))

-- the whole command line
abbrev pub vkg_app : App
vkg_app = with_subcommand (with_subcommand (with_subcommand (with_subcommand vkg_alone dump_app.top) query_app.top) sql_app.top) gen_app.top
