use Rattle.std.proofs.Common.{◌≡◌, ◌∙◌, ap, ap₂}
use Rattle.std.proofs.lemmas.Result.{IfOk-weaker}
use Rattle.clap.specs.Words.{App, app_of, with_subcommand}
use Rattle.vkg_cli.specs.CommandLine.{dump_app, query_app, sql_app, vkg_alone}
use Rattle.vkg_cli.proofs.command_line.program.Goals as goal

pub returns : goal.returns
returns c =
    let one : app_of c.in_ok-subcommand.field-0 ≡ with_subcommand vkg_alone dump_app.top =
    c.in_ok-subcommand.ensures.shape c.in_ok-dump.ensures.local ∙ ap₂ with_subcommand c.alone.ensures (ap (λ (a : App). a.top) c.in_ok-dump.ensures.app) in
    let two : app_of c.in_ok-subcommand-2.field-0 ≡ with_subcommand (with_subcommand vkg_alone dump_app.top) query_app.top =
    c.in_ok-subcommand-2.ensures.shape c.in_ok-query.ensures.local ∙ ap₂ with_subcommand one (ap (λ (a : App). a.top) c.in_ok-query.ensures.app) in
    let three : app_of c.in_ok-subcommand-3.field-0 ≡ with_subcommand (with_subcommand (with_subcommand vkg_alone dump_app.top) query_app.top) sql_app.top =
    c.in_ok-subcommand-3.ensures.shape c.in_ok-sql.ensures.local ∙ ap₂ with_subcommand two (ap (λ (a : App). a.top) c.in_ok-sql.ensures.app) in
    IfOk-weaker c.subcommand-4.result _ _
    (λ r h. h.shape c.in_ok-gen_command.ensures.local ∙ ap₂ with_subcommand three (ap (λ (a : App). a.top) c.in_ok-gen_command.ensures.app))
    c.subcommand-4.ensures
