use Rattle.std.proofs.Common.{map, refl, subst, string_bytes}
use Rattle.rd_cli.specs.declared.words.Command.{Command}
use Rattle.rd_cli.specs.declared.words.Command.TheVariants as command
use Rattle.rd_cli.specs.Shapes.{HasShape}
use Rattle.rd_cli.proofs.RunLemmas.{client_runs, host_runs, load_runs, no_command}
use Rattle.rd_cli.proofs.top.run.Goals as goal

pub returns-in-Ok-Load : goal.returns-in-Ok-Load
returns-in-Ok-Load g c =
    let shape = subst (λ (x : Command). HasShape (map string_bytes c.args.words.now) x) c.in-Ok-Load.field-0-is c.in-Ok-Load.ensures.command in
    load_runs (map string_bytes c.args.words.now) _ _ _ _ _ _ _ c.in-Ok-Load.number _ shape (c.load.ensures, refl, refl, refl)

pub returns-in-Ok-Client : goal.returns-in-Ok-Client
returns-in-Ok-Client g c =
    let shape = subst (λ (x : Command). HasShape (map string_bytes c.args.words.now) x) c.in-Ok-Client.field-0-is c.in-Ok-Client.ensures.command in
    client_runs (map string_bytes c.args.words.now) _ _ _ _ _ _ _ _ (command.Client c.in-Ok-Client.field-0-0) _ shape shape c.client.ensures refl

pub returns-in-Ok-Host : goal.returns-in-Ok-Host
returns-in-Ok-Host g c =
    let shape = subst (λ (x : Command). HasShape (map string_bytes c.args.words.now) x) c.in-Ok-Host.field-0-is c.in-Ok-Host.ensures.command in
    host_runs (map string_bytes c.args.words.now) _ _ _ _ _ _ _ _ (command.Host c.in-Ok-Host.field-0-0) _ shape shape (c.host.ensures _) refl c.requires refl

pub returns-after-stop : goal.returns-after-stop
returns-after-stop g c = no_command _ _ _ _ _ _ c.in-Err.stop _ c.in-Err.ensures.err c.requires c.end.ensures
