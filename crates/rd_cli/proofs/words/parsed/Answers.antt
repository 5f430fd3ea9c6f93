use Rattle.std.proofs.Common.{◌∙◌, ap}
use Rattle.std.specs.Prelude.{option_map}
use Rattle.rd_cli.proofs.ShapeLemmas.{meets, met_none, met_shape, name_of_rows, refused}
use Rattle.rd_cli.proofs.words.parsed.Goals as goal

pub returns-in-Ok : goal.returns-in-Ok
returns-in-Ok c =
    let meeting =
    meets _ _ _ c.in_ok-parser.ensures c.requires.plain c.in-Ok.ensures.kinds (λ simple. c.subcommand_name.ensures ∙ name_of_rows _ ∙ ap (λ p. option_map (λ q. q.0) p) (c.in-Ok.ensures.matches simple).1) in
    record { command = met_shape _ _ _ meeting c.named.ensures.command; err = met_none _ _ _ meeting c.named.ensures.err }

pub returns-in-Err-clause-err : goal.returns-in-Err-clause-err
returns-in-Err-clause-err c =
    refused _ _ _ c.in_ok-parser.ensures c.requires.no_client c.requires.no_host c.requires.no_load (λ takes. c.stop_of.ensures.memory (c.kind.ensures ∙ c.in-Err.ensures.passes takes)) c.stop_of.ensures.known
