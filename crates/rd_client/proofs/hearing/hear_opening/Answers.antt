use Rattle.std.proofs.Common.{◌∙◌, Err, ap}
use Rattle.rd_client.specs.Heard.{client_devices}
use Rattle.rd_client.proofs.HearLemmas.{opening_failed, opening_lacked}
use Rattle.rd_client.proofs.hearing.hear_opening.Goals as goal

pub returns-in-Err-Memory : goal.returns-in-Err-Memory
returns-in-Err-Memory c =
    opening_lacked (client_devices c.args.devices.now c.args.gone.now) _ _ c.requires.coming
    (λ p named. c.read_opening.ensures.lacking p named (c.in-Err-Memory.is ∙ ap (λ no. Err no) c.in-Err-Memory.field-0-is))

pub returns : goal.returns
returns c = opening_failed (client_devices c.args.devices.now c.args.gone.now) _ _ _ c.in-Ok.hello c.in-Err.fault c.requires.coming c.in-Ok.ensures.spelled c.in-Err.ensures.err
