use Rattle.std.proofs.Common.{◌∙◌, Err, ap}
use Rattle.rd_host.proofs.HearLemmas.{opening_failed, opening_lacked}
use Rattle.rd_host.proofs.hearing.hear_opening.Goals as goal

pub returns-in-Err-Memory-clause-step : goal.returns-in-Err-Memory-clause-step
returns-in-Err-Memory-clause-step c =
    opening_lacked _ _ c.requires (λ p named. c.read_opening.ensures.lacking p named (c.in-Err-Memory.is ∙ ap (λ no. Err no) c.in-Err-Memory.field-0-is))

pub returns-clause-step : goal.returns-clause-step
returns-clause-step c = opening_failed _ _ _ c.in-Ok.hello c.in-Err.fault c.requires c.in-Ok.ensures.spelled c.in-Err.ensures.err
