use Rattle.std.proofs.Common.{◌∙◌, ap}
use Rattle.rd_client.specs.Core.{becomes_ready, plain}
use Rattle.rd_client.specs.Heard.{client_devices, first_list}
use Rattle.std.specs.Option.{option_map}
use Rattle.rd_client.proofs.HearLemmas.{went_on}
use Rattle.rd_client.proofs.hearing.go_on.Goals as goal

pub returns-clause-ok : goal.returns-clause-ok
returns-clause-ok c =
    went_on (client_devices c.args.devices.now c.args.gone.now) c.args.end.now c.open.new.self c.args.hello.now c.in-Ok.row.0 c.in-Ok.row.1 c.in-Ok.row.2
    c.plain_if-first.result c.plain_if-second.result c.in_ok-list.list
    (rw c.state-state.ensures at c.in-Ok.ensures.row)
    (c.plain_if-first.ensures ∙ ap (λ m. option_map plain m) c.in_ok-write_opening.ensures)
    (c.plain_if-second.ensures ∙ ap (λ m. option_map plain m) c.in_ok-write_opening-2.ensures)
    (c.in_ok-list.ensures ∙ ap (λ b. first_list (client_devices c.args.devices.now c.args.gone.now) b) (c.becomes_ready.ensures ∙ ap (λ s. becomes_ready s c.in-Ok.row.2) c.state-state.ensures))
    c.in_ok-open.ensures.ok
