use Rattle.std.proofs.Common.{◌∙◌, Some, ap, sym}
use Rattle.rd_devices.specs.DeviceList.{list_bytes}
use Rattle.rd_client.specs.Core.{plain}
use Rattle.rd_client.proofs.ListingLemmas.{list_countable, list_short, listed_are}
use Rattle.rd_client.proofs.hearing.first_list.Goals as goal

pub write_told-requires-clause-countable : goal.write_told-requires-clause-countable
write_told-requires-clause-countable c = list_countable c.args.devices.now c.requires.fit

pub write_told-requires-clause-short : goal.write_told-requires-clause-short
write_told-requires-clause-short c = list_short _ c.args.devices.now c.requires.fit

pub returns : goal.returns
returns c =
    rw c.if-not-ready.false
    (ap (λ o. Some o) (c.plain.ensures ∙ ap (λ m. plain m) (c.in_ok-message.ensures ∙ ap (λ ds. list_bytes ds) (sym (listed_are c.args.gone.now c.args.devices.now)))))
