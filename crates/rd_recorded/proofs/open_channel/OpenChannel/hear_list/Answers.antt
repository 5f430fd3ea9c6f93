use Rattle.std.proofs.Common.{◌≤◌, length, map, ap, ◌∙◌, sym, Ok, rules}
use Rattle.std.proofs.lemmas.List.{take_all}
use Rattle.rd_devices.specs.declared.list.Announce.{Announce}
use Rattle.rd_recorded.specs.Kept.{open_of}
use Rattle.rd_recorded.proofs.HeardLemmas.{list_heard}
use Rattle.rd_recorded.proofs.open_channel.OpenChannel.hear_list.Goals as goal

-- src/open_channel.rt:199:5
pub returns : goal.returns
returns c =
    let items = c.as_slice-device-items.result.now in
    let all : length items ≤ c.loop-device.device-index = search rules in
    let ids = c.loop-device.invariant.0 ∙ ap (map (λ (a : Announce). a.id)) (take_all c.loop-device.device-index items all ∙ c.as_slice-device-items.ensures) in
    list_heard c.args.entry c.as_slice.result.now c.args.message.now (open_of c.args.self.now) c.in_ok-list.list _ _ c.as_slice.ensures c.in_ok-list.ensures.spelled ids ∙ ap (λ o. Ok o) (sym c.in_ok-say.ensures)
