use Rattle.std.proofs.Common.{◌∙◌, List, ap, set, subst, sym}
use Rattle.std.specs.Prelude.{◌==◌, map, position}
use Rattle.rd_devices.specs.declared.list.Announce.{Announce}
use Rattle.rd_client.specs.Core.{AreDevices, ClientCoreState, ClientDevice, announce_in}
use Rattle.rd_client.specs.Heard.{client_devices}
use Rattle.rd_client.proofs.ListingLemmas.{announces_are}
use Rattle.rd_client.proofs.MarkLemmas.{has_place, kept_refreshed, refreshed_at}
use Rattle.rd_client.proofs.client_core.ClientCore.refresh.Goals as goal

pub invariant_of-self : goal.invariant_of-self
invariant_of-self c =
    let apart = subst AreDevices (announces_are c.self.inside.gone c.self.inside.devices.items) c.self.invariant.devices in
    let at = ap (λ ds. position (λ (a : Announce). a.id == c.args.device) ds) (sym c.as_slice.ensures.value) ∙ sym c.in-Some.ensures in
    let same = ap (λ (a : Announce). client_devices (set c.self.inside.devices.items c.in-Some.place (record a { body = c.args.body })) c.self.inside.gone) c.index_mut-announce.ensures.value
    ∙ refreshed_at c.self.inside.gone c.args.device c.args.body c.self.inside.devices.items c.in-Some.place c.index_mut-announce.result.now at apart.apart in
    let are = rw (← c.self.view_is) at c.requires.1 in
    kept_refreshed _ _ c.self.invariant (subst (λ (ds : List ClientDevice). AreDevices (map announce_in ds)) (sym same) are)

pub returns-in-Some-clause-step : goal.returns-in-Some-clause-step
returns-in-Some-clause-step c =
    let apart = subst AreDevices (announces_are c.self.inside.gone c.self.inside.devices.items) c.self.invariant.devices in
    let at = ap (λ ds. position (λ (a : Announce). a.id == c.args.device) ds) (sym c.as_slice.ensures.value) ∙ sym c.in-Some.ensures in
    let same = ap (λ (a : Announce). client_devices (set c.self.inside.devices.items c.in-Some.place (record a { body = c.args.body })) c.self.inside.gone) c.index_mut-announce.ensures.value
    ∙ refreshed_at c.self.inside.gone c.args.device c.args.body c.self.inside.devices.items c.in-Some.place c.index_mut-announce.result.now at apart.apart in
    let make : List ClientDevice → ClientCoreState = λ ds. record { core = c.self.inside.end; channel = c.self.inside.channel; asked = c.self.inside.asked; devices = ds } in
    (c.requires, rw (← c.self.view_is) (ap make same))

pub returns-in-Some-clause-kept : goal.returns-in-Some-clause-kept
returns-in-Some-clause-kept c =
    let apart = subst AreDevices (announces_are c.self.inside.gone c.self.inside.devices.items) c.self.invariant.devices in
    let at = ap (λ ds. position (λ (a : Announce). a.id == c.args.device) ds) (sym c.as_slice.ensures.value) ∙ sym c.in-Some.ensures in
    let same = ap (λ (a : Announce). client_devices (set c.self.inside.devices.items c.in-Some.place (record a { body = c.args.body })) c.self.inside.gone) c.index_mut-announce.ensures.value
    ∙ refreshed_at c.self.inside.gone c.args.device c.args.body c.self.inside.devices.items c.in-Some.place c.index_mut-announce.result.now at apart.apart in
    let are = rw (← c.self.view_is) at c.requires.1 in
    kept_refreshed _ _ c.self.invariant (subst (λ (ds : List ClientDevice). AreDevices (map announce_in ds)) (sym same) are)

pub returns-in-None-clause-step : goal.returns-in-None-clause-step
returns-in-None-clause-step c =
    let has = rw (← c.self.view_is) at c.requires.0 in
    absurd (has_place c.self.inside.gone c.args.device c.self.inside.devices.items has
    (ap (λ ds. position (λ (a : Announce). a.id == c.args.device) ds) (sym c.as_slice.ensures.value) ∙ sym c.in-None.ensures))
