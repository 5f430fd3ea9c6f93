use Rattle.std.proofs.Common.{◌≡◌, ◌∙◌, sym, subst}
use Rattle.rd_client.specs.Core.{ClientCoreState, refresh, refreshes}
use Rattle.rd_world.proofs.ClientLemmas.{may_refresh_short, keeps_call, refresh_elsewhere}
use Rattle.rd_world.proofs.client.Client.refresh.Goals as goal

pub refresh-requires : goal.refresh-requires
refresh-requires c =
    may_refresh_short c.self.inside.core c.args.device c.args.body c.self.invariant.stays c.requires (sym c.has_device.ensures ∙ c.if-has_device.true)

pub invariant_of-self : goal.invariant_of-self
invariant_of-self c =
    keeps_call c.self.inside.core c.refresh.new.self c.self.inside.ids.items (refreshes c.args.device c.args.body) c.requires c.refresh.ensures.step c.refresh.ensures.kept c.self.invariant

pub returns-else-has_device : goal.returns-else-has_device
returns-else-has_device c =
    let same : refresh c.self.inside.core c.args.device c.args.body ≡ c.self.inside.core =
    refresh_elsewhere c.self.inside.core c.args.device c.args.body (sym c.has_device.ensures ∙ c.if-has_device.false) in
    subst (λ (client : ClientCoreState). client ≡ refresh client c.args.device c.args.body) c.self.view_is (sym same)
