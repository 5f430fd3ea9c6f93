use Rattle.std.proofs.Common.{◌∙◌, ap, subst, sym}
use Rattle.rd_client.specs.Core.{ClientCoreState}
use Rattle.rd_world.specs.Client.{KeepsClient}
use Rattle.rd_world.specs.Opening.{ids_of}
use Rattle.rd_world.proofs.ClientLemmas.{first_keeps}
use Rattle.rd_world.proofs.client.Client.new.Goals as goal

pub invariant_of-result : goal.invariant_of-result
invariant_of-result c =
    subst (λ (core : ClientCoreState). KeepsClient core c.in_ok-ids.ids.items) (sym c.new.ensures.step)
    (first_keeps c.args.devices c.in_ok-ids.ids.items c.requires.devices c.requires.short (c.in_ok-ids.ensures ∙ ap ids_of c.as_slice.ensures))
