use Rattle.std.proofs.Common.{ap, ◌∙◌}
use Rattle.rd_declared.specs.Devices.{device_parked}
use Rattle.rd_declared.specs.declared.device.SessionDevice.{SessionDevice}
use Rattle.rd_audit.proofs.WalkLemmas.{first_begins}
use Rattle.rd_audit.proofs.journals.next_replay.Goals as goal

-- src/journals.rt:130:1
pub returns : goal.returns
returns c quiet =
    first_begins c.args.devices.now.entries c.pop_first.new.self.entries c.in-Some.id c.in-Some.device c.in_ok-new.field-0 c.in-Some.ensures.removal quiet
    (λ rests. c.in_ok-new.ensures c.in-Some.device c.into_parts-state.ensures.state (ap (λ (s : SessionDevice). device_parked s) c.into_parts-state.ensures.state ∙ rests))
