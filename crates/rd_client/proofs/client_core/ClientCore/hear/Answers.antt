use Rattle.std.proofs.Common.{subst}
use Rattle.rd_client.specs.Core.{AreDevices}
use Rattle.rd_client.specs.Heard.{client_devices}
use Rattle.rd_client.proofs.HearLemmas.{end_held, end_sound, heard_kept, sound_answer}
use Rattle.rd_client.proofs.KeptLemmas.{kept_elsewhere}
use Rattle.rd_client.proofs.ListingLemmas.{announces_are}
use Rattle.rd_client.proofs.client_core.ClientCore.hear.Goals as goal

pub listen-requires : goal.listen-requires
listen-requires c = rw c.as_slice-devices.ensures.value (subst AreDevices (announces_are c.self.inside.gone c.self.inside.devices.items) c.self.invariant.devices)

pub invariant_of-self : goal.invariant_of-self
invariant_of-self c = heard_kept _ _ _ _ _ _ _ c.self.invariant (rw c.as_slice-devices.ensures.value at c.listen.ensures)

pub returns-in-Err-clause-kept : goal.returns-in-Err-clause-kept
returns-in-Err-clause-kept c = heard_kept _ _ _ _ _ _ _ c.self.invariant (rw c.as_slice-devices.ensures.value at c.listen.ensures)

pub returns-in-Err-clause-held : goal.returns-in-Err-clause-held
returns-in-Err-clause-held c = rw (← c.self.view_is) (end_held (client_devices c.as_slice-devices.result.now c.self.inside.gone) _ c.listen.new.end _ c.in-Err.fault (rw c.in-Err.is at c.listen.ensures))

pub invariant_of-self-in-Nothing : goal.invariant_of-self-in-Nothing
invariant_of-self-in-Nothing c = heard_kept _ _ _ _ _ _ _ c.self.invariant (rw c.as_slice-devices.ensures.value at c.listen.ensures)

pub invariant_of-self-in-Print : goal.invariant_of-self-in-Print
invariant_of-self-in-Print c = heard_kept _ _ _ _ _ _ _ c.self.invariant (rw c.as_slice-devices.ensures.value at c.listen.ensures)

pub invariant_of-self-in-Ask : goal.invariant_of-self-in-Ask
invariant_of-self-in-Ask c = kept_elsewhere _ _ _ (heard_kept _ _ _ _ _ _ _ c.self.invariant (rw c.as_slice-devices.ensures.value at c.listen.ensures))

pub returns-in-Nothing-clause-kept : goal.returns-in-Nothing-clause-kept
returns-in-Nothing-clause-kept c = heard_kept _ _ _ _ _ _ _ c.self.invariant (rw c.as_slice-devices.ensures.value at c.listen.ensures)

pub returns-in-Nothing-clause-held : goal.returns-in-Nothing-clause-held
returns-in-Nothing-clause-held c = rw (← c.self.view_is) (sound_answer _ _ (end_sound _ _ _ _ c.in-Ok.came (rw c.in-Ok.is at c.listen.ensures)))

pub returns-in-Print-clause-kept : goal.returns-in-Print-clause-kept
returns-in-Print-clause-kept c = heard_kept _ _ _ _ _ _ _ c.self.invariant (rw c.as_slice-devices.ensures.value at c.listen.ensures)

pub returns-in-Print-clause-held : goal.returns-in-Print-clause-held
returns-in-Print-clause-held c = rw (← c.self.view_is) (sound_answer _ _ (end_sound _ _ _ _ c.in-Ok.came (rw c.in-Ok.is at c.listen.ensures)))

pub returns-in-Ask-clause-kept : goal.returns-in-Ask-clause-kept
returns-in-Ask-clause-kept c = kept_elsewhere _ _ _ (heard_kept _ _ _ _ _ _ _ c.self.invariant (rw c.as_slice-devices.ensures.value at c.listen.ensures))

pub returns-in-Ask-clause-held : goal.returns-in-Ask-clause-held
returns-in-Ask-clause-held c = rw (← c.self.view_is) (sound_answer _ _ (end_sound _ _ _ _ c.in-Ok.came (rw c.in-Ok.is at c.listen.ensures)))
