use Rattle.std.proofs.Common.{◌≡◌, ◌∙◌, [], ◌∷◌, ap, true}
use Rattle.rd_devices.specs.Removal.{removal_bytes}
use Rattle.rd_client.specs.Core.{plain}
use Rattle.rd_client.proofs.KeptLemmas.{removal_short}
use Rattle.rd_client.proofs.MarkLemmas.{as_before, kept_as_before, marked_are, told, told_kept, unmarked_are}
use Rattle.rd_client.proofs.client_core.ClientCore.tell_removed.Goals as goal

pub invariant_of-self-in-Ok : goal.invariant_of-self-in-Ok
invariant_of-self-in-Ok c =
    let same : c.plain.result ≡ plain (removal_bytes (c.args.device ∷ [])) =
    c.plain.ensures ∙ ap (λ m. plain m) (c.in_ok-message.ensures.written ∙ ap (λ ids. removal_bytes ids) (c.of-removal.ensures ∙ c.in_ok-from_array.ensures.items)) in
    let marks = marked_are c.self.inside.gone c.insert.new.self c.args.device true c.in_ok-insert.ensures.updates.0 c.self.inside.devices.items in
    told_kept _ c.args.device true _ _ _ _ c.self.invariant (removal_short c.args.device) c.in-Ok.ensures.ok same marks

pub returns-in-Ok-clause-step : goal.returns-in-Ok-clause-step
returns-in-Ok-clause-step c =
    let same : c.plain.result ≡ plain (removal_bytes (c.args.device ∷ [])) =
    c.plain.ensures ∙ ap (λ m. plain m) (c.in_ok-message.ensures.written ∙ ap (λ ids. removal_bytes ids) (c.of-removal.ensures ∙ c.in_ok-from_array.ensures.items)) in
    let marks = marked_are c.self.inside.gone c.insert.new.self c.args.device true c.in_ok-insert.ensures.updates.0 c.self.inside.devices.items in
    (c.requires, rw (← c.self.view_is) (told _ c.args.device true _ _ _ _ c.in-Ok.ensures.ok same marks))

pub returns-in-Ok-clause-kept : goal.returns-in-Ok-clause-kept
returns-in-Ok-clause-kept c =
    let same : c.plain.result ≡ plain (removal_bytes (c.args.device ∷ [])) =
    c.plain.ensures ∙ ap (λ m. plain m) (c.in_ok-message.ensures.written ∙ ap (λ ids. removal_bytes ids) (c.of-removal.ensures ∙ c.in_ok-from_array.ensures.items)) in
    let marks = marked_are c.self.inside.gone c.insert.new.self c.args.device true c.in_ok-insert.ensures.updates.0 c.self.inside.devices.items in
    told_kept _ c.args.device true _ _ _ _ c.self.invariant (removal_short c.args.device) c.in-Ok.ensures.ok same marks

pub invariant_of-self-in-Err : goal.invariant_of-self-in-Err
invariant_of-self-in-Err c =
    let none = rw (← c.self.view_is) at c.requires.2 in
    let marks = unmarked_are c.self.inside.gone c.insert.new.self c.remove.new.self c.args.device c.in_ok-insert.ensures.updates.0 c.remove.ensures.updates.0 c.self.inside.devices.items none in
    kept_as_before _ _ _ c.self.invariant c.in-Err.ensures.err marks

pub returns-clause-step : goal.returns-clause-step
returns-clause-step c =
    let none = rw (← c.self.view_is) at c.requires.2 in
    let marks = unmarked_are c.self.inside.gone c.insert.new.self c.remove.new.self c.args.device c.in_ok-insert.ensures.updates.0 c.remove.ensures.updates.0 c.self.inside.devices.items none in
    (c.requires, rw (← c.self.view_is) (as_before _ _ _ c.in-Err.ensures.err marks))

pub returns-clause-kept : goal.returns-clause-kept
returns-clause-kept c =
    let none = rw (← c.self.view_is) at c.requires.2 in
    let marks = unmarked_are c.self.inside.gone c.insert.new.self c.remove.new.self c.args.device c.in_ok-insert.ensures.updates.0 c.remove.ensures.updates.0 c.self.inside.devices.items none in
    kept_as_before _ _ _ c.self.invariant c.in-Err.ensures.err marks
