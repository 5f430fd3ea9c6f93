use Rattle.std.proofs.Common.{ℕ, ◌-◌, List, length, subst, sym, ap, ◌∙◌, rules, arith}
use Rattle.std.specs.List.{AllByRecursion}
use Rattle.rd_declared.specs.Declaring.{AreDeclarable, bare_lines, declared_devices}
use Rattle.rd_declared.specs.Devices.{Declared}
use Rattle.rd_declared.proofs.DeclaringLemmas.{declared_openable}
use Rattle.rd_script.specs.declared.line.NumberedLine.{NumberedLine}
use Rattle.rd_audit.specs.Walked.{HasNoneWaiting}
use Rattle.rd_audit.proofs.WalkLemmas.{quiet_devices}
use Rattle.rd_declared.proofs.DeclaredLemmas.{scripts_are_declared}
use Rattle.rd_script.specs.declared.keyword.Mode.TheVariants as mode
use Rattle.rd_audit_file.specs.Journals.{IsJournalText}
use Rattle.rd_recorded.specs.Entries.{recorded_channels}
use Rattle.rd_audit.specs.Audit.{HasJournals, HasRecording, HasScript, cut_script, cut_text, no_magic, no_memory}
use Rattle.rd_audit.specs.Refusals.{refused_field, refused_recording, refused_script}
use Rattle.rd_audit.specs.declared.no.AuditNo.TheVariants as no
use Rattle.rd_audit.proofs.AuditLemmas.{ids_are, judged_parts, recording_refused, refused, script_refused, text_refused}
use Rattle.rd_audit.proofs.PartLemmas.{counted_goes, file_goes}
use Rattle.rd_audit.proofs.judging.audit.Goals as goal

-- src/judging.rt:31:20
pub returns-in_err-file : goal.returns-in_err-file
returns-in_err-file c = refused c.args.bytes.now (refused_field c.in_err-file.field-0.0) c.from_residual.result (search rules) (no_magic c.in_err-file.field-0.0 (sym c.begin.ensures ∙ c.in_err-file.was))

-- src/judging.rt:32:49
pub returns-in_err-counted : goal.returns-in_err-counted
returns-in_err-counted c =
    refused c.args.bytes.now (refused_field c.in_err-counted.field-0.0) c.from_residual-in_err-counted.result (search rules) (cut_script c.in_ok-file.file c.in_err-counted.field-0.0 (sym c.begin.ensures ∙ c.in_ok-file.was) c.in_err-counted.ensures.0)

-- src/judging.rt:32:18
pub returns-in_err-script : goal.returns-in_err-script
returns-in_err-script c =
    refused c.args.bytes.now (refused_script c.in_err-script.field-0.0) c.from_residual-in_err-script.result (search rules)
    (script_refused c.args.bytes.now c.in_ok-file.file c.counted.new.self c.in_ok-counted.field-0.now c.in_err-script.field-0.0 (sym c.begin.ensures ∙ c.in_ok-file.was) c.in_ok-counted.ensures c.in_err-script.ensures.bad)

-- src/judging.rt:33:19
pub declared_devices-requires : goal.declared_devices-requires
declared_devices-requires c = subst (λ lines. AreDeclarable lines) (sym c.as_slice.ensures) (scripts_are_declared mode.Both c.in_ok-counted.field-0.now c.in_ok-script.script c.in_ok-script.ensures.script).each

-- src/judging.rt:33:19
pub returns-in_err-devices : goal.returns-in_err-devices
returns-in_err-devices c = refused c.args.bytes.now no.Memory c.from_residual-in_err-devices.result (search rules) no_memory

-- src/judging.rt:34:16
pub returns-in_err-text : goal.returns-in_err-text
returns-in_err-text c =
    let script : HasScript c.args.bytes.now c.in_ok-script.script c.counted.new.self = record { begin = c.in_ok-file.file; text = c.in_ok-counted.field-0.now; magic = sym c.begin.ensures ∙ c.in_ok-file.was; counted = c.in_ok-counted.ensures; reads = c.in_ok-script.ensures.script } in
    refused c.args.bytes.now (refused_field c.in_err-text.field-0.0) c.from_residual-in_err-text.result (search rules) (cut_text c.in_ok-script.script c.counted.new.self c.in_err-text.field-0.0 script c.in_err-text.ensures.0)

-- src/judging.rt:36:31
pub returns-in_err-ids_of : goal.returns-in_err-ids_of
returns-in_err-ids_of c = refused c.args.bytes.now no.Memory c.from_residual-in_err-ids_of.result (search rules) no_memory

-- src/judging.rt:36:5
pub check_text-requires : goal.check_text-requires
check_text-requires c =
    let whole = file_goes c.args.bytes.now c.in_ok-file.file (sym c.begin.ensures ∙ c.in_ok-file.was) in
    let first = counted_goes c.in_ok-file.file c.counted.new.self c.in_ok-counted.field-0.now c.in_ok-counted.ensures in
    let second = counted_goes c.counted.new.self c.counted-2.new.self c.in_ok-text.text.now c.in_ok-text.ensures in
    omega (arith, whole, first.whole, second.whole, second.place, c.at.ensures, c.requires)

-- src/judging.rt:36:5
pub returns-in_err-check_text : goal.returns-in_err-check_text
returns-in_err-check_text c =
    let script : HasScript c.args.bytes.now c.in_ok-script.script c.counted.new.self = record { begin = c.in_ok-file.file; text = c.in_ok-counted.field-0.now; magic = sym c.begin.ensures ∙ c.in_ok-file.was; counted = c.in_ok-counted.ensures; reads = c.in_ok-script.ensures.script } in
    let second = counted_goes c.counted.new.self c.counted-2.new.self c.in_ok-text.text.now c.in_ok-text.ensures in
    let ids = ids_are c.in_ok-script.script c.as_slice.result.now c.in_ok-devices.devices.entries c.in_ok-ids_of.field-0.items c.as_slice-2.result.now c.as_slice.ensures c.in_ok-devices.ensures c.in_ok-ids_of.ensures c.as_slice-2.ensures.value in
    refused c.args.bytes.now (refused_field c.in_err-check_text.field-0.0) c.from_residual-in_err-check_text.result (search rules)
    (text_refused c.args.bytes.now c.in_ok-script.script c.counted.new.self c.counted-2.new.self c.in_ok-text.text.now c.as_slice-2.result.now (c.at.result - length c.in_ok-text.text.now) c.in_err-check_text.field-0.0 script c.in_ok-text.ensures ids
    (omega (arith, second.place, c.at.ensures)) c.in_err-check_text.ensures)

-- src/judging.rt:37:20
pub recorded_channels-requires : goal.recorded_channels-requires
recorded_channels-requires c =
    let whole = file_goes c.args.bytes.now c.in_ok-file.file (sym c.begin.ensures ∙ c.in_ok-file.was) in
    let first = counted_goes c.in_ok-file.file c.counted.new.self c.in_ok-counted.field-0.now c.in_ok-counted.ensures in
    let second = counted_goes c.counted.new.self c.counted-2.new.self c.in_ok-text.text.now c.in_ok-text.ensures in
    omega (arith, whole, first.whole, second.whole, c.at-2.ensures, ap length c.rest.ensures, c.requires)

-- src/judging.rt:37:20
pub returns-in_err-channels : goal.returns-in_err-channels
returns-in_err-channels c =
    let script : HasScript c.args.bytes.now c.in_ok-script.script c.counted.new.self = record { begin = c.in_ok-file.file; text = c.in_ok-counted.field-0.now; magic = sym c.begin.ensures ∙ c.in_ok-file.was; counted = c.in_ok-counted.ensures; reads = c.in_ok-script.ensures.script } in
    let ids = ids_are c.in_ok-script.script c.as_slice.result.now c.in_ok-devices.devices.entries c.in_ok-ids_of.field-0.items c.as_slice-2.result.now c.as_slice.ensures c.in_ok-devices.ensures c.in_ok-ids_of.ensures c.as_slice-2.ensures.value in
    let text = c.in_ok-check_text.ensures in
    let journals : HasJournals c.args.bytes.now c.in_ok-script.script text.0 c.counted-2.new.self = record { begin = c.counted.new.self; text = c.in_ok-text.text.now; behind = script; counted = c.in_ok-text.ensures; reads = subst (λ (xs : List ℕ). IsJournalText xs c.in_ok-text.text.now text.0) ids text.1 } in
    refused c.args.bytes.now (refused_recording c.in_err-channels.field-0.0) c.from_residual-in_err-channels.result (search rules)
    (recording_refused c.args.bytes.now c.in_ok-script.script text.0 c.counted-2.new.self c.at-2.result c.rest.result.now c.in_err-channels.field-0.0 journals c.at-2.ensures c.rest.ensures c.in_err-channels.ensures.refused)

-- src/judging.rt:38:5
pub judge-requires-clause-fits : goal.judge-requires-clause-fits
judge-requires-clause-fits c =
    let whole = file_goes c.args.bytes.now c.in_ok-file.file (sym c.begin.ensures ∙ c.in_ok-file.was) in
    let first = counted_goes c.in_ok-file.file c.counted.new.self c.in_ok-counted.field-0.now c.in_ok-counted.ensures in
    let second = counted_goes c.counted.new.self c.counted-2.new.self c.in_ok-text.text.now c.in_ok-text.ensures in
    omega (arith, whole, first.whole, second.within, c.requires)

-- src/judging.rt:38:5
pub judge-requires-clause-quiet : goal.judge-requires-clause-quiet
judge-requires-clause-quiet c =
    let declared = c.in_ok-devices.ensures ∙ ap (λ (ls : List NumberedLine). declared_devices (bare_lines ls)) c.as_slice.ensures in
    let lines = scripts_are_declared mode.Both c.in_ok-counted.field-0.now c.in_ok-script.script c.in_ok-script.ensures.script in
    subst (λ (ds : List (ℕ × Declared)). AllByRecursion HasNoneWaiting ds) (sym declared) (quiet_devices _ (declared_openable (c.in_ok-script.script).lines lines).each)

-- src/judging.rt:27:1
pub returns : goal.returns
returns c =
    let script : HasScript c.args.bytes.now c.in_ok-script.script c.counted.new.self = record { begin = c.in_ok-file.file; text = c.in_ok-counted.field-0.now; magic = sym c.begin.ensures ∙ c.in_ok-file.was; counted = c.in_ok-counted.ensures; reads = c.in_ok-script.ensures.script } in
    let ids = ids_are c.in_ok-script.script c.as_slice.result.now c.in_ok-devices.devices.entries c.in_ok-ids_of.field-0.items c.as_slice-2.result.now c.as_slice.ensures c.in_ok-devices.ensures c.in_ok-ids_of.ensures c.as_slice-2.ensures.value in
    let text = c.in_ok-check_text.ensures in
    let reads = subst (λ (xs : List ℕ). IsJournalText xs c.in_ok-text.text.now text.0) ids text.1 in
    let journals : HasJournals c.args.bytes.now c.in_ok-script.script text.0 c.counted-2.new.self = record { begin = c.counted.new.self; text = c.in_ok-text.text.now; behind = script; counted = c.in_ok-text.ensures; reads = reads } in
    let heard = ap (λ (n : ℕ). recorded_channels n (c.counted-2.new.self).left) (sym c.at-2.ensures) ∙ ap (recorded_channels c.at-2.result) (sym c.rest.ensures) ∙ c.in_ok-channels.ensures.heard in
    let declared = c.in_ok-devices.ensures ∙ ap (λ (ls : List NumberedLine). declared_devices (bare_lines ls)) c.as_slice.ensures in
    let recording : HasRecording c.args.bytes.now c.in_ok-script.script text.0 c.in_ok-channels.channels.items = record { begin = c.counted-2.new.self; behind = journals; reads = heard } in
    judged_parts c.args.bytes.now c.in_ok-script.script text.0 c.in_ok-channels.channels.items c.as_slice-3.result.now c.in_ok-text.text.now c.in_ok-devices.devices.entries c.judge.result recording reads declared c.as_slice-3.ensures.value c.judge.ensures.judged c.judge.ensures.refused
