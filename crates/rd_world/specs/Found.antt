-- A whole session of a script, small enough to be worked: the channel of one request ends, and the device of another is removed.
use Rattle.std.specs.Prelude.{◌≡◌, ℕ, false, List, [], ◌∷◌, ◌++◌, codes, reverse, Some, None}
use Rattle.rd_base.specs.declared.journal.Cause.TheVariants.{Dropped, Removed}
use Rattle.rd_base.specs.declared.journal.Item.{Item}
use Rattle.rd_base.specs.declared.journal.Item.TheVariants.{Came, Cut, Ran, Sent}
use Rattle.rd_base.specs.History.{History}
use Rattle.rd_client.specs.Worked.{announced, confirmed, logged_on, offered, own_confirm, own_name, own_sets}
use Rattle.rd_devices.specs.DeviceList.{list_bytes}
use Rattle.rd_devices.specs.Removal.{removal_bytes}
use Rattle.rd_dirinfo.specs.declared.naming.Naming.TheVariants as naming
use Rattle.rd_drive.specs.DriveState.{empty_drive, holding}
use Rattle.rd_drive.specs.Outcome.{fault}
use Rattle.rd_base.specs.Statuses as status
use Rattle.rd_base.specs.Statuses.{no_such_device}
use Rattle.rd_host.specs.Served.{file_system}
use Rattle.rd_irp.specs.declared.completion.Body.TheVariants as body
use Rattle.rd_irp.specs.declared.completion.Reply.{Reply}
use Rattle.rd_irp.specs.declared.op.Op.TheVariants as op
use Rattle.rd_irp.specs.Written.{request_bytes}
use Rattle.rd_pending.specs.declared.calls.Target.{Target}
use Rattle.rd_pending.specs.declared.calls.Target.TheVariants as target
use Rattle.rd_script.specs.declared.keyword.Mode.TheVariants.{Both}
use Rattle.rd_script.specs.declared.line.Errand.TheVariants as errand
use Rattle.rd_script.specs.declared.line.Line.TheVariants as line
use Rattle.rd_script.specs.declared.line.NumberedLine.{NumberedLine}
use Rattle.rd_script.specs.declared.outcome.Outcome.{Outcome}
use Rattle.rd_script.specs.declared.outcome.Outcome.TheVariants as outcome
use Rattle.rd_script.specs.declared.outcome.Outcomes.{Outcomes}
use Rattle.rd_script.specs.declared.script.Script.{Script}
use Rattle.rd_declared.specs.Devices.{Declared, announce_of}
use Rattle.rd_declared.specs.declared.device.SessionDevice.TheVariants as session
use Rattle.rd_deeds.specs.Example.{Submission, arrives, comes, from_client, from_host, is_completed, is_handed_out, runs, submission, welcome}
use Rattle.rd_world.specs.Recording.{recording_of_deeds}
use Rattle.rd_world.specs.Run.{open_op}
use Rattle.rd_deeds.specs.Talk.{Deed, client_reads, client_writes, host_begins, host_ends, host_reads, host_writes, removes, stores, submits, takes}
use Rattle.rd_world.specs.Worked.{numbered}

-- ---- the script

abbrev pub found_lines : List NumberedLine
found_lines =
    numbered 1 (line.Drive 1 (codes "ONE"))
    ∷ numbered 2 (line.File 1 ((codes "a") ∷ []) (97 ∷ []))
    ∷ numbered 3 (line.Open 1 (codes "h") 1 (codes "\\a"))
    ∷ numbered 4 (line.Settle)
    ∷ numbered 5 (line.Read 1 (codes "h") 0 1)
    ∷ numbered 6 (line.Do (errand.Issue 1))
    ∷ numbered 7 (line.Do errand.Send)
    ∷ numbered 8 (line.Do errand.Read)
    ∷ numbered 9 (line.Drop)
    ∷ numbered 10 (line.Connect)
    ∷ numbered 11 (line.Open 1 (codes "k") 1 (codes "\\a"))
    ∷ numbered 12 (line.Settle)
    ∷ numbered 13 (line.Read 1 (codes "k") 0 1)
    ∷ numbered 14 (line.Do (errand.Issue 1))
    ∷ numbered 15 (line.Remove 1)
    ∷ []

abbrev pub found_script : Script
found_script = record { mode = Both; lines = found_lines }

-- its only device
abbrev pub found_drive : Declared
found_drive = record {
  id = 1;
  state = session.Drive (holding (empty_drive naming.Exact (codes "ONE")) ((codes "a") ∷ [], Some (97 ∷ [])));
  kind = file_system;
  name = codes "ONE";
  printer = None;
}

abbrev pub found_devices : List (ℕ × Declared)
found_devices = (1, found_drive) ∷ []

-- ---- the requests

abbrev pub open_first : Submission
open_first = submission 1 1 1 0 0 1 0 (open_op (codes "\\a"))

-- the channel ends before it is run
abbrev pub read_dropped : Submission
read_dropped = submission 1 1 1 1 0 1 1 (op.Read 0 1)

abbrev pub open_second : Submission
open_second = submission 1 1 2 0 0 2 0 (open_op (codes "\\a"))

-- the device is removed before it is read
abbrev pub read_removed : Submission
read_removed = submission 1 1 2 2 0 2 1 (op.Read 0 1)

-- what opens gives this file
abbrev pub gives_file : ℕ → Reply
gives_file file = record { status = status.success; body = body.Created file 1 }

-- ---- what both sides did, the oldest first

-- a channel opens: each side sends all that it has, and the other reads it
abbrev pub begins_with_drive : ℕ → List Deed
begins_with_drive c =
    host_begins c ∷ from_host c announced
    ++ client_writes c own_confirm ∷ client_writes c own_name ∷ host_reads c own_confirm ∷ host_reads c own_name
    ∷ host_writes c offered ∷ host_writes c confirmed ∷ client_reads c offered ∷ client_reads c confirmed
    ∷ from_client c own_sets ++ from_host c logged_on ++ from_client c (list_bytes (announce_of [] found_drive ∷ [])) ++ from_host c (welcome 1)

-- a request is accepted for what it names
abbrev pub is_accepted : Submission → Target → List Deed
is_accepted s named = submits s.application named (s.request).op ∷ []

abbrev pub is_written : Submission → List Deed
is_written s = host_writes (s.key).channel (request_bytes s.request) ∷ []

-- the file that an earlier request opened
abbrev pub handle_target : Submission → Target
handle_target s = let r = s.request in target.Handle (record { device = r.device; life = s.life; file = r.file })

-- a file is opened, from its request to the outcome
abbrev pub opens_file : Submission → ℕ → ℕ → List Deed
opens_file s file number =
    is_accepted s (target.Device 1) ++ is_written s ++ arrives s ++ comes s ++ runs s ++ is_handed_out s
    ++ is_completed s (gives_file file) ++ takes number ∷ []

-- the channel ends under work
abbrev pub is_dropped : List Deed
is_dropped =
    is_accepted read_dropped (handle_target read_dropped) ++ is_written read_dropped ++ arrives read_dropped ++ comes read_dropped
    ++ stores 1 (Cut Dropped) ∷ host_ends 1 ∷ takes 2 ∷ []

-- the device is removed under work
abbrev pub is_removed_then : List Deed
is_removed_then =
    is_accepted read_removed (handle_target read_removed)
    ++ removes 1 ∷ stores 1 (Cut Removed) ∷ is_written read_removed
    ++ from_client 2 (removal_bytes (1 ∷ []))
    ++ takes 4 ∷ arrives read_removed
    ++ is_completed read_removed (fault no_such_device)

abbrev pub found_oldest_first : List Deed
found_oldest_first =
    begins_with_drive 1 ++ opens_file open_first 1 1 ++ is_dropped
    ++ begins_with_drive 2 ++ opens_file open_second 2 3 ++ is_removed_then

abbrev pub found_deeds : List Deed
found_deeds = reverse found_oldest_first

abbrev pub found_recording : List ℕ
found_recording = recording_of_deeds found_deeds

-- ---- what came of it

abbrev pub found_journal : List Item
found_journal =
    Came open_first.key ∷ Ran open_first.key 0 false false ∷ Sent open_first.key ∷ Came read_dropped.key ∷ Cut Dropped
    ∷ Came open_second.key ∷ Ran open_second.key 0 false false ∷ Sent open_second.key ∷ Cut Removed ∷ []

abbrev pub found_books : List (ℕ × History)
found_books = (1, record { items = found_journal; spare = 0 }) ∷ []

abbrev pub found_outcomes : List ((ℕ × ℕ) × Outcome)
found_outcomes =
    ((1, 1), outcome.Done (gives_file 1)) ∷ ((1, 2), outcome.Lost Dropped) ∷ ((1, 3), outcome.Done (gives_file 2)) ∷ ((1, 4), outcome.Lost Removed) ∷ []

-- these are the outcomes, with no idle line, no document, and nothing kept for a printer
pub record AreFound (told : Outcomes) : Type 0 where
  pub lines : told.lines.entries ≡ found_outcomes
  pub idle : told.idle.items ≡ []
  pub documents : told.documents.entries ≡ []
  pub cache : told.cache.entries ≡ []

abbrev pub found_output : List ℕ
found_output =
    codes "1.1 done 00000000 0100000001\n" ++ codes "1.2 lost dropped\n" ++ codes "1.3 done 00000000 0200000001\n" ++ codes "1.4 lost removed\n"
    ++ codes "device 1 ran 2\n"
