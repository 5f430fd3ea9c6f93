-- What a session at a client's channels comes to: one history of its front, what its reader heard and its writer wrote by that, and how it ended.
use Rattle.std.specs.Prelude.{◌≡◌, ◌⊎◌, ℕ, ◌<◌, true, false, List, [], ◌∷◌, ◌++◌, map, All, None}
use Rattle.std.specs.List.{AllByRecursion, AllZip, zip}
use Rattle.rd_base.specs.History.{History}
use Rattle.rd_base.specs.declared.journal.Item.{Item}
use Rattle.rd_carry.specs.declared.ended.Ended.{Ended}
use Rattle.rd_carry.specs.declared.ended.Ended.TheVariants as ended
use Rattle.rd_client.specs.Core.{ClientCoreState, new_client}
use Rattle.rd_devices.specs.declared.list.Announce.{Announce}
use Rattle.rd_front.specs.Calls.{FrontEntry}
use Rattle.rd_front.specs.Front.{FrontStep}
use Rattle.rd_front.specs.State.{DeviceDeskState, FrontState, SessionPass, SessionStation}
use Rattle.rd_front.specs.declared.calls.FrontCall.{FrontCall}
use Rattle.rd_front.specs.declared.calls.FrontCall.TheVariants as call
use Rattle.rd_front.specs.declared.calls.FrontReply.{FrontReply}
use Rattle.rd_pool.specs.Desks.{DeskTurn}
use Rattle.rd_script.specs.declared.line.NumberedLine.{NumberedLine}
use Rattle.rd_served_devices.specs.ServedDevices.{ServedDeviceState}
use Rattle.rd_sharing.specs.Closing.{station_devices, trouble_after}
use Rattle.rd_sharing.specs.FolderLines.{folder_devices}
use Rattle.rd_sharing.specs.Refused.{StopsAtFolder}
use Rattle.rd_sharing.specs.ServedOpening.{AreServedDevices, OpensServed, ServedDeclared, ToldFolders}
use Rattle.rd_sharing.specs.declared.opening_no.OpeningNo.{OpeningNo}
use Rattle.rd_sharing.specs.declared.opening_no.OpeningNo.TheVariants as no
use Rattle.rd_turn.specs.History.{Leads, calls_of}
use Rattle.rd_turn.specs.Pass.{PassState}
use Rattle.rd_declared.specs.Devices.{PrinterNames}
use Rattle.rd_declared.specs.Declaring.{bare_lines}
use Rattle.rd_world.specs.Session.{StoresSome, journals_of}
use Rattle.rd_workers.specs.Channels.{EndsByCalls, LinkerTold, channels_of}
use Rattle.rd_workers.specs.Closed.{ClosesAfter, FrontCameHome}
use Rattle.rd_workers.specs.declared.client_ended.ClientEnded.{ClientEnded}
use Rattle.rd_workers.specs.declared.client_ended.ClientEnded.TheVariants as client
use Rattle.rd_workers.specs.declared.due.AtLine.{AtLine}
use Rattle.rd_workers.specs.Lines.{at_lines}
use Rattle.rd_workers.specs.Logs.{AllFound, NoneAsks, Wrote, messages_for, reader_calls, writer_log}
use Rattle.rd_workers.specs.Passes.{WriterState}
use Rattle.rd_workers.specs.Writing.{PutsTo}
use Rattle.rd_workers.specs.declared.writer.WriterCall.{WriterCall}
use Rattle.rd_workers.specs.declared.writer.WriterReply.{WriterReply}

-- What was handed out for a channel was put to its half, all of it, but where no memory was found for a message, by the front or by the writer; nothing waits there any more; and that
-- nothing more could be written was said only where a write had failed, or where no memory was found.
pub record IsWritten (entries : List FrontEntry) (w : Wrote) : Type 0 where
  pub puts : PutsTo w.starved (messages_for w.channel entries) w.began w.ended
  pub found : w.starved ≡ false → AllFound w.channel entries
  pub flushed : (w.ended).pending ≡ []
  pub stopped : w.stopped ≡ true → (0 < (w.ended).faults) ⊎ (w.starved ≡ true)

-- All calls of a session's reader: those by which channels were served, with these halves back, up to this end, and then the one that ends the session.
pub record HasCalled (lines : List AtLine) (channels : ℕ) (by : Ended) (all : List FrontEntry) (done : List Wrote) (old new : LinkerTold) : Type 0 where
  pub calls : List FrontEntry
  pub last : FrontEntry
  pub ends : EndsByCalls lines channels by calls done old new
  pub all_are : all ≡ calls ++ last ∷ []
  pub over : last.call ≡ call.EndSession

-- The calls of the front in their order, by which so many channels were served, up to this end.
pub record ServesEntries (lines : List AtLine) (channels : ℕ) (by : Ended) (entries : List FrontEntry) (old new : LinkerTold) : Type 0 where
  pub done : List Wrote
  pub called : HasCalled lines channels by (reader_calls entries) done old new
  pub written : AllByRecursion (IsWritten entries) done

-- The same of what a reader's own calls of the front and of the writer tell.
pub record IsRead {F K : Type 0} (lines : List AtLine) (channels : ℕ) (by : Ended) (front : PassState F FrontCall FrontReply) (writer : PassState (WriterState F) (WriterCall K) (WriterReply K))
    (old new : LinkerTold) : Type 0 where
  pub none : NoneAsks (calls_of front.number front.seen)
  pub called : HasCalled lines channels by (calls_of front.number front.seen) ((writer_log (calls_of writer.number writer.seen)).done) old new

-- ---- from the script on

-- A front over a client, its printers and desks of devices with these ids and turns, whose passes have seen no call, before its first channel.
pub record IsFrontOf (client : ClientCoreState) (printers : List (ℕ × PrinterNames)) (ids : List ℕ) (turns : List (DeskTurn ServedDeviceState)) (s : FrontState) : Type 0 where
  pub is : s ≡ record { client = client; printers = printers; cache = []; desks = s.desks; kept = None; channel = 0; on = false; over = false; unsent = 0 }
  pub ids_are : map (λ (d : DeviceDeskState). d.id) s.desks ≡ ids
  pub turns_are : map (λ (d : DeviceDeskState). d.turn) s.desks ≡ turns
  pub unseen : All (λ (d : DeviceDeskState). (d.pass).seen ≡ []) s.desks

-- There is one history of such a front, by which all was served.
pub record ServesFront (client : ClientCoreState) (printers : List (ℕ × PrinterNames)) (ids : List ℕ) (turns : List (DeskTurn ServedDeviceState)) (lines : List AtLine) (channels : ℕ) (by : Ended) (old new : LinkerTold) : Type 0 where
  pub opening : FrontState
  pub last : FrontState
  pub entries : List FrontEntry
  pub begins : IsFrontOf client printers ids turns opening
  pub leads : Leads FrontStep opening entries last
  pub served : ServesEntries lines channels by entries old new

-- And the passes that the front had at the end of it came home to these.
pub record ServesHome (client : ClientCoreState) (printers : List (ℕ × PrinterNames)) (ids : List ℕ) (turns : List (DeskTurn ServedDeviceState)) (passes : List SessionPass) (lines : List AtLine) (channels : ℕ) (by : Ended) (old new : LinkerTold) : Type 0 where
  pub front : ServesFront client printers ids turns lines channels by old new
  pub home : FrontCameHome front.last turns passes

-- Devices were served by a front over their stations, up to some end, and these are the journals of the stations, by the ids of the devices: each station was led there by the calls that the
-- front's pass had seen at the end of its history, and then by calls of hands.
pub record ServesJournals (devices : List (ℕ × ServedDeclared)) (lines : List AtLine) (channels : ℕ) (by : Ended) (journals : List (ℕ × List Item)) (old new : LinkerTold) : Type 0 where
  pub announced : List Announce
  pub printers : List (ℕ × PrinterNames)
  pub ids : List ℕ
  pub turns : List (DeskTurn ServedDeviceState)
  pub opens : OpensServed devices (zip ids (map (λ (t : DeskTurn ServedDeviceState). t.opening) turns)) announced printers
  pub front : ServesFront (new_client announced) printers ids turns lines channels by old new
  pub stations : List SessionStation
  pub closes : AllZip ClosesAfter (front.last).desks stations
  pub journals_are : journals ≡ zip ids (map (λ (s : SessionStation). s.journal) stations)

-- The same, and the journals are those in the books; and the count of faults of closed folders rose by those of the folders of the devices, and by no others.
pub record ServesBooks (devices : List (ℕ × ServedDeclared)) (lines : List AtLine) (channels : ℕ) (by : Ended) (books : List (ℕ × History)) (old new : LinkerTold) (before after : ToldFolders) : Type 0 where
  pub journals : ServesJournals devices lines channels by (journals_of books) old new
  pub trouble : after.trouble ≡ trouble_after before.trouble (station_devices journals.stations)

-- The devices of lines were opened, and served on so many channels, up to this end, and their journals are in the books. No opening of a folder failed.
pub record ServesLines (lines : List NumberedLine) (channels : ℕ) (by : Ended) (books : List (ℕ × History)) (old new : LinkerTold) (before after : ToldFolders) : Type 0 where
  pub devices : List (ℕ × ServedDeclared)
  pub are : AreServedDevices (bare_lines lines) before.opened after.opened devices
  pub served : ServesBooks devices (at_lines lines) channels by books old new before after
  pub failures : after.failures ≡ before.failures

-- Devices were served, and memory ran out as the journals were stored: the books have the first of them.
pub record StoresFirst (lines : List NumberedLine) (channels : ℕ) (books : List (ℕ × History)) (old new : LinkerTold) (before after : ToldFolders) : Type 0 where
  pub devices : List (ℕ × ServedDeclared)
  pub are : AreServedDevices (bare_lines lines) before.opened after.opened devices
  pub by : Ended
  pub journals : List (ℕ × List Item)
  pub served : ServesJournals devices (at_lines lines) channels by journals old new
  pub stored : StoresSome journals books

-- Memory ran out: before anything was connected, and the books have nothing; or as the journals were stored. No opening of a folder failed.
abbrev pub ServesStarved : List NumberedLine → ℕ → List (ℕ × History) → (old new : LinkerTold) → (before after : ToldFolders) → Type 0
ServesStarved lines channels books old new before after =
    (after.failures ≡ before.failures) × (((new ≡ old) × (books ≡ [])) ⊎ StoresFirst lines channels books old new before after)

-- The folder of this device of lines couldn't be opened, which counts one failure; those of the devices before it were, in the order of the ids, and no others. Nothing was connected, the books have nothing, and
-- the count of faults of closed folders stayed.
pub record IsUnopened (lines : List NumberedLine) (device : ℕ) (books : List (ℕ × History)) (old new : LinkerTold) (before after : ToldFolders) : Type 0 where
  pub stops : StopsAtFolder (folder_devices (bare_lines lines)) device before after
  pub unserved : new ≡ old
  pub unstored : books ≡ []
  pub untroubled : after.trouble ≡ before.trouble

-- why devices weren't served to an end that is stored whole
abbrev pub StopsServing : List NumberedLine → ℕ → OpeningNo → List (ℕ × History) → (old new : LinkerTold) → (before after : ToldFolders) → Type 0
StopsServing lines channels (no.Folder device) books old new before after = IsUnopened lines device books old new before after
StopsServing lines channels no.Memory books old new before after = ServesStarved lines channels books old new before after

-- The devices of a script's lines were opened and served, on as many channels as these say, up to this end, and their journals are in the books, or as many as there was memory for; or the
-- folder of one of them couldn't be opened.
abbrev pub HasServedLines : List NumberedLine → ClientEnded → List (ℕ × History) → (old new : LinkerTold) → (before after : ToldFolders) → Type 0
HasServedLines lines (client.Ended by) books old new before after =
    ServesLines lines (channels_of lines) by books old new before after ⊎ ((by ≡ ended.Memory) × ServesStarved lines (channels_of lines) books old new before after)
HasServedLines lines (client.Folder device) books old new before after = IsUnopened lines device books old new before after

-- what is said of the end of a client that couldn't have the folder of a device opened
abbrev pub OnFolder : ClientEnded → Type 0 → Type 0
OnFolder (client.Ended by) P = Unit {0}
OnFolder (client.Folder device) P = P

-- what is said of the end of a client that had its devices open, or found no memory
abbrev pub IfServed : ClientEnded → (Ended → Type 0) → Type 0
IfServed (client.Ended by) P = P by
IfServed (client.Folder device) P = Unit {0}
