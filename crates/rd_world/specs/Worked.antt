-- Scripts, for worked cases.
use Rattle.std.specs.Prelude.{ℕ, true, false, not, List, [], ◌∷◌, codes, map, reverse, filter, filter_map, Option, length, Bool, ◌==◌, ◌&&◌, ◌+◌}
use Rattle.std.specs.Option.{option_map, option_map_or}
use Rattle.rd_base.specs.declared.journal.Cause.{Cause}
use Rattle.rd_base.specs.declared.journal.Item.{Item}
use Rattle.rd_script.specs.declared.line.Errand.TheVariants as errand
use Rattle.rd_script.specs.declared.line.Line.{Line}
use Rattle.rd_script.specs.declared.line.Line.TheVariants as line
use Rattle.rd_script.specs.declared.line.NumberedLine.{NumberedLine}
use Rattle.rd_station.specs.Station.{StationState}
use Rattle.rd_world.specs.Control.{Act, Control}
use Rattle.rd_declared.specs.Devices.{Declared}
use Rattle.rd_declared.specs.declared.device.SessionDevice.{SessionDevice}
use Rattle.rd_deeds.specs.Host.{HostSide}
use Rattle.rd_deeds.specs.HostDeeds.{side_of}
use Rattle.rd_world.specs.Report.{report_text}
use Rattle.rd_declared.specs.Declaring.{declared_devices}
use Rattle.rd_world.specs.Run.{run_of}
use Rattle.rd_world.specs.Acts.{act_by, cause_in, control_at_end, control_by, first_control_of, is_errand_at, is_settled_host, left_open, notices_on, of_channel, tellings_on, waiting_keys}
use Rattle.rd_world.specs.Recording.{client_id, host_stand}
use Rattle.rd_world.specs.Lines.{submitted}
use Rattle.rd_deeds.specs.Talk.{Deed, client_read, client_wrote, host_read, host_wrote, is_request, journal, open_channel}
use Rattle.rd_world.specs.Session.{at_settles}
use Rattle.std.specs.List.{list_all, list_any}
use Rattle.rd_base.specs.declared.journal.Key.{Key}
use Rattle.rd_base.specs.declared.packet.Packet.TheVariants.{IoCompletion}
use Rattle.rd_hello.specs.Moves.{is_of}
use Rattle.rd_world.specs.World.{WorldState, journals_in}

abbrev pub numbered : ℕ → Line → NumberedLine
numbered n l = record { number = n; line = l }

-- what the session of a script comes to, within so many draws and rounds
abbrev pub ran : List NumberedLine → Option WorldState
ran lines = run_of (record { draws = 1000000; rounds = 1000 }) (λ key. false) lines

-- what is reported of it
abbrev pub reported : List NumberedLine → Option (List ℕ)
reported lines = option_map (report_text lines) (ran lines)

-- the host and the journals that a session comes to, as its state has them, and as its deeds tell them
pub record Account : Type 0 where
  pub side : HostSide
  pub journals : List (ℕ × List Item)

abbrev pub as_it_stands : WorldState → Account
as_it_stands w = record {
  side = w.side;
  journals = journals_in w;
}

abbrev pub by_deeds : WorldState → Account
by_deeds w = record {
  side = side_of client_id w.deeds;
  journals = map (λ (e : ℕ × StationState SessionDevice). (e.0, reverse (journal e.0 w.deeds))) w.stations;
}

abbrev pub standing : List NumberedLine → Option Account
standing lines = option_map as_it_stands (ran lines)

abbrev pub told_by_deeds : List NumberedLine → Option Account
told_by_deeds lines = option_map by_deeds (ran lines)

-- what was done by control lines, the cuts of some devices, the idle lines, and what was sent, read and heard on a channel that ends after everything,
-- as the deeds have them, and by the control lines
pub record Done : Type 0 where
  pub acts : List Act
  pub cuts : List (List Cause)
  pub idle : List ℕ
  pub talk : List (List (List ℕ))
  pub told : List ℕ

abbrev pub devices_in : List NumberedLine → List (ℕ × Declared)
devices_in lines = declared_devices (map (λ (l : NumberedLine). l.line) lines)

abbrev pub ids_in : List NumberedLine → List ℕ
ids_in lines = map (λ (d : ℕ × Declared). d.0) (devices_in lines)

abbrev pub acts_done : List NumberedLine → WorldState → Done
acts_done lines w = record {
  acts = filter_map act_by (reverse w.deeds);
  cuts = map (λ device. filter_map cause_in (reverse (journal device w.deeds))) (ids_in lines);
  idle = filter (λ number. not (is_errand_at lines number)) w.idle;
  talk = option_map_or (λ c. filter is_request (host_wrote c w.deeds) ∷ client_read c w.deeds ∷ host_read c w.deeds ∷ []) (left_open (devices_in lines) w.deeds (control_by (devices_in lines) lines)) [];
  told = option_map_or (λ c. length (tellings_on c w.deeds) ∷ length (notices_on c w.deeds) ∷ []) (left_open (devices_in lines) w.deeds (control_by (devices_in lines) lines)) [];
}

abbrev pub acts_said : List NumberedLine → WorldState → Done
acts_said lines w =
    let control = control_at_end (devices_in lines) w.deeds (control_by (devices_in lines) lines) in
    record {
      acts = control.acts;
      cuts = map (λ device. of_channel device control.cuts) (ids_in lines);
      idle = control.idle;
      talk = option_map_or (λ c. submitted c w.deeds ∷ host_wrote c w.deeds ∷ client_wrote c w.deeds ∷ []) (left_open (devices_in lines) w.deeds (control_by (devices_in lines) lines)) [];
      told = option_map_or (λ c. length (of_channel c control.told) ∷ length (of_channel c control.notices) ∷ []) (left_open (devices_in lines) w.deeds (control_by (devices_in lines) lines)) [];
    }

abbrev pub done_in : List NumberedLine → Option Done
done_in lines = option_map (acts_done lines) (ran lines)

abbrev pub said_in : List NumberedLine → Option Done
said_in lines = option_map (acts_said lines) (ran lines)

-- ---- where it settled

-- what was done up to each point, from the last on
abbrev pub points_of : List Deed → List (List Deed)
points_of [] = [] ∷ []
points_of (deed ∷ before) = (deed ∷ before) ∷ points_of before

-- whether a channel is still, by counts alone
abbrev pub is_still : List (ℕ × Declared) → Control → List Deed → ℕ → Bool
is_still devices control p c =
    length (client_read c p) == length (host_wrote c p) && length (host_read c p) == length (client_wrote c p)
    && length (filter is_request (host_wrote c p)) == length (submitted c p)
    && length (tellings_on c p) == length (of_channel c control.told) && length (notices_on c p) == length (of_channel c control.notices)
    && length (filter is_request (client_read c p))
    == length (filter (is_of IoCompletion) (client_wrote c p)) + length (filter (λ (key : Key). key.channel == c) (waiting_keys devices p))
    && option_map_or is_settled_host (host_stand p c) false

abbrev pub was_still : List (ℕ × Declared) → List Deed → Control → Bool
was_still devices deeds control =
    list_any (λ p. length (filter_map act_by p) == length control.acts && option_map_or (is_still devices control p) (open_channel p) true) (points_of deeds)

-- whether the channel that was open was still at a point for each `settle` line
abbrev pub settles_in : List NumberedLine → Option Bool
settles_in lines = option_map (λ (w : WorldState). list_all (was_still (devices_in lines) w.deeds) (at_settles (first_control_of (devices_in lines)) lines)) (ran lines)

-- ---- idle_control_lines
abbrev pub idle_control_lines : List NumberedLine
idle_control_lines =
    numbered 1 (line.Drive 1 (codes "ONE"))
    ∷ numbered 2 (line.Connect)
    ∷ numbered 3 (line.Drop)
    ∷ numbered 4 (line.Drop)
    ∷ numbered 5 (line.Remove 1)
    ∷ []

-- ---- printer_cache_renamed
abbrev pub printer_cache_renamed : List NumberedLine
printer_cache_renamed =
    numbered 1 (line.Printer 2 (codes "PRN1") (codes "Driver") (codes "Office"))
    ∷ numbered 2 (line.CacheAdd (codes "PRN1") (codes "Driver") (codes "Office") (1 ∷ 2 ∷ []))
    ∷ numbered 3 (line.CacheUpdate (codes "Office") (3 ∷ []))
    ∷ numbered 4 (line.CacheRename (codes "Office") (codes "Desk"))
    ∷ []

-- ---- cached_bytes_announced
abbrev pub cached_bytes_announced : List NumberedLine
cached_bytes_announced =
    numbered 1 (line.Printer 2 (codes "PRN1") (codes "Driver") (codes "Office"))
    ∷ numbered 2 (line.CacheAdd (codes "PRN1") (codes "Driver") (codes "Office") (1 ∷ 2 ∷ []))
    ∷ numbered 3 (line.Settle)
    ∷ numbered 4 (line.Drop)
    ∷ numbered 5 (line.Connect)
    ∷ []

-- ---- removal_under_work
abbrev pub removal_under_work : List NumberedLine
removal_under_work =
    numbered 1 (line.Drive 1 (codes "ONE"))
    ∷ numbered 2 (line.Drive 2 (codes "TWO"))
    ∷ numbered 3 (line.File 1 ((codes "a") ∷ []) (97 ∷ []))
    ∷ numbered 4 (line.File 2 ((codes "b") ∷ []) (98 ∷ []))
    ∷ numbered 5 (line.Open 1 (codes "h") 1 (codes "\\a"))
    ∷ numbered 6 (line.Settle)
    ∷ numbered 7 (line.Open 2 (codes "h") 1 (codes "\\a"))
    ∷ numbered 8 (line.Settle)
    ∷ numbered 9 (line.Read 1 (codes "h") 0 1)
    ∷ numbered 10 (line.Read 2 (codes "h") 0 1)
    ∷ numbered 11 (line.Do (errand.Issue 1))
    ∷ numbered 12 (line.Do (errand.Issue 2))
    ∷ numbered 13 (line.Do errand.Send)
    ∷ numbered 14 (line.Do errand.Read)
    ∷ numbered 15 (line.Do (errand.Take 1 1))
    ∷ numbered 16 (line.Do (errand.Apply 1))
    ∷ numbered 17 (line.Remove 1)
    ∷ numbered 18 (line.Open 1 (codes "k") 2 (codes "\\b"))
    ∷ numbered 19 (line.Read 1 (codes "k") 0 1)
    ∷ []

-- ---- removal_before_sent_request
abbrev pub removal_before_sent_request : List NumberedLine
removal_before_sent_request =
    numbered 1 (line.Drive 1 (codes "ONE"))
    ∷ numbered 2 (line.File 1 ((codes "a") ∷ []) (97 ∷ []))
    ∷ numbered 3 (line.Open 1 (codes "h") 1 (codes "\\a"))
    ∷ numbered 4 (line.Settle)
    ∷ numbered 5 (line.Read 1 (codes "h") 0 1)
    ∷ numbered 6 (line.Do (errand.Issue 1))
    ∷ numbered 7 (line.Remove 1)
    ∷ []

-- ---- drop_and_reconnect
abbrev pub drop_and_reconnect : List NumberedLine
drop_and_reconnect =
    numbered 1 (line.Drive 1 (codes "ONE"))
    ∷ numbered 2 (line.File 1 ((codes "a") ∷ []) [])
    ∷ numbered 3 (line.Create 1 (codes "h") 1 (codes "\\a") 1 3221225472 7 0 0)
    ∷ numbered 4 (line.Settle)
    ∷ numbered 5 (line.Write 1 (codes "h") 0 (111 ∷ 108 ∷ 100 ∷ []))
    ∷ numbered 6 (line.Do (errand.Issue 1))
    ∷ numbered 7 (line.Do errand.Send)
    ∷ numbered 8 (line.Do errand.Read)
    ∷ numbered 9 (line.Do (errand.Take 1 1))
    ∷ numbered 10 (line.Drop)
    ∷ numbered 11 (line.Connect)
    ∷ numbered 12 (line.Do (errand.Apply 1))
    ∷ numbered 13 (line.Write 1 (codes "h") 0 (110 ∷ 101 ∷ 119 ∷ []))
    ∷ numbered 14 (line.Create 1 (codes "k") 1 (codes "\\a") 1 3221225472 7 0 0)
    ∷ numbered 15 (line.Read 1 (codes "k") 0 3)
    ∷ []

-- ---- device_removed_and_added
abbrev pub device_removed_and_added : List NumberedLine
device_removed_and_added =
    numbered 1 (line.Drive 1 (codes "DATA"))
    ∷ numbered 2 (line.File 1 ((codes "a") ∷ []) (97 ∷ []))
    ∷ numbered 3 (line.Open 1 (codes "h") 1 (codes "\\a"))
    ∷ numbered 4 (line.Settle)
    ∷ numbered 5 (line.Remove 1)
    ∷ numbered 6 (line.Settle)
    ∷ numbered 7 (line.Read 1 (codes "h") 0 1)
    ∷ numbered 8 (line.Settle)
    ∷ numbered 9 (line.Add 1)
    ∷ numbered 10 (line.Settle)
    ∷ numbered 11 (line.Read 1 (codes "h") 0 1)
    ∷ numbered 12 (line.Open 1 (codes "h") 1 (codes "\\a"))
    ∷ []

-- ---- removed_device_not_announced_again
abbrev pub removed_device_not_announced_again : List NumberedLine
removed_device_not_announced_again =
    numbered 1 (line.Drive 1 (codes "ONE"))
    ∷ numbered 2 (line.File 1 ((codes "a") ∷ []) (97 ∷ []))
    ∷ numbered 3 (line.Remove 1)
    ∷ numbered 4 (line.Settle)
    ∷ numbered 5 (line.Drop)
    ∷ numbered 6 (line.Connect)
    ∷ numbered 7 (line.Open 1 (codes "h") 1 (codes "\\a"))
    ∷ numbered 8 (line.Settle)
    ∷ numbered 9 (line.Add 1)
    ∷ numbered 10 (line.Settle)
    ∷ numbered 11 (line.Open 1 (codes "h") 1 (codes "\\a"))
    ∷ []

-- ---- waiting_lock
abbrev pub waiting_lock : List NumberedLine
waiting_lock =
    numbered 1 (line.Drive 1 (codes "DATA"))
    ∷ numbered 2 (line.File 1 ((codes "a") ∷ []) (97 ∷ []))
    ∷ numbered 3 (line.Create 1 (codes "h") 1 (codes "\\a") 1 3221225472 7 0 0)
    ∷ numbered 4 (line.Settle)
    ∷ numbered 5 (line.Create 2 (codes "g") 1 (codes "\\a") 1 3221225472 7 0 0)
    ∷ numbered 6 (line.Lock 1 (codes "h") 3 false (record { offset = 0; length = 1 } ∷ []))
    ∷ numbered 7 (line.Settle)
    ∷ numbered 8 (line.Lock 2 (codes "g") 3 true (record { offset = 0; length = 1 } ∷ []))
    ∷ numbered 9 (line.Settle)
    ∷ numbered 10 (line.Lock 1 (codes "h") 4 false (record { offset = 0; length = 1 } ∷ []))
    ∷ numbered 11 (line.Settle)
    ∷ numbered 12 (line.Read 2 (codes "g") 0 1)
    ∷ []

-- ---- notification_of_new_file
abbrev pub notification_of_new_file : List NumberedLine
notification_of_new_file =
    numbered 1 (line.Drive 1 (codes "DATA"))
    ∷ numbered 2 (line.Folder 1 ((codes "d") ∷ []))
    ∷ numbered 3 (line.Open 1 (codes "h") 1 (codes "\\d"))
    ∷ numbered 4 (line.Settle)
    ∷ numbered 5 (line.Notify 1 (codes "h") false 1)
    ∷ numbered 6 (line.Settle)
    ∷ numbered 7 (line.Create 2 (codes "g") 1 (codes "\\d\\n") 2 3221225472 7 0 0)
    ∷ []

-- ---- notification_never_ended
abbrev pub notification_never_ended : List NumberedLine
notification_never_ended =
    numbered 1 (line.Drive 1 (codes "DATA"))
    ∷ numbered 2 (line.Folder 1 ((codes "d") ∷ []))
    ∷ numbered 3 (line.Open 1 (codes "h") 1 (codes "\\d"))
    ∷ numbered 4 (line.Settle)
    ∷ numbered 5 (line.Notify 1 (codes "h") false 1)
    ∷ numbered 6 (line.Settle)
    ∷ []

-- ---- sharing_violation
abbrev pub sharing_violation : List NumberedLine
sharing_violation =
    numbered 1 (line.Drive 1 (codes "DATA"))
    ∷ numbered 2 (line.File 1 ((codes "a") ∷ []) [])
    ∷ numbered 3 (line.Create 1 (codes "h") 1 (codes "\\a") 1 2147483648 0 0 0)
    ∷ numbered 4 (line.Settle)
    ∷ numbered 5 (line.Create 2 (codes "h") 1 (codes "\\a") 1 2147483648 0 0 0)
    ∷ numbered 6 (line.Settle)
    ∷ numbered 7 (line.Close 1 (codes "h"))
    ∷ numbered 8 (line.Settle)
    ∷ numbered 9 (line.Create 2 (codes "h") 1 (codes "\\a") 1 2147483648 0 0 0)
    ∷ []

-- ---- all of them
abbrev pub scripts : List (List NumberedLine)
scripts =
    idle_control_lines
    ∷ printer_cache_renamed
    ∷ cached_bytes_announced
    ∷ removal_under_work
    ∷ removal_before_sent_request
    ∷ drop_and_reconnect
    ∷ device_removed_and_added
    ∷ removed_device_not_announced_again
    ∷ waiting_lock
    ∷ notification_of_new_file
    ∷ notification_never_ended
    ∷ sharing_violation
    ∷ []
