-- The lines, the control lines and the run of the worked session.
use Rattle.std.proofs.Common.{◌≡◌, ◌∙◌, ◌==◌, ◌&&◌, cond, inl, length, refl, sym, ap, subst, ℕ, true, false, List, [], ◌∷◌, ◌++◌, map, take, drop, take-append-drop, append-nil, filter, Some, codes, lit≤, reverse, option_map, Option, arith, None, Bool}
use Rattle.std.specs.Fmt.{digits}
use Rattle.std.specs.List.{cons_option, list_all, flat_map}
use Rattle.std.specs.Option.{option_map_or}
use Rattle.std.specs.Prelude.{filter_map, is_some, All, IfSome, None}
use Rattle.std.proofs.lemmas.List.Elements.{All-from_recursion}
use Rattle.hex.specs.Hex.{encode_with}
use Rattle.rd_base.specs.Counted.{count_to, counted, counted_bytes, two_fields, four_fields, two_fields_bytes, four_fields_bytes}
use Rattle.rd_base.specs.Fields.{bytes8, bytes16, bytes32, bytes64}
use Rattle.rd_base.specs.Header.{component_field, header, header_among}
use Rattle.rd_base.specs.declared.journal.Cause.TheVariants.{Dropped, Removed}
use Rattle.rd_base.specs.declared.journal.Item.{Item}
use Rattle.rd_base.specs.declared.journal.Key.{Key}
use Rattle.rd_chunk.specs.Carrier.{carrier_frame}
use Rattle.rd_chunk.specs.Frames.{size_of, length_of, flags_of}
use Rattle.rd_devices.specs.DeviceList.{announce, device_list}
use Rattle.rd_devices.specs.DeviceReply.{device_reply}
use Rattle.rd_devices.specs.Removal.{removal}
use Rattle.rd_drive.specs.Outcome.{checked, one_of, given}
use Rattle.rd_hello.specs.Capability.{special, general, other, body_of, capability, sets}
use Rattle.rd_hello.specs.Hello.{version, name, hello}
use Rattle.rd_irp.specs.Completion.{completion_head, success_body, completion_body}
use Rattle.rd_irp.specs.Op.{create_body, close_body, read_body, write_body, notify_body, range, lock_body, directory_body, op_body}
use Rattle.rd_irp.specs.Request.{request_head}
use Rattle.rd_irp.specs.declared.op.Op.TheVariants as op
use Rattle.rd_pending.specs.declared.calls.Outcome.TheVariants as came
use Rattle.rd_pending.specs.declared.calls.Taken.{Taken}
use Rattle.rd_pending.specs.declared.calls.Target.TheVariants as target
use Rattle.rd_printer.specs.Cache.{CacheState}
use Rattle.rd_printer.specs.Notice.{add_event, update_event, delete_event, rename_event, event_body, cache_data, using_xps, notice, notice_bytes}
use Rattle.rd_printer.specs.Cache.{by_bytes}
use Rattle.rd_script.specs.ReportLines.{declared_by}
use Rattle.rd_script.specs.Report.{report_of}
use Rattle.rd_script.specs.declared.outcome.Outcome.{Outcome}
use Rattle.rd_script.specs.declared.outcome.Outcome.TheVariants as outcome
use Rattle.rd_script.specs.declared.outcome.Outcomes.{Outcomes}
use Rattle.rd_world.specs.Acts.{is_settle, AreActed, AreSaid, IsCutThere, Tells, act_by, cause_in, control_at_end, control_by, left_open, is_settled_host, notices_on, of_channel, tellings_on, IsToldInTime, Opens, first_control_of, HasOpened}
use Rattle.rd_world.specs.Control.{controlled, Control, begun, control_of, ended, lists, removed}
use Rattle.rd_world.specs.Control as control
use Rattle.rd_declared.specs.Devices.{declaring, furnishing, Declared}
use Rattle.rd_world.specs.Found.{AreFound, handle_target, found_deeds, found_devices, found_lines, found_outcomes, gives_file, read_dropped, read_removed, found_journal, found_script, found_books, found_output}
use Rattle.rd_world.specs.Hearing.{holding_after}
use Rattle.rd_world.specs.Lines.{HaveOutcomes, IsHandedOut, LinesEnd, Waits, submitted, waits_of}
use Rattle.rd_world.specs.Recording.{host_stand}
use Rattle.rd_world.specs.Report.{outcomes_of}
use Rattle.rd_world.specs.Run.{asked_by, controls, notice_of, on_device, asked_on_handle, open_op, setting, WorldRun, run_of}
use Rattle.rd_world.specs.Session.{IsReported, IsRun, IsStill, WasStill, at_settles, printed_in}
use Rattle.rd_deeds.specs.Talk.{Deed, EndsWith, Has, answered, asked, open_channel, client_wrote, has_ended, host_read, host_wrote, is_request, on, AtEachPoint, EachAfter, journal, notice_in}
use Rattle.rd_world.specs.Worked.{ran}
use Rattle.rd_world.specs.World.{ApplicationState, new_application, WorldState, journals_in, starved_in}
use Rattle.rd_world.proofs.TestedActs.{cut_by_test, none_said, none_told_on, told_in_time_by_test}
use Rattle.rd_world.proofs.TestedLines.{are_within, is_line_within, none_client_wrote, none_host_read, none_host_wrote, none_submitted, given_along, handed_by, line_accepted, none_by, none_under, none_waits, of_each, opens_by, outcome_along, quiet_by, none_stored}
use Rattle.rd_deeds.proofs.TestedTelling.{among}

-- ---- few are named

abbrev channels : List ℕ
channels = 1 ∷ 2 ∷ []

abbrev devices : List ℕ
devices = 1 ∷ []

abbrev applications : List ℕ
applications = 1 ∷ []

within : are_within channels devices applications found_deeds ≡ true
within = refl

-- ---- where the channels had opened

-- what both sides had done then: all but so many of the newest deeds
first_open : HasOpened found_devices (drop 54 found_deeds) 1
unfolding count_to counted counted_bytes two_fields four_fields two_fields_bytes four_fields_bytes bytes8 bytes16 bytes32 bytes64 component_field header header_among announce device_list device_reply removal checked one_of given special general other body_of capability sets version name hello completion_head success_body completion_body create_body close_body read_body write_body notify_body range lock_body directory_body op_body request_head add_event update_event delete_event rename_event event_body cache_data using_xps notice
first_open = record { client = refl; heard = refl; host = refl; no_request = refl; no_notice = refl; listed = refl }

second_open : HasOpened found_devices (drop 19 found_deeds) 2
unfolding count_to counted counted_bytes two_fields four_fields two_fields_bytes four_fields_bytes bytes8 bytes16 bytes32 bytes64 component_field header header_among announce device_list device_reply removal checked one_of given special general other body_of capability sets version name hello completion_head success_body completion_body create_body close_body read_body write_body notify_body range lock_body directory_body op_body request_head add_event update_event delete_event rename_event event_body cache_data using_xps notice
second_open = record { client = refl; heard = refl; host = refl; no_request = refl; no_notice = refl; listed = refl }

-- ---- the lines

-- each with how many acts the control lines before it come to
abbrev open_h : Waits
open_h = record { asked = on_device (codes "h") 1 (open_op (codes "\\a")); acts = 1 }

abbrev read_h : Waits
read_h = record { asked = asked_on_handle (codes "h") (op.Read 0 1); acts = 1 }

abbrev open_k : Waits
open_k = record { asked = on_device (codes "k") 1 (open_op (codes "\\a")); acts = 3 }

abbrev read_k : Waits
read_k = record { asked = asked_on_handle (codes "k") (op.Read 0 1); acts = 3 }

waits : waits_of found_devices 1 found_lines ≡ open_h ∷ read_h ∷ open_k ∷ read_k ∷ []
unfolding asked_by notice_of controlled
waits = refl

-- what the application's handles hold after its first line, and after its third
abbrev with_h : ApplicationState
with_h = record new_application { handles = (codes "h", record { device = 1; life = 1; file = 1 }) ∷ [] }

abbrev with_k : ApplicationState
with_k = record new_application { handles = (codes "h", record { device = 1; life = 1; file = 1 }) ∷ (codes "k", record { device = 1; life = 2; file = 2 }) ∷ [] }

-- what the host handed out for its numbers
abbrev given_1 : Taken
given_1 = record { device = 1; life = 1; outcome = came.Done (gives_file 1) }

abbrev given_2 : Taken
given_2 = record { device = 1; life = 1; outcome = came.Lost Dropped }

abbrev given_3 : Taken
given_3 = record { device = 1; life = 2; outcome = came.Done (gives_file 2) }

abbrev given_4 : Taken
given_4 = record { device = 1; life = 2; outcome = came.Lost Removed }

-- each line ends so, from where the one before was accepted; the last one first
line_4 : LinesEnd found_devices found_deeds 1 with_k (read_k ∷ []) (outcome.Lost Removed ∷ []) (IsHandedOut 3 (came.Done (gives_file 2))) (drop 18 found_deeds)
unfolding count_to counted counted_bytes two_fields four_fields two_fields_bytes four_fields_bytes bytes8 bytes16 bytes32 bytes64 component_field header header_among announce device_list device_reply removal checked one_of given special general other body_of capability sets version name hello completion_head success_body completion_body create_body close_body read_body write_body notify_body range lock_body directory_body op_body request_head
line_4 = line_accepted found_devices found_deeds 1 with_k with_k read_k [] (outcome.Lost Removed) [] (IsHandedOut 3 (came.Done (gives_file 2))) (drop 18 found_deeds) (drop 10 found_deeds) (take 9 found_deeds) (handle_target read_removed) 3 (came.Lost Removed)
    (quiet_by 1 8 (drop 10 found_deeds) (drop 18 found_deeds) refl refl)
    (handed_by 3 0 given_3 (drop 10 found_deeds) refl refl)
    (record { acted = lit≤ tt; opened = opens_by found_devices 9 (drop 10 found_deeds) 2 second_open })
    refl refl refl (sym (take-append-drop 9 found_deeds)) (outcome_along found_deeds 3 ∙ refl) refl refl
    (quiet_by 1 9 found_deeds (drop 9 found_deeds) refl refl, handed_by 4 3 given_4 found_deeds refl refl)

line_3 : LinesEnd found_devices found_deeds 1 with_h (open_k ∷ read_k ∷ []) (outcome.Done (gives_file 2) ∷ outcome.Lost Removed ∷ []) (IsHandedOut 2 (came.Lost Dropped)) (drop 44 found_deeds)
unfolding count_to counted counted_bytes two_fields four_fields two_fields_bytes four_fields_bytes bytes8 bytes16 bytes32 bytes64 component_field header header_among announce device_list device_reply removal checked one_of given special general other body_of capability sets version name hello completion_head success_body completion_body create_body close_body read_body write_body notify_body range lock_body directory_body op_body request_head
line_3 = line_accepted found_devices found_deeds 1 with_h with_k open_k (read_k ∷ []) (outcome.Done (gives_file 2)) (outcome.Lost Removed ∷ []) (IsHandedOut 2 (came.Lost Dropped)) (drop 44 found_deeds) (drop 19 found_deeds) (take 18 found_deeds) (target.Device 1) 2 (came.Done (gives_file 2))
    (quiet_by 1 25 (drop 19 found_deeds) (drop 44 found_deeds) refl refl)
    (handed_by 2 19 given_2 (drop 19 found_deeds) refl refl)
    (record { acted = lit≤ tt; opened = opens_by found_devices 0 (drop 19 found_deeds) 2 second_open })
    refl refl refl (sym (take-append-drop 18 found_deeds)) (outcome_along found_deeds 2 ∙ refl) refl
    (ap (holding_after with_h open_k.asked) (given_along found_deeds 2 (came.Done (gives_file 2))) ∙ refl)
    line_4

line_2 : LinesEnd found_devices found_deeds 1 with_h (read_h ∷ open_k ∷ read_k ∷ []) (outcome.Lost Dropped ∷ outcome.Done (gives_file 2) ∷ outcome.Lost Removed ∷ []) (IsHandedOut 1 (came.Done (gives_file 1))) (drop 53 found_deeds)
unfolding count_to counted counted_bytes two_fields four_fields two_fields_bytes four_fields_bytes bytes8 bytes16 bytes32 bytes64 component_field header header_among announce device_list device_reply removal checked one_of given special general other body_of capability sets version name hello completion_head success_body completion_body create_body close_body read_body write_body notify_body range lock_body directory_body op_body request_head
line_2 = line_accepted found_devices found_deeds 1 with_h with_h read_h (open_k ∷ read_k ∷ []) (outcome.Lost Dropped) (outcome.Done (gives_file 2) ∷ outcome.Lost Removed ∷ []) (IsHandedOut 1 (came.Done (gives_file 1))) (drop 53 found_deeds) (drop 45 found_deeds) (take 44 found_deeds) (handle_target read_dropped) 1 (came.Lost Dropped)
    (quiet_by 1 8 (drop 45 found_deeds) (drop 53 found_deeds) refl refl)
    (handed_by 1 0 given_1 (drop 45 found_deeds) refl refl)
    (record { acted = lit≤ tt; opened = opens_by found_devices 9 (drop 45 found_deeds) 1 first_open })
    refl refl refl (sym (take-append-drop 44 found_deeds)) (outcome_along found_deeds 1 ∙ refl) refl refl
    line_3

line_1 : LinesEnd found_devices found_deeds 1 new_application (open_h ∷ read_h ∷ open_k ∷ read_k ∷ []) (outcome.Done (gives_file 1) ∷ outcome.Lost Dropped ∷ outcome.Done (gives_file 2) ∷ outcome.Lost Removed ∷ []) (λ later. Unit {0}) []
unfolding count_to counted counted_bytes two_fields four_fields two_fields_bytes four_fields_bytes bytes8 bytes16 bytes32 bytes64 component_field header header_among announce device_list device_reply removal checked one_of given special general other body_of capability sets version name hello completion_head success_body completion_body create_body close_body read_body write_body notify_body range lock_body directory_body op_body request_head
line_1 = line_accepted found_devices found_deeds 1 new_application with_h open_h (read_h ∷ open_k ∷ read_k ∷ []) (outcome.Done (gives_file 1)) (outcome.Lost Dropped ∷ outcome.Done (gives_file 2) ∷ outcome.Lost Removed ∷ []) (λ later. Unit {0}) [] (drop 54 found_deeds) (take 53 found_deeds) (target.Device 1) 0 (came.Done (gives_file 1))
    (quiet_by 1 19 (drop 54 found_deeds) [] refl refl)
    tt
    (record { acted = lit≤ tt; opened = opens_by found_devices 0 (drop 54 found_deeds) 1 first_open })
    refl refl refl (sym (take-append-drop 53 found_deeds)) (outcome_along found_deeds 0 ∙ refl) refl
    (ap (holding_after new_application open_h.asked) (given_along found_deeds 0 (came.Done (gives_file 1))) ∙ refl)
    line_2

-- the outcomes of an application
abbrev under : List (ℕ × Outcome)
under = map (λ (e : (ℕ × ℕ) × Outcome). (e.0.0, e.1)) found_outcomes

abbrev came_to : ℕ → List Outcome
came_to a = filter_map (λ t. on a t.0 t.1) under

abbrev HasEnded : ℕ → Type 0
HasEnded a = LinesEnd found_devices found_deeds a new_application (waits_of found_devices a found_lines) (came_to a) (λ later. Unit {0}) []

of_the_application : HasEnded 1
of_the_application = subst (λ (xs : List Waits). LinesEnd found_devices found_deeds 1 new_application xs (came_to 1) (λ later. Unit {0}) []) (sym waits) line_1

lines_within : list_all (is_line_within applications) found_lines ≡ true
unfolding asked_by
lines_within = refl

of_no_other : (a : ℕ) → among a applications ≡ false → HasEnded a
of_no_other a isnt =
    let no_waits = none_waits applications found_lines lines_within a isnt (first_control_of found_devices) in
    let no_outcomes = none_under applications under refl a isnt in
    subst (λ (xs : List Waits). LinesEnd found_devices found_deeds a new_application xs (came_to a) (λ later. Unit {0}) []) (sym no_waits)
    (subst (λ (os : List Outcome). LinesEnd found_devices found_deeds a new_application [] os (λ later. Unit {0}) []) (sym no_outcomes)
    ((found_deeds, sym (append-nil found_deeds), none_by channels devices applications found_deeds within a isnt), tt))

-- ---- what is sent and heard

ended_before : {A : Type 0} → true ≡ false → A
ended_before e = absurd (cc)

requests : (c : ℕ) → EndsWith (submitted c found_deeds) (filter is_request (host_wrote c found_deeds))
unfolding count_to counted counted_bytes two_fields four_fields two_fields_bytes four_fields_bytes bytes8 bytes16 bytes32 bytes64 component_field header header_among announce device_list device_reply removal checked one_of given special general other body_of capability sets version name hello completion_head success_body completion_body create_body close_body read_body write_body notify_body range lock_body directory_body op_body request_head
requests = of_each (λ c. EndsWith (submitted c found_deeds) (filter is_request (host_wrote c found_deeds))) channels (([], refl), (([], refl), tt))
    (λ c isnt. let none = none_host_wrote channels devices applications found_deeds within c isnt in
    (submitted c found_deeds, sym (append-nil (submitted c found_deeds)) ∙ ap (λ (ms : List (List ℕ)). submitted c found_deeds ++ filter is_request ms) (sym none)))

all_sent : (c : ℕ) → has_ended c found_deeds ≡ false → filter is_request (host_wrote c found_deeds) ≡ submitted c found_deeds
unfolding count_to counted counted_bytes two_fields four_fields two_fields_bytes four_fields_bytes bytes8 bytes16 bytes32 bytes64 component_field header header_among announce device_list device_reply removal checked one_of given special general other body_of capability sets version name hello completion_head success_body completion_body create_body close_body read_body write_body notify_body range lock_body directory_body op_body request_head
all_sent = of_each (λ c. has_ended c found_deeds ≡ false → filter is_request (host_wrote c found_deeds) ≡ submitted c found_deeds) channels (ended_before, ((λ on. refl), tt))
    (λ c isnt on. ap (filter is_request) (none_host_wrote channels devices applications found_deeds within c isnt) ∙ sym (none_submitted channels devices applications found_deeds within c isnt))

all_heard : (c : ℕ) → has_ended c found_deeds ≡ false → host_read c found_deeds ≡ client_wrote c found_deeds
all_heard = of_each (λ c. has_ended c found_deeds ≡ false → host_read c found_deeds ≡ client_wrote c found_deeds) channels (ended_before, ((λ on. refl), tt))
    (λ c isnt on. none_host_read channels devices applications found_deeds within c isnt ∙ sym (none_client_wrote channels devices applications found_deeds within c isnt))

-- ---- the control lines

-- what control lines come to
abbrev pub controls_done : Control
controls_done = record {
  devices = 1 ∷ [];
  current = Some 2;
  channels = 2;
  absent = 1 ∷ [];
  acts = begun 1 ∷ ended 1 ∷ begun 2 ∷ removed 1 ∷ [];
  told = (1, lists (1 ∷ [])) ∷ (2, lists (1 ∷ [])) ∷ (2, control.removal 1) ∷ [];
  notices = [];
  cuts = (1, Dropped) ∷ (1, Removed) ∷ [];
  idle = [];
}

control_is : controls_done ≡ control_at_end found_devices found_deeds (control_of (map (λ (d : ℕ × Declared). d.0) found_devices) found_lines)
unfolding notice_of controlled header_among component_field request_head header op_body create_body checked given one_of
control_is = refl

-- no request waits on the channel that is open at the end
none_left : left_open found_devices found_deeds (control_by found_devices found_lines) ≡ None
unfolding notice_of controlled header_among component_field request_head header op_body create_body checked given one_of
none_left = refl

pub at_end : IfSome (left_open found_devices found_deeds (control_by found_devices found_lines)) (IsStill found_devices (control_by found_devices found_lines) found_deeds)
at_end = rw none_left tt

-- one request is asked where it is answered
one_by_test : (b : Bool) → cond {A = List ℕ} b (0 ∷ []) [] ≡ cons_option (cond {A = Option ℕ} b (Some 0) None) []
one_by_test true = refl
one_by_test false = refl

-- the points at which the channels were still: the open of each was completed
first_still : (device id : ℕ) → asked 1 device id (drop 45 found_deeds) ≡ answered 1 device id (drop 45 found_deeds)
unfolding count_to counted counted_bytes two_fields four_fields two_fields_bytes four_fields_bytes bytes8 bytes16 bytes32 bytes64 component_field header header_among announce device_list device_reply removal checked one_of given special general other body_of capability sets version name hello completion_head success_body completion_body create_body close_body read_body write_body notify_body range lock_body directory_body op_body request_head add_event update_event delete_event rename_event event_body cache_data using_xps notice
first_still device id = one_by_test (1 == device && 0 == id)

second_still : (device id : ℕ) → asked 2 device id (drop 10 found_deeds) ≡ answered 2 device id (drop 10 found_deeds)
unfolding count_to counted counted_bytes two_fields four_fields two_fields_bytes four_fields_bytes bytes8 bytes16 bytes32 bytes64 component_field header header_among announce device_list device_reply removal checked one_of given special general other body_of capability sets version name hello completion_head success_body completion_body create_body close_body read_body write_body notify_body range lock_body directory_body op_body request_head add_event update_event delete_event rename_event event_body cache_data using_xps notice
second_still device id = one_by_test (1 == device && 0 == id)

-- what the control lines came to at the two `settle` lines
abbrev first_settle : Control
first_settle = record {
  devices = 1 ∷ [];
  current = Some 1;
  channels = 1;
  absent = [];
  acts = begun 1 ∷ [];
  told = (1, lists (1 ∷ [])) ∷ [];
  notices = [];
  cuts = [];
  idle = [];
}

abbrev second_settle : Control
second_settle = record {
  devices = 1 ∷ [];
  current = Some 2;
  channels = 2;
  absent = [];
  acts = begun 1 ∷ ended 1 ∷ begun 2 ∷ [];
  told = (1, lists (1 ∷ [])) ∷ (2, lists (1 ∷ [])) ∷ [];
  notices = [];
  cuts = (1, Dropped) ∷ [];
  idle = [];
}

settles_are : at_settles (first_control_of found_devices) found_lines ≡ first_settle ∷ second_settle ∷ []
unfolding notice_of controlled is_settle
settles_are = refl

still_at : (control : Control) (c count : ℕ) → open_channel (drop count found_deeds) ≡ Some c → length (filter_map act_by (drop count found_deeds)) ≡ length control.acts
    → IsStill found_devices control (drop count found_deeds) c → WasStill found_devices found_deeds control
still_at control c count is_open acts still =
    (take count found_deeds, drop count found_deeds, sym (take-append-drop count found_deeds), acts, rw is_open still)

first_point : WasStill found_devices found_deeds first_settle
unfolding count_to counted counted_bytes two_fields four_fields two_fields_bytes four_fields_bytes bytes8 bytes16 bytes32 bytes64 component_field header header_among announce device_list device_reply removal checked one_of given special general other body_of capability sets version name hello completion_head success_body completion_body create_body close_body read_body write_body notify_body range lock_body directory_body op_body request_head add_event update_event delete_event rename_event event_body cache_data using_xps notice
first_point = still_at first_settle 1 45 refl refl (record {
  sent = refl;
  owed = refl;
  tells = refl;
  notices = refl;
  read = refl;
  heard = refl;
  completed = λ device id index has. inl (subst (Has index) (first_still device id) has);
})

second_point : WasStill found_devices found_deeds second_settle
unfolding count_to counted counted_bytes two_fields four_fields two_fields_bytes four_fields_bytes bytes8 bytes16 bytes32 bytes64 component_field header header_among announce device_list device_reply removal checked one_of given special general other body_of capability sets version name hello completion_head success_body completion_body create_body close_body read_body write_body notify_body range lock_body directory_body op_body request_head add_event update_event delete_event rename_event event_body cache_data using_xps notice
second_point = still_at second_settle 2 10 refl refl (record {
  sent = refl;
  owed = refl;
  tells = refl;
  notices = refl;
  read = refl;
  heard = refl;
  completed = λ device id index has. inl (subst (Has index) (second_still device id) has);
})

pub settles : All (WasStill found_devices found_deeds) (at_settles (first_control_of found_devices) found_lines)
settles = subst (All (WasStill found_devices found_deeds)) (sym settles_are)
    (All-from_recursion (WasStill found_devices found_deeds) (first_settle ∷ second_settle ∷ []) (first_point, (second_point, tt)))

opened : All (Opens found_devices found_deeds) channels
opened = All-from_recursion (Opens found_devices found_deeds) channels (opens_by found_devices 54 found_deeds 1 first_open, (opens_by found_devices 19 found_deeds 2 second_open, tt))

abbrev IsSettled : ℕ → Type 0
IsSettled c = has_ended c found_deeds ≡ false → option_map_or is_settled_host (host_stand found_deeds c) false ≡ true

settled : All IsSettled channels
unfolding count_to counted counted_bytes two_fields four_fields two_fields_bytes four_fields_bytes bytes8 bytes16 bytes32 bytes64 component_field header header_among announce device_list device_reply removal checked one_of given special general other body_of capability sets version name hello completion_head success_body completion_body create_body close_body read_body write_body notify_body range lock_body directory_body op_body request_head
settled = All-from_recursion IsSettled channels (ended_before, ((λ on. refl), tt))

-- what is told on a channel
abbrev IsTold : ℕ → Type 0
IsTold c = AreSaid (Tells found_devices found_deeds c) (of_channel c controls_done.told) (tellings_on c found_deeds) (has_ended c found_deeds)

tells : (c : ℕ) → IsTold c
unfolding count_to counted counted_bytes two_fields four_fields two_fields_bytes four_fields_bytes bytes8 bytes16 bytes32 bytes64 component_field header header_among announce device_list device_reply removal checked one_of given special general other body_of capability sets version name hello completion_head success_body completion_body create_body close_body read_body write_body notify_body range lock_body directory_body op_body request_head add_event update_event delete_event rename_event event_body cache_data using_xps notice
tells = of_each IsTold channels (record { each = (refl, tt); all = ended_before }, (record { each = (refl, (refl, tt)); all = λ on. refl }, tt))
    (λ c isnt. none_said (Tells found_devices found_deeds c) (of_channel c controls_done.told) (tellings_on c found_deeds) (has_ended c found_deeds)
    (none_under channels controls_done.told refl c isnt) (none_told_on channels devices applications found_deeds within c isnt))

pub first_told : AreSaid (Tells found_devices found_deeds 1) (of_channel 1 controls_done.told) (tellings_on 1 found_deeds) true
first_told = tells 1

in_time : AtEachPoint IsToldInTime found_deeds
unfolding component_field header_among
in_time = told_in_time_by_test channels devices applications found_deeds within refl

-- no notice is told on a channel
abbrev IsNoticed : ℕ → Type 0
IsNoticed c = AreSaid (λ n message. message ≡ notice_bytes n) (of_channel c controls_done.notices) (notices_on c found_deeds) (has_ended c found_deeds)

no_notice : (c : ℕ) → notices_on c found_deeds ≡ []
unfolding count_to counted counted_bytes two_fields four_fields two_fields_bytes four_fields_bytes bytes8 bytes16 bytes32 bytes64 component_field header header_among announce device_list device_reply removal checked one_of given special general other body_of capability sets version name hello completion_head success_body completion_body create_body close_body read_body write_body notify_body range lock_body directory_body op_body request_head add_event update_event delete_event rename_event event_body cache_data using_xps notice
no_notice = of_each (λ c. notices_on c found_deeds ≡ []) channels (refl, (refl, tt))
    (λ c isnt. ap (λ (ms : List (List ℕ)). filter (λ message. is_some (notice_in message)) (reverse ms)) (none_host_wrote channels devices applications found_deeds within c isnt))

notices : (c : ℕ) → IsNoticed c
notices c = none_said (λ n message. message ≡ notice_bytes n) (of_channel c controls_done.notices) (notices_on c found_deeds) (has_ended c found_deeds) refl (no_notice c)

cuts : (device : ℕ) → filter_map cause_in (reverse (journal device found_deeds)) ≡ of_channel device controls_done.cuts
cuts = of_each (λ device. filter_map cause_in (reverse (journal device found_deeds)) ≡ of_channel device controls_done.cuts) devices (refl, tt)
    (λ d isnt. ap (λ (items : List Item). filter_map cause_in (reverse items)) (none_stored channels devices applications found_deeds within d isnt) ∙ sym (none_under devices controls_done.cuts refl d isnt))

acts : filter_map act_by (reverse found_deeds) ≡ controls_done.acts
acts = refl

cut_there : EachAfter (IsCutThere found_devices) found_deeds
cut_there = cut_by_test found_devices found_deeds refl

-- ---- the run

-- what the session's world tells
abbrev Summary : Type 0
Summary = List Deed × List (ℕ × List Item) × List ((ℕ × ℕ) × Outcome) × List ℕ × List (ℕ × List (List ℕ)) × CacheState

abbrev told_by : WorldState → Summary
told_by w = (w.deeds, journals_in w, outcomes_of w, w.idle, flat_map printed_in w.stations, w.cache)

abbrev found_told : Summary
found_told = (found_deeds, (1, found_journal) ∷ [], found_outcomes, [], [], [])

found_run : option_map told_by (ran found_lines) ≡ Some found_told
unfolding count_to counted counted_bytes two_fields four_fields two_fields_bytes four_fields_bytes bytes8 bytes16 bytes32 bytes64 component_field header header_among announce device_list device_reply removal checked one_of given special general other body_of capability sets version name hello completion_head success_body completion_body create_body close_body read_body write_body notify_body range lock_body directory_body op_body request_head add_event update_event delete_event rename_event event_body cache_data using_xps notice carrier_frame size_of length_of flags_of declaring furnishing asked_by notice_of controls setting
found_run = refl

-- the world that it comes to
found_world : {A : Type 0} (f : WorldState → A) (o : Option WorldState) (x : A) → option_map f o ≡ Some x → (w : WorldState) × (o ≡ Some w) × (f w ≡ x)
found_world f (Some w) x e = (w, refl, let same : f w ≡ x = cc in same)
found_world f None x e = absurd (cc)

-- none of its runs found no memory
none_starved : (λ key. false) ≡ starved_in ((1, found_journal) ∷ [])
none_starved = refl

ran_so : (w : WorldState) → ran found_lines ≡ Some w → journals_in w ≡ (1, found_journal) ∷ [] → WorldRun found_lines w
ran_so w is stored = (
  record { draws = 1000000; rounds = 1000 },
  subst (λ (starves : Key → Bool). run_of (record { draws = 1000000; rounds = 1000 }) starves found_lines ≡ Some w) (none_starved ∙ ap starved_in (sym stored)) is,
)

module _ (told : Outcomes) (found : AreFound told) where
  pub outcomes : HaveOutcomes found_devices found_lines told.lines.entries found_deeds
  outcomes = record {
    outcomes = came_to;
    each = found.lines ∙ refl;
    lines_end = of_each HasEnded applications (of_the_application, tt) of_no_other;
    requests = requests;
    all_sent = all_sent;
    all_heard = all_heard;
  }

  reported : report_of found_script told found_books ≡ found_output
  unfolding digits encode_with declared_by asked_by
  reported = rw (found.lines, found.idle, found.documents, found.cache) refl

  pub report : IsReported found_devices found_script told found_books found_output found_deeds
  unfolding count_to counted counted_bytes two_fields four_fields two_fields_bytes four_fields_bytes bytes8 bytes16 bytes32 bytes64 component_field header header_among announce device_list device_reply removal checked one_of given special general other body_of capability sets version name hello completion_head success_body completion_body create_body close_body read_body write_body notify_body range lock_body directory_body op_body request_head add_event update_event delete_event rename_event event_body cache_data using_xps notice
  report = record {
    output = sym reported;
    documents = found.documents ∙ refl;
    cache = ap by_bytes found.cache ∙ refl;
  }

  pub control_lines : AreActed found_devices found_lines told.idle.items found_deeds
  control_lines = record {
    control = controls_done;
    control_is = control_is;
    acts = acts;
    opened = opened;
    settled = settled;
    tells = tells;
    in_time = in_time;
    notices = notices;
    cuts = cuts;
    cut_there = cut_there;
    cut_all = tt;
    idle_lines = rw found.idle refl;
    idle_rise = rw found.idle (λ k below. absurd (omega arith));
  }

  -- what is told of devices, as these control lines have it
  pub told_is : controls_done.told ≡ ((control_lines).control).told
  unfolding control_lines
  told_is = refl

  pub run : IsRun found_script found_books told found_deeds
  run =
      let world = found_world told_by (ran found_lines) found_told found_run in
      let tells = world.2 in
      record {
        world = world.0;
        run = ran_so world.0 world.1 (ap (λ (t : Summary). t.1) tells);
        did = ap (λ (t : Summary). t.0) tells;
        stored = sym (ap (λ (t : Summary). t.1) tells);
        tells = record {
          lines = found.lines ∙ sym (ap (λ (t : Summary). t.2) tells);
          idle = found.idle ∙ sym (ap (λ (t : Summary). t.3) tells);
          documents = found.documents ∙ sym (ap (λ (t : Summary). t.4) tells);
          cache = ap by_bytes found.cache ∙ sym (ap (λ (t : Summary). t.5) tells);
        };
      }
