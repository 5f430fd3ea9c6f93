-- The worked session of a script: what stands on the wire and in the journals, how both sides are joined, and what the client tells.
use Rattle.std.proofs.Common.{◌≡◌, ◌∙◌, refl, sym, ap, subst, inl, inr, ℕ, ◌==◌, ◌&&◌, Bool, true, false, cond, List, [], ◌∷◌, length, map, reverse, lit<, ltb, ltb-true, Some, None, append-nil, Option}
use Rattle.std.specs.Prelude.{All}
use Rattle.std.specs.List.{cons_option}
use Rattle.std.proofs.lemmas.List.Elements.{All-from_recursion}
use Rattle.rd_base.specs.declared.journal.Item.{Item}
use Rattle.rd_client.specs.Order.{ClientOrder}
use Rattle.rd_drive.specs.Outcome.{fault, checked, one_of, given}
use Rattle.rd_drive.specs.Replies.{AreToldBy, KeyedReply}
use Rattle.rd_host.specs.Order.{HostOrder}
use Rattle.rd_pending.specs.History.{Call, lives_before}
use Rattle.rd_script.specs.declared.line.NumberedLine.{NumberedLine}
use Rattle.rd_declared.specs.Devices.{Declared, device_cut, device_step, declaring, furnishing}
use Rattle.rd_world.specs.Found.{found_books, found_deeds, found_devices, found_drive, found_lines, found_recording, gives_file, open_first, open_second, read_removed}
use Rattle.rd_deeds.specs.Host.{HostSide}
use Rattle.rd_deeds.specs.HostDeeds.{calls_of}
use Rattle.rd_deeds.specs.Joining.{AreJoined, Joins}
use Rattle.rd_world.specs.Recording.{IsRecorded, announced_of, client_id, is_gone_at}
use Rattle.rd_declared.specs.Declaring.{declared_devices}
use Rattle.rd_world.specs.Run.{setting}
use Rattle.rd_world.specs.Acts.{AreSaid, Tells, of_channel, tellings_on}
use Rattle.rd_world.specs.Control.{Telling}
use Rattle.rd_world.specs.Recording.{request_of}
use Rattle.rd_world.specs.Session.{AllTold, AreJournals, IsLeftOver, IsOfDevice, world_moment, replies_in, IsPlain}
use Rattle.rd_deeds.specs.Talk.{Deed, EachAfter, answered, asked, client_moves, client_read, has_ended, host_moves, host_wrote, journal, EndsWith, indices_of}
use Rattle.rd_deeds.specs.Told.{Answers, IsHeeded, Replies, worn_entries, IsLeft, unserved, told, requests_to, without_last}
use Rattle.rd_deeds.proofs.TestedAnswers.{completes_with, each_answered}
use Rattle.rd_world.proofs.TestedPlain.{each_plain}
use Rattle.rd_deeds.proofs.TestedDeeds.{along, along_is, carried_by_test, each, host_by_test}
use Rattle.rd_deeds.proofs.TestedJournals.{are_distinct, is_lawful, lawful_by_test, one_of_key}
use Rattle.rd_world.proofs.TestedReplies.{in_growing, in_nothing, replied_by_run}
use Rattle.rd_deeds.proofs.TestedTelling.{are_known, comes_by_test, direct_by_test, no_journal, of_journals, sent_by_test, stands_by_test, strange}
use Rattle.rd_world.proofs.TestedWire.{carried_messages, is_on, named_by_test, no_client_moves, no_host_moves, none_read, none_written, not_ended, open_by_test, runs_by_test, stored_by_test, none_answered}
use Rattle.rd_deeds.proofs.Joining.{all_join}
use Rattle.rd_base.specs.Counted.{count_to, counted, counted_bytes, two_fields, four_fields, two_fields_bytes, four_fields_bytes}
use Rattle.rd_base.specs.Fields.{bytes8, bytes16, bytes32, bytes64}
use Rattle.rd_base.specs.Header.{component_field, header, header_among}
use Rattle.rd_base.specs.Lawful.{RunsAt}
use Rattle.rd_base.specs.Statuses.{no_such_device}
use Rattle.rd_devices.specs.DeviceList.{announce, device_list}
use Rattle.rd_devices.specs.DeviceReply.{device_reply}
use Rattle.rd_devices.specs.Removal.{removal}
use Rattle.rd_hello.specs.Capability.{special, general, other, body_of, capability, sets}
use Rattle.rd_hello.specs.Hello.{version, name, hello}
use Rattle.rd_irp.specs.Completion.{completion_head, success_body, completion_body}
use Rattle.rd_irp.specs.Op.{create_body, close_body, read_body, write_body, notify_body, range, lock_body, directory_body, op_body}
use Rattle.rd_irp.specs.Request.{request_head}
use Rattle.rd_world.proofs.TestedLines.{of_each}

abbrev channels : List ℕ
channels = 1 ∷ 2 ∷ []

abbrev devices : List ℕ
devices = 1 ∷ []

-- ---- the devices

pub devices_are : found_devices ≡ declared_devices (map (λ (l : NumberedLine). l.line) found_lines)
unfolding declaring furnishing
devices_are = refl

-- ---- the wire

on_channels : each (is_on channels) found_deeds ≡ true
on_channels = refl

lives_along : (c : ℕ) → lives_before c (calls_of client_id found_deeds) ≡ lives_before c (along client_id found_deeds).1
lives_along c = ap (λ (made : HostSide × List Call). lives_before c made.1) (sym (along_is client_id found_deeds))

first_lives : lives_before 1 (calls_of client_id found_deeds) ≡ 0
unfolding count_to counted counted_bytes two_fields four_fields two_fields_bytes four_fields_bytes bytes8 bytes16 bytes32 bytes64 component_field header header_among announce device_list device_reply removal checked one_of given special general other body_of capability sets version name hello completion_head success_body completion_body create_body close_body read_body write_body notify_body range lock_body directory_body op_body request_head
first_lives = lives_along 1 ∙ refl

second_lives : lives_before 2 (calls_of client_id found_deeds) ≡ 1
unfolding count_to counted counted_bytes two_fields four_fields two_fields_bytes four_fields_bytes bytes8 bytes16 bytes32 bytes64 component_field header header_among announce device_list device_reply removal checked one_of given special general other body_of capability sets version name hello completion_head success_body completion_body create_body close_body read_body write_body notify_body range lock_body directory_body op_body request_head
second_lives = lives_along 2 ∙ refl

host_first : HostOrder client_id 0 (reverse (host_moves 1 found_deeds))
unfolding count_to counted counted_bytes two_fields four_fields two_fields_bytes four_fields_bytes bytes8 bytes16 bytes32 bytes64 component_field header header_among announce device_list device_reply removal checked one_of given special general other body_of capability sets version name hello completion_head success_body completion_body create_body close_body read_body write_body notify_body range lock_body directory_body op_body request_head
host_first = refl

host_second : HostOrder client_id 1 (reverse (host_moves 2 found_deeds))
unfolding count_to counted counted_bytes two_fields four_fields two_fields_bytes four_fields_bytes bytes8 bytes16 bytes32 bytes64 component_field header header_among announce device_list device_reply removal checked one_of given special general other body_of capability sets version name hello completion_head success_body completion_body create_body close_body read_body write_body notify_body range lock_body directory_body op_body request_head
host_second = refl

client_first : ClientOrder (announced_of found_devices) (is_gone_at 1 found_deeds) (reverse (client_moves 1 found_deeds))
unfolding count_to counted counted_bytes two_fields four_fields two_fields_bytes four_fields_bytes bytes8 bytes16 bytes32 bytes64 component_field header header_among announce device_list device_reply removal checked one_of given special general other body_of capability sets version name hello completion_head success_body completion_body create_body close_body read_body write_body notify_body range lock_body directory_body op_body request_head
client_first = refl

client_second : ClientOrder (announced_of found_devices) (is_gone_at 2 found_deeds) (reverse (client_moves 2 found_deeds))
unfolding count_to counted counted_bytes two_fields four_fields two_fields_bytes four_fields_bytes bytes8 bytes16 bytes32 bytes64 component_field header header_among announce device_list device_reply removal checked one_of given special general other body_of capability sets version name hello completion_head success_body completion_body create_body close_body read_body write_body notify_body range lock_body directory_body op_body request_head
client_second = refl

host_order : (c : ℕ) → HostOrder client_id (lives_before c (calls_of client_id found_deeds)) (reverse (host_moves c found_deeds))
host_order = of_each (λ c. HostOrder client_id (lives_before c (calls_of client_id found_deeds)) (reverse (host_moves c found_deeds))) channels (
  subst (λ (n : ℕ). HostOrder client_id n (reverse (host_moves 1 found_deeds))) (sym first_lives) host_first,
  (subst (λ (n : ℕ). HostOrder client_id n (reverse (host_moves 2 found_deeds))) (sym second_lives) host_second, tt),
)
    (λ c isnt. let none = no_host_moves channels found_deeds on_channels c isnt in
    subst (λ ms. HostOrder client_id (lives_before c (calls_of client_id found_deeds)) (reverse ms)) (sym none) refl)

client_order : (c : ℕ) → ClientOrder (announced_of found_devices) (is_gone_at c found_deeds) (reverse (client_moves c found_deeds))
client_order = of_each (λ c. ClientOrder (announced_of found_devices) (is_gone_at c found_deeds) (reverse (client_moves c found_deeds))) channels
    (client_first, (client_second, tt))
    (λ c isnt. let none = no_client_moves channels found_deeds on_channels c isnt in
    subst (λ ms. ClientOrder (announced_of found_devices) (is_gone_at c found_deeds) (reverse ms)) (sym none) refl)

pub wire : IsRecorded found_devices found_recording found_deeds
unfolding count_to counted counted_bytes two_fields four_fields two_fields_bytes four_fields_bytes bytes8 bytes16 bytes32 bytes64 component_field header header_among announce device_list device_reply removal checked one_of given special general other body_of capability sets version name hello completion_head success_body completion_body create_body close_body read_body write_body notify_body range lock_body directory_body op_body request_head
wire = record {
  bytes = refl;
  fit = carried_messages found_deeds refl;
  on_open = open_by_test found_deeds refl;
  host_order = host_order;
  client_order = client_order;
}

-- ---- the journals

known : are_known channels devices found_deeds ≡ true
unfolding count_to counted counted_bytes two_fields four_fields two_fields_bytes four_fields_bytes bytes8 bytes16 bytes32 bytes64 component_field header header_among announce device_list device_reply removal checked one_of given special general other body_of capability sets version name hello completion_head success_body completion_body create_body close_body read_body write_body notify_body range lock_body directory_body op_body request_head
known = refl

named : (device : ℕ) → All (IsOfDevice found_deeds device) (journal device found_deeds)
unfolding count_to counted counted_bytes two_fields four_fields two_fields_bytes four_fields_bytes bytes8 bytes16 bytes32 bytes64 component_field header header_among announce device_list device_reply removal checked one_of given special general other body_of capability sets version name hello completion_head success_body completion_body create_body close_body read_body write_body notify_body range lock_body directory_body op_body request_head
named = of_each (λ device. All (IsOfDevice found_deeds device) (journal device found_deeds)) devices
    (named_by_test found_deeds 1 (journal 1 found_deeds) refl, tt)
    (λ device isnt. subst (λ (items : List Item). All (IsOfDevice found_deeds device) items) (sym (no_journal channels devices found_deeds known device isnt)) (named_by_test found_deeds device [] refl))

still_clock : (device : ℕ) → All (RunsAt 0) (journal device found_deeds)
still_clock = of_each (λ device. All (RunsAt 0) (journal device found_deeds)) devices
    (runs_by_test 0 (journal 1 found_deeds) refl, tt)
    (λ device isnt. subst (λ (items : List Item). All (RunsAt 0) items) (sym (no_journal channels devices found_deeds known device isnt)) (runs_by_test 0 [] refl))

now : world_moment found_lines ≡ 0
unfolding declaring furnishing setting
now = refl

marked : AreToldBy device_step device_cut (request_of found_deeds) found_drive.state (reverse (journal 1 found_deeds))
unfolding count_to counted counted_bytes two_fields four_fields two_fields_bytes four_fields_bytes bytes8 bytes16 bytes32 bytes64 component_field header header_among announce device_list device_reply removal checked one_of given special general other body_of capability sets version name hello completion_head success_body completion_body create_body close_body read_body write_body notify_body range lock_body directory_body op_body request_head
marked = (tt, ((refl, λ e. absurd (cc)), (tt, (tt, (tt, (tt, ((refl, λ e. absurd (cc)), (tt, (tt, tt)))))))))

pub journals : AreJournals (world_moment found_lines) found_devices found_books found_deeds
journals = record {
  each = refl;
  named = named;
  on_open = stored_by_test found_deeds refl;
  still_clock = λ device. subst (λ (n : ℕ). All (RunsAt n) (journal device found_deeds)) (sym now) (still_clock device);
  marked = All-from_recursion (λ (d : ℕ × Declared). AreToldBy device_step device_cut (request_of found_deeds) (d.1).state (reverse (journal d.0 found_deeds))) found_devices (marked, tt);
}

-- ---- how both sides are joined

abbrev found_replies : Replies
found_replies = replies_in found_devices found_deeds

answers : EachAfter (Answers found_replies) found_deeds
unfolding count_to counted counted_bytes two_fields four_fields two_fields_bytes four_fields_bytes bytes8 bytes16 bytes32 bytes64 component_field header header_among announce device_list device_reply removal checked one_of given special general other body_of capability sets version name hello completion_head success_body completion_body create_body close_body read_body write_body notify_body range lock_body directory_body op_body request_head
answers = each_answered found_replies found_deeds (
  (read_removed.request, fault no_such_device, refl, completes_with read_removed (fault no_such_device) (lit< tt) (lit< tt) (lit< tt) (refl, tt) tt, inr (inr (refl, inl (refl, refl)))),
  (
    (open_second.request, gives_file 2, refl, completes_with open_second (gives_file 2) (lit< tt) (lit< tt) (lit< tt) (tt, tt) (lit< tt, lit< tt), inl (replied_by_run found_devices found_deeds 1 found_drive refl open_second.key open_second.request (gives_file 2) _ refl refl (1, lit< tt, refl))),
    (
      (open_first.request, gives_file 1, refl, completes_with open_first (gives_file 1) (lit< tt) (lit< tt) (lit< tt) (tt, tt) (lit< tt, lit< tt), inl (replied_by_run found_devices found_deeds 1 found_drive refl open_first.key open_first.request (gives_file 1) _ refl refl (0, lit< tt, refl))),
      tt,
    ),
  ),
)

lawful : (device : ℕ) → is_lawful (reverse (journal device found_deeds)) ≡ true
lawful = of_journals channels devices (λ items. is_lawful (reverse items)) found_deeds known refl refl

few : (device : ℕ) → ltb (length (journal device found_deeds)) worn_entries ≡ true
few = of_journals channels devices (λ items. ltb (length items) worn_entries) found_deeds known refl refl

distinct : (device : ℕ) → are_distinct (found_replies device (reverse (journal device found_deeds))) ≡ true
unfolding count_to counted counted_bytes two_fields four_fields two_fields_bytes four_fields_bytes bytes8 bytes16 bytes32 bytes64 component_field header header_among announce device_list device_reply removal checked one_of given special general other body_of capability sets version name hello completion_head success_body completion_body create_body close_body read_body write_body notify_body range lock_body directory_body op_body request_head
distinct = of_each (λ device. are_distinct (found_replies device (reverse (journal device found_deeds))) ≡ true) devices (refl, tt)
    (λ device isnt. subst (λ (items : List Item). are_distinct (found_replies device (reverse items)) ≡ true) (sym (no_journal channels devices found_deeds known device isnt))
    (subst (λ (rs : List KeyedReply). are_distinct rs ≡ true) (sym (in_nothing found_devices found_deeds device)) refl))

pub joined : AreJoined client_id found_replies found_deeds
unfolding count_to counted counted_bytes two_fields four_fields two_fields_bytes four_fields_bytes bytes8 bytes16 bytes32 bytes64 component_field header header_among announce device_list device_reply removal checked one_of given special general other body_of capability sets version name hello completion_head success_body completion_body create_body close_body read_body write_body notify_body range lock_body directory_body op_body request_head
joined = record {
  carried = carried_by_test found_deeds refl;
  host = host_by_test client_id found_deeds refl;
  told = record {
    sent_in_order = sent_by_test channels devices found_deeds known refl;
    direct_in_order = direct_by_test channels devices found_deeds known refl;
    answers = answers;
    comes = comes_by_test found_deeds refl;
  };
  grows = λ device earlier more later parts. in_growing found_devices found_deeds device earlier more;
  once = λ device key reply other. one_of_key (found_replies device (reverse (journal device found_deeds))) (distinct device) key reply other;
  stands = stands_by_test channels devices found_deeds known refl;
  lawful = λ device. lawful_by_test (reverse (journal device found_deeds)) (lawful device);
  unworn = λ device. ltb-true (length (journal device found_deeds)) worn_entries (few device);
}

pub joins : Joins client_id found_replies found_deeds
joins = all_join client_id found_replies found_deeds joined

-- ---- what the client tells

plain : EachAfter IsPlain found_deeds
unfolding count_to counted counted_bytes two_fields four_fields two_fields_bytes four_fields_bytes bytes8 bytes16 bytes32 bytes64 component_field header header_among announce device_list device_reply removal checked one_of given special general other body_of capability sets version name hello completion_head success_body completion_body create_body close_body read_body write_body notify_body range lock_body directory_body op_body request_head
plain = each_plain found_deeds (
  (read_removed, fault no_such_device, refl, refl, refl, completes_with read_removed (fault no_such_device) (lit< tt) (lit< tt) (lit< tt) (refl, tt) tt),
  (
    (open_second, gives_file 2, refl, refl, refl, completes_with open_second (gives_file 2) (lit< tt) (lit< tt) (lit< tt) (tt, tt) (lit< tt, lit< tt)),
    ((open_first, gives_file 1, refl, refl, refl, completes_with open_first (gives_file 1) (lit< tt) (lit< tt) (lit< tt) (tt, tt) (lit< tt, lit< tt)), tt),
  ),
)

second_read : client_read 2 found_deeds ≡ host_wrote 2 found_deeds
second_read = refl

first_ended : ¬ (has_ended 1 found_deeds ≡ false)
first_ended e = absurd (cc)

second_goes_on : ¬ (has_ended 2 found_deeds ≡ true)
second_goes_on e = absurd (cc)

all_read : (c : ℕ) → has_ended c found_deeds ≡ false → client_read c found_deeds ≡ host_wrote c found_deeds
all_read = of_each (λ c. has_ended c found_deeds ≡ false → client_read c found_deeds ≡ host_wrote c found_deeds) channels
    ((λ e. absurd (first_ended e)), ((λ e. second_read), tt))
    (λ c isnt e. none_read channels found_deeds on_channels c isnt ∙ sym (none_written channels found_deeds on_channels c isnt))

-- both requests on the second channel are of one pair
second_completed : (device id : ℕ) → asked 2 device id found_deeds ≡ answered 2 device id found_deeds
unfolding count_to counted counted_bytes two_fields four_fields two_fields_bytes four_fields_bytes bytes8 bytes16 bytes32 bytes64 component_field header header_among announce device_list device_reply removal checked one_of given special general other body_of capability sets version name hello completion_head success_body completion_body create_body close_body read_body write_body notify_body range lock_body directory_body op_body request_head
second_completed device id = go (1 == device && 0 == id)
  where
    go : (b : Bool) → cond {A = List ℕ} b (1 ∷ cond {A = List ℕ} b (0 ∷ []) []) (cond {A = List ℕ} b (0 ∷ []) []) ≡ cons_option (cond {A = Option ℕ} b (Some 1) None) (cons_option (cond {A = Option ℕ} b (Some 0) None) [])
    go true = refl
    go false = refl

all_completed : (c device id : ℕ) → has_ended c found_deeds ≡ false → asked c device id found_deeds ≡ answered c device id found_deeds
all_completed c device id = of_each (λ c. has_ended c found_deeds ≡ false → asked c device id found_deeds ≡ answered c device id found_deeds) channels
    ((λ e. absurd (first_ended e)), ((λ e. second_completed device id), tt))
    (λ c isnt e. ap (λ ms. indices_of device id ms) (none_read channels found_deeds on_channels c isnt) ∙ sym (none_answered channels found_deeds on_channels c isnt device id))
    c

-- both requests on the first channel came
each_came : (device : ℕ)
    → EndsWith (unserved 1 device found_deeds (told 1 device found_deeds)) (unserved 1 device found_deeds (requests_to device (without_last (client_read 1 found_deeds))))
unfolding count_to counted counted_bytes two_fields four_fields two_fields_bytes four_fields_bytes bytes8 bytes16 bytes32 bytes64 component_field header header_among announce device_list device_reply removal checked one_of given special general other body_of capability sets version name hello completion_head success_body completion_body create_body close_body read_body write_body notify_body range lock_body directory_body op_body request_head
each_came = of_each (λ device. EndsWith (unserved 1 device found_deeds (told 1 device found_deeds)) (unserved 1 device found_deeds (requests_to device (without_last (client_read 1 found_deeds))))) devices
    (([], refl), tt)
    (λ device isnt. go device (unserved 1 device found_deeds (told 1 device found_deeds)) (1 == device) (strange 1 device devices refl isnt))
  where
    go : (device : ℕ) (whole : List ℕ) (b : Bool) → b ≡ false → EndsWith whole (unserved 1 device found_deeds (cond {A = List ℕ} b (0 ∷ []) []))
    go device whole false e = (whole, sym (append-nil whole))
    go device whole true e = absurd (cc)

first_heeded : IsHeeded found_replies 1 found_deeds []
first_heeded = record {
  left = All-from_recursion (IsLeft 1) [] tt;
  each = each_came;
  answers = answers;
}

module _ (told : List (ℕ × Telling)) (said : AreSaid (Tells found_devices found_deeds 1) (of_channel 1 told) (tellings_on 1 found_deeds) true) where
  abbrev IsCutShort : ℕ → Type 0
  IsCutShort c = has_ended c found_deeds ≡ true → (rest : List Deed) × IsLeftOver found_devices told found_replies c found_deeds rest

  heeded : (c : ℕ) → IsCutShort c
  heeded = of_each IsCutShort channels
      ((λ e. ([], record { heeded = first_heeded; tells = said })), ((λ e. absurd (second_goes_on e)), tt))
      (λ c isnt e. let never = not_ended channels found_deeds on_channels c isnt in absurd (cc (never, e)))

  pub tells : AllTold found_devices told found_replies found_deeds
  tells = record {
    plain = plain;
    all_read = all_read;
    all_completed = all_completed;
    heeded = heeded;
  }
