-- The worked session of deeds meets the premises of the joining law.
use Rattle.std.proofs.Common.{◌≡◌, ◌∙◌, refl, sym, ap, subst, inl, inr, ℕ, true, List, [], ◌∷◌, ◌++◌, length, reverse, lit<, ltb, ltb-true, append-nil, flat_map}
use Rattle.std.specs.Prelude.{Contains}
use Rattle.std.specs.List.{list_any}
use Rattle.std.proofs.lemmas.List.Concat.{flat_map-append}
use Rattle.std.proofs.lemmas.List.Elements.{Contains-append_left}
use Rattle.rd_base.specs.Counted.{count_to, counted, counted_bytes, four_fields, four_fields_bytes, two_fields, two_fields_bytes}
use Rattle.rd_base.specs.Fields.{bytes16, bytes32, bytes64, bytes8}
use Rattle.rd_base.specs.Header.{component_field, header, header_among}
use Rattle.rd_base.specs.declared.journal.Cause.{Cause}
use Rattle.rd_base.specs.declared.journal.Item.{Item}
use Rattle.rd_base.specs.declared.journal.Item.TheVariants.{Cut}
use Rattle.rd_base.specs.declared.journal.Key.{Key}
use Rattle.rd_base.specs.Statuses.{no_such_device}
use Rattle.rd_devices.specs.DeviceList.{announce, device_list}
use Rattle.rd_devices.specs.DeviceReply.{device_reply}
use Rattle.rd_devices.specs.Removal.{removal}
use Rattle.rd_drive.specs.Outcome.{checked, fault, given, one_of}
use Rattle.rd_drive.specs.Replies.{KeyedReply, cancellation}
use Rattle.rd_hello.specs.Capability.{body_of, capability, general, other, sets, special}
use Rattle.rd_hello.specs.Hello.{hello, name, version}
use Rattle.rd_irp.specs.declared.completion.Reply.{Reply}
use Rattle.rd_irp.specs.declared.request.Request.{Request}
use Rattle.rd_irp.specs.Completion.{completion_body, completion_head, success_body}
use Rattle.rd_irp.specs.Op.{close_body, create_body, directory_body, lock_body, notify_body, op_body, range, read_body, write_body}
use Rattle.rd_irp.specs.Request.{request_head}
use Rattle.rd_deeds.specs.Example.{Submission, read_reply, close, close_reply, example_deeds, example_outcomes, example_replies, gives, last_read, late_read, lost_read, outcomes_in, read, watch, watch_reply}
use Rattle.rd_pending.specs.History.{Call}
use Rattle.rd_deeds.specs.Host.{HostSide}
use Rattle.rd_deeds.specs.Joining.{AreJoined}
use Rattle.rd_deeds.specs.Talk.{Deed, EachAfter, journal}
use Rattle.rd_deeds.specs.Told.{Answers, IsAnswerAt, IsReplied, worn_entries}
use Rattle.rd_deeds.proofs.TestedDeeds.{carried_by_test, host_by_test, along, along_is}
use Rattle.rd_deeds.proofs.TestedJournals.{are_distinct, is_lawful, is_sent, lawful_by_test, one_of_key}
use Rattle.rd_deeds.proofs.TestedTelling.{are_known, comes_by_test, direct_by_test, of_journals, sent_by_test, stands_by_test}
use Rattle.rd_deeds.proofs.TestedAnswers.{before_sent, after_sent, sent_parts, each_answered, completes_with, removed_since}

-- ---- the replies

grows : (device : ℕ) (earlier later : List Item) (reply : KeyedReply) → Contains (example_replies device earlier) reply → Contains (example_replies device (earlier ++ later)) reply
grows device earlier later reply has =
    subst (λ (replies : List KeyedReply). Contains replies reply) (sym (flat_map-append gives earlier later)) (Contains-append_left (flat_map gives earlier) (flat_map gives later) reply has)

-- a cut gives none
cut_gives_none : (first : List Item) (cause : Cause) → flat_map gives (first ++ Cut cause ∷ []) ≡ flat_map gives first
cut_gives_none first cause = flat_map-append gives first (Cut cause ∷ []) ∙ append-nil (flat_map gives first)

-- ---- the answers

-- the reply that the journal gives before the key was sent
replied : (device : ℕ) (key : Key) (r : Request) (reply : Reply) (before : List Deed) → list_any (is_sent key) (reverse (journal device before)) ≡ true
    → Contains (example_replies device (before_sent key (reverse (journal device before)))) (key, reply) → IsReplied example_replies device key r reply before
replied device key r reply before e has = record {
  earlier = before_sent key (reverse (journal device before));
  later = after_sent key (reverse (journal device before));
  stands = sent_parts key (reverse (journal device before)) e;
  given = has;
  cut = λ first last cause parts hasnt has_now. absurd (hasnt (subst (λ (replies : List KeyedReply). Contains replies (key, reply)) (cut_gives_none first cause) has_now));
}

-- what is completed has the reply of its own run, or of the run that ended it
by_run : (s : Submission) (reply : Reply) (before : List Deed) → list_any (is_sent s.key) (reverse (journal (s.request).device before)) ≡ true
    → Contains (example_replies (s.request).device (before_sent s.key (reverse (journal (s.request).device before)))) (s.key, reply)
    → IsAnswerAt example_replies (s.request).device s.key s.request reply before
by_run s reply before e has = inl (replied (s.request).device s.key s.request reply before e has)

answers : EachAfter (Answers example_replies) example_deeds
unfolding count_to counted counted_bytes two_fields four_fields two_fields_bytes four_fields_bytes bytes8 bytes16 bytes32 bytes64 component_field header header_among announce device_list device_reply removal checked one_of given special general other body_of capability sets version name hello completion_head success_body completion_body create_body close_body read_body write_body notify_body range lock_body directory_body op_body request_head
answers = each_answered example_replies example_deeds (
  (last_read.request, read_reply, refl, completes_with last_read read_reply (lit< tt) (lit< tt) (lit< tt) (tt, lit< tt) tt, by_run last_read read_reply _ refl (3, lit< tt, refl)),
  (
    (late_read.request, fault no_such_device, refl, completes_with late_read (fault no_such_device) (lit< tt) (lit< tt) (lit< tt) (refl, tt) tt, inr (inr (refl, inl (refl, refl)))),
    (
      (lost_read.request, cancellation, refl, completes_with lost_read cancellation (lit< tt) (lit< tt) (lit< tt) (refl, tt) tt, inr (inl (inr (inl refl), refl, removed_since 1 lost_read.key lost_read.request _ refl))),
      (
        (watch.request, watch_reply, refl, completes_with watch watch_reply (lit< tt) (lit< tt) (lit< tt) (refl, tt) tt, by_run watch watch_reply _ refl (1, lit< tt, refl)),
        (
          (close.request, close_reply, refl, completes_with close close_reply (lit< tt) (lit< tt) (lit< tt) (tt, tt) tt, by_run close close_reply _ refl (0, lit< tt, refl)),
          ((read.request, read_reply, refl, completes_with read read_reply (lit< tt) (lit< tt) (lit< tt) (tt, lit< tt) tt, by_run read read_reply _ refl (0, lit< tt, refl)), tt),
        ),
      ),
    ),
  ),
)

-- ---- what came of it

pub outcomes_along : example_outcomes ≡ outcomes_in (along 1 example_deeds).1
outcomes_along = ap (λ (made : HostSide × List Call). outcomes_in made.1) (sym (along_is 1 example_deeds))

-- ---- all that the law takes

abbrev channels : List ℕ
channels = 1 ∷ 2 ∷ []

abbrev devices : List ℕ
devices = 1 ∷ 2 ∷ []

known : are_known channels devices example_deeds ≡ true
unfolding count_to counted counted_bytes two_fields four_fields two_fields_bytes four_fields_bytes bytes8 bytes16 bytes32 bytes64 component_field header header_among announce device_list device_reply removal checked one_of given special general other body_of capability sets version name hello completion_head success_body completion_body create_body close_body read_body write_body notify_body range lock_body directory_body op_body request_head
known = refl

lawful : (device : ℕ) → is_lawful (reverse (journal device example_deeds)) ≡ true
lawful = of_journals channels devices (λ items. is_lawful (reverse items)) example_deeds known refl refl

few : (device : ℕ) → ltb (length (journal device example_deeds)) worn_entries ≡ true
few = of_journals channels devices (λ items. ltb (length items) worn_entries) example_deeds known refl refl

distinct : (device : ℕ) → are_distinct (example_replies device (reverse (journal device example_deeds))) ≡ true
distinct = of_journals channels devices (λ items. are_distinct (flat_map gives (reverse items))) example_deeds known refl refl

pub joined : AreJoined 1 example_replies example_deeds
unfolding count_to counted counted_bytes two_fields four_fields two_fields_bytes four_fields_bytes bytes8 bytes16 bytes32 bytes64 component_field header header_among announce device_list device_reply removal checked one_of given special general other body_of capability sets version name hello completion_head success_body completion_body create_body close_body read_body write_body notify_body range lock_body directory_body op_body request_head
joined = record {
  carried = carried_by_test example_deeds refl;
  host = host_by_test 1 example_deeds refl;
  told = record {
    sent_in_order = sent_by_test channels devices example_deeds known refl;
    direct_in_order = direct_by_test channels devices example_deeds known refl;
    answers = answers;
    comes = comes_by_test example_deeds refl;
  };
  grows = λ device earlier more later parts. grows device earlier more;
  once = λ device key reply other. one_of_key (example_replies device (reverse (journal device example_deeds))) (distinct device) key reply other;
  stands = stands_by_test channels devices example_deeds known refl;
  lawful = λ device. lawful_by_test (reverse (journal device example_deeds)) (lawful device);
  unworn = λ device. ltb-true (length (journal device example_deeds)) worn_entries (few device);
}
