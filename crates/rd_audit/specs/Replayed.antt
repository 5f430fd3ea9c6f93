-- What came of each request at its device, by the lines of the devices' journals: each device runs the requests that its journal says it ran, as the recording
-- has them.
use Rattle.std.specs.Prelude.{ℕ, zero, suc, ◌+◌, ◌==◌, ◌&&◌, not, if◌then◌else◌, Bool, true, false, List, [], ◌∷◌, Option, Some, None, Result, Ok, Err, slice_get, option_and_then, unwrap_or}
use Rattle.std.proofs.Math.Bool.{beq}
use Rattle.std.specs.Option.{option_map_or, option_or}
use Rattle.rd_base.specs.declared.journal.Item.{Item}
use Rattle.rd_base.specs.declared.journal.Item.TheVariants.{Came, Ran, Cancelled, Sent}
use Rattle.rd_base.specs.declared.journal.Key.{Key}
use Rattle.rd_irp.specs.declared.completion.Reply.{Reply}
use Rattle.rd_irp.specs.declared.op.Op.{Op}
use Rattle.rd_irp.specs.declared.op.Op.TheVariants as op
use Rattle.rd_irp.specs.declared.request.Request.{Request}
use Rattle.rd_drive.specs.Device.{is_parked}
use Rattle.rd_drive.specs.Replies.{KeyedReply, replies_at, run_of, state_after}
use Rattle.rd_declared.specs.Devices.{Declared, device_cut, device_step}
use Rattle.rd_declared.specs.declared.device.SessionDevice.{SessionDevice}
use Rattle.rd_declared.specs.Replies.{no_request}
use Rattle.rd_deeds.specs.Talk.{request_in}
use Rattle.rd_audit_file.specs.declared.line.JournalLine.{JournalLine}
use Rattle.rd_audit_file.specs.declared.line.JournalLine.TheVariants.{Device, Entry}
use Rattle.rd_lawful.specs.Rules.{is_cut, key_is}
use Rattle.rd_recorded.specs.Channels.{ClientSaid, HeardChannel, HeardRequest, Saying, completes}
use Rattle.rd_audit.specs.declared.course.Course.{Course}
use Rattle.rd_audit.specs.declared.course.Given.{Given}
use Rattle.rd_audit.specs.declared.course.Given.TheVariants as given
use Rattle.rd_audit.specs.declared.course.Handed.{Handed}
use Rattle.rd_audit.specs.declared.verdict.Verdict.{Verdict}
use Rattle.rd_audit.specs.declared.verdict.Verdict.TheVariants as verdict
use Rattle.rd_audit.specs.Said.{says}

-- ---- what the recording has of a key

-- of channels, or of what is kept of each, that with a number, counted from 1
abbrev pub with_number : {A : Type 0} → List A → ℕ → Option A
with_number channels zero = None
with_number channels (suc place) = slice_get channels place

-- the request of a key, as it was heard, and as its message spells it
abbrev pub heard_at : List HeardChannel → Key → Option HeardRequest
heard_at channels key = option_and_then (λ (c : HeardChannel). slice_get c.requests key.index) (with_number channels key.channel)

abbrev pub named_by : List HeardChannel → Key → Option Request
named_by channels key = option_and_then (λ (a : HeardRequest). request_in a.message) (heard_at channels key)

abbrev pub request_named : List HeardChannel → Key → Request
request_named channels key = unwrap_or (named_by channels key) no_request

-- the message of the completion that the client said, if it said one
abbrev pub completion_in : ClientSaid → Option (List ℕ)
completion_in (completes index message) = Some message
completion_in said = None

-- the completion of a request that was heard on a channel, where it has one
abbrev pub completion_heard : HeardChannel → HeardRequest → Option (List ℕ)
completion_heard c a = option_and_then (λ place. option_and_then (λ (s : Saying). completion_in s.said) (slice_get c.sayings place)) a.completion

-- whether the completion of a request has this reply, and that of a key's
abbrev pub is_said_on : HeardChannel → HeardRequest → Reply → Bool
is_said_on c a reply = option_map_or (λ message. says a.kind message reply) (completion_heard c a) false

abbrev pub is_said : List HeardChannel → Key → Reply → Bool
is_said channels key reply =
    option_map_or (λ (c : HeardChannel). option_map_or (λ (a : HeardRequest). is_said_on c a reply) (slice_get c.requests key.index) false) (with_number channels key.channel) false

-- ---- a device and its journal

-- A device as far as its journal was gone over: its state, how many entries that were, and the entry of the recording that ended the last request which came.
pub record DeviceSoFar : Type 0 where
  pub device : ℕ
  pub state : SessionDevice
  pub count : ℕ
  pub heard : ℕ

-- before the first entry
abbrev pub standing_new : ℕ × Declared → DeviceSoFar
standing_new d = record { device = d.0; state = (d.1).state; count = 0; heard = 0 }

abbrev pub closes_file : Op → Bool
closes_file op.Close = true
closes_file _ = false

-- An entry agrees with the device: what came is a request of the recording to it; and what ran is one of the recording, is left waiting exactly where it is marked so,
-- and is no Close where no memory was found.
abbrev pub agrees : List HeardChannel → DeviceSoFar → Item → Bool
agrees channels d (Came key) = option_map_or (λ (a : HeardRequest). a.device == d.device) (heard_at channels key) false
agrees channels d (Ran key moment starved parked) = option_map_or (λ (r : Request).
    beq (is_parked (run_of device_step device_cut (request_named channels) d.state key moment starved).answer) parked && not (starved && closes_file r.op)) (named_by channels key) false
agrees channels d _ = true

abbrev pub heard_after : List HeardChannel → ℕ → Item → ℕ
heard_after channels heard (Came key) = option_map_or (λ (a : HeardRequest). a.entry) (heard_at channels key) heard
heard_after channels heard _ = heard

-- the device after an entry
abbrev pub standing_after : List HeardChannel → DeviceSoFar → Item → DeviceSoFar
standing_after channels d entry = record
    { device = d.device; state = state_after device_step device_cut (request_named channels) d.state entry; count = d.count + 1; heard = heard_after channels d.heard entry }

-- the last of the replies that belong to a key
abbrev pub last_reply : Key → List KeyedReply → Option Reply
last_reply key [] = None
last_reply key (first ∷ later) = option_or (last_reply key later) (if key_is first.0 key then Some first.1 else None)

-- What its device gave a key's request, after an entry: by a run or a cut a reply, of which it is kept whether it is what the completion says.
abbrev pub given_after : List HeardChannel → DeviceSoFar → Item → Key → Given → Given
given_after channels d (Came k) key old = if key_is k key then given.Nothing else old
given_after channels d (Cancelled k) key old = if key_is k key then given.Cancelled else old
given_after channels d entry key old =
    option_map_or (λ reply. given.Reply (d.count + 1) (is_said channels key reply) (is_cut entry))
    (last_reply key (replies_at device_step device_cut (request_named channels) d.state entry)) old

-- where its completion was handed out
abbrev pub sent_after : DeviceSoFar → Item → Key → Option Handed → Option Handed
sent_after d (Sent k) key old = if key_is k key then Some (record { item = d.count + 1; heard = d.heard }) else old
sent_after d _ key old = old

abbrev pub course_after : List HeardChannel → DeviceSoFar → Item → Key → Course → Course
course_after channels d entry key course =
    record { given = given_after channels d entry key course.given; sent = sent_after d entry key course.sent }

-- ---- all journals

-- what came of each key, and how many entries the journal of each device has
pub record Account : Type 0 where
  pub courses : Key → Course
  pub counts : ℕ → ℕ

-- before any line: no request came
abbrev pub no_course : Course
no_course = record { given = given.Absent; sent = None }

abbrev pub account_new : Account
account_new = record { courses = λ key. no_course; counts = λ device. 0 }

-- after an entry of a device's journal
abbrev pub account_after : List HeardChannel → DeviceSoFar → Item → Account → Account
account_after channels d entry r = record
    { courses = λ key. course_after channels d entry key (r.courses key); counts = λ device. if d.device == device then d.count + 1 else r.counts device }

-- What comes of lines, where these devices are still to come, this one stands here, and this came of the lines before: the first entry that doesn't agree with its
-- device, or what came of all requests. The line of a device begins the journal of the next one.
abbrev pub replayed : List HeardChannel → List (ℕ × Declared) → Option DeviceSoFar → Account → List JournalLine → Result Account Verdict
replayed channels devices standing r [] = Ok r
replayed channels [] standing r (Device id ∷ lines) = replayed channels [] None r lines
replayed channels (d ∷ devices) standing r (Device id ∷ lines) = replayed channels devices (Some (standing_new d)) r lines
replayed channels devices None r (Entry entry ∷ lines) = replayed channels devices None r lines
replayed channels devices (Some d) r (Entry entry ∷ lines) =
    if agrees channels d entry then replayed channels devices (Some (standing_after channels d entry)) (account_after channels d entry r) lines
    else Err (verdict.Mark d.device (d.count + 1))
