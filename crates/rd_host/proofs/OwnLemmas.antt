-- What a ready host writes of itself, by what is due: replies, what it tells of printers, and requests.
use Rattle.std.proofs.Common.{◌≡◌, ◌∙◌, refl, sym, ap, ℕ, true, false, List, [], ◌∷◌, ◌++◌, Some, inl, inr, append_assoc}
use Rattle.std.specs.Prelude.{◌==◌, ◌&&◌, drop, fold, length, is_ok, bytes_eq, Result, Ok, Err, IsOk}
use Rattle.std.proofs.lemmas.List.{append-nil}
use Rattle.std.proofs.lemmas.Bool.{and_parts, cases_Bool, eqb-true}
use Rattle.std.proofs.Math.Bool.{or-true}
use Rattle.std.proofs.lemmas.Slice.Eq.{bytes_eq-Decides}
use Rattle.rd_base.specs.declared.bad.Bad.{Bad}
use Rattle.rd_base.specs.declared.packet.Packet.TheVariants as packet
use Rattle.rd_base.specs.declared.status.Status.{Status}
use Rattle.rd_base.specs.declared.packet.Packet.{Packet}
use Rattle.rd_base.specs.Header.{any_header, component_field, header, header_among, header_bytes, packet_id}
use Rattle.rd_base.specs.Layout.{done, met, ◌>>◌}
use Rattle.rd_base.specs.Position.{Position, at_start}
use Rattle.rd_base.proofs.HeaderLemmas.{header_then, named_back}
use Rattle.rd_base.proofs.LayoutLemmas.{meets}
use Rattle.rd_base.proofs.ResultLemmas.{and_then_ok}
use Rattle.rd_base.proofs.SpellingLemmas.{message_spelled}
use Rattle.rd_base.proofs.WrittenLemmas.{done_last}
use Rattle.rd_devices.specs.declared.list.Announce.{Announce}
use Rattle.rd_devices.specs.declared.reply.DeviceReply.{DeviceReply}
use Rattle.rd_devices.specs.DeviceReply.{reply_bytes}
use Rattle.rd_base.specs.Statuses as status
use Rattle.rd_hello.specs.declared.host.HostState.{HostState}
use Rattle.rd_hello.specs.declared.host.HostState.TheVariants.{Start, Confirmed, Offered, Ready}
use Rattle.rd_hello.specs.Moves.{is_of, packet_in}
use Rattle.rd_irp.specs.declared.request.RequestHead.{RequestHead}
use Rattle.rd_irp.specs.Request.{request_head}
use Rattle.rd_printer.specs.declared.notice.Notice.{Notice}
use Rattle.rd_printer.specs.declared.notice.Notice.TheVariants.{Add, Update, Delete, Rename, UsingXps}
use Rattle.rd_printer.specs.Notice.{HasWholePort, IsWritableNotice, notice, notice_bytes, using_xps}
use Rattle.rd_printer.proofs.NoticeLemmas.{IsInRange, notice_spelled}
use Rattle.rd_host.specs.declared.act.Act.{Act}
use Rattle.rd_host.specs.declared.act.Act.TheVariants as act
use Rattle.rd_host.specs.Order.{Replying, after_act, after_own, after_reply, host_may_write, with_device_reply, with_reply, without_device}
use Rattle.rd_host.specs.Served.{code_for}
use Rattle.rd_host.specs.Events.{due_given}

-- ---- replies that are due come before those that are added

abbrev due_first : List DeviceReply → Replying → Replying
due_first first r = record r { due = first ++ r.due }

reply_first : (first : List DeviceReply) (r : Replying) (device : ℕ) (code : Status) → with_reply (due_first first r) device code ≡ due_first first (with_reply r device code)
reply_first first r device code = elim (cases_Bool (code.0 == (status.success).0)) [
  | inl is ↦ rw (is, append_assoc first r.due (record { id = device; code = code } ∷ [])) refl
  | inr is ↦ rw (is, append_assoc first r.due (record { id = device; code = code } ∷ [])) refl
]

devices_first : (first : List DeviceReply) (r : Replying) (devices : List Announce) → fold with_device_reply (due_first first r) devices ≡ due_first first (fold with_device_reply r devices)
devices_first first r [] = refl
devices_first first r (a ∷ devices) =
    ap (λ q. fold with_device_reply q devices) (reply_first first r a.id (code_for r.alive r.given a.kind a.id)) ∙ devices_first first (with_device_reply r a) devices

ids_first : (first : List DeviceReply) (r : Replying) (ids : List ℕ) → fold without_device (due_first first r) ids ≡ due_first first (fold without_device r ids)
ids_first first r [] = refl
ids_first first r (id ∷ ids) = ids_first first (without_device r id) ids

act_first : (first : List DeviceReply) (r : Replying) (a : Act) → after_act a (due_first first r) ≡ due_first first (after_act a r)
act_first first r (act.Announced devices) = devices_first first r devices
act_first first r (act.Removed ids) = ids_first first r ids
act_first first r act.Nothing = refl
act_first first r (act.Complete head body) = refl

-- ---- what is read doesn't change what may be written

reply_apart : (a : Act) (message : List ℕ) (r q : Replying) → after_reply r message r.due ≡ Some q → after_reply (after_act a r) message (after_act a r).due ≡ Some (after_act a q)
reply_apart a message r q e = go r.due refl e
  where
    go : (due : List DeviceReply) → r.due ≡ due → after_reply r message due ≡ Some q → after_reply (after_act a r) message (after_act a r).due ≡ Some (after_act a q)
    go [] is e = absurd cc
    go (first ∷ others) is e = elim (cases_Bool (bytes_eq (reply_bytes first) message)) [
      | inl same ↦
          let there = rw same at e in
          let left : record r { due = others } ≡ q = cc in
          let split : r ≡ due_first (first ∷ []) q = ap (λ due. record r { due = due }) is ∙ ap (λ x. due_first (first ∷ []) x) left in
          let after : after_act a r ≡ due_first (first ∷ []) (after_act a q) = ap (λ x. after_act a x) split ∙ act_first (first ∷ []) q a in
          rw (after, same) refl
      | inr other ↦ let none = rw other at e in absurd cc
    ]

pub own_apart : (a : Act) (state : HostState) (message : List ℕ) (r q : Replying) → after_own state message r ≡ Some q → after_own state message (after_act a r) ≡ Some (after_act a q)
own_apart a Start message r q e = absurd cc
own_apart a (Confirmed client) message r q e = absurd cc
own_apart a Offered message r q e = absurd cc
own_apart a Ready message r q e = elim (cases_Bool (is_of packet.DeviceReply message)) [
  | inl is ↦ let there = rw is at e in rw is (reply_apart a message r q there)
  | inr is ↦ elim (cases_Bool (host_may_write message)) [
    | inl may ↦ let there = rw (is, may) at e in let same : r ≡ q = cc in rw (is, may) (ap (λ x. Some (after_act a x)) same)
    | inr may ↦ let none = rw (is, may) at e in absurd cc
  ]
]

-- ---- what may be written

reply_named : (reply : DeviceReply) → is_of packet.DeviceReply (reply_bytes reply) ≡ true
unfolding component_field header_among
reply_named reply = refl

-- the reply that is due may be written
pub reply_written : (r q : Replying) (device : ℕ) (code : Status) → due_given r device code r.due ≡ Some q → after_own Ready (reply_bytes (record { id = device; code = code })) r ≡ Some q
reply_written r q device code e = rw (reply_named (record { id = device; code = code })) (go r.due e)
  where
    go : (due : List DeviceReply) → due_given r device code due ≡ Some q → after_reply r (reply_bytes (record { id = device; code = code })) due ≡ Some q
    go [] e = absurd cc
    go (first ∷ others) e = elim (cases_Bool (first.id == device && (first.code).0 == code.0)) [
      | inl is ↦
          let there = rw is at e in
          let both = and_parts (first.id == device) ((first.code).0 == code.0) is in
          let same : reply_bytes first ≡ reply_bytes (record { id = device; code = code }) = rw (eqb-true _ _ both.0, eqb-true _ _ both.1) refl in
          rw ((bytes_eq-Decides _ _).1 same) there
      | inr is ↦ let none = rw is at e in absurd cc
    ]

-- what is no reply, and may be written, changes nothing
other_written : (message : List ℕ) (r : Replying) → is_of packet.DeviceReply message ≡ false → host_may_write message ≡ true → after_own Ready message r ≡ Some r
other_written message r other may = rw (other, may) refl

request_named : (message : List ℕ) (r : Result (RequestHead × Position) Bad) → met request_head (at_start message) ≡ r → IsOk r → packet_in message ≡ Some packet.IoRequest
unfolding request_head
request_named message (Err bad) e ok = absurd (cc ok)
request_named message (Ok read) e ok =
    let head = and_then_ok (met (header packet.IoRequest) (at_start message)) _ read e in
    let any : met any_header (at_start message) ≡ Ok (Some packet.IoRequest, head.0.1) = named_back packet.IoRequest (at_start message) head.0.1 head.1 in
    rw any (refl {a = Some packet.IoRequest})

-- a request may be written
pub request_written : (message : List ℕ) (r : Replying) → IsOk (met request_head (at_start message)) → after_own Ready message r ≡ Some r
request_written message r ok =
    let named = request_named message (met request_head (at_start message)) refl ok in
    other_written message r (rw named refl) (rw ok refl)

-- bytes that begin with a packet's header name it
begins_named : (p : Packet) (rest : List ℕ) → packet_in (header_bytes p ++ rest) ≡ Some p
begins_named p rest =
    let m = meets (header p >> done (tt {0})) 0 (header_bytes p ++ rest) (tt {0}) (length rest)
    (header_bytes p ++ [], rest, ap (λ (first : List ℕ). first ++ rest) (sym (append-nil (header_bytes p))), refl, (header_then p (done_last (tt {0}) rest)).spelled) in
    let head = and_then_ok (met (header p) (at_start (header_bytes p ++ rest))) _ (tt {0}, m.0) m.1 in
    let any : met any_header (at_start (header_bytes p ++ rest)) ≡ Ok (Some p, head.0.1) = named_back p (at_start (header_bytes p ++ rest)) head.0.1 head.1 in
    rw any (refl {a = Some p})

abbrev notice_packet : Notice → Packet
notice_packet (UsingXps printer flags) = packet.PrinterUsingXps
notice_packet _ = packet.PrinterCacheData

notice_named : (n : Notice) → packet_in (notice_bytes n) ≡ Some (notice_packet n)
notice_named (Add port pnp driver name config) = begins_named packet.PrinterCacheData (drop 4 (notice_bytes (Add port pnp driver name config)))
notice_named (Update name config) = begins_named packet.PrinterCacheData (drop 4 (notice_bytes (Update name config)))
notice_named (Delete name) = begins_named packet.PrinterCacheData (drop 4 (notice_bytes (Delete name)))
notice_named (Rename old new) = begins_named packet.PrinterCacheData (drop 4 (notice_bytes (Rename old new)))
notice_named (UsingXps printer flags) = begins_named packet.PrinterUsingXps (drop 4 (notice_bytes (UsingXps printer flags)))

notice_unlike : (n : Notice) → is_of packet.DeviceReply (notice_bytes n) ≡ false
notice_unlike n = rw (notice_named n) (go n)
  where
    go : (n : Notice) → (packet_id (notice_packet n) == packet_id packet.DeviceReply) ≡ false
    go (Add port pnp driver name config) = refl
    go (Update name config) = refl
    go (Delete name) = refl
    go (Rename old new) = refl
    go (UsingXps printer flags) = refl

spelled_read : (n : Notice) → IsWritableNotice n → IsInRange n → is_ok (met notice (at_start (notice_bytes n))) ≡ true
spelled_read n writable range = let m = meets notice 0 (notice_bytes n) n 0 (message_spelled notice n (notice_bytes n) (notice_spelled n writable range)) in rw m.1 refl

notice_read : (n : Notice) → IsWritableNotice n → HasWholePort n → is_ok (met notice (at_start (notice_bytes n))) ≡ true
unfolding component_field header_among notice using_xps
notice_read (Add port pnp driver name config) writable whole = spelled_read (Add port pnp driver name config) writable whole
notice_read (Update name config) writable whole = spelled_read (Update name config) writable tt
notice_read (Delete name) writable whole = spelled_read (Delete name) writable tt
notice_read (Rename old new) writable whole = spelled_read (Rename old new) writable tt
notice_read (UsingXps printer flags) writable whole = refl

may_tell : (message : List ℕ) → is_ok (met notice (at_start message)) ≡ true → host_may_write message ≡ true
may_tell message is = rw is (or-true (is_ok (met request_head (at_start message))))

-- what it tells of printers may be written
pub notice_written : (n : Notice) (r : Replying) → IsWritableNotice n → HasWholePort n → after_own Ready (notice_bytes n) r ≡ Some r
notice_written n r writable whole = other_written (notice_bytes n) r (notice_unlike n) (may_tell (notice_bytes n) (notice_read n writable whole))
