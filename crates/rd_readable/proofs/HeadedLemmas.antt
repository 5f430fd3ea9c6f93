-- Messages of each packet that are met by its layout have a line.
use Rattle.std.proofs.Common.{◌≡◌, ◌∙◌, refl, ap, subst, ℕ, Bool, true, false, cond, List, [], ◌∷◌, length, Some, None, Option, Result, Ok, Err}
use Rattle.std.specs.Prelude.{IsOk, find, is_ok, is_some}
use Rattle.rd_base.specs.declared.bad.Bad.{Bad}
use Rattle.rd_base.specs.declared.bad.Why.TheVariants as why
use Rattle.rd_base.specs.declared.packet.Packet.{Packet}
use Rattle.rd_base.specs.declared.packet.Packet.TheVariants as packet
use Rattle.rd_base.specs.Counted.{count_to}
use Rattle.rd_base.specs.Fields.{number16}
use Rattle.rd_base.specs.Header.{are_numbers_of, component_field, header, header_among, packet_among}
use Rattle.rd_base.specs.Layout.{met, test}
use Rattle.rd_base.specs.Position.{Position, at_start}
use Rattle.rd_base.proofs.HeaderLemmas.{named_back}
use Rattle.rd_base.proofs.MessageLemmas.{test_ok}
use Rattle.rd_base.proofs.ResultLemmas.{and_then_ok}
use Rattle.rd_decode.specs.Awaited.{none_awaited}
use Rattle.rd_decode.specs.declared.side.Side.{Side}
use Rattle.rd_decode.specs.declared.side.Side.TheVariants.{Host, Client}
use Rattle.rd_decode.specs.Lines.{may_send}
use Rattle.rd_decode.specs.Messages.{message_line, packet_line, plain_line, plain_tail}
use Rattle.rd_devices.specs.declared.list.Announce.{Announce}
use Rattle.rd_devices.specs.declared.reply.DeviceReply.{DeviceReply}
use Rattle.rd_devices.specs.DeviceList.{device_list}
use Rattle.rd_devices.specs.DeviceReply.{device_reply, reply_bytes}
use Rattle.rd_devices.specs.Removal.{removal}
use Rattle.rd_hello.specs.declared.hello.Version.{Version}
use Rattle.rd_hello.specs.declared.hello.Hello.TheVariants.{Confirm, LoggedOn}
use Rattle.rd_hello.specs.Capability.{body_of, capability, general, other, sets, special}
use Rattle.rd_hello.specs.Hello.{hello, hello_bytes, name, version}
use Rattle.rd_hello.specs.Own.{client_name, client_sets, host_announce, host_sets}
use Rattle.rd_irp.specs.declared.request.RequestHead.{RequestHead}
use Rattle.rd_irp.specs.Measure.{tail_of}
use Rattle.rd_irp.specs.Request.{request_head}
use Rattle.rd_printed.proofs.ValueLemmas.{IsHeaded, headed_line, own_headed, request_line_is}
use Rattle.rd_printer.specs.declared.notice.Notice.{Notice}
use Rattle.rd_printer.specs.Notice.{notice, notices}

-- a message that a side writes has a line, where nothing is to come
abbrev pub Fine : Side → List ℕ → Type 0
Fine side m = IsOk (message_line side none_awaited m)

-- ---- headers

found_passes : (p : Packet → Bool) (xs : List Packet) (y : Packet) → find p xs ≡ Some y → p y ≡ true
found_passes p [] y e = absurd cc
found_passes p (x ∷ xs) y e = go (p x) refl e (found_passes p xs y)
  where
    go : (b : Bool) → p x ≡ b → cond b (Some x) (find p xs) ≡ Some y → (find p xs ≡ Some y → p y ≡ true) → p y ≡ true
    go true is e later = let same : x ≡ y = cc in subst (λ (z : Packet). p z ≡ true) same is
    go false is e later = later e

-- a plain packet whose layout is met
plain_fine : (side : Side) (p : Packet) (m : List ℕ) (tail : ℕ) → IsHeaded m p → may_send side p ≡ true → packet_line p side none_awaited m ≡ plain_line side p none_awaited m → plain_tail p m ≡ Ok tail → Fine side m
plain_fine side p m tail h sends plain met_it = rw (headed_line side none_awaited p m h sends ∙ plain, met_it) refl

-- ---- the host's

pub request_fine : (m : List ℕ) → is_ok (met request_head (at_start m)) ≡ true → Fine Host m
request_fine m is = by (met request_head (at_start m)) refl is
  where
    by : (r : Result (RequestHead × Position) Bad) → met request_head (at_start m) ≡ r → is_ok r ≡ true → Fine Host m
    by (Err bad) e is = absurd (cc is)
    by (Ok x) e is = ap is_ok (request_line_is m x e).line_is

-- a header among some is that of one of them
among_headed : (wanted : List Packet) (m : List ℕ) (x : Option Packet × Position) → met (header_among wanted) (at_start m) ≡ Ok x
    → (component id : ℕ) × (p : Packet) × (packet_among wanted component id ≡ Some p) × IsHeaded m p
unfolding header_among header
among_headed wanted m x e =
    let c = and_then_ok (met component_field (at_start m)) _ _ e in
    let i = and_then_ok (met number16 c.0.1) _ _ c.2 in
    let t = and_then_ok (met (test (is_some (packet_among wanted c.0.0 i.0.0)) 2 why.Packet) i.0.1) _ _ i.2 in
    let holds = test_ok _ 2 why.Packet i.0.1 t.0 t.1 in
    by c.0 c.1 i.0 i.1 (packet_among wanted c.0.0 i.0.0) refl holds.0
  where
    by : (c : ℕ × Position) → met component_field (at_start m) ≡ Ok c → (i : ℕ × Position) → met number16 c.1 ≡ Ok i → (o : Option Packet) → packet_among wanted c.0 i.0 ≡ o → is_some o ≡ true
        → (component id : ℕ) × (p : Packet) × (packet_among wanted component id ≡ Some p) × IsHeaded m p
    by c first i second None e some = absurd (cc some)
    by c first i second (Some p) e some =
        let passes : are_numbers_of c.0 i.0 p ≡ true = found_passes (are_numbers_of c.0 i.0) wanted p e in
        let own : met (header p) (at_start m) ≡ Ok (tt, i.1) = rw (first, second, passes) refl in
        (c.0, i.0, p, e, record { after = i.1; named = named_back p (at_start m) i.1 own })

-- a packet of a notice
notice_fine_of : (m : List ℕ) (tail component id : ℕ) (p : Packet) → packet_among notices component id ≡ Some p → IsHeaded m p → tail_of notice m ≡ Ok tail → Fine Host m
notice_fine_of m tail component id packet.PrinterCacheData e h met_it = plain_fine Host packet.PrinterCacheData m tail h refl refl met_it
notice_fine_of m tail component id packet.PrinterUsingXps e h met_it = plain_fine Host packet.PrinterUsingXps m tail h refl refl met_it
notice_fine_of m tail component id p e h met_it = absurd (by (are_numbers_of component id packet.PrinterCacheData) (are_numbers_of component id packet.PrinterUsingXps) e)
  where
    by : (a b : Bool) → cond a (Some packet.PrinterCacheData) (cond b (Some packet.PrinterUsingXps) None) ≡ Some p → ⊥
    by true b e = cc e
    by false true e = cc e
    by false false e = cc e

notice_headed : (m : List ℕ) (x : Notice × Position) → met notice (at_start m) ≡ Ok x → (component id : ℕ) × (p : Packet) × (packet_among notices component id ≡ Some p) × IsHeaded m p
unfolding notice
notice_headed m x e = let first = and_then_ok (met (header_among notices) (at_start m)) _ x e in among_headed notices m first.0 first.1

pub notice_fine : (m : List ℕ) → is_ok (met notice (at_start m)) ≡ true → Fine Host m
notice_fine m is = by (met notice (at_start m)) refl is
  where
    by : (r : Result (Notice × Position) Bad) → met notice (at_start m) ≡ r → is_ok r ≡ true → Fine Host m
    by (Err bad) e is = absurd (cc is)
    by (Ok x) e is =
        let (component, id, p, found, headed) = notice_headed m x e in
        notice_fine_of m (length x.1.left) component id p found headed (rw e refl)

pub reply_fine : (r : DeviceReply) → Fine Host (reply_bytes r)
unfolding header_among component_field device_reply header
reply_fine r = refl

pub announce_fine : (client : ℕ) → Fine Host (hello_bytes (host_announce client))
unfolding header_among component_field hello version
announce_fine client = refl

pub host_confirm_fine : (v : Version) → Fine Host (hello_bytes (Confirm v))
unfolding header_among component_field hello version
host_confirm_fine v = refl

pub host_sets_fine : Fine Host (hello_bytes host_sets)
unfolding header_among component_field count_to hello sets capability body_of general special other
host_sets_fine = refl

pub logged_on_fine : Fine Host (hello_bytes LoggedOn)
unfolding header_among component_field hello
logged_on_fine = refl

-- ---- the client's

pub client_confirm_fine : (v : Version) → Fine Client (hello_bytes (Confirm v))
unfolding header_among component_field hello version
client_confirm_fine v = refl

pub name_fine : Fine Client (hello_bytes client_name)
unfolding header_among component_field count_to hello name
name_fine = refl

pub client_sets_fine : Fine Client (hello_bytes client_sets)
unfolding header_among component_field count_to hello sets capability body_of general special other
client_sets_fine = refl

list_headed : (m : List ℕ) (x : List Announce × Position) → met device_list (at_start m) ≡ Ok x → IsHeaded m packet.DeviceListAnnounce
unfolding device_list
list_headed m x e = let first = and_then_ok (met (header packet.DeviceListAnnounce) (at_start m)) _ x e in own_headed packet.DeviceListAnnounce m first.0 first.1

pub list_fine : (m : List ℕ) (x : List Announce × Position) → met device_list (at_start m) ≡ Ok x → Fine Client m
list_fine m x e = plain_fine Client packet.DeviceListAnnounce m (length x.1.left) (list_headed m x e) refl refl (rw e refl)

removal_headed : (m : List ℕ) (x : List ℕ × Position) → met removal (at_start m) ≡ Ok x → IsHeaded m packet.DeviceListRemove
unfolding removal
removal_headed m x e = let first = and_then_ok (met (header packet.DeviceListRemove) (at_start m)) _ x e in own_headed packet.DeviceListRemove m first.0 first.1

pub removal_fine : (m : List ℕ) (x : List ℕ × Position) → met removal (at_start m) ≡ Ok x → Fine Client m
removal_fine m x e = plain_fine Client packet.DeviceListRemove m (length x.1.left) (removal_headed m x e) refl refl (rw e refl)
