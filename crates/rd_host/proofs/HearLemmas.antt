-- What comes of a message that comes to a host's end, by its packet.
use Rattle.std.proofs.Common.{◌≡◌, ◌∙◌, refl, sym, ap, subst, ℕ, ◌+◌, ◌-◌, ◌≤◌, List, [], ◌∷◌, length, take, drop, Bool, true, false, cond, Some, None, Option, Result, Ok, Err, arith, lit<, lit≤, length-append}
use Rattle.std.specs.Prelude.{◌≢◌, IfErr, IfOk, IfSome, IsTrue}
use Rattle.std.proofs.lemmas.List.{drop_at, length-drop, take_all}
use Rattle.std.proofs.lemmas.List.Elements.{All-cons, All-nil}
use Rattle.rd_base.specs.declared.bad.Bad.{Bad}
use Rattle.rd_base.specs.declared.packet.Packet.{Packet}
use Rattle.rd_base.specs.declared.packet.Packet.TheVariants as packet
use Rattle.rd_base.specs.Counted.{count_to, counted, counted_bytes}
use Rattle.rd_base.specs.Fields.{number32}
use Rattle.rd_base.specs.Header.{header}
use Rattle.rd_base.specs.Layout.{four_bytes, met}
use Rattle.rd_base.specs.Limits.{max_devices}
use Rattle.rd_base.specs.Position.{Position, at_start}
use Rattle.rd_base.specs.Reading.{WithTail}
use Rattle.rd_base.proofs.LayoutLemmas.{again, meets}
use Rattle.rd_core.specs.Core.{CoreState}
use Rattle.rd_core.specs.Hearing.{MayLack, hear, is_hello, is_read_in, read_as}
use Rattle.rd_core.specs.Expected.{IsComing, IsExpected, opening_asks_at}
use Rattle.rd_core.proofs.ExpectedLemmas.{held_heard, wrong_heard}
use Rattle.rd_core.proofs.FaultPlaceLemmas.{Onward, count_place, onward_bytes, onward_bytes_last, onward_done, onward_number, onward_number_last, onward_then, onward_times, own_header_place}
use Rattle.rd_core.proofs.HearLemmas.{opening_lacks, opening_lacks_after, own_heard, own_lacks}
use Rattle.rd_devices.specs.declared.list.Announce.{Announce}
use Rattle.rd_devices.specs.DeviceList.{SpellsList, announce, device_list}
use Rattle.rd_devices.specs.Removal.{SpellsRemoval, removal}
use Rattle.rd_hello.specs.declared.capability.Cap.TheVariants as cap
use Rattle.rd_hello.specs.declared.end_fault.EndFault.{EndFault}
use Rattle.rd_hello.specs.declared.end_fault.EndFault.TheVariants.{Order, Grammar, Memory}
use Rattle.rd_hello.specs.declared.hello.Hello.{Hello}
use Rattle.rd_hello.specs.declared.hello.Hello.TheVariants.{ClientCaps, Confirm, LoggedOn, Name}
use Rattle.rd_hello.specs.declared.host.HostState.{HostState}
use Rattle.rd_hello.specs.declared.host.HostState.TheVariants.{Confirmed, Offered, Ready, Start}
use Rattle.rd_hello.specs.Capability.{IsWritableSet}
use Rattle.rd_hello.specs.Hello.{FirstFaultOfHello, IsWritableHello, hello}
use Rattle.rd_hello.specs.HostTable.{host_number, host_step}
use Rattle.rd_hello.specs.Moves.{packet_in}
use Rattle.rd_hello.specs.Own.{host_sets, own_general, tell_log_on}
use Rattle.rd_hello.specs.Rows.{OrderRow}
use Rattle.rd_irp.specs.declared.completion.Head.{Head}
use Rattle.rd_irp.specs.Completion.{SpellsHead, completion_head}
use Rattle.rd_host.specs.declared.act.Act.{Act}
use Rattle.rd_host.specs.declared.act.Act.TheVariants as act
use Rattle.rd_host.specs.declared.act.LentAct.{LentAct}
use Rattle.rd_host.specs.Core.{HostCoreState, HostStep, client_says, hears, host_asks_at, host_hear, host_hear_made, host_reads_in, host_side}
use Rattle.rd_host.specs.Heard.{HostEndHears, HasBody, act_of, answer_of}

abbrev End : Type 0
End = CoreState HostState (List ℕ)

-- ---- the answer

nothing_heard : (old new : End) (message : List ℕ) → hear host_side old message ≡ (new, Ok None) → HostEndHears old message (Ok act.Nothing) new
nothing_heard old new message e = λ client. ap (λ came. host_hear_made (record { client = client; core = old }) came) e

says_heard : (old new : End) (message : List ℕ) (a : Act) → hear host_side old message ≡ (new, Ok (Some a)) → HostEndHears old message (Ok a) new
says_heard old new message a e = λ client. ap (λ came. host_hear_made (record { client = client; core = old }) came) e

fault_heard : (old new : End) (message : List ℕ) (fault : EndFault) → fault ≢ Memory → hear host_side old message ≡ (new, Err fault) → HostEndHears old message (Err fault) new
fault_heard old new message (Order state id) other e = λ client. ap (λ came. host_hear_made (record { client = client; core = old }) came) e
fault_heard old new message (Grammar bad) other e = λ client. ap (λ came. host_hear_made (record { client = client; core = old }) came) e
fault_heard old new message Memory other e = absurd (other refl)

lacked : (old : End) (message : List ℕ) → MayLack host_side old message → HostEndHears old message (Err Memory) old
lacked old message lack = λ client. (lack, refl)

-- ---- which packets come

-- where a packet of the opening is read memory is asked for at its place
asks_opening : (state : HostState) (p : Packet) → IsTrue (is_read_in host_side state p) → IsTrue (is_hello p) → host_asks_at p ≡ Some (opening_asks_at p)
asks_opening Start packet.ClientIdConfirm read is = refl
asks_opening (Confirmed v) packet.ClientName read is = refl
asks_opening Offered packet.ClientCapability read is = refl
asks_opening Start _ read is = absurd cc
asks_opening (Confirmed v) _ read is = absurd cc
asks_opening Offered _ read is = absurd cc
asks_opening Ready packet.DeviceListAnnounce read is = absurd cc
asks_opening Ready packet.DeviceListRemove read is = absurd cc
asks_opening Ready packet.IoCompletion read is = absurd cc
asks_opening Ready _ read is = absurd cc

-- ---- lists and removals

announce_onward : Onward 8 0 announce
unfolding announce counted_bytes
announce_onward =
    onward_number 8 (lit< tt) 0 four_bytes _ λ kind.
    onward_number 8 (lit< tt) 4 four_bytes _ λ id.
    onward_bytes 8 (lit< tt) 8 8 _ λ dos.
    onward_then 8 (lit< tt) 8 counted_bytes _ (onward_number 8 (lit< tt) 8 four_bytes _ λ count. onward_bytes_last 8 (lit< tt) 12 count) λ body.
    onward_done 8 (lit< tt) 8 _

-- after the count of devices
pub devices_later : (message : List ℕ) (start q rest : Position) (u : Unit {0}) (count : ℕ) (bad : Bad) → start ≡ at_start message → met (header packet.DeviceListAnnounce) start ≡ Ok (u, q)
    → met (count_to four_bytes max_devices) q ≡ Ok (count, rest) → met device_list (at_start message) ≡ Err bad → 8 ≤ bad.at
unfolding device_list counted
devices_later message start q rest u count bad begun first second e =
    let place : 8 + 0 ≤ rest.at = omega (arith, own_header_place packet.DeviceListAnnounce start u q first, count_place four_bytes max_devices q count rest second, ap (λ (p : Position). p.at) begun) in
    let there = rw begun at first in
    let later = rw (there, second) at e in
    (onward_times 8 (lit< tt) 0 count announce announce_onward).onward rest bad place later

-- after the count of ids
pub ids_later : (message : List ℕ) (start q rest : Position) (u : Unit {0}) (count : ℕ) (bad : Bad) → start ≡ at_start message → met (header packet.DeviceListRemove) start ≡ Ok (u, q)
    → met (count_to four_bytes max_devices) q ≡ Ok (count, rest) → met removal (at_start message) ≡ Err bad → 8 ≤ bad.at
unfolding removal counted
ids_later message start q rest u count bad begun first second e =
    let place : 8 + 0 ≤ rest.at = omega (arith, own_header_place packet.DeviceListRemove start u q first, count_place four_bytes max_devices q count rest second, ap (λ (p : Position). p.at) begun) in
    let there = rw begun at first in
    let later = rw (there, second) at e in
    (onward_times 8 (lit< tt) 0 count number32 (onward_number_last 8 (lit< tt) 0 four_bytes)).onward rest bad place later

-- what is read has the fault of its layout
read_fault : {X : Type 0} (f : X × Position → Act) (r : Result (X × Position) Bad) (bad : Bad) → read_as f r ≡ Err bad → r ≡ Err bad
read_fault f (Ok read) bad e = absurd cc
read_fault f (Err other) bad e = let same : other ≡ bad = cc in ap (λ (d : Bad). Err d) same

pub list_heard : (old : End) (message : List ℕ) (devices : List Announce) (count : ℕ) → IsComing host_side old message packet.DeviceListAnnounce
    → WithTail count (λ tail. SpellsList devices tail message) → HostEndHears old message (Ok (act.Announced devices)) old
list_heard old message devices count coming (tail, is, s) =
    let m = meets device_list 0 message devices tail s in
    let e = m.1 in
    says_heard old old message (act.Announced devices) (own_heard host_side old message packet.DeviceListAnnounce (Ok (act.Announced devices)) coming refl (rw e refl))

pub list_lacks : (old : End) (message : List ℕ) → IsComing host_side old message packet.DeviceListAnnounce
    → ((bad : Bad) → met device_list (at_start message) ≡ Err bad → 8 ≤ bad.at) → HostEndHears old message (Err Memory) old
list_lacks old message coming none =
    lacked old message (own_lacks host_side old message packet.DeviceListAnnounce 8 coming refl refl (λ bad e. none bad (read_fault _ (met device_list (at_start message)) bad e)))

pub removal_heard : (old : End) (message ids : List ℕ) (count : ℕ) → IsComing host_side old message packet.DeviceListRemove
    → WithTail count (λ tail. SpellsRemoval ids tail message) → HostEndHears old message (Ok (act.Removed ids)) old
removal_heard old message ids count coming (tail, is, s) =
    let m = meets removal 0 message ids tail s in
    let e = m.1 in
    says_heard old old message (act.Removed ids) (own_heard host_side old message packet.DeviceListRemove (Ok (act.Removed ids)) coming refl (rw e refl))

pub removal_lacks : (old : End) (message : List ℕ) → IsComing host_side old message packet.DeviceListRemove
    → ((bad : Bad) → met removal (at_start message) ≡ Err bad → 8 ≤ bad.at) → HostEndHears old message (Err Memory) old
removal_lacks old message coming none =
    lacked old message (own_lacks host_side old message packet.DeviceListRemove 8 coming refl refl (λ bad e. none bad (read_fault _ (met removal (at_start message)) bad e)))

-- ---- completions

completion_says : (message : List ℕ) (head : Head) → 16 ≤ length message → SpellsHead head (length message - 16) message → client_says packet.IoCompletion message ≡ Ok (act.Complete head (drop 16 message))
completion_says message head enough (field, after, parts, len, s) =
    let there = again completion_head 0 head field after s in
    let first : length field ≡ 16 = omega (arith, ap length parts, length-append field after, len, enough) in
    let left : drop 16 message ≡ after = ap (λ xs. drop 16 xs) parts ∙ drop_at field after 16 first in
    rw (left, parts, there) refl

pub completion_heard : (old : End) (message body : List ℕ) (head : Head) → IsComing host_side old message packet.IoCompletion → 16 ≤ length message
    → SpellsHead head (length message - 16) message → body ≡ drop 16 message → HostEndHears old message (Ok (act.Complete head body)) old
completion_heard old message body head coming enough s is =
    rw is (says_heard old old message (act.Complete head (drop 16 message))
    (own_heard host_side old message packet.IoCompletion (Ok (act.Complete head (drop 16 message))) coming refl (completion_says message head enough s)))

-- for the bytes after the head memory may be wanting
pub completion_lacks : (old : End) (message : List ℕ) (head : Head) → IsComing host_side old message packet.IoCompletion → 16 ≤ length message
    → SpellsHead head (length message - 16) message → MayLack host_side old message
completion_lacks old message head coming enough s =
    own_lacks host_side old message packet.IoCompletion 16 coming refl refl
    (λ bad e. let other : Ok (act.Complete head (drop 16 message)) ≡ Err bad = sym (completion_says message head enough s) ∙ e in absurd cc)

-- ---- the opening

pub opening_lacked : (old : End) (message : List ℕ) → (came : (p : Packet) × IsComing host_side old message p × IsTrue (is_hello p))
    → ((p : Packet) → packet_in message ≡ Some p → (bad : Bad) → FirstFaultOfHello message bad → opening_asks_at p ≤ bad.at) → HostEndHears old message (Err Memory) old
opening_lacked old message (p, coming, is) none =
    lacked old message (opening_lacks host_side old message p coming is (asks_opening old.shake p coming.read is) (none p coming.named))

opening_lacked_after : (old : End) (message : List ℕ) (h : Hello) → (came : (p : Packet) × IsComing host_side old message p × IsTrue (is_hello p))
    → (found : (rest : Position) × (met hello (at_start message) ≡ Ok (h, rest))) → HostEndHears old message (Err Memory) old
opening_lacked_after old message h (p, coming, is) (rest, e) =
    lacked old message (opening_lacks_after host_side old message p h rest coming is (asks_opening old.shake p coming.read is) e)

-- the messages of a row can be written
abbrev IsWritableRow : Option (OrderRow HostState) → Type 0
IsWritableRow None = Unit {0}
IsWritableRow (Some row) = IfSome row.first IsWritableHello × IfSome row.second IsWritableHello

host_sets_writable : IsWritableHello host_sets
host_sets_writable = (
  lit≤ tt,
  All-cons IsWritableSet (cap.General (own_general 0)) (cap.Printer 1 ∷ cap.Drive 2 ∷ []) tt (All-cons IsWritableSet (cap.Printer 1) (cap.Drive 2 ∷ []) tt
      (All-cons IsWritableSet (cap.Drive 2) [] tt (All-nil IsWritableSet))),
)

offered_writable : (b : Bool) → IsWritableRow (cond b (Some (record { first = Some LoggedOn; second = None; next = Ready })) (Some (record { first = None; second = None; next = Ready })))
offered_writable true = (tt, tt)
offered_writable false = (tt, tt)

row_writable : (state : HostState) (h : Hello) → IsWritableRow (host_step state h)
row_writable Start (Confirm v) = (tt, tt)
row_writable (Confirmed v) (Name unicode page bytes) = (host_sets_writable, tt)
row_writable Offered (ClientCaps caps) = offered_writable (tell_log_on caps)
row_writable _ _ = tt

pub rows_writable : (state next : HostState) (h : Hello) (first second : Option Hello) → host_step state h ≡ Some (record { first = first; second = second; next = next })
    → IfSome first IsWritableHello × IfSome second IsWritableHello
rows_writable state next h first second is = subst IsWritableRow is (row_writable state h)

-- ---- what is wrong with the header

pub wrong_header : (old new : End) (message : List ℕ) (fault : EndFault) → fault ≢ Memory → IfSome old.fault (λ held. ◌≡◌ {A = Result Packet EndFault} (Err fault) (Err held))
    → (old.fault ≡ None → IsExpected (host_number old.shake) (host_reads_in old.shake) message (Err fault)) → new ≡ record old { fault = Some fault } → HostEndHears old message (Err fault) new
wrong_header old new message fault other held fresh is = go old.fault refl held
  where
    go : (o : Option EndFault) → old.fault ≡ o → IfSome o (λ h. ◌≡◌ {A = Result Packet EndFault} (Err fault) (Err h)) → HostEndHears old message (Err fault) new
    go None e h = fault_heard old new message fault other (wrong_heard host_side old message fault e (fresh e) ∙ ap (λ (end : End). (end, Err fault)) (sym is))
    go (Some h) e again =
        let same : fault ≡ h = cc in
        let stays : new ≡ old = is ∙ ap (λ f. record old { fault = f }) (ap (λ f. Some f) same ∙ sym e) in
        fault_heard old new message fault other (held_heard host_side old message h e ∙ cc (same, stays))

-- ---- the whole host

-- a fault that is held is the answer
pub host_held : (old new : HostCoreState) (message : List ℕ) (answer : Result Act EndFault) → HostStep old (hears message answer) new
    → IfSome (old.core).fault (λ held. answer ≡ Err held)
host_held old new message answer step = go (old.core).fault refl answer step
  where
    made : (held : EndFault) → (old.core).fault ≡ Some held → host_hear old message ≡ (old, Err held)
    made held e = ap (λ came. host_hear_made old came) (held_heard host_side old.core message held e)

    go : (o : Option EndFault) → (old.core).fault ≡ o → (answer : Result Act EndFault) → HostStep old (hears message answer) new → IfSome o (λ held. answer ≡ Err held)
    go None e answer step = tt
    go (Some held) e (Err Memory) step = let sound = step.0.sound in absurd cc
    go (Some held) e (Err (Order state id)) step = ap (λ (x : HostCoreState × Result Act EndFault). x.1) (sym step ∙ made held e)
    go (Some held) e (Err (Grammar bad)) step = ap (λ (x : HostCoreState × Result Act EndFault). x.1) (sym step ∙ made held e)
    go (Some held) e (Ok a) step = ap (λ (x : HostCoreState × Result Act EndFault). x.1) (sym step ∙ made held e)

-- the same of its end
pub end_held : (old new : End) (message : List ℕ) (answer : Result Act EndFault) → HostEndHears old message answer new → IfSome old.fault (λ held. answer ≡ Err held)
end_held old new message answer step = host_held (record { client = 0; core = old }) (record { client = 0; core = new }) message answer (step 0)

-- and where the bytes after a completion's head are lent
pub lent_held : (old new : End) (message : List ℕ) (r : Result LentAct EndFault) → HostEndHears old message (answer_of r) new → IfSome old.fault (λ held. r ≡ Err held)
lent_held old new message r step = go old.fault r (end_held old new message (answer_of r) step)
  where
    go : (o : Option EndFault) (r : Result LentAct EndFault) → IfSome o (λ held. answer_of r ≡ Err held) → IfSome o (λ held. r ≡ Err held)
    go None r is = tt
    go (Some held) (Ok heard) is = absurd cc
    go (Some held) (Err fault) is = let same : fault ≡ held = cc in ap (λ f. Err f) same

-- a message of the opening that could not be answered
pub opening_failed : (old new : End) (message : List ℕ) (h : Hello) (fault : EndFault) → (came : (p : Packet) × IsComing host_side old message p × IsTrue (is_hello p))
    → (found : (rest : Position) × (met hello (at_start message) ≡ Ok (h, rest))) → (fault ≡ Memory) × (new ≡ old) → HostEndHears old message (Err fault) new
opening_failed old new message h fault came found (is, stays) = rw (is, stays) (opening_lacked_after old message h came found)

-- a slice from a place on
pub slice_from : (n : ℕ) (xs : List ℕ) → take (length xs - n) (drop n xs) ≡ drop n xs
slice_from n xs = let len : length (drop n xs) ≡ length xs - n = length-drop n xs in take_all (length xs - n) (drop n xs) (omega (arith, len))

-- where the bytes after a completion's head are copied, the same was heard; where there is no memory for them, nothing changed
pub copied_heard : (old new : End) (message : List ℕ) (heard : LentAct) (r : Result Act EndFault) → HostEndHears old message (Ok (act_of heard)) new
    → (HasBody heard → MayLack host_side old message × (new ≡ old)) → IfOk r (λ a. a ≡ act_of heard) → IfErr r (λ wrong. (wrong ≡ Memory) × HasBody heard) → HostEndHears old message r new
copied_heard old new message heard (Ok a) step lacking same wanting = rw same step
copied_heard old new message heard (Err wrong) step lacking same (is, body) =
    let both = lacking body in
    let stays = both.1 in
    rw (is, stays) (lacked old message both.0)
