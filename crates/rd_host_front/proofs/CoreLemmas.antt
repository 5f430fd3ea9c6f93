-- What a message says to a host's core that isn't of the opening: the opening is over, and the bytes after a completion's head are the message's last.
use Rattle.std.proofs.Common.{◌≡◌, ◌∙◌, refl, sym, ap, subst, ℕ, zero, suc, ◌+◌, ◌-◌, ◌≤◌, ◌==◌, ◌||◌, Bool, true, false, cond, List, [], ◌∷◌, ◌++◌, length, drop, Option, Some, None, Result, Ok, Err, arith, length-append, eqb-true}
use Rattle.std.proofs.lemmas.Bool.{leb-true}
use Rattle.std.proofs.lemmas.List.{drop_at}
use Rattle.std.specs.List.{list_any}
use Rattle.rd_base.specs.declared.bad.Bad.{Bad}
use Rattle.rd_base.specs.declared.packet.Packet.{Packet}
use Rattle.rd_base.specs.declared.packet.Packet.TheVariants as packet
use Rattle.rd_base.specs.Header.{any_header, packet_id}
use Rattle.rd_base.specs.Counted.{count_to, counted}
use Rattle.rd_base.specs.Fields.{times}
use Rattle.rd_base.specs.Layout.{AreBytes, IsSpelled, Layout, met}
use Rattle.rd_base.specs.Limits.{max_devices}
use Rattle.rd_base.specs.Position.{Position, at_start}
use Rattle.rd_base.proofs.LayoutLemmas.{found}
use Rattle.rd_core.specs.Hearing.{Meaning, by_row, from_header, from_hello, from_known, from_own, hear_said, hear_unless, is_hello, is_one_of, is_read_in, nothing, opens, read_as, said, says, wrong}
use Rattle.rd_devices.specs.DeviceList.{announce, device_list}
use Rattle.rd_devices.specs.Removal.{removal}
use Rattle.rd_devices.specs.declared.list.Announce.{Announce}
use Rattle.rd_hello.specs.declared.end_fault.EndFault.{EndFault}
use Rattle.rd_hello.specs.declared.end_fault.EndFault.TheVariants.{Order}
use Rattle.rd_hello.specs.declared.hello.Hello.{Hello}
use Rattle.rd_hello.specs.declared.host.HostState.{HostState}
use Rattle.rd_hello.specs.declared.host.HostState.TheVariants.{Start, Confirmed, Offered, Ready}
use Rattle.rd_hello.specs.Hello.{hello, hellos}
use Rattle.rd_hello.specs.Rows.{OrderRow}
use Rattle.rd_irp.specs.declared.completion.Head.{Head}
use Rattle.rd_irp.specs.Completion.{completion_head}
use Rattle.rd_host.specs.declared.act.Act.{Act}
use Rattle.rd_host.specs.declared.act.Act.TheVariants as act
use Rattle.rd_host.specs.Core.{HostCoreState, client_says, host_hear, host_hear_made, host_side}
use Rattle.rd_host_front.specs.HostFront.{IsReadyFor}

-- What a message asks of a host is what its packet's own layout says, of a packet that is read there and isn't of the opening. The core stays as it is.
pub record SaysOwn (old new : HostCoreState) (message : List ℕ) (a : Act) : Type 0 where
  pub packet : Packet
  pub read : is_read_in host_side (old.core).shake packet ≡ true
  pub own : is_hello packet ≡ false
  pub says : client_says packet message ≡ Ok a
  pub same : new ≡ old

-- whether a message asks something
abbrev pub Asks : Act → Type 0
Asks act.Nothing = ⊥
Asks _ = Unit {0}

from_row : (r : Option (OrderRow HostState)) (a : Act) → by_row host_side r ≡ says a → ⊥
from_row None a e = cc e
from_row (Some row) a e = cc e

from_read : (state : HostState) (r : Result (Hello × Position) Bad) (a : Act) → from_hello host_side state r ≡ says a → ⊥
from_read state (Err bad) a e = cc e
from_read state (Ok read) a e = from_row (host_side.row state read.0) a e

from_layout : (r : Result Act Bad) (a : Act) → from_own host_side r ≡ says a → r ≡ Ok a
from_layout (Err bad) a e = absurd (cc e)
from_layout (Ok b) a e = let same : b ≡ a = cc e in ap (λ (x : Act). Ok x) same

-- what is said of a packet that is named is of a packet that is read and has a layout of its own
known_says : (state : HostState) (message : List ℕ) (p : Packet) (a : Act) → from_known host_side state message p ≡ says a
    → (is_read_in host_side state p ≡ true) × (is_hello p ≡ false) × (client_says p message ≡ Ok a)
known_says state message p a e = go (is_read_in host_side state p) refl (is_hello p) refl e
  where
    go : (b : Bool) → is_read_in host_side state p ≡ b → (h : Bool) → is_hello p ≡ h
        → cond b (cond h (from_hello host_side state (met hello (at_start message))) (from_own host_side (client_says p message))) (wrong (Order (host_side.number state) (packet_id p))) ≡ says a
        → (is_read_in host_side state p ≡ true) × (is_hello p ≡ false) × (client_says p message ≡ Ok a)
    go false read h own e = absurd (cc e)
    go true read true own e = absurd (from_read state (met hello (at_start message)) a e)
    go true read false own e = (read, own, from_layout (client_says p message) a e)

header_says : (state : HostState) (message : List ℕ) (r : Result (Option Packet × Position) Bad) (a : Act) → from_header host_side state message r ≡ says a
    → (p : Packet) × (is_read_in host_side state p ≡ true) × (is_hello p ≡ false) × (client_says p message ≡ Ok a)
header_says state message (Err bad) a e = absurd (cc e)
header_says state message (Ok (None, rest)) a e = absurd (cc e)
header_says state message (Ok (Some p, rest)) a e =
    let (read, own, told) = known_says state message p a e in
    (p, read, own, told)

pub says_own : (old new : HostCoreState) (message : List ℕ) (a : Act) → Asks a → host_hear old message ≡ (new, Ok a) → SaysOwn old new message a
says_own old new message a asks e = unless (old.core).fault e
  where
    answer : (x y : HostCoreState × Result Act EndFault) → x ≡ y → x.1 ≡ y.1
    answer x y e = ap (λ (z : HostCoreState × Result Act EndFault). z.1) e

    meant : (m : Meaning HostState Act) → said host_side (old.core).shake message ≡ m → host_hear_made old (hear_said host_side old.core m) ≡ (new, Ok a) → SaysOwn old new message a
    meant (wrong fault) is e = absurd (cc (answer _ _ e))
    meant nothing is e =
        let same : act.Nothing ≡ a = cc (answer _ _ e) in
        absurd (subst Asks (sym same) asks)
    meant (opens row) is e =
        let same : act.Nothing ≡ a = cc (answer _ _ e) in
        absurd (subst Asks (sym same) asks)
    meant (says b) is e =
        let same : b ≡ a = cc (answer _ _ e) in
        let core : old ≡ new = ap (λ (x : HostCoreState × Result Act EndFault). x.0) e in
        let (p, read, own, told) = header_says (old.core).shake message (met any_header (at_start message)) a (is ∙ ap (λ (x : Act). says x) same) in
        record { packet = p; read = read; own = own; says = told; same = sym core }

    unless : (held : Option EndFault) → host_hear_made old (hear_unless host_side old.core message held) ≡ (new, Ok a) → SaysOwn old new message a
    unless (Some fault) e = absurd (cc (answer _ _ e))
    unless None e = meant (said host_side (old.core).shake message) refl e

-- ---- the opening is over

lone : (x : Bool) → (x || false) ≡ true → x ≡ true
lone true e = refl
lone false e = e

one_packet : (q p : Packet) → is_one_of (q ∷ []) p ≡ true → packet_id q ≡ packet_id p
one_packet q p e = eqb-true (packet_id q) (packet_id p) (lone (packet_id q == packet_id p) e)

-- the number of a packet of the opening isn't that of another
not_hello : (q p : Packet) → packet_id q ≡ packet_id p → is_hello q ≡ true → is_hello p ≡ false → ⊥
not_hello q p same is own =
    let also : is_hello p ≡ true = subst (λ (n : ℕ). list_any (λ (x : Packet). packet_id x == n) hellos ≡ true) same is in
    let no : true ≡ false = sym also ∙ own in
    cc no

-- a packet that isn't of the opening is read where that is over
read_ready : (state : HostState) (p : Packet) → is_read_in host_side state p ≡ true → is_hello p ≡ false → state ≡ Ready
read_ready Start p read own = absurd (not_hello packet.ClientIdConfirm p (one_packet packet.ClientIdConfirm p read) refl own)
read_ready (Confirmed client) p read own = absurd (not_hello packet.ClientName p (one_packet packet.ClientName p read) refl own)
read_ready Offered p read own = absurd (not_hello packet.ClientCapability p (one_packet packet.ClientCapability p read) refl own)
read_ready Ready p read own = refl

-- where a message asks something of a host, its opening is over
pub asked_ready : (old new : HostCoreState) (message : List ℕ) (a : Act) → Asks a → host_hear old message ≡ (new, Ok a) → (new.core).shake ≡ Ready
asked_ready old new message a asks e =
    let own = says_own old new message a asks e in
    subst (λ (h : HostCoreState). (h.core).shake ≡ Ready) (sym own.same) (read_ready (old.core).shake own.packet own.read own.own)

-- ---- devices

-- so many records are spelled, one after another
times_long : {A : Type 0} (count : ℕ) (l : Layout A) (xs : List A) (field after : List ℕ) → IsSpelled (times count l) xs field after → length xs ≡ count
times_long zero l xs field after s = ap (λ (ys : List _). length ys) s.0
times_long (suc count) l xs field after s =
    let others = s.5 in
    ap (λ (ys : List _). length ys) others.5.0 ∙ ap (λ (n : ℕ). suc n) (times_long count l others.0 others.1 (others.2 ++ after) others.4)

list_long : (devices : List Announce) (field after : List ℕ) → IsSpelled device_list devices field after → length devices ≤ max_devices
unfolding device_list counted count_to
list_long devices field after s =
    let records = s.5 in
    let counts = records.4 in
    let test = counts.5 in
    let same : records.0 ≡ counts.0 = test.5.0 in
    let few : counts.0 ≤ max_devices = leb-true counts.0 max_devices test.4.0 in
    let long : length devices ≡ records.0 = times_long records.0 announce devices records.2 after records.5 in
    omega (arith, same, few, long)

devices_in : (r : Result (List Announce × Position) Bad) (devices : List Announce) → read_as (λ (read : List Announce × Position). act.Announced read.0) r ≡ Ok (act.Announced devices)
    → (rest : Position) × (r ≡ Ok (devices, rest))
devices_in (Err bad) devices e = absurd (cc e)
devices_in (Ok (ds, rest)) devices e =
    let same : ds ≡ devices = cc e in
    (rest, ap (λ (x : List Announce). Ok (x, rest)) same)

removed_in : (r : Result (List ℕ × Position) Bad) (devices : List Announce) → read_as (λ (read : List ℕ × Position). act.Removed read.0) r ≡ Ok (act.Announced devices) → ⊥
removed_in (Err bad) devices e = cc e
removed_in (Ok read) devices e = cc e

head_in : (r : Result (Head × Position) Bad) (devices : List Announce) → read_as (λ (read : Head × Position). act.Complete read.0 (read.1).left) r ≡ Ok (act.Announced devices) → ⊥
head_in (Err bad) devices e = cc e
head_in (Ok read) devices e = cc e

list_said : (p : Packet) (message : List ℕ) (devices : List Announce) → client_says p message ≡ Ok (act.Announced devices) → (rest : Position) × (met device_list (at_start message) ≡ Ok (devices, rest))
list_said packet.DeviceListAnnounce message devices e = devices_in (met device_list (at_start message)) devices e
list_said packet.DeviceListRemove message devices e = absurd (removed_in (met removal (at_start message)) devices e)
list_said _ message devices e = absurd (head_in (met completion_head (at_start message)) devices e)

-- devices are announced to a host whose opening is over, as many as a list has at the most
pub announced_ready : (old new : HostCoreState) (message : List ℕ) (devices : List Announce) → AreBytes message → host_hear old message ≡ (new, Ok (act.Announced devices)) → IsReadyFor (act.Announced devices) new
announced_ready old new message devices fits e =
    let own = says_own old new message (act.Announced devices) tt e in
    let (rest, is) = list_said own.packet message devices own.says in
    let took = found device_list (at_start message) devices rest (record { below = fits }) is in
    (asked_ready old new message (act.Announced devices) tt e, list_long devices took.field rest.left took.spelled)

-- ---- completions

completion_in : (r : Result (Head × Position) Bad) (head : Head) (body : List ℕ) → read_as (λ (read : Head × Position). act.Complete read.0 (read.1).left) r ≡ Ok (act.Complete head body)
    → (rest : Position) × (r ≡ Ok (head, rest)) × (rest.left ≡ body)
completion_in (Err bad) head body e = absurd (cc e)
completion_in (Ok (h, rest)) head body e =
    let heads : h ≡ head = cc e in
    let bodies : rest.left ≡ body = cc e in
    (rest, ap (λ (x : Head). Ok (x, rest)) heads, bodies)

list_in : (r : Result (List Announce × Position) Bad) (head : Head) (body : List ℕ) → read_as (λ (read : List Announce × Position). act.Announced read.0) r ≡ Ok (act.Complete head body) → ⊥
list_in (Err bad) head body e = cc e
list_in (Ok read) head body e = cc e

ids_in : (r : Result (List ℕ × Position) Bad) (head : Head) (body : List ℕ) → read_as (λ (read : List ℕ × Position). act.Removed read.0) r ≡ Ok (act.Complete head body) → ⊥
ids_in (Err bad) head body e = cc e
ids_in (Ok read) head body e = cc e

-- a completion is what a completion's head and what is left after it say
completion_said : (p : Packet) (message : List ℕ) (head : Head) (body : List ℕ) → client_says p message ≡ Ok (act.Complete head body)
    → (rest : Position) × (met completion_head (at_start message) ≡ Ok (head, rest)) × (rest.left ≡ body)
completion_said packet.DeviceListAnnounce message head body e = absurd (list_in (met device_list (at_start message)) head body e)
completion_said packet.DeviceListRemove message head body e = absurd (ids_in (met removal (at_start message)) head body e)
completion_said _ message head body e = completion_in (met completion_head (at_start message)) head body e

-- The bytes after a completion's head are the last of its message.
pub record IsLastOf (message body : List ℕ) : Type 0 where
  pub short : length body ≤ length message
  pub last : drop (length message - length body) message ≡ body

pub body_last : (old new : HostCoreState) (message : List ℕ) (head : Head) (body : List ℕ) → AreBytes message → host_hear old message ≡ (new, Ok (act.Complete head body)) → IsLastOf message body
body_last old new message head body fits e =
    let own = says_own old new message (act.Complete head body) tt e in
    let (rest, is, left) = completion_said own.packet message head body own.says in
    let took = found completion_head (at_start message) head rest (record { below = fits }) is in
    let parts : message ≡ took.field ++ body = took.parts ∙ ap (λ (xs : List ℕ). took.field ++ xs) left in
    let lengths : length message ≡ length took.field + length body = ap length parts ∙ length-append took.field body in
    let first : length took.field ≡ length message - length body = omega (arith, lengths) in
    record { short = omega (arith, lengths); last = ap (λ (xs : List ℕ). drop (length message - length body) xs) parts ∙ drop_at took.field body (length message - length body) first }
