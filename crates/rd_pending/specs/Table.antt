-- A host's table: the requests that it sends to devices, and what comes of each. No public standard has one: these are this project's own rules,
-- beside the completion ids of MS-RDPEFS 2.2.1.4.
use Rattle.std.specs.Prelude.{◌≡◌, ℕ, suc, ◌+◌, ◌<◌, ◌≤◌, ◌^◌, ◌==◌, ◌&&◌, Bool, true, false, nat_le, if◌then◌else◌, List, [], ◌∷◌, ◌++◌, length, map, Option, Some, None, is_some, is_none, All, IsOk, Result, Ok, Err}
use Rattle.std.specs.List.Sorted.{IsStrictlySortedBy}
use Rattle.std.specs.Map.{keys_of, lookup, remove_entry, set_value}
use Rattle.std.specs.Ordering.{nat_cmp}
use Rattle.std.specs.BTreeMap.{insert_entry, is_at}
use Rattle.std.specs.Option.{option_map, option_map_or, unwrap_or}
use Rattle.rd_base.specs.declared.bad.Bad.{Bad}
use Rattle.rd_base.specs.declared.journal.Cause.{Cause}
use Rattle.rd_base.specs.declared.journal.Cause.TheVariants.{Removed, Dropped}
use Rattle.rd_base.specs.Layout.{met}
use Rattle.rd_base.specs.Position.{at_start}
use Rattle.rd_base.specs.Limits.{max_devices}
use Rattle.rd_chunk.specs.Carrier.{IsMessage}
use Rattle.rd_irp.specs.declared.op.Op.{Op}
use Rattle.rd_irp.specs.declared.completion.Body.{Body}
use Rattle.rd_irp.specs.declared.completion.Head.{Head}
use Rattle.rd_irp.specs.declared.completion.Kind.{Kind}
use Rattle.rd_irp.specs.declared.completion.Kind.TheVariants as kind
use Rattle.rd_irp.specs.Completion.{completion_body}
use Rattle.rd_irp.specs.Fits.{kind_of, Fits, opens}
use Rattle.rd_irp.specs.Written.{request_bytes}
use Rattle.rd_pending.specs.declared.calls.CompleteNo.{CompleteNo}
use Rattle.rd_pending.specs.declared.calls.CompleteNo.TheVariants as complete_no
use Rattle.rd_pending.specs.declared.calls.Completed.{Completed}
use Rattle.rd_pending.specs.declared.calls.Completed.TheVariants.{Gave, Late}
use Rattle.rd_pending.specs.declared.calls.LiveNo.{LiveNo}
use Rattle.rd_pending.specs.declared.calls.LiveNo.TheVariants as live_no
use Rattle.rd_pending.specs.declared.calls.Outcome.{Outcome}
use Rattle.rd_pending.specs.declared.calls.Outcome.TheVariants.{Done, Lost}
use Rattle.rd_pending.specs.declared.calls.Stage.{Stage}
use Rattle.rd_pending.specs.declared.calls.SubmitNo.{SubmitNo}
use Rattle.rd_pending.specs.declared.calls.SubmitNo.TheVariants as submit_no
use Rattle.rd_pending.specs.declared.calls.TakeNo.{TakeNo}
use Rattle.rd_pending.specs.declared.calls.TakeNo.TheVariants as take_no
use Rattle.rd_pending.specs.declared.calls.Taken.{Taken}
use Rattle.rd_pending.specs.declared.calls.Target.{Target}
use Rattle.rd_pending.specs.declared.calls.Target.TheVariants as target

-- the most slots that are held; a completion id is below it
abbrev pub max_slots : ℕ
max_slots = 1024

-- the most lives of a session, and the most numbers
abbrev pub max_lives : ℕ
max_lives = 2 ^ 40

abbrev pub max_numbers : ℕ
max_numbers = 2 ^ 40

-- What a completion id stands for: a request that isn't completed, and whether it was lost before its completion came.
pub record Slot : Type 0 where
  pub number : ℕ
  pub device : ℕ
  pub kind : Kind
  pub dead : Bool

-- what there is of an outcome
pub data Fate : Type 0 where
  awaited : Fate
  known : Outcome → Fate

-- A request whose outcome wasn't handed out: the device, the device's life, and what there is of its outcome.
pub record Untaken : Type 0 where
  pub device : ℕ
  pub life : ℕ
  pub fate : Fate

pub record TableState : Type 0 where
  -- the open channel, what each channel that began is below, and how many requests were accepted on the last of them
  pub channel : Option ℕ
  pub below : ℕ
  pub asked : ℕ
  -- the lives of the devices that are there, by their ids
  pub lives : List (ℕ × ℕ)
  -- how many lives were given, and how many since the channel began
  pub given : ℕ
  pub begun : ℕ
  -- the slots that are held, by their completion ids
  pub slots : List (ℕ × Slot)
  -- how many requests were accepted: they have the numbers from 1 to it
  pub count : ℕ
  -- the requests whose outcomes weren't handed out, by their numbers
  pub untaken : List (ℕ × Untaken)
  -- the messages that aren't sent yet, in the order of submission
  pub outbox : List (List ℕ)

abbrev pub new_table : TableState
new_table = record { channel = None; below = 0; asked = 0; lives = []; given = 0; begun = 0; slots = []; count = 0; untaken = []; outbox = [] }

-- ---- lookups

-- the life of a device, if it is there
abbrev pub life_of : TableState → ℕ → Option ℕ
life_of t device = lookup (is_at (nat_cmp device)) t.lives

-- the slot with a completion id, if it is held
abbrev pub slot_for : TableState → ℕ → Option Slot
slot_for t id = lookup (is_at (nat_cmp id)) t.slots

-- the least number from n on that is no key of a map
abbrev pub free_from : {V : Type 0} → ℕ → List (ℕ × V) → ℕ
free_from n [] = n
free_from n (entry ∷ entries) = if entry.0 == n then free_from (n + 1) entries else n

-- the completion id of the next request
abbrev pub next_id : TableState → ℕ
next_id t = free_from 0 t.slots

-- the request with a number, if it was accepted and its outcome wasn't handed out
abbrev pub untaken_at : TableState → ℕ → Option Untaken
untaken_at t number = lookup (is_at (nat_cmp number)) t.untaken

-- what there is of the outcome of a number, unless it was handed out
abbrev pub fate_at : TableState → ℕ → Option Fate
fate_at t number = option_map (λ u. u.fate) (untaken_at t number)

-- whether there is no outcome yet
abbrev pub is_awaited : Fate → Bool
is_awaited awaited = true
is_awaited _ = false

-- whether a number is awaited
abbrev pub awaits : TableState → ℕ → Bool
awaits t number = option_map_or is_awaited (fate_at t number) false

-- with another fate of the request with a number
abbrev pub with_fate : TableState → ℕ → Fate → TableState
with_fate t number fate =
    option_map_or (λ u. record t { untaken = set_value (is_at (nat_cmp number)) t.untaken (record u { fate = fate }) }) (untaken_at t number) t

-- a request that passes a test is lost, if there is no outcome of it yet
abbrev pub lost_where : (Untaken → Bool) → Cause → ℕ × Untaken → ℕ × Untaken
lost_where test cause entry = let u = entry.1 in (entry.0, if is_awaited u.fate && test u then record u { fate = known (Lost cause) } else u)

-- the requests that pass a test and have no outcome yet are lost
abbrev pub losing : (Untaken → Bool) → Cause → List (ℕ × Untaken) → List (ℕ × Untaken)
losing test cause untaken = map (lost_where test cause) untaken

-- ---- the calls

-- A channel may begin that is above each that began.
abbrev pub MayBegin : TableState → ℕ → Type 0
MayBegin t channel = t.below ≤ channel

-- a channel begins, unless one is open
abbrev pub begin : TableState → ℕ → TableState × Bool
begin t channel = if is_some t.channel then (t, false) else (record t { channel = Some channel; below = channel + 1; asked = 0; begun = 0 }, true)

-- why a device doesn't begin a life, if it doesn't: the first cause that there is
abbrev pub live_refusal : TableState → ℕ → Option LiveNo
live_refusal t device =
    if is_none t.channel then Some live_no.NoChannel
    else (if is_some (life_of t device) then Some live_no.Already
    else (if nat_le max_devices (length t.lives) then Some live_no.Full
    else (if nat_le max_lives t.given then Some (live_no.Worn t.given)
    else None)))

-- a device begins its next life
abbrev pub live : TableState → ℕ → TableState × Result ℕ LiveNo
live t device = by (live_refusal t device)
  where
    by : Option LiveNo → TableState × Result ℕ LiveNo
    by (Some cause) = (t, Err cause)
    by None =
        let life = t.given + 1 in
        (record t { lives = insert_entry nat_cmp t.lives device life; given = life; begun = t.begun + 1 }, Ok life)

-- the device that a request names, and its file
abbrev pub device_in : Target → ℕ
device_in (target.Device device) = device
device_in (target.Handle handle) = handle.device

abbrev pub file_in : Target → ℕ
file_in (target.Device device) = 0
file_in (target.Handle handle) = handle.file

-- where a handle is of another life than the device's
abbrev pub stale : Target → ℕ → Option SubmitNo
stale (target.Device device) now = None
stale (target.Handle handle) now = if handle.life == now then None else Some (submit_no.StaleHandle handle.life now)

abbrev pub names_device : Target → Bool
names_device (target.Device device) = true
names_device (target.Handle handle) = false

-- A request may be submitted that fits, and that opens a file exactly where it names a device.
pub record MaySubmit (named : Target) (o : Op) : Type 0 where
  pub fits : Fits o
  pub names : opens o ≡ names_device named

-- why a request isn't accepted, if it isn't: the first cause that there is
abbrev pub submit_refusal : TableState → Target → Option SubmitNo
submit_refusal t named = if is_none t.channel then Some submit_no.NoChannel else by (life_of t (device_in named))
  where
    full : Option SubmitNo
    full =
        if nat_le max_slots (length t.slots) then Some (submit_no.Full (length t.slots))
        else (if nat_le max_numbers t.count then Some (submit_no.Worn t.count)
        else None)

    or_full : Option SubmitNo → Option SubmitNo
    or_full (Some cause) = Some cause
    or_full None = full

    by : Option ℕ → Option SubmitNo
    by None = Some submit_no.NoDevice
    by (Some now) = or_full (stale named now)

-- A request is accepted: it gets the next number and the least free completion id, and its message is to be sent.
abbrev pub accept : TableState → Target → Op → TableState
accept t named o =
    let number = suc t.count in
    let device = device_in named in
    let id = next_id t in
    record t {
      asked = t.asked + 1;
      slots = insert_entry nat_cmp t.slots id (record { number = number; device = device; kind = kind_of o; dead = false });
      count = number;
      untaken = insert_entry nat_cmp t.untaken number (record { device = device; life = unwrap_or (life_of t device) 0; fate = awaited });
      outbox = t.outbox ++ request_bytes (record { device = device; file = file_in named; completion = id; op = o }) ∷ [];
    }

abbrev pub submit : TableState → ℕ → Target → Op → TableState × Result ℕ SubmitNo
submit t application named o = by (submit_refusal t named)
  where
    by : Option SubmitNo → TableState × Result ℕ SubmitNo
    by (Some cause) = (t, Err cause)
    by None = (accept t named o, Ok (suc t.count))

-- the message that was submitted first is handed out
abbrev pub send : TableState → TableState × Option (List ℕ)
send t = by t.outbox
  where
    by : List (List ℕ) → TableState × Option (List ℕ)
    by [] = (t, None)
    by (message ∷ messages) = (record t { outbox = messages }, Some message)

-- the slot is free again
abbrev pub freed : TableState → ℕ → TableState
freed t id = record t { slots = remove_entry (is_at (nat_cmp id)) t.slots }

-- What comes of a completion for a slot that is held: a lost request's is late, whatever its body; any other's body has to read.
abbrev pub complete_in : TableState → Head → List ℕ → Slot → TableState × Result Completed CompleteNo
complete_in t head bytes slot =
    if slot.dead then (freed t head.completion, Ok (Late slot.number)) else by (met (completion_body slot.kind head.status) (at_start bytes))
  where
    by : {R : Type 0} → Result (Body × R) Bad → TableState × Result Completed CompleteNo
    by (Err bad) = (t, Err (complete_no.BodyBad bad))
    by (Ok read) = (with_fate (freed t head.completion) slot.number (known (Done (record { status = head.status; body = read.0 }))), Ok (Gave slot.number))

-- a completion is heard, with this head and these bytes after it
abbrev pub complete : TableState → Head → List ℕ → TableState × Result Completed CompleteNo
complete t head bytes = by (slot_for t head.completion)
  where
    stray : TableState × Result Completed CompleteNo
    stray = (t, Err (complete_no.Stray head.device head.completion))

    by : Option Slot → TableState × Result Completed CompleteNo
    by None = stray
    by (Some slot) = if slot.device == head.device then complete_in t head bytes slot else stray

-- the slot of a request to a device is dead
abbrev pub dead_of : ℕ → ℕ × Slot → ℕ × Slot
dead_of device entry = let slot = entry.1 in (entry.0, if slot.device == device then record slot { dead = true } else slot)

-- The device is gone: its requests that aren't completed are lost, and their slots are held until their completions come, or the channel ends.
abbrev pub remove : TableState → ℕ → TableState × Bool
remove t device =
    if is_none (life_of t device) then (t, false)
    else (
      record t {
        lives = remove_entry (is_at (nat_cmp device)) t.lives;
        slots = map (dead_of device) t.slots;
        untaken = losing (λ u. u.device == device) Removed t.untaken;
      },
      true,
    )

-- The channel ended: what isn't completed is lost, and nothing is to be sent.
abbrev pub drop_channel : TableState → TableState
drop_channel t = record t { channel = None; lives = []; slots = []; untaken = losing (λ u. true) Dropped t.untaken; outbox = [] }

-- the same, unless a message is to be sent
abbrev pub drop_sent : TableState → TableState × Bool
drop_sent t = by t.outbox
  where
    by : List (List ℕ) → TableState × Bool
    by [] = (drop_channel t, true)
    by (message ∷ messages) = (t, false)

abbrev pub stage : TableState → Stage
stage t = record { channel = is_some t.channel; lives = t.begun }

-- The outcome of a number is handed out, once.
abbrev pub take : TableState → ℕ → TableState × Result Taken TakeNo
take t number = by (untaken_at t number)
  where
    from : Untaken → Fate → TableState × Result Taken TakeNo
    from u awaited = (t, Err take_no.NotYet)
    from u (known outcome) =
        (record t { untaken = remove_entry (is_at (nat_cmp number)) t.untaken }, Ok (record { device = u.device; life = u.life; outcome = outcome }))

    by : Option Untaken → TableState × Result Taken TakeNo
    by None = (t, Err take_no.Unknown)
    by (Some u) = from u u.fate

-- ---- what always holds

-- The mark of the slot of a number with what there is of its outcome: dead where the request was lost, or its outcome was handed out. A request that is
-- done has no slot.
abbrev pub mark_of : Option Fate → Option Bool
mark_of (Some awaited) = Some false
mark_of (Some (known (Done reply))) = None
mark_of (Some (known (Lost cause))) = Some true
mark_of None = Some true

-- The slot with a completion id, which is below the limit, is of a number that was given, and has its mark: it is dead exactly where the number isn't
-- awaited.
pub record IsSlotIn (t : TableState) (id : ℕ) (slot : Slot) : Type 0 where
  pub low : id < max_slots
  pub given : (1 ≤ slot.number) × (slot.number ≤ t.count)
  pub mark : mark_of (fate_at t slot.number) ≡ Some slot.dead

-- a number that is awaited has a slot, live, with its device
pub record HasSlot (t : TableState) (number : ℕ) (u : Untaken) : Type 0 where
  pub id : ℕ
  pub kind : Kind
  pub held : slot_for t id ≡ Some (record { number = number; device = u.device; kind = kind; dead = false })

-- Slots rise, and no two are of one number. The numbers whose outcomes weren't handed out rise, and were given. Each that is awaited has its slot. Each
-- message fits the limit. Where no channel is open nothing is held, there, to be sent and awaited.
pub record AreSlots (t : TableState) : Type 0 where
  pub rising : IsStrictlySortedBy nat_cmp (keys_of t.slots)
  pub untaken_rising : IsStrictlySortedBy nat_cmp (keys_of t.untaken)
  pub few_lives : length t.lives ≤ max_devices
  pub of_slot : (id : ℕ) (slot : Slot) → slot_for t id ≡ Some slot → IsSlotIn t id slot
  pub apart : (i j : ℕ) (x y : Slot) → slot_for t i ≡ Some x → slot_for t j ≡ Some y → x.number ≡ y.number → i ≡ j
  pub numbers : (number : ℕ) (u : Untaken) → untaken_at t number ≡ Some u → (1 ≤ number) × (number ≤ t.count)
  pub of_awaited : (number : ℕ) (u : Untaken) → untaken_at t number ≡ Some u → is_awaited u.fate ≡ true → HasSlot t number u
  pub messages : All IsMessage t.outbox
  pub closed : t.channel ≡ None → (t.slots ≡ []) × (t.lives ≡ []) × (t.outbox ≡ []) × ((number : ℕ) → awaits t number ≡ false)

-- ---- the calls, with what they answer

-- a call of a table, and its answer
pub data TableCall : Type 0 where
  begins : ℕ → Bool → TableCall
  lives : ℕ → Result ℕ LiveNo → TableCall
  submits : ℕ → Target → Op → Result ℕ SubmitNo → TableCall
  sends : Option (List ℕ) → TableCall
  completes : Head → List ℕ → Result Completed CompleteNo → TableCall
  removes : ℕ → Bool → TableCall
  takes : ℕ → Result Taken TakeNo → TableCall
  drops : TableCall
  drops_sent : Bool → TableCall
  stages : Stage → TableCall
  -- begin and submit are asked where they may not be
  begins_unfit : ℕ → TableCall
  submits_unfit : ℕ → Target → Op → TableCall

-- A completion whose body is kept as bytes, if there are any: it is a success, for a slot of its device that isn't dead and has the layout of a buffer.
pub record HasBuffer (t : TableState) (head : Head) : Type 0 where
  pub slot : Slot
  pub held : slot_for t head.completion ≡ Some slot
  pub device : slot.device ≡ head.device
  pub alive : slot.dead ≡ false
  pub buffer : slot.kind ≡ kind.Buffer
  pub success : (head.status).0 ≡ 0

-- The table before a call, and after it. Where memory runs out nothing changes, and the call would have been answered with Ok.
abbrev pub TableStep : TableState → TableCall → TableState → Type 0
TableStep old (begins channel answer) new = MayBegin old channel × (begin old channel ≡ (new, answer))
TableStep old (lives device (Err live_no.Memory)) new = (live_refusal old device ≡ None) × (new ≡ old)
TableStep old (lives device answer) new = live old device ≡ (new, answer)
TableStep old (submits application named o (Err submit_no.Memory)) new = MaySubmit named o × (submit_refusal old named ≡ None) × (new ≡ old)
TableStep old (submits application named o answer) new = MaySubmit named o × (submit old application named o ≡ (new, answer))
TableStep old (sends answer) new = send old ≡ (new, answer)
TableStep old (completes head bytes (Err complete_no.Memory)) new = HasBuffer old head × IsOk (complete old head bytes).1 × (new ≡ old)
TableStep old (completes head bytes answer) new = complete old head bytes ≡ (new, answer)
TableStep old (removes device answer) new = remove old device ≡ (new, answer)
TableStep old (takes number answer) new = take old number ≡ (new, answer)
TableStep old drops new = drop_channel old ≡ new
TableStep old (drops_sent answer) new = drop_sent old ≡ (new, answer)
TableStep old (stages answer) new = (stage old ≡ answer) × (new ≡ old)
TableStep old (begins_unfit channel) new = ¬ (MayBegin old channel) × (new ≡ old)
TableStep old (submits_unfit application named o) new = ¬ (MaySubmit named o) × (new ≡ old)
