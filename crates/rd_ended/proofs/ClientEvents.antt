-- What a client handles brings its opening on, or leaves the host as much to hear as there was; and of what it read less is left.
use Rattle.std.proofs.Common.{◌≡◌, ◌⊎◌, ◌∙◌, refl, sym, ap, inl, inr, ℕ, zero, suc, ◌+◌, ◌-◌, ◌<◌, ◌≤◌, ◌==◌, arith, Bool, true, false, List, [], ◌++◌, length, Some, None, Option, Result, length-append}
use Rattle.std.specs.Prelude.{if◌then◌else◌, is_some}
use Rattle.rd_client.specs.Core.{ClientCoreState, client_hear}
use Rattle.rd_client.specs.Events.{waiting_messages}
use Rattle.rd_client.specs.declared.heard.Heard.{Heard}
use Rattle.rd_hello.specs.declared.end_fault.EndFault.{EndFault}
use Rattle.rd_hello.specs.ClientTable.{client_number}
use Rattle.rd_opening.proofs.OrdersMeeting.{heard_client, inside_traffic, put_client}
use Rattle.rd_told.proofs.RunsInsides.{IsInside, Outside, hears_inside, put_inside}
use Rattle.rd_told.proofs.RunsTrafficLemmas.{Traffic, traffic}
use Rattle.rd_station.specs.Station as station
use Rattle.rd_station.specs.Station.{StationState}
use Rattle.rd_station.specs.declared.refusals.PutWhy.{PutWhy}
use Rattle.rd_station.specs.declared.refusals.PutWhy.TheVariants as why
use Rattle.rd_world.proofs.WayStreamLemmas.{message_shorter}
use Rattle.rd_declared.specs.declared.device.SessionDevice.{SessionDevice}
use Rattle.rd_world.specs.Hearing.{client_handles, client_handles_all, client_handles_first, client_hears, put_at, put_by, putting, refused_put, tries, tries_kept, with_client}
use Rattle.rd_deeds.specs.Talk.{client_reads}
use Rattle.rd_world.specs.World.{Kept, WayState, WorldState, first_message, handling_by, most_messages, station_at, with_deed}
use Rattle.rd_ended.proofs.ClientHearing.{DoesNoMore, heard_no_more, hears_on, put_no_more}
use Rattle.rd_ended.proofs.Remaining.{back, handling_left, others, to_open, unheard, unheard_by}

-- The client's opening went on, or the host has as much to hear as it had.
abbrev pub GoesOn : WorldState → WorldState → Type 0
GoesOn w v = (to_open v < to_open w) ⊎ ((to_open v ≡ to_open w) × (unheard v ≡ unheard w))

goes_then : (w x v : WorldState) → GoesOn w x → GoesOn x v → GoesOn w v
goes_then w x v (inl a) (inl b) = inl (omega (arith, a, b))
goes_then w x v (inl a) (inr b) = inl (omega (arith, a, b.0))
goes_then w x v (inr a) (inl b) = inl (omega (arith, a.0, b))
goes_then w x v (inr a) (inr b) = inr (b.0 ∙ a.0, b.1 ∙ a.1)

-- A client handled something that it read.
pub record Handles (w v : WorldState) : Type 0 where
  pub goes : GoesOn w v
  pub applications : v.applications ≡ w.applications
  pub side : v.side ≡ w.side
  pub way : (v.to_client).pipe ≡ (w.to_client).pipe
  pub handled : handling_left v ≤ handling_left w

handles_then : (w x v : WorldState) → Handles w x → Handles x v → Handles w v
handles_then w x v a b = record {
  goes = goes_then w x v a.goes b.goes;
  applications = b.applications ∙ a.applications;
  side = b.side ∙ a.side;
  way = b.way ∙ a.way;
  handled = omega (arith, a.handled, b.handled);
}

handles_none : (w : WorldState) → Handles w w
handles_none w = record { goes = inr (refl, refl); applications = refl; side = refl; way = refl; handled = omega arith }

few_back : (o : Option Kept) → back o ≤ 1
few_back None = omega arith
few_back (Some k) = omega arith

-- how much the host has to hear hangs on what the client has to send and on the traffic
pub inside_unheard : (w v : WorldState) → IsInside w v → unheard v ≡ unheard_by v.client (traffic w.channels w.deeds)
inside_unheard w v i =
    let channels : v.channels ≡ w.channels = ap (λ (o : Outside). o.channels) i.same in
    ap (λ (c : ℕ). unheard_by v.client (traffic c v.deeds)) channels ∙ ap (unheard_by v.client) (inside_traffic w v i w.channels)

-- what goes on at the client alone
on_as : (w v : WorldState) (c : ClientCoreState) → DoesNoMore c v.client → unheard v ≡ unheard_by v.client (traffic w.channels w.deeds)
    → (to_open (with_client w c) < to_open w) ⊎ ((to_open (with_client w c) ≡ to_open w) × (unheard (with_client w c) ≡ unheard w)) → GoesOn w v
on_as w v c does is goes =
    let t : Traffic = traffic w.channels w.deeds in
    let nearer : to_open v ≡ to_open (with_client w c) = ap (λ s. 5 - client_number s) does.shake in
    let heard : unheard v ≡ unheard (with_client w c) = is ∙ ap (λ (n : ℕ). n + (others t.client_wrote - others t.host_read)) does.waiting in
    elim goes [
      | inl less ↦ inl (omega (arith, nearer, less))
      | inr same ↦ inr (nearer ∙ same.0, heard ∙ same.1)
    ]

-- ---- what is read is handled

-- a message is heard
hears_handles : (w : WorldState) (message rest : List ℕ) → w.kept ≡ None → first_message ((w.to_client).part ++ (w.to_client).unhandled) ≡ Some (message, rest)
    → Handles w (client_hears (record w { to_client = (handling_by w.to_client (Some (message, rest))).0 }) message)
hears_handles w message rest kept found = record {
  goes = on_as w v heard.0 (heard_no_more heard.0 v.client heard.1 (heard_client ((w.client).core).shake y heard.1)) (inside_unheard (with_deed x (client_reads w.channels message)) v i) first;
  applications = ap (λ (o : Outside). o.applications) i.same;
  side = ap (λ (o : Outside). o.side) i.same;
  way = ap (λ (o : Outside). (o.to_client).pipe) i.same;
  handled = left;
}
  where
    x : WorldState
    x = record w { to_client = (handling_by w.to_client (Some (message, rest))).0 }

    heard : ClientCoreState × Result Heard EndFault
    heard = client_hear w.client message

    y : WorldState
    y = with_deed (with_client x heard.0) (client_reads w.channels message)

    v : WorldState
    v = client_hears x message

    i : IsInside (with_deed x (client_reads w.channels message)) v
    i = hears_inside x message

    first : (to_open (with_client w heard.0) < to_open w) ⊎ ((to_open (with_client w heard.0) ≡ to_open w) × (unheard (with_client w heard.0) ≡ unheard w))
    first = elim (hears_on w.client message) [
      | inl (more, few) ↦ inl (omega (arith, more, few))
      | inr (shake, outbox) ↦ inr (
        ap (λ s. 5 - client_number s) shake,
        ap (λ os. others (waiting_messages (record w.client { core = record (w.client).core { outbox = os } })) + (others (traffic w.channels w.deeds).client_wrote - others (traffic w.channels w.deeds).host_read)) outbox,
      )
    ]

    left : handling_left v ≤ handling_left w
    left =
        let shorter : length rest < length ((w.to_client).part ++ (w.to_client).unhandled) = message_shorter (length ((w.to_client).part ++ (w.to_client).unhandled)) [] ((w.to_client).part ++ (w.to_client).unhandled) message rest found in
        let all : length ((w.to_client).part ++ (w.to_client).unhandled) ≡ length (w.to_client).part + length (w.to_client).unhandled = length-append (w.to_client).part (w.to_client).unhandled in
        let way : v.to_client ≡ x.to_client = ap (λ (o : Outside). o.to_client) i.same in
        let now : length (v.to_client).part + length (v.to_client).unhandled ≡ 0 + length rest = ap (λ (u : WayState). length u.part + length u.unhandled) way in
        let few : back v.kept ≤ 1 = few_back v.kept in
        omega (arith, shorter, all, now, few)

-- a part of a message is kept
part_handles : (w : WorldState) → Handles w (record w { to_client = (handling_by w.to_client None).0 })
part_handles w = record {
  goes = inr (refl, refl);
  applications = refl;
  side = refl;
  way = refl;
  handled =
      (let all : length ((w.to_client).part ++ (w.to_client).unhandled) ≡ length (w.to_client).part + length (w.to_client).unhandled = length-append (w.to_client).part (w.to_client).unhandled in
      omega (arith, all));
}

none_of : (o : Option Kept) → is_some o ≡ false → o ≡ None
none_of None e = refl
none_of (Some k) e = absurd (cc)

pub client_handles_on : (most : ℕ) (w : WorldState) → Handles w (client_handles most w)
client_handles_on zero w = handles_none w
client_handles_on (suc most) w = by (is_some w.kept) refl (client_handles_on most)
  where
    first : w.kept ≡ None → ((x : WorldState) → Handles x (client_handles most x)) → (o : Option (List ℕ × List ℕ))
        → first_message ((w.to_client).part ++ (w.to_client).unhandled) ≡ o → Handles w (client_handles_first w (handling_by w.to_client o) (client_handles most))
    first kept next None is = part_handles w
    first kept next (Some (message, rest)) is =
        let x : WorldState = client_hears (record w { to_client = (handling_by w.to_client (Some (message, rest))).0 }) message in
        handles_then w x (client_handles most x) (hears_handles w message rest kept is) (next x)

    by : (b : Bool) → is_some w.kept ≡ b → ((x : WorldState) → Handles x (client_handles most x))
        → Handles w (if b then w else client_handles_first w (handling_by w.to_client (first_message ((w.to_client).part ++ (w.to_client).unhandled))) (client_handles most))
    by true kept next = handles_none w
    by false kept next = first (none_of w.kept kept) next (first_message ((w.to_client).part ++ (w.to_client).unhandled)) refl

-- ---- a job that was kept back

-- where it is kept back again nothing is handled
none_handled : (most : ℕ) (w : WorldState) (k : Kept) → w.kept ≡ Some k → client_handles most w ≡ w
none_handled zero w k kept = refl
none_handled (suc most) w k kept = rw kept refl

-- it is kept back again, which leaves the world as it was, or not
put_kept : (w : WorldState) (k : Kept) → let v : WorldState = putting (record w { kept = None }) k.device k.job in (v ≡ record w { kept = Some k }) ⊎ (v.kept ≡ None)
put_kept w k = at (station_at w k.device)
  where
    x : WorldState
    x = record w { kept = None }

    refused : (cause : PutWhy) → let v : WorldState = refused_put x k.device k.job cause in (v ≡ record w { kept = Some k }) ⊎ (v.kept ≡ None)
    refused why.Gone = inr refl
    refused (why.Full held) = inl refl
    refused (why.Worn count) = inr refl
    refused (why.Duplicate key) = inr refl
    refused why.Memory = inr refl

    by : (r : StationState SessionDevice × Option PutWhy) → let v : WorldState = put_by x k.device k.job r in (v ≡ record w { kept = Some k }) ⊎ (v.kept ≡ None)
    by (s, None) = inr refl
    by (s, Some cause) = refused cause

    at : (o : Option (StationState SessionDevice)) → let v : WorldState = put_at x k.device k.job o in (v ≡ record w { kept = Some k }) ⊎ (v.kept ≡ None)
    at None = inr refl
    at (Some s) = by (station.put s k.job)

-- a job that was kept back goes
goes_handles : (w : WorldState) (k : Kept) → let v : WorldState = putting (record w { kept = None }) k.device k.job in w.kept ≡ Some k → v.kept ≡ None → Handles w v × (handling_left v < handling_left w)
goes_handles w k kept gone = (
  record {
    goes = on_as w v w.client (put_no_more w.client v.client k.device k.job (put_client x k.device k.job)) (inside_unheard x v i) (inr (refl, refl));
    applications = ap (λ (o : Outside). o.applications) i.same;
    side = ap (λ (o : Outside). o.side) i.same;
    way = ap (λ (o : Outside). (o.to_client).pipe) i.same;
    handled = omega (arith, less);
  },
  less,
)
  where
    x : WorldState
    x = record w { kept = None }

    v : WorldState
    v = putting x k.device k.job

    i : IsInside x v
    i = put_inside x k.device k.job

    less : handling_left v < handling_left w
    less =
        let way : v.to_client ≡ w.to_client = ap (λ (o : Outside). o.to_client) i.same in
        let now : length (v.to_client).part + length (v.to_client).unhandled ≡ length (w.to_client).part + length (w.to_client).unhandled = ap (λ (u : WayState). length u.part + length u.unhandled) way in
        let one : back w.kept ≡ 1 = ap back kept in
        let none : back v.kept ≡ 0 = ap back gone in
        omega (arith, now, one, none)

-- A try leaves the world as it was, or less is left to handle.
pub tries_on : (w : WorldState) (device : ℕ) → (tries_kept w device ≡ w) ⊎ (Handles w (tries_kept w device) × (handling_left (tries_kept w device) < handling_left w))
tries_on w device = by w.kept refl
  where
    by : (o : Option Kept) → w.kept ≡ o → (tries w device o ≡ w) ⊎ (Handles w (tries w device o) × (handling_left (tries w device o) < handling_left w))
    by None kept = inl refl
    by (Some k) kept = when (k.device == device)
      where
        same : record w { kept = Some k } ≡ w
        same = ap (λ (o : Option Kept). record w { kept = o }) (sym kept)

        y : WorldState
        y = putting (record w { kept = None }) k.device k.job

        put : (client_handles_all y ≡ w) ⊎ (Handles w (client_handles_all y) × (handling_left (client_handles_all y) < handling_left w))
        put = elim (put_kept w k) [
          | inl again ↦
              let all : y ≡ w = again ∙ same in
              inl (ap client_handles_all all ∙ none_handled (most_messages w.to_client) w k kept)
          | inr gone ↦
              let first = goes_handles w k kept gone in
              let last = client_handles_on (most_messages y.to_client) y in
              inr (handles_then w y (client_handles_all y) first.0 last, omega (arith, first.1, last.handled))
        ]

        when : (b : Bool) → let v : WorldState = if b then client_handles_all (putting (record w { kept = None }) k.device k.job) else w in (v ≡ w) ⊎ (Handles w v × (handling_left v < handling_left w))
        when true = put
        when false = inl refl
