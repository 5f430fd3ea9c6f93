-- What a call of a front leaves as it is: a channel begins by `Begin` alone, and none but a call for messages hands any out.
use Rattle.std.proofs.Common.{◌≡◌, ◌⊎◌, ◌∙◌, refl, sym, ap, inl, inr, ℕ, zero, suc, ◌==◌, Bool, true, false, List, [], ◌∷◌, length, Option, Some, None, eqb-true}
use Rattle.std.specs.Prelude.{◌&&◌, not, nat_lt, Result, Ok, Err}
use Rattle.std.specs.declared.alloc.AllocError.{AllocError}
use Rattle.std.specs.Map.{lookup}
use Rattle.std.specs.Option.{option_map_or}
use Rattle.std.specs.Ordering.{nat_cmp}
use Rattle.std.specs.BTreeMap.{is_at}
use Rattle.rd_base.specs.declared.status.Status.{Status}
use Rattle.rd_client.specs.Core as client
use Rattle.rd_client.specs.Core.{ClientCall, ClientDevice, Outgoing}
use Rattle.rd_client.specs.declared.heard.Heard.{Heard}
use Rattle.rd_client.specs.declared.heard.Heard.TheVariants.{Nothing, Ask, Print}
use Rattle.rd_desk.specs.declared.calls.DeskCall.{DeskCall}
use Rattle.rd_desk.specs.declared.calls.DeskReply.{DeskReply}
use Rattle.rd_desk.specs.declared.calls.DeskReply.TheVariants as replied
use Rattle.rd_drive.specs.declared.plan.Job.{Job}
use Rattle.rd_front.specs.Front.{AddsBy, AddsIf, Announces, AnnouncesOne, AnnouncesUnless, AnswersDirectly, BeginsIf, ChannelEnds, ClientDoes, Collects, CutsAt, DeskDoes, Each, Fills, FillsBy, FollowsFrom, FrontAdds, FrontBegins, FrontHears, FrontRemoves, FrontRetries, FrontStep, GivesBy, GivesNext, Hands, HeardBy, OpeningEnds, PutBy, Puts, PutsIf, RefreshesOne, Refreshes, RefusedPut, RemovesBy, SessionEnds, Then, Where, desk_place, done_at, done_if, done_where, is_front_full, is_front_ready, may_add, may_begin, may_hear, may_remove, none_for, with_new_data}
use Rattle.rd_room.specs.Room.{MessageRoom}
use Rattle.rd_front.specs.State.{FrontState}
use Rattle.rd_front.specs.declared.calls.FrontCall.{FrontCall}
use Rattle.rd_front.specs.declared.calls.FrontCall.TheVariants as call
use Rattle.rd_front.specs.declared.calls.FrontReply.{FrontReply}
use Rattle.rd_front.specs.declared.calls.FrontReply.TheVariants as reply
use Rattle.rd_front.specs.declared.calls.Rest.{Rest}
use Rattle.rd_front.specs.declared.next.Got.{Got}
use Rattle.rd_front.specs.declared.next.Got.TheVariants as got
use Rattle.rd_hello.specs.declared.end_fault.EndFault.{EndFault}
use Rattle.rd_hello.specs.declared.end_fault.EndFault.TheVariants as fault
use Rattle.rd_station.specs.declared.refusals.PutWhy.{PutWhy}
use Rattle.rd_station.specs.declared.refusals.PutWhy.TheVariants as why
use Rattle.rd_declared.specs.Devices.{PrinterNames, printer_data}
use Rattle.rd_world.specs.World.{Kept}
use Rattle.rd_workers.specs.Logs.{asks_any}

-- whether a reply hands out messages
abbrev pub is_messages : FrontReply → Bool
is_messages (reply.Messages filled left) = true
is_messages _ = false

-- the channel that began last, after a call
abbrev pub begun_to : ℕ → FrontCall → FrontReply → ℕ
begun_to now (call.Begin channel) (reply.Done at full) = channel
begun_to now does back = now

-- No channel began, and no messages were handed out.
record IsStill (old : FrontState) (back : FrontReply) (new : FrontState) : Type 0 where
  channel : new.channel ≡ old.channel
  silent : is_messages back ≡ false

-- ---- the parts of a call

refused : (old : FrontState) (back other : FrontReply) (new : FrontState) → is_messages other ≡ false → (back ≡ other) × (new ≡ old) → IsStill old back new
refused old back other new silent did = record { channel = ap (λ (s : FrontState). s.channel) did.1; silent = ap is_messages did.0 ∙ silent }

later : (old mid : FrontState) (back : FrontReply) (new : FrontState) → mid.channel ≡ old.channel → IsStill mid back new → IsStill old back new
later old mid back new same is = record { channel = is.channel ∙ same; silent = is.silent }

where_still : (b : Bool) (other back : FrontReply) (old new : FrontState) (does : Type 0) → is_messages other ≡ false → (does → IsStill old back new) → Where b other back old new does → IsStill old back new
where_still true other back old new does silent on did = on did
where_still false other back old new does silent on did = refused old back other new silent did

unless_full : (fits : Bool) (old : FrontState) (back : FrontReply) (new : FrontState) (does : Type 0) → (does → IsStill old back new)
    → Where fits reply.Refused back old new (Where (not (is_front_full old)) reply.Full back old new does) → IsStill old back new
unless_full fits old back new does on did = where_still fits reply.Refused back old new _ refl (where_still (not (is_front_full old)) reply.Full back old new does refl on) did

client_same : (old : FrontState) (does : ClientCall) (more : ℕ) (new : FrontState) → ClientDoes old does more new → new.channel ≡ old.channel
client_same old does more new did = ap (λ (s : FrontState). s.channel) did.1

desk_same : (old : FrontState) (place : ℕ) (does : DeskCall) (back : DeskReply) (new : FrontState) → DeskDoes old place does back new → new.channel ≡ old.channel
desk_same old place does back new did = ap (λ (s : FrontState). s.channel) did.put_back

silent_if : (answer : Result (Unit {0}) AllocError) (s : FrontState) → is_messages (done_if answer s) ≡ false
silent_if (Ok done) s = refl
silent_if (Err error) s = refl

silent_where : (found : Bool) (s : FrontState) → is_messages (done_where found s) ≡ false
silent_where true s = refl
silent_where false s = refl

answers : (old : FrontState) (device : ℕ) (job : Job) (st : Status) (back : FrontReply) (new : FrontState) → AnswersDirectly old device job st back new → IsStill old back new
answers old device job st back new did = record { channel = ap (λ (s : FrontState). s.channel) (did.1).1; silent = ap is_messages did.2 ∙ silent_if did.0 new }

refused_put : (old : FrontState) (device : ℕ) (job : Job) (cause : PutWhy) (back : FrontReply) (new : FrontState) → RefusedPut old device job cause back new → IsStill old back new
refused_put old device job why.Gone back new did = answers old device job _ back new did
refused_put old device job (why.Duplicate key) back new did = record { channel = ap (λ (s : FrontState). s.channel) (did.1).1; silent = ap is_messages did.0 }
refused_put old device job (why.Full held) back new did = record { channel = ap (λ (s : FrontState). s.channel) did.1; silent = ap is_messages did.0 }
refused_put old device job (why.Worn count) back new did = answers old device job _ back new did
refused_put old device job why.Memory back new did = refused old back reply.Memory new refl did

put_by : (old : FrontState) (device place : ℕ) (answer : DeskReply) (back : FrontReply) (new : FrontState) → PutBy old device place answer back new → IsStill old back new
put_by old device place (replied.Put (Ok done)) back new did = refused old back (done_at (Some place) old) new refl did
put_by old device place (replied.Put (Err other)) back new did = refused_put old device other.job other.why back new did
put_by old device place (replied.Unfit job) back new did = refused old back reply.Unfit new refl did
put_by old device place (replied.Announced answer) back new did = absurd did
put_by old device place (replied.Worked w) back new did = absurd did
put_by old device place (replied.Collected answer) back new did = absurd did
put_by old device place (replied.Removed answer) back new did = absurd did
put_by old device place replied.Dropped back new did = absurd did
put_by old device place replied.Ended back new did = absurd did

puts_if : (old : FrontState) (device : ℕ) (job : Job) (place : Option ℕ) (back : FrontReply) (new : FrontState) → PutsIf old device job place back new → IsStill old back new
puts_if old device job None back new did = answers old device job _ back new did
puts_if old device job (Some place) back new did = later old did.1 back new (desk_same old place _ did.0 did.1 did.2) (put_by did.1 device place did.0 back new did.3)

put : (old : FrontState) (device : ℕ) (job : Job) (back : FrontReply) (new : FrontState) → Puts old device job back new → IsStill old back new
put old device job back new did = where_still _ reply.Unfit back old new _ refl (puts_if old device job (desk_place old.desks device) back new) did

retries : (old : FrontState) (kept : Option Kept) (back : FrontReply) (new : FrontState) → FrontRetries old kept back new → IsStill old back new
retries old None back new did = refused old back (done_at None old) new refl did
retries old (Some k) back new did = later old (record old { kept = None }) back new refl (put (record old { kept = None }) k.device k.job back new did)

announced_same : (old : FrontState) (place : Option ℕ) (found : Bool) (new : FrontState) → Announces old place found new → new.channel ≡ old.channel
announced_same old None found new did = ap (λ (s : FrontState). s.channel) did.1
announced_same old (Some place) found new did = desk_same old place _ did.0 new did.1

unless_same : (removed : Bool) (old : FrontState) (device : ℕ) (found : Bool) (new : FrontState) → AnnouncesUnless removed old device found new → new.channel ≡ old.channel
unless_same true old device found new did = ap (λ (s : FrontState). s.channel) did.1
unless_same false old device found new did = announced_same old (desk_place old.desks device) found new did

then_same : (went found : Bool) (old new : FrontState) (does : Type 0) → (does → new.channel ≡ old.channel) → Then went found old new does → new.channel ≡ old.channel
then_same true found old new does on did = on did
then_same false found old new does on did = ap (λ (s : FrontState). s.channel) did.1

each_same : {A : Type 0} (does : A → FrontState → Bool → FrontState → Type 0) → ((x : A) (old : FrontState) (found : Bool) (new : FrontState) → does x old found new → new.channel ≡ old.channel)
    → (xs : List A) (old : FrontState) (found : Bool) (new : FrontState) → Each does xs old found new → new.channel ≡ old.channel
each_same does one [] old found new did = ap (λ (s : FrontState). s.channel) did.1
each_same does one (x ∷ xs) old found new did = then_same did.0 found did.1 new _ (each_same does one xs did.1 found new) did.3 ∙ one x old did.0 did.1 did.2

opens : (opening : Bool) (old : FrontState) (back : FrontReply) (new : FrontState) → OpeningEnds opening old back new → IsStill old back new
opens true old back new did = record {
  channel = each_same AnnouncesOne (λ d a found b one. unless_same d.removed a (d.announce).id found b one) (old.client).devices old did.0 new did.1;
  silent = ap is_messages did.2 ∙ silent_where did.0 new;
}
opens false old back new did = refused old back (done_at None old) new refl did

follows : (ready : Bool) (old : FrontState) (heard : Heard) (back : FrontReply) (new : FrontState) → HeardBy ready old heard back new → IsStill old back new
follows ready old Nothing back new did = opens (not ready && is_front_ready old) old back new did
follows ready old (Ask device job) back new did = put old device job back new did
follows ready old (Print n) back new did = record { channel = ap (λ (s : FrontState). s.channel) did.2; silent = ap is_messages did.3 ∙ silent_if did.0 new }

follows_from : (ready : Bool) (old : FrontState) (answer : Result Heard EndFault) (back : FrontReply) (new : FrontState) → FollowsFrom ready old answer back new → IsStill old back new
follows_from ready old (Err fault.Memory) back new did = refused old back reply.Memory new refl did
follows_from ready old (Err (fault.Order state packet)) back new did = refused old back (reply.Wrong (fault.Order state packet)) new refl did
follows_from ready old (Err (fault.Grammar bad)) back new did = refused old back (reply.Wrong (fault.Grammar bad)) new refl did
follows_from ready old (Ok heard) back new did = follows ready old heard back new did

hears_still : (old : FrontState) (message : List ℕ) (back : FrontReply) (new : FrontState) → FrontHears old message back new → IsStill old back new
hears_still old message back new did = later old did.1 back new (ap (λ (s : FrontState). s.channel) (did.2).1) (follows_from (is_front_ready old) did.1 did.0 back new did.3)

cuts_same : (old : FrontState) (place : Option ℕ) (new : FrontState) → CutsAt old place new → new.channel ≡ old.channel
cuts_same old None new did = ap (λ (s : FrontState). s.channel) did
cuts_same old (Some place) new did = desk_same old place _ did.0 new did.1

removes : (old : FrontState) (device : ℕ) (answer : Result (Unit {0}) AllocError) (back : FrontReply) (new : FrontState) → RemovesBy old device answer back new → IsStill old back new
removes old device (Ok done) back new did = record { channel = cuts_same old (desk_place old.desks device) new did.1; silent = ap is_messages did.0 }
removes old device (Err error) back new did = refused old back reply.Memory new refl did

removes_still : (old : FrontState) (device : ℕ) (back : FrontReply) (new : FrontState) → FrontRemoves old device back new → IsStill old back new
removes_still old device back new did = later old did.1 back new (ap (λ (s : FrontState). s.channel) (did.2).1) (removes did.1 device did.0 back new did.3)

pub refreshed_same : (s : FrontState) (device : ℕ) → (with_new_data s device).channel ≡ s.channel
refreshed_same s device = by (lookup (is_at (nat_cmp device)) s.printers)
  where
    by : (o : Option PrinterNames) → (option_map_or (λ (names : PrinterNames). record s { client = client.refresh s.client device (printer_data s.cache names) }) o s).channel ≡ s.channel
    by None = refl
    by (Some names) = refl

refreshes_same : (old : FrontState) (device : ℕ) (found : Bool) (new : FrontState) → Refreshes old device found new → new.channel ≡ old.channel
refreshes_same old device true new did = ap (λ (s : FrontState). s.channel) did ∙ refreshed_same old device
refreshes_same old device false new did = ap (λ (s : FrontState). s.channel) did

adds : (old : FrontState) (device : ℕ) (answer : Result (Unit {0}) AllocError) (back : FrontReply) (new : FrontState) → AddsBy old device answer back new → IsStill old back new
adds old device (Ok done) back new did = record { channel = announced_same old (desk_place old.desks device) did.0 new did.1; silent = ap is_messages did.2 ∙ silent_where did.0 new }
adds old device (Err error) back new did = refused old back reply.Memory new refl did

adds_if : (found : Bool) (old : FrontState) (device : ℕ) (back : FrontReply) (new : FrontState) → AddsIf found old device back new → IsStill old back new
adds_if true old device back new did = later old did.1 back new (ap (λ (s : FrontState). s.channel) (did.2).1) (adds did.1 device did.0 back new did.3)
adds_if false old device back new did = refused old back reply.Memory new refl did

adds_still : (old : FrontState) (device : ℕ) (back : FrontReply) (new : FrontState) → FrontAdds old device back new → IsStill old back new
adds_still old device back new did = later old did.1 back new (refreshes_same old device did.0 did.1 did.2) (adds_if did.0 did.1 device back new did.3)

ends_still : (old : FrontState) (back : FrontReply) (new : FrontState) → (back ≡ done_at None new) × ChannelEnds old new → IsStill old back new
ends_still old back new did = record { channel = ap (λ (s : FrontState). s.channel) (did.1).1; silent = ap is_messages did.0 }

over_still : (old : FrontState) (back : FrontReply) (new : FrontState) → (back ≡ done_at None new) × SessionEnds old new → IsStill old back new
over_still old back new did = record { channel = ap (λ (s : FrontState). s.channel) (did.1).1; silent = ap is_messages did.0 }

-- ---- calls for messages

collects_same : (there : Bool) (old : FrontState) (place : ℕ) (came : Got) (new : FrontState) → Collects there old place came new → new.channel ≡ old.channel
collects_same true old place came new did = desk_same old place _ did.0 new did.3
collects_same false old place came new did = ap (λ (s : FrontState). s.channel) did.1

gives_by : (old : FrontState) (place : ℕ) (sent : Option Outgoing) (came : Got) (new : FrontState) → GivesBy old place sent came new → new.channel ≡ old.channel
gives_by old place (Some o) came new did = ap (λ (s : FrontState). s.channel) did.1
gives_by old place None came new did = collects_same (nat_lt place (length old.desks)) old place came new did

gives_same : (old : FrontState) (place : ℕ) (came : Got) (new : FrontState) → GivesNext old place came new → new.channel ≡ old.channel
gives_same old place came new did = gives_by did.1 place did.0 came new did.3 ∙ ap (λ (s : FrontState). s.channel) (did.2).1

fills_by : (came : Got) (old : FrontState) (messages : List (List ℕ)) (left : Rest) (new : FrontState) (others : List (List ℕ) → Type 0)
    → ((more : List (List ℕ)) → others more → new.channel ≡ old.channel) → FillsBy came old messages left new others → new.channel ≡ old.channel
fills_by (got.Message message) old messages left new others on did = on did.0 did.2
fills_by got.Nothing old messages left new others on did = ap (λ (s : FrontState). s.channel) did.2
fills_by got.Memory old messages left new others on did = ap (λ (s : FrontState). s.channel) did.2

fills_same : (most : ℕ) (old : FrontState) (place : ℕ) (messages : List (List ℕ)) (left : Rest) (new : FrontState) → Fills most old place messages left new → new.channel ≡ old.channel
fills_same zero old place messages left new did = ap (λ (s : FrontState). s.channel) did.2
fills_same (suc most) old place messages left new did =
    fills_by did.0 did.1 messages left new (λ more. Fills most did.1 place more left new) (λ more. fills_same most did.1 place more left new) did.3 ∙ gives_same old place did.0 did.1 did.2

hands_same : (old : FrontState) (place : ℕ) (room : MessageRoom) (back : FrontReply) (new : FrontState) → Hands old place room back new → (new.channel ≡ old.channel) × (is_messages back ≡ true)
hands_same old place room (reply.Messages filled left) new did = (fills_same room.places old place filled.messages left new did.1, refl)
hands_same old place room (reply.Done at full) new did = absurd did
hands_same old place room (reply.Stands ready asked) new did = absurd did
hands_same old place room reply.Kept new did = absurd did
hands_same old place room (reply.Wrong cause) new did = absurd did
hands_same old place room (reply.Duplicate key) new did = absurd did
hands_same old place room reply.Unfit new did = absurd did
hands_same old place room reply.Memory new did = absurd did
hands_same old place room reply.Full new did = absurd did
hands_same old place room reply.Refused new did = absurd did

-- What a call for messages tells: the channel stays, messages are handed out, and none where another channel began last.
pub record NextSays (old : FrontState) (channel : ℕ) (room : MessageRoom) (back : FrontReply) (new : FrontState) : Type 0 where
  pub same : new.channel ≡ old.channel
  pub gives : is_messages back ≡ true
  pub here : (channel ≡ old.channel) ⊎ (back ≡ none_for room)

pub next_says : (old : FrontState) (channel place : ℕ) (room : MessageRoom) (back : FrontReply) (new : FrontState) → FrontStep old (call.Next channel place room) back new → NextSays old channel room back new
next_says old channel place room back new did = by (channel == old.channel) refl did
  where
    by : (b : Bool) → (channel == old.channel) ≡ b → Where b (none_for room) back old new (Hands old place room back new) → NextSays old channel room back new
    by true e does = let is = hands_same old place room back new does in record { same = is.0; gives = is.1; here = inl (eqb-true channel old.channel e) }
    by false e does = record { same = ap (λ (s : FrontState). s.channel) does.1; gives = ap is_messages does.0; here = inr does.0 }

-- ---- a channel begins

-- What a call by which a channel is to begin tells.
record BeginSays (old : FrontState) (channel : ℕ) (back : FrontReply) (new : FrontState) : Type 0 where
  now : new.channel ≡ begun_to old.channel (call.Begin channel) back
  silent : is_messages back ≡ false

begin_not : (old : FrontState) (channel : ℕ) (back other : FrontReply) (new : FrontState) → begun_to old.channel (call.Begin channel) other ≡ old.channel → is_messages other ≡ false → back ≡ other → new.channel ≡ old.channel → BeginSays old channel back new
begin_not old channel back other new stays silent is same = record { now = same ∙ sym stays ∙ sym (ap (begun_to old.channel (call.Begin channel)) is); silent = ap is_messages is ∙ silent }

begins_says : (old : FrontState) (channel : ℕ) (back : FrontReply) (new : FrontState) → FrontBegins old channel back new → BeginSays old channel back new
begins_says old channel back new did = by did.0 did.3
  where
    first : (did.1).channel ≡ old.channel
    first = each_same RefreshesOne (λ p a found b one. refreshes_same a p.0 found b one) old.printers old did.0 did.1 did.2

    by : (found : Bool) → BeginsIf found did.1 channel back new → BeginSays old channel back new
    by true is = record { now = ap (λ (s : FrontState). s.channel) is.1 ∙ sym (ap (begun_to old.channel (call.Begin channel)) is.0); silent = ap is_messages is.0 }
    by false is = begin_not old channel back reply.Memory new refl refl is.0 (ap (λ (s : FrontState). s.channel) is.1 ∙ first)

begin_says : (old : FrontState) (channel : ℕ) (back : FrontReply) (new : FrontState) → FrontStep old (call.Begin channel) back new → BeginSays old channel back new
begin_says old channel back new did = by (may_begin old channel) did
  where
    by : (b : Bool) → Where b reply.Refused back old new (FrontBegins old channel back new) → BeginSays old channel back new
    by true does = begins_says old channel back new does
    by false does = begin_not old channel back reply.Refused new refl refl does.0 (ap (λ (s : FrontState). s.channel) does.1)

-- ---- any call

hear_call : (old : FrontState) (message : List ℕ) (back : FrontReply) (new : FrontState) → FrontStep old (call.Hear message) back new → IsStill old back new
hear_call old message back new did = unless_full (may_hear old) old back new _ (hears_still old message back new) did

retry_call : (old : FrontState) (back : FrontReply) (new : FrontState) → FrontStep old call.Retry back new → IsStill old back new
retry_call old back new did = unless_full old.on old back new _ (retries old old.kept back new) did

remove_call : (old : FrontState) (device : ℕ) (back : FrontReply) (new : FrontState) → FrontStep old (call.Remove device) back new → IsStill old back new
remove_call old device back new did = unless_full (may_remove old device) old back new _ (removes_still old device back new) did

add_call : (old : FrontState) (device : ℕ) (back : FrontReply) (new : FrontState) → FrontStep old (call.Add device) back new → IsStill old back new
add_call old device back new did = unless_full (may_add old device) old back new _ (adds_still old device back new) did

end_call : (old : FrontState) (back : FrontReply) (new : FrontState) → FrontStep old call.EndChannel back new → IsStill old back new
end_call old back new did = where_still old.on reply.Refused back old new _ refl (ends_still old back new) did

over_call : (old : FrontState) (back : FrontReply) (new : FrontState) → FrontStep old call.EndSession back new → IsStill old back new
over_call old back new did = where_still (not old.over) reply.Refused back old new _ refl (over_still old back new) did

-- The channel that began last after a call is told by it.
pub tracks : (old : FrontState) (does : FrontCall) (back : FrontReply) (new : FrontState) → FrontStep old does back new → new.channel ≡ begun_to old.channel does back
tracks old (call.Begin channel) back new did = (begin_says old channel back new did).now
tracks old (call.Hear message) back new did = (hear_call old message back new did).channel
tracks old call.Retry back new did = (retry_call old back new did).channel
tracks old (call.Next channel place room) back new did = (next_says old channel place room back new did).same
tracks old (call.Remove device) back new did = (remove_call old device back new did).channel
tracks old (call.Add device) back new did = (add_call old device back new did).channel
tracks old call.Look back new did = ap (λ (s : FrontState). s.channel) did.1
tracks old call.EndChannel back new did = (end_call old back new did).channel
tracks old call.EndSession back new did = (over_call old back new did).channel

-- A call that asks for no messages hands none out.
pub silent : (old : FrontState) (does : FrontCall) (back : FrontReply) (new : FrontState) → FrontStep old does back new → asks_any does ≡ false → is_messages back ≡ false
silent old (call.Begin channel) back new did none = (begin_says old channel back new did).silent
silent old (call.Hear message) back new did none = (hear_call old message back new did).silent
silent old call.Retry back new did none = (retry_call old back new did).silent
silent old (call.Next channel place room) back new did none = absurd (cc (none))
silent old (call.Remove device) back new did none = (remove_call old device back new did).silent
silent old (call.Add device) back new did none = (add_call old device back new did).silent
silent old call.Look back new did none = ap is_messages did.0
silent old call.EndChannel back new did none = (end_call old back new did).silent
silent old call.EndSession back new did none = (over_call old back new did).silent

-- after the session's end the front says so
pub ends_over : (old : FrontState) (back : FrontReply) (new : FrontState) → FrontStep old call.EndSession back new → new.over ≡ true
ends_over old back new did = by old.over refl did
  where
    by : (b : Bool) → old.over ≡ b → Where (not b) reply.Refused back old new ((back ≡ done_at None new) × SessionEnds old new) → new.over ≡ true
    by true e does = ap (λ (s : FrontState). s.over) does.1 ∙ e
    by false e does = ap (λ (s : FrontState). s.over) ((does.1).1)
