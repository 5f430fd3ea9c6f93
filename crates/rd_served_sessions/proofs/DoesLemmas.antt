-- What the lines of a script do: a call by which one acts is done just where its device is there, or was removed.
use Rattle.std.proofs.Common.{◌≡◌, ◌∙◌, ◌≤◌, refl, sym, ap, subst, inl, inr, ℕ, zero, suc, ◌==◌, ◌&&◌, ◌||◌, Bool, true, false, not, List, [], ◌∷◌, ◌++◌, length, map, reverse, Option, Some, None, append_assoc, arith, eq-eqb, eqb-true, ne_eqb}
use Rattle.std.specs.Prelude.{Result, Ok, Err, filter_map, if◌then◌else◌, nat_lt}
use Rattle.std.specs.declared.alloc.AllocError.{AllocError}
use Rattle.std.specs.List.{AllByRecursion, cons_option, list_any}
use Rattle.std.specs.Option.{option_and_then}
use Rattle.rd_base.specs.declared.journal.Key.{Key}
use Rattle.rd_client.specs.Core as client
use Rattle.rd_client.specs.Core.{ClientCoreState, ClientDevice, Outgoing, announces, has_device, is_device, is_gone}
use Rattle.rd_client.specs.Events.{without_data}
use Rattle.rd_client.specs.Order.{is_client_ready}
use Rattle.rd_desk.specs.declared.calls.DeskCall.{DeskCall}
use Rattle.rd_desk.specs.declared.calls.DeskReply.{DeskReply}
use Rattle.rd_devices.specs.declared.list.Announce.{Announce}
use Rattle.rd_front.specs.Calls.{FrontEntry}
use Rattle.rd_front.specs.Front.{AddsBy, AddsIf, Announces, Collects, CutsAt, DeskDoes, Fills, FillsBy, FrontAdds, FrontRemoves, FrontStep, GivesBy, GivesNext, Hands, Refreshes, RemovesBy, Where, desk_place, done_where, is_front_full, is_front_ready, may_add, may_remove, none_for, standing_of}
use Rattle.rd_room.specs.Room.{MessageRoom}
use Rattle.rd_front.specs.State.{FrontState}
use Rattle.rd_front.specs.declared.calls.FrontCall.{FrontCall}
use Rattle.rd_front.specs.declared.calls.FrontCall.TheVariants as call
use Rattle.rd_front.specs.declared.calls.FrontReply.{FrontReply}
use Rattle.rd_front.specs.declared.calls.FrontReply.TheVariants as reply
use Rattle.rd_front.specs.declared.calls.Rest.{Rest}
use Rattle.rd_front.specs.declared.next.Got.{Got}
use Rattle.rd_front.specs.declared.next.Got.TheVariants as got
use Rattle.rd_hello.specs.declared.end_fault.EndFault.TheVariants as fault
use Rattle.rd_world.specs.Control.{Act, added, is_among, removed}
use Rattle.rd_deeds.specs.Talk.{Deed, is_removed}
use Rattle.rd_workers.specs.Channels.{AllGoByLines, ChannelRun, GoesByThem, IsChannelRun, calls_by_all}
use Rattle.rd_workers.specs.Lines.{IsCallFor, LinesGo, LinesStand, LinesStep, at_lines, due_now, first_due, having_acted, left_from, lines_stand, was_full}
use Rattle.rd_workers.specs.Logs.{asks_any, reader_calls}
use Rattle.rd_served_causes.proofs.ServedKeyLemmas.{both_true, did_calm, refreshed_calm, sent_calm}
use Rattle.rd_served_causes.proofs.ServedStandingLemmas.{IsKnownAt, parts_known, refreshed_more}
use Rattle.rd_served_causes.specs.ServedDeeds.{deeds_after, deeds_of, sent_by}
use Rattle.rd_served_causes.specs.ServedHistories.{Among, CallGoes, HistoryGoes}
use Rattle.rd_served_causes.specs.ServedParts.{FrontPart, PartGoes, PartsGo, act_told, begins, begun_by, calls, directs, ends, forgets, hears, keeps, learns, misplaces, refreshes, sends, tells_gone, tells_there, tries, unwritten, writes}
use Rattle.rd_served_causes.specs.ServedServed.{Served}
use Rattle.rd_served_causes.proofs.ServedOrderOwnLemmas.{IsOwn, MarksAre, each_keeps, part_own, stored_keeps}
use Rattle.rd_served_causes.specs.ServedOrderOrders.{is_gone_until, none_until, until_after, until_by, until_calls}
use Rattle.rd_workers.proofs.RunLemmas.{DoesSurely}
use Rattle.rd_served_sessions.proofs.ActLemmas.{asked_undone, told_done}
use Rattle.rd_served_sessions.proofs.ChainLemmas.{part_rises, parts_rise}
use Rattle.rd_served_sessions.proofs.StillLemmas.{tracks}
use Rattle.rd_served_sessions.specs.Acts.{RunsDo, act_done, acts_done, gone_after, gone_by, line_acting, line_does, lines_acting, lines_do, none_gone}
use Rattle.rd_served_sessions.specs.Steps.{AreSteps}

-- ---- a channel stays open, and its client ready

-- The same channel is on, and its client as ready as before.
pub record IsAsOpen (old new : FrontState) : Type 0 where
  pub on : new.on ≡ old.on
  pub ready : is_front_ready new ≡ is_front_ready old

as_open : (s : FrontState) → IsAsOpen s s
as_open s = record { on = refl; ready = refl }

open_same : (old new : FrontState) → new ≡ old → IsAsOpen old new
open_same old new is = record { on = ap (λ (s : FrontState). s.on) is; ready = ap is_front_ready is }

open_then : (old mid new : FrontState) → IsAsOpen old mid → IsAsOpen mid new → IsAsOpen old new
open_then old mid new first second = record { on = second.on ∙ first.on; ready = second.ready ∙ first.ready }

desk_open : (old : FrontState) (place : ℕ) (does : DeskCall) (back : DeskReply) (new : FrontState) → DeskDoes old place does back new → IsAsOpen old new
desk_open old place does back new did = record { on = ap (λ (s : FrontState). s.on) did.put_back; ready = ap is_front_ready did.put_back }

client_open : (old new : FrontState) (unsent : ℕ) → new ≡ record old { client = new.client; unsent = unsent } → ((new.client).core).shake ≡ ((old.client).core).shake → IsAsOpen old new
client_open old new unsent is shake = record { on = ap (λ (s : FrontState). s.on) is; ready = ap is_client_ready shake }

pub where_open : (b : Bool) (other back : FrontReply) (old new : FrontState) (does : Type 0) → (does → IsAsOpen old new) → Where b other back old new does → IsAsOpen old new
where_open true other back old new does on did = on did
where_open false other back old new does on did = open_same old new did.1

pub unless_full : (fits : Bool) (old : FrontState) (back : FrontReply) (new : FrontState) (does : Type 0) → (does → IsAsOpen old new) → Where fits reply.Refused back old new (Where (not (is_front_full old)) reply.Full back old new does) → IsAsOpen old new
unless_full fits old back new does on did = where_open fits reply.Refused back old new _ (where_open (not (is_front_full old)) reply.Full back old new does on) did

cuts_open : (old : FrontState) (place : Option ℕ) (new : FrontState) → CutsAt old place new → IsAsOpen old new
cuts_open old None new did = open_same old new did
cuts_open old (Some place) new did = desk_open old place _ did.0 new did.1

announces_open : (old : FrontState) (place : Option ℕ) (found : Bool) (new : FrontState) → Announces old place found new → IsAsOpen old new
announces_open old None found new did = open_same old new did.1
announces_open old (Some place) found new did = desk_open old place _ did.0 new did.1

pub removes_open : (old : FrontState) (device : ℕ) (back : FrontReply) (new : FrontState) → FrontRemoves old device back new → IsAsOpen old new
removes_open old device back new did =
    open_then old did.1 new
    (client_open old did.1 _ (did.2).1 (did_calm did.0 (client.tell_removed old.client device) old.client (did.1).client ((did.2).0).1 refl refl refl).2) (by did.0 did.3)
  where
    by : (answer : Result (Unit {0}) AllocError) → RemovesBy did.1 device answer back new → IsAsOpen did.1 new
    by (Ok done) so = cuts_open did.1 (desk_place (did.1).desks device) new so.1
    by (Err error) so = open_same did.1 new so.1

refreshes_open : (old : FrontState) (device : ℕ) (found : Bool) (new : FrontState) → Refreshes old device found new → IsAsOpen old new
refreshes_open old device true new did = record { on = ap (λ (s : FrontState). s.on) did ∙ (refreshed_calm old device).0.on; ready = ap is_front_ready did ∙ ap (λ c. is_client_ready c.shake) (refreshed_more old device).1 }
refreshes_open old device false new did = open_same old new did

pub adds_open : (old : FrontState) (device : ℕ) (back : FrontReply) (new : FrontState) → FrontAdds old device back new → IsAsOpen old new
adds_open old device back new did = open_then old did.1 new (refreshes_open old device did.0 did.1 did.2) (by did.0 did.3)
  where
    told : (mid : FrontState) (answer : Result (Unit {0}) AllocError) → AddsBy mid device answer back new → IsAsOpen mid new
    told mid (Ok done) so = announces_open mid (desk_place mid.desks device) so.0 new so.1
    told mid (Err error) so = open_same mid new so.1

    by : (found : Bool) → AddsIf found did.1 device back new → IsAsOpen did.1 new
    by true so =
        open_then did.1 so.1 new (client_open did.1 so.1 _ (so.2).1 (did_calm so.0 (client.tell_added (did.1).client device) (did.1).client (so.1).client ((so.2).0).1 refl refl refl).2) (told so.1 so.0 so.3)
    by false so = open_same did.1 new so.1

collects_open : (there : Bool) (old : FrontState) (place : ℕ) (came : Got) (new : FrontState) → Collects there old place came new → IsAsOpen old new
collects_open true old place came new did = desk_open old place _ did.0 new did.3
collects_open false old place came new did = open_same old new did.1

gives_open : (old : FrontState) (place : ℕ) (came : Got) (new : FrontState) → GivesNext old place came new → IsAsOpen old new
gives_open old place came new did =
    open_then old did.1 new (client_open old did.1 _ (did.2).1 (sent_calm old.client (did.1).client did.0 (did.2).0).2) (by did.0 did.3)
  where
    by : (sent : Option Outgoing) → GivesBy did.1 place sent came new → IsAsOpen did.1 new
    by (Some o) so = open_same did.1 new so.1
    by None so = collects_open (nat_lt place (length (did.1).desks)) did.1 place came new so

fills_open : (most : ℕ) (old : FrontState) (place : ℕ) (messages : List (List ℕ)) (left : Rest) (new : FrontState) → Fills most old place messages left new → IsAsOpen old new
fills_open zero old place messages left new did = open_same old new did.2
fills_open (suc most) old place messages left new did = open_then old did.1 new (gives_open old place did.0 did.1 did.2) (by (λ more. fills_open most did.1 place more left new) did.0 did.3)
  where
    by : ((more : List (List ℕ)) → Fills most did.1 place more left new → IsAsOpen did.1 new) → (came : Got) → FillsBy came did.1 messages left new (λ more. Fills most did.1 place more left new) → IsAsOpen did.1 new
    by others (got.Message message) so = others so.0 so.2
    by others got.Nothing so = open_same did.1 new so.2
    by others got.Memory so = open_same did.1 new so.2

pub hands_open : (old : FrontState) (place : ℕ) (room : MessageRoom) (back : FrontReply) (new : FrontState) → Hands old place room back new → IsAsOpen old new
hands_open old place room (reply.Messages filled left) new did = fills_open room.places old place filled.messages left new did.1
hands_open old place room (reply.Done at full) new did = absurd did
hands_open old place room (reply.Stands ready asked) new did = absurd did
hands_open old place room reply.Kept new did = absurd did
hands_open old place room (reply.Wrong cause) new did = absurd did
hands_open old place room (reply.Duplicate key) new did = absurd did
hands_open old place room reply.Unfit new did = absurd did
hands_open old place room reply.Memory new did = absurd did
hands_open old place room reply.Full new did = absurd did
hands_open old place room reply.Refused new did = absurd did

-- ---- how far the channel was when it was looked up last

abbrev looked : Option ℕ → FrontCall → FrontReply → Option ℕ
looked was call.Look (reply.Stands ready asked) = if ready then Some asked else None
looked was call.Look back = was
looked was (call.Remove device) back = was
looked was (call.Add device) back = was
looked was (call.Next channel place room) back = was
looked was does back = None

-- a line acts only where it was looked up that the client is ready
abbrev ActsWhere : Option ℕ → FrontCall → Type 0
ActsWhere was (call.Remove device) = was ≡ None → ⊥
ActsWhere was (call.Add device) = was ≡ None → ⊥
ActsWhere was does = Unit {0}

abbrev pub ActLooked : Option ℕ → List FrontEntry → Type 0
ActLooked was [] = Unit {0}
ActLooked was (e ∷ entries) = ActsWhere was e.call × ActLooked (looked was e.call e.reply) entries

due_looked : (channel : ℕ) (s : LinesStand) (does : FrontCall) → IsCallFor (due_now channel s) does → s.asked ≡ None → ⊥
due_looked channel s does is none = subst (λ (o : Option ℕ). IsCallFor (option_and_then (λ requests. first_due channel requests (left_from channel s)) o) does) none is

line_looked : (channel : ℕ) (old new : LinesStand) (does : FrontCall) (back : FrontReply) → LinesStep channel old does back new → ActsWhere old.asked does × (new.asked ≡ looked old.asked does back)
line_looked channel old new call.Look (reply.Stands ready asked) step = (tt, ap (λ (s : LinesStand). s.asked) step)
line_looked channel old new call.Look (reply.Done at full) step = (tt, ap (λ (s : LinesStand). s.asked) step)
line_looked channel old new call.Look reply.Kept step = (tt, ap (λ (s : LinesStand). s.asked) step)
line_looked channel old new call.Look (reply.Wrong cause) step = (tt, ap (λ (s : LinesStand). s.asked) step)
line_looked channel old new call.Look (reply.Duplicate key) step = (tt, ap (λ (s : LinesStand). s.asked) step)
line_looked channel old new call.Look reply.Unfit step = (tt, ap (λ (s : LinesStand). s.asked) step)
line_looked channel old new call.Look reply.Memory step = (tt, ap (λ (s : LinesStand). s.asked) step)
line_looked channel old new call.Look reply.Full step = (tt, ap (λ (s : LinesStand). s.asked) step)
line_looked channel old new call.Look reply.Refused step = (tt, ap (λ (s : LinesStand). s.asked) step)
line_looked channel old new call.Look (reply.Messages filled left) step = (tt, ap (λ (s : LinesStand). s.asked) step)
line_looked channel old new (call.Remove device) back step = (due_looked channel old (call.Remove device) step.0, acted (was_full back) step.1)
  where
    acted : (b : Bool) → new ≡ (if b then old else having_acted channel old) → new.asked ≡ old.asked
    acted true is = ap (λ (s : LinesStand). s.asked) is
    acted false is = ap (λ (s : LinesStand). s.asked) is
line_looked channel old new (call.Add device) back step = (due_looked channel old (call.Add device) step.0, acted (was_full back) step.1)
  where
    acted : (b : Bool) → new ≡ (if b then old else having_acted channel old) → new.asked ≡ old.asked
    acted true is = ap (λ (s : LinesStand). s.asked) is
    acted false is = ap (λ (s : LinesStand). s.asked) is
line_looked channel old new (call.Hear message) back step = (tt, ap (λ (s : LinesStand). s.asked) step.1)
line_looked channel old new call.Retry back step = (tt, ap (λ (s : LinesStand). s.asked) step.1)
line_looked channel old new (call.Begin other) back step = absurd step
line_looked channel old new (call.Next other place room) back step = absurd step
line_looked channel old new call.EndChannel back step = absurd step
line_looked channel old new call.EndSession back step = absurd step

lines_looked : (channel : ℕ) (old new : LinesStand) (entries later : List FrontEntry) → LinesGo channel old entries new → ((was : Option ℕ) → ActLooked was later) → ActLooked old.asked (entries ++ later)
lines_looked channel old new [] later goes more = more old.asked
lines_looked channel old new (e ∷ entries) later goes more =
    let one = line_looked channel old goes.0 e.call e.reply goes.1 in
    (one.0, subst (λ (o : Option ℕ). ActLooked o (entries ++ later)) one.1 (lines_looked channel goes.0 new entries later goes.2 more))

end_looked : (e : FrontEntry) (later : List FrontEntry) → e.call ≡ call.EndChannel → ActLooked None later → (was : Option ℕ) → ActLooked was (e ∷ later)
end_looked e later is more was = (
  subst (ActsWhere was) (sym is) tt,
  subst (λ (does : FrontCall). ActLooked (looked was does e.reply) later) (sym is) more,
)

-- the script's lines that act at a place of a channel
abbrev pub type_of : {A : Type 0} → A → Type 0
type_of {A} x = A

abbrev pub Lines : Type 0
Lines = type_of (at_lines [])

run_looked : (r : ChannelRun) (lines left : Lines) (later : List FrontEntry) → IsChannelRun r → GoesByThem r.reading lines left → ActLooked None later → (was : Option ℕ) → ActLooked was (r.calls ++ later)
run_looked r lines left later is goes more was =
    let w = is.whole in
    let calls = (r.reading).calls in
    let read : ActLooked None ((calls ++ w.end ∷ []) ++ later) =
    subst (ActLooked None) (sym (append_assoc calls (w.end ∷ []) later)) (lines_looked (r.reading).channel (lines_stand lines) goes.stand calls (w.end ∷ later) goes.goes (end_looked w.end later w.ends more)) in
    subst (λ (es : List FrontEntry). ActLooked was (es ++ later)) (sym w.whole_are) (
      subst (ActsWhere was) (sym (w.begins).0) tt,
      subst (λ (does : FrontCall). ActLooked (looked was does (w.begin).reply) ((calls ++ w.end ∷ []) ++ later)) (sym (w.begins).0) read,
    )

-- lines act on all channels only so
pub runs_looked : (runs : List ChannelRun) (lines left : Lines) (last : FrontEntry) → last.call ≡ call.EndSession → AllByRecursion IsChannelRun runs → AllGoByLines runs lines left → (was : Option ℕ) → ActLooked was (calls_by_all runs ++ last ∷ [])
runs_looked [] lines left last over each go was = (subst (ActsWhere was) (sym over) tt, tt)
runs_looked (r ∷ runs) lines left last over each go was =
    subst (ActLooked was) (sym (append_assoc r.calls (calls_by_all runs) (last ∷ []))) (run_looked r lines go.0 (calls_by_all runs ++ last ∷ []) each.0 go.1 (runs_looked runs go.0 left last over each.1 go.2 None) was)

-- and so of all calls
asked_looked : (was : Option ℕ) (does : FrontCall) (back : FrontReply) → asks_any does ≡ true → ActsWhere was does × (looked was does back ≡ was)
asked_looked was (call.Next channel place room) back asks = (tt, refl)
asked_looked was (call.Begin channel) back asks = absurd (cc (asks))
asked_looked was (call.Hear message) back asks = absurd (cc (asks))
asked_looked was call.Retry back asks = absurd (cc (asks))
asked_looked was (call.Remove device) back asks = absurd (cc (asks))
asked_looked was (call.Add device) back asks = absurd (cc (asks))
asked_looked was call.Look back asks = absurd (cc (asks))
asked_looked was call.EndChannel back asks = absurd (cc (asks))
asked_looked was call.EndSession back asks = absurd (cc (asks))

pub lift_looked : (entries : List FrontEntry) (was : Option ℕ) → ActLooked was (reader_calls entries) → ActLooked was entries
lift_looked [] was is = tt
lift_looked (e ∷ entries) was is = by (lift_looked entries) (asks_any e.call) refl is
  where
    by : ((w : Option ℕ) → ActLooked w (reader_calls entries) → ActLooked w entries) → (b : Bool) → asks_any e.call ≡ b → ActLooked was (if b then reader_calls entries else e ∷ reader_calls entries) → ActLooked was (e ∷ entries)
    by others true asks these = let one = asked_looked was e.call e.reply asks in (one.0, subst (λ (o : Option ℕ). ActLooked o entries) (sym one.1) (others was these))
    by others false asks these = (these.0, others (looked was e.call e.reply) these.1)

-- where it was looked up, a channel is on and its client ready
abbrev IsLooked : FrontState → Option ℕ → Type 0
IsLooked s was = (was ≡ None → ⊥) → (s.on ≡ true) × (is_front_ready s ≡ true)

kept_looked : (old new : FrontState) (was : Option ℕ) → IsAsOpen old new → IsLooked old was → IsLooked new was
kept_looked old new was same is some = let both = is some in (same.on ∙ both.0, same.ready ∙ both.1)

none_looked : (s : FrontState) → IsLooked s None
none_looked s some = absurd (some refl)

look_looked : (old new : FrontState) (was : Option ℕ) (back : FrontReply) → back ≡ standing_of old → new ≡ old → IsLooked new (looked was call.Look back)
look_looked old new was back is same = subst (λ (r : FrontReply). IsLooked new (looked was call.Look r)) (sym is) (by (old.on && is_front_ready old) refl)
  where
    by : (b : Bool) → (old.on && is_front_ready old) ≡ b → IsLooked new (if b then Some (old.client).asked else None)
    by true e some = let both = both_true old.on (is_front_ready old) e in (ap (λ (s : FrontState). s.on) same ∙ both.0, ap is_front_ready same ∙ both.1)
    by false e some = absurd (some refl)

step_looked : (old new : FrontState) (was : Option ℕ) (does : FrontCall) (back : FrontReply) → FrontStep old does back new → IsLooked old was → IsLooked new (looked was does back)
step_looked old new was call.Look back step is = look_looked old new was back step.0 step.1
step_looked old new was (call.Remove device) back step is = kept_looked old new was (unless_full (may_remove old device) old back new _ (removes_open old device back new) step) is
step_looked old new was (call.Add device) back step is = kept_looked old new was (unless_full (may_add old device) old back new _ (adds_open old device back new) step) is
step_looked old new was (call.Next channel place room) back step is = kept_looked old new was (where_open (channel == old.channel) (none_for room) back old new _ (hands_open old place room back new) step) is
step_looked old new was (call.Begin channel) back step is = none_looked new
step_looked old new was (call.Hear message) back step is = none_looked new
step_looked old new was call.Retry back step is = none_looked new
step_looked old new was call.EndChannel back step is = none_looked new
step_looked old new was call.EndSession back step is = none_looked new

-- ---- what marks say

ids_in : (ds : List ClientDevice) (device : ℕ) → list_any (is_device device) ds ≡ is_among (map (λ (a : Announce). a.id) (map client.announce_in ds)) device
ids_in [] device = refl
ids_in (x ∷ ds) device = ap (λ (b : Bool). is_device device x || b) (ids_in ds device)

same_ids : (ds : List Announce) → map (λ (a : Announce). a.id) (map without_data ds) ≡ map (λ (a : Announce). a.id) ds
same_ids [] = refl
same_ids (a ∷ ds) = ap (λ (l : List ℕ). a.id ∷ l) (same_ids ds)

gone_in : (device : ℕ) (deeds : List Deed) (ds : List ClientDevice) → MarksAre deeds ds → list_any (λ (x : ClientDevice). is_device device x && x.removed) ds ≡ list_any (is_device device) ds && is_removed device deeds
gone_in device deeds [] marks = refl
gone_in device deeds (x ∷ ds) marks = by (is_device device x) refl (gone_in device deeds ds marks.1)
  where
    each : Bool
    each = list_any (λ (y : ClientDevice). is_device device y && y.removed) ds

    some : Bool
    some = list_any (is_device device) ds

    both_false : (b : Bool) → b && false ≡ false
    both_false true = refl
    both_false false = refl

    first : (r g : Bool) → each ≡ some && g → r ≡ g → (r || each) ≡ g
    first true g later e = e
    first false true later e = absurd (cc (e))
    first false false later e = later ∙ both_false some

    by : (b : Bool) → is_device device x ≡ b → each ≡ some && is_removed device deeds → ((b && x.removed) || each) ≡ (b || some) && is_removed device deeds
    by true e later = first x.removed (is_removed device deeds) later (marks.0 ∙ ap (λ (n : ℕ). is_removed n deeds) (eqb-true (x.announce).id device e))
    by false e later = later

-- ---- a call by which a line acts

module _ (devices : List Announce) where
  abbrev Ids : List ℕ
  Ids = map (λ (a : Announce). a.id) devices

  has_in : (p : Served) (deeds : List Deed) → IsOwn devices p deeds → (device : ℕ) → has_device (p.front).client device ≡ is_among Ids device
  has_in p deeds own device =
      ids_in ((p.front).client).devices device
      ∙ ap (λ (ids : List ℕ). is_among ids device) (sym (same_ids (announces (p.front).client)) ∙ ap (map (λ (a : Announce). a.id)) (own.fine).same ∙ same_ids devices)

  gone_is : (p : Served) (deeds : List Deed) → IsOwn devices p deeds → (device : ℕ) → is_gone (p.front).client device ≡ is_among Ids device && is_removed device deeds
  gone_is p deeds own device = gone_in device deeds ((p.front).client).devices (own.fine).marks ∙ ap (λ (b : Bool). b && is_removed device deeds) (has_in p deeds own device)

  -- a line does what its call did
  abbrev DoesSo : List Deed → FrontCall → FrontReply → Type 0
  DoesSo deeds does back = act_done does back ≡ lines_do Ids (λ (e : ℕ). is_removed e deeds) (line_acting does back)

  turned_there : (a r : Bool) → a && not (a && r) ≡ a && not r
  turned_there true r = refl
  turned_there false r = refl

  module _ (p : Served) (new : FrontState) (deeds : List Deed) (own : IsOwn devices p deeds) (device : ℕ) (on : (p.front).on ≡ true) (ready : is_front_ready p.front ≡ true) where
    there_is : may_remove p.front device ≡ is_among Ids device && not (is_removed device deeds)
    there_is =
        (λ i. on i && (ready i && (has_in p deeds own device i && not (gone_is p deeds own device i)))) ∙ turned_there (is_among Ids device) (is_removed device deeds)

    gone_there : may_add p.front device ≡ is_among Ids device && is_removed device deeds
    gone_there = λ i. on i && (ready i && gone_is p deeds own device i)

    remove_does : (back : FrontReply) → FrontStep p.front (call.Remove device) back new → DoesSurely (call.Remove device) back → DoesSo deeds (call.Remove device) back
    remove_does back step sure = by (may_remove p.front device) refl step
      where
        made : (answer : Result (Unit {0}) AllocError) (next : FrontState) → may_remove p.front device ≡ true → RemovesBy next device answer back new → DoesSo deeds (call.Remove device) back
        made (Ok done) next may did =
            subst (DoesSo deeds (call.Remove device)) (sym did.0) (sym (ap (λ (b : Bool). (if b then removed device ∷ [] else []) ++ []) (sym there_is ∙ may)))
        made (Err error) next may did = absurd (subst (DoesSurely (call.Remove device)) did.0 sure)

        less : (b : Bool) → may_remove p.front device ≡ true → Where b reply.Full back p.front new (FrontRemoves p.front device back new) → DoesSo deeds (call.Remove device) back
        less true may did = made did.0 did.1 may did.3
        less false may did = subst (DoesSo deeds (call.Remove device)) (sym did.0) refl

        by : (b : Bool) → may_remove p.front device ≡ b → Where b reply.Refused back p.front new (Where (not (is_front_full p.front)) reply.Full back p.front new (FrontRemoves p.front device back new)) → DoesSo deeds (call.Remove device) back
        by true may did = less (not (is_front_full p.front)) may did
        by false may did = subst (DoesSo deeds (call.Remove device)) (sym did.0) (sym (ap (λ (b : Bool). (if b then removed device ∷ [] else []) ++ []) (sym there_is ∙ may)))

    add_does : (back : FrontReply) → FrontStep p.front (call.Add device) back new → DoesSurely (call.Add device) back → DoesSo deeds (call.Add device) back
    add_does back step sure = by (may_add p.front device) refl step
      where
        none : back ≡ reply.Memory → DoesSo deeds (call.Add device) back
        none is = absurd (subst (DoesSurely (call.Add device)) is sure)

        done : may_add p.front device ≡ true → (found : Bool) → back ≡ done_where found new → DoesSo deeds (call.Add device) back
        done may true is = subst (DoesSo deeds (call.Add device)) (sym is) (sym (ap (λ (b : Bool). (if b then added device ∷ [] else []) ++ []) (sym gone_there ∙ may)))
        done may false is = none is

        told : (answer : Result (Unit {0}) AllocError) (next : FrontState) → may_add p.front device ≡ true → AddsBy next device answer back new → DoesSo deeds (call.Add device) back
        told (Ok fine) next may did = done may did.0 did.2
        told (Err error) next may did = none did.0

        made : (found : Bool) (next : FrontState) → may_add p.front device ≡ true → AddsIf found next device back new → DoesSo deeds (call.Add device) back
        made true next may did = told did.0 did.1 may did.3
        made false next may did = none did.0

        less : (b : Bool) → may_add p.front device ≡ true → Where b reply.Full back p.front new (FrontAdds p.front device back new) → DoesSo deeds (call.Add device) back
        less true may did = made did.0 did.1 may did.3
        less false may did = subst (DoesSo deeds (call.Add device)) (sym did.0) refl

        by : (b : Bool) → may_add p.front device ≡ b → Where b reply.Refused back p.front new (Where (not (is_front_full p.front)) reply.Full back p.front new (FrontAdds p.front device back new)) → DoesSo deeds (call.Add device) back
        by true may did = less (not (is_front_full p.front)) may did
        by false may did = subst (DoesSo deeds (call.Add device)) (sym did.0) (sym (ap (λ (b : Bool). (if b then added device ∷ [] else []) ++ []) (sym gone_there ∙ may)))

  call_does : (p : Served) (new : FrontState) (deeds : List Deed) (was : Option ℕ) (does : FrontCall) (back : FrontReply) → IsOwn devices p deeds → IsLooked p.front was → ActsWhere was does → FrontStep p.front does back new → DoesSurely does back → DoesSo deeds does back
  call_does p new deeds was (call.Remove device) back own is acts step sure = let both = is acts in remove_does p new deeds own device both.0 both.1 back step sure
  call_does p new deeds was (call.Add device) back own is acts step sure = let both = is acts in add_does p new deeds own device both.0 both.1 back step sure
  call_does p new deeds was (call.Begin channel) back own is acts step sure = refl
  call_does p new deeds was (call.Hear message) back own is acts step sure = refl
  call_does p new deeds was call.Retry back own is acts step sure = refl
  call_does p new deeds was (call.Next channel place room) back own is acts step sure = refl
  call_does p new deeds was call.Look back own is acts step sure = refl
  call_does p new deeds was call.EndChannel back own is acts step sure = refl
  call_does p new deeds was call.EndSession back own is acts step sure = refl

  -- ---- all calls

  -- a channel begins where these devices are gone
  abbrev BeginsAs : (ℕ → ℕ → Bool) → (ℕ → Bool) → FrontCall → FrontReply → Type 0
  BeginsAs gones gone (call.Begin channel) (reply.Done at full) = gones channel ≡ gone
  BeginsAs gones gone does back = Unit {0}

  abbrev EachDoes : (ℕ → ℕ → Bool) → (ℕ → Bool) → List FrontEntry → Type 0
  EachDoes gones gone [] = Unit {0}
  EachDoes gones gone (e ∷ entries) =
      BeginsAs gones gone e.call e.reply × (act_done e.call e.reply ≡ lines_do Ids gone (line_acting e.call e.reply)) × EachDoes gones (gone_after gone (act_done e.call e.reply)) entries

  parts_own : (ps : List FrontPart) (p q : Served) (deeds : List Deed) → PartsGo p ps q → IsKnownAt p deeds → IsOwn devices p deeds → IsOwn devices q (deeds_after ps deeds)
  parts_own [] p q deeds goes known own = subst (λ (s : Served). IsOwn devices s deeds) (sym goes) own
  parts_own (x ∷ ps) p q deeds goes known own = parts_own ps goes.0 q (deeds_of x ++ deeds) goes.2 (parts_known (x ∷ []) p goes.0 deeds (goes.0, goes.1, refl) known) (part_own devices p goes.0 x deeds goes.1 known.keyed own)

-- which devices are gone after a part
part_gone : (device : ℕ) (x : FrontPart) (deeds : List Deed) → is_removed device (deeds_of x ++ deeds) ≡ gone_after (λ e. is_removed e deeds) (cons_option (act_told x) []) device
part_gone device (tells_gone e (Ok done)) deeds = refl
part_gone device (tells_there e (Ok done)) deeds = refl
part_gone device (tells_gone e (Err error)) deeds = refl
part_gone device (tells_there e (Err error)) deeds = refl
part_gone device (hears channel message (Err fault.Memory)) deeds = refl
part_gone device (hears channel message (Err (fault.Order state packet))) deeds = refl
part_gone device (hears channel message (Err (fault.Grammar bad))) deeds = refl
part_gone device (hears channel message (Ok heard)) deeds = refl
part_gone device tries deeds = refl
part_gone device keeps deeds = refl
part_gone device forgets deeds = refl
part_gone device misplaces deeds = refl
part_gone device (directs st answer) deeds = refl
part_gone device (calls place id does back items) deeds = stored_keeps (is_removed device) (λ e x more. refl) id (reverse items) deeds
part_gone device (sends channel None) deeds = refl
part_gone device (sends channel (Some o)) deeds = by o.answers
  where
    by : (a : Option Key) → is_removed device (sent_by channel o.message a ++ deeds) ≡ is_removed device deeds
    by None = refl
    by (Some key) = refl
part_gone device (writes e done) deeds = refl
part_gone device (unwritten e done) deeds = refl
part_gone device (learns n answer) deeds = refl
part_gone device (refreshes e) deeds = refl
part_gone device (begins channel) deeds = refl
part_gone device (ends over told) deeds = each_keeps (is_removed device) (λ e x more. refl) told deeds

gone_both : (gone : ℕ → Bool) (xs ys : List Act) → gone_after gone (xs ++ ys) ≡ gone_after (gone_after gone xs) ys
gone_both gone [] ys = refl
gone_both gone (a ∷ xs) ys = gone_both (gone_by gone a) xs ys

parts_gone : (ps : List FrontPart) (deeds : List Deed) → (λ (e : ℕ). is_removed e (deeds_after ps deeds)) ≡ gone_after (λ e. is_removed e deeds) (filter_map act_told ps)
parts_gone [] deeds = refl
parts_gone (x ∷ ps) deeds =
    parts_gone ps (deeds_of x ++ deeds) ∙ ap (λ (gone : ℕ → Bool). gone_after gone (filter_map act_told ps)) (λ i e. part_gone e x deeds i) ∙ by (act_told x)
  where
    by : (o : Option Act) → gone_after (gone_after (λ e. is_removed e deeds) (cons_option o [])) (filter_map act_told ps) ≡ gone_after (λ e. is_removed e deeds) (cons_option o (filter_map act_told ps))
    by None = refl
    by (Some a) = refl

-- ---- what was done before a channel

part_until : (p q : Served) (x : FrontPart) (c : ℕ) (deeds : List Deed) (until : ℕ → List Deed) → PartGoes p x q → c ≤ (p.front).channel → until_by x deeds until c ≡ until c
part_until p q (begins channel) c deeds until goes low = ap (λ (b : Bool). if b then deeds else until c) (ne_eqb channel c (λ (same : channel ≡ c). let more = goes.2 in omega (arith, same, more, low)))
part_until p q (tells_gone e answer) c deeds until goes low = refl
part_until p q (tells_there e answer) c deeds until goes low = refl
part_until p q (hears channel message answer) c deeds until goes low = refl
part_until p q tries c deeds until goes low = refl
part_until p q keeps c deeds until goes low = refl
part_until p q forgets c deeds until goes low = refl
part_until p q misplaces c deeds until goes low = refl
part_until p q (directs st answer) c deeds until goes low = refl
part_until p q (calls place id does back items) c deeds until goes low = refl
part_until p q (sends channel sent) c deeds until goes low = refl
part_until p q (writes e done) c deeds until goes low = refl
part_until p q (unwritten e done) c deeds until goes low = refl
part_until p q (learns n answer) c deeds until goes low = refl
part_until p q (refreshes e) c deeds until goes low = refl
part_until p q (ends over told) c deeds until goes low = refl

parts_until : (ps : List FrontPart) (p q : Served) (c : ℕ) (deeds : List Deed) (until : ℕ → List Deed) → PartsGo p ps q → c ≤ (p.front).channel → until_after ps deeds until c ≡ until c
parts_until [] p q c deeds until goes low = refl
parts_until (x ∷ ps) p q c deeds until goes low =
    let more = part_rises p goes.0 x goes.1 in parts_until ps goes.0 q c (deeds_of x ++ deeds) (until_by x deeds until) goes.2 (omega (arith, more, low)) ∙ part_until p goes.0 x c deeds until goes.1 low

-- a channel begins once
calls_until : (entries : List FrontEntry) (parts : List (List FrontPart)) (p q : Served) (c : ℕ) (deeds : List Deed) (until : ℕ → List Deed) → HistoryGoes p entries parts q → c ≤ (p.front).channel → until_calls parts deeds until c ≡ until c
calls_until [] [] p q c deeds until goes low = refl
calls_until [] (ps ∷ parts) p q c deeds until goes low = absurd goes
calls_until (e ∷ entries) [] p q c deeds until goes low = absurd goes
calls_until (e ∷ entries) (ps ∷ parts) p q c deeds until goes low =
    let more = parts_rise ps p goes.0 (goes.1).goes in
    calls_until entries parts goes.0 q c (deeds_after ps deeds) (until_after ps deeds until) goes.2 (omega (arith, more, low)) ∙ parts_until ps p goes.0 c deeds until (goes.1).goes low

-- by parts that tell nothing, as many devices are gone
begun_gone : (ps : List FrontPart) (p q : Served) (n : ℕ) (deeds : List Deed) (until : ℕ → List Deed) → PartsGo p ps q → Among (λ x. begun_by x ≡ Some n) ps → filter_map act_told ps ≡ [] → (device : ℕ) → is_removed device (until_after ps deeds until n) ≡ is_removed device deeds
begun_gone [] p q n deeds until goes some none device = absurd some
begun_gone (x ∷ ps) p q n deeds until goes some none device = elim some [
  | inl here ↦ by x here goes.1
  | inr later ↦ begun_gone ps goes.0 q n (deeds_of x ++ deeds) (until_by x deeds until) goes.2 later (rest (act_told x) none) device ∙ part_gone device x deeds ∙ ap (λ (o : Option Act). gone_after (λ e. is_removed e deeds) (cons_option o []) device) (first (act_told x) none)
]
  where
    rest : (o : Option Act) → cons_option o (filter_map act_told ps) ≡ [] → filter_map act_told ps ≡ []
    rest None is = is
    rest (Some a) is = absurd (cc (is))

    first : (o : Option Act) → cons_option o (filter_map act_told ps) ≡ [] → o ≡ None
    first None is = refl
    first (Some a) is = absurd (cc (is))

    by : (y : FrontPart) → begun_by y ≡ Some n → PartGoes p y goes.0 → is_removed device (until_after ps (deeds_of y ++ deeds) (until_by y deeds until) n) ≡ is_removed device deeds
    by (begins channel) is did =
        let same : channel ≡ n = cc (is) in
        let now : ((goes.0).front).channel ≡ channel = ap (λ (s : Served). (s.front).channel) did.3 in
        ap (is_removed device) (parts_until ps goes.0 q n deeds (until_by (begins channel) deeds until) goes.2 (omega (arith, same, now)) ∙ ap (λ (b : Bool). if b then deeds else until n) (eq-eqb channel n same))
    by y is did = absurd (cc (is))

module _ (devices : List Announce) where
  -- where a channel begins
  begins_as : (entries : List FrontEntry) (parts : List (List FrontPart)) (p q r : Served) (ps : List FrontPart) (does : FrontCall) (back : FrontReply) (deeds : List Deed) (until : ℕ → List Deed) → CallGoes p does back ps q → FrontStep p.front does back q.front → HistoryGoes q entries parts r
      → BeginsAs devices (λ n d. is_removed d (until_calls parts (deeds_after ps deeds) (until_after ps deeds until) n)) (λ d. is_removed d deeds) does back
  begins_as entries parts p q r ps (call.Begin channel) (reply.Done at full) deeds until goes step more =
      λ i d. ((let now = tracks p.front (call.Begin channel) (reply.Done at full) q.front step in
      ap (is_removed d) (calls_until entries parts q r channel (deeds_after ps deeds) (until_after ps deeds until) more (omega (arith, now)))) ∙ begun_gone ps p q channel deeds until goes.goes ((goes.tells).begun channel at full refl refl) (goes.tells).acts d) i
  begins_as entries parts p q r ps (call.Begin channel) (reply.Stands ready asked) deeds until goes step more = tt
  begins_as entries parts p q r ps (call.Begin channel) reply.Kept deeds until goes step more = tt
  begins_as entries parts p q r ps (call.Begin channel) (reply.Wrong cause) deeds until goes step more = tt
  begins_as entries parts p q r ps (call.Begin channel) (reply.Duplicate key) deeds until goes step more = tt
  begins_as entries parts p q r ps (call.Begin channel) reply.Unfit deeds until goes step more = tt
  begins_as entries parts p q r ps (call.Begin channel) reply.Memory deeds until goes step more = tt
  begins_as entries parts p q r ps (call.Begin channel) reply.Full deeds until goes step more = tt
  begins_as entries parts p q r ps (call.Begin channel) reply.Refused deeds until goes step more = tt
  begins_as entries parts p q r ps (call.Begin channel) (reply.Messages filled left) deeds until goes step more = tt
  begins_as entries parts p q r ps (call.Hear message) back deeds until goes step more = tt
  begins_as entries parts p q r ps call.Retry back deeds until goes step more = tt
  begins_as entries parts p q r ps (call.Next channel place room) back deeds until goes step more = tt
  begins_as entries parts p q r ps (call.Remove device) back deeds until goes step more = tt
  begins_as entries parts p q r ps (call.Add device) back deeds until goes step more = tt
  begins_as entries parts p q r ps call.Look back deeds until goes step more = tt
  begins_as entries parts p q r ps call.EndChannel back deeds until goes step more = tt
  begins_as entries parts p q r ps call.EndSession back deeds until goes step more = tt

  -- in a whole history each line does what its call did
  pub history_does : (entries : List FrontEntry) (parts : List (List FrontPart)) (p q : Served) (deeds : List Deed) (until : ℕ → List Deed) (was : Option ℕ) (goes : HistoryGoes p entries parts q) → AreSteps p entries parts q goes → AllByRecursion (λ (e : FrontEntry). DoesSurely e.call e.reply) entries → ActLooked was entries
      → IsKnownAt p deeds → IsOwn devices p deeds → IsLooked p.front was → EachDoes devices (λ n d. is_removed d (until_calls parts deeds until n)) (λ d. is_removed d deeds) entries
  history_does [] [] p q deeds until was goes steps sure acts known own is = tt
  history_does [] (ps ∷ parts) p q deeds until was goes steps sure acts known own is = absurd goes
  history_does (e ∷ entries) [] p q deeds until was goes steps sure acts known own is = absurd goes
  history_does (e ∷ entries) (ps ∷ parts) p q deeds until was goes steps sure acts known own is =
      let told = told_done e.call e.reply (filter_map act_told ps) (((goes.1).tells).acts) sure.0 in (
        begins_as entries parts p goes.0 q ps e.call e.reply deeds until goes.1 steps.0 goes.2,
        call_does devices p (goes.0).front deeds was e.call e.reply own is acts.0 steps.0 sure.0,
        subst (λ (gone : ℕ → Bool). EachDoes devices (λ n d. is_removed d (until_calls parts (deeds_after ps deeds) (until_after ps deeds until) n)) gone entries) (parts_gone ps deeds ∙ ap (gone_after (λ d. is_removed d deeds)) told)
            (history_does entries parts goes.0 q (deeds_after ps deeds) (until_after ps deeds until) (looked was e.call e.reply) goes.2 steps.1 sure.1 acts.1 (parts_known ps p goes.0 deeds (goes.1).goes known) (parts_own devices ps p goes.0 deeds (goes.1).goes known own) (step_looked p.front (goes.0).front was e.call e.reply steps.0 is)),
      )

  -- lines, and then others
  do_both : (gone : ℕ → Bool) (xs ys : List FrontCall) → lines_do (Ids devices) gone (xs ++ ys) ≡ lines_do (Ids devices) gone xs ++ lines_do (Ids devices) (gone_after gone (lines_do (Ids devices) gone xs)) ys
  do_both gone [] ys = refl
  do_both gone (a ∷ xs) ys =
      let here = line_does (Ids devices) gone a in
      ap (λ (acts : List Act). here ++ acts) (do_both (gone_after gone here) xs ys)
      ∙ sym (append_assoc here (lines_do (Ids devices) (gone_after gone here) xs) (lines_do (Ids devices) (gone_after (gone_after gone here) (lines_do (Ids devices) (gone_after gone here) xs)) ys))
      ∙ ap (λ (after : ℕ → Bool). (here ++ lines_do (Ids devices) (gone_after gone here) xs) ++ lines_do (Ids devices) after ys) (sym (gone_both gone here (lines_do (Ids devices) (gone_after gone here) xs)))

  module _ (gones : ℕ → ℕ → Bool) where
    -- the reader's calls alone
    pub drop_asked : (entries : List FrontEntry) (gone : ℕ → Bool) → EachDoes devices gones gone entries → EachDoes devices gones gone (reader_calls entries)
    drop_asked [] gone each = tt
    drop_asked (e ∷ entries) gone each = by (drop_asked entries) (asks_any e.call) refl
      where
        by : ((g : ℕ → Bool) → EachDoes devices gones g entries → EachDoes devices gones g (reader_calls entries)) → (b : Bool) → asks_any e.call ≡ b → EachDoes devices gones gone (if b then reader_calls entries else e ∷ reader_calls entries)
        by others true asks = others gone (subst (λ (acts : List Act). EachDoes devices gones (gone_after gone acts) entries) (asked_undone e.call e.reply asks) each.2)
        by others false asks = (each.0, each.1, others (gone_after gone (act_done e.call e.reply)) each.2)

    -- calls, and what follows them
    calls_do : (entries later : List FrontEntry) (gone : ℕ → Bool) → EachDoes devices gones gone (entries ++ later) → (acts_done entries ≡ lines_do (Ids devices) gone (lines_acting entries)) × EachDoes devices gones (gone_after gone (acts_done entries)) later
    calls_do [] later gone each = (refl, each)
    calls_do (e ∷ entries) later gone each =
        let here = act_done e.call e.reply in
        let more = calls_do entries later (gone_after gone here) each.2 in (
          (λ i. each.1 i ++ more.0 i) ∙ ap (λ (after : ℕ → Bool). lines_do (Ids devices) gone (line_acting e.call e.reply) ++ lines_do (Ids devices) after (lines_acting entries)) (ap (gone_after gone) each.1)
              ∙ sym (do_both gone (line_acting e.call e.reply) (lines_acting entries)),
          subst (λ (after : ℕ → Bool). EachDoes devices gones after later) (sym (gone_both gone here (acts_done entries))) more.1,
        )

    pub runs_do : (runs : List ChannelRun) (later : List FrontEntry) (gone : ℕ → Bool) → AllByRecursion IsChannelRun runs → EachDoes devices gones gone (calls_by_all runs ++ later) → RunsDo (Ids devices) gones gone runs
    runs_do [] later gone each does = tt
    runs_do (r ∷ runs) later gone each does =
        let w = (each.0).whole in
        let calls = (r.reading).calls in
        let others = calls_by_all runs ++ later in
        let all : EachDoes devices gones gone (w.begin ∷ (calls ++ w.end ∷ others)) =
        subst (EachDoes devices gones gone) (append_assoc r.calls (calls_by_all runs) later ∙ ap (λ (es : List FrontEntry). es ++ others) w.whole_are ∙ ap (λ (es : List FrontEntry). w.begin ∷ es) (append_assoc calls (w.end ∷ []) others)) does in
        let first : gones (r.reading).channel ≡ gone = subst (BeginsAs devices gones gone (call.Begin (r.reading).channel)) ((w.begins).1).2 (subst (λ (d : FrontCall). BeginsAs devices gones gone d (w.begin).reply) (w.begins).0 all.0) in
        let begun : EachDoes devices gones gone (calls ++ w.end ∷ others) = subst (λ (d : FrontCall). EachDoes devices gones (gone_after gone (act_done d (w.begin).reply)) (calls ++ w.end ∷ others)) (w.begins).0 all.2 in
        let read = calls_do calls (w.end ∷ others) gone begun in
        let after : EachDoes devices gones (gone_after gone (acts_done calls)) others = subst (λ (d : FrontCall). EachDoes devices gones (gone_after (gone_after gone (acts_done calls)) (act_done d (w.end).reply)) others) w.ends (read.1).2 in
        (first, read.0, runs_do runs later (gone_after gone (acts_done calls)) each.1 after)

  -- So it is in a session, whose reader's calls are those of its runs and the one that ends it.
  pub session_does : (runs : List ChannelRun) (last : FrontEntry) (lines left : Lines) (entries : List FrontEntry) (parts : List (List FrontPart)) (p q : Served) (goes : HistoryGoes p entries parts q) → AreSteps p entries parts q goes
      → AllByRecursion (λ (e : FrontEntry). DoesSurely e.call e.reply) entries → reader_calls entries ≡ calls_by_all runs ++ last ∷ [] → last.call ≡ call.EndSession → AllByRecursion IsChannelRun runs → AllGoByLines runs lines left → IsKnownAt p [] → IsOwn devices p []
      → RunsDo (map (λ (a : Announce). a.id) devices) (is_gone_until parts) none_gone runs
  session_does runs last lines left entries parts p q goes steps sure whole over each go known own =
      let acts : ActLooked None entries = lift_looked entries None (subst (ActLooked None) (sym whole) (runs_looked runs lines left last over each go None)) in
      let all = history_does entries parts p q [] none_until None goes steps sure acts known own (λ some. absurd (some refl)) in
      runs_do (is_gone_until parts) runs (last ∷ []) none_gone each (subst (EachDoes devices (is_gone_until parts) none_gone) whole (drop_asked (is_gone_until parts) entries none_gone all))
