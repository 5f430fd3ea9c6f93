-- Where a reply says that a message is wrong, or that a completion id is in use, it's so of the last message that was read on the channel.
use Rattle.std.proofs.Common.{◌≡◌, ◌∙◌, ◌≤◌, ◌<◌, refl, sym, ap, subst, inl, inr, ℕ, ◌==◌, ◌&&◌, ◌||◌, Bool, true, false, List, [], ◌∷◌, ◌++◌, Option, Some, None, arith, eq-eqb, eqb-true, ne_eqb, append_assoc}
use Rattle.std.specs.Prelude.{Result, Ok, Err, filter_map, if◌then◌else◌, not}
use Rattle.std.specs.declared.alloc.AllocError.{AllocError}
use Rattle.std.specs.List.{AllByRecursion, cons_option}
use Rattle.rd_base.specs.declared.journal.Key.{Key}
use Rattle.rd_base.specs.declared.status.Status.{Status}
use Rattle.rd_client.specs.Core.{ClientCoreState, client_hear, client_side}
use Rattle.rd_client.specs.declared.heard.Heard.{Heard}
use Rattle.rd_client.specs.declared.heard.Heard.TheVariants.{Ask, Nothing, Print}
use Rattle.rd_core.specs.Hearing as hearing
use Rattle.rd_desk.specs.declared.calls.DeskReply.{DeskReply}
use Rattle.rd_desk.specs.declared.calls.DeskReply.TheVariants as replied
use Rattle.rd_drive.proofs.AllLemmas.{all_append}
use Rattle.rd_drive.specs.declared.plan.Job.{Job}
use Rattle.rd_front.specs.Calls.{FrontEntry, RanOut, hinders}
use Rattle.rd_front.specs.Front.{AddsBy, AddsIf, AnswersDirectly, BeginsIf, ChannelEnds, FollowsFrom, FrontAdds, FrontBegins, FrontHears, FrontRemoves, FrontRetries, FrontStep, Hands, HeardBy, OpeningEnds, PutBy, Puts, PutsIf, RefusedPut, RemovesBy, SessionEnds, Where, desk_place, done_at, done_if, done_where, is_front_full, is_front_ready, may_add, may_begin, may_hear, may_remove, none_for, standing_of}
use Rattle.rd_room.specs.Room.{MessageRoom}
use Rattle.rd_front.specs.State.{FrontState}
use Rattle.rd_front.specs.declared.calls.FrontCall.{FrontCall}
use Rattle.rd_front.specs.declared.calls.FrontCall.TheVariants as call
use Rattle.rd_front.specs.declared.calls.FrontReply.{FrontReply}
use Rattle.rd_front.specs.declared.calls.FrontReply.TheVariants as reply
use Rattle.rd_hello.specs.declared.end_fault.EndFault.{EndFault}
use Rattle.rd_hello.specs.declared.end_fault.EndFault.TheVariants as fault
use Rattle.rd_station.specs.declared.refusals.PutWhy.{PutWhy}
use Rattle.rd_station.specs.declared.refusals.PutWhy.TheVariants as refusal
use Rattle.rd_deeds.specs.Talk.{Deed, client_read}
use Rattle.rd_world.specs.World.{Kept}
use Rattle.rd_workers.proofs.RunLemmas.{AreMiddle, IsMiddle}
use Rattle.rd_workers.specs.Logs.{asks_any}
use Rattle.rd_served_causes.proofs.ServedCauseLemmas.{IsTold, parts_told}
use Rattle.rd_served_causes.proofs.ServedKeyLemmas.{IsKeyed, both_true, parts_keyed}
use Rattle.rd_served_causes.specs.ServedDeeds.{deeds_after, deeds_of_calls}
use Rattle.rd_served_causes.specs.ServedHistories.{Among, CallGoes, HearBefore, HearsAs, HearsBefore, HistoryGoes, StartsBy, handed_out, may_start}
use Rattle.rd_served_causes.specs.ServedParts.{FrontPart, PartGoes, PartsGo, begins, begun_by, calls, directs, ends, forgets, heard_in, hears, keeps, learns, misplaces, refreshes, sends, tells_gone, tells_there, tries, unwritten, writes}
use Rattle.rd_served_causes.specs.ServedServed.{Served}
use Rattle.rd_served_causes.specs.Causes.{StartUnhindered}
use Rattle.rd_served_causes.specs.ServedRefusalsHeeding.{CallsHearBefore, hindered_by, stopped_after}
use Rattle.rd_served_sessions.proofs.CallLemmas.{GivesInside, given_in, given_on, on_channel}
use Rattle.rd_served_sessions.proofs.ChainLemmas.{part_rises, parts_read, parts_rise, rest_unheard, rest_unread}
use Rattle.rd_served_sessions.proofs.FollowLemmas.{Follows, SaysTo, parts_follow, says_to}
use Rattle.rd_served_sessions.proofs.StillLemmas.{begun_to, tracks}
use Rattle.rd_served_sessions.proofs.UnsentLemmas.{IsEnded, history_sent}
use Rattle.rd_served_sessions.proofs.UseLemmas.{deeds_more, refused_in}
use Rattle.rd_served_sessions.specs.Causes.{IsCausedReply, LastIsWrong, WasInUse}
use Rattle.rd_served_sessions.specs.Steps.{AreSteps}

-- ---- which calls say that a message is wrong, or that a completion id is in use

-- whether a reply says neither
abbrev is_fair : FrontReply → Bool
is_fair (reply.Wrong wrong) = false
is_fair (reply.Duplicate key) = false
is_fair back = true

-- A job that is refused since its completion id is in use ends the channel.
abbrev PutSays : FrontReply → FrontState → Type 0
PutSays (reply.Wrong wrong) new = ⊥
PutSays (reply.Duplicate key) new = new.on ≡ false
PutSays back new = Unit {0}

-- Only a message that is heard is wrong, by what the core makes of it.
abbrev StepSays : FrontState → FrontCall → FrontReply → FrontState → Type 0
StepSays old does (reply.Wrong wrong) new = (m : List ℕ) × (does ≡ call.Hear m) × (next : ClientCoreState) × (client_hear old.client m ≡ (next, Err wrong))
StepSays old does (reply.Duplicate key) new = new.on ≡ false
StepSays old does back new = Unit {0}

fair_says : (back : FrontReply) (new : FrontState) → is_fair back ≡ true → PutSays back new
fair_says (reply.Wrong wrong) new is = absurd (cc (is))
fair_says (reply.Duplicate key) new is = absurd (cc (is))
fair_says (reply.Done at full) new is = tt
fair_says (reply.Stands ready asked) new is = tt
fair_says reply.Kept new is = tt
fair_says reply.Unfit new is = tt
fair_says reply.Memory new is = tt
fair_says reply.Full new is = tt
fair_says reply.Refused new is = tt
fair_says (reply.Messages filled left) new is = tt

put_step : (old : FrontState) (does : FrontCall) (back : FrontReply) (new : FrontState) → PutSays back new → StepSays old does back new
put_step old does (reply.Wrong wrong) new is = absurd is
put_step old does (reply.Duplicate key) new is = is
put_step old does (reply.Done at full) new is = tt
put_step old does (reply.Stands ready asked) new is = tt
put_step old does reply.Kept new is = tt
put_step old does reply.Unfit new is = tt
put_step old does reply.Memory new is = tt
put_step old does reply.Full new is = tt
put_step old does reply.Refused new is = tt
put_step old does (reply.Messages filled left) new is = tt

fair_as : (back other : FrontReply) (new : FrontState) → is_fair other ≡ true → back ≡ other → PutSays back new
fair_as back other new fair is = fair_says back new (ap is_fair is ∙ fair)

where_says : (b : Bool) (other back : FrontReply) (old new : FrontState) (does : Type 0) → is_fair other ≡ true → (does → PutSays back new) → Where b other back old new does → PutSays back new
where_says true other back old new does fair on did = on did
where_says false other back old new does fair on did = fair_as back other new fair did.0

unless_full : (fits : Bool) (old : FrontState) (back : FrontReply) (new : FrontState) (does : Type 0) → (does → PutSays back new) → Where fits reply.Refused back old new (Where (not (is_front_full old)) reply.Full back old new does) → PutSays back new
unless_full fits old back new does on did = where_says fits reply.Refused back old new _ refl (where_says (not (is_front_full old)) reply.Full back old new does refl on) did

fair_if : (answer : Result (Unit {0}) AllocError) (s : FrontState) → is_fair (done_if answer s) ≡ true
fair_if (Ok done) s = refl
fair_if (Err error) s = refl

fair_where : (found : Bool) (s : FrontState) → is_fair (done_where found s) ≡ true
fair_where true s = refl
fair_where false s = refl

answers_says : (old : FrontState) (device : ℕ) (job : Job) (st : Status) (back : FrontReply) (new : FrontState) → AnswersDirectly old device job st back new → PutSays back new
answers_says old device job st back new did = fair_as back (done_if did.0 new) new (fair_if did.0 new) did.2

refused_says : (old : FrontState) (device : ℕ) (job : Job) (cause : PutWhy) (back : FrontReply) (new : FrontState) → RefusedPut old device job cause back new → PutSays back new
refused_says old device job refusal.Gone back new did = answers_says old device job _ back new did
refused_says old device job (refusal.Duplicate key) back new did = subst (λ (r : FrontReply). PutSays r new) (sym did.0) (ap (λ (s : FrontState). s.on) (did.1).1)
refused_says old device job (refusal.Full held) back new did = fair_as back reply.Kept new refl did.0
refused_says old device job (refusal.Worn count) back new did = answers_says old device job _ back new did
refused_says old device job refusal.Memory back new did = fair_as back reply.Memory new refl did.0

put_says : (old : FrontState) (device place : ℕ) (answer : DeskReply) (back : FrontReply) (new : FrontState) → PutBy old device place answer back new → PutSays back new
put_says old device place (replied.Put (Ok done)) back new did = fair_as back (done_at (Some place) old) new refl did.0
put_says old device place (replied.Put (Err other)) back new did = refused_says old device other.job other.why back new did
put_says old device place (replied.Unfit job) back new did = fair_as back reply.Unfit new refl did.0
put_says old device place (replied.Announced answer) back new did = absurd did
put_says old device place (replied.Worked w) back new did = absurd did
put_says old device place (replied.Collected answer) back new did = absurd did
put_says old device place (replied.Removed answer) back new did = absurd did
put_says old device place replied.Dropped back new did = absurd did
put_says old device place replied.Ended back new did = absurd did

puts_if_says : (old : FrontState) (device : ℕ) (job : Job) (place : Option ℕ) (back : FrontReply) (new : FrontState) → PutsIf old device job place back new → PutSays back new
puts_if_says old device job None back new did = answers_says old device job _ back new did
puts_if_says old device job (Some place) back new did = put_says did.1 device place did.0 back new did.3

puts_says : (old : FrontState) (device : ℕ) (job : Job) (back : FrontReply) (new : FrontState) → Puts old device job back new → PutSays back new
puts_says old device job back new did = where_says _ reply.Unfit back old new _ refl (puts_if_says old device job (desk_place old.desks device) back new) did

retries_says : (old : FrontState) (kept : Option Kept) (back : FrontReply) (new : FrontState) → FrontRetries old kept back new → PutSays back new
retries_says old None back new did = fair_as back (done_at None old) new refl did.0
retries_says old (Some k) back new did = puts_says (record old { kept = None }) k.device k.job back new did

opens_says : (opening : Bool) (old : FrontState) (back : FrontReply) (new : FrontState) → OpeningEnds opening old back new → PutSays back new
opens_says true old back new did = fair_as back (done_where did.0 new) new (fair_where did.0 new) did.2
opens_says false old back new did = fair_as back (done_at None old) new refl did.0

heard_says : (ready : Bool) (old : FrontState) (heard : Heard) (back : FrontReply) (new : FrontState) → HeardBy ready old heard back new → PutSays back new
heard_says ready old Nothing back new did = opens_says (not ready && is_front_ready old) old back new did
heard_says ready old (Ask device job) back new did = puts_says old device job back new did
heard_says ready old (Print n) back new did = fair_as back (done_if did.0 new) new (fair_if did.0 new) did.3

removes_says : (old : FrontState) (device : ℕ) (answer : Result (Unit {0}) AllocError) (back : FrontReply) (new : FrontState) → RemovesBy old device answer back new → PutSays back new
removes_says old device (Ok done) back new did = fair_as back (done_at (desk_place old.desks device) new) new refl did.0
removes_says old device (Err error) back new did = fair_as back reply.Memory new refl did.0

adds_says : (old : FrontState) (device : ℕ) (answer : Result (Unit {0}) AllocError) (back : FrontReply) (new : FrontState) → AddsBy old device answer back new → PutSays back new
adds_says old device (Ok done) back new did = fair_as back (done_where did.0 new) new (fair_where did.0 new) did.2
adds_says old device (Err error) back new did = fair_as back reply.Memory new refl did.0

adds_if_says : (found : Bool) (old : FrontState) (device : ℕ) (back : FrontReply) (new : FrontState) → AddsIf found old device back new → PutSays back new
adds_if_says true old device back new did = adds_says did.1 device did.0 back new did.3
adds_if_says false old device back new did = fair_as back reply.Memory new refl did.0

begins_says : (found : Bool) (old : FrontState) (channel : ℕ) (back : FrontReply) (new : FrontState) → BeginsIf found old channel back new → PutSays back new
begins_says true old channel back new did = fair_as back (done_at None new) new refl did.0
begins_says false old channel back new did = fair_as back reply.Memory new refl did.0

hands_says : (old : FrontState) (place : ℕ) (room : MessageRoom) (back : FrontReply) (new : FrontState) → Hands old place room back new → PutSays back new
hands_says old place room (reply.Messages filled left) new did = tt
hands_says old place room (reply.Done at full) new did = absurd did
hands_says old place room (reply.Stands ready asked) new did = absurd did
hands_says old place room reply.Kept new did = absurd did
hands_says old place room (reply.Wrong cause) new did = absurd did
hands_says old place room (reply.Duplicate key) new did = absurd did
hands_says old place room reply.Unfit new did = absurd did
hands_says old place room reply.Memory new did = absurd did
hands_says old place room reply.Full new did = absurd did
hands_says old place room reply.Refused new did = absurd did

wrong_says : (old : FrontState) (m : List ℕ) (back : FrontReply) (new : FrontState) (wrong : EndFault) (next : ClientCoreState) → back ≡ reply.Wrong wrong → client_hear old.client m ≡ (next, Err wrong) → StepSays old (call.Hear m) back new
wrong_says old m back new wrong next is made = subst (λ (r : FrontReply). StepSays old (call.Hear m) r new) (sym is) (m, refl, next, made)

hears_says : (old : FrontState) (m : List ℕ) (back : FrontReply) (new : FrontState) → FrontHears old m back new → StepSays old (call.Hear m) back new
hears_says old m back new did = by did.0 ((did.2).0).1 did.3
  where
    by : (a : Result Heard EndFault) → hearing.Hears client_side (λ (c : ClientCoreState). c.core) client_hear old.client m a (did.1).client → FollowsFrom (is_front_ready old) did.1 a back new → StepSays old (call.Hear m) back new
    by (Err fault.Memory) made so = put_step old (call.Hear m) back new (fair_as back reply.Memory new refl so.0)
    by (Err (fault.Order state packet)) made so = wrong_says old m back new (fault.Order state packet) (did.1).client so.0 made
    by (Err (fault.Grammar bad)) made so = wrong_says old m back new (fault.Grammar bad) (did.1).client so.0 made
    by (Ok heard) made so = put_step old (call.Hear m) back new (heard_says (is_front_ready old) did.1 heard back new so)

hear_where : (b : Bool) (other : FrontReply) (old : FrontState) (m : List ℕ) (back : FrontReply) (new : FrontState) (does : Type 0) → is_fair other ≡ true → (does → StepSays old (call.Hear m) back new) → Where b other back old new does → StepSays old (call.Hear m) back new
hear_where true other old m back new does fair on did = on did
hear_where false other old m back new does fair on did = put_step old (call.Hear m) back new (fair_as back other new fair did.0)

step_says : (old : FrontState) (does : FrontCall) (back : FrontReply) (new : FrontState) → FrontStep old does back new → StepSays old does back new
step_says old (call.Hear m) back new did = hear_where (may_hear old) reply.Refused old m back new _ refl (hear_where (not (is_front_full old)) reply.Full old m back new (FrontHears old m back new) refl (hears_says old m back new)) did
step_says old call.Retry back new did = put_step old call.Retry back new (unless_full old.on old back new _ (retries_says old old.kept back new) did)
step_says old (call.Begin channel) back new did = put_step old (call.Begin channel) back new (where_says (may_begin old channel) reply.Refused back old new _ refl (λ (so : FrontBegins old channel back new). begins_says so.0 so.1 channel back new so.3) did)
step_says old (call.Next channel place room) back new did = put_step old (call.Next channel place room) back new (where_says (channel == old.channel) (none_for room) back old new _ refl (hands_says old place room back new) did)
step_says old (call.Remove device) back new did = put_step old (call.Remove device) back new (unless_full (may_remove old device) old back new _ (λ (so : FrontRemoves old device back new). removes_says so.1 device so.0 back new so.3) did)
step_says old (call.Add device) back new did = put_step old (call.Add device) back new (unless_full (may_add old device) old back new _ (λ (so : FrontAdds old device back new). adds_if_says so.0 so.1 device back new so.3) did)
step_says old call.Look back new did = put_step old call.Look back new (fair_as back (standing_of old) new refl did.0)
step_says old call.EndChannel back new did = put_step old call.EndChannel back new (where_says old.on reply.Refused back old new _ refl (λ (so : (back ≡ done_at None new) × ChannelEnds old new). fair_as back (done_at None new) new refl so.0) did)
step_says old call.EndSession back new did = put_step old call.EndSession back new (where_says (not old.over) reply.Refused back old new _ refl (λ (so : (back ≡ done_at None new) × SessionEnds old new). fair_as back (done_at None new) new refl so.0) did)

-- ---- the part that hears it

-- a message that is heard is so on a channel that is on, which no part stopped
record HeardFirst (was : Bool) (p : Served) : Type 0 where
  sound : was ≡ false
  on : (p.front).on ≡ true

heard_first : (was : Bool) (p q : Served) (x : FrontPart) (m : List ℕ) → heard_in x ≡ Some m → PartGoes p x q → HearsBefore was x → HeardFirst was p
heard_first was p q (hears channel message (Err fault.Memory)) m is goes before = absurd (cc (is))
heard_first was p q (hears channel message (Err (fault.Order state packet))) m is goes before = record { sound = before; on = (both_true (p.front).on _ goes.2).0 }
heard_first was p q (hears channel message (Err (fault.Grammar bad))) m is goes before = record { sound = before; on = (both_true (p.front).on _ goes.2).0 }
heard_first was p q (hears channel message (Ok heard)) m is goes before = record { sound = before; on = (both_true (p.front).on _ goes.2).0 }
heard_first was p q tries m is goes before = absurd (cc (is))
heard_first was p q keeps m is goes before = absurd (cc (is))
heard_first was p q forgets m is goes before = absurd (cc (is))
heard_first was p q misplaces m is goes before = absurd (cc (is))
heard_first was p q (directs st answer) m is goes before = absurd (cc (is))
heard_first was p q (calls place id does back items) m is goes before = absurd (cc (is))
heard_first was p q (tells_gone device answer) m is goes before = absurd (cc (is))
heard_first was p q (tells_there device answer) m is goes before = absurd (cc (is))
heard_first was p q (sends channel o) m is goes before = absurd (cc (is))
heard_first was p q (writes device done) m is goes before = absurd (cc (is))
heard_first was p q (unwritten device done) m is goes before = absurd (cc (is))
heard_first was p q (learns n answer) m is goes before = absurd (cc (is))
heard_first was p q (refreshes device) m is goes before = absurd (cc (is))
heard_first was p q (begins channel) m is goes before = absurd (cc (is))
heard_first was p q (ends over told) m is goes before = absurd (cc (is))

heard_by_first : (ps : List FrontPart) (was : Bool) (p q : Served) (m : List ℕ) → PartsGo p ps q → StartsBy true ps → HearBefore was ps → filter_map heard_in ps ≡ m ∷ [] → HeardFirst was p
heard_by_first [] was p q m goes all before is = absurd (cc (is))
heard_by_first (x ∷ ps) was p q m goes all before is = by (heard_in x) refl (ap (λ (ms : List (List ℕ)). cons_option (heard_in x) ms) (sym (rest_unheard ps all)) ∙ is)
  where
    by : (o : Option (List ℕ)) → heard_in x ≡ o → cons_option o [] ≡ m ∷ [] → HeardFirst was p
    by (Some n) e f = heard_first was p goes.0 x n e goes.1 before.0
    by None e f = absurd (cc (f))

-- ---- a channel on which nothing more is heard

-- a reply hindered there, or another channel began since
record IsPast (c : ℕ) (was : Bool) (p : Served) : Type 0 where
  low : c ≤ (p.front).channel
  past : c ≡ (p.front).channel → was ≡ true

begun_above : (ps : List FrontPart) (p q : Served) (channel : ℕ) → PartsGo p ps q → Among (λ x. begun_by x ≡ Some channel) ps → (p.front).channel < channel
begun_above [] p q channel goes none = absurd none
begun_above (x ∷ ps) p q channel goes (inl here) = by x goes.1 here
  where
    by : (y : FrontPart) → PartGoes p y goes.0 → begun_by y ≡ Some channel → (p.front).channel < channel
    by (begins other) did is = let same : other ≡ channel = cc (is) in let more = did.2 in omega (arith, same, more)
    by y did is = absurd (cc (is))
begun_above (x ∷ ps) p q channel goes (inr later) = let low = part_rises p goes.0 x goes.1 in let more = begun_above ps goes.0 q channel goes.2 later in omega (arith, low, more)

rises_to : (channel : ℕ) (ps : List FrontPart) (p q : Served) → PartsGo p ps q → Among (λ x. begun_by x ≡ Some channel) ps → channel ≤ (q.front).channel
rises_to channel [] p q goes none = absurd none
rises_to channel (x ∷ ps) p q goes (inl here) = by x goes.1 here
  where
    by : (y : FrontPart) → PartGoes p y goes.0 → begun_by y ≡ Some channel → channel ≤ (q.front).channel
    by (begins other) did is =
        let same : other ≡ channel = cc (is) in
        let now : ((goes.0).front).channel ≡ other = ap (λ (s : Served). (s.front).channel) did.3 in
        let more = parts_rise ps goes.0 q goes.2 in
        omega (arith, same, now, more)
    by y did is = absurd (cc (is))
rises_to channel (x ∷ ps) p q goes (inr later) = rises_to channel ps goes.0 q goes.2 later

either_true : (a b : Bool) → b ≡ true → (a || b) ≡ true
either_true true b is = refl
either_true false b is = is

call_past : (c : ℕ) (was : Bool) (does : FrontCall) (back : FrontReply) (ps : List FrontPart) (p q : Served) → CallGoes p does back ps q → IsPast c was p → IsPast c (hindered_by was does back) q
call_past c was does back ps p q goes is = by does back goes
  where
    rise : (p.front).channel ≤ (q.front).channel
    rise = parts_rise ps p q goes.goes

    low : c ≤ (q.front).channel
    low = let first = is.low in let more = rise in omega (arith, first, more)

    same : c ≡ (q.front).channel → c ≡ (p.front).channel
    same here = let first = is.low in let more = rise in omega (arith, here, first, more)

    still : (d : FrontCall) (r : FrontReply) → hindered_by was d r ≡ (hinders r || was) → IsPast c (hindered_by was d r) q
    still d r flag = record { low = low; past = λ here. flag ∙ either_true (hinders r) was (is.past (same here)) }

    by : (d : FrontCall) (r : FrontReply) → CallGoes p d r ps q → IsPast c (hindered_by was d r) q
    by (call.Begin channel) (reply.Done at full) did = record {
      low = low;
      past = λ here. absurd (
          let above = begun_above ps p q channel did.goes ((did.tells).begun channel at full refl refl) in
          let first = is.low in
          let more = rises_to channel ps p q did.goes ((did.tells).begun channel at full refl refl) in
          omega (arith, here, first, above, more)
          );
    }
    by (call.Begin channel) (reply.Stands ready asked) did = still (call.Begin channel) (reply.Stands ready asked) refl
    by (call.Begin channel) reply.Kept did = still (call.Begin channel) reply.Kept refl
    by (call.Begin channel) (reply.Wrong cause) did = still (call.Begin channel) (reply.Wrong cause) refl
    by (call.Begin channel) (reply.Duplicate key) did = still (call.Begin channel) (reply.Duplicate key) refl
    by (call.Begin channel) reply.Unfit did = still (call.Begin channel) reply.Unfit refl
    by (call.Begin channel) reply.Memory did = still (call.Begin channel) reply.Memory refl
    by (call.Begin channel) reply.Full did = still (call.Begin channel) reply.Full refl
    by (call.Begin channel) reply.Refused did = still (call.Begin channel) reply.Refused refl
    by (call.Begin channel) (reply.Messages filled left) did = still (call.Begin channel) (reply.Messages filled left) refl
    by (call.Hear message) r did = still (call.Hear message) r refl
    by call.Retry r did = still call.Retry r refl
    by (call.Next channel place room) r did = still (call.Next channel place room) r refl
    by (call.Remove device) r did = still (call.Remove device) r refl
    by (call.Add device) r did = still (call.Add device) r refl
    by call.Look r did = still call.Look r refl
    by call.EndChannel r did = still call.EndChannel r refl
    by call.EndSession r did = still call.EndSession r refl

-- nothing is read there by a call that starts only where no reply hindered
call_unread : (c : ℕ) (was : Bool) (does : FrontCall) (back : FrontReply) (ps : List FrontPart) (p q : Served) (deeds : List Deed) → CallGoes p does back ps q → (may_start does back ≡ true → was ≡ false) → IsPast c was p → client_read c (deeds_after ps deeds) ≡ client_read c deeds
call_unread c was does back ps p q deeds goes starts is = by (may_start does back) refl (goes.tells).first
  where
    by : (b : Bool) → may_start does back ≡ b → StartsBy b ps → client_read c (deeds_after ps deeds) ≡ client_read c deeds
    by false e all = rest_unread c ps deeds all
    by true e all =
        parts_read c true ps p q goes.goes all deeds
        ∙ ap (λ (b : Bool). (if b then filter_map heard_in ps else []) ++ client_read c deeds) (ne_eqb (p.front).channel c (λ (same : (p.front).channel ≡ c). let stopped = is.past (sym same) in let none = starts e in cc (stopped, none)))

history_unread : (c : ℕ) (entries : List FrontEntry) (parts : List (List FrontPart)) (was : Bool) (p q : Served) (deeds : List Deed) → HistoryGoes p entries parts q → StartUnhindered was entries → IsPast c was p → client_read c (deeds_of_calls parts deeds) ≡ client_read c deeds
history_unread c [] [] was p q deeds goes starts is = refl
history_unread c [] (ps ∷ parts) was p q deeds goes starts is = absurd goes
history_unread c (e ∷ entries) [] was p q deeds goes starts is = absurd goes
history_unread c (e ∷ entries) (ps ∷ parts) was p q deeds goes starts is =
    history_unread c entries parts (hindered_by was e.call e.reply) goes.0 q (deeds_after ps deeds) goes.2 starts.1 (call_past c was e.call e.reply ps p goes.0 goes.1 is)
    ∙ call_unread c was e.call e.reply ps p goes.0 deeds goes.1 starts.0 is

pub calls_more : (parts : List (List FrontPart)) (deeds : List Deed) → (more : List Deed) × (deeds_of_calls parts deeds ≡ more ++ deeds)
calls_more [] deeds = ([], refl)
calls_more (ps ∷ parts) deeds =
    let (later, is) = calls_more parts (deeds_after ps deeds) in
    let (more, same) = deeds_more ps deeds in
    (later ++ more, is ∙ ap (λ (xs : List Deed). later ++ xs) same ∙ sym (append_assoc later more deeds))

-- ---- what a reply says of what was read

-- the replies to the calls that are made while a channel is read
abbrev pub given_replies : FrontCall → FrontReply → List FrontReply
given_replies (call.Begin channel) back = []
given_replies (call.Next channel place room) back = []
given_replies call.EndChannel back = []
given_replies call.EndSession back = []
given_replies does back = back ∷ []

asked_none : (does : FrontCall) (back : FrontReply) → asks_any does ≡ true → given_replies does back ≡ []
asked_none (call.Next channel place room) back asks = refl
asked_none (call.Begin channel) back asks = refl
asked_none (call.Hear message) back asks = absurd (cc (asks))
asked_none call.Retry back asks = absurd (cc (asks))
asked_none (call.Remove device) back asks = absurd (cc (asks))
asked_none (call.Add device) back asks = absurd (cc (asks))
asked_none call.Look back asks = absurd (cc (asks))
asked_none call.EndChannel back asks = refl
asked_none call.EndSession back asks = refl

pub replies_inside : GivesInside given_replies
replies_inside = record { asked = asked_none; begins = λ channel back. refl; ends = λ back. refl; over = λ back. refl }

-- what holds of the reply of a call holds of what the call gives
one_given : (P : FrontReply → Type 0) (does : FrontCall) (back : FrontReply) → (IsMiddle does → P back) → AllByRecursion P (given_replies does back)
one_given P (call.Begin channel) back is = tt
one_given P (call.Next channel place room) back is = tt
one_given P (call.Hear message) back is = (is tt, tt)
one_given P call.Retry back is = (is tt, tt)
one_given P (call.Remove device) back is = (is tt, tt)
one_given P (call.Add device) back is = (is tt, tt)
one_given P call.Look back is = (is tt, tt)
one_given P call.EndChannel back is = tt
one_given P call.EndSession back is = tt

-- such a call hinders where its reply does
middle_hindered : (was : Bool) (does : FrontCall) (back : FrontReply) → IsMiddle does → hinders back ≡ true → hindered_by was does back ≡ true
middle_hindered was (call.Begin channel) back middle is = absurd middle
middle_hindered was (call.Next channel place room) back middle is = absurd middle
middle_hindered was (call.Hear message) back middle is = ap (λ (b : Bool). b || was) is
middle_hindered was call.Retry back middle is = ap (λ (b : Bool). b || was) is
middle_hindered was (call.Remove device) back middle is = ap (λ (b : Bool). b || was) is
middle_hindered was (call.Add device) back middle is = ap (λ (b : Bool). b || was) is
middle_hindered was call.Look back middle is = ap (λ (b : Bool). b || was) is
middle_hindered was call.EndChannel back middle is = absurd middle
middle_hindered was call.EndSession back middle is = absurd middle

middle_still : (now : ℕ) (does : FrontCall) (back : FrontReply) → IsMiddle does → begun_to now does back ≡ now
middle_still now (call.Begin channel) back middle = absurd middle
middle_still now (call.Next channel place room) back middle = refl
middle_still now (call.Hear message) back middle = refl
middle_still now call.Retry back middle = refl
middle_still now (call.Remove device) back middle = refl
middle_still now (call.Add device) back middle = refl
middle_still now call.Look back middle = refl
middle_still now call.EndChannel back middle = refl
middle_still now call.EndSession back middle = refl

-- a call of a history, by which the rest of it goes on
module _ (e : FrontEntry) (ps : List FrontPart) (entries : List FrontEntry) (parts : List (List FrontPart)) (was hindered : Bool) (p mid q : Served) (deeds : List Deed) (goes : CallGoes p e.call e.reply ps mid) (step : FrontStep p.front e.call e.reply mid.front)
    (rest : HistoryGoes mid entries parts q) (before : HearBefore was ps) (starts : StartUnhindered (hindered_by hindered e.call e.reply) entries) (keyed : IsKeyed p) (told : IsTold p deeds) (follows : Follows was p deeds) (middle : IsMiddle e.call)
  where
    abbrev c : ℕ
    c = (p.front).channel

    abbrev all : List Deed
    all = deeds_of_calls parts (deeds_after ps deeds)

    same_channel : (mid.front).channel ≡ c
    same_channel = tracks p.front e.call e.reply mid.front step ∙ middle_still c e.call e.reply middle

    -- nothing is read there any more
    unread_then : hinders e.reply ≡ true → client_read c all ≡ client_read c (deeds_after ps deeds)
    unread_then is = history_unread c entries parts (hindered_by hindered e.call e.reply) mid q (deeds_after ps deeds) rest starts
        (record { low = (let same = same_channel in omega (arith, same)); past = λ here. middle_hindered hindered e.call e.reply middle is })

    wrong_cause : (wrong : EndFault) → e.reply ≡ reply.Wrong wrong → LastIsWrong wrong (client_read c all)
    wrong_cause wrong is =
        let (m, does, next, made) = subst (λ (r : FrontReply). StepSays p.front e.call r mid.front) is (step_says p.front e.call e.reply mid.front step) in
        let heard : filter_map heard_in ps ≡ m ∷ [] = subst (λ (r : FrontReply). HearsAs (call.Hear m) r (filter_map heard_in ps)) is (subst (λ (d : FrontCall). HearsAs d e.reply (filter_map heard_in ps)) does goes.heard) in
        let may : may_start e.call e.reply ≡ true = λ i. may_start (does i) (is i) in
        let first : StartsBy true ps = subst (λ (b : Bool). StartsBy b ps) may (goes.tells).first in
        let one = heard_by_first ps was p mid m goes.goes first before heard in
        let fine = follows.sound one.sound one.on in
        record {
          message = m;
          older = client_read c deeds;
          read_are = unread_then (ap hinders is) ∙ parts_read c true ps p mid goes.goes first deeds ∙ ap (λ (ms : List (List ℕ)). on_channel c c ms ++ client_read c deeds) heard ∙ ap (λ (b : Bool). (if b then m ∷ [] else []) ++ client_read c deeds) (eq-eqb c c refl);
          state = (((p.front).client).core).shake;
          leads = follows.state one.on fine;
          has = subst (SaysTo (p.front).client m) made (says_to (p.front).client m fine);
        }

    used_cause : (key : Key) → e.reply ≡ reply.Duplicate key → WasInUse c all
    used_cause key is =
        let used = refused_in ps p mid was (may_start e.call e.reply) c key deeds goes.goes (goes.tells).first (omega arith) (let same = same_channel in omega (arith, same)) keyed told follows goes.after
        (goes.handed ∙ ap handed_out is) (λ some. subst RanOut is ((goes.tells).lost some)) ((goes.tells).duplicate key is) in
        let (more, same) = calls_more parts (deeds_after ps deeds) in
        record {
          since = more ++ used.since;
          before = used.before;
          deeds_are = same ∙ ap (λ (xs : List Deed). more ++ xs) used.deeds_are ∙ sym (append_assoc more used.since used.before);
          used = used.used;
          unread = unread_then (ap hinders is) ∙ used.unread;
          never = λ sent. used.never (history_sent c entries parts mid q ((used.used).request).device (used.used).key (deeds_after ps deeds) rest (parts_keyed ps p mid goes.goes keyed) ended (used.used).on_it sent);
        }
      where
        off : (mid.front).on ≡ false
        off = subst (λ (r : FrontReply). StepSays p.front e.call r mid.front) is (step_says p.front e.call e.reply mid.front step)

        ended : IsEnded c mid
        ended = record { low = (let same = same_channel in omega (arith, same)); off = λ here. off }

    cause_here : IsCausedReply all c e.reply
    cause_here = by e.reply refl
      where
        by : (back : FrontReply) → e.reply ≡ back → IsCausedReply all c back
        by (reply.Wrong wrong) is = wrong_cause wrong is
        by (reply.Duplicate key) is = used_cause key is
        by (reply.Done at full) is = tt
        by (reply.Stands ready asked) is = tt
        by reply.Kept is = tt
        by reply.Unfit is = tt
        by reply.Memory is = tt
        by reply.Full is = tt
        by reply.Refused is = tt
        by (reply.Messages filled left) is = tt

-- By each reply on a channel what was read there is as it says.
pub history_causes : (c : ℕ) (entries : List FrontEntry) (parts : List (List FrontPart)) (was hindered : Bool) (p q : Served) (deeds : List Deed) (goes : HistoryGoes p entries parts q) → AreSteps p entries parts q goes → CallsHearBefore was parts → StartUnhindered hindered entries → IsKeyed p → IsTold p deeds → Follows was p deeds
    → AllByRecursion (IsCausedReply (deeds_of_calls parts deeds) c) (given_on given_replies c (p.front).channel entries)
history_causes c [] [] was hindered p q deeds goes steps before starts keyed told follows = tt
history_causes c [] (ps ∷ parts) was hindered p q deeds goes steps before starts keyed told follows = absurd goes
history_causes c (e ∷ entries) [] was hindered p q deeds goes steps before starts keyed told follows = absurd goes
history_causes c (e ∷ entries) (ps ∷ parts) was hindered p q deeds goes steps before starts keyed told follows =
    all_append (IsCausedReply (deeds_of_calls parts (deeds_after ps deeds)) c) (on_channel c (p.front).channel (given_replies e.call e.reply)) (given_on given_replies c (begun_to (p.front).channel e.call e.reply) entries) (here ((p.front).channel == c) refl)
    (subst (λ (n : ℕ). AllByRecursion (IsCausedReply (deeds_of_calls parts (deeds_after ps deeds)) c) (given_on given_replies c n entries)) (tracks p.front e.call e.reply (goes.0).front steps.0)
    (history_causes c entries parts (stopped_after was ps) (hindered_by hindered e.call e.reply) goes.0 q (deeds_after ps deeds) goes.2 steps.1 before.1 starts.1
    (parts_keyed ps p goes.0 (goes.1).goes keyed) (parts_told ps p goes.0 deeds (goes.1).goes keyed told) (parts_follow ps was p goes.0 deeds (goes.1).goes keyed told follows)))
  where
    here : (b : Bool) → ((p.front).channel == c) ≡ b → AllByRecursion (IsCausedReply (deeds_of_calls parts (deeds_after ps deeds)) c) (if b then given_replies e.call e.reply else [])
    here false other = tt
    here true same =
        one_given (IsCausedReply (deeds_of_calls parts (deeds_after ps deeds)) c) e.call e.reply (λ middle.
        subst (λ (n : ℕ). IsCausedReply (deeds_of_calls parts (deeds_after ps deeds)) n e.reply) (eqb-true (p.front).channel c same)
        (cause_here e ps entries parts was hindered p goes.0 q deeds goes.1 steps.0 goes.2 before.0 starts.1 keyed told follows middle))

-- ---- channels

-- What holds of what a channel's calls give holds of the reply of each.
pub replies_each : (P : FrontReply → Type 0) (entries : List FrontEntry) → AreMiddle entries → AllByRecursion P (given_in given_replies entries) → AllByRecursion (λ (e : FrontEntry). P e.reply) entries
replies_each P [] middle given = tt
replies_each P (e ∷ entries) middle given = by e.call middle.0 given (replies_each P entries middle.1)
  where
    by : (does : FrontCall) → IsMiddle does → AllByRecursion P (given_replies does e.reply ++ given_in given_replies entries) → (AllByRecursion P (given_in given_replies entries) → AllByRecursion (λ (x : FrontEntry). P x.reply) entries)
        → AllByRecursion (λ (x : FrontEntry). P x.reply) (e ∷ entries)
    by (call.Begin channel) never each rest = absurd never
    by (call.Next channel place room) never each rest = absurd never
    by (call.Hear message) here each rest = (each.0, rest each.1)
    by call.Retry here each rest = (each.0, rest each.1)
    by (call.Remove device) here each rest = (each.0, rest each.1)
    by (call.Add device) here each rest = (each.0, rest each.1)
    by call.Look here each rest = (each.0, rest each.1)
    by call.EndChannel never each rest = absurd never
    by call.EndSession never each rest = absurd never
