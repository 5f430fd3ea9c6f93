-- What each part of a call does, a call does.
use Rattle.std.proofs.Common.{◌≡◌, sym, subst, ℕ, zero, suc, ◌==◌, Bool, true, false, not, ◌&&◌, List, [], ◌∷◌, Option, Some, None, length, nat_lt}
use Rattle.std.specs.Prelude.{Result, Ok, Err}
use Rattle.std.specs.declared.alloc.AllocError.{AllocError}
use Rattle.std.specs.List.{AllZip}
use Rattle.rd_base.specs.declared.status.Status.{Status}
use Rattle.rd_client.specs.Core.{Outgoing, directs, hears, tells_added, tells_removed}
use Rattle.rd_client.specs.declared.heard.Heard.{Heard}
use Rattle.rd_client.specs.declared.heard.Heard.TheVariants.{Nothing, Ask, Print}
use Rattle.rd_desk.specs.declared.calls.DeskCall.{DeskCall}
use Rattle.rd_desk.specs.declared.calls.DeskReply.{DeskReply}
use Rattle.rd_desk.specs.declared.calls.DeskReply.TheVariants as replied
use Rattle.rd_drive.specs.declared.plan.Job.{Job}
use Rattle.rd_hello.specs.declared.end_fault.EndFault.{EndFault}
use Rattle.rd_hello.specs.declared.end_fault.EndFault.TheVariants as fault
use Rattle.rd_printer.specs.declared.notice.Notice.{Notice}
use Rattle.rd_printer.specs.Cache.{HearsNotice}
use Rattle.rd_station.specs.declared.refusals.PutWhy.{PutWhy}
use Rattle.rd_station.specs.declared.refusals.PutWhy.TheVariants as why
use Rattle.rd_turn.specs.declared.object.Entry.{Entry}
use Rattle.rd_turn.specs.History.{Leads}
use Rattle.rd_world.specs.World.{Kept}
use Rattle.rd_front.specs.declared.calls.FrontCall.{FrontCall}
use Rattle.rd_front.specs.declared.calls.FrontCall.TheVariants as call
use Rattle.rd_front.specs.declared.calls.FrontReply.{FrontReply}
use Rattle.rd_front.specs.declared.calls.FrontReply.TheVariants as reply
use Rattle.rd_front.specs.declared.calls.Rest.{Rest}
use Rattle.rd_front.specs.declared.next.Got.{Got}
use Rattle.rd_front.specs.declared.next.Got.TheVariants as got
use Rattle.rd_front.specs.Front.{AddsBy, AddsIf, Announces, AnnouncesOne, AnnouncesUnless, AnswersDirectly, BeginsIf, ChannelEnds, ClientDoes, Collects, CutsAt, DeskDoes, Each, EndsBy, Fills, FillsBy, FollowsFrom, FrontAdds, FrontBegins, FrontHears, FrontRemoves, FrontRetries, FrontStep, GivesBy, GivesNext, Hands, HeardBy, OpeningEnds, PutBy, Puts, PutsIf, Refreshes, RefreshesOne, RefusedPut, RemovesBy, Sends, SessionEnds, Then, Where, begun, channel_ended, desk_place, done_at, end_call, is_front_full, is_front_ready, may_add, may_hear, may_remove, most_written, one_if_done, with_new_data}
use Rattle.rd_front.specs.Kept.{IsFrontCall}
use Rattle.rd_room.specs.Room.{MessageRoom}
use Rattle.rd_front.specs.State.{DeviceDeskState, FrontState}

-- Each part of a call relates the front before it to the front after it, and so does one part after another.
pub record Carries (R : FrontState → FrontState → Type 0) : Type 0 where
  pub stays : (s : FrontState) → R s s
  pub joins : (a b c : FrontState) → R a b → R b c → R a c
  pub hears_by : (old new : FrontState) (message : List ℕ) (answer : Result Heard EndFault) → ClientDoes old (hears message answer) (most_written (is_front_ready old)) new → R old new
  pub directs_by : (old new : FrontState) (job : Job) (device : ℕ) (st : Status) (answer : Result (Unit {0}) AllocError)
      → ClientDoes old (directs job device st answer) (one_if_done answer) new → R old new
  pub removes_by : (old new : FrontState) (device : ℕ) (answer : Result (Unit {0}) AllocError) → ClientDoes old (tells_removed device answer) (one_if_done answer) new → R old new
  pub adds_by : (old new : FrontState) (device : ℕ) (answer : Result (Unit {0}) AllocError) → ClientDoes old (tells_added device answer) (one_if_done answer) new → R old new
  pub sends_by : (old new : FrontState) (sent : Option Outgoing) → Sends old sent new → R old new
  pub calls_by : (old new : FrontState) (place : ℕ) (does : DeskCall) (back : DeskReply) → IsFrontCall does → DeskDoes old place does back new → R old new
  pub keeps_by : (s : FrontState) (kept : Option Kept) → R s (record s { kept = kept })
  pub learns_by : (old new : FrontState) (n : Notice) (answer : Result (Unit {0}) AllocError) → HearsNotice old.cache n answer new.cache → new ≡ record old { cache = new.cache } → R old new
  pub refreshes_by : (s : FrontState) (device : ℕ) → R s (with_new_data s device)
  pub begins_by : (s : FrontState) (channel : ℕ) → R s (begun s channel)
  pub ends_by : (s : FrontState) (over : Bool) (desks : List DeviceDeskState) → AllZip (EndsBy (end_call over)) s.desks desks → R s (channel_ended s desks)
  pub over_by : (s : FrontState) → R s (record s { over = true })

module _ (R : FrontState → FrontState → Type 0) (by : Carries R) where
  to : (old made new : FrontState) → new ≡ made → R old made → R old new
  to old made new is r = subst (λ (s : FrontState). R old s) (sym is) r

  same : (old new : FrontState) → new ≡ old → R old new
  same old new is = to old old new is (by.stays old)

  where_fits : (b : Bool) (other back : FrontReply) (old new : FrontState) (does : Type 0) → (does → R old new) → Where b other back old new does → R old new
  where_fits true other back old new does on did = on did
  where_fits false other back old new does on did = same old new did.1

  unless_full : (old : FrontState) (back : FrontReply) (new : FrontState) (does : Type 0) → (does → R old new) → (fits : Bool)
      → Where fits reply.Refused back old new (Where (not (is_front_full old)) reply.Full back old new does) → R old new
  unless_full old back new does on fits did =
      where_fits fits reply.Refused back old new _ (where_fits (not (is_front_full old)) reply.Full back old new does on) did

  then_goes : (went found : Bool) (old new : FrontState) (does : Type 0) → (does → R old new) → Then went found old new does → R old new
  then_goes true found old new does on did = on did
  then_goes false found old new does on did = same old new did.1

  each : {A : Type 0} (does : A → FrontState → Bool → FrontState → Type 0) → ((x : A) (old : FrontState) (found : Bool) (new : FrontState) → does x old found new → R old new)
      → (xs : List A) (old : FrontState) (found : Bool) (new : FrontState) → Each does xs old found new → R old new
  each does one [] old found new did = same old new did.1
  each does one (x ∷ xs) old found new did = by.joins old did.1 new (one x old did.0 did.1 did.2) (then_goes did.0 found did.1 new _ (each does one xs did.1 found new) did.3)

  channel_ends : (old new : FrontState) → ChannelEnds old new → R old new
  channel_ends old new did = to old (channel_ended old new.desks) new did.1 (by.ends_by old false new.desks did.0)

  session_ends : (old new : FrontState) → SessionEnds old new → R old new
  session_ends old new did =
      to old (record (channel_ended old new.desks) { over = true }) new did.1
      (by.joins old (channel_ended old new.desks) _ (by.ends_by old true new.desks did.0) (by.over_by (channel_ended old new.desks)))

  answers : (old : FrontState) (device : ℕ) (job : Job) (st : Status) (back : FrontReply) (new : FrontState) → AnswersDirectly old device job st back new → R old new
  answers old device job st back new did = by.directs_by old new job device st did.0 did.1

  refused : (old : FrontState) (device : ℕ) (job : Job) (cause : PutWhy) (back : FrontReply) (new : FrontState) → RefusedPut old device job cause back new → R old new
  refused old device job why.Gone back new did = answers old device job _ back new did
  refused old device job (why.Duplicate key) back new did = channel_ends old new did.1
  refused old device job (why.Full held) back new did = to old _ new did.1 (by.keeps_by old (Some (record { device = device; job = job })))
  refused old device job (why.Worn count) back new did = answers old device job _ back new did
  refused old device job why.Memory back new did = same old new did.1

  put_by : (old : FrontState) (device place : ℕ) (answer : DeskReply) (back : FrontReply) (new : FrontState) → PutBy old device place answer back new → R old new
  put_by old device place (replied.Put (Ok done)) back new did = same old new did.1
  put_by old device place (replied.Put (Err other)) back new did = refused old device other.job other.why back new did
  put_by old device place (replied.Unfit job) back new did = same old new did.1
  put_by old device place (replied.Announced answer) back new did = absurd did
  put_by old device place (replied.Worked w) back new did = absurd did
  put_by old device place (replied.Collected answer) back new did = absurd did
  put_by old device place (replied.Removed answer) back new did = absurd did
  put_by old device place replied.Dropped back new did = absurd did
  put_by old device place replied.Ended back new did = absurd did

  puts_if : (old : FrontState) (device : ℕ) (job : Job) (place : Option ℕ) (back : FrontReply) (new : FrontState) → PutsIf old device job place back new → R old new
  puts_if old device job None back new did = answers old device job _ back new did
  puts_if old device job (Some place) back new did =
      by.joins old did.1 new (by.calls_by old did.1 place _ did.0 tt did.2) (put_by did.1 device place did.0 back new did.3)

  put : (old : FrontState) (device : ℕ) (job : Job) (back : FrontReply) (new : FrontState) → Puts old device job back new → R old new
  put old device job back new did = where_fits _ _ back old new _ (puts_if old device job (desk_place old.desks device) back new) did

  retries : (old : FrontState) (kept : Option Kept) (back : FrontReply) (new : FrontState) → FrontRetries old kept back new → R old new
  retries old None back new did = same old new did.1
  retries old (Some k) back new did = by.joins old (record old { kept = None }) new (by.keeps_by old None) (put (record old { kept = None }) k.device k.job back new did)

  announces : (old : FrontState) (place : Option ℕ) (found : Bool) (new : FrontState) → Announces old place found new → R old new
  announces old None found new did = same old new did.1
  announces old (Some place) found new did = by.calls_by old new place _ did.0 tt did.1

  announces_unless : (removed : Bool) (old : FrontState) (device : ℕ) (found : Bool) (new : FrontState) → AnnouncesUnless removed old device found new → R old new
  announces_unless true old device found new did = same old new did.1
  announces_unless false old device found new did = announces old _ found new did

  opens : (opening : Bool) (old : FrontState) (back : FrontReply) (new : FrontState) → OpeningEnds opening old back new → R old new
  opens true old back new did =
      each AnnouncesOne (λ d a found b one. announces_unless d.removed a (d.announce).id found b one) (old.client).devices old did.0 new did.1
  opens false old back new did = same old new did.1

  follows : (ready : Bool) (old : FrontState) (heard : Heard) (back : FrontReply) (new : FrontState) → HeardBy ready old heard back new → R old new
  follows ready old Nothing back new did = opens (not ready && is_front_ready old) old back new did
  follows ready old (Ask device job) back new did = put old device job back new did
  follows ready old (Print n) back new did = by.learns_by old new n did.0 did.1 did.2

  follows_from : (ready : Bool) (old : FrontState) (answer : Result Heard EndFault) (back : FrontReply) (new : FrontState) → FollowsFrom ready old answer back new → R old new
  follows_from ready old (Err fault.Memory) back new did = same old new did.1
  follows_from ready old (Err (fault.Order state packet)) back new did = same old new did.1
  follows_from ready old (Err (fault.Grammar bad)) back new did = same old new did.1
  follows_from ready old (Ok heard) back new did = follows ready old heard back new did

  refreshes : (old : FrontState) (device : ℕ) (found : Bool) (new : FrontState) → Refreshes old device found new → R old new
  refreshes old device true new did = to old _ new did (by.refreshes_by old device)
  refreshes old device false new did = same old new did

  begins_if : (found : Bool) (old : FrontState) (channel : ℕ) (back : FrontReply) (new : FrontState) → BeginsIf found old channel back new → R old new
  begins_if true old channel back new did = to old _ new did.1 (by.begins_by old channel)
  begins_if false old channel back new did = same old new did.1

  cuts : (old : FrontState) (place : Option ℕ) (new : FrontState) → CutsAt old place new → R old new
  cuts old None new did = same old new did
  cuts old (Some place) new did = by.calls_by old new place _ did.0 tt did.1

  removes : (old : FrontState) (device : ℕ) (answer : Result (Unit {0}) AllocError) (back : FrontReply) (new : FrontState) → RemovesBy old device answer back new → R old new
  removes old device (Ok done) back new did = cuts old _ new did.1
  removes old device (Err error) back new did = same old new did.1

  adds : (old : FrontState) (device : ℕ) (answer : Result (Unit {0}) AllocError) (back : FrontReply) (new : FrontState) → AddsBy old device answer back new → R old new
  adds old device (Ok done) back new did = announces old _ did.0 new did.1
  adds old device (Err error) back new did = same old new did.1

  adds_if : (found : Bool) (old : FrontState) (device : ℕ) (back : FrontReply) (new : FrontState) → AddsIf found old device back new → R old new
  adds_if true old device back new did = by.joins old did.1 new (by.adds_by old did.1 device did.0 did.2) (adds did.1 device did.0 back new did.3)
  adds_if false old device back new did = same old new did.1

  collects : (there : Bool) (old : FrontState) (place : ℕ) (came : Got) (new : FrontState) → Collects there old place came new → R old new
  collects true old place came new did = by.calls_by old new place _ did.0 tt did.3
  collects false old place came new did = same old new did.1

  gives_by : (old : FrontState) (place : ℕ) (sent : Option Outgoing) (came : Got) (new : FrontState) → GivesBy old place sent came new → R old new
  gives_by old place (Some o) came new did = same old new did.1
  gives_by old place None came new did = collects (nat_lt place (length old.desks)) old place came new did

  gives : (old : FrontState) (place : ℕ) (came : Got) (new : FrontState) → GivesNext old place came new → R old new
  gives old place came new did = by.joins old did.1 new (by.sends_by old did.1 did.0 did.2) (gives_by did.1 place did.0 came new did.3)

  fills_by : (came : Got) (old : FrontState) (messages : List (List ℕ)) (left : Rest) (new : FrontState) (others : List (List ℕ) → Type 0)
      → ((later : List (List ℕ)) → others later → R old new) → FillsBy came old messages left new others → R old new
  fills_by (got.Message message) old messages left new others on did = on did.0 did.2
  fills_by got.Nothing old messages left new others on did = same old new did.2
  fills_by got.Memory old messages left new others on did = same old new did.2

  fills : (most : ℕ) (old : FrontState) (place : ℕ) (messages : List (List ℕ)) (left : Rest) (new : FrontState) → Fills most old place messages left new → R old new
  fills zero old place messages left new did = same old new did.2
  fills (suc most) old place messages left new did =
      by.joins old did.1 new (gives old place did.0 did.1 did.2)
      (fills_by did.0 did.1 messages left new (λ later. Fills most did.1 place later left new) (λ later. fills most did.1 place later left new) did.3)

  hands : (old : FrontState) (place : ℕ) (room : MessageRoom) (back : FrontReply) (new : FrontState) → Hands old place room back new → R old new
  hands old place room (reply.Messages filled left) new did = fills room.places old place filled.messages left new did.1
  hands old place room (reply.Done at full) new did = absurd did
  hands old place room (reply.Stands ready asked) new did = absurd did
  hands old place room reply.Kept new did = absurd did
  hands old place room (reply.Wrong cause) new did = absurd did
  hands old place room (reply.Duplicate key) new did = absurd did
  hands old place room reply.Unfit new did = absurd did
  hands old place room reply.Memory new did = absurd did
  hands old place room reply.Full new did = absurd did
  hands old place room reply.Refused new did = absurd did

  -- a call does it
  pub one_call : (old : FrontState) (does : FrontCall) (back : FrontReply) (new : FrontState) → FrontStep old does back new → R old new
  one_call old (call.Begin channel) back new did = where_fits _ _ back old new _ (λ (d : FrontBegins old channel back new).
      by.joins old d.1 new (each RefreshesOne (λ p a found b one. refreshes a p.0 found b one) old.printers old d.0 d.1 d.2) (begins_if d.0 d.1 channel back new d.3)) did
  one_call old (call.Hear message) back new did = unless_full old back new _ (λ (d : FrontHears old message back new).
      by.joins old d.1 new (by.hears_by old d.1 message d.0 d.2) (follows_from (is_front_ready old) d.1 d.0 back new d.3)) (may_hear old) did
  one_call old call.Retry back new did = unless_full old back new _ (retries old old.kept back new) old.on did
  one_call old (call.Next channel place room) back new did = where_fits (channel == old.channel) _ back old new _ (hands old place room back new) did
  one_call old (call.Remove device) back new did = unless_full old back new _ (λ (d : FrontRemoves old device back new).
      by.joins old d.1 new (by.removes_by old d.1 device d.0 d.2) (removes d.1 device d.0 back new d.3)) (may_remove old device) did
  one_call old (call.Add device) back new did = unless_full old back new _ (λ (d : FrontAdds old device back new).
      by.joins old d.1 new (refreshes old device d.0 d.1 d.2) (adds_if d.0 d.1 device back new d.3)) (may_add old device) did
  one_call old call.Look back new did = to old old new did.1 (by.stays old)
  one_call old call.EndChannel back new did = where_fits old.on reply.Refused back old new _ (λ (d : (back ≡ done_at None new) × ChannelEnds old new). channel_ends old new d.1) did
  one_call old call.EndSession back new did = where_fits (not old.over) reply.Refused back old new _ (λ (d : (back ≡ done_at None new) × SessionEnds old new). session_ends old new d.1) did

  -- and so do all calls of a history
  pub all_calls : (old : FrontState) (entries : List (Entry FrontCall FrontReply)) (new : FrontState) → Leads FrontStep old entries new → R old new
  all_calls old [] new is = to old old new (sym is) (by.stays old)
  all_calls old (e ∷ entries) new leads = by.joins old leads.0 new (one_call old e.call e.reply leads.0 leads.1) (all_calls leads.0 entries new leads.2)
