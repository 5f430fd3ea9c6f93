-- What each part of a call of a host's front relates, each call does, and each history.
use Rattle.std.proofs.Common.{◌≡◌, ◌∙◌, refl, sym, subst, ℕ, zero, suc, Bool, true, false, List, [], ◌∷◌, Option, Some, None, Result, Ok, Err}
use Rattle.std.specs.Prelude.{MatchBool}
use Rattle.std.specs.declared.alloc.AllocError.{AllocError}
use Rattle.rd_base.specs.declared.status.Status.{Status}
use Rattle.rd_base.specs.Statuses as status
use Rattle.rd_devices.specs.declared.list.Announce.{Announce}
use Rattle.rd_hello.specs.declared.end_fault.EndFault.{EndFault}
use Rattle.rd_hello.specs.declared.end_fault.EndFault.TheVariants as fault
use Rattle.rd_host.specs.declared.act.Act.{Act}
use Rattle.rd_host.specs.declared.act.Act.TheVariants as act
use Rattle.rd_host.specs.Core.{HostStep, begins, hears, replies}
use Rattle.rd_host.specs.Served.{is_served_type}
use Rattle.rd_pending.specs.declared.calls.LiveNo.{LiveNo}
use Rattle.rd_pending.specs.declared.calls.LiveNo.TheVariants as live_no
use Rattle.rd_room.specs.Room.{MessageRoom}
use Rattle.rd_table.specs.declared.calls.PendingCall.{PendingCall}
use Rattle.rd_table.specs.declared.calls.PendingReply.{PendingReply}
use Rattle.rd_turn.specs.declared.object.Entry.{Entry}
use Rattle.rd_turn.specs.History.{Leads}
use Rattle.rd_host_front.specs.declared.calls.HostFrontCall.{HostFrontCall}
use Rattle.rd_host_front.specs.declared.calls.HostFrontCall.TheVariants as call
use Rattle.rd_host_front.specs.declared.calls.HostFrontReply.{HostFrontReply}
use Rattle.rd_host_front.specs.declared.calls.HostFrontReply.TheVariants as reply
use Rattle.rd_host_front.specs.declared.calls.Stop.{Stop}
use Rattle.rd_host_front.specs.HostFront.{Admits, AdmitsAll, AdmitsBy, BeginsChannel, BeginsIfFound, BeginsLife, BeginsTable, CoreDoes, DropsBy, DropsUnsent, EndsChannel, EndsSent, FillsAfter, FillsRoom, Follows, FollowsAnswer, ForgetsAll, GivesAfter, HandsOver, HearsMessage, HostFrontStep, OnFound, RenewsIf, RepliesToDevice, SendsOwn, TableDoes, begun_if, has_begun, has_many_unsent, is_found, is_channel_on, life_code, is_opened, may_begin_on, may_renew, most_following, one_if_found, over_on, unsent_at_begin}
use Rattle.rd_host_front.specs.State.{FrontPassState, HostFrontState, PassOfTable, Renews, RenewsBy}

-- with another pass of the table
abbrev pub with_table : HostFrontState → FrontPassState → HostFrontState
with_table s table = record s { table = table }

-- Each part of a call relates the front before it to the front after it, and so does one part after another.
pub record Carries (R : HostFrontState → HostFrontState → Type 0) : Type 0 where
  pub stays : (s : HostFrontState) → R s s
  pub joins : (a b c : HostFrontState) → R a b → R b c → R a c
  pub hears_by : (old new : HostFrontState) (message : List ℕ) (answer : Result Act EndFault) → CoreDoes old (hears message answer) (most_following (is_opened old)) new → R old new
  pub replies_by : (old new : HostFrontState) (device : ℕ) (code : Status) (answer : Result (Unit {0}) AllocError) → CoreDoes old (replies device code answer) (one_if_found (is_found answer)) new → R old new
  pub sends_by : (old new : HostFrontState) (sent : Option (List ℕ)) → SendsOwn old sent new → R old new
  pub calls_by : (old new : HostFrontState) (does : PendingCall) (back : PendingReply) → TableDoes old does back new → R old new
  pub renews_by : (s : HostFrontState) (first last : PassOfTable) (table : FrontPassState) → Renews first s.table last table → R s (with_table s table)
  pub renews_at : (s : HostFrontState) (does : PendingCall) (back : PendingReply) (first last : PassOfTable) (table : FrontPassState) → RenewsBy does back first s.table last table → R s (with_table s table)
  pub begins_by : (old new : HostFrontState) (answer : Result (Unit {0}) AllocError) → HostStep old.core (begins answer) new.core
      → new ≡ record old { core = new.core; unsent = unsent_at_begin (is_found answer) old.unsent } → R old new
  pub takes_up : (s : HostFrontState) (channel : ℕ) → R s (record s { channel = channel; on = true })
  pub ends_by : (s : HostFrontState) → R s (over_on s)
  -- nothing of the core was to be sent
  pub marks_by : (s : HostFrontState) → ((s.core).core).outbox ≡ [] → R s (record s { on = false; unsent = 0 })

module _ (R : HostFrontState → HostFrontState → Type 0) (by : Carries R) where
  to : (old made new : HostFrontState) → new ≡ made → R old made → R old new
  to old made new is r = subst (λ (s : HostFrontState). R old s) (sym is) r

  same : (old new : HostFrontState) → new ≡ old → R old new
  same old new is = to old old new is (by.stays old)

  either : (b : Bool) (P Q : Type 0) (old new : HostFrontState) → (P → R old new) → (Q → R old new) → MatchBool b P Q → R old new
  either true P Q old new one other did = one did
  either false P Q old new one other did = other did

  found_on : (went found : Bool) (old new : HostFrontState) (does : Type 0) → (does → R old new) → OnFound went found old new does → R old new
  found_on true found old new does on did = on did
  found_on false found old new does on did = same old new did.1

  admits_by : (old : HostFrontState) (device : ℕ) (life : Result ℕ LiveNo) (found : Bool) (new : HostFrontState) → AdmitsBy old device life found new → R old new
  admits_by old device (Err live_no.Memory) found new did = same old new did.1
  admits_by old device (Ok life) found new did = by.replies_by old new device (life_code (Ok life)) did.0 did.1
  admits_by old device (Err live_no.NoChannel) found new did = by.replies_by old new device (life_code (Err live_no.NoChannel)) did.0 did.1
  admits_by old device (Err live_no.Already) found new did = by.replies_by old new device (life_code (Err live_no.Already)) did.0 did.1
  admits_by old device (Err live_no.Full) found new did = by.replies_by old new device (life_code (Err live_no.Full)) did.0 did.1
  admits_by old device (Err (live_no.Worn count)) found new did = by.replies_by old new device (life_code (Err (live_no.Worn count))) did.0 did.1

  admits : (a : Announce) (old : HostFrontState) (found : Bool) (new : HostFrontState) → Admits old a found new → R old new
  admits a old found new did = either (is_served_type a.kind) _ _ old new
      (λ (d : BeginsLife old a.id found new). by.joins old d.1 new (by.calls_by old d.1 _ _ d.2) (admits_by d.1 a.id d.0 found new d.3))
      (λ (d : RepliesToDevice old a.id status.not_supported found new). by.replies_by old new a.id status.not_supported d.0 d.1) did

  admits_all : (devices : List Announce) (old : HostFrontState) (found : Bool) (new : HostFrontState) → AdmitsAll devices old found new → R old new
  admits_all [] old found new did = same old new did.1
  admits_all (a ∷ devices) old found new did =
      by.joins old did.1 new (admits a old did.0 did.1 did.2) (found_on did.0 found did.1 new _ (admits_all devices did.1 found new) did.3)

  forgets_all : (ids : List ℕ) (old new : HostFrontState) → ForgetsAll ids old new → R old new
  forgets_all [] old new did = same old new did
  forgets_all (id ∷ ids) old new did = by.joins old did.0 new (by.calls_by old did.0 _ _ did.1.1) (forgets_all ids did.0 new did.2)

  gives_after : (old : HostFrontState) (sent given : Option (List ℕ)) (new : HostFrontState) → GivesAfter old sent given new → R old new
  gives_after old (Some message) given new did = same old new did.1
  gives_after old None given new did = by.calls_by old new _ _ did

  fills_after : (given : Option (List ℕ)) (old : HostFrontState) (messages : List (List ℕ)) (why : Stop) (new : HostFrontState) (others : List (List ℕ) → Type 0)
      → ((later : List (List ℕ)) → others later → R old new) → FillsAfter given old messages why new others → R old new
  fills_after (Some message) old messages why new others on did = on did.0 did.2
  fills_after None old messages why new others on did = same old new did.2

  fills : (most : ℕ) (old : HostFrontState) (messages : List (List ℕ)) (why : Stop) (new : HostFrontState) → FillsRoom most old messages why new → R old new
  fills zero old messages why new did = same old new did.2
  fills (suc most) old messages why new did =
      by.joins old did.1 new (by.joins old did.2.1 did.1 (by.sends_by old did.2.1 did.2.0 did.2.2) (gives_after did.2.1 did.2.0 did.0 did.1 did.2.3))
      (fills_after did.0 did.1 messages why new (λ later. FillsRoom most did.1 later why new) (λ later. fills most did.1 later why new) did.3)

  renews_if : (anew : Bool) (first : PassOfTable) (old : HostFrontState) (last : PassOfTable) (new : HostFrontState) → RenewsIf anew first old last new → R old new
  renews_if true first old last new did = to old (with_table old new.table) new did.1 (by.renews_by old first last new.table did.0)
  renews_if false first old last new did = same old new did.1

  begun : (began : Bool) (s : HostFrontState) (channel : ℕ) → R s (begun_if began s channel)
  begun true s channel = by.takes_up s channel
  begun false s channel = by.stays s

  module _ {W : Type 0} where
    follows : (old : HostFrontState) (a : Act) (back : HostFrontReply W) (new : HostFrontState) → Follows old a back new → R old new
    follows old act.Nothing back new did = same old new did.1
    follows old (act.Complete head body) back new did = by.calls_by old new _ _ did.1
    follows old (act.Announced devices) back new did = admits_all devices old did.0 new did.1
    follows old (act.Removed ids) back new did = forgets_all ids old new did.0

    follows_answer : (old : HostFrontState) (answer : Result Act EndFault) (back : HostFrontReply W) (new : HostFrontState) → FollowsAnswer old answer back new → R old new
    follows_answer old (Ok asks) back new did = follows old asks back new did
    follows_answer old (Err fault.Memory) back new did = same old new did.1
    follows_answer old (Err (fault.Order state packet)) back new did = same old new did.1
    follows_answer old (Err (fault.Grammar bad)) back new did = same old new did.1

    hands : (old : HostFrontState) (room : MessageRoom) (back : HostFrontReply W) (new : HostFrontState) → HandsOver old room back new → R old new
    hands old room (reply.Messages filled why) new did = fills room.places old filled.messages why new did.1
    hands old room (reply.First pass what) new did = absurd did
    hands old room (reply.Done woken full) new did = absurd did
    hands old room (reply.Wrong cause) new did = absurd did
    hands old room (reply.Stray device id) new did = absurd did
    hands old room (reply.BodyBad bad) new did = absurd did
    hands old room reply.Memory new did = absurd did
    hands old room (reply.Full message) new did = absurd did
    hands old room reply.Over new did = absurd did

    drops_by : (dropped : Bool) (first : PassOfTable) (old : HostFrontState) (back : HostFrontReply W) (new : HostFrontState) → ((old.core).core).outbox ≡ [] → DropsBy dropped first old back new → R old new
    drops_by true first old back new none did =
        to old (record (with_table old new.table) { on = false; unsent = 0 }) new did.2
        (by.joins old (with_table old new.table) _ (by.renews_by old first did.0 new.table did.1) (by.marks_by (with_table old new.table) none))
    drops_by false first old back new none did = same old new did.1

    drops_unsent : (outbox : List (List ℕ)) (first : PassOfTable) (old : HostFrontState) (back : HostFrontReply W) (new : HostFrontState) → ((old.core).core).outbox ≡ outbox → DropsUnsent outbox first old back new → R old new
    drops_unsent (message ∷ others) first old back new is did = same old new did.1
    drops_unsent [] first old back new is did =
        let none : ((did.1.core).core).outbox ≡ [] = subst (λ (s : HostFrontState). ((s.core).core).outbox ≡ []) (sym did.2.1) is in
        by.joins old did.1 new (by.calls_by old did.1 _ _ did.2) (drops_by did.0 first did.1 back new none did.3)

    begins_table : (old : HostFrontState) (channel : ℕ) (first : PassOfTable) (back : HostFrontReply W) (new : HostFrontState) → BeginsTable old channel first back new → R old new
    begins_table old channel first back new did =
        let went = begun (has_begun did.0) (with_table old new.table) channel in
        let is : new ≡ begun_if (has_begun did.0) (with_table old new.table) channel = did.3 ∙ moved (has_begun did.0) in
        to old (begun_if (has_begun did.0) (with_table old new.table) channel) new is
        (by.joins old (with_table old new.table) _ (by.renews_at old _ did.0 first did.1 new.table did.2) went)
      where
        moved : (b : Bool) → record (begun_if b old channel) { table = new.table } ≡ begun_if b (with_table old new.table) channel
        moved true = refl
        moved false = refl

    begins_if : (found : Bool) (old : HostFrontState) (channel : ℕ) (first : PassOfTable) (back : HostFrontReply W) (new : HostFrontState) → BeginsIfFound found old channel first back new → R old new
    begins_if true old channel first back new did = begins_table old channel first back new did
    begins_if false old channel first back new did = same old new did.1

    -- a call does it
    pub one_call : (old : HostFrontState) (does : HostFrontCall W) (back : HostFrontReply W) (new : HostFrontState) → HostFrontStep old does back new → R old new
    one_call old (call.Begin channel first) back new did = either (may_begin_on old channel first) _ _ old new
        (λ (d : BeginsChannel old channel first back new). by.joins old d.1 new (by.begins_by old d.1 d.0 d.2 d.3) (begins_if (is_found d.0) d.1 channel first back new d.4)) (λ d. same old new d.1) did
    one_call old (call.Hear channel message) back new did = either (is_channel_on old channel) _ _ old new
        (λ d. either (has_many_unsent old) _ _ old new (λ e. same old new e.1)
        (λ (e : HearsMessage old message back new). by.joins old e.1 new (by.hears_by old e.1 message e.0 e.2) (follows_answer e.1 e.0 back new e.3)) d) (λ d. same old new d.1) did
    one_call old (call.Next channel room) back new did = either (is_channel_on old channel) _ _ old new (hands old room back new) (λ d. same old new d.1) did
    one_call old (call.DropChannel channel) back new did = either (is_channel_on old channel) _ _ old new
        (λ (d : EndsChannel old back new). by.joins old d.0 new (by.calls_by old d.0 _ _ d.1) (to d.0 (over_on d.0) new d.2 (by.ends_by d.0))) (λ d. same old new d.1) did
    one_call old (call.DropSent first anew) back new did = either (may_renew first) _ _ old new
        (λ (d : EndsSent first anew old back new). by.joins old d.1 new (renews_if anew first old d.0 d.1 d.2) (drops_unsent ((d.1.core).core).outbox d.0 d.1 back new refl d.3)) (λ d. same old new d.1) did

    -- and so do all calls of a history
    pub all_calls : (old : HostFrontState) (entries : List (Entry (HostFrontCall W) (HostFrontReply W))) (new : HostFrontState) → Leads HostFrontStep old entries new → R old new
    all_calls old [] new is = to old old new (sym is) (by.stays old)
    all_calls old (e ∷ entries) new leads = by.joins old leads.0 new (one_call old e.call e.reply leads.0 leads.1) (all_calls leads.0 entries new leads.2)
