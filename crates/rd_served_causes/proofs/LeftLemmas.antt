-- What was left of each channel as it ended stays what it was: later nothing is read, written or stored of it.
use Rattle.std.proofs.Common.{◌≡◌, ◌∙◌, ◌≤◌, refl, sym, ap, subst, inl, inr, ℕ, ◌==◌, ◌&&◌, Bool, true, false, List, [], ◌∷◌, ◌++◌, length, reverse, Option, Some, None, append-nil, append_assoc, arith, eq-eqb, ne_eqb}
use Rattle.std.specs.Prelude.{Ok, Err, filter, if◌then◌else◌}
use Rattle.std.specs.List.{AllByRecursion}
use Rattle.std.specs.Option.{option_map_or}
use Rattle.std.proofs.lemmas.Bool.{cases_eq}
use Rattle.std.proofs.lemmas.List.Elements.{All-nil, recursion_from_All}
use Rattle.rd_served_order.specs.ActedWaiting.{tellings_waiting}
use Rattle.rd_base.specs.declared.journal.Key.{Key}
use Rattle.rd_client.specs.Core.{Outgoing}
use Rattle.rd_client.specs.Events.{AreWritable}
use Rattle.rd_devices.specs.declared.list.Announce.{Announce}
use Rattle.rd_front.specs.Calls.{HearBytes, HearsBytes}
use Rattle.rd_front.specs.State.{FrontState}
use Rattle.rd_front.specs.declared.calls.FrontCall.{FrontCall}
use Rattle.rd_front.specs.declared.calls.FrontCall.TheVariants as call
use Rattle.rd_front.specs.declared.calls.FrontReply.{FrontReply}
use Rattle.rd_irp.specs.declared.completion.Reply.{Reply}
use Rattle.rd_served_order.proofs.RefusedAnswerLemmas.{all_answer}
use Rattle.rd_turn.specs.declared.object.Entry.{Entry}
use Rattle.rd_world.specs.Acts.{is_telling, tellings_on}
use Rattle.rd_world.specs.Control.{Act, added, removed}
use Rattle.rd_world.specs.Events.{deed_on}
use Rattle.rd_deeds.specs.Talk.{Deed, EachAfter, Has, client_wrote, client_writes, completes, is_removed, journal, request_at}
use Rattle.rd_deeds.specs.Told.{Answers, IsDirect, IsLeft, Replies, is_said_gone, worn_entries}
use Rattle.rd_served_order.proofs.ServedChannelLemmas.{begins_here, history_on}
use Rattle.rd_served_order.proofs.ServedKeyLemmas.{begins_at, refreshed_calm}
use Rattle.rd_served_order.proofs.ServedMeetLemmas.{CallsMeet, PartsMeet}
use Rattle.rd_served_order.proofs.ServedStandingLemmas.{IsKnownAt, begins_known, part_known}
use Rattle.rd_served_order.specs.ServedDeeds.{AreOnChannel, EachOnChannel, PartsOnChannel, deeds_after, deeds_of, deeds_of_calls, stored_each}
use Rattle.rd_served_order.specs.ServedHistories.{HistoryGoes}
use Rattle.rd_served_order.specs.ServedParts.{FrontPart, PartGoes, PartsGo, begins, calls, directs, ends, forgets, hears, keeps, learns, misplaces, refreshes, sends, tells_gone, tells_there, tries, unwritten, writes}
use Rattle.rd_served_order.specs.ServedServed.{Served}
use Rattle.rd_served_order.proofs.OrderLemmas.{Gone, IsOrdered, begins_order, part_ordered}
use Rattle.rd_served_order.proofs.OwnLemmas.{IsOwn, begins_own, part_own}
use Rattle.rd_served_order.proofs.TellingLemmas.{IsTelling, begins_telling, own_tells, part_telling, ready_of, waiting_first}
use Rattle.rd_served_order.specs.Orders.{BeginsWith, is_gone_until, none_until, until_after, until_by, until_calls}
use Rattle.rd_served_order.specs.Tellings.{TellsReady, acts_on, part_acts, parts_acts}
use Rattle.rd_served_refusals.proofs.BytesLemmas.{bytes_name}
use Rattle.rd_served_refusals.proofs.HinderLemmas.{hear_before}
use Rattle.rd_served_refusals.proofs.InLineLemmas.{begins_line_all, history_heeded, history_line, point_of}
use Rattle.rd_served_refusals.proofs.LineLemmas.{once_before}
use Rattle.rd_served_refusals.proofs.PointLemmas.{passes_now}
use Rattle.rd_served_refusals.specs.Heeding.{EachEndsHeeded, EndsHeeded, HearInRoom, HearsInRoom, PartsEndHeeded, PassesNone, left_by, once_written}
use Rattle.rd_served_replies.proofs.AnswerLemmas.{AreReplied}
use Rattle.rd_served_replies.proofs.EachLemmas.{all_answered, all_replying, replied_then}
use Rattle.rd_served_replies.proofs.ReadLemmas.{all_fine, history_bytes}
use Rattle.rd_served_order.specs.ServedDevices.{ServedDeviceState}
use Rattle.rd_served_replies.specs.Given.{HadNoFaults, replies_served}
use Rattle.rd_served_replies.specs.Premises.{AreOpened, GiveOwn}
use Rattle.rd_served_causes.proofs.AwayLemmas.{IsSameOn, all_same, all_under, ends_away, part_away, passes_same}
use Rattle.rd_served_causes.proofs.CallLemmas.{all_said, heard_unhindered}
use Rattle.rd_served_causes.proofs.RestLemmas.{RefuseRightly, RefusesRightly, rest_answers, rest_refuses}
use Rattle.rd_served_causes.proofs.SayLemmas.{AllRight, AreSaid, IsWornFor, RightAt}
use Rattle.rd_served_causes.specs.Causes.{HaveDesks, StartUnhindered}
use Rattle.rd_served_causes.specs.Left.{IsLeftOf, none_left, rest_now, rest_of, rests_after, rests_by, rests_calls}

abbrev outbox_of : Served → List Outgoing
outbox_of p = (((p.front).client).core).outbox

-- ---- what is refused rightly stays so

still_more : (k m n : ℕ) → k ≤ m → m ≤ n → k ≤ n
still_more k m n first second = omega (arith, first, second)

direct_same : (device : ℕ) (key : Key) (reply : Reply) (more deeds : List Deed) → IsSameOn key.channel more deeds → IsDirect device key reply deeds → IsDirect device key reply more
direct_same device key reply more deeds same (inl (gone, is)) = inl (subst (λ (ms : List (List ℕ)). is_said_gone device ms ≡ true) (sym same.wrote) gone, is)
direct_same device key reply more deeds same (inr (there, is, worn, later)) = inr (
  subst (λ (ms : List (List ℕ)). is_said_gone device ms ≡ false) (sym same.wrote) there,
  is,
  still_more worn_entries (length (journal device deeds)) (length (journal device more)) worn (same.longer device),
  λ index come. later index (sym (same.came_is device index) ∙ come),
)

one_refused : (c : ℕ) (y : Deed) (more deeds : List Deed) → IsLeft c y → IsSameOn c more deeds → RefusesRightly deeds y → RefusesRightly more y
one_refused c (completes key m) more deeds left same (r, reply, read, completed, never, direct) =
    let here : IsSameOn key.channel more deeds = subst (λ (n : ℕ). IsSameOn n more deeds) (sym left) same in (
      r,
      reply,
      ap (λ (ms : List (List ℕ)). request_at ms key.index) here.read ∙ read,
      completed,
      here.came_is r.device key.index ∙ never,
      direct_same r.device key reply more deeds here direct,
    )
one_refused c y more deeds left same is = tt

all_refused : (c : ℕ) (rest more deeds : List Deed) → AllByRecursion (IsLeft c) rest → IsSameOn c more deeds → RefuseRightly rest deeds → RefuseRightly rest more
all_refused c [] more deeds left same is = tt
all_refused c (y ∷ rest) more deeds left same is = (one_refused c y (rest ++ more) (rest ++ deeds) left.0 (all_under c rest more deeds same) is.0, all_refused c rest more deeds left.1 same is.1)

-- ---- what waits is told, once it is written

one_told : (c : ℕ) (o : Outgoing) (deeds : List Deed) → ((key : Key) → o.answers ≡ Some key → key.channel ≡ c) → tellings_on c (deed_on c o ∷ deeds) ≡ tellings_on c deeds ++ filter is_telling (o.message ∷ [])
one_told c o deeds own = by o.answers own
  where
    by : (a : Option Key) → ((key : Key) → a ≡ Some key → key.channel ≡ c) → tellings_on c (option_map_or (λ key. completes key o.message) a (client_writes c o.message) ∷ deeds) ≡ tellings_on c deeds ++ filter is_telling (o.message ∷ [])
    by None here = own_tells c c o.message None deeds (refl, tt)
    by (Some key) here = own_tells c c o.message (Some key) deeds (here key refl, tt)

once_told : (c : ℕ) (os : List Outgoing) (deeds : List Deed) → ((o : Outgoing) → Has o os → (key : Key) → o.answers ≡ Some key → key.channel ≡ c) → tellings_on c (once_written c os deeds) ≡ tellings_on c deeds ++ tellings_waiting os
once_told c [] deeds own = sym (append-nil (tellings_on c deeds))
once_told c (o ∷ os) deeds own =
    once_told c os (deed_on c o ∷ deeds) (λ x has. own x (inr has)) ∙ ap (λ (ms : List (List ℕ)). ms ++ tellings_waiting os) (one_told c o deeds (own o (inl refl)))
    ∙ append_assoc (tellings_on c deeds) (filter is_telling (o.message ∷ [])) (tellings_waiting os) ∙ ap (λ (ms : List (List ℕ)). tellings_on c deeds ++ ms) (sym (waiting_first o os))

-- ---- what was left

-- what waits and answers a key answers one of the channel
right_own : (W : ℕ → Key → Type 0) (c : ℕ) (os : List Outgoing) (older : List (List ℕ)) → AllRight W c os older → (o : Outgoing) → Has o os → (key : Key) → o.answers ≡ Some key → key.channel ≡ c
right_own W c [] older all o none key is = absurd none
right_own W c (x ∷ os) older all o (inl same) key is = (subst (λ (a : Option Key). RightAt W c a x.message older) (ap (λ (y : Outgoing). y.answers) (sym same) ∙ is) all.0).2
right_own W c (x ∷ os) older all o (inr later) key is = right_own W c os (x.message ∷ older) all.1 o later key is

-- What was left of a channel that is over.
pub record IsOver (devices : List Announce) (c : ℕ) (deeds : List Deed) (gone : ℕ → Bool) (acts : List Act) (rest : List Deed) : Type 0 where
  pub passes : PassesNone c deeds rest
  pub refuses : RefuseRightly rest deeds
  pub ready : Bool
  pub tells : TellsReady ready devices gone c (tellings_on c (rest ++ deeds)) acts

over_same : (devices : List Announce) (c : ℕ) (more deeds : List Deed) (gone : ℕ → Bool) (acts : List Act) (rest : List Deed) → IsSameOn c more deeds → IsOver devices c deeds gone acts rest → IsOver devices c more gone acts rest
over_same devices c more deeds gone acts rest same is = record {
  passes = passes_same c more deeds rest same is.passes;
  refuses = all_refused c rest more deeds (recursion_from_All (IsLeft c) rest (is.passes).left) same is.refuses;
  ready = is.ready;
  tells = subst (λ (ms : List (List ℕ)). TellsReady is.ready devices gone c (filter is_telling (reverse ms)) acts) (sym (all_under c rest more deeds same).wrote) is.tells;
}

pub over_left : (replies : Replies) (devices : List Announce) (c : ℕ) (deeds : List Deed) (gone : ℕ → Bool) (acts : List Act) (rest : List Deed) → EachAfter (Answers replies) deeds → IsOver devices c deeds gone acts rest → IsLeftOf replies devices gone acts c deeds rest
over_left replies devices c deeds gone acts rest each is = record {
  heeded = record { left = (is.passes).left; each = (is.passes).each; answers = rest_answers replies rest deeds is.refuses each };
  ready = is.ready;
  tells = is.tells;
}

-- What is known where a channel is on, of what stands in the outbox.
record IsOnIt (replies : Replies) (p : Served) (deeds : List Deed) : Type 0 where
  known : IsKnownAt p deeds
  passes : PassesNone (p.front).channel deeds (left_by p.front)
  said : AreSaid p deeds
  replied : AreReplied replies p deeds

on_over : (devices : List Announce) (replies : Replies) (p : Served) (deeds : List Deed) (until : ℕ → List Deed) (acts : ℕ → List Act) → IsOnIt replies p deeds
    → TellsReady (ready_of p) devices (Gone until (p.front).channel) (p.front).channel (tellings_on (p.front).channel deeds ++ tellings_waiting (outbox_of p)) (acts (p.front).channel)
    → IsOver devices (p.front).channel deeds (Gone until (p.front).channel) (acts (p.front).channel) (left_by p.front)
on_over devices replies p deeds until acts is tells = record {
  passes = is.passes;
  refuses = rest_refuses p deeds is.known (p.front).channel (outbox_of p) [] (λ x. refl) (λ d. refl) (is.said).out ((is.known).standing).out (is.replied).out tt;
  ready = ready_of p;
  tells =
      subst (λ (ms : List (List ℕ)). TellsReady (ready_of p) devices (Gone until (p.front).channel) (p.front).channel ms (acts (p.front).channel))
      (sym (ap (tellings_on (p.front).channel) (sym (once_before (p.front).channel (outbox_of p) [] deeds))
      ∙ once_told (p.front).channel (outbox_of p) deeds (right_own (IsWornFor p deeds) (p.front).channel (outbox_of p) (client_wrote (p.front).channel deeds) (is.said).out))) tells;
}

-- ---- which channel's rest changes

-- another's is what it was
rest_kept : (s : FrontState) (rests : ℕ → List Deed) (c : ℕ) → (c ≡ s.channel → s.on ≡ false) → rest_now s rests c ≡ rests c
rest_kept s rests c off = by s.on refl
  where
    by : (b : Bool) → s.on ≡ b → rest_now s rests c ≡ rests c
    by false e = ap (λ (b : Bool). if b && s.channel == c then left_by s else rests c) e
    by true e =
        ap (λ (b : Bool). if s.on && b then left_by s else rests c) (ne_eqb s.channel c (λ (same : s.channel ≡ c). let none = off (sym same) in cc (e, none)))
        ∙ ap (λ (b : Bool). if b && false then left_by s else rests c) e

-- that of the channel that is on is what stands in the outbox
rest_left : (s : FrontState) (rests : ℕ → List Deed) (c : ℕ) → s.on ≡ true → c ≡ s.channel → rest_now s rests c ≡ left_by s
rest_left s rests c on same = let here = eq-eqb s.channel c (sym same) in λ i. if on i && here i then left_by s else rests c

-- ---- each part

-- no channel begins or ends
abbrev IsSteady : FrontPart → Type 0
IsSteady (begins channel) = ⊥
IsSteady (ends over told) = ⊥
IsSteady _ = Unit {0}

-- so the same one is on
part_steady : (p q : Served) (x : FrontPart) → IsSteady x → PartGoes p x q → ((q.front).channel ≡ (p.front).channel) × ((q.front).on ≡ (p.front).on)
part_steady p q (hears channel m answer) steady goes = (ap (λ (s : FrontState). s.channel) (goes.3).1, ap (λ (s : FrontState). s.on) (goes.3).1)
part_steady p q tries steady goes = (ap (λ (s : Served). (s.front).channel) goes.4, ap (λ (s : Served). (s.front).on) goes.4)
part_steady p q keeps steady goes = (ap (λ (s : Served). (s.front).channel) goes.3, ap (λ (s : Served). (s.front).on) goes.3)
part_steady p q forgets steady goes = (ap (λ (s : Served). (s.front).channel) goes.4, ap (λ (s : Served). (s.front).on) goes.4)
part_steady p q misplaces steady goes = (ap (λ (s : Served). (s.front).channel) goes.3, ap (λ (s : Served). (s.front).on) goes.3)
part_steady p q (directs st answer) steady goes = (ap (λ (s : FrontState). s.channel) (goes.2).1, ap (λ (s : FrontState). s.on) (goes.2).1)
part_steady p q (calls place id does back items) steady goes = (ap (λ (s : FrontState). s.channel) goes.front_is, ap (λ (s : FrontState). s.on) goes.front_is)
part_steady p q (tells_gone device answer) steady goes = (ap (λ (s : FrontState). s.channel) (goes.0).1, ap (λ (s : FrontState). s.on) (goes.0).1)
part_steady p q (tells_there device answer) steady goes = (ap (λ (s : FrontState). s.channel) (goes.0).1, ap (λ (s : FrontState). s.on) (goes.0).1)
part_steady p q (sends channel o) steady goes = (ap (λ (s : FrontState). s.channel) (goes.1).1, ap (λ (s : FrontState). s.on) (goes.1).1)
part_steady p q (writes device done) steady goes = (ap (λ (s : Served). (s.front).channel) goes.1, ap (λ (s : Served). (s.front).on) goes.1)
part_steady p q (unwritten device done) steady goes = (ap (λ (s : Served). (s.front).channel) goes.1, ap (λ (s : Served). (s.front).on) goes.1)
part_steady p q (learns n answer) steady goes = (ap (λ (s : Served). (s.front).channel) goes.1, ap (λ (s : Served). (s.front).on) goes.1)
part_steady p q (refreshes device) steady goes =
    let calm = (refreshed_calm p.front device).0 in (ap (λ (s : Served). (s.front).channel) goes ∙ calm.channel, ap (λ (s : Served). (s.front).on) goes ∙ calm.on)
part_steady p q (begins channel) steady goes = absurd steady
part_steady p q (ends over told) steady goes = absurd steady

-- nothing is told of a device on a channel that isn't on
unacted_on : (c : ℕ) (p q : Served) (x : FrontPart) → PartGoes p x q → (c ≡ (p.front).channel → (p.front).on ≡ false) → part_acts c p x ≡ []
unacted_on c p q (tells_gone device (Ok done)) goes other =
    ap (λ (b : Bool). if b then removed device ∷ [] else []) (ne_eqb (p.front).channel c (λ (is : (p.front).channel ≡ c). let off = other (sym is) in let now = goes.3 in cc (now, off)))
unacted_on c p q (tells_there device (Ok done)) goes other =
    ap (λ (b : Bool). if b then added device ∷ [] else []) (ne_eqb (p.front).channel c (λ (is : (p.front).channel ≡ c). let off = other (sym is) in let now = goes.3 in cc (now, off)))
unacted_on c p q (tells_gone device (Err error)) goes other = refl
unacted_on c p q (tells_there device (Err error)) goes other = refl
unacted_on c p q (hears channel m answer) goes other = refl
unacted_on c p q tries goes other = refl
unacted_on c p q keeps goes other = refl
unacted_on c p q forgets goes other = refl
unacted_on c p q misplaces goes other = refl
unacted_on c p q (directs st answer) goes other = refl
unacted_on c p q (calls place id does back items) goes other = refl
unacted_on c p q (sends channel o) goes other = refl
unacted_on c p q (writes device done) goes other = refl
unacted_on c p q (unwritten device done) goes other = refl
unacted_on c p q (learns n answer) goes other = refl
unacted_on c p q (refreshes device) goes other = refl
unacted_on c p q (begins channel) goes other = refl
unacted_on c p q (ends over told) goes other = refl

module _ (devices : List Announce) (replies : Replies) where
  -- of each channel that isn't on
  abbrev pub AreOver : Served → List Deed → (ℕ → List Deed) → (ℕ → List Act) → (ℕ → List Deed) → Type 0
  AreOver p deeds until acts rests = (c : ℕ) → (c ≡ (p.front).channel → (p.front).on ≡ false) → IsOver devices c deeds (Gone until c) (acts c) (rests c)

  -- what is known of each part
  abbrev pub IsFact : Served → List Deed → FrontPart → Type 0
  IsFact p deeds x = EndsHeeded p deeds x × (AreSaid p deeds × AreReplied replies p deeds)

  -- What is known at a point of a history.
  pub record IsHere (p : Served) (deeds : List Deed) (until : ℕ → List Deed) (acts : ℕ → List Act) (rests : ℕ → List Deed) : Type 0 where
    pub known : IsKnownAt p deeds
    pub own : IsOwn devices p deeds
    pub ordered : IsOrdered devices p deeds until
    pub telling : IsTelling devices p deeds until acts
    pub over : AreOver p deeds until acts rests

  -- of a channel on which a part does nothing
  kept_over : (c : ℕ) (p q : Served) (x : FrontPart) (deeds : List Deed) (until then_until : ℕ → List Deed) (acts : ℕ → List Act) (rests : ℕ → List Deed) → PartGoes p x q → AreOnChannel (p.front).channel (deeds_of x) → then_until c ≡ until c → (c ≡ (p.front).channel → (p.front).on ≡ false)
      → IsHere p deeds until acts rests → IsOver devices c (deeds_of x ++ deeds) (Gone then_until c) (acts c ++ part_acts c p x) (rests c)
  kept_over c p q x deeds until then_until acts rests goes here same other is =
      let was = is.over c other in
      let away = part_away c p q x goes (is.known).keyed here (is.ordered).off (is.own).handing other in
      over_same devices c (deeds_of x ++ deeds) deeds (Gone then_until c) (acts c ++ part_acts c p x) (rests c) (all_same c (deeds_of x) deeds away)
      (subst (λ (before : List Deed). IsOver devices c deeds (λ device. is_removed device before) (acts c ++ part_acts c p x) (rests c)) (sym same)
      (subst (λ (things : List Act). IsOver devices c deeds (Gone until c) things (rests c)) (sym (ap (λ (more : List Act). acts c ++ more) (unacted_on c p q x goes other) ∙ append-nil (acts c))) was))

  steady_over : (p q : Served) (x : FrontPart) (deeds : List Deed) (until : ℕ → List Deed) (acts : ℕ → List Act) (rests : ℕ → List Deed) → IsSteady x → until_by x deeds until ≡ until → PartGoes p x q → AreOnChannel (p.front).channel (deeds_of x) → IsHere p deeds until acts rests
      → AreOver q (deeds_of x ++ deeds) (until_by x deeds until) (λ c. acts c ++ part_acts c p x) rests
  steady_over p q x deeds until acts rests steady same goes here is c other =
      let still = part_steady p q x steady goes in
      kept_over c p q x deeds until (until_by x deeds until) acts rests goes here (ap (λ (f : ℕ → List Deed). f c) same) (λ now. sym still.1 ∙ other (now ∙ sym still.0)) is

  part_over : (p q : Served) (x : FrontPart) (deeds : List Deed) (until : ℕ → List Deed) (acts : ℕ → List Act) (rests : ℕ → List Deed) → PartGoes p x q → AreOnChannel (p.front).channel (deeds_of x) → IsFact p deeds x → IsHere p deeds until acts rests
      → AreOver q (deeds_of x ++ deeds) (until_by x deeds until) (λ c. acts c ++ part_acts c p x) (rests_by p x rests)
  part_over p q (begins channel) deeds until acts rests goes here fact is c other =
      kept_over c p q (begins channel) deeds until (until_by (begins channel) deeds until) acts rests goes here
      (ap (λ (b : Bool). if b then deeds else until c) (ne_eqb channel c (λ (same : channel ≡ c).
      let off = other (sym same ∙ sym (ap (λ (s : Served). (s.front).channel) goes.3)) in
      let now = ap (λ (s : Served). (s.front).on) goes.3 in
      cc (off, now))))
      (λ now. goes.1) is
  part_over p q (ends over told) deeds until acts rests goes here fact is c other = elim (cases_eq c (p.front).channel) [
    | inl same ↦ by (p.front).on refl same
    | inr apart ↦ kept (λ same. absurd (apart same))
  ]
    where
      kept : (c ≡ (p.front).channel → (p.front).on ≡ false) → IsOver devices c (stored_each told ++ deeds) (Gone until c) (acts c ++ []) (rest_now p.front rests c)
      kept off = subst (λ (rest : List Deed). IsOver devices c (stored_each told ++ deeds) (Gone until c) (acts c ++ []) rest) (sym (rest_kept p.front rests c off)) (kept_over c p q (ends over told) deeds until until acts rests goes here refl off is)

      by : (b : Bool) → (p.front).on ≡ b → c ≡ (p.front).channel → IsOver devices c (stored_each told ++ deeds) (Gone until c) (acts c ++ []) (rest_now p.front rests c)
      by false off same = kept (λ e. off)
      by true now same =
          let last = on_over devices replies p deeds until acts (record { known = is.known; passes = fact.0 now; said = (fact.1).0; replied = (fact.1).1 }) ((is.telling).now now) in
          subst (λ (rest : List Deed). IsOver devices c (stored_each told ++ deeds) (Gone until c) (acts c ++ []) rest) (sym (rest_left p.front rests c now same))
          (over_same devices c (stored_each told ++ deeds) deeds (Gone until c) (acts c ++ []) (left_by p.front)
          (all_same c (stored_each told) deeds (ends_away c over (p.front).desks p.stations told (q.front).desks q.stations goes.1))
          (subst (λ (things : List Act). IsOver devices c deeds (Gone until c) things (left_by p.front)) (sym (append-nil (acts c)))
          (subst (λ (n : ℕ). IsOver devices n deeds (Gone until n) (acts n) (left_by p.front)) (sym same) last)))
  part_over p q (hears channel m answer) deeds until acts rests goes here fact is c other = steady_over p q (hears channel m answer) deeds until acts rests tt refl goes here is c other
  part_over p q tries deeds until acts rests goes here fact is c other = steady_over p q tries deeds until acts rests tt refl goes here is c other
  part_over p q keeps deeds until acts rests goes here fact is c other = steady_over p q keeps deeds until acts rests tt refl goes here is c other
  part_over p q forgets deeds until acts rests goes here fact is c other = steady_over p q forgets deeds until acts rests tt refl goes here is c other
  part_over p q misplaces deeds until acts rests goes here fact is c other = steady_over p q misplaces deeds until acts rests tt refl goes here is c other
  part_over p q (directs st answer) deeds until acts rests goes here fact is c other = steady_over p q (directs st answer) deeds until acts rests tt refl goes here is c other
  part_over p q (calls place id does back items) deeds until acts rests goes here fact is c other = steady_over p q (calls place id does back items) deeds until acts rests tt refl goes here is c other
  part_over p q (tells_gone device answer) deeds until acts rests goes here fact is c other = steady_over p q (tells_gone device answer) deeds until acts rests tt refl goes here is c other
  part_over p q (tells_there device answer) deeds until acts rests goes here fact is c other = steady_over p q (tells_there device answer) deeds until acts rests tt refl goes here is c other
  part_over p q (sends channel o) deeds until acts rests goes here fact is c other = steady_over p q (sends channel o) deeds until acts rests tt refl goes here is c other
  part_over p q (writes device done) deeds until acts rests goes here fact is c other = steady_over p q (writes device done) deeds until acts rests tt refl goes here is c other
  part_over p q (unwritten device done) deeds until acts rests goes here fact is c other = steady_over p q (unwritten device done) deeds until acts rests tt refl goes here is c other
  part_over p q (learns n answer) deeds until acts rests goes here fact is c other = steady_over p q (learns n answer) deeds until acts rests tt refl goes here is c other
  part_over p q (refreshes device) deeds until acts rests goes here fact is c other = steady_over p q (refreshes device) deeds until acts rests tt refl goes here is c other

  module _ (writable : AreWritable devices) where
    part_here : (p q : Served) (x : FrontPart) (deeds : List Deed) (until : ℕ → List Deed) (acts : ℕ → List Act) (rests : ℕ → List Deed) → PartGoes p x q → AreOnChannel (p.front).channel (deeds_of x) → IsFact p deeds x → IsHere p deeds until acts rests
        → IsHere q (deeds_of x ++ deeds) (until_by x deeds until) (λ c. acts c ++ part_acts c p x) (rests_by p x rests)
    part_here p q x deeds until acts rests goes here fact is = record {
      known = part_known p q x deeds goes is.known;
      own = part_own devices p q x deeds goes (is.known).keyed is.own;
      ordered = part_ordered devices writable p q x deeds until goes here is.known is.own is.ordered;
      telling = part_telling devices writable p q x deeds until acts goes here is.known is.own is.ordered is.telling;
      over = part_over p q x deeds until acts rests goes here fact is;
    }

    acts_as : (q : Served) (deeds : List Deed) (until : ℕ → List Deed) (acts others : ℕ → List Act) (rests : ℕ → List Deed) → ((c : ℕ) → acts c ≡ others c) → IsHere q deeds until acts rests → IsHere q deeds until others rests
    acts_as q deeds until acts others rests same is = subst (λ (things : ℕ → List Act). IsHere q deeds until things rests) (λ i c. same c i) is

    parts_here : (ps : List FrontPart) (p q : Served) (goes : PartsGo p ps q) (deeds : List Deed) (until : ℕ → List Deed) (acts : ℕ → List Act) (rests : ℕ → List Deed) → PartsOnChannel p ps q goes → PartsMeet IsFact p deeds ps q goes → IsHere p deeds until acts rests
        → IsHere q (deeds_after ps deeds) (until_after ps deeds until) (λ c. acts c ++ parts_acts c p ps q goes) (rests_after p ps q goes rests)
    parts_here [] p q goes deeds until acts rests here fact is = acts_as q deeds until acts (λ c. acts c ++ []) rests (λ c. sym (append-nil (acts c))) (subst (λ (s : Served). IsHere s deeds until acts rests) (sym goes) is)
    parts_here (x ∷ ps) p q goes deeds until acts rests here fact is =
        acts_as q (deeds_after ps (deeds_of x ++ deeds)) (until_after ps (deeds_of x ++ deeds) (until_by x deeds until)) (λ c. (acts c ++ part_acts c p x) ++ parts_acts c goes.0 ps q goes.2) (λ c. acts c ++ (part_acts c p x ++ parts_acts c goes.0 ps q goes.2))
        (rests_after goes.0 ps q goes.2 (rests_by p x rests)) (λ c. append_assoc (acts c) (part_acts c p x) (parts_acts c goes.0 ps q goes.2))
        (parts_here ps goes.0 q goes.2 (deeds_of x ++ deeds) (until_by x deeds until) (λ c. acts c ++ part_acts c p x) (rests_by p x rests) here.1 fact.1 (part_here p goes.0 x deeds until acts rests goes.1 here.0 fact.0 is))

    pub history_here : (entries : List (Entry FrontCall FrontReply)) (parts : List (List FrontPart)) (p q : Served) (goes : HistoryGoes p entries parts q) (deeds : List Deed) (until : ℕ → List Deed) (acts : ℕ → List Act) (rests : ℕ → List Deed) → EachOnChannel p entries parts q goes
        → CallsMeet IsFact p deeds entries parts q goes → IsHere p deeds until acts rests
        → IsHere q (deeds_of_calls parts deeds) (until_calls parts deeds until) (λ c. acts c ++ acts_on c p entries parts q goes) (rests_calls p entries parts q goes rests)
    history_here [] [] p q goes deeds until acts rests here fact is = acts_as q deeds until acts (λ c. acts c ++ []) rests (λ c. sym (append-nil (acts c))) (subst (λ (s : Served). IsHere s deeds until acts rests) (sym goes) is)
    history_here [] (ps ∷ parts) p q goes deeds until acts rests here fact is = absurd goes
    history_here (e ∷ entries) [] p q goes deeds until acts rests here fact is = absurd goes
    history_here (e ∷ entries) (ps ∷ parts) p q goes deeds until acts rests here fact is =
        acts_as q (deeds_of_calls parts (deeds_after ps deeds)) (until_calls parts (deeds_after ps deeds) (until_after ps deeds until)) (λ c. (acts c ++ parts_acts c p ps goes.0 (goes.1).goes) ++ acts_on c goes.0 entries parts q goes.2)
        (λ c. acts c ++ (parts_acts c p ps goes.0 (goes.1).goes ++ acts_on c goes.0 entries parts q goes.2)) (rests_calls goes.0 entries parts q goes.2 (rests_after p ps goes.0 (goes.1).goes rests))
        (λ c. append_assoc (acts c) (parts_acts c p ps goes.0 (goes.1).goes) (acts_on c goes.0 entries parts q goes.2))
        (history_here entries parts goes.0 q goes.2 (deeds_after ps deeds) (until_after ps deeds until) (λ c. acts c ++ parts_acts c p ps goes.0 (goes.1).goes) (rests_after p ps goes.0 (goes.1).goes rests) here.1 fact.1
        (parts_here ps p goes.0 (goes.1).goes deeds until acts rests here.0 fact.0 is))

  -- of each channel, at the end
  pub each_over : (p : Served) (deeds : List Deed) (until : ℕ → List Deed) (acts : ℕ → List Act) (rests : ℕ → List Deed) → ((p.front).on ≡ true → PassesNone (p.front).channel deeds (left_by p.front)) → AreSaid p deeds → AreReplied replies p deeds → IsHere p deeds until acts rests
      → (c : ℕ) → IsOver devices c deeds (Gone until c) (acts c) (rest_now p.front rests c)
  each_over p deeds until acts rests passes said replied is c = elim (cases_eq c (p.front).channel) [
    | inl same ↦ by (p.front).on refl same
    | inr apart ↦ subst (λ (rest : List Deed). IsOver devices c deeds (Gone until c) (acts c) rest) (sym (rest_kept p.front rests c (λ same. absurd (apart same)))) (is.over c (λ same. absurd (apart same)))
  ]
    where
      by : (b : Bool) → (p.front).on ≡ b → c ≡ (p.front).channel → IsOver devices c deeds (Gone until c) (acts c) (rest_now p.front rests c)
      by false off same = subst (λ (rest : List Deed). IsOver devices c deeds (Gone until c) (acts c) rest) (sym (rest_kept p.front rests c (λ e. off))) (is.over c (λ e. off))
      by true now same =
          subst (λ (rest : List Deed). IsOver devices c deeds (Gone until c) (acts c) rest) (sym (rest_left p.front rests c now same))
          (subst (λ (n : ℕ). IsOver devices n deeds (Gone until n) (acts n) (left_by p.front)) (sym same) (on_over devices replies p deeds until acts (record { known = is.known; passes = passes now; said = said; replied = replied }) ((is.telling).now now)))

-- nothing was done yet
pub none_over : (devices : List Announce) (c : ℕ) (gone : ℕ → Bool) → IsOver devices c [] gone [] []
none_over devices c gone = record { passes = record { left = All-nil (IsLeft c); each = λ d. ([], refl) }; refuses = tt; ready = false; tells = (refl, refl) }

-- ---- what is known of each part

-- a channel that ends passed over none, in the words of parts
parts_heeded : (ps : List FrontPart) (p q : Served) (deeds : List Deed) (goes : PartsGo p ps q) → PartsEndHeeded p deeds ps q goes → PartsMeet EndsHeeded p deeds ps q goes
parts_heeded [] p q deeds goes is = tt
parts_heeded (x ∷ ps) p q deeds goes is = (is.0, parts_heeded ps goes.0 q (deeds_of x ++ deeds) goes.2 is.1)

pub calls_heeded : (entries : List (Entry FrontCall FrontReply)) (parts : List (List FrontPart)) (p q : Served) (deeds : List Deed) (goes : HistoryGoes p entries parts q) → EachEndsHeeded p deeds entries parts q goes → CallsMeet EndsHeeded p deeds entries parts q goes
calls_heeded [] [] p q deeds goes is = tt
calls_heeded [] (ps ∷ parts) p q deeds goes is = absurd goes
calls_heeded (e ∷ entries) [] p q deeds goes is = absurd goes
calls_heeded (e ∷ entries) (ps ∷ parts) p q deeds goes is = (parts_heeded ps p goes.0 deeds (goes.1).goes is.0, calls_heeded entries parts goes.0 q (deeds_after ps deeds) goes.2 is.1)

module _ (P Q : Served → List Deed → FrontPart → Type 0) where
  both_parts : (ps : List FrontPart) (p q : Served) (deeds : List Deed) (goes : PartsGo p ps q) → PartsMeet P p deeds ps q goes → PartsMeet Q p deeds ps q goes → PartsMeet (λ v before x. P v before x × Q v before x) p deeds ps q goes
  both_parts [] p q deeds goes first second = tt
  both_parts (x ∷ ps) p q deeds goes first second = ((first.0, second.0), both_parts ps goes.0 q (deeds_of x ++ deeds) goes.2 first.1 second.1)

  pub both_calls : (entries : List (Entry FrontCall FrontReply)) (parts : List (List FrontPart)) (p q : Served) (deeds : List Deed) (goes : HistoryGoes p entries parts q) → CallsMeet P p deeds entries parts q goes → CallsMeet Q p deeds entries parts q goes
      → CallsMeet (λ v before x. P v before x × Q v before x) p deeds entries parts q goes
  both_calls [] [] p q deeds goes first second = tt
  both_calls [] (ps ∷ parts) p q deeds goes first second = absurd goes
  both_calls (e ∷ entries) [] p q deeds goes first second = absurd goes
  both_calls (e ∷ entries) (ps ∷ parts) p q deeds goes first second = (both_parts ps p goes.0 deeds (goes.1).goes first.0 second.0, both_calls entries parts goes.0 q (deeds_after ps deeds) goes.2 first.1 second.1)

-- ---- a whole history

bytes_room : (does : FrontCall) → HearsBytes does → HearsInRoom does
bytes_room (call.Hear message) bytes = bytes_name message bytes
bytes_room (call.Begin channel) bytes = tt
bytes_room call.Retry bytes = tt
bytes_room (call.Next channel place room) bytes = tt
bytes_room (call.Remove device) bytes = tt
bytes_room (call.Add device) bytes = tt
bytes_room call.Look bytes = tt
bytes_room call.EndChannel bytes = tt
bytes_room call.EndSession bytes = tt

-- messages of bytes name devices in room
pub bytes_in_room : (entries : List (Entry FrontCall FrontReply)) → HearBytes entries → HearInRoom entries
bytes_in_room [] bytes = tt
bytes_in_room (e ∷ entries) bytes = (bytes_room e.call bytes.0, bytes_in_room entries bytes.1)

pub all_left : (calm : Bool) (announced : List Announce) (devices : List (ℕ × ServedDeviceState)) (old new : Served) (entries : List (Entry FrontCall FrontReply)) (parts : List (List FrontPart)) → BeginsWith announced old → HaveDesks announced (old.front).desks → AreOpened devices (old.front).desks
    → (goes : HistoryGoes old entries parts new) → GiveOwn (new.front).desks → (calm ≡ true → HadNoFaults new.stations) → HearBytes entries → StartUnhindered false entries → (c : ℕ)
    → IsLeftOf (replies_served calm devices parts (deeds_of_calls parts [])) announced (is_gone_until parts c) (acts_on c old entries parts new goes) c (deeds_of_calls parts []) (rest_of old entries parts new goes c)
all_left calm announced devices old new entries parts opening have opened goes gives quiet bytes starts c =
    let deeds = deeds_of_calls parts [] in
    let replies = replies_served calm devices parts deeds in
    let is = opening.new in
    let read = history_bytes entries parts old new [] goes bytes tt in
    let said = all_said announced old new entries parts opening have goes (all_fine deeds read) starts in
    let known = begins_known old is.new is.apart is.stationed is.idle_is in
    let room = bytes_in_room entries bytes in
    let before = hear_before entries parts old new goes (heard_unhindered entries false starts) in
    let first = begins_line_all old is.new is.idle_is in
    let (stopped, line) = history_line entries parts false old new [] goes known room before first in
    let replied = replied_then calm devices old new entries parts is opened goes gives quiet read in
    let here = history_on entries parts old new goes (begins_at old is.new is.stationed is.idle_is) (begins_here old is.new.nothing is.idle_is) in
    let facts =
    both_calls EndsHeeded (λ p sofar x. AreSaid p sofar × AreReplied replies p sofar) entries parts old new [] goes (calls_heeded entries parts old new [] goes (history_heeded entries parts false old new [] goes known room before first))
    (both_calls (λ p sofar x. AreSaid p sofar) (λ p sofar x. AreReplied replies p sofar) entries parts old new [] goes said.3 (all_replying calm devices old new entries parts is opened goes gives quiet read)) in
    let last =
    history_here announced replies opening.writable entries parts old new goes [] none_until (λ x. []) none_left here facts (record {
      known = known;
      own = begins_own announced old opening;
      ordered = begins_order announced old opening;
      telling = begins_telling announced old opening;
      over = λ x other. none_over announced x (Gone none_until x);
    }) in
    let over = each_over announced replies new deeds (until_calls parts [] none_until) (λ x. acts_on x old entries parts new goes) (rests_calls old entries parts new goes none_left) (λ on. passes_now stopped (point_of new) deeds on line) said.0 replied last c in
    over_left replies announced c deeds (is_gone_until parts c) (acts_on c old entries parts new goes) (rest_of old entries parts new goes c) (all_answer replies deeds (said.0).each (all_answered calm devices old new entries parts is opened goes gives quiet read)) over
