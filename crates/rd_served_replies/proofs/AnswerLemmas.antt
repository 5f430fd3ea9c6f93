-- Each completion that was written, or is to be, completes the request of its key, and its reply is the journal's, or a refusal.
use Rattle.std.proofs.Common.{◌≡◌, ◌⊎◌, ◌∙◌, refl, sym, ap, subst, inl, inr, ℕ, ◌<◌, ◌^◌, Bool, true, false, cond, List, [], ◌∷◌, ◌++◌, append_assoc, length, map, reverse, Option, Some, None, Ok, Err, lit<}
use Rattle.std.specs.Prelude.{drop, filter_map, if◌then◌else◌}
use Rattle.std.specs.List.{AllByRecursion, cons_option}
use Rattle.std.proofs.lemmas.Bool.{eq-eqb}
use Rattle.rd_base.specs.Statuses.{insufficient_resources, no_such_device}
use Rattle.rd_base.specs.declared.journal.Item.{Item}
use Rattle.rd_base.specs.declared.journal.Item.TheVariants.{Cancelled}
use Rattle.rd_base.specs.declared.journal.Key.{Key}
use Rattle.rd_base.specs.declared.status.Status.{Status}
use Rattle.rd_client.specs.Core as client
use Rattle.rd_client.specs.Core.{ClientCoreState, Outgoing, job_of}
use Rattle.rd_desk.specs.declared.calls.DeskCall.{DeskCall}
use Rattle.rd_desk.specs.declared.calls.DeskCall.TheVariants as desk
use Rattle.rd_desk.specs.declared.calls.DeskReply.{DeskReply}
use Rattle.rd_desk.specs.declared.calls.DeskReply.TheVariants as replied
use Rattle.rd_drive.specs.Outcome.{fault}
use Rattle.rd_drive.specs.Replies.{KeyedReply, cancellation}
use Rattle.rd_drive.specs.declared.plan.Job.{Job}
use Rattle.rd_front.specs.Front.{SpellsCompletion, is_told_there}
use Rattle.rd_front.specs.State.{FrontState}
use Rattle.rd_front.specs.declared.calls.FrontCall.{FrontCall}
use Rattle.rd_front.specs.declared.calls.FrontReply.{FrontReply}
use Rattle.rd_irp.specs.Completion.{SpellsBody, SpellsHead}
use Rattle.rd_irp.specs.Fits.{BodyFits, kind_of}
use Rattle.rd_irp.specs.declared.completion.Head.{Head}
use Rattle.rd_irp.specs.declared.completion.Kind.{Kind}
use Rattle.rd_irp.specs.declared.completion.Reply.{Reply}
use Rattle.rd_irp.specs.declared.request.Request.{Request}
use Rattle.rd_refused.specs.JournalsJobs.{AreFine, FitsCompletion, IsAnswerOf, IsJobOf, IsRefusalOf}
use Rattle.rd_refused.specs.JournalsStanding.{IsOut}
use Rattle.rd_refused.proofs.JournalsCameLemmas.{never_came}
use Rattle.rd_refused.proofs.JournalsCompletionLemmas.{completes as completes_with}
use Rattle.rd_refused.proofs.JournalsWorkLemmas.{Grown, grown_more}
use Rattle.rd_refused.specs.RepliedReplied.{AnswersBy, IsGivenBy}
use Rattle.rd_station.specs.declared.answers.Completion.{Completion}
use Rattle.rd_station.proofs.Members.{has_append, has_left, has_right}
use Rattle.rd_turn.specs.declared.object.Entry.{Entry}
use Rattle.rd_world.specs.Events.{completion_message}
use Rattle.rd_deeds.specs.Talk.{Deed, EachAfter, Has, adds, client_reads, client_writes, completes, host_begins, host_ends, host_reads, host_writes, journal, removes, stores, submits, takes, tells}
use Rattle.rd_deeds.specs.Told.{CompletesWith, Replies, came}
use Rattle.rd_world.specs.World.{Kept}
use Rattle.rd_served.specs.Deeds.{deeds_after, deeds_of, deeds_of_calls, sent_by, stored, stored_each}
use Rattle.rd_served.specs.Histories.{HistoryGoes}
use Rattle.rd_served.specs.Parts.{AsksBy, CallsAt, FrontPart, PartGoes, PartsGo, begins, calls, directs, ends, sends, writes}
use Rattle.rd_served.specs.Parts as part
use Rattle.rd_served.specs.Served.{Asking, Served, hands, idle}
use Rattle.rd_served.specs.ServedDevices.{ServedDeviceState}
use Rattle.rd_served.proofs.CauseLemmas.{AnyRequest}
use Rattle.rd_served.proofs.MeetLemmas.{CallsMeet, PartsMeet}
use Rattle.rd_served.proofs.StandingLemmas.{IsKnownAt, IsUnserved, came_here, direct_under, ended_outbox, part_known, parts_known, sent_first}
use Rattle.rd_served_replies.specs.Given.{HadNoFaults, all_handed, collected_of, replies_served}
use Rattle.rd_served_replies.specs.Premises.{GiveOwn}
use Rattle.rd_served_replies.proofs.BeginLemmas.{IsOneOf}
use Rattle.rd_served_replies.proofs.FollowLemmas.{IsFollowed, history_calm, history_gives, part_followed, parts_calm, parts_followed, parts_give}
use Rattle.rd_served_replies.proofs.HandedLemmas.{IsHanded, collects_handed, handed_more}
use Rattle.rd_served_replies.proofs.LedLemmas.{IsRequestOf}
use Rattle.rd_served_replies.proofs.QuietLemmas.{IsLight, Quiet, outbox_of, part_quiet}

answer_grown : (Given : Request → Reply → Type 0) (deeds more : List Deed) → Grown deeds more → (key : Key) (m : List ℕ) → IsAnswerOf Given deeds key m → IsAnswerOf Given more key m
answer_grown Given deeds more grown key m is = record { request = is.request; reply = is.reply; read = grown key.channel key.index is.request is.read; completes = is.completes; given = is.given }

pub record AreReplied (replies : Replies) (p : Served) (deeds : List Deed) : Type 0 where
  pub out : (o : Outgoing) → Has o (outbox_of p) → (key : Key) → o.answers ≡ Some key → IsAnswerOf IsRefusalOf deeds key o.message
  pub handing : (device : ℕ) (c : Completion) → p.asking ≡ hands device c → IsHanded replies deeds device c
  pub each : EachAfter (AnswersBy replies) deeds

-- ---- a refusal

refusal_status : (p : Served) (k : Kept) (st : Status) → part.MayBeDirect p k st → (st ≡ no_such_device) ⊎ (st ≡ insufficient_resources)
refusal_status p k st (inl absent) = inl absent.2
refusal_status p k st (inr (inl gone)) = by (is_told_there p.front k.device) gone.1
  where
    by : (b : Bool) → st ≡ (if b then insufficient_resources else no_such_device) → (st ≡ no_such_device) ⊎ (st ≡ insufficient_resources)
    by true same = inr same
    by false same = inl same
refusal_status p k st (inr (inr worn)) = inr worn.2

refusal_completes : (r : Request) (st : Status) → FitsCompletion r → st.0 < 2 ^ 32 → BodyFits (kind_of r.op) st (fault st).body → (d : ℕ) (job : Job) (c index : ℕ) → d ≡ r.device → job ≡ job_of r c index → CompletesWith r (fault st) (client.direct_bytes job d st)
refusal_completes r st room small fits d job c index device is =
    subst (λ (x : ℕ × Job). CompletesWith r (fault st) (client.direct_bytes x.1 x.0 st)) (λ i. (sym device i, sym is i)) (completes_with r (fault st) room (small, tt) fits)

refuses : (deeds : List Deed) → AreFine FitsCompletion deeds → (k : Kept) (st : Status) → IsJobOf AnyRequest deeds k.device k.job → (st ≡ no_such_device) ⊎ (st ≡ insufficient_resources) → IsAnswerOf IsRefusalOf deeds k.job.key (client.direct_bytes k.job k.device st)
refuses deeds fines k st own is = elim is [
  | inl gone ↦ subst (λ (x : Status). IsAnswerOf IsRefusalOf deeds k.job.key (client.direct_bytes k.job k.device x)) (sym gone) (by no_such_device (lit< tt) (refl, tt) (inl refl))
  | inr worn ↦ subst (λ (x : Status). IsAnswerOf IsRefusalOf deeds k.job.key (client.direct_bytes k.job k.device x)) (sym worn) (by insufficient_resources (lit< tt) (refl, tt) (inr refl))
]
  where
    by : (x : Status) → x.0 < 2 ^ 32 → BodyFits (kind_of (own.request).op) x (fault x).body → IsRefusalOf own.request (fault x) → IsAnswerOf IsRefusalOf deeds k.job.key (client.direct_bytes k.job k.device x)
    by x small fits refusal = record {
      request = own.request;
      reply = fault x;
      read = own.read;
      completes = refusal_completes own.request x (fines k.job.key.channel k.job.key.index own.request own.read) small fits k.device k.job k.job.key.channel k.job.key.index (sym own.device) own.job_is;
      given = refusal;
    }

-- ---- a completion

-- what spells a completion completes the request that it is of
spelled_completes : (deeds : List Deed) (device : ℕ) (c : Completion) (m : List ℕ) (k : IsRequestOf deeds device c) → SpellsCompletion device c m → CompletesWith k.request c.reply m
spelled_completes deeds device c m k spells = record {
  head = subst (λ (h : Head). SpellsHead h (length (drop 16 m)) m) (λ i. record { device = sym k.device_is i; completion = k.id i; status = c.reply.status }) spells.0;
  tail = (spells.1).0;
  body = subst (λ (y : Kind). SpellsBody y c.reply.status c.reply.body (spells.1).0 (drop 16 m)) k.layout (spells.1).1;
}

-- ---- deeds that complete nothing

module _ (replies : Replies) where
  light_says : (deeds : List Deed) (y : Deed) → IsLight y → AnswersBy replies deeds y
  light_says deeds (client_reads c m) light = tt
  light_says deeds (removes d) light = tt
  light_says deeds (adds d) light = tt
  light_says deeds (stores d x) light = tt
  light_says deeds (submits a n o) light = tt
  light_says deeds (takes n) light = tt
  light_says deeds (tells n) light = tt
  light_says deeds (host_begins c) light = tt
  light_says deeds (host_ends c) light = tt
  light_says deeds (host_writes c m) light = tt
  light_says deeds (host_reads c m) light = tt
  light_says deeds (client_writes c m) light = tt
  light_says deeds (completes k m) light = absurd light

  light_each : (more deeds : List Deed) → AllByRecursion IsLight more → EachAfter (AnswersBy replies) deeds → EachAfter (AnswersBy replies) (more ++ deeds)
  light_each [] deeds light each = each
  light_each (y ∷ more) deeds light each = (light_says (more ++ deeds) y light.0, light_each more deeds light.1 each)

  items_each : (d : ℕ) (items : List Item) (deeds : List Deed) → EachAfter (AnswersBy replies) deeds → EachAfter (AnswersBy replies) (map (stores d) items ++ deeds)
  items_each d [] deeds each = each
  items_each d (x ∷ items) deeds each = (tt, items_each d items deeds each)

  told_says : (told : List (ℕ × List Item)) (deeds : List Deed) → EachAfter (AnswersBy replies) deeds → EachAfter (AnswersBy replies) (stored_each told ++ deeds)
  told_says [] deeds each = each
  told_says (t ∷ told) deeds each = subst (EachAfter (AnswersBy replies)) (sym (append_assoc (stored_each told) (stored t.0 t.1) deeds)) (told_says told (stored t.0 t.1 ++ deeds) (items_each t.0 (reverse t.1) deeds each))

  -- ---- each part

  quiet_replied : (p q : Served) (x : FrontPart) (deeds : List Deed) → Quiet p x q → AreReplied replies p deeds → AreReplied replies q (deeds_of x ++ deeds)
  quiet_replied p q x deeds quiet is = record {
    out = λ o has key answers. let (more, same, own) = quiet.own in
        elim (has_append o (outbox_of p) more (subst (Has o) same has)) [
          | inl before ↦ answer_grown IsRefusalOf deeds (deeds_of x ++ deeds) (grown_more (deeds_of x) deeds) key o.message (is.out o before key answers)
          | inr later ↦ absurd (let none = (own o later).0 in cc (none, answers))
        ];
    handing = λ device c same. handed_more replies (deeds_of x) deeds device c (is.handing device c (quiet.handing device c same));
    each = light_each (deeds_of x) deeds quiet.light is.each;
  }

  directs_replied : (p q : Served) (deeds : List Deed) (k : Kept) (st : Status) → AreFine FitsCompletion deeds → IsJobOf AnyRequest deeds k.device k.job → (st ≡ no_such_device) ⊎ (st ≡ insufficient_resources)
      → outbox_of q ≡ outbox_of p ++ record { message = client.direct_bytes k.job k.device st; answers = Some k.job.key } ∷ [] → q.asking ≡ idle → AreReplied replies p deeds → AreReplied replies q deeds
  directs_replied p q deeds k st fines own status outbox asking is = record {
    out = λ o has key answers. elim (has_append o (outbox_of p) (mine ∷ []) (subst (Has o) outbox has)) [
      | inl before ↦ is.out o before key answers
      | inr last ↦ elim last [
        | inl same ↦
            let named : Some k.job.key ≡ Some key = sym (ap (λ (x : Outgoing). x.answers) same) ∙ answers in
            let key_is : k.job.key ≡ key = cc (named) in
            subst (λ (x : Outgoing). IsAnswerOf IsRefusalOf deeds key x.message) (sym same) (subst (λ (y : Key). IsAnswerOf IsRefusalOf deeds y (client.direct_bytes k.job k.device st)) key_is (refuses deeds fines k st own status))
        | inr none ↦ absurd none
      ]
    ];
    handing = λ device c same. absurd (cc (asking, same));
    each = is.each;
  }
    where
      mine : Outgoing
      mine = record { message = client.direct_bytes k.job k.device st; answers = Some k.job.key }

  sends_replied : (p q : Served) (deeds : List Deed) (o : Outgoing) (rest : List Outgoing) (channel : ℕ) → IsKnownAt p deeds → outbox_of p ≡ o ∷ rest → outbox_of q ≡ rest → q.asking ≡ p.asking → AreReplied replies p deeds → AreReplied replies q (sent_by channel o.message o.answers ++ deeds)
  sends_replied p q deeds o rest channel known first after asking is = by o.answers refl
    where
      there : Has o (outbox_of p)
      there = subst (Has o) (sym first) (inl refl)

      left : (more : List Deed) → EachAfter (AnswersBy replies) (more ++ deeds) → AreReplied replies q (more ++ deeds)
      left more each = record {
        out = λ x has key answers. answer_grown IsRefusalOf deeds (more ++ deeds) (grown_more more deeds) key x.message (is.out x (subst (Has x) (sym first) (inr (subst (Has x) after has))) key answers);
        handing = λ device c same. handed_more replies more deeds device c (is.handing device c (sym asking ∙ same));
        each = each;
      }

      by : (answers : Option Key) → o.answers ≡ answers → AreReplied replies q (sent_by channel o.message answers ++ deeds)
      by None none = left (client_writes channel o.message ∷ []) (tt, is.each)
      by (Some key) some =
          let own = is.out o there key some in
          let unserved : IsUnserved p key = subst (λ (a : Option Key). IsOut (IsUnserved p) a o.message) some (known.standing.out o there) in
          left (completes key o.message ∷ []) (
            record {
              request = own.request;
              reply = own.reply;
              read = own.read;
              completes = own.completes;
              given = inr (inr (never_came key (journal (own.request).device deeds) (λ has. unserved.unnamed (came_here p deeds known.told known.standing (own.request).device key has)), own.given));
            },
            is.each,
          )

  -- as `ComesFrom`, of any device
  abbrev GivenSo : List Deed → Completion → ℕ → Request → Type 0
  GivenSo deeds c n r = IsGivenBy replies n c.key c.reply deeds ⊎ ((Has (Cancelled c.key) (journal n deeds) × (c.reply ≡ cancellation)) ⊎ ((came c.key.channel (journal n deeds) c.key.index ≡ false) × IsRefusalOf r c.reply))

  writes_replied : (p q : Served) (device : ℕ) (c : Completion) (deeds : List Deed) → PartGoes p (writes device c) q → AreReplied replies p deeds → AreReplied replies q (completes c.key (completion_message device c) ∷ deeds)
  writes_replied p q device c deeds goes is = subst (λ (s : Served). AreReplied replies s (completes c.key (completion_message device c) ∷ deeds)) (sym goes.1) (record {
    out = λ o has key answers. answer_grown IsRefusalOf deeds (completes c.key (completion_message device c) ∷ deeds) (grown_more (completes c.key (completion_message device c) ∷ []) deeds) key o.message (is.out o has key answers);
    handing = λ d x same. absurd (cc (same));
    each = (
      (let handed = is.handing device c goes.0 in
          let k = handed.of in
          record {
            request = k.request;
            reply = c.reply;
            read = k.read;
            completes = spelled_completes deeds device c (completion_message device c) k goes.2;
            given = subst (λ (n : ℕ). GivenSo deeds c n k.request) (sym k.device_is) (elim handed.given [ inl given ↦ inl given | inr cancelled ↦ inr (inl cancelled) ]);
          }),
      is.each,
    );
  })

  begins_replied : (p q : Served) (channel : ℕ) (deeds : List Deed) → PartGoes p (begins channel) q → AreReplied replies p deeds → AreReplied replies q deeds
  begins_replied p q channel deeds goes is = subst (λ (s : Served). AreReplied replies s deeds) (sym goes.3) (record {
    out = λ o none. absurd none;
    handing = λ device c same. absurd (let none = goes.0 in cc (none, same));
    each = is.each;
  })

  ends_replied : (p q : Served) (over : Bool) (told : List (ℕ × List Item)) (deeds : List Deed) → PartGoes p (ends over told) q → AreReplied replies p deeds → AreReplied replies q (stored_each told ++ deeds)
  ends_replied p q over told deeds goes is = record {
    out = λ o has. absurd (subst (Has o) (ap (λ (s : FrontState). ((s.client).core).outbox) goes.2 ∙ ended_outbox over p.front (q.front).desks) has);
    handing = λ device c same. absurd (let none = goes.3 in cc (none, same));
    each = told_says told deeds is.each;
  }

  -- a desk is called, by which this is under way
  calls_replied : (p q : Served) (place id : ℕ) (does : DeskCall) (back : DeskReply) (items : List Item) (deeds : List Deed) → CallsAt p place id does back items q → ((device : ℕ) (c : Completion) → q.asking ≡ hands device c → IsHanded replies (stored id items ++ deeds) device c)
      → AreReplied replies p deeds → AreReplied replies q (stored id items ++ deeds)
  calls_replied p q place id does back items deeds at handing is = record {
    out = λ o has key answers. answer_grown IsRefusalOf deeds (stored id items ++ deeds) (grown_more (stored id items) deeds) key o.message
        (is.out o (subst (Has o) (ap (λ (s : FrontState). ((s.client).core).outbox) at.front_is) has) key answers);
    handing = handing;
    each = items_each id (reverse items) deeds is.each;
  }

-- ---- what a desk's reply hands out

-- what is handed out after a call was before it, or was collected
abbrev pub Collects : ℕ → DeskCall → DeskReply → ℕ → Completion → Type 0
Collects id does back device c = (does ≡ desk.Collect) × (back ≡ replied.Collected (Some c)) × (id ≡ device)

pub hands_from : (p : Served) (place id : ℕ) (does : DeskCall) (back : DeskReply) (after : Asking) → AsksBy p place id does back after → (device : ℕ) (c : Completion) → after ≡ hands device c → (p.asking ≡ hands device c) ⊎ Collects id does back device c
hands_from p place id (desk.Put job) (replied.Put (Ok done)) after is device c same = absurd (let e = is.1 in cc (e, same))
hands_from p place id (desk.Put job) (replied.Put (Err refusal)) after is device c same = absurd (let e = is.1 in cc (e, same))
hands_from p place id (desk.Put job) (replied.Unfit back) after is device c same = absurd (let e = is.1 in cc (e, same))
hands_from p place id (desk.Put job) (replied.Announced answer) after is device c same = absurd is.1
hands_from p place id (desk.Put job) (replied.Worked w) after is device c same = absurd is.1
hands_from p place id (desk.Put job) (replied.Collected answer) after is device c same = absurd is.1
hands_from p place id (desk.Put job) (replied.Removed answer) after is device c same = absurd is.1
hands_from p place id (desk.Put job) replied.Dropped after is device c same = absurd is.1
hands_from p place id (desk.Put job) replied.Ended after is device c same = absurd is.1
hands_from p place id desk.Collect (replied.Collected (Some x)) after is device c same =
    let both : hands id x ≡ hands device c = sym is.1 ∙ same in
    let completion_is : x ≡ c = cc (both) in
    let device_is : id ≡ device = cc (both) in
    inr (refl, ap (λ (y : Completion). replied.Collected (Some y)) completion_is, device_is)
hands_from p place id desk.Collect (replied.Collected None) after is device c same = inl (sym is ∙ same)
hands_from p place id desk.Collect (replied.Announced answer) after is device c same = inl (sym is ∙ same)
hands_from p place id desk.Collect (replied.Put answer) after is device c same = inl (sym is ∙ same)
hands_from p place id desk.Collect (replied.Unfit job) after is device c same = inl (sym is ∙ same)
hands_from p place id desk.Collect (replied.Worked w) after is device c same = inl (sym is ∙ same)
hands_from p place id desk.Collect (replied.Removed answer) after is device c same = inl (sym is ∙ same)
hands_from p place id desk.Collect replied.Dropped after is device c same = inl (sym is ∙ same)
hands_from p place id desk.Collect replied.Ended after is device c same = inl (sym is ∙ same)
hands_from p place id desk.Announce back after is device c same = inl (sym is ∙ same)
hands_from p place id (desk.Work runs) back after is device c same = inl (sym is ∙ same)
hands_from p place id desk.Remove back after is device c same = inl (sym is ∙ same)
hands_from p place id desk.DropChannel back after is device c same = inl (sym is ∙ same)
hands_from p place id desk.End back after is device c same = inl (sym is ∙ same)

-- ---- the whole

pub grown_after : (ps : List FrontPart) (deeds : List Deed) → Grown deeds (deeds_after ps deeds)
grown_after [] deeds c k r read = read
grown_after (x ∷ ps) deeds c k r read = grown_after ps (deeds_of x ++ deeds) c k r (grown_more (deeds_of x) deeds c k r read)

pub grown_calls : (parts : List (List FrontPart)) (deeds : List Deed) → Grown deeds (deeds_of_calls parts deeds)
grown_calls [] deeds c k r read = read
grown_calls (ps ∷ parts) deeds c k r read = grown_calls parts (deeds_after ps deeds) c k r (grown_after ps deeds c k r read)

-- ---- what desks handed out among all that they did

abbrev pub HandsAmong : List (List FrontPart) → (ℕ → List KeyedReply) → Type 0
HandsAmong all handed = (device : ℕ) (r : KeyedReply) → Has r (handed device) → Has r (all_handed device all)

abbrev collected_in : List FrontPart → ℕ → List KeyedReply
collected_in ps device = filter_map (collected_of device) ps

hands_first : (all : List (List FrontPart)) (x : FrontPart) (ps : List FrontPart) → HandsAmong all (collected_in (x ∷ ps)) → (device : ℕ) (r : KeyedReply) → collected_of device x ≡ Some r → Has r (all_handed device all)
hands_first all x ps among device r is = among device r (subst (λ (o : Option KeyedReply). Has r (cons_option o (collected_in ps device))) (sym is) (inl refl))

hands_later : (all : List (List FrontPart)) (x : FrontPart) (ps : List FrontPart) → HandsAmong all (collected_in (x ∷ ps)) → HandsAmong all (collected_in ps)
hands_later all x ps among device r has = among device r (by (collected_of device x))
  where
    by : (o : Option KeyedReply) → Has r (cons_option o (collected_in ps device))
    by None = has
    by (Some other) = inr has

hands_call : (all parts : List (List FrontPart)) (ps : List FrontPart) → HandsAmong all (λ device. all_handed device (ps ∷ parts)) → HandsAmong all (collected_in ps)
hands_call all parts ps among device r has = among device r (has_left r (collected_in ps device) (all_handed device parts) has)

hands_calls : (all parts : List (List FrontPart)) (ps : List FrontPart) → HandsAmong all (λ device. all_handed device (ps ∷ parts)) → HandsAmong all (λ device. all_handed device parts)
hands_calls all parts ps among device r has = among device r (has_right r (collected_in ps device) (all_handed device parts) has)

-- a completion is handed out by its device's desk
collected_here : (place id : ℕ) (c : Completion) (items : List Item) → collected_of id (calls place id desk.Collect (replied.Collected (Some c)) items) ≡ Some (c.key, c.reply)
collected_here place id c items = ap (λ (b : Bool). cond b (Some (c.key, c.reply)) None) (eq-eqb id id refl)

module _ (calm : Bool) (devices : List (ℕ × ServedDeviceState)) (all : List (List FrontPart)) (final : List Deed) (fines : AreFine FitsCompletion final) where
  called_replied : (p q : Served) (place id : ℕ) (does : DeskCall) (back : DeskReply) (items : List Item) (deeds : List Deed) → CallsAt p place id does back items q → IsKnownAt p deeds → IsFollowed (IsOneOf devices) p deeds → GiveOwn (q.front).desks → Grown (stored id items ++ deeds) final
      → (calm ≡ true → HadNoFaults q.stations) → ((device : ℕ) (r : KeyedReply) → collected_of device (calls place id does back items) ≡ Some r → Has r (all_handed device all)) → AreReplied (replies_served calm devices all final) p deeds → AreReplied (replies_served calm devices all final) q (stored id items ++ deeds)
  called_replied p q place id does back items deeds at known follows gives grown none among is =
      calls_replied (replies_served calm devices all final) p q place id does back items deeds at (λ device c same. elim (hands_from p place id does back q.asking at.asking_is device c same) [
        | inl was ↦ handed_more (replies_served calm devices all final) (stored id items) deeds device c (is.handing device c was)
        | inr (collects, came, named) ↦ subst (λ (n : ℕ). IsHanded (replies_served calm devices all final) (stored id items ++ deeds) n c) named
            (collects_handed calm devices all final p q place id c items deeds known.keyed known.told follows
            (subst (λ (d : DeskCall). CallsAt p place id d (replied.Collected (Some c)) items q) collects (subst (λ (r : DeskReply). CallsAt p place id does r items q) came at)) gives grown none
            (among id (c.key, c.reply) (subst (λ (x : DeskCall × DeskReply). collected_of id (calls place id x.0 x.1 items) ≡ Some (c.key, c.reply)) (λ i. (sym collects i, sym came i)) (collected_here place id c items))))
      ]) is

  pub part_replied : (p q : Served) (x : FrontPart) (deeds : List Deed) → PartGoes p x q → IsKnownAt p deeds → IsFollowed (IsOneOf devices) p deeds → GiveOwn (q.front).desks → Grown (deeds_of x ++ deeds) final
      → (calm ≡ true → HadNoFaults q.stations) → ((device : ℕ) (r : KeyedReply) → collected_of device x ≡ Some r → Has r (all_handed device all)) → AreReplied (replies_served calm devices all final) p deeds → AreReplied (replies_served calm devices all final) q (deeds_of x ++ deeds)
  part_replied p q (calls place id does back items) deeds goes known follows gives grown none among is = called_replied p q place id does back items deeds goes known follows gives grown none among is
  part_replied p q (directs st (Ok done)) deeds goes known follows gives grown none among is =
      directs_replied (replies_served calm devices all final) p q deeds goes.0 st (λ c k r read. fines c k r (grown c k r read)) (known.told.asking goes.0 (direct_under p goes.0 st goes.1)) (refusal_status p goes.0 st goes.1)
      (ap (λ (c : ClientCoreState). (c.core).outbox) ((goes.2).0).1) goes.3 is
  part_replied p q (sends channel (Some o)) deeds goes known follows gives grown none among is =
      let (rest, first, after) = sent_first (p.front).client (q.front).client o (goes.1).0 in
      sends_replied (replies_served calm devices all final) p q deeds o rest channel known first after goes.2 is
  part_replied p q (writes device c) deeds goes known follows gives grown none among is = writes_replied (replies_served calm devices all final) p q device c deeds goes is
  part_replied p q (begins channel) deeds goes known follows gives grown none among is = begins_replied (replies_served calm devices all final) p q channel deeds goes is
  part_replied p q (ends over told) deeds goes known follows gives grown none among is = ends_replied (replies_served calm devices all final) p q over told deeds goes is
  part_replied p q x deeds goes known follows gives grown none among is = quiet_replied (replies_served calm devices all final) p q x deeds (part_quiet p q x tt goes) is

  parts_replied : (ps : List FrontPart) (p q : Served) (deeds : List Deed) → PartsGo p ps q → IsKnownAt p deeds → IsFollowed (IsOneOf devices) p deeds → GiveOwn (q.front).desks → Grown (deeds_after ps deeds) final
      → (calm ≡ true → HadNoFaults q.stations) → HandsAmong all (collected_in ps) → AreReplied (replies_served calm devices all final) p deeds → AreReplied (replies_served calm devices all final) q (deeds_after ps deeds)
  parts_replied [] p q deeds same known follows gives grown none among is = subst (λ (s : Served). AreReplied (replies_served calm devices all final) s deeds) (sym same) is
  parts_replied (x ∷ ps) p q deeds goes known follows gives grown none among is =
      parts_replied ps goes.0 q (deeds_of x ++ deeds) goes.2 (part_known p goes.0 x deeds goes.1 known) (part_followed (IsOneOf devices) p goes.0 x deeds goes.1 known.keyed known.told follows) gives grown none (hands_later all x ps among)
      (part_replied p goes.0 x deeds goes.1 known follows (parts_give ps goes.0 q goes.2 gives) (λ c k r read. grown c k r (grown_after ps (deeds_of x ++ deeds) c k r read)) (λ said. parts_calm ps goes.0 q goes.2 (none said)) (hands_first all x ps among) is)

  pub history_replied : (entries : List (Entry FrontCall FrontReply)) (parts : List (List FrontPart)) (p q : Served) (deeds : List Deed) → HistoryGoes p entries parts q → IsKnownAt p deeds → IsFollowed (IsOneOf devices) p deeds → GiveOwn (q.front).desks → Grown (deeds_of_calls parts deeds) final
      → (calm ≡ true → HadNoFaults q.stations) → HandsAmong all (λ device. all_handed device parts) → AreReplied (replies_served calm devices all final) p deeds → AreReplied (replies_served calm devices all final) q (deeds_of_calls parts deeds)
  history_replied [] [] p q deeds same known follows gives grown none among is = subst (λ (s : Served). AreReplied (replies_served calm devices all final) s deeds) (sym same) is
  history_replied [] (ps ∷ parts) p q deeds goes known follows gives grown none among is = absurd goes
  history_replied (e ∷ entries) [] p q deeds goes known follows gives grown none among is = absurd goes
  history_replied (e ∷ entries) (ps ∷ parts) p q deeds goes known follows gives grown none among is =
      history_replied entries parts goes.0 q (deeds_after ps deeds) goes.2 (parts_known ps p goes.0 deeds (goes.1).goes known) (parts_followed (IsOneOf devices) ps p goes.0 deeds (goes.1).goes known follows) gives grown none (hands_calls all parts ps among)
      (parts_replied ps p goes.0 deeds (goes.1).goes known follows (history_gives entries parts goes.0 q goes.2 gives) (λ c k r read. grown c k r (grown_calls parts (deeds_after ps deeds) c k r read)) (λ said. history_calm entries parts goes.0 q goes.2 (none said)) (hands_call all parts ps among) is)

  -- so it is at each part
  parts_replying : (ps : List FrontPart) (p q : Served) (deeds : List Deed) (goes : PartsGo p ps q) → IsKnownAt p deeds → IsFollowed (IsOneOf devices) p deeds → GiveOwn (q.front).desks → Grown (deeds_after ps deeds) final
      → (calm ≡ true → HadNoFaults q.stations) → HandsAmong all (collected_in ps) → AreReplied (replies_served calm devices all final) p deeds → PartsMeet (λ v before x. AreReplied (replies_served calm devices all final) v before) p deeds ps q goes
  parts_replying [] p q deeds same known follows gives grown none among is = tt
  parts_replying (x ∷ ps) p q deeds goes known follows gives grown none among is = (
    is,
    parts_replying ps goes.0 q (deeds_of x ++ deeds) goes.2 (part_known p goes.0 x deeds goes.1 known) (part_followed (IsOneOf devices) p goes.0 x deeds goes.1 known.keyed known.told follows) gives grown none (hands_later all x ps among)
        (part_replied p goes.0 x deeds goes.1 known follows (parts_give ps goes.0 q goes.2 gives) (λ c k r read. grown c k r (grown_after ps (deeds_of x ++ deeds) c k r read)) (λ said. parts_calm ps goes.0 q goes.2 (none said)) (hands_first all x ps among) is),
  )

  pub history_replying : (entries : List (Entry FrontCall FrontReply)) (parts : List (List FrontPart)) (p q : Served) (deeds : List Deed) (goes : HistoryGoes p entries parts q) → IsKnownAt p deeds → IsFollowed (IsOneOf devices) p deeds → GiveOwn (q.front).desks → Grown (deeds_of_calls parts deeds) final
      → (calm ≡ true → HadNoFaults q.stations) → HandsAmong all (λ device. all_handed device parts) → AreReplied (replies_served calm devices all final) p deeds → CallsMeet (λ v before x. AreReplied (replies_served calm devices all final) v before) p deeds entries parts q goes
  history_replying [] [] p q deeds same known follows gives grown none among is = tt
  history_replying [] (ps ∷ parts) p q deeds goes known follows gives grown none among is = absurd goes
  history_replying (e ∷ entries) [] p q deeds goes known follows gives grown none among is = absurd goes
  history_replying (e ∷ entries) (ps ∷ parts) p q deeds goes known follows gives grown none among is =
      let give = history_gives entries parts goes.0 q goes.2 gives in
      let grow : Grown (deeds_after ps deeds) final = λ c k r read. grown c k r (grown_calls parts (deeds_after ps deeds) c k r read) in
      let still : calm ≡ true → HadNoFaults (goes.0).stations = λ said. history_calm entries parts goes.0 q goes.2 (none said) in (
        parts_replying ps p goes.0 deeds (goes.1).goes known follows give grow still (hands_call all parts ps among) is,
        history_replying entries parts goes.0 q (deeds_after ps deeds) goes.2 (parts_known ps p goes.0 deeds (goes.1).goes known) (parts_followed (IsOneOf devices) ps p goes.0 deeds (goes.1).goes known follows) gives grown none (hands_calls all parts ps among)
            (parts_replied ps p goes.0 deeds (goes.1).goes known follows give grow still (hands_call all parts ps among) is),
      )
