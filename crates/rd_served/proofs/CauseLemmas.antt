-- What is held was read, so a completion id that is in use is that of an earlier request.
use Rattle.std.proofs.Common.{◌≡◌, ◌≢◌, ◌⊎◌, ◌∙◌, refl, sym, ap, subst, inl, inr, ℕ, zero, suc, ◌<◌, ◌==◌, ◌&&◌, Bool, true, false, cond, List, [], ◌∷◌, ◌++◌, length, map, reverse, Option, Some, None, slice_get, slice_set, arith, eq-eqb, eqb-true, append_assoc}
use Rattle.std.specs.Prelude.{Result, Ok, Err, filter, is_some}
use Rattle.std.specs.declared.alloc.AllocError.{AllocError}
use Rattle.std.specs.List.{AllByRecursion, cons_option}
use Rattle.std.specs.Map.{lookup}
use Rattle.std.specs.Option.{option_map_or}
use Rattle.std.specs.Ordering.{nat_cmp}
use Rattle.std.specs.BTreeMap.{is_at}
use Rattle.std.proofs.lemmas.List.{reverse-append, reverse-reverse}
use Rattle.std.proofs.lemmas.List.Quantifiers.{position-Some}
use Rattle.std.proofs.lemmas.Option.{get_or_from_slice_get}
use Rattle.rd_base.specs.Lawful.{IsBelow}
use Rattle.rd_base.specs.declared.journal.Item.{Item}
use Rattle.rd_base.specs.declared.journal.Item.TheVariants.{Came, Sent}
use Rattle.rd_base.specs.declared.journal.Key.{Key}
use Rattle.rd_client.specs.Core as client
use Rattle.rd_client.specs.Core.{ClientCoreState, Outgoing, client_hear, client_side, job_of}
use Rattle.rd_client.specs.declared.heard.Heard.{Heard}
use Rattle.rd_client.specs.declared.heard.Heard.TheVariants.{Nothing, Ask, Print}
use Rattle.rd_core.specs.Core as core
use Rattle.rd_core.specs.Hearing as hearing
use Rattle.rd_desk.specs.declared.calls.DeskCall.{DeskCall}
use Rattle.rd_desk.specs.declared.calls.DeskCall.TheVariants as desk
use Rattle.rd_desk.specs.declared.calls.DeskReply.{DeskReply}
use Rattle.rd_desk.specs.declared.calls.DeskReply.TheVariants as replied
use Rattle.rd_drive.specs.declared.plan.Job.{Job}
use Rattle.rd_front.specs.Front.{ClientDoes, Sends, end_call, one_if_done, with_new_data}
use Rattle.rd_front.specs.State.{DeviceDeskState, FrontState, SessionDeskStep, SessionStation}
use Rattle.rd_front.specs.declared.calls.FrontCall.{FrontCall}
use Rattle.rd_front.specs.declared.calls.FrontReply.{FrontReply}
use Rattle.rd_front.specs.declared.calls.FrontReply.TheVariants as reply
use Rattle.rd_hello.specs.declared.end_fault.EndFault.{EndFault}
use Rattle.rd_hello.specs.declared.end_fault.EndFault.TheVariants as fault
use Rattle.rd_irp.specs.declared.request.Request.{Request}
use Rattle.rd_station.specs.Station as station
use Rattle.rd_station.specs.Station.{held, new_station, puts, puts_unfit}
use Rattle.rd_station.specs.declared.refusals.PutNo.{PutNo}
use Rattle.rd_station.specs.declared.refusals.PutWhy.{PutWhy}
use Rattle.rd_station.specs.declared.refusals.PutWhy.TheVariants as why
use Rattle.rd_station.proofs.Members.{to_contains}
use Rattle.rd_station.proofs.Remembering.{came_named}
use Rattle.rd_turn.specs.declared.object.Entry.{Entry}
use Rattle.rd_declared.specs.Devices.{PrinterNames, printer_data}
use Rattle.rd_deeds.specs.Talk.{Deed, Has, adds, client_read, client_reads, is_request, journal, removes, request_at, request_in, stores}
use Rattle.rd_world.specs.World.{Kept}
use Rattle.rd_journals.specs.Jobs.{IsIdOf, IsJobOf}
use Rattle.rd_journals.proofs.AskingLemmas.{HeardAs, hears}
use Rattle.rd_journals.proofs.HeldLemmas.{stored_unread, turned_has}
use Rattle.rd_journals.proofs.WorkLemmas.{Grown, grown_more}
use Rattle.rd_served.specs.Deeds.{AreCaused, HasCause, IsCaused, IsDuplicate, deeds_after, deeds_of, deeds_of_calls, sent_by, stored, stored_each}
use Rattle.rd_served.specs.Histories.{AreApart, Among, AreStationed, HistoryGoes, IsNewDesk, IsNewFront}
use Rattle.rd_served.specs.Parts.{AsksBy, CallsAt, Comes, EndsEach, IsOpenCall, FrontPart, PartGoes, PartsGo, asking_by, begins, calls, directs, duplicate_by, duplicate_of, ended_front, ends, forgets, keeps, learns, misplaces, refreshes, sends, tells_gone, tells_there, tries, unwritten, writes}
use Rattle.rd_served.specs.Parts as part
use Rattle.rd_served.specs.Served.{Asking, CallsDesk, IsStationed, Served, asks, idle}
use Rattle.rd_served.proofs.HeldLemmas.{HeldIn, drop_none, end_none, found_in_use, held_came, held_less, held_unsent, put_more, work_less}
use Rattle.rd_served.proofs.KeyLemmas.{IsKeyed, IsUnder, has_at, middle_named, new_one, part_keyed, parts_keyed, worked}
use Rattle.rd_served.proofs.StationLemmas.{IsBeside, Step, put_refused}

abbrev Of : Type 0
Of = SessionStation

-- any request
abbrev pub AnyRequest : Request → Type 0
AnyRequest r = Unit {0}

abbrev pub IsIdAt : List Deed → ℕ → Key × ℕ → Type 0
IsIdAt deeds device x = IsIdOf AnyRequest deeds device x.0 x.1

abbrev pub IsJobAt : List Deed → Kept → Type 0
IsJobAt deeds k = IsJobOf AnyRequest deeds k.device k.job

-- a desk with its station
abbrev pub At : Served → ℕ → DeviceDeskState → Of → Type 0
At p place d s = (slice_get (p.front).desks place ≡ Some d) × (slice_get p.stations place ≡ Some s)

-- What the deeds tell of a front: the journals of its stations, and the requests that were read, of which each job is that is held, under way, or kept back.
pub record IsTold (p : Served) (deeds : List Deed) : Type 0 where
  pub apart : AreApart (p.front).desks
  pub tied : (place : ℕ) (d : DeviceDeskState) (s : Of) → At p place d s → journal d.id deeds ≡ reverse s.journal
  pub counted : (p.front).on ≡ true → (((p.front).client).core).fault ≡ None → length (filter is_request (client_read (p.front).channel deeds)) ≡ ((p.front).client).asked
  pub unread : (c : ℕ) → (p.front).channel < c → client_read c deeds ≡ []
  pub held : (place : ℕ) (d : DeviceDeskState) (s : Of) → At p place d s → (x : Key × ℕ) → HeldIn s x → IsIdAt deeds d.id x
  pub asking : (k : Kept) → IsUnder p.asking k → IsJobAt deeds k
  pub kept : (k : Kept) → (p.front).kept ≡ Some k → IsJobAt deeds k

id_grown : (deeds more : List Deed) → Grown deeds more → (device : ℕ) (x : Key × ℕ) → IsIdAt deeds device x → IsIdAt more device x
id_grown deeds more grown device x is = record { request = is.request; read = grown (x.0).channel (x.0).index is.request is.read; device = is.device; id = is.id; fine = tt }

job_grown : (deeds more : List Deed) → Grown deeds more → (k : Kept) → IsJobAt deeds k → IsJobAt more k
job_grown deeds more grown k is = record { request = is.request; read = grown k.job.key.channel k.job.key.index is.request is.read; device = is.device; job_is = is.job_is; fine = tt }

-- ---- lists

pub get_set : {A : Type 0} (xs : List A) (place k : ℕ) (y x : A) → slice_get (slice_set xs place y) k ≡ Some x → ((k ≡ place) × (x ≡ y)) ⊎ ((k ≢ place) × (slice_get xs k ≡ Some x))
get_set [] place k y x is = absurd (cc (is))
get_set (z ∷ zs) zero zero y x is = inl (refl, (let same : y ≡ x = cc (is) in sym same))
get_set (z ∷ zs) zero (suc k) y x is = inr ((λ e. omega (arith, e)), is)
get_set (z ∷ zs) (suc place) zero y x is = inr ((λ e. omega (arith, e)), is)
get_set (z ∷ zs) (suc place) (suc k) y x is = elim (get_set zs place k y x is) [
  | inl here ↦ inl (omega (arith, here.0), here.1)
  | inr there ↦ inr ((λ e. there.0 (omega (arith, e))), there.1)
]

-- ---- what is stored

pub stored_here : (d : ℕ) (items : List Item) (deeds : List Deed) → journal d (map (stores d) items ++ deeds) ≡ items ++ journal d deeds
stored_here d [] deeds = refl
stored_here d (x ∷ items) deeds = ap (λ (b : Bool). cons_option (cond b (Some x) None) (journal d (map (stores d) items ++ deeds))) (eq-eqb d d refl) ∙ ap (λ (xs : List Item). x ∷ xs) (stored_here d items deeds)

pub stored_elsewhere : (d q : ℕ) (items : List Item) (deeds : List Deed) → (d == q) ≡ false → journal q (map (stores d) items ++ deeds) ≡ journal q deeds
stored_elsewhere d q [] deeds apart = refl
stored_elsewhere d q (x ∷ items) deeds apart = ap (λ (b : Bool). cons_option (cond b (Some x) None) (journal q (map (stores d) items ++ deeds))) apart ∙ stored_elsewhere d q items deeds apart

pub other_id : (a b : ℕ) → (a ≡ b → ⊥) → (a == b) ≡ false
other_id a b other = by (a == b) refl
  where
    by : (e : Bool) → (a == b) ≡ e → e ≡ false
    by true is = absurd (other (eqb-true a b is))
    by false is = refl

-- a journal that goes on
tied_more : (device : ℕ) (old more : List Item) (deeds : List Deed) → journal device deeds ≡ reverse old → journal device (stored device more ++ deeds) ≡ reverse (old ++ more)
tied_more device old more deeds tied = stored_here device (reverse more) deeds ∙ ap (λ (xs : List Item). reverse more ++ xs) tied ∙ sym (reverse-append old more)

-- ---- parts that read nothing and store nothing

record IsSilent (p : Served) (deeds more : List Deed) : Type 0 where
  journals : (d : ℕ) → journal d (more ++ deeds) ≡ journal d deeds
  reads : (c : ℕ) → client_read c (more ++ deeds) ≡ client_read c deeds

none_silent : (p : Served) (deeds : List Deed) → IsSilent p deeds []
none_silent p deeds = record { journals = λ d. refl; reads = λ c. refl }

-- What a part leaves of the front: its desks, the channel, and what the core counts.
record IsLeft (s t : FrontState) : Type 0 where
  desks : t.desks ≡ s.desks
  on : t.on ≡ s.on
  channel : t.channel ≡ s.channel
  asked : (t.client).asked ≡ (s.client).asked
  fault : ((t.client).core).fault ≡ ((s.client).core).fault

left_same : (s : FrontState) → IsLeft s s
left_same s = record { desks = refl; on = refl; channel = refl; asked = refl; fault = refl }

told_silent : (p q : Served) (deeds more : List Deed) → IsTold p deeds → IsSilent p deeds more → IsLeft p.front q.front → q.stations ≡ p.stations → ((k : Kept) → IsUnder q.asking k → IsJobAt deeds k)
    → ((k : Kept) → (q.front).kept ≡ Some k → IsJobAt deeds k) → IsTold q (more ++ deeds)
told_silent p q deeds more told silent left stations asking kept = record {
  apart = subst AreApart (sym left.desks) told.apart;
  tied = λ place d s at. silent.journals d.id ∙ told.tied place d s (before place d s at);
  counted = λ on fine. ap (λ (ms : List (List ℕ)). length (filter is_request ms)) (silent.reads (q.front).channel ∙ ap (λ (c : ℕ). client_read c deeds) left.channel)
      ∙ told.counted (sym left.on ∙ on) (sym left.fault ∙ fine) ∙ sym left.asked;
  unread = λ c above. silent.reads c ∙ told.unread c (subst (λ (n : ℕ). n < c) left.channel above);
  held = λ place d s at x has. id_grown deeds (more ++ deeds) (grown_more more deeds) d.id x (told.held place d s (before place d s at) x has);
  asking = λ k under. job_grown deeds (more ++ deeds) (grown_more more deeds) k (asking k under);
  kept = λ k is. job_grown deeds (more ++ deeds) (grown_more more deeds) k (kept k is);
}
  where
    before : (place : ℕ) (d : DeviceDeskState) (s : Of) → At q place d s → At p place d s
    before place d s at = (ap (λ (ds : List DeviceDeskState). slice_get ds place) (sym left.desks) ∙ at.0, ap (λ (ss : List Of). slice_get ss place) (sym stations) ∙ at.1)

told_beside : (p q : Served) (deeds more : List Deed) → IsTold p deeds → IsSilent p deeds more → IsLeft p.front q.front → q.stations ≡ p.stations → q.asking ≡ p.asking → (q.front).kept ≡ (p.front).kept → IsTold q (more ++ deeds)
told_beside p q deeds more told silent left stations asking kept =
    told_silent p q deeds more told silent left stations (λ k under. told.asking k (subst (λ (a : Asking). IsUnder a k) asking under)) (λ k is. told.kept k (sym kept ∙ is))

told_idle : (p q : Served) (deeds more : List Deed) → IsTold p deeds → IsSilent p deeds more → IsLeft p.front q.front → q.stations ≡ p.stations → q.asking ≡ idle → (q.front).kept ≡ (p.front).kept → IsTold q (more ++ deeds)
told_idle p q deeds more told silent left stations asking kept =
    told_silent p q deeds more told silent left stations (λ k under. absurd (subst (λ (a : Asking). IsUnder a k) asking under)) (λ k is. told.kept k (sym kept ∙ is))

-- ---- what the core does

abbrev CoreLeft : ClientCoreState → ClientCoreState → Type 0
CoreLeft old new = (new.asked ≡ old.asked) × ((new.core).fault ≡ (old.core).fault)

did_left : (answer : Result (Unit {0}) AllocError) (done old new : ClientCoreState) → core.Did answer done old new → CoreLeft old done → CoreLeft old new
did_left (Ok fine) done old new is left = subst (CoreLeft old) (sym is) left
did_left (Err error) done old new is left = subst (CoreLeft old) (sym is) (refl, refl)

sent_left : (c new : ClientCoreState) (sent : Option Outgoing) → client.client_send c ≡ (new, sent) → CoreLeft c new
sent_left c new sent is = subst (CoreLeft c) (ap (λ (r : ClientCoreState × Option Outgoing). r.0) is) (by (c.core).outbox)
  where
    by : (outbox : List Outgoing) → CoreLeft c (let r = core.send_from c.core outbox in record c { core = r.0 })
    by [] = (refl, refl)
    by (o ∷ os) = (refl, refl)

client_left : (s t : FrontState) (unsent : ℕ) → t ≡ record s { client = t.client; unsent = unsent } → CoreLeft s.client t.client → IsLeft s t × (t.kept ≡ s.kept)
client_left s t unsent is left = (
  record {
    desks = ap (λ (x : FrontState). x.desks) is;
    on = ap (λ (x : FrontState). x.on) is;
    channel = ap (λ (x : FrontState). x.channel) is;
    asked = left.0;
    fault = left.1;
  },
  ap (λ (x : FrontState). x.kept) is,
)

refreshed_left : (s : FrontState) (device : ℕ) → IsLeft s (with_new_data s device) × ((with_new_data s device).kept ≡ s.kept)
refreshed_left s device = go (lookup (is_at (nat_cmp device)) s.printers)
  where
    go : (o : Option PrinterNames) → let t = option_map_or (λ (names : PrinterNames). record s { client = client.refresh s.client device (printer_data s.cache names) }) o s in IsLeft s t × (t.kept ≡ s.kept)
    go None = (left_same s, refl)
    go (Some names) = (record { desks = refl; on = refl; channel = refl; asked = refl; fault = refl }, refl)

-- ---- a message is heard

own_read : (c : ℕ) (m : List ℕ) (deeds : List Deed) → client_read c (client_reads c m ∷ deeds) ≡ m ∷ client_read c deeds
own_read c m deeds = ap (λ (b : Bool). cons_option (cond b (Some m) None) (client_read c deeds)) (eq-eqb c c refl)

other_read : (c d : ℕ) (m : List ℕ) (deeds : List Deed) → c < d → client_read d (client_reads c m ∷ deeds) ≡ client_read d deeds
other_read c d m deeds above = ap (λ (b : Bool). cons_option (cond b (Some m) None) (client_read d deeds)) (other_id c d (λ same. omega (arith, above, same)))

-- how many requests were read then, and the job that is asked for
abbrev ReadAs : ClientCoreState → ClientCoreState → List ℕ → Result Heard EndFault → Type 0
ReadAs old new m answer = HeardAs old m (new, answer)

counted_after : (old new : ClientCoreState) (m : List ℕ) (answer : Result Heard EndFault) (before : List (List ℕ)) → HeardAs old m (new, answer) → ((old.core).fault ≡ None → length (filter is_request before) ≡ old.asked) → (new.core).fault ≡ None
    → length (filter is_request (m ∷ before)) ≡ new.asked
counted_after old new m (Err cause) before (channel, asked, wrong) counted fine = absurd (let none = ap is_some fine in cc (none, wrong))
counted_after old new m (Ok Nothing) before (channel, asked, other, same) counted fine =
    ap (λ (b : Bool). length (cond b (m ∷ filter is_request before) (filter is_request before))) other ∙ counted (sym same ∙ fine) ∙ sym asked
counted_after old new m (Ok (Print n)) before (channel, asked, other, same) counted fine =
    ap (λ (b : Bool). length (cond b (m ∷ filter is_request before) (filter is_request before))) other ∙ counted (sym same ∙ fine) ∙ sym asked
counted_after old new m (Ok (Ask device job)) before (channel, asked, one, same, none, r, spelled, named, is_job) counted fine =
    ap (λ (b : Bool). length (cond b (m ∷ filter is_request before) (filter is_request before))) one ∙ (let n = counted none in omega (arith, n, asked))

read_at : (m : List ℕ) (before : List (List ℕ)) (index : ℕ) (r : Request) → is_request m ≡ true → length (filter is_request before) ≡ index → request_in m ≡ Some r → request_at (m ∷ before) index ≡ Some r
read_at m before index r one counted spelled = ap (λ (b : Bool). cond b (request_in m) (request_at before index)) both ∙ spelled
  where
    both : (is_request m && length (filter is_request before) == index) ≡ true
    both = ap (λ (b : Bool). b && length (filter is_request before) == index) one ∙ eq-eqb _ _ counted

asked_job : (channel : ℕ) (old new : ClientCoreState) (m : List ℕ) (device : ℕ) (job : Job) (deeds : List Deed) → old.channel ≡ channel → HeardAs old m (new, Ok (Ask device job)) → ((old.core).fault ≡ None → length (filter is_request (client_read channel deeds)) ≡ old.asked)
    → IsJobAt (client_reads channel m ∷ deeds) (record { device = device; job = job })
asked_job channel old new m device job deeds here (same, asked, one, fault_same, none, r, spelled, named, is_job) counted =
    subst (λ (j : Job). IsJobOf AnyRequest (client_reads channel m ∷ deeds) device j) (sym (is_job ∙ ap (λ (c : ℕ). job_of r c old.asked) here)) (record {
      request = r;
      read = ap (λ (ms : List (List ℕ)). request_at ms old.asked) (own_read channel m deeds) ∙ read_at m (client_read channel deeds) old.asked r one (counted none) spelled;
      device = sym named;
      job_is = refl;
      fine = tt;
    })

-- where it was heard
heard_told : (p q : Served) (deeds : List Deed) (m : List ℕ) (answer : Result Heard EndFault) → IsKeyed p → IsTold p deeds → (p.front).on ≡ true → q.front ≡ record p.front { client = (q.front).client; unsent = (q.front).unsent } → q.stations ≡ p.stations
    → HeardAs (p.front).client m ((q.front).client, answer) → q.asking ≡ asking_by answer → IsTold q (client_reads (p.front).channel m ∷ deeds)
heard_told p q deeds m answer keyed told on is stations heard asking = record {
  apart = subst AreApart (sym desks) told.apart;
  tied = λ place d s at. told.tied place d s (before place d s at);
  counted = λ q_on fine. ap (λ (c : ℕ). length (filter is_request (client_read c (client_reads (p.front).channel m ∷ deeds)))) channel ∙ ap (λ (ms : List (List ℕ)). length (filter is_request ms)) (own_read (p.front).channel m deeds)
      ∙ counted_after (p.front).client (q.front).client m answer (client_read (p.front).channel deeds) heard (told.counted on) fine;
  unread = λ c above. let late : (p.front).channel < c = subst (λ (n : ℕ). n < c) channel above in other_read (p.front).channel c m deeds late ∙ told.unread c late;
  held = λ place d s at x has. id_grown deeds more grown d.id x (told.held place d s (before place d s at) x has);
  asking = λ k under. asked answer heard k (subst (λ (a : Asking). IsUnder a k) asking under);
  kept = λ k some. job_grown deeds more grown k (told.kept k (sym (ap (λ (s : FrontState). s.kept) is) ∙ some));
}
  where
    more : List Deed
    more = client_reads (p.front).channel m ∷ deeds

    grown : Grown deeds (client_reads (p.front).channel m ∷ deeds)
    grown = grown_more (client_reads (p.front).channel m ∷ []) deeds

    desks : (q.front).desks ≡ (p.front).desks
    desks = ap (λ (s : FrontState). s.desks) is

    channel : (q.front).channel ≡ (p.front).channel
    channel = ap (λ (s : FrontState). s.channel) is

    before : (place : ℕ) (d : DeviceDeskState) (s : Of) → At q place d s → At p place d s
    before place d s at = (ap (λ (ds : List DeviceDeskState). slice_get ds place) (sym desks) ∙ at.0, ap (λ (ss : List Of). slice_get ss place) (sym stations) ∙ at.1)

    asked : (a : Result Heard EndFault) → HeardAs (p.front).client m ((q.front).client, a) → (k : Kept) → IsUnder (asking_by a) k → IsJobAt (client_reads (p.front).channel m ∷ deeds) k
    asked (Ok (Ask device job)) h k under = subst (IsJobAt (client_reads (p.front).channel m ∷ deeds)) under (asked_job (p.front).channel (p.front).client (q.front).client m device job deeds (keyed.same on) h (told.counted on))
    asked (Ok Nothing) h k under = absurd under
    asked (Ok (Print n)) h k under = absurd under
    asked (Err cause) h k under = absurd under

true_left : (a b : Bool) → (a && b) ≡ true → a ≡ true
true_left true b is = refl
true_left false b is = absurd (cc (is))

hears_told : (p q : Served) (deeds : List Deed) (channel : ℕ) (m : List ℕ) (answer : Result Heard EndFault) → PartGoes p (part.hears channel m answer) q → IsKeyed p → IsTold p deeds → IsTold q (deeds_of (part.hears channel m answer) ++ deeds)
hears_told p q deeds channel m answer goes keyed told = by answer ((goes.3).0).1 goes.4
  where
    on : (p.front).on ≡ true
    on = true_left (p.front).on _ goes.2

    is : q.front ≡ record p.front { client = (q.front).client; unsent = (q.front).unsent }
    is = (goes.3).1 ∙ ap (λ (n : ℕ). record p.front { client = (q.front).client; unsent = n }) (sym (ap (λ (s : FrontState). s.unsent) (goes.3).1))

    heard : (a : Result Heard EndFault) → client_hear (p.front).client m ≡ ((q.front).client, a) → q.asking ≡ asking_by a → IsTold q (client_reads channel m ∷ deeds)
    heard a e asking = subst (λ (c : ℕ). IsTold q (client_reads c m ∷ deeds)) (sym goes.0) (heard_told p q deeds m a keyed told on is goes.5 (subst (HeardAs (p.front).client m) e (hears (p.front).client m)) asking)

    by : (a : Result Heard EndFault) → hearing.Hears client_side (λ (c : ClientCoreState). c.core) client_hear (p.front).client m a (q.front).client → q.asking ≡ asking_by a → IsTold q (deeds_of (part.hears channel m a) ++ deeds)
    by (Err fault.Memory) did asking =
        let same = client_left p.front q.front (q.front).unsent is (ap (λ (c : ClientCoreState). c.asked) did.1, ap (λ (c : ClientCoreState). (c.core).fault) did.1) in
        told_idle p q deeds [] told (none_silent p deeds) same.0 goes.5 asking same.1
    by (Err (fault.Order state packet)) did asking = heard (Err (fault.Order state packet)) did asking
    by (Err (fault.Grammar bad)) did asking = heard (Err (fault.Grammar bad)) did asking
    by (Ok h) did asking = heard (Ok h) did asking

-- ---- a desk is called

-- a desk keeps its device
same_id : (ds : List DeviceDeskState) (place : ℕ) (before after : DeviceDeskState) → slice_get ds place ≡ Some before → after.id ≡ before.id → (i : ℕ) (d : DeviceDeskState) → slice_get (slice_set ds place after) i ≡ Some d
    → (e : DeviceDeskState) × (slice_get ds i ≡ Some e) × (e.id ≡ d.id)
same_id ds place before after there id i d is = elim (get_set ds place i after d is) [
  | inl here ↦ (before, ap (slice_get ds) here.0 ∙ there, sym id ∙ sym (ap (λ (x : DeviceDeskState). x.id) here.1))
  | inr was ↦ (d, was.1, refl)
]

still_apart : (ds es : List DeviceDeskState) → ((i : ℕ) (d : DeviceDeskState) → slice_get es i ≡ Some d → (e : DeviceDeskState) × (slice_get ds i ≡ Some e) × (e.id ≡ d.id)) → AreApart ds → AreApart es
still_apart ds es before apart i j d e at at_too same =
    let (x, one, id) = before i d at in
    let (y, two, other) = before j e at_too in
    apart i j x y one two (id ∙ same ∙ sym other)

pub some_same : {A : Type 0} (x y : A) (o : Option A) → o ≡ Some x → o ≡ Some y → x ≡ y
some_same x y o one two = let both : Some x ≡ Some y = sym one ∙ two in cc (both)

module _ (p q : Served) (place id : ℕ) (does : DeskCall) (back : DeskReply) (items : List Item) (deeds : List Deed) (keyed : IsKeyed p) (told : IsTold p deeds) (at : CallsAt p place id does back items q) where
  abbrev more : List Deed
  more = stored id items ++ deeds

  grown : Grown deeds more
  grown = grown_more (stored id items) deeds

  first_at : At p place at.before at.first
  first_at = (at.there, at.has)

  held_middle : (x : Key × ℕ) → HeldIn (at.called).middle x → IsIdAt deeds id x
  held_middle x has = subst (λ (n : ℕ). IsIdAt deeds n x) at.id_is (told.held place at.before at.first first_at x (work_less at.first (at.called).middle (at.called).works x has))

  pub tied_then : journal id more ≡ reverse (at.last).journal
  tied_then = tied_more id (at.first).journal items deeds (ap (λ (n : ℕ). journal n deeds) (sym at.id_is) ∙ told.tied place at.before at.first first_at) ∙ ap reverse (sym (at.called).stored)

  -- a desk with its station then: this one, or another as it was
  pub found : (k : ℕ) (d : DeviceDeskState) (s : Of) → At q k d s → ((k ≡ place) × (d.id ≡ id) × (s ≡ at.last)) ⊎ (((id == d.id) ≡ false) × At p k d s)
  found k d s here = elim (get_set (p.front).desks place k at.after d (ap (λ (ds : List DeviceDeskState). slice_get ds k) (sym (ap (λ (x : FrontState). x.desks) at.front_is)) ∙ here.0)) [
    | inl this ↦ inl (
      this.0,
      ap (λ (x : DeviceDeskState). x.id) this.1 ∙ (at.called).id ∙ at.id_is,
      elim (get_set p.stations place k at.last s (ap (λ (ss : List Of). slice_get ss k) (sym at.stations_are) ∙ here.1)) [ inl one ↦ one.1 | inr other ↦ absurd (other.0 this.0) ],
    )
    | inr that ↦ inr (
      other_id id d.id (λ same. that.0 (told.apart k place d at.before that.1 at.there (sym same ∙ sym at.id_is))),
      (that.1, elim (get_set p.stations place k at.last s (ap (λ (ss : List Of). slice_get ss k) (sym at.stations_are) ∙ here.1)) [ inl one ↦ absurd (that.0 one.0) | inr other ↦ other.1 ]),
    )
  ]

  called_told : ((x : Key × ℕ) → HeldIn at.last x → IsIdAt deeds id x) → ((k : Kept) → IsUnder q.asking k → IsUnder p.asking k) → IsTold q more
  called_told held under = record {
    apart = subst AreApart (sym (ap (λ (x : FrontState). x.desks) at.front_is)) (still_apart (p.front).desks (slice_set (p.front).desks place at.after) (same_id (p.front).desks place at.before at.after at.there (at.called).id) told.apart);
    tied = λ k d s here. elim (found k d s here) [
      | inl (this, same, station) ↦ ap (λ (n : ℕ). journal n more) same ∙ tied_then ∙ ap (λ (x : Of). reverse x.journal) (sym station)
      | inr (other, was) ↦ stored_elsewhere id d.id (reverse items) deeds other ∙ told.tied k d s was
    ];
    counted = λ on fine. ap (λ (ms : List (List ℕ)). length (filter is_request ms)) (stored_unread id (q.front).channel (reverse items) deeds ∙ ap (λ (c : ℕ). client_read c deeds) (ap (λ (x : FrontState). x.channel) at.front_is))
        ∙ told.counted (sym (ap (λ (x : FrontState). x.on) at.front_is) ∙ on) (sym (ap (λ (x : FrontState). ((x.client).core).fault) at.front_is) ∙ fine) ∙ sym (ap (λ (x : FrontState). (x.client).asked) at.front_is);
    unread = λ c above. stored_unread id c (reverse items) deeds ∙ told.unread c (subst (λ (n : ℕ). n < c) (ap (λ (x : FrontState). x.channel) at.front_is) above);
    held = λ k d s here x has. elim (found k d s here) [
      | inl (this, same, station) ↦ subst (λ (n : ℕ). IsIdAt more n x) (sym same) (id_grown deeds more grown id x (held x (subst (λ (y : Of). HeldIn y x) station has)))
      | inr (other, was) ↦ id_grown deeds more grown d.id x (told.held k d s was x has)
    ];
    asking = λ k is. job_grown deeds more grown k (told.asking k (under k is));
    kept = λ k is. job_grown deeds more grown k (told.kept k (sym (ap (λ (x : FrontState). x.kept) at.front_is) ∙ is));
  }

  -- the device of the job that comes is that of the desk
  own_device : (job : Job) (c : Comes p place job) → c.kept.device ≡ id
  own_device job c =
      let found = position-Some (λ (d : DeviceDeskState). d.id == c.kept.device) (p.front).desks place at.before c.at in
      let here = get_or_from_slice_get (p.front).desks place at.before at.before at.there in
      sym (eqb-true (at.before).id c.kept.device (ap (λ (d : DeviceDeskState). d.id == c.kept.device) (sym here) ∙ found.1)) ∙ at.id_is

  pub job_told : (job : Job) (c : Comes p place job) → IsJobOf AnyRequest deeds id job
  job_told job c = subst (λ (j : Job). IsJobOf AnyRequest deeds id j) (sym c.job_is) (subst (λ (n : ℕ). IsJobOf AnyRequest deeds n c.kept.job) (own_device job c) (told.asking c.kept (subst (λ (a : Asking). IsUnder a c.kept) (sym c.asked) refl)))

  job_id : (job : Job) → IsJobOf AnyRequest deeds id job → IsIdAt deeds id (job.key, job.completion)
  job_id job is = record { request = is.request; read = is.read; device = is.device; id = ap (λ (j : Job). j.completion) is.job_is; fine = tt }

calls_told : (p q : Served) (place id : ℕ) (does : DeskCall) (back : DeskReply) (items : List Item) (deeds : List Deed) → IsKeyed p → IsTold p deeds → CallsAt p place id does back items q → IsTold q (stored id items ++ deeds)
calls_told p q place id does back items deeds keyed told at = by does back at.own at.asking_is (at.called).step
  where
    less : (call : station.StationCall) → IsBeside call → (between : Of) → Step (at.called).middle call between → at.last ≡ between → (x : Key × ℕ) → HeldIn at.last x → IsIdAt deeds id x
    less call own between step is x has = held_middle p q place id does back items deeds keyed told at x (held_less (at.called).middle between call own step x (subst (λ (s : Of). HeldIn s x) is has))

    told_by : ((x : Key × ℕ) → HeldIn at.last x → IsIdAt deeds id x) → ((k : Kept) → IsUnder q.asking k → IsUnder p.asking k) → IsTold q (stored id items ++ deeds)
    told_by held under = called_told p q place id does back items deeds keyed told at held under

    came : (job : Job) → Comes p place job → (between : Of) → station.put (at.called).middle job ≡ (between, None) → at.last ≡ between → (x : Key × ℕ) → HeldIn at.last x → IsIdAt deeds id x
    came job c between step is x has = elim (put_more (at.called).middle between job step x (subst (λ (s : Of). HeldIn s x) is has)) [
      | inl was ↦ held_middle p q place id does back items deeds keyed told at x was
      | inr new ↦ subst (IsIdAt deeds id) (sym new) (job_id p q place id does back items deeds keyed told at job (job_told p q place id does back items deeds keyed told at job c))
    ]

    by : (d : DeskCall) (r : DeskReply) → IsOpenCall d → AsksBy p place id d r q.asking → SessionDeskStep (at.called).middle d r at.last → IsTold q (stored id items ++ deeds)
    by desk.Announce (replied.Announced answer) own then step = told_by (less (station.announces answer) tt (step.0).0 (step.0).1 (step.0).2) (λ k. subst (λ (a : Asking). IsUnder a k) then)
    by desk.Announce (replied.Put answer) own then step = absurd step.1
    by desk.Announce (replied.Unfit job) own then step = absurd step.1
    by desk.Announce (replied.Worked w) own then step = absurd step.1
    by desk.Announce (replied.Collected answer) own then step = absurd step.1
    by desk.Announce (replied.Removed answer) own then step = absurd step.1
    by desk.Announce replied.Dropped own then step = absurd step.1
    by desk.Announce replied.Ended own then step = absurd step.1
    by desk.Collect (replied.Collected None) own then step = told_by (less (station.collects None) tt (step.0).0 (step.0).1 (step.0).2) (λ k. subst (λ (a : Asking). IsUnder a k) then)
    by desk.Collect (replied.Collected (Some c)) own then step = told_by (less (station.collects (Some c)) tt (step.0).0 (step.0).1 (step.0).2) (λ k under. absurd (subst (λ (a : Asking). IsUnder a k) then.1 under))
    by desk.Collect (replied.Announced answer) own then step = absurd step.1
    by desk.Collect (replied.Put answer) own then step = absurd step.1
    by desk.Collect (replied.Unfit job) own then step = absurd step.1
    by desk.Collect (replied.Worked w) own then step = absurd step.1
    by desk.Collect (replied.Removed answer) own then step = absurd step.1
    by desk.Collect replied.Dropped own then step = absurd step.1
    by desk.Collect replied.Ended own then step = absurd step.1
    by desk.Remove (replied.Removed answer) own then step = told_by (less (station.removes answer) tt (step.0).0 (step.0).1 (step.0).2) (λ k. subst (λ (a : Asking). IsUnder a k) then)
    by desk.Remove (replied.Announced answer) own then step = absurd step.1
    by desk.Remove (replied.Put answer) own then step = absurd step.1
    by desk.Remove (replied.Unfit job) own then step = absurd step.1
    by desk.Remove (replied.Worked w) own then step = absurd step.1
    by desk.Remove (replied.Collected answer) own then step = absurd step.1
    by desk.Remove replied.Dropped own then step = absurd step.1
    by desk.Remove replied.Ended own then step = absurd step.1
    by (desk.Put job) (replied.Put (Ok done)) own then step = told_by (came job then.0 (step.0).0 ((step.0).1).1 (step.0).2) (λ k under. absurd (subst (λ (a : Asking). IsUnder a k) then.1 under))
    by (desk.Put job) (replied.Put (Err refusal)) own then step =
        told_by (less (puts job (Some refusal)) tt (step.0).0 (step.0).1 (step.0).2) (λ k under. subst (λ (a : Asking). IsUnder a k) (sym (then.0).asked) (subst (λ (a : Asking). IsUnder a k) then.1 under))
    by (desk.Put job) (replied.Unfit back) own then step = told_by (less (puts_unfit job back) tt (step.0).0 (step.0).1 (step.0).2) (λ k under. absurd (subst (λ (a : Asking). IsUnder a k) then.1 under))
    by (desk.Put job) (replied.Announced answer) own then step = absurd step.1
    by (desk.Put job) (replied.Worked w) own then step = absurd step.1
    by (desk.Put job) (replied.Collected answer) own then step = absurd step.1
    by (desk.Put job) (replied.Removed answer) own then step = absurd step.1
    by (desk.Put job) replied.Dropped own then step = absurd step.1
    by (desk.Put job) replied.Ended own then step = absurd step.1
    by (desk.Work runs) r own then step = absurd own
    by desk.DropChannel r own then step = absurd own
    by desk.End r own then step = absurd own

-- ---- a completion id that is in use

pub to_turned : {A : Type 0} (x : A) (xs : List A) → Has x xs → Has x (reverse xs)
to_turned x xs has = turned_has x (reverse xs) (subst (Has x) (sym (reverse-reverse xs)) has)

caused : (p q : Served) (place id : ℕ) (does : DeskCall) (refusal : PutNo) (items : List Item) (key : Key) (deeds : List Deed) → IsKeyed p → IsTold p deeds → (at : CallsAt p place id does (replied.Put (Err refusal)) items q) → refusal.why ≡ why.Duplicate key
    → (job : Job) × (does ≡ desk.Put job) × HasCause id job key (stored id items ++ deeds)
caused p q place id desk.Announce refusal items key deeds keyed told at is = absurd ((at.called).step).1
caused p q place id desk.Collect refusal items key deeds keyed told at is = absurd ((at.called).step).1
caused p q place id desk.Remove refusal items key deeds keyed told at is = absurd ((at.called).step).1
caused p q place id (desk.Work runs) refusal items key deeds keyed told at is = absurd at.own
caused p q place id desk.DropChannel refusal items key deeds keyed told at is = absurd at.own
caused p q place id desk.End refusal items key deeds keyed told at is = absurd at.own
caused p q place id (desk.Put job) refusal items key deeds keyed told at is =
    let middle : Of = (at.called).middle in
    let back : DeskReply = replied.Put (Err refusal) in
    let step = ((at.called).step).0 in
    let refused_so : station.PutRefused middle job (why.Duplicate key) step.0 = subst (λ (w : PutWhy). station.PutRefused middle job w step.0) is (step.1).1 in
    let same : at.last ≡ middle = step.2 ∙ put_refused middle step.0 job (why.Duplicate key) refused_so in
    let c = (at.asking_is).0 in
    let under : IsUnder p.asking c.kept = subst (λ (a : Asking). IsUnder a c.kept) (sym c.asked) refl in
    let next = keyed.asking c.kept under in
    let reached = (worked p q place id (desk.Put job) back items keyed at).on.sound.reached in
    let in_use : HeldIn middle (key, job.completion) = found_in_use middle step.0 job key refused_so in
    let came = held_came middle reached (key, job.completion) in_use in
    let own = job_told p q place id (desk.Put job) back items deeds keyed told at job c in
    let other = held_middle p q place id (desk.Put job) back items deeds keyed told at (key, job.completion) in_use in
    let more : List Deed = stored id items ++ deeds in
    let grown : Grown deeds more = grown_more (stored id items) deeds in
    let journal_is : journal id more ≡ reverse middle.journal = tied_then p q place id (desk.Put job) back items deeds keyed told at ∙ ap (λ (s : Of). reverse s.journal) same in (
      job,
      refl,
      record {
        request = own.request;
        read = grown job.key.channel job.key.index own.request own.read;
        device_is = own.device;
        job_is = own.job_is;
        other = other.request;
        other_read = grown key.channel key.index other.request other.read;
        other_device = other.device;
        same_id = sym other.id ∙ ap (λ (j : Job). j.completion) own.job_is;
        earlier = subst (λ (j : Job). IsBelow key j.key) (sym c.job_is) (next.above at.first (has_at p.stations place at.first at.has) key
            (middle_named p q place id (desk.Put job) back items keyed at key (came_named middle.journal key (to_contains middle.journal (Came key) came))));
        came = subst (Has (Came key)) (sym journal_is) (to_turned (Came key) middle.journal came);
        unsent = λ sent. held_unsent middle reached (key, job.completion) in_use (turned_has (Sent key) middle.journal (subst (Has (Sent key)) journal_is sent));
      },
    )

-- ---- a channel ends

-- no station of these is of this device
abbrev NoneOf : ℕ → List (ℕ × List Item) → Type 0
NoneOf device told = (i : ℕ) (t : ℕ × List Item) → slice_get told i ≡ Some t → t.0 ≡ device → ⊥

each_elsewhere : (device : ℕ) (told : List (ℕ × List Item)) (deeds : List Deed) → NoneOf device told → journal device (stored_each told ++ deeds) ≡ journal device deeds
each_elsewhere device [] deeds none = refl
each_elsewhere device (t ∷ told) deeds none =
    ap (journal device) (append_assoc (stored_each told) (stored t.0 t.1) deeds)
    ∙ each_elsewhere device told (stored t.0 t.1 ++ deeds) (λ i u at same. none (suc i) u at same)
    ∙ stored_elsewhere t.0 device (reverse t.1) deeds (other_id t.0 device (none 0 t refl))

-- no two of them are of one device
abbrev AreOnce : List (ℕ × List Item) → Type 0
AreOnce told = (i j : ℕ) (t u : ℕ × List Item) → slice_get told i ≡ Some t → slice_get told j ≡ Some u → t.0 ≡ u.0 → i ≡ j

each_here : (told : List (ℕ × List Item)) (place : ℕ) (t : ℕ × List Item) (deeds : List Deed) → AreOnce told → slice_get told place ≡ Some t → journal t.0 (stored_each told ++ deeds) ≡ reverse t.1 ++ journal t.0 deeds
each_here [] place t deeds once at = absurd (cc (at))
each_here (u ∷ told) zero t deeds once at =
    let same : u ≡ t = cc (at) in
    ap (journal t.0) (append_assoc (stored_each told) (stored u.0 u.1) deeds)
    ∙ each_elsewhere t.0 told (stored u.0 u.1 ++ deeds) (λ i v there equal. let k = once (suc i) 0 v u there refl (equal ∙ ap (λ (x : ℕ × List Item). x.0) (sym same)) in omega (arith, k))
    ∙ ap (λ (x : ℕ × List Item). journal t.0 (stored x.0 x.1 ++ deeds)) same
    ∙ stored_here t.0 (reverse t.1) deeds
each_here (u ∷ told) (suc place) t deeds once at =
    ap (journal t.0) (append_assoc (stored_each told) (stored u.0 u.1) deeds)
    ∙ each_here told place t (stored u.0 u.1 ++ deeds) (λ i j x y one two same. let k = once (suc i) (suc j) x y one two same in omega (arith, k)) at
    ∙ ap (λ (xs : List Item). reverse t.1 ++ xs) (stored_elsewhere u.0 t.0 (reverse u.1) deeds (other_id u.0 t.0 (λ same. let k = once 0 (suc place) u t refl at same in omega (arith, k))))

each_unread : (told : List (ℕ × List Item)) (c : ℕ) (deeds : List Deed) → client_read c (stored_each told ++ deeds) ≡ client_read c deeds
each_unread [] c deeds = refl
each_unread (t ∷ told) c deeds = ap (client_read c) (append_assoc (stored_each told) (stored t.0 t.1) deeds) ∙ each_unread told c (stored t.0 t.1 ++ deeds) ∙ stored_unread t.0 c (reverse t.1) deeds

-- a desk as its channel ended
record EndedAt (over : Bool) (ds : List DeviceDeskState) (ss : List Of) (ts : List (ℕ × List Item)) (place : ℕ) (e : DeviceDeskState) (u : Of) : Type 0 where
  desk_before : DeviceDeskState
  station_before : Of
  told : ℕ × List Item
  back : DeskReply
  desk_at : slice_get ds place ≡ Some desk_before
  station_at : slice_get ss place ≡ Some station_before
  told_at : slice_get ts place ≡ Some told
  device : told.0 ≡ desk_before.id
  called : CallsDesk desk_before e station_before (end_call over) back told.1 u

ended_at : (over : Bool) (ds : List DeviceDeskState) (ss : List Of) (ts : List (ℕ × List Item)) (es : List DeviceDeskState) (us : List Of) → EndsEach over ds ss ts es us → (place : ℕ) (e : DeviceDeskState) (u : Of) → slice_get es place ≡ Some e → slice_get us place ≡ Some u
    → EndedAt over ds ss ts place e u
ended_at over [] [] [] [] [] ended place e u at station_at = absurd (cc (at))
ended_at over (d ∷ ds) (s ∷ ss) (t ∷ ts) (f ∷ es) (v ∷ us) ended zero e u at station_at =
    let same : f ≡ e = cc (at) in
    let same_station : v ≡ u = cc (station_at) in
    record {
      desk_before = d;
      station_before = s;
      told = t;
      back = ended.0;
      desk_at = refl;
      station_at = refl;
      told_at = refl;
      device = ended.1;
      called = subst (λ (x : DeviceDeskState). CallsDesk d x s (end_call over) ended.0 t.1 u) same (subst (λ (y : Of). CallsDesk d f s (end_call over) ended.0 t.1 y) same_station ended.2);
    }
ended_at over (d ∷ ds) (s ∷ ss) (t ∷ ts) (f ∷ es) (v ∷ us) ended (suc place) e u at station_at =
    let later = ended_at over ds ss ts es us ended.3 place e u at station_at in
    record { desk_before = later.desk_before; station_before = later.station_before; told = later.told; back = later.back; desk_at = later.desk_at; station_at = later.station_at; told_at = later.told_at; device = later.device; called = later.called }
ended_at over ds ss ts es us ended place e u at station_at = absurd ended

-- each of what was told is of the desk at its place
pub told_of : (over : Bool) (ds : List DeviceDeskState) (ss : List Of) (ts : List (ℕ × List Item)) (es : List DeviceDeskState) (us : List Of) → EndsEach over ds ss ts es us → (place : ℕ) (t : ℕ × List Item) → slice_get ts place ≡ Some t
    → (d : DeviceDeskState) × (slice_get ds place ≡ Some d) × (t.0 ≡ d.id)
told_of over [] [] [] [] [] ended place t at = absurd (cc (at))
told_of over (d ∷ ds) (s ∷ ss) (u ∷ ts) (f ∷ es) (v ∷ us) ended zero t at = (d, refl, ap (λ (x : ℕ × List Item). x.0) (let same : u ≡ t = cc (at) in sym same) ∙ ended.1)
told_of over (d ∷ ds) (s ∷ ss) (u ∷ ts) (f ∷ es) (v ∷ us) ended (suc place) t at = told_of over ds ss ts es us ended.3 place t at
told_of over ds ss ts es us ended place t at = absurd ended

desk_of : (over : Bool) (ds : List DeviceDeskState) (ss : List Of) (ts : List (ℕ × List Item)) (es : List DeviceDeskState) (us : List Of) → EndsEach over ds ss ts es us → (place : ℕ) (e : DeviceDeskState) → slice_get es place ≡ Some e
    → (d : DeviceDeskState) × (slice_get ds place ≡ Some d) × (d.id ≡ e.id)
desk_of over [] [] [] [] [] ended place e at = absurd (cc (at))
desk_of over (d ∷ ds) (s ∷ ss) (u ∷ ts) (f ∷ es) (v ∷ us) ended zero e at = (d, refl, sym (ended.2).id ∙ ap (λ (x : DeviceDeskState). x.id) (let same : f ≡ e = cc (at) in same))
desk_of over (d ∷ ds) (s ∷ ss) (u ∷ ts) (f ∷ es) (v ∷ us) ended (suc place) e at = desk_of over ds ss ts es us ended.3 place e at
desk_of over ds ss ts es us ended place e at = absurd ended

-- nothing is held then
ended_none : (over : Bool) (back : DeskReply) (middle last : Of) → SessionDeskStep middle (end_call over) back last → held last ≡ []
ended_none true replied.Ended middle last step = ap held (step.0).2 ∙ end_none middle (step.0).0 (step.0).1
ended_none true (replied.Announced answer) middle last step = absurd step.1
ended_none true (replied.Put answer) middle last step = absurd step.1
ended_none true (replied.Unfit job) middle last step = absurd step.1
ended_none true (replied.Worked w) middle last step = absurd step.1
ended_none true (replied.Collected answer) middle last step = absurd step.1
ended_none true (replied.Removed answer) middle last step = absurd step.1
ended_none true replied.Dropped middle last step = absurd step.1
ended_none false replied.Dropped middle last step = ap held (step.0).2 ∙ drop_none middle (step.0).0 (step.0).1
ended_none false (replied.Announced answer) middle last step = absurd step.1
ended_none false (replied.Put answer) middle last step = absurd step.1
ended_none false (replied.Unfit job) middle last step = absurd step.1
ended_none false (replied.Worked w) middle last step = absurd step.1
ended_none false (replied.Collected answer) middle last step = absurd step.1
ended_none false (replied.Removed answer) middle last step = absurd step.1
ended_none false replied.Ended middle last step = absurd step.1

ended_front_is : (over : Bool) (s : FrontState) (desks : List DeviceDeskState) → let t = ended_front over s desks in (t.on ≡ false) × (t.channel ≡ s.channel) × (t.kept ≡ None)
ended_front_is true s desks = (refl, refl, refl)
ended_front_is false s desks = (refl, refl, refl)

ends_told : (p q : Served) (over : Bool) (told_each : List (ℕ × List Item)) (deeds : List Deed) → IsTold p deeds → PartGoes p (ends over told_each) q → IsTold q (stored_each told_each ++ deeds)
ends_told p q over told_each deeds told goes = record {
  apart = still_apart (p.front).desks (q.front).desks (λ i d at. desk_of over (p.front).desks p.stations told_each (q.front).desks q.stations goes.1 i d at) told.apart;
  tied = λ place d s at. tied_at place d s at (ended_at over (p.front).desks p.stations told_each (q.front).desks q.stations goes.1 place d s at.0 at.1);
  counted = λ on fine. absurd (let off = ap (λ (s : FrontState). s.on) goes.2 ∙ front_is.0 in cc (off, on));
  unread = λ c above. each_unread told_each c deeds ∙ told.unread c (subst (λ (n : ℕ). n < c) (ap (λ (s : FrontState). s.channel) goes.2 ∙ front_is.1) above);
  held = λ place d s at x has. absurd (let e = ended_at over (p.front).desks p.stations told_each (q.front).desks q.stations goes.1 place d s at.0 at.1 in
      subst (λ (xs : List (Key × ℕ)). Has x xs) (ended_none over e.back (e.called).middle s (e.called).step) has);
  asking = λ k under. absurd (subst (λ (a : Asking). IsUnder a k) goes.3 under);
  kept = λ k some. absurd (let none = ap (λ (s : FrontState). s.kept) goes.2 ∙ front_is.2 in cc (none, some));
}
  where
    front_is : let t = ended_front over p.front (q.front).desks in (t.on ≡ false) × (t.channel ≡ (p.front).channel) × (t.kept ≡ None)
    front_is = ended_front_is over p.front (q.front).desks

    once : AreOnce told_each
    once i j t u one two same =
        let (d, at, id) = told_of over (p.front).desks p.stations told_each (q.front).desks q.stations goes.1 i t one in
        let (e, at_too, other) = told_of over (p.front).desks p.stations told_each (q.front).desks q.stations goes.1 j u two in
        told.apart i j d e at at_too (sym id ∙ same ∙ other)

    tied_at : (place : ℕ) (d : DeviceDeskState) (s : Of) → At q place d s → EndedAt over (p.front).desks p.stations told_each place d s → journal d.id (stored_each told_each ++ deeds) ≡ reverse s.journal
    tied_at place d s at e =
        let id : d.id ≡ (e.told).0 = (e.called).id ∙ sym e.device in
        ap (λ (n : ℕ). journal n (stored_each told_each ++ deeds)) id ∙ each_here told_each place e.told deeds once e.told_at
        ∙ ap (λ (xs : List Item). reverse (e.told).1 ++ xs) (ap (λ (n : ℕ). journal n deeds) e.device ∙ told.tied place e.desk_before e.station_before (e.desk_at, e.station_at))
        ∙ sym (reverse-append (e.station_before).journal (e.told).1) ∙ ap reverse (sym (e.called).stored)

begins_told : (p q : Served) (channel : ℕ) (deeds : List Deed) → IsTold p deeds → PartGoes p (begins channel) q → IsTold q deeds
begins_told p q channel deeds told goes = subst (λ (s : Served). IsTold s deeds) (sym goes.3) (record {
  apart = told.apart;
  tied = told.tied;
  counted = λ on fine. ap (λ (ms : List (List ℕ)). length (filter is_request ms)) (told.unread channel goes.2);
  unread = λ c above. told.unread c (omega (arith, goes.2, above));
  held = told.held;
  asking = told.asking;
  kept = told.kept;
})

-- ---- each part

sent_silent : (p : Served) (deeds : List Deed) (channel : ℕ) (message : List ℕ) (answers : Option Key) → IsSilent p deeds (sent_by channel message answers)
sent_silent p deeds channel message None = record { journals = λ d. refl; reads = λ c. refl }
sent_silent p deeds channel message (Some key) = record { journals = λ d. refl; reads = λ c. refl }

pub part_told : (p q : Served) (x : FrontPart) (deeds : List Deed) → PartGoes p x q → IsKeyed p → IsTold p deeds → IsTold q (deeds_of x ++ deeds)
part_told p q (part.hears channel m answer) deeds goes keyed told = hears_told p q deeds channel m answer goes keyed told
part_told p q tries deeds goes keyed told = subst (λ (s : Served). IsTold s deeds) (sym goes.4) (told_silent p (record p { front = record p.front { kept = None }; asking = asks goes.0 }) deeds [] told (none_silent p deeds)
    (record { desks = refl; on = refl; channel = refl; asked = refl; fault = refl }) refl (λ k same. subst (IsJobAt deeds) same (told.kept goes.0 goes.1)) (λ k some. absurd (cc (some))))
part_told p q keeps deeds goes keyed told = subst (λ (s : Served). IsTold s deeds) (sym goes.3) (told_silent p (record p { front = record p.front { kept = Some goes.0 }; asking = idle }) deeds [] told (none_silent p deeds)
    (record { desks = refl; on = refl; channel = refl; asked = refl; fault = refl }) refl (λ k none. absurd none)
    (λ k some. told.asking k (subst (λ (a : Asking). IsUnder a k) (sym goes.2) (let same : goes.0 ≡ k = cc (some) in same))))
part_told p q forgets deeds goes keyed told = subst (λ (s : Served). IsTold s deeds) (sym goes.4) (told_idle p (record p { asking = idle }) deeds [] told (none_silent p deeds) (left_same p.front) refl refl refl)
part_told p q misplaces deeds goes keyed told = subst (λ (s : Served). IsTold s deeds) (sym goes.3) (told_idle p (record p { asking = idle }) deeds [] told (none_silent p deeds) (left_same p.front) refl refl refl)
part_told p q (directs st answer) deeds goes keyed told =
    let k : Kept = goes.0 in
    let left = client_left p.front q.front _ (goes.2).1 (did_left answer (client.direct (p.front).client k.job k.device st) (p.front).client (q.front).client ((goes.2).0).1 (refl, refl)) in
    told_idle p q deeds [] told (none_silent p deeds) left.0 goes.4 goes.3 left.1
part_told p q (calls place id does back items) deeds goes keyed told = calls_told p q place id does back items deeds keyed told goes
part_told p q (tells_gone device answer) deeds goes keyed told = by answer goes.0
  where
    left : (a : Result (Unit {0}) AllocError) → core.Did a (client.tell_removed (p.front).client device) (p.front).client (q.front).client → (unsent : ℕ) → q.front ≡ record p.front { client = (q.front).client; unsent = unsent } → IsLeft p.front q.front × ((q.front).kept ≡ (p.front).kept)
    left a did unsent is = client_left p.front q.front unsent is (did_left a (client.tell_removed (p.front).client device) (p.front).client (q.front).client did (refl, refl))

    by : (a : Result (Unit {0}) AllocError) → ClientDoes p.front (client.tells_removed device a) (one_if_done a) q.front → IsTold q (deeds_of (tells_gone device a) ++ deeds)
    by (Ok done) did = let l = left (Ok done) (did.0).1 _ did.1 in told_beside p q deeds (removes device ∷ []) told (record { journals = λ d. refl; reads = λ c. refl }) l.0 goes.2 goes.1 l.1
    by (Err error) did = let l = left (Err error) (did.0).1 _ did.1 in told_beside p q deeds [] told (none_silent p deeds) l.0 goes.2 goes.1 l.1
part_told p q (tells_there device answer) deeds goes keyed told = by answer goes.0
  where
    left : (a : Result (Unit {0}) AllocError) → core.Did a (client.tell_added (p.front).client device) (p.front).client (q.front).client → (unsent : ℕ) → q.front ≡ record p.front { client = (q.front).client; unsent = unsent } → IsLeft p.front q.front × ((q.front).kept ≡ (p.front).kept)
    left a did unsent is = client_left p.front q.front unsent is (did_left a (client.tell_added (p.front).client device) (p.front).client (q.front).client did (refl, refl))

    by : (a : Result (Unit {0}) AllocError) → ClientDoes p.front (client.tells_added device a) (one_if_done a) q.front → IsTold q (deeds_of (tells_there device a) ++ deeds)
    by (Ok done) did = let l = left (Ok done) (did.0).1 _ did.1 in told_beside p q deeds (adds device ∷ []) told (record { journals = λ d. refl; reads = λ c. refl }) l.0 goes.2 goes.1 l.1
    by (Err error) did = let l = left (Err error) (did.0).1 _ did.1 in told_beside p q deeds [] told (none_silent p deeds) l.0 goes.2 goes.1 l.1
part_told p q (sends channel sent) deeds goes keyed told = by sent goes.1
  where
    by : (s : Option Outgoing) → Sends p.front s q.front → IsTold q (deeds_of (sends channel s) ++ deeds)
    by None did = let l = client_left p.front q.front _ did.1 (sent_left (p.front).client (q.front).client None did.0) in told_beside p q deeds [] told (none_silent p deeds) l.0 goes.3 goes.2 l.1
    by (Some o) did =
        let l = client_left p.front q.front _ did.1 (sent_left (p.front).client (q.front).client (Some o) did.0) in
        told_beside p q deeds (sent_by channel o.message o.answers) told (sent_silent p deeds channel o.message o.answers) l.0 goes.3 goes.2 l.1
part_told p q (writes device c) deeds goes keyed told =
    subst (λ (s : Served). IsTold s (deeds_of (writes device c) ++ deeds)) (sym goes.1)
    (told_idle p (record p { asking = idle }) deeds (deeds_of (writes device c)) told (record { journals = λ d. refl; reads = λ c. refl }) (left_same p.front) refl refl refl)
part_told p q (unwritten device c) deeds goes keyed told = subst (λ (s : Served). IsTold s deeds) (sym goes.1) (told_idle p (record p { asking = idle }) deeds [] told (none_silent p deeds) (left_same p.front) refl refl refl)
part_told p q (learns n answer) deeds goes keyed told = subst (λ (s : Served). IsTold s deeds) (sym goes.1)
    (told_beside p (record p { front = record p.front { cache = (q.front).cache } }) deeds [] told (none_silent p deeds) (record { desks = refl; on = refl; channel = refl; asked = refl; fault = refl }) refl refl refl)
part_told p q (refreshes device) deeds goes keyed told =
    let left = refreshed_left p.front device in
    subst (λ (s : Served). IsTold s deeds) (sym goes) (told_beside p (record p { front = with_new_data p.front device }) deeds [] told (none_silent p deeds) left.0 refl refl left.1)
part_told p q (begins channel) deeds goes keyed told = begins_told p q channel deeds told goes
part_told p q (ends over told_each) deeds goes keyed told = ends_told p q over told_each deeds told goes

pub parts_told : (ps : List FrontPart) (p q : Served) (deeds : List Deed) → PartsGo p ps q → IsKeyed p → IsTold p deeds → IsTold q (deeds_after ps deeds)
parts_told [] p q deeds is keyed told = subst (λ (s : Served). IsTold s deeds) (sym is) told
parts_told (x ∷ ps) p q deeds goes keyed told = parts_told ps goes.0 q (deeds_of x ++ deeds) goes.2 (part_keyed p goes.0 x goes.1 keyed) (part_told p goes.0 x deeds goes.1 keyed told)

-- ---- a call that says that a completion id is in use

-- the part that says it
duplicate_at : (p q : Served) (x : FrontPart) (key : Key) (deeds : List Deed) → PartGoes p x q → IsKeyed p → IsTold p deeds → duplicate_of x ≡ Some key → (ps : List FrontPart) → IsDuplicate key deeds (x ∷ ps)
duplicate_at p q (calls place id does (replied.Put (Err refusal)) items) key deeds goes keyed told is ps =
    let (job, put, cause) = caused p q place id does refusal items key deeds keyed told goes (by refusal.why is) in
    record {
      first = [];
      last = ps;
      place = place;
      device = id;
      job = job;
      refusal = refusal;
      items = items;
      parts_are = ap (λ (d : DeskCall). calls place id d (replied.Put (Err refusal)) items ∷ ps) put;
      cause = cause;
    }
  where
    by : (w : PutWhy) → duplicate_by w ≡ Some key → w ≡ why.Duplicate key
    by (why.Duplicate other) e = let same : other ≡ key = cc (e) in ap why.Duplicate same
    by why.Gone e = absurd (cc (e))
    by (why.Full held) e = absurd (cc (e))
    by (why.Worn count) e = absurd (cc (e))
    by why.Memory e = absurd (cc (e))
duplicate_at p q (calls place id does (replied.Put (Ok done)) items) key deeds goes keyed told is ps = absurd (cc (is))
duplicate_at p q (calls place id does (replied.Unfit job) items) key deeds goes keyed told is ps = absurd (cc (is))
duplicate_at p q (calls place id does (replied.Announced answer) items) key deeds goes keyed told is ps = absurd (cc (is))
duplicate_at p q (calls place id does (replied.Worked w) items) key deeds goes keyed told is ps = absurd (cc (is))
duplicate_at p q (calls place id does (replied.Collected answer) items) key deeds goes keyed told is ps = absurd (cc (is))
duplicate_at p q (calls place id does (replied.Removed answer) items) key deeds goes keyed told is ps = absurd (cc (is))
duplicate_at p q (calls place id does replied.Dropped items) key deeds goes keyed told is ps = absurd (cc (is))
duplicate_at p q (calls place id does replied.Ended items) key deeds goes keyed told is ps = absurd (cc (is))
duplicate_at p q (part.hears channel m answer) key deeds goes keyed told is ps = absurd (cc (is))
duplicate_at p q tries key deeds goes keyed told is ps = absurd (cc (is))
duplicate_at p q keeps key deeds goes keyed told is ps = absurd (cc (is))
duplicate_at p q forgets key deeds goes keyed told is ps = absurd (cc (is))
duplicate_at p q misplaces key deeds goes keyed told is ps = absurd (cc (is))
duplicate_at p q (directs st answer) key deeds goes keyed told is ps = absurd (cc (is))
duplicate_at p q (tells_gone device answer) key deeds goes keyed told is ps = absurd (cc (is))
duplicate_at p q (tells_there device answer) key deeds goes keyed told is ps = absurd (cc (is))
duplicate_at p q (sends channel sent) key deeds goes keyed told is ps = absurd (cc (is))
duplicate_at p q (writes device c) key deeds goes keyed told is ps = absurd (cc (is))
duplicate_at p q (unwritten device c) key deeds goes keyed told is ps = absurd (cc (is))
duplicate_at p q (learns n answer) key deeds goes keyed told is ps = absurd (cc (is))
duplicate_at p q (refreshes device) key deeds goes keyed told is ps = absurd (cc (is))
duplicate_at p q (begins channel) key deeds goes keyed told is ps = absurd (cc (is))
duplicate_at p q (ends over each) key deeds goes keyed told is ps = absurd (cc (is))

duplicate_in : (ps : List FrontPart) (p q : Served) (key : Key) (deeds : List Deed) → PartsGo p ps q → IsKeyed p → IsTold p deeds → Among (λ x. duplicate_of x ≡ Some key) ps → IsDuplicate key deeds ps
duplicate_in [] p q key deeds goes keyed told none = absurd none
duplicate_in (x ∷ ps) p q key deeds goes keyed told (inl here) = duplicate_at p goes.0 x key deeds goes.1 keyed told here ps
duplicate_in (x ∷ ps) p q key deeds goes keyed told (inr later) =
    let found = duplicate_in ps goes.0 q key (deeds_of x ++ deeds) goes.2 (part_keyed p goes.0 x goes.1 keyed) (part_told p goes.0 x deeds goes.1 keyed told) later in
    record {
      first = x ∷ found.first;
      last = found.last;
      place = found.place;
      device = found.device;
      job = found.job;
      refusal = found.refusal;
      items = found.items;
      parts_are = ap (λ (xs : List FrontPart). x ∷ xs) found.parts_are;
      cause = found.cause;
    }

is_caused : (back : FrontReply) (ps : List FrontPart) (p q : Served) (deeds : List Deed) → PartsGo p ps q → IsKeyed p → IsTold p deeds → ((key : Key) → back ≡ reply.Duplicate key → Among (λ x. duplicate_of x ≡ Some key) ps) → IsCaused deeds back ps
is_caused (reply.Duplicate key) ps p q deeds goes keyed told says = duplicate_in ps p q key deeds goes keyed told (says key refl)
is_caused (reply.Done at full) ps p q deeds goes keyed told says = tt
is_caused (reply.Stands ready asked) ps p q deeds goes keyed told says = tt
is_caused reply.Kept ps p q deeds goes keyed told says = tt
is_caused (reply.Wrong cause) ps p q deeds goes keyed told says = tt
is_caused reply.Unfit ps p q deeds goes keyed told says = tt
is_caused reply.Memory ps p q deeds goes keyed told says = tt
is_caused reply.Full ps p q deeds goes keyed told says = tt
is_caused reply.Refused ps p q deeds goes keyed told says = tt
is_caused (reply.Messages filled left) ps p q deeds goes keyed told says = tt

pub history_caused : (entries : List (Entry FrontCall FrontReply)) (parts : List (List FrontPart)) (p q : Served) (deeds : List Deed) → HistoryGoes p entries parts q → IsKeyed p → IsTold p deeds → AreCaused deeds entries parts
history_caused [] [] p q deeds goes keyed told = tt
history_caused [] (ps ∷ parts) p q deeds goes keyed told = absurd goes
history_caused (e ∷ entries) [] p q deeds goes keyed told = absurd goes
history_caused (e ∷ entries) (ps ∷ parts) p q deeds goes keyed told = (
  is_caused e.reply ps p goes.0 deeds (goes.1).goes keyed told (goes.1).tells.duplicate,
  history_caused entries parts goes.0 q (deeds_after ps deeds) goes.2 (parts_keyed ps p goes.0 (goes.1).goes keyed) (parts_told ps p goes.0 deeds (goes.1).goes keyed told),
)

-- ---- the beginning

pub new_at : (ds : List DeviceDeskState) (ss : List Of) → AllByRecursion IsNewDesk ds → AreStationed ds ss → (place : ℕ) (d : DeviceDeskState) (s : Of) → slice_get ds place ≡ Some d → slice_get ss place ≡ Some s → (is : IsNewDesk d) × (s ≡ new_station is.device)
new_at [] [] is at place d s there has = absurd (cc (there))
new_at [] (t ∷ ss) is at place d s there has = absurd at
new_at (e ∷ ds) [] is at place d s there has = absurd at
new_at (e ∷ ds) (t ∷ ss) is at zero d s there has =
    let same : e ≡ d = cc (there) in
    let same_station : t ≡ s = cc (has) in
    let own : IsNewDesk d = subst IsNewDesk same is.0 in
    (own, new_one d s own (subst (λ (x : DeviceDeskState). IsStationed x s) same (subst (IsStationed e) same_station at.0)))
new_at (e ∷ ds) (t ∷ ss) is at (suc place) d s there has = new_at ds ss is.1 at.1 place d s there has

pub begins_told_well : (p : Served) → IsNewFront p.front → AreApart (p.front).desks → AreStationed (p.front).desks p.stations → p.asking ≡ idle → IsTold p []
begins_told_well p is apart at none = record {
  apart = apart;
  tied = λ place d s here. let (own, same) = new_at (p.front).desks p.stations is.desks at place d s here.0 here.1 in sym (ap (λ (x : Of). reverse x.journal) same);
  counted = λ on fine. absurd (let off = is.off in cc (on, off));
  unread = λ c above. refl;
  held = λ place d s here x has. let (own, same) = new_at (p.front).desks p.stations is.desks at place d s here.0 here.1 in absurd (subst (λ (y : Of). HeldIn y x) same has);
  asking = λ k under. absurd (subst (λ (a : Asking). IsUnder a k) none under);
  kept = λ k some. absurd (let nothing = is.kept in cc (some, nothing));
}

-- ---- whole histories

pub history_told : (entries : List (Entry FrontCall FrontReply)) (parts : List (List FrontPart)) (p q : Served) (deeds : List Deed) → HistoryGoes p entries parts q → IsKeyed p → IsTold p deeds → IsTold q (deeds_of_calls parts deeds)
history_told [] [] p q deeds goes keyed told = subst (λ (s : Served). IsTold s deeds) (sym goes) told
history_told [] (ps ∷ parts) p q deeds goes keyed told = absurd goes
history_told (e ∷ entries) [] p q deeds goes keyed told = absurd goes
history_told (e ∷ entries) (ps ∷ parts) p q deeds goes keyed told =
    history_told entries parts goes.0 q (deeds_after ps deeds) goes.2 (parts_keyed ps p goes.0 (goes.1).goes keyed) (parts_told ps p goes.0 deeds (goes.1).goes keyed told)
