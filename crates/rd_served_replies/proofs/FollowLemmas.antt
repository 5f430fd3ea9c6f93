-- What the front's pass of each desk has seen leads to its station, and what came there are jobs of requests that were read: so it is before and after each part.
use Rattle.std.proofs.Common.{◌≡◌, ◌≢◌, ◌⊎◌, ◌∙◌, refl, sym, ap, subst, inl, inr, ℕ, zero, suc, Bool, true, false, List, [], ◌∷◌, ◌++◌, Some, Ok, slice_get, slice_set, arith}
use Rattle.std.specs.List.{AllByRecursion}
use Rattle.std.proofs.lemmas.List.Elements.{All-append, All-cons, All-nil, All-weaker}
use Rattle.rd_base.specs.declared.journal.Item.{Item}
use Rattle.rd_desk.specs.Desk.{job_put, told_by, told_calls}
use Rattle.rd_desk.specs.declared.calls.DeskCall.{DeskCall}
use Rattle.rd_desk.specs.declared.calls.DeskCall.TheVariants as desk
use Rattle.rd_desk.specs.declared.calls.DeskReply.{DeskReply}
use Rattle.rd_desk.specs.declared.calls.DeskReply.TheVariants as replied
use Rattle.rd_drive.specs.declared.plan.Job.{Job}
use Rattle.rd_drive.proofs.AllLemmas.{all_append, all_weaker}
use Rattle.rd_front.specs.Front.{end_call}
use Rattle.rd_front.specs.State.{DeviceDeskState, FrontState, SessionDeskStep, SessionStation}
use Rattle.rd_front.specs.declared.calls.FrontCall.{FrontCall}
use Rattle.rd_front.specs.declared.calls.FrontReply.{FrontReply}
use Rattle.rd_irp.specs.declared.request.Request.{Request}
use Rattle.rd_refused.specs.JournalsJobs.{IsJobOf}
use Rattle.rd_refused.proofs.JournalsWorkLemmas.{Grown, grown_more}
use Rattle.rd_station.proofs.Members.{Has}
use Rattle.rd_turn.specs.declared.object.Entry.{Entry}
use Rattle.rd_turn.specs.History.{Leads, entry}
use Rattle.rd_turn.proofs.HistoryLemmas.{Leads-append}
use Rattle.rd_deeds.specs.Talk.{Deed}
use Rattle.rd_served.specs.Deeds.{deeds_after, deeds_of, deeds_of_calls, stored, stored_each}
use Rattle.rd_served.specs.Histories.{HistoryGoes}
use Rattle.rd_served.specs.Parts.{AsksBy, CallsAt, Comes, EndsEach, FrontPart, PartGoes, PartsGo, begins, calls, directs, ended_front, ends, forgets, hears, keeps, learns, misplaces, refreshes, sends, tells_gone, tells_there, tries, unwritten, writes}
use Rattle.rd_served.specs.Served.{AreHands, Asking, CallsDesk, IsHandCall, IsStationed, Served}
use Rattle.rd_served.proofs.CauseLemmas.{AnyRequest, At, IsTold, get_set, job_told}
use Rattle.rd_served.proofs.KeyLemmas.{IsKeyed}
use Rattle.rd_served.proofs.StandingLemmas.{IsKnownAt, part_known, parts_known, refreshed_more}
use Rattle.rd_served_replies.specs.Given.{HadNoFault, HadNoFaults}
use Rattle.rd_served_replies.specs.Premises.{GiveOwn, GivesOwn}
use Rattle.rd_served_replies.proofs.GivenLemmas.{PutOf, hands_put, own_before, put_weaker, told_append, told_puts}
use Rattle.rd_served_replies.proofs.KnownLemmas.{steps_fault}

abbrev Of : Type 0
Of = SessionStation

abbrev E : Type 0
E = Entry DeskCall DeskReply

-- ---- one desk

job_grown : (Fine : Request → Type 0) (deeds more : List Deed) → Grown deeds more → (device : ℕ) (job : Job) → IsJobOf Fine deeds device job → IsJobOf Fine more device job
job_grown Fine deeds more grown device job is = record { request = is.request; read = grown job.key.channel job.key.index is.request is.read; device = is.device; job_is = is.job_is; fine = is.fine }

-- jobs that came are of requests that were read, as more is read
pub puts_grown : (Fine : Request → Type 0) (deeds more : List Deed) → Grown deeds more → (device : ℕ) (entries : List E) → AllByRecursion (PutOf (IsJobOf Fine deeds device)) (told_calls entries) → AllByRecursion (PutOf (IsJobOf Fine more device)) (told_calls entries)
puts_grown Fine deeds more grown device entries put =
    all_weaker (PutOf (IsJobOf Fine deeds device)) (PutOf (IsJobOf Fine more device)) (put_weaker (IsJobOf Fine deeds device) (IsJobOf Fine more device) (job_grown Fine deeds more grown device)) (told_calls entries) put

module _ (d e : DeviceDeskState) (s t : Of) (does : DeskCall) (back : DeskReply) (items : List Item) (called : CallsDesk d e s does back items t) where
  abbrev own_entry : E
  own_entry = entry (d.pass).number does back

  -- the whole of what is seen before the call itself leads to the station that is called
  pub middle_leads : IsStationed d s → Leads SessionDeskStep (d.turn).opening ((d.pass).seen ++ (called.sees).others) called.middle
  middle_leads at = Leads-append SessionDeskStep (d.turn).opening (d.pass).seen s (called.sees).others called.middle at.leads (called.sees).leads

  pub stationed_on : IsStationed d s → IsStationed e t
  stationed_on at = record {
    leads = subst (λ (es : List E). Leads SessionDeskStep (e.turn).opening es t) (sym (called.sees).seen)
        (subst (λ (o : Of). Leads SessionDeskStep o (((d.pass).seen ++ (called.sees).others) ++ own_entry ∷ []) t) (sym (ap (λ x. x.opening) (called.sees).turn))
        (Leads-append SessionDeskStep (d.turn).opening ((d.pass).seen ++ (called.sees).others) called.middle (own_entry ∷ []) t (middle_leads at) (t, called.step, refl)));
    hands = subst (λ (es : List E). AreHands (e.pass).number es) (sym (called.sees).seen)
        (subst (λ (n : ℕ). AreHands n (((d.pass).seen ++ (called.sees).others) ++ own_entry ∷ [])) (sym (called.sees).number)
        (All-append (λ (x : E). x.by ≢ (d.pass).number → IsHandCall x.call) ((d.pass).seen ++ (called.sees).others) (own_entry ∷ [])
        (All-append (λ (x : E). x.by ≢ (d.pass).number → IsHandCall x.call) (d.pass).seen (called.sees).others at.hands
        (All-weaker (λ (x : E). IsHandCall x.call) (λ (x : E). x.by ≢ (d.pass).number → IsHandCall x.call) (λ x is other. is) (called.sees).others (called.sees).hands))
        (All-cons (λ (x : E). x.by ≢ (d.pass).number → IsHandCall x.call) own_entry [] (λ other. absurd (other refl)) (All-nil (λ (x : E). x.by ≢ (d.pass).number → IsHandCall x.call)))));
  }

  module _ (J : Job → Type 0) (put : AllByRecursion (PutOf J) (told_calls (d.pass).seen)) where
    pub middle_puts : AllByRecursion (PutOf J) (told_calls ((d.pass).seen ++ (called.sees).others))
    middle_puts = subst (AllByRecursion (PutOf J)) (sym (told_append (d.pass).seen (called.sees).others))
        (all_append (PutOf J) (told_calls (d.pass).seen) (told_calls (called.sees).others) put (hands_put J (called.sees).others (called.sees).hands))

    pub puts_on : ((done : Unit {0}) → back ≡ replied.Put (Ok done) → (job : Job) → Has job (job_put does) → J job) → AllByRecursion (PutOf J) (told_calls (e.pass).seen)
    puts_on own = subst (λ (es : List E). AllByRecursion (PutOf J) (told_calls es)) (sym (called.sees).seen)
        (subst (AllByRecursion (PutOf J)) (sym (told_append ((d.pass).seen ++ (called.sees).others) (own_entry ∷ [])))
        (all_append (PutOf J) (told_calls ((d.pass).seen ++ (called.sees).others)) (told_calls (own_entry ∷ [])) middle_puts
        (all_append (PutOf J) (told_by does back) [] (told_puts J does back own) tt)))

  -- what gives back its own did so before
  pub gave_middle : GivesOwn (e.pass).seen → GivesOwn ((d.pass).seen ++ (called.sees).others)
  gave_middle gives = own_before ((d.pass).seen ++ (called.sees).others) (own_entry ∷ []) (subst GivesOwn (called.sees).seen gives)

  pub gave : GivesOwn (e.pass).seen → GivesOwn (d.pass).seen
  gave gives = own_before (d.pass).seen (called.sees).others (gave_middle gives)

-- ---- lists

pub set_here : {A : Type 0} (xs : List A) (place : ℕ) (x y : A) → slice_get xs place ≡ Some x → slice_get (slice_set xs place y) place ≡ Some y
set_here [] place x y is = absurd (cc (is))
set_here (z ∷ xs) zero x y is = refl
set_here (z ∷ xs) (suc place) x y is = set_here xs place x y is

set_elsewhere : {A : Type 0} (xs : List A) (place k : ℕ) (y : A) → k ≢ place → slice_get (slice_set xs place y) k ≡ slice_get xs k
set_elsewhere [] place k y other = refl
set_elsewhere (z ∷ xs) zero zero y other = absurd (other refl)
set_elsewhere (z ∷ xs) zero (suc k) y other = refl
set_elsewhere (z ∷ xs) (suc place) zero y other = refl
set_elsewhere (z ∷ xs) (suc place) (suc k) y other = set_elsewhere xs place k y (λ same. other (ap suc same))

same_place : (a b : ℕ) → (a ≡ b) ⊎ (a ≢ b)
same_place zero zero = inl refl
same_place zero (suc b) = inr (λ e. omega (arith, e))
same_place (suc a) zero = inr (λ e. omega (arith, e))
same_place (suc a) (suc b) = elim (same_place a b) [ inl same ↦ inl (ap suc same) | inr other ↦ inr (λ e. other (omega (arith, e))) ]

-- ---- the ends of all desks

-- a desk and its station, before and after, as the channel ends or the session
pub record Ended (over : Bool) (d : DeviceDeskState) (s : Of) (t : ℕ × List Item) (e : DeviceDeskState) (u : Of) : Type 0 where
  pub back : DeskReply
  pub device : t.0 ≡ d.id
  pub called : CallsDesk d e s (end_call over) back t.1 u

-- by what is after
pub ended_back : (over : Bool) (ds : List DeviceDeskState) (ss : List Of) (ts : List (ℕ × List Item)) (es : List DeviceDeskState) (us : List Of) → EndsEach over ds ss ts es us → (place : ℕ) (e : DeviceDeskState) → slice_get es place ≡ Some e
    → (d : DeviceDeskState) × (s : Of) × (t : ℕ × List Item) × (u : Of) × (slice_get ds place ≡ Some d) × (slice_get ss place ≡ Some s) × (slice_get us place ≡ Some u) × Ended over d s t e u
ended_back over [] [] [] [] [] ended place e at = absurd (cc (at))
ended_back over (d ∷ ds) (s ∷ ss) (t ∷ ts) (f ∷ es) (u ∷ us) ended zero e at =
    let same : f ≡ e = cc (at) in
    (d, s, t, u, refl, refl, refl, record { back = ended.0; device = ended.1; called = subst (λ (x : DeviceDeskState). CallsDesk d x s (end_call over) ended.0 t.1 u) same ended.2 })
ended_back over (d ∷ ds) (s ∷ ss) (t ∷ ts) (f ∷ es) (u ∷ us) ended (suc place) e at = ended_back over ds ss ts es us ended.3 place e at
ended_back over ds ss ts es us ended place e at = absurd ended

-- by what is before
pub ended_on : (over : Bool) (ds : List DeviceDeskState) (ss : List Of) (ts : List (ℕ × List Item)) (es : List DeviceDeskState) (us : List Of) → EndsEach over ds ss ts es us → (place : ℕ) (d : DeviceDeskState) → slice_get ds place ≡ Some d
    → (s : Of) × (t : ℕ × List Item) × (e : DeviceDeskState) × (u : Of) × (slice_get es place ≡ Some e) × Ended over d s t e u
ended_on over [] [] [] [] [] ended place d at = absurd (cc (at))
ended_on over (x ∷ ds) (s ∷ ss) (t ∷ ts) (e ∷ es) (u ∷ us) ended zero d at =
    let same : x ≡ d = cc (at) in
    (s, t, e, u, refl, record { back = ended.0; device = ended.1 ∙ ap (λ (y : DeviceDeskState). y.id) same; called = subst (λ (y : DeviceDeskState). CallsDesk y e s (end_call over) ended.0 t.1 u) same ended.2 })
ended_on over (x ∷ ds) (s ∷ ss) (t ∷ ts) (e ∷ es) (u ∷ us) ended (suc place) d at = ended_on over ds ss ts es us ended.3 place d at
ended_on over ds ss ts es us ended place d at = absurd ended

pub ended_desks : (over : Bool) (s : FrontState) (desks : List DeviceDeskState) → (ended_front over s desks).desks ≡ desks
ended_desks true s desks = refl
ended_desks false s desks = refl

-- no job is put where a channel ends
end_puts : (over : Bool) (job : Job) → Has job (job_put (end_call over)) → ⊥
end_puts true job none = none
end_puts false job none = none

-- ---- all of them

pub record IsFollowed (Open : ℕ → Of → Type 0) (p : Served) (deeds : List Deed) : Type 0 where
  pub stationed : (place : ℕ) (d : DeviceDeskState) (s : Of) → At p place d s → IsStationed d s
  pub opened : (place : ℕ) (d : DeviceDeskState) → slice_get (p.front).desks place ≡ Some d → Open d.id (d.turn).opening
  pub puts : (place : ℕ) (d : DeviceDeskState) → slice_get (p.front).desks place ≡ Some d → AllByRecursion (PutOf (IsJobOf AnyRequest deeds d.id)) (told_calls (d.pass).seen)

-- the part leaves desks and stations as they are
abbrev IsStill : FrontPart → Type 0
IsStill (calls place id does back items) = ⊥
IsStill (ends over told) = ⊥
IsStill _ = Unit {0}

part_still : (p q : Served) (x : FrontPart) → IsStill x → PartGoes p x q → ((q.front).desks ≡ (p.front).desks) × (q.stations ≡ p.stations)
part_still p q (hears channel m answer) is goes = (ap (λ (s : FrontState). s.desks) (goes.3).1, goes.5)
part_still p q tries is goes = (ap (λ (s : Served). (s.front).desks) goes.4, ap (λ (s : Served). s.stations) goes.4)
part_still p q keeps is goes = (ap (λ (s : Served). (s.front).desks) goes.3, ap (λ (s : Served). s.stations) goes.3)
part_still p q forgets is goes = (ap (λ (s : Served). (s.front).desks) goes.4, ap (λ (s : Served). s.stations) goes.4)
part_still p q misplaces is goes = (ap (λ (s : Served). (s.front).desks) goes.3, ap (λ (s : Served). s.stations) goes.3)
part_still p q (directs st answer) is goes = (ap (λ (s : FrontState). s.desks) (goes.2).1, goes.4)
part_still p q (calls place id does back items) is goes = absurd is
part_still p q (tells_gone device answer) is goes = (ap (λ (s : FrontState). s.desks) (goes.0).1, goes.2)
part_still p q (tells_there device answer) is goes = (ap (λ (s : FrontState). s.desks) (goes.0).1, goes.2)
part_still p q (sends channel sent) is goes = (ap (λ (s : FrontState). s.desks) (goes.1).1, goes.3)
part_still p q (writes device c) is goes = (ap (λ (s : Served). (s.front).desks) goes.1, ap (λ (s : Served). s.stations) goes.1)
part_still p q (unwritten device c) is goes = (ap (λ (s : Served). (s.front).desks) goes.1, ap (λ (s : Served). s.stations) goes.1)
part_still p q (learns n answer) is goes = (ap (λ (s : Served). (s.front).desks) goes.1, ap (λ (s : Served). s.stations) goes.1)
part_still p q (refreshes device) is goes = (ap (λ (s : Served). (s.front).desks) goes ∙ (refreshed_more p.front device).0, ap (λ (s : Served). s.stations) goes)
part_still p q (begins channel) is goes = (ap (λ (s : Served). (s.front).desks) goes.3, ap (λ (s : Served). s.stations) goes.3)
part_still p q (ends over told) is goes = absurd is

-- ---- what gives back its own

pub after_at : (p q : Served) (place id : ℕ) (does : DeskCall) (back : DeskReply) (items : List Item) → (at : CallsAt p place id does back items q) → slice_get (q.front).desks place ≡ Some at.after
after_at p q place id does back items at = ap (λ (s : FrontState). slice_get s.desks place) at.front_is ∙ set_here (p.front).desks place at.before at.after at.there

called_gives : (p q : Served) (place id : ℕ) (does : DeskCall) (back : DeskReply) (items : List Item) → CallsAt p place id does back items q → GiveOwn (q.front).desks → GiveOwn (p.front).desks
called_gives p q place id does back items at gives k d there = by (same_place k place)
  where
    desks : (q.front).desks ≡ slice_set (p.front).desks place at.after
    desks = ap (λ (s : FrontState). s.desks) at.front_is

    by : ((k ≡ place) ⊎ (k ≢ place)) → GivesOwn (d.pass).seen
    by (inl same) =
        let both : Some d ≡ Some at.before = sym there ∙ ap (slice_get (p.front).desks) same ∙ at.there in
        let is : d ≡ at.before = cc (both) in
        subst (λ (x : DeviceDeskState). GivesOwn (x.pass).seen) (sym is)
        (gave at.before at.after at.first at.last does back items at.called
        (gives place at.after (after_at p q place id does back items at)))
    by (inr other) = gives k d (ap (λ (ds : List DeviceDeskState). slice_get ds k) desks ∙ set_elsewhere (p.front).desks place k at.after other ∙ there)

ended_gives : (p q : Served) (over : Bool) (told : List (ℕ × List Item)) → PartGoes p (ends over told) q → GiveOwn (q.front).desks → GiveOwn (p.front).desks
ended_gives p q over told goes gives place d there =
    let (s, t, e, u, at, one) = ended_on over (p.front).desks p.stations told (q.front).desks q.stations goes.1 place d there in
    gave d e s u (end_call over) one.back t.1 one.called (gives place e at)

pub part_gives : (p q : Served) (x : FrontPart) → PartGoes p x q → GiveOwn (q.front).desks → GiveOwn (p.front).desks
part_gives p q (calls place id does back items) goes gives = called_gives p q place id does back items goes gives
part_gives p q (ends over told) goes gives = ended_gives p q over told goes gives
part_gives p q x goes gives = subst GiveOwn (part_still p q x tt goes).0 gives

pub parts_give : (ps : List FrontPart) (p q : Served) → PartsGo p ps q → GiveOwn (q.front).desks → GiveOwn (p.front).desks
parts_give [] p q is gives = subst (λ (s : Served). GiveOwn (s.front).desks) is gives
parts_give (x ∷ ps) p q goes gives = part_gives p goes.0 x goes.1 (parts_give ps goes.0 q goes.2 gives)

pub history_gives : (entries : List (Entry FrontCall FrontReply)) (parts : List (List FrontPart)) (p q : Served) → HistoryGoes p entries parts q → GiveOwn (q.front).desks → GiveOwn (p.front).desks
history_gives [] [] p q is gives = subst (λ (s : Served). GiveOwn (s.front).desks) is gives
history_gives [] (ps ∷ parts) p q goes gives = absurd goes
history_gives (e ∷ entries) [] p q goes gives = absurd goes
history_gives (e ∷ entries) (ps ∷ parts) p q goes gives = parts_give ps p goes.0 (goes.1).goes (history_gives entries parts goes.0 q goes.2 gives)

-- ---- what had no fault

-- a desk goes on from what it was
called_fault : (d e : DeviceDeskState) (s t : Of) (does : DeskCall) (back : DeskReply) (items : List Item) → CallsDesk d e s does back items t → HadNoFault t.device → HadNoFault s.device
called_fault d e s t does back items called calm =
    steps_fault (called.works).calls s called.middle (called.works).steps (steps_fault (told_by does back) called.middle t (called.step).0 calm)

called_calm : (p q : Served) (place id : ℕ) (does : DeskCall) (back : DeskReply) (items : List Item) → CallsAt p place id does back items q → HadNoFaults q.stations → HadNoFaults p.stations
called_calm p q place id does back items at calm k s there = elim (same_place k place) [
  | inl same ↦
      let both : Some s ≡ Some at.first = sym there ∙ ap (slice_get p.stations) same ∙ at.has in
      let is : s ≡ at.first = cc (both) in
      subst (λ (x : Of). HadNoFault x.device) (sym is) (called_fault at.before at.after at.first at.last does back items at.called
      (calm place at.last (ap (λ (ss : List Of). slice_get ss place) at.stations_are ∙ set_here p.stations place at.first at.last at.has)))
  | inr other ↦ calm k s (ap (λ (ss : List Of). slice_get ss k) at.stations_are ∙ set_elsewhere p.stations place k at.last other ∙ there)
]

ended_calm : (over : Bool) (ds : List DeviceDeskState) (ss : List Of) (ts : List (ℕ × List Item)) (es : List DeviceDeskState) (us : List Of) → EndsEach over ds ss ts es us → HadNoFaults us → HadNoFaults ss
ended_calm over [] [] [] [] [] ended calm place x there = absurd (cc (there))
ended_calm over (d ∷ ds) (s ∷ ss) (t ∷ ts) (e ∷ es) (u ∷ us) ended calm zero x there =
    let same : s ≡ x = cc (there) in
    subst (λ (y : Of). HadNoFault y.device) same (called_fault d e s u (end_call over) ended.0 t.1 ended.2 (calm zero u refl))
ended_calm over (d ∷ ds) (s ∷ ss) (t ∷ ts) (e ∷ es) (u ∷ us) ended calm (suc place) x there = ended_calm over ds ss ts es us ended.3 (λ k y at. calm (suc k) y at) place x there
ended_calm over ds ss ts es us ended calm place x there = absurd ended

pub part_calm : (p q : Served) (x : FrontPart) → PartGoes p x q → HadNoFaults q.stations → HadNoFaults p.stations
part_calm p q (calls place id does back items) goes calm = called_calm p q place id does back items goes calm
part_calm p q (ends over told) goes calm = ended_calm over (p.front).desks p.stations told (q.front).desks q.stations goes.1 calm
part_calm p q x goes calm = subst HadNoFaults (part_still p q x tt goes).1 calm

pub parts_calm : (ps : List FrontPart) (p q : Served) → PartsGo p ps q → HadNoFaults q.stations → HadNoFaults p.stations
parts_calm [] p q is calm = subst (λ (s : Served). HadNoFaults s.stations) is calm
parts_calm (x ∷ ps) p q goes calm = part_calm p goes.0 x goes.1 (parts_calm ps goes.0 q goes.2 calm)

pub history_calm : (entries : List (Entry FrontCall FrontReply)) (parts : List (List FrontPart)) (p q : Served) → HistoryGoes p entries parts q → HadNoFaults q.stations → HadNoFaults p.stations
history_calm [] [] p q is calm = subst (λ (s : Served). HadNoFaults s.stations) is calm
history_calm [] (ps ∷ parts) p q goes calm = absurd goes
history_calm (e ∷ entries) [] p q goes calm = absurd goes
history_calm (e ∷ entries) (ps ∷ parts) p q goes calm = parts_calm ps p goes.0 (goes.1).goes (history_calm entries parts goes.0 q goes.2 calm)

-- ---- each part

module _ (Open : ℕ → Of → Type 0) where
  followed_same : (p q : Served) (deeds more : List Deed) → Grown deeds more → (q.front).desks ≡ (p.front).desks → q.stations ≡ p.stations → IsFollowed Open p deeds → IsFollowed Open q more
  followed_same p q deeds more grown desks stations is = record {
    stationed = λ place d s at. is.stationed place d s (back place d at.0, ap (λ (ss : List Of). slice_get ss place) (sym stations) ∙ at.1);
    opened = λ place d at. is.opened place d (back place d at);
    puts = λ place d at. puts_grown AnyRequest deeds more grown d.id (d.pass).seen (is.puts place d (back place d at));
  }
    where
      back : (place : ℕ) (d : DeviceDeskState) → slice_get (q.front).desks place ≡ Some d → slice_get (p.front).desks place ≡ Some d
      back place d at = ap (λ (ds : List DeviceDeskState). slice_get ds place) (sym desks) ∙ at

  -- a desk that goes on
  opened_on : (d e : DeviceDeskState) (s t : Of) (does : DeskCall) (back : DeskReply) (items : List Item) → CallsDesk d e s does back items t → Open d.id (d.turn).opening → Open e.id (e.turn).opening
  opened_on d e s t does back items called own = subst (λ (n : ℕ). Open n (e.turn).opening) (sym called.id) (subst (λ (o : Of). Open d.id o) (sym (ap (λ x. x.opening) (called.sees).turn)) own)

  -- the job that is put comes as it is under way
  comes_so : (p : Served) (place id : ℕ) (does : DeskCall) (back : DeskReply) (then : Asking) → AsksBy p place id does back then → (done : Unit {0}) → back ≡ replied.Put (Ok done) → (job : Job) → Has job (job_put does) → Comes p place job
  comes_so p place id (desk.Put j) back then asks done is job (inl same) =
      let asked : AsksBy p place id (desk.Put j) (replied.Put (Ok done)) then = subst (λ (r : DeskReply). AsksBy p place id (desk.Put j) r then) is asks in subst (Comes p place) (sym same) asked.0
  comes_so p place id (desk.Put j) back then asks done is job (inr none) = absurd none
  comes_so p place id desk.Announce back then asks done is job none = absurd none
  comes_so p place id (desk.Work runs) back then asks done is job none = absurd none
  comes_so p place id desk.Collect back then asks done is job none = absurd none
  comes_so p place id desk.Remove back then asks done is job none = absurd none
  comes_so p place id desk.DropChannel back then asks done is job none = absurd none
  comes_so p place id desk.End back then asks done is job none = absurd none

  calls_followed : (p q : Served) (place id : ℕ) (does : DeskCall) (back : DeskReply) (items : List Item) (deeds : List Deed) → CallsAt p place id does back items q → IsKeyed p → IsTold p deeds → IsFollowed Open p deeds → IsFollowed Open q (stored id items ++ deeds)
  calls_followed p q place id does back items deeds at keyed told is = record {
    stationed = λ k d s here. elim (get_set (p.front).desks place k at.after d (ap (λ (ds : List DeviceDeskState). slice_get ds k) (sym desks) ∙ here.0)) [
      | inl (this, same) ↦ elim (get_set p.stations place k at.last s (ap (λ (ss : List Of). slice_get ss k) (sym at.stations_are) ∙ here.1)) [
        | inl (again, same_station) ↦ subst (λ (x : DeviceDeskState). IsStationed x s) (sym same) (subst (IsStationed at.after) (sym same_station)
            (stationed_on at.before at.after at.first at.last does back items at.called (is.stationed place at.before at.first (at.there, at.has))))
        | inr (other, was) ↦ absurd (other this)
      ]
      | inr (other, was) ↦ elim (get_set p.stations place k at.last s (ap (λ (ss : List Of). slice_get ss k) (sym at.stations_are) ∙ here.1)) [
        | inl (again, same_station) ↦ absurd (other again)
        | inr (apart, station) ↦ is.stationed k d s (was, station)
      ]
    ];
    opened = λ k d here. elim (get_set (p.front).desks place k at.after d (ap (λ (ds : List DeviceDeskState). slice_get ds k) (sym desks) ∙ here)) [
      | inl (this, same) ↦ subst (λ (x : DeviceDeskState). Open x.id (x.turn).opening) (sym same) (opened_on at.before at.after at.first at.last does back items at.called (is.opened place at.before at.there))
      | inr (other, was) ↦ is.opened k d was
    ];
    puts = λ k d here. elim (get_set (p.front).desks place k at.after d (ap (λ (ds : List DeviceDeskState). slice_get ds k) (sym desks) ∙ here)) [
      | inl (this, same) ↦ subst (λ (x : DeviceDeskState). AllByRecursion (PutOf (IsJobOf AnyRequest (stored id items ++ deeds) x.id)) (told_calls (x.pass).seen)) (sym same) mine
      | inr (other, was) ↦ puts_grown AnyRequest deeds (stored id items ++ deeds) grown d.id (d.pass).seen (is.puts k d was)
    ];
  }
    where
      desks : (q.front).desks ≡ slice_set (p.front).desks place at.after
      desks = ap (λ (s : FrontState). s.desks) at.front_is

      grown : Grown deeds (stored id items ++ deeds)
      grown = grown_more (stored id items) deeds

      before : AllByRecursion (PutOf (IsJobOf AnyRequest deeds id)) (told_calls ((at.before).pass).seen)
      before = subst (λ (n : ℕ). AllByRecursion (PutOf (IsJobOf AnyRequest deeds n)) (told_calls ((at.before).pass).seen)) at.id_is (is.puts place at.before at.there)

      after : AllByRecursion (PutOf (IsJobOf AnyRequest deeds id)) (told_calls ((at.after).pass).seen)
      after = puts_on at.before at.after at.first at.last does back items at.called (IsJobOf AnyRequest deeds id) before
          (λ done same job has. job_told p q place id does back items deeds keyed told at job (comes_so p place id does back q.asking at.asking_is done same job has))

      mine : AllByRecursion (PutOf (IsJobOf AnyRequest (stored id items ++ deeds) (at.after).id)) (told_calls ((at.after).pass).seen)
      mine = subst (λ (n : ℕ). AllByRecursion (PutOf (IsJobOf AnyRequest (stored id items ++ deeds) n)) (told_calls ((at.after).pass).seen)) (sym ((at.called).id ∙ at.id_is))
          (puts_grown AnyRequest deeds (stored id items ++ deeds) grown id ((at.after).pass).seen after)

  ends_followed : (p q : Served) (over : Bool) (told_each : List (ℕ × List Item)) (deeds : List Deed) → PartGoes p (ends over told_each) q → IsFollowed Open p deeds → IsFollowed Open q (stored_each told_each ++ deeds)
  ends_followed p q over told_each deeds goes is = record {
    stationed = λ place e u here.
        let (d, s, t, v, at, has, last, one) = ended_back over (p.front).desks p.stations told_each (q.front).desks q.stations goes.1 place e here.0 in
        let both : Some v ≡ Some u = sym last ∙ here.1 in
        let same : v ≡ u = cc (both) in
        subst (IsStationed e) same (stationed_on d e s v (end_call over) one.back t.1 one.called (is.stationed place d s (at, has)));
    opened = λ place e here.
        let (d, s, t, v, at, has, last, one) = ended_back over (p.front).desks p.stations told_each (q.front).desks q.stations goes.1 place e here in
        opened_on d e s v (end_call over) one.back t.1 one.called (is.opened place d at);
    puts = λ place e here.
        let (d, s, t, v, at, has, last, one) = ended_back over (p.front).desks p.stations told_each (q.front).desks q.stations goes.1 place e here in
        subst (λ (n : ℕ). AllByRecursion (PutOf (IsJobOf AnyRequest (stored_each told_each ++ deeds) n)) (told_calls (e.pass).seen)) (sym (one.called).id)
        (puts_grown AnyRequest deeds (stored_each told_each ++ deeds) (grown_more (stored_each told_each) deeds) d.id (e.pass).seen
        (puts_on d e s v (end_call over) one.back t.1 one.called (IsJobOf AnyRequest deeds d.id) (is.puts place d at) (λ done same job none. absurd (end_puts over job none))));
  }

  pub part_followed : (p q : Served) (x : FrontPart) (deeds : List Deed) → PartGoes p x q → IsKeyed p → IsTold p deeds → IsFollowed Open p deeds → IsFollowed Open q (deeds_of x ++ deeds)
  part_followed p q (calls place id does back items) deeds goes keyed told is = calls_followed p q place id does back items deeds goes keyed told is
  part_followed p q (ends over told_each) deeds goes keyed told is = ends_followed p q over told_each deeds goes is
  part_followed p q x deeds goes keyed told is =
      let still = part_still p q x tt goes in followed_same p q deeds (deeds_of x ++ deeds) (grown_more (deeds_of x) deeds) still.0 still.1 is

  pub parts_followed : (ps : List FrontPart) (p q : Served) (deeds : List Deed) → PartsGo p ps q → IsKnownAt p deeds → IsFollowed Open p deeds → IsFollowed Open q (deeds_after ps deeds)
  parts_followed [] p q deeds same known is = subst (λ (s : Served). IsFollowed Open s deeds) (sym same) is
  parts_followed (x ∷ ps) p q deeds goes known is =
      parts_followed ps goes.0 q (deeds_of x ++ deeds) goes.2 (part_known p goes.0 x deeds goes.1 known) (part_followed p goes.0 x deeds goes.1 known.keyed known.told is)

  pub history_followed : (entries : List (Entry FrontCall FrontReply)) (parts : List (List FrontPart)) (p q : Served) (deeds : List Deed) → HistoryGoes p entries parts q → IsKnownAt p deeds → IsFollowed Open p deeds → IsFollowed Open q (deeds_of_calls parts deeds)
  history_followed [] [] p q deeds same known is = subst (λ (s : Served). IsFollowed Open s deeds) (sym same) is
  history_followed [] (ps ∷ parts) p q deeds goes known is = absurd goes
  history_followed (e ∷ entries) [] p q deeds goes known is = absurd goes
  history_followed (e ∷ entries) (ps ∷ parts) p q deeds goes known is =
      history_followed entries parts goes.0 q (deeds_after ps deeds) goes.2 (parts_known ps p goes.0 deeds (goes.1).goes known) (parts_followed ps p goes.0 deeds (goes.1).goes known is)
