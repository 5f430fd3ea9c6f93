-- Once the session is over at a station, hands change nothing there: its journal stays as it is.
use Rattle.std.proofs.Common.{◌≡◌, ◌∙◌, refl, sym, ap, subst, inl, inr, ℕ, Bool, true, false, List, [], ◌∷◌, ◌++◌, map, Option, Some, None}
use Rattle.std.specs.Prelude.{Result, Ok, Err, find, if◌then◌else◌, nat_le}
use Rattle.std.specs.List.{AllByRecursion}
use Rattle.std.specs.Map.{lookup}
use Rattle.std.specs.Option.{option_map_or}
use Rattle.std.specs.Ordering.{nat_cmp}
use Rattle.std.specs.BTreeMap.{is_at}
use Rattle.rd_base.specs.declared.journal.Item.{Item}
use Rattle.rd_client.specs.Core as client
use Rattle.rd_desk.specs.Desk.{told_by}
use Rattle.rd_desk.specs.declared.calls.DeskCall.{DeskCall}
use Rattle.rd_desk.specs.declared.calls.DeskCall.TheVariants as desk
use Rattle.rd_desk.specs.declared.calls.DeskReply.{DeskReply}
use Rattle.rd_desk.specs.declared.calls.DeskReply.TheVariants as replied
use Rattle.rd_drive.specs.Planned.{Planned}
use Rattle.rd_drive.specs.declared.plan.Job.{Job}
use Rattle.rd_front.specs.Calls.{FrontEntry}
use Rattle.rd_front.specs.Front.{FrontStep, end_call, with_new_data}
use Rattle.rd_front.specs.State.{DeviceDeskState, FrontState, SessionDeskStep, SessionStation}
use Rattle.rd_front.specs.declared.calls.FrontCall.{FrontCall}
use Rattle.rd_front.specs.declared.calls.FrontCall.TheVariants as call
use Rattle.rd_station.specs.Station.{StationCall, StationStep, StationSteps, PutRefused, announce, announces, applies, apply_from, collect_first, collects, drop_channel, drops, ends, entry_count, is_key, marked_removed, max_entries, put, put_refusal, put_unless, puts, puts_unfit, remove, removes, take_first, takes}
use Rattle.rd_station.specs.declared.answers.Applied.{Applied}
use Rattle.rd_station.specs.declared.answers.Completion.{Completion}
use Rattle.rd_station.specs.declared.answers.Given.{Given}
use Rattle.rd_station.specs.declared.answers.Given.TheVariants as given
use Rattle.rd_station.specs.declared.held.InHand.{InHand}
use Rattle.rd_station.specs.declared.refusals.AnnounceNo.{AnnounceNo}
use Rattle.rd_station.specs.declared.refusals.AnnounceNo.TheVariants as no
use Rattle.rd_station.specs.declared.refusals.PutWhy.{PutWhy}
use Rattle.rd_station.specs.declared.refusals.PutWhy.TheVariants as why
use Rattle.rd_declared.specs.Devices.{PrinterNames, printer_data}
use Rattle.rd_deeds.specs.Talk.{Has}
use Rattle.rd_workers.specs.Logs.{asks_any, reader_calls}
use Rattle.rd_served_causes.proofs.ServedKeyLemmas.{has_at, has_set}
use Rattle.rd_served_causes.specs.ServedHistories.{HistoryGoes}
use Rattle.rd_served_causes.specs.ServedParts.{EndsEach, FrontPart, PartGoes, PartsGo, begins, calls, directs, ended_front, forgets, keeps, learns, misplaces, refreshes, sends, tells_gone, tells_there, tries, unwritten, writes}
use Rattle.rd_served_causes.specs.ServedParts as part
use Rattle.rd_served_causes.specs.ServedServed.{CallsDesk, IsWork, Served, Works}
use Rattle.rd_served_sessions.proofs.StillLemmas.{ends_over}
use Rattle.rd_served_sessions.specs.Steps.{AreSteps}
use Rattle.rd_served_causes.specs.ServedDevices.{ServedDeviceState, served_cuts, served_parked, served_runs}

abbrev Of : Type 0
Of = SessionStation

abbrev Step : Of → StationCall → Of → Type 0
Step old does new = StationStep served_runs served_parked served_cuts old does new

abbrev Steps : Of → List StationCall → Of → Type 0
Steps old list new = StationSteps served_runs served_parked served_cuts old list new

-- the session is over at a station, and no job is in a hand
abbrev pub IsDone : Of → Type 0
IsDone s = (s.ended ≡ true) × (s.taken ≡ [])

-- ---- a station's calls

announced_done : (s : Of) → IsDone s → IsDone (announce s).0
announced_done s is = by s.live (nat_le max_entries (entry_count s))
  where
    by : (a b : Bool) → let r : Of × Result (Unit {0}) AnnounceNo = if a then (s, Err no.Live) else (if b then (s, Err (no.Worn (entry_count s))) else (record s { live = true }, Ok tt)) in IsDone r.0
    by true b = is
    by false true = is
    by false false = is

put_done : (s : Of) (job : Job) → IsDone s → IsDone (put s job).0
put_done s job is = by (put_refusal s job)
  where
    by : (o : Option PutWhy) → IsDone (put_unless s job o).0
    by None = is
    by (Some cause) = is

refused_done : (old new : Of) (job : Job) (cause : PutWhy) → PutRefused old job cause new → IsDone old → IsDone new
refused_done old new job why.Memory step is = subst IsDone (sym step.1) is
refused_done old new job why.Gone step is = subst (λ (r : Of × Option PutWhy). IsDone r.0) step (put_done old job is)
refused_done old new job (why.Duplicate key) step is = subst (λ (r : Of × Option PutWhy). IsDone r.0) step (put_done old job is)
refused_done old new job (why.Full count) step is = subst (λ (r : Of × Option PutWhy). IsDone r.0) step (put_done old job is)
refused_done old new job (why.Worn count) step is = subst (λ (r : Of × Option PutWhy). IsDone r.0) step (put_done old job is)

-- nothing is given any more
takes_same : (old new : Of) (answer : Given) → Step old (takes answer) new → IsDone old → new ≡ old
takes_same old new answer step is = sym (ap (λ (r : Of × Given). r.0) step) ∙ ap (λ (b : Bool). let r : Of × Given = if b then (old, given.Over) else take_first old old.waiting in r.0) is.0

-- nor is any job that is given back in a hand
applies_same : (old new : Of) (planned : Planned) (moment : ℕ) (answer : Applied) → Step old (applies planned moment answer) new → IsDone old → new ≡ old
applies_same old new planned moment answer step is =
    sym (ap (λ (r : Of × Applied). r.0) step.1) ∙ ap (λ (ts : List InHand). (apply_from old planned.job moment step.0 (find (λ (t : InHand). is_key t.key planned.job.key) ts)).0) is.1

collected_done : (s : Of) (cs : List Completion) → IsDone s → IsDone (collect_first s cs).0
collected_done s [] is = is
collected_done s (c ∷ cs) is = is

removed_done : (s : Of) (cut : ServedDeviceState) → IsDone s → IsDone (remove s cut).0
removed_done s cut is = by s.live
  where
    by : (b : Bool) → IsDone (remove (record s { live = b }) cut).0
    by true = (is.0, ap (map marked_removed) is.1)
    by false = is

dropped_done : (s : Of) (cut : ServedDeviceState) → (b : Bool) → ((drop_channel (record s { live = b }) cut).ended ≡ s.ended) × ((drop_channel (record s { live = b }) cut).taken ≡ [])
dropped_done s cut true = (refl, refl)
dropped_done s cut false = (refl, refl)

-- at its end
end_done : (old new : Of) → Step old ends new → IsDone new
end_done old new step = subst IsDone step.1 (refl, (dropped_done old step.0 old.live).1)

step_done : (old new : Of) (does : StationCall) → Step old does new → IsDone old → IsDone new
step_done old new (announces (Err no.Memory)) step is = subst IsDone (sym step.1) is
step_done old new (announces (Err no.Live)) step is = subst (λ (r : Of × Result (Unit {0}) AnnounceNo). IsDone r.0) step (announced_done old is)
step_done old new (announces (Err (no.Worn count))) step is = subst (λ (r : Of × Result (Unit {0}) AnnounceNo). IsDone r.0) step (announced_done old is)
step_done old new (announces (Ok done)) step is = subst (λ (r : Of × Result (Unit {0}) AnnounceNo). IsDone r.0) step (announced_done old is)
step_done old new (puts job None) step is = subst (λ (r : Of × Option PutWhy). IsDone r.0) step.1 (put_done old job is)
step_done old new (puts job (Some refusal)) step is = refused_done old new job refusal.why step.1 is
step_done old new (puts_unfit job back) step is = subst IsDone (sym step.1) is
step_done old new (takes answer) step is = subst IsDone (sym (takes_same old new answer step is)) is
step_done old new (applies planned moment answer) step is = subst IsDone (sym (applies_same old new planned moment answer step is)) is
step_done old new (collects answer) step is = subst (λ (r : Of × Option Completion). IsDone r.0) step (collected_done old old.ready is)
step_done old new (removes answer) step is = subst (λ (r : Of × Bool). IsDone r.0) step.1 (removed_done old step.0 is)
step_done old new drops step is = subst IsDone step.1 (let now = dropped_done old step.0 old.live in (now.0 ∙ is.0, now.1))
step_done old new ends step is = end_done old new step

steps_done : (list : List StationCall) (old new : Of) → Steps old list new → IsDone old → IsDone new
steps_done [] old new steps is = subst IsDone (sym steps) is
steps_done (c ∷ list) old new steps is = steps_done list steps.0 new steps.2 (step_done old steps.0 c steps.1 is)

work_same : (old new : Of) (c : StationCall) → IsWork c → Step old c new → IsDone old → new ≡ old
work_same old new (takes answer) work step is = takes_same old new answer step is
work_same old new (applies planned moment answer) work step is = applies_same old new planned moment answer step is
work_same old new (announces answer) work step is = absurd work
work_same old new (puts job refusal) work step is = absurd work
work_same old new (puts_unfit job back) work step is = absurd work
work_same old new (collects answer) work step is = absurd work
work_same old new (removes answer) work step is = absurd work
work_same old new drops work step is = absurd work
work_same old new ends work step is = absurd work

all_same : (list : List StationCall) (old new : Of) → AllByRecursion IsWork list → Steps old list new → IsDone old → new ≡ old
all_same [] old new work steps is = steps
all_same (c ∷ list) old new work steps is =
    let one = work_same old steps.0 c work.0 steps.1 is in all_same list steps.0 new work.1 steps.2 (subst IsDone (sym one) is) ∙ one

-- What hands do there changes nothing.
pub works_same : (old new : Of) → Works old new → IsDone old → new ≡ old
works_same old new works is = all_same works.calls old new works.work works.steps is

-- ---- a desk's calls

called_done : (d e : DeviceDeskState) (first : Of) (does : DeskCall) (back : DeskReply) (items : List Item) (last : Of) → CallsDesk d e first does back items last → IsDone first → IsDone last
called_done d e first does back items last called is =
    steps_done (told_by does back) called.middle last (called.step).0 (subst IsDone (sym (works_same first called.middle called.works is)) is)

ended_done : (d e : DeviceDeskState) (first : Of) (back : DeskReply) (items : List Item) (last : Of) → CallsDesk d e first desk.End back items last → IsDone last
ended_done d e first back items last called = by back called.step
  where
    by : (r : DeskReply) → SessionDeskStep called.middle desk.End r last → IsDone last
    by replied.Ended step = subst IsDone (sym (step.0).2) (end_done called.middle (step.0).0 (step.0).1)
    by (replied.Announced answer) step = absurd step.1
    by (replied.Put answer) step = absurd step.1
    by (replied.Unfit job) step = absurd step.1
    by (replied.Worked w) step = absurd step.1
    by (replied.Collected answer) step = absurd step.1
    by (replied.Removed answer) step = absurd step.1
    by replied.Dropped step = absurd step.1

abbrev AreDone : List Of → Type 0
AreDone ss = (x : Of) → Has x ss → IsDone x

all_ended : (ds : List DeviceDeskState) (ss : List Of) (ts : List (ℕ × List Item)) (es : List DeviceDeskState) (us : List Of) → EndsEach true ds ss ts es us → AreDone us
all_ended [] [] [] [] [] ended x has = absurd has
all_ended (d ∷ ds) (s ∷ ss) (t ∷ ts) (e ∷ es) (u ∷ us) ended x (inl here) = subst IsDone (sym here) (ended_done d e s ended.0 t.1 u ended.2)
all_ended (d ∷ ds) (s ∷ ss) (t ∷ ts) (e ∷ es) (u ∷ us) ended x (inr there) = all_ended ds ss ts es us ended.3 x there
all_ended ds ss ts es us ended x has = absurd ended

all_kept : (over : Bool) (ds : List DeviceDeskState) (ss : List Of) (ts : List (ℕ × List Item)) (es : List DeviceDeskState) (us : List Of) → EndsEach over ds ss ts es us → AreDone ss → AreDone us
all_kept over [] [] [] [] [] ended are x has = absurd has
all_kept over (d ∷ ds) (s ∷ ss) (t ∷ ts) (e ∷ es) (u ∷ us) ended are x (inl here) = subst IsDone (sym here) (called_done d e s (end_call over) ended.0 t.1 u ended.2 (are s (inl refl)))
all_kept over (d ∷ ds) (s ∷ ss) (t ∷ ts) (e ∷ es) (u ∷ us) ended are x (inr there) = all_kept over ds ss ts es us ended.3 (λ y has. are y (inr has)) x there
all_kept over ds ss ts es us ended are x has = absurd ended

-- ---- a history

-- where the session is over, it is at each station
abbrev IsOver : Served → Type 0
IsOver p = (p.front).over ≡ true → AreDone p.stations

refreshed_over : (s : FrontState) (device : ℕ) → (with_new_data s device).over ≡ s.over
refreshed_over s device = by (lookup (is_at (nat_cmp device)) s.printers)
  where
    by : (o : Option PrinterNames) → (option_map_or (λ (names : PrinterNames). record s { client = client.refresh s.client device (printer_data s.cache names) }) o s).over ≡ s.over
    by None = refl
    by (Some names) = refl

over_as : (p q : Served) → (q.front).over ≡ (p.front).over → q.stations ≡ p.stations → IsOver p → IsOver q
over_as p q over stations is ended x has = is (sym over ∙ ended) x (subst (Has x) stations has)

ends_over_by : (over : Bool) (p q : Served) (told : List (ℕ × List Item)) → PartGoes p (part.ends over told) q → IsOver p → IsOver q
ends_over_by true p q told goes is ended = all_ended (p.front).desks p.stations told (q.front).desks q.stations goes.1
ends_over_by false p q told goes is ended = all_kept false (p.front).desks p.stations told (q.front).desks q.stations goes.1 (is (sym (ap (λ (s : FrontState). s.over) goes.2) ∙ ended))

part_over : (p q : Served) (x : FrontPart) → PartGoes p x q → IsOver p → IsOver q
part_over p q (part.hears channel message answer) goes is = over_as p q (ap (λ (s : FrontState). s.over) (goes.3).1) goes.5 is
part_over p q tries goes is = over_as p q (ap (λ (s : Served). (s.front).over) goes.4) (ap (λ (s : Served). s.stations) goes.4) is
part_over p q keeps goes is = over_as p q (ap (λ (s : Served). (s.front).over) goes.3) (ap (λ (s : Served). s.stations) goes.3) is
part_over p q forgets goes is = over_as p q (ap (λ (s : Served). (s.front).over) goes.4) (ap (λ (s : Served). s.stations) goes.4) is
part_over p q misplaces goes is = over_as p q (ap (λ (s : Served). (s.front).over) goes.3) (ap (λ (s : Served). s.stations) goes.3) is
part_over p q (directs st answer) goes is = over_as p q (ap (λ (s : FrontState). s.over) (goes.2).1) goes.4 is
part_over p q (calls place id does back items) goes is = λ ended x has.
    let over : (p.front).over ≡ true = sym (ap (λ (s : FrontState). s.over) goes.front_is) ∙ ended in
    elim (has_set p.stations place goes.last x (subst (Has x) goes.stations_are has)) [
      | inl new ↦ subst IsDone (sym new) (called_done goes.before goes.after goes.first does back items goes.last goes.called (is over goes.first (has_at p.stations place goes.first goes.has)))
      | inr was ↦ is over x was
    ]
part_over p q (tells_gone device answer) goes is = over_as p q (ap (λ (s : FrontState). s.over) (goes.0).1) goes.2 is
part_over p q (tells_there device answer) goes is = over_as p q (ap (λ (s : FrontState). s.over) (goes.0).1) goes.2 is
part_over p q (sends channel o) goes is = over_as p q (ap (λ (s : FrontState). s.over) (goes.1).1) goes.3 is
part_over p q (writes device done) goes is = over_as p q (ap (λ (s : Served). (s.front).over) goes.1) (ap (λ (s : Served). s.stations) goes.1) is
part_over p q (unwritten device done) goes is = over_as p q (ap (λ (s : Served). (s.front).over) goes.1) (ap (λ (s : Served). s.stations) goes.1) is
part_over p q (learns n answer) goes is = over_as p q (ap (λ (s : Served). (s.front).over) goes.1) (ap (λ (s : Served). s.stations) goes.1) is
part_over p q (refreshes device) goes is = over_as p q (ap (λ (s : Served). (s.front).over) goes ∙ refreshed_over p.front device) (ap (λ (s : Served). s.stations) goes) is
part_over p q (begins channel) goes is = over_as p q (ap (λ (s : Served). (s.front).over) goes.3) (ap (λ (s : Served). s.stations) goes.3) is
part_over p q (part.ends over told) goes is = ends_over_by over p q told goes is

ended_over : (over : Bool) (s : FrontState) (desks : List DeviceDeskState) → s.over ≡ true → (ended_front over s desks).over ≡ true
ended_over true s desks is = refl
ended_over false s desks is = is

-- it stays over
stays_over : (p q : Served) (x : FrontPart) → PartGoes p x q → (p.front).over ≡ true → (q.front).over ≡ true
stays_over p q (part.hears channel message answer) goes is = ap (λ (s : FrontState). s.over) (goes.3).1 ∙ is
stays_over p q tries goes is = ap (λ (s : Served). (s.front).over) goes.4 ∙ is
stays_over p q keeps goes is = ap (λ (s : Served). (s.front).over) goes.3 ∙ is
stays_over p q forgets goes is = ap (λ (s : Served). (s.front).over) goes.4 ∙ is
stays_over p q misplaces goes is = ap (λ (s : Served). (s.front).over) goes.3 ∙ is
stays_over p q (directs st answer) goes is = ap (λ (s : FrontState). s.over) (goes.2).1 ∙ is
stays_over p q (calls place id does back items) goes is = ap (λ (s : FrontState). s.over) goes.front_is ∙ is
stays_over p q (tells_gone device answer) goes is = ap (λ (s : FrontState). s.over) (goes.0).1 ∙ is
stays_over p q (tells_there device answer) goes is = ap (λ (s : FrontState). s.over) (goes.0).1 ∙ is
stays_over p q (sends channel o) goes is = ap (λ (s : FrontState). s.over) (goes.1).1 ∙ is
stays_over p q (writes device done) goes is = ap (λ (s : Served). (s.front).over) goes.1 ∙ is
stays_over p q (unwritten device done) goes is = ap (λ (s : Served). (s.front).over) goes.1 ∙ is
stays_over p q (learns n answer) goes is = ap (λ (s : Served). (s.front).over) goes.1 ∙ is
stays_over p q (refreshes device) goes is = ap (λ (s : Served). (s.front).over) goes ∙ refreshed_over p.front device ∙ is
stays_over p q (begins channel) goes is = ap (λ (s : Served). (s.front).over) goes.3 ∙ is
stays_over p q (part.ends over told) goes is = ap (λ (s : FrontState). s.over) goes.2 ∙ ended_over over p.front (q.front).desks is

parts_stay : (ps : List FrontPart) (p q : Served) → PartsGo p ps q → (p.front).over ≡ true → (q.front).over ≡ true
parts_stay [] p q goes is = ap (λ (s : Served). (s.front).over) goes ∙ is
parts_stay (x ∷ ps) p q goes is = parts_stay ps goes.0 q goes.2 (stays_over p goes.0 x goes.1 is)

parts_over : (ps : List FrontPart) (p q : Served) → PartsGo p ps q → IsOver p → IsOver q
parts_over [] p q goes is = subst IsOver (sym goes) is
parts_over (x ∷ ps) p q goes is = parts_over ps goes.0 q goes.2 (part_over p goes.0 x goes.1 is)

history_stays : (entries : List FrontEntry) (parts : List (List FrontPart)) (p q : Served) → HistoryGoes p entries parts q → (p.front).over ≡ true → (q.front).over ≡ true
history_stays [] [] p q goes is = ap (λ (s : Served). (s.front).over) goes ∙ is
history_stays [] (ps ∷ parts) p q goes is = absurd goes
history_stays (e ∷ entries) [] p q goes is = absurd goes
history_stays (e ∷ entries) (ps ∷ parts) p q goes is = history_stays entries parts goes.0 q goes.2 (parts_stay ps p goes.0 (goes.1).goes is)

-- A history in which the session was ended is over.
history_ended : (entries : List FrontEntry) (parts : List (List FrontPart)) (p q : Served) (goes : HistoryGoes p entries parts q) → AreSteps p entries parts q goes → (last : FrontEntry) → Has last entries → last.call ≡ call.EndSession → (q.front).over ≡ true
history_ended [] parts p q goes steps last has over = absurd has
history_ended (e ∷ entries) [] p q goes steps last has over = absurd goes
history_ended (e ∷ entries) (ps ∷ parts) p q goes steps last (inl here) over =
    let ended : e.call ≡ call.EndSession = sym (ap (λ (x : FrontEntry). x.call) here) ∙ over in
    history_stays entries parts goes.0 q goes.2 (ends_over p.front e.reply (goes.0).front (subst (λ (does : FrontCall). FrontStep p.front does e.reply (goes.0).front) ended steps.0))
history_ended (e ∷ entries) (ps ∷ parts) p q goes steps last (inr later) over = history_ended entries parts goes.0 q goes.2 steps.1 last later over

history_over : (entries : List FrontEntry) (parts : List (List FrontPart)) (p q : Served) → HistoryGoes p entries parts q → IsOver p → IsOver q
history_over [] [] p q goes is = subst IsOver (sym goes) is
history_over [] (ps ∷ parts) p q goes is = absurd goes
history_over (e ∷ entries) [] p q goes is = absurd goes
history_over (e ∷ entries) (ps ∷ parts) p q goes is = history_over entries parts goes.0 q goes.2 (parts_over ps p goes.0 (goes.1).goes is)

has_last : (xs : List FrontEntry) (x : FrontEntry) → Has x (xs ++ x ∷ [])
has_last [] x = inl refl
has_last (y ∷ xs) x = inr (has_last xs x)

has_read : (entries : List FrontEntry) (x : FrontEntry) → Has x (reader_calls entries) → Has x entries
has_read [] x has = has
has_read (e ∷ entries) x has = by (has_read entries x) (asks_any e.call) has
  where
    by : (Has x (reader_calls entries) → Has x entries) → (b : Bool) → Has x (if b then reader_calls entries else e ∷ reader_calls entries) → Has x (e ∷ entries)
    by more true among = inr (more among)
    by more false (inl here) = inl here
    by more false (inr among) = inr (more among)

-- So at the end of a reader's session each station is done.
pub all_done : (entries : List FrontEntry) (parts : List (List FrontPart)) (p q : Served) (goes : HistoryGoes p entries parts q) → AreSteps p entries parts q goes → (p.front).over ≡ false
    → (own : List FrontEntry) (last : FrontEntry) → reader_calls entries ≡ own ++ last ∷ [] → last.call ≡ call.EndSession → (x : Of) → Has x q.stations → IsDone x
all_done entries parts p q goes steps fresh own last are over =
    history_over entries parts p q goes (λ is. absurd (cc (fresh, is)))
    (history_ended entries parts p q goes steps last (has_read entries last (subst (Has last) (sym are) (has_last own last))) over)
