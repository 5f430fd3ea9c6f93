-- What a desk's reply says of its station, and calls of desks at their places.
use Rattle.std.proofs.Common.{◌≡◌, sym, ap, subst, List, [], ◌∷◌, ◌++◌, Some, None, Option}
use Rattle.std.specs.Prelude.{All}
use Rattle.std.proofs.lemmas.List.Elements.{All-head}
use Rattle.rd_desk.specs.declared.calls.DeskCall.{DeskCall}
use Rattle.rd_desk.specs.declared.calls.DeskCall.TheVariants as desk
use Rattle.rd_desk.specs.declared.calls.DeskReply.{DeskReply}
use Rattle.rd_desk.specs.declared.calls.DeskReply.TheVariants as replied
use Rattle.rd_drive.specs.declared.plan.Job.{Job}
use Rattle.rd_drive.specs.Device.{CompletesKind}
use Rattle.rd_served_devices.specs.ServedDevices.{IsServedReached, served_cuts, served_parked, served_runs}
use Rattle.rd_station.specs.declared.answers.Completion.{Completion}
use Rattle.rd_station.specs.Station.{StationCall, StationSteps, collect, collect_first}
use Rattle.rd_station.proofs.Calls.{reached_kept, reached_step}
use Rattle.rd_turn.specs.History.{IsLegal, entry}
use Rattle.rd_turn.specs.Pass.{Called, TurnId}
use Rattle.rd_turn.proofs.HistoryLemmas.{Leads-keeps_fact, Leads-parted}
use Rattle.rd_front.specs.Front.{IsCollectReply, IsPutReply}
use Rattle.rd_front.specs.State.{SessionPass, IsDeskReply, SessionDeskStep, SessionStation}

-- calls of a station lead from one that came to be by its calls to one that did
reached_on : (old new : SessionStation) (calls : List StationCall) → IsServedReached old → StationSteps served_runs served_parked served_cuts old calls new → IsServedReached new
reached_on old new [] reached is = subst IsServedReached (sym is) reached
reached_on old new (c ∷ calls) reached steps =
    reached_on steps.0 new calls (reached_step served_runs served_parked served_cuts old steps.0 c reached steps.1) steps.2

-- what a pass has seen after a call ends with a reply that the desk gives there
pub replied_by : (turn : TurnId SessionStation) (p q : SessionPass) (call : DeskCall) (reply : DeskReply) → IsServedReached turn.opening → Called p call reply q
    → IsLegal SessionDeskStep turn.opening q.seen → IsDeskReply call reply
replied_by turn p q call reply reached called legal =
    let added = called.0 in
    let whole = subst (λ es. IsLegal SessionDeskStep turn.opening es) called.1 legal in
    let parted = Leads-parted SessionDeskStep turn.opening (p.seen ++ added) (entry p.number call reply ∷ []) whole.0 whole.1 in
    record {
      before = parted.0;
      after = (parted.2).0;
      reached = Leads-keeps_fact SessionDeskStep IsServedReached (λ a c r b step good. reached_on a b _ good step.0) turn.opening (p.seen ++ added) parted.0 parted.1 reached;
      step = (parted.2).1;
    }

-- a desk replies to a job by taking it or by giving it back
pub put_reply : (job : Job) (reply : DeskReply) → IsDeskReply (desk.Put job) reply → IsPutReply reply
put_reply job (replied.Announced answer) r = (r.step).1
put_reply job (replied.Put answer) r = tt
put_reply job (replied.Unfit back) r = tt
put_reply job (replied.Worked w) r = (r.step).1
put_reply job (replied.Collected answer) r = (r.step).1
put_reply job (replied.Removed answer) r = (r.step).1
put_reply job replied.Dropped r = (r.step).1
put_reply job replied.Ended r = (r.step).1

-- what is collected was ready first
collected_first : (s after : SessionStation) (c : Completion) → collect s ≡ (after, Some c) → (later : List Completion) × (s.ready ≡ c ∷ later)
collected_first s after c e = by s.ready e
  where
    by : (ready : List Completion) → collect_first s ready ≡ (after, Some c) → (later : List Completion) × (ready ≡ c ∷ later)
    by [] told =
        let no : None ≡ Some c = ap (λ (x : SessionStation × Option Completion). x.1) told in
        absurd (cc no)
    by (d ∷ later) told =
        let some : Some d ≡ Some c = ap (λ (x : SessionStation × Option Completion). x.1) told in
        let same : d ≡ c = cc in
        (later, ap (λ (x : Completion). x ∷ later) same)

-- a desk hands out a completion that fits its layout
pub collect_reply : (reply : DeskReply) → IsDeskReply desk.Collect reply → IsCollectReply reply
collect_reply (replied.Announced answer) r = (r.step).1
collect_reply (replied.Put answer) r = (r.step).1
collect_reply (replied.Unfit back) r = (r.step).1
collect_reply (replied.Worked w) r = (r.step).1
collect_reply (replied.Collected None) r = tt
collect_reply (replied.Collected (Some c)) r =
    let is : collect r.before ≡ (((r.step).0).0, Some c) = ((r.step).0).1 in
    let (later, ready) = collected_first r.before ((r.step).0).0 c is in
    let kept = reached_kept served_runs served_parked served_cuts r.before r.reached in
    All-head (λ (x : Completion). CompletesKind x.kind x.reply) c later (subst (All (λ (x : Completion). CompletesKind x.kind x.reply)) ready kept.ready)
collect_reply (replied.Removed answer) r = (r.step).1
collect_reply replied.Dropped r = (r.step).1
collect_reply replied.Ended r = (r.step).1
