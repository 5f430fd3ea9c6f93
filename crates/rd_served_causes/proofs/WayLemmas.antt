-- A job that its desk refused for a device that is gone, or for a worn journal: its station is as the refusal says, until it is answered.
use Rattle.std.proofs.Common.{◌≡◌, ◌∙◌, refl, sym, ap, subst, ℕ, zero, suc, ◌==◌, Bool, true, false, List, [], ◌∷◌, Some, Result, Ok, Err, slice_get, slice_set, eq-eqb, eqb-true, arith}
use Rattle.rd_base.specs.declared.journal.Item.{Item}
use Rattle.rd_client.specs.declared.heard.Heard.{Heard}
use Rattle.rd_client.specs.declared.heard.Heard.TheVariants.{Nothing, Ask, Print}
use Rattle.rd_desk.specs.declared.calls.DeskCall.{DeskCall}
use Rattle.rd_desk.specs.declared.calls.DeskCall.TheVariants as desk
use Rattle.rd_desk.specs.declared.calls.DeskReply.{DeskReply}
use Rattle.rd_desk.specs.declared.calls.DeskReply.TheVariants as replied
use Rattle.rd_front.specs.State.{DeviceDeskState, FrontState, SessionStation}
use Rattle.rd_hello.specs.declared.end_fault.EndFault.{EndFault}
use Rattle.rd_station.specs.declared.refusals.PutWhy.{PutWhy}
use Rattle.rd_station.specs.declared.refusals.PutWhy.TheVariants as why
use Rattle.rd_world.specs.World.{Kept}
use Rattle.rd_served_order.proofs.ServedKeyLemmas.{IsKeyed}
use Rattle.rd_served_order.proofs.ServedWalkLemmas.{desk_of}
use Rattle.rd_served_order.specs.ServedParts.{CallsAt, Comes, FrontPart, PartGoes, asking_by, begins, directs, ends, forgets, hears, keeps, learns, misplaces, refreshes, sends, tells_gone, tells_there, tries, unwritten, writes}
use Rattle.rd_served_order.specs.ServedParts as part
use Rattle.rd_served_order.specs.ServedServed.{Asking, Served, asks, hands, idle, refused}
use Rattle.rd_served_causes.proofs.DeskLemmas.{put_gone, put_worn}
use Rattle.rd_served_causes.proofs.OpenLemmas.{StaysHere, quiet_call, worked, worn_still}
use Rattle.rd_served_causes.proofs.StepLemmas.{refreshed_front}
use Rattle.rd_served_causes.specs.Open.{IsDeskAt, Never}
use Rattle.rd_served_causes.specs.Worn.{IsWorn}
use Rattle.rd_served_order.specs.ServedDevices.{served_cuts, served_parked, served_runs}

abbrev Of : Type 0
Of = SessionStation

-- the desk of a device, whose station is so
abbrev pub HasDeskAs : Served → ℕ → (Of → Type 0) → Type 0
HasDeskAs p device P = (place : ℕ) × (d : DeviceDeskState) × (s : Of) × IsDeskAt p place d s × (d.id ≡ device) × P s

abbrev pub IsGoneNow : Of → Type 0
IsGoneNow s = s.live ≡ false

abbrev pub IsWornNow : Of → Type 0
IsWornNow s = (s.live ≡ true) × IsWorn s

pub record IsWayFit (p : Served) : Type 0 where
  pub gone : (k : Kept) → p.asking ≡ refused k why.Gone → HasDeskAs p k.device IsGoneNow
  pub worn : (k : Kept) (count : ℕ) → p.asking ≡ refused k (why.Worn count) → HasDeskAs p k.device IsWornNow

-- ---- lists

set_here : {A : Type 0} (xs : List A) (i : ℕ) (y x : A) → slice_get xs i ≡ Some x → slice_get (slice_set xs i y) i ≡ Some y
set_here [] i y x is = absurd (cc (is))
set_here (z ∷ zs) zero y x is = refl
set_here (z ∷ zs) (suc i) y x is = set_here zs i y x is

set_else : {A : Type 0} (xs : List A) (i j : ℕ) (y x : A) → (j ≡ i → ⊥) → slice_get xs j ≡ Some x → slice_get (slice_set xs i y) j ≡ Some x
set_else [] i j y x other is = is
set_else (z ∷ zs) zero zero y x other is = absurd (other refl)
set_else (z ∷ zs) zero (suc j) y x other is = is
set_else (z ∷ zs) (suc i) zero y x other is = is
set_else (z ∷ zs) (suc i) (suc j) y x other is = set_else zs i j y x (λ e. other (omega (arith, e))) is

-- ---- what stays

same_way : (p q : Served) → q.asking ≡ p.asking → (q.front).desks ≡ (p.front).desks → q.stations ≡ p.stations → IsWayFit p → IsWayFit q
same_way p q asking desks stations is = record {
  gone = λ k e. moved k.device IsGoneNow (is.gone k (sym asking ∙ e));
  worn = λ k count e. moved k.device IsWornNow (is.worn k count (sym asking ∙ e));
}
  where
    moved : (device : ℕ) (P : Of → Type 0) → HasDeskAs p device P → HasDeskAs q device P
    moved device P (place, d, s, here, id, so) = (place, d, s, (ap (λ (ds : List DeviceDeskState). slice_get ds place) desks ∙ here.0, ap (λ (ss : List Of). slice_get ss place) stations ∙ here.1), id, so)

-- nothing was refused
none_way : (q : Served) (a : Asking) → q.asking ≡ a → ((k : Kept) (cause : PutWhy) → a ≡ refused k cause → ⊥) → IsWayFit q
none_way q a asking none = record { gone = λ k e. absurd (none k why.Gone (sym asking ∙ e)); worn = λ k count e. absurd (none k (why.Worn count) (sym asking ∙ e)) }

pub idle_way : (q : Served) → q.asking ≡ idle → IsWayFit q
idle_way q asking = none_way q idle asking (λ k cause e. cc (e))

asked_none : (answer : Result Heard EndFault) (k : Kept) (cause : PutWhy) → asking_by answer ≡ refused k cause → ⊥
asked_none (Ok (Ask device job)) k cause e = cc (e)
asked_none (Ok Nothing) k cause e = cc (e)
asked_none (Ok (Print n)) k cause e = cc (e)
asked_none (Err wrong) k cause e = cc (e)

-- ---- a desk is called

module _ (p q : Served) (place id : ℕ) (does : DeskCall) (back : DeskReply) (items : List Item) (keyed : IsKeyed p) (at : CallsAt p place id does back items q) where
  last_at : IsDeskAt q place at.after at.last
  last_at = (
    ap (λ (f : FrontState). slice_get f.desks place) at.front_is ∙ set_here (p.front).desks place at.after at.before at.there,
    ap (λ (ss : List Of). slice_get ss place) at.stations_are ∙ set_here p.stations place at.last at.first at.has,
  )

  after_id : (at.after).id ≡ id
  after_id = (at.called).id ∙ at.id_is

  -- a station that is so before is so after, where this one is
  moved : (device : ℕ) (P : Of → Type 0) → (P at.first → P at.last) → HasDeskAs p device P → HasDeskAs q device P
  moved device P on (k, d, s, here, same, so) = by (k == place) refl
    where
      by : (b : Bool) → (k == place) ≡ b → HasDeskAs q device P
      by true e =
          let equal : k ≡ place = eqb-true k place e in
          let desks : Some d ≡ Some at.before = sym here.0 ∙ ap (slice_get (p.front).desks) equal ∙ at.there in
          let stations : Some s ≡ Some at.first = sym here.1 ∙ ap (slice_get p.stations) equal ∙ at.has in
          let one : d ≡ at.before = cc (desks) in
          let two : s ≡ at.first = cc (stations) in
          (place, at.after, at.last, last_at, (at.called).id ∙ ap (λ (x : DeviceDeskState). x.id) (sym one) ∙ same, on (subst P two so))
      by false e =
          let other : k ≡ place → ⊥ = λ equal. let yes = eq-eqb k place equal in cc (yes, e) in (
            k,
            d,
            s,
            (
              ap (λ (f : FrontState). slice_get f.desks k) at.front_is ∙ set_else (p.front).desks place k at.after d other here.0,
              ap (λ (ss : List Of). slice_get ss k) at.stations_are ∙ set_else p.stations place k at.last s other here.1,
            ),
            same,
            so,
          )

calls_way : (p q : Served) (place id : ℕ) (does : DeskCall) (back : DeskReply) (items : List Item) → IsKeyed p → CallsAt p place id does back items q → IsWayFit p → IsWayFit q
calls_way p q place id desk.Announce back items keyed at is = idle_way q (at.asking_is ∙ (at.fits).0)
calls_way p q place id desk.Remove back items keyed at is = idle_way q (at.asking_is ∙ (at.fits).0)
calls_way p q place id desk.Collect (replied.Collected (Some c)) items keyed at is = none_way q (hands id c) (at.asking_is).1 (λ k cause e. cc (e))
calls_way p q place id desk.Collect back items keyed at is =
    let stay = quiet_call p q place id desk.Collect back items keyed at tt in
    record {
      gone = λ k e. moved p q place id desk.Collect back items keyed at k.device IsGoneNow (λ off. stay.live ∙ off) (is.gone k (sym at.asking_is ∙ e));
      worn = λ k count e. moved p q place id desk.Collect back items keyed at k.device IsWornNow (λ so. (stay.live ∙ so.0, worn_still at.first at.last stay.grows so.1)) (is.worn k count (sym at.asking_is ∙ e));
    }
calls_way p q place id (desk.Put job) (replied.Put (Ok done)) items keyed at is = idle_way q (at.asking_is).1
calls_way p q place id (desk.Put job) (replied.Unfit back) items keyed at is = idle_way q (at.asking_is).1
calls_way p q place id (desk.Put job) (replied.Put (Err refusal)) items keyed at is = record {
  gone = λ k e.
      let both : refused c.kept refusal.why ≡ refused k why.Gone = sym (at.asking_is).1 ∙ e in
      let same : c.kept ≡ k = cc (both) in
      let cause : refusal.why ≡ why.Gone = cc (both) in
      (place, at.after, at.last, here, named k same, put_gone served_runs served_parked served_cuts (at.called).middle at.last work.reached job refusal cause (at.called).step);
  worn = λ k count e.
      let both : refused c.kept refusal.why ≡ refused k (why.Worn count) = sym (at.asking_is).1 ∙ e in
      let same : c.kept ≡ k = cc (both) in
      let cause : refusal.why ≡ why.Worn count = cc (both) in
      (place, at.after, at.last, here, named k same, put_worn served_runs served_parked served_cuts (at.called).middle at.last work.reached job refusal count cause (at.called).step);
}
  where
    c : Comes p place job
    c = (at.asking_is).0

    work : StaysHere at.first (at.called).middle
    work = worked p q place id (desk.Put job) (replied.Put (Err refusal)) items keyed at

    here : IsDeskAt q place at.after at.last
    here = last_at p q place id (desk.Put job) (replied.Put (Err refusal)) items keyed at

    named : (k : Kept) → c.kept ≡ k → (at.after).id ≡ k.device
    named k same = (at.called).id ∙ sym (desk_of (p.front).desks place c.kept.device at.before c.at at.there) ∙ ap (λ (x : Kept). x.device) same
calls_way p q place id (desk.Put job) back items keyed at is = absurd (at.asking_is).1
calls_way p q place id (desk.Work runs) back items keyed at is = absurd at.own
calls_way p q place id desk.DropChannel back items keyed at is = absurd at.own
calls_way p q place id desk.End back items keyed at is = absurd at.own

pub part_way : (p q : Served) (x : FrontPart) → PartGoes p x q → IsKeyed p → IsWayFit p → IsWayFit q
part_way p q (hears channel m answer) goes keyed is = none_way q (asking_by answer) goes.4 (asked_none answer)
part_way p q tries goes keyed is = none_way q (asks goes.0) (ap (λ (v : Served). v.asking) goes.4) (λ k cause e. cc (e))
part_way p q keeps goes keyed is = idle_way q (ap (λ (v : Served). v.asking) goes.3)
part_way p q forgets goes keyed is = idle_way q (ap (λ (v : Served). v.asking) goes.4)
part_way p q misplaces goes keyed is = idle_way q (ap (λ (v : Served). v.asking) goes.3)
part_way p q (directs st answer) goes keyed is = idle_way q goes.3
part_way p q (part.calls place id does back items) goes keyed is = calls_way p q place id does back items keyed goes is
part_way p q (tells_gone device answer) goes keyed is = idle_way q (goes.1 ∙ goes.4)
part_way p q (tells_there device answer) goes keyed is = idle_way q (goes.1 ∙ goes.4)
part_way p q (sends channel sent) goes keyed is = same_way p q goes.2 (ap (λ (s : FrontState). s.desks) (goes.1).1) goes.3 is
part_way p q (writes device c) goes keyed is = idle_way q (ap (λ (v : Served). v.asking) goes.1)
part_way p q (unwritten device c) goes keyed is = idle_way q (ap (λ (v : Served). v.asking) goes.1)
part_way p q (learns n answer) goes keyed is = same_way p q (ap (λ (v : Served). v.asking) goes.1) (ap (λ (v : Served). (v.front).desks) goes.1) (ap (λ (v : Served). v.stations) goes.1) is
part_way p q (refreshes device) goes keyed is = same_way p q (ap (λ (v : Served). v.asking) goes) (ap (λ (v : Served). (v.front).desks) goes ∙ (refreshed_front Never Never Never Never p.front device).0) (ap (λ (v : Served). v.stations) goes) is
part_way p q (begins channel) goes keyed is = idle_way q (ap (λ (v : Served). v.asking) goes.3 ∙ goes.0)
part_way p q (ends over ts) goes keyed is = idle_way q goes.3
