-- Each part of a call leaves the stations open as the host was told, but for what is still to be done.
use Rattle.std.proofs.Common.{◌≡◌, ◌⊎◌, ◌∙◌, refl, sym, ap, subst, inl, inr, ℕ, ◌==◌, ◌&&◌, Bool, true, false, cond, not, List, [], ◌∷◌, map, Option, Some, None, Result, Ok, Err, slice_get, eqb-true, eq-eqb}
use Rattle.std.specs.Prelude.{nat_eq}
use Rattle.std.specs.declared.alloc.AllocError.{AllocError}
use Rattle.std.specs.List.{IsDistinct, list_any}
use Rattle.std.specs.Map.{lookup}
use Rattle.std.specs.Option.{option_map_or}
use Rattle.std.specs.Ordering.{nat_cmp}
use Rattle.std.specs.BTreeMap.{is_at}
use Rattle.rd_served_order.proofs.AnsweredListedLemmas.{told_other, told_refreshed, told_removed_off}
use Rattle.rd_served_order.proofs.AnsweredReadyLemmas.{KeepsClient, client_kept}
use Rattle.rd_served_order.specs.AnsweredRefusing.{is_told_by}
use Rattle.rd_base.specs.declared.journal.Item.{Item}
use Rattle.rd_client.specs.Core as client
use Rattle.rd_client.specs.Core.{ClientCoreState, ClientDevice, Outgoing, announces, client_hear, client_side, has_device, is_gone}
use Rattle.rd_client.specs.Order.{is_client_ready}
use Rattle.rd_client.specs.declared.heard.Heard.{Heard}
use Rattle.rd_core.specs.Core as core
use Rattle.rd_core.specs.Hearing as hearing
use Rattle.rd_desk.specs.declared.calls.DeskCall.{DeskCall}
use Rattle.rd_desk.specs.declared.calls.DeskCall.TheVariants as desk
use Rattle.rd_desk.specs.declared.calls.DeskReply.{DeskReply}
use Rattle.rd_desk.specs.declared.calls.DeskReply.TheVariants as replied
use Rattle.rd_devices.specs.declared.list.Announce.{Announce}
use Rattle.rd_front.specs.Front.{desk_place, is_announced, is_front_ready, is_told_there, with_new_data}
use Rattle.rd_front.specs.State.{DeviceDeskState, FrontState, SessionDeskStep, SessionStation}
use Rattle.rd_hello.specs.declared.end_fault.EndFault.{EndFault}
use Rattle.rd_hello.specs.declared.end_fault.EndFault.TheVariants as fault
use Rattle.rd_station.specs.declared.refusals.AnnounceNo.TheVariants as announce_no
use Rattle.rd_declared.specs.Devices.{PrinterNames, printer_data}
use Rattle.rd_deeds.specs.Talk.{Deed}
use Rattle.rd_served_order.proofs.ServedCauseLemmas.{IsTold, found}
use Rattle.rd_served_order.proofs.ServedKeyLemmas.{IsKeyed, both_true}
use Rattle.rd_served_order.specs.ServedParts.{CallsAt, FitsCall, FrontPart, IsOpenCall, PartGoes, announced_by, begins, cut_by, directs, ends, forgets, hears, keeps, learns, misplaces, refreshes, sends, tells_gone, tells_there, tries, unwritten, writes}
use Rattle.rd_served_order.specs.ServedParts as part
use Rattle.rd_served_order.specs.ServedServed.{Served}
use Rattle.rd_served_causes.proofs.DeskLemmas.{announce_open, removed_off}
use Rattle.rd_served_causes.proofs.OpenLemmas.{IsQuietCall, StaysHere, each_off, ended_on, memory_same, present_stays, quiet_call, told_added, worked, worn_still}
use Rattle.rd_served_causes.proofs.PlaceLemmas.{has_place}
use Rattle.rd_served_causes.specs.Open.{AreOff, IsDeskAt, IsOpenBut, Never}
use Rattle.rd_served_causes.specs.Worn.{IsWorn}
use Rattle.rd_served_order.specs.ServedDevices.{served_cuts, served_parked, served_runs}

abbrev Of : Type 0
Of = SessionStation

abbrev pub AreApartIn : ClientCoreState → Type 0
AreApartIn c = IsDistinct nat_eq (map (λ (a : Announce). a.id) (announces c))

abbrev NoDesk : Served → ℕ → Type 0
NoDesk p device = desk_place (p.front).desks device ≡ None

abbrev IsToldAt : Served → ℕ → Type 0
IsToldAt p device = is_told_there p.front device ≡ true

-- ---- what a client says it hears

-- a client keeps its devices by what it hears
kept_of : (c d : ClientCoreState) (m : List ℕ) (a : Result Heard EndFault) → hearing.Hears client_side (λ (x : ClientCoreState). x.core) client_hear c m a d → KeepsClient c d
kept_of c d m a did = by a did
  where
    heard : (x : Result Heard EndFault) → client_hear c m ≡ (d, x) → KeepsClient c d
    heard x e = subst (λ (y : ClientCoreState). KeepsClient c y) (ap (λ (r : ClientCoreState × Result Heard EndFault). r.0) e) (client_kept c m)

    by : (x : Result Heard EndFault) → hearing.Hears client_side (λ (y : ClientCoreState). y.core) client_hear c m x d → KeepsClient c d
    by (Err fault.Memory) did = subst (λ (y : ClientCoreState). KeepsClient c y) (sym did.1) (record { devices = refl; ready = λ is. is })
    by (Err (fault.Order state packet)) did = heard _ did
    by (Err (fault.Grammar bad)) did = heard _ did
    by (Ok h) did = heard _ did

abbrev Shown : List ClientDevice → ℕ → Bool
Shown ds device = list_any (client.is_device device) ds && not (list_any (λ x. client.is_device device x && x.removed) ds)

heard_told : (c d : ClientCoreState) → KeepsClient c d → (n : ℕ) → is_told_by d n ≡ true → (is_told_by c n ≡ true) ⊎ ((is_client_ready (c.core).shake ≡ false) × (is_client_ready (d.core).shake ≡ true))
heard_told c d kept n told =
    let both = both_true (is_client_ready (d.core).shake) (Shown d.devices n) told in
    by (is_client_ready (c.core).shake) refl both.0 (sym (ap (λ (ds : List ClientDevice). Shown ds n) kept.devices) ∙ both.1)
  where
    by : (r : Bool) → is_client_ready (c.core).shake ≡ r → is_client_ready (d.core).shake ≡ true → Shown c.devices n ≡ true → (is_told_by c n ≡ true) ⊎ ((is_client_ready (c.core).shake ≡ false) × (is_client_ready (d.core).shake ≡ true))
    by true e now shown = inl (λ i. e i && shown i)
    by false e now shown = inr (e, now)

heard_live : (c d : ClientCoreState) → KeepsClient c d → (n : ℕ) → is_told_by c n ≡ true → is_told_by d n ≡ true
heard_live c d kept n told =
    let both = both_true (is_client_ready (c.core).shake) (Shown c.devices n) told in
    let now = kept.ready both.0 in
    let shown : Shown d.devices n ≡ true = ap (λ (ds : List ClientDevice). Shown ds n) kept.devices ∙ both.1 in
    λ i. now i && shown i

-- which device a call of a desk announces, or cuts off
announced_id : (place id : ℕ) (does : DeskCall) (back : DeskReply) (items : List Item) (n : ℕ) → announced_by (part.calls place id does back items) ≡ Some n → id ≡ n
announced_id place id desk.Announce back items n is = by (is_announced back) is
  where
    by : (b : Bool) → cond b (Some id) None ≡ Some n → id ≡ n
    by true e = cc (e)
    by false e = absurd (cc (e))
announced_id place id (desk.Put job) back items n is = absurd (cc (is))
announced_id place id (desk.Work runs) back items n is = absurd (cc (is))
announced_id place id desk.Collect back items n is = absurd (cc (is))
announced_id place id desk.Remove back items n is = absurd (cc (is))
announced_id place id desk.DropChannel back items n is = absurd (cc (is))
announced_id place id desk.End back items n is = absurd (cc (is))

cut_id : (place id : ℕ) (does : DeskCall) (back : DeskReply) (items : List Item) (n : ℕ) → cut_by (part.calls place id does back items) ≡ Some n → id ≡ n
cut_id place id desk.Remove back items n is = cc (is)
cut_id place id desk.Announce back items n is = absurd (cc (is))
cut_id place id (desk.Put job) back items n is = absurd (cc (is))
cut_id place id (desk.Work runs) back items n is = absurd (cc (is))
cut_id place id desk.Collect back items n is = absurd (cc (is))
cut_id place id desk.DropChannel back items n is = absurd (cc (is))
cut_id place id desk.End back items n is = absurd (cc (is))

-- ---- parts

module _ (D C E F : ℕ → Type 0) where
  -- where a channel begins no station is live, and the host was told of none
  pub begun_open : (p q : Served) (channel : ℕ) → PartGoes p (begins channel) q → AreOff p → IsOpenBut E F q
  begun_open p q channel goes off = record {
    told = λ place d s here on said. absurd (let none = ap (λ (v : Served). is_told_there v.front d.id) goes.3 in cc (said, none));
    live = λ place d s here lives. absurd (
        let none = off goes.1 place d s (ap (λ (v : Served). slice_get (v.front).desks place) (sym goes.3) ∙ here.0, ap (λ (v : Served). slice_get v.stations place) (sym goes.3) ∙ here.1) in
        cc (lives, none)
        );
  }

  -- What is to be done after a part that tells of devices: what is due then (E), and what is to be cut off (F).
  abbrev pub LeavesDue : FrontPart → Served → Served → Type 0
  LeavesDue (tells_there device (Ok done)) p q = NoDesk p device ⊎ E device
  LeavesDue (tells_gone device (Ok done)) p q = NoDesk p device ⊎ F device
  LeavesDue (hears channel m answer) p q = is_front_ready p.front ≡ false → is_front_ready q.front ≡ true → (n : ℕ) → IsToldAt q n → NoDesk p n ⊎ E n
  LeavesDue _ p q = Unit {0}

  -- stations and desks are the same
  open_beside : (p q : Served) → (q.front).desks ≡ (p.front).desks → q.stations ≡ p.stations → (q.front).on ≡ (p.front).on → ((n : ℕ) → IsToldAt q n → IsToldAt p n ⊎ (NoDesk p n ⊎ E n)) → ((n : ℕ) → IsToldAt p n → IsToldAt q n ⊎ (NoDesk p n ⊎ F n))
      → ((n : ℕ) → D n → E n) → ((n : ℕ) → C n → F n) → IsOpenBut D C p → IsOpenBut E F q
  open_beside p q desks stations on told still due cut is = record {
    told = λ place d s here now said. elim (told d.id said) [
      | inl was ↦ elim (is.told place d s (before place d s here) (sym on ∙ now) was) [ inl so ↦ inl so | inr late ↦ inr (due d.id late) ]
      | inr new ↦ elim new [ inl none ↦ absurd (has_place (p.front).desks place d d.id (before place d s here).0 refl none) | inr later ↦ inr later ]
    ];
    live = λ place d s here lives. let so = is.live place d s (before place d s here) lives in (
      on ∙ so.0,
      elim so.1 [
        | inl was ↦ elim (still d.id was) [
          | inl now ↦ inl now
          | inr new ↦ elim new [ inl none ↦ absurd (has_place (p.front).desks place d d.id (before place d s here).0 refl none) | inr later ↦ inr later ]
        ]
        | inr late ↦ inr (cut d.id late)
      ],
    );
  }
    where
      before : (place : ℕ) (d : DeviceDeskState) (s : Of) → IsDeskAt q place d s → IsDeskAt p place d s
      before place d s here = (ap (λ (ds : List DeviceDeskState). slice_get ds place) (sym desks) ∙ here.0, ap (λ (ss : List Of). slice_get ss place) (sym stations) ∙ here.1)

  -- and what the host was told
  open_same : (p q : Served) → (q.front).desks ≡ (p.front).desks → q.stations ≡ p.stations → (q.front).on ≡ (p.front).on → ((n : ℕ) → is_told_there q.front n ≡ is_told_there p.front n) → ((n : ℕ) → D n → E n) → ((n : ℕ) → C n → F n) → IsOpenBut D C p → IsOpenBut E F q
  open_same p q desks stations on told due cut is = open_beside p q desks stations on (λ n said. inl (sym (told n) ∙ said)) (λ n said. inl (told n ∙ said)) due cut is

  -- the same but for what is under way or kept back
  open_front : (p q : Served) → (q.front).client ≡ (p.front).client → (q.front).desks ≡ (p.front).desks → q.stations ≡ p.stations → (q.front).on ≡ (p.front).on → ((n : ℕ) → D n → E n) → ((n : ℕ) → C n → F n) → IsOpenBut D C p → IsOpenBut E F q
  open_front p q same desks stations on due cut is = open_same p q desks stations on (λ n. ap (λ (c : ClientCoreState). is_told_by c n) same) due cut is

  -- ---- a desk is called

  module _ (p q : Served) (place id : ℕ) (does : DeskCall) (back : DeskReply) (items : List Item) (deeds : List Deed) (keyed : IsKeyed p) (told : IsTold p deeds) (apart : AreApartIn (p.front).client) (at : CallsAt p place id does back items q)
      (due : (n : ℕ) → D n → (announced_by (part.calls place id does back items) ≡ Some n) ⊎ E n) (cut : (n : ℕ) → C n → (cut_by (part.calls place id does back items) ≡ Some n) ⊎ F n) (is : IsOpenBut D C p) where
    told_same : (n : ℕ) → is_told_there q.front n ≡ is_told_there p.front n
    told_same n = ap (λ (f : FrontState). is_told_there f n) at.front_is

    on_same : (q.front).on ≡ (p.front).on
    on_same = ap (λ (f : FrontState). f.on) at.front_is

    -- the desk itself, before and after
    own_told : (p.front).on ≡ true → is_told_there p.front id ≡ true → (((at.last).live ≡ true) ⊎ IsWorn at.last) ⊎ E id
    own_told on said = by does refl back at.own at.fits (at.called).step due
      where
        first : (((at.first).live ≡ true) ⊎ IsWorn at.first) ⊎ D id
        first = subst (λ (n : ℕ). (((at.first).live ≡ true) ⊎ IsWorn at.first) ⊎ D n) at.id_is (is.told place at.before at.first (at.there, at.has) on (subst (λ (n : ℕ). is_told_there p.front n ≡ true) (sym at.id_is) said))

        go : (s : Of) → StaysHere at.first s → ((n : ℕ) → D n → E n) → ((s.live ≡ true) ⊎ IsWorn s) ⊎ E id
        go s stay later = elim first [
          | inl so ↦ inl (elim so [ inl live ↦ inl (stay.live ∙ live) | inr worn ↦ inr (worn_still at.first s stay.grows worn) ])
          | inr late ↦ inr (later id late)
        ]

        work : StaysHere at.first (at.called).middle
        work = worked p q place id does back items keyed at

        by : (d : DeskCall) → does ≡ d → (r : DeskReply) → IsOpenCall d → FitsCall p id d → SessionDeskStep (at.called).middle d r at.last → ((n : ℕ) → D n → (announced_by (part.calls place id d r items) ≡ Some n) ⊎ E n) → (((at.last).live ≡ true) ⊎ IsWorn at.last) ⊎ E id
        by (desk.Put job) same r own fits step due = go at.last (quiet_call p q place id does back items keyed at (subst IsQuietCall (sym same) tt)) (λ n late. elim (due n late) [ inl e ↦ absurd (cc (e)) | inr later ↦ later ])
        by desk.Collect same r own fits step due = go at.last (quiet_call p q place id does back items keyed at (subst IsQuietCall (sym same) tt)) (λ n late. elim (due n late) [ inl e ↦ absurd (cc (e)) | inr later ↦ later ])
        by desk.Announce same (replied.Announced (Err announce_no.Memory)) own fits step due =
            subst (λ (s : Of). ((s.live ≡ true) ⊎ IsWorn s) ⊎ E id) (sym (memory_same (at.called).middle at.last step)) (go (at.called).middle work (λ n late. elim (due n late) [ inl e ↦ absurd (cc (e)) | inr later ↦ later ]))
        by desk.Announce same (replied.Announced (Ok done)) own fits step due = inl (announce_open served_runs served_parked served_cuts (at.called).middle at.last work.reached (Ok done) (λ e. cc (e)) step).0
        by desk.Announce same (replied.Announced (Err announce_no.Live)) own fits step due = inl (announce_open served_runs served_parked served_cuts (at.called).middle at.last work.reached (Err announce_no.Live) (λ e. cc (e)) step).0
        by desk.Announce same (replied.Announced (Err (announce_no.Worn count))) own fits step due = inl (announce_open served_runs served_parked served_cuts (at.called).middle at.last work.reached (Err (announce_no.Worn count)) (λ e. cc (e)) step).0
        by desk.Announce same (replied.Put answer) own fits step due = absurd step.1
        by desk.Announce same (replied.Unfit job) own fits step due = absurd step.1
        by desk.Announce same (replied.Worked w) own fits step due = absurd step.1
        by desk.Announce same (replied.Collected answer) own fits step due = absurd step.1
        by desk.Announce same (replied.Removed answer) own fits step due = absurd step.1
        by desk.Announce same replied.Dropped own fits step due = absurd step.1
        by desk.Announce same replied.Ended own fits step due = absurd step.1
        by desk.Remove same r own fits step due = absurd (let off = fits.2 in cc (said, off))
        by (desk.Work runs) same r own fits step due = absurd own
        by desk.DropChannel same r own fits step due = absurd own
        by desk.End same r own fits step due = absurd own

    own_live : (at.last).live ≡ true → ((p.front).on ≡ true) × ((is_told_there p.front id ≡ true) ⊎ F id)
    own_live lives = by does refl back at.own at.fits (at.called).step cut
      where
        first : (at.first).live ≡ true → ((p.front).on ≡ true) × ((is_told_there p.front id ≡ true) ⊎ C id)
        first live = subst (λ (n : ℕ). ((p.front).on ≡ true) × ((is_told_there p.front n ≡ true) ⊎ C n)) at.id_is (is.live place at.before at.first (at.there, at.has) live)

        go : StaysHere at.first at.last → ((n : ℕ) → C n → F n) → ((p.front).on ≡ true) × ((is_told_there p.front id ≡ true) ⊎ F id)
        go stay later = let so = first (sym stay.live ∙ lives) in (so.0, elim so.1 [ inl said ↦ inl said | inr late ↦ inr (later id late) ])

        by : (d : DeskCall) → does ≡ d → (r : DeskReply) → IsOpenCall d → FitsCall p id d → SessionDeskStep (at.called).middle d r at.last → ((n : ℕ) → C n → (cut_by (part.calls place id d r items) ≡ Some n) ⊎ F n) → ((p.front).on ≡ true) × ((is_told_there p.front id ≡ true) ⊎ F id)
        by (desk.Put job) same r own fits step cut = go (quiet_call p q place id does back items keyed at (subst IsQuietCall (sym same) tt)) (λ n late. elim (cut n late) [ inl e ↦ absurd (cc (e)) | inr later ↦ later ])
        by desk.Collect same r own fits step cut = go (quiet_call p q place id does back items keyed at (subst IsQuietCall (sym same) tt)) (λ n late. elim (cut n late) [ inl e ↦ absurd (cc (e)) | inr later ↦ later ])
        by desk.Announce same r own fits step cut =
            let shown = present_stays id ((p.front).client).devices apart fits.3 in
            let ready = fits.2 in
            (fits.1, inl (λ i. ready i && shown i))
        by desk.Remove same (replied.Removed answer) own fits step cut =
            let off = (removed_off served_runs served_parked served_cuts (at.called).middle at.last (worked p q place id does back items keyed at).reached answer step).0 in absurd (cc (lives, off))
        by desk.Remove same (replied.Announced answer) own fits step cut = absurd step.1
        by desk.Remove same (replied.Put answer) own fits step cut = absurd step.1
        by desk.Remove same (replied.Unfit job) own fits step cut = absurd step.1
        by desk.Remove same (replied.Worked w) own fits step cut = absurd step.1
        by desk.Remove same (replied.Collected answer) own fits step cut = absurd step.1
        by desk.Remove same replied.Dropped own fits step cut = absurd step.1
        by desk.Remove same replied.Ended own fits step cut = absurd step.1
        by (desk.Work runs) same r own fits step cut = absurd own
        by desk.DropChannel same r own fits step cut = absurd own
        by desk.End same r own fits step cut = absurd own

    call_open : IsOpenBut E F q
    call_open = record {
      told = λ k d s here on said. elim (found p q place id does back items deeds keyed told at k d s here) [
        | inl (this, same, station) ↦ subst (λ (n : ℕ). ((s.live ≡ true) ⊎ IsWorn s) ⊎ E n) (sym same)
            (subst (λ (x : Of). ((x.live ≡ true) ⊎ IsWorn x) ⊎ E id) (sym station) (own_told (sym on_same ∙ on) (subst (λ (n : ℕ). is_told_there p.front n ≡ true) same (sym (told_same d.id) ∙ said))))
        | inr (other, was) ↦ elim (is.told k d s was (sym on_same ∙ on) (sym (told_same d.id) ∙ said)) [
          | inl so ↦ inl so
          | inr late ↦ elim (due d.id late) [ inl e ↦ absurd (let yes = eq-eqb id d.id (announced_id place id does back items d.id e) in cc (yes, other)) | inr later ↦ inr later ]
        ]
      ];
      live = λ k d s here lives. elim (found p q place id does back items deeds keyed told at k d s here) [
        | inl (this, same, station) ↦
            let so = own_live (ap (λ (x : Of). x.live) (sym station) ∙ lives) in (
              on_same ∙ so.0,
              elim so.1 [ inl said ↦ inl (told_same d.id ∙ subst (λ (n : ℕ). is_told_there p.front n ≡ true) (sym same) said) | inr later ↦ inr (subst F (sym same) later) ],
            )
        | inr (other, was) ↦
            let so = is.live k d s was lives in (
              on_same ∙ so.0,
              elim so.1 [
                | inl said ↦ inl (told_same d.id ∙ said)
                | inr late ↦ elim (cut d.id late) [ inl e ↦ absurd (let yes = eq-eqb id d.id (cut_id place id does back items d.id e) in cc (yes, other)) | inr later ↦ inr later ]
              ],
            )
      ];
    }

  -- ---- each part

  pub sent_told : (c d : ClientCoreState) (sent : Option Outgoing) → client.client_send c ≡ (d, sent) → (n : ℕ) → is_told_by d n ≡ is_told_by c n
  sent_told c d sent made n = by (c.core).outbox (ap (λ (r : ClientCoreState × Option Outgoing). r.0) made)
    where
      by : (os : List Outgoing) → (let r = core.send_from c.core os in record c { core = r.0 }) ≡ d → is_told_by d n ≡ is_told_by c n
      by [] e = sym (ap (λ (x : ClientCoreState). is_told_by x n) e)
      by (o ∷ os) e = sym (ap (λ (x : ClientCoreState). is_told_by x n) e)

  did_told : (answer : Result (Unit {0}) AllocError) (c d done : ClientCoreState) → core.Did answer done c d → ((n : ℕ) → is_told_by done n ≡ is_told_by c n) → (n : ℕ) → is_told_by d n ≡ is_told_by c n
  did_told (Ok u) c d done did same n = ap (λ (x : ClientCoreState). is_told_by x n) did ∙ same n
  did_told (Err error) c d done did same n = ap (λ (x : ClientCoreState). is_told_by x n) did

  refreshed_told : (s : FrontState) (device n : ℕ) → is_told_there (with_new_data s device) n ≡ is_told_there s n
  refreshed_told s device n = by (lookup (is_at (nat_cmp device)) s.printers)
    where
      by : (o : Option PrinterNames) → is_told_there (option_map_or (λ (names : PrinterNames). record s { client = client.refresh s.client device (printer_data s.cache names) }) o s) n ≡ is_told_there s n
      by None = refl
      by (Some names) = told_refreshed s.client device n (printer_data s.cache names)

  pub refreshed_front : (s : FrontState) (device : ℕ) → let t = with_new_data s device in (t.desks ≡ s.desks) × (t.on ≡ s.on)
  refreshed_front s device = by (lookup (is_at (nat_cmp device)) s.printers)
    where
      by : (o : Option PrinterNames) → let t = option_map_or (λ (names : PrinterNames). record s { client = client.refresh s.client device (printer_data s.cache names) }) o s in (t.desks ≡ s.desks) × (t.on ≡ s.on)
      by None = (refl, refl)
      by (Some names) = (refl, refl)

  module _ (p q : Served) (x : FrontPart) (due : (n : ℕ) → D n → (announced_by x ≡ Some n) ⊎ E n) (cut : (n : ℕ) → C n → (cut_by x ≡ Some n) ⊎ F n) where
    -- nothing is announced by it, nor cut off
    due_on : ((n : ℕ) → announced_by x ≡ Some n → ⊥) → (n : ℕ) → D n → E n
    due_on none n late = elim (due n late) [ inl e ↦ absurd (none n e) | inr later ↦ later ]

    cut_on : ((n : ℕ) → cut_by x ≡ Some n → ⊥) → (n : ℕ) → C n → F n
    cut_on none n late = elim (cut n late) [ inl e ↦ absurd (none n e) | inr later ↦ later ]

  pub part_open : (p q : Served) (x : FrontPart) (deeds : List Deed) → PartGoes p x q → IsKeyed p → IsTold p deeds → AreApartIn (p.front).client → LeavesDue x p q → ((n : ℕ) → D n → (announced_by x ≡ Some n) ⊎ E n) → ((n : ℕ) → C n → (cut_by x ≡ Some n) ⊎ F n) → AreOff p
      → IsOpenBut D C p → IsOpenBut E F q
  part_open p q (hears channel m answer) deeds goes keyed told apart leaves due cut off is =
      let kept = kept_of (p.front).client (q.front).client m answer ((goes.3).0).1 in
      open_beside p q (ap (λ (s : FrontState). s.desks) (goes.3).1) goes.5 (ap (λ (s : FrontState). s.on) (goes.3).1)
      (λ n said. elim (heard_told (p.front).client (q.front).client kept n said) [ inl was ↦ inl was | inr now ↦ inr (leaves now.0 now.1 n said) ])
      (λ n said. inl (heard_live (p.front).client (q.front).client kept n said)) (due_on p q (hears channel m answer) due cut (λ n e. cc (e))) (cut_on p q (hears channel m answer) due cut (λ n e. cc (e))) is
  part_open p q tries deeds goes keyed told apart leaves due cut off is =
      open_front p q (ap (λ (s : Served). (s.front).client) goes.4) (ap (λ (s : Served). (s.front).desks) goes.4) (ap (λ (s : Served). s.stations) goes.4) (ap (λ (s : Served). (s.front).on) goes.4) (due_on p q tries due cut (λ n e. cc (e))) (cut_on p q tries due cut (λ n e. cc (e))) is
  part_open p q keeps deeds goes keyed told apart leaves due cut off is =
      open_front p q (ap (λ (s : Served). (s.front).client) goes.3) (ap (λ (s : Served). (s.front).desks) goes.3) (ap (λ (s : Served). s.stations) goes.3) (ap (λ (s : Served). (s.front).on) goes.3) (due_on p q keeps due cut (λ n e. cc (e))) (cut_on p q keeps due cut (λ n e. cc (e))) is
  part_open p q forgets deeds goes keyed told apart leaves due cut off is =
      open_front p q (ap (λ (s : Served). (s.front).client) goes.4) (ap (λ (s : Served). (s.front).desks) goes.4) (ap (λ (s : Served). s.stations) goes.4) (ap (λ (s : Served). (s.front).on) goes.4) (due_on p q forgets due cut (λ n e. cc (e))) (cut_on p q forgets due cut (λ n e. cc (e))) is
  part_open p q misplaces deeds goes keyed told apart leaves due cut off is =
      open_front p q (ap (λ (s : Served). (s.front).client) goes.3) (ap (λ (s : Served). (s.front).desks) goes.3) (ap (λ (s : Served). s.stations) goes.3) (ap (λ (s : Served). (s.front).on) goes.3) (due_on p q misplaces due cut (λ n e. cc (e))) (cut_on p q misplaces due cut (λ n e. cc (e))) is
  part_open p q (directs st answer) deeds goes keyed told apart leaves due cut off is =
      open_same p q (ap (λ (s : FrontState). s.desks) (goes.2).1) goes.4 (ap (λ (s : FrontState). s.on) (goes.2).1)
      (did_told answer (p.front).client (q.front).client (client.direct (p.front).client (goes.0).job (goes.0).device st) ((goes.2).0).1 (λ n. refl)) (due_on p q (directs st answer) due cut (λ n e. cc (e))) (cut_on p q (directs st answer) due cut (λ n e. cc (e))) is
  part_open p q (part.calls place id does back items) deeds goes keyed told apart leaves due cut off is = call_open p q place id does back items deeds keyed told apart goes due cut is
  part_open p q (tells_gone device (Ok done)) deeds goes keyed told apart leaves due cut off is =
      let made = ((goes.0).0).1 in
      open_beside p q (ap (λ (s : FrontState). s.desks) (goes.0).1) goes.2 (ap (λ (s : FrontState). s.on) (goes.0).1)
      (λ n said. by n (n == device) refl (subst (λ (c : ClientCoreState). is_told_by c n ≡ true) made said)) (λ n said. on n (n == device) refl said (λ same. subst (λ (c : ClientCoreState). is_told_by c n ≡ true) (sym made) same))
      (due_on p q (tells_gone device (Ok done)) due cut (λ n e. cc (e))) (cut_on p q (tells_gone device (Ok done)) due cut (λ n e. cc (e))) is
    where
      by : (n : ℕ) (b : Bool) → (n == device) ≡ b → is_told_by (client.tell_removed (p.front).client device) n ≡ true → IsToldAt p n ⊎ (NoDesk p n ⊎ E n)
      by n true same said = absurd (let off : is_told_by (client.with_mark (p.front).client device true) n ≡ false = subst (λ (k : ℕ). is_told_by (client.with_mark (p.front).client device true) k ≡ false) (sym (eqb-true n device same)) (told_removed_off (p.front).client device) in cc (said, off))
      by n false other said = inl (sym (told_other (p.front).client device n true other) ∙ said)

      on : (n : ℕ) (b : Bool) → (n == device) ≡ b → IsToldAt p n → (is_told_by (client.tell_removed (p.front).client device) n ≡ true → IsToldAt q n) → IsToldAt q n ⊎ (NoDesk p n ⊎ F n)
      on n true same said then = inr (subst (λ (k : ℕ). NoDesk p k ⊎ F k) (sym (eqb-true n device same)) leaves)
      on n false other said then = inl (then (told_other (p.front).client device n true other ∙ said))
  part_open p q (tells_gone device (Err error)) deeds goes keyed told apart leaves due cut off is =
      open_same p q (ap (λ (s : FrontState). s.desks) (goes.0).1) goes.2 (ap (λ (s : FrontState). s.on) (goes.0).1) (λ n. ap (λ (c : ClientCoreState). is_told_by c n) ((goes.0).0).1)
      (due_on p q (tells_gone device (Err error)) due cut (λ n e. cc (e))) (cut_on p q (tells_gone device (Err error)) due cut (λ n e. cc (e))) is
  part_open p q (tells_there device (Ok done)) deeds goes keyed told apart leaves due cut off is =
      let made = ((goes.0).0).1 in
      open_beside p q (ap (λ (s : FrontState). s.desks) (goes.0).1) goes.2 (ap (λ (s : FrontState). s.on) (goes.0).1)
      (λ n said. by n (n == device) refl (subst (λ (c : ClientCoreState). is_told_by c n ≡ true) made said)) (λ n said. inl (subst (λ (c : ClientCoreState). is_told_by c n ≡ true) (sym made) (on n (n == device) refl said)))
      (due_on p q (tells_there device (Ok done)) due cut (λ n e. cc (e))) (cut_on p q (tells_there device (Ok done)) due cut (λ n e. cc (e))) is
    where
      by : (n : ℕ) (b : Bool) → (n == device) ≡ b → is_told_by (client.tell_added (p.front).client device) n ≡ true → IsToldAt p n ⊎ (NoDesk p n ⊎ E n)
      by n true same said = inr (subst (λ (k : ℕ). NoDesk p k ⊎ E k) (sym (eqb-true n device same)) leaves)
      by n false other said = inl (sym (told_other (p.front).client device n false other) ∙ said)

      on : (n : ℕ) (b : Bool) → (n == device) ≡ b → IsToldAt p n → is_told_by (client.tell_added (p.front).client device) n ≡ true
      on n true same said = subst (λ (k : ℕ). is_told_by (client.with_mark (p.front).client device false) k ≡ true) (sym (eqb-true n device same)) (told_added (p.front).client device (subst (λ (k : ℕ). is_told_by (p.front).client k ≡ true) (eqb-true n device same) said))
      on n false other said = told_other (p.front).client device n false other ∙ said
  part_open p q (tells_there device (Err error)) deeds goes keyed told apart leaves due cut off is =
      open_same p q (ap (λ (s : FrontState). s.desks) (goes.0).1) goes.2 (ap (λ (s : FrontState). s.on) (goes.0).1) (λ n. ap (λ (c : ClientCoreState). is_told_by c n) ((goes.0).0).1)
      (due_on p q (tells_there device (Err error)) due cut (λ n e. cc (e))) (cut_on p q (tells_there device (Err error)) due cut (λ n e. cc (e))) is
  part_open p q (sends channel sent) deeds goes keyed told apart leaves due cut off is =
      open_same p q (ap (λ (s : FrontState). s.desks) (goes.1).1) goes.3 (ap (λ (s : FrontState). s.on) (goes.1).1) (sent_told (p.front).client (q.front).client sent (goes.1).0)
      (due_on p q (sends channel sent) due cut (λ n e. cc (e))) (cut_on p q (sends channel sent) due cut (λ n e. cc (e))) is
  part_open p q (writes device c) deeds goes keyed told apart leaves due cut off is =
      open_front p q (ap (λ (s : Served). (s.front).client) goes.1) (ap (λ (s : Served). (s.front).desks) goes.1) (ap (λ (s : Served). s.stations) goes.1) (ap (λ (s : Served). (s.front).on) goes.1) (due_on p q (writes device c) due cut (λ n e. cc (e))) (cut_on p q (writes device c) due cut (λ n e. cc (e))) is
  part_open p q (unwritten device c) deeds goes keyed told apart leaves due cut off is =
      open_front p q (ap (λ (s : Served). (s.front).client) goes.1) (ap (λ (s : Served). (s.front).desks) goes.1) (ap (λ (s : Served). s.stations) goes.1) (ap (λ (s : Served). (s.front).on) goes.1) (due_on p q (unwritten device c) due cut (λ n e. cc (e))) (cut_on p q (unwritten device c) due cut (λ n e. cc (e))) is
  part_open p q (learns n answer) deeds goes keyed told apart leaves due cut off is =
      open_front p q (ap (λ (s : Served). (s.front).client) goes.1) (ap (λ (s : Served). (s.front).desks) goes.1) (ap (λ (s : Served). s.stations) goes.1) (ap (λ (s : Served). (s.front).on) goes.1) (due_on p q (learns n answer) due cut (λ k e. cc (e))) (cut_on p q (learns n answer) due cut (λ k e. cc (e))) is
  part_open p q (refreshes device) deeds goes keyed told apart leaves due cut off is =
      let still = refreshed_front p.front device in
      open_same p q (ap (λ (s : Served). (s.front).desks) goes ∙ still.0) (ap (λ (s : Served). s.stations) goes) (ap (λ (s : Served). (s.front).on) goes ∙ still.1) (λ n. ap (λ (s : Served). is_told_there s.front n) goes ∙ refreshed_told p.front device n)
      (due_on p q (refreshes device) due cut (λ n e. cc (e))) (cut_on p q (refreshes device) due cut (λ n e. cc (e))) is
  part_open p q (begins channel) deeds goes keyed told apart leaves due cut off is = begun_open p q channel goes off
  part_open p q (ends over ts) deeds goes keyed told apart leaves due cut off is = record {
    told = λ place d s here on said. absurd (let none = ap (λ (f : FrontState). f.on) goes.2 ∙ ended_on over p.front (q.front).desks in cc (on, none));
    live = λ place d s here lives. absurd (let none = each_off over (p.front).desks p.stations ts (q.front).desks q.stations goes.1 place s here.1 in cc (lives, none));
  }

-- ---- no channel is on

off_same : (p q : Served) → (q.front).desks ≡ (p.front).desks → q.stations ≡ p.stations → (q.front).on ≡ (p.front).on → AreOff p → AreOff q
off_same p q desks stations on off none place d s here =
    off (sym on ∙ none) place d s (ap (λ (ds : List DeviceDeskState). slice_get ds place) (sym desks) ∙ here.0, ap (λ (ss : List Of). slice_get ss place) (sym stations) ∙ here.1)

off_as : (p q made : Served) → q ≡ made → (made.front).desks ≡ (p.front).desks → made.stations ≡ p.stations → (made.front).on ≡ (p.front).on → AreOff p → AreOff q
off_as p q made is desks stations on off = subst AreOff (sym is) (off_same p made desks stations on off)

off_call : (p q : Served) (place id : ℕ) (does : DeskCall) (back : DeskReply) (items : List Item) (deeds : List Deed) → IsKeyed p → IsTold p deeds → CallsAt p place id does back items q → AreOff p → AreOff q
off_call p q place id does back items deeds keyed told at off none k d s here = elim (found p q place id does back items deeds keyed told at k d s here) [
  | inl (this, same, station) ↦ ap (λ (x : Of). x.live) station ∙ by does refl back at.own at.fits (at.called).step
  | inr (other, was) ↦ off before k d s was
]
  where
    before : (p.front).on ≡ false
    before = sym (ap (λ (f : FrontState). f.on) at.front_is) ∙ none

    first : (at.first).live ≡ false
    first = off before place at.before at.first (at.there, at.has)

    by : (e : DeskCall) → does ≡ e → (r : DeskReply) → IsOpenCall e → FitsCall p id e → SessionDeskStep (at.called).middle e r at.last → (at.last).live ≡ false
    by (desk.Put job) same r own fits step = (quiet_call p q place id does back items keyed at (subst IsQuietCall (sym same) tt)).live ∙ first
    by desk.Collect same r own fits step = (quiet_call p q place id does back items keyed at (subst IsQuietCall (sym same) tt)).live ∙ first
    by desk.Announce same r own fits step = absurd (let on = fits.1 in cc (on, before))
    by desk.Remove same (replied.Removed answer) own fits step = (removed_off served_runs served_parked served_cuts (at.called).middle at.last (worked p q place id does back items keyed at).reached answer step).0
    by desk.Remove same (replied.Announced answer) own fits step = absurd step.1
    by desk.Remove same (replied.Put answer) own fits step = absurd step.1
    by desk.Remove same (replied.Unfit job) own fits step = absurd step.1
    by desk.Remove same (replied.Worked w) own fits step = absurd step.1
    by desk.Remove same (replied.Collected answer) own fits step = absurd step.1
    by desk.Remove same replied.Dropped own fits step = absurd step.1
    by desk.Remove same replied.Ended own fits step = absurd step.1
    by (desk.Work runs) same r own fits step = absurd own
    by desk.DropChannel same r own fits step = absurd own
    by desk.End same r own fits step = absurd own

pub part_off : (p q : Served) (x : FrontPart) (deeds : List Deed) → PartGoes p x q → IsKeyed p → IsTold p deeds → AreOff p → AreOff q
part_off p q (hears channel m answer) deeds goes keyed told off = off_same p q (ap (λ (s : FrontState). s.desks) (goes.3).1) goes.5 (ap (λ (s : FrontState). s.on) (goes.3).1) off
part_off p q tries deeds goes keyed told off = off_as p q _ goes.4 refl refl refl off
part_off p q keeps deeds goes keyed told off = off_as p q _ goes.3 refl refl refl off
part_off p q forgets deeds goes keyed told off = off_as p q _ goes.4 refl refl refl off
part_off p q misplaces deeds goes keyed told off = off_as p q _ goes.3 refl refl refl off
part_off p q (directs st answer) deeds goes keyed told off = off_same p q (ap (λ (s : FrontState). s.desks) (goes.2).1) goes.4 (ap (λ (s : FrontState). s.on) (goes.2).1) off
part_off p q (part.calls place id does back items) deeds goes keyed told off = off_call p q place id does back items deeds keyed told goes off
part_off p q (tells_gone device answer) deeds goes keyed told off = off_same p q (ap (λ (s : FrontState). s.desks) (goes.0).1) goes.2 (ap (λ (s : FrontState). s.on) (goes.0).1) off
part_off p q (tells_there device answer) deeds goes keyed told off = off_same p q (ap (λ (s : FrontState). s.desks) (goes.0).1) goes.2 (ap (λ (s : FrontState). s.on) (goes.0).1) off
part_off p q (sends channel sent) deeds goes keyed told off = off_same p q (ap (λ (s : FrontState). s.desks) (goes.1).1) goes.3 (ap (λ (s : FrontState). s.on) (goes.1).1) off
part_off p q (writes device c) deeds goes keyed told off = off_as p q _ goes.1 refl refl refl off
part_off p q (unwritten device c) deeds goes keyed told off = off_as p q _ goes.1 refl refl refl off
part_off p q (learns n answer) deeds goes keyed told off = off_as p q _ goes.1 refl refl refl off
part_off p q (refreshes device) deeds goes keyed told off = let still = refreshed_front Never Never Never Never p.front device in off_as p q _ goes still.0 refl still.1 off
part_off p q (begins channel) deeds goes keyed told off = λ none. absurd (let on = ap (λ (s : Served). (s.front).on) goes.3 in cc (none, on))
part_off p q (ends over ts) deeds goes keyed told off = λ none place d s here. each_off over (p.front).desks p.stations ts (q.front).desks q.stations goes.1 place s here.1
