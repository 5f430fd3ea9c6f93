-- A device is cut off as one that is gone only after it was removed, once for each removal.
use Rattle.std.proofs.Common.{◌≡◌, ◌∙◌, refl, sym, ap, subst, inl, inr, ℕ, ◌==◌, ◌&&◌, ◌||◌, Bool, true, false, not, List, [], ◌∷◌, ◌++◌, map, reverse, Option, Some, None, append-nil, append_assoc, eqb-true, slice_get}
use Rattle.std.specs.Prelude.{Result, Ok, Err}
use Rattle.std.specs.List.{list_any}
use Rattle.std.proofs.lemmas.List.{map-append, reverse-append}
use Rattle.rd_base.specs.declared.journal.Cause.TheVariants.{Dropped, Removed}
use Rattle.rd_base.specs.declared.journal.Item.{Item}
use Rattle.rd_base.specs.declared.journal.Item.TheVariants.{Came, Cancelled, Cut, Ran, Sent}
use Rattle.rd_base.specs.declared.journal.Key.{Key}
use Rattle.rd_client.specs.Core.{ClientDevice, is_device}
use Rattle.rd_client.specs.declared.heard.Heard.{Heard}
use Rattle.rd_desk.specs.Desk.{told_by}
use Rattle.rd_desk.specs.declared.calls.DeskCall.{DeskCall}
use Rattle.rd_desk.specs.declared.calls.DeskCall.TheVariants as desk
use Rattle.rd_desk.specs.declared.calls.DeskReply.{DeskReply}
use Rattle.rd_desk.specs.declared.calls.DeskReply.TheVariants as replied
use Rattle.rd_devices.specs.declared.list.Announce.{Announce}
use Rattle.rd_drive.specs.declared.plan.Job.{Job}
use Rattle.rd_front.specs.Front.{end_call}
use Rattle.rd_front.specs.State.{DeviceDeskState, FrontState, SessionDeskStep, SessionStation}
use Rattle.rd_front.specs.declared.calls.FrontCall.{FrontCall}
use Rattle.rd_front.specs.declared.calls.FrontReply.{FrontReply}
use Rattle.rd_hello.specs.declared.end_fault.EndFault.{EndFault}
use Rattle.rd_hello.specs.declared.end_fault.EndFault.TheVariants as fault
use Rattle.rd_station.specs.Station as station
use Rattle.rd_turn.specs.declared.object.Entry.{Entry}
use Rattle.rd_deeds.specs.Talk.{Deed, EachAfter, Has, client_reads, is_removed, stores}
use Rattle.rd_served_order.proofs.ServedCauseLemmas.{found}
use Rattle.rd_served_order.proofs.ServedStandingLemmas.{IsKnownAt, begins_known, part_known}
use Rattle.rd_served_order.specs.ServedDeeds.{deeds_after, deeds_of, deeds_of_calls, sent_by, stored, stored_each}
use Rattle.rd_served_order.specs.ServedHistories.{HistoryGoes}
use Rattle.rd_served_order.specs.ServedParts.{CallsAt, EndsEach, FitsCall, FrontPart, IsOpenCall, PartGoes, PartsGo, begins, calls, directs, ends, forgets, hears, is_present_as, keeps, learns, misplaces, refreshes, sends, tells_gone, tells_there, tries, unwritten, writes}
use Rattle.rd_served_order.specs.ServedServed.{Served}
use Rattle.rd_served_order.proofs.OwnLemmas.{IsOwn, MarksAre, begins_own, part_own, stored_keeps}
use Rattle.rd_served_order.specs.Orders.{BeginsWith}
use Rattle.rd_served_replies.proofs.GoneLemmas.{none_removed}
use Rattle.rd_served_replies.proofs.MildLemmas.{AreNoRemovals, StoresMild, called_mild, cancel, steps_mild, work_no_removals}
use Rattle.rd_served_causes.proofs.DeskLemmas.{removed_off}
use Rattle.rd_served_causes.proofs.OpenLemmas.{IsQuietCall, each_off, quiet_call, worked}
use Rattle.rd_served_causes.proofs.StepLemmas.{refreshed_front}
use Rattle.rd_served_causes.specs.Cuts.{CutsRemoved, is_to_cut}
use Rattle.rd_served_causes.specs.Open.{IsDeskAt, Never}
use Rattle.rd_served_order.specs.ServedDevices.{ServedDeviceState, served_cuts, served_parked, served_runs}

abbrev Of : Type 0
Of = SessionStation

-- ---- what is stored

-- an entry that isn't such a cut
abbrev IsMild : Item → Type 0
IsMild x = Cut Removed ≡ x → ⊥

mild_kept : (device d : ℕ) (x : Item) (deeds : List Deed) → IsMild x → is_to_cut device (stores d x ∷ deeds) ≡ is_to_cut device deeds
mild_kept device d (Came key) deeds mild = refl
mild_kept device d (Ran key moment starved parked) deeds mild = refl
mild_kept device d (Cancelled key) deeds mild = refl
mild_kept device d (Sent key) deeds mild = refl
mild_kept device d (Cut Dropped) deeds mild = refl
mild_kept device d (Cut Removed) deeds mild = absurd (mild refl)

mild_fits : (d : ℕ) (x : Item) (deeds : List Deed) → IsMild x → CutsRemoved deeds (stores d x)
mild_fits d (Came key) deeds mild = tt
mild_fits d (Ran key moment starved parked) deeds mild = tt
mild_fits d (Cancelled key) deeds mild = tt
mild_fits d (Sent key) deeds mild = tt
mild_fits d (Cut Dropped) deeds mild = tt
mild_fits d (Cut Removed) deeds mild = absurd (mild refl)

other_kept : (device d : ℕ) (x : Item) (deeds : List Deed) → (d == device) ≡ false → is_to_cut device (stores d x ∷ deeds) ≡ is_to_cut device deeds
other_kept device d (Came key) deeds other = refl
other_kept device d (Ran key moment starved parked) deeds other = refl
other_kept device d (Cancelled key) deeds other = refl
other_kept device d (Sent key) deeds other = refl
other_kept device d (Cut Dropped) deeds other = refl
other_kept device d (Cut Removed) deeds other = ap (λ (b : Bool). not b && is_to_cut device deeds) other

others_kept : (device d : ℕ) (items : List Item) (deeds : List Deed) → (d == device) ≡ false → is_to_cut device (map (stores d) items ++ deeds) ≡ is_to_cut device deeds
others_kept device d [] deeds other = refl
others_kept device d (x ∷ items) deeds other = other_kept device d x (map (stores d) items ++ deeds) other ∙ others_kept device d items deeds other

-- the oldest entry is stored first
stored_first : (d : ℕ) (x : Item) (items : List Item) (deeds : List Deed) → stored d (x ∷ items) ++ deeds ≡ stored d items ++ stores d x ∷ deeds
stored_first d x items deeds =
    ap (λ (l : List Item). map (stores d) l ++ deeds) (reverse-append (x ∷ []) items) ∙ ap (λ (l : List Deed). l ++ deeds) (map-append (stores d) (reverse items) (x ∷ [])) ∙ append_assoc (map (stores d) (reverse items)) (stores d x ∷ []) deeds

-- entries, the oldest first, each of which fits
abbrev AreFit : ℕ → List Item → List Deed → Type 0
AreFit d [] deeds = Unit {0}
AreFit d (x ∷ items) deeds = CutsRemoved deeds (stores d x) × AreFit d items (stores d x ∷ deeds)

each_fit : (d : ℕ) (items : List Item) (deeds : List Deed) → AreFit d items deeds → EachAfter CutsRemoved deeds → EachAfter CutsRemoved (stored d items ++ deeds)
each_fit d [] deeds fit each = each
each_fit d (x ∷ items) deeds fit each = subst (EachAfter CutsRemoved) (sym (stored_first d x items deeds)) (each_fit d items (stores d x ∷ deeds) fit.1 (fit.0, each))

mild_fit : (d : ℕ) (items : List Item) (deeds : List Deed) → (Has (Cut Removed) items → ⊥) → AreFit d items deeds
mild_fit d [] deeds mild = tt
mild_fit d (x ∷ items) deeds mild = (mild_fits d x deeds (λ same. mild (inl same)), mild_fit d items (stores d x ∷ deeds) (λ has. mild (inr has)))

mild_all : (device d : ℕ) (items : List Item) (deeds : List Deed) → (Has (Cut Removed) items → ⊥) → is_to_cut device (stored d items ++ deeds) ≡ is_to_cut device deeds
mild_all device d [] deeds mild = refl
mild_all device d (x ∷ items) deeds mild =
    ap (is_to_cut device) (stored_first d x items deeds) ∙ mild_all device d items (stores d x ∷ deeds) (λ has. mild (inr has)) ∙ mild_kept device d x deeds (λ same. mild (inl same))

-- mild entries, and then others that fit where the device is to be cut off
then_fit : (d : ℕ) (items others : List Item) (deeds : List Deed) → (Has (Cut Removed) items → ⊥) → is_to_cut d deeds ≡ true → ((more : List Deed) → is_to_cut d more ≡ true → AreFit d others more) → AreFit d (items ++ others) deeds
then_fit d [] others deeds mild due fit = fit deeds due
then_fit d (x ∷ items) others deeds mild due fit =
    (mild_fits d x deeds (λ same. mild (inl same)), then_fit d items others (stores d x ∷ deeds) (λ has. mild (inr has)) (mild_kept d d x deeds (λ same. mild (inl same)) ∙ due) fit)

-- ---- marks

-- a device that is marked as gone was removed
gone_removed : (device : ℕ) (deeds : List Deed) (ds : List ClientDevice) → MarksAre deeds ds → list_any (λ (x : ClientDevice). is_device device x && x.removed) ds ≡ true → is_removed device deeds ≡ true
gone_removed device deeds [] marks is = absurd (cc (is))
gone_removed device deeds (x ∷ ds) marks is = by (gone_removed device deeds ds marks.1) (is_device device x) refl x.removed refl is
  where
    by : (list_any (λ (y : ClientDevice). is_device device y && y.removed) ds ≡ true → is_removed device deeds ≡ true) → (b : Bool) → is_device device x ≡ b → (r : Bool) → x.removed ≡ r
        → ((b && r) || list_any (λ (y : ClientDevice). is_device device y && y.removed) ds) ≡ true → is_removed device deeds ≡ true
    by others true e true f some = subst (λ (n : ℕ). is_removed n deeds ≡ true) (eqb-true (x.announce).id device e) (sym marks.0 ∙ f)
    by others true e false f some = others some
    by others false e r f some = others some

-- one that is there wasn't
present_kept : (device : ℕ) (deeds : List Deed) (ds : List ClientDevice) → MarksAre deeds ds → list_any (is_present_as device) ds ≡ true → is_removed device deeds ≡ false
present_kept device deeds [] marks is = absurd (cc (is))
present_kept device deeds (x ∷ ds) marks is = by (present_kept device deeds ds marks.1) (is_device device x) refl x.removed refl is
  where
    by : (list_any (is_present_as device) ds ≡ true → is_removed device deeds ≡ false) → (b : Bool) → is_device device x ≡ b → (r : Bool) → x.removed ≡ r → ((b && not r) || list_any (is_present_as device) ds) ≡ true → is_removed device deeds ≡ false
    by others true e false f some = subst (λ (n : ℕ). is_removed n deeds ≡ false) (eqb-true (x.announce).id device e) (sym marks.0 ∙ f)
    by others true e true f some = others some
    by others false e r f some = others some

-- ---- what is known

-- A device that was removed and whose station is live is still to be cut off; and each that was cut off was to be.
pub record AreCut (p : Served) (deeds : List Deed) : Type 0 where
  pub live : (place : ℕ) (d : DeviceDeskState) (s : Of) → IsDeskAt p place d s → s.live ≡ true → is_removed d.id deeds ≡ true → is_to_cut d.id deeds ≡ true
  pub each : EachAfter CutsRemoved deeds

-- stations are the same, and nothing was stored, removed or added
cut_same : (p q : Served) (deeds more : List Deed) → (q.front).desks ≡ (p.front).desks → q.stations ≡ p.stations → ((n : ℕ) → is_removed n more ≡ is_removed n deeds) → ((n : ℕ) → is_to_cut n more ≡ is_to_cut n deeds) → EachAfter CutsRemoved more → AreCut p deeds → AreCut q more
cut_same p q deeds more desks stations removed due each is = record {
  live = λ place d s here lives gone.
      due d.id ∙ is.live place d s (ap (λ (ds : List DeviceDeskState). slice_get ds place) (sym desks) ∙ here.0, ap (λ (ss : List Of). slice_get ss place) (sym stations) ∙ here.1) lives (sym (removed d.id) ∙ gone);
  each = each;
}

cut_idle : (p q : Served) (deeds : List Deed) → (q.front).desks ≡ (p.front).desks → q.stations ≡ p.stations → AreCut p deeds → AreCut q deeds
cut_idle p q deeds desks stations is = cut_same p q deeds deeds desks stations (λ n. refl) (λ n. refl) is.each is

-- ---- what a removal stores, and what the end of a channel does

cut_journal : (s : Of) (cut : ServedDeviceState) → s.live ≡ true → ((station.remove s cut).0).journal ≡ s.journal ++ Cut Removed ∷ map (λ (job : Job). Cancelled job.key) s.waiting
cut_journal s cut lives = ap (λ (b : Bool). ((station.remove (record s { live = b }) cut).0).journal) lives

kept_journal : (s : Of) (cut : ServedDeviceState) → s.live ≡ false → ((station.remove s cut).0).journal ≡ s.journal
kept_journal s cut off = ap (λ (b : Bool). ((station.remove (record s { live = b }) cut).0).journal) off

end_mild : (over : Bool) (back : DeskReply) (middle last : Of) → SessionDeskStep middle (end_call over) back last → AreNoRemovals (told_by (end_call over) back)
end_mild true replied.Ended middle last step = (tt, tt)
end_mild true (replied.Announced answer) middle last step = absurd step.1
end_mild true (replied.Put answer) middle last step = absurd step.1
end_mild true (replied.Unfit job) middle last step = absurd step.1
end_mild true (replied.Worked w) middle last step = absurd step.1
end_mild true (replied.Collected answer) middle last step = absurd step.1
end_mild true (replied.Removed answer) middle last step = absurd step.1
end_mild true replied.Dropped middle last step = absurd step.1
end_mild false replied.Dropped middle last step = (tt, tt)
end_mild false (replied.Announced answer) middle last step = absurd step.1
end_mild false (replied.Put answer) middle last step = absurd step.1
end_mild false (replied.Unfit job) middle last step = absurd step.1
end_mild false (replied.Worked w) middle last step = absurd step.1
end_mild false (replied.Collected answer) middle last step = absurd step.1
end_mild false (replied.Removed answer) middle last step = absurd step.1
end_mild false replied.Ended middle last step = absurd step.1

-- ---- a desk is called

module _ (devices : List Announce) (p q : Served) (place id : ℕ) (does : DeskCall) (back : DeskReply) (items : List Item) (deeds : List Deed) (known : IsKnownAt p deeds) (own : IsOwn devices p deeds) (at : CallsAt p place id does back items q) (is : AreCut p deeds) where
  removed_then : (n : ℕ) → is_removed n (stored id items ++ deeds) ≡ is_removed n deeds
  removed_then n = stored_keeps (is_removed n) (λ e x more. refl) id (reverse items) deeds

  -- the station before the call
  first_due : (at.first).live ≡ true → is_removed id deeds ≡ true → is_to_cut id deeds ≡ true
  first_due lives gone = subst (λ (n : ℕ). is_to_cut n deeds ≡ true) at.id_is (is.live place at.before at.first (at.there, at.has) lives (subst (λ (n : ℕ). is_removed n deeds ≡ true) (sym at.id_is) gone))

  mild : (does ≡ desk.Remove → ⊥) → Has (Cut Removed) items → ⊥
  mild other = called_mild at.before at.after at.first at.last does back items at.called (none_removed (at.called).middle at.last does back at.own other (at.called).step)

  quiet_due : IsQuietCall does → (does ≡ desk.Remove → ⊥) → (at.last).live ≡ true → is_removed id deeds ≡ true → is_to_cut id (stored id items ++ deeds) ≡ true
  quiet_due quiet other lives gone = mild_all id id items deeds (mild other) ∙ first_due (sym (quiet_call p q place id does back items known.keyed at quiet).live ∙ lives) gone

  own_due : (at.last).live ≡ true → is_removed id deeds ≡ true → is_to_cut id (stored id items ++ deeds) ≡ true
  own_due lives gone = by does refl back at.own at.fits (at.called).step
    where
      by : (e : DeskCall) → does ≡ e → (r : DeskReply) → IsOpenCall e → FitsCall p id e → SessionDeskStep (at.called).middle e r at.last → is_to_cut id (stored id items ++ deeds) ≡ true
      by (desk.Put job) same r within fits step = quiet_due (subst IsQuietCall (sym same) tt) (λ e. let no : desk.Put job ≡ desk.Remove = sym same ∙ e in cc (no)) lives gone
      by desk.Collect same r within fits step = quiet_due (subst IsQuietCall (sym same) tt) (λ e. let no : desk.Collect ≡ desk.Remove = sym same ∙ e in cc (no)) lives gone
      by desk.Announce same r within fits step = absurd (let kept = present_kept id deeds ((p.front).client).devices (own.fine).marks fits.3 in cc (gone, kept))
      by desk.Remove same (replied.Removed answer) within fits step = absurd (let off = (removed_off served_runs served_parked served_cuts (at.called).middle at.last (worked p q place id does back items known.keyed at).reached answer step).0 in cc (lives, off))
      by desk.Remove same (replied.Announced answer) within fits step = absurd step.1
      by desk.Remove same (replied.Put answer) within fits step = absurd step.1
      by desk.Remove same (replied.Unfit job) within fits step = absurd step.1
      by desk.Remove same (replied.Worked w) within fits step = absurd step.1
      by desk.Remove same (replied.Collected answer) within fits step = absurd step.1
      by desk.Remove same replied.Dropped within fits step = absurd step.1
      by desk.Remove same replied.Ended within fits step = absurd step.1
      by (desk.Work runs) same r within fits step = absurd within
      by desk.DropChannel same r within fits step = absurd within
      by desk.End same r within fits step = absurd within

  -- what a removal stores
  removal_fit : (answer : Bool) → is_removed id deeds ≡ true → SessionDeskStep (at.called).middle desk.Remove (replied.Removed answer) at.last → AreFit id items deeds
  removal_fit answer gone step = by ((at.called).middle).live refl ((step.0).1).1
    where
      work : StoresMild at.first (at.called).middle
      work = steps_mild (at.called).works.calls at.first (at.called).middle (work_no_removals (at.called).works.calls (at.called).works.work) (at.called).works.steps

      last_is : at.last ≡ (step.0).0
      last_is = (step.0).2

      items_are : (own_items : List Item) → (at.last).journal ≡ ((at.called).middle).journal ++ own_items → items ≡ work.more ++ own_items
      items_are own_items longer =
          cancel (at.first).journal items (work.more ++ own_items) (sym (at.called).stored ∙ longer ∙ ap (λ (j : List Item). j ++ own_items) work.longer ∙ append_assoc (at.first).journal work.more own_items)

      live_first : ((at.called).middle).live ≡ true → (at.first).live ≡ true
      live_first lives = sym (worked p q place id does back items known.keyed at).live ∙ lives

      -- the device is cut off, and then its waiting jobs are cancelled
      cancels : List Item
      cancels = map (λ (job : Job). Cancelled job.key) ((at.called).middle).waiting

      cancels_mild : (jobs : List Job) → Has (Cut Removed) (map (λ (job : Job). Cancelled job.key) jobs) → ⊥
      cancels_mild [] none = none
      cancels_mild (job ∷ jobs) (inl same) = cc (same)
      cancels_mild (job ∷ jobs) (inr later) = cancels_mild jobs later

      by : (b : Bool) → ((at.called).middle).live ≡ b → station.remove (at.called).middle ((step.0).1).0 ≡ ((step.0).0, answer) → AreFit id items deeds
      by true lives e =
          let longer : (at.last).journal ≡ ((at.called).middle).journal ++ Cut Removed ∷ cancels = ap (λ (s : Of). s.journal) last_is ∙ sym (ap (λ (r : Of × Bool). (r.0).journal) e) ∙ cut_journal (at.called).middle ((step.0).1).0 lives in
          subst (λ (xs : List Item). AreFit id xs deeds) (sym (items_are (Cut Removed ∷ cancels) longer))
          (then_fit id work.more (Cut Removed ∷ cancels) deeds work.mild (first_due (live_first lives) gone) (λ more due. (due, mild_fit id cancels (stores id (Cut Removed) ∷ more) (cancels_mild ((at.called).middle).waiting))))
      by false off e =
          let longer : (at.last).journal ≡ ((at.called).middle).journal ++ [] = ap (λ (s : Of). s.journal) last_is ∙ sym (ap (λ (r : Of × Bool). (r.0).journal) e) ∙ kept_journal (at.called).middle ((step.0).1).0 off ∙ sym (append-nil ((at.called).middle).journal) in
          mild_fit id items deeds (λ has. work.mild (subst (Has (Cut Removed)) (items_are [] longer ∙ append-nil work.more) has))

  own_fit : AreFit id items deeds
  own_fit = by does refl back at.own at.fits (at.called).step
    where
      other : (e : DeskCall) → does ≡ e → (e ≡ desk.Remove → ⊥) → AreFit id items deeds
      other e same not = mild_fit id items deeds (mild (λ is. not (sym same ∙ is)))

      by : (e : DeskCall) → does ≡ e → (r : DeskReply) → IsOpenCall e → FitsCall p id e → SessionDeskStep (at.called).middle e r at.last → AreFit id items deeds
      by (desk.Put job) same r within fits step = other (desk.Put job) same (λ e. cc (e))
      by desk.Collect same r within fits step = other desk.Collect same (λ e. cc (e))
      by desk.Announce same r within fits step = other desk.Announce same (λ e. cc (e))
      by desk.Remove same (replied.Removed answer) within fits step = removal_fit answer (gone_removed id deeds ((p.front).client).devices (own.fine).marks fits.3) step
      by desk.Remove same (replied.Announced answer) within fits step = absurd step.1
      by desk.Remove same (replied.Put answer) within fits step = absurd step.1
      by desk.Remove same (replied.Unfit job) within fits step = absurd step.1
      by desk.Remove same (replied.Worked w) within fits step = absurd step.1
      by desk.Remove same (replied.Collected answer) within fits step = absurd step.1
      by desk.Remove same replied.Dropped within fits step = absurd step.1
      by desk.Remove same replied.Ended within fits step = absurd step.1
      by (desk.Work runs) same r within fits step = absurd within
      by desk.DropChannel same r within fits step = absurd within
      by desk.End same r within fits step = absurd within

  pub calls_cut : AreCut q (stored id items ++ deeds)
  calls_cut = record {
    live = λ pl d s here lives gone.
        let was : is_removed d.id deeds ≡ true = sym (removed_then d.id) ∙ gone in
        elim (found p q place id does back items deeds known.keyed known.told at pl d s here) [
          | inl (this, same, last) ↦
              subst (λ (n : ℕ). is_to_cut n (stored id items ++ deeds) ≡ true) (sym same) (own_due (sym (ap (λ (x : Of). x.live) last) ∙ lives) (subst (λ (n : ℕ). is_removed n deeds ≡ true) same was))
          | inr (other, before) ↦ others_kept d.id id (reverse items) deeds other ∙ is.live pl d s before lives was
        ];
    each = each_fit id items deeds own_fit is.each;
  }

-- ---- each part

each_stored : (over : Bool) (ds : List DeviceDeskState) (ss : List Of) (ts : List (ℕ × List Item)) (es : List DeviceDeskState) (us : List Of) (deeds : List Deed) → EndsEach over ds ss ts es us → EachAfter CutsRemoved deeds → EachAfter CutsRemoved (stored_each ts ++ deeds)
each_stored over [] [] [] [] [] deeds ended each = each
each_stored over (d ∷ ds) (s ∷ ss) (t ∷ ts) (e ∷ es) (u ∷ us) deeds ended each =
    subst (EachAfter CutsRemoved) (sym (append_assoc (stored_each ts) (stored t.0 t.1) deeds))
    (each_stored over ds ss ts es us (stored t.0 t.1 ++ deeds) ended.3 (each_fit t.0 t.1 deeds (mild_fit t.0 t.1 deeds (called_mild d e s u (end_call over) ended.0 t.1 ended.2 (end_mild over ended.0 (ended.2).middle u (ended.2).step))) each))
each_stored over ds ss ts es us deeds ended each = absurd ended

module _ (devices : List Announce) where
  part_cut : (p q : Served) (x : FrontPart) (deeds : List Deed) → PartGoes p x q → IsKnownAt p deeds → IsOwn devices p deeds → AreCut p deeds → AreCut q (deeds_of x ++ deeds)
  part_cut p q (hears channel m answer) deeds goes known own is = by answer
    where
      read : AreCut q (client_reads channel m ∷ deeds)
      read = cut_same p q deeds (client_reads channel m ∷ deeds) (ap (λ (s : FrontState). s.desks) (goes.3).1) goes.5 (λ n. refl) (λ n. refl) (tt, is.each) is

      by : (a : Result Heard EndFault) → AreCut q (deeds_of (hears channel m a) ++ deeds)
      by (Err fault.Memory) = cut_idle p q deeds (ap (λ (s : FrontState). s.desks) (goes.3).1) goes.5 is
      by (Err (fault.Order state packet)) = read
      by (Err (fault.Grammar bad)) = read
      by (Ok h) = read
  part_cut p q tries deeds goes known own is = subst (λ (v : Served). AreCut v deeds) (sym goes.4) (cut_idle p _ deeds refl refl is)
  part_cut p q keeps deeds goes known own is = subst (λ (v : Served). AreCut v deeds) (sym goes.3) (cut_idle p _ deeds refl refl is)
  part_cut p q forgets deeds goes known own is = subst (λ (v : Served). AreCut v deeds) (sym goes.4) (cut_idle p _ deeds refl refl is)
  part_cut p q misplaces deeds goes known own is = subst (λ (v : Served). AreCut v deeds) (sym goes.3) (cut_idle p _ deeds refl refl is)
  part_cut p q (directs st answer) deeds goes known own is = cut_idle p q deeds (ap (λ (s : FrontState). s.desks) (goes.2).1) goes.4 is
  part_cut p q (calls place id does back items) deeds goes known own is = calls_cut devices p q place id does back items deeds known own goes is
  part_cut p q (tells_gone device (Ok done)) deeds goes known own is = record {
    live = λ place d s here lives gone. by d.id (device == d.id) gone (is.live place d s (ap (λ (f : FrontState). slice_get f.desks place) (sym (goes.0).1) ∙ here.0, ap (λ (ss : List Of). slice_get ss place) (sym goes.2) ∙ here.1) lives);
    each = (tt, is.each);
  }
    where
      by : (n : ℕ) (b : Bool) → (b || is_removed n deeds) ≡ true → (is_removed n deeds ≡ true → is_to_cut n deeds ≡ true) → (b || is_to_cut n deeds) ≡ true
      by n true gone due = refl
      by n false gone due = due gone
  part_cut p q (tells_gone device (Err error)) deeds goes known own is = cut_idle p q deeds (ap (λ (s : FrontState). s.desks) (goes.0).1) goes.2 is
  part_cut p q (tells_there device (Ok done)) deeds goes known own is = record {
    live = λ place d s here lives gone. by d.id (device == d.id) gone (is.live place d s (ap (λ (f : FrontState). slice_get f.desks place) (sym (goes.0).1) ∙ here.0, ap (λ (ss : List Of). slice_get ss place) (sym goes.2) ∙ here.1) lives);
    each = (tt, is.each);
  }
    where
      by : (n : ℕ) (b : Bool) → (not b && is_removed n deeds) ≡ true → (is_removed n deeds ≡ true → is_to_cut n deeds ≡ true) → (not b && is_to_cut n deeds) ≡ true
      by n true gone due = gone
      by n false gone due = due gone
  part_cut p q (tells_there device (Err error)) deeds goes known own is = cut_idle p q deeds (ap (λ (s : FrontState). s.desks) (goes.0).1) goes.2 is
  part_cut p q (sends channel None) deeds goes known own is = cut_idle p q deeds (ap (λ (s : FrontState). s.desks) (goes.1).1) goes.3 is
  part_cut p q (sends channel (Some o)) deeds goes known own is = by o.answers
    where
      by : (a : Option Key) → AreCut q (sent_by channel o.message a ++ deeds)
      by None = cut_same p q deeds (sent_by channel o.message None ++ deeds) (ap (λ (s : FrontState). s.desks) (goes.1).1) goes.3 (λ n. refl) (λ n. refl) (tt, is.each) is
      by (Some key) = cut_same p q deeds (sent_by channel o.message (Some key) ++ deeds) (ap (λ (s : FrontState). s.desks) (goes.1).1) goes.3 (λ n. refl) (λ n. refl) (tt, is.each) is
  part_cut p q (writes device c) deeds goes known own is =
      cut_same p q deeds (deeds_of (writes device c) ++ deeds) (ap (λ (v : Served). (v.front).desks) goes.1) (ap (λ (v : Served). v.stations) goes.1) (λ n. refl) (λ n. refl) (tt, is.each) is
  part_cut p q (unwritten device c) deeds goes known own is = subst (λ (v : Served). AreCut v deeds) (sym goes.1) (cut_idle p _ deeds refl refl is)
  part_cut p q (learns n answer) deeds goes known own is = subst (λ (v : Served). AreCut v deeds) (sym goes.1) (cut_idle p _ deeds refl refl is)
  part_cut p q (refreshes device) deeds goes known own is =
      let still = refreshed_front Never Never Never Never p.front device in cut_idle p q deeds (ap (λ (v : Served). (v.front).desks) goes ∙ still.0) (ap (λ (v : Served). v.stations) goes) is
  part_cut p q (begins channel) deeds goes known own is = subst (λ (v : Served). AreCut v deeds) (sym goes.3) (cut_idle p _ deeds refl refl is)
  part_cut p q (ends over ts) deeds goes known own is = record {
    live = λ place d s here lives gone. absurd (let off = each_off over (p.front).desks p.stations ts (q.front).desks q.stations goes.1 place s here.1 in cc (lives, off));
    each = each_stored over (p.front).desks p.stations ts (q.front).desks q.stations deeds goes.1 is.each;
  }

  -- what is known with it
  record IsHere (p : Served) (deeds : List Deed) : Type 0 where
    known : IsKnownAt p deeds
    own : IsOwn devices p deeds
    cut : AreCut p deeds

  part_here : (p q : Served) (x : FrontPart) (deeds : List Deed) → PartGoes p x q → IsHere p deeds → IsHere q (deeds_of x ++ deeds)
  part_here p q x deeds goes is = record { known = part_known p q x deeds goes is.known; own = part_own devices p q x deeds goes (is.known).keyed is.own; cut = part_cut p q x deeds goes is.known is.own is.cut }

  parts_here : (ps : List FrontPart) (p q : Served) (deeds : List Deed) → PartsGo p ps q → IsHere p deeds → IsHere q (deeds_after ps deeds)
  parts_here [] p q deeds goes is = subst (λ (v : Served). IsHere v deeds) (sym goes) is
  parts_here (x ∷ ps) p q deeds goes is = parts_here ps goes.0 q (deeds_of x ++ deeds) goes.2 (part_here p goes.0 x deeds goes.1 is)

  history_cut : (entries : List (Entry FrontCall FrontReply)) (parts : List (List FrontPart)) (p q : Served) (deeds : List Deed) → HistoryGoes p entries parts q → IsHere p deeds → IsHere q (deeds_of_calls parts deeds)
  history_cut [] [] p q deeds goes is = subst (λ (v : Served). IsHere v deeds) (sym goes) is
  history_cut [] (ps ∷ parts) p q deeds goes is = absurd goes
  history_cut (e ∷ entries) [] p q deeds goes is = absurd goes
  history_cut (e ∷ entries) (ps ∷ parts) p q deeds goes is = history_cut entries parts goes.0 q (deeds_after ps deeds) goes.2 (parts_here ps p goes.0 deeds (goes.1).goes is)

  pub all_cut : (old new : Served) (entries : List (Entry FrontCall FrontReply)) (parts : List (List FrontPart)) → BeginsWith devices old → HistoryGoes old entries parts new → EachAfter CutsRemoved (deeds_of_calls parts [])
  all_cut old new entries parts opening goes =
      let is = opening.new in
      ((history_cut entries parts old new [] goes (record {
        known = begins_known old is.new is.apart is.stationed is.idle_is;
        own = begins_own devices old opening;
        cut = record { live = λ place d s here lives gone. gone; each = tt };
      })).cut).each
