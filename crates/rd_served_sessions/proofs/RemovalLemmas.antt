-- A device is cut off as one that is gone only by the call that removes it.
use Rattle.std.proofs.Common.{◌≡◌, ◌⊎◌, ◌∙◌, refl, sym, ap, subst, inl, inr, ℕ, Bool, true, false, List, [], ◌∷◌, ◌++◌, Option, Some, None, append_assoc, append-nil}
use Rattle.std.specs.Prelude.{Ok, Err, filter_map}
use Rattle.std.specs.List.{cons_option}
use Rattle.rd_base.specs.declared.journal.Cause.TheVariants.{Removed}
use Rattle.rd_base.specs.declared.journal.Item.{Item}
use Rattle.rd_base.specs.declared.journal.Item.TheVariants.{Cut}
use Rattle.rd_desk.specs.Desk.{told_by}
use Rattle.rd_desk.specs.declared.calls.DeskCall.{DeskCall}
use Rattle.rd_desk.specs.declared.calls.DeskCall.TheVariants as desk
use Rattle.rd_desk.specs.declared.calls.DeskReply.{DeskReply}
use Rattle.rd_desk.specs.declared.calls.DeskReply.TheVariants as replied
use Rattle.rd_devices.specs.declared.list.Announce.{Announce}
use Rattle.rd_front.specs.Calls.{hinders}
use Rattle.rd_front.specs.Front.{end_call, is_told_there}
use Rattle.rd_front.specs.State.{DeviceDeskState, SessionDeskStep, SessionStation}
use Rattle.rd_front.specs.declared.calls.FrontCall.{FrontCall}
use Rattle.rd_front.specs.declared.calls.FrontCall.TheVariants as call
use Rattle.rd_front.specs.declared.calls.FrontReply.{FrontReply}
use Rattle.rd_front.specs.declared.calls.FrontReply.TheVariants as reply
use Rattle.rd_station.specs.Station as station
use Rattle.rd_world.specs.Control.{Act, added, removed}
use Rattle.rd_deeds.specs.Talk.{Deed, Has, stores}
use Rattle.rd_served_causes.proofs.ServedKeyLemmas.{IsKeyed}
use Rattle.rd_served_causes.proofs.ServedStandingLemmas.{IsKnownAt, part_known}
use Rattle.rd_served_causes.specs.ServedDeeds.{deeds_after, deeds_of}
use Rattle.rd_served_causes.specs.ServedHistories.{Among, AreFollowed}
use Rattle.rd_served_causes.specs.ServedParts.{CallsAt, FitsCall, FrontPart, PartGoes, PartsGo, act_told, begins, cut_by, directs, ends, forgets, hears, keeps, learns, misplaces, refreshes, sends, tells_gone, tells_there, tries, unwritten, writes}
use Rattle.rd_served_causes.specs.ServedParts as part
use Rattle.rd_served_causes.specs.ServedServed.{CallsDesk, Served}
use Rattle.rd_served_causes.proofs.ServedOrderOwnLemmas.{IsOwn, part_own}
use Rattle.rd_served_causes.proofs.ServedRepliesGoneLemmas.{is_remove, none_removed}
use Rattle.rd_served_causes.proofs.ServedRepliesMildLemmas.{AreNoRemovals, StoresMild, called_mild, cancel, steps_mild, work_no_removals}
use Rattle.rd_served_causes.proofs.OpenLemmas.{worked}
use Rattle.rd_served_causes.proofs.PlaceLemmas.{ids_of, none_by, part_ids}
use Rattle.rd_served_causes.proofs.StepLemmas.{AreApartIn, LeavesDue, part_off, part_open}
use Rattle.rd_served_causes.specs.Open.{AreOff, IsOpenBut, Never}
use Rattle.rd_served_sessions.proofs.StoredLemmas.{StoresIn, ends_lack, has_split, part_stores}
use Rattle.rd_served_sessions.specs.Acts.{act_done}
use Rattle.rd_served_causes.specs.ServedDevices.{ServedDeviceState}

abbrev Of : Type 0
Of = SessionStation

-- ---- what a call does to devices

no_more : (a : Act) (pre rest : List Act) → [] ≡ pre ++ a ∷ rest → ⊥
no_more a [] rest is = cc (is)
no_more a (y ∷ pre) rest is = cc (is)

single_in : (b a : Act) (pre rest : List Act) → b ∷ [] ≡ pre ++ a ∷ rest → b ≡ a
single_in b a [] rest is = cc (is)
single_in b a (y ∷ pre) rest is = absurd (no_more a pre rest (let later : [] ≡ pre ++ a ∷ rest = cc (is) in later))

-- one thing at the most, and then its reply doesn't hinder
abbrev IsOneAct : List Act → FrontReply → Type 0
IsOneAct acts back = (acts ≡ []) ⊎ ((b : Act) × (acts ≡ b ∷ []) × (hinders back ≡ false))

one_act : (does : FrontCall) (back : FrontReply) → IsOneAct (act_done does back) back
one_act (call.Remove device) (reply.Done at full) = inr (removed device, refl, refl)
one_act (call.Remove device) (reply.Stands ready asked) = inl refl
one_act (call.Remove device) reply.Kept = inl refl
one_act (call.Remove device) (reply.Wrong cause) = inl refl
one_act (call.Remove device) (reply.Duplicate key) = inl refl
one_act (call.Remove device) reply.Unfit = inl refl
one_act (call.Remove device) reply.Memory = inl refl
one_act (call.Remove device) reply.Full = inl refl
one_act (call.Remove device) reply.Refused = inl refl
one_act (call.Remove device) (reply.Messages filled left) = inl refl
one_act (call.Add device) (reply.Done at full) = inr (added device, refl, refl)
one_act (call.Add device) (reply.Stands ready asked) = inl refl
one_act (call.Add device) reply.Kept = inl refl
one_act (call.Add device) (reply.Wrong cause) = inl refl
one_act (call.Add device) (reply.Duplicate key) = inl refl
one_act (call.Add device) reply.Unfit = inl refl
one_act (call.Add device) reply.Memory = inl refl
one_act (call.Add device) reply.Full = inl refl
one_act (call.Add device) reply.Refused = inl refl
one_act (call.Add device) (reply.Messages filled left) = inl refl
one_act (call.Begin channel) back = inl refl
one_act (call.Hear message) back = inl refl
one_act call.Retry back = inl refl
one_act (call.Next channel place room) back = inl refl
one_act call.Look back = inl refl
one_act call.EndChannel back = inl refl
one_act call.EndSession back = inl refl

act_single : (does : FrontCall) (back : FrontReply) (a : Act) (pre rest : List Act) → act_done does back ≡ pre ++ a ∷ rest → (act_done does back ≡ a ∷ []) × (hinders back ≡ false)
act_single does back a pre rest is = elim (one_act does back) [
  | inl none ↦ absurd (no_more a pre rest (sym none ∙ is))
  | inr (b, one, plain) ↦ (one ∙ ap (λ (x : Act). x ∷ []) (single_in b a pre rest (sym one ∙ is)), plain)
]

-- ---- a desk cuts its device off

cut_journal : (s : Of) (cut : ServedDeviceState) → s.live ≡ false → ((station.remove s cut).0).journal ≡ s.journal
cut_journal s cut off = ap (λ (b : Bool). ((station.remove (record s { live = b }) cut).0).journal) off

end_mild : (over : Bool) (back : DeskReply) (middle last : Of) → SessionDeskStep middle (end_call over) back last → AreNoRemovals (told_by (end_call over) back)
end_mild true replied.Ended middle last step = (tt, tt)
end_mild true (replied.Announced answer) middle last step = absurd step.1
end_mild true (replied.Put answer) middle last step = absurd step.1
end_mild true (replied.Unfit job) middle last step = absurd step.1
end_mild true (replied.Worked w) middle last step = absurd step.1
end_mild true (replied.Collected answer) middle last step = absurd step.1
end_mild true (replied.Removed answer) middle last step = absurd step.1
end_mild true replied.Dropped middle last step = absurd step.1
end_mild false replied.Dropped middle last step = (tt, tt)
end_mild false (replied.Announced answer) middle last step = absurd step.1
end_mild false (replied.Put answer) middle last step = absurd step.1
end_mild false (replied.Unfit job) middle last step = absurd step.1
end_mild false (replied.Worked w) middle last step = absurd step.1
end_mild false (replied.Collected answer) middle last step = absurd step.1
end_mild false (replied.Removed answer) middle last step = absurd step.1
end_mild false replied.Ended middle last step = absurd step.1

-- no device is cut off so as a channel ends
ends_mild : (over : Bool) (d e : DeviceDeskState) (s u : Of) (back : DeskReply) (items : List Item) → CallsDesk d e s (end_call over) back items u → Has (Cut Removed) items → ⊥
ends_mild over d e s u back items called has = called_mild d e s u (end_call over) back items called (end_mild over back called.middle u called.step) has

-- one that is cut off so was live there, and the host was told that it is gone
cut_live : (p q : Served) (place id : ℕ) (does : DeskCall) (back : DeskReply) (items : List Item) → IsKeyed p → (at : CallsAt p place id does back items q) → Has (Cut Removed) items → ((at.first).live ≡ true) × (is_told_there p.front id ≡ false)
cut_live p q place id does back items keyed at has = elim (is_remove does) [
  | inr other ↦ absurd (called_mild at.before at.after at.first at.last does back items at.called (none_removed (at.called).middle at.last does back at.own other (at.called).step) has)
  | inl same ↦ (removal back (subst (λ (d : DeskCall). SessionDeskStep (at.called).middle d back at.last) same (at.called).step), (subst (FitsCall p id) same at.fits).2)
]
  where
    work : StoresMild at.first (at.called).middle
    work = steps_mild (at.called).works.calls at.first (at.called).middle (work_no_removals (at.called).works.calls (at.called).works.work) (at.called).works.steps

    removal : (r : DeskReply) → SessionDeskStep (at.called).middle desk.Remove r at.last → (at.first).live ≡ true
    removal (replied.Removed answer) step = by ((at.called).middle).live refl ((step.0).1).1
      where
        by : (b : Bool) → ((at.called).middle).live ≡ b → station.remove (at.called).middle ((step.0).1).0 ≡ ((step.0).0, answer) → (at.first).live ≡ true
        by true lives e = sym (worked p q place id does back items keyed at).live ∙ lives
        by false off e =
            let same : (at.last).journal ≡ ((at.called).middle).journal = ap (λ (s : Of). s.journal) (step.0).2 ∙ sym (ap (λ (r : Of × Bool). (r.0).journal) e) ∙ cut_journal (at.called).middle ((step.0).1).0 off in
            absurd (work.mild (subst (Has (Cut Removed)) (cancel (at.first).journal items work.more (sym (at.called).stored ∙ same ∙ work.longer)) has))
    removal (replied.Announced answer) step = absurd step.1
    removal (replied.Put answer) step = absurd step.1
    removal (replied.Unfit job) step = absurd step.1
    removal (replied.Worked w) step = absurd step.1
    removal (replied.Collected answer) step = absurd step.1
    removal replied.Dropped step = absurd step.1
    removal replied.Ended step = absurd step.1

-- ---- a call's parts

-- nothing is asked of what is announced
abbrev pub Always : ℕ → Type 0
Always n = Unit {0}

-- Each station that is live is of a device that the host was told of last.
abbrev pub AreLiveTold : Served → Type 0
AreLiveTold p = IsOpenBut Always Never p

-- What is known at a point.
pub record IsPoint (devices : List Announce) (p : Served) (deeds : List Deed) : Type 0 where
  pub known : IsKnownAt p deeds
  pub own : IsOwn devices p deeds
  pub off : AreOff p

pub point_apart : (devices : List Announce) (p : Served) (deeds : List Deed) → IsPoint devices p deeds → AreApartIn (p.front).client
point_apart devices p deeds is = ((((is.own).fine).fits).kept).devices.apart

pub part_point : (devices : List Announce) (p q : Served) (x : FrontPart) (deeds : List Deed) → PartGoes p x q → IsPoint devices p deeds → IsPoint devices q (deeds_of x ++ deeds)
part_point devices p q x deeds goes is = record {
  known = part_known p q x deeds goes is.known;
  own = part_own devices p q x deeds goes (is.known).keyed is.own;
  off = part_off p q x deeds goes (is.known).keyed (is.known).told is.off;
}

module _ (devices : List Announce) (does : FrontCall) (back : FrontReply) where
  -- the device that the call removes is still to be cut off, by one of these parts
  abbrev pub CutIn : List FrontPart → ℕ → Type 0
  CutIn ps n = (act_done does back ≡ removed n ∷ []) × Among (λ x. cut_by x ≡ Some n) ps

  leaves : (p q : Served) (x : FrontPart) (ps : List FrontPart) (first : List DeviceDeskState) (pre : List Act) → ids_of first ≡ ids_of (p.front).desks → act_done does back ≡ pre ++ filter_map act_told (x ∷ ps) → (hinders back ≡ false → AreFollowed first (x ∷ ps))
      → LeavesDue Always (CutIn (x ∷ ps)) Always (CutIn ps) x p q
  leaves p q (hears channel m answer) ps first pre same acts follows = λ before now n told. inr tt
  leaves p q (tells_there device (Ok done)) ps first pre same acts follows = inr tt
  leaves p q (tells_gone device (Ok done)) ps first pre same acts follows =
      let only = act_single does back (removed device) pre (filter_map act_told ps) acts in
      elim (follows only.1).0 [ inl none ↦ inl (none_by first (p.front).desks device same none) | inr some ↦ inr (only.0, some) ]
  leaves p q (tells_gone device (Err error)) ps first pre same acts follows = tt
  leaves p q (tells_there device (Err error)) ps first pre same acts follows = tt
  leaves p q x ps first pre same acts follows = tt

  acts_more : (x : FrontPart) (ps : List FrontPart) (pre : List Act) → act_done does back ≡ pre ++ filter_map act_told (x ∷ ps) → act_done does back ≡ (pre ++ cons_option (act_told x) []) ++ filter_map act_told ps
  acts_more x ps pre is = is ∙ by (act_told x)
    where
      by : (o : Option Act) → pre ++ cons_option o (filter_map act_told ps) ≡ (pre ++ cons_option o []) ++ filter_map act_told ps
      by None = ap (λ (more : List Act). more ++ filter_map act_told ps) (sym (append-nil pre))
      by (Some a) = sym (append_assoc pre (a ∷ []) (filter_map act_told ps))

  -- the part cuts off only what is to be cut off
  part_cuts : (p q : Served) (x : FrontPart) (ps : List FrontPart) (deeds : List Deed) → PartGoes p x q → IsPoint devices p deeds → IsOpenBut Always (CutIn (x ∷ ps)) p → (device : ℕ) → StoresIn x device (Cut Removed) → act_done does back ≡ removed device ∷ []
  part_cuts p q (part.calls place id d r items) ps deeds goes is opened device has =
      let cut = cut_live p q place id d r items (is.known).keyed goes has.1 in
      elim ((opened.live place goes.before goes.first (goes.there, goes.has) cut.0).1) [
        | inl said ↦ absurd (let told : is_told_there p.front id ≡ true = subst (λ (n : ℕ). is_told_there p.front n ≡ true) goes.id_is said in let gone = cut.1 in cc (told, gone))
        | inr due ↦ due.0 ∙ ap (λ (n : ℕ). removed n ∷ []) (goes.id_is ∙ has.0)
      ]
  part_cuts p q (ends over told) ps deeds goes is opened device has =
      absurd (ends_lack (Cut Removed) over (ends_mild over) (p.front).desks p.stations told (q.front).desks q.stations goes.1 device has)
  part_cuts p q (hears channel m answer) ps deeds goes is opened device has = absurd has
  part_cuts p q tries ps deeds goes is opened device has = absurd has
  part_cuts p q keeps ps deeds goes is opened device has = absurd has
  part_cuts p q forgets ps deeds goes is opened device has = absurd has
  part_cuts p q misplaces ps deeds goes is opened device has = absurd has
  part_cuts p q (directs st answer) ps deeds goes is opened device has = absurd has
  part_cuts p q (tells_gone d answer) ps deeds goes is opened device has = absurd has
  part_cuts p q (tells_there d answer) ps deeds goes is opened device has = absurd has
  part_cuts p q (sends channel sent) ps deeds goes is opened device has = absurd has
  part_cuts p q (writes d c) ps deeds goes is opened device has = absurd has
  part_cuts p q (unwritten d c) ps deeds goes is opened device has = absurd has
  part_cuts p q (learns n answer) ps deeds goes is opened device has = absurd has
  part_cuts p q (refreshes d) ps deeds goes is opened device has = absurd has
  part_cuts p q (begins channel) ps deeds goes is opened device has = absurd has

  -- What parts cut off, and what is known after them.
  pub record HasCut (ps : List FrontPart) (q : Served) (deeds : List Deed) : Type 0 where
    pub cuts : (device : ℕ) → Has (stores device (Cut Removed)) (deeds_after ps []) → act_done does back ≡ removed device ∷ []
    pub opened : AreLiveTold q
    pub point : IsPoint devices q (deeds_after ps deeds)

  parts_cut : (ps : List FrontPart) (p q : Served) (deeds : List Deed) (first : List DeviceDeskState) (pre : List Act) → PartsGo p ps q → IsPoint devices p deeds → ids_of first ≡ ids_of (p.front).desks → act_done does back ≡ pre ++ filter_map act_told ps
      → (hinders back ≡ false → AreFollowed first ps) → IsOpenBut Always (CutIn ps) p → HasCut ps q deeds
  parts_cut [] p q deeds first pre goes is same acts follows opened = record {
    cuts = λ device none. absurd none;
    opened = subst AreLiveTold (sym goes) (record {
      told = λ place d s here on said. inr tt;
      live = λ place d s here lives. let so = opened.live place d s here lives in (so.0, elim so.1 [ inl said ↦ inl said | inr due ↦ absurd due.1 ]);
    });
    point = subst (λ (v : Served). IsPoint devices v deeds) (sym goes) is;
  }
  parts_cut (x ∷ ps) p q deeds first pre goes is same acts follows opened =
      let keyed = (is.known).keyed in
      let told = (is.known).told in
      let next_open =
      part_open Always (CutIn (x ∷ ps)) Always (CutIn ps) p goes.0 x deeds goes.1 keyed told (point_apart devices p deeds is) (leaves p goes.0 x ps first pre same acts follows) (λ n late. inr tt)
      (λ n late. elim late.1 [ inl here ↦ inl here | inr later ↦ inr (late.0, later) ]) is.off opened in
      let more =
      parts_cut ps goes.0 q (deeds_of x ++ deeds) first (pre ++ cons_option (act_told x) []) goes.2 (part_point devices p goes.0 x deeds goes.1 is) (same ∙ sym (part_ids p goes.0 x goes.1)) (acts_more x ps pre acts) (λ plain. (follows plain).1) next_open in
      record {
        cuts = λ device has. elim (has_split (stores device (Cut Removed)) x ps has) [ inl later ↦ more.cuts device later | inr here ↦ part_cuts p goes.0 x ps deeds goes.1 is opened device (part_stores x device (Cut Removed) here) ];
        opened = more.opened;
        point = more.point;
      }

  -- A call cuts off only the device that it removes.
  pub call_cuts : (ps : List FrontPart) (p q : Served) (deeds : List Deed) → PartsGo p ps q → IsPoint devices p deeds → act_done does back ≡ filter_map act_told ps → (hinders back ≡ false → AreFollowed (p.front).desks ps) → AreLiveTold p → HasCut ps q deeds
  call_cuts ps p q deeds goes is acts follows opened = parts_cut ps p q deeds (p.front).desks [] goes is refl acts follows (record {
    told = λ place d s here on said. inr tt;
    live = λ place d s here lives. let so = opened.live place d s here lives in (so.0, elim so.1 [ inl said ↦ inl said | inr never ↦ absurd never ]);
  })
