-- Each reply that a journal of a fit device gives completes its key's request.
use Rattle.std.proofs.Common.{◌≡◌, ◌∙◌, refl, sym, ap, subst, inl, inr, ℕ, Bool, true, false, List, [], ◌∷◌, map, lit<}
use Rattle.std.specs.List.{AllByRecursion}
use Rattle.rd_base.specs.declared.journal.Item.{Item}
use Rattle.rd_base.specs.declared.journal.Item.TheVariants.{Came, Cancelled, Cut, Ran, Sent}
use Rattle.rd_base.specs.declared.journal.Key.{Key}
use Rattle.rd_base.specs.Statuses.{cancelled, no_memory}
use Rattle.rd_drive.proofs.AllLemmas.{all_append}
use Rattle.rd_drive.proofs.AnswerLemmas.{fault_answers}
use Rattle.rd_drive.specs.Device.{AreEnded, IsAnswerTo, Parked, Parks, parked_by}
use Rattle.rd_drive.specs.Promise.{cut_end}
use Rattle.rd_drive.specs.Ranged.{AreEndsInRange, IsAnswerInRange}
use Rattle.rd_drive.specs.Replies.{end_reply, own_reply, replies_at, replies_by, state_after}
use Rattle.rd_drive.specs.declared.plan.Job.{Job}
use Rattle.rd_drive.specs.declared.step.End.{End}
use Rattle.rd_drive.specs.declared.step.Step.{Step}
use Rattle.rd_drive.specs.declared.step.Step.TheVariants as step
use Rattle.rd_irp.specs.Fits.{BodyFits, kind_of}
use Rattle.rd_irp.specs.declared.completion.Kind.{Kind}
use Rattle.rd_irp.specs.declared.request.Request.{Request}
use Rattle.rd_ranges.proofs.DeviceLemmas.{any_answer, any_devices, any_in_range}
use Rattle.rd_ranges.specs.Ranges.{AreFullReplies, AreParkedAs, IsFitDevice, IsFullReply, RunsFew}
use Rattle.rd_declared.specs.Devices.{device_cut, device_parked, device_step}
use Rattle.rd_declared.specs.declared.device.SessionDevice.{SessionDevice}

module _ (requests : Key → Request) where
  -- ---- requests that waited

  abbrev Ended : List Parked → List End → List Parked → Type 0
  Ended ws ends left = AreFullReplies requests (map end_reply ends) × AreParkedAs requests left

  ended_full : (ws : List Parked) (ends : List End) (left : List Parked) → AreEnded ws ends left → AreParkedAs requests ws → AreEndsInRange ends → Ended ws ends left
  ended_full [] ends left (none, nobody) own low = (subst (λ (es : List End). AreFullReplies requests (map end_reply es)) (sym none) tt, subst (AreParkedAs requests) (sym nobody) tt)
  ended_full (w ∷ ws) ends left (inl (first, further, is, (key, completes), rest)) own low =
      let own_low : AreEndsInRange (first ∷ further) = subst AreEndsInRange is low in
      let others = ended_full ws further left rest own.1 own_low.1 in
      let kind : w.kind ≡ kind_of (requests first.key).op = own.0 ∙ ap (λ (k : Key). kind_of (requests k).op) (sym key) in
      let replies : BodyFits (kind_of (requests first.key).op) (first.reply).status (first.reply).body = subst (λ (k : Kind). BodyFits k (first.reply).status (first.reply).body) kind completes.0 in
      let full : IsFullReply (requests first.key).op first.reply = record { replies = (replies, completes.1); range = own_low.0 } in
      (subst (λ (es : List End). AreFullReplies requests (map end_reply es)) (sym is) (full, others.0), others.1)
  ended_full (w ∷ ws) ends left (inr (rest, is, more)) own low =
      let others = ended_full ws ends rest more own.1 low in
      (others.0, subst (AreParkedAs requests) (sym is) (own.0, others.1))

  cut_full : (ws : List Parked) → AreFullReplies requests (map end_reply (map cut_end ws))
  cut_full [] = tt
  cut_full (w ∷ ws) = (record { replies = fault_answers (requests w.key).op cancelled refl; range = (lit< tt, tt) }, cut_full ws)

  -- ---- an entry

  -- a fit device, in which each request that waits has the layout of its key's request
  pub record IsWell (s : SessionDevice) : Type 0 where
    pub fit : IsFitDevice s
    pub waits : AreParkedAs requests (device_parked s)

  -- what an entry gives, and leaves
  record Gives (s : SessionDevice) (entry : Item) : Type 0 where
    full : AreFullReplies requests (replies_at device_step device_cut requests s entry)
    well : IsWell (state_after device_step device_cut requests s entry)

  own_full : (key : Key) (answer : Step) → IsAnswerTo (requests key).op answer → IsAnswerInRange answer → AreFullReplies requests (own_reply key answer)
  own_full key (step.Reply reply) suits low = (record { replies = suits; range = low }, tt)
  own_full key step.Parked suits low = tt

  own_waits : (key : Key) (file completion : ℕ) (answer : Step) → AreParkedAs requests (parked_by (record { key = key; file = file; completion = completion; op = (requests key).op }) answer)
  own_waits key file completion (step.Reply reply) = tt
  own_waits key file completion step.Parked = (refl, tt)

  ran_full : (s : SessionDevice) (key : Key) (moment : ℕ) (starved parked : Bool) → RunsFew requests (Ran key moment starved parked) → IsWell s → Gives s (Ran key moment starved parked)
  ran_full s key moment true parked few well =
      record { full = (record { replies = fault_answers (requests key).op no_memory refl; range = (lit< tt, tt) }, tt); well = well }
  ran_full s key moment false parked few well =
      let r : Request = requests key in
      let job : Job = record { key = key; file = r.file; completion = 0; op = r.op } in
      let came = device_step s key r.file r.op moment in
      let parks : Parks job (device_parked s) came.answer came.ends (device_parked came.state) = any_devices.parks s job moment well.fit in
      let low = any_in_range s key r.file r.op moment few in
      let ended = ended_full (device_parked s) came.ends parks.left parks.ended well.waits low.1 in
      record {
        full = all_append (λ given. IsFullReply (requests given.0).op given.1) (own_reply key came.answer) (map end_reply came.ends)
            (own_full key came.answer (any_answer s key r.file r.op moment well.fit).0 low.0) ended.0;
        well = record {
          fit = any_devices.stays s key r.file r.op moment well.fit;
          waits = subst (AreParkedAs requests) (sym parks.waits)
              (all_append (λ (p : Parked). p.kind ≡ kind_of (requests p.key).op) parks.left (parked_by job came.answer) ended.1 (own_waits key r.file 0 came.answer));
        };
      }

  entry_full : (s : SessionDevice) (entry : Item) → RunsFew requests entry → IsWell s → Gives s entry
  entry_full s (Ran key moment starved parked) few well = ran_full s key moment starved parked few well
  entry_full s (Cut cause) few well =
      let cancels = any_devices.cancels s well.fit in
      record {
        full = subst (λ (es : List End). AreFullReplies requests (map end_reply es)) (sym cancels.ends) (cut_full (device_parked s));
        well = record { fit = any_devices.cut_stays s well.fit; waits = subst (AreParkedAs requests) (sym cancels.none) tt };
      }
  entry_full s (Came key) few well = record { full = tt; well = well }
  entry_full s (Cancelled key) few well = record { full = tt; well = well }
  entry_full s (Sent key) few well = record { full = tt; well = well }

  pub replies_full : (s : SessionDevice) (items : List Item) → AllByRecursion (RunsFew requests) items → IsWell s → AreFullReplies requests (replies_by device_step device_cut requests s items)
  replies_full s [] few well = tt
  replies_full s (entry ∷ items) few well =
      let gives = entry_full s entry few.0 well in
      all_append (λ given. IsFullReply (requests given.0).op given.1) (replies_at device_step device_cut requests s entry) _ gives.full
      (replies_full (state_after device_step device_cut requests s entry) items few.1 gives.well)

  pub quiet_full : (s : SessionDevice) (items : List Item) → IsFitDevice s → device_parked s ≡ [] → AllByRecursion (RunsFew requests) items
      → AreFullReplies requests (replies_by device_step device_cut requests s items)
  quiet_full s items fit quiet few = replies_full s items few (record { fit = fit; waits = subst (AreParkedAs requests) (sym quiet) tt })
