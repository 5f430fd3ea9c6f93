-- A station does the same with another device in it.
use Rattle.std.proofs.Common.{◌≡◌, ◌∙◌, refl, sym, ap, subst, ℕ, Bool, true, false, cond, not, List, [], ◌∷◌, Some, None, Option}
use Rattle.std.specs.Prelude.{Err, Ok, Result, nat_le}
use Rattle.rd_base.specs.declared.journal.Key.{Key}
use Rattle.rd_drive.specs.Device.{is_parked}
use Rattle.rd_drive.specs.Stepped.{Stepped}
use Rattle.rd_drive.specs.declared.plan.Job.{Job}
use Rattle.rd_irp.specs.Fits.{kind_of}
use Rattle.rd_station.specs.Station as station
use Rattle.rd_station.specs.Station.{MayPut, PutRefused, StationState, apply_from, cancelled_in_hand, collect_first, drop_channel, emptied, entry_count, max_entries, put_refusal, put_unless, ran, take_first}
use Rattle.rd_station.specs.declared.answers.Applied.{Applied}
use Rattle.rd_station.specs.declared.answers.Applied.TheVariants as applied
use Rattle.rd_station.specs.declared.answers.Completion.{Completion}
use Rattle.rd_station.specs.declared.answers.Given.{Given}
use Rattle.rd_station.specs.declared.answers.Given.TheVariants as given
use Rattle.rd_station.specs.declared.held.InHand.{InHand}
use Rattle.rd_station.specs.declared.refusals.AnnounceNo.{AnnounceNo}
use Rattle.rd_station.specs.declared.refusals.AnnounceNo.TheVariants as refused
use Rattle.rd_station.specs.declared.refusals.PutWhy.{PutWhy}
use Rattle.rd_station.specs.declared.refusals.PutWhy.TheVariants as why
use Rattle.rd_served_replies.specs.Given.{with_device}

-- what a call makes of a station, and its answer, with another device in the station
abbrev pub made_with : {S T A : Type 0} → T → StationState S × A → StationState T × A
made_with t made = (with_device made.0 t, made.1)

-- what a run comes to, with another device after it
abbrev pub came_with : {S T : Type 0} → Stepped S → T → Stepped T
came_with came left = record { state = left; answer = came.answer; ends = came.ends }

module _ {S T : Type 0} (s : StationState S) (t : T) where
  pub announce_with : station.announce (with_device s t) ≡ made_with t (station.announce s)
  announce_with = by s.live (nat_le max_entries (entry_count s))
    where
      by : (a b : Bool)
          → cond {A = StationState T × Result (Unit {0}) AnnounceNo} a (with_device s t, Err refused.Live) (cond b (with_device s t, Err (refused.Worn (entry_count s))) (record (with_device s t) { live = true }, Ok tt))
          ≡ made_with t (cond {A = StationState S × Result (Unit {0}) AnnounceNo} a (s, Err refused.Live) (cond b (s, Err (refused.Worn (entry_count s))) (record s { live = true }, Ok tt)))
      by true b = refl
      by false true = refl
      by false false = refl

  pub put_with : (job : Job) (found : Option PutWhy) → put_unless (with_device s t) job found ≡ made_with t (put_unless s job found)
  put_with job None = refl
  put_with job (Some cause) = refl

  pub take_with : station.take (with_device s t) ≡ made_with t (station.take s)
  take_with = by s.ended s.waiting
    where
      by : (b : Bool) (jobs : List Job) → cond {A = StationState T × Given} b (with_device s t, given.Over) (take_first (with_device s t) jobs) ≡ made_with t (cond {A = StationState S × Given} b (s, given.Over) (take_first s jobs))
      by true jobs = refl
      by false [] = refl
      by false (job ∷ jobs) = refl

  pub collect_with : (cs : List Completion) → collect_first (with_device s t) cs ≡ made_with t (collect_first s cs)
  collect_with [] = refl
  collect_with (c ∷ cs) = refl

  -- a job may come or not, whatever the device
  pub may_with : (key : Key) → MayPut s key → MayPut (with_device s t) key
  may_with key may = record { above = may.above; same_channel = may.same_channel; forgotten = may.forgotten }

  pub may_without : (key : Key) → MayPut (with_device s t) key → MayPut s key
  may_without key may = record { above = may.above; same_channel = may.same_channel; forgotten = may.forgotten }

  pub refused_with : (new : StationState S) (job : Job) (cause : PutWhy) → PutRefused s job cause new → PutRefused (with_device s t) job cause (with_device new t)
  refused_with new job why.Memory e = (e.0, ap (λ (x : StationState S). with_device x t) e.1)
  refused_with new job why.Gone e = put_with job (put_refusal s job) ∙ ap (made_with t) e
  refused_with new job (why.Duplicate key) e = put_with job (put_refusal s job) ∙ ap (made_with t) e
  refused_with new job (why.Full count) e = put_with job (put_refusal s job) ∙ ap (made_with t) e
  refused_with new job (why.Worn count) e = put_with job (put_refusal s job) ∙ ap (made_with t) e

  -- a job that is given back is run, or cancelled, by whatever it would have come to
  module _ (job : Job) (moment : ℕ) (came : Stepped S) (left : T) where
    abbrev AppliesWith : InHand → Bool → T → Type 0
    AppliesWith h b end =
        cond {A = StationState T × Applied} b (cancelled_in_hand (with_device s t) h (kind_of job.op), applied.Cancelled) (ran (with_device s t) h (kind_of job.op) moment (came_with came left), cond (is_parked came.answer) applied.Parked applied.Ran)
        ≡ made_with end (cond {A = StationState S × Applied} b (cancelled_in_hand s h (kind_of job.op), applied.Cancelled) (ran s h (kind_of job.op) moment came, cond (is_parked came.answer) applied.Parked applied.Ran))

    pub apply_with : (h : InHand) → h.removed ≡ false → apply_from (with_device s t) job moment (came_with came left) (Some h) ≡ made_with left (apply_from s job moment came (Some h))
    apply_with h fresh = subst (λ (b : Bool). AppliesWith h b left) (sym fresh) refl

    pub cancel_with : (h : InHand) → h.removed ≡ true → apply_from (with_device s t) job moment (came_with came left) (Some h) ≡ made_with t (apply_from s job moment came (Some h))
    cancel_with h gone = subst (λ (b : Bool). AppliesWith h b t) (sym gone) refl

  -- the device is cut off where the station is live, and else left as it is
  module _ (cut : S) (left : T) where
    abbrev RemovesWith : Bool → T → Type 0
    RemovesWith b end =
        cond {A = StationState T × Bool} (not b) (with_device s t, false) ((station.remove (record (with_device s t) { live = true }) left).0, true)
        ≡ made_with end (cond {A = StationState S × Bool} (not b) (s, false) ((station.remove (record s { live = true }) cut).0, true))

    pub remove_with : s.live ≡ true → station.remove (with_device s t) left ≡ made_with left (station.remove s cut)
    remove_with live = subst (λ (b : Bool). RemovesWith b left) (sym live) refl

    pub remove_without : s.live ≡ false → station.remove (with_device s t) left ≡ made_with t (station.remove s cut)
    remove_without dead = subst (λ (b : Bool). RemovesWith b t) (sym dead) refl

    abbrev DropsWith : Bool → T → Type 0
    DropsWith b end =
        cond b (drop_channel (record (with_device s t) { live = true }) left) (emptied (with_device s t)) ≡ with_device (cond b (drop_channel (record s { live = true }) cut) (emptied s)) end

    pub drop_with : s.live ≡ true → drop_channel (with_device s t) left ≡ with_device (drop_channel s cut) left
    drop_with live = subst (λ (b : Bool). DropsWith b left) (sym live) refl

    pub drop_without : s.live ≡ false → drop_channel (with_device s t) left ≡ with_device (drop_channel s cut) t
    drop_without dead = subst (λ (b : Bool). DropsWith b t) (sym dead) refl
