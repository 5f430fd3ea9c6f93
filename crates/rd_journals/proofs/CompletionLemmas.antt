-- What is ready at a station completes its key's request, in bytes.
use Rattle.std.proofs.Common.{◌≡◌, sym, ap, subst, inl, inr, ℕ, Bool, true, false, List, [], ◌∷◌, ◌++◌, length, Some, lit<}
use Rattle.std.specs.Prelude.{drop}
use Rattle.std.proofs.lemmas.List.Elements.{All-contains}
use Rattle.rd_base.specs.declared.journal.Key.{Key}
use Rattle.rd_drive.specs.Device.{CompletesKind, is_starved}
use Rattle.rd_drive.specs.Planned.{Planned}
use Rattle.rd_drive.specs.Ranged.{AreEndsInRange, IsAnswerInRange, IsReplyInRange, IsSteppedInRange, SetsFew}
use Rattle.rd_drive.specs.Replies.{cancellation}
use Rattle.rd_drive.specs.Stepped.{Stepped, ran_step}
use Rattle.rd_drive.specs.declared.step.End.{End}
use Rattle.rd_drive.proofs.BoundedLemmas.{step_ranged}
use Rattle.rd_irp.specs.Completion.{SpellsBody}
use Rattle.rd_irp.specs.Fits.{BodyFits, kind_of}
use Rattle.rd_irp.specs.Written.{body_bytes, body_tail, completion_bytes, head_bytes}
use Rattle.rd_irp.specs.declared.completion.Head.{Head}
use Rattle.rd_irp.specs.declared.completion.Kind.{Kind}
use Rattle.rd_irp.specs.declared.completion.Reply.{Reply}
use Rattle.rd_irp.specs.declared.op.Op.{Op}
use Rattle.rd_irp.specs.declared.request.Request.{Request}
use Rattle.rd_irp.proofs.WrittenLemmas.{body_after_head, body_spelled, head_spelled}
use Rattle.rd_printer.proofs.PrinterLemmas.{printed_range}
use Rattle.rd_station.specs.Station.{StationState}
use Rattle.rd_station.specs.declared.answers.Completion.{Completion}
use Rattle.rd_station.proofs.Calls.{reached_kept}
use Rattle.rd_station.proofs.Members.{to_contains}
use Rattle.rd_declared.specs.Devices.{Declared, device_cuts, device_parked, device_runs, device_step}
use Rattle.rd_world.specs.Events.{completion_message}
use Rattle.rd_deeds.specs.Talk.{Has}
use Rattle.rd_deeds.specs.Told.{CompletesWith}
use Rattle.rd_world.specs.World.{WorldState, station_at}
use Rattle.rd_declared.specs.declared.device.SessionDevice.{SessionDevice}
use Rattle.rd_declared.specs.declared.device.SessionDevice.TheVariants as session
use Rattle.rd_journals.specs.Jobs.{AreWorking, FitsCompletion, IsCompletionOf}
use Rattle.rd_journals.specs.Orderly.{Orderly}
use Rattle.rd_journals.proofs.OwnLemmas.{IsGood}

-- ---- what devices reply has room in its fields

pub lost_ranged : IsReplyInRange cancellation
lost_ranged = (lit< tt, tt)

device_ranged : (s : SessionDevice) (key : Key) (file : ℕ) (o : Op) (moment : ℕ) → SetsFew o → IsSteppedInRange (device_step s key file o moment)
device_ranged (session.Drive s) key file o moment few = step_ranged s key file o moment few
device_ranged (session.Printer s) key file o moment few = printed_range s key file o moment few

ran_ranged : (s : SessionDevice) (key : Key) (file : ℕ) (o : Op) (moment : ℕ) (b : Bool) → SetsFew o → IsSteppedInRange (ran_step device_step s key file o moment b)
ran_ranged s key file o moment true few = ((lit< tt, tt), tt)
ran_ranged s key file o moment false few = device_ranged s key file o moment few

each_end : (es : List End) → AreEndsInRange es → (e : End) → Has e es → IsReplyInRange e.reply
each_end [] all e none = absurd none
each_end (x ∷ es) all e (inl same) = subst (λ (y : End). IsReplyInRange y.reply) (sym same) all.0
each_end (x ∷ es) all e (inr there) = each_end es all.1 e there

pub runs_good : (r : Request) (s : SessionDevice) (planned : Planned) (moment : ℕ) (came : Stepped SessionDevice) → FitsCompletion r → planned.job.op ≡ r.op → device_runs s planned moment came.answer came.ends came.state → IsGood IsReplyInRange came
runs_good r s planned moment came room same runs =
    let few : SetsFew planned.job.op = subst SetsFew (sym same) room.2 in
    let ranged : IsSteppedInRange came = subst IsSteppedInRange runs (ran_ranged s planned.job.key planned.job.file planned.job.op moment (is_starved came.answer) few) in
    record { answer = λ reply e. subst IsAnswerInRange e ranged.0; ends = each_end came.ends ranged.1 }

-- ---- bytes

pub completes : (r : Request) (reply : Reply) → FitsCompletion r → IsReplyInRange reply → BodyFits (kind_of r.op) reply.status reply.body
    → CompletesWith r reply (completion_bytes (kind_of r.op) (record { device = r.device; completion = r.completion; status = reply.status }) reply.body)
completes r reply room range fits = record {
  head = head_spelled head body (length (drop 16 (head_bytes head ++ body))) (ap length (sym (body_after_head head body))) room.0 room.1 range.0;
  tail = body_tail (kind_of r.op) reply.body;
  body = subst (λ (bytes : List ℕ). SpellsBody (kind_of r.op) reply.status reply.body (body_tail (kind_of r.op) reply.body) bytes) (sym (body_after_head head body)) (body_spelled (kind_of r.op) reply.status reply.body fits range.1);
}
  where
    head : Head
    head = record { device = r.device; completion = r.completion; status = reply.status }

    body : List ℕ
    body = body_bytes (kind_of r.op) reply.body

pub ready_completes : (devices : List (ℕ × Declared)) (w : WorldState) → Orderly w → AreWorking FitsCompletion IsReplyInRange devices w.stations w.hands w.deeds → (d : ℕ) (s : StationState SessionDevice) → station_at w d ≡ Some s
    → (x : Completion) → Has x s.ready → IsCompletionOf w.deeds d x
ready_completes devices w ordered is d s there x has =
    let (k, range) = (is.owned d s there).ready x has in
    let r : Request = k.of.request in
    let kept = reached_kept device_runs device_parked device_cuts s ((ordered.held).on d s there).sound.reached in
    let fits : CompletesKind x.kind x.reply = All-contains (λ (c : Completion). CompletesKind c.kind c.reply) s.ready x kept.ready (to_contains s.ready x has) in
    record {
      request = r;
      read = k.of.read;
      device = k.of.device;
      completes = subst (λ (m : List ℕ). CompletesWith r x.reply m) (same r k.of.device k.of.id k.layout)
          (completes r x.reply k.of.fine range (subst (λ (y : Kind). BodyFits y x.reply.status x.reply.body) k.layout fits.0));
    }
  where
    same : (r : Request) → r.device ≡ d → x.completion ≡ r.completion → x.kind ≡ kind_of r.op
        → completion_bytes (kind_of r.op) (record { device = r.device; completion = r.completion; status = x.reply.status }) x.reply.body ≡ completion_message d x
    same r device id layout = λ i. completion_bytes (sym layout i) (record { device = device i; completion = sym id i; status = x.reply.status }) x.reply.body
