-- What waits in a device by its journal ran, and at most 64 requests wait in one.
use Rattle.std.proofs.Common.{◌≡◌, ◌⊎◌, ◌∙◌, sym, ap, subst, inl, inr, ℕ, ◌≤◌, true, false, arith, List, [], ◌∷◌, length}
use Rattle.rd_base.specs.declared.journal.Item.{Item}
use Rattle.rd_base.specs.declared.journal.Item.TheVariants.{Came, Cancelled, Cut, Ran, Sent}
use Rattle.rd_base.specs.declared.journal.Key.{Key}
use Rattle.rd_drive.proofs.BoundedLemmas.{bounded_devices}
use Rattle.rd_drive.specs.Device.{AreEnded, Parked, Parks, parked_by}
use Rattle.rd_drive.specs.Promise.{Cancels}
use Rattle.rd_drive.specs.Replies.{last_state_by}
use Rattle.rd_drive.specs.Stepped.{Stepped}
use Rattle.rd_drive.specs.declared.plan.Job.{Job}
use Rattle.rd_drive.specs.declared.step.End.{End}
use Rattle.rd_drive.specs.declared.step.Step.{Step}
use Rattle.rd_drive.specs.declared.step.Step.TheVariants as step
use Rattle.rd_irp.specs.declared.request.Request.{Request}
use Rattle.rd_answered.proofs.JournalsDeviceLemmas.{cut_fits, step_fits}
use Rattle.rd_answered.specs.JournalsStations.{IsFit}
use Rattle.rd_printer.proofs.PrinterLemmas.{printers_step}
use Rattle.rd_station.proofs.Members.{has_append}
use Rattle.rd_deeds.proofs.Journals.{HasRun}
use Rattle.rd_declared.specs.Devices.{device_cut, device_parked, device_step}
use Rattle.rd_deeds.specs.Talk.{Has}
use Rattle.rd_declared.specs.declared.device.SessionDevice.{SessionDevice}
use Rattle.rd_declared.specs.declared.device.SessionDevice.TheVariants as session

abbrev pub IsWaiting : Key → List Parked → Type 0
IsWaiting k ps = (p : Parked) × Has p ps × (p.key ≡ k)

left_waits : (ps : List Parked) (ends : List End) (left : List Parked) → AreEnded ps ends left → (q : Parked) → Has q left → Has q ps
left_waits [] ends left are q has = absurd (subst (Has q) are.1 has)
left_waits (p ∷ ps) ends left (inl one) q has = inr (left_waits ps one.1 left one.4 q has)
left_waits (p ∷ ps) ends left (inr on) q has = elim (subst (Has q) on.1 has) [ inl here ↦ inl here | inr later ↦ inr (left_waits ps ends on.0 on.2 q later) ]

own_waits : (job : Job) (answer : Step) (q : Parked) → Has q (parked_by job answer) → q.key ≡ job.key
own_waits job (step.Reply reply) q has = absurd has
own_waits job step.Parked q (inl same) = ap (λ (x : Parked). x.key) same
own_waits job step.Parked q (inr none) = absurd none

parks : (s : SessionDevice) (job : Job) (moment : ℕ) → IsFit s → let came = device_step s job.key job.file job.op moment in Parks job (device_parked s) came.answer came.ends (device_parked came.state)
parks (session.Drive s) job moment fit = bounded_devices.parks s job moment fit
parks (session.Printer s) job moment fit = printers_step.parks s job moment tt

cancels : (s : SessionDevice) → IsFit s → Cancels device_step device_cut device_parked s
cancels (session.Drive s) fit = let is = bounded_devices.cancels s fit in record { ends = is.ends; none = is.none }
cancels (session.Printer s) fit = let is = printers_step.cancels s tt in record { ends = is.ends; none = is.none }

run_later : (k : Key) (x : Item) (items : List Item) → HasRun k items → HasRun k (x ∷ items)
run_later k x items (m, s, p, has) = (m, s, p, inr has)

module _ (requests : Key → Request) where
  -- what waits at last waited at the beginning, or ran
  pub waits_run : (k : Key) (items : List Item) (s : SessionDevice) → IsFit s → IsWaiting k (device_parked (last_state_by device_step device_cut requests s items)) → IsWaiting k (device_parked s) ⊎ HasRun k items
  waits_run k [] s fit waits = inl waits
  waits_run k (Came key ∷ items) s fit waits = elim (waits_run k items s fit waits) [ inl was ↦ inl was | inr run ↦ inr (run_later k (Came key) items run) ]
  waits_run k (Cancelled key ∷ items) s fit waits = elim (waits_run k items s fit waits) [ inl was ↦ inl was | inr run ↦ inr (run_later k (Cancelled key) items run) ]
  waits_run k (Sent key ∷ items) s fit waits = elim (waits_run k items s fit waits) [ inl was ↦ inl was | inr run ↦ inr (run_later k (Sent key) items run) ]
  waits_run k (Cut cause ∷ items) s fit waits = elim (waits_run k items (device_cut s).state (cut_fits s fit) waits) [
    | inl was ↦ absurd (subst (Has was.0) (cancels s fit).none was.1)
    | inr run ↦ inr (run_later k (Cut cause) items run)
  ]
  waits_run k (Ran key moment true mark ∷ items) s fit waits = elim (waits_run k items s fit waits) [ inl was ↦ inl was | inr run ↦ inr (run_later k (Ran key moment true mark) items run) ]
  waits_run k (Ran key moment false mark ∷ items) s fit waits =
      let job : Job = record { key = key; file = (requests key).file; completion = (requests key).completion; op = (requests key).op } in
      let came : Stepped SessionDevice = device_step s key (requests key).file (requests key).op moment in
      let does = parks s job moment fit in
      elim (waits_run k items came.state (step_fits s key (requests key).file (requests key).op moment fit) waits) [
        | inl was ↦ elim (has_append was.0 does.left (parked_by job came.answer) (subst (Has was.0) does.waits was.1)) [
          | inl old ↦ inl (was.0, left_waits (device_parked s) came.ends does.left does.ended was.0 old, was.2)
          | inr own ↦ inr (moment, false, mark, inl (ap (λ (x : Key). Ran x moment false mark) (sym was.2 ∙ own_waits job came.answer was.0 own)))
        ]
        | inr run ↦ inr (run_later k (Ran key moment false mark) items run)
      ]

  -- at most 64 wait at last, where no more did at the beginning
  pub few_wait : (items : List Item) (s : SessionDevice) → IsFit s → length (device_parked s) ≤ 64 → length (device_parked (last_state_by device_step device_cut requests s items)) ≤ 64
  few_wait [] s fit few = few
  few_wait (Came key ∷ items) s fit few = few_wait items s fit few
  few_wait (Cancelled key ∷ items) s fit few = few_wait items s fit few
  few_wait (Sent key ∷ items) s fit few = few_wait items s fit few
  few_wait (Cut cause ∷ items) s fit few =
      let none : length (device_parked (device_cut s).state) ≡ 0 = ap (length {A = Parked}) (cancels s fit).none in few_wait items (device_cut s).state (cut_fits s fit) (omega (arith, none))
  few_wait (Ran key moment true mark ∷ items) s fit few = few_wait items s fit few
  few_wait (Ran key moment false mark ∷ items) s fit few =
      let job : Job = record { key = key; file = (requests key).file; completion = (requests key).completion; op = (requests key).op } in
      few_wait items (device_step s key (requests key).file (requests key).op moment).state (step_fits s key (requests key).file (requests key).op moment fit) (parks s job moment fit).few
