-- The replies that a device's journal gives: what a beginning of it gives stays, and no key has two.
use Rattle.std.proofs.Common.{◌≡◌, ◌∙◌, refl, sym, ap, subst, ℕ, Bool, true, false, cond, List, [], ◌∷◌, ◌++◌, append_assoc, arith}
use Rattle.std.specs.Prelude.{Contains, Some, None, Option}
use Rattle.std.specs.Map.{lookup}
use Rattle.std.specs.Option.{option_map_or}
use Rattle.std.specs.Ordering.{nat_cmp}
use Rattle.std.specs.BTreeMap.{is_at}
use Rattle.std.proofs.lemmas.List.Elements.{Contains-append_left}
use Rattle.rd_base.specs.Lawful.{IsLawful}
use Rattle.rd_base.specs.declared.journal.Item.{Item}
use Rattle.rd_base.specs.declared.journal.Key.{Key}
use Rattle.rd_drive.specs.Device.{Parks}
use Rattle.rd_drive.specs.Once.{HaveOneReplyEach}
use Rattle.rd_drive.specs.Promise.{Cancels, IsDevice}
use Rattle.rd_drive.specs.Replies.{KeyedReply, last_state_by, replies_at, replies_by, state_after}
use Rattle.rd_drive.specs.declared.plan.Job.{Job}
use Rattle.rd_drive.proofs.BoundedLemmas.{bounded_devices}
use Rattle.rd_drive.proofs.OnceLemmas.{one_reply_each}
use Rattle.rd_irp.specs.declared.request.Request.{Request}
use Rattle.rd_printer.proofs.PrinterLemmas.{printers_step}
use Rattle.rd_declared.specs.Devices.{Declared, device_cut, device_parked, device_step}
use Rattle.rd_world.specs.Recording.{request_of}
use Rattle.rd_world.specs.Session.{replies_in}
use Rattle.rd_deeds.specs.Talk.{Deed}
use Rattle.rd_declared.specs.declared.device.SessionDevice.{SessionDevice}
use Rattle.rd_declared.specs.declared.device.SessionDevice.TheVariants as session
use Rattle.rd_journals.specs.Stations.{AreFit, IsFit}
use Rattle.rd_journals.proofs.DeviceLemmas.{cut_fits, step_fits}

-- ---- a device of a session is one

session_devices : IsDevice device_step device_cut device_parked IsFit
session_devices = record { stays = step_fits; parks = parks; cut_stays = cut_fits; cancels = cancels }
  where
    parks : (s : SessionDevice) (job : Job) (moment : ℕ) → IsFit s → let came = device_step s job.key job.file job.op moment in Parks job (device_parked s) came.answer came.ends (device_parked came.state)
    parks (session.Drive s) job moment fit = bounded_devices.parks s job moment fit
    parks (session.Printer s) job moment fit = printers_step.parks s job moment tt

    cancels : (s : SessionDevice) → IsFit s → Cancels device_step device_cut device_parked s
    cancels (session.Drive s) fit = let is = bounded_devices.cancels s fit in record { ends = is.ends; none = is.none }
    cancels (session.Printer s) fit = let is = printers_step.cancels s tt in record { ends = is.ends; none = is.none }

-- ---- more entries

module _ (requests : Key → Request) where
  abbrev given : SessionDevice → List Item → List KeyedReply
  given s items = replies_by device_step device_cut requests s items

  abbrev left : SessionDevice → List Item → SessionDevice
  left s items = last_state_by device_step device_cut requests s items

  given_more : (s : SessionDevice) (earlier more : List Item) → given s (earlier ++ more) ≡ given s earlier ++ given (left s earlier) more
  given_more s [] more = refl
  given_more s (x ∷ earlier) more =
      let then = state_after device_step device_cut requests s x in
      ap (λ (rs : List KeyedReply). replies_at device_step device_cut requests s x ++ rs) (given_more then earlier more)
      ∙ sym (append_assoc (replies_at device_step device_cut requests s x) (given then earlier) (given (left then earlier) more))

pub replies_grow : (devices : List (ℕ × Declared)) (deeds : List Deed) (device : ℕ) (earlier more : List Item) (reply : KeyedReply) → Contains (replies_in devices deeds device earlier) reply
    → Contains (replies_in devices deeds device (earlier ++ more)) reply
replies_grow devices deeds device earlier more reply = by (lookup (is_at (nat_cmp device)) devices)
  where
    by : (o : Option Declared) → Contains (option_map_or (λ (d : Declared). given (request_of deeds) d.state earlier) o []) reply
        → Contains (option_map_or (λ (d : Declared). given (request_of deeds) d.state (earlier ++ more)) o []) reply
    by None has = has
    by (Some d) has = subst (λ (rs : List KeyedReply). Contains rs reply) (sym (given_more (request_of deeds) d.state earlier more))
        (Contains-append_left (given (request_of deeds) d.state earlier) (given (request_of deeds) (left (request_of deeds) d.state earlier) more) reply has)

-- ---- one reply each

pub fit_at : (devices : List (ℕ × Declared)) (device : ℕ) (d : Declared) → AreFit devices → lookup (is_at (nat_cmp device)) devices ≡ Some d → IsFit d.state × (device_parked d.state ≡ [])
fit_at [] device d all there = absurd (cc (there))
fit_at (e ∷ devices) device d all there = by (is_at (nat_cmp device) e.0) there (fit_at devices device d all.1)
  where
    by : (b : Bool) → cond b (Some e.1) (lookup (is_at (nat_cmp device)) devices) ≡ Some d → (lookup (is_at (nat_cmp device)) devices ≡ Some d → IsFit d.state × (device_parked d.state ≡ [])) → IsFit d.state × (device_parked d.state ≡ [])
    by true there later = let same : e.1 ≡ d = cc in subst (λ (x : Declared). IsFit x.state × (device_parked x.state ≡ [])) same all.0
    by false there later = later there

pub replies_once : (devices : List (ℕ × Declared)) (deeds : List Deed) (device : ℕ) (items : List Item) → AreFit devices → IsLawful items → HaveOneReplyEach (replies_in devices deeds device items)
replies_once devices deeds device items fit lawful = by (lookup (is_at (nat_cmp device)) devices) refl
  where
    by : (o : Option Declared) → lookup (is_at (nat_cmp device)) devices ≡ o → HaveOneReplyEach (option_map_or (λ (d : Declared). given (request_of deeds) d.state items) o [])
    by None there = λ key one other has. absurd (omega (arith, has.1))
    by (Some d) there =
        let (own, quiet) = fit_at devices device d fit there in
        one_reply_each device_step device_cut device_parked IsFit session_devices (request_of deeds) d.state items own quiet lawful.runs_once
