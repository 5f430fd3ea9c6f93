-- The replies of a session's devices, and what comes of its requests.
use Rattle.std.proofs.Common.{◌≡◌, refl, ℕ, arith, List, [], Some, None, Option}
use Rattle.std.specs.Prelude.{Contains, reverse}
use Rattle.std.specs.BTreeMap.{is_at}
use Rattle.std.specs.List.{AllByRecursion}
use Rattle.std.specs.Map.{lookup}
use Rattle.std.specs.Option.{option_map_or}
use Rattle.std.specs.Ordering.{nat_cmp}
use Rattle.std.proofs.lemmas.List.Elements.{All-contains, All-from_recursion}
use Rattle.rd_base.specs.declared.journal.Item.{Item}
use Rattle.rd_base.specs.declared.journal.Key.{Key}
use Rattle.rd_drive.proofs.AnswerLemmas.{lookup_has}
use Rattle.rd_drive.specs.Ranged.{IsReplyInRange, SetsFew}
use Rattle.rd_drive.specs.Replies.{KeyedReply, replies_by}
use Rattle.rd_irp.specs.Fits.{Fits}
use Rattle.rd_irp.specs.declared.completion.Reply.{Reply}
use Rattle.rd_irp.specs.declared.op.Op.{Op}
use Rattle.rd_irp.specs.declared.op.Op.TheVariants as op
use Rattle.rd_pending.specs.Outcomes.{Accepted}
use Rattle.rd_pending.specs.declared.calls.Outcome.TheVariants.{Done}
use Rattle.rd_ranges.proofs.JournalLemmas.{quiet_full}
use Rattle.rd_ranges.specs.Ranges.{AreFullReplies, AreFreshDevices, IsFreshDevice, IsFullReply, RunsFew}
use Rattle.rd_declared.specs.Devices.{Declared, device_cut, device_step}
use Rattle.rd_deeds.specs.Joining.{ClientCameTo, Joins, key_of}
use Rattle.rd_world.specs.Recording.{request_of}
use Rattle.rd_world.specs.Session.{replies_in}
use Rattle.rd_deeds.specs.Talk.{Deed, journal}

pub fits_few : (o : Op) → Fits o → SetsFew o
fits_few (op.Write offset bytes) fits = omega (arith, fits)
fits_few (op.SetFile class bytes) fits = omega (arith, fits)
fits_few (op.SetVolume class bytes) fits = omega (arith, fits)
fits_few _ fits = tt

module _ (devices : List (ℕ × Declared)) (deeds : List Deed) (fresh : AreFreshDevices devices) where
  all_full : (device : ℕ) (items : List Item) → AllByRecursion (RunsFew (request_of deeds)) items → AreFullReplies (request_of deeds) (replies_in devices deeds device items)
  all_full device items few = by (lookup (is_at (nat_cmp device)) devices) refl
    where
      by : (o : Option Declared) → lookup (is_at (nat_cmp device)) devices ≡ o
          → AreFullReplies (request_of deeds) (option_map_or (λ (d : Declared). replies_by device_step device_cut (request_of deeds) d.state items) o [])
      by None e = tt
      by (Some d) e =
          let own : IsFreshDevice d = lookup_has IsFreshDevice (is_at (nat_cmp device)) devices d e fresh in
          quiet_full (request_of deeds) d.state items own.fit own.quiet few

  pub given_full : (device : ℕ) (items : List Item) → AllByRecursion (RunsFew (request_of deeds)) items → (key : Key) (reply : Reply)
      → Contains (replies_in devices deeds device items) (key, reply) → IsFullReply (request_of deeds key).op reply
  given_full device items few key reply has =
      let P : KeyedReply → Type 0 = λ given. IsFullReply (request_of deeds given.0).op given.1 in
      let replies : List KeyedReply = replies_in devices deeds device items in
      All-contains P replies (key, reply) (All-from_recursion P replies (all_full device items few)) has

  pub outcome_room : (client : ℕ) → Joins client (replies_in devices deeds) deeds → ((device : ℕ) → AllByRecursion (RunsFew (request_of deeds)) (reverse (journal device deeds)))
      → (a : Accepted) (reply : Reply) → ClientCameTo client deeds a (Done reply) → IsReplyInRange reply
  outcome_room client joins few a reply came =
      (given_full a.device (reverse (journal a.device deeds)) (few a.device) (key_of a) reply (joins.replied a reply came).given.has).range
