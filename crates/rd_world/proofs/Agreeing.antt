-- A key that was read names the same request on the wire, so journals of such keys give the same replies by both.
use Rattle.std.proofs.Common.{◌≡◌, ◌∙◌, refl, sym, ap, ℕ, List, [], ◌∷◌, ◌++◌, Some}
use Rattle.std.specs.List.{AllByRecursion}
use Rattle.std.specs.Option.{unwrap_or}
use Rattle.rd_base.specs.declared.journal.Item.{Item}
use Rattle.rd_base.specs.declared.journal.Item.TheVariants.{Came, Cancelled, Cut, Ran, Sent}
use Rattle.rd_base.specs.declared.journal.Key.{Key}
use Rattle.rd_drive.specs.Replies.{KeyedReply, replies_at, replies_by, state_after}
use Rattle.rd_irp.specs.declared.request.Request.{Request}
use Rattle.rd_declared.specs.Devices.{device_cut, device_step}
use Rattle.rd_declared.specs.declared.device.SessionDevice.{SessionDevice}
use Rattle.rd_deeds.specs.Joining.{IsCarried}
use Rattle.rd_declared.specs.Replies.{RanRead, no_request, request_read}
use Rattle.rd_world.specs.Recording.{request_of}
use Rattle.rd_deeds.specs.Talk.{Deed, client_read, request_at}
use Rattle.rd_deeds.proofs.Replied.{request_since}

pub agree : (deeds : List Deed) → IsCarried deeds → (key : Key) (r : Request) → request_at (client_read key.channel deeds) key.index ≡ Some r → request_of deeds key ≡ r
agree deeds carried key r found =
    let (unread, wrote) = carried.to_client key.channel in
    let stands = ap (λ (ms : List (List ℕ)). request_at ms key.index) wrote ∙ request_since r key.index unread (client_read key.channel deeds) found in
    ap (λ o. unwrap_or o no_request) stands

read_one : (deeds : List Deed) → IsCarried deeds → (key : Key) (r : Request) → request_at (client_read key.channel deeds) key.index ≡ Some r → request_of deeds key ≡ request_read deeds key
read_one deeds carried key r found = agree deeds carried key r found ∙ sym (ap (λ o. unwrap_or o no_request) found)

pub same_replies : (deeds : List Deed) → IsCarried deeds → (s : SessionDevice) (items : List Item) → AllByRecursion (RanRead deeds) items
    → replies_by device_step device_cut (request_of deeds) s items ≡ replies_by device_step device_cut (request_read deeds) s items
same_replies deeds carried s [] all = refl
same_replies deeds carried s (Ran key moment starved parked ∷ items) all =
    same_run (read_one deeds carried key all.0.0 all.0.1) (λ (next : SessionDevice). same_replies deeds carried next items all.1)
  where
    -- what a run gives and what is left of it go by the request alone
    given : Request → List KeyedReply
    given r = replies_at device_step device_cut (λ k. r) s (Ran key moment starved parked)

    left : Request → SessionDevice
    left r = state_after device_step device_cut (λ k. r) s (Ran key moment starved parked)

    gives : Request → List KeyedReply
    gives r = given r ++ replies_by device_step device_cut (request_of deeds) (left r) items

    same_run : {r q : Request} → r ≡ q → ((next : SessionDevice) → replies_by device_step device_cut (request_of deeds) next items ≡ replies_by device_step device_cut (request_read deeds) next items)
        → gives r ≡ given q ++ replies_by device_step device_cut (request_read deeds) (left q) items
    same_run {q = q} e later = ap gives e ∙ ap (λ (xs : List KeyedReply). given q ++ xs) (later (left q))
same_replies deeds carried s (Cut cause ∷ items) all =
    ap (λ (xs : List KeyedReply). replies_at device_step device_cut (request_of deeds) s (Cut cause) ++ xs) (same_replies deeds carried (device_cut s).state items all.1)
same_replies deeds carried s (Came key ∷ items) all = same_replies deeds carried s items all.1
same_replies deeds carried s (Cancelled key ∷ items) all = same_replies deeds carried s items all.1
same_replies deeds carried s (Sent key ∷ items) all = same_replies deeds carried s items all.1
