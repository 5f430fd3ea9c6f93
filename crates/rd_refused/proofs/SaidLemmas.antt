-- What a client's messages say of a device.
use Rattle.std.proofs.Common.{◌≡◌, ◌∙◌, refl, ℕ, ◌==◌, ◌<◌, ◌^◌, Bool, true, false, arith, List, [], ◌∷◌, Some}
use Rattle.std.specs.Prelude.{◌||◌, ◌&&◌, not, if◌then◌else◌, Ok}
use Rattle.std.specs.List.{list_any}
use Rattle.std.specs.Int.{to_le_bytes, w32}
use Rattle.rd_base.specs.Fields.{number32}
use Rattle.rd_base.specs.Layout.{four_bytes, met}
use Rattle.rd_base.specs.Limits.{max_devices}
use Rattle.rd_base.specs.Position.{at_start}
use Rattle.rd_base.specs.declared.packet.Packet.{Packet}
use Rattle.rd_base.specs.declared.packet.Packet.TheVariants as packet
use Rattle.rd_base.specs.declared.packet.Packet.TheVariants.{DeviceListAnnounce, DeviceListRemove, IoCompletion}
use Rattle.rd_base.specs.Header.{packet_id}
use Rattle.rd_base.proofs.CountedLemmas.{counted_spelled}
use Rattle.rd_base.proofs.LayoutLemmas.{meets}
use Rattle.rd_base.proofs.SpellingLemmas.{AreSpelled, number_spelled, times_spelled}
use Rattle.rd_devices.specs.DeviceList.{SpellsList, device_list, list_bytes}
use Rattle.rd_devices.specs.Removal.{removal, removal_bytes}
use Rattle.rd_devices.specs.declared.list.Announce.{Announce}
use Rattle.rd_devices.proofs.RemovalLemmas.{removal_spelled}
use Rattle.rd_hello.specs.Hello.{hello_bytes}
use Rattle.rd_hello.specs.Moves.{packet_in}
use Rattle.rd_hello.specs.declared.hello.Hello.{Hello}
use Rattle.rd_hello.specs.declared.hello.Hello.TheVariants as hello
use Rattle.rd_irp.specs.declared.completion.Body.{Body}
use Rattle.rd_irp.specs.declared.completion.Head.{Head}
use Rattle.rd_irp.specs.declared.completion.Kind.{Kind}
use Rattle.rd_irp.specs.Written.{completion_bytes}
use Rattle.rd_deeds.specs.Talk.{announced_in, removed_in}
use Rattle.rd_deeds.specs.Told.{is_said_gone}
use Rattle.rd_deeds.proofs.Messages.{no_list_in, no_removal_in, written_packet}

-- what is said after a message that removes these and announces those
said : (d : ℕ) (m : List ℕ) (older : List (List ℕ)) (ids : List ℕ) (list : List Announce) → removed_in m ≡ ids → announced_in m ≡ list
    → is_said_gone d (m ∷ older) ≡ (if list_any (λ id. id == d) ids then true else (if list_any (λ (a : Announce). a.id == d) list then false else is_said_gone d older))
said d m older ids list removes announces = rw (removes, announces) refl

-- a message of another packet says nothing of a device
pub other_says : (p : Packet) (d : ℕ) (m : List ℕ) (older : List (List ℕ)) → packet_in m ≡ Some p → (packet_id p == packet_id DeviceListRemove) ≡ false → (packet_id p == packet_id DeviceListAnnounce) ≡ false
    → is_said_gone d (m ∷ older) ≡ is_said_gone d older
other_says p d m older is a b = said d m older [] [] (no_removal_in p m is a) (no_list_in p m is b)

removed_back : (e : ℕ) → e < 2 ^ 32 → removed_in (removal_bytes (e ∷ [])) ≡ e ∷ []
removed_back e fits =
    let ids : List ℕ = e ∷ [] in
    let each : AreSpelled number32 (to_le_bytes w32) ids = record { each = (number_spelled four_bytes e fits, tt) } in
    let s = removal_spelled ids (counted_spelled number32 (to_le_bytes w32) ids max_devices (omega arith) (omega arith) (times_spelled number32 (to_le_bytes w32) ids each)) in
    let m = meets removal 0 (removal_bytes ids) ids 0 s in
    let is : met removal (at_start (removal_bytes ids)) ≡ Ok (ids, m.0) = m.1 in
    rw is refl

-- a removal says that its device is gone, and nothing of others
pub removal_says : (d e : ℕ) (older : List (List ℕ)) → e < 2 ^ 32 → is_said_gone d (removal_bytes (e ∷ []) ∷ older) ≡ (e == d || is_said_gone d older)
removal_says d e older fits =
    said d (removal_bytes (e ∷ [])) older (e ∷ []) [] (removed_back e fits) (no_list_in DeviceListRemove (removal_bytes (e ∷ [])) (written_packet DeviceListRemove _) refl) ∙ by (e == d)
  where
    by : (b : Bool) → (if (b || false) then true else is_said_gone d older) ≡ (b || is_said_gone d older)
    by true = refl
    by false = refl

-- a list says that its devices are there, and nothing of others
pub list_says : (d : ℕ) (list : List Announce) (older : List (List ℕ)) → SpellsList list 0 (list_bytes list)
    → is_said_gone d (list_bytes list ∷ older) ≡ (not (list_any (λ (a : Announce). a.id == d) list) && is_said_gone d older)
list_says d list older spells =
    said d (list_bytes list) older [] list (no_removal_in DeviceListAnnounce (list_bytes list) (written_packet DeviceListAnnounce _) refl) back ∙ by (list_any (λ (a : Announce). a.id == d) list)
  where
    back : announced_in (list_bytes list) ≡ list
    back =
        let m = meets device_list 0 (list_bytes list) list 0 spells in
        let is : met device_list (at_start (list_bytes list)) ≡ Ok (list, m.0) = m.1 in
        rw is refl

    by : (b : Bool) → (if b then false else is_said_gone d older) ≡ (not b && is_said_gone d older)
    by true = refl
    by false = refl

-- a completion says nothing of any
pub completion_says : (d : ℕ) (kind : Kind) (head : Head) (body : Body) (older : List (List ℕ)) → is_said_gone d (completion_bytes kind head body ∷ older) ≡ is_said_gone d older
completion_says d kind head body older = other_says IoCompletion d (completion_bytes kind head body) older (written_packet IoCompletion _) refl refl

-- nor does a message of the opening
pub hello_says : (d : ℕ) (x : Hello) (older : List (List ℕ)) → is_said_gone d (hello_bytes x ∷ older) ≡ is_said_gone d older
hello_says d (hello.Announce v) older = other_says packet.ServerAnnounce d _ older (written_packet packet.ServerAnnounce _) refl refl
hello_says d (hello.Confirm v) older = other_says packet.ClientIdConfirm d _ older (written_packet packet.ClientIdConfirm _) refl refl
hello_says d (hello.Name a b c) older = other_says packet.ClientName d _ older (written_packet packet.ClientName _) refl refl
hello_says d (hello.ServerCaps caps) older = other_says packet.ServerCapability d _ older (written_packet packet.ServerCapability _) refl refl
hello_says d (hello.ClientCaps caps) older = other_says packet.ClientCapability d _ older (written_packet packet.ClientCapability _) refl refl
hello_says d hello.LoggedOn older = other_says packet.UserLoggedOn d _ older (written_packet packet.UserLoggedOn _) refl refl
