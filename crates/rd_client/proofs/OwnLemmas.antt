-- What a client writes of itself is read back, and what it comes to in the order of its messages.
use Rattle.std.proofs.Common.{◌≡◌, ◌∙◌, refl, ap, ℕ, Bool, ◌<◌, ◌≤◌, ◌^◌, true, false, List, [], ◌∷◌, ◌++◌, Some, None, Option, length, arith}
use Rattle.std.specs.Prelude.{All, Result, Ok, Err, filter, is_ok, map, not, ◌==◌}
use Rattle.std.specs.List.{AllByRecursion}
use Rattle.std.specs.Int.{to_le_bytes, w32}
use Rattle.std.proofs.lemmas.List.Elements.{All-cons, All-nil, All-tail}
use Rattle.rd_base.specs.declared.bad.Bad.{Bad}
use Rattle.rd_base.specs.declared.packet.Packet.TheVariants.{DeviceListAnnounce, DeviceListRemove, IoCompletion}
use Rattle.rd_base.specs.Counted.{items_and_count}
use Rattle.rd_base.specs.Fields.{number32}
use Rattle.rd_base.specs.Header.{component_field, header}
use Rattle.rd_base.specs.Layout.{four_bytes, met}
use Rattle.rd_base.specs.Limits.{max_devices}
use Rattle.rd_base.specs.Position.{Position, at_start}
use Rattle.rd_base.specs.Spelling.{IsSpelling}
use Rattle.rd_base.proofs.CountedLemmas.{counted_spelled}
use Rattle.rd_base.proofs.LayoutLemmas.{meets}
use Rattle.rd_base.proofs.SpellingLemmas.{AreSpelled, number_spelled, times_spelled}
use Rattle.rd_core.proofs.PacketLemmas.{header_names, other_header}
use Rattle.rd_devices.specs.declared.list.Announce.{Announce}
use Rattle.rd_devices.specs.DeviceList.{HasCountableBody, announce, announce_bytes, device_list, list_bytes}
use Rattle.rd_devices.specs.Removal.{removal, removal_bytes}
use Rattle.rd_devices.proofs.DeviceListLemmas.{announce_spelled, list_spelled}
use Rattle.rd_devices.proofs.RemovalLemmas.{removal_spelled}
use Rattle.rd_hello.specs.declared.client.ClientState.{ClientState}
use Rattle.rd_hello.specs.declared.client.ClientState.TheVariants.{Ready}
use Rattle.rd_irp.specs.declared.completion.Body.TheVariants.{Fault}
use Rattle.rd_irp.specs.declared.completion.Head.{Head}
use Rattle.rd_irp.specs.declared.completion.Kind.{Kind}
use Rattle.rd_irp.specs.declared.completion.Kind.TheVariants as kind
use Rattle.rd_irp.specs.Completion.{completion_head}
use Rattle.rd_irp.specs.Written.{completion_bytes}
use Rattle.rd_client.specs.Core.{may_be_asked}
use Rattle.rd_client.specs.Order.{ClientTelling, after_own, after_telling, are_all, first_listed, is_own_device, list_in, removal_in, telling, value_of}
use Rattle.rd_client.specs.Events.{IsWritableDevice}
use Rattle.rd_client.proofs.TellingLemmas.{is_told}

-- a completion without a body is one, whatever its numbers
pub completion_met : (k : Kind) (head : Head) → is_ok (met completion_head (at_start (completion_bytes k head Fault))) ≡ true
unfolding completion_head header component_field
completion_met kind.Create head = refl
completion_met kind.Close head = refl
completion_met kind.Count head = refl
completion_met kind.Buffer head = refl
completion_met kind.Lock head = refl

spelled_each : (list : List Announce) → AllByRecursion IsWritableDevice list → All HasCountableBody list → AllByRecursion (λ a. IsSpelling announce a (announce_bytes a)) list
spelled_each [] writable countable = tt
spelled_each (a ∷ list) writable countable =
    (announce_spelled a writable.0.0 writable.0.1 writable.0.2 (countable 0 a (omega arith)), spelled_each list writable.1 (All-tail HasCountableBody a list countable))

list_met : (list : List Announce) → length list ≤ max_devices → AllByRecursion IsWritableDevice list → All HasCountableBody list
    → (q : Position) × (met device_list (at_start (list_bytes list)) ≡ Ok (list, q))
list_met list few writable countable =
    let each : AreSpelled announce announce_bytes list = record { each = spelled_each list writable countable } in
    let s = list_spelled list (counted_spelled announce announce_bytes list max_devices (omega (arith, few)) few (times_spelled announce announce_bytes list each)) in
    let m = meets device_list 0 (list_bytes list) list 0 s in
    (m.0, m.1)

removal_met : (device : ℕ) → device < 2 ^ 32 → (q : Position) × (met removal (at_start (removal_bytes (device ∷ []))) ≡ Ok (device ∷ [], q))
removal_met device fits =
    let ids : List ℕ = device ∷ [] in
    let each : AreSpelled number32 (to_le_bytes w32) ids = record { each = (number_spelled four_bytes device fits, tt) } in
    let s = removal_spelled ids (counted_spelled number32 (to_le_bytes w32) ids max_devices (omega arith) (omega arith) (times_spelled number32 (to_le_bytes w32) ids each)) in
    let m = meets removal 0 (removal_bytes ids) ids 0 s in
    (m.0, m.1)

-- a list is no completion
list_no_completion : (list : List Announce) → is_ok (met completion_head (at_start (list_bytes list))) ≡ false
unfolding completion_head
list_no_completion list =
    let named = header_names DeviceListAnnounce (items_and_count announce_bytes list) in
    other_header DeviceListAnnounce IoCompletion completion_head _ refl (list_bytes list) named.0 named.1 (λ is. cc is)

-- a removal is neither a completion nor a list
removal_no_completion : (ids : List ℕ) → is_ok (met completion_head (at_start (removal_bytes ids))) ≡ false
unfolding completion_head
removal_no_completion ids =
    let named = header_names DeviceListRemove (items_and_count (to_le_bytes w32) ids) in
    other_header DeviceListRemove IoCompletion completion_head _ refl (removal_bytes ids) named.0 named.1 (λ is. cc is)

removal_no_list : (ids : List ℕ) → is_ok (met device_list (at_start (removal_bytes ids))) ≡ false
unfolding device_list
removal_no_list ids =
    let named = header_names DeviceListRemove (items_and_count (to_le_bytes w32) ids) in
    other_header DeviceListRemove DeviceListAnnounce device_list _ refl (removal_bytes ids) named.0 named.1 (λ is. cc is)

no_value : {A : Type 0} (r : Result (A × Position) Bad) → is_ok r ≡ false → value_of r ≡ None
no_value (Ok x) e = absurd cc
no_value (Err bad) e = refl

value_met : {A : Type 0} (r : Result (A × Position) Bad) (a : A) (q : Position) → r ≡ Ok (a, q) → value_of r ≡ Some a
value_met r a q e = ap value_of e

-- ---- what they come to

module _ (devices : List Announce) (gone : ℕ → Bool) where
  pub own_completion : (state : ClientState) (bytes : List ℕ) (t : ClientTelling) → may_be_asked state ≡ true → is_ok (met completion_head (at_start bytes)) ≡ true
      → after_own devices gone state bytes t ≡ Some t
  own_completion state bytes t asked is = rw (asked, is) refl

  -- a ready client's message that is no completion
  own_telling : (bytes : List ℕ) (t : ClientTelling) (list : Option (List Announce)) (ids : Option (List ℕ)) → is_ok (met completion_head (at_start bytes)) ≡ false
      → list_in bytes ≡ list → removal_in bytes ≡ ids
      → after_own devices gone Ready bytes t ≡ after_telling devices gone t list ids
  own_telling bytes t list ids other lists removes =
      rw other (ap (λ (l : Option (List Announce)). after_telling devices gone t l (removal_in bytes)) lists ∙ ap (λ (x : Option (List ℕ)). after_telling devices gone t list x) removes)

  pub own_removal : (t : ClientTelling) (device : ℕ) → device < 2 ^ 32 → t.lists ≡ false → is_told t.told device ≡ true
      → after_own devices gone Ready (removal_bytes (device ∷ [])) t ≡ Some (telling (filter (λ id. not (id == device)) t.told))
  own_removal t device fits after told =
      let ids : List ℕ = device ∷ [] in
      let m = removal_met device fits in
      own_telling (removal_bytes ids) t None (Some ids) (removal_no_completion ids)
      (no_value (met device_list (at_start (removal_bytes ids))) (removal_no_list ids)) (value_met (met removal (at_start (removal_bytes ids))) ids m.0 m.1)
      ∙ rw (after, told) refl

  -- a list that can be written
  own_list : (t : ClientTelling) (list : List Announce) → length list ≤ max_devices → AllByRecursion IsWritableDevice list → All HasCountableBody list
      → after_own devices gone Ready (list_bytes list) t ≡ after_telling devices gone t (Some list) (removal_in (list_bytes list))
  own_list t list few writable countable =
      let m = list_met list few writable countable in
      own_telling (list_bytes list) t (Some list) (removal_in (list_bytes list)) (list_no_completion list) (value_met (met device_list (at_start (list_bytes list))) list m.0 m.1) refl

  pub own_first_list : (t : ClientTelling) (list : List Announce) → length list ≤ max_devices → AllByRecursion IsWritableDevice list → All HasCountableBody list
      → t.lists ≡ true → are_all (first_listed devices gone) list ≡ true → after_own devices gone Ready (list_bytes list) t ≡ Some (telling (map (λ (a : Announce). a.id) list))
  own_first_list t list few writable countable before all = own_list t list few writable countable ∙ rw (before, all) refl

  pub own_addition : (t : ClientTelling) (a : Announce) → IsWritableDevice a → HasCountableBody a → t.lists ≡ false → is_own_device devices a ≡ true → is_told t.told a.id ≡ false
      → after_own devices gone Ready (list_bytes (a ∷ [])) t ≡ Some (telling (t.told ++ a.id ∷ []))
  own_addition t a writable countable after own told =
      own_list t (a ∷ []) (omega arith) (writable, tt) (All-cons HasCountableBody a [] countable (All-nil HasCountableBody)) ∙ rw (after, own, told) refl
