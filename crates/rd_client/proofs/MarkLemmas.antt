-- The devices of a client, where one is removed, is there again, or has other data.
use Rattle.std.proofs.Common.{◌≡◌, ◌∙◌, refl, sym, ap, subst, ℕ, zero, suc, ◌<◌, Bool, true, false, cond, List, [], ◌∷◌, length, get_or, set, arith, ltb, lt-ltb, Some, None}
use Rattle.std.specs.Prelude.{◌==◌, ◌&&◌, ◌||◌, map, nat_eq, position}
use Rattle.std.specs.BTreeSet.{BTreeSet, contains}
use Rattle.std.specs.BTreeMap.{is_at}
use Rattle.std.specs.Ordering.{nat_cmp}
use Rattle.std.specs.List.{AllByRecursion, IsDistinct, list_any, position_or_len}
use Rattle.std.proofs.lemmas.Bool.{eqb-true}
use Rattle.std.proofs.lemmas.List.Quantifiers.{position-Some}
use Rattle.std.proofs.lemmas.Bool.Decides.{nat_tests}
use Rattle.rd_devices.specs.declared.list.Announce.{Announce}
use Rattle.rd_chunk.specs.Carrier.{IsMessage}
use Rattle.rd_core.specs.Core.{CoreState, with_message}
use Rattle.rd_hello.specs.declared.client.ClientState.{ClientState}
use Rattle.rd_client.specs.Core.{AreDevices, ClientCoreState, ClientDevice, IsClientKept, Outgoing, announce_in, device_marked, is_device, refreshed, with_mark, with_outgoing}
use Rattle.rd_client.proofs.KeptLemmas.{kept_marked, kept_written}
use Rattle.rd_client.specs.Heard.{client_device, client_devices}

both_false : (a b : Bool) → (a || b) ≡ false → (a ≡ false) × (b ≡ false)
both_false false b e = (refl, e)
both_false true b e = absurd cc

same_key : (device q : ℕ) → is_at (nat_cmp device) q ≡ (q == device)
same_key device q = grind (arith, nat_tests)

-- a device is removed, or is there again
pub marked_are : (gone new : BTreeSet ℕ) (device : ℕ) (b : Bool) → ((q : ℕ) → contains nat_cmp new q ≡ cond (is_at (nat_cmp device) q) b (contains nat_cmp gone q)) → (devices : List Announce)
    → client_devices devices new ≡ map (device_marked device b) (client_devices devices gone)
marked_are gone new device b updates [] = refl
marked_are gone new device b updates (a ∷ devices) = cc (one (a.id == device) refl, marked_are gone new device b updates devices)
  where
    one : (here : Bool) → (a.id == device) ≡ here → client_device new a ≡ device_marked device b (client_device gone a)
    one true e =
        let is : contains nat_cmp new a.id ≡ b = updates a.id ∙ rw (same_key device a.id, e) refl in
        rw (e, is) refl
    one false e =
        let is : contains nat_cmp new a.id ≡ contains nat_cmp gone a.id = updates a.id ∙ rw (same_key device a.id, e) refl in
        rw (e, is) refl

-- the removal of a device that was there is taken back
pub unmarked_are : (gone mid new : BTreeSet ℕ) (device : ℕ) → ((q : ℕ) → contains nat_cmp mid q ≡ cond (is_at (nat_cmp device) q) true (contains nat_cmp gone q))
    → ((q : ℕ) → contains nat_cmp new q ≡ cond (is_at (nat_cmp device) q) false (contains nat_cmp mid q)) → (devices : List Announce)
    → list_any (λ d. is_device device d && d.removed) (client_devices devices gone) ≡ false → client_devices devices new ≡ client_devices devices gone
unmarked_are gone mid new device inserts removes [] none = refl
unmarked_are gone mid new device inserts removes (a ∷ devices) none =
    let parts = both_false _ _ none in
    cc (one (a.id == device) refl parts.0, unmarked_are gone mid new device inserts removes devices parts.1)
  where
    one : (here : Bool) → (a.id == device) ≡ here → ((a.id == device) && contains nat_cmp gone a.id) ≡ false → client_device new a ≡ client_device gone a
    one true e there =
        let is : contains nat_cmp new a.id ≡ false = removes a.id ∙ rw (same_key device a.id, e) refl in
        let was : contains nat_cmp gone a.id ≡ false = rw e at there in
        rw (is, was) refl
    one false e there =
        let is : contains nat_cmp new a.id ≡ contains nat_cmp mid a.id = removes a.id ∙ rw (same_key device a.id, e) refl in
        let was : contains nat_cmp mid a.id ≡ contains nat_cmp gone a.id = inserts a.id ∙ rw (same_key device a.id, e) refl in
        rw (is, was) refl

-- ---- other data

not_equal : (device q : ℕ) → nat_eq device q ≡ false → (q == device) ≡ false
not_equal device q e = grind (arith, nat_tests)

pub any_same : (gone : BTreeSet ℕ) (device : ℕ) (devices : List Announce) → list_any (is_device device) (client_devices devices gone) ≡ list_any (λ (a : Announce). a.id == device) devices
any_same gone device [] = refl
any_same gone device (a ∷ devices) = ap (λ b. (a.id == device) || b) (any_same gone device devices)

-- a device with other data, where it is this one
abbrev with_data : ℕ → List ℕ → Announce → Announce
with_data device body a = cond (a.id == device) (record a { body = body }) a

refreshed_all : (gone : BTreeSet ℕ) (device : ℕ) (body : List ℕ) (devices : List Announce) → client_devices (map (with_data device body) devices) gone ≡ map (refreshed device body) (client_devices devices gone)
refreshed_all gone device body [] = refl
refreshed_all gone device body (a ∷ devices) = cc (one (a.id == device) refl, refreshed_all gone device body devices)
  where
    one : (here : Bool) → (a.id == device) ≡ here → client_device gone (with_data device body a) ≡ refreshed device body (client_device gone a)
    one true e = rw e refl
    one false e = rw e refl

-- where no device has the id nothing changes
none_changed : (device : ℕ) (body : List ℕ) (devices : List Announce) → AllByRecursion (λ y. nat_eq device y ≡ false) (map (λ (a : Announce). a.id) devices) → map (with_data device body) devices ≡ devices
none_changed device body [] none = refl
none_changed device body (a ∷ devices) none =
    let same : with_data device body a ≡ a = rw (not_equal device a.id none.0) refl in
    cc (same, none_changed device body devices none.1)

-- no device after one has its id
other_id : (k : ℕ) (devices : List Announce) (i : ℕ) (x : Announce) → AllByRecursion (λ y. nat_eq k y ≡ false) (map (λ (a : Announce). a.id) devices) → i < length devices → nat_eq k (get_or devices i x).id ≡ false
other_id k [] i x none within = absurd (omega arith)
other_id k (a ∷ devices) zero x none within = none.0
other_id k (a ∷ devices) (suc i) x none within = other_id k devices i x none.1 (omega arith)

changed_at : (device : ℕ) (body : List ℕ) (devices : List Announce) (i : ℕ) (x : Announce) → i < length devices → ((get_or devices i x).id == device) ≡ true → IsDistinct nat_eq (map (λ (a : Announce). a.id) devices)
    → set devices i (record (get_or devices i x) { body = body }) ≡ map (with_data device body) devices
unfolding IsDistinct
changed_at device body [] i x within here apart = absurd (omega arith)
changed_at device body (a ∷ devices) zero x within here apart =
    let is : a.id ≡ device = eqb-true _ _ here in
    let others = none_changed device body devices (rw is at apart.0) in
    let this : record a { body = body } ≡ with_data device body a = rw here refl in
    cc (this, others)
changed_at device body (a ∷ devices) (suc i) x within here apart =
    let is : (get_or devices i x).id ≡ device = eqb-true _ _ here in
    let apart_here : nat_eq a.id device ≡ false = ap (λ k. nat_eq a.id k) (sym is) ∙ other_id a.id devices i x apart.0 (omega arith) in
    let this : a ≡ with_data device body a = rw apart_here refl in
    cc (this, changed_at device body devices i x (omega arith) here apart.1)

-- the data of the device with an id is replaced at its place
pub refreshed_at : (gone : BTreeSet ℕ) (device : ℕ) (body : List ℕ) (devices : List Announce) (i : ℕ) (x : Announce) → position (λ (a : Announce). a.id == device) devices ≡ Some i
    → IsDistinct nat_eq (map (λ (a : Announce). a.id) devices)
    → client_devices (set devices i (record (get_or devices i x) { body = body })) gone ≡ map (refreshed device body) (client_devices devices gone)
refreshed_at gone device body devices i x found apart =
    let at = position-Some (λ (a : Announce). a.id == device) devices i x found in
    ap (λ ds. client_devices ds gone) (changed_at device body devices i x at.0 at.1 apart) ∙ refreshed_all gone device body devices

-- a device that is there has a place
any_found : (p : Announce → Bool) (devices : List Announce) → list_any p devices ≡ true → position_or_len p devices < length devices
any_found p [] any = absurd cc
any_found p (a ∷ devices) any = go (p a) refl any (any_found p devices)
  where
    go : (b : Bool) → p a ≡ b → (p a || list_any p devices) ≡ true → (list_any p devices ≡ true → position_or_len p devices < length devices) → position_or_len p (a ∷ devices) < length (a ∷ devices)
    go true e any later = rw e (omega arith)
    go false e any later = let rest : list_any p devices ≡ true = rw e at any in rw e (omega (arith, later rest))

pub has_place : (gone : BTreeSet ℕ) (device : ℕ) (devices : List Announce) → list_any (is_device device) (client_devices devices gone) ≡ true → position (λ (a : Announce). a.id == device) devices ≡ None → ⊥
has_place gone device devices has none =
    let there : position_or_len (λ (a : Announce). a.id == device) devices < length devices = any_found (λ (a : Announce). a.id == device) devices (sym (any_same gone device devices) ∙ has) in
    let found : ltb (position_or_len (λ (a : Announce). a.id == device) devices) (length devices) ≡ true = lt-ltb _ _ there in
    let other : Some (position_or_len (λ (a : Announce). a.id == device) devices) ≡ None = sym (rw found refl) ∙ none in
    cc

-- ---- what is told

pub told : (c : ClientCoreState) (device : ℕ) (b : Bool) (m n : Outgoing) (new : CoreState ClientState Outgoing) (devices : List ClientDevice) → new ≡ with_message c.core m → m ≡ n
    → devices ≡ map (device_marked device b) c.devices → record c { core = new; devices = devices } ≡ with_outgoing (with_mark c device b) n
told c device b m n new devices is same marks = ap (λ e. record c { core = e; devices = devices }) (is ∙ ap (λ o. with_message c.core o) same) ∙ ap (λ ds. record c { core = with_message c.core n; devices = ds }) marks

pub told_kept : (c : ClientCoreState) (device : ℕ) (b : Bool) (m n : Outgoing) (new : CoreState ClientState Outgoing) (devices : List ClientDevice) → IsClientKept c → IsMessage n.message → new ≡ with_message c.core m → m ≡ n
    → devices ≡ map (device_marked device b) c.devices → IsClientKept (record c { core = new; devices = devices })
told_kept c device b m n new devices kept fits is same marks =
    subst IsClientKept (sym (told c device b m n new devices is same marks)) (kept_written (with_mark c device b) n (kept_marked c device b kept) fits)

-- a client whose end and devices are as they were
pub as_before : (c : ClientCoreState) (new : CoreState ClientState Outgoing) (devices : List ClientDevice) → new ≡ c.core → devices ≡ c.devices → record c { core = new; devices = devices } ≡ c
as_before c new devices same marks = ap (λ e. record c { core = e; devices = devices }) same ∙ ap (λ ds. record c { devices = ds }) marks

pub kept_refreshed : (c : ClientCoreState) (devices : List ClientDevice) → IsClientKept c → AreDevices (map announce_in devices) → IsClientKept (record c { devices = devices })
kept_refreshed c devices kept are = record { core = kept.core; devices = are }

pub kept_as_before : (c : ClientCoreState) (new : CoreState ClientState Outgoing) (devices : List ClientDevice) → IsClientKept c → new ≡ c.core → devices ≡ c.devices → IsClientKept (record c { core = new; devices = devices })
kept_as_before c new devices kept same marks = subst IsClientKept (sym (as_before c new devices same marks)) kept

-- a device is gone that is there and removed
pub gone_is : (gone : BTreeSet ℕ) (device : ℕ) (devices : List Announce)
    → list_any (λ d. is_device device d && d.removed) (client_devices devices gone) ≡ (contains nat_cmp gone device && list_any (λ (a : Announce). a.id == device) devices)
gone_is gone device [] = elim (contains nat_cmp gone device) as (λ b. false ≡ (b && false)) [ true ↦ refl | false ↦ refl ]
gone_is gone device (a ∷ devices) = ap (λ b. ((a.id == device) && contains nat_cmp gone a.id) || b) (gone_is gone device devices) ∙ one (a.id == device) refl
  where
    one : (here : Bool) → (a.id == device) ≡ here
        → (((a.id == device) && contains nat_cmp gone a.id) || (contains nat_cmp gone device && list_any (λ (a : Announce). a.id == device) devices))
        ≡ (contains nat_cmp gone device && ((a.id == device) || list_any (λ (a : Announce). a.id == device) devices))
    one true e =
        let is : a.id ≡ device = eqb-true _ _ e in
        let same : contains nat_cmp gone a.id ≡ contains nat_cmp gone device = ap (λ k. contains nat_cmp gone k) is in
        rw (e, same) (elim (contains nat_cmp gone device) as (λ b. (b || (b && list_any (λ (a : Announce). a.id == device) devices)) ≡ (b && true)) [ true ↦ refl | false ↦ refl ])
    one false e = rw e refl
