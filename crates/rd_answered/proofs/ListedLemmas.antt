-- The lists of a client's devices are read back.
use Rattle.std.proofs.Common.{◌≡◌, refl, ap, subst, eqb-true, eq-eqb, inl, inr, ◌∙◌, ℕ, ◌<◌, ◌≤◌, ◌^◌, ◌==◌, Bool, true, false, cond, arith, List, [], ◌∷◌, map, length}
use Rattle.std.specs.Prelude.{filter, ◌||◌, ◌&&◌, not}
use Rattle.std.specs.List.{AllByRecursion, list_any}
use Rattle.std.proofs.lemmas.Bool.{cases_Bool}
use Rattle.rd_base.specs.Limits.{max_devices}
use Rattle.rd_base.specs.Spelling.{IsSpelling}
use Rattle.rd_base.proofs.CountedLemmas.{counted_spelled}
use Rattle.rd_base.proofs.SpellingLemmas.{AreSpelled, times_spelled}
use Rattle.rd_client.specs.Core.{ClientCoreState, ClientDevice, announce_in, announces, becomes_ready, device_marked, is_device, is_present, refresh, refreshed, with_mark}
use Rattle.rd_client.specs.Order.{is_client_ready}
use Rattle.rd_devices.proofs.DeviceListLemmas.{announce_spelled, list_spelled}
use Rattle.rd_devices.specs.DeviceList.{HasCountableBody, SpellsList, announce, announce_bytes, list_bytes}
use Rattle.rd_devices.specs.declared.list.Announce.{Announce}
use Rattle.rd_hello.specs.declared.client.ClientState.{ClientState}
use Rattle.rd_hello.specs.declared.client.ClientState.TheVariants.{Start, Named, Confirmed, Offered, Waiting, Ready}
use Rattle.rd_world.specs.Opening.{AreShort, IsShort}
use Rattle.rd_answered.specs.Refusing.{HasRoomToAnnounce, is_told_by}

-- ---- what can be written

-- an announcement that can be read back
abbrev IsListable : Announce → Type 0
IsListable a = HasRoomToAnnounce a × (length a.dos ≡ 8) × HasCountableBody a

listable : (list : List Announce) → AllByRecursion HasRoomToAnnounce list → AllByRecursion IsShort list → AllByRecursion IsListable list
listable [] room short = tt
listable (a ∷ list) room short = ((room.0, short.0.dos, omega (arith, short.0.body)), listable list room.1 short.1)

some_listable : (p : ClientDevice → Bool) (ds : List ClientDevice) → AllByRecursion IsListable (map announce_in ds) → AllByRecursion IsListable (map announce_in (filter p ds))
some_listable p [] all = tt
some_listable p (d ∷ ds) all = by (p d) (some_listable p ds all.1)
  where
    by : (b : Bool) → AllByRecursion IsListable (map announce_in (filter p ds)) → AllByRecursion IsListable (map announce_in (cond b (d ∷ filter p ds) (filter p ds)))
    by true rest = (all.0, rest)
    by false rest = rest

some_few : (p : ClientDevice → Bool) (ds : List ClientDevice) → length (map announce_in (filter p ds)) ≤ length (map announce_in ds)
some_few p [] = omega arith
some_few p (d ∷ ds) = by (p d) (some_few p ds)
  where
    by : (b : Bool) → length (map announce_in (filter p ds)) ≤ length (map announce_in ds) → length (map announce_in (cond b (d ∷ filter p ds) (filter p ds))) ≤ length (map announce_in (d ∷ ds))
    by true rest = omega (arith, rest)
    by false rest = omega (arith, rest)

spelled_each : (list : List Announce) → AllByRecursion IsListable list → AllByRecursion (λ a. IsSpelling announce a (announce_bytes a)) list
spelled_each [] all = tt
spelled_each (a ∷ list) all = (announce_spelled a (all.0).0.0 (all.0).0.1 (all.0).1 (all.0).2, spelled_each list all.1)

pub spells : (p : ClientDevice → Bool) (c : ClientCoreState) → AreShort (announces c) → AllByRecursion HasRoomToAnnounce (announces c)
    → let list : List Announce = map announce_in (filter p c.devices) in SpellsList list 0 (list_bytes list)
spells p c short room =
    let list : List Announce = map announce_in (filter p c.devices) in
    let each : AreSpelled announce announce_bytes list = record { each = spelled_each list (some_listable p c.devices (listable (announces c) room short.each)) } in
    let few : length list ≤ max_devices = omega (arith, some_few p c.devices, short.few) in
    list_spelled list (counted_spelled announce announce_bytes list max_devices (omega (arith, few)) few (times_spelled announce announce_bytes list each))

-- ---- numbers

other_of : (n d e : ℕ) → (n == e) ≡ true → (d == e) ≡ false → (n == d) ≡ false
other_of n d e same other = elim (cases_Bool (n == d)) [
  | inl is ↦ (let own : (d == e) ≡ true = subst (λ (k : ℕ). (k == e) ≡ true) (eqb-true n d is) same in absurd (cc (own, other)))
  | inr is ↦ is
]

turned : (d e : ℕ) → (d == e) ≡ false → (e == d) ≡ false
turned d e other = other_of e d e (eq-eqb e e refl) other

-- ---- marks

abbrev pub Has : ℕ → List ClientDevice → Bool
Has d ds = list_any (is_device d) ds

abbrev pub Gone : ℕ → List ClientDevice → Bool
Gone d ds = list_any (λ x. is_device d x && x.removed) ds

pub has_marked : (d e : ℕ) (b : Bool) (ds : List ClientDevice) → Has d (map (device_marked e b) ds) ≡ Has d ds
has_marked d e b [] = refl
has_marked d e b (x ∷ ds) = by (is_device e x) (has_marked d e b ds)
  where
    by : (m : Bool) → Has d (map (device_marked e b) ds) ≡ Has d ds → (is_device d (cond m (record x { removed = b }) x) || Has d (map (device_marked e b) ds)) ≡ (is_device d x || Has d ds)
    by true rest = λ i. is_device d x || rest i
    by false rest = λ i. is_device d x || rest i

pub has_refreshed : (d e : ℕ) (body : List ℕ) (ds : List ClientDevice) → Has d (map (refreshed e body) ds) ≡ Has d ds
has_refreshed d e body [] = refl
has_refreshed d e body (x ∷ ds) = by (is_device e x) (has_refreshed d e body ds)
  where
    by : (m : Bool) → Has d (map (refreshed e body) ds) ≡ Has d ds → (is_device d (cond m (record x { announce = record x.announce { body = body } }) x) || Has d (map (refreshed e body) ds)) ≡ (is_device d x || Has d ds)
    by true rest = λ i. is_device d x || rest i
    by false rest = λ i. is_device d x || rest i

pub room_refreshed : (e : ℕ) (body : List ℕ) (ds : List ClientDevice) → AllByRecursion HasRoomToAnnounce (map announce_in ds) → AllByRecursion HasRoomToAnnounce (map announce_in (map (refreshed e body) ds))
room_refreshed e body [] all = tt
room_refreshed e body (x ∷ ds) all = by (is_device e x) (room_refreshed e body ds all.1)
  where
    by : (m : Bool) → AllByRecursion HasRoomToAnnounce (map announce_in (map (refreshed e body) ds))
        → HasRoomToAnnounce (announce_in (cond m (record x { announce = record x.announce { body = body } }) x)) × AllByRecursion HasRoomToAnnounce (map announce_in (map (refreshed e body) ds))
    by true rest = (all.0, rest)
    by false rest = (all.0, rest)

abbrev id_of : ClientDevice → ℕ
id_of x = (x.announce).id

marked : (p b r h : Bool) → p ≡ true → r ≡ (b && h) → ((p && b) || r) ≡ (b && (p || h))
marked true true r h is rest = refl
marked true false r h is rest = rest
marked false b r h is rest = absurd (cc (is))

unmarked : (p q b r h : Bool) → p ≡ false → r ≡ (b && h) → ((p && q) || r) ≡ (b && (p || h))
unmarked false q b r h is rest = rest
unmarked true q b r h is rest = absurd (cc (is))

pub gone_own : (e : ℕ) (b : Bool) (ds : List ClientDevice) → Gone e (map (device_marked e b) ds) ≡ (b && Has e ds)
gone_own e true [] = refl
gone_own e false [] = refl
gone_own e b (x ∷ ds) = by (is_device e x) refl (gone_own e b ds)
  where
    by : (m : Bool) → is_device e x ≡ m → Gone e (map (device_marked e b) ds) ≡ (b && Has e ds)
        → ((is_device e (cond m (record x { removed = b }) x) && (cond m (record x { removed = b }) x).removed) || Gone e (map (device_marked e b) ds)) ≡ (b && (is_device e x || Has e ds))
    by true is rest = marked (is_device e x) b (Gone e (map (device_marked e b) ds)) (Has e ds) is rest
    by false is rest = unmarked (is_device e x) x.removed b (Gone e (map (device_marked e b) ds)) (Has e ds) is rest

off : (p q s r t : Bool) → p ≡ false → r ≡ t → ((p && q) || r) ≡ ((p && s) || t)
off false q s r t is rest = rest
off true q s r t is rest = absurd (cc (is))

pub gone_other : (d e : ℕ) (b : Bool) (ds : List ClientDevice) → (d == e) ≡ false → Gone d (map (device_marked e b) ds) ≡ Gone d ds
gone_other d e b [] other = refl
gone_other d e b (x ∷ ds) other = by (is_device e x) refl (gone_other d e b ds other)
  where
    by : (m : Bool) → is_device e x ≡ m → Gone d (map (device_marked e b) ds) ≡ Gone d ds
        → ((is_device d (cond m (record x { removed = b }) x) && (cond m (record x { removed = b }) x).removed) || Gone d (map (device_marked e b) ds)) ≡ ((is_device d x && x.removed) || Gone d ds)
    by true is rest = off (is_device d x) b x.removed _ _ (other_of (id_of x) d e is other) rest
    by false is rest = ap (λ (z : Bool). (is_device d x && x.removed) || z) rest

pub gone_refreshed : (d e : ℕ) (body : List ℕ) (ds : List ClientDevice) → Gone d (map (refreshed e body) ds) ≡ Gone d ds
gone_refreshed d e body [] = refl
gone_refreshed d e body (x ∷ ds) = by (is_device e x) (gone_refreshed d e body ds)
  where
    by : (m : Bool) → Gone d (map (refreshed e body) ds) ≡ Gone d ds
        → ((is_device d (cond m (record x { announce = record x.announce { body = body } }) x) && (cond m (record x { announce = record x.announce { body = body } }) x).removed) || Gone d (map (refreshed e body) ds)) ≡ ((is_device d x && x.removed) || Gone d ds)
    by true rest = ap (λ (z : Bool). (is_device d x && x.removed) || z) rest
    by false rest = ap (λ (z : Bool). (is_device d x && x.removed) || z) rest

-- the device of a number has room for it
pub room_of : (d : ℕ) (ds : List ClientDevice) → AllByRecursion HasRoomToAnnounce (map announce_in ds) → Has d ds ≡ true → d < 2 ^ 32
room_of d [] all has = absurd (cc has)
room_of d (x ∷ ds) all has = by (is_device d x) refl has (room_of d ds all.1)
  where
    by : (m : Bool) → is_device d x ≡ m → (m || Has d ds) ≡ true → (Has d ds ≡ true → d < 2 ^ 32) → d < 2 ^ 32
    by true is has later = let same : (x.announce).id ≡ d = eqb-true (x.announce).id d is in subst (λ (n : ℕ). n < 2 ^ 32) same (all.0).1
    by false is has later = later has

-- a device that is there is listed
pub listed_has : (d : ℕ) (ds : List ClientDevice) → (Has d ds && not (Gone d ds)) ≡ true → list_any (λ (a : Announce). a.id == d) (map announce_in (filter is_present ds)) ≡ true
listed_has d [] is = absurd (cc is)
listed_has d (x ∷ ds) is = by (is_device d x) x.removed refl is (listed_has d ds)
  where
    both : (h g : Bool) → (h && not (true || g)) ≡ true → ⊥
    both true g e = cc e
    both false g e = cc e

    skip : (p : Bool) (rest : Bool) → rest ≡ true → (p || rest) ≡ true
    skip true rest e = refl
    skip false rest e = e

    by : (p r : Bool) → is_device d x ≡ p → ((p || Has d ds) && not ((p && r) || Gone d ds)) ≡ true → ((Has d ds && not (Gone d ds)) ≡ true → list_any (λ (a : Announce). a.id == d) (map announce_in (filter is_present ds)) ≡ true)
        → list_any (λ (a : Announce). a.id == d) (map announce_in (cond (not r) (x ∷ filter is_present ds) (filter is_present ds))) ≡ true
    by true true is e later = absurd (both true (Gone d ds) e)
    by true false is e later = ap (λ (z : Bool). z || list_any (λ (a : Announce). a.id == d) (map announce_in (filter is_present ds))) is
    by false true is e later = later e
    by false false is e later = skip ((x.announce).id == d) _ (later e)

-- ---- when a client becomes ready

pub ready_moves : (state next : ClientState) → becomes_ready state next ≡ (not (is_client_ready state) && is_client_ready next)
ready_moves Start Start = refl
ready_moves Start Named = refl
ready_moves Start Confirmed = refl
ready_moves Start (Offered others) = refl
ready_moves Start Waiting = refl
ready_moves Start Ready = refl
ready_moves Named Start = refl
ready_moves Named Named = refl
ready_moves Named Confirmed = refl
ready_moves Named (Offered others) = refl
ready_moves Named Waiting = refl
ready_moves Named Ready = refl
ready_moves Confirmed Start = refl
ready_moves Confirmed Named = refl
ready_moves Confirmed Confirmed = refl
ready_moves Confirmed (Offered others) = refl
ready_moves Confirmed Waiting = refl
ready_moves Confirmed Ready = refl
ready_moves (Offered tells) Start = refl
ready_moves (Offered tells) Named = refl
ready_moves (Offered tells) Confirmed = refl
ready_moves (Offered tells) (Offered others) = refl
ready_moves (Offered tells) Waiting = refl
ready_moves (Offered tells) Ready = refl
ready_moves Waiting Start = refl
ready_moves Waiting Named = refl
ready_moves Waiting Confirmed = refl
ready_moves Waiting (Offered others) = refl
ready_moves Waiting Waiting = refl
ready_moves Waiting Ready = refl
ready_moves Ready Start = refl
ready_moves Ready Named = refl
ready_moves Ready Confirmed = refl
ready_moves Ready (Offered others) = refl
ready_moves Ready Waiting = refl
ready_moves Ready Ready = refl

-- ---- what the host was told

abbrev Shown : Bool → Bool → Bool → Bool
Shown ready has gone = ready && (has && not gone)

pub told_other : (c : ClientCoreState) (e d : ℕ) (b : Bool) → (d == e) ≡ false → is_told_by (with_mark c e b) d ≡ is_told_by c d
told_other c e d b other = λ i. Shown (is_client_ready (c.core).shake) (has_marked d e b c.devices i) (gone_other d e b c.devices other i)

pub told_removed_off : (c : ClientCoreState) (d : ℕ) → is_told_by (with_mark c d true) d ≡ false
told_removed_off c d = (λ i. Shown (is_client_ready (c.core).shake) (has_marked d d true c.devices i) (gone_own d true c.devices i)) ∙ by (is_client_ready (c.core).shake) (Has d c.devices)
  where
    by : (r h : Bool) → Shown r h (true && h) ≡ false
    by true true = refl
    by true false = refl
    by false h = refl

pub told_refreshed : (c : ClientCoreState) (e d : ℕ) (body : List ℕ) → is_told_by (refresh c e body) d ≡ is_told_by c d
told_refreshed c e d body = λ i. Shown (is_client_ready (c.core).shake) (has_refreshed d e body c.devices i) (gone_refreshed d e body c.devices i)
