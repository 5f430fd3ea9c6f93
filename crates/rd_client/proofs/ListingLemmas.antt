-- The devices that are told of, one after another.
use Rattle.std.proofs.Common.{◌≡◌, ◌∙◌, refl, sym, ap, ℕ, ◌+◌, ◌^◌, ◌<◌, ◌≤◌, Bool, true, false, List, [], ◌∷◌, ◌++◌, length, get_or, take, drop, arith, length-append}
use Rattle.std.specs.Prelude.{All, None, Some, filter, map}
use Rattle.std.specs.BTreeSet.{BTreeSet}
use Rattle.std.specs.Int.{to_le_bytes, w32}
use Rattle.std.specs.List.{flat_map}
use Rattle.std.proofs.lemmas.List.{append-nil, length-take, take-append-drop}
use Rattle.std.proofs.lemmas.List.Sums.{count_by-le-length, length-filter}
use Rattle.std.proofs.lemmas.Grind.{flat_map-append}
use Rattle.std.proofs.lemmas.List.Elements.{All-cons, All-nil, filter-append, filter_more}
use Rattle.rd_base.specs.Counted.{bytes_and_count}
use Rattle.rd_chunk.specs.Carrier.{IsMessage}
use Rattle.rd_chunk.specs.Sizes.{max_message}
use Rattle.rd_devices.specs.declared.list.Announce.{Announce}
use Rattle.rd_devices.specs.DeviceList.{HasCountableBody, announce_bytes, list_bytes}
use Rattle.rd_client.specs.Core.{ClientDevice, announce_in, is_device, is_present}
use Rattle.rd_client.specs.Heard.{client_device, client_devices, is_in_list}

-- with the next device, where it is told of
pub more_told : {X Y : Type 0} (f : X → List Y) (p : X → Bool) (xs : List X) (i : ℕ) (d : X) → i < length xs → p (get_or xs i d) ≡ true
    → flat_map f (filter p (take (i + 1) xs)) ≡ flat_map f (filter p (take i xs)) ++ f (get_or xs i d)
more_told f p xs i d within told =
    ap (λ ys. flat_map f ys) (filter_more p xs i d within ∙ rw told refl) ∙ flat_map-append f (filter p (take i xs)) (get_or xs i d ∷ []) ∙ ap (λ zs. flat_map f (filter p (take i xs)) ++ zs) (append-nil (f (get_or xs i d)))

pub none_more_told : {X : Type 0} (p : X → Bool) (xs : List X) (i : ℕ) (d : X) → i < length xs → p (get_or xs i d) ≡ false → filter p (take (i + 1) xs) ≡ filter p (take i xs)
none_more_told p xs i d within told = filter_more p xs i d within ∙ rw told (append-nil (filter p (take i xs)))

-- what the first of them are written in is no more than what all are
pub some_told : {X Y : Type 0} (f : X → List Y) (p : X → Bool) (xs : List X) (i : ℕ) → length (flat_map f (filter p (take i xs))) ≤ length (flat_map f (filter p xs))
some_told f p xs i =
    let parts : flat_map f (filter p xs) ≡ flat_map f (filter p (take i xs)) ++ flat_map f (filter p (drop i xs)) =
    ap (λ ys. flat_map f (filter p ys)) (sym (take-append-drop i xs)) ∙ ap (λ ys. flat_map f ys) (filter-append p (take i xs) (drop i xs)) ∙ flat_map-append f (filter p (take i xs)) (filter p (drop i xs)) in
    omega (arith, ap length parts, length-append (flat_map f (filter p (take i xs))) (flat_map f (filter p (drop i xs))))

-- so there is room for the next
pub next_fits : {X Y : Type 0} (f : X → List Y) (p : X → Bool) (xs : List X) (i : ℕ) (x : X) → i < length xs → x ≡ get_or xs i x → p x ≡ true
    → length (flat_map f (filter p (take i xs))) + length (f x) ≤ length (flat_map f (filter p xs))
next_fits f p xs i x within is told =
    let there : p (get_or xs i x) ≡ true = ap p (sym is) ∙ told in
    omega (arith, ap length (more_told f p xs i x within there), length-append (flat_map f (filter p (take i xs))) (f (get_or xs i x)), some_told f p xs (i + 1), ap (λ y. length (f y)) is)

-- fewer are told of than there are
pub count_less : {X : Type 0} (p : X → Bool) (xs : List X) (i : ℕ) → i < length xs → length (filter p (take i xs)) < length xs
count_less p xs i within = omega (arith, length-filter p (take i xs), count_by-le-length p (take i xs), length-take i xs)

-- and they are no more than all
pub fewer_told : {X Y : Type 0} (f : X → List Y) (p : X → Bool) (xs : List X) → length (flat_map f (filter p xs)) ≤ length (flat_map f xs)
fewer_told f p [] = omega arith
fewer_told f p (x ∷ xs) = go (p x) refl (fewer_told f p xs)
  where
    go : (b : Bool) → p x ≡ b → length (flat_map f (filter p xs)) ≤ length (flat_map f xs) → length (flat_map f (filter p (x ∷ xs))) ≤ length (flat_map f (x ∷ xs))
    go true e less = rw e (omega (arith, less, length-append (f x) (flat_map f (filter p xs)), length-append (f x) (flat_map f xs)))
    go false e less = rw e (omega (arith, less, length-append (f x) (flat_map f xs)))

-- the devices of a list that fits a message have data that can be counted
pub bodies_countable : (devices : List Announce) → length (flat_map announce_bytes devices) ≤ max_message → All HasCountableBody devices
bodies_countable [] short = All-nil HasCountableBody
bodies_countable (a ∷ devices) short =
    let own = length-append (announce_bytes a) (flat_map announce_bytes devices) in
    let body = length-append (to_le_bytes w32 a.kind ++ to_le_bytes w32 a.id ++ a.dos) (bytes_and_count a.body) in
    let counted = length-append (to_le_bytes w32 (length a.body)) a.body in
    All-cons HasCountableBody a devices (omega (arith, short, own, body, counted)) (bodies_countable devices (omega (arith, short, own)))

-- the devices with a mark are those that are told of
told_is : (gone : BTreeSet ℕ) (p : Announce → Bool) (q : ClientDevice → Bool) → ((a : Announce) → q (client_device gone a) ≡ p a) → (devices : List Announce)
    → map announce_in (filter q (client_devices devices gone)) ≡ filter p devices
told_is gone p q same [] = refl
told_is gone p q same (a ∷ devices) = go (p a) refl (told_is gone p q same devices)
  where
    go : (b : Bool) → p a ≡ b → map announce_in (filter q (client_devices devices gone)) ≡ filter p devices → map announce_in (filter q (client_devices (a ∷ devices) gone)) ≡ filter p (a ∷ devices)
    go true e later = let is : q (client_device gone a) ≡ true = same a ∙ e in rw (e, is) (ap (λ xs. a ∷ xs) later)
    go false e later = let is : q (client_device gone a) ≡ false = same a ∙ e in rw (e, is) later

pub listed_are : (gone : BTreeSet ℕ) (devices : List Announce) → map announce_in (filter is_present (client_devices devices gone)) ≡ filter (is_in_list gone None) devices
listed_are gone devices = told_is gone (is_in_list gone None) is_present (λ a. refl) devices

pub listed_one_is : (gone : BTreeSet ℕ) (device : ℕ) (devices : List Announce) → map announce_in (filter (is_device device) (client_devices devices gone)) ≡ filter (is_in_list gone (Some device)) devices
listed_one_is gone device devices = told_is gone (is_in_list gone (Some device)) (is_device device) (λ a. refl) devices

pub announces_are : (gone : BTreeSet ℕ) (devices : List Announce) → map announce_in (client_devices devices gone) ≡ devices
announces_are gone [] = refl
announces_are gone (a ∷ devices) = ap (λ xs. a ∷ xs) (announces_are gone devices)

list_length : (list : List Announce) → length (list_bytes list) ≡ 8 + length (flat_map announce_bytes list)
list_length list = omega arith

-- the same of a list as a message
pub list_countable : (devices : List Announce) → IsMessage (list_bytes devices) → All HasCountableBody devices
list_countable devices fit = bodies_countable devices (let all : length (list_bytes devices) ≡ 8 + length (flat_map announce_bytes devices) = list_length devices in omega (arith, all, fit.1))

pub list_short : (p : Announce → Bool) (devices : List Announce) → IsMessage (list_bytes devices) → length (flat_map announce_bytes (filter p devices)) < 2 ^ 32
list_short p devices fit =
    let all : length (list_bytes devices) ≡ 8 + length (flat_map announce_bytes devices) = list_length devices in
    omega (arith, all, fit.1, fewer_told announce_bytes p devices)
