-- What a client says of its devices is what its marks say.
use Rattle.std.proofs.Common.{◌≡◌, ◌∙◌, refl, sym, ap, subst, ℕ, ◌==◌, ◌<◌, ◌^◌, Bool, true, false, List, [], ◌∷◌, map, eqb-true, eq-eqb, inl, inr}
use Rattle.std.specs.Prelude.{◌||◌, ◌&&◌, not, cond, filter, nat_eq}
use Rattle.std.specs.List.{AllByRecursion, IsDistinct, list_any}
use Rattle.std.proofs.lemmas.Bool.{cases_Bool}
use Rattle.rd_client.specs.Core.{AreDevices, ClientCoreState, ClientDevice, announce_in, announces, device_marked, is_device, is_present, listed, listed_one, refresh, refreshed, tell_added, tell_removed}
use Rattle.rd_devices.specs.DeviceList.{SpellsList, list_bytes}
use Rattle.rd_devices.specs.Removal.{removal_bytes}
use Rattle.rd_devices.specs.declared.list.Announce.{Announce}
use Rattle.rd_deeds.specs.Told.{is_said_gone}
use Rattle.rd_refused.specs.Refused.{MarksSay}
use Rattle.rd_refused.proofs.SaidLemmas.{list_says, removal_says}

abbrev Has : ℕ → List ClientDevice → Bool
Has d ds = list_any (is_device d) ds

abbrev Gone : ℕ → List ClientDevice → Bool
Gone d ds = list_any (λ x. is_device d x && x.removed) ds

abbrev id_of : ClientDevice → ℕ
id_of x = (x.announce).id

-- ---- numbers

other_of : (n d e : ℕ) → (n == e) ≡ true → (d == e) ≡ false → (n == d) ≡ false
other_of n d e same other = elim (cases_Bool (n == d)) [
  | inl is ↦ (let own : (d == e) ≡ true = subst (λ (k : ℕ). (k == e) ≡ true) (eqb-true n d is) same in absurd (cc (own, other)))
  | inr is ↦ is
]

turned : (d e : ℕ) → (d == e) ≡ false → (e == d) ≡ false
turned d e other = other_of e d e (eq-eqb e e refl) other

-- ---- marks

has_marked : (d e : ℕ) (b : Bool) (ds : List ClientDevice) → Has d (map (device_marked e b) ds) ≡ Has d ds
has_marked d e b [] = refl
has_marked d e b (x ∷ ds) = by (is_device e x) (has_marked d e b ds)
  where
    by : (m : Bool) → Has d (map (device_marked e b) ds) ≡ Has d ds → (is_device d (cond m (record x { removed = b }) x) || Has d (map (device_marked e b) ds)) ≡ (is_device d x || Has d ds)
    by true rest = ap (λ (z : Bool). is_device d x || z) rest
    by false rest = ap (λ (z : Bool). is_device d x || z) rest

marked : (p b r h : Bool) → p ≡ true → r ≡ (b && h) → ((p && b) || r) ≡ (b && (p || h))
marked true true r h is rest = refl
marked true false r h is rest = rest
marked false b r h is rest = absurd (cc (is))

unmarked : (p q b r h : Bool) → p ≡ false → r ≡ (b && h) → ((p && q) || r) ≡ (b && (p || h))
unmarked false q b r h is rest = rest
unmarked true q b r h is rest = absurd (cc (is))

gone_own : (e : ℕ) (b : Bool) (ds : List ClientDevice) → Gone e (map (device_marked e b) ds) ≡ (b && Has e ds)
gone_own e true [] = refl
gone_own e false [] = refl
gone_own e b (x ∷ ds) = by (is_device e x) refl (gone_own e b ds)
  where
    by : (m : Bool) → is_device e x ≡ m → Gone e (map (device_marked e b) ds) ≡ (b && Has e ds)
        → ((is_device e (cond m (record x { removed = b }) x) && (cond m (record x { removed = b }) x).removed) || Gone e (map (device_marked e b) ds)) ≡ (b && (is_device e x || Has e ds))
    by true is rest = marked (is_device e x) b (Gone e (map (device_marked e b) ds)) (Has e ds) is rest
    by false is rest = unmarked (is_device e x) x.removed b (Gone e (map (device_marked e b) ds)) (Has e ds) is rest

off : (p q s r t : Bool) → p ≡ false → r ≡ t → ((p && q) || r) ≡ ((p && s) || t)
off false q s r t is rest = rest
off true q s r t is rest = absurd (cc (is))

gone_other : (d e : ℕ) (b : Bool) (ds : List ClientDevice) → (d == e) ≡ false → Gone d (map (device_marked e b) ds) ≡ Gone d ds
gone_other d e b [] other = refl
gone_other d e b (x ∷ ds) other = by (is_device e x) refl (gone_other d e b ds other)
  where
    by : (m : Bool) → is_device e x ≡ m → Gone d (map (device_marked e b) ds) ≡ Gone d ds
        → ((is_device d (cond m (record x { removed = b }) x) && (cond m (record x { removed = b }) x).removed) || Gone d (map (device_marked e b) ds)) ≡ ((is_device d x && x.removed) || Gone d ds)
    by true is rest = off (is_device d x) b x.removed _ _ (other_of (id_of x) d e is other) rest
    by false is rest = ap (λ (z : Bool). (is_device d x && x.removed) || z) rest

has_refreshed : (d e : ℕ) (body : List ℕ) (ds : List ClientDevice) → Has d (map (refreshed e body) ds) ≡ Has d ds
has_refreshed d e body [] = refl
has_refreshed d e body (x ∷ ds) = by (is_device e x) (has_refreshed d e body ds)
  where
    by : (m : Bool) → Has d (map (refreshed e body) ds) ≡ Has d ds → (is_device d (cond m (record x { announce = record x.announce { body = body } }) x) || Has d (map (refreshed e body) ds)) ≡ (is_device d x || Has d ds)
    by true rest = ap (λ (z : Bool). is_device d x || z) rest
    by false rest = ap (λ (z : Bool). is_device d x || z) rest

gone_refreshed : (d e : ℕ) (body : List ℕ) (ds : List ClientDevice) → Gone d (map (refreshed e body) ds) ≡ Gone d ds
gone_refreshed d e body [] = refl
gone_refreshed d e body (x ∷ ds) = by (is_device e x) (gone_refreshed d e body ds)
  where
    by : (m : Bool) → Gone d (map (refreshed e body) ds) ≡ Gone d ds
        → ((is_device d (cond m (record x { announce = record x.announce { body = body } }) x) && (cond m (record x { announce = record x.announce { body = body } }) x).removed) || Gone d (map (refreshed e body) ds)) ≡ ((is_device d x && x.removed) || Gone d ds)
    by true rest = ap (λ (z : Bool). (is_device d x && x.removed) || z) rest
    by false rest = ap (λ (z : Bool). (is_device d x && x.removed) || z) rest

-- ---- lists of one device

Listed : ℕ → ℕ → List ClientDevice → Bool
Listed d e ds = list_any (λ (a : Announce). a.id == d) (map announce_in (filter (is_device e) ds))

own_listed : (e : ℕ) (ds : List ClientDevice) → Listed e e ds ≡ Has e ds
unfolding Listed
own_listed e [] = refl
own_listed e (x ∷ ds) = by (is_device e x) refl (own_listed e ds)
  where
    by : (m : Bool) → is_device e x ≡ m → Listed e e ds ≡ Has e ds → list_any (λ (a : Announce). a.id == e) (map announce_in (cond m (x ∷ filter (is_device e) ds) (filter (is_device e) ds))) ≡ (is_device e x || Has e ds)
    by true is rest = ap (λ (z : Bool). is_device e x || z) rest
    by false is rest = rest ∙ ap (λ (z : Bool). z || Has e ds) (sym is)

none_listed : (d e : ℕ) (ds : List ClientDevice) → (d == e) ≡ false → Listed d e ds ≡ false
unfolding Listed
none_listed d e [] other = refl
none_listed d e (x ∷ ds) other = by (is_device e x) refl (none_listed d e ds other)
  where
    by : (m : Bool) → is_device e x ≡ m → Listed d e ds ≡ false → list_any (λ (a : Announce). a.id == d) (map announce_in (cond m (x ∷ filter (is_device e) ds) (filter (is_device e) ds))) ≡ false
    by true is rest = ap (λ (z : Bool). z || Listed d e ds) (other_of (id_of x) d e is other) ∙ rest
    by false is rest = rest

-- ---- what is said

told : Bool → Bool → Bool
told has gone = not (has && not gone)

pub removal_marks : (c : ClientCoreState) (e : ℕ) (older : List (List ℕ)) → e < 2 ^ 32 → MarksSay c older → MarksSay (tell_removed c e) (removal_bytes (e ∷ []) ∷ older)
unfolding told
removal_marks c e older fits say d = removal_says d e older fits ∙ by (d == e) refl
  where
    both : (h : Bool) → true ≡ told h (true && h)
    both true = refl
    both false = refl

    by : (m : Bool) → (d == e) ≡ m → (e == d || is_said_gone d older) ≡ told (Has d (map (device_marked e true) c.devices)) (Gone d (map (device_marked e true) c.devices))
    by true is =
        let same : d ≡ e = eqb-true d e is in
        ap (λ (z : Bool). z || is_said_gone d older) (eq-eqb e d (sym same)) ∙ both (Has d c.devices)
        ∙ ap (λ (z : Bool). told (Has d c.devices) z) (sym (subst (λ (k : ℕ). Gone k (map (device_marked e true) c.devices) ≡ (true && Has k c.devices)) (sym same) (gone_own e true c.devices)))
        ∙ ap (λ (z : Bool). told z (Gone d (map (device_marked e true) c.devices))) (sym (has_marked d e true c.devices))
    by false is =
        ap (λ (z : Bool). z || is_said_gone d older) (turned d e is) ∙ say d
        ∙ ap (λ (z : Bool). told (Has d c.devices) z) (sym (gone_other d e true c.devices is))
        ∙ ap (λ (z : Bool). told z (Gone d (map (device_marked e true) c.devices))) (sym (has_marked d e true c.devices))

pub addition_marks : (c : ClientCoreState) (e : ℕ) (older : List (List ℕ)) → SpellsList (listed_one c e) 0 (list_bytes (listed_one c e)) → MarksSay c older
    → MarksSay (tell_added c e) (list_bytes (listed_one c e) ∷ older)
unfolding told Listed
addition_marks c e older spells say d = list_says d (listed_one c e) older spells ∙ by (d == e) refl
  where
    both : (h g : Bool) → (not h && told h g) ≡ told h (false && h)
    both true g = refl
    both false g = refl

    by : (m : Bool) → (d == e) ≡ m → (not (Listed d e c.devices) && is_said_gone d older) ≡ told (Has d (map (device_marked e false) c.devices)) (Gone d (map (device_marked e false) c.devices))
    by true is =
        let same : d ≡ e = eqb-true d e is in
        ap (λ (z : Bool). not z && is_said_gone d older) (subst (λ (k : ℕ). Listed k e c.devices ≡ Has k c.devices) (sym same) (own_listed e c.devices))
        ∙ ap (λ (z : Bool). not (Has d c.devices) && z) (say d) ∙ both (Has d c.devices) (Gone d c.devices)
        ∙ ap (λ (z : Bool). told (Has d c.devices) z) (sym (subst (λ (k : ℕ). Gone k (map (device_marked e false) c.devices) ≡ (false && Has k c.devices)) (sym same) (gone_own e false c.devices)))
        ∙ ap (λ (z : Bool). told z (Gone d (map (device_marked e false) c.devices))) (sym (has_marked d e false c.devices))
    by false is =
        ap (λ (z : Bool). not z && is_said_gone d older) (none_listed d e c.devices is) ∙ say d
        ∙ ap (λ (z : Bool). told (Has d c.devices) z) (sym (gone_other d e false c.devices is))
        ∙ ap (λ (z : Bool). told z (Gone d (map (device_marked e false) c.devices))) (sym (has_marked d e false c.devices))

pub refresh_marks : (c : ClientCoreState) (e : ℕ) (body : List ℕ) (older : List (List ℕ)) → MarksSay c older → MarksSay (refresh c e body) older
unfolding told
refresh_marks c e body older say d =
    say d ∙ ap (λ (z : Bool). told (Has d c.devices) z) (sym (gone_refreshed d e body c.devices))
    ∙ ap (λ (z : Bool). told z (Gone d (map (refreshed e body) c.devices))) (sym (has_refreshed d e body c.devices))

-- ---- the first list

Present : ℕ → List ClientDevice → Bool
Present d ds = list_any (λ (a : Announce). a.id == d) (map announce_in (filter is_present ds))

none_has : (d : ℕ) (ds : List ClientDevice) → AllByRecursion (λ y. nat_eq d y ≡ false) (map (λ (a : Announce). a.id) (map announce_in ds)) → Has d ds ≡ false
none_has d [] differ = refl
none_has d (x ∷ ds) differ = ap (λ (z : Bool). z || Has d ds) (turned d (id_of x) differ.0) ∙ none_has d ds differ.1

left_off : (p r : Bool) → (p || r) ≡ false → (p ≡ false) × (r ≡ false)
left_off false r is = (refl, is)
left_off true r is = absurd (cc (is))

none_gone : (d : ℕ) (ds : List ClientDevice) → Has d ds ≡ false → Gone d ds ≡ false
none_gone d [] none = refl
none_gone d (x ∷ ds) none = let both = left_off (is_device d x) (Has d ds) none in ap (λ (z : Bool). (z && x.removed) || Gone d ds) both.0 ∙ none_gone d ds both.1

none_present : (d : ℕ) (ds : List ClientDevice) → Has d ds ≡ false → Present d ds ≡ false
unfolding Present
none_present d [] none = refl
none_present d (x ∷ ds) none = let both = left_off (is_device d x) (Has d ds) none in by (not x.removed) both.0 (none_present d ds both.1)
  where
    by : (m : Bool) → is_device d x ≡ false → Present d ds ≡ false → list_any (λ (a : Announce). a.id == d) (map announce_in (cond m (x ∷ filter is_present ds) (filter is_present ds))) ≡ false
    by true off rest = ap (λ (z : Bool). z || Present d ds) off ∙ rest
    by false off rest = rest

present_is : (d : ℕ) (ds : List ClientDevice) → IsDistinct nat_eq (map (λ (a : Announce). a.id) (map announce_in ds)) → Present d ds ≡ (Has d ds && not (Gone d ds))
unfolding Present IsDistinct
present_is d [] apart = refl
present_is d (x ∷ ds) apart = by (is_device d x) x.removed refl (present_is d ds apart.1)
  where
    alone : is_device d x ≡ true → Has d ds ≡ false
    alone is = none_has d ds (subst (λ (k : ℕ). AllByRecursion (λ y. nat_eq k y ≡ false) (map (λ (a : Announce). a.id) (map announce_in ds))) (eqb-true (id_of x) d is) apart.0)

    by : (p r : Bool) → is_device d x ≡ p → Present d ds ≡ (Has d ds && not (Gone d ds))
        → list_any (λ (a : Announce). a.id == d) (map announce_in (cond (not r) (x ∷ filter is_present ds) (filter is_present ds))) ≡ ((p || Has d ds) && not ((p && r) || Gone d ds))
    by true true is rest = none_present d ds (alone is)
    by true false is rest = ap (λ (z : Bool). z || Present d ds) is ∙ ap not (sym (none_gone d ds (alone is)))
    by false true is rest = rest
    by false false is rest = ap (λ (z : Bool). z || Present d ds) is ∙ rest

pub first_marks : (c : ClientCoreState) (older : List (List ℕ)) → AreDevices (announces c) → SpellsList (listed c) 0 (list_bytes (listed c)) → ((d : ℕ) → is_said_gone d older ≡ true) → MarksSay c (list_bytes (listed c) ∷ older)
unfolding Present
first_marks c older are spells say d =
    list_says d (listed c) older spells ∙ ap (λ (z : Bool). not (Present d c.devices) && z) (say d) ∙ and_true (not (Present d c.devices)) ∙ ap not (present_is d c.devices are.apart)
  where
    and_true : (b : Bool) → (b && true) ≡ b
    and_true true = refl
    and_true false = refl
