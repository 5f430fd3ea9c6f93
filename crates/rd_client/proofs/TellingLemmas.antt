-- Which of a client's devices are told of.
use Rattle.std.proofs.Common.{◌≡◌, ◌∙◌, refl, sym, ap, subst, ℕ, Bool, true, false, List, [], ◌∷◌, ◌++◌, eqb-true, eq-eqb, inl, inr}
use Rattle.std.specs.Prelude.{map, filter, not, nat_eq, ◌==◌, ◌&&◌, ◌||◌, bytes_eq}
use Rattle.std.specs.List.{AllByRecursion, IsDistinct, list_any}
use Rattle.std.proofs.lemmas.Bool.{cases_Bool}
use Rattle.std.proofs.lemmas.List.Folds.{list_any-append}
use Rattle.std.proofs.lemmas.Map.Views.{any-filter_same}
use Rattle.std.proofs.lemmas.Slice.Eq.{bytes_eq-Decides}
use Rattle.rd_devices.specs.declared.list.Announce.{Announce}
use Rattle.rd_client.specs.Core.{ClientDevice, announce_in, device_marked, is_device, is_present, refreshed}
use Rattle.rd_client.specs.Order.{are_all, first_listed, is_own_device, is_same}
use Rattle.rd_client.specs.Events.{IsWritableDevice, without_data}

-- ---- what holds of each

each : {X : Type 0} (P Q : X → Type 0) → ((x : X) → P x → Q x) → (xs : List X) → AllByRecursion P xs → AllByRecursion Q xs
each P Q f [] all = tt
each P Q f (x ∷ xs) all = (f x all.0, each P Q f xs all.1)

each_map : {X Y : Type 0} (P : X → Type 0) (Q : Y → Type 0) (g : X → Y) → ((x : X) → P x → Q (g x)) → (xs : List X) → AllByRecursion P xs → AllByRecursion Q (map g xs)
each_map P Q g f [] all = tt
each_map P Q g f (x ∷ xs) all = (f x all.0, each_map P Q g f xs all.1)

each_both : {X : Type 0} (P Q R : X → Type 0) → ((x : X) → P x → Q x → R x) → (xs : List X) → AllByRecursion P xs → AllByRecursion Q xs → AllByRecursion R xs
each_both P Q R f [] ps qs = tt
each_both P Q R f (x ∷ xs) ps qs = (f x ps.0 qs.0, each_both P Q R f xs ps.1 qs.1)

-- ---- ids

-- the id of a device
abbrev pub device_id : ClientDevice → ℕ
device_id d = (d.announce).id

-- whether a device is told of
abbrev pub is_told : List ℕ → ℕ → Bool
is_told told device = list_any (λ id. id == device) told

-- no two devices have the same id
abbrev pub AreApart : List ClientDevice → Type 0
AreApart ds = IsDistinct nat_eq (map (λ (a : Announce). a.id) (map announce_in ds))

-- the other devices have other ids
others_differ : (device : ℕ) (ds : List ClientDevice) → AllByRecursion (λ y. nat_eq device y ≡ false) (map (λ (a : Announce). a.id) (map announce_in ds))
    → AllByRecursion (λ (d : ClientDevice). (device == device_id d) ≡ false) ds
others_differ device [] differ = tt
others_differ device (d ∷ ds) differ = (differ.0, others_differ device ds differ.1)

flip : (a b : ℕ) → (a == b) ≡ false → (b == a) ≡ false
flip a b differ = elim (cases_Bool (b == a)) [
  | inl e ↦ (let is : b ≡ a = eqb-true b a e in absurd cc)
  | inr e ↦ e
]

-- ---- when the channel begins

none_with : (device : ℕ) (ds : List ClientDevice) → AllByRecursion (λ (d : ClientDevice). (device == device_id d) ≡ false) ds
    → list_any (λ d. is_device device d && d.removed) ds ≡ false
none_with device [] differ = refl
none_with device (d ∷ ds) differ = let other : (device_id d == device) ≡ false = flip device (device_id d) differ.0 in rw (other, none_with device ds differ.1) refl

-- a device is gone that is removed
pub gone_are : (ds : List ClientDevice) → AreApart ds → AllByRecursion (λ (d : ClientDevice). d.removed ≡ list_any (λ e. is_device (device_id d) e && e.removed) ds) ds
unfolding IsDistinct
gone_are [] apart = tt
gone_are (d ∷ ds) apart =
    let differ = others_differ (device_id d) ds apart.0 in (
      (let same : (device_id d == device_id d) ≡ true = eq-eqb (device_id d) (device_id d) refl in
          rw (same, none_with (device_id d) ds differ) (elim d.removed as (λ b. b ≡ (b || false)) [ true ↦ refl | false ↦ refl ])),
      each_both (λ (e : ClientDevice). e.removed ≡ list_any (λ x. is_device (device_id e) x && x.removed) ds) (λ (e : ClientDevice). (device_id d == device_id e) ≡ false)
          (λ (e : ClientDevice). e.removed ≡ list_any (λ x. is_device (device_id e) x && x.removed) (d ∷ ds)) (λ e is other. is ∙ rw other refl) ds (gone_are ds apart.1) differ,
    )

-- ---- the first list

-- what is announced without its data is the same
same_parts : (a b : Announce) → without_data a ≡ without_data b → is_same a b ≡ true
same_parts a b e =
    let id : a.id ≡ b.id = ap (λ (x : Announce). x.id) e in
    let kind : a.kind ≡ b.kind = ap (λ (x : Announce). x.kind) e in
    let dos : a.dos ≡ b.dos = ap (λ (x : Announce). x.dos) e in
    let is_id : (a.id == b.id) ≡ true = eq-eqb a.id b.id id in
    let is_kind : (a.kind == b.kind) ≡ true = eq-eqb a.kind b.kind kind in
    let is_dos : bytes_eq a.dos b.dos ≡ true = (bytes_eq-Decides a.dos b.dos).1 dos in
    rw (is_id, is_kind, is_dos) refl

-- just those that aren't gone are listed
pub first_is : (gone : ℕ → Bool) (devices : List Announce) (ds : List ClientDevice) → map without_data (map announce_in ds) ≡ map without_data devices
    → AllByRecursion (λ (d : ClientDevice). d.removed ≡ gone (device_id d)) ds → are_all (first_listed devices gone) (map announce_in (filter is_present ds)) ≡ true
first_is gone [] [] same marks = refl
first_is gone (a ∷ devices) [] same marks = absurd cc
first_is gone [] (d ∷ ds) same marks = absurd cc
first_is gone (a ∷ devices) (d ∷ ds) same marks =
    let one : without_data d.announce ≡ without_data a = cc in
    let others : map without_data (map announce_in ds) ≡ map without_data devices = cc in
    go d.removed refl one (first_is gone devices ds others marks.1)
  where
    go : (b : Bool) → d.removed ≡ b → without_data d.announce ≡ without_data a → are_all (first_listed devices gone) (map announce_in (filter is_present ds)) ≡ true
        → are_all (first_listed (a ∷ devices) gone) (map announce_in (filter is_present (d ∷ ds))) ≡ true
    go true e one rest =
        let id : a.id ≡ device_id d = ap (λ (x : Announce). x.id) (sym one) in
        let is : gone a.id ≡ true = ap gone id ∙ sym marks.0 ∙ e in
        rw (is, e) rest
    go false e one rest =
        let id : a.id ≡ device_id d = ap (λ (x : Announce). x.id) (sym one) in
        let is : gone a.id ≡ false = ap gone id ∙ sym marks.0 ∙ e in
        let both : is_same a d.announce ≡ true = same_parts a d.announce (sym one) in
        rw (is, e, both) rest

none_listed : (device : ℕ) (ds : List ClientDevice) → AllByRecursion (λ (d : ClientDevice). (device == device_id d) ≡ false) ds
    → is_told (map (λ (a : Announce). a.id) (map announce_in (filter is_present ds))) device ≡ false
none_listed device [] differ = refl
none_listed device (d ∷ ds) differ = go d.removed refl (none_listed device ds differ.1)
  where
    go : (b : Bool) → d.removed ≡ b → is_told (map (λ (a : Announce). a.id) (map announce_in (filter is_present ds))) device ≡ false
        → is_told (map (λ (a : Announce). a.id) (map announce_in (filter is_present (d ∷ ds)))) device ≡ false
    go true e rest = rw e rest
    go false e rest = let other : (device_id d == device) ≡ false = flip device (device_id d) differ.0 in rw (e, other) rest

-- a device is told of once it is listed
abbrev ListedAs : List ClientDevice → ClientDevice → Type 0
ListedAs ds d = is_told (map (λ (a : Announce). a.id) (map announce_in (filter is_present ds))) (device_id d) ≡ not d.removed

pub listed_told : (ds : List ClientDevice) → AreApart ds → AllByRecursion (ListedAs ds) ds
unfolding IsDistinct
listed_told [] apart = tt
listed_told (d ∷ ds) apart = go d.removed refl (others_differ (device_id d) ds apart.0) (listed_told ds apart.1)
  where
    go : (b : Bool) → d.removed ≡ b → AllByRecursion (λ (e : ClientDevice). (device_id d == device_id e) ≡ false) ds → AllByRecursion (ListedAs ds) ds
        → AllByRecursion (ListedAs (d ∷ ds)) (d ∷ ds)
    go true e differ rest = (
      rw e (none_listed (device_id d) ds differ),
      each (ListedAs ds) (ListedAs (d ∷ ds)) (λ (x : ClientDevice) is. rw e is) ds rest,
    )
    go false e differ rest = (
      (let same : (device_id d == device_id d) ≡ true = eq-eqb (device_id d) (device_id d) refl in rw (e, same) refl),
      each_both (ListedAs ds) (λ (x : ClientDevice). (device_id d == device_id x) ≡ false) (ListedAs (d ∷ ds)) (λ (x : ClientDevice) is other. rw (e, other) is) ds rest differ,
    )

-- ---- a removal

-- what is told of a device, as its mark says
abbrev pub ToldAs : List ℕ → ClientDevice → Type 0
ToldAs told d = is_told told (device_id d) ≡ not d.removed

-- a device that isn't removed is told of
pub there_told : (told : List ℕ) (device : ℕ) (ds : List ClientDevice) → AllByRecursion (ToldAs told) ds → list_any (is_device device) ds ≡ true
    → list_any (λ d. is_device device d && d.removed) ds ≡ false
    → is_told told device ≡ true
there_told told device [] all has gone = absurd cc
there_told told device (d ∷ ds) all has gone = go (device_id d == device) refl has gone (λ h g. there_told told device ds all.1 h g)
  where
    go : (b : Bool) → (device_id d == device) ≡ b → (b || list_any (is_device device) ds) ≡ true
        → ((device_id d == device && d.removed) || list_any (λ d. is_device device d && d.removed) ds) ≡ false
        → (list_any (is_device device) ds ≡ true → list_any (λ d. is_device device d && d.removed) ds ≡ false → is_told told device ≡ true) → is_told told device ≡ true
    go true e has gone later =
        let is : device_id d ≡ device = eqb-true _ _ e in
        let there : d.removed ≡ false = one d.removed (rw e at gone) in
        ap (λ k. is_told told k) (sym is) ∙ all.0 ∙ ap not there
      where
        one : (b : Bool) → (b || list_any (λ d. is_device device d && d.removed) ds) ≡ false → b ≡ false
        one true e = absurd cc
        one false e = refl
    go false e has gone later = later has (rw e at gone)

-- after it the device isn't told of, and each other is as before
pub removed_told : (told : List ℕ) (device : ℕ) (ds : List ClientDevice) → AllByRecursion (ToldAs told) ds
    → AllByRecursion (ToldAs (filter (λ id. not (id == device)) told)) (map (device_marked device true) ds)
removed_told told device ds all = each_map (ToldAs told) (ToldAs (filter (λ id. not (id == device)) told)) (device_marked device true) one ds all
  where
    kept : (k : ℕ) → is_told (filter (λ id. not (id == device)) told) k ≡ (not (k == device) && is_told told k)
    kept k = any-filter_same (λ id. id == k) (λ id. not (id == device)) (not (k == device)) (λ id is. ap (λ x. not (x == device)) (eqb-true id k is)) told

    one : (d : ClientDevice) → ToldAs told d → ToldAs (filter (λ id. not (id == device)) told) (device_marked device true d)
    one d is = elim (cases_Bool (device_id d == device)) [
      | inl e ↦ rw e (kept (device_id d) ∙ rw e refl)
      | inr e ↦ rw e (kept (device_id d) ∙ rw e is)
    ]

-- ---- an announcement of one device

-- each device is the client's own
pub own_are : (devices : List Announce) (ds : List ClientDevice) → map without_data (map announce_in ds) ≡ map without_data devices
    → AllByRecursion (λ (d : ClientDevice). is_own_device devices d.announce ≡ true) ds
own_are [] [] same = tt
own_are (a ∷ devices) [] same = tt
own_are [] (d ∷ ds) same = absurd cc
own_are (a ∷ devices) (d ∷ ds) same =
    let one : without_data d.announce ≡ without_data a = cc in
    let others : map without_data (map announce_in ds) ≡ map without_data devices = cc in
    let first : is_same a d.announce ≡ true = same_parts a d.announce (sym one) in (
      rw first refl,
      each (λ (e : ClientDevice). is_own_device devices e.announce ≡ true) (λ (e : ClientDevice). is_own_device (a ∷ devices) e.announce ≡ true)
          (λ e is. rw is (elim (is_same a e.announce) as (λ b. (b || true) ≡ true) [ true ↦ refl | false ↦ refl ])) ds (own_are devices ds others),
    )

-- a device that is gone is the only one with its id
pub record OneGone (P : ClientDevice → Type 0) (device : ℕ) (ds : List ClientDevice) : Type 0 where
  pub one : ClientDevice
  pub alone : filter (is_device device) ds ≡ one ∷ []
  pub named : device_id one ≡ device
  pub removed : one.removed ≡ true
  pub holds : P one

no_other : (device : ℕ) (ds : List ClientDevice) → AllByRecursion (λ (d : ClientDevice). (device == device_id d) ≡ false) ds → filter (is_device device) ds ≡ []
no_other device [] differ = refl
no_other device (d ∷ ds) differ = let other : (device_id d == device) ≡ false = flip device (device_id d) differ.0 in rw other (no_other device ds differ.1)

pub one_gone : (P : ClientDevice → Type 0) (device : ℕ) (ds : List ClientDevice) → AreApart ds → AllByRecursion P ds
    → list_any (λ d. is_device device d && d.removed) ds ≡ true → OneGone P device ds
unfolding IsDistinct
one_gone P device [] apart all gone = absurd cc
one_gone P device (d ∷ ds) apart all gone = go (device_id d == device) refl gone (others_differ (device_id d) ds apart.0) (λ g. one_gone P device ds apart.1 all.1 g)
  where
    go : (b : Bool) → (device_id d == device) ≡ b → ((device_id d == device && d.removed) || list_any (λ d. is_device device d && d.removed) ds) ≡ true
        → AllByRecursion (λ (e : ClientDevice). (device_id d == device_id e) ≡ false) ds → (list_any (λ d. is_device device d && d.removed) ds ≡ true → OneGone P device ds)
        → OneGone P device (d ∷ ds)
    go true e gone differ later =
        let is : device_id d ≡ device = eqb-true _ _ e in
        let apart_from : AllByRecursion (λ (x : ClientDevice). (device == device_id x) ≡ false) ds =
        subst (λ k. AllByRecursion (λ (x : ClientDevice). (k == device_id x) ≡ false) ds) is differ in record {
          one = d;
          alone = rw e (ap (λ xs. d ∷ xs) (no_other device ds apart_from));
          named = is;
          removed = mark d.removed (rw (e, none_with device ds apart_from) at gone);
          holds = all.0;
        }
      where
        mark : (b : Bool) → (b || false) ≡ true → b ≡ true
        mark true e = refl
        mark false e = absurd cc
    go false e gone differ later =
        let rest = later (rw e at gone) in
        record { one = rest.one; alone = rw e rest.alone; named = rest.named; removed = rest.removed; holds = rest.holds }

-- after it the device is told of, and each other is as before
pub added_told : (told : List ℕ) (device : ℕ) (ds : List ClientDevice) → AllByRecursion (ToldAs told) ds
    → AllByRecursion (ToldAs (told ++ device ∷ [])) (map (device_marked device false) ds)
added_told told device ds all = each_map (ToldAs told) (ToldAs (told ++ device ∷ [])) (device_marked device false) one ds all
  where
    more : (k : ℕ) → is_told (told ++ device ∷ []) k ≡ (is_told told k || ((device == k) || false))
    more k = list_any-append (λ id. id == k) told (device ∷ [])

    one : (d : ClientDevice) → ToldAs told d → ToldAs (told ++ device ∷ []) (device_marked device false d)
    one d is = elim (cases_Bool (device_id d == device)) [
      | inl e ↦ (let same : (device == device_id d) ≡ true = eq-eqb device (device_id d) (sym (eqb-true _ _ e)) in
          rw e (more (device_id d) ∙ rw same (elim (is_told told (device_id d)) as (λ b. (b || true) ≡ true) [ true ↦ refl | false ↦ refl ])))
      | inr e ↦ (let other : (device == device_id d) ≡ false = flip (device_id d) device e in
          rw e (more (device_id d) ∙ rw other (elim (is_told told (device_id d)) as (λ b. (b || false) ≡ b) [ true ↦ refl | false ↦ refl ] ∙ is)))
    ]

-- ---- new data, and marks

pub refreshed_same : (device : ℕ) (body : List ℕ) (ds : List ClientDevice)
    → map without_data (map announce_in (map (refreshed device body) ds)) ≡ map without_data (map announce_in ds)
refreshed_same device body [] = refl
refreshed_same device body (d ∷ ds) =
    let one : without_data (refreshed device body d).announce ≡ without_data d.announce = elim (cases_Bool (is_device device d)) [
      | inl e ↦ rw e refl
      | inr e ↦ rw e refl
    ] in
    cc (one, refreshed_same device body ds)

-- what says nothing of the data still holds
pub each_refreshed : (P : ℕ → Bool → Type 0) (device : ℕ) (body : List ℕ) (ds : List ClientDevice) → AllByRecursion (λ (d : ClientDevice). P (device_id d) d.removed) ds
    → AllByRecursion (λ (d : ClientDevice). P (device_id d) d.removed) (map (refreshed device body) ds)
each_refreshed P device body ds all =
    each_map (λ (d : ClientDevice). P (device_id d) d.removed) (λ (d : ClientDevice). P (device_id d) d.removed) (refreshed device body) one ds all
  where
    one : (d : ClientDevice) → P (device_id d) d.removed → P (device_id (refreshed device body d)) (refreshed device body d).removed
    one d holds = elim (cases_Bool (is_device device d)) [
      | inl e ↦ rw e holds
      | inr e ↦ rw e holds
    ]

-- devices that are the same but for their data can be written alike
pub writable_same : (xs ys : List Announce) → map without_data xs ≡ map without_data ys → AllByRecursion IsWritableDevice ys → AllByRecursion IsWritableDevice xs
writable_same [] ys same all = tt
writable_same (a ∷ xs) [] same all = absurd cc
writable_same (a ∷ xs) (b ∷ ys) same all =
    let one : without_data a ≡ without_data b = cc in
    let others : map without_data xs ≡ map without_data ys = cc in
    (subst IsWritableDevice (sym one) all.0, writable_same xs ys others all.1)
