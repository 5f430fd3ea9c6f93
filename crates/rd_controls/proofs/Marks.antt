-- The devices of a client by their ids, with whether they are gone, and of a control the same.
use Rattle.std.proofs.Common.{◌≡◌, ◌∙◌, refl, sym, ap, ℕ, ◌==◌, ◌&&◌, ◌||◌, Bool, true, false, not, replicate, List, [], ◌∷◌, ◌++◌, map, Some, None, Option, arith}
use Rattle.std.specs.Prelude.{filter, fold, if◌then◌else◌}
use Rattle.std.specs.List.{AllByRecursion, list_any}
use Rattle.std.specs.BTreeMap.{insert_entry}
use Rattle.std.specs.Ordering.{match_ordering, nat_cmp}
use Rattle.std.specs.declared.cmp.Ordering.{Ordering}
use Rattle.std.specs.declared.cmp.Ordering.TheVariants.{Equal, Greater, Less}
use Rattle.std.proofs.lemmas.Bool.Decides.{nat_tests}
use Rattle.rd_client.specs.Core as client
use Rattle.rd_client.specs.Core.{ClientCoreState, ClientDevice, device_marked, has_device, is_device, is_gone, present_device, refreshed}
use Rattle.rd_controls.proofs.Unseen.{mark}
use Rattle.rd_dirinfo.specs.Paths.{Names}
use Rattle.rd_script.specs.declared.line.Line.{Line}
use Rattle.rd_script.specs.declared.line.Line.TheVariants as line
use Rattle.rd_world.specs.Control.{is_among}
use Rattle.rd_declared.specs.Devices.{Declared, announce_of, declaring, furnishing, holding_at, with_first}
use Rattle.rd_declared.specs.Declaring.{declared_devices}

-- ---- of a client

-- the device is one of these
known_by : (device : ℕ) (ds : List ClientDevice) → list_any (is_device device) ds ≡ list_any (λ (m : ℕ × Bool). m.0 == device) (map mark ds)
known_by device [] = refl
known_by device (d ∷ ds) = ap (λ (b : Bool). ((d.announce).id == device) || b) (known_by device ds)

gone_by : (device : ℕ) (ds : List ClientDevice) → list_any (λ (d : ClientDevice). is_device device d && d.removed) ds ≡ list_any (λ (m : ℕ × Bool). (m.0 == device) && m.1) (map mark ds)
gone_by device [] = refl
gone_by device (d ∷ ds) = ap (λ (b : Bool). (((d.announce).id == device) && d.removed) || b) (gone_by device ds)

-- ids with whether they are among those that are absent
abbrev pub marked_by : List ℕ → List ℕ → List (ℕ × Bool)
marked_by absent ids = map (λ id. (id, is_among absent id)) ids

same_number : (a b : ℕ) → (a == b) ≡ true → a ≡ b
same_number a b e = grind (arith, nat_tests, e)

any_id : (absent : List ℕ) (device : ℕ) (ids : List ℕ) → list_any (λ (m : ℕ × Bool). m.0 == device) (marked_by absent ids) ≡ is_among ids device
any_id absent device [] = refl
any_id absent device (id ∷ ids) = ap (λ (b : Bool). (id == device) || b) (any_id absent device ids)

gone_id : (absent : List ℕ) (device : ℕ) (ids : List ℕ) → list_any (λ (m : ℕ × Bool). (m.0 == device) && m.1) (marked_by absent ids) ≡ (is_among ids device && is_among absent device)
gone_id absent device [] = refl
gone_id absent device (id ∷ ids) = by (id == device) refl (is_among absent device) refl (gone_id absent device ids)
  where
    or_false : (b : Bool) → (b && false) ≡ false
    or_false true = refl
    or_false false = refl

    same : (id == device) ≡ true → is_among absent id ≡ is_among absent device
    same e = ap (λ (k : ℕ). is_among absent k) (same_number id device e)

    by : (a : Bool) → (id == device) ≡ a → (b : Bool) → is_among absent device ≡ b → list_any (λ (m : ℕ × Bool). (m.0 == device) && m.1) (marked_by absent ids) ≡ (is_among ids device && is_among absent device)
        → (((id == device) && is_among absent id) || list_any (λ (m : ℕ × Bool). (m.0 == device) && m.1) (marked_by absent ids)) ≡ (((id == device) || is_among ids device) && is_among absent device)
    by true e true f rest = rw (e, same e, f) refl
    by true e false f rest = rw (e, same e, rest, f) (or_false (is_among ids device))
    by false e b f rest = rw (e, rest) refl

pub known_marks : (c : ClientCoreState) (absent ids : List ℕ) (device : ℕ) → map mark c.devices ≡ marked_by absent ids → has_device c device ≡ is_among ids device
known_marks c absent ids device is = known_by device c.devices ∙ ap (λ (ms : List (ℕ × Bool)). list_any (λ (m : ℕ × Bool). m.0 == device) ms) is ∙ any_id absent device ids

pub gone_marks : (c : ClientCoreState) (absent ids : List ℕ) (device : ℕ) → map mark c.devices ≡ marked_by absent ids → is_gone c device ≡ (is_among ids device && is_among absent device)
gone_marks c absent ids device is = gone_by device c.devices ∙ ap (λ (ms : List (ℕ × Bool)). list_any (λ (m : ℕ × Bool). (m.0 == device) && m.1) ms) is ∙ gone_id absent device ids

-- ---- what changes them

-- another mark of a device
abbrev pub remarked : ℕ → Bool → ℕ × Bool → ℕ × Bool
remarked device gone m = (m.0, if m.0 == device then gone else m.1)

marked_map : (device : ℕ) (gone : Bool) (ds : List ClientDevice) → map mark (map (device_marked device gone) ds) ≡ map (remarked device gone) (map mark ds)
marked_map device gone [] = refl
marked_map device gone (d ∷ ds) = by ((d.announce).id == device) (marked_map device gone ds)
  where
    by : (b : Bool) → map mark (map (device_marked device gone) ds) ≡ map (remarked device gone) (map mark ds)
        → mark (if b then record d { removed = gone } else d) ∷ map mark (map (device_marked device gone) ds) ≡ ((d.announce).id, if b then gone else d.removed) ∷ map (remarked device gone) (map mark ds)
    by true rest = ap (λ (ms : List (ℕ × Bool)). ((d.announce).id, gone) ∷ ms) rest
    by false rest = ap (λ (ms : List (ℕ × Bool)). mark d ∷ ms) rest

refreshed_map : (device : ℕ) (body : List ℕ) (ds : List ClientDevice) → map mark (map (refreshed device body) ds) ≡ map mark ds
refreshed_map device body [] = refl
refreshed_map device body (d ∷ ds) = by ((d.announce).id == device) (refreshed_map device body ds)
  where
    by : (b : Bool) → map mark (map (refreshed device body) ds) ≡ map mark ds
        → mark (if b then record d { announce = record d.announce { body = body } } else d) ∷ map mark (map (refreshed device body) ds) ≡ mark d ∷ map mark ds
    by true rest = ap (λ (ms : List (ℕ × Bool)). mark d ∷ ms) rest
    by false rest = ap (λ (ms : List (ℕ × Bool)). mark d ∷ ms) rest

pub refresh_marks : (c : ClientCoreState) (device : ℕ) (body : List ℕ) → map mark (client.refresh c device body).devices ≡ map mark c.devices
refresh_marks c device body = refreshed_map device body c.devices

remarked_all : (device : ℕ) (gone : Bool) (absent new ids : List ℕ) → ((id : ℕ) → (if id == device then gone else is_among absent id) ≡ is_among new id)
    → map (remarked device gone) (marked_by absent ids) ≡ marked_by new ids
remarked_all device gone absent new [] each = refl
remarked_all device gone absent new (id ∷ ids) each = λ i. (id, each id i) ∷ remarked_all device gone absent new ids each i

or_right : (a : Bool) → (a || true) ≡ true
or_right true = refl
or_right false = refl

or_none : (a : Bool) → (a || false) ≡ a
or_none true = refl
or_none false = refl

more_absent : (device : ℕ) (absent : List ℕ) (id : ℕ) → is_among (absent ++ device ∷ []) id ≡ (is_among absent id || (device == id))
more_absent device [] id = or_none (device == id)
more_absent device (x ∷ absent) id = ap (λ (b : Bool). (x == id) || b) (more_absent device absent id) ∙ assoc (x == id) (is_among absent id) (device == id)
  where
    assoc : (a b c : Bool) → (a || (b || c)) ≡ ((a || b) || c)
    assoc true b c = refl
    assoc false b c = refl

turned : (a b : ℕ) → (a == b) ≡ (b == a)
turned a b = by (a == b) refl (b == a) refl
  where
    by : (x : Bool) → (a == b) ≡ x → (y : Bool) → (b == a) ≡ y → x ≡ y
    by true e true f = refl
    by true e false f = grind (arith, nat_tests, e, f)
    by false e true f = grind (arith, nat_tests, e, f)
    by false e false f = refl

pub removed_marks : (ds : List ClientDevice) (device : ℕ) (absent ids : List ℕ) → map mark ds ≡ marked_by absent ids
    → map mark (map (device_marked device true) ds) ≡ marked_by (absent ++ device ∷ []) ids
removed_marks ds device absent ids is =
    marked_map device true ds ∙ ap (λ (ms : List (ℕ × Bool)). map (remarked device true) ms) is ∙ remarked_all device true absent (absent ++ device ∷ []) ids each
  where
    each : (id : ℕ) → (if id == device then true else is_among absent id) ≡ is_among (absent ++ device ∷ []) id
    each id = by (id == device) refl ∙ sym (more_absent device absent id)
      where
        by : (b : Bool) → (id == device) ≡ b → (if id == device then true else is_among absent id) ≡ (is_among absent id || (device == id))
        by true e = rw (e, turned device id, e) (sym (or_right (is_among absent id)))
        by false e = rw (e, turned device id, e) (sym (or_none (is_among absent id)))

less_absent : (device : ℕ) (absent : List ℕ) (id : ℕ) → is_among (filter (λ x. not (x == device)) absent) id ≡ (if id == device then false else is_among absent id)
less_absent device [] id = by (id == device)
  where
    by : (b : Bool) → false ≡ (if b then false else false)
    by true = refl
    by false = refl
less_absent device (x ∷ absent) id = by (x == device) refl (id == device) refl (x == id) refl (less_absent device absent id)
  where
    by : (a : Bool) → (x == device) ≡ a → (b : Bool) → (id == device) ≡ b → (c : Bool) → (x == id) ≡ c
        → is_among (filter (λ x. not (x == device)) absent) id ≡ (if id == device then false else is_among absent id)
        → is_among (if not (x == device) then x ∷ filter (λ x. not (x == device)) absent else filter (λ x. not (x == device)) absent) id ≡ (if id == device then false else (x == id) || is_among absent id)
    by true e true f c g rest = rw e (rest ∙ rw f refl)
    by true e false f true g rest = absurd (grind (arith, nat_tests, e, f, g))
    by true e false f false g rest = rw (e, g) rest
    by false e true f true g rest = absurd (grind (arith, nat_tests, e, f, g))
    by false e true f false g rest = rw (e, g) (rest ∙ rw f refl)
    by false e false f c g rest = rw (e, f) (ap (λ (b : Bool). (x == id) || b) (rest ∙ rw f refl))

pub added_marks : (ds : List ClientDevice) (device : ℕ) (absent ids : List ℕ) → map mark ds ≡ marked_by absent ids
    → map mark (map (device_marked device false) ds) ≡ marked_by (filter (λ id. not (id == device)) absent) ids
added_marks ds device absent ids is =
    marked_map device false ds ∙ ap (λ (ms : List (ℕ × Bool)). map (remarked device false) ms) is
    ∙ remarked_all device false absent (filter (λ id. not (id == device)) absent) ids (λ id. sym (less_absent device absent id))

-- ---- at the beginning

-- each device has its own id
AreOwn : List (ℕ × Declared) → Type 0
AreOwn es = AllByRecursion (λ (e : ℕ × Declared). (e.1).id ≡ e.0) es

inserted_own : (k : ℕ) (d : Declared) (es : List (ℕ × Declared)) → d.id ≡ k → AreOwn es → AreOwn (insert_entry nat_cmp es k d)
unfolding AreOwn
inserted_own k d [] own all = (own, tt)
inserted_own k d (e ∷ es) own all = by (inserted_own k d es own all.1) (nat_cmp k e.0) refl
  where
    by : AllByRecursion (λ (e : ℕ × Declared). (e.1).id ≡ e.0) (insert_entry nat_cmp es k d) → (r : Ordering) → nat_cmp k e.0 ≡ r
        → AllByRecursion (λ (e : ℕ × Declared). (e.1).id ≡ e.0) (match_ordering r ((k, d) ∷ e ∷ es) ((e.0, d) ∷ es) (e ∷ insert_entry nat_cmp es k d))
    by rest Less is = (own, all)
    by rest Equal is = (own ∙ grind (arith, nat_tests, is), all.1)
    by rest Greater is = (all.0, rest)

held_own : (device : ℕ) (first : Names × Option (List ℕ)) (es : List (ℕ × Declared)) → AreOwn es → AreOwn (holding_at es device first)
unfolding AreOwn
held_own device first [] all = tt
held_own device first (e ∷ es) all = (one (e.0 == device), held_own device first es all.1)
  where
    one : (b : Bool) → (if b then with_first first e.1 else e.1).id ≡ e.0
    one true = all.0
    one false = all.0

declaring_own : (es : List (ℕ × Declared)) (l : Line) → AreOwn es → AreOwn (declaring es l)
unfolding declaring
declaring_own es (line.Drive device name) all = inserted_own device _ es refl all
declaring_own es (line.DriveFold device name) all = inserted_own device _ es refl all
declaring_own es (line.Printer device name driver printer) all = inserted_own device _ es refl all
declaring_own es _ all = all

furnishing_own : (es : List (ℕ × Declared)) (l : Line) → AreOwn es → AreOwn (furnishing es l)
unfolding furnishing
furnishing_own es (line.Folder device path) all = held_own device (path, None) es all
furnishing_own es (line.File device path bytes) all = held_own device (path, Some bytes) es all
furnishing_own es (line.Fill device path len byte) all = held_own device (path, Some (replicate len byte)) es all
furnishing_own es _ all = all

fold_own : (change : List (ℕ × Declared) → Line → List (ℕ × Declared)) → ((es : List (ℕ × Declared)) (l : Line) → AreOwn es → AreOwn (change es l)) → (ls : List Line) (es : List (ℕ × Declared)) → AreOwn es → AreOwn (fold change es ls)
fold_own change keeps [] es all = all
fold_own change keeps (l ∷ ls) es all = fold_own change keeps ls (change es l) (keeps es l all)

first_by : (es : List (ℕ × Declared)) → AreOwn es
    → map mark (map present_device (map (λ (e : ℕ × Declared). announce_of [] e.1) es)) ≡ marked_by [] (map (λ (e : ℕ × Declared). e.0) es)
unfolding AreOwn
first_by [] all = refl
first_by (e ∷ es) all = λ i. (all.0 i, false) ∷ first_by es all.1 i

-- no device is gone at first
pub first_marks : (ls : List Line) → map mark (map present_device (map (λ (e : ℕ × Declared). announce_of [] e.1) (declared_devices ls))) ≡ marked_by [] (map (λ (e : ℕ × Declared). e.0) (declared_devices ls))
unfolding AreOwn
first_marks ls = first_by (declared_devices ls) (fold_own furnishing furnishing_own ls _ (fold_own declaring declaring_own ls [] tt))
