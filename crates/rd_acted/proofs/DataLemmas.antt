-- A client's devices are those that were declared, with the data that was kept for them as the channel began.
use Rattle.std.proofs.Common.{◌≡◌, ◌∙◌, refl, sym, ap, subst, ℕ, ◌==◌, ◌&&◌, ◌||◌, Bool, true, false, cond, not, arith, eq-eqb, eqb-true, List, [], ◌∷◌, map, fold, Some, None, Option}
use Rattle.std.specs.Prelude.{filter, if◌then◌else◌}
use Rattle.std.specs.List.{AllZip}
use Rattle.std.specs.Map.{lookup}
use Rattle.std.specs.Option.{option_map_or}
use Rattle.std.specs.Ordering.{nat_cmp}
use Rattle.std.specs.BTreeMap.{is_at}
use Rattle.std.proofs.Math.Bool.{or-true}
use Rattle.std.proofs.lemmas.Bool.Decides.{nat_tests}
use Rattle.rd_client.specs.Core as client
use Rattle.rd_client.specs.Core.{ClientDevice, announce_in, device_marked, is_device, is_present, present_device, refreshed}
use Rattle.rd_devices.specs.declared.list.Announce.{Announce}
use Rattle.rd_printer.specs.Cache.{CacheState}
use Rattle.rd_world.specs.Control.{is_among}
use Rattle.rd_declared.specs.Devices.{Declared, PrinterNames, announce_of, device_data, printer_data}
use Rattle.rd_world.specs.Events.{refreshing}
use Rattle.rd_world.specs.Hearing.{with_client}
use Rattle.rd_deeds.specs.Talk.{Deed, adds, is_removed, removes}
use Rattle.rd_world.specs.World.{WorldState}

-- ---- lists side by side

module _ {A B : Type 0} where
  pub zip_map : {C : Type 0} (P : A → B → Type 0) (Q : A → C → Type 0) (f : B → C) → ((a : A) (b : B) → P a b → Q a (f b)) → (xs : List A) (ys : List B) → AllZip P xs ys → AllZip Q xs (map f ys)
  zip_map P Q f each [] [] is = tt
  zip_map P Q f each [] (y ∷ ys) is = absurd is
  zip_map P Q f each (x ∷ xs) [] is = absurd is
  zip_map P Q f each (x ∷ xs) (y ∷ ys) is = (each x y is.0, zip_map P Q f each xs ys is.1)

  pub zip_as : (P Q : A → B → Type 0) → ((a : A) (b : B) → P a b → Q a b) → (xs : List A) (ys : List B) → AllZip P xs ys → AllZip Q xs ys
  zip_as P Q each [] [] is = tt
  zip_as P Q each [] (y ∷ ys) is = absurd is
  zip_as P Q each (x ∷ xs) [] is = absurd is
  zip_as P Q each (x ∷ xs) (y ∷ ys) is = (each x y is.0, zip_as P Q each xs ys is.1)

  pub zip_both : (P Q : A → B → Type 0) → (xs : List A) (ys : List B) → AllZip P xs ys → AllZip Q xs ys → AllZip (λ a b. P a b × Q a b) xs ys
  zip_both P Q [] [] is too = tt
  zip_both P Q [] (y ∷ ys) is too = absurd is
  zip_both P Q (x ∷ xs) [] is too = absurd is
  zip_both P Q (x ∷ xs) (y ∷ ys) is too = ((is.0, too.0), zip_both P Q xs ys is.1 too.1)

  -- what passes on one side passes on the other, and comes to the same
  pub zip_passing : {C : Type 0} (p : A → Bool) (q : B → Bool) (f : A → C) (g : B → C) (xs : List A) (ys : List B) → AllZip (λ a b. (q b ≡ p a) × (p a ≡ true → g b ≡ f a)) xs ys
      → map g (filter q ys) ≡ map f (filter p xs)
  zip_passing p q f g [] [] is = refl
  zip_passing p q f g [] (y ∷ ys) is = absurd is
  zip_passing p q f g (x ∷ xs) [] is = absurd is
  zip_passing {C} p q f g (x ∷ xs) (y ∷ ys) is = by (p x) refl (is.0).0 (zip_passing p q f g xs ys is.1)
    where
      by : (b : Bool) → p x ≡ b → q y ≡ p x → map g (filter q ys) ≡ map f (filter p xs)
          → map g (if q y then y ∷ filter q ys else filter q ys) ≡ map f (if b then x ∷ filter p xs else filter p xs)
      by true e same rest = rw (same, e) (λ i. (is.0).1 e i ∷ rest i)
      by false e same rest = rw (same, e) rest

-- ---- a client's devices

-- A client's device is the one that was declared, but for its data; it is marked as it was removed and added; and its printer is found under its id.
pub record IsShaped (ids : List ℕ) (printers : List (ℕ × PrinterNames)) (deeds : List Deed) (d : ℕ × Declared) (x : ClientDevice) : Type 0 where
  pub own : (d.1).id ≡ d.0
  pub known : is_among ids d.0 ≡ true
  pub found : lookup (is_at (nat_cmp d.0)) printers ≡ (d.1).printer
  pub announce_is : x.announce ≡ record (announce_of [] d.1) { body = (x.announce).body }
  pub removed_is : x.removed ≡ is_removed d.0 deeds
  pub bare : (d.1).printer ≡ None → (x.announce).body ≡ []

-- it has the data of what is kept for printers
abbrev pub HasBody : CacheState → ℕ × Declared → ClientDevice → Type 0
HasBody cache d x = (x.announce).body ≡ device_data cache d.1

pub id_is : (ids : List ℕ) (printers : List (ℕ × PrinterNames)) (deeds : List Deed) (d : ℕ × Declared) (x : ClientDevice) → IsShaped ids printers deeds d x → (x.announce).id ≡ d.0
id_is ids printers deeds d x is = ap (λ (a : Announce). a.id) is.announce_is ∙ is.own

pub announced_is : (ids : List ℕ) (printers : List (ℕ × PrinterNames)) (deeds : List Deed) (cache : CacheState) (d : ℕ × Declared) (x : ClientDevice) → IsShaped ids printers deeds d x → HasBody cache d x
    → x.announce ≡ announce_of cache d.1
announced_is ids printers deeds cache d x is has = is.announce_is ∙ ap (λ (body : List ℕ). record (announce_of [] d.1) { body = body }) has

pub shaped_more : (ids : List ℕ) (printers : List (ℕ × PrinterNames)) (old new : List Deed) → ((device : ℕ) → is_removed device new ≡ is_removed device old) → (d : ℕ × Declared) (x : ClientDevice)
    → IsShaped ids printers old d x → IsShaped ids printers new d x
shaped_more ids printers old new same d x is =
    record { own = is.own; known = is.known; found = is.found; announce_is = is.announce_is; removed_is = is.removed_is ∙ sym (same d.0); bare = is.bare }

turned : (a b : ℕ) (r : Bool) → (a == b) ≡ r → (b == a) ≡ r
turned a b true e = eq-eqb b a (sym (eqb-true a b e))
turned a b false e = by (b == a) refl
  where
    by : (r : Bool) → (b == a) ≡ r → r ≡ false
    by true f = absurd (cc (eq-eqb a b (sym (eqb-true b a f)), e))
    by false f = refl

module _ (ids : List ℕ) (printers : List (ℕ × PrinterNames)) (deeds : List Deed) where
  pub removed_shaped : (device : ℕ) (d : ℕ × Declared) (x : ClientDevice) → IsShaped ids printers deeds d x → IsShaped ids printers (removes device ∷ deeds) d (device_marked device true x)
  removed_shaped device d x is = by ((x.announce).id == device) refl
    where
      gone : (b : Bool) → ((x.announce).id == device) ≡ b → is_removed d.0 (removes device ∷ deeds) ≡ (b || is_removed d.0 deeds)
      gone b e = ap (λ (r : Bool). r || is_removed d.0 deeds) (turned d.0 device b (ap (λ (k : ℕ). k == device) (sym (id_is ids printers deeds d x is)) ∙ e))

      by : (b : Bool) → ((x.announce).id == device) ≡ b → IsShaped ids printers (removes device ∷ deeds) d (if b then record x { removed = true } else x)
      by true e = record { own = is.own; known = is.known; found = is.found; announce_is = is.announce_is; removed_is = sym (gone true e); bare = is.bare }
      by false e = record { own = is.own; known = is.known; found = is.found; announce_is = is.announce_is; removed_is = is.removed_is ∙ sym (gone false e); bare = is.bare }

  pub added_shaped : (device : ℕ) (d : ℕ × Declared) (x : ClientDevice) → IsShaped ids printers deeds d x → IsShaped ids printers (adds device ∷ deeds) d (device_marked device false x)
  added_shaped device d x is = by ((x.announce).id == device) refl
    where
      gone : (b : Bool) → ((x.announce).id == device) ≡ b → is_removed d.0 (adds device ∷ deeds) ≡ (not b && is_removed d.0 deeds)
      gone b e = ap (λ (r : Bool). not r && is_removed d.0 deeds) (turned d.0 device b (ap (λ (k : ℕ). k == device) (sym (id_is ids printers deeds d x is)) ∙ e))

      by : (b : Bool) → ((x.announce).id == device) ≡ b → IsShaped ids printers (adds device ∷ deeds) d (if b then record x { removed = false } else x)
      by true e = record { own = is.own; known = is.known; found = is.found; announce_is = is.announce_is; removed_is = sym (gone true e); bare = is.bare }
      by false e = record { own = is.own; known = is.known; found = is.found; announce_is = is.announce_is; removed_is = is.removed_is ∙ sym (gone false e); bare = is.bare }

  -- a printer gets its data
  refreshed_shaped : (device : ℕ) (names : PrinterNames) (body : List ℕ) → lookup (is_at (nat_cmp device)) printers ≡ Some names → (d : ℕ × Declared) (x : ClientDevice) → IsShaped ids printers deeds d x
      → IsShaped ids printers deeds d (refreshed device body x)
  refreshed_shaped device names body named d x is = by ((x.announce).id == device) refl
    where
      by : (b : Bool) → ((x.announce).id == device) ≡ b → IsShaped ids printers deeds d (if b then record x { announce = record x.announce { body = body } } else x)
      by true e = record {
        own = is.own;
        known = is.known;
        found = is.found;
        announce_is = ap (λ (a : Announce). record a { body = body }) is.announce_is;
        removed_is = is.removed_is;
        bare = λ none.
            let here : d.0 ≡ device = eqb-true d.0 device (ap (λ (k : ℕ). k == device) (sym (id_is ids printers deeds d x is)) ∙ e) in
            let nothing : lookup (is_at (nat_cmp device)) printers ≡ None = subst (λ (k : ℕ). lookup (is_at (nat_cmp k)) printers ≡ None) here (is.found ∙ none) in
            absurd (cc (nothing, named));
      }
      by false e = is

  -- it has that of what is kept now, or had it before
  refreshed_body : (device : ℕ) (names : PrinterNames) (cache : CacheState) → lookup (is_at (nat_cmp device)) printers ≡ Some names → (d : ℕ × Declared) (x : ClientDevice) → IsShaped ids printers deeds d x
      → (done : Bool) → (done ≡ true → HasBody cache d x) → (done || (d.0 == device)) ≡ true → HasBody cache d (refreshed device (printer_data cache names) x)
  refreshed_body device names cache named d x is done had now = by ((x.announce).id == device) refl
    where
      by : (b : Bool) → ((x.announce).id == device) ≡ b → HasBody cache d (if b then record x { announce = record x.announce { body = printer_data cache names } } else x)
      by true e =
          let here : d.0 ≡ device = eqb-true d.0 device (ap (λ (k : ℕ). k == device) (sym (id_is ids printers deeds d x is)) ∙ e) in
          let printer : (d.1).printer ≡ Some names = sym is.found ∙ subst (λ (k : ℕ). lookup (is_at (nat_cmp k)) printers ≡ Some names) (sym here) named in
          sym (ap (λ (o : Option PrinterNames). option_map_or (printer_data cache) o []) printer)
      by false e = had (first done now (ap (λ (k : ℕ). k == device) (sym (id_is ids printers deeds d x is)) ∙ e))
        where
          first : (a : Bool) → (a || (d.0 == device)) ≡ true → (d.0 == device) ≡ false → a ≡ true
          first true both off = refl
          first false both off = absurd (cc (both, off))

  -- where no printer has this id nothing changes
  skipped_body : (device : ℕ) (cache : CacheState) → lookup (is_at (nat_cmp device)) printers ≡ None → (d : ℕ × Declared) (x : ClientDevice) → IsShaped ids printers deeds d x
      → (done : Bool) → (done ≡ true → HasBody cache d x) → (done || (d.0 == device)) ≡ true → HasBody cache d x
  skipped_body device cache none d x is true had now = had refl
  skipped_body device cache none d x is false had now =
      let printer : (d.1).printer ≡ None = sym is.found ∙ subst (λ (k : ℕ). lookup (is_at (nat_cmp k)) printers ≡ None) (sym (eqb-true d.0 device now)) none in
      is.bare printer ∙ sym (ap (λ (o : Option PrinterNames). option_map_or (printer_data cache) o []) printer)

-- ---- all printers get their data

abbrev also : (ℕ → Bool) → ℕ → ℕ → Bool
also done d q = done q || (q == d)

done_stays : (ds : List ℕ) (done : ℕ → Bool) (q : ℕ) → done q ≡ true → fold also done ds q ≡ true
done_stays [] done q e = e
done_stays (d ∷ ds) done q e = done_stays ds (also done d) q (ap (λ (b : Bool). b || (q == d)) e)

done_each : {X : Type 0} (es : List (ℕ × X)) (done : ℕ → Bool) (q : ℕ) (s : X) → lookup (is_at (nat_cmp q)) es ≡ Some s → fold also done (map (λ (e : ℕ × X). e.0) es) q ≡ true
done_each [] done q s has = absurd (cc (has))
done_each {X} (e ∷ es) done q s has = by (is_at (nat_cmp q) e.0) refl has (done_each es (also done e.0) q s)
  where
    by : (b : Bool) → is_at (nat_cmp q) e.0 ≡ b → cond b (Some e.1) (lookup (is_at (nat_cmp q)) es) ≡ Some s → (lookup (is_at (nat_cmp q)) es ≡ Some s → fold also (also done e.0) (map (λ (f : ℕ × X). f.0) es) q ≡ true)
        → fold also (also done e.0) (map (λ (f : ℕ × X). f.0) es) q ≡ true
    by true f has later =
        let here : (q == e.0) ≡ true = grind (arith, nat_tests, f) in
        done_stays (map (λ (f : ℕ × X). f.0) es) (also done e.0) q (ap (λ (b : Bool). done q || b) here ∙ or-true (done q))
    by false f has later = later has

module _ (ids : List ℕ) (printers : List (ℕ × PrinterNames)) (deeds : List Deed) (devices : List (ℕ × Declared)) (cache : CacheState) where
  abbrev Shaped : List ClientDevice → Type 0
  Shaped ds = AllZip (IsShaped ids printers deeds) devices ds

  -- some printers have the data of what is kept
  record Refreshed (done : ℕ → Bool) (w : WorldState) : Type 0 where
    printers_are : w.printers ≡ printers
    cache_is : w.cache ≡ cache
    shaped : Shaped (w.client).devices
    have : AllZip (λ (d : ℕ × Declared) x. done d.0 ≡ true → HasBody cache d x) devices (w.client).devices

  one_refreshed : (done : ℕ → Bool) (w : WorldState) (device : ℕ) → Refreshed done w → Refreshed (also done device) (refreshing w device)
  one_refreshed done w device is = by (lookup (is_at (nat_cmp device)) w.printers) refl
    where
      both : AllZip (λ (d : ℕ × Declared) x. IsShaped ids printers deeds d x × (done d.0 ≡ true → HasBody cache d x)) devices (w.client).devices
      both = zip_both (IsShaped ids printers deeds) (λ (d : ℕ × Declared) x. done d.0 ≡ true → HasBody cache d x) devices (w.client).devices is.shaped is.have

      by : (o : Option PrinterNames) → lookup (is_at (nat_cmp device)) w.printers ≡ o
          → Refreshed (also done device) (option_map_or (λ (names : PrinterNames). with_client w (client.refresh w.client device (printer_data w.cache names))) o w)
      by None named =
          let none : lookup (is_at (nat_cmp device)) printers ≡ None = subst (λ (ps : List (ℕ × PrinterNames)). lookup (is_at (nat_cmp device)) ps ≡ None) is.printers_are named in
          record {
            printers_are = is.printers_are;
            cache_is = is.cache_is;
            shaped = is.shaped;
            have = zip_as (λ (d : ℕ × Declared) x. IsShaped ids printers deeds d x × (done d.0 ≡ true → HasBody cache d x)) (λ (d : ℕ × Declared) x. also done device d.0 ≡ true → HasBody cache d x)
                (λ d x own now. skipped_body ids printers deeds device cache none d x own.0 (done d.0) own.1 now) devices (w.client).devices both;
          }
      by (Some names) named =
          let some : lookup (is_at (nat_cmp device)) printers ≡ Some names = subst (λ (ps : List (ℕ × PrinterNames)). lookup (is_at (nat_cmp device)) ps ≡ Some names) is.printers_are named in
          record {
            printers_are = is.printers_are;
            cache_is = is.cache_is;
            shaped = zip_map (IsShaped ids printers deeds) (IsShaped ids printers deeds) (refreshed device (printer_data w.cache names))
                (refreshed_shaped ids printers deeds device names (printer_data w.cache names) some) devices (w.client).devices is.shaped;
            have = zip_map (λ (d : ℕ × Declared) x. IsShaped ids printers deeds d x × (done d.0 ≡ true → HasBody cache d x)) (λ (d : ℕ × Declared) x. also done device d.0 ≡ true → HasBody cache d x)
                (refreshed device (printer_data w.cache names))
                (λ d x own now. subst (λ (k : CacheState). HasBody cache d (refreshed device (printer_data k names) x)) (sym is.cache_is) (refreshed_body ids printers deeds device names cache some d x own.0 (done d.0) own.1 now))
                devices (w.client).devices both;
          }

  all_refreshed : (ds : List ℕ) (done : ℕ → Bool) (w : WorldState) → Refreshed done w → Refreshed (fold also done ds) (fold refreshing w ds)
  all_refreshed [] done w is = is
  all_refreshed (d ∷ ds) done w is = all_refreshed ds (also done d) (refreshing w d) (one_refreshed done w d is)

  -- every device has it then
  every_refreshed : (w : WorldState) → Refreshed (fold also (λ q. false) (map (λ (e : ℕ × PrinterNames). e.0) printers)) w → AllZip (HasBody cache) devices (w.client).devices
  every_refreshed w is =
      let done : ℕ → Bool = fold also (λ q. false) (map (λ (e : ℕ × PrinterNames). e.0) printers) in
      zip_as (λ (d : ℕ × Declared) x. IsShaped ids printers deeds d x × (done d.0 ≡ true → HasBody cache d x)) (HasBody cache) (λ d x own. one d x own.0 own.1 (d.1).printer refl) devices (w.client).devices
      (zip_both (IsShaped ids printers deeds) (λ (d : ℕ × Declared) x. done d.0 ≡ true → HasBody cache d x) devices (w.client).devices is.shaped is.have)
    where
      one : (d : ℕ × Declared) (x : ClientDevice) → IsShaped ids printers deeds d x → (fold also (λ q. false) (map (λ (e : ℕ × PrinterNames). e.0) printers) d.0 ≡ true → HasBody cache d x)
          → (o : Option PrinterNames) → (d.1).printer ≡ o → HasBody cache d x
      one d x own had None e = own.bare e ∙ sym (ap (λ (o : Option PrinterNames). option_map_or (printer_data cache) o []) e)
      one d x own had (Some names) e = had (done_each printers (λ q. false) d.0 names (own.found ∙ e))

  pub fresh_all : (w : WorldState) → w.printers ≡ printers → w.cache ≡ cache → Shaped (w.client).devices
      → let fresh = fold refreshing w (map (λ (e : ℕ × PrinterNames). e.0) w.printers) in Shaped (fresh.client).devices × AllZip (HasBody cache) devices (fresh.client).devices
  fresh_all w same kept shaped =
      let start : Refreshed (λ q. false) w = record {
        printers_are = same;
        cache_is = kept;
        shaped = shaped;
        have = zip_as (IsShaped ids printers deeds) (λ (d : ℕ × Declared) x. false ≡ true → HasBody cache d x) (λ d x own never. absurd cc) devices (w.client).devices shaped;
      } in
      let all = all_refreshed (map (λ (e : ℕ × PrinterNames). e.0) printers) (λ q. false) w start in
      subst (λ (ps : List (ℕ × PrinterNames)). let fresh = fold refreshing w (map (λ (e : ℕ × PrinterNames). e.0) ps) in Shaped (fresh.client).devices × AllZip (HasBody cache) devices (fresh.client).devices) (sym same)
      (all.shaped, every_refreshed (fold refreshing w (map (λ (e : ℕ × PrinterNames). e.0) printers)) all)

  -- the device that is there again has it
  pub fresh_one : (w : WorldState) (device : ℕ) (names : Option PrinterNames) → lookup (is_at (nat_cmp device)) w.printers ≡ names → w.printers ≡ printers → w.cache ≡ cache → Shaped (w.client).devices
      → let fresh = option_map_or (λ (n : PrinterNames). with_client w (client.refresh w.client device (printer_data w.cache n))) names w in
      Shaped (fresh.client).devices × AllZip (λ (d : ℕ × Declared) x. (d.0 == device) ≡ true → HasBody cache d x) devices (fresh.client).devices
  fresh_one w device names is same kept shaped =
      let start : Refreshed (λ q. false) w = record {
        printers_are = same;
        cache_is = kept;
        shaped = shaped;
        have = zip_as (IsShaped ids printers deeds) (λ (d : ℕ × Declared) x. false ≡ true → HasBody cache d x) (λ d x own never. absurd cc) devices (w.client).devices shaped;
      } in
      let one = one_refreshed (λ q. false) w device start in
      subst (λ (o : Option PrinterNames). let fresh = option_map_or (λ (n : PrinterNames). with_client w (client.refresh w.client device (printer_data w.cache n))) o w in
      Shaped (fresh.client).devices × AllZip (λ (d : ℕ × Declared) x. (d.0 == device) ≡ true → HasBody cache d x) devices (fresh.client).devices) is (one.shaped, one.have)
