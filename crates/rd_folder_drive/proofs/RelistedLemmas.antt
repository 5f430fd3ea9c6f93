-- A handle lists on: its pattern and the name that was listed last change, and nothing else of the table does.
use Rattle.std.proofs.Common.{◌≡◌, ◌∙◌, refl, sym, ap, subst, ℕ, ◌≤◌, ◌<◌, ◌==◌, Bool, true, false, cond, List, [], ◌∷◌, map, length, Option, Some, None, arith}
use Rattle.std.specs.List.{AllByRecursion}
use Rattle.std.specs.Option.{option_map, IsSome}
use Rattle.std.specs.Ordering.{nat_cmp}
use Rattle.std.specs.Map.{lookup, set_value}
use Rattle.std.proofs.lemmas.Option.{same_Some, none-some}
use Rattle.rd_dirinfo.specs.Naming.{Name}
use Rattle.rd_locks.specs.declared.held.Held.{Held}
use Rattle.rd_drive.specs.declared.access.Use.{Use}
use Rattle.rd_folder_drive.specs.declared.handle.Handle as kept
use Rattle.rd_drive.specs.declared.waiting.Waiting as kept_waiting
use Rattle.rd_drive.specs.Access.{use_of}
use Rattle.rd_drive.specs.DriveState.{Node}
use Rattle.rd_drive.specs.Uses.{uses_of}
use Rattle.rd_drive.specs.QueryDir.{with_listing}
use Rattle.std.specs.BTreeMap.{BTreeMap, IsOrdered, is_at}
use Rattle.rd_drive.specs.Store.{HasRoom}
use Rattle.rd_folder_drive.specs.declared.table.Table.{Table}
use Rattle.rd_folder_drive.specs.Listing.{Relists, relisted}
use Rattle.rd_folder_drive.specs.Table.{HasNodes, IsHandle, IsSound, drive_of, handle_of, kept_handle, open_at, path_at, uses_on}

abbrev Handles : Type 0
Handles = BTreeMap ℕ kept.Handle

abbrev use_by : kept.Handle → Use
use_by h = use_of h.access h.share

module _ (pattern : List ℕ) (last : Option Name) (test : ℕ → Bool) (h : kept.Handle) where
  abbrev now : kept.Handle
  now = relisted h pattern last

  -- what doesn't look at the listing sees the same handles
  same_seen : {X : Type 0} (g : kept.Handle → X) → g now ≡ g h → (q : ℕ → Bool) (es : List (ℕ × kept.Handle)) → lookup test es ≡ Some h → option_map g (lookup q (set_value test es now)) ≡ option_map g (lookup q es)
  same_seen g same q [] is = absurd (none-some h is)
  same_seen g same q (e ∷ es) is = by (λ there. same_seen g same q es there) (test e.0) is
    where
      here : e.1 ≡ h → (b : Bool) → option_map g (cond b (Some now) (lookup q es)) ≡ option_map g (cond b (Some e.1) (lookup q es))
      here one true = ap (λ x. Some x) (same ∙ sym (ap g one))
      here one false = refl

      rest : option_map g (lookup q (set_value test es now)) ≡ option_map g (lookup q es) → (b : Bool) → option_map g (cond b (Some e.1) (lookup q (set_value test es now))) ≡ option_map g (cond b (Some e.1) (lookup q es))
      rest later true = refl
      rest later false = later

      by : (lookup test es ≡ Some h → option_map g (lookup q (set_value test es now)) ≡ option_map g (lookup q es)) → (b : Bool) → cond b (Some e.1) (lookup test es) ≡ Some h
          → option_map g (lookup q (cond b ((e.0, now) ∷ es) (e ∷ set_value test es now))) ≡ option_map g (cond (q e.0) (Some e.1) (lookup q es))
      by later true one = here (same_Some e.1 h one) (q e.0)
      by later false there = rest (later there) (q e.0)

  same_uses : (n : ℕ) (es : List (ℕ × kept.Handle)) → lookup test es ≡ Some h → uses_on n (set_value test es now) ≡ uses_on n es
  same_uses n [] is = absurd (none-some h is)
  same_uses n (e ∷ es) is = by (λ there. same_uses n es there) (test e.0) is
    where
      rest : uses_on n (set_value test es now) ≡ uses_on n es → (b : Bool) → cond b (use_by e.1 ∷ uses_on n (set_value test es now)) (uses_on n (set_value test es now)) ≡ cond b (use_by e.1 ∷ uses_on n es) (uses_on n es)
      rest later true = ap (◌∷◌ (use_by e.1)) later
      rest later false = later

      by : (lookup test es ≡ Some h → uses_on n (set_value test es now) ≡ uses_on n es) → (b : Bool) → cond b (Some e.1) (lookup test es) ≡ Some h
          → uses_on n (cond b ((e.0, now) ∷ es) (e ∷ set_value test es now)) ≡ uses_on n (e ∷ es)
      by later true one = ap (λ (x : kept.Handle). uses_on n ((e.0, relisted x pattern last) ∷ es)) (sym (same_Some e.1 h one))
      by later false there = rest (later there) ((e.1).node == n)

  same_length : (es : List (ℕ × kept.Handle)) → length (set_value test es now) ≡ length es
  same_length [] = refl
  same_length (e ∷ es) = by (same_length es) (test e.0)
    where
      by : length (set_value test es now) ≡ length es → (b : Bool) → length (cond b ((e.0, now) ∷ es) (e ∷ set_value test es now)) ≡ length (e ∷ es)
      by later true = omega arith
      by later false = omega (arith, later)

  seen_set : (t : Table) (es : List (ℕ × kept.Handle)) → map (λ (e : ℕ × kept.Handle). (e.0, handle_of t e.1)) (set_value test es now) ≡ set_value test (map (λ (e : ℕ × kept.Handle). (e.0, handle_of t e.1)) es) (handle_of t now)
  seen_set t [] = refl
  seen_set t (e ∷ es) = by (seen_set t es) (test e.0)
    where
      by : map (λ (x : ℕ × kept.Handle). (x.0, handle_of t x.1)) (set_value test es now) ≡ set_value test (map (λ (x : ℕ × kept.Handle). (x.0, handle_of t x.1)) es) (handle_of t now) → (b : Bool)
          → map (λ (x : ℕ × kept.Handle). (x.0, handle_of t x.1)) (cond b ((e.0, now) ∷ es) (e ∷ set_value test es now))
          ≡ cond b ((e.0, handle_of t now) ∷ map (λ (x : ℕ × kept.Handle). (x.0, handle_of t x.1)) es) ((e.0, handle_of t e.1) ∷ set_value test (map (λ (x : ℕ × kept.Handle). (x.0, handle_of t x.1)) es) (handle_of t now))
      by later true = refl
      by later false = ap (◌∷◌ (e.0, handle_of t e.1)) later

-- what an option has, seen through a function
through : {X Y : Type 0} (g : X → Y) (o : Option X) (y : Y) → option_map g o ≡ Some y → (x : X) × (o ≡ Some x) × (g x ≡ y)
through g None y e = absurd (none-some y e)
through g (Some x) y e = (x, refl, same_Some (g x) y e)

module _ (t : Table) (sound : IsSound t) (file : ℕ) (h : kept.Handle) (is : kept_handle t file ≡ Some h) (pattern : List ℕ) (last : Option Name) (handles : Handles) (rising : IsOrdered nat_cmp handles)
    (entries : handles.entries ≡ set_value (is_at (nat_cmp file)) t.handles.entries (relisted h pattern last)) where
  abbrev pub after : Table
  after = record t { handles = handles }

  same_handles : {X : Type 0} (g : kept.Handle → X) → g (relisted h pattern last) ≡ g h → (other : ℕ) → option_map g (kept_handle after other) ≡ option_map g (kept_handle t other)
  same_handles g same other = ap (λ es. option_map g (lookup (is_at (nat_cmp other)) es)) entries ∙ same_seen pattern last (is_at (nat_cmp file)) h g same (is_at (nat_cmp other)) t.handles.entries is

  abbrev nodes_told : kept.Handle → ℕ × Bool
  nodes_told x = (x.node, x.delete_on_close)

  handles_still : (other : ℕ) (x : kept.Handle) → kept_handle after other ≡ Some x → IsHandle after other x
  handles_still other x e =
      let before = through nodes_told (kept_handle t other) (nodes_told x) (sym (same_handles nodes_told refl other) ∙ ap (option_map nodes_told) e) in
      let was = sound.handles other before.0 before.1 in
      record {
        on = subst (λ (y : ℕ × Bool). IsSome (open_at t y.0)) before.2 was.on;
        before = was.before;
        root = subst (λ (y : ℕ × Bool). path_at t y.0 ≡ [] → y.1 ≡ false) before.2 was.root;
      }

  some_still : (other : ℕ) → IsSome (kept_handle t other) → IsSome (kept_handle after other)
  some_still other some = by (kept_handle after other) (kept_handle t other) (same_handles (λ x. x.node) refl other) some
    where
      by : (a b : Option kept.Handle) → option_map (λ (x : kept.Handle). x.node) a ≡ option_map (λ (x : kept.Handle). x.node) b → IsSome b → IsSome a
      by None None e some = some
      by None (Some b) e some = absurd (none-some b.node e)
      by (Some a) b e some = refl

  locked_still : (l : List Held) → AllByRecursion (λ (held : Held). option_map (λ (x : kept.Handle). x.node) (kept_handle t held.file) ≡ Some held.node) l
      → AllByRecursion (λ (held : Held). option_map (λ (x : kept.Handle). x.node) (kept_handle after held.file) ≡ Some held.node) l
  locked_still [] all = tt
  locked_still (held ∷ l) all = (same_handles (λ x. x.node) refl held.file ∙ all.0, locked_still l all.1)

  waits_still : (l : List kept_waiting.Waiting) → AllByRecursion (λ (w : kept_waiting.Waiting). (false ≡ false → IsSome (kept_handle t w.file)) × HasRoom w.wish) l
      → AllByRecursion (λ (w : kept_waiting.Waiting). (false ≡ false → IsSome (kept_handle after w.file)) × HasRoom w.wish) l
  waits_still [] all = tt
  waits_still (w ∷ l) all = ((λ e. some_still w.file ((all.0).0 e), (all.0).1), waits_still l all.1)

  uses_still : (n : ℕ) → uses_on n handles.entries ≡ uses_on n t.handles.entries
  uses_still n = ap (uses_on n) entries ∙ same_uses pattern last (is_at (nat_cmp file)) h n t.handles.entries is

  pub relisted_sound : IsSound after
  relisted_sound = record {
    label = sound.label;
    rising = (sound.rising.0, rising);
    handles = handles_still;
    opened = λ n o on. record {
      path = (sound.opened n o on).path;
      root = (sound.opened n o on).root;
      used = subst (λ (l : List Use). 0 < length l) (sym (uses_still n)) (sound.opened n o on).used;
      uses = (sound.opened n o on).uses ∙ ap uses_of (sym (uses_still n));
      before = (sound.opened n o on).before;
    };
    apart = sound.apart;
    locked = locked_still t.locks.locks sound.locked;
    waits = waits_still t.waiting.items sound.waits;
    reserved = sound.reserved;
    few = (subst (λ n. n ≤ 4096) (sym (ap (length {A = ℕ × kept.Handle}) entries ∙ same_length pattern last (is_at (nat_cmp file)) h t.handles.entries)) sound.few.0, sound.few.1, sound.few.2);
    ids = sound.ids;
  }

  pub relisted_seen : (nodes : List Node) → drive_of after nodes ≡ with_listing (drive_of t nodes) file (handle_of t h) pattern last
  relisted_seen nodes = ap (λ hs. record (drive_of t nodes) { handles = hs }) (ap (map (λ (e : ℕ × kept.Handle). (e.0, handle_of t e.1))) entries ∙ seen_set pattern last (is_at (nat_cmp file)) h t t.handles.entries)

  pub relisted_holds : (nodes : List Node) → HasNodes t nodes → HasNodes after nodes
  relisted_holds nodes holds = record { map = holds.map; there = holds.there }

-- the same, of a table that was left so
pub relists_sound : (t new : Table) → IsSound t → (file : ℕ) (h : kept.Handle) → kept_handle t file ≡ Some h → (pattern : List ℕ) (last : Option Name) → Relists t file h pattern last new
    → IsSound new × ((nodes : List Node) → HasNodes t nodes → HasNodes new nodes × (drive_of new nodes ≡ with_listing (drive_of t nodes) file (handle_of t h) pattern last))
relists_sound t new sound file h is pattern last relists =
    subst (λ (x : Table). IsSound x × ((nodes : List Node) → HasNodes t nodes → HasNodes x nodes × (drive_of x nodes ≡ with_listing (drive_of t nodes) file (handle_of t h) pattern last))) (sym relists.rest)
    (relisted_sound t sound file h is pattern last new.handles relists.rising relists.handles, λ nodes holds. (relisted_holds t sound file h is pattern last new.handles relists.rising relists.handles nodes holds, relisted_seen t sound file h is pattern last new.handles relists.rising relists.handles nodes))
