-- The next file id gets a handle, and is taken back: what may be open then, and the table as it was.
use Rattle.std.proofs.Common.{◌≡◌, ◌∙◌, refl, sym, ap, subst, inr, ℕ, ◌+◌, ◌<◌, ◌≤◌, ◌==◌, Bool, true, false, ◌||◌, cond, List, [], ◌∷◌, map, length, Option, Some, None, Err, arith}
use Rattle.std.specs.List.{list_any, AllByRecursion}
use Rattle.std.specs.Option.{is_some, option_map, option_map_or, IsSome}
use Rattle.std.specs.Ordering.{nat_cmp}
use Rattle.std.specs.Map.{lookup, remove_entry}
use Rattle.std.specs.BTreeMap.{BTreeMap, is_at, IsOrdered}
use Rattle.std.proofs.lemmas.Bool.Decides.{nat_tests}
use Rattle.std.proofs.lemmas.Option.{none-some, same_Some}
use Rattle.rd_tree.proofs.ViewLemmas.{itself}
use Rattle.rd_base.specs.declared.status.Status.{Status}
use Rattle.rd_dirinfo.specs.declared.naming.Naming.TheVariants.{Exact}
use Rattle.rd_dirinfo.specs.Paths.{Names, is_path}
use Rattle.rd_locks.specs.declared.held.Held.{Held}
use Rattle.rd_drive.specs.declared.access.Use.{Use}
use Rattle.rd_drive.specs.declared.asked.Asked.{Asked}
use Rattle.rd_drive.specs.declared.waiting.Waiting as kept_waiting
use Rattle.rd_drive.specs.Access.{use_of}
use Rattle.rd_drive.specs.Create.{deletes_on_close}
use Rattle.rd_drive.specs.DriveState.{DriveState, Node}
use Rattle.rd_drive.specs.Outcome as outcome
use Rattle.rd_drive.specs.Store.{HasRoom}
use Rattle.rd_drive.specs.UseCounts.{more}
use Rattle.rd_drive.specs.Uses.{uses_of}
use Rattle.rd_drive.proofs.HandlesLemmas.{inserted_removed}
use Rattle.rd_drive.proofs.StoreLemmas.{is_equal}
use Rattle.rd_folder.proofs.HasLemmas.{map_alike}
use Rattle.rd_folder_drive.specs.declared.handle.Handle as kept
use Rattle.rd_folder_drive.specs.declared.open.Open.{Open}
use Rattle.rd_folder_drive.specs.declared.table.Table.{Table}
use Rattle.rd_folder_drive.specs.Closing.{with_uses_left}
use Rattle.rd_folder_drive.specs.Opening.{Becomes, GainsUse, GivesHandle, IsAsBefore, IsAtPath, IsHeldFrom, IsHolding, IsOpening, MayHold, made_handle, used_more}
use Rattle.rd_folder_drive.specs.Served.{IsOver, IsRefusedBy, Seen, Serves}
use Rattle.rd_folder_drive.specs.Table.{HasNodes, IsHandle, IsOpened, IsSound, drive_of, is_pending_open, kept_handle, marked, open_at, path_at, uses_on}
use Rattle.rd_folder_drive.proofs.HandlesLemmas.{AreKept, all_kept, seen_alike, seen_entry}
use Rattle.rd_folder_drive.proofs.MarkLemmas.{marks_alike}
use Rattle.rd_folder_drive.proofs.OpeningLemmas.{absent, unopened_next}
use Rattle.rd_folder_drive.proofs.ServeLemmas.{table_leaves}
use Rattle.rd_folder_drive.proofs.UsesLemmas.{few_uses, use_by}

-- ---- what may be open

-- what is open has a number that was given
pub open_low : (t : Table) → IsSound t → (k : ℕ) → IsSome (open_at t k) → k < t.next
open_low t sound k on = by (open_at t k) refl on
  where
    by : (o : Option Open) → open_at t k ≡ o → IsSome o → k < t.next
    by None is some = absurd (cc)
    by (Some o) is some = (sound.opened k o is).before

-- nothing uses what the next file id would open
unused : (t : Table) → IsSound t → (es : List (ℕ × kept.Handle)) → AreKept (kept_handle t) es → uses_on t.next es ≡ []
unused t sound [] all = refl
unused t sound (e ∷ es) all = ap (λ b. cond b (use_by e.1 ∷ uses_on t.next es) (uses_on t.next es)) (other (open_low t sound (e.1).node (sound.handles e.0 e.1 all.0).on)) ∙ unused t sound es all.1
  where
    other : (e.1).node < t.next → ((e.1).node == t.next) ≡ false
    other low = grind (arith, nat_tests)

-- what is held is at the path
pub becomes_path : (t : Table) (asked : Asked) (path : Names) (folder : Bool) (found : Option ℕ) → IsAtPath t path found → (n : ℕ) (o : Open) → Becomes t asked path folder found n o → o.path ≡ path
becomes_path t asked path folder None none n o (same, is) = ap (λ (x : Open). x.path) is
becomes_path t asked path folder (Some m) (p, on, at) n o (q, was, same, is) = ap (λ (x : Open). x.path) is ∙ ap (λ (x : Open). x.path) (same_Some q p (sym was ∙ on)) ∙ at

-- what isn't open yet
pub may_first : (t : Table) → IsSound t → (asked : Asked) (path : Names) (folder : Bool) → is_path path ≡ true → (path ≡ [] → deletes_on_close asked ≡ false) → IsAtPath t path None → MayHold t asked path folder None
may_first t sound asked path folder names root none = λ n o (same, is). record {
  path = ap (λ (x : Open). is_path x.path) is ∙ names;
  rests = ap (λ (x : Open). x.pending) is;
  root = λ top. root (sym (ap (λ (x : Open). x.path) is) ∙ top);
  uses = (
      let bare : uses_on n t.handles.entries ≡ [] = ap (λ (k : ℕ). uses_on k t.handles.entries) same ∙ unused t sound t.handles.entries (all_kept t sound.rising.1) in
      ap (λ (x : Open). x.uses) is ∙ ap (λ (us : List Use). more (use_of asked.access asked.share) (uses_of us)) (sym bare)
      );
  before = omega (arith, same);
  apart = λ m p on at. absurd (none m p on (at ∙ ap (λ (x : Open). x.path) is));
  was = λ p on. absurd (none-some p (sym (unopened_next t sound) ∙ ap (open_at t) (sym same) ∙ on));
}

-- what is open, and isn't pending
pub may_again : (t : Table) → IsSound t → (asked : Asked) (path : Names) (folder : Bool) (m : ℕ) → (path ≡ [] → deletes_on_close asked ≡ false) → IsAtPath t path (Some m) → ((p : Open) → open_at t m ≡ Some p → p.pending ≡ false)
    → MayHold t asked path folder (Some m)
may_again t sound asked path folder m root (q, at, names) rests = λ n o (p, on, same, is).
    let one : q ≡ p = same_Some q p (sym at ∙ on) in
    let opened : IsOpened t m p = sound.opened m p on in
    let low : m < t.next = opened.before in
    let here : p.path ≡ path = ap (λ (x : Open). x.path) (sym one) ∙ names in
    let path_is : o.path ≡ p.path = ap (λ (x : Open). x.path) is in
    record {
      path = ap is_path path_is ∙ opened.path;
      rests = ap (λ (x : Open). x.pending) is ∙ rests p on;
      root = λ top. root (sym here ∙ sym path_is ∙ top);
      uses = ap (λ (x : Open). x.uses) is ∙ ap (more (use_of asked.access asked.share)) (opened.uses ∙ ap (λ (k : ℕ). uses_of (uses_on k t.handles.entries)) (sym same));
      before = omega (arith, same, low);
      apart = λ k r onk atk. sound.apart k m r p onk on (atk ∙ path_is) ∙ sym same;
      was = λ r onr.
          let again : r ≡ p = same_Some r p (sym onr ∙ ap (open_at t) same ∙ on) in
          (ap (λ (x : Open). x.path) again ∙ sym path_is, ap (λ (x : Open). x.pending) again ∙ rests p on);
    }

-- the uses of what is open, counted, and as many as may be
pub used_few : (t : Table) → IsSound t → length t.handles.entries < 4096 → (n : ℕ) (o : Open) → open_at t n ≡ Some o → (uses : List Use) × (o.uses ≡ uses_of uses) × (length uses < 4096)
used_few t sound room n o on =
    let few : length (uses_on n t.handles.entries) ≤ length t.handles.entries = few_uses n t.handles.entries in
    (uses_on n t.handles.entries, (sound.opened n o on).uses, omega (arith, few, room))

some_open : (found : Option Open) → IsSome found → (o : Open) × (found ≡ Some o)
some_open None on = absurd (cc)
some_open (Some o) on = (o, refl)

-- what is open by a number
pub open_is : (t : Table) (n : ℕ) → IsSome (open_at t n) → (o : Open) × (open_at t n ≡ Some o)
open_is t n on = some_open (open_at t n) on

-- the handle is given, and what was open is used once more
pub holds_again : (t : Table) (asked : Asked) (m : ℕ) (o : Open) → open_at t m ≡ Some o → (add : Table) → GivesHandle t asked m add → (usage : Use) → usage ≡ use_of asked.access asked.share
    → (gain : Table) → gain ≡ record add { opens = gain.opens } → GainsUse add m usage gain → IsOrdered nat_cmp gain.opens → (path : Names) (folder : Bool) → IsHolding t asked path folder (Some m) m (record gain { next = gain.next + 1 })
holds_again t asked m o on add gives usage is gain others gains rising path folder = record {
  o = used_more asked o;
  becomes = (o, on, refl, refl);
  opening = subst (IsOpening t asked m (used_more asked o)) (sym whole) (record {
    others = refl;
    entries = gives.entries;
    looked = gives.looked;
    opens = λ k. gains o (same m ∙ on) k ∙ (λ i. cond (is_at (nat_cmp m) k) (Some (record o { uses = more (is i) o.uses })) (same k i));
    rising = (rising, gives.rising);
  });
}
  where
    same : (k : ℕ) → open_at add k ≡ open_at t k
    same k = ap (λ (x : Table). open_at x k) gives.others

    whole : record gain { next = gain.next + 1 } ≡ record t { opens = gain.opens; handles = add.handles; next = t.next + 1 }
    whole = (λ i. record (others i) { next = (others i).next + 1 }) ∙ (λ i. record (gives.others i) { opens = gain.opens; next = (gives.others i).next + 1 })

-- what wasn't open isn't, and the handle is taken back
pub first_undone : (t : Table) → IsSound t → (asked : Asked) (file : ℕ) → file ≡ t.next → (n : ℕ) (add : Table) → GivesHandle t asked n add
    → (opens : BTreeMap ℕ Open) → opens.entries ≡ add.opens.entries → IsOrdered nat_cmp opens → (handles : BTreeMap ℕ kept.Handle) → handles.entries ≡ remove_entry (is_at (nat_cmp file)) add.handles.entries → IsOrdered nat_cmp handles
    → IsAsBefore t (record add { opens = opens; handles = handles })
first_undone t sound asked file given n add gives opens stay rising handles out ordered = record {
  others = λ i. record (gives.others i) { opens = opens; handles = handles };
  entries = out ∙ (λ i. remove_entry (is_at (nat_cmp (given i))) (gives.entries i)) ∙ inserted_removed t.next (made_handle asked n) t.handles.entries (absent t sound);
  opens = λ k. ap (lookup (is_at (nat_cmp k))) (stay ∙ ap (λ (x : Table). x.opens.entries) gives.others);
  rising = (rising, ordered);
}

-- ---- the table as it was

module _ (t : Table) (sound : IsSound t) (new : Table) (same : IsAsBefore t new) where
  abbrev after : Table
  after = record t { opens = new.opens; handles = new.handles }

  kept_same : (k : ℕ) → kept_handle new k ≡ kept_handle t k
  kept_same k = ap (lookup (is_at (nat_cmp k))) same.entries

  path_same : (k : ℕ) → path_at new k ≡ path_at t k
  path_same k = ap (λ (x : Option Open). option_map_or (λ (o : Open). o.path) x []) (same.opens k)

  after_sound : IsSound after
  after_sound = record {
    label = sound.label;
    rising = same.rising;
    handles = λ k h is.
        let was : IsHandle t k h = sound.handles k h (sym (kept_same k) ∙ is) in
        record { on = ap is_some (same.opens h.node) ∙ was.on; before = was.before; root = λ top. was.root (sym (path_same h.node) ∙ top) };
    opened = λ n o on.
        let was : IsOpened t n o = sound.opened n o (sym (same.opens n) ∙ on) in
        record {
          path = was.path;
          root = was.root;
          used = subst (λ (es : List (ℕ × kept.Handle)). 0 < length (uses_on n es)) (sym same.entries) was.used;
          uses = was.uses ∙ ap (λ (es : List (ℕ × kept.Handle)). uses_of (uses_on n es)) (sym same.entries);
          before = was.before;
        };
    apart = λ n m o p on at path. sound.apart n m o p (sym (same.opens n) ∙ on) (sym (same.opens m) ∙ at) path;
    locked = subst (λ (es : List (ℕ × kept.Handle)). AllByRecursion (λ (held : Held). option_map (λ (h : kept.Handle). h.node) (lookup (is_at (nat_cmp held.file)) es) ≡ Some held.node) t.locks.locks) (sym same.entries) sound.locked;
    waits = subst (λ (es : List (ℕ × kept.Handle)). AllByRecursion (λ (w : kept_waiting.Waiting). (false ≡ false → IsSome (lookup (is_at (nat_cmp w.file)) es)) × HasRoom w.wish) t.waiting.items) (sym same.entries) sound.waits;
    reserved = sound.reserved;
    few = (subst (λ (es : List (ℕ × kept.Handle)). length es ≤ 4096) (sym same.entries) sound.few.0, sound.few.1, sound.few.2);
    ids = sound.ids;
  }

  pub before_sound : IsSound new
  before_sound = subst IsSound (sym same.others) after_sound

  pub before_holds : (nodes : List Node) → HasNodes t nodes → HasNodes new nodes
  before_holds nodes holds = record { map = holds.map; there = λ n o on. holds.there n o (sym (same.opens n) ∙ on) }

  marks_same : (path : Names) → list_any (is_pending_open path) new.opens.entries ≡ list_any (is_pending_open path) t.opens.entries
  marks_same path =
      marks_alike new t same.rising.0 sound.rising.0 path (λ (n, o, on, pending, at). (n, o, sym (same.opens n) ∙ on, pending, at)) (λ (n, o, on, pending, at). (n, o, same.opens n ∙ on, pending, at))

  handles_same : map (seen_entry new) new.handles.entries ≡ map (seen_entry t) t.handles.entries
  handles_same = ap (map (seen_entry new)) same.entries ∙ seen_alike t new t.handles.entries (λ e. path_same (e.1).node)

  pub before_drive : (nodes : List Node) → drive_of new nodes ≡ drive_of t nodes
  before_drive nodes = ap (λ (x : Table). drive_of x nodes) same.others ∙ (λ i. record {
    naming = Exact;
    label = t.label;
    limited = false;
    nodes = map_alike (marked new.opens.entries) (marked t.opens.entries) nodes (λ x has. λ j. record x { pending = marks_same x.path j }) i;
    handles = handles_same i;
    locks = (drive_of t nodes).locks;
    waiting = (drive_of t nodes).waiting;
    next = t.next;
  })

  -- the folder refused, or no memory was found
  pub serves_before : (before after : Seen) → IsOver t before → after.told ≡ before.told → (comes : DriveState → outcome.Outcome) (status : Status) → IsRefusedBy before after status → Serves t before new after comes (Err status)
  serves_before before after over told comes status by =
      (before_sound, inr (by, before_drive, table_leaves t new before after over told (λ s left. left ≡ s) (λ nodes is holds. (before_holds nodes holds, before_drive nodes))))

  -- the requests that wait stay
  pub waiting_same : new.waiting ≡ t.waiting
  waiting_same = ap (λ (x : Table). x.waiting) same.others

-- ---- a handle is taken back

module _ (asked : Asked) (file n : ℕ) (now : Table) where
  -- it was on what was open before, or on what wasn't
  pub held_next : (t : Table) → IsHeldFrom t asked file n now → now.next ≡ t.next + 1
  held_next t held = ap (λ (x : Table). x.next) (held.holds).opening.others

  -- what is open by a number and was before is used once more than it was
  pub record IsAgain (t : Table) : Type 0 where
    pub o : Open
    pub p : Open
    pub on : open_at now n ≡ Some o
    pub was : open_at t n ≡ Some p
    pub rests : o.pending ≡ p.pending
    pub uses : o.uses ≡ more (use_of asked.access asked.share) p.uses
    pub left : with_uses_left o p.uses false ≡ p

  either : (b : Bool) → (b || false) ≡ b
  either true = refl
  either false = refl

  pub again : (t : Table) (held : IsHeldFrom t asked file n now) → (n ≡ file → ⊥) → IsAgain t
  again t held other = by held.found held.holds.becomes
    where
      here : open_at now n ≡ Some held.holds.o
      here = held.holds.opening.opens n ∙ ap (λ b. cond b (Some held.holds.o) (open_at t n)) (itself n)

      by : (found : Option ℕ) → Becomes t asked held.path held.folder found n held.holds.o → IsAgain t
      by None (same, is) = absurd (other (same ∙ sym held.given))
      by (Some m) (p, on, same, is) = record {
        o = held.holds.o;
        p = p;
        on = here;
        was = ap (open_at t) same ∙ on;
        rests = ap (λ (x : Open). x.pending) is;
        uses = ap (λ (x : Open). x.uses) is;
        left = ap (λ (x : Open). with_uses_left x p.uses false) is ∙ (λ i. record p { pending = either p.pending i });
      }

  module _ (t : Table) (held : IsHeldFrom t asked file n now) (handles : BTreeMap ℕ kept.Handle) (entries : handles.entries ≡ remove_entry (is_at (nat_cmp file)) now.handles.entries) (ordered : IsOrdered nat_cmp handles) where
    entries_back : handles.entries ≡ t.handles.entries
    entries_back = entries ∙ (λ i. remove_entry (is_at (nat_cmp (held.given i))) (held.holds.opening.entries i)) ∙ inserted_removed t.next (made_handle asked n) t.handles.entries (absent t held.sound)

    back_so : (opens : BTreeMap ℕ Open) → IsOrdered nat_cmp opens → ((k : ℕ) → lookup (is_at (nat_cmp k)) opens.entries ≡ open_at t k) → (next : ℕ) → next ≡ t.next → (new : Table) → new ≡ record now { opens = opens; handles = handles; next = next } → IsAsBefore t new
    back_so opens rising opened next same new is = subst (IsAsBefore t) (sym is) (record {
      others = λ i. record (held.holds.opening.others i) { opens = opens; handles = handles; next = same i };
      entries = entries_back;
      opens = opened;
      rising = (rising, ordered);
    })

    -- what wasn't open before isn't open any more
    pub back_first : (opens : BTreeMap ℕ Open) → IsOrdered nat_cmp opens → n ≡ file → ((k : ℕ) → lookup (is_at (nat_cmp k)) opens.entries ≡ cond (is_at (nat_cmp n) k) None (open_at now k))
        → (next : ℕ) → next ≡ t.next → (new : Table) → new ≡ record now { opens = opens; handles = handles; next = next } → IsAsBefore t new
    back_first opens rising own gone next same new is = back_so opens rising (λ k. gone k ∙ ap (λ (x : Option Open). cond (is_at (nat_cmp n) k) None x) (held.holds.opening.opens k) ∙ by k (is_at (nat_cmp n) k) refl) next same new is
      where
        by : (k : ℕ) (b : Bool) → is_at (nat_cmp n) k ≡ b → cond b None (cond b (Some held.holds.o) (open_at t k)) ≡ open_at t k
        by k true at = sym (ap (open_at t) (sym (is_equal n k at) ∙ own ∙ held.given) ∙ unopened_next t held.sound)
        by k false at = refl

    -- what was is used as before
    pub back_again : (opens : BTreeMap ℕ Open) → IsOrdered nat_cmp opens → (before : IsAgain t) → ((k : ℕ) → lookup (is_at (nat_cmp k)) opens.entries ≡ cond (is_at (nat_cmp n) k) (Some (with_uses_left before.o before.p.uses false)) (open_at now k))
        → (next : ℕ) → next ≡ t.next → (new : Table) → new ≡ record now { opens = opens; handles = handles; next = next } → IsAsBefore t new
    back_again opens rising before lost next same new is = back_so opens rising (λ k. lost k ∙ ap (λ (x : Option Open). cond (is_at (nat_cmp n) k) (Some (with_uses_left before.o before.p.uses false)) x) (held.holds.opening.opens k) ∙ by k (is_at (nat_cmp n) k) refl) next same new is
      where
        by : (k : ℕ) (b : Bool) → is_at (nat_cmp n) k ≡ b → cond b (Some (with_uses_left before.o before.p.uses false)) (cond b (Some held.holds.o) (open_at t k)) ≡ open_at t k
        by k true at = ap (λ (x : Open). Some x) before.left ∙ sym (ap (open_at t) (sym (is_equal n k at)) ∙ before.was)
        by k false at = refl
