-- What parts of a call store, and that their deeds stand before those of the calls before.
use Rattle.std.proofs.Common.{◌≡◌, ◌⊎◌, ◌∙◌, refl, sym, ap, subst, inl, inr, ℕ, Bool, List, [], ◌∷◌, ◌++◌, map, reverse, Option, Some, None, append_assoc, append-nil}
use Rattle.std.specs.Prelude.{Ok, Err}
use Rattle.rd_base.specs.declared.journal.Item.{Item}
use Rattle.rd_base.specs.declared.journal.Key.{Key}
use Rattle.rd_desk.specs.declared.calls.DeskReply.{DeskReply}
use Rattle.rd_front.specs.Front.{end_call}
use Rattle.rd_front.specs.State.{DeviceDeskState, SessionStation}
use Rattle.rd_hello.specs.declared.end_fault.EndFault.TheVariants as fault
use Rattle.rd_served_causes.proofs.JournalsHeldLemmas.{turned_has}
use Rattle.rd_station.proofs.Members.{has_append}
use Rattle.rd_deeds.specs.Talk.{Deed, Has, stores}
use Rattle.rd_served_causes.specs.ServedDeeds.{deeds_after, deeds_of, deeds_of_calls, sent_by, stored, stored_each}
use Rattle.rd_served_causes.specs.ServedParts.{EndsEach, FrontPart, begins, calls, directs, ends, forgets, hears, keeps, learns, misplaces, refreshes, sends, tells_gone, tells_there, tries, unwritten, writes}
use Rattle.rd_served_causes.specs.ServedServed.{CallsDesk}
use Rattle.rd_served_sessions.specs.Placed.{all_done_by}

abbrev Of : Type 0
Of = SessionStation

-- ---- calls, one after the other

-- what parts did stands before what was done before them
pub deeds_split : (ps : List FrontPart) (before : List Deed) → deeds_after ps before ≡ deeds_after ps [] ++ before
deeds_split [] before = refl
deeds_split (x ∷ ps) before =
    deeds_split ps (deeds_of x ++ before)
    ∙ ap (λ (ds : List Deed). deeds_after ps [] ++ (ds ++ before)) (sym (append-nil (deeds_of x)))
    ∙ sym (append_assoc (deeds_after ps []) (deeds_of x ++ []) before)
    ∙ ap (λ (ds : List Deed). ds ++ before) (sym (deeds_split ps (deeds_of x ++ [])))

-- what the parts of each call did
abbrev pub groups_of : List (List FrontPart) → List (List Deed)
groups_of parts = map (λ (ps : List FrontPart). deeds_after ps []) parts

pub all_groups : (parts : List (List FrontPart)) (before : List Deed) → deeds_of_calls parts before ≡ all_done_by (groups_of parts) before
all_groups [] before = refl
all_groups (ps ∷ parts) before = all_groups parts (deeds_after ps before) ∙ ap (all_done_by (groups_of parts)) (deeds_split ps before)

-- ---- what is stored

-- an entry of a device among those of each device
abbrev pub HasEach : List (ℕ × List Item) → ℕ → Item → Type 0
HasEach [] device item = ⊥
HasEach (t ∷ told) device item = ((t.0 ≡ device) × Has item t.1) ⊎ HasEach told device item

-- the part stored the entry in the device's journal
abbrev pub StoresIn : FrontPart → ℕ → Item → Type 0
StoresIn (calls place id does back items) device item = (id ≡ device) × Has item items
StoresIn (ends over told) device item = HasEach told device item
StoresIn x device item = ⊥

stored_has : (device id : ℕ) (item : Item) (items : List Item) → Has (stores device item) (map (stores id) items) → (id ≡ device) × Has item items
stored_has device id item [] has = absurd has
stored_has device id item (x ∷ items) (inl same) = ((let here : device ≡ id = cc (same) in sym here), inl (let own : item ≡ x = cc (same) in own))
stored_has device id item (x ∷ items) (inr later) = let more = stored_has device id item items later in (more.0, inr more.1)

each_has : (told : List (ℕ × List Item)) (device : ℕ) (item : Item) → Has (stores device item) (stored_each told) → HasEach told device item
each_has [] device item has = absurd has
each_has (t ∷ told) device item has = elim (has_append (stores device item) (stored_each told) (stored t.0 t.1) has) [
  | inl later ↦ inr (each_has told device item later)
  | inr here ↦ inl (let own = stored_has device t.0 item (reverse t.1) here in (own.0, turned_has item t.1 own.1))
]

-- another deed alone
none_stored : (device : ℕ) (item : Item) (y : Deed) → (stores device item ≡ y → ⊥) → Has (stores device item) (y ∷ []) → ⊥
none_stored device item y other (inl same) = other same
none_stored device item y other (inr none) = none

pub part_stores : (x : FrontPart) (device : ℕ) (item : Item) → Has (stores device item) (deeds_of x) → StoresIn x device item
part_stores (hears channel message (Err fault.Memory)) device item has = absurd has
part_stores (hears channel message (Err (fault.Order state packet))) device item has = absurd (none_stored device item _ (λ same. cc (same)) has)
part_stores (hears channel message (Err (fault.Grammar bad))) device item has = absurd (none_stored device item _ (λ same. cc (same)) has)
part_stores (hears channel message (Ok heard)) device item has = absurd (none_stored device item _ (λ same. cc (same)) has)
part_stores tries device item has = absurd has
part_stores keeps device item has = absurd has
part_stores forgets device item has = absurd has
part_stores misplaces device item has = absurd has
part_stores (directs st answer) device item has = absurd has
part_stores (calls place id does back items) device item has = let own = stored_has device id item (reverse items) has in (own.0, turned_has item items own.1)
part_stores (tells_gone d (Ok done)) device item has = absurd (none_stored device item _ (λ same. cc (same)) has)
part_stores (tells_gone d (Err error)) device item has = absurd has
part_stores (tells_there d (Ok done)) device item has = absurd (none_stored device item _ (λ same. cc (same)) has)
part_stores (tells_there d (Err error)) device item has = absurd has
part_stores (sends channel None) device item has = absurd has
part_stores (sends channel (Some o)) device item has = by o.answers has
  where
    by : (answers : Option Key) → Has (stores device item) (sent_by channel o.message answers) → ⊥
    by None is = none_stored device item _ (λ same. cc (same)) is
    by (Some key) is = none_stored device item _ (λ same. cc (same)) is
part_stores (writes d c) device item has = absurd (none_stored device item _ (λ same. cc (same)) has)
part_stores (unwritten d c) device item has = absurd has
part_stores (learns n answer) device item has = absurd has
part_stores (refreshes d) device item has = absurd has
part_stores (begins channel) device item has = absurd has
part_stores (ends over told) device item has = each_has told device item has

-- what parts did was done by the first of them, or by those after it
pub has_split : (y : Deed) (x : FrontPart) (ps : List FrontPart) → Has y (deeds_after (x ∷ ps) []) → Has y (deeds_after ps []) ⊎ Has y (deeds_of x)
has_split y x ps has = elim (has_append y (deeds_after ps []) (deeds_of x ++ []) (subst (Has y) (deeds_split ps (deeds_of x ++ [])) has)) [
  | inl later ↦ inl later
  | inr here ↦ inr (subst (Has y) (append-nil (deeds_of x)) here)
]

-- ---- the end of a channel

-- what no desk stores as a channel ends isn't stored then
pub ends_lack : (item : Item) (over : Bool) → ((d e : DeviceDeskState) (s u : Of) (back : DeskReply) (items : List Item) → CallsDesk d e s (end_call over) back items u → Has item items → ⊥)
    → (ds : List DeviceDeskState) (ss : List Of) (ts : List (ℕ × List Item)) (es : List DeviceDeskState) (us : List Of) → EndsEach over ds ss ts es us → (device : ℕ) → HasEach ts device item → ⊥
ends_lack item over never [] [] [] [] [] ended device has = has
ends_lack item over never (d ∷ ds) (s ∷ ss) (t ∷ ts) (e ∷ es) (u ∷ us) ended device (inl here) = never d e s u ended.0 t.1 ended.2 here.1
ends_lack item over never (d ∷ ds) (s ∷ ss) (t ∷ ts) (e ∷ es) (u ∷ us) ended device (inr later) = ends_lack item over never ds ss ts es us ended.3 device later
ends_lack item over never ds ss ts es us ended device has = absurd ended
