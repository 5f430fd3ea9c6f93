-- Completions are written in the order in which journals sent their keys, by their heads.
use Rattle.std.proofs.Common.{◌≡◌, ◌∙◌, refl, sym, ap, subst, inl, inr, ℕ, ◌<◌, ◌^◌, ◌==◌, ◌&&◌, ◌||◌, arith, zero, suc, Bool, true, false, cond, List, [], ◌∷◌, ◌++◌, map, reverse, Option, Some, None, slice_get, append_assoc, eqb-true}
use Rattle.std.specs.Prelude.{Ok, Err, filter, if◌then◌else◌}
use Rattle.std.specs.List.{cons_option, list_any}
use Rattle.std.proofs.lemmas.Bool.Decides.{nat_tests}
use Rattle.rd_base.specs.declared.journal.Item.{Item}
use Rattle.rd_base.specs.declared.journal.Item.TheVariants.{Came}
use Rattle.rd_base.specs.declared.journal.Key.{Key}
use Rattle.rd_front.specs.State.{DeviceDeskState, FrontState, SessionStation}
use Rattle.rd_front.specs.declared.calls.FrontCall.{FrontCall}
use Rattle.rd_front.specs.declared.calls.FrontReply.{FrontReply}
use Rattle.rd_hello.specs.declared.end_fault.EndFault.TheVariants as fault
use Rattle.rd_served.specs.JournalsStanding.{IsOut}
use Rattle.rd_served.proofs.JournalsCameLemmas.{never_came}
use Rattle.rd_station.specs.Station.{is_key}
use Rattle.rd_turn.specs.declared.object.Entry.{Entry}
use Rattle.rd_world.specs.Events.{completion_message}
use Rattle.rd_deeds.specs.Joining.{Stands}
use Rattle.rd_deeds.specs.Talk.{Deed, EachAfter, Has, completes, is_completion_of, journal, on, stores}
use Rattle.rd_deeds.specs.Told.{came, is_of_device, told}
use Rattle.rd_served.specs.Deeds.{completed, deeds_after, deeds_of, deeds_of_calls, sent_by, stored, stored_each}
use Rattle.rd_served.specs.Histories.{HistoryGoes}
use Rattle.rd_served.specs.Parts.{CallsAt, EndsEach, FrontPart, PartGoes, PartsGo, begins, calls, directs, ended_front, ends, forgets, keeps, learns, misplaces, refreshes, sends, tells_gone, tells_there, tries, unwritten, writes}
use Rattle.rd_served.specs.Parts as part
use Rattle.rd_served.specs.Served.{Served}
use Rattle.rd_served.proofs.CauseLemmas.{get_set}
use Rattle.rd_served.proofs.StandingLemmas.{IsKnownAt, IsUnserved, came_here, one_device, part_known, parts_known, refreshed_more, sent_first}
use Rattle.rd_served_order.specs.Sent.{HaveRoom}
use Rattle.rd_served_order.proofs.HeadLemmas.{of_device}

abbrev Of : Type 0
Of = SessionStation

-- ---- the ids of desks

abbrev RoomAt : Served → Type 0
RoomAt p = (place : ℕ) (d : DeviceDeskState) → slice_get (p.front).desks place ≡ Some d → d.id < 2 ^ 32

pub room_at : (ds : List DeviceDeskState) → HaveRoom ds → (place : ℕ) (d : DeviceDeskState) → slice_get ds place ≡ Some d → d.id < 2 ^ 32
room_at [] room place d at = absurd (cc (at))
room_at (e ∷ ds) room zero d at = subst (λ (x : DeviceDeskState). x.id < 2 ^ 32) (let same : e ≡ d = cc (at) in same) room.0
room_at (e ∷ ds) room (suc place) d at = room_at ds room.1 place d at

same_room : (p q : Served) → (q.front).desks ≡ (p.front).desks → RoomAt p → RoomAt q
same_room p q same room place d at = room place d (ap (λ (ds : List DeviceDeskState). slice_get ds place) (sym same) ∙ at)

ended_at : (over : Bool) (ds : List DeviceDeskState) (ss : List Of) (ts : List (ℕ × List Item)) (es : List DeviceDeskState) (us : List Of) → EndsEach over ds ss ts es us → (place : ℕ) (e : DeviceDeskState) → slice_get es place ≡ Some e
    → (d : DeviceDeskState) × (slice_get ds place ≡ Some d) × (e.id ≡ d.id)
ended_at over [] [] [] [] [] ended place e at = absurd (cc (at))
ended_at over (d ∷ ds) (s ∷ ss) (t ∷ ts) (x ∷ es) (u ∷ us) ended zero e at = (d, refl, ap (λ (y : DeviceDeskState). y.id) (let same : x ≡ e = cc (at) in sym same) ∙ (ended.2).id)
ended_at over (d ∷ ds) (s ∷ ss) (t ∷ ts) (x ∷ es) (u ∷ us) ended (suc place) e at = ended_at over ds ss ts es us ended.3 place e at
ended_at over ds ss ts es us ended place e at = absurd ended

ended_desks : (over : Bool) (s : FrontState) (desks : List DeviceDeskState) → (ended_front over s desks).desks ≡ desks
ended_desks true s desks = refl
ended_desks false s desks = refl

part_room : (p q : Served) (x : FrontPart) → PartGoes p x q → RoomAt p → RoomAt q
part_room p q (part.hears channel m answer) goes room = same_room p q (ap (λ (s : FrontState). s.desks) (goes.3).1) room
part_room p q tries goes room = same_room p q (ap (λ (s : Served). (s.front).desks) goes.4) room
part_room p q keeps goes room = same_room p q (ap (λ (s : Served). (s.front).desks) goes.3) room
part_room p q forgets goes room = same_room p q (ap (λ (s : Served). (s.front).desks) goes.4) room
part_room p q misplaces goes room = same_room p q (ap (λ (s : Served). (s.front).desks) goes.3) room
part_room p q (directs st answer) goes room = same_room p q (ap (λ (s : FrontState). s.desks) (goes.2).1) room
part_room p q (calls place id does back items) goes room = λ k d at.
    elim (get_set (p.front).desks place k goes.after d (ap (λ (s : FrontState). slice_get s.desks k) (sym goes.front_is) ∙ at)) [
      | inl here ↦ subst (λ (n : ℕ). n < 2 ^ 32) (sym (ap (λ (x : DeviceDeskState). x.id) here.1 ∙ (goes.called).id)) (room place goes.before goes.there)
      | inr there ↦ room k d there.1
    ]
part_room p q (tells_gone device answer) goes room = same_room p q (ap (λ (s : FrontState). s.desks) (goes.0).1) room
part_room p q (tells_there device answer) goes room = same_room p q (ap (λ (s : FrontState). s.desks) (goes.0).1) room
part_room p q (sends channel o) goes room = same_room p q (ap (λ (s : FrontState). s.desks) (goes.1).1) room
part_room p q (writes device c) goes room = same_room p q (ap (λ (s : Served). (s.front).desks) goes.1) room
part_room p q (unwritten device c) goes room = same_room p q (ap (λ (s : Served). (s.front).desks) goes.1) room
part_room p q (learns n answer) goes room = same_room p q (ap (λ (s : Served). (s.front).desks) goes.1) room
part_room p q (refreshes device) goes room = same_room p q (ap (λ (s : Served). (s.front).desks) goes ∙ (refreshed_more p.front device).0) room
part_room p q (begins channel) goes room = same_room p q (ap (λ (s : Served). (s.front).desks) goes.3) room
part_room p q (ends over told) goes room = λ place e at.
    let (d, there, id) = ended_at over (p.front).desks p.stations told (q.front).desks q.stations goes.1 place e at in subst (λ (n : ℕ). n < 2 ^ 32) (sym id) (room place d there)

-- ---- the device of each completion

-- a completion reads as its device's, where its key came there
abbrev TellsDevice : List Deed → Deed → Type 0
TellsDevice before (completes key m) = (device : ℕ) → Has (Came key) (journal device before) → is_of_device device m ≡ true
TellsDevice before _ = Unit {0}

stored_tells : (device : ℕ) (items : List Item) (deeds : List Deed) → EachAfter TellsDevice deeds → EachAfter TellsDevice (map (stores device) items ++ deeds)
stored_tells device [] deeds each = each
stored_tells device (x ∷ items) deeds each = (tt, stored_tells device items deeds each)

each_tells : (ts : List (ℕ × List Item)) (deeds : List Deed) → EachAfter TellsDevice deeds → EachAfter TellsDevice (stored_each ts ++ deeds)
each_tells [] deeds each = each
each_tells (t ∷ ts) deeds each = subst (EachAfter TellsDevice) (sym (append_assoc (stored_each ts) (stored t.0 t.1) deeds)) (each_tells ts (stored t.0 t.1 ++ deeds) (stored_tells t.0 (reverse t.1) deeds each))

part_tells : (p q : Served) (x : FrontPart) (deeds : List Deed) → PartGoes p x q → IsKnownAt p deeds → RoomAt p → EachAfter TellsDevice deeds → EachAfter TellsDevice (deeds_of x ++ deeds)
part_tells p q (part.hears channel m (Err fault.Memory)) deeds goes known room each = each
part_tells p q (part.hears channel m (Err (fault.Order state packet))) deeds goes known room each = (tt, each)
part_tells p q (part.hears channel m (Err (fault.Grammar bad))) deeds goes known room each = (tt, each)
part_tells p q (part.hears channel m (Ok h)) deeds goes known room each = (tt, each)
part_tells p q tries deeds goes known room each = each
part_tells p q keeps deeds goes known room each = each
part_tells p q forgets deeds goes known room each = each
part_tells p q misplaces deeds goes known room each = each
part_tells p q (directs st answer) deeds goes known room each = each
part_tells p q (calls place id does back items) deeds goes known room each = stored_tells id (reverse items) deeds each
part_tells p q (tells_gone device (Ok done)) deeds goes known room each = (tt, each)
part_tells p q (tells_gone device (Err error)) deeds goes known room each = each
part_tells p q (tells_there device (Ok done)) deeds goes known room each = (tt, each)
part_tells p q (tells_there device (Err error)) deeds goes known room each = each
part_tells p q (sends channel None) deeds goes known room each = each
part_tells p q (sends channel (Some o)) deeds goes known room each =
    let (rest, first, after) = sent_first (p.front).client (q.front).client o (goes.1).0 in
    by o.answers (known.standing.out o (subst (Has o) (sym first) (inl refl)))
  where
    by : (answers : Option Key) → IsOut (IsUnserved p) answers o.message → EachAfter TellsDevice (sent_by channel o.message answers ++ deeds)
    by None other = (tt, each)
    by (Some key) mine = (λ device came. absurd (mine.unnamed (came_here p deeds known.told known.standing device key came)), each)
part_tells p q (writes device c) deeds goes known room each =
    let came = (known.standing.handing device c goes.0).1 in
    let (place, d, s, at, id) = known.standing.owned device (Came c.key) came in
    let fits : device < 2 ^ 32 = subst (λ (n : ℕ). n < 2 ^ 32) id (room place d at.0) in
    (λ other there. subst (λ (n : ℕ). is_of_device n (completion_message device c) ≡ true) (one_device deeds known.read c.key device other came there) (of_device device c fits), each)
part_tells p q (unwritten device c) deeds goes known room each = each
part_tells p q (learns n answer) deeds goes known room each = each
part_tells p q (refreshes device) deeds goes known room each = each
part_tells p q (begins channel) deeds goes known room each = each
part_tells p q (ends over ts) deeds goes known room each = each_tells ts deeds each

parts_tell : (ps : List FrontPart) (p q : Served) (deeds : List Deed) → PartsGo p ps q → IsKnownAt p deeds → RoomAt p → EachAfter TellsDevice deeds → RoomAt q × EachAfter TellsDevice (deeds_after ps deeds)
parts_tell [] p q deeds goes known room each = (subst RoomAt (sym goes) room, each)
parts_tell (x ∷ ps) p q deeds goes known room each =
    parts_tell ps goes.0 q (deeds_of x ++ deeds) goes.2 (part_known p goes.0 x deeds goes.1 known) (part_room p goes.0 x goes.1 room) (part_tells p goes.0 x deeds goes.1 known room each)

pub history_tells : (entries : List (Entry FrontCall FrontReply)) (parts : List (List FrontPart)) (p q : Served) (deeds : List Deed) → HistoryGoes p entries parts q → IsKnownAt p deeds → RoomAt p → EachAfter TellsDevice deeds → EachAfter TellsDevice (deeds_of_calls parts deeds)
history_tells [] [] p q deeds goes known room each = each
history_tells [] (ps ∷ parts) p q deeds goes known room each = absurd goes
history_tells (e ∷ entries) [] p q deeds goes known room each = absurd goes
history_tells (e ∷ entries) (ps ∷ parts) p q deeds goes known room each =
    let after = parts_tell ps p goes.0 deeds (goes.1).goes known room each in
    history_tells entries parts goes.0 q (deeds_after ps deeds) goes.2 (parts_known ps p goes.0 deeds (goes.1).goes known) after.0 after.1

-- ---- so heads tell what keys do

same_true : (key : Key) → is_key key key ≡ true
same_true key = grind (arith, nat_tests)

completes_any : (key : Key) (m : List ℕ) (deeds : List Deed) → Has (completes key m) deeds → list_any (is_completion_of key) deeds ≡ true
completes_any key m [] none = absurd none
completes_any key m (x ∷ deeds) (inl here) = ap (λ (b : Bool). b || list_any (is_completion_of key) deeds) (ap (is_completion_of key) (sym here) ∙ same_true key)
completes_any key m (x ∷ deeds) (inr later) = or_true (is_completion_of key x) (completes_any key m deeds later)
  where
    or_true : (b : Bool) {c : Bool} → c ≡ true → (b || c) ≡ true
    or_true true e = refl
    or_true false e = e

-- no key comes that was completed
one_tells : (x : Deed) (deeds : List Deed) → Stands deeds x → TellsDevice deeds x → (key : Key) (m : List ℕ) (device : ℕ) → (Has (completes key m) deeds → Has (Came key) (journal device deeds) → is_of_device device m ≡ true)
    → Has (completes key m) (x ∷ deeds) → Has (Came key) (journal device (x ∷ deeds)) → is_of_device device m ≡ true
one_tells (completes k n) deeds stands tells key m device before (inl here) came =
    let key_is : key ≡ k = cc (here) in
    let message_is : m ≡ n = cc (here) in
    subst (λ (w : List ℕ). is_of_device device w ≡ true) (sym message_is) (tells device (subst (λ (w : Key). Has (Came w) (journal device deeds)) key_is came))
one_tells (completes k n) deeds stands tells key m device before (inr later) came = before later came
one_tells (stores e item) deeds stands tells key m device before (inl here) came = absurd (cc (here))
one_tells (stores e item) deeds stands tells key m device before (inr later) came = at (e == device) came
  where
    new : (y : Item) → Came key ≡ y → Stands deeds (stores e y) → ⊥
    new y is st =
        let one : Stands deeds (stores e (Came key)) = subst (λ (z : Item). Stands deeds (stores e z)) (sym is) st in
        let none = one.3 in let some = completes_any key m deeds later in cc (none, some)

    at : (b : Bool) → Has (Came key) (cons_option (cond b (Some item) None) (journal device deeds)) → is_of_device device m ≡ true
    at false has = before later has
    at true (inl is) = absurd (new item is stands)
    at true (inr has) = before later has
one_tells x deeds stands tells key m device before (inl here) came = absurd (cc (here))
one_tells x deeds stands tells key m device before (inr later) came = before later came

all_tell : (deeds : List Deed) → EachAfter Stands deeds → EachAfter TellsDevice deeds → (key : Key) (m : List ℕ) (device : ℕ) → Has (completes key m) deeds → Has (Came key) (journal device deeds) → is_of_device device m ≡ true
all_tell [] stand tell key m device none came = absurd none
all_tell (x ∷ deeds) stand tell key m device has came = one_tells x deeds stand.0 tell.0 key m device (all_tell deeds stand.1 tell.1 key m device) has came

module _ (c device : ℕ) (items : List Item) where
  told_same : (deeds : List Deed) → ((key : Key) (m : List ℕ) → Has (completes key m) deeds → Has (Came key) items → is_of_device device m ≡ true) → filter (came c items) (told c device deeds) ≡ filter (came c items) (completed c deeds)
  told_same [] tell = refl
  told_same (completes key m ∷ deeds) tell = by (key.channel == c) refl (is_of_device device m) refl (told_same deeds (λ k n has. tell k n (inr has)))
    where
      unkept : is_of_device device m ≡ false → (key.channel == c) ≡ true → came c items key.index ≡ false
      unkept other on = subst (λ (n : ℕ). came n items key.index ≡ false) (eqb-true key.channel c on) (never_came key items (λ has. let is = tell key m (inl refl) has in cc (is, other)))

      gone : (t : Bool) → t ≡ false → filter (came c items) (told c device deeds) ≡ filter (came c items) (completed c deeds)
          → filter (came c items) (told c device deeds) ≡ cond t (key.index ∷ filter (came c items) (completed c deeds)) (filter (came c items) (completed c deeds))
      gone true e later = absurd (cc (e))
      gone false e later = later

      by : (a : Bool) → (key.channel == c) ≡ a → (b : Bool) → is_of_device device m ≡ b → filter (came c items) (told c device deeds) ≡ filter (came c items) (completed c deeds)
          → filter (came c items) (cons_option (if a && b then Some key.index else None) (told c device deeds)) ≡ filter (came c items) (cons_option (cond a (Some key.index) None) (completed c deeds))
      by true on true own later = ap (λ (xs : List ℕ). cond (came c items key.index) (key.index ∷ xs) xs) later
      by true on false other later = gone (came c items key.index) (unkept other on) later
      by false off b is later = later
  told_same (_ ∷ deeds) tell = told_same deeds (λ k n has. tell k n (inr has))

pub tells_order : (deeds : List Deed) → EachAfter Stands deeds → EachAfter TellsDevice deeds → (c device : ℕ) → filter (came c (journal device deeds)) (told c device deeds) ≡ filter (came c (journal device deeds)) (completed c deeds)
tells_order deeds stand tell c device = told_same c device (journal device deeds) deeds (λ key m has came. all_tell deeds stand tell key m device has came)
