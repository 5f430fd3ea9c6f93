-- Each call of a front is its parts, with the stations that its desks have then.
use Rattle.std.proofs.Common.{◌≡◌, ◌⊎◌, ◌∙◌, refl, sym, ap, subst, inl, inr, ℕ, zero, suc, ◌<◌, ◌+◌, ◌==◌, Bool, true, false, not, ◌&&◌, ◌||◌, List, [], ◌∷◌, ◌++◌, Option, Some, None, length, nat_lt, slice_get, slice_set, eq-eqb, eqb-true}
use Rattle.std.specs.Prelude.{Result, Ok, Err, cond, filter_map, is_none, map}
use Rattle.std.specs.declared.alloc.AllocError.{AllocError}
use Rattle.std.specs.List.{AllByRecursion, AllZip, cons_option, list_any}
use Rattle.std.specs.Map.{lookup}
use Rattle.std.specs.Option.{option_map_or}
use Rattle.std.specs.Ordering.{nat_cmp}
use Rattle.std.specs.BTreeMap.{is_at}
use Rattle.std.proofs.lemmas.Bool.{ltb-true}
use Rattle.std.proofs.lemmas.List.Elements.{filter_map-append}
use Rattle.std.proofs.lemmas.List.Quantifiers.{position-Some}
use Rattle.std.proofs.lemmas.Option.{get_or_from_slice_get}
use Rattle.rd_base.specs.declared.journal.Item.{Item}
use Rattle.rd_base.specs.declared.journal.Key.{Key}
use Rattle.rd_base.specs.declared.status.Status.{Status}
use Rattle.rd_client.specs.Core as client
use Rattle.rd_client.specs.Order.{is_client_ready}
use Rattle.rd_client.specs.Core.{ClientCoreState, ClientDevice, Outgoing, device_marked, has_device, is_device, is_gone, max_asked, may_be_asked, plain, tell_added, tell_removed}
use Rattle.rd_client.specs.declared.heard.Heard.{Heard}
use Rattle.rd_client.specs.declared.heard.Heard.TheVariants.{Nothing, Ask, Print}
use Rattle.rd_core.specs.Core as core
use Rattle.rd_desk.specs.declared.calls.DeskCall.{DeskCall}
use Rattle.rd_desk.specs.declared.calls.DeskCall.TheVariants as desk
use Rattle.rd_desk.specs.declared.calls.DeskReply.{DeskReply}
use Rattle.rd_desk.specs.declared.calls.DeskReply.TheVariants as replied
use Rattle.rd_devices.specs.Removal.{removal_bytes}
use Rattle.rd_drive.specs.declared.plan.Job.{Job}
use Rattle.rd_front.specs.Front.{AddsBy, AddsIf, Announces, AnnouncesOne, AnnouncesUnless, AnswersDirectly, BeginsIf, ChannelEnds, ClientDoes, Collects, CutsAt, DeskDoes, Each, EndsBy, Fills, FillsBy, FollowsFrom, FrontAdds, FrontBegins, FrontHears, FrontRemoves, FrontRetries, FrontStep, GivesBy, GivesCollected, GivesNext, GivesWritten, Hands, HeardBy, OpeningEnds, PutBy, Puts, PutsIf, Refreshes, RefreshesOne, RefusedPut, RemovesBy, Sends, SessionEnds, SpellsCompletion, Then, Where, begun, desk_place, done_at, done_if, done_where, end_call, is_announced, is_front_full, is_front_ready, is_told_there, may_add, may_begin, may_hear, may_remove, most_written, none_for, one_if_done, with_new_data}
use Rattle.rd_room.specs.Room.{MessageRoom}
use Rattle.rd_front.specs.State.{DeviceDeskState, FrontState, IsCalled, SessionStation}
use Rattle.rd_front.specs.declared.calls.FrontCall.{FrontCall}
use Rattle.rd_front.specs.declared.calls.FrontCall.TheVariants as call
use Rattle.rd_front.specs.declared.calls.FrontReply.{FrontReply}
use Rattle.rd_front.specs.declared.calls.FrontReply.TheVariants as reply
use Rattle.rd_front.specs.declared.calls.Rest.{Rest}
use Rattle.rd_front.specs.declared.calls.Rest.TheVariants as rest
use Rattle.rd_front.specs.declared.next.Got.{Got}
use Rattle.rd_front.specs.declared.next.Got.TheVariants as got
use Rattle.rd_hello.specs.declared.end_fault.EndFault.{EndFault}
use Rattle.rd_hello.specs.declared.end_fault.EndFault.TheVariants as fault
use Rattle.rd_station.specs.declared.answers.Completion.{Completion}
use Rattle.rd_station.specs.declared.refusals.PutNo.{PutNo}
use Rattle.rd_station.specs.declared.refusals.PutWhy.{PutWhy}
use Rattle.rd_station.specs.declared.refusals.PutWhy.TheVariants as why
use Rattle.rd_turn.specs.declared.object.Entry.{Entry}
use Rattle.rd_turn.specs.History.{Leads}
use Rattle.rd_world.specs.Control.{Act, added, removed}
use Rattle.rd_declared.specs.Devices.{PrinterNames, printer_data}
use Rattle.rd_world.specs.Events.{completion_message}
use Rattle.rd_deeds.specs.Talk.{Has}
use Rattle.rd_world.specs.World.{Kept}
use Rattle.rd_front.specs.Calls.{RanOut, hinders}
use Rattle.rd_served.specs.Histories.{Among, AreFollowed, AreStationed, CallGoes, FollowsAt, HearBefore, HearsAs, HearsBefore, HistoryGoes, IsFollowed, IsHeardBy, OpensEach, StartsBy, TellsOnce, handed_out, may_start, stopped_by}
use Rattle.rd_served.specs.Parts.{AsksBy, Comes, EndsEach, FitsCall, MayBeDirect, IsOpenCall, MayForget, FrontPart, PartGoes, PartsGo, act_told, announced_by, asking_by, begins, begun_by, calls, cut_by, directs, duplicate_by, duplicate_of, ended_front, ends, forgets, handed_by, heard_in, hears, is_lost, is_present_as, is_start, tells_device, is_unfit, keeps, learns, misplaces, refreshes, sends, stops, tells_gone, tells_there, tries, unwritten, writes}
use Rattle.rd_served.specs.Served.{Asking, IsStationed, Served, asks, hands, idle, refused}
use Rattle.rd_served.proofs.DeviceLemmas.{gone_marked, place_same, present_marked}
use Rattle.rd_served.proofs.LiftLemmas.{lifted}

abbrev Of : Type 0
Of = SessionStation

abbrev Messages : Type 0
Messages = List (List ℕ)

-- what is handed out, and each completion that was lost
abbrev Marks : Type 0
Marks = List (Option (List ℕ))

abbrev pub marked_by : FrontPart → Option (Option (List ℕ))
marked_by (sends channel (Some o)) = Some (Some o.message)
marked_by (writes device c) = Some (Some (completion_message device c))
marked_by (unwritten device c) = Some None
marked_by _ = None

abbrev pub served : FrontState → Asking → List Of → Served
served s asking stations = record { front = s; asking = asking; stations = stations }

-- What was done between two fronts, by the stations after it. This holds of each part.
pub record Came (Only : FrontPart → Type 0) (p : FrontState) (a : Asking) (written : Marks) (heard : Messages) (q : FrontState) (b : Asking) (after : List Of) : Type 0 where
  pub stations : List Of
  pub at : AreStationed p.desks stations
  pub parts : List FrontPart
  pub goes : PartsGo (served p a stations) parts (served q b after)
  pub writes : filter_map marked_by parts ≡ written
  pub hears : filter_map heard_in parts ≡ heard
  pub each : AllByRecursion Only parts

abbrev pub DoesIf : (FrontPart → Type 0) → FrontState → Asking → Marks → Messages → FrontState → Asking → Type 0
DoesIf Only p a written heard q b = (after : List Of) → AreStationed q.desks after → Came Only p a written heard q b after

-- nothing more is to be heard
abbrev Hinders : FrontReply → Type 0
Hinders back = hinders back ≡ true

-- A part stops the channel only with such a reply.
abbrev MayStop : FrontReply → FrontPart → Type 0
MayStop back x = stops x ≡ true → Hinders back

-- It begins nothing besides, and tells nothing of a device.
abbrev IsFine : FrontReply → FrontPart → Type 0
IsFine back x = (stops x ≡ true → Hinders back) × (tells_device x ≡ false) × (is_start x ≡ false)

-- It does none of that.
abbrev IsPlain : FrontPart → Type 0
IsPlain x = (stops x ≡ false) × (tells_device x ≡ false) × (is_start x ≡ false)

-- all parts are so
abbrev pub Does : FrontState → Asking → Marks → Messages → FrontState → Asking → Type 0
Does p a written heard q b = DoesIf IsPlain p a written heard q b

-- what a reply says of unfit jobs and of completion ids that are in use
pub record Says (back : FrontReply) (parts : List FrontPart) : Type 0 where
  pub unfit : back ≡ reply.Unfit → Among (λ p. is_unfit p ≡ true) parts
  pub duplicate : (key : Key) → back ≡ reply.Duplicate key → Among (λ p. duplicate_of p ≡ Some key) parts

abbrev pub Answers : FrontState → Asking → FrontReply → Messages → FrontState → Asking → Type 0
Answers p a back heard q b = (after : List Of) → AreStationed q.desks after → (c : Came (IsFine back) p a [] heard q b after) × Says back c.parts × (handed_out back ≡ [])

-- ---- parts after parts

parts_append : (p q r : Served) (xs ys : List FrontPart) → PartsGo p xs q → PartsGo q ys r → PartsGo p (xs ++ ys) r
parts_append p q r [] ys first second = subst (λ (s : Served). PartsGo s ys r) first second
parts_append p q r (x ∷ xs) ys first second = (first.0, first.1, parts_append first.0 q r xs ys first.2 second)

among_left : (P : FrontPart → Type 0) (xs ys : List FrontPart) → Among P xs → Among P (xs ++ ys)
among_left P [] ys none = absurd none
among_left P (x ∷ xs) ys (inl here) = inl here
among_left P (x ∷ xs) ys (inr later) = inr (among_left P xs ys later)

among_right : (P : FrontPart → Type 0) (xs ys : List FrontPart) → Among P ys → Among P (xs ++ ys)
among_right P [] ys there = there
among_right P (x ∷ xs) ys there = inr (among_right P xs ys there)

all_append : (P : FrontPart → Type 0) (xs ys : List FrontPart) → AllByRecursion P xs → AllByRecursion P ys → AllByRecursion P (xs ++ ys)
all_append P [] ys first second = second
all_append P (x ∷ xs) ys first second = (first.0, all_append P xs ys first.1 second)

all_as : (P Q : FrontPart → Type 0) → ((x : FrontPart) → P x → Q x) → (xs : List FrontPart) → AllByRecursion P xs → AllByRecursion Q xs
all_as P Q follows [] all = tt
all_as P Q follows (x ∷ xs) all = (follows x all.0, all_as P Q follows xs all.1)

plain_fine : (back : FrontReply) (x : FrontPart) → IsPlain x → IsFine back x
plain_fine back x plain = (λ is. let going = plain.0 in absurd (cc (is, going)), plain.1, plain.2)

fine_stops : (back : FrontReply) (x : FrontPart) → IsFine back x → MayStop back x
fine_stops back x fine = fine.0

plain_stops : (back : FrontReply) (x : FrontPart) → IsPlain x → MayStop back x
plain_stops back x plain = λ is. let going = plain.0 in absurd (cc (is, going))

-- what follows from this holds of each part too
abbrev came_as : (Only As : FrontPart → Type 0) (p q : FrontState) (a b : Asking) (w : Marks) (h : Messages) (after : List Of) → ((x : FrontPart) → Only x → As x) → Came Only p a w h q b after → Came As p a w h q b after
came_as Only As p q a b w h after follows c =
    record { stations = c.stations; at = c.at; parts = c.parts; goes = c.goes; writes = c.writes; hears = c.hears; each = all_as Only As follows c.parts c.each }

does_as : (back : FrontReply) (p q : FrontState) (a b : Asking) (w : Marks) (h : Messages) → Does p a w h q b → DoesIf (IsFine back) p a w h q b
does_as back p q a b w h does after at = came_as IsPlain (IsFine back) p q a b w h after (plain_fine back) (does after at)

abbrev came_on : (Only : FrontPart → Type 0) (p q r : FrontState) (a b c : Asking) (w v : Marks) (h g : Messages) (after : List Of) → (second : Came Only q b v g r c after) → Came Only p a w h q b second.stations → Came Only p a (w ++ v) (h ++ g) r c after
came_on Only p q r a b c w v h g after second first = record {
  stations = first.stations;
  at = first.at;
  parts = first.parts ++ second.parts;
  goes = parts_append (served p a first.stations) (served q b second.stations) (served r c after) first.parts second.parts first.goes second.goes;
  writes = filter_map-append marked_by first.parts second.parts ∙ (λ i. first.writes i ++ second.writes i);
  hears = filter_map-append heard_in first.parts second.parts ∙ (λ i. first.hears i ++ second.hears i);
  each = all_append Only first.parts second.parts first.each second.each;
}

joins_if : (Only : FrontPart → Type 0) (p q r : FrontState) (a b c : Asking) (w v : Marks) (h g : Messages) → DoesIf Only p a w h q b → DoesIf Only q b v g r c → DoesIf Only p a (w ++ v) (h ++ g) r c
joins_if Only p q r a b c w v h g first second after at = let then = second after at in came_on Only p q r a b c w v h g after then (first then.stations then.at)

joins : (p q r : FrontState) (a b c : Asking) (w v : Marks) (h g : Messages) → Does p a w h q b → Does q b v g r c → Does p a (w ++ v) (h ++ g) r c
joins p q r a b c w v h g first second = joins_if IsPlain p q r a b c w v h g first second

joins_last : (p q r : FrontState) (a b c : Asking) (back : FrontReply) (h g : Messages) → Does p a [] h q b → Answers q b back g r c → Answers p a back (h ++ g) r c
joins_last p q r a b c back h g first second after at =
    let (then, tells, none) = second after at in
    let before = first then.stations then.at in (
      came_on (IsFine back) p q r a b c [] [] h g after then (came_as IsPlain (IsFine back) p q a b [] h then.stations (plain_fine back) before),
      record {
        unfit = λ is. among_right (λ x. is_unfit x ≡ true) before.parts then.parts (tells.unfit is);
        duplicate = λ key is. among_right (λ x. duplicate_of x ≡ Some key) before.parts then.parts (tells.duplicate key is);
      },
      none,
    )

joins_first : (p q r : FrontState) (a b c : Asking) (back : FrontReply) (h g : Messages) → Answers p a back h q b → DoesIf (IsFine back) q b [] g r c → Answers p a back (h ++ g) r c
joins_first p q r a b c back h g first second after at =
    let then = second after at in
    let (before, tells, none) = first then.stations then.at in (
      came_on (IsFine back) p q r a b c [] [] h g after then before,
      record {
        unfit = λ is. among_left (λ x. is_unfit x ≡ true) before.parts then.parts (tells.unfit is);
        duplicate = λ key is. among_left (λ x. duplicate_of x ≡ Some key) before.parts then.parts (tells.duplicate key is);
      },
      none,
    )

-- a reply that says nothing of unfit jobs, and hands nothing out
abbrev IsQuiet : FrontReply → Type 0
IsQuiet back = (back ≡ reply.Unfit → ⊥) × ((key : Key) → back ≡ reply.Duplicate key → ⊥) × (handed_out back ≡ [])

quiet_says : (back : FrontReply) (parts : List FrontPart) → IsQuiet back → Says back parts
quiet_says back parts none = record { unfit = λ is. absurd (none.0 is); duplicate = λ key is. absurd (none.1 key is) }

quiet_if : (p q : FrontState) (a b : Asking) (back : FrontReply) (h : Messages) → IsQuiet back → DoesIf (IsFine back) p a [] h q b → Answers p a back h q b
quiet_if p q a b back h none does after at = let c = does after at in (c, quiet_says back c.parts none, none.2)

quiet : (p q : FrontState) (a b : Asking) (back : FrontReply) (h : Messages) → IsQuiet back → Does p a [] h q b → Answers p a back h q b
quiet p q a b back h none does = quiet_if p q a b back h none (does_as back p q a b [] h does)

quiet_as : (back said : FrontReply) → back ≡ said → IsQuiet said → IsQuiet back
quiet_as back said is none = subst IsQuiet (sym is) none

done_quiet : (place : Option ℕ) (s : FrontState) → IsQuiet (done_at place s)
done_quiet place s = (λ is. cc (is), λ key is. cc (is), refl)

memory_quiet : IsQuiet reply.Memory
memory_quiet = (λ is. cc (is), λ key is. cc (is), refl)

if_quiet : (answer : Result (Unit {0}) AllocError) (s : FrontState) → IsQuiet (done_if answer s)
if_quiet (Ok done) s = done_quiet None s
if_quiet (Err error) s = memory_quiet

where_quiet : (found : Bool) (s : FrontState) → IsQuiet (done_where found s)
where_quiet true s = done_quiet None s
where_quiet false s = memory_quiet

refused_quiet : IsQuiet reply.Refused
refused_quiet = (λ is. cc (is), λ key is. cc (is), refl)

full_quiet : IsQuiet reply.Full
full_quiet = (λ is. cc (is), λ key is. cc (is), refl)

-- ---- single parts

stays : (p : FrontState) (a : Asking) → Does p a [] [] p a
stays p a after at = record { stations = after; at = at; parts = []; goes = refl; writes = refl; hears = refl; each = tt }

to_if : (Only : FrontPart → Type 0) (p made q : FrontState) (a b : Asking) (w : Marks) (h : Messages) → q ≡ made → DoesIf Only p a w h made b → DoesIf Only p a w h q b
to_if Only p made q a b w h is does = subst (λ (s : FrontState). DoesIf Only p a w h s b) (sym is) does

to : (p made q : FrontState) (a b : Asking) (w : Marks) (h : Messages) → q ≡ made → Does p a w h made b → Does p a w h q b
to p made q a b w h is does = to_if IsPlain p made q a b w h is does

same : (p q : FrontState) (a : Asking) → q ≡ p → Does p a [] [] q a
same p q a is = to p p q a a [] [] is (stays p a)

-- a part that calls no desk
abbrev beside_if : (Only : FrontPart → Type 0) (p q : FrontState) (a b : Asking) (part : FrontPart) (w : Marks) (h : Messages) → Only part → q.desks ≡ p.desks → filter_map marked_by (part ∷ []) ≡ w → filter_map heard_in (part ∷ []) ≡ h
    → ((stations : List Of) → PartGoes (served p a stations) part (served q b stations)) → DoesIf Only p a w h q b
beside_if Only p q a b part w h holds desks handed heard goes after at =
    record { stations = after; at = subst (λ (ds : List DeviceDeskState). AreStationed ds after) desks at; parts = part ∷ []; goes = (served q b after, goes after, refl); writes = handed; hears = heard; each = (holds, tt) }

abbrev beside : (p q : FrontState) (a b : Asking) (part : FrontPart) (w : Marks) (h : Messages) → IsPlain part → q.desks ≡ p.desks → filter_map marked_by (part ∷ []) ≡ w → filter_map heard_in (part ∷ []) ≡ h
    → ((stations : List Of) → PartGoes (served p a stations) part (served q b stations)) → Does p a w h q b
beside p q a b part w h plain desks handed heard goes = beside_if IsPlain p q a b part w h plain desks handed heard goes

-- the desks are the same where only the core did something
core_desks : (p q : FrontState) (unsent : ℕ) → q ≡ record p { client = q.client; unsent = unsent } → q.desks ≡ p.desks
core_desks p q unsent is = ap (λ (s : FrontState). s.desks) is

-- a desk at a place, among all with their stations
pub record AtPlace (ds : List DeviceDeskState) (place : ℕ) (after : DeviceDeskState) (ss : List Of) (d : DeviceDeskState) : Type 0 where
  pub last : Of
  pub at : IsStationed after last
  pub back_to : (first : Of) → IsStationed d first → AreStationed ds (slice_set ss place first)
  pub again : (first : Of) → ss ≡ slice_set (slice_set ss place first) place last
  pub there : (first : Of) → slice_get (slice_set ss place first) place ≡ Some first

at_place : (ds : List DeviceDeskState) (place : ℕ) (d after : DeviceDeskState) (ss : List Of) → slice_get ds place ≡ Some d → AreStationed (slice_set ds place after) ss → AtPlace ds place after ss d
at_place [] place d after ss there at = absurd (cc (there))
at_place (x ∷ ds) zero d after [] there at = absurd at
at_place (x ∷ ds) zero d after (s ∷ ss) there at =
    let same_desk : d ≡ x = cc (there) in
    record { last = s; at = at.0; back_to = λ first is. (subst (λ (y : DeviceDeskState). IsStationed y first) same_desk is, at.1); again = λ first. refl; there = λ first. refl }
at_place (x ∷ ds) (suc place) d after [] there at = absurd at
at_place (x ∷ ds) (suc place) d after (s ∷ ss) there at =
    let later = at_place ds place d after ss there at.1 in
    record { last = later.last; at = later.at; back_to = λ first is. (at.0, later.back_to first is); again = λ first. ap (λ (ys : List Of). s ∷ ys) (later.again first); there = later.there }

-- A desk is called.
module _ (Only : FrontPart → Type 0) (p q : FrontState) (a b : Asking) (place : ℕ) (does : DeskCall) (back : DeskReply) (own : IsOpenCall does) (did : DeskDoes p place does back q)
    (asking : (stations : List Of) → AsksBy (served p a stations) place (did.before).id does back b) (fits : (stations : List Of) → FitsCall (served p a stations) (did.before).id does)
    (holds : (items : List Item) → Only (calls place (did.before).id does back items)) where
  abbrev called_came : (after : List Of) → AreStationed q.desks after → (items : List Item) × Came Only p a [] [] q b after
  called_came after at =
      let found = at_place p.desks place did.before did.after after did.there (subst (λ (s : FrontState). AreStationed s.desks after) did.put_back at) in
      let up = lifted did.before did.after does back found.last did.called found.at in (
        up.items,
        record {
          stations = slice_set after place up.first;
          at = found.back_to up.first up.at;
          parts = calls place (did.before).id does back up.items ∷ [];
          goes = (
            served q b after,
            record {
              before = did.before;
              after = did.after;
              first = up.first;
              last = found.last;
              there = did.there;
              has = found.there up.first;
              id_is = refl;
              own = own;
              fits = fits (slice_set after place up.first);
              called = up.called;
              front_is = did.put_back;
              stations_are = found.again up.first;
              asking_is = asking (slice_set after place up.first);
            },
            refl,
          );
          writes = refl;
          hears = refl;
          each = (holds up.items, tt);
        },
      )

  abbrev called : DoesIf Only p a [] [] q b
  called after at = (called_came after at).1

  -- where the reply is said by the part itself
  called_tells : (said : FrontReply) → ((x : FrontPart) → Only x → IsFine said x) → ((items : List Item) → said ≡ reply.Unfit → is_unfit (calls place (did.before).id does back items) ≡ true)
      → ((items : List Item) (key : Key) → said ≡ reply.Duplicate key → duplicate_of (calls place (did.before).id does back items) ≡ Some key) → handed_out said ≡ [] → Answers p a said [] q b
  called_tells said follows unfit duplicate none after at =
      let found = at_place p.desks place did.before did.after after did.there (subst (λ (s : FrontState). AreStationed s.desks after) did.put_back at) in
      let up = lifted did.before did.after does back found.last did.called found.at in
      (came_as Only (IsFine said) p q a b [] [] after follows (called after at), record { unfit = λ is. inl (unfit up.items is); duplicate = λ key is. inl (duplicate up.items key is) }, none)

-- ---- the ends

record Ended (over : Bool) (ds es : List DeviceDeskState) (after : List Of) : Type 0 where
  stations : List Of
  at : AreStationed ds stations
  told : List (ℕ × List Item)
  goes : EndsEach over ds stations told es after

all_ended : (over : Bool) (ds es : List DeviceDeskState) (after : List Of) → AllZip (EndsBy (end_call over)) ds es → AreStationed es after → Ended over ds es after
all_ended over [] [] [] ended at = record { stations = []; at = tt; told = []; goes = tt }
all_ended over [] [] (u ∷ after) ended at = absurd at
all_ended over [] (e ∷ es) after ended at = absurd ended
all_ended over (d ∷ ds) [] after ended at = absurd ended
all_ended over (d ∷ ds) (e ∷ es) [] ended at = absurd at
all_ended over (d ∷ ds) (e ∷ es) (u ∷ after) ended at =
    let up = lifted d e (end_call over) (ended.0).0 u (ended.0).1 at.0 in
    let later = all_ended over ds es after ended.1 at.1 in
    record { stations = up.first ∷ later.stations; at = (up.at, later.at); told = (d.id, up.items) ∷ later.told; goes = ((ended.0).0, refl, up.called, later.goes) }

ends_all : (p q : FrontState) (over : Bool) → AllZip (EndsBy (end_call over)) p.desks q.desks → q ≡ ended_front over p q.desks → Does p idle [] [] q idle
ends_all p q over ended is after at =
    let e = all_ended over p.desks q.desks after ended at in
    record { stations = e.stations; at = e.at; parts = ends over e.told ∷ []; goes = (served q idle after, (refl, e.goes, is, refl), refl); writes = refl; hears = refl; each = ((refl, refl, refl), tt) }

channel_ends : (p q : FrontState) → ChannelEnds p q → Does p idle [] [] q idle
channel_ends p q did = ends_all p q false did.0 did.1

session_ends : (p q : FrontState) → SessionEnds p q → Does p idle [] [] q idle
session_ends p q did = ends_all p q true did.0 did.1

-- ---- what fits

-- where a call doesn't fit nothing is done
not_done : (other back : FrontReply) (p q : FrontState) → IsQuiet other → (back ≡ other) × (q ≡ p) → Answers p idle back [] q idle
not_done other back p q none did = quiet p q idle idle back [] (quiet_as back other did.0 none) (same p q idle did.1)

then_goes : (went found : Bool) (p q : FrontState) (does : Type 0) → (does → Does p idle [] [] q idle) → Then went found p q does → Does p idle [] [] q idle
then_goes true found p q does on did = on did
then_goes false found p q does on did = same p q idle did.1

each : {A : Type 0} (does : A → FrontState → Bool → FrontState → Type 0) → ((x : A) (p : FrontState) (found : Bool) (q : FrontState) → does x p found q → Does p idle [] [] q idle)
    → (xs : List A) (p : FrontState) (found : Bool) (q : FrontState) → Each does xs p found q → Does p idle [] [] q idle
each does one [] p found q did = same p q idle did.1
each does one (x ∷ xs) p found q did =
    joins p did.1 q idle idle idle [] [] [] [] (one x p did.0 did.1 did.2) (then_goes did.0 found did.1 q _ (each does one xs did.1 found q) did.3)

-- ---- a job

-- no memory was found for an answer
direct_hinders : (st : Status) (answer : Result (Unit {0}) AllocError) (q : FrontState) → stops (directs st answer) ≡ true → Hinders (done_if answer q)
direct_hinders st (Ok done) q is = absurd (cc (is))
direct_hinders st (Err error) q is = refl

answers : (p : FrontState) (a : Asking) (k : Kept) (st : Status) (back : FrontReply) (q : FrontState) → ((stations : List Of) → MayBeDirect (served p a stations) k st) → AnswersDirectly p k.device k.job st back q → Answers p a back [] q idle
answers p a k st back q direct did =
    quiet_if p q a idle back [] (quiet_as back (done_if did.0 q) did.2 (if_quiet did.0 q))
    (beside_if (IsFine back) p q a idle (directs st did.0) [] [] (λ is. ap hinders did.2 ∙ direct_hinders st did.0 q is, refl, refl) (core_desks p q (p.unsent + one_if_done did.0) (did.1).1) refl refl (λ stations. (k, direct stations, did.1, refl, refl)))

forgotten : (back : FrontReply) (p : FrontState) (k : Kept) (cause : PutWhy) → MayForget cause → Hinders back → DoesIf (IsFine back) p (refused k cause) [] [] p idle
forgotten back p k cause may hindered = beside_if (IsFine back) p p (refused k cause) idle forgets [] [] (λ is. hindered, refl, refl) refl refl refl (λ stations. (k, cause, refl, may, refl))

-- what follows where a job was refused; where its completion id is in use, the part before says the reply
after_refusal : (p : FrontState) (k : Kept) (cause : PutWhy) (back : FrontReply) (q : FrontState) → ((key : Key) → cause ≡ why.Duplicate key → ⊥) → RefusedPut p k.device k.job cause back q → Answers p (refused k cause) back [] q idle
after_refusal p k why.Gone back q other did = answers p (refused k why.Gone) k _ back q (λ stations. inr (inl (refl, refl))) did
after_refusal p k (why.Duplicate key) back q other did = absurd (other key refl)
after_refusal p k (why.Full held) back q other did =
    quiet p q (refused k (why.Full held)) idle back [] (quiet_as back reply.Kept did.0 (λ is. cc (is), λ key is. cc (is), refl))
    (to p _ q (refused k (why.Full held)) idle [] [] did.1 (beside p _ (refused k (why.Full held)) idle keeps [] [] (refl, refl, refl) refl refl refl (λ stations. (k, held, refl, refl))))
after_refusal p k (why.Worn count) back q other did = answers p (refused k (why.Worn count)) k _ back q (λ stations. inr (inr (count, refl, refl))) did
after_refusal p k why.Memory back q other did =
    quiet_if p q (refused k why.Memory) idle back [] (quiet_as back reply.Memory did.0 memory_quiet)
    (to_if (IsFine back) p p q (refused k why.Memory) idle [] [] did.1 (forgotten back p k why.Memory tt (ap hinders did.0)))

-- a desk that refuses a job gives that one back
same_job : (job : Job) (refusal : PutNo) (d e : DeviceDeskState) → IsCalled d (desk.Put job) (replied.Put (Err refusal)) e → refusal.job ≡ job
same_job job refusal d e is = (((is.replied).step).0.1).2

module _ (p q : FrontState) (k : Kept) (place : ℕ) (at : desk_place p.desks k.device ≡ Some place) (may : may_be_asked ((p.client).core).shake ≡ true) where
  abbrev comes : (stations : List Of) → Comes (served p (asks k) stations) place k.job
  comes stations = record { kept = k; asked = refl; job_is = refl; at = at; may = may }

  put_refused : (next : FrontState) (refusal : PutNo) (back : FrontReply) → DeskDoes p place (desk.Put k.job) (replied.Put (Err refusal)) next → (cause : PutWhy) → refusal.why ≡ cause → RefusedPut next k.device k.job cause back q → Answers p (asks k) back [] q idle
  put_refused next refusal back did (why.Duplicate key) is follows =
      let ended : DoesIf (IsFine back) next (refused k (why.Duplicate key)) [] [] q idle =
      joins_if (IsFine back) next next q (refused k (why.Duplicate key)) idle idle [] [] [] [] (forgotten back next k (why.Duplicate key) tt (ap hinders follows.0))
      (does_as back next q idle idle [] [] (channel_ends next q follows.1)) in
      joins_first p next q (asks k) (refused k refusal.why) idle back [] []
      (called_tells IsPlain p next (asks k) (refused k refusal.why) place (desk.Put k.job) (replied.Put (Err refusal)) tt did (λ stations. (comes stations, refl)) (λ stations. tt) (λ items. (refl, refl, refl)) back (plain_fine back)
      (λ items said. absurd (let e : reply.Duplicate key ≡ reply.Unfit = sym follows.0 ∙ said in cc (e)))
      (λ items other said. let e : reply.Duplicate key ≡ reply.Duplicate other = sym follows.0 ∙ said in let f : key ≡ other = cc in ap (λ (w : PutWhy). duplicate_by w) is ∙ ap (λ (l : Key). Some l) f)
      (ap handed_out follows.0))
      (subst (λ (w : PutWhy). DoesIf (IsFine back) next (refused k w) [] [] q idle) (sym is) ended)
  put_refused next refusal back did cause is follows =
      joins_last p next q (asks k) (refused k refusal.why) idle back [] []
      (called IsPlain p next (asks k) (refused k refusal.why) place (desk.Put k.job) (replied.Put (Err refusal)) tt did (λ stations. (comes stations, refl)) (λ stations. tt) (λ items. (refl, refl, refl)))
      (subst (λ (w : PutWhy). Answers next (refused k w) back [] q idle) (sym is) (after_refusal next k cause back q (λ key same. cc (same)) follows))

  put_by : (next : FrontState) (answer : DeskReply) (back : FrontReply) → DeskDoes p place (desk.Put k.job) answer next → PutBy next k.device place answer back q → Answers p (asks k) back [] q idle
  put_by next (replied.Put (Ok done)) back did follows =
      joins_last p next q (asks k) idle idle back [] [] (called IsPlain p next (asks k) idle place (desk.Put k.job) (replied.Put (Ok done)) tt did (λ stations. (comes stations, refl)) (λ stations. tt) (λ items. (refl, refl, refl)))
      (quiet next q idle idle back [] (quiet_as back _ follows.0 (done_quiet (Some place) next)) (same next q idle follows.1))
  put_by next (replied.Put (Err refusal)) back did follows =
      put_refused next refusal back did refusal.why refl (subst (λ (j : Job). RefusedPut next k.device j refusal.why back q) (same_job k.job refusal did.before did.after did.called) follows)
  put_by next (replied.Unfit job) back did follows =
      joins_first p next q (asks k) idle idle back [] []
      (called_tells (IsFine back) p next (asks k) idle place (desk.Put k.job) (replied.Unfit job) tt did (λ stations. (comes stations, refl)) (λ stations. tt) (λ items. (λ is. ap hinders follows.0, refl, refl)) back (λ x fine. fine) (λ items said. refl) (λ items key said. absurd (let e : reply.Unfit ≡ reply.Duplicate key = sym follows.0 ∙ said in cc (e)))
      (ap handed_out follows.0))
      (does_as back next q idle idle [] [] (same next q idle follows.1))
  put_by next (replied.Announced answer) back did follows = absurd follows
  put_by next (replied.Worked w) back did follows = absurd follows
  put_by next (replied.Collected answer) back did follows = absurd follows
  put_by next (replied.Removed answer) back did follows = absurd follows
  put_by next replied.Dropped back did follows = absurd follows
  put_by next replied.Ended back did follows = absurd follows

puts_if : (p : FrontState) (k : Kept) (place : Option ℕ) → desk_place p.desks k.device ≡ place → may_be_asked ((p.client).core).shake ≡ true → (back : FrontReply) (q : FrontState) → PutsIf p k.device k.job place back q → Answers p (asks k) back [] q idle
puts_if p k None at may back q did = answers p (asks k) k _ back q (λ stations. inl (refl, at, refl)) did
puts_if p k (Some place) at may back q did = put_by p q k place at may did.1 did.0 back did.2 did.3

put : (p : FrontState) (k : Kept) (back : FrontReply) (q : FrontState) → Puts p k.device k.job back q → Answers p (asks k) back [] q idle
put p k back q did = by (may_be_asked ((p.client).core).shake) refl did
  where
    by : (b : Bool) → may_be_asked ((p.client).core).shake ≡ b → Where b reply.Unfit back p q (PutsIf p k.device k.job (desk_place p.desks k.device) back q) → Answers p (asks k) back [] q idle
    by true may does = puts_if p k (desk_place p.desks k.device) refl may back q does
    by false not_asked does = λ after at.
        let part = beside_if (IsFine back) p q (asks k) idle misplaces [] [] (λ is. ap hinders does.0, refl, refl) (ap (λ (s : FrontState). s.desks) does.1) refl refl (λ stations. (k, refl, not_asked, ap (λ (s : FrontState). served s idle stations) does.1)) after at in
        (part, record { unfit = λ said. inl refl; duplicate = λ key said. absurd (let e : reply.Unfit ≡ reply.Duplicate key = sym does.0 ∙ said in cc (e)) }, ap handed_out does.0)

-- ---- what a whole call tells

-- What is said of the parts of a call beside its reply, by whether it may hear a message or try a job again.
pub record Whole (starts : Bool) (Acts : List Act → Type 0) (p : FrontState) (back : FrontReply) (h : Messages) (q : FrontState) (after : List Of) : Type 0 where
  pub came : Came (MayStop back) p idle [] h q idle after
  pub says : Says back came.parts
  pub nothing : handed_out back ≡ []
  pub before : HearBefore false came.parts
  pub first : StartsBy starts came.parts
  pub follows : hinders back ≡ false → AreFollowed p.desks came.parts
  pub opens : hinders back ≡ false → OpensEach (served p idle came.stations) came.parts (served q idle after) came.goes
  pub acts : Acts (filter_map act_told came.parts)

-- ---- what is heard before the channel stops

none_first : (o : Option (List ℕ)) (ms : Messages) → cons_option o ms ≡ [] → (o ≡ None) × (ms ≡ [])
none_first None ms is = (refl, is)
none_first (Some m) ms is = absurd (cc (is))

one_unheard : (was : Bool) (x : FrontPart) → heard_in x ≡ None → HearsBefore was x
one_unheard was (hears channel message (Err fault.Memory)) is = tt
one_unheard was (hears channel message (Err (fault.Order state packet))) is = absurd (cc (is))
one_unheard was (hears channel message (Err (fault.Grammar bad))) is = absurd (cc (is))
one_unheard was (hears channel message (Ok h)) is = absurd (cc (is))
one_unheard was tries is = tt
one_unheard was keeps is = tt
one_unheard was forgets is = tt
one_unheard was misplaces is = tt
one_unheard was (directs st answer) is = tt
one_unheard was (calls place id does back items) is = tt
one_unheard was (tells_gone device answer) is = tt
one_unheard was (tells_there device answer) is = tt
one_unheard was (sends channel sent) is = tt
one_unheard was (writes device c) is = tt
one_unheard was (unwritten device c) is = tt
one_unheard was (learns n answer) is = tt
one_unheard was (refreshes device) is = tt
one_unheard was (begins channel) is = tt
one_unheard was (ends over told) is = tt

-- where nothing is heard, nothing is heard too late
pub none_before : (was : Bool) (ps : List FrontPart) → filter_map heard_in ps ≡ [] → HearBefore was ps
none_before was [] none = tt
none_before was (x ∷ ps) none = let both = none_first (heard_in x) (filter_map heard_in ps) none in (one_unheard was x both.0, none_before (stopped_by was x) ps both.1)

-- what is heard first is heard in time
first_before : (channel : ℕ) (message : List ℕ) (answer : Result Heard EndFault) → HearsBefore false (hears channel message answer)
first_before channel message (Err fault.Memory) = tt
first_before channel message (Err (fault.Order state packet)) = refl
first_before channel message (Err (fault.Grammar bad)) = refl
first_before channel message (Ok h) = refl

-- where nothing is begun
none_start : (starts : Bool) (xs : List FrontPart) → AllByRecursion (λ x. is_start x ≡ false) xs → StartsBy starts xs
none_start false xs all = all
none_start true [] all = tt
none_start true (x ∷ xs) all = all.1

pub none_opens : (old new : Served) (ps : List FrontPart) (goes : PartsGo old ps new) → AllByRecursion (λ x. is_start x ≡ false) ps → OpensEach old ps new goes
none_opens old new [] goes all = tt
none_opens old new (hears channel message answer ∷ ps) goes all = absurd (let never = all.0 in cc (never))
none_opens old new (x ∷ ps) goes all = tt

-- where nothing is told of a device
one_untold : (desks : List DeviceDeskState) (x : FrontPart) (later : List FrontPart) → tells_device x ≡ false → IsFollowed desks x later
one_untold desks (tells_gone device (Ok done)) later is = absurd (cc (is))
one_untold desks (tells_there device (Ok done)) later is = absurd (cc (is))
one_untold desks (tells_gone device (Err error)) later is = tt
one_untold desks (tells_there device (Err error)) later is = tt
one_untold desks x later is = tt

none_told : (desks : List DeviceDeskState) (xs ys : List FrontPart) → AllByRecursion (λ x. tells_device x ≡ false) xs → AreFollowed desks ys → AreFollowed desks (xs ++ ys)
none_told desks [] ys all followed = followed
none_told desks (x ∷ xs) ys all followed = (one_untold desks x (xs ++ ys) all.0, none_told desks xs ys all.1 followed)

all_untold : (desks : List DeviceDeskState) (xs : List FrontPart) → AllByRecursion (λ x. tells_device x ≡ false) xs → AreFollowed desks xs
all_untold desks [] all = tt
all_untold desks (x ∷ xs) all = (one_untold desks x xs all.0, all_untold desks xs all.1)

one_unacted : (x : FrontPart) → tells_device x ≡ false → act_told x ≡ None
one_unacted (tells_gone device (Ok done)) none = absurd (cc (none))
one_unacted (tells_there device (Ok done)) none = absurd (cc (none))
one_unacted (tells_gone device (Err error)) none = refl
one_unacted (tells_there device (Err error)) none = refl
one_unacted (hears channel message answer) none = refl
one_unacted tries none = refl
one_unacted keeps none = refl
one_unacted forgets none = refl
one_unacted misplaces none = refl
one_unacted (directs st answer) none = refl
one_unacted (calls place id does back items) none = refl
one_unacted (sends channel sent) none = refl
one_unacted (writes device c) none = refl
one_unacted (unwritten device c) none = refl
one_unacted (learns n answer) none = refl
one_unacted (refreshes device) none = refl
one_unacted (begins channel) none = refl
one_unacted (ends over told) none = refl

none_acted : (xs : List FrontPart) → AllByRecursion (λ x. tells_device x ≡ false) xs → filter_map act_told xs ≡ []
none_acted [] all = refl
none_acted (x ∷ xs) all = ap (λ (o : Option Act). cons_option o (filter_map act_told xs)) (one_unacted x all.0) ∙ none_acted xs all.1

unstarted : (back : FrontReply) (xs : List FrontPart) → AllByRecursion (IsFine back) xs → AllByRecursion (λ x. is_start x ≡ false) xs
unstarted back xs all = all_as (IsFine back) (λ x. is_start x ≡ false) (λ x fine. fine.2) xs all

untold : (back : FrontReply) (xs : List FrontPart) → AllByRecursion (IsFine back) xs → AllByRecursion (λ x. tells_device x ≡ false) xs
untold back xs all = all_as (IsFine back) (λ x. tells_device x ≡ false) (λ x fine. fine.1) xs all

-- a call whose parts are fine
abbrev whole_of : (starts : Bool) (Acts : List Act → Type 0) → Acts [] → (p q : FrontState) (back : FrontReply) (after : List Of) (c : Came (IsFine back) p idle [] [] q idle after) → Says back c.parts → handed_out back ≡ [] → Whole starts Acts p back [] q after
whole_of starts Acts none p q back after c says nothing =
    let started = unstarted back c.parts c.each in
    record {
      came = came_as (IsFine back) (MayStop back) p q idle idle [] [] after (fine_stops back) c;
      says = says;
      nothing = nothing;
      before = none_before false c.parts c.hears;
      first = none_start starts c.parts started;
      follows = λ found. all_untold p.desks c.parts (untold back c.parts c.each);
      opens = λ found. none_opens (served p idle c.stations) (served q idle after) c.parts c.goes started;
      acts = subst Acts (sym (none_acted c.parts (untold back c.parts c.each))) none;
    }

whole : (starts : Bool) (Acts : List Act → Type 0) → Acts [] → (p q : FrontState) (back : FrontReply) → Answers p idle back [] q idle → (after : List Of) → AreStationed q.desks after → Whole starts Acts p back [] q after
whole starts Acts none p q back answer after at = let (c, says, nothing) = answer after at in whole_of starts Acts none p q back after c says nothing

-- the job that is kept back is tried once more
retries : (p : FrontState) (kept : Option Kept) → p.kept ≡ kept → p.on ≡ true → (back : FrontReply) (q : FrontState) → FrontRetries p kept back q → (after : List Of) → AreStationed q.desks after → Whole true (TellsOnce call.Retry back) p back [] q after
retries p None is on back q did after at = whole true (TellsOnce call.Retry back) refl p q back (quiet p q idle idle back [] (quiet_as back _ did.0 (done_quiet None p)) (same p q idle did.1)) after at
retries p (Some k) is on back q did after at =
    let without : FrontState = record p { kept = None } in
    let (then, says, nothing) = put without k back q did after at in
    let begun_at = beside_if (MayStop back) p without idle (asks k) tries [] [] (λ never. absurd (cc (never))) refl refl refl (λ stations. (k, is, refl, on, refl)) then.stations then.at in
    record {
      came = came_on (MayStop back) p without q idle (asks k) idle [] [] [] [] after (came_as (IsFine back) (MayStop back) without q (asks k) idle [] [] after (fine_stops back) then) begun_at;
      says = record { unfit = λ said. inr (says.unfit said); duplicate = λ key said. inr (says.duplicate key said) };
      nothing = nothing;
      before = (tt, none_before false then.parts then.hears);
      first = unstarted back then.parts then.each;
      follows = λ found. (tt, all_untold p.desks then.parts (untold back then.parts then.each));
      opens = λ found. tt;
      acts = none_acted then.parts (untold back then.parts then.each);
    }

-- ---- announcements

-- an announcement, or a call by which a device is cut off, isn't unfit
announce_fit : (back : DeskReply) (d e : DeviceDeskState) → IsCalled d desk.Announce back e → (place id : ℕ) (items : List Item) → IsPlain (calls place id desk.Announce back items)
announce_fit (replied.Unfit job) d e did place id items = absurd ((did.replied).step).1
announce_fit (replied.Announced answer) d e did place id items = (refl, refl, refl)
announce_fit (replied.Put answer) d e did place id items = (refl, refl, refl)
announce_fit (replied.Worked w) d e did place id items = (refl, refl, refl)
announce_fit (replied.Collected answer) d e did place id items = (refl, refl, refl)
announce_fit (replied.Removed answer) d e did place id items = (refl, refl, refl)
announce_fit replied.Dropped d e did place id items = (refl, refl, refl)
announce_fit replied.Ended d e did place id items = (refl, refl, refl)

remove_fit : (back : DeskReply) (d e : DeviceDeskState) → IsCalled d desk.Remove back e → (place id : ℕ) (items : List Item) → IsPlain (calls place id desk.Remove back items)
remove_fit (replied.Unfit job) d e did place id items = absurd ((did.replied).step).1
remove_fit (replied.Announced answer) d e did place id items = (refl, refl, refl)
remove_fit (replied.Put answer) d e did place id items = (refl, refl, refl)
remove_fit (replied.Worked w) d e did place id items = (refl, refl, refl)
remove_fit (replied.Collected answer) d e did place id items = (refl, refl, refl)
remove_fit (replied.Removed answer) d e did place id items = (refl, refl, refl)
remove_fit replied.Dropped d e did place id items = (refl, refl, refl)
remove_fit replied.Ended d e did place id items = (refl, refl, refl)

-- the desk of a device is the device's
pub desk_of : (ds : List DeviceDeskState) (place device : ℕ) (d : DeviceDeskState) → desk_place ds device ≡ Some place → slice_get ds place ≡ Some d → device ≡ d.id
desk_of ds place device d is there =
    let found = position-Some (λ (e : DeviceDeskState). e.id == device) ds place d is in
    let here = get_or_from_slice_get ds place d d there in
    sym (eqb-true d.id device (ap (λ (e : DeviceDeskState). e.id == device) (sym here) ∙ found.1))

-- the host is told that a device is there
abbrev IsThere : FrontState → ℕ → Type 0
IsThere p device = (p.on ≡ true) × (is_front_ready p ≡ true) × (list_any (is_present_as device) (p.client).devices ≡ true)

-- A device is announced to its desk, where it has one.
abbrev AnnouncedTo : FrontState → ℕ → Bool → FrontState → Type 0
AnnouncedTo p device found q = (after : List Of) → AreStationed q.desks after → (c : Came IsPlain p idle [] [] q idle after) × (found ≡ true → FollowsAt p.desks device announced_by c.parts)

announces : (p : FrontState) (place : Option ℕ) (device : ℕ) (found : Bool) (q : FrontState) → desk_place p.desks device ≡ place → IsThere p device → Announces p place found q → AnnouncedTo p device found q
announces p None device found q is there did after at = (same p q idle did.1 after at, λ t. inl is)
announces p (Some place) device found q is there did after at =
    let id : device ≡ ((did.1).before).id = desk_of p.desks place device (did.1).before is (did.1).there in
    let c = called IsPlain p q idle idle place desk.Announce did.0 tt did.1 (λ stations. refl) (λ stations. (refl, there.0, there.1, subst (λ (n : ℕ). list_any (is_present_as n) (p.client).devices ≡ true) id there.2))
    (λ items. announce_fit did.0 (did.1).before (did.1).after (did.1).called place ((did.1).before).id items) after at in
    (c, λ t. let was : is_announced did.0 ≡ true = sym did.2 ∙ t in inr (inl (ap (λ (b : Bool). cond b (Some ((did.1).before).id) None) was ∙ ap (λ (n : ℕ). Some n) (sym id))))

-- announcements leave the client, and the places of desks
announced_client : (p : FrontState) (place : Option ℕ) (found : Bool) (q : FrontState) → Announces p place found q → (q.client ≡ p.client) × ((device : ℕ) → desk_place q.desks device ≡ desk_place p.desks device) × (q.on ≡ p.on)
announced_client p None found q did = (ap (λ (s : FrontState). s.client) did.1, λ device. ap (λ (s : FrontState). desk_place s.desks device) did.1, ap (λ (s : FrontState). s.on) did.1)
announced_client p (Some place) found q did = (
  ap (λ (s : FrontState). s.client) (did.1).put_back,
  λ device. ap (λ (s : FrontState). desk_place s.desks device) (did.1).put_back
      ∙ place_same (λ (d : DeviceDeskState). d.id == device) p.desks place (did.1).after (did.1).before (did.1).there (ap (λ (n : ℕ). n == device) ((did.1).called).id),
  ap (λ (s : FrontState). s.on) (did.1).put_back,
)

unless_client : (removed : Bool) (p : FrontState) (device : ℕ) (found : Bool) (q : FrontState) → AnnouncesUnless removed p device found q → (q.client ≡ p.client) × ((e : ℕ) → desk_place q.desks e ≡ desk_place p.desks e) × (q.on ≡ p.on)
unless_client true p device found q did = (ap (λ (s : FrontState). s.client) did.1, λ e. ap (λ (s : FrontState). desk_place s.desks e) did.1, ap (λ (s : FrontState). s.on) did.1)
unless_client false p device found q did = announced_client p (desk_place p.desks device) found q did

announces_unless : (removed : Bool) (p : FrontState) (device : ℕ) (found : Bool) (q : FrontState) → (removed ≡ false → IsThere p device) → AnnouncesUnless removed p device found q
    → (after : List Of) → AreStationed q.desks after → (c : Came IsPlain p idle [] [] q idle after) × (removed ≡ false → found ≡ true → FollowsAt p.desks device announced_by c.parts)
announces_unless true p device found q there did after at = (same p q idle did.1 after at, λ is. absurd (cc (is)))
announces_unless false p device found q there did after at = let (c, follows) = announces p (desk_place p.desks device) device found q refl (there refl) did after at in (c, λ is. follows)

-- a channel is on where a message may be heard, or a device told of
on_of : (on rest : Bool) → (on && rest) ≡ true → on ≡ true
on_of true rest is = refl
on_of false rest is = absurd (cc (is))

-- ---- the devices of a list

abbrev HasOf : ℕ → List ClientDevice → Bool
HasOf device ds = list_any (is_device device) ds

abbrev GoneOf : ℕ → List ClientDevice → Bool
GoneOf device ds = list_any (λ x. is_device device x && x.removed) ds

later_true : (a b : Bool) → b ≡ true → (a || b) ≡ true
later_true true b is = refl
later_true false b is = is

first_false : (a b : Bool) → (a || b) ≡ false → (a ≡ false) × (b ≡ false)
first_false true b is = absurd (cc (is))
first_false false b is = (refl, is)

second_true : (a b : Bool) → (a && b) ≡ true → b ≡ true
second_true true b is = is
second_true false b is = absurd (cc (is))

told_as : (r h g : Bool) → (r && (h && not g)) ≡ true → (h ≡ true) × (g ≡ false)
told_as true true true is = absurd (cc (is))
told_as true true false is = (refl, refl)
told_as true false g is = absurd (cc (is))
told_as false h g is = absurd (cc (is))

-- where one is there, it is the first or one of the others
one_there : (x : ClientDevice) (ds : List ClientDevice) (device : ℕ) → HasOf device (x ∷ ds) ≡ true → GoneOf device (x ∷ ds) ≡ false → (((x.announce).id ≡ device) × (x.removed ≡ false)) ⊎ ((HasOf device ds ≡ true) × (GoneOf device ds ≡ false))
one_there x ds device has gone = by (is_device device x) refl has gone
  where
    by : (b : Bool) → is_device device x ≡ b → (b || HasOf device ds) ≡ true → ((b && x.removed) || GoneOf device ds) ≡ false → (((x.announce).id ≡ device) × (x.removed ≡ false)) ⊎ ((HasOf device ds ≡ true) × (GoneOf device ds ≡ false))
    by true is some none = inl (eqb-true (x.announce).id device is, (first_false x.removed (GoneOf device ds) none).0)
    by false is some none = inr (some, none)

-- the device itself
own_there : (x : ClientDevice) (ds : List ClientDevice) → x.removed ≡ false → list_any (is_present_as (x.announce).id) (x ∷ ds) ≡ true
own_there x ds is = λ i. (eq-eqb (x.announce).id (x.announce).id refl i && not (is i)) || list_any (is_present_as (x.announce).id) ds

follows_left : (desks : List DeviceDeskState) (device : ℕ) (by : FrontPart → Option ℕ) (xs ys : List FrontPart) → FollowsAt desks device by xs → FollowsAt desks device by (xs ++ ys)
follows_left desks device by xs ys (inl none) = inl none
follows_left desks device by xs ys (inr some) = inr (among_left (λ x. by x ≡ Some device) xs ys some)

follows_right : (desks : List DeviceDeskState) (device : ℕ) (by : FrontPart → Option ℕ) (xs ys : List FrontPart) → FollowsAt desks device by ys → FollowsAt desks device by (xs ++ ys)
follows_right desks device by xs ys (inl none) = inl none
follows_right desks device by xs ys (inr some) = inr (among_right (λ x. by x ≡ Some device) xs ys some)

follows_as : (old new : List DeviceDeskState) (device : ℕ) (by : FrontPart → Option ℕ) (xs : List FrontPart) → desk_place new device ≡ desk_place old device → FollowsAt new device by xs → FollowsAt old device by xs
follows_as old new device by xs same (inl none) = inl (sym same ∙ none)
follows_as old new device by xs same (inr some) = inr some

-- Those of a list of devices that aren't removed are announced, where memory was found for each.
abbrev AnnouncesAll : List ClientDevice → FrontState → Bool → FrontState → Type 0
AnnouncesAll ds p found q = (after : List Of) → AreStationed q.desks after
    → (c : Came IsPlain p idle [] [] q idle after) × (found ≡ true → (device : ℕ) → HasOf device ds ≡ true → GoneOf device ds ≡ false → FollowsAt p.desks device announced_by c.parts)

abbrev ListsAll : List ClientDevice → FrontState → Type 0
ListsAll ds p = (device : ℕ) → list_any (is_present_as device) ds ≡ true → list_any (is_present_as device) (p.client).devices ≡ true

each_step : (x : ClientDevice) (ds : List ClientDevice) (p : FrontState) (found : Bool) (q : FrontState) → p.on ≡ true → is_front_ready p ≡ true → ListsAll (x ∷ ds) p → (went : Bool) (next : FrontState) → AnnouncesOne x p went next → Then went found next q (Each AnnouncesOne ds next found q)
    → ((s : FrontState) → s.on ≡ true → is_front_ready s ≡ true → ListsAll ds s → Each AnnouncesOne ds s found q → AnnouncesAll ds s found q) → AnnouncesAll (x ∷ ds) p found q
each_step x ds p found q on_now ready there true next did rest on after at =
    let still = unless_client x.removed p (x.announce).id true next did in
    let (later, follow) = on next (still.2 ∙ on_now) (ap (λ (c : ClientCoreState). is_client_ready (c.core).shake) still.0 ∙ ready)
    (λ device is. ap (λ (c : ClientCoreState). list_any (is_present_as device) c.devices) still.0 ∙ there device (later_true (is_present_as device x) (list_any (is_present_as device) ds) is)) rest after at in
    let (first, own) = announces_unless x.removed p (x.announce).id true next (λ is. (on_now, ready, there (x.announce).id (own_there x ds is))) did later.stations later.at in (
      came_on IsPlain p next q idle idle idle [] [] [] [] after later first,
      λ t device has gone. elim (one_there x ds device has gone) [
        | inl here ↦ follows_left p.desks device announced_by first.parts later.parts (subst (λ (n : ℕ). FollowsAt p.desks n announced_by first.parts) here.0 (own here.1 refl))
        | inr others ↦ follows_right p.desks device announced_by first.parts later.parts (follows_as p.desks next.desks device announced_by later.parts (still.1 device) (follow t device others.0 others.1))
      ],
    )
each_step x ds p found q on_now ready there false next did rest on after at = subst (λ (s : FrontState). AnnouncesAll (x ∷ ds) p found s) (sym rest.1) now after at
  where
    now : AnnouncesAll (x ∷ ds) p found next
    now later_on stationed = ((announces_unless x.removed p (x.announce).id false next (λ is. (on_now, ready, there (x.announce).id (own_there x ds is))) did later_on stationed).0, λ t. absurd (let f = rest.0 in cc (t, f)))

each_announced : (ds : List ClientDevice) (p : FrontState) (found : Bool) (q : FrontState) → p.on ≡ true → is_front_ready p ≡ true → ListsAll ds p → Each AnnouncesOne ds p found q → AnnouncesAll ds p found q
each_announced [] p found q on_now ready there did = λ after at. (same p q idle did.1 after at, λ t device has. absurd (cc (has)))
each_announced (x ∷ ds) p found q on_now ready there did = each_step x ds p found q on_now ready there did.0 did.1 did.2 did.3 (λ s. each_announced ds s found q)

-- ---- what follows from a message

-- Where the opening is over by it, each device that the host is told of is announced to its desk.
abbrev OpensBy : Bool → Result Heard EndFault → FrontReply → FrontState → List FrontPart → Type 0
OpensBy ready answer back p parts = answer ≡ Ok Nothing → ready ≡ false → is_front_ready p ≡ true → hinders back ≡ false → (device : ℕ) → is_told_there p device ≡ true → FollowsAt p.desks device announced_by parts

abbrev AnswersHeard : Bool → FrontState → Result Heard EndFault → FrontReply → FrontState → Type 0
AnswersHeard ready p answer back q = (after : List Of) → AreStationed q.desks after → (c : Came (IsFine back) p (asking_by answer) [] [] q idle after) × Says back c.parts × (handed_out back ≡ []) × OpensBy ready answer back p c.parts

other_heard : (ready : Bool) (p : FrontState) (answer : Result Heard EndFault) (back : FrontReply) (q : FrontState) → (answer ≡ Ok Nothing → ⊥) → Answers p (asking_by answer) back [] q idle → AnswersHeard ready p answer back q
other_heard ready p answer back q other does after at = let (c, says, nothing) = does after at in (c, says, nothing, λ is. absurd (other is))

found_of : (found : Bool) (q : FrontState) → hinders (done_where found q) ≡ false → found ≡ true
found_of true q is = refl
found_of false q is = absurd (cc (is))

opens : (ready opening : Bool) (p : FrontState) (back : FrontReply) (q : FrontState) → p.on ≡ true → (not ready && is_front_ready p) ≡ opening → OpeningEnds opening p back q → AnswersHeard ready p (Ok Nothing) back q
opens ready true p back q on_now is did after at =
    let none : IsQuiet back = quiet_as back (done_where did.0 q) did.2 (where_quiet did.0 q) in
    let (c, follow) = each_announced (p.client).devices p did.0 q on_now (second_true (not ready) (is_front_ready p) is) (λ device there. there) did.1 after at in (
      came_as IsPlain (IsFine back) p q idle idle [] [] after (plain_fine back) c,
      quiet_says back c.parts none,
      none.2,
      λ e first then found device told.
          let parts = told_as (is_front_ready p) (has_device p.client device) (is_gone p.client device) told in
          follow (found_of did.0 q (sym (ap hinders did.2) ∙ found)) device parts.0 parts.1,
    )
opens ready false p back q on_now is did after at =
    let (c, says, nothing) = quiet p q idle idle back [] (quiet_as back _ did.0 (done_quiet None p)) (same p q idle did.1) after at in
    (c, says, nothing, λ e first then. absurd (let t : (not ready && is_front_ready p) ≡ true = λ i. not (first i) && then i in cc (t, is)))

-- ---- a message

wrong_quiet : (cause : EndFault) → IsQuiet (reply.Wrong cause)
wrong_quiet cause = (λ is. cc (is), λ key is. cc (is), refl)

heard : (ready : Bool) (p : FrontState) (h : Heard) (back : FrontReply) (q : FrontState) → p.on ≡ true → HeardBy ready p h back q → AnswersHeard ready p (Ok h) back q
heard ready p Nothing back q on_now did = opens ready (not ready && is_front_ready p) p back q on_now refl did
heard ready p (Ask device job) back q on_now did = other_heard ready p (Ok (Ask device job)) back q (λ is. cc (is)) (put p (record { device = device; job = job }) back q did)
heard ready p (Print n) back q on_now did =
    other_heard ready p (Ok (Print n)) back q (λ is. cc (is))
    (quiet p q idle idle back [] (quiet_as back (done_if did.0 q) did.3 (if_quiet did.0 q))
    (beside p q idle idle (learns n did.0) [] [] (refl, refl, refl) (ap (λ (s : FrontState). s.desks) did.2) refl refl (λ stations. (did.1, ap (λ (s : FrontState). served s idle stations) did.2))))

follows : (ready : Bool) (p : FrontState) (answer : Result Heard EndFault) (back : FrontReply) (q : FrontState) → p.on ≡ true → FollowsFrom ready p answer back q → AnswersHeard ready p answer back q
follows ready p (Err fault.Memory) back q on_now did =
    other_heard ready p (Err fault.Memory) back q (λ is. cc (is)) (quiet p q idle idle back [] (quiet_as back reply.Memory did.0 memory_quiet) (same p q idle did.1))
follows ready p (Err (fault.Order state packet)) back q on_now did =
    other_heard ready p (Err (fault.Order state packet)) back q (λ is. cc (is)) (quiet p q idle idle back [] (quiet_as back _ did.0 (wrong_quiet (fault.Order state packet))) (same p q idle did.1))
follows ready p (Err (fault.Grammar bad)) back q on_now did =
    other_heard ready p (Err (fault.Grammar bad)) back q (λ is. cc (is)) (quiet p q idle idle back [] (quiet_as back _ did.0 (wrong_quiet (fault.Grammar bad))) (same p q idle did.1))
follows ready p (Ok h) back q on_now did = heard ready p h back q on_now did

-- what is wrong hinders
wrong_hinders : (ready : Bool) (p : FrontState) (channel : ℕ) (message : List ℕ) (answer : Result Heard EndFault) (back : FrontReply) (q : FrontState) → FollowsFrom ready p answer back q → stops (hears channel message answer) ≡ true → Hinders back
wrong_hinders ready p channel message (Err fault.Memory) back q did is = absurd (cc (is))
wrong_hinders ready p channel message (Err (fault.Order state packet)) back q did is = ap hinders did.0
wrong_hinders ready p channel message (Err (fault.Grammar bad)) back q did is = ap hinders did.0
wrong_hinders ready p channel message (Ok h) back q did is = absurd (cc (is))

-- a message is heard, and the rest follows
hears_all : (p : FrontState) (message : List ℕ) → may_hear p ≡ true → (back : FrontReply) (q : FrontState) (did : FrontHears p message back q) → (after : List Of) → AreStationed q.desks after
    → Whole true (TellsOnce (call.Hear message) back) p back (filter_map heard_in (hears p.channel message did.0 ∷ []) ++ []) q after
unfolding parts_append
hears_all p message may back q did after at =
    let (then, says, nothing, opened) = follows (is_front_ready p) did.1 did.0 back q (ap (λ (s : FrontState). s.on) (did.2).1 ∙ on_of p.on (is_none p.kept && nat_lt (p.client).asked max_asked) may) did.3 after at in
    let part : FrontPart = hears p.channel message did.0 in
    let first = beside_if (MayStop back) p did.1 idle (asking_by did.0) part [] _ (wrong_hinders (is_front_ready p) did.1 p.channel message did.0 back q did.3) (core_desks p did.1 (p.unsent + most_written (is_front_ready p)) (did.2).1) refl refl (λ stations. (refl, refl, may, did.2, refl, refl)) then.stations then.at in
    let desks : (did.1).desks ≡ p.desks = core_desks p did.1 (p.unsent + most_written (is_front_ready p)) (did.2).1 in
    record {
      came = came_on (MayStop back) p did.1 q idle (asking_by did.0) idle [] [] (filter_map heard_in (part ∷ [])) [] after (came_as (IsFine back) (MayStop back) did.1 q (asking_by did.0) idle [] [] after (fine_stops back) then) first;
      says = record { unfit = λ is. inr (says.unfit is); duplicate = λ key is. inr (says.duplicate key is) };
      nothing = nothing;
      before = (first_before p.channel message did.0, none_before (stopped_by false part) then.parts then.hears);
      first = unstarted back then.parts then.each;
      follows = λ found. (tt, all_untold p.desks then.parts (untold back then.parts then.each));
      opens = λ found answer was now device told. subst (λ (ds : List DeviceDeskState). FollowsAt ds device announced_by then.parts) desks (opened answer was now found device told);
      acts = none_acted then.parts (untold back then.parts then.each);
    }

-- ---- a channel begins

refreshed_desks : (p : FrontState) (device : ℕ) → ((with_new_data p device).desks ≡ p.desks) × ((with_new_data p device).on ≡ p.on) × ((with_new_data p device).channel ≡ p.channel)
refreshed_desks p device = go (lookup (is_at (nat_cmp device)) p.printers)
  where
    go : (o : Option PrinterNames) → let s = option_map_or (λ (names : PrinterNames). record p { client = client.refresh p.client device (printer_data p.cache names) }) o p in
        (s.desks ≡ p.desks) × (s.on ≡ p.on) × (s.channel ≡ p.channel)
    go None = (refl, refl, refl)
    go (Some names) = (refl, refl, refl)

refreshes_one : (p : FrontState) (device : ℕ) (found : Bool) (q : FrontState) → Refreshes p device found q → Does p idle [] [] q idle
refreshes_one p device true q did = to p _ q idle idle [] [] did (beside p (with_new_data p device) idle idle (refreshes device) [] [] (refl, refl, refl) (refreshed_desks p device).0 refl refl (λ stations. refl))
refreshes_one p device false q did = same p q idle did

-- what a channel's begin looks at stays the same
abbrev IsStill : FrontState → FrontState → Type 0
IsStill p q = (q.on ≡ p.on) × (q.channel ≡ p.channel)

still_same : (p q : FrontState) → q ≡ p → IsStill p q
still_same p q is = (ap (λ (s : FrontState). s.on) is, ap (λ (s : FrontState). s.channel) is)

still_one : (p : FrontState) (device : ℕ) (found : Bool) (q : FrontState) → Refreshes p device found q → IsStill p q
still_one p device true q did = let is = refreshed_desks p device in (ap (λ (s : FrontState). s.on) did ∙ is.1, ap (λ (s : FrontState). s.channel) did ∙ is.2)
still_one p device false q did = still_same p q did

still_then : (went found : Bool) (p q : FrontState) (does : Type 0) → (does → IsStill p q) → Then went found p q does → IsStill p q
still_then true found p q does on did = on did
still_then false found p q does on did = still_same p q did.1

still_all : (names : List (ℕ × PrinterNames)) (p : FrontState) (found : Bool) (q : FrontState) → Each RefreshesOne names p found q → IsStill p q
still_all [] p found q did = still_same p q did.1
still_all (n ∷ names) p found q did =
    let first = still_one p n.0 did.0 did.1 did.2 in
    let later = still_then did.0 found did.1 q (Each RefreshesOne names did.1 found q) (still_all names did.1 found q) did.3 in
    (later.0 ∙ first.0, later.1 ∙ first.1)

-- a channel begins where that is done
abbrev HasBegun : ℕ → FrontReply → List FrontPart → Type 0
HasBegun channel back parts = (at : Option ℕ) (full : Bool) → back ≡ reply.Done at full → Among (λ x. begun_by x ≡ Some channel) parts

abbrev Begins : FrontState → ℕ → FrontReply → FrontState → Type 0
Begins p channel back q = (after : List Of) → AreStationed q.desks after → (c : Came (IsFine back) p idle [] [] q idle after) × Says back c.parts × (handed_out back ≡ []) × HasBegun channel back c.parts

-- what doesn't say so
begins_not : (p : FrontState) (channel : ℕ) (back : FrontReply) (q : FrontState) → ((at : Option ℕ) (full : Bool) → back ≡ reply.Done at full → ⊥) → Answers p idle back [] q idle → Begins p channel back q
begins_not p channel back q not_done answer after at = let (c, tells, none) = answer after at in (c, tells, none, λ place full is. absurd (not_done place full is))

begins_one : (found : Bool) (p : FrontState) (channel : ℕ) (back : FrontReply) (q : FrontState) → p.on ≡ false → p.channel < channel → BeginsIf found p channel back q → Begins p channel back q
begins_one true p channel back q off later did = subst (λ (s : FrontState). Begins p channel back s) (sym did.1) now
  where
    none : IsQuiet back
    none = quiet_as back _ did.0 (done_quiet None q)

    now : Begins p channel back (begun p channel)
    now after at = (
      beside_if (IsFine back) p (begun p channel) idle idle (begins channel) [] [] (λ is. absurd (cc (is)), refl, refl) refl refl refl (λ stations. (refl, off, later, refl)) after at,
      quiet_says back (begins channel ∷ []) none,
      none.2,
      λ place full is. inl refl,
    )
begins_one false p channel back q off later did =
    begins_not p channel back q (λ place full is. let e : reply.Memory ≡ reply.Done place full = sym did.0 ∙ is in cc (e)) (quiet p q idle idle back [] (quiet_as back reply.Memory did.0 memory_quiet) (same p q idle did.1))

-- a channel may begin where none is on, above those before
off_of : (on : Bool) (rest : Bool) → (not on && rest) ≡ true → (on ≡ false) × (rest ≡ true)
off_of true rest is = absurd (cc (is))
off_of false rest is = (refl, is)

begins_all : (p : FrontState) (channel : ℕ) → may_begin p channel ≡ true → (back : FrontReply) (q : FrontState) → FrontBegins p channel back q → Begins p channel back q
begins_all p channel may back q did after at =
    let still = still_all p.printers p did.0 did.1 did.2 in
    let off = off_of p.on (not p.over && nat_lt p.channel channel) may in
    let above = off_of p.over (nat_lt p.channel channel) off.1 in
    let later : p.channel < channel = ltb-true p.channel channel above.1 in
    let (then, tells, none, begun_there) = begins_one did.0 did.1 channel back q (still.0 ∙ off.0) (subst (λ (n : ℕ). n < channel) (sym still.1) later) did.3 after at in
    let before = does_as back p did.1 idle idle [] [] (each RefreshesOne (λ n a found b one. refreshes_one a n.0 found b one) p.printers p did.0 did.1 did.2) then.stations then.at in (
      came_on (IsFine back) p did.1 q idle idle idle [] [] [] [] after then before,
      record {
        unfit = λ is. among_right (λ x. is_unfit x ≡ true) before.parts then.parts (tells.unfit is);
        duplicate = λ key is. among_right (λ x. duplicate_of x ≡ Some key) before.parts then.parts (tells.duplicate key is);
      },
      none,
      λ place full is. among_right (λ x. begun_by x ≡ Some channel) before.parts then.parts (begun_there place full is),
    )

-- where it may
begins_where : (p : FrontState) (channel : ℕ) (back : FrontReply) (q : FrontState) (may : Bool) → may_begin p channel ≡ may → Where may reply.Refused back p q (FrontBegins p channel back q) → Begins p channel back q
begins_where p channel back q true may did = begins_all p channel may back q did
begins_where p channel back q false may did =
    begins_not p channel back q (λ place full is. let e : reply.Refused ≡ reply.Done place full = sym did.0 ∙ is in cc (e)) (not_done reply.Refused back p q refused_quiet did)

-- ---- a device is gone, or there again

-- that a device is gone is to be written
abbrev IsToldGone : FrontState → ℕ → Type 0
IsToldGone s device = Has (plain (removal_bytes (device ∷ []))) ((s.client).core).outbox

-- It is cut off at its desk, where it has one.
cuts : (p : FrontState) (device : ℕ) (place : Option ℕ) (q : FrontState) → IsToldGone p device → is_told_there p device ≡ false → is_gone p.client device ≡ true → desk_place p.desks device ≡ place → CutsAt p place q
    → (after : List Of) → AreStationed q.desks after → (c : Came IsPlain p idle [] [] q idle after) × FollowsAt p.desks device cut_by c.parts
cuts p device None q told off gone is did after at = (same p q idle did after at, inl is)
cuts p device (Some place) q told off gone is did after at =
    let id : device ≡ ((did.1).before).id = desk_of p.desks place device (did.1).before is (did.1).there in
    let c = called IsPlain p q idle idle place desk.Remove did.0 tt did.1 (λ stations. refl) (λ stations. (refl, subst (IsToldGone p) id told, subst (λ (n : ℕ). is_told_there p n ≡ false) id off, subst (λ (n : ℕ). is_gone p.client n ≡ true) id gone))
    (λ items. remove_fit did.0 (did.1).before (did.1).after (did.1).called place ((did.1).before).id items) after at in
    (c, inr (inl (ap (λ (n : ℕ). Some n) (sym id))))

last_has : {A : Type 0} (x : A) (xs : List A) → Has x (xs ++ x ∷ [])
last_has x [] = inl refl
last_has x (y ∷ xs) = inr (last_has x xs)

told_gone : (p q : FrontState) (device : ℕ) → q.client ≡ tell_removed p.client device → IsToldGone q device
told_gone p q device is = subst (λ (c : ClientCoreState). Has (plain (removal_bytes (device ∷ []))) (c.core).outbox) (sym is) (last_has (plain (removal_bytes (device ∷ []))) ((p.client).core).outbox)

never_both : (r h g : Bool) → g ≡ h → (r && (h && not g)) ≡ false
never_both true true true is = refl
never_both true true false is = absurd (cc (is))
never_both true false g is = refl
never_both false h g is = refl

-- the host isn't told any more that it is there
told_off : (p q : FrontState) (device : ℕ) → q.client ≡ tell_removed p.client device → is_told_there q device ≡ false
told_off p q device is =
    subst (λ (c : ClientCoreState). (is_client_ready (c.core).shake && (has_device c device && not (is_gone c device))) ≡ false) (sym is)
    (never_both (is_client_ready ((tell_removed p.client device).core).shake) (has_device (tell_removed p.client device) device) (is_gone (tell_removed p.client device) device) (gone_marked device (p.client).devices))

-- its mark says that it is gone
has_marked : (device : ℕ) (ds : List ClientDevice) → list_any (is_device device) ds ≡ true → list_any (is_device device) (map (device_marked device true) ds) ≡ true
has_marked device [] has = absurd (cc (has))
has_marked device (x ∷ ds) has = by (is_device device x) refl has (has_marked device ds)
  where
    by : (b : Bool) → is_device device x ≡ b → (b || list_any (is_device device) ds) ≡ true → (list_any (is_device device) ds ≡ true → list_any (is_device device) (map (device_marked device true) ds) ≡ true)
        → let y : ClientDevice = cond b (record x { removed = true }) x in (is_device device y || list_any (is_device device) (map (device_marked device true) ds)) ≡ true
    by true e some more = λ i. e i || list_any (is_device device) (map (device_marked device true) ds)
    by false e some more = later_true (is_device device x) _ (more some)

marked_gone : (p q : FrontState) (device : ℕ) → has_device p.client device ≡ true → q.client ≡ tell_removed p.client device → is_gone q.client device ≡ true
marked_gone p q device has is = subst (λ (c : ClientCoreState). is_gone c device ≡ true) (sym is) (gone_marked device (p.client).devices ∙ has_marked device (p.client).devices has)

abbrev Wholes : Bool → (List Act → Type 0) → FrontState → FrontReply → FrontState → Type 0
Wholes starts Acts p back q = (after : List Of) → AreStationed q.desks after → Whole starts Acts p back [] q after

removes_by : (p next : FrontState) (device : ℕ) (answer : Result (Unit {0}) AllocError) → p.on ≡ true → ClientDoes p (client.tells_removed device answer) (one_if_done answer) next → (back : FrontReply) (q : FrontState) → RemovesBy next device answer back q → Wholes false (TellsOnce (call.Remove device) back) p back q
removes_by p next device (Ok done) on told back q did after at =
    let none : IsQuiet back = quiet_as back _ did.0 (done_quiet (desk_place next.desks device) q) in
    let desks : next.desks ≡ p.desks = core_desks p next (p.unsent + 1) told.1 in
    let (c, follow) = cuts next device (desk_place next.desks device) q (told_gone p next device (told.0).1) (told_off p next device (told.0).1) (marked_gone p next device ((told.0).0).1 (told.0).1) refl did.1 after at in
    let first = beside_if (MayStop back) p next idle idle (tells_gone device (Ok done)) [] [] (λ never. absurd (cc (never))) desks refl refl (λ stations. (told, refl, refl, on, refl)) c.stations c.at in
    record {
      came = came_on (MayStop back) p next q idle idle idle [] [] [] [] after (came_as IsPlain (MayStop back) next q idle idle [] [] after (plain_stops back) c) first;
      says = quiet_says back (tells_gone device (Ok done) ∷ c.parts) none;
      nothing = none.2;
      before = (tt, none_before false c.parts c.hears);
      first = (refl, all_as IsPlain (λ x. is_start x ≡ false) (λ x plain. plain.2) c.parts c.each);
      follows = λ found. (subst (λ (ds : List DeviceDeskState). FollowsAt ds device cut_by c.parts) desks follow, all_untold p.desks c.parts (all_as IsPlain (λ x. tells_device x ≡ false) (λ x plain. plain.1) c.parts c.each));
      opens = λ found. tt;
      acts = subst (λ (r : FrontReply). TellsOnce (call.Remove device) r (removed device ∷ filter_map act_told c.parts)) (sym did.0)
          (ap (λ (more : List Act). removed device ∷ more) (none_acted c.parts (all_as IsPlain (λ x. tells_device x ≡ false) (λ x plain. plain.1) c.parts c.each)));
    }
removes_by p next device (Err error) on told back q did after at =
    whole false (TellsOnce (call.Remove device) back) (subst (λ (r : FrontReply). TellsOnce (call.Remove device) r []) (sym did.0) refl) p q back (joins_last p next q idle idle idle back [] []
    (beside p next idle idle (tells_gone device (Err error)) [] [] (refl, refl, refl) (core_desks p next (p.unsent + 0) told.1) refl refl (λ stations. (told, refl, refl, on, refl)))
    (quiet next q idle idle back [] (quiet_as back reply.Memory did.0 memory_quiet) (same next q idle did.1))) after at

removes_all : (p : FrontState) (device : ℕ) → p.on ≡ true → (back : FrontReply) (q : FrontState) → FrontRemoves p device back q → Wholes false (TellsOnce (call.Remove device) back) p back q
removes_all p device on back q did = removes_by p did.1 device did.0 on did.2 back q did.3

-- a device that was gone is there
there_again : (p q : FrontState) (device : ℕ) → q.on ≡ true → client.MayTellAdded p.client device → q.client ≡ tell_added p.client device → IsThere q device
there_again p q device on may is = (
  on,
  ap (λ (c : ClientCoreState). is_client_ready (c.core).shake) is ∙ ap is_client_ready may.0,
  ap (λ (c : ClientCoreState). list_any (is_present_as device) c.devices) is ∙ present_marked device (p.client).devices may.1,
)

-- it was told that it is there again, whether memory was found for its desk or not
told_once : (device : ℕ) (found : Bool) (s : FrontState) → TellsOnce (call.Add device) (done_where found s) (added device ∷ [])
told_once device true s = refl
told_once device false s = inr refl

adds_by : (p next then : FrontState) (device : ℕ) (answer : Result (Unit {0}) AllocError) → p.on ≡ true → next.on ≡ p.on → next.desks ≡ p.desks → Does p idle [] [] next idle → ClientDoes next (client.tells_added device answer) (one_if_done answer) then
    → (back : FrontReply) (q : FrontState) → AddsBy then device answer back q → Wholes false (TellsOnce (call.Add device) back) p back q
adds_by p next then device (Ok done) on still desks before told back q did after at =
    let none : IsQuiet back = quiet_as back (done_where did.0 q) did.2 (where_quiet did.0 q) in
    let same_desks : then.desks ≡ next.desks = core_desks next then (next.unsent + 1) told.1 in
    let (c, follow) = announces then (desk_place then.desks device) device did.0 q refl (there_again next then device (ap (λ (s : FrontState). s.on) told.1 ∙ still ∙ on) (told.0).0 (told.0).1) did.1 after at in
    let untold_then = all_as IsPlain (λ x. tells_device x ≡ false) (λ x plain. plain.1) c.parts c.each in
    let unstarted_then = all_as IsPlain (λ x. is_start x ≡ false) (λ x plain. plain.2) c.parts c.each in
    let part = beside_if (MayStop back) next then idle idle (tells_there device (Ok done)) [] [] (λ never. absurd (cc (never))) same_desks refl refl (λ stations. (told, refl, refl, still ∙ on, refl)) c.stations c.at in
    let later = came_on (MayStop back) next then q idle idle idle [] [] [] [] after (came_as IsPlain (MayStop back) then q idle idle [] [] after (plain_stops back) c) part in
    let first = before later.stations later.at in
    let came_all = came_on (MayStop back) p next q idle idle idle [] [] [] [] after later (came_as IsPlain (MayStop back) p next idle idle [] [] later.stations (plain_stops back) first) in
    let started : AllByRecursion (λ x. is_start x ≡ false) (first.parts ++ tells_there device (Ok done) ∷ c.parts) =
    all_append (λ x. is_start x ≡ false) first.parts (tells_there device (Ok done) ∷ c.parts) (all_as IsPlain (λ x. is_start x ≡ false) (λ x plain. plain.2) first.parts first.each) (refl, unstarted_then) in
    let one_act : filter_map act_told (first.parts ++ tells_there device (Ok done) ∷ c.parts) ≡ added device ∷ [] =
    filter_map-append act_told first.parts (tells_there device (Ok done) ∷ c.parts)
    ∙ (λ i. none_acted first.parts (all_as IsPlain (λ x. tells_device x ≡ false) (λ x plain. plain.1) first.parts first.each) i ++ added device ∷ none_acted c.parts untold_then i) in
    record {
      came = came_all;
      says = quiet_says back came_all.parts none;
      nothing = none.2;
      before = none_before false came_all.parts came_all.hears;
      first = started;
      follows = λ found. none_told p.desks first.parts (tells_there device (Ok done) ∷ c.parts) (all_as IsPlain (λ x. tells_device x ≡ false) (λ x plain. plain.1) first.parts first.each) (
        subst (λ (ds : List DeviceDeskState). FollowsAt ds device announced_by c.parts) (same_desks ∙ desks) (follow (found_of did.0 q (sym (ap hinders did.2) ∙ found))),
        all_untold p.desks c.parts untold_then,
      );
      opens = λ found. none_opens (served p idle came_all.stations) (served q idle after) came_all.parts came_all.goes started;
      acts = subst (λ (acts : List Act). TellsOnce (call.Add device) back acts) (sym one_act) (subst (λ (r : FrontReply). TellsOnce (call.Add device) r (added device ∷ [])) (sym did.2) (told_once device did.0 q));
    }
adds_by p next then device (Err error) on still desks before told back q did after at =
    whole false (TellsOnce (call.Add device) back) (subst (λ (r : FrontReply). TellsOnce (call.Add device) r []) (sym did.0) (inl refl)) p q back (joins_last p next q idle idle idle back [] [] before (joins_last next then q idle idle idle back [] []
    (beside next then idle idle (tells_there device (Err error)) [] [] (refl, refl, refl) (core_desks next then (next.unsent + 0) told.1) refl refl (λ stations. (told, refl, refl, still ∙ on, refl)))
    (quiet then q idle idle back [] (quiet_as back reply.Memory did.0 memory_quiet) (same then q idle did.1)))) after at

adds_if : (found : Bool) (p next : FrontState) (device : ℕ) → p.on ≡ true → next.on ≡ p.on → next.desks ≡ p.desks → Does p idle [] [] next idle → (back : FrontReply) (q : FrontState) → AddsIf found next device back q → Wholes false (TellsOnce (call.Add device) back) p back q
adds_if true p next device on still desks before back q did = adds_by p next did.1 device did.0 on still desks before did.2 back q did.3
adds_if false p next device on still desks before back q did =
    whole false (TellsOnce (call.Add device) back) (subst (λ (r : FrontReply). TellsOnce (call.Add device) r []) (sym did.0) (inl refl)) p q back (joins_last p next q idle idle idle back [] [] before (quiet next q idle idle back [] (quiet_as back reply.Memory did.0 memory_quiet) (same next q idle did.1)))

-- a device's data leaves the desks
refreshed_still : (p : FrontState) (device : ℕ) (found : Bool) (q : FrontState) → Refreshes p device found q → q.desks ≡ p.desks
refreshed_still p device true q did = ap (λ (s : FrontState). s.desks) did ∙ (refreshed_desks p device).0
refreshed_still p device false q did = ap (λ (s : FrontState). s.desks) did

adds_all : (p : FrontState) (device : ℕ) → p.on ≡ true → (back : FrontReply) (q : FrontState) → FrontAdds p device back q → Wholes false (TellsOnce (call.Add device) back) p back q
adds_all p device on back q did =
    let still = still_one p device did.0 did.1 did.2 in
    adds_if did.0 p did.1 device on still.0 (refreshed_still p device did.0 did.1 did.2) (refreshes_one p device did.0 did.1 did.2) back q did.3

-- where a call fits
wholes_on : (starts : Bool) (Acts : List Act → Type 0) (b : Bool) (other back : FrontReply) (p q : FrontState) (does : Type 0) → (back ≡ other → Acts []) → IsQuiet other → (b ≡ true → does → Wholes starts Acts p back q) → Where b other back p q does → Wholes starts Acts p back q
wholes_on starts Acts true other back p q does acted none on did = on refl did
wholes_on starts Acts false other back p q does acted none on did = whole starts Acts (acted did.0) p q back (not_done other back p q none did)

wholes_unless : (starts : Bool) (Acts : List Act → Type 0) (p : FrontState) (back : FrontReply) (q : FrontState) (does : Type 0) (fits : Bool) → (back ≡ reply.Refused → Acts []) → (back ≡ reply.Full → Acts []) → (fits ≡ true → does → Wholes starts Acts p back q)
    → Where fits reply.Refused back p q (Where (not (is_front_full p)) reply.Full back p q does) → Wholes starts Acts p back q
wholes_unless starts Acts p back q does fits refusing filling on did = wholes_on starts Acts fits reply.Refused back p q _ refusing refused_quiet (λ is d. wholes_on starts Acts (not (is_front_full p)) reply.Full back p q does filling full_quiet (λ less. on is) d) did

-- ---- the writer

abbrev message_of : Got → Marks
message_of (got.Message message) = Some message ∷ []
message_of got.Nothing = []
message_of got.Memory = None ∷ []

-- the messages, and why there are no more
abbrev marks_of : Messages → Rest → Marks
marks_of [] rest.More = []
marks_of [] rest.Nothing = []
marks_of [] rest.Memory = None ∷ []
marks_of (m ∷ messages) left = Some m ∷ marks_of messages left

written : (p : FrontState) (device : ℕ) (c : Completion) (message : List ℕ) → GivesWritten device c (got.Message message) → Does p (hands device c) (Some message ∷ []) [] p idle
written p device c message gives =
    beside p p (hands device c) idle (writes device c) (Some message ∷ []) [] (refl, refl, refl) refl (ap (λ (m : List ℕ). Some m ∷ []) (sym gives.0)) refl
    (λ stations. (refl, refl, subst (λ (m : List ℕ). SpellsCompletion device c m) gives.0 gives.1))

lost : (p : FrontState) (device : ℕ) (c : Completion) → Does p (hands device c) (None ∷ []) [] p idle
lost p device c = beside p p (hands device c) idle (unwritten device c) (None ∷ []) [] (refl, refl, refl) refl refl refl (λ stations. (refl, refl))

one_desk : (ds : List DeviceDeskState) (place : ℕ) (d e : DeviceDeskState) → slice_get ds place ≡ Some d → slice_get ds place ≡ Some e → d ≡ e
one_desk ds place d e one two = let both : Some d ≡ Some e = sym one ∙ two in cc (both)

collected : (p q : FrontState) (place : ℕ) (d : DeviceDeskState) (answer : DeskReply) (came : Got) → (((p.client).core).outbox ≡ []) → slice_get p.desks place ≡ Some d → DeskDoes p place desk.Collect answer q → GivesCollected d.id answer came → Does p idle (message_of came) [] q idle
collected p q place d (replied.Collected None) came none there did gives =
    subst (λ (g : Got). Does p idle (message_of g) [] q idle) (sym gives) (called IsPlain p q idle idle place desk.Collect (replied.Collected None) tt did (λ stations. refl) (λ stations. none) (λ items. (refl, refl, refl)))
collected p q place d (replied.Collected (Some c)) (got.Message message) none there did gives =
    joins p q q idle (hands (did.before).id c) idle [] (Some message ∷ []) [] [] (called IsPlain p q idle (hands (did.before).id c) place desk.Collect (replied.Collected (Some c)) tt did (λ stations. (refl, refl)) (λ stations. none) (λ items. (refl, refl, refl)))
    (written q (did.before).id c message (subst (λ (x : DeviceDeskState). GivesWritten x.id c (got.Message message)) (one_desk p.desks place d did.before there did.there) gives))
collected p q place d (replied.Collected (Some c)) got.Memory none there did gives =
    joins p q q idle (hands (did.before).id c) idle [] (None ∷ []) [] [] (called IsPlain p q idle (hands (did.before).id c) place desk.Collect (replied.Collected (Some c)) tt did (λ stations. (refl, refl)) (λ stations. none) (λ items. (refl, refl, refl))) (lost q (did.before).id c)
collected p q place d (replied.Collected (Some c)) got.Nothing none there did gives = absurd gives
collected p q place d (replied.Announced answer) came none there did gives = absurd gives
collected p q place d (replied.Put answer) came none there did gives = absurd gives
collected p q place d (replied.Unfit job) came none there did gives = absurd gives
collected p q place d (replied.Worked w) came none there did gives = absurd gives
collected p q place d (replied.Removed answer) came none there did gives = absurd gives
collected p q place d replied.Dropped came none there did gives = absurd gives
collected p q place d replied.Ended came none there did gives = absurd gives

collects : (there : Bool) (p : FrontState) (place : ℕ) (came : Got) (q : FrontState) → (((p.client).core).outbox ≡ []) → Collects there p place came q → Does p idle (message_of came) [] q idle
collects true p place came q none did = collected p q place did.1 did.0 came none did.2 did.3 did.4
collects false p place came q none did = subst (λ (g : Got). Does p idle (message_of g) [] q idle) (sym did.0) (same p q idle did.1)

core_sends : (p q : FrontState) (sent : Option Outgoing) → Sends p sent q → (w : Marks) → filter_map marked_by (sends p.channel sent ∷ []) ≡ w → Does p idle w [] q idle
core_sends p q sent did w is = beside p q idle idle (sends p.channel sent) w [] (refl, refl, refl) (ap (λ (s : FrontState). s.desks) did.1) is refl (λ stations. (refl, did, refl, refl))

-- where the core hands nothing out, it has nothing to write
none_left : (c new : ClientCoreState) → client.client_send c ≡ (new, None) → (new.core).outbox ≡ []
none_left c new is = by (c.core).outbox refl is
  where
    by : (os : List Outgoing) → (c.core).outbox ≡ os → (let r : ClientCoreState × Option Outgoing = let x = core.send_from c.core os in (record c { core = x.0 }, x.1) in r ≡ (new, None)) → (new.core).outbox ≡ []
    by [] empty e = ap (λ (r : ClientCoreState × Option Outgoing). ((r.0).core).outbox) (sym e) ∙ empty
    by (o ∷ os) empty e = let some : Some o ≡ None = ap (λ (r : ClientCoreState × Option Outgoing). r.1) e in absurd (cc (some))

gives : (p : FrontState) (place : ℕ) (came : Got) (q : FrontState) → GivesNext p place came q → Does p idle (message_of came) [] q idle
gives p place came q did = by did.0 did.2 did.3
  where
    by : (sent : Option Outgoing) → Sends p sent did.1 → GivesBy did.1 place sent came q → Does p idle (message_of came) [] q idle
    by (Some o) sends_it on =
        subst (λ (g : Got). Does p idle (message_of g) [] q idle) (sym on.0)
        (joins p did.1 q idle idle idle (Some o.message ∷ []) [] [] [] (core_sends p did.1 (Some o) sends_it (Some o.message ∷ []) refl) (same did.1 q idle on.1))
    by None sends_none on = joins p did.1 q idle idle idle [] (message_of came) [] [] (core_sends p did.1 None sends_none [] refl) (collects (nat_lt place (length (did.1).desks)) did.1 place came q (none_left p.client (did.1).client (sends_none.0)) on)

-- one message, if one came, and then others
filled : (p next q : FrontState) (place : ℕ) (came : Got) (messages : Messages) (left : Rest) (others : Messages → Type 0) → ((later : Messages) → others later → Does next idle (marks_of later left) [] q idle)
    → GivesNext p place came next → FillsBy came next messages left q others → Does p idle (marks_of messages left) [] q idle
filled p next q place (got.Message message) messages left others on gave follows =
    subst (λ (ms : Messages). Does p idle (marks_of ms left) [] q idle) (sym follows.1)
    (joins p next q idle idle idle (Some message ∷ []) (marks_of follows.0 left) [] [] (gives p place (got.Message message) next gave) (on follows.0 follows.2))
filled p next q place got.Nothing messages left others on gave follows =
    subst (λ (ms : Marks). Does p idle ms [] q idle) (sym (λ i. marks_of (follows.0 i) (follows.1 i))) (joins p next q idle idle idle [] [] [] [] (gives p place got.Nothing next gave) (same next q idle follows.2))
filled p next q place got.Memory messages left others on gave follows =
    subst (λ (ms : Marks). Does p idle ms [] q idle) (sym (λ i. marks_of (follows.0 i) (follows.1 i))) (joins p next q idle idle idle (None ∷ []) [] [] [] (gives p place got.Memory next gave) (same next q idle follows.2))

fills : (most : ℕ) (p : FrontState) (place : ℕ) (messages : Messages) (left : Rest) (q : FrontState) → Fills most p place messages left q → Does p idle (marks_of messages left) [] q idle
fills zero p place messages left q did = subst (λ (ms : Marks). Does p idle ms [] q idle) (sym (λ i. marks_of (did.0 i) (did.1 i))) (same p q idle did.2)
fills (suc most) p place messages left q did =
    filled p did.1 q place did.0 messages left (λ later. Fills most did.1 place later left q) (λ later. fills most did.1 place later left q) did.2 did.3

-- what was handed out, by what is marked
one_handed : (x : FrontPart) (ps : List FrontPart) → filter_map handed_by ps ≡ filter_map (λ (o : Option (List ℕ)). o) (filter_map marked_by ps) → filter_map handed_by (x ∷ ps) ≡ filter_map (λ (o : Option (List ℕ)). o) (filter_map marked_by (x ∷ ps))
one_handed (sends channel (Some o)) ps later = ap (λ (ms : Messages). o.message ∷ ms) later
one_handed (sends channel None) ps later = later
one_handed (writes device c) ps later = ap (λ (ms : Messages). completion_message device c ∷ ms) later
one_handed (unwritten device c) ps later = later
one_handed (hears channel message answer) ps later = later
one_handed tries ps later = later
one_handed keeps ps later = later
one_handed forgets ps later = later
one_handed misplaces ps later = later
one_handed (directs st answer) ps later = later
one_handed (calls place id does back items) ps later = later
one_handed (tells_gone device answer) ps later = later
one_handed (tells_there device answer) ps later = later
one_handed (learns n answer) ps later = later
one_handed (refreshes device) ps later = later
one_handed (begins channel) ps later = later
one_handed (ends over told) ps later = later

handed_as : (ps : List FrontPart) → filter_map handed_by ps ≡ filter_map (λ (o : Option (List ℕ)). o) (filter_map marked_by ps)
handed_as [] = refl
handed_as (x ∷ ps) = one_handed x ps (handed_as ps)

-- a part that is lost is marked
abbrev HasNone : Marks → Type 0
HasNone [] = ⊥
HasNone (None ∷ marks) = Unit {0}
HasNone (Some m ∷ marks) = HasNone marks

one_lost : (x : FrontPart) (ps : List FrontPart) → (Among (λ p. is_lost p ≡ true) ps → HasNone (filter_map marked_by ps)) → Among (λ p. is_lost p ≡ true) (x ∷ ps) → HasNone (filter_map marked_by (x ∷ ps))
one_lost (unwritten device c) ps later some = tt
one_lost (sends channel (Some o)) ps later (inl here) = absurd (cc (here))
one_lost (sends channel (Some o)) ps later (inr there) = later there
one_lost (sends channel None) ps later (inl here) = absurd (cc (here))
one_lost (sends channel None) ps later (inr there) = later there
one_lost (writes device c) ps later (inl here) = absurd (cc (here))
one_lost (writes device c) ps later (inr there) = later there
one_lost (hears channel message answer) ps later (inl here) = absurd (cc (here))
one_lost (hears channel message answer) ps later (inr there) = later there
one_lost tries ps later (inl here) = absurd (cc (here))
one_lost tries ps later (inr there) = later there
one_lost keeps ps later (inl here) = absurd (cc (here))
one_lost keeps ps later (inr there) = later there
one_lost forgets ps later (inl here) = absurd (cc (here))
one_lost forgets ps later (inr there) = later there
one_lost misplaces ps later (inl here) = absurd (cc (here))
one_lost misplaces ps later (inr there) = later there
one_lost (directs st answer) ps later (inl here) = absurd (cc (here))
one_lost (directs st answer) ps later (inr there) = later there
one_lost (calls place id does back items) ps later (inl here) = absurd (cc (here))
one_lost (calls place id does back items) ps later (inr there) = later there
one_lost (tells_gone device answer) ps later (inl here) = absurd (cc (here))
one_lost (tells_gone device answer) ps later (inr there) = later there
one_lost (tells_there device answer) ps later (inl here) = absurd (cc (here))
one_lost (tells_there device answer) ps later (inr there) = later there
one_lost (learns n answer) ps later (inl here) = absurd (cc (here))
one_lost (learns n answer) ps later (inr there) = later there
one_lost (refreshes device) ps later (inl here) = absurd (cc (here))
one_lost (refreshes device) ps later (inr there) = later there
one_lost (begins channel) ps later (inl here) = absurd (cc (here))
one_lost (begins channel) ps later (inr there) = later there
one_lost (ends over told) ps later (inl here) = absurd (cc (here))
one_lost (ends over told) ps later (inr there) = later there

lost_marked : (ps : List FrontPart) → Among (λ p. is_lost p ≡ true) ps → HasNone (filter_map marked_by ps)
lost_marked [] none = none
lost_marked (x ∷ ps) some = one_lost x ps (lost_marked ps) some

handed_marks : (messages : Messages) (left : Rest) → filter_map (λ (o : Option (List ℕ)). o) (marks_of messages left) ≡ messages
handed_marks [] rest.More = refl
handed_marks [] rest.Nothing = refl
handed_marks [] rest.Memory = refl
handed_marks (m ∷ messages) left = ap (λ (ms : Messages). m ∷ ms) (handed_marks messages left)

ran_out : (messages : Messages) (left : Rest) → HasNone (marks_of messages left) → left ≡ rest.Memory
ran_out [] rest.More none = absurd none
ran_out [] rest.Nothing none = absurd none
ran_out [] rest.Memory some = refl
ran_out (m ∷ messages) left some = ran_out messages left some

-- ---- the calls

-- A call with the stations after it.
pub record Called (p : FrontState) (does : FrontCall) (back : FrontReply) (q : FrontState) (after : List Of) : Type 0 where
  pub stations : List Of
  pub at : AreStationed p.desks stations
  pub parts : List FrontPart
  pub goes : CallGoes (served p idle stations) does back parts (served q idle after)

-- one that stops the channel is among these
among_stops : (back : FrontReply) (ps : List FrontPart) → AllByRecursion (MayStop back) ps → Among (λ x. stops x ≡ true) ps → Hinders back
among_stops back [] all none = absurd none
among_stops back (x ∷ ps) all (inl here) = all.0 here
among_stops back (x ∷ ps) all (inr later) = among_stops back ps all.1 later

-- a call by its parts
called_by : (p q : FrontState) (does : FrontCall) (back : FrontReply) (h : Messages) (after : List Of) (w : Whole (may_start does back) (TellsOnce does back) p back h q after) → HearsAs does back (filter_map heard_in (w.came).parts) → ((channel : ℕ) → does ≡ call.Begin channel → HasBegun channel back (w.came).parts)
    → Called p does back q after
called_by p q does back h after w heard begun_there =
    let c = w.came in
    record {
      stations = c.stations;
      at = c.at;
      parts = c.parts;
      goes = record {
        before = refl;
        goes = c.goes;
        after = refl;
        handed = handed_as c.parts ∙ ap (λ (ms : Marks). filter_map (λ (o : Option (List ℕ)). o) ms) c.writes ∙ sym w.nothing;
        heard = heard;
        tells = record {
          unfit = (w.says).unfit;
          duplicate = (w.says).duplicate;
          lost = λ some. absurd (subst HasNone c.writes (lost_marked c.parts some));
          stopped = among_stops back c.parts c.each;
          before = w.before;
          first = w.first;
          begun = λ channel place full is done. begun_there channel is place full done;
          acts = w.acts;
        };
        follows = w.follows;
        opens = w.opens;
      };
    }

-- by this call no channel begins
abbrev IsOther : FrontCall → Type 0
IsOther does = (channel : ℕ) → does ≡ call.Begin channel → ⊥

-- the same without a message
silent : (p : FrontState) (does : FrontCall) (back : FrontReply) (q : FrontState) → IsOther does → ((h : Messages) → h ≡ [] → HearsAs does back h) → Wholes (may_start does back) (TellsOnce does back) p back q → (after : List Of) → AreStationed q.desks after → Called p does back q after
silent p does back q other none made after at =
    let w = made after at in
    called_by p q does back [] after w (none (filter_map heard_in (w.came).parts) (w.came).hears) (λ channel is. absurd (other channel is))

heard_one : (message : List ℕ) (back : FrontReply) (h : Messages) → (back ≡ reply.Refused → ⊥) → (back ≡ reply.Full → ⊥) → h ≡ message ∷ [] → IsHeardBy message back h
heard_one message (reply.Done at full) h a b is = is
heard_one message (reply.Stands ready asked) h a b is = is
heard_one message reply.Kept h a b is = is
heard_one message (reply.Wrong cause) h a b is = is
heard_one message (reply.Duplicate key) h a b is = is
heard_one message reply.Unfit h a b is = is
heard_one message reply.Memory h a b is = inr is
heard_one message reply.Full h a b is = absurd (b refl)
heard_one message reply.Refused h a b is = absurd (a refl)
heard_one message (reply.Messages filled left) h a b is = is

-- what is heard is never said not to fit
abbrev IsSaid : FrontReply → Type 0
IsSaid back = (back ≡ reply.Refused → ⊥) × (back ≡ reply.Full → ⊥)

said_as : (back said : FrontReply) → back ≡ said → IsSaid said → IsSaid back
said_as back said is none = subst IsSaid (sym is) none

done_said : (place : Option ℕ) (s : FrontState) → IsSaid (done_at place s)
done_said place s = (λ is. cc (is), λ is. cc (is))

memory_said : IsSaid reply.Memory
memory_said = (λ is. cc (is), λ is. cc (is))

if_said : (answer : Result (Unit {0}) AllocError) (s : FrontState) → IsSaid (done_if answer s)
if_said (Ok done) s = done_said None s
if_said (Err error) s = memory_said

refusal_said : (p : FrontState) (device : ℕ) (job : Job) (cause : PutWhy) (back : FrontReply) (q : FrontState) → RefusedPut p device job cause back q → IsSaid back
refusal_said p device job why.Gone back q did = said_as back _ did.2 (if_said did.0 q)
refusal_said p device job (why.Duplicate key) back q did = said_as back (reply.Duplicate key) did.0 (λ is. cc (is), λ is. cc (is))
refusal_said p device job (why.Full held) back q did = said_as back reply.Kept did.0 (λ is. cc (is), λ is. cc (is))
refusal_said p device job (why.Worn count) back q did = said_as back _ did.2 (if_said did.0 q)
refusal_said p device job why.Memory back q did = said_as back reply.Memory did.0 memory_said

put_said : (p : FrontState) (device place : ℕ) (answer : DeskReply) (back : FrontReply) (q : FrontState) → PutBy p device place answer back q → IsSaid back
put_said p device place (replied.Put (Ok done)) back q did = said_as back _ did.0 (done_said (Some place) p)
put_said p device place (replied.Put (Err refusal)) back q did = refusal_said p device refusal.job refusal.why back q did
put_said p device place (replied.Unfit job) back q did = said_as back reply.Unfit did.0 (λ is. cc (is), λ is. cc (is))
put_said p device place (replied.Announced answer) back q did = absurd did
put_said p device place (replied.Worked w) back q did = absurd did
put_said p device place (replied.Collected answer) back q did = absurd did
put_said p device place (replied.Removed answer) back q did = absurd did
put_said p device place replied.Dropped back q did = absurd did
put_said p device place replied.Ended back q did = absurd did

puts_said : (p : FrontState) (device : ℕ) (job : Job) (back : FrontReply) (q : FrontState) → Puts p device job back q → IsSaid back
puts_said p device job back q did = by (may_be_asked ((p.client).core).shake) did
  where
    at : (place : Option ℕ) → PutsIf p device job place back q → IsSaid back
    at None did = said_as back _ did.2 (if_said did.0 q)
    at (Some place) did = put_said did.1 device place did.0 back q did.3

    by : (b : Bool) → Where b reply.Unfit back p q (PutsIf p device job (desk_place p.desks device) back q) → IsSaid back
    by true did = at (desk_place p.desks device) did
    by false did = said_as back reply.Unfit did.0 (λ is. cc (is), λ is. cc (is))

opening_said : (opening : Bool) (p : FrontState) (back : FrontReply) (q : FrontState) → OpeningEnds opening p back q → IsSaid back
opening_said true p back q did = said_as back (done_where did.0 q) did.2 (by did.0)
  where
    by : (found : Bool) → IsSaid (done_where found q)
    by true = done_said None q
    by false = memory_said
opening_said false p back q did = said_as back _ did.0 (done_said None p)

follows_said : (ready : Bool) (p : FrontState) (answer : Result Heard EndFault) (back : FrontReply) (q : FrontState) → FollowsFrom ready p answer back q → IsSaid back
follows_said ready p (Err fault.Memory) back q did = said_as back reply.Memory did.0 memory_said
follows_said ready p (Err (fault.Order state packet)) back q did = said_as back _ did.0 (λ is. cc (is), λ is. cc (is))
follows_said ready p (Err (fault.Grammar bad)) back q did = said_as back _ did.0 (λ is. cc (is), λ is. cc (is))
follows_said ready p (Ok Nothing) back q did = opening_said (not ready && is_front_ready p) p back q did
follows_said ready p (Ok (Ask device job)) back q did = puts_said p device job back q did
follows_said ready p (Ok (Print n)) back q did = said_as back (done_if did.0 q) did.3 (if_said did.0 q)

-- what is heard is the message, unless no memory was found for it
heard_as : (channel : ℕ) (message : List ℕ) (answer : Result Heard EndFault) (back : FrontReply) (h : Messages) (next q : FrontState) (ready : Bool) → FollowsFrom ready next answer back q → (back ≡ reply.Refused → ⊥) → (back ≡ reply.Full → ⊥)
    → h ≡ filter_map heard_in (hears channel message answer ∷ []) ++ [] → IsHeardBy message back h
heard_as channel message (Err fault.Memory) back h next q ready did a b is = subst (λ (r : FrontReply). IsHeardBy message r h) (sym did.0) (inl is)
heard_as channel message (Err (fault.Order state packet)) back h next q ready did a b is = heard_one message back h a b is
heard_as channel message (Err (fault.Grammar bad)) back h next q ready did a b is = heard_one message back h a b is
heard_as channel message (Ok x) back h next q ready did a b is = heard_one message back h a b is

-- what is said of a message or a job that is tried again begins something
said_hears : (message : List ℕ) (back : FrontReply) → IsSaid back → may_start (call.Hear message) back ≡ true
said_hears message reply.Refused said = absurd (said.0 refl)
said_hears message reply.Full said = absurd (said.1 refl)
said_hears message back said = refl

said_retries : (back : FrontReply) → IsSaid back → may_start call.Retry back ≡ true
said_retries reply.Refused said = absurd (said.0 refl)
said_retries reply.Full said = absurd (said.1 refl)
said_retries back said = refl

retried_said : (p : FrontState) (kept : Option Kept) (back : FrontReply) (q : FrontState) → FrontRetries p kept back q → IsSaid back
retried_said p None back q did = said_as back _ did.0 (done_said None p)
retried_said p (Some k) back q did = puts_said (record p { kept = None }) k.device k.job back q did

hears_other : (message : List ℕ) → IsOther (call.Hear message)
hears_other message channel is = cc (is)

-- a message is heard, where one may be
unheard : (message : List ℕ) (p : FrontState) (other back : FrontReply) (q : FrontState) → IsQuiet other → IsHeardBy message other [] → (back ≡ other) × (q ≡ p) → (after : List Of) → AreStationed q.desks after → Called p (call.Hear message) back q after
unheard message p other back q none says did after at =
    let w = whole (may_start (call.Hear message) back) (TellsOnce (call.Hear message) back) refl p q back (not_done other back p q none did) after at in
    called_by p q (call.Hear message) back [] after w (subst (IsHeardBy message back) (sym (w.came).hears) (subst (λ (r : FrontReply). IsHeardBy message r []) (sym did.0) says)) (λ channel is. absurd (hears_other message channel is))

hears_call : (p : FrontState) (message : List ℕ) (back : FrontReply) (q : FrontState) → FrontStep p (call.Hear message) back q → (after : List Of) → AreStationed q.desks after → Called p (call.Hear message) back q after
hears_call p message back q did after at = by (may_hear p) refl did
  where
    here : may_hear p ≡ true → FrontHears p message back q → Called p (call.Hear message) back q after
    here may does =
        let said = follows_said (is_front_ready p) does.1 does.0 back q does.3 in
        let w = subst (λ (b : Bool). Whole b (TellsOnce (call.Hear message) back) p back (filter_map heard_in (hears p.channel message does.0 ∷ []) ++ []) q after) (sym (said_hears message back said)) (hears_all p message may back q does after at) in
        called_by p q (call.Hear message) back (filter_map heard_in (hears p.channel message does.0 ∷ []) ++ []) after w (heard_as p.channel message does.0 back (filter_map heard_in (w.came).parts) does.1 q (is_front_ready p) does.3 said.0 said.1 (w.came).hears)
        (λ channel is. absurd (hears_other message channel is))

    less : (b : Bool) → may_hear p ≡ true → Where b reply.Full back p q (FrontHears p message back q) → Called p (call.Hear message) back q after
    less true may does = here may does
    less false may does = unheard message p reply.Full back q full_quiet refl does after at

    by : (b : Bool) → may_hear p ≡ b → Where b reply.Refused back p q (Where (not (is_front_full p)) reply.Full back p q (FrontHears p message back q)) → Called p (call.Hear message) back q after
    by true may does = less (not (is_front_full p)) may does
    by false may does = unheard message p reply.Refused back q refused_quiet refl does after at

-- messages are handed out
hands_call : (channel : ℕ) (p : FrontState) (place : ℕ) (room : MessageRoom) (back : FrontReply) (q : FrontState) → Hands p place room back q → (after : List Of) → AreStationed q.desks after → Called p (call.Next channel place room) back q after
hands_call channel p place room (reply.Messages filled left) q did after at =
    let c = fills room.places p place filled.messages left q did.1 after at in
    let back : FrontReply = reply.Messages filled left in
    let started = all_as IsPlain (λ x. is_start x ≡ false) (λ x plain. plain.2) c.parts c.each in
    record {
      stations = c.stations;
      at = c.at;
      parts = c.parts;
      goes = record {
        before = refl;
        goes = c.goes;
        after = refl;
        handed = handed_as c.parts ∙ ap (λ (ms : Marks). filter_map (λ (o : Option (List ℕ)). o) ms) c.writes ∙ handed_marks filled.messages left;
        heard = c.hears;
        tells = record {
          unfit = λ is. absurd (cc (is));
          duplicate = λ key is. absurd (cc (is));
          lost = λ some. subst (λ (l : Rest). RanOut (reply.Messages filled l)) (sym (ran_out filled.messages left (subst HasNone c.writes (lost_marked c.parts some)))) tt;
          stopped = among_stops back c.parts (all_as IsPlain (MayStop back) (plain_stops back) c.parts c.each);
          before = none_before false c.parts c.hears;
          first = started;
          begun = λ begun_channel at_place full is. absurd (cc (is));
          acts = none_acted c.parts (all_as IsPlain (λ x. tells_device x ≡ false) (λ x plain. plain.1) c.parts c.each);
        };
        follows = λ found. all_untold p.desks c.parts (all_as IsPlain (λ x. tells_device x ≡ false) (λ x plain. plain.1) c.parts c.each);
        opens = λ found. none_opens (served p idle c.stations) (served q idle after) c.parts c.goes started;
      };
    }
hands_call channel p place room (reply.Done at full) q did after stationed = absurd did
hands_call channel p place room (reply.Stands ready asked) q did after stationed = absurd did
hands_call channel p place room reply.Kept q did after stationed = absurd did
hands_call channel p place room (reply.Wrong cause) q did after stationed = absurd did
hands_call channel p place room (reply.Duplicate key) q did after stationed = absurd did
hands_call channel p place room reply.Unfit q did after stationed = absurd did
hands_call channel p place room reply.Memory q did after stationed = absurd did
hands_call channel p place room reply.Full q did after stationed = absurd did
hands_call channel p place room reply.Refused q did after stationed = absurd did

-- none are handed out where another channel began last
next_call : (same_channel : Bool) (channel : ℕ) (p : FrontState) (place : ℕ) (room : MessageRoom) (back : FrontReply) (q : FrontState) → Where same_channel (none_for room) back p q (Hands p place room back q) → (after : List Of) → AreStationed q.desks after
    → Called p (call.Next channel place room) back q after
next_call true channel p place room back q did after at = hands_call channel p place room back q did after at
next_call false channel p place room back q did after at =
    silent p (call.Next channel place room) back q (λ begun_channel is. cc (is)) (λ h is. is) (whole false (TellsOnce (call.Next channel place room) back) refl p q back (not_done (none_for room) back p q (λ is. cc (is), λ key is. cc (is), refl) did)) after at

pub call_goes : (p : FrontState) (does : FrontCall) (back : FrontReply) (q : FrontState) → FrontStep p does back q → (after : List Of) → AreStationed q.desks after → Called p does back q after
call_goes p (call.Begin channel) back q did after at =
    let (c, says, nothing, begun_there) = begins_where p channel back q (may_begin p channel) refl did after at in
    let w = whole_of false (TellsOnce (call.Begin channel) back) refl p q back after c says nothing in
    called_by p q (call.Begin channel) back [] after w c.hears (λ other is. let equal : channel ≡ other = cc (is) in subst (λ (n : ℕ). HasBegun n back c.parts) equal begun_there)
call_goes p (call.Hear message) back q did after at = hears_call p message back q did after at
call_goes p call.Retry back q did after at = silent p call.Retry back q (λ begun_channel is. cc (is)) (λ h is. is) (wholes_unless (may_start call.Retry back) (TellsOnce call.Retry back) p back q _ p.on (λ is. refl) (λ is. refl) (λ on does. λ then at_then. subst (λ (b : Bool). Whole b (TellsOnce call.Retry back) p back [] q then) (sym (said_retries back (retried_said p p.kept back q does))) (retries p p.kept refl on back q does then at_then)) did) after at
call_goes p (call.Next channel place room) back q did after at = next_call (channel == p.channel) channel p place room back q did after at
call_goes p (call.Remove device) back q did after at =
    silent p (call.Remove device) back q (λ begun_channel is. cc (is)) (λ h is. is) (wholes_unless false (TellsOnce (call.Remove device) back) p back q _ (may_remove p device) (λ is. subst (λ (r : FrontReply). TellsOnce (call.Remove device) r []) (sym is) refl) (λ is. subst (λ (r : FrontReply). TellsOnce (call.Remove device) r []) (sym is) refl) (λ may does. removes_all p device (on_of p.on (is_told_there p device) may) back q does) did) after at
call_goes p (call.Add device) back q did after at =
    silent p (call.Add device) back q (λ begun_channel is. cc (is)) (λ h is. is) (wholes_unless false (TellsOnce (call.Add device) back) p back q _ (may_add p device) (λ is. subst (λ (r : FrontReply). TellsOnce (call.Add device) r []) (sym is) refl) (λ is. subst (λ (r : FrontReply). TellsOnce (call.Add device) r []) (sym is) refl) (λ may does. adds_all p device (on_of p.on (is_front_ready p && is_gone p.client device) may) back q does) did) after at
call_goes p call.Look back q did after at =
    silent p call.Look back q (λ begun_channel is. cc (is)) (λ h is. is) (whole false (TellsOnce call.Look back) refl p q back (quiet p q idle idle back [] (quiet_as back _ did.0 (λ is. cc (is), λ key is. cc (is), refl)) (same p q idle did.1))) after at
call_goes p call.EndChannel back q did after at =
    silent p call.EndChannel back q (λ begun_channel is. cc (is)) (λ h is. is)
    (wholes_on false (TellsOnce call.EndChannel back) p.on reply.Refused back p q _ (λ is. refl) refused_quiet (λ on (does : (back ≡ done_at None q) × ChannelEnds p q). whole false (TellsOnce call.EndChannel back) refl p q back (quiet p q idle idle back [] (quiet_as back _ does.0 (done_quiet None q)) (channel_ends p q does.1))) did) after at
call_goes p call.EndSession back q did after at =
    silent p call.EndSession back q (λ begun_channel is. cc (is)) (λ h is. is)
    (wholes_on false (TellsOnce call.EndSession back) (not p.over) reply.Refused back p q _ (λ is. refl) refused_quiet (λ on (does : (back ≡ done_at None q) × SessionEnds p q). whole false (TellsOnce call.EndSession back) refl p q back (quiet p q idle idle back [] (quiet_as back _ does.0 (done_quiet None q)) (session_ends p q does.1))) did) after at

-- A history with the stations after it.
pub record History (p : FrontState) (entries : List (Entry FrontCall FrontReply)) (q : FrontState) (after : List Of) : Type 0 where
  pub stations : List Of
  pub at : AreStationed p.desks stations
  pub parts : List (List FrontPart)
  pub goes : HistoryGoes (served p idle stations) entries parts (served q idle after)

pub history_goes : (p : FrontState) (entries : List (Entry FrontCall FrontReply)) (q : FrontState) → Leads FrontStep p entries q → (after : List Of) → AreStationed q.desks after → History p entries q after
history_goes p [] q is after at =
    record { stations = after; at = subst (λ (s : FrontState). AreStationed s.desks after) (sym is) at; parts = []; goes = ap (λ (s : FrontState). served s idle after) (sym is) }
history_goes p (e ∷ entries) q leads after at =
    let later = history_goes leads.0 entries q leads.2 after at in
    let one = call_goes p e.call e.reply leads.0 leads.1 later.stations later.at in
    record { stations = one.stations; at = one.at; parts = one.parts ∷ later.parts; goes = (served leads.0 idle later.stations, one.goes, later.goes) }
