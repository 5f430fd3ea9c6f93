-- Each key comes to its desk after the read of its request, which names the device.
use Rattle.std.proofs.Common.{◌≡◌, ◌⊎◌, ◌∙◌, refl, sym, ap, subst, inl, inr, ℕ, Bool, true, false, List, [], ◌∷◌, ◌++◌, map, reverse, Option, Some, None, append_assoc, append-nil}
use Rattle.std.specs.Prelude.{Ok, Err}
use Rattle.std.specs.List.{AllByRecursion}
use Rattle.rd_base.specs.declared.journal.Item.{Item}
use Rattle.rd_base.specs.declared.journal.Item.TheVariants.{Came, Cancelled, Cut, Ran, Sent}
use Rattle.rd_base.specs.declared.journal.Key.{Key}
use Rattle.rd_desk.specs.Desk.{told_by}
use Rattle.rd_desk.specs.declared.calls.DeskCall.{DeskCall}
use Rattle.rd_desk.specs.declared.calls.DeskCall.TheVariants as desk
use Rattle.rd_desk.specs.declared.calls.DeskReply.{DeskReply}
use Rattle.rd_desk.specs.declared.calls.DeskReply.TheVariants as replied
use Rattle.rd_front.specs.Front.{end_call}
use Rattle.rd_front.specs.State.{DeviceDeskState, SessionDeskStep, SessionStation}
use Rattle.rd_front.specs.declared.calls.FrontCall.{FrontCall}
use Rattle.rd_front.specs.declared.calls.FrontReply.{FrontReply}
use Rattle.rd_hello.specs.declared.end_fault.EndFault.TheVariants as fault
use Rattle.rd_station.specs.Station.{StationCall, applies, takes}
use Rattle.rd_station.proofs.Members.{has_append}
use Rattle.rd_turn.specs.declared.object.Entry.{Entry}
use Rattle.rd_deeds.specs.Talk.{Deed, EachAfter, Has, request_at, stores}
use Rattle.rd_world.proofs.KeysLemmas.{Comes}
use Rattle.rd_journals.specs.Reads.{ComesRead, IsRead}
use Rattle.rd_journals.proofs.HeldLemmas.{stored_unread, turned_has}
use Rattle.rd_served.specs.Deeds.{deeds_after, deeds_of, deeds_of_calls, sent_by, stored, stored_each}
use Rattle.rd_served.specs.Histories.{HistoryGoes}
use Rattle.rd_served.specs.Parts.{CallsAt, EndsEach, FrontPart, PartGoes, PartsGo, begins, calls, directs, ends, forgets, keeps, learns, misplaces, refreshes, sends, tells_gone, tells_there, tries, unwritten, writes}
use Rattle.rd_served.specs.Parts as part
use Rattle.rd_served.specs.Served.{CallsDesk, IsWork, Served}
use Rattle.rd_served.proofs.CauseLemmas.{IsTold, job_told, part_told, parts_told}
use Rattle.rd_served.proofs.KeyLemmas.{IsKeyed, part_keyed, parts_keyed}
use Rattle.rd_served.proofs.StoreLemmas.{come_by, step_stores}
use Rattle.rd_served.proofs.WorkLemmas.{Steps}
use Rattle.rd_served_devices.specs.ServedDevices.{served_cuts, served_parked, served_runs}

abbrev Of : Type 0
Of = SessionStation

-- ---- what comes by calls of a station

abbrev pub ComesBy : List StationCall → Key → Type 0
ComesBy [] key = ⊥
ComesBy (call ∷ others) key = Comes call key ⊎ ComesBy others key

-- what others store: a key comes only by one of them
record StoresBy (others : List StationCall) (old new : Of) : Type 0 where
  more : List Item
  longer : new.journal ≡ old.journal ++ more
  comes : (key : Key) → Has (Came key) more → ComesBy others key

steps_store : (others : List StationCall) (old new : Of) → Steps old others new → StoresBy others old new
steps_store [] old new is = record { more = []; longer = ap (λ (s : Of). s.journal) is ∙ sym (append-nil old.journal); comes = λ key none. none }
steps_store (call ∷ others) old new steps =
    let first = step_stores served_runs served_parked served_cuts old steps.0 call steps.1 in
    let later = steps_store others steps.0 new steps.2 in
    record {
      more = first.more ++ later.more;
      longer = later.longer ∙ ap (λ (j : List Item). j ++ later.more) first.longer ∙ append_assoc old.journal first.more later.more;
      comes = λ key has. elim (has_append (Came key) first.more later.more has) [ inl one ↦ inl (come_by call first.more first.each key one) | inr other ↦ inr (later.comes key other) ];
    }

work_none : (others : List StationCall) → AllByRecursion IsWork others → (key : Key) → ComesBy others key → ⊥
work_none [] work key none = none
work_none (takes answer ∷ others) work key (inl none) = none
work_none (applies planned moment answer ∷ others) work key (inl none) = none
work_none (call ∷ others) work key (inl one) = other call work.0 one
  where
    other : (c : StationCall) → IsWork c → Comes c key → ⊥
    other (takes answer) is none = none
    other (applies planned moment answer) is none = none
    other c is one = absurd is
work_none (call ∷ others) work key (inr later) = work_none others work.1 key later

pub cancel : (xs ys zs : List Item) → xs ++ ys ≡ xs ++ zs → ys ≡ zs
cancel [] ys zs is = is
cancel (x ∷ xs) ys zs is = cancel xs ys zs (let e : xs ++ ys ≡ xs ++ zs = cc (is) in e)

-- a key that came since the call before came by this one
pub called_comes : (d e : DeviceDeskState) (first last : Of) (does : DeskCall) (back : DeskReply) (items : List Item) → CallsDesk d e first does back items last → (key : Key) → Has (Came key) items → ComesBy (told_by does back) key
called_comes d e first last does back items called key has =
    let work = steps_store called.works.calls first called.middle called.works.steps in
    let own = steps_store (told_by does back) called.middle last (called.step).0 in
    let both : last.journal ≡ first.journal ++ work.more ++ own.more = own.longer ∙ ap (λ (j : List Item). j ++ own.more) work.longer in
    let same : items ≡ work.more ++ own.more = cancel first.journal items (work.more ++ own.more) (sym called.stored ∙ both ∙ append_assoc first.journal work.more own.more) in
    elim (has_append (Came key) work.more own.more (subst (Has (Came key)) same has)) [
      | inl one ↦ absurd (work_none called.works.calls called.works.work key (work.comes key one))
      | inr other ↦ own.comes key other
    ]

-- ---- deeds

stored_reads : (device : ℕ) (items : List Item) (deeds : List Deed) → ((key : Key) → Has (Came key) items → IsRead device key deeds) → EachAfter ComesRead deeds → EachAfter ComesRead (map (stores device) items ++ deeds)
stored_reads device [] deeds came each = each
stored_reads device (x ∷ items) deeds came each = (one x (λ key same. came key (inl same)), stored_reads device items deeds (λ key has. came key (inr has)) each)
  where
    one : (y : Item) → ((key : Key) → Came key ≡ y → IsRead device key deeds) → ComesRead (map (stores device) items ++ deeds) (stores device y)
    one (Came key) is = let (r, read, named) = is key refl in (r, ap (λ (ms : List (List ℕ)). request_at ms key.index) (stored_unread device key.channel items deeds) ∙ read, named)
    one (Ran key moment starved parked) is = tt
    one (Cancelled key) is = tt
    one (Sent key) is = tt
    one (Cut cause) is = tt

-- a job that comes was read
pub calls_read : (p q : Served) (place id : ℕ) (does : DeskCall) (back : DeskReply) (items : List Item) (deeds : List Deed) → IsKeyed p → IsTold p deeds → (at : CallsAt p place id does back items q) → (key : Key) → ComesBy (told_by does back) key → IsRead id key deeds
calls_read p q place id (desk.Put job) (replied.Put (Ok done)) items deeds keyed told at key (inl same) =
    let own = job_told p q place id (desk.Put job) (replied.Put (Ok done)) items deeds keyed told at job (at.asking_is).0 in
    subst (λ (k : Key). IsRead id k deeds) (sym same) (own.request, own.read, own.device)
calls_read p q place id (desk.Put job) (replied.Put (Ok done)) items deeds keyed told at key (inr none) = absurd none
calls_read p q place id (desk.Put job) (replied.Put (Err refusal)) items deeds keyed told at key (inl none) = absurd none
calls_read p q place id (desk.Put job) (replied.Put (Err refusal)) items deeds keyed told at key (inr none) = absurd none
calls_read p q place id (desk.Put job) (replied.Unfit back) items deeds keyed told at key (inl none) = absurd none
calls_read p q place id (desk.Put job) (replied.Unfit back) items deeds keyed told at key (inr none) = absurd none
calls_read p q place id (desk.Put job) (replied.Announced answer) items deeds keyed told at key comes = absurd (at.asking_is).1
calls_read p q place id (desk.Put job) (replied.Worked w) items deeds keyed told at key comes = absurd (at.asking_is).1
calls_read p q place id (desk.Put job) (replied.Collected answer) items deeds keyed told at key comes = absurd (at.asking_is).1
calls_read p q place id (desk.Put job) (replied.Removed answer) items deeds keyed told at key comes = absurd (at.asking_is).1
calls_read p q place id (desk.Put job) replied.Dropped items deeds keyed told at key comes = absurd (at.asking_is).1
calls_read p q place id (desk.Put job) replied.Ended items deeds keyed told at key comes = absurd (at.asking_is).1
calls_read p q place id desk.Announce (replied.Announced answer) items deeds keyed told at key (inl none) = absurd none
calls_read p q place id desk.Announce (replied.Announced answer) items deeds keyed told at key (inr none) = absurd none
calls_read p q place id desk.Announce (replied.Put answer) items deeds keyed told at key comes = absurd ((at.called).step).1
calls_read p q place id desk.Announce (replied.Unfit job) items deeds keyed told at key comes = absurd ((at.called).step).1
calls_read p q place id desk.Announce (replied.Worked w) items deeds keyed told at key comes = absurd ((at.called).step).1
calls_read p q place id desk.Announce (replied.Collected answer) items deeds keyed told at key comes = absurd ((at.called).step).1
calls_read p q place id desk.Announce (replied.Removed answer) items deeds keyed told at key comes = absurd ((at.called).step).1
calls_read p q place id desk.Announce replied.Dropped items deeds keyed told at key comes = absurd ((at.called).step).1
calls_read p q place id desk.Announce replied.Ended items deeds keyed told at key comes = absurd ((at.called).step).1
calls_read p q place id desk.Collect (replied.Collected answer) items deeds keyed told at key (inl none) = absurd none
calls_read p q place id desk.Collect (replied.Collected answer) items deeds keyed told at key (inr none) = absurd none
calls_read p q place id desk.Collect (replied.Announced answer) items deeds keyed told at key comes = absurd ((at.called).step).1
calls_read p q place id desk.Collect (replied.Put answer) items deeds keyed told at key comes = absurd ((at.called).step).1
calls_read p q place id desk.Collect (replied.Unfit job) items deeds keyed told at key comes = absurd ((at.called).step).1
calls_read p q place id desk.Collect (replied.Worked w) items deeds keyed told at key comes = absurd ((at.called).step).1
calls_read p q place id desk.Collect (replied.Removed answer) items deeds keyed told at key comes = absurd ((at.called).step).1
calls_read p q place id desk.Collect replied.Dropped items deeds keyed told at key comes = absurd ((at.called).step).1
calls_read p q place id desk.Collect replied.Ended items deeds keyed told at key comes = absurd ((at.called).step).1
calls_read p q place id desk.Remove (replied.Removed answer) items deeds keyed told at key (inl none) = absurd none
calls_read p q place id desk.Remove (replied.Removed answer) items deeds keyed told at key (inr none) = absurd none
calls_read p q place id desk.Remove (replied.Announced answer) items deeds keyed told at key comes = absurd ((at.called).step).1
calls_read p q place id desk.Remove (replied.Put answer) items deeds keyed told at key comes = absurd ((at.called).step).1
calls_read p q place id desk.Remove (replied.Unfit job) items deeds keyed told at key comes = absurd ((at.called).step).1
calls_read p q place id desk.Remove (replied.Worked w) items deeds keyed told at key comes = absurd ((at.called).step).1
calls_read p q place id desk.Remove (replied.Collected answer) items deeds keyed told at key comes = absurd ((at.called).step).1
calls_read p q place id desk.Remove replied.Dropped items deeds keyed told at key comes = absurd ((at.called).step).1
calls_read p q place id desk.Remove replied.Ended items deeds keyed told at key comes = absurd ((at.called).step).1
calls_read p q place id (desk.Work runs) back items deeds keyed told at key comes = absurd at.own
calls_read p q place id desk.DropChannel back items deeds keyed told at key comes = absurd at.own
calls_read p q place id desk.End back items deeds keyed told at key comes = absurd at.own

-- no key comes as a channel ends
pub end_comes_none : (over : Bool) (back : DeskReply) (middle last : Of) → SessionDeskStep middle (end_call over) back last → (key : Key) → ComesBy (told_by (end_call over) back) key → ⊥
end_comes_none true replied.Ended middle last step key (inl none) = none
end_comes_none true replied.Ended middle last step key (inr none) = none
end_comes_none true (replied.Announced answer) middle last step key comes = step.1
end_comes_none true (replied.Put answer) middle last step key comes = step.1
end_comes_none true (replied.Unfit job) middle last step key comes = step.1
end_comes_none true (replied.Worked w) middle last step key comes = step.1
end_comes_none true (replied.Collected answer) middle last step key comes = step.1
end_comes_none true (replied.Removed answer) middle last step key comes = step.1
end_comes_none true replied.Dropped middle last step key comes = step.1
end_comes_none false replied.Dropped middle last step key (inl none) = none
end_comes_none false replied.Dropped middle last step key (inr none) = none
end_comes_none false (replied.Announced answer) middle last step key comes = step.1
end_comes_none false (replied.Put answer) middle last step key comes = step.1
end_comes_none false (replied.Unfit job) middle last step key comes = step.1
end_comes_none false (replied.Worked w) middle last step key comes = step.1
end_comes_none false (replied.Collected answer) middle last step key comes = step.1
end_comes_none false (replied.Removed answer) middle last step key comes = step.1
end_comes_none false replied.Ended middle last step key comes = step.1

ends_read : (over : Bool) (ds : List DeviceDeskState) (ss : List Of) (ts : List (ℕ × List Item)) (es : List DeviceDeskState) (us : List Of) (deeds : List Deed) → EndsEach over ds ss ts es us → EachAfter ComesRead deeds → EachAfter ComesRead (stored_each ts ++ deeds)
ends_read over [] [] [] [] [] deeds ended each = each
ends_read over (d ∷ ds) (s ∷ ss) (t ∷ ts) (e ∷ es) (u ∷ us) deeds ended each =
    subst (EachAfter ComesRead) (sym (append_assoc (stored_each ts) (stored t.0 t.1) deeds))
    (ends_read over ds ss ts es us (stored t.0 t.1 ++ deeds) ended.3
    (stored_reads t.0 (reverse t.1) deeds (λ key has. absurd (end_comes_none over ended.0 (ended.2).middle u (ended.2).step key (called_comes d e s u (end_call over) ended.0 t.1 ended.2 key (turned_has (Came key) t.1 has)))) each))
ends_read over ds ss ts es us deeds ended each = absurd ended

pub part_read : (p q : Served) (x : FrontPart) (deeds : List Deed) → PartGoes p x q → IsKeyed p → IsTold p deeds → EachAfter ComesRead deeds → EachAfter ComesRead (deeds_of x ++ deeds)
part_read p q (part.hears channel m (Err fault.Memory)) deeds goes keyed told each = each
part_read p q (part.hears channel m (Err (fault.Order state packet))) deeds goes keyed told each = (tt, each)
part_read p q (part.hears channel m (Err (fault.Grammar bad))) deeds goes keyed told each = (tt, each)
part_read p q (part.hears channel m (Ok h)) deeds goes keyed told each = (tt, each)
part_read p q tries deeds goes keyed told each = each
part_read p q keeps deeds goes keyed told each = each
part_read p q forgets deeds goes keyed told each = each
part_read p q misplaces deeds goes keyed told each = each
part_read p q (directs st answer) deeds goes keyed told each = each
part_read p q (calls place id does back items) deeds goes keyed told each =
    stored_reads id (reverse items) deeds (λ key has. calls_read p q place id does back items deeds keyed told goes key (called_comes goes.before goes.after goes.first goes.last does back items goes.called key (turned_has (Came key) items has))) each
part_read p q (tells_gone device (Ok done)) deeds goes keyed told each = (tt, each)
part_read p q (tells_gone device (Err error)) deeds goes keyed told each = each
part_read p q (tells_there device (Ok done)) deeds goes keyed told each = (tt, each)
part_read p q (tells_there device (Err error)) deeds goes keyed told each = each
part_read p q (sends channel None) deeds goes keyed told each = each
part_read p q (sends channel (Some o)) deeds goes keyed told each = by o.answers
  where
    by : (answers : Option Key) → EachAfter ComesRead (sent_by channel o.message answers ++ deeds)
    by None = (tt, each)
    by (Some key) = (tt, each)
part_read p q (writes device c) deeds goes keyed told each = (tt, each)
part_read p q (unwritten device c) deeds goes keyed told each = each
part_read p q (learns n answer) deeds goes keyed told each = each
part_read p q (refreshes device) deeds goes keyed told each = each
part_read p q (begins channel) deeds goes keyed told each = each
part_read p q (ends over ts) deeds goes keyed told each = ends_read over (p.front).desks p.stations ts (q.front).desks q.stations deeds goes.1 each

pub parts_read : (ps : List FrontPart) (p q : Served) (deeds : List Deed) → PartsGo p ps q → IsKeyed p → IsTold p deeds → EachAfter ComesRead deeds → EachAfter ComesRead (deeds_after ps deeds)
parts_read [] p q deeds goes keyed told each = each
parts_read (x ∷ ps) p q deeds goes keyed told each =
    parts_read ps goes.0 q (deeds_of x ++ deeds) goes.2 (part_keyed p goes.0 x goes.1 keyed) (part_told p goes.0 x deeds goes.1 keyed told) (part_read p goes.0 x deeds goes.1 keyed told each)

pub history_read : (entries : List (Entry FrontCall FrontReply)) (parts : List (List FrontPart)) (p q : Served) (deeds : List Deed) → HistoryGoes p entries parts q → IsKeyed p → IsTold p deeds → EachAfter ComesRead deeds → EachAfter ComesRead (deeds_of_calls parts deeds)
history_read [] [] p q deeds goes keyed told each = each
history_read [] (ps ∷ parts) p q deeds goes keyed told each = absurd goes
history_read (e ∷ entries) [] p q deeds goes keyed told each = absurd goes
history_read (e ∷ entries) (ps ∷ parts) p q deeds goes keyed told each =
    history_read entries parts goes.0 q (deeds_after ps deeds) goes.2 (parts_keyed ps p goes.0 (goes.1).goes keyed) (parts_told ps p goes.0 deeds (goes.1).goes keyed told) (parts_read ps p goes.0 deeds (goes.1).goes keyed told each)
