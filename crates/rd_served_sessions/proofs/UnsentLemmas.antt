-- Which completions a front hands out: none by a call that hands out no message, and none of a channel that is over.
use Rattle.std.proofs.Common.{◌≡◌, ◌⊎◌, ◌∙◌, ◌≤◌, refl, sym, ap, subst, inl, inr, ℕ, ◌==◌, Bool, true, false, List, [], ◌∷◌, ◌++◌, map, reverse, Option, Some, None, arith, append_assoc, eqb-true}
use Rattle.std.specs.Prelude.{Result, Ok, Err, filter_map}
use Rattle.std.specs.List.{AllByRecursion, cons_option}
use Rattle.rd_base.specs.declared.journal.Item.{Item}
use Rattle.rd_base.specs.declared.journal.Item.TheVariants.{Sent}
use Rattle.rd_base.specs.declared.journal.Key.{Key}
use Rattle.rd_client.specs.Core.{Outgoing}
use Rattle.rd_client.specs.declared.heard.Heard.{Heard}
use Rattle.rd_desk.specs.Desk.{told_by}
use Rattle.rd_desk.specs.declared.calls.DeskCall.{DeskCall}
use Rattle.rd_desk.specs.declared.calls.DeskCall.TheVariants as desk
use Rattle.rd_desk.specs.declared.calls.DeskReply.{DeskReply}
use Rattle.rd_desk.specs.declared.calls.DeskReply.TheVariants as replied
use Rattle.rd_front.specs.Calls.{FrontEntry}
use Rattle.rd_front.specs.Front.{end_call}
use Rattle.rd_front.specs.State.{DeviceDeskState, FrontState, SessionDeskStep, SessionStation}
use Rattle.rd_hello.specs.declared.end_fault.EndFault.{EndFault}
use Rattle.rd_hello.specs.declared.end_fault.EndFault.TheVariants as fault
use Rattle.rd_served_causes.proofs.JournalsHeldLemmas.{turned_has}
use Rattle.rd_station.proofs.Members.{has_append}
use Rattle.rd_station.specs.Station.{StationCall, announces, applies, collects, drops, ends, puts, puts_unfit, removes, takes}
use Rattle.rd_station.specs.declared.answers.Completion.{Completion}
use Rattle.rd_deeds.specs.Talk.{Deed, Has, journal, stores}
use Rattle.rd_served_causes.proofs.ServedCauseLemmas.{stored_elsewhere, stored_here}
use Rattle.rd_served_causes.proofs.ServedComesLemmas.{cancel}
use Rattle.rd_served_causes.proofs.ServedHeldLemmas.{HeldIn}
use Rattle.rd_served_causes.proofs.ServedKeyLemmas.{IsKeyed, ended_is, has_at, part_keyed, parts_keyed}
use Rattle.rd_served_causes.proofs.ServedOrderLemmas.{AreNoCollections, IsNoCollection, steps_unsent}
use Rattle.rd_served_causes.specs.ServedDeeds.{deeds_after, deeds_of, deeds_of_calls, sent_by, stored, stored_each}
use Rattle.rd_served_causes.specs.ServedHistories.{Among, HistoryGoes}
use Rattle.rd_served_causes.specs.ServedParts.{AsksBy, EndsEach, FrontPart, IsOpenCall, PartGoes, PartsGo, begins, calls, directs, forgets, handed_by, hears, is_lost, keeps, learns, misplaces, refreshes, sends, tells_gone, tells_there, tries, unwritten, writes}
use Rattle.rd_served_causes.specs.ServedParts as part
use Rattle.rd_served_causes.specs.ServedServed.{CallsDesk, IsWork, Served, hands, idle}
use Rattle.rd_served_causes.proofs.LaterLemmas.{comes_next}
use Rattle.rd_served_sessions.proofs.CutOffLemmas.{called_names, held_now}
use Rattle.rd_served_sessions.proofs.FollowLemmas.{IsCalmPart, part_keeping}

abbrev Of : Type 0
Of = SessionStation

-- ---- lists

-- what stands in a journal was stored, or stood there before
stored_or : (x : Item) (id device : ℕ) (items : List Item) (deeds : List Deed) → Has x (journal device (map (stores id) items ++ deeds)) → Has x items ⊎ Has x (journal device deeds)
stored_or x id device items deeds has = by (id == device) refl
  where
    by : (b : Bool) → (id == device) ≡ b → Has x items ⊎ Has x (journal device deeds)
    by false other = inr (subst (Has x) (stored_elsewhere id device items deeds other) has)
    by true same =
        let here : Has x (journal id (map (stores id) items ++ deeds)) = subst (λ (n : ℕ). Has x (journal n (map (stores id) items ++ deeds))) (sym (eqb-true id device same)) has in
        elim (has_append x items (journal id deeds) (subst (Has x) (stored_here id items deeds) here)) [ inl new ↦ inl new | inr was ↦ inr (subst (λ (n : ℕ). Has x (journal n deeds)) (eqb-true id device same) was) ]

not_new : (x : Item) (id device : ℕ) (items : List Item) (deeds : List Deed) → (Has x items → ⊥) → Has x (journal device (stored id items ++ deeds)) → Has x (journal device deeds)
not_new x id device items deeds none has = elim (stored_or x id device (reverse items) deeds has) [ inl new ↦ absurd (none (turned_has x items new)) | inr was ↦ was ]

-- ---- calls by which none is collected

work_no_collections : (list : List StationCall) → AllByRecursion IsWork list → AreNoCollections list
work_no_collections [] work = tt
work_no_collections (call ∷ others) work = (one call work.0, work_no_collections others work.1)
  where
    one : (c : StationCall) → IsWork c → IsNoCollection c
    one (takes answer) is = tt
    one (applies planned moment answer) is = tt
    one (announces answer) is = absurd is
    one (puts job answer) is = absurd is
    one (puts_unfit job back) is = absurd is
    one (collects answer) is = absurd is
    one (removes answer) is = absurd is
    one drops is = absurd is
    one ends is = absurd is

called_unsent : (d e : DeviceDeskState) (first last : Of) (does : DeskCall) (back : DeskReply) (items : List Item) → CallsDesk d e first does back items last → AreNoCollections (told_by does back) → (key : Key) → Has (Sent key) items → ⊥
called_unsent d e first last does back items called none key has =
    let work = steps_unsent called.works.calls first called.middle (work_no_collections called.works.calls called.works.work) called.works.steps in
    let own = steps_unsent (told_by does back) called.middle last none (called.step).0 in
    let both : last.journal ≡ first.journal ++ work.more ++ own.more = own.longer ∙ ap (λ (j : List Item). j ++ own.more) work.longer in
    let same : items ≡ work.more ++ own.more = cancel first.journal items (work.more ++ own.more) (sym called.stored ∙ both ∙ append_assoc first.journal work.more own.more) in
    elim (has_append (Sent key) work.more own.more (subst (Has (Sent key)) same has)) [ inl one ↦ work.unsent key one | inr other ↦ own.unsent key other ]

end_no_collections : (over : Bool) (back : DeskReply) (middle last : Of) → SessionDeskStep middle (end_call over) back last → AreNoCollections (told_by (end_call over) back)
end_no_collections true replied.Ended middle last step = (tt, tt)
end_no_collections true (replied.Announced answer) middle last step = absurd step.1
end_no_collections true (replied.Put answer) middle last step = absurd step.1
end_no_collections true (replied.Unfit job) middle last step = absurd step.1
end_no_collections true (replied.Worked w) middle last step = absurd step.1
end_no_collections true (replied.Collected answer) middle last step = absurd step.1
end_no_collections true (replied.Removed answer) middle last step = absurd step.1
end_no_collections true replied.Dropped middle last step = absurd step.1
end_no_collections false replied.Dropped middle last step = (tt, tt)
end_no_collections false (replied.Announced answer) middle last step = absurd step.1
end_no_collections false (replied.Put answer) middle last step = absurd step.1
end_no_collections false (replied.Unfit job) middle last step = absurd step.1
end_no_collections false (replied.Worked w) middle last step = absurd step.1
end_no_collections false (replied.Collected answer) middle last step = absurd step.1
end_no_collections false (replied.Removed answer) middle last step = absurd step.1
end_no_collections false replied.Ended middle last step = absurd step.1

ends_unsent : (device : ℕ) (key : Key) (over : Bool) (ds : List DeviceDeskState) (ss : List Of) (ts : List (ℕ × List Item)) (es : List DeviceDeskState) (us : List Of) (deeds : List Deed) → EndsEach over ds ss ts es us → Has (Sent key) (journal device (stored_each ts ++ deeds)) → Has (Sent key) (journal device deeds)
ends_unsent device key over [] [] [] [] [] deeds ended has = has
ends_unsent device key over (d ∷ ds) (s ∷ ss) (t ∷ ts) (e ∷ es) (u ∷ us) deeds ended has =
    not_new (Sent key) t.0 device t.1 deeds (called_unsent d e s u (end_call over) ended.0 t.1 ended.2 (end_no_collections over ended.0 (ended.2).middle u (ended.2).step) key)
    (ends_unsent device key over ds ss ts es us (stored t.0 t.1 ++ deeds) ended.3 (subst (λ (xs : List Deed). Has (Sent key) (journal device xs)) (append_assoc (stored_each ts) (stored t.0 t.1) deeds) has))
ends_unsent device key over ds ss ts es us deeds ended has = absurd ended

-- ---- what is read or written is stored nowhere

heard_same : (device channel : ℕ) (m : List ℕ) (answer : Result Heard EndFault) (deeds : List Deed) (x : Item) → Has x (journal device (deeds_of (hears channel m answer) ++ deeds)) → Has x (journal device deeds)
heard_same device channel m (Err fault.Memory) deeds x has = has
heard_same device channel m (Err (fault.Order state packet)) deeds x has = has
heard_same device channel m (Err (fault.Grammar bad)) deeds x has = has
heard_same device channel m (Ok heard) deeds x has = has

sent_same : (device channel : ℕ) (o : Option Outgoing) (deeds : List Deed) (x : Item) → Has x (journal device (deeds_of (sends channel o) ++ deeds)) → Has x (journal device deeds)
sent_same device channel None deeds x has = has
sent_same device channel (Some o) deeds x has = by o.answers has
  where
    by : (a : Option Key) → Has x (journal device (sent_by channel o.message a ++ deeds)) → Has x (journal device deeds)
    by None here = here
    by (Some key) here = here

-- ---- a call that hands out no message

pub none_after : (o : Option (List ℕ)) (ms : List (List ℕ)) → cons_option o ms ≡ [] → ms ≡ []
none_after None ms is = is
none_after (Some m) ms is = absurd (cc (is))

-- a completion that a desk handed out is written or lost before the call is over
never_stuck : (ps : List FrontPart) (p q : Served) (device : ℕ) (c : Completion) → PartsGo p ps q → p.asking ≡ hands device c → q.asking ≡ idle → filter_map handed_by ps ≡ [] → (Among (λ x. is_lost x ≡ true) ps → ⊥) → ⊥
never_stuck [] p q device c goes out done handed lost = (let same = ap (λ (s : Served). s.asking) goes in cc (same, out, done))
never_stuck (x ∷ ps) p q device c goes out done handed lost =
    by x goes.1 (λ still none. never_stuck ps goes.0 q device c goes.2 still done none (λ some. lost (inr some))) (none_after (handed_by x) (filter_map handed_by ps) handed) handed (λ e. lost (inl e))
  where
    asked : (does : DeskCall) (back : DeskReply) (place id : ℕ) → IsOpenCall does → AsksBy p place id does back (goes.0).asking → ((goes.0).asking ≡ hands device c → ⊥) → ⊥
    asked (desk.Put job) back place id own is more = (let a = (is.0).asked in cc (a, out))
    asked desk.Collect (replied.Collected (Some y)) place id own is more = (let a = is.0 in cc (a, out))
    asked desk.Collect (replied.Collected None) place id own is more = more (is ∙ out)
    asked desk.Collect (replied.Announced answer) place id own is more = more (is ∙ out)
    asked desk.Collect (replied.Put answer) place id own is more = more (is ∙ out)
    asked desk.Collect (replied.Unfit job) place id own is more = more (is ∙ out)
    asked desk.Collect (replied.Worked w) place id own is more = more (is ∙ out)
    asked desk.Collect (replied.Removed answer) place id own is more = more (is ∙ out)
    asked desk.Collect replied.Dropped place id own is more = more (is ∙ out)
    asked desk.Collect replied.Ended place id own is more = more (is ∙ out)
    asked desk.Announce back place id own is more = more (is ∙ out)
    asked desk.Remove back place id own is more = more (is ∙ out)
    asked (desk.Work runs) back place id own is more = own
    asked desk.DropChannel back place id own is more = own
    asked desk.End back place id own is more = own

    by : (y : FrontPart) → PartGoes p y goes.0 → ((goes.0).asking ≡ hands device c → filter_map handed_by ps ≡ [] → ⊥) → filter_map handed_by ps ≡ [] → cons_option (handed_by y) (filter_map handed_by ps) ≡ [] → (is_lost y ≡ true → ⊥) → ⊥
    by (hears channel m answer) did more none all kept = (let a = did.1 in cc (a, out))
    by tries did more none all kept = (let a = did.2 in cc (a, out))
    by keeps did more none all kept = (let a = did.2 in cc (a, out))
    by forgets did more none all kept = (let a = did.2 in cc (a, out))
    by misplaces did more none all kept = (let a = did.1 in cc (a, out))
    by (directs st answer) did more none all kept = elim did.1 [
      | inl absent ↦ (let a = absent.0 in cc (a, out))
      | inr (inl gone) ↦ (let a = gone.0 in cc (a, out))
      | inr (inr worn) ↦ (let a = worn.1 in cc (a, out))
    ]
    by (calls place id does back items) did more none all kept = asked does back place id did.own did.asking_is (λ still. more still none)
    by (tells_gone d answer) did more none all kept = (let a = did.4 in cc (a, out))
    by (tells_there d answer) did more none all kept = (let a = did.4 in cc (a, out))
    by (sends channel None) did more none all kept = more (did.2 ∙ out) none
    by (sends channel (Some o)) did more none all kept = cc (all)
    by (writes d y) did more none all kept = cc (all)
    by (unwritten d y) did more none all kept = kept refl
    by (learns n answer) did more none all kept = more (ap (λ (s : Served). s.asking) did.1 ∙ out) none
    by (refreshes d) did more none all kept = more (ap (λ (s : Served). s.asking) did ∙ out) none
    by (begins channel) did more none all kept = (let a = did.0 in cc (a, out))
    by (part.ends over told) did more none all kept = (let a = did.0 in cc (a, out))

-- So none is sent by it.
pub parts_unsent : (ps : List FrontPart) (p q : Served) (device : ℕ) (key : Key) (deeds : List Deed) → PartsGo p ps q → q.asking ≡ idle → filter_map handed_by ps ≡ [] → (Among (λ x. is_lost x ≡ true) ps → ⊥) → Has (Sent key) (journal device (deeds_after ps deeds)) → Has (Sent key) (journal device deeds)
parts_unsent [] p q device key deeds goes done handed lost has = has
parts_unsent (x ∷ ps) p q device key deeds goes done handed lost has =
    by x goes.1 (parts_unsent ps goes.0 q device key (deeds_of x ++ deeds) goes.2 done none later has)
  where
    none : filter_map handed_by ps ≡ []
    none = none_after (handed_by x) (filter_map handed_by ps) handed

    later : Among (λ y. is_lost y ≡ true) ps → ⊥
    later some = lost (inr some)

    stored_none : (place id : ℕ) (does : DeskCall) (back : DeskReply) (items : List Item) → PartGoes p (calls place id does back items) goes.0 → AreNoCollections (told_by does back) → Has (Sent key) (journal device (stored id items ++ deeds)) → Has (Sent key) (journal device deeds)
    stored_none place id does back items did quiet here = not_new (Sent key) id device items deeds (called_unsent did.before did.after did.first did.last does back items did.called quiet key) here

    called : (place id : ℕ) (does : DeskCall) (back : DeskReply) (items : List Item) → IsOpenCall does → PartGoes p (calls place id does back items) goes.0 → Has (Sent key) (journal device (stored id items ++ deeds)) → Has (Sent key) (journal device deeds)
    called place id (desk.Put job) (replied.Put (Ok fine)) items own did here = stored_none place id (desk.Put job) (replied.Put (Ok fine)) items did (tt, tt) here
    called place id (desk.Put job) (replied.Put (Err refusal)) items own did here = stored_none place id (desk.Put job) (replied.Put (Err refusal)) items did (tt, tt) here
    called place id (desk.Put job) (replied.Unfit back) items own did here = stored_none place id (desk.Put job) (replied.Unfit back) items did (tt, tt) here
    called place id (desk.Put job) (replied.Announced answer) items own did here = absurd (did.asking_is).1
    called place id (desk.Put job) (replied.Worked w) items own did here = absurd (did.asking_is).1
    called place id (desk.Put job) (replied.Collected answer) items own did here = absurd (did.asking_is).1
    called place id (desk.Put job) (replied.Removed answer) items own did here = absurd (did.asking_is).1
    called place id (desk.Put job) replied.Dropped items own did here = absurd (did.asking_is).1
    called place id (desk.Put job) replied.Ended items own did here = absurd (did.asking_is).1
    called place id desk.Collect (replied.Collected (Some y)) items own did here = absurd (never_stuck ps goes.0 q id y goes.2 (did.asking_is).1 done none later)
    called place id desk.Collect (replied.Collected None) items own did here = stored_none place id desk.Collect (replied.Collected None) items did (tt, tt) here
    called place id desk.Collect (replied.Announced answer) items own did here = absurd ((did.called).step).1
    called place id desk.Collect (replied.Put answer) items own did here = absurd ((did.called).step).1
    called place id desk.Collect (replied.Unfit job) items own did here = absurd ((did.called).step).1
    called place id desk.Collect (replied.Worked w) items own did here = absurd ((did.called).step).1
    called place id desk.Collect (replied.Removed answer) items own did here = absurd ((did.called).step).1
    called place id desk.Collect replied.Dropped items own did here = absurd ((did.called).step).1
    called place id desk.Collect replied.Ended items own did here = absurd ((did.called).step).1
    called place id desk.Announce (replied.Announced answer) items own did here = stored_none place id desk.Announce (replied.Announced answer) items did (tt, tt) here
    called place id desk.Announce (replied.Put answer) items own did here = absurd ((did.called).step).1
    called place id desk.Announce (replied.Unfit job) items own did here = absurd ((did.called).step).1
    called place id desk.Announce (replied.Worked w) items own did here = absurd ((did.called).step).1
    called place id desk.Announce (replied.Collected answer) items own did here = absurd ((did.called).step).1
    called place id desk.Announce (replied.Removed answer) items own did here = absurd ((did.called).step).1
    called place id desk.Announce replied.Dropped items own did here = absurd ((did.called).step).1
    called place id desk.Announce replied.Ended items own did here = absurd ((did.called).step).1
    called place id desk.Remove (replied.Removed answer) items own did here = stored_none place id desk.Remove (replied.Removed answer) items did (tt, tt) here
    called place id desk.Remove (replied.Announced answer) items own did here = absurd ((did.called).step).1
    called place id desk.Remove (replied.Put answer) items own did here = absurd ((did.called).step).1
    called place id desk.Remove (replied.Unfit job) items own did here = absurd ((did.called).step).1
    called place id desk.Remove (replied.Worked w) items own did here = absurd ((did.called).step).1
    called place id desk.Remove (replied.Collected answer) items own did here = absurd ((did.called).step).1
    called place id desk.Remove replied.Dropped items own did here = absurd ((did.called).step).1
    called place id desk.Remove replied.Ended items own did here = absurd ((did.called).step).1
    called place id (desk.Work runs) back items own did here = absurd own
    called place id desk.DropChannel back items own did here = absurd own
    called place id desk.End back items own did here = absurd own

    by : (y : FrontPart) → PartGoes p y goes.0 → Has (Sent key) (journal device (deeds_of y ++ deeds)) → Has (Sent key) (journal device deeds)
    by (calls place id does back items) did here = called place id does back items did.own did here
    by (part.ends over told) did here = ends_unsent device key over (p.front).desks p.stations told ((goes.0).front).desks (goes.0).stations deeds did.1 here
    by (hears channel m answer) did here = heard_same device channel m answer deeds (Sent key) here
    by (sends channel o) did here = sent_same device channel o deeds (Sent key) here
    by (tells_gone d (Ok fine)) did here = here
    by (tells_gone d (Err error)) did here = here
    by (tells_there d (Ok fine)) did here = here
    by (tells_there d (Err error)) did here = here
    by (writes d y) did here = here
    by tries did here = here
    by keeps did here = here
    by forgets did here = here
    by misplaces did here = here
    by (directs st answer) did here = here
    by (unwritten d y) did here = here
    by (learns n answer) did here = here
    by (refreshes d) did here = here
    by (begins channel) did here = here

-- ---- a channel that is over

-- it was ended, or another began since
pub record IsEnded (c : ℕ) (p : Served) : Type 0 where
  pub low : c ≤ (p.front).channel
  pub off : c ≡ (p.front).channel → (p.front).on ≡ false

part_ended : (c : ℕ) (p q : Served) (x : FrontPart) → PartGoes p x q → IsEnded c p → IsEnded c q
part_ended c p q x goes is = by x goes
  where
    same : (q.front).channel ≡ (p.front).channel → (q.front).on ≡ (p.front).on → IsEnded c q
    same channel on = record { low = (let low = is.low in omega (arith, low, channel)); off = λ here. on ∙ is.off (here ∙ channel) }

    calm : (y : FrontPart) → IsCalmPart y → PartGoes p y q → IsEnded c q
    calm y quiet did = let still = part_keeping p q y quiet did in same still.channel still.on

    by : (y : FrontPart) → PartGoes p y q → IsEnded c q
    by (hears channel m answer) did = same (ap (λ (s : FrontState). s.channel) (did.3).1) (ap (λ (s : FrontState). s.on) (did.3).1)
    by (begins channel) did =
        let number : (q.front).channel ≡ channel = ap (λ (s : Served). (s.front).channel) did.3 in
        let more = did.2 in
        let low = is.low in
        record { low = omega (arith, low, more, number); off = λ here. absurd (omega (arith, here, number, more, low)) }
    by (part.ends over told) did =
        let end = ended_is over p.front (q.front).desks in
        let number : (q.front).channel ≡ (p.front).channel = ap (λ (s : FrontState). s.channel) did.2 ∙ end.1 in
        let low = is.low in
        record { low = omega (arith, low, number); off = λ here. ap (λ (s : FrontState). s.on) did.2 ∙ end.0 }
    by tries did = calm tries tt did
    by keeps did = calm keeps tt did
    by forgets did = calm forgets tt did
    by misplaces did = calm misplaces tt did
    by (directs st answer) did = calm (directs st answer) tt did
    by (calls place id does back items) did = calm (calls place id does back items) tt did
    by (tells_gone device answer) did = calm (tells_gone device answer) tt did
    by (tells_there device answer) did = calm (tells_there device answer) tt did
    by (sends channel o) did = calm (sends channel o) tt did
    by (writes device y) did = calm (writes device y) tt did
    by (unwritten device y) did = calm (unwritten device y) tt did
    by (learns n answer) did = calm (learns n answer) tt did
    by (refreshes device) did = calm (refreshes device) tt did

-- nothing is held of it
none_held : (c : ℕ) (p : Served) → IsKeyed p → IsEnded c p → (s : Of) → Has s p.stations → (key : Key) (id : ℕ) → key.channel ≡ c → HeldIn s (key, id) → ⊥
none_held c p keyed is s has key id here held_so =
    let so = held_now p keyed s has (key, id) held_so in
    let off = is.off (sym here ∙ so.1) in
    let on = so.0 in
    cc (on, off)

part_sent : (c : ℕ) (p q : Served) (x : FrontPart) (device : ℕ) (key : Key) (deeds : List Deed) → PartGoes p x q → IsKeyed p → IsEnded c p → key.channel ≡ c → Has (Sent key) (journal device (deeds_of x ++ deeds)) → Has (Sent key) (journal device deeds)
part_sent c p q (calls place id does back items) device key deeds goes keyed is here has =
    not_new (Sent key) id device items deeds (λ new. elim (called_names goes.before goes.after goes.first goes.last does back items goes.called (Sent key) new key refl) [
      | inl (n, was) ↦ none_held c p keyed is goes.first (has_at p.stations place goes.first goes.has) key n here was
      | inr comes ↦ (let so = comes_next p q place id does back items keyed goes key comes in let on = so.0 in let off = is.off (sym here ∙ so.1) in cc (on, off))
    ]) has
part_sent c p q (part.ends over told) device key deeds goes keyed is here has = ends_unsent device key over (p.front).desks p.stations told (q.front).desks q.stations deeds goes.1 has
part_sent c p q (hears channel m answer) device key deeds goes keyed is here has = heard_same device channel m answer deeds (Sent key) has
part_sent c p q (sends channel o) device key deeds goes keyed is here has = sent_same device channel o deeds (Sent key) has
part_sent c p q (tells_gone d (Ok fine)) device key deeds goes keyed is here has = has
part_sent c p q (tells_gone d (Err error)) device key deeds goes keyed is here has = has
part_sent c p q (tells_there d (Ok fine)) device key deeds goes keyed is here has = has
part_sent c p q (tells_there d (Err error)) device key deeds goes keyed is here has = has
part_sent c p q (writes d y) device key deeds goes keyed is here has = has
part_sent c p q tries device key deeds goes keyed is here has = has
part_sent c p q keeps device key deeds goes keyed is here has = has
part_sent c p q forgets device key deeds goes keyed is here has = has
part_sent c p q misplaces device key deeds goes keyed is here has = has
part_sent c p q (directs st answer) device key deeds goes keyed is here has = has
part_sent c p q (unwritten d y) device key deeds goes keyed is here has = has
part_sent c p q (learns n answer) device key deeds goes keyed is here has = has
part_sent c p q (refreshes d) device key deeds goes keyed is here has = has
part_sent c p q (begins channel) device key deeds goes keyed is here has = has

parts_sent : (c : ℕ) (ps : List FrontPart) (p q : Served) (device : ℕ) (key : Key) (deeds : List Deed) → PartsGo p ps q → IsKeyed p → IsEnded c p → key.channel ≡ c → Has (Sent key) (journal device (deeds_after ps deeds)) → Has (Sent key) (journal device deeds)
parts_sent c [] p q device key deeds goes keyed is here has = has
parts_sent c (x ∷ ps) p q device key deeds goes keyed is here has =
    part_sent c p goes.0 x device key deeds goes.1 keyed is here (parts_sent c ps goes.0 q device key (deeds_of x ++ deeds) goes.2 (part_keyed p goes.0 x goes.1 keyed) (part_ended c p goes.0 x goes.1 is) here has)

parts_ended : (c : ℕ) (ps : List FrontPart) (p q : Served) → PartsGo p ps q → IsEnded c p → IsEnded c q
parts_ended c [] p q goes is = subst (IsEnded c) (sym goes) is
parts_ended c (x ∷ ps) p q goes is = parts_ended c ps goes.0 q goes.2 (part_ended c p goes.0 x goes.1 is)

-- Nothing is sent of it any more.
pub history_sent : (c : ℕ) (entries : List FrontEntry) (parts : List (List FrontPart)) (p q : Served) (device : ℕ) (key : Key) (deeds : List Deed) → HistoryGoes p entries parts q → IsKeyed p → IsEnded c p → key.channel ≡ c → Has (Sent key) (journal device (deeds_of_calls parts deeds)) → Has (Sent key) (journal device deeds)
history_sent c [] [] p q device key deeds goes keyed is here has = has
history_sent c [] (ps ∷ parts) p q device key deeds goes keyed is here has = absurd goes
history_sent c (e ∷ entries) [] p q device key deeds goes keyed is here has = absurd goes
history_sent c (e ∷ entries) (ps ∷ parts) p q device key deeds goes keyed is here has =
    parts_sent c ps p goes.0 device key deeds (goes.1).goes keyed is here
    (history_sent c entries parts goes.0 q device key (deeds_after ps deeds) goes.2 (parts_keyed ps p goes.0 (goes.1).goes keyed) (parts_ended c ps p goes.0 (goes.1).goes is) here has)
