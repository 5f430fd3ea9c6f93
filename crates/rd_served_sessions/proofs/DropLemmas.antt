-- What the end of a channel leaves of it at the devices: each was cut off after what came, and nothing is stored of it any more.
use Rattle.std.proofs.Common.{◌≡◌, ◌∙◌, ◌<◌, ◌≤◌, refl, sym, ap, subst, inl, inr, ℕ, ◌==◌, Bool, true, false, List, [], ◌∷◌, ◌++◌, map, reverse, Option, Some, None, arith, append_assoc, eqb-true}
use Rattle.std.specs.Prelude.{Result, Ok, Err, IfSome, if◌then◌else◌}
use Rattle.std.specs.List.{AllByRecursion, cons_option}
use Rattle.rd_base.specs.Lawful.{named_key}
use Rattle.rd_base.specs.declared.journal.Item.{Item}
use Rattle.rd_base.specs.declared.journal.Item.TheVariants.{Came}
use Rattle.rd_base.specs.declared.journal.Key.{Key}
use Rattle.rd_client.specs.declared.heard.Heard.{Heard}
use Rattle.rd_front.specs.Calls.{FrontEntry}
use Rattle.rd_front.specs.Front.{ChannelEnds, FrontStep, Where, done_at, end_call}
use Rattle.rd_front.specs.State.{DeviceDeskState, FrontState, SessionStation}
use Rattle.rd_front.specs.declared.calls.FrontCall.{FrontCall}
use Rattle.rd_front.specs.declared.calls.FrontCall.TheVariants as call
use Rattle.rd_front.specs.declared.calls.FrontReply.{FrontReply}
use Rattle.rd_front.specs.declared.calls.FrontReply.TheVariants as reply
use Rattle.rd_hello.specs.declared.end_fault.EndFault.{EndFault}
use Rattle.rd_hello.specs.declared.end_fault.EndFault.TheVariants as fault
use Rattle.rd_served_causes.proofs.JournalsHeldLemmas.{stored_unread, turned_has}
use Rattle.rd_workers.specs.Channels.{ChannelRun, IsChannelRun, calls_by_all}
use Rattle.rd_workers.specs.Logs.{asks_any, reader_calls}
use Rattle.rd_deeds.specs.Talk.{Deed, EachAfter, Has, client_wrote, journal, stores}
use Rattle.rd_served_causes.proofs.ServedCauseLemmas.{new_at, stored_elsewhere, stored_here}
use Rattle.rd_served_causes.proofs.ServedComesLemmas.{called_comes, end_comes_none}
use Rattle.rd_served_causes.proofs.ServedHeldLemmas.{HeldIn}
use Rattle.rd_served_causes.proofs.ServedKeyLemmas.{IsKeyed, ended_is, has_at}
use Rattle.rd_served_causes.proofs.ServedStandingLemmas.{IsKnownAt, begins_known, part_known}
use Rattle.rd_served_causes.specs.ServedDeeds.{AreOnChannel, EachOnChannel, PartsOnChannel, deeds_after, deeds_of, deeds_of_calls, sent_by, stored, stored_each}
use Rattle.rd_served_causes.specs.ServedHistories.{BeginsNew, HistoryGoes}
use Rattle.rd_served_causes.specs.ServedParts.{EndsEach, FrontPart, PartGoes, PartsGo, begins, calls, directs, ends, forgets, handed_by, hears, keeps, learns, misplaces, refreshes, sends, tells_gone, tells_there, tries, unwritten, writes}
use Rattle.rd_served_causes.specs.ServedServed.{Served}
use Rattle.rd_served_causes.proofs.LaterLemmas.{comes_next}
use Rattle.rd_served_causes.proofs.StepLemmas.{part_off}
use Rattle.rd_served_causes.specs.Open.{AreOff}
use Rattle.rd_served_sessions.proofs.CallLemmas.{other_number}
use Rattle.rd_served_sessions.proofs.ChainLemmas.{part_rises, part_wrote, parts_rise, stored_unwritten}
use Rattle.rd_served_sessions.proofs.CutOffLemmas.{AreCutOff, called_names, held_now, reached_cut, uncut_all}
use Rattle.rd_served_sessions.proofs.FollowLemmas.{part_keeping}
use Rattle.rd_served_sessions.proofs.StillLemmas.{begun_to, tracks}
use Rattle.rd_served_sessions.specs.Drops.{EndsFirst, NoneLater, UncutAreOf, uncut_keys}
use Rattle.rd_served_sessions.specs.Steps.{AreSteps}

abbrev Of : Type 0
Of = SessionStation

-- ---- what is stored

-- nothing was read or written on later channels
abbrev IsNewest : Key → List Deed → Type 0
IsNewest key deeds = NoneLater key.channel deeds

stored_first : (id : ℕ) (items : List Item) (deeds : List Deed) → ((x : Item) → Has x items → (key : Key) → named_key x ≡ Some key → IsNewest key deeds) → EachAfter EndsFirst deeds → EachAfter EndsFirst (map (stores id) items ++ deeds)
stored_first id [] deeds newest each = each
stored_first id (x ∷ items) deeds newest each = (by (named_key x) (newest x (inl refl)), stored_first id items deeds (λ y has. newest y (inr has)) each)
  where
    by : (o : Option Key) → ((key : Key) → o ≡ Some key → IsNewest key deeds) → IfSome o (λ key. NoneLater key.channel (map (stores id) items ++ deeds))
    by None is = tt
    by (Some key) is = λ c above. let none = is key refl c above in (stored_unread id c items deeds ∙ none.0, stored_unwritten id c items deeds ∙ none.1)

ends_first : (p : Served) (over : Bool) (ds : List DeviceDeskState) (ss : List Of) (ts : List (ℕ × List Item)) (es : List DeviceDeskState) (us : List Of) (deeds : List Deed) → EndsEach over ds ss ts es us
    → ((s : Of) → Has s ss → (x : Key × ℕ) → HeldIn s x → (x.0).channel ≡ (p.front).channel) → NoneLater (p.front).channel deeds → EachAfter EndsFirst deeds → EachAfter EndsFirst (stored_each ts ++ deeds)
ends_first p over [] [] [] [] [] deeds ended held_so none each = each
ends_first p over (d ∷ ds) (s ∷ ss) (t ∷ ts) (e ∷ es) (u ∷ us) deeds ended held_so none each =
    subst (EachAfter EndsFirst) (sym (append_assoc (stored_each ts) (stored t.0 t.1) deeds))
    (ends_first p over ds ss ts es us (stored t.0 t.1 ++ deeds) ended.3 (λ x has. held_so x (inr has))
    (λ c above. (stored_unread t.0 c (reverse t.1) deeds ∙ (none c above).0, stored_unwritten t.0 c (reverse t.1) deeds ∙ (none c above).1))
    (stored_first t.0 (reverse t.1) deeds (λ x has key names. elim (called_names d e s u (end_call over) ended.0 t.1 ended.2 x (turned_has x t.1 has) key names) [
      | inl (id, was) ↦ subst (λ (n : ℕ). NoneLater n deeds) (sym (held_so s (inl refl) (key, id) was)) none
      | inr comes ↦ absurd (end_comes_none over ended.0 (ended.2).middle u (ended.2).step key comes)
    ]) each))
ends_first p over ds ss ts es us deeds ended held_so none each = absurd ended

-- what came since a device was cut off last, where a channel ends
abbrev AllOf : (Key → Type 0) → ℕ → List Deed → Type 0
AllOf P device deeds = AllByRecursion P (uncut_keys (journal device deeds))

uncut_stored : (P : Key → Type 0) (id device : ℕ) (items : List Item) (deeds : List Deed) → ((key : Key) → Has (Came key) items → P key) → AllOf P device deeds → AllOf P device (map (stores id) items ++ deeds)
uncut_stored P id device items deeds comes all = by (id == device) refl
  where
    by : (b : Bool) → (id == device) ≡ b → AllOf P device (map (stores id) items ++ deeds)
    by false other = subst (λ (j : List Item). AllByRecursion P (uncut_keys j)) (sym (stored_elsewhere id device items deeds other)) all
    by true same =
        subst (λ (n : ℕ). AllOf P n (map (stores id) items ++ deeds)) (eqb-true id device same)
        (subst (λ (j : List Item). AllByRecursion P (uncut_keys j)) (sym (stored_here id items deeds)) (uncut_all P items (journal id deeds) comes (subst (λ (n : ℕ). AllOf P n deeds) (sym (eqb-true id device same)) all)))

uncut_ends : (P : Key → Type 0) (device : ℕ) (over : Bool) (ds : List DeviceDeskState) (ss : List Of) (ts : List (ℕ × List Item)) (es : List DeviceDeskState) (us : List Of) (deeds : List Deed) → EndsEach over ds ss ts es us → AllOf P device deeds → AllOf P device (stored_each ts ++ deeds)
uncut_ends P device over [] [] [] [] [] deeds ended all = all
uncut_ends P device over (d ∷ ds) (s ∷ ss) (t ∷ ts) (e ∷ es) (u ∷ us) deeds ended all =
    subst (AllOf P device) (sym (append_assoc (stored_each ts) (stored t.0 t.1) deeds))
    (uncut_ends P device over ds ss ts es us (stored t.0 t.1 ++ deeds) ended.3
    (uncut_stored P t.0 device (reverse t.1) deeds (λ key has. absurd (end_comes_none over ended.0 (ended.2).middle u (ended.2).step key (called_comes d e s u (end_call over) ended.0 t.1 ended.2 key (turned_has (Came key) t.1 has)))) all))
uncut_ends P device over ds ss ts es us deeds ended all = absurd ended

none_to : (P : Key → Type 0) (keys : List Key) → AllByRecursion (λ (key : Key). ⊥) keys → AllByRecursion P keys
none_to P [] all = tt
none_to P (key ∷ keys) all = absurd all.0

-- ---- while no channel is on

-- no key came to any device since it was cut off last
off_cut : (p : Served) (deeds : List Deed) → IsKnownAt p deeds → AreOff p → (p.front).on ≡ false → (device : ℕ) → AreCutOff (journal device deeds)
off_cut p deeds known off none device = by (journal device deeds) refl
  where
    by : (j : List Item) → journal device deeds ≡ j → AreCutOff j
    by [] e = tt
    by (x ∷ j) e =
        let (place, d, s, at, id) = known.standing.owned device x (subst (Has x) (sym e) (inl refl)) in
        let tied : journal device deeds ≡ reverse s.journal = ap (λ (n : ℕ). journal n deeds) (sym id) ∙ known.told.tied place d s at in
        subst AreCutOff (sym tied ∙ e) (reached_cut s (known.keyed.on s (has_at p.stations place s at.1)).sound.reached (off none place d s at))

-- ---- each part

-- What is known at a point: what came since a device was cut off last, came on the channel that began last.
record IsDropping (p : Served) (deeds : List Deed) : Type 0 where
  known : IsKnownAt p deeds
  off : AreOff p
  unwrote : (c : ℕ) → (p.front).channel < c → client_wrote c deeds ≡ []
  uncut : UncutAreOf (p.front).channel deeds
  each : EachAfter EndsFirst deeds

held_on_it : (p : Served) → IsKeyed p → (s : Of) → Has s p.stations → (x : Key × ℕ) → HeldIn s x → (x.0).channel ≡ (p.front).channel
held_on_it p keyed s has x held_so = (held_now p keyed s has x held_so).1

newest : (p : Served) (deeds : List Deed) → IsDropping p deeds → NoneLater (p.front).channel deeds
newest p deeds is c above = (is.known.told.unread c above, is.unwrote c above)

part_each : (p q : Served) (x : FrontPart) (deeds : List Deed) → PartGoes p x q → AreOnChannel (p.front).channel (deeds_of x) → IsDropping p deeds → EachAfter EndsFirst (deeds_of x ++ deeds)
part_each p q (hears channel m (Err fault.Memory)) deeds goes here is = is.each
part_each p q (hears channel m (Err (fault.Order state packet))) deeds goes here is = (subst (λ (n : ℕ). UncutAreOf n deeds) (sym goes.0) is.uncut, is.each)
part_each p q (hears channel m (Err (fault.Grammar bad))) deeds goes here is = (subst (λ (n : ℕ). UncutAreOf n deeds) (sym goes.0) is.uncut, is.each)
part_each p q (hears channel m (Ok h)) deeds goes here is = (subst (λ (n : ℕ). UncutAreOf n deeds) (sym goes.0) is.uncut, is.each)
part_each p q tries deeds goes here is = is.each
part_each p q keeps deeds goes here is = is.each
part_each p q forgets deeds goes here is = is.each
part_each p q misplaces deeds goes here is = is.each
part_each p q (directs st answer) deeds goes here is = is.each
part_each p q (calls place id does back items) deeds goes here is =
    stored_first id (reverse items) deeds (λ x has key names.
    subst (λ (n : ℕ). NoneLater n deeds) (sym (elim (called_names goes.before goes.after goes.first goes.last does back items goes.called x (turned_has x items has) key names) [
      | inl (id_of, was) ↦ held_on_it p is.known.keyed goes.first (has_at p.stations place goes.first goes.has) (key, id_of) was
      | inr comes ↦ (comes_next p q place id does back items is.known.keyed goes key comes).1
    ])) (newest p deeds is)) is.each
part_each p q (tells_gone device (Ok done)) deeds goes here is = (tt, is.each)
part_each p q (tells_gone device (Err error)) deeds goes here is = is.each
part_each p q (tells_there device (Ok done)) deeds goes here is = (tt, is.each)
part_each p q (tells_there device (Err error)) deeds goes here is = is.each
part_each p q (sends channel None) deeds goes here is = is.each
part_each p q (sends channel (Some o)) deeds goes here is = by o.answers here
  where
    by : (a : Option Key) → AreOnChannel (p.front).channel (sent_by channel o.message a) → EachAfter EndsFirst (sent_by channel o.message a ++ deeds)
    by None at = (subst (λ (n : ℕ). UncutAreOf n deeds) (sym at.0) is.uncut, is.each)
    by (Some key) at = (subst (λ (n : ℕ). UncutAreOf n deeds) (sym at.0) is.uncut, is.each)
part_each p q (writes device c) deeds goes here is = (subst (λ (n : ℕ). UncutAreOf n deeds) (sym here.0) is.uncut, is.each)
part_each p q (unwritten device c) deeds goes here is = is.each
part_each p q (learns n answer) deeds goes here is = is.each
part_each p q (refreshes device) deeds goes here is = is.each
part_each p q (begins channel) deeds goes here is = is.each
part_each p q (ends over told) deeds goes here is = ends_first p over (p.front).desks p.stations told (q.front).desks q.stations deeds goes.1 (held_on_it p is.known.keyed) (newest p deeds is) is.each

part_uncut : (p q : Served) (x : FrontPart) (deeds : List Deed) → PartGoes p x q → IsDropping p deeds → UncutAreOf (q.front).channel (deeds_of x ++ deeds)
part_uncut p q x deeds goes is = by x goes
  where
    same : (more : List Deed) → (q.front).channel ≡ (p.front).channel → UncutAreOf (p.front).channel more → UncutAreOf (q.front).channel more
    same more channel all = subst (λ (n : ℕ). UncutAreOf n more) (sym channel) all

    by : (y : FrontPart) → PartGoes p y q → UncutAreOf (q.front).channel (deeds_of y ++ deeds)
    by (hears channel m answer) did = read answer
      where
        number : (q.front).channel ≡ (p.front).channel
        number = ap (λ (s : FrontState). s.channel) (did.3).1

        read : (a : Result Heard EndFault) → UncutAreOf (q.front).channel (deeds_of (hears channel m a) ++ deeds)
        read (Err fault.Memory) = same deeds number is.uncut
        read (Err (fault.Order state packet)) = same (deeds_of (hears channel m (Err (fault.Order state packet))) ++ deeds) number is.uncut
        read (Err (fault.Grammar bad)) = same (deeds_of (hears channel m (Err (fault.Grammar bad))) ++ deeds) number is.uncut
        read (Ok h) = same (deeds_of (hears channel m (Ok h)) ++ deeds) number is.uncut
    by tries did = same deeds (part_keeping p q tries tt did).channel is.uncut
    by keeps did = same deeds (part_keeping p q keeps tt did).channel is.uncut
    by forgets did = same deeds (part_keeping p q forgets tt did).channel is.uncut
    by misplaces did = same deeds (part_keeping p q misplaces tt did).channel is.uncut
    by (directs st answer) did = same deeds (part_keeping p q (directs st answer) tt did).channel is.uncut
    by (calls place id does back items) did =
        same (stored id items ++ deeds) (part_keeping p q (calls place id does back items) tt did).channel (λ device.
        uncut_stored (λ (key : Key). key.channel ≡ (p.front).channel) id device (reverse items) deeds (λ key has.
        (comes_next p q place id does back items is.known.keyed did key (called_comes did.before did.after did.first did.last does back items did.called key (turned_has (Came key) items has))).1) (is.uncut device))
    by (tells_gone device (Ok done)) did = same (deeds_of (tells_gone device (Ok done)) ++ deeds) (part_keeping p q (tells_gone device (Ok done)) tt did).channel is.uncut
    by (tells_gone device (Err error)) did = same deeds (part_keeping p q (tells_gone device (Err error)) tt did).channel is.uncut
    by (tells_there device (Ok done)) did = same (deeds_of (tells_there device (Ok done)) ++ deeds) (part_keeping p q (tells_there device (Ok done)) tt did).channel is.uncut
    by (tells_there device (Err error)) did = same deeds (part_keeping p q (tells_there device (Err error)) tt did).channel is.uncut
    by (sends channel None) did = same deeds (part_keeping p q (sends channel None) tt did).channel is.uncut
    by (sends channel (Some o)) did = sent o.answers
      where
        number : (q.front).channel ≡ (p.front).channel
        number = (part_keeping p q (sends channel (Some o)) tt did).channel

        sent : (a : Option Key) → UncutAreOf (q.front).channel (sent_by channel o.message a ++ deeds)
        sent None = same (sent_by channel o.message None ++ deeds) number is.uncut
        sent (Some key) = same (sent_by channel o.message (Some key) ++ deeds) number is.uncut
    by (writes device c) did = same (deeds_of (writes device c) ++ deeds) (part_keeping p q (writes device c) tt did).channel is.uncut
    by (unwritten device c) did = same deeds (part_keeping p q (unwritten device c) tt did).channel is.uncut
    by (learns n answer) did = same deeds (part_keeping p q (learns n answer) tt did).channel is.uncut
    by (refreshes device) did = same deeds (part_keeping p q (refreshes device) tt did).channel is.uncut
    by (begins channel) did = λ device. none_to (λ (key : Key). key.channel ≡ (q.front).channel) (uncut_keys (journal device deeds)) (off_cut p deeds is.known is.off did.1 device)
    by (ends over told) did =
        same (stored_each told ++ deeds) (ap (λ (s : FrontState). s.channel) did.2 ∙ (ended_is over p.front (q.front).desks).1)
        (λ device. uncut_ends (λ (key : Key). key.channel ≡ (p.front).channel) device over (p.front).desks p.stations told (q.front).desks q.stations deeds did.1 (is.uncut device))

part_dropping : (p q : Served) (x : FrontPart) (deeds : List Deed) → PartGoes p x q → AreOnChannel (p.front).channel (deeds_of x) → IsDropping p deeds → IsDropping q (deeds_of x ++ deeds)
part_dropping p q x deeds goes here is = record {
  known = part_known p q x deeds goes is.known;
  off = part_off p q x deeds goes is.known.keyed is.known.told is.off;
  unwrote = λ c above.
      let rise = part_rises p q x goes in
      part_wrote c (p.front).channel x deeds here ∙ ap (λ (ms : List (List ℕ)). ms ++ client_wrote c deeds) (other_number c (p.front).channel (cons_option (handed_by x) []) (λ same. omega (arith, same, rise, above))) ∙ is.unwrote c (omega (arith, rise, above));
  uncut = part_uncut p q x deeds goes is;
  each = part_each p q x deeds goes here is;
}

parts_dropping : (ps : List FrontPart) (p q : Served) (deeds : List Deed) (goes : PartsGo p ps q) → PartsOnChannel p ps q goes → IsDropping p deeds → IsDropping q (deeds_after ps deeds)
parts_dropping [] p q deeds goes here is = subst (λ (s : Served). IsDropping s deeds) (sym goes) is
parts_dropping (x ∷ ps) p q deeds goes here is = parts_dropping ps goes.0 q (deeds_of x ++ deeds) goes.2 here.1 (part_dropping p goes.0 x deeds goes.1 here.0 is)

history_dropping : (entries : List FrontEntry) (parts : List (List FrontPart)) (p q : Served) (deeds : List Deed) (goes : HistoryGoes p entries parts q) → EachOnChannel p entries parts q goes → IsDropping p deeds → IsDropping q (deeds_of_calls parts deeds)
history_dropping [] [] p q deeds goes here is = subst (λ (s : Served). IsDropping s deeds) (sym goes) is
history_dropping [] (ps ∷ parts) p q deeds goes here is = absurd goes
history_dropping (e ∷ entries) [] p q deeds goes here is = absurd goes
history_dropping (e ∷ entries) (ps ∷ parts) p q deeds goes here is = history_dropping entries parts goes.0 q (deeds_after ps deeds) goes.2 here.1 (parts_dropping ps p goes.0 deeds (goes.1).goes here.0 is)

-- ---- no channel is on at the end

-- whether the channel was ended by the calls
abbrev ended_by : Bool → FrontCall → Bool
ended_by was call.EndChannel = true
ended_by was (call.Begin channel) = false
ended_by was does = was

abbrev ended_after : Bool → List FrontEntry → Bool
ended_after was [] = was
ended_after was (e ∷ entries) = ended_after (ended_by was e.call) entries

part_still : (p q : Served) (x : FrontPart) → PartGoes p x q → (q.front).channel ≤ (p.front).channel → (p.front).on ≡ false → (q.front).on ≡ false
part_still p q x goes low off = by x goes
  where
    by : (y : FrontPart) → PartGoes p y q → (q.front).on ≡ false
    by (hears channel m answer) did = ap (λ (s : FrontState). s.on) (did.3).1 ∙ off
    by (begins channel) did =
        let number : (q.front).channel ≡ channel = ap (λ (s : Served). (s.front).channel) did.3 in
        let more = did.2 in
        absurd (omega (arith, number, more, low))
    by (ends over told) did = ap (λ (s : FrontState). s.on) did.2 ∙ (ended_is over p.front (q.front).desks).0
    by tries did = (part_keeping p q tries tt did).on ∙ off
    by keeps did = (part_keeping p q keeps tt did).on ∙ off
    by forgets did = (part_keeping p q forgets tt did).on ∙ off
    by misplaces did = (part_keeping p q misplaces tt did).on ∙ off
    by (directs st answer) did = (part_keeping p q (directs st answer) tt did).on ∙ off
    by (calls place id does back items) did = (part_keeping p q (calls place id does back items) tt did).on ∙ off
    by (tells_gone device answer) did = (part_keeping p q (tells_gone device answer) tt did).on ∙ off
    by (tells_there device answer) did = (part_keeping p q (tells_there device answer) tt did).on ∙ off
    by (sends channel o) did = (part_keeping p q (sends channel o) tt did).on ∙ off
    by (writes device c) did = (part_keeping p q (writes device c) tt did).on ∙ off
    by (unwritten device c) did = (part_keeping p q (unwritten device c) tt did).on ∙ off
    by (learns n answer) did = (part_keeping p q (learns n answer) tt did).on ∙ off
    by (refreshes device) did = (part_keeping p q (refreshes device) tt did).on ∙ off

parts_still : (ps : List FrontPart) (p q : Served) → PartsGo p ps q → (q.front).channel ≤ (p.front).channel → (p.front).on ≡ false → (q.front).on ≡ false
parts_still [] p q goes low off = ap (λ (s : Served). (s.front).on) goes ∙ off
parts_still (x ∷ ps) p q goes low off =
    let first = part_rises p goes.0 x goes.1 in
    let rest = parts_rise ps goes.0 q goes.2 in
    parts_still ps goes.0 q goes.2 (omega (arith, first, low)) (part_still p goes.0 x goes.1 (omega (arith, rest, low)) off)

ended_off : (old new : FrontState) (back : FrontReply) → FrontStep old call.EndChannel back new → new.on ≡ false
ended_off old new back step = by old.on refl step
  where
    by : (b : Bool) → old.on ≡ b → Where b reply.Refused back old new ((back ≡ done_at None new) × ChannelEnds old new) → new.on ≡ false
    by true on did = ap (λ (s : FrontState). s.on) (did.1).1
    by false off did = ap (λ (s : FrontState). s.on) did.1 ∙ off

-- once a channel was ended, none is on until the next begins
call_off : (was : Bool) (does : FrontCall) (back : FrontReply) (ps : List FrontPart) (p q : Served) → PartsGo p ps q → FrontStep p.front does back q.front → (was ≡ true → (p.front).on ≡ false) → ended_by was does ≡ true → (q.front).on ≡ false
call_off was does back ps p q goes step off is = by does step is
  where
    still : (d : FrontCall) → FrontStep p.front d back q.front → begun_to (p.front).channel d back ≡ (p.front).channel → was ≡ true → (q.front).on ≡ false
    still d did same ended = parts_still ps p q goes (let number = tracks p.front d back q.front did ∙ same in omega (arith, number)) (off ended)

    by : (d : FrontCall) → FrontStep p.front d back q.front → ended_by was d ≡ true → (q.front).on ≡ false
    by call.EndChannel did ended = ended_off p.front q.front back did
    by (call.Begin channel) did ended = absurd (cc (ended))
    by (call.Hear message) did ended = still (call.Hear message) did refl ended
    by call.Retry did ended = still call.Retry did refl ended
    by (call.Next channel place room) did ended = still (call.Next channel place room) did refl ended
    by (call.Remove device) did ended = still (call.Remove device) did refl ended
    by (call.Add device) did ended = still (call.Add device) did refl ended
    by call.Look did ended = still call.Look did refl ended
    by call.EndSession did ended = still call.EndSession did refl ended

history_off : (entries : List FrontEntry) (parts : List (List FrontPart)) (was : Bool) (p q : Served) (goes : HistoryGoes p entries parts q) → AreSteps p entries parts q goes → (was ≡ true → (p.front).on ≡ false) → ended_after was entries ≡ true → (q.front).on ≡ false
history_off [] [] was p q goes steps off is = ap (λ (s : Served). (s.front).on) goes ∙ off is
history_off [] (ps ∷ parts) was p q goes steps off is = absurd goes
history_off (e ∷ entries) [] was p q goes steps off is = absurd goes
history_off (e ∷ entries) (ps ∷ parts) was p q goes steps off is =
    history_off entries parts (ended_by was e.call) goes.0 q goes.2 steps.1 (call_off was e.call e.reply ps p goes.0 (goes.1).goes steps.0 off) is

asked_still : (was : Bool) (does : FrontCall) → asks_any does ≡ true → ended_by was does ≡ was
asked_still was (call.Next channel place room) asks = refl
asked_still was (call.Begin channel) asks = absurd (cc (asks))
asked_still was (call.Hear message) asks = refl
asked_still was call.Retry asks = refl
asked_still was (call.Remove device) asks = refl
asked_still was (call.Add device) asks = refl
asked_still was call.Look asks = refl
asked_still was call.EndChannel asks = absurd (cc (asks))
asked_still was call.EndSession asks = refl

ended_reader : (entries : List FrontEntry) (was : Bool) → ended_after was entries ≡ ended_after was (reader_calls entries)
ended_reader [] was = refl
ended_reader (e ∷ entries) was = by (asks_any e.call) refl (ended_reader entries)
  where
    by : (b : Bool) → asks_any e.call ≡ b → ((w : Bool) → ended_after w entries ≡ ended_after w (reader_calls entries)) → ended_after was (e ∷ entries) ≡ ended_after was (if b then reader_calls entries else e ∷ reader_calls entries)
    by true asks more = ap (λ (w : Bool). ended_after w entries) (asked_still was e.call asks) ∙ more was
    by false asks more = more (ended_by was e.call)

ended_both : (xs ys : List FrontEntry) (was : Bool) → ended_after was (xs ++ ys) ≡ ended_after (ended_after was xs) ys
ended_both [] ys was = refl
ended_both (e ∷ xs) ys was = ended_both xs ys (ended_by was e.call)

run_ended : (r : ChannelRun) → IsChannelRun r → (was : Bool) → ended_after was r.calls ≡ true
run_ended r is was =
    let w = is.whole in
    let begun : Bool = ended_by was (w.begin).call in
    ap (ended_after was) w.whole_are ∙ ended_both (r.reading).calls (w.end ∷ []) begun ∙ ap (λ (does : FrontCall). ended_by (ended_after begun (r.reading).calls) does) w.ends

runs_ended : (runs : List ChannelRun) (last : FrontEntry) → last.call ≡ call.EndSession → AllByRecursion IsChannelRun runs → ended_after true (calls_by_all runs ++ last ∷ []) ≡ true
runs_ended [] last over each = ap (λ (does : FrontCall). ended_by true does) over
runs_ended (r ∷ runs) last over each =
    ap (ended_after true) (append_assoc r.calls (calls_by_all runs) (last ∷ [])) ∙ ended_both r.calls (calls_by_all runs ++ last ∷ []) true
    ∙ ap (λ (w : Bool). ended_after w (calls_by_all runs ++ last ∷ [])) (run_ended r each.0 true) ∙ runs_ended runs last over each.1

-- ---- a session

none_left : (keys : List Key) → AllByRecursion (λ (key : Key). ⊥) keys → keys ≡ []
none_left [] all = refl
none_left (key ∷ keys) all = absurd all.0

-- What a session leaves of its channels at the devices.
pub record AreDropped (deeds : List Deed) : Type 0 where
  pub each : EachAfter EndsFirst deeds
  pub last : (device : ℕ) → uncut_keys (journal device deeds) ≡ []

pub all_dropped : (runs : List ChannelRun) (last : FrontEntry) (entries : List FrontEntry) (parts : List (List FrontPart)) (old new : Served) (goes : HistoryGoes old entries parts new) → AreSteps old entries parts new goes → EachOnChannel old entries parts new goes → BeginsNew old
    → reader_calls entries ≡ calls_by_all runs ++ last ∷ [] → last.call ≡ call.EndSession → AllByRecursion IsChannelRun runs → AreDropped (deeds_of_calls parts [])
all_dropped runs last entries parts old new goes steps here start whole over each =
    let is = history_dropping entries parts old new [] goes here (record {
      known = begins_known old start.new start.apart start.stationed start.idle_is;
      off = λ none place d s at. ap (λ (x : Of). x.live) (new_at (old.front).desks old.stations start.new.desks start.stationed place d s at.0 at.1).1;
      unwrote = λ c above. refl;
      uncut = λ device. tt;
      each = tt;
    }) in
    let off = history_off entries parts true old new goes steps (λ ended. start.new.off) (ended_reader entries true ∙ ap (ended_after true) whole ∙ runs_ended runs last over each) in
    record {
      each = is.each;
      last = λ device. none_left (uncut_keys (journal device (deeds_of_calls parts []))) (off_cut new (deeds_of_calls parts []) is.known is.off off device);
    }
