-- A front's history by its calls and by their parts at once; and which messages the deeds of the parts have on each channel, by the calls.
use Rattle.std.proofs.Common.{◌≡◌, ◌∙◌, ◌≤◌, refl, sym, ap, subst, inl, inr, ℕ, ◌==◌, Bool, true, false, List, [], ◌∷◌, ◌++◌, map, reverse, Option, Some, None, append_assoc, arith}
use Rattle.std.specs.Prelude.{Result, Ok, Err, filter_map, if◌then◌else◌}
use Rattle.std.specs.List.{AllByRecursion, cons_option}
use Rattle.std.proofs.lemmas.List.{reverse-append}
use Rattle.rd_base.specs.declared.journal.Item.{Item}
use Rattle.rd_base.specs.declared.journal.Key.{Key}
use Rattle.rd_front.specs.Calls.{FrontEntry}
use Rattle.rd_front.specs.Front.{FrontStep}
use Rattle.rd_room.specs.Room.{MessageRoom}
use Rattle.rd_front.specs.State.{DeviceDeskState, FrontState, SessionStation}
use Rattle.rd_front.specs.declared.calls.FrontCall.{FrontCall}
use Rattle.rd_front.specs.declared.calls.FrontCall.TheVariants as call
use Rattle.rd_front.specs.declared.calls.FrontReply.{FrontReply}
use Rattle.rd_front.specs.declared.calls.FrontReply.TheVariants as reply
use Rattle.rd_client.specs.declared.heard.Heard.{Heard}
use Rattle.rd_hello.specs.declared.end_fault.EndFault.{EndFault}
use Rattle.rd_hello.specs.declared.end_fault.EndFault.TheVariants as fault
use Rattle.rd_served_causes.proofs.JournalsHeldLemmas.{stored_unread}
use Rattle.rd_turn.specs.History.{Leads}
use Rattle.rd_world.specs.Events.{completion_message}
use Rattle.rd_deeds.specs.Talk.{Deed, client_read, client_wrote, on, stores}
use Rattle.rd_workers.specs.Logs.{asks_any, given_by, messages_by, messages_for}
use Rattle.rd_served_causes.proofs.ServedWalkLemmas.{call_goes, served}
use Rattle.rd_served_causes.specs.ServedDeeds.{AreOnChannel, EachOnChannel, PartsOnChannel, deeds_after, deeds_of, deeds_of_calls, sent_by, stored, stored_each}
use Rattle.rd_served_causes.specs.ServedHistories.{AreStationed, CallGoes, HearsAs, HistoryGoes, StartsBy, handed_out, may_start}
use Rattle.rd_served_causes.specs.ServedParts.{FrontPart, PartGoes, PartsGo, begins, calls, directs, ends, forgets, handed_by, heard_in, is_start, keeps, learns, misplaces, refreshes, sends, tells_gone, tells_there, tries, unwritten, writes}
use Rattle.rd_served_causes.specs.ServedParts as part
use Rattle.rd_served_causes.specs.ServedServed.{Served, idle}
use Rattle.rd_served_sessions.proofs.CallLemmas.{given_on, none_on, on_channel}
use Rattle.rd_workers.proofs.RunLemmas.{DoesSurely}
use Rattle.rd_served_sessions.proofs.StillLemmas.{NextSays, begun_to, is_messages, next_says, refreshed_same, silent, tracks}
use Rattle.rd_served_sessions.specs.Steps.{AreSteps}

abbrev Of : Type 0
Of = SessionStation

-- ---- both at once

-- A history with the stations after it.
pub record Chain (p : FrontState) (entries : List FrontEntry) (q : FrontState) (after : List Of) : Type 0 where
  pub stations : List Of
  pub at : AreStationed p.desks stations
  pub parts : List (List FrontPart)
  pub goes : HistoryGoes (served p idle stations) entries parts (served q idle after)
  pub steps : AreSteps (served p idle stations) entries parts (served q idle after) goes

pub chain_of : (p : FrontState) (entries : List FrontEntry) (q : FrontState) → Leads FrontStep p entries q → (after : List Of) → AreStationed q.desks after → Chain p entries q after
chain_of p [] q is after at =
    record { stations = after; at = subst (λ (s : FrontState). AreStationed s.desks after) (sym is) at; parts = []; goes = ap (λ (s : FrontState). served s idle after) (sym is); steps = tt }
chain_of p (e ∷ entries) q leads after at =
    let more = chain_of leads.0 entries q leads.2 after at in
    let one = call_goes p e.call e.reply leads.0 leads.1 more.stations more.at in
    record { stations = one.stations; at = one.at; parts = one.parts ∷ more.parts; goes = (served leads.0 idle more.stations, one.goes, more.goes); steps = (leads.1, more.steps) }

-- ---- what stations store is neither read nor written

pub stored_unwritten : (d c : ℕ) (xs : List Item) (deeds : List Deed) → client_wrote c (map (stores d) xs ++ deeds) ≡ client_wrote c deeds
stored_unwritten d c [] deeds = refl
stored_unwritten d c (x ∷ xs) deeds = stored_unwritten d c xs deeds

each_unwritten : (told : List (ℕ × List Item)) (c : ℕ) (deeds : List Deed) → client_wrote c (stored_each told ++ deeds) ≡ client_wrote c deeds
each_unwritten [] c deeds = refl
each_unwritten (t ∷ told) c deeds = ap (client_wrote c) (append_assoc (stored_each told) (stored t.0 t.1) deeds) ∙ each_unwritten told c (stored t.0 t.1 ++ deeds) ∙ stored_unwritten t.0 c (reverse t.1) deeds

each_unread : (told : List (ℕ × List Item)) (c : ℕ) (deeds : List Deed) → client_read c (stored_each told ++ deeds) ≡ client_read c deeds
each_unread [] c deeds = refl
each_unread (t ∷ told) c deeds = ap (client_read c) (append_assoc (stored_each told) (stored t.0 t.1) deeds) ∙ each_unread told c (stored t.0 t.1 ++ deeds) ∙ stored_unread t.0 c (reverse t.1) deeds

-- ---- what a part reads

-- whether a part hears a message
abbrev pub hears_one : FrontPart → Bool
hears_one (part.hears channel message answer) = true
hears_one _ = false

start_hears : (x : FrontPart) → is_start x ≡ false → hears_one x ≡ false
start_hears (part.hears channel message answer) is = absurd (cc (is))
start_hears tries is = refl
start_hears keeps is = refl
start_hears forgets is = refl
start_hears misplaces is = refl
start_hears (directs st answer) is = refl
start_hears (calls place id does back items) is = refl
start_hears (tells_gone device answer) is = refl
start_hears (tells_there device answer) is = refl
start_hears (sends channel o) is = refl
start_hears (writes device c) is = refl
start_hears (unwritten device c) is = refl
start_hears (learns n answer) is = refl
start_hears (refreshes device) is = refl
start_hears (begins channel) is = refl
start_hears (ends over told) is = refl

-- one that hears none reads none
pub part_unread : (c : ℕ) (x : FrontPart) (before : List Deed) → hears_one x ≡ false → client_read c (deeds_of x ++ before) ≡ client_read c before
part_unread c (part.hears channel message answer) before is = absurd (cc (is))
part_unread c tries before is = refl
part_unread c keeps before is = refl
part_unread c forgets before is = refl
part_unread c misplaces before is = refl
part_unread c (directs st answer) before is = refl
part_unread c (calls place id does back items) before is = stored_unread id c (reverse items) before
part_unread c (tells_gone device (Ok done)) before is = refl
part_unread c (tells_gone device (Err error)) before is = refl
part_unread c (tells_there device (Ok done)) before is = refl
part_unread c (tells_there device (Err error)) before is = refl
part_unread c (sends channel None) before is = refl
part_unread c (sends channel (Some o)) before is = by o.answers
  where
    by : (answers : Option Key) → client_read c (sent_by channel o.message answers ++ before) ≡ client_read c before
    by None = refl
    by (Some key) = refl
part_unread c (writes device done) before is = refl
part_unread c (unwritten device done) before is = refl
part_unread c (learns n answer) before is = refl
part_unread c (refreshes device) before is = refl
part_unread c (begins channel) before is = refl
part_unread c (ends over told) before is = each_unread told c before

part_unheard : (x : FrontPart) → hears_one x ≡ false → heard_in x ≡ None
part_unheard (part.hears channel message answer) is = absurd (cc (is))
part_unheard tries is = refl
part_unheard keeps is = refl
part_unheard forgets is = refl
part_unheard misplaces is = refl
part_unheard (directs st answer) is = refl
part_unheard (calls place id does back items) is = refl
part_unheard (tells_gone device answer) is = refl
part_unheard (tells_there device answer) is = refl
part_unheard (sends channel o) is = refl
part_unheard (writes device c) is = refl
part_unheard (unwritten device c) is = refl
part_unheard (learns n answer) is = refl
part_unheard (refreshes device) is = refl
part_unheard (begins channel) is = refl
part_unheard (ends over told) is = refl

abbrev pub StartNone : List FrontPart → Type 0
StartNone ps = AllByRecursion (λ (x : FrontPart). is_start x ≡ false) ps

pub rest_unread : (c : ℕ) (ps : List FrontPart) (before : List Deed) → StartNone ps → client_read c (deeds_after ps before) ≡ client_read c before
rest_unread c [] before none = refl
rest_unread c (x ∷ ps) before none = rest_unread c ps (deeds_of x ++ before) none.1 ∙ part_unread c x before (start_hears x none.0)

pub rest_unheard : (ps : List FrontPart) → StartNone ps → filter_map heard_in ps ≡ []
rest_unheard [] none = refl
rest_unheard (x ∷ ps) none = ap (λ (o : Option (List ℕ)). cons_option o (filter_map heard_in ps)) (part_unheard x (start_hears x none.0)) ∙ rest_unheard ps none.1

one_on : (c channel : ℕ) (m : List ℕ) (later : List (List ℕ)) → cons_option (on c channel m) later ≡ on_channel c channel (m ∷ []) ++ later
one_on c channel m later = by (channel == c)
  where
    by : (b : Bool) → cons_option (if b then Some m else None) later ≡ (if b then m ∷ [] else []) ++ later
    by true = refl
    by false = refl

nothing_on : (c now : ℕ) (later : List (List ℕ)) → later ≡ on_channel c now [] ++ later
nothing_on c now later = ap (λ (ms : List (List ℕ)). ms ++ later) (sym (none_on c now))

hear_read : (c channel : ℕ) (message : List ℕ) (answer : Result Heard EndFault) (before : List Deed)
    → client_read c (deeds_of (part.hears channel message answer) ++ before) ≡ on_channel c channel (cons_option (heard_in (part.hears channel message answer)) []) ++ client_read c before
hear_read c channel message (Err fault.Memory) before = nothing_on c channel (client_read c before)
hear_read c channel message (Err (fault.Order state packet)) before = one_on c channel message (client_read c before)
hear_read c channel message (Err (fault.Grammar bad)) before = one_on c channel message (client_read c before)
hear_read c channel message (Ok heard) before = one_on c channel message (client_read c before)

-- What a call reads stands on the channel that began last.
pub parts_read : (c : ℕ) (starts : Bool) (ps : List FrontPart) (p q : Served) → PartsGo p ps q → StartsBy starts ps → (before : List Deed)
    → client_read c (deeds_after ps before) ≡ on_channel c (p.front).channel (filter_map heard_in ps) ++ client_read c before
parts_read c false ps p q goes first before =
    rest_unread c ps before first ∙ nothing_on c (p.front).channel (client_read c before) ∙ ap (λ (ms : List (List ℕ)). on_channel c (p.front).channel ms ++ client_read c before) (sym (rest_unheard ps first))
parts_read c true [] p q goes first before = nothing_on c (p.front).channel (client_read c before)
parts_read c true (x ∷ ps) p q goes first before = rest_unread c ps (deeds_of x ++ before) first ∙ by x goes.1
  where
    none : filter_map heard_in ps ≡ []
    none = rest_unheard ps first

    silent_by : (y : FrontPart) → hears_one y ≡ false → client_read c (deeds_of y ++ before) ≡ on_channel c (p.front).channel (cons_option (heard_in y) (filter_map heard_in ps)) ++ client_read c before
    silent_by y is =
        part_unread c y before is ∙ nothing_on c (p.front).channel (client_read c before)
        ∙ ap (λ (ms : List (List ℕ)). on_channel c (p.front).channel ms ++ client_read c before) (sym (ap (λ (o : Option (List ℕ)). cons_option o (filter_map heard_in ps)) (part_unheard y is) ∙ none))

    by : (y : FrontPart) → PartGoes p y goes.0 → client_read c (deeds_of y ++ before) ≡ on_channel c (p.front).channel (cons_option (heard_in y) (filter_map heard_in ps)) ++ client_read c before
    by (part.hears channel message answer) one =
        hear_read c channel message answer before
        ∙ ap (λ (n : ℕ). on_channel c n (cons_option (heard_in (part.hears channel message answer)) []) ++ client_read c before) one.0
        ∙ ap (λ (ms : List (List ℕ)). on_channel c (p.front).channel (cons_option (heard_in (part.hears channel message answer)) ms) ++ client_read c before) (sym none)
    by tries one = silent_by tries refl
    by keeps one = silent_by keeps refl
    by forgets one = silent_by forgets refl
    by misplaces one = silent_by misplaces refl
    by (directs st answer) one = silent_by (directs st answer) refl
    by (calls place id does back items) one = silent_by (calls place id does back items) refl
    by (tells_gone device answer) one = silent_by (tells_gone device answer) refl
    by (tells_there device answer) one = silent_by (tells_there device answer) refl
    by (sends channel o) one = silent_by (sends channel o) refl
    by (writes device done) one = silent_by (writes device done) refl
    by (unwritten device done) one = silent_by (unwritten device done) refl
    by (learns n answer) one = silent_by (learns n answer) refl
    by (refreshes device) one = silent_by (refreshes device) refl
    by (begins channel) one = silent_by (begins channel) refl
    by (ends over told) one = silent_by (ends over told) refl

pub surely_heard : (does : FrontCall) (back : FrontReply) (heard : List (List ℕ)) → HearsAs does back heard → DoesSurely does back → heard ≡ given_by does back
surely_heard (call.Hear message) reply.Refused heard is sure = is
surely_heard (call.Hear message) reply.Full heard is sure = is
surely_heard (call.Hear message) reply.Memory heard is sure = absurd sure
surely_heard (call.Hear message) (reply.Done at full) heard is sure = is
surely_heard (call.Hear message) (reply.Stands ready asked) heard is sure = is
surely_heard (call.Hear message) reply.Kept heard is sure = is
surely_heard (call.Hear message) (reply.Wrong cause) heard is sure = is
surely_heard (call.Hear message) (reply.Duplicate key) heard is sure = is
surely_heard (call.Hear message) reply.Unfit heard is sure = is
surely_heard (call.Hear message) (reply.Messages filled left) heard is sure = is
surely_heard (call.Begin channel) back heard is sure = is
surely_heard call.Retry back heard is sure = is
surely_heard (call.Next channel place room) back heard is sure = is
surely_heard (call.Remove device) back heard is sure = is
surely_heard (call.Add device) back heard is sure = is
surely_heard call.Look back heard is sure = is
surely_heard call.EndChannel back heard is sure = is
surely_heard call.EndSession back heard is sure = is

-- at most one message
heard_turned : (c now : ℕ) (does : FrontCall) (back : FrontReply) → reverse (on_channel c now (given_by does back)) ≡ on_channel c now (given_by does back)
heard_turned c now does back = by (now == c)
  where
    one : (d : FrontCall) (r : FrontReply) → reverse (given_by d r) ≡ given_by d r
    one (call.Hear message) reply.Refused = refl
    one (call.Hear message) reply.Full = refl
    one (call.Hear message) reply.Memory = refl
    one (call.Hear message) (reply.Done at full) = refl
    one (call.Hear message) (reply.Stands ready asked) = refl
    one (call.Hear message) reply.Kept = refl
    one (call.Hear message) (reply.Wrong cause) = refl
    one (call.Hear message) (reply.Duplicate key) = refl
    one (call.Hear message) reply.Unfit = refl
    one (call.Hear message) (reply.Messages filled left) = refl
    one (call.Begin channel) r = refl
    one call.Retry r = refl
    one (call.Next channel place room) r = refl
    one (call.Remove device) r = refl
    one (call.Add device) r = refl
    one call.Look r = refl
    one call.EndChannel r = refl
    one call.EndSession r = refl

    by : (b : Bool) → reverse (if b then given_by does back else []) ≡ (if b then given_by does back else [])
    by true = one does back
    by false = refl

-- What a history reads on a channel is what its calls hear there.
pub history_read : (c : ℕ) (entries : List FrontEntry) (parts : List (List FrontPart)) (p q : Served) (goes : HistoryGoes p entries parts q) → AreSteps p entries parts q goes → AllByRecursion (λ (e : FrontEntry). DoesSurely e.call e.reply) entries
    → (deeds : List Deed) → client_read c (deeds_of_calls parts deeds) ≡ reverse (given_on given_by c (p.front).channel entries) ++ client_read c deeds
history_read c [] [] p q goes steps sure deeds = refl
history_read c [] (ps ∷ parts) p q goes steps sure deeds = absurd goes
history_read c (e ∷ entries) [] p q goes steps sure deeds = absurd goes
history_read c (e ∷ entries) (ps ∷ parts) p q goes steps sure deeds =
    let now = (p.front).channel in
    let mine = on_channel c now (given_by e.call e.reply) in
    let others = given_on given_by c (begun_to now e.call e.reply) entries in
    let did = goes.1 in
    let heard : filter_map heard_in ps ≡ given_by e.call e.reply = surely_heard e.call e.reply (filter_map heard_in ps) did.heard sure.0 in
    let one : client_read c (deeds_after ps deeds) ≡ mine ++ client_read c deeds =
    parts_read c (may_start e.call e.reply) ps p goes.0 did.goes (did.tells).first deeds ∙ ap (λ (ms : List (List ℕ)). on_channel c now ms ++ client_read c deeds) heard in
    history_read c entries parts goes.0 q goes.2 steps.1 sure.1 (deeds_after ps deeds)
    ∙ ap (λ (n : ℕ). reverse (given_on given_by c n entries) ++ client_read c (deeds_after ps deeds)) (tracks p.front e.call e.reply (goes.0).front steps.0)
    ∙ ap (λ (ms : List (List ℕ)). reverse others ++ ms) one
    ∙ sym (append_assoc (reverse others) mine (client_read c deeds))
    ∙ ap (λ (ms : List (List ℕ)). (reverse others ++ ms) ++ client_read c deeds) (sym (heard_turned c now e.call e.reply))
    ∙ ap (λ (ms : List (List ℕ)). ms ++ client_read c deeds) (sym (reverse-append mine others))

-- ---- what a part writes

part_unwrote : (c : ℕ) (x : FrontPart) (before : List Deed) → handed_by x ≡ None → client_wrote c (deeds_of x ++ before) ≡ client_wrote c before
part_unwrote c (part.hears channel message (Err fault.Memory)) before is = refl
part_unwrote c (part.hears channel message (Err (fault.Order state packet))) before is = refl
part_unwrote c (part.hears channel message (Err (fault.Grammar bad))) before is = refl
part_unwrote c (part.hears channel message (Ok heard)) before is = refl
part_unwrote c tries before is = refl
part_unwrote c keeps before is = refl
part_unwrote c forgets before is = refl
part_unwrote c misplaces before is = refl
part_unwrote c (directs st answer) before is = refl
part_unwrote c (calls place id does back items) before is = stored_unwritten id c (reverse items) before
part_unwrote c (tells_gone device (Ok done)) before is = refl
part_unwrote c (tells_gone device (Err error)) before is = refl
part_unwrote c (tells_there device (Ok done)) before is = refl
part_unwrote c (tells_there device (Err error)) before is = refl
part_unwrote c (sends channel None) before is = refl
part_unwrote c (sends channel (Some o)) before is = absurd (cc (is))
part_unwrote c (writes device done) before is = absurd (cc (is))
part_unwrote c (unwritten device done) before is = refl
part_unwrote c (learns n answer) before is = refl
part_unwrote c (refreshes device) before is = refl
part_unwrote c (begins channel) before is = refl
part_unwrote c (ends over told) before is = each_unwritten told c before

none_wrote : (c n : ℕ) (x : FrontPart) (before : List Deed) → handed_by x ≡ None → client_wrote c (deeds_of x ++ before) ≡ on_channel c n (cons_option (handed_by x) []) ++ client_wrote c before
none_wrote c n x before is =
    part_unwrote c x before is ∙ nothing_on c n (client_wrote c before) ∙ ap (λ (o : Option (List ℕ)). on_channel c n (cons_option o []) ++ client_wrote c before) (sym is)

pub part_wrote : (c n : ℕ) (x : FrontPart) (before : List Deed) → AreOnChannel n (deeds_of x) → client_wrote c (deeds_of x ++ before) ≡ on_channel c n (cons_option (handed_by x) []) ++ client_wrote c before
part_wrote c n (sends channel (Some o)) before here = by o.answers here
  where
    by : (answers : Option Key) → AreOnChannel n (sent_by channel o.message answers) → client_wrote c (sent_by channel o.message answers ++ before) ≡ on_channel c n (o.message ∷ []) ++ client_wrote c before
    by None at = one_on c channel o.message (client_wrote c before) ∙ ap (λ (m : ℕ). on_channel c m (o.message ∷ []) ++ client_wrote c before) at.0
    by (Some key) at = one_on c key.channel o.message (client_wrote c before) ∙ ap (λ (m : ℕ). on_channel c m (o.message ∷ []) ++ client_wrote c before) at.0
part_wrote c n (writes device done) before here = one_on c done.key.channel (completion_message device done) (client_wrote c before) ∙ ap (λ (m : ℕ). on_channel c m (completion_message device done ∷ []) ++ client_wrote c before) here.0
part_wrote c n (part.hears channel message answer) before here = none_wrote c n (part.hears channel message answer) before refl
part_wrote c n tries before here = none_wrote c n tries before refl
part_wrote c n keeps before here = none_wrote c n keeps before refl
part_wrote c n forgets before here = none_wrote c n forgets before refl
part_wrote c n misplaces before here = none_wrote c n misplaces before refl
part_wrote c n (directs st answer) before here = none_wrote c n (directs st answer) before refl
part_wrote c n (calls place id does back items) before here = none_wrote c n (calls place id does back items) before refl
part_wrote c n (tells_gone device answer) before here = none_wrote c n (tells_gone device answer) before refl
part_wrote c n (tells_there device answer) before here = none_wrote c n (tells_there device answer) before refl
part_wrote c n (sends channel None) before here = none_wrote c n (sends channel None) before refl
part_wrote c n (unwritten device done) before here = none_wrote c n (unwritten device done) before refl
part_wrote c n (learns note answer) before here = none_wrote c n (learns note answer) before refl
part_wrote c n (refreshes device) before here = none_wrote c n (refreshes device) before refl
part_wrote c n (begins channel) before here = none_wrote c n (begins channel) before refl
part_wrote c n (ends over told) before here = none_wrote c n (ends over told) before refl

-- ---- channels rise

at_least : (m n : ℕ) → n ≡ m → m ≤ n
at_least m n is = omega (arith, is)

ended_channel : (over : Bool) (s : FrontState) (desks : List DeviceDeskState) → (part.ended_front over s desks).channel ≡ s.channel
ended_channel true s desks = refl
ended_channel false s desks = refl

pub part_rises : (p q : Served) (x : FrontPart) → PartGoes p x q → (p.front).channel ≤ (q.front).channel
part_rises p q (part.hears channel message answer) goes = at_least _ _ (ap (λ (s : FrontState). s.channel) (goes.3).1)
part_rises p q tries goes = at_least _ _ (ap (λ (s : Served). (s.front).channel) goes.4)
part_rises p q keeps goes = at_least _ _ (ap (λ (s : Served). (s.front).channel) goes.3)
part_rises p q forgets goes = at_least _ _ (ap (λ (s : Served). (s.front).channel) goes.4)
part_rises p q misplaces goes = at_least _ _ (ap (λ (s : Served). (s.front).channel) goes.3)
part_rises p q (directs st answer) goes = at_least _ _ (ap (λ (s : FrontState). s.channel) (goes.2).1)
part_rises p q (calls place id does back items) goes = at_least _ _ (ap (λ (s : FrontState). s.channel) goes.front_is)
part_rises p q (tells_gone device answer) goes = at_least _ _ (ap (λ (s : FrontState). s.channel) (goes.0).1)
part_rises p q (tells_there device answer) goes = at_least _ _ (ap (λ (s : FrontState). s.channel) (goes.0).1)
part_rises p q (sends channel o) goes = at_least _ _ (ap (λ (s : FrontState). s.channel) (goes.1).1)
part_rises p q (writes device done) goes = at_least _ _ (ap (λ (s : Served). (s.front).channel) goes.1)
part_rises p q (unwritten device done) goes = at_least _ _ (ap (λ (s : Served). (s.front).channel) goes.1)
part_rises p q (learns n answer) goes = at_least _ _ (ap (λ (s : Served). (s.front).channel) goes.1)
part_rises p q (refreshes device) goes = at_least _ _ (ap (λ (s : Served). (s.front).channel) goes ∙ refreshed_same p.front device)
part_rises p q (begins channel) goes =
    let more = goes.2 in let is : (q.front).channel ≡ channel = ap (λ (s : Served). (s.front).channel) goes.3 in omega (arith, more, is)
part_rises p q (ends over told) goes = at_least _ _ (ap (λ (s : FrontState). s.channel) goes.2 ∙ ended_channel over p.front (q.front).desks)

pub parts_rise : (ps : List FrontPart) (p q : Served) → PartsGo p ps q → (p.front).channel ≤ (q.front).channel
parts_rise [] p q is = at_least _ _ (ap (λ (s : Served). (s.front).channel) is)
parts_rise (x ∷ ps) p q goes = let one = part_rises p goes.0 x goes.1 in let more = parts_rise ps goes.0 q goes.2 in omega (arith, one, more)

-- ---- what calls write

turned_on : (c n : ℕ) (o : Option (List ℕ)) (ms later : List (List ℕ)) → reverse (on_channel c n ms) ++ (on_channel c n (cons_option o []) ++ later) ≡ reverse (on_channel c n (cons_option o ms)) ++ later
turned_on c n o ms later = by (n == c) o
  where
    by : (b : Bool) (x : Option (List ℕ)) → reverse (if b then ms else []) ++ ((if b then cons_option x [] else []) ++ later) ≡ reverse (if b then cons_option x ms else []) ++ later
    by true None = refl
    by true (Some m) = sym (append_assoc (reverse ms) (m ∷ []) later) ∙ ap (λ (l : List (List ℕ)). l ++ later) (sym (reverse-append (m ∷ []) ms))
    by false x = refl

-- parts on one channel
parts_wrote : (c n : ℕ) (ps : List FrontPart) (p q : Served) (goes : PartsGo p ps q) → PartsOnChannel p ps q goes → n ≤ (p.front).channel → (q.front).channel ≤ n → (before : List Deed)
    → client_wrote c (deeds_after ps before) ≡ reverse (on_channel c n (filter_map handed_by ps)) ++ client_wrote c before
parts_wrote c n [] p q goes here low high before = nothing_on c n (client_wrote c before) ∙ ap (λ (ms : List (List ℕ)). ms ++ client_wrote c before) (by (n == c))
  where
    by : (b : Bool) → ◌≡◌ {A = List (List ℕ)} (if b then [] else []) (reverse (if b then [] else []))
    by true = refl
    by false = refl
parts_wrote c n (x ∷ ps) p q goes here low high before =
    let one = part_rises p goes.0 x goes.1 in
    let more = parts_rise ps goes.0 q goes.2 in
    let is : (p.front).channel ≡ n = omega (arith, one, more, low, high) in
    parts_wrote c n ps goes.0 q goes.2 here.1 (omega (arith, one, low)) high (deeds_of x ++ before)
    ∙ ap (λ (ms : List (List ℕ)). reverse (on_channel c n (filter_map handed_by ps)) ++ ms) (part_wrote c n x before (subst (λ (m : ℕ). AreOnChannel m (deeds_of x)) is here.0))
    ∙ turned_on c n (handed_by x) (filter_map handed_by ps) (client_wrote c before)

-- parts that hand out none
parts_unwrote : (c : ℕ) (ps : List FrontPart) → filter_map handed_by ps ≡ [] → (before : List Deed) → client_wrote c (deeds_after ps before) ≡ client_wrote c before
parts_unwrote c [] none before = refl
parts_unwrote c (x ∷ ps) none before = by (λ rest. parts_unwrote c ps rest (deeds_of x ++ before)) (handed_by x) refl none
  where
    by : (filter_map handed_by ps ≡ [] → client_wrote c (deeds_after ps (deeds_of x ++ before)) ≡ client_wrote c (deeds_of x ++ before)) → (o : Option (List ℕ)) → handed_by x ≡ o → cons_option o (filter_map handed_by ps) ≡ []
        → client_wrote c (deeds_after ps (deeds_of x ++ before)) ≡ client_wrote c before
    by more None is rest = more rest ∙ part_unwrote c x before is
    by more (Some m) is rest = absurd (cc (rest))

none_handed : (back : FrontReply) → is_messages back ≡ false → handed_out back ≡ []
none_handed (reply.Messages filled left) none = absurd (cc (none))
none_handed (reply.Done at full) none = refl
none_handed (reply.Stands ready asked) none = refl
none_handed reply.Kept none = refl
none_handed (reply.Wrong cause) none = refl
none_handed (reply.Duplicate key) none = refl
none_handed reply.Unfit none = refl
none_handed reply.Memory none = refl
none_handed reply.Full none = refl
none_handed reply.Refused none = refl

unasked_none : (c : ℕ) (does : FrontCall) (back : FrontReply) → asks_any does ≡ false → messages_by c does back ≡ []
unasked_none c (call.Next channel place room) back is = absurd (cc is)
unasked_none c (call.Begin channel) back is = refl
unasked_none c (call.Hear message) back is = refl
unasked_none c call.Retry back is = refl
unasked_none c (call.Remove device) back is = refl
unasked_none c (call.Add device) back is = refl
unasked_none c call.Look back is = refl
unasked_none c call.EndChannel back is = refl
unasked_none c call.EndSession back is = refl

module _ (c : ℕ) (p q : Served) (ps : List FrontPart) (before : List Deed) where
  -- what a call writes
  abbrev Writes : FrontCall → FrontReply → Type 0
  Writes does back = client_wrote c (deeds_after ps before) ≡ reverse (messages_by c does back) ++ client_wrote c before

  call_unwrote : (does : FrontCall) (back : FrontReply) → messages_by c does back ≡ [] → filter_map handed_by ps ≡ [] → Writes does back
  call_unwrote does back none nothing = parts_unwrote c ps nothing before ∙ ap (λ (ms : List (List ℕ)). reverse ms ++ client_wrote c before) (sym none)

  unasked_wrote : (does : FrontCall) (back : FrontReply) → CallGoes p does back ps q → FrontStep p.front does back q.front → asks_any does ≡ false → Writes does back
  unasked_wrote does back goes step none = call_unwrote does back (unasked_none c does back none) (goes.handed ∙ none_handed back (silent p.front does back q.front step none))

  next_wrote : (channel place : ℕ) (room : MessageRoom) (back : FrontReply) → (goes : CallGoes p (call.Next channel place room) back ps q) → FrontStep p.front (call.Next channel place room) back q.front → PartsOnChannel p ps q goes.goes → Writes (call.Next channel place room) back
  next_wrote channel place room (reply.Messages filled left) goes step here = elim says.here [
    | inl same ↦
        parts_wrote c (p.front).channel ps p q goes.goes here (omega arith) (let is = says.same in omega (arith, is)) before
        ∙ ap (λ (ms : List (List ℕ)). reverse (on_channel c (p.front).channel ms) ++ client_wrote c before) goes.handed
        ∙ ap (λ (n : ℕ). reverse (on_channel c n filled.messages) ++ client_wrote c before) (sym same)
    | inr none ↦
        let is : filled ≡ record room { messages = [] } = cc (none) in
        let nothing : filled.messages ≡ [] = ap (λ (x : MessageRoom). x.messages) is in
        call_unwrote (call.Next channel place room) (reply.Messages filled left) (ap (λ (ms : List (List ℕ)). on_channel c channel ms) nothing ∙ none_on c channel) (goes.handed ∙ nothing)
  ]
    where
      says : NextSays p.front channel room (reply.Messages filled left) q.front
      says = next_says p.front channel place room (reply.Messages filled left) q.front step
  next_wrote channel place room (reply.Done at full) goes step here = call_unwrote (call.Next channel place room) (reply.Done at full) refl goes.handed
  next_wrote channel place room (reply.Stands ready asked) goes step here = call_unwrote (call.Next channel place room) (reply.Stands ready asked) refl goes.handed
  next_wrote channel place room reply.Kept goes step here = call_unwrote (call.Next channel place room) reply.Kept refl goes.handed
  next_wrote channel place room (reply.Wrong cause) goes step here = call_unwrote (call.Next channel place room) (reply.Wrong cause) refl goes.handed
  next_wrote channel place room (reply.Duplicate key) goes step here = call_unwrote (call.Next channel place room) (reply.Duplicate key) refl goes.handed
  next_wrote channel place room reply.Unfit goes step here = call_unwrote (call.Next channel place room) reply.Unfit refl goes.handed
  next_wrote channel place room reply.Memory goes step here = call_unwrote (call.Next channel place room) reply.Memory refl goes.handed
  next_wrote channel place room reply.Full goes step here = call_unwrote (call.Next channel place room) reply.Full refl goes.handed
  next_wrote channel place room reply.Refused goes step here = call_unwrote (call.Next channel place room) reply.Refused refl goes.handed

  pub call_wrote : (does : FrontCall) (back : FrontReply) → (goes : CallGoes p does back ps q) → FrontStep p.front does back q.front → PartsOnChannel p ps q goes.goes → Writes does back
  call_wrote (call.Next channel place room) back goes step here = next_wrote channel place room back goes step here
  call_wrote (call.Begin channel) back goes step here = unasked_wrote (call.Begin channel) back goes step refl
  call_wrote (call.Hear message) back goes step here = unasked_wrote (call.Hear message) back goes step refl
  call_wrote call.Retry back goes step here = unasked_wrote call.Retry back goes step refl
  call_wrote (call.Remove device) back goes step here = unasked_wrote (call.Remove device) back goes step refl
  call_wrote (call.Add device) back goes step here = unasked_wrote (call.Add device) back goes step refl
  call_wrote call.Look back goes step here = unasked_wrote call.Look back goes step refl
  call_wrote call.EndChannel back goes step here = unasked_wrote call.EndChannel back goes step refl
  call_wrote call.EndSession back goes step here = unasked_wrote call.EndSession back goes step refl

-- What a history writes on a channel is what its calls hand out for it.
pub history_wrote : (c : ℕ) (entries : List FrontEntry) (parts : List (List FrontPart)) (p q : Served) (goes : HistoryGoes p entries parts q) → AreSteps p entries parts q goes → EachOnChannel p entries parts q goes
    → (deeds : List Deed) → client_wrote c (deeds_of_calls parts deeds) ≡ reverse (messages_for c entries) ++ client_wrote c deeds
history_wrote c [] [] p q goes steps here deeds = refl
history_wrote c [] (ps ∷ parts) p q goes steps here deeds = absurd goes
history_wrote c (e ∷ entries) [] p q goes steps here deeds = absurd goes
history_wrote c (e ∷ entries) (ps ∷ parts) p q goes steps here deeds =
    let mine = messages_by c e.call e.reply in
    let others = messages_for c entries in
    history_wrote c entries parts goes.0 q goes.2 steps.1 here.1 (deeds_after ps deeds)
    ∙ ap (λ (ms : List (List ℕ)). reverse others ++ ms) (call_wrote c p goes.0 ps deeds e.call e.reply goes.1 steps.0 here.0)
    ∙ sym (append_assoc (reverse others) (reverse mine) (client_wrote c deeds))
    ∙ ap (λ (ms : List (List ℕ)). ms ++ client_wrote c deeds) (sym (reverse-append mine others))
