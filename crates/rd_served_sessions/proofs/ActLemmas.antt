-- What the front is told to tell of devices on each channel, by the calls of its history.
use Rattle.std.proofs.Common.{◌≡◌, ◌∙◌, ◌≤◌, refl, sym, ap, ℕ, Bool, true, false, List, [], ◌∷◌, ◌++◌, map, reverse, Option, Some, None, append-nil, append_assoc, arith}
use Rattle.std.specs.Prelude.{Ok, Err, filter_map, if◌then◌else◌}
use Rattle.std.specs.List.{AllByRecursion, cons_option, flat_map}
use Rattle.std.proofs.lemmas.List.{reverse-append}
use Rattle.std.proofs.lemmas.List.Elements.{filter_map-append}
use Rattle.rd_base.specs.declared.journal.Item.{Item}
use Rattle.rd_base.specs.declared.journal.Key.{Key}
use Rattle.rd_drive.proofs.AllLemmas.{all_append}
use Rattle.rd_front.specs.Calls.{FrontEntry}
use Rattle.rd_front.specs.Front.{FrontStep}
use Rattle.rd_front.specs.declared.calls.FrontCall.{FrontCall}
use Rattle.rd_front.specs.declared.calls.FrontCall.TheVariants as call
use Rattle.rd_front.specs.declared.calls.FrontReply.{FrontReply}
use Rattle.rd_front.specs.declared.calls.FrontReply.TheVariants as reply
use Rattle.rd_hello.specs.declared.end_fault.EndFault.TheVariants as fault
use Rattle.rd_world.specs.Acts.{act_by}
use Rattle.rd_world.specs.Control.{Act}
use Rattle.rd_deeds.specs.Talk.{Deed, stores}
use Rattle.rd_workers.specs.Channels.{ChannelRun, IsChannelRun, calls_by_all}
use Rattle.rd_workers.specs.Logs.{asks_any, reader_calls}
use Rattle.rd_served_causes.specs.ServedDeeds.{deeds_after, deeds_of, deeds_of_calls, sent_by, stored, stored_each}
use Rattle.rd_served_causes.specs.ServedHistories.{CallGoes, HistoryGoes, TellsOnce}
use Rattle.rd_served_causes.specs.ServedParts.{FrontPart, PartsGo, act_told, begins, calls, directs, ends, forgets, hears, keeps, learns, misplaces, refreshes, sends, tells_gone, tells_there, tries, unwritten, writes}
use Rattle.rd_served_causes.specs.ServedServed.{Served}
use Rattle.rd_served_causes.specs.ServedOrderTellings.{acts_on, part_acts, parts_acts}
use Rattle.rd_workers.proofs.RunLemmas.{DoesSurely}
use Rattle.rd_served_sessions.proofs.CallLemmas.{GivesInside, given_in, given_on, none_on, on_both, on_channel}
use Rattle.rd_served_sessions.proofs.ChainLemmas.{part_rises, parts_rise}
use Rattle.rd_served_sessions.proofs.StillLemmas.{tracks}
use Rattle.rd_served_sessions.specs.Acts.{act_done, acts_done}
use Rattle.rd_served_sessions.specs.Steps.{AreSteps}

-- ---- parts

part_as : (c : ℕ) (p : Served) (x : FrontPart) → part_acts c p x ≡ on_channel c (p.front).channel (cons_option (act_told x) [])
part_as c p (tells_gone device (Ok done)) = refl
part_as c p (tells_there device (Ok done)) = refl
part_as c p (tells_gone device (Err error)) = sym (none_on c (p.front).channel)
part_as c p (tells_there device (Err error)) = sym (none_on c (p.front).channel)
part_as c p (hears channel message answer) = sym (none_on c (p.front).channel)
part_as c p tries = sym (none_on c (p.front).channel)
part_as c p keeps = sym (none_on c (p.front).channel)
part_as c p forgets = sym (none_on c (p.front).channel)
part_as c p misplaces = sym (none_on c (p.front).channel)
part_as c p (directs st answer) = sym (none_on c (p.front).channel)
part_as c p (calls place id does back items) = sym (none_on c (p.front).channel)
part_as c p (sends channel sent) = sym (none_on c (p.front).channel)
part_as c p (writes device done) = sym (none_on c (p.front).channel)
part_as c p (unwritten device done) = sym (none_on c (p.front).channel)
part_as c p (learns n answer) = sym (none_on c (p.front).channel)
part_as c p (refreshes device) = sym (none_on c (p.front).channel)
part_as c p (begins channel) = sym (none_on c (p.front).channel)
part_as c p (ends over told) = sym (none_on c (p.front).channel)

first_on : (c n : ℕ) (o : Option Act) (acts : List Act) → on_channel c n (cons_option o []) ++ on_channel c n acts ≡ on_channel c n (cons_option o acts)
first_on c n None acts = ap (λ (xs : List Act). xs ++ on_channel c n acts) (none_on c n)
first_on c n (Some a) acts = sym (on_both c n (a ∷ []) acts)

-- parts on one channel
parts_as : (c n : ℕ) (ps : List FrontPart) (p q : Served) (goes : PartsGo p ps q) → n ≤ (p.front).channel → (q.front).channel ≤ n → parts_acts c p ps q goes ≡ on_channel c n (filter_map act_told ps)
parts_as c n [] p q goes low high = sym (none_on c n)
parts_as c n (x ∷ ps) p q goes low high =
    let one = part_rises p goes.0 x goes.1 in
    let more = parts_rise ps goes.0 q goes.2 in
    let is : (p.front).channel ≡ n = omega (arith, one, more, low, high) in
    ap (λ (xs : List Act). xs ++ parts_acts c goes.0 ps q goes.2) (part_as c p x ∙ ap (λ (m : ℕ). on_channel c m (cons_option (act_told x) [])) is)
    ∙ ap (λ (xs : List Act). on_channel c n (cons_option (act_told x) []) ++ xs) (parts_as c n ps goes.0 q goes.2 (omega (arith, one, low)) high)
    ∙ first_on c n (act_told x) (filter_map act_told ps)

-- parts that tell nothing
parts_untold : (c : ℕ) (ps : List FrontPart) (p q : Served) (goes : PartsGo p ps q) → filter_map act_told ps ≡ [] → parts_acts c p ps q goes ≡ []
parts_untold c [] p q goes none = refl
parts_untold c (x ∷ ps) p q goes none = by (parts_untold c ps goes.0 q goes.2) (act_told x) refl none
  where
    by : (filter_map act_told ps ≡ [] → parts_acts c goes.0 ps q goes.2 ≡ []) → (o : Option Act) → act_told x ≡ o → cons_option o (filter_map act_told ps) ≡ [] → part_acts c p x ++ parts_acts c goes.0 ps q goes.2 ≡ []
    by others None is rest =
        ap (λ (xs : List Act). xs ++ parts_acts c goes.0 ps q goes.2) (part_as c p x ∙ ap (λ (a : Option Act). on_channel c (p.front).channel (cons_option a [])) is ∙ none_on c (p.front).channel)
        ∙ others rest
    by others (Some a) is rest = absurd (cc (rest))

-- ---- calls

pub told_done : (does : FrontCall) (back : FrontReply) (acts : List Act) → TellsOnce does back acts → DoesSurely does back → acts ≡ act_done does back
told_done (call.Remove device) (reply.Done at full) acts is sure = is
told_done (call.Remove device) (reply.Stands ready asked) acts is sure = is
told_done (call.Remove device) reply.Kept acts is sure = is
told_done (call.Remove device) (reply.Wrong cause) acts is sure = is
told_done (call.Remove device) (reply.Duplicate key) acts is sure = is
told_done (call.Remove device) reply.Unfit acts is sure = is
told_done (call.Remove device) reply.Memory acts is sure = is
told_done (call.Remove device) reply.Full acts is sure = is
told_done (call.Remove device) reply.Refused acts is sure = is
told_done (call.Remove device) (reply.Messages filled left) acts is sure = is
told_done (call.Add device) (reply.Done at full) acts is sure = is
told_done (call.Add device) (reply.Stands ready asked) acts is sure = is
told_done (call.Add device) reply.Kept acts is sure = is
told_done (call.Add device) (reply.Wrong cause) acts is sure = is
told_done (call.Add device) (reply.Duplicate key) acts is sure = is
told_done (call.Add device) reply.Unfit acts is sure = is
told_done (call.Add device) reply.Memory acts is sure = absurd sure
told_done (call.Add device) reply.Full acts is sure = is
told_done (call.Add device) reply.Refused acts is sure = is
told_done (call.Add device) (reply.Messages filled left) acts is sure = is
told_done (call.Begin channel) back acts is sure = is
told_done (call.Hear message) back acts is sure = is
told_done call.Retry back acts is sure = is
told_done (call.Next channel place room) back acts is sure = is
told_done call.Look back acts is sure = is
told_done call.EndChannel back acts is sure = is
told_done call.EndSession back acts is sure = is

module _ (c : ℕ) (p q : Served) (ps : List FrontPart) where
  -- what a call tells
  abbrev Tells : FrontCall → FrontReply → PartsGo p ps q → Type 0
  Tells does back goes = parts_acts c p ps q goes ≡ on_channel c (p.front).channel (act_done does back)

  still_acts : (does : FrontCall) (back : FrontReply) (goes : CallGoes p does back ps q) → (q.front).channel ≡ (p.front).channel → DoesSurely does back → Tells does back goes.goes
  still_acts does back goes same sure =
      parts_as c (p.front).channel ps p q goes.goes (omega arith) (omega (arith, same)) ∙ ap (on_channel c (p.front).channel) (told_done does back (filter_map act_told ps) (goes.tells).acts sure)

  call_acts : (does : FrontCall) (back : FrontReply) (goes : CallGoes p does back ps q) → FrontStep p.front does back q.front → DoesSurely does back → Tells does back goes.goes
  call_acts (call.Begin channel) back goes step sure = parts_untold c ps p q goes.goes (goes.tells).acts ∙ sym (none_on c (p.front).channel)
  call_acts (call.Hear message) back goes step sure = still_acts (call.Hear message) back goes (tracks p.front (call.Hear message) back q.front step) sure
  call_acts call.Retry back goes step sure = still_acts call.Retry back goes (tracks p.front call.Retry back q.front step) sure
  call_acts (call.Next channel place room) back goes step sure = still_acts (call.Next channel place room) back goes (tracks p.front (call.Next channel place room) back q.front step) sure
  call_acts (call.Remove device) back goes step sure = still_acts (call.Remove device) back goes (tracks p.front (call.Remove device) back q.front step) sure
  call_acts (call.Add device) back goes step sure = still_acts (call.Add device) back goes (tracks p.front (call.Add device) back q.front step) sure
  call_acts call.Look back goes step sure = still_acts call.Look back goes (tracks p.front call.Look back q.front step) sure
  call_acts call.EndChannel back goes step sure = still_acts call.EndChannel back goes (tracks p.front call.EndChannel back q.front step) sure
  call_acts call.EndSession back goes step sure = still_acts call.EndSession back goes (tracks p.front call.EndSession back q.front step) sure

-- What a front was told to tell on a channel is what the calls there did.
pub history_acts : (c : ℕ) (entries : List FrontEntry) (parts : List (List FrontPart)) (p q : Served) (goes : HistoryGoes p entries parts q) → AreSteps p entries parts q goes → AllByRecursion (λ (e : FrontEntry). DoesSurely e.call e.reply) entries
    → acts_on c p entries parts q goes ≡ given_on act_done c (p.front).channel entries
history_acts c [] [] p q goes steps sure = refl
history_acts c [] (ps ∷ parts) p q goes steps sure = absurd goes
history_acts c (e ∷ entries) [] p q goes steps sure = absurd goes
history_acts c (e ∷ entries) (ps ∷ parts) p q goes steps sure =
    ap (λ (xs : List Act). xs ++ acts_on c goes.0 entries parts q goes.2) (call_acts c p goes.0 ps e.call e.reply goes.1 steps.0 sure.0)
    ∙ ap (λ (xs : List Act). on_channel c (p.front).channel (act_done e.call e.reply) ++ xs)
    (history_acts c entries parts goes.0 q goes.2 steps.1 sure.1 ∙ ap (λ (n : ℕ). given_on act_done c n entries) (tracks p.front e.call e.reply (goes.0).front steps.0))

-- ---- which calls do

pub asked_undone : (does : FrontCall) (back : FrontReply) → asks_any does ≡ true → act_done does back ≡ []
asked_undone (call.Next channel place room) back asks = refl
asked_undone (call.Begin channel) back asks = refl
asked_undone (call.Hear message) back asks = refl
asked_undone call.Retry back asks = refl
asked_undone (call.Remove device) back asks = absurd (cc (asks))
asked_undone (call.Add device) back asks = absurd (cc (asks))
asked_undone call.Look back asks = refl
asked_undone call.EndChannel back asks = refl
asked_undone call.EndSession back asks = refl

-- they act on a channel
pub acts_inside : GivesInside act_done
acts_inside = record { asked = asked_undone; begins = λ channel back. refl; ends = λ back. refl; over = λ back. refl }

pub done_in_all : (entries : List FrontEntry) → given_in act_done entries ≡ acts_done entries
done_in_all [] = refl
done_in_all (e ∷ entries) = ap (λ (acts : List Act). act_done e.call e.reply ++ acts) (done_in_all entries)

-- ---- what was done at all

abbrev IsNoAct : Deed → Type 0
IsNoAct y = act_by y ≡ None

none_acts : (xs : List Deed) → AllByRecursion IsNoAct xs → filter_map act_by (reverse xs) ≡ []
none_acts [] all = refl
none_acts (y ∷ xs) all =
    ap (filter_map act_by) (reverse-append (y ∷ []) xs) ∙ filter_map-append act_by (reverse xs) (y ∷ []) ∙ (λ i. none_acts xs all.1 i ++ cons_option (all.0 i) [])

stored_none : (d : ℕ) (items : List Item) → AllByRecursion IsNoAct (map (stores d) items)
stored_none d [] = tt
stored_none d (x ∷ items) = (refl, stored_none d items)

each_none : (told : List (ℕ × List Item)) → AllByRecursion IsNoAct (stored_each told)
each_none [] = tt
each_none (t ∷ told) = all_append IsNoAct (stored_each told) (stored t.0 t.1) (each_none told) (stored_none t.0 (reverse t.1))

part_act : (x : FrontPart) → filter_map act_by (reverse (deeds_of x)) ≡ cons_option (act_told x) []
part_act (tells_gone device (Ok done)) = refl
part_act (tells_there device (Ok done)) = refl
part_act (tells_gone device (Err error)) = refl
part_act (tells_there device (Err error)) = refl
part_act (hears channel message (Err fault.Memory)) = refl
part_act (hears channel message (Err (fault.Order state packet))) = refl
part_act (hears channel message (Err (fault.Grammar bad))) = refl
part_act (hears channel message (Ok heard)) = refl
part_act tries = refl
part_act keeps = refl
part_act forgets = refl
part_act misplaces = refl
part_act (directs st answer) = refl
part_act (calls place id does back items) = none_acts (stored id items) (stored_none id (reverse items))
part_act (sends channel None) = refl
part_act (sends channel (Some o)) = by o.answers
  where
    by : (a : Option Key) → filter_map act_by (reverse (sent_by channel o.message a)) ≡ []
    by None = refl
    by (Some key) = refl
part_act (writes device done) = refl
part_act (unwritten device done) = refl
part_act (learns n answer) = refl
part_act (refreshes device) = refl
part_act (begins channel) = refl
part_act (ends over told) = none_acts (stored_each told) (each_none told)

acts_more : (more deeds : List Deed) → filter_map act_by (reverse (more ++ deeds)) ≡ filter_map act_by (reverse deeds) ++ filter_map act_by (reverse more)
acts_more more deeds = ap (filter_map act_by) (reverse-append more deeds) ∙ filter_map-append act_by (reverse deeds) (reverse more)

pub parts_act : (ps : List FrontPart) (deeds : List Deed) → filter_map act_by (reverse (deeds_after ps deeds)) ≡ filter_map act_by (reverse deeds) ++ filter_map act_told ps
parts_act [] deeds = sym (append-nil (filter_map act_by (reverse deeds)))
parts_act (x ∷ ps) deeds =
    parts_act ps (deeds_of x ++ deeds) ∙ ap (λ (xs : List Act). xs ++ filter_map act_told ps) (acts_more (deeds_of x) deeds ∙ ap (λ (xs : List Act). filter_map act_by (reverse deeds) ++ xs) (part_act x))
    ∙ append_assoc (filter_map act_by (reverse deeds)) (cons_option (act_told x) []) (filter_map act_told ps) ∙ ap (λ (xs : List Act). filter_map act_by (reverse deeds) ++ xs) (first_told (act_told x))
  where
    first_told : (o : Option Act) → cons_option o [] ++ filter_map act_told ps ≡ cons_option o (filter_map act_told ps)
    first_told None = refl
    first_told (Some a) = refl

-- All that was removed and added, is what the calls did.
pub history_act : (entries : List FrontEntry) (parts : List (List FrontPart)) (p q : Served) → HistoryGoes p entries parts q → AllByRecursion (λ (e : FrontEntry). DoesSurely e.call e.reply) entries → (deeds : List Deed)
    → filter_map act_by (reverse (deeds_of_calls parts deeds)) ≡ filter_map act_by (reverse deeds) ++ given_in act_done entries
history_act [] [] p q goes sure deeds = sym (append-nil (filter_map act_by (reverse deeds)))
history_act [] (ps ∷ parts) p q goes sure deeds = absurd goes
history_act (e ∷ entries) [] p q goes sure deeds = absurd goes
history_act (e ∷ entries) (ps ∷ parts) p q goes sure deeds =
    history_act entries parts goes.0 q goes.2 sure.1 (deeds_after ps deeds)
    ∙ ap (λ (xs : List Act). xs ++ given_in act_done entries) (parts_act ps deeds ∙ ap (λ (xs : List Act). filter_map act_by (reverse deeds) ++ xs) (told_done e.call e.reply (filter_map act_told ps) ((goes.1).tells).acts sure.0))
    ∙ append_assoc (filter_map act_by (reverse deeds)) (act_done e.call e.reply) (given_in act_done entries)

-- the calls of runs, and the one that ends the session
given_both : (xs ys : List FrontEntry) → given_in act_done (xs ++ ys) ≡ given_in act_done xs ++ given_in act_done ys
given_both [] ys = refl
given_both (e ∷ xs) ys = ap (λ (acts : List Act). act_done e.call e.reply ++ acts) (given_both xs ys) ∙ sym (append_assoc (act_done e.call e.reply) (given_in act_done xs) (given_in act_done ys))

pub given_reader : (entries : List FrontEntry) → given_in act_done entries ≡ given_in act_done (reader_calls entries)
given_reader [] = refl
given_reader (e ∷ entries) = by (asks_any e.call) refl (given_reader entries)
  where
    by : (b : Bool) → asks_any e.call ≡ b → given_in act_done entries ≡ given_in act_done (reader_calls entries) → given_in act_done (e ∷ entries) ≡ given_in act_done (if b then reader_calls entries else e ∷ reader_calls entries)
    by true is more = ap (λ (acts : List Act). acts ++ given_in act_done entries) (asked_undone e.call e.reply is) ∙ more
    by false is more = ap (λ (acts : List Act). act_done e.call e.reply ++ acts) more

run_act : (r : ChannelRun) → IsChannelRun r → given_in act_done r.calls ≡ acts_done (r.reading).calls
run_act r is =
    let w = is.whole in
    let calls = (r.reading).calls in
    ap (given_in act_done) w.whole_are
    ∙ ap (λ (does : FrontCall). act_done does (w.begin).reply ++ given_in act_done (calls ++ w.end ∷ [])) (w.begins).0
    ∙ given_both calls (w.end ∷ []) ∙ ap (λ (does : FrontCall). given_in act_done calls ++ (act_done does (w.end).reply ++ [])) w.ends ∙ append-nil (given_in act_done calls) ∙ done_in_all calls

pub runs_act : (runs : List ChannelRun) (last : FrontEntry) → last.call ≡ call.EndSession → AllByRecursion IsChannelRun runs → given_in act_done (calls_by_all runs ++ last ∷ []) ≡ flat_map (λ (r : ChannelRun). acts_done (r.reading).calls) runs
runs_act [] last over each = ap (λ (does : FrontCall). act_done does last.reply ++ []) over
runs_act (r ∷ runs) last over each =
    ap (given_in act_done) (append_assoc r.calls (calls_by_all runs) (last ∷ [])) ∙ given_both r.calls (calls_by_all runs ++ last ∷ [])
    ∙ (λ i. run_act r each.0 i ++ runs_act runs last over each.1 i)
