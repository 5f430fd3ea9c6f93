-- What a call by which a message is heard tells: the host read it, and its table is as what the message asks for leaves it, with what applications asked meanwhile before or behind.
use Rattle.std.proofs.Common.{◌≡◌, ◌∙◌, ◌≢◌, refl, sym, ap, subst, ℕ, Bool, true, false, List, [], ◌∷◌, ◌++◌, append_assoc, append-nil, Some, Ok, Err}
use Rattle.std.specs.Prelude.{Result, cond, filter}
use Rattle.std.specs.List.{AllByRecursion}
use Rattle.rd_devices.specs.declared.list.Announce.{Announce}
use Rattle.rd_hello.specs.declared.end_fault.EndFault.{EndFault}
use Rattle.rd_host.specs.declared.act.Act.{Act}
use Rattle.rd_host.specs.declared.act.Act.TheVariants as act
use Rattle.rd_hello.specs.Moves.{Move}
use Rattle.rd_host.specs.Core.{HostCoreState, host_hear}
use Rattle.rd_irp.specs.declared.completion.Head.{Head}
use Rattle.rd_pending.specs.declared.calls.CompleteNo.{CompleteNo}
use Rattle.rd_pending.specs.declared.calls.CompleteNo.TheVariants as complete_no
use Rattle.rd_pending.specs.declared.calls.Completed.{Completed}
use Rattle.rd_pending.specs.declared.calls.LiveNo.{LiveNo}
use Rattle.rd_pending.specs.declared.calls.LiveNo.TheVariants as live_no
use Rattle.rd_pending.specs.declared.calls.Taken.{Taken}
use Rattle.rd_pending.specs.History as call
use Rattle.rd_pending.specs.History.{Call, IsReachedTable, accepted_in, called}
use Rattle.rd_pending.specs.Outcomes.{Accepted}
use Rattle.rd_pending.specs.Table as table
use Rattle.rd_pending.specs.Table.{TableState, live, remove}
use Rattle.rd_pending.proofs.Neutral.{channel_kept}
use Rattle.rd_table.specs.declared.calls.PendingCall.{PendingCall}
use Rattle.rd_table.specs.declared.calls.PendingCall.TheVariants as ask
use Rattle.rd_table.specs.declared.calls.PendingReply.{PendingReply}
use Rattle.rd_table.specs.declared.calls.PendingReply.TheVariants as reply
use Rattle.rd_table.specs.Calls.{PendingStep}
use Rattle.rd_table.specs.Histories.{handed_in, table_history}
use Rattle.rd_table.proofs.StepLemmas.{led_goes}
use Rattle.rd_turn.specs.History.{entry}
use Rattle.rd_exchanges.specs.Exchanges.{AreAsks, AsksFollow, AsksPart, IsAsk, accepted_along, all_after, answers_of, asks_in, devices_in, goes, handed_along, is_submission, is_take, submissions_among, takes_among}
use Rattle.rd_exchanges.proofs.BetweenLemmas.{lives_followed, removals_parted}
use Rattle.rd_exchanges.proofs.CallLemmas.{none_handed, submissions_ask}
use Rattle.rd_host_front.specs.State.{FrontPassState}
use Rattle.rd_host_turns.specs.Turns.{AreQuiet, IsOwnCall, SeenAlong, TableEntry, TablePart, TablePartsGo}
use Rattle.rd_deeds.specs.Host.{HostSide, hears, host_heard}
use Rattle.rd_deeds.specs.Talk.{Deed, host_moves, host_read, host_reads, host_wrote}
use Rattle.rd_hosted.specs.Asks.{asks_among, table_at}
use Rattle.rd_hosted.specs.Heard.{LivesAll, RemovesAll, replying, served_in}
use Rattle.rd_hosted.specs.Kept.{AsksInRange}
use Rattle.rd_hosted.proofs.BetweenLemmas.{AcceptsNone, AreAnswers, Between, IsStepCall, IsTableHistory, accepted_still, between, calls_for, earlier_history, handed_still, step_behind}
use Rattle.rd_hosted.proofs.ChannelLemmas.{PartKeepsOpen, call_channel, seen_channel}
use Rattle.rd_hosted.proofs.HearLemmas.{admits_all, forgets_all, hears_as}
use Rattle.rd_hosted.proofs.StandLemmas.{Stands, asks_moved, asks_read, asks_stand, asks_written, deeds_for, read_stands, side, stands_as}
use Rattle.rd_hosted.proofs.ToldLemmas.{AnyChannel, StandsAt, Told, asks_sent, moved_more, moved_read, nothing, only, quiet_stands, read_first, read_more, sent_more, told_as, written_more}

-- What stands after a message that was heard on a channel.
abbrev pub HeardOn : HostCoreState → List TableEntry → ℕ → List ℕ → List Deed → Type 0
HeardOn core new channel m deeds = Told AnyChannel core new (Some channel) (only channel m) nothing deeds

-- ---- the table's own calls for it

live_steps : (t u : TableState) (device : ℕ) (answer : Result ℕ LiveNo) → answer ≢ Err live_no.Memory → PendingStep t (ask.Live device) (reply.Lives answer) u → live t device ≡ (u, answer)
live_steps t u device (Ok life) fine step = step.0
live_steps t u device (Err live_no.NoChannel) fine step = step.0
live_steps t u device (Err live_no.Already) fine step = step.0
live_steps t u device (Err live_no.Full) fine step = step.0
live_steps t u device (Err (live_no.Worn count)) fine step = step.0
live_steps t u device (Err live_no.Memory) fine step = absurd (fine refl)

live_accepts : (device : ℕ) (answer : Result ℕ LiveNo) → AcceptsNone (ask.Live device) (reply.Lives answer)
live_accepts device (Ok life) = λ by h. refl
live_accepts device (Err cause) = λ by h. refl

abbrev live_back : Result ℕ LiveNo → PendingReply
live_back answer = reply.Lives answer

abbrev live_call : ℕ → PendingCall
live_call device = ask.Live device

abbrev IsLiveAnswer : Result ℕ LiveNo → Type 0
IsLiveAnswer answer = answer ≢ Err live_no.Memory

lives_are : IsStepCall live live_call live_back IsLiveAnswer AsksInRange
lives_are = record { steps = live_steps; accepts = live_accepts; hands = λ device answer by. refl }

abbrev remove_back : Bool → PendingReply
remove_back was = reply.Removed was

abbrev remove_call : ℕ → PendingCall
remove_call device = ask.Remove device

abbrev IsRemoveAnswer : Bool → Type 0
IsRemoveAnswer was = Unit {0}

remove_accepts : (device : ℕ) (was : Bool) → AcceptsNone (ask.Remove device) (reply.Removed was)
remove_accepts device true = λ by h. refl
remove_accepts device false = λ by h. refl

removes_are : IsStepCall remove remove_call remove_back IsRemoveAnswer AsksInRange
removes_are = record { steps = λ t u device was fine step. step.0; accepts = remove_accepts; hands = λ device was by. refl }

-- the parts of the front's calls
pub lives_go : (devices : List ℕ) (lives : List (Result ℕ LiveNo)) (old new : FrontPassState) → LivesAll devices lives old new
    → AreAnswers live live_call live_back IsLiveAnswer AsksInRange devices lives × TablePartsGo old (calls_for live live_call live_back IsLiveAnswer AsksInRange devices lives) new
lives_go [] [] old new is = (tt, is)
lives_go [] (life ∷ lives) old new is = absurd is
lives_go (d ∷ devices) [] old new is = absurd is
lives_go (d ∷ devices) (life ∷ lives) old new (fine, next, call, others) = let rest = lives_go devices lives next new others in ((fine, rest.0), (next, call, rest.1))

pub removed_answers : (devices : List ℕ) (old new : FrontPassState) → RemovesAll devices old new → List Bool
removed_answers [] old new is = []
removed_answers (d ∷ devices) old new (was, next, call, others) = was ∷ removed_answers devices next new others

pub removes_go : (devices : List ℕ) (old new : FrontPassState) → RemovesAll devices old new
    → (answers : List Bool) × AreAnswers remove remove_call remove_back IsRemoveAnswer AsksInRange devices answers × TablePartsGo old (calls_for remove remove_call remove_back IsRemoveAnswer AsksInRange devices answers) new
removes_go [] old new is = ([], tt, is)
removes_go (d ∷ devices) old new (was, next, call, others) = let (answers, fine, go) = removes_go devices next new others in (was ∷ answers, (tt, fine), (next, call, go))

-- they are the front's own calls, and leave the channel
pub lives_own : (devices : List ℕ) (lives : List (Result ℕ LiveNo)) → AllByRecursion IsOwnCall (calls_for live live_call live_back IsLiveAnswer AsksInRange devices lives) × AllByRecursion PartKeepsOpen (calls_for live live_call live_back IsLiveAnswer AsksInRange devices lives)
lives_own [] lives = (tt, tt)
lives_own (d ∷ devices) [] = (tt, tt)
lives_own (d ∷ devices) (life ∷ lives) = let rest = lives_own devices lives in ((tt, rest.0), (tt, rest.1))

pub removes_own : (devices : List ℕ) (answers : List Bool) → AllByRecursion IsOwnCall (calls_for remove remove_call remove_back IsRemoveAnswer AsksInRange devices answers) × AllByRecursion PartKeepsOpen (calls_for remove remove_call remove_back IsRemoveAnswer AsksInRange devices answers)
removes_own [] answers = (tt, tt)
removes_own (d ∷ devices) [] = (tt, tt)
removes_own (d ∷ devices) (was ∷ answers) = let rest = removes_own devices answers in ((tt, rest.0), (tt, rest.1))

-- ---- of all that is asked

all_joined : {A : Type 0} (P : A → Type 0) (xs ys : List A) → AllByRecursion P xs → AllByRecursion P ys → AllByRecursion P (xs ++ ys)
all_joined P [] ys all more = more
all_joined P (x ∷ xs) ys all more = (all.0, all_joined P xs ys all.1 more)

all_in : (P : Call → Type 0) (more : List (ℕ × List Call)) → AllByRecursion (λ (e : ℕ × List Call). AllByRecursion P e.1) more → AllByRecursion P (asks_in more)
all_in P [] all = tt
all_in P (e ∷ more) all = all_joined P e.1 (asks_in more) all.0 (all_in P more all.1)

all_kept : {A : Type 0} (P : A → Type 0) (test : A → Bool) (xs : List A) → AllByRecursion P xs → AllByRecursion P (filter test xs)
all_kept P test [] all = tt
all_kept {A} P test (x ∷ xs) all = by (test x) (all_kept P test xs all.1)
  where
    by : (b : Bool) → AllByRecursion P (filter test xs) → AllByRecursion P (cond b (x ∷ filter test xs) (filter test xs))
    by true rest = (all.0, rest)
    by false rest = rest

-- what applications ask leaves the channel
asks_channel : (t : TableState) (cs : List Call) → AreAsks cs → (goes t cs).channel ≡ t.channel
asks_channel t [] asks = refl
asks_channel t (c ∷ cs) asks = asks_channel (called t c) cs asks.1 ∙ one c asks.0
  where
    one : (c : Call) → IsAsk c → (called t c).channel ≡ t.channel
    one (call.submits application named o) ask = channel_kept (call.submits application named o) tt t
    one (call.takes number) ask = channel_kept (call.takes number) tt t
    one (call.begins n) ask = absurd ask
    one (call.lives n) ask = absurd ask
    one (call.removes n) ask = absurd ask
    one (call.completes head body) ask = absurd ask
    one call.sends ask = absurd ask
    one call.drops ask = absurd ask

-- takes accept nothing
takes_accept : (t : TableState) (cs : List Call) → accepted_along t (takes_among cs) ≡ []
takes_accept t [] = refl
takes_accept t (call.takes number ∷ cs) = takes_accept (called t (call.takes number)) cs
takes_accept t (call.submits application named o ∷ cs) = takes_accept t cs
takes_accept t (call.begins n ∷ cs) = takes_accept t cs
takes_accept t (call.lives n ∷ cs) = takes_accept t cs
takes_accept t (call.removes n ∷ cs) = takes_accept t cs
takes_accept t (call.completes head body ∷ cs) = takes_accept t cs
takes_accept t (call.sends ∷ cs) = takes_accept t cs
takes_accept t (call.drops ∷ cs) = takes_accept t cs

-- ---- a message by which the table isn't called

pub plain_heard : (channel : ℕ) (m : List ℕ) (core next : HostCoreState) (old new : List TableEntry) (answer : Result Act EndFault) (deeds : List Deed) → host_hear core m ≡ (next, answer)
    → host_heard (side next (table_at old)) answer ≡ side next (table_at old) → new ≡ old → StandsAt core old (Some channel) deeds → HeardOn next new channel m deeds
plain_heard channel m core next old new answer deeds hears_is stays is s = record {
  more = host_reads channel m ∷ [];
  stands = told_as next next old old new (Some channel) (Some channel) (host_reads channel m ∷ deeds) refl (sym is) refl (record {
    stands = read_stands channel m core (table_at old) (side next (table_at old)) (accepted_in (table_history old)) (handed_in old) deeds s.stands s.channel (hears_as core next (table_at old) m answer hears_is ∙ stays);
    channel = s.channel;
  });
  read = λ c. read_first c channel m [] refl;
  written = λ c. refl;
  moved = λ c. moved_read c channel m [] refl;
  sent = λ c counts. (tt, tt);
}

-- ---- a completion

complete_steps : (t u : TableState) (head : Head) (body : List ℕ) (answer : Result Completed CompleteNo) → answer ≢ Err complete_no.Memory → PendingStep t (ask.Complete head body) (reply.Completed answer) u → table.complete t head body ≡ (u, answer)
complete_steps t u head body (Ok completed) fine step = step.0
complete_steps t u head body (Err (complete_no.Stray device id)) fine step = step.0
complete_steps t u head body (Err (complete_no.BodyBad bad)) fine step = step.0
complete_steps t u head body (Err complete_no.Memory) fine step = absurd (fine refl)

complete_accepts : (head : Head) (body : List ℕ) (answer : Result Completed CompleteNo) → AcceptsNone (ask.Complete head body) (reply.Completed answer)
complete_accepts head body (Ok completed) = λ by h. refl
complete_accepts head body (Err cause) = λ by h. refl

pub complete_heard : (channel : ℕ) (m : List ℕ) (core next : HostCoreState) (old added new : List TableEntry) (by : ℕ) (head : Head) (body : List ℕ) (answer : Result Completed CompleteNo) (deeds : List Deed)
    → host_hear core m ≡ (next, Ok (act.Complete head body)) → answer ≢ Err complete_no.Memory → new ≡ (old ++ added) ++ entry by (ask.Complete head body) (reply.Completed answer) ∷ [] → AreQuiet added → IsTableHistory new
    → AllByRecursion AsksInRange (asks_among added) → StandsAt core old (Some channel) deeds → HeardOn next new channel m deeds
complete_heard channel m core next old added new by head body answer deeds hears_is fine place quiet legal fit s =
    let mid : List TableEntry = old ++ added in
    let t : TableState = table_at mid in
    let whole : List TableEntry = mid ++ entry by (ask.Complete head body) (reply.Completed answer) ∷ [] in
    let at_whole : IsTableHistory whole = subst IsTableHistory place legal in
    let before = quiet_stands core old added (Some channel) deeds s quiet (earlier_history mid (entry by (ask.Complete head body) (reply.Completed answer) ∷ []) whole refl at_whole) fit in
    let leads : table.complete t head body ≡ (table_at whole, answer) = complete_steps t (table_at whole) head body answer fine (step_behind mid by (ask.Complete head body) (reply.Completed answer) at_whole) in
    let after_it : HostSide = side next (table_at whole) in
    let stands = read_stands channel m core t after_it (accepted_in (table_history mid)) (handed_in mid) (deeds_for (asks_among added) ++ deeds) before.stands before.channel
    (hears_as core next t m (Ok (act.Complete head body)) hears_is ∙ ap (λ (p : TableState × Result Completed CompleteNo). side next p.0) leads) in
    record {
      more = host_reads channel m ∷ deeds_for (asks_among added);
      stands = told_as next next whole whole new (Some channel) (Some channel) (host_reads channel m ∷ (deeds_for (asks_among added) ++ deeds)) refl (sym place) refl (record {
        stands = stands_as next next (table_at whole) (table_at whole) _ _ _ _ (host_reads channel m ∷ (deeds_for (asks_among added) ++ deeds)) refl refl
            (sym (accepted_still mid by (ask.Complete head body) (reply.Completed answer) (complete_accepts head body answer))) (sym (handed_still mid by (ask.Complete head body) (reply.Completed answer) (λ b. refl))) stands;
        channel = call_channel old added whole by (ask.Complete head body) (reply.Completed answer) refl quiet tt ∙ s.channel;
      });
      read = λ c. read_first c channel m (deeds_for (asks_among added)) (asks_read c (asks_among added));
      written = λ c. asks_written c (asks_among added);
      moved = λ c. moved_read c channel m (deeds_for (asks_among added)) (asks_moved c (asks_among added));
      sent = λ c counts. (tt, asks_sent c (asks_among added) deeds);
    }

-- ---- devices that are announced

abbrev live_parts : List ℕ → List (Result ℕ LiveNo) → List TablePart
live_parts devices lives = calls_for live live_call live_back IsLiveAnswer AsksInRange devices lives

pub lives_heard : (channel : ℕ) (m : List ℕ) (core next : HostCoreState) (old new : List TableEntry) (devices : List Announce) (lives : List (Result ℕ LiveNo)) (deeds : List Deed) → host_hear core m ≡ (next, Ok (act.Announced devices))
    → AreAnswers live live_call live_back IsLiveAnswer AsksInRange (served_in devices) lives → SeenAlong old (live_parts (served_in devices) lives) new → IsTableHistory new → AllByRecursion AsksInRange (asks_among new)
    → StandsAt core old (Some channel) deeds → HeardOn (replying next devices lives) new channel m deeds
lives_heard channel m core next old new devices lives deeds hears_is fine seen legal fit s =
    let b : Between live live_call live_back IsLiveAnswer AsksInRange old new (served_in devices) lives = between live live_call live_back IsLiveAnswer AsksInRange lives_are (served_in devices) lives old new fine seen legal fit in
    let mid : List TableEntry = old ++ b.first in
    let t : TableState = table_at mid in
    let f : AsksFollow live t b.more = lives_followed b.more t b.asks b.may in
    let behind : List Call = asks_in b.more in
    let u : TableState = all_after live t (devices_in b.more) in
    let answers : answers_of live t (served_in devices) ≡ lives = ap (answers_of live t) (sym b.devices_are) ∙ (f.answers ∙ b.answers_are) in
    let heard_side : HostSide = side (replying next devices lives) u in
    let hears_it : hears (side core t) m ≡ heard_side =
    hears_as core next t m (Ok (act.Announced devices)) hears_is ∙ (admits_all devices next t
    ∙ (ap (λ (l : List (Result ℕ LiveNo)). side (replying next devices l) (all_after live t (served_in devices))) answers ∙ ap (λ (l : List ℕ). side (replying next devices lives) (all_after live t l)) (sym b.devices_are))) in
    let asked_first : List Deed = deeds_for (asks_among b.first) in
    let before = quiet_stands core old b.first (Some channel) deeds s b.quiet b.legal b.fit in
    let read = read_stands channel m core t heard_side (accepted_in (table_history mid)) (handed_in mid) (asked_first ++ deeds) before.stands before.channel hears_it in
    let asked = asks_stand behind (replying next devices lives) u (accepted_in (table_history mid)) (handed_in mid) (host_reads channel m ∷ (asked_first ++ deeds)) read f.may (all_in IsAsk b.more b.asks) (all_in AsksInRange b.more b.fits) in
    record {
      more = deeds_for behind ++ host_reads channel m ∷ asked_first;
      stands = record {
        stands = subst (Stands (replying next devices lives) (table_at new) (accepted_in (table_history new)) (handed_in new)) (sym (append_assoc (deeds_for behind) (host_reads channel m ∷ asked_first) deeds))
            (stands_as (replying next devices lives) (replying next devices lives) (goes u behind) (table_at new) _ _ _ _ (deeds_for behind ++ host_reads channel m ∷ (asked_first ++ deeds)) refl (f.same ∙ b.same)
            (ap (λ (l : List Accepted). accepted_in (table_history mid) ++ l) f.accepted ∙ sym b.accepted) (ap (λ (l : List (ℕ × Taken)). handed_in mid ++ l) f.handed ∙ sym b.handed) asked);
        channel = seen_channel (live_parts (served_in devices) lives) old new (lives_own (served_in devices) lives).1 seen ∙ s.channel;
      };
      read = λ c. read_more c (deeds_for behind) (host_reads channel m ∷ asked_first)
          ∙ (ap (λ (l : List (List ℕ)). l ++ host_read c (host_reads channel m ∷ asked_first)) (asks_read c behind) ∙ read_first c channel m asked_first (asks_read c (asks_among b.first)));
      written = λ c. written_more c (deeds_for behind) (host_reads channel m ∷ asked_first)
          ∙ (ap (λ (l : List (List ℕ)). l ++ host_wrote c asked_first) (asks_written c behind) ∙ asks_written c (asks_among b.first));
      moved = λ c. moved_more c (deeds_for behind) (host_reads channel m ∷ asked_first)
          ∙ (ap (λ (l : List Move). l ++ host_moves c (host_reads channel m ∷ asked_first)) (asks_moved c behind) ∙ moved_read c channel m asked_first (asks_moved c (asks_among b.first)));
      sent = λ c counts. sent_more c (deeds_for behind) (host_reads channel m ∷ asked_first) deeds (asks_sent c behind (host_reads channel m ∷ (asked_first ++ deeds))) (tt, asks_sent c (asks_among b.first) deeds);
    }

-- ---- devices that are gone

abbrev remove_parts : List ℕ → List Bool → List TablePart
remove_parts devices answers = calls_for remove remove_call remove_back IsRemoveAnswer AsksInRange devices answers

pub removes_heard : (channel : ℕ) (m : List ℕ) (core next : HostCoreState) (old new : List TableEntry) (ids : List ℕ) (answers : List Bool) (deeds : List Deed) → host_hear core m ≡ (next, Ok (act.Removed ids))
    → AreAnswers remove remove_call remove_back IsRemoveAnswer AsksInRange ids answers → SeenAlong old (remove_parts ids answers) new → IsTableHistory new → AllByRecursion AsksInRange (asks_among new)
    → StandsAt core old (Some channel) deeds → HeardOn next new channel m deeds
removes_heard channel m core next old new ids answers deeds hears_is fine seen legal fit s =
    let b : Between remove remove_call remove_back IsRemoveAnswer AsksInRange old new ids answers = between remove remove_call remove_back IsRemoveAnswer AsksInRange removes_are ids answers old new fine seen legal fit in
    let mid : List TableEntry = old ++ b.first in
    let t : TableState = table_at mid in
    let reached : IsReachedTable t = let there = led_goes mid (b.legal).0 (b.legal).1 in record { history = table_history mid; holds = there.holds; is = refl } in
    let f : AsksPart remove t b.more = removals_parted b.more t reached b.asks b.may in
    let asked : List Call = asks_in b.more in
    let subs : List Call = submissions_among asked in
    let outs : List Call = takes_among asked in
    let v : TableState = goes t subs in
    let u : TableState = all_after remove v (devices_in b.more) in
    let fits : AllByRecursion AsksInRange asked = all_in AsksInRange b.more b.fits in
    let asks : AreAsks asked = all_in IsAsk b.more b.asks in
    let first_deeds : List Deed = deeds_for (asks_among b.first) in
    let before = quiet_stands core old b.first (Some channel) deeds s b.quiet b.legal b.fit in
    let submitted = asks_stand subs core t (accepted_in (table_history mid)) (handed_in mid) (first_deeds ++ deeds) before.stands f.may_submit (submissions_ask asked) (all_kept AsksInRange is_submission asked fits) in
    let hears_it : hears (side core v) m ≡ side next u = hears_as core next v m (Ok (act.Removed ids)) hears_is ∙ (forgets_all ids next v ∙ ap (λ (l : List ℕ). side next (all_after remove v l)) (sym b.devices_are)) in
    let open_on : v.channel ≡ Some channel = asks_channel t subs (submissions_ask asked) ∙ before.channel in
    let read = read_stands channel m core v (side next u) (accepted_in (table_history mid) ++ accepted_along t subs) (handed_in mid ++ handed_along t subs) (deeds_for subs ++ (first_deeds ++ deeds)) submitted open_on hears_it in
    let taken = asks_stand outs next u _ _ (host_reads channel m ∷ (deeds_for subs ++ (first_deeds ++ deeds))) read f.may_take (all_kept IsAsk is_take asked asks) (all_kept AsksInRange is_take asked fits) in
    let early : List Deed = deeds_for subs ++ first_deeds in
    let place : (deeds_for outs ++ host_reads channel m ∷ early) ++ deeds ≡ deeds_for outs ++ host_reads channel m ∷ (deeds_for subs ++ (first_deeds ++ deeds)) =
    append_assoc (deeds_for outs) (host_reads channel m ∷ early) deeds ∙ ap (λ (l : List Deed). deeds_for outs ++ host_reads channel m ∷ l) (append_assoc (deeds_for subs) first_deeds deeds) in
    record {
      more = deeds_for outs ++ host_reads channel m ∷ early;
      stands = record {
        stands = subst (Stands next (table_at new) (accepted_in (table_history new)) (handed_in new)) (sym place)
            (stands_as next next (goes u outs) (table_at new) _ _ _ _ (deeds_for outs ++ host_reads channel m ∷ (deeds_for subs ++ (first_deeds ++ deeds))) refl (f.same ∙ b.same)
            (ap (λ (l : List Accepted). (accepted_in (table_history mid) ++ accepted_along t subs) ++ l) (takes_accept u asked) ∙ (append-nil (accepted_in (table_history mid) ++ accepted_along t subs)
            ∙ (ap (λ (l : List Accepted). accepted_in (table_history mid) ++ l) f.accepted ∙ sym b.accepted)))
            (ap (λ (l : List (ℕ × Taken)). (handed_in mid ++ l) ++ handed_along u outs) (none_handed t asked) ∙ (ap (λ (l : List (ℕ × Taken)). l ++ handed_along u outs) (append-nil (handed_in mid))
            ∙ (ap (λ (l : List (ℕ × Taken)). handed_in mid ++ l) f.handed ∙ sym b.handed))) taken);
        channel = seen_channel (remove_parts ids answers) old new (removes_own ids answers).1 seen ∙ s.channel;
      };
      read = λ c. read_more c (deeds_for outs) (host_reads channel m ∷ early)
          ∙ (ap (λ (l : List (List ℕ)). l ++ host_read c (host_reads channel m ∷ early)) (asks_read c outs)
          ∙ read_first c channel m early (read_more c (deeds_for subs) first_deeds ∙ (ap (λ (l : List (List ℕ)). l ++ host_read c first_deeds) (asks_read c subs) ∙ asks_read c (asks_among b.first))));
      written = λ c. written_more c (deeds_for outs) (host_reads channel m ∷ early)
          ∙ (ap (λ (l : List (List ℕ)). l ++ host_wrote c early) (asks_written c outs)
          ∙ (written_more c (deeds_for subs) first_deeds ∙ (ap (λ (l : List (List ℕ)). l ++ host_wrote c first_deeds) (asks_written c subs) ∙ asks_written c (asks_among b.first))));
      moved = λ c. moved_more c (deeds_for outs) (host_reads channel m ∷ early)
          ∙ (ap (λ (l : List Move). l ++ host_moves c (host_reads channel m ∷ early)) (asks_moved c outs)
          ∙ moved_read c channel m early (moved_more c (deeds_for subs) first_deeds ∙ (ap (λ (l : List Move). l ++ host_moves c first_deeds) (asks_moved c subs) ∙ asks_moved c (asks_among b.first))));
      sent = λ c counts. sent_more c (deeds_for outs) (host_reads channel m ∷ early) deeds (asks_sent c outs (host_reads channel m ∷ (early ++ deeds)))
          (tt, sent_more c (deeds_for subs) first_deeds deeds (asks_sent c subs (first_deeds ++ deeds)) (asks_sent c (asks_among b.first) deeds));
    }
