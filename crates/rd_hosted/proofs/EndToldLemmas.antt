-- What the calls tell by which a channel begins and ends.
use Rattle.std.proofs.Common.{◌≡◌, ◌∙◌, ◌≢◌, refl, sym, ap, subst, ℕ, Bool, true, false, cond, List, [], ◌∷◌, ◌++◌, Some, None, Option}
use Rattle.std.specs.Prelude.{is_some}
use Rattle.std.specs.List.{AllByRecursion}
use Rattle.rd_host.specs.Core.{HostCoreState, host_begin}
use Rattle.rd_pending.specs.History.{IsReachedTable, accepted_in, after, drops}
use Rattle.rd_pending.specs.Table as table
use Rattle.rd_pending.specs.Table.{MayBegin, TableState, drop_channel}
use Rattle.rd_pending.proofs.Reaching.{reached_slots, shut_dropped}
use Rattle.rd_table.specs.declared.calls.PendingCall.{PendingCall}
use Rattle.rd_table.specs.declared.calls.PendingCall.TheVariants as ask
use Rattle.rd_table.specs.declared.calls.PendingReply.{PendingReply}
use Rattle.rd_table.specs.declared.calls.PendingReply.TheVariants as reply
use Rattle.rd_table.specs.Histories.{handed_in, table_history}
use Rattle.rd_table.proofs.StepLemmas.{led_goes}
use Rattle.rd_turn.specs.History.{entry}
use Rattle.rd_host_turns.specs.Turns.{AreQuiet, TableEntry}
use Rattle.rd_deeds.specs.Host.{next_message}
use Rattle.rd_deeds.specs.Talk.{Deed, host_begins, host_ends}
use Rattle.rd_hosted.specs.Asks.{asks_among, table_at}
use Rattle.rd_hosted.specs.Kept.{AsksInRange}
use Rattle.rd_hosted.proofs.BetweenLemmas.{AcceptsNone, IsTableHistory, accepted_still, earlier_history, handed_still, step_behind}
use Rattle.rd_hosted.proofs.StandLemmas.{asks_moved, asks_read, asks_written, begin_stands, deeds_for, end_stands, side, stands_as}
use Rattle.rd_hosted.proofs.ToldLemmas.{AnyChannel, StandsAt, Told, asks_sent, nothing, quiet_stands, told_as}

-- where a history ends with a call, behind quiet ones
abbrev pub with_call : List TableEntry → List TableEntry → ℕ → PendingCall → PendingReply → List TableEntry
with_call old added by does back = (old ++ added) ++ entry by does back ∷ []

pub begin_told : (channel : ℕ) (core : HostCoreState) (a added c : List TableEntry) (by : ℕ) (deeds : List Deed) → c ≡ with_call a added by (ask.Begin channel) (reply.Begun true) → AreQuiet added → IsTableHistory c
    → AllByRecursion AsksInRange (asks_among added) → StandsAt core a None deeds → Told AnyChannel (host_begin core) c (Some channel) nothing nothing deeds
begin_told channel core a added c by deeds place quiet legal fit s =
    let mid : List TableEntry = a ++ added in
    let t : TableState = table_at mid in
    let whole : List TableEntry = with_call a added by (ask.Begin channel) (reply.Begun true) in
    let at_whole : IsTableHistory whole = subst IsTableHistory place legal in
    let before = quiet_stands core a added None deeds s quiet (earlier_history mid (entry by (ask.Begin channel) (reply.Begun true) ∷ []) whole refl at_whole) fit in
    let step = (step_behind mid by (ask.Begin channel) (reply.Begun true) at_whole).0 in
    let leads : (table.begin t channel).0 ≡ table_at whole = ap (λ (p : TableState × Bool). p.0) step.1 in
    let stands = begin_stands channel core t (side (host_begin core) (table_at whole)) (accepted_in (table_history mid)) (handed_in mid) (deeds_for (asks_among added) ++ deeds) before.stands before.channel step.0
    (ap (λ (x : TableState). side (host_begin core) x) leads) in
    record {
      more = host_begins channel ∷ deeds_for (asks_among added);
      stands = told_as (host_begin core) (host_begin core) whole whole c (Some channel) (Some channel) (host_begins channel ∷ (deeds_for (asks_among added) ++ deeds)) refl (sym place) refl (record {
        stands = stands_as (host_begin core) (host_begin core) (table_at whole) (table_at whole) _ _ _ _ (host_begins channel ∷ (deeds_for (asks_among added) ++ deeds)) refl refl
            (sym (accepted_still mid by (ask.Begin channel) (reply.Begun true) (λ b h. refl))) (sym (handed_still mid by (ask.Begin channel) (reply.Begun true) (λ b. refl))) stands;
        channel = ap (λ (x : TableState). x.channel) (sym leads) ∙ opened t before.channel;
      });
      read = λ x. asks_read x (asks_among added);
      written = λ x. asks_written x (asks_among added);
      moved = λ x. asks_moved x (asks_among added);
      sent = λ x counts. (tt, asks_sent x (asks_among added) deeds);
    }
  where
    opened : (t : TableState) → t.channel ≡ None → ((table.begin t channel).0).channel ≡ Some channel
    opened t none = rw none refl

-- a core with nothing to send any more
abbrev pub emptied : HostCoreState → HostCoreState
emptied core = record core { core = record core.core { outbox = [] } }

-- A channel that is on ends: by a call after which the table has none, and if it counts, where nothing was left to send.
pub end_told : (Counts : ℕ → Type 0) (channel : ℕ) (core : HostCoreState) (a added c : List TableEntry) (by : ℕ) (does : PendingCall) (back : PendingReply) (deeds : List Deed) → c ≡ with_call a added by does back → AreQuiet added → IsTableHistory c
    → AllByRecursion AsksInRange (asks_among added) → AcceptsNone does back → ((by : ℕ) → handed_in (entry by does back ∷ []) ≡ []) → drop_channel (table_at (a ++ added)) ≡ table_at (with_call a added by does back)
    → ((x : ℕ) → Counts x → channel ≡ x → next_message (side core (table_at (a ++ added))) ≡ None) → StandsAt core a (Some channel) deeds → Told Counts (emptied core) c None nothing nothing deeds
end_told Counts channel core a added c by does back deeds place quiet legal fit accepts hands leads left s =
    let mid : List TableEntry = a ++ added in
    let t : TableState = table_at mid in
    let whole : List TableEntry = with_call a added by does back in
    let at_whole : IsTableHistory whole = subst IsTableHistory place legal in
    let before = quiet_stands core a added (Some channel) deeds s quiet (earlier_history mid (entry by does back ∷ []) whole refl at_whole) fit in
    let stands = end_stands channel core t (side (emptied core) (table_at whole)) (accepted_in (table_history mid)) (handed_in mid) (deeds_for (asks_among added) ++ deeds) before.stands before.channel
    (ap (λ (x : TableState). side (emptied core) x) leads) in
    record {
      more = host_ends channel ∷ deeds_for (asks_among added);
      stands = told_as (emptied core) (emptied core) whole whole c None None (host_ends channel ∷ (deeds_for (asks_among added) ++ deeds)) refl (sym place) refl (record {
        stands = stands_as (emptied core) (emptied core) (table_at whole) (table_at whole) _ _ _ _ (host_ends channel ∷ (deeds_for (asks_among added) ++ deeds)) refl refl
            (sym (accepted_still mid by does back accepts)) (sym (handed_still mid by does back hands)) stands;
        channel = ap (λ (x : TableState). x.channel) (sym leads);
      });
      read = λ x. asks_read x (asks_among added);
      written = λ x. asks_written x (asks_among added);
      moved = λ x. asks_moved x (asks_among added);
      sent = λ x counts. (λ same. ap next_message (before.stands).stands ∙ left x counts same, asks_sent x (asks_among added) deeds);
    }

-- a call that leaves the table as it was
pub idle_told : (core : HostCoreState) (a added c : List TableEntry) (by : ℕ) (does : PendingCall) (back : PendingReply) (open_on : Option ℕ) (deeds : List Deed) → c ≡ with_call a added by does back → AreQuiet added → IsTableHistory c
    → AllByRecursion AsksInRange (asks_among added) → AcceptsNone does back → ((by : ℕ) → handed_in (entry by does back ∷ []) ≡ []) → table_at (with_call a added by does back) ≡ table_at (a ++ added)
    → StandsAt core a open_on deeds → Told AnyChannel core c open_on nothing nothing deeds
idle_told core a added c by does back open_on deeds place quiet legal fit accepts hands same s =
    let mid : List TableEntry = a ++ added in
    let whole : List TableEntry = with_call a added by does back in
    let at_whole : IsTableHistory whole = subst IsTableHistory place legal in
    let before = quiet_stands core a added open_on deeds s quiet (earlier_history mid (entry by does back ∷ []) whole refl at_whole) fit in
    record {
      more = deeds_for (asks_among added);
      stands = told_as core core whole whole c open_on open_on (deeds_for (asks_among added) ++ deeds) refl (sym place) refl (record {
        stands = stands_as core core (table_at mid) (table_at whole) _ _ _ _ (deeds_for (asks_among added) ++ deeds) refl (sym same)
            (sym (accepted_still mid by does back accepts)) (sym (handed_still mid by does back hands)) before.stands;
        channel = ap (λ (x : TableState). x.channel) same ∙ before.channel;
      });
      read = λ x. asks_read x (asks_among added);
      written = λ x. asks_written x (asks_among added);
      moved = λ x. asks_moved x (asks_among added);
      sent = λ x counts. asks_sent x (asks_among added) deeds;
    }

-- ---- the table is asked to drop a channel if all was sent

dropped_accepts : (dropped : Bool) → AcceptsNone ask.DropSent (reply.DroppedSent dropped)
dropped_accepts true by h = go (is_some (after h).channel)
  where
    go : (b : Bool) → accepted_in (cond b (drops ∷ []) [] ++ h) ≡ accepted_in h
    go true = refl
    go false = refl
dropped_accepts false by h = refl

-- all was sent, or something is to be sent
sent_all : (t u : TableState) → table.drop_sent t ≡ (u, true) → drop_channel t ≡ u
sent_all t u is = go t.outbox refl
  where
    go : (o : List (List ℕ)) → t.outbox ≡ o → drop_channel t ≡ u
    go [] e = (let here : (table.drop_sent t).0 ≡ drop_channel t = rw e refl in sym here ∙ ap (λ (p : TableState × Bool). p.0) is)
    go (m ∷ ms) e = let not_so : (table.drop_sent t).1 ≡ false = rw e refl in absurd (cc (not_so, ap (λ (p : TableState × Bool). p.1) is))

sent_some : (t u : TableState) → table.drop_sent t ≡ (u, false) → u ≡ t
sent_some t u is = go t.outbox refl
  where
    go : (o : List (List ℕ)) → t.outbox ≡ o → u ≡ t
    go [] e = let so : (table.drop_sent t).1 ≡ true = rw e refl in absurd (cc (so, ap (λ (p : TableState × Bool). p.1) is))
    go (m ∷ ms) e = (let here : (table.drop_sent t).0 ≡ t = rw e refl in ap (λ (p : TableState × Bool). p.0) (sym is) ∙ here)

-- then nothing was left to send, where the core had nothing
none_left_to_send : (core : HostCoreState) (t u : TableState) → (core.core).outbox ≡ [] → table.drop_sent t ≡ (u, true) → next_message (side core t) ≡ None
none_left_to_send core t u empty is = go t.outbox refl
  where
    go : (o : List (List ℕ)) → t.outbox ≡ o → next_message (side core t) ≡ None
    go [] e = rw (empty, e) refl
    go (m ∷ ms) e = let not_so : (table.drop_sent t).1 ≡ false = rw e refl in absurd (cc (not_so, ap (λ (p : TableState × Bool). p.1) is))

-- It did so, whether a channel was on or not.
pub drop_told : (core : HostCoreState) (a added c : List TableEntry) (by : ℕ) (open_on : Option ℕ) (deeds : List Deed) → (core.core).outbox ≡ [] → c ≡ with_call a added by ask.DropSent (reply.DroppedSent true) → AreQuiet added → IsTableHistory c
    → AllByRecursion AsksInRange (asks_among added) → StandsAt core a open_on deeds → Told AnyChannel core c None nothing nothing deeds
drop_told core a added c by (Some channel) deeds empty place quiet legal fit s =
    let mid : List TableEntry = a ++ added in
    let whole : List TableEntry = with_call a added by ask.DropSent (reply.DroppedSent true) in
    let step = (step_behind mid by ask.DropSent (reply.DroppedSent true) (subst IsTableHistory place legal)).0 in
    let none_left : emptied core ≡ core = ap (λ (o : List (List ℕ)). record core { core = record core.core { outbox = o } }) (sym empty) in
    subst (λ (x : HostCoreState). Told AnyChannel x c None nothing nothing deeds) none_left
    (end_told AnyChannel channel core a added c by ask.DropSent (reply.DroppedSent true) deeds place quiet legal fit (dropped_accepts true) (λ b. refl) (sent_all (table_at mid) (table_at whole) step)
    (λ x counts same. none_left_to_send core (table_at mid) (table_at whole) empty step) s)
drop_told core a added c by None deeds empty place quiet legal fit s =
    let mid : List TableEntry = a ++ added in
    let t : TableState = table_at mid in
    let whole : List TableEntry = with_call a added by ask.DropSent (reply.DroppedSent true) in
    let at_whole : IsTableHistory whole = subst IsTableHistory place legal in
    let at_mid : IsTableHistory mid = earlier_history mid (entry by ask.DropSent (reply.DroppedSent true) ∷ []) whole refl at_whole in
    let reached : IsReachedTable t = let there = led_goes mid at_mid.0 at_mid.1 in record { history = table_history mid; holds = there.holds; is = refl } in
    let before = quiet_stands core a added None deeds s quiet at_mid fit in
    let step = (step_behind mid by ask.DropSent (reply.DroppedSent true) at_whole).0 in
    let same : table_at whole ≡ t = sym (sent_all t (table_at whole) step) ∙ shut_dropped t (reached_slots t reached) before.channel in
    idle_told core a added c by ask.DropSent (reply.DroppedSent true) None deeds place quiet legal fit (dropped_accepts true) (λ b. refl) same s

-- It didn't, since something is to be sent.
pub kept_told : (core : HostCoreState) (a added c : List TableEntry) (by : ℕ) (open_on : Option ℕ) (deeds : List Deed) → c ≡ with_call a added by ask.DropSent (reply.DroppedSent false) → AreQuiet added → IsTableHistory c
    → AllByRecursion AsksInRange (asks_among added) → StandsAt core a open_on deeds → Told AnyChannel core c open_on nothing nothing deeds
kept_told core a added c by open_on deeds place quiet legal fit s =
    let mid : List TableEntry = a ++ added in
    let whole : List TableEntry = with_call a added by ask.DropSent (reply.DroppedSent false) in
    let step = (step_behind mid by ask.DropSent (reply.DroppedSent false) (subst IsTableHistory place legal)).0 in
    idle_told core a added c by ask.DropSent (reply.DroppedSent false) open_on deeds place quiet legal fit (dropped_accepts false) (λ b. refl) (sent_some (table_at mid) (table_at whole) step) s

-- A channel ends by its peer, or by a fault. It doesn't count, since something may be left to send.
dropped_channel_accepts : AcceptsNone ask.DropChannel reply.Dropped
dropped_channel_accepts by h = go (is_some (after h).channel)
  where
    go : (b : Bool) → accepted_in (cond b (drops ∷ []) [] ++ h) ≡ accepted_in h
    go true = refl
    go false = refl

pub ended_told : (channel : ℕ) (core : HostCoreState) (a added c : List TableEntry) (by : ℕ) (deeds : List Deed) → c ≡ with_call a added by ask.DropChannel reply.Dropped → AreQuiet added → IsTableHistory c
    → AllByRecursion AsksInRange (asks_among added) → StandsAt core a (Some channel) deeds → Told (λ x. channel ≢ x) (emptied core) c None nothing nothing deeds
ended_told channel core a added c by deeds place quiet legal fit s =
    end_told (λ x. channel ≢ x) channel core a added c by ask.DropChannel reply.Dropped deeds place quiet legal fit dropped_channel_accepts (λ b. refl)
    (step_behind (a ++ added) by ask.DropChannel reply.Dropped (subst IsTableHistory place legal)).0 (λ x counts same. absurd (counts same)) s
