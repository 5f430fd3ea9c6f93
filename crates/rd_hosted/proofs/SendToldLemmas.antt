-- What a call for messages tells: the host wrote those that are handed out, with what applications asked meanwhile between.
use Rattle.std.proofs.Common.{◌≡◌, ◌∙◌, refl, sym, ap, subst, ℕ, zero, suc, ◌==◌, Bool, true, false, cond, List, [], ◌∷◌, ◌++◌, append-nil, Some, None, Option}
use Rattle.std.specs.Prelude.{is_some, reverse}
use Rattle.std.specs.List.{AllByRecursion}
use Rattle.std.specs.Option.{option_to_list}
use Rattle.std.proofs.lemmas.List.{reverse-append}
use Rattle.rd_host.specs.Core.{HostCoreState, host_send}
use Rattle.rd_pending.specs.History.{accepted_in}
use Rattle.rd_pending.specs.Table as table
use Rattle.rd_pending.specs.Table.{TableState}
use Rattle.rd_table.specs.declared.calls.PendingCall.TheVariants as ask
use Rattle.rd_table.specs.declared.calls.PendingReply.TheVariants as reply
use Rattle.rd_table.specs.Histories.{handed_in, table_history}
use Rattle.rd_turn.specs.History.{entry}
use Rattle.rd_host_front.specs.declared.calls.Stop.{Stop}
use Rattle.rd_host_front.specs.HostFront.{FillsAfter, FillsRoom, HandsOne}
use Rattle.rd_host_front.specs.State.{FrontPassState, HostFrontState}
use Rattle.rd_host_front.proofs.GoingLemmas.{core_of, table_of}
use Rattle.rd_host_turns.specs.Turns.{AreQuiet, IsOwnCall, SeenAlong, TableEntry, TablePart, TablePartGoes, TablePartsGo, calls}
use Rattle.rd_deeds.specs.Host.{next_message, sent_from, side_sends}
use Rattle.rd_deeds.specs.Talk.{Deed, host_writes}
use Rattle.rd_hosted.specs.Asks.{asks_among, table_at}
use Rattle.rd_hosted.specs.Heard.{IsOnStill}
use Rattle.rd_hosted.specs.Kept.{AsksInRange}
use Rattle.rd_hosted.proofs.BetweenLemmas.{AcceptsNone, IsTableHistory, accepted_still, earlier_history, fit_in, fit_last, handed_still, seen_prefix, step_behind}
use Rattle.rd_hosted.proofs.ChannelLemmas.{call_channel}
use Rattle.rd_hosted.proofs.StandLemmas.{asks_moved, asks_read, asks_written, deeds_for, side, stands_as, write_stands}
use Rattle.rd_hosted.proofs.HeardLemmas.{channel_in, on_of, still_then}
use Rattle.rd_hosted.proofs.ToldLemmas.{AnyChannel, StandsAt, Told, asks_sent, moved_write, moves_of, nothing, only, quiet_stands, told_alike, told_as, told_nothing, told_then, written_first}

-- ---- parts, one after the other

pub seen_split : (xs ys : List TablePart) (a c : List TableEntry) → SeenAlong a (xs ++ ys) c → (b : List TableEntry) × SeenAlong a xs b × SeenAlong b ys c
seen_split [] ys a c seen = (a, refl, seen)
seen_split (x ∷ xs) ys a c (next, goes, others) = let (b, first, rest) = seen_split xs ys next c others in (b, (next, goes, first), rest)

pub parts_on : (xs ys : List TablePart) (a b c : FrontPassState) → TablePartsGo a xs b → TablePartsGo b ys c → TablePartsGo a (xs ++ ys) c
parts_on [] ys a b c is more = subst (λ (f : FrontPassState). TablePartsGo f ys c) is more
parts_on (x ∷ xs) ys a b c (next, goes, others) more = (next, goes, parts_on xs ys next b c others more)

pub all_on : {A : Type 0} (P : A → Type 0) (xs ys : List A) → AllByRecursion P xs → AllByRecursion P ys → AllByRecursion P (xs ++ ys)
all_on P [] ys all more = more
all_on P (x ∷ xs) ys all more = (all.0, all_on P xs ys all.1 more)

-- ---- one message

-- the core's first message is handed out
record OwnFirst (core next : HostCoreState) (message : List ℕ) : Type 0 where
  others : List (List ℕ)
  outbox : (core.core).outbox ≡ message ∷ others
  left : (host_send core).0 ≡ next

own_first : (core next : HostCoreState) (message : List ℕ) → host_send core ≡ (next, Some message) → OwnFirst core next message
own_first core next message is = go (core.core).outbox refl
  where
    go : (o : List (List ℕ)) → (core.core).outbox ≡ o → OwnFirst core next message
    go [] e = let none : is_some (host_send core).1 ≡ false = rw e refl in absurd (cc (none, ap (λ (p : HostCoreState × Option (List ℕ)). is_some p.1) is))
    go (m ∷ ms) e =
        let first : Some m ≡ Some message = (let here : (host_send core).1 ≡ Some m = rw e refl in sym here ∙ ap (λ (p : HostCoreState × Option (List ℕ)). p.1) is) in
        record { others = ms; outbox = e ∙ ap (λ (x : List ℕ). x ∷ ms) (cc first); left = ap (λ (p : HostCoreState × Option (List ℕ)). p.0) is }

-- it has none
own_none : (core next : HostCoreState) → host_send core ≡ (next, None) → ((core.core).outbox ≡ []) × (next ≡ core)
own_none core next is = go (core.core).outbox refl
  where
    go : (o : List (List ℕ)) → (core.core).outbox ≡ o → ((core.core).outbox ≡ []) × (next ≡ core)
    go [] e = (e, ap (λ (p : HostCoreState × Option (List ℕ)). p.0) (sym is ∙ (let here : host_send core ≡ (core, None) = rw e refl in here)))
    go (m ∷ ms) e = let some : is_some (host_send core).1 ≡ true = rw e refl in absurd (cc (some, ap (λ (p : HostCoreState × Option (List ℕ)). is_some p.1) is))

-- the table's first message is handed out, or it has none
table_first : (t u : TableState) (message : List ℕ) → table.send t ≡ (u, Some message) → (others : List (List ℕ)) × (t.outbox ≡ message ∷ others)
table_first t u message is = go t.outbox refl
  where
    go : (o : List (List ℕ)) → t.outbox ≡ o → (others : List (List ℕ)) × (t.outbox ≡ message ∷ others)
    go [] e = let none : is_some (table.send t).1 ≡ false = rw e refl in absurd (cc (none, ap (λ (p : TableState × Option (List ℕ)). is_some p.1) is))
    go (m ∷ ms) e =
        let first : Some m ≡ Some message = (let here : (table.send t).1 ≡ Some m = rw e refl in sym here ∙ ap (λ (p : TableState × Option (List ℕ)). p.1) is) in
        (ms, e ∙ ap (λ (x : List ℕ). x ∷ ms) (cc first))

table_none : (t u : TableState) → table.send t ≡ (u, None) → u ≡ t
table_none t u is = go t.outbox refl
  where
    go : (o : List (List ℕ)) → t.outbox ≡ o → u ≡ t
    go [] e = ap (λ (p : TableState × Option (List ℕ)). p.0) (sym is ∙ (let here : table.send t ≡ (t, None) = rw e refl in here))
    go (m ∷ ms) e = let some : is_some (table.send t).1 ≡ true = rw e refl in absurd (cc (some, ap (λ (p : TableState × Option (List ℕ)). is_some p.1) is))

sends_accept : (answer : Option (List ℕ)) → AcceptsNone ask.Outbox (reply.Sent answer)
sends_accept (Some message) = λ by h. refl
sends_accept None = λ by h. refl

-- messages on one channel, the newest first
abbrev pub those : ℕ → List (List ℕ) → ℕ → List (List ℕ)
those channel messages c = cond (channel == c) (reverse messages) []

-- What handing messages out tells.
pub record HandsTold (channel : ℕ) (old new : HostFrontState) (messages : List (List ℕ)) : Type 0 where
  pub parts : List TablePart
  pub own : AllByRecursion IsOwnCall parts
  pub goes : TablePartsGo old.table parts new.table
  pub still : IsOnStill old new
  pub tells : (a c : List TableEntry) → SeenAlong a parts c → IsTableHistory c → AllByRecursion AsksInRange (asks_among c) → (deeds : List Deed) → StandsAt old.core a (Some channel) deeds
      → Told AnyChannel new.core c (Some channel) nothing (those channel messages) deeds

none_by : (b : Bool) → nothing 0 ≡ cond b (reverse []) []
none_by true = refl
none_by false = refl

none_written : (channel c : ℕ) → nothing c ≡ those channel [] c
none_written channel c = none_by (channel == c)

own_told : (channel : ℕ) (message : List ℕ) (core next : HostCoreState) (a : List TableEntry) (deeds : List Deed) → host_send core ≡ (next, Some message) → StandsAt core a (Some channel) deeds
    → Told AnyChannel next a (Some channel) nothing (those channel (message ∷ [])) deeds
own_told channel message core next a deeds is s =
    let first = own_first core next message is in
    let waits : next_message (side core (table_at a)) ≡ Some message = rw first.outbox refl in
    let leads : side_sends (side core (table_at a)) ≡ side next (table_at a) = ap (sent_from (side core (table_at a))) first.outbox ∙ ap (λ (x : HostCoreState). side x (table_at a)) first.left in
    record {
      more = host_writes channel message ∷ [];
      stands = record { stands = write_stands channel message core (table_at a) (side next (table_at a)) (accepted_in (table_history a)) (handed_in a) deeds s.stands s.channel waits leads; channel = s.channel };
      read = λ c. refl;
      written = λ c. written_first c channel message [] [] refl ∙ append-nil (only channel message c);
      moved = λ c. moved_write c channel message [] refl;
      sent = λ c counts. (tt, tt);
    }

request_told : (channel : ℕ) (message : List ℕ) (core : HostCoreState) (a added c : List TableEntry) (by : ℕ) (deeds : List Deed) → (core.core).outbox ≡ [] → c ≡ (a ++ added) ++ entry by ask.Outbox (reply.Sent (Some message)) ∷ [] → AreQuiet added
    → IsTableHistory c → AllByRecursion AsksInRange (asks_among added) → StandsAt core a (Some channel) deeds → Told AnyChannel core c (Some channel) nothing (those channel (message ∷ [])) deeds
request_told channel message core a added c by deeds empty place quiet legal fit s =
    let mid : List TableEntry = a ++ added in
    let t : TableState = table_at mid in
    let whole : List TableEntry = mid ++ entry by ask.Outbox (reply.Sent (Some message)) ∷ [] in
    let at_whole : IsTableHistory whole = subst IsTableHistory place legal in
    let before = quiet_stands core a added (Some channel) deeds s quiet (earlier_history mid (entry by ask.Outbox (reply.Sent (Some message)) ∷ []) whole refl at_whole) fit in
    let step : table.send t ≡ (table_at whole, Some message) = (step_behind mid by ask.Outbox (reply.Sent (Some message)) at_whole).0 in
    let (others, first) = table_first t (table_at whole) message step in
    let waits : next_message (side core t) ≡ Some message = rw (empty, first) refl in
    let leads : side_sends (side core t) ≡ side core (table_at whole) = ap (sent_from (side core t)) empty ∙ ap (λ (p : TableState × Option (List ℕ)). side core p.0) step in
    record {
      more = host_writes channel message ∷ deeds_for (asks_among added);
      stands = told_as core core whole whole c (Some channel) (Some channel) (host_writes channel message ∷ (deeds_for (asks_among added) ++ deeds)) refl (sym place) refl (record {
        stands = stands_as core core (table_at whole) (table_at whole) _ _ _ _ (host_writes channel message ∷ (deeds_for (asks_among added) ++ deeds)) refl refl
            (sym (accepted_still mid by ask.Outbox (reply.Sent (Some message)) (sends_accept (Some message)))) (sym (handed_still mid by ask.Outbox (reply.Sent (Some message)) (λ b. refl)))
            (write_stands channel message core t (side core (table_at whole)) (accepted_in (table_history mid)) (handed_in mid) (deeds_for (asks_among added) ++ deeds) before.stands before.channel waits leads);
        channel = call_channel a added whole by ask.Outbox (reply.Sent (Some message)) refl quiet tt ∙ s.channel;
      });
      read = λ x. asks_read x (asks_among added);
      written = λ x. written_first x channel message (deeds_for (asks_among added)) [] (asks_written x (asks_among added)) ∙ append-nil (only channel message x);
      moved = λ x. moved_write x channel message (deeds_for (asks_among added)) (asks_moved x (asks_among added));
      sent = λ x counts. (tt, asks_sent x (asks_among added) deeds);
    }

empty_told : (channel : ℕ) (core : HostCoreState) (a added c : List TableEntry) (by : ℕ) (deeds : List Deed) → c ≡ (a ++ added) ++ entry by ask.Outbox (reply.Sent None) ∷ [] → AreQuiet added
    → IsTableHistory c → AllByRecursion AsksInRange (asks_among added) → StandsAt core a (Some channel) deeds → Told AnyChannel core c (Some channel) nothing (those channel []) deeds
empty_told channel core a added c by deeds place quiet legal fit s =
    let mid : List TableEntry = a ++ added in
    let whole : List TableEntry = mid ++ entry by ask.Outbox (reply.Sent None) ∷ [] in
    let at_whole : IsTableHistory whole = subst IsTableHistory place legal in
    let before = quiet_stands core a added (Some channel) deeds s quiet (earlier_history mid (entry by ask.Outbox (reply.Sent None) ∷ []) whole refl at_whole) fit in
    let same : table_at whole ≡ table_at mid = table_none (table_at mid) (table_at whole) (step_behind mid by ask.Outbox (reply.Sent None) at_whole).0 in
    record {
      more = deeds_for (asks_among added);
      stands = told_as core core whole whole c (Some channel) (Some channel) (deeds_for (asks_among added) ++ deeds) refl (sym place) refl (record {
        stands = stands_as core core (table_at mid) (table_at whole) _ _ _ _ (deeds_for (asks_among added) ++ deeds) refl (sym same)
            (sym (accepted_still mid by ask.Outbox (reply.Sent None) (sends_accept None))) (sym (handed_still mid by ask.Outbox (reply.Sent None) (λ b. refl))) before.stands;
        channel = call_channel a added whole by ask.Outbox (reply.Sent None) refl quiet tt ∙ s.channel;
      });
      read = λ x. asks_read x (asks_among added);
      written = λ x. asks_written x (asks_among added) ∙ none_written channel x;
      moved = λ x. asks_moved x (asks_among added) ∙ ap (λ (l : List (List ℕ)). moves_of l []) (none_written channel x);
      sent = λ x counts. asks_sent x (asks_among added) deeds;
    }

-- one call for a message
one_told : (channel : ℕ) (given : Option (List ℕ)) (old next : HostFrontState) → HandsOne old given next → HandsTold channel old next (option_to_list given)
one_told channel given old next (Some message, mid, own, gives) = record {
  parts = [];
  own = tt;
  goes = ap table_of gives.1 ∙ ap table_of own.1;
  still = (ap on_of gives.1 ∙ ap on_of own.1, ap channel_in gives.1 ∙ ap channel_in own.1);
  tells = λ a c seen legal fit deeds s.
      let told = own_told channel message old.core next.core a deeds (own.0 ∙ ap (λ (x : HostCoreState). (x, Some message)) (sym (ap core_of gives.1))) s in
      told_alike next.core c (Some channel) nothing (those channel (message ∷ [])) nothing (those channel (option_to_list given)) deeds (λ x. refl) (λ x. ap (λ (o : Option (List ℕ)). those channel (option_to_list o) x) (sym gives.0))
      (subst (λ (l : List TableEntry). Told AnyChannel next.core l (Some channel) nothing (those channel (message ∷ [])) deeds) (sym seen) told);
}
one_told channel given old next (None, mid, own, gives) =
    let empty = own_none old.core mid.core own.0 in
    record {
      parts = calls ask.Outbox (reply.Sent given) ∷ [];
      own = (tt, tt);
      goes = (next.table, subst (λ (f : FrontPassState). TablePartGoes f (calls ask.Outbox (reply.Sent given)) next.table) (ap table_of own.1) gives.0, refl);
      still = (ap on_of gives.1 ∙ ap on_of own.1, ap channel_in gives.1 ∙ ap channel_in own.1);
      tells = λ a c seen legal fit deeds s.
          let (added, by, place, quiet) = seen.1 in
          let whole : c ≡ (a ++ added) ++ entry by ask.Outbox (reply.Sent given) ∷ [] = seen.2 ∙ place in
          let fit_added = fit_last AsksInRange a added (fit_in AsksInRange (a ++ added) (entry by ask.Outbox (reply.Sent given) ∷ []) c (sym whole) fit) in
          subst (λ (x : HostCoreState). Told AnyChannel x c (Some channel) nothing (those channel (option_to_list given)) deeds) (sym (ap core_of gives.1 ∙ empty.1)) (by_given given a added c by deeds empty.0 whole quiet legal fit_added s);
    }
  where
    by_given : (given : Option (List ℕ)) (a added c : List TableEntry) (by : ℕ) (deeds : List Deed) → ((old.core).core).outbox ≡ [] → c ≡ (a ++ added) ++ entry by ask.Outbox (reply.Sent given) ∷ [] → AreQuiet added
        → IsTableHistory c → AllByRecursion AsksInRange (asks_among added) → StandsAt old.core a (Some channel) deeds → Told AnyChannel old.core c (Some channel) nothing (those channel (option_to_list given)) deeds
    by_given (Some message) a added c by deeds empty place quiet legal fit s = request_told channel message old.core a added c by deeds empty place quiet legal fit s
    by_given None a added c by deeds empty place quiet legal fit s = empty_told channel old.core a added c by deeds place quiet legal fit s

-- ---- messages, one after the other

those_more : (channel c : ℕ) (message : List ℕ) (later : List (List ℕ)) → those channel later c ++ those channel (message ∷ []) c ≡ those channel (message ∷ later) c
those_more channel c message later = go (channel == c)
  where
    go : (b : Bool) → cond b (reverse later) [] ++ cond b (reverse (message ∷ [])) [] ≡ cond b (reverse (message ∷ later)) []
    go true = sym (reverse-append (message ∷ []) later)
    go false = refl

joined_told : (channel : ℕ) (old next new : HostFrontState) (message : List ℕ) (later : List (List ℕ)) → HandsTold channel old next (message ∷ []) → HandsTold channel next new later → HandsTold channel old new (message ∷ later)
joined_told channel old next new message later one others = record {
  parts = one.parts ++ others.parts;
  own = all_on IsOwnCall one.parts others.parts one.own others.own;
  goes = parts_on one.parts others.parts old.table next.table new.table one.goes others.goes;
  still = still_then old next new one.still others.still;
  tells = λ a c seen legal fit deeds s.
      let (b, first, rest) = seen_split one.parts others.parts a c seen in
      let on = seen_prefix others.parts b c rest in
      let told = one.tells a b first (earlier_history b on.0 c (sym on.1) legal) (fit_in AsksInRange b on.0 c on.1 fit) deeds s in
      let more = others.tells b c rest legal fit (told.more ++ deeds) told.stands in
      told_alike new.core c (Some channel) nothing (λ x. those channel later x ++ those channel (message ∷ []) x) nothing (those channel (message ∷ later)) deeds (λ x. refl) (λ x. those_more channel x message later)
      (told_then new.core next.core b c (Some channel) (Some channel) (those channel (message ∷ [])) (those channel later) deeds told more);
}

pub fills_told : (channel most : ℕ) (old new : HostFrontState) (messages : List (List ℕ)) (why : Stop) → FillsRoom most old messages why new → HandsTold channel old new messages
fills_told channel zero old new messages why (none, is, same) = record {
  parts = [];
  own = tt;
  goes = ap table_of same;
  still = (ap on_of same, ap channel_in same);
  tells = λ a c seen legal fit deeds s.
      told_alike new.core c (Some channel) nothing nothing nothing (those channel messages) deeds (λ x. refl) (λ x. none_written channel x ∙ ap (λ (l : List (List ℕ)). those channel l x) (sym none))
      (told_nothing old.core new.core a c (Some channel) deeds (sym (ap core_of same)) seen s);
}
fills_told channel (suc most) old new messages why (given, next, hands, after_it) = by given (one_told channel given old next hands) after_it (λ later fills. fills_told channel most next new later why fills)
  where
    by : (given : Option (List ℕ)) → HandsTold channel old next (option_to_list given) → FillsAfter given next messages why new (λ later. FillsRoom most next later why new)
        → ((later : List (List ℕ)) → FillsRoom most next later why new → HandsTold channel next new later) → HandsTold channel old new messages
    by (Some message) one (later, is, fills) rest = subst (HandsTold channel old new) (sym is) (joined_told channel old next new message later one (rest later fills))
    by None one (is, stopped, same) rest = subst (HandsTold channel old new) (sym is) (subst (λ (s : HostFrontState). HandsTold channel old s []) (sym same) one)
