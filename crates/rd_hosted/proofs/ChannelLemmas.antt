-- Calls of a table that neither begin nor end a channel leave it open, or closed, as it was.
use Rattle.std.proofs.Common.{◌≡◌, ◌∙◌, refl, sym, ap, subst, ℕ, Bool, true, false, List, [], ◌∷◌, ◌++◌, append_assoc, append-nil, Some, None, Option, Ok, Err}
use Rattle.std.specs.Prelude.{Result}
use Rattle.std.specs.List.{AllByRecursion}
use Rattle.rd_pending.specs.declared.calls.CompleteNo.{CompleteNo}
use Rattle.rd_pending.specs.declared.calls.Completed.{Completed}
use Rattle.rd_pending.specs.declared.calls.LiveNo.{LiveNo}
use Rattle.rd_pending.specs.declared.calls.SubmitNo.{SubmitNo}
use Rattle.rd_pending.specs.declared.calls.TakeNo.{TakeNo}
use Rattle.rd_pending.specs.declared.calls.Taken.{Taken}
use Rattle.rd_pending.specs.History.{Call, after, done_by}
use Rattle.rd_pending.specs.Table as table
use Rattle.rd_pending.specs.Table.{TableCall, TableState}
use Rattle.rd_pending.proofs.Neutral.{AreNeutral, channel_all}
use Rattle.rd_table.specs.declared.calls.PendingCall.{PendingCall}
use Rattle.rd_table.specs.declared.calls.PendingCall.TheVariants as ask
use Rattle.rd_table.specs.declared.calls.PendingReply.{PendingReply}
use Rattle.rd_table.specs.declared.calls.PendingReply.TheVariants as reply
use Rattle.rd_table.specs.Calls.{table_call, table_calls}
use Rattle.rd_table.specs.Histories.{done_by_all, table_history}
use Rattle.rd_table.proofs.StepLemmas.{history_more}
use Rattle.rd_turn.specs.History.{entry}
use Rattle.rd_host_turns.specs.Turns.{AreQuiet, IsQuietCall, SeenAlong, TableEntry, TablePart, calls, renews, renews_by}
use Rattle.rd_hosted.specs.Asks.{table_at}

-- a call that neither begins nor ends a channel
abbrev pub KeepsOpen : PendingCall → Type 0
KeepsOpen (ask.Begin channel) = ⊥
KeepsOpen ask.DropChannel = ⊥
KeepsOpen ask.DropSent = ⊥
KeepsOpen _ = Unit {0}

-- what it does is neutral
neutral_done : (t : TableState) (does : PendingCall) (back : PendingReply) (made : TableCall) → KeepsOpen does → table_call does back ≡ Some made → AreNeutral (done_by t made)
neutral_done t (ask.Live device) (reply.Lives answer) made keeps e = let is : table.lives device answer ≡ made = cc e in subst (λ (m : TableCall). AreNeutral (done_by t m)) is (by answer)
  where
    by : (answer : Result ℕ LiveNo) → AreNeutral (done_by t (table.lives device answer))
    by (Ok life) = (tt, tt)
    by (Err cause) = tt
neutral_done t (ask.Submit application named o) (reply.Submitted answer) made keeps e = let is : table.submits application named o answer ≡ made = cc e in subst (λ (m : TableCall). AreNeutral (done_by t m)) is (by answer)
  where
    by : (answer : Result ℕ SubmitNo) → AreNeutral (done_by t (table.submits application named o answer))
    by (Ok number) = (tt, tt)
    by (Err cause) = tt
neutral_done t (ask.Submit application named o) reply.Unfit made keeps e = let is : table.submits_unfit application named o ≡ made = cc e in subst (λ (m : TableCall). AreNeutral (done_by t m)) is tt
neutral_done t ask.Outbox (reply.Sent answer) made keeps e = let is : table.sends answer ≡ made = cc e in subst (λ (m : TableCall). AreNeutral (done_by t m)) is (by answer)
  where
    by : (answer : Option (List ℕ)) → AreNeutral (done_by t (table.sends answer))
    by (Some message) = (tt, tt)
    by None = tt
neutral_done t (ask.Complete head body) (reply.Completed answer) made keeps e = let is : table.completes head body answer ≡ made = cc e in subst (λ (m : TableCall). AreNeutral (done_by t m)) is (by answer)
  where
    by : (answer : Result Completed CompleteNo) → AreNeutral (done_by t (table.completes head body answer))
    by (Ok gave) = (tt, tt)
    by (Err cause) = tt
neutral_done t (ask.Remove device) (reply.Removed answer) made keeps e = let is : table.removes device answer ≡ made = cc e in subst (λ (m : TableCall). AreNeutral (done_by t m)) is (by answer)
  where
    by : (answer : Bool) → AreNeutral (done_by t (table.removes device answer))
    by true = (tt, tt)
    by false = tt
neutral_done t (ask.Take number) (reply.Taken answer) made keeps e = let is : table.takes number answer ≡ made = cc e in subst (λ (m : TableCall). AreNeutral (done_by t m)) is (by answer)
  where
    by : (answer : Result Taken TakeNo) → AreNeutral (done_by t (table.takes number answer))
    by (Ok given) = (tt, tt)
    by (Err cause) = tt
neutral_done t ask.Stage (reply.Stands stage) made keeps e = let is : table.stages stage ≡ made = cc e in subst (λ (m : TableCall). AreNeutral (done_by t m)) is tt
neutral_done t (ask.Begin channel) back made keeps e = absurd keeps
neutral_done t ask.DropChannel back made keeps e = absurd keeps
neutral_done t ask.DropSent back made keeps e = absurd keeps
neutral_done t does back made keeps e = absurd (cc e)

keeps_one : (old : List TableEntry) (e : TableEntry) → KeepsOpen e.call → (table_at (old ++ e ∷ [])).channel ≡ (table_at old).channel
keeps_one old e keeps = ap (λ (h : List Call). (after h).channel) (history_more old (e ∷ [])) ∙ go (table_call e.call e.reply) refl
  where
    h : List Call
    h = table_history old

    go : (o : Option TableCall) → table_call e.call e.reply ≡ o → (after (done_by_all h (table_calls (e ∷ [])))).channel ≡ (after h).channel
    go None is = rw is refl
    go (Some made) is = rw is (channel_all (done_by (after h) made) h (neutral_done (after h) e.call e.reply made keeps is))

pub keeps_all : (more old : List TableEntry) → AllByRecursion (λ (e : TableEntry). KeepsOpen e.call) more → (table_at (old ++ more)).channel ≡ (table_at old).channel
keeps_all [] old keeps = ap (λ (l : List TableEntry). (table_at l).channel) (append-nil old)
keeps_all (e ∷ more) old keeps = ap (λ (l : List TableEntry). (table_at l).channel) (sym (append_assoc old (e ∷ []) more)) ∙ (keeps_all more (old ++ e ∷ []) keeps.1 ∙ keeps_one old e keeps.0)

quiet_keeps : (does : PendingCall) (back : PendingReply) → IsQuietCall does back → KeepsOpen does
quiet_keeps (ask.Begin channel) back quiet = absurd quiet
quiet_keeps ask.DropChannel back quiet = absurd quiet
quiet_keeps ask.DropSent back quiet = absurd quiet
quiet_keeps (ask.Live device) back quiet = tt
quiet_keeps (ask.Submit application named o) back quiet = tt
quiet_keeps ask.Outbox back quiet = tt
quiet_keeps (ask.Complete head body) back quiet = tt
quiet_keeps (ask.Remove device) back quiet = tt
quiet_keeps (ask.Take number) back quiet = tt
quiet_keeps ask.Stage back quiet = tt

quiet_keep : (added : List TableEntry) → AreQuiet added → AllByRecursion (λ (e : TableEntry). KeepsOpen e.call) added
quiet_keep [] quiet = tt
quiet_keep (e ∷ added) quiet = (quiet_keeps e.call e.reply quiet.0, quiet_keep added quiet.1)

-- what applications ask leaves the channel
pub quiet_channel : (old added : List TableEntry) → AreQuiet added → (table_at (old ++ added)).channel ≡ (table_at old).channel
quiet_channel old added quiet = keeps_all added old (quiet_keep added quiet)

-- a part that does
abbrev pub PartKeepsOpen : TablePart → Type 0
PartKeepsOpen (calls does back) = KeepsOpen does
PartKeepsOpen (renews given last) = Unit {0}
PartKeepsOpen (renews_by does back given last) = ⊥

pub call_channel : (old added new : List TableEntry) (by : ℕ) (does : PendingCall) (back : PendingReply) → new ≡ (old ++ added) ++ entry by does back ∷ [] → AreQuiet added → KeepsOpen does → (table_at new).channel ≡ (table_at old).channel
call_channel old added new by does back place quiet keeps =
    ap (λ (l : List TableEntry). (table_at l).channel) place ∙ (keeps_one (old ++ added) (entry by does back) keeps ∙ quiet_channel old added quiet)

pub seen_channel : (parts : List TablePart) (old new : List TableEntry) → AllByRecursion PartKeepsOpen parts → SeenAlong old parts new → (table_at new).channel ≡ (table_at old).channel
seen_channel [] old new keeps is = ap (λ (l : List TableEntry). (table_at l).channel) is
seen_channel (calls does back ∷ parts) old new keeps (next, (added, by, place, quiet), others) = seen_channel parts next new keeps.1 others ∙ call_channel old added next by does back place quiet keeps.0
seen_channel (renews given last ∷ parts) old new keeps (next, (added, place, quiet), others) =
    seen_channel parts next new keeps.1 others ∙ (ap (λ (l : List TableEntry). (table_at l).channel) place ∙ quiet_channel old added quiet)
seen_channel (renews_by does back given last ∷ parts) old new keeps seen = absurd keeps.0
