-- Where a look behind a channel's beginning says that so many devices are there, or that the channel is over, so many lives were given in between, or the channel was dropped.
use Rattle.std.proofs.Common.{◌≡◌, ◌∙◌, ◌⊎◌, inl, inr, refl, sym, ap, subst, ℕ, ◌+◌, ◌≤◌, arith, Bool, true, false, List, [], ◌∷◌, ◌++◌, append_assoc, append-nil, add-zero, add_assoc, Some, None, Ok, Err}
use Rattle.std.specs.Prelude.{is_some, if◌then◌else◌}
use Rattle.std.specs.List.{AllByRecursion, cons_option}
use Rattle.std.proofs.Math.Nat.{zero-add}
use Rattle.rd_host_front.specs.Asked.{CallMade}
use Rattle.rd_host_player.specs.Play.{IsReady}
use Rattle.rd_pending.specs.declared.calls.Stage.{Stage}
use Rattle.rd_pending.specs.History as history
use Rattle.rd_pending.specs.History.{Call, after}
use Rattle.rd_pending.specs.Table.{TableCall, TableState, new_table}
use Rattle.rd_table.specs.declared.calls.PendingCall.{PendingCall}
use Rattle.rd_table.specs.declared.calls.PendingCall.TheVariants as call
use Rattle.rd_table.specs.declared.calls.PendingReply.{PendingReply}
use Rattle.rd_table.specs.declared.calls.PendingReply.TheVariants as reply
use Rattle.rd_table.specs.Calls.{PendingStep, table_call, table_calls}
use Rattle.rd_table.specs.Histories.{done_by_all, lives_begun, on_channel, table_history}
use Rattle.rd_table.proofs.ChannelLemmas.{stage_told}
use Rattle.rd_table.proofs.StepLemmas.{done_more, told_more}
use Rattle.rd_turn.specs.History.{Leads, entry}
use Rattle.rd_host_turns.specs.Turns.{TableEntry}
use Rattle.rd_host_lines.specs.Places.{HaveDropped, IsDropping, OnlyLooks, control_call, control_calls, life_given, lives_given}

-- a call by which no channel begins or is to end by the script
abbrev pub IsWaiting : PendingCall → Type 0
IsWaiting (call.Begin channel) = ⊥
IsWaiting call.DropSent = ⊥
IsWaiting _ = Unit {0}

abbrev pub AreWaiting : List TableEntry → Type 0
AreWaiting entries = AllByRecursion (λ (e : TableEntry). IsWaiting e.call) entries

pub looks_wait : (entries : List TableEntry) → OnlyLooks (control_calls entries) → AreWaiting entries
looks_wait [] looks = tt
looks_wait (e ∷ entries) looks = let here = one e.call e.reply (control_calls entries) looks in (here.0, looks_wait entries here.1)
  where
    one : (does : PendingCall) (back : PendingReply) (rest : List CallMade) → OnlyLooks (control_call does back ++ rest) → IsWaiting does × OnlyLooks rest
    one (call.Begin channel) back rest ((stage, is), looks) = let does : call.Begin channel ≡ call.Stage = ap (λ (c : CallMade). c.0) is in absurd (cc does)
    one call.DropSent back rest ((stage, is), looks) = let does : call.DropSent ≡ call.Stage = ap (λ (c : CallMade). c.0) is in absurd (cc does)
    one call.Stage back rest (look, looks) = (tt, looks)
    one (call.Live device) back rest looks = (tt, looks)
    one (call.Submit application named op) back rest looks = (tt, looks)
    one call.Outbox back rest looks = (tt, looks)
    one (call.Complete head body) back rest looks = (tt, looks)
    one (call.Remove device) back rest looks = (tt, looks)
    one call.DropChannel back rest looks = (tt, looks)
    one (call.Take number) back rest looks = (tt, looks)

-- ---- one call

-- what a call tells of the table's calls
abbrev told : PendingCall → PendingReply → List TableCall
told does back = cons_option (table_call does back) []

lives_on : (h : List Call) (does : PendingCall) (back : PendingReply) → IsWaiting does → lives_begun (done_by_all h (told does back)) ≡ lives_begun h + life_given does back
lives_on h (call.Begin channel) back waits = absurd waits
lives_on h call.DropSent back waits = absurd waits
lives_on h (call.Live device) (reply.Lives (Ok life)) waits = refl
lives_on h (call.Live device) (reply.Lives (Err cause)) waits = sym (add-zero (lives_begun h))
lives_on h (call.Live device) _ waits = sym (add-zero (lives_begun h))
lives_on h (call.Submit application named op) (reply.Submitted (Ok number)) waits = sym (add-zero (lives_begun h))
lives_on h (call.Submit application named op) (reply.Submitted (Err cause)) waits = sym (add-zero (lives_begun h))
lives_on h (call.Submit application named op) _ waits = sym (add-zero (lives_begun h))
lives_on h call.Outbox (reply.Sent (Some message)) waits = sym (add-zero (lives_begun h))
lives_on h call.Outbox (reply.Sent None) waits = sym (add-zero (lives_begun h))
lives_on h call.Outbox _ waits = sym (add-zero (lives_begun h))
lives_on h (call.Complete head body) (reply.Completed (Ok completed)) waits = sym (add-zero (lives_begun h))
lives_on h (call.Complete head body) (reply.Completed (Err cause)) waits = sym (add-zero (lives_begun h))
lives_on h (call.Complete head body) _ waits = sym (add-zero (lives_begun h))
lives_on h (call.Remove device) (reply.Removed true) waits = sym (add-zero (lives_begun h))
lives_on h (call.Remove device) (reply.Removed false) waits = sym (add-zero (lives_begun h))
lives_on h (call.Remove device) _ waits = sym (add-zero (lives_begun h))
lives_on h call.DropChannel reply.Dropped waits = by (is_some (after h).channel)
  where
    by : (b : Bool) → lives_begun ((if b then history.drops ∷ [] else []) ++ h) ≡ lives_begun h + 0
    by true = sym (add-zero (lives_begun h))
    by false = sym (add-zero (lives_begun h))
lives_on h call.DropChannel _ waits = sym (add-zero (lives_begun h))
lives_on h (call.Take number) (reply.Taken (Ok taken)) waits = sym (add-zero (lives_begun h))
lives_on h (call.Take number) (reply.Taken (Err cause)) waits = sym (add-zero (lives_begun h))
lives_on h (call.Take number) _ waits = sym (add-zero (lives_begun h))
lives_on h call.Stage (reply.Stands stage) waits = sym (add-zero (lives_begun h))
lives_on h call.Stage _ waits = sym (add-zero (lives_begun h))

drops_on : (h : List Call) (does : PendingCall) (back : PendingReply) → IsWaiting does → on_channel (done_by_all h (told does back)) ≡ false → (on_channel h ≡ false) ⊎ IsDropping does
drops_on h (call.Begin channel) back waits is = absurd waits
drops_on h call.DropSent back waits is = absurd waits
drops_on h call.DropChannel back waits is = inr tt
drops_on h (call.Live device) (reply.Lives (Ok life)) waits is = inl is
drops_on h (call.Live device) (reply.Lives (Err cause)) waits is = inl is
drops_on h (call.Live device) _ waits is = inl is
drops_on h (call.Submit application named op) (reply.Submitted (Ok number)) waits is = inl is
drops_on h (call.Submit application named op) (reply.Submitted (Err cause)) waits is = inl is
drops_on h (call.Submit application named op) _ waits is = inl is
drops_on h call.Outbox (reply.Sent (Some message)) waits is = inl is
drops_on h call.Outbox (reply.Sent None) waits is = inl is
drops_on h call.Outbox _ waits is = inl is
drops_on h (call.Complete head body) (reply.Completed (Ok completed)) waits is = inl is
drops_on h (call.Complete head body) (reply.Completed (Err cause)) waits is = inl is
drops_on h (call.Complete head body) _ waits is = inl is
drops_on h (call.Remove device) (reply.Removed true) waits is = inl is
drops_on h (call.Remove device) (reply.Removed false) waits is = inl is
drops_on h (call.Remove device) _ waits is = inl is
drops_on h (call.Take number) (reply.Taken (Ok taken)) waits is = inl is
drops_on h (call.Take number) (reply.Taken (Err cause)) waits is = inl is
drops_on h (call.Take number) _ waits is = inl is
drops_on h call.Stage (reply.Stands stage) waits is = inl is
drops_on h call.Stage _ waits is = inl is

-- ---- one after the other

history_more : (entries : List TableEntry) (e : TableEntry) → table_history (entries ++ e ∷ []) ≡ done_by_all (table_history entries) (told e.call e.reply)
history_more entries e = ap (done_by_all []) (told_more entries (e ∷ [])) ∙ done_more [] (table_calls entries) (told e.call e.reply)

lives_since : (before entries : List TableEntry) → AreWaiting entries → lives_begun (table_history (before ++ entries)) ≡ lives_begun (table_history before) + lives_given entries
lives_since before [] waits = ap (λ (l : List TableEntry). lives_begun (table_history l)) (append-nil before) ∙ sym (add-zero (lives_begun (table_history before)))
lives_since before (e ∷ entries) (here, waits) =
    ap (λ (l : List TableEntry). lives_begun (table_history l)) (sym (append_assoc before (e ∷ []) entries))
    ∙ (lives_since (before ++ e ∷ []) entries waits
    ∙ (ap (λ (n : ℕ). n + lives_given entries) (ap lives_begun (history_more before e) ∙ lives_on (table_history before) e.call e.reply here)
    ∙ add_assoc (lives_begun (table_history before)) (life_given e.call e.reply) (lives_given entries)))

dropped_since : (before entries : List TableEntry) → AreWaiting entries → on_channel (table_history (before ++ entries)) ≡ false → (on_channel (table_history before) ≡ false) ⊎ HaveDropped entries
dropped_since before [] waits is = inl (ap (λ (l : List TableEntry). on_channel (table_history l)) (sym (append-nil before)) ∙ is)
dropped_since before (e ∷ entries) (here, waits) is =
    by (dropped_since (before ++ e ∷ []) entries waits (ap (λ (l : List TableEntry). on_channel (table_history l)) (append_assoc before (e ∷ []) entries) ∙ is))
  where
    first : (on_channel (table_history before) ≡ false) ⊎ IsDropping e.call → (on_channel (table_history before) ≡ false) ⊎ HaveDropped (e ∷ entries)
    first (inl shut) = inl shut
    first (inr drops) = inr (inl drops)

    by : (on_channel (table_history (before ++ e ∷ [])) ≡ false) ⊎ HaveDropped entries → (on_channel (table_history before) ≡ false) ⊎ HaveDropped (e ∷ entries)
    by (inl shut) = first (drops_on (table_history before) e.call e.reply here (ap on_channel (sym (history_more before e)) ∙ shut))
    by (inr dropped) = inr (inr dropped)

-- ---- a channel that began

-- The last look behind its beginning said so.
pub ready_so : (all before after later : List TableEntry) (t : TableState) (channel by looker devices : ℕ) (stage : Stage) → Leads PendingStep new_table all t
    → all ≡ (before ++ entry by (call.Begin channel) (reply.Begun true) ∷ after) ++ entry looker call.Stage (reply.Stands stage) ∷ later → AreWaiting after → IsReady devices stage
    → (devices ≤ lives_given after) ⊎ HaveDropped after
ready_so all before after later t channel by looker devices stage leads place waits ready = told_by ready
  where
    b : TableEntry
    b = entry by (call.Begin channel) (reply.Begun true)

    begun : table_history (before ++ b ∷ []) ≡ history.begins channel ∷ table_history before
    begun = history_more before b

    seen_is : before ++ b ∷ after ≡ (before ++ b ∷ []) ++ after
    seen_is = sym (append_assoc before (b ∷ []) after)

    says : (stage.lives ≡ lives_begun (table_history (before ++ b ∷ after))) × (stage.channel ≡ on_channel (table_history (before ++ b ∷ after)))
    says = stage_told all (before ++ b ∷ after) later t looker stage leads place

    lives_are : stage.lives ≡ lives_given after
    lives_are = says.0 ∙ (ap (λ (l : List TableEntry). lives_begun (table_history l)) seen_is ∙ (lives_since (before ++ b ∷ []) after waits ∙ (ap (λ (n : ℕ). n + lives_given after) (ap lives_begun begun) ∙ zero-add (lives_given after))))

    told_by : IsReady devices stage → (devices ≤ lives_given after) ⊎ HaveDropped after
    told_by (inr few) = inl (subst (λ (n : ℕ). devices ≤ n) lives_are few)
    told_by (inl shut) = told_shut (dropped_since (before ++ b ∷ []) after waits (ap (λ (l : List TableEntry). on_channel (table_history l)) (sym seen_is) ∙ (sym says.1 ∙ shut)))
      where
        told_shut : (on_channel (table_history (before ++ b ∷ [])) ≡ false) ⊎ HaveDropped after → (devices ≤ lives_given after) ⊎ HaveDropped after
        told_shut (inl shut) = let open_is : true ≡ false = sym (ap on_channel begun) ∙ shut in absurd (cc open_is)
        told_shut (inr dropped) = inr dropped

-- ---- further calls

lives_more : (xs ys : List TableEntry) → lives_given (xs ++ ys) ≡ lives_given xs + lives_given ys
lives_more [] ys = sym (zero-add (lives_given ys))
lives_more (x ∷ xs) ys = ap (λ (n : ℕ). life_given x.call x.reply + n) (lives_more xs ys) ∙ sym (add_assoc (life_given x.call x.reply) (lives_given xs) (lives_given ys))

dropped_more : (xs ys : List TableEntry) → HaveDropped xs → HaveDropped (xs ++ ys)
dropped_more [] ys dropped = absurd dropped
dropped_more (x ∷ xs) ys (inl here) = inl here
dropped_more (x ∷ xs) ys (inr later) = inr (dropped_more xs ys later)

-- So it is with further ones behind.
pub ready_more : (devices : ℕ) (xs ys : List TableEntry) → (devices ≤ lives_given xs) ⊎ HaveDropped xs → (devices ≤ lives_given (xs ++ ys)) ⊎ HaveDropped (xs ++ ys)
ready_more devices xs ys (inl few) = let more = lives_more xs ys in inl (omega arith)
ready_more devices xs ys (inr dropped) = inr (dropped_more xs ys dropped)

-- And so it is with others before.
pub ready_before : (devices : ℕ) (xs : List TableEntry) (e : TableEntry) (ys all : List TableEntry) → all ≡ xs ++ e ∷ ys → (devices ≤ lives_given ys) ⊎ HaveDropped ys → (devices ≤ lives_given all) ⊎ HaveDropped all
ready_before devices xs e ys all is ready = subst (λ (l : List TableEntry). (devices ≤ lives_given l) ⊎ HaveDropped l) (sym is) (by xs ready)
  where
    by : (xs : List TableEntry) → (devices ≤ lives_given ys) ⊎ HaveDropped ys → (devices ≤ lives_given (xs ++ e ∷ ys)) ⊎ HaveDropped (xs ++ e ∷ ys)
    by [] (inl few) = inl (omega (arith, few))
    by [] (inr dropped) = inr (inr dropped)
    by (x ∷ xs) ready = one (by xs ready)
      where
        one : (devices ≤ lives_given (xs ++ e ∷ ys)) ⊎ HaveDropped (xs ++ e ∷ ys) → (devices ≤ life_given x.call x.reply + lives_given (xs ++ e ∷ ys)) ⊎ (IsDropping x.call ⊎ HaveDropped (xs ++ e ∷ ys))
        one (inl few) = inl (omega (arith, few))
        one (inr dropped) = inr (inr dropped)
