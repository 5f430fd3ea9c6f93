-- A completion of a key after whose coming the device was removed is written after the removal is told: so it is before and after each part.
use Rattle.std.proofs.Common.{◌≡◌, ◌≢◌, ◌⊎◌, ◌∙◌, refl, sym, ap, subst, inl, inr, ℕ, ◌<◌, ◌^◌, ◌==◌, Bool, true, false, List, [], ◌∷◌, ◌++◌, append_assoc, map, reverse, arith, eq-eqb, eqb-true, Option, Some, None, Ok, Err}
use Rattle.std.specs.List.{AllByRecursion, list_any}
use Rattle.std.specs.Int.{to_le_bytes, w32}
use Rattle.rd_base.specs.Fields.{number32}
use Rattle.rd_base.specs.Layout.{four_bytes, met}
use Rattle.rd_base.specs.Limits.{max_devices}
use Rattle.rd_base.specs.Position.{Position, at_start}
use Rattle.rd_base.proofs.CountedLemmas.{counted_spelled}
use Rattle.rd_base.proofs.LayoutLemmas.{meets}
use Rattle.rd_base.proofs.SpellingLemmas.{AreSpelled, number_spelled, times_spelled}
use Rattle.rd_base.specs.declared.journal.Cause.TheVariants.{Dropped, Removed}
use Rattle.rd_base.specs.declared.journal.Item.{Item}
use Rattle.rd_base.specs.declared.journal.Item.TheVariants.{Came, Cancelled, Cut, Ran, Sent}
use Rattle.rd_base.specs.declared.journal.Key.{Key}
use Rattle.rd_client.specs.Core as client
use Rattle.rd_client.specs.Core.{ClientCoreState, Outgoing, plain}
use Rattle.rd_desk.specs.Desk.{told_by}
use Rattle.rd_desk.specs.declared.calls.DeskCall.{DeskCall}
use Rattle.rd_desk.specs.declared.calls.DeskCall.TheVariants as desk
use Rattle.rd_desk.specs.declared.calls.DeskReply.{DeskReply}
use Rattle.rd_desk.specs.declared.calls.DeskReply.TheVariants as replied
use Rattle.rd_devices.specs.Removal.{removal, removal_bytes}
use Rattle.rd_devices.proofs.RemovalLemmas.{removal_spelled}
use Rattle.rd_front.specs.State.{FrontState, SessionDeskStep, SessionStation}
use Rattle.rd_front.specs.declared.calls.FrontCall.{FrontCall}
use Rattle.rd_front.specs.declared.calls.FrontReply.{FrontReply}
use Rattle.rd_refused.specs.JournalsJobs.{AreFine, FitsCompletion}
use Rattle.rd_refused.specs.JournalsReads.{IsGiven}
use Rattle.rd_refused.specs.JournalsStanding.{IsOut}
use Rattle.rd_served.specs.OnChannel.{IsServedOn}
use Rattle.rd_served.proofs.CallLemmas.{some_held}
use Rattle.rd_refused.proofs.JournalsHeldLemmas.{turned_has}
use Rattle.rd_refused.proofs.JournalsShortLemmas.{came_read}
use Rattle.rd_refused.proofs.JournalsWorkLemmas.{Grown}
use Rattle.rd_refused.specs.RepliedRemovals.{IsCutSince, IsGoneSince, IsGoneSoon, TellsGone}
use Rattle.rd_station.specs.Memory.{NamesKey}
use Rattle.rd_station.specs.Station.{held}
use Rattle.rd_station.specs.declared.answers.Completion.{Completion}
use Rattle.rd_station.proofs.Members.{has_left, to_contains}
use Rattle.rd_turn.specs.declared.object.Entry.{Entry}
use Rattle.rd_world.specs.Events.{completion_message}
use Rattle.rd_deeds.specs.Talk.{Deed, EachAfter, Has, adds, client_reads, client_writes, completes, host_begins, host_ends, host_reads, host_writes, journal, removed_in, removes, request_at, stores, submits, takes, tells}
use Rattle.rd_served.specs.Deeds.{deeds_after, deeds_of, deeds_of_calls, sent_by, stored, stored_each}
use Rattle.rd_served.specs.Histories.{HistoryGoes}
use Rattle.rd_served.specs.Parts.{CallsAt, FitsCall, IsOpenCall, FrontPart, PartGoes, PartsGo, begins, calls, directs, ends, sends, writes}
use Rattle.rd_served.specs.Served.{Served, hands, idle}
use Rattle.rd_served.proofs.CauseLemmas.{stored_elsewhere, stored_here}
use Rattle.rd_served.proofs.HeldLemmas.{HeldIn, ready_held}
use Rattle.rd_served.proofs.KeyLemmas.{current, ended_is, has_at, middle_named, worked}
use Rattle.rd_served.proofs.StandingLemmas.{IsKnownAt, IsUnserved, came_here, collected_ready, part_known, parts_known, sent_first}
use Rattle.rd_served_replies.proofs.AnswerLemmas.{Collects, grown_after, grown_calls, hands_from}
use Rattle.rd_served_replies.proofs.MildLemmas.{AreNoRemovals, called_mild}
use Rattle.rd_served_replies.proofs.QuietLemmas.{IsLight, Quiet, outbox_of, part_quiet}

abbrev Of : Type 0
Of = SessionStation

-- ---- what a removal says

removal_met : (device : ℕ) → device < 2 ^ 32 → (q : Position) × (met removal (at_start (removal_bytes (device ∷ []))) ≡ Ok (device ∷ [], q))
removal_met device fits =
    let ids : List ℕ = device ∷ [] in
    let each : AreSpelled number32 (to_le_bytes w32) ids = record { each = (number_spelled four_bytes device fits, tt) } in
    let s = removal_spelled ids (counted_spelled number32 (to_le_bytes w32) ids max_devices (omega arith) (omega arith) (times_spelled number32 (to_le_bytes w32) ids each)) in
    let m = meets removal 0 (removal_bytes ids) ids 0 s in
    (m.0, m.1)

says_gone : (device : ℕ) → device < 2 ^ 32 → list_any (λ id. id == device) (removed_in (removal_bytes (device ∷ []))) ≡ true
says_gone device fits = rw ((removal_met device fits).1, eq-eqb device device refl) refl

-- ---- entries and deeds

cut_came : (items : List Item) (key : Key) → IsCutSince items key → Has (Came key) items
cut_came [] key is = absurd is
cut_came (Cut Removed ∷ items) key (inl has) = inr has
cut_came (Cut Removed ∷ items) key (inr is) = inr (cut_came items key is)
cut_came (Cut Dropped ∷ items) key is = inr (cut_came items key is)
cut_came (Came k ∷ items) key is = inr (cut_came items key is)
cut_came (Ran k m s p ∷ items) key is = inr (cut_came items key is)
cut_came (Cancelled k ∷ items) key is = inr (cut_came items key is)
cut_came (Sent k ∷ items) key is = inr (cut_came items key is)

-- entries among which no removal is leave it as it was
mild_since : (items old : List Item) (key : Key) → (Has (Cut Removed) items → ⊥) → IsCutSince (items ++ old) key → IsCutSince old key
mild_since [] old key none is = is
mild_since (Cut Removed ∷ items) old key none is = absurd (none (inl refl))
mild_since (Cut Dropped ∷ items) old key none is = mild_since items old key (λ has. none (inr has)) is
mild_since (Came k ∷ items) old key none is = mild_since items old key (λ has. none (inr has)) is
mild_since (Ran k m s p ∷ items) old key none is = mild_since items old key (λ has. none (inr has)) is
mild_since (Cancelled k ∷ items) old key none is = mild_since items old key (λ has. none (inr has)) is
mild_since (Sent k ∷ items) old key none is = mild_since items old key (λ has. none (inr has)) is

gone_more : (d : ℕ) (key : Key) (more deeds : List Deed) → IsGoneSince d key deeds → IsGoneSince d key (more ++ deeds)
gone_more d key more deeds (late, early, m, parts, says, read) = (more ++ late, early, m, ap (λ (ds : List Deed). more ++ ds) parts ∙ sym (append_assoc more late (client_writes key.channel m ∷ early)), says, read)

soon_more : (d : ℕ) (old new : List Outgoing) → ((o : Outgoing) → Has o old → Has o new) → IsGoneSoon d old → IsGoneSoon d new
soon_more d old new more (o, has, own, says) = (o, more o has, own, says)

-- what is stored of a device, or of another
module _ (e : ℕ) (items : List Item) (deeds : List Deed) (key : Key) where
  stored_since : (d : ℕ) → (Has (Cut Removed) items → ⊥) → IsCutSince (journal d (stored e items ++ deeds)) key → IsCutSince (journal d deeds) key
  stored_since d none is = by (e == d) refl
    where
      by : (b : Bool) → (e == d) ≡ b → IsCutSince (journal d deeds) key
      by true same =
          let at : e ≡ d = eqb-true e d same in
          mild_since (reverse items) (journal d deeds) key (λ has. none (turned_has (Cut Removed) items has))
          (subst (λ (xs : List Item). IsCutSince xs key) (ap (λ (n : ℕ). journal d (stored n items ++ deeds)) at ∙ stored_here d (reverse items) deeds) is)
      by false other = subst (λ (xs : List Item). IsCutSince xs key) (stored_elsewhere e d (reverse items) deeds other) is

  other_since : (d : ℕ) → (e == d) ≡ false → IsCutSince (journal d (stored e items ++ deeds)) key → IsCutSince (journal d deeds) key
  other_since d other is = subst (λ (xs : List Item). IsCutSince xs key) (stored_elsewhere e d (reverse items) deeds other) is

light_journal : (d : ℕ) (more deeds : List Deed) → AllByRecursion IsLight more → journal d (more ++ deeds) ≡ journal d deeds
light_journal d [] deeds light = refl
light_journal d (client_reads c m ∷ more) deeds light = light_journal d more deeds light.1
light_journal d (removes x ∷ more) deeds light = light_journal d more deeds light.1
light_journal d (adds x ∷ more) deeds light = light_journal d more deeds light.1
light_journal d (client_writes c m ∷ more) deeds light = absurd light.0
light_journal d (completes k m ∷ more) deeds light = absurd light.0
light_journal d (stores x i ∷ more) deeds light = absurd light.0
light_journal d (submits a n o ∷ more) deeds light = absurd light.0
light_journal d (takes n ∷ more) deeds light = absurd light.0
light_journal d (tells n ∷ more) deeds light = absurd light.0
light_journal d (host_begins c ∷ more) deeds light = absurd light.0
light_journal d (host_ends c ∷ more) deeds light = absurd light.0
light_journal d (host_writes c m ∷ more) deeds light = absurd light.0
light_journal d (host_reads c m ∷ more) deeds light = absurd light.0

light_tells : (more deeds : List Deed) → AllByRecursion IsLight more → EachAfter TellsGone deeds → EachAfter TellsGone (more ++ deeds)
light_tells [] deeds light each = each
light_tells (client_reads c m ∷ more) deeds light each = (tt, light_tells more deeds light.1 each)
light_tells (removes x ∷ more) deeds light each = (tt, light_tells more deeds light.1 each)
light_tells (adds x ∷ more) deeds light each = (tt, light_tells more deeds light.1 each)
light_tells (client_writes c m ∷ more) deeds light each = absurd light.0
light_tells (completes k m ∷ more) deeds light each = absurd light.0
light_tells (stores x i ∷ more) deeds light each = absurd light.0
light_tells (submits a n o ∷ more) deeds light each = absurd light.0
light_tells (takes n ∷ more) deeds light each = absurd light.0
light_tells (tells n ∷ more) deeds light each = absurd light.0
light_tells (host_begins c ∷ more) deeds light each = absurd light.0
light_tells (host_ends c ∷ more) deeds light each = absurd light.0
light_tells (host_writes c m ∷ more) deeds light each = absurd light.0
light_tells (host_reads c m ∷ more) deeds light each = absurd light.0

items_tell : (d : ℕ) (items : List Item) (deeds : List Deed) → EachAfter TellsGone deeds → EachAfter TellsGone (map (stores d) items ++ deeds)
items_tell d [] deeds each = each
items_tell d (x ∷ items) deeds each = (tt, items_tell d items deeds each)

told_tell : (told : List (ℕ × List Item)) (deeds : List Deed) → EachAfter TellsGone deeds → EachAfter TellsGone (stored_each told ++ deeds)
told_tell [] deeds each = each
told_tell (t ∷ told) deeds each = subst (EachAfter TellsGone) (sym (append_assoc (stored_each told) (stored t.0 t.1) deeds)) (told_tell told (stored t.0 t.1 ++ deeds) (items_tell t.0 (reverse t.1) deeds each))

-- ---- what is held came on the channel that is on

held_on : (on : Bool) (channel asked : ℕ) (s : Of) → IsServedOn (current on channel) s → ((key : Key) → NamesKey s.journal key → IsGiven channel asked key) → (x : Key × ℕ) → HeldIn s x → (on ≡ true) × ((x.0).channel ≡ channel)
held_on on channel asked s at given x has =
    let (last, is, same) = at.sound.remembers.channel x (to_contains (held s) x has) in
    elim (at.last last is) [ inl here ↦ (let both = by on here (given last (at.sound.remembers.named last is)) in (both.0, same ∙ both.1)) | inr idle_so ↦ absurd (some_held s idle_so x has) ]
  where
    by : (b : Bool) {last : Key} → last.channel ≡ current b channel → IsGiven channel asked last → (b ≡ true) × (last.channel ≡ channel)
    by true here is = (refl, here)
    by false here (inl less) = absurd (omega (arith, here, less))
    by false here (inr is) = absurd (omega (arith, here, is.0))

-- ---- the invariant

pub record AreGone (p : Served) (deeds : List Deed) : Type 0 where
  pub soon : (device : ℕ) (key : Key) → (p.front).on ≡ true → key.channel ≡ (p.front).channel → IsCutSince (journal device deeds) key → IsGoneSoon device (outbox_of p) ⊎ IsGoneSince device key deeds
  pub handing : (device : ℕ) (c : Completion) → p.asking ≡ hands device c → (d : ℕ) → IsCutSince (journal d deeds) c.key → IsGoneSince d c.key deeds
  pub each : EachAfter TellsGone deeds

quiet_gone : (p q : Served) (x : FrontPart) (deeds : List Deed) → Quiet p x q → AreGone p deeds → AreGone q (deeds_of x ++ deeds)
quiet_gone p q x deeds quiet is = record {
  soon = λ device key on at since. let (more, same, own) = quiet.own in
      elim (is.soon device key (sym quiet.on ∙ on) (at ∙ quiet.channel) (subst (λ (xs : List Item). IsCutSince xs key) (light_journal device (deeds_of x) deeds quiet.light) since)) [
        | inl soon ↦ inl (soon_more device (outbox_of p) (outbox_of q) (λ o has. subst (Has o) (sym same) (has_left o (outbox_of p) more has)) soon)
        | inr gone ↦ inr (gone_more device key (deeds_of x) deeds gone)
      ];
  handing = λ device c same d since. gone_more d c.key (deeds_of x) deeds (is.handing device c (quiet.handing device c same) d (subst (λ (xs : List Item). IsCutSince xs c.key) (light_journal d (deeds_of x) deeds quiet.light) since));
  each = light_tells (deeds_of x) deeds quiet.light is.each;
}

-- a client that has more to write
more_gone : (p q : Served) (deeds : List Deed) → (q.front).on ≡ (p.front).on → (q.front).channel ≡ (p.front).channel → ((o : Outgoing) → Has o (outbox_of p) → Has o (outbox_of q)) → q.asking ≡ idle → AreGone p deeds → AreGone q deeds
more_gone p q deeds on channel more asking is = record {
  soon = λ device key on_then at since. elim (is.soon device key (sym on ∙ on_then) (at ∙ channel) since) [ inl soon ↦ inl (soon_more device (outbox_of p) (outbox_of q) more soon) | inr gone ↦ inr gone ];
  handing = λ device c same. absurd (cc (asking, same));
  each = is.each;
}

-- ---- the core's first message is handed out

sends_gone : (p q : Served) (deeds : List Deed) (o : Outgoing) (rest : List Outgoing) (channel : ℕ) → IsKnownAt p deeds → AreFine FitsCompletion deeds → channel ≡ (p.front).channel → (q.front).on ≡ (p.front).on → (q.front).channel ≡ (p.front).channel
    → outbox_of p ≡ o ∷ rest → outbox_of q ≡ rest → q.asking ≡ p.asking → AreGone p deeds → AreGone q (sent_by channel o.message o.answers ++ deeds)
sends_gone p q deeds o rest channel known fine here on same_channel first then asking is = by o.answers refl
  where
    there : Has o (outbox_of p)
    there = subst (Has o) (sym first) (inl refl)

    -- the one that tells it was written before, or is another
    later : (y : Deed) → ((d : ℕ) → journal d (y ∷ deeds) ≡ journal d deeds) → TellsGone deeds y
        → ((d : ℕ) (key : Key) → key.channel ≡ (p.front).channel → Has (Came key) (journal d deeds) → IsGoneSoon d (o ∷ rest) → IsGoneSoon d rest ⊎ IsGoneSince d key (y ∷ deeds)) → AreGone q (y ∷ deeds)
    later y journals own told = record {
      soon = λ d key on_then at since.
          let since_then : IsCutSince (journal d deeds) key = subst (λ (xs : List Item). IsCutSince xs key) (journals d) since in
          elim (is.soon d key (sym on ∙ on_then) (at ∙ same_channel) since_then) [
            | inl soon ↦ elim (told d key (at ∙ same_channel) (cut_came (journal d deeds) key since_then) (subst (IsGoneSoon d) first soon)) [
              | inl left ↦ inl (subst (IsGoneSoon d) (sym then) left)
              | inr gone ↦ inr gone
            ]
            | inr gone ↦ inr (gone_more d key (y ∷ []) deeds gone)
          ];
      handing = λ device c same d since. gone_more d c.key (y ∷ []) deeds (is.handing device c (sym asking ∙ same) d (subst (λ (xs : List Item). IsCutSince xs c.key) (journals d) since));
      each = (own, is.each);
    }

    written : (none : o.answers ≡ None) (d : ℕ) (key : Key) → key.channel ≡ (p.front).channel → Has (Came key) (journal d deeds) → IsGoneSoon d (o ∷ rest) → IsGoneSoon d rest ⊎ IsGoneSince d key (client_writes channel o.message ∷ deeds)
    written none d key at came (x, inl same, nothing, says) =
        let (r, read, named) = came_read d key deeds known.read came in
        let small : d < 2 ^ 32 = subst (λ (n : ℕ). n < 2 ^ 32) named (fine key.channel key.index r read).0 in
        inr ([], deeds, o.message, ap (λ (n : ℕ). client_writes n o.message ∷ deeds) (here ∙ sym at), subst (λ (y : Outgoing). list_any (λ id. id == d) (removed_in y.message) ≡ true) same (says small), (r, read, named))
    written none d key at came (x, inr has, nothing, says) = inl (x, has, nothing, says)

    kept : (k : Key) → o.answers ≡ Some k → (d : ℕ) → IsGoneSoon d (o ∷ rest) → IsGoneSoon d rest
    kept k some d (x, inl same, nothing, says) = absurd (let e : None ≡ Some k = sym nothing ∙ ap (λ (y : Outgoing). y.answers) same ∙ some in cc (e))
    kept k some d (x, inr has, nothing, says) = (x, has, nothing, says)

    by : (answers : Option Key) → o.answers ≡ answers → AreGone q (sent_by channel o.message answers ++ deeds)
    by None none = later (client_writes channel o.message) (λ d. refl) tt (written none)
    by (Some k) some =
        let unserved : IsUnserved p k = subst (λ (a : Option Key). IsOut (IsUnserved p) a o.message) some (known.standing.out o there) in
        later (completes k o.message) (λ d. refl) (λ d since. absurd (unserved.unnamed (came_here p deeds known.told known.standing d k (cut_came (journal d deeds) k since))))
        (λ d key at came soon. inl (kept k some d soon))

writes_gone : (p q : Served) (device : ℕ) (c : Completion) (deeds : List Deed) → PartGoes p (writes device c) q → AreGone p deeds → AreGone q (completes c.key (completion_message device c) ∷ deeds)
writes_gone p q device c deeds goes is = subst (λ (s : Served). AreGone s (completes c.key (completion_message device c) ∷ deeds)) (sym goes.1) (record {
  soon = λ d key on at since. elim (is.soon d key on at since) [ inl soon ↦ inl soon | inr gone ↦ inr (gone_more d key (completes c.key (completion_message device c) ∷ []) deeds gone) ];
  handing = λ d x same. absurd (cc (same));
  each = (λ d since. is.handing device c goes.0 d since, is.each);
})

-- ---- channels

begins_gone : (p q : Served) (channel : ℕ) (deeds : List Deed) → IsKnownAt p deeds → PartGoes p (begins channel) q → AreGone p deeds → AreGone q deeds
begins_gone p q channel deeds known goes is = subst (λ (s : Served). AreGone s deeds) (sym goes.3) (record {
  soon = λ d key on at since.
      let (r, read, named) = came_read d key deeds known.read (cut_came (journal d deeds) key since) in
      let above : (p.front).channel < key.channel = subst (λ (n : ℕ). (p.front).channel < n) (sym at) goes.2 in
      absurd (let none : None ≡ Some r = sym (ap (λ (ms : List (List ℕ)). request_at ms key.index) (known.told.unread key.channel above)) ∙ read in cc (none));
  handing = λ device c same. absurd (let none = goes.0 in cc (none, same));
  each = is.each;
})

ends_gone : (p q : Served) (over : Bool) (told : List (ℕ × List Item)) (deeds : List Deed) → PartGoes p (ends over told) q → AreGone p deeds → AreGone q (stored_each told ++ deeds)
ends_gone p q over told deeds goes is = record {
  soon = λ d key on. absurd (let off = ap (λ (s : FrontState). s.on) goes.2 ∙ (ended_is over p.front (q.front).desks).0 in cc (off, on));
  handing = λ device c same. absurd (let none = goes.3 in cc (none, same));
  each = told_tell told deeds is.each;
}

-- ---- a desk is called

-- each call but a removal stores no such cut
pub none_removed : (middle last : Of) (does : DeskCall) (back : DeskReply) → IsOpenCall does → (does ≢ desk.Remove) → SessionDeskStep middle does back last → AreNoRemovals (told_by does back)
none_removed middle last desk.Announce (replied.Announced answer) own other step = (tt, tt)
none_removed middle last desk.Announce (replied.Put answer) own other step = absurd step.1
none_removed middle last desk.Announce (replied.Unfit job) own other step = absurd step.1
none_removed middle last desk.Announce (replied.Worked w) own other step = absurd step.1
none_removed middle last desk.Announce (replied.Collected answer) own other step = absurd step.1
none_removed middle last desk.Announce (replied.Removed answer) own other step = absurd step.1
none_removed middle last desk.Announce replied.Dropped own other step = absurd step.1
none_removed middle last desk.Announce replied.Ended own other step = absurd step.1
none_removed middle last (desk.Put job) (replied.Put (Ok done)) own other step = (tt, tt)
none_removed middle last (desk.Put job) (replied.Put (Err refusal)) own other step = (tt, tt)
none_removed middle last (desk.Put job) (replied.Unfit back) own other step = (tt, tt)
none_removed middle last (desk.Put job) (replied.Announced answer) own other step = absurd step.1
none_removed middle last (desk.Put job) (replied.Worked w) own other step = absurd step.1
none_removed middle last (desk.Put job) (replied.Collected answer) own other step = absurd step.1
none_removed middle last (desk.Put job) (replied.Removed answer) own other step = absurd step.1
none_removed middle last (desk.Put job) replied.Dropped own other step = absurd step.1
none_removed middle last (desk.Put job) replied.Ended own other step = absurd step.1
none_removed middle last desk.Collect (replied.Collected answer) own other step = (tt, tt)
none_removed middle last desk.Collect (replied.Announced answer) own other step = absurd step.1
none_removed middle last desk.Collect (replied.Put answer) own other step = absurd step.1
none_removed middle last desk.Collect (replied.Unfit job) own other step = absurd step.1
none_removed middle last desk.Collect (replied.Worked w) own other step = absurd step.1
none_removed middle last desk.Collect (replied.Removed answer) own other step = absurd step.1
none_removed middle last desk.Collect replied.Dropped own other step = absurd step.1
none_removed middle last desk.Collect replied.Ended own other step = absurd step.1
none_removed middle last desk.Remove back own other step = absurd (other refl)
none_removed middle last (desk.Work runs) back own other step = absurd own
none_removed middle last desk.DropChannel back own other step = absurd own
none_removed middle last desk.End back own other step = absurd own

pub is_remove : (does : DeskCall) → (does ≡ desk.Remove) ⊎ (does ≢ desk.Remove)
is_remove desk.Remove = inl refl
is_remove desk.Announce = inr (λ e. cc (e))
is_remove (desk.Put job) = inr (λ e. cc (e))
is_remove (desk.Work runs) = inr (λ e. cc (e))
is_remove desk.Collect = inr (λ e. cc (e))
is_remove desk.DropChannel = inr (λ e. cc (e))
is_remove desk.End = inr (λ e. cc (e))

nothing_soon : (d : ℕ) (os : List Outgoing) → os ≡ [] → IsGoneSoon d os → ⊥
nothing_soon d os empty (o, has, none, says) = subst (Has o) empty has

module _ (p q : Served) (place id : ℕ) (does : DeskCall) (back : DeskReply) (items : List Item) (deeds : List Deed) (known : IsKnownAt p deeds) (at : CallsAt p place id does back items q) (is : AreGone p deeds) where
  same_out : outbox_of q ≡ outbox_of p
  same_out = ap (λ (s : FrontState). ((s.client).core).outbox) at.front_is

  same_on : (q.front).on ≡ (p.front).on
  same_on = ap (λ (s : FrontState). s.on) at.front_is

  same_channel : (q.front).channel ≡ (p.front).channel
  same_channel = ap (λ (s : FrontState). s.channel) at.front_is

  -- by what was before
  soon_then : (d : ℕ) (key : Key) → (q.front).on ≡ true → key.channel ≡ (q.front).channel → IsCutSince (journal d deeds) key → IsGoneSoon d (outbox_of q) ⊎ IsGoneSince d key (stored id items ++ deeds)
  soon_then d key on here since = elim (is.soon d key (sym same_on ∙ on) (here ∙ same_channel) since) [
    | inl soon ↦ inl (subst (IsGoneSoon d) (sym same_out) soon)
    | inr gone ↦ inr (gone_more d key (stored id items) deeds gone)
  ]

  -- a device is cut off, of which the core has to write that it is gone
  removal_gone : does ≡ desk.Remove → AreGone q (stored id items ++ deeds)
  removal_gone remove =
      let fits : FitsCall p id desk.Remove = subst (FitsCall p id) remove at.fits in
      record {
        soon = λ d key on here since. by d (id == d) refl fits.1 key on here since;
        handing = λ device c same. absurd (elim (hands_from p place id does back q.asking at.asking_is device c same) [
          | inl was ↦ (let none = fits.0 in cc (none, was))
          | inr (collects, came, named) ↦ (let e : desk.Remove ≡ desk.Collect = sym remove ∙ collects in cc (e))
        ]);
        each = items_tell id (reverse items) deeds is.each;
      }
    where
      by : (d : ℕ) (b : Bool) → (id == d) ≡ b → Has (plain (removal_bytes (id ∷ []))) (outbox_of p) → (key : Key) → (q.front).on ≡ true → key.channel ≡ (q.front).channel → IsCutSince (journal d (stored id items ++ deeds)) key
          → IsGoneSoon d (outbox_of q) ⊎ IsGoneSince d key (stored id items ++ deeds)
      by d true same has key on here since =
          let named : id ≡ d = eqb-true id d same in
          inl (plain (removal_bytes (d ∷ [])), subst (Has (plain (removal_bytes (d ∷ [])))) (sym same_out) (subst (λ (n : ℕ). Has (plain (removal_bytes (n ∷ []))) (outbox_of p)) named has), refl, says_gone d)
      by d false other has key on here since = soon_then d key on here (other_since id items deeds key d other since)

  -- any other call
  other_gone : does ≢ desk.Remove → AreGone q (stored id items ++ deeds)
  other_gone other = record {
    soon = λ d key on here since. soon_then d key on here (stored_since id items deeds key d mild since);
    handing = λ device c same d since. let before : IsCutSince (journal d deeds) c.key = stored_since id items deeds c.key d mild since in
        elim (hands_from p place id does back q.asking at.asking_is device c same) [
          | inl was ↦ gone_more d c.key (stored id items) deeds (is.handing device c was d before)
          | inr collects ↦ gone_more d c.key (stored id items) deeds (collected device c collects d before)
        ];
    each = items_tell id (reverse items) deeds is.each;
  }
    where
      mild : Has (Cut Removed) items → ⊥
      mild = called_mild at.before at.after at.first at.last does back items at.called (none_removed (at.called).middle at.last does back at.own other (at.called).step)

      -- what is collected is so where nothing is to be written
      collected : (device : ℕ) (c : Completion) → Collects id does back device c → (d : ℕ) → IsCutSince (journal d deeds) c.key → IsGoneSince d c.key deeds
      collected device c (collects, came, named) d since =
          let empty : FitsCall p id desk.Collect = subst (FitsCall p id) collects at.fits in
          let step : SessionDeskStep (at.called).middle desk.Collect (replied.Collected (Some c)) at.last =
          subst (λ (x : DeskCall). SessionDeskStep (at.called).middle x (replied.Collected (Some c)) at.last) collects (subst (λ (r : DeskReply). SessionDeskStep (at.called).middle does r at.last) came (at.called).step) in
          let ready = (collected_ready (at.called).middle (step.0).0 c (step.0).1).0 in
          let (on, here) = held_on (p.front).on (p.front).channel ((p.front).client).asked (at.called).middle (worked p q place id does back items known.keyed at).on
          (λ key names. known.keyed.named at.first (has_at p.stations place at.first at.has) key (middle_named p q place id does back items known.keyed at key names)) (c.key, c.completion) (ready_held (at.called).middle c ready) in
          elim (is.soon d c.key on here since) [ inl soon ↦ absurd (nothing_soon d (outbox_of p) empty soon) | inr gone ↦ gone ]

  called_gone : AreGone q (stored id items ++ deeds)
  called_gone = elim (is_remove does) [ inl remove ↦ removal_gone remove | inr other ↦ other_gone other ]

-- ---- each part, and every history

module _ (final : List Deed) (fines : AreFine FitsCompletion final) where
  pub part_gone : (p q : Served) (x : FrontPart) (deeds : List Deed) → PartGoes p x q → IsKnownAt p deeds → Grown deeds final → AreGone p deeds → AreGone q (deeds_of x ++ deeds)
  part_gone p q (calls place id does back items) deeds goes known grown is = called_gone p q place id does back items deeds known goes is
  part_gone p q (directs st (Ok done)) deeds goes known grown is =
      let k = goes.0 in
      more_gone p q deeds (ap (λ (s : FrontState). s.on) (goes.2).1) (ap (λ (s : FrontState). s.channel) (goes.2).1)
      (λ o has. subst (Has o) (sym (ap (λ (c : ClientCoreState). (c.core).outbox) ((goes.2).0).1)) (has_left o (outbox_of p) (record { message = client.direct_bytes k.job k.device st; answers = Some k.job.key } ∷ []) has)) goes.3 is
  part_gone p q (sends channel (Some o)) deeds goes known grown is =
      let (rest, first, then) = sent_first (p.front).client (q.front).client o ((goes.1).0) in
      sends_gone p q deeds o rest channel known (λ c k r read. fines c k r (grown c k r read)) goes.0 (ap (λ (s : FrontState). s.on) (goes.1).1) (ap (λ (s : FrontState). s.channel) (goes.1).1) first then goes.2 is
  part_gone p q (writes device c) deeds goes known grown is = writes_gone p q device c deeds goes is
  part_gone p q (begins channel) deeds goes known grown is = begins_gone p q channel deeds known goes is
  part_gone p q (ends over told) deeds goes known grown is = ends_gone p q over told deeds goes is
  part_gone p q x deeds goes known grown is = quiet_gone p q x deeds (part_quiet p q x tt goes) is

  parts_gone : (ps : List FrontPart) (p q : Served) (deeds : List Deed) → PartsGo p ps q → IsKnownAt p deeds → Grown (deeds_after ps deeds) final → AreGone p deeds → AreGone q (deeds_after ps deeds)
  parts_gone [] p q deeds same known grown is = subst (λ (s : Served). AreGone s deeds) (sym same) is
  parts_gone (x ∷ ps) p q deeds goes known grown is =
      parts_gone ps goes.0 q (deeds_of x ++ deeds) goes.2 (part_known p goes.0 x deeds goes.1 known) grown
      (part_gone p goes.0 x deeds goes.1 known (λ c k r read. grown c k r (grown_after (x ∷ ps) deeds c k r read)) is)

  pub history_gone : (entries : List (Entry FrontCall FrontReply)) (parts : List (List FrontPart)) (p q : Served) (deeds : List Deed) → HistoryGoes p entries parts q → IsKnownAt p deeds → Grown (deeds_of_calls parts deeds) final → AreGone p deeds → AreGone q (deeds_of_calls parts deeds)
  history_gone [] [] p q deeds same known grown is = subst (λ (s : Served). AreGone s deeds) (sym same) is
  history_gone [] (ps ∷ parts) p q deeds goes known grown is = absurd goes
  history_gone (e ∷ entries) [] p q deeds goes known grown is = absurd goes
  history_gone (e ∷ entries) (ps ∷ parts) p q deeds goes known grown is =
      history_gone entries parts goes.0 q (deeds_after ps deeds) goes.2 (parts_known ps p goes.0 deeds (goes.1).goes known) grown
      (parts_gone ps p goes.0 deeds (goes.1).goes known (λ c k r read. grown c k r (grown_calls parts (deeds_after ps deeds) c k r read)) is)
