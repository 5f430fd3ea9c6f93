-- Before the first channel nothing is written: nothing stands in the outbox, and no completion is collected.
use Rattle.std.proofs.Common.{◌≡◌, ◌∙◌, refl, sym, ap, subst, inl, inr, ℕ, List, [], ◌∷◌, ◌++◌, Option, Some, None, arith}
use Rattle.std.specs.List.{cons_option}
use Rattle.std.proofs.lemmas.Bool.{cases_eq}
use Rattle.rd_client.specs.Core.{Outgoing}
use Rattle.rd_front.specs.Calls.{FrontEntry}
use Rattle.rd_front.specs.Front.{with_new_data}
use Rattle.rd_front.specs.State.{FrontState}
use Rattle.rd_deeds.specs.Talk.{Deed, client_wrote}
use Rattle.rd_served_causes.proofs.ServedKeyLemmas.{IsKeyed, both_true, refreshed_calm}
use Rattle.rd_served_causes.proofs.ServedStandingLemmas.{IsKnownAt, direct_under, ended_outbox, part_known, refreshed_more, sent_first, sent_none}
use Rattle.rd_served_causes.specs.ServedDeeds.{AreOnChannel, EachOnChannel, PartsOnChannel, deeds_after, deeds_of, deeds_of_calls}
use Rattle.rd_served_causes.specs.ServedHistories.{HistoryGoes}
use Rattle.rd_served_causes.specs.ServedParts.{FrontPart, PartGoes, PartsGo, begins, calls, directs, ends, forgets, handed_by, keeps, learns, misplaces, refreshes, sends, tells_gone, tells_there, tries, unwritten, writes}
use Rattle.rd_served_causes.specs.ServedParts as part
use Rattle.rd_served_causes.specs.ServedServed.{Served}
use Rattle.rd_served_sessions.proofs.CallLemmas.{on_channel, other_number, none_on}
use Rattle.rd_served_sessions.proofs.ChainLemmas.{part_wrote}
use Rattle.rd_served_sessions.proofs.FoundLemmas.{IsUnbegun, none_collected, part_unbegun}

abbrev outbox_of : FrontState → List Outgoing
outbox_of s = ((s.client).core).outbox

-- nothing stands in the outbox before the first channel
abbrev pub IsUnsaid : FrontState → Type 0
IsUnsaid s = s.channel ≡ 0 → ((s.client).core).outbox ≡ []

unsaid_as : (s t : FrontState) → t.channel ≡ s.channel → outbox_of t ≡ outbox_of s → IsUnsaid s → IsUnsaid t
unsaid_as s t channel same is none = same ∙ is (sym channel ∙ none)

part_unsaid : (p q : Served) (x : FrontPart) → PartGoes p x q → IsKeyed p → IsUnbegun p.front → IsUnsaid p.front → IsUnsaid q.front
part_unsaid p q (part.hears channel message answer) goes keyed unbegun is = λ none.
    let off = (unbegun (sym (ap (λ (s : FrontState). s.channel) (goes.3).1) ∙ none)).0 in
    absurd (let may = (both_true (p.front).on _ goes.2).0 in cc (may, off))
part_unsaid p q tries goes keyed unbegun is = subst (λ (s : Served). IsUnsaid s.front) (sym goes.4) is
part_unsaid p q keeps goes keyed unbegun is = subst (λ (s : Served). IsUnsaid s.front) (sym goes.3) is
part_unsaid p q forgets goes keyed unbegun is = subst (λ (s : Served). IsUnsaid s.front) (sym goes.4) is
part_unsaid p q misplaces goes keyed unbegun is = subst (λ (s : Served). IsUnsaid s.front) (sym goes.3) is
part_unsaid p q (directs st answer) goes keyed unbegun is = λ none.
    let off = (unbegun (sym (ap (λ (s : FrontState). s.channel) (goes.2).1) ∙ none)).0 in
    absurd (let on = (keyed.asking goes.0 (direct_under p goes.0 st goes.1)).on in cc (on, off))
part_unsaid p q (calls place id does back items) goes keyed unbegun is = subst IsUnsaid (sym goes.front_is) is
part_unsaid p q (tells_gone device answer) goes keyed unbegun is = λ none.
    let off = (unbegun (sym (ap (λ (s : FrontState). s.channel) (goes.0).1) ∙ none)).0 in absurd (let on = goes.3 in cc (on, off))
part_unsaid p q (tells_there device answer) goes keyed unbegun is = λ none.
    let off = (unbegun (sym (ap (λ (s : FrontState). s.channel) (goes.0).1) ∙ none)).0 in absurd (let on = goes.3 in cc (on, off))
part_unsaid p q (sends channel None) goes keyed unbegun is = unsaid_as p.front q.front (ap (λ (s : FrontState). s.channel) (goes.1).1) (sent_none (p.front).client (q.front).client (goes.1).0) is
part_unsaid p q (sends channel (Some o)) goes keyed unbegun is = λ none.
    let empty = is (sym (ap (λ (s : FrontState). s.channel) (goes.1).1) ∙ none) in
    let (others, first, then) = sent_first (p.front).client (q.front).client o (goes.1).0 in
    absurd (cc (first, empty))
part_unsaid p q (writes device done) goes keyed unbegun is = subst (λ (s : Served). IsUnsaid s.front) (sym goes.1) is
part_unsaid p q (unwritten device done) goes keyed unbegun is = subst (λ (s : Served). IsUnsaid s.front) (sym goes.1) is
part_unsaid p q (learns n answer) goes keyed unbegun is = subst (λ (s : Served). IsUnsaid s.front) (sym goes.1) is
part_unsaid p q (refreshes device) goes keyed unbegun is =
    let calm = (refreshed_calm p.front device).0 in
    let more = refreshed_more p.front device in
    subst (λ (s : Served). IsUnsaid s.front) (sym goes) (unsaid_as p.front (with_new_data p.front device) calm.channel (ap (λ c. c.outbox) more.1) is)
part_unsaid p q (begins channel) goes keyed unbegun is = λ none.
    absurd (let more = goes.2 in let now : channel ≡ 0 = sym (ap (λ (s : Served). (s.front).channel) goes.3) ∙ none in omega (arith, more, now))
part_unsaid p q (ends over told) goes keyed unbegun is = λ none. ap outbox_of goes.2 ∙ ended_outbox over p.front (q.front).desks

-- What is known of messages before the first channel.
pub record IsBefore (p : Served) (deeds : List Deed) : Type 0 where
  pub known : IsKnownAt p deeds
  pub unbegun : IsUnbegun p.front
  pub unsaid : IsUnsaid p.front

part_before : (p q : Served) (x : FrontPart) (deeds : List Deed) → PartGoes p x q → IsBefore p deeds → IsBefore q (deeds_of x ++ deeds)
part_before p q x deeds goes is = record {
  known = part_known p q x deeds goes is.known;
  unbegun = part_unbegun p q x goes is.unbegun;
  unsaid = part_unsaid p q x goes (is.known).keyed is.unbegun is.unsaid;
}

none_handed : (p q : Served) (x : FrontPart) (deeds : List Deed) → PartGoes p x q → IsBefore p deeds → (p.front).channel ≡ 0 → handed_by x ≡ None
none_handed p q (sends channel (Some o)) deeds goes is none =
    let empty = is.unsaid none in
    let (others, first, then) = sent_first (p.front).client (q.front).client o (goes.1).0 in
    absurd (cc (first, empty))
none_handed p q (writes device done) deeds goes is none = absurd (none_collected p deeds device done is.known is.unbegun none goes.0)
none_handed p q (part.hears channel message answer) deeds goes is none = refl
none_handed p q tries deeds goes is none = refl
none_handed p q keeps deeds goes is none = refl
none_handed p q forgets deeds goes is none = refl
none_handed p q misplaces deeds goes is none = refl
none_handed p q (directs st answer) deeds goes is none = refl
none_handed p q (calls place id does back items) deeds goes is none = refl
none_handed p q (tells_gone device answer) deeds goes is none = refl
none_handed p q (tells_there device answer) deeds goes is none = refl
none_handed p q (sends channel None) deeds goes is none = refl
none_handed p q (unwritten device done) deeds goes is none = refl
none_handed p q (learns n answer) deeds goes is none = refl
none_handed p q (refreshes device) deeds goes is none = refl
none_handed p q (begins channel) deeds goes is none = refl
none_handed p q (ends over told) deeds goes is none = refl

part_unwritten : (p q : Served) (x : FrontPart) (deeds : List Deed) → PartGoes p x q → AreOnChannel (p.front).channel (deeds_of x) → IsBefore p deeds → client_wrote 0 (deeds_of x ++ deeds) ≡ client_wrote 0 deeds
part_unwritten p q x deeds goes here is = part_wrote 0 (p.front).channel x deeds here ∙ ap (λ (ms : List (List ℕ)). ms ++ client_wrote 0 deeds) nothing
  where
    nothing : on_channel 0 (p.front).channel (cons_option (handed_by x) []) ≡ []
    nothing = elim (cases_eq (p.front).channel 0) [
      | inl none ↦ ap (λ (o : Option (List ℕ)). on_channel 0 (p.front).channel (cons_option o [])) (none_handed p q x deeds goes is none) ∙ none_on 0 (p.front).channel
      | inr some ↦ other_number 0 (p.front).channel (cons_option (handed_by x) []) some
    ]

parts_before : (ps : List FrontPart) (p q : Served) (deeds : List Deed) → PartsGo p ps q → IsBefore p deeds → IsBefore q (deeds_after ps deeds)
parts_before [] p q deeds same is = subst (λ (s : Served). IsBefore s deeds) (sym same) is
parts_before (x ∷ ps) p q deeds goes is = parts_before ps goes.0 q (deeds_of x ++ deeds) goes.2 (part_before p goes.0 x deeds goes.1 is)

parts_unwritten : (ps : List FrontPart) (p q : Served) (deeds : List Deed) (goes : PartsGo p ps q) → PartsOnChannel p ps q goes → IsBefore p deeds → client_wrote 0 (deeds_after ps deeds) ≡ client_wrote 0 deeds
parts_unwritten [] p q deeds goes here is = refl
parts_unwritten (x ∷ ps) p q deeds goes here is = parts_unwritten ps goes.0 q (deeds_of x ++ deeds) goes.2 here.1 (part_before p goes.0 x deeds goes.1 is) ∙ part_unwritten p goes.0 x deeds goes.1 here.0 is

-- Nothing was written before the first channel.
pub history_unwritten : (entries : List FrontEntry) (parts : List (List FrontPart)) (p q : Served) (deeds : List Deed) (goes : HistoryGoes p entries parts q) → EachOnChannel p entries parts q goes → IsBefore p deeds
    → client_wrote 0 (deeds_of_calls parts deeds) ≡ client_wrote 0 deeds
history_unwritten [] [] p q deeds goes here is = refl
history_unwritten [] (ps ∷ parts) p q deeds goes here is = absurd goes
history_unwritten (e ∷ entries) [] p q deeds goes here is = absurd goes
history_unwritten (e ∷ entries) (ps ∷ parts) p q deeds goes here is =
    history_unwritten entries parts goes.0 q (deeds_after ps deeds) goes.2 here.1 (parts_before ps p goes.0 deeds (goes.1).goes is) ∙ parts_unwritten ps p goes.0 deeds (goes.1).goes here.0 is
