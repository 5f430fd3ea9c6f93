-- No completion is lost that was collected, where memory was found for each channel that began: before the first none is collected.
use Rattle.std.proofs.Common.{◌≡◌, ◌⊎◌, ◌∙◌, ◌≤◌, ◌<◌, refl, sym, ap, subst, inl, inr, ℕ, zero, suc, Bool, true, false, List, [], ◌∷◌, ◌++◌, arith}
use Rattle.std.specs.List.{AllByRecursion}
use Rattle.rd_client.specs.Core as client
use Rattle.rd_front.specs.Calls.{FrontEntry, RanOut}
use Rattle.rd_front.specs.Front.{FrontStep, with_new_data}
use Rattle.rd_room.specs.Room.{MessageRoom}
use Rattle.rd_front.specs.State.{FrontState}
use Rattle.rd_front.specs.declared.calls.FrontCall.{FrontCall}
use Rattle.rd_front.specs.declared.calls.FrontCall.TheVariants as call
use Rattle.rd_front.specs.declared.calls.FrontReply.{FrontReply}
use Rattle.rd_front.specs.declared.calls.FrontReply.TheVariants as reply
use Rattle.rd_station.specs.declared.answers.Completion.{Completion}
use Rattle.rd_deeds.specs.Talk.{Deed}
use Rattle.rd_workers.specs.Logs.{AllFound, RunsOutFor}
use Rattle.rd_served_causes.proofs.ServedKeyLemmas.{both_true, did_calm, ended_is, has_at, refreshed_calm, sent_calm}
use Rattle.rd_served_causes.proofs.ServedStandingLemmas.{IsKnownAt, came_here, part_known, parts_known}
use Rattle.rd_served_causes.specs.ServedDeeds.{deeds_after, deeds_of}
use Rattle.rd_served_causes.specs.ServedHistories.{Among, CallGoes, HistoryGoes}
use Rattle.rd_served_causes.specs.ServedParts.{FrontPart, PartGoes, PartsGo, begins, calls, directs, ends, forgets, is_lost, keeps, learns, misplaces, refreshes, sends, tells_gone, tells_there, tries, unwritten, writes}
use Rattle.rd_served_causes.specs.ServedParts as part
use Rattle.rd_served_causes.specs.ServedServed.{Served, hands}
use Rattle.rd_served_sessions.proofs.CallLemmas.{BeginsUpTo, begun_up_to}
use Rattle.rd_served_sessions.proofs.ChainLemmas.{part_rises, parts_rise}
use Rattle.rd_served_sessions.proofs.StillLemmas.{NextSays, is_messages, next_says, silent, tracks}
use Rattle.rd_served_sessions.specs.Steps.{AreSteps}

-- ---- before the first channel

-- before its first channel a client was asked nothing
abbrev pub IsUnbegun : FrontState → Type 0
IsUnbegun s = s.channel ≡ 0 → (s.on ≡ false) × ((s.client).asked ≡ 0)

unbegun_as : (s t : FrontState) → t.channel ≡ s.channel → t.on ≡ s.on → (t.client).asked ≡ (s.client).asked → IsUnbegun s → IsUnbegun t
unbegun_as s t channel on asked is none = let was = is (sym channel ∙ none) in (on ∙ was.0, asked ∙ was.1)

-- a client that does what leaves its count of requests alone
client_unbegun : (s t : FrontState) (unsent : ℕ) → t ≡ record s { client = t.client; unsent = unsent } → (t.client).asked ≡ (s.client).asked → IsUnbegun s → IsUnbegun t
client_unbegun s t unsent is asked unbegun = unbegun_as s t (ap (λ (x : FrontState). x.channel) is) (ap (λ (x : FrontState). x.on) is) asked unbegun

pub part_unbegun : (p q : Served) (x : FrontPart) → PartGoes p x q → IsUnbegun p.front → IsUnbegun q.front
part_unbegun p q (part.hears channel message answer) goes is = λ none.
    let was = is (sym (ap (λ (s : FrontState). s.channel) (goes.3).1) ∙ none) in
    absurd (let may = (both_true (p.front).on _ goes.2).0 in let off = was.0 in cc (may, off))
part_unbegun p q tries goes is = subst (λ (s : Served). IsUnbegun s.front) (sym goes.4) is
part_unbegun p q keeps goes is = subst (λ (s : Served). IsUnbegun s.front) (sym goes.3) is
part_unbegun p q forgets goes is = subst (λ (s : Served). IsUnbegun s.front) (sym goes.4) is
part_unbegun p q misplaces goes is = subst (λ (s : Served). IsUnbegun s.front) (sym goes.3) is
part_unbegun p q (directs st answer) goes is =
    let k = goes.0 in
    client_unbegun p.front q.front _ (goes.2).1 (did_calm answer (client.direct (p.front).client k.job k.device st) (p.front).client (q.front).client ((goes.2).0).1 refl refl refl).1 is
part_unbegun p q (calls place id does back items) goes is = subst IsUnbegun (sym goes.front_is) is
part_unbegun p q (tells_gone device answer) goes is =
    client_unbegun p.front q.front _ (goes.0).1 (did_calm answer (client.tell_removed (p.front).client device) (p.front).client (q.front).client ((goes.0).0).1 refl refl refl).1 is
part_unbegun p q (tells_there device answer) goes is =
    client_unbegun p.front q.front _ (goes.0).1 (did_calm answer (client.tell_added (p.front).client device) (p.front).client (q.front).client ((goes.0).0).1 refl refl refl).1 is
part_unbegun p q (sends channel o) goes is = client_unbegun p.front q.front _ (goes.1).1 (sent_calm (p.front).client (q.front).client o (goes.1).0).1 is
part_unbegun p q (writes device done) goes is = subst (λ (s : Served). IsUnbegun s.front) (sym goes.1) is
part_unbegun p q (unwritten device done) goes is = subst (λ (s : Served). IsUnbegun s.front) (sym goes.1) is
part_unbegun p q (learns n answer) goes is = subst (λ (s : Served). IsUnbegun s.front) (sym goes.1) is
part_unbegun p q (refreshes device) goes is =
    let calm = (refreshed_calm p.front device).0 in subst (λ (s : Served). IsUnbegun s.front) (sym goes) (unbegun_as p.front (with_new_data p.front device) calm.channel calm.on calm.asked is)
part_unbegun p q (begins channel) goes is = λ none.
    absurd (let more = goes.2 in let now : channel ≡ 0 = sym (ap (λ (s : Served). (s.front).channel) goes.3) ∙ none in omega (arith, more, now))
part_unbegun p q (ends over told) goes is = λ none.
    let same = ended_is over p.front (q.front).desks in
    let front : q.front ≡ part.ended_front over p.front (q.front).desks = goes.2 in
    let was = is (sym (ap (λ (s : FrontState). s.channel) front ∙ same.1) ∙ none) in
    (ap (λ (s : FrontState). s.on) front ∙ same.0, ap (λ (s : FrontState). (s.client).asked) front ∙ same.2 ∙ was.1)

parts_unbegun : (ps : List FrontPart) (p q : Served) → PartsGo p ps q → IsUnbegun p.front → IsUnbegun q.front
parts_unbegun [] p q goes is = subst (λ (s : Served). IsUnbegun s.front) (sym goes) is
parts_unbegun (x ∷ ps) p q goes is = parts_unbegun ps goes.0 q goes.2 (part_unbegun p goes.0 x goes.1 is)

-- so no completion was collected
pub none_collected : (p : Served) (deeds : List Deed) (device : ℕ) (c : Completion) → IsKnownAt p deeds → IsUnbegun p.front → (p.front).channel ≡ 0 → p.asking ≡ hands device c → ⊥
none_collected p deeds device c known unbegun none asking =
    let came = ((known.standing).handing device c asking).1 in
    let (place, s, there, names) = came_here p deeds known.told known.standing device c.key came in
    let asked = (unbegun none).1 in
    elim ((known.keyed).named s (has_at p.stations place s there) c.key names) [
      | inl less ↦ omega (arith, less, none)
      | inr here ↦ let low = here.1 in omega (arith, low, asked)
    ]

abbrev NoneLost : List FrontPart → Type 0
NoneLost ps = AllByRecursion (λ (x : FrontPart). is_lost x ≡ false) ps

part_found : (p q : Served) (x : FrontPart) (deeds : List Deed) → PartGoes p x q → IsKnownAt p deeds → IsUnbegun p.front → (p.front).channel ≡ 0 → is_lost x ≡ false
part_found p q (unwritten device c) deeds goes known unbegun none = absurd (none_collected p deeds device c known unbegun none goes.0)
part_found p q (part.hears channel message answer) deeds goes known unbegun none = refl
part_found p q tries deeds goes known unbegun none = refl
part_found p q keeps deeds goes known unbegun none = refl
part_found p q forgets deeds goes known unbegun none = refl
part_found p q misplaces deeds goes known unbegun none = refl
part_found p q (directs st answer) deeds goes known unbegun none = refl
part_found p q (calls place id does back items) deeds goes known unbegun none = refl
part_found p q (tells_gone device answer) deeds goes known unbegun none = refl
part_found p q (tells_there device answer) deeds goes known unbegun none = refl
part_found p q (sends channel o) deeds goes known unbegun none = refl
part_found p q (writes device done) deeds goes known unbegun none = refl
part_found p q (learns n answer) deeds goes known unbegun none = refl
part_found p q (refreshes device) deeds goes known unbegun none = refl
part_found p q (begins channel) deeds goes known unbegun none = refl
part_found p q (ends over told) deeds goes known unbegun none = refl

parts_found : (ps : List FrontPart) (p q : Served) (deeds : List Deed) → PartsGo p ps q → IsKnownAt p deeds → IsUnbegun p.front → (q.front).channel ≡ 0 → NoneLost ps
parts_found [] p q deeds goes known unbegun none = tt
parts_found (x ∷ ps) p q deeds goes known unbegun none =
    let one = part_rises p goes.0 x goes.1 in
    let more = parts_rise ps goes.0 q goes.2 in (
      part_found p goes.0 x deeds goes.1 known unbegun (omega (arith, one, more, none)),
      parts_found ps goes.0 q (deeds_of x ++ deeds) goes.2 (part_known p goes.0 x deeds goes.1 known) (part_unbegun p goes.0 x goes.1 unbegun) none,
    )

none_among : (ps : List FrontPart) → (Among (λ x. is_lost x ≡ true) ps → ⊥) → NoneLost ps
none_among [] none = tt
none_among (x ∷ ps) none = (by (is_lost x) refl, none_among ps (λ some. none (inr some)))
  where
    by : (b : Bool) → is_lost x ≡ b → is_lost x ≡ false
    by true e = absurd (none (inl e))
    by false e = e

-- ---- calls

-- memory was found for each of so many channels
abbrev FoundFor : ℕ → FrontCall → FrontReply → Type 0
FoundFor most does back = (c : ℕ) → 0 < c → c ≤ most → ¬ (RunsOutFor c does back)

unsaid : (back : FrontReply) → is_messages back ≡ false → ¬ (RanOut back)
unsaid (reply.Messages filled left) none out = cc (none)
unsaid (reply.Done at full) none out = out
unsaid (reply.Stands ready asked) none out = out
unsaid reply.Kept none out = out
unsaid (reply.Wrong cause) none out = out
unsaid (reply.Duplicate key) none out = out
unsaid reply.Unfit none out = out
unsaid reply.Memory none out = out
unsaid reply.Full none out = out
unsaid reply.Refused none out = out

-- memory was found; or no channel has begun
module _ (most : ℕ) (p q : FrontState) (low : p.channel ≤ most) where
  abbrev Fine : FrontReply → Type 0
  Fine back = (¬ (RanOut back)) ⊎ (q.channel ≡ 0)

  next_fine : (channel place : ℕ) (room : MessageRoom) (back : FrontReply) → FrontStep p (call.Next channel place room) back q → FoundFor most (call.Next channel place room) back → Fine back
  next_fine channel place room back step found = elim says.here [
    | inl same ↦ by p.channel refl same
    | inr none ↦ inl (λ out. subst RanOut none out)
  ]
    where
      says : NextSays p channel room back q
      says = next_says p channel place room back q step

      by : (n : ℕ) → p.channel ≡ n → channel ≡ p.channel → Fine back
      by zero is same = inr (says.same ∙ is)
      by (suc n) is same = inl (λ out. found p.channel (omega (arith, is)) low (same, out))

  call_fine : (does : FrontCall) (back : FrontReply) → FrontStep p does back q → FoundFor most does back → Fine back
  call_fine (call.Next channel place room) back step found = next_fine channel place room back step found
  call_fine (call.Begin channel) back step found = inl (unsaid back (silent p (call.Begin channel) back q step refl))
  call_fine (call.Hear message) back step found = inl (unsaid back (silent p (call.Hear message) back q step refl))
  call_fine call.Retry back step found = inl (unsaid back (silent p call.Retry back q step refl))
  call_fine (call.Remove device) back step found = inl (unsaid back (silent p (call.Remove device) back q step refl))
  call_fine (call.Add device) back step found = inl (unsaid back (silent p (call.Add device) back q step refl))
  call_fine call.Look back step found = inl (unsaid back (silent p call.Look back q step refl))
  call_fine call.EndChannel back step found = inl (unsaid back (silent p call.EndChannel back q step refl))
  call_fine call.EndSession back step found = inl (unsaid back (silent p call.EndSession back q step refl))

call_found : (most : ℕ) (p q : Served) (does : FrontCall) (back : FrontReply) (ps : List FrontPart) (deeds : List Deed) → (p.front).channel ≤ most → FrontStep p.front does back q.front → FoundFor most does back → CallGoes p does back ps q
    → IsKnownAt p deeds → IsUnbegun p.front → NoneLost ps
call_found most p q does back ps deeds low step found goes known unbegun = elim (call_fine most p.front q.front low does back step found) [
  | inl fine ↦ none_among ps (λ some. fine ((goes.tells).lost some))
  | inr none ↦ parts_found ps p q deeds goes.goes known unbegun none
]

-- No part of a history is a completion that is lost.
pub history_found : (most : ℕ) (entries : List FrontEntry) (parts : List (List FrontPart)) (p q : Served) (deeds : List Deed) (goes : HistoryGoes p entries parts q) → AreSteps p entries parts q goes → (p.front).channel ≤ most
    → AllByRecursion (λ (e : FrontEntry). BeginsUpTo most e.call e.reply) entries → ((c : ℕ) → 0 < c → c ≤ most → AllFound c entries) → IsKnownAt p deeds → IsUnbegun p.front
    → AllByRecursion (λ (ps : List FrontPart). AllByRecursion (λ (x : FrontPart). is_lost x ≡ false) ps) parts
history_found most [] [] p q deeds goes steps low begins_so found known unbegun = tt
history_found most [] (ps ∷ parts) p q deeds goes steps low begins_so found known unbegun = absurd goes
history_found most (e ∷ entries) [] p q deeds goes steps low begins_so found known unbegun = absurd goes
history_found most (e ∷ entries) (ps ∷ parts) p q deeds goes steps low begins_so found known unbegun = (
  call_found most p goes.0 e.call e.reply ps deeds low steps.0 (λ c some few. (found c some few).0) goes.1 known unbegun,
  history_found most entries parts goes.0 q (deeds_after ps deeds) goes.2 steps.1
      (subst (λ (n : ℕ). n ≤ most) (sym (tracks p.front e.call e.reply (goes.0).front steps.0)) (begun_up_to most (p.front).channel e.call e.reply low begins_so.0)) begins_so.1 (λ c some few. (found c some few).1)
      (parts_known ps p goes.0 deeds (goes.1).goes known) (parts_unbegun ps p goes.0 (goes.1).goes unbegun),
)
