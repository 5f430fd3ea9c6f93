-- What holds of a reader's own calls holds of the whole history of the front, in which another's calls for messages stand between.
use Rattle.std.proofs.Common.{◌≡◌, ◌∙◌, ◌≤◌, ◌<◌, refl, sym, ap, subst, ℕ, suc, ◌+◌, ◌==◌, ◌||◌, Bool, true, false, List, [], ◌∷◌, ◌++◌, length, append_assoc, append-nil, arith, eq-eqb, eqb-true}
use Rattle.std.specs.Prelude.{if◌then◌else◌}
use Rattle.std.specs.List.{AllByRecursion}
use Rattle.rd_drive.proofs.AllLemmas.{all_append}
use Rattle.rd_front.specs.Calls.{FrontEntry, HearsBytes, hinders}
use Rattle.rd_front.specs.Front.{FrontStep}
use Rattle.rd_front.specs.State.{FrontState}
use Rattle.rd_front.specs.declared.calls.FrontCall.{FrontCall}
use Rattle.rd_front.specs.declared.calls.FrontCall.TheVariants as call
use Rattle.rd_front.specs.declared.calls.FrontReply.{FrontReply}
use Rattle.rd_front.specs.declared.calls.FrontReply.TheVariants as reply
use Rattle.rd_turn.specs.History.{Leads}
use Rattle.rd_workers.specs.Channels.{ChannelRun, HaveNumbers, IsChannelRun, calls_by_all}
use Rattle.rd_workers.specs.Logs.{asks_any, given_by, messages_heard, reader_calls}
use Rattle.rd_workers.specs.Reading.{AllPlain}
use Rattle.rd_served_causes.specs.ServedHistories.{may_start}
use Rattle.rd_served_causes.specs.ServedRefusalsHeeding.{hindered_by}
use Rattle.rd_served_causes.specs.Causes.{StartUnhindered}
use Rattle.rd_workers.proofs.RunLemmas.{AreMiddle, DoesSurely, HearsTo, IsMiddle, IsSure, hears_to, hindered, plainly}
use Rattle.rd_served_sessions.proofs.StillLemmas.{begun_to, is_messages, next_says}

-- ---- calls for messages

-- a call for messages starts nothing, hears nothing and begins no channel
pub record AsksOnly (does : FrontCall) (back : FrontReply) : Type 0 where
  pub starts : may_start does back ≡ false
  pub heard : given_by does back ≡ []
  pub begins : (now : ℕ) → begun_to now does back ≡ now
  pub bytes : HearsBytes does
  pub surely : DoesSurely does back

pub asks_only : (does : FrontCall) (back : FrontReply) → asks_any does ≡ true → AsksOnly does back
asks_only (call.Next channel place room) back asks = record { starts = refl; heard = refl; begins = λ now. refl; bytes = tt; surely = tt }
asks_only (call.Begin channel) back asks = absurd (cc (asks))
asks_only (call.Hear message) back asks = absurd (cc (asks))
asks_only call.Retry back asks = absurd (cc (asks))
asks_only (call.Remove device) back asks = absurd (cc (asks))
asks_only (call.Add device) back asks = absurd (cc (asks))
asks_only call.Look back asks = absurd (cc (asks))
asks_only call.EndChannel back asks = absurd (cc (asks))
asks_only call.EndSession back asks = absurd (cc (asks))

messages_unhindered : (was : Bool) (back : FrontReply) → is_messages back ≡ true → hinders back || was ≡ was
messages_unhindered was (reply.Messages filled left) is = refl
messages_unhindered was (reply.Done at full) is = absurd (cc (is))
messages_unhindered was (reply.Stands ready asked) is = absurd (cc (is))
messages_unhindered was reply.Kept is = absurd (cc (is))
messages_unhindered was (reply.Wrong cause) is = absurd (cc (is))
messages_unhindered was (reply.Duplicate key) is = absurd (cc (is))
messages_unhindered was reply.Unfit is = absurd (cc (is))
messages_unhindered was reply.Memory is = absurd (cc (is))
messages_unhindered was reply.Full is = absurd (cc (is))
messages_unhindered was reply.Refused is = absurd (cc (is))

pub asked_unhindered : (p q : FrontState) (was : Bool) (does : FrontCall) (back : FrontReply) → FrontStep p does back q → asks_any does ≡ true → hindered_by was does back ≡ was
asked_unhindered p q was (call.Next channel place room) back step asks = messages_unhindered was back (next_says p channel place room back q step).gives
asked_unhindered p q was (call.Begin channel) back step asks = absurd (cc (asks))
asked_unhindered p q was (call.Hear message) back step asks = absurd (cc (asks))
asked_unhindered p q was call.Retry back step asks = absurd (cc (asks))
asked_unhindered p q was (call.Remove device) back step asks = absurd (cc (asks))
asked_unhindered p q was (call.Add device) back step asks = absurd (cc (asks))
asked_unhindered p q was call.Look back step asks = absurd (cc (asks))
asked_unhindered p q was call.EndChannel back step asks = absurd (cc (asks))
asked_unhindered p q was call.EndSession back step asks = absurd (cc (asks))

-- ---- from the reader's calls to all

-- What holds of each call for messages, and of each of the reader's calls, holds of all.
pub lift_all : (P : FrontCall → FrontReply → Type 0) → ((does : FrontCall) (back : FrontReply) → asks_any does ≡ true → P does back) → (entries : List FrontEntry)
    → AllByRecursion (λ (e : FrontEntry). P e.call e.reply) (reader_calls entries) → AllByRecursion (λ (e : FrontEntry). P e.call e.reply) entries
lift_all P asked [] all = tt
lift_all P asked (e ∷ entries) all = by (lift_all P asked entries) (asks_any e.call) refl all
  where
    by : (AllByRecursion (λ (x : FrontEntry). P x.call x.reply) (reader_calls entries) → AllByRecursion (λ (x : FrontEntry). P x.call x.reply) entries) → (b : Bool) → asks_any e.call ≡ b
        → AllByRecursion (λ (x : FrontEntry). P x.call x.reply) (if b then reader_calls entries else e ∷ reader_calls entries) → AllByRecursion (λ (x : FrontEntry). P x.call x.reply) (e ∷ entries)
    by more true is these = (asked e.call e.reply is, more these)
    by more false is these = (these.0, more these.1)

pub lift_starts : (entries : List FrontEntry) (p q : FrontState) (was : Bool) → Leads FrontStep p entries q → StartUnhindered was (reader_calls entries) → StartUnhindered was entries
lift_starts [] p q was leads starts = tt
lift_starts (e ∷ entries) p q was leads starts = by (λ w. lift_starts entries leads.0 q w leads.2) (asks_any e.call) refl starts
  where
    by : ((w : Bool) → StartUnhindered w (reader_calls entries) → StartUnhindered w entries) → (b : Bool) → asks_any e.call ≡ b → StartUnhindered was (if b then reader_calls entries else e ∷ reader_calls entries) → StartUnhindered was (e ∷ entries)
    by more true is these = (
      λ may. absurd (let none = (asks_only e.call e.reply is).starts in cc (none, may)),
      subst (λ (w : Bool). StartUnhindered w entries) (sym (asked_unhindered p leads.0 was e.call e.reply leads.1 is)) (more was these),
    )
    by more false is these = (these.0, more (hindered_by was e.call e.reply) these.1)

-- ---- what calls give on a channel

abbrev pub on_channel : {A : Type 0} → ℕ → ℕ → List A → List A
on_channel c now xs = if now == c then xs else []

pub none_on : {A : Type 0} (c now : ℕ) → on_channel {A = A} c now [] ≡ []
none_on {A} c now = by (now == c)
  where
    by : (b : Bool) → ◌≡◌ {A = List A} (if b then [] else []) []
    by true = refl
    by false = refl

pub on_both : {A : Type 0} (c now : ℕ) (xs ys : List A) → on_channel c now (xs ++ ys) ≡ on_channel c now xs ++ on_channel c now ys
on_both c now xs ys = by (now == c)
  where
    by : (b : Bool) → (if b then xs ++ ys else []) ≡ (if b then xs else []) ++ (if b then ys else [])
    by true = refl
    by false = refl

pub other_number : {A : Type 0} (c now : ℕ) (xs : List A) → (now ≡ c → ⊥) → on_channel c now xs ≡ []
other_number c now xs apart = by (now == c) refl
  where
    by : (b : Bool) → (now == c) ≡ b → (if b then xs else []) ≡ []
    by true same = absurd (apart (eqb-true now c same))
    by false other = refl

same_number : {A : Type 0} (c : ℕ) (xs : List A) → on_channel c c xs ≡ xs
same_number c xs = ap (λ (b : Bool). if b then xs else []) (eq-eqb c c refl)

-- what a channel's calls give, and calls for messages and those by which channels begin and end don't
pub record GivesInside {A : Type 0} (given : FrontCall → FrontReply → List A) : Type 0 where
  pub asked : (does : FrontCall) (back : FrontReply) → asks_any does ≡ true → given does back ≡ []
  pub begins : (channel : ℕ) (back : FrontReply) → given (call.Begin channel) back ≡ []
  pub ends : (back : FrontReply) → given call.EndChannel back ≡ []
  pub over : (back : FrontReply) → given call.EndSession back ≡ []

-- ---- the reader's calls start nothing once a reply hindered

pub plain_by : (does : FrontCall) (back : FrontReply) → hinders back ≡ false → hindered_by false does back ≡ false
plain_by (call.Begin channel) (reply.Done at full) is = refl
plain_by (call.Begin channel) (reply.Stands ready asked) is = is
plain_by (call.Begin channel) reply.Kept is = is
plain_by (call.Begin channel) (reply.Wrong cause) is = is
plain_by (call.Begin channel) (reply.Duplicate key) is = is
plain_by (call.Begin channel) reply.Unfit is = is
plain_by (call.Begin channel) reply.Memory is = is
plain_by (call.Begin channel) reply.Full is = is
plain_by (call.Begin channel) reply.Refused is = is
plain_by (call.Begin channel) (reply.Messages filled left) is = is
plain_by (call.Hear message) back is = ap (λ (b : Bool). b || false) is
plain_by call.Retry back is = ap (λ (b : Bool). b || false) is
plain_by (call.Next channel place room) back is = ap (λ (b : Bool). b || false) is
plain_by (call.Remove device) back is = ap (λ (b : Bool). b || false) is
plain_by (call.Add device) back is = ap (λ (b : Bool). b || false) is
plain_by call.Look back is = ap (λ (b : Bool). b || false) is
plain_by call.EndChannel back is = ap (λ (b : Bool). b || false) is
plain_by call.EndSession back is = ap (λ (b : Bool). b || false) is

plain_starts : (calls later : List FrontEntry) → AllPlain calls → StartUnhindered false later → StartUnhindered false (calls ++ later)
plain_starts [] later plain starts = starts
plain_starts (e ∷ calls) later plain starts = (
  λ may. refl,
  subst (λ (w : Bool). StartUnhindered w (calls ++ later)) (sym (plain_by e.call e.reply plain.0)) (plain_starts calls later plain.1 starts),
)

-- from anywhere
abbrev StartAnyhow : List FrontEntry → Type 0
StartAnyhow entries = (was : Bool) → StartUnhindered was entries

to_starts : (calls later : List FrontEntry) → HearsTo calls → StartAnyhow later → StartUnhindered false (calls ++ later)
to_starts calls later (plainly plain) starts = plain_starts calls later plain (starts false)
to_starts calls later (hindered before last are plain not) starts =
    subst (StartUnhindered false) (sym (ap (λ (es : List FrontEntry). es ++ later) are ∙ append_assoc before (last ∷ []) later))
    (plain_starts before (last ∷ later) plain (λ may. refl, starts (hindered_by false last.call last.reply)))

-- a call that starts nothing
quiet_first : (e : FrontEntry) (later : List FrontEntry) → may_start e.call e.reply ≡ false → StartAnyhow later → StartAnyhow (e ∷ later)
quiet_first e later quiet starts was = (λ may. absurd (cc (quiet, may)), starts (hindered_by was e.call e.reply))

run_starts : (r : ChannelRun) (later : List FrontEntry) → IsChannelRun r → IsSure r → StartAnyhow later → StartAnyhow (r.calls ++ later)
run_starts r later is sure starts was =
    let w = is.whole in
    let calls = (r.reading).calls in
    let ended : StartAnyhow (w.end ∷ later) = quiet_first w.end later (ap (λ (does : FrontCall). may_start does (w.end).reply) w.ends) starts in
    let read : StartUnhindered false ((calls ++ w.end ∷ []) ++ later) =
    subst (StartUnhindered false) (sym (append_assoc calls (w.end ∷ []) later)) (to_starts calls (w.end ∷ later) (hears_to (r.reading).by calls (r.reading).incoming sure.found (is.reading).end_is) ended) in
    let begun : hindered_by was (w.begin).call (w.begin).reply ≡ false = λ i. hindered_by was ((w.begins).0 i) (((w.begins).1).2 i) in
    subst (λ (es : List FrontEntry). StartUnhindered was (es ++ later)) (sym w.whole_are) (
      λ may. absurd (let none = ap (λ (does : FrontCall). may_start does (w.begin).reply) (w.begins).0 in cc (none, may)),
      subst (λ (b : Bool). StartUnhindered b ((calls ++ w.end ∷ []) ++ later)) (sym begun) read,
    )

pub runs_start : (runs : List ChannelRun) (later : List FrontEntry) → AllByRecursion IsChannelRun runs → AllByRecursion IsSure runs → ((was : Bool) → StartUnhindered was later) → (was : Bool) → StartUnhindered was (calls_by_all runs ++ later)
runs_start [] later each sure starts was = starts was
runs_start (r ∷ runs) later each sure starts was =
    subst (StartUnhindered was) (sym (append_assoc r.calls (calls_by_all runs) later)) (run_starts r (calls_by_all runs ++ later) each.0 sure.0 (runs_start runs later each.1 sure.1 starts) was)

-- ---- what they give

middle_begun : (now : ℕ) (does : FrontCall) (back : FrontReply) → IsMiddle does → begun_to now does back ≡ now
middle_begun now (call.Begin channel) back middle = absurd middle
middle_begun now (call.Next channel place room) back middle = refl
middle_begun now (call.Hear message) back middle = refl
middle_begun now call.Retry back middle = refl
middle_begun now (call.Remove device) back middle = refl
middle_begun now (call.Add device) back middle = refl
middle_begun now call.Look back middle = refl
middle_begun now call.EndChannel back middle = refl
middle_begun now call.EndSession back middle = refl

module _ {A : Type 0} (given : FrontCall → FrontReply → List A) where
  -- one after the other
  abbrev pub given_in : List FrontEntry → List A
  given_in [] = []
  given_in (e ∷ entries) = given e.call e.reply ++ given_in entries

  -- on a channel, from where another began last
  abbrev pub given_on : ℕ → ℕ → List FrontEntry → List A
  given_on c now [] = []
  given_on c now (e ∷ entries) = on_channel c now (given e.call e.reply) ++ given_on c (begun_to now e.call e.reply) entries

  -- by runs
  abbrev pub given_of : ℕ → List ChannelRun → List A
  given_of c [] = []
  given_of c (r ∷ runs) = on_channel c (r.reading).channel (given_in (r.reading).calls) ++ given_of c runs

  middle_given : (c now : ℕ) (calls later : List FrontEntry) → AreMiddle calls → given_on c now (calls ++ later) ≡ on_channel c now (given_in calls) ++ given_on c now later
  middle_given c now [] later middle = ap (λ (xs : List A). xs ++ given_on c now later) (sym (none_on c now))
  middle_given c now (e ∷ calls) later middle =
      let here = given e.call e.reply in
      ap (λ (n : ℕ). on_channel c now here ++ given_on c n (calls ++ later)) (middle_begun now e.call e.reply middle.0)
      ∙ ap (λ (xs : List A). on_channel c now here ++ xs) (middle_given c now calls later middle.1)
      ∙ sym (append_assoc (on_channel c now here) (on_channel c now (given_in calls)) (given_on c now later))
      ∙ ap (λ (xs : List A). xs ++ given_on c now later) (sym (on_both c now here (given_in calls)))

  -- none has a channel up to where they begin
  pub none_below : (c n : ℕ) (runs : List ChannelRun) → HaveNumbers n runs → c ≤ n → given_of c runs ≡ []
  none_below c n [] have low = refl
  none_below c n (r ∷ runs) have low =
      ap (λ (xs : List A). xs ++ given_of c runs) (other_number c (r.reading).channel (given_in (r.reading).calls) (λ same. let is = have.0 in omega (arith, is, same, low))) ∙ none_below c (suc n) runs have.1 (omega (arith, low))

  -- nor one above all
  pub none_above : (c n : ℕ) (runs : List ChannelRun) → HaveNumbers n runs → n + length runs < c → given_of c runs ≡ []
  none_above c n [] have high = refl
  none_above c n (r ∷ runs) have high =
      ap (λ (xs : List A). xs ++ given_of c runs) (other_number c (r.reading).channel (given_in (r.reading).calls) (λ same. let is = have.0 in omega (arith, is, same, high))) ∙ none_above c (suc n) runs have.1 (omega (arith, high))

  abbrev IsGivenIn : List ChannelRun → ChannelRun → Type 0
  IsGivenIn runs r = given_of (r.reading).channel runs ≡ given_in (r.reading).calls

  more_given : (n : ℕ) (first : ChannelRun) (all runs : List ChannelRun) → (first.reading).channel ≤ n → HaveNumbers n runs → AllByRecursion (IsGivenIn all) runs → AllByRecursion (IsGivenIn (first ∷ all)) runs
  more_given n first all [] low have heard = tt
  more_given n first all (r ∷ runs) low have heard = (
    ap (λ (xs : List A). xs ++ given_of (r.reading).channel all) (other_number (r.reading).channel (first.reading).channel (given_in (first.reading).calls) (λ same. let is = have.0 in omega (arith, is, same, low))) ∙ heard.0,
    more_given (suc n) first all runs (omega (arith, low)) have.1 heard.1,
  )

  -- what was given on a run's channel is what it gave
  pub own_given : (n : ℕ) (runs : List ChannelRun) → HaveNumbers n runs → AllByRecursion (λ (r : ChannelRun). given_of (r.reading).channel runs ≡ given_in (r.reading).calls) runs
  own_given n [] have = tt
  own_given n (r ∷ runs) have = (
    ap (λ (xs : List A). xs ++ given_of (r.reading).channel runs) (same_number (r.reading).channel (given_in (r.reading).calls))
        ∙ ap (λ (xs : List A). given_in (r.reading).calls ++ xs) (none_below (r.reading).channel (suc n) runs have.1 (let is = have.0 in omega (arith, is))) ∙ append-nil (given_in (r.reading).calls),
    more_given (suc n) r runs runs (let is = have.0 in omega (arith, is)) have.1 (own_given (suc n) runs have.1),
  )

  module _ (inside : GivesInside given) where
    pub lift_given : (c : ℕ) (entries : List FrontEntry) (now : ℕ) → given_on c now entries ≡ given_on c now (reader_calls entries)
    lift_given c [] now = refl
    lift_given c (e ∷ entries) now = by (lift_given c entries) (asks_any e.call) refl
      where
        by : ((n : ℕ) → given_on c n entries ≡ given_on c n (reader_calls entries)) → (b : Bool) → asks_any e.call ≡ b → given_on c now (e ∷ entries) ≡ given_on c now (if b then reader_calls entries else e ∷ reader_calls entries)
        by more true is =
            ap (λ (xs : List A). on_channel c now xs ++ given_on c (begun_to now e.call e.reply) entries) (inside.asked e.call e.reply is)
            ∙ ap (λ (xs : List A). xs ++ given_on c (begun_to now e.call e.reply) entries) (none_on c now) ∙ ap (λ (n : ℕ). given_on c n entries) ((asks_only e.call e.reply is).begins now) ∙ more now
        by more false is = ap (λ (xs : List A). on_channel c now (given e.call e.reply) ++ xs) (more (begun_to now e.call e.reply))

    run_given : (c now : ℕ) (r : ChannelRun) (later : List FrontEntry) → IsChannelRun r → AreMiddle (r.reading).calls
        → given_on c now (r.calls ++ later) ≡ on_channel c (r.reading).channel (given_in (r.reading).calls) ++ given_on c (r.reading).channel later
    run_given c now r later is middle =
        let w = is.whole in
        let calls = (r.reading).calls in
        let channel = (r.reading).channel in
        let rest = (calls ++ w.end ∷ []) ++ later in
        let begun : begun_to now (w.begin).call (w.begin).reply ≡ channel = λ i. begun_to now ((w.begins).0 i) (((w.begins).1).2 i) in
        let none : given (w.begin).call (w.begin).reply ≡ [] = ap (λ (does : FrontCall). given does (w.begin).reply) (w.begins).0 ∙ inside.begins channel (w.begin).reply in
        let nothing : given (w.end).call (w.end).reply ≡ [] = ap (λ (does : FrontCall). given does (w.end).reply) w.ends ∙ inside.ends (w.end).reply in
        let last : given_on c channel (w.end ∷ later) ≡ given_on c channel later =
        ap (λ (xs : List A). on_channel c channel xs ++ given_on c (begun_to channel (w.end).call (w.end).reply) later) nothing
        ∙ ap (λ (xs : List A). xs ++ given_on c (begun_to channel (w.end).call (w.end).reply) later) (none_on c channel) ∙ ap (λ (does : FrontCall). given_on c (begun_to channel does (w.end).reply) later) w.ends in
        ap (λ (es : List FrontEntry). given_on c now (es ++ later)) w.whole_are
        ∙ ap (λ (xs : List A). on_channel c now xs ++ given_on c (begun_to now (w.begin).call (w.begin).reply) rest) none ∙ ap (λ (xs : List A). xs ++ given_on c (begun_to now (w.begin).call (w.begin).reply) rest) (none_on c now)
        ∙ ap (λ (n : ℕ). given_on c n rest) begun ∙ ap (given_on c channel) (append_assoc calls (w.end ∷ []) later) ∙ middle_given c channel calls (w.end ∷ later) middle
        ∙ ap (λ (xs : List A). on_channel c channel (given_in calls) ++ xs) last

    -- what calls of runs give, and of the call that ends the session
    pub runs_given : (c : ℕ) (runs : List ChannelRun) (last : FrontEntry) (now : ℕ) → last.call ≡ call.EndSession → AllByRecursion IsChannelRun runs → AllByRecursion (λ (r : ChannelRun). AreMiddle (r.reading).calls) runs
        → given_on c now (calls_by_all runs ++ last ∷ []) ≡ given_of c runs
    runs_given c [] last now over each middle = ap (λ (xs : List A). on_channel c now xs ++ []) (ap (λ (does : FrontCall). given does last.reply) over ∙ inside.over last.reply) ∙ append-nil (on_channel {A = A} c now []) ∙ none_on c now
    runs_given c (r ∷ runs) last now over each middle =
        ap (given_on c now) (append_assoc r.calls (calls_by_all runs) (last ∷ [])) ∙ run_given c now r (calls_by_all runs ++ last ∷ []) each.0 middle.0
        ∙ ap (λ (xs : List A). on_channel c (r.reading).channel (given_in (r.reading).calls) ++ xs) (runs_given c runs last (r.reading).channel over each.1 middle.1)

-- ---- what they hear

-- messages are heard on a channel
pub hears_inside : GivesInside given_by
hears_inside = record { asked = λ does back asks. (asks_only does back asks).heard; begins = λ channel back. refl; ends = λ back. refl; over = λ back. refl }

pub heard_in_all : (calls : List FrontEntry) → given_in given_by calls ≡ messages_heard calls
heard_in_all [] = refl
heard_in_all (e ∷ calls) = ap (λ (ms : List (List ℕ)). given_by e.call e.reply ++ ms) (heard_in_all calls)

-- ---- which channels begin

-- a channel that begins is one of so many
abbrev pub BeginsUpTo : ℕ → FrontCall → FrontReply → Type 0
BeginsUpTo most (call.Begin channel) (reply.Done at full) = channel ≤ most
BeginsUpTo most does back = Unit {0}

pub begun_up_to : (most now : ℕ) (does : FrontCall) (back : FrontReply) → now ≤ most → BeginsUpTo most does back → begun_to now does back ≤ most
begun_up_to most now (call.Begin channel) (reply.Done at full) low begins = begins
begun_up_to most now (call.Begin channel) (reply.Stands ready asked) low begins = low
begun_up_to most now (call.Begin channel) reply.Kept low begins = low
begun_up_to most now (call.Begin channel) (reply.Wrong cause) low begins = low
begun_up_to most now (call.Begin channel) (reply.Duplicate key) low begins = low
begun_up_to most now (call.Begin channel) reply.Unfit low begins = low
begun_up_to most now (call.Begin channel) reply.Memory low begins = low
begun_up_to most now (call.Begin channel) reply.Full low begins = low
begun_up_to most now (call.Begin channel) reply.Refused low begins = low
begun_up_to most now (call.Begin channel) (reply.Messages filled left) low begins = low
begun_up_to most now (call.Hear message) back low begins = low
begun_up_to most now call.Retry back low begins = low
begun_up_to most now (call.Next channel place room) back low begins = low
begun_up_to most now (call.Remove device) back low begins = low
begun_up_to most now (call.Add device) back low begins = low
begun_up_to most now call.Look back low begins = low
begun_up_to most now call.EndChannel back low begins = low
begun_up_to most now call.EndSession back low begins = low

pub unbegun_up_to : (most : ℕ) (does : FrontCall) (back : FrontReply) → ((channel : ℕ) → does ≡ call.Begin channel → ⊥) → BeginsUpTo most does back
unbegun_up_to most (call.Begin channel) back not = absurd (not channel refl)
unbegun_up_to most (call.Hear message) back not = tt
unbegun_up_to most call.Retry back not = tt
unbegun_up_to most (call.Next channel place room) back not = tt
unbegun_up_to most (call.Remove device) back not = tt
unbegun_up_to most (call.Add device) back not = tt
unbegun_up_to most call.Look back not = tt
unbegun_up_to most call.EndChannel back not = tt
unbegun_up_to most call.EndSession back not = tt

abbrev IsUpTo : ℕ → FrontEntry → Type 0
IsUpTo most e = BeginsUpTo most e.call e.reply

middle_up_to : (most : ℕ) (calls : List FrontEntry) → AreMiddle calls → AllByRecursion (IsUpTo most) calls
middle_up_to most [] middle = tt
middle_up_to most (e ∷ calls) middle = (unbegun_up_to most e.call e.reply (λ channel is. subst IsMiddle is middle.0), middle_up_to most calls middle.1)

run_up_to : (most : ℕ) (r : ChannelRun) → (r.reading).channel ≤ most → IsChannelRun r → AreMiddle (r.reading).calls → AllByRecursion (IsUpTo most) r.calls
run_up_to most r low is middle =
    let w = is.whole in
    subst (AllByRecursion (IsUpTo most)) (sym w.whole_are) (
      subst (λ (does : FrontCall). BeginsUpTo most does (w.begin).reply) (sym (w.begins).0) (subst (BeginsUpTo most (call.Begin (r.reading).channel)) (sym ((w.begins).1).2) low),
      all_append (IsUpTo most) (r.reading).calls (w.end ∷ []) (middle_up_to most (r.reading).calls middle) (subst (λ (does : FrontCall). BeginsUpTo most does (w.end).reply) (sym w.ends) tt, tt),
    )

pub runs_up_to : (most n : ℕ) (runs : List ChannelRun) → HaveNumbers n runs → n + length runs ≤ most → AllByRecursion IsChannelRun runs → AllByRecursion (λ (r : ChannelRun). AreMiddle (r.reading).calls) runs
    → AllByRecursion (λ (e : FrontEntry). BeginsUpTo most e.call e.reply) (calls_by_all runs)
runs_up_to most n [] have few each middle = tt
runs_up_to most n (r ∷ runs) have few each middle =
    all_append (IsUpTo most) r.calls (calls_by_all runs) (run_up_to most r (let is = have.0 in omega (arith, is, few)) each.0 middle.0) (runs_up_to most (suc n) runs have.1 (omega (arith, few)) each.1 middle.1)
