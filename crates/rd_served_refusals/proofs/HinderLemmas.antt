-- Where nothing is heard after a reply that hinders, nothing is heard after a part that stops the channel.
use Rattle.std.proofs.Common.{◌≡◌, ◌∙◌, ◌⊎◌, refl, inl, inr, ℕ, Bool, true, false, ◌||◌, List, [], ◌∷◌, Some}
use Rattle.std.specs.Prelude.{filter_map}
use Rattle.rd_front.specs.declared.calls.FrontCall.{FrontCall}
use Rattle.rd_front.specs.declared.calls.FrontCall.TheVariants as call
use Rattle.rd_front.specs.declared.calls.FrontReply.{FrontReply}
use Rattle.rd_front.specs.declared.calls.FrontReply.TheVariants as reply
use Rattle.rd_turn.specs.declared.object.Entry.{Entry}
use Rattle.rd_served.proofs.WalkLemmas.{none_before}
use Rattle.rd_front.specs.Calls.{hinders}
use Rattle.rd_served.specs.Histories.{Among, HearBefore, HearsAs, HistoryGoes, TellsParts, stopped_by}
use Rattle.rd_served.specs.Parts.{FrontPart, begins, begun_by, heard_in, stops}
use Rattle.rd_served.specs.Served.{Served}
use Rattle.rd_served_refusals.specs.Heeding.{CallsHearBefore, HearUnhindered, HearsUnhindered, hindered_by, stopped_after}

-- a part stops the channel
abbrev IsStop : FrontPart → Type 0
IsStop x = stops x ≡ true

either_true : (a b : Bool) → (a || b) ≡ true → (a ≡ true) ⊎ (b ≡ true)
either_true true b is = inl refl
either_true false b is = inr is

second_true : (a b : Bool) → b ≡ true → (a || b) ≡ true
second_true true b is = refl
second_true false b is = is

first_true : (a b : Bool) → a ≡ true → (a || b) ≡ true
first_true true b is = refl
first_true false b is = absurd (cc (is))

-- what is stopped was so before, or is by a part
one_stopped : (was : Bool) (x : FrontPart) → stopped_by was x ≡ true → (was ≡ true) ⊎ IsStop x
one_stopped was (begins channel) is = absurd (cc (is))
one_stopped was x is = elim (either_true (stops x) was is) [ inl here ↦ inr here | inr before ↦ inl before ]

all_stopped : (ps : List FrontPart) (was : Bool) → stopped_after was ps ≡ true → (was ≡ true) ⊎ Among IsStop ps
all_stopped [] was is = inl is
all_stopped (x ∷ ps) was is = elim (all_stopped ps (stopped_by was x) is) [ inl here ↦ elim (one_stopped was x here) [ inl before ↦ inl before | inr by ↦ inr (inl by) ] | inr later ↦ inr (inr later) ]

-- A channel that began isn't stopped, where no part stops it.
begun_goes : (was : Bool) (x : FrontPart) (channel : ℕ) → begun_by x ≡ Some channel → stopped_by was x ≡ false
begun_goes was (begins other) channel is = refl
begun_goes was x channel is = absurd (cc (is))

goes_on : (ps : List FrontPart) → (Among IsStop ps → ⊥) → (b : Bool) → stopped_after false ps ≡ b → b ≡ false
goes_on ps none false is = refl
goes_on ps none true is = elim (all_stopped ps false is) [ inl never ↦ absurd (cc (never)) | inr some ↦ absurd (none some) ]

begun_all : (ps : List FrontPart) (was : Bool) (channel : ℕ) → Among (λ x. begun_by x ≡ Some channel) ps → (Among IsStop ps → ⊥) → stopped_after was ps ≡ false
begun_all [] was channel none going = absurd none
begun_all (x ∷ ps) was channel (inl here) going =
    let from : stopped_by was x ≡ false = begun_goes was x channel here in
    (λ i. stopped_after (from i) ps) ∙ goes_on ps (λ some. going (inr some)) (stopped_after false ps) refl
begun_all (x ∷ ps) was channel (inr later) going = begun_all ps (stopped_by was x) channel later (λ some. going (inr some))

-- ---- one call

-- what stopped the channel hinders
call_hinders : (was hindered : Bool) (does : FrontCall) (back : FrontReply) (ps : List FrontPart) → TellsParts does back ps → (was ≡ true → hindered ≡ true) → stopped_after was ps ≡ true → hindered_by hindered does back ≡ true
call_hinders was hindered (call.Begin channel) (reply.Done at full) ps tells so is =
    let going : stopped_after was ps ≡ false = begun_all ps was channel (tells.begun channel at full refl refl) (λ some. let never = tells.stopped some in cc (never)) in
    absurd (cc (is, going))
call_hinders was hindered does back ps tells so is =
    elim (all_stopped ps was is) [ inl before ↦ second_true (hinders back) hindered (so before) | inr some ↦ first_true (hinders back) hindered (tells.stopped some) ]

-- what was hindered hears nothing
none_heard : (hindered : Bool) (does : FrontCall) (back : FrontReply) (h : List (List ℕ)) → hindered ≡ true → HearsUnhindered hindered does back → HearsAs does back h → h ≡ []
none_heard hindered (call.Hear message) reply.Refused h on un is = is
none_heard hindered (call.Hear message) reply.Full h on un is = is
none_heard hindered (call.Hear message) back h on un is = absurd (cc (on, un))
none_heard hindered does back h on un is = is

call_before : (was hindered : Bool) (does : FrontCall) (back : FrontReply) (ps : List FrontPart) → (was ≡ true → hindered ≡ true) → HearsUnhindered hindered does back → HearsAs does back (filter_map heard_in ps) → HearBefore false ps → HearBefore was ps
call_before false hindered does back ps so un heard before = before
call_before true hindered does back ps so un heard before = none_before true ps (none_heard hindered does back (filter_map heard_in ps) (so refl) un heard)

-- ---- each

calls_before : (entries : List (Entry FrontCall FrontReply)) (parts : List (List FrontPart)) (was hindered : Bool) (p q : Served) → HistoryGoes p entries parts q → HearUnhindered hindered entries → (was ≡ true → hindered ≡ true) → CallsHearBefore was parts
calls_before [] [] was hindered p q goes un so = tt
calls_before [] (ps ∷ parts) was hindered p q goes un so = absurd goes
calls_before (e ∷ entries) [] was hindered p q goes un so = absurd goes
calls_before (e ∷ entries) (ps ∷ parts) was hindered p q goes un so = (
  call_before was hindered e.call e.reply ps so un.0 (goes.1).heard ((goes.1).tells).before,
  calls_before entries parts (stopped_after was ps) (hindered_by hindered e.call e.reply) goes.0 q goes.2 un.1 (call_hinders was hindered e.call e.reply ps (goes.1).tells so),
)

pub hear_before : (entries : List (Entry FrontCall FrontReply)) (parts : List (List FrontPart)) (p q : Served) → HistoryGoes p entries parts q → HearUnhindered false entries → CallsHearBefore false parts
hear_before entries parts p q goes un = calls_before entries parts false false p q goes un (λ is. is)
