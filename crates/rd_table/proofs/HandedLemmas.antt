-- What a table's calls hand out: no number twice, and each that was accepted once the table has no more of it.
use Rattle.std.proofs.Common.{◌≡◌, ◌≢◌, ◌∙◌, ◌⊎◌, refl, sym, ap, subst, inl, inr, ℕ, zero, suc, ◌<◌, ◌≤◌, List, [], ◌∷◌, ◌++◌, length, Some, None, Ok, arith}
use Rattle.std.specs.Prelude.{All, AllPairs, Contains, Result, is_ok, is_some, slice_index_or}
use Rattle.std.specs.List.{flat_map}
use Rattle.std.proofs.lemmas.List.Elements.{All-append, All-cons, All-nil, Contains-append_cases, Contains-append_right}
use Rattle.std.proofs.lemmas.List.Kept.{AllPairs-cons}
use mathlib.Core.Logic.{dite}
use native.Mathlib.Decide.{dec_le}
use Rattle.rd_pending.specs.declared.calls.TakeNo.{TakeNo}
use Rattle.rd_pending.specs.declared.calls.Taken.{Taken}
use Rattle.rd_pending.specs.History as call
use Rattle.rd_pending.specs.History.{Call, CameTo, Holds, after, done_by}
use Rattle.rd_pending.specs.Outcomes.{Accepted}
use Rattle.rd_pending.specs.Table.{TableCall, TableState, TableStep, new_table, take, takes, untaken_at}
use Rattle.rd_pending.proofs.Effects as effects
use Rattle.rd_pending.proofs.Handed.{handed_out}
use Rattle.rd_pending.proofs.Histories.{sound}
use Rattle.rd_pending.proofs.MapLemmas.{gone}
use Rattle.rd_table.specs.Histories.{done_by_all, handed_out_by}
use Rattle.rd_table.proofs.StepLemmas.{TableSteps, done_more, done_once, done_since, handed_if, handed_once, next_steps, steps_go, steps_parted}
use Rattle.rd_table.proofs.UntakenLemmas.{accepted_has, count_grows, has_none, keeps_or_hands}

-- ---- what was handed out stays so

still_none : (x : Call) (h : List Call) (n : ℕ) → Holds (x ∷ h) → n ≤ (after h).count → untaken_at (after h) n ≡ None → untaken_at (after (x ∷ h)) n ≡ None
still_none x h n holds low none = elim (keeps_or_hands x h n holds low) [
  | inl same ↦ has_none (after (x ∷ h)) n (same ∙ ap is_some none)
  | inr handed ↦ handed.1
]

-- a number of which the table has no more
abbrev IsGone : ℕ → List Call → Type 0
IsGone n h = (n ≤ (after h).count) × (untaken_at (after h) n ≡ None)

stays_gone : (h : List Call) (made : TableCall) (n : ℕ) → Holds h → Holds (done_by (after h) made ++ h) → IsGone n h → IsGone n (done_by (after h) made ++ h)
stays_gone h made n holds on is =
    let grown = count_grows (done_by (after h) made) h on holds in
    let low = is.0 in (
      omega (arith, low, grown),
      elim (done_once (after h) made) [
        | inl idle ↦ subst (λ (calls : List Call). untaken_at (after (calls ++ h)) n ≡ None) (sym idle) is.1
        | inr one ↦
            subst (λ (calls : List Call). untaken_at (after (calls ++ h)) n ≡ None) (sym one.1)
            (still_none one.0 h n (subst (λ (calls : List Call). Holds (calls ++ h)) one.1 on) low is.1)
      ],
    )

-- ---- no number is handed out twice

taken_there : (t next : TableState) (number : ℕ) (taken : Taken) → take t number ≡ (next, Ok taken) → effects.Takes t number
taken_there t next number taken step = effects.takes t number (ap (λ (p : TableState × Result Taken TakeNo). is_ok p.1) step)

other_handed : (t next : TableState) (made : TableCall) (n : ℕ) → TableStep t made next → untaken_at t n ≡ None → All (λ (x : ℕ × Taken). n ≢ x.0) (handed_out_by made)
other_handed t next made n step none = elim (handed_once made) [
  | inl nothing ↦ subst (All (λ (x : ℕ × Taken). n ≢ x.0)) (sym nothing) (All-nil (λ (x : ℕ × Taken). n ≢ x.0))
  | inr one ↦
      let effect = taken_there t next one.0 one.1 (subst (λ (c : TableCall). TableStep t c next) one.2 step) in
      let apart : n ≢ one.0 = λ same. let here : untaken_at t n ≡ Some effect.request = subst (λ (k : ℕ). untaken_at t k ≡ Some effect.request) (sym same) effect.is in absurd (cc (none, here)) in
      subst (λ (c : TableCall). All (λ (x : ℕ × Taken). n ≢ x.0) (handed_out_by c)) (sym one.2)
      (All-cons (λ (x : ℕ × Taken). n ≢ x.0) (one.0, one.1) [] apart (All-nil (λ (x : ℕ × Taken). n ≢ x.0)))
]

none_again : (calls : List TableCall) (h : List Call) (t : TableState) (n : ℕ) → Holds h → IsGone n h → TableSteps (after h) calls t
    → All (λ (x : ℕ × Taken). n ≢ x.0) (flat_map handed_out_by calls)
none_again [] h t n holds is steps = All-nil (λ (x : ℕ × Taken). n ≢ x.0)
none_again (made ∷ calls) h t n holds is steps =
    let next = next_steps h t made calls holds steps in
    let rest = none_again calls (done_by (after h) made ++ h) t n next.0 (stays_gone h made n holds next.0 is) next.1 in
    All-append (λ (x : ℕ × Taken). n ≢ x.0) (handed_out_by made) (flat_map handed_out_by calls) (other_handed (after h) steps.0 made n steps.1 is.1) rest

just_gone : (h : List Call) (next : TableState) (number : ℕ) (taken : Taken) → Holds (call.takes number ∷ h) → take (after h) number ≡ (next, Ok taken) → IsGone number (call.takes number ∷ h)
just_gone h next number taken holds step =
    let effect = taken_there (after h) next number taken step in
    let s = sound h holds.1 in
    let low = s.slots.numbers number effect.request effect.is in
    let grown = count_grows (call.takes number ∷ []) h holds holds.1 in
    (omega (arith, low.1, grown), ap (λ (t : TableState). untaken_at t number) effect.new ∙ gone number (after h).untaken s.slots.untaken_rising)

-- two that are handed out are of two numbers
abbrev pub AreApart : ℕ × Taken → ℕ × Taken → Type 0
AreApart x y = x.0 ≢ y.0

apart_after : (made : TableCall) (calls : List TableCall) (h : List Call) (t : TableState) (number : ℕ) (taken : Taken) → made ≡ takes number (Ok taken) → Holds h
    → TableSteps (after h) (made ∷ calls) t → AllPairs AreApart (flat_map handed_out_by calls) → AllPairs AreApart (flat_map handed_out_by (made ∷ calls))
apart_after made calls h t number taken is holds steps rest =
    let own : TableSteps (after h) (takes number (Ok taken) ∷ calls) t = subst (λ (c : TableCall). TableSteps (after h) (c ∷ calls) t) is steps in
    let next = next_steps h t (takes number (Ok taken)) calls holds own in
    let again = none_again calls (call.takes number ∷ h) t number next.0 (just_gone h own.0 number taken next.0 own.1) next.1 in
    subst (λ (c : TableCall). AllPairs AreApart (flat_map handed_out_by (c ∷ calls))) (sym is) (AllPairs-cons AreApart (number, taken) (flat_map handed_out_by calls) again rest)

pub all_apart : (calls : List TableCall) (h : List Call) (t : TableState) → Holds h → TableSteps (after h) calls t → AllPairs AreApart (flat_map handed_out_by calls)
all_apart [] h t holds steps = λ i j d less low. absurd (omega (arith, less, low))
all_apart (made ∷ calls) h t holds steps =
    let next = next_steps h t made calls holds steps in
    let rest = all_apart calls (done_by (after h) made ++ h) t next.0 next.1 in
    elim (handed_once made) [
      | inl nothing ↦ subst (λ (l : List (ℕ × Taken)). AllPairs AreApart (l ++ flat_map handed_out_by calls)) (sym nothing) rest
      | inr one ↦ apart_after made calls h t one.0 one.1 one.2 holds steps rest
    ]

-- ---- each that was accepted is there or was handed out

-- by these calls it was handed out, with this
abbrev pub IsHanded : ℕ → List TableCall → Type 0
IsHanded n calls = (taken : Taken) × Contains (flat_map handed_out_by calls) (n, taken)

handed_now : (h : List Call) (made : TableCall) (calls : List TableCall) (n : ℕ) (x : Call) → done_by (after h) made ≡ x ∷ [] → Holds (x ∷ h) → IsGone n (x ∷ h) → IsGone n h ⊎ IsHanded n (made ∷ calls)
handed_now h made calls n x is holds gone_now = dite (dec_le n (after h).count)
    (λ low. elim (keeps_or_hands x h n holds low) [
      | inl same ↦ inl (low, has_none (after h) n (sym same ∙ ap is_some gone_now.1))
      | inr handed ↦
          let one = handed_if (after h) made n (is ∙ ap (λ (c : Call). c ∷ []) handed.0) in
          inr (one.0, subst (λ (c : TableCall). Contains (flat_map handed_out_by (c ∷ calls)) (n, one.0)) (sym one.1) (0, omega arith, refl))
    ])
    (λ over. let there = accepted_has x h n holds (omega arith) gone_now.0 in absurd (cc (there, ap is_some gone_now.1)))

pub gone_or_handed : (calls : List TableCall) (h : List Call) (t : TableState) (n : ℕ) → Holds h → n ≤ t.count → untaken_at t n ≡ None → TableSteps (after h) calls t
    → IsGone n h ⊎ IsHanded n calls
gone_or_handed [] h t n holds low none steps = inl (subst (λ (s : TableState). n ≤ s.count) (sym steps) low, subst (λ (s : TableState). untaken_at s n ≡ None) (sym steps) none)
gone_or_handed (made ∷ calls) h t n holds low none steps =
    let next = next_steps h t made calls holds steps in
    elim (gone_or_handed calls (done_by (after h) made ++ h) t n next.0 low none next.1) [
      | inl there ↦ elim (done_once (after h) made) [
        | inl idle ↦ inl (subst (λ (done : List Call). IsGone n (done ++ h)) idle there)
        | inr one ↦ handed_now h made calls n one.0 one.1 (subst (λ (done : List Call). Holds (done ++ h)) one.1 next.0) (subst (λ (done : List Call). IsGone n (done ++ h)) one.1 there)
      ]
      | inr later ↦ inr (later.0, Contains-append_right (handed_out_by made) (flat_map handed_out_by calls) (n, later.0) later.1)
    ]

pub all_handed : (calls : List TableCall) (t : TableState) (n : ℕ) → 1 ≤ n → n ≤ t.count → untaken_at t n ≡ None → TableSteps new_table calls t → IsHanded n calls
all_handed calls t n some low none steps = elim (gone_or_handed calls [] t n tt low none steps) [
  | inl new ↦ let under : n ≤ 0 = new.0 in absurd (omega (arith, some, under))
  | inr handed ↦ handed
]

-- ---- what is handed out is what came of its request

contains_one : {A : Type 0} (x y : A) → Contains (x ∷ []) y → x ≡ y
contains_one {A} x y has = go has.0 has.1 has.2
  where
    go : (k : ℕ) → k < 1 → slice_index_or (x ∷ []) k y ≡ y → x ≡ y
    go zero low is = is
    go (suc k) low is = absurd (omega (arith, low))

handed_place : (calls : List TableCall) (n : ℕ) (taken : Taken) → Contains (flat_map handed_out_by calls) (n, taken)
    → (before : List TableCall) × (later : List TableCall) × (calls ≡ before ++ takes n (Ok taken) ∷ later)
handed_place [] n taken has = let low = has.1 in absurd (omega (arith, low))
handed_place (made ∷ calls) n taken has = elim (Contains-append_cases (handed_out_by made) (flat_map handed_out_by calls) (n, taken) has) [
  | inl here ↦ elim (handed_once made) [
    | inl nothing ↦ let low = (subst (λ (l : List (ℕ × Taken)). Contains l (n, taken)) nothing here).1 in absurd (omega (arith, low))
    | inr one ↦
        let same : (one.0, one.1) ≡ (n, taken) = contains_one (one.0, one.1) (n, taken) (subst (λ (c : TableCall). Contains (handed_out_by c) (n, taken)) one.2 here) in
        ([], calls, ap (λ (c : TableCall). c ∷ calls) (one.2 ∙ ap (λ (p : ℕ × Taken). takes p.0 (Ok p.1)) same))
  ]
  | inr there ↦ let place = handed_place calls n taken there in (made ∷ place.0, place.1, ap (λ (l : List TableCall). made ∷ l) place.2)
]

-- What is handed out for a number is what came of its request in a history, with its device and life.
abbrev pub IsOwn : List Call → ℕ → Taken → Type 0
IsOwn h n taken = (a : Accepted) × (came : CameTo h a taken.outcome) × (n ≡ suc (length came.earlier)) × (taken.device ≡ a.device) × (taken.life ≡ a.life)

pub handed_own : (calls : List TableCall) (t : TableState) (n : ℕ) (taken : Taken) → TableSteps new_table calls t → Contains (flat_map handed_out_by calls) (n, taken) → IsOwn (done_by_all [] calls) n taken
handed_own calls t n taken steps has =
    let place = handed_place calls n taken has in
    let asked : TableCall = takes n (Ok taken) in
    let parted = steps_parted new_table t place.0 (asked ∷ place.1) (subst (λ (l : List TableCall). TableSteps new_table l t) place.2 steps) in
    let there = steps_go [] parted.0 place.0 tt parted.1 in
    let h : List Call = done_by_all [] place.0 in
    let step : take (after h) n ≡ (parted.2.0, Ok taken) = subst (λ (s : TableState). take s n ≡ (parted.2.0, Ok taken)) (sym there.is) parted.2.1 in
    let since = done_since (call.takes n ∷ h) place.1 in
    let whole : done_by_all [] calls ≡ since.0 ++ call.takes n ∷ h = ap (done_by_all []) place.2 ∙ (done_more [] place.0 (asked ∷ place.1) ∙ since.1) in
    let holds : Holds (since.0 ++ call.takes n ∷ h) = subst Holds whole (steps_go [] t calls tt steps).holds in
    subst (λ (x : List Call). IsOwn x n taken) (sym whole) (handed_out since.0 h (call.takes n) holds taken (ap (λ (p : TableState × Result Taken TakeNo). p.1) step))
