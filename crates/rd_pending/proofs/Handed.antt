-- What is handed out is what came of the request, and stays so.
use Rattle.std.proofs.Common.{◌≡◌, ◌∙◌, refl, sym, ap, subst, ℕ, zero, suc, ◌<◌, ◌≤◌, ◌==◌, ◌||◌, Bool, true, false, cond, List, [], ◌∷◌, ◌++◌, length, take, Some, None, Option, arith, append_assoc, ne_eqb}
use Rattle.std.specs.Prelude.{is_ok, slice_get}
use Rattle.std.specs.Option.{option_map, option_or}
use Rattle.std.proofs.lemmas.List.{length-take-le}
use Rattle.std.proofs.lemmas.Option.{slice_get_within}
use Rattle.rd_base.specs.declared.journal.Cause.TheVariants.{Dropped}
use Rattle.rd_pending.specs.declared.calls.Outcome.{Outcome}
use Rattle.rd_pending.specs.declared.calls.Outcome.TheVariants.{Lost}
use Rattle.rd_pending.specs.declared.calls.Taken.{Taken}
use Rattle.rd_pending.specs.Outcomes.{Accepted, Agrees, course_from, ended_in}
use Rattle.rd_pending.specs.Table as table
use Rattle.rd_pending.specs.Table.{Fate, TableState, fate_at, known}
use Rattle.rd_pending.specs.History.{Call, HandsOut, Holds, accepted_in, after, begins, completes, drops, ended_on, heard_on, is_open_on, lives, lives_before, outcome_in, removes, sends, submits, takes}
use Rattle.rd_pending.proofs.AcceptedLemmas.{accepted_since, got_before, split_of, take_more}
use Rattle.rd_pending.proofs.Effects as effects
use Rattle.rd_pending.proofs.FateLemmas.{fate_of}
use Rattle.rd_pending.proofs.Histories.{sound}
use Rattle.rd_pending.proofs.Sound.{IsWithin, Sound, alike_before, heard_none, outcome_after, outcome_stays}

-- ---- an outcome stays

within_stays : (call : Call) (h : List Call) (m : ℕ) (a : Accepted) (o : Outcome) → Sound (after h) h → IsWithin call h → outcome_after m a h ≡ Some o → outcome_after m a (call ∷ h) ≡ Some o
within_stays call h m a o s within is = outcome_stays call h m a o within (s.shut a.channel) is

stays_by : (call : Call) (h : List Call) (m : ℕ) (a : Accepted) (o : Outcome) → Holds (call ∷ h) → a.channel < (after h).below → outcome_after m a h ≡ Some o → outcome_after m a (call ∷ h) ≡ Some o
stays_by (begins c) h m a o holds low is =
    let other : (c == a.channel) ≡ false = ne_eqb c a.channel (λ same. omega (arith, low, holds.0.1, same)) in
    rw (other, heard_none (begins c) h a.channel refl) is
stays_by (lives d) h m a o holds low is = within_stays (lives d) h m a o (sound h holds.1) (record { lives = λ c. refl; ended = λ c. refl }) is
stays_by (removes d) h m a o holds low is = within_stays (removes d) h m a o (sound h holds.1) (record { lives = λ c. refl; ended = λ c. refl }) is
stays_by (takes number) h m a o holds low is = within_stays (takes number) h m a o (sound h holds.1) (record { lives = λ c. refl; ended = λ c. refl }) is
stays_by (submits x named op) h m a o holds low is = within_stays (submits x named op) h m a o (sound h holds.1) (record { lives = λ c. refl; ended = λ c. refl }) is
stays_by (completes head bytes) h m a o holds low is = within_stays (completes head bytes) h m a o (sound h holds.1) (record { lives = λ c. refl; ended = λ c. refl }) is
stays_by sends h m a o holds low is = within_stays sends h m a o (sound h holds.1) (record { lives = λ c. refl; ended = λ c. refl }) is
stays_by drops h m a o holds low is = rw (heard_none drops h a.channel refl) (go (ended_in a m (course_from (lives_before a.channel h)) (heard_on a.channel h)) (is_open_on (after h) a.channel) (ended_on a.channel h) is)
  where
    go : (x : Option Outcome) (b w : Bool) → option_or x (cond w (Some (Lost Dropped)) None) ≡ Some o → option_or x (cond (b || w) (Some (Lost Dropped)) None) ≡ Some o
    go (Some y) b w e = e
    go None true true e = e
    go None true false e = absurd (cc e)
    go None false w e = e

-- a request that was accepted is still there
pub still_there : (later h : List Call) (n : ℕ) (a : Accepted) → slice_get (accepted_in h) n ≡ Some a → (slice_get (accepted_in (later ++ h)) n ≡ Some a) × (take n (accepted_in (later ++ h)) ≡ take n (accepted_in h))
still_there later h n a at =
    let (new, since) = accepted_since later h in
    (ap (λ (xs : List Accepted). slice_get xs n) since ∙ got_before (accepted_in h) new n a at, ap (take n) since ∙ take_more n (accepted_in h) new a at)

pub holds_before : (later h : List Call) → Holds (later ++ h) → Holds h
holds_before [] h holds = holds
holds_before (call ∷ later) h holds = holds_before later h holds.1

pub outcome_since : (later h : List Call) (m n : ℕ) (a : Accepted) (o : Outcome) → Holds (later ++ h) → slice_get (accepted_in h) n ≡ Some a → outcome_after m a h ≡ Some o → outcome_after m a (later ++ h) ≡ Some o
outcome_since [] h m n a o holds at is = is
outcome_since (call ∷ later) h m n a o holds at is =
    let low : a.channel < (after (later ++ h)).below = ((sound (later ++ h) holds.1).requests n a (still_there later h n a at).0).below in
    stays_by call (later ++ h) m a o holds low (outcome_since later h m n a o holds.1 at is)

-- ---- what is handed out

got_one : (n : ℕ) (xs : List Accepted) → n < length xs → (a : Accepted) × (slice_get xs n ≡ Some a)
got_one n [] low = absurd (omega (arith, low))
got_one zero (x ∷ xs) low = (x, refl)
got_one (suc n) (x ∷ xs) low = got_one n xs (omega (arith, low))

one_less : (n : ℕ) → 1 ≤ n → (p : ℕ) × (n ≡ suc p)
one_less zero low = absurd (omega (arith, low))
one_less (suc p) low = (p, refl)

handed : (later before : List Call) (number : ℕ) → Holds (later ++ takes number ∷ before) → HandsOut (later ++ takes number ∷ before) before (takes number)
handed later before number holds given answer =
    let h : List Call = later ++ takes number ∷ before in
    let whole : (later ++ takes number ∷ []) ++ before ≡ h = append_assoc later (takes number ∷ []) before in
    let t : TableState = after before in
    let s = sound before (holds_before later (takes number ∷ before) holds).1 in
    let effect = effects.takes t number (ap is_ok answer) in
    let numbers = s.slots.numbers number effect.request effect.is in
    let (p, numbered) = one_less number numbers.0 in
    let (a, at) = got_one p (accepted_in before) (omega (arith, numbers.1, numbered, s.count)) in
    let was = s.requests p a at in
    let m : ℕ = alike_before (take p (accepted_in before)) a in
    let fate : fate_at t (suc p) ≡ Some (known effect.outcome) = subst (λ (k : ℕ). fate_at t k ≡ Some (known effect.outcome)) numbered (ap (option_map fate_of) effect.is ∙ ap Some effect.fate) in
    let then_known : outcome_after m a before ≡ Some effect.outcome = subst (λ (f : Option Fate). Agrees f (outcome_after m a before)) fate was.agrees in
    let now_known : outcome_after m a h ≡ Some effect.outcome =
    subst (λ (x : List Call). outcome_after m a x ≡ Some effect.outcome) whole
    (outcome_since (later ++ takes number ∷ []) before m p a effect.outcome (subst Holds (sym whole) holds) at then_known) in
    let there = still_there (later ++ takes number ∷ []) before p a at in
    let at_end : slice_get (accepted_in h) p ≡ Some a = subst (λ (x : List Call). slice_get (accepted_in x) p ≡ Some a) whole there.0 in
    let earlier : take p (accepted_in h) ≡ take p (accepted_in before) = subst (λ (x : List Call). take p (accepted_in x) ≡ take p (accepted_in before)) whole there.1 in
    let (rest, parts) = split_of p (accepted_in h) a at_end in
    let same : given ≡ record { device = effect.request.device; life = effect.request.life; outcome = effect.outcome } = cc (answer, effect.given) in
    let names = was.named effect.request (subst (λ (k : ℕ). table.untaken_at t k ≡ Some effect.request) numbered effect.is) in
    let low : p < length (accepted_in h) = slice_get_within (accepted_in h) p a at_end in (
      a,
      record {
        earlier = take p (accepted_in h);
        later = rest;
        accepted = parts;
        is = ap (λ (xs : List Accepted). outcome_in h xs a) earlier ∙ now_known ∙ ap (λ (x : Taken). Some x.outcome) (sym same);
      },
      numbered ∙ ap suc (sym (length-take-le p (accepted_in h) (omega (arith, low)))),
      ap (λ (x : Taken). x.device) same ∙ names.0,
      ap (λ (x : Taken). x.life) same ∙ names.1,
    )

pub handed_out : (later before : List Call) (call : Call) → Holds (later ++ call ∷ before) → HandsOut (later ++ call ∷ before) before call
handed_out later before (takes number) holds = handed later before number holds
handed_out later before (begins c) holds = tt
handed_out later before (lives d) holds = tt
handed_out later before (removes d) holds = tt
handed_out later before (submits x named o) holds = tt
handed_out later before (completes head bytes) holds = tt
handed_out later before sends holds = tt
handed_out later before drops holds = tt
