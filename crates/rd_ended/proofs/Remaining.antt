-- What is left to happen by itself in a world, as ten counts.
use Rattle.std.proofs.Common.{◌≡◌, ◌⊎◌, ◌∙◌, refl, sym, ap, subst, inl, inr, ℕ, zero, suc, ◌+◌, ◌-◌, ◌*◌, ◌<◌, ◌≤◌, arith, Bool, true, false, cond, List, [], ◌∷◌, ◌++◌, length, take, drop, Some, None, Option}
use Rattle.std.specs.Prelude.{if◌then◌else◌, slice_get}
use Rattle.std.specs.Map.{keys_of, lookup}
use Rattle.std.specs.Ordering.{nat_cmp}
use Rattle.std.specs.BTreeMap.{insert_entry, is_at}
use Rattle.std.specs.Option.{option_map_or}
use Rattle.std.proofs.lemmas.Bool.{cases_eq}
use Rattle.rd_base.specs.declared.packet.Packet.TheVariants as packet
use Rattle.rd_client.specs.Core.{ClientCoreState}
use Rattle.rd_client.specs.Events.{waiting_messages}
use Rattle.rd_drive.specs.declared.plan.Job.{Job}
use Rattle.rd_hello.specs.ClientTable.{client_number}
use Rattle.rd_hello.specs.Moves.{is_of}
use Rattle.rd_pending.proofs.MapLemmas.{beside, inserted, same_key}
use Rattle.rd_told.proofs.RunsTrafficLemmas.{Traffic, traffic}
use Rattle.rd_station.specs.Station.{StationState}
use Rattle.rd_world.proofs.RoundsLemmas.{client_count}
use Rattle.rd_declared.specs.declared.device.SessionDevice.{SessionDevice}
use Rattle.rd_world.specs.Run.{drawing, host_count}
use Rattle.rd_deeds.specs.Talk.{Has}
use Rattle.rd_world.specs.World.{ApplicationState, Kept, WorldState, application_at, station_at}
use Rattle.rd_ended.proofs.Lessening.{Lessens}

-- ---- sums

abbrev pub sum : List ℕ → (ℕ → ℕ) → ℕ
sum [] f = 0
sum (i ∷ is) f = f i + sum is f

pub sum_same : (is : List ℕ) (f g : ℕ → ℕ) → ((i : ℕ) → g i ≡ f i) → sum is g ≡ sum is f
sum_same [] f g same = refl
sum_same (i ∷ is) f g same =
    let one : g i ≡ f i = same i in
    let rest : sum is g ≡ sum is f = sum_same is f g same in
    omega (arith, one, rest)

pub sum_within : (is : List ℕ) (f g : ℕ → ℕ) → ((i : ℕ) → g i ≤ f i) → sum is g ≤ sum is f
sum_within [] f g few = omega arith
sum_within (i ∷ is) f g few =
    let one : g i ≤ f i = few i in
    let rest : sum is g ≤ sum is f = sum_within is f g few in
    omega (arith, one, rest)

pub sum_less : (is : List ℕ) (j : ℕ) (f g : ℕ → ℕ) → Has j is → g j < f j → ((i : ℕ) → g i ≤ f i) → sum is g < sum is f
sum_less [] j f g has less few = absurd has
sum_less (i ∷ is) j f g (inl here) less few =
    let one : g i < f i = subst (λ (k : ℕ). g k < f k) here less in
    let rest : sum is g ≤ sum is f = sum_within is f g few in
    omega (arith, one, rest)
sum_less (i ∷ is) j f g (inr later) less few =
    let one : g i ≤ f i = few i in
    let rest : sum is g < sum is f = sum_less is j f g later less few in
    omega (arith, one, rest)

-- ---- maps

-- a map's key is among its keys
pub key_has : {X : Type 0} (k : ℕ) (x : X) (es : List (ℕ × X)) → lookup (is_at (nat_cmp k)) es ≡ Some x → Has k (keys_of es)
key_has k x [] there = absurd (cc there)
key_has {X} k x (e ∷ es) there = by (is_at (nat_cmp k) e.0) refl there (key_has k x es)
  where
    by : (b : Bool) → is_at (nat_cmp k) e.0 ≡ b → cond b (Some e.1) (lookup (is_at (nat_cmp k)) es) ≡ Some x → (lookup (is_at (nat_cmp k)) es ≡ Some x → Has k (keys_of es)) → (k ≡ e.0) ⊎ Has k (keys_of es)
    by true at there later = inl (same_key k e.0 at)
    by false at there later = inr (later there)

-- what holds of what stands at a key holds of each, where it holds of what is put at one
pub put_at_each : {X : Type 0} (P : ℕ → Option X → Type 0) (k : ℕ) (x : X) (es : List (ℕ × X)) → P k (Some x) → ((j : ℕ) → P j (lookup (is_at (nat_cmp j)) es))
    → (j : ℕ) → P j (lookup (is_at (nat_cmp j)) (insert_entry nat_cmp es k x))
put_at_each {X} P k x es own each j = elim (cases_eq j k) [
  | inl same ↦
      let there : lookup (is_at (nat_cmp j)) (insert_entry nat_cmp es k x) ≡ Some x = ap (λ (n : ℕ). lookup (is_at (nat_cmp n)) (insert_entry nat_cmp es k x)) same ∙ inserted k x es in
      subst (P j) (sym there) (subst (λ (n : ℕ). P n (Some x)) (sym same) own)
  | inr other ↦ subst (P j) (sym (beside k x j other es)) (each j)
]

-- ---- the counts

-- how far the client is from being ready
abbrev pub to_open : WorldState → ℕ
to_open w = 5 - client_number ((w.client).core).shake

-- how many messages are no completions
abbrev pub other_one : Bool → ℕ
other_one b = if b then 0 else 1

abbrev pub others : List (List ℕ) → ℕ
others [] = 0
others (m ∷ ms) = other_one (is_of packet.IoCompletion m) + others ms

-- how many messages that are no completions the host hasn't heard
abbrev pub unheard_by : ClientCoreState → Traffic → ℕ
unheard_by c t = others (waiting_messages c) + (others t.client_wrote - others t.host_read)

abbrev pub unheard : WorldState → ℕ
unheard w = unheard_by w.client (traffic w.channels w.deeds)

abbrev pub waits : Option ℕ → ℕ
waits None = 0
waits (Some number) = 1

-- what the queued lines of an application are still to do: to be issued, and to come out
abbrev pub line_left : ApplicationState → ℕ
line_left x = 2 * x.queued - (2 * length x.outcomes + waits x.awaits)

abbrev pub lines_left : List ℕ → WorldState → ℕ
lines_left ids w = sum ids (λ a. line_left (application_at w a))

abbrev pub way_left : WorldState → ℕ
way_left w = length (w.to_client).pipe

abbrev pub back : Option Kept → ℕ
back None = 0
back (Some k) = 1

-- what the client read and didn't handle
abbrev pub handling_left : WorldState → ℕ
handling_left w = 2 * (length (w.to_client).part + length (w.to_client).unhandled) + back w.kept

-- of a station, if there is one
abbrev pub of_station : (StationState SessionDevice → ℕ) → Option (StationState SessionDevice) → ℕ
of_station f o = option_map_or f o 0

abbrev pub waiting_in : StationState SessionDevice → ℕ
waiting_in s = length s.waiting

abbrev pub ready_in : StationState SessionDevice → ℕ
ready_in s = length s.ready

abbrev pub full_hands : List (Option (ℕ × Job)) → ℕ
full_hands [] = 0
full_hands (None ∷ hands) = full_hands hands
full_hands (Some held ∷ hands) = suc (full_hands hands)

-- what waits for a hand is to be taken and to be run, and what is in a hand to be run
abbrev pub jobs_left : List ℕ → WorldState → ℕ
jobs_left ids w = 2 * sum ids (λ d. of_station waiting_in (station_at w d)) + full_hands w.hands

abbrev pub completions_left : List ℕ → WorldState → ℕ
completions_left ids w = sum ids (λ d. of_station ready_in (station_at w d))

abbrev pub way_back_left : WorldState → ℕ
way_back_left w = length (w.to_host).pipe

-- all of them, of these applications and devices
abbrev pub remaining : List ℕ → List ℕ → List (WorldState → ℕ)
remaining applications devices =
    to_open ∷ unheard ∷ lines_left applications ∷ host_count ∷ way_left ∷ handling_left ∷ jobs_left devices ∷ completions_left devices ∷ client_count ∷ way_back_left ∷ []

pub undrawn : (applications devices : List ℕ) (w v : WorldState) → Lessens (remaining applications devices) (drawing w) v → Lessens (remaining applications devices) w v
undrawn applications devices w v less = less

-- ---- messages

pub others_more : (xs ys : List (List ℕ)) → others (xs ++ ys) ≡ others xs + others ys
others_more [] ys = omega arith
others_more (x ∷ xs) ys =
    let rest : others (xs ++ ys) ≡ others xs + others ys = others_more xs ys in
    omega (arith, rest)

-- ---- hands

-- one hand holds something else
pub hand_changed : (hands : List (Option (ℕ × Job))) (i : ℕ) (old new : Option (ℕ × Job)) → slice_get hands i ≡ Some old
    → full_hands (take i hands ++ new ∷ drop (suc i) hands) + full_hands (old ∷ []) ≡ full_hands hands + full_hands (new ∷ [])
hand_changed [] i old new there = absurd (cc there)
hand_changed (h ∷ hands) zero old new there =
    let same : h ≡ old = cc there in
    subst (λ (o : Option (ℕ × Job)). full_hands (new ∷ hands) + full_hands (o ∷ []) ≡ full_hands (h ∷ hands) + full_hands (new ∷ [])) same (by new h)
  where
    by : (n o : Option (ℕ × Job)) → full_hands (n ∷ hands) + full_hands (o ∷ []) ≡ full_hands (o ∷ hands) + full_hands (n ∷ [])
    by None None = refl
    by None (Some y) = omega arith
    by (Some x) None = omega arith
    by (Some x) (Some y) = refl
hand_changed (None ∷ hands) (suc i) old new there = hand_changed hands i old new there
hand_changed (Some held ∷ hands) (suc i) old new there =
    let rest : full_hands (take i hands ++ new ∷ drop (suc i) hands) + full_hands (old ∷ []) ≡ full_hands hands + full_hands (new ∷ []) = hand_changed hands i old new there in
    omega (arith, rest)
