-- The numbers of the requests that a client read have room in their completions.
use Rattle.std.proofs.Common.{◌≡◌, ◌⊎◌, refl, sym, ap, subst, inl, inr, arith, ℕ, ◌<◌, ◌^◌, ◌==◌, ◌&&◌, Bool, true, false, cond, List, [], ◌∷◌, ◌++◌, length, Some}
use Rattle.std.specs.Prelude.{filter}
use Rattle.rd_drive.specs.Ranged.{SetsFew}
use Rattle.rd_irp.specs.Fits.{Fits}
use Rattle.rd_irp.specs.declared.op.Op.{Op}
use Rattle.rd_irp.specs.declared.op.Op.TheVariants as op
use Rattle.rd_irp.specs.declared.request.Request.{Request}
use Rattle.rd_pending.specs.History.{accepted_of}
use Rattle.rd_pending.specs.Outcomes.{Accepted}
use Rattle.rd_pending.specs.Table.{TableState, next_id}
use Rattle.rd_pending.proofs.Effects as effects
use Rattle.rd_pending.proofs.MapLemmas.{free_within}
use Rattle.rd_pending.proofs.Tame.{newest}
use Rattle.rd_deeds.specs.HostDeeds.{calls_of, side_of}
use Rattle.rd_deeds.specs.Joining.{IsCarried, accepted, request_of_accepted}
use Rattle.rd_deeds.specs.Talk.{Deed, Has, adds, client_read, client_reads, client_writes, completes, host_begins, host_ends, host_reads, host_writes, host_wrote, is_request, removes, request_at, request_in, stores, submits, takes, tells}
use Rattle.rd_deeds.proofs.Calls.{Does, read_tame, sent_same, table_of}
use Rattle.rd_deeds.proofs.Lists.{has_later}
use Rattle.rd_deeds.proofs.Messages.{request_is}
use Rattle.rd_deeds.proofs.Written.{Matches, Spells, requests_on, written}
use Rattle.rd_journals.specs.Jobs.{AreFine, FitsCompletion}

-- ---- what was accepted has room

abbrev AreRoomy : List Accepted → Type 0
AreRoomy xs = (a : Accepted) → Has a xs → FitsCompletion (request_of_accepted a)

either_of : {X : Type 0} (x : X) (xs ys : List X) → Has x (xs ++ ys) → (Has x xs) ⊎ (Has x ys)
either_of x [] ys has = inr has
either_of x (z ∷ xs) ys (inl same) = inl (inl same)
either_of x (z ∷ xs) ys (inr has) = elim (either_of x xs ys has) [ inl h ↦ inl (inr h) | inr h ↦ inr h ]

sets_few : (o : Op) → Fits o → SetsFew o
sets_few (op.Write offset bytes) fits = omega (arith, fits)
sets_few (op.SetFile class bytes) fits = omega (arith, fits)
sets_few (op.SetVolume class bytes) fits = omega (arith, fits)
sets_few _ fits = tt

accepted_roomy : (client : ℕ) (deeds : List Deed) → Does client deeds → AreRoomy (accepted client deeds)
accepted_roomy client [] may a has = absurd has
accepted_roomy client (host_begins channel ∷ before) may a has = accepted_roomy client before may.1 a has
accepted_roomy client (host_ends channel ∷ before) may a has = accepted_roomy client before may.1 a has
accepted_roomy client (removes device ∷ before) may a has = accepted_roomy client before may.1 a has
accepted_roomy client (adds device ∷ before) may a has = accepted_roomy client before may.1 a has
accepted_roomy client (submits x named o ∷ before) may a has =
    let t : TableState = (side_of client before).table in
    let effect = effects.submits t x named o may.0.2 in
    let own : accepted client (submits x named o ∷ before) ≡ accepted client before ++ accepted_of t x named o ∷ [] =
    ap (λ (y : TableState). accepted client before ++ accepted_of y x named o ∷ []) (table_of client before) in
    let small : next_id t < 2 ^ 32 = omega (arith, free_within 0 t.slots, effect.few) in
    let room : FitsCompletion (request_of_accepted (accepted_of t x named o)) = (may.0.1.device, small, sets_few o may.0.0.fits) in
    elim (either_of a (accepted client before) (accepted_of t x named o ∷ []) (subst (Has a) own has)) [
      | inl old ↦ accepted_roomy client before may.1 a old
      | inr new ↦ elim new [
        | inl same ↦ subst (λ (y : Accepted). FitsCompletion (request_of_accepted y)) (sym same) room
        | inr none ↦ absurd none
      ]
    ]
accepted_roomy client (takes number ∷ before) may a has = accepted_roomy client before may.1 a has
accepted_roomy client (tells n ∷ before) may a has = accepted_roomy client before may.1 a has
accepted_roomy client (host_writes channel message ∷ before) may a has =
    accepted_roomy client before may.1 a (subst (Has a) (sent_same (((side_of client before).core).core).outbox (calls_of client before)) has)
accepted_roomy client (host_reads channel message ∷ before) may a has =
    accepted_roomy client before may.1 a (subst (Has a) (read_tame client channel message before).1 has)
accepted_roomy client (client_reads channel message ∷ before) may a has = accepted_roomy client before may.1 a has
accepted_roomy client (client_writes channel message ∷ before) may a has = accepted_roomy client before may.1 a has
accepted_roomy client (completes key message ∷ before) may a has = accepted_roomy client before may.1 a has
accepted_roomy client (stores device item ∷ before) may a has = accepted_roomy client before may.1 a has

-- ---- what was read was accepted

of_newest : (c : ℕ) (a : Accepted) (xs : List Accepted) → Has a (newest c xs) → Has a xs
of_newest c a [] has = absurd has
of_newest c a (x ∷ xs) has = elim (either_of a (newest c xs) (cond (x.channel == c) (x ∷ []) []) has) [
  | inl old ↦ inr (of_newest c a xs old)
  | inr own ↦ by (x.channel == c) own
]
  where
    by : (b : Bool) → Has a (cond b (x ∷ []) []) → Has a (x ∷ xs)
    by true (inl same) = inl same
    by true (inr none) = absurd none
    by false none = absurd none

matched : (xs : List Accepted) (ms : List (List ℕ)) (m : List ℕ) → Matches xs ms → Has m ms → (a : Accepted) × Has a xs × Spells a m
matched [] [] m p has = absurd has
matched [] (x ∷ ms) m p has = absurd p
matched (a ∷ xs) [] m p has = absurd p
matched (a ∷ xs) (x ∷ ms) m p (inl same) = (a, inl refl, subst (Spells a) (sym same) p.0)
matched (a ∷ xs) (x ∷ ms) m p (inr has) = let old = matched xs ms m p.1 has in (old.0, inr old.1, old.2)

message_at : (ms : List (List ℕ)) (k : ℕ) (r : Request) → request_at ms k ≡ Some r → (m : List ℕ) × Has m ms × (request_in m ≡ Some r)
message_at [] k r e = absurd (cc e)
message_at (m ∷ ms) k r e = by (is_request m && length (filter is_request ms) == k) e (message_at ms k r)
  where
    by : (b : Bool) → cond b (request_in m) (request_at ms k) ≡ Some r → (request_at ms k ≡ Some r → (n : List ℕ) × Has n ms × (request_in n ≡ Some r)) → (n : List ℕ) × Has n (m ∷ ms) × (request_in n ≡ Some r)
    by true e later = (m, inl refl, e)
    by false e later = let old = later e in (old.0, inr old.1, old.2)

has_filtered : (m : List ℕ) (ms : List (List ℕ)) → is_request m ≡ true → Has m ms → Has m (filter is_request ms)
has_filtered m [] asks has = absurd has
has_filtered m (x ∷ ms) asks (inl same) = by (is_request x) (subst (λ (y : List ℕ). is_request y ≡ true) same asks)
  where
    by : (b : Bool) → b ≡ true → Has m (cond b (x ∷ filter is_request ms) (filter is_request ms))
    by true e = inl same
    by false e = absurd (cc e)
has_filtered m (x ∷ ms) asks (inr has) = by (is_request x) (has_filtered m ms asks has)
  where
    by : (b : Bool) → Has m (filter is_request ms) → Has m (cond b (x ∷ filter is_request ms) (filter is_request ms))
    by true old = inr old
    by false old = old

pub read_roomy : (client : ℕ) (deeds : List Deed) → Does client deeds → IsCarried deeds → AreFine FitsCompletion deeds
read_roomy client deeds may carried c k r e =
    let (m, has, spells) = message_at (client_read c deeds) k r e in
    let prefix = carried.to_client c in
    let wrote : Has m (host_wrote c deeds) = subst (Has m) (sym prefix.1) (has_later m prefix.0 (client_read c deeds) has) in
    let w = written client deeds may c in
    let asked : Has m (w.unsent ++ requests_on c deeds) = has_later m w.unsent (requests_on c deeds) (has_filtered m (host_wrote c deeds) (request_is m r spells) wrote) in
    let (a, own, own_spells) = matched (newest c (accepted client deeds)) (w.unsent ++ requests_on c deeds) m w.matches asked in
    let same : request_of_accepted a ≡ r = cc (own_spells, spells) in
    subst FitsCompletion same (accepted_roomy client deeds may a (of_newest c a (accepted client deeds) own))
