-- What is said of a host's deeds alone holds of them among those of both ends.
use Rattle.std.proofs.Common.{◌≡◌, ◌∙◌, refl, sym, ap, subst, ℕ, suc, length, Bool, true, false, cond, List, [], ◌∷◌, ◌++◌}
use Rattle.rd_pending.specs.declared.calls.Outcome.{Outcome}
use Rattle.rd_pending.specs.declared.calls.Taken.{Taken}
use Rattle.rd_pending.specs.History.{Call, CameTo}
use Rattle.rd_pending.specs.Outcomes.{Accepted}
use Rattle.rd_deeds.specs.Host.{HostSide}
use Rattle.rd_deeds.specs.HostDeeds.{MayDo, calls_by, calls_of, side_after, side_of}
use Rattle.rd_deeds.specs.Joining.{ClientCameTo, Joins}
use Rattle.rd_world.specs.Recording.{client_id}
use Rattle.rd_deeds.specs.Talk.{Deed, EachAfter, adds, client_reads, client_writes, completes, host_begins, host_ends, host_reads, host_writes, removes, stores, submits, takes, tells}
use Rattle.rd_deeds.specs.Told.{Replies}
use Rattle.rd_hosted.specs.Kept.{CameOf}
use Rattle.rd_peers.specs.Peers.{IsOwnOutcome, hosts_part, is_hosts}

-- what a client does leaves the host as it is
record IsOther (s : HostSide) (d : Deed) : Type 0 where
  after : side_after s d ≡ s
  calls : calls_by s d ≡ []
  may : MayDo s d

other : (s : HostSide) (d : Deed) → is_hosts d ≡ false → IsOther s d
other s (removes device) is = record { after = refl; calls = refl; may = tt }
other s (adds device) is = record { after = refl; calls = refl; may = tt }
other s (client_reads c m) is = record { after = refl; calls = refl; may = tt }
other s (client_writes c m) is = record { after = refl; calls = refl; may = tt }
other s (completes k m) is = record { after = refl; calls = refl; may = tt }
other s (stores device item) is = record { after = refl; calls = refl; may = tt }
other s (host_begins c) is = absurd (cc is)
other s (host_ends c) is = absurd (cc is)
other s (submits a t o) is = absurd (cc is)
other s (takes n) is = absurd (cc is)
other s (tells n) is = absurd (cc is)
other s (host_writes c m) is = absurd (cc is)
other s (host_reads c m) is = absurd (cc is)

pub same_side : (client : ℕ) (deeds : List Deed) → side_of client (hosts_part deeds) ≡ side_of client deeds
same_side client [] = refl
same_side client (d ∷ deeds) = by (is_hosts d) refl (same_side client deeds)
  where
    by : (b : Bool) → is_hosts d ≡ b → side_of client (hosts_part deeds) ≡ side_of client deeds → side_of client (cond b (d ∷ hosts_part deeds) (hosts_part deeds)) ≡ side_after (side_of client deeds) d
    by true is same = ap (λ (s : HostSide). side_after s d) same
    by false is same = same ∙ sym (other (side_of client deeds) d is).after

pub same_calls : (client : ℕ) (deeds : List Deed) → calls_of client (hosts_part deeds) ≡ calls_of client deeds
same_calls client [] = refl
same_calls client (d ∷ deeds) = by (is_hosts d) refl (same_calls client deeds)
  where
    by : (b : Bool) → is_hosts d ≡ b → calls_of client (hosts_part deeds) ≡ calls_of client deeds
        → calls_of client (cond b (d ∷ hosts_part deeds) (hosts_part deeds)) ≡ calls_by (side_of client deeds) d ++ calls_of client deeds
    by true is same = ap (λ (s : HostSide). calls_by s d ++ calls_of client (hosts_part deeds)) (same_side client deeds) ∙ ap (λ (h : List Call). calls_by (side_of client deeds) d ++ h) same
    by false is same = same ∙ sym (ap (λ (h : List Call). h ++ calls_of client deeds) (other (side_of client deeds) d is).calls)

pub may_all : (client : ℕ) (deeds : List Deed) → EachAfter (λ before deed. MayDo (side_of client before) deed) (hosts_part deeds) → EachAfter (λ before deed. MayDo (side_of client before) deed) deeds
may_all client [] may = tt
may_all client (d ∷ deeds) may = by (is_hosts d) refl may (may_all client deeds)
  where
    by : (b : Bool) → is_hosts d ≡ b → EachAfter (λ before deed. MayDo (side_of client before) deed) (cond b (d ∷ hosts_part deeds) (hosts_part deeds))
        → (EachAfter (λ before deed. MayDo (side_of client before) deed) (hosts_part deeds) → EachAfter (λ before deed. MayDo (side_of client before) deed) deeds)
        → EachAfter (λ before deed. MayDo (side_of client before) deed) (d ∷ deeds)
    by true is it rest = (subst (λ (s : HostSide). MayDo s d) (same_side client deeds) it.0, rest it.1)
    by false is it rest = ((other (side_of client deeds) d is).may, rest it)

-- ---- outcomes

-- what came of a request by the host's deeds came of it by those of both
abbrev Came : List Call → ℕ → Taken → Type 0
Came h number taken = (a : Accepted) × (came : CameTo h a taken.outcome) × (number ≡ suc (length came.earlier)) × (taken.device ≡ a.device) × (taken.life ≡ a.life)

pub own_outcome : (replies : Replies) (part deeds : List Deed) (number : ℕ) (taken : Taken) → hosts_part deeds ≡ part → Joins client_id replies deeds → CameOf part number taken → IsOwnOutcome client_id replies deeds number taken
own_outcome replies part deeds number taken is joins came =
    let same : calls_of client_id part ≡ calls_of client_id deeds = ap (calls_of client_id) (sym is) ∙ same_calls client_id deeds in
    let moved : Came (calls_of client_id deeds) number taken = subst (λ (h : List Call). Came h number taken) same (came.request, came.came, came.numbered, came.device, came.life) in
    record {
      request = moved.0;
      came = moved.1;
      numbered = moved.2;
      device = moved.3;
      life = moved.4;
      own = λ reply done. joins.replied moved.0 reply (subst (λ (o : Outcome). ClientCameTo client_id deeds moved.0 o) done moved.1);
    }
