-- Where a run ends on an open channel nothing is under way, so each end has read all that the other wrote.
use Rattle.std.proofs.Common.{◌≡◌, ◌∙◌, refl, sym, ap, ℕ, ◌&&◌, not, arith, Bool, true, false, List, [], ◌∷◌, ◌++◌, length, reverse, Some, None, Option, append-nil, is_some}
use Rattle.std.specs.Prelude.{is_none}
use Rattle.std.specs.List.{AllByRecursion}
use Rattle.std.proofs.lemmas.Bool.Decides.{nat_tests}
use Rattle.rd_base.specs.declared.journal.Key.{Key}
use Rattle.rd_chunk.specs.Carrier.{IsMessage, carrier_of, carrier_stream}
use Rattle.rd_chunk.proofs.CarrierLemmas.{carrier_one}
use Rattle.rd_client.specs.Core.{Outgoing}
use Rattle.rd_script.specs.declared.line.NumberedLine.{NumberedLine}
use Rattle.rd_runs.specs.Moves.{Reached}
use Rattle.rd_runs.specs.Premises.{RunPremises}
use Rattle.rd_runs.proofs.Handled.{handled}
use Rattle.rd_runs.proofs.Together.{known}
use Rattle.rd_runs.proofs.WayLemmas.{IsUnderWay}
use Rattle.rd_world.proofs.WayStreamLemmas.{first_of_one}
use Rattle.rd_world.specs.Events.{client_has_message, client_read, host_has_message, host_read, is_empty, is_enabled, is_read}
use Rattle.rd_deeds.specs.Host.{next_message}
use Rattle.rd_world.specs.Run.{NextStep, choices, where_true}
use Rattle.rd_deeds.specs.Talk.{client_wrote, host_wrote, open_channel}
use Rattle.rd_deeds.specs.Talk as talk
use Rattle.rd_world.specs.World.{Kept, WayState, WorldState, first_message}

-- ---- what can't happen

nothing_in : {A : Type 0} (xs ys : List A) → xs ++ ys ≡ [] → (xs ≡ []) × (ys ≡ [])
nothing_in [] ys none = (refl, none)
nothing_in (x ∷ xs) ys none = absurd (cc none)

not_true : (b : Bool) (c : NextStep) → where_true b c ≡ [] → b ≡ false
not_true true c none = absurd (cc none)
not_true false c none = refl

-- neither end has something to send, and none has something to read, unless a job is kept back
pub record IsQuiet (w : WorldState) : Type 0 where
  pub host_sends : next_message w.side ≡ None
  pub client_sends : ((w.client).core).outbox ≡ []
  pub host_reads : (w.to_host).pipe ≡ []
  pub client_reads : w.kept ≡ None → (w.to_client).pipe ≡ []

no_bytes : (pipe : List ℕ) → is_read pipe (length pipe) ≡ false → pipe ≡ []
no_bytes [] off = refl
no_bytes (b ∷ pipe) off = let on : is_read (b ∷ pipe) (length (b ∷ pipe)) ≡ true = grind (arith, nat_tests) in absurd (cc (on, off))

pub quiet : (w : WorldState) → choices w ≡ [] → IsQuiet w
quiet w none =
    let a = nothing_in _ _ none in
    let b = nothing_in _ _ a.0 in
    let c = nothing_in _ _ b.0 in
    let d = nothing_in _ _ c.0 in
    let e = nothing_in _ _ d.0 in
    let f = nothing_in _ _ e.0 in
    let g = nothing_in _ _ f.0 in
    record {
      host_sends = nothing_sent (next_message w.side) (not_true (host_has_message w) _ g.1);
      client_sends = nothing_out ((w.client).core).outbox (not_true (client_has_message w) _ e.1);
      host_reads = no_bytes (w.to_host).pipe (not_true (is_enabled w (host_read (length (w.to_host).pipe))) _ c.1);
      client_reads = λ kept. no_bytes (w.to_client).pipe (by (is_read (w.to_client).pipe (length (w.to_client).pipe)) w.kept kept (not_true (is_enabled w (client_read (length (w.to_client).pipe))) _ f.1));
    }
  where
    nothing_sent : (o : Option (List ℕ)) → is_some o ≡ false → o ≡ None
    nothing_sent None off = refl
    nothing_sent (Some m) off = absurd (cc off)

    nothing_out : (os : List Outgoing) → not (is_empty os) ≡ false → os ≡ []
    nothing_out [] off = refl
    nothing_out (o ∷ os) off = absurd (cc off)

    by : (b : Bool) (o : Option Kept) → o ≡ None → (b && is_none o) ≡ false → b ≡ false
    by b None none off = and_true b off
      where
        and_true : (b : Bool) → (b && true) ≡ false → b ≡ false
        and_true true off = off
        and_true false off = refl
    by b (Some k) none off = absurd (cc none)

-- ---- all was read

all_read : (wrote read : List (List ℕ)) (y : WayState) → IsUnderWay wrote read y → y.unhandled ≡ [] → y.pipe ≡ [] → first_message y.part ≡ None → read ≡ wrote
all_read wrote read y u unhandled pipe part = by u.waiting u.fit u.told (sym whole ∙ u.bytes)
  where
    whole : y.part ++ y.unhandled ++ y.pipe ≡ y.part
    whole = ap (λ (bs : List ℕ). y.part ++ bs ++ y.pipe) unhandled ∙ ap (λ (bs : List ℕ). y.part ++ [] ++ bs) pipe ∙ append-nil (y.part ++ []) ∙ append-nil y.part

    by : (waiting : List (List ℕ)) → AllByRecursion IsMessage waiting → wrote ≡ reverse waiting ++ read → y.part ≡ carrier_stream waiting → read ≡ wrote
    by [] fit told bytes = sym told
    by (x ∷ later) fit told bytes =
        let some : first_message y.part ≡ Some (x, carrier_stream later) = ap first_message bytes ∙ first_of_one x (carrier_of x) (carrier_stream later) (carrier_one x fit.0.0 fit.0.1) in
        absurd (cc (part, some))

module _ (lines : List NumberedLine) (starves : Key → Bool) (premises : RunPremises lines) (w : WorldState) (r : Reached lines starves w) (none : choices w ≡ [])
    (is : open_channel w.deeds ≡ Some w.channels) where
  pub host_heard_all : talk.host_read w.channels w.deeds ≡ client_wrote w.channels w.deeds
  host_heard_all =
      let k = known lines starves premises w r in
      all_read (client_wrote w.channels w.deeds) (talk.host_read w.channels w.deeds) w.to_host (k.carries.moving is).1 (handled lines starves w r).0 (quiet w none).host_reads k.stands.host_part

  pub client_heard_all : w.kept ≡ None → talk.client_read w.channels w.deeds ≡ host_wrote w.channels w.deeds
  client_heard_all kept =
      let k = known lines starves premises w r in
      all_read (host_wrote w.channels w.deeds) (talk.client_read w.channels w.deeds) w.to_client (k.carries.moving is).0 ((handled lines starves w r).1 kept) ((quiet w none).client_reads kept) k.stands.client_part
