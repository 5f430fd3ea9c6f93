-- At rest, where each request on the open channel was completed, no application awaits anything.
use Rattle.std.proofs.Common.{◌≡◌, ◌∙◌, refl, sym, ap, subst, inl, inr, ℕ, zero, suc, ◌<◌, ◌≤◌, Bool, true, cond, List, [], ◌∷◌, length, Some, None, Option, arith, eq-eqb}
use Rattle.std.specs.Prelude.{filter, slice_get}
use Rattle.std.proofs.lemmas.Option.{slice_get_cases}
use Rattle.rd_base.specs.declared.journal.Key.{Key}
use Rattle.rd_said.proofs.AnsweredSessionLemmas.{reached_joined, reached_joins}
use Rattle.rd_said.specs.AnsweredRefusing.{DeclareInRoom}
use Rattle.rd_said.specs.OrdersOrders.{DeclaresWritable}
use Rattle.rd_outcomes.proofs.AwaitedLemmas.{awaited_unknown}
use Rattle.rd_pending.specs.Outcomes.{Accepted}
use Rattle.rd_pending.specs.Table.{TableState, awaits, untaken_at}
use Rattle.rd_pending.proofs.CountLemmas.{pairs}
use Rattle.rd_pending.proofs.FateLemmas.{waiting}
use Rattle.rd_pending.proofs.Sound.{Sound, held, own_slot}
use Rattle.rd_said.proofs.RunsResting.{client_heard_all, host_heard_all, quiet}
use Rattle.rd_said.proofs.RunsHostLemmas.{host_channel}
use Rattle.rd_said.proofs.RunsTogether.{known}
use Rattle.rd_said.specs.RunsMoves.{Reached}
use Rattle.rd_said.specs.RunsPremises.{RunPremises}
use Rattle.rd_script.specs.declared.line.NumberedLine.{NumberedLine}
use Rattle.rd_deeds.specs.Host.{HostSide, first_waiting}
use Rattle.rd_deeds.specs.HostDeeds.{calls_of, side_of}
use Rattle.rd_deeds.specs.Joining.{accepted}
use Rattle.rd_world.specs.Recording.{client_id}
use Rattle.rd_world.specs.Run.{choices}
use Rattle.rd_deeds.specs.Talk.{Has, answered, asked, client_read, client_wrote, host_read, host_wrote, message_has_pair, open_channel}
use Rattle.rd_world.specs.World.{WorldState, application_at}
use Rattle.rd_deeds.proofs.Calls.{Does}
use Rattle.rd_deeds.proofs.Counting.{length-answered}
use Rattle.rd_deeds.proofs.Joined.{heard_is}
use Rattle.rd_deeds.proofs.Written.{sound_side}
use Rattle.rd_headline.proofs.HeardLemmas.{all_answered, all_asked, behind_heard, read_heard}

module _ (lines : List NumberedLine) (starves : Key → Bool) (premises : RunPremises lines) (few : length lines ≤ 1000000) (declared : DeclareInRoom lines) (writable : DeclaresWritable lines)
    (w : WorldState) (reached : Reached lines starves w) (rests : choices w ≡ []) (kept : w.kept ≡ None)
    (completed : open_channel w.deeds ≡ Some w.channels → (d i k : ℕ) → Has k (asked w.channels d i w.deeds) → Has k (answered w.channels d i w.deeds)) where
  does : Does client_id w.deeds
  does = ((known lines starves premises w reached).stands).host.may

  side : side_of client_id w.deeds ≡ w.side
  side = ((known lines starves premises w reached).stands).host.is

  no_requests : (a b : List (List ℕ)) → first_waiting a b ≡ None → b ≡ []
  no_requests (m ∷ ms) b none = absurd cc
  no_requests [] (m ∷ ms) none = absurd cc
  no_requests [] [] none = refl

  t : TableState
  t = (side_of client_id w.deeds).table

  sound : Sound t (calls_of client_id w.deeds)
  unfolding t
  sound = sound_side client_id w.deeds does

  -- a number that is awaited is that of a request that was accepted
  number_of : (n : ℕ) → awaits t n ≡ true → (m : ℕ) × (n ≡ suc m) × ((x : Accepted) × (slice_get (accepted client_id w.deeds) m ≡ Some x))
  unfolding t
  number_of n waits =
      let u = waiting (untaken_at t n) waits in
      let numbers = (sound.slots).numbers n u.one u.is in
      by n numbers.0 numbers.1
    where
      place : (m : ℕ) → m < length (accepted client_id w.deeds) → (x : Accepted) × (slice_get (accepted client_id w.deeds) m ≡ Some x)
      place m low = elim (slice_get_cases (accepted client_id w.deeds) m).1 [
        | inl (x, below, at, got) ↦ (x, at)
        | inr (above, none) ↦ absurd (omega (arith, low, above))
      ]

      by : (k : ℕ) → 1 ≤ k → k ≤ t.count → (m : ℕ) × (k ≡ suc m) × ((x : Accepted) × (slice_get (accepted client_id w.deeds) m ≡ Some x))
      by zero one low = absurd (omega (arith, one))
      by (suc m) one low = (m, refl, place m (omega (arith, low, sound.count)))

  not_awaited : (m : ℕ) (x : Accepted) → slice_get (accepted client_id w.deeds) m ≡ Some x → awaits t (suc m) ≡ true → ⊥
  unfolding t
  not_awaited m x at waits =
      let own = own_slot t (calls_of client_id w.deeds) m x sound at waits in
      let at_channel : open_channel w.deeds ≡ Some x.channel = sym (host_channel w.side w.channels w.deeds ((known lines starves premises w reached).stands).host) ∙ ap (λ (s : HostSide). (s.table).channel) (sym side) ∙ own.0 in
      let last : open_channel w.deeds ≡ Some w.channels = elim ((known lines starves premises w reached).stands).host.last [ inl shut ↦ absurd (cc (shut, at_channel)) | inr is ↦ is ] in
      let same : x.channel ≡ w.channels = (let both : Some x.channel ≡ Some w.channels = sym at_channel ∙ last in cc both) in
      let c : ℕ = w.channels in
      let opened : t.channel ≡ Some c = own.0 ∙ ap (λ (k : ℕ). Some k) same in
      let q = quiet w rests in
      let empty : t.outbox ≡ [] = ap (λ (s : HostSide). (s.table).outbox) side ∙ no_requests (((w.side).core).core).outbox ((w.side).table).outbox q.host_sends in
      let read : client_read c w.deeds ≡ host_wrote c w.deeds = client_heard_all lines starves premises w reached rests last kept in
      let heard : host_read c w.deeds ≡ client_wrote c w.deeds = host_heard_all lines starves premises w reached rests last in
      let joined = reached_joined lines starves premises few w reached declared in
      let joins = reached_joins lines starves premises few w reached declared in
      let all : pairs c x.device x.id (accepted client_id w.deeds) ≡ length (asked c x.device x.id w.deeds) = all_asked c x.device x.id w.deeds does opened empty read in
      let answers : asked c x.device x.id w.deeds ≡ answered c x.device x.id w.deeds = all_answered c x.device x.id w.deeds (joins.counted c x.device x.id) (λ k has. completed last x.device x.id k has) in
      let balanced = sound.balanced c opened x.device x.id in
      let one : held (_) x.device ≡ 1 = ap (λ (o : Option _). held o x.device) own.1 ∙ ap (λ (b : Bool). cond b 1 0) (eq-eqb x.device x.device refl) in
      let told = read_heard c x.device x.id w.deeds does (behind_heard lines starves premises writable w reached) joins.taken in
      let as_many : length (filter (message_has_pair x.device x.id) (host_read c w.deeds)) ≡ length (answered c x.device x.id w.deeds) =
      ap (λ (ms : List (List ℕ)). length (filter (message_has_pair x.device x.id) ms)) heard ∙ sym (length-answered w.deeds joined.stands c x.device x.id) in
      omega (arith, all, ap length answers, balanced, one, told, as_many, heard_is client_id w.deeds c x.device x.id)

  pub none_awaits : (a : ℕ) → (application_at w a).awaits ≡ None
  unfolding t
  none_awaits a = by (application_at w a).awaits refl
    where
      by : (o : Option ℕ) → (application_at w a).awaits ≡ o → o ≡ None
      by None e = refl
      by (Some n) e =
          let (m, number, (x, at)) = number_of n (ap (λ (s : HostSide). awaits s.table n) side ∙ awaited_unknown lines starves w reached a n e) in
          absurd (not_awaited m x at (subst (λ (k : ℕ). awaits t k ≡ true) number (ap (λ (s : HostSide). awaits s.table n) side ∙ awaited_unknown lines starves w reached a n e)))
