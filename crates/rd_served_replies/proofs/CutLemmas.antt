-- What a cut alone replies to came before the cut: the station from before it is one on the way, and what waited there came.
use Rattle.std.proofs.Common.{◌≡◌, ◌⊎◌, ◌∙◌, refl, sym, ap, subst, inl, inr, List, [], ◌∷◌, ◌++◌, append-nil, append_assoc, map}
use Rattle.std.specs.Prelude.{Contains}
use Rattle.std.specs.List.{AllByRecursion}
use Rattle.rd_base.specs.declared.journal.Cause.{Cause}
use Rattle.rd_base.specs.declared.journal.Item.{Item}
use Rattle.rd_base.specs.declared.journal.Item.TheVariants.{Came, Cut}
use Rattle.rd_base.specs.declared.journal.Key.{Key}
use Rattle.rd_drive.specs.Device.{Parked}
use Rattle.rd_drive.specs.Promise.{cut_end}
use Rattle.rd_drive.specs.Replies.{KeyedReply, end_reply, last_state_by, replies_at, replies_by, state_after}
use Rattle.rd_drive.specs.declared.step.End.{End}
use Rattle.rd_front.specs.State.{SessionStation}
use Rattle.rd_irp.specs.declared.completion.Reply.{Reply}
use Rattle.rd_irp.specs.declared.request.Request.{Request}
use Rattle.rd_station.specs.Station.{StationCall, new_station}
use Rattle.rd_station.specs.Tied.{RunsOwn, as_parked}
use Rattle.rd_station.proofs.Calls.{reached_keeps}
use Rattle.rd_station.proofs.Members.{Has, from_contains, has_append, map_has, to_contains}
use Rattle.rd_station.proofs.Tying.{all_tied}
use Rattle.rd_declared.specs.Devices.{device_cut, device_cuts, device_parked, device_runs, device_step}
use Rattle.rd_declared.specs.declared.device.SessionDevice.{SessionDevice}
use Rattle.rd_served.specs.ServedDevices.{ServedDeviceState, served_cuts, served_parked, served_runs}
use Rattle.rd_served.proofs.StoreLemmas.{CutsFirst, IsNoCut, step_stores}
use Rattle.rd_served.proofs.WorkLemmas.{Steps}
use Rattle.rd_served_replies.specs.Given.{HadNoFault, with_device}
use Rattle.rd_served_replies.proofs.GivenLemmas.{all_left}
use Rattle.rd_served_replies.proofs.KnownLemmas.{Plays, plays_parked, steps_as, steps_fault}
use Rattle.rd_served_replies.proofs.LedLemmas.{by_step}

abbrev Of : Type 0
Of = SessionStation

-- ---- where a cut stands in a journal

no_cut : (first last : List Item) (cause : Cause) → AllByRecursion IsNoCut (first ++ Cut cause ∷ last) → ⊥
no_cut [] last cause all = all.0
no_cut (x ∷ first) last cause all = no_cut first last cause all.1

-- where entries are stored of which at most the first is a cut, a cut was there before, or all that was there stands before it
split_cut : (old more first last : List Item) (cause : Cause) → CutsFirst more → old ++ more ≡ first ++ Cut cause ∷ last → ((later : List Item) × (old ≡ first ++ Cut cause ∷ later)) ⊎ (old ≡ first)
split_cut [] [] [] last cause cuts e = absurd (cc (e))
split_cut [] [] (y ∷ first) last cause cuts e = absurd (cc (e))
split_cut [] (x ∷ more) [] last cause cuts e = inr refl
split_cut [] (x ∷ more) (y ∷ first) last cause cuts e =
    let tail : more ≡ first ++ Cut cause ∷ last = cc (e) in
    absurd (no_cut first last cause (subst (AllByRecursion IsNoCut) tail cuts))
split_cut (x ∷ old) more [] last cause cuts e = let head : x ≡ Cut cause = cc (e) in inl (old, ap (λ (y : Item). y ∷ old) head)
split_cut (x ∷ old) more (y ∷ first) last cause cuts e =
    let head : x ≡ y = cc (e) in
    let tail : old ++ more ≡ first ++ Cut cause ∷ last = cc (e) in
    elim (split_cut old more first last cause cuts tail) [
      | inl (later, is) ↦ inl (later, λ i. head i ∷ is i)
      | inr is ↦ inr (λ i. head i ∷ is i)
    ]

none_there : (first last : List Item) (cause : Cause) → [] ≡ first ++ Cut cause ∷ last → ⊥
none_there [] last cause e = cc (e)
none_there (x ∷ first) last cause e = cc (e)

-- ---- the station before it

-- The way to a station leads through one with this journal.
record Through (calls : List StationCall) (old new : Of) (journal : List Item) : Type 0 where
  earlier : List StationCall
  later : List StationCall
  parts : calls ≡ earlier ++ later
  middle : Of
  led : Steps old earlier middle
  leads : Steps middle later new
  is : middle.journal ≡ journal

before_cut : (calls : List StationCall) (old new : Of) → Steps old calls new → (first last : List Item) (cause : Cause) → new.journal ≡ first ++ Cut cause ∷ last
    → ((later : List Item) × (old.journal ≡ first ++ Cut cause ∷ later)) ⊎ Through calls old new first
before_cut [] old new e first last cause at = inl (last, ap (λ (s : Of). s.journal) (sym e) ∙ at)
before_cut (call ∷ calls) old new e first last cause at = elim (before_cut calls e.0 new e.2 first last cause at) [
  | inl (later, there) ↦
      let stores = step_stores served_runs served_parked served_cuts old e.0 call e.1 in
      elim (split_cut old.journal stores.more first later cause stores.cuts (sym stores.longer ∙ there)) [
        | inl was ↦ inl was
        | inr is ↦ inr (record { earlier = []; later = call ∷ calls; parts = refl; middle = old; led = refl; leads = e; is = is })
      ]
  | inr way ↦ inr (record {
    earlier = call ∷ way.earlier;
    later = way.later;
    parts = ap (λ (cs : List StationCall). call ∷ cs) way.parts;
    middle = way.middle;
    led = (e.0, e.1, way.led);
    leads = way.leads;
    is = way.is;
  })
]

-- ---- what the cut replies to

module _ (requests : Key → Request) where
  -- a cut adds the replies to what waited
  replies_then : (s : SessionDevice) (first : List Item) (cause : Cause)
      → replies_by device_step device_cut requests s (first ++ Cut cause ∷ []) ≡ replies_by device_step device_cut requests s first ++ map end_reply (device_cut (last_state_by device_step device_cut requests s first)).ends
  replies_then s [] cause = append-nil (map end_reply (device_cut s).ends)
  replies_then s (x ∷ first) cause =
      let then : SessionDevice = state_after device_step device_cut requests s x in
      ap (λ (rs : List KeyedReply). replies_at device_step device_cut requests s x ++ rs) (replies_then then first cause)
      ∙ sym (append_assoc (replies_at device_step device_cut requests s x) (replies_by device_step device_cut requests then first) (map end_reply (device_cut (last_state_by device_step device_cut requests then first)).ends))

  module _ (x : ServedDeviceState) (other : SessionDevice) (plays : Plays x other) (nothing : served_parked x ≡ []) (calls : List StationCall) (s : Of) (steps : Steps (new_station x) calls s) (calm : HadNoFault s.device)
      (own : AllByRecursion (RunsOwn requests) calls) where
    -- what waited before the cut came
    ended_came : (first : List Item) → Through calls (new_station x) s first → (e : End) → Has e (device_cut (last_state_by device_step device_cut requests other first)).ends → Has (Came e.key) first
    ended_came first way e has =
        let (after, plays_on, so) = steps_as way.earlier (new_station x) way.middle other way.led plays (steps_fault way.later way.middle s way.leads calm) in
        let mine : AllByRecursion (RunsOwn requests) way.earlier = all_left (RunsOwn requests) way.earlier way.later (subst (AllByRecursion (RunsOwn requests)) way.parts own) in
        let tied = all_tied device_step device_cut requests device_runs device_parked device_cuts by_step other way.earlier (with_device way.middle after) (sym (plays_parked x other plays) ∙ nothing) mine so in
        let (c, keeps) = reached_keeps served_runs served_parked served_cuts way.middle (record { device = x; nothing = nothing; calls = way.earlier; steps = way.led }) in
        let device_is : last_state_by device_step device_cut requests other first ≡ after = ap (last_state_by device_step device_cut requests other) (sym way.is) ∙ sym tied.device in
        let ends_are : (device_cut (last_state_by device_step device_cut requests other first)).ends ≡ map cut_end (map as_parked (way.middle).parked) =
        ap (λ (d : SessionDevice). (device_cut d).ends) device_is ∙ (by_step.cancels after).ends ∙ ap (map cut_end) (sym (plays_parked (way.middle).device after plays_on) ∙ sym keeps.parked) in
        let (waiting, among, is) = map_has cut_end e (map as_parked (way.middle).parked) (subst (Has e) ends_are has) in
        let (p, there, same) = map_has as_parked waiting (way.middle).parked among in
        let key_is : p.key ≡ e.key = ap (λ (q : Parked). q.key) (sym same) ∙ ap (λ (x : End). x.key) (sym is) in
        let (on, run) = keeps.parked_run p there in
        subst (Has (Came e.key)) way.is (subst (λ (k : Key). Has (Came k) (way.middle).journal) key_is (from_contains (way.middle).journal (Came p.key) run.came))

    pub came_first : (first last : List Item) (cause : Cause) → s.journal ≡ first ++ Cut cause ∷ last → (key : Key) (reply : Reply) → ¬ (Contains (replies_by device_step device_cut requests other first) (key, reply))
        → Contains (replies_by device_step device_cut requests other (first ++ Cut cause ∷ [])) (key, reply) → Has (Came key) first
    came_first first last cause at key reply hadnt has = elim (before_cut calls (new_station x) s steps first last cause at) [
      | inl (later, none) ↦ absurd (none_there first later cause none)
      | inr way ↦
          let ends : List End = (device_cut (last_state_by device_step device_cut requests other first)).ends in
          let before : List KeyedReply = replies_by device_step device_cut requests other first in
          let now : Has (key, reply) (before ++ map end_reply ends) =
          subst (Has (key, reply)) (replies_then other first cause) (from_contains (replies_by device_step device_cut requests other (first ++ Cut cause ∷ [])) (key, reply) has) in
          elim (has_append (key, reply) before (map end_reply ends) now) [
            | inl earlier ↦ absurd (hadnt (to_contains before (key, reply) earlier))
            | inr ended ↦
                let (e, there, same) = map_has end_reply (key, reply) ends ended in
                subst (λ (k : Key). Has (Came k) first) (ap (λ (r : KeyedReply). r.0) (sym same)) (ended_came first way e there)
          ]
    ]
