-- What waited on the last channel when it ended does so by the journals still, so that channel is the one that was left open; and what was still there stays so.
use Rattle.std.proofs.Common.{◌≡◌, ◌⊎◌, ◌∙◌, refl, sym, ap, subst, inl, inr, ℕ, ◌==◌, ◌&&◌, Bool, true, false, cond, arith, List, [], ◌∷◌, ◌++◌, length, map, reverse, fold, filter, Some, None, Option, eqb-true, append_assoc, is_some}
use Rattle.std.specs.Prelude.{IfSome, drop, filter_map, if◌then◌else◌}
use Rattle.std.specs.List.{cons_option, flat_map}
use Rattle.std.specs.List.Sorted.{IsStrictlySortedBy}
use Rattle.std.specs.Map.{keys_of, lookup}
use Rattle.std.specs.Ordering.{nat_cmp}
use Rattle.std.specs.BTreeMap.{is_at}
use Rattle.std.specs.Option.{option_and_then, option_map_or, unwrap_or}
use Rattle.std.proofs.lemmas.List.{length-append, reverse-append, reverse-reverse}
use Rattle.rd_base.specs.declared.journal.Cause.TheVariants.{Dropped}
use Rattle.rd_base.specs.declared.journal.Item.{Item}
use Rattle.rd_base.specs.declared.journal.Item.TheVariants.{Cut}
use Rattle.rd_base.specs.declared.journal.Key.{Key}
use Rattle.rd_controls.proofs.Numbers.{picked_reverse}
use Rattle.rd_controls.specs.Controls.{DoAsSaid, control_with}
use Rattle.rd_drive.specs.Device.{Parked}
use Rattle.rd_drive.specs.Replies.{last_state_by}
use Rattle.rd_host.specs.Order as host
use Rattle.rd_host.specs.Order.{HostStanding, host_at_first}
use Rattle.rd_answered.proofs.JournalsDeclaredLemmas.{bounded_fit}
use Rattle.rd_answered.proofs.JournalsHeldLemmas.{found_then}
use Rattle.rd_answered.proofs.JournalsRunLemmas.{reached_orderly}
use Rattle.rd_answered.specs.JournalsOrderly.{Orderly, current}
use Rattle.rd_pending.specs.History.{lives_before}
use Rattle.rd_rest.proofs.CompletedLemmas.{any_true, end_cases, flat_has, keeps_at}
use Rattle.rd_rest.proofs.LeftLemmas.{any_of, flat_in, found_of, key_has, left_waits, over_waits, same_tests}
use Rattle.rd_rest.proofs.OverLemmas.{reached_over}
use Rattle.rd_rest.specs.Ending.{AreTakes, EndsAtRest, IsClosed, IsTake}
use Rattle.rd_answered.proofs.RunsHostLemmas.{host_channel}
use Rattle.rd_answered.proofs.RunsInsides.{AreOwn, IsOwn, Outside, all_dropped_inside}
use Rattle.rd_answered.proofs.RunsStanding.{open_now}
use Rattle.rd_answered.proofs.RunsTogether.{known}
use Rattle.rd_answered.specs.RunsMoves.{Reached}
use Rattle.rd_answered.specs.RunsPremises.{RunPremises}
use Rattle.rd_script.specs.declared.line.NumberedLine.{NumberedLine}
use Rattle.rd_station.proofs.Members.{has_map, map_has}
use Rattle.rd_station.proofs.Remembering.{came_named}
use Rattle.rd_station.specs.Station as station
use Rattle.rd_station.specs.Station.{StationState, emptied}
use Rattle.rd_station.specs.Tied.{as_parked}
use Rattle.rd_told.proofs.PrintedLemmas.{device_left, keyed}
use Rattle.rd_declared.proofs.DeclaringLemmas.{declared_openable}
use Rattle.rd_world.specs.Acts.{act_by, before_end, control_by, is_settled_host, is_telling, left_open, some_wait, waiting_in, waiting_keys}
use Rattle.rd_world.specs.Control.{Act, Control, ended}
use Rattle.rd_declared.specs.Devices.{Declared, device_cut, device_parked, device_step}
use Rattle.rd_world.specs.Events.{cutting, dropping, is_channel_open}
use Rattle.rd_deeds.specs.HostDeeds.{calls_of}
use Rattle.rd_world.specs.Lines.{submitted}
use Rattle.rd_declared.specs.Declaring.{bare_lines, declared_devices}
use Rattle.rd_declared.specs.Replies.{no_request}
use Rattle.rd_world.specs.Recording.{client_id, host_stand, request_of}
use Rattle.rd_world.specs.Run.{choices, some_left}
use Rattle.rd_world.specs.Session.{IsStill}
use Rattle.rd_deeds.specs.Talk as deed
use Rattle.rd_deeds.specs.Talk.{Deed, Has, answered, asked, client_read, client_wrote, host_moves, host_read, host_wrote, indices_of, is_request, journal, open_channel, request_at}
use Rattle.rd_world.specs.World.{WorldState, station_at, with_station}
use Rattle.rd_declared.specs.declared.device.SessionDevice.{SessionDevice}

abbrev Of : Type 0
Of = StationState SessionDevice

-- ---- deeds that are no message

abbrev IsSilent : Deed → Type 0
IsSilent (deed.stores d item) = Unit {0}
IsSilent (deed.removes d) = Unit {0}
IsSilent (deed.adds d) = Unit {0}
IsSilent (deed.host_ends c) = Unit {0}
IsSilent (deed.takes n) = Unit {0}
IsSilent y = ⊥

abbrev AreSilent : List Deed → Type 0
AreSilent [] = Unit {0}
AreSilent (y ∷ deeds) = IsSilent y × AreSilent deeds

silent_more : (more older : List Deed) → AreSilent more → AreSilent older → AreSilent (more ++ older)
silent_more [] older all others = others
silent_more (y ∷ more) older all others = (all.0, silent_more more older all.1 others)

silent_own : (deeds : List Deed) → AreOwn deeds → AreSilent deeds
silent_own [] all = tt
silent_own (y ∷ deeds) all = (one y all.0, silent_own deeds all.1)
  where
    one : (y : Deed) → IsOwn y → IsSilent y
    one (deed.stores d item) own = tt
    one (deed.removes d) own = tt
    one (deed.adds d) own = tt
    one y own = absurd own

silent_takes : (deeds : List Deed) → AreTakes deeds → AreSilent deeds
silent_takes [] all = tt
silent_takes (y ∷ deeds) all = (one y all.0, silent_takes deeds all.1)
  where
    one : (y : Deed) → IsTake y → IsSilent y
    one (deed.takes n) own = tt
    one y own = absurd own

module _ {A : Type 0} (f : List Deed → A) (one : (y : Deed) (deeds : List Deed) → IsSilent y → f (y ∷ deeds) ≡ f deeds) where
  silent_same : (more deeds : List Deed) → AreSilent more → f (more ++ deeds) ≡ f deeds
  silent_same [] deeds all = refl
  silent_same (y ∷ more) deeds all = one y (more ++ deeds) all.0 ∙ silent_same more deeds all.1

module _ (more deeds : List Deed) (all : AreSilent more) where
  same_host_wrote : (c : ℕ) → host_wrote c (more ++ deeds) ≡ host_wrote c deeds
  same_host_wrote c = silent_same (host_wrote c) one more deeds all
    where
      one : (y : Deed) (ds : List Deed) → IsSilent y → host_wrote c (y ∷ ds) ≡ host_wrote c ds
      one (deed.stores d item) ds is = refl
      one (deed.removes d) ds is = refl
      one (deed.adds d) ds is = refl
      one (deed.host_ends k) ds is = refl
      one (deed.takes n) ds is = refl
      one y ds is = absurd is

  same_host_read : (c : ℕ) → host_read c (more ++ deeds) ≡ host_read c deeds
  same_host_read c = silent_same (host_read c) one more deeds all
    where
      one : (y : Deed) (ds : List Deed) → IsSilent y → host_read c (y ∷ ds) ≡ host_read c ds
      one (deed.stores d item) ds is = refl
      one (deed.removes d) ds is = refl
      one (deed.adds d) ds is = refl
      one (deed.host_ends k) ds is = refl
      one (deed.takes n) ds is = refl
      one y ds is = absurd is

  same_client_read : (c : ℕ) → client_read c (more ++ deeds) ≡ client_read c deeds
  same_client_read c = silent_same (client_read c) one more deeds all
    where
      one : (y : Deed) (ds : List Deed) → IsSilent y → client_read c (y ∷ ds) ≡ client_read c ds
      one (deed.stores d item) ds is = refl
      one (deed.removes d) ds is = refl
      one (deed.adds d) ds is = refl
      one (deed.host_ends k) ds is = refl
      one (deed.takes n) ds is = refl
      one y ds is = absurd is

  same_client_wrote : (c : ℕ) → client_wrote c (more ++ deeds) ≡ client_wrote c deeds
  same_client_wrote c = silent_same (client_wrote c) one more deeds all
    where
      one : (y : Deed) (ds : List Deed) → IsSilent y → client_wrote c (y ∷ ds) ≡ client_wrote c ds
      one (deed.stores d item) ds is = refl
      one (deed.removes d) ds is = refl
      one (deed.adds d) ds is = refl
      one (deed.host_ends k) ds is = refl
      one (deed.takes n) ds is = refl
      one y ds is = absurd is

  same_host_moves : (c : ℕ) → host_moves c (more ++ deeds) ≡ host_moves c deeds
  same_host_moves c = silent_same (host_moves c) one more deeds all
    where
      one : (y : Deed) (ds : List Deed) → IsSilent y → host_moves c (y ∷ ds) ≡ host_moves c ds
      one (deed.stores d item) ds is = refl
      one (deed.removes d) ds is = refl
      one (deed.adds d) ds is = refl
      one (deed.host_ends k) ds is = refl
      one (deed.takes n) ds is = refl
      one y ds is = absurd is

  same_lives : (c : ℕ) → lives_before c (calls_of client_id (more ++ deeds)) ≡ lives_before c (calls_of client_id deeds)
  same_lives c = silent_same (λ (ds : List Deed). lives_before c (calls_of client_id ds)) one more deeds all
    where
      one : (y : Deed) (ds : List Deed) → IsSilent y → lives_before c (calls_of client_id (y ∷ ds)) ≡ lives_before c (calls_of client_id ds)
      one (deed.stores d item) ds is = refl
      one (deed.removes d) ds is = refl
      one (deed.adds d) ds is = refl
      one (deed.host_ends k) ds is = refl
      one (deed.takes n) ds is = refl
      one y ds is = absurd is

  same_submitted : (c : ℕ) → submitted c (more ++ deeds) ≡ submitted c deeds
  same_submitted c = silent_same (submitted c) one more deeds all
    where
      one : (y : Deed) (ds : List Deed) → IsSilent y → submitted c (y ∷ ds) ≡ submitted c ds
      one (deed.stores d item) ds is = refl
      one (deed.removes d) ds is = refl
      one (deed.adds d) ds is = refl
      one (deed.host_ends k) ds is = refl
      one (deed.takes n) ds is = refl
      one y ds is = absurd is

  same_answered : (c d id : ℕ) → answered c d id (more ++ deeds) ≡ answered c d id deeds
  same_answered c d id = silent_same (answered c d id) one more deeds all
    where
      one : (y : Deed) (ds : List Deed) → IsSilent y → answered c d id (y ∷ ds) ≡ answered c d id ds
      one (deed.stores q item) ds is = refl
      one (deed.removes q) ds is = refl
      one (deed.adds q) ds is = refl
      one (deed.host_ends k) ds is = refl
      one (deed.takes n) ds is = refl
      one y ds is = absurd is

  same_requests : request_of (more ++ deeds) ≡ request_of deeds
  same_requests = λ i key. unwrap_or (request_at (same_host_wrote key.channel i) key.index) no_request

  same_stand : (c : ℕ) → host_stand (more ++ deeds) c ≡ host_stand deeds c
  same_stand c = λ i. host.stand_after (host_at_first client_id (same_lives c i)) (reverse (same_host_moves c i))

-- ---- stations at a channel's end

abbrev CutAs : Of → Of → Type 0
CutAs s t = (t.journal ≡ s.journal) ⊎ (t.journal ≡ s.journal ++ Cut Dropped ∷ [])

abbrev CutBy : Of → Of → Type 0
CutBy s t = (t ≡ s) ⊎ ((t.live ≡ false) × CutAs s t)

cut_as : (s t : Of) → CutBy s t → CutAs s t
cut_as s t (inl same) = inl (ap (λ (x : Of). x.journal) same)
cut_as s t (inr (dead, cut)) = cut

dropped_by : (s t : Of) (cut : SessionDevice) → CutBy s t → CutBy s (station.drop_channel t cut)
dropped_by s t cut is = inr (by t.live refl is)
  where
    left_at : Bool → Of
    left_at b = cond b (record (emptied t) { device = cut; live = false; journal = t.journal ++ Cut Dropped ∷ [] }) (emptied t)

    by : (b : Bool) → t.live ≡ b → CutBy s t → ((left_at b).live ≡ false) × CutAs s (left_at b)
    by true live (inl same) = (refl, inr (ap (λ (x : Of). x.journal ++ Cut Dropped ∷ []) same))
    by true live (inr (dead, cut)) = absurd (cc (live, dead))
    by false live is = (live, cut_as s t is)

abbrev AreCutBy : WorldState → WorldState → Type 0
AreCutBy w x = (d : ℕ) (t : Of) → station_at x d ≡ Some t → (s : Of) × (station_at w d ≡ Some s) × CutBy s t

one_cut : (w x : WorldState) (k : ℕ) → AreCutBy w x → AreCutBy w (dropping x k)
one_cut w x k is = by (station_at x k) refl
  where
    by : (o : Option Of) → station_at x k ≡ o → AreCutBy w (option_map_or (λ (s : Of). with_station x k (station.drop_channel s (device_cut s.device).state)) o x)
    by None there = is
    by (Some u) there = λ d t at. elim (found_then x.stations k (station.drop_channel u (device_cut u.device).state) d t at) [
      | inl (here, equal) ↦
          let (s, was, cut) = is k u there in
          (s, ap (station_at w) here ∙ was, subst (CutBy s) (sym equal) (dropped_by s u (device_cut u.device).state cut))
      | inr (apart, was) ↦ is d t was
    ]

all_cut_by : (ks : List ℕ) (w x : WorldState) → AreCutBy w x → AreCutBy w (fold dropping x ks)
all_cut_by [] w x is = is
all_cut_by (k ∷ ks) w x is = all_cut_by ks w (dropping x k) (one_cut w x k is)

-- ---- after the last channel's end

module _ (lines : List NumberedLine) (starves : Key → Bool) (premises : RunPremises lines) (last w : WorldState) (reached : Reached lines starves last) (rests : choices last ≡ [])
    (is : open_channel last.deeds ≡ Some last.channels) (now : Reached lines starves w) (closed : IsClosed last w) where
  abbrev own : List (ℕ × Declared)
  own = declared_devices (bare_lines lines)

  abbrev c : ℕ
  c = last.channels

  rising : IsStrictlySortedBy nat_cmp (keys_of own)
  rising = (declared_openable lines premises.declared).rise

  record Since : Type 0 where
    more : List Deed
    all : AreSilent more
    deeds : w.deeds ≡ more ++ last.deeds

  since : Since
  since =
      let i = all_dropped_inside (map (λ (e : ℕ × Of). e.0) last.stations) last in
      let ended : Deed = deed.host_ends (fold dropping last (map (λ (e : ℕ × Of). e.0) last.stations)).channels in
      record {
        more = closed.more ++ ended ∷ i.more;
        all = silent_more closed.more (ended ∷ i.more) (silent_takes closed.more closed.all) (tt, silent_own i.more i.own);
        deeds = closed.deeds ∙ ap (λ (ds : List Deed). closed.more ++ ended ∷ ds) i.deeds ∙ sym (append_assoc closed.more (ended ∷ i.more) last.deeds);
      }

  -- what isn't changed by such deeds
  since_same : {A : Type 0} (f : List Deed → A) → f (since.more ++ last.deeds) ≡ f last.deeds → f w.deeds ≡ f last.deeds
  since_same f same = ap f since.deeds ∙ same

  -- ---- journals

  station_now : (e : ℕ × Declared) → Has e own → (s : Of) × (station_at w e.0 ≡ Some s)
  station_now e has =
      let same = keyed lines starves premises w now in
      let (s, among) = key_has w.stations e.0 (subst (Has e.0) (sym same) (has_map (λ (x : ℕ × Declared). x.0) e own has)) in
      (s, found_of w.stations (subst (λ (ks : List ℕ). IsStrictlySortedBy nat_cmp ks) (sym same) rising) (e.0, s) among)

  last_ordered : Orderly last
  last_ordered = reached_orderly lines starves last (bounded_fit lines premises.bounded) reached

  now_ordered : Orderly w
  now_ordered = reached_orderly lines starves w (bounded_fit lines premises.bounded) now

  back_again : (xs : List Item) (j : List Item) → reverse xs ≡ j → xs ≡ reverse j
  back_again xs j e = sym (reverse-reverse xs) ∙ ap reverse e

  journal_then : (d : ℕ) (t : Of) → station_at w d ≡ Some t → (s : Of) × (station_at last d ≡ Some s) × ((journal d w.deeds ≡ journal d last.deeds) ⊎ (journal d w.deeds ≡ Cut Dropped ∷ journal d last.deeds))
  journal_then d t there =
      let at : station_at (cutting last) d ≡ Some t = ap (λ (es : List (ℕ × Of)). lookup (is_at (nat_cmp d)) es) (sym closed.stations) ∙ there in
      let (s, was, cut) = all_cut_by (map (λ (e : ℕ × Of). e.0) last.stations) last last (λ q u found. (u, found, inl refl)) d t at in
      let told : journal d w.deeds ≡ reverse t.journal = back_again (journal d w.deeds) t.journal ((now_ordered.held).tied d t there) in
      let before : journal d last.deeds ≡ reverse s.journal = back_again (journal d last.deeds) s.journal ((last_ordered.held).tied d s was) in (
        s,
        was,
        elim (cut_as s t cut) [
          | inl same ↦ inl (told ∙ ap reverse same ∙ sym before)
          | inr more ↦ inr (told ∙ ap reverse more ∙ reverse-append s.journal (Cut Dropped ∷ []) ∙ ap (λ (j : List Item). Cut Dropped ∷ j) (sym before))
        ],
      )

  -- ---- what waits

  abbrev waiting_by : Declared → List Item → List Parked
  waiting_by x j = device_parked (last_state_by device_step device_cut (request_of last.deeds) x.state (reverse j))

  now_by : (d : ℕ) (x : Declared) → waiting_in w.deeds (d, x) ≡ waiting_by x (before_end (journal d w.deeds))
  now_by d x = ap (λ (requests : Key → _). device_parked (last_state_by device_step device_cut requests x.state (reverse (before_end (journal d w.deeds)))))
      (since_same request_of (same_requests since.more last.deeds since.all))

  -- a device that was cut off by a channel's end before, and by nothing else since, has nothing of the open channel
  none_over : (d : ℕ) (s : Of) → station_at last d ≡ Some s → (x : Declared) → lookup (is_at (nat_cmp d)) own ≡ Some x → (earlier : List Item) → journal d last.deeds ≡ Cut Dropped ∷ earlier
      → (p : Parked) → Has p (waiting_by x (journal d last.deeds)) → (p.key).channel ≡ c → ⊥
  none_over d s there x at earlier e p has here =
      let (y, found, same) = device_left lines starves premises last reached d s there in
      let both : Some y ≡ Some x = sym found ∙ at in
      let one : y ≡ x = cc in
      let keeps = (keeps_at lines starves premises last reached rests is d s there).1 in
      let in_device : Has p (device_parked s.device) =
      subst (λ (st : SessionDevice). Has p (device_parked st)) (sym (same ∙ ap (λ (z : Declared). last_state_by device_step device_cut (request_of last.deeds) z.state (reverse (journal d last.deeds))) one)) has in
      let (q, held, is_q) = map_has as_parked p s.parked (subst (Has p) (sym keeps.parked) in_device) in
      let closes : s.journal ≡ reverse earlier ++ Cut Dropped ∷ [] = sym ((last_ordered.held).tied d s there) ∙ ap reverse e ∙ reverse-append (Cut Dropped ∷ []) earlier in
      let low = reached_over lines starves (bounded_fit lines premises.bounded) last reached d s there (reverse earlier) closes q.key (came_named s.journal q.key (keeps.parked_run q held).1.came) in
      let open_now : current (open_channel last.deeds) last.channels ≡ last.channels = ap (λ (o : Option ℕ). current o last.channels) is in
      omega (arith, low, open_now, here, ap (λ (z : Parked). (z.key).channel) is_q)

  waits_now : (d : ℕ) (x : Declared) → lookup (is_at (nat_cmp d)) own ≡ Some x → (t : Of) → station_at w d ≡ Some t → (p : Parked) → (p.key).channel ≡ c
      → (Has p (waiting_in w.deeds (d, x)) → Has p (waiting_in last.deeds (d, x))) × (Has p (waiting_in last.deeds (d, x)) → Has p (waiting_in w.deeds (d, x)))
  waits_now d x at t there p here =
      let (s, was, journals) = journal_then d t there in
      let before : List Item = journal d last.deeds in
      elim journals [
        | inl same ↦
            let equal : waiting_in w.deeds (d, x) ≡ waiting_in last.deeds (d, x) = now_by d x ∙ ap (λ (j : List Item). waiting_by x (before_end j)) same in
            (subst (Has p) equal, subst (Has p) (sym equal))
        | inr cut ↦
            let whole : waiting_in w.deeds (d, x) ≡ waiting_by x before = now_by d x ∙ ap (λ (j : List Item). waiting_by x (before_end j)) cut in
            elim (end_cases before) [
              | inl (earlier, e) ↦ (
                (λ has. absurd (none_over d s was x at earlier e p (subst (Has p) whole has) here)),
                (λ has. absurd (over_waits lines starves premises last reached rests is d s was x at earlier e p (subst (λ (j : List Item). Has p (waiting_by x (before_end j))) e has) here)),
              )
              | inr as_is ↦
                  let equal : waiting_in w.deeds (d, x) ≡ waiting_in last.deeds (d, x) = whole ∙ ap (waiting_by x) (sym as_is) in
                  (subst (Has p) equal, subst (Has p) (sym equal))
            ]
      ]

  moved_key : (from to : List Deed) → ((e : ℕ × Declared) → Has e own → (p : Parked) → (p.key).channel ≡ c → Has p (waiting_in from e) → Has p (waiting_in to e))
      → (key : Key) → key.channel ≡ c → Has key (waiting_keys own from) → Has key (waiting_keys own to)
  moved_key from to each key here has =
      let (p, among, same) = map_has (λ (q : Parked). q.key) key (flat_map (waiting_in from) own) has in
      let (e, there, inside) = flat_in (waiting_in from) own p among in
      let on : (p.key).channel ≡ c = ap (λ (k : Key). k.channel) (sym same) ∙ here in
      subst (λ (k : Key). Has k (waiting_keys own to)) (sym same) (has_map (λ (q : Parked). q.key) p (flat_map (waiting_in to) own) (flat_has (waiting_in to) e p own there (each e there p on inside)))

  -- the same requests of the channel wait by the journals then
  pub waits_then : (key : Key) → key.channel ≡ c → Has key (waiting_keys own last.deeds) → Has key (waiting_keys own w.deeds)
  waits_then = moved_key last.deeds w.deeds (λ e has p on inside. let (t, there) = station_now e has in (waits_now e.0 e.1 (found_of own rising e has) t there p on).1 inside)

  pub waited_then : (key : Key) → key.channel ≡ c → Has key (waiting_keys own w.deeds) → Has key (waiting_keys own last.deeds)
  waited_then = moved_key w.deeds last.deeds (λ e has p on inside. let (t, there) = station_now e has in (waits_now e.0 e.1 (found_of own rising e has) t there p on).0 inside)

  pub same_wait : some_wait own w.deeds c ≡ some_wait own last.deeds c
  same_wait = same_tests (some_wait own w.deeds c) (some_wait own last.deeds c) (moved w.deeds last.deeds waited_then) (moved last.deeds w.deeds waits_then)
    where
      moved : (from to : List Deed) → ((key : Key) → key.channel ≡ c → Has key (waiting_keys own from) → Has key (waiting_keys own to)) → some_wait own from c ≡ true → some_wait own to c ≡ true
      moved from to each waits =
          let (key, among, test) = any_true (λ (k : Key). k.channel == c) (waiting_keys own from) waits in
          any_of (λ (k : Key). k.channel == c) (waiting_keys own to) key (each key (eqb-true key.channel c test) among) test

  -- what was still on the channel is so then
  pub still_then : (control : Control) → IsStill own control last.deeds c → IsStill own control w.deeds c
  still_then control s =
      let m = since.more in
      let q = since.all in
      record {
        sent = ap (filter is_request) (since_same (host_wrote c) (same_host_wrote m last.deeds q c)) ∙ s.sent ∙ sym (since_same (submitted c) (same_submitted m last.deeds q c));
        owed = ap (λ (o : Option HostStanding). option_map_or is_settled_host o false) (since_same (λ (ds : List Deed). host_stand ds c) (same_stand m last.deeds q c)) ∙ s.owed;
        tells = ap (λ (ms : List (List ℕ)). length (filter is_telling (reverse ms))) (since_same (client_wrote c) (same_client_wrote m last.deeds q c)) ∙ s.tells;
        notices = ap (λ (ms : List (List ℕ)). length (filter (λ message. is_some (deed.notice_in message)) (reverse ms))) (since_same (host_wrote c) (same_host_wrote m last.deeds q c)) ∙ s.notices;
        read = since_same (client_read c) (same_client_read m last.deeds q c) ∙ s.read ∙ sym (since_same (host_wrote c) (same_host_wrote m last.deeds q c));
        heard = since_same (host_read c) (same_host_read m last.deeds q c) ∙ s.heard ∙ sym (since_same (client_wrote c) (same_client_wrote m last.deeds q c));
        completed = λ d id index has.
            elim (s.completed d id index (subst (λ (ms : List (List ℕ)). Has index (indices_of d id ms)) (since_same (client_read c) (same_client_read m last.deeds q c)) has)) [
              | inl done ↦ inl (subst (Has index) (sym (since_same (answered c d id) (same_answered m last.deeds q c d id))) done)
              | inr waits ↦ inr (waits_then (record { channel = c; index = index }) refl waits)
            ];
      }

-- ---- the channel that was left open

module _ (lines : List NumberedLine) (starves : Key → Bool) (premises : RunPremises lines) (said : Control) (w : WorldState) (ends : EndsAtRest lines starves said w) where
  abbrev devices : List (ℕ × Declared)
  devices = declared_devices (bare_lines lines)

  abbrev last : WorldState
  last = ends.last

  open_at : is_channel_open last ≡ true → open_channel last.deeds ≡ Some last.channels
  open_at open_is = open_now last (known lines starves premises last ends.reached).stands open_is

  abbrev left_by : Bool → Option ℕ
  left_by b = if b then said.current else None

  said_open : is_channel_open last ≡ true → said.current ≡ Some last.channels
  said_open open_is = sym ends.channel ∙ host_channel (last.side) last.channels last.deeds ((known lines starves premises last ends.reached).stands).host ∙ open_at open_is

  left_at : said.current ≡ Some last.channels → left_open devices w.deeds said ≡ (if some_wait devices w.deeds last.channels then Some last.channels else None)
  left_at e = ap (option_and_then (λ channel. if some_wait devices w.deeds channel then Some channel else None)) e

  -- The channel that the lines leave open, where by the deeds a request waits on it, is the one on which the journals of the last rest left one waiting.
  pub left_is_open : left_open devices w.deeds said ≡ left_by (is_channel_open last && some_left last)
  left_is_open = elim ends.comes [
    | inl (same, none) ↦ at_rest same none (is_channel_open last) refl
    | inr (open_is, waits, now, closed) ↦
        let e : said.current ≡ Some last.channels = said_open open_is in
        let some : some_wait devices w.deeds last.channels ≡ true =
        same_wait lines starves premises last w ends.reached ends.rests (open_at open_is) now closed ∙ sym (left_waits lines starves premises last ends.reached ends.rests (open_at open_is)) ∙ waits in
        left_at e ∙ ap (λ (b : Bool). if b then Some last.channels else None) some ∙ sym e
        ∙ sym (ap (λ (b : Bool). left_by (b && some_left last)) open_is ∙ ap left_by waits)
  ]
    where
      at_rest : w ≡ last → (is_channel_open last && some_left last) ≡ false → (b : Bool) → is_channel_open last ≡ b → left_open devices w.deeds said ≡ left_by (is_channel_open last && some_left last)
      at_rest same none true open_is =
          let e : said.current ≡ Some last.channels = said_open open_is in
          let off : some_left last ≡ false = sym (ap (λ (b : Bool). b && some_left last) open_is) ∙ none in
          let waits : some_wait devices w.deeds last.channels ≡ false =
          ap (λ (x : WorldState). some_wait devices x.deeds last.channels) same ∙ sym (left_waits lines starves premises last ends.reached ends.rests (open_at open_is)) ∙ off in
          left_at e ∙ ap (λ (b : Bool). if b then Some last.channels else None) waits ∙ sym (ap left_by none)
      at_rest same none false shut =
          let e : said.current ≡ None = sym ends.channel ∙ is_shut ((last.side).table).channel shut in
          ap (option_and_then (λ channel. if some_wait devices w.deeds channel then Some channel else None)) e ∙ sym (ap left_by none)
        where
          is_shut : (o : Option ℕ) → is_some o ≡ false → o ≡ None
          is_shut None e = refl
          is_shut (Some k) e = absurd (cc e)

  -- what was still at the last rest on that channel is so at the end
  pub at_end : (open_channel last.deeds ≡ Some last.channels → IsStill devices said last.deeds last.channels) → IfSome (left_open devices w.deeds said) (IsStill devices said w.deeds)
  at_end still = elim ends.comes [
    | inl (same, none) ↦ subst (λ (o : Option ℕ). IfSome o (IsStill devices said w.deeds)) (sym (left_is_open ∙ ap left_by none)) tt
    | inr (open_is, waits, now, closed) ↦
        subst (λ (o : Option ℕ). IfSome o (IsStill devices said w.deeds)) (sym (left_is_open ∙ ap (λ (b : Bool). left_by (b && some_left last)) open_is ∙ ap left_by waits ∙ said_open open_is))
        (still_then lines starves premises last w ends.reached ends.rests (open_at open_is) now closed said (still (open_at open_is)))
  ]

-- ---- what control lines did by then

acts_stored : (d : ℕ) (items : List Item) (deeds : List Deed) → filter_map act_by (map (deed.stores d) items ++ deeds) ≡ filter_map act_by deeds
acts_stored d [] deeds = refl
acts_stored d (x ∷ items) deeds = acts_stored d items deeds

acts_dropped : (ks : List ℕ) (x : WorldState) → filter_map act_by (fold dropping x ks).deeds ≡ filter_map act_by x.deeds
acts_dropped [] x = refl
acts_dropped (k ∷ ks) x = acts_dropped ks (dropping x k) ∙ by (station_at x k)
  where
    by : (o : Option Of) → filter_map act_by (option_map_or (λ (s : Of). with_station x k (station.drop_channel s (device_cut s.device).state)) o x).deeds ≡ filter_map act_by x.deeds
    by None = refl
    by (Some s) =
        let new : Of = station.drop_channel s (device_cut s.device).state in
        acts_stored k (reverse (drop (option_map_or (λ (old : Of). length old.journal) (station_at x k) 0) new.journal)) x.deeds

acts_taken : (more deeds : List Deed) → AreTakes more → filter_map act_by (more ++ deeds) ≡ filter_map act_by deeds
acts_taken [] deeds all = refl
acts_taken (y ∷ more) deeds all = one y all.0 (filter_map act_by (more ++ deeds)) refl ∙ acts_taken more deeds all.1
  where
    one : (y : Deed) → IsTake y → (acts : List Act) → filter_map act_by (more ++ deeds) ≡ acts → cons_option (act_by y) (filter_map act_by (more ++ deeds)) ≡ filter_map act_by (more ++ deeds)
    one (deed.takes n) is acts e = refl
    one y is acts e = absurd is

acts_closed : (last w : WorldState) → IsClosed last w → filter_map act_by w.deeds ≡ ended last.channels ∷ filter_map act_by last.deeds
acts_closed last w closed =
    let ids : List ℕ = map (λ (e : ℕ × Of). e.0) last.stations in
    ap (filter_map act_by) closed.deeds ∙ acts_taken closed.more (cutting last).deeds closed.all
    ∙ (λ i. ended (ap (λ (o : Outside). o.channels) (all_dropped_inside ids last).same i) ∷ acts_dropped ids last i)

not_longer : {A : Type 0} (xs : List A) (x : A) → xs ++ x ∷ [] ≡ xs → ⊥
not_longer xs x e = let size : length (xs ++ x ∷ []) ≡ length xs = ap (λ ys. length ys) e in omega (arith, size, length-append xs (x ∷ []))

same_last : {A : Type 0} (xs : List A) (x y : A) → xs ++ x ∷ [] ≡ xs ++ y ∷ [] → x ≡ y
same_last [] x y e = cc e
same_last (z ∷ xs) x y e = let rest : xs ++ x ∷ [] ≡ xs ++ y ∷ [] = cc e in same_last xs x y rest

-- The channel that ended after everything is the one that the lines leave open, where a request waits on it.
pub left_is_said : (lines : List NumberedLine) (starves : Key → Bool) (premises : RunPremises lines) (w : WorldState) → EndsAtRest lines starves (control_by (declared_devices (bare_lines lines)) lines) w
    → (does : DoAsSaid (map (λ (d : ℕ × Declared). d.0) (declared_devices (bare_lines lines))) lines starves w) → left_open (declared_devices (bare_lines lines)) w.deeds (control_by (declared_devices (bare_lines lines)) lines) ≡ does.left
left_is_said lines starves premises w ends does = elim ends.comes [
  | inl (same, none) ↦
      let acts : said.acts ≡ (control_with does.left said).acts = sym (ap (λ (x : WorldState). filter_map act_by (reverse x.deeds)) same ∙ ends.acts) ∙ does.acts in
      left_is_open lines starves premises said w ends ∙ ap (λ (b : Bool). if b then said.current else None) none ∙ still does.left acts
  | inr (open_is, waits, now, closed) ↦
      let acts : said.acts ++ ended last.channels ∷ [] ≡ (control_with does.left said).acts =
      sym (picked_reverse act_by w.deeds ∙ ap reverse (acts_closed last w closed) ∙ reverse-append (ended last.channels ∷ []) (filter_map act_by last.deeds)
      ∙ ap (λ (xs : List Act). xs ++ ended last.channels ∷ []) (sym (picked_reverse act_by last.deeds) ∙ ends.acts)) ∙ does.acts in
      left_is_open lines starves premises said w ends ∙ ap (λ (b : Bool). if b && some_left last then said.current else None) open_is ∙ ap (λ (b : Bool). if b then said.current else None) waits
      ∙ said_open lines starves premises said w ends open_is ∙ over does.left acts
]
  where
    said : Control
    said = control_by (declared_devices (bare_lines lines)) lines

    last : WorldState
    last = ends.last

    still : (o : Option ℕ) → said.acts ≡ (control_with o said).acts → None ≡ o
    still None acts = refl
    still (Some k) acts = absurd (not_longer said.acts (ended k) (sym acts))

    over : (o : Option ℕ) → said.acts ++ ended last.channels ∷ [] ≡ (control_with o said).acts → Some last.channels ≡ o
    over None acts = absurd (not_longer said.acts (ended last.channels) acts)
    over (Some k) acts = let same : ended last.channels ≡ ended k = same_last said.acts (ended last.channels) (ended k) acts in cc same
