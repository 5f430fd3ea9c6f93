-- What always holds of a station, said of the parts that its code keeps: the device, the two flags, the queues, and the journal with its places.
use Rattle.std.proofs.Common.{◌≡◌, ◌∙◌, refl, sym, ap, ap₂, subst, ℕ, ◌<◌, ◌≤◌, ◌+◌, ◌-◌, ◌==◌, Bool, true, false, cond, not, List, [], ◌∷◌, ◌++◌, length, map, arith, append_assoc}
use Rattle.std.specs.Prelude.{IsTrue, ◌↔◌, None, Option, Some, find, max, nat_le, nat_lt}
use Rattle.std.specs.List.{flat_map}
use Rattle.std.specs.Map.{lookup}
use Rattle.std.specs.Option.{option_map, option_map_or}
use Rattle.std.specs.Ordering.{nat_cmp}
use Rattle.std.specs.BTreeMap.{is_at}
use Rattle.rd_base.specs.declared.journal.Key.{Key}
use Rattle.rd_base.specs.declared.journal.Cause.TheVariants.{Removed}
use Rattle.rd_base.specs.declared.journal.Item.{Item}
use Rattle.rd_base.specs.declared.journal.Item.TheVariants.{Came, Cancelled, Cut, Sent}
use Rattle.rd_drive.specs.declared.plan.Job.{Job}
use Rattle.rd_drive.specs.declared.step.End.{End}
use Rattle.rd_drive.specs.declared.step.Step.{Step}
use Rattle.rd_irp.specs.Fits.{kind_of}
use Rattle.rd_drive.specs.Device.{Parked, is_parked}
use Rattle.rd_drive.specs.Planned.{Planned}
use Rattle.rd_drive.specs.Promise.{CutsOff}
use Rattle.rd_drive.specs.Replies.{cancellation}
use Rattle.rd_drive.specs.Stepped.{Stepped}
use Rattle.rd_station.specs.declared.answers.Applied.{Applied}
use Rattle.rd_station.specs.declared.held.InHand.{InHand}
use Rattle.rd_station.specs.declared.held.ParkedJob.{ParkedJob}
use Rattle.rd_station.specs.declared.answers.Completion.{Completion}
use Rattle.rd_station.specs.declared.refusals.PutWhy.{PutWhy}
use Rattle.rd_station.specs.declared.refusals.PutWhy.TheVariants as why
use Rattle.rd_station.specs.declared.memory.Memory.{Memory}
use Rattle.rd_station.specs.Memory.{after_come, after_drop, may_come}
use Rattle.rd_station.specs.Queues.{AreKeys, Queues, in_hand, job_count, settled_jobs}
use Rattle.rd_station.specs.Station.{MayPut, StationState, StationStep, applies, cancelled_parked, cancelled_waiting, completion_of, drop_channel, ended_completion, entry_count, held, is_key, marked_removed, max_entries, max_held, own_completion, parked_after, put_refusal, ran as ran_of, remove, removes, reserved, without_taken}
use Rattle.rd_station.specs.Sound.{IsSound, RunsJob, SettlesAll, station_with}
use Rattle.rd_station.specs.Tied.{IsKept}
use Rattle.rd_station.proofs.Calls.{reached_kept}
use Rattle.rd_station.proofs.Holding.{size_held}
use Rattle.rd_station.proofs.Members.{find_has}
use Rattle.rd_station.proofs.Remembering.{may_then, then_may}
use Rattle.rd_station.proofs.Settling.{AreSettled}
use Rattle.rd_station.proofs.Keys.{key_found}
use Rattle.rd_station.proofs.Soundness.{few_left, ran_then, removed_then, settles, sound_announce, sound_cancel, sound_collect, sound_drop, sound_end, sound_put, sound_remove, sound_run, sound_take}

-- tests of numbers, by what holds
le-leb : {m n : ℕ} → m ≤ n → nat_le m n ≡ true
le-leb less = grind (arith, less)

lt-leb : {m n : ℕ} → n < m → nat_le m n ≡ false
lt-leb less = grind (arith, less)

lt-ltb : {m n : ℕ} → m < n → nat_lt m n ≡ true
lt-ltb less = grind (arith, less)

le-ltb : {m n : ℕ} → n ≤ m → nat_lt m n ≡ false
le-ltb less = grind (arith, less)

module _ {S : Type 0} (Runs : S → Planned → ℕ → Step → List End → S → Type 0) (parked_in : S → List Parked) (Cuts : S → S → Type 0)
    (device : S) (live ended : Bool) (q : Queues) (journal : List Item) (spare : ℕ) (memory : Memory) (sound : IsSound Runs parked_in Cuts (station_with device live ended q journal) q.keys spare memory) where
  -- what always holds of it
  pub kept_parts : IsKept parked_in (station_with device live ended q journal)
  kept_parts = reached_kept Runs parked_in Cuts (station_with device live ended q journal) sound.reached

  -- it is announced
  pub announced_parts : (journal_then : List Item) (spare_then : ℕ) → live ≡ false → (n : ℕ) → n ≡ entry_count (station_with device live ended q journal) → n < 16777216 → journal_then ≡ journal
      → spare_then ≡ max spare (reserved (station_with device live ended q journal) + 1) → IsSound Runs parked_in Cuts (station_with device true ended q journal_then) q.keys spare_then memory
  announced_parts journal_then spare_then dead n counted low same room =
      let less : nat_le max_entries (entry_count (station_with device live ended q journal)) ≡ false = lt-leb (subst (λ (m : ℕ). m < 16777216) counted low) in
      subst (λ (j : List Item). IsSound Runs parked_in Cuts (station_with device true ended q j) q.keys spare_then memory) (sym same)
      (sound_announce Runs parked_in Cuts (station_with device live ended q journal) q.keys spare memory sound spare_then dead less (omega (arith, room)))

  -- a job comes
  pub put_parts : (job : Job) (q_then : Queues) (journal_then : List Item) (spare_between spare_then : ℕ) → MayPut (station_with device live ended q journal) job.key → put_refusal (station_with device live ended q journal) job ≡ None
      → q_then ≡ record q { waiting = q.waiting ++ job ∷ []; keys = q_then.keys }
      → ((id : ℕ) → lookup (is_at (nat_cmp id)) q_then.keys ≡ cond (is_at (nat_cmp job.completion) id) (Some job.key) (lookup (is_at (nat_cmp id)) q.keys))
      → journal_then ≡ journal ++ Came job.key ∷ [] → spare_between ≡ max spare (reserved (station_with device live ended q journal) + 3) → spare_then ≡ spare_between - 1
      → (memory_then : Memory) → memory_then ≡ after_come memory job.key → IsSound Runs parked_in Cuts (station_with device live ended q_then journal_then) q_then.keys spare_then memory_then
  put_parts job q_then journal_then spare_between spare_then may free same goes came room one memory_then comes =
      subst (λ (m : Memory). IsSound Runs parked_in Cuts (station_with device live ended q_then journal_then) q_then.keys spare_then m) (sym comes) (
      subst (λ (j : List Item). IsSound Runs parked_in Cuts (station_with device live ended q_then j) q_then.keys spare_then (after_come memory job.key)) (sym came)
      (subst (λ (x : Queues). IsSound Runs parked_in Cuts (station_with device live ended x (journal ++ Came job.key ∷ [])) q_then.keys spare_then (after_come memory job.key)) (sym same)
      (sound_put Runs parked_in Cuts (station_with device live ended q journal) q.keys spare memory sound job q_then.keys spare_then may free goes (omega (arith, room, one)))))

  -- a job is taken
  pub take_parts : (job : Job) (q_then : Queues) → ended ≡ false → q.waiting ≡ job ∷ q_then.waiting → q_then ≡ record q { waiting = q_then.waiting; taken = q.taken ++ in_hand job ∷ [] }
      → IsSound Runs parked_in Cuts (station_with device live ended q_then journal) q_then.keys spare memory
  take_parts job q_then going first same =
      let keys = ap (λ (x : Queues). x.keys) same in
      subst (λ (ks : List (ℕ × Key)). IsSound Runs parked_in Cuts (station_with device live ended q_then journal) ks spare memory) (sym keys)
      (subst (λ (x : Queues). IsSound Runs parked_in Cuts (station_with device live ended x journal) q.keys spare memory) (sym same)
      (sound_take Runs parked_in Cuts (station_with device live ended q journal) q.keys spare memory sound job q_then.waiting going first))

  -- a completion is collected
  pub collect_parts : (x : Completion) (q_then : Queues) (journal_then : List Item) (spare_then : ℕ) → q.ready ≡ x ∷ q_then.ready → q_then ≡ record q { ready = q_then.ready; keys = q_then.keys }
      → ((id : ℕ) → lookup (is_at (nat_cmp id)) q_then.keys ≡ cond (is_at (nat_cmp x.completion) id) None (lookup (is_at (nat_cmp id)) q.keys))
      → journal_then ≡ journal ++ Sent x.key ∷ [] → spare_then ≡ spare - 1 → IsSound Runs parked_in Cuts (station_with device live ended q_then journal_then) q_then.keys spare_then memory
  collect_parts x q_then journal_then spare_then first same goes sent one =
      subst (λ (j : List Item). IsSound Runs parked_in Cuts (station_with device live ended q_then j) q_then.keys spare_then memory) (sym sent)
      (subst (λ (y : Queues). IsSound Runs parked_in Cuts (station_with device live ended y (journal ++ Sent x.key ∷ [])) q_then.keys spare_then memory) (sym same)
      (sound_collect Runs parked_in Cuts (station_with device live ended q journal) q.keys spare memory sound x q_then.ready q_then.keys spare_then first goes (omega (arith, one))))

  -- ---- a job comes back

  abbrev before : StationState S
  before = station_with device live ended q journal

  -- the other jobs
  module _ (planned : Planned) (moment : ℕ) (t : InHand) (found : find (λ (u : InHand). is_key u.key planned.job.key) q.taken ≡ Some t) (between : Queues) (back : between ≡ record q { taken = without_taken t.key q.taken }) where
    -- there is room for its completion
    pub back_few : job_count between < 128
    back_few = subst (λ (x : Queues). job_count x < 128) (sym back)
        (few_left Runs parked_in Cuts before q.keys spare memory sound t (find_has (λ (u : InHand). is_key u.key planned.job.key) t q.taken found).0)

    -- each request that ends by its run waits
    pub back_settles : SettlesAll Runs parked_in device between planned moment
    back_settles answer ended new promise = subst (λ (x : Queues). (settled_jobs x.parked ended).2 ≡ []) (sym back) (settles Runs parked_in Cuts before q.keys spare memory sound planned moment answer ended new promise).all

    pub cancel_parts : (q_then : Queues) (journal_then : List Item) (spare_then : ℕ) → t.removed ≡ true
        → q_then ≡ record between { ready = between.ready ++ completion_of t.key t.completion (kind_of planned.job.op) cancellation ∷ [] } → journal_then ≡ journal ++ Cancelled t.key ∷ [] → spare_then ≡ spare - 1
        → IsSound Runs parked_in Cuts (station_with device live ended q_then journal_then) q_then.keys spare_then memory
    cancel_parts q_then journal_then spare_then over ready entry one =
        let all = ready ∙ ap (λ (x : Queues). record x { ready = x.ready ++ completion_of t.key t.completion (kind_of planned.job.op) cancellation ∷ [] }) back in
        subst (λ (ks : List (ℕ × Key)). IsSound Runs parked_in Cuts (station_with device live ended q_then journal_then) ks spare_then memory) (sym (ap (λ (x : Queues). x.keys) all))
        (subst (λ (j : List Item). IsSound Runs parked_in Cuts (station_with device live ended q_then j) q.keys spare_then memory) (sym entry)
        (subst (λ (x : Queues). IsSound Runs parked_in Cuts (station_with device live ended x (journal ++ Cancelled t.key ∷ [])) q.keys spare_then memory) (sym all)
        (sound_cancel Runs parked_in Cuts before q.keys spare memory sound planned moment t found spare_then over (omega (arith, one)))))

    module _ (fresh : t.removed ≡ false) (answer : Applied) (device_then : S) (q_then : Queues) (journal_then : List Item) (ran : RunsJob Runs parked_in device between journal t planned moment answer device_then q_then journal_then) where
      abbrev came : Stepped S
      came = record { state = device_then; answer = ran.answer; ends = ran.ends }

      -- the queues then
      ran_queues : q_then ≡ record q {
        taken = without_taken t.key q.taken;
        parked = parked_after q.parked t (kind_of planned.job.op) ran.answer ran.ends;
        ready = q.ready ++ own_completion t (kind_of planned.job.op) ran.answer ++ flat_map (ended_completion q.parked) ran.ends;
      }
      ran_queues = ran.held
          ∙ ap (λ (x : Queues). record x {
            parked = (settled_jobs x.parked ran.ends).1 ++ waits;
            ready = x.ready ++ own_completion t (kind_of planned.job.op) ran.answer ++ (settled_jobs x.parked ran.ends).0;
          }) back
          ∙ ap₂ (λ (ps : List ParkedJob) (cs : List Completion). record q {
            taken = without_taken t.key q.taken;
            parked = ps ++ waits;
            ready = q.ready ++ own_completion t (kind_of planned.job.op) ran.answer ++ cs;
          }) ends_are.left ends_are.ready
        where
          waits : List ParkedJob
          waits = cond (is_parked ran.answer) (record { key = t.key; completion = t.completion; kind = kind_of planned.job.op } ∷ []) []

          ends_are : AreSettled q.parked ran.ends
          ends_are = settles Runs parked_in Cuts before q.keys spare memory sound planned moment ran.answer ran.ends device_then ran.promise

      ran_state : ran_of before t (kind_of planned.job.op) moment came ≡ station_with device_then live ended q_then journal_then
      ran_state = sym (ap₂ (λ (x : Queues) (j : List Item). station_with device_then live ended x j) ran_queues ran.entry)

      pub run_parts : (spare_then : ℕ) → spare_then ≡ spare - 1 → IsSound Runs parked_in Cuts (station_with device_then live ended q_then journal_then) q_then.keys spare_then memory
      run_parts spare_then one =
          subst (λ (ks : List (ℕ × Key)). IsSound Runs parked_in Cuts (station_with device_then live ended q_then journal_then) ks spare_then memory) (sym (ap (λ (x : Queues). x.keys) ran_queues))
          (subst (λ (s : StationState S). IsSound Runs parked_in Cuts s q.keys spare_then memory) ran_state
          (sound_run Runs parked_in Cuts before q.keys spare memory sound planned moment t found fresh came ran.promise spare_then (omega (arith, one))))

      pub run_step : (old : StationState S) → before ≡ old → StationStep Runs parked_in Cuts old (applies planned moment answer) (station_with device_then live ended q_then journal_then)
      run_step old same = subst (λ (s : StationState S). StationStep Runs parked_in Cuts s (applies planned moment answer) (station_with device_then live ended q_then journal_then)) same (
        came,
        ran_then Runs parked_in Cuts before q.keys spare memory sound planned moment t found fresh came ran.promise ∙ ap₂ (λ (s : StationState S) (a : Applied). (s, a)) ran_state (sym ran.is),
        λ did. ran.promise,
      )

  -- ---- the device is cut off

  module _ (device_then : S) (first second third : Queues) (journal_between journal_then : List Item) (is_live : live ≡ true) (off : CutsOff Cuts parked_in device device_then)
      (marked : first ≡ record q { taken = map marked_removed q.taken }) (parked : second ≡ record first { parked = []; ready = first.ready ++ map cancelled_parked first.parked })
      (waiting : third ≡ record second { waiting = []; ready = second.ready ++ map cancelled_waiting second.waiting })
      (cut : journal_between ≡ journal ++ Cut Removed ∷ []) (cancels : journal_then ≡ journal_between ++ map (λ (job : Job). Cancelled job.key) second.waiting) where
    removed_second : second ≡ record q { taken = map marked_removed q.taken; parked = []; ready = q.ready ++ map cancelled_parked q.parked }
    removed_second = parked ∙ ap (λ (x : Queues). record x { parked = []; ready = x.ready ++ map cancelled_parked x.parked }) marked

    removed_third : third ≡ record q { waiting = []; taken = map marked_removed q.taken; parked = []; ready = q.ready ++ map cancelled_parked q.parked ++ map cancelled_waiting q.waiting }
    removed_third = waiting ∙ ap (λ (x : Queues). record x { waiting = []; ready = x.ready ++ map cancelled_waiting x.waiting }) removed_second

    removed_journal : journal_then ≡ journal ++ Cut Removed ∷ map (λ (job : Job). Cancelled job.key) q.waiting
    removed_journal = cancels
        ∙ ap₂ (λ (j : List Item) (x : Queues). j ++ map (λ (job : Job). Cancelled job.key) x.waiting) cut removed_second
        ∙ append_assoc journal (Cut Removed ∷ []) (map (λ (job : Job). Cancelled job.key) q.waiting)

    removed_state : (remove before device_then).0 ≡ station_with device_then false ended third journal_then
    removed_state = ap (λ (r : StationState S × Bool). r.0) (removed_then Runs parked_in Cuts before q.keys spare memory sound device_then is_live)
        ∙ sym (ap₂ (λ (x : Queues) (j : List Item). station_with device_then false ended x j) removed_third removed_journal)

    pub remove_step : (old : StationState S) → before ≡ old → StationStep Runs parked_in Cuts old (removes true) (station_with device_then false ended third journal_then)
    remove_step old same = subst (λ (s : StationState S). StationStep Runs parked_in Cuts s (removes true) (station_with device_then false ended third journal_then)) same (
      device_then,
      removed_then Runs parked_in Cuts before q.keys spare memory sound device_then is_live
          ∙ ap (λ (s : StationState S). (s, true)) (sym (ap₂ (λ (x : Queues) (j : List Item). station_with device_then false ended x j) removed_third removed_journal)),
      λ e. off,
    )

    pub remove_parts : (spare_between spare_then : ℕ) → spare_between ≡ spare - 1 → spare_then + length second.waiting ≡ spare_between → IsSound Runs parked_in Cuts (station_with device_then false ended third journal_then) third.keys spare_then memory
    remove_parts spare_between spare_then one others =
        let waited = ap (λ (x : Queues). length x.waiting) removed_second in
        subst (λ (ks : List (ℕ × Key)). IsSound Runs parked_in Cuts (station_with device_then false ended third journal_then) ks spare_then memory) (sym (ap (λ (x : Queues). x.keys) removed_third))
        (subst (λ (s : StationState S). IsSound Runs parked_in Cuts s q.keys spare_then memory)
        (sym (ap₂ (λ (x : Queues) (j : List Item). station_with device_then false ended x j) removed_third removed_journal))
        (sound_remove Runs parked_in Cuts before q.keys spare memory sound device_then spare_then is_live off (omega (arith, one, others, waited))))

  module _ (device_then : S) (live_then : Bool) (q_then : Queues) (journal_then : List Item) (cut : live ≡ true → CutsOff Cuts parked_in device device_then) (keys : q_then.keys ≡ [])
      (dropped : drop_channel (station_with device live ended q journal) device_then ≡ station_with device_then live_then ended q_then journal_then) where
    pub drop_parts : (spare_then count : ℕ) (memory_then : Memory) → count ≡ job_count q → memory_then ≡ after_drop memory count → IsSound Runs parked_in Cuts (station_with device_then live_then ended q_then journal_then) q_then.keys spare_then memory_then
    drop_parts spare_then count memory_then counted forgets = subst (λ (m : Memory). IsSound Runs parked_in Cuts (station_with device_then live_then ended q_then journal_then) q_then.keys spare_then m) (sym forgets) (subst (λ (ks : List (ℕ × Key)). IsSound Runs parked_in Cuts (station_with device_then live_then ended q_then journal_then) ks spare_then (after_drop memory count)) (sym keys)
        (sound_drop Runs parked_in Cuts before q.keys spare memory sound device_then cut (station_with device_then live_then ended q_then journal_then) spare_then count (counted ∙ sym (size_held before)) dropped))

    pub end_parts : (spare_then count : ℕ) (memory_then : Memory) → count ≡ job_count q → memory_then ≡ after_drop memory count → IsSound Runs parked_in Cuts (station_with device_then live_then true q_then journal_then) q_then.keys spare_then memory_then
    end_parts spare_then count memory_then counted forgets = subst (λ (m : Memory). IsSound Runs parked_in Cuts (station_with device_then live_then true q_then journal_then) q_then.keys spare_then m) (sym forgets) (subst (λ (ks : List (ℕ × Key)). IsSound Runs parked_in Cuts (station_with device_then live_then true q_then journal_then) ks spare_then (after_drop memory count)) (sym keys)
        (sound_end Runs parked_in Cuts before q.keys spare memory sound device_then cut (station_with device_then live_then true q_then journal_then) spare_then count (counted ∙ sym (size_held before)) (ap (λ (s : StationState S). record s { ended = true }) dropped)))

  -- whether a job may come
  pub may_parts : (held_now : ℕ) (key : Key) (answer : Bool) → held_now ≡ job_count q → answer ≡ may_come memory held_now key → (old : StationState S) → station_with device live ended q journal ≡ old → IsTrue answer ↔ MayPut old key
  may_parts held_now key answer counted is old same = subst (λ (s : StationState S). IsTrue answer ↔ MayPut s key) same (
    (λ t. may_then before memory sound.remembers key held_now (counted ∙ sym (size_held before)) (sym is ∙ t)),
    (λ may. is ∙ then_may before memory sound.remembers key held_now (counted ∙ sym (size_held before)) may),
  )

-- ---- why a job can't come

module _ {S : Type 0} (s : StationState S) (keys : List (ℕ × Key)) (found : AreKeys keys (held s)) (job : Job) (live : s.live ≡ true) where
  -- by the key that is found by its completion id
  by_key : (key : Option Key) → lookup (is_at (nat_cmp job.completion)) keys ≡ key
      → put_refusal s job ≡ option_map_or (λ (k : Key). Some (why.Duplicate k)) key (cond (nat_le max_held (length (held s))) (Some (why.Full (length (held s)))) (cond (nat_lt (max_entries - 3) (entry_count s)) (Some (why.Worn (entry_count s))) None))
  by_key key is =
      ap (λ b. cond (not b) (Some why.Gone) (option_map_or (λ (x : Key × ℕ). Some (why.Duplicate x.0)) (find (λ (x : Key × ℕ). x.1 == job.completion) (held s)) other)) live
      ∙ same (find (λ (x : Key × ℕ). x.1 == job.completion) (held s)) other
      ∙ ap (λ (k : Option Key). option_map_or (λ (l : Key). Some (why.Duplicate l)) k other) (key_found s keys found job.completion ∙ is)
    where
      other : Option PutWhy
      other = cond (nat_le max_held (length (held s))) (Some (why.Full (length (held s)))) (cond (nat_lt (max_entries - 3) (entry_count s)) (Some (why.Worn (entry_count s))) None)

      same : (x : Option (Key × ℕ)) (o : Option PutWhy) → option_map_or (λ (y : Key × ℕ). Some (why.Duplicate y.0)) x o ≡ option_map_or (λ (l : Key). Some (why.Duplicate l)) (option_map (λ (y : Key × ℕ). y.0) x) o
      same None o = refl
      same (Some x) o = refl

  pub refused_duplicate : (key : Key) → lookup (is_at (nat_cmp job.completion)) keys ≡ Some key → put_refusal s job ≡ Some (why.Duplicate key)
  refused_duplicate key is = by_key (Some key) is

  module _ (free : lookup (is_at (nat_cmp job.completion)) keys ≡ None) where
    pub refused_full : (n : ℕ) → n ≡ length (held s) → 128 ≤ n → put_refusal s job ≡ Some (why.Full n)
    refused_full n same many = by_key None free
        ∙ subst (λ (m : ℕ). cond (nat_le max_held m) (Some (why.Full m)) (cond (nat_lt (max_entries - 3) (entry_count s)) (Some (why.Worn (entry_count s))) None) ≡ Some (why.Full n)) same (ap (λ b. cond b (Some (why.Full n)) (cond (nat_lt (max_entries - 3) (entry_count s)) (Some (why.Worn (entry_count s))) None)) (le-leb many))

    -- few jobs are held
    fewer : length (held s) < 128 → put_refusal s job ≡ cond (nat_lt (max_entries - 3) (entry_count s)) (Some (why.Worn (entry_count s))) None
    fewer few = by_key None free ∙ ap (λ b. cond b (Some (why.Full (length (held s)))) (cond (nat_lt (max_entries - 3) (entry_count s)) (Some (why.Worn (entry_count s))) None)) (lt-leb few)

    pub refused_worn : length (held s) < 128 → (n : ℕ) → n ≡ entry_count s → 16777213 < n → put_refusal s job ≡ Some (why.Worn n)
    refused_worn few n same many = fewer few ∙ subst (λ (m : ℕ). cond (nat_lt (max_entries - 3) m) (Some (why.Worn m)) None ≡ Some (why.Worn n)) same (ap (λ b. cond b (Some (why.Worn n)) None) (lt-ltb many))

    pub not_refused : length (held s) < 128 → (n : ℕ) → n ≡ entry_count s → n ≤ 16777213 → put_refusal s job ≡ None
    not_refused few n same less = fewer few ∙ subst (λ (m : ℕ). cond (nat_lt (max_entries - 3) m) (Some (why.Worn m)) None ≡ None) same (ap (λ b. cond b (Some (why.Worn n)) None) (le-ltb less))
