-- What always holds of a station in code, and that each call keeps it.
use Rattle.std.proofs.Common.{◌≡◌, ◌≢◌, ◌⊎◌, ◌∙◌, refl, sym, ap, subst, inl, inr, ℕ, ◌<◌, ◌≤◌, ◌+◌, Bool, true, false, cond, not, List, [], ◌∷◌, ◌++◌, length, map, arith, append_assoc}
use Rattle.std.specs.Prelude.{All, IfSome, None, Option, Some, Ok, Err, Result, find, nat_le}
use Rattle.std.specs.Map.{lookup}
use Rattle.std.specs.Ordering.{nat_cmp}
use Rattle.std.specs.BTreeMap.{is_at}
use Rattle.std.proofs.lemmas.List.{length-append, length-map, map-append}
use Rattle.std.proofs.lemmas.List.Elements.{All-contains}
use Rattle.rd_base.specs.declared.journal.Key.{Key}
use Rattle.rd_base.specs.declared.journal.Cause.TheVariants.{Dropped, Removed}
use Rattle.rd_base.specs.declared.journal.Item.{Item}
use Rattle.rd_base.specs.declared.journal.Item.TheVariants.{Came, Cancelled, Cut, Ran, Sent}
use Rattle.rd_base.specs.Lawful.{IsBelow, named_key}
use Rattle.rd_irp.specs.Fits.{kind_of}
use Rattle.rd_drive.specs.declared.plan.Job.{Job}
use Rattle.rd_drive.specs.declared.step.End.{End}
use Rattle.rd_drive.specs.declared.step.Step.{Step}
use Rattle.rd_drive.specs.declared.step.Step.TheVariants as step
use Rattle.rd_drive.specs.Device.{AreEnded, Parked, is_parked, is_starved}
use Rattle.rd_drive.specs.Planned.{Planned}
use Rattle.rd_drive.specs.Promise.{Applies, CutsOff}
use Rattle.rd_drive.specs.Replies.{cancellation}
use Rattle.rd_drive.specs.Stepped.{Stepped}
use Rattle.rd_station.specs.declared.answers.Applied.{Applied}
use Rattle.rd_station.specs.declared.answers.Applied.TheVariants as applied
use Rattle.rd_station.specs.declared.answers.Completion.{Completion}
use Rattle.rd_station.specs.declared.answers.Given.{Given}
use Rattle.rd_station.specs.declared.answers.Given.TheVariants as given
use Rattle.rd_station.specs.declared.held.InHand.{InHand}
use Rattle.rd_station.specs.declared.held.ParkedJob.{ParkedJob}
use Rattle.rd_station.specs.declared.refusals.AnnounceNo.TheVariants as no
use Rattle.rd_station.specs.declared.refusals.PutWhy.{PutWhy}
use Rattle.rd_station.specs.declared.memory.Memory.{Memory}
use Rattle.rd_station.specs.Memory.{NamesKey, Remembers, after_come, after_drop, nothing_remembered}
use Rattle.rd_station.specs.Queues.{AreKeys, AreRising, in_hand}
use Rattle.rd_station.specs.Station.{CameOf, IsKnown, MayPut, StationCall, StationState, StationStep, announce, announces, applies, apply, apply_from, cancelled_in_hand, collect_first, cancelled_parked, cancelled_waiting, collect, collects, completion_of, drop_channel, drops, emptied, end, ends, entry_count, held, is_key, marked_removed, max_entries, new_station, put, put_refusal, put_unless, puts, ran, remove, removes, reserved, take, take_first, takes, without_taken}
use Rattle.rd_station.specs.Sound.{IsSound, unrun_keys}
use Rattle.rd_station.proofs.Members.{Has, find_has, from_contains, has_append, has_left, has_map, has_right, key_self, map_has, same_key, to_contains}
use Rattle.rd_station.proofs.Counts.{cnt, cnt_all, cnt_append, cnt_cons, cnt_map, cnt_nil, cnt_none, cnt_one, one_gone}
use Rattle.rd_station.proofs.Holding.{every, in_held, in_one, of_hand, of_job, parked_apart, size_held, tally, with_id}
use Rattle.rd_station.proofs.Ending.{of_parked, of_ready}
use Rattle.rd_station.proofs.Keeping as keeping
use Rattle.rd_station.proofs.Keeping.{Keeps}
use Rattle.rd_station.proofs.Calls.{reached_keeps, reached_new, reached_step}
use Rattle.rd_station.proofs.Rising.{hand_key, marked_keys, rising_more, rising_prefix, rising_without}
use Rattle.rd_station.proofs.Settling.{AreSettled, are_settled}
use Rattle.rd_station.proofs.Keys.{has_more, has_same, keys_less, keys_more, keys_same, tally_same}
use Rattle.rd_station.proofs.Remembering.{any_has, came_named, has_any, held_any, known_more, names_left, names_none_new, remembers_come, remembers_drop, still}

append_none : {A : Type 0} (xs : List A) → xs ++ [] ≡ xs
append_none [] = refl
append_none {A} (x ∷ xs) = ap (λ (ys : List A). x ∷ ys) (append_none xs)

abbrev job_key : Job → Key
job_key job = job.key

module _ {S : Type 0} (Runs : S → Planned → ℕ → Step → List End → S → Type 0) (parked_in : S → List Parked) (Cuts : S → S → Type 0) where
  -- what stays sound after a call
  after : (old new : StationState S) (keys keys_then : List (ℕ × Key)) (spare spare_then : ℕ) (memory memory_then : Memory) → IsSound Runs parked_in Cuts old keys spare memory → (call : StationCall) → StationStep Runs parked_in Cuts old call new
      → AreKeys keys_then (held new) → AreRising (unrun_keys new) → reserved new ≤ spare_then → Remembers new memory_then → IsSound Runs parked_in Cuts new keys_then spare_then memory_then
  after old new keys keys_then spare spare_then memory memory_then sound call step found rising room remembers =
      record { reached = reached_step Runs parked_in Cuts old new call sound.reached step; keys_found = found; rising = rising; room = room; remembers = remembers }

  -- ---- a station is made, and announced

  pub sound_new : (device : S) → parked_in device ≡ [] → IsSound Runs parked_in Cuts (new_station device) [] 0 nothing_remembered
  sound_new device nothing = record {
    reached = reached_new Runs parked_in Cuts device nothing;
    keys_found = record { of_held = λ job has. absurd (from_contains [] job has); held = λ id key e. absurd (cc) };
    rising = tt;
    room = omega arith;
    remembers = record {
      none = λ e key names. (any_has (λ entry. named_key entry ≡ Some key) [] names).1;
      named = λ last e. absurd (cc);
      greatest = λ last key e names. absurd (cc);
      channel = λ job has. absurd (from_contains [] job has);
      known = λ key names. absurd (any_has (λ entry. named_key entry ≡ Some key) [] names).1;
      forgot = λ c e. absurd (cc);
    };
  }

  module _ (s : StationState S) (keys : List (ℕ × Key)) (spare : ℕ) (memory : Memory) (sound : IsSound Runs parked_in Cuts s keys spare memory) where
    abbrev channel : ℕ
    channel = (reached_keeps Runs parked_in Cuts s sound.reached).0

    abbrev keeps : Keeps parked_in channel s
    keeps = (reached_keeps Runs parked_in Cuts s sound.reached).1

    -- the journal's entries and places, counted
    pub counted : entry_count s ≤ 16777216
    counted = keeps.room

    -- few jobs are held
    pub few : length (held s) ≤ 128
    few = omega (arith, keeps.few.few, in_one every s, cnt_all (held s))

    -- what is held came, so the journal names it, and it wasn't sent
    held_named : (x : Key × ℕ) → Has x (held s) → NamesKey s.journal x.0
    held_named x has = came_named s.journal x.0 (keeping.held_at parked_in channel s keeps x has).1

    held_unsent : (x : Key × ℕ) → Has x (held s) → ¬ (Has (Sent x.0) s.journal)
    held_unsent = in_held (λ (x : Key × ℕ). ¬ (Has (Sent x.0) s.journal)) s
        (λ job has sent. not_sent job.key (keeps.waiting job has).1.unrun.unsent sent)
        (λ t has sent. by_hand t.removed t.key (keeps.taken t has).1 sent)
        (λ p has sent. not_sent p.key (keeps.parked_run p has).1.unsent sent)
        (λ x has sent. not_sent x.key (keeps.ready_done x has).1.run.unsent sent)
      where
        not_sent : (key : Key) → All (λ x. x ≢ Sent key) s.journal → Has (Sent key) s.journal → ⊥
        not_sent key none sent = All-contains (λ x. x ≢ Sent key) s.journal (Sent key) none (to_contains s.journal (Sent key) sent) refl

        by_hand : (removed : Bool) (key : Key) → keeping.IsHeld removed key s.journal → Has (Sent key) s.journal → ⊥
        by_hand true key is sent = not_sent key is.unrun.unsent sent
        by_hand false key is sent = not_sent key is.unrun.unsent sent

    -- Memory stays where entries that name what is held, or nothing, come to the journal, and send nothing; and where the same jobs are held.
    remembers_more : (new : StationState S) (more : List Item) → new.journal ≡ s.journal ++ more → ((x : Item) → Has x more → (key : Key) → named_key x ≡ Some key → NamesKey s.journal key) → ((key : Key) → ¬ (Has (Sent key) more))
        → ((p : Key × ℕ → Bool) → tally p new ≡ tally p s) → Remembers new memory
    remembers_more new more e each none same =
        still s new memory sound.remembers
        (λ key names. names_none_new s.journal more each key (subst (λ (j : List Item). NamesKey j key) e names))
        (λ key names. subst (λ (j : List Item). NamesKey j key) (sym e) (names_left s.journal more key names))
        (known_more s new (has_same s new same) (λ key has. subst (Has (Sent key)) (sym e) (has_left (Sent key) s.journal more has)))
        (known_more new s (has_same new s (λ p. sym (same p))) (λ key has. elim (has_append (Sent key) s.journal more (subst (Has (Sent key)) e has)) [ inl before ↦ before | inr new_one ↦ absurd (none key new_one) ]))
        (has_same new s (λ p. sym (same p)))

    announced : s.live ≡ false → nat_le max_entries (entry_count s) ≡ false → announce s ≡ (record s { live = true }, Ok tt)
    announced dead less =
        ap (λ b. cond {A = StationState S × Result (Unit {0}) _} b (s, Err no.Live) (cond (nat_le max_entries (entry_count s)) (s, Err (no.Worn (entry_count s))) (record s { live = true }, Ok tt))) dead
        ∙ ap (λ b. cond {A = StationState S × Result (Unit {0}) _} b (s, Err (no.Worn (entry_count s))) (record s { live = true }, Ok tt)) less

    pub sound_announce : (spare_then : ℕ) → s.live ≡ false → nat_le max_entries (entry_count s) ≡ false → reserved s + 1 ≤ spare_then → IsSound Runs parked_in Cuts (record s { live = true }) keys spare_then memory
    sound_announce spare_then dead less room =
        after s (record s { live = true }) keys keys spare spare_then memory memory sound (announces (Ok tt)) (announced dead less) sound.keys_found sound.rising
        (let before = ap (λ b. cond {A = ℕ} b 1 0) dead in omega (arith, room, before))
        (remembers_more (record s { live = true }) [] (sym (append_none s.journal)) (λ x none. absurd none) (λ key none. none) (λ p. refl))

    -- ---- a job comes

    -- what is held came on the channel of a job that may come, before it
    earlier : (key : Key) → MayPut s key → (x : Key × ℕ) → Has x (held s) → (x.0).index < key.index
    earlier key may x has =
        let came = (keeping.held_at parked_in channel s keeps x has).1 in
        let below : IsBelow x.0 key = All-contains (λ entry. IfSome (named_key entry) (λ k. IsBelow k key)) s.journal (Came x.0) may.above came in
        let same : (x.0).channel ≡ key.channel = All-contains (λ (other : Key × ℕ). (other.0).channel ≡ key.channel) (held s) x may.same_channel (to_contains (held s) x has) in
        elim below [ inl less ↦ absurd (omega (arith, less, same)) | inr less ↦ less.1 ]

    -- a key among those that weren't run is that of a job that is held
    unrun_held : (k : Key) → Has k (unrun_keys s) → (x : Key × ℕ) × Has x (held s) × (k ≡ x.0)
    unrun_held k has = elim (has_append k (map hand_key s.taken) (map job_key s.waiting) has) [
      | inl among ↦
          let (t, there, same) = map_has hand_key k s.taken among in
          ((t.key, t.completion), has_left (t.key, t.completion) (ws ++ ts ++ ps) rs (has_left (t.key, t.completion) (ws ++ ts) ps (has_right (t.key, t.completion) ws ts (has_map (λ (u : InHand). (u.key, u.completion)) t s.taken there))), same)
      | inr among ↦
          let (job, there, same) = map_has job_key k s.waiting among in
          ((job.key, job.completion), has_left (job.key, job.completion) (ws ++ ts ++ ps) rs (has_left (job.key, job.completion) (ws ++ ts) ps (has_left (job.key, job.completion) ws ts (has_map (λ (j : Job). (j.key, j.completion)) job s.waiting there))), same)
    ]
      where
        ws : List (Key × ℕ)
        ws = map (λ (job : Job). (job.key, job.completion)) s.waiting

        ts : List (Key × ℕ)
        ts = map (λ (t : InHand). (t.key, t.completion)) s.taken

        ps : List (Key × ℕ)
        ps = map (λ (p : ParkedJob). (p.key, p.completion)) s.parked

        rs : List (Key × ℕ)
        rs = map (λ (y : Completion). (y.key, y.completion)) s.ready

    pub sound_put : (job : Job) (keys_then : List (ℕ × Key)) (spare_then : ℕ) → MayPut s job.key → put_refusal s job ≡ None
        → ((id : ℕ) → lookup (is_at (nat_cmp id)) keys_then ≡ cond (is_at (nat_cmp job.completion) id) (Some job.key) (lookup (is_at (nat_cmp id)) keys)) → reserved s + 2 ≤ spare_then
        → IsSound Runs parked_in Cuts (record s { waiting = s.waiting ++ job ∷ []; journal = s.journal ++ Came job.key ∷ [] }) keys_then spare_then (after_come memory job.key)
    sound_put job keys_then spare_then may free goes room =
        after s new keys keys_then spare spare_then memory (after_come memory job.key) sound (puts job None) (may, came)
        (keys_more s new keys keys_then job.key job.completion one_more none goes sound.keys_found)
        (subst AreRising (sym order) (rising_more (unrun_keys s) job.key sound.rising (λ k has. let (x, there, same) = unrun_held k has in subst (λ (l : Key). l.index < job.key.index) (sym same) (earlier job.key may x there))))
        (omega (arith, room, length-append s.waiting (job ∷ [])))
        (remembers_come s new memory job.key job.completion sound.remembers may refl (has_more s new (job.key, job.completion) one_more).0 (has_more s new (job.key, job.completion) one_more).1 (has_more s new (job.key, job.completion) one_more).2)
      where
        new : StationState S
        new = record s { waiting = s.waiting ++ job ∷ []; journal = s.journal ++ Came job.key ∷ [] }

        one_more : (p : Key × ℕ → Bool) → tally p new ≡ tally p s + cond (p (job.key, job.completion)) 1 0
        one_more = keeping.one_more parked_in s job (keeping.moved parked_in channel s keeps job.key may) may free

        came : put s job ≡ (new, None)
        came = ap (λ (found : Option PutWhy). put_unless s job found) free

        none : tally (with_id job.completion) s ≡ 0
        none = omega (arith, in_one (with_id job.completion) s, cnt_none (with_id job.completion) (held s) (keeping.none_found parked_in (with_id job.completion) (held s) (keeping.free parked_in s job free).1))

        order : unrun_keys new ≡ unrun_keys s ++ job.key ∷ []
        order = ap (λ (ks : List Key). map hand_key s.taken ++ ks) (map-append job_key s.waiting (job ∷ [])) ∙ sym (append_assoc (map hand_key s.taken) (map job_key s.waiting) (job.key ∷ []))

    -- ---- a job is taken, and a completion is collected

    pub taken_first : (job : Job) (jobs : List Job) → s.ended ≡ false → s.waiting ≡ job ∷ jobs → take s ≡ (record s { waiting = jobs; taken = s.taken ++ in_hand job ∷ [] }, given.Job job)
    taken_first job jobs going e = ap (λ b. cond {A = StationState S × Given} b (s, given.Over) (take_first s s.waiting)) going ∙ ap (λ (ws : List Job). take_first s ws) e

    pub sound_take : (job : Job) (jobs : List Job) → s.ended ≡ false → s.waiting ≡ job ∷ jobs → IsSound Runs parked_in Cuts (record s { waiting = jobs; taken = s.taken ++ in_hand job ∷ [] }) keys spare memory
    sound_take job jobs going e =
        after s new keys keys spare spare memory memory sound (takes (given.Job job)) (taken_first job jobs going e)
        (keys_same s new keys same sound.keys_found)
        (subst AreRising order sound.rising)
        (omega (arith, sound.room, ap (length {A = Job}) e, length-append s.taken (in_hand job ∷ [])))
        (remembers_more new [] (sym (append_none s.journal)) (λ x none. absurd none) (λ key none. none) same)
      where
        new : StationState S
        new = record s { waiting = jobs; taken = s.taken ++ in_hand job ∷ [] }

        same : (p : Key × ℕ → Bool) → tally p new ≡ tally p s
        same p = omega (arith, ap (cnt (of_job p)) e, cnt_cons (of_job p) job jobs, cnt_append (of_hand p) s.taken (in_hand job ∷ []), cnt_one (of_hand p) (in_hand job))

        order : unrun_keys s ≡ map hand_key (s.taken ++ in_hand job ∷ []) ++ map job_key jobs
        order = ap (λ (ws : List Job). map hand_key s.taken ++ map job_key ws) e ∙ sym (append_assoc (map hand_key s.taken) (job.key ∷ []) (map job_key jobs))
            ∙ sym (ap (λ (ks : List Key). ks ++ map job_key jobs) (map-append hand_key s.taken (in_hand job ∷ [])))

    pub collected_first : (x : Completion) (xs : List Completion) → s.ready ≡ x ∷ xs → collect s ≡ (record s { ready = xs; journal = s.journal ++ Sent x.key ∷ [] }, Some x)
    collected_first x xs e = ap (λ (rs : List Completion). collect_first s rs) e

    pub sound_collect : (x : Completion) (xs : List Completion) (keys_then : List (ℕ × Key)) (spare_then : ℕ) → s.ready ≡ x ∷ xs
        → ((id : ℕ) → lookup (is_at (nat_cmp id)) keys_then ≡ cond (is_at (nat_cmp x.completion) id) None (lookup (is_at (nat_cmp id)) keys)) → spare ≤ spare_then + 1
        → IsSound Runs parked_in Cuts (record s { ready = xs; journal = s.journal ++ Sent x.key ∷ [] }) keys_then spare_then memory
    sound_collect x xs keys_then spare_then e goes room =
        after s new keys keys_then spare spare_then memory memory sound (collects (Some x)) (collected_first x xs e)
        (keys_less s new keys keys_then x.key x.completion one_less (keeps.few.ids x.completion) goes sound.keys_found)
        sound.rising
        (omega (arith, sound.room, room, ap (length {A = Completion}) e))
        (still s new memory sound.remembers
        (names_none_new s.journal (Sent x.key ∷ []) (λ y has key is. elim has [ inl same ↦ subst (NamesKey s.journal) (let named : Some x.key ≡ Some key = ap named_key (sym same) ∙ is in cc) own_named | inr none ↦ absurd none ]))
        (names_left s.journal (Sent x.key ∷ []))
        known_on
        known_before
        (λ y has. before.1 y has))
      where
        new : StationState S
        new = record s { ready = xs; journal = s.journal ++ Sent x.key ∷ [] }

        one_less : (p : Key × ℕ → Bool) → tally p s ≡ tally p new + cond (p (x.key, x.completion)) 1 0
        one_less p = omega (arith, ap (cnt (of_ready p)) e, cnt_cons (of_ready p) x xs)

        before : ((y : Key × ℕ) → Has y (held s) → (y ≡ (x.key, x.completion)) ⊎ Has y (held new)) × ((y : Key × ℕ) → Has y (held new) → Has y (held s)) × Has (x.key, x.completion) (held s)
        before = has_more new s (x.key, x.completion) one_less

        own_named : NamesKey s.journal x.key
        own_named = held_named (x.key, x.completion) before.2

        known_on : (key : Key) → IsKnown s key → IsKnown new key
        known_on key (inl any) =
            let (y, has, same) = held_any s key any in
            elim (before.0 y has) [
              | inl own ↦ inr (to_contains new.journal (Sent key) (has_right (Sent key) s.journal (Sent x.key ∷ []) (inl (ap Sent (sym same ∙ ap (λ (z : Key × ℕ). z.0) own)))))
              | inr there ↦ inl (has_any (λ (other : Key × ℕ). other.0 ≡ key) (held new) y there same)
            ]
        known_on key (inr sent) = inr (to_contains new.journal (Sent key) (has_left (Sent key) s.journal (Sent x.key ∷ []) (from_contains s.journal (Sent key) sent)))

        known_before : (key : Key) → IsKnown new key → IsKnown s key
        known_before key (inl any) = let (y, has, same) = held_any new key any in inl (has_any (λ (other : Key × ℕ). other.0 ≡ key) (held s) y (before.1 y has) same)
        known_before key (inr sent) = elim (has_append (Sent key) s.journal (Sent x.key ∷ []) (from_contains new.journal (Sent key) sent)) [
          | inl was ↦ inr (to_contains s.journal (Sent key) was)
          | inr last ↦ elim last [
            | inl same ↦ inl (has_any (λ (other : Key × ℕ). other.0 ≡ key) (held s) (x.key, x.completion) before.2 (let equal : Sent key ≡ Sent x.key = same in cc))
            | inr none ↦ absurd none
          ]
        ]

    -- ---- a job comes back

    -- without one that is in a hand
    abbrev without : Key → List InHand
    without key = without_taken key s.taken

    rising_others : (key : Key) (more : List Job) → s.waiting ≡ more → AreRising (map hand_key (without_taken key s.taken) ++ map job_key more)
    rising_others key more e = rising_without (λ (t : InHand). not (is_key t.key key)) s.taken (map job_key more) (subst (λ (ws : List Job). AreRising (map hand_key s.taken ++ map job_key ws)) e sound.rising)

    module _ (planned : Planned) (moment : ℕ) (t : InHand) (found : find (λ (u : InHand). is_key u.key planned.job.key) s.taken ≡ Some t) where
      here : Has t s.taken
      here = (find_has (λ (u : InHand). is_key u.key planned.job.key) t s.taken found).0

      its : t.key ≡ planned.job.key
      its = same_key t.key planned.job.key (find_has (λ (u : InHand). is_key u.key planned.job.key) t s.taken found).1

      -- without it one is in a hand the fewer, of each kind that it is of
      gone : length (without_taken t.key s.taken) + 1 ≡ length s.taken
      gone = keeping.one_less parked_in channel s keeps t here

      gone_of : (p : Key × ℕ → Bool) → cnt (of_hand p) (without_taken t.key s.taken) + cond (p (t.key, t.completion)) 1 0 ≤ cnt (of_hand p) s.taken
      gone_of p = one_gone (of_hand p) (λ (u : InHand). not (is_key u.key t.key)) t (ap not (key_self t.key)) s.taken here

      hand_named : NamesKey s.journal t.key
      hand_named = came_named s.journal t.key (keeping.held_came t.removed t.key s.journal (keeps.taken t here).1)

      pub cancelled_then : (came : Stepped S) → t.removed ≡ true → apply s planned.job moment came ≡ (cancelled_in_hand s t (kind_of planned.job.op), applied.Cancelled)
      cancelled_then came over = ap (apply_from s planned.job moment came) found
          ∙ ap (λ b. cond {A = StationState S × Applied} b (cancelled_in_hand s t (kind_of planned.job.op), applied.Cancelled) (ran s t (kind_of planned.job.op) moment came, cond (is_parked came.answer) applied.Parked applied.Ran)) over

      pub sound_cancel : (spare_then : ℕ) → t.removed ≡ true → spare ≤ spare_then + 1 → IsSound Runs parked_in Cuts (cancelled_in_hand s t (kind_of planned.job.op)) keys spare_then memory
      sound_cancel spare_then over room =
          after s new keys keys spare spare_then memory memory sound (applies planned moment applied.Cancelled) (nothing_came, cancelled_then nothing_came over, absurd)
          (keys_same s new keys same sound.keys_found)
          (rising_others t.key s.waiting refl)
          (omega (arith, sound.room, room, gone, length-append s.ready (given_up ∷ [])))
          (remembers_more new (Cancelled t.key ∷ []) refl (λ x has key is. elim has [ inl alike ↦ subst (NamesKey s.journal) (let named : Some t.key ≡ Some key = ap named_key (sym alike) ∙ is in cc) hand_named | inr none ↦ absurd none ])
          (λ key has. elim has [ inl alike ↦ absurd (cc (alike)) | inr none ↦ absurd none ]) same)
        where
          new : StationState S
          new = cancelled_in_hand s t (kind_of planned.job.op)

          given_up : Completion
          given_up = completion_of t.key t.completion (kind_of planned.job.op) cancellation

          same : (p : Key × ℕ → Bool) → tally p new ≡ tally p s
          same = tally_same s new (λ p. omega (arith, gone_of p, cnt_append (of_ready p) s.ready (given_up ∷ []), cnt_one (of_ready p) given_up)) (omega (arith, size_held s, size_held new, gone, length-append s.ready (given_up ∷ [])))

          nothing_came : Stepped S
          nothing_came = record { state = s.device; answer = step.Parked; ends = [] }

      module _ (fresh : t.removed ≡ false) (came : Stepped S) (promise : CameOf Runs parked_in Cuts s.device planned moment came) where
        abbrev answer : Applied
        answer = cond (is_parked came.answer) applied.Parked applied.Ran

        pub ran_then : apply s planned.job moment came ≡ (ran s t (kind_of planned.job.op) moment came, answer)
        ran_then = ap (apply_from s planned.job moment came) found
            ∙ ap (λ b. cond {A = StationState S × Applied} b (cancelled_in_hand s t (kind_of planned.job.op), applied.Cancelled) (ran s t (kind_of planned.job.op) moment came, cond (is_parked came.answer) applied.Parked applied.Ran)) fresh

        pub sound_run : (spare_then : ℕ) → spare ≤ spare_then + 1 → IsSound Runs parked_in Cuts (ran s t (kind_of planned.job.op) moment came) keys spare_then memory
        sound_run spare_then room =
            after s new keys keys spare spare_then memory memory sound (applies planned moment answer) (came, ran_then, λ did. promise)
            (keys_same s new keys same sound.keys_found)
            (rising_others t.key s.waiting refl)
            (omega (arith, sound.room, room, gone, many))
            (remembers_more new (Ran t.key moment (is_starved came.answer) (is_parked came.answer) ∷ []) refl
            (λ x has key is. elim has [ inl alike ↦ subst (NamesKey s.journal) (let named : Some t.key ≡ Some key = ap named_key (sym alike) ∙ is in cc) hand_named | inr none ↦ absurd none ])
            (λ key has. elim has [ inl alike ↦ absurd (cc (alike)) | inr none ↦ absurd none ]) same)
          where
            new : StationState S
            new = ran s t (kind_of planned.job.op) moment came

            many : length new.parked + length new.ready ≡ length s.parked + length s.ready + 1
            many = keeping.as_many parked_in channel s keeps t here fresh planned.job its moment came promise.answers promise.parks

            same : (p : Key × ℕ → Bool) → tally p new ≡ tally p s
            same = tally_same s new (λ p. omega (arith, gone_of p, keeping.less parked_in channel s keeps t here fresh planned.job its moment came promise.answers promise.parks p)) (omega (arith, size_held s, size_held new, gone, many))

    -- each request that ends by a run is one of those that wait
    pub settles : (planned : Planned) (moment : ℕ) (answer : Step) (ended : List End) (device : S) → Applies Runs parked_in s.device planned moment answer ended device → AreSettled s.parked ended
    settles planned moment reply ended device promise =
        are_settled s.parked ended promise.parks.left (subst (λ (ps : List Parked). AreEnded ps ended promise.parks.left) (sym keeps.parked) promise.parks.ended) (parked_apart s keeps.few)

    -- the keys of what is in hands rise
    pub hands_rise : AreRising (map hand_key s.taken)
    hands_rise = rising_prefix (map hand_key s.taken) (map job_key s.waiting) sound.rising

    -- where a job is taken back there is room for its completion
    pub few_left : (t : InHand) → Has t s.taken → length s.waiting + length (without_taken t.key s.taken) + length s.parked + length s.ready < 128
    few_left t has = omega (arith, few, size_held s, keeping.one_less parked_in channel s keeps t has)

    -- ---- the device is cut off

    abbrev gone_with : S → StationState S
    gone_with cut = record s {
      device = cut;
      live = false;
      waiting = [];
      taken = map marked_removed s.taken;
      parked = [];
      ready = s.ready ++ map cancelled_parked s.parked ++ map cancelled_waiting s.waiting;
      journal = s.journal ++ Cut Removed ∷ map (λ (job : Job). Cancelled job.key) s.waiting;
    }

    pub removed_then : (cut : S) → s.live ≡ true → remove s cut ≡ (gone_with cut, true)
    removed_then cut live = ap (λ b. cond {A = StationState S × Bool} (not b) (s, false) (gone_with cut, true)) live

    pub sound_remove : (cut : S) (spare_then : ℕ) → s.live ≡ true → CutsOff Cuts parked_in s.device cut → spare ≤ spare_then + 1 + length s.waiting → IsSound Runs parked_in Cuts (gone_with cut) keys spare_then memory
    sound_remove cut spare_then live off room =
        after s (gone_with cut) keys keys spare spare_then memory memory sound (removes true) (cut, removed_then cut live, λ e. off)
        (keys_same s (gone_with cut) keys same sound.keys_found)
        (subst AreRising (sym (ap (λ (ks : List Key). ks ++ []) (marked_keys s.taken) ∙ append_none (map hand_key s.taken))) (rising_prefix (map hand_key s.taken) (map job_key s.waiting) sound.rising))
        (omega (
          arith,
          sound.room,
          room,
          ap (λ b. cond {A = ℕ} b 1 0) live,
          length-map s.taken marked_removed,
          length-append (s.ready ++ map cancelled_parked s.parked) (map cancelled_waiting s.waiting),
          length-append s.ready (map cancelled_parked s.parked),
          length-map s.parked cancelled_parked,
          length-map s.waiting cancelled_waiting,
        ))
        (remembers_more (gone_with cut) (Cut Removed ∷ map (λ (job : Job). Cancelled job.key) s.waiting) refl each_named none_sent same)
      where
        same : (p : Key × ℕ → Bool) → tally p (gone_with cut) ≡ tally p s
        same p = omega (
          arith,
          cnt_nil (of_job p),
          cnt_nil (of_parked p),
          cnt_map (of_hand p) marked_removed s.taken,
          cnt_append (of_ready p) (s.ready ++ map cancelled_parked s.parked) (map cancelled_waiting s.waiting),
          cnt_append (of_ready p) s.ready (map cancelled_parked s.parked),
          cnt_map (of_ready p) cancelled_parked s.parked,
          cnt_map (of_ready p) cancelled_waiting s.waiting,
        )

        each_named : (x : Item) → Has x (Cut Removed ∷ map (λ (job : Job). Cancelled job.key) s.waiting) → (key : Key) → named_key x ≡ Some key → NamesKey s.journal key
        each_named x (inl alike) key is = absurd (cc (alike, is))
        each_named x (inr later) key is =
            let (job, has, alike) = map_has (λ (j : Job). Cancelled j.key) x s.waiting later in
            subst (NamesKey s.journal) (let named : Some job.key ≡ Some key = ap named_key (sym alike) ∙ is in cc) (came_named s.journal job.key (keeps.waiting job has).1.unrun.came)

        none_sent : (key : Key) → ¬ (Has (Sent key) (Cut Removed ∷ map (λ (job : Job). Cancelled job.key) s.waiting))
        none_sent key (inl alike) = absurd (cc (alike))
        none_sent key (inr later) = let (job, has, alike) = map_has (λ (j : Job). Cancelled j.key) (Sent key) s.waiting later in absurd (cc (alike))

    -- nothing is held after the end of a channel
    module _ (cut : S) (off : s.live ≡ true → CutsOff Cuts parked_in s.device cut) where
      nothing_held : AreKeys [] []
      nothing_held = record { of_held = λ job has. absurd (from_contains [] job has); held = λ id key e. absurd (cc) }

      pub sound_drop : (new : StationState S) (spare_then count : ℕ) → count ≡ length (held s) → drop_channel s cut ≡ new → IsSound Runs parked_in Cuts new [] spare_then (after_drop memory count)
      sound_drop new spare_then count counted e =
          after s new keys [] spare spare_then memory (after_drop memory count) sound drops (cut, e, off) (subst (λ (t : StationState S). AreKeys [] (held t)) e (none s.live)) (subst (λ (t : StationState S). AreRising (unrun_keys t)) e (rises s.live))
          (subst (λ (t : StationState S). reserved t ≤ spare_then) e (nothing s.live refl))
          (subst (λ (t : StationState S). Remembers t (after_drop memory count)) e (remembers_then s.live))
        where
          dropped : Bool → StationState S
          dropped b = cond b (record (emptied s) { device = cut; live = false; journal = s.journal ++ Cut Dropped ∷ [] }) (emptied s)

          none : (b : Bool) → AreKeys [] (held (dropped b))
          none true = nothing_held
          none false = nothing_held

          rises : (b : Bool) → AreRising (unrun_keys (dropped b))
          rises true = tt
          rises false = tt

          remembers_then : (b : Bool) → Remembers (dropped b) (after_drop memory count)
          remembers_then true = remembers_drop s (dropped true) memory count sound.remembers counted refl
              (names_none_new s.journal (Cut Dropped ∷ []) (λ x has key is. elim has [ inl alike ↦ absurd (cc (alike, is)) | inr none_of ↦ absurd none_of ]))
              (names_left s.journal (Cut Dropped ∷ []))
              (λ key has. has_left (Sent key) s.journal (Cut Dropped ∷ []) has)
              (λ key has. elim (has_append (Sent key) s.journal (Cut Dropped ∷ []) has) [ inl before ↦ before | inr last ↦ elim last [ inl alike ↦ absurd (cc (alike)) | inr none_of ↦ absurd none_of ] ])
              (λ x has. (held_named x has, held_unsent x has))
          remembers_then false = remembers_drop s (dropped false) memory count sound.remembers counted refl (λ key names. names) (λ key names. names) (λ key has. has) (λ key has. has) (λ x has. (held_named x has, held_unsent x has))

          nothing : (b : Bool) → s.live ≡ b → reserved (dropped b) ≤ spare_then
          nothing true e = omega arith
          nothing false e = let dead = ap (λ b. cond {A = ℕ} b 1 0) e in omega (arith, dead)

      pub sound_end : (new : StationState S) (spare_then count : ℕ) → count ≡ length (held s) → end s cut ≡ new → IsSound Runs parked_in Cuts new [] spare_then (after_drop memory count)
      sound_end new spare_then count counted e =
          let dropped = sound_drop (drop_channel s cut) spare_then count counted refl in
          let step : StationStep Runs parked_in Cuts s ends (end s cut) = (cut, refl, off) in
          subst (λ (t : StationState S). IsSound Runs parked_in Cuts t [] spare_then (after_drop memory count)) e
          (after s (end s cut) keys [] spare spare_then memory (after_drop memory count) sound ends step dropped.keys_found dropped.rising dropped.room
          (record {
            none = dropped.remembers.none;
            named = dropped.remembers.named;
            greatest = dropped.remembers.greatest;
            channel = dropped.remembers.channel;
            known = dropped.remembers.known;
            forgot = dropped.remembers.forgot;
          }))
