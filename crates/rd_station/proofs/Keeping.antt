-- What always holds of a station, and that each of its calls keeps it.
use Rattle.std.proofs.Common.{◌≡◌, ◌≢◌, ◌⊎◌, ◌∙◌, refl, sym, ap, subst, inl, inr, ℕ, suc, ◌<◌, ◌≤◌, ◌+◌, ◌-◌, ◌==◌, Bool, true, false, cond, not, List, [], ◌∷◌, ◌++◌, length, map, arith, eqb-true}
use Rattle.std.specs.Prelude.{All, Any, Contains, IfSome, Some, None, Option, Result, Ok, Err, filter, find, nat_le, nat_lt}
use Rattle.std.specs.List.{flat_map}
use Rattle.std.specs.Option.{option_map_or}
use Rattle.std.proofs.lemmas.Bool.{leb-false, ltb-false}
use Rattle.std.proofs.lemmas.List.{append_assoc, length-append, length-map, map-append}
use Rattle.std.proofs.lemmas.List.Elements.{All-contains, All-head, All-weaker}
use Rattle.rd_base.specs.declared.journal.Key.{Key}
use Rattle.rd_base.specs.declared.journal.Cause.TheVariants.{Removed, Dropped}
use Rattle.rd_base.specs.declared.journal.Item.{Item}
use Rattle.rd_base.specs.declared.journal.Item.TheVariants.{Came, Ran, Cancelled, Sent, Cut}
use Rattle.rd_base.specs.Lawful.{IsBelow, IsLawful, MayEnd, NoneAboveChannel, named_key}
use Rattle.rd_irp.specs.declared.completion.Kind.{Kind}
use Rattle.rd_irp.specs.Fits.{kind_of}
use Rattle.rd_drive.specs.declared.plan.Job.{Job}
use Rattle.rd_drive.specs.declared.step.Step.{Step}
use Rattle.rd_drive.specs.declared.step.Step.TheVariants as step
use Rattle.rd_drive.specs.Device.{AreEnded, CompletesKind, IsAnswerTo, Parked, Parks, is_parked, is_starved, parked_by}
use Rattle.rd_drive.specs.Stepped.{Stepped}
use Rattle.rd_drive.specs.Replies.{cancellation}
use Rattle.rd_station.specs.declared.answers.Completion.{Completion}
use Rattle.rd_station.specs.declared.answers.Given.{Given}
use Rattle.rd_station.specs.declared.answers.Given.TheVariants as given
use Rattle.rd_station.specs.declared.refusals.AnnounceNo.{AnnounceNo}
use Rattle.rd_station.specs.declared.refusals.AnnounceNo.TheVariants as refused
use Rattle.rd_station.specs.declared.refusals.PutWhy.TheVariants as why
use Rattle.rd_station.specs.declared.held.InHand.{InHand}
use Rattle.rd_station.specs.declared.held.ParkedJob.{ParkedJob}
use Rattle.rd_station.specs.Station.{IsKnown, MayPut, announce, collect, take, without_taken, StationState, cancelled_in_hand, cancelled_parked, cancelled_waiting, collect_first, completion_of, drop_channel, emptied, ended_completion, entry_count, held, is_ended, marked_removed, max_entries, own_completion, put_refusal, ran, remove, take_first, is_key}
use Rattle.rd_station.specs.Tied.{as_parked}
use Rattle.rd_station.proofs.Members.{AreApart, Has, apart_key, filter_has, has_append, key_self, map_has, same_key}
use Rattle.rd_station.proofs.Cancelling.{AreCancelled, AreOvertaken, cancellations, cancels_each, cancels_leave, job_key}
use Rattle.rd_station.proofs.Requests as request
use Rattle.rd_station.proofs.Requests.{IsDone, IsFresh, IsOther, IsOvertaken, IsRun, all_more, lawful_more, may_cancel, may_come, may_cut, may_run, may_send}
use Rattle.rd_station.proofs.Unsent.{adds, few_more, lawful_still, low_more, none_unsent, unsent_more, unsent_on, unsent_sent}
use Rattle.rd_station.proofs.Counts.{cnt, cnt_all, cnt_append, cnt_cons, cnt_map, cnt_nil, cnt_none, cnt_one, cnt_some, one_gone}
use Rattle.rd_station.proofs.Ending.{end_key, ended_key, ends_complete, ends_distinct, left_is, no_more, none_lost, of_parked, of_ready, parked_key, same_keys}
use Rattle.rd_station.proofs.Holding.{IsFew, every, few_stays, hand_once, in_held, in_one, none_has, none_in_hand, none_parked, none_ready, none_waits, of_hand, of_job, other_hand, parked_apart, ready_key, size_held, tally, waiting_apart, with_id, with_key, without_one}

-- ---- what the journal tells of what is in a hand

-- a removal overtook it, or it is fresh
abbrev pub IsHeld : Bool → Key → List Item → Type 0
IsHeld true key j = IsOvertaken key j
IsHeld false key j = IsFresh key j

-- another's entry leaves what is told of it
held_on : (removed : Bool) (j : List Item) (x : Item) (k : Key) → named_key x ≡ Some k → (key : Key) → key ≢ k → IsHeld removed key j → IsHeld removed key (j ++ x ∷ [])
held_on true j x k names key apart is = request.overtaken_on j x k names key apart is
held_on false j x k names key apart is = request.fresh_on j x k names key apart is

-- either way it came
pub held_came : (removed : Bool) (key : Key) (j : List Item) → IsHeld removed key j → Contains j (Came key)
held_came true key j is = is.unrun.came
held_came false key j is = is.unrun.came

-- and by a removal
held_removed : (removed : Bool) (key : Key) (j : List Item) → IsHeld removed key j → IsOvertaken key (j ++ Cut Removed ∷ [])
held_removed true key j is = request.overtaken_stays key j (Cut Removed) (λ e. cc) (λ e. cc) is
held_removed false key j is = request.removes key j is

-- ---- what always holds

module _ {S : Type 0} (parked_in : S → List Parked) where
  pub record Keeps (c : ℕ) (s : StationState S) : Type 0 where
    -- the journal, and what it tells of each job that is held
    pub lawful : IsLawful s.journal
    pub low : NoneAboveChannel c s.journal
    pub waiting : (job : Job) → Has job s.waiting → (job.key.channel ≡ c) × IsFresh job.key s.journal
    pub taken : (t : InHand) → Has t s.taken → (t.key.channel ≡ c) × IsHeld t.removed t.key s.journal
    pub parked_run : (p : ParkedJob) → Has p s.parked → (p.key.channel ≡ c) × IsRun p.key s.journal
    pub ready_done : (x : Completion) → Has x s.ready → (x.key.channel ≡ c) × IsDone x.key s.journal
    pub unsent : unsent_on c s.journal ≤ length s.waiting + length s.taken + length s.parked + length s.ready
    -- the four lists themselves
    pub parked : map as_parked s.parked ≡ parked_in s.device
    pub ready : (x : Completion) → Has x s.ready → CompletesKind x.kind x.reply
    pub few : IsFew s
    pub room : entry_count s ≤ max_entries
    pub idle : s.live ≡ false → (s.waiting ≡ []) × (s.parked ≡ []) × ((t : InHand) → Has t s.taken → t.removed ≡ true)

  -- the journal names no later channel than a held key's
  low_at : (c : ℕ) (s : StationState S) → Keeps c s → (key : Key) → key.channel ≡ c → NoneAboveChannel key.channel s.journal
  low_at c s keeps key on = subst (λ (d : ℕ). NoneAboveChannel d s.journal) (sym on) keeps.low

  -- what is held came, on the channel
  pub held_at : (c : ℕ) (s : StationState S) → Keeps c s → (x : Key × ℕ) → Has x (held s) → ((x.0).channel ≡ c) × Contains s.journal (Came x.0)
  held_at c s keeps = in_held (λ (x : Key × ℕ). ((x.0).channel ≡ c) × Contains s.journal (Came x.0)) s
      (λ job has. let (on, is) = keeps.waiting job has in (on, is.unrun.came))
      (λ t has. let (on, is) = keeps.taken t has in (on, held_came t.removed t.key s.journal is))
      (λ p has. let (on, is) = keeps.parked_run p has in (on, is.came))
      (λ x has. let (on, is) = keeps.ready_done x has in (on, is.run.came))

  -- a list of no members
  nil_of : {A : Type 0} (xs : List A) → length xs ≡ 0 → xs ≡ []
  nil_of [] e = refl
  nil_of (x ∷ xs) e = absurd (omega (arith, e))

  -- a station that holds nothing, on a channel of which nothing is unsent
  pub keeps_none : (c : ℕ) (s : StationState S) → held s ≡ [] → IsLawful s.journal → NoneAboveChannel c s.journal → unsent_on c s.journal ≡ 0
      → map as_parked s.parked ≡ parked_in s.device → entry_count s ≤ max_entries → Keeps c s
  keeps_none c s none lawful low unsent parked room = record {
    lawful = lawful;
    low = low;
    waiting = λ job has. absurd (subst (Has job) no_waiting has);
    taken = λ t has. absurd (subst (Has t) no_taken has);
    parked_run = λ p has. absurd (subst (Has p) no_parked has);
    ready_done = λ x has. absurd (subst (Has x) no_ready has);
    unsent = omega (arith, unsent);
    parked = parked;
    ready = λ x has. absurd (subst (Has x) no_ready has);
    few = record { few = omega (arith, no_more_than every); ids = λ id. omega (arith, no_more_than (with_id id)); keys = λ k. omega (arith, no_more_than (with_key k)) };
    room = room;
    idle = λ dead. (no_waiting, no_parked, λ t has. absurd (subst (Has t) no_taken has));
  }
    where
      size : length s.waiting + length s.taken + length s.parked + length s.ready ≡ 0
      size = let nothing : length (held s) ≡ 0 = ap (length {A = Key × ℕ}) none in omega (arith, nothing, size_held s)

      no_waiting : s.waiting ≡ []
      no_waiting = nil_of s.waiting (omega (arith, size))

      no_taken : s.taken ≡ []
      no_taken = nil_of s.taken (omega (arith, size))

      no_parked : s.parked ≡ []
      no_parked = nil_of s.parked (omega (arith, size))

      no_ready : s.ready ≡ []
      no_ready = nil_of s.ready (omega (arith, size))

      no_more_than : (p : Key × ℕ → Bool) → tally p s ≡ 0
      no_more_than p = omega (arith, in_one p s, ap (cnt p) none, cnt_nil p)

  -- ---- a job comes

  -- where nothing speaks against a job, what that means
  pub free : (s : StationState S) (job : Job) → put_refusal s job ≡ None
      → (s.live ≡ true) × (find (λ (other : Key × ℕ). other.1 == job.completion) (held s) ≡ None) × (length (held s) < 128) × (entry_count s ≤ max_entries - 3)
  free s job e = go s.live refl (find (λ (other : Key × ℕ). other.1 == job.completion) (held s)) refl (nat_le 128 (length (held s))) refl (nat_lt (max_entries - 3) (entry_count s)) refl e
    where
      go : (a : Bool) → s.live ≡ a → (found : Option (Key × ℕ)) → find (λ (other : Key × ℕ). other.1 == job.completion) (held s) ≡ found → (b : Bool) → nat_le 128 (length (held s)) ≡ b → (d : Bool) → nat_lt (max_entries - 3) (entry_count s) ≡ d
          → cond (not a) (Some why.Gone) (option_map_or (λ (other : Key × ℕ). Some (why.Duplicate other.0)) found (cond b (Some (why.Full (length (held s)))) (cond d (Some (why.Worn (entry_count s))) None))) ≡ None
          → (s.live ≡ true) × (find (λ (other : Key × ℕ). other.1 == job.completion) (held s) ≡ None) × (length (held s) < 128) × (entry_count s ≤ max_entries - 3)
      go false l found f b m d n e = absurd (cc)
      go true l (Some x) f b m d n e = absurd (cc)
      go true l None f true m d n e = absurd (cc)
      go true l None f false m true n e = absurd (cc)
      go true l None f false m false n e = (l, f, leb-false 128 (length (held s)) m, ltb-false (max_entries - 3) (entry_count s) n)

  -- where none is found, none passes
  pub none_found : {A : Type 0} (p : A → Bool) (xs : List A) → find p xs ≡ None → (x : A) → Has x xs → p x ≡ false
  none_found p [] e x has = absurd has
  none_found {A} p (y ∷ xs) e x has = go (p y) refl e has (λ f h. none_found p xs f x h)
    where
      go : (b : Bool) → p y ≡ b → cond b (Some y) (find p xs) ≡ None → (x ≡ y) ⊎ Has x xs → (find p xs ≡ None → Has x xs → p x ≡ false) → p x ≡ false
      go true f e has later = absurd (cc)
      go false f e has later = elim has [ inl same ↦ ap p same ∙ f | inr h ↦ later e h ]

  -- none of no members
  any_none : {A : Type 0} (P : A → Type 0) (xs : List A) → xs ≡ [] → Any P xs → ⊥
  any_none P xs none any = let few : length xs ≡ 0 = ap length none in omega (arith, any.2, few)

  -- no key is below itself
  not_below : (k : Key) → IsBelow k k → ⊥
  not_below k (inl less) = omega (arith, less)
  not_below k (inr less) = omega (arith, less.1)

  module _ (s : StationState S) (key : Key) (may : MayPut s key) where
    -- a key that may come is above each that came
    above_all : (earlier : Key) → Contains s.journal (Came earlier) → IsBelow earlier key
    above_all earlier came = All-contains (λ entry. IfSome (named_key entry) (λ k. IsBelow k key)) s.journal (Came earlier) may.above came

    -- and no entry names it
    never_named : All (IsOther key) s.journal
    never_named = All-weaker (λ entry. IfSome (named_key entry) (λ k. IsBelow k key)) (IsOther key)
        (λ x below names. not_below key (subst (λ (o : Option Key). IfSome o (λ k. IsBelow k key)) names below)) s.journal may.above

    -- nor names a later channel
    no_later : NoneAboveChannel key.channel s.journal
    no_later = All-weaker (λ entry. IfSome (named_key entry) (λ k. IsBelow k key)) (λ entry. IfSome (named_key entry) (λ k. k.channel ≤ key.channel)) (λ x. on (named_key x)) s.journal may.above
      where
        below : (k : Key) → IsBelow k key → k.channel ≤ key.channel
        below k (inl less) = omega (arith, less)
        below k (inr less) = omega (arith, less.0)

        on : (o : Option Key) → IfSome o (λ k. IsBelow k key) → IfSome o (λ k. k.channel ≤ key.channel)
        on None is = tt
        on (Some k) is = below k is

    -- where nothing is held, what came on its channel was sent
    sent_all : held s ≡ [] → (k : Key) → k.channel ≡ key.channel → Contains s.journal (Came k) → Contains s.journal (Sent k)
    sent_all none k on came =
        elim (All-contains (λ entry. IfSome (named_key entry) (λ earlier. IsKnown s earlier ⊎ (earlier.channel < key.channel))) s.journal (Came k) may.forgotten came) [
          | inl known ↦ elim known [ inl any ↦ absurd (any_none (λ (other : Key × ℕ). other.0 ≡ k) (held s) none any) | inr sent ↦ sent ]
          | inr less ↦ absurd (omega (arith, less, on))
        ]

  -- a station that holds nothing may go on to a later channel
  pub moved : (c : ℕ) (s : StationState S) → Keeps c s → (key : Key) → MayPut s key → Keeps key.channel s
  moved c s keeps key may = by (held s) refl
    where
      by : (hs : List (Key × ℕ)) → held s ≡ hs → Keeps key.channel s
      by (x ∷ hs) e =
          let on = (held_at c s keeps x (subst (Has x) (sym e) (inl refl))).0 in
          let same = All-head (λ (other : Key × ℕ). (other.0).channel ≡ key.channel) x hs (subst (All (λ (other : Key × ℕ). (other.0).channel ≡ key.channel)) e may.same_channel) in
          subst (λ (d : ℕ). Keeps d s) (sym on ∙ same) keeps
      by [] e = keeps_none key.channel s e keeps.lawful (no_later s key may) (none_unsent key.channel s.journal (sent_all s key may e)) keeps.parked keeps.room

  -- what is counted once counts one at most
  at_most_one : (b : Bool) → cond {A = ℕ} b 1 0 ≤ 1
  at_most_one true = omega arith
  at_most_one false = omega arith

  -- a job comes on the channel
  module _ (s : StationState S) (job : Job) (keeps : Keeps job.key.channel s) (may : MayPut s job.key) (e : put_refusal s job ≡ None) where
    abbrev pub with_job : StationState S
    with_job = record s { waiting = s.waiting ++ job ∷ []; journal = s.journal ++ Came job.key ∷ [] }

    -- what came has another key
    differs : (k : Key) → Contains s.journal (Came k) → k ≢ job.key
    differs k came same = All-contains (IsOther job.key) s.journal (Came k) (never_named s job.key may) came (ap Some same)

    -- no other job that is held has its key
    no_such : (x : Key × ℕ) → Has x (held s) → (k : Key) → job.key ≡ k → is_key x.0 k ≡ false
    no_such x has k same = apart_key x.0 k (λ alike. differs x.0 (held_at job.key.channel s keeps x has).1 (alike ∙ sym same))

    -- what waits is fresh then, the job itself last
    waits_first : (other : Job) → Has other (s.waiting ++ job ∷ []) → (other.key.channel ≡ job.key.channel) × IsFresh other.key (s.journal ++ Came job.key ∷ [])
    waits_first other has = elim (has_append other s.waiting (job ∷ []) has) [
      | inl h ↦ let (on, is) = keeps.waiting other h in (on, request.fresh_on s.journal (Came job.key) job.key refl other.key (differs other.key is.unrun.came) is)
      | inr h ↦ elim h [
        | inl same ↦ subst (λ (x : Job). (x.key.channel ≡ job.key.channel) × IsFresh x.key (s.journal ++ Came job.key ∷ [])) (sym same) (refl, request.comes job.key s.journal (never_named s job.key may))
        | inr none ↦ absurd none
      ]
    ]

    -- on its channel there is room for one more
    few_yet : length (held s) < 128 → (c : ℕ) → adds c (Came job.key) ≡ true → unsent_on c s.journal + 1 ≤ 128
    few_yet less c on = subst (λ (d : ℕ). unsent_on d s.journal + 1 ≤ 128) (eqb-true job.key.channel c on) (omega (arith, keeps.unsent, size_held s, less))

    -- one more of each kind that the job is of
    pub one_more : (p : Key × ℕ → Bool) → tally p with_job ≡ tally p s + cond (p (job.key, job.completion)) 1 0
    one_more p = omega (arith, cnt_append (of_job p) s.waiting (job ∷ []), cnt_one (of_job p) job)

    -- at most one of a kind is held, where at most one was and none was of the job's
    at_once : (p : Key × ℕ → Bool) → tally p s ≤ 1 → (b : Bool) → p (job.key, job.completion) ≡ b → (b ≡ true → (x : Key × ℕ) → Has x (held s) → p x ≡ false) → tally p with_job ≤ 1
    at_once p few true t none =
        let zero : cnt p (held s) ≡ 0 = cnt_none p (held s) (none refl) in
        let own : cond {A = ℕ} (p (job.key, job.completion)) 1 0 ≡ 1 = ap (λ b. cond {A = ℕ} b 1 0) t in
        omega (arith, one_more p, in_one p s, zero, own)
    at_once p few false t none =
        let own : cond {A = ℕ} (p (job.key, job.completion)) 1 0 ≡ 0 = ap (λ b. cond {A = ℕ} b 1 0) t in
        omega (arith, one_more p, few, own)

    -- so it holds once the job came
    pub keeps_come : Keeps job.key.channel with_job
    keeps_come =
        let f = free s job e in
        record {
          lawful = lawful_more s.journal (Came job.key) keeps.lawful (may_come job.key s.journal keeps.low (never_named s job.key may) (above_all s job.key may)) (few_more s.journal (Came job.key) keeps.lawful.few_unsent.1 (few_yet f.2));
          low = low_more job.key.channel s.journal (Came job.key) keeps.low (omega arith);
          waiting = waits_first;
          taken = λ t has. let (on, is) = keeps.taken t has in
              (on, held_on t.removed s.journal (Came job.key) job.key refl t.key (differs t.key (held_came t.removed t.key s.journal is)) is);
          parked_run = λ p has. let (on, is) = keeps.parked_run p has in (on, request.run_on s.journal (Came job.key) job.key refl p.key (differs p.key is.came) is);
          ready_done = λ x has. let (on, is) = keeps.ready_done x has in (on, request.done_on s.journal (Came job.key) job.key refl x.key (differs x.key is.run.came) is);
          unsent = omega (arith, keeps.unsent, unsent_more job.key.channel s.journal (Came job.key), at_most_one (adds job.key.channel (Came job.key)), length-append s.waiting (job ∷ []));
          parked = keeps.parked;
          ready = keeps.ready;
          few = record {
            few = omega (arith, one_more every, cnt_all (held s), in_one every s, f.2);
            ids = λ id. at_once (with_id id) (keeps.few.ids id) (job.completion == id) refl (λ t. λ x has. subst (λ (n : ℕ). (x.1 == n) ≡ false) (eqb-true job.completion id t) (none_found (λ (other : Key × ℕ). other.1 == job.completion) (held s) f.1 x has));
            keys = λ k. at_once (with_key k) (keeps.few.keys k) (is_key job.key k) refl (λ t. λ x has. no_such x has k (same_key job.key k t));
          };
          room = omega (arith, f.3, length-append s.journal (Came job.key ∷ []), length-append s.waiting (job ∷ []));
          idle = λ dead. absurd (cc (f.0, dead));
        }

  -- a job comes, on whatever channel the station was
  pub keeps_put : (c : ℕ) (s : StationState S) → Keeps c s → (job : Job) → MayPut s job.key → put_refusal s job ≡ None
      → Keeps job.key.channel (record s { waiting = s.waiting ++ job ∷ []; journal = s.journal ++ Came job.key ∷ [] })
  keeps_put c s keeps job may e = keeps_come s job (moved c s keeps job.key may) may e

  -- ---- a job is taken, and a completion is collected

  -- the first goes into a hand, fresh as it was
  pub keeps_take : (c : ℕ) (s : StationState S) → Keeps c s → Keeps c (take s).0
  keeps_take c s keeps = by s.ended (first s.waiting refl)
    where
      by : (b : Bool) → Keeps c (take_first s s.waiting).0 → Keeps c (cond {A = StationState S × Given} b (s, given.Over) (take_first s s.waiting)).0
      by true next = keeps
      by false next = next

      first : (ws : List Job) → s.waiting ≡ ws → Keeps c (take_first s ws).0
      first [] e = keeps
      first (job ∷ jobs) e =
          let hand : InHand = record { key = job.key; completion = job.completion; removed = false } in
          record {
            lawful = keeps.lawful;
            low = keeps.low;
            waiting = λ other has. keeps.waiting other (subst (Has other) (sym e) (inr has));
            taken = λ t has. elim (has_append t s.taken (hand ∷ []) has) [
              | inl h ↦ keeps.taken t h
              | inr h ↦ elim h [ inl same ↦ subst (λ (x : InHand). (x.key.channel ≡ c) × IsHeld x.removed x.key s.journal) (sym same) (keeps.waiting job (subst (Has job) (sym e) (inl refl))) | inr none ↦ absurd none ]
            ];
            parked_run = keeps.parked_run;
            ready_done = keeps.ready_done;
            unsent = omega (arith, keeps.unsent, ap (length {A = Job}) e, length-append s.taken (hand ∷ []));
            parked = keeps.parked;
            ready = keeps.ready;
            few = few_stays s (take_first s (job ∷ jobs)).0 (λ p. omega (arith, ap (cnt (of_job p)) e, cnt_cons (of_job p) job jobs, cnt_append (of_hand p) s.taken (hand ∷ []), cnt_one (of_hand p) hand)) keeps.few;
            room = omega (arith, keeps.room, ap (length {A = Job}) e, length-append s.taken (hand ∷ []));
            idle = λ dead. let none : s.waiting ≡ [] = (keeps.idle dead).0 in absurd (cc (none, e));
          }

  -- the completion that was ready first is sent
  module _ (c : ℕ) (s : StationState S) (keeps : Keeps c s) (x : Completion) (rs : List Completion) (e : s.ready ≡ x ∷ rs) where
    -- it is done
    first_done : (x.key.channel ≡ c) × IsDone x.key s.journal
    first_done = keeps.ready_done x (subst (Has x) (sym e) (inl refl))

    -- and its key counts once among those that are ready
    counted : cnt (of_ready (with_key x.key)) s.ready ≡ 1 + cnt (of_ready (with_key x.key)) rs
    counted =
        let one : cond {A = ℕ} (of_ready (with_key x.key) x) 1 0 ≡ 1 = ap (λ b. cond {A = ℕ} b 1 0) (key_self x.key) in
        omega (arith, ap (cnt (of_ready (with_key x.key))) e, cnt_cons (of_ready (with_key x.key)) x rs, one)

    -- so none of the others has its key
    not_again : (y : Completion) → Has y rs → y.key ≢ x.key
    not_again = let none : cnt (of_ready (with_key x.key)) rs ≡ 0 = omega (arith, counted, keeps.few.keys x.key) in none_has ready_key x.key rs none

    -- one less is unsent
    sent_less : unsent_on c (s.journal ++ Sent x.key ∷ []) + 1 ≤ unsent_on c s.journal
    sent_less = subst (λ (d : ℕ). unsent_on d (s.journal ++ Sent x.key ∷ []) + 1 ≤ unsent_on d s.journal) first_done.0 (unsent_sent s.journal x.key first_done.1.run.came first_done.1.run.unsent)

    -- so it holds once that is sent
    keeps_sent : Keeps c (collect_first s (x ∷ rs)).0
    keeps_sent = record {
      lawful = lawful_still s.journal (Sent x.key) keeps.lawful (may_send x.key s.journal (low_at c s keeps x.key first_done.0) first_done.1) (λ d. refl);
      low = low_more c s.journal (Sent x.key) keeps.low (omega (arith, first_done.0));
      waiting = λ job has. let (on, is) = keeps.waiting job has in
          (on, request.fresh_on s.journal (Sent x.key) x.key refl job.key (none_waits s keeps.few x.key (omega (arith, counted)) job has) is);
      taken = λ t has. let (on, is) = keeps.taken t has in
          (on, held_on t.removed s.journal (Sent x.key) x.key refl t.key (none_in_hand s keeps.few x.key (omega (arith, counted)) t has) is);
      parked_run = λ p has. let (on, is) = keeps.parked_run p has in
          (on, request.run_on s.journal (Sent x.key) x.key refl p.key (none_parked s keeps.few x.key (omega (arith, counted)) p has) is);
      ready_done = λ y has. let (on, is) = keeps.ready_done y (subst (Has y) (sym e) (inr has)) in
          (on, request.done_on s.journal (Sent x.key) x.key refl y.key (not_again y has) is);
      unsent = omega (arith, keeps.unsent, sent_less, ap (length {A = Completion}) e);
      parked = keeps.parked;
      ready = λ y has. keeps.ready y (subst (Has y) (sym e) (inr has));
      few = few_stays s (collect_first s (x ∷ rs)).0 (λ p. omega (arith, ap (cnt (of_ready p)) e, cnt_cons (of_ready p) x rs)) keeps.few;
      room = omega (arith, keeps.room, ap (length {A = Completion}) e, length-append s.journal (Sent x.key ∷ []));
      idle = keeps.idle;
    }

  -- a completion is collected
  pub keeps_collect : (c : ℕ) (s : StationState S) → Keeps c s → Keeps c (collect s).0
  keeps_collect c s keeps = by s.ready refl
    where
      by : (rs : List Completion) → s.ready ≡ rs → Keeps c (collect_first s rs).0
      by [] e = keeps
      by (x ∷ rs) e = keeps_sent c s keeps x rs e

  -- ---- a job is given back

  -- a cancellation completes a request of any layout
  gives_up : (kind : Kind) → CompletesKind kind cancellation
  gives_up kind = ((refl, tt), tt)

  module _ (c : ℕ) (s : StationState S) (keeps : Keeps c s) (t : InHand) (has : Has t s.taken) where
    once : 1 ≤ cnt (of_hand (with_key t.key)) s.taken
    once = hand_once s keeps.few t has

    -- it is in a hand once, so one is left the fewer
    pub one_less : length (without_taken t.key s.taken) + 1 ≡ length s.taken
    one_less = without_one s keeps.few t has

    -- it came on the channel
    on_its : t.key.channel ≡ c
    on_its = (keeps.taken t has).0

    -- overtaken or fresh
    held_as : (removed : Bool) → t.removed ≡ removed → IsHeld removed t.key s.journal
    held_as removed e = subst (λ b. IsHeld b t.key s.journal) e (keeps.taken t has).1

    -- an entry that names it leaves the others as they were
    module _ (x : Item) (names : named_key x ≡ Some t.key) where
      waiting_on : (job : Job) → Has job s.waiting → (job.key.channel ≡ c) × IsFresh job.key (s.journal ++ x ∷ [])
      waiting_on job among = let (on, is) = keeps.waiting job among in
          (on, request.fresh_on s.journal x t.key names job.key (none_waits s keeps.few t.key (omega (arith, once)) job among) is)

      taken_on : (other : InHand) → Has other (without_taken t.key s.taken) → (other.key.channel ≡ c) × IsHeld other.removed other.key (s.journal ++ x ∷ [])
      taken_on other among =
          let (there, apart) = other_hand t.key other s.taken among in
          let (on, is) = keeps.taken other there in
          (on, held_on other.removed s.journal x t.key names other.key apart is)

      parked_on : (p : ParkedJob) → Has p s.parked → (p.key.channel ≡ c) × IsRun p.key (s.journal ++ x ∷ [])
      parked_on p among = let (on, is) = keeps.parked_run p among in
          (on, request.run_on s.journal x t.key names p.key (none_parked s keeps.few t.key (omega (arith, once)) p among) is)

      ended_by : MayEnd x → (p : ParkedJob) → Has p s.parked → (p.key.channel ≡ c) × IsDone p.key (s.journal ++ x ∷ [])
      ended_by may p among = let (on, is) = keeps.parked_run p among in
          (on, request.ends_by s.journal x t.key names p.key (none_parked s keeps.few t.key (omega (arith, once)) p among) may is)

      ready_on : (y : Completion) → Has y s.ready → (y.key.channel ≡ c) × IsDone y.key (s.journal ++ x ∷ [])
      ready_on y among = let (on, is) = keeps.ready_done y among in
          (on, request.done_on s.journal x t.key names y.key (none_ready s keeps.few t.key once y among) is)

    -- the device was removed since it came, so it is cancelled
    pub keeps_cancel : t.removed ≡ true → (kind : Kind) → Keeps c (cancelled_in_hand s t kind)
    keeps_cancel gone kind =
        let given_up = completion_of t.key t.completion kind cancellation in
        let over = held_as true gone in
        record {
          lawful = lawful_still s.journal (Cancelled t.key) keeps.lawful (may_cancel t.key s.journal (low_at c s keeps t.key on_its) over) (λ d. refl);
          low = low_more c s.journal (Cancelled t.key) keeps.low (omega (arith, on_its));
          waiting = waiting_on (Cancelled t.key) refl;
          taken = taken_on (Cancelled t.key) refl;
          parked_run = parked_on (Cancelled t.key) refl;
          ready_done = λ x there. elim (has_append x s.ready (given_up ∷ []) there) [
            | inl h ↦ ready_on (Cancelled t.key) refl x h
            | inr h ↦ elim h [
              | inl same ↦ subst (λ (y : Completion). (y.key.channel ≡ c) × IsDone y.key (s.journal ++ Cancelled t.key ∷ [])) (sym same) (on_its, request.cancels t.key s.journal over.unrun)
              | inr none ↦ absurd none
            ]
          ];
          unsent = omega (arith, keeps.unsent, unsent_more c s.journal (Cancelled t.key), one_less, length-append s.ready (given_up ∷ []));
          parked = keeps.parked;
          ready = λ x there. elim (has_append x s.ready (given_up ∷ []) there) [
            | inl h ↦ keeps.ready x h
            | inr h ↦ elim h [ inl same ↦ subst (λ (y : Completion). CompletesKind y.kind y.reply) (sym same) (gives_up kind) | inr none ↦ absurd none ]
          ];
          few = few_stays s (cancelled_in_hand s t kind) (λ p. omega (arith, one_gone (of_hand p) (λ (x : InHand). not (is_key x.key t.key)) t (ap not (key_self t.key)) s.taken has, cnt_append (of_ready p) s.ready (given_up ∷ []), cnt_one (of_ready p) given_up)) keeps.few;
          room = omega (arith, keeps.room, one_less, length-append s.journal (Cancelled t.key ∷ []), length-append s.ready (given_up ∷ []));
          idle = λ dead. let idle = keeps.idle dead in (idle.0, idle.1, λ x there. idle.2 x (filter_has (λ (y : InHand). not (is_key y.key t.key)) x s.taken there).0);
        }

  -- it waits or its completion is ready, and not both
  own_tally : (p : Key × ℕ → Bool) (t : InHand) (kind : Kind) (answer : Step)
      → cnt (of_parked p) (cond (is_parked answer) (record { key = t.key; completion = t.completion; kind = kind } ∷ []) []) + cnt (of_ready p) (own_completion t kind answer) ≡ cond (p (t.key, t.completion)) 1 0
  own_tally p t kind step.Parked = omega (arith, cnt_one (of_parked p) (record { key = t.key; completion = t.completion; kind = kind }), cnt_nil (of_ready p))
  own_tally p t kind (step.Reply reply) = omega (arith, cnt_nil (of_parked p), cnt_one (of_ready p) (completion_of t.key t.completion kind reply))

  -- what waits by it is what the device says
  own_as_parked : (job : Job) (t : InHand) → t.key ≡ job.key → (answer : Step) → map as_parked (cond (is_parked answer) (record { key = t.key; completion = t.completion; kind = kind_of job.op } ∷ []) []) ≡ parked_by job answer
  own_as_parked job t same step.Parked = λ i. record { key = same i; kind = kind_of job.op } ∷ []
  own_as_parked job t same (step.Reply reply) = refl

  -- its own completion fits
  own_completes : (job : Job) (t : InHand) (answer : Step) → IsAnswerTo job.op answer → (x : Completion) → Has x (own_completion t (kind_of job.op) answer) → CompletesKind x.kind x.reply
  own_completes job t (step.Reply reply) is x has = elim has [ inl same ↦ subst (λ (y : Completion). CompletesKind y.kind y.reply) (sym same) is | inr none ↦ absurd none ]
  own_completes job t step.Parked is x has = absurd has

  -- the job itself waits with its key, or its completion has it
  own_key : (t : InHand) (kind : Kind) (answer : Step) (p : ParkedJob) → Has p (cond (is_parked answer) (record { key = t.key; completion = t.completion; kind = kind } ∷ []) []) → p.key ≡ t.key
  own_key t kind step.Parked p has = elim has [ inl same ↦ ap parked_key same | inr none ↦ absurd none ]
  own_key t kind (step.Reply reply) p none = absurd none

  -- and then it is done
  own_done : (t : InHand) (kind : Kind) (j : List Item) (moment : ℕ) (answer : Step) → IsFresh t.key j → (x : Completion) → Has x (own_completion t kind answer)
      → (x.key ≡ t.key) × IsDone t.key (j ++ Ran t.key moment (is_starved answer) (is_parked answer) ∷ [])
  own_done t kind j moment (step.Reply reply) fresh x has = (elim has [ inl same ↦ ap ready_key same | inr none ↦ absurd none ], request.answers t.key j moment (is_starved (step.Reply reply)) fresh)
  own_done t kind j moment step.Parked fresh x none = absurd none

  -- a job is run, and others may end by that
  module _ (c : ℕ) (s : StationState S) (keeps : Keeps c s) (t : InHand) (has : Has t s.taken) (here : t.removed ≡ false) (job : Job) (same : t.key ≡ job.key) (moment : ℕ) (came : Stepped S)
      (answers : IsAnswerTo job.op came.answer) (parks : Parks job (parked_in s.device) came.answer came.ends (parked_in came.state)) where
    abbrev entry : Item
    entry = Ran t.key moment (is_starved came.answer) (is_parked came.answer)

    abbrev pub own : List Completion
    own = own_completion t (kind_of job.op) came.answer

    abbrev pub own_parked : List ParkedJob
    own_parked = cond (is_parked came.answer) (record { key = t.key; completion = t.completion; kind = kind_of job.op } ∷ []) []

    abbrev pub by_ends : List Completion
    by_ends = flat_map (ended_completion s.parked) came.ends

    abbrev pub left_parked : List ParkedJob
    left_parked = filter (λ p. not (is_ended came.ends p)) s.parked

    -- it was fresh, and on the channel
    fresh : IsFresh t.key s.journal
    fresh = held_as c s keeps t has false here

    on_hand : t.key.channel ≡ c
    on_hand = (keeps.taken t has).0

    -- no two jobs that waited had the same key
    apart : AreApart (map parked_key s.parked)
    apart = parked_apart s keeps.few

    -- those that end, as the station has it
    ended : AreEnded (map as_parked s.parked) came.ends parks.left
    ended = subst (λ (ps : List Parked). AreEnded ps came.ends parks.left) (sym keeps.parked) parks.ended

    -- nor have two ends
    ends_apart : AreApart (map end_key came.ends)
    ends_apart = (ends_distinct (map as_parked s.parked) came.ends parks.left ended (subst AreApart (sym (same_keys s.parked)) apart)).0

    -- what waits inside the device then, ran
    parked_then : (p : ParkedJob) → Has p (left_parked ++ own_parked) → (p.key.channel ≡ c) × IsRun p.key (s.journal ++ entry ∷ [])
    parked_then p there = elim (has_append p left_parked own_parked there) [
      | inl h ↦ parked_on c s keeps t has entry refl p (filter_has (λ (q : ParkedJob). not (is_ended came.ends q)) p s.parked h).0
      | inr h ↦ subst (λ (k : Key). (k.channel ≡ c) × IsRun k (s.journal ++ entry ∷ [])) (sym (own_key t (kind_of job.op) came.answer p h))
          (on_hand, request.runs t.key s.journal moment (is_starved came.answer) (is_parked came.answer) fresh)
    ]

    -- what is ready then, is done
    ready_then : (x : Completion) → Has x (s.ready ++ own ++ by_ends) → (x.key.channel ≡ c) × IsDone x.key (s.journal ++ entry ∷ [])
    ready_then x there = elim (has_append x (s.ready ++ own) by_ends there) [
      | inl h ↦ elim (has_append x s.ready own h) [
        | inl g ↦ ready_on c s keeps t has entry refl x g
        | inr g ↦ let (key, done) = own_done t (kind_of job.op) s.journal moment came.answer fresh x g in
            subst (λ (k : Key). (k.channel ≡ c) × IsDone k (s.journal ++ entry ∷ [])) (sym key) (on_hand, done)
      ]
      | inr h ↦ let (p, among, key) = ended_key s.parked came.ends x h in
          subst (λ (k : Key). (k.channel ≡ c) × IsDone k (s.journal ++ entry ∷ [])) (sym key) (ended_by c s keeps t has entry refl tt p among)
    ]

    -- and fits
    completes_then : (x : Completion) → Has x (s.ready ++ own ++ by_ends) → CompletesKind x.kind x.reply
    completes_then x there = elim (has_append x (s.ready ++ own) by_ends there) [
      | inl h ↦ elim (has_append x s.ready own h) [ inl g ↦ keeps.ready x g | inr g ↦ own_completes job t came.answer answers x g ]
      | inr h ↦ ends_complete s.parked came.ends parks.left ended apart x h
    ]

    -- how many of a kind there are then
    sizes : (p : Key × ℕ → Bool) → cnt (of_parked p) (left_parked ++ own_parked) ≡ cnt (of_parked p) left_parked + cnt (of_parked p) own_parked
    sizes p = cnt_append (of_parked p) left_parked own_parked

    ready_sizes : (p : Key × ℕ → Bool) → cnt (of_ready p) (s.ready ++ own ++ by_ends) ≡ cnt (of_ready p) s.ready + cnt (of_ready p) own + cnt (of_ready p) by_ends
    ready_sizes p = omega (arith, cnt_append (of_ready p) (s.ready ++ own) by_ends, cnt_append (of_ready p) s.ready own)

    -- which are no more than before
    pub less : (p : Key × ℕ → Bool) → cnt (of_parked p) (left_parked ++ own_parked) + cnt (of_ready p) (s.ready ++ own ++ by_ends) ≤ cnt (of_parked p) s.parked + cnt (of_ready p) s.ready + cond (p (t.key, t.completion)) 1 0
    less p = omega (arith, sizes p, ready_sizes p, own_tally p t (kind_of job.op) came.answer, no_more p s.parked came.ends ends_apart)

    -- as many are held as before
    pub as_many : length (left_parked ++ own_parked) + length (s.ready ++ own ++ by_ends) ≡ length s.parked + length s.ready + 1
    as_many = omega (
      arith,
      less every,
      sizes every,
      ready_sizes every,
      own_tally every t (kind_of job.op) came.answer,
      none_lost s.parked came.ends parks.left ended apart,
      cnt_all (left_parked ++ own_parked),
      cnt_all (s.ready ++ own ++ by_ends),
      cnt_all by_ends,
      cnt_all left_parked,
      cnt_all s.parked,
      cnt_all s.ready,
    )

    -- so it holds once the job ran
    pub keeps_run : Keeps c (ran s t (kind_of job.op) moment came)
    keeps_run = record {
      lawful = lawful_still s.journal entry keeps.lawful (may_run t.key s.journal (low_at c s keeps t.key on_hand) moment (is_starved came.answer) (is_parked came.answer) fresh) (λ d. refl);
      low = low_more c s.journal entry keeps.low (omega (arith, on_hand));
      waiting = waiting_on c s keeps t has entry refl;
      taken = taken_on c s keeps t has entry refl;
      parked_run = parked_then;
      ready_done = ready_then;
      unsent = omega (arith, keeps.unsent, unsent_more c s.journal entry, one_less c s keeps t has, as_many);
      parked = map-append as_parked left_parked own_parked ∙ (λ i. left_is s.parked came.ends parks.left ended apart i ++ own_as_parked job t same came.answer i) ∙ sym parks.waits;
      ready = completes_then;
      few = few_stays s (ran s t (kind_of job.op) moment came) (λ p. omega (arith, less p, one_gone (of_hand p) (λ (x : InHand). not (is_key x.key t.key)) t (ap not (key_self t.key)) s.taken has)) keeps.few;
      room = omega (arith, keeps.room, one_less c s keeps t has, length-append s.journal (entry ∷ []), as_many);
      idle = λ dead. let gone : t.removed ≡ true = (keeps.idle dead).2 t has in absurd (cc (gone, here));
    }

  -- ---- the device is cut off

  module _ (c : ℕ) (s : StationState S) (keeps : Keeps c s) (cut : S) where
    abbrev removed_at : List Item
    removed_at = s.journal ++ Cut Removed ∷ []

    -- the removal overtook what waited
    overtaken : AreOvertaken c s.waiting removed_at
    overtaken = record {
      lawful = lawful_still s.journal (Cut Removed) keeps.lawful (may_cut s.journal Removed) (λ d. refl);
      low = low_more c s.journal (Cut Removed) keeps.low tt;
      apart = waiting_apart s keeps.few;
      over = λ job has. let (on, is) = keeps.waiting job has in (on, request.removes job.key s.journal is);
    }

    -- and then that was cancelled
    all_cancelled : AreCancelled c s.waiting removed_at (removed_at ++ cancellations s.waiting)
    all_cancelled = cancels_each c s.waiting removed_at overtaken

    -- what none of those that waited has the key of
    not_among : (k : Key) → 1 ≤ cnt (of_hand (with_key k)) s.taken + cnt (of_parked (with_key k)) s.parked + cnt (of_ready (with_key k)) s.ready → ¬ (Has k (map job_key s.waiting))
    not_among k one has = let (job, among, same) = map_has job_key k s.waiting has in none_waits s keeps.few k one job among (sym same)

    -- what was done stays so
    done_then : (k : Key) → 1 ≤ cnt (of_hand (with_key k)) s.taken + cnt (of_parked (with_key k)) s.parked + cnt (of_ready (with_key k)) s.ready → IsDone k removed_at → IsDone k (removed_at ++ cancellations s.waiting)
    done_then k one is = cancels_leave (IsDone k) k (λ j l apart. request.done_on j (Cancelled l) l refl k apart) s.waiting (not_among k one) removed_at is

    -- what is in hands was overtaken
    taken_then : (t : InHand) → Has t (map marked_removed s.taken) → (t.key.channel ≡ c) × IsHeld t.removed t.key (removed_at ++ cancellations s.waiting)
    taken_then t has =
        let (u, among, same) = map_has marked_removed t s.taken has in
        let (on, is) = keeps.taken u among in
        subst (λ (x : InHand). (x.key.channel ≡ c) × IsHeld x.removed x.key (removed_at ++ cancellations s.waiting)) (sym same) (
          on,
          cancels_leave (IsOvertaken u.key) u.key (λ j l apart. request.overtaken_on j (Cancelled l) l refl u.key apart) s.waiting
              (not_among u.key (omega (arith, hand_once s keeps.few u among))) removed_at (held_removed u.removed u.key s.journal is),
        )

    -- what is ready is done: it was, or it waited inside the device, or no hand took it
    ready_after : (x : Completion) → Has x (s.ready ++ map cancelled_parked s.parked ++ map cancelled_waiting s.waiting) → (x.key.channel ≡ c) × IsDone x.key (removed_at ++ cancellations s.waiting)
    ready_after x has = elim (has_append x (s.ready ++ map cancelled_parked s.parked) (map cancelled_waiting s.waiting) has) [
      | inl h ↦ elim (has_append x s.ready (map cancelled_parked s.parked) h) [
        | inl g ↦
            let (on, is) = keeps.ready_done x g in
            let one = cnt_some (of_ready (with_key x.key)) x s.ready g (key_self x.key) in
            (on, done_then x.key (omega (arith, one)) (request.done_stays x.key s.journal (Cut Removed) (λ e. cc) (λ e. cc) is))
        | inr g ↦
            let (p, among, same) = map_has cancelled_parked x s.parked g in
            let (on, is) = keeps.parked_run p among in
            let one = cnt_some (of_parked (with_key p.key)) p s.parked among (key_self p.key) in
            subst (λ (y : Completion). (y.key.channel ≡ c) × IsDone y.key (removed_at ++ cancellations s.waiting)) (sym same)
            (on, done_then p.key (omega (arith, one)) (request.ends p.key s.journal (Cut Removed) (λ e. cc) (λ e. cc) tt is))
      ]
      | inr h ↦
          let (job, among, same) = map_has cancelled_waiting x s.waiting h in
          subst (λ (y : Completion). (y.key.channel ≡ c) × IsDone y.key (removed_at ++ cancellations s.waiting)) (sym same) ((keeps.waiting job among).0, all_cancelled.done job among)
    ]

    -- and fits
    completes_after : (x : Completion) → Has x (s.ready ++ map cancelled_parked s.parked ++ map cancelled_waiting s.waiting) → CompletesKind x.kind x.reply
    completes_after x there = elim (has_append x (s.ready ++ map cancelled_parked s.parked) (map cancelled_waiting s.waiting) there) [
      | inl h ↦ elim (has_append x s.ready (map cancelled_parked s.parked) h) [
        | inl g ↦ keeps.ready x g
        | inr g ↦ let found = map_has cancelled_parked x s.parked g in subst (λ (y : Completion). CompletesKind y.kind y.reply) (sym found.2) (gives_up (found.0).kind)
      ]
      | inr h ↦ let found = map_has cancelled_waiting x s.waiting h in subst (λ (y : Completion). CompletesKind y.kind y.reply) (sym found.2) (gives_up (kind_of (found.0).op))
    ]

    -- the station then, with a journal
    abbrev removed_with : List Item → StationState S
    removed_with j = record s {
      device = cut;
      live = false;
      waiting = [];
      taken = map marked_removed s.taken;
      parked = [];
      ready = s.ready ++ map cancelled_parked s.parked ++ map cancelled_waiting s.waiting;
      journal = j;
    }

    -- so it holds once the device is removed, by the cut and then the cancellations
    keeps_removed : s.live ≡ true → parked_in cut ≡ [] → Keeps c (removed_with (removed_at ++ cancellations s.waiting))
    keeps_removed e none = record {
      lawful = all_cancelled.lawful;
      low = all_cancelled.low;
      waiting = λ job has. absurd has;
      taken = taken_then;
      parked_run = λ p has. absurd has;
      ready_done = ready_after;
      unsent = omega (arith, keeps.unsent, all_cancelled.unsent, unsent_more c s.journal (Cut Removed), length-map s.taken marked_removed, sized);
      parked = sym none;
      ready = completes_after;
      few = few_stays s (removed_with (removed_at ++ cancellations s.waiting)) (λ p. omega (
        arith,
        cnt_nil (of_job p),
        cnt_nil (of_parked p),
        cnt_map (of_hand p) marked_removed s.taken,
        cnt_append (of_ready p) (s.ready ++ map cancelled_parked s.parked) (map cancelled_waiting s.waiting),
        cnt_append (of_ready p) s.ready (map cancelled_parked s.parked),
        cnt_map (of_ready p) cancelled_parked s.parked,
        cnt_map (of_ready p) cancelled_waiting s.waiting,
      )) keeps.few;
      room = omega (
        arith,
        keeps.room,
        ap (λ b. cond {A = ℕ} b 1 0) e,
        length-append removed_at (cancellations s.waiting),
        length-append s.journal (Cut Removed ∷ []),
        length-map s.waiting (λ (job : Job). Cancelled job.key),
        length-map s.taken marked_removed,
        sized,
      );
      idle = λ dead. (refl, refl, λ t has. let found = map_has marked_removed t s.taken has in ap (λ (x : InHand). x.removed) found.2);
    }
      where
        sized : length (s.ready ++ map cancelled_parked s.parked ++ map cancelled_waiting s.waiting) ≡ length s.ready + length s.parked + length s.waiting
        sized = omega (
          arith,
          length-append (s.ready ++ map cancelled_parked s.parked) (map cancelled_waiting s.waiting),
          length-append s.ready (map cancelled_parked s.parked),
          length-map s.parked cancelled_parked,
          length-map s.waiting cancelled_waiting,
        )

    -- a live device is removed, and one that is gone already stays as it is
    pub keeps_remove : (s.live ≡ true → parked_in cut ≡ []) → Keeps c (remove s cut).0
    keeps_remove none = by s.live refl
      where
        by : (b : Bool) → s.live ≡ b → Keeps c (cond {A = StationState S × Bool} (not b) (s, false) (removed_with (s.journal ++ Cut Removed ∷ cancellations s.waiting), true)).0
        by false e = keeps
        by true e = subst (λ (j : List Item). Keeps c (removed_with j)) (append_assoc s.journal (Cut Removed ∷ []) (cancellations s.waiting)) (keeps_removed e (none e))

    -- ---- the channel ended

    -- no entry names a channel that is later than the next
    later : NoneAboveChannel (suc c) s.journal
    later = All-weaker (λ entry. IfSome (named_key entry) (λ k. k.channel ≤ c)) (λ entry. IfSome (named_key entry) (λ k. k.channel ≤ suc c)) (λ x. on (named_key x)) s.journal keeps.low
      where
        on : (o : Option Key) → IfSome o (λ k. k.channel ≤ c) → IfSome o (λ k. k.channel ≤ suc c)
        on None is = tt
        on (Some k) is = omega (arith, is)

    -- nothing came on a later one
    nothing_unsent : unsent_on (suc c) s.journal ≡ 0
    nothing_unsent = none_unsent (suc c) s.journal (λ key on came. let low : key.channel ≤ c = All-contains (λ entry. IfSome (named_key entry) (λ k. k.channel ≤ c)) s.journal (Came key) keeps.low came in absurd (omega (arith, low, on)))

    -- nothing is held any more, and the next channel follows
    pub keeps_drop : (s.live ≡ true → parked_in cut ≡ []) → Keeps (suc c) (drop_channel s cut)
    keeps_drop none = by s.live refl
      where
        by : (b : Bool) → s.live ≡ b → Keeps (suc c) (cond b (record (emptied s) { device = cut; live = false; journal = s.journal ++ Cut Dropped ∷ [] }) (emptied s))
        by true e = keeps_none (suc c) (record (emptied s) { device = cut; live = false; journal = s.journal ++ Cut Dropped ∷ [] }) refl
            (lawful_still s.journal (Cut Dropped) keeps.lawful (may_cut s.journal Dropped) (λ d. refl))
            (low_more (suc c) s.journal (Cut Dropped) later tt)
            (omega (arith, nothing_unsent, unsent_more (suc c) s.journal (Cut Dropped)))
            (sym (none e))
            (omega (arith, keeps.room, ap (λ b. cond {A = ℕ} b 1 0) e, length-append s.journal (Cut Dropped ∷ [])))
        by false e = keeps_none (suc c) (emptied s) refl keeps.lawful later nothing_unsent (sym (ap (map as_parked) (keeps.idle e).1) ∙ keeps.parked) (omega (arith, keeps.room))

  -- ---- the host is told

  -- jobs may come, and that takes one place of the journal
  pub keeps_announce : (c : ℕ) (s : StationState S) → Keeps c s → Keeps c (announce s).0
  keeps_announce c s keeps = by s.live refl (nat_le max_entries (entry_count s)) refl
    where
      by : (a : Bool) → s.live ≡ a → (b : Bool) → nat_le max_entries (entry_count s) ≡ b
          → Keeps c (cond {A = StationState S × Result (Unit {0}) AnnounceNo} a (s, Err refused.Live) (cond b (s, Err (refused.Worn (entry_count s))) (record s { live = true }, Ok tt))).0
      by true e b f = keeps
      by false e true f = keeps
      by false e false f = record {
        lawful = keeps.lawful;
        low = keeps.low;
        waiting = keeps.waiting;
        taken = keeps.taken;
        parked_run = keeps.parked_run;
        ready_done = keeps.ready_done;
        unsent = keeps.unsent;
        parked = keeps.parked;
        ready = keeps.ready;
        few = few_stays s (record s { live = true }) (λ p. omega arith) keeps.few;
        room = omega (arith, keeps.room, leb-false max_entries (entry_count s) f, ap (λ b. cond {A = ℕ} b 1 0) e);
        idle = λ dead. absurd (cc (dead));
      }
