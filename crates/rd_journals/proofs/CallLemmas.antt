-- What each call of a station keeps, whatever the channel.
use Rattle.std.proofs.Common.{◌≡◌, ◌⊎◌, ◌∙◌, refl, sym, ap, subst, inl, inr, ℕ, ◌+◌, ◌<◌, ◌≤◌, Bool, true, false, cond, not, List, [], ◌∷◌, ◌++◌, length, map, arith, append-nil}
use Rattle.std.specs.Prelude.{Err, IfSome, None, Ok, Option, Result, Some, filter, find, nat_le, nat_lt}
use Rattle.std.specs.List.{AllByRecursion}
use Rattle.std.specs.Map.{lookup}
use Rattle.std.specs.Option.{option_map}
use Rattle.std.specs.Ordering.{nat_cmp}
use Rattle.std.specs.BTreeMap.{is_at}
use Rattle.std.proofs.lemmas.Bool.Decides.{nat_tests}
use Rattle.rd_base.specs.Lawful.{IsBelow, named_key}
use Rattle.rd_base.specs.declared.journal.Cause.TheVariants.{Dropped, Removed}
use Rattle.rd_base.specs.declared.journal.Item.{Item}
use Rattle.rd_base.specs.declared.journal.Item.TheVariants.{Came, Cancelled, Cut}
use Rattle.rd_base.specs.declared.journal.Key.{Key}
use Rattle.rd_drive.specs.Device.{is_parked}
use Rattle.rd_drive.specs.Planned.{Planned}
use Rattle.rd_drive.specs.Promise.{CutsOff}
use Rattle.rd_drive.specs.Stepped.{Stepped}
use Rattle.rd_drive.specs.declared.plan.Job.{Job}
use Rattle.rd_irp.specs.Fits.{kind_of}
use Rattle.rd_station.specs.Memory.{NamesKey, after_come, after_drop}
use Rattle.rd_station.specs.Station as station
use Rattle.rd_station.specs.Station.{CameOf, IsKnown, MayPut, StationCall, StationState, StationStep, announce, announces, applies, apply, apply_from, cancelled_in_hand, cancelled_parked, cancelled_waiting, collect, collect_first, collects, drop_channel, drops, emptied, entry_count, held, is_key, marked_removed, max_entries, new_station, put_refusal, puts, ran, remove, removes, reserved, take, take_first, takes}
use Rattle.rd_station.specs.declared.answers.Applied.{Applied}
use Rattle.rd_station.specs.declared.answers.Applied.TheVariants as applied
use Rattle.rd_station.specs.declared.answers.Completion.{Completion}
use Rattle.rd_station.specs.declared.answers.Given.{Given}
use Rattle.rd_station.specs.declared.answers.Given.TheVariants as given
use Rattle.rd_station.specs.declared.held.InHand.{InHand}
use Rattle.rd_station.specs.declared.refusals.AnnounceNo.{AnnounceNo}
use Rattle.rd_station.specs.declared.refusals.AnnounceNo.TheVariants as refused
use Rattle.rd_station.proofs.Members.{all_of, find_has, has_append, to_contains}
use Rattle.rd_station.proofs.Remembering.{has_any}
use Rattle.rd_station.proofs.Soundness.{cancelled_then, collected_first, ran_then, removed_then, sound_announce, sound_cancel, sound_collect, sound_drop, sound_new, sound_put, sound_remove, sound_run, sound_take, taken_first}
use Rattle.rd_declared.specs.Devices.{device_cuts, device_parked, device_runs}
use Rattle.rd_deeds.specs.Talk.{Has}
use Rattle.rd_declared.specs.declared.device.SessionDevice.{SessionDevice}
use Rattle.rd_world.proofs.KeysLemmas.{Comes, MayStore, step_names, step_stores}
use Rattle.rd_journals.specs.Stations.{IsFit, IsIdle, IsOn}

abbrev Of : Type 0
Of = StationState SessionDevice

-- the job that comes by a call, or is run by it
abbrev pub OfJob : (Job → Type 0) → StationCall → Type 0
OfJob J (puts job None) = J job
OfJob J (applies planned moment answer) = J planned.job
OfJob J _ = Unit {0}

abbrev pub AnyJob : Job → Type 0
AnyJob job = Unit {0}

-- A station goes on: it stores these entries, by which no key is named that wasn't before, but for new ones; and it is as it should be on a channel.
-- It does a call, with a job of which this holds, or nothing.
pub record Goes (New : Key → Type 0) (J : Job → Type 0) (c : ℕ) (old new : Of) : Type 0 where
  pub more : List Item
  pub longer : new.journal ≡ old.journal ++ more
  pub comes : (key : Key) → Has (Came key) more → New key
  pub names : (key : Key) → NamesKey new.journal key → NamesKey old.journal key ⊎ New key
  pub on : IsOn c new
  pub did : (new ≡ old) ⊎ ((call : StationCall) × StationStep device_runs device_parked device_cuts old call new × OfJob J call)
  pub waits : (job : Job) → Has job new.waiting → Has job old.waiting ⊎ J job

abbrev pub NoKey : Key → Type 0
NoKey key = ⊥

pub goes_not : (J : Job → Type 0) (c : ℕ) (s : Of) → IsOn c s → Goes NoKey J c s s
goes_not J c s on = record { more = []; longer = sym (append-nil s.journal); comes = λ key none. none; names = λ key names. inl names; on = on; did = inl refl; waits = λ job has. inl has }

come_by : (call : StationCall) (more : List Item) → AllByRecursion (MayStore call) more → (key : Key) → Has (Came key) more → Comes call key
come_by call [] all key none = absurd none
come_by call (x ∷ more) all key (inl here) = subst (MayStore call) (sym here) all.0
come_by call (x ∷ more) all key (inr later) = come_by call more all.1 key later

goes_by : (J : Job → Type 0) (call : StationCall) (c : ℕ) (old new : Of) → OfJob J call → ((job : Job) → Has job new.waiting → Has job old.waiting ⊎ J job) → StationStep device_runs device_parked device_cuts old call new → IsOn c new → Goes (Comes call) J c old new
goes_by J call c old new of waits step on =
    let stores = step_stores old new call step in record {
      more = stores.more;
      longer = stores.longer;
      comes = come_by call stores.more stores.each;
      names = step_names call old new step on.sound.reached;
      on = on;
      did = inr (call, step, of);
      waits = waits;
    }

-- ---- which jobs may come

some_held : (s : Of) → IsIdle s → (x : Key × ℕ) → Has x (held s) → ⊥
some_held s idle x has = subst (λ (hs : List (Key × ℕ)). Has x hs) (none_held s idle) has
  where
    none_held : (s : Of) → IsIdle s → held s ≡ []
    none_held s (a, b, c, d) = λ i. map (λ (job : Job). (job.key, job.completion)) (a i) ++ map (λ (t : InHand). (t.key, t.completion)) (b i) ++ map (λ p. (p.key, p.completion)) (c i) ++ map (λ (y : Completion). (y.key, y.completion)) (d i)

each_named : (P : Key → Type 0) (j more : List Item) → ((x : Item) → Has x more → Has x j) → ((key : Key) → NamesKey j key → P key) → (x : Item) → Has x more → IfSome (named_key x) P
each_named P j more within each x has = by (named_key x) refl
  where
    by : (o : Option Key) → named_key x ≡ o → IfSome o P
    by None e = tt
    by (Some key) e = each key (has_any (λ entry. named_key entry ≡ Some key) j x (within x has) e)

-- A key of the channel that is above all that are named may come.
pub may_put : (c : ℕ) (s : Of) (key : Key) → IsOn c s → key.channel ≡ c → ((earlier : Key) → NamesKey s.journal earlier → IsBelow earlier key) → MayPut s key
may_put c s key on here above = record {
  above = all_of (λ entry. IfSome (named_key entry) (λ earlier. IsBelow earlier key)) s.journal (each_named (λ earlier. IsBelow earlier key) s.journal s.journal (λ x has. has) above);
  same_channel = all_of (λ (other : Key × ℕ). (other.0).channel ≡ key.channel) (held s) (λ x has.
      let (last, is, same) = on.sound.remembers.channel x (to_contains (held s) x has) in
      elim (on.last last is) [ inl at ↦ same ∙ at ∙ sym here | inr idle ↦ absurd (some_held s idle x has) ]);
  forgotten = all_of (λ entry. IfSome (named_key entry) (λ earlier. IsKnown s earlier ⊎ (earlier.channel < key.channel))) s.journal (each_named (λ earlier. IsKnown s earlier ⊎ (earlier.channel < key.channel)) s.journal s.journal (λ x has. has)
      (λ earlier names. elim (on.sound.remembers.known earlier names) [
        | inl known ↦ inl known
        | inr (f, is, low) ↦ inr (omega (arith, on.forgotten f is, low, here))
      ]));
}

-- ---- the keys that a station finds by completion ids

by_either : (a b : ℕ) → is_at (nat_cmp a) b ≡ is_at (nat_cmp b) a
by_either a b = grind (arith, nat_tests)

without : ℕ → List (ℕ × Key) → List (ℕ × Key)
without id keys = filter (λ (e : ℕ × Key). not (is_at (nat_cmp id) e.0)) keys

same_as : (a b n : ℕ) → is_at (nat_cmp a) b ≡ true → is_at (nat_cmp n) b ≡ is_at (nat_cmp a) n
same_as a b n e = grind (arith, nat_tests, e)

same_too : (a b n : ℕ) → is_at (nat_cmp a) n ≡ true → is_at (nat_cmp n) b ≡ is_at (nat_cmp a) b
same_too a b n e = grind (arith, nat_tests, e)

gone_from : (id : ℕ) (keys : List (ℕ × Key)) (n : ℕ) → lookup (is_at (nat_cmp n)) (without id keys) ≡ cond (is_at (nat_cmp id) n) None (lookup (is_at (nat_cmp n)) keys)
unfolding without
gone_from id [] n = by (is_at (nat_cmp id) n)
  where
    by : (r : Bool) → None ≡ cond {A = Option Key} r None None
    by true = refl
    by false = refl
gone_from id (e ∷ keys) n = by (is_at (nat_cmp id) e.0) refl (is_at (nat_cmp n) e.0) refl (is_at (nat_cmp id) n) refl (gone_from id keys n)
  where
    found : Option Key
    found = lookup (is_at (nat_cmp n)) keys

    by : (p : Bool) → is_at (nat_cmp id) e.0 ≡ p → (q : Bool) → is_at (nat_cmp n) e.0 ≡ q → (r : Bool) → is_at (nat_cmp id) n ≡ r → lookup (is_at (nat_cmp n)) (without id keys) ≡ cond r None found
        → lookup (is_at (nat_cmp n)) (cond (not p) (e ∷ without id keys) (without id keys)) ≡ cond r None (cond q (Some e.1) found)
    by true pe q qe true re later = later
    by true pe true qe false re later = absurd (cc (same_as id e.0 n pe, qe, re))
    by true pe false qe false re later = later
    by false pe true qe true re later = absurd (cc (same_too id e.0 n re, qe, pe))
    by false pe false qe true re later = ap (λ b. cond b (Some e.1) (lookup (is_at (nat_cmp n)) (without id keys))) qe ∙ later
    by false pe true qe false re later = ap (λ b. cond b (Some e.1) (lookup (is_at (nat_cmp n)) (without id keys))) qe
    by false pe false qe false re later = ap (λ b. cond b (Some e.1) (lookup (is_at (nat_cmp n)) (without id keys))) qe ∙ later

-- ---- the calls

-- a new station
pub new_on : (c : ℕ) (device : SessionDevice) → IsFit device → device_parked device ≡ [] → IsOn c (new_station device)
new_on c device fit nothing = record {
  fit = fit;
  keys = [];
  spare = 0;
  memory = _;
  sound = sound_new device_runs device_parked device_cuts device nothing;
  last = λ key e. absurd (cc (e));
  forgotten = λ f e. absurd (cc (e));
}

module _ (J : Job → Type 0) (c : ℕ) (s : Of) (on : IsOn c s) where
  pub announced : Goes NoKey J c s (announce s).0
  announced = by s.live refl (nat_le max_entries (entry_count s)) refl
    where
      by : (b : Bool) → s.live ≡ b → (d : Bool) → nat_le max_entries (entry_count s) ≡ d
          → Goes NoKey J c s (cond {A = Of × Result (Unit {0}) AnnounceNo} b (s, Err refused.Live) (cond d (s, Err (refused.Worn (entry_count s))) (record s { live = true }, Ok tt))).0
      by true e d f = goes_not J c s on
      by false e true f = goes_not J c s on
      by false e false f = goes_by J (announces (Ok tt)) c s (record s { live = true }) tt (λ j has. inl has)
          (ap (λ b. cond {A = Of × Result (Unit {0}) AnnounceNo} b (s, Err refused.Live) (cond (nat_le max_entries (entry_count s)) (s, Err (refused.Worn (entry_count s))) (record s { live = true }, Ok tt))) e
          ∙ ap (λ b. cond {A = Of × Result (Unit {0}) AnnounceNo} b (s, Err (refused.Worn (entry_count s))) (record s { live = true }, Ok tt)) f)
          (record { fit = on.fit; keys = on.keys; spare = reserved s + 1; memory = on.memory; sound = sound_announce device_runs device_parked device_cuts s on.keys on.spare on.memory on.sound (reserved s + 1) e f (omega arith); last = on.last; forgotten = on.forgotten })

  pub came : (job : Job) → J job → MayPut s job.key → job.key.channel ≡ c → put_refusal s job ≡ None → Goes (λ key. key ≡ job.key) J c s (record s { waiting = s.waiting ++ job ∷ []; journal = s.journal ++ Came job.key ∷ [] })
  came job own may here free = goes_by J (puts job None) c s _ own
      (λ j has. elim (has_append j s.waiting (job ∷ []) has) [ inl was ↦ inl was | inr last ↦ elim last [ inl same ↦ inr (subst J (sym same) own) | inr none ↦ absurd none ] ])
      (may, ap (station.put_unless s job) free) (record {
        fit = on.fit;
        keys = (job.completion, job.key) ∷ on.keys;
        spare = reserved s + 2;
        memory = after_come on.memory job.key;
        sound = sound_put device_runs device_parked device_cuts s on.keys on.spare on.memory on.sound job ((job.completion, job.key) ∷ on.keys) (reserved s + 2) may free
            (λ id. ap (λ b. cond b (Some job.key) (lookup (is_at (nat_cmp id)) on.keys)) (by_either id job.completion)) (omega arith);
        last = λ key e. let same : job.key ≡ key = cc in inl (ap (λ (k : Key). k.channel) (sym same) ∙ here);
        forgotten = on.forgotten;
      })

  pub taken : Goes NoKey J c s (take s).0
  taken = by s.ended refl s.waiting refl
    where
      by : (b : Bool) → s.ended ≡ b → (jobs : List Job) → s.waiting ≡ jobs → Goes NoKey J c s (cond {A = Of × Given} b (s, given.Over) (take_first s jobs)).0
      by true e jobs f = goes_not J c s on
      by false e [] f = goes_not J c s on
      by false e (job ∷ jobs) f =
          goes_by J (takes (given.Job job)) c s _ tt (λ j has. inl (subst (λ (ws : List Job). Has j ws) (sym f) (inr has))) (taken_first device_runs device_parked device_cuts s on.keys on.spare on.memory on.sound job jobs e f) (record {
            fit = on.fit;
            keys = on.keys;
            spare = on.spare;
            memory = on.memory;
            sound = sound_take device_runs device_parked device_cuts s on.keys on.spare on.memory on.sound job jobs e f;
            last = λ key is. elim (on.last key is) [ inl at ↦ inl at | inr idle ↦ absurd (let none : [] ≡ job ∷ jobs = sym idle.0 ∙ f in cc (none)) ];
            forgotten = on.forgotten;
          })

  pub collected : Goes NoKey J c s (collect s).0
  collected = by s.ready refl
    where
      by : (cs : List Completion) → s.ready ≡ cs → Goes NoKey J c s (collect_first s cs).0
      by [] f = goes_not J c s on
      by (x ∷ xs) f = goes_by J (collects (Some x)) c s _ tt (λ j has. inl has) (collected_first device_runs device_parked device_cuts s on.keys on.spare on.memory on.sound x xs f) (record {
        fit = on.fit;
        keys = without x.completion on.keys;
        spare = on.spare;
        memory = on.memory;
        sound = sound_collect device_runs device_parked device_cuts s on.keys on.spare on.memory on.sound x xs (without x.completion on.keys) on.spare f (gone_from x.completion on.keys) (omega arith);
        last = λ key is. elim (on.last key is) [ inl at ↦ inl at | inr idle ↦ absurd (let none : [] ≡ x ∷ xs = sym idle.3 ∙ f in cc (none)) ];
        forgotten = on.forgotten;
      })

  pub applied_back : (planned : Planned) → J planned.job → (moment : ℕ) (then : Stepped SessionDevice) → CameOf device_runs device_parked device_cuts s.device planned moment then → IsFit then.state
      → Goes NoKey J c s (apply s planned.job moment then).0
  applied_back planned own moment then promise fit = by (find (λ (t : InHand). is_key t.key planned.job.key) s.taken) refl
    where
      busy : (t : InHand) → find (λ (u : InHand). is_key u.key planned.job.key) s.taken ≡ Some t → (key : Key) → on.memory.last ≡ Some key → key.channel ≡ c
      busy t f key is = elim (on.last key is) [
        | inl at ↦ at
        | inr idle ↦ absurd (subst (λ (ts : List InHand). Has t ts) idle.1 (find_has (λ (u : InHand). is_key u.key planned.job.key) t s.taken f).0)
      ]

      by : (found : Option InHand) → find (λ (t : InHand). is_key t.key planned.job.key) s.taken ≡ found → Goes NoKey J c s (apply_from s planned.job moment then found).0
      by None f = goes_not J c s on
      by (Some t) f = hand t.removed refl
        where
          hand : (b : Bool) → t.removed ≡ b
              → Goes NoKey J c s (cond {A = Of × Applied} b (cancelled_in_hand s t (kind_of planned.job.op), applied.Cancelled) (ran s t (kind_of planned.job.op) moment then, cond (is_parked then.answer) applied.Parked applied.Ran)).0
          hand true e = goes_by J (applies planned moment applied.Cancelled) c s _ own (λ j has. inl has) (then, cancelled_then device_runs device_parked device_cuts s on.keys on.spare on.memory on.sound planned moment t f then e, absurd) (record {
            fit = on.fit;
            keys = on.keys;
            spare = on.spare;
            memory = on.memory;
            sound = sound_cancel device_runs device_parked device_cuts s on.keys on.spare on.memory on.sound planned moment t f on.spare e (omega arith);
            last = λ key is. inl (busy t f key is);
            forgotten = on.forgotten;
          })
          hand false e = goes_by J (applies planned moment (cond (is_parked then.answer) applied.Parked applied.Ran)) c s _ own (λ j has. inl has) (then, ran_then device_runs device_parked device_cuts s on.keys on.spare on.memory on.sound planned moment t f e then promise, λ did. promise) (record {
            fit = fit;
            keys = on.keys;
            spare = on.spare;
            memory = on.memory;
            sound = sound_run device_runs device_parked device_cuts s on.keys on.spare on.memory on.sound planned moment t f e then promise on.spare (omega arith);
            last = λ key is. inl (busy t f key is);
            forgotten = on.forgotten;
          })

  pub removed : (cut : SessionDevice) → CutsOff device_cuts device_parked s.device cut → IsFit cut → Goes NoKey J c s (remove s cut).0
  removed cut off fit = by s.live refl
    where
      gone : Of
      gone = record s {
        device = cut;
        live = false;
        waiting = [];
        taken = map marked_removed s.taken;
        parked = [];
        ready = s.ready ++ map cancelled_parked s.parked ++ map cancelled_waiting s.waiting;
        journal = s.journal ++ Cut Removed ∷ map (λ (job : Job). Cancelled job.key) s.waiting;
      }

      by : (b : Bool) → s.live ≡ b → Goes NoKey J c s (cond {A = Of × Bool} (not b) (s, false) (gone, true)).0
      by false e = goes_not J c s on
      by true e = goes_by J (removes true) c s gone tt (λ j none. absurd none) (cut, removed_then device_runs device_parked device_cuts s on.keys on.spare on.memory on.sound cut e, λ f. off) (record {
        fit = fit;
        keys = on.keys;
        spare = on.spare;
        memory = on.memory;
        sound = sound_remove device_runs device_parked device_cuts s on.keys on.spare on.memory on.sound cut on.spare e off (omega arith);
        last = λ key is. elim (on.last key is) [
          | inl at ↦ inl at
          | inr (a, b, p, r) ↦ inr (refl, ap (map marked_removed) b, refl, λ i. r i ++ map cancelled_parked (p i) ++ map cancelled_waiting (a i))
        ];
        forgotten = on.forgotten;
      })

  -- The channel ends, after which all that was named is of earlier ones.
  pub dropped : (then : ℕ) → c ≤ then → ((key : Key) → NamesKey s.journal key → key.channel < then) → (cut : SessionDevice) → CutsOff device_cuts device_parked s.device cut → IsFit cut
      → Goes NoKey J then s (drop_channel s cut)
  dropped then later above cut off fit = goes_by J drops then s (drop_channel s cut) tt (λ j has. absurd (none_waits s.live j has)) (cut, refl, λ live. off) (record {
    fit = device_fits s.live;
    keys = [];
    spare = 0;
    memory = after_drop on.memory (length (held s));
    sound = sound_drop device_runs device_parked device_cuts s on.keys on.spare on.memory on.sound cut (λ live. off) (drop_channel s cut) 0 (length (held s)) refl refl;
    last = λ key is. inr (idle s.live);
    forgotten = λ f is. by (nat_lt 0 (length (held s))) f is;
  })
    where
      left : Bool → Of
      left b = cond b (record (emptied s) { device = cut; live = false; journal = s.journal ++ Cut Dropped ∷ [] }) (emptied s)

      device_fits : (b : Bool) → IsFit (left b).device
      device_fits true = fit
      device_fits false = on.fit

      none_waits : (b : Bool) (j : Job) → Has j (left b).waiting → ⊥
      none_waits true j none = none
      none_waits false j none = none

      idle : (b : Bool) → IsIdle (left b)
      idle true = (refl, refl, refl, refl)
      idle false = (refl, refl, refl, refl)

      last_low : (o : Option Key) → on.memory.last ≡ o → (f : ℕ) → option_map (λ (last : Key). last.channel) o ≡ Some f → f < then
      last_low None e f is = absurd (cc (is))
      last_low (Some key) e f is = let same : key.channel ≡ f = cc in omega (arith, same, above key (on.sound.remembers.named key e))

      by : (b : Bool) (f : ℕ) → (let m = cond b (record on.memory { forgotten = option_map (λ (last : Key). last.channel) on.memory.last }) on.memory in m.forgotten) ≡ Some f → f < then
      by true f is = last_low on.memory.last refl f is
      by false f is = omega (arith, on.forgotten f is, later)
