-- A device as it goes over its journal: what its replies give, who waits in it, and where it stands after an entry.
use Rattle.std.proofs.Common.{◌≡◌, ◌∙◌, ℕ, inl, inr, zero, suc, ◌+◌, ◌-◌, ◌<◌, ◌≤◌, get_or, take, drop, drop-cons, Bool, true, false, cond, List, [], ◌∷◌, ◌++◌, length, map, Option, Some, None, Err, refl, sym, ap, subst, append_assoc, append-nil, arith}
use Rattle.std.specs.Prelude.{◌==◌, ◌&&◌, not, nat_lt, if◌then◌else◌, count_by, slice_get, option_and_then, unwrap_or}
use Rattle.std.specs.List.{position, position_or_len, remove}
use Rattle.std.specs.Option.{option_map_or, option_or}
use Rattle.std.proofs.Math.Bool.{beq}
use Rattle.std.proofs.lemmas.Bool.{cases_Bool}
use Rattle.std.proofs.lemmas.Bool.Decides.{nat_tests}
use Rattle.std.proofs.lemmas.List.{take-append-drop, take_more}
use Rattle.std.proofs.Math.ListN.{drop_of_length-le}
use Rattle.std.proofs.lemmas.Option.{get_or_from_slice_get, slice_get-get_or}
use Rattle.std.proofs.lemmas.List.Sums.{sum_by-append}
use Rattle.std.proofs.lemmas.List.Recursion.{is_position_or_len}
use Rattle.std.proofs.lemmas.List.Quantifiers.{position-Some}
use Rattle.rd_base.specs.declared.journal.Cause.{Cause}
use Rattle.rd_base.specs.declared.journal.Item.{Item}
use Rattle.rd_base.specs.declared.journal.Item.TheVariants.{Came, Ran, Cancelled, Cut, Sent}
use Rattle.rd_base.specs.declared.journal.Key.{Key}
use Rattle.rd_irp.specs.declared.completion.Reply.{Reply}
use Rattle.rd_irp.specs.declared.request.Request.{Request}
use Rattle.rd_drive.specs.declared.plan.Job.{Job}
use Rattle.rd_drive.specs.declared.step.End.{End}
use Rattle.rd_drive.specs.declared.step.Step.{Step}
use Rattle.rd_drive.specs.Device.{AreEnded, Parked, Parks, is_parked, is_starved, parked_by}
use Rattle.rd_drive.specs.Outcome.{fault}
use Rattle.rd_drive.specs.Planned.{Planned}
use Rattle.rd_drive.specs.Promise.{Applies, cut_end}
use Rattle.rd_drive.specs.declared.step.Step.TheVariants as step
use Rattle.rd_base.specs.Statuses.{no_memory}
use Rattle.rd_base.specs.declared.bad.Bad.{Bad}
use Rattle.rd_base.specs.Layout.{met}
use Rattle.rd_base.specs.Position.{at_start}
use Rattle.rd_base.specs.Reading.{WithTail}
use Rattle.rd_irp.specs.Request.{FirstFaultOfRequest, SpellsRequest, request_head}
use Rattle.rd_irp.specs.declared.op.Op.{Op}
use Rattle.rd_irp.specs.declared.op.Op.TheVariants as op
use Rattle.rd_deeds.specs.Talk.{request_in}
use Rattle.rd_deeds.proofs.Messages.{request_read}
use Rattle.rd_drive.specs.Replies.{KeyedReply, cancellation, end_reply, own_reply}
use Rattle.rd_drive.specs.Stepped.{Stepped, ran_step}
use Rattle.rd_declared.specs.declared.device.SessionDevice.{SessionDevice}
use Rattle.rd_declared.specs.declared.device.SessionDevice.TheVariants as session
use Rattle.rd_declared.specs.Devices.{device_cut, device_parked, device_runs, device_step}
use Rattle.rd_declared.specs.Replies.{no_request}
use Rattle.rd_drive.proofs.BoundedLemmas.{cut_cancels}
use Rattle.rd_lawful.specs.Rules.{key_is}
use Rattle.rd_lawful.proofs.TestLemmas.{key_is-decides}
use Rattle.rd_recorded.specs.Channels.{HeardChannel, HeardRequest}
use Rattle.rd_audit.specs.declared.course.Course.{Course}
use Rattle.rd_audit.specs.declared.course.Given.TheVariants as given
use Rattle.rd_audit.specs.declared.replay.Replay.{Replay}
use Rattle.rd_audit.specs.Kept.{Changes, GivesReplies, ReplaysAs, IsTaking, TakesItem, replies_given}
use Rattle.rd_audit.specs.Replayed.{DeviceSoFar, agrees, course_after, heard_at, closes_file, is_said, last_reply, named_by, request_named}
use Rattle.rd_audit.proofs.CourseLemmas.{changes_kept, kept_same}

-- ---- what replies give

-- one reply
pub gives_one : (channels : List HeardChannel) (item : ℕ) (same cut : Bool) (key : Key) (reply : Reply) (old new : List (List Course)) → same ≡ is_said channels key reply
    → Changes key (λ (c : Course). record c { given = given.Reply item same cut }) old new → GivesReplies channels item cut ((key, reply) ∷ []) old new
gives_one channels item same cut key reply old new is changes courses keeps =
    kept_same channels _ (replies_given channels item cut ((key, reply) ∷ []) courses) new (λ k. go k (key_is key k) refl)
    (changes_kept channels key (λ (c : Course). record c { given = given.Reply item same cut }) old new changes courses keeps)
  where
    go : (k : Key) (b : Bool) → key_is key k ≡ b
        → (if key_is key k then record (courses k) { given = given.Reply item same cut } else courses k) ≡ replies_given channels item cut ((key, reply) ∷ []) courses k
    go k true e = rw e (ap (λ s. record (courses k) { given = given.Reply item s cut }) (is ∙ ap (λ (x : Key). is_said channels x reply) ((key_is-decides key k).0 e)))
    go k false e = rw e refl

or_none : {A : Type 0} (o : Option A) → o ≡ option_or o None
or_none None = refl
or_none (Some x) = refl

or_or : {A : Type 0} (a b d : Option A) → option_or (option_or a b) d ≡ option_or a (option_or b d)
or_or None b d = refl
or_or (Some x) b d = refl

last_append : (key : Key) (xs ys : List KeyedReply) → last_reply key (xs ++ ys) ≡ option_or (last_reply key ys) (last_reply key xs)
last_append key [] ys = or_none (last_reply key ys)
last_append key (x ∷ xs) ys =
    let own : Option Reply = if key_is x.0 key then Some x.1 else None in
    ap (λ o. option_or o own) (last_append key xs ys) ∙ or_or (last_reply key ys) (last_reply key xs) own

map_or_or : {A B : Type 0} (f : A → B) (a b : Option A) (d : B) → option_map_or f a (option_map_or f b d) ≡ option_map_or f (option_or a b) d
map_or_or f None b d = refl
map_or_or f (Some x) b d = refl

pub gives_none : (channels : List HeardChannel) (item : ℕ) (cut : Bool) (kept : List (List Course)) → GivesReplies channels item cut [] kept kept
gives_none channels item cut kept courses keeps = keeps

-- replies, and then others
pub gives_append : (channels : List HeardChannel) (item : ℕ) (cut : Bool) (xs ys : List KeyedReply) (old mid new : List (List Course))
    → GivesReplies channels item cut xs old mid → GivesReplies channels item cut ys mid new → GivesReplies channels item cut (xs ++ ys) old new
gives_append channels item cut xs ys old mid new first then_others courses keeps =
    kept_same channels (replies_given channels item cut ys (replies_given channels item cut xs courses)) (replies_given channels item cut (xs ++ ys) courses) new both
    (then_others (replies_given channels item cut xs courses) (first courses keeps))
  where
    both : (k : Key) → replies_given channels item cut ys (replies_given channels item cut xs courses) k ≡ replies_given channels item cut (xs ++ ys) courses k
    both k = ap (λ g. record (courses k) { given = g })
        (map_or_or (λ reply. given.Reply item (is_said channels k reply) cut) (last_reply k ys) (last_reply k xs) (courses k).given
        ∙ ap (λ o. option_map_or (λ reply. given.Reply item (is_said channels k reply) cut) o (courses k).given) (sym (last_append k xs ys)))

-- ---- who waits

abbrev pub times : Key → List Key → ℕ
times key keys = count_by (key_is key) keys

abbrev pub keys_parked : List Parked → List Key
keys_parked parked = map (λ (p : Parked). p.key) parked

abbrev pub keys_ended : List End → List Key
keys_ended ends = map (λ (e : End). e.key) ends

abbrev pub once : Key → Key → ℕ
once key k = if key_is key k then 1 else 0

pub times_append : (key : Key) (xs ys : List Key) → times key (xs ++ ys) ≡ times key xs + times key ys
times_append key xs ys = sum_by-append (λ k. cond (key_is key k) 1 0) xs ys

pub times_cons : (key k : Key) (ks : List Key) → times key (k ∷ ks) ≡ once key k + times key ks
times_cons key k ks =
    let parts : times key (k ∷ ks) ≡ times key (k ∷ []) + times key ks = times_append key (k ∷ []) ks in
    let one : times key (k ∷ []) ≡ once key k = omega arith in
    omega (arith, parts, one)

-- those that ended and those that are left are those that waited
pub ended_times : (key : Key) (before : List Parked) (ends : List End) (left : List Parked) → AreEnded before ends left
    → times key (keys_parked before) ≡ times key (keys_ended ends) + times key (keys_parked left)
ended_times key [] ends left (none, nothing) = rw (none, nothing) refl
ended_times key (w ∷ others) ends left (inl (first, further, are, (is, fits), rest)) =
    let more = ended_times key others further left rest in
    let head : times key (keys_parked (w ∷ others)) ≡ once key w.key + times key (keys_parked others) = times_cons key w.key (keys_parked others) in
    let own : times key (keys_ended ends) ≡ once key first.key + times key (keys_ended further) = ap (λ (e : List End). times key (keys_ended e)) are ∙ times_cons key first.key (keys_ended further) in
    let same : once key first.key ≡ once key w.key = ap (once key) is in
    omega (arith, more, head, own, same)
ended_times key (w ∷ others) ends left (inr (rest, are, more_ended)) =
    let more = ended_times key others ends rest more_ended in
    let head : times key (keys_parked (w ∷ others)) ≡ once key w.key + times key (keys_parked others) = times_cons key w.key (keys_parked others) in
    let own : times key (keys_parked left) ≡ once key w.key + times key (keys_parked rest) = ap (λ (p : List Parked). times key (keys_parked p)) are ∙ times_cons key w.key (keys_parked rest) in
    omega (arith, more, head, own)

map_append : {A B : Type 0} (f : A → B) (xs ys : List A) → map f (xs ++ ys) ≡ map f xs ++ map f ys
map_append f [] ys = refl
map_append f (x ∷ xs) ys = ap (λ l. f x ∷ l) (map_append f xs ys)

-- of keys that stand as often as those of the requests that wait, with the new one, those that end are taken
pub parks_times : (job : Job) (before : List Parked) (answer : Step) (ends : List End) (after : List Parked) (key : Key) (old new : ℕ) → Parks job before answer ends after
    → old ≡ times key (keys_parked before) + times key (keys_parked (parked_by job answer)) → new ≡ old - times key (keys_ended ends) → new ≡ times key (keys_parked after)
parks_times job before answer ends after key old new parks were are =
    let left = ended_times key before ends parks.left parks.ended in
    let last : times key (keys_parked after) ≡ times key (keys_parked parks.left) + times key (keys_parked (parked_by job answer)) =
    ap (λ (p : List Parked). times key (keys_parked p)) parks.waits ∙ ap (times key) (map_append (λ (p : Parked). p.key) parks.left (parked_by job answer))
    ∙ times_append key (keys_parked parks.left) (keys_parked (parked_by job answer)) in
    omega (arith, left, last, were, are)

key_is_back : (k l : Key) → key_is k l ≡ key_is l k
key_is_back k l = elim (cases_Bool (key_is k l)) [
  | inl same ↦ same ∙ sym ((key_is-decides l k).1 (sym ((key_is-decides k l).0 same)))
  | inr other ↦ elim (cases_Bool (key_is l k)) [
    | inl same ↦ (key_is-decides k l).1 (sym ((key_is-decides l k).0 same)) ∙ sym same
    | inr also ↦ other ∙ sym also
  ]
]

past_test : (n m : ℕ) → nat_lt n m ≡ false → m ≤ n
past_test n m e = grind (arith, nat_tests)

-- the first key that is the same is taken
module _ (key : Key) where
  abbrev place : List Key → ℕ
  place [] = 0
  place (k ∷ ks) = cond (key_is k key) 0 (1 + place ks)

  none_before : (ks : List Key) → length ks ≤ place ks → times key ks ≡ 0
  none_before [] past = refl
  none_before (k ∷ ks) past = by (none_before ks) (key_is k key) refl
    where
      by : (length ks ≤ place ks → times key ks ≡ 0) → (b : Bool) → key_is k key ≡ b → times key (k ∷ ks) ≡ 0
      by more true e = let here : place (k ∷ ks) ≡ 0 = rw e refl in absurd (omega (arith, here, past))
      by more false e =
          let there : place (k ∷ ks) ≡ 1 + place ks = rw e refl in
          let none : times key ks ≡ 0 = more (omega (arith, there, past)) in
          let other : once key k ≡ 0 = ap (λ (b : Bool). if b then 1 else 0) (key_is_back key k ∙ e) in
          omega (arith, times_cons key k ks, none, other)

  pub first_none : (ks : List Key) → position (λ k. key_is k key) ks ≡ None → (k : Key) → times k ks ≡ times k ks - once k key
  first_none ks none k = by (key_is k key) refl
    where
      past : length ks ≤ position_or_len (λ k. key_is k key) ks
      past = elim (cases_Bool (nat_lt (position_or_len (λ k. key_is k key) ks) (length ks))) [
        | inl below ↦ let some : Some (position_or_len (λ k. key_is k key) ks) ≡ None = rw below at none in absurd (cc some)
        | inr not_below ↦ past_test (position_or_len (λ k. key_is k key) ks) (length ks) not_below
      ]

      by : (b : Bool) → key_is k key ≡ b → times k ks ≡ times k ks - once k key
      by true e =
          let at_place = is_position_or_len place (λ k. key_is k key) refl (λ x xs. refl) ks in
          let none_at : times key ks ≡ 0 = none_before ks (omega (arith, past, at_place)) in
          let zero_of : times k ks ≡ 0 = ap (λ (x : Key). times x ks) ((key_is-decides k key).0 e) ∙ none_at in
          omega (arith, zero_of)
      by false e = let other : once k key ≡ 0 = ap (λ (b : Bool). if b then 1 else 0) e in omega (arith, other)

  pub first_taken : (ks : List Key) (at : ℕ) → position (λ k. key_is k key) ks ≡ Some at → (k : Key) → times k (remove ks at) ≡ times k ks - once k key
  first_taken ks at is k =
      let found_at = position-Some (λ k. key_is k key) ks at key is in
      let x : Key = get_or ks at key in
      let same : x ≡ key = (key_is-decides x key).0 found_at.1 in
      let parts : times k ks ≡ times k (take at ks) + times k (drop at ks) = ap (times k) (sym (take-append-drop at ks)) ∙ times_append k (take at ks) (drop at ks) in
      let after : times k (drop at ks) ≡ once k x + times k (drop (suc at) ks) = ap (times k) (drop-cons ks at key found_at.0) ∙ times_cons k x (drop (suc at) ks) in
      let own : once k x ≡ once k key = ap (once k) same in
      let left : times k (remove ks at) ≡ times k (take at ks) + times k (drop (suc at) ks) = times_append k (take at ks) (drop (suc at) ks) in
      omega (arith, parts, after, own, left)

-- a key is taken of those that are left to be taken
pub taken_once : (key k : Key) (was is first : ℕ) (ks : List Key) → is ≡ was - once key k → first ≡ is - times key ks → first ≡ was - times key (k ∷ ks)
taken_once key k was is first ks one more = let parts = times_cons key k ks in omega (arith, parts, one, more)

-- ---- a cut

abbrev found : {A : Type 0} → ℕ → A → Option A
found zero x = None
found (suc n) x = Some x

-- of one reply to each of some keys, a key's last is that, where it is among them
last_pairs : (key : Key) (reply : Reply) (ks : List Key) → last_reply key (map (λ (k : Key). (k, reply)) ks) ≡ found (times key ks) reply
last_pairs key reply [] = refl
last_pairs key reply (k ∷ ks) = go (times key ks) (last_reply key (map (λ (k : Key). (k, reply)) ks)) (last_pairs key reply ks) (key_is k key) (key_is_back key k) (times_cons key k ks)
  where
    go : (n : ℕ) (o : Option Reply) → o ≡ found n reply → (b : Bool) → key_is key k ≡ b → times key (k ∷ ks) ≡ once key k + n
        → option_or o (if b then Some reply else None) ≡ found (times key (k ∷ ks)) reply
    go zero o is true e more =
        let one : once key k ≡ 1 = ap (λ (b : Bool). if b then 1 else 0) e in
        let all : times key (k ∷ ks) ≡ suc 0 = omega arith in
        rw (is, all) refl
    go zero o is false e more =
        let none : once key k ≡ 0 = ap (λ (b : Bool). if b then 1 else 0) e in
        let all : times key (k ∷ ks) ≡ 0 = omega arith in
        rw (is, all) refl
    go (suc n) o is b e more =
        let all : times key (k ∷ ks) ≡ suc (once key k + n) = omega arith in
        rw (is, all) refl

pub same_pairs : (key : Key) (reply : Reply) (xs ys : List Key) → times key xs ≡ times key ys → last_reply key (map (λ (k : Key). (k, reply)) xs) ≡ last_reply key (map (λ (k : Key). (k, reply)) ys)
same_pairs key reply xs ys same = last_pairs key reply xs ∙ ap (λ n. found n reply) same ∙ sym (last_pairs key reply ys)

cut_ends : (s : SessionDevice) → (device_cut s).ends ≡ map cut_end (device_parked s)
cut_ends (session.Drive s) = (cut_cancels s).ends
cut_ends (session.Printer s) = refl

cut_pairs : (parked : List Parked) → map end_reply (map cut_end parked) ≡ map (λ (k : Key). (k, cancellation)) (keys_parked parked)
cut_pairs [] = refl
cut_pairs (p ∷ ps) = ap (λ l. (p.key, cancellation) ∷ l) (cut_pairs ps)

-- ---- an entry

pub refuses : (channels : List HeardChannel) (d : DeviceSoFar) (entry : Item) (new : Replay) (before after : List (List Course)) → agrees channels d entry ≡ false → TakesItem channels d entry new before after false
refuses channels d entry new before after refused = record { agreed = sym refused; stands = λ e. absurd (cc e); keeps = λ e. absurd (cc e) }

-- a request came
pub takes_came : (channels : List HeardChannel) (d : DeviceSoFar) (key : Key) (old new : Replay) (before after : List (List Course)) (a : HeardRequest) → IsTaking old d → heard_at channels key ≡ Some a
    → (a.device == old.id) ≡ true → new ≡ record old { heard = a.entry } → Changes key (λ (c : Course). record c { given = given.Nothing }) before after → TakesItem channels d (Came key) new before after true
takes_came channels d key old new before after a stands there own is changes = record {
  agreed = sym (ap (λ (o : Option HeardRequest). option_map_or (λ (x : HeardRequest). x.device == d.device) o false) there ∙ ap (λ n. a.device == n) (sym stands.device) ∙ own);
  stands = λ e. record {
    device = ap (λ (r : Replay). r.id) is ∙ stands.device;
    state = ap (λ (r : Replay). r.device) is ∙ stands.state;
    count = ap (λ (r : Replay). r.count) is ∙ stands.count;
    heard = ap (λ (r : Replay). r.heard) is ∙ sym (ap (λ (o : Option HeardRequest). option_map_or (λ (x : HeardRequest). x.entry) o d.heard) there);
    waiting = λ k. ap (λ (r : Replay). times k r.waiting.items) is ∙ stands.waiting k;
    quiet = ap (λ (r : Replay). r.ends) is ∙ stands.quiet;
  };
  keeps = λ e courses keeps. kept_same channels _ (λ k. course_after channels d (Came key) k (courses k)) after (λ k. go k (courses k) (key_is key k) refl)
      (changes_kept channels key (λ (c : Course). record c { given = given.Nothing }) before after changes courses keeps);
}
  where
    go : (k : Key) (c : Course) (b : Bool) → key_is key k ≡ b → (if key_is key k then record c { given = given.Nothing } else c) ≡ course_after channels d (Came key) k c
    go k c true e = rw e refl
    go k c false e = rw e refl

pub takes_cancelled : (channels : List HeardChannel) (d : DeviceSoFar) (key : Key) (old : Replay) (before after : List (List Course)) → IsTaking old d
    → Changes key (λ (c : Course). record c { given = given.Cancelled }) before after → TakesItem channels d (Cancelled key) old before after true
takes_cancelled channels d key old before after stands changes = record {
  agreed = refl;
  stands = λ e. record { device = stands.device; state = stands.state; count = stands.count; heard = stands.heard; waiting = stands.waiting; quiet = stands.quiet };
  keeps = λ e courses keeps. kept_same channels _ (λ k. course_after channels d (Cancelled key) k (courses k)) after (λ k. go k (courses k) (key_is key k) refl)
      (changes_kept channels key (λ (c : Course). record c { given = given.Cancelled }) before after changes courses keeps);
}
  where
    go : (k : Key) (c : Course) (b : Bool) → key_is key k ≡ b → (if key_is key k then record c { given = given.Cancelled } else c) ≡ course_after channels d (Cancelled key) k c
    go k c true e = rw e refl
    go k c false e = rw e refl

pub takes_sent : (channels : List HeardChannel) (d : DeviceSoFar) (key : Key) (old : Replay) (before after : List (List Course)) → IsTaking old d
    → Changes key (λ (c : Course). record c { sent = Some (record { item = old.count; heard = old.heard }) }) before after → TakesItem channels d (Sent key) old before after true
takes_sent channels d key old before after stands changes = record {
  agreed = refl;
  stands = λ e. record { device = stands.device; state = stands.state; count = stands.count; heard = stands.heard; waiting = stands.waiting; quiet = stands.quiet };
  keeps = λ e courses keeps. kept_same channels _ (λ k. course_after channels d (Sent key) k (courses k)) after (λ k. go k (courses k) (key_is key k) refl)
      (changes_kept channels key (λ (c : Course). record c { sent = Some (record { item = old.count; heard = old.heard }) }) before after changes courses keeps);
}
  where
    go : (k : Key) (c : Course) (b : Bool) → key_is key k ≡ b → (if key_is key k then record c { sent = Some (record { item = old.count; heard = old.heard }) } else c) ≡ course_after channels d (Sent key) k c
    go k c true e = rw (e, stands.count, stands.heard) refl
    go k c false e = rw e refl

-- a cut
pub takes_cut : (channels : List HeardChannel) (d : DeviceSoFar) (cause : Cause) (old new : Replay) (before after : List (List Course)) → IsTaking old d
    → new.id ≡ old.id → new.count ≡ old.count → new.heard ≡ old.heard → new.ends ≡ old.ends → new.waiting.items ≡ []
    → (device_cut old.device).state ≡ new.device → device_parked new.device ≡ [] → GivesReplies channels old.count true (map (λ (k : Key). (k, cancellation)) old.waiting.items) before after
    → TakesItem channels d (Cut cause) new before after true
takes_cut channels d cause old new before after stands id count heard ends waiting cuts none gives = record {
  agreed = refl;
  stands = λ e. record {
    device = id ∙ stands.device;
    state = sym cuts ∙ ap (λ s. (device_cut s).state) stands.state;
    count = count ∙ stands.count;
    heard = heard ∙ stands.heard;
    waiting = λ k. ap (times k) waiting ∙ sym (ap (λ p. times k (keys_parked p)) (ap device_parked (sym (ap (λ s. (device_cut s).state) stands.state) ∙ cuts) ∙ none));
    quiet = ends ∙ stands.quiet;
  };
  keeps = λ e courses keeps. kept_same channels (replies_given channels old.count true (map (λ (k : Key). (k, cancellation)) old.waiting.items) courses)
      (λ k. course_after channels d (Cut cause) k (courses k)) after (λ k. go k (courses k)) (gives courses keeps);
}
  where
    go : (k : Key) (c : Course) → (let is = λ (n : ℕ) (o : Option Reply). record c { given = option_map_or (λ reply. given.Reply n (is_said channels k reply) true) o c.given } in
        is old.count (last_reply k (map (λ (x : Key). (x, cancellation)) old.waiting.items)) ≡ course_after channels d (Cut cause) k c)
    go k c = ap (λ (n : ℕ). record c { given = option_map_or (λ reply. given.Reply n (is_said channels k reply) true) (last_reply k (map (λ (x : Key). (x, cancellation)) old.waiting.items)) c.given }) stands.count
        ∙ ap (λ (o : Option Reply). record c { given = option_map_or (λ reply. given.Reply (d.count + 1) (is_said channels k reply) true) o c.given })
        (same_pairs k cancellation old.waiting.items (keys_parked (device_parked d.state)) (stands.waiting k) ∙ ap (last_reply k) (sym (ap (map end_reply) (cut_ends d.state) ∙ cut_pairs (device_parked d.state))))

-- a run
module _ (channels : List HeardChannel) (d : DeviceSoFar) (key : Key) (moment : ℕ) (starved parked : Bool) (r : Request) (state : SessionDevice) (answer : Step) (ends : List End)
    (named : named_by channels key ≡ Some r) (came : ran_step device_step d.state key r.file r.op moment starved ≡ record { state = state; answer = answer; ends = ends }) where
  run_is : (let is = request_named channels key in ran_step device_step d.state key is.file is.op moment starved ≡ record { state = state; answer = answer; ends = ends })
  run_is = ap (λ (o : Option Request). let is = unwrap_or o no_request in ran_step device_step d.state key is.file is.op moment starved) named ∙ came

  pub agrees_ran : agrees channels d (Ran key moment starved parked) ≡ (beq (is_parked answer) parked && not (starved && closes_file r.op))
  agrees_ran =
      ap (λ (x : Stepped SessionDevice). option_map_or (λ (q : Request). beq (is_parked x.answer) parked && not (starved && closes_file q.op)) (named_by channels key) false) run_is
      ∙ ap (λ (o : Option Request). option_map_or (λ (q : Request). beq (is_parked answer) parked && not (starved && closes_file q.op)) o false) named

  pub takes_ran : (old new : Replay) (before after : List (List Course)) → IsTaking old d → (beq (is_parked answer) parked && not (starved && closes_file r.op)) ≡ true
      → new.id ≡ old.id → new.count ≡ old.count → new.heard ≡ old.heard → new.ends ≡ [] → new.device ≡ state → ((k : Key) → times k new.waiting.items ≡ times k (keys_parked (device_parked state)))
      → GivesReplies channels old.count false (own_reply key answer ++ map end_reply ends) before after → TakesItem channels d (Ran key moment starved parked) new before after true
  takes_ran old new before after stands fits id count heard quiet device waiting gives = record {
    agreed = sym (agrees_ran ∙ fits);
    stands = λ e. record {
      device = id ∙ stands.device;
      state = device ∙ sym (ap (λ (x : Stepped SessionDevice). x.state) run_is);
      count = count ∙ stands.count;
      heard = heard ∙ stands.heard;
      waiting = λ k. waiting k ∙ ap (λ (x : Stepped SessionDevice). times k (keys_parked (device_parked x.state))) (sym run_is);
      quiet = quiet;
    };
    keeps = λ e courses keeps. kept_same channels (replies_given channels old.count false (own_reply key answer ++ map end_reply ends) courses)
        (λ k. course_after channels d (Ran key moment starved parked) k (courses k)) after (λ k. go k (courses k)) (gives courses keeps);
  }
    where
      go : (k : Key) (c : Course) → record c { given = option_map_or (λ reply. given.Reply old.count (is_said channels k reply) false) (last_reply k (own_reply key answer ++ map end_reply ends)) c.given }
          ≡ course_after channels d (Ran key moment starved parked) k c
      go k c =
          ap (λ (n : ℕ). record c { given = option_map_or (λ reply. given.Reply n (is_said channels k reply) false) (last_reply k (own_reply key answer ++ map end_reply ends)) c.given }) stands.count
          ∙ ap (λ (x : Stepped SessionDevice). record c { given = option_map_or (λ reply. given.Reply (d.count + 1) (is_said channels k reply) false) (last_reply k (own_reply key x.answer ++ map end_reply x.ends)) c.given }) (sym run_is)

-- ---- the ends of a run

-- of the ends that a device had, some were given and are waiting no more, and these are left
pub record EndsTo (channels : List HeardChannel) (old new : Replay) (before after : List (List Course)) : Type 0 where
  pub ended : List End
  pub parts : ended ++ new.ends ≡ old.ends
  pub gives : GivesReplies channels old.count false (map end_reply ended) before after
  pub waiting : (k : Key) → times k new.waiting.items ≡ times k old.waiting.items - times k (keys_ended ended)
  pub others : new ≡ record old { waiting = new.waiting; ends = new.ends }

pub ends_none : (channels : List HeardChannel) (old : Replay) (before : List (List Course)) → EndsTo channels old old before before
ends_none channels old before = record {
  ended = [];
  parts = refl;
  gives = gives_none channels old.count false before;
  waiting = λ k. let none : times k [] ≡ 0 = refl in omega (arith, none);
  others = refl;
}

pub ends_one : (channels : List HeardChannel) (old mid new : Replay) (before between after : List (List Course)) (ended : End) (left : List End) → EndsTo channels old mid before between
    → mid.ends ≡ ended ∷ left → new ≡ record mid { waiting = new.waiting; ends = left } → ((k : Key) → times k new.waiting.items ≡ times k mid.waiting.items - once k ended.key)
    → GivesReplies channels mid.count false ((ended.key, ended.reply) ∷ []) between after → EndsTo channels old new before after
ends_one channels old mid new before between after ended left to first is waits gives = record {
  ended = to.ended ++ ended ∷ [];
  parts = append_assoc to.ended (ended ∷ []) new.ends ∙ ap (λ (l : List End). to.ended ++ ended ∷ l) (ap (λ (r : Replay). r.ends) is) ∙ ap (λ (l : List End). to.ended ++ l) (sym first) ∙ to.parts;
  gives = subst (λ (replies : List KeyedReply). GivesReplies channels old.count false replies before after) (sym (map_append end_reply to.ended (ended ∷ [])))
      (gives_append channels old.count false (map end_reply to.ended) ((ended.key, ended.reply) ∷ []) before between after to.gives
      (subst (λ n. GivesReplies channels n false ((ended.key, ended.reply) ∷ []) between after) (ap (λ (r : Replay). r.count) to.others) gives));
  waiting = λ k.
      let all : times k (keys_ended (to.ended ++ ended ∷ [])) ≡ times k (keys_ended to.ended) + times k (ended.key ∷ []) =
      ap (times k) (map_append (λ (e : End). e.key) to.ended (ended ∷ [])) ∙ times_append k (keys_ended to.ended) (ended.key ∷ []) in
      let one : times k (ended.key ∷ []) ≡ once k ended.key = omega (arith, times_cons k ended.key []) in
      omega (arith, all, one, waits k, to.waiting k);
  others = is ∙ ap (λ (r : Replay). record r { waiting = new.waiting; ends = left }) to.others ∙ ap (λ (l : List End). record old { waiting = new.waiting; ends = l }) (sym (ap (λ (r : Replay). r.ends) is));
}

pub ends_all : (channels : List HeardChannel) (old new : Replay) (before after : List (List Course)) → EndsTo channels old new before after → new.ends ≡ []
    → GivesReplies channels old.count false (map end_reply old.ends) before after × ((k : Key) → times k new.waiting.items ≡ times k old.waiting.items - times k (keys_ended old.ends)) × (new ≡ record old { waiting = new.waiting; ends = [] })
ends_all channels old new before after to none =
    let all : to.ended ≡ old.ends = sym (append-nil to.ended) ∙ ap (λ (l : List End). to.ended ++ l) (sym none) ∙ to.parts in (
      subst (λ (e : List End). GivesReplies channels old.count false (map end_reply e) before after) all to.gives,
      λ k. to.waiting k ∙ ap (λ (e : List End). times k old.waiting.items - times k (keys_ended e)) all,
      to.others ∙ ap (λ (l : List End). record old { waiting = new.waiting; ends = l }) none,
    )

-- ---- what a device does

beq_same : (b : Bool) → beq b b ≡ true
beq_same true = refl
beq_same false = refl

-- no memory was found for a request
pub takes_starved : (channels : List HeardChannel) (d : DeviceSoFar) (key : Key) (moment : ℕ) (parked : Bool) (r : Request) (old : Replay) (before after : List (List Course)) → IsTaking old d
    → named_by channels key ≡ Some r → parked ≡ false → closes_file r.op ≡ false → GivesReplies channels old.count false ((key, fault no_memory) ∷ []) before after → TakesItem channels d (Ran key moment true parked) old before after true
takes_starved channels d key moment parked r old before after stands named unparked open_op gives =
    takes_ran channels d key moment true parked r d.state (step.Reply (fault no_memory)) [] named refl old old before after stands (rw (unparked, open_op) refl)
    refl refl refl stands.quiet stands.state stands.waiting gives

-- it is refused
pub refuses_ran : (channels : List HeardChannel) (d : DeviceSoFar) (key : Key) (moment : ℕ) (starved parked : Bool) (new : Replay) (before after : List (List Course)) → named_by channels key ≡ None
    → TakesItem channels d (Ran key moment starved parked) new before after false
refuses_ran channels d key moment starved parked new before after none = refuses channels d (Ran key moment starved parked) new before after (rw none refl)

-- the request of a key, by its message
pub named_is : (channels : List HeardChannel) (key : Key) (a : HeardRequest) (r : Request) (count : ℕ) → heard_at channels key ≡ Some a → WithTail count (λ tail. SpellsRequest r tail a.message) → named_by channels key ≡ Some r
named_is channels key a r count there (tail, is, spelled) = ap (λ (o : Option HeardRequest). option_and_then (λ (x : HeardRequest). request_in x.message) o) there ∙ request_read r tail a.message spelled

pub unnamed : (channels : List HeardChannel) (key : Key) (a : HeardRequest) (bad : Bad) → heard_at channels key ≡ Some a → FirstFaultOfRequest a.message bad → named_by channels key ≡ None
unnamed channels key a bad there fault_met = ap (λ (o : Option HeardRequest). option_and_then (λ (x : HeardRequest). request_in x.message) o) there ∙ none
  where
    none : request_in a.message ≡ None
    none = let e : met request_head (at_start a.message) ≡ Err bad = fault_met in rw e refl

pub unheard : (channels : List HeardChannel) (key : Key) → heard_at channels key ≡ None → named_by channels key ≡ None
unheard channels key none = ap (λ (o : Option HeardRequest). option_and_then (λ (x : HeardRequest). request_in x.message) o) none

abbrev pub job_of : Key → Request → Job
job_of key r = record { key = key; file = r.file; completion = r.completion; op = r.op }

-- The device ran it: `mid` is the device after that, with the request among those that wait where it isn't answered, and `new` that which is left once those that end are given theirs.
pub takes_applied : (channels : List HeardChannel) (d : DeviceSoFar) (key : Key) (moment : ℕ) (r : Request) (planned : Planned) (answer : Step) (old mid new : Replay) (before between after : List (List Course))
    → IsTaking old d → named_by channels key ≡ Some r → planned.job ≡ job_of key r → Applies device_runs device_parked old.device planned moment answer mid.ends mid.device → is_starved answer ≡ false
    → mid.id ≡ old.id → mid.count ≡ old.count → mid.heard ≡ old.heard → ((k : Key) → times k mid.waiting.items ≡ times k old.waiting.items + times k (keys_parked (parked_by (job_of key r) answer)))
    → GivesReplies channels old.count false (own_reply key answer) before between → GivesReplies channels mid.count false (map end_reply mid.ends) between after
    → ((k : Key) → times k new.waiting.items ≡ times k mid.waiting.items - times k (keys_ended mid.ends)) → new ≡ record mid { waiting = new.waiting; ends = [] }
    → TakesItem channels d (Ran key moment false (is_parked answer)) new before after true
takes_applied channels d key moment r planned answer old mid new before between after stands named job applies fed id count heard waiting own gives left others =
    takes_ran channels d key moment false (is_parked answer) r mid.device answer mid.ends named came old new before after stands (rw (beq_same (is_parked answer)) refl)
    (ap (λ (x : Replay). x.id) others ∙ id) (ap (λ (x : Replay). x.count) others ∙ count) (ap (λ (x : Replay). x.heard) others ∙ heard) (ap (λ (x : Replay). x.ends) others) (ap (λ (x : Replay). x.device) others)
    waits (gives_append channels old.count false (own_reply key answer) (map end_reply mid.ends) before between after own (subst (λ n. GivesReplies channels n false (map end_reply mid.ends) between after) count gives))
  where
    came : ran_step device_step d.state key r.file r.op moment false ≡ record { state = mid.device; answer = answer; ends = mid.ends }
    came = ap (λ (s : SessionDevice). ran_step device_step s key r.file r.op moment false) (sym stands.state)
        ∙ ap (λ (j : Job). ran_step device_step old.device j.key j.file j.op moment false) (sym job)
        ∙ ap (λ b. ran_step device_step old.device (planned.job).key (planned.job).file (planned.job).op moment b) (sym fed) ∙ applies.runs

    waits : (k : Key) → times k new.waiting.items ≡ times k (keys_parked (device_parked mid.device))
    waits k = parks_times (job_of key r) (device_parked old.device) answer mid.ends (device_parked mid.device) k (times k mid.waiting.items) (times k new.waiting.items)
        (subst (λ (j : Job). Parks j (device_parked old.device) answer mid.ends (device_parked mid.device)) job applies.parks)
        (waiting k ∙ ap (λ n. n + times k (keys_parked (parked_by (job_of key r) answer))) (stands.waiting k ∙ ap (λ s. times k (keys_parked (device_parked s))) (sym stands.state))) (left k)

-- a run whose mark isn't the device's
pub refuses_mark : (channels : List HeardChannel) (d : DeviceSoFar) (key : Key) (moment : ℕ) (parked : Bool) (r : Request) (planned : Planned) (answer : Step) (ends : List End) (old new last : Replay) (before after : List (List Course))
    → IsTaking old d → named_by channels key ≡ Some r → planned.job ≡ job_of key r → Applies device_runs device_parked old.device planned moment answer ends new.device → is_starved answer ≡ false
    → beq (is_parked answer) parked ≡ false → TakesItem channels d (Ran key moment false parked) last before after false
refuses_mark channels d key moment parked r planned answer ends old new last before after stands named job applies fed other =
    refuses channels d (Ran key moment false parked) last before after (agrees_ran channels d key moment false parked r new.device answer ends named came ∙ rw other refl)
  where
    came : ran_step device_step d.state key r.file r.op moment false ≡ record { state = new.device; answer = answer; ends = ends }
    came = ap (λ (s : SessionDevice). ran_step device_step s key r.file r.op moment false) (sym stands.state)
        ∙ ap (λ (j : Job). ran_step device_step old.device j.key j.file j.op moment false) (sym job)
        ∙ ap (λ b. ran_step device_step old.device (planned.job).key (planned.job).file (planned.job).op moment b) (sym fed) ∙ applies.runs

pub open_op : (o : Op) → (o ≡ op.Close → ⊥) → closes_file o ≡ false
open_op op.Close other = absurd (other refl)
open_op _ other = refl

-- ---- a cut, key by key

pub cut_more : (channels : List HeardChannel) (count i : ℕ) (key : Key) (keys : List Key) (before between after : List (List Course)) → i < length keys → key ≡ get_or keys i key
    → GivesReplies channels count true (map (λ (k : Key). (k, cancellation)) (take i keys)) before between → GivesReplies channels count true ((key, cancellation) ∷ []) between after
    → GivesReplies channels count true (map (λ (k : Key). (k, cancellation)) (take (i + 1) keys)) before after
cut_more channels count i key keys before between after below is first then_one =
    let more : take (i + 1) keys ≡ take i keys ++ key ∷ [] = take_more keys i key below ∙ ap (λ (x : Key). take i keys ++ x ∷ []) (sym is) in
    subst (λ (replies : List KeyedReply). GivesReplies channels count true replies before after)
    (sym (ap (map (λ (k : Key). (k, cancellation))) more ∙ map_append (λ (k : Key). (k, cancellation)) (take i keys) (key ∷ [])))
    (gives_append channels count true (map (λ (k : Key). (k, cancellation)) (take i keys)) ((key, cancellation) ∷ []) before between after first then_one)

pub cut_all : (channels : List HeardChannel) (count i : ℕ) (keys : List Key) (before after : List (List Course)) → length keys ≤ i
    → GivesReplies channels count true (map (λ (k : Key). (k, cancellation)) (take i keys)) before after → GivesReplies channels count true (map (λ (k : Key). (k, cancellation)) keys) before after
cut_all channels count i keys before after past gives =
    let all : take i keys ≡ keys = sym (append-nil (take i keys)) ∙ ap (λ (l : List Key). take i keys ++ l) (sym (drop_of_length-le keys past)) ∙ take-append-drop i keys in
    subst (λ (ks : List Key). GivesReplies channels count true (map (λ (k : Key). (k, cancellation)) ks) before after) all gives

pub none_more : (k : Key) (ks : List Key) → times k ks ≡ times k ks + times k []
none_more k ks = let none : times k [] ≡ 0 = refl in omega (arith, none)

pub cut_step : (channels : List HeardChannel) (count i : ℕ) (items keys : List Key) (other : Key) (reply : Reply) (before between after : List (List Course)) → items ≡ keys → i < length items → reply ≡ cancellation
    → GivesReplies channels count true (map (λ (k : Key). (k, cancellation)) (take i keys)) before between → GivesReplies channels count true ((get_or items i other, reply) ∷ []) between after
    → GivesReplies channels count true (map (λ (k : Key). (k, cancellation)) (take (i + 1) keys)) before after
cut_step channels count i items keys other reply before between after same below is first then_one =
    let key : Key = get_or items i other in
    let here : slice_get keys i ≡ Some key = ap (λ (l : List Key). slice_get l i) (sym same) ∙ slice_get-get_or items i other below in
    let within : i < length keys = subst (λ (l : List Key). i < length l) same below in
    cut_more channels count i key keys before between after within (sym (get_or_from_slice_get keys i key key here)) first
    (subst (λ (r : Reply). GivesReplies channels count true ((key, r) ∷ []) between after) is then_one)

-- the entry that is gone over now is counted
pub counted : (old : Replay) (d : DeviceSoFar) → ReplaysAs old d → IsTaking (record old { count = old.count + 1 }) d
counted old d stands = record { device = stands.device; state = stands.state; count = ap (λ n. n + 1) stands.count; heard = stands.heard; waiting = stands.waiting; quiet = stands.quiet }
