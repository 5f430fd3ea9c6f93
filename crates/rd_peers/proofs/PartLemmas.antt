-- What is said of a client's deeds alone holds of them among those of both ends.
use Rattle.std.proofs.Common.{◌≡◌, ◌⊎◌, ◌∙◌, ◌<◌, ◌≤◌, ◌||◌, not, refl, sym, ap, subst, inl, inr, ℕ, Bool, true, false, cond, List, [], ◌∷◌, ◌++◌, length, reverse, Option, Some, None}
use Rattle.std.specs.Prelude.{filter, filter_map}
use Rattle.std.specs.List.{cons_option, list_any}
use Rattle.rd_base.specs.declared.journal.Item.{Item}
use Rattle.rd_base.specs.declared.journal.Item.TheVariants.{Came, Cancelled, Cut, Ran, Sent}
use Rattle.rd_base.specs.declared.journal.Key.{Key}
use Rattle.rd_base.specs.Statuses.{insufficient_resources, no_such_device}
use Rattle.rd_drive.specs.Outcome.{fault}
use Rattle.rd_irp.specs.declared.completion.Reply.{Reply}
use Rattle.rd_irp.specs.declared.op.Op.{Op}
use Rattle.rd_irp.specs.declared.request.Request.{Request}
use Rattle.rd_pending.specs.declared.calls.Target.{Target}
use Rattle.rd_printer.specs.declared.notice.Notice.{Notice}
use Rattle.rd_deeds.specs.Joining.{Stands}
use Rattle.rd_deeds.specs.Talk.{Deed, EachAfter, EndsWith, Has, adds, client_read, client_reads, client_writes, client_wrote, completes, host_begins, host_ends, host_reads, host_writes, is_completion_of, journal, read_by_client, removes, request_at, stored_by, stores, submits, takes, tells, written_by_client}
use Rattle.rd_deeds.specs.Told.{Answers, AreAnswered, ComesUnworn, IsAnswerAt, IsDirect, IsReplied, RemovedSince, Replies, came, is_said_gone, requests_to, sent, told, told_at, worn_entries}
use Rattle.rd_peers.specs.Peers.{clients_part, is_clients}

-- ---- the host's deeds

-- what holds of each deed of a host
by_hosts : (P : Deed → Type 0) → ((c : ℕ) → P (host_begins c)) → ((c : ℕ) → P (host_ends c)) → ((a : ℕ) (t : Target) (o : Op) → P (submits a t o)) → ((n : ℕ) → P (takes n)) → ((n : Notice) → P (tells n))
    → ((c : ℕ) (m : List ℕ) → P (host_writes c m)) → ((c : ℕ) (m : List ℕ) → P (host_reads c m)) → (d : Deed) → is_clients d ≡ false → P d
by_hosts P begins ends submitted taken told wrote read (host_begins c) is = begins c
by_hosts P begins ends submitted taken told wrote read (host_ends c) is = ends c
by_hosts P begins ends submitted taken told wrote read (submits a t o) is = submitted a t o
by_hosts P begins ends submitted taken told wrote read (takes n) is = taken n
by_hosts P begins ends submitted taken told wrote read (tells n) is = told n
by_hosts P begins ends submitted taken told wrote read (host_writes c m) is = wrote c m
by_hosts P begins ends submitted taken told wrote read (host_reads c m) is = read c m
by_hosts P begins ends submitted taken told wrote read (removes d) is = absurd (cc (is))
by_hosts P begins ends submitted taken told wrote read (adds d) is = absurd (cc (is))
by_hosts P begins ends submitted taken told wrote read (client_reads c m) is = absurd (cc (is))
by_hosts P begins ends submitted taken told wrote read (client_writes c m) is = absurd (cc (is))
by_hosts P begins ends submitted taken told wrote read (completes k m) is = absurd (cc (is))
by_hosts P begins ends submitted taken told wrote read (stores d x) is = absurd (cc (is))

-- ---- what is read off the client's deeds

same_map : {B : Type 0} (f : Deed → Option B) → ((d : Deed) → is_clients d ≡ false → f d ≡ None) → (deeds : List Deed) → filter_map f (clients_part deeds) ≡ filter_map f deeds
same_map f skips [] = refl
same_map {B} f skips (d ∷ deeds) = by (is_clients d) refl (same_map f skips deeds)
  where
    by : (b : Bool) → is_clients d ≡ b → filter_map f (clients_part deeds) ≡ filter_map f deeds → filter_map f (cond b (d ∷ clients_part deeds) (clients_part deeds)) ≡ cons_option (f d) (filter_map f deeds)
    by true is later = ap (cons_option (f d)) later
    by false is later = later ∙ sym (ap (λ (o : Option B). cons_option o (filter_map f deeds)) (skips d is))

pub same_read : (c : ℕ) (deeds : List Deed) → client_read c (clients_part deeds) ≡ client_read c deeds
same_read c deeds = same_map (read_by_client c) (by_hosts (λ d. read_by_client c d ≡ None) (λ x. refl) (λ x. refl) (λ a t o. refl) (λ n. refl) (λ n. refl) (λ x m. refl) (λ x m. refl)) deeds

same_wrote : (c : ℕ) (deeds : List Deed) → client_wrote c (clients_part deeds) ≡ client_wrote c deeds
same_wrote c deeds = same_map (written_by_client c) (by_hosts (λ d. written_by_client c d ≡ None) (λ x. refl) (λ x. refl) (λ a t o. refl) (λ n. refl) (λ n. refl) (λ x m. refl) (λ x m. refl)) deeds

pub same_journal : (device : ℕ) (deeds : List Deed) → journal device (clients_part deeds) ≡ journal device deeds
same_journal device deeds = same_map (stored_by device) (by_hosts (λ d. stored_by device d ≡ None) (λ x. refl) (λ x. refl) (λ a t o. refl) (λ n. refl) (λ n. refl) (λ x m. refl) (λ x m. refl)) deeds

same_told : (c device : ℕ) (deeds : List Deed) → told c device (clients_part deeds) ≡ told c device deeds
same_told c device deeds = same_map (told_at c device) (by_hosts (λ d. told_at c device d ≡ None) (λ x. refl) (λ x. refl) (λ a t o. refl) (λ n. refl) (λ n. refl) (λ x m. refl) (λ x m. refl)) deeds

-- whether any of them is so
same_any : (test : Deed → Bool) → ((d : Deed) → is_clients d ≡ false → test d ≡ false) → (deeds : List Deed) → list_any test (clients_part deeds) ≡ list_any test deeds
same_any test skips [] = refl
same_any test skips (d ∷ deeds) = by (is_clients d) refl (same_any test skips deeds)
  where
    by : (b : Bool) → is_clients d ≡ b → list_any test (clients_part deeds) ≡ list_any test deeds → list_any test (cond b (d ∷ clients_part deeds) (clients_part deeds)) ≡ (test d || list_any test deeds)
    by true is later = ap (λ (b : Bool). test d || b) later
    by false is later = later ∙ sym (ap (λ (b : Bool). b || list_any test deeds) (skips d is))

same_completed : (key : Key) (deeds : List Deed) → list_any (is_completion_of key) (clients_part deeds) ≡ list_any (is_completion_of key) deeds
same_completed key deeds = same_any (is_completion_of key) (by_hosts (λ d. is_completion_of key d ≡ false) (λ x. refl) (λ x. refl) (λ a t o. refl) (λ n. refl) (λ n. refl) (λ x m. refl) (λ x m. refl)) deeds

-- ---- one of them

has_part : (x : Deed) (deeds : List Deed) → is_clients x ≡ true → Has x deeds → Has x (clients_part deeds)
has_part x [] own has = absurd has
has_part x (d ∷ deeds) own has = by (is_clients d) refl has (has_part x deeds own)
  where
    by : (b : Bool) → is_clients d ≡ b → (x ≡ d) ⊎ Has x deeds → (Has x deeds → Has x (clients_part deeds)) → Has x (cond b (d ∷ clients_part deeds) (clients_part deeds))
    by true is (inl same) later = inl same
    by true is (inr there) later = inr (later there)
    by false is (inl same) later = let other : true ≡ false = sym own ∙ ap is_clients same ∙ is in absurd (cc (other))
    by false is (inr there) later = later there

-- Where the client's deeds are in two parts, so are those of both.
split_part : (deeds late : List Deed) (x : Deed) (early : List Deed) → clients_part deeds ≡ late ++ x ∷ early
    → (after before : List Deed) × (deeds ≡ after ++ x ∷ before) × (clients_part before ≡ early)
split_part [] [] x early is = absurd (cc (is))
split_part [] (y ∷ late) x early is = absurd (cc (is))
split_part (d ∷ deeds) late x early is = by (is_clients d) late is (split_part deeds)
  where
    with_one : (after before : List Deed) × (deeds ≡ after ++ x ∷ before) × (clients_part before ≡ early) → (after before : List Deed) × (d ∷ deeds ≡ after ++ x ∷ before) × (clients_part before ≡ early)
    with_one (after, before, same, part) = (d ∷ after, before, ap (λ (ds : List Deed). d ∷ ds) same, part)

    by : (b : Bool) (l : List Deed) → cond b (d ∷ clients_part deeds) (clients_part deeds) ≡ l ++ x ∷ early
        → ((ls : List Deed) (z : Deed) (es : List Deed) → clients_part deeds ≡ ls ++ z ∷ es → (after before : List Deed) × (deeds ≡ after ++ z ∷ before) × (clients_part before ≡ es))
        → (after before : List Deed) × (d ∷ deeds ≡ after ++ x ∷ before) × (clients_part before ≡ early)
    by true [] here later = let same : d ≡ x = cc (here) in ([], deeds, ap (λ (z : Deed). z ∷ deeds) same, cc (here))
    by true (y ∷ l) here later = with_one (later l x early (cc (here)))
    by false l here later = with_one (later l x early here)

-- ---- each of them

each_whole : (P : List Deed → Deed → Type 0) → ((before : List Deed) (d : Deed) → is_clients d ≡ false → P before d) → ((before : List Deed) (d : Deed) → P (clients_part before) d → P before d)
    → (deeds : List Deed) → EachAfter P (clients_part deeds) → EachAfter P deeds
each_whole P hosts clients [] all = tt
each_whole P hosts clients (d ∷ deeds) all = by (is_clients d) refl all (each_whole P hosts clients deeds)
  where
    by : (b : Bool) → is_clients d ≡ b → EachAfter P (cond b (d ∷ clients_part deeds) (clients_part deeds)) → (EachAfter P (clients_part deeds) → EachAfter P deeds) → P deeds d × EachAfter P deeds
    by true is has later = (clients deeds d has.0, later has.1)
    by false is has later = (hosts deeds d is, later has)

-- ---- where a key stands, and its completion

stands_whole : (before : List Deed) (d : Deed) → Stands (clients_part before) d → Stands before d
stands_whole before (stores device (Came key)) (r, read, named, none) =
    (r, subst (λ (ms : List (List ℕ)). request_at ms key.index ≡ Some r) (same_read key.channel before) read, named, sym (same_completed key before) ∙ none)
stands_whole before (stores device (Ran key moment starved parked)) is = tt
stands_whole before (stores device (Cancelled key)) is = tt
stands_whole before (stores device (Sent key)) is = tt
stands_whole before (stores device (Cut cause)) is = tt
stands_whole before (completes key message) is = λ device came.
    subst (λ (items : List Item). Has (Sent key) items) (same_journal device before) (is device (subst (λ (items : List Item). Has (Came key) items) (sym (same_journal device before)) came))
stands_whole before (client_writes c m) is = is
stands_whole before (client_reads c m) is = tt
stands_whole before (removes d) is = tt
stands_whole before (adds d) is = tt
stands_whole before (host_begins c) is = tt
stands_whole before (host_ends c) is = tt
stands_whole before (submits a t o) is = tt
stands_whole before (takes n) is = tt
stands_whole before (tells n) is = tt
stands_whole before (host_writes c m) is = tt
stands_whole before (host_reads c m) is = tt

pub all_stand : (deeds : List Deed) → EachAfter Stands (clients_part deeds) → EachAfter Stands deeds
all_stand deeds all =
    each_whole Stands (λ before. by_hosts (λ d. Stands before d) (λ x. tt) (λ x. tt) (λ a t o. tt) (λ n. tt) (λ n. tt) (λ x m. tt) (λ x m. tt)) stands_whole deeds all

-- ---- the answers

removed_whole : (device : ℕ) (key : Key) (r : Request) (before : List Deed) → RemovedSince device key r (clients_part before) → RemovedSince device key r before
removed_whole device key r before (late, early, message, same, gone, read) =
    let (after, first, whole, part) = split_part before late (client_writes key.channel message) early same in (
      after,
      first,
      message,
      whole,
      gone,
      subst (λ (ms : List (List ℕ)). request_at ms key.index ≡ Some r) (same_read key.channel first) (subst (λ (ds : List Deed). request_at (client_read key.channel ds) key.index ≡ Some r) (sym part) read),
    )

module _ (replies : Replies) where
  replied_whole : (device : ℕ) (key : Key) (r : Request) (reply : Reply) (before : List Deed) → IsReplied replies device key r reply (clients_part before) → IsReplied replies device key r reply before
  replied_whole device key r reply before is = record {
    earlier = is.earlier;
    later = is.later;
    stands = sym (ap reverse (same_journal device before)) ∙ is.stands;
    given = is.given;
    cut = λ first last cause at not has. removed_whole device key r before (is.cut first last cause at not has);
  }

  direct_whole : (device : ℕ) (key : Key) (reply : Reply) (before : List Deed) → IsDirect device key reply (clients_part before) → IsDirect device key reply before
  direct_whole device key reply before is = on_wrote (same_wrote key.channel before) (same_journal device before)
    where
      -- by what was written, and what is stored
      Direct : List (List ℕ) → List Item → Type 0
      Direct messages items =
          ((is_said_gone device messages ≡ true) × (reply ≡ fault no_such_device))
          ⊎ ((is_said_gone device messages ≡ false) × (reply ≡ fault insufficient_resources)
          × (worn_entries ≤ length items)
          × ((later : ℕ) → came key.channel items later ≡ true → later < key.index))

      on_wrote : client_wrote key.channel (clients_part before) ≡ client_wrote key.channel before → journal device (clients_part before) ≡ journal device before → Direct (client_wrote key.channel before) (journal device before)
      on_wrote messages items = subst (λ (xs : List Item). Direct (client_wrote key.channel before) xs) items (subst (λ (ms : List (List ℕ)). Direct ms (journal device (clients_part before))) messages is)

  answer_whole : (device : ℕ) (key : Key) (r : Request) (reply : Reply) (before : List Deed) → IsAnswerAt replies device key r reply (clients_part before) → IsAnswerAt replies device key r reply before
  answer_whole device key r reply before (inl is) = inl (replied_whole device key r reply before is)
  answer_whole device key r reply before (inr (inl (has, is, removed))) =
      inr (inl (subst (λ (items : List Item). Has (Cancelled key) items) (same_journal device before) has, is, removed_whole device key r before removed))
  answer_whole device key r reply before (inr (inr (none, is))) =
      inr (inr (subst (λ (items : List Item). came key.channel items key.index ≡ false) (same_journal device before) none, direct_whole device key reply before is))

  answers_whole : (before : List Deed) (d : Deed) → Answers replies (clients_part before) d → Answers replies before d
  answers_whole before (completes key message) (r, reply, read, spells, is) =
      (r, reply, subst (λ (ms : List (List ℕ)). request_at ms key.index ≡ Some r) (same_read key.channel before) read, spells, answer_whole r.device key r reply before is)
  answers_whole before (client_writes c m) is = tt
  answers_whole before (client_reads c m) is = tt
  answers_whole before (stores d x) is = tt
  answers_whole before (removes d) is = tt
  answers_whole before (adds d) is = tt
  answers_whole before (host_begins c) is = tt
  answers_whole before (host_ends c) is = tt
  answers_whole before (submits a t o) is = tt
  answers_whole before (takes n) is = tt
  answers_whole before (tells n) is = tt
  answers_whole before (host_writes c m) is = tt
  answers_whole before (host_reads c m) is = tt

  unworn_whole : (before : List Deed) (d : Deed) → ComesUnworn (clients_part before) d → ComesUnworn before d
  unworn_whole before (stores device (Came key)) is = λ k message has same worn none.
      is k message (has_part (completes k message) before refl has) same worn (subst (λ (items : List Item). came k.channel items k.index ≡ false) (sym (same_journal device before)) none)
  unworn_whole before (stores device (Ran key moment starved parked)) is = tt
  unworn_whole before (stores device (Cancelled key)) is = tt
  unworn_whole before (stores device (Sent key)) is = tt
  unworn_whole before (stores device (Cut cause)) is = tt
  unworn_whole before (completes key message) is = tt
  unworn_whole before (client_writes c m) is = tt
  unworn_whole before (client_reads c m) is = tt
  unworn_whole before (removes d) is = tt
  unworn_whole before (adds d) is = tt
  unworn_whole before (host_begins c) is = tt
  unworn_whole before (host_ends c) is = tt
  unworn_whole before (submits a t o) is = tt
  unworn_whole before (takes n) is = tt
  unworn_whole before (tells n) is = tt
  unworn_whole before (host_writes c m) is = tt
  unworn_whole before (host_reads c m) is = tt

  -- What a client tells it tells among the host's deeds.
  pub all_answered : (deeds : List Deed) → AreAnswered replies (clients_part deeds) → AreAnswered replies deeds
  all_answered deeds all = record {
    sent_in_order = λ c device.
        subst (λ (items : List Item). filter (came c items) (told c device deeds) ≡ sent c items) (same_journal device deeds)
        (subst (λ (is : List ℕ). filter (came c (journal device (clients_part deeds))) is ≡ sent c (journal device (clients_part deeds))) (same_told c device deeds) (all.sent_in_order c device));
    direct_in_order = λ c device. direct_by c device (same_journal device deeds) (same_read c deeds) (same_told c device deeds) (all.direct_in_order c device);
    answers = each_whole (Answers replies) (λ before. by_hosts (λ d. Answers replies before d) (λ x. tt) (λ x. tt) (λ a t o. tt) (λ n. tt) (λ n. tt) (λ x m. tt) (λ x m. tt)) answers_whole deeds all.answers;
    comes = each_whole ComesUnworn (λ before. by_hosts (λ d. ComesUnworn before d) (λ x. tt) (λ x. tt) (λ a t o. tt) (λ n. tt) (λ n. tt) (λ x m. tt) (λ x m. tt)) unworn_whole deeds all.comes;
  }
    where
      -- by a journal, the requests that were read, and the completions
      Direct : ℕ → ℕ → List Item → List (List ℕ) → List ℕ → Type 0
      Direct c device items messages indices = EndsWith (filter (λ index. not (came c items index)) (requests_to device messages)) (filter (λ index. not (came c items index)) indices)

      direct_by : (c device : ℕ) → journal device (clients_part deeds) ≡ journal device deeds → client_read c (clients_part deeds) ≡ client_read c deeds → told c device (clients_part deeds) ≡ told c device deeds
          → Direct c device (journal device (clients_part deeds)) (client_read c (clients_part deeds)) (told c device (clients_part deeds)) → Direct c device (journal device deeds) (client_read c deeds) (told c device deeds)
      direct_by c device items messages indices is =
          subst (λ (xs : List Item). Direct c device xs (client_read c deeds) (told c device deeds)) items
          (subst (λ (ms : List (List ℕ)). Direct c device (journal device (clients_part deeds)) ms (told c device deeds)) messages
          (subst (λ (ns : List ℕ). Direct c device (journal device (clients_part deeds)) (client_read c (clients_part deeds)) ns) indices is))
