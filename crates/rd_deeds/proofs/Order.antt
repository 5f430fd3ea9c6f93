-- Requests run in the order in which the host saw them complete, and no request is read while one with its pair is held.
use Rattle.std.proofs.Common.{◌≡◌, ◌⊎◌, ◌∙◌, refl, sym, ap, subst, inl, inr, ℕ, ◌<◌, ◌≤◌, ◌==◌, ◌&&◌, ◌||◌, Bool, true, false, cond, List, [], ◌∷◌, ◌++◌, length, Some, None, arith, append_assoc, length-append, eq-eqb, eqb-true}
use Rattle.std.specs.Prelude.{filter}
use Rattle.std.specs.List.{cons_option, list_any}
use Rattle.std.proofs.lemmas.List.Elements.{filter_map-append}
use Rattle.rd_base.specs.declared.journal.Item.{Item}
use Rattle.rd_base.specs.declared.journal.Item.TheVariants.{Came, Ran, Cancelled, Sent}
use Rattle.rd_base.specs.declared.journal.Key.{Key}
use Rattle.rd_irp.specs.declared.request.Request.{Request}
use Rattle.rd_deeds.specs.Joining.{IsAlone, IsCarried, RunsInOrder, Stands, requests_written}
use Rattle.rd_deeds.specs.Talk.{AtEachPoint, Deed, EachAfter, Has, adds, answered, asked, client_read, client_reads, client_writes, completes, host_begins, host_ends, host_reads, host_writes, host_wrote, is_completion_of, is_request, journal, message_has_pair, removes, request_in, stored_by, stores, submits, takes, tells}
use Rattle.rd_deeds.proofs.Calls.{Does}
use Rattle.rd_deeds.proofs.Joined.{at_most_one, carried_now, counted}
use Rattle.rd_deeds.proofs.Journals.{HasRun, IsPlain}
use Rattle.rd_deeds.proofs.Lists.{all_of, each_end, fewer_in_end, has_later, has_split, point_end, split_cases}
use Rattle.rd_deeds.proofs.Messages.{request_is}
use Rattle.rd_deeds.proofs.Telling.{Tells, option_cases, request_within}

-- ---- lists

-- ---- journals

never_both : (k : Key) (items : List Item) → EachAfter IsPlain items → HasRun k items → Has (Cancelled k) items → ⊥
never_both k [] plain ran cancelled = cancelled
never_both k (item ∷ items) plain (m, s, p, ran) cancelled =
    elim ran [
      | inl r ↦ elim cancelled [ inl c ↦ cc (r, c) | inr c ↦ (subst (IsPlain items) (sym r) plain.0).2 c ]
      | inr r ↦ elim cancelled [ inl c ↦ (subst (IsPlain items) (sym c) plain.0).1 (m, s, p, r) | inr c ↦ never_both k items plain.1 (m, s, p, r) c ]
    ]

came_first : (k : Key) (items : List Item) → EachAfter IsPlain items → HasRun k items → Has (Came k) items
came_first k [] plain (m, s, p, ran) = absurd ran
came_first k (item ∷ items) plain (m, s, p, ran) =
    elim ran [ inl same ↦ inr (subst (IsPlain items) (sym same) plain.0).0 | inr later ↦ inr (came_first k items plain.1 (m, s, p, later)) ]

run_later : (k : Key) (item : Item) (items : List Item) → HasRun k items → HasRun k (item ∷ items)
run_later k item items (m, s, p, ran) = (m, s, p, inr ran)

sent_ran : (k : Key) (items : List Item) → EachAfter IsPlain items → Has (Sent k) items → HasRun k items ⊎ Has (Cancelled k) items
sent_ran k [] plain sent = absurd sent
sent_ran k (item ∷ items) plain sent =
    elim sent [
      | inl same ↦ elim (subst (IsPlain items) (sym same) plain.0).0 [ inl h ↦ inl (run_later k item items h) | inr h ↦ inr (inr h) ]
      | inr later ↦ elim (sent_ran k items plain.1 later) [ inl h ↦ inl (run_later k item items h) | inr h ↦ inr (inr h) ]
    ]

no_fewer : (b : Bool) (m : List ℕ) (ms : List (List ℕ)) → length (filter is_request ms) ≤ length (filter is_request (cons_option (cond b (Some m) None) ms))
no_fewer true m ms = go (is_request m)
  where
    go : (q : Bool) → length (filter is_request ms) ≤ length (cond q (m ∷ filter is_request ms) (filter is_request ms))
    go true = omega arith
    go false = omega arith
no_fewer false m ms = omega arith

stored : (b : Bool) (x item : Item) (items : List Item) → Has x (cons_option (cond b (Some item) None) items) → (x ≡ item) ⊎ Has x items
stored true x item items has = has
stored false x item items has = inr has

-- a key that came was read
came_read : (deeds : List Deed) (d : ℕ) (k : Key) → EachAfter Stands deeds → Has (Came k) (journal d deeds) → k.index < length (filter is_request (client_read k.channel deeds))
came_read [] d k stands came = absurd came
came_read (stores device item ∷ before) d k stands came =
    elim (stored (device == d) (Came k) item (journal d before) came) [
      | inl same ↦ let read = subst (λ (item : Item). Stands before (stores device item)) (sym same) stands.0 in request_within k.index read.0 (client_read k.channel before) read.1
      | inr later ↦ came_read before d k stands.1 later
    ]
came_read (client_reads c m ∷ before) d k stands came = omega (arith, came_read before d k stands.1 came, no_fewer (c == k.channel) m (client_read k.channel before))
came_read (host_begins c ∷ before) d k stands came = came_read before d k stands.1 came
came_read (host_ends c ∷ before) d k stands came = came_read before d k stands.1 came
came_read (removes e ∷ before) d k stands came = came_read before d k stands.1 came
came_read (adds e ∷ before) d k stands came = came_read before d k stands.1 came
came_read (submits x named o ∷ before) d k stands came = came_read before d k stands.1 came
came_read (takes n ∷ before) d k stands came = came_read before d k stands.1 came
came_read (tells n ∷ before) d k stands came = came_read before d k stands.1 came
came_read (host_writes c m ∷ before) d k stands came = came_read before d k stands.1 came
came_read (host_reads c m ∷ before) d k stands came = came_read before d k stands.1 came
came_read (client_writes c m ∷ before) d k stands came = came_read before d k stands.1 came
came_read (completes key m ∷ before) d k stands came = came_read before d k stands.1 came

-- what ran was written before
ran_written : (deeds : List Deed) (d : ℕ) (k : Key) → IsCarried deeds → EachAfter Stands deeds → EachAfter IsPlain (journal d deeds) → HasRun k (journal d deeds) → k.index < requests_written k.channel deeds
ran_written deeds d k carried stands plain ran =
    omega (arith, came_read deeds d k stands (came_first k (journal d deeds) plain ran), fewer_in_end is_request (host_wrote k.channel deeds) (client_read k.channel deeds) (carried.to_client k.channel))

run_in : (k : Key) (prefix back : List Item) → HasRun k back → HasRun k (prefix ++ back)
run_in k prefix back (m, s, p, ran) = (m, s, p, has_later _ prefix back ran)

-- a completion is written after the `Sent` of its key, where the key comes at all
abbrev pub SendsFirst : List Deed → List Deed → Deed → Type 0
SendsFirst deeds before (completes key m) = (device : ℕ) → Has (Came key) (journal device deeds) → Has (Sent key) (journal device before)
SendsFirst deeds before _ = Unit {0}

is_written : (late before : List Deed) (key : Key) (m : List ℕ) → list_any (is_completion_of key) (late ++ completes key m ∷ before) ≡ true
is_written [] before key m = rw (eq-eqb key.channel key.channel refl, eq-eqb key.index key.index refl) refl
is_written (x ∷ late) before key m = rw (is_written late before key m) (either (is_completion_of key x))
  where
    either : (b : Bool) → (b || true) ≡ true
    either true = refl
    either false = refl

-- a key that comes, comes before its completion
came_before : (late before : List Deed) (d : ℕ) (key : Key) (m : List ℕ) → EachAfter Stands (late ++ completes key m ∷ before) → Has (Came key) (journal d (late ++ completes key m ∷ before)) → Has (Came key) (journal d before)
came_before [] before d key m stands came = came
came_before (stores device item ∷ late) before d key m stands came =
    elim (stored (device == d) (Came key) item (journal d (late ++ completes key m ∷ before)) came) [
      | inl same ↦
          let here = subst (λ (x : Item). Stands (late ++ completes key m ∷ before) (stores device x)) (sym same) stands.0 in
          absurd (cc (here.3, is_written late before key m))
      | inr older ↦ came_before late before d key m stands.1 older
    ]
came_before (host_begins c ∷ late) before d key m stands came = came_before late before d key m stands.1 came
came_before (host_ends c ∷ late) before d key m stands came = came_before late before d key m stands.1 came
came_before (removes e ∷ late) before d key m stands came = came_before late before d key m stands.1 came
came_before (adds e ∷ late) before d key m stands came = came_before late before d key m stands.1 came
came_before (submits x named o ∷ late) before d key m stands came = came_before late before d key m stands.1 came
came_before (takes n ∷ late) before d key m stands came = came_before late before d key m stands.1 came
came_before (tells n ∷ late) before d key m stands came = came_before late before d key m stands.1 came
came_before (host_writes c y ∷ late) before d key m stands came = came_before late before d key m stands.1 came
came_before (host_reads c y ∷ late) before d key m stands came = came_before late before d key m stands.1 came
came_before (client_reads c y ∷ late) before d key m stands came = came_before late before d key m stands.1 came
came_before (client_writes c y ∷ late) before d key m stands came = came_before late before d key m stands.1 came
came_before (completes k y ∷ late) before d key m stands came = came_before late before d key m stands.1 came

sends_first : (deeds late before : List Deed) (x : Deed) → deeds ≡ late ++ x ∷ before → EachAfter Stands deeds → SendsFirst deeds before x
sends_first deeds late before (completes key m) parts stands = λ device came.
    let all = subst (EachAfter Stands) parts stands in
    (each_end Stands late (completes key m ∷ before) all).0 device
    (came_before late before device key m all (subst (λ (xs : List Deed). Has (Came key) (journal device xs)) parts came))
sends_first deeds late before (host_begins c) parts stands = tt
sends_first deeds late before (host_ends c) parts stands = tt
sends_first deeds late before (removes e) parts stands = tt
sends_first deeds late before (adds e) parts stands = tt
sends_first deeds late before (submits x named o) parts stands = tt
sends_first deeds late before (takes n) parts stands = tt
sends_first deeds late before (tells n) parts stands = tt
sends_first deeds late before (host_writes c m) parts stands = tt
sends_first deeds late before (host_reads c m) parts stands = tt
sends_first deeds late before (client_reads c m) parts stands = tt
sends_first deeds late before (client_writes c m) parts stands = tt
sends_first deeds late before (stores device item) parts stands = tt

pub each_sends_first : (deeds late early : List Deed) → deeds ≡ late ++ early → EachAfter Stands deeds → EachAfter (SendsFirst deeds) early
each_sends_first deeds late [] parts stands = tt
each_sends_first deeds late (x ∷ before) parts stands =
    (sends_first deeds late before x parts stands, each_sends_first deeds (late ++ x ∷ []) before (parts ∙ sym (append_assoc late (x ∷ []) before)) stands)

pub in_order : (deeds : List Deed) → AtEachPoint IsCarried deeds → EachAfter Stands deeds → ((device : ℕ) → EachAfter IsPlain (journal device deeds)) → RunsInOrder deeds
in_order deeds all_carried all_stand plain k l answer asking r s after between before same index asks found devices moment later starved parked later_starved later_parked after_k before_k after_l before_l k_ran l_ran =
    let d : ℕ = r.device in
    let middle : List Deed = between ++ completes k answer ∷ before in
    let newer : List Deed = after ++ host_writes l.channel asking ∷ [] in
    let all : deeds ≡ newer ++ middle = same ∙ sym (append_assoc after (host_writes l.channel asking ∷ []) middle) in
    let items : journal d deeds ≡ journal d newer ++ journal d middle = ap (journal d) all ∙ filter_map-append (stored_by d) newer middle in
    let plain_then : EachAfter IsPlain (journal d middle) = each_end IsPlain (journal d newer) (journal d middle) (subst (EachAfter IsPlain) items (plain d)) in
    let stands : EachAfter Stands middle = each_end Stands newer middle (subst (EachAfter Stands) all all_stand) in
    let carried : IsCarried middle = carried_now middle (point_end IsCarried newer middle (subst (AtEachPoint IsCarried) all all_carried)) in
    let not_l : ¬ (HasRun l (journal d middle)) = λ ran. omega (arith, ran_written middle d l carried stands plain_then ran, index) in
    let items_then : journal d middle ≡ journal d between ++ journal d before = filter_map-append (stored_by d) between (completes k answer ∷ before) in
    let ran : HasRun k (journal d deeds) = (moment, starved, parked, rw k_ran (has_split (Ran k moment starved parked) after_k before_k)) in
    let completed : deeds ≡ (newer ++ between) ++ completes k answer ∷ before = all ∙ sym (append_assoc newer between (completes k answer ∷ before)) in
    let sent : Has (Sent k) (journal d before) = sends_first deeds (newer ++ between) before (completes k answer) completed all_stand d (came_first k (journal d deeds) (plain d) ran) in
    let plain_before : EachAfter IsPlain (journal d before) = each_end IsPlain (journal d between) (journal d before) (subst (EachAfter IsPlain) items_then plain_then) in
    let ran_k : HasRun k (journal d middle) =
    elim (sent_ran k (journal d before) plain_before sent) [
      | inl h ↦ subst (HasRun k) (sym items_then) (run_in k (journal d between) (journal d before) h)
      | inr h ↦ absurd (never_both k (journal d deeds) (plain d) ran (rw (items, items_then) (has_later (Cancelled k) (journal d newer) _ (has_later (Cancelled k) (journal d between) (journal d before) h))))
    ] in
    let k_before : length before_k < length (journal d middle) =
    elim (split_cases (journal d newer) (journal d middle) after_k (Ran k moment starved parked) before_k (sym items ∙ k_ran)) [
      | inl (zs, h, e) ↦ omega (arith, ap length e, length-append {A = Item} zs (Ran k moment starved parked ∷ before_k))
      | inr (zs, g, e) ↦ absurd ((each_end IsPlain after_k (Ran k moment starved parked ∷ before_k) (subst (EachAfter IsPlain) k_ran (plain d))).0.1 (subst (HasRun k) (sym e) (run_in k zs (journal d middle) ran_k)))
    ] in
    elim (split_cases (journal d newer) (journal d middle) after_l (Ran l later later_starved later_parked) before_l (sym items ∙ l_ran)) [
      | inl (zs, h, e) ↦ absurd (not_l (later, later_starved, later_parked, rw e (has_split (Ran l later later_starved later_parked) zs before_l)))
      | inr (zs, g, e) ↦ omega (arith, k_before, ap length e, length-append {A = Item} zs (journal d middle))
    ]

-- ---- what is answered was sent

stored_before : (b : Bool) (x item : Item) (items : List Item) → Has x items → Has x (cons_option (cond b (Some item) None) items)
stored_before true x item items has = inr has
stored_before false x item items has = has

abbrev key_at : ℕ → ℕ → Key
key_at c k = record { channel = c; index = k }

answered_sent : (before deeds : List Deed) (c d i k : ℕ) → EachAfter (SendsFirst deeds) before → Has k (answered c d i before) → Has (Came (key_at c k)) (journal d deeds) → Has (Sent (key_at c k)) (journal d before)
answered_sent [] deeds c d i k stands has came = absurd has
answered_sent (completes key m ∷ before) deeds c d i k stands has came =
    elim (option_cases (key.channel == c && message_has_pair d i m) k key.index (answered c d i before) has) [
      | inl (test, same) ↦ here (key.channel == c) refl (message_has_pair d i m) test same
      | inr h ↦ answered_sent before deeds c d i k stands.1 h came
    ]
  where
    here : (p : Bool) → (key.channel == c) ≡ p → (q : Bool) → (p && q) ≡ true → k ≡ key.index → Has (Sent (key_at c k)) (journal d before)
    here true e q test same =
        let key_is : key ≡ key_at c k = ap (λ (x : ℕ). key_at x key.index) (eqb-true key.channel c e) ∙ ap (λ (x : ℕ). key_at c x) (sym same) in
        subst (λ (x : Key). Has (Sent x) (journal d before)) key_is (stands.0 d (subst (λ (x : Key). Has (Came x) (journal d deeds)) (sym key_is) came))
    here false e q test same = absurd (cc test)
answered_sent (stores device item ∷ before) deeds c d i k stands has came = stored_before (device == d) _ item (journal d before) (answered_sent before deeds c d i k stands.1 has came)
answered_sent (host_begins e ∷ before) deeds c d i k stands has came = answered_sent before deeds c d i k stands.1 has came
answered_sent (host_ends e ∷ before) deeds c d i k stands has came = answered_sent before deeds c d i k stands.1 has came
answered_sent (removes e ∷ before) deeds c d i k stands has came = answered_sent before deeds c d i k stands.1 has came
answered_sent (adds e ∷ before) deeds c d i k stands has came = answered_sent before deeds c d i k stands.1 has came
answered_sent (submits x named o ∷ before) deeds c d i k stands has came = answered_sent before deeds c d i k stands.1 has came
answered_sent (takes n ∷ before) deeds c d i k stands has came = answered_sent before deeds c d i k stands.1 has came
answered_sent (tells n ∷ before) deeds c d i k stands has came = answered_sent before deeds c d i k stands.1 has came
answered_sent (host_writes e m ∷ before) deeds c d i k stands has came = answered_sent before deeds c d i k stands.1 has came
answered_sent (host_reads e m ∷ before) deeds c d i k stands has came = answered_sent before deeds c d i k stands.1 has came
answered_sent (client_reads e m ∷ before) deeds c d i k stands has came = answered_sent before deeds c d i k stands.1 has came
answered_sent (client_writes e m ∷ before) deeds c d i k stands has came = answered_sent before deeds c d i k stands.1 has came

-- where a request is read, each earlier one with its pair is answered
pub all_answered : (client : ℕ) (before : List Deed) (c : ℕ) (m : List ℕ) (r : Request) → Does client (client_reads c m ∷ before) → IsCarried (client_reads c m ∷ before)
    → AtEachPoint IsCarried before → EachAfter Stands (client_reads c m ∷ before) → EachAfter Tells (client_reads c m ∷ before) → request_in m ≡ Some r
    → asked c r.device r.completion before ≡ answered c r.device r.completion before
all_answered client before c m r may carried all_carried stands told asks =
    let one : asked c r.device r.completion (client_reads c m ∷ before) ≡ length (filter is_request (client_read c before)) ∷ asked c r.device r.completion before =
    rw (eq-eqb c c refl, request_is m r asks, asks, eq-eqb r.device r.device refl, eq-eqb r.completion r.completion refl) refl in
    all_of (asked c r.device r.completion before) (answered c r.device r.completion before) (counted client before may.1 all_carried stands.1 told.1 c r.device r.completion)
    (omega (arith, ap length one, at_most_one client (client_reads c m ∷ before) may carried stands c r.device r.completion))

alone_one : (client : ℕ) (deeds before : List Deed) (deed : Deed) → Does client (deed ∷ before) → IsCarried (deed ∷ before) → AtEachPoint IsCarried before → EachAfter Stands (deed ∷ before)
    → EachAfter (SendsFirst deeds) before → EachAfter Tells (deed ∷ before) → IsAlone deeds before deed
alone_one client deeds before (client_reads c m) may carried all_carried stands sends told =
    λ r index asks has came. answered_sent before deeds c r.device r.completion index sends (subst (Has index) (all_answered client before c m r may carried all_carried stands told asks) has) came
alone_one client deeds before (host_begins e) may carried all_carried stands sends told = tt
alone_one client deeds before (host_ends e) may carried all_carried stands sends told = tt
alone_one client deeds before (removes e) may carried all_carried stands sends told = tt
alone_one client deeds before (adds e) may carried all_carried stands sends told = tt
alone_one client deeds before (submits x named o) may carried all_carried stands sends told = tt
alone_one client deeds before (takes n) may carried all_carried stands sends told = tt
alone_one client deeds before (tells n) may carried all_carried stands sends told = tt
alone_one client deeds before (host_writes e m) may carried all_carried stands sends told = tt
alone_one client deeds before (host_reads e m) may carried all_carried stands sends told = tt
alone_one client deeds before (client_writes e m) may carried all_carried stands sends told = tt
alone_one client deeds before (completes key m) may carried all_carried stands sends told = tt
alone_one client deeds before (stores device item) may carried all_carried stands sends told = tt

alone_from : (client : ℕ) (deeds part : List Deed) → Does client part → AtEachPoint IsCarried part → EachAfter Stands part → EachAfter (SendsFirst deeds) part → EachAfter Tells part → EachAfter (IsAlone deeds) part
alone_from client deeds [] may carried stands sends told = tt
alone_from client deeds (deed ∷ before) may carried stands sends told =
    (alone_one client deeds before deed may carried.0 carried.1 stands sends.1 told, alone_from client deeds before may.1 carried.1 stands.1 sends.1 told.1)

pub each_alone : (client : ℕ) (deeds : List Deed) → Does client deeds → AtEachPoint IsCarried deeds → EachAfter Stands deeds → EachAfter Tells deeds → EachAfter (IsAlone deeds) deeds
each_alone client deeds may carried stands told = alone_from client deeds deeds may carried stands (each_sends_first deeds [] deeds refl stands) told
