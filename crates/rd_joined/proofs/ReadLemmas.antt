-- A client reads_count no more requests than were accepted.
use Rattle.std.proofs.Common.{◌≡◌, ◌∙◌, refl, sym, ap, subst, ℕ, zero, suc, ◌+◌, ◌<◌, ◌≤◌, ◌==◌, Bool, true, false, cond, arith, eq-eqb, eqb-true, inl, inr, List, [], ◌∷◌, ◌++◌, length, length-append, Some, None}
use Rattle.std.specs.Prelude.{filter, if◌then◌else◌}
use Rattle.std.specs.List.{cons_option}
use Rattle.std.proofs.lemmas.Bool.{cases_order}
use Rattle.std.proofs.lemmas.List.Elements.{filter-append}
use Rattle.rd_journals.specs.Reads.{reads_count}
use Rattle.rd_pending.specs.History.{accepted_of, after}
use Rattle.rd_pending.specs.Outcomes.{Accepted}
use Rattle.rd_pending.proofs.Tame.{newest}
use Rattle.rd_journals.specs.RunsCounts as count
use Rattle.rd_deeds.specs.HostDeeds.{calls_of, side_of}
use Rattle.rd_deeds.specs.Joining.{IsCarried, accepted}
use Rattle.rd_deeds.specs.Talk.{Deed, adds, client_read, client_reads, client_writes, completes, host_begins, host_ends, host_reads, host_writes, is_request, removes, stores, submits, takes, tells}
use Rattle.rd_deeds.proofs.Calls.{Does, read_tame, sent_same}
use Rattle.rd_deeds.proofs.Written.{Matches, requests_on, written}

-- ---- sums over the first channels

sum_to : (ℕ → ℕ) → ℕ → ℕ
sum_to f zero = 0
sum_to f (suc n) = f n + sum_to f n

sum_least : (f g : ℕ → ℕ) (n : ℕ) → ((c : ℕ) → f c ≤ g c) → sum_to f n ≤ sum_to g n
unfolding sum_to
sum_least f g zero each = omega arith
sum_least f g (suc n) each = omega (arith, each n, sum_least f g n each)

-- what is more by one at one of them
sum_more : (f g : ℕ → ℕ) (k n : ℕ) → k < n → ((c : ℕ) → f c ≤ g c) → f k + 1 ≤ g k → sum_to f n + 1 ≤ sum_to g n
unfolding sum_to
sum_more f g k zero below each one = absurd (omega (arith, below))
sum_more f g k (suc n) below each one = elim (cases_order k n) [
  | inl here ↦
      let own : f n + 1 ≤ g n = subst (λ (c : ℕ). f c + 1 ≤ g c) here one in
      omega (arith, own, sum_least f g n each)
  | inr (inl under) ↦ omega (arith, each n, sum_more f g k n under each one)
  | inr (inr above) ↦ absurd (omega (arith, below, above))
]

-- what is more at one alone, and by one at most
sum_under : (f g : ℕ → ℕ) (k n : ℕ) → n ≤ k → ((c : ℕ) → (c ≡ k → ⊥) → f c ≤ g c) → sum_to f n ≤ sum_to g n
unfolding sum_to
sum_under f g k zero under each = omega arith
sum_under f g k (suc n) under each = omega (arith, each n (λ (same : n ≡ k). omega (arith, under)), sum_under f g k n (omega (arith, under)) each)

sum_once : (f g : ℕ → ℕ) (k n : ℕ) → ((c : ℕ) → (c ≡ k → ⊥) → f c ≤ g c) → f k ≤ g k + 1 → sum_to f n ≤ sum_to g n + 1
unfolding sum_to
sum_once f g k zero each one = omega arith
sum_once f g k (suc n) each one = elim (cases_order k n) [
  | inl here ↦
      let own : f n ≤ g n + 1 = subst (λ (c : ℕ). f c ≤ g c + 1) here one in
      let few : n ≤ k = omega (arith, here) in
      omega (arith, own, sum_under f g k n few each)
  | inr (inl under) ↦ omega (arith, each n (λ (same : n ≡ k). omega (arith, under)), sum_once f g k n each one)
  | inr (inr above) ↦ omega (arith, each n (λ (same : n ≡ k). omega (arith, above)), sum_once f g k n each one)
]

-- ---- what was read, channel by channel

read_on : List Deed → ℕ → ℕ
read_on deeds c = length (filter is_request (client_read c deeds))

-- a channel above all on which something was read
top : List Deed → ℕ
top [] = 0
top (client_reads c message ∷ before) = suc c + top before
top (deed ∷ before) = top before

length_cons : (b : Bool) (m : List ℕ) (ms : List (List ℕ)) → length (filter is_request ms) ≤ length (filter is_request (cons_option (cond b (Some m) None) ms))
length_cons false m ms = omega arith
length_cons true m ms = by (is_request m)
  where
    by : (a : Bool) → length (filter is_request ms) ≤ length (cond a (m ∷ filter is_request ms) (filter is_request ms))
    by true = omega arith
    by false = omega arith

length_one : (m : List ℕ) (ms : List (List ℕ)) (c : ℕ) → is_request m ≡ true → length (filter is_request ms) + 1 ≤ length (filter is_request (cons_option (cond (c == c) (Some m) None) ms))
length_one m ms c is = rw (eq-eqb c c refl, is) (omega arith)

reads_summed : (deeds : List Deed) (n : ℕ) → top deeds ≤ n → reads_count deeds ≤ sum_to (read_on deeds) n
unfolding sum_to read_on top
reads_summed [] n high = omega arith
reads_summed (client_reads c message ∷ before) n high = by (is_request message) refl (reads_summed before n (omega (arith, high)))
  where
    by : (b : Bool) → is_request message ≡ b → reads_count before ≤ sum_to (read_on before) n → (if b then suc (reads_count before) else reads_count before) ≤ sum_to (read_on (client_reads c message ∷ before)) n
    by false is less = omega (arith, less, sum_least (read_on before) (read_on (client_reads c message ∷ before)) n (λ d. length_cons (c == d) message (client_read d before)))
    by true is less =
        omega (
          arith,
          less,
          sum_more (read_on before) (read_on (client_reads c message ∷ before)) c n (omega (arith, high)) (λ d. length_cons (c == d) message (client_read d before))
              (length_one message (client_read c before) c is),
        )
reads_summed (host_begins c ∷ before) n high = reads_summed before n high
reads_summed (host_ends c ∷ before) n high = reads_summed before n high
reads_summed (host_reads c message ∷ before) n high = reads_summed before n high
reads_summed (host_writes c message ∷ before) n high = reads_summed before n high
reads_summed (submits a named o ∷ before) n high = reads_summed before n high
reads_summed (takes number ∷ before) n high = reads_summed before n high
reads_summed (tells notice ∷ before) n high = reads_summed before n high
reads_summed (client_writes c message ∷ before) n high = reads_summed before n high
reads_summed (completes key message ∷ before) n high = reads_summed before n high
reads_summed (stores device item ∷ before) n high = reads_summed before n high
reads_summed (removes device ∷ before) n high = reads_summed before n high
reads_summed (adds device ∷ before) n high = reads_summed before n high

-- ---- what was accepted, channel by channel

accepted_on : List Accepted → ℕ → ℕ
accepted_on xs c = length (newest c xs)

accepted_summed : (xs : List Accepted) (n : ℕ) → sum_to (accepted_on xs) n ≤ length xs
unfolding sum_to accepted_on
accepted_summed [] n = none n
  where
    none : (k : ℕ) → sum_to (accepted_on []) k ≤ 0
    none zero = omega arith
    none (suc k) = omega (arith, none k)
accepted_summed (a ∷ xs) n = omega (arith, accepted_summed xs n, sum_once (accepted_on (a ∷ xs)) (accepted_on xs) a.channel n others own)
  where
    counted : (b : Bool) (ys : List Accepted) → length (ys ++ cond b (a ∷ []) []) ≡ length ys + length (cond {A = List Accepted} b (a ∷ []) [])
    counted b ys = length-append ys (cond b (a ∷ []) [])

    at_most : (b : Bool) → length (cond {A = List Accepted} b (a ∷ []) []) ≤ 1
    at_most true = omega arith
    at_most false = omega arith

    own : accepted_on (a ∷ xs) a.channel ≤ accepted_on xs a.channel + 1
    own = omega (arith, counted (a.channel == a.channel) (newest a.channel xs), at_most (a.channel == a.channel))

    others : (c : ℕ) → (c ≡ a.channel → ⊥) → accepted_on (a ∷ xs) c ≤ accepted_on xs c
    others c apart = by (a.channel == c) refl
      where
        by : (b : Bool) → (a.channel == c) ≡ b → length (newest c xs ++ cond b (a ∷ []) []) ≤ length (newest c xs)
        by true e = absurd (apart (sym (eqb-true a.channel c e)))
        by false e = omega (arith, length-append (newest c xs) [])

accepted_counted : (client : ℕ) (deeds : List Deed) → length (accepted client deeds) ≡ count.accepted_count deeds
accepted_counted client [] = refl
accepted_counted client (submits a named o ∷ before) =
    let more : length (accepted client (submits a named o ∷ before)) ≡ length (accepted client before) + 1 =
    length-append (accepted client before) (accepted_of (after (calls_of client before)) a named o ∷ []) in
    omega (arith, more, accepted_counted client before)
accepted_counted client (host_writes c message ∷ before) = ap length (sent_same (((side_of client before).core).core).outbox _) ∙ accepted_counted client before
accepted_counted client (host_reads c message ∷ before) = ap length (read_tame client c message before).1 ∙ accepted_counted client before
accepted_counted client (host_begins c ∷ before) = accepted_counted client before
accepted_counted client (host_ends c ∷ before) = accepted_counted client before
accepted_counted client (takes number ∷ before) = accepted_counted client before
accepted_counted client (tells notice ∷ before) = accepted_counted client before
accepted_counted client (client_reads c message ∷ before) = accepted_counted client before
accepted_counted client (client_writes c message ∷ before) = accepted_counted client before
accepted_counted client (completes key message ∷ before) = accepted_counted client before
accepted_counted client (stores device item ∷ before) = accepted_counted client before
accepted_counted client (removes device ∷ before) = accepted_counted client before
accepted_counted client (adds device ∷ before) = accepted_counted client before

-- ---- both

as_many : (xs : List Accepted) (ms : List (List ℕ)) → Matches xs ms → length xs ≡ length ms
as_many [] [] m = refl
as_many [] (y ∷ ys) m = absurd m
as_many (x ∷ xs) [] m = absurd m
as_many (x ∷ xs) (y ∷ ys) m = ap suc (as_many xs ys m.1)

-- on each channel
read_few : (client : ℕ) (deeds : List Deed) → Does client deeds → IsCarried deeds → (c : ℕ) → read_on deeds c ≤ accepted_on (accepted client deeds) c
unfolding read_on accepted_on
read_few client deeds may carried c =
    let w = written client deeds may c in
    let (prefix, same) = carried.to_client c in
    let wrote : length (requests_on c deeds) ≡ length (filter is_request prefix ++ filter is_request (client_read c deeds)) = ap (λ (ms : List (List ℕ)). length (filter is_request ms)) same ∙ ap length (filter-append is_request prefix (client_read c deeds)) in
    omega (
      arith,
      wrote,
      length-append (filter is_request prefix) (filter is_request (client_read c deeds)),
      as_many (newest c (accepted client deeds)) (w.unsent ++ requests_on c deeds) w.matches,
      length-append w.unsent (requests_on c deeds),
    )

pub reads_few : (client : ℕ) (deeds : List Deed) → Does client deeds → IsCarried deeds → reads_count deeds ≤ count.accepted_count deeds
reads_few client deeds may carried =
    let n : ℕ = top deeds in
    omega (
      arith,
      reads_summed deeds n (omega arith),
      sum_least (read_on deeds) (accepted_on (accepted client deeds)) n (read_few client deeds may carried),
      accepted_summed (accepted client deeds) n,
      accepted_counted client deeds,
    )
