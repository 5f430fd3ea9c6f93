-- What is told by whole lists is told at each deed: a completion answers a request that was read, with its pair, and that nothing answered before.
use Rattle.std.proofs.Common.{◌≡◌, ◌⊎◌, ◌∙◌, refl, sym, ap, subst, inl, inr, ℕ, ◌<◌, ◌==◌, ◌&&◌, Bool, true, false, cond, not, List, [], ◌∷◌, length, reverse, Some, None, arith, eq-eqb, eqb-true}
use Rattle.std.specs.Prelude.{filter}
use Rattle.std.specs.List.{cons_option}
use Rattle.std.specs.Option.{option_map_or}
use Rattle.std.proofs.lemmas.Bool.Decides.{nat_tests}
use Rattle.rd_base.specs.declared.journal.Item.{Item}
use Rattle.rd_base.specs.declared.journal.Item.TheVariants.{Came, Ran, Cancelled, Sent, Cut}
use Rattle.rd_base.specs.declared.journal.Key.{Key}
use Rattle.rd_base.specs.declared.status.Status.{Status}
use Rattle.rd_base.specs.Lawful.{IsLawful}
use Rattle.rd_irp.specs.declared.request.Request.{Request}
use Rattle.rd_deeds.specs.Talk.{Deed, EachAfter, Has, adds, answered, client_read, client_reads, client_writes, completes, head_in, host_begins, host_ends, host_reads, host_writes, is_request, journal, message_has_pair, removes, request_at, request_in, stores, submits, takes, tells}
use Rattle.rd_deeds.specs.Told.{Answers, AreAnswered, Replies, came, is_of_device, requests_to, sent, told}
use Rattle.rd_deeds.proofs.Journals.{IsPlain, plain_of}
use Rattle.rd_deeds.proofs.Lists.{each_end, each_weaker}
use Rattle.rd_deeds.proofs.Messages.{head_read}

-- ---- ends of lists

-- ---- requests that were read

pub request_within : (k : ℕ) (r : Request) (ms : List (List ℕ)) → request_at ms k ≡ Some r → k < length (filter is_request ms)
request_within k r [] found = absurd (cc found)
request_within k r (m ∷ older) found = go (is_request m) (length (filter is_request older) == k) refl found (request_within k r older)
  where
    go : (b q : Bool) → (length (filter is_request older) == k) ≡ q → cond (b && q) (request_in m) (request_at older k) ≡ Some r → (request_at older k ≡ Some r → k < length (filter is_request older))
        → k < length (cond b (m ∷ filter is_request older) (filter is_request older))
    go true true e found later = omega (arith, eqb-true (length (filter is_request older)) k e)
    go true false e found later = omega (arith, later found)
    go false q e found later = later found

pub request_later : (b : Bool) (m : List ℕ) (r : Request) (ms : List (List ℕ)) (k : ℕ) → request_at ms k ≡ Some r → request_at (cons_option (cond b (Some m) None) ms) k ≡ Some r
request_later true m r ms k found = go (is_request m) (length (filter is_request ms) == k) refl
  where
    go : (p q : Bool) → (length (filter is_request ms) == k) ≡ q → cond (p && q) (request_in m) (request_at ms k) ≡ Some r
    go true true e = absurd (omega (arith, eqb-true (length (filter is_request ms)) k e, request_within k r ms found))
    go true false e = found
    go false q e = found
request_later false m r ms k found = found

-- ---- distinct numbers

abbrev IsDistinct : List ℕ → Type 0
IsDistinct xs = EachAfter (λ before x. ¬ (Has x before)) xs

has_filter : (p : ℕ → Bool) (x : ℕ) (xs : List ℕ) → p x ≡ true → Has x xs → Has x (filter p xs)
has_filter p x [] passes has = has
has_filter p x (y ∷ ys) passes has = go (p y) refl has (has_filter p x ys passes)
  where
    go : (b : Bool) → p y ≡ b → (x ≡ y) ⊎ Has x ys → (Has x ys → Has x (filter p ys)) → Has x (cond b (y ∷ filter p ys) (filter p ys))
    go true e has later = elim has [ inl same ↦ inl same | inr h ↦ inr (later h) ]
    go false e has later = elim has [ inl same ↦ absurd (cc (ap p same, passes, e)) | inr h ↦ later h ]

both_parts : (p : ℕ → Bool) (xs : List ℕ) → IsDistinct (filter p xs) → IsDistinct (filter (λ x. not (p x)) xs) → IsDistinct xs
both_parts p [] ins outs = tt
both_parts p (x ∷ xs) ins outs = go (p x) refl ins outs (both_parts p xs)
  where
    go : (b : Bool) → p x ≡ b → IsDistinct (cond b (x ∷ filter p xs) (filter p xs)) → IsDistinct (cond (not b) (x ∷ filter (λ x. not (p x)) xs) (filter (λ x. not (p x)) xs))
        → (IsDistinct (filter p xs) → IsDistinct (filter (λ x. not (p x)) xs) → IsDistinct xs) → (¬ (Has x xs)) × IsDistinct xs
    go true e ins outs later = ((λ has. ins.0 (has_filter p x xs e has)), later ins.1 outs)
    go false e ins outs later = ((λ has. outs.0 (has_filter (λ x. not (p x)) x xs (ap not e) has)), later ins outs.1)

from_filter : (p : ℕ → Bool) (x : ℕ) (xs : List ℕ) → Has x (filter p xs) → Has x xs
from_filter p x [] has = has
from_filter p x (y ∷ ys) has = go (p y) has (from_filter p x ys)
  where
    go : (b : Bool) → Has x (cond b (y ∷ filter p ys) (filter p ys)) → (Has x (filter p ys) → Has x ys) → Has x (y ∷ ys)
    go true has later = elim has [ inl same ↦ inl same | inr h ↦ inr (later h) ]
    go false has later = inr (later has)

distinct_filter : (p : ℕ → Bool) (xs : List ℕ) → IsDistinct xs → IsDistinct (filter p xs)
distinct_filter p [] each = tt
distinct_filter p (x ∷ xs) each = go (p x) (distinct_filter p xs each.1)
  where
    go : (b : Bool) → IsDistinct (filter p xs) → IsDistinct (cond b (x ∷ filter p xs) (filter p xs))
    go true later = ((λ has. each.0 (from_filter p x xs has)), later)
    go false later = later

-- ---- what was sent, and what was read

abbrev key_at : ℕ → ℕ → Key
key_at c k = record { channel = c; index = k }

sent_item : (c k : ℕ) (items : List Item) → Has k (sent c items) → Has (Sent (key_at c k)) items
sent_item c k [] has = has
sent_item c k (Sent key ∷ items) has = go (key.channel == c) refl has (sent_item c k items)
  where
    go : (b : Bool) → (key.channel == c) ≡ b → Has k (cons_option (cond b (Some key.index) None) (sent c items)) → (Has k (sent c items) → Has (Sent (key_at c k)) items) → Has (Sent (key_at c k)) (Sent key ∷ items)
    go true e has later = elim has [
      | inl same ↦ let key_is : key_at c k ≡ key = ap (λ (x : ℕ). key_at x k) (sym (eqb-true key.channel c e)) ∙ ap (λ (x : ℕ). key_at key.channel x) same in inl (ap Sent key_is)
      | inr h ↦ inr (later h)
    ]
    go false e has later = inr (later has)
sent_item c k (Came key ∷ items) has = inr (sent_item c k items has)
sent_item c k (Ran key m s p ∷ items) has = inr (sent_item c k items has)
sent_item c k (Cancelled key ∷ items) has = inr (sent_item c k items has)
sent_item c k (Cut cause ∷ items) has = inr (sent_item c k items has)

sent_once : (c : ℕ) (items : List Item) → EachAfter IsPlain items → IsDistinct (sent c items)
sent_once c [] plain = tt
sent_once c (Sent key ∷ items) plain = go (key.channel == c) refl (sent_once c items plain.1)
  where
    go : (b : Bool) → (key.channel == c) ≡ b → IsDistinct (sent c items) → IsDistinct (cons_option (cond b (Some key.index) None) (sent c items))
    go true e later = ((λ has. plain.0.1 (subst (λ (x : ℕ). Has (Sent (key_at x key.index)) items) (sym (eqb-true key.channel c e)) (sent_item c key.index items has))), later)
    go false e later = later
sent_once c (Came key ∷ items) plain = sent_once c items plain.1
sent_once c (Ran key m s p ∷ items) plain = sent_once c items plain.1
sent_once c (Cancelled key ∷ items) plain = sent_once c items plain.1
sent_once c (Cut cause ∷ items) plain = sent_once c items plain.1

requests_below : (d k : ℕ) (ms : List (List ℕ)) → Has k (requests_to d ms) → k < length (filter is_request ms)
requests_below d k [] has = absurd has
requests_below d k (m ∷ older) has = go (is_request m) (option_map_or (λ (r : Request). r.device == d) (request_in m) false) has (requests_below d k older)
  where
    go : (b q : Bool) → Has k (cond (b && q) (length (filter is_request older) ∷ requests_to d older) (requests_to d older)) → (Has k (requests_to d older) → k < length (filter is_request older))
        → k < length (cond b (m ∷ filter is_request older) (filter is_request older))
    go true true has later = elim has [ inl same ↦ omega (arith, same) | inr h ↦ omega (arith, later h) ]
    go true false has later = omega (arith, later has)
    go false q has later = later has

requests_distinct : (d : ℕ) (ms : List (List ℕ)) → IsDistinct (requests_to d ms)
requests_distinct d [] = tt
requests_distinct d (m ∷ older) = go (is_request m && option_map_or (λ (r : Request). r.device == d) (request_in m) false) (requests_distinct d older)
  where
    go : (b : Bool) → IsDistinct (requests_to d older) → IsDistinct (cond b (length (filter is_request older) ∷ requests_to d older) (requests_to d older))
    go true later = ((λ has. omega (arith, requests_below d (length (filter is_request older)) older has)), later)
    go false later = later

told_distinct : (replies : Replies) (deeds : List Deed) → AreAnswered replies deeds → ((device : ℕ) → IsLawful (reverse (journal device deeds))) → (c d : ℕ) → IsDistinct (told c d deeds)
told_distinct replies deeds is_told lawful c d =
    let p : ℕ → Bool = came c (journal d deeds) in
    let direct = is_told.direct_in_order c d in
    both_parts p (told c d deeds)
    (subst IsDistinct (sym (is_told.sent_in_order c d)) (sent_once c (journal d deeds) (plain_of (journal d deeds) (lawful d))))
    (each_end (λ before x. ¬ (Has x before)) direct.0 (filter (λ k. not (p k)) (told c d deeds)) (subst IsDistinct direct.1 (distinct_filter (λ k. not (p k)) (requests_to d (client_read c deeds)) (requests_distinct d (client_read c deeds)))))

-- ---- the same at each deed

-- a completion has the pair of the request that it answers
abbrev pub IsOwn : List Deed → Deed → Type 0
IsOwn before (completes key m) =
    (r : Request) × (request_at (client_read key.channel before) key.index ≡ Some r) × (s : Status) × (head_in m ≡ Some (record { device = r.device; completion = r.completion; status = s }))
IsOwn before _ = Unit {0}

abbrev pub Tells : List Deed → Deed → Type 0
Tells before (completes key m) = IsOwn before (completes key m) × ((d i : ℕ) → ¬ (Has key.index (answered key.channel d i before)))
Tells before _ = Unit {0}

own_of : (replies : Replies) (before : List Deed) (deed : Deed) → Answers replies before deed → IsOwn before deed
own_of replies before (completes key m) (r, reply, found, with_reply, answer) =
    let read = head_read (record { device = r.device; completion = r.completion; status = reply.status }) m with_reply.head in
    (r, found, reply.status, rw (read.1) refl)
own_of replies before (host_begins c) a = tt
own_of replies before (host_ends c) a = tt
own_of replies before (removes d) a = tt
own_of replies before (adds d) a = tt
own_of replies before (submits x named o) a = tt
own_of replies before (takes n) a = tt
own_of replies before (tells n) a = tt
own_of replies before (host_writes c m) a = tt
own_of replies before (host_reads c m) a = tt
own_of replies before (client_reads c m) a = tt
own_of replies before (client_writes c m) a = tt
own_of replies before (stores d item) a = tt

has_option : (b : Bool) (k x : ℕ) (xs : List ℕ) → Has k xs → Has k (cons_option (cond b (Some x) None) xs)
has_option true k x xs has = inr has
has_option false k x xs has = has

pub option_cases : (b : Bool) (k x : ℕ) (xs : List ℕ) → Has k (cons_option (cond b (Some x) None) xs) → ((b ≡ true) × (k ≡ x)) ⊎ Has k xs
option_cases true k x xs has = elim has [ inl same ↦ inl (refl, same) | inr h ↦ inr h ]
option_cases false k x xs has = inr has

-- what answers a pair tells its device, and names a request of that device that was read
answered_told : (deeds : List Deed) (c d i k : ℕ) → EachAfter IsOwn deeds → Has k (answered c d i deeds) → Has k (told c d deeds) × ((r : Request) × (request_at (client_read c deeds) k ≡ Some r) × (r.device ≡ d))
answered_told [] c d i k own has = absurd has
answered_told (completes key m ∷ before) c d i k own has =
    elim (option_cases (key.channel == c && message_has_pair d i m) k key.index (answered c d i before) has) [
      | inl (test, same) ↦ here (key.channel == c) refl (message_has_pair d i m) refl test same
      | inr h ↦ let old = answered_told before c d i k own.1 h in (has_option (key.channel == c && is_of_device d m) k key.index (told c d before) old.0, old.1)
    ]
  where
    here : (p : Bool) → (key.channel == c) ≡ p → (q : Bool) → message_has_pair d i m ≡ q → (p && q) ≡ true → k ≡ key.index
        → Has k (told c d (completes key m ∷ before)) × ((r : Request) × (request_at (client_read c before) k ≡ Some r) × (r.device ≡ d))
    here true e true e2 test same =
        let r = own.0.0 in
        let pair : (r.device == d && r.completion == i) ≡ true = sym (rw (own.0.3) refl) ∙ e2 in
        let d_is : r.device ≡ d = grind (arith, nat_tests) in
        let c_is : key.channel ≡ c = eqb-true key.channel c e in
        let of_device : is_of_device d m ≡ true = rw (own.0.3) (eq-eqb r.device d d_is) in
        (rw (e, of_device) (inl same), (r, subst (λ (x : ℕ). request_at (client_read x before) k ≡ Some r) c_is (subst (λ (x : ℕ). request_at (client_read key.channel before) x ≡ Some r) (sym same) own.0.1), d_is))
    here true e false e2 test same = absurd (cc test)
    here false e q e2 test same = absurd (cc test)
answered_told (client_reads channel m ∷ before) c d i k own has =
    let old = answered_told before c d i k own.1 has in (old.0, (old.1.0, request_later (channel == c) m old.1.0 (client_read c before) k old.1.1, old.1.2))
answered_told (host_begins channel ∷ before) c d i k own has = answered_told before c d i k own.1 has
answered_told (host_ends channel ∷ before) c d i k own has = answered_told before c d i k own.1 has
answered_told (removes device ∷ before) c d i k own has = answered_told before c d i k own.1 has
answered_told (adds device ∷ before) c d i k own has = answered_told before c d i k own.1 has
answered_told (submits x named o ∷ before) c d i k own has = answered_told before c d i k own.1 has
answered_told (takes n ∷ before) c d i k own has = answered_told before c d i k own.1 has
answered_told (tells n ∷ before) c d i k own has = answered_told before c d i k own.1 has
answered_told (host_writes channel m ∷ before) c d i k own has = answered_told before c d i k own.1 has
answered_told (host_reads channel m ∷ before) c d i k own has = answered_told before c d i k own.1 has
answered_told (client_writes channel m ∷ before) c d i k own has = answered_told before c d i k own.1 has
answered_told (stores device item ∷ before) c d i k own has = answered_told before c d i k own.1 has

distinct_rest : (b : Bool) (x : ℕ) (xs : List ℕ) → IsDistinct (cons_option (cond b (Some x) None) xs) → IsDistinct xs
distinct_rest true x xs each = each.1
distinct_rest false x xs each = each

all_tell : (deeds : List Deed) → EachAfter IsOwn deeds → ((c d : ℕ) → IsDistinct (told c d deeds)) → EachAfter Tells deeds
all_tell [] own distinct = tt
all_tell (completes key m ∷ before) own distinct = (
  (
    own.0,
    λ d i has.
        let old = answered_told before key.channel d i key.index own.1 has in
        let same : old.1.0 ≡ own.0.0 = cc (old.1.1, own.0.1) in
        let d_is : (own.0.0).device ≡ d = sym (ap (λ (r : Request). r.device) same) ∙ old.1.2 in
        let of_device : is_of_device d m ≡ true = rw (own.0.3) (eq-eqb (own.0.0).device d d_is) in
        let test : (key.channel == key.channel && is_of_device d m) ≡ true = rw (eq-eqb key.channel key.channel refl, of_device) refl in
        let once : IsDistinct (key.index ∷ told key.channel d before) = subst (λ (b : Bool). IsDistinct (cons_option (cond b (Some key.index) None) (told key.channel d before))) test (distinct key.channel d) in
        once.0 old.0,
  ),
  all_tell before own.1 (λ c d. distinct_rest (key.channel == c && is_of_device d m) key.index (told c d before) (distinct c d)),
)
all_tell (host_begins channel ∷ before) own distinct = (tt, all_tell before own.1 distinct)
all_tell (host_ends channel ∷ before) own distinct = (tt, all_tell before own.1 distinct)
all_tell (removes device ∷ before) own distinct = (tt, all_tell before own.1 distinct)
all_tell (adds device ∷ before) own distinct = (tt, all_tell before own.1 distinct)
all_tell (submits x named o ∷ before) own distinct = (tt, all_tell before own.1 distinct)
all_tell (takes n ∷ before) own distinct = (tt, all_tell before own.1 distinct)
all_tell (tells n ∷ before) own distinct = (tt, all_tell before own.1 distinct)
all_tell (host_writes channel m ∷ before) own distinct = (tt, all_tell before own.1 distinct)
all_tell (host_reads channel m ∷ before) own distinct = (tt, all_tell before own.1 distinct)
all_tell (client_reads channel m ∷ before) own distinct = (tt, all_tell before own.1 distinct)
all_tell (client_writes channel m ∷ before) own distinct = (tt, all_tell before own.1 distinct)
all_tell (stores device item ∷ before) own distinct = (tt, all_tell before own.1 distinct)

pub each_tells : (replies : Replies) (deeds : List Deed) → AreAnswered replies deeds → ((device : ℕ) → IsLawful (reverse (journal device deeds))) → EachAfter Tells deeds
each_tells replies deeds is_told lawful =
    all_tell deeds (each_weaker (Answers replies) IsOwn (own_of replies) deeds is_told.answers) (told_distinct replies deeds is_told lawful)
