-- Of each pair the m-th completion answers the m-th request.
use Rattle.std.proofs.Common.{◌≡◌, ◌∙◌, refl, sym, ap, subst, inl, inr, ℕ, ◌+◌, ◌≤◌, ◌==◌, ◌&&◌, Bool, true, false, cond, List, [], ◌∷◌, ◌++◌, length, Some, None, Option, arith, eq-eqb, eqb-true}
use Rattle.std.specs.Prelude.{filter, Result, Ok, Err}
use Rattle.std.specs.List.{cons_option}
use Rattle.std.proofs.lemmas.Bool.Decides.{nat_tests}
use Rattle.rd_base.specs.declared.journal.Key.{Key}
use Rattle.rd_base.specs.declared.status.Status.{Status}
use Rattle.rd_devices.specs.declared.list.Announce.{Announce}
use Rattle.rd_hello.specs.declared.end_fault.EndFault.{EndFault}
use Rattle.rd_host.specs.Core.{HostCoreState, host_hear}
use Rattle.rd_host.specs.Served.{is_served_type}
use Rattle.rd_host.specs.declared.act.Act.{Act}
use Rattle.rd_host.specs.declared.act.Act.TheVariants as act
use Rattle.rd_irp.specs.declared.completion.Head.{Head}
use Rattle.rd_irp.specs.declared.request.Request.{Request}
use Rattle.rd_pending.specs.declared.calls.CompleteNo.{CompleteNo}
use Rattle.rd_pending.specs.declared.calls.Completed.{Completed}
use Rattle.rd_pending.specs.declared.calls.LiveNo.{LiveNo}
use Rattle.rd_pending.specs.History as call
use Rattle.rd_pending.specs.History.{heard_on, lives_before}
use Rattle.rd_pending.specs.Outcomes as outcomes
use Rattle.rd_pending.specs.Outcomes.{Course, Tidings, course_from, going_on}
use Rattle.rd_pending.specs.Table as table
use Rattle.rd_pending.specs.Table.{TableState, live_refusal}
use Rattle.rd_pending.proofs.CourseLemmas.{heard_one, heard_pairs, through}
use Rattle.rd_pending.proofs.Histories.{past}
use Rattle.rd_pending.proofs.Neutral.{heard_all, heard_all_more}
use Rattle.rd_pending.proofs.Sound.{course}
use Rattle.rd_deeds.specs.Host.{HostSide}
use Rattle.rd_deeds.specs.HostDeeds.{admitted_by, admitting, admitting_one, calls_of, lives_by, removal_calls, side_of}
use Rattle.rd_deeds.specs.Joining.{AnswersAreAsked, IsCarried, Stands}
use Rattle.rd_deeds.specs.Talk.{AtEachPoint, Deed, EachAfter, EndsWith, Has, adds, answered, asked, client_read, client_reads, client_writes, client_wrote, completes, head_in, host_begins, host_ends, host_read, host_reads, host_writes, indices_of, is_request, message_asks_pair, message_has_pair, removes, request_at, request_in, stores, submits, takes, tells}
use Rattle.rd_deeds.proofs.Calls.{Does, calls_hold, heard_by_deed, heard_step, taken}
use Rattle.rd_deeds.proofs.Counting.{asked_pairs, length-answered}
use Rattle.rd_deeds.proofs.Hearings.{Heard, heard}
use Rattle.rd_deeds.proofs.Lists.{is_first, fewer_in_end}
use Rattle.rd_deeds.proofs.Telling.{Tells}

-- ---- completions that were taken

abbrev pub pairs_in : ℕ → ℕ → List Tidings → ℕ
pairs_in d i [] = 0
pairs_in d i (outcomes.begins e ∷ xs) = pairs_in d i xs
pairs_in d i (outcomes.removes e ∷ xs) = pairs_in d i xs
pairs_in d i (outcomes.completes head bytes ∷ xs) = cond (outcomes.head_has_pair d i head) 1 0 + pairs_in d i xs

pub pairs_more : (d i : ℕ) (xs ys : List Tidings) → pairs_in d i (xs ++ ys) ≡ pairs_in d i xs + pairs_in d i ys
pairs_more d i [] ys = omega arith
pairs_more d i (outcomes.begins e ∷ xs) ys = pairs_more d i xs ys
pairs_more d i (outcomes.removes e ∷ xs) ys = pairs_more d i xs ys
pairs_more d i (outcomes.completes head bytes ∷ xs) ys = omega (arith, pairs_more d i xs ys)

pub through_pairs : (d i : ℕ) (k : Course) (xs : List Tidings) → heard_pairs d i (through k xs) ≡ heard_pairs d i k + pairs_in d i xs
through_pairs d i k [] = omega arith
through_pairs d i k (outcomes.begins e ∷ xs) = through_pairs d i (going_on k (outcomes.begins e)) xs
through_pairs d i k (outcomes.removes e ∷ xs) = through_pairs d i (going_on k (outcomes.removes e)) xs
through_pairs d i k (outcomes.completes head bytes ∷ xs) =
    omega (arith, through_pairs d i (going_on k (outcomes.completes head bytes)) xs, heard_one d i k head bytes)

pub heard_is : (client : ℕ) (deeds : List Deed) (c d i : ℕ) → heard_pairs d i (course c (calls_of client deeds)) ≡ pairs_in d i (heard_on c (calls_of client deeds))
heard_is client deeds c d i =
    through_pairs d i (course_from (lives_before c (calls_of client deeds))) (heard_on c (calls_of client deeds)) ∙ zero_and (pairs_in d i (heard_on c (calls_of client deeds)))
  where
    zero_and : (n : ℕ) → 0 + n ≡ n
    zero_and n = omega arith

none_admitting : (d i : ℕ) (t : TableState) (devices : List Announce) → pairs_in d i (heard_all (admitting t devices)) ≡ 0
none_admitting d i t [] = refl
none_admitting d i t (a ∷ devices) =
    ap (pairs_in d i) (heard_all_more (admitting (admitted_by t a) devices) (admitting_one t a))
    ∙ pairs_more d i (heard_all (admitting_one t a)) (heard_all (admitting (admitted_by t a) devices))
    ∙ both (pairs_in d i (heard_all (admitting_one t a))) (pairs_in d i (heard_all (admitting (admitted_by t a) devices))) (one (is_served_type a.kind) (live_refusal t a.id)) (none_admitting d i (admitted_by t a) devices)
  where
    one : (b : Bool) (o : Option LiveNo) → pairs_in d i (heard_all (cond b (lives_by o a.id) [])) ≡ 0
    one false o = refl
    one true None = refl
    one true (Some cause) = refl

    both : (x y : ℕ) → x ≡ 0 → y ≡ 0 → x + y ≡ 0
    both x y e e2 = omega (arith, e, e2)

none_removed : (d i : ℕ) (ids : List ℕ) → pairs_in d i (heard_all (removal_calls ids)) ≡ 0
none_removed d i [] = refl
none_removed d i (id ∷ ids) = ap (pairs_in d i) (heard_all_more (removal_calls ids) (call.removes id ∷ [])) ∙ none_removed d i ids

pub taken_pairs : (d i : ℕ) (s : HostSide) (m : List ℕ) → pairs_in d i (taken s m) ≤ cond (message_has_pair d i m) 1 0
taken_pairs d i s m = go (host_hear s.core m) refl (heard s.core m)
  where
    low : (b : Bool) → 0 ≤ cond b 1 0
    low b = omega arith

    completion : (head : Head) (bytes : List ℕ) → (host_hear s.core m).1 ≡ Ok (act.Complete head bytes) → message_has_pair d i m ≡ outcomes.head_has_pair d i head
        → (r : Result Completed CompleteNo) → (table.complete s.table head bytes).1 ≡ r → pairs_in d i (taken s m) ≤ cond (message_has_pair d i m) 1 0
    completion head bytes e same (Ok gave) e2 = rw (e, e2, same) (plus_none (cond (outcomes.head_has_pair d i head) 1 0))
      where
        plus_none : (n : ℕ) → n + 0 ≤ n
        plus_none n = omega arith
    completion head bytes e same (Err cause) e2 = rw (e, e2) (low (message_has_pair d i m))

    go : (r : HostCoreState × Result Act EndFault) → host_hear s.core m ≡ r → Heard s.core m (host_hear s.core m) → pairs_in d i (taken s m) ≤ cond (message_has_pair d i m) 1 0
    go (c, Err fault) e is = rw e (low (message_has_pair d i m))
    go (c, Ok act.Nothing) e is = rw e (low (message_has_pair d i m))
    go (c, Ok (act.Announced devices)) e is = rw (e, none_admitting d i s.table devices) (low (message_has_pair d i m))
    go (c, Ok (act.Removed ids)) e is = rw (e, none_removed d i ids) (low (message_has_pair d i m))
    go (c, Ok (act.Complete head bytes)) e is =
        let facts = subst (Heard s.core m) e is in
        completion head bytes (ap (λ (x : HostCoreState × Result Act EndFault). x.1) e) (rw facts.5 refl) (table.complete s.table head bytes).1 refl

-- no more are taken than are read
pub heard_read : (client c d i : ℕ) (deeds : List Deed) → Does client deeds → pairs_in d i (heard_on c (calls_of client deeds)) ≤ length (filter (message_has_pair d i) (host_read c deeds))
heard_read client c d i [] may = omega arith
heard_read client c d i (deed ∷ before) may = step deed may (heard_read client c d i before may.1)
  where
    heard : List Tidings
    heard = heard_on c (calls_of client before)

    all : (deed : Deed) → Does client (deed ∷ before) → pairs_in d i (heard_on c (calls_of client (deed ∷ before))) ≡ pairs_in d i heard + pairs_in d i (heard_by_deed client c before deed)
    all deed may = ap (pairs_in d i) (heard_step client c before deed may) ∙ pairs_more d i heard (heard_by_deed client c before deed)

    quiet : (deed : Deed) → Does client (deed ∷ before) → heard_by_deed client c before deed ≡ [] → pairs_in d i heard ≤ length (filter (message_has_pair d i) (host_read c before))
        → pairs_in d i (heard_on c (calls_of client (deed ∷ before))) ≤ length (filter (message_has_pair d i) (host_read c before))
    quiet deed may none old = omega (arith, old, all deed may, ap (pairs_in d i) none)

    read : (channel : ℕ) (m : List ℕ) → Does client (host_reads channel m ∷ before) → pairs_in d i heard ≤ length (filter (message_has_pair d i) (host_read c before))
        → (b : Bool) → (channel == c) ≡ b → pairs_in d i (heard_on c (calls_of client (host_reads channel m ∷ before))) ≤ length (filter (message_has_pair d i) (cons_option (cond b (Some m) None) (host_read c before)))
    read channel m may old false e =
        let none : heard_by_deed client c before (host_reads channel m) ≡ [] = rw e refl in
        omega (arith, old, all (host_reads channel m) may, ap (pairs_in d i) none)
    read channel m may old true e = by (message_has_pair d i m) refl
      where
        own : heard_by_deed client c before (host_reads channel m) ≡ taken (side_of client before) m
        own = rw e refl

        by : (b : Bool) → message_has_pair d i m ≡ b
            → pairs_in d i (heard_on c (calls_of client (host_reads channel m ∷ before))) ≤ length (cond (message_has_pair d i m) (m ∷ filter (message_has_pair d i) (host_read c before)) (filter (message_has_pair d i) (host_read c before)))
        by true e2 =
            let one : pairs_in d i (taken (side_of client before) m) ≤ 1 = subst (λ (b : Bool). pairs_in d i (taken (side_of client before) m) ≤ cond b 1 0) e2 (taken_pairs d i (side_of client before) m) in
            rw e2 (omega (arith, old, one, all (host_reads channel m) may, ap (pairs_in d i) own))
        by false e2 =
            let none : pairs_in d i (taken (side_of client before) m) ≤ 0 = subst (λ (b : Bool). pairs_in d i (taken (side_of client before) m) ≤ cond b 1 0) e2 (taken_pairs d i (side_of client before) m) in
            rw e2 (omega (arith, old, none, all (host_reads channel m) may, ap (pairs_in d i) own))

    step : (deed : Deed) → Does client (deed ∷ before) → pairs_in d i heard ≤ length (filter (message_has_pair d i) (host_read c before))
        → pairs_in d i (heard_on c (calls_of client (deed ∷ before))) ≤ length (filter (message_has_pair d i) (host_read c (deed ∷ before)))
    step (host_reads channel m) may old = read channel m may old (channel == c) refl
    step (host_begins channel) may old = quiet (host_begins channel) may refl old
    step (host_ends channel) may old = quiet (host_ends channel) may refl old
    step (removes device) may old = quiet (removes device) may refl old
    step (adds device) may old = quiet (adds device) may refl old
    step (submits x named o) may old = quiet (submits x named o) may refl old
    step (takes number) may old = quiet (takes number) may refl old
    step (tells n) may old = quiet (tells n) may refl old
    step (host_writes channel m) may old = quiet (host_writes channel m) may refl old
    step (client_reads channel m) may old = quiet (client_reads channel m) may refl old
    step (client_writes channel m) may old = quiet (client_writes channel m) may refl old
    step (completes key m) may old = quiet (completes key m) may refl old
    step (stores device item) may old = quiet (stores device item) may refl old

pub heard_answered : (client : ℕ) (deeds : List Deed) → Does client deeds → IsCarried deeds → EachAfter Stands deeds → (c d i : ℕ) → pairs_in d i (heard_on c (calls_of client deeds)) ≤ length (answered c d i deeds)
heard_answered client deeds may carried stands c d i =
    omega (arith, heard_read client c d i deeds may, fewer_in_end (message_has_pair d i) (client_wrote c deeds) (host_read c deeds) (carried.to_host c), length-answered deeds stands c d i)

-- ---- the count of what is answered

pub at_most_one : (client : ℕ) (deeds : List Deed) → Does client deeds → IsCarried deeds → EachAfter Stands deeds → (c d i : ℕ) → length (asked c d i deeds) ≤ length (answered c d i deeds) + 1
at_most_one client deeds may carried stands c d i =
    omega (arith, asked_pairs client deeds may carried c d i, past (calls_of client deeds) (calls_hold client deeds may) c d i, heard_is client deeds c d i, heard_answered client deeds may carried stands c d i)

-- a request that was read is among those with its pair
pub has_index : (r : Request) (d i k : ℕ) (ms : List (List ℕ)) → r.device ≡ d → r.completion ≡ i → request_at ms k ≡ Some r → Has k (indices_of d i ms)
has_index r d i k [] e e2 found = absurd (cc found)
has_index r d i k (m ∷ older) e e2 found = go (is_request m) (length (filter is_request older) == k) refl found (has_index r d i k older e e2)
  where
    more : (b : Bool) → Has k (indices_of d i older) → Has k (cond b (length (filter is_request older) ∷ indices_of d i older) (indices_of d i older))
    more true has = inr has
    more false has = has

    go : (b q : Bool) → (length (filter is_request older) == k) ≡ q → cond (b && q) (request_in m) (request_at older k) ≡ Some r → (request_at older k ≡ Some r → Has k (indices_of d i older))
        → Has k (cond (b && message_asks_pair d i m) (length (filter is_request older) ∷ indices_of d i older) (indices_of d i older))
    go true true e3 found later =
        let test : message_asks_pair d i m ≡ true = rw (found, eq-eqb r.device d e, eq-eqb r.completion i e2) refl in
        rw test (inl (sym (eqb-true (length (filter is_request older)) k e3)))
    go true false e3 found later = more (message_asks_pair d i m) (later found)
    go false q e3 found later = later found

-- what completes a pair answers a request with it
own_pair : (d i : ℕ) (m : List ℕ) (r : Request) (s : Status) → head_in m ≡ Some (record { device = r.device; completion = r.completion; status = s }) → message_has_pair d i m ≡ true → (r.device ≡ d) × (r.completion ≡ i)
own_pair d i m r s e has =
    let test : (r.device == d && r.completion == i) ≡ true = sym (rw e refl) ∙ has in
    (grind (arith, nat_tests), grind (arith, nat_tests))

-- a completion answers the newest request with its pair, and the only one that isn't answered
pub answers_newest : (client : ℕ) (before : List Deed) (key : Key) (m : List ℕ) (d i : ℕ) → Does client before → IsCarried before → EachAfter Stands before → AnswersAreAsked before
    → Tells before (completes key m) → message_has_pair d i m ≡ true → asked key.channel d i before ≡ key.index ∷ answered key.channel d i before
answers_newest client before key m d i may carried stands counted told has =
    let r = told.0.0 in
    let pair = own_pair d i m r told.0.2 told.0.3 has in
    is_first (asked key.channel d i before) (answered key.channel d i before) key.index (counted key.channel d i)
    (at_most_one client before may carried stands key.channel d i) (has_index r d i key.index (client_read key.channel before) pair.0 pair.1 told.0.1) (told.1 d i)

ends_more : {A : Type 0} (b : Bool) (x : A) (xs ys : List A) → EndsWith xs ys → EndsWith (cond b (x ∷ xs) xs) ys
ends_more {A} true x xs ys ends = (x ∷ ends.0, ap (λ (zs : List A). x ∷ zs) ends.1)
ends_more false x xs ys ends = ends

pub carried_now : (deeds : List Deed) → AtEachPoint IsCarried deeds → IsCarried deeds
carried_now [] carried = carried
carried_now (deed ∷ before) carried = carried.0

pub counted : (client : ℕ) (deeds : List Deed) → Does client deeds → AtEachPoint IsCarried deeds → EachAfter Stands deeds → EachAfter Tells deeds → AnswersAreAsked deeds
counted client [] may carried stands told c d i = ([], refl)
counted client (completes key m ∷ before) may carried stands told c d i = go (key.channel == c) refl (message_has_pair d i m) refl (counted client before may.1 carried.1 stands.1 told.1)
  where
    go : (p : Bool) → (key.channel == c) ≡ p → (q : Bool) → message_has_pair d i m ≡ q → AnswersAreAsked before → EndsWith (asked c d i before) (cons_option (cond (p && q) (Some key.index) None) (answered c d i before))
    go true e true e2 old =
        let all = answers_newest client before key m d i may.1 (carried_now before carried.1) stands.1 old told.0 e2 in
        subst (λ (x : ℕ). EndsWith (asked x d i before) (key.index ∷ answered x d i before)) (eqb-true key.channel c e) ([], all)
    go true e false e2 old = old c d i
    go false e q e2 old = old c d i
counted client (client_reads channel m ∷ before) may carried stands told c d i = go (channel == c) (counted client before may.1 carried.1 stands.1 told.1 c d i)
  where
    go : (b : Bool) → EndsWith (asked c d i before) (answered c d i before) → EndsWith (indices_of d i (cons_option (cond b (Some m) None) (client_read c before))) (answered c d i before)
    go true old = ends_more (is_request m && message_asks_pair d i m) (length (filter is_request (client_read c before))) _ _ old
    go false old = old
counted client (host_begins channel ∷ before) may carried stands told c d i = counted client before may.1 carried.1 stands.1 told.1 c d i
counted client (host_ends channel ∷ before) may carried stands told c d i = counted client before may.1 carried.1 stands.1 told.1 c d i
counted client (removes device ∷ before) may carried stands told c d i = counted client before may.1 carried.1 stands.1 told.1 c d i
counted client (adds device ∷ before) may carried stands told c d i = counted client before may.1 carried.1 stands.1 told.1 c d i
counted client (submits x named o ∷ before) may carried stands told c d i = counted client before may.1 carried.1 stands.1 told.1 c d i
counted client (takes n ∷ before) may carried stands told c d i = counted client before may.1 carried.1 stands.1 told.1 c d i
counted client (tells n ∷ before) may carried stands told c d i = counted client before may.1 carried.1 stands.1 told.1 c d i
counted client (host_writes channel m ∷ before) may carried stands told c d i = counted client before may.1 carried.1 stands.1 told.1 c d i
counted client (host_reads channel m ∷ before) may carried stands told c d i = counted client before may.1 carried.1 stands.1 told.1 c d i
counted client (client_writes channel m ∷ before) may carried stands told c d i = counted client before may.1 carried.1 stands.1 told.1 c d i
counted client (stores device item ∷ before) may carried stands told c d i = counted client before may.1 carried.1 stands.1 told.1 c d i
