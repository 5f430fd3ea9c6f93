-- The completion that ends a request, and where the host heard it.
use Rattle.std.proofs.Common.{◌≡◌, ◌∙◌, refl, sym, ap, subst, inl, inr, ℕ, ◌==◌, ◌&&◌, Bool, true, false, cond, List, [], ◌∷◌, ◌++◌, Some, None, Option, append-nil, eqb-true}
use Rattle.std.specs.Prelude.{Result, Ok, Err}
use Rattle.std.specs.List.{AllByRecursion}
use Rattle.std.specs.Option.{option_or}
use Rattle.rd_base.specs.declared.journal.Cause.TheVariants.{Removed, Dropped}
use Rattle.rd_devices.specs.declared.list.Announce.{Announce}
use Rattle.rd_hello.specs.declared.end_fault.EndFault.{EndFault}
use Rattle.rd_host.specs.Served.{is_served_type}
use Rattle.rd_host.specs.declared.act.Act.{Act}
use Rattle.rd_host.specs.declared.act.Act.TheVariants as act
use Rattle.rd_host.specs.Core.{host_hear}
use Rattle.rd_irp.specs.declared.completion.Head.{Head}
use Rattle.rd_irp.specs.declared.completion.Reply.{Reply}
use Rattle.rd_pending.specs.declared.calls.CompleteNo.{CompleteNo}
use Rattle.rd_pending.specs.declared.calls.Completed.{Completed}
use Rattle.rd_pending.specs.declared.calls.LiveNo.{LiveNo}
use Rattle.rd_pending.specs.declared.calls.Outcome.{Outcome}
use Rattle.rd_pending.specs.declared.calls.Outcome.TheVariants.{Done, Lost}
use Rattle.rd_pending.specs.History as call
use Rattle.rd_pending.specs.History.{Call, heard_by, heard_on}
use Rattle.rd_pending.specs.Outcomes as outcomes
use Rattle.rd_pending.specs.Outcomes.{Accepted, Course, Tidings, ended_by, ended_in, going_on, is_in_life, reply_in}
use Rattle.rd_pending.specs.Table as table
use Rattle.rd_pending.specs.Table.{TableState, live_refusal}
use Rattle.rd_pending.proofs.CourseLemmas.{heard_pairs, through}
use Rattle.rd_pending.proofs.Neutral.{heard_all}
use Rattle.rd_deeds.specs.Host.{HostSide}
use Rattle.rd_deeds.specs.HostDeeds.{admitted_by, admitting, admitting_one, calls_in, calls_of, completing, lives_by, removal_calls, side_of}
use Rattle.rd_deeds.specs.Talk.{Deed, adds, client_reads, client_writes, completes, host_begins, host_ends, host_reads, host_writes, removes, stores, submits, takes, tells}
use Rattle.rd_deeds.proofs.Calls.{Does, heard_by_deed, heard_step, taken}
use Rattle.rd_deeds.proofs.Lists.{all_more, split_cases}

-- ---- the completion that ends a request

pub record Ends (a : Accepted) (m : ℕ) (k : Course) (xs : List Tidings) (reply : Reply) : Type 0 where
  pub prefix : List Tidings
  pub head : Head
  pub bytes : List ℕ
  pub back : List Tidings
  pub parts : xs ≡ prefix ++ outcomes.completes head bytes ∷ back
  pub none : ended_in a m k prefix ≡ None
  pub device : head.device ≡ a.device
  pub id : head.completion ≡ a.id
  pub count : heard_pairs a.device a.id (through k prefix) ≡ m
  pub reads : reply_in a head bytes ≡ Some (Done reply)

pub ends : (a : Accepted) (m : ℕ) (k : Course) (xs : List Tidings) (reply : Reply) → ended_in a m k xs ≡ Some (Done reply) → Ends a m k xs reply
ends a m k [] reply e = absurd (cc e)
ends a m k (x ∷ xs) reply e = go (ended_by a m k x) refl (λ e. ends a m (going_on k x) xs reply e)
  where
    by_completion : (head : Head) (bytes : List ℕ) → ended_by a m k (outcomes.completes head bytes) ≡ Some (Done reply) → Ends a m k (outcomes.completes head bytes ∷ xs) reply
    by_completion head bytes e = by (head.device == a.device) refl (head.completion == a.id) refl (heard_pairs a.device a.id k == m) refl e
      where
        by : (p : Bool) → (head.device == a.device) ≡ p → (q : Bool) → (head.completion == a.id) ≡ q → (r : Bool) → (heard_pairs a.device a.id k == m) ≡ r
            → cond ((p && q) && r) (reply_in a head bytes) None ≡ Some (Done reply) → Ends a m k (outcomes.completes head bytes ∷ xs) reply
        by true e true e2 true e3 is = record {
          prefix = [];
          head = head;
          bytes = bytes;
          back = xs;
          parts = refl;
          none = refl;
          device = eqb-true head.device a.device e;
          id = eqb-true head.completion a.id e2;
          count = eqb-true (heard_pairs a.device a.id k) m e3;
          reads = is;
        }
        by true e true e2 false e3 is = absurd (cc is)
        by true e false e2 r e3 is = absurd (cc is)
        by false e q e2 r e3 is = absurd (cc is)

    by_removal : (d : ℕ) → ended_by a m k (outcomes.removes d) ≡ Some (Done reply) → Ends a m k (outcomes.removes d ∷ xs) reply
    by_removal d e = by (d == a.device && is_in_life k a) e
      where
        by : (b : Bool) → cond b (Some (Lost Removed)) None ≡ Some (Done reply) → Ends a m k (outcomes.removes d ∷ xs) reply
        by true is = absurd (cc is)
        by false is = absurd (cc is)

    here : (y : Tidings) → ended_by a m k y ≡ Some (Done reply) → Ends a m k (y ∷ xs) reply
    here (outcomes.begins d) e = absurd (cc e)
    here (outcomes.removes d) e = by_removal d e
    here (outcomes.completes head bytes) e = by_completion head bytes e

    go : (o : Option Outcome) → ended_by a m k x ≡ o → (ended_in a m (going_on k x) xs ≡ Some (Done reply) → Ends a m (going_on k x) xs reply) → Ends a m k (x ∷ xs) reply
    go None is later =
        let old = later (subst (λ (o : Option Outcome). option_or o (ended_in a m (going_on k x) xs) ≡ Some (Done reply)) is e) in
        record {
          prefix = x ∷ old.prefix;
          head = old.head;
          bytes = old.bytes;
          back = old.back;
          parts = ap (λ (ys : List Tidings). x ∷ ys) old.parts;
          none = ap (λ (p : Option Outcome). option_or p (ended_in a m (going_on k x) old.prefix)) is ∙ old.none;
          device = old.device;
          id = old.id;
          count = old.count;
          reads = old.reads;
        }
    go (Some o) is later = here x (is ∙ subst (λ (p : Option Outcome). option_or p (ended_in a m (going_on k x) xs) ≡ Some (Done reply)) is e)

-- a loss isn't a reply
pub done_ended : (o : Option Outcome) (b : Bool) (reply : Reply) → option_or o (cond b (Some (Lost Dropped)) None) ≡ Some (Done reply) → o ≡ Some (Done reply)
done_ended (Some x) b reply e = e
done_ended None true reply e = absurd (cc e)
done_ended None false reply e = absurd (cc e)

-- ---- the deed by which a completion was heard

abbrev IsNoEnd : Tidings → Type 0
IsNoEnd (outcomes.completes head bytes) = ⊥
IsNoEnd _ = Unit {0}

abbrev IsNoAnswer : Call → Type 0
IsNoAnswer (call.completes head bytes) = ⊥
IsNoAnswer _ = Unit {0}

none_ends : (zs : List Tidings) (head : Head) (bytes : List ℕ) (back : List Tidings) → AllByRecursion IsNoEnd (zs ++ outcomes.completes head bytes ∷ back) → ⊥
none_ends [] head bytes back all = all.0
none_ends (z ∷ zs) head bytes back all = none_ends zs head bytes back all.1

heard_no_end : (xs : List Call) → AllByRecursion IsNoAnswer xs → AllByRecursion IsNoEnd (heard_all xs)
heard_no_end [] all = tt
heard_no_end (x ∷ xs) all = all_more IsNoEnd (heard_all xs) (heard_by x) (heard_no_end xs all.1) (one x all.0)
  where
    one : (x : Call) → IsNoAnswer x → AllByRecursion IsNoEnd (heard_by x)
    one (call.begins c) is = tt
    one (call.lives d) is = (tt, tt)
    one (call.removes d) is = (tt, tt)
    one (call.takes n) is = tt
    one (call.submits x named o) is = tt
    one (call.completes head bytes) is = absurd is
    one call.sends is = tt
    one call.drops is = tt

admitting_no_answer : (t : TableState) (devices : List Announce) → AllByRecursion IsNoAnswer (admitting t devices)
admitting_no_answer t [] = tt
admitting_no_answer t (a ∷ devices) = all_more IsNoAnswer (admitting (admitted_by t a) devices) (admitting_one t a) (admitting_no_answer (admitted_by t a) devices) (one (is_served_type a.kind) (live_refusal t a.id))
  where
    one : (b : Bool) (o : Option LiveNo) → AllByRecursion IsNoAnswer (cond b (lives_by o a.id) [])
    one false o = tt
    one true None = (tt, tt)
    one true (Some cause) = tt

forgetting_no_answer : (ids : List ℕ) → AllByRecursion IsNoAnswer (removal_calls ids)
forgetting_no_answer [] = tt
forgetting_no_answer (id ∷ ids) = all_more IsNoAnswer (removal_calls ids) (call.removes id ∷ []) (forgetting_no_answer ids) (tt, tt)

none_there : {A : Type 0} (zs : List A) (x : A) (back : List A) → [] ≡ zs ++ x ∷ back → ⊥
none_there [] x back e = cc e
none_there (z ∷ zs) x back e = cc e

one_there : (x y : Tidings) (zs back : List Tidings) → x ∷ [] ≡ zs ++ y ∷ back → (x ≡ y) × (zs ≡ [])
one_there x y [] back e = (cc e, refl)
one_there x y (z ∷ zs) back e = absurd (none_there zs y back (cc e))

-- what is a completion among what was taken by a message is the message's
taken_completion : (s : HostSide) (m : List ℕ) (zs : List Tidings) (head : Head) (bytes : List ℕ) (back : List Tidings) → taken s m ≡ zs ++ outcomes.completes head bytes ∷ back
    → ((host_hear s.core m).1 ≡ Ok (act.Complete head bytes)) × (zs ≡ [])
taken_completion s m zs head bytes back e = go (host_hear s.core m).1 refl e
  where
    by : (h : Head) (b : List ℕ) (r : Result Completed CompleteNo) → (host_hear s.core m).1 ≡ Ok (act.Complete h b) → heard_all (completing r h b) ≡ zs ++ outcomes.completes head bytes ∷ back
        → ((host_hear s.core m).1 ≡ Ok (act.Complete head bytes)) × (zs ≡ [])
    by h b (Ok gave) is e =
        let (same, none) = one_there (outcomes.completes h b) (outcomes.completes head bytes) zs back e in
        let of_head : h ≡ head = cc same in
        let of_bytes : b ≡ bytes = cc same in
        (rw (sym of_head, sym of_bytes) is, none)
    by h b (Err cause) is e = absurd (none_there zs (outcomes.completes head bytes) back e)

    go : (r : Result Act EndFault) → (host_hear s.core m).1 ≡ r → heard_all (calls_in s.table (host_hear s.core m).1) ≡ zs ++ outcomes.completes head bytes ∷ back
        → ((host_hear s.core m).1 ≡ Ok (act.Complete head bytes)) × (zs ≡ [])
    go (Err fault) is e = absurd (none_there zs (outcomes.completes head bytes) back (subst (λ (r : Result Act EndFault). heard_all (calls_in s.table r) ≡ zs ++ outcomes.completes head bytes ∷ back) is e))
    go (Ok act.Nothing) is e = absurd (none_there zs (outcomes.completes head bytes) back (subst (λ (r : Result Act EndFault). heard_all (calls_in s.table r) ≡ zs ++ outcomes.completes head bytes ∷ back) is e))
    go (Ok (act.Announced devices)) is e =
        let all = heard_no_end (admitting s.table devices) (admitting_no_answer s.table devices) in
        let same : heard_all (admitting s.table devices) ≡ zs ++ outcomes.completes head bytes ∷ back = subst (λ (r : Result Act EndFault). heard_all (calls_in s.table r) ≡ zs ++ outcomes.completes head bytes ∷ back) is e in
        absurd (none_ends zs head bytes back (subst (AllByRecursion IsNoEnd) same all))
    go (Ok (act.Removed ids)) is e =
        let all = heard_no_end (removal_calls ids) (forgetting_no_answer ids) in
        let same : heard_all (removal_calls ids) ≡ zs ++ outcomes.completes head bytes ∷ back = subst (λ (r : Result Act EndFault). heard_all (calls_in s.table r) ≡ zs ++ outcomes.completes head bytes ∷ back) is e in
        absurd (none_ends zs head bytes back (subst (AllByRecursion IsNoEnd) same all))
    go (Ok (act.Complete h b)) is e =
        by h b (table.complete s.table h b).1 is (subst (λ (r : Result Act EndFault). heard_all (calls_in s.table r) ≡ zs ++ outcomes.completes head bytes ∷ back) is e)

pub record HeardAt (client c : ℕ) (deeds : List Deed) (prefix : List Tidings) (head : Head) (bytes : List ℕ) : Type 0 where
  pub late : List Deed
  pub message : List ℕ
  pub early : List Deed
  pub parts : deeds ≡ late ++ host_reads c message ∷ early
  pub before : heard_on c (calls_of client early) ≡ prefix
  pub read : (host_hear (side_of client early).core message).1 ≡ Ok (act.Complete head bytes)

later_deed : (client c : ℕ) (deed : Deed) (before : List Deed) (prefix : List Tidings) (head : Head) (bytes : List ℕ) → HeardAt client c before prefix head bytes → HeardAt client c (deed ∷ before) prefix head bytes
later_deed client c deed before prefix head bytes old = record {
  late = deed ∷ old.late;
  message = old.message;
  early = old.early;
  parts = ap (λ (ys : List Deed). deed ∷ ys) old.parts;
  before = old.before;
  read = old.read;
}

pub heard_at : (client c : ℕ) (deeds : List Deed) → Does client deeds → (prefix : List Tidings) (head : Head) (bytes : List ℕ) (back : List Tidings)
    → heard_on c (calls_of client deeds) ≡ prefix ++ outcomes.completes head bytes ∷ back → HeardAt client c deeds prefix head bytes
heard_at client c [] may prefix head bytes back e = absurd (none_there prefix (outcomes.completes head bytes) back e)
heard_at client c (deed ∷ before) may prefix head bytes back e =
    step deed may (sym (heard_step client c before deed may) ∙ e) (λ back e. later_deed client c deed before prefix head bytes (heard_at client c before may.1 prefix head bytes back e))
  where
    heard : List Tidings
    heard = heard_on c (calls_of client before)

    -- what heard nothing
    quiet : (deed : Deed) → heard ++ [] ≡ prefix ++ outcomes.completes head bytes ∷ back
        → ((back : List Tidings) → heard ≡ prefix ++ outcomes.completes head bytes ∷ back → HeardAt client c (deed ∷ before) prefix head bytes) → HeardAt client c (deed ∷ before) prefix head bytes
    quiet deed e later = later back (sym (append-nil heard) ∙ e)

    read : (channel : ℕ) (m : List ℕ) (b : Bool) → (channel == c) ≡ b → heard ++ cond b (taken (side_of client before) m) [] ≡ prefix ++ outcomes.completes head bytes ∷ back
        → ((back : List Tidings) → heard ≡ prefix ++ outcomes.completes head bytes ∷ back → HeardAt client c (host_reads channel m ∷ before) prefix head bytes) → HeardAt client c (host_reads channel m ∷ before) prefix head bytes
    read channel m false is e later = later back (sym (append-nil heard) ∙ e)
    read channel m true is e later = elim (split_cases heard (taken (side_of client before) m) prefix (outcomes.completes head bytes) back e) [
      | inl (zs, h, g) ↦
          let own = taken_completion (side_of client before) m zs head bytes back g in
          record {
            late = [];
            message = m;
            early = before;
            parts = ap (λ (x : ℕ). host_reads x m ∷ before) (eqb-true channel c is);
            before = sym (h ∙ ap (λ (ys : List Tidings). heard ++ ys) own.1 ∙ append-nil heard);
            read = own.0;
          }
      | inr (zs, g, rest) ↦ later zs g
    ]

    step : (deed : Deed) → Does client (deed ∷ before) → heard ++ heard_by_deed client c before deed ≡ prefix ++ outcomes.completes head bytes ∷ back
        → ((back : List Tidings) → heard ≡ prefix ++ outcomes.completes head bytes ∷ back → HeardAt client c (deed ∷ before) prefix head bytes) → HeardAt client c (deed ∷ before) prefix head bytes
    step (host_reads channel m) may e later = read channel m (channel == c) refl e later
    step (host_begins channel) may e later = quiet (host_begins channel) e later
    step (host_ends channel) may e later = quiet (host_ends channel) e later
    step (removes device) may e later = quiet (removes device) e later
    step (adds device) may e later = quiet (adds device) e later
    step (submits x named o) may e later = quiet (submits x named o) e later
    step (takes n) may e later = quiet (takes n) e later
    step (tells n) may e later = quiet (tells n) e later
    step (host_writes x m) may e later = quiet (host_writes x m) e later
    step (client_reads x m) may e later = quiet (client_reads x m) e later
    step (client_writes x m) may e later = quiet (client_writes x m) e later
    step (completes key m) may e later = quiet (completes key m) e later
    step (stores device item) may e later = quiet (stores device item) e later
