-- The host takes each completion that it reads.
use Rattle.std.proofs.Common.{◌≡◌, ◌∙◌, refl, sym, ap, subst, ℕ, suc, ◌==◌, Bool, true, false, cond, List, [], ◌∷◌, ◌++◌, drop, Some, None, Option, arith, eq-eqb, eqb-true}
use Rattle.std.specs.Prelude.{slice_get, Result, Ok, Err}
use Rattle.rd_base.specs.declared.status.Status.{Status}
use Rattle.rd_base.specs.Layout.{met}
use Rattle.rd_base.specs.Position.{Position, at_start}
use Rattle.rd_base.proofs.LayoutLemmas.{meets}
use Rattle.rd_base.proofs.ResultLemmas.{ok_one}
use Rattle.rd_hello.specs.declared.end_fault.EndFault.{EndFault}
use Rattle.rd_host.specs.Core.{HostCoreState, host_hear}
use Rattle.rd_host.specs.declared.act.Act.{Act}
use Rattle.rd_host.specs.declared.act.Act.TheVariants as act
use Rattle.rd_irp.specs.declared.completion.Head.{Head}
use Rattle.rd_irp.specs.declared.completion.Kind.{Kind}
use Rattle.rd_irp.specs.declared.completion.Reply.{Reply}
use Rattle.rd_irp.specs.declared.request.Request.{Request}
use Rattle.rd_irp.specs.Completion.{completion_body, completion_head}
use Rattle.rd_irp.specs.Fits.{kind_of}
use Rattle.rd_pending.specs.declared.calls.Completed.{Completed}
use Rattle.rd_pending.specs.declared.calls.Completed.TheVariants.{Gave, Late}
use Rattle.rd_pending.specs.Outcomes.{Accepted}
use Rattle.rd_pending.specs.Table as table
use Rattle.rd_pending.specs.Table.{Slot, TableState, awaits, slot_for}
use Rattle.rd_pending.proofs.CountLemmas.{pairs}
use Rattle.rd_pending.proofs.Sound.{alike_before, held, slot_waits}
use Rattle.rd_deeds.specs.HostDeeds.{side_of}
use Rattle.rd_deeds.specs.Joining.{IsCarried, IsTaken, Stands, accepted, request_of_accepted}
use Rattle.rd_deeds.specs.Talk.{AtEachPoint, Deed, EachAfter, adds, client_read, client_reads, client_writes, completes, host_begins, host_ends, host_reads, host_writes, removes, request_at, stores, submits, takes, tells}
use Rattle.rd_deeds.specs.Told.{Answers, CompletesWith, Replies}
use Rattle.rd_deeds.proofs.Calls.{Does}
use Rattle.rd_deeds.proofs.Hearings.{Heard, heard}
use Rattle.rd_deeds.proofs.Lists.{each_end}
use Rattle.rd_deeds.proofs.Messages.{head_read}
use Rattle.rd_deeds.proofs.Own.{Origin, counts, origin, own_request}
use Rattle.rd_deeds.proofs.Telling.{Tells}
use Rattle.rd_deeds.proofs.Written.{sound_side}

-- ---- what a completion that answers says

pub same_request : (ms : List (List ℕ)) (k : ℕ) (r s : Request) → request_at ms k ≡ Some r → request_at ms k ≡ Some s → r ≡ s
same_request ms k r s e f = cc (e, f)

-- the body reads after the head
pub body_reads : (r : Request) (reply : Reply) (m bytes : List ℕ) (head : Head) (q : Position) → CompletesWith r reply m → met completion_head (at_start m) ≡ Ok (head, q) → bytes ≡ q.left
    → (head ≡ record { device = r.device; completion = r.completion; status = reply.status }) × (p : Position) × (met (completion_body (kind_of r.op) head.status) (at_start bytes) ≡ Ok (reply.body, p))
body_reads r reply m bytes head q answers is left =
    let own_head : Head = record { device = r.device; completion = r.completion; status = reply.status } in
    let (p, read, tail_is) = head_read own_head m answers.head in
    let both : (head, q) ≡ (own_head, p) = ok_one (met completion_head (at_start m)) (head, q) (own_head, p) is read in
    let status : head.status ≡ reply.status = ap (λ (x : Head × Position). (x.0).status) both in
    let bytes_are : bytes ≡ drop 16 m = left ∙ ap (λ (x : Head × Position). (x.1).left) both ∙ tail_is in
    let (end, body, long) = meets (completion_body (kind_of r.op) reply.status) 0 (drop 16 m) reply.body answers.tail answers.body in (
      ap (λ (x : Head × Position). x.0) both,
      end,
      subst (λ (s : Status). met (completion_body (kind_of r.op) s) (at_start bytes) ≡ Ok (reply.body, end)) (sym status)
          (subst (λ (ws : List ℕ). met (completion_body (kind_of r.op) reply.status) (at_start ws) ≡ Ok (reply.body, end)) (sym bytes_are) body),
    )

-- what answers at a place among what was done
pub answers_at : (replies : Replies) (late early : List Deed) (x : Deed) (before : List Deed) → before ≡ late ++ x ∷ early → EachAfter (Answers replies) before → Answers replies early x
answers_at replies late early x before parts all = (each_end (Answers replies) late (x ∷ early) (subst (EachAfter (Answers replies)) parts all)).0

-- ---- slots

slot_held : (o : Option Slot) (d : ℕ) → held o d ≡ 1 → (slot : Slot) × (o ≡ Some slot) × (slot.device ≡ d)
slot_held None d e = absurd (omega (arith, e))
slot_held (Some slot) d e = go (slot.device == d) refl e
  where
    go : (b : Bool) → (slot.device == d) ≡ b → cond {A = ℕ} b 1 0 ≡ 1 → (x : Slot) × (Some slot ≡ Some x) × (x.device ≡ d)
    go true of one = (slot, refl, eqb-true slot.device d of)
    go false of one = absurd (omega (arith, one))

late_one : (t : TableState) (head : Head) (bytes : List ℕ) (slot : Slot) → slot_for t head.completion ≡ Some slot → slot.device ≡ head.device → slot.dead ≡ true
    → (table.complete t head bytes).1 ≡ Ok (Late slot.number)
late_one t head bytes slot is of dead = rw (is, eq-eqb slot.device head.device of, dead) refl

given_one : (t : TableState) (head : Head) (bytes : List ℕ) (slot : Slot) (read : _ × Position) → slot_for t head.completion ≡ Some slot → slot.device ≡ head.device → slot.dead ≡ false
    → met (completion_body slot.kind head.status) (at_start bytes) ≡ Ok read → (table.complete t head bytes).1 ≡ Ok (Gave slot.number)
given_one t head bytes slot read is of alive body = rw (is, eq-eqb slot.device head.device of, alive, body) refl

-- ---- the completion that is read

-- The one that is awaited with the pair is the request that the completion answers.
pub own_kind : (client : ℕ) (before : List Deed) (c : ℕ) (m : List ℕ) (head : Head) (may : Does client before) (carried : AtEachPoint IsCarried before)
    → (is_open : ((side_of client before).table).channel ≡ Some c) → (o : Origin before c m head) → (k : ℕ) (a : Accepted) → slice_get (accepted client before) k ≡ Some a
    → awaits (side_of client before).table (suc k) ≡ true → a.channel ≡ c → a.device ≡ head.device → a.id ≡ head.completion → (a.index ≡ (o.key).index) × (o.request ≡ request_of_accepted a)
own_kind client before c m head may carried is_open o k a at waits in_c of_d with_i =
    let last = ((sound_side client before may).requests k a at).last waits in
    let all : alike_before (accepted client before) a ≡ pairs c head.device head.completion (accepted client before) = rw (in_c, of_d, with_i) refl in
    let count = (counts client before c m head may carried is_open o).0 in
    own_request client before c m head may carried is_open o k a at in_c of_d with_i (omega (arith, last, all, count))

takes_it : (client : ℕ) (replies : Replies) (before : List Deed) (c : ℕ) (m : List ℕ) (head : Head) (q : Position) (bytes : List ℕ) → Does client before
    → AtEachPoint IsCarried (host_reads c m ∷ before) → EachAfter Stands before → EachAfter Tells before → EachAfter (Answers replies) before
    → ((side_of client before).table).channel ≡ Some c → met completion_head (at_start m) ≡ Ok (head, q) → bytes ≡ q.left
    → (gave : Completed) × ((table.complete (side_of client before).table head bytes).1 ≡ Ok gave)
takes_it client replies before c m head q bytes may carried stands told answers is_open is left = by (slot.0).dead refl
  where
    t : TableState
    t = (side_of client before).table

    o : Origin before c m head
    o = origin client before c m head may carried stands told (rw is refl)

    slot : (x : Slot) × (slot_for t head.completion ≡ Some x) × (x.device ≡ head.device)
    slot = slot_held (slot_for t head.completion) head.device (counts client before c m head may carried.1 is_open o).2

    by : (b : Bool) → (slot.0).dead ≡ b → (gave : Completed) × ((table.complete t head bytes).1 ≡ Ok gave)
    by true dead = (Late (slot.0).number, late_one t head bytes slot.0 slot.1 slot.2 dead)
    by false alive =
        let s = sound_side client before may in
        let own = s.of_slot head.completion slot.0 slot.1 in
        let k : ℕ = own.before in
        let waits : awaits t (suc k) ≡ true = subst (λ (n : ℕ). awaits t n ≡ true) own.numbered (slot_waits t head.completion slot.0 s.slots slot.1 alive) in
        let in_c : (own.request).channel ≡ c = let both : Some (own.request).channel ≡ Some c = sym own.channel ∙ is_open in cc both in
        let mine = own_kind client before c m head may carried.1 is_open o k own.request own.is waits in_c (own.device ∙ slot.2) own.own_id in
        let (r, reply, found, says, why) = answers_at replies o.late o.early (completes o.key m) before o.parts answers in
        let same : r ≡ o.request =
        same_request (client_read c o.early) (o.key).index r o.request (subst (λ (x : ℕ). request_at (client_read x o.early) (o.key).index ≡ Some r) o.channel found) o.found in
        let (head_is, p, body) = body_reads r reply m bytes head q says is left in
        let kind : kind_of r.op ≡ (slot.0).kind = ap (λ (x : Request). kind_of x.op) (same ∙ mine.1) ∙ own.kind in (
          Gave (slot.0).number,
          given_one t head bytes slot.0 (reply.body, p) slot.1 slot.2 alive
              (subst (λ (x : Kind). met (completion_body x head.status) (at_start bytes) ≡ Ok (reply.body, p)) kind body),
        )

taken_one : (client : ℕ) (replies : Replies) (before : List Deed) (deed : Deed) → Does client (deed ∷ before) → AtEachPoint IsCarried (deed ∷ before) → EachAfter Stands before
    → EachAfter Tells before → EachAfter (Answers replies) before → IsTaken (side_of client before) deed
taken_one client replies before (host_reads c m) may carried stands told answers =
    go (host_hear (side_of client before).core m) refl (heard (side_of client before).core m)
  where
    go : (r : HostCoreState × Result Act EndFault) → host_hear (side_of client before).core m ≡ r → Heard (side_of client before).core m (host_hear (side_of client before).core m)
        → IsTaken (side_of client before) (host_reads c m)
    go (x, Err fault) e says = rw e tt
    go (x, Ok act.Nothing) e says = rw e tt
    go (x, Ok (act.Announced devices)) e says = rw e tt
    go (x, Ok (act.Removed ids)) e says = rw e tt
    go (x, Ok (act.Complete head bytes)) e says =
        let (open_end, same, none, no_list, q, is, left) = subst (Heard (side_of client before).core m) e says in
        let (gave, took) = takes_it client replies before c m head q bytes may.1 carried stands told answers may.0 is left in
        rw (e, took) tt
taken_one client replies before (host_begins e) may carried stands told answers = tt
taken_one client replies before (host_ends e) may carried stands told answers = tt
taken_one client replies before (removes e) may carried stands told answers = tt
taken_one client replies before (adds e) may carried stands told answers = tt
taken_one client replies before (submits x named o) may carried stands told answers = tt
taken_one client replies before (takes n) may carried stands told answers = tt
taken_one client replies before (tells n) may carried stands told answers = tt
taken_one client replies before (host_writes e m) may carried stands told answers = tt
taken_one client replies before (client_reads e m) may carried stands told answers = tt
taken_one client replies before (client_writes e m) may carried stands told answers = tt
taken_one client replies before (completes key m) may carried stands told answers = tt
taken_one client replies before (stores device item) may carried stands told answers = tt

pub each_taken : (client : ℕ) (replies : Replies) (deeds : List Deed) → Does client deeds → AtEachPoint IsCarried deeds → EachAfter Stands deeds → EachAfter Tells deeds
    → EachAfter (Answers replies) deeds → EachAfter (λ before deed. IsTaken (side_of client before) deed) deeds
each_taken client replies [] may carried stands told answers = tt
each_taken client replies (deed ∷ before) may carried stands told answers =
    (taken_one client replies before deed may carried stands.1 told.1 answers.1, each_taken client replies before may.1 carried.1 stands.1 told.1 answers.1)
