-- A request that is done has the reply that its device's journal gives to it, and none that a cut gives.
use Rattle.std.proofs.Common.{◌≡◌, ◌∙◌, refl, sym, ap, subst, inl, inr, ℕ, suc, ◌+◌, ◌<◌, ◌≤◌, ◌==◌, Bool, true, false, cond, List, [], ◌∷◌, ◌++◌, length, reverse, take, Some, None, Option, arith, append_assoc, append-nil, length-append, eq-eqb}
use Rattle.std.specs.Prelude.{Contains, filter, slice_get, Result, Ok}
use Rattle.std.specs.List.{cons_option, list_any}
use Rattle.std.proofs.lemmas.List.{reverse-append}
use Rattle.std.proofs.lemmas.List.Elements.{filter_map-append}
use Rattle.rd_base.specs.declared.journal.Cause.{Cause}
use Rattle.rd_base.specs.declared.journal.Item.{Item}
use Rattle.rd_base.specs.declared.journal.Item.TheVariants.{Cut, Sent}
use Rattle.rd_base.specs.declared.journal.Key.{Key}
use Rattle.rd_base.specs.declared.status.Status.{Status}
use Rattle.rd_base.specs.Layout.{met}
use Rattle.rd_base.specs.Position.{Position, at_start}
use Rattle.rd_hello.specs.declared.end_fault.EndFault.{EndFault}
use Rattle.rd_host.specs.declared.act.Act.{Act}
use Rattle.rd_host.specs.declared.act.Act.TheVariants as act
use Rattle.rd_host.specs.Core.{host_hear}
use Rattle.rd_irp.specs.declared.completion.Body.{Body}
use Rattle.rd_irp.specs.declared.completion.Head.{Head}
use Rattle.rd_irp.specs.declared.completion.Kind.{Kind}
use Rattle.rd_irp.specs.declared.completion.Reply.{Reply}
use Rattle.rd_irp.specs.declared.request.Request.{Request}
use Rattle.rd_irp.specs.Completion.{completion_body}
use Rattle.rd_irp.specs.Fits.{kind_of}
use Rattle.rd_pending.specs.declared.calls.Outcome.{Outcome}
use Rattle.rd_pending.specs.declared.calls.Outcome.TheVariants.{Done}
use Rattle.rd_pending.specs.History.{heard_on, lives_before}
use Rattle.rd_pending.specs.Outcomes.{Accepted, Tidings, course_from, ended_in, reply_in}
use Rattle.rd_pending.proofs.AcceptedLemmas.{split_at}
use Rattle.rd_pending.proofs.CountLemmas.{pairs}
use Rattle.rd_pending.proofs.Indices.{own_place}
use Rattle.rd_pending.proofs.Sound.{alike_before}
use Rattle.rd_pending.proofs.Tame.{newest}
use Rattle.rd_deeds.specs.HostDeeds.{calls_of, side_of}
use Rattle.rd_deeds.specs.Joining.{AreJoined, IsCarried, ClientCameTo, Replied, Stands, Uncut, accepted, key_of, request_of_accepted}
use Rattle.rd_deeds.specs.Talk.{AtEachPoint, Deed, answered, EachAfter, client_read, client_writes, client_wrote, completes, head_in, host_read, host_reads, host_wrote, is_request, journal, read_by_client, read_by_host, removed_in, request_at, stored_by, written_by_client}
use Rattle.rd_deeds.specs.Told.{Answers, CompletesWith, IsAnswerAt, IsReplied, RemovedSince, Replies, is_said_gone, worn_entries}
use Rattle.rd_deeds.proofs.Calls.{Does, calls_hold}
use Rattle.rd_deeds.proofs.Hearings.{Heard, heard}
use Rattle.rd_deeds.proofs.Joined.{carried_now, heard_is, pairs_in, through_pairs}
use Rattle.rd_deeds.proofs.Kept.{Kept, Was, kept_since, placed_by_channel, placed_by_pair, was}
use Rattle.rd_deeds.proofs.Lists.{each_end, ends_either, fewer_in_end, filter_split, point_end, split_cases}
use Rattle.rd_deeds.proofs.Lives.{Open, said}
use Rattle.rd_deeds.proofs.Own.{Origin, counts, matches_long, origin, own_request}
use Rattle.rd_deeds.proofs.Taken.{answers_at, body_reads, same_request}
use Rattle.rd_deeds.proofs.Telling.{Tells, each_tells, request_later, request_within}
use Rattle.rd_deeds.proofs.Written.{requests_on, written}
use Rattle.rd_deeds.proofs.Ends.{done_ended, ends, heard_at}
use Rattle.rd_deeds.proofs.Waits.{Waits, lives_since, not_removed, read_is, read_by_then, waits_there}

-- ---- the reply

reply_reads : (a : Accepted) (head : Head) (bytes : List ℕ) (body : Body) (p : Position) → met (completion_body (kind_of a.op) head.status) (at_start bytes) ≡ Ok (body, p)
    → reply_in a head bytes ≡ Some (Done (record { status = head.status; body = body }))
reply_reads a head bytes body p e = rw e refl

one_reply : (x y : Reply) (o : Option Outcome) → o ≡ Some (Done x) → o ≡ Some (Done y) → x ≡ y
one_reply x y o e d = cc (e, d)

module _ (client c : ℕ) (p : List Deed) (m : List ℕ) (n : ℕ) (a : Accepted) (key : Key) (late early : List Deed)
    (may : Does client p) (carried : AtEachPoint IsCarried p) (open_one : Open client p c) (at : slice_get (accepted client p) n ≡ Some a)
    (in_c : a.channel ≡ c) (waits : Waits client p c n a)
    (parts : p ≡ late ++ completes key m ∷ early) (channel : key.channel ≡ c) (wrote : client_wrote c early ≡ host_read c p) (index : a.index ≡ key.index)
    (r : Request) (device : r.device ≡ a.device) where
  -- it wasn't answered for a removal
  not_since : (late2 early2 : List Deed) (rm : List ℕ) → early ≡ late2 ++ client_writes c rm ∷ early2 → list_any (λ (id : ℕ). id == r.device) (removed_in rm) ≡ true
      → request_at (client_read c early2) key.index ≡ Some r → ⊥
  not_since late2 early2 rm parts2 gone found =
      let reads : host_read c p ≡ client_wrote c late2 ++ rm ∷ client_wrote c early2 =
      sym wrote ∙ ap (client_wrote c) parts2 ∙ filter_map-append (written_by_client c) late2 (client_writes c rm ∷ early2)
      ∙ ap (λ (b : Bool). client_wrote c late2 ++ cons_option (cond b (Some rm) None) (client_wrote c early2)) (eq-eqb c c refl) in
      let (u, x, v, e1, e2, same) = filter_split (read_by_host c) p (client_wrote c late2) rm (client_wrote c early2) reads in
      let split : p ≡ u ++ host_reads c rm ∷ v = subst (λ (y : Deed). p ≡ u ++ y ∷ v) (read_is c rm x e2) e1 in
      let written_split : p ≡ (late ++ completes key m ∷ late2) ++ client_writes c rm ∷ early2 =
      parts ∙ ap (λ (ys : List Deed). late ++ completes key m ∷ ys) parts2 ∙ sym (append_assoc late (completes key m ∷ late2) (client_writes c rm ∷ early2)) in
      let read_split : p ≡ (u ++ host_reads c rm ∷ []) ++ v = split ∙ sym (append_assoc u (host_reads c rm ∷ []) v) in
      let may_u : Does client (u ++ host_reads c rm ∷ v) = subst (Does client) split may in
      let may_v : Does client v = (each_end _ u (host_reads c rm ∷ v) may_u).1 in
      let carried_v : AtEachPoint IsCarried (host_reads c rm ∷ v) = point_end IsCarried u (host_reads c rm ∷ v) (subst (AtEachPoint IsCarried) split carried) in
      let enough : length (filter is_request (client_read c early2)) ≤ length (filter is_request (client_read c v)) =
      read_by_then c rm v early2 carried_v.0 same (ends_either (u ++ host_reads c rm ∷ []) v (late ++ completes key m ∷ late2) (client_writes c rm ∷ early2) (sym read_split ∙ written_split)) in
      let sent = fewer_in_end is_request (host_wrote c v) (client_read c v) ((carried_now v carried_v.1).to_client c) in
      let w = written client v may_v c in
      let long : length (w.unsent ++ requests_on c v) ≡ length (newest c (accepted client v)) = matches_long (newest c (accepted client v)) (w.unsent ++ requests_on c v) w.matches in
      let place = subst (λ (x : ℕ). a.index ≡ length (newest x (take n (accepted client p)))) in_c (own_place (calls_of client p) (calls_hold client p may) n a at) in
      let kept : Kept (accepted client v) (accepted client p) =
      subst (λ (x : List Deed). Kept (accepted client v) (accepted client x)) (sym read_split) (kept_since client (u ++ host_reads c rm ∷ []) v) in
      let low : n < length (accepted client v) =
      placed_by_channel (accepted client v) (accepted client p) c n kept
      (omega (arith, place, index, request_within key.index r (client_read c early2) found, enough, sent, long, length-append {A = List ℕ} w.unsent (requests_on c v))) in
      let unremoved : list_any (λ (id : ℕ). id == a.device) (removed_in rm) ≡ false =
      not_removed client c n u rm v a may_u (subst (λ (x : List Deed). Open client x c) split open_one) low (subst (λ (x : List Deed). slice_get (accepted client x) n ≡ Some a) split at) in_c
      (subst (λ (x : List Deed). Waits client x c n a) split waits) in
      absurd (cc (unremoved, subst (λ (d : ℕ). list_any (λ (id : ℕ). id == d) (removed_in rm) ≡ true) device gone))

  -- nor for a device that isn't there
  not_gone : is_said_gone r.device (client_wrote c early) ≡ true → ⊥
  not_gone gone =
      let there = waits_there client p c n a may open_one.channel at in_c waits in
      let named : is_said_gone a.device (host_read c p) ≡ false = said client p c a.device may open_one there in
      absurd (cc (named, subst (λ (d : ℕ). is_said_gone d (host_read c p) ≡ true) device (subst (λ (ms : List (List ℕ)). is_said_gone r.device ms ≡ true) wrote gone)))

-- ---- journals grow

-- a device's journal at a point is a beginning of the whole
grown : (d : ℕ) (late early deeds : List Deed) → deeds ≡ late ++ early → reverse (journal d deeds) ≡ reverse (journal d early) ++ reverse (journal d late)
grown d late early deeds parts = ap (λ (xs : List Deed). reverse (journal d xs)) parts ∙ ap reverse (filter_map-append (stored_by d) late early) ∙ reverse-append (journal d late) (journal d early)

shorter : (d : ℕ) (late early deeds : List Deed) → deeds ≡ late ++ early → length (journal d early) ≤ length (journal d deeds)
shorter d late early deeds parts =
    let both : length (journal d deeds) ≡ length (journal d late) + length (journal d early) =
    ap (λ (xs : List Deed). length (journal d xs)) parts ∙ ap length (filter_map-append (stored_by d) late early) ∙ length-append {A = Item} (journal d late) (journal d early) in
    omega (arith, both)

-- ---- what is read

-- a request that was read stays at its place
pub request_since : (r : Request) (k : ℕ) (late early : List (List ℕ)) → request_at early k ≡ Some r → request_at (late ++ early) k ≡ Some r
request_since r k [] early found = found
request_since r k (m ∷ late) early found = request_later true m r (late ++ early) k (request_since r k late early found)

-- where the completion was heard that ended a request
record Located (client : ℕ) (deeds : List Deed) (c n : ℕ) (a : Accepted) (reply : Reply) : Type 0 where
  late : List Deed
  message : List ℕ
  early : List Deed
  parts : deeds ≡ late ++ host_reads c message ∷ early
  head : Head
  bytes : List ℕ
  read : (host_hear (side_of client early).core message).1 ≡ Ok (act.Complete head bytes)
  device : head.device ≡ a.device
  id : head.completion ≡ a.id
  reads : reply_in a head bytes ≡ Some (Done reply)
  none : ended_in a (alike_before (take n (accepted client deeds)) a) (course_from (lives_before c (calls_of client deeds))) (heard_on c (calls_of client early)) ≡ None
  count : pairs_in a.device a.id (heard_on c (calls_of client early)) ≡ alike_before (take n (accepted client deeds)) a

from_none : (k : ℕ) → 0 + k ≡ k
from_none k = omega arith

located : (client : ℕ) (deeds : List Deed) → Does client deeds → (c n : ℕ) (a : Accepted) (reply : Reply)
    → ended_in a (alike_before (take n (accepted client deeds)) a) (course_from (lives_before c (calls_of client deeds))) (heard_on c (calls_of client deeds)) ≡ Some (Done reply) → Located client deeds c n a reply
located client deeds may c n a reply e =
    let m : ℕ = alike_before (take n (accepted client deeds)) a in
    let end = ends a m (course_from (lives_before c (calls_of client deeds))) (heard_on c (calls_of client deeds)) reply e in
    let here = heard_at client c deeds may end.prefix end.head end.bytes end.back end.parts in
    record {
      late = here.late;
      message = here.message;
      early = here.early;
      parts = here.parts;
      head = end.head;
      bytes = end.bytes;
      read = here.read;
      device = end.device;
      id = end.id;
      reads = end.reads;
      none = subst (λ (xs : List Tidings). ended_in a m (course_from (lives_before c (calls_of client deeds))) xs ≡ None) (sym here.before) end.none;
      count = ap (pairs_in a.device a.id) here.before ∙ sym (from_none (pairs_in a.device a.id end.prefix)) ∙ sym (through_pairs a.device a.id (course_from (lives_before c (calls_of client deeds))) end.prefix) ∙ end.count;
    }

-- the completion that the host reads there
module _ (client : ℕ) (replies : Replies) (deeds : List Deed) (is : AreJoined client replies deeds) (c n : ℕ) (a : Accepted) (reply : Reply)
    (at : slice_get (accepted client deeds) n ≡ Some a) (in_c : a.channel ≡ c) (l : Located client deeds c n a reply) where
  may : Does client (host_reads c l.message ∷ l.early)
  may = each_end _ l.late (host_reads c l.message ∷ l.early) (subst (Does client) l.parts is.host)

  carried : AtEachPoint IsCarried (host_reads c l.message ∷ l.early)
  carried = point_end IsCarried l.late (host_reads c l.message ∷ l.early) (subst (AtEachPoint IsCarried) l.parts is.carried)

  stands : EachAfter Stands (host_reads c l.message ∷ l.early)
  stands = each_end Stands l.late (host_reads c l.message ∷ l.early) (subst (EachAfter Stands) l.parts is.stands)

  told : EachAfter Tells (host_reads c l.message ∷ l.early)
  told = each_end Tells l.late (host_reads c l.message ∷ l.early) (subst (EachAfter Tells) l.parts (each_tells replies deeds is.told is.lawful))

  answers : EachAfter (Answers replies) (host_reads c l.message ∷ l.early)
  answers = each_end (Answers replies) l.late (host_reads c l.message ∷ l.early) (subst (EachAfter (Answers replies)) l.parts is.told.answers)

  says : Heard (side_of client l.early).core l.message ((host_hear (side_of client l.early).core l.message).0, Ok (act.Complete l.head l.bytes))
  says = subst (Heard (side_of client l.early).core l.message) (ap (λ (y : Result Act EndFault). ((host_hear (side_of client l.early).core l.message).0, y)) l.read) (heard (side_of client l.early).core l.message)

  opened : Open client l.early c
  opened = record { channel = may.0; fine = says.0 }

  names : head_in l.message ≡ Some l.head
  names = let (fine, still, none, no_list, q, is_head, left) = says in rw is_head refl

  o : Origin l.early c l.message l.head
  o = origin client l.early c l.message l.head may.1 carried stands.1 told.1 names

  -- how many with its pair were accepted, and how many of their completions were heard
  counted_there : (pairs c (l.head).device (l.head).completion (accepted client l.early) ≡ suc (length (answered c (l.head).device (l.head).completion o.early)))
      × (pairs_in (l.head).device (l.head).completion (heard_on c (calls_of client l.early)) ≡ length (answered c (l.head).device (l.head).completion o.early))
  counted_there =
      let (all, taken_all, held_one) = counts client l.early c l.message l.head may.1 carried.1 may.0 o in
      (all, sym (heard_is client l.early c (l.head).device (l.head).completion) ∙ taken_all)

  abbrev m : ℕ
  m = alike_before (take n (accepted client deeds)) a

  count : m ≡ length (answered c (l.head).device (l.head).completion o.early)
  count =
      sym l.count ∙ ap (λ (d : ℕ). pairs_in d a.id (heard_on c (calls_of client l.early))) (sym l.device)
      ∙ ap (λ (i : ℕ). pairs_in (l.head).device i (heard_on c (calls_of client l.early))) (sym l.id) ∙ counted_there.1

  own_pairs : pairs c a.device a.id (accepted client l.early) ≡ suc m
  own_pairs =
      ap (λ (d : ℕ). pairs c d a.id (accepted client l.early)) (sym l.device)
      ∙ ap (λ (i : ℕ). pairs c (l.head).device i (accepted client l.early)) (sym l.id) ∙ counted_there.0 ∙ ap suc (sym count)

  kept : Kept (accepted client l.early) (accepted client deeds)
  kept =
      let whole : deeds ≡ (l.late ++ host_reads c l.message ∷ []) ++ l.early = l.parts ∙ sym (append_assoc l.late (host_reads c l.message ∷ []) l.early) in
      subst (λ (y : List Deed). Kept (accepted client l.early) (accepted client y)) (sym whole) (kept_since client (l.late ++ host_reads c l.message ∷ []) l.early)

  fewer : pairs c a.device a.id (take n (accepted client deeds)) < pairs c a.device a.id (accepted client l.early)
  fewer = few (pairs c a.device a.id (take n (accepted client deeds))) _ _ (ap (λ (x : ℕ). pairs x a.device a.id (take n (accepted client deeds))) (sym in_c)) own_pairs
    where
      few : (x y z : ℕ) → x ≡ z → y ≡ suc z → x < y
      few x y z e d = omega (arith, e, d)

  low : n < length (accepted client l.early)
  low = placed_by_pair (accepted client l.early) (accepted client deeds) c a.device a.id n kept fewer

  -- the request was there
  w : Was (accepted client l.early) (accepted client deeds) n a
  w = was (accepted client l.early) (accepted client deeds) n a kept low at

  own : (a.index ≡ (o.key).index) × (o.request ≡ request_of_accepted a)
  own =
      own_request client l.early c l.message l.head may.1 carried.1 may.0 o n a w.at in_c (sym l.device) (sym l.id)
      (ap (λ (xs : List Accepted). alike_before xs a) (sym w.earlier) ∙ count)

  lives_are : lives_before c (calls_of client deeds) ≡ lives_before c (calls_of client l.early)
  lives_are =
      let whole : deeds ≡ (l.late ++ host_reads c l.message ∷ []) ++ l.early = l.parts ∙ sym (append_assoc l.late (host_reads c l.message ∷ []) l.early) in
      ap (λ (y : List Deed). lives_before c (calls_of client y)) whole
      ∙ lives_since client c n (l.late ++ host_reads c l.message ∷ []) l.early a (subst (Does client) whole is.host) w.at in_c

  waits : Waits client l.early c n a
  waits =
      subst (λ (g : ℕ). ended_in a (alike_before (take n (accepted client l.early)) a) (course_from g) (heard_on c (calls_of client l.early)) ≡ None) lives_are
      (subst (λ (xs : List Accepted). ended_in a (alike_before xs a) (course_from (lives_before c (calls_of client deeds))) (heard_on c (calls_of client l.early)) ≡ None) w.earlier l.none)

  -- what the client answered
  r : Request
  r = (answers_at replies o.late o.early (completes o.key l.message) l.early o.parts answers.1).0

  own_reply : Reply
  own_reply = (answers_at replies o.late o.early (completes o.key l.message) l.early o.parts answers.1).1

  answer : (request_at (client_read (o.key).channel o.early) (o.key).index ≡ Some r) × CompletesWith r own_reply l.message × IsAnswerAt replies r.device o.key r own_reply o.early
  unfolding r own_reply
  answer = let (x, y, found, completes_it, why) = answers_at replies o.late o.early (completes o.key l.message) l.early o.parts answers.1 in (found, completes_it, why)

  same : r ≡ o.request
  same = same_request (client_read c o.early) (o.key).index r o.request (subst (λ (y : ℕ). request_at (client_read y o.early) (o.key).index ≡ Some r) o.channel answer.0) o.found

  body : (l.head ≡ record { device = r.device; completion = r.completion; status = own_reply.status }) × (end : Position) × (met (completion_body (kind_of r.op) (l.head).status) (at_start l.bytes) ≡ Ok (own_reply.body, end))
  body = let (fine, still, none, no_list, q, is_head, left) = says in body_reads r own_reply l.message l.bytes l.head q answer.1 is_head left

  kind : kind_of r.op ≡ kind_of a.op
  kind = ap (λ (y : Request). kind_of y.op) (same ∙ own.1)

  reply_is : own_reply ≡ reply
  reply_is =
      let reads : reply_in a l.head l.bytes ≡ Some (Done (record { status = (l.head).status; body = own_reply.body })) =
      reply_reads a l.head l.bytes own_reply.body body.1 (subst (λ (k : Kind). met (completion_body k (l.head).status) (at_start l.bytes) ≡ Ok (own_reply.body, body.1)) kind body.2) in
      subst (λ (s : Status). record { status = s; body = own_reply.body } ≡ reply) (ap (λ (h : Head). h.status) body.0) (one_reply _ reply (reply_in a l.head l.bytes) reads l.reads)

  device_is : r.device ≡ a.device
  device_is = sym (ap (λ (h : Head). h.device) body.0) ∙ l.device

  key_is : o.key ≡ record { channel = c; index = a.index }
  key_is = ap (λ (y : ℕ). key_at y (o.key).index) o.channel ∙ ap (key_at c) (sym own.0)
    where
      key_at : ℕ → ℕ → Key
      key_at x k = record { channel = x; index = k }

  never_since : RemovedSince r.device o.key r o.early → ⊥
  never_since (late2, early2, rm, parts2, gone, asked_then) =
      not_since client c l.early l.message n a o.key o.late o.early may.1 carried.1 opened w.at in_c waits o.parts o.channel o.wrote own.0 r device_is late2 early2 rm
      (subst (λ (y : ℕ). o.early ≡ late2 ++ client_writes y rm ∷ early2) o.channel parts2) gone (subst (λ (y : ℕ). request_at (client_read y early2) (o.key).index ≡ Some r) o.channel asked_then)

  -- what was done since the completion was written, with that
  abbrev since : List Deed
  since = l.late ++ host_reads c l.message ∷ o.late ++ completes o.key l.message ∷ []

  split : deeds ≡ since ++ o.early
  split =
      l.parts ∙ ap (λ (xs : List Deed). l.late ++ host_reads c l.message ∷ xs) o.parts
      ∙ ap (λ (xs : List Deed). l.late ++ xs) (ap (λ (xs : List Deed). host_reads c l.message ∷ xs) (sym (append_assoc o.late (completes o.key l.message ∷ []) o.early)))
      ∙ sym (append_assoc l.late (host_reads c l.message ∷ (o.late ++ completes o.key l.message ∷ [])) o.early)
      ∙ ap (λ (xs : List Deed). xs ++ o.early) (sym (append_assoc l.late (host_reads c l.message ∷ o.late) (completes o.key l.message ∷ [])))

  -- it belongs to the key by what its journal says
  by_journal : IsReplied replies r.device o.key r own_reply o.early
  by_journal = by answer.2
    where
      by : IsAnswerAt replies r.device o.key r own_reply o.early → IsReplied replies r.device o.key r own_reply o.early
      by (inl given) = given
      by (inr (inl (cancelled, reply_of, since))) = absurd (never_since since)
      by (inr (inr (never, inl (gone, reply_of)))) =
          absurd (not_gone client c l.early l.message n a o.key o.late o.early may.1 carried.1 opened w.at in_c waits o.parts o.channel o.wrote own.0 r device_is
          (subst (λ (y : ℕ). is_said_gone r.device (client_wrote y o.early) ≡ true) o.channel gone))
      by (inr (inr (never, inr (there, reply_of, worn, later)))) = absurd (too_long (length (journal r.device o.early)) (length (journal r.device deeds)) worn (is.unworn r.device) (shorter r.device since o.early deeds split))
        where
          too_long : (j k : ℕ) → worn_entries ≤ j → k < worn_entries → j ≤ k → ⊥
          too_long j k high small le = omega (arith, high, small, le)

  -- the journal that says so is a beginning of the whole
  abbrev later : List Item
  later = by_journal.later ++ reverse (journal r.device since)

  all_stands : reverse (journal r.device deeds) ≡ by_journal.earlier ++ Sent o.key ∷ later
  all_stands =
      grown r.device since o.early deeds split ∙ ap (λ (xs : List Item). xs ++ reverse (journal r.device since)) by_journal.stands
      ∙ append_assoc by_journal.earlier (Sent o.key ∷ by_journal.later) (reverse (journal r.device since))

  abbrev Gave : List Item → Type 0
  Gave items = Contains (replies a.device items) (record { channel = c; index = a.index }, reply)

  -- what a prefix of the journal gives
  gave : (items : List Item) → Contains (replies r.device items) (o.key, own_reply) → Gave items
  gave items has =
      subst (λ (d : ℕ). Contains (replies d items) (record { channel = c; index = a.index }, reply)) device_is
      (subst (λ (k : Key). Contains (replies r.device items) (k, reply)) key_is (subst (λ (y : Reply). Contains (replies r.device items) (o.key, y)) reply_is has))

  given_of : (items : List Item) → Gave items → Contains (replies r.device items) (o.key, own_reply)
  given_of items has =
      subst (λ (d : ℕ). Contains (replies d items) (o.key, own_reply)) (sym device_is)
      (subst (λ (k : Key). Contains (replies a.device items) (k, own_reply)) (sym key_is) (subst (λ (y : Reply). Contains (replies a.device items) (record { channel = c; index = a.index }, y)) (sym reply_is) has))

  replied_one : Gave (reverse (journal a.device deeds))
  replied_one =
      subst (λ (d : ℕ). Gave (reverse (journal d deeds))) device_is
      (gave (reverse (journal r.device deeds)) (subst (λ (items : List Item). Contains (replies r.device items) (o.key, own_reply)) (sym all_stands)
      (is.grows r.device by_journal.earlier (Sent o.key ∷ later) [] (all_stands ∙ sym (append-nil (by_journal.earlier ++ Sent o.key ∷ later))) (o.key, own_reply) by_journal.given)))

  -- the request was read
  read_one : request_at (client_read c deeds) a.index ≡ Some (request_of_accepted a)
  read_one =
      let reads : client_read c deeds ≡ client_read c since ++ client_read c o.early = ap (client_read c) split ∙ filter_map-append (read_by_client c) since o.early in
      let found : request_at (client_read c o.early) a.index ≡ Some (request_of_accepted a) =
      subst (λ (k : ℕ). request_at (client_read c o.early) k ≡ Some (request_of_accepted a)) (sym own.0) (o.found ∙ ap (λ (y : Request). Some y) own.1) in
      subst (λ (ms : List (List ℕ)). request_at ms a.index ≡ Some (request_of_accepted a)) (sym reads) (request_since (request_of_accepted a) a.index (client_read c since) (client_read c o.early) found)

  uncut_one : (first last : List Item) (cause : Cause) → reverse (journal a.device deeds) ≡ first ++ Cut cause ∷ last → ¬ (Gave first) → ¬ (Gave (first ++ Cut cause ∷ []))
  uncut_one first last cause cut hasnt has =
      let both : by_journal.earlier ++ Sent o.key ∷ later ≡ first ++ Cut cause ∷ last =
      sym all_stands ∙ ap (λ (d : ℕ). reverse (journal d deeds)) device_is ∙ cut in
      elim (split_cases by_journal.earlier (Sent o.key ∷ later) first (Cut cause) last both) [
        | inl (zs, e, rest) ↦ hasnt (subst Gave (sym e) (gave (by_journal.earlier ++ zs) (is.grows r.device by_journal.earlier zs (Cut cause ∷ last) (ap (λ (d : ℕ). reverse (journal d deeds)) device_is ∙ cut ∙ ap (λ (ys : List Item). ys ++ Cut cause ∷ last) e) (o.key, own_reply) by_journal.given)))
        | inr (zs, e, rest) ↦ never_since (by_journal.cut first zs cause e (λ had. hasnt (gave first had)) (given_of (first ++ Cut cause ∷ []) has))
      ]

is_located : (client : ℕ) (deeds : List Deed) → Does client deeds → (a : Accepted) (reply : Reply) → (done : ClientCameTo client deeds a (Done reply))
    → (slice_get (accepted client deeds) (length done.earlier) ≡ Some a) × Located client deeds a.channel (length done.earlier) a reply
is_located client deeds may a reply done =
    let n : ℕ = length done.earlier in
    let placed = split_at done.earlier done.later a in
    let before : take n (accepted client deeds) ≡ done.earlier = ap (λ (xs : List Accepted). take n xs) done.accepted ∙ placed.1 in
    let ended : ended_in a (alike_before (take n (accepted client deeds)) a) (course_from (lives_before a.channel (calls_of client deeds))) (heard_on a.channel (calls_of client deeds)) ≡ Some (Done reply) =
    subst (λ (xs : List Accepted). ended_in a (alike_before xs a) (course_from (lives_before a.channel (calls_of client deeds))) (heard_on a.channel (calls_of client deeds)) ≡ Some (Done reply)) (sym before) (done_ended _ _ reply done.is) in
    (ap (λ (xs : List Accepted). slice_get xs n) done.accepted ∙ placed.0, located client deeds may a.channel n a reply ended)

pub replied : (client : ℕ) (replies : Replies) (deeds : List Deed) → AreJoined client replies deeds → Replied client replies deeds
replied client replies deeds is a reply done =
    let (at, there) = is_located client deeds is.host a reply done in
    let has = replied_one client replies deeds is a.channel (length done.earlier) a reply at refl there in
    record {
      read = read_one client replies deeds is a.channel (length done.earlier) a reply at refl there;
      given = record { has = has; alone = λ other given. is.once a.device (key_of a) reply other has given };
    }

pub uncut : (client : ℕ) (replies : Replies) (deeds : List Deed) → AreJoined client replies deeds → Uncut client replies deeds
uncut client replies deeds is a reply done =
    let (at, there) = is_located client deeds is.host a reply done in
    uncut_one client replies deeds is a.channel (length done.earlier) a reply at refl there
