-- Completions that pass tests answer their requests.
use Rattle.std.proofs.Common.{◌≡◌, refl, sym, ap, subst, ℕ, ◌<◌, ◌^◌, ◌==◌, ◌&&◌, ◌||◌, Bool, true, false, cond, List, [], ◌∷◌, ◌++◌, length, eqb-true, Some, ap₂, drop}
use Rattle.std.specs.List.{list_any}
use Rattle.std.proofs.lemmas.Bool.{and_parts}
use Rattle.rd_deeds.specs.Talk.{Deed, EachAfter, client_read, client_writes, completes, removed_in, request_at}
use Rattle.rd_deeds.specs.Told.{Answers, CompletesWith, RemovedSince, Replies}
use Rattle.rd_deeds.specs.Example.{Submission, completion}
use Rattle.rd_base.specs.declared.journal.Key.{Key}
use Rattle.rd_base.specs.declared.journal.Item.{Item}
use Rattle.rd_base.specs.declared.journal.Item.TheVariants.{Sent}
use Rattle.rd_base.specs.declared.status.Status.{Status}
use Rattle.rd_irp.specs.declared.completion.Head.{Head}
use Rattle.rd_irp.specs.declared.completion.Body.{Body}
use Rattle.rd_irp.specs.declared.completion.Reply.{Reply}
use Rattle.rd_irp.specs.declared.request.Request.{Request}
use Rattle.rd_irp.specs.Completion.{SpellsBody, completion_body, completion_head}
use Rattle.rd_irp.specs.Fits.{BodyFits, kind_of}
use Rattle.rd_irp.specs.Written.{IsBodyInRange, body_bytes, body_tail}
use Rattle.rd_irp.proofs.WrittenLemmas.{body_after_head, body_spelled, head_spelled}
use Rattle.rd_base.proofs.LayoutLemmas.{one_value}
use Rattle.rd_deeds.proofs.TestedJournals.{is_sent, sent_is}

-- ---- completions

-- each completion, and what was done before it
abbrev pub EachCompletion : (List Deed → Key → List ℕ → Type 0) → List Deed → Type 0
EachCompletion P [] = Unit {0}
EachCompletion P (completes key m ∷ before) = P before key m × EachCompletion P before
EachCompletion P (x ∷ before) = EachCompletion P before

pub each_answered : (replies : Replies) (deeds : List Deed) → EachCompletion (λ before key m. Answers replies before (completes key m)) deeds → EachAfter (Answers replies) deeds
each_answered replies [] each = tt
each_answered replies (completes key m ∷ before) each = (each.0, each_answered replies before each.1)
each_answered replies (x ∷ before) each = (tt, each_answered replies before each)

-- a completion that is written spells its reply
pub completes_with : (s : Submission) (reply : Reply) → let r = s.request in r.device < 2 ^ 32 → r.completion < 2 ^ 32 → (reply.status).0 < 2 ^ 32 → BodyFits (kind_of r.op) reply.status reply.body → IsBodyInRange reply.body
    → CompletesWith r reply (completion s reply)
completes_with s reply device id status fits in_range =
    let r = s.request in
    let head : Head = record { device = r.device; completion = r.completion; status = reply.status } in
    let kind = kind_of r.op in
    let field : List ℕ = body_bytes kind reply.body in
    record {
      head = rw (body_after_head head field) (head_spelled head field (length field) refl device id status);
      tail = body_tail kind reply.body;
      body = subst (SpellsBody kind reply.status reply.body (body_tail kind reply.body)) (sym (body_after_head head field)) (body_spelled kind reply.status reply.body fits in_range);
    }

-- ---- what is sent

abbrev pub before_sent : Key → List Item → List Item
before_sent key [] = []
before_sent key (x ∷ xs) = cond (is_sent key x) [] (x ∷ before_sent key xs)

abbrev pub after_sent : Key → List Item → List Item
after_sent key [] = []
after_sent key (x ∷ xs) = cond (is_sent key x) xs (after_sent key xs)

pub sent_parts : (key : Key) (items : List Item) → list_any (is_sent key) items ≡ true → items ≡ before_sent key items ++ Sent key ∷ after_sent key items
sent_parts key [] e = absurd (cc)
sent_parts key (x ∷ xs) e = go (is_sent key x) refl (sent_parts key xs) e
  where
    go : (b : Bool) → is_sent key x ≡ b → (list_any (is_sent key) xs ≡ true → xs ≡ before_sent key xs ++ Sent key ∷ after_sent key xs) → (b || list_any (is_sent key) xs) ≡ true
        → x ∷ xs ≡ cond b [] (x ∷ before_sent key xs) ++ Sent key ∷ cond b xs (after_sent key xs)
    go true is older e = ap (λ (y : Item). y ∷ xs) (sent_is key x is)
    go false isnt older e = ap (λ (ys : List Item). x ∷ ys) (older e)

-- ---- what is removed

-- the last removal of the device on the channel stands after the read of the request
abbrev pub RemovedLast : ℕ → Key → Request → List Deed → Type 0
RemovedLast device key r [] = ⊥
RemovedLast device key r (client_writes c m ∷ before) =
    cond (c == key.channel && list_any (λ id. id == device) (removed_in m)) (request_at (client_read key.channel before) key.index ≡ Some r) (RemovedLast device key r before)
RemovedLast device key r (x ∷ before) = RemovedLast device key r before

farther : (device : ℕ) (key : Key) (r : Request) (x : Deed) (before : List Deed) → RemovedSince device key r before → RemovedSince device key r (x ∷ before)
farther device key r x before (late, early, m, parts, gone, asked) = (x ∷ late, early, m, ap (λ (deeds : List Deed). x ∷ deeds) parts, gone, asked)

pub removed_since : (device : ℕ) (key : Key) (r : Request) (deeds : List Deed) → RemovedLast device key r deeds → RemovedSince device key r deeds
removed_since device key r [] last = absurd last
removed_since device key r (client_writes c m ∷ before) last = go (c == key.channel && list_any (λ id. id == device) (removed_in m)) refl (removed_since device key r before) last
  where
    go : (b : Bool) → (c == key.channel && list_any (λ id. id == device) (removed_in m)) ≡ b → (RemovedLast device key r before → RemovedSince device key r before)
        → cond b (request_at (client_read key.channel before) key.index ≡ Some r) (RemovedLast device key r before) → RemovedSince device key r (client_writes c m ∷ before)
    go true is older asked =
        let parts = and_parts _ _ is in
        ([], before, m, ap (λ (x : ℕ). client_writes x m ∷ before) (eqb-true c key.channel parts.0), parts.1, asked)
    go false isnt older last = farther device key r (client_writes c m) before (older last)
removed_since device key r (x ∷ before) last = farther device key r x before (removed_since device key r before last)

-- ---- one reply

-- what a message completes a request with is one reply
pub same_reply : (r : Request) (reply other : Reply) (m : List ℕ) → CompletesWith r reply m → CompletesWith r other m → other ≡ reply
same_reply r reply other m is is_other =
    let head_of : Status → Head = λ st. record { device = r.device; completion = r.completion; status = st } in
    let heads = one_value completion_head 0 m (head_of reply.status) (head_of other.status) (length (drop 16 m)) (length (drop 16 m)) is.head is_other.head in
    let same : other.status ≡ reply.status = sym (ap (λ (h : Head). h.status) heads.0) in
    let body = subst (λ (st : Status). SpellsBody (kind_of r.op) st other.body is_other.tail (drop 16 m)) same is_other.body in
    let bodies = one_value (completion_body (kind_of r.op) reply.status) 0 (drop 16 m) reply.body other.body is.tail is_other.tail is.body body in
    ap₂ (λ (st : Status) (b : Body). reply_of st b) same (sym bodies.0)
  where
    reply_of : Status → Body → Reply
    reply_of st b = record { status = st; body = b }
