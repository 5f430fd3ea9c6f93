-- A reply that came of a request has the layout of its operation's completion.
use Rattle.std.proofs.Common.{◌≡◌, ◌∙◌, refl, sym, ap, subst, ℕ, Bool, true, false, cond, List, [], ◌∷◌, length, Some, None, Ok, Err, Option, Result}
use Rattle.std.specs.Prelude.{MatchBool, ◌==◌, ◌&&◌, filter}
use Rattle.std.specs.Option.{option_or}
use Rattle.rd_base.specs.declared.bad.Bad.{Bad}
use Rattle.rd_base.specs.declared.journal.Cause.TheVariants.{Removed, Dropped}
use Rattle.rd_base.specs.declared.status.Status.{Status}
use Rattle.rd_base.specs.Fields.{missing_pad, number8, number32}
use Rattle.rd_base.specs.Layout.{Layout, and_then, any_bytes, choose, done, met, ◌>>=◌}
use Rattle.rd_base.specs.Position.{Position, at_start}
use Rattle.rd_irp.specs.declared.completion.Body.{Body}
use Rattle.rd_irp.specs.declared.completion.Body.TheVariants.{Buffer, Closed, Count, Created, Fault, Locked}
use Rattle.rd_irp.specs.declared.completion.Head.{Head}
use Rattle.rd_irp.specs.declared.completion.Kind.{Kind}
use Rattle.rd_irp.specs.declared.completion.Kind.TheVariants as kind
use Rattle.rd_irp.specs.declared.completion.Reply.{Reply}
use Rattle.rd_irp.specs.Completion.{completion_body, success_body}
use Rattle.rd_irp.specs.Fits.{IsOfKind, kind_of}
use Rattle.rd_pending.specs.declared.calls.Outcome.{Outcome}
use Rattle.rd_pending.specs.declared.calls.Outcome.TheVariants.{Done, Lost}
use Rattle.rd_pending.specs.Known.{IsReplyOf}
use Rattle.rd_pending.specs.Outcomes.{Accepted, Course, Tidings, begins, completes, ended_by, ended_in, going_on, head_has_pair, is_in_life, removes, reply_in}

-- what is met after a layout's value
then_met : {A B : Type 0} (l : Layout A) (next : A → Layout B) (p : Position) (b : B) (q : Position) → met (l >>= next) p ≡ Ok (b, q) → (x : A × Position) × (met (next x.0) x.1 ≡ Ok (b, q))
then_met {A} {B} l next p b q is = go (met l p) is
  where
    go : (r : Result (A × Position) Bad) → and_then r (λ x. met (next x.0) x.1) ≡ Ok (b, q) → (x : A × Position) × (met (next x.0) x.1 ≡ Ok (b, q))
    go (Ok x) is = (x, is)
    go (Err bad) is = absurd (cc is)

-- the body that is met, where one is
abbrev body_in : Result (Body × Position) Bad → Body
body_in (Ok read) = read.0
body_in (Err bad) = Fault

of_kind : (k : Kind) (p : Position) (b : Body) (q : Position) → met (success_body k) p ≡ Ok (b, q) → IsOfKind k b
unfolding success_body
of_kind kind.Create p b q is =
    let one = then_met number32 (λ file. number8 >>= λ information. done (Created file information)) p b q is in
    let two = then_met number8 (λ information. done (Created one.0.0 information)) one.0.1 b q one.1 in
    let e : Created one.0.0 two.0.0 ≡ b = ap body_in two.1 in
    subst (IsOfKind kind.Create) e tt
of_kind kind.Close p b q is =
    let one = then_met (missing_pad 4) (λ u. done Closed) p b q is in
    let e : Closed ≡ b = ap body_in one.1 in
    subst (IsOfKind kind.Close) e tt
of_kind kind.Count p b q is =
    let one = then_met number32 (λ count. missing_pad 1 >>= λ u. done (Count count)) p b q is in
    let two = then_met (missing_pad 1) (λ u. done (Count one.0.0)) one.0.1 b q one.1 in
    let e : Count one.0.0 ≡ b = ap body_in two.1 in
    subst (IsOfKind kind.Count) e tt
of_kind kind.Buffer p b q is =
    let one = then_met number32 (λ count. any_bytes count >>= λ bytes. done (Buffer bytes)) p b q is in
    let two = then_met (any_bytes one.0.0) (λ bytes. done (Buffer bytes)) one.0.1 b q one.1 in
    let e : Buffer two.0.0 ≡ b = ap body_in two.1 in
    subst (IsOfKind kind.Buffer) e tt
of_kind kind.Lock p b q is =
    let one = then_met (missing_pad 5) (λ u. done Locked) p b q is in
    let e : Locked ≡ b = ap body_in one.1 in
    subst (IsOfKind kind.Lock) e tt

of_body : (k : Kind) (status : Status) (p : Position) (b : Body) (q : Position) → met (completion_body k status) p ≡ Ok (b, q) → MatchBool (status.0 == 0) (IsOfKind k b) (b ≡ Fault)
unfolding completion_body
of_body k status p b q is = go (status.0 == 0) is
  where
    go : (success : Bool) → met (choose success (success_body k) (done Fault)) p ≡ Ok (b, q) → MatchBool success (IsOfKind k b) (b ≡ Fault)
    go true is = of_kind k p b q is
    go false is = sym (ap body_in is)

-- ---- what was heard

of_reply : (a : Accepted) (head : Head) (bytes : List ℕ) (reply : Reply) → reply_in a head bytes ≡ Some (Done reply) → IsReplyOf (kind_of a.op) reply
of_reply a head bytes reply came = go (met (completion_body (kind_of a.op) head.status) (at_start bytes)) refl
  where
    go : (r : Result (Body × Position) Bad) → met (completion_body (kind_of a.op) head.status) (at_start bytes) ≡ r → IsReplyOf (kind_of a.op) reply
    go (Err bad) e = let none : reply_in a head bytes ≡ None = rw e refl in absurd (cc (none, came))
    go (Ok read) e =
        let some : reply_in a head bytes ≡ Some (Done (record { status = head.status; body = read.0 })) = rw e refl in
        let is : (record { status = head.status; body = read.0 }) ≡ reply = cc (some, came) in
        subst (IsReplyOf (kind_of a.op)) is (of_body (kind_of a.op) head.status (at_start bytes) read.0 read.1 e)

of_end : (a : Accepted) (before : ℕ) (c : Course) (h : Tidings) (reply : Reply) → ended_by a before c h ≡ Some (Done reply) → IsReplyOf (kind_of a.op) reply
of_end a before c (begins device) reply came = absurd (cc came)
of_end a before c (removes device) reply came = go (device == a.device && is_in_life c a) came
  where
    go : (b : Bool) → cond b (Some (Lost Removed)) None ≡ Some (Done reply) → IsReplyOf (kind_of a.op) reply
    go true came = absurd (cc came)
    go false came = absurd (cc came)
of_end a before c (completes head bytes) reply came = go (head_has_pair a.device a.id head && length (filter (head_has_pair a.device a.id) c.heads) == before) came
  where
    go : (b : Bool) → cond b (reply_in a head bytes) None ≡ Some (Done reply) → IsReplyOf (kind_of a.op) reply
    go true came = of_reply a head bytes reply came
    go false came = absurd (cc came)

pub of_request : (a : Accepted) (before : ℕ) (c : Course) (heard : List Tidings) (ended : Bool) (reply : Reply)
    → option_or (ended_in a before c heard) (cond ended (Some (Lost Dropped)) None) ≡ Some (Done reply) → IsReplyOf (kind_of a.op) reply
of_request a before c [] true reply came = absurd (cc came)
of_request a before c [] false reply came = absurd (cc came)
of_request a before c (h ∷ heard) ended reply came = go (of_request a before (going_on c h) heard ended reply) (ended_by a before c h) refl came
  where
    go : (option_or (ended_in a before (going_on c h) heard) (cond ended (Some (Lost Dropped)) None) ≡ Some (Done reply) → IsReplyOf (kind_of a.op) reply)
        → (o : Option Outcome) → ended_by a before c h ≡ o
        → option_or (option_or o (ended_in a before (going_on c h) heard)) (cond ended (Some (Lost Dropped)) None) ≡ Some (Done reply) → IsReplyOf (kind_of a.op) reply
    go later None e came = later came
    go later (Some o) e came = of_end a before c h reply (e ∙ came)
