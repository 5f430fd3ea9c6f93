-- What the calling thread of a host does, step by step.
use Rattle.std.proofs.Common.{◌≡◌, ◌∙◌, ◌++◌, ℕ, zero, suc, List, [], ◌∷◌, Bool, true, false, Option, Some, None, Result, Ok, Err, sym, ap, subst, refl}
use Rattle.std.specs.Prelude.{IfNone, IfSome, OnOk, is_some}
use Rattle.rd_turn.specs.History.{IsLegal, Leads, entry}
use Rattle.rd_turn.specs.Pass.{Called}
use Rattle.rd_turn.specs.declared.object.Entry.{Entry}
use Rattle.rd_turn.proofs.HistoryLemmas.{Leads-parted}
use Rattle.rd_host_channel.specs.Calls.{HostPass}
use Rattle.rd_host_front.specs.HostFront.{HostFrontStep}
use Rattle.rd_host_front.specs.Kept.{BeginsBack, DropsBack}
use Rattle.rd_host_front.specs.State.{HostFrontState, PassOfTable}
use Rattle.rd_host_front.specs.declared.calls.HostFrontCall.{HostFrontCall}
use Rattle.rd_host_front.specs.declared.calls.HostFrontCall.TheVariants as call
use Rattle.rd_host_front.specs.declared.calls.HostFrontReply.{HostFrontReply}
use Rattle.rd_host_front.proofs.PassLemmas.{begin_back, drop_back}
use Rattle.rd_host_front.proofs.ReplyLemmas.{IsReplied}
use Rattle.rd_pending.specs.declared.calls.Stage.{Stage}
use Rattle.rd_table.specs.declared.calls.PendingCall.TheVariants as ask
use Rattle.rd_table.specs.declared.calls.PendingReply.{PendingReply}
use Rattle.rd_table.specs.declared.calls.PendingReply.TheVariants as answer
use Rattle.rd_host_player.specs.Play.{AtControl, Issued, PlayState, Ran}

-- ---- options and results

-- What holds of a value, where it is one.
pub of_some : {A : Type 0} (P : A → Type 0) (o : Option A) (x : A) → o ≡ Some x → IfSome o P → P x
of_some {A} P o x is p = subst (λ (o : Option A). IfSome o P) is p

-- What holds where there is none, where there is none.
pub of_none : {A : Type 0} (P : Type 0) (o : Option A) → o ≡ None → IfNone o P → P
of_none {A} P o is p = subst (λ (o : Option A). IfNone o P) is p

pub is_value : {A : Type 0} (o : Option A) → is_some o ≡ true → (x : A) × (o ≡ Some x)
is_value (Some x) is = (x, refl)
is_value None is = absurd cc

pub is_no_value : {A : Type 0} (o : Option A) → is_some o ≡ false → o ≡ None
is_no_value (Some x) is = absurd cc
is_no_value None is = refl

-- What follows of it holds too.
pub if_some_map : {A : Type 0} {P Q : A → Type 0} (o : Option A) → IfSome o P → ((x : A) → P x → Q x) → IfSome o Q
if_some_map (Some x) p f = f x p
if_some_map None p f = tt

pub if_none_map : {A : Type 0} {P Q : Type 0} (o : Option A) → IfNone o P → (P → Q) → IfNone o Q
if_none_map (Some x) p f = tt
if_none_map None p f = f p

pub on_ok_map : {T E P Q : Type 0} (r : Result T E) → OnOk r P → (P → Q) → OnOk r Q
on_ok_map (Ok x) p f = f p
on_ok_map (Err e) p f = tt

-- ---- calls

-- What a look at the table is answered with.
pub stands_reply : (r : PendingReply) → IsReplied ask.Stage r → (stage : Stage) × (r ≡ answer.Stands stage)
stands_reply (answer.Begun x) is = absurd (is.step).0
stands_reply (answer.Lives x) is = absurd (is.step).0
stands_reply (answer.Submitted x) is = absurd (is.step).0
stands_reply answer.Unfit is = absurd (is.step).0
stands_reply (answer.Sent x) is = absurd (is.step).0
stands_reply (answer.Completed x) is = absurd (is.step).0
stands_reply (answer.Removed x) is = absurd (is.step).0
stands_reply answer.Dropped is = absurd (is.step).0
stands_reply (answer.DroppedSent x) is = absurd (is.step).0
stands_reply (answer.Taken x) is = absurd (is.step).0
stands_reply (answer.Stands stage) is = (stage, refl)

module _ {W : Type 0} where
  -- the step of the front that a call of a pass is
  front_step : (a : HostFrontState) (p q : HostPass HostFrontState W) (does : HostFrontCall W) (back : HostFrontReply W) → Called p does back q → IsLegal HostFrontStep a q.seen
      → (before : HostFrontState) × (after : HostFrontState) × HostFrontStep before does back after
  front_step a p q does back (added, is, others) (last, leads) =
      let parted = Leads-parted HostFrontStep a (p.seen ++ added) (entry p.number does back ∷ []) last (subst (λ (es : List (Entry (HostFrontCall W) (HostFrontReply W))). Leads HostFrontStep a es last) is leads) in
      (parted.0, parted.2.0, parted.2.1)

  -- Pass 0 of the table comes back from a call by which a channel is to begin, and from one by which it is to end.
  pub back_from_begin : (a : HostFrontState) (p q : HostPass HostFrontState W) (channel : ℕ) (first : PassOfTable) (back : HostFrontReply W) → first.number ≡ 0
      → Called p (call.Begin channel first) back q → IsLegal HostFrontStep a q.seen → (old : HostFrontState) × (new : HostFrontState) × BeginsBack first old back new
  back_from_begin a p q channel first back none called legal =
      let step = front_step a p q (call.Begin channel first) back called legal in (step.0, step.1, begin_back step.0 channel first back step.1 none step.2)

  pub back_from_drop : (a : HostFrontState) (p q : HostPass HostFrontState W) (first : PassOfTable) (anew : Bool) (back : HostFrontReply W) → first.number ≡ 0
      → Called p (call.DropSent first anew) back q → IsLegal HostFrontStep a q.seen → (old : HostFrontState) × (new : HostFrontState) × DropsBack anew first old back new
  back_from_drop a p q first anew back none called legal =
      let step = front_step a p q (call.DropSent first anew) back called legal in (step.0, step.1, drop_back step.0 first anew back step.1 none step.2)

-- ---- lines

module _ {F W : Type 0} where
  -- Runs leave the lines as they are.
  ran_lines : (n : ℕ) (old new : PlayState F W) → Ran n old new → new.lines ≡ old.lines
  ran_lines zero old new is = ap (λ (s : PlayState F W). s.lines) is
  ran_lines (suc n) old new (here, ran, runs) = ap (λ (s : PlayState F W). s.lines) runs.2 ∙ ran_lines n old here ran

  -- Once lines were issued the next one is the calling thread's.
  pub issued_at : (old new : PlayState F W) → Issued old new → AtControl new.lines
  issued_at old new (lines, times, here, came, control, ran) = subst AtControl (sym (ran_lines (suc times) here new ran)) control
