-- A host's front gives back the message for which it has no room.
use Rattle.std.proofs.Common.{◌≡◌, ◌∙◌, ℕ, List, [], ◌∷◌, Bool, true, false, ap, sym, refl, subst}
use Rattle.std.specs.Prelude.{◌==◌, MatchBool, if◌then◌else◌, Result, Ok, Err}
use Rattle.rd_hello.specs.declared.end_fault.EndFault.{EndFault}
use Rattle.rd_hello.specs.declared.end_fault.EndFault.TheVariants as fault
use Rattle.rd_host.specs.declared.act.Act.{Act}
use Rattle.rd_host.specs.declared.act.Act.TheVariants as act
use Rattle.rd_pending.specs.declared.calls.CompleteNo.{CompleteNo}
use Rattle.rd_pending.specs.declared.calls.CompleteNo.TheVariants as complete_no
use Rattle.rd_pending.specs.declared.calls.Completed.{Completed}
use Rattle.rd_pending.specs.declared.calls.Completed.TheVariants.{Gave, Late}
use Rattle.rd_host_front.specs.declared.calls.HostFrontCall.{HostFrontCall}
use Rattle.rd_host_front.specs.declared.calls.HostFrontCall.TheVariants as call
use Rattle.rd_host_front.specs.declared.calls.HostFrontReply.{HostFrontReply}
use Rattle.rd_host_front.specs.declared.calls.HostFrontReply.TheVariants as reply
use Rattle.rd_host_front.specs.HostFront.{Declines, Follows, FollowsAnswer, HearsMessage, HostFrontStep, completed_as, done_if_found, has_many_unsent, is_channel_on}
use Rattle.rd_host_front.specs.State.{HostFrontState}
use Rattle.rd_turn.specs.History.{Leads, calls_of}
use Rattle.rd_host_channel.specs.Calls.{AllGiveBack, GivesBack, HostEntry}

-- whether a message comes back
abbrev is_full : {W : Type 0} → HostFrontReply W → Bool
is_full (reply.Full message) = true
is_full _ = false

-- none comes back where one was heard
completed_plain : (W : Type 0) (answer : Result Completed CompleteNo) (s : HostFrontState) → is_full {W = W} (completed_as answer s) ≡ false
completed_plain W (Ok (Gave number)) s = refl
completed_plain W (Ok (Late number)) s = refl
completed_plain W (Err (complete_no.Stray device id)) s = refl
completed_plain W (Err (complete_no.BodyBad bad)) s = refl
completed_plain W (Err complete_no.Memory) s = refl

found_plain : (W : Type 0) (found : Bool) (s : HostFrontState) → is_full {W = W} (done_if_found found s) ≡ false
found_plain W true s = refl
found_plain W false s = refl

module _ {W : Type 0} where
  follows_plain : (old : HostFrontState) (asks : Act) (back : HostFrontReply W) (new : HostFrontState) → Follows old asks back new → is_full back ≡ false
  follows_plain old act.Nothing back new did = ap is_full did.0
  follows_plain old (act.Complete head body) back new did = ap is_full did.2 ∙ completed_plain W did.0 new
  follows_plain old (act.Announced devices) back new did = ap is_full did.2 ∙ found_plain W did.0 new
  follows_plain old (act.Removed ids) back new did = ap is_full did.1

  answer_plain : (old : HostFrontState) (answer : Result Act EndFault) (back : HostFrontReply W) (new : HostFrontState) → FollowsAnswer old answer back new → is_full back ≡ false
  answer_plain old (Ok asks) back new did = follows_plain old asks back new did
  answer_plain old (Err fault.Memory) back new did = ap is_full did.0
  answer_plain old (Err (fault.Order state packet)) back new did = ap is_full did.0
  answer_plain old (Err (fault.Grammar bad)) back new did = ap is_full did.0

  plain_back : (channel : ℕ) (message : List ℕ) (back : HostFrontReply W) → is_full back ≡ false → GivesBack (call.Hear channel message) back
  plain_back channel message (reply.Full given) is = absurd (cc is)
  plain_back channel message (reply.First pass what) is = tt
  plain_back channel message (reply.Done woken full) is = tt
  plain_back channel message (reply.Wrong cause) is = tt
  plain_back channel message (reply.Stray device id) is = tt
  plain_back channel message (reply.BodyBad bad) is = tt
  plain_back channel message reply.Memory is = tt
  plain_back channel message reply.Over is = tt
  plain_back channel message (reply.Messages filled why) is = tt

  hear_back : (on many : Bool) (old new : HostFrontState) (channel : ℕ) (message : List ℕ) (back : HostFrontReply W)
      → MatchBool on (MatchBool many (Declines (reply.Full message) back old new) (HearsMessage old message back new)) (Declines reply.Over back old new) → GivesBack (call.Hear channel message) back
  hear_back true true old new channel message back did = subst (GivesBack (call.Hear channel message)) (sym did.0) refl
  hear_back true false old new channel message back did = plain_back channel message back (answer_plain did.1 did.0 back new did.3)
  hear_back false many old new channel message back did = subst (GivesBack (call.Hear channel message)) (sym did.0) tt

  pub step_back : (old new : HostFrontState) (does : HostFrontCall W) (back : HostFrontReply W) → HostFrontStep old does back new → GivesBack does back
  step_back old new (call.Hear channel message) back step = hear_back (is_channel_on old channel) (has_many_unsent old) old new channel message back step
  step_back old new (call.Begin channel first) back step = tt
  step_back old new (call.Next channel room) back step = tt
  step_back old new (call.DropChannel channel) back step = tt
  step_back old new (call.DropSent first anew) back step = tt

  kept_back : (own : Bool) (e : HostEntry W) (calls : List (HostEntry W)) → GivesBack e.call e.reply → AllGiveBack calls → AllGiveBack (if own then e ∷ calls else calls)
  kept_back true e calls one all = (one, all)
  kept_back false e calls one all = all

  -- so it is in each history
  pub history_back : (old new : HostFrontState) (entries : List (HostEntry W)) (number : ℕ) → Leads HostFrontStep old entries new → AllGiveBack (calls_of number entries)
  history_back old new [] number leads = tt
  history_back old new (e ∷ entries) number leads =
      kept_back (e.by == number) e (calls_of number entries) (step_back old leads.0 e.call e.reply leads.1) (history_back leads.0 new entries number leads.2)
