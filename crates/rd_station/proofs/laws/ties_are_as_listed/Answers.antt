use Rattle.std.proofs.Common.{refl, ap, inl, inr, List, ◌∷◌, [], arith}
use Rattle.std.proofs.lemmas.List.Elements.{All-head}
use Rattle.rd_base.specs.declared.journal.Item.TheVariants.{Cancelled}
use Rattle.rd_irp.specs.declared.completion.Kind.TheVariants as kind
use Rattle.rd_drive.specs.Replies.{IsAnswer, KeyedReply, cancellation, replies_by}
use Rattle.rd_station.specs.declared.answers.Completion.{Completion}
use Rattle.rd_station.specs.Tied.{IsTied}
use Rattle.rd_station.specs.Worked.{both_ready, counts_settled, counts_step, given_up, key, request_at}
use Rattle.rd_station.proofs.Members.{Has, all_of, from_contains, to_contains}
use Rattle.rd_station.proofs.laws.ties_are_as_listed.Goals as goal

-- the replies of the journal
abbrev replies : List KeyedReply
replies = replies_by counts_step counts_settled request_at 0 both_ready.journal

-- each of the two completions has one of them
answered : (x : Completion) → Has x both_ready.ready → IsAnswer replies both_ready.journal x.key x.reply
answered x (inl same) = inl (to_contains replies (x.key, x.reply) (inl (ap (λ (y : Completion). (y.key, y.reply)) same)))
answered x (inr (inl same)) = inl (to_contains replies (x.key, x.reply) (inr (inl (ap (λ (y : Completion). (y.key, y.reply)) same))))
answered x (inr (inr none)) = absurd none

-- none of them is a cancellation of the first key
no_reply : ¬ (Has (key 0, cancellation) replies)
no_reply (inl same) = omega (arith, ap (λ (r : KeyedReply). (r.0).index) same)
no_reply (inr (inl same)) = omega (arith, ap (λ (r : KeyedReply). (r.1).status.0) same)
no_reply (inr (inr none)) = none

-- nor is it cancelled before it ran
no_entry : ¬ (Has (Cancelled (key 0)) both_ready.journal)
no_entry (inl same) = cc (same)
no_entry (inr (inl same)) = cc (same)
no_entry (inr (inr (inl same))) = cc (same)
no_entry (inr (inr (inr (inl same)))) = cc (same)
no_entry (inr (inr (inr (inr none)))) = none

unanswered : ¬ (IsAnswer replies both_ready.journal (key 0) cancellation)
unanswered (inl has) = no_reply (from_contains replies (key 0, cancellation) has)
unanswered (inr is) = no_entry (from_contains both_ready.journal (Cancelled (key 0)) is.0)

pub returns : goal.returns
returns c = record {
  tied = record { marked = (tt, (tt, ((refl, λ starved. absurd (cc (starved))), ((refl, λ starved. absurd (cc (starved))), tt)))); device = refl; ready = all_of (λ (x : Completion). IsAnswer replies both_ready.journal x.key x.reply) both_ready.ready answered };
  other_state = λ (is : IsTied counts_step counts_settled request_at 0 (record both_ready { device = 3 })). omega (arith, is.device);
  other_reply = λ (is : IsTied counts_step counts_settled request_at 0 (record both_ready { ready = given_up 0 7 kind.Buffer ∷ [] })).
      unanswered (All-head (λ (x : Completion). IsAnswer replies both_ready.journal x.key x.reply) (given_up 0 7 kind.Buffer) [] is.ready);
}
