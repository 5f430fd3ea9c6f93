use Rattle.std.proofs.Common.{◌∙◌, false, [], ◌∷◌, ap, subst}
use Rattle.rd_irp.specs.declared.completion.Reply.{Reply}
use Rattle.rd_audit.specs.Kept.{GivesReplies}
use Rattle.rd_audit.specs.Replayed.{closes_file}
use Rattle.rd_audit.proofs.ReplayLemmas.{open_op, takes_starved}
use Rattle.rd_audit.proofs.replay.Replay.starve.Goals as goal

pub returns : goal.returns
returns c = record {
  taken = λ d r moment stands named is. takes_starved c.args.channels.now d c.args.key moment c.args.parked r c.args.self.now c.args.courses.now c.give.new.courses stands named
      c.if-parked.false (ap closes_file is ∙ open_op c.args.op.now c.in_default.not-Close)
      (subst (λ (reply : Reply). GivesReplies c.args.channels.now c.args.self.now.count false ((c.args.key, reply) ∷ []) c.args.courses.now c.give.new.courses) c.fault.ensures c.in_ok-give.ensures);
  refused = tt;
}
