use Rattle.std.proofs.Common.{◌∙◌, arith}
use Rattle.rd_world.proofs.ChoicesLemmas.{at_map, here_map, here_takes, here_where, length_listed, listed_in_turn, past_map, past_messages, past_takes, past_where}
use Rattle.rd_world.specs.Choices.{places}
use Rattle.rd_world.specs.declared.choices.Choice.TheVariants as choice
use Rattle.rd_world.proofs.choices.Choices.pick.Goals as goal

pub returns-then-index-client_reads : goal.returns-then-index-client_reads
returns-then-index-client_reads c =
    rw (listed_in_turn c.args.self.now)
    (past_map _ _ _ _ _ c.count-issues.ensures c.if-index-issues.false
    ∙ past_where _ _ _ _ _ c.from-host_sends.ensures c.if-index-host_sends.false
    ∙ here_where _ _ _ _ _ c.from-client_reads.ensures c.if-index-client_reads.true)

pub returns-then-index-client_sends : goal.returns-then-index-client_sends
returns-then-index-client_sends c =
    rw (listed_in_turn c.args.self.now)
    (past_map _ _ _ _ _ c.count-issues.ensures c.if-index-issues.false
    ∙ past_where _ _ _ _ _ c.from-host_sends.ensures c.if-index-host_sends.false
    ∙ past_where _ _ _ _ _ c.from-client_reads.ensures c.if-index-client_reads.false
    ∙ here_where _ _ _ _ _ c.from-client_sends.ensures c.if-index-client_sends.true)

pub returns-then-index-collects : goal.returns-then-index-collects
returns-then-index-collects c =
    rw (listed_in_turn c.args.self.now)
    (past_messages c.args.self.now _ _ _ _ _ c.count-issues.ensures c.if-index-issues.false c.from-host_sends.ensures c.if-index-host_sends.false
    c.from-client_reads.ensures c.if-index-client_reads.false c.from-client_sends.ensures c.if-index-client_sends.false
    ∙ here_map choice.Collect (places (c.args.self.now.collects)) _ _ _ c.pick-then-index-collects.ensures)

pub returns-then-index-host_reads : goal.returns-then-index-host_reads
returns-then-index-host_reads c =
    rw (listed_in_turn c.args.self.now)
    (past_messages c.args.self.now _ _ _ _ _ c.count-issues.ensures c.if-index-issues.false c.from-host_sends.ensures c.if-index-host_sends.false
    c.from-client_reads.ensures c.if-index-client_reads.false c.from-client_sends.ensures c.if-index-client_sends.false
    ∙ past_map _ _ _ _ _ c.count-collects.ensures c.if-index-collects.false
    ∙ here_where _ _ _ _ _ c.from-host_reads.ensures c.if-index-host_reads.true)

pub returns-then-index-takes : goal.returns-then-index-takes
returns-then-index-takes c =
    rw (listed_in_turn c.args.self.now)
    (past_messages c.args.self.now _ _ _ _ _ c.count-issues.ensures c.if-index-issues.false c.from-host_sends.ensures c.if-index-host_sends.false
    c.from-client_reads.ensures c.if-index-client_reads.false c.from-client_sends.ensures c.if-index-client_sends.false
    ∙ past_map _ _ _ _ _ c.count-collects.ensures c.if-index-collects.false
    ∙ past_where _ _ _ _ _ c.from-host_reads.ensures c.if-index-host_reads.false
    ∙ here_takes c.args.self.now _ _ _ c.pick_take.ensures)

pub pick-requires-2 : goal.pick-requires-2
pick-requires-2 c =
    omega (
      arith,
      length_listed c.args.self.now,
      c.count-issues.ensures,
      c.from-host_sends.ensures,
      c.from-client_reads.ensures,
      c.from-client_sends.ensures,
      c.count-collects.ensures,
      c.from-host_reads.ensures,
      c.takes-takes.ensures,
      c.requires,
    )

pub returns : goal.returns
returns c =
    rw (listed_in_turn c.args.self.now)
    (past_messages c.args.self.now _ _ _ _ _ c.count-issues.ensures c.if-index-issues.false c.from-host_sends.ensures c.if-index-host_sends.false
    c.from-client_reads.ensures c.if-index-client_reads.false c.from-client_sends.ensures c.if-index-client_sends.false
    ∙ past_map _ _ _ _ _ c.count-collects.ensures c.if-index-collects.false
    ∙ past_where _ _ _ _ _ c.from-host_reads.ensures c.if-index-host_reads.false
    ∙ past_takes c.args.self.now _ _ _ c.takes-takes.ensures c.if-index-takes.false
    ∙ at_map choice.Apply (places (c.args.self.now.full)) _ _ c.pick-2.ensures)
