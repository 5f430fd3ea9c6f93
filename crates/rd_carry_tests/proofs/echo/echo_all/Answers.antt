use Rattle.std.proofs.Common.{ℕ, List, Option, subst}
use Rattle.std.specs.Io.KnownBytes.{Consumes}
use Rattle.rd_carry.proofs.IncomingLemmas.{stream_to_the_end}
use Rattle.rd_carry.proofs.OutgoingLemmas.{all_written}
use Rattle.rd_carry_tests.proofs.EchoLemmas.{consumed_on, none_waits, written_on}
use Rattle.rd_carry_tests.proofs.echo.echo_all.Goals as goal

-- The input was read to its end, and all that was put is written.
pub returns-then-not-branch : goal.returns-then-not-branch
returns-then-not-branch g c = record {
  echoed = λ bytes told sound.
      let echoes = c.in_ok-put_all.ensures.echoes in
      let reads = c.in_ok-read.ensures.read in
      let ended = reads.ended c.if-not-branch.true in
      let consumed = c.read.ensures.since c.args.input.now.left (consumed_on c.args.input.now.left c.loop.input c.put_all.new.input echoes.left echoes.read c.loop.invariant.consumed) in
      let wrote = written_on c.args.output.now.held c.loop.input c.put_all.new.input c.read.new.self c.loop.output c.put_all.new.output c.flush.new.self c.in_ok-read.field-0 echoes reads
      (c.flush.ensures.since c.args.output.now.held) c.loop.invariant.wrote in (
        c.read.new.self.messages,
        stream_to_the_end c.read.new.self bytes c.in_ok-read.ensures.heard ended.0 (subst (λ (o : Option (List ℕ)). Consumes o c.read.new.self.left c.read.new.self.read) told consumed) ended.1,
        all_written c.args.output.now.held c.read.new.self.messages c.flush.new.self wrote sound (none_waits c.put_all.new.output c.flush.new.self c.flush.ensures.flushed),
      );
}
