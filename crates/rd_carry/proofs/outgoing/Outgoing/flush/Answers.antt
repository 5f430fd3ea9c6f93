use Rattle.std.proofs.Common.{◌≡◌, sym, subst}
use Rattle.std.specs.Io.KnownBytes.{Appends}
use Rattle.rd_base.specs.Prefixes.{AppendsPrefix}
use Rattle.rd_carry.specs.Outgoing.{HasWritten}
use Rattle.rd_carry.proofs.OutgoingLemmas.{sound_before, written_flush}
use Rattle.rd_carry.proofs.outgoing.Outgoing.flush.Goals as goal

-- All that waited was written, or a prefix of it.
pub returns-clause-since : goal.returns-clause-since
returns-clause-since g c = λ began messages w.
    let half = c.self.inside in
    let wrote = c.write_or_hang_up.ensures in
    let held = g.K.Sink.held half.sink in
    let held' = g.K.Sink.held c.write_or_hang_up.new.sink in
    let is = c.as_slice.ensures.value in
    let sound = λ (none : g.K.Sink.faults c.write_or_hang_up.new.sink ≡ 0). sound_before half.failed c.write_or_hang_up.new.failed (g.K.Sink.faults half.sink) (g.K.Sink.faults c.write_or_hang_up.new.sink) c.self.invariant.failed_is wrote.counted none in
    written_flush began messages _ _ (subst (HasWritten began messages) (sym c.self.view_is) w) c.clear.ensures.items
    (subst (AppendsPrefix held held') is wrote.prefix) (λ none. subst (Appends held held') is (wrote.all (sound none).0)) (λ none. (sound none).1)
    (λ faulty. c.self.invariant.over (c.self.invariant.failed_is.1 faulty))
