use Rattle.std.proofs.Common.{List, ℕ, ◌∙◌, ap, refl, subst, sym}
use Rattle.std.specs.Io.KnownBytes.{Appends}
use Rattle.rd_base.specs.InMemory.{SinkState}
use Rattle.rd_cli.proofs.PlayingLemmas.{kept_bytes, played_as, whole_unrecorded}
use Rattle.rd_cli.proofs.playing.play_kept.Goals as goal

pub returns-in_default-write_all-clause-err : goal.returns-in_default-write_all-clause-err
returns-in_default-write_all-clause-err g c =
    let session = c.in-Ok.ensures.played in
    let same = kept_bytes _ _ _ (ap (λ (s : SinkState). s.held) c.new-kept.ensures) session.recorded.written in
    (whole_unrecorded c.args.script.now _ _ _ _ session.run (same ∙ sym c.bytes.ensures) c.in_default-write_all.ensures.prefix c.in_default-write_all.ensures.counted, c.requires.books)

pub returns-clause-played : goal.returns-clause-played
returns-clause-played g c =
    let session = c.in-Ok.ensures.played in
    let same = kept_bytes _ _ _ (ap (λ (s : SinkState). s.held) c.new-kept.ensures) session.recorded.written in
    let written = subst (λ (bytes : List ℕ). Appends (g.R.Sink.held c.args.recording.now) (g.R.Sink.held c.write_all.new.output) bytes) c.bytes.ensures c.in-Ok-write_all.ensures.written in
    played_as _ c.args.script.now _ _ _ _ c.in-Ok.world.deeds c.requires.script
    (record { world = c.in-Ok.world; run = session.run; did = refl; stored = c.in_ok-finish.ensures.stored; tells = c.in_ok-finish.ensures.told }) same
    (record { written = written; faultless = c.in-Ok-write_all.ensures.counted })
