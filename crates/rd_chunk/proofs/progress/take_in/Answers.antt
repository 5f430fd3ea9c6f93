use Rattle.std.proofs.Common.{◌≤◌, ℕ, ◌+◌, ◌++◌, List, take, drop, ap, ◌∙◌, arith, length, None, append_assoc, length-take, length-drop, ◌-◌, vec_len, ◌%◌, ◌^◌, add_assoc}
use Rattle.rd_chunk.proofs.StandsForLemmas.{count_on}
use Rattle.std.proofs.lemmas.Result.{err_from_is_err_and}
use Rattle.std.proofs.lemmas.Bool.{not_from_false}
use Rattle.rd_chunk.proofs.TakesLemmas.{takes_then, faults_then, for_bad, not_complete}
use Rattle.rd_chunk.specs.Standing.{BringsFault, is_complete}
use Rattle.rd_chunk.specs.Kept.{held_of}
use Rattle.rd_chunk.specs.declared.progress.Progress.{Progress}
use Rattle.rd_chunk.specs.declared.fault.ChunkBad.{ChunkBad}
use Rattle.rd_chunk.proofs.progress.take_in.Goals as goal

pub returns-in_err-at-clause-fault : goal.returns-in_err-at-clause-fault
returns-in_err-at-clause-fault c =
    let p = err_from_is_err_and c.from_residual.result c.from_residual.ensures.1 in
    let piece : List ℕ = c.args.piece.now in
    let rest : List ℕ = take (length piece - c.loop-at.at) (drop c.loop-at.at piece) in
    let first = held_of c.args.progress.now c.args.message.now.items None in
    let now = held_of c.loop-at.progress c.loop-at.message.items None in
    rw (p.1, p.2) (for_bad c.in_err-at.field-0.0 (λ (bad : ChunkBad). (count : ℕ) × (count ≤ length rest) × BringsFault now (take count rest) bad)
    (λ (bad : ChunkBad). (count : ℕ) × (count ≤ length piece) × BringsFault first (take count piece) bad)
    (λ bad h. (c.loop-at.at + h.0, omega (arith, h.1, length-take (length piece - c.loop-at.at) (drop c.loop-at.at piece), length-drop c.loop-at.at piece), faults_then first now piece c.loop-at.at h.0 bad c.loop-at.invariant.takes h.2))
    c.in_err-at.ensures.fault)

pub loop-at-preserved : goal.loop-at-preserved
loop-at-preserved c = record {
  in_piece = omega (arith, c.in_ok-at.ensures.count, length-take (length c.args.piece.now - c.loop-at.at) (drop c.loop-at.at c.args.piece.now), length-drop c.loop-at.at c.args.piece.now);
  in_range = c.in_ok-at.ensures.in_range;
  takes = takes_then (held_of c.args.progress.now c.args.message.now.items None) (held_of c.loop-at.progress c.loop-at.message.items None) (held_of c.step.new.progress c.step.new.message.items None)
      c.args.piece.now c.loop-at.at c.in_ok-at.field-0 c.loop-at.invariant.takes c.in_ok-at.ensures.takes;
  counts = c.in_ok-at.ensures.counts ∙ ap (λ (k : ℕ). (k + c.in_ok-at.field-0) % 2 ^ 64) c.loop-at.invariant.counts ∙ count_on (c.args.progress.now.taken + c.loop-at.at) c.in_ok-at.field-0 ∙ ap (λ (k : ℕ). k % 2 ^ 64) (add_assoc c.args.progress.now.taken c.loop-at.at c.in_ok-at.field-0);
  start = λ z. absurd (omega (arith, c.in_ok-at.ensures.count));
  complete = λ e.
      let z = c.loop-at.invariant.complete e in
      let same = c.loop-at.invariant.start z in
      absurd (not_complete c.is_done.result (is_complete c.args.progress.now.left (vec_len c.args.message.now) c.args.progress.now.length)
      (c.is_done.ensures ∙ ap (λ (k : ℕ). is_complete c.loop-at.progress.left k c.loop-at.progress.length) (c.len.ensures ∙ same.2)
      ∙ ap (λ (p : Progress). is_complete p.left (vec_len c.args.message.now) p.length) same.0) e (not_from_false c.is_done.result c.if-not-is_done.true));
  message = (c.loop-at.invariant.message.0 ++ c.step.ensures.message.0, c.step.ensures.message.1 ∙ ap (λ (r : List ℕ). r ++ c.step.ensures.message.0) c.loop-at.invariant.message.1 ∙ append_assoc c.args.message.now.items c.loop-at.invariant.message.0 c.step.ensures.message.0);
}
