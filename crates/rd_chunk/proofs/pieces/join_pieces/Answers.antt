use Rattle.std.proofs.Common.{ℕ, ◌++◌, List, take, subst, rules}
use Rattle.std.specs.List.{concat}
use Rattle.std.proofs.lemmas.List.{take_all}
use Rattle.std.proofs.lemmas.Result.{err_from_is_err_and}
use Rattle.rd_chunk.proofs.TakesLemmas.{for_bad}
use Rattle.rd_chunk.proofs.HasJoinedLemmas.{pieces_on, piece_fault, only_memory, joined_stream, sent_are}
use Rattle.rd_chunk.specs.Standing.{HasJoined, ForFeedBad}
use Rattle.rd_chunk.specs.Streams.{IsStream, IsFaultOf}
use Rattle.rd_chunk.specs.declared.fault.ChunkBad.{ChunkBad}
use Rattle.rd_chunk.proofs.pieces.join_pieces.Goals as goal
use Rattle.rd_chunk.proofs.pieces.join_pieces.Goals.{After-drop-joiner-inside}

-- the returned fault is one of all pieces
fault_is : (c : After-drop-joiner-inside) → ForFeedBad (IsFaultOf (concat c.args.pieces.now)) c.in_err-feed_whole.field-0.0
fault_is c =
    for_bad c.in_err-feed_whole.field-0.0
    (λ (bad : ChunkBad). (bytes : List ℕ) → HasJoined c.loop-piece.joiner c.loop-piece.messages.items bytes → IsFaultOf (bytes ++ c.as_slice.result.now) bad)
    (IsFaultOf (concat c.args.pieces.now))
    (λ bad h. piece_fault c.args.pieces.now c.loop-piece.piece-index c.as_slice.result.now bad c.loop-piece-test.true (search rules)
    (h (concat (take c.loop-piece.piece-index c.args.pieces.now)) c.loop-piece.invariant.joined))
    c.in_err-feed_whole.ensures.fault

pub returns-in_err-feed_whole-clause-fault : goal.returns-in_err-feed_whole-clause-fault
returns-in_err-feed_whole-clause-fault c =
    let p = err_from_is_err_and c.from_residual.result c.from_residual.ensures.1 in
    rw (p.1, p.2) (fault_is c)

pub returns-in_err-feed_whole-clause-sent : goal.returns-in_err-feed_whole-clause-sent
returns-in_err-feed_whole-clause-sent c = λ messages carried.
    let p = err_from_is_err_and c.from_residual.result c.from_residual.ensures.1 in
    rw (p.1, p.2) (only_memory c.in_err-feed_whole.field-0.0 messages (concat c.args.pieces.now) carried (fault_is c))

pub loop-piece-preserved : goal.loop-piece-preserved
loop-piece-preserved c = record {
  none_waits = c.in_ok-feed_whole.ensures.none_waits;
  joined = subst (HasJoined c.feed_whole.new.joiner c.feed_whole.new.messages.items) (pieces_on c.args.pieces.now c.loop-piece.piece-index c.as_slice.result.now c.loop-piece-test.true (search rules))
      (c.in_ok-feed_whole.ensures.joined (concat (take c.loop-piece.piece-index c.args.pieces.now)) c.loop-piece.invariant.joined);
}

pub returns-clause-stream : goal.returns-clause-stream
returns-clause-stream c =
    subst (λ (r : List (List ℕ)). IsStream c.loop-piece.messages.items (concat r)) (take_all c.loop-piece.piece-index c.args.pieces.now c.loop-piece-test.false)
    (joined_stream c.loop-piece.joiner c.loop-piece.messages.items (concat (take c.loop-piece.piece-index c.args.pieces.now)) c.loop-piece.invariant.joined)

pub returns-clause-sent : goal.returns-clause-sent
returns-clause-sent c = λ messages carried. sent_are c.loop-piece.messages.items messages (concat c.args.pieces.now) (returns-clause-stream c) carried
