use Rattle.std.proofs.Common.{◌≡◌, ◌≤◌, ℕ, ◌+◌, ◌-◌, ◌++◌, ◌∷◌, [], List, take, drop, sym, ◌∙◌, arith, length, None, subst, length-take, length-drop}
use Rattle.std.proofs.lemmas.Result.{err_from_is_err_and}
use Rattle.rd_chunk.proofs.TakesLemmas.{for_bad, at_piece}
use Rattle.rd_chunk.proofs.HasJoinedLemmas.{joined_on, joined_took, joined_fault, all_piece}
use Rattle.rd_chunk.specs.Standing.{Held, HasJoined, BringsFault}
use Rattle.rd_chunk.specs.Streams.{IsFaultOf}
use Rattle.rd_chunk.specs.declared.fault.ChunkBad.{ChunkBad}
use Rattle.rd_chunk.proofs.pieces.feed_whole.Goals as goal

pub returns-in_err-at-clause-fault : goal.returns-in_err-at-clause-fault
returns-in_err-at-clause-fault c =
    let p = err_from_is_err_and c.from_residual.result c.from_residual.ensures.1 in
    let old = c.loop-at.joiner in
    rw (p.1, p.2) (for_bad c.in_err-at.field-0.0
    (λ (bad : ChunkBad). (count : ℕ) × (count ≤ length (take (length c.args.piece.now - c.loop-at.at) (drop c.loop-at.at c.args.piece.now))) × BringsFault c.loop-at.joiner (take count (take (length c.args.piece.now - c.loop-at.at) (drop c.loop-at.at c.args.piece.now))) bad)
    (λ (bad : ChunkBad). (bytes : List ℕ) → HasJoined c.args.joiner.now c.args.messages.now.items bytes → IsFaultOf (bytes ++ c.args.piece.now) bad)
    (λ bad h bytes j. subst (λ (r : List ℕ). IsFaultOf r bad) (all_piece bytes c.args.piece.now c.loop-at.at h.0)
    (joined_fault c.loop-at.joiner c.loop-at.messages.items (bytes ++ take c.loop-at.at c.args.piece.now)
    (take h.0 (take (length c.args.piece.now - c.loop-at.at) (drop c.loop-at.at c.args.piece.now))) (drop h.0 (take (length c.args.piece.now - c.loop-at.at) (drop c.loop-at.at c.args.piece.now))) bad
    (c.loop-at.invariant.joined bytes j) h.2))
    c.in_err-at.ensures.fault)

pub loop-at-preserved-in_ok-push : goal.loop-at-preserved-in_ok-push
loop-at-preserved-in_ok-push c =
    let took = c.in-Some.ensures.next in
    let pushed : c.push.new.self.items ≡ c.loop-at.messages.items ++ c.in-Some.message ∷ [] = c.in_ok-push.ensures.items in
    record {
      in_piece = omega (arith, c.in_ok-at.ensures.count, length-take (length c.args.piece.now - c.loop-at.at) (drop c.loop-at.at c.args.piece.now), length-drop c.loop-at.at c.args.piece.now);
      none_waits = c.take.ensures.gone;
      joined = λ bytes j. subst (λ (r : List (List ℕ)). HasJoined c.take.new.self r (bytes ++ take (c.loop-at.at + c.in_ok-at.field-0) c.args.piece.now)) (sym pushed)
          (subst (HasJoined c.take.new.self (c.loop-at.messages.items ++ c.in-Some.message ∷ [])) (at_piece bytes c.args.piece.now c.loop-at.at c.in_ok-at.field-0)
          (joined_took c.loop-at.joiner c.feed.new.self c.take.new.self c.loop-at.messages.items c.in-Some.message (bytes ++ take c.loop-at.at c.args.piece.now)
          (take c.in_ok-at.field-0 (take (length c.args.piece.now - c.loop-at.at) (drop c.loop-at.at c.args.piece.now)))
          (c.loop-at.invariant.joined bytes j) c.in_ok-at.ensures.takes (sym c.take.ensures.message ∙ c.in-Some.is) took c.take.ensures.gone));
    }

pub loop-at-preserved : goal.loop-at-preserved
loop-at-preserved c =
    let none : c.take.result ≡ None = c.in_default.is in
    let same : c.take.new.self ≡ c.feed.new.self = c.in_default.ensures.none in
    record {
      in_piece = omega (arith, c.in_ok-at.ensures.count, length-take (length c.args.piece.now - c.loop-at.at) (drop c.loop-at.at c.args.piece.now), length-drop c.loop-at.at c.args.piece.now);
      none_waits = c.take.ensures.gone;
      joined = λ bytes j. subst (λ (h : Held). HasJoined h c.loop-at.messages.items (bytes ++ take (c.loop-at.at + c.in_ok-at.field-0) c.args.piece.now)) (sym same)
          (subst (HasJoined c.feed.new.self c.loop-at.messages.items) (at_piece bytes c.args.piece.now c.loop-at.at c.in_ok-at.field-0)
          (joined_on c.loop-at.joiner c.feed.new.self c.loop-at.messages.items (bytes ++ take c.loop-at.at c.args.piece.now)
          (take c.in_ok-at.field-0 (take (length c.args.piece.now - c.loop-at.at) (drop c.loop-at.at c.args.piece.now)))
          (c.loop-at.invariant.joined bytes j) c.in_ok-at.ensures.takes (sym c.take.ensures.message ∙ none)));
    }
