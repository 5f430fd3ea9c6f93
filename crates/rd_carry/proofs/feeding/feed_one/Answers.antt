use Rattle.std.proofs.Common.{◌≡◌, ℕ, ◌<◌, ◌+◌, ◌^◌, List, take, drop, ◌++◌, length, sym, subst}
use Rattle.std.proofs.lemmas.List.{take-append-drop}
use Rattle.rd_chunk.specs.Standing.{Held, Takes}
use Rattle.rd_carry.specs.Incoming.{HasFirstFault, without_fault}
use Rattle.rd_carry.proofs.IncomingLemmas.{fault_found, given_is, joined_next, none_or, without_same}
use Rattle.rd_carry.proofs.feeding.feed_one.Goals as goal
use Rattle.rd_carry.proofs.feeding.feed_one.Goals.{After-take}

pub returns-in-Err-Bad-clause-fault : goal.returns-in-Err-Bad-clause-fault
returns-in-Err-Bad-clause-fault c = λ bad e sound messages bytes joined short.
    let found = rw (c.in-Err-Bad.is, c.in-Err-Bad.field-0-is) at c.feed.ensures.fault in
    let piece : List ℕ = c.args.piece.now in
    let same : c.in-Err-Bad.bad ≡ bad = cc in
    let split : take found.0 piece ++ drop found.0 piece ≡ piece = take-append-drop found.0 piece in
    subst (HasFirstFault messages (bytes ++ piece)) same
    (subst (λ (r : List ℕ). HasFirstFault messages (bytes ++ r) c.in-Err-Bad.bad) split
    (fault_found c.args.joiner.now messages bytes (take found.0 piece) (drop found.0 piece) c.in-Err-Bad.bad joined found.2
    (subst (λ (r : List ℕ). length bytes + length r < 2 ^ 64) (sym split) short)))

pub returns-in-Err-Bad-clause-failed : goal.returns-in-Err-Bad-clause-failed
returns-in-Err-Bad-clause-failed c = λ bad e.
    let is = c.in-Err-Bad.is in
    let field = c.in-Err-Bad.field-0-is in
    (c.feed.ensures.failed bad).1 cc

-- it took a prefix of the piece, and had met no fault
takes : (c : After-take) → Takes (without_fault c.args.joiner.now) c.feed.new.self (take c.in-Ok.count c.args.piece.now)
takes c =
    let is = c.in-Ok.is in
    let sound = none_or c.args.joiner.now.fault (λ bad e. let stays = (c.feed.ensures.stays bad e).0 in cc) in
    subst (λ (h : Held). Takes h c.feed.new.self (take c.in-Ok.count c.args.piece.now)) (sym (without_same c.args.joiner.now sound)) c.in-Ok.ensures.takes

-- the joiner that was fed had joined so much, and so has the one that a message was taken from
pub returns-clause-joined : goal.returns-clause-joined
returns-clause-joined c = λ messages bytes joined.
    joined_next (without_fault c.args.joiner.now) c.feed.new.self c.take.new.self messages bytes (take c.in-Ok.count c.args.piece.now) c.take.result joined (takes c)
    c.take.ensures.message (λ m e. rw e at c.take.ensures.next) (λ e. rw e at c.take.ensures.none) c.take.ensures.gone

pub returns-clause-given : goal.returns-clause-given
returns-clause-given c = λ messages bytes joined.
    given_is (without_fault c.args.joiner.now) c.feed.new.self messages bytes c.args.piece.now c.in-Ok.count c.take.result joined (takes c) c.take.ensures.message
