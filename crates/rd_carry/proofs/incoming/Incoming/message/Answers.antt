use Rattle.std.proofs.Common.{◌≡◌, ℕ, ◌+◌, ◌-◌, arith, List, length, take, drop, sym, ap, subst, ◌∙◌, Option, None}
use Rattle.std.specs.Int.{from_bool}
use Rattle.std.specs.Option.{option_to_list}
use Rattle.rd_chunk.specs.Standing.{Held}
use Rattle.rd_carry.specs.Incoming.{IsIncoming}
use Rattle.rd_carry.proofs.IncomingLemmas.{fault_fed, fault_kept, hands_nothing, hands_out, heard_of, heard_small, kept_fault, kept_next, none_or, one_if_given, piece_is}
use Rattle.rd_carry.proofs.incoming.Incoming.message.Goals as goal

-- No message: the joiner is as it was, but for a fault.
pub invariant_of-self : goal.invariant_of-self
invariant_of-self g c =
    let half = c.self.inside in
    let k = c.self.invariant in
    let no = c.in_err-count.field-0.0 in
    let was = c.in_err-count.was in
    let fed = c.feed_one.ensures in
    kept_fault half.joiner c.feed_one.new.joiner half.buffer.items half.front half.end half.count half.heard half.read.items half.messages.items k c.in_err-count.ensures.err
    (fault_kept half.joiner.fault c.feed_one.new.joiner.fault half.read.items half.messages.items no
    (λ bad e. fed.failed bad (cc))
    (λ bad e none. fault_fed half.joiner half.buffer.items (take (half.end - half.front) (drop half.front c.as_slice.result.now)) half.front half.end half.count half.heard half.read.items half.messages.items bad k
    (piece_is half.front half.end half.buffer.items c.as_slice.result.now k.front_within c.as_slice.ensures.value) (fed.fault bad (cc) none half.messages.items k.handled) none)
    (λ bad e. ap (λ (h : Held). h.fault) (fed.stays bad e).1)
    (λ e. ap (λ (h : Held). h.fault) (fed.memory (cc)))
    (λ e. fed.no_read.0 cc)
    (λ e. fed.no_read.1 cc)
    k.faulty)

pub returns-in_err-count-clause-heard : goal.returns-in_err-count-clause-heard
returns-in_err-count-clause-heard g c = heard_of _ _ _ _ _ _ _ _ _ _ (invariant_of-self g c)

-- fewer messages than bytes
pub overflow_add-self-2 : goal.overflow_add-self-2
overflow_add-self-2 g c =
    let half = c.self.inside in
    let few = heard_small half.joiner half.buffer.items half.front half.end half.count half.heard half.read.items half.messages.items c.self.invariant in
    let one = c.from.ensures in
    grind (arith, few, one)

-- What was taken is handled, and the message handed out, if there is one.
pub invariant_of-self-2 : goal.invariant_of-self-2
invariant_of-self-2 g c =
    let half = c.self.inside in
    let k = c.self.invariant in
    let message : Option (List ℕ) = c.in_ok-count.message in
    let one : c.from.result ≡ length (option_to_list message) = c.from.ensures ∙ ap from_bool c.is_some.ensures ∙ one_if_given message in
    subst (λ (n : ℕ). IsIncoming c.feed_one.new.joiner half.buffer.items (half.front + c.in_ok-count.count) half.end half.count (half.heard + n) half.read.items c.becoming-self-inside.result.items) (sym one)
    (subst (λ (ms : List (List ℕ)). IsIncoming c.feed_one.new.joiner half.buffer.items (half.front + c.in_ok-count.count) half.end half.count (half.heard + length (option_to_list message)) half.read.items ms)
    (sym c.becoming-self-inside.ensures)
    (kept_next half.joiner c.feed_one.new.joiner half.buffer.items (take (half.end - half.front) (drop half.front c.as_slice.result.now)) half.front half.end c.in_ok-count.count half.count half.heard
    half.read.items half.messages.items message k (piece_is half.front half.end half.buffer.items c.as_slice.result.now k.front_within c.as_slice.ensures.value)
    c.in_ok-count.ensures.count (c.in_ok-count.ensures.joined half.messages.items k.handled k.joined)))

pub returns-clause-heard : goal.returns-clause-heard
returns-clause-heard g c = heard_of _ _ _ _ _ _ _ _ _ _ (invariant_of-self-2 g c)

pub returns-clause-some : goal.returns-clause-some
returns-clause-some g c =
    let half = c.self.inside in
    let k = c.self.invariant in
    let is = c.in_ok-count.was in
    let joined = c.in_ok-count.ensures.joined half.messages.items k.handled k.joined in
    let sound : half.joiner.fault ≡ None = none_or half.joiner.fault (λ bad e. let stays = (c.feed_one.ensures.stays bad e).0 in cc) in
    rw (← c.self.view_is) (hands_out (g.S.Source.left half.source) (g.S.Source.faults half.source) half.joiner.fault c.feed_one.new.joiner.fault half.buffer.items
    (take (half.end - half.front) (drop half.front c.as_slice.result.now)) half.front half.end c.in_ok-count.count half.read.items half.messages.items c.becoming-self-inside.result.items c.in_ok-count.message
    (joined.stands.no_fault ∙ sym sound) c.becoming-self-inside.ensures (piece_is half.front half.end half.buffer.items c.as_slice.result.now k.front_within c.as_slice.ensures.value)
    c.in_ok-count.ensures.count (c.in_ok-count.ensures.given half.messages.items k.handled k.joined))

pub returns-clause-none : goal.returns-clause-none
returns-clause-none g c =
    let half = c.self.inside in
    let k = c.self.invariant in
    let is = c.in_ok-count.was in
    let joined = c.in_ok-count.ensures.joined half.messages.items k.handled k.joined in
    let sound : half.joiner.fault ≡ None = none_or half.joiner.fault (λ bad e. let stays = (c.feed_one.ensures.stays bad e).0 in cc) in
    rw (← c.self.view_is) (hands_nothing (g.S.Source.left half.source) (g.S.Source.faults half.source) half.joiner.fault c.feed_one.new.joiner.fault half.buffer.items
    (take (half.end - half.front) (drop half.front c.as_slice.result.now)) half.front half.end c.in_ok-count.count half.read.items half.messages.items c.becoming-self-inside.result.items c.in_ok-count.message
    (joined.stands.no_fault ∙ sym sound) c.becoming-self-inside.ensures (piece_is half.front half.end half.buffer.items c.as_slice.result.now k.front_within c.as_slice.ensures.value)
    c.in_ok-count.ensures.all)

-- a joiner that took bytes has met no fault
pub returns-clause-fault : goal.returns-clause-fault
returns-clause-fault g c = λ bad.
    let joined = c.in_ok-count.ensures.joined c.self.inside.messages.items c.self.invariant.handled c.self.invariant.joined in
    let sound = joined.stands.no_fault in
    (λ e. absurd cc, λ e. absurd cc)
