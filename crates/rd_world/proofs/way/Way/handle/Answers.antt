use Rattle.std.proofs.Common.{◌≡◌, Bool, false, List, [], ℕ, ◌+◌, ◌-◌, drop, take, ◌++◌, sym, ap, ◌∙◌, subst, Option}
use Rattle.std.specs.Prelude.{IsSome, if◌then◌else◌}
use Rattle.rd_world.specs.Ways.{AreCarried}
use Rattle.rd_world.specs.World.{WayState, handling}
use Rattle.rd_world.proofs.WayLemmas.{Cut, Fed, carried_slice, cut_at, given_fits, handled, no_bad, part_after, stays}
use Rattle.rd_world.proofs.way.Way.handle.Goals as goal
use Rattle.rd_world.proofs.way.Way.handle.Goals.{After-becoming-self-inside, After-feed}

-- what the joiner is fed
abbrev piece : After-feed → List ℕ
piece c = take (c.self.inside.read - c.self.inside.front) (drop c.self.inside.front c.deref.result.now)

going : (c : After-feed) → c.self.inside.ended ≡ false
going c = ap (λ (y : WayState). y.ended) c.self.view_is ∙ c.requires

carried : (c : After-feed) → AreCarried (c.self.inside.part.items ++ (piece c ++ drop c.self.inside.read c.self.inside.bytes.items))
carried c =
    let way = c.self.inside in
    let is = c.self.invariant in
    carried_slice way.front way.read way.bytes.items c.deref.result.now way.part.items is.front_within c.deref.ensures.value (is.carried (going c))

pub unreachable-requires : goal.unreachable-requires
unreachable-requires c =
    let way = c.self.inside in
    let f = (goal.at.unreachable-requires c).After-feed in
    let fault = rw (c.in-Err-Bad.is, c.in-Err-Bad.field-0-is) at c.feed.ensures.fault in
    no_bad way.joiner c.self.invariant.before way.part.items (piece f) (drop way.read way.bytes.items) fault.0 c.in-Err-Bad.field-0-0 c.self.invariant.stands (carried f) fault.2

-- what it is fed and what of it is taken, once that is done
abbrev whole : After-becoming-self-inside → List ℕ
whole c = take (c.self.inside.read - c.self.inside.front) (drop c.self.inside.front c.deref.result.now)

abbrev more : After-becoming-self-inside → List ℕ
more c = take (c.self.inside.front + c.in-Ok.count - c.self.inside.front) (drop c.self.inside.front c.deref-2.result.now)

-- the joiner took that, and gave a message or none
fed : (c : After-becoming-self-inside) → AreCarried (c.self.inside.part.items ++ (whole c ++ drop c.self.inside.read c.self.inside.bytes.items))
    → Fed c.self.inside.joiner c.feed.new.self c.take-message.new.self c.self.inside.part.items (whole c) (drop c.self.inside.read c.self.inside.bytes.items) c.in-Ok.count c.take-message.result
fed c are =
    let is = c.self.invariant in
    let part : List ℕ = c.self.inside.part.items in
    let taken : List ℕ = take c.in-Ok.count (whole c) in
    let takes = rw c.in-Ok.is at c.feed.ensures.takes in
    record {
      before = is.before;
      stands = is.stands;
      carried = are;
      within = rw c.in-Ok.is at c.feed.ensures.count;
      takes = takes;
      counts = rw c.in-Ok.is at c.feed.ensures.counts;
      all = λ less. subst (λ (o : Option (List ℕ)). IsSome o) (sym c.take-message.ensures.message) ((rw c.in-Ok.is at c.feed.ensures.all) less);
      whole = λ m. c.take-message.ensures.whole is.before (part ++ taken) m (takes is.before part is.stands);
      next = λ m e. (rw e at c.take-message.ensures.next) is.before (part ++ taken) (takes is.before part is.stands);
      none = λ e. rw e at c.take-message.ensures.none;
      taken = c.take-message.ensures.taken;
    }

cuts : (c : After-becoming-self-inside) → AreCarried (c.self.inside.part.items ++ (whole c ++ drop c.self.inside.read c.self.inside.bytes.items))
    → Cut c.self.inside.front c.self.inside.read c.in-Ok.count c.self.inside.bytes.items (whole c) (more c)
cuts c are =
    let way = c.self.inside in
    cut_at way.front way.read c.in-Ok.count way.bytes.items (whole c) (more c) c.self.invariant.front_within (fed c are).within
    (ap (λ (b : List ℕ). take (way.read - way.front) (drop way.front b)) c.deref.ensures.value)
    (ap (λ (b : List ℕ). take (way.front + c.in-Ok.count - way.front) (drop way.front b)) c.deref-2.ensures.value)

-- the part that the trace then holds
becomes : (c : After-becoming-self-inside) → c.becoming-self-inside.result.items ≡ part_after c.self.inside.part.items (more c) c.take-message.result
becomes c = c.becoming-self-inside.ensures ∙ ap (λ (b : Bool). if b then [] else c.self.inside.part.items ++ more c) c.is_some.ensures

pub invariant_of-self-2 : goal.invariant_of-self-2
invariant_of-self-2 c =
    let way = c.self.inside in
    let a = goal.at.invariant_of-self-2 c in
    let b = a.After-becoming-self-inside in
    let are = carried a.After-feed in
    stays way.joiner c.feed.new.self c.take-message.new.self way.front way.read c.in-Ok.count way.bytes.items way.part.items c.becoming-self-inside.result.items (whole b) (more b)
    c.take-message.result way.ended (cuts b are) (fed b are) (becomes b) (going a.After-feed) c.self.invariant.front_within c.self.invariant.read_within c.take-message.ensures.gone

pub returns-clause-handled : goal.returns-clause-handled
returns-clause-handled c =
    let way = c.self.inside in
    let a = goal.at.returns-clause-handled c in
    let b = a.After-becoming-self-inside in
    let are = carried a.After-feed in
    ap handling (sym c.self.view_is)
    ∙ handled way.joiner c.feed.new.self c.take-message.new.self way.front way.read c.in-Ok.count way.bytes.items way.part.items c.becoming-self-inside.result.items (whole b) (more b)
    c.take-message.result way.ended (cuts b are) (fed b are) (becomes b)

pub returns-clause-fits : goal.returns-clause-fits
returns-clause-fits c =
    let way = c.self.inside in
    let a = goal.at.returns-clause-fits c in
    let b = a.After-becoming-self-inside in
    given_fits way.joiner c.feed.new.self c.take-message.new.self way.part.items (whole b) (drop way.read way.bytes.items) c.in-Ok.count c.take-message.result (fed b (carried a.After-feed))
