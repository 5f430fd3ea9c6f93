use Rattle.std.proofs.Common.{◌≡◌, ◌∙◌, sym, ap, ℕ, true, false, take, drop, add-one, ◌++◌}
use Rattle.std.specs.Prelude.{is_some}
use Rattle.rd_locks.specs.Locks.{wanted_locks, conflict}
use Rattle.rd_locks.proofs.WantedLemmas.{conflict-step, or_first, or_second}
use Rattle.rd_locks.proofs.locks.Locks.conflict.Goals as goal

pub returns-then-is_some : goal.returns-then-is_some
returns-then-is_some c =
    let found : is_some c.first-held.result ≡ true = sym c.is_some.ensures ∙ c.if-is_some.true in
    sym (c.loop-i.invariant
    ∙ conflict-step c.args.self.now.locks c.args.node c.args.file c.args.exclusive c.args.ranges.now c.loop-i.i c.loop-i-test.true
    ∙ or_first _ _ (ap is_some (sym c.first-held.ensures) ∙ found)
    ∙ sym c.first-held.ensures)

pub returns-then-is_some-2 : goal.returns-then-is_some-2
returns-then-is_some-2 c =
    let none : is_some c.first-held.result ≡ false = sym c.is_some.ensures ∙ c.if-is_some.false in
    let found : is_some c.first_wanted-earlier.result ≡ true = sym c.is_some-in-loop-i.ensures ∙ c.if-is_some-2.true in
    sym (c.loop-i.invariant
    ∙ conflict-step c.args.self.now.locks c.args.node c.args.file c.args.exclusive c.args.ranges.now c.loop-i.i c.loop-i-test.true
    ∙ or_second _ _ (ap is_some (sym c.first-held.ensures) ∙ none)
    ∙ or_first _ _ (ap is_some (sym c.first_wanted-earlier.ensures) ∙ found)
    ∙ sym c.first_wanted-earlier.ensures)

pub loop-i-preserved : goal.loop-i-preserved
loop-i-preserved c =
    let none : is_some c.first-held.result ≡ false = sym c.is_some.ensures ∙ c.if-is_some.false in
    let none_earlier : is_some c.first_wanted-earlier.result ≡ false = sym c.is_some-in-loop-i.ensures ∙ c.if-is_some-2.false in
    c.loop-i.invariant
    ∙ conflict-step c.args.self.now.locks c.args.node c.args.file c.args.exclusive c.args.ranges.now c.loop-i.i c.loop-i-test.true
    ∙ or_second _ _ (ap is_some (sym c.first-held.ensures) ∙ none)
    ∙ or_second _ _ (ap is_some (sym c.first_wanted-earlier.ensures) ∙ none_earlier)
    ∙ ap (λ (n : ℕ). conflict (c.args.self.now.locks ++ wanted_locks c.args.node c.args.file c.args.exclusive (take n c.args.ranges.now)) (wanted_locks c.args.node c.args.file c.args.exclusive (drop n c.args.ranges.now))) (sym (add-one c.loop-i.i))
