use Rattle.std.proofs.Common.{rules, ◌∙◌, sym, ◌<◌, Err, length, get_or, false}
use Rattle.std.proofs.lemmas.List.Sorted.{answers_always}
use Rattle.std.proofs.lemmas.Option.{slice_get-get_or}
use Rattle.rd_station.specs.declared.held.InHand.{InHand}
use Rattle.rd_station.proofs.Rising.{found_at, none_at, other_at, same_number, searched}
use Rattle.rd_station.proofs.held.place_of.Goals as goal

nobody : InHand
nobody = record { key = record { channel = 0; index = 0 }; completion = 0; removed = false }

pub returns-then-eq-clause-some : goal.returns-then-eq-clause-some
unfolding nobody
returns-then-eq-clause-some c =
    let ts = c.args.taken.now in
    let i = c.in-Ok.place in
    let low : i < length ts = c.in-Ok.ensures.bound in
    let at = slice_get-get_or ts i nobody low in
    (get_or ts i nobody, at, found_at ts c.args.key i (get_or ts i nobody) c.requires at (sym c.eq.ensures ∙ c.if-eq.true))

pub returns-else-eq-clause-none : goal.returns-else-eq-clause-none
unfolding nobody
returns-else-eq-clause-none c =
    let ts = c.args.taken.now in
    let i = c.in-Ok.place in
    let low : i < length ts = c.in-Ok.ensures.bound in
    let is = c.in-Ok.ensures.position (λ (t : InHand). t.key.index) (answers_always _ _ _ (λ f a r g h. search rules)) in
    let same = same_number (get_or ts i nobody).key.index c.args.key.index (is nobody) in
    other_at ts c.args.key i (get_or ts i nobody) c.requires (slice_get-get_or ts i nobody low) same (sym c.eq.ensures ∙ c.if-eq.false)

pub returns-in-Err-clause-none : goal.returns-in-Err-clause-none
returns-in-Err-clause-none c =
    let is = c.in-Err.ensures.position (λ (t : InHand). t.key.index) (answers_always _ _ _ (λ f a r g h. search rules)) in
    none_at c.args.taken.now c.args.key (searched c.args.taken.now c.args.key.index (Err c.in-Err.field-0) c.requires c.in-Err.ensures.bound is)
