use Rattle.std.proofs.Common.{ap, ℕ, length, arith, List}
use Rattle.rd_drive.proofs.NameBelowLemmas.{one_up}
use Rattle.rd_drive.proofs.telling.+length_below.Goals as goal

pub length_below-requires : goal.length_below-requires
length_below-requires t c =
    let up = one_up c.args.tree.now c.requires.is_whole c.args.folder.0 c.args.parent.0 c.requires.folder c.requires.parent c.if-parent-folder.false c.requires.below c.parent.result.0 c.parent.ensures.above c.name.result.now c.args.name.now c.name.ensures.last in
    (omega (arith, up.less), (c.requires.is_whole, (c.requires.folder, (c.parent.ensures.live, (up.above, omega (arith, up.len))))))

pub overflow_add-result : goal.overflow_add-result
overflow_add-result t c =
    let up = one_up c.args.tree.now c.requires.is_whole c.args.folder.0 c.args.parent.0 c.requires.folder c.requires.parent c.if-parent-folder.false c.requires.below c.parent.result.0 c.parent.ensures.above c.name.result.now c.args.name.now c.name.ensures.last in
    omega (arith, up.len)

pub overflow_cast-result-2 : goal.overflow_cast-result-2
overflow_cast-result-2 t c =
    let up = one_up c.args.tree.now c.requires.is_whole c.args.folder.0 c.args.parent.0 c.requires.folder c.requires.parent c.if-parent-folder.false c.requires.below c.parent.result.0 c.parent.ensures.above c.name.result.now c.args.name.now c.name.ensures.last in
    omega (arith, up.len, ap (λ (l : List ℕ). length l) c.as_slice-units.ensures)

pub overflow_add-result-2 : goal.overflow_add-result-2
overflow_add-result-2 t c =
    let up = one_up c.args.tree.now c.requires.is_whole c.args.folder.0 c.args.parent.0 c.requires.folder c.requires.parent c.if-parent-folder.false c.requires.below c.parent.result.0 c.parent.ensures.above c.name.result.now c.args.name.now c.name.ensures.last in
    omega (arith, up.len, ap (λ (l : List ℕ). length l) c.as_slice-units.ensures)

pub returns : goal.returns
returns t c =
    let up = one_up c.args.tree.now c.requires.is_whole c.args.folder.0 c.args.parent.0 c.requires.folder c.requires.parent c.if-parent-folder.false c.requires.below c.parent.result.0 c.parent.ensures.above c.name.result.now c.args.name.now c.name.ensures.last in
    omega (arith, up.len, ap (λ (l : List ℕ). length l) c.as_slice-units.ensures)
