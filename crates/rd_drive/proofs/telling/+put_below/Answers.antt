use Rattle.std.proofs.Common.{◌∙◌, sym, ap, ℕ, ◌++◌, length, arith, List}
use Rattle.rd_base.specs.Fields.{text_bytes}
use Rattle.rd_drive.specs.Telling.{name_below}
use Rattle.rd_drive.proofs.NameBelowLemmas.{one_up, put_all}
use Rattle.rd_drive.proofs.telling.+put_below.Goals as goal

pub put_below-requires : goal.put_below-requires
put_below-requires t c =
    let up = one_up c.args.tree.now c.requires.is_whole c.args.folder.0 c.args.parent.0 c.requires.folder c.requires.parent c.if-parent-folder.false c.requires.below c.parent.result.0 c.parent.ensures.above c.name.result.now c.args.name.now c.name.ensures.last in
    (omega (arith, up.less), (c.requires.is_whole, (c.requires.folder, (c.parent.ensures.live, (up.above, omega (arith, up.len))))))

pub put_units-requires-2 : goal.put_units-requires-2
put_units-requires-2 t c =
    let up = one_up c.args.tree.now c.requires.is_whole c.args.folder.0 c.args.parent.0 c.requires.folder c.requires.parent c.if-parent-folder.false c.requires.below c.parent.result.0 c.parent.ensures.above c.name.result.now c.args.name.now c.name.ensures.last in
    omega (arith, up.len)

pub put_units-requires-3 : goal.put_units-requires-3
put_units-requires-3 t c =
    let up = one_up c.args.tree.now c.requires.is_whole c.args.folder.0 c.args.parent.0 c.requires.folder c.requires.parent c.if-parent-folder.false c.requires.below c.parent.result.0 c.parent.ensures.above c.name.result.now c.args.name.now c.name.ensures.last in
    omega (arith, up.len, ap (λ (l : List ℕ). length l) c.as_slice-units.ensures)

pub returns-clause-bytes : goal.returns-clause-bytes
returns-clause-bytes t c =
    let up = one_up c.args.tree.now c.requires.is_whole c.args.folder.0 c.args.parent.0 c.requires.folder c.requires.parent c.if-parent-folder.false c.requires.below c.parent.result.0 c.parent.ensures.above c.name.result.now c.args.name.now c.name.ensures.last in
    put_all c.args.out.now.items (name_below c.args.tree.now c.args.folder.0 c.parent.result.0 c.name.result.now) c.args.name.now c.put_below.new.out.items c.put_units-2.new.out.items c.put_units-3.new.out.items
    c.put_below.ensures.bytes c.put_units-2.ensures.bytes (c.put_units-3.ensures.bytes ∙ ap (λ (l : List ℕ). c.put_units-2.new.out.items ++ text_bytes l) c.as_slice-units.ensures)
    ∙ ap (λ (l : List ℕ). c.args.out.now.items ++ text_bytes l) (sym up.name)

pub returns-clause-len : goal.returns-clause-len
returns-clause-len t c =
    let up = one_up c.args.tree.now c.requires.is_whole c.args.folder.0 c.args.parent.0 c.requires.folder c.requires.parent c.if-parent-folder.false c.requires.below c.parent.result.0 c.parent.ensures.above c.name.result.now c.args.name.now c.name.ensures.last in
    omega (arith, up.len, ap (λ (l : List ℕ). length l) c.as_slice-units.ensures)
