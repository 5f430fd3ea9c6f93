use Rattle.std.proofs.Common.{ap, ℕ, length, arith, List}
use Rattle.rd_drive.specs.Store.{named_path}
use Rattle.rd_drive.proofs.NameBelowLemmas.{name_short}
use Rattle.rd_drive.proofs.telling.told.Goals as goal

pub length_below-requires-clause-short : goal.length_below-requires-clause-short
length_below-requires-clause-short c =
    let short = name_short c.args.tree.now c.requires.is_whole c.args.folder.0 c.in-Some.parent.0 c.in-Some.name.now (named_path c.args.tree.now c.args.change.now.named) c.in-Some.ensures.some.1 c.requires.short in
    omega arith

pub overflow_mul-length_below : goal.overflow_mul-length_below
overflow_mul-length_below c =
    let short = name_short c.args.tree.now c.requires.is_whole c.args.folder.0 c.in-Some.parent.0 c.in-Some.name.now (named_path c.args.tree.now c.args.change.now.named) c.in-Some.ensures.some.1 c.requires.short in
    omega arith

pub put_below-requires-clause-room : goal.put_below-requires-clause-room
put_below-requires-clause-room c =
    let short = name_short c.args.tree.now c.requires.is_whole c.args.folder.0 c.in-Some.parent.0 c.in-Some.name.now (named_path c.args.tree.now c.args.change.now.named) c.in-Some.ensures.some.1 c.requires.short in
    omega (arith, ap (λ (l : List ℕ). length l) c.requires.empty)
