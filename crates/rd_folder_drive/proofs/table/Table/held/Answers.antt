use Rattle.std.proofs.Common.{◌≡◌, sym, subst, true, false}
use Rattle.std.specs.Option.{IsSome}
use Rattle.rd_folder_drive.proofs.table.Table.held.Goals as goal

-- src/table.rt:78:21
pub unreachable-requires : goal.unreachable-requires
unreachable-requires c =
    let none_is_some : false ≡ true = subst IsSome (sym c.in-None.ensures) (c.requires.sound.handles c.args.file (c.in_ok-handle.handle).now (sym c.in_ok-handle.ensures)).on in
    absurd (cc)
