use Rattle.std.proofs.Common.{◌∙◌, ap}
use Rattle.rd_folder_drive.specs.declared.table.Table.{Table}
use Rattle.rd_folder_drive.specs.Table.{open_at}
use Rattle.rd_folder_drive.proofs.HoldLemmas.{holds_again, open_is, used_few}
use Rattle.rd_folder_drive.proofs.table.Table.hold_again.Goals as goal

pub gain_use-requires : goal.gain_use-requires
gain_use-requires c =
    let t = c.args.self.now in
    let is = open_is t c.args.node c.requires.there in
    let few = used_few t c.requires.sound c.requires.room.0 c.args.node is.0 is.1 in
    record { there = (is.0, few.0, ap (λ (x : Table). open_at x c.args.node) c.in-Ok.ensures.added.others ∙ is.1, few.1, few.2) }

pub returns-in-Ok-clause-held : goal.returns-in-Ok-clause-held
returns-in-Ok-clause-held c = λ path folder.
    let t = c.args.self.now in
    let is = open_is t c.args.node c.requires.there in
    holds_again t c.args.asked c.args.node is.0 is.1 c.add_handle.new.self c.in-Ok.ensures.added c.use_of.result c.use_of.ensures c.gain_use.new.self c.gain_use.ensures.others c.gain_use.ensures.gains c.ordered.ensures.opens path folder
