use Rattle.std.proofs.Common.{refl, None, true}
use Rattle.std.specs.List.{list_all}
use Rattle.std.proofs.lemmas.Bool.{and_parts}
use Rattle.rd_dirinfo.specs.Paths.{is_name, is_within_limits}
use Rattle.rd_drive.proofs.HoldLemmas.{holds_folder, holds_none, holds_refused}
use Rattle.rd_drive.proofs.store.Store.hold_folder.Goals as goal

pub returns-in-Ok-add_node-clause-sound : goal.returns-in-Ok-add_node-clause-sound
returns-in-Ok-add_node-clause-sound c =
    (holds_folder c.args.self.now c.requires.sound c.ordered.ensures c.args.path.now (and_parts (list_all is_name c.args.path.now) (is_within_limits c.args.path.now) c.names.ensures.within).1
    c.add_node.new.self true 0 c.in-Ok-add_node.field-0.0 c.in-Ok-add_node.ensures.other c.in-Ok-add_node.ensures.added refl refl).0

pub returns-in-Ok-add_node-clause-holds : goal.returns-in-Ok-add_node-clause-holds
returns-in-Ok-add_node-clause-holds c =
    (holds_folder c.args.self.now c.requires.sound c.ordered.ensures c.args.path.now (and_parts (list_all is_name c.args.path.now) (is_within_limits c.args.path.now) c.names.ensures.within).1
    c.add_node.new.self true 0 c.in-Ok-add_node.field-0.0 c.in-Ok-add_node.ensures.other c.in-Ok-add_node.ensures.added refl refl).1

pub returns-in-Err-add_node-clause-sound : goal.returns-in-Err-add_node-clause-sound
returns-in-Err-add_node-clause-sound c = (holds_none c.args.self.now c.requires.sound (c.args.path.now, None) c.add_node.new.self c.in-Err-add_node.ensures.err c.in-Err-add_node.no c.in-Err-add_node.ensures.refused).0

pub returns-in-Err-add_node-clause-holds : goal.returns-in-Err-add_node-clause-holds
returns-in-Err-add_node-clause-holds c = (holds_none c.args.self.now c.requires.sound (c.args.path.now, None) c.add_node.new.self c.in-Err-add_node.ensures.err c.in-Err-add_node.no c.in-Err-add_node.ensures.refused).1

pub returns-in-Err-clause-holds : goal.returns-in-Err-clause-holds
returns-in-Err-clause-holds c = holds_refused c.args.self.now c.requires.sound (c.args.path.now, None) c.in-Err.no c.in-Err.ensures.refused
