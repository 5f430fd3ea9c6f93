use Rattle.std.proofs.Common.{◌∙◌, refl, ap, false, inr, List, ℕ, Some}
use Rattle.std.specs.List.{list_all}
use Rattle.std.proofs.lemmas.Bool.{and_parts}
use Rattle.rd_contents.specs.Contents.{written}
use Rattle.rd_dirinfo.specs.Paths.{is_name, is_within_limits}
use Rattle.rd_tree.specs.Places.{Places, has_child, with_bytes, without}
use Rattle.rd_drive.proofs.HoldLemmas.{file_there, held_back, held_empty, holds_file, holds_none, holds_refused}
use Rattle.rd_drive.proofs.store.Store.hold_file.Goals as goal

pub returns-in-Err-add_node-clause-sound : goal.returns-in-Err-add_node-clause-sound
returns-in-Err-add_node-clause-sound c = (holds_none c.args.self.now c.requires.sound (c.args.path.now, Some c.args.bytes.now) c.add_node.new.self c.in-Err-add_node.ensures.err c.in-Err-add_node.no c.in-Err-add_node.ensures.refused).0

pub returns-in-Err-add_node-clause-holds : goal.returns-in-Err-add_node-clause-holds
returns-in-Err-add_node-clause-holds c = (holds_none c.args.self.now c.requires.sound (c.args.path.now, Some c.args.bytes.now) c.add_node.new.self c.in-Err-add_node.ensures.err c.in-Err-add_node.no c.in-Err-add_node.ensures.refused).1

pub write-requires : goal.write-requires
write-requires c =
    file_there c.args.self.now c.requires.sound c.ordered.ensures c.args.path.now (and_parts (list_all is_name c.args.path.now) (is_within_limits c.args.path.now) c.names.ensures.within).1
    c.add_node.new.self false 32 c.in-Ok-add_node.node.0 c.in-Ok-add_node.ensures.other c.in-Ok-add_node.ensures.added refl refl c.args.bytes.now

pub take_back-requires-clause-empty : goal.take_back-requires-clause-empty
take_back-requires-clause-empty c =
    let back = c.in-Err-write.ensures.err in
    ap (λ (t : Places). has_child t c.in-Ok-add_node.node.0) back
    ∙ held_empty c.args.self.now c.requires.sound c.ordered.ensures c.args.path.now (and_parts (list_all is_name c.args.path.now) (is_within_limits c.args.path.now) c.names.ensures.within).1
    c.add_node.new.self false 32 c.in-Ok-add_node.node.0 c.in-Ok-add_node.ensures.other c.in-Ok-add_node.ensures.added refl refl c.args.bytes.now

pub returns-in-Ok-write-clause-sound : goal.returns-in-Ok-write-clause-sound
returns-in-Ok-write-clause-sound c =
    (holds_file c.args.self.now c.requires.sound c.ordered.ensures c.args.path.now (and_parts (list_all is_name c.args.path.now) (is_within_limits c.args.path.now) c.names.ensures.within).1
    c.add_node.new.self false 32 c.in-Ok-add_node.node.0 c.in-Ok-add_node.ensures.other c.in-Ok-add_node.ensures.added refl refl c.args.bytes.now
    (record c.add_node.new.self { tree = c.write.new.self }) refl (c.in-Ok-write.ensures.written ∙ ap (λ (b : List ℕ). with_bytes c.add_node.new.self.tree c.in-Ok-add_node.node.0 (λ file. written file 0 b)) c.as_slice.ensures) c.in-Ok-write.ensures.is_whole).0

pub returns-in-Ok-write-clause-holds : goal.returns-in-Ok-write-clause-holds
returns-in-Ok-write-clause-holds c =
    (holds_file c.args.self.now c.requires.sound c.ordered.ensures c.args.path.now (and_parts (list_all is_name c.args.path.now) (is_within_limits c.args.path.now) c.names.ensures.within).1
    c.add_node.new.self false 32 c.in-Ok-add_node.node.0 c.in-Ok-add_node.ensures.other c.in-Ok-add_node.ensures.added refl refl c.args.bytes.now
    (record c.add_node.new.self { tree = c.write.new.self }) refl (c.in-Ok-write.ensures.written ∙ ap (λ (b : List ℕ). with_bytes c.add_node.new.self.tree c.in-Ok-add_node.node.0 (λ file. written file 0 b)) c.as_slice.ensures) c.in-Ok-write.ensures.is_whole).1

pub returns-in-Err-write-clause-sound : goal.returns-in-Err-write-clause-sound
returns-in-Err-write-clause-sound c =
    let back = c.in-Err-write.ensures.err in
    (held_back c.args.self.now c.requires.sound c.ordered.ensures c.args.path.now (and_parts (list_all is_name c.args.path.now) (is_within_limits c.args.path.now) c.names.ensures.within).1
    c.add_node.new.self false 32 c.in-Ok-add_node.node.0 c.in-Ok-add_node.ensures.other c.in-Ok-add_node.ensures.added refl refl c.args.bytes.now
    c.take_back.new.self (c.take_back.ensures.others) (c.take_back.ensures.tree ∙ ap (λ (t : Places). without t c.in-Ok-add_node.node.0) back) c.take_back.ensures.states).0

pub returns-in-Err-write-clause-holds : goal.returns-in-Err-write-clause-holds
returns-in-Err-write-clause-holds c =
    let back = c.in-Err-write.ensures.err in (
      inr refl,
      (held_back c.args.self.now c.requires.sound c.ordered.ensures c.args.path.now (and_parts (list_all is_name c.args.path.now) (is_within_limits c.args.path.now) c.names.ensures.within).1
          c.add_node.new.self false 32 c.in-Ok-add_node.node.0 c.in-Ok-add_node.ensures.other c.in-Ok-add_node.ensures.added refl refl c.args.bytes.now
          c.take_back.new.self (c.take_back.ensures.others) (c.take_back.ensures.tree ∙ ap (λ (t : Places). without t c.in-Ok-add_node.node.0) back) c.take_back.ensures.states).1,
    )

pub returns-in-Err-clause-holds : goal.returns-in-Err-clause-holds
returns-in-Err-clause-holds c = holds_refused c.args.self.now c.requires.sound (c.args.path.now, Some c.args.bytes.now) c.in-Err.no c.in-Err.ensures.refused
