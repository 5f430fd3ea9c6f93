use Rattle.std.proofs.Common.{◌+◌, ◌≡◌, length, arith, rules}
use Rattle.std.proofs.lemmas.List.{nil_from_length}
use Rattle.rd_folder_drive.specs.Served.{seen}
use Rattle.rd_folder_drive.proofs.CutLemmas.{fewer_open, way_begins, way_ends, way_goes_on}
use Rattle.rd_folder_drive.proofs.table.Table.close_all.Goals as goal

pub loop-self-init : goal.loop-self-init
loop-self-init g c = record {
  sound = c.requires.sound;
  over = c.requires.over;
  waiting = c.requires.none;
  untold = λ none. none;
  way = way_begins c.args.self.now (seen g.F.Folder.nodes g.F.Folder.faults c.args.folder.now);
}

pub loop-self-preserved : goal.loop-self-preserved
loop-self-preserved g c = record {
  sound = c.close_first.ensures.sound;
  over = c.close_first.ensures.over;
  waiting = c.close_first.ensures.none;
  untold = λ none. c.close_first.ensures.untold (c.loop-self.invariant.untold none);
  way = way_goes_on c.args.self.now (seen g.F.Folder.nodes g.F.Folder.faults c.args.folder.now) c.loop-self.self (seen g.F.Folder.nodes g.F.Folder.faults c.loop-self.folder) c.loop-self.invariant.way
      c.close_first.new.self (seen g.F.Folder.nodes g.F.Folder.faults c.close_first.new.folder) c.close_first.ensures.closes;
}

pub loop-self-smaller : goal.loop-self-smaller
loop-self-smaller g c =
    let fewer : length c.close_first.new.self.handles.entries + 1 ≡ length c.loop-self.self.handles.entries =
    fewer_open c.loop-self.self (seen g.F.Folder.nodes g.F.Folder.faults c.loop-self.folder) c.close_first.new.self (seen g.F.Folder.nodes g.F.Folder.faults c.close_first.new.folder) c.close_first.ensures.closes in
    omega (arith, fewer)

pub returns-clause-closes : goal.returns-clause-closes
returns-clause-closes g c =
    way_ends c.args.self.now (seen g.F.Folder.nodes g.F.Folder.faults c.args.folder.now) c.loop-self.self (seen g.F.Folder.nodes g.F.Folder.faults c.loop-self.folder) c.loop-self.invariant.way
    (nil_from_length c.loop-self.self.handles.entries (c.is_empty.ensures.0 (search rules)))

pub returns-clause-shut : goal.returns-clause-shut
returns-clause-shut g c = nil_from_length c.loop-self.self.handles.entries (c.is_empty.ensures.0 (search rules))
