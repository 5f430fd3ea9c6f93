use Rattle.std.proofs.Common.{◌∙◌, sym, ap, ℕ, ◌++◌, List, length, arith, length-append}
use Rattle.rd_base.specs.Fields.{text_bytes}
use Rattle.rd_dirinfo.specs.Paths.{Names, joined}
use Rattle.rd_folder_drive.proofs.TellingLemmas.{told_first, told_last, with_gaps}
use Rattle.rd_folder_drive.proofs.telling.put_joined.Goals as goal

pub loop-name-init : goal.loop-name-init
loop-name-init c =
    let first = c.in-Some.first.now in
    let others = c.in-Some.others.now in
    let long = ap (λ (ns : Names). length (joined ns)) c.in-Some.ensures.cases.0 ∙ length-append first (with_gaps others) in
    let name = ap (λ (l : List ℕ). length l) c.as_slice.ensures in
    record {
      bytes = told_first first others c.args.names.now c.args.out.now.items c.put_units.new.out.items c.in-Some.ensures.cases.0 (c.put_units.ensures.bytes ∙ ap (λ (l : List ℕ). c.args.out.now.items ++ text_bytes l) c.as_slice.ensures);
      room = omega (arith, long, name, c.requires.room, c.put_units.ensures.len, c.put_units.ensures.room);
    }

pub returns : goal.returns
returns c = record { bytes = sym (told_last c.in-Some.others.now c.loop-name.name-index c.loop-name.out.items c.loop-name-test.false) ∙ c.loop-name.invariant.bytes }
