use Rattle.std.proofs.Common.{◌≡◌, ◌∙◌, refl, sym, ap, ℕ, ◌+◌, ◌-◌, arith}
use Rattle.rd_drive.specs.declared.access.Use.{Use}
use Rattle.rd_drive.specs.UseCounts.{more}
use Rattle.rd_folder_drive.proofs.HoldLemmas.{again, back_again, back_first, held_next}
use Rattle.rd_folder_drive.proofs.table.Table.take_back.Goals as goal

-- the next file id goes back
goes_back : (now before : ℕ) → now ≡ before + 1 → now - 1 ≡ before
goes_back now before is = omega (arith, is)

pub lose_use-requires : goal.lose_use-requires
lose_use-requires c =
    let a = again c.args.asked c.args.file c.args.node c.args.self.now c.requires.held.0 c.requires.held.1 c.if-node-file.false in
    record { there = (a.o, a.p.uses, a.on, a.uses ∙ ap (λ (u : Use). more u a.p.uses) (sym c.use_of.ensures)) }

pub returns-then-node-file : goal.returns-then-node-file
returns-then-node-file c = record {
  alike = λ t held. back_first c.args.asked c.args.file c.args.node c.args.self.now t held c.remove.new.self c.remove.ensures.entries c.remove.ensures.ordered
      c.remove-then-node-file.new.self c.remove-then-node-file.ensures.ordered c.if-node-file.true c.remove-then-node-file.ensures.updates.0
      ((c.args.self.now).next - 1) (goes_back (c.args.self.now).next t.next (held_next c.args.asked c.args.file c.args.node c.args.self.now t held)) _ refl;
}

pub returns-else-node-file : goal.returns-else-node-file
returns-else-node-file c = record {
  alike = λ t held.
      let a = again c.args.asked c.args.file c.args.node c.args.self.now t held c.if-node-file.false in
      back_again c.args.asked c.args.file c.args.node c.args.self.now t held c.remove.new.self c.remove.ensures.entries c.remove.ensures.ordered
      (c.lose_use.new.self).opens c.ordered.ensures.opens a (c.lose_use.ensures.loses a.o a.p.uses a.on (a.uses ∙ ap (λ (u : Use). more u a.p.uses) (sym c.use_of.ensures)))
      ((c.args.self.now).next - 1) (goes_back (c.args.self.now).next t.next (held_next c.args.asked c.args.file c.args.node c.args.self.now t held)) c.lose_use.new.self c.lose_use.ensures.others;
}
