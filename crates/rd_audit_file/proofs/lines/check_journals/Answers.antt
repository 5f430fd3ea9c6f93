use Rattle.std.proofs.Common.{◌≡◌, ◌+◌, ◌∙◌, sym, ap, subst, length, ℕ, Option, true}
use Rattle.std.specs.Prelude.{Ok}
use Rattle.std.specs.Option.{option_copied}
use Rattle.rd_audit_file.specs.Lines.{line_text}
use Rattle.rd_audit_file.specs.Journals.{ReadsLine}
use Rattle.rd_audit_file.specs.declared.line.JournalLine.{JournalLine}
use Rattle.rd_audit_file.proofs.JournalLemmas.{ends_early, left_some, read_more, wrong_line, IsRead}
use Rattle.rd_audit_file.proofs.lines.check_journals.Goals as goal

pub returns : goal.returns
returns c =
    let over = subst (λ (o : Option JournalLine). ReadsLine c.loop-line.lines c.next.new.self (Ok o)) c.in_default.is c.in_ok-line.ensures in
    ends_early c.args.ids.now c.args.text.now c.loop-line.at c.loop-line.lines.left c.loop-line.to_come.now c.loop-line.begun c.loop-line.invariant.read over.0 (left_some c.loop-line.to_come.now c.if-is_empty.ensures)

pub returns-in_default-left_behind : goal.returns-in_default-left_behind
returns-in_default-left_behind c =
    let line = subst (λ (o : Option JournalLine). ReadsLine c.loop-line.lines c.next.new.self (Ok o)) c.in-Some.is c.in_ok-line.ensures in
    wrong_line c.args.ids.now c.args.text.now c.loop-line.at c.loop-line.lines.left c.loop-line.to_come.now c.loop-line.begun c.in-Some.line c.next.new.self.left c.loop-line.invariant.read line.0
    (sym c.left_behind.ensures ∙ ap option_copied c.in_default-left_behind.is)

pub loop-line-preserved : goal.loop-line-preserved
loop-line-preserved c =
    let line = subst (λ (o : Option JournalLine). ReadsLine c.loop-line.lines c.next.new.self (Ok o)) c.in-Some.is c.in_ok-line.ensures in
    let others = c.in-Some-left_behind.others.now in
    let place : c.loop-line.at + length (line_text c.in-Some.line) ≡ c.at-at.result = ap (λ (n : ℕ). n + length (line_text c.in-Some.line)) (sym c.loop-line.invariant.place) ∙ sym line.1 ∙ sym c.at-at.ensures in
    record {
      place = sym c.at-at.ensures;
      read = subst (λ (n : ℕ). IsRead c.args.ids.now c.args.text.now n c.next.new.self.left others true) place
          (read_more c.args.ids.now c.args.text.now c.loop-line.at c.loop-line.lines.left c.loop-line.to_come.now c.loop-line.begun c.in-Some.line c.next.new.self.left others c.loop-line.invariant.read line.0
          (sym c.left_behind.ensures ∙ ap option_copied c.in-Some-left_behind.is));
    }
