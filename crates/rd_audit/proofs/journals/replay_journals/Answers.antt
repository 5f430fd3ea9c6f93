use Rattle.std.proofs.Common.{◌≡◌, ◌+◌, Option, None, Ok, refl, sym, ap, subst, ◌∙◌, arith}
use Rattle.rd_audit_file.specs.declared.line.JournalLine.{JournalLine}
use Rattle.rd_audit_file.specs.declared.line.JournalLine.TheVariants.{Entry}
use Rattle.rd_audit_file.specs.Lines.{BeginsWithLine}
use Rattle.rd_audit.specs.declared.verdict.Verdict.{Verdict}
use Rattle.rd_audit.specs.Lawful.{ReadsNextLine}
use Rattle.rd_audit.proofs.WalkLemmas.{IsWalkedTo, some_none, walked_all, walked_found, walked_line}
use Rattle.rd_audit.proofs.journals.replay_journals.Goals as goal
use Rattle.rd_audit.proofs.journals.replay_journals.Goals.{in-Device+in_ok-begin-in-Device, in-Entry+in_ok-found-in-Entry}

-- src/journals.rt:72:13
pub returns-in-Some-found-clause-found : goal.returns-in-Some-found-clause-found
returns-in-Some-found-clause-found c lines is fit =
    let s = c.loop-line.invariant in
    let walk = c.loop-line.walk in
    let left = c.loop-line.lines.left in
    let after = c.next_line.new.lines.left in
    let read = subst (λ (o : Option JournalLine). ReadsNextLine left after o) c.in-Some.is c.next_line.ensures in
    elim c.match-line.branch [
      | in-Device+in_ok-begin-in-Device w ↦ absurd (some_none c.in-Some-found.verdict (sym c.in-Some-found.is ∙ w.found-is))
      | in-Entry+in_ok-found-in-Entry w ↦
          let line = Entry w.in-Entry.entry in
          let begins = subst (λ (l : JournalLine). BeginsWithLine left l after) w.in-Entry.is read in
          walked_found c.args.channels.now c.args.devices.entries c.args.text.now walk left line after c.in-Some-found.verdict s begins
          (sym c.in-Some-found.is ∙ w.found-is ∙ w.in_ok-found-in-Entry.ensures.found s.place s.most s.at) lines is fit
    ]

-- src/journals.rt:63:5
pub loop-line-preserved : goal.loop-line-preserved
loop-line-preserved c =
    let channels = c.args.channels.now in
    let devices = c.args.devices.entries in
    let text = c.args.text.now in
    let s = c.loop-line.invariant in
    let walk = c.loop-line.walk in
    let left = c.loop-line.lines.left in
    let after = c.next_line.new.lines.left in
    let read = subst (λ (o : Option JournalLine). ReadsNextLine left after o) c.in-Some.is c.next_line.ensures in
    let none : c.match-line.found ≡ None = c.in_default-found.is in
    elim c.match-line.branch [
      | in-Device+in_ok-begin-in-Device w ↦
          let begins = subst (λ (l : JournalLine). BeginsWithLine left l after) w.in-Device.is read in
          subst (λ x. IsWalkedTo channels devices text x after) (sym w.walk-is)
          (walked_line channels devices text walk w.begin.new.self s.most left _ after s begins (omega arith) refl (w.in_ok-begin-in-Device.ensures channels s.place s.most s.at))
      | in-Entry+in_ok-found-in-Entry w ↦
          let begins = subst (λ (l : JournalLine). BeginsWithLine left l after) w.in-Entry.is read in
          let found = sym (w.in_ok-found-in-Entry.ensures.found s.place s.most s.at) ∙ sym w.found-is ∙ none in
          subst (λ x. IsWalkedTo channels devices text x after) (sym w.walk-is)
          (walked_line channels devices text walk w.enter.new.self (s.most + 1) left (Entry w.in-Entry.entry) after s begins (omega arith) found
          (w.in_ok-found-in-Entry.ensures.entered s.place s.most s.at (ap (λ (f : Option Verdict). Ok f) (sym w.found-is ∙ none))))
    ]

-- src/journals.rt:50:1
pub returns-clause-found : goal.returns-clause-found
returns-clause-found c lines is fit =
    let s = c.loop-line.invariant in
    let none = subst (λ (o : Option JournalLine). ReadsNextLine c.loop-line.lines.left c.next_line.new.lines.left o) c.in_default.is c.next_line.ensures in
    walked_all c.args.channels.now c.args.devices.entries c.args.text.now c.loop-line.walk c.loop-line.lines.left s none lines is fit
