use Rattle.std.proofs.Common.{◌≡◌, Option, None, Ok, [], ◌∷◌, ◌++◌, sym, ap, subst, ◌∙◌, arith}
use Rattle.std.specs.Option.{option_or}
use Rattle.rd_audit_file.specs.declared.line.JournalLine.{JournalLine}
use Rattle.rd_audit_file.specs.Lines.{BeginsWithLine}
use Rattle.rd_audit.specs.Lawful.{ReadsNextLine, broken_at_end, entry_broken, first_unlawful}
use Rattle.rd_audit.specs.declared.verdict.Verdict.{Verdict}
use Rattle.rd_audit.proofs.LineLemmas.{IsJudgedTo, device_found, ends_judged, entry_found, found_stands, judged_device, judged_entry, none_is, some_is}
use Rattle.rd_audit.proofs.lawful.first_unlawful.Goals as goal
use Rattle.rd_audit.proofs.lawful.first_unlawful.Goals.{in-Device, in-Entry+in_ok-found-in-Entry}

-- src/lawful.rt:34:13
pub returns-then-is_some : goal.returns-then-is_some
returns-then-is_some c lines is fit =
    let text = c.args.text.now in
    let j = c.loop-line.judged in
    let s = c.loop-line.invariant in
    let left = c.loop-line.lines.left in
    let after = c.next_line.new.lines.left in
    let found = c.match-line.found in
    let some = some_is found c.if-is_some.ensures in
    let read = subst (λ (o : Option JournalLine). ReadsNextLine left after o) c.in-Some.is c.next_line.ensures in
    elim c.match-line.branch [
      | in-Device w ↦
          let o = device_found text j left w.in-Device.id after s (subst (λ (l : JournalLine). BeginsWithLine left l after) w.in-Device.is read) lines is fit in
          let f : found ≡ broken_at_end j.device s.entries = w.found-is ∙ w.end-found.ensures s.entries s.judged in
          sym (o.3 ∙ ap (λ (x : Option Verdict). option_or x (first_unlawful w.in-Device.id [] o.0)) (sym f) ∙ found_stands found _ some)
      | in-Entry+in_ok-found-in-Entry w ↦
          let o = entry_found text j left w.in-Entry.entry after s (subst (λ (l : JournalLine). BeginsWithLine left l after) w.in-Entry.is read) lines is fit in
          let f : found ≡ entry_broken j.device s.entries w.in-Entry.entry = w.found-is ∙ w.in_ok-found-in-Entry.ensures.found s.entries s.judged in
          sym (o.3 ∙ ap (λ (x : Option Verdict). option_or x (first_unlawful j.device (s.entries ++ w.in-Entry.entry ∷ []) o.0)) (sym f) ∙ found_stands found _ some)
    ]

-- src/lawful.rt:24:5
pub loop-line-preserved : goal.loop-line-preserved
loop-line-preserved c =
    let text = c.args.text.now in
    let j = c.loop-line.judged in
    let s = c.loop-line.invariant in
    let left = c.loop-line.lines.left in
    let after = c.next_line.new.lines.left in
    let none = none_is c.match-line.found c.if-is_some.ensures in
    let read = subst (λ (o : Option JournalLine). ReadsNextLine left after o) c.in-Some.is c.next_line.ensures in
    elim c.match-line.branch [
      | in-Device w ↦
          let begins = subst (λ (l : JournalLine). BeginsWithLine left l after) w.in-Device.is read in
          let f : broken_at_end j.device s.entries ≡ None = sym (w.found-is ∙ w.end-found.ensures s.entries s.judged) ∙ none in
          subst (λ x. IsJudgedTo text x after) (sym w.judged-is) (judged_device text j w.new-judged-in-Device.result left w.in-Device.id after s begins w.new-judged-in-Device.ensures f)
      | in-Entry+in_ok-found-in-Entry w ↦
          let begins = subst (λ (l : JournalLine). BeginsWithLine left l after) w.in-Entry.is read in
          let f : entry_broken j.device s.entries w.in-Entry.entry ≡ None = sym (w.found-is ∙ w.in_ok-found-in-Entry.ensures.found s.entries s.judged) ∙ none in
          let taken = w.take.ensures.taken s.entries s.judged (w.in_ok-found-in-Entry.was ∙ ap (λ (x : Option Verdict). Ok x) (sym w.found-is ∙ none)) in
          subst (λ x. IsJudgedTo text x after) (sym w.judged-is) (judged_entry text j w.take.new.self left w.in-Entry.entry after s begins taken f)
    ]

-- src/lawful.rt:37:8
pub end-requires : goal.end-requires
end-requires c =
    let s = c.loop-line.invariant in
    omega (arith, s.few, s.judged.counted, c.requires)

-- src/lawful.rt:18:1
pub returns : goal.returns
returns c lines is fit =
    let s = c.loop-line.invariant in
    let none = subst (λ (o : Option JournalLine). ReadsNextLine c.loop-line.lines.left c.next_line.new.lines.left o) c.in_default.is c.next_line.ensures in
    c.end.ensures s.entries s.judged ∙ sym (ends_judged c.args.text.now c.loop-line.judged c.loop-line.lines.left s none lines is fit)
