use Rattle.std.proofs.Common.{◌≡◌, ◌++◌, OnOk, List, ℕ, subst, sym, ap, ◌∙◌}
use Rattle.std.specs.Prelude.{codes, decimal}
use Rattle.std.specs.String.{string_bytes}
use Rattle.rd_audit_file.specs.Lines.{line_text}
use Rattle.rd_audit_file.specs.declared.line.JournalLine.TheVariants.{Entry}
use Rattle.rd_audit_file.proofs.LineLemmas.{run_written}
use Rattle.rd_audit_file.proofs.line.put_entry.Goals as goal

pub returns-in-Ran-clause-bytes : goal.returns-in-Ran-clause-bytes
returns-in-Ran-clause-bytes c =
    let before = string_bytes c.args.text.now in
    let key = c.in-Ran.key in
    let shown : OnOk c.writeln-in-Ran.result (string_bytes c.writeln-in-Ran.new.self
    ≡ before ++ (codes "ran " ++ (decimal key.channel ++ (codes " " ++ (decimal key.index ++ (codes " " ++ (decimal c.in-Ran.moment
    ++ (codes " " ++ (c.mark_text-starved.result.now ++ (codes " " ++ (c.mark_text-parked.result.now ++ codes "\n")))))))))))
    = c.writeln-in-Ran.ensures.bytes in
    subst (λ (xs : List ℕ). OnOk c.writeln-in-Ran.result (string_bytes c.writeln-in-Ran.new.self ≡ before ++ xs))
    (run_written key c.in-Ran.moment c.in-Ran.starved c.in-Ran.parked c.mark_text-starved.result.now c.mark_text-parked.result.now c.mark_text-starved.ensures c.mark_text-parked.ensures
    ∙ ap (λ entry. line_text (Entry entry)) (sym c.in-Ran.is))
    shown
