use Rattle.std.proofs.Common.{◌∙◌, refl, ap, sym, ◌++◌, length, arith}
use Rattle.std.specs.Ordering.{nat_cmp}
use Rattle.std.specs.Option.{is_some}
use Rattle.std.specs.Cmp.{nat_cmp_total}
use Rattle.std.specs.Map.{lookup, set_value}
use Rattle.std.specs.BTreeMap.{insert_entry, is_at}
use Rattle.std.proofs.lemmas.Map.Lookups.{exact_unsigned}
use Rattle.std.proofs.lemmas.Map.Steps.{set_value_same}
use Rattle.rd_base.specs.Statuses.{disk_full}
use Rattle.rd_irp.specs.declared.completion.Body.TheVariants as body
use Rattle.rd_printer.specs.Printer.{PrinterState, printer_succeeded}
use Rattle.rd_printer.proofs.EntryLemmas.{set_value-inserted}
use Rattle.rd_printer.proofs.StepLemmas.{does, printed_on, printed_too_much, refuses, starves}
use Rattle.rd_printer.proofs.printer.Printer.print.Goals as goal
use Rattle.rd_printer.proofs.printer.Printer.print.Goals.{in-Ok, in-Err}

pub returns-then-saturating_add-gt-MAX_DOCUMENT : goal.returns-then-saturating_add-gt-MAX_DOCUMENT
returns-then-saturating_add-gt-MAX_DOCUMENT c =
    let s = c.args.self.now in
    let document = c.in-Some.document.now in
    let unchanged = (c.get_mut.follows.holds document).0 ∙ set_value_same _ c.self.inside.opened.entries document (sym c.in-Some.ensures.value) in
    let found = sym (ap (λ (s' : PrinterState). lookup (is_at (nat_cmp c.args.file)) s'.documents) c.self.view_is) ∙ sym c.in-Some.ensures.value in
    refuses _ s _ _ disk_full refl (printed_too_much s c.args.file c.args.bytes.now document found (omega arith)) c.refused-then-saturating_add-gt-MAX_DOCUMENT.ensures
    ((λ i. record { documents = unchanged i; finished = c.self.inside.finished.items; next = c.self.inside.next }) ∙ c.self.view_is)

pub returns : goal.returns
returns c =
    let s = c.args.self.now in
    let document = c.in-Some.document.now in
    let found = sym (ap (λ (s' : PrinterState). lookup (is_at (nat_cmp c.args.file)) s'.documents) c.self.view_is) ∙ sym c.in-Some.ensures.value in
    elim c.match-append.branch [
      | in-Ok w ↦
          let bytes = c.args.bytes.now in
          let grown =
          (c.get_mut.follows.holds c.append.new.self).0
          ∙ set_value-inserted nat_cmp_total exact_unsigned c.args.file c.append.new.self c.self.inside.opened.entries c.get_mut.ensures.ordered (ap is_some (sym c.in-Some.ensures.value))
          ∙ ap (insert_entry nat_cmp c.self.inside.opened.entries c.args.file) w.in-Ok.ensures.ok in
          let left =
          (λ i. record { documents = grown i; finished = c.self.inside.finished.items; next = c.self.inside.next })
          ∙ ap (λ (s' : PrinterState). record s' { documents = insert_entry nat_cmp s'.documents c.args.file (document ++ bytes) }) c.self.view_is in
          does _ s _ _ (body.Count (length bytes))
          (printed_on s c.args.file bytes document found (omega arith) ∙ ap (λ (s' : PrinterState). printer_succeeded s' (body.Count (length bytes))) (sym left))
          (w.result-is ∙ w.done.ensures)
      | in-Err w ↦
          let unchanged =
          (c.get_mut.follows.holds c.append.new.self).0
          ∙ ap (set_value (is_at (nat_cmp c.args.file)) c.self.inside.opened.entries) w.in-Err.ensures.err
          ∙ set_value_same _ c.self.inside.opened.entries document (sym c.in-Some.ensures.value) in
          starves _ s _ _ (w.result-is ∙ w.refused-in-Err.ensures)
          ((λ i. record { documents = unchanged i; finished = c.self.inside.finished.items; next = c.self.inside.next }) ∙ c.self.view_is)
    ]
