-- What an operation comes to, by the answer to it and the printer that it leaves.
use Rattle.std.proofs.Common.{◌≡◌, ◌∙◌, refl, sym, ap, subst, ℕ, ◌+◌, ◌<◌, ◌≤◌, ◌==◌, false, cond, List, ◌++◌, length, Some, Option}
use Rattle.std.proofs.lemmas.Bool.{le-ltb, lt-ltb}
use Rattle.std.specs.Map.{lookup}
use Rattle.std.specs.Option.{option_map_or}
use Rattle.std.specs.Ordering.{nat_cmp}
use Rattle.std.specs.BTreeMap.{insert_entry, is_at}
use Rattle.rd_base.specs.declared.status.Status.{Status}
use Rattle.rd_base.specs.Statuses.{disk_full, invalid_handle, no_memory}
use Rattle.rd_irp.specs.declared.completion.Body.{Body}
use Rattle.rd_irp.specs.declared.completion.Body.TheVariants as body
use Rattle.rd_drive.specs.declared.step.Step.{Step}
use Rattle.rd_drive.specs.declared.step.Step.TheVariants as step
use Rattle.rd_drive.specs.Outcome.{done, fault}
use Rattle.rd_drive.specs.Stepped.{Stepped, starved_step}
use Rattle.rd_printer.specs.Printer.{PrinterState, max_document, on_document, print, printer_refused, printer_succeeded}
use Rattle.rd_printer.specs.Running.{ComesTo}

module _ (came : Stepped PrinterState) (old : PrinterState) (answer : Step) (new : PrinterState) where
  pub refuses : (cause : Status) → (cause.0 == no_memory.0) ≡ false → came ≡ printer_refused old cause → answer ≡ step.Reply (fault cause) → new ≡ old → ComesTo came old answer new
  refuses cause fed is answered same =
      subst (λ (s : PrinterState). ComesTo came old answer s) (sym same)
      (subst (λ (a : Step). ComesTo came old a old) (sym answered) (ap (λ b. cond b (starved_step old) came) fed ∙ is))

  pub starves : answer ≡ step.Reply (fault no_memory) → new ≡ old → ComesTo came old answer new
  starves answered same = subst (λ (s : PrinterState). ComesTo came old answer s) (sym same) (subst (λ (a : Step). ComesTo came old a old) (sym answered) refl)

  pub does : (b : Body) → came ≡ printer_succeeded new b → answer ≡ step.Reply (done b) → ComesTo came old answer new
  does b is answered = subst (λ (a : Step). ComesTo came old a new) (sym answered) is

module _ (s : PrinterState) (file : ℕ) (bytes old : List ℕ) (found : lookup (is_at (nat_cmp file)) s.documents ≡ Some old) where
  -- the bytes are appended
  abbrev print_end : Stepped PrinterState
  print_end = printer_succeeded (record s { documents = insert_entry nat_cmp s.documents file (old ++ bytes) }) (body.Count (length bytes))

  printing : on_document s file (print s file bytes) ≡ print s file bytes old
  printing = ap (λ (x : Option (List ℕ)). option_map_or (print s file bytes) x (printer_refused s invalid_handle)) found

  pub printed_too_much : max_document < length old + length bytes → on_document s file (print s file bytes) ≡ printer_refused s disk_full
  printed_too_much long = printing ∙ ap (λ b. cond b (printer_refused s disk_full) print_end) (lt-ltb max_document (length old + length bytes) long)

  pub printed_on : length old + length bytes ≤ max_document → on_document s file (print s file bytes) ≡ printer_succeeded (record s { documents = insert_entry nat_cmp s.documents file (old ++ bytes) }) (body.Count (length bytes))
  printed_on few = printing ∙ ap (λ b. cond b (printer_refused s disk_full) print_end) (le-ltb max_document (length old + length bytes) few)
