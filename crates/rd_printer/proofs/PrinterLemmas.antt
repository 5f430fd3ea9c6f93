-- What a printer does with a request: it answers it at once, by a reply of its layout whose numbers are in range.
use Rattle.std.proofs.Common.{◌≡◌, refl, sym, subst, ℕ, ◌+◌, ◌<◌, ◌^◌, ◌==◌, ◌||◌, Bool, true, false, cond, List, [], ◌++◌, length, Option, Some, None, lit<, arith}
use Rattle.std.specs.Prelude.{nat_le, nat_lt, IsTrue, IsFalse}
use Rattle.std.specs.Map.{lookup}
use Rattle.std.specs.Option.{option_map_or}
use Rattle.std.specs.Ordering.{nat_cmp}
use Rattle.std.specs.BTreeMap.{insert_entry, is_at}
use Rattle.std.proofs.lemmas.Bool.{leb-false}
use Rattle.rd_base.specs.declared.journal.Item.{Item}
use Rattle.rd_base.specs.declared.journal.Key.{Key}
use Rattle.rd_base.specs.declared.status.Status.{Status}
use Rattle.rd_base.specs.Lawful.{IsLawful}
use Rattle.rd_irp.specs.declared.op.Op.{Op}
use Rattle.rd_irp.specs.declared.op.Op.TheVariants as op
use Rattle.rd_irp.specs.declared.completion.Body.{Body}
use Rattle.rd_irp.specs.declared.completion.Body.TheVariants as body
use Rattle.rd_irp.specs.declared.completion.Reply.{Reply}
use Rattle.rd_irp.specs.declared.request.Request.{Request}
use Rattle.rd_irp.specs.Fits.{kind_of, IsCountableBody, IsOfKind, IsReplyTo, IsSendable}
use Rattle.rd_irp.specs.Written.{IsBodyInRange}
use Rattle.rd_drive.specs.declared.plan.Job.{Job}
use Rattle.rd_drive.specs.declared.step.Step.{Step}
use Rattle.rd_drive.specs.declared.step.Step.TheVariants as step
use Rattle.rd_drive.specs.declared.step.End.{End}
use Rattle.rd_drive.specs.Device.{IsAnswerTo, Parks, is_starved}
use Rattle.rd_drive.specs.Once.{HaveOneReplyEach}
use Rattle.rd_drive.specs.Outcome.{done, fault}
use Rattle.rd_drive.specs.Planned.{Planned}
use Rattle.rd_drive.specs.Promise.{Applies, IsDevice}
use Rattle.rd_drive.specs.Ranged.{AreEndsInRange, IsAnswerInRange, IsReplyInRange, IsSteppedInRange, SetsFew}
use Rattle.rd_drive.specs.Replies.{replies_by}
use Rattle.rd_base.specs.Statuses.{disk_full, invalid_handle, no_memory, too_many_opened_files}
use Rattle.rd_drive.specs.Stepped.{Stepped}
use Rattle.rd_drive.specs.DriveState.{file_id_limit}
use Rattle.rd_drive.proofs.AnswerLemmas.{fault_answers}
use Rattle.rd_drive.proofs.OnceLemmas.{one_reply_each}
use Rattle.rd_printer.specs.Printer.{PrinterState, max_document, max_open, on_document, open_document, print, printer_cut, printer_refused, printer_step, printer_succeeded}
use Rattle.rd_printer.specs.Running.{IsAnyPrinter, printer_parked, printer_runs}

-- it is answered by a reply of its layout, not for want of memory; nothing ends
pub record IsPrinted (o : Op) (came : Stepped PrinterState) : Type 0 where
  pub reply : Reply
  pub answer : came.answer ≡ step.Reply reply
  pub suits : IsReplyTo o reply
  pub fed : is_starved (step.Reply reply) ≡ false
  pub ends : came.ends ≡ []
  pub range : SetsFew o → IsReplyInRange reply

module _ (o : Op) where
  printed_fault : (s : PrinterState) (st : Status) → (st.0 == 0) ≡ false → (st.0 == no_memory.0) ≡ false → st.0 < 2 ^ 32 → IsPrinted o (printer_refused s st)
  printed_fault s st failed fed low = record { reply = fault st; answer = refl; suits = fault_answers o st failed; fed = fed; ends = refl; range = λ few. (low, tt) }

  printed_done : (s : PrinterState) (b : Body) → IsOfKind (kind_of o) b → IsCountableBody b → IsSendable b → (SetsFew o → IsBodyInRange b) → IsPrinted o (printer_succeeded s b)
  printed_done s b kind counts sends range = record { reply = done b; answer = refl; suits = ((kind, counts), sends); fed = refl; ends = refl; range = λ few. (lit< tt, range few) }

  on_any_document : (s : PrinterState) (file : ℕ) (f : List ℕ → Stepped PrinterState) → ((bytes : List ℕ) → IsPrinted o (f bytes)) → IsPrinted o (on_document s file f)
  on_any_document s file f each = by (lookup (is_at (nat_cmp file)) s.documents)
    where
      by : (x : Option (List ℕ)) → IsPrinted o (option_map_or f x (printer_refused s invalid_handle))
      by None = printed_fault s _ refl refl (lit< tt)
      by (Some bytes) = each bytes

opened : (s : PrinterState) (o : Op) → ((file information : ℕ) → IsOfKind (kind_of o) (body.Created file information)) → IsPrinted o (open_document s)
opened s o kind = by (nat_le max_open (length s.documents)) (nat_le file_id_limit s.next) refl
  where
    new : PrinterState
    new = record s { documents = insert_entry nat_cmp s.documents s.next []; next = s.next + 1 }

    by : (a b : Bool) → nat_le file_id_limit s.next ≡ b → IsPrinted o (cond (a || b) (printer_refused s too_many_opened_files) (printer_succeeded new (body.Created s.next 0)))
    by true b e = printed_fault o s _ refl refl (lit< tt)
    by false true e = printed_fault o s _ refl refl (lit< tt)
    by false false e = printed_done o _ _ (kind s.next 0) tt tt (λ few. (leb-false file_id_limit s.next e, lit< tt))

printed : (s : PrinterState) (file offset : ℕ) (bytes old : List ℕ) → IsPrinted (op.Write offset bytes) (print s file bytes old)
printed s file offset bytes old = by (nat_lt max_document (length old + length bytes))
  where
    by : (b : Bool) → IsPrinted (op.Write offset bytes) (cond b (printer_refused s disk_full) (printer_succeeded (record s { documents = insert_entry nat_cmp s.documents file (old ++ bytes) }) (body.Count (length bytes))))
    by true = printed_fault (op.Write offset bytes) s _ refl refl (lit< tt)
    by false = printed_done (op.Write offset bytes) _ _ tt tt tt (λ few. few)

-- whatever it is asked
pub is_printed : (s : PrinterState) (key : Key) (file : ℕ) (o : Op) (moment : ℕ) → IsPrinted o (printer_step s key file o moment)
is_printed s key file (op.Malformed major minor bad) moment = printed_fault _ s _ refl refl (lit< tt)
is_printed s key file (op.Unknown major minor) moment = printed_fault _ s _ refl refl (lit< tt)
is_printed s key file (op.Create access allocation attributes share disposition options path) moment = opened s _ (λ file information. tt)
is_printed s key file op.Close moment = on_any_document op.Close s file _ (λ bytes. printed_done op.Close _ _ tt tt tt (λ few. tt))
is_printed s key file (op.Read offset count) moment = printed_fault _ s _ refl refl (lit< tt)
is_printed s key file (op.Write offset bytes) moment = on_any_document _ s file _ (λ old. printed s file offset bytes old)
is_printed s key file (op.QueryFile class) moment = printed_fault _ s _ refl refl (lit< tt)
is_printed s key file (op.SetFile class buffer) moment = printed_fault _ s _ refl refl (lit< tt)
is_printed s key file (op.QueryVolume class) moment = printed_fault _ s _ refl refl (lit< tt)
is_printed s key file (op.SetVolume class buffer) moment = printed_fault _ s _ refl refl (lit< tt)
is_printed s key file (op.QueryDir class initial path) moment = printed_fault _ s _ refl refl (lit< tt)
is_printed s key file (op.Notify deep filter) moment = printed_fault _ s _ refl refl (lit< tt)
is_printed s key file (op.Control output code bytes) moment = printed_fault _ s _ refl refl (lit< tt)
is_printed s key file (op.Lock operation wait ranges) moment = printed_fault _ s _ refl refl (lit< tt)

pub printed_range : (s : PrinterState) (key : Key) (file : ℕ) (o : Op) (moment : ℕ) → SetsFew o → IsSteppedInRange (printer_step s key file o moment)
printed_range s key file o moment few =
    let is = is_printed s key file o moment in
    (subst IsAnswerInRange (sym is.answer) (is.range few), subst AreEndsInRange (sym is.ends) tt)

-- ---- as a device

none_parks : (job : Job) (reply : Reply) → Parks job [] (step.Reply reply) [] []
none_parks job reply = record { left = []; ended = (refl, refl); waits = refl; few = omega arith }

printed_parks : (job : Job) (came : Stepped PrinterState) → IsPrinted job.op came → Parks job [] came.answer came.ends []
printed_parks job came is = subst (λ (x : Step × List End). Parks job [] x.0 x.1 []) (sym (λ i. (is.answer i, is.ends i))) (none_parks job is.reply)

pub printers_step : IsDevice printer_step printer_cut printer_parked IsAnyPrinter
printers_step = record {
  stays = λ s key file o moment any. tt;
  parks = λ s job moment any. printed_parks job (printer_step s job.key job.file job.op moment) (is_printed s job.key job.file job.op moment);
  cut_stays = λ s any. tt;
  cancels = λ s any. record { ends = refl; none = refl };
}

abbrev IsAnswered : Job → Stepped PrinterState → Type 0
IsAnswered job came = IsAnswerTo job.op came.answer × Parks job [] came.answer came.ends []

pub printer_applies : (old : PrinterState) (planned : Planned) (moment : ℕ) (answer : Step) (ends : List End) (new : PrinterState) → printer_runs old planned moment answer ends new
    → (IsTrue planned.starved → IsTrue (is_starved answer)) → (planned.job.op ≡ op.Close → IsFalse (is_starved answer)) → Applies printer_runs printer_parked old planned moment answer ends new
printer_applies old planned moment answer ends new ran starved close = record {
  runs = ran;
  answers = (by (is_starved answer) ran).0;
  parks = (by (is_starved answer) ran).1;
  starved = starved;
  close = close;
}
  where
    at_once : (came : Stepped PrinterState) → IsPrinted planned.job.op came → IsAnswered planned.job came
    at_once came is = (subst (IsAnswerTo planned.job.op) (sym is.answer) is.suits, printed_parks planned.job came is)

    by : (b : Bool) → cond b (record { state = old; answer = step.Reply (fault no_memory); ends = [] }) (printer_step old planned.job.key planned.job.file planned.job.op moment) ≡ record { state = new; answer = answer; ends = ends }
        → IsAnswered planned.job (record { state = new; answer = answer; ends = ends })
    by true e = subst (IsAnswered planned.job) e (fault_answers planned.job.op no_memory refl, none_parks planned.job (fault no_memory))
    by false e = subst (IsAnswered planned.job) e (at_once (printer_step old planned.job.key planned.job.file planned.job.op moment) (is_printed old planned.job.key planned.job.file planned.job.op moment))

pub printers_once : (opening : PrinterState) (requests : Key → Request) (journal : List Item) → IsLawful journal → HaveOneReplyEach (replies_by printer_step printer_cut requests opening journal)
printers_once opening requests journal lawful = one_reply_each printer_step printer_cut printer_parked IsAnyPrinter printers_step requests opening journal tt refl lawful.runs_once
