-- How the command `audit` ends, from how it came out.
use Rattle.std.proofs.Common.{◌≡◌, ◌∙◌, ℕ, ◌+◌, ◌^◌, ◌<◌, ◌≤◌, List, ◌++◌, length, append-nil, length-append, Option, Some, None, refl, sym, ap, subst, inl, inr, arith}
use Rattle.std.proofs.lemmas.Option.{same_Some}
use Rattle.std.specs.Prelude.{Result, Ok, Err}
use Rattle.std.specs.Io.KnownBytes.{Consumes, IsAtEnd}
use Rattle.rd_audit.specs.Audit.{Audits}
use Rattle.rd_audit.specs.declared.no.AuditNo.{AuditNo}
use Rattle.rd_audit.specs.declared.no.AuditNo.TheVariants as no
use Rattle.rd_audit.specs.declared.verdict.Verdict.{Verdict}
use Rattle.rd_audit.specs.declared.verdict.Verdict.TheVariants as verdict
use Rattle.rd_decode.specs.declared.fault.Fault.{Fault}
use Rattle.rd_script.specs.declared.why.LineWhy.{LineWhy}
use Rattle.rd_cli.specs.Auditing.{ComesOutOfAudit, FailedToSayYes, HasFirst, IsEndOfAudit, IsJudged, IsTooLong, SaysYes, StoppedAuditing, audit_stop, max_file}
use Rattle.rd_cli.specs.Outside.{HasOneFault, IsFaultless, Read, ReadToEnd, Stream}
use Rattle.rd_cli.specs.Stops.{Prints, Says, StopsWith, fault_line, long_line, refused_line, verdict_line}
use Rattle.rd_cli.specs.declared.stop.Stop.{Stop}
use Rattle.rd_cli.specs.declared.stop.Stop.TheVariants as stop

-- the whole input, which isn't too long, is judged; `lent` is what the auditor got
pub is_judged : {S : Type 0} (input input_after : Stream S) (bytes lent : List ℕ) (r : Result Verdict AuditNo) → Read input input_after bytes → (length bytes ≤ 2 ^ 30 → IsAtEnd input_after.bytes) → lent ≡ bytes → length lent ≤ 2 ^ 30
    → Audits lent r → IsJudged input input_after r
is_judged input input_after bytes lent r read whole same short judged =
    let own : length bytes ≤ 2 ^ 30 = subst (λ (b : List ℕ). length b ≤ 2 ^ 30) same short in
    record { bytes = bytes; read = record { read = read; ended = whole own }; short = own; judged = subst (λ (b : List ℕ). Audits b r) same judged }

-- how the command came out of whose file all belongs together, by what came of the printing
pub printed : {T S K : Type 0} (input input_after : Stream S) (output output_after : Stream K) (r : Result T Stop) → IsJudged input input_after (Ok verdict.Yes) → Prints (verdict_line verdict.Yes) output output_after r
    → ComesOutOfAudit input input_after output output_after r
printed input input_after output output_after (Ok done) judged prints = (judged, prints)
printed input input_after output output_after (Err stop.Output) judged prints = (judged, prints)
printed input input_after output output_after (Err stop.Memory) judged prints = (judged.read.read.faultless, prints)
printed input input_after output output_after (Err stop.Words) judged prints = absurd prints
printed input input_after output output_after (Err (stop.Line line why)) judged prints = absurd prints
printed input input_after output output_after (Err stop.Input) judged prints = absurd prints
printed input input_after output output_after (Err stop.Recording) judged prints = absurd prints
printed input input_after output output_after (Err (stop.Fault fault)) judged prints = absurd prints
printed input input_after output output_after (Err (stop.Channel channel at message why)) judged prints = absurd prints
printed input input_after output output_after (Err stop.Link) judged prints = absurd prints
printed input input_after output output_after (Err stop.Long) judged prints = absurd prints
printed input input_after output output_after (Err stop.Folder) judged prints = absurd prints
printed input input_after output output_after (Err (stop.No found)) judged prints = absurd prints

-- a file that can't be judged
unjudged : {S K : Type 0} (input input_after : Stream S) (output : Stream K) (cause : AuditNo) → IsJudged input input_after (Err cause) → StoppedAuditing input input_after output output (audit_stop cause)
unjudged input input_after output (no.Line line why) judged = (judged, refl)
unjudged input input_after output (no.Bad fault) judged = (judged, refl)
unjudged input input_after output no.Memory judged = (judged.read.read.faultless, refl)

pub stopped_unjudged : {S K : Type 0} (input input_after : Stream S) (output : Stream K) (cause : AuditNo) (s : Stop) → s ≡ audit_stop cause → IsJudged input input_after (Err cause) → StoppedAuditing input input_after output output s
stopped_unjudged input input_after output cause s is judged = subst (λ (e : Stop). StoppedAuditing input input_after output output e) (sym is) (unjudged input input_after output cause judged)

-- ---- how long the input is
-- what was read to the end of an input that can be told is all of it
whole_read : {S : Type 0} (input input_after : Stream S) (bytes whole : List ℕ) → ReadToEnd input input_after bytes → input.bytes ≡ Some whole → whole ≡ bytes
whole_read input input_after bytes whole read told = go input.bytes input_after.bytes told read.read.taken read.ended
  where
    go : (left rest : Option (List ℕ)) → left ≡ Some whole → Consumes left rest bytes → IsAtEnd rest → whole ≡ bytes
    go None rest is taken ended = absurd (cc)
    go (Some xs) None is taken ended = absurd taken
    go (Some xs) (Some ys) is taken ended = sym (same_Some _ _ is) ∙ taken ∙ ap (λ (l : List ℕ). bytes ++ l) ended ∙ append-nil bytes

-- so one that is judged isn't too long
judged_short : {S : Type 0} (input input_after : Stream S) (r : Result Verdict AuditNo) (whole : List ℕ) → IsJudged input input_after r → input.bytes ≡ Some whole → max_file < length whole → ⊥
judged_short input input_after r whole judged told over =
    let same : length whole ≡ length judged.bytes = ap (λ (l : List ℕ). length l) (whole_read input input_after judged.bytes whole judged.read told) in
    let short = judged.short in omega (arith, same, short, over)

-- and one of which too much was read is
read_short : {S : Type 0} (input input_after : Stream S) (whole : List ℕ) → IsTooLong input input_after → input.bytes ≡ Some whole → length whole ≤ max_file → ⊥
read_short input input_after whole over told short = go input.bytes input_after.bytes told over.read.taken
  where
    go : (left rest : Option (List ℕ)) → left ≡ Some whole → Consumes left rest over.bytes → ⊥
    go None rest is taken = absurd (cc)
    go (Some xs) None is taken = absurd taken
    go (Some xs) (Some ys) is taken =
        let same : length whole ≡ length over.bytes + length ys = ap (λ (l : List ℕ). length l) (sym (same_Some _ _ is) ∙ taken) ∙ length-append over.bytes ys in
        let long = over.long in omega (arith, same, long, short)

-- ---- the end, by the status
-- Where all belongs together it ends with 0.
pub yes_end : {S K : Type 0} (input input_after : Stream S) (output output_after : Stream K) → SaysYes input input_after output output_after → IsEndOfAudit input input_after output output_after 0
yes_end input input_after output output_after says = record {
  known = inl refl;
  belongs = λ zero. says;
  refused = λ one. absurd (omega (arith, one));
  unread = λ two. absurd (omega (arith, two));
  unwritten = λ three. absurd (omega (arith, three));
  faulty = λ four. absurd (omega (arith, four));
  starved = λ six. absurd (omega (arith, six));
  long = λ seven. absurd (omega (arith, seven));
  apart = λ nine. absurd (omega (arith, nine));
  too_long = λ bytes told over. absurd (judged_short input input_after (Ok verdict.Yes) bytes says.0 told over);
  not_long = λ bytes told short seven. absurd (omega (arith, seven));
}

refused_end : {S K : Type 0} (input input_after : Stream S) (output output_after : Stream K) (status : ℕ) (line : ℕ) (why : LineWhy) → status ≡ 1 → IsJudged input input_after (Err (no.Line line why)) → Says (refused_line line why) output output_after
    → IsEndOfAudit input input_after output output_after status
refused_end input input_after output output_after status line why is judged says = record {
  known = inr (inl is);
  belongs = λ zero. absurd (omega (arith, zero, is));
  refused = λ one. (line, why, judged, says);
  unread = λ two. absurd (omega (arith, two, is));
  unwritten = λ three. absurd (omega (arith, three, is));
  faulty = λ four. absurd (omega (arith, four, is));
  starved = λ six. absurd (omega (arith, six, is));
  long = λ seven. absurd (omega (arith, seven, is));
  apart = λ nine. absurd (omega (arith, nine, is));
  too_long = λ bytes told over. absurd (judged_short input input_after (Err (no.Line line why)) bytes judged told over);
  not_long = λ bytes told short seven. absurd (omega (arith, seven, is));
}

unread_end : {S K : Type 0} (input input_after : Stream S) (output output_after : Stream K) (status : ℕ) → status ≡ 2 → HasOneFault input input_after → output_after ≡ output → IsEndOfAudit input input_after output output_after status
unread_end input input_after output output_after status is failed silent = record {
  known = inr (inr (inl is));
  belongs = λ zero. absurd (omega (arith, zero, is));
  refused = λ one. absurd (omega (arith, one, is));
  unread = λ two. (failed, silent);
  unwritten = λ three. absurd (omega (arith, three, is));
  faulty = λ four. absurd (omega (arith, four, is));
  starved = λ six. absurd (omega (arith, six, is));
  long = λ seven. absurd (omega (arith, seven, is));
  apart = λ nine. absurd (omega (arith, nine, is));
  too_long = λ bytes told over. inr (inl is);
  not_long = λ bytes told short seven. absurd (omega (arith, seven, is));
}

unwritten_end : {S K : Type 0} (input input_after : Stream S) (output output_after : Stream K) (status : ℕ) → status ≡ 3 → FailedToSayYes input input_after output output_after → IsEndOfAudit input input_after output output_after status
unwritten_end input input_after output output_after status is failed = record {
  known = inr (inr (inr (inl is)));
  belongs = λ zero. absurd (omega (arith, zero, is));
  refused = λ one. absurd (omega (arith, one, is));
  unread = λ two. absurd (omega (arith, two, is));
  unwritten = λ three. failed;
  faulty = λ four. absurd (omega (arith, four, is));
  starved = λ six. absurd (omega (arith, six, is));
  long = λ seven. absurd (omega (arith, seven, is));
  apart = λ nine. absurd (omega (arith, nine, is));
  too_long = λ bytes told over. absurd (judged_short input input_after (Ok verdict.Yes) bytes failed.0 told over);
  not_long = λ bytes told short seven. absurd (omega (arith, seven, is));
}

fault_end : {S K : Type 0} (input input_after : Stream S) (output output_after : Stream K) (status : ℕ) (fault : Fault) → status ≡ 4 → IsJudged input input_after (Err (no.Bad fault)) → Says (fault_line fault) output output_after
    → IsEndOfAudit input input_after output output_after status
fault_end input input_after output output_after status fault is judged says = record {
  known = inr (inr (inr (inr (inl is))));
  belongs = λ zero. absurd (omega (arith, zero, is));
  refused = λ one. absurd (omega (arith, one, is));
  unread = λ two. absurd (omega (arith, two, is));
  unwritten = λ three. absurd (omega (arith, three, is));
  faulty = λ four. (fault, judged, says);
  starved = λ six. absurd (omega (arith, six, is));
  long = λ seven. absurd (omega (arith, seven, is));
  apart = λ nine. absurd (omega (arith, nine, is));
  too_long = λ bytes told over. absurd (judged_short input input_after (Err (no.Bad fault)) bytes judged told over);
  not_long = λ bytes told short seven. absurd (omega (arith, seven, is));
}

-- Want of memory ends with 6.
pub starved_end : {S K : Type 0} (input input_after : Stream S) (output output_after : Stream K) (status : ℕ) → status ≡ 6 → IsFaultless input input_after → output_after ≡ output → IsEndOfAudit input input_after output output_after status
starved_end input input_after output output_after status is faultless silent = record {
  known = inr (inr (inr (inr (inr (inl is)))));
  belongs = λ zero. absurd (omega (arith, zero, is));
  refused = λ one. absurd (omega (arith, one, is));
  unread = λ two. absurd (omega (arith, two, is));
  unwritten = λ three. absurd (omega (arith, three, is));
  faulty = λ four. absurd (omega (arith, four, is));
  starved = λ six. (faultless, silent);
  long = λ seven. absurd (omega (arith, seven, is));
  apart = λ nine. absurd (omega (arith, nine, is));
  too_long = λ bytes told over. inr (inr is);
  not_long = λ bytes told short seven. absurd (omega (arith, seven, is));
}

long_end : {S K : Type 0} (input input_after : Stream S) (output output_after : Stream K) (status : ℕ) → status ≡ 7 → IsTooLong input input_after → Says long_line output output_after → IsEndOfAudit input input_after output output_after status
long_end input input_after output output_after status is too_long says = record {
  known = inr (inr (inr (inr (inr (inr (inl is))))));
  belongs = λ zero. absurd (omega (arith, zero, is));
  refused = λ one. absurd (omega (arith, one, is));
  unread = λ two. absurd (omega (arith, two, is));
  unwritten = λ three. absurd (omega (arith, three, is));
  faulty = λ four. absurd (omega (arith, four, is));
  starved = λ six. absurd (omega (arith, six, is));
  long = λ seven. (too_long, says);
  apart = λ nine. absurd (omega (arith, nine, is));
  too_long = λ bytes told over. inl is;
  not_long = λ bytes told short seven. absurd (read_short input input_after bytes too_long told short);
}

no_end : {S K : Type 0} (input input_after : Stream S) (output output_after : Stream K) (status : ℕ) (found : Verdict) → status ≡ 9 → HasFirst input input_after found → Says (verdict_line found) output output_after
    → IsEndOfAudit input input_after output output_after status
no_end input input_after output output_after status found is first says = record {
  known = inr (inr (inr (inr (inr (inr (inr is))))));
  belongs = λ zero. absurd (omega (arith, zero, is));
  refused = λ one. absurd (omega (arith, one, is));
  unread = λ two. absurd (omega (arith, two, is));
  unwritten = λ three. absurd (omega (arith, three, is));
  faulty = λ four. absurd (omega (arith, four, is));
  starved = λ six. absurd (omega (arith, six, is));
  long = λ seven. absurd (omega (arith, seven, is));
  apart = λ nine. (found, first, says);
  too_long = λ bytes told over. absurd (judged_short input input_after (Ok found) bytes first.1 told over);
  not_long = λ bytes told short seven. absurd (omega (arith, seven, is));
}

-- How the command ends, from how it stopped and what was said of it.
pub stopped_end : {S K : Type 0} (input input_after : Stream S) (output middle output_after : Stream K) (s : Stop) (status : ℕ)
    → StoppedAuditing input input_after output middle s → StopsWith s middle output_after status → IsEndOfAudit input input_after output output_after status
stopped_end input input_after output middle output_after (stop.Line line why) status (judged, silent) (inl said) = refused_end _ _ _ _ status line why said.0 judged (subst (λ (o : Stream _). Says (refused_line line why) o output_after) silent said.1)
stopped_end input input_after output middle output_after (stop.Line line why) status (judged, silent) (inr starved) = starved_end _ _ _ _ status starved.0 judged.read.read.faultless (starved.1 ∙ silent)
stopped_end input input_after output middle output_after stop.Input status (failed, silent) said = unread_end _ _ _ _ status said.0 failed (said.1 ∙ silent)
stopped_end input input_after output middle output_after stop.Output status failed said = unwritten_end _ _ _ _ status said.0 (subst (λ (o : Stream _). FailedToSayYes input input_after output o) (sym said.1) failed)
stopped_end input input_after output middle output_after (stop.Fault fault) status (judged, silent) (inl said) = fault_end _ _ _ _ status fault said.0 judged (subst (λ (o : Stream _). Says (fault_line fault) o output_after) silent said.1)
stopped_end input input_after output middle output_after (stop.Fault fault) status (judged, silent) (inr starved) = starved_end _ _ _ _ status starved.0 judged.read.read.faultless (starved.1 ∙ silent)
stopped_end input input_after output middle output_after stop.Memory status (faultless, silent) said = starved_end _ _ _ _ status said.0 faultless (said.1 ∙ silent)
stopped_end input input_after output middle output_after stop.Long status (too_long, silent) (inl said) = long_end _ _ _ _ status said.0 too_long (subst (λ (o : Stream _). Says long_line o output_after) silent said.1)
stopped_end input input_after output middle output_after stop.Long status (too_long, silent) (inr starved) = starved_end _ _ _ _ status starved.0 too_long.read.faultless (starved.1 ∙ silent)
stopped_end input input_after output middle output_after (stop.No found) status (first, silent) (inl said) = no_end _ _ _ _ status found said.0 first (subst (λ (o : Stream _). Says (verdict_line found) o output_after) silent said.1)
stopped_end input input_after output middle output_after (stop.No found) status (first, silent) (inr starved) = starved_end _ _ _ _ status starved.0 first.1.read.read.faultless (starved.1 ∙ silent)
stopped_end input input_after output middle output_after stop.Words status stopped said = absurd stopped
stopped_end input input_after output middle output_after stop.Recording status stopped said = absurd stopped
stopped_end input input_after output middle output_after (stop.Channel channel at message why) status stopped said = absurd stopped
stopped_end input input_after output middle output_after stop.Link status stopped said = absurd stopped
stopped_end input input_after output middle output_after stop.Folder status stopped said = absurd stopped
