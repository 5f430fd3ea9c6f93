use Rattle.std.proofs.Common.{◌≤◌, ◌^◌, Ok, arith, length, refl, subst}
use Rattle.rd_audit.specs.Audit.{Audits}
use Rattle.rd_audit.specs.declared.verdict.Verdict.{Verdict}
use Rattle.rd_cli.proofs.AuditingLemmas.{is_judged, printed, stopped_unjudged}
use Rattle.rd_cli.proofs.auditing.judge.Goals as goal

pub returns-in-Yes : goal.returns-in-Yes
returns-in-Yes g c =
    let short : length c.as_slice.result.now ≤ 2 ^ 30 = omega (arith, c.as_slice.ensures.len, c.len.ensures, c.if-len-gt-MAX_FILE.false) in
    let yes = subst (λ (v : Verdict). Audits c.as_slice.result.now (Ok v)) c.in-Yes.is c.in-Ok.ensures in
    printed _ _ _ _ _ (is_judged _ _ _ _ _ c.in_ok-bytes.ensures.read c.in_ok-bytes.ensures.whole c.as_slice.ensures.value short yes) c.print_yes.ensures

pub returns : goal.returns
returns g c =
    let short : length c.as_slice.result.now ≤ 2 ^ 30 = omega (arith, c.as_slice.ensures.len, c.len.ensures, c.if-len-gt-MAX_FILE.false) in
    ((c.in_default.not-Yes, is_judged _ _ _ _ _ c.in_ok-bytes.ensures.read c.in_ok-bytes.ensures.whole c.as_slice.ensures.value short c.in-Ok.ensures), refl)

pub returns-in-Err : goal.returns-in-Err
returns-in-Err g c =
    let short : length c.as_slice.result.now ≤ 2 ^ 30 = omega (arith, c.as_slice.ensures.len, c.len.ensures, c.if-len-gt-MAX_FILE.false) in
    stopped_unjudged _ _ _ c.in-Err.no _ c.audit_stop.ensures (is_judged _ _ _ _ _ c.in_ok-bytes.ensures.read c.in_ok-bytes.ensures.whole c.as_slice.ensures.value short c.in-Err.ensures)
