use Rattle.std.proofs.Common.{◌≡◌, ◌++◌, codes, OnOk, ℕ, List, ◌^◌, ◌<◌, arith, subst}
use Rattle.std.specs.String.{string_bytes}
use Rattle.rd_base.specs.Digits.{eight_digits}
use Rattle.hex.specs.Hex.{encode_lower}
use Rattle.rd_irp.specs.Written.{body_bytes}
use Rattle.rd_script.specs.Report.{status_digits}
use Rattle.rd_script.proofs.ReportLemmas.{done_parts}
use Rattle.rd_script.proofs.StatusDigitsLemmas.{status_digits-shown}
use Rattle.rd_script.proofs.report_text.put_done.Goals as goal

pub returns : goal.returns
returns c =
    let before = string_bytes c.args.text.now in
    let middle = string_bytes c.write.new.self in
    let status = c.args.status in
    let body = encode_lower (body_bytes c.args.kind c.args.body.now) in
    let small : status.0 < 2 ^ 32 = omega arith in
    let shown : middle ≡ before ++ (codes " done " ++ (eight_digits status.0 ++ codes " ")) = c.in_ok-write.ensures.bytes in
    subst (λ (xs : List ℕ). OnOk c.put_body.result (string_bytes c.put_body.new.text ≡ xs)) (done_parts before middle (eight_digits status.0) (status_digits status) body (status_digits-shown status.0 small) shown) c.put_body.ensures
