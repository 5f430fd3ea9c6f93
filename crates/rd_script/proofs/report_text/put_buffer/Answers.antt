use Rattle.std.proofs.Common.{◌≡◌, ◌++◌, OnOk, ℕ, List, length, ap, subst, ◌∙◌}
use Rattle.std.specs.Int.{w32, to_le_bytes}
use Rattle.std.specs.String.{string_bytes}
use Rattle.hex.specs.Hex.{encode_lower}
use Rattle.rd_script.proofs.ReportLemmas.{digits_behind}
use Rattle.rd_script.proofs.report_text.put_buffer.Goals as goal

pub returns : goal.returns
returns c =
    let before = string_bytes c.args.text.now in
    let bytes = c.args.bytes.now in
    let first : string_bytes c.put_digits.new.text ≡ before ++ encode_lower (to_le_bytes w32 (length bytes)) =
    c.in_ok-put_digits.ensures ∙ ap (λ (xs : List ℕ). before ++ encode_lower xs) c.to_le_bytes-length.ensures in
    subst (λ (xs : List ℕ). OnOk c.put_digits-2.result (string_bytes c.put_digits-2.new.text ≡ xs)) (digits_behind before (string_bytes c.put_digits.new.text) (to_le_bytes w32 (length bytes)) bytes first) c.put_digits-2.ensures
