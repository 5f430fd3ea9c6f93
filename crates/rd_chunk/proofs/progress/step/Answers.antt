use Rattle.std.proofs.Common.{◌≡◌, ℕ, ap, ◌∙◌, arith, length, rules, false}
use Rattle.rd_chunk.specs.Standing.{is_complete}
use Rattle.rd_chunk.proofs.progress.step.Goals as goal

pub returns-in-Err-clause-fault : goal.returns-in-Err-clause-fault
returns-in-Err-clause-fault c =
    let left : c.args.progress.now.left ≡ 0 = omega arith in
    let len : length c.args.message.now.items ≡ c.len.result = search rules in
    let lacking : is_complete c.args.progress.now.left c.len.result c.args.progress.now.length ≡ false = ap (λ (k : ℕ). is_complete c.args.progress.now.left k c.args.progress.now.length) c.len.ensures ∙ c.requires.lacking in
    (c.min-count.result, omega arith, c.in-Err.ensures.fault c.args.message.now.items len lacking)
