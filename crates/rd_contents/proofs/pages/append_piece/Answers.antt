use Rattle.std.proofs.Common.{◌∙◌, ap, arith, ℕ, ◌-◌, ◌++◌, List, take, drop, append_assoc}
use Rattle.std.specs.Prelude.{replicate}
use Rattle.std.proofs.lemmas.List.{take-replicate}
use Rattle.rd_contents.specs.Pages.{page_len}
use Rattle.rd_contents.proofs.PageLemmas.{piece_is}
use Rattle.rd_contents.proofs.pages.append_piece.Goals as goal

pub returns-clause-bytes : goal.returns-clause-bytes
returns-clause-bytes c =
    let held : ℕ = c.min-end.result - c.min-start.result in
    let before : List ℕ = c.args.out.now.items in
    let part : List ℕ = take held (drop c.min-start.result c.kept_page-page.result.now) in
    c.put_bytes-2.ensures.bytes
    ∙ ap (λ (xs : List ℕ). xs ++ take (c.args.count - held) (replicate page_len 0)) c.put_bytes.ensures.bytes
    ∙ ap (λ (xs : List ℕ). before ++ part ++ xs) (take-replicate (c.args.count - held) page_len 0 (omega arith))
    ∙ append_assoc before part (replicate (c.args.count - held) 0)
    ∙ ap (λ (xs : List ℕ). before ++ xs) (piece_is c.args.pages.now.entries c.args.place c.args.count c.min-start.result c.min-end.result c.kept_page-page.result.now c.kept_page-page.ensures c.requires.fits c.min-start.ensures c.min-end.ensures)
