use Rattle.std.proofs.Common.{◌≡◌, ◌∙◌, ap, arith, ◌-◌, ◌++◌, ℕ, List}
use Rattle.std.specs.Prelude.{min}
use Rattle.rd_contents.specs.Contents.{part}
use Rattle.rd_contents.specs.Pages.{bytes_from}
use Rattle.rd_contents.proofs.ContentsLemmas.{part_shown}
use Rattle.rd_contents.proofs.contents.Contents.read_into.Goals as goal

pub returns-clause-read : goal.returns-clause-read
returns-clause-read c =
    let pages = c.self.inside.pages.entries in
    let before : List ℕ = c.args.out.now.items in
    let count : c.min-count.result ≡ min (c.self.inside.end - c.args.offset) c.args.length = omega arith in
    c.append.ensures
    ∙ ap (λ (xs : List ℕ). xs ++ bytes_from pages c.args.offset c.min-count.result) c.try_reserve.ensures.items
    ∙ ap (λ (n : ℕ). before ++ bytes_from pages c.args.offset n) count
    ∙ ap (λ (xs : List ℕ). before ++ xs) (part_shown pages c.self.inside.end c.args.offset c.args.length)
    ∙ ap (λ (file : List ℕ). before ++ part file c.args.offset c.args.length) c.self.view_is
