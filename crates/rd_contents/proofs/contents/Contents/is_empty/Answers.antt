use Rattle.std.proofs.Common.{◌≡◌, ◌∙◌, sym, ap, arith, ℕ, List, length}
use Rattle.std.proofs.lemmas.Bool.Decides.{nat_tests}
use Rattle.rd_contents.specs.Pages.{bytes_from}
use Rattle.rd_contents.proofs.PageLemmas.{length-bytes_from}
use Rattle.rd_contents.proofs.ContentsLemmas.{shows_none}
use Rattle.rd_contents.proofs.contents.Contents.is_empty.Goals as goal

pub returns : goal.returns
returns c =
    let pages = c.self.inside.pages.entries in
    let end : ℕ = c.self.inside.end in (
      (λ yes. let none : end ≡ 0 = grind (arith, nat_tests) in sym c.self.view_is ∙ ap (λ (n : ℕ). bytes_from pages 0 n) none ∙ shows_none pages),
      (λ is. let none : end ≡ 0 = sym (length-bytes_from pages 0 end) ∙ ap (λ (file : List ℕ). length file) (c.self.view_is ∙ is) in grind (arith, nat_tests)),
    )
