use Rattle.std.proofs.Common.{◌≡◌, ◌∙◌, sym, ap, subst, arith, ◌≤◌, ℕ, List, length}
use Rattle.std.specs.Int.{div_ceil}
use Rattle.std.specs.Prelude.{replicate}
use Rattle.rd_contents.specs.Pages.{page_len}
use Rattle.rd_contents.proofs.PageLemmas.{length-bytes_from}
use Rattle.rd_contents.proofs.CountLemmas.{few_pages}
use Rattle.rd_contents.proofs.ContentsLemmas.{shows_zeros}
use Rattle.rd_contents.proofs.contents.Contents.pages.Goals as goal

pub returns-clause-most : goal.returns-clause-most
returns-clause-most c =
    let pages = c.self.inside.pages.entries in
    let end : ℕ = c.self.inside.end in
    let long : end ≡ length c.args.self.now = sym (length-bytes_from pages 0 end) ∙ ap (λ (file : List ℕ). length file) c.self.view_is in
    subst (λ (n : ℕ). c.len.result ≤ div_ceil n page_len) long (omega (arith, few_pages pages end c.len.ensures.ordered c.self.invariant.within))

pub returns-clause-none : goal.returns-clause-none
returns-clause-none c none =
    let pages = c.self.inside.pages.entries in
    let end : ℕ = c.self.inside.end in
    let long : end ≡ length c.args.self.now = sym (length-bytes_from pages 0 end) ∙ ap (λ (file : List ℕ). length file) c.self.view_is in
    sym c.self.view_is ∙ shows_zeros pages end (omega arith) ∙ ap (λ (n : ℕ). replicate n 0) long
