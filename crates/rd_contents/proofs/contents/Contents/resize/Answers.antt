use Rattle.std.proofs.Common.{◌≡◌, ◌∙◌, refl, ap, ℕ, List}
use Rattle.rd_contents.specs.Contents.{resized}
use Rattle.rd_contents.specs.Pages.{byte_at, bytes_from}
use Rattle.rd_contents.proofs.OverLemmas.{cond_before}
use Rattle.rd_contents.proofs.ContentsLemmas.{resized_shown}
use Rattle.rd_contents.proofs.contents.Contents.resize.Goals as goal
use Rattle.rd_contents.proofs.contents.Contents.resize.Goals.{then-end-self, else-end-self}

pub returns-clause-resized : goal.returns-clause-resized
returns-clause-resized c =
    let was : ℕ = c.self.inside.end in
    let old = c.self.inside.pages.entries in
    let shown = elim c.if-end-self.branch as (λ _. bytes_from c.if-end-self.self-inside.pages.entries 0 c.args.end ≡ resized (bytes_from old 0 was) c.args.end) [
      | then-end-self w ↦ ap (λ inside. bytes_from inside.pages.entries 0 c.args.end) w.self-inside-is
          ∙ resized_shown old w.cut.new.pages.entries was c.args.end c.self.invariant.clear (λ i h. w.cut.ensures.bytes i ∙ cond_before (byte_at old i) 0 i c.args.end h)
      | else-end-self w ↦ ap (λ inside. bytes_from inside.pages.entries 0 c.args.end) w.self-inside-is ∙ resized_shown old old was c.args.end c.self.invariant.clear (λ i h. refl)
    ] in
    shown ∙ ap (λ (file : List ℕ). resized file c.args.end) c.self.view_is
