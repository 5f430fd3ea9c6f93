use Rattle.std.proofs.Common.{arith, refl, ◌≡◌, ◌∙◌, ap, ℕ, ◌-◌, ◌+◌, List, length, get_or}
use borrow.Rule.Slice.PartMut.{put_mid}
use Rattle.rd_contents.proofs.OverLemmas.{put_mid-over}
use Rattle.rd_contents.proofs.pages.overwrite.Goals as goal

pub returns : goal.returns
returns c i =
    let count : ℕ = length c.args.piece.now in
    let wide : c.args.within + count - c.args.within ≡ count = omega arith in
    ap (λ (k : ℕ). get_or (put_mid c.args.within k c.args.page.now c.copy_from_slice.new.self) i 0) wide
    ∙ ap (λ (ys : List ℕ). get_or (put_mid c.args.within count c.args.page.now ys) i 0) c.copy_from_slice.ensures.after
    ∙ put_mid-over c.args.page.now c.args.piece.now c.args.within count i refl c.requires
