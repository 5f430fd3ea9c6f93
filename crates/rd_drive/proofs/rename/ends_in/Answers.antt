use Rattle.std.proofs.Common.{◌≡◌, ◌∙◌, sym, ap, ◌-◌, [], length, get_or, bytes_eq, arith}
use Rattle.std.proofs.Math.Seq.{get_or-append_seam}
use Rattle.rd_dirinfo.specs.Naming.{Name}
use Rattle.rd_dirinfo.specs.Paths.{Names, last_name, parent}
use Rattle.rd_drive.proofs.TargetLemmas.{joined_at, parent_shorter}
use Rattle.rd_drive.proofs.rename.ends_in.Goals as goal

-- the last of a path's names
last_is : (p : Names) → (p ≡ [] → ⊥) → (x : Name) → x ≡ get_or p (length p - 1) x → x ≡ last_name p
last_is p some x is =
    let longer = parent_shorter p some in
    let at : length p - 1 ≡ length (parent p) = omega (arith, longer) in
    is ∙ (λ i. get_or (sym (joined_at p some) i) (at i) x) ∙ get_or-append_seam (parent p) (last_name p) [] x

pub returns-in-Some : goal.returns-in-Some
returns-in-Some c =
    let name_is = last_is c.args.path.now c.requires c.in-Some.last.now (c.in-Some.ensures.item.1 ∙ ap (λ (p : Names). get_or p (length p - 1) c.in-Some.last.now) c.names.ensures.names) in
    c.eq.ensures ∙ (λ i. bytes_eq (c.as_slice.ensures i) ((c.as_slice-in-Some.ensures ∙ name_is) i))
