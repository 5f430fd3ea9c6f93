use Rattle.std.proofs.Common.{◌∙◌, sym, not}
use Rattle.std.specs.Prelude.{nat_eq}
use Rattle.std.specs.Cmp.Lexicographic.{pointwise}
use Rattle.rd_folder_drive.specs.Telling.{rest_below}
use Rattle.rd_folder_drive.proofs.TellingLemmas.{other_name, rest_other, rest_step, same_name}
use Rattle.rd_folder_drive.proofs.telling.rest_below.Goals as goal

pub returns-then-ne : goal.returns-then-ne
returns-then-ne c =
    let x = c.in-Some.name.now in
    let y = c.in-Some-split_first.other.now in
    let apart = other_name x y c.ne.result (c.ne.ensures ∙ (λ i. not (pointwise nat_eq (c.as_slice.ensures i) (c.as_slice-in-Some.ensures i)))) c.if-ne.true in
    sym (rest_other x y c.in-Some.names.now c.in-Some-split_first.others.now apart)
    ∙ (λ i. rest_below (sym c.in-Some.ensures.cases.0 i) (sym c.in-Some-split_first.ensures.cases.0 i)) ∙ c.loop-name.invariant

pub loop-name-preserved : goal.loop-name-preserved
loop-name-preserved c =
    let x = c.in-Some.name.now in
    let y = c.in-Some-split_first.other.now in
    let same = same_name x y c.ne.result (c.ne.ensures ∙ (λ i. not (pointwise nat_eq (c.as_slice.ensures i) (c.as_slice-in-Some.ensures i)))) c.if-ne.false in
    sym (rest_step x y c.in-Some.names.now c.in-Some-split_first.others.now same)
    ∙ (λ i. rest_below (sym c.in-Some.ensures.cases.0 i) (sym c.in-Some-split_first.ensures.cases.0 i)) ∙ c.loop-name.invariant
