use Rattle.std.proofs.Common.{◌≡◌, ◌∙◌, ap, arith, ℕ, ◌<◌, List, length, Bool, false, eqb}
use Rattle.std.proofs.lemmas.Bool.Decides.{nat_tests}
use Rattle.rd_contents.specs.Contents.{written}
use Rattle.rd_contents.specs.Pages.{bytes_from}
use Rattle.rd_contents.proofs.OverLemmas.{cond_before, cond_past, over_same}
use Rattle.rd_contents.proofs.ContentsLemmas.{same_shown, written_clear, written_shown}
use Rattle.rd_contents.proofs.contents.Contents.write.Goals as goal

-- what was made room for is given back
pub invariant_of-self : goal.invariant_of-self
invariant_of-self c = record { short = omega arith; clear = λ i h. c.cut.ensures.bytes i ∙ cond_past _ 0 i c.self.inside.end h; within = c.cut.ensures.within }

pub returns-then-is_err-clause-err : goal.returns-then-is_err-clause-err
returns-then-is_err-clause-err c = same_shown c.self.inside.pages.entries c.cut.new.pages.entries c.self.inside.end
    (λ i h. c.cut.ensures.bytes i ∙ cond_before _ 0 i c.self.inside.end h ∙ c.make_room.ensures.bytes i) ∙ c.self.view_is

pub invariant_of-self-2 : goal.invariant_of-self-2
invariant_of-self-2 c =
    let bytes : List ℕ = c.args.bytes.now in
    record {
      short = omega arith;
      clear = λ i h. written_clear c.self.inside.pages.entries c.put.new.pages.entries c.self.inside.end c.args.offset bytes c.self.invariant.clear
          (λ j. c.put.ensures.bytes j ∙ over_same c.args.offset (length bytes) bytes _ _ j c.make_room.ensures.bytes) i (omega arith);
      within = λ k h. c.put.ensures.within k (c.make_room.ensures.within k (omega arith) (c.self.invariant.within k (omega arith)));
    }

some : (n : ℕ) (b : Bool) → b ≡ eqb n 0 → b ≡ false → 0 < n
some n b is not = grind (arith, nat_tests)

pub returns-clause-written : goal.returns-clause-written
returns-clause-written c =
    let bytes : List ℕ = c.args.bytes.now in
    let pages = c.put.new.pages.entries in
    ap (λ (end : ℕ). bytes_from pages 0 end) c.max-self-inside.ensures
    ∙ written_shown c.self.inside.pages.entries pages c.self.inside.end c.args.offset bytes (some (length bytes) c.is_empty.result c.is_empty.ensures c.if-is_empty.false) c.self.invariant.clear
    (λ j. c.put.ensures.bytes j ∙ over_same c.args.offset (length bytes) bytes _ _ j c.make_room.ensures.bytes)
    ∙ ap (λ (file : List ℕ). written file c.args.offset bytes) c.self.view_is
