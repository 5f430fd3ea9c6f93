use Rattle.std.proofs.Common.{◌≡◌, arith, length, sym, ◌∙◌, inl, inr, ◌⊎◌}
use Rattle.std.proofs.lemmas.Bool.{cases_eq}
use Rattle.rd_chunk.specs.Kept.{head_of}
use Rattle.rd_chunk.proofs.TakesLemmas.{tests, head_in_range, head_takes, head_faulty}
use Rattle.rd_chunk.proofs.progress.take_head.Goals as goal
use Rattle.rd_chunk.proofs.FrameLemmas.{some_is_some}

pub returns-in-None : goal.returns-in-None
returns-in-None c =
    let p = c.args.progress in
    let next = c.with_bytes-next in
    let count : length (head_of p) ≡ p.have = c.requires.in_range.count in
    let test = tests p.have next.result.have (omega (arith, next.ensures.have, c.requires.fits)) in
    let at_4 = λ (e : next.result.have ≡ 4). sym (c.fault.ensures.size e) ∙ c.in-None.is in
    let at_12 = λ (e : next.result.have ≡ 12). sym (c.fault.ensures.head e) ∙ c.in-None.is in
    record {
      in_range = head_in_range p next.result c.opened.result c.args.joined c.args.bytes.now c.requires.in_range c.requires.in_head count test.0 test.1
          next.ensures.head next.ensures.have next.ensures.left at_4 at_12
          c.opened.ensures.head c.opened.ensures.have c.opened.ensures.early c.opened.ensures.left;
      counts = c.opened.ensures.taken ∙ next.ensures.taken;
      takes = λ message e lacking. head_takes p next.result message c.args.joined c.args.bytes.now c.requires.in_range c.requires.in_head count test.0 test.1 e lacking
          next.ensures.head next.ensures.have next.ensures.length next.ensures.taken c.opened.result next.ensures.left at_4 at_12
          c.opened.ensures.head c.opened.ensures.have c.opened.ensures.early c.opened.ensures.left c.opened.ensures.length c.opened.ensures.taken;
      fault = tt;
    }

pub returns-in-Some : goal.returns-in-Some
returns-in-Some c =
    let p = c.args.progress in
    let next = c.with_bytes-next in
    let count : length (head_of p) ≡ p.have = c.requires.in_range.count in
    let test = tests p.have next.result.have (omega (arith, next.ensures.have, c.requires.fits)) in
    let only : (next.result.have ≡ 4) ⊎ (next.result.have ≡ 12) = elim (cases_eq next.result.have 4) [
      | inl four ↦ inl four
      | inr ne ↦ elim (cases_eq next.result.have 12) [
        | inl twelve ↦ inr twelve
        | inr other ↦ absurd (some_is_some c.fault.result c.in-Some.row c.in-Some.is (c.fault.ensures.other ne other))
      ]
    ] in
    record {
      in_range = tt;
      counts = tt;
      takes = tt;
      fault = λ message e lacking. head_faulty p next.result message c.args.joined c.args.bytes.now c.requires.in_range c.requires.in_head count test.0 test.1 e lacking
          next.ensures.head next.ensures.have next.ensures.length next.ensures.taken c.in-Some.row c.place.result
          (λ four. sym (c.fault.ensures.size four) ∙ c.in-Some.is) (λ twelve. sym (c.fault.ensures.head twelve) ∙ c.in-Some.is)
          only c.place.ensures.fits c.place.ensures.at c.place.ensures.why;
    }
