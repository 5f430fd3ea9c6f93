use Rattle.std.proofs.Common.{◌≡◌, ◌≤◌, ℕ, ◌+◌, ◌++◌, arith, length, length-take, refl, List, take, ◌%◌, ◌^◌, ◌∙◌, ap, sym}
use Rattle.std.proofs.lemmas.Grind.{common_steps}
use Rattle.rd_chunk.proofs.StandsForLemmas.{data_stands}
use Rattle.rd_chunk.specs.Kept.{held_of}
use Rattle.std.specs.Prelude.{None}
use Rattle.rd_chunk.proofs.progress.take_data.Goals as goal

pub returns-clause-takes : goal.returns-clause-takes
returns-clause-takes c = λ before bytes s.
    let n = c.min-count.result in
    let d : List ℕ = take c.min-count.result c.args.piece.now in
    let fits : length d ≤ c.args.progress.left = omega (arith, length-take c.min-count.result c.args.piece.now) in
    let is : length d ≡ c.min-count.result = omega (arith, length-take c.min-count.result c.args.piece.now) in
    let joined : c.append.new.message.items ≡ c.args.message.now.items ++ take c.min-count.result c.args.piece.now = grind (arith, common_steps, c.in_ok-append.ensures.ok) in
    let taken : c.with_data.result.taken ≡ (c.args.progress.taken + length d) % 2 ^ 64 = c.with_data.ensures.taken ∙ ap (λ (k : ℕ). (c.args.progress.taken + k) % 2 ^ 64) (sym is) in
    data_stands (held_of c.args.progress c.args.message.now.items None) (held_of c.with_data.result c.append.new.message.items None) before bytes d s
    c.requires.in_data fits joined c.with_data.ensures.length (omega (arith, is)) c.with_data.ensures.head c.with_data.ensures.next taken refl
