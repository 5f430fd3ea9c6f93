use Rattle.std.proofs.Common.{◌≡◌, ◌∙◌, refl, sym, ap, arith, ℕ, ◌+◌, ◌-◌, List, length, take, drop}
use Rattle.std.proofs.lemmas.List.{length-take, length-drop}
use Rattle.rd_contents.specs.Pages.{byte_at, over}
use Rattle.rd_contents.proofs.OverLemmas.{over_none, over_more, over_same}
use Rattle.rd_contents.proofs.PageLemmas.{kept_to, kept_same}
use Rattle.rd_contents.proofs.pages.put.Goals as goal

pub loop-done-init : goal.loop-done-init
loop-done-init c = record { within = omega arith; lengths = λ k. refl; bytes = λ i. sym (over_none c.args.offset 0 c.args.bytes.now (byte_at c.args.pages.now.entries) i refl); lacks = λ k h. h }

pub put_piece-requires-clause-kept : goal.put_piece-requires-clause-kept
put_piece-requires-clause-kept c =
    let at : ℕ = c.args.offset + c.loop-done.done in
    let piece : ℕ = c.min-piece.result in
    let part : List ℕ = take (c.loop-done.done + piece - c.loop-done.done) (drop c.loop-done.done c.args.bytes.now) in
    let long : length part ≡ piece = omega (arith, length-take (c.loop-done.done + piece - c.loop-done.done) (drop c.loop-done.done c.args.bytes.now), length-drop c.loop-done.done c.args.bytes.now) in
    omega (
      arith,
      kept_to c.loop-done.pages.entries at piece (omega arith) (omega arith)
          (kept_same c.args.pages.now.entries c.loop-done.pages.entries (at + (piece - 1)) c.loop-done.invariant.lengths (c.requires.kept (at + (piece - 1)) (omega arith) (omega arith))),
    )

pub loop-done-preserved : goal.loop-done-preserved
loop-done-preserved c =
    let at : ℕ = c.args.offset + c.loop-done.done in
    let piece : ℕ = c.min-piece.result in
    let rest : List ℕ = drop c.loop-done.done c.args.bytes.now in
    let wide : c.loop-done.done + piece - c.loop-done.done ≡ piece = omega arith in
    let long : length (take piece rest) ≡ piece = omega (arith, length-take piece rest, length-drop c.loop-done.done c.args.bytes.now) in
    record {
      within = omega arith;
      lengths = λ k. c.put_piece.ensures.lengths k ∙ c.loop-done.invariant.lengths k;
      bytes = λ i. over_more (byte_at c.put_piece.new.pages.entries) (byte_at c.args.pages.now.entries) c.args.offset c.loop-done.done piece c.args.bytes.now i
          (c.put_piece.ensures.bytes i
          ∙ ap (λ (n : ℕ). over at (length (take n rest)) (take n rest) (byte_at c.loop-done.pages.entries) i) wide
          ∙ ap (λ (n : ℕ). over at n (take piece rest) (byte_at c.loop-done.pages.entries) i) long
          ∙ over_same at piece (take piece rest) _ _ i c.loop-done.invariant.bytes);
      lacks = λ k h. c.put_piece.ensures.within k (c.loop-done.invariant.lacks k h);
    }
