use Rattle.std.proofs.Common.{◌∙◌, sym, ap, arith, ◌+◌, ◌++◌, ℕ, List, append_assoc}
use Rattle.std.proofs.lemmas.List.{append-nil}
use Rattle.rd_contents.specs.Pages.{bytes_from}
use Rattle.rd_contents.proofs.PageLemmas.{bytes_from-append, bytes_from-none}
use Rattle.rd_contents.proofs.pages.append.Goals as goal

pub loop-done-init : goal.loop-done-init
loop-done-init c =
    let before : List ℕ = c.args.out.now.items in
    record { within = omega arith; len = omega arith; room = omega arith; bytes = sym (append-nil before) ∙ ap (λ (xs : List ℕ). before ++ xs) (sym (bytes_from-none c.args.pages.now.entries c.args.offset)) }

pub loop-done-preserved : goal.loop-done-preserved
loop-done-preserved c =
    let pages = c.args.pages.now.entries in
    let before : List ℕ = c.args.out.now.items in
    let run : List ℕ = bytes_from pages c.args.offset c.loop-done.done in
    let piece : List ℕ = bytes_from pages (c.args.offset + c.loop-done.done) c.min-piece.result in
    record {
      within = omega arith;
      len = omega arith;
      room = omega arith;
      bytes = c.append_piece.ensures.bytes ∙ ap (λ (xs : List ℕ). xs ++ piece) c.loop-done.invariant.bytes ∙ append_assoc before run piece
          ∙ ap (λ (xs : List ℕ). before ++ xs) (bytes_from-append pages c.args.offset c.loop-done.done c.min-piece.result);
    }
