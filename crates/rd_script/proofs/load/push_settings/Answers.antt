use Rattle.std.proofs.Common.{[], ◌∷◌, ap, ℕ, List}
use Rattle.rd_script.specs.declared.line.Line.TheVariants as line
use Rattle.rd_script.proofs.LoadLemmas.{adds_more, adds_same}
use Rattle.rd_script.proofs.load.push_settings.Goals as goal

pub returns-clause-added : goal.returns-clause-added
returns-clause-added c =
    let lines = c.push-4.new.lines.items in
    adds_more c.args.lines.now.items c.push.new.lines.items lines (_ ∷ []) (_ ∷ _ ∷ _ ∷ [])
    (adds_same _ _ _ _ (ap (λ (name : List ℕ). line.Drive 1 name) c.of-name.ensures) c.in_ok-push.ensures.added)
    (adds_more c.push.new.lines.items c.push-2.new.lines.items lines (_ ∷ []) (_ ∷ _ ∷ [])
    (adds_same _ _ _ _ (ap (λ (name : List ℕ). line.Drive 2 name) c.of-name-2.ensures) c.in_ok-push-2.ensures.added)
    (adds_more c.push-2.new.lines.items c.push-3.new.lines.items lines (_ ∷ []) (_ ∷ [])
    (adds_same _ _ _ _ (ap (λ (n : ℕ). line.Seed n) c.from-number.ensures) c.in_ok-push-3.ensures.added)
    c.in_ok-push-4.ensures.added))
