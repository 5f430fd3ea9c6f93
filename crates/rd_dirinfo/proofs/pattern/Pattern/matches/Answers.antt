use Rattle.std.proofs.Common.{◌≡◌, ◌∙◌, ◌==◌, sym, ap, List, ℕ, length}
use Rattle.rd_dirinfo.specs.Patterns.{any_name, or_any, matches}
use Rattle.rd_dirinfo.proofs.PatternLemmas.{matches_exact, any_is_matched, any_of_none, any_of_some}
use Rattle.rd_dirinfo.proofs.pattern.Pattern.matches.Goals as goal

pub returns-then-is_empty : goal.returns-then-is_empty
returns-then-is_empty c =
    let seen = sym (ap length c.as_slice-units.ensures) in
    let none : or_any c.self.inside.units ≡ any_name = any_of_none c.self.inside.units (ap (λ (n : ℕ). n == 0) seen ∙ sym c.is_empty.ensures ∙ c.if-is_empty.true) in
    let computed : c.is_empty.result ≡ matches c.args.naming c.args.self.now c.args.name.now =
    c.if-is_empty.true ∙ sym (ap (λ (pattern : List ℕ). matches c.args.naming pattern c.args.name.now) (sym c.self.view_is ∙ none) ∙ any_is_matched c.args.naming c.args.name.now) in
    record { cut = matches_exact c.args.naming c.args.self.now c.args.name.now c.is_empty.result computed; computed = computed }

pub returns-else-is_empty : goal.returns-else-is_empty
returns-else-is_empty c =
    let seen = sym (ap length c.as_slice-units.ensures) in
    let some : or_any c.self.inside.units ≡ c.as_slice-units.result.now = any_of_some c.self.inside.units (ap (λ (n : ℕ). n == 0) seen ∙ sym c.is_empty.ensures ∙ c.if-is_empty.false) ∙ sym c.as_slice-units.ensures in
    let computed : c.matches.result ≡ matches c.args.naming c.args.self.now c.args.name.now =
    c.matches.ensures ∙ ap (λ (pattern : List ℕ). matches c.args.naming pattern c.args.name.now) (sym (sym c.self.view_is ∙ some)) in
    record { cut = matches_exact c.args.naming c.args.self.now c.args.name.now c.matches.result computed; computed = computed }
