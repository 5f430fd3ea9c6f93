use Rattle.std.proofs.Common.{◌∙◌, sym, subst, ℕ, List}
use Rattle.std.specs.Prelude.{codes}
use Rattle.std.specs.String.{string_bytes}
use Rattle.std.proofs.lemmas.Slice.Eq.{bytes_eq-Decides}
use Rattle.rd_cli.specs.Shapes.{FindsLoadNumber}
use Rattle.rd_cli.proofs.LoadWordLemmas.{found_words}
use Rattle.rd_cli.proofs.words.load_of.Goals as goal

pub returns-then-eq : goal.returns-then-eq
returns-then-eq c =
    let named = sym c.as_str.ensures.value ∙ (bytes_eq-Decides c.as_str.result.now (codes "load")).0 (sym c.eq.ensures ∙ c.if-eq.true) in
    let found = subst (λ (w : List ℕ). FindsLoadNumber w c.load_number.result) c.as_str-then-eq.ensures.value c.load_number.ensures in
    found_words string_bytes c.args.words.now c.name-item.result c.number-item.result c.load_number.result c.in-len2.len_at_least c.in-len2.len_below c.name-item.is c.number-item.is named found
