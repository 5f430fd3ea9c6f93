use Rattle.std.proofs.Common.{◌≡◌, true, false, Global, String, string_bytes, sym, ◌∙◌}
use Rattle.clap.proofs.WalkLemmas.{list_any-map}
use Rattle.rd_cli.specs.Shapes.{is_flag}
use Rattle.rd_cli.proofs.ShapeLemmas.{plain_words}
use Rattle.rd_cli.proofs.words.command_of.Goals as goal

pub returns-then-has_flag-clause-err : goal.returns-then-has_flag-clause-err
returns-then-has_flag-clause-err c command shape =
    let mapped = list_any-map {X = String Global} is_flag (λ w. string_bytes w) c.args.words.now in
    let both : true ≡ false = sym c.if-has_flag.true ∙ c.has_flag.ensures ∙ mapped ∙ plain_words _ command shape in absurd (cc)

pub parsed-requires-clause-plain : goal.parsed-requires-clause-plain
parsed-requires-clause-plain c = sym (list_any-map {X = String Global} is_flag (λ w. string_bytes w) c.args.words.now) ∙ sym c.has_flag.ensures ∙ c.if-has_flag.false
