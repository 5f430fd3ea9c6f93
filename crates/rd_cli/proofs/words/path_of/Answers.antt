use Rattle.std.proofs.Common.{◌≡◌, ◌∙◌, sym, ap, false, true}
use Rattle.std.specs.String.{string_bytes}
use Rattle.std.proofs.lemmas.Slice.Eq.{bytes_eq-Decides}
use Rattle.rd_cli.specs.Shapes.{is_path}
use Rattle.rd_cli.proofs.LoadWordLemmas.{not_at, two_words}
use Rattle.rd_cli.proofs.words.path_of.Goals as goal
use Rattle.rd_cli.proofs.words.path_of.Goals.{else-eq-via-then-eq+else-is_path, else-eq-via-else-eq}

pub returns-then-is_path : goal.returns-then-is_path
returns-then-is_path c =
    let named = sym c.as_str.ensures.value ∙ (bytes_eq-Decides c.as_str.result.now c.args.name.now).0 (sym c.eq.ensures ∙ c.if-eq.true) in
    let words =
    two_words string_bytes c.args.words.now c.first-item.result c.path-item.result _ _ c.in-len2.len_at_least c.in-len2.len_below c.first-item.is c.path-item.is named (sym c.as_str-then-is_path.ensures.value) in
    let good : is_path c.as_str-then-is_path.result.now ≡ true =
    ap is_path (c.as_str-then-is_path.ensures.value ∙ sym c.as_bytes.ensures.value) ∙ sym c.is_path.ensures ∙ c.if-is_path.true in
    (words, good)

pub returns-else-eq : goal.returns-else-eq
returns-else-eq c =
    not_at string_bytes c.args.words.now c.first-item.result c.path-item.result c.args.name.now c.in-len2.len_at_least c.in-len2.len_below c.first-item.is c.path-item.is
    (elim c.else-eq.branch [
      | else-eq-via-then-eq+else-is_path w ↦ λ named good.
          let both : true ≡ false = sym good ∙ ap is_path (sym w.as_bytes.ensures.value) ∙ sym w.is_path.ensures ∙ w.if-is_path.false in absurd (cc)
      | else-eq-via-else-eq w ↦ λ named good.
          let both : true ≡ false = sym ((bytes_eq-Decides c.as_str.result.now c.args.name.now).1 (c.as_str.ensures.value ∙ named)) ∙ sym c.eq.ensures ∙ w.if-eq.false in absurd (cc)
    ])
