use Rattle.std.proofs.Common.{◌∙◌, sym}
use Rattle.rd_script.proofs.TextLemmas.{is_place-from}
use Rattle.rd_script.proofs.texts.is_place.Goals as goal

pub returns : goal.returns
returns c = is_place-from c.args.word.now c.is_ok.result c.from_utf8.result _ _ (sym c.is_empty.ensures ∙ c.if-is_empty.false) c.is_ok.ensures.value c.from_utf8.ensures.cases
