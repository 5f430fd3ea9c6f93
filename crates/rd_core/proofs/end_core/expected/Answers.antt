use Rattle.std.proofs.Common.{◌∙◌, refl, sym}
use Rattle.rd_core.proofs.ExpectedLemmas.{packet_named}
use Rattle.rd_core.proofs.end_core.expected.Goals as goal

pub returns-then-not-is_one_of : goal.returns-then-not-is_one_of
returns-then-not-is_one_of c =
    (c.in-Ok.packet, packet_named _ _ _ c.in-Ok.ensures.named, sym c.is_one_of.ensures ∙ c.if-not-is_one_of.true, refl, c.id.ensures)

pub returns : goal.returns
returns c = (packet_named _ _ _ c.in-Ok.ensures.named, sym c.is_one_of.ensures ∙ c.if-not-is_one_of.false)
