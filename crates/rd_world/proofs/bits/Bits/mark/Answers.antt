use Rattle.rd_world.proofs.bits.Bits.mark.Goals as goal

pub returns : goal.returns
returns c = rw (← c.self.view_is) (record { same = c.with_bit-self-inside.ensures.same; others = c.with_bit-self-inside.ensures.others })
