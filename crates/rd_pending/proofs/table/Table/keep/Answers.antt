use Rattle.rd_pending.proofs.table.Table.keep.Goals as goal

pub returns-clause-ok : goal.returns-clause-ok
returns-clause-ok c =
    let e = c.in_ok-insert.ensures.entries in
    let o = c.push_back_reserved.ensures.items in
    let r = c.reserve.ensures.items in
    rw (← c.self.view_is) (cc)
