use Rattle.std.proofs.Common.{◌≡◌, ◌∙◌, ◌++◌, ap, drop, length, map, take}
use Rattle.rd_pending.specs.Slots.{died, held_from}
use Rattle.rd_pending.specs.Table.{dead_of}
use Rattle.rd_pending.proofs.MarkLemmas.{dead_marked}
use Rattle.rd_pending.proofs.PlaceLemmas.{all_died, written}
use Rattle.rd_pending.proofs.slots.Slots.kill.Goals as goal

pub returns : goal.returns
returns c =
    let old = c.self.inside.places in
    let is : c.kill_all.new.places ≡ map (died c.args.device) old.items = c.kill_all.ensures ∙ ap (map (died c.args.device)) c.deref_mut.ensures.value in
    let items : take old.len (c.kill_all.new.places ++ drop (length c.kill_all.new.places) old.items) ≡ c.kill_all.new.places = written c.kill_all.new.places old.items old.len old.ok.0 (c.kill_all.auto.places ∙ ap length c.deref_mut.ensures.value) in
    ap (held_from 0) (items ∙ is) ∙ all_died c.args.device 0 old.items ∙ ap (map (dead_of c.args.device)) c.self.view_is

pub invariant_of-self : goal.invariant_of-self
invariant_of-self c =
    let old = c.self.inside.places in
    let is : c.kill_all.new.places ≡ map (died c.args.device) old.items = c.kill_all.ensures ∙ ap (map (died c.args.device)) c.deref_mut.ensures.value in
    let items : take old.len (c.kill_all.new.places ++ drop (length c.kill_all.new.places) old.items) ≡ c.kill_all.new.places = written c.kill_all.new.places old.items old.len old.ok.0 (c.kill_all.auto.places ∙ ap length c.deref_mut.ensures.value) in
    rw (items, is) (dead_marked c.args.device c.self.inside.marks old.items c.self.invariant)
