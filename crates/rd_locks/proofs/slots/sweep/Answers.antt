use Rattle.std.proofs.Common.{◌≡◌, ◌∙◌, sym, ap, refl, arith, false, List, ℕ, ◌-◌, ◌<◌, length, set}
use Rattle.rd_locks.specs.declared.held.Held.{Held}
use Rattle.rd_locks.specs.declared.slots.Slot.{Slot}
use Rattle.rd_locks.specs.Slots.{slot_at, Follows, Leads}
use Rattle.rd_locks.proofs.SlotLemmas.{each_set, by_place, true_not_false, leads_at, leads_from, leads_still, none_past_end, chained_led, follows_same, follows_both, follows_led}
use Rattle.rd_locks.proofs.slots.sweep.Goals as goal

pub loop-place-init : goal.loop-place-init
loop-place-init c =
    let leads : Leads c.unlink_to_standing-top.new.slots c.args.node (length c.unlink_to_standing-top.new.slots) c.unlink_to_standing-top.result =
    leads_from _ _ _ _ _ (c.unlink_to_standing-top.ensures.leads c.args.node (length c.args.slots.now) c.requires.leads) (sym c.unlink_to_standing-top.ensures.follows.long) in
    record {
      within = leads.within;
      follows = follows_same c.unlink_to_standing-top.new.slots;
      stands = λ i. refl;
      chained = c.unlink_to_standing-top.ensures.chained;
      leads = leads;
      same = leads.same;
      here = c.unlink_to_standing-top.ensures.top;
      swept = λ i from e _. none_past_end c.unlink_to_standing-top.new.slots c.args.node c.unlink_to_standing-top.result i leads from e;
    }

pub loop-place-preserved : goal.loop-place-preserved
loop-place-preserved c =
    let k : ℕ = c.loop-place.place - 1 in
    let first : List Slot = c.loop-place.slots in
    let old : List Slot = c.unlink_to_standing-next.new.slots in
    let next : ℕ = c.unlink_to_standing-next.result in
    let slot : Slot = record (slot_at old k) { below = next } in
    let new : List Slot = set old k slot in
    let kept = c.loop-place.invariant in
    let skipped = c.unlink_to_standing-next.ensures in
    let within_first : k < length first = omega arith in
    let within : k < length old = omega (arith, skipped.follows.long) in
    let led : Follows old new = follows_led old k next within in
    let follows : Follows first new = follows_both first old new skipped.follows led in
    let stands : (i : ℕ) → (slot_at new i).stands ≡ (slot_at first i).stands = each_set old k slot (λ i slot. slot.stands ≡ (slot_at first i).stands) within (skipped.stands k) skipped.stands in
    let link : Leads first (slot_at first k).lock.node k (slot_at first k).below = kept.chained.links k within_first in
    let leads : Leads old (slot_at first k).lock.node k next = skipped.leads (slot_at first k).lock.node k link in
    let leads_on : Leads new c.args.node k next = leads_still old new c.args.node k next led (leads_at old _ _ k next next leads (kept.same (omega arith)) refl) in
    record {
      within = omega (arith, skipped.within, link.within, follows.long);
      follows = follows_both c.unlink_to_standing-top.new.slots first new kept.follows follows;
      stands = λ i. stands i ∙ kept.stands i;
      chained = chained_led old k next within skipped.chained (leads_at old _ _ k next next leads (sym (ap (λ (lock : Held). lock.node) (skipped.follows.lock k))) refl);
      leads = leads_from new _ _ _ _ (leads_still first new c.args.node (length first) c.unlink_to_standing-top.result follows kept.leads) (sym follows.long);
      same = leads_on.same;
      here = λ some. stands (next - 1) ∙ (sym (skipped.stands (next - 1)) ∙ skipped.top some);
      swept = λ i from e. by_place (λ i. (slot_at new i).lock.node ≡ c.args.node → (slot_at new i).stands ≡ false → (slot_at new i).linked ≡ false) i k
          (λ lt e _. leads_on.passed i from lt e)
          (λ _ not_here. absurd (true_not_false _ (stands k ∙ kept.here (omega arith)) not_here))
          (λ gt e not_here. follows.linked i (kept.swept i (omega arith) (sym (ap (λ (lock : Held). lock.node) (follows.lock i)) ∙ e) (sym (stands i) ∙ not_here))) e;
    }
