use Rattle.std.proofs.Common.{rules, ◌≡◌, Some, ap, sym, ◌∙◌, arith}
use Rattle.rd_world.specs.Hearing.{host_hears}
use Rattle.rd_world.specs.World.{WorldState, handling}
use Rattle.rd_world.proofs.HandlingLemmas.{handled_less, host_step, left_in}
use Rattle.rd_world.proofs.world.World.host_handle.Goals as goal

handled : (c : goal.After-drop-message-inside-in-Some) → handling c.handling.self.to_host ≡ (c.handle.new.self, Some c.as_slice.result.now)
handled c = ap (λ (w : WorldState). handling w.to_host) (sym c.self.view_is) ∙ search rules

way : (c : goal.After-drop-message-inside-in-Some) → c.host_hear.new.self.to_host ≡ c.handle.new.self
way c = search rules

pub handling-smaller : goal.handling-smaller
handling-smaller c = omega (arith, handled_less c.handling.self.to_host c.handle.new.self c.as_slice.result.now (handled c), ap left_in (way c))

pub handling-preserved : goal.handling-preserved
handling-preserved c =
    let r = c.handling.invariant.reached in
    let heard : c.host_hear.new.self ≡ host_hears (record c.handling.self { to_host = c.handle.new.self }) c.as_slice.result.now =
    c.in_ok-host_hear.ensures.heard ∙ ap (λ (w : WorldState). host_hears (record w { to_host = c.handle.new.self }) c.as_slice.result.now) c.self.view_is in
    record {
      reached = host_step r.0 c.args.self.now c.handling.self c.host_hear.new.self c.handle.new.self c.as_slice.result.now r.1 r.2 (handled c) heard (way c);
      going = search rules;
    }
