use Rattle.std.proofs.Common.{rules, ◌≡◌, false, Some, ap, sym, ◌∙◌, arith}
use Rattle.std.specs.Prelude.{is_some}
use Rattle.rd_world.specs.Hearing.{client_hears}
use Rattle.rd_world.specs.World.{WorldState, handling}
use Rattle.rd_world.proofs.HandlingLemmas.{client_step, handled_less, left_in}
use Rattle.rd_world.proofs.world.World.client_handle_all.Goals as goal

handled : (c : goal.After-drop-message-inside-in-handling) → handling c.handling.self.to_client ≡ (c.handle.new.self, Some c.as_slice.result.now)
handled c = ap (λ (w : WorldState). handling w.to_client) (sym c.self-in-handling.view_is) ∙ search rules

way : (c : goal.After-drop-message-inside-in-handling) → c.client_hear.new.self.to_client ≡ c.handle.new.self
way c = search rules

pub handling-smaller : goal.handling-smaller
handling-smaller c = omega (arith, handled_less c.handling.self.to_client c.handle.new.self c.as_slice.result.now (handled c), ap left_in (way c))

pub handling-preserved : goal.handling-preserved
handling-preserved c =
    let r = c.handling.invariant.reached in
    let none : is_some c.handling.self.kept ≡ false = search rules in
    let heard : c.client_hear.new.self ≡ client_hears (record c.handling.self { to_client = c.handle.new.self }) c.as_slice.result.now =
    c.in_ok-client_hear.ensures.heard ∙ ap (λ (w : WorldState). client_hears (record w { to_client = c.handle.new.self }) c.as_slice.result.now) c.self-in-handling.view_is in
    record {
      reached = client_step r.0 c.args.self.now c.handling.self c.client_hear.new.self c.handle.new.self c.as_slice.result.now r.1 r.2 none (handled c) heard (way c);
      going = search rules;
    }
