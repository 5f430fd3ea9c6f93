use Rattle.std.proofs.Common.{◌≡◌, ◌∙◌, ap, subst}
use Rattle.std.specs.Prelude.{length, map, nat_lt}
use Rattle.std.specs.List.{AllByRecursion}
use Rattle.rd_world.specs.Choices.{choices_in, places}
use Rattle.rd_world.specs.Drawn.{HasPlaces, next_step_of}
use Rattle.rd_world.specs.Run.{choices, device_ids}
use Rattle.rd_world.specs.Stations.{AreStations}
use Rattle.rd_world.specs.World.{WorldState}
use Rattle.rd_world.specs.declared.choices.Choices.{Choices}
use Rattle.rd_world.proofs.DrawnLemmas.{AreWordsOf, collects_none, collects_ready, reads_all, reads_none, reads_some, words_drawn, words_placed}
use Rattle.rd_world.proofs.StationsLemmas.{told}
use Rattle.rd_world.proofs.world.World.choices.Goals.{then-len-gt0, else-len-gt0, then-client_sends, else-client_sends}
use Rattle.rd_world.proofs.world.World.choices.Goals as goal

pub returns : goal.returns
returns c =
    let i = c.self.inside in
    let w : WorldState = record {
      moment = i.moment;
      piece = i.piece;
      draws = i.draws;
      client = i.client;
      side = i.side;
      stations = i.stations;
      printers = i.printers;
      cache = i.cache;
      applications = i.applications;
      hands = i.hands;
      to_client = i.to_client;
      to_host = i.to_host;
      kept = i.kept;
      channels = i.channels;
      idle = i.idle.items;
      deeds = i.deeds.items;
    } in
    let x : Choices = record {
      issues = c.copy.result;
      host_sends = c.has_message.result;
      client_reads = c.if-len-gt0.result;
      client_sends = c.has_message-client_sends.result;
      collects = c.if-client_sends.result;
      host_reads = nat_lt 0 c.len-2.result;
      waiting = c.copy-2.result;
      free = c.copy-3.result;
      full = c.copy-4.result;
    } in
    let words : AreWordsOf w x = record {
      applications = c.issuing.ensures.kept;
      stations = c.waiting.ensures.kept;
      hands = c.free.ensures.few;
      issues = ap places c.copy.ensures ∙ c.issuing.ensures.places;
      host_sends = c.has_message.ensures;
      client_reads = elim c.if-len-gt0.branch [
        | then-len-gt0 b ↦ b.result-is ∙ reads_some (i.to_client).pipe _ i.kept _ c.len.ensures b.if-len-gt0.true b.is_none.ensures
        | else-len-gt0 b ↦ b.result-is ∙ reads_none (i.to_client).pipe _ _ c.len.ensures b.if-len-gt0.false
      ];
      client_sends = told _ _ c.has_message-client_sends.ensures;
      collects = elim c.if-client_sends.branch [
        | then-client_sends b ↦ collects_none _ _ _ (b.result-is ∙ b.new.ensures) b.if-client_sends.true
        | else-client_sends b ↦ collects_ready _ _ _ (ap places (b.result-is ∙ b.copy-else-client_sends.ensures) ∙ b.ready.ensures.places) b.if-client_sends.false
      ];
      host_reads = ap (nat_lt 0) c.len-2.ensures ∙ reads_all (i.to_host).pipe;
      waiting = ap places c.copy-2.ensures ∙ c.waiting.ensures.places;
      free = ap places c.copy-3.ensures ∙ c.free.ensures.places;
      full = ap places c.copy-4.ensures ∙ c.full.ensures.places;
    } in record {
      drawn = subst (λ (v : WorldState). map (next_step_of (device_ids v)) (choices_in x) ≡ choices v) c.self.view_is (words_drawn w x words);
      placed = subst (λ (v : WorldState). AllByRecursion (HasPlaces (length v.stations)) (choices_in x)) c.self.view_is (words_placed w x words);
      kept = subst (λ (v : WorldState). AreStations v.stations) c.self.view_is c.waiting.ensures.kept;
    }
