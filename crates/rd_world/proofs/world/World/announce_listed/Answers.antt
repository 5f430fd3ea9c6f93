use Rattle.std.proofs.Common.{◌≡◌, ◌∙◌, ◌<◌, sym, ap, length, subst}
use Rattle.rd_client.specs.Core.{ClientCoreState}
use Rattle.rd_world.specs.Client.{listed_at}
use Rattle.rd_world.specs.Hearing.{announcing}
use Rattle.rd_world.specs.World.{WorldState}
use Rattle.rd_world.proofs.ListedLemmas.{announcing_client, listed_none, listed_some}
use Rattle.rd_world.proofs.world.World.announce_listed.Goals as goal
use Rattle.rd_world.proofs.world.World.announce_listed.Goals.{in-Some+in_ok-announce, in_default}

within : (c : goal.Joined-listed_at) → c.loop-place.place < length c.args.self.now.client.devices
within c = subst (λ (w : WorldState). c.loop-place.place < length w.client.devices) c.self.view_is (subst (λ n. c.loop-place.place < n) c.len-place-end.ensures c.loop-place-test.true)

-- the client is what it was
client : (c : goal.Joined-listed_at) → c.self-in-loop-place.inside.client ≡ c.args.self.now.client
client c = ap (λ (w : WorldState). w.client) c.self-in-loop-place.view_is ∙ c.loop-place.invariant.client

listed : (c : goal.Joined-listed_at) → c.listed_at.result ≡ listed_at c.args.self.now.client c.loop-place.place
listed c = c.listed_at.ensures ∙ ap (λ (k : ClientCoreState). listed_at k c.loop-place.place) (client c)

pub loop-place-preserved : goal.loop-place-preserved
loop-place-preserved c = elim c.match-listed_at.branch [
  | in-Some+in_ok-announce w ↦
      let now : c.match-listed_at.self ≡ announcing c.loop-place.self w.in-Some.device = w.self-is ∙ w.in_ok-announce.ensures.announced in
      record {
        reached = rw now (listed_some c.loop-place.self c.args.self.now.client c.loop-place.place w.in-Some.device _ (within c) (sym w.in-Some.is ∙ listed c) c.loop-place.invariant.reached);
        client = ap (λ (x : WorldState). x.client) now ∙ announcing_client c.loop-place.self w.in-Some.device ∙ c.loop-place.invariant.client;
        way = ap (λ (x : WorldState). x.to_client) w.self-is ∙ w.announce.ensures.way ∙ c.loop-place.invariant.way;
      }
  | in_default w ↦
      record {
        reached = rw w.self-is (listed_none c.loop-place.self c.args.self.now.client c.loop-place.place _ (within c) (sym w.in_default.is ∙ listed c) c.loop-place.invariant.reached);
        client = ap (λ (x : WorldState). x.client) w.self-is ∙ c.loop-place.invariant.client;
        way = ap (λ (x : WorldState). x.to_client) w.self-is ∙ c.loop-place.invariant.way;
      }
]
