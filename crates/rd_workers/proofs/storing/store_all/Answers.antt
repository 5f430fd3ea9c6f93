use Rattle.std.proofs.Common.{◌∙◌, ℕ, List, map, refl, subst, sym}
use Rattle.std.specs.List.{zip}
use Rattle.std.proofs.lemmas.List.{nil_from_length}
use Rattle.rd_base.specs.History.{History}
use Rattle.rd_sharing.proofs.ClosingLemmas.{closed_more}
use Rattle.rd_world.specs.Session.{StoresSome}
use Rattle.rd_workers.proofs.StoringLemmas.{journal_in, next_new, stored_all, stored_more, stored_none, stored_some}
use Rattle.rd_workers.proofs.storing.store_all.Goals as goal

pub loop-station-init : goal.loop-station-init
loop-station-init g c = record {
  stored = rw c.into_iter-station-iterator.ensures.into_iter_gives.1 (stored_none c.args.ids.now c.args.stations.items c.args.books.now c.requires.same c.requires.none);
  opened = refl;
  failures = refl;
  trouble = rw c.into_iter-station-iterator.ensures.into_iter_gives.1 refl;
}

pub put-requires : goal.put-requires
put-requires g c = next_new _ _ _ _ _ _ _ _ _ c.loop-station.invariant.stored c.in-Some.ensures.steps.0 c.requires.rise refl

pub loop-station-preserved : goal.loop-station-preserved
loop-station-preserved g c = record {
  stored = stored_more _ _ _ _ _ _ _ _ _ c.loop-station.invariant.stored c.in-Some.ensures.steps.0 c.requires.rise refl _ _ c.in_ok-put.ensures.ok c.finish-device.ensures.journal;
  opened = c.close_device.ensures.opened ∙ c.loop-station.invariant.opened;
  failures = c.close_device.ensures.failures ∙ c.loop-station.invariant.failures;
  trouble = closed_more _ _ _ _ _ _ _ c.loop-station.invariant.trouble c.in-Some.ensures.steps.0 c.finish-device.ensures.device c.close_device.ensures.trouble;
}

pub returns-clause-stored : goal.returns-clause-stored
returns-clause-stored g c = stored_all _ _ _ _ _ c.loop-station.invariant.stored (nil_from_length _ (sym c.loop-station.station-iterator.rest.ok.0 ∙ c.in-None.ensures.steps.0))

pub returns-clause-some : goal.returns-clause-some
returns-clause-some g c = stored_some _ _ _ _ _ c.loop-station.invariant.stored

pub returns-in_err-put-clause-some : goal.returns-in_err-put-clause-some
returns-in_err-put-clause-some g c =
    subst (λ (books : List (ℕ × History)). StoresSome (zip c.args.ids.now (map journal_in c.args.stations.items)) books) (sym c.in_err-put.ensures.err) (stored_some _ _ _ _ _ c.loop-station.invariant.stored)
