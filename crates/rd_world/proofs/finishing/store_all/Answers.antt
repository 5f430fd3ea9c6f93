use Rattle.std.proofs.Common.{◌∙◌, ◌++◌, ℕ, List, ap, map, refl, subst, sym}
use Rattle.rd_base.proofs.ResultLemmas.{on_err_of}
use Rattle.rd_base.specs.History.{History}
use Rattle.rd_declared.specs.declared.device.SessionDevice.{SessionDevice}
use Rattle.rd_world.specs.Session.{StoresSome, by_device}
use Rattle.rd_world.proofs.FinishingLemmas.{journal_under, next_after, next_is_new, some_stored, stored_more}
use Rattle.rd_world.proofs.finishing.store_all.Goals as goal

pub put-requires : goal.put-requires
put-requires c = next_is_new _ _ _ _ _ _ _ _ _ _ c.loop-station.invariant c.in-Some.ensures.steps.0 c.finish-ids.ensures.kept.rise c.index-id.ensures

pub add_documents-requires : goal.add_documents-requires
add_documents-requires c = next_after _ _ _ _ _ _ _ _ _ _ c.loop-station.invariant c.in-Some.ensures.steps.0 c.finish-ids.ensures.kept.rise c.index-id.ensures

pub loop-station-preserved-in_ok-add_documents : goal.loop-station-preserved-in_ok-add_documents
loop-station-preserved-in_ok-add_documents c =
    stored_more _ _ _ _ _ _ _ _ _ _ c.loop-station.invariant c.in-Some.ensures.steps.0 c.finish-ids.ensures.kept.rise c.index-id.ensures _ _ _ c.in_ok-put.ensures.ok c.finish-device.ensures.journal
    (c.in_ok-add_documents.ensures ∙ ap (λ (d : SessionDevice). c.loop-station.documents.entries ++ by_device c.index-id.result.now d) c.finish-device.ensures.device)

pub loop-station-preserved : goal.loop-station-preserved
loop-station-preserved c =
    stored_more _ _ _ _ _ _ _ _ _ _ c.loop-station.invariant c.in-Some.ensures.steps.0 c.finish-ids.ensures.kept.rise c.index-id.ensures _ _ _ c.in_ok-put.ensures.ok c.finish-device.ensures.journal
    (c.in_ok-add_documents.ensures ∙ ap (λ (d : SessionDevice). c.loop-station.documents.entries ++ by_device c.index-id.result.now d) c.finish-device.ensures.device)

pub returns-in_err-put-clause-some : goal.returns-in_err-put-clause-some
returns-in_err-put-clause-some c =
    on_err_of c.from_residual.result _ (subst (λ (books : List (ℕ × History)). StoresSome (map journal_under c.args.stations) books) (sym c.in_err-put.ensures.err) (some_stored _ _ _ _ _ _ c.loop-station.invariant))

pub returns-in_err-add_documents-clause-some : goal.returns-in_err-add_documents-clause-some
returns-in_err-add_documents-clause-some c =
    on_err_of c.from_residual-in_err-add_documents.result _ (some_stored _ _ _ _ _ _
    (stored_more _ _ _ _ _ _ _ _ _ _ c.loop-station.invariant c.in-Some.ensures.steps.0 c.finish-ids.ensures.kept.rise c.index-id.ensures _ _ _ c.in_ok-put.ensures.ok c.finish-device.ensures.journal refl))
