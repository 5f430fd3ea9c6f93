use Rattle.std.proofs.Common.{rules, ◌∙◌, ap, inl, inr, refl, subst, sym, length, map, ℕ, List}
use Rattle.std.specs.List.{zip}
use Rattle.rd_front.specs.State.{SessionStation}
use Rattle.rd_pool.specs.Desks.{IsClosed, IsFirst}
use Rattle.rd_served_devices.specs.ServedDevices.{IsServedReached, served_cuts, served_parked, served_runs}
use Rattle.rd_sharing.specs.Closing.{station_devices, trouble_after}
use Rattle.rd_sharing.specs.ServedOpening.{AreServedDevices, FoldersTold, folders_told}
use Rattle.rd_sharing.specs.declared.opening_no.OpeningNo.TheVariants as no
use Rattle.rd_sharing.proofs.FoldersLemmas.{if_err, on_folder_no}
use Rattle.rd_declared.specs.Declaring.{bare_lines}
use Rattle.rd_workers.specs.Channels.{told_as}
use Rattle.rd_workers.specs.Lines.{at_lines}
use Rattle.rd_workers.proofs.BookLemmas.{books_lawful, books_then, none_yet}
use Rattle.rd_workers.proofs.ClosedLemmas.{home_close}
use Rattle.rd_workers.proofs.FrontLemmas.{serves_journals}
use Rattle.rd_workers.proofs.OpeningLemmas.{stops_unopened}
use Rattle.rd_workers.proofs.StoringLemmas.{of_openings, opened_count, zipped_count}
use Rattle.rd_workers.proofs.session.serve.Goals as goal

pub store_all-requires-clause-same : goal.store_all-requires-clause-same
store_all-requires-clause-same g c κs within =
    zipped_count (IsClosed served_runs served_parked served_cuts) IsFirst c.in_ok-desks.desks.turns c.in_ok-ended.passes c.close.result.items c.close.ensures c.in_ok-ended.ensures.first
    ∙ opened_count c.in_ok-desks.desks.turns c.in_ok-ids.field-0.stations.items c.in_ok-desks.ensures.opened ∙ c.in_ok-ids.ensures.same ∙ ap length (sym c.as_slice-3.ensures.value)

pub serve_desks-requires-clause-reached : goal.serve_desks-requires-clause-reached
serve_desks-requires-clause-reached g c κs within = of_openings IsServedReached c.in_ok-desks.desks.turns c.in_ok-ids.field-0.stations.items c.in_ok-desks.ensures.opened c.in_ok-ids.ensures.reached

pub returns-clause-served : goal.returns-clause-served
returns-clause-served g c =
    let opened = c.in_ok-ids.ensures.opened in
    let lines = c.args.plan.lines.now in
    let closed = c.close.result.items in
    record {
      devices = opened.0;
      are = subst (λ (told : FoldersTold). AreServedDevices (bare_lines lines) (g.D.Folders.opened c.args.folders.now) told opened.0) (sym c.store_all.ensures.opened) opened.1;
      served = record {
        journals = serves_journals opened.0 (zip c.in_ok-ids.field-0.ids.items c.in_ok-ids.field-0.stations.items) c.in_ok-ids.field-0.devices c.in_ok-client.client c.in_ok-ids.field-0.printers c.in_ok-ids.field-0.ids.items c.as_slice-2.result.now c.in_ok-desks.desks.turns
            opened.2 (ap (zip c.in_ok-ids.field-0.ids.items) c.in_ok-desks.ensures.opened) c.as_slice-2.ensures.value c.in_ok-client.ensures (at_lines lines) c.args.plan.channels c.in_ok-ended.ended (told_as (g.L.Linker.linked c.args.linker.now) (g.L.Linker.failures c.args.linker.now))
            (told_as (g.L.Linker.linked c.serve_desks.new.linker) (g.L.Linker.failures c.serve_desks.new.linker)) c.in_ok-ended.ensures.served.front closed (home_close c.in_ok-ended.ensures.served.front.last c.in_ok-desks.desks.turns c.in_ok-ended.passes closed c.in_ok-ended.ensures.served.home c.close.ensures)
            _ (c.in_ok-store_all.ensures.stored ∙ ap (λ (l : List ℕ). zip l (map (λ (s : SessionStation). s.journal) closed)) c.as_slice-3.ensures.value);
        trouble = c.in_ok-store_all.ensures.trouble ∙ ap (λ (n : ℕ). trouble_after n (station_devices closed)) c.open_served.ensures.trouble;
      };
      failures = c.store_all.ensures.failures ∙ c.in_ok-ids.ensures.failures;
    }

pub returns-in_err-ids-clause-err : goal.returns-in_err-ids-clause-err
returns-in_err-ids-clause-err g c =
    if_err c.from_residual.result c.in_err-ids.field-0.0 _ (search rules)
    (stops_unopened c.args.plan.lines.now c.args.plan.channels c.in_err-ids.field-0.0 c.args.books.now (told_as (g.L.Linker.linked c.args.linker.now) (g.L.Linker.failures c.args.linker.now)) (folders_told (g.D.Folders.opened c.args.folders.now) (g.D.Folders.failures c.args.folders.now) (g.D.Folders.trouble c.args.folders.now)) (folders_told (g.D.Folders.opened c.open_served.new.folders) (g.D.Folders.failures c.open_served.new.folders) (g.D.Folders.trouble c.open_served.new.folders)) c.in_err-ids.ensures.refused c.requires.books c.open_served.ensures.trouble)

pub returns-in_err-client-clause-err : goal.returns-in_err-client-clause-err
returns-in_err-client-clause-err g c = if_err c.from_residual-in_err-client.result no.Memory _ (search rules) (c.in_ok-ids.ensures.failures, inl (refl, c.requires.books))

pub returns-in_err-desks-clause-err : goal.returns-in_err-desks-clause-err
returns-in_err-desks-clause-err g c = if_err c.from_residual-in_err-desks.result no.Memory _ (search rules) (c.in_ok-ids.ensures.failures, inl (refl, c.requires.books))

pub returns-in_err-ended-clause-err : goal.returns-in_err-ended-clause-err
returns-in_err-ended-clause-err g c = if_err c.from_residual-in_err-ended.result no.Memory _ (search rules) (c.in_ok-ids.ensures.failures, inl (c.in_err-ended.ensures.err, c.requires.books))

pub returns-in_err-store_all-clause-err : goal.returns-in_err-store_all-clause-err
returns-in_err-store_all-clause-err g c =
    let opened = c.in_ok-ids.ensures.opened in
    let lines = c.args.plan.lines.now in
    let closed = c.close.result.items in
    if_err c.from_residual-in_err-store_all.result no.Memory _ (search rules) (
      c.store_all.ensures.failures ∙ c.in_ok-ids.ensures.failures,
      inr (record {
        devices = opened.0;
        are = subst (λ (told : FoldersTold). AreServedDevices (bare_lines lines) (g.D.Folders.opened c.args.folders.now) told opened.0) (sym c.store_all.ensures.opened) opened.1;
        by = c.in_ok-ended.ended;
        journals = zip c.as_slice-3.result.now (map (λ (s : SessionStation). s.journal) closed);
        served = serves_journals opened.0 (zip c.in_ok-ids.field-0.ids.items c.in_ok-ids.field-0.stations.items) c.in_ok-ids.field-0.devices c.in_ok-client.client c.in_ok-ids.field-0.printers c.in_ok-ids.field-0.ids.items c.as_slice-2.result.now c.in_ok-desks.desks.turns
            opened.2 (ap (zip c.in_ok-ids.field-0.ids.items) c.in_ok-desks.ensures.opened) c.as_slice-2.ensures.value c.in_ok-client.ensures (at_lines lines) c.args.plan.channels c.in_ok-ended.ended (told_as (g.L.Linker.linked c.args.linker.now) (g.L.Linker.failures c.args.linker.now))
            (told_as (g.L.Linker.linked c.serve_desks.new.linker) (g.L.Linker.failures c.serve_desks.new.linker)) c.in_ok-ended.ensures.served.front closed (home_close c.in_ok-ended.ensures.served.front.last c.in_ok-desks.desks.turns c.in_ok-ended.passes closed c.in_ok-ended.ensures.served.home c.close.ensures)
            _ (ap (λ (l : List ℕ). zip l (map (λ (s : SessionStation). s.journal) closed)) c.as_slice-3.ensures.value);
        stored = c.store_all.ensures.some;
      }),
    )

pub returns-clause-lawful : goal.returns-clause-lawful
returns-clause-lawful g c =
    books_lawful c.in_ok-desks.desks.turns c.in_ok-ended.passes c.close.result.items c.as_slice-3.result.now c.store_all.new.books c.close.ensures c.store_all.ensures.some
    (of_openings IsServedReached c.in_ok-desks.desks.turns c.in_ok-ids.field-0.stations.items c.in_ok-desks.ensures.opened c.in_ok-ids.ensures.reached)

pub returns-clause-moments : goal.returns-clause-moments
returns-clause-moments g c =
    let told = g.X.Outside.moment c.args.outside.now in
    let opened = c.in_ok-ids.ensures.opened in
    books_then c.in_ok-desks.desks.turns c.in_ok-ended.passes c.close.result.items c.as_slice-3.result.now c.store_all.new.books c.close.ensures c.store_all.ensures.some told
    (none_yet opened.0 c.in_ok-ids.field-0.ids.items c.in_ok-desks.desks.turns (opened_count c.in_ok-desks.desks.turns c.in_ok-ids.field-0.stations.items c.in_ok-desks.ensures.opened ∙ c.in_ok-ids.ensures.same)
    (ap (zip c.in_ok-ids.field-0.ids.items) c.in_ok-desks.ensures.opened ∙ opened.2.stations_are)) c.in_ok-ended.ensures.moments

pub returns-in_err-store_all-clause-lawful : goal.returns-in_err-store_all-clause-lawful
returns-in_err-store_all-clause-lawful g c =
    books_lawful c.in_ok-desks.desks.turns c.in_ok-ended.passes c.close.result.items c.as_slice-3.result.now c.store_all.new.books c.close.ensures c.store_all.ensures.some
    (of_openings IsServedReached c.in_ok-desks.desks.turns c.in_ok-ids.field-0.stations.items c.in_ok-desks.ensures.opened c.in_ok-ids.ensures.reached)

pub returns-in_err-store_all-clause-moments : goal.returns-in_err-store_all-clause-moments
returns-in_err-store_all-clause-moments g c =
    let told = g.X.Outside.moment c.args.outside.now in
    let opened = c.in_ok-ids.ensures.opened in
    books_then c.in_ok-desks.desks.turns c.in_ok-ended.passes c.close.result.items c.as_slice-3.result.now c.store_all.new.books c.close.ensures c.store_all.ensures.some told
    (none_yet opened.0 c.in_ok-ids.field-0.ids.items c.in_ok-desks.desks.turns (opened_count c.in_ok-desks.desks.turns c.in_ok-ids.field-0.stations.items c.in_ok-desks.ensures.opened ∙ c.in_ok-ids.ensures.same)
    (ap (zip c.in_ok-ids.field-0.ids.items) c.in_ok-desks.ensures.opened ∙ opened.2.stations_are)) c.in_ok-ended.ensures.moments

pub returns-in_err-ids-clause-unlinked : goal.returns-in_err-ids-clause-unlinked
returns-in_err-ids-clause-unlinked g c = if_err c.from_residual.result c.in_err-ids.field-0.0 _ (search rules) (on_folder_no c.in_err-ids.field-0.0 _ refl)
