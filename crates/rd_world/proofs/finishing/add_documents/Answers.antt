use Rattle.std.proofs.Common.{◌∙◌, ◌++◌, ◌∷◌, [], ap, sym, ℕ, List}
use Rattle.rd_declared.specs.declared.device.SessionDevice.{SessionDevice}
use Rattle.rd_world.specs.Session.{by_device}
use Rattle.rd_world.proofs.FinishingLemmas.{put_after}
use Rattle.rd_world.proofs.finishing.add_documents.Goals as goal

pub returns-in_ok-insert : goal.returns-in_ok-insert
returns-in_ok-insert c =
    let before = c.args.documents.now.entries in
    let id = c.args.id in
    c.in_ok-insert.ensures.entries ∙ put_after _ _ _ c.requires
    ∙ ap (λ (told : List (List ℕ)). before ++ (id, told) ∷ []) c.in_ok-documents_of.ensures
    ∙ ap (λ (d : SessionDevice). before ++ by_device id d) (sym c.in-Printer.is)
