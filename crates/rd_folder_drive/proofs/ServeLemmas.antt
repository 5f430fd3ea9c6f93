-- What is served, put together from what the operation comes to over the nodes that the folder tells.
use Rattle.std.proofs.Common.{◌≡◌, ◌∙◌, refl, sym, ap, subst, inl, inr, List, [], ◌∷◌, Option, Some, None, Result, Ok, Err}
use Rattle.std.specs.Option.{IfSome}
use Rattle.rd_base.specs.declared.status.Status.{Status}
use Rattle.rd_base.specs.Statuses.{no_memory}
use Rattle.rd_irp.specs.declared.completion.Body.{Body}
use Rattle.rd_drive.specs.declared.step.Step.TheVariants as step
use Rattle.rd_drive.specs.DriveState.{DriveState, Node}
use Rattle.rd_drive.specs.Outcome as outcome
use Rattle.rd_folder.specs.FolderLaws.{DoesCall}
use Rattle.std.proofs.lemmas.Option.{same_Some}
use Rattle.rd_folder_drive.specs.declared.news.Change as told_change
use Rattle.rd_folder_drive.specs.declared.news.News as told_news
use Rattle.rd_folder_drive.specs.declared.table.Done.TheVariants as done
use Rattle.rd_folder_drive.specs.declared.table.Table.{Table}
use Rattle.rd_folder_drive.specs.Served.{Seen, IsCalm, IsHeard, IsOver, IsOwnStatus, IsRefusedBy, IsTold, Leaves, Serves, about, change_of, news_of, nothing}
use Rattle.rd_folder_drive.specs.Table.{HasNodes, IsSound, IsSoundBut, drive_of}

-- what a folder tells holds what is open
pub held_by : (t : Table) (folder : Seen) → IsOver t folder → (nodes : List Node) → folder.told ≡ Some nodes → HasNodes t nodes
held_by t folder over nodes told = subst (λ (found : Option (List Node)). IfSome found (HasNodes t)) told over

-- ---- nothing changed

module _ (t : Table) (before after : Seen) (over : IsOver t before) (same : after.told ≡ before.told) where
  still_over : IsOver t after
  still_over = subst (λ (found : Option (List Node)). IfSome found (HasNodes t)) (sym same) over

  -- the drive is as it was
  pub stays : (P : DriveState → DriveState → Type 0) → ((nodes : List Node) → before.told ≡ Some nodes → HasNodes t nodes → P (drive_of t nodes) (drive_of t nodes)) → Leaves t before t after P
  stays P each = (still_over, λ none. same ∙ none, λ nodes told. (nodes, same ∙ told, each nodes told (held_by t before over nodes told)))

  module _ (sound : IsSound t) (comes : DriveState → outcome.Outcome) where
    -- the operation is refused
    pub refused_so : IsCalm before after → (status : Status) → IsOwnStatus status → ((nodes : List Node) → before.told ≡ Some nodes → HasNodes t nodes → comes (drive_of t nodes) ≡ outcome.refused (drive_of t nodes) status) → Serves t before t after comes (Err status)
    refused_so calm status own each = (sound, inl (own, calm, stays (λ s left. comes s ≡ outcome.refused left status) each))

    -- the folder refused, or no memory was found
    pub refused_by : (status : Status) → IsRefusedBy before after status → Serves t before t after comes (Err status)
    refused_by status by = (sound, inr (by, (λ nodes. refl), stays (λ s left. left ≡ s) (λ nodes told holds. refl)))

    -- it is done, and changes nothing
    pub done_so : IsCalm before after → (body : Body) (news : told_news.News) → news.closed ≡ None → IsHeard t news
        → ((nodes : List Node) → before.told ≡ Some nodes → HasNodes t nodes → comes (drive_of t nodes) ≡ record { state = drive_of t nodes; answer = step.Reply (outcome.done body); news = news_of t news })
        → Serves t before t after comes (Ok (done.Replied body news))
    done_so calm body news none heard each = (subst (λ closed. IsSoundBut closed t) (sym none) sound, heard, calm, stays (λ s left. comes s ≡ record { state = left; answer = step.Reply (outcome.done body); news = news_of t news }) each)

    -- it is done, changes nothing, and there is nothing to tell
    pub done_quietly : IsCalm before after → (body : Body) (news : told_news.News) → news ≡ nothing → ((nodes : List Node) → before.told ≡ Some nodes → HasNodes t nodes → comes (drive_of t nodes) ≡ outcome.succeeded (drive_of t nodes) body outcome.no_news)
        → Serves t before t after comes (Ok (done.Replied body news))
    done_quietly calm body news quiet each = subst (λ (n : told_news.News). Serves t before t after comes (Ok (done.Replied body n))) (sym quiet) (done_so calm body nothing refl (tt, (tt, (tt, (tt, tt)))) each)

-- the table changes, and the folder tells what it told
pub table_leaves : (old new : Table) (before after : Seen) → IsOver old before → after.told ≡ before.told → (P : DriveState → DriveState → Type 0)
    → ((nodes : List Node) → before.told ≡ Some nodes → HasNodes old nodes → HasNodes new nodes × P (drive_of old nodes) (drive_of new nodes)) → Leaves old before new after P
table_leaves old new before after over same P each = (
  over_new before.told refl,
  λ none. same ∙ none,
  λ nodes told. (nodes, same ∙ told, (each nodes told (held_by old before over nodes told)).1),
)
  where
    over_new : (found : Option (List Node)) → before.told ≡ found → IsOver new after
    over_new None told = subst (λ (left : Option (List Node)). IfSome left (HasNodes new)) (sym (same ∙ told)) tt
    over_new (Some nodes) told = subst (λ (left : Option (List Node)). IfSome left (HasNodes new)) (sym (same ∙ told)) (each nodes told (held_by old before over nodes told)).0

module _ (old new : Table) (before after : Seen) (over : IsOver old before) (same : after.told ≡ before.told) (sound : IsSound new) (comes : DriveState → outcome.Outcome) (calm : IsCalm before after) where
  -- the operation is refused, and the table changes
  pub refused_with : (status : Status) → IsOwnStatus status
      → ((nodes : List Node) → before.told ≡ Some nodes → HasNodes old nodes → HasNodes new nodes × (comes (drive_of old nodes) ≡ outcome.refused (drive_of new nodes) status)) → Serves old before new after comes (Err status)
  refused_with status own each = (sound, inl (own, calm, table_leaves old new before after over same (λ s left. comes s ≡ outcome.refused left status) each))

  -- it is done, and the table changes
  pub done_with : (body : Body) (news : told_news.News) → news ≡ nothing
      → ((nodes : List Node) → before.told ≡ Some nodes → HasNodes old nodes → HasNodes new nodes × (comes (drive_of old nodes) ≡ outcome.succeeded (drive_of new nodes) body outcome.no_news))
      → Serves old before new after comes (Ok (done.Replied body news))
  done_with body news quiet each =
      subst (λ (n : told_news.News). Serves old before new after comes (Ok (done.Replied body n))) (sym quiet)
      (sound, (tt, (tt, (tt, (tt, tt)))), calm, table_leaves old new before after over same (λ s left. comes s ≡ outcome.succeeded left body outcome.no_news) each)

-- ---- the folder isn't asked

module _ (t : Table) (folder : Seen) (over : IsOver t folder) where
  pub is_calm : IsCalm folder folder
  is_calm = refl

  module _ (sound : IsSound t) (comes : DriveState → outcome.Outcome) where
    pub refused_at_once : (status : Status) → IsOwnStatus status → ((nodes : List Node) → HasNodes t nodes → comes (drive_of t nodes) ≡ outcome.refused (drive_of t nodes) status) → Serves t folder t folder comes (Err status)
    refused_at_once status own each = refused_so t folder folder over refl sound comes is_calm status own (λ nodes told holds. each nodes holds)

    pub done_at_once_quietly : (body : Body) (news : told_news.News) → news ≡ nothing → ((nodes : List Node) → HasNodes t nodes → comes (drive_of t nodes) ≡ outcome.succeeded (drive_of t nodes) body outcome.no_news)
        → Serves t folder t folder comes (Ok (done.Replied body news))
    done_at_once_quietly body news quiet each = done_quietly t folder folder over refl sound comes is_calm body news quiet (λ nodes told holds. each nodes holds)

-- ---- the folder changes

-- what a changing call that is done leaves, by what it makes of the nodes
pub leaves_by : (old new : Table) (before after : Seen) → IsOver old before → (comes : List Node → Option (Unit {0} × List Node)) → DoesCall before.told after.told comes (Result.Ok tt) → (P : DriveState → DriveState → Type 0)
    → ((nodes : List Node) → before.told ≡ Some nodes → HasNodes old nodes → (left : List Node) × (comes nodes ≡ Some (tt, left)) × HasNodes new left × P (drive_of old nodes) (drive_of new left))
    → Leaves old before new after P
leaves_by old new before after over comes does P each = (over_new before.told refl does, untold, λ nodes told. told_so nodes told)
  where
    over_new : (found : Option (List Node)) → before.told ≡ found → DoesCall found after.told comes (Result.Ok tt) → IsOver new after
    over_new None told d = subst (λ (left : Option (List Node)). IfSome left (HasNodes new)) (sym d) tt
    over_new (Some nodes) told d =
        let made : (left : List Node) × (comes nodes ≡ Some (tt, left)) × HasNodes new left × P (drive_of old nodes) (drive_of new left) = each nodes told (held_by old before over nodes told) in
        let same : made.0 ≡ d.0 = ap (λ (p : Unit {0} × List Node). p.1) (same_Some _ _ (sym made.1 ∙ d.1)) in
        subst (λ (left : Option (List Node)). IfSome left (HasNodes new)) (sym d.2) (subst (HasNodes new) same made.2)

    untold : before.told ≡ None → after.told ≡ None
    untold none = subst (λ (found : Option (List Node)). DoesCall found after.told comes (Result.Ok tt)) none does

    told_so : (nodes : List Node) → before.told ≡ Some nodes → (left : List Node) × (after.told ≡ Some left) × P (drive_of old nodes) (drive_of new left)
    told_so nodes told =
        let d : (left : List Node) × (comes nodes ≡ Some (tt, left)) × (after.told ≡ Some left) = subst (λ (found : Option (List Node)). DoesCall found after.told comes (Result.Ok tt)) told does in
        let made : (left : List Node) × (comes nodes ≡ Some (tt, left)) × HasNodes new left × P (drive_of old nodes) (drive_of new left) = each nodes told (held_by old before over nodes told) in
        let same : made.0 ≡ d.0 = ap (λ (p : Unit {0} × List Node). p.1) (same_Some _ _ (sym made.1 ∙ d.1)) in
        (made.0, d.2 ∙ ap Some (sym same), made.3)

-- an operation is done, and its folder has changed
pub changed_so : (t : Table) (before after : Seen) → IsOver t before → IsSound t → (outcomes : DriveState → outcome.Outcome) → IsCalm before after
    → (body : Body) (news : told_news.News) → news.closed ≡ None → IsHeard t news
    → (comes : List Node → Option (Unit {0} × List Node)) → DoesCall before.told after.told comes (Result.Ok tt)
    → ((nodes : List Node) → before.told ≡ Some nodes → HasNodes t nodes
    → (left : List Node) × (comes nodes ≡ Some (tt, left)) × HasNodes t left × (outcomes (drive_of t nodes) ≡ record { state = drive_of t left; answer = step.Reply (outcome.done body); news = news_of t news }))
    → Serves t before t after outcomes (Ok (done.Replied body news))
changed_so t before after over sound outcomes calm body news none heard comes does each = (
  subst (λ closed. IsSoundBut closed t) (sym none) sound,
  heard,
  calm,
  leaves_by t t before after over comes does (λ s left. outcomes s ≡ record { state = left; answer = step.Reply (outcome.done body); news = news_of t news }) each,
)

-- the same, and one change is told
pub changed_about : (t : Table) (before after : Seen) → IsOver t before → IsSound t → (outcomes : DriveState → outcome.Outcome) → IsCalm before after
    → (body : Body) (change : told_change.Change) → IsTold t change.named → (news : told_news.News) → news ≡ about change
    → (comes : List Node → Option (Unit {0} × List Node)) → DoesCall before.told after.told comes (Result.Ok tt)
    → ((nodes : List Node) → before.told ≡ Some nodes → HasNodes t nodes
    → (left : List Node) × (comes nodes ≡ Some (tt, left)) × HasNodes t left × (outcomes (drive_of t nodes) ≡ outcome.succeeded (drive_of t left) body (outcome.changed (change_of t change ∷ []))))
    → Serves t before t after outcomes (Ok (done.Replied body news))
changed_about t before after over sound outcomes calm body change heard news is comes does each =
    subst (λ (n : told_news.News). Serves t before t after outcomes (Ok (done.Replied body n))) (sym is)
    (changed_so t before after over sound outcomes calm body (about change) refl (tt, (heard, (tt, (tt, tt)))) comes does each)
