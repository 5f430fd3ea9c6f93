-- What a call shows that asks nothing of the folder, by what it returns; and that it serves, where the folder stays as it is.
use Rattle.std.proofs.Common.{◌≡◌, ◌∙◌, refl, sym, ap, subst, inl, inr, ℕ, List, Option, Some, None, Result, Ok, Err}
use Rattle.std.specs.Option.{IfSome, IsSome}
use Rattle.rd_base.specs.declared.status.Status.{Status}
use Rattle.rd_base.specs.Statuses.{no_memory}
use Rattle.rd_irp.specs.declared.completion.Body.{Body}
use Rattle.rd_drive.specs.declared.step.Step.TheVariants as step
use Rattle.rd_drive.specs.DriveState.{DriveState, Node}
use Rattle.rd_drive.specs.Locking.{unlocking}
use Rattle.rd_drive.specs.Outcome as outcome
use Rattle.rd_drive.specs.Outcome.{Outcome, no_news, refused, succeeded}
use Rattle.rd_folder_drive.specs.declared.news.News as told_news
use Rattle.rd_folder_drive.specs.declared.table.Table.{Table}
use Rattle.rd_folder_drive.specs.declared.table.Done.{Done}
use Rattle.rd_folder_drive.specs.declared.table.Done.TheVariants as done
use Rattle.rd_folder_drive.specs.Alone.{LeavesAlone, ServesAlone}
use Rattle.rd_folder_drive.specs.Served.{IsCalm, IsOver, IsOwnStatus, Leaves, Seen, Serves, about_locks, news_of, nothing}
use Rattle.rd_folder_drive.specs.Table.{HasNodes, IsSound, drive_of, open_at, path_at}

-- ---- by what is returned

module _ (old new : Table) (comes : DriveState → Outcome) (body : Body) (news : told_news.News) (sound : IsSound new) where
  -- done, and nothing to tell
  pub alone_quiet : news ≡ nothing → LeavesAlone old new (λ s left. comes s ≡ succeeded left body no_news) → ServesAlone old new comes (Ok (done.Replied body news))
  alone_quiet e is = subst (λ n. ServesAlone old new comes (Ok (done.Replied body n))) (sym e) (sound, (tt, (tt, (tt, (tt, tt)))), is)

  -- done, and a file may have fewer locks
  pub alone_unlock : (n : ℕ) → news ≡ about_locks n → IsSome (open_at new n) → LeavesAlone old new (λ s left. comes s ≡ succeeded left body (unlocking (path_at new n)))
      → ServesAlone old new comes (Ok (done.Replied body news))
  alone_unlock n e on is = subst (λ m. ServesAlone old new comes (Ok (done.Replied body m))) (sym e) (sound, (on, (tt, (tt, (tt, tt)))), is)

module _ (old : Table) (comes : DriveState → Outcome) (sound : IsSound old) (new : Table) (same : new ≡ old) where
  -- refused, and nothing changed
  pub alone_refused : (status : Status) → IsOwnStatus status → ((nodes : List Node) → HasNodes old nodes → comes (drive_of old nodes) ≡ refused (drive_of old nodes) status) → ServesAlone old new comes (Err status)
  alone_refused status own is = subst (λ (t : Table). ServesAlone old t comes (Err status)) (sym same) (sound, inl (own, λ nodes holds. (holds, is nodes holds)))

  -- no memory was found, and nothing changed
  pub alone_starved : ServesAlone old new comes (Err no_memory)
  alone_starved = subst (λ (t : Table). ServesAlone old t comes (Err no_memory)) (sym same) (sound, inr (refl, (λ nodes. refl), λ nodes holds. (holds, refl)))

-- what a drive with these nodes comes to the same way is served as well
pub alone_same : (old new : Table) (comes other : DriveState → Outcome) (result : Result Done Status) → ((nodes : List Node) → HasNodes old nodes → other (drive_of old nodes) ≡ comes (drive_of old nodes))
    → ServesAlone old new comes result → ServesAlone old new other result
alone_same old new comes other (Ok (done.Replied body news)) same (sound, heard, alone) = (sound, heard, λ nodes holds. let is = alone nodes holds in (is.0, same nodes holds ∙ is.1))
alone_same old new comes other (Ok done.Parked) same (sound, alone) = (sound, λ nodes holds. let is = alone nodes holds in (is.0, same nodes holds ∙ is.1))
alone_same old new comes other (Ok (done.Kept status news)) same none = none
alone_same old new comes other (Err status) same (sound, inl (own, alone)) = (sound, inl (own, λ nodes holds. let is = alone nodes holds in (is.0, same nodes holds ∙ is.1)))
alone_same old new comes other (Err status) same (sound, inr starved) = (sound, inr starved)

-- ---- over a folder

-- what is said of all nodes is said of those that a folder tells, and goes on telling
leaves_alone : (old new : Table) (before after : Seen) (P : DriveState → DriveState → Type 0) → IsOver old before → after ≡ before → LeavesAlone old new P → Leaves old before new after P
leaves_alone old new before after P over same alone =
    subst (λ (seen : Seen). Leaves old before new seen P) (sym same)
    (by before.told over, (λ none. none), λ nodes told. (nodes, told, (alone nodes (holds before.told over nodes told)).1))
  where
    holds : (told : Option (List Node)) → IfSome told (HasNodes old) → (nodes : List Node) → told ≡ Some nodes → HasNodes old nodes
    holds told is nodes e = subst (λ (o : Option (List Node)). IfSome o (HasNodes old)) e is

    by : (told : Option (List Node)) → IfSome told (HasNodes old) → IfSome told (HasNodes new)
    by None is = tt
    by (Some nodes) is = (alone nodes is).0

calm_alone : (before after : Seen) → after ≡ before → IsCalm before after
calm_alone before after same = ap (λ (seen : Seen). seen.faults) same

-- A call that asks nothing of the folder serves.
pub alone_serves : (old new : Table) (comes : DriveState → Outcome) (result : Result Done Status) (before after : Seen) → IsOver old before → after ≡ before → ServesAlone old new comes result → Serves old before new after comes result
alone_serves old new comes (Ok (done.Replied body news)) before after over same (sound, heard, alone) = (
  sound,
  heard,
  calm_alone before after same,
  leaves_alone old new before after (λ s left. comes s ≡ record { state = left; answer = step.Reply (outcome.done body); news = news_of new news }) over same alone,
)
alone_serves old new comes (Ok done.Parked) before after over same (sound, alone) =
    (sound, calm_alone before after same, leaves_alone old new before after (λ s left. comes s ≡ record { state = left; answer = step.Parked; news = no_news }) over same alone)
alone_serves old new comes (Ok (done.Kept status news)) before after over same none = absurd none
alone_serves old new comes (Err status) before after over same (sound, inl (own, alone)) =
    (sound, inl (own, calm_alone before after same, leaves_alone old new before after (λ s left. comes s ≡ refused left status) over same alone))
alone_serves old new comes (Err status) before after over same (sound, inr (starved, unchanged, alone)) =
    (sound, inr (inl (starved, ap (λ (seen : Seen). seen.faults) same), unchanged, leaves_alone old new before after (λ s left. left ≡ s) over same alone))
