-- What a call that serves an operation has to show, by the news that it returns.
use Rattle.std.proofs.Common.{◌≡◌, refl, sym, subst, [], ◌∷◌, Ok, Err, inl, inr}
use Rattle.rd_base.specs.declared.status.Status.{Status}
use Rattle.rd_irp.specs.declared.completion.Body.{Body}
use Rattle.rd_tree.specs.declared.node.NodeId.{NodeId}
use Rattle.rd_tree.specs.Places.{IsLive, own_path}
use Rattle.rd_drive.specs.declared.store.Store.{Store}
use Rattle.rd_drive.specs.declared.store.Done.TheVariants as done
use Rattle.rd_drive.specs.declared.news.Change as told
use Rattle.rd_drive.specs.declared.news.News as told_news
use Rattle.rd_drive.specs.Outcome.{Outcome, changed, no_news, refused, succeeded}
use Rattle.rd_drive.specs.Locking.{unlocking}
use Rattle.rd_base.specs.Statuses.{no_memory}
use Rattle.rd_drive.specs.Store.{about, about_locks, change_of, drive_of, nothing, IsSound, IsTold, Serves}

module _ (old new : Store) (comes : Outcome) (body : Body) (news : told_news.News) (sound : IsSound new) where
  -- done, and nothing to tell
  pub serves_quiet : news ≡ nothing → comes ≡ succeeded (drive_of new) body no_news → Serves old new comes (Ok (done.Replied body news))
  serves_quiet e is = subst (λ n. Serves old new comes (Ok (done.Replied body n))) (sym e) (sound, (tt, (tt, (tt, (tt, tt)))), is)

  -- done, and one change is told
  pub serves_change : (change : told.Change) → news ≡ about change → IsTold new.tree change.named → comes ≡ succeeded (drive_of new) body (changed (change_of new.tree change ∷ []))
      → Serves old new comes (Ok (done.Replied body news))
  serves_change change e there is = subst (λ n. Serves old new comes (Ok (done.Replied body n))) (sym e) (sound, (tt, (there, (tt, (tt, tt)))), is)

  -- done, and a file may have fewer locks
  pub serves_unlock : (node : NodeId) → news ≡ about_locks node → IsLive new.tree node.0 → comes ≡ succeeded (drive_of new) body (unlocking (own_path new.tree node.0))
      → Serves old new comes (Ok (done.Replied body news))
  serves_unlock node e live is = subst (λ n. Serves old new comes (Ok (done.Replied body n))) (sym e) (sound, (live, (tt, (tt, (tt, tt)))), is)

module _ (old new : Store) (comes : Outcome) (sound : IsSound old) (same : new ≡ old) where
  -- refused, and nothing changed
  pub serves_refused : (status : Status) → comes ≡ refused (drive_of old) status → Serves old new comes (Err status)
  serves_refused status is = subst (λ (t : Store). Serves old t comes (Err status)) (sym same) (sound, inl is)

  -- no memory was found, and nothing changed
  pub serves_no_memory : Serves old new comes (Err no_memory)
  serves_no_memory = subst (λ (t : Store). Serves old t comes (Err no_memory)) (sym same) (sound, inr (refl, refl))
