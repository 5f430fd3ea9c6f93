-- What a change is about has a path; so what the news ends are requests that waited, each with a reply of its layout.
use Rattle.std.proofs.Common.{◌≡◌, subst, ℕ, true, List, [], ◌∷◌, map, Option, Some, None}
use Rattle.std.specs.List.{AllByRecursion, list_all}
use Rattle.std.specs.Option.{IfSome, IsSome, option_map_or}
use Rattle.std.proofs.lemmas.Bool.{and_parts}
use Rattle.rd_dirinfo.specs.Paths.{is_name, is_path, is_within_limits}
use Rattle.rd_drive.specs.declared.step.End.{End}
use Rattle.rd_drive.specs.Answered.{drive_parked, parked_of}
use Rattle.rd_drive.specs.Device.{AreEnded}
use Rattle.rd_drive.specs.DriveState.{DriveState}
use Rattle.rd_drive.specs.Outcome as outcome
use Rattle.rd_drive.specs.Store.{waiting_of}
use Rattle.rd_drive.specs.Stepped.{Settled}
use Rattle.rd_drive.specs.Waiting.{settled}
use Rattle.rd_drive.proofs.EndLemmas.{settled_ends}
use Rattle.rd_folder_drive.specs.declared.news.Change as told
use Rattle.rd_folder_drive.specs.declared.news.Named.{Named}
use Rattle.rd_folder_drive.specs.declared.news.Named.TheVariants as named
use Rattle.rd_folder_drive.specs.declared.news.News as told_news
use Rattle.rd_folder_drive.specs.declared.open.Open.{Open}
use Rattle.rd_folder_drive.specs.declared.table.Table.{Table}
use Rattle.rd_folder_drive.specs.Served.{IsHeard, IsTold, changes_of, named_path, news_of}
use Rattle.rd_folder_drive.specs.Table.{IsSoundBut, drive_of, open_at}

module _ {closed : Option ℕ} (t : Table) (sound : IsSoundBut closed t) where
  told_path : (about : Named) → IsTold t about → is_path (named_path t about) ≡ true
  told_path (named.Node n) on = by (open_at t n) (λ o e. (sound.opened n o e).path) on
    where
      by : (found : Option Open) → ((o : Open) → found ≡ Some o → is_path o.path ≡ true) → IsSome found → is_path (option_map_or (λ (o : Open). o.path) found []) ≡ true
      by None has on = absurd (cc)
      by (Some o) has on = has o (λ i. Some o)
  told_path (named.Gone path) is = is

  -- what is told of is at a path within the limits
  pub told_within : (about : Named) → IsTold t about → is_within_limits (named_path t about) ≡ true
  told_within about is = (and_parts (list_all is_name (named_path t about)) (is_within_limits (named_path t about)) (told_path about is)).1

  heard_within : (changes : List (Option told.Change)) → AllByRecursion (λ (change : Option told.Change). IfSome change (λ (c : told.Change). IsTold t c.named)) changes
      → AllByRecursion (λ (change : outcome.Change). is_within_limits change.path ≡ true) (changes_of t changes)
  heard_within [] heard = tt
  heard_within (None ∷ changes) heard = heard_within changes heard.1
  heard_within (Some change ∷ changes) heard = (told_within change.named heard.0, heard_within changes heard.1)

  -- Some of the requests that wait end, and the others wait on.
  pub news_ends : (news : told_news.News) → IsHeard t news → (new : Table) (ends : List End) → settled (drive_of t []) (news_of t news) ≡ record { state = drive_of new []; ends = ends }
      → AreEnded (map parked_of (map waiting_of t.waiting.items)) ends (map parked_of (map waiting_of new.waiting.items))
  news_ends news heard new ends is =
      subst (λ (left : Settled DriveState). AreEnded (map parked_of (map waiting_of t.waiting.items)) left.ends (drive_parked left.state)) is
      (settled_ends (news_of t news) (heard_within news.changes heard.1) (drive_of t []))
