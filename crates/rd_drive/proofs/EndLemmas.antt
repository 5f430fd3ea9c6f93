-- What the news ends are requests that wait, each with a reply of its layout; the others wait on.
use Rattle.std.proofs.Common.{◌≡◌, ◌∙◌, refl, sym, ap, subst, ℕ, ◌≤◌, ◌⊎◌, inl, inr, ◌&&◌, Bool, true, false, not, cond, List, [], ◌∷◌, ◌++◌, map, fold, length, Option, Some, None, find, arith}
use Rattle.std.specs.List.{AllByRecursion}
use Rattle.std.specs.Option.{option_map_or, unwrap_or}
use Rattle.std.proofs.lemmas.List.{append_assoc, append-nil}
use Rattle.rd_irp.specs.declared.op.Range.{Range}
use Rattle.rd_irp.specs.declared.completion.Body.TheVariants.{Buffer, Locked}
use Rattle.rd_dirinfo.specs.Paths.{Names, is_within_limits}
use Rattle.rd_drive.specs.declared.step.End.{End}
use Rattle.rd_drive.specs.DriveState.{DriveState, Waiting, Wish, Ranges, Notice, open_path}
use Rattle.rd_drive.specs.Outcome.{Change, News, done}
use Rattle.rd_drive.specs.Locking.{locks_on, asked_locks, conflicts, with_locks}
use Rattle.rd_drive.specs.Stepped.{Settled}
use Rattle.rd_drive.specs.Waiting.{change_bytes, closing_reply, ends_with, is_closed, is_told, is_tried, settled, settles, settles_open, waits_on}
use Rattle.rd_drive.specs.Device.{AreEnded, CompletesKind, IsEndOf}
use Rattle.rd_drive.specs.Answered.{drive_parked, parked_of, wish_kind}
use Rattle.rd_drive.proofs.AnswerLemmas.{found_has}
use Rattle.rd_drive.proofs.LengthLemmas.{can_count, change_length}

module _ (news : News) (fitting : AllByRecursion (λ (c : Change). is_within_limits c.path ≡ true) news.changes) where
  -- one request ends, or waits on
  Goes : Settled DriveState → Waiting → Settled DriveState → Type 0
  Goes old w new =
      ((ended : End) × (new.ends ≡ old.ends ++ ended ∷ []) × IsEndOf (parked_of w) ended × ((new.state).waiting ≡ (old.state).waiting))
      ⊎ ((new.ends ≡ old.ends) × ((new.state).waiting ≡ (old.state).waiting ++ w ∷ []))

  closes : (wish : Wish) → CompletesKind (wish_kind wish) (closing_reply wish)
  closes (Ranges exclusive ranges) = ((refl, tt), tt)
  closes (Notice deep filter) = ((refl, tt), tt)

  goes : (old : Settled DriveState) (w : Waiting) → Goes old w (settles news old w)
  unfolding Goes
  goes old w = by (is_closed news w)
    where
      path : Names
      path = unwrap_or (open_path old.state w.file) []

      ranges_go : (exclusive : Bool) (ranges : List Range) (b : Bool)
          → Goes old (record { key = w.key; file = w.file; wish = Ranges exclusive ranges }) (cond b (ends_with old (with_locks old.state (asked_locks w.file exclusive ranges)) w (done Locked)) (waits_on old (record { key = w.key; file = w.file; wish = Ranges exclusive ranges })))
      ranges_go exclusive ranges true = inl (_, refl, (refl, ((tt, tt), tt)), refl)
      ranges_go exclusive ranges false = inr (refl, refl)

      change_goes : (deep : Bool) (filter : ℕ) (found : Option Change) → find (is_told old.state path deep filter) news.changes ≡ found
          → Goes old (record { key = w.key; file = w.file; wish = Notice deep filter })
          (option_map_or (λ (change : Change). ends_with old old.state w (done (Buffer (change_bytes path change)))) found (waits_on old (record { key = w.key; file = w.file; wish = Notice deep filter })))
      change_goes deep filter None e = inr (refl, refl)
      change_goes deep filter (Some change) e =
          let size = change_length path change (found_has (λ (c : Change). is_within_limits c.path ≡ true) (is_told old.state path deep filter) news.changes change e fitting) in
          let few : length (change_bytes path change) ≤ 1048576 = omega (arith, size) in
          inl (_, refl, (refl, ((tt, can_count (change_bytes path change) few), few)), refl)

      open_goes : (wish : Wish) → Goes old (record { key = w.key; file = w.file; wish = wish }) (settles_open news old (record { key = w.key; file = w.file; wish = wish }) path wish)
      open_goes (Ranges exclusive ranges) = ranges_go exclusive ranges (is_tried old.state news path && not (conflicts (locks_on old.state path) (asked_locks w.file exclusive ranges)))
      open_goes (Notice deep filter) = change_goes deep filter (find (is_told old.state path deep filter) news.changes) refl

      by : (b : Bool) → Goes old w (cond b (ends_with old old.state w (closing_reply w.wish)) (settles_open news old w path w.wish))
      by true = inl (_, refl, (refl, closes w.wish), refl)
      by false = open_goes w.wish

  -- all of them, one after the other
  Ended : List Waiting → Settled DriveState → Settled DriveState → Type 0
  Ended ws old new =
      (ends : List End) × (left : List Waiting) × (new.ends ≡ old.ends ++ ends) × ((new.state).waiting ≡ (old.state).waiting ++ left) × AreEnded (map parked_of ws) ends (map parked_of left)

  all_go : (ws : List Waiting) (old : Settled DriveState) → Ended ws old (fold (settles news) old ws)
  unfolding Goes Ended
  all_go [] old = ([], [], sym (append-nil old.ends), sym (append-nil (old.state).waiting), (refl, refl))
  all_go (w ∷ ws) old = by (goes old w) (all_go ws (settles news old w))
    where
      by : Goes old w (settles news old w) → Ended ws (settles news old w) (fold (settles news) (settles news old w) ws) → Ended (w ∷ ws) old (fold (settles news) (settles news old w) ws)
      by (inl (ended, ends, is, same)) (further, left, e, h, are) = (
        ended ∷ further,
        left,
        e ∙ ap (λ (l : List End). l ++ further) ends ∙ append_assoc old.ends (ended ∷ []) further,
        h ∙ ap (λ (l : List Waiting). l ++ left) same,
        inl (ended, further, refl, is, are),
      )
      by (inr (ends, waits)) (further, left, e, h, are) = (
        further,
        w ∷ left,
        e ∙ ap (λ (l : List End). l ++ further) ends,
        h ∙ ap (λ (l : List Waiting). l ++ left) waits ∙ append_assoc (old.state).waiting (w ∷ []) left,
        inr (map parked_of left, refl, are),
      )

  pub settled_ends : (s : DriveState) → AreEnded (drive_parked s) (settled s news).ends (drive_parked (settled s news).state)
  unfolding Ended
  settled_ends s = by (all_go s.waiting (record { state = record s { waiting = [] }; ends = [] }))
    where
      by : Ended s.waiting (record { state = record s { waiting = [] }; ends = [] }) (settled s news) → AreEnded (drive_parked s) (settled s news).ends (drive_parked (settled s news).state)
      by (ends, left, e, h, are) = subst (λ (x : List End × List Waiting). AreEnded (drive_parked s) x.0 (map parked_of x.1)) (sym (λ i. (e i, h i))) are
