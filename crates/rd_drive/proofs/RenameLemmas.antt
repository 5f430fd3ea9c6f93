-- What a rename leaves and tells, once the tree has the node at its new path.
use Rattle.std.proofs.Common.{◌≡◌, ◌∙◌, refl, sym, ap, subst, ℕ, true, cond, List, [], ◌∷◌, ◌++◌, length, drop, nat_eq, Option, Some, None, Ok, arith}
use Rattle.std.proofs.lemmas.List.{append-nil, drop_all}
use Rattle.std.specs.Option.{unwrap_or, IfSome}
use Rattle.std.specs.Ordering.{nat_cmp}
use Rattle.std.specs.HashMap.{get}
use Rattle.std.specs.Map.{keys_of}
use Rattle.std.specs.List.Sorted.{IsStrictlySortedBy}
use Rattle.rd_tree.proofs.MoveLemmas.{prefix_itself}
use Rattle.rd_drive.proofs.TellLemmas.{has_names}
use Rattle.rd_irp.specs.declared.completion.Body.TheVariants.{Count}
use Rattle.rd_dirinfo.specs.Naming.{Name}
use Rattle.rd_dirinfo.specs.Paths.{Names, is_prefix, is_within_limits, last_name, parent}
use Rattle.rd_tree.specs.declared.node.NodeId.{NodeId}
use Rattle.rd_tree.specs.Places.{Places, place, own_path, bytes_at, asked_path, cleared, moved, IsLive, IsWhole}
use Rattle.rd_drive.specs.declared.handle.Handle as kept
use Rattle.rd_drive.specs.declared.node.NodeState.{NodeState}
use Rattle.rd_drive.specs.declared.store.Store.{Store}
use Rattle.rd_drive.specs.declared.store.Done.{Done}
use Rattle.rd_drive.specs.declared.store.Done.TheVariants as done
use Rattle.rd_drive.specs.declared.news.Named.TheVariants as named
use Rattle.rd_drive.specs.declared.news.Change as told
use Rattle.rd_drive.specs.DriveState.{with_node}
use Rattle.rd_drive.specs.Changes.{renamed_from, renamed_to}
use Rattle.rd_drive.specs.Kept.{own_node, place_with, IsKept}
use Rattle.rd_drive.specs.Outcome.{Change, Outcome, changed, succeeded}
use Rattle.rd_drive.specs.Rename.{renamed}
use Rattle.rd_drive.specs.Renaming.{changed_at, kind_bit, renaming, IsAbove}
use Rattle.rd_drive.specs.Store.{States, blank, state_of, node_with, changes_of, drive_of, kept_handle, IsSound, IsTold, Serves}
use Rattle.rd_drive.proofs.KeptLemmas.{changed_store, drive_changed, kept_store, sound_changed, kept_whole}
use Rattle.rd_drive.proofs.MovedLemmas.{bytes_moved, folder_moved, left_drive, moved_drive, moved_sound, moved_store, own_moved, own_stays}
use Rattle.rd_drive.proofs.TargetLemmas.{joined_at, parent_above}

-- the changes after a first that there may be
changes_on : (tree : Places) (gone : Option told.Change) (more : List (Option told.Change)) → changes_of tree (gone ∷ []) ++ changes_of tree more ≡ changes_of tree (gone ∷ more)
changes_on tree None more = refl
changes_on tree (Some change) more = refl

module _ (s : Store) (sound : IsSound s) (order : IsStrictlySortedBy nat_cmp (keys_of s.handles.entries)) (node : NodeId) (live : IsLive s.tree node.0) (other : 0 ≡ node.0 → ⊥) (to : Names)
    (after : IsWhole (moved s.tree node.0 to)) (same : (k : ℕ) → IsLive (moved s.tree node.0 to) k → place (cleared s.tree node.0 to) k ≡ place s.tree k) (lives : IsLive (moved s.tree node.0 to) node.0)
    (states : States) (kept_same : (k : ℕ) → IsLive (moved s.tree node.0 to) k → get nat_eq states k ≡ get nat_eq s.states k)
    (opened : (file : ℕ) (h : kept.Handle) → kept_handle s file ≡ Some h → IsLive (moved s.tree node.0 to) h.node.0)
    (fits : (k : ℕ) → IsLive (moved s.tree node.0 to) k → is_within_limits (own_path (moved s.tree node.0 to) k) ≡ true) where
  abbrev n : ℕ
  n = node.0

  abbrev from : Names
  from = own_path s.tree n

  abbrev asked : Names
  asked = asked_path s.tree to

  abbrev tree : Places
  tree = moved s.tree n to

  abbrev mid : Store
  mid = moved_store s sound n to after same states kept_same opened

  mid_sound : IsSound mid
  mid_sound = moved_sound s sound n to after same states kept_same opened fits

  pub asked_own : own_path tree n ≡ asked
  asked_own =
      own_moved s.tree sound.whole n to after same n lives
      ∙ ap (λ b. cond b (asked ++ drop (length from) from) from) (prefix_itself s.tree.naming from)
      ∙ ap (λ (p : Names). asked ++ p) (drop_all (length from) from (omega arith)) ∙ append-nil asked

  bytes_own : bytes_at tree n ≡ bytes_at s.tree n
  bytes_own = bytes_moved s.tree sound.whole n to after same n lives

  -- ---- what stands above the node stays, and what it is told by
  module _ (folder : NodeId) (above : IsAbove s.tree n folder) (stands : IsLive tree folder.0) (old : Name) (named_so : old ≡ last_name from) where
    some : from ≡ [] → ⊥
    some = has_names s.tree sound.whole n live other

    folder_stays : own_path tree folder.0 ≡ parent from
    folder_stays = own_stays s.tree sound.whole n to after same folder.0 stands (ap (is_prefix s.tree.naming from) above.path ∙ parent_above s.tree.naming from some) ∙ above.path

    from_path : own_path tree folder.0 ++ old ∷ [] ≡ from
    from_path = (λ i. folder_stays i ++ named_so i ∷ []) ∙ joined_at from some

    -- ---- the moment of the change
    module _ (moment : ℕ) (last : States) (now : IsKept states last n (changed_at (state_of states n) moment)) where
      abbrev pub final : Store
      final = record s { tree = moved s.tree node.0 to; states = last }

      alike_final : final ≡ changed_store mid n (bytes_at tree n) last
      alike_final = kept_store mid after n lives final refl

      pub final_sound : IsSound final
      final_sound = subst IsSound (sym alike_final)
          (sound_changed None mid mid_sound n lives (bytes_at tree n) last (changed_at (state_of states n) moment) now (kept_whole tree after n lives) refl (λ (z : n ≡ 0). absurd (other (sym z))))

      node_is : node_with (changed_at (state_of states n) moment) (place_with tree n (bytes_at tree n)) ≡ record (own_node s n) { path = asked; moments = record (own_node s n).moments { change = moment } }
      node_is =
          let st : state_of states n ≡ state_of s.states n = ap (λ (o : Option NodeState). unwrap_or o blank) (kept_same n lives) in
          λ i. record {
            path = asked_own i;
            bytes = bytes_own i;
            attributes = (st i).attributes;
            moments = record (st i).moments { change = moment };
            pending = (st i).pending;
          }

      pub final_drive : drive_of final ≡ renamed (left_drive s sound n to after same states kept_same opened) moment (own_node s n) asked
      final_drive =
          ap drive_of alike_final
          ∙ drive_changed None mid mid_sound n lives (bytes_at tree n) last (changed_at (state_of states n) moment) now
          ∙ (λ i. with_node (moved_drive s sound n to after same states kept_same opened order i) (node_is i))

      -- ---- what is told
      module _ (count : ℕ) (gone : Option told.Change) (went : List Change) (heard : IfSome gone (λ (c : told.Change). IsTold tree c.named)) (tells : changes_of tree (gone ∷ []) ≡ went) (comes : Outcome)
          (e : comes ≡ succeeded (renamed (left_drive s sound n to after same states kept_same opened) moment (own_node s n) asked) (Count count) (changed (went ++ renamed_from from (own_node s n) ∷ renamed_to asked (own_node s n) ∷ []))) where
        changes_are : went ++ renamed_from from (own_node s n) ∷ renamed_to asked (own_node s n) ∷ [] ≡ changes_of tree (renaming gone folder old node (kind_bit (bytes_at tree n))).changes
        changes_are =
            (λ i. sym tells i ++ record { action = 4; path = sym from_path i; bits = kind_bit (sym bytes_own i) } ∷ record { action = 5; path = sym asked_own i; bits = kind_bit (sym bytes_own i) } ∷ [])
            ∙ changes_on tree gone (Some (record { action = 4; named = named.Gone folder old; bits = kind_bit (bytes_at tree n) }) ∷ Some (record { action = 5; named = named.Node node; bits = kind_bit (bytes_at tree n) }) ∷ [])

        serves_final : Serves s final comes (Ok (done.Replied (Count count) (renaming gone folder old node (kind_bit (bytes_at tree n)))))
        serves_final = (
          final_sound,
          (tt, (heard, ((folder_moved s.tree sound.whole n to after same folder.0 stands ∙ above.folds, ap is_within_limits from_path ∙ sound.fitting n live), (lives, tt)))),
          e ∙ (λ i. succeeded (sym final_drive i) (Count count) (changed (changes_are i))),
        )

        -- what a call leaves that did so, and what it returns
        pub serves_moved : (new : Store) → new ≡ final → (returns : Done) → returns ≡ done.Replied (Count count) (renaming gone folder old node (kind_bit (bytes_at tree n))) → Serves s new comes (Ok returns)
        serves_moved new is returns told = subst (λ (r : Done). Serves s new comes (Ok r)) (sym told) (subst (λ (t : Store). Serves s t comes (Ok (done.Replied (Count count) (renaming gone folder old node (kind_bit (bytes_at tree n)))))) (sym is) serves_final)
