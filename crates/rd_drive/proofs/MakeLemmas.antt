-- A node is made and opened, or taken back where there is no memory for its handle.
use Rattle.std.proofs.Common.{◌≡◌, ◌∙◌, refl, sym, ap, subst, ℕ, ◌+◌, ◌<◌, Bool, true, false, not, cond, List, [], ◌∷◌, length, inl, inr, ◌⊎◌, Option, Some, None, Ok, Err}
use Rattle.std.specs.Prelude.{nat_eq, nat_le}
use Rattle.std.specs.List.Sorted.{IsStrictlySortedBy}
use Rattle.std.specs.Option.{option_map, unwrap_or, is_some}
use Rattle.std.specs.Ordering.{nat_cmp}
use Rattle.std.specs.HashMap.{get}
use Rattle.std.specs.Map.{keys_of}
use Rattle.rd_base.specs.Limits.{max_nodes}
use Rattle.rd_drive.proofs.StoreLemmas.{turned}
use Rattle.rd_base.specs.declared.status.Status.{Status}
use Rattle.rd_irp.specs.declared.completion.Body.TheVariants.{Created}
use Rattle.rd_dirinfo.specs.Naming.{Name}
use Rattle.rd_dirinfo.specs.Paths.{Names, is_same_path, is_within_limits, parent}
use Rattle.rd_tree.specs.declared.node.NodeId.{NodeId}
use Rattle.rd_tree.specs.declared.refusal.AddNo.{AddNo}
use Rattle.rd_tree.specs.declared.refusal.AddNo.TheVariants as add_no
use Rattle.rd_tree.specs.Places as places
use Rattle.rd_tree.specs.Places.{Place, Places, add_refusal, folder_of, has_child, new_place, node_at, own_path, place, with_place, without, IsLive, IsWhole}
use Rattle.rd_drive.specs.declared.access.Use.{Use}
use Rattle.rd_drive.specs.declared.asked.Asked.{Asked}
use Rattle.rd_drive.specs.declared.store.Store.{Store}
use Rattle.rd_drive.specs.declared.store.Done.{Done}
use Rattle.rd_drive.specs.declared.store.Done.TheVariants as done
use Rattle.rd_drive.specs.declared.news.Named.TheVariants as named_by
use Rattle.rd_drive.specs.Changes.{name_bit}
use Rattle.rd_drive.specs.Create.{is_full, made_attributes, make_node, opened, wants_folder}
use Rattle.rd_drive.specs.DriveState.{with_new_node}
use Rattle.rd_drive.specs.Kept.{IsKept}
use Rattle.rd_drive.specs.Made.{with_asked_use, made_state, needs_node, AddsHandle, AddsNode, IsAlike}
use Rattle.rd_drive.specs.Outcome.{Outcome, refused}
use Rattle.rd_base.specs.Statuses.{disk_full, no_memory}
use Rattle.rd_drive.specs.Uses.{uses_of}
use Rattle.rd_drive.specs.Store.{States, about, state_of, drive_of, IsSound, Serves}
use Rattle.rd_drive.proofs.AlikeLemmas.{alike_drive, alike_sound, serves_alike}
use Rattle.rd_drive.proofs.AskedLemmas.{asked_alone, asked_fits, childless}
use Rattle.rd_drive.proofs.CreateLemmas.{comes_crowded, comes_made, made, named}
use Rattle.rd_drive.proofs.GrownLemmas.{back, grown_drive, grown_here, grown_live, grown_sound, live_apart}
use Rattle.rd_drive.proofs.HandlesLemmas.{all_kept}
use Rattle.rd_drive.proofs.MadeLemmas.{serves_opened_change, used_still}

-- why a node can't be added, by what was tested
abbrev why : Bool → Bool → Bool → Option AddNo
why lost taken full = cond lost (Some add_no.PathNotFound) (cond taken (Some add_no.Collision) (cond full (Some add_no.Full) None))

room_where : (a b c : Bool) → why a b c ≡ None → c ≡ false
room_where true b c e = absurd (cc)
room_where false true c e = absurd (cc)
room_where false false true e = absurd (cc)
room_where false false false e = refl

full_where : (a b c : Bool) → add_no.Full ≡ unwrap_or (why a b c) add_no.Memory → c ≡ true
full_where true b c e = absurd (cc)
full_where false true c e = absurd (cc)
full_where false false true e = refl
full_where false false false e = absurd (cc)

folds_as_asked : (b : Bool) (bytes : List ℕ) → not (is_some (cond b None (Some bytes))) ≡ b
folds_as_asked true bytes = refl
folds_as_asked false bytes = refl

module _ (s : Store) (sound : IsSound s) (rising : IsStrictlySortedBy nat_cmp (keys_of s.handles.entries)) (asked : Asked) (moment : ℕ) (path : Names) (free : is_full (drive_of s) ≡ false)
    (none : node_at s.tree path ≡ None) (folder : ℕ) (found : folder_of s.tree path ≡ Some folder) (wanted : needs_node asked ≡ false) (stays : (state_of s.states folder).pending ≡ false) where
  abbrev comes : Outcome
  comes = make_node (drive_of s) asked moment path

  name : (y : Name) × (ys : Names) × (path ≡ y ∷ ys)
  name = named s sound asked moment path free none

  refusal_is : add_refusal s.tree path ≡ why (not (places.is_folder_at s.tree (parent path))) (is_some (node_at s.tree path)) (nat_le max_nodes (length s.tree.list))
  refusal_is =
      ap (add_refusal s.tree) name.2
      ∙ ap (λ (p : Names). why (not (places.is_folder_at s.tree (parent p))) (is_some (node_at s.tree p)) (nat_le max_nodes (length s.tree.list))) (sym name.2)

  -- there is no room for one more
  pub serves_crowded : (t : Store) → IsAlike s t → (refusal : AddNo) → refusal ≡ add_no.Full → (refusal ≡ unwrap_or (add_refusal s.tree path) add_no.Memory) ⊎ (refusal ≡ add_no.Memory) → Serves s t comes (Err disk_full)
  serves_crowded t alike refusal full why = (
    alike_sound s sound t alike,
    inl (comes_crowded s sound asked moment path free none folder found wanted stays (by (subst (λ (r : AddNo). (r ≡ unwrap_or (add_refusal s.tree path) add_no.Memory) ⊎ (r ≡ add_no.Memory)) full why)) ∙ ap (λ d. refused d disk_full) (sym (alike_drive s sound t alike))),
  )
    where
      by : (add_no.Full ≡ unwrap_or (add_refusal s.tree path) add_no.Memory) ⊎ (add_no.Full ≡ add_no.Memory) → nat_le max_nodes (length s.tree.list) ≡ true
      by (inl e) = full_where _ _ _ (e ∙ ap (λ (o : Option AddNo). unwrap_or o add_no.Memory) refusal_is)
      by (inr e) = absurd (cc)

  module _ (fits : is_within_limits path ≡ true) (node : NodeId) (other : 0 ≡ node.0 → ⊥) (mid : Store)
      (folds : Bool) (folds_is : folds ≡ wants_folder asked) (attributes : ℕ) (attributes_are : attributes ≡ made_attributes asked) (adds_it : AddsNode s mid path folds attributes moment node.0) where
    abbrev n : ℕ
    n = node.0

    adds : AddsNode s mid path (wants_folder asked) (made_attributes asked) moment n
    adds = subst (λ (b : Bool). AddsNode s mid path b (made_attributes asked) moment n) folds_is (subst (λ (a : ℕ). AddsNode s mid path folds a moment n) attributes_are adds_it)

    abbrev p : Place
    p = new_place s.tree path (wants_folder asked)

    abbrev base : Store
    base = record s { tree = with_place s.tree n p; states = mid.states }

    mid_is : mid ≡ base
    mid_is = adds.others ∙ (λ i. record s { tree = adds.adds.made i; states = mid.states })

    alone : (k : ℕ) → IsLive s.tree k → is_same_path s.tree.naming p.path (own_path s.tree k) ≡ false
    alone k live =
        ap (λ (q : Names). is_same_path s.tree.naming (places.asked_path s.tree q) (own_path s.tree k)) name.2
        ∙ asked_alone s.tree sound.whole name.0 name.1 (ap (node_at s.tree) (sym name.2) ∙ none) k live

    within : is_within_limits p.path ≡ true
    within = ap (λ (q : Names). is_within_limits (places.asked_path s.tree q)) name.2 ∙ asked_fits s.tree sound.whole name.0 name.1 (ap is_within_limits (sym name.2) ∙ fits)

    base_sound : IsSound base
    base_sound = grown_sound s sound (all_kept s rising) n adds.adds.fresh other p within alone mid.states (made_state (made_attributes asked) moment) refl adds.kept (subst IsWhole adds.adds.made adds.is_whole)

    base_drive : drive_of base ≡ with_new_node (drive_of s) (made s sound asked moment path free none folder found wanted stays)
    base_drive = grown_drive s sound (all_kept s rising) n adds.adds.fresh other p within alone mid.states (made_state (made_attributes asked) moment) refl adds.kept

    base_live : IsLive base.tree n
    base_live = ap is_some (grown_here s.tree sound.whole n adds.adds.fresh p)

    base_path : own_path base.tree n ≡ p.path
    base_path = ap (λ (o : Option Place). unwrap_or (option_map (λ (x : Place). x.path) o) []) (grown_here s.tree sound.whole n adds.adds.fresh p)

    base_free : is_full (drive_of base) ≡ false
    base_free = ap is_full base_drive ∙ free

    room : nat_le max_nodes (length s.tree.list) ≡ false
    room = room_where _ _ _ (sym refusal_is ∙ adds.adds.allowed)

    -- ---- opened
    module _ (add : Store) (handled : AddsHandle mid add asked node) where
      handled' : AddsHandle base add asked node
      handled' = subst (λ (u : Store). AddsHandle u add asked node) mid_is handled

      pub used_made : (uses : List Use) × ((state_of add.states n).uses ≡ uses_of uses) × (length uses < 4096)
      used_made = used_still base base_sound base_free n base_live add.states (ap (λ (u : Store). (state_of u.states n).uses) handled'.others)

      pub serves_made : (t : Store) (states : States) → t ≡ record add { states = states; next = add.next + 1 } → IsKept add.states states n (with_asked_use (state_of add.states n) asked)
          → (file bits : ℕ) → file ≡ mid.next → bits ≡ cond folds 2 1
          → (returns : Done) → returns ≡ done.Replied (Created file 0) (about (record { action = 1; named = named_by.Node node; bits = bits })) → Serves s t comes (Ok returns)
      serves_made t states is now file bits id kind returns told =
          serves_opened_change base base_sound node base_live asked (λ z. absurd (other (sym z))) base_free add.handles handled'.entries handled'.looked states
          (subst (λ (u : Store). IsKept u.states states n (with_asked_use (state_of u.states n) asked)) handled'.others now)
          s t (is ∙ (λ i. record (handled'.others i) { states = states; next = (handled'.others i).next + 1 }))
          comes file 0 (id ∙ ap (λ (u : Store). u.next) mid_is) returns 1 bits told
          (comes_made s sound asked moment path free none folder found wanted stays room
          ∙ (λ i. opened (sym base_drive i) asked (sym base_path i) 0 (record { action = 1; path = sym base_path i; bits = bits_are i } ∷ [])))
        where
          bits_are : name_bit (made s sound asked moment path free none folder found wanted stays) ≡ bits
          bits_are = ap (λ b. cond b 2 1) (folds_as_asked (wants_folder asked) [] ∙ sym folds_is) ∙ sym kind

    -- ---- taken back
    module _ (add : Store) (alike : IsAlike mid add) where
      tree_is : add.tree ≡ with_place s.tree n p
      tree_is = alike.tree ∙ adds.adds.made

      pub back_live : IsLive add.tree n
      back_live = subst (λ (t : Places). IsLive t n) (sym tree_is) base_live

      pub back_empty : has_child add.tree n ≡ false
      back_empty = ap (λ (t : Places). has_child t n) tree_is ∙ childless s.tree sound.whole n adds.adds.fresh p alone (subst IsWhole adds.adds.made adds.is_whole)

      pub taken_back : (t : Store) → t ≡ record add { tree = t.tree; states = t.states } → t.tree ≡ without add.tree n → ((k : ℕ) → get nat_eq t.states k ≡ cond (nat_eq n k) None (get nat_eq add.states k)) → IsAlike s t
      taken_back t is tree states = record {
        others = is ∙ (λ i. record (alike.others i) { tree = t.tree; states = t.states }) ∙ (λ i. record (mid_is i) { tree = t.tree; states = t.states; handles = sym (ap (λ (u : Store). u.handles) is) i });
        tree = tree ∙ ap (λ (u : Places). without u n) tree_is ∙ back s.tree sound.whole n adds.adds.fresh p;
        states = λ k live.
            let apart = live_apart s.tree sound.whole n adds.adds.fresh p k live in
            states k ∙ ap (λ b. cond b None (get nat_eq add.states k)) (turned k n apart)
            ∙ alike.states k (subst (λ (u : Places). IsLive u k) (sym adds.adds.made) (grown_live s.tree sound.whole n adds.adds.fresh p k live))
            ∙ adds.kept k ∙ ap (λ b. cond b (Some (made_state (made_attributes asked) moment)) (get nat_eq s.states k)) (turned k n apart);
        entries = ap (λ (u : Store). u.handles.entries) is ∙ alike.entries ∙ ap (λ (u : Store). u.handles.entries) mid_is;
      }

      pub serves_taken_back : (t : Store) → t ≡ record add { tree = t.tree; states = t.states } → t.tree ≡ without add.tree n → ((k : ℕ) → get nat_eq t.states k ≡ cond (nat_eq n k) None (get nat_eq add.states k))
          → (status : Status) → status ≡ no_memory → Serves s t comes (Err status)
      serves_taken_back t is tree states status e = serves_alike s sound t (taken_back t is tree states) comes status e
