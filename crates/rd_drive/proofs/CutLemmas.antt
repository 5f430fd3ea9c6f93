-- What is left when a drive is cut off.
use Rattle.std.proofs.Common.{◌≡◌, ◌∙◌, refl, sym, ap, subst, ℕ, ◌+◌, ◌==◌, ◌⊎◌, inl, inr, Bool, true, false, cond, List, [], ◌∷◌, map, fold, length, Option, Some, None, Result, Ok, Err, arith}
use Rattle.std.specs.Option.{unwrap_or, option_map_or, IsSome}
use Rattle.std.specs.List.{AllByRecursion}
use Rattle.std.specs.Prelude.{slice_get}
use Rattle.std.proofs.lemmas.List.{length-map}
use Rattle.std.specs.Ordering.{nat_cmp}
use Rattle.std.specs.Map.{keys_of, lookup, remove_entry}
use Rattle.std.specs.BTreeMap.{is_at}
use Rattle.rd_tree.proofs.ViewLemmas.{itself}
use Rattle.rd_base.specs.declared.status.Status.{Status}
use Rattle.rd_tree.specs.Places.{Places}
use Rattle.rd_drive.specs.declared.store.Store.{Store}
use Rattle.rd_drive.specs.declared.store.Done.{Done}
use Rattle.rd_drive.specs.declared.store.Done.TheVariants as done
use Rattle.rd_drive.specs.declared.handle.Handle as kept
use Rattle.rd_drive.specs.declared.waiting.Waiting as kept_waiting
use Rattle.rd_drive.specs.DriveState as drive
use Rattle.rd_drive.specs.DriveState.{DriveState, Node}
use Rattle.rd_drive.specs.Outcome.{Outcome, on_handle, one_of, refused}
use Rattle.rd_drive.specs.Close.{close}
use Rattle.rd_drive.specs.DriveStep.{drive_cut, with_closed}
use Rattle.rd_base.specs.Statuses.{no_memory}
use Rattle.rd_drive.specs.Cutting.{ClosesFirst}
use Rattle.rd_drive.specs.Store.{drive_of, handle_of, kept_handle, waiting_of, HasRoom, IsFed, IsSound, IsSoundBut, Serves}
use Rattle.rd_drive.specs.Kept.{own_node}
use Rattle.rd_drive.proofs.KeptLemmas.{on_own}

-- ---- one Close

-- what a Close leaves has the other handles, and those that wait
module _ (s : DriveState) (file : ℕ) (handle : drive.Handle) (node : Node) where
  Keeps : Outcome → Type 0
  Keeps o = ((o.state).handles ≡ remove_entry (is_at (nat_cmp file)) s.handles) × ((o.state).waiting ≡ s.waiting)

  either : (test : Bool) (a b : Outcome) → Keeps a → Keeps b → Keeps (one_of test a b)
  unfolding one_of
  either true a b first second = first
  either false a b first second = second

  keeps : Keeps (close s file handle node)
  unfolding Keeps
  keeps = either _ _ _ (either _ _ _ (refl, refl) (refl, refl)) (refl, refl)

-- what is left where a call served an operation and found memory
left_by : (s new : Store) (comes : Outcome) (result : Result Done Status) → Serves s new comes result → IsFed result → ((c : Option ℕ) × IsSoundBut c new) × (comes.state ≡ drive_of new)
left_by s new comes (Ok (done.Replied body news)) serves fed = ((news.closed, serves.0), ap (λ (o : Outcome). o.state) serves.2)
left_by s new comes (Ok done.Parked) serves fed = ((None, serves.0), ap (λ (o : Outcome). o.state) serves.1)
left_by s new comes (Err status) serves fed = ((None, serves.0), by serves.1)
  where
    by : (comes ≡ refused (drive_of new) status) ⊎ ((status ≡ no_memory) × (drive_of new ≡ drive_of s)) → comes.state ≡ drive_of new
    by (inl is) = ap (λ (o : Outcome). o.state) is
    by (inr starved) = absurd (let both : true ≡ false = sym (ap (λ (st : Status). st.0 == no_memory.0) starved.0) ∙ fed in cc)

-- where none waits, what holds but for a closed file id holds
pub sound_alone : (s : Store) (closed : Option ℕ) → IsSoundBut closed s → s.waiting.items ≡ [] → IsSound s
sound_alone s closed sound none = record {
  whole = sound.whole;
  naming = sound.naming;
  label = sound.label;
  states = sound.states;
  root = sound.root;
  fitting = sound.fitting;
  opened = sound.opened;
  uses = sound.uses;
  locked = sound.locked;
  waits = subst (AllByRecursion (λ (w : kept_waiting.Waiting). (option_map_or (◌==◌ w.file) None false ≡ false → IsSome (kept_handle s w.file)) × HasRoom w.wish)) (sym none) tt;
  reserved = sound.reserved;
  few = sound.few;
  ids = sound.ids;
}

nothing_waits : (l : List kept_waiting.Waiting) → map waiting_of l ≡ [] → l ≡ []
nothing_waits [] e = refl
nothing_waits (w ∷ l) e = absurd (cc)

first_entry : (es : List (ℕ × kept.Handle)) (file : ℕ) (h : kept.Handle) → slice_get es 0 ≡ Some (file, h) → (rest : List (ℕ × kept.Handle)) × (es ≡ (file, h) ∷ rest)
first_entry [] file h e = absurd (cc)
first_entry (d ∷ rest) file h e = (rest, ap (λ (x : ℕ × kept.Handle). x ∷ rest) (same d (file, h) e))
  where
    same : (a b : ℕ × kept.Handle) → Some a ≡ Some b → a ≡ b
    same a b e = ap (λ (o : Option (ℕ × kept.Handle)). unwrap_or o a) e

module _ (s new : Store) (sound : IsSound s) (none : s.waiting.items ≡ []) (file : ℕ) (h : kept.Handle) (first : slice_get s.handles.entries 0 ≡ Some (file, h))
    (result : Result Done Status) (serves : Serves s new (on_handle (drive_of s) file (close (drive_of s) file)) result) (fed : IsFed result) where
  abbrev comes : Outcome
  comes = on_handle (drive_of s) file (close (drive_of s) file)

  entries : (rest : List (ℕ × kept.Handle)) × (s.handles.entries ≡ (file, h) ∷ rest)
  entries = first_entry s.handles.entries file h first

  here : kept_handle s file ≡ Some h
  here = ap (lookup (is_at (nat_cmp file))) entries.1 ∙ ap (λ b. cond b (Some h) (lookup (is_at (nat_cmp file)) entries.0)) (itself file)

  left : ((c : Option ℕ) × IsSoundBut c new) × (comes.state ≡ drive_of new)
  left = left_by s new comes result serves fed

  kept_so : ((drive_of new).handles ≡ remove_entry (is_at (nat_cmp file)) (drive_of s).handles) × ((drive_of new).waiting ≡ (drive_of s).waiting)
  unfolding Keeps
  kept_so =
      let goes = on_own s sound file h here (close (drive_of s) file) in
      let keeping = keeps (drive_of s) file (handle_of s.tree h) (own_node s h.node.0) in
      subst (λ (d : DriveState). (d.handles ≡ remove_entry (is_at (nat_cmp file)) (drive_of s).handles) × (d.waiting ≡ (drive_of s).waiting)) (ap (λ (o : Outcome). o.state) (sym goes) ∙ left.1) keeping

  pub first_none : new.waiting.items ≡ []
  first_none = nothing_waits new.waiting.items (kept_so.1 ∙ ap (map waiting_of) none)

  pub first_sound : IsSound new
  first_sound = sound_alone new left.0.0 left.0.1 first_none

  abbrev see : ℕ × kept.Handle → ℕ × drive.Handle
  see e = (e.0, handle_of s.tree e.1)

  pub first_closed : ClosesFirst (drive_of s) (drive_of new)
  first_closed = record {
    file = file;
    keys =
        let seen : (drive_of s).handles ≡ see (file, h) ∷ map see entries.0 = ap (map see) entries.1 in
        ap keys_of seen
        ∙ ap (λ (ks : List ℕ). file ∷ ks) (sym (ap keys_of (kept_so.0 ∙ ap (remove_entry (is_at (nat_cmp file))) seen ∙ ap (λ b. cond b (map see entries.0) (see (file, h) ∷ remove_entry (is_at (nat_cmp file)) (map see entries.0))) (itself file))));
    closed = left.1;
  }

-- ---- the whole cut

pub closed_on_way : (old new : DriveState) → ClosesFirst old new → fold with_closed old (keys_of old.handles) ≡ fold with_closed new (keys_of new.handles)
closed_on_way old new closes =
    ap (fold with_closed old) closes.keys ∙ ap (λ (d : DriveState). fold with_closed d (keys_of new.handles)) closes.closed

keys_length : {X : Type 0} (es : List (ℕ × X)) → length (keys_of es) ≡ length es
keys_length [] = refl
keys_length (e ∷ es) = let later = keys_length es in omega (arith, later)

see_in : Places → ℕ × kept.Handle → ℕ × drive.Handle
see_in tree e = (e.0, handle_of tree e.1)

pub fewer_open : (s new : Store) → ClosesFirst (drive_of s) (drive_of new) → length new.handles.entries + 1 ≡ length s.handles.entries
unfolding see_in
fewer_open s new closes =
    let before = keys_length (drive_of s).handles in
    let after = keys_length (drive_of new).handles in
    let olds = length-map s.handles.entries (see_in s.tree) in
    let news = length-map new.handles.entries (see_in new.tree) in
    let one = ap (length {A = ℕ}) closes.keys in
    omega (arith, before, after, olds, news, one)

no_entries : (s : Store) → length s.handles.entries ≡ 0 → keys_of (drive_of s).handles ≡ []
no_entries s e = by s.handles.entries e
  where
    by : (es : List (ℕ × kept.Handle)) → length es ≡ 0 → keys_of (map (λ (x : ℕ × kept.Handle). (x.0, handle_of s.tree x.1)) es) ≡ []
    by [] e = refl
    by (x ∷ es) e = absurd (omega (arith, e))

-- where no file id is open, the fold is over
pub none_open : (s : Store) → length s.handles.entries ≡ 0 → fold with_closed (drive_of s) (keys_of (drive_of s).handles) ≡ drive_of s
none_open s e = ap (fold with_closed (drive_of s)) (no_entries s e)

pub cut_is : (s middle new : Store) → drive_of middle ≡ record (drive_of s) { waiting = [] } → fold with_closed (drive_of middle) (keys_of (drive_of middle).handles) ≡ drive_of new → (drive_cut (drive_of s)).state ≡ drive_of new
cut_is s middle new cancelled closed = ap (λ (d : DriveState). fold with_closed d (keys_of d.handles)) (sym cancelled) ∙ closed
