use Rattle.std.proofs.Common.{◌≡◌, ◌∙◌, refl, ap, sym, ℕ, Bool, true, false, List, [], Option, Some, None}
use Rattle.std.specs.Prelude.{Vec}
use Rattle.std.specs.Map.{lookup}
use Rattle.std.specs.BTreeMap.{is_at}
use Rattle.std.specs.Option.{IsSome, is_some}
use Rattle.std.proofs.lemmas.Slice.Eq.{bytes_eq-Decides}
use Rattle.rd_base.proofs.ResultLemmas.{on_err_of}
use Rattle.rd_printer.specs.declared.notice.Notice.TheVariants.{Rename}
use Rattle.rd_printer.specs.Cache.{CacheState, by_bytes, heard, keeping, kept_for}
use Rattle.rd_printer.proofs.CacheLemmas.{kept_there, renamed_none, renamed_placed, renamed_same, seen_inserted, seen_lookup, seen_map, to_printer_name}
use Rattle.rd_printer.proofs.cache.Cache.rename.Goals as goal
use Rattle.rd_printer.proofs.cache.Cache.rename.Goals.{then-eq-via-then-eq, then-eq-via-else-eq+then-not-contains_key}

-- what a map finds is kept
found : {A : Type 0} (entries : List (Vec ℕ A × List ℕ)) (cache : CacheState) (name : List ℕ) → by_bytes entries ≡ cache → true ≡ is_some (lookup (is_at (to_printer_name name)) entries) → IsSome (kept_for cache name)
found entries cache name is some = sym (some ∙ ap is_some (seen_lookup name entries ∙ ap (λ cache'. kept_for cache' name) is))

-- names that were compared differ
differ : {Same : Type 0} (b : Bool) → (Same → b ≡ true) → false ≡ b → ¬ Same
differ b told e same = let both : false ≡ true = e ∙ told same in absurd (cc)

nothing : {X : Type 0} (found : Option X) → false ≡ is_some found → found ≡ None
nothing None e = refl
nothing (Some x) e = absurd (cc)

pub returns-then-eq-clause-ok : goal.returns-then-eq-clause-ok
returns-then-eq-clause-ok c =
    let cache = c.args.self.now in
    let old = c.args.old.now in
    let new = c.args.new.now in
    elim c.then-eq.branch [
      | then-eq-via-then-eq w ↦
          let same : old ≡ new = (bytes_eq-Decides old new).0 (sym w.if-eq.ensures) in
          sym (renamed_same cache old (seen_map c.self.inside.kept cache c.self.invariant c.self.view_is)) ∙ ap (λ name. heard cache (Rename old name)) same
      | then-eq-via-else-eq+then-not-contains_key w ↦
          let none : kept_for cache old ≡ None =
          sym (ap (λ cache'. kept_for cache' old) c.self.view_is) ∙ sym (seen_lookup old c.self.inside.kept.entries) ∙ nothing _ w.if-not-contains_key.ensures in
          sym (renamed_none cache old new none)
    ]

pub returns-in_err-place-clause-err : goal.returns-in_err-place-clause-err
returns-in_err-place-clause-err c =
    on_err_of c.from_residual.result _
    ((differ _ (bytes_eq-Decides c.args.old.now c.args.new.now).1 c.if-eq.ensures, found c.self.inside.kept.entries c.args.self.now c.args.old.now c.self.view_is c.if-not-contains_key.ensures), refl)

pub returns-in_err-insert-clause-err : goal.returns-in_err-insert-clause-err
returns-in_err-insert-clause-err c =
    on_err_of c.from_residual-in_err-insert.result _
    ((differ _ (bytes_eq-Decides c.args.old.now c.args.new.now).1 c.if-eq.ensures, found c.self.inside.kept.entries c.args.self.now c.args.old.now c.self.view_is c.if-not-contains_key.ensures), ap by_bytes c.in_err-insert.ensures.err ∙ c.self.view_is)

pub move_over-requires-clause-place : goal.move_over-requires-clause-place
move_over-requires-clause-place c =
    let entries = c.self.inside.kept.entries in
    let place = c.in_ok-place.place in
    let name : place.items ≡ c.args.new.now = c.in_ok-place.ensures.items_if_clones_equal (λ x y e. e) in
    ap is_some
    (ap (λ cache. kept_for cache c.args.new.now) (ap by_bytes c.in_ok-insert.ensures.entries ∙ seen_inserted place c.of.result entries)
    ∙ ap (λ name'. kept_for (keeping (by_bytes entries) name' c.of.result) c.args.new.now) name
    ∙ kept_there (by_bytes entries) c.args.new.now c.of.result)

pub returns-clause-ok : goal.returns-clause-ok
returns-clause-ok c =
    let cache = c.args.self.now in
    let old = c.args.old.now in
    let new = c.args.new.now in
    let entries = c.self.inside.kept.entries in
    let place = c.in_ok-place.place in
    let name : place.items ≡ new = c.in_ok-place.ensures.items_if_clones_equal (λ x y e. e) in
    let placed : by_bytes c.insert.new.self.entries ≡ keeping cache new [] =
    ap by_bytes c.in_ok-insert.ensures.entries
    ∙ seen_inserted place c.of.result entries
    ∙ (λ i. keeping (c.self.view_is i) (name i) ((c.of.ensures ∙ c.new.ensures.items) i)) in
    c.move_over.ensures
    ∙ ap (λ cache'. heard cache' (Rename old new)) placed
    ∙ renamed_placed cache old new (seen_map c.self.inside.kept cache c.self.invariant c.self.view_is)
    (differ _ (bytes_eq-Decides old new).1 c.if-eq.ensures) (found entries cache old c.self.view_is c.if-not-contains_key.ensures)
