use Rattle.std.proofs.Common.{◌≡◌, ◌∙◌, refl, ap, sym, Some, None}
use Rattle.rd_printer.specs.Cache.{by_bytes, forgetting, keeping, kept_for}
use Rattle.rd_printer.proofs.CacheLemmas.{kept_other, renamed_none, renamed_some, seen_lookup, seen_map, seen_removed, seen_set, set_value-kept}
use Rattle.rd_printer.proofs.EntryLemmas.{missing}
use Rattle.rd_printer.proofs.cache.Cache.move_over.Goals as goal

pub returns-in-Some-get_mut : goal.returns-in-Some-get_mut
returns-in-Some-get_mut c =
    let entries = c.self.inside.kept.entries in
    let left = c.remove.new.self.entries in
    let old = c.args.old.now in
    let new = c.args.new.now in
    let gone : by_bytes left ≡ forgetting (by_bytes entries) old = ap by_bytes c.remove.ensures.entries ∙ seen_removed old entries in
    let moved : kept_for c.args.self.now old ≡ Some c.in-Some.config =
    sym (ap (λ cache. kept_for cache old) c.self.view_is) ∙ sym (seen_lookup old entries) ∙ sym c.in-Some.ensures.value in
    ap by_bytes (c.get_mut.follows.holds c.in-Some.config).0
    ∙ seen_set new c.in-Some.config left
    ∙ set_value-kept (by_bytes left) new c.in-Some.config c.in-Some-get_mut.place.now (seen_map c.remove.new.self (by_bytes left) c.remove.ensures.ordered refl)
    (sym (seen_lookup new left) ∙ sym c.in-Some-get_mut.ensures.value)
    ∙ ap (λ cache. keeping cache new c.in-Some.config) (gone ∙ ap (λ cache. forgetting cache old) c.self.view_is)
    ∙ sym (renamed_some c.args.self.now old new c.in-Some.config moved)

pub returns-in_default-get_mut : goal.returns-in_default-get_mut
returns-in_default-get_mut c =
    let entries = c.self.inside.kept.entries in
    let left = c.remove.new.self.entries in
    let old = c.args.old.now in
    let new = c.args.new.now in
    let none : kept_for c.args.self.now new ≡ None =
    sym (kept_other c.args.self.now old new c.requires.other)
    ∙ sym (ap (λ cache. kept_for (forgetting cache old) new) c.self.view_is)
    ∙ sym (ap (λ cache. kept_for cache new) (ap by_bytes c.remove.ensures.entries ∙ seen_removed old entries))
    ∙ sym (seen_lookup new left)
    ∙ sym c.in_default-get_mut.ensures.value in
    absurd (missing _ none c.requires.place)

pub returns-in_default : goal.returns-in_default
returns-in_default c =
    let entries = c.self.inside.kept.entries in
    let old = c.args.old.now in
    let none : kept_for c.args.self.now old ≡ None =
    sym (ap (λ cache. kept_for cache old) c.self.view_is) ∙ sym (seen_lookup old entries) ∙ sym c.in_default.ensures.value in
    ap by_bytes c.in_default.ensures.unchanged ∙ c.self.view_is ∙ sym (renamed_none c.args.self.now old c.args.new.now none)
