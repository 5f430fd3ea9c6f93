use Rattle.std.proofs.Common.{◌≡◌, ◌∙◌, refl, ap, sym, Some, None}
use Rattle.std.specs.Option.{is_some}
use Rattle.std.proofs.lemmas.Map.Steps.{set_value_same}
use Rattle.rd_base.proofs.ResultLemmas.{on_err_of}
use Rattle.rd_printer.specs.Cache.{by_bytes, keeping, kept_for}
use Rattle.rd_printer.proofs.CacheLemmas.{seen_lookup, seen_map, seen_set, set_value-kept, updated_none, updated_some}
use Rattle.rd_printer.proofs.cache.Cache.update.Goals as goal
use Rattle.rd_printer.proofs.cache.Cache.update.Goals.{in-Some+in_ok-kept, in_default}

pub returns-in_err-kept-clause-err : goal.returns-in_err-kept-clause-err
returns-in_err-kept-clause-err c =
    let entries = c.self.inside.kept.entries in
    let found : kept_for c.args.self.now c.args.name.now ≡ Some c.in-Some.kept.now =
    sym (ap (λ cache. kept_for cache c.args.name.now) c.self.view_is) ∙ sym (seen_lookup c.args.name.now entries) ∙ sym c.in-Some.ensures.value in
    on_err_of c.from_residual.result _
    (ap is_some found, ap by_bytes ((c.get_mut.follows.holds c.in-Some.kept.now).0 ∙ set_value_same _ entries c.in-Some.kept.now (sym c.in-Some.ensures.value)) ∙ c.self.view_is)

pub returns-clause-ok : goal.returns-clause-ok
returns-clause-ok c =
    let entries = c.self.inside.kept.entries in
    let name = c.args.name.now in
    elim c.match-get_mut.branch [
      | in-Some+in_ok-kept w ↦
          let before = w.in-Some.kept.now in
          let found : kept_for (by_bytes entries) name ≡ Some before = sym (seen_lookup name entries) ∙ sym w.in-Some.ensures.value in
          ap (λ inside. by_bytes inside.kept.entries) w.self-inside-is
          ∙ ap by_bytes (c.get_mut.follows.holds w.in_ok-kept.field-0).0
          ∙ seen_set name w.in_ok-kept.field-0 entries
          ∙ set_value-kept (by_bytes entries) name w.in_ok-kept.field-0 before (seen_map c.self.inside.kept (by_bytes entries) c.self.invariant refl) found
          ∙ (λ i. keeping (c.self.view_is i) name (w.in_ok-kept.ensures i))
          ∙ sym (updated_some c.args.self.now name c.args.config.now before (sym (ap (λ cache. kept_for cache name) c.self.view_is) ∙ found))
      | in_default w ↦
          let missing : kept_for (by_bytes entries) name ≡ None = sym (seen_lookup name entries) ∙ sym w.in_default.ensures.value in
          ap (λ inside. by_bytes inside.kept.entries) w.self-inside-is
          ∙ ap (λ kept. by_bytes kept.entries) c.get_mut.follows.holds-at-none
          ∙ c.self.view_is
          ∙ sym (updated_none c.args.self.now name c.args.config.now (sym (ap (λ cache. kept_for cache name) c.self.view_is) ∙ missing))
    ]
