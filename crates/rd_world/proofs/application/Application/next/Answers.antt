use Rattle.std.proofs.Common.{◌≡◌, ◌<◌, ◌∙◌, ap, sym, subst, arith, ℕ, length, get_or}
use Rattle.std.specs.Prelude.{slice_get}
use Rattle.rd_world.specs.Applications.{AsksFor, asked_lines}
use Rattle.rd_world.specs.Hearing.{next_asked}
use Rattle.rd_world.specs.World.{ApplicationState}
use Rattle.rd_world.proofs.ApplicationLemmas.{asked_there, asked_within}
use Rattle.rd_world.proofs.application.Application.next.Goals as goal

pub bounds-self-inside-place : goal.bounds-self-inside-place
bounds-self-inside-place c =
    let a = c.self.inside in
    let queued : a.queued ≡ c.args.self.now.queued = ap (λ (s : ApplicationState). s.queued) c.self.view_is in
    let count : length a.outcomes.items ≡ length c.args.self.now.outcomes = ap (λ (s : ApplicationState). length s.outcomes) c.self.view_is in
    let at : c.len.result ≡ length a.outcomes.items = omega (arith, c.len.ensures) in
    let within : c.len.result < length a.places.items = omega (arith, c.requires, queued, count, at, c.self.invariant.0) in
    subst (λ (place : ℕ). place < length a.lines.now) (sym c.index-place.ensures) (asked_within a.lines.now a.places.items c.len.result c.index-place.result.now c.self.invariant.2 within)

pub returns : goal.returns
returns c =
    let a = c.self.inside in
    let queued : a.queued ≡ c.args.self.now.queued = ap (λ (s : ApplicationState). s.queued) c.self.view_is in
    let count : length a.outcomes.items ≡ length c.args.self.now.outcomes = ap (λ (s : ApplicationState). length s.outcomes) c.self.view_is in
    let at : c.len.result ≡ length a.outcomes.items = omega (arith, c.len.ensures) in
    let within : c.len.result < length a.places.items = omega (arith, c.requires, queued, count, at, c.self.invariant.0) in
    let there = asked_there a.lines.now a.places.items c.len.result c.index-place.result.now c.index-self-place.result c.self.invariant.2 within in (
      there.0,
      ap next_asked (sym c.self.view_is) ∙ ap (λ (i : ℕ). slice_get (asked_lines a.lines.now a.places.items) i) (sym at) ∙ there.1,
      subst (λ (place : ℕ). AsksFor there.0 (get_or a.lines.now place c.index-self-place.result).line) (sym c.index-place.ensures) there.2,
    )
