use Rattle.std.proofs.Common.{rules, ◌≡◌, ◌∙◌, ap, subst, sym, ℕ, ◌<◌, List, length, get_or, set}
use Rattle.std.proofs.lemmas.List.Elements.{All-same, All-set}
use Rattle.std.proofs.lemmas.Slice.Zip.{AllZip-long}
use Rattle.rd_pool.specs.Desks.{DeskPass, DesksState, IsOther, KeepsMoment}
use Rattle.rd_pool.proofs.DeskLemmas.{other_at, other_set, still_other}
use Rattle.rd_pool.proofs.MomentLemmas.{idle_keeps}
use Rattle.rd_pool.proofs.desks.Desks.call.Goals as goal

pub index_mut-requires : goal.index_mut-requires
index_mut-requires g c =
    let len : length c.passes.inside.list.items ≡ length c.args.self.now.turns = ap length c.passes.view_is ∙ AllZip-long IsOther c.args.self.now.turns c.args.passes.now c.requires.others in
    search rules

pub call-requires : goal.call-requires
call-requires g c =
    let here = other_at c.args.self.now.turns c.self.inside.turns.items c.args.passes.now c.passes.inside.list.items c.args.place c.index.result.now c.index_mut.result.now
    (ap (λ (d : DesksState g.row.D.Denot). d.turns) c.self.view_is) c.passes.view_is c.index.ensures c.index_mut.ensures.value c.requires.place c.requires.others in
    record { own = here.own }

pub returns-clause-others : goal.returns-clause-others
returns-clause-others g c =
    let turns = ap (λ (d : DesksState g.row.D.Denot). d.turns) c.self.view_is in
    let here = other_at c.args.self.now.turns c.self.inside.turns.items c.args.passes.now c.passes.inside.list.items c.args.place c.index.result.now c.index_mut.result.now turns c.passes.view_is
    c.index.ensures c.index_mut.ensures.value c.requires.place c.requires.others in
    let is = c.call.ensures in
    other_set c.args.self.now.turns c.self.inside.turns.items c.args.passes.now c.passes.inside.list.items c.args.place c.index.result.now c.call.new.pass turns c.passes.view_is c.index.ensures
    (still_other c.index.result.now c.index_mut.result.now c.call.new.pass c.args.call c.call.result here is.own is.same is.called c.requires.idle) c.requires.others

pub returns-clause-called : goal.returns-clause-called
returns-clause-called g c = (
  c.index_mut.result.now,
  c.call.new.pass,
  sym (c.index_mut.ensures.value ∙ ap (λ (l : List (DeskPass g.row.D.Denot)). get_or l c.args.place c.index_mut.result.now) c.passes.view_is),
  ap (λ (l : List (DeskPass g.row.D.Denot)). set l c.args.place c.call.new.pass) c.passes.view_is,
  c.call.ensures.called,
)

pub returns-clause-moments : goal.returns-clause-moments
returns-clause-moments g c told keeps =
    let p = c.index_mut.result.now in
    let q = c.call.new.pass in
    let len : length c.args.passes.now ≡ length c.args.self.now.turns = AllZip-long IsOther c.args.self.now.turns c.args.passes.now c.requires.others in
    let here : get_or c.args.passes.now c.args.place p ≡ p = sym (c.index_mut.ensures.value ∙ ap (λ (l : List (DeskPass g.row.D.Denot)). get_or l c.args.place p) c.passes.view_is) in
    let before : KeepsMoment told p = subst (KeepsMoment told) here (keeps c.args.place p (subst (λ (n : ℕ). c.args.place < n) (sym len) c.requires.place)) in
    All-set (KeepsMoment told) c.passes.inside.list.items c.args.place q (idle_keeps told p q c.args.call c.call.result c.call.ensures.same c.call.ensures.called c.requires.idle before)
    (All-same (KeepsMoment told) c.passes.inside.list.items c.args.passes.now c.passes.view_is keeps)
