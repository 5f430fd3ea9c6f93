use Rattle.std.proofs.Common.{◌∙◌, sym, ap, subst, ℕ, ◌<◌, length}
use Rattle.rd_station.specs.Station.{StationState, entry_count, held, put_refusal}
use Rattle.rd_station.specs.Sound.{station_with}
use Rattle.rd_station.proofs.Holding.{size_held}
use Rattle.rd_station.proofs.Parts.{not_refused, refused_duplicate, refused_full, refused_worn}
use Rattle.rd_station.proofs.station.Station.refusal.Goals as goal

pub returns-in-Some : goal.returns-in-Some
returns-in-Some g c =
    let s = station_with c.self.inside.device c.self.inside.live c.self.inside.ended c.self.inside.held c.self.inside.journal.items in
    sym (ap (λ (t : StationState _). put_refusal t c.args.job.now) (sym c.self.view_is) ∙ refused_duplicate s _ c.self.invariant.0.keys_found c.args.job.now c.if-not-self.false c.in-Some.key (sym c.key_of.ensures ∙ c.in-Some.is))

pub returns-then-held-ge-MAX_HELD : goal.returns-then-held-ge-MAX_HELD
returns-then-held-ge-MAX_HELD g c =
    let s = station_with c.self.inside.device c.self.inside.live c.self.inside.ended c.self.inside.held c.self.inside.journal.items in
    sym (ap (λ (t : StationState _). put_refusal t c.args.job.now) (sym c.self.view_is)
    ∙ refused_full s _ c.self.invariant.0.keys_found c.args.job.now c.if-not-self.false (sym c.key_of.ensures ∙ c.in_default.is) c.len-held.result (c.len-held.ensures.count ∙ sym (size_held s)) c.if-held-ge-MAX_HELD.true)

pub returns-then-count : goal.returns-then-count
returns-then-count g c =
    let s = station_with c.self.inside.device c.self.inside.live c.self.inside.ended c.self.inside.held c.self.inside.journal.items in
    let few : length (held s) < 128 = subst (λ (n : ℕ). n < 128) (c.len-held.ensures.count ∙ sym (size_held s)) c.if-held-ge-MAX_HELD.false in
    sym (ap (λ (t : StationState _). put_refusal t c.args.job.now) (sym c.self.view_is)
    ∙ refused_worn s _ c.self.invariant.0.keys_found c.args.job.now c.if-not-self.false (sym c.key_of.ensures ∙ c.in_default.is) few c.entries-count.result
    (c.entries-count.ensures.count ∙ sym (ap (λ (t : StationState _). entry_count t) c.self.view_is)) c.if-count.true)

pub returns : goal.returns
returns g c =
    let s = station_with c.self.inside.device c.self.inside.live c.self.inside.ended c.self.inside.held c.self.inside.journal.items in
    let few : length (held s) < 128 = subst (λ (n : ℕ). n < 128) (c.len-held.ensures.count ∙ sym (size_held s)) c.if-held-ge-MAX_HELD.false in
    sym (ap (λ (t : StationState _). put_refusal t c.args.job.now) (sym c.self.view_is)
    ∙ not_refused s _ c.self.invariant.0.keys_found c.args.job.now c.if-not-self.false (sym c.key_of.ensures ∙ c.in_default.is) few c.entries-count.result
    (c.entries-count.ensures.count ∙ sym (ap (λ (t : StationState _). entry_count t) c.self.view_is)) c.if-count.false)
