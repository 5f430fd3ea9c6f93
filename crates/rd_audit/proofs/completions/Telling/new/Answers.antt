use Rattle.std.proofs.Common.{◌≡◌, ℕ, ◌+◌, ◌<◌, length, Some, ap, ◌∙◌, arith}
use Rattle.std.specs.Prelude.{◌==◌, option_map, slice_get}
use Rattle.rd_recorded.specs.Channels.{HeardChannel, HeardRequest}
use Rattle.rd_audit.specs.declared.course.Course.{Course}
use Rattle.rd_audit.specs.Telling.{Told, told_asked, told_in, told_kept, with_told}
use Rattle.rd_audit.proofs.TellingLemmas.{asked_more, read_at}
use Rattle.rd_audit.proofs.completions.Telling.new.Goals as goal

-- src/completions.rt:125:9
pub loop-index-preserved : goal.loop-index-preserved
loop-index-preserved c account keeps device =
    let index = c.loop-index.index in
    let items = c.channel.inside.requests.items in
    let requests = c.args.channel.now.requests in
    let a = c.index.result.now in
    let within : index < length items = omega arith in
    let at : slice_get requests index ≡ Some a = read_at items requests index a (ap (λ (h : HeardChannel). h.requests) c.channel.view_is) within c.index.ensures in
    let to : c.behind-channel.inside.device ≡ a.device = ap (λ (h : HeardRequest). h.device) c.behind-channel.view_is in
    let course : Course = account.courses (record { channel = c.args.place + 1; index = index }) in
    let kept : c.at.result ≡ Some course = c.at.ensures ∙ keeps.courses index ∙ ap (option_map (λ (x : HeardRequest). course)) at in
    let now : ℕ → Told = told_in c.loop-index.telling in
    let middle : ℕ → Told = told_in c.take_out-told.new.self in
    let asked : told_kept c.ask.new.self ≡ told_asked index course (now a.device) = c.in_ok-ask.ensures course kept ∙ ap (told_asked index course) (c.take_out-told.ensures.told ∙ ap now to) in
    asked_more account (c.args.place + 1) requests index a now middle (told_in c.put.new.self) at (c.loop-index.invariant account keeps)
    (λ d apart. c.take_out-told.ensures.others d (ap (λ n. n == d) to ∙ apart))
    (λ d. c.in_ok-put.ensures d ∙ ap (λ n. with_told n (told_kept c.ask.new.self) middle d) to ∙ ap (λ (t : Told). with_told a.device t middle d) asked) device
