use Rattle.std.proofs.Common.{rules, ◌≡◌, ℕ, length, Option, Some, None, Ok, refl, sym, ap, ◌∙◌}
use Rattle.rd_decode.specs.Awaited.{others_of, with_awaited}
use Rattle.rd_recorded.specs.Channels.{Open, completes}
use Rattle.rd_recorded.specs.Kept.{open_of}
use Rattle.rd_recorded.specs.Messages.{with_completion, saying}
use Rattle.rd_recorded.proofs.HeardLemmas.{completion_fails, completion_heard, head_heard, hears_fault, none_changes, stray_heard}
use Rattle.rd_recorded.proofs.open_channel.OpenChannel.hear_completion.Goals as goal
use Rattle.rd_recorded.proofs.open_channel.OpenChannel.hear_completion.Goals.{in-Some+in_ok-measure, in_default}

-- src/open_channel.rt:171:13
pub returns-in_err-measure : goal.returns-in_err-measure
returns-in_err-measure c =
    let head = c.in_ok-head.head in
    let o = open_of c.args.self.now in
    let queue = o.awaited head.device head.completion in
    let read = head_heard c.args.entry c.as_slice.result.now c.args.message o head _ c.as_slice.ensures c.in_ok-head.ensures.spelled in
    let fails = completion_fails c.args.entry c.as_slice-in-Some.result.now c.args.message o head queue c.in-Some.index c.asked_kind-kind.result c.in_err-measure.field-0.0 c.as_slice-in-Some.ensures c.asked_kind-kind.ensures (sym c.in-Some.is ∙ c.in_ok-index.ensures.first) c.in_err-measure.ensures.refused in
    hears_fault _ _ _ c.in_err-measure.field-0.0 (search rules) (read ∙ fails)

-- src/open_channel.rt:159:5
pub returns : goal.returns
returns c =
    let head = c.in_ok-head.head in
    let entry = c.args.entry in
    let message = c.args.message in
    let o = open_of c.args.self.now in
    let queue = o.awaited head.device head.completion in
    let read = head_heard entry c.as_slice.result.now message o head _ c.as_slice.ensures c.in_ok-head.ensures.spelled in
    elim c.match-index.branch [
      | in-Some+in_ok-measure w ↦
          let found = completion_heard entry w.as_slice-in-Some.result.now message o head queue w.in-Some.index w.in_ok-measure.ensures.measured.0 w.asked_kind-kind.result w.as_slice-in-Some.ensures w.asked_kind-kind.ensures (sym w.in-Some.is ∙ c.in_ok-index.ensures.first) w.in_ok-measure.ensures.measured.2 in
          let said = c.in_ok-say.ensures ∙ ap (λ (i : Option ℕ). saying entry (completes i message) (open_of c.match-index.self)) w.index-is ∙ ap (λ s. saying entry (completes (Some w.in-Some.index) message) (open_of s)) w.self-is in
          let place : w.len-place.result ≡ length o.sayings = search rules in
          let done : open_of w.complete-in-Some.new.self ≡ record o { requests = with_completion w.in-Some.index (length o.sayings) o.requests; awaited = with_awaited head.device head.completion (others_of queue) o.awaited } = w.complete-in-Some.ensures ∙ rw (place, c.in_ok-index.ensures.others) refl in
          read ∙ found ∙ sym (ap (λ x. Ok x) (said ∙ ap (λ (x : Open). saying entry (completes (Some w.in-Some.index) message) x) done))
      | in_default w ↦
          let none : None ≡ _ = sym w.in_default.is ∙ c.in_ok-index.ensures.first in
          let said = c.in_ok-say.ensures ∙ ap (λ (i : Option ℕ). saying entry (completes i message) (open_of c.match-index.self)) (w.index-is ∙ w.in_default.is) ∙ ap (λ s. saying entry (completes None message) (open_of s)) w.self-is in
          let same = c.in_ok-index.ensures.others ∙ none_changes head.device head.completion queue o.awaited none refl in
          read ∙ stray_heard entry message o head queue none ∙ sym (ap (λ x. Ok x) (said ∙ ap (λ a. saying entry (completes None message) (record o { awaited = a })) same))
    ]
