use Rattle.std.proofs.Common.{◌≡◌, ℕ, ◌+◌, ◌∷◌, Option, Some, sym, ap, subst, ◌∙◌}
use Rattle.std.specs.Prelude.{IfOk, slice_get}
use Rattle.rd_recorded.specs.Channels.{ClientSaid, HeardChannel, Saying, completes}
use Rattle.rd_recorded.specs.Views.{said_of}
use Rattle.rd_audit.specs.declared.completions.Completion.{Completion}
use Rattle.rd_audit.specs.Completions.{wrong_said}
use Rattle.rd_audit.specs.Said.{status_in}
use Rattle.rd_audit.specs.Telling.{HasTold, CompletesAt}
use Rattle.rd_audit.proofs.TellingLemmas.{read_at}
use Rattle.rd_audit.proofs.completions.Telling.hear.Goals as goal

-- src/completions.rt:180:17
pub returns-in-Some-get-clause-found : goal.returns-in-Some-get-clause-found
returns-in-Some-get-clause-found c account before keeps told =
    let channel = c.args.channel.now in
    let index = c.in-Some.index in
    let message = c.in-Completes.message in
    let asked = c.in-Some-get.asked.now in
    let said : said_of c.saying.inside.said ≡ completes (Some index) message = ap said_of c.in-Completes.is ∙ ap (λ (o : Option ℕ). completes o message) c.in-Some.is in
    let is = ap (λ (s : ClientSaid). record { entry = c.saying.inside.entry; said = s }) (sym said) ∙ c.saying.view_is in
    let same = c.deref.ensures.value ∙ ap (λ (h : HeardChannel). h.requests) c.channel.view_is in
    let at : slice_get channel.requests index ≡ Some asked = read_at c.deref.result.now channel.requests index asked same c.in-Some-get.ensures.lookup.3.0 c.in-Some-get.ensures.lookup.1 in
    let completion : Completion = record { entry = c.saying.inside.entry; index = index; status = c.status_of.result } in
    let done : CompletesAt account c.args.place channel asked completion message c.args.replayed.now = record { keeps = keeps; asked = at; status = c.status_of.ensures ∙ ap status_in c.as_slice-in-Completes.ensures } in
    subst (λ (s : Saying). IfOk c.complete.result (λ found. found ≡ wrong_said account (c.args.place + 1) channel.requests s.entry before s.said)) is (c.complete.ensures.found account channel before message done told)

-- src/completions.rt:180:17
pub returns-in-Some-get-clause-heard : goal.returns-in-Some-get-clause-heard
returns-in-Some-get-clause-heard c account before keeps told none =
    let channel = c.args.channel.now in
    let index = c.in-Some.index in
    let message = c.in-Completes.message in
    let asked = c.in-Some-get.asked.now in
    let said : said_of c.saying.inside.said ≡ completes (Some index) message = ap said_of c.in-Completes.is ∙ ap (λ (o : Option ℕ). completes o message) c.in-Some.is in
    let is = ap (λ (s : ClientSaid). record { entry = c.saying.inside.entry; said = s }) (sym said) ∙ c.saying.view_is in
    let same = c.deref.ensures.value ∙ ap (λ (h : HeardChannel). h.requests) c.channel.view_is in
    let at : slice_get channel.requests index ≡ Some asked = read_at c.deref.result.now channel.requests index asked same c.in-Some-get.ensures.lookup.3.0 c.in-Some-get.ensures.lookup.1 in
    let completion : Completion = record { entry = c.saying.inside.entry; index = index; status = c.status_of.result } in
    let done : CompletesAt account c.args.place channel asked completion message c.args.replayed.now = record { keeps = keeps; asked = at; status = c.status_of.ensures ∙ ap status_in c.as_slice-in-Completes.ensures } in
    subst (λ (s : Saying). HasTold account (c.args.place + 1) channel.requests (s ∷ before) c.complete.new.self) is (c.complete.ensures.heard account channel before message done told none)
