use Rattle.std.proofs.Common.{ℕ, subst, sym, ◌∙◌}
use Rattle.rd_chunk.specs.Carrier.{IsMessage}
use Rattle.rd_irp.specs.declared.completion.Head.{Head}
use Rattle.rd_station.specs.declared.answers.Completion.{Completion}
use Rattle.rd_world.proofs.SentLemmas.{completion_is_message}
use Rattle.rd_world.proofs.StepLemmas.{fits_at}
use Rattle.rd_world.proofs.world.World.send_completion.Goals as goal

abbrev head_of : ℕ → Completion → Head
head_of device completion = record { device = device; completion = completion.completion; status = completion.reply.status }

pub write_completion-requires : goal.write_completion-requires
write_completion-requires c = (fits_at _ _ _ _ _ c.in-Some.ensures.kept c.in-Some.ensures.place c.in-Some-collect.ensures.step).0

pub carry-requires-clause-fits : goal.carry-requires-clause-fits
carry-requires-clause-fits c =
    let fits = (fits_at _ _ _ _ _ c.in-Some.ensures.kept c.in-Some.ensures.place c.in-Some-collect.ensures.step).1 in
    subst IsMessage (sym (c.as_slice.ensures ∙ c.in_ok-message.ensures.written)) (completion_is_message (head_of c.args.device c.in-Some-collect.completion) c.in-Some-collect.completion.kind c.in-Some-collect.completion.reply.body fits)

pub client_sent-requires : goal.client_sent-requires
client_sent-requires c =
    let fits = (fits_at _ _ _ _ _ c.in-Some.ensures.kept c.in-Some.ensures.place c.in-Some-collect.ensures.step).1 in
    subst IsMessage (sym (c.as_slice-2.ensures ∙ c.in_ok-message.ensures.written)) (completion_is_message (head_of c.args.device c.in-Some-collect.completion) c.in-Some-collect.completion.kind c.in-Some-collect.completion.reply.body fits)
