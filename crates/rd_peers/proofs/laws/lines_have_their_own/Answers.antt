use Rattle.rd_host_lines.proofs.CameLemmas.{lines_came}
use Rattle.rd_hosted.specs.Kept.{calls_of_front, calls_of_table}
use Rattle.rd_hosted.proofs.KeptLemmas.{outcome_came}
use Rattle.rd_peers.proofs.HostPartLemmas.{may_all, own_outcome, same_calls}
use Rattle.rd_peers.proofs.JoinedLemmas.{client_joined}
use Rattle.rd_peers.proofs.LinesLemmas.{lines_own}
use Rattle.rd_peers.specs.Peers.{IsOwnOutcome}
use Rattle.rd_pending.specs.declared.calls.Taken.{Taken}
use Rattle.rd_pending.specs.History.{accepted_in}
use Rattle.rd_table.specs.Histories.{handed_in}
use Rattle.rd_deeds.specs.HostDeeds.{MayDo, calls_of, side_of}
use Rattle.rd_declared.specs.Declaring.{bare_lines, declared_devices}
use Rattle.rd_world.specs.Recording.{client_id}
use Rattle.rd_world.specs.Session.{replies_in}
use Rattle.rd_deeds.specs.Talk.{Deed, EachAfter}
use Rattle.rd_world.specs.World.{new_application}
use Rattle.std.proofs.Common.{◌∙◌, ℕ, List, [], Contains, ap, arith, refl, subst, sym}
use Rattle.rd_peers.proofs.laws.lines_have_their_own.Goals as goal

pub returns : goal.returns
returns c calm lines channels by entries books old new servable session played other told before after hosts keeps deeds is own carried room place i at =
    let may = may_all client_id deeds (subst (λ (l : List Deed). EachAfter (λ before deed. MayDo (side_of client_id before) deed) l) (sym own) keeps.may) in
    let joined = client_joined calm lines channels by entries books old new servable session client_id deeds is carried may room in
    let seen = calls_of_table played other told before after hosts in
    let calls = calls_of_front played other told before after hosts in
    let outs : (number : ℕ) (taken : Taken) → Contains (handed_in seen) (number, taken) → IsOwnOutcome client_id (replies_in (declared_devices (bare_lines lines)) deeds) deeds number taken =
    λ number taken has. own_outcome _ keeps.deeds deeds number taken own joined.1 (outcome_came seen calls number taken keeps has) in
    let same = ap accepted_in (sym (same_calls client_id deeds) ∙ ap (calls_of client_id) own) ∙ keeps.accepted_are in
    let came = (lines_came played other before after hosts.turn hosts.issuers hosts.last hosts.plays).each place i at in
    lines_own _ deeds i.number seen hosts.table hosts.leads outs same _ _ 0 new_application [] seen refl (omega arith) (λ place r got low high. absurd (omega (arith, high))) came
