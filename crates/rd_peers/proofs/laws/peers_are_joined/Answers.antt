use Rattle.rd_hosted.proofs.KeptLemmas.{outcome_came}
use Rattle.rd_peers.proofs.HostPartLemmas.{may_all, own_outcome}
use Rattle.rd_peers.proofs.JoinedLemmas.{client_joined}
use Rattle.rd_deeds.specs.HostDeeds.{MayDo, side_of}
use Rattle.rd_world.specs.Recording.{client_id}
use Rattle.rd_deeds.specs.Talk.{Deed, EachAfter}
use Rattle.std.proofs.Common.{List, subst, sym}
use Rattle.rd_peers.proofs.laws.peers_are_joined.Goals as goal

pub returns : goal.returns
returns g c calm lines channels by entries books old new servable session seen calls keeps deeds is hosts carried room =
    let may = may_all client_id deeds (subst (λ (l : List Deed). EachAfter (λ before deed. MayDo (side_of client_id before) deed) l) (sym hosts) keeps.may) in
    let joined = client_joined calm lines channels by entries books old new servable session client_id deeds is carried may room in
    (joined.0, joined.1, λ number taken has. own_outcome _ keeps.deeds deeds number taken hosts joined.1 (outcome_came seen calls number taken keeps has))
