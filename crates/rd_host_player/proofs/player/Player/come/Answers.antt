use Rattle.std.proofs.Common.{List, ap, subst}
use Rattle.rd_issuer.specs.declared.issuer.Issuer.{Issuer}
use Rattle.rd_host_player.specs.Play.{HasCome, PlayState}
use Rattle.rd_host_player.proofs.player.Player.come.Goals as goal

pub returns : goal.returns
returns g c =
    let issuers = ap (λ (s : PlayState g.row.F.Denot g.row.W.Denot). s.issuers) c.self.view_is in (
      c.requires,
      subst (λ (is : List Issuer). HasCome c.args.line.now.line is c.come_to.new.issuers.items) issuers c.in_ok-come_to.ensures,
      ap (λ (s : PlayState g.row.F.Denot g.row.W.Denot). record s { lines = c.args.rest.now; issuers = c.come_to.new.issuers.items }) c.self.view_is,
    )
