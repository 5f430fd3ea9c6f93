use Rattle.rd_host_player.proofs.PlayLemmas.{on_ok_map}
use Rattle.rd_host_player.proofs.player.Player.issue.Goals as goal

pub returns : goal.returns
returns g c =
    let came = c.in_ok-queue.ensures.came in
    on_ok_map c.run_all.result c.run_all.ensures (λ ran. (came.0, ran.0, c.queue.new.self, came.1, c.in_ok-queue.ensures.there, ran.1))
