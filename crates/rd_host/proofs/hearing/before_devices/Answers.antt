use Rattle.rd_host.proofs.HearLemmas.{devices_later}
use Rattle.rd_host.proofs.hearing.before_devices.Goals as goal

pub returns : goal.returns
returns c = λ bad e. devices_later c.args.message.now _ _ _ _ _ bad c.new-cursor.ensures c.in_ok-read_header.ensures c.in_ok-read_count32.ensures.read e
