use Rattle.rd_runs.proofs.HostLemmas.{host_channel}
use Rattle.rd_runs.proofs.Together.{handles_room, known}
use Rattle.rd_runs.proofs.laws.runs_keep_hosts.Goals as goal

pub returns-clause-side : goal.returns-clause-side
returns-clause-side c lines starves premises w r = (known lines starves premises w r).stands.host.is

pub returns-clause-may : goal.returns-clause-may
returns-clause-may c lines starves premises w r = (known lines starves premises w r).stands.host.may

pub returns-clause-channel : goal.returns-clause-channel
returns-clause-channel c lines starves premises w r =
    let host = (known lines starves premises w r).stands.host in (host_channel w.side w.channels w.deeds host, host.last)

pub returns-clause-handles : goal.returns-clause-handles
returns-clause-handles c lines starves premises w r = handles_room lines starves premises w r
