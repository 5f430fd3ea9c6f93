use Rattle.rd_hello.proofs.HelloLemmas.{announce_spelled, confirm_spelled, name_spelled, server_caps_spelled, client_caps_spelled}
use Rattle.rd_hello.proofs.hello.HelloFormat.put.Goals as goal

pub returns-in-Announce-clause-spelled : goal.returns-in-Announce-clause-spelled
returns-in-Announce-clause-spelled c =
    let fits = c.put_version.ensures.fits in
    rw c.in-Announce.is (announce_spelled c.in-Announce.version fits.0 fits.1)

pub returns-in-Confirm-clause-spelled : goal.returns-in-Confirm-clause-spelled
returns-in-Confirm-clause-spelled c =
    let fits = c.put_version-in-Confirm.ensures.fits in
    rw c.in-Confirm.is (confirm_spelled c.in-Confirm.version fits.0 fits.1)

pub returns-in-Name-clause-spelled : goal.returns-in-Name-clause-spelled
returns-in-Name-clause-spelled c =
    let fits = c.put_name.ensures.fits in
    let few = rw c.in-Name.is at c.requires.fits in
    rw c.in-Name.is (name_spelled c.in-Name.unicode c.in-Name.page c.in-Name.name fits.0 fits.1 few)

pub returns-in-ServerCaps-clause-spelled : goal.returns-in-ServerCaps-clause-spelled
returns-in-ServerCaps-clause-spelled c =
    rw c.in-ServerCaps.is (server_caps_spelled c.in-ServerCaps.caps c.put_sets.ensures.spelled)

pub returns-in-ClientCaps-clause-spelled : goal.returns-in-ClientCaps-clause-spelled
returns-in-ClientCaps-clause-spelled c =
    rw c.in-ClientCaps.is (client_caps_spelled c.in-ClientCaps.caps c.put_sets-in-ClientCaps.ensures.spelled)
