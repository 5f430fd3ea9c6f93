use Rattle.rd_core.proofs.OpeningLemmas.{after_header, sets_before, version_before}
use Rattle.rd_core.proofs.opening.read_before.Goals as goal

pub before_end_of_version-requires : goal.before_end_of_version-requires
before_end_of_version-requires c = after_header _ _ _ _ c.new-cursor.ensures c.in_ok-read_header_among.ensures

pub before_name-requires : goal.before_name-requires
before_name-requires c = after_header _ _ _ _ c.new-cursor.ensures c.in_ok-read_header_among.ensures

pub before_sets-requires : goal.before_sets-requires
before_sets-requires c = after_header _ _ _ _ c.new-cursor.ensures c.in_ok-read_header_among.ensures

pub returns-in-ServerAnnounce-clause-before : goal.returns-in-ServerAnnounce-clause-before
returns-in-ServerAnnounce-clause-before c =
    version_before c.args.message.now c.new-cursor.result c.in_ok-read_header_among.field-0 _ c.before_end_of_version.result c.new-cursor.ensures c.in_ok-read_header_among.ensures
    c.in-ServerAnnounce.is c.before_end_of_version.ensures

pub returns-in-ServerCapability-clause-before : goal.returns-in-ServerCapability-clause-before
returns-in-ServerCapability-clause-before c =
    sets_before c.args.message.now c.new-cursor.result c.in_ok-read_header_among.field-0 _ c.before_sets.result c.new-cursor.ensures c.in_ok-read_header_among.ensures
    c.in-ServerCapability.is c.before_sets.ensures
