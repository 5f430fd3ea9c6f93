use Rattle.rd_devices.specs.DeviceList.{device_list}
use Rattle.rd_devices.specs.Removal.{removal}
use Rattle.rd_devices.specs.DeviceReply.{device_reply}
use Rattle.rd_printer.specs.Notice.{notice}
use Rattle.rd_hello.specs.Hello.{hello}
use Rattle.rd_decode.proofs.MessageLemmas.{plain_default, plain_notice, tail_found}
use Rattle.rd_decode.proofs.message.plain_tail.Goals as goal

-- src/message.rt:114:1
pub returns-in_ok-read_list-in-DeviceListAnnounce-clause-tail :
    goal.returns-in_ok-read_list-in-DeviceListAnnounce-clause-tail
returns-in_ok-read_list-in-DeviceListAnnounce-clause-tail c =
    rw c.in-DeviceListAnnounce.is (tail_found device_list c.args.message.now _ _ c.requires c.in_ok-read_list-in-DeviceListAnnounce.ensures.spelled)

-- src/message.rt:114:1
pub returns-in_ok-read_removal-in-DeviceListRemove-clause-tail :
    goal.returns-in_ok-read_removal-in-DeviceListRemove-clause-tail
returns-in_ok-read_removal-in-DeviceListRemove-clause-tail c =
    rw c.in-DeviceListRemove.is (tail_found removal c.args.message.now _ _ c.requires c.in_ok-read_removal-in-DeviceListRemove.ensures.spelled)

-- src/message.rt:114:1
pub returns-in_ok-read_reply-in-DeviceReply-clause-tail :
    goal.returns-in_ok-read_reply-in-DeviceReply-clause-tail
returns-in_ok-read_reply-in-DeviceReply-clause-tail c =
    rw c.in-DeviceReply.is (tail_found device_reply c.args.message.now _ _ c.requires c.in_ok-read_reply-in-DeviceReply.ensures.spelled)

-- src/message.rt:114:1
pub returns-in_ok-read_notice-in-PrinterCacheData-clause-tail :
    goal.returns-in_ok-read_notice-in-PrinterCacheData-clause-tail
returns-in_ok-read_notice-in-PrinterCacheData-clause-tail c =
    plain_notice c.args.packet c.args.message.now _ c.in-PrinterCacheData.is (tail_found notice c.args.message.now _ _ c.requires c.in_ok-read_notice-in-PrinterCacheData.ensures.spelled)

-- src/message.rt:114:1
pub returns-in_ok-read_hello-in_default : goal.returns-in_ok-read_hello-in_default
returns-in_ok-read_hello-in_default c =
    let found = tail_found hello c.args.message.now _ _ c.requires c.in_ok-read_hello-in_default.ensures.spelled in
    let d = c.in_default in
    record {
      tail = plain_default c.args.packet c.args.message.now _ d.not-DeviceListAnnounce d.not-DeviceListRemove d.not-DeviceReply d.not-PrinterCacheData d.not-PrinterUsingXps found;
      refused = tt;
    }
