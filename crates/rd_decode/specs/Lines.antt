-- The lines that are printed of a recording's messages.
use Rattle.std.specs.Prelude.{ℕ, Bool, true, false, List, ◌++◌, codes, decimal}
use Rattle.rd_base.specs.declared.packet.Packet.{Packet}
use Rattle.rd_base.specs.declared.packet.Packet.TheVariants.{ServerAnnounce, ClientIdConfirm, ClientName, ServerCapability, ClientCapability, UserLoggedOn, DeviceListAnnounce, DeviceReply, DeviceListRemove, IoRequest, IoCompletion, PrinterCacheData, PrinterUsingXps}
use Rattle.rd_base.specs.Digits.{eight_digits}
use Rattle.rd_irp.specs.declared.request.RequestHead.{RequestHead}
use Rattle.rd_irp.specs.declared.completion.Head.{Head}
use Rattle.rd_decode.specs.declared.side.Side.{Side}
use Rattle.rd_decode.specs.declared.side.Side.TheVariants.{Host, Client}

-- the word for a side
abbrev pub side_word : Side → List ℕ
side_word Host = codes "host"
side_word Client = codes "client"

-- the name of a packet: that of its id in MS-RDPEFS 2.2.1.1, without what the ids of its component begin with
abbrev pub packet_name : Packet → List ℕ
packet_name ServerAnnounce = codes "SERVER_ANNOUNCE"
packet_name ClientIdConfirm = codes "CLIENTID_CONFIRM"
packet_name ClientName = codes "CLIENT_NAME"
packet_name ServerCapability = codes "SERVER_CAPABILITY"
packet_name ClientCapability = codes "CLIENT_CAPABILITY"
packet_name UserLoggedOn = codes "USER_LOGGEDON"
packet_name DeviceListAnnounce = codes "DEVICELIST_ANNOUNCE"
packet_name DeviceReply = codes "DEVICE_REPLY"
packet_name DeviceListRemove = codes "DEVICELIST_REMOVE"
packet_name IoRequest = codes "DEVICE_IOREQUEST"
packet_name IoCompletion = codes "DEVICE_IOCOMPLETION"
packet_name PrinterCacheData = codes "PRN_CACHE_DATA"
packet_name PrinterUsingXps = codes "PRN_USING_XPS"

-- how the line of a message of so many bytes begins
abbrev pub line_start : Side → Packet → ℕ → List ℕ
line_start side packet len = side_word side ++ codes " " ++ decimal len ++ codes " " ++ packet_name packet

-- how a line ends, which says how many bytes of the message are ignored
abbrev pub line_end : ℕ → List ℕ
line_end tail = codes " tail " ++ decimal tail ++ codes "\n"

-- the line of a message of so many bytes, with what its packet shows beside its name, and its count of ignored bytes
abbrev pub line : Side → Packet → ℕ → List ℕ → ℕ → List ℕ
line side packet len shown tail = line_start side packet len ++ shown ++ line_end tail

-- what a request shows
abbrev pub request_shown : RequestHead → List ℕ
request_shown head = codes " device " ++ decimal head.device ++ codes " id " ++ decimal head.completion ++ codes " major " ++ decimal head.major ++ codes " file " ++ decimal head.file

-- what a completion shows
abbrev pub completion_shown : Head → List ℕ
completion_shown head = codes " device " ++ decimal head.device ++ codes " id " ++ decimal head.completion ++ codes " status " ++ eight_digits (head.status).0

-- whether a side sends a packet (MS-RDPEFS 2.2.2, 2.2.3; MS-RDPEPC 2.2.2)
abbrev pub may_send : Side → Packet → Bool
may_send side ClientIdConfirm = true
may_send Client ClientName = true
may_send Client ClientCapability = true
may_send Client DeviceListAnnounce = true
may_send Client DeviceListRemove = true
may_send Client IoCompletion = true
may_send Client packet = false
may_send Host ClientName = false
may_send Host ClientCapability = false
may_send Host DeviceListAnnounce = false
may_send Host DeviceListRemove = false
may_send Host IoCompletion = false
may_send Host packet = true
