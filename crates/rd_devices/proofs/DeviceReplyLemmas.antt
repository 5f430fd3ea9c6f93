-- That the bytes of a reply spell it.
use Rattle.std.proofs.Common.{◌<◌, ◌^◌}
use Rattle.rd_base.specs.declared.packet.Packet.TheVariants as packet
use Rattle.rd_base.specs.Spelling.{IsSpelling}
use Rattle.rd_base.proofs.SpellingLemmas.{written}
use Rattle.rd_base.proofs.WrittenLemmas.{done_last, number_then}
use Rattle.rd_base.proofs.HeaderLemmas.{header_then}
use Rattle.rd_devices.specs.declared.reply.DeviceReply.{DeviceReply}
use Rattle.rd_devices.specs.DeviceReply.{device_reply, reply_bytes}

pub reply_spelled : (reply : DeviceReply) → reply.id < 2 ^ 32 → (reply.code).0 < 2 ^ 32 → IsSpelling device_reply reply (reply_bytes reply)
unfolding device_reply
reply_spelled reply id code = written device_reply reply (reply_bytes reply) λ after.
    header_then packet.DeviceReply (number_then reply.id id (number_then (reply.code).0 code (done_last reply after)))
