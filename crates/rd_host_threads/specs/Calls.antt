-- Which calls of its front a host makes, by which pass, and with which replies.
use Rattle.std.specs.Prelude.{◌≡◌, ◌<◌, ◌+◌, ◌-◌, ℕ, List}
use Rattle.std.specs.List.{AllByRecursion}
use Rattle.rd_base.specs.Layout.{AreBytes}
use Rattle.rd_host_channel.specs.Calls.{HostEntry}
use Rattle.rd_host_front.specs.declared.calls.Came.TheVariants as came
use Rattle.rd_host_front.specs.declared.calls.HostFrontCall.{HostFrontCall}
use Rattle.rd_host_front.specs.declared.calls.HostFrontCall.TheVariants as call
use Rattle.rd_host_front.specs.declared.calls.HostFrontReply.{HostFrontReply}
use Rattle.rd_host_front.specs.declared.calls.HostFrontReply.TheVariants as reply
use Rattle.rd_host_front.specs.Kept.{IsHandedBack}

-- the numbers of the passes that read and write the channel of this number, which is 1 or above: two are split for each channel, in this order
abbrev pub reader_of : ℕ → ℕ
reader_of channel = channel + channel - 1

abbrev pub writer_of : ℕ → ℕ
writer_of channel = channel + channel

abbrev pub IsByReader : (channel by : ℕ) → Type 0
IsByReader channel by = (0 < channel) × (by ≡ reader_of channel)

abbrev pub IsByWriter : (channel by : ℕ) → Type 0
IsByWriter channel by = (0 < channel) × (by ≡ writer_of channel)

module _ {W : Type 0} where
  -- A front replies so to a message that is heard, but for want of memory.
  abbrev pub IsHeardReply : List ℕ → HostFrontReply W → Type 0
  IsHeardReply message (reply.Done wakes full) = Unit {0}
  IsHeardReply message (reply.Full back) = back ≡ message
  IsHeardReply message (reply.Wrong fault) = Unit {0}
  IsHeardReply message (reply.Stray device id) = Unit {0}
  IsHeardReply message (reply.BodyBad bad) = Unit {0}
  IsHeardReply message reply.Over = Unit {0}
  IsHeardReply message _ = ⊥

  -- a room with messages came back
  abbrev pub IsRoomReply : HostFrontReply W → Type 0
  IsRoomReply (reply.Messages filled why) = Unit {0}
  IsRoomReply _ = ⊥

  -- Pass 0 begins each channel, which begins, and tries to end it; a channel's reader gives messages to be heard, which consist of bytes, and drops the channel; and its writer asks for messages.
  abbrev pub IsMadeBy : ℕ → HostFrontCall W → HostFrontReply W → Type 0
  IsMadeBy by (call.Begin channel first) (reply.First last came.Done) = (by ≡ 0) × IsHandedBack first last
  IsMadeBy by (call.DropSent first anew) (reply.First last came.NotYet) = (by ≡ 0) × IsHandedBack first last
  IsMadeBy by (call.DropSent first anew) (reply.First last came.Done) = (by ≡ 0) × IsHandedBack first last
  IsMadeBy by (call.Hear channel message) back = IsByReader channel by × AreBytes message × IsHeardReply message back
  IsMadeBy by (call.DropChannel channel) back = IsByReader channel by
  IsMadeBy by (call.Next channel room) back = IsByWriter channel by × IsRoomReply back
  IsMadeBy by _ back = ⊥

  abbrev pub IsHostsCall : HostEntry W → Type 0
  IsHostsCall e = IsMadeBy e.by e.call e.reply

  abbrev pub AreHostsCalls : List (HostEntry W) → Type 0
  AreHostsCalls entries = AllByRecursion IsHostsCall entries
