-- That no request has two replies.
use Rattle.std.specs.Prelude.{◌≡◌, List, Contains}
use Rattle.rd_base.specs.declared.journal.Key.{Key}
use Rattle.rd_irp.specs.declared.completion.Reply.{Reply}
use Rattle.rd_drive.specs.Replies.{KeyedReply}

-- Two replies with the same key are the same.
abbrev pub HaveOneReplyEach : List KeyedReply → Type 0
HaveOneReplyEach replies = (key : Key) (one other : Reply) → Contains replies (key, one) → Contains replies (key, other) → one ≡ other
