-- Which reply a completion tells, and where its device's removal is told.
use Rattle.std.specs.Prelude.{◌≡◌, ◌⊎◌, false, List}
use Rattle.rd_base.specs.declared.journal.Item.TheVariants.{Cancelled}
use Rattle.rd_base.specs.declared.journal.Key.{Key}
use Rattle.rd_drive.specs.Replies.{cancellation}
use Rattle.rd_irp.specs.declared.completion.Reply.{Reply}
use Rattle.rd_irp.specs.declared.request.Request.{Request}
use Rattle.rd_journals.specs.Jobs.{IsAnswerOf, IsRefusalOf}
use Rattle.rd_deeds.specs.Talk.{Deed, Has, completes, journal}
use Rattle.rd_deeds.specs.Told.{IsReplied, RemovedSince, Replies, came}

-- The reply belongs to the key by its journal; or the request was cancelled, and its device removed since; or it never came and was refused.
abbrev pub IsAnswerSince : Replies → List Deed → Key → Request → Reply → Type 0
IsAnswerSince replies before key r reply =
    IsReplied replies r.device key r reply before
    ⊎ ((Has (Cancelled key) (journal r.device before) × (reply ≡ cancellation) × RemovedSince r.device key r before)
    ⊎ ((came key.channel (journal r.device before) key.index ≡ false) × IsRefusalOf r reply))

-- a completion is written after the read of the request that it completes, and answers it so
abbrev pub AnswersSince : Replies → List Deed → Deed → Type 0
AnswersSince replies before (completes key message) = IsAnswerOf (IsAnswerSince replies before key) before key message
AnswersSince replies before _ = Unit {0}
