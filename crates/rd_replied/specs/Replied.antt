-- Which reply a completion tells, by replies that don't go by what was done before it.
use Rattle.std.specs.Prelude.{◌≡◌, ◌⊎◌, ℕ, false, List, ◌∷◌, ◌++◌, reverse, Contains}
use Rattle.rd_base.specs.declared.journal.Item.{Item}
use Rattle.rd_base.specs.declared.journal.Item.TheVariants.{Cancelled, Sent}
use Rattle.rd_base.specs.declared.journal.Key.{Key}
use Rattle.rd_drive.specs.Replies.{cancellation}
use Rattle.rd_irp.specs.declared.completion.Reply.{Reply}
use Rattle.rd_irp.specs.declared.request.Request.{Request}
use Rattle.rd_journals.specs.Jobs.{IsAnswerOf, IsRefusalOf}
use Rattle.rd_deeds.specs.Talk.{Deed, Has, completes, journal}
use Rattle.rd_deeds.specs.Told.{Replies, came}

-- The reply is given by what the device's journal says before the key was sent.
pub record IsGivenBy (replies : Replies) (device : ℕ) (key : Key) (reply : Reply) (before : List Deed) : Type 0 where
  pub earlier : List Item
  pub later : List Item
  pub stands : reverse (journal device before) ≡ earlier ++ Sent key ∷ later
  pub given : Contains (replies device earlier) (key, reply)

-- It is given so, or the request was cancelled, or it never came and was refused.
abbrev pub ComesFrom : Replies → List Deed → Key → Request → Reply → Type 0
ComesFrom replies before key r reply =
    IsGivenBy replies r.device key reply before
    ⊎ ((Has (Cancelled key) (journal r.device before) × (reply ≡ cancellation)) ⊎ ((came key.channel (journal r.device before) key.index ≡ false) × IsRefusalOf r reply))

-- a completion is written after the read of the request that it completes, with a reply that comes so
abbrev pub AnswersBy : Replies → List Deed → Deed → Type 0
AnswersBy replies before (completes key message) = IsAnswerOf (ComesFrom replies before key) before key message
AnswersBy replies before _ = Unit {0}
