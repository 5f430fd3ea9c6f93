-- Each message that is written has a line.
use Rattle.std.proofs.Common.{◌≡◌, refl, sym, ap, subst, ℕ, Bool, true, false, cond, List, [], ◌∷◌, Some, None, eq-eqb}
use Rattle.std.specs.Prelude.{◌==◌, IsOk, is_ok}
use Rattle.std.specs.List.{AllByRecursion, cons_option}
use Rattle.rd_decode.specs.declared.side.Side.TheVariants.{Client, Host}
use Rattle.rd_decode.specs.Messages.{message_line}
use Rattle.rd_hello.specs.Moves.{Move, writes}
use Rattle.rd_irp.specs.declared.request.Request.{Request}
use Rattle.rd_irp.specs.Fits.{kind_of}
use Rattle.rd_printed.specs.Printed.{IsReadable, one_awaited}
use Rattle.rd_printed.proofs.ValueLemmas.{completion_line_is}
use Rattle.rd_readable.proofs.ClientLemmas.{PlainFine}
use Rattle.rd_readable.proofs.HeadedLemmas.{Fine}
use Rattle.rd_readable.proofs.OrderLemmas.{IsWrittenWell, all_later}
use Rattle.rd_world.proofs.Agreeing.{agree}
use Rattle.rd_deeds.proofs.Joined.{carried_now}
use Rattle.rd_deeds.specs.Joining.{IsCarried, Stands}
use Rattle.rd_deeds.specs.Talk.{AtEachPoint, Deed, EachAfter, client_move, client_moves, client_writes, completes, host_move, host_moves, host_writes}
use Rattle.rd_deeds.specs.Told.{Answers, Replies}

-- ---- each deed

-- the first that was picked
first_well : (P : Move → Type 0) (c : ℕ) (x : Move) (xs : List Move) → AllByRecursion P (cons_option (cond (c == c) (Some x) None) xs) → P x
first_well P c x xs all = by (c == c) (eq-eqb c c refl) all
  where
    by : (b : Bool) → b ≡ true → AllByRecursion P (cons_option (cond b (Some x) None) xs) → P x
    by true is all = all.0
    by false is all = absurd (cc is)

abbrev HostWell : List Deed → Type 0
HostWell deeds = (c : ℕ) → AllByRecursion (IsWrittenWell (Fine Host)) (host_moves c deeds)

abbrev ClientWell : List Deed → Type 0
ClientWell deeds = (c : ℕ) → AllByRecursion (IsWrittenWell PlainFine) (client_moves c deeds)

host_before : (deed : Deed) (before : List Deed) → HostWell (deed ∷ before) → HostWell before
host_before deed before all c = all_later (IsWrittenWell (Fine Host)) (host_move c deed) (host_moves c before) (all c)

client_before : (deed : Deed) (before : List Deed) → ClientWell (deed ∷ before) → ClientWell before
client_before deed before all c = all_later (IsWrittenWell PlainFine) (client_move c deed) (client_moves c before) (all c)

pub all_readable : (replies : Replies) (deeds : List Deed) → HostWell deeds → ClientWell deeds → AtEachPoint IsCarried deeds → EachAfter Stands deeds → EachAfter (Answers replies) deeds → EachAfter IsReadable deeds
all_readable replies [] host client carried stands answers = tt
all_readable replies (host_writes c m ∷ before) host client carried stands answers = (
  first_well (IsWrittenWell (Fine Host)) c (writes m) (host_moves c before) (host c),
  all_readable replies before (host_before (host_writes c m) before host) (client_before (host_writes c m) before client) carried.1 stands.1 answers.1,
)
all_readable replies (client_writes c m ∷ before) host client carried stands answers = (
  first_well (IsWrittenWell PlainFine) c (writes m) (client_moves c before) (client c) stands.0,
  all_readable replies before (host_before (client_writes c m) before host) (client_before (client_writes c m) before client) carried.1 stands.1 answers.1,
)
all_readable replies (completes key m ∷ before) host client carried stands answers =
    let (r, reply, found, is, answer) = answers.0 in (
      subst (λ (q : Request). IsOk (message_line Client (one_awaited (kind_of q.op)) m)) (sym (agree before (carried_now before carried.1) key r found)) (ap is_ok (completion_line_is r reply m is)),
      all_readable replies before (host_before (completes key m) before host) (client_before (completes key m) before client) carried.1 stands.1 answers.1,
    )
all_readable replies (deed ∷ before) host client carried stands answers =
    (tt, all_readable replies before (host_before deed before host) (client_before deed before client) carried.1 stands.1 answers.1)
