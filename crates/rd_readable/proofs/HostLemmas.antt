-- What a host writes in order has a line.
use Rattle.std.proofs.Common.{◌≡◌, refl, subst, ℕ, Bool, true, false, cond, List, [], ◌∷◌, Some, None, Option}
use Rattle.std.specs.Prelude.{◌||◌, bytes_eq, if◌then◌else◌, is_ok, not}
use Rattle.std.specs.List.{AllByRecursion}
use Rattle.std.proofs.lemmas.Slice.Eq.{bytes_eq-Decides}
use Rattle.rd_base.specs.declared.packet.Packet.TheVariants as packet
use Rattle.rd_base.specs.Layout.{met}
use Rattle.rd_base.specs.Position.{at_start}
use Rattle.rd_core.specs.Hearing.{messages_of}
use Rattle.rd_decode.specs.declared.side.Side.TheVariants.{Host}
use Rattle.rd_devices.specs.declared.reply.DeviceReply.{DeviceReply}
use Rattle.rd_devices.specs.DeviceReply.{reply_bytes}
use Rattle.rd_hello.specs.declared.hello.Hello.{Hello}
use Rattle.rd_hello.specs.declared.hello.Hello.TheVariants.{ClientCaps, Confirm, LoggedOn, Name}
use Rattle.rd_hello.specs.declared.host.HostState.{HostState}
use Rattle.rd_hello.specs.declared.host.HostState.TheVariants.{Confirmed, Offered, Ready, Start}
use Rattle.rd_hello.specs.HostTable.{host_step}
use Rattle.rd_hello.specs.Moves.{Move, is_of}
use Rattle.rd_hello.specs.Own.{tell_log_on}
use Rattle.rd_hello.specs.Rows.{OrderRow}
use Rattle.rd_host.specs.Core.{host_side}
use Rattle.rd_host.specs.Order as host
use Rattle.rd_host.specs.Order.{HostOrder, Replying, host_at_first, host_may_write, host_part, is_host_ready}
use Rattle.rd_irp.specs.Request.{request_head}
use Rattle.rd_printer.specs.Notice.{notice}
use Rattle.rd_readable.proofs.HeadedLemmas.{Fine, announce_fine, host_confirm_fine, host_sets_fine, logged_on_fine, notice_fine, reply_fine, request_fine}
use Rattle.rd_readable.proofs.OrderLemmas.{IsWrittenWell, written_well}

-- ---- the messages of the opening

abbrev RowFine : Option (OrderRow HostState) → Type 0
RowFine None = Unit {0}
RowFine (Some row) = AllByRecursion (Fine Host) (messages_of row)

offered_fine : (b : Bool) → RowFine (cond b (Some (record { first = Some LoggedOn; second = None; next = Ready })) (Some (record { first = None; second = None; next = Ready })))
offered_fine true = (logged_on_fine, tt)
offered_fine false = tt

row_fine : (state : HostState) (h : Hello) → RowFine (host_step state h)
row_fine Start (Confirm v) = tt
row_fine (Confirmed v) (Name unicode page bytes) = (host_sets_fine, (host_confirm_fine v, tt))
row_fine Offered (ClientCaps caps) = offered_fine (tell_log_on caps)
row_fine _ _ = tt

rows_fine : (state : HostState) (h : Hello) (row : OrderRow HostState) → host_step state h ≡ Some row → AllByRecursion (Fine Host) (messages_of row)
rows_fine state h row is = subst RowFine is (row_fine state h)

-- ---- all messages

own_fine : (state : HostState) (m : List ℕ) (r q : Replying) → host.after_own state m r ≡ Some q → Fine Host m
own_fine state m r q e = by (is_host_ready state) (is_of packet.DeviceReply m) e
  where
    reply : (due : List DeviceReply) → host.after_reply r m due ≡ Some q → Fine Host m
    reply [] e = absurd (cc e)
    reply (first ∷ others) e = same (bytes_eq (reply_bytes first) m) refl e
      where
        same : (b : Bool) → bytes_eq (reply_bytes first) m ≡ b → (if b then Some (record r { due = others }) else None) ≡ Some q → Fine Host m
        same true is e = subst (Fine Host) ((bytes_eq-Decides (reply_bytes first) m).0 is) (reply_fine first)
        same false is e = absurd (cc e)

    written : (a b : Bool) → is_ok (met request_head (at_start m)) ≡ a → is_ok (met notice (at_start m)) ≡ b → (if a || b then Some r else None) ≡ Some q → Fine Host m
    written true b first second e = request_fine m first
    written false true first second e = notice_fine m second
    written false false first second e = absurd (cc e)

    by : (ready of : Bool) → (if not ready then None else (if of then host.after_reply r m r.due else (if host_may_write m then Some r else None))) ≡ Some q → Fine Host m
    by false of e = absurd (cc e)
    by true true e = reply r.due e
    by true false e = written (is_ok (met request_head (at_start m))) (is_ok (met notice (at_start m))) refl refl e

-- where the host's moves on a channel are in order, what it writes has lines
pub moves_fine : (client given : ℕ) (moves : List Move) → HostOrder client given moves → AllByRecursion (IsWrittenWell (Fine Host)) moves
moves_fine client given moves is = written_well host_side host_part (Fine Host) rows_fine own_fine (host_at_first client given) moves (announce_fine client, tt) is
