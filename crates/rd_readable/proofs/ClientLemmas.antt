-- What a client writes in order has a line, unless it is a completion.
use Rattle.std.proofs.Common.{◌≡◌, refl, subst, ℕ, Bool, true, false, List, Some, None, Option, Result, Ok, Err}
use Rattle.std.specs.Prelude.{◌&&◌, if◌then◌else◌, is_ok, not}
use Rattle.std.specs.List.{AllByRecursion}
use Rattle.rd_base.specs.declared.bad.Bad.{Bad}
use Rattle.rd_base.specs.declared.packet.Packet.TheVariants.{IoCompletion}
use Rattle.rd_base.specs.Layout.{met}
use Rattle.rd_base.specs.Position.{Position, at_start}
use Rattle.rd_client.specs.Core.{client_side, may_be_asked}
use Rattle.rd_client.specs.Order as client
use Rattle.rd_client.specs.Order.{ClientOrder, ClientTelling, client_at_first, client_part, is_client_ready, list_in, removal_in, value_of}
use Rattle.rd_core.specs.Hearing.{messages_of}
use Rattle.rd_decode.specs.declared.side.Side.TheVariants.{Client}
use Rattle.rd_devices.specs.declared.list.Announce.{Announce}
use Rattle.rd_devices.specs.DeviceList.{device_list}
use Rattle.rd_devices.specs.Removal.{removal}
use Rattle.rd_hello.specs.declared.client.ClientState.{ClientState}
use Rattle.rd_hello.specs.declared.client.ClientState.TheVariants.{Confirmed, Named, Offered, Ready, Start, Waiting}
use Rattle.rd_hello.specs.declared.hello.Hello.{Hello}
use Rattle.rd_hello.specs.declared.hello.Hello.TheVariants.{Announce as Announced, Confirm, LoggedOn, ServerCaps}
use Rattle.rd_hello.specs.ClientTable.{client_step}
use Rattle.rd_hello.specs.Moves.{Move, is_of}
use Rattle.rd_hello.specs.Rows.{OrderRow}
use Rattle.rd_irp.specs.declared.completion.Head.{Head}
use Rattle.rd_irp.specs.Completion.{completion_head}
use Rattle.rd_readable.proofs.HeadedLemmas.{Fine, client_confirm_fine, client_sets_fine, list_fine, name_fine, removal_fine}
use Rattle.rd_readable.proofs.OrderLemmas.{IsWrittenWell, written_well}
use Rattle.rd_deeds.proofs.Messages.{head_is, packet_is}
use Rattle.rd_deeds.specs.Talk.{head_in}

-- a message has a line that is no completion
abbrev pub PlainFine : List ℕ → Type 0
PlainFine m = is_of IoCompletion m ≡ false → Fine Client m

-- ---- the messages of the opening

abbrev RowFine : Option (OrderRow ClientState) → Type 0
RowFine None = Unit {0}
RowFine (Some row) = AllByRecursion PlainFine (messages_of row)

row_fine : (state : ClientState) (h : Hello) → RowFine (client_step state h)
row_fine Start (Announced v) = (λ other. client_confirm_fine _, (λ other. name_fine, tt))
row_fine Named (Confirm v) = tt
row_fine Named (ServerCaps caps) = tt
row_fine Confirmed (ServerCaps caps) = (λ other. client_sets_fine, tt)
row_fine (Offered tells) (Confirm v) = (λ other. client_sets_fine, tt)
row_fine Waiting LoggedOn = tt
row_fine Ready LoggedOn = tt
row_fine _ _ = tt

rows_fine : (state : ClientState) (h : Hello) (row : OrderRow ClientState) → client_step state h ≡ Some row → AllByRecursion PlainFine (messages_of row)
rows_fine state h row is = subst RowFine is (row_fine state h)

-- ---- all messages

completes : (m : List ℕ) → is_ok (met completion_head (at_start m)) ≡ true → is_of IoCompletion m ≡ true
completes m is = by (met completion_head (at_start m)) refl is
  where
    by : (r : Result (Head × Position) Bad) → met completion_head (at_start m) ≡ r → is_ok r ≡ true → is_of IoCompletion m ≡ true
    by (Ok x) e is = let own : head_in m ≡ Some x.0 = rw e refl in packet_is IoCompletion IoCompletion m (head_is m x.0 own)
    by (Err bad) e is = absurd (cc is)

module _ (devices : List Announce) (gone : ℕ → Bool) where
  telling_fine : (m : List ℕ) (t q : ClientTelling) (l : Result (List Announce × Position) Bad) (r : Result (List ℕ × Position) Bad) → met device_list (at_start m) ≡ l → met removal (at_start m) ≡ r
      → client.after_telling devices gone t (value_of l) (value_of r) ≡ Some q → Fine Client m
  telling_fine m t q (Ok x) r first second e = list_fine m x first
  telling_fine m t q (Err bad) (Ok y) first second e = removal_fine m y second
  telling_fine m t q (Err bad) (Err other) first second e = absurd (cc e)

  own_fine : (state : ClientState) (m : List ℕ) (t q : ClientTelling) → client.after_own devices gone state m t ≡ Some q → PlainFine m
  own_fine state m t q e = by (may_be_asked state) (is_ok (met completion_head (at_start m))) refl (is_client_ready state) e
    where
      by : (a b : Bool) → is_ok (met completion_head (at_start m)) ≡ b → (ready : Bool)
          → (if a && b then Some t else (if not ready then None else client.after_telling devices gone t (list_in m) (removal_in m))) ≡ Some q → PlainFine m
      by true true is ready e = λ other. absurd (cc (completes m is, other))
      by true false is true e = λ other. telling_fine m t q (met device_list (at_start m)) (met removal (at_start m)) refl refl e
      by true false is false e = absurd (cc e)
      by false b is true e = λ other. telling_fine m t q (met device_list (at_start m)) (met removal (at_start m)) refl refl e
      by false b is false e = absurd (cc e)

  -- where the client's moves on a channel are in order, what it writes has lines, but for completions
  pub moves_fine : (moves : List Move) → ClientOrder devices gone moves → AllByRecursion (IsWrittenWell PlainFine) moves
  moves_fine moves is = written_well client_side (client_part devices gone) PlainFine rows_fine own_fine client_at_first moves tt is
