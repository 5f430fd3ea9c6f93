-- The rows of a table of states: a message that is read, what is written then, and the next state.
use Rattle.std.specs.Prelude.{◌≡◌, ℕ, Option, Some, None, IsSome}
use Rattle.rd_hello.specs.declared.hello.Hello.{Hello}
use Rattle.rd_hello.specs.declared.replies.Replies.{Replies}
use Rattle.rd_hello.specs.declared.replies.ShakeNo.{ShakeNo}
use Rattle.rd_hello.specs.declared.replies.ShakeNo.TheVariants.{OutOfOrder, Memory}

-- what a row says of a message that is read in its state
pub record OrderRow (S : Type 0) : Type 0 where
  pub first : Option Hello
  pub second : Option Hello
  pub next : S

-- nothing is written
abbrev pub writes_nothing : {S : Type 0} → S → Option (OrderRow S)
writes_nothing next = Some (record { first = None; second = None; next = next })

-- one message is written
abbrev pub writes_one : {S : Type 0} → Hello → S → Option (OrderRow S)
writes_one message next = Some (record { first = Some message; second = None; next = next })

-- two are written, in this order
abbrev pub writes_both : {S : Type 0} → Hello → Hello → S → Option (OrderRow S)
writes_both message other next = Some (record { first = Some message; second = Some other; next = next })

-- no row reads this message in this state
abbrev pub out_of_order : {S : Type 0} → Option (OrderRow S)
out_of_order = None

-- the replies and the next state are those of this row
abbrev pub IsRow : {S : Type 0} → Option (OrderRow S) → Replies → S → Type 0
IsRow row replies next = row ≡ Some (record { first = replies.first; second = replies.second; next = next })

-- there is a row, and it writes something
abbrev pub IsWriting : {S : Type 0} → Option (OrderRow S) → Type 0
IsWriting (Some row) = IsSome row.first
IsWriting None = ⊥

-- A message with this PacketId is refused in the state with this number: there is no row for it, or memory ran out where the
-- row writes something.
abbrev pub IsRefused : {S : Type 0} → Option (OrderRow S) → (state packet : ℕ) → ShakeNo → Type 0
IsRefused row state packet (OutOfOrder s p) = (row ≡ None) × (s ≡ state) × (p ≡ packet)
IsRefused row state packet Memory = IsWriting row
