-- Where a client's moves are in order, nothing that it read was wrong.
use Rattle.std.proofs.Common.{◌≡◌, ◌∙◌, refl, sym, ap, subst, ℕ, ◌==◌, Bool, true, false, List, [], ◌∷◌, ◌++◌, reverse, Some, None, Option}
use Rattle.std.specs.Prelude.{IsSome, bytes_eq, filter_map, if◌then◌else◌}
use Rattle.std.specs.List.{cons_option}
use Rattle.std.specs.Option.{option_and_then, option_map}
use Rattle.rd_client.specs.Core.{HostSays, client_side}
use Rattle.rd_client.specs.Order as client
use Rattle.rd_client.specs.Order.{ClientOrder, ClientStanding, ClientTelling, client_at_first, client_part}
use Rattle.rd_rest.proofs.ControlsNumbers.{picked_reverse, reverse_cons}
use Rattle.rd_core.specs.Hearing.{Meaning, nothing, opens, said, says, wrong}
use Rattle.rd_core.specs.Order as order
use Rattle.rd_devices.specs.declared.list.Announce.{Announce}
use Rattle.rd_hello.specs.Moves.{Move, reads, writes}
use Rattle.rd_hello.specs.declared.client.ClientState.{ClientState}
use Rattle.rd_hello.specs.declared.client.ClientState.TheVariants.{Start}
use Rattle.rd_declared.specs.Devices.{Declared}
use Rattle.rd_world.specs.Recording.{announced_of, is_gone_at}
use Rattle.rd_deeds.specs.Talk.{Deed, adds, client_moves, client_read, client_reads, client_writes, completes, host_begins, host_ends, host_reads, host_writes, removes, stores, submits, takes, tells}
use Rattle.rd_acted.specs.Acted.{AreReadWell, state_heard, state_read}

-- the state after messages in a state, the oldest first
state_from : ClientState → List (List ℕ) → Option ClientState
state_from state [] = Some state
state_from state (m ∷ ms) = option_and_then (λ next. state_from next ms) (state_heard state (said client_side state m))

abbrev message_read : Move → Option (List ℕ)
message_read (reads m) = Some m
message_read (writes m) = None

module _ (devices : List Announce) (gone : ℕ → Bool) where
  written_same : (s : ClientStanding) (m : List ℕ) (owed : List (List ℕ)) (t : ClientStanding) → order.after_owed client_side (client_part devices gone) s m owed ≡ Some t → t.shake ≡ s.shake
  written_same s m (first ∷ others) t = by (bytes_eq first m)
    where
      by : (b : Bool) → (if b then Some (record s { owed = others }) else None) ≡ Some t → t.shake ≡ s.shake
      by true e = let same : record s { owed = others } ≡ t = cc e in sym (ap (λ (x : ClientStanding). x.shake) same)
      by false e = absurd (cc e)
  written_same s m [] t = by ((client_part devices gone).written s.shake m s.own)
    where
      by : (o : Option ClientTelling) → option_map (λ own. record s { own = own }) o ≡ Some t → t.shake ≡ s.shake
      by None e = absurd (cc e)
      by (Some own) e = let same : record s { own = own } ≡ t = cc e in sym (ap (λ (x : ClientStanding). x.shake) same)

  moves_read : (moves : List Move) (s : ClientStanding) → IsSome (client.stand_after devices gone s moves) → IsSome (state_from s.shake (filter_map message_read moves))
  unfolding state_from
  moves_read [] s is = refl
  moves_read (reads m ∷ moves) s is = by (moves_read moves) (said client_side s.shake m) is
    where
      by : ((t : ClientStanding) → IsSome (client.stand_after devices gone t moves) → IsSome (state_from t.shake (filter_map message_read moves))) → (k : Meaning ClientState HostSays) → IsSome (option_and_then (λ t. client.stand_after devices gone t moves) (order.after_said client_side (client_part devices gone) s k))
          → IsSome (option_and_then (λ next. state_from next (filter_map message_read moves)) (state_heard s.shake k))
      by later (wrong fault) some = absurd (cc some)
      by later nothing some = later s some
      by later (opens row) some = later (order.after_opened client_side (client_part devices gone) s row) some
      by later (says a) some = later (record s { own = (client_part devices gone).read a s.own }) some
  moves_read (writes m ∷ moves) s is = by (moves_read moves) (order.after_owed client_side (client_part devices gone) s m s.owed) refl is
    where
      by : ((t : ClientStanding) → IsSome (client.stand_after devices gone t moves) → IsSome (state_from t.shake (filter_map message_read moves))) → (o : Option ClientStanding) → order.after_owed client_side (client_part devices gone) s m s.owed ≡ o → IsSome (option_and_then (λ t. client.stand_after devices gone t moves) o) → IsSome (state_from s.shake (filter_map message_read moves))
      by later None e some = absurd (cc some)
      by later (Some t) e some = subst (λ (state : ClientState). IsSome (state_from state (filter_map message_read moves))) (written_same s m s.owed t e) (later t some)

one_more : (state : ClientState) (ms : List (List ℕ)) (m : List ℕ) → state_from state (ms ++ m ∷ []) ≡ option_and_then (λ next. state_heard next (said client_side next m)) (state_from state ms)
unfolding state_from
one_more state [] m = by (state_heard state (said client_side state m))
  where
    by : (o : Option ClientState) → option_and_then (λ next. Some next) o ≡ o
    by None = refl
    by (Some next) = refl
one_more state (x ∷ ms) m = by (λ next. one_more next ms m) (state_heard state (said client_side state x))
  where
    by : ((next : ClientState) → state_from next (ms ++ m ∷ []) ≡ option_and_then (λ last. state_heard last (said client_side last m)) (state_from next ms)) → (o : Option ClientState)
        → option_and_then (λ next. state_from next (ms ++ m ∷ [])) o ≡ option_and_then (λ next. state_heard next (said client_side next m)) (option_and_then (λ next. state_from next ms) o)
    by later None = refl
    by later (Some next) = later next

turned : (ms : List (List ℕ)) → state_read ms ≡ state_from Start (reverse ms)
unfolding state_from
turned [] = refl
turned (m ∷ ms) = ap (λ (o : Option ClientState). option_and_then (λ state. state_heard state (said client_side state m)) o) (turned ms) ∙ sym (one_more Start (reverse ms) m) ∙ ap (state_from Start) (sym (reverse_cons m ms))

picked : (c : ℕ) (deeds : List Deed) → filter_map message_read (client_moves c deeds) ≡ client_read c deeds
picked c [] = refl
picked c (client_reads channel m ∷ deeds) = by (channel == c) (picked c deeds)
  where
    by : (b : Bool) → filter_map message_read (client_moves c deeds) ≡ client_read c deeds → filter_map message_read (cons_option (if b then Some (reads m) else None) (client_moves c deeds)) ≡ cons_option (if b then Some m else None) (client_read c deeds)
    by true rest = ap (λ (ms : List (List ℕ)). m ∷ ms) rest
    by false rest = rest
picked c (client_writes channel m ∷ deeds) = by (channel == c) (picked c deeds)
  where
    by : (b : Bool) → filter_map message_read (client_moves c deeds) ≡ client_read c deeds → filter_map message_read (cons_option (if b then Some (writes m) else None) (client_moves c deeds)) ≡ client_read c deeds
    by true rest = rest
    by false rest = rest
picked c (completes key m ∷ deeds) = by (key.channel == c) (picked c deeds)
  where
    by : (b : Bool) → filter_map message_read (client_moves c deeds) ≡ client_read c deeds → filter_map message_read (cons_option (if b then Some (writes m) else None) (client_moves c deeds)) ≡ client_read c deeds
    by true rest = rest
    by false rest = rest
picked c (host_begins channel ∷ deeds) = picked c deeds
picked c (host_ends channel ∷ deeds) = picked c deeds
picked c (removes device ∷ deeds) = picked c deeds
picked c (adds device ∷ deeds) = picked c deeds
picked c (submits a named op ∷ deeds) = picked c deeds
picked c (takes number ∷ deeds) = picked c deeds
picked c (tells n ∷ deeds) = picked c deeds
picked c (host_writes channel m ∷ deeds) = picked c deeds
picked c (host_reads channel m ∷ deeds) = picked c deeds
picked c (stores device item ∷ deeds) = picked c deeds

pub orders_read : (devices : List (ℕ × Declared)) (deeds : List Deed) → ((c : ℕ) → ClientOrder (announced_of devices) (is_gone_at c deeds) (reverse (client_moves c deeds))) → AreReadWell deeds
orders_read devices deeds ordered c =
    let some = moves_read (announced_of devices) (is_gone_at c deeds) (reverse (client_moves c deeds)) client_at_first (ordered c) in
    subst IsSome (ap (state_from Start) (picked_reverse message_read (client_moves c deeds) ∙ ap reverse (picked c deeds)) ∙ sym (turned (client_read c deeds))) some
