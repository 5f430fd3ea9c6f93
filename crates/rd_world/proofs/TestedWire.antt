-- Deeds on few channels that pass tests are in order on the wire.
use Rattle.std.proofs.Common.{◌≡◌, refl, ap, ℕ, ◌==◌, ◌&&◌, Bool, true, false, List, [], ◌∷◌, length, leb, leb-true, eqb-true, Option, Some, None}
use Rattle.std.specs.Prelude.{All, IfSome}
use Rattle.std.specs.List.{list_all}
use Rattle.std.specs.Option.{option_map_or}
use Rattle.std.proofs.lemmas.Bool.{and_parts}
use Rattle.rd_base.specs.declared.journal.Item.{Item}
use Rattle.rd_base.specs.declared.journal.Item.TheVariants.{Ran}
use Rattle.rd_base.specs.declared.journal.Key.{Key}
use Rattle.rd_base.specs.Lawful.{RunsAt, named_key}
use Rattle.rd_chunk.specs.Carrier.{IsMessage}
use Rattle.rd_chunk.specs.Sizes.{max_message}
use Rattle.rd_irp.specs.declared.request.Request.{Request}
use Rattle.rd_world.specs.Recording.{client_channel, written_by}
use Rattle.rd_world.specs.Session.{IsOfDevice, IsStoredOpen}
use Rattle.rd_deeds.specs.Talk.{Deed, EachAfter, client_moves, client_read, client_reads, client_writes, completes, has_ended, host_ends, host_moves, host_reads, host_writes, host_wrote, is_open_at, open_channel, request_at, stores, answered}
use Rattle.rd_deeds.proofs.TestedDeeds.{each, each_passes}
use Rattle.rd_deeds.proofs.TestedJournals.{all_pass}
use Rattle.rd_deeds.proofs.TestedTelling.{among, strange}

-- ---- of few numbers

-- ---- messages

abbrev fits_in : List ℕ → Bool
fits_in m = leb 1 (length m) && leb (length m) max_message

-- what is written can be carried
abbrev pub is_carried : Deed → Bool
is_carried deed = option_map_or fits_in (written_by deed) true

pub carried_messages : (deeds : List Deed) → list_all is_carried deeds ≡ true → All (λ deed. IfSome (written_by deed) IsMessage) deeds
carried_messages deeds e = all_pass {P = λ deed. IfSome (written_by deed) IsMessage} is_carried (λ deed is. go (written_by deed) is) deeds e
  where
    go : (o : Option (List ℕ)) → option_map_or fits_in o true ≡ true → IfSome o IsMessage
    go (Some m) e = let parts = and_parts _ _ e in (leb-true 1 (length m) parts.0, leb-true (length m) max_message parts.1)
    go None e = tt

-- ---- open channels

open_at : (c : ℕ) (before : List Deed) → is_open_at c before ≡ true → open_channel before ≡ Some c
open_at c before e = go (open_channel before) e
  where
    go : (o : Option ℕ) → option_map_or (λ channel. channel == c) o false ≡ true → o ≡ Some c
    go (Some channel) e = ap (λ (x : ℕ). Some x) (eqb-true channel c e)
    go None e = absurd (cc)

abbrev pub acts_open : List Deed → Deed → Bool
acts_open before deed = option_map_or (λ c. is_open_at c before) (client_channel deed) true

pub open_by_test : (deeds : List Deed) → each acts_open deeds ≡ true → EachAfter (λ before deed. IfSome (client_channel deed) (λ c. open_channel before ≡ Some c)) deeds
open_by_test = each_passes acts_open (λ before deed is. go before (client_channel deed) is)
  where
    go : (before : List Deed) (o : Option ℕ) → option_map_or (λ c. is_open_at c before) o true ≡ true → IfSome o (λ c. open_channel before ≡ Some c)
    go before (Some c) e = open_at c before e
    go before None e = tt

abbrev pub stored_open : List Deed → Deed → Bool
stored_open before (stores device entry) = option_map_or (λ (key : Key). is_open_at key.channel before) (named_key entry) true
stored_open before deed = true

pub stored_by_test : (deeds : List Deed) → each stored_open deeds ≡ true → EachAfter IsStoredOpen deeds
stored_by_test = each_passes stored_open one
  where
    go : (before : List Deed) (o : Option Key) → option_map_or (λ (key : Key). is_open_at key.channel before) o true ≡ true → IfSome o (λ key. open_channel before ≡ Some key.channel)
    go before (Some key) e = open_at key.channel before e
    go before None e = tt

    one : (before : List Deed) (x : Deed) → stored_open before x ≡ true → IsStoredOpen before x
    one before (stores device entry) e = go before (named_key entry) e
    one before _ e = tt

-- ---- entries

abbrev is_asked : ℕ → Option Request → Bool
is_asked device (Some r) = r.device == device
is_asked device None = false

abbrev pub names_request : List Deed → ℕ → Item → Bool
names_request deeds device entry = option_map_or (λ (key : Key). is_asked device (request_at (host_wrote key.channel deeds) key.index)) (named_key entry) true

pub named_by_test : (deeds : List Deed) (device : ℕ) (items : List Item) → list_all (names_request deeds device) items ≡ true → All (IsOfDevice deeds device) items
named_by_test deeds device items e = all_pass {P = IsOfDevice deeds device} (names_request deeds device) (λ entry is. go (named_key entry) is) items e
  where
    found : (key : Key) (o : Option Request) → request_at (host_wrote key.channel deeds) key.index ≡ o → is_asked device o ≡ true
        → (r : Request) × (request_at (host_wrote key.channel deeds) key.index ≡ Some r) × (r.device ≡ device)
    found key (Some r) at e = (r, at, eqb-true r.device device e)
    found key None at e = absurd (cc)

    go : (o : Option Key) → option_map_or (λ (key : Key). is_asked device (request_at (host_wrote key.channel deeds) key.index)) o true ≡ true
        → IfSome o (λ key. (r : Request) × (request_at (host_wrote key.channel deeds) key.index ≡ Some r) × (r.device ≡ device))
    go (Some key) e = found key (request_at (host_wrote key.channel deeds) key.index) refl e
    go None e = tt

abbrev pub runs_then : ℕ → Item → Bool
runs_then now (Ran key moment starved parked) = moment == now
runs_then now _ = true

pub runs_by_test : (now : ℕ) (items : List Item) → list_all (runs_then now) items ≡ true → All (RunsAt now) items
runs_by_test now items e = all_pass {P = RunsAt now} (runs_then now) one items e
  where
    one : (x : Item) → runs_then now x ≡ true → RunsAt now x
    one (Ran key moment starved parked) is = eqb-true moment now is
    one _ is = tt

-- ---- nothing passes on another channel

-- the channel of a message, or of an end
abbrev pub channel_of : Deed → Option ℕ
channel_of (host_writes c m) = Some c
channel_of (host_reads c m) = Some c
channel_of (client_reads c m) = Some c
channel_of (client_writes c m) = Some c
channel_of (completes key m) = Some key.channel
channel_of (host_ends c) = Some c
channel_of _ = None

abbrev pub is_on : List ℕ → List Deed → Deed → Bool
is_on channels before deed = option_map_or (λ c. among c channels) (channel_of deed) true

module _ (channels : List ℕ) where
  older_on : (x : Deed) (before : List Deed) → each (is_on channels) (x ∷ before) ≡ true → each (is_on channels) before ≡ true
  older_on x before e = (and_parts _ _ e).1

  pub no_host_moves : (deeds : List Deed) → each (is_on channels) deeds ≡ true → (c : ℕ) → among c channels ≡ false → host_moves c deeds ≡ []
  no_host_moves [] e c isnt = refl
  no_host_moves (host_writes x m ∷ before) e c isnt = let parts = and_parts _ _ e in rw (strange x c channels parts.0 isnt) (no_host_moves before parts.1 c isnt)
  no_host_moves (host_reads x m ∷ before) e c isnt = let parts = and_parts _ _ e in rw (strange x c channels parts.0 isnt) (no_host_moves before parts.1 c isnt)
  no_host_moves (x ∷ before) e c isnt = no_host_moves before (older_on x before e) c isnt

  pub no_client_moves : (deeds : List Deed) → each (is_on channels) deeds ≡ true → (c : ℕ) → among c channels ≡ false → client_moves c deeds ≡ []
  no_client_moves [] e c isnt = refl
  no_client_moves (client_reads x m ∷ before) e c isnt = let parts = and_parts _ _ e in rw (strange x c channels parts.0 isnt) (no_client_moves before parts.1 c isnt)
  no_client_moves (client_writes x m ∷ before) e c isnt = let parts = and_parts _ _ e in rw (strange x c channels parts.0 isnt) (no_client_moves before parts.1 c isnt)
  no_client_moves (completes key m ∷ before) e c isnt = let parts = and_parts _ _ e in rw (strange key.channel c channels parts.0 isnt) (no_client_moves before parts.1 c isnt)
  no_client_moves (x ∷ before) e c isnt = no_client_moves before (older_on x before e) c isnt

  pub none_written : (deeds : List Deed) → each (is_on channels) deeds ≡ true → (c : ℕ) → among c channels ≡ false → host_wrote c deeds ≡ []
  none_written [] e c isnt = refl
  none_written (host_writes x m ∷ before) e c isnt = let parts = and_parts _ _ e in rw (strange x c channels parts.0 isnt) (none_written before parts.1 c isnt)
  none_written (x ∷ before) e c isnt = none_written before (older_on x before e) c isnt

  pub none_read : (deeds : List Deed) → each (is_on channels) deeds ≡ true → (c : ℕ) → among c channels ≡ false → client_read c deeds ≡ []
  none_read [] e c isnt = refl
  none_read (client_reads x m ∷ before) e c isnt = let parts = and_parts _ _ e in rw (strange x c channels parts.0 isnt) (none_read before parts.1 c isnt)
  none_read (x ∷ before) e c isnt = none_read before (older_on x before e) c isnt

  pub not_ended : (deeds : List Deed) → each (is_on channels) deeds ≡ true → (c : ℕ) → among c channels ≡ false → has_ended c deeds ≡ false
  not_ended [] e c isnt = refl
  not_ended (host_ends x ∷ before) e c isnt = let parts = and_parts _ _ e in rw (strange x c channels parts.0 isnt) (not_ended before parts.1 c isnt)
  not_ended (x ∷ before) e c isnt = not_ended before (older_on x before e) c isnt

  pub none_answered : (deeds : List Deed) → each (is_on channels) deeds ≡ true → (c : ℕ) → among c channels ≡ false → (device id : ℕ) → answered c device id deeds ≡ []
  none_answered [] e c isnt device id = refl
  none_answered (completes key m ∷ before) e c isnt device id = let parts = and_parts _ _ e in rw (strange key.channel c channels parts.0 isnt) (none_answered before parts.1 c isnt device id)
  none_answered (x ∷ before) e c isnt device id = none_answered before (older_on x before e) c isnt device id
