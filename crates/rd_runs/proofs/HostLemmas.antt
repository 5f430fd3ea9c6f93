-- What a world's deeds say of its host.
use Rattle.std.proofs.Common.{◌≡◌, ◌⊎◌, ◌∙◌, refl, sym, ap, subst, inl, inr, ℕ, ◌+◌, ◌≤◌, arith, List, [], ◌∷◌, ◌++◌, Some, None, Option, IsOk}
use Rattle.std.specs.Prelude.{IsSome}
use Rattle.rd_host.specs.Core as host
use Rattle.rd_irp.specs.declared.op.Op.{Op}
use Rattle.rd_pending.specs.declared.calls.Target.{Target}
use Rattle.rd_pending.specs.Table as table
use Rattle.rd_pending.specs.Table.{MaySubmit, submit_refusal}
use Rattle.rd_printer.specs.declared.notice.Notice.{Notice}
use Rattle.rd_deeds.specs.Host.{HostSide, begins_on, ends_channel, hears, next_message, side_sends, tells_of}
use Rattle.rd_deeds.specs.HostDeeds.{IsInRange, MayDo, side_of}
use Rattle.rd_world.specs.Recording.{client_id}
use Rattle.rd_deeds.specs.Talk.{Deed, adds, client_reads, client_writes, completes, host_begins, host_ends, host_reads, host_writes, open_channel, removes, stores, submits, takes, tells}
use Rattle.rd_deeds.proofs.Calls.{Does}
use Rattle.rd_deeds.proofs.Written.{sound_side}
use Rattle.rd_runs.proofs.BelowLemmas.{below_is, channel_is, channels_below}

-- The deeds lead to the host's side, which might do each of them. The channel that is open is the last that began; where none is, the host's own end has nothing
-- to send.
pub record IsHostOf (s : HostSide) (channels : ℕ) (deeds : List Deed) : Type 0 where
  pub is : side_of client_id deeds ≡ s
  pub may : Does client_id deeds
  pub last : (open_channel deeds ≡ None) ⊎ (open_channel deeds ≡ Some channels)
  pub below : channels_below deeds ≤ channels + 1
  pub quiet : open_channel deeds ≡ None → ((s.core).core).outbox ≡ []

pub host_moved : {s t : HostSide} {c d : ℕ} {xs ys : List Deed} → t ≡ s → d ≡ c → ys ≡ xs → IsHostOf s c xs → IsHostOf t d ys
host_moved {s} {t} {c} {d} {xs} {ys} side channels deeds h =
    subst (λ (x : HostSide). IsHostOf x d ys) (sym side) (subst (λ (n : ℕ). IsHostOf s n ys) (sym channels) (subst (IsHostOf s c) (sym deeds) h))

module _ (s : HostSide) (c : ℕ) (deeds : List Deed) (h : IsHostOf s c deeds) where
  pub host_channel : (s.table).channel ≡ open_channel deeds
  host_channel = ap (λ (x : HostSide). (x.table).channel) (sym h.is) ∙ channel_is client_id deeds h.may

  -- what might be done to the host that the deeds lead to
  might : (deed : Deed) → MayDo s deed → MayDo (side_of client_id deeds) deed
  might deed may = subst (λ (x : HostSide). MayDo x deed) (sym h.is) may

  pub shut_sends : open_channel deeds ≡ None → next_message s ≡ None
  shut_sends shut =
      let closed = (sound_side client_id deeds h.may).slots.closed (channel_is client_id deeds h.may ∙ shut) in
      let requests : (s.table).outbox ≡ [] = ap (λ (x : HostSide). (x.table).outbox) (sym h.is) ∙ closed.2 in
      rw (h.quiet shut, requests) refl

  -- where it wouldn't do that none is open
  pub opens : ((open_channel deeds ≡ None) → ⊥) → open_channel deeds ≡ Some c
  opens wrong = elim h.last [ inl shut ↦ absurd (wrong shut) | inr is ↦ is ]

  pub sending_opens : (m : List ℕ) → next_message s ≡ Some m → open_channel deeds ≡ Some c
  sending_opens m next = opens (λ shut. let none : next_message s ≡ None = shut_sends shut in cc)

  -- ---- what the host does

  -- a deed that neither begins nor ends a channel
  goes_on : (deed : Deed) (t : HostSide) → side_of client_id (deed ∷ deeds) ≡ t → MayDo s deed → open_channel (deed ∷ deeds) ≡ open_channel deeds
      → channels_below (deed ∷ deeds) ≡ channels_below deeds → (open_channel deeds ≡ None → ((t.core).core).outbox ≡ []) → IsHostOf t c (deed ∷ deeds)
  goes_on deed t is may same below quiet = record {
    is = is;
    may = (might deed may, h.may);
    last = subst (λ (o : Option ℕ). (o ≡ None) ⊎ (o ≡ Some c)) (sym same) h.last;
    below = omega (arith, below, h.below);
    quiet = λ shut. quiet (sym same ∙ shut);
  }

  pub host_write : (m : List ℕ) → next_message s ≡ Some m → IsHostOf (side_sends s) c (host_writes c m ∷ deeds)
  host_write m next =
      let is = sending_opens m next in
      goes_on (host_writes c m) (side_sends s) (ap side_sends h.is) (host_channel ∙ is, next) refl refl (λ shut. absurd (cc (shut, is)))

  pub host_heard : (m : List ℕ) → open_channel deeds ≡ Some c → IsHostOf (hears s m) c (host_reads c m ∷ deeds)
  host_heard m is = goes_on (host_reads c m) (hears s m) (ap (λ (x : HostSide). hears x m) h.is) (host_channel ∙ is) refl refl (λ shut. absurd (cc (shut, is)))

  pub host_told : (n : Notice) → open_channel deeds ≡ Some c → IsSome (s.table).channel → host.MayTell s.core n → IsHostOf (tells_of s n) c (tells n ∷ deeds)
  host_told n is some may = goes_on (tells n) (tells_of s n) (ap (λ (x : HostSide). tells_of x n) h.is) (some, may) refl refl (λ shut. absurd (cc (shut, is)))

  pub host_submitted : (a : ℕ) (named : Target) (o : Op) → submit_refusal s.table named ≡ None → MaySubmit named o → IsInRange named o
      → IsHostOf (record s { table = (table.submit s.table a named o).0 }) c (submits a named o ∷ deeds)
  host_submitted a named o free may range =
      goes_on (submits a named o) (record s { table = (table.submit s.table a named o).0 }) (ap (λ (x : HostSide). record x { table = (table.submit x.table a named o).0 }) h.is)
      (may, range, free) refl refl h.quiet

  pub host_took : (number : ℕ) → IsOk (table.take s.table number).1 → IsHostOf (record s { table = (table.take s.table number).0 }) c (takes number ∷ deeds)
  host_took number ok =
      goes_on (takes number) (record s { table = (table.take s.table number).0 }) (ap (λ (x : HostSide). record x { table = (table.take x.table number).0 }) h.is)
      ok refl refl h.quiet

  pub host_begun : open_channel deeds ≡ None → IsHostOf (begins_on s (c + 1)) (c + 1) (host_begins (c + 1) ∷ deeds)
  host_begun shut = record {
    is = ap (λ (x : HostSide). begins_on x (c + 1)) h.is;
    may = ((channel_is client_id deeds h.may ∙ shut, omega (arith, below_is client_id deeds h.may, h.below)), h.may);
    last = inr refl;
    below = omega arith;
    quiet = λ none. absurd (cc none);
  }

  pub host_ended : open_channel deeds ≡ Some c → IsHostOf (ends_channel s) c (host_ends c ∷ deeds)
  host_ended is = record {
    is = ap ends_channel h.is;
    may = (might (host_ends c) (host_channel ∙ is), h.may);
    last = inl refl;
    below = h.below;
    quiet = λ shut. refl;
  }

-- ---- what the client does

abbrev pub IsOfClient : Deed → Type 0
IsOfClient (stores device item) = Unit {0}
IsOfClient (removes device) = Unit {0}
IsOfClient (adds device) = Unit {0}
IsOfClient (client_reads c m) = Unit {0}
IsOfClient (client_writes c m) = Unit {0}
IsOfClient (completes key m) = Unit {0}
IsOfClient deed = ⊥

abbrev pub AreOfClient : List Deed → Type 0
AreOfClient [] = Unit {0}
AreOfClient (deed ∷ deeds) = IsOfClient deed × AreOfClient deeds

one_of_client : (s : HostSide) (c : ℕ) (deed : Deed) (deeds : List Deed) → IsOfClient deed → IsHostOf s c deeds → IsHostOf s c (deed ∷ deeds)
one_of_client s c (stores device item) deeds own h = goes_on s c deeds h (stores device item) s h.is tt refl refl h.quiet
one_of_client s c (removes device) deeds own h = goes_on s c deeds h (removes device) s h.is tt refl refl h.quiet
one_of_client s c (adds device) deeds own h = goes_on s c deeds h (adds device) s h.is tt refl refl h.quiet
one_of_client s c (client_reads d m) deeds own h = goes_on s c deeds h (client_reads d m) s h.is tt refl refl h.quiet
one_of_client s c (client_writes d m) deeds own h = goes_on s c deeds h (client_writes d m) s h.is tt refl refl h.quiet
one_of_client s c (completes key m) deeds own h = goes_on s c deeds h (completes key m) s h.is tt refl refl h.quiet
one_of_client s c deed deeds own h = absurd own

pub all_of_client : (s : HostSide) (c : ℕ) (more deeds : List Deed) → AreOfClient more → IsHostOf s c deeds → IsHostOf s c (more ++ deeds)
all_of_client s c [] deeds own h = h
all_of_client s c (deed ∷ more) deeds own h = one_of_client s c deed (more ++ deeds) own.0 (all_of_client s c more deeds own.1 h)

-- the open channel is as it was
pub same_open : (more deeds : List Deed) → AreOfClient more → open_channel (more ++ deeds) ≡ open_channel deeds
same_open [] deeds own = refl
same_open (stores device item ∷ more) deeds own = same_open more deeds own.1
same_open (removes device ∷ more) deeds own = same_open more deeds own.1
same_open (adds device ∷ more) deeds own = same_open more deeds own.1
same_open (client_reads c m ∷ more) deeds own = same_open more deeds own.1
same_open (client_writes c m ∷ more) deeds own = same_open more deeds own.1
same_open (completes key m ∷ more) deeds own = same_open more deeds own.1
same_open (deed ∷ more) deeds own = absurd own.0
