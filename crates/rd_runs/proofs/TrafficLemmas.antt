-- What was written and read on each channel, deed by deed.
use Rattle.std.proofs.Common.{◌≡◌, ◌≢◌, ◌∙◌, refl, sym, ap, subst, inl, inr, ℕ, ◌+◌, ◌<◌, ◌==◌, arith, true, false, List, [], ◌∷◌, ◌++◌, reverse, Some, None, Option}
use Rattle.std.specs.Prelude.{IfSome}
use Rattle.std.proofs.lemmas.Bool.{cases_eq}
use Rattle.std.proofs.lemmas.Bool.Decides.{nat_tests}
use Rattle.rd_base.specs.declared.journal.Key.{Key}
use Rattle.rd_runs.proofs.WayLemmas.{IsUnderWay, none_under_way}
use Rattle.rd_deeds.specs.Joining.{IsCarried}
use Rattle.rd_world.specs.Recording.{client_channel}
use Rattle.rd_deeds.specs.Talk.{AtEachPoint, Deed, EachAfter, EndsWith, adds, client_read, client_reads, client_writes, client_wrote, completes, host_begins, host_ends, host_read, host_reads, host_writes, host_wrote, open_channel, removes, stores, submits, takes, tells}
use Rattle.rd_world.specs.World.{WayState, new_way}

-- what was written and read on a channel, the newest first
pub record Traffic : Type 0 where
  pub host_wrote : List (List ℕ)
  pub client_read : List (List ℕ)
  pub client_wrote : List (List ℕ)
  pub host_read : List (List ℕ)

abbrev pub traffic : ℕ → List Deed → Traffic
traffic x deeds = record { host_wrote = host_wrote x deeds; client_read = client_read x deeds; client_wrote = client_wrote x deeds; host_read = host_read x deeds }

abbrev pub no_traffic : Traffic
no_traffic = record { host_wrote = []; client_read = []; client_wrote = []; host_read = [] }

-- ---- deeds that neither write, read, begin nor end

abbrev pub IsSilent : Deed → Type 0
IsSilent (stores device item) = Unit {0}
IsSilent (removes device) = Unit {0}
IsSilent (adds device) = Unit {0}
IsSilent (submits a named o) = Unit {0}
IsSilent (takes n) = Unit {0}
IsSilent (tells n) = Unit {0}
IsSilent deed = ⊥

-- a deed that changes no traffic, nor what is open
record LeavesAll (deed : Deed) (deeds : List Deed) : Type 0 where
  same : (x : ℕ) → traffic x (deed ∷ deeds) ≡ traffic x deeds
  opens : open_channel (deed ∷ deeds) ≡ open_channel deeds
  unheard : client_channel deed ≡ None

silent_leaves : (deed : Deed) (deeds : List Deed) → IsSilent deed → LeavesAll deed deeds
silent_leaves (stores device item) deeds silent = record { same = λ x. refl; opens = refl; unheard = refl }
silent_leaves (removes device) deeds silent = record { same = λ x. refl; opens = refl; unheard = refl }
silent_leaves (adds device) deeds silent = record { same = λ x. refl; opens = refl; unheard = refl }
silent_leaves (submits a named o) deeds silent = record { same = λ x. refl; opens = refl; unheard = refl }
silent_leaves (takes n) deeds silent = record { same = λ x. refl; opens = refl; unheard = refl }
silent_leaves (tells n) deeds silent = record { same = λ x. refl; opens = refl; unheard = refl }
silent_leaves deed deeds silent = absurd silent

-- ---- the invariant

-- both directions of a channel
abbrev pub AreMoving : Traffic → WayState → WayState → Type 0
AreMoving t down up = IsUnderWay t.host_wrote t.client_read down × IsUnderWay t.client_wrote t.host_read up

-- a client reads and writes on the channel that is open
abbrev pub IsOnOpen : List Deed → Deed → Type 0
IsOnOpen before deed = IfSome (client_channel deed) (λ c. open_channel before ≡ Some c)

-- Messages are carried at each point, the client's deeds are on the open channel, nothing was done on later ones than the last, and on the open one the ways have what is
-- unread.
pub record Carries (c : ℕ) (down up : WayState) (deeds : List Deed) : Type 0 where
  pub each : AtEachPoint IsCarried deeds
  pub on_open : EachAfter IsOnOpen deeds
  pub later : (x : ℕ) → c < x → traffic x deeds ≡ no_traffic
  pub moving : open_channel deeds ≡ Some c → AreMoving (traffic c deeds) down up

abbrev IsCarriedIn : Traffic → Type 0
IsCarriedIn t = EndsWith t.host_wrote t.client_read × EndsWith t.client_wrote t.host_read

carried_in : (deeds : List Deed) → IsCarried deeds → (x : ℕ) → IsCarriedIn (traffic x deeds)
carried_in deeds is x = (is.to_client x, is.to_host x)

carried_of : (deeds : List Deed) → ((x : ℕ) → IsCarriedIn (traffic x deeds)) → IsCarried deeds
carried_of deeds each = record { to_client = λ x. (each x).0; to_host = λ x. (each x).1 }

moving_carried : (t : Traffic) (down up : WayState) → AreMoving t down up → IsCarriedIn t
moving_carried t down up (d, u) = ((reverse d.waiting, d.told), (reverse u.waiting, u.told))

pub carried_last : (deeds : List Deed) → AtEachPoint IsCarried deeds → IsCarried deeds
carried_last [] each = each
carried_last (deed ∷ deeds) each = each.0

-- ---- one deed more

module _ (c : ℕ) (down up : WayState) (deeds : List Deed) (k : Carries c down up deeds) where
  -- the traffic of each channel is as it was
  alike : (deed : Deed) → ((x : ℕ) → traffic x (deed ∷ deeds) ≡ traffic x deeds) → IsCarried (deed ∷ deeds)
  alike deed same = carried_of (deed ∷ deeds) (λ x. subst IsCarriedIn (sym (same x)) (carried_in deeds (carried_last deeds k.each) x))

  pub one_silent : (deed : Deed) → IsSilent deed → Carries c down up (deed ∷ deeds)
  one_silent deed silent =
      let l = silent_leaves deed deeds silent in
      record {
        each = (alike deed l.same, k.each);
        on_open = (subst (λ (o : Option ℕ). IfSome o (λ c. open_channel deeds ≡ Some c)) (sym l.unheard) tt, k.on_open);
        later = λ x above. l.same x ∙ k.later x above;
        moving = λ is. subst (λ (t : Traffic). AreMoving t down up) (sym (l.same c)) (k.moving (sym l.opens ∙ is));
      }

  -- a message is written or read on the open channel
  pub one_loud : (down' up' : WayState) (deed : Deed) → open_channel deeds ≡ Some c → IsOnOpen deeds deed → ((x : ℕ) → x ≢ c → traffic x (deed ∷ deeds) ≡ traffic x deeds)
      → AreMoving (traffic c (deed ∷ deeds)) down' up' → Carries c down' up' (deed ∷ deeds)
  one_loud down' up' deed is on other moving = record {
    each = (
      carried_of (deed ∷ deeds) (λ x. elim (cases_eq x c) [
        | inl here ↦ subst (λ (n : ℕ). IsCarriedIn (traffic n (deed ∷ deeds))) (sym here) (moving_carried (traffic c (deed ∷ deeds)) down' up' moving)
        | inr elsewhere ↦ subst IsCarriedIn (sym (other x elsewhere)) (carried_in deeds (carried_last deeds k.each) x)
      ]),
      k.each,
    );
    on_open = (on, k.on_open);
    later = λ x above. other x (λ same. omega (arith, above, same)) ∙ k.later x above;
    moving = λ now. moving;
  }

  pub one_begun : Carries (c + 1) new_way new_way (host_begins (c + 1) ∷ deeds)
  one_begun =
      let none : traffic (c + 1) deeds ≡ no_traffic = k.later (c + 1) (omega arith) in
      record {
        each = (alike (host_begins (c + 1)) (λ x. refl), k.each);
        on_open = (tt, k.on_open);
        later = λ x above. k.later x (omega (arith, above));
        moving = λ is. subst (λ (t : Traffic). AreMoving t new_way new_way) (sym none) (none_under_way, none_under_way);
      }

  pub one_ended : (down' up' : WayState) → Carries c down' up' (host_ends c ∷ deeds)
  one_ended down' up' =
      record { each = (alike (host_ends c) (λ x. refl), k.each); on_open = (tt, k.on_open); later = k.later; moving = λ is. absurd (cc is) }

  -- bytes are read, or kept as a part of a message
  pub ways_moved : (down' up' : WayState) → (AreMoving (traffic c deeds) down up → AreMoving (traffic c deeds) down' up') → Carries c down' up' deeds
  ways_moved down' up' more = record { each = k.each; on_open = k.on_open; later = k.later; moving = λ is. more (k.moving is) }

abbrev pub AreSilent : List Deed → Type 0
AreSilent [] = Unit {0}
AreSilent (deed ∷ deeds) = IsSilent deed × AreSilent deeds

pub all_silent : (c : ℕ) (down up : WayState) (more deeds : List Deed) → AreSilent more → Carries c down up deeds → Carries c down up (more ++ deeds)
all_silent c down up [] deeds silent k = k
all_silent c down up (deed ∷ more) deeds silent k = one_silent c down up (more ++ deeds) (all_silent c down up more deeds silent.1 k) deed silent.0

-- ---- the tests of channels

pub same_number : (c : ℕ) → (c == c) ≡ true
same_number c = grind (arith, nat_tests)

pub other_number : (c x : ℕ) → x ≢ c → (c == x) ≡ false
other_number c x other = grind (arith, nat_tests)

module _ (c : ℕ) (deeds : List Deed) (m : List ℕ) where
  pub host_writes_else : (x : ℕ) → x ≢ c → traffic x (host_writes c m ∷ deeds) ≡ traffic x deeds
  host_writes_else x other = rw (other_number c x other) refl

  pub host_reads_else : (x : ℕ) → x ≢ c → traffic x (host_reads c m ∷ deeds) ≡ traffic x deeds
  host_reads_else x other = rw (other_number c x other) refl

  pub client_reads_else : (x : ℕ) → x ≢ c → traffic x (client_reads c m ∷ deeds) ≡ traffic x deeds
  client_reads_else x other = rw (other_number c x other) refl

  pub client_writes_else : (x : ℕ) → x ≢ c → traffic x (client_writes c m ∷ deeds) ≡ traffic x deeds
  client_writes_else x other = rw (other_number c x other) refl

  pub completes_else : (key : Key) → key.channel ≡ c → (x : ℕ) → x ≢ c → traffic x (completes key m ∷ deeds) ≡ traffic x deeds
  completes_else key on x other = rw (ap (λ (n : ℕ). n == x) on ∙ other_number c x other) refl

  pub host_writes_here : traffic c (host_writes c m ∷ deeds) ≡ record (traffic c deeds) { host_wrote = m ∷ host_wrote c deeds }
  host_writes_here = rw (same_number c) refl

  pub host_reads_here : traffic c (host_reads c m ∷ deeds) ≡ record (traffic c deeds) { host_read = m ∷ host_read c deeds }
  host_reads_here = rw (same_number c) refl

  pub client_reads_here : traffic c (client_reads c m ∷ deeds) ≡ record (traffic c deeds) { client_read = m ∷ client_read c deeds }
  client_reads_here = rw (same_number c) refl

  pub client_writes_here : traffic c (client_writes c m ∷ deeds) ≡ record (traffic c deeds) { client_wrote = m ∷ client_wrote c deeds }
  client_writes_here = rw (same_number c) refl

  pub completes_here : (key : Key) → key.channel ≡ c → traffic c (completes key m ∷ deeds) ≡ record (traffic c deeds) { client_wrote = m ∷ client_wrote c deeds }
  completes_here key on = rw (ap (λ (n : ℕ). n == c) on ∙ same_number c) refl
