-- What a client said of its devices is what its marks say, and what it refused, or will, it refused behind that.
use Rattle.std.proofs.Common.{◌≡◌, ◌⊎◌, ◌∙◌, refl, sym, ap, subst, inl, inr, ℕ, ◌<◌, ◌≤◌, ◌==◌, Bool, true, false, cond, List, [], ◌∷◌, ◌++◌, length, Option, Some, None}
use Rattle.std.specs.List.{list_any}
use Rattle.rd_served_order.specs.AnsweredRefusing.{SaysMarks, written_then}
use Rattle.rd_base.specs.Statuses.{insufficient_resources, no_such_device}
use Rattle.rd_base.specs.declared.journal.Key.{Key}
use Rattle.rd_base.specs.declared.status.Status.{Status}
use Rattle.rd_client.specs.Core.{Outgoing, is_gone}
use Rattle.rd_devices.specs.declared.list.Announce.{Announce}
use Rattle.rd_front.specs.State.{DeviceDeskState, SessionStation}
use Rattle.rd_irp.specs.declared.completion.Head.{Head}
use Rattle.rd_irp.specs.declared.completion.Reply.{Reply}
use Rattle.rd_served_order.proofs.JournalsWritingLemmas.{AreOwn}
use Rattle.rd_served_order.specs.RefusedRefused.{RefusesDirectly}
use Rattle.rd_deeds.proofs.Messages.{head_read}
use Rattle.rd_deeds.specs.Talk.{Deed, EachAfter, announced_in, removed_in, client_wrote, completes, head_in, journal}
use Rattle.rd_deeds.specs.Told.{came, is_said_gone, worn_entries}
use Rattle.rd_served_order.specs.ServedServed.{Served}
use Rattle.rd_served_causes.specs.Open.{IsDeskAt}
use Rattle.rd_served_causes.specs.Worn.{IsWorn}

abbrev Of : Type 0
Of = SessionStation

abbrev Messages : Type 0
Messages = List (List ℕ)

-- ---- what stands in an outbox

-- the same is said of each device
abbrev pub SaySame : Messages → Messages → Type 0
SaySame older newer = (device : ℕ) → is_said_gone device newer ≡ is_said_gone device older

pub one_same : (m : List ℕ) (older newer : Messages) → SaySame older newer → SaySame (m ∷ older) (m ∷ newer)
one_same m older newer same device =
    ap (λ (b : Bool). cond (list_any (λ id. id == device) (removed_in m)) true (cond (list_any (λ (a : Announce). a.id == device) (announced_in m)) false b)) (same device)

pub then_same : (os : List Outgoing) (older newer : Messages) → SaySame older newer → SaySame (written_then os older) (written_then os newer)
then_same [] older newer same = same
then_same (o ∷ os) older newer same = then_same os (o.message ∷ older) (o.message ∷ newer) (one_same o.message older newer same)

module _ (W : ℕ → Key → Type 0) (c : ℕ) where
  -- A message that answers a key on this channel refuses its request as was said of its device before; where its journal is worn, this holds.
  abbrev pub RightAt : Option Key → List ℕ → Messages → Type 0
  RightAt None m older = Unit {0}
  RightAt (Some key) m older = (h : Head) × (head_in m ≡ Some h) × (key.channel ≡ c)
      × (((h.status ≡ no_such_device) × (is_said_gone h.device older ≡ true)) ⊎ ((h.status ≡ insufficient_resources) × (is_said_gone h.device older ≡ false) × W h.device key))

  abbrev pub AllRight : List Outgoing → Messages → Type 0
  AllRight [] older = Unit {0}
  AllRight (o ∷ others) older = RightAt o.answers o.message older × AllRight others (o.message ∷ older)

  pub right_more : (xs ys : List Outgoing) (older : Messages) → AllRight xs older → AllRight ys (written_then xs older) → AllRight (xs ++ ys) older
  right_more [] ys older all others = others
  right_more (x ∷ xs) ys older all others = (all.0, right_more xs ys (x.message ∷ older) all.1 others)

  none_right : (a : Option Key) (m : List ℕ) (older : Messages) → a ≡ None → RightAt a m older
  none_right None m older e = tt
  none_right (Some key) m older e = absurd (cc (e))

  pub own_right : (ys : List Outgoing) (older : Messages) → AreOwn ys → AllRight ys older
  own_right [] older own = tt
  own_right (y ∷ ys) older own = (none_right y.answers y.message older (own y (inl refl)).0, own_right ys (y.message ∷ older) (λ o has. own o (inr has)))

module _ (W V : ℕ → Key → Type 0) (c : ℕ) (on_to : (device : ℕ) (key : Key) → W device key → V device key) where
  pub one_right : (a : Option Key) (m : List ℕ) (older newer : Messages) → SaySame older newer → RightAt W c a m older → RightAt V c a m newer
  one_right None m older newer same is = tt
  one_right (Some key) m older newer same (h, is_head, channel, so) = (
    h,
    is_head,
    channel,
    elim so [
      | inl gone ↦ inl (gone.0, same h.device ∙ gone.1)
      | inr worn ↦ inr (worn.0, same h.device ∙ worn.1, on_to h.device key worn.2)
    ],
  )

  pub all_right : (os : List Outgoing) (older newer : Messages) → SaySame older newer → AllRight W c os older → AllRight V c os newer
  all_right [] older newer same all = tt
  all_right (o ∷ os) older newer same all = (one_right o.answers o.message older newer same all.0, all_right os (o.message ∷ older) (o.message ∷ newer) (one_same o.message older newer same) all.1)

-- ---- a worn journal

-- A request to the device was refused for its worn journal: it is worn still, and no later request on the channel came.
pub record IsWornFor (p : Served) (deeds : List Deed) (device : ℕ) (key : Key) : Type 0 where
  pub entries : worn_entries ≤ length (journal device deeds)
  pub later : (index : ℕ) → came key.channel (journal device deeds) index ≡ true → index < key.index
  pub worn : (place : ℕ) (d : DeviceDeskState) (s : Of) → IsDeskAt p place d s → d.id ≡ device → IsWorn s

-- ---- what is said

pub record AreSaid (p : Served) (deeds : List Deed) : Type 0 where
  pub marks : (p.front).on ≡ true → SaysMarks (p.front).client (written_then (((p.front).client).core).outbox (client_wrote (p.front).channel deeds))
  pub out : AllRight (IsWornFor p deeds) (p.front).channel (((p.front).client).core).outbox (client_wrote (p.front).channel deeds)
  pub later : (c : ℕ) → (p.front).channel < c → client_wrote c deeds ≡ []
  pub each : EachAfter RefusesDirectly deeds

-- a refusal that is right is the one that is called for
pub right_so : (p : Served) (c : ℕ) (key : Key) (m : List ℕ) (before : List Deed) → RightAt (IsWornFor p before) c (Some key) m (client_wrote key.channel before) → RefusesDirectly before (completes key m)
right_so p c key m before (h, is_head, channel, so) r reply read done never refusal =
    let k : Head = record { device = r.device; completion = r.completion; status = reply.status } in
    let is : head_in m ≡ Some k = rw (head_read k m done.head).1 refl in
    let both : Some h ≡ Some k = sym is_head ∙ is in
    let same : h ≡ k = cc (both) in
    let device : h.device ≡ r.device = ap (λ (x : Head). x.device) same in
    let status : h.status ≡ reply.status = ap (λ (x : Head). x.status) same in
    elim so [
      | inl gone ↦ elim refusal [
        | inl is_gone ↦ inl (subst (λ (n : ℕ). is_said_gone n (client_wrote key.channel before) ≡ true) device gone.1, is_gone)
        | inr short ↦ absurd (let e : no_such_device ≡ insufficient_resources = sym gone.0 ∙ status ∙ ap (λ (x : Reply). x.status) short in differ e)
      ]
      | inr worn ↦ elim refusal [
        | inl is_gone ↦ absurd (let e : no_such_device ≡ insufficient_resources = sym (ap (λ (x : Reply). x.status) is_gone) ∙ sym status ∙ worn.0 in differ e)
        | inr short ↦
            let w : IsWornFor p before r.device key = subst (λ (n : ℕ). IsWornFor p before n key) device worn.2 in
            inr (subst (λ (n : ℕ). is_said_gone n (client_wrote key.channel before) ≡ false) device worn.1, short, w.entries, w.later)
      ]
    ]
  where
    differ : no_such_device ≡ insufficient_resources → ⊥
    differ e = let no : false ≡ true = ap (λ (s : Status). s.0 == no_such_device.0) (sym e) in cc (no)
