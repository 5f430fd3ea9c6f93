-- The replies of a journal, entry by entry: what stands in it before, and what its cuts give.
use Rattle.std.proofs.Common.{◌≡◌, ◌∙◌, refl, sym, ap, subst, ℕ, ◌&&◌, Bool, true, false, List, [], ◌∷◌, ◌++◌, append_assoc, append-nil, map, reverse, Option, Some, None}
use Rattle.std.specs.Prelude.{Contains}
use Rattle.std.specs.List.{list_any}
use Rattle.std.specs.Map.{lookup}
use Rattle.std.specs.Option.{option_map_or}
use Rattle.std.specs.Ordering.{nat_cmp}
use Rattle.std.specs.BTreeMap.{is_at}
use Rattle.std.proofs.lemmas.List.Elements.{Contains-append_left}
use Rattle.std.proofs.lemmas.Bool.{and_parts}
use Rattle.rd_base.specs.declared.journal.Cause.{Cause}
use Rattle.rd_base.specs.declared.journal.Item.{Item}
use Rattle.rd_base.specs.declared.journal.Item.TheVariants.{Cut}
use Rattle.rd_base.specs.declared.journal.Key.{Key}
use Rattle.rd_drive.specs.declared.step.End.{End}
use Rattle.rd_drive.specs.Replies.{KeyedReply, end_reply, last_state_by, replies_at, replies_by, state_after}
use Rattle.rd_irp.specs.declared.completion.Reply.{Reply}
use Rattle.rd_irp.specs.declared.request.Request.{Request}
use Rattle.rd_declared.specs.Devices.{Declared, device_cut, device_step}
use Rattle.rd_declared.specs.declared.device.SessionDevice.{SessionDevice}
use Rattle.rd_world.specs.Recording.{request_of}
use Rattle.rd_world.specs.Session.{replies_in}
use Rattle.rd_deeds.specs.Talk.{Deed, journal}
use Rattle.rd_deeds.specs.Told.{IsReplied}
use Rattle.rd_deeds.proofs.TestedAnswers.{before_sent, after_sent, sent_parts}
use Rattle.rd_deeds.proofs.TestedJournals.{is_sent}

-- ---- what stands before

replies_grow : (requests : Key → Request) (s : SessionDevice) (xs ys : List Item)
    → replies_by device_step device_cut requests s (xs ++ ys) ≡ replies_by device_step device_cut requests s xs ++ replies_by device_step device_cut requests (last_state_by device_step device_cut requests s xs) ys
replies_grow requests s [] ys = refl
replies_grow requests s (x ∷ xs) ys =
    let now = replies_at device_step device_cut requests s x in
    let next = state_after device_step device_cut requests s x in
    ap (λ (rs : List KeyedReply). now ++ rs) (replies_grow requests next xs ys)
    ∙ sym (append_assoc now (replies_by device_step device_cut requests next xs) (replies_by device_step device_cut requests (last_state_by device_step device_cut requests next xs) ys))

-- what the beginning of a device's journal gives stays
pub in_growing : (devices : List (ℕ × Declared)) (deeds : List Deed) (device : ℕ) (earlier more : List Item) (reply : KeyedReply)
    → Contains (replies_in devices deeds device earlier) reply → Contains (replies_in devices deeds device (earlier ++ more)) reply
in_growing devices deeds device earlier more reply = go (lookup (is_at (nat_cmp device)) devices)
  where
    of : Option Declared → List Item → List KeyedReply
    of o items = option_map_or (λ (d : Declared). replies_by device_step device_cut (request_of deeds) d.state items) o []

    go : (o : Option Declared) → Contains (of o earlier) reply → Contains (of o (earlier ++ more)) reply
    go None has = has
    go (Some d) has =
        subst (λ (rs : List KeyedReply). Contains rs reply) (sym (replies_grow (request_of deeds) d.state earlier more))
        (Contains-append_left (of (Some d) earlier) (replies_by device_step device_cut (request_of deeds) (last_state_by device_step device_cut (request_of deeds) d.state earlier) more) reply has)

-- a device that stored nothing gives none
pub in_nothing : (devices : List (ℕ × Declared)) (deeds : List Deed) (device : ℕ) → replies_in devices deeds device [] ≡ []
in_nothing devices deeds device = go (lookup (is_at (nat_cmp device)) devices)
  where
    go : (o : Option Declared) → option_map_or (λ (d : Declared). replies_by device_step device_cut (request_of deeds) d.state []) o [] ≡ []
    go None = refl
    go (Some d) = refl

-- ---- cuts

abbrev ends_none : List End → Bool
ends_none [] = true
ends_none (e ∷ es) = false

abbrev is_quiet : SessionDevice → Item → Bool
is_quiet s (Cut cause) = ends_none (device_cut s).ends
is_quiet s _ = true

-- no cut of a journal that begins in a state gives a reply
abbrev pub quiet_cuts : (Key → Request) → SessionDevice → List Item → Bool
quiet_cuts requests s [] = true
quiet_cuts requests s (x ∷ items) = is_quiet s x && quiet_cuts requests (state_after device_step device_cut requests s x) items

no_ends : (es : List End) → ends_none es ≡ true → map end_reply es ≡ []
no_ends [] e = refl
no_ends (x ∷ xs) e = absurd (cc)

cut_gives_none : (requests : Key → Request) (s : SessionDevice) (first last : List Item) (cause : Cause) → quiet_cuts requests s (first ++ Cut cause ∷ last) ≡ true
    → replies_by device_step device_cut requests s (first ++ Cut cause ∷ []) ≡ replies_by device_step device_cut requests s first
cut_gives_none requests s [] last cause e = append-nil (map end_reply (device_cut s).ends) ∙ no_ends (device_cut s).ends (and_parts _ _ e).0
cut_gives_none requests s (x ∷ first) last cause e =
    ap (λ (rs : List KeyedReply). replies_at device_step device_cut requests s x ++ rs) (cut_gives_none requests (state_after device_step device_cut requests s x) first last cause (and_parts _ _ e).1)

-- a key that was sent has the reply that the journal gives before, where no cut gives one
pub replied_by_run : (devices : List (ℕ × Declared)) (deeds : List Deed) (device : ℕ) (d : Declared) → lookup (is_at (nat_cmp device)) devices ≡ Some d
    → (key : Key) (r : Request) (reply : Reply) (before : List Deed) → list_any (is_sent key) (reverse (journal device before)) ≡ true
    → quiet_cuts (request_of deeds) d.state (before_sent key (reverse (journal device before))) ≡ true
    → Contains (replies_by device_step device_cut (request_of deeds) d.state (before_sent key (reverse (journal device before)))) (key, reply)
    → IsReplied (replies_in devices deeds) device key r reply before
replied_by_run devices deeds device d is key r reply before e quiet has =
    let earlier = before_sent key (reverse (journal device before)) in
    record {
      earlier = earlier;
      later = after_sent key (reverse (journal device before));
      stands = sent_parts key (reverse (journal device before)) e;
      given = subst (λ (rs : List KeyedReply). Contains rs (key, reply)) (sym (same earlier)) has;
      cut = λ first last cause parts hasnt has_now.
          let quiet_here = subst (λ (items : List Item). quiet_cuts (request_of deeds) d.state items ≡ true) parts quiet in
          let none = same (first ++ Cut cause ∷ []) ∙ cut_gives_none (request_of deeds) d.state first last cause quiet_here ∙ sym (same first) in
          absurd (hasnt (subst (λ (rs : List KeyedReply). Contains rs (key, reply)) none has_now));
    }
  where
    same : (items : List Item) → replies_in devices deeds device items ≡ replies_by device_step device_cut (request_of deeds) d.state items
    same items = rw is refl
