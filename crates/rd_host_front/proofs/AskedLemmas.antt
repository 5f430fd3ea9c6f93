-- Which calls of the table a message asks for, by the parts of the call that hears it.
use Rattle.std.proofs.Common.{◌≡◌, ◌∙◌, refl, sym, ap, subst, ℕ, Bool, true, false, cond, List, [], ◌∷◌, ◌++◌, map, filter}
use Rattle.std.specs.Prelude.{MatchBool, Result, Ok, Err}
use mathlib.Core.List.{IsPrefix}
use Rattle.rd_base.specs.declared.status.Status.{Status}
use Rattle.rd_base.specs.Statuses as status
use Rattle.rd_devices.specs.declared.list.Announce.{Announce}
use Rattle.rd_hello.specs.declared.end_fault.EndFault.{EndFault}
use Rattle.rd_hello.specs.declared.end_fault.EndFault.TheVariants as fault
use Rattle.rd_host.specs.declared.act.Act.{Act}
use Rattle.rd_host.specs.declared.act.Act.TheVariants as act
use Rattle.rd_host.specs.Core.{replies}
use Rattle.rd_pending.specs.declared.calls.LiveNo.{LiveNo}
use Rattle.rd_pending.specs.declared.calls.LiveNo.TheVariants as live_no
use Rattle.rd_table.specs.declared.calls.PendingCall.{PendingCall}
use Rattle.rd_table.specs.declared.calls.PendingCall.TheVariants as table
use Rattle.rd_table.specs.declared.calls.PendingReply.{PendingReply}
use Rattle.rd_table.specs.declared.calls.PendingReply.TheVariants as replied
use Rattle.rd_host_front.specs.declared.calls.HostFrontCall.TheVariants as call
use Rattle.rd_host_front.specs.declared.calls.HostFrontReply.{HostFrontReply}
use Rattle.rd_host_front.specs.declared.calls.HostFrontReply.TheVariants as reply
use Rattle.rd_host_front.specs.Asked.{CallMade, asked_by_answer, is_served, is_wanting}
use Rattle.rd_host_front.specs.HostFront.{AdmitsAll, AdmitsBy, BeginsLife, Declines, Follows, FollowsAnswer, ForgetsAll, HearsMessage, HostFrontStep, OnFound, RepliesToDevice, TableDoes, done_if_found, has_many_unsent, is_channel_on, life_code}
use Rattle.rd_host_front.specs.Parts as kind
use Rattle.rd_host_front.specs.Parts.{AsksTable, HostPart, HostPartsGo, handed_by_parts, heard_by_parts, made_by_parts, own}
use Rattle.rd_host_front.specs.State.{HostFrontState}
use Rattle.rd_host_front.proofs.GoingLemmas.{core_of, table_of}

abbrev calls_in : List HostPart → List PendingCall
calls_in parts = map (λ (c : CallMade). c.0) (made_by_parts parts)

-- Parts whose calls of the table are the first of those that are asked for, and all of them where everything was found.
record Makes (asked : List PendingCall) (old : HostFrontState) (found : Bool) (new : HostFrontState) : Type 0 where
  parts : List HostPart
  goes : HostPartsGo old parts new
  prefix : IsPrefix (calls_in parts) asked
  all : found ≡ true → calls_in parts ≡ asked
  handed : handed_by_parts parts ≡ []
  heard : heard_by_parts parts ≡ []

-- nothing more is done
all_made : (old new : HostFrontState) (found : Bool) → new ≡ old → Makes [] old found new
all_made old new found same = record { parts = []; goes = (ap core_of same, ap table_of same); prefix = ([], refl); all = λ e. refl; handed = refl; heard = refl }

none_made : (asked : List PendingCall) (old new : HostFrontState) → new ≡ old → Makes asked old false new
none_made asked old new same = record { parts = []; goes = (ap core_of same, ap table_of same); prefix = (asked, refl); all = λ e. absurd (cc e); handed = refl; heard = refl }

-- one call of the table more, before others
more_made : (does : PendingCall) (back : PendingReply) (asked : List PendingCall) (old next : HostFrontState) (found : Bool) (new : HostFrontState) → handed_by_parts (own does back ∷ []) ≡ [] → TableDoes old does back next
    → Makes asked next found new → Makes (does ∷ asked) old found new
more_made does back asked old next found new silent did m = record {
  parts = own does back ∷ m.parts;
  goes = (next, (ap core_of did.1, did.0), m.goes);
  prefix = (m.prefix.0, ap (λ (l : List PendingCall). does ∷ l) m.prefix.1);
  all = λ e. ap (λ (l : List PendingCall). does ∷ l) (m.all e);
  handed = handed_first (own does back) m.parts silent m.handed;
  heard = m.heard;
}
  where
    handed_first : (p : HostPart) (ps : List HostPart) → handed_by_parts (p ∷ []) ≡ [] → handed_by_parts ps ≡ [] → handed_by_parts (p ∷ ps) ≡ []
    handed_first p ps one others = ap (λ (l : List (List ℕ)). kind.handed_by_part p ++ l) others ∙ one

-- a reply, before others
reply_made : (asked : List PendingCall) (old : HostFrontState) (device : ℕ) (code : Status) (went : Bool) (next : HostFrontState) (found : Bool) (new : HostFrontState) → RepliesToDevice old device code went next
    → Makes asked next found new → Makes asked old found new
reply_made asked old device code went next found new (answer, did, is) m = record {
  parts = kind.core (replies device code answer) ∷ m.parts;
  goes = (next, (did.0, ap table_of did.1), m.goes);
  prefix = m.prefix;
  all = m.all;
  handed = m.handed;
  heard = m.heard;
}

-- ---- devices that are announced

-- what follows from the table's answer to a device, before others
answer_made : (asked : List PendingCall) (old : HostFrontState) (device : ℕ) (life : Result ℕ LiveNo) (went : Bool) (next : HostFrontState) (found : Bool) (new : HostFrontState) → AdmitsBy old device life went next
    → Makes asked next found new → Makes asked old found new
answer_made asked old device (Err live_no.Memory) went next found new did m = subst (λ (s : HostFrontState). Makes asked s found new) did.1 m
answer_made asked old device (Ok life) went next found new did m = reply_made asked old device (life_code (Ok life)) went next found new did m
answer_made asked old device (Err live_no.NoChannel) went next found new did m = reply_made asked old device (life_code (Err live_no.NoChannel)) went next found new did m
answer_made asked old device (Err live_no.Already) went next found new did m = reply_made asked old device (life_code (Err live_no.Already)) went next found new did m
answer_made asked old device (Err live_no.Full) went next found new did m = reply_made asked old device (life_code (Err live_no.Full)) went next found new did m
answer_made asked old device (Err (live_no.Worn count)) went next found new did m = reply_made asked old device (life_code (Err (live_no.Worn count))) went next found new did m

abbrev lives_in : List Announce → List PendingCall
lives_in devices = map (λ (a : Announce). table.Live a.id) (filter is_served devices)

-- a device's call, if it has one, before those of the others
abbrev with_life : Bool → Announce → List Announce → List PendingCall
with_life served a devices = map (λ (b : Announce). table.Live b.id) (cond served (a ∷ filter is_served devices) (filter is_served devices))

admits_made : (devices : List Announce) (old : HostFrontState) (found : Bool) (new : HostFrontState) → AdmitsAll devices old found new → Makes (lives_in devices) old found new
admits_made [] old found new did = all_made old new found did.1
admits_made (a ∷ devices) old found new did = by (others (λ more. admits_made devices did.1 found new more) did.0 did.3) (is_served a) did.2
  where
    others : (AdmitsAll devices did.1 found new → Makes (lives_in devices) did.1 found new) → (went : Bool) → OnFound went found did.1 new (AdmitsAll devices did.1 found new) → Makes (lives_in devices) did.1 found new
    others on true rest_of = on rest_of
    others on false rest_of = subst (λ (b : Bool). Makes (lives_in devices) did.1 b new) (sym rest_of.0) (none_made (lives_in devices) did.1 new rest_of.1)

    by : Makes (lives_in devices) did.1 found new → (served : Bool) → MatchBool served (BeginsLife old a.id did.0 did.1) (RepliesToDevice old a.id status.not_supported did.0 did.1) → Makes (with_life served a devices) old found new
    by later true one =
        more_made (table.Live a.id) (replied.Lives one.0) (lives_in devices) old one.1 found new refl one.2 (answer_made (lives_in devices) one.1 a.id one.0 did.0 did.1 found new one.3 later)
    by later false one = reply_made (lives_in devices) old a.id status.not_supported did.0 did.1 found new one later

forgets_made : (ids : List ℕ) (old new : HostFrontState) → ForgetsAll ids old new → Makes (map (λ (id : ℕ). table.Remove id) ids) old true new
forgets_made [] old new did = all_made old new true did
forgets_made (id ∷ ids) old new did =
    more_made (table.Remove id) (replied.Removed did.1.0) (map (λ (x : ℕ). table.Remove x) ids) old did.0 true new refl did.1.1 (forgets_made ids did.0 new did.2)

module _ {W : Type 0} where
  -- the calls were all made, unless no memory was found
  abbrev Asks : Result Act EndFault → HostFrontState → HostFrontReply W → HostFrontState → Type 0
  Asks answer old back new = (found : Bool) × Makes (asked_by_answer answer) old found new × (is_wanting back ≡ false → found ≡ true)

  if_found : (found : Bool) (back : HostFrontReply W) (s : HostFrontState) → back ≡ done_if_found found s → is_wanting back ≡ false → found ≡ true
  if_found true back s is e = refl
  if_found false back s is e = let no : true ≡ false = sym (ap (λ (r : HostFrontReply W). is_wanting r) is) ∙ e in absurd (cc no)

  follows : (old : HostFrontState) (a : Act) (back : HostFrontReply W) (new : HostFrontState) → Follows old a back new → Asks (Ok a) old back new
  follows old act.Nothing back new did = (true, all_made old new true did.1, λ e. refl)
  follows old (act.Complete head body) back new did =
      (true, more_made (table.Complete head body) (replied.Completed did.0) [] old new true new refl did.1 (all_made new new true refl), λ e. refl)
  follows old (act.Announced devices) back new did = (did.0, admits_made devices old did.0 new did.1, if_found did.0 back new did.2)
  follows old (act.Removed ids) back new did = (true, forgets_made ids old new did.0, λ e. refl)

  follows_answer : (old : HostFrontState) (answer : Result Act EndFault) (back : HostFrontReply W) (new : HostFrontState) → FollowsAnswer old answer back new → Asks answer old back new
  follows_answer old (Ok asks) back new did = follows old asks back new did
  follows_answer old (Err fault.Memory) back new did = (true, all_made old new true did.1, λ e. refl)
  follows_answer old (Err (fault.Order state packet)) back new did = (true, all_made old new true did.1, λ e. refl)
  follows_answer old (Err (fault.Grammar bad)) back new did = (true, all_made old new true did.1, λ e. refl)

  message_asks : (old : HostFrontState) (message : List ℕ) (back : HostFrontReply W) (new : HostFrontState) → HearsMessage old message back new → AsksTable old message back new
  message_asks old message back new did =
      let (found, makes, all) = follows_answer did.1 did.0 back new did.3 in
      record {
        answer = did.0;
        parts = makes.parts;
        goes = (did.1, ((did.2).0, ap table_of (did.2).1), makes.goes);
        asked = makes.prefix;
        all = λ e. makes.all (all e);
        handed = makes.handed;
        heard = makes.heard;
      }

  pub hear_asks : (old : HostFrontState) (channel : ℕ) (message : List ℕ) (back : HostFrontReply W) (new : HostFrontState) → is_channel_on old channel ≡ true → has_many_unsent old ≡ false
      → HostFrontStep old (call.Hear channel message) back new → AsksTable old message back new
  hear_asks old channel message back new on few step =
      let heard = subst (λ (b : Bool). MatchBool b (MatchBool (has_many_unsent old) (Declines (reply.Full message) back old new) (HearsMessage old message back new)) (Declines reply.Over back old new)) on step in
      let did = subst (λ (b : Bool). MatchBool b (Declines (reply.Full message) back old new) (HearsMessage old message back new)) few heard in
      message_asks old message back new did
