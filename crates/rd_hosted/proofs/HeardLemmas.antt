-- What a front does by a message that it hears.
use Rattle.std.proofs.Common.{◌≡◌, ◌∙◌, ◌≢◌, refl, sym, ap, subst, ℕ, Bool, true, false, List, [], ◌∷◌}
use Rattle.std.specs.Prelude.{MatchBool, Result, Ok, Err}
use Rattle.rd_base.specs.declared.status.Status.{Status}
use Rattle.rd_base.specs.Statuses as status
use Rattle.rd_devices.specs.declared.list.Announce.{Announce}
use Rattle.rd_hello.specs.declared.end_fault.EndFault.{EndFault}
use Rattle.rd_hello.specs.declared.end_fault.EndFault.TheVariants as fault
use Rattle.rd_host.specs.declared.act.Act.{Act}
use Rattle.rd_host.specs.declared.act.Act.TheVariants as act
use Rattle.rd_host.specs.Core as host
use Rattle.rd_host.specs.Core.{HostCoreState, HostStep, hears, replies}
use Rattle.rd_host.specs.Served.{is_served_type}
use Rattle.rd_pending.specs.declared.calls.CompleteNo.{CompleteNo}
use Rattle.rd_pending.specs.declared.calls.CompleteNo.TheVariants as complete_no
use Rattle.rd_pending.specs.declared.calls.Completed.{Completed}
use Rattle.rd_pending.specs.declared.calls.Completed.TheVariants.{Gave, Late}
use Rattle.rd_pending.specs.declared.calls.LiveNo.{LiveNo}
use Rattle.rd_pending.specs.declared.calls.LiveNo.TheVariants as live_no
use Rattle.rd_host_front.specs.declared.calls.HostFrontReply.{HostFrontReply}
use Rattle.rd_host_front.specs.Asked.{is_wanting}
use Rattle.rd_host_front.specs.HostFront.{AdmitsAll, AdmitsBy, BeginsLife, Follows, FollowsAnswer, ForgetsAll, HearsMessage, OnFound, RepliesToDevice, completed_as, done_if_found, life_code}
use Rattle.rd_host_front.specs.State.{FrontPassState, HostFrontState}
use Rattle.rd_host_front.proofs.GoingLemmas.{core_of, table_of}
use Rattle.rd_hosted.specs.Heard.{DoesAsked, DoesHeard, IsOnStill, LivesAll, RemovesAll, took_message, replying, served_in}

-- a device is replied to, where memory is found for that
abbrev pub on_of : HostFrontState → Bool
on_of s = s.on

abbrev pub channel_in : HostFrontState → ℕ
channel_in s = s.channel

still_so : (s : HostFrontState) → IsOnStill s s
still_so s = (refl, refl)

pub still_then : (a b c : HostFrontState) → IsOnStill a b → IsOnStill b c → IsOnStill a c
still_then a b c one other = (other.0 ∙ one.0, other.1 ∙ one.1)

still_same : (a b : HostFrontState) → b ≡ a → IsOnStill a b
still_same a b is = (ap on_of is, ap channel_in is)

replied_found : (old : HostFrontState) (device : ℕ) (code : Status) (new : HostFrontState) → RepliesToDevice old device code true new
    → (new.core ≡ host.reply old.core device code) × (new.table ≡ old.table) × IsOnStill old new
replied_found old device code new (Ok u, did, is) = (did.0.1, ap table_of did.1, (ap on_of did.1, ap channel_in did.1))
replied_found old device code new (Err e, did, is) = absurd (cc is)

-- What is done for these devices, with answers.
record Admitted (devices : List Announce) (old new : HostFrontState) : Type 0 where
  answers : List (Result ℕ LiveNo)
  lives : LivesAll (served_in devices) answers old.table new.table
  core : new.core ≡ replying old.core devices answers
  still : IsOnStill old new

answered : (old : HostFrontState) (device : ℕ) (life : Result ℕ LiveNo) (new : HostFrontState) → AdmitsBy old device life true new
    → (life ≢ Err live_no.Memory) × (new.core ≡ host.reply old.core device (life_code life)) × (new.table ≡ old.table) × IsOnStill old new
answered old device (Err live_no.Memory) new did = absurd (cc (did.0))
answered old device (Ok life) new did = let is = replied_found old device (life_code (Ok life)) new did in (λ e. cc e, is.0, is.1, is.2)
answered old device (Err live_no.NoChannel) new did = let is = replied_found old device (life_code (Err live_no.NoChannel)) new did in (λ e. cc e, is.0, is.1, is.2)
answered old device (Err live_no.Already) new did = let is = replied_found old device (life_code (Err live_no.Already)) new did in (λ e. cc e, is.0, is.1, is.2)
answered old device (Err live_no.Full) new did = let is = replied_found old device (life_code (Err live_no.Full)) new did in (λ e. cc e, is.0, is.1, is.2)
answered old device (Err (live_no.Worn count)) new did = let is = replied_found old device (life_code (Err (live_no.Worn count))) new did in (λ e. cc e, is.0, is.1, is.2)

-- a device that isn't served has no answer of the table
pub replying_other : (core : HostCoreState) (a : Announce) (devices : List Announce) (answers : List (Result ℕ LiveNo)) → is_served_type a.kind ≡ false
    → replying core (a ∷ devices) answers ≡ replying (host.reply core a.id status.not_supported) devices answers
replying_other core a devices [] e = rw e refl
replying_other core a devices (life ∷ lives) e = rw e refl

admitted_first : (a : Announce) (devices : List Announce) (old next new : HostFrontState) → MatchBool (is_served_type a.kind) (BeginsLife old a.id true next) (RepliesToDevice old a.id status.not_supported true next)
    → Admitted devices next new → Admitted (a ∷ devices) old new
admitted_first a devices old next new one rest = go (is_served_type a.kind) refl one
  where
    go : (served : Bool) → is_served_type a.kind ≡ served → MatchBool served (BeginsLife old a.id true next) (RepliesToDevice old a.id status.not_supported true next) → Admitted (a ∷ devices) old new
    go true e begins =
        let is = answered begins.1 a.id begins.0 next begins.3 in
        record {
          answers = begins.0 ∷ rest.answers;
          lives = rw e (is.0, (begins.1).table, begins.2.0, subst (λ (f : FrontPassState). LivesAll (served_in devices) rest.answers f new.table) is.2 rest.lives);
          core = rw e (rest.core ∙ ap (λ (c : HostCoreState). replying c devices rest.answers) (is.1 ∙ ap (λ (c : HostCoreState). host.reply c a.id (life_code begins.0)) (ap core_of begins.2.1)));
          still = still_then old next new (still_then old begins.1 next (ap on_of begins.2.1, ap channel_in begins.2.1) is.3) rest.still;
        }
    go false e other =
        let is = replied_found old a.id status.not_supported next other in
        record {
          answers = rest.answers;
          lives = rw e (subst (λ (f : FrontPassState). LivesAll (served_in devices) rest.answers f new.table) is.1 rest.lives);
          core = rest.core ∙ (ap (λ (c : HostCoreState). replying c devices rest.answers) is.0 ∙ sym (replying_other old.core a devices rest.answers e));
          still = still_then old next new is.2 rest.still;
        }

-- devices for which no memory is found, before others
found_first : (a : Announce) (devices : List Announce) (old next new : HostFrontState) (went : Bool) → MatchBool (is_served_type a.kind) (BeginsLife old a.id went next) (RepliesToDevice old a.id status.not_supported went next)
    → OnFound went true next new (Admitted devices next new) → Admitted (a ∷ devices) old new
found_first a devices old next new true one later = admitted_first a devices old next new one later
found_first a devices old next new false one later = absurd (cc later.0)

on_found : (went : Bool) (old new : HostFrontState) (P Q : Type 0) → (P → Q) → OnFound went true old new P → OnFound went true old new Q
on_found true old new P Q f did = f did
on_found false old new P Q f did = did

admitted : (devices : List Announce) (old new : HostFrontState) → AdmitsAll devices old true new → Admitted devices old new
admitted [] old new did = record { answers = []; lives = ap table_of did.1; core = ap core_of did.1; still = still_same old new did.1 }
admitted (a ∷ devices) old new (went, next, one, others) =
    found_first a devices old next new went one (on_found went next new (AdmitsAll devices next true new) (Admitted devices next new) (admitted devices next new) others)

removed : (ids : List ℕ) (old new : HostFrontState) → ForgetsAll ids old new → RemovesAll ids old.table new.table × (new.core ≡ old.core) × IsOnStill old new
removed [] old new did = (ap table_of did, ap core_of did, still_same old new did)
removed (id ∷ ids) old new (next, (was, did), others) =
    let rest = removed ids next new others in
    ((was, next.table, did.0, rest.0), rest.1 ∙ ap core_of did.1, still_then old next new (ap on_of did.1, ap channel_in did.1) rest.2)

module _ {W : Type 0} where
  -- what is asked is done, the channel is on as before, and the message was taken
  abbrev Asked : HostFrontState → Result Act EndFault → HostFrontReply W → HostFrontState → Type 0
  Asked old answer back new = DoesAsked answer old.core old.table new × IsOnStill old new × (took_message back ≡ true)

  by_reply : (back other : HostFrontReply W) → back ≡ other → took_message other ≡ true → took_message back ≡ true
  by_reply back other is so = ap (λ (r : HostFrontReply W). took_message r) is ∙ so

  asked : (old : HostFrontState) (a : Act) (back : HostFrontReply W) (new : HostFrontState) → is_wanting back ≡ false → Follows old a back new → Asked old (Ok a) back new
  asked old act.Nothing back new found did = ((ap core_of did.1, ap table_of did.1), still_same old new did.1, ap (λ (r : HostFrontReply W). took_message r) did.0)
  asked old (act.Complete head body) back new found (answer, did, is) =
      ((answer, not_wanting answer is, did.0, ap core_of did.1), (ap on_of did.1, ap channel_in did.1), by_reply back (completed_as answer new) is (completed_taken answer))
    where
      completed_taken : (answer : Result Completed CompleteNo) → took_message {W = W} (completed_as answer new) ≡ true
      completed_taken (Ok (Gave number)) = refl
      completed_taken (Ok (Late number)) = refl
      completed_taken (Err (complete_no.Stray device id)) = refl
      completed_taken (Err (complete_no.BodyBad bad)) = refl
      completed_taken (Err complete_no.Memory) = refl

      not_wanting : (answer : Result Completed CompleteNo) → back ≡ completed_as answer new → answer ≢ Err complete_no.Memory
      not_wanting answer is e =
          let wanting : is_wanting back ≡ true = ap (λ (r : HostFrontReply W). is_wanting r) (is ∙ ap (λ (x : Result Completed CompleteNo). completed_as x new) e) in
          cc (wanting, found)
  asked old (act.Announced devices) back new found (went, did, is) = by went did is
    where
      by : (went : Bool) → AdmitsAll devices old went new → back ≡ done_if_found went new → Asked old (Ok (act.Announced devices)) back new
      by true did is = let a = admitted devices old new did in ((a.answers, a.lives, a.core), a.still, ap (λ (r : HostFrontReply W). took_message r) is)
      by false did is = let wanting : is_wanting back ≡ true = ap (λ (r : HostFrontReply W). is_wanting r) is in absurd (cc (wanting, found))
  asked old (act.Removed ids) back new found did = let r = removed ids old new did.0 in ((r.0, r.1), r.2, ap (λ (x : HostFrontReply W). took_message x) did.1)

  pub heard : (old : HostFrontState) (message : List ℕ) (back : HostFrontReply W) (new : HostFrontState) → is_wanting back ≡ false → HearsMessage old message back new → DoesHeard old message back new
  heard old message back new found (answer, next, did, follows) = by answer did.0 follows
    where
      moved : (answer : Result Act EndFault) → DoesAsked answer next.core next.table new → DoesAsked answer next.core old.table new
      moved answer = subst (λ (f : FrontPassState). DoesAsked answer next.core f new) (ap table_of did.1)

      on : IsOnStill next new → IsOnStill old new
      on = still_then old next new (ap on_of did.1, ap channel_in did.1)

      by : (answer : Result Act EndFault) → HostStep old.core (hears message answer) next.core → FollowsAnswer next answer back new → DoesHeard old message back new
      by (Ok asks) step follows = let a = asked next asks back new found follows in record { core = next.core; answer = Ok asks; hears = step; does = moved (Ok asks) a.0; still = on a.1; taken = a.2 }
      by (Err fault.Memory) step follows = let wanting : is_wanting back ≡ true = ap (λ (r : HostFrontReply W). is_wanting r) follows.0 in absurd (cc (wanting, found))
      by (Err (fault.Order state packet)) step follows = record {
        core = next.core;
        answer = Err (fault.Order state packet);
        hears = step;
        does = moved (Err (fault.Order state packet)) (ap core_of follows.1, ap table_of follows.1);
        still = on (still_same next new follows.1);
        taken = ap (λ (r : HostFrontReply W). took_message r) follows.0;
      }
      by (Err (fault.Grammar bad)) step follows = record {
        core = next.core;
        answer = Err (fault.Grammar bad);
        hears = step;
        does = moved (Err (fault.Grammar bad)) (ap core_of follows.1, ap table_of follows.1);
        still = on (still_same next new follows.1);
        taken = ap (λ (r : HostFrontReply W). took_message r) follows.0;
      }
