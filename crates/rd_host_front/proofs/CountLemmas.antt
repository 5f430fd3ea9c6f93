-- How many messages stand in the outbox of the host's core.
use Rattle.std.proofs.Common.{◌≡◌, ◌∙◌, refl, sym, ap, subst, ℕ, ◌+◌, ◌-◌, ◌<◌, ◌≤◌, Bool, true, false, List, [], ◌∷◌, ◌++◌, Option, Some, None, length, map, length-append, arith}
use Rattle.std.specs.Prelude.{Result, Ok, Err, if◌then◌else◌}
use Rattle.std.proofs.lemmas.List.{length-map}
use Rattle.std.specs.declared.alloc.AllocError.{AllocError}
use Rattle.std.specs.Option.{option_to_list}
use Rattle.rd_base.specs.declared.bad.Bad.{Bad}
use Rattle.rd_base.specs.declared.packet.Packet.{Packet}
use Rattle.rd_base.specs.Header.{any_header}
use Rattle.rd_base.specs.Layout.{met}
use Rattle.rd_base.specs.Position.{Position, at_start}
use Rattle.rd_core.specs.Core as parts
use Rattle.rd_core.specs.Core.{CoreState, Did}
use Rattle.rd_core.specs.Hearing as hearing
use Rattle.rd_core.specs.Hearing.{Meaning, from_header, from_hello, from_own, hear_said, is_hello, is_read_in, messages_of, nothing, opens, said, says, wrong}
use Rattle.rd_hello.specs.declared.end_fault.EndFault.{EndFault}
use Rattle.rd_hello.specs.declared.end_fault.EndFault.TheVariants as fault
use Rattle.rd_hello.specs.declared.hello.Hello.{Hello}
use Rattle.rd_hello.specs.declared.hello.Hello.TheVariants as hello
use Rattle.rd_hello.specs.declared.host.HostState.{HostState}
use Rattle.rd_hello.specs.declared.host.HostState.TheVariants.{Start, Confirmed, Offered, Ready}
use Rattle.rd_hello.specs.Hello as greeting
use Rattle.rd_hello.specs.Rows.{OrderRow}
use Rattle.rd_host.specs.declared.act.Act.{Act}
use Rattle.rd_host.specs.Core as host
use Rattle.rd_host.specs.Core.{HostCoreState, HostStep, begins, hears, host_begin, host_hear, host_hear_made, host_send, host_side, replies, sends}
use Rattle.rd_host.specs.Order.{is_host_ready}
use Rattle.rd_host_front.specs.HostFront.{has_many_unsent, is_found, is_opened, most_following, one_if_found, unsent_at_begin, unsent_since}
use Rattle.rd_host_front.specs.Kept.{CountsUnsent}
use Rattle.rd_host_front.specs.State.{HostFrontState}
use Rattle.rd_host_front.proofs.StepLemmas.{Carries}

abbrev standing : HostCoreState → ℕ
standing h = length (h.core).outbox

-- ---- what is written once the opening is over

-- it is no message of the opening
abbrev IsQuiet : Meaning HostState Act → Type 0
IsQuiet (opens row) = ⊥
IsQuiet _ = Unit {0}

quiet_if : (b : Bool) (x y : Meaning HostState Act) → IsQuiet x → IsQuiet y → IsQuiet (if b then x else y)
quiet_if true x y one other = one
quiet_if false x y one other = other

quiet_hello : (r : Result (Hello × Position) Bad) → IsQuiet (from_hello host_side Ready r)
quiet_hello (Err bad) = tt
quiet_hello (Ok (hello.Announce version, at)) = tt
quiet_hello (Ok (hello.Confirm version, at)) = tt
quiet_hello (Ok (hello.Name unicode page name, at)) = tt
quiet_hello (Ok (hello.ServerCaps caps, at)) = tt
quiet_hello (Ok (hello.ClientCaps caps, at)) = tt
quiet_hello (Ok (hello.LoggedOn, at)) = tt

quiet_own : (r : Result Act Bad) → IsQuiet (from_own host_side r)
quiet_own (Err bad) = tt
quiet_own (Ok a) = tt

quiet_header : (message : List ℕ) (r : Result (Option Packet × Position) Bad) → IsQuiet (from_header host_side Ready message r)
quiet_header message (Err bad) = tt
quiet_header message (Ok (None, at)) = tt
quiet_header message (Ok (Some p, at)) =
    quiet_if (is_read_in host_side Ready p) _ _
    (quiet_if (is_hello p) _ _ (quiet_hello (met greeting.hello (at_start message))) (quiet_own (host_side.own p message))) tt

-- ---- what is written for a message

option_few : {A : Type 0} (o : Option A) → length (option_to_list o) ≤ 1
option_few None = omega arith
option_few (Some a) = omega arith

row_few : (row : OrderRow HostState) → length (messages_of row) ≤ 2
row_few row =
    let both = length-append (option_to_list row.first) (option_to_list row.second) in
    let all = length-map (option_to_list row.first ++ option_to_list row.second) greeting.hello_bytes in
    omega (arith, option_few row.first, option_few row.second, both, all)

row_longer : (core : CoreState HostState (List ℕ)) (row : OrderRow HostState) → length (core.outbox ++ map host_side.outgoing (messages_of row)) ≡ length core.outbox + length (messages_of row)
row_longer core row = length-append core.outbox (map host_side.outgoing (messages_of row)) ∙ ap (λ (n : ℕ). length core.outbox + n) (length-map (messages_of row) host_side.outgoing)

module _ (client : ℕ) where
  abbrev host_of : CoreState HostState (List ℕ) → HostCoreState
  host_of core = record { client = client; core = core }

  said_longer : (core : CoreState HostState (List ℕ)) (meaning : Meaning HostState Act) → standing (host_hear_made (host_of core) (hear_said host_side core meaning)).0 ≤ length core.outbox + 2
  said_longer core (wrong cause) = omega arith
  said_longer core nothing = omega arith
  said_longer core (opens row) = omega (arith, row_longer core row, row_few row)
  said_longer core (says a) = omega arith

  said_quiet : (core : CoreState HostState (List ℕ)) (meaning : Meaning HostState Act) → IsQuiet meaning → standing (host_hear_made (host_of core) (hear_said host_side core meaning)).0 ≤ length core.outbox + 0
  said_quiet core (wrong cause) quiet = omega arith
  said_quiet core nothing quiet = omega arith
  said_quiet core (opens row) quiet = absurd quiet
  said_quiet core (says a) quiet = omega arith

  hear_longer : (shake : HostState) (cause : Option EndFault) (outbox : List (List ℕ)) (message : List ℕ)
      → standing (host_hear (host_of (record { shake = shake; fault = cause; outbox = outbox })) message).0 ≤ length outbox + most_following (is_host_ready shake)
  hear_longer shake (Some other) outbox message = omega arith
  hear_longer Start None outbox message = said_longer (record { shake = Start; fault = None; outbox = outbox }) (said host_side Start message)
  hear_longer (Confirmed version) None outbox message = said_longer (record { shake = Confirmed version; fault = None; outbox = outbox }) (said host_side (Confirmed version) message)
  hear_longer Offered None outbox message = said_longer (record { shake = Offered; fault = None; outbox = outbox }) (said host_side Offered message)
  hear_longer Ready None outbox message =
      said_quiet (record { shake = Ready; fault = None; outbox = outbox }) (said host_side Ready message) (quiet_header message (met any_header (at_start message)))

heard_longer : (old new : HostCoreState) (message : List ℕ) (answer : Result Act EndFault) → HostStep old (hears message answer) new
    → standing new ≤ standing old + most_following (is_host_ready (old.core).shake)
heard_longer old new message answer step = by answer step
  where
    longer : standing (host_hear old message).0 ≤ standing old + most_following (is_host_ready (old.core).shake)
    longer = hear_longer old.client (old.core).shake (old.core).fault (old.core).outbox message

    to : (a : Result Act EndFault) → host_hear old message ≡ (new, a) → standing new ≤ standing old + most_following (is_host_ready (old.core).shake)
    to a is = subst (λ (x : HostCoreState × Result Act EndFault). standing x.0 ≤ standing old + most_following (is_host_ready (old.core).shake)) is longer

    by : (a : Result Act EndFault) → hearing.Hears host_side (λ (h : HostCoreState). h.core) host_hear old message a new → standing new ≤ standing old + most_following (is_host_ready (old.core).shake)
    by (Err fault.Memory) h = subst (λ (c : HostCoreState). standing c ≤ standing old + most_following (is_host_ready (old.core).shake)) (sym h.1) (omega arith)
    by (Err (fault.Order state packet)) h = to _ h
    by (Err (fault.Grammar bad)) h = to _ h
    by (Ok heard) h = to _ h

-- ---- the other calls

-- one message more, where memory is found for it
did_longer : (answer : Result (Unit {0}) AllocError) (done old new : HostCoreState) → standing done ≤ standing old + 1 → Did answer done old new
    → standing new ≤ standing old + one_if_found (is_found answer)
did_longer (Ok fine) done old new one is = subst (λ (c : HostCoreState). standing c ≤ standing old + 1) (sym is) one
did_longer (Err error) done old new one is = subst (λ (c : HostCoreState). standing c ≤ standing old + 0) (sym is) (omega arith)

put_longer : (outbox : List (List ℕ)) (message : List ℕ) → length (outbox ++ message ∷ []) ≤ length outbox + 1
put_longer outbox message = omega (arith, length-append outbox (message ∷ []))

abbrev sent_from : HostCoreState → List (List ℕ) → HostCoreState × Option (List ℕ)
sent_from h outbox = let sent = parts.send_from h.core outbox in (record h { core = sent.0 }, sent.1)

sent_shorter : (h new : HostCoreState) (sent : Option (List ℕ)) (unsent : ℕ) → host_send h ≡ (new, sent) → standing h ≤ unsent → standing new ≤ unsent_since sent unsent
sent_shorter h new sent unsent is few = go (h.core).outbox refl
  where
    go : (outbox : List (List ℕ)) → (h.core).outbox ≡ outbox → standing new ≤ unsent_since sent unsent
    go [] none =
        let made : sent_from h [] ≡ (new, sent) = sym (ap (sent_from h) none) ∙ is in
        let nobody : standing h ≤ 0 = omega (arith, ap (λ (l : List (List ℕ)). length l) none) in
        subst (λ (x : HostCoreState × Option (List ℕ)). standing x.0 ≤ unsent_since x.1 unsent) made nobody
    go (m ∷ ms) some =
        let made : sent_from h (m ∷ ms) ≡ (new, sent) = sym (ap (sent_from h) some) ∙ is in
        let fewer : length ms ≤ unsent - 1 = omega (arith, few, ap (λ (l : List (List ℕ)). length l) some) in
        subst (λ (x : HostCoreState × Option (List ℕ)). standing x.0 ≤ unsent_since x.1 unsent) made fewer

-- the host's announcement alone stands there once a channel begins
began_few : (answer : Result (Unit {0}) AllocError) (old new : HostCoreState) (unsent : ℕ) → Did answer (host_begin old) old new → standing old ≤ unsent → standing new ≤ unsent_at_begin (is_found answer) unsent
began_few (Ok fine) old new unsent is few = subst (λ (c : HostCoreState). standing c ≤ 1) (sym is) (omega arith)
began_few (Err error) old new unsent is few = subst (λ (c : HostCoreState). standing c ≤ unsent) (sym is) few

-- ---- the front

-- so many messages more stand there, and are counted
counted_more : (old new : HostFrontState) (more : ℕ) → standing new.core ≤ standing old.core + more → new ≡ record old { core = new.core; unsent = old.unsent + more }
    → CountsUnsent old → CountsUnsent new
counted_more old new more longer is counted =
    let unsent : new.unsent ≡ old.unsent + more = ap (λ (s : HostFrontState). s.unsent) is in
    omega (arith, longer, unsent, counted)

pub counts : Carries (λ old new. CountsUnsent old → CountsUnsent new)
counts = record {
  stays = λ s counted. counted;
  joins = λ a b c first second counted. second (first counted);
  hears_by = λ old new message answer did. counted_more old new (most_following (is_opened old)) (heard_longer old.core new.core message answer did.0) did.1;
  replies_by = λ old new device code answer did.
      counted_more old new (one_if_found (is_found answer)) (did_longer answer (host.reply old.core device code) old.core new.core (put_longer _ _) (did.0).1) did.1;
  sends_by = λ old new sent did counted.
      let unsent : new.unsent ≡ unsent_since sent old.unsent = ap (λ (s : HostFrontState). s.unsent) did.1 in
      let shorter = sent_shorter old.core new.core sent old.unsent did.0 counted in
      omega (arith, unsent, shorter);
  calls_by = λ old new does back did counted. subst CountsUnsent (sym did.1) counted;
  renews_by = λ s first last table renews counted. counted;
  renews_at = λ s does back first last table renews counted. counted;
  begins_by = λ old new answer step is counted.
      let unsent : new.unsent ≡ unsent_at_begin (is_found answer) old.unsent = ap (λ (s : HostFrontState). s.unsent) is in
      let few = began_few answer old.core new.core old.unsent step counted in
      omega (arith, unsent, few);
  takes_up = λ s channel counted. counted;
  ends_by = λ s counted. omega arith;
  marks_by = λ s none counted. let nobody : length ((s.core).core).outbox ≡ 0 = ap (λ (l : List (List ℕ)). length l) none in omega (arith, nobody);
}

pub few_unless_many : (s : HostFrontState) → CountsUnsent s → has_many_unsent s ≡ false → standing s.core < 1024
few_unless_many s counted some =
    let few : s.unsent < 1024 = grind (arith, some) in
    omega (arith, few, counted)
