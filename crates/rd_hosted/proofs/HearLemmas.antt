-- What a host's side makes of a message is what its front does by it.
use Rattle.std.proofs.Common.{◌≡◌, ◌∙◌, refl, sym, ap, ℕ, Bool, true, false, List, [], ◌∷◌, Ok, Err}
use Rattle.std.specs.Prelude.{Result, fold}
use Rattle.rd_base.specs.Statuses as status
use Rattle.rd_devices.specs.declared.list.Announce.{Announce}
use Rattle.rd_hello.specs.declared.end_fault.EndFault.{EndFault}
use Rattle.rd_host.specs.declared.act.Act.{Act}
use Rattle.rd_host.specs.Core as host
use Rattle.rd_host.specs.Core.{HostCoreState, host_hear}
use Rattle.rd_host.specs.Served.{is_served_type}
use Rattle.rd_pending.specs.declared.calls.LiveNo.{LiveNo}
use Rattle.rd_pending.specs.declared.calls.LiveNo.TheVariants as live_no
use Rattle.rd_pending.specs.Table.{TableState, live, remove}
use Rattle.rd_exchanges.specs.Exchanges.{all_after, answers_of}
use Rattle.rd_host_front.specs.HostFront.{life_code}
use Rattle.rd_deeds.specs.Host.{HostSide, admits, forgets, hears, host_heard, live_code}
use Rattle.rd_hosted.specs.Heard.{replying, served_in}
use Rattle.rd_hosted.proofs.HeardLemmas.{replying_other}
use Rattle.rd_hosted.proofs.StandLemmas.{side}

same_code : (life : Result ℕ LiveNo) → live_code life ≡ life_code life
same_code (Ok life) = refl
same_code (Err live_no.NoChannel) = refl
same_code (Err live_no.Already) = refl
same_code (Err live_no.Full) = refl
same_code (Err (live_no.Worn count)) = refl
same_code (Err live_no.Memory) = refl

-- devices are announced: each that is served begins a life, if it can, and each is replied to
pub admits_all : (devices : List Announce) (core : HostCoreState) (t : TableState)
    → fold admits (side core t) devices ≡ side (replying core devices (answers_of live t (served_in devices))) (all_after live t (served_in devices))
admits_all [] core t = refl
admits_all (a ∷ devices) core t = go (is_served_type a.kind) refl (λ c u. admits_all devices c u)
  where
    go : (b : Bool) → is_served_type a.kind ≡ b
        → ((c : HostCoreState) (u : TableState) → fold admits (side c u) devices ≡ side (replying c devices (answers_of live u (served_in devices))) (all_after live u (served_in devices)))
        → fold admits (admits (side core t) a) devices ≡ side (replying core (a ∷ devices) (answers_of live t (served_in (a ∷ devices)))) (all_after live t (served_in (a ∷ devices)))
    go true e rest =
        let coded : host.reply core a.id (live_code (live t a.id).1) ≡ host.reply core a.id (life_code (live t a.id).1) = ap (host.reply core a.id) (same_code (live t a.id).1) in
        let served : served_in (a ∷ devices) ≡ a.id ∷ served_in devices = rw e refl in
        let answered : replying core (a ∷ devices) ((live t a.id).1 ∷ answers_of live (live t a.id).0 (served_in devices)) ≡ replying (host.reply core a.id (life_code (live t a.id).1)) devices (answers_of live (live t a.id).0 (served_in devices)) = rw e refl in
        let first : admits (side core t) a ≡ side (host.reply core a.id (live_code (live t a.id).1)) (live t a.id).0 = rw e refl in
        ap (λ (s : HostSide). fold admits s devices) (first ∙ ap (λ (c : HostCoreState). side c (live t a.id).0) coded)
        ∙ (rest (host.reply core a.id (life_code (live t a.id).1)) (live t a.id).0
        ∙ (ap (λ (c : HostCoreState). side c (all_after live (live t a.id).0 (served_in devices))) (sym answered)
        ∙ ap (λ (l : List ℕ). side (replying core (a ∷ devices) (answers_of live t l)) (all_after live t l)) (sym served)))
    go false e rest =
        let served : served_in (a ∷ devices) ≡ served_in devices = rw e refl in
        let first : admits (side core t) a ≡ side (host.reply core a.id status.not_supported) t = rw e refl in
        ap (λ (s : HostSide). fold admits s devices) first
        ∙ (rest (host.reply core a.id status.not_supported) t
        ∙ (ap (λ (c : HostCoreState). side c (all_after live t (served_in devices))) (sym (replying_other core a devices (answers_of live t (served_in devices)) e))
        ∙ ap (λ (l : List ℕ). side (replying core (a ∷ devices) (answers_of live t l)) (all_after live t l)) (sym served)))

-- devices are gone
pub forgets_all : (ids : List ℕ) (core : HostCoreState) (t : TableState) → fold forgets (side core t) ids ≡ side core (all_after remove t ids)
forgets_all [] core t = refl
forgets_all (id ∷ ids) core t = forgets_all ids core (remove t id).0

-- a message that is heard, by what the core answers
pub hears_as : (core next : HostCoreState) (t : TableState) (m : List ℕ) (answer : Result Act EndFault) → host_hear core m ≡ (next, answer) → hears (side core t) m ≡ host_heard (side next t) answer
hears_as core next t m answer e = rw e refl
