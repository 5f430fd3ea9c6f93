-- What a host and its applications do keeps a world orderly.
use Rattle.std.proofs.Common.{◌≡◌, ◌∙◌, refl, sym, ap, subst, ℕ, suc, Bool, true, false, List, [], ◌∷◌}
use Rattle.std.specs.Prelude.{Some, None, Option, fold, if◌then◌else◌, Result, Ok, Err}
use Rattle.std.specs.Option.{option_map_or}
use Rattle.rd_base.specs.declared.journal.Key.{Key}
use Rattle.rd_client.specs.Core.{Outgoing}
use Rattle.rd_core.specs.Core as core
use Rattle.rd_devices.specs.declared.list.Announce.{Announce}
use Rattle.rd_hello.specs.declared.end_fault.EndFault.{EndFault}
use Rattle.rd_host.specs.Core as host
use Rattle.rd_host.specs.Core.{HostCoreState, host_hear}
use Rattle.rd_host.specs.Served.{is_served_type}
use Rattle.rd_host.specs.declared.act.Act.{Act}
use Rattle.rd_host.specs.declared.act.Act.TheVariants as act
use Rattle.rd_base.specs.Statuses as status
use Rattle.rd_irp.specs.declared.op.Op.{Op}
use Rattle.rd_pending.specs.History as call
use Rattle.rd_pending.specs.Table as table
use Rattle.rd_pending.specs.Table.{Fate, TableState, Untaken, awaited, known, submit_refusal, untaken_at}
use Rattle.rd_pending.specs.declared.calls.LiveNo.{LiveNo}
use Rattle.rd_pending.specs.declared.calls.SubmitNo.{SubmitNo}
use Rattle.rd_pending.specs.declared.calls.TakeNo.{TakeNo}
use Rattle.rd_pending.specs.declared.calls.Taken.{Taken}
use Rattle.rd_pending.specs.declared.calls.Target.{Target}
use Rattle.rd_pending.proofs.Effects.{submits}
use Rattle.rd_pending.proofs.Neutral.{channel_kept}
use Rattle.rd_world.specs.Events.{client_sends_first, client_sends_next, comes_of_asking}
use Rattle.rd_world.specs.Hearing.{host_hears, with_client}
use Rattle.rd_deeds.specs.Host.{HostSide, admits, forgets, hears, host_heard, lived, sent_from, side_sends}
use Rattle.rd_deeds.specs.Talk as deed
use Rattle.rd_deeds.specs.Talk.{Deed}
use Rattle.rd_world.specs.World.{Asked, WorldState, client_sends, host_sends, with_deed, with_table}
use Rattle.rd_runs.proofs.Parts.{ended_by}
use Rattle.rd_journals.specs.Orderly.{AreOrdered, Orderly, OrderlyOn}
use Rattle.rd_journals.proofs.OrderlyLemmas.{beside, beside_open}

-- ---- what a host does leaves its channel as it is

lived_table : (s : HostSide) (id : ℕ) (r : TableState × Result ℕ LiveNo) → (lived s id r).table ≡ r.0
lived_table s id (after, life) = refl

admits_same : (s : HostSide) (a : Announce) → ((admits s a).table).channel ≡ (s.table).channel
admits_same s a = by (is_served_type a.kind)
  where
    by : (b : Bool) → ((if b then lived s a.id (table.live s.table a.id) else record s { core = host.reply s.core a.id status.not_supported }).table).channel ≡ (s.table).channel
    by true = ap (λ (t : TableState). t.channel) (lived_table s a.id (table.live s.table a.id)) ∙ channel_kept (call.lives a.id) tt s.table
    by false = refl

all_admitted : (devices : List Announce) (s : HostSide) → ((fold admits s devices).table).channel ≡ (s.table).channel
all_admitted [] s = refl
all_admitted (a ∷ devices) s = all_admitted devices (admits s a) ∙ admits_same s a

all_forgotten : (ids : List ℕ) (s : HostSide) → ((fold forgets s ids).table).channel ≡ (s.table).channel
all_forgotten [] s = refl
all_forgotten (d ∷ ids) s = all_forgotten ids (forgets s d) ∙ channel_kept (call.removes d) tt s.table

heard_same : (s : HostSide) (r : Result Act EndFault) → ((host_heard s r).table).channel ≡ (s.table).channel
heard_same s (Err fault) = refl
heard_same s (Ok act.Nothing) = refl
heard_same s (Ok (act.Announced devices)) = all_admitted devices s
heard_same s (Ok (act.Removed ids)) = all_forgotten ids s
heard_same s (Ok (act.Complete head bytes)) = channel_kept (call.completes head bytes) tt s.table

pub hears_same : (s : HostSide) (m : List ℕ) → ((hears s m).table).channel ≡ (s.table).channel
hears_same s m = let made = host_hear s.core m in heard_same (record s { core = made.0 }) made.1

pub sends_same : (s : HostSide) → ((side_sends s).table).channel ≡ (s.table).channel
sends_same s = by ((s.core).core).outbox
  where
    by : (own : List (List ℕ)) → ((sent_from s own).table).channel ≡ (s.table).channel
    by (m ∷ own) = refl
    by [] = channel_kept call.sends tt s.table

take_outbox : (t : TableState) (n : ℕ) → ((table.take t n).0).outbox ≡ t.outbox
take_outbox t n = go (untaken_at t n) refl
  where
    by_fate : (u : Untaken) → untaken_at t n ≡ Some u → (f : Fate) → u.fate ≡ f → ((table.take t n).0).outbox ≡ t.outbox
    by_fate u e awaited f = rw (e, f) refl
    by_fate u e (known o) f = rw (e, f) refl

    go : (o : Option Untaken) → untaken_at t n ≡ o → ((table.take t n).0).outbox ≡ t.outbox
    go None e = rw e refl
    go (Some u) e = by_fate u e u.fate refl

-- ---- applications

-- a table that differs in neither its channel nor what it is to send
same_table : (w : WorldState) (t : TableState) → t.channel ≡ ((w.side).table).channel → t.outbox ≡ ((w.side).table).outbox → Orderly w → Orderly (with_table w t)
same_table w t channel outbox is =
    subst (λ (x : Option ℕ × List (List ℕ)). AreOrdered w.stations w.deeds w.channels (w.client).channel (w.client).asked ((w.client).core).fault ((w.client).core).outbox x.0 (((w.side).core).core).outbox x.1 (w.to_client).pipe (w.to_host).pipe w.kept)
    (λ i. (sym channel i, sym outbox i)) is

pub hands_out_orderly : (w : WorldState) (a number : ℕ) (t : TableState) (taken : Taken) (next : Option Asked) → table.take (w.side).table number ≡ (t, Ok taken) → Orderly w
    → Orderly (ended_by (with_deed (with_table w t) (deed.takes number)) a taken next)
hands_out_orderly w a number t taken next made is = by next
  where
    same : t ≡ (table.take (w.side).table number).0
    same = ap (λ (r : TableState × Result Taken TakeNo). r.0) (sym made)

    so : Orderly (with_deed (with_table w t) (deed.takes number))
    so = beside (same_table w t (ap (λ (x : TableState). x.channel) same ∙ channel_kept (call.takes number) tt (w.side).table) (ap (λ (x : TableState). x.outbox) same ∙ take_outbox (w.side).table number) is)
        (deed.takes number) (λ d. refl) (λ c. refl) tt

    by : (x : Option Asked) → Orderly (ended_by (with_deed (with_table w t) (deed.takes number)) a taken x)
    by None = so
    by (Some asked) = so

pub accepts_orderly : (w : WorldState) (a : ℕ) (asked : Asked) (named : Target) (t : TableState) (number : ℕ) → table.submit (w.side).table a named asked.op ≡ (t, Ok number) → Orderly w
    → Orderly (comes_of_asking w a asked.op named (t, Ok number))
accepts_orderly w a asked named t number made is = subst (λ (r : TableState × Result ℕ SubmitNo). Orderly (comes_of_asking w a asked.op named r)) made (by (submit_refusal (w.side).table named) refl)
  where
    o : Op
    o = asked.op

    by : (r : Option SubmitNo) → submit_refusal (w.side).table named ≡ r → Orderly (comes_of_asking w a o named (table.submit (w.side).table a named o))
    by (Some cause) e =
        let refused : table.submit (w.side).table a named o ≡ ((w.side).table, Err cause) = rw e refl in
        let both : ◌≡◌ {A = Result ℕ SubmitNo} (Ok number) (Err cause) = ap (λ (r : TableState × Result ℕ SubmitNo). r.1) (sym made ∙ refused) in
        absurd (cc (both))
    by None e =
        let same : table.submit (w.side).table a named o ≡ (table.accept (w.side).table named o, Ok (suc ((w.side).table).count)) = rw e refl in
        let so : Orderly (comes_of_asking w a o named (table.accept (w.side).table named o, Ok (suc ((w.side).table).count))) = beside_open is (submits (w.side).table a named o e).is_open (deed.submits a named o) (λ d. refl) (λ c. refl) tt in
        subst (λ (r : TableState × Result ℕ SubmitNo). Orderly (comes_of_asking w a o named r)) (sym same) so

-- ---- a host reads, and sends

pub hears_orderly : (c : ℕ) (w : WorldState) (m : List ℕ) → OrderlyOn c w → OrderlyOn c (host_hears w m)
hears_orderly c w m (is, opened) =
    let s = hears w.side m in
    let same = hears_same w.side m in
    let so : AreOrdered w.stations (deed.host_reads w.channels m ∷ w.deeds) w.channels (w.client).channel (w.client).asked ((w.client).core).fault ((w.client).core).outbox ((w.side).table).channel ((s.core).core).outbox (s.table).outbox (w.to_client).pipe (w.to_host).pipe w.kept =
    beside_open is opened (deed.host_reads w.channels m) (λ d. refl) (λ x. refl) tt in (
      subst (λ (o : Option ℕ). AreOrdered w.stations (deed.host_reads w.channels m ∷ w.deeds) w.channels (w.client).channel (w.client).asked ((w.client).core).fault ((w.client).core).outbox o ((s.core).core).outbox (s.table).outbox (w.to_client).pipe (w.to_host).pipe w.kept) (sym same) so,
      same ∙ opened,
    )

pub host_sends_orderly : (c : ℕ) (w : WorldState) (m : List ℕ) → OrderlyOn c w → Orderly (host_sends (record w { side = side_sends w.side }) m)
host_sends_orderly c w m (is, opened) =
    let s = side_sends w.side in
    let x = host_sends (record w { side = s }) m in
    let so : AreOrdered w.stations x.deeds w.channels (w.client).channel (w.client).asked ((w.client).core).fault ((w.client).core).outbox ((w.side).table).channel ((s.core).core).outbox (s.table).outbox (x.to_client).pipe (w.to_host).pipe w.kept =
    beside_open is opened (deed.host_writes w.channels m) (λ d. refl) (λ y. refl) tt in
    subst (λ (o : Option ℕ). AreOrdered w.stations x.deeds w.channels (w.client).channel (w.client).asked ((w.client).core).fault ((w.client).core).outbox o ((s.core).core).outbox (s.table).outbox (x.to_client).pipe (w.to_host).pipe w.kept) (sym (sends_same w.side)) so

-- ---- a client sends a message of its own

pub client_sends_orderly : (c : ℕ) (w : WorldState) → OrderlyOn c w → Orderly (client_sends_next w)
client_sends_orderly c w (is, opened) = by ((w.client).core).outbox
  where
    sent : (o : Outgoing) (others : List Outgoing) (answers : Option Key) → Orderly (client_sends (with_client w (record w.client { core = record (w.client).core { outbox = others } })) (option_map_or (λ key. deed.completes key o.message) answers (deed.client_writes w.channels o.message)) o.message)
    sent o others None = beside_open is opened (deed.client_writes w.channels o.message) (λ d. refl) (λ x. refl) tt
    sent o others (Some key) = beside_open is opened (deed.completes key o.message) (λ d. refl) (λ x. refl) tt

    by : (messages : List Outgoing) → let r = core.send_from (w.client).core messages in Orderly (client_sends_first w (record w.client { core = r.0 }, r.1))
    by [] = is
    by (o ∷ others) = sent o others o.answers
