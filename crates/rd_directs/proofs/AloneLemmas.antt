-- Where a request is alone, no job with its completion id is held.
use Rattle.std.proofs.Common.{◌==◌, cond, eq-eqb, eqb-true, arith, Bool, List, [], ap, false, inl, inr, refl, subst, sym, true, ℕ, ◌&&◌, ◌∙◌, ◌<◌, ◌∷◌, ◌≡◌}
use Rattle.std.specs.Prelude.{◌≢◌, Contains, None, Option, Some, filter, length}
use Rattle.std.specs.List.{cons_option}
use Rattle.std.proofs.lemmas.List.Elements.{All-contains}
use Rattle.rd_base.specs.declared.journal.Item.{Item}
use Rattle.rd_base.specs.declared.journal.Item.TheVariants.{Came, Sent}
use Rattle.rd_base.specs.declared.journal.Key.{Key}
use Rattle.rd_drive.specs.declared.plan.Job.{Job}
use Rattle.rd_irp.specs.declared.completion.Reply.{Reply}
use Rattle.rd_irp.specs.declared.request.Request.{Request}
use Rattle.rd_journals.proofs.ClientLemmas.{channel_open}
use Rattle.rd_journals.specs.Jobs.{AreWorking}
use Rattle.rd_journals.specs.Orderly.{Orderly}
use Rattle.rd_station.proofs.Calls.{reached_keeps}
use Rattle.rd_station.proofs.Holding.{in_held}
use Rattle.rd_station.proofs.Keeping.{IsHeld, Keeps, held_at}
use Rattle.rd_station.proofs.Members.{to_contains}
use Rattle.rd_station.proofs.Remembering.{came_named}
use Rattle.rd_station.specs.Memory.{NamesKey}
use Rattle.rd_station.specs.Station.{StationState, held}
use Rattle.rd_deeds.proofs.Journals.{contains_has, has_contains}
use Rattle.rd_deeds.proofs.Telling.{request_within}
use Rattle.rd_declared.specs.Devices.{Declared, device_cuts, device_parked, device_runs}
use Rattle.rd_deeds.specs.Joining.{IsAlone}
use Rattle.rd_deeds.specs.Talk.{Deed, EachAfter, Has, adds, asked, client_read, client_reads, client_writes, completes, host_begins, host_ends, host_reads, host_writes, indices_of, is_request, journal, message_asks_pair, on, removes, request_at, request_in, stores, submits, takes, tells}
use Rattle.rd_world.specs.World.{Kept, WorldState, station_at}
use Rattle.rd_declared.specs.declared.device.SessionDevice.{SessionDevice}
use Rattle.rd_directs.specs.Turns.{NoneHeld}

abbrev Of : Type 0
Of = StationState SessionDevice

index_has : (d id : ℕ) (ms : List (List ℕ)) (index : ℕ) (r : Request) → request_at ms index ≡ Some r → r.device ≡ d → r.completion ≡ id → Has index (indices_of d id ms)
index_has d id [] index r read device same = absurd (cc read)
index_has d id (m ∷ older) index r read device same = by (is_request m) (length (filter is_request older) == index) refl read (λ e. index_has d id older index r e device same)
  where
    n : ℕ
    n = length (filter is_request older)

    pair : request_in m ≡ Some r → message_asks_pair d id m ≡ true
    pair e = rw (e, eq-eqb r.device d device, eq-eqb r.completion id same) refl

    here : (b : Bool) → b ≡ true → index ≡ n → Has index (cond b (n ∷ indices_of d id older) (indices_of d id older))
    here true e at = inl at
    here false e at = absurd (cc e)

    later : (b : Bool) → Has index (indices_of d id older) → Has index (cond b (n ∷ indices_of d id older) (indices_of d id older))
    later true has = inr has
    later false has = has

    by : (a b : Bool) → (n == index) ≡ b → cond (a && b) (request_in m) (request_at older index) ≡ Some r → (request_at older index ≡ Some r → Has index (indices_of d id older))
        → Has index (cond (a && message_asks_pair d id m) (n ∷ indices_of d id older) (indices_of d id older))
    by true true e read rest = here (message_asks_pair d id m) (pair read) (sym (eqb-true n index e))
    by true false e read rest = later (message_asks_pair d id m) (rest read)
    by false b e read rest = rest read

later_has : {A : Type 0} (x : A) (o : Option A) (xs : List A) → Has x xs → Has x (cons_option o xs)
later_has x None xs has = has
later_has x (Some y) xs has = inr has

-- Of two requests on a channel with one pair, if each request is alone when it is read: the earlier one, if its key comes at all, was sent.
sent_before : (all deeds : List Deed) → EachAfter (IsAlone all) deeds → (c i j : ℕ) (q r : Request) → i < j → request_at (client_read c deeds) i ≡ Some q → request_at (client_read c deeds) j ≡ Some r
    → q.device ≡ r.device → q.completion ≡ r.completion → let key : Key = record { channel = c; index = i } in Has (Came key) (journal r.device all) → Has (Sent key) (journal r.device deeds)
sent_before all [] alone c i j q r below first second device same came = absurd (cc first)
sent_before all (client_reads channel m ∷ before) alone c i j q r below first second device same came = by (channel == c) refl first second (λ f g. sent_before all before alone.1 c i j q r below f g device same came)
  where
    older : List (List ℕ)
    older = client_read c before

    WasSent : Type 0
    WasSent = Has (Sent (record { channel = c; index = i })) (journal r.device before)

    -- the later one is read now
    now : channel ≡ c → request_in m ≡ Some r → request_at older i ≡ Some q → WasSent
    now at spelled f =
        subst (λ (n : ℕ). Has (Sent (record { channel = n; index = i })) (journal r.device before)) at
        (alone.0 r i spelled (subst (λ (n : ℕ). Has i (asked n r.device r.completion before)) (sym at) (index_has r.device r.completion older i q f device same))
        (subst (λ (n : ℕ). Has (Came (record { channel = n; index = i })) (journal r.device all)) (sym at) came))

    go : (a x y : Bool) → (length (filter is_request older) == i) ≡ x → (length (filter is_request older) == j) ≡ y → channel ≡ c
        → cond (a && x) (request_in m) (request_at older i) ≡ Some q → cond (a && y) (request_in m) (request_at older j) ≡ Some r → (request_at older i ≡ Some q → request_at older j ≡ Some r → WasSent) → WasSent
    go true true true e f at is_q is_r rest = absurd (omega (arith, below, eqb-true (length (filter is_request older)) i e, eqb-true (length (filter is_request older)) j f))
    go true true false e f at is_q is_r rest = absurd (omega (arith, below, eqb-true (length (filter is_request older)) i e, request_within j r older is_r))
    go true false true e f at is_q is_r rest = now at is_r is_q
    go true false false e f at is_q is_r rest = rest is_q is_r
    go false x y e f at is_q is_r rest = rest is_q is_r

    by : (b : Bool) → (channel == c) ≡ b → request_at (cons_option (cond b (Some m) None) older) i ≡ Some q → request_at (cons_option (cond b (Some m) None) older) j ≡ Some r
        → (request_at older i ≡ Some q → request_at older j ≡ Some r → WasSent) → WasSent
    by true e f g rest = go (is_request m) (length (filter is_request older) == i) (length (filter is_request older) == j) refl refl (eqb-true channel c e) f g rest
    by false e f g rest = rest f g
sent_before all (stores d item ∷ before) alone c i j q r below first second device same came =
    later_has (Sent (record { channel = c; index = i })) (on r.device d item) (journal r.device before) (sent_before all before alone.1 c i j q r below first second device same came)
sent_before all (host_begins channel ∷ before) alone c i j q r below first second device same came = sent_before all before alone.1 c i j q r below first second device same came
sent_before all (host_ends channel ∷ before) alone c i j q r below first second device same came = sent_before all before alone.1 c i j q r below first second device same came
sent_before all (removes d ∷ before) alone c i j q r below first second device same came = sent_before all before alone.1 c i j q r below first second device same came
sent_before all (adds d ∷ before) alone c i j q r below first second device same came = sent_before all before alone.1 c i j q r below first second device same came
sent_before all (submits x named o ∷ before) alone c i j q r below first second device same came = sent_before all before alone.1 c i j q r below first second device same came
sent_before all (takes n ∷ before) alone c i j q r below first second device same came = sent_before all before alone.1 c i j q r below first second device same came
sent_before all (tells n ∷ before) alone c i j q r below first second device same came = sent_before all before alone.1 c i j q r below first second device same came
sent_before all (host_writes channel m ∷ before) alone c i j q r below first second device same came = sent_before all before alone.1 c i j q r below first second device same came
sent_before all (host_reads channel m ∷ before) alone c i j q r below first second device same came = sent_before all before alone.1 c i j q r below first second device same came
sent_before all (client_writes channel m ∷ before) alone c i j q r below first second device same came = sent_before all before alone.1 c i j q r below first second device same came
sent_before all (completes key m ∷ before) alone c i j q r below first second device same came = sent_before all before alone.1 c i j q r below first second device same came

held_unsent : (removed : Bool) (key : Key) (j : List Item) → IsHeld removed key j → Contains j (Sent key) → ⊥
held_unsent true key j is has = All-contains (λ (x : Item). x ≢ Sent key) j (Sent key) is.unrun.unsent has refl
held_unsent false key j is has = All-contains (λ (x : Item). x ≢ Sent key) j (Sent key) is.unrun.unsent has refl

unsent : (c : ℕ) (s : Of) → Keeps device_parked c s → (x : Key × ℕ) → Has x (held s) → Contains s.journal (Sent x.0) → ⊥
unsent c s keeps = in_held (λ (x : Key × ℕ). Contains s.journal (Sent x.0) → ⊥) s
    (λ job has sent. All-contains (λ (y : Item). y ≢ Sent job.key) s.journal (Sent job.key) (keeps.waiting job has).1.unrun.unsent sent refl)
    (λ t has. held_unsent t.removed t.key s.journal (keeps.taken t has).1)
    (λ p has sent. All-contains (λ (y : Item). y ≢ Sent p.key) s.journal (Sent p.key) (keeps.parked_run p has).1.unsent sent refl)
    (λ y has sent. All-contains (λ (z : Item). z ≢ Sent y.key) s.journal (Sent y.key) (keeps.ready_done y has).1.run.unsent sent refl)

module _ (Fine : Request → Type 0) (Good : Reply → Type 0) (devices : List (ℕ × Declared)) (w : WorldState) (c : ℕ) (ordered : Orderly w) (opened : ((w.side).table).channel ≡ Some c) (works : AreWorking Fine Good devices w.stations w.hands w.deeds) where
  -- the request of what is held
  abbrev IsOf : ℕ → Key × ℕ → Type 0
  IsOf d x = (r : Request) × (request_at (client_read (x.0).channel w.deeds) (x.0).index ≡ Some r) × (r.device ≡ d) × (x.1 ≡ r.completion)

  held_of : (d : ℕ) (s : Of) → station_at w d ≡ Some s → (x : Key × ℕ) → Has x (held s) → IsOf d x
  held_of d s there = in_held (IsOf d) s
      (λ job has. let o = works.waiting d s there job has in (o.request, o.read, o.device, ap (λ (j : Job). j.completion) o.job_is))
      (λ t has. let o = (works.owned d s there).taken t has in (o.request, o.read, o.device, o.id))
      (λ p has. let o = ((works.owned d s there).parked p has).of in (o.request, o.read, o.device, o.id))
      (λ y has. let o = ((works.owned d s there).ready y has).0.of in (o.request, o.read, o.device, o.id))

  -- What is held has a key of the channel that is open: its request was read, and it came, but wasn't sent.
  record IsUnsent (d : ℕ) (j : List Item) (x : Key × ℕ) : Type 0 where
    channel : (x.0).channel ≡ w.channels
    names : NamesKey j x.0
    request : Request
    read : request_at (client_read w.channels w.deeds) (x.0).index ≡ Some request
    device : request.device ≡ d
    id : request.completion ≡ x.1
    came : Has (Came (record { channel = w.channels; index = (x.0).index })) (journal d w.deeds)
    unsent : Has (Sent (record { channel = w.channels; index = (x.0).index })) (journal d w.deeds) → ⊥

  is_unsent : (d : ℕ) (s : Of) → station_at w d ≡ Some s → (x : Key × ℕ) → Has x (held s) → IsUnsent d s.journal x
  is_unsent d s there x has =
      let on = (ordered.held).on d s there in
      let (channel, keeps) = reached_keeps device_runs device_parked device_cuts s on.sound.reached in
      let (q, read, device, id) = held_of d s there x has in
      let (last, is, with_last) = on.sound.remembers.channel x (to_contains (held s) x has) in
      let at : (x.0).channel ≡ w.channels = elim (on.last last is) [
        | inl here ↦ with_last ∙ here ∙ channel_open w c opened
        | inr idle ↦ absurd (in_held (λ y. ⊥) s (λ y h. subst (Has y) idle.0 h) (λ y h. subst (Has y) idle.1 h) (λ y h. subst (Has y) idle.2 h) (λ y h. subst (Has y) idle.3 h) x has)
      ] in
      let told = (ordered.held).tied d s there in
      let key : Key = record { channel = w.channels; index = (x.0).index } in
      let is_key : x.0 ≡ key = λ i. record { channel = at i; index = (x.0).index } in
      let came : Contains s.journal (Came x.0) = (held_at device_parked channel s keeps x has).1 in
      record {
        channel = at;
        names = came_named s.journal x.0 came;
        request = q;
        read = ap (λ (n : ℕ). request_at (client_read n w.deeds) (x.0).index) (sym at) ∙ read;
        device = device;
        id = sym id;
        came = contains_has (Came key) (journal d w.deeds) (subst (λ (js : List Item). Contains js (Came key)) (sym told) (subst (λ (k : Key). Contains s.journal (Came k)) is_key came));
        unsent = λ sent.
            unsent channel s keeps x has (subst (λ (k : Key). Contains s.journal (Sent k)) (sym is_key) (subst (λ (js : List Item). Contains js (Sent key)) told (has_contains (Sent key) (journal d w.deeds) sent)));
      }

  pub none_held : (m : List ℕ) → IsAlone (client_reads w.channels m ∷ w.deeds) w.deeds (client_reads w.channels m) → (r : Request) → request_in m ≡ Some r → NoneHeld w r.device r.completion
  none_held m alone r spelled s there x has same =
      let u = is_unsent r.device s there x has in
      u.unsent (alone r (x.0).index spelled (index_has r.device r.completion (client_read w.channels w.deeds) (x.0).index u.request u.read u.device (u.id ∙ same)) u.came)

  -- the same of a job that is kept back, whose key is above all that are held
  pub none_met : (k : Kept) → w.kept ≡ Some k → EachAfter (IsAlone w.deeds) w.deeds → NoneHeld w k.device k.job.completion
  none_met k kept alone s there x has same =
      let next = ordered.kept_next k kept in
      let r : Request = next.request in
      let u = is_unsent k.device s there x has in
      let id : u.request.completion ≡ r.completion = u.id ∙ same ∙ ap (λ (j : Job). j.completion) next.job_is in
      let below : (x.0).index < k.job.key.index = elim (next.above k.device s there x.0 u.names) [
        | inl earlier ↦ absurd (omega (arith, earlier, u.channel, next.channel))
        | inr here ↦ here.1
      ] in
      u.unsent (subst (λ (d : ℕ). Has (Sent (record { channel = w.channels; index = (x.0).index })) (journal d w.deeds)) (sym next.device_is)
      (sent_before w.deeds w.deeds alone w.channels (x.0).index k.job.key.index u.request r below u.read next.read (u.device ∙ next.device_is) id
      (subst (λ (d : ℕ). Has (Came (record { channel = w.channels; index = (x.0).index })) (journal d w.deeds)) next.device_is u.came)))

-- where a job is kept back, a channel is open
pub kept_open : (w : WorldState) (k : Kept) → Orderly w → w.kept ≡ Some k → (c : ℕ) × (((w.side).table).channel ≡ Some c)
kept_open w k ordered kept = by ((w.side).table).channel refl
  where
    by : (o : Option ℕ) → ((w.side).table).channel ≡ o → (c : ℕ) × (((w.side).table).channel ≡ Some c)
    by None e = let free : w.kept ≡ None = (ordered.shut e).kept_none in let none : None ≡ Some k = sym free ∙ kept in absurd (cc none)
    by (Some c) e = (c, e)
