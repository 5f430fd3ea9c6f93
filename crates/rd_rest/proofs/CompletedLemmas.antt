-- Each request that was read on the open channel was answered, or waits in its device, where nothing can happen by itself and no job is kept back.
use Rattle.std.proofs.Common.{◌≡◌, ◌⊎◌, ◌∙◌, refl, sym, ap, subst, inl, inr, ℕ, ◌≤◌, ◌==◌, ◌&&◌, ◌||◌, not, Bool, true, false, cond, arith, List, [], ◌∷◌, ◌++◌, length, map, reverse, Some, None, Option, eqb-true, eq-eqb}
use Rattle.std.specs.Prelude.{Contains, filter, filter_map}
use Rattle.std.specs.List.{cons_option, flat_map, list_any}
use Rattle.std.specs.Map.{lookup}
use Rattle.std.specs.Ordering.{nat_cmp}
use Rattle.std.specs.BTreeMap.{is_at}
use Rattle.std.specs.Option.{option_map_or}
use Rattle.std.proofs.lemmas.List.{reverse-append}
use Rattle.rd_answered.proofs.SessionLemmas.{reached_answered}
use Rattle.rd_answered.specs.Refusing.{DeclareInRoom}
use Rattle.rd_base.specs.declared.journal.Cause.TheVariants.{Dropped, Removed}
use Rattle.rd_base.specs.declared.journal.Item.{Item}
use Rattle.rd_base.specs.declared.journal.Item.TheVariants.{Came, Cancelled, Cut, Ran, Sent}
use Rattle.rd_base.specs.declared.journal.Key.{Key}
use Rattle.rd_answered.specs.DirectsTurns.{kept_at, never, said}
use Rattle.rd_drive.specs.Device.{Parked}
use Rattle.rd_drive.specs.Replies.{last_state_by}
use Rattle.rd_drive.specs.declared.plan.Job.{Job}
use Rattle.rd_deeds.proofs.Messages.{head_read}
use Rattle.rd_irp.specs.declared.completion.Head.{Head}
use Rattle.rd_irp.specs.declared.request.Request.{Request}
use Rattle.rd_answered.proofs.JournalsClientLemmas.{channel_open}
use Rattle.rd_answered.proofs.JournalsDeclaredLemmas.{bounded_fit}
use Rattle.rd_answered.proofs.JournalsRunLemmas.{reached_orderly}
use Rattle.rd_answered.specs.JournalsOrderly.{Orderly, current}
use Rattle.rd_pending.proofs.MapLemmas.{same_key}
use Rattle.rd_rest.proofs.OverLemmas.{reached_over}
use Rattle.rd_rest.proofs.RestLemmas.{rest_at}
use Rattle.rd_rest.proofs.TurnsLemmas.{reached_in_turn}
use Rattle.rd_answered.proofs.RunsHostLemmas.{host_channel}
use Rattle.rd_answered.proofs.RunsResting.{quiet}
use Rattle.rd_answered.proofs.RunsTogether.{known}
use Rattle.rd_answered.specs.RunsMoves.{Reached}
use Rattle.rd_answered.specs.RunsPremises.{RunPremises}
use Rattle.rd_script.specs.declared.line.NumberedLine.{NumberedLine}
use Rattle.rd_station.proofs.Calls.{reached_keeps}
use Rattle.rd_station.proofs.Holding.{in_held}
use Rattle.rd_station.proofs.Keeping.{Keeps}
use Rattle.rd_station.proofs.Members.{filter_has, has_left, has_map, has_right}
use Rattle.rd_station.proofs.Members.{same_key as one_key}
use Rattle.rd_station.proofs.Remembering.{any_has, came_named}
use Rattle.rd_station.specs.Memory.{NamesKey}
use Rattle.rd_station.specs.Station.{StationState, held}
use Rattle.rd_station.specs.Tied.{as_parked}
use Rattle.rd_station.specs.declared.held.ParkedJob.{ParkedJob}
use Rattle.rd_told.proofs.PrintedLemmas.{device_left}
use Rattle.rd_deeds.proofs.Journals.{contains_has, has_contains}
use Rattle.rd_deeds.proofs.Telling.{option_cases, request_later}
use Rattle.rd_world.specs.Acts.{before_end, waiting_in, waiting_keys}
use Rattle.rd_declared.specs.Devices.{Declared, device_cut, device_cuts, device_parked, device_runs, device_step}
use Rattle.rd_declared.specs.Declaring.{bare_lines, declared_devices}
use Rattle.rd_world.specs.Recording.{request_of}
use Rattle.rd_world.specs.Run.{choices}
use Rattle.rd_world.specs.Session.{replies_in}
use Rattle.rd_deeds.specs.Talk as deed
use Rattle.rd_deeds.specs.Talk.{Deed, EachAfter, Has, answered, asked, client_read, client_reads, completes, head_in, indices_of, is_request, journal, message_asks_pair, message_has_pair, open_channel, request_at, request_in}
use Rattle.rd_deeds.specs.Told.{Answers, AreAnswered, Replies, came, came_as, is_of_device, requests_to, sent, sent_at, told}
use Rattle.rd_world.specs.World.{WorldState, station_at}
use Rattle.rd_declared.specs.declared.device.SessionDevice.{SessionDevice}

abbrev Of : Type 0
Of = StationState SessionDevice

-- ---- lists

both_true : (a b : Bool) → (a && b) ≡ true → (a ≡ true) × (b ≡ true)
both_true true true e = (refl, refl)
both_true true false e = absurd (cc e)
both_true false b e = absurd (cc e)

option_more : {A : Type 0} (x : A) (o : Option A) (xs : List A) → Has x xs → Has x (cons_option o xs)
option_more x None xs has = has
option_more x (Some y) xs has = inr has

pub any_true : {A : Type 0} (p : A → Bool) (xs : List A) → list_any p xs ≡ true → (x : A) × Has x xs × (p x ≡ true)
any_true p [] e = absurd (cc e)
any_true {A} p (y ∷ xs) e = by (p y) refl e (any_true p xs)
  where
    by : (b : Bool) → p y ≡ b → (b || list_any p xs) ≡ true → (list_any p xs ≡ true → (x : A) × Has x xs × (p x ≡ true)) → (x : A) × Has x (y ∷ xs) × (p x ≡ true)
    by true here e rest = (y, inl refl, here)
    by false here e rest = let (x, has, is) = rest e in (x, inr has, is)

mapped_has : {A B : Type 0} (f : A → Option B) (x : A) (y : B) (xs : List A) → f x ≡ Some y → Has x xs → Has y (filter_map f xs)
mapped_has f x y [] e has = absurd has
mapped_has f x y (z ∷ xs) e (inl here) = subst (λ (o : Option _). Has y (cons_option o (filter_map f xs))) (sym e ∙ ap f here) (inl refl)
mapped_has f x y (z ∷ xs) e (inr later) = option_more y (f z) (filter_map f xs) (mapped_has f x y xs e later)

filter_keeps : {A : Type 0} (p : A → Bool) (x : A) (xs : List A) → p x ≡ true → Has x xs → Has x (filter p xs)
filter_keeps p x [] e has = absurd has
filter_keeps p x (y ∷ xs) e (inl here) = subst (λ (b : Bool). Has x (cond b (y ∷ filter p xs) (filter p xs))) (sym e ∙ ap p here) (inl here)
filter_keeps {A} p x (y ∷ xs) e (inr later) = by (p y) (filter_keeps p x xs e later)
  where
    by : (b : Bool) → Has x (filter p xs) → Has x (cond b (y ∷ filter p xs) (filter p xs))
    by true has = inr has
    by false has = has

pub flat_has : {A B : Type 0} (f : A → List B) (x : A) (y : B) (xs : List A) → Has x xs → Has y (f x) → Has y (flat_map f xs)
flat_has f x y [] has among = absurd has
flat_has f x y (z ∷ xs) (inl here) among = has_left y (f z) (flat_map f xs) (subst (λ k. Has y (f k)) here among)
flat_has f x y (z ∷ xs) (inr later) among = has_right y (f z) (flat_map f xs) (flat_has f x y xs later among)

pub entry_has : {A : Type 0} (es : List (ℕ × A)) (d : ℕ) (x : A) → lookup (is_at (nat_cmp d)) es ≡ Some x → Has (d, x) es
entry_has [] d x at = absurd (cc at)
entry_has {A} (e ∷ es) d x at = by (is_at (nat_cmp d) e.0) refl at (entry_has es d x)
  where
    by : (b : Bool) → is_at (nat_cmp d) e.0 ≡ b → cond b (Some e.1) (lookup (is_at (nat_cmp d)) es) ≡ Some x → (lookup (is_at (nat_cmp d)) es ≡ Some x → Has (d, x) es) → Has (d, x) (e ∷ es)
    by true here found rest = let own : e.1 ≡ x = cc found in inl (λ i. (same_key d e.0 here i, sym own i))
    by false here found rest = inr (rest found)

-- ---- what is told was read, and answers its pair

told_answered : (replies : Replies) (deeds : List Deed) → EachAfter (Answers replies) deeds → (c d index : ℕ) → Has index (told c d deeds)
    → (r : Request) × (request_at (client_read c deeds) index ≡ Some r) × Has index (answered c d r.completion deeds)
told_answered replies [] each c d index has = absurd has
told_answered replies (completes key m ∷ before) each c d index has =
    elim (option_cases (key.channel == c && is_of_device d m) index key.index (told c d before) has) [
      | inl (test, same) ↦
          let both = both_true (key.channel == c) (is_of_device d m) test in
          let (r, reply, read, done, is) = each.0 in
          let h : Head = record { device = r.device; completion = r.completion; status = reply.status } in
          let is_head : head_in m ≡ Some h = rw (head_read h m done.head).1 refl in
          let of_device : (r.device == d) ≡ true = sym (ap (λ (o : Option Head). option_map_or (λ (x : Head). x.device == d) o false) is_head) ∙ both.1 in
          let pair : message_has_pair d r.completion m ≡ true =
          ap (λ (o : Option Head). option_map_or (λ (x : Head). x.device == d && x.completion == r.completion) o false) is_head
          ∙ ap (λ (b : Bool). b && r.completion == r.completion) of_device ∙ eq-eqb r.completion r.completion refl in
          let c_is : key.channel ≡ c = eqb-true key.channel c both.0 in (
            r,
            subst (λ (x : ℕ). request_at (client_read x before) index ≡ Some r) c_is (subst (λ (x : ℕ). request_at (client_read key.channel before) x ≡ Some r) (sym same) read),
            rw (both.0, pair) (inl same),
          )
      | inr later ↦
          let (r, read, is) = told_answered replies before each.1 c d index later in
          (r, read, option_more index (deed.answer_to c d r.completion (completes key m)) (answered c d r.completion before) is)
    ]
told_answered replies (client_reads channel m ∷ before) each c d index has =
    let (r, read, is) = told_answered replies before each.1 c d index has in (r, request_later (channel == c) m r (client_read c before) index read, is)
told_answered replies (deed.host_begins channel ∷ before) each c d index has = told_answered replies before each.1 c d index has
told_answered replies (deed.host_ends channel ∷ before) each c d index has = told_answered replies before each.1 c d index has
told_answered replies (deed.removes device ∷ before) each c d index has = told_answered replies before each.1 c d index has
told_answered replies (deed.adds device ∷ before) each c d index has = told_answered replies before each.1 c d index has
told_answered replies (deed.submits x named o ∷ before) each c d index has = told_answered replies before each.1 c d index has
told_answered replies (deed.takes n ∷ before) each c d index has = told_answered replies before each.1 c d index has
told_answered replies (deed.tells n ∷ before) each c d index has = told_answered replies before each.1 c d index has
told_answered replies (deed.host_writes channel m ∷ before) each c d index has = told_answered replies before each.1 c d index has
told_answered replies (deed.host_reads channel m ∷ before) each c d index has = told_answered replies before each.1 c d index has
told_answered replies (deed.client_writes channel m ∷ before) each c d index has = told_answered replies before each.1 c d index has
told_answered replies (deed.stores device item ∷ before) each c d index has = told_answered replies before each.1 c d index has

-- ---- what was asked was read

record IsAsked (d id : ℕ) (ms : List (List ℕ)) (index : ℕ) : Type 0 where
  request : Request
  read : request_at ms index ≡ Some request
  device : request.device ≡ d
  id_is : request.completion ≡ id
  among : Has index (requests_to d ms)

asked_read : (d id : ℕ) (ms : List (List ℕ)) (index : ℕ) → Has index (indices_of d id ms) → IsAsked d id ms index
asked_read d id [] index has = absurd has
asked_read d id (m ∷ older) index has = by (is_request m) (message_asks_pair d id m) refl refl has (asked_read d id older index)
  where
    n : ℕ
    n = length (filter is_request older)

    kept : (b : Bool) → Has index (requests_to d older) → Has index (cond b (n ∷ requests_to d older) (requests_to d older))
    kept true has = inr has
    kept false has = has

    later : IsAsked d id older index → IsAsked d id (m ∷ older) index
    later is = record {
      request = is.request;
      read = request_later true m is.request older index is.read;
      device = is.device;
      id_is = is.id_is;
      among = kept (is_request m && option_map_or (λ (r : Request). r.device == d) (request_in m) false) is.among;
    }

    spelled : (o : Option Request) → request_in m ≡ o → option_map_or (λ (r : Request). r.device == d && r.completion == id) o false ≡ true → is_request m ≡ true → index ≡ n → IsAsked d id (m ∷ older) index
    spelled None e test is at = absurd (cc test)
    spelled (Some r) e test is at =
        let both = both_true (r.device == d) (r.completion == id) test in
        let here : (n == index) ≡ true = eq-eqb n index (sym at) in
        let to : option_map_or (λ (q : Request). q.device == d) (request_in m) false ≡ true = ap (λ (o : Option Request). option_map_or (λ (q : Request). q.device == d) o false) e ∙ both.0 in
        record {
          request = r;
          read = rw (is, here) e;
          device = eqb-true r.device d both.0;
          id_is = eqb-true r.completion id both.1;
          among = rw (is, to) (inl at);
        }

    by : (b p : Bool) → is_request m ≡ b → message_asks_pair d id m ≡ p → Has index (cond (b && p) (n ∷ indices_of d id older) (indices_of d id older))
        → (Has index (indices_of d id older) → IsAsked d id older index) → IsAsked d id (m ∷ older) index
    by true true e f (inl at) rest = spelled (request_in m) refl f e at
    by true true e f (inr more) rest = later (rest more)
    by true false e f has rest = later (rest has)
    by false p e f has rest = later (rest has)

-- ---- journals

came_in : (c index : ℕ) (items : List Item) → came c items index ≡ true → Has (Came (record { channel = c; index = index })) items
came_in c index items e = let (x, has, is) = any_true (came_as c index) items e in by x has is
  where
    by : (x : Item) → Has x items → came_as c index x ≡ true → Has (Came (record { channel = c; index = index })) items
    by (Came key) has is =
        let same : key ≡ record { channel = c; index = index } = one_key key (record { channel = c; index = index }) is in
        subst (λ (k : Key). Has (Came k) items) same has
    by (Ran key moment starved parked) has is = absurd (cc is)
    by (Cancelled key) has is = absurd (cc is)
    by (Sent key) has is = absurd (cc is)
    by (Cut cause) has is = absurd (cc is)

-- a journal's newest entry says that a channel's end cut the device off, or the journal is as it was before any end
pub end_cases : (items : List Item) → ((earlier : List Item) × (items ≡ Cut Dropped ∷ earlier)) ⊎ (before_end items ≡ items)
end_cases [] = inr refl
end_cases (Cut Dropped ∷ earlier) = inl (earlier, refl)
end_cases (Cut Removed ∷ earlier) = inr refl
end_cases (Came key ∷ earlier) = inr refl
end_cases (Ran key moment starved parked ∷ earlier) = inr refl
end_cases (Cancelled key ∷ earlier) = inr refl
end_cases (Sent key ∷ earlier) = inr refl

module _ (lines : List NumberedLine) (starves : Key → Bool) (premises : RunPremises lines) (w : WorldState) (reached : Reached lines starves w) (none : choices w ≡ [])
    (is : open_channel w.deeds ≡ Some w.channels) where
  abbrev pub devices : List (ℕ × Declared)
  devices = declared_devices (bare_lines lines)

  pub ordered : Orderly w
  ordered = reached_orderly lines starves w (bounded_fit lines premises.bounded) reached

  pub opened : ((w.side).table).channel ≡ Some w.channels
  opened = host_channel w.side w.channels w.deeds ((known lines starves premises w reached).stands).host ∙ is

  pub keeps_at : (d : ℕ) (s : Of) → station_at w d ≡ Some s → (c : ℕ) × Keeps device_parked c s
  keeps_at d s there = reached_keeps device_runs device_parked device_cuts s ((ordered.held).on d s there).sound.reached

  -- What a journal names of the open channel waits in the device, or was sent.
  pub named_waits : (d : ℕ) (s : Of) → station_at w d ≡ Some s → (key : Key) → NamesKey s.journal key → key.channel ≡ w.channels → ((p : ParkedJob) × Has p s.parked × (p.key ≡ key)) ⊎ Contains s.journal (Sent key)
  named_waits d s there key names here =
      let on = (ordered.held).on d s there in
      let rest = rest_at lines starves premises w reached none d s there in
      elim (on.sound.remembers.known key names) [
        | inl known ↦ elim known [
          | inl any ↦
              let (x, has, same) = any_has (λ (other : Key × ℕ). other.0 ≡ key) (held s) any in
              inl (in_held (λ (y : Key × ℕ). (y.0 ≡ key) → (p : ParkedJob) × Has p s.parked × (p.key ≡ key)) s
              (λ job among e. absurd (subst (λ (js : List Job). Has job js) rest.waiting among))
              (λ t among e. absurd (subst (λ (ts : List _). Has t ts) rest.taken among))
              (λ p among e. (p, among, e))
              (λ y among e. absurd (subst (λ (ys : List _). Has y ys) rest.ready among)) x has same)
          | inr sent ↦ inr sent
        ]
        | inr (c, forgotten, low) ↦ absurd (omega (arith, on.forgotten c forgotten, low, here, channel_open w w.channels opened))
      ]

  -- Where a journal names a key of the open channel, no channel ended since.
  pub not_over : (d : ℕ) (s : Of) → station_at w d ≡ Some s → (key : Key) → NamesKey s.journal key → key.channel ≡ w.channels → before_end (journal d w.deeds) ≡ journal d w.deeds
  not_over d s there key names here = elim (end_cases (journal d w.deeds)) [
    | inl (earlier, e) ↦
        let closes : s.journal ≡ reverse earlier ++ Cut Dropped ∷ [] = sym ((ordered.held).tied d s there) ∙ ap reverse e ∙ reverse-append (Cut Dropped ∷ []) earlier in
        let low = reached_over lines starves (bounded_fit lines premises.bounded) w reached d s there (reverse earlier) closes key names in
        let now : current (open_channel w.deeds) w.channels ≡ w.channels = ap (λ (o : Option ℕ). current o w.channels) is in
        absurd (omega (arith, low, now, here))
    | inr same ↦ same
  ]

  -- What waits at a device's station is what waits in the device by its journal.
  pub waits_as : (d : ℕ) (s : Of) (there : station_at w d ≡ Some s) → before_end (journal d w.deeds) ≡ journal d w.deeds
      → (x : Declared) × (lookup (is_at (nat_cmp d)) devices ≡ Some x) × (waiting_in w.deeds (d, x) ≡ map as_parked s.parked)
  waits_as d s there same =
      let (x, at, left) = device_left lines starves premises w reached d s there in
      let keeps = (keeps_at d s there).1 in
      (x, at, ap (λ (j : List Item). device_parked (last_state_by device_step device_cut (request_of w.deeds) x.state (reverse j))) same ∙ ap device_parked (sym left) ∙ sym keeps.parked)

  pub parked_waits : (d : ℕ) (s : Of) → station_at w d ≡ Some s → (p : ParkedJob) → Has p s.parked → before_end (journal d w.deeds) ≡ journal d w.deeds → Has p.key (waiting_keys devices w.deeds)
  parked_waits d s there p has same =
      let (x, at, waits) = waits_as d s there same in
      let among : Has (as_parked p) (waiting_in w.deeds (d, x)) = subst (Has (as_parked p)) (sym waits) (has_map as_parked p s.parked has) in
      has_map (λ (q : Parked). q.key) (as_parked p) (flat_map (waiting_in w.deeds) devices) (flat_has (waiting_in w.deeds) (d, x) (as_parked p) devices (entry_has devices d x at) among)

  module _ (writable : DeclareInRoom lines) (few : length lines ≤ 1000000) (kept : w.kept ≡ None) (fine : ((w.client).core).fault ≡ None) where
    abbrev c : ℕ
    c = w.channels

    answers : AreAnswered (replies_in devices w.deeds) w.deeds
    answers = reached_answered lines starves premises few w reached writable

    module _ (d id index : ℕ) (has : Has index (asked c d id w.deeds)) where
      abbrev pub key : Key
      key = record { channel = c; index = index }

      a : IsAsked d id (client_read c w.deeds) index
      a = asked_read d id (client_read c w.deeds) index has

      from_told : Has index (told c d w.deeds) → Has index (answered c d id w.deeds)
      from_told among =
          let (r, read, is_answered) = told_answered (replies_in devices w.deeds) w.deeds answers.answers c d index among in
          let both : Some r ≡ Some a.request = sym read ∙ a.read in
          let same : r ≡ a.request = cc in
          subst (λ (i : ℕ). Has index (answered c d i w.deeds)) (ap (λ (q : Request). q.completion) same ∙ a.id_is) is_answered

      from_sent : Has (Sent key) (journal d w.deeds) → Has index (answered c d id w.deeds)
      from_sent sent_it =
          let among : Has index (sent c (journal d w.deeds)) = mapped_has (sent_at c) (Sent key) index (journal d w.deeds) (ap (λ (b : Bool). cond b (Some index) None) (eq-eqb c c refl)) sent_it in
          from_told (filter_has (came c (journal d w.deeds)) index (told c d w.deeds) (subst (Has index) (sym (answers.sent_in_order c d)) among)).0

      from_line : came c (journal d w.deeds) index ≡ false → Has index (answered c d id w.deeds)
      from_line off =
          let turn = (reached_in_turn lines starves premises writable few w reached).at c d in
          let empty = (quiet w none).client_sends in
          let line : cons_option (kept_at c d w.kept) (said c d ((w.client).core).outbox (told c d w.deeds)) ≡ told c d w.deeds = λ i. cons_option (kept_at c d (kept i)) (said c d (empty i) (told c d w.deeds)) in
          let all : never c (journal d w.deeds) (requests_to d (client_read c w.deeds)) ≡ never c (journal d w.deeds) (told c d w.deeds) =
          turn.stands ∙ ap (λ (xs : List ℕ). xs ++ never c (journal d w.deeds) (cons_option (kept_at c d w.kept) (said c d ((w.client).core).outbox (told c d w.deeds)))) (turn.all fine opened)
          ∙ ap (never c (journal d w.deeds)) line in
          let isnt : not (came c (journal d w.deeds) index) ≡ true = ap not off in
          from_told (filter_has (λ (i : ℕ). not (came c (journal d w.deeds) i)) index (told c d w.deeds)
          (subst (Has index) all (filter_keeps (λ (i : ℕ). not (came c (journal d w.deeds) i)) index (requests_to d (client_read c w.deeds)) isnt a.among))).0

      at_station : Has (Came key) (journal d w.deeds) → (o : Option Of) → station_at w d ≡ o → Has index (answered c d id w.deeds) ⊎ Has key (waiting_keys devices w.deeds)
      at_station came_it None there = absurd (subst (Has (Came key)) ((ordered.held).none d there) came_it)
      at_station came_it (Some s) there =
          let told_so : reverse (journal d w.deeds) ≡ s.journal = (ordered.held).tied d s there in
          let names : NamesKey s.journal key = came_named s.journal key (subst (λ (j : List Item). Contains j (Came key)) told_so (has_contains (Came key) (journal d w.deeds) came_it)) in
          elim (named_waits d s there key names refl) [
            | inl (p, among, same) ↦ inr (subst (λ (k : Key). Has k (waiting_keys devices w.deeds)) same (parked_waits d s there p among (not_over d s there key names refl)))
            | inr sent_it ↦ inl (from_sent (contains_has (Sent key) (journal d w.deeds) (subst (λ (j : List Item). Contains j (Sent key)) (sym told_so) sent_it)))
          ]

      pub completed : Has index (answered c d id w.deeds) ⊎ Has key (waiting_keys devices w.deeds)
      completed = by (came c (journal d w.deeds) index) refl
        where
          by : (b : Bool) → came c (journal d w.deeds) index ≡ b → Has index (answered c d id w.deeds) ⊎ Has key (waiting_keys devices w.deeds)
          by true e = at_station (came_in c index (journal d w.deeds) e) (station_at w d) refl
          by false e = inl (from_line e)
