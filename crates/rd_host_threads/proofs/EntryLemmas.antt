-- Which calls of a front's history a host makes, by the calls of each pass; and what was heard and handed out by them.
use Rattle.std.proofs.Common.{◌≡◌, ◌≢◌, ◌∙◌, ◌+◌, ◌<◌, ◌≤◌, ◌⊎◌, ℕ, suc, Bool, true, false, cond, List, [], ◌∷◌, ◌++◌, length, All, Some, inl, inr, ap, sym, subst, refl, append_assoc, arith, eq-eqb, eqb-true}
use Rattle.std.proofs.lemmas.Bool.{cases_Bool, cases_eq}
use Rattle.std.specs.List.{AllByRecursion}
use Rattle.std.specs.Prelude.{◌==◌, MatchBool, if◌then◌else◌}
use Rattle.rd_carry.specs.Incoming.{IncomingState}
use Rattle.rd_host_channel.proofs.BackLemmas.{step_back}
use Rattle.rd_host_channel.specs.Calls.{AllAskFor, AllGiveBack, AsksFor, GivesBack, HearBytes, HearsBytes, HostEntry, heard_by, messages_by, messages_for, messages_heard}
use Rattle.rd_host_channel.specs.Reading.{AreGiven, EndsHindered, IsEndingOf, IsPlain, after_reply, waiting_after}
use Rattle.rd_host_channel.specs.declared.ending.Ending.{Ending}
use Rattle.rd_host_channel.specs.declared.ending.Ending.TheVariants as ending
use Rattle.rd_host_front.specs.declared.calls.HostFrontCall.{HostFrontCall}
use Rattle.rd_host_front.specs.declared.calls.HostFrontCall.TheVariants as call
use Rattle.rd_host_front.specs.declared.calls.HostFrontReply.{HostFrontReply}
use Rattle.rd_host_front.specs.declared.calls.HostFrontReply.TheVariants as reply
use Rattle.rd_host_front.specs.HostFront.{Declines, HandsOver, HostFrontStep, is_channel_on, none_over}
use Rattle.rd_host_front.specs.State.{HostFrontState}
use Rattle.rd_room.specs.Room.{MessageRoom}
use Rattle.rd_turn.specs.History.{Leads, calls_of}
use Rattle.rd_host_threads.specs.Calls.{AreHostsCalls, IsHeardReply, IsMadeBy, IsRoomReply, reader_of, writer_of}
use Rattle.rd_host_threads.specs.Channels.{HaveNumbers, HostChannel}
use Rattle.rd_host_threads.proofs.PassLemmas.{all_map, all_more}

-- ---- lists

module _ {A : Type 0} where
  pub all_first : (P : A → Type 0) (xs ys : List A) → AllByRecursion P (xs ++ ys) → AllByRecursion P xs
  all_first P [] ys all = tt
  all_first P (x ∷ xs) ys all = (all.0, all_first P xs ys all.1)

  pub all_listed : (P : A → Type 0) (xs : List A) → All P xs → AllByRecursion P xs
  all_listed P [] all = tt
  all_listed P (x ∷ xs) all = (all 0 x (omega arith), all_listed P xs (λ k d less. all (suc k) d (omega arith)))

  all_if : (P : A → Type 0) (b : Bool) (x : A) (l : List A) → P x → AllByRecursion P l → AllByRecursion P (cond b (x ∷ l) l)
  all_if P true x l one all = (one, all)
  all_if P false x l one all = all

  all_then : (P : A → Type 0) (b : Bool) (x : A) (l : List A) → AllByRecursion P (cond b (x ∷ l) l) → AllByRecursion P l
  all_then P true x l all = all.1
  all_then P false x l all = all

-- ---- numbers

other_number : (x k n : ℕ) → (x == k) ≡ false → k ≡ n → x ≢ n
other_number x k n is same own = let both : true ≡ false = sym (eq-eqb x k (own ∙ sym same)) ∙ is in absurd (cc both)

not_reader : (c by n : ℕ) → (c ≡ 0) ⊎ (n < c) → by ≤ n + n → 0 < c → by ≢ reader_of c
not_reader c by n (inl none) few some own = omega arith
not_reader c by n (inr more) few some own = omega arith

not_writer : (c by n : ℕ) → (c ≡ 0) ⊎ (n < c) → by ≤ n + n → 0 < c → by ≢ writer_of c
not_writer c by n (inl none) few some own = omega arith
not_writer c by n (inr more) few some own = omega arith

module _ {W : Type 0} where
  -- ---- the calls of each pass

  -- what holds of all calls holds of those of a pass
  pub all_of_pass : (P : HostEntry W → Type 0) (k : ℕ) (xs : List (HostEntry W)) → AllByRecursion P xs → AllByRecursion P (calls_of k xs)
  all_of_pass P k [] all = tt
  all_of_pass P k (x ∷ xs) all = all_if P (x.by == k) x (calls_of k xs) all.0 (all_of_pass P k xs all.1)

  -- whose number they have
  pub own_numbers : (k : ℕ) (xs : List (HostEntry W)) → AllByRecursion (λ (e : HostEntry W). e.by ≡ k) (calls_of k xs)
  own_numbers k [] = tt
  own_numbers k (x ∷ xs) = elim (cases_Bool (x.by == k)) [
    | inl is ↦ subst (λ (b : Bool). AllByRecursion (λ (e : HostEntry W). e.by ≡ k) (cond b (x ∷ calls_of k xs) (calls_of k xs))) (sym is) (eqb-true x.by k is, own_numbers k xs)
    | inr is ↦ subst (λ (b : Bool). AllByRecursion (λ (e : HostEntry W). e.by ≡ k) (cond b (x ∷ calls_of k xs) (calls_of k xs))) (sym is) (own_numbers k xs)
  ]

  -- What holds of the calls of each pass holds of all.
  pub all_by_passes : (P : HostEntry W → Type 0) (most : ℕ) (xs : List (HostEntry W)) → AllByRecursion (λ (e : HostEntry W). e.by ≤ most) xs → ((k : ℕ) → k ≤ most → AllByRecursion P (calls_of k xs)) → AllByRecursion P xs
  all_by_passes P most [] few each = tt
  all_by_passes P most (x ∷ xs) few each =
      let own = subst (λ (b : Bool). AllByRecursion P (cond b (x ∷ calls_of x.by xs) (calls_of x.by xs))) (eq-eqb x.by x.by refl) (each x.by few.0) in
      (own.0, all_by_passes P most xs few.1 (λ k le. all_then P (x.by == k) x (calls_of k xs) (each k le)))

  -- ---- what a front's replies are

  -- a room comes back from a call for messages
  abbrev pub HandsRoom : HostFrontCall W → HostFrontReply W → Type 0
  HandsRoom (call.Next channel room) back = IsRoomReply back
  HandsRoom _ back = Unit {0}

  abbrev pub IsFit : HostEntry W → Type 0
  IsFit e = GivesBack e.call e.reply × HandsRoom e.call e.reply

  room_over : (old : HostFrontState) (room : MessageRoom) (back : HostFrontReply W) (new : HostFrontState) → HandsOver old room back new → IsRoomReply back
  room_over old room (reply.Messages filled why) new hands = tt
  room_over old room (reply.First pass what) new hands = absurd hands
  room_over old room (reply.Done wakes full) new hands = absurd hands
  room_over old room (reply.Wrong fault) new hands = absurd hands
  room_over old room (reply.Stray device id) new hands = absurd hands
  room_over old room (reply.BodyBad bad) new hands = absurd hands
  room_over old room reply.Memory new hands = absurd hands
  room_over old room (reply.Full message) new hands = absurd hands
  room_over old room reply.Over new hands = absurd hands

  room_back : (on : Bool) (old : HostFrontState) (room : MessageRoom) (back : HostFrontReply W) (new : HostFrontState) → MatchBool on (HandsOver old room back new) (Declines (none_over room) back old new) → IsRoomReply back
  room_back true old room back new did = room_over old room back new did
  room_back false old room back new did = subst IsRoomReply (sym did.0) tt

  step_room : (old : HostFrontState) (does : HostFrontCall W) (back : HostFrontReply W) (new : HostFrontState) → HostFrontStep old does back new → HandsRoom does back
  step_room old (call.Next channel room) back new step = room_back (is_channel_on old channel) old room back new step
  step_room old (call.Begin channel first) back new step = tt
  step_room old (call.Hear channel message) back new step = tt
  step_room old (call.DropChannel channel) back new step = tt
  step_room old (call.DropSent first anew) back new step = tt

  pub all_fit : (old : HostFrontState) (entries : List (HostEntry W)) (new : HostFrontState) → Leads HostFrontStep old entries new → AllByRecursion IsFit entries
  all_fit old [] new leads = tt
  all_fit old (e ∷ entries) new leads = ((step_back old leads.0 e.call e.reply leads.1, step_room old e.call e.reply leads.0 leads.1), all_fit leads.0 entries new leads.2)

  pub fit_gives : (entries : List (HostEntry W)) → AllByRecursion IsFit entries → AllGiveBack entries
  fit_gives entries fit = all_map IsFit (λ (e : HostEntry W). GivesBack e.call e.reply) entries (λ e both. both.0) fit

  -- ---- a reader's calls

  -- a reply to a message that is heard, but for want of memory
  abbrev IsKnown : HostFrontReply W → Type 0
  IsKnown (reply.Done wakes full) = Unit {0}
  IsKnown (reply.Full back) = Unit {0}
  IsKnown (reply.Wrong fault) = Unit {0}
  IsKnown (reply.Stray device id) = Unit {0}
  IsKnown (reply.BodyBad bad) = Unit {0}
  IsKnown reply.Over = Unit {0}
  IsKnown _ = ⊥

  plain_known : (back : HostFrontReply W) → IsPlain back → IsKnown back
  plain_known (reply.Done wakes full) is = tt
  plain_known (reply.Full message) is = tt
  plain_known (reply.Messages filled why) is = absurd is
  plain_known (reply.First pass what) is = absurd is
  plain_known (reply.Wrong fault) is = absurd is
  plain_known (reply.Stray device id) is = absurd is
  plain_known (reply.BodyBad bad) is = absurd is
  plain_known reply.Memory is = absurd is
  plain_known reply.Over is = absurd is

  -- after any other the channel ends as for want of memory
  known_or : (back : HostFrontReply W) → IsKnown back ⊎ ((count : ℕ) → after_reply back count ≡ after_reply {W = W} reply.Memory count)
  known_or (reply.Done wakes full) = inl tt
  known_or (reply.Full message) = inl tt
  known_or (reply.Wrong fault) = inl tt
  known_or (reply.Stray device id) = inl tt
  known_or (reply.BodyBad bad) = inl tt
  known_or reply.Over = inl tt
  known_or (reply.Messages filled why) = inr (λ count. refl)
  known_or (reply.First pass what) = inr (λ count. refl)
  known_or reply.Memory = inr (λ count. refl)

  last_known : (by : Ending) (count : ℕ) (calls : List (HostEntry W)) → by ≢ ending.Memory → (ends : EndsHindered by count calls) → IsKnown (ends.last).reply
  last_known by count calls not ends =
      elim (known_or (ends.last).reply) [
        | inl is ↦ is
        | inr other ↦
            let e = sym (other count) ∙ ends.is_so in
            let same : by ≡ ending.Memory = cc e in
            absurd (not same)
      ]

  all_known : (by : Ending) (calls : List (HostEntry W)) (to : IncomingState) → by ≢ ending.Memory → IsEndingOf (Some by) calls to → AllByRecursion (λ (e : HostEntry W). IsKnown e.reply) calls
  all_known by calls to not (inl is) = all_map (λ (e : HostEntry W). IsPlain e.reply) (λ (e : HostEntry W). IsKnown e.reply) calls (λ e plain. plain_known e.reply plain) is.0
  all_known by calls to not (inr ends) =
      let last = ends.last in
      subst (AllByRecursion (λ (e : HostEntry W). IsKnown e.reply)) (sym ends.calls_are) (all_more (λ (e : HostEntry W). IsKnown e.reply) ends.before (last ∷ [])
      (all_map (λ (e : HostEntry W). IsPlain e.reply) (λ (e : HostEntry W). IsKnown e.reply) ends.before (λ e plain. plain_known e.reply plain) ends.plain) (last_known by (length to.messages) calls not ends, tt))

  reply_so : (channel : ℕ) (message : List ℕ) (back : HostFrontReply W) → GivesBack (call.Hear channel message) back → IsKnown back → IsHeardReply message back
  reply_so channel message (reply.Done wakes full) gives is = tt
  reply_so channel message (reply.Full back) gives is = gives
  reply_so channel message (reply.Wrong fault) gives is = tt
  reply_so channel message (reply.Stray device id) gives is = tt
  reply_so channel message (reply.BodyBad bad) gives is = tt
  reply_so channel message reply.Over gives is = tt
  reply_so channel message (reply.Messages filled why) gives is = absurd is
  reply_so channel message (reply.First pass what) gives is = absurd is
  reply_so channel message reply.Memory gives is = absurd is

  heard_so : (channel by : ℕ) (does : HostFrontCall W) (back : HostFrontReply W) (message : List ℕ) → 0 < channel → by ≡ reader_of channel → does ≡ call.Hear channel message → HearsBytes does → GivesBack does back → IsKnown back
      → IsMadeBy by does back
  heard_so channel by does back message some own is bytes gives known =
      subst (λ (d : HostFrontCall W). HearsBytes d → GivesBack d back → IsMadeBy by d back) (sym is) (λ b g. ((some, own), b, reply_so channel message back g known)) bytes gives

  pub reads_so : (channel : ℕ) (calls : List (HostEntry W)) (waiting rest : List (List ℕ)) (by : Ending) (to : IncomingState) → 0 < channel → by ≢ ending.Memory → AreGiven channel calls waiting rest → HearBytes calls → IsEndingOf (Some by) calls to
      → AllByRecursion (λ (e : HostEntry W). e.by ≡ reader_of channel) calls → AllByRecursion IsFit calls → AreHostsCalls calls
  reads_so channel calls waiting rest by to some not given bytes ends own fit = each calls waiting given bytes (all_known by calls to not ends) own fit
    where
      each : (calls : List (HostEntry W)) (waiting : List (List ℕ)) → AreGiven channel calls waiting rest → HearBytes calls → AllByRecursion (λ (e : HostEntry W). IsKnown e.reply) calls
          → AllByRecursion (λ (e : HostEntry W). e.by ≡ reader_of channel) calls → AllByRecursion IsFit calls → AreHostsCalls calls
      each [] waiting given bytes known own fit = tt
      each (e ∷ calls) [] given bytes known own fit = absurd given
      each (e ∷ calls) (message ∷ later) given bytes known own fit = (
        heard_so channel e.by e.call e.reply message some own.0 given.0 bytes.0 (fit.0).0 known.0,
        each calls (waiting_after e.reply message later) given.1 bytes.1 known.1 own.1 fit.1,
      )

  -- ---- a writer's calls

  asked_so : (channel by : ℕ) (does : HostFrontCall W) (back : HostFrontReply W) → 0 < channel → by ≡ writer_of channel → AsksFor channel does → HandsRoom does back → IsMadeBy by does back
  asked_so channel by (call.Next c room) back some own asks hands = subst (λ (k : ℕ). IsMadeBy by (call.Next k room) back) (sym asks) ((some, own), hands)
  asked_so channel by (call.Begin c first) back some own asks hands = absurd asks
  asked_so channel by (call.Hear c message) back some own asks hands = absurd asks
  asked_so channel by (call.DropChannel c) back some own asks hands = absurd asks
  asked_so channel by (call.DropSent first anew) back some own asks hands = absurd asks

  pub asks_so : (channel : ℕ) (calls : List (HostEntry W)) → 0 < channel → AllAskFor channel calls → AllByRecursion (λ (e : HostEntry W). e.by ≡ writer_of channel) calls → AllByRecursion IsFit calls → AreHostsCalls calls
  asks_so channel [] some ask own fit = tt
  asks_so channel (e ∷ calls) some ask own fit = (asked_so channel e.by e.call e.reply some own.0 ask.0 (fit.0).1, asks_so channel calls some ask.1 own.1 fit.1)

  -- ---- what was heard and handed out

  -- nothing was heard on a channel by a pass that isn't its reader's
  heard_none : (c by : ℕ) (does : HostFrontCall W) (back : HostFrontReply W) → IsMadeBy by does back → (0 < c → by ≢ reader_of c) → heard_by c does back ≡ []
  heard_none c by (call.Begin channel first) back made not = refl
  heard_none c by (call.Next channel room) back made not = refl
  heard_none c by (call.DropChannel channel) back made not = refl
  heard_none c by (call.DropSent first anew) back made not = refl
  heard_none c by (call.Hear channel message) back made not = by_reply back
    where
      none : (if channel == c then message ∷ [] else []) ≡ []
      none = elim (cases_Bool (channel == c)) [
        | inl is ↦
            let same : channel ≡ c = eqb-true channel c is in
            let own : (0 < c) × (by ≡ reader_of c) = subst (λ (k : ℕ). (0 < k) × (by ≡ reader_of k)) same made.0 in
            absurd (not own.0 own.1)
        | inr is ↦ ap (λ (b : Bool). if b then message ∷ [] else []) is
      ]

      by_reply : (r : HostFrontReply W) → heard_by c (call.Hear channel message) r ≡ []
      by_reply (reply.Full given) = refl
      by_reply reply.Over = refl
      by_reply (reply.Messages filled why) = none
      by_reply (reply.First pass what) = none
      by_reply (reply.Done wakes full) = none
      by_reply (reply.Wrong fault) = none
      by_reply (reply.Stray device id) = none
      by_reply (reply.BodyBad bad) = none
      by_reply reply.Memory = none

  -- nor was anything handed out for it to one that isn't its writer's
  handed_none : (c by : ℕ) (does : HostFrontCall W) (back : HostFrontReply W) → IsMadeBy by does back → (0 < c → by ≢ writer_of c) → messages_by c does back ≡ []
  handed_none c by (call.Begin channel first) back made not = refl
  handed_none c by (call.Hear channel message) back made not = refl
  handed_none c by (call.DropChannel channel) back made not = refl
  handed_none c by (call.DropSent first anew) back made not = refl
  handed_none c by (call.Next channel room) back made not = by_reply back
    where
      none : (messages : List (List ℕ)) → (if channel == c then messages else []) ≡ []
      none messages = elim (cases_Bool (channel == c)) [
        | inl is ↦
            let same : channel ≡ c = eqb-true channel c is in
            let own : (0 < c) × (by ≡ writer_of c) = subst (λ (k : ℕ). (0 < k) × (by ≡ writer_of k)) same made.0 in
            absurd (not own.0 own.1)
        | inr is ↦ ap (λ (b : Bool). if b then messages else []) is
      ]

      by_reply : (r : HostFrontReply W) → messages_by c (call.Next channel room) r ≡ []
      by_reply (reply.Messages filled why) = none filled.messages
      by_reply (reply.Full given) = refl
      by_reply reply.Over = refl
      by_reply (reply.First pass what) = refl
      by_reply (reply.Done wakes full) = refl
      by_reply (reply.Wrong fault) = refl
      by_reply (reply.Stray device id) = refl
      by_reply (reply.BodyBad bad) = refl
      by_reply reply.Memory = refl

  -- What was heard on a channel was heard by the calls of its reader,
  pub heard_by_own : (c : ℕ) (xs : List (HostEntry W)) → AreHostsCalls xs → messages_heard c xs ≡ messages_heard c (calls_of (reader_of c) xs)
  heard_by_own c [] all = refl
  heard_by_own c (x ∷ xs) all =
      let k = reader_of c in
      let own = calls_of k xs in
      let rest = heard_by_own c xs all.1 in
      elim (cases_Bool (x.by == k)) [
        | inl is ↦ ap (λ (l : List (List ℕ)). heard_by c x.call x.reply ++ l) rest ∙ ap (λ (b : Bool). messages_heard c (cond b (x ∷ own) own)) (sym is)
        | inr is ↦
            ap (λ (l : List (List ℕ)). l ++ messages_heard c xs) (heard_none c x.by x.call x.reply all.0 (λ some. other_number x.by k (reader_of c) is refl)) ∙ rest ∙ ap (λ (b : Bool). messages_heard c (cond b (x ∷ own) own)) (sym is)
      ]

  -- and what was handed out for it was handed to its writer.
  pub handed_to_own : (c : ℕ) (xs : List (HostEntry W)) → AreHostsCalls xs → messages_for c xs ≡ messages_for c (calls_of (writer_of c) xs)
  handed_to_own c [] all = refl
  handed_to_own c (x ∷ xs) all =
      let k = writer_of c in
      let own = calls_of k xs in
      let rest = handed_to_own c xs all.1 in
      elim (cases_Bool (x.by == k)) [
        | inl is ↦ ap (λ (l : List (List ℕ)). messages_by c x.call x.reply ++ l) rest ∙ ap (λ (b : Bool). messages_for c (cond b (x ∷ own) own)) (sym is)
        | inr is ↦
            ap (λ (l : List (List ℕ)). l ++ messages_for c xs) (handed_none c x.by x.call x.reply all.0 (λ some. other_number x.by k (writer_of c) is refl)) ∙ rest ∙ ap (λ (b : Bool). messages_for c (cond b (x ∷ own) own)) (sym is)
      ]

  -- On no channel that wasn't served was anything heard,
  pub heard_nowhere : (c n : ℕ) (xs : List (HostEntry W)) → AreHostsCalls xs → AllByRecursion (λ (e : HostEntry W). e.by ≤ n + n) xs → (c ≡ 0) ⊎ (n < c) → messages_heard c xs ≡ []
  heard_nowhere c n [] all few other = refl
  heard_nowhere c n (x ∷ xs) all few other =
      ap (λ (l : List (List ℕ)). l ++ messages_heard c xs) (heard_none c x.by x.call x.reply all.0 (not_reader c x.by n other few.0)) ∙ heard_nowhere c n xs all.1 few.1 other

  -- or handed out for it.
  pub handed_nowhere : (c n : ℕ) (xs : List (HostEntry W)) → AreHostsCalls xs → AllByRecursion (λ (e : HostEntry W). e.by ≤ n + n) xs → (c ≡ 0) ⊎ (n < c) → messages_for c xs ≡ []
  handed_nowhere c n [] all few other = refl
  handed_nowhere c n (x ∷ xs) all few other =
      ap (λ (l : List (List ℕ)). l ++ messages_for c xs) (handed_none c x.by x.call x.reply all.0 (not_writer c x.by n other few.0)) ∙ handed_nowhere c n xs all.1 few.1 other

  pub heard_append : (c : ℕ) (xs ys : List (HostEntry W)) → messages_heard c (xs ++ ys) ≡ messages_heard c xs ++ messages_heard c ys
  heard_append c [] ys = refl
  heard_append c (x ∷ xs) ys = ap (λ (l : List (List ℕ)). heard_by c x.call x.reply ++ l) (heard_append c xs ys) ∙ sym (append_assoc (heard_by c x.call x.reply) (messages_heard c xs) (messages_heard c ys))

  -- ---- of which channel a pass is

  -- What holds of the numbers of each channel's passes holds of each number of a pass that was split for one of them.
  pub each_pass : (P : ℕ → Type 0) (n : ℕ) (channels : List (HostChannel W)) → HaveNumbers n channels → AllByRecursion (λ (c : HostChannel W). P (reader_of c.channel) × P (writer_of c.channel)) channels → (k : ℕ) → n + n < k
      → k ≤ (n + length channels) + (n + length channels) → P k
  each_pass P n [] numbered all k more most = absurd (omega arith)
  each_pass P n (c ∷ channels) numbered all k more most =
      let is = numbered.0 in
      elim (cases_eq k (reader_of c.channel)) [
        | inl reads ↦ subst P (sym reads) (all.0).0
        | inr others ↦
            elim (cases_eq k (writer_of c.channel)) [
              | inl writes ↦ subst P (sym writes) (all.0).1
              | inr later ↦ each_pass P (suc n) channels numbered.1 all.1 k (omega arith) (omega arith)
            ]
      ]
