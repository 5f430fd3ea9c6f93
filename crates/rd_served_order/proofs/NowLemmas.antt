-- Where a client stands in the order of its messages, from a message that was wrong on too.
use Rattle.std.proofs.Common.{◌≡◌, ◌∙◌, refl, sym, ap, subst, inl, inr, ℕ, Bool, true, false, List, [], ◌∷◌, ◌++◌, map, reverse, Option, Some, None, IsSome}
use Rattle.std.specs.Prelude.{◌⊎◌, Result, Ok, Err, is_ok, is_some}
use Rattle.std.specs.Option.{option_and_then, option_map}
use Rattle.std.specs.List.{AllByRecursion}
use Rattle.std.proofs.lemmas.List.{reverse-append}
use Rattle.rd_base.specs.Layout.{met}
use Rattle.rd_base.specs.Position.{at_start}
use Rattle.rd_client.proofs.OrderLemmas.{event_in_order}
use Rattle.rd_client.proofs.OwnLemmas.{own_completion}
use Rattle.rd_client.proofs.WrongLemmas.{client_answers_wrong}
use Rattle.rd_client.specs.Core as client
use Rattle.rd_client.specs.Core.{AreDevices, ClientCall, ClientCoreState, ClientDevice, ClientStep, HostSays, KeepsClientChannel, Outgoing, announces, client_begin, client_hear, client_hear_made, client_side, hears, may_be_asked, sends}
use Rattle.rd_client.specs.declared.heard.Heard.{Heard}
use Rattle.rd_client.specs.declared.heard.Heard.TheVariants.{Nothing, Ask, Print}
use Rattle.rd_client.specs.Events.{AreWritable, ClientStandsAt, calls, client_call_moves, untold, without_data}
use Rattle.rd_client.specs.Order.{ClientStanding, ClientTelling, after_own, after_read, client_at_first, client_part, stand_after}
use Rattle.rd_core.proofs.OrderLemmas.{read_as_heard, stand_onward}
use Rattle.rd_core.specs.Hearing as hearing
use Rattle.rd_core.specs.Hearing.{Meaning, nothing, opens, says, wrong}
use Rattle.rd_core.specs.Order as order
use Rattle.rd_devices.specs.declared.list.Announce.{Announce}
use Rattle.rd_hello.specs.declared.client.ClientState.{ClientState}
use Rattle.rd_hello.specs.declared.end_fault.EndFault.{EndFault}
use Rattle.rd_hello.specs.Moves.{Move, reads, writes}
use Rattle.rd_irp.specs.Completion.{completion_head}
use Rattle.rd_served.proofs.JournalsAskingLemmas as asking
use Rattle.rd_served.proofs.JournalsAskingLemmas.{HeardAs}
use Rattle.rd_served.specs.Served.{Asking, hands}
use Rattle.rd_station.specs.declared.answers.Completion.{Completion}
use Rattle.rd_served_order.specs.Orders.{AreMovesInOrder, IsCutAt}

-- ---- what a client hears

listening : (c : ClientCoreState) (m : List ℕ) → (c.core).fault ≡ None → client_hear c m ≡ client_hear_made c (hearing.hear_said client_side c.core (hearing.said client_side (c.core).shake m))
listening c m e = rw e refl

no_err : (r : ClientCoreState × Result Heard EndFault) (d : ClientCoreState) (f : EndFault) → r ≡ (d, Err f) → is_ok r.1 ≡ true → ⊥
no_err r d f e ok = let none : is_ok r.1 ≡ false = ap (λ (x : ClientCoreState × Result Heard EndFault). is_ok x.1) e in cc (none, ok)

-- after a message that is heard without a fault there is none that wasn't there before
ok_fault : (c d : ClientCoreState) (m : List ℕ) (h : Heard) → client_hear c m ≡ (d, Ok h) → (d.core).fault ≡ (c.core).fault
ok_fault c d m h is = by h (subst (HeardAs c m) is (asking.hears c m))
  where
    by : (x : Heard) → HeardAs c m (d, Ok x) → (d.core).fault ≡ (c.core).fault
    by Nothing so = so.3
    by (Print n) so = so.3
    by (Ask device job) so = so.3

-- after a wrong one there is some
err_fault : (c d : ClientCoreState) (m : List ℕ) (f : EndFault) → client_hear c m ≡ (d, Err f) → is_some (d.core).fault ≡ true
err_fault c d m f is = let so : HeardAs c m (d, Err f) = subst (HeardAs c m) is (asking.hears c m) in so.2

module _ (devices : List Announce) (gone : ℕ → Bool) where
  -- by these moves, the newest first, a client stands somewhere in the order of its messages
  pub record StandsBy (moves : List Move) (c : ClientCoreState) : Type 0 where
    pub stand : ClientStanding
    pub is : stand_after devices gone client_at_first (reverse moves) ≡ Some stand
    pub at : ClientStandsAt devices gone stand c

  -- so it does as a channel begins, where its marks are those devices
  pub begins_stand : (c : ClientCoreState) (channel : ℕ) → AllByRecursion (λ (d : ClientDevice). d.removed ≡ gone (d.announce).id) c.devices → map without_data (announces c) ≡ map without_data devices
      → AreDevices (announces c) → AreWritable devices → StandsBy [] (client_begin c channel)
  begins_stand c channel marks same are writable = record {
    stand = client_at_first;
    is = refl;
    at = record {
      telling = untold;
      stand = record { shake = refl; own = []; waits = refl; written = refl };
      told = (refl, marks);
      same = same;
      are = are;
      writable = writable;
    };
  }

  -- what is kept of moves: all of them, while nothing was wrong
  abbrev pub IsKept : Option EndFault → List Move → List Move → Type 0
  IsKept None moves kept = kept ≡ moves
  IsKept (Some fault) moves kept = IsCutAt devices gone moves kept

  -- Where a client stands by what is kept of its moves, the newest first; while a completion is handed out no message of the opening is owed.
  pub record NowIn (moves : List Move) (c : ClientCoreState) (a : Asking) : Type 0 where
    pub kept : List Move
    pub now : StandsBy kept c
    pub right : IsKept (c.core).fault moves kept
    pub clear : (device : ℕ) (x : Completion) → a ≡ hands device x → (now.stand).owed ≡ []

  pub now_are : (moves : List Move) (c : ClientCoreState) (a : Asking) → NowIn moves c a → AreMovesInOrder devices gone moves
  now_are moves c a n = record { kept = n.kept; order = subst (λ (o : Option ClientStanding). IsSome o) (sym (n.now).is) refl; all = by (c.core).fault n.right }
    where
      by : (f : Option EndFault) → IsKept f moves n.kept → (n.kept ≡ moves) ⊎ IsCutAt devices gone moves n.kept
      by None same = inl same
      by (Some fault) cut = inr cut

  -- ---- one move more

  onward : (kept : List Move) (m : Move) (s : ClientStanding) → stand_after devices gone client_at_first (reverse kept) ≡ Some s → stand_after devices gone client_at_first (reverse (m ∷ kept)) ≡ stand_after devices gone s (m ∷ [])
  onward kept m s is =
      ap (stand_after devices gone client_at_first) (reverse-append (m ∷ []) kept) ∙ stand_onward client_side (client_part devices gone) client_at_first s (reverse kept) (m ∷ []) is

  -- where nothing is owed, a message that is written leaves nothing owed
  stays_clear : (s t : ClientStanding) (m : List ℕ) → s.owed ≡ [] → stand_after devices gone s (writes m ∷ []) ≡ Some t → t.owed ≡ []
  stays_clear s t m none is = by s.owed none is
    where
      go : (o : Option ClientTelling) → option_and_then (λ (x : ClientStanding). Some x) (option_map (λ (own : ClientTelling). record s { own = own }) o) ≡ Some t → t.owed ≡ []
      go None e = absurd (cc (e))
      go (Some own) e = let same : record s { own = own } ≡ t = cc (e) in ap (λ (x : ClientStanding). x.owed) (sym same) ∙ none

      by : (owed : List (List ℕ)) → owed ≡ [] → option_and_then (λ (x : ClientStanding). Some x) (order.after_owed client_side (client_part devices gone) s m owed) ≡ Some t → t.owed ≡ []
      by [] e f = go (after_own devices gone s.shake m s.own) f
      by (x ∷ xs) e f = absurd (cc (e))

  kept_wrote : (f : Option EndFault) (m : List ℕ) (moves kept : List Move) → IsKept f moves kept → IsKept f (writes m ∷ moves) (writes m ∷ kept)
  kept_wrote None m moves kept same = ap (λ (ms : List Move). writes m ∷ ms) same
  kept_wrote (Some fault) m moves kept cut = record {
    later = writes m ∷ cut.later;
    earlier = cut.earlier;
    message = cut.message;
    moves_are = ap (λ (ms : List Move). writes m ∷ ms) cut.moves_are;
    kept_are = ap (λ (ms : List Move). writes m ∷ ms) cut.kept_are;
    wrong = cut.wrong;
  }

  -- a call by which nothing is read or written
  pub quiet_now : (moves : List Move) (c d : ClientCoreState) (a b : Asking) (call : ClientCall) → client_call_moves call ≡ [] → KeepsClientChannel call → ClientStep c call d → (d.core).fault ≡ (c.core).fault
      → ((device : ℕ) (x : Completion) → b ≡ hands device x → a ≡ hands device x) → NowIn moves c a → NowIn moves d b
  quiet_now moves c d a b call none keeps step fault handing n =
      let next = event_in_order devices gone (n.now).stand c d (calls call) (n.now).at (keeps, step) in
      let both : Some (n.now).stand ≡ Some next.0 = ap (stand_after devices gone (n.now).stand) (sym none) ∙ next.1 in
      let same : (n.now).stand ≡ next.0 = cc (both) in
      record {
        kept = n.kept;
        now = record { stand = (n.now).stand; is = (n.now).is; at = subst (λ (s : ClientStanding). ClientStandsAt devices gone s d) (sym same) next.2 };
        right = subst (λ (f : Option EndFault). IsKept f moves n.kept) (sym fault) n.right;
        clear = λ device x e. n.clear device x (handing device x e);
      }

  -- the client stays the same
  pub same_now : (moves : List Move) (c d : ClientCoreState) (a b : Asking) → d ≡ c → ((device : ℕ) (x : Completion) → b ≡ hands device x → a ≡ hands device x) → NowIn moves c a → NowIn moves d b
  same_now moves c d a b is handing n =
      subst (λ (e : ClientCoreState). NowIn moves e b) (sym is) (record { kept = n.kept; now = n.now; right = n.right; clear = λ device x e. n.clear device x (handing device x e) })

  -- where nothing waits to be written no message of the opening is owed
  pub owes_none : (moves : List Move) (c : ClientCoreState) (a : Asking) (n : NowIn moves c a) → (c.core).outbox ≡ [] → ((n.now).stand).owed ≡ []
  owes_none moves c a n empty =
      let stand = ((n.now).at).stand in shorter ((n.now).stand).owed stand.own (sym stand.waits ∙ ap (λ (os : List Outgoing). map (λ (o : Outgoing). o.message) os) empty)
    where
      shorter : (owed own : List (List ℕ)) → owed ++ own ≡ [] → owed ≡ []
      shorter [] own is = refl
      shorter (x ∷ owed) own is = absurd (cc (is))

  -- the core's first message is written
  pub sent_now : (moves : List Move) (c d : ClientCoreState) (a b : Asking) (o : Outgoing) → client.client_send c ≡ (d, Some o) → (d.core).fault ≡ (c.core).fault
      → ((device : ℕ) (x : Completion) → b ≡ hands device x → a ≡ hands device x) → NowIn moves c a → NowIn (writes o.message ∷ moves) d b
  sent_now moves c d a b o made fault handing n =
      let next = event_in_order devices gone (n.now).stand c d (calls (sends (Some o))) (n.now).at (tt, made) in
      record {
        kept = writes o.message ∷ n.kept;
        now = record { stand = next.0; is = onward n.kept (writes o.message) (n.now).stand (n.now).is ∙ next.1; at = next.2 };
        right = subst (λ (f : Option EndFault). IsKept f (writes o.message ∷ moves) (writes o.message ∷ n.kept)) (sym fault) (kept_wrote (c.core).fault o.message moves n.kept n.right);
        clear = λ device x e. stays_clear (n.now).stand next.0 o.message (n.clear device x (handing device x e)) next.1;
      }

  -- a completion is written that was handed out
  pub completed_now : (moves : List Move) (c : ClientCoreState) (a b : Asking) (device : ℕ) (x : Completion) (bytes : List ℕ) → a ≡ hands device x → may_be_asked (c.core).shake ≡ true → is_ok (met completion_head (at_start bytes)) ≡ true
      → ((device : ℕ) (x : Completion) → b ≡ hands device x → ⊥) → NowIn moves c a → NowIn (writes bytes ∷ moves) c b
  completed_now moves c a b device x bytes is asked head never n = record {
    kept = writes bytes ∷ n.kept;
    now = record { stand = (n.now).stand; is = onward n.kept (writes bytes) (n.now).stand (n.now).is ∙ ap (λ (o : Option ClientStanding). option_and_then (λ (t : ClientStanding). Some t) o) wrote; at = (n.now).at };
    right = kept_wrote (c.core).fault bytes moves n.kept n.right;
    clear = λ d y e. absurd (never d y e);
  }
    where
      wrote : order.after_write client_side (client_part devices gone) ((n.now).stand) bytes ≡ Some ((n.now).stand)
      wrote =
          ap (λ (owed : List (List ℕ)). order.after_owed client_side (client_part devices gone) (n.now).stand bytes owed) (n.clear device x is)
          ∙ ap (λ (o : Option ClientTelling). option_map (λ (own : ClientTelling). record (n.now).stand { own = own }) o)
          (own_completion devices gone ((n.now).stand).shake bytes ((n.now).stand).own (ap may_be_asked (((n.now).at).stand).shake ∙ asked) head)

  -- ---- a message is heard

  pub heard_now : (moves : List Move) (c d : ClientCoreState) (a b : Asking) (m : List ℕ) (h : Heard) → ClientStep c (hears m (Ok h)) d → client_hear c m ≡ (d, Ok h)
      → ((device : ℕ) (x : Completion) → b ≡ hands device x → ⊥) → NowIn moves c a → NowIn (reads m ∷ moves) d b
  heard_now moves c d a b m h step is never n =
      let next = event_in_order devices gone (n.now).stand c d (calls (hears m (Ok h))) (n.now).at (tt, step) in
      record {
        kept = reads m ∷ n.kept;
        now = record { stand = next.0; is = onward n.kept (reads m) (n.now).stand (n.now).is ∙ next.1; at = next.2 };
        right = subst (λ (f : Option EndFault). IsKept f (reads m ∷ moves) (reads m ∷ n.kept)) (sym (ok_fault c d m h is ∙ fine)) (ap (λ (ms : List Move). reads m ∷ ms) same);
        clear = λ device x e. absurd (never device x e);
      }
    where
      sound : (f : Option EndFault) → (c.core).fault ≡ f → (c.core).fault ≡ None
      sound None e = e
      sound (Some f) e = let g : Ok h ≡ Err f = client_answers_wrong c d m (Ok h) f step e in absurd (cc (g))

      fine : (c.core).fault ≡ None
      fine = sound (c.core).fault refl

      same : n.kept ≡ moves
      same = subst (λ (f : Option EndFault). IsKept f moves n.kept) fine n.right

  -- what is wrong with a message is so where the client stands
  read_wrong : (c d : ClientCoreState) (m : List ℕ) (f : EndFault) (s : ClientStanding) → s.shake ≡ (c.core).shake → (c.core).fault ≡ None → client_hear c m ≡ (d, Err f) → after_read devices gone s m ≡ None
  read_wrong c d m f s shake fine is =
      read_as_heard client_side (client_part devices gone) (c.core).shake s m shake ∙ by (hearing.said client_side (c.core).shake m) (sym (listening c m fine) ∙ is)
    where
      by : (x : Meaning ClientState HostSays) → client_hear_made c (hearing.hear_said client_side c.core x) ≡ (d, Err f) → order.after_said client_side (client_part devices gone) s x ≡ None
      by (wrong g) e = refl
      by nothing e = absurd (no_err _ d f e refl)
      by (opens row) e = absurd (no_err _ d f e refl)
      by (says a) e = absurd (no_err _ d f e refl)

  pub wrong_now : (moves : List Move) (c d : ClientCoreState) (a b : Asking) (m : List ℕ) (f : EndFault) → client_call_moves (hears m (Err f)) ≡ [] → ClientStep c (hears m (Err f)) d → client_hear c m ≡ (d, Err f)
      → ((device : ℕ) (x : Completion) → b ≡ hands device x → ⊥) → NowIn moves c a → NowIn (reads m ∷ moves) d b
  wrong_now moves c d a b m f none step is never n =
      let next = event_in_order devices gone (n.now).stand c d (calls (hears m (Err f))) (n.now).at (tt, step) in
      let both : Some (n.now).stand ≡ Some next.0 = ap (stand_after devices gone (n.now).stand) (sym none) ∙ next.1 in
      let same : (n.now).stand ≡ next.0 = cc (both) in
      record {
        kept = n.kept;
        now = record { stand = (n.now).stand; is = (n.now).is; at = subst (λ (s : ClientStanding). ClientStandsAt devices gone s d) (sym same) next.2 };
        right = to (d.core).fault (err_fault c d m f is) (cut (c.core).fault refl n.right);
        clear = λ device x e. absurd (never device x e);
      }
    where
      cut : (o : Option EndFault) → (c.core).fault ≡ o → IsKept o moves n.kept → IsCutAt devices gone (reads m ∷ moves) n.kept
      cut None e same = record {
        later = [];
        earlier = moves;
        message = m;
        moves_are = refl;
        kept_are = same;
        wrong =
            onward moves (reads m) (n.now).stand (subst (λ (ms : List Move). stand_after devices gone client_at_first (reverse ms) ≡ Some (n.now).stand) same (n.now).is)
            ∙ ap (λ (o : Option ClientStanding). option_and_then (λ (t : ClientStanding). Some t) o) (read_wrong c d m f (n.now).stand (((n.now).at).stand).shake e is);
      }
      cut (Some g) e was = record {
        later = reads m ∷ was.later;
        earlier = was.earlier;
        message = was.message;
        moves_are = ap (λ (ms : List Move). reads m ∷ ms) was.moves_are;
        kept_are = was.kept_are;
        wrong = was.wrong;
      }

      to : (o : Option EndFault) → is_some o ≡ true → IsCutAt devices gone (reads m ∷ moves) n.kept → IsKept o (reads m ∷ moves) n.kept
      to None e it = absurd (cc (e))
      to (Some g) e it = it
