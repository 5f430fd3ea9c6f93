-- Which messages are given to be heard by calls, and what becomes of them.
use Rattle.std.proofs.Common.{◌≡◌, ◌∙◌, ℕ, ◌+◌, ◌-◌, List, [], ◌∷◌, ◌++◌, Bool, Some, None, ap, sym, refl, subst, append_assoc, eq-eqb}
use Rattle.std.specs.Prelude.{◌==◌, if◌then◌else◌}
use Rattle.rd_carry.specs.declared.ended.EndWhy.TheVariants as why
use Rattle.rd_drive.proofs.AllLemmas.{all_append}
use Rattle.rd_host_front.specs.declared.calls.HostFrontCall.{HostFrontCall}
use Rattle.rd_host_front.specs.declared.calls.HostFrontCall.TheVariants as call
use Rattle.rd_host_front.specs.declared.calls.HostFrontReply.{HostFrontReply}
use Rattle.rd_host_front.specs.declared.calls.HostFrontReply.TheVariants as reply
use Rattle.rd_turn.specs.History.{entry}
use Rattle.rd_host_channel.specs.Calls.{AllGiveBack, GivesBack, HearBytes, HostEntry, HostPass, MakesCalls, heard_by, messages_heard}
use Rattle.rd_host_channel.specs.Reading.{AllPlain, AreGiven, CallsToHear, GivesMore, IsPlain, IsUnheard, after_reply, body_place, id_place, waiting_after, wrong_at}
use Rattle.rd_host_channel.specs.declared.ending.Ending.{Ending}
use Rattle.rd_host_channel.specs.declared.ending.Ending.TheVariants as ending
use Rattle.rd_host_channel.specs.declared.listening.Heard.{Heard}
use Rattle.rd_host_channel.specs.declared.listening.Heard.TheVariants as heard
use Rattle.rd_host_channel.proofs.CallLemmas.{bytes_append, made_then}

module _ {W : Type 0} where
  pub plain_append : (xs ys : List (HostEntry W)) → AllPlain xs → AllPlain ys → AllPlain (xs ++ ys)
  plain_append xs ys all more = all_append (λ (e : HostEntry W). IsPlain e.reply) xs ys all more

  -- ---- lists of calls

  waiting_more : (back : HostFrontReply W) (message : List ℕ) (later more : List (List ℕ)) → waiting_after back message later ++ more ≡ waiting_after back message (later ++ more)
  waiting_more (reply.Full given) message later more = refl
  waiting_more reply.Over message later more = refl
  waiting_more (reply.Messages filled why) message later more = refl
  waiting_more (reply.First pass what) message later more = refl
  waiting_more (reply.Done woken full) message later more = refl
  waiting_more (reply.Wrong cause) message later more = refl
  waiting_more (reply.Stray device id) message later more = refl
  waiting_more (reply.BodyBad bad) message later more = refl
  waiting_more reply.Memory message later more = refl

  -- others wait behind them
  pub given_more : (c : ℕ) (xs : List (HostEntry W)) (waiting rest more : List (List ℕ)) → AreGiven c xs waiting rest → AreGiven c xs (waiting ++ more) (rest ++ more)
  given_more c [] waiting rest more are = ap (λ (l : List (List ℕ)). l ++ more) are
  given_more c (x ∷ xs) [] rest more are = absurd are
  given_more c (x ∷ xs) (message ∷ later) rest more are =
      (are.0, subst (λ (l : List (List ℕ)). AreGiven c xs l (rest ++ more)) (waiting_more x.reply message later more) (given_more c xs (waiting_after x.reply message later) rest more are.1))

  -- by these calls, and then by those
  pub given_then : (c : ℕ) (xs ys : List (HostEntry W)) (waiting mid rest : List (List ℕ)) → AreGiven c xs waiting mid → AreGiven c ys mid rest → AreGiven c (xs ++ ys) waiting rest
  given_then c [] ys waiting mid rest one two = subst (λ (l : List (List ℕ)). AreGiven c ys l rest) one two
  given_then c (x ∷ xs) ys [] mid rest one two = absurd one
  given_then c (x ∷ xs) ys (message ∷ later) mid rest one two = (one.0, given_then c xs ys (waiting_after x.reply message later) mid rest one.1 two)

  -- ---- one reply

  -- the message was taken
  taken_plain : (back : HostFrontReply W) (count : ℕ) (message : List ℕ) → heard.Taken ≡ after_reply back count → IsPlain back × (waiting_after back message [] ≡ [])
  taken_plain (reply.Done woken full) count message is = (tt, refl)
  taken_plain (reply.Full given) count message is = absurd (cc is)
  taken_plain reply.Over count message is = absurd (cc is)
  taken_plain (reply.Messages filled why) count message is = absurd (cc is)
  taken_plain (reply.First pass what) count message is = absurd (cc is)
  taken_plain (reply.Wrong cause) count message is = absurd (cc is)
  taken_plain (reply.Stray device id) count message is = absurd (cc is)
  taken_plain (reply.BodyBad bad) count message is = absurd (cc is)
  taken_plain reply.Memory count message is = absurd (cc is)

  -- this one waits then
  again_plain : (back : HostFrontReply W) (count : ℕ) (message next : List ℕ) → heard.Again next ≡ after_reply back count → IsPlain back × (waiting_after back message [] ≡ next ∷ [])
  again_plain (reply.Full given) count message next is = let same : next ≡ given = cc is in (tt, ap (λ (m : List ℕ). m ∷ []) (sym same))
  again_plain (reply.Done woken full) count message next is = absurd (cc is)
  again_plain reply.Over count message next is = absurd (cc is)
  again_plain (reply.Messages filled why) count message next is = absurd (cc is)
  again_plain (reply.First pass what) count message next is = absurd (cc is)
  again_plain (reply.Wrong cause) count message next is = absurd (cc is)
  again_plain (reply.Stray device id) count message next is = absurd (cc is)
  again_plain (reply.BodyBad bad) count message next is = absurd (cc is)
  again_plain reply.Memory count message next is = absurd (cc is)

  -- it is the last one: it was taken, or it is left since the channel is over
  last_rest : (back : HostFrontReply W) (count : ℕ) (message : List ℕ) (by : Ending) → heard.Last by ≡ after_reply back count → IsUnheard (Some by) (waiting_after back message [])
  last_rest (reply.Done woken full) count message by is = absurd (cc is)
  last_rest (reply.Full given) count message by is = absurd (cc is)
  last_rest reply.Over count message by is = let same : by ≡ ending.Over = cc is in subst (λ (e : Ending). IsUnheard (Some e) (message ∷ [])) (sym same) (message, refl)
  last_rest (reply.Messages filled why) count message by is = let same : by ≡ ending.Memory = cc is in subst (λ (e : Ending). IsUnheard (Some e) []) (sym same) refl
  last_rest (reply.First pass what) count message by is = let same : by ≡ ending.Memory = cc is in subst (λ (e : Ending). IsUnheard (Some e) []) (sym same) refl
  last_rest (reply.Wrong cause) count message by is =
      let same : by ≡ ending.Fault (wrong_at cause) (count - 1) (why.Message cause) = cc is in subst (λ (e : Ending). IsUnheard (Some e) []) (sym same) refl
  last_rest (reply.Stray device id) count message by is = let same : by ≡ ending.Fault id_place (count - 1) why.Stray = cc is in subst (λ (e : Ending). IsUnheard (Some e) []) (sym same) refl
  last_rest (reply.BodyBad bad) count message by is =
      let same : by ≡ ending.Fault (body_place + bad.at) (count - 1) (why.BodyBad bad.why) = cc is in subst (λ (e : Ending). IsUnheard (Some e) []) (sym same) refl
  last_rest reply.Memory count message by is = let same : by ≡ ending.Memory = cc is in subst (λ (e : Ending). IsUnheard (Some e) []) (sym same) refl

  -- ---- what came and what was heard

  heard_one : (c : ℕ) (does : HostFrontCall W) (back : HostFrontReply W) (message : List ℕ) (later : List (List ℕ)) → does ≡ call.Hear c message → GivesBack does back
      → message ∷ later ≡ heard_by c does back ++ waiting_after back message later
  heard_one c does back message later is gives =
      subst (λ (d : HostFrontCall W). message ∷ later ≡ heard_by c d back ++ waiting_after back message later) (sym is) (by_reply back (subst (λ (d : HostFrontCall W). GivesBack d back) is gives))
    where
      taken : message ∷ later ≡ (if c == c then message ∷ [] else []) ++ later
      taken = ap (λ (b : Bool). (if b then message ∷ [] else []) ++ later) (sym (eq-eqb c c refl))

      by_reply : (r : HostFrontReply W) → GivesBack (call.Hear c message) r → message ∷ later ≡ heard_by c (call.Hear c message) r ++ waiting_after r message later
      by_reply (reply.Full given) same = ap (λ (m : List ℕ). m ∷ later) (sym same)
      by_reply reply.Over same = refl
      by_reply (reply.Messages filled why) same = taken
      by_reply (reply.First pass what) same = taken
      by_reply (reply.Done woken full) same = taken
      by_reply (reply.Wrong cause) same = taken
      by_reply (reply.Stray device id) same = taken
      by_reply (reply.BodyBad bad) same = taken
      by_reply reply.Memory same = taken

  pub came_heard : (c : ℕ) (calls : List (HostEntry W)) (came rest : List (List ℕ)) → AreGiven c calls came rest → AllGiveBack calls → came ≡ messages_heard c calls ++ rest
  came_heard c [] came rest are gives = sym are
  came_heard c (e ∷ calls) [] rest are gives = absurd are
  came_heard c (e ∷ calls) (message ∷ later) rest are gives =
      heard_one c e.call e.reply message later are.0 gives.0
      ∙ ap (λ (l : List (List ℕ)). heard_by c e.call e.reply ++ l) (came_heard c calls (waiting_after e.reply message later) rest are.1 gives.1)
      ∙ sym (append_assoc (heard_by c e.call e.reply) (messages_heard c calls) rest)

-- ---- a message that is given until it is taken

module _ {F W : Type 0} where
  -- A pass gave a message to be heard, and this one waits.
  pub record IsWaiting (channel : ℕ) (first message : List ℕ) (old new : HostPass F W) : Type 0 where
    pub calls : List (HostEntry W)
    pub made : MakesCalls calls old new
    pub bytes : HearBytes calls
    pub given : AreGiven channel calls (first ∷ []) (message ∷ [])
    pub plain : AllPlain calls

  -- it is given
  record IsGiven (channel : ℕ) (first message : List ℕ) (back : HostFrontReply W) (old new : HostPass F W) : Type 0 where
    pub before : List (HostEntry W)
    pub last : HostEntry W
    pub last_is : last.reply ≡ back
    pub made : MakesCalls (before ++ last ∷ []) old new
    pub bytes : HearBytes (before ++ last ∷ [])
    pub given : AreGiven channel (before ++ last ∷ []) (first ∷ []) (waiting_after back message [])
    pub plain : AllPlain before

  given_once : (channel : ℕ) (first message : List ℕ) (count : ℕ) (became : Heard) (a b c : HostPass F W) → IsWaiting channel first message a b → (calls : CallsToHear channel message count became b c) → IsGiven channel first message calls.back a c
  given_once channel first message count became a b c waits calls =
      let e = entry b.number (call.Hear channel message) calls.back in
      record {
        before = waits.calls;
        last = e;
        last_is = refl;
        made = made_then waits.calls (e ∷ []) a b c waits.made calls.made;
        bytes = bytes_append waits.calls (e ∷ []) waits.bytes (calls.bytes, tt);
        given = given_then channel waits.calls (e ∷ []) (first ∷ []) (message ∷ []) (waiting_after calls.back message []) waits.given (refl, refl);
        plain = waits.plain;
      }

  pub waits_again : (channel : ℕ) (first message next : List ℕ) (count : ℕ) (a b c : HostPass F W) → IsWaiting channel first message a b → CallsToHear channel message count (heard.Again next) b c → IsWaiting channel first next a c
  waits_again channel first message next count a b c waits calls =
      let g = given_once channel first message count (heard.Again next) a b c waits calls in
      let so = again_plain calls.back count message next calls.became_is in
      record {
        calls = g.before ++ g.last ∷ [];
        made = g.made;
        bytes = g.bytes;
        given = subst (λ (l : List (List ℕ)). AreGiven channel (g.before ++ g.last ∷ []) (first ∷ []) l) so.1 g.given;
        plain = plain_append g.before (g.last ∷ []) g.plain (subst IsPlain (sym g.last_is) so.0, tt);
      }

  pub gives_taken : (channel : ℕ) (first message : List ℕ) (count : ℕ) (a b c : HostPass F W) → IsWaiting channel first message a b → CallsToHear channel message count heard.Taken b c → GivesMore channel (first ∷ []) count None a c
  gives_taken channel first message count a b c waits calls =
      let g = given_once channel first message count heard.Taken a b c waits calls in
      let so = taken_plain calls.back count message calls.became_is in
      record {
        calls = g.before ++ g.last ∷ [];
        made = g.made;
        gives = record {
          bytes = g.bytes;
          rest = [];
          given = subst (λ (l : List (List ℕ)). AreGiven channel (g.before ++ g.last ∷ []) (first ∷ []) l) so.1 g.given;
          all = refl;
          end_is = plain_append g.before (g.last ∷ []) g.plain (subst IsPlain (sym g.last_is) so.0, tt);
        };
      }

  pub gives_last : (channel : ℕ) (first message : List ℕ) (count : ℕ) (by : Ending) (a b c : HostPass F W) → IsWaiting channel first message a b → CallsToHear channel message count (heard.Last by) b c → GivesMore channel (first ∷ []) count (Some by) a c
  gives_last channel first message count by a b c waits calls =
      let g = given_once channel first message count (heard.Last by) a b c waits calls in
      record {
        calls = g.before ++ g.last ∷ [];
        made = g.made;
        gives = record {
          bytes = g.bytes;
          rest = waiting_after calls.back message [];
          given = g.given;
          all = last_rest calls.back count message by calls.became_is;
          end_is = record { before = g.before; last = g.last; calls_are = refl; plain = g.plain; is_so = ap (λ (r : HostFrontReply W). after_reply r count) g.last_is ∙ sym calls.became_is };
        };
      }
