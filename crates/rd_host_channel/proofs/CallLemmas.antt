-- Calls that a pass made, one after the other, and the messages of lists of calls.
use Rattle.std.proofs.Common.{◌≡◌, ◌∙◌, ℕ, List, [], ◌∷◌, ◌++◌, Bool, ap, sym, refl, subst, append_assoc, append-nil, eq-eqb}
use Rattle.std.specs.Prelude.{if◌then◌else◌}
use Rattle.rd_drive.proofs.AllLemmas.{all_append}
use Rattle.rd_host_front.specs.declared.calls.HostFrontCall.{HostFrontCall}
use Rattle.rd_host_front.specs.declared.calls.HostFrontCall.TheVariants as call
use Rattle.rd_host_front.specs.declared.calls.HostFrontReply.{HostFrontReply}
use Rattle.rd_host_front.specs.declared.calls.HostFrontReply.TheVariants as reply
use Rattle.rd_host_front.specs.declared.calls.Stop.{Stop}
use Rattle.rd_room.specs.Room.{MessageRoom}
use Rattle.rd_turn.specs.History.{calls_of, entry}
use Rattle.rd_turn.specs.Pass.{IsSamePass}
use Rattle.rd_host_channel.specs.Calls.{AllAskFor, AsksFor, HearBytes, HearsBytes, HostEntry, HostPass, MakesCalls, messages_by, messages_for}

module _ {F W : Type 0} where
  pub made_none : (old : HostPass F W) → MakesCalls [] old old
  made_none old = record { same = (refl, refl, refl, refl); own = sym (append-nil (calls_of old.number old.seen)) }

  pub made_one : (old new : HostPass F W) (does : HostFrontCall W) (back : HostFrontReply W) → IsSamePass old new → calls_of old.number new.seen ≡ calls_of old.number old.seen ++ entry old.number does back ∷ []
      → MakesCalls (entry old.number does back ∷ []) old new
  made_one old new does back same own = record { same = same; own = own }

  -- these calls, and then those
  pub made_then : (xs ys : List (HostEntry W)) (a b c : HostPass F W) → MakesCalls xs a b → MakesCalls ys b c → MakesCalls (xs ++ ys) a c
  made_then xs ys a b c one two = record {
    same = ((two.same).0 ∙ (one.same).0, (two.same).1 ∙ (one.same).1, (two.same).2 ∙ (one.same).2, (two.same).3 ∙ (one.same).3);
    own = subst (λ (n : ℕ). calls_of n c.seen ≡ calls_of n b.seen ++ ys) (one.same).0 two.own ∙ ap (λ (l : List (HostEntry W)). l ++ ys) one.own ∙ append_assoc (calls_of a.number a.seen) xs ys;
  }

module _ {W : Type 0} where
  pub bytes_append : (xs ys : List (HostEntry W)) → HearBytes xs → HearBytes ys → HearBytes (xs ++ ys)
  bytes_append xs ys all more = all_append (λ (e : HostEntry W). HearsBytes e.call) xs ys all more

  pub ask_append : (c : ℕ) (xs ys : List (HostEntry W)) → AllAskFor c xs → AllAskFor c ys → AllAskFor c (xs ++ ys)
  ask_append c xs ys all more = all_append (λ (e : HostEntry W). AsksFor c e.call) xs ys all more

  pub for_append : (c : ℕ) (xs ys : List (HostEntry W)) → messages_for c (xs ++ ys) ≡ messages_for c xs ++ messages_for c ys
  for_append c [] ys = refl
  for_append c (x ∷ xs) ys = ap (λ (l : List (List ℕ)). messages_by c x.call x.reply ++ l) (for_append c xs ys) ∙ sym (append_assoc (messages_by c x.call x.reply) (messages_for c xs) (messages_for c ys))

  -- another reply has none
  pub other_reply : (c : ℕ) (room : MessageRoom) (back : HostFrontReply W) → ((filled : MessageRoom) (why : Stop) → back ≡ reply.Messages filled why → ⊥) → messages_by c (call.Next c room) back ≡ []
  other_reply c room (reply.Messages filled why) not = absurd (not filled why refl)
  other_reply c room (reply.First pass what) not = refl
  other_reply c room (reply.Done woken full) not = refl
  other_reply c room (reply.Wrong cause) not = refl
  other_reply c room (reply.Stray device id) not = refl
  other_reply c room (reply.BodyBad bad) not = refl
  other_reply c room reply.Memory not = refl
  other_reply c room (reply.Full message) not = refl
  other_reply c room reply.Over not = refl

-- a call for messages of a channel hands out those of the room that comes back
pub for_it : (W : Type 0) (c : ℕ) (room filled : MessageRoom) (why : Stop) → messages_by {W = W} c (call.Next c room) (reply.Messages filled why) ≡ filled.messages
for_it W c room filled why = ap (λ (b : Bool). if b then filled.messages else []) (eq-eqb c c refl)
