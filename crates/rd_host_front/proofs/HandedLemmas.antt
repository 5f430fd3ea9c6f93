-- Which messages a call hands out, by its parts.
use Rattle.std.proofs.Common.{◌≡◌, ◌∙◌, refl, sym, ap, subst, ℕ, zero, suc, Bool, true, List, [], ◌∷◌, ◌++◌, append_assoc, Option, Some, None}
use Rattle.std.specs.Prelude.{MatchBool}
use Rattle.std.specs.Option.{option_to_list}
use Rattle.rd_host.specs.Core.{sends}
use Rattle.rd_room.specs.Room.{MessageRoom}
use Rattle.rd_table.specs.declared.calls.PendingCall.TheVariants as table
use Rattle.rd_table.specs.declared.calls.PendingReply.TheVariants as replied
use Rattle.rd_host_front.specs.declared.calls.HostFrontCall.TheVariants as call
use Rattle.rd_host_front.specs.declared.calls.HostFrontReply.{HostFrontReply}
use Rattle.rd_host_front.specs.declared.calls.HostFrontReply.TheVariants as reply
use Rattle.rd_host_front.specs.declared.calls.Stop.{Stop}
use Rattle.rd_host_front.specs.HostFront.{Declines, FillsAfter, FillsRoom, HandsOne, GivesAfter, HandsOver, HostFrontStep, is_channel_on, none_over}
use Rattle.rd_host_front.specs.Parts as kind
use Rattle.rd_host_front.specs.Parts.{HandsOut, HostPart, HostPartsGo, handed_by_part, handed_by_parts, heard_by_part, heard_by_parts, own}
use Rattle.rd_host_front.specs.State.{HostFrontState}
use Rattle.rd_host_front.proofs.GoingLemmas.{core_of, parts_joined, table_of}

-- parts that hand out these messages, and in which nothing is heard
record Hands (old : HostFrontState) (messages : List (List ℕ)) (new : HostFrontState) : Type 0 where
  parts : List HostPart
  goes : HostPartsGo old parts new
  handed : handed_by_parts parts ≡ messages
  heard : heard_by_parts parts ≡ []

handed_joined : (xs ys : List HostPart) → handed_by_parts (xs ++ ys) ≡ handed_by_parts xs ++ handed_by_parts ys
handed_joined [] ys = refl
handed_joined (x ∷ xs) ys = ap (λ (l : List (List ℕ)). handed_by_part x ++ l) (handed_joined xs ys) ∙ sym (append_assoc (handed_by_part x) (handed_by_parts xs) (handed_by_parts ys))

heard_joined : (xs ys : List HostPart) → heard_by_parts (xs ++ ys) ≡ heard_by_parts xs ++ heard_by_parts ys
heard_joined [] ys = refl
heard_joined (x ∷ xs) ys = ap (λ (l : List (List ℕ)). heard_by_part x ++ l) (heard_joined xs ys) ∙ sym (append_assoc (heard_by_part x) (heard_by_parts xs) (heard_by_parts ys))

none_handed : (old new : HostFrontState) → new ≡ old → Hands old [] new
none_handed old new same = record { parts = []; goes = (ap core_of same, ap table_of same); handed = refl; heard = refl }

hands_joined : (a b c : HostFrontState) (xs ys : List (List ℕ)) → Hands a xs b → Hands b ys c → Hands a (xs ++ ys) c
hands_joined a b c xs ys one other = record {
  parts = one.parts ++ other.parts;
  goes = parts_joined one.parts other.parts a b c one.goes other.goes;
  handed = handed_joined one.parts other.parts ∙ ap (λ (l : List (List ℕ)). l ++ handed_by_parts other.parts) one.handed ∙ ap (λ (l : List (List ℕ)). xs ++ l) other.handed;
  heard = heard_joined one.parts other.parts ∙ ap (λ (l : List (List ℕ)). l ++ heard_by_parts other.parts) one.heard ∙ other.heard;
}

asked_table : (given : Option (List ℕ)) → handed_by_parts (own table.Outbox (replied.Sent given) ∷ []) ≡ option_to_list given
asked_table (Some message) = refl
asked_table None = refl

given_after : (sent : Option (List ℕ)) (old : HostFrontState) (given : Option (List ℕ)) (new : HostFrontState) (first : HostFrontState) → HostPartsGo first (kind.core (sends sent) ∷ []) old → GivesAfter old sent given new
    → Hands first (option_to_list given) new
given_after (Some message) old given new first core did = record {
  parts = kind.core (sends (Some message)) ∷ [];
  goes = subst (λ (s : HostFrontState). HostPartsGo first (kind.core (sends (Some message)) ∷ []) s) (sym did.1) core;
  handed = ap option_to_list (sym did.0);
  heard = refl;
}
given_after None old given new first core did = record {
  parts = kind.core (sends None) ∷ own table.Outbox (replied.Sent given) ∷ [];
  goes = parts_joined (kind.core (sends None) ∷ []) (own table.Outbox (replied.Sent given) ∷ []) first old new core (new, (ap core_of did.1, did.0), (refl, refl));
  handed = asked_table given;
  heard = refl;
}

gives_hands : (old : HostFrontState) (given : Option (List ℕ)) (new : HostFrontState) → HandsOne old given new → Hands old (option_to_list given) new
gives_hands old given new did = given_after did.0 did.1 given new old (did.1, ((did.2).0, ap table_of (did.2).1), (refl, refl)) did.3

fills_hands : (most : ℕ) (old : HostFrontState) (messages : List (List ℕ)) (why : Stop) (new : HostFrontState) → FillsRoom most old messages why new → Hands old messages new
fills_hands zero old messages why new did = subst (λ (ms : List (List ℕ)). Hands old ms new) (sym did.0) (none_handed old new did.2)
fills_hands (suc most) old messages why new did =
    after did.0 (λ later more. fills_hands most did.1 later why new more) (gives_hands old did.0 did.1 did.2) did.3
  where
    after : (given : Option (List ℕ)) → ((later : List (List ℕ)) → FillsRoom most did.1 later why new → Hands did.1 later new) → Hands old (option_to_list given) did.1
        → FillsAfter given did.1 messages why new (λ later. FillsRoom most did.1 later why new) → Hands old messages new
    after (Some message) on one (later, is, more) = subst (λ (ms : List (List ℕ)). Hands old ms new) (sym is) (hands_joined old did.1 new (message ∷ []) later one (on later more))
    after None on one (is, stopped, same) = subst (λ (ms : List (List ℕ)). Hands old ms new) (sym is) (hands_joined old did.1 new [] [] one (none_handed did.1 new same))

module _ {W : Type 0} where
  hands_out : (old : HostFrontState) (room : MessageRoom) (back : HostFrontReply W) (new : HostFrontState) → HandsOver old room back new → HandsOut old room back new
  hands_out old room (reply.Messages filled why) new did =
      let h = fills_hands room.places old filled.messages why new did.1 in
      record { filled = filled; why = why; is = refl; places = did.0; parts = h.parts; goes = h.goes; handed = h.handed; heard = h.heard }
  hands_out old room (reply.First pass what) new did = absurd did
  hands_out old room (reply.Done woken full) new did = absurd did
  hands_out old room (reply.Wrong cause) new did = absurd did
  hands_out old room (reply.Stray device id) new did = absurd did
  hands_out old room (reply.BodyBad bad) new did = absurd did
  hands_out old room reply.Memory new did = absurd did
  hands_out old room (reply.Full message) new did = absurd did
  hands_out old room reply.Over new did = absurd did

  pub next_hands : (old : HostFrontState) (channel : ℕ) (room : MessageRoom) (back : HostFrontReply W) (new : HostFrontState) → is_channel_on old channel ≡ true
      → HostFrontStep old (call.Next channel room) back new → HandsOut old room back new
  next_hands old channel room back new on step =
      hands_out old room back new (subst (λ (b : Bool). MatchBool b (HandsOver old room back new) (Declines (none_over room) back old new)) on step)
