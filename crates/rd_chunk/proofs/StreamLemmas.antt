-- Streams: their messages, and what comes after them, are read in one way.
use Rattle.std.proofs.Common.{◌≡◌, ◌<◌, ℕ, ◌+◌, arith, sym, ◌∙◌, ap, subst, length, ◌++◌, ◌∷◌, [], inl, inr, Some, Option, length-append, append_assoc, refl, List, take}
use Rattle.std.specs.List.{concat, flat_map}
use Rattle.std.proofs.lemmas.List.{take_at}
use Rattle.rd_chunk.specs.declared.head.RowFault.{RowFault}
use Rattle.rd_chunk.specs.declared.fault.ChunkWhy.{ChunkWhy}
use Rattle.rd_chunk.specs.Frames.{size_of, length_of, flags_of, data_of, AreFrames, One, Carried, Begun}
use Rattle.rd_chunk.specs.Faults.{size_fault, head_fault, ShowsFault, IsPart, ChunkFault}
use Rattle.rd_chunk.specs.Streams.{HasChunkFault, IsStream}
use Rattle.rd_chunk.proofs.HeadLemmas.{size_of-append, length_of-append, flags_of-append}
use Rattle.rd_chunk.proofs.FrameLemmas.{Blocked, unique, done_blocks, part_blocks, fault_blocks, fields_same, some_is_some}

-- frames with data are of one message alone
pub frames_agree : (n m : ℕ) (fs : List (List ℕ)) → AreFrames n 0 fs → AreFrames m 0 fs → 0 < length (flat_map data_of fs) → n ≡ m
frames_agree n m [] a b some = absurd (omega arith)
frames_agree n m (f ∷ fs) a b some = sym a.0.whole ∙ b.0.whole

-- a whole message at the start is one
pub one_agrees : (m m' a a' x y : List ℕ) → One m a → One m' a' → a ++ x ≡ a' ++ y → (m ≡ m') × (a ≡ a') × (x ≡ y)
one_agrees m m' a a' x y o p e =
    let lo : length (flat_map data_of o.frames) ≡ length m = ap length o.joined in
    let lp : length (flat_map data_of p.frames) ≡ length m' = ap length p.joined in
    let same = unique (length m) (length m') 0 (length m) (length m') o.frames p.frames x y o.most p.most (λ z. absurd (omega arith)) o.are p.are
    (omega arith) (omega arith) (done_blocks (length m) (length m) x o.some refl) (done_blocks (length m') (length m') y p.some refl)
    (ap (λ (r : List ℕ). r ++ x) o.bytes_are ∙ e ∙ ap (λ (r : List ℕ). r ++ y) (sym p.bytes_are)) in
    (sym o.joined ∙ ap (flat_map data_of) same.0 ∙ p.joined, sym o.bytes_are ∙ ap concat same.0 ∙ p.bytes_are, same.1)

-- a whole message at the start isn't frames of one that isn't complete
pub one_not_begun : (m a x : List ℕ) (n : ℕ) (j c y : List ℕ) → One m a → Begun n j c → Blocked n (length j) y → a ++ x ≡ c ++ y → ⊥
one_not_begun m a x n j c y o g blocked e =
    let lo : length (flat_map data_of o.frames) ≡ length m = ap length o.joined in
    let lg : length (flat_map data_of g.frames) ≡ length j = ap length g.joined_are in
    let same = unique (length m) n 0 (length m) (length j) o.frames g.frames x y o.most g.most (λ z. absurd (omega arith)) o.are g.are
    (omega arith) (omega arith) (done_blocks (length m) (length m) x o.some refl) blocked
    (ap (λ (r : List ℕ). r ++ x) o.bytes_are ∙ e ∙ ap (λ (r : List ℕ). r ++ y) (sym g.bytes_are)) in
    let agree : length m ≡ n = frames_agree (length m) n g.frames (subst (AreFrames (length m) 0) same.0 o.are) g.are (omega (arith, ap (λ (r : List (List ℕ)). length (flat_map data_of r)) same.0, o.some)) in
    omega (arith, ap (λ (r : List (List ℕ)). length (flat_map data_of r)) same.0, g.short)

-- frames of a message that isn't complete are those alone
pub begun_agrees : (n m : ℕ) (j k c d x y : List ℕ) → Begun n j c → Begun m k d → Blocked n (length j) x → Blocked m (length k) y → c ++ x ≡ d ++ y
    → (j ≡ k) × (c ≡ d) × (x ≡ y) × (0 < length j → n ≡ m)
begun_agrees n m j k c d x y o p bx by e =
    let lo : length (flat_map data_of o.frames) ≡ length j = ap length o.joined_are in
    let lp : length (flat_map data_of p.frames) ≡ length k = ap length p.joined_are in
    let same = unique n m 0 (length j) (length k) o.frames p.frames x y o.most p.most (λ z. absurd (omega arith)) o.are p.are
    (omega arith) (omega arith) bx by
    (ap (λ (r : List ℕ). r ++ x) o.bytes_are ∙ e ∙ ap (λ (r : List ℕ). r ++ y) (sym p.bytes_are)) in (
      sym o.joined_are ∙ ap (flat_map data_of) same.0 ∙ p.joined_are,
      sym o.bytes_are ∙ ap concat same.0 ∙ p.bytes_are,
      same.1,
      λ some. frames_agree n m p.frames (subst (AreFrames n 0) same.0 o.are) p.are (omega (arith, ap (λ (r : List (List ℕ)). length (flat_map data_of r)) same.0)),
    )

-- messages, frames of one that isn't complete, and bytes where no frame stands, are those alone
pub stream_agrees : (ms ns : List (List ℕ)) (a b : List ℕ) (n m : ℕ) (j k c d x y : List ℕ) → Carried ms a → Carried ns b → Begun n j c → Begun m k d
    → Blocked n (length j) x → Blocked m (length k) y → a ++ (c ++ x) ≡ b ++ (d ++ y) → (ms ≡ ns) × (a ≡ b) × (j ≡ k) × (c ≡ d) × (x ≡ y) × (0 < length j → n ≡ m)
stream_agrees [] [] a b n m j k c d x y ca cb bc bd bx by e =
    let same = begun_agrees n m j k c d x y bc bd bx by (sym (ap (λ (r : List ℕ). r ++ (c ++ x)) ca) ∙ e ∙ ap (λ (r : List ℕ). r ++ (d ++ y)) cb) in
    (refl, ca ∙ sym cb, same.0, same.1, same.2, same.3)
stream_agrees (o ∷ ms) [] a b n m j k c d x y ca cb bc bd bx by e =
    absurd (one_not_begun o ca.0 (ca.1 ++ (c ++ x)) m k d y ca.3 bd by
    (sym (append_assoc ca.0 ca.1 (c ++ x)) ∙ sym (ap (λ (r : List ℕ). r ++ (c ++ x)) ca.2) ∙ e ∙ ap (λ (r : List ℕ). r ++ (d ++ y)) cb))
stream_agrees [] (p ∷ ns) a b n m j k c d x y ca cb bc bd bx by e =
    absurd (one_not_begun p cb.0 (cb.1 ++ (d ++ y)) n j c x cb.3 bc bx
    (sym (append_assoc cb.0 cb.1 (d ++ y)) ∙ sym (ap (λ (r : List ℕ). r ++ (d ++ y)) cb.2) ∙ sym e ∙ ap (λ (r : List ℕ). r ++ (c ++ x)) ca))
stream_agrees (o ∷ ms) (p ∷ ns) a b n m j k c d x y ca cb bc bd bx by e =
    let one = one_agrees o p ca.0 cb.0 (ca.1 ++ (c ++ x)) (cb.1 ++ (d ++ y)) ca.3 cb.3
    (sym (append_assoc ca.0 ca.1 (c ++ x)) ∙ sym (ap (λ (r : List ℕ). r ++ (c ++ x)) ca.2) ∙ e ∙ ap (λ (r : List ℕ). r ++ (d ++ y)) cb.2 ∙ append_assoc cb.0 cb.1 (d ++ y)) in
    let rest = stream_agrees ms ns ca.1 cb.1 n m j k c d x y ca.4 cb.4 bc bd bx by one.2 in
    let head : o ≡ p = one.0 in
    let tail : ms ≡ ns = rest.0 in
    let first : ca.0 ≡ cb.0 = one.1 in
    let after : ca.1 ≡ cb.1 = rest.1 in
    let all : o ∷ ms ≡ p ∷ ns = cc in
    let bytes : ca.0 ++ ca.1 ≡ cb.0 ++ cb.1 = cc in
    (all, ca.2 ∙ bytes ∙ sym cb.2, rest.2, rest.3, rest.4, rest.5)

-- a fault's bytes are no frame, whatever follows
pub blocked_fault : (n : ℕ) (j head rest : List ℕ) (fault : RowFault) → ShowsFault n (length j) head fault → Blocked n (length j) (head ++ rest)
blocked_fault n j head rest fault has = fault_blocks n (length j) (head ++ rest) head rest fault refl has

some_agree : (a b : Option RowFault) (e f : RowFault) → a ≡ b → a ≡ Some e → b ≡ Some f → e ≡ f
some_agree a b e f same p q = cc

-- two heads that begin the same bytes have one fault
pub heads_agree : (n m before : ℕ) (a b x y : List ℕ) (e f : RowFault) → (0 < before → n ≡ m) → ShowsFault n before a e → ShowsFault m before b f → a ++ x ≡ b ++ y → (a ≡ b) × (e ≡ f)
heads_agree n m before a b x y e f same p q both = elim p.holds [
  | inl four ↦ elim q.holds [
    | inl four' ↦
        let one : a ≡ b = sym (take_at a x 4 four.0) ∙ ap (take 4) both ∙ take_at b y 4 four'.0 in
        (one, some_agree (size_fault (size_of a)) (size_fault (size_of b)) e f (ap (λ (r : List ℕ). size_fault (size_of r)) one) four.1 four'.1)
    | inr twelve' ↦ absurd (some_is_some (size_fault (size_of a)) e four.1 (ap size_fault (sym (size_of-append a x (omega (arith, four.0))) ∙ ap size_of both ∙ size_of-append b y (omega (arith, twelve'.0))) ∙ twelve'.1))
  ]
  | inr twelve ↦ elim q.holds [
    | inl four' ↦ absurd (some_is_some (size_fault (size_of b)) f four'.1 (ap size_fault (sym (size_of-append b y (omega (arith, four'.0))) ∙ ap size_of (sym both) ∙ size_of-append a x (omega (arith, twelve.0))) ∙ twelve.1))
    | inr twelve' ↦
        let one : a ≡ b = sym (take_at a x 12 twelve.0) ∙ ap (take 12) both ∙ take_at b y 12 twelve'.0 in
        (one, some_agree (head_fault n before a) (head_fault m before b) e f (fields_same n m before a b same (ap size_of one) (ap length_of one) (ap flags_of one)) twelve.2 twelve'.2)
  ]
]

-- a fault isn't a part in which no row holds
pub fault_not_part : (n m before : ℕ) (a x part : List ℕ) (e : RowFault) → (0 < before → n ≡ m) → ShowsFault n before a e → IsPart m before part → a ++ x ≡ part → ⊥
fault_not_part n m before a x part e same p q both =
    let len : length part ≡ length a + length x = sym (ap length both) ∙ length-append a x in
    elim p.holds [
      | inl four ↦ some_is_some (size_fault (size_of a)) e four.1 (ap size_fault (sym (size_of-append a x (omega (arith, four.0))) ∙ ap size_of both) ∙ q.size (omega (arith, four.0)))
      | inr twelve ↦ some_is_some (head_fault n before a) e twelve.2 (fields_same n m before a part same
          (sym (size_of-append a x (omega (arith, twelve.0))) ∙ ap size_of both) (sym (length_of-append a x (omega (arith, twelve.0))) ∙ ap length_of both) (sym (flags_of-append a x (omega (arith, twelve.0))) ∙ ap flags_of both)
          ∙ q.head (omega (arith, twelve.0)))
    ]

-- the bytes of a fault and what follows, from the left
pub regroup : (s t u r : List ℕ) → s ++ (t ++ (u ++ r)) ≡ s ++ t ++ u ++ r
regroup s t u r = sym (append_assoc (s ++ t) u r ∙ append_assoc s t (u ++ r))

-- a stream has one fault at most
pub one_fault : (a b x y : List ℕ) (p q : ℕ) (v w : ChunkWhy) → ChunkFault a p v → ChunkFault b q w → a ++ x ≡ b ++ y → (a ≡ b) × (p ≡ q) × (v ≡ w)
one_fault a b x y p q v w f g e =
    let same = stream_agrees f.messages g.messages f.whole g.whole f.n g.n f.joined g.joined f.begun g.begun (f.head ++ x) (g.head ++ y) f.are_whole g.are_whole f.are_begun g.are_begun
    (blocked_fault f.n f.joined f.head x f.fault f.has) (blocked_fault g.n g.joined g.head y g.fault g.has)
    (regroup f.whole f.begun f.head x ∙ sym (ap (λ (r : List ℕ). r ++ x) f.bytes_are) ∙ e ∙ ap (λ (r : List ℕ). r ++ y) g.bytes_are ∙ sym (regroup g.whole g.begun g.head y)) in
    let has' : ShowsFault g.n (length f.joined) g.head g.fault = subst (λ (r : List ℕ). ShowsFault g.n (length r) g.head g.fault) (sym same.2) g.has in
    let heads = heads_agree f.n g.n (length f.joined) f.head g.head x y f.fault g.fault same.5 f.has has' same.4 in
    let whole : f.whole ≡ g.whole = same.1 in
    let begun : f.begun ≡ g.begun = same.3 in
    let head : f.head ≡ g.head = heads.0 in
    let fault : f.fault ≡ g.fault = heads.1 in
    let bytes : f.whole ++ f.begun ++ f.head ≡ g.whole ++ g.begun ++ g.head = cc in
    let place : length f.whole + length f.begun + f.fault.offset ≡ length g.whole + length g.begun + g.fault.offset = cc in
    let why : f.fault.why ≡ g.fault.why = cc in
    (f.bytes_are ∙ bytes ∙ sym g.bytes_are, f.place_is ∙ place ∙ sym g.place_is, f.why_is ∙ why ∙ sym g.why_is)

-- a stream with a fault isn't one without
pub never_both : (ms : List (List ℕ)) (bytes : List ℕ) → HasChunkFault bytes → IsStream ms bytes → ⊥
never_both ms bytes h s =
    let f = h.fault in
    let same = stream_agrees f.messages ms f.whole s.whole f.n s.n f.joined s.joined f.begun s.begun (f.head ++ h.rest) s.part f.are_whole s.are_whole f.are_begun s.are_begun
    (blocked_fault f.n f.joined f.head h.rest f.fault f.has) (part_blocks s.n (length s.joined) s.part s.is_part)
    (regroup f.whole f.begun f.head h.rest ∙ sym (ap (λ (r : List ℕ). r ++ h.rest) f.bytes_are) ∙ sym h.bytes_are ∙ s.bytes_are ∙ append_assoc s.whole s.begun s.part) in
    fault_not_part f.n s.n (length f.joined) f.head h.rest s.part f.fault same.5 f.has
    (subst (λ (r : List ℕ). IsPart s.n (length r) s.part) (sym same.2) s.is_part) same.4

-- the messages of a stream are those alone
pub one_reading : (ms ns : List (List ℕ)) (bytes : List ℕ) → IsStream ms bytes → IsStream ns bytes → ms ≡ ns
one_reading ms ns bytes s t =
    (stream_agrees ms ns s.whole t.whole s.n t.n s.joined t.joined s.begun t.begun s.part t.part s.are_whole t.are_whole s.are_begun t.are_begun
    (part_blocks s.n (length s.joined) s.part s.is_part) (part_blocks t.n (length t.joined) t.part t.is_part)
    (sym (append_assoc s.whole s.begun s.part) ∙ sym s.bytes_are ∙ t.bytes_are ∙ append_assoc t.whole t.begun t.part)).0
