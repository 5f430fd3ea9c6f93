-- Three functions that are a tree are one again after a node came, went or moved.
use Rattle.std.proofs.Common.{◌≡◌, ◌∙◌, refl, sym, ap, subst, ℕ, zero, suc, ◌+◌, ◌<◌, ◌≤◌, ◌⊎◌, inl, inr, ⊎_elim, Bool, true, false, [], ◌∷◌, ◌++◌, length, Option, Some, None, arith, length-append}
use Rattle.std.specs.Option.{option_map_or, IsSome}
use Rattle.std.proofs.lemmas.Bool.{cases_eq}
use Rattle.std.proofs.lemmas.List.{append-nil}
use Rattle.rd_tree.specs.Walk.{Key, Keys, Child, Up, onward, down, up_path, path_of, Starts, LinksAgree, IsTree}
use Rattle.rd_tree.proofs.KeyLemmas.{same_key, starts, down_on, down_lost, path_found, Edge, added, removed, moved_to, moved_others}

-- two edges are one, or not
pub same_edge : (n m : ℕ) (x y : Key) → Edge n x m y ⊎ (Edge n x m y → ⊥)
same_edge n m x y = ⊎_elim
    (λ e. ⊎_elim (λ f. inl (e, f)) (λ not. inr (λ g. not g.1)) (same_key y x))
    (λ not. inr (λ g. not g.0)) (cases_eq m n)

length-up_path : (up : Up) (fuel n : ℕ) (path : Keys) → length (up_path fuel up n path) ≤ fuel + length path
length-up_path up zero n path = omega arith
length-up_path up (suc fuel) n path = by (λ m p. length-up_path up fuel m p) (up n)
  where
    by : ((m : ℕ) (p : Keys) → length (up_path fuel up m p) ≤ fuel + length p) → (o : Option (ℕ × Key)) → length (option_map_or (λ p. up_path fuel up p.0 (p.1 ∷ path)) o path) ≤ suc fuel + length path
    by more None = omega arith
    by more (Some p) = omega (arith, more p.0 (p.1 ∷ path))

pub length-path_of : (up : Up) (n : ℕ) → length (path_of up n) ≤ 64
length-path_of up n = omega (arith, length-up_path up 64 n [])

-- the way to a node leads there if some way of at most 64 keys does
pub rooted_by : (child : Child) (up : Up) → LinksAgree child up → (p : Keys) (m : ℕ) → down child 0 p ≡ Some m → length p ≤ 64 → down child 0 (path_of up m) ≡ Some m
rooted_by child up agrees p m is short = ap (down child 0) (path_found child up agrees p m 64 is short) ∙ is

pub some_is : {T : Type 0} (o : Option T) (x : T) → o ≡ Some x → IsSome o
some_is {T} o x e = grind arith

pub not_some : {T : Type 0} (o : Option T) → o ≡ None → IsSome o → ⊥
not_some {T} o e h = grind arith

pub none_some : (p : ℕ × Key) → None ≡ Some p → ⊥
none_some p e = absurd (cc)

-- two pairs are one where options of them are
pub inside : (p q : ℕ × Key) → Some p ≡ Some q → p ≡ q
inside p q e = cc

module _ (child : Child) (up : Up) (kind : ℕ → Option Bool) (tree : IsTree child up kind) where
  -- a node comes
  pub sound_added : (new : Child) (links : Up) (kinds : ℕ → Option Bool) (front : Keys) (x : Key) (n m : ℕ) (folder : Bool)
      → down child 0 front ≡ Some n → length front < 64 → kind n ≡ Some true → child n x ≡ None → kind m ≡ None
      → ((k : ℕ) (y : Key) → (Edge n x k y → ⊥) → new k y ≡ child k y) → new n x ≡ Some m
      → ((k : ℕ) → (k ≡ m → ⊥) → links k ≡ up k) → links m ≡ Some (n, x)
      → ((k : ℕ) → (k ≡ m → ⊥) → kinds k ≡ kind k) → kinds m ≡ Some folder → ((y : Key) → new m y ≡ None) → IsTree new links kinds
  sound_added new links kinds front x n m folder at short is_folder free fresh same is sames link kinds_same made bare =
      let live : (k : ℕ) → IsSome (kind k) → k ≡ m → ⊥ = λ k h e. not_some (kind m) fresh (subst (λ (j : ℕ). IsSome (kind j)) e h) in
      let top : 0 ≡ m → ⊥ = live 0 (some_is (kind 0) true tree.root) in
      let agrees : LinksAgree new links = record {
        root = sames 0 top ∙ tree.agrees.root;
        links = λ a y j found. ⊎_elim
            (λ e. let j_is : j ≡ m = let there : Some j ≡ Some m = sym found ∙ ap (λ k. new k y) e.0 ∙ ap (λ z. new n z) e.1 ∙ is in cc in
            ap links j_is ∙ link ∙ ap Some (sym (pair a n y x e.0 e.1)))
            (λ not. let old : up j ≡ Some (a, y) = tree.agrees.links a y j (sym (same a y not) ∙ found) in sames j (live j (tree.lives j a y old)) ∙ old)
            (same_edge n a x y);
      } in
      record {
        agrees = agrees;
        root = kinds_same 0 top ∙ tree.root;
        back = λ j a y linked. ⊎_elim
            (λ e. let p : ◌≡◌ {A = ℕ × Key} (a, y) (n, x) = inside (a, y) (n, x) (sym linked ∙ ap links e ∙ link) in
            let a_is : a ≡ n = ap (λ q. q.0) p in let y_is : y ≡ x = ap (λ q. q.1) p in
            ap (λ k. new k y) a_is ∙ ap (λ z. new n z) y_is ∙ is ∙ ap Some (sym e))
            (λ not. let old : child a y ≡ Some j = tree.back j a y (sym (sames j not) ∙ linked) in
            same a y (λ e. let lost : None ≡ Some j = sym free ∙ sym (ap (λ k. child k y) e.0 ∙ ap (λ z. child n z) e.1) ∙ old in absurd (cc)) ∙ old)
            (cases_eq j m);
        lives = λ j a y linked. ⊎_elim
            (λ e. some_is (kinds j) folder (ap kinds e ∙ made))
            (λ not. subst (λ (v : Option Bool). IsSome v) (sym (kinds_same j not)) (tree.lives j a y (sym (sames j not) ∙ linked)))
            (cases_eq j m);
        rooted = λ j h. ⊎_elim
            (λ e. rooted_by new links agrees (front ++ x ∷ []) j ((added child up tree.agrees new front (front ++ x ∷ []) x n m at free same is bare).0 refl ∙ ap Some (sym e)) (omega (arith, length-append front (x ∷ []))))
            (λ not. let was : IsSome (kind j) = subst (λ (v : Option Bool). IsSome v) (kinds_same j not) h in
            let path : Keys = path_of up j in
            let old : down child 0 path ≡ Some j = tree.rooted j was in
            let apart : path ≡ front ++ x ∷ [] → ⊥ = λ e. let gone : None ≡ Some j = sym (ap (down child 0) e ∙ down_on child 0 n front (x ∷ []) at ∙ ap (λ o. onward o (λ k. Some k)) free) ∙ old in absurd (cc) in
            rooted_by new links agrees path j ((added child up tree.agrees new front path x n m at free same is bare).1 apart ∙ old) (length-path_of up j))
            (cases_eq j m);
        files = λ j y file. ⊎_elim
            (λ e. ap (λ k. new k y) e ∙ bare y)
            (λ not. let old : kind j ≡ Some false = sym (kinds_same j not) ∙ file in
            same j y (λ e. let both : Some false ≡ Some true = sym old ∙ ap kind e.0 ∙ is_folder in absurd (cc)) ∙ tree.files j y old)
            (cases_eq j m);
      }
    where
      pair : (a n : ℕ) (y x : Key) → a ≡ n → y ≡ x → ◌≡◌ {A = ℕ × Key} (a, y) (n, x)
      pair a n y x e f = cc

  -- a node without children goes
  pub sound_removed : (new : Child) (links : Up) (kinds : ℕ → Option Bool) (front : Keys) (x : Key) (n m : ℕ)
      → down child 0 front ≡ Some n → child n x ≡ Some m → ((y : Key) → child m y ≡ None)
      → ((k : ℕ) (y : Key) → (Edge n x k y → ⊥) → new k y ≡ child k y) → new n x ≡ None
      → ((k : ℕ) → (k ≡ m → ⊥) → links k ≡ up k) → links m ≡ None
      → ((k : ℕ) → (k ≡ m → ⊥) → kinds k ≡ kind k) → kinds m ≡ None → IsTree new links kinds
  sound_removed new links kinds front x n m at is bare same gone sames unlinked kinds_same dead =
      let edge : up m ≡ Some (n, x) = tree.agrees.links n x m is in
      let top : 0 ≡ m → ⊥ = λ e. let both : None ≡ Some (n, x) = sym tree.agrees.root ∙ ap up e ∙ edge in absurd (cc) in
      let here : down child 0 (front ++ x ∷ []) ≡ Some m = down_on child 0 n front (x ∷ []) at ∙ ap (λ o. onward o (λ k. Some k)) is in
      let agrees : LinksAgree new links = record {
        root = sames 0 top ∙ tree.agrees.root;
        links = λ a y j found. ⊎_elim
            (λ e. let both : None ≡ Some j = sym gone ∙ sym (ap (λ k. new k y) e.0 ∙ ap (λ z. new n z) e.1) ∙ found in absurd (cc))
            (λ not. let old : up j ≡ Some (a, y) = tree.agrees.links a y j (sym (same a y not) ∙ found) in
            sames j (λ e. let p : ◌≡◌ {A = ℕ × Key} (a, y) (n, x) = inside (a, y) (n, x) (sym old ∙ ap up e ∙ edge) in not (ap (λ q. q.0) p, ap (λ q. q.1) p)) ∙ old)
            (same_edge n a x y);
      } in
      let linked_not : (j a : ℕ) (y : Key) → links j ≡ Some (a, y) → j ≡ m → ⊥ = λ j a y linked e. let both : None ≡ Some (a, y) = sym unlinked ∙ ap links (sym e) ∙ linked in absurd (cc) in
      record {
        agrees = agrees;
        root = kinds_same 0 top ∙ tree.root;
        back = λ j a y linked.
            let not : j ≡ m → ⊥ = linked_not j a y linked in
            let old : child a y ≡ Some j = tree.back j a y (sym (sames j not) ∙ linked) in
            same a y (λ e. let both : Some j ≡ Some m = sym old ∙ ap (λ k. child k y) e.0 ∙ ap (λ z. child n z) e.1 ∙ is in not (cc)) ∙ old;
        lives = λ j a y linked. let not : j ≡ m → ⊥ = linked_not j a y linked in subst (λ (v : Option Bool). IsSome v) (sym (kinds_same j not)) (tree.lives j a y (sym (sames j not) ∙ linked));
        rooted = λ j h.
            let not : j ≡ m → ⊥ = λ e. not_some (kinds j) (ap kinds e ∙ dead) h in
            let path : Keys = path_of up j in
            let old : down child 0 path ≡ Some j = tree.rooted j (subst (λ (v : Option Bool). IsSome v) (kinds_same j not) h) in
            let apart : path ≡ front ++ x ∷ [] → ⊥ = λ e. let both : Some j ≡ Some m = sym old ∙ ap (down child 0) e ∙ here in not (cc) in
            rooted_by new links agrees path j ((removed child up tree.agrees new front path x n m at is bare same gone).1 apart ∙ old) (length-path_of up j);
        files = λ j y file.
            let not : j ≡ m → ⊥ = λ e. let both : None ≡ Some false = sym dead ∙ ap kinds (sym e) ∙ file in absurd (cc) in
            ⊎_elim (λ e. ap (λ k. new k y) e.0 ∙ ap (λ z. new n z) e.1 ∙ gone)
            (λ no. same j y no ∙ tree.files j y (sym (kinds_same j not) ∙ file)) (same_edge n j x y);
      }

  -- a node moves to another edge, whose node, a file, goes
  module _ (new : Child) (links : Up) (kinds : ℕ → Option Bool) (front into : Keys) (x y : Key) (n b m : ℕ)
      (at : down child 0 front ≡ Some n) (is : child n x ≡ Some m) (to_at : down child 0 into ≡ Some b) (is_folder : kind b ≡ Some true) (outside : Starts (front ++ x ∷ []) into → ⊥) (elsewhere : Edge n x b y → ⊥)
      (target : (t : ℕ) → child b y ≡ Some t → kind t ≡ Some false) (fits : (q : Keys) (j : ℕ) → down child m q ≡ Some j → length into + 1 + length q ≤ 64)
      (here : new b y ≡ Some m) (gone : new n x ≡ None) (same : (k : ℕ) (z : Key) → (Edge n x k z → ⊥) → (Edge b y k z → ⊥) → new k z ≡ child k z)
      (link : links m ≡ Some (b, y)) (sames : (k : ℕ) → (k ≡ m → ⊥) → (child b y ≡ Some k → ⊥) → links k ≡ up k) (unlinked : (k : ℕ) → child b y ≡ Some k → links k ≡ None)
      (kinds_same : (k : ℕ) → (child b y ≡ Some k → ⊥) → kinds k ≡ kind k) (dead : (k : ℕ) → child b y ≡ Some k → kinds k ≡ None) where
    edge : up m ≡ Some (n, x)
    edge = tree.agrees.links n x m is

    same_pair : (j a c : ℕ) (z w : Key) → up j ≡ Some (a, z) → up j ≡ Some (c, w) → Edge c w a z
    same_pair j a c z w e f = let p : ◌≡◌ {A = ℕ × Key} (a, z) (c, w) = inside (a, z) (c, w) (sym e ∙ f) in (ap (λ q. q.0) p, ap (λ q. q.1) p)

    is_gone : (k : ℕ) → (child b y ≡ Some k) ⊎ (child b y ≡ Some k → ⊥)
    is_gone k = by (child b y) refl
      where
        by : (o : Option ℕ) → child b y ≡ o → (child b y ≡ Some k) ⊎ (child b y ≡ Some k → ⊥)
        by None e = inr (λ f. let both : None ≡ Some k = sym e ∙ f in absurd (cc))
        by (Some t) e = ⊎_elim (λ f. inl (e ∙ ap Some f)) (λ not. inr (λ f. let both : Some t ≡ Some k = sym e ∙ f in not (cc))) (cases_eq t k)

    moves_stays : child b y ≡ Some m → ⊥
    moves_stays e = elsewhere (same_pair m b n y x (tree.agrees.links b y m e) edge)

    top_stays : (child b y ≡ Some 0 → ⊥) × (0 ≡ m → ⊥)
    top_stays = ((λ e. let both : None ≡ Some (b, y) = sym tree.agrees.root ∙ tree.agrees.links b y 0 e in absurd (cc)), (λ e. let both : None ≡ Some (n, x) = sym tree.agrees.root ∙ ap up e ∙ edge in absurd (cc)))

    -- an edge that neither goes nor comes
    kept : (a j : ℕ) (z : Key) → child a z ≡ Some j → (j ≡ m → ⊥) → (child b y ≡ Some j → ⊥) → new a z ≡ Some j
    kept a j z old not stays = same a z
        (λ e. let both : Some j ≡ Some m = sym old ∙ ap (λ k. child k z) e.0 ∙ ap (λ w. child n w) e.1 ∙ is in not (cc))
        (λ e. stays (sym (ap (λ k. child k z) e.0 ∙ ap (λ w. child b w) e.1) ∙ old)) ∙ old

    moved_agrees : LinksAgree new links
    moved_agrees = record {
      root = sames 0 top_stays.1 top_stays.0 ∙ tree.agrees.root;
      links = λ a z j found. ⊎_elim
          (λ e. let both : Some j ≡ Some m = sym found ∙ ap (λ k. new k z) e.0 ∙ ap (λ w. new b w) e.1 ∙ here in
          let j_is : j ≡ m = cc in ap links j_is ∙ link ∙ ap Some (pair b a y z (sym e.0) (sym e.1)))
          (λ not. ⊎_elim
          (λ e. let both : None ≡ Some j = sym gone ∙ sym (ap (λ k. new k z) e.0 ∙ ap (λ w. new n w) e.1) ∙ found in absurd (cc))
          (λ also. let old : up j ≡ Some (a, z) = tree.agrees.links a z j (sym (same a z also not) ∙ found) in
          sames j (λ e. also (same_pair j a n z x old (ap up e ∙ edge))) (λ e. not (same_pair j a b z y old (tree.agrees.links b y j e))) ∙ old)
          (same_edge n a x z))
          (same_edge b a y z);
    }
      where
        pair : (a c : ℕ) (z w : Key) → a ≡ c → z ≡ w → ◌≡◌ {A = ℕ × Key} (a, z) (c, w)
        pair a c z w e f = cc

    alive : (j : ℕ) → IsSome (kinds j) → child b y ≡ Some j → ⊥
    alive j h e = not_some (kinds j) (dead j e) h

    linked_alive : (j a : ℕ) (z : Key) → links j ≡ Some (a, z) → child b y ≡ Some j → ⊥
    linked_alive j a z linked e = none_some (a, z) (sym (unlinked j e) ∙ linked)

    -- no way to a live node, but to the one that goes, leads over the new edge
    away : (p : Keys) (j : ℕ) → down child 0 p ≡ Some j → (child b y ≡ Some j → ⊥) → Starts (into ++ y ∷ []) p → ⊥
    away p j old stays s = deeper s.0 s.1 (child b y) refl
      where
        meets : down child 0 (into ++ y ∷ []) ≡ onward (child b y) (λ k. Some k)
        meets = down_on child 0 b into (y ∷ []) to_at

        deeper : (rest : Keys) → p ≡ (into ++ y ∷ []) ++ rest → (o : Option ℕ) → child b y ≡ o → ⊥
        deeper rest e None t = let both : None ≡ Some j = sym (down_lost child 0 (into ++ y ∷ []) rest (meets ∙ ap (λ o. onward o (λ k. Some k)) t)) ∙ sym (ap (down child 0) e) ∙ old in absurd (cc)
        deeper [] e (Some t) f = let both : Some t ≡ Some j = sym (ap (down child 0) (e ∙ append-nil (into ++ y ∷ [])) ∙ meets ∙ ap (λ o. onward o (λ k. Some k)) f) ∙ old in stays (f ∙ both)
        deeper (z ∷ rest) e (Some t) f = let both : None ≡ Some j = sym (ap (down child 0) e ∙ down_on child 0 t (into ++ y ∷ []) (z ∷ rest) (meets ∙ ap (λ o. onward o (λ k. Some k)) f) ∙ ap (λ o. onward o (λ k. down child k rest)) (tree.files t z (target t f))) ∙ old in absurd (cc)

    pub sound_moved : IsTree new links kinds
    sound_moved = record {
      agrees = moved_agrees;
      root = kinds_same 0 top_stays.0 ∙ tree.root;
      back = λ j a z linked. ⊎_elim
          (λ e. let p : ◌≡◌ {A = ℕ × Key} (a, z) (b, y) = inside (a, z) (b, y) (sym linked ∙ ap links e ∙ link) in
          ap (λ q. new q.0 q.1) p ∙ here ∙ ap Some (sym e))
          (λ not. let stays : child b y ≡ Some j → ⊥ = linked_alive j a z linked in
          kept a j z (tree.back j a z (sym (sames j not stays) ∙ linked)) not stays)
          (cases_eq j m);
      lives = λ j a z linked.
          let stays : child b y ≡ Some j → ⊥ = linked_alive j a z linked in
          subst (λ (v : Option Bool). IsSome v) (sym (kinds_same j stays)) (⊎_elim
          (λ e. tree.lives j n x (ap up e ∙ edge))
          (λ not. tree.lives j a z (sym (sames j not stays) ∙ linked)) (cases_eq j m));
      rooted = λ j h.
          let stays : child b y ≡ Some j → ⊥ = alive j h in
          let path : Keys = path_of up j in
          let old : down child 0 path ≡ Some j = tree.rooted j (subst (λ (v : Option Bool). IsSome v) (kinds_same j stays) h) in
          ⊎_elim
          (λ s. let below : down child m s.0 ≡ Some j = sym (down_on child 0 m (front ++ x ∷ []) s.0 (down_on child 0 n front (x ∷ []) at ∙ ap (λ o. onward o (λ k. Some k)) is)) ∙ sym (ap (down child 0) s.1) ∙ old in
          rooted_by new links moved_agrees ((into ++ y ∷ []) ++ s.0) j
          (moved_to child up tree.agrees new front into x y n b m at is to_at outside here gone same s.0 ∙ sym (ap (down child 0) s.1) ∙ old)
          (omega (arith, fits s.0 j below, length-append (into ++ y ∷ []) s.0, length-append into (y ∷ []))))
          (λ no. rooted_by new links moved_agrees path j (moved_others child up tree.agrees new front into x y n b m at is to_at outside here gone same path no (away path j old stays) ∙ old) (length-path_of up j))
          (starts (front ++ x ∷ []) path);
      files = λ j z file.
          let stays : child b y ≡ Some j → ⊥ = λ e. let both : None ≡ Some false = sym (dead j e) ∙ file in absurd (cc) in
          let was : kind j ≡ Some false = sym (kinds_same j stays) ∙ file in
          ⊎_elim (λ e. ap (λ k. new k z) e.0 ∙ ap (λ w. new n w) e.1 ∙ gone)
          (λ no. same j z no (λ e. let both : Some false ≡ Some true = sym was ∙ ap kind e.0 ∙ is_folder in absurd (cc)) ∙ tree.files j z was) (same_edge n j x z);
    }

-- functions with the same values are a tree too
pub sound_same : (child new : Child) (up links : Up) (kind kinds : ℕ → Option Bool) → IsTree child up kind → ((n : ℕ) (x : Key) → new n x ≡ child n x) → ((n : ℕ) → links n ≡ up n) → ((n : ℕ) → kinds n ≡ kind n) → IsTree new links kinds
sound_same child new up links kind kinds tree children ups all =
    let c : child ≡ new = λ i. λ n x. (sym (children n x)) i in
    let u : up ≡ links = λ i. λ n. (sym (ups n)) i in
    let k : kind ≡ kinds = λ i. λ n. (sym (all n)) i in
    subst (λ (f : ℕ → Option Bool). IsTree new links f) k (subst (λ (f : Up). IsTree new f kind) u (subst (λ (f : Child). IsTree f up kind) c tree))
