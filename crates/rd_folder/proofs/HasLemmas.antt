-- What nodes there are.
use Rattle.std.proofs.Common.{◌≡◌, ◌∙◌, refl, sym, ap, subst, ◌⊎◌, inl, inr, Bool, true, false, ◌||◌, cond, List, [], ◌∷◌, map, filter, find, Option, Some, None, ⊎_elim}
use Rattle.std.specs.List.{list_any, AllByRecursion}
use Rattle.std.specs.Ordering.{is_lt}
use Rattle.std.proofs.lemmas.Bool.{cases_Bool}
use Rattle.std.proofs.lemmas.Option.{same_Some, none-some}
use Rattle.rd_dirinfo.specs.declared.naming.Naming.TheVariants.{Exact}
use Rattle.rd_dirinfo.specs.Paths.{Names, path_cmp}
use Rattle.rd_drive.specs.DriveState.{Node, add_node, in_order, is_at_path}
use Rattle.rd_folder.specs.Told.{ComesBefore, Rises}
use Rattle.rd_folder.proofs.ExactLemmas.{before_apart, before_chain, exact_same, other_before, same_exact}

-- a node is one of some
abbrev pub Has : List Node → Node → Type 0
Has [] x = ⊥
Has (y ∷ ys) x = (x ≡ y) ⊎ Has ys x

pub all_has : (P : Node → Type 0) (l : List Node) → AllByRecursion P l → (x : Node) → Has l x → P x
all_has P [] all x h = absurd h
all_has P (y ∷ ys) all x (inl e) = subst P (sym e) all.0
all_has P (y ∷ ys) all x (inr h) = all_has P ys all.1 x h

pub has_all : (P : Node → Type 0) (l : List Node) → ((x : Node) → Has l x → P x) → AllByRecursion P l
has_all P [] f = tt
has_all P (y ∷ ys) f = (f y (inl refl), has_all P ys (λ x h. f x (inr h)))

pub has_any : (p : Node → Bool) (l : List Node) (x : Node) → Has l x → p x ≡ true → list_any p l ≡ true
has_any p [] x h t = absurd h
has_any p (y ∷ ys) x (inl e) t = ap (λ b. b || list_any p ys) (ap p (sym e) ∙ t)
has_any p (y ∷ ys) x (inr h) t = ap (λ b. p y || b) (has_any p ys x h t) ∙ or_true (p y)
  where
    or_true : (b : Bool) → (b || true) ≡ true
    or_true true = refl
    or_true false = refl

pub find_has : (p : Node → Bool) (l : List Node) (x : Node) → find p l ≡ Some x → Has l x × (p x ≡ true)
find_has p [] x e = absurd (none-some x e)
find_has p (y ∷ ys) x e =
    ⊎_elim
    (λ t. let same : y ≡ x = same_Some y x (sym (ap (λ b. cond b (Some y) (find p ys)) t) ∙ e) in (inl (sym same), ap p (sym same) ∙ t))
    (λ f. let later = find_has p ys x (sym (ap (λ b. cond b (Some y) (find p ys)) f) ∙ e) in (inr later.0, later.1))
    (cases_Bool (p y))

pub find_none : (p : Node → Bool) (l : List Node) → find p l ≡ None → (x : Node) → Has l x → p x ≡ false
find_none p [] e x h = absurd h
find_none p (y ∷ ys) e x h =
    ⊎_elim
    (λ t. absurd (none-some y (sym (sym (ap (λ b. cond b (Some y) (find p ys)) t) ∙ e))))
    (λ f. by f (find_none p ys (sym (ap (λ b. cond b (Some y) (find p ys)) f) ∙ e)) h)
    (cases_Bool (p y))
  where
    by : p y ≡ false → ((x : Node) → Has ys x → p x ≡ false) → (x ≡ y) ⊎ Has ys x → p x ≡ false
    by f later (inl same) = ap p same ∙ f
    by f later (inr h) = later x h

pub none_find : (p : Node → Bool) (l : List Node) → ((x : Node) → Has l x → p x ≡ false) → find p l ≡ None
none_find p [] f = refl
none_find p (y ∷ ys) f = ap (λ b. cond b (Some y) (find p ys)) (f y (inl refl)) ∙ none_find p ys (λ x h. f x (inr h))

-- ---- added, put in order, changed and taken out

pub has_add : (y : Node) (l : List Node) (x : Node) → Has (add_node Exact y l) x → (x ≡ y) ⊎ Has l x
has_add y [] x h = h
has_add y (z ∷ zs) x h =
    ⊎_elim
    (λ t. by (has_add y zs x) (subst (λ b. Has (cond b (z ∷ add_node Exact y zs) (y ∷ z ∷ zs)) x) t h))
    (λ f. subst (λ b. Has (cond b (z ∷ add_node Exact y zs) (y ∷ z ∷ zs)) x) f h)
    (cases_Bool (is_lt (path_cmp Exact z.path y.path)))
  where
    by : (Has (add_node Exact y zs) x → (x ≡ y) ⊎ Has zs x) → (x ≡ z) ⊎ Has (add_node Exact y zs) x → (x ≡ y) ⊎ ((x ≡ z) ⊎ Has zs x)
    by later (inl e) = inr (inl e)
    by later (inr h) = past (later h)
      where
        past : (x ≡ y) ⊎ Has zs x → (x ≡ y) ⊎ ((x ≡ z) ⊎ Has zs x)
        past (inl e) = inl e
        past (inr h) = inr (inr h)

pub add_has : (y : Node) (l : List Node) (x : Node) → (x ≡ y) ⊎ Has l x → Has (add_node Exact y l) x
add_has y [] x h = h
add_has y (z ∷ zs) x h =
    ⊎_elim
    (λ t. subst (λ b. Has (cond b (z ∷ add_node Exact y zs) (y ∷ z ∷ zs)) x) (sym t) (by (add_has y zs x) h))
    (λ f. subst (λ b. Has (cond b (z ∷ add_node Exact y zs) (y ∷ z ∷ zs)) x) (sym f) h)
    (cases_Bool (is_lt (path_cmp Exact z.path y.path)))
  where
    by : ((x ≡ y) ⊎ Has zs x → Has (add_node Exact y zs) x) → (x ≡ y) ⊎ ((x ≡ z) ⊎ Has zs x) → (x ≡ z) ⊎ Has (add_node Exact y zs) x
    by later (inl e) = inr (later (inl e))
    by later (inr (inl e)) = inl e
    by later (inr (inr h)) = inr (later (inr h))

pub has_order : (l : List Node) (x : Node) → Has (in_order Exact l) x → Has l x
has_order [] x h = h
has_order (y ∷ ys) x h = by (has_order ys x) (has_add y (in_order Exact ys) x h)
  where
    by : (Has (in_order Exact ys) x → Has ys x) → (x ≡ y) ⊎ Has (in_order Exact ys) x → (x ≡ y) ⊎ Has ys x
    by later (inl e) = inl e
    by later (inr h) = inr (later h)

pub order_has : (l : List Node) (x : Node) → Has l x → Has (in_order Exact l) x
order_has [] x h = h
order_has (y ∷ ys) x h = add_has y (in_order Exact ys) x (by (order_has ys x) h)
  where
    by : (Has ys x → Has (in_order Exact ys) x) → (x ≡ y) ⊎ Has ys x → (x ≡ y) ⊎ Has (in_order Exact ys) x
    by later (inl e) = inl e
    by later (inr h) = inr (later h)

pub has_map : (f : Node → Node) (l : List Node) (z : Node) → Has (map f l) z → (x : Node) × Has l x × (z ≡ f x)
has_map f [] z h = absurd h
has_map f (y ∷ ys) z (inl e) = (y, inl refl, e)
has_map f (y ∷ ys) z (inr h) = let x = has_map f ys z h in (x.0, inr x.1, x.2)

pub map_has : (f : Node → Node) (l : List Node) (x : Node) → Has l x → Has (map f l) (f x)
map_has f [] x h = absurd h
map_has f (y ∷ ys) x (inl e) = inl (ap f e)
map_has f (y ∷ ys) x (inr h) = inr (map_has f ys x h)

pub has_filter : (p : Node → Bool) (l : List Node) (x : Node) → Has (filter p l) x → Has l x × (p x ≡ true)
has_filter p [] x h = absurd h
has_filter p (y ∷ ys) x h =
    ⊎_elim
    (λ t. by t (has_filter p ys x) (subst (λ b. Has (cond b (y ∷ filter p ys) (filter p ys)) x) t h))
    (λ f. let later = has_filter p ys x (subst (λ b. Has (cond b (y ∷ filter p ys) (filter p ys)) x) f h) in (inr later.0, later.1))
    (cases_Bool (p y))
  where
    by : p y ≡ true → (Has (filter p ys) x → Has ys x × (p x ≡ true)) → (x ≡ y) ⊎ Has (filter p ys) x → ((x ≡ y) ⊎ Has ys x) × (p x ≡ true)
    by t later (inl e) = (inl e, ap p e ∙ t)
    by t later (inr h) = let past = later h in (inr past.0, past.1)

pub filter_has : (p : Node → Bool) (l : List Node) (x : Node) → Has l x → p x ≡ true → Has (filter p l) x
filter_has p [] x h t = absurd h
filter_has p (y ∷ ys) x (inl e) t = subst (λ b. Has (cond b (y ∷ filter p ys) (filter p ys)) x) (sym (ap p (sym e) ∙ t)) (inl e)
filter_has p (y ∷ ys) x (inr h) t =
    ⊎_elim
    (λ s. subst (λ b. Has (cond b (y ∷ filter p ys) (filter p ys)) x) (sym s) (inr (filter_has p ys x h t)))
    (λ s. subst (λ b. Has (cond b (y ∷ filter p ys) (filter p ys)) x) (sym s) (filter_has p ys x h t))
    (cases_Bool (p y))

-- equal pointwise on the nodes that there are
pub map_alike : (f g : Node → Node) (l : List Node) → ((x : Node) → Has l x → f x ≡ g x) → map f l ≡ map g l
map_alike f g [] same = refl
map_alike f g (y ∷ ys) same = λ i. same y (inl refl) i ∷ map_alike f g ys (λ x h. same x (inr h)) i

pub map_still : (f : Node → Node) (l : List Node) → ((x : Node) → Has l x → f x ≡ x) → map f l ≡ l
map_still f [] same = refl
map_still f (y ∷ ys) same = λ i. same y (inl refl) i ∷ map_still f ys (λ x h. same x (inr h)) i

pub filter_still : (p : Node → Bool) (l : List Node) → ((x : Node) → Has l x → p x ≡ true) → filter p l ≡ l
filter_still p [] same = refl
filter_still p (y ∷ ys) same = ap (λ b. cond b (y ∷ filter p ys) (filter p ys)) (same y (inl refl)) ∙ ap (◌∷◌ y) (filter_still p ys (λ x h. same x (inr h)))

-- ---- in order

-- no two are at one path
pub one_at : (l : List Node) → Rises l → (x y : Node) → Has l x → Has l y → x.path ≡ y.path → x ≡ y
one_at [] rises x y h k e = absurd h
one_at (z ∷ zs) rises x y (inl f) (inl g) e = f ∙ sym g
one_at (z ∷ zs) rises x y (inl f) (inr k) e =
    absurd (before_apart z.path y.path (all_has (ComesBefore z) zs rises.0 y k) (ap (λ (n : Node). n.path) (sym f) ∙ e))
one_at (z ∷ zs) rises x y (inr h) (inl g) e =
    absurd (before_apart z.path x.path (all_has (ComesBefore z) zs rises.0 x h) (ap (λ (n : Node). n.path) (sym g) ∙ sym e))
one_at (z ∷ zs) rises x y (inr h) (inr k) e = one_at zs rises.1 x y h k e

-- the node at its path
pub there_is : (l : List Node) → Rises l → (x : Node) → Has l x → (p : Names) → x.path ≡ p → find (is_at_path Exact p) l ≡ Some x
there_is l rises x h p e = by (find (is_at_path Exact p) l) refl
  where
    by : (o : Option Node) → find (is_at_path Exact p) l ≡ o → find (is_at_path Exact p) l ≡ Some x
    by None is = absurd (let clash : true ≡ false = sym (exact_same x.path p e) ∙ find_none (is_at_path Exact p) l is x h in cc)
    by (Some y) is =
        let found = find_has (is_at_path Exact p) l y is in
        is ∙ ap (λ (n : Node). Some n) (one_at l rises y x found.0 h (same_exact y.path p found.1 ∙ sym e))

-- nothing is at a path that no node has
pub none_is : (l : List Node) (p : Names) → find (is_at_path Exact p) l ≡ None → (x : Node) → Has l x → x.path ≡ p → ⊥
none_is l p is x h e = absurd (let clash : true ≡ false = sym (exact_same x.path p e) ∙ find_none (is_at_path Exact p) l is x h in cc)

-- a node at a path where none was stands in order among the others
pub add_rises : (y : Node) (l : List Node) → Rises l → ((x : Node) → Has l x → x.path ≡ y.path → ⊥) → Rises (add_node Exact y l)
add_rises y [] rises other = (tt, tt)
add_rises y (z ∷ zs) rises other =
    ⊎_elim
    (λ t. subst (λ b. Rises (cond b (z ∷ add_node Exact y zs) (y ∷ z ∷ zs))) (sym t)
    (has_all (ComesBefore z) (add_node Exact y zs) (λ x h. by t x (has_add y zs x h)), add_rises y zs rises.1 (λ x h e. other x (inr h) e)))
    (λ f. subst (λ b. Rises (cond b (z ∷ add_node Exact y zs) (y ∷ z ∷ zs))) (sym f)
    (has_all (ComesBefore y) (z ∷ zs) (λ x h. late (other_before z.path y.path f (λ e. other z (inl refl) e)) x h), rises))
    (cases_Bool (is_lt (path_cmp Exact z.path y.path)))
  where
    by : ComesBefore z y → (x : Node) → (x ≡ y) ⊎ Has zs x → ComesBefore z x
    by t x (inl e) = subst (ComesBefore z) (sym e) t
    by t x (inr h) = all_has (ComesBefore z) zs rises.0 x h

    late : ComesBefore y z → (x : Node) → (x ≡ z) ⊎ Has zs x → ComesBefore y x
    late t x (inl e) = subst (ComesBefore y) (sym e) t
    late t x (inr h) = before_chain y.path z.path x.path t (all_has (ComesBefore z) zs rises.0 x h)

-- no two of some nodes are at one path
abbrev pub AreApart : List Node → Type 0
AreApart [] = Unit {0}
AreApart (x ∷ xs) = ((y : Node) → Has xs y → y.path ≡ x.path → ⊥) × AreApart xs

pub order_rises : (l : List Node) → AreApart l → Rises (in_order Exact l)
order_rises [] apart = tt
order_rises (x ∷ xs) apart = add_rises x (in_order Exact xs) (order_rises xs apart.1) (λ y h e. apart.0 y (has_order xs y h) e)

pub filter_rises : (p : Node → Bool) (l : List Node) → Rises l → Rises (filter p l)
filter_rises p [] rises = tt
filter_rises p (y ∷ ys) rises =
    ⊎_elim
    (λ t. subst (λ b. Rises (cond b (y ∷ filter p ys) (filter p ys))) (sym t)
    (has_all (ComesBefore y) (filter p ys) (λ x h. all_has (ComesBefore y) ys rises.0 x (has_filter p ys x h).0), filter_rises p ys rises.1))
    (λ f. subst (λ b. Rises (cond b (y ∷ filter p ys) (filter p ys))) (sym f) (filter_rises p ys rises.1))
    (cases_Bool (p y))

-- with the paths as they were
pub map_rises : (f : Node → Node) → (l : List Node) → ((x : Node) → Has l x → (f x).path ≡ x.path) → Rises l → Rises (map f l)
map_rises f [] same rises = tt
map_rises f (y ∷ ys) same rises = (
  has_all (ComesBefore (f y)) (map f ys) (λ z h.
      let x = has_map f ys z h in
      let here : (f y).path ≡ y.path = same y (inl refl) in
      let there : z.path ≡ x.0.path = ap (λ (n : Node). n.path) x.2 ∙ same x.0 (inr x.1) in
      (λ i. is_lt (path_cmp Exact (here i) (there i))) ∙ all_has (ComesBefore y) ys rises.0 x.0 x.1),
  map_rises f ys (λ x h. same x (inr h)) rises.1,
)
