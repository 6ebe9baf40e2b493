-- Two doings at different places can be in either order.
use Rattle.std.specs.Prelude.{◌≡◌, ◌≢◌, ◌⊎◌, ◌+◌, ℕ, suc, List, [], ◌∷◌, Contains, Option, Some, None, nat_eq, if◌then◌else◌}
use Rattle.std.proofs.Common.{arith, refl, sym, ap, subst, inl, inr, ◌∙◌}
use Rattle.std.proofs.lemmas.Bool.{eq-eqb, ne_eqb}
use Rattle.gos_model.specs.Terms.{Term, Par}
use Rattle.gos_model.specs.Typing.{Imports, Place, things, Apart}
use Rattle.gos_model.specs.Stores.{Entry, Store, entry_at, array_at}
use Rattle.gos_model.specs.Moves.{Running}
use Rattle.gos_model.proofs.NumberLemmas.{number_cases}
use Rattle.gos_programs.specs.contexts.Contexts.{Context, SeqFirst, ParLeft, ParRight, IfTest, BinLeft, HeldRight, NotOf, AssignRight, ScopeBody, ReadIndex, WriteIndex, plug, plug_all, ReadAt, WriteAt}
use Rattle.gos_programs.specs.contexts.Renaming.{renamed}
use Rattle.gos_programs.specs.contexts.SameStores.{SameEntries}
use Rattle.gos_programs.specs.contexts.Standing.{Present, StandsIn}
use Rattle.gos_programs.proofs.contexts.RenamedStoreLemmas.{entry_place, above, above_absent}
use Rattle.gos_programs.proofs.contexts.StoreLemmas.{not_both, first_at, later_at}
use Rattle.gos_swaps.specs.doings.Doings.{Doing, DoesAt}
use Rattle.gos_swaps.specs.doings.Sides.{OnSides}
use Rattle.gos_swaps.specs.proper.Proper.{PartsApart}
use Rattle.gos_swaps.specs.orders.Alike.{Renaming, Alike}
use Rattle.gos_swaps.specs.orders.Effects.{Shape, Effect, Stays, Writes, Opens, Closes, applied, renamed_effect, IsFree, IsOwn, carried, HasEffect}
use Rattle.gos_swaps.specs.orders.Orders.{EitherOrder}
use Rattle.gos_swaps.proofs.doings.PlaceLemmas.{does_on_left, does_on_right}
use Rattle.gos_swaps.proofs.doings.SideLemmas.{places_are_on_sides}
use Rattle.gos_swaps.proofs.proper.ThingLemmas.{place_present}
use Rattle.gos_swaps.proofs.orders.RenameLemmas.{Fixes, fixed, renamed_back, around_all}
use Rattle.gos_swaps.proofs.orders.EffectLemmas.{doings_have_effects, again_there, Touches, touch_cases, untouched, still_same}
use Rattle.gos_swaps.proofs.orders.AlikeLemmas.{Corresponds, alike_by, alike_same, alike_back}

-- a term at a reached place of one whose parts are apart, and that stands in a store
pub apart_in : (c : Context) (m : Term) → PartsApart (plug c m) → PartsApart m
apart_in (SeqFirst n) m h = h.0
apart_in (ParLeft n) m h = h.1
apart_in (ParRight n) m h = h.2
apart_in (IfTest n p) m h = h.0
apart_in (BinLeft op n) m h = h.0
apart_in (HeldRight k op) m h = h
apart_in NotOf m h = h
apart_in (AssignRight n) m h = h.1
apart_in (ScopeBody l) m h = h
apart_in (ReadIndex x n) m h = h.2.1
apart_in (WriteIndex x n k) m h = h.2.1
apart_in (ReadAt l) m h = h.2
apart_in (WriteAt l k) m h = h.2

pub stands_in : (s : Store) (c : Context) (m : Term) → StandsIn s (plug c m) → StandsIn s m
stands_in s (SeqFirst n) m h = h.0
stands_in s (ParLeft n) m h = h.0
stands_in s (ParRight n) m h = h.1
stands_in s (IfTest n p) m h = h.0
stands_in s (BinLeft op n) m h = h.0
stands_in s (HeldRight k op) m h = h
stands_in s NotOf m h = h
stands_in s (AssignRight n) m h = h.1
stands_in s (ScopeBody l) m h = h.1
stands_in s (ReadIndex x n) m h = h.1.1
stands_in s (WriteIndex x n k) m h = h.1.1
stands_in s (ReadAt l) m h = h.1
stands_in s (WriteAt l k) m h = h.1

pub apart_through : (cs : List Context) (m : Term) → PartsApart (plug_all cs m) → PartsApart m
apart_through [] m h = h
apart_through (c ∷ cs) m h = apart_through cs m (apart_in c (plug_all cs m) h)

stands_through : (s : Store) (cs : List Context) (m : Term) → StandsIn s (plug_all cs m) → StandsIn s m
stands_through s [] m h = h
stands_through s (c ∷ cs) m h = stands_through s cs m (stands_in s c (plug_all cs m) h)

-- where an effect's locations come from
abbrev Opened : Effect → ℕ → Type 0
Opened (Opens l w) x = l ≡ x
Opened e x = ⊥

origin : (e : Effect) (m : Term) (x : ℕ) → IsOwn e m → Touches e x → Contains (things 0 m) (Place x) ⊎ Opened e x
origin Stays m x own h = absurd h
origin (Writes l j k) m x own h = inl (subst (λ (z : ℕ). Contains (things 0 m) (Place z)) h own)
origin (Opens l w) m x own h = inr h
origin (Closes l) m x own h = inl (subst (λ (z : ℕ). Contains (things 0 m) (Place z)) h own)

opened_absent : (e : Effect) (s : Store) (x : ℕ) → IsFree e s → Opened e x → entry_at s x ≡ None
opened_absent (Opens l w) s x free h = subst (λ (z : ℕ). entry_at s z ≡ None) h free
opened_absent e s x free h = absurd h

opened_touched : (e : Effect) (x : ℕ) → Opened e x → Touches e x
opened_touched (Opens l w) x h = h
opened_touched e x h = absurd h

-- a side's effect touches no location of the other side
pub other_side :
    (s : Store) (e : Effect) (m n : Term) (x : ℕ) → IsOwn e m → IsFree e s → Apart m n → StandsIn s n → Contains (things 0 n) (Place x)
    → Touches e x → ⊥
other_side s e m n x own free apart stands h touched = by_origin (origin e m x own touched)
  where
    by_origin : Contains (things 0 m) (Place x) ⊎ Opened e x → ⊥
    by_origin (inl k) = apart (Place x) k h
    by_origin (inr o) = let p = place_present s n 0 x stands h in not_both (entry_at s x) p.0 (opened_absent e s x free o) p.1

-- two effects that take one location
abbrev Clash : Effect → Effect → Type 0
Clash (Opens l w) (Opens k v) = l ≡ k
Clash e f = ⊥

clash_of : (e f : Effect) (x : ℕ) → Opened e x → Opened f x → Clash e f
clash_of (Opens l w) (Opens k v) x h g = h ∙ sym g
clash_of (Opens l w) f x h g = absurd g
clash_of e f x h g = absurd h

clash_cases : {P : Type 0} (e f : Effect) → ((l : ℕ) (w v : Shape) → e ≡ Opens l w → f ≡ Opens l v → P) → ((Clash e f → ⊥) → P) → P
clash_cases (Opens l w) (Opens k v) one none =
    number_cases l k (λ same b. one l w v refl (ap (λ (z : ℕ). Opens z v) (sym same))) (λ other b. none other)
clash_cases (Opens l w) Stays one none = none (λ h. h)
clash_cases (Opens l w) (Writes k j n) one none = none (λ h. h)
clash_cases (Opens l w) (Closes k) one none = none (λ h. h)
clash_cases Stays f one none = none (λ h. h)
clash_cases (Writes l j k) f one none = none (λ h. h)
clash_cases (Closes l) f one none = none (λ h. h)

-- effects that touch no location in common
abbrev AreDisjoint : Effect → Effect → Type 0
AreDisjoint e f = (x : ℕ) → Touches e x → Touches f x → ⊥

disjoint :
    (s : Store) (e f : Effect) (m n : Term) → IsOwn e m → IsFree e s → IsOwn f n → IsFree f s → Apart m n → StandsIn s m → StandsIn s n
    → (Clash e f → ⊥) → AreDisjoint e f
disjoint s e f m n own free own' free' apart stands stands' clash x touched touched' = by_origins (origin e m x own touched) (origin f n x own' touched')
  where
    by_origins : Contains (things 0 m) (Place x) ⊎ Opened e x → Contains (things 0 n) (Place x) ⊎ Opened f x → ⊥
    by_origins (inl k) o = other_side s f n m x own' free' (λ y h g. apart y g h) stands k touched'
    by_origins (inr o) (inl k) = other_side s e m n x own free apart stands' k touched
    by_origins (inr o) (inr q) = clash (clash_of e f x o q)

-- such effects commute
effects_commute : (e f : Effect) (s : Store) → AreDisjoint e f → SameEntries (applied e (applied f s)) (applied f (applied e s))
effects_commute e f s apart x =
    touch_cases e x
    (λ touched.
    let never = λ (h : Touches f x). apart x touched h in
    still_same e s (applied f s) x (untouched f s x never) ∙ sym (untouched f (applied e s) x never))
    (λ never. untouched e (applied f s) x never ∙ sym (still_same f s (applied e s) x (untouched e s x never)))

free_by : (f : Effect) (s s' : Store) → ((x : ℕ) → Opened f x → entry_at s' x ≡ entry_at s x) → IsFree f s → IsFree f s'
free_by Stays s s' h free = tt
free_by (Writes l j k) s s' h free = tt
free_by (Opens l w) s s' h free = h l refl ∙ free
free_by (Closes l) s s' h free = tt

-- a doing after an effect that touches nothing of it
after_effect :
    (i : Imports) (path : List ℕ) (b : Doing) (s v u : Store) (m t : Term) (f : HasEffect i path b s v m t) (e : Effect)
    → u ≡ applied e s → ((x : ℕ) → Contains (things 0 m) (Place x) → Touches e x → ⊥) → AreDisjoint e f.effect
    → DoesAt i path b u (applied f.effect u) m t
after_effect i path b s v u m t f e leads other apart =
    again_there i path b s v u m t f (λ x h. same x (other x h))
    (free_by f.effect s u (λ x o. same x (λ touched. apart x touched (opened_touched f.effect x o))) f.free)
  where
    same : (x : ℕ) → (Touches e x → ⊥) → entry_at u x ≡ entry_at s x
    same x h = ap (λ (z : Store). entry_at z x) leads ∙ untouched e s x h

-- two locations change places
abbrev pub swapped : ℕ → ℕ → ℕ → ℕ
swapped a b x = if nat_eq x a then b else (if nat_eq x b then a else x)

pub swapped_first : (a b : ℕ) → swapped a b a ≡ b
swapped_first a b = let t = eq-eqb a a refl in rw t refl

pub swapped_second : (a b : ℕ) → swapped a b b ≡ a
swapped_second a b = number_cases b a (λ same t. rw t same) (λ other f. let t = eq-eqb b b refl in rw (f, t) refl)

pub swapped_other : (a b x : ℕ) → x ≢ a → x ≢ b → swapped a b x ≡ x
swapped_other a b x h g = let e = ne_eqb x a h in let f = ne_eqb x b g in rw (e, f) refl

pub swapped_twice : (a b x : ℕ) → swapped a b (swapped a b x) ≡ x
swapped_twice a b x =
    number_cases x a
    (λ same t. ap (swapped a b) (ap (swapped a b) same ∙ swapped_first a b) ∙ (swapped_second a b ∙ sym same))
    (λ h f. number_cases x b
    (λ same t. ap (swapped a b) (ap (swapped a b) same ∙ swapped_second a b) ∙ (swapped_first a b ∙ sym same))
    (λ g e. ap (swapped a b) (swapped_other a b x h g) ∙ swapped_other a b x h g))

abbrev pub swapping : ℕ → ℕ → Renaming
swapping a b = record { to = swapped a b; back = swapped a b; there = swapped_twice a b; again = swapped_twice a b }

-- an entry whose location stays is as it was
pub carried_fixed : (r : ℕ → ℕ) (s : Store) (x : ℕ) → r x ≡ x → carried r (entry_at s x) ≡ entry_at s x
carried_fixed r s x fix = found (entry_at s x) refl
  where
    found : (o : Option Entry) → entry_at s x ≡ o → carried r o ≡ o
    found None h = refl
    found (Some e) h =
        let place = entry_place s x e h in ap (λ (l : ℕ). Some (record e { place = l })) (ap r place ∙ (fix ∙ sym place))

abbrev pub fresh : ℕ → Shape → Entry
fresh l w = array_at l w.width w.count

-- two locations that a store lacks
module _ (s : Store) (l k : ℕ) (lacks_l : entry_at s l ≡ None) (lacks_k : entry_at s k ≡ None) where
  abbrev pub sw : ℕ → ℕ
  sw = swapped l k

  not_there : (x y : ℕ) → entry_at s y ≡ None → Present s x → y ≢ x
  not_there x y lacks p e = not_both (entry_at s x) p.0 (subst (λ (z : ℕ). entry_at s z ≡ None) e lacks) p.1

  present_fixed : (x : ℕ) → Present s x → swapped l k x ≡ x
  present_fixed x p = swapped_other l k x (λ e. not_there x l lacks_l p (sym e)) (λ e. not_there x k lacks_k p (sym e))

  pub stands_fixed : (m : Term) → StandsIn s m → Fixes (swapped l k) (things 0 m)
  stands_fixed m st x h = present_fixed x (place_present s m 0 x st h)

  -- the doing that takes l takes k after another took l
  taken_after :
      (other : l ≢ k) (i : Imports) (path : List ℕ) (b : Doing) (v u : Store) (m t : Term) (f : HasEffect i path b s v m t) (w n : Shape)
      → f.effect ≡ Opens l n → u ≡ fresh l w ∷ s → StandsIn s m
      → DoesAt i path b u (fresh k n ∷ u) m (renamed (swapped l k) t)
  taken_after other i path b v u m t f w n takes leads st =
      subst (λ (z : Term). DoesAt i path b u (fresh k n ∷ u) z (renamed sw t)) (fixed sw m 0 (stands_fixed m st)) moved
    where
      same : (x : ℕ) → l ≢ x → entry_at u x ≡ entry_at s x
      same x apart = ap (λ (z : Store). entry_at z x) leads ∙ later_at (fresh l w) s x apart

      serves : (x : ℕ) → Contains (things 0 m) (Place x) → entry_at u (sw x) ≡ carried sw (entry_at s x)
      serves x h =
          let p = place_present s m 0 x st h in
          let fix = present_fixed x p in
          ap (entry_at u) fix ∙ (same x (not_there x l lacks_l p) ∙ sym (carried_fixed sw s x fix))

      free : IsFree (renamed_effect sw f.effect) u
      free =
          subst (λ (z : Effect). IsFree (renamed_effect sw z) u) (sym takes) (ap (entry_at u) (swapped_first l k) ∙ (same k other ∙ lacks_k))

      store : applied (renamed_effect sw f.effect) u ≡ fresh k n ∷ u
      store = ap (λ (z : Effect). applied (renamed_effect sw z) u) takes ∙ ap (λ (z : ℕ). fresh z n ∷ u) (swapped_first l k)

      moved : DoesAt i path b u (fresh k n ∷ u) (renamed sw m) (renamed sw t)
      moved = subst (λ (z : Store). DoesAt i path b u z (renamed sw m) (renamed sw t)) store (f.again sw u serves free)

  abbrev old : Shape → Shape → Store
  old w n = fresh k n ∷ fresh l w ∷ s

  abbrev new : Shape → Shape → Store
  new w n = fresh k w ∷ fresh l n ∷ s

  abbrev SameAt : Shape → Shape → ℕ → Type 0
  SameAt w n z = entry_at (new w n) (sw z) ≡ carried sw (entry_at (old w n) z)

  same_first : (other : l ≢ k) (w n : Shape) → SameAt w n l
  same_first other w n =
      ap (entry_at (new w n)) (swapped_first l k) ∙ (first_at (fresh k w) (fresh l n ∷ s) k refl
      ∙ sym (ap (carried sw) (later_at (fresh k n) (fresh l w ∷ s) l (λ e. other (sym e)) ∙ first_at (fresh l w) s l refl)
      ∙ ap (λ (z : ℕ). Some (fresh z w)) (swapped_first l k)))

  same_second : (other : l ≢ k) (w n : Shape) → SameAt w n k
  same_second other w n =
      ap (entry_at (new w n)) (swapped_second l k) ∙ ((later_at (fresh k w) (fresh l n ∷ s) l (λ e. other (sym e)) ∙ first_at (fresh l n) s l refl)
      ∙ sym (ap (carried sw) (first_at (fresh k n) (fresh l w ∷ s) k refl) ∙ ap (λ (z : ℕ). Some (fresh z n)) (swapped_second l k)))

  same_third : (w n : Shape) (x : ℕ) → l ≢ x → k ≢ x → SameAt w n x
  same_third w n x h g =
      let fix : sw x ≡ x = swapped_other l k x (λ e. h (sym e)) (λ e. g (sym e)) in
      ap (entry_at (new w n)) fix ∙ ((later_at (fresh k w) (fresh l n ∷ s) x g ∙ later_at (fresh l n) s x h)
      ∙ (sym (carried_fixed sw s x fix) ∙ ap (carried sw) (sym (later_at (fresh k n) (fresh l w ∷ s) x g ∙ later_at (fresh l w) s x h))))

  stores_swapped : (other : l ≢ k) (w n : Shape) → Corresponds (swapped l k) (old w n) (new w n)
  stores_swapped other w n x =
      number_cases l x (λ same t. subst (SameAt w n) same (same_first other w n))
      (λ h f. number_cases k x (λ same t. subst (SameAt w n) same (same_second other w n)) (λ g e. same_third w n x h g))

-- what the law promises
abbrev pub BothOrders : Imports → List ℕ → List ℕ → Doing → Doing → Store → Store → Term → Term → Type 0
BothOrders i p q a b u v t r =
    (x : Term) × (y : Term) × (w : Store) × (z : Store) × DoesAt i q b u w t x × DoesAt i p a v z r y × Alike (Running x w) (Running y z)

-- on the two sides of a `||`
module _
    (i : Imports) (p q : List ℕ) (a b : Doing) (s u v : Store) (m t r : Term) (o : OnSides i p q a b s u v m t r)
    (parts : PartsApart m) (stands : StandsIn s m) where
  both_apart : PartsApart (Par o.left o.right)
  both_apart = apart_through o.around (Par o.left o.right) (subst PartsApart o.whole parts)

  both_stand : StandsIn s (Par o.left o.right)
  both_stand = stands_through s o.around (Par o.left o.right) (subst (StandsIn s) o.whole stands)

  left_effect : HasEffect i o.left_path a s u o.left o.new_left
  left_effect = doings_have_effects i o.left_path a s u o.left o.new_left o.does_left

  right_effect : HasEffect i o.right_path b s v o.right o.new_right
  right_effect = doings_have_effects i o.right_path b s v o.right o.new_right o.does_right

  right_after : (w : Store) (n : Term) → DoesAt i o.right_path b u w o.right n → DoesAt i q b u w t (plug_all o.around (Par o.new_left n))
  right_after w n h = does_on_right i o.around q o.right_path b u w o.right n o.new_left t o.second_path o.after_first h

  left_after : (z : Store) (n : Term) → DoesAt i o.left_path a v z o.left n → DoesAt i p a v z r (plug_all o.around (Par n o.new_right))
  left_after z n h = does_on_left i o.around p o.left_path a v z o.left n o.new_right r o.first_path o.after_second h

  -- where they take no location in common, both orders lead to one term
  without_clash : (Clash left_effect.effect right_effect.effect → ⊥) → BothOrders i p q a b u v t r
  without_clash clash =
      let e = left_effect in
      let f = right_effect in
      let both = plug_all o.around (Par o.new_left o.new_right) in
      let apart : AreDisjoint e.effect f.effect =
      disjoint s e.effect f.effect o.left o.right e.own e.free f.own f.free both_apart.0 both_stand.0 both_stand.1 clash in
      let of_left = λ (x : ℕ) (h : Contains (things 0 o.right) (Place x)) (touched : Touches e.effect x).
      other_side s e.effect o.left o.right x e.own e.free both_apart.0 both_stand.1 h touched in
      let of_right = λ (x : ℕ) (h : Contains (things 0 o.left) (Place x)) (touched : Touches f.effect x).
      other_side s f.effect o.right o.left x f.own f.free (λ y k g. both_apart.0 y g k) both_stand.0 h touched in
      let w : Store = applied f.effect u in
      let z : Store = applied e.effect v in
      let ends : SameEntries z w =
      λ x. ap (λ (y : Store). entry_at (applied e.effect y) x) f.leads ∙ (effects_commute e.effect f.effect s apart x
      ∙ ap (λ (y : Store). entry_at (applied f.effect y) x) (sym e.leads)) in (
        both,
        both,
        w,
        z,
        right_after w o.new_right (after_effect i o.right_path b s v u o.right o.new_right f e.effect e.leads of_left apart),
        left_after z o.new_left (after_effect i o.left_path a s u v o.left o.new_left e f.effect f.leads of_right (λ x h g. apart x g h)),
        alike_same both w z ends,
      )

  -- where both take location l, the later one takes another
  with_clash : (l : ℕ) (w n : Shape) → left_effect.effect ≡ Opens l w → right_effect.effect ≡ Opens l n → BothOrders i p q a b u v t r
  with_clash l w n takes_w takes_n =
      let e = left_effect in
      let f = right_effect in
      let k : ℕ = above s + suc l in
      let lacks_l : entry_at s l ≡ None = subst (λ (z : Effect). IsFree z s) takes_w e.free in
      let lacks_k : entry_at s k ≡ None = above_absent s k (omega arith) in
      let other : l ≢ k = λ same. omega (arith, same) in
      let sw : ℕ → ℕ = swapped l k in
      let leads_u : u ≡ fresh l w ∷ s = e.leads ∙ ap (λ (z : Effect). applied z s) takes_w in
      let leads_v : v ≡ fresh l n ∷ s = f.leads ∙ ap (λ (z : Effect). applied z s) takes_n in
      let fixes : Fixes sw (things 0 (plug_all o.around (Par o.left o.right))) =
      stands_fixed s l k lacks_l lacks_k (plug_all o.around (Par o.left o.right)) (subst (StandsIn s) o.whole stands) in
      let x : Term = plug_all o.around (Par o.new_left (renamed sw o.new_right)) in
      let y : Term = plug_all o.around (Par (renamed sw o.new_left) o.new_right) in
      let ends : y ≡ renamed sw x =
      sym (around_all sw o.around (Par o.left o.right) (Par o.new_left (renamed sw o.new_right)) fixes
      ∙ ap (λ (z : Term). plug_all o.around (Par (renamed sw o.new_left) z)) (renamed_back sw sw (swapped_twice l k) o.new_right)) in
      let stores : Corresponds sw (fresh k n ∷ u) (fresh k w ∷ v) =
      subst (λ (z : Store). Corresponds sw (fresh k n ∷ z) (fresh k w ∷ v)) (sym leads_u)
      (subst (λ (z : Store). Corresponds sw (fresh k n ∷ fresh l w ∷ s) (fresh k w ∷ z)) (sym leads_v)
      (stores_swapped s l k lacks_l lacks_k other w n)) in (
        x,
        y,
        fresh k n ∷ u,
        fresh k w ∷ v,
        right_after (fresh k n ∷ u) (renamed sw o.new_right)
            (taken_after s l k lacks_l lacks_k other i o.right_path b v u o.right o.new_right f w n takes_n leads_u both_stand.1),
        left_after (fresh k w ∷ v) (renamed sw o.new_left)
            (taken_after s l k lacks_l lacks_k other i o.left_path a u v o.left o.new_left e n w takes_w leads_v both_stand.0),
        alike_by (swapping l k) x y (fresh k n ∷ u) (fresh k w ∷ v) ends stores,
      )

  sides_order : BothOrders i p q a b u v t r
  sides_order = clash_cases left_effect.effect right_effect.effect with_clash without_clash

-- of any two places
pub order_of :
    (i : Imports) (p q : List ℕ) (a b : Doing) (s u v : Store) (m t r : Term) → PartsApart m → StandsIn s m → p ≢ q → DoesAt i p a s u m t
    → DoesAt i q b s v m r → BothOrders i p q a b u v t r
order_of i p q a b s u v m t r parts stands other h g = by_sides (places_are_on_sides i p q a b s u v m t r other h g)
  where
    turned : BothOrders i q p b a v u r t → BothOrders i p q a b u v t r
    turned (x, y, w, z, does, does', alike) = (y, x, z, w, does', does, alike_back (Running x w) (Running y z) alike)

    by_sides : OnSides i p q a b s u v m t r ⊎ OnSides i q p b a s v u m r t → BothOrders i p q a b u v t r
    by_sides (inl o) = sides_order i p q a b s u v m t r o parts stands
    by_sides (inr o) = turned (sides_order i q p b a s v u m r t o parts stands)

pub either_order : EitherOrder
either_order i p q a b s u v m t r proper other h g = order_of i p q a b s u v m t r proper.apart proper.standing other h g
