-- What a context does comes from its term, or from a row of its own.
use Rattle.std.specs.Prelude.{◌≡◌, ◌⊎◌, ℕ, zero, suc, IsTrue}
use Rattle.std.proofs.Common.{arith, refl, sym, ap, subst, inl, inr, ◌∙◌}
use Rattle.gos_model.specs.Terms.{Term, Skip, Lit, Par, Deref, Put, Arr, App, Both}
use Rattle.gos_model.specs.Typing.{Imports}
use Rattle.gos_model.specs.Stores.{Store}
use Rattle.gos_model.specs.Reach.{Rel, Reached, Below, Rewrites, Under, Aside, Unfolds, InPortIndex, InIndex}
use Rattle.gos_model.specs.Steps.{Computes, IsValue, Steps, Locates}
use Rattle.gos_model.specs.Labels.{Label, Emits, Takes, is_output, given}
use Rattle.gos_model.specs.Moves.{Program, Config, Idle, Running, Computing, Showing, Acts, Unfoldings, Move, Stalled}
use Rattle.gos_programs.specs.contexts.Contexts.{Context, SeqFirst, ParLeft, ParRight, IfTest, BinLeft, HeldRight, NotOf, AssignRight, ScopeBody, ReadIndex, WriteIndex, plug, IsAlone, ReadAt, WriteAt}
use Rattle.gos_programs.specs.contexts.Backward.{UnfoldingsWithin, UnfoldingsOfBoth, StepsWithin, StepsOfBoth, LabelsWithin, LabelsOfBoth, WaitsWithin, BothWait, RightWaits, LeftWaits}

-- the three ways in which a head is changed
abbrev pub OneHead : Rel
OneHead a b = (Rewrites a b ⊎ Under Rewrites a b) ⊎ Aside Rewrites a b

-- an output or an input
abbrev pub OneLabel : Imports → Label → Rel
OneLabel i o a b = Emits i o a b ⊎ Takes i o a b

-- an array of the program's own is no port
no_port : (R : Rel) (l : ℕ) (m v : Term) → InPortIndex R (Arr l) m v → ⊥
no_port R l (Both b m) v ((x, e), m', f, h) = cc e
no_port R l m v h = absurd h

within_array : (R : Rel) (l : ℕ) (m v : Term) → InIndex R (App (Arr l) m) v → (t : Term) × (v ≡ App (Arr l) t) × Reached R m t
within_array R l m v (inl h) = absurd (no_port R l m v h)
within_array R l m v (inr (place, t, e, h)) = (t, e, h)

-- of any relation
pub below_within : (R : Rel) (c : Context) (m v : Term) → IsAlone c → Below R (plug c m) v → (t : Term) × (v ≡ plug c t) × Reached R m t
below_within R (SeqFirst n) m v alone h = h
below_within R (ParLeft n) m v alone h = absurd alone
below_within R (ParRight n) m v alone h = absurd alone
below_within R (IfTest n p) m v alone h = h
below_within R (BinLeft op n) m v alone h = h
below_within R (HeldRight k op) m v alone h = h
below_within R NotOf m v alone h = h
below_within R (AssignRight n) m v alone h = h
below_within R (ScopeBody l) m v alone h = h
below_within R (ReadIndex x n) m v alone h = absurd alone
below_within R (WriteIndex x n k) m v alone h = absurd alone
below_within R (ReadAt l) m v alone (v', e, h) = let (t, f, g) = within_array R l m v' h in (t, e ∙ ap (λ (x : Term). Deref x) f, g)
below_within R (WriteAt l k) m v alone (v', e, h) = let (t, f, g) = within_array R l m v' h in (t, e ∙ ap (λ (x : Term). Put x k) f, g)

-- no context is a head, and none but an index shows a label
no_head : (c : Context) (m v : Term) → OneHead (plug c m) v → ⊥
no_head (SeqFirst n) m v h = grind (arith, h)
no_head (ParLeft n) m v h = grind (arith, h)
no_head (ParRight n) m v h = grind (arith, h)
no_head (IfTest n p) m v h = grind (arith, h)
no_head (BinLeft op n) m v h = grind (arith, h)
no_head (HeldRight k op) m v h = grind (arith, h)
no_head NotOf m v h = grind (arith, h)
no_head (AssignRight n) m v h = grind (arith, h)
no_head (ScopeBody l) m v h = grind (arith, h)
no_head (ReadIndex x n) m v h = grind (arith, h)
no_head (WriteIndex x n k) m v h = grind (arith, h)
no_head (ReadAt l) m v h = grind (arith, h)
no_head (WriteAt l k) m v h = grind (arith, h)

no_label : (i : Imports) (o : Label) (c : Context) (m v : Term) → IsAlone c → OneLabel i o (plug c m) v → ⊥
no_label i o (SeqFirst n) m v alone h = grind (arith, h)
no_label i o (ParLeft n) m v alone h = absurd alone
no_label i o (ParRight n) m v alone h = absurd alone
no_label i o (IfTest n p) m v alone h = grind (arith, h)
no_label i o (BinLeft op n) m v alone h = grind (arith, h)
no_label i o (HeldRight k op) m v alone h = grind (arith, h)
no_label i o NotOf m v alone h = grind (arith, h)
no_label i o (AssignRight n) m v alone h = grind (arith, h)
no_label i o (ScopeBody l) m v alone h = grind (arith, h)
no_label i o (ReadIndex x n) m v alone h = absurd alone
no_label i o (WriteIndex x n k) m v alone h = absurd alone
no_label i o (ReadAt l) m v alone h = grind (arith, h)
no_label i o (WriteAt l k) m v alone h = grind (arith, h)

no_label_of_both : (i : Imports) (o : Label) (l r v : Term) → OneLabel i o (Par l r) v → ⊥
no_label_of_both i o l r v (inl h) = h
no_label_of_both i o l r v (inr h) = h

-- one unfolding
unfolds_within : (c : Context) (m v : Term) → IsAlone c → Unfolds (plug c m) v → (t : Term) × (v ≡ plug c t) × Unfolds m t
unfolds_within c m v alone (inl h) = absurd (no_head c m v h)
unfolds_within c m v alone (inr h) = below_within OneHead c m v alone h

pub unfoldings_within : UnfoldingsWithin
unfoldings_within c zero m v alone h = (m, sym h, refl)
unfoldings_within c (suc n) m v alone (u, h, hs) =
    let one = unfolds_within c m u alone h in
    let rest = unfoldings_within c n one.0 v alone (subst (λ (x : Term). Unfoldings n x v) one.1 hs) in
    (rest.0, rest.1, (one.0, one.2, rest.2))

unfolds_of_both : (l r v : Term) → Unfolds (Par l r) v
    → ((a : Term) × (v ≡ Par a r) × Unfolds l a) ⊎ ((b : Term) × (v ≡ Par l b) × Unfolds r b)
unfolds_of_both l r v (inl h) = absurd (no_head (ParLeft r) l v h)
unfolds_of_both l r v (inr h) = h

pub unfoldings_of_both : UnfoldingsOfBoth
unfoldings_of_both zero l r v h = (0, 0, l, r, sym h, refl, refl)
unfoldings_of_both (suc n) l r v (u, h, hs) =
    after (unfolds_of_both l r u h) (λ a b e. unfoldings_of_both n a b v (subst (λ (x : Term). Unfoldings n x v) e hs))
  where
    after : (((a : Term) × (u ≡ Par a r) × Unfolds l a) ⊎ ((b : Term) × (u ≡ Par l b) × Unfolds r b))
        → ((a b : Term) → u ≡ Par a b
        → (j : ℕ) × (k : ℕ) × (c : Term) × (d : Term) × (v ≡ Par c d) × Unfoldings j a c × Unfoldings k b d)
        → (j : ℕ) × (k : ℕ) × (c : Term) × (d : Term) × (v ≡ Par c d) × Unfoldings j l c × Unfoldings k r d
    after (inl (a, e, g)) rests =
        let rest = rests a r e in
        (suc rest.0, rest.1, rest.2, rest.3, rest.4, (a, g, rest.5), rest.6)
    after (inr (b, e, g)) rests =
        let rest = rests l b e in
        (rest.0, suc rest.1, rest.2, rest.3, rest.4, rest.5, (b, g, rest.6))

-- an array stands for a number with a number as its index
pub index_value : (x : ℕ) (m : Term) (l i : ℕ) → Locates (App (Arr x) m) l i → IsValue m
index_value x m l i (inl (e, z)) = absurd (cc e)
index_value x m l i (inr (w, e)) = let is : m ≡ Lit i w = cc e in inr (i, w, is)

-- the row of a context asks for a value
row_of : (c : Context) (s s' : Store) (m v : Term) → IsAlone c → Computes s s' (plug c m) v → IsValue m
row_of (SeqFirst n) s s' m v alone h = inl h.0
row_of (ParLeft n) s s' m v alone h = absurd alone
row_of (ParRight n) s s' m v alone h = absurd alone
row_of (IfTest n p) s s' m v alone (inl h, e) = inr (1, 1, h.0)
row_of (IfTest n p) s s' m v alone (inr h, e) = inr (0, 1, h.0)
row_of (BinLeft op n) s s' m v alone (k, w, e, h, g) = inr (k, w, e)
row_of (HeldRight k op) s s' m v alone (j, w, e, h, g) = inr (j, w, e)
row_of NotOf s s' m v alone (k, w, e, h, g) = inr (k, w, e)
row_of (AssignRight n) s s' m v alone (k, w, e, h, g) = inr (k, w, e)
row_of (ScopeBody l) s s' m v alone h = h.0
row_of (ReadIndex x n) s s' m v alone h = absurd alone
row_of (WriteIndex x n k) s s' m v alone h = absurd alone
row_of (ReadAt l) s s' m v alone (e, i, j, place, has, is, left, now) = index_value l m e.place i place
row_of (WriteAt l k) s s' m v alone (e, i, j, place, has, is, left, now) = index_value l m e.place i place

pub steps_within : StepsWithin
steps_within c s s' m v alone (inl h) = inr (h, row_of c s s' m v alone h)
steps_within c s s' m v alone (inr h) = inl (below_within (Computes s s') c m v alone h)

pub steps_of_both : StepsOfBoth
steps_of_both s s' l r v (inl h) = inr h
steps_of_both s s' l r v (inr h) = inl h

pub labels_within : LabelsWithin
labels_within i o c s s' m v alone (inl h, e) = absurd (no_label i o c m v alone h)
labels_within i o c s s' m v alone (inr h, e) = let b = below_within (OneLabel i o) c m v alone h in (b.0, b.1, (b.2, e))

pub labels_of_both : LabelsOfBoth
labels_of_both i o s s' l r v (inl h, e) = absurd (no_label_of_both i o l r v h)
labels_of_both i o s s' l r v (inr (inl (t, g, h)), e) = inl (t, g, (h, e))
labels_of_both i o s s' l r v (inr (inr (t, g, h)), e) = inr (t, g, (h, e))

-- a stalled term isn't unfolded to a value, since a value can be answered
pub value_answers : (p : Program) (s : Store) (m v : Term) (n : ℕ) → Unfoldings n m v → IsValue v → Stalled p (Running m s) → ⊥
value_answers p s m v n hs (inl e) stalled = stalled.1 (given 1 0) Idle refl (n, v, hs, inl (e, refl))
value_answers p s m v n hs (inr (k, w, e)) stalled = stalled.1 (given 1 k) Idle refl (n, v, hs, inr (k, w, e, refl))

-- no computation step and no output follows unfoldings of it
abbrev pub IsStuck : Imports → Store → Term → Type 0
IsStuck i s v =
    ((s' : Store) (t : Term) → Steps s s' v t → ⊥) × ((o : Label) (s' : Store) (t : Term) → IsTrue (is_output o) → Acts i (Showing o) s s' v t → ⊥)

stuck_after : (p : Program) (s : Store) (m v : Term) (n : ℕ) → Unfoldings n m v → Stalled p (Running m s) → IsStuck p.imports s v
stuck_after p s m v n hs stalled =
    (λ s' t h. stalled.0 (Running t s') (n, v, hs, h), λ o s' t out h. stalled.1 o (Running t s') out (n, v, hs, h))

-- and a term is stalled if that holds after all unfoldings, and none makes it a value
abbrev pub NeverValue : Term → Type 0
NeverValue m = (n : ℕ) (v : Term) → Unfoldings n m v → IsValue v → ⊥

abbrev pub AlwaysStuck : Imports → Store → Term → Type 0
AlwaysStuck i s m = (n : ℕ) (v : Term) → Unfoldings n m v → IsStuck i s v

pub stalled_of : (q : Program) (s : Store) (m : Term) → NeverValue m → AlwaysStuck q.imports s m → Stalled q (Running m s)
stalled_of q s m never stuck = (silent, shown)
  where
    silent : (d : Config) → Move q Computing (Running m s) d → ⊥
    silent Idle (n, v, hs, h) = h
    silent (Running t s') (n, v, hs, h) = (stuck n v hs).0 s' t h

    shown : (o : Label) (d : Config) → IsTrue (is_output o) → Move q (Showing o) (Running m s) d → ⊥
    shown o Idle out (n, v, hs, inl (e, g)) = never n v hs (inl e)
    shown o Idle out (n, v, hs, inr (k, w, e, g)) = never n v hs (inr (k, w, e))
    shown o (Running t s') out (n, v, hs, h) = (stuck n v hs).1 o s' t out h

-- a context is no value
pub no_value : (c : Context) (m : Term) → IsValue (plug c m) → ⊥
no_value (SeqFirst n) m h = grind (arith, h)
no_value (ParLeft n) m h = grind (arith, h)
no_value (ParRight n) m h = grind (arith, h)
no_value (IfTest n p) m h = grind (arith, h)
no_value (BinLeft op n) m h = grind (arith, h)
no_value (HeldRight k op) m h = grind (arith, h)
no_value NotOf m h = grind (arith, h)
no_value (AssignRight n) m h = grind (arith, h)
no_value (ScopeBody l) m h = grind (arith, h)
no_value (ReadIndex x n) m h = grind (arith, h)
no_value (WriteIndex x n k) m h = grind (arith, h)
no_value (ReadAt l) m h = grind (arith, h)
no_value (WriteAt l k) m h = grind (arith, h)

stuck_within : (i : Imports) (s : Store) (c : Context) (m : Term) → IsAlone c → (IsValue m → ⊥) → IsStuck i s m → IsStuck i s (plug c m)
stuck_within i s c m alone none stuck = (silent, shown)
  where
    step : (s' : Store) (t : Term) → ((u : Term) × (t ≡ plug c u) × Steps s s' m u) ⊎ (Computes s s' (plug c m) t × IsValue m) → ⊥
    step s' t (inl (u, e, h)) = stuck.0 s' u h
    step s' t (inr (h, is)) = none is

    silent : (s' : Store) (t : Term) → Steps s s' (plug c m) t → ⊥
    silent s' t h = step s' t (steps_within c s s' m t alone h)

    shown : (o : Label) (s' : Store) (t : Term) → IsTrue (is_output o) → Acts i (Showing o) s s' (plug c m) t → ⊥
    shown o s' t out h = let b = labels_within i o c s s' m t alone h in stuck.1 o s' b.0 out b.2

pub waits_within : WaitsWithin
waits_within p q c s m e alone stalled = stalled_of q s (plug c m) never stuck
  where
    never : NeverValue (plug c m)
    never n v hs is =
        let b = unfoldings_within c n m v alone hs in
        no_value c b.0 (subst IsValue b.1 is)

    stuck : AlwaysStuck q.imports s (plug c m)
    stuck n v hs =
        let b = unfoldings_within c n m v alone hs in
        let inner : IsStuck q.imports s b.0 = subst (λ (i : Imports). IsStuck i s b.0) e (stuck_after p s m b.0 n b.2 stalled) in
        let outer = stuck_within q.imports s c b.0 alone (λ is. value_answers p s m b.0 n b.2 is stalled) inner in
        subst (λ (x : Term). IsStuck q.imports s x) (sym b.1) outer

-- of both sides, where they have not both ended
stuck_of_both : (i : Imports) (s : Store) (l r : Term) → (l ≡ Skip → r ≡ Skip → ⊥) → IsStuck i s l → IsStuck i s r → IsStuck i s (Par l r)
stuck_of_both i s l r none left right = (silent, shown)
  where
    step : (s' : Store) (v : Term)
        → (((t : Term) × (v ≡ Par t r) × Steps s s' l t) ⊎ ((t : Term) × (v ≡ Par l t) × Steps s s' r t))
        ⊎ ((l ≡ Skip) × (r ≡ Skip) × (v ≡ Skip) × (s' ≡ s)) → ⊥
    step s' v (inl (inl (t, e, h))) = left.0 s' t h
    step s' v (inl (inr (t, e, h))) = right.0 s' t h
    step s' v (inr (a, b, h, g)) = none a b

    silent : (s' : Store) (v : Term) → Steps s s' (Par l r) v → ⊥
    silent s' v h = step s' v (steps_of_both s s' l r v h)

    label : (o : Label) (s' : Store) (v : Term) → IsTrue (is_output o)
        → ((t : Term) × (v ≡ Par t r) × Acts i (Showing o) s s' l t) ⊎ ((t : Term) × (v ≡ Par l t) × Acts i (Showing o) s s' r t) → ⊥
    label o s' v out (inl (t, e, h)) = left.1 o s' t out h
    label o s' v out (inr (t, e, h)) = right.1 o s' t out h

    shown : (o : Label) (s' : Store) (v : Term) → IsTrue (is_output o) → Acts i (Showing o) s s' (Par l r) v → ⊥
    shown o s' v out h = label o s' v out (labels_of_both i o s s' l r v h)

-- a value is stuck, and no unfolding changes it
pub value_stuck : (i : Imports) (s : Store) (v : Term) → IsValue v → IsStuck i s v
value_stuck i s v (inl e) = subst (λ (x : Term). IsStuck i s x) (sym e) (λ s' t h. grind (arith, h), λ o s' t out h. grind (arith, h))
value_stuck i s v (inr (k, w, e)) = subst (λ (x : Term). IsStuck i s x) (sym e) (λ s' t h. grind (arith, h), λ o s' t out h. grind (arith, h))

pub value_stays : (n : ℕ) (m v : Term) → IsValue m → Unfoldings n m v → m ≡ v
value_stays zero m v is h = h
value_stays (suc n) m v (inl e) (u, h, hs) = absurd (none (subst (λ (x : Term). Unfolds x u) e h))
  where
    none : Unfolds Skip u → ⊥
    none g = grind (arith, g)
value_stays (suc n) m v (inr (k, w, e)) (u, h, hs) = absurd (none (subst (λ (x : Term). Unfolds x u) e h))
  where
    none : Unfolds (Lit k w) u → ⊥
    none g = grind (arith, g)

-- of both sides, whatever makes them stuck
pub both_stalled : (q : Program) (s : Store) (l r : Term)
    → ((j k : ℕ) (a b : Term) → Unfoldings j l a → Unfoldings k r b → (a ≡ Skip → b ≡ Skip → ⊥) × IsStuck q.imports s a × IsStuck q.imports s b)
    → Stalled q (Running (Par l r) s)
both_stalled q s l r sides = stalled_of q s (Par l r) never stuck
  where
    never : NeverValue (Par l r)
    never n v hs is =
        let b = unfoldings_of_both n l r v hs in
        no_value (ParLeft b.3) b.2 (subst IsValue b.4 is)

    stuck : AlwaysStuck q.imports s (Par l r)
    stuck n v hs =
        let b = unfoldings_of_both n l r v hs in
        let h = sides b.0 b.1 b.2 b.3 b.5 b.6 in
        subst (λ (x : Term). IsStuck q.imports s x) (sym b.4) (stuck_of_both q.imports s b.2 b.3 h.0 h.1 h.2)

pub stuck_in : (p q : Program) (s : Store) (m v : Term) (n : ℕ) → p.imports ≡ q.imports → Unfoldings n m v → Stalled p (Running m s) → IsStuck q.imports s v
stuck_in p q s m v n e hs stalled = subst (λ (i : Imports). IsStuck i s v) e (stuck_after p s m v n hs stalled)

pub both_wait : BothWait
both_wait p q s l r e left right =
    both_stalled q s l r
    (λ j k a b f g.
    (λ is _. value_answers p s l a j f (inl is) left, stuck_in p q s l a j e f left, stuck_in p q s r b k e g right))

pub right_waits : RightWaits
right_waits p q s l r e is right =
    both_stalled q s l r
    (λ j k a b f g. (
      λ _ ends. value_answers p s r b k g (inl ends) right,
      value_stuck q.imports s a (subst IsValue (value_stays j l a is f) is),
      stuck_in p q s r b k e g right,
    ))

pub left_waits : LeftWaits
left_waits p q s l r e left is =
    both_stalled q s l r
    (λ j k a b f g. (
      λ ends _. value_answers p s l a j f (inl ends) left,
      stuck_in p q s l a j e f left,
      value_stuck q.imports s b (subst IsValue (value_stays k r b is g) is),
    ))
