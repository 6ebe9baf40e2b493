-- Two unfoldings of a term come together, and what is possible beside an unfolding stays possible.
use Rattle.std.specs.Prelude.{◌≡◌, ◌⊎◌, ℕ, zero, suc}
use Rattle.std.proofs.Common.{arith, refl, sym, ap, subst, inl, inr, ◌∙◌}
use Rattle.gos_types.specs.Types.{Type'}
use Rattle.gos_model.specs.Terms.{Name, Term, Skip, Lit, Import, Lam, App, Fst, Snd, Seq, Par, If, Assign, Deref, Not, Bin, Loc, Scope, Wait, Held, Put, Both, Arr}
use Rattle.gos_model.specs.Typing.{Imports}
use Rattle.gos_model.specs.Stores.{Store}
use Rattle.gos_model.specs.Reach.{Rel, Reached, Below, InIndex, Unfolds}
use Rattle.gos_model.specs.Steps.{Computes, IsValue, Locates}
use Rattle.gos_model.specs.Labels.{Label}
use Rattle.gos_model.specs.Moves.{Program, Config, Idle, Running, Act, Computing, Showing, ActsTo, Answers, Unfoldings, Move, Stalled}
use Rattle.gos_model.proofs.HeadLemmas.{Lower, lower_one, lower_no_index}
use Rattle.gos_programs.specs.contexts.Contexts.{Context, SeqFirst, ParLeft, ParRight, IfTest, BinLeft, HeldRight, NotOf, AssignRight, ScopeBody, ReadIndex, WriteIndex, plug, ReadAt, WriteAt}
use Rattle.gos_programs.proofs.contexts.ScopeLemmas.{IsUnasked, import_unasked, request_unasked}
use Rattle.gos_programs.proofs.contexts.BackwardLemmas.{OneHead, OneLabel}
use Rattle.gos_programs.proofs.contexts.PluggedLemmas.{acts_of, acts_to, reached_plugged}
use Rattle.gos_programs.specs.variables.Unfolded.{ActsStay, WaitsBefore}

head_one : (m t u : Term) → OneHead m t → OneHead m u → t ≡ u
head_one (Put m k) t u (inr (m', e, h)) (inr (m'', f, g)) = e ∙ (ap (λ (x : Term). Put x k) (lower_one m m' m'' h g) ∙ sym f)
head_one (Deref m) t u (inr (m', e, h)) (inr (m'', f, g)) = e ∙ (ap (λ (x : Term). Deref x) (lower_one m m' m'' h g) ∙ sym f)
head_one (Put m k) t u (inr h) (inl (inl g)) = absurd g
head_one (Put m k) t u (inr h) (inl (inr g)) = absurd g
head_one (Deref m) t u (inr h) (inl (inl g)) = absurd g
head_one (Deref m) t u (inr h) (inl (inr g)) = absurd g
head_one m t u (inl h) (inl g) = lower_one m t u h g
head_one (App m n) t u (inl h) (inr g) = absurd g
head_one (Fst m) t u (inl h) (inr g) = absurd g
head_one (Snd m) t u (inl h) (inr g) = absurd g
head_one m t u (inl (inl h)) k = absurd h
head_one m t u (inl (inr h)) k = absurd h
head_one m t u (inr h) k = absurd h

-- a head is no term of which a part is reached
head_below : (R : Rel) (m t u : Term) → OneHead m t → Below R m u → ⊥
head_below R (App m n) t u h g = g
head_below R (Fst m) t u h g = g
head_below R (Snd m) t u h g = g
head_below R (Put m k) t u (inr (m', e, h)) (c, f, g) = lower_no_index R m m' c h g
head_below R (Put m k) t u (inl (inl h)) g = absurd h
head_below R (Put m k) t u (inl (inr h)) g = absurd h
head_below R (Deref m) t u (inr (m', e, h)) (c, f, g) = lower_no_index R m m' c h g
head_below R (Deref m) t u (inl (inl h)) g = absurd h
head_below R (Deref m) t u (inl (inr h)) g = absurd h
head_below R m t u (inl (inl h)) g = absurd h
head_below R m t u (inl (inr h)) g = absurd h
head_below R m t u (inr h) g = absurd h

-- two unfoldings, seen from a place
abbrev Meet : Term → Term → Type 0
Meet a b = (a ≡ b) ⊎ ((w : Term) × Unfolds a w × Unfolds b w)

-- which come together in a context too
meet_in : (c : Context) (a b x y : Term) → x ≡ plug c a → y ≡ plug c b → Meet a b → Meet x y
meet_in c a b x y ex ey (inl same) = inl (ex ∙ (ap (plug c) same ∙ sym ey))
meet_in c a b x y ex ey (inr (v, h, g)) = inr (
  plug c v,
  subst (λ (t : Term). Unfolds t (plug c v)) (sym ex) (reached_plugged OneHead c a v h),
  subst (λ (t : Term). Unfolds t (plug c v)) (sym ey) (reached_plugged OneHead c b v g),
)

-- a port is no array of the program's own
no_wait_array : (x : Name) (l : ℕ) → Wait x 0 ≡ Arr l → ⊥
no_wait_array x l e = cc e

-- an access is its context, with the index in it
pub of_access : (w a : Term → Term) (c : Context) (h k n m t : Term) → h ≡ k → m ≡ App h (a n) → t ≡ w m
    → ((v : Term) → plug c v ≡ w (App k (a v))) → t ≡ plug c n
of_access w a c h k n m t eh e et at = et ∙ (ap w e ∙ (ap (λ (v : Term). w (App v (a n))) eh ∙ sym (at n)))

mutual
  pub unfoldings_meet : (m a b : Term) → Unfolds m a → Unfolds m b → Meet a b
  unfoldings_meet m a b (inl h) (inl g) = inl (head_one m a b h g)
  unfoldings_meet m a b (inl h) (inr g) = absurd (head_below OneHead m a b h g)
  unfoldings_meet m a b (inr h) (inl g) = absurd (head_below OneHead m b a g h)
  unfoldings_meet (Seq m n) a b (inr (c, e, h)) (inr (d, f, g)) = meet_in (SeqFirst n) c d a b e f (unfoldings_meet m c d h g)
  unfoldings_meet (If m n p) a b (inr (c, e, h)) (inr (d, f, g)) = meet_in (IfTest n p) c d a b e f (unfoldings_meet m c d h g)
  unfoldings_meet (Bin op m n) a b (inr (c, e, h)) (inr (d, f, g)) = meet_in (BinLeft op n) c d a b e f (unfoldings_meet m c d h g)
  unfoldings_meet (Held k op n) a b (inr (c, e, h)) (inr (d, f, g)) = meet_in (HeldRight k op) c d a b e f (unfoldings_meet n c d h g)
  unfoldings_meet (Not m) a b (inr (c, e, h)) (inr (d, f, g)) = meet_in NotOf c d a b e f (unfoldings_meet m c d h g)
  unfoldings_meet (Assign m n) a b (inr (c, e, h)) (inr (d, f, g)) = meet_in (AssignRight m) c d a b e f (unfoldings_meet n c d h g)
  unfoldings_meet (Scope l m) a b (inr (c, e, h)) (inr (d, f, g)) = meet_in (ScopeBody l) c d a b e f (unfoldings_meet m c d h g)
  unfoldings_meet (Par m n) a b (inr (inl (c, e, h))) (inr (inl (d, f, g))) = meet_in (ParLeft n) c d a b e f (unfoldings_meet m c d h g)
  unfoldings_meet (Par m n) a b (inr (inr (c, e, h))) (inr (inr (d, f, g))) = meet_in (ParRight m) c d a b e f (unfoldings_meet n c d h g)
  unfoldings_meet (Par m n) a b (inr (inl (c, e, h))) (inr (inr (d, f, g))) = inr (
    Par c d,
    subst (λ (t : Term). Unfolds t (Par c d)) (sym e) (reached_plugged OneHead (ParRight c) n d g),
    subst (λ (t : Term). Unfolds t (Par c d)) (sym f) (reached_plugged OneHead (ParLeft d) m c h),
  )
  unfoldings_meet (Par m n) a b (inr (inr (c, e, h))) (inr (inl (d, f, g))) = inr (
    Par d c,
    subst (λ (t : Term). Unfolds t (Par d c)) (sym e) (reached_plugged OneHead (ParLeft c) m d g),
    subst (λ (t : Term). Unfolds t (Par d c)) (sym f) (reached_plugged OneHead (ParRight d) n c h),
  )
  unfoldings_meet (Deref m) a b (inr (c, e, h)) (inr (d, f, g)) =
      index_meet (λ (v : Term). Deref v) (λ (x : Name) (u : Term). ReadIndex x u) (λ (l : ℕ). ReadAt l) (λ x u v. refl) (λ l v. refl) m c d a b e f h g
  unfoldings_meet (Put m k) a b (inr (c, e, h)) (inr (d, f, g)) =
      index_meet (λ (v : Term). Put v k) (λ (x : Name) (u : Term). WriteIndex x u k) (λ (l : ℕ). WriteAt l k) (λ x u v. refl) (λ l v. refl) m c d a b e f h g
  unfoldings_meet m a b (inr h) (inr g) = absurd h

  -- in the index of an access, which w makes of it
  index_meet : (w : Term → Term) (port : Name → Term → Context) (own : ℕ → Context)
      → ((x : Name) (u v : Term) → plug (port x u) v ≡ w (App (Wait x 0) (Both u v))) → ((l : ℕ) (v : Term) → plug (own l) v ≡ w (App (Arr l) v))
      → (m c d a b : Term) → a ≡ w c → b ≡ w d → InIndex OneHead m c → InIndex OneHead m d → Meet a b
  index_meet w port own at_port at_own (App h n) c d a b ea eb (inr ((l, place), p, e, k)) (inr ((j, other), q, f, g)) =
      meet_in (own l) p q a b (of_access w (λ (v : Term). v) (own l) h (Arr l) p c a place e ea (at_own l))
      (of_access w (λ (v : Term). v) (own l) h (Arr l) q d b place f eb (at_own l)) (unfoldings_meet n p q k g)
  index_meet w port own at_port at_own (App h (Both u n)) c d a b ea eb (inl ((x, head), p, e, k)) (inl ((y, other), q, f, g)) =
      meet_in (port x u) p q a b (of_access w (λ (v : Term). Both u v) (port x u) h (Wait x 0) p c a head e ea (at_port x u))
      (of_access w (λ (v : Term). Both u v) (port x u) h (Wait x 0) q d b head f eb (at_port x u)) (unfoldings_meet n p q k g)
  index_meet w port own at_port at_own (App h (Both u n)) c d a b ea eb (inl ((x, head), p, e, k)) (inr ((l, place), q, f, g)) =
      absurd (no_wait_array x l (sym head ∙ place))
  index_meet w port own at_port at_own (App h (Both u n)) c d a b ea eb (inr ((l, place), q, f, g)) (inl ((x, head), p, e, k)) =
      absurd (no_wait_array x l (sym head ∙ place))
  index_meet w port own at_port at_own (App h n) c d a b ea eb (inl k) g = absurd k
  index_meet w port own at_port at_own (App h n) c d a b ea eb k (inl g) = absurd g
  index_meet w port own at_port at_own m c d a b ea eb h g = absurd h

-- where R changes a place, nothing unfolds there
abbrev IsFinal : Rel → Type 0
IsFinal R = (m t v : Term) → R m t → Unfolds m v → ⊥

-- a change in a context
stay_in : (R : Rel) (c : Context) (a v u : Term) → v ≡ plug c a → Reached R a u → (t : Term) × Reached R v t
stay_in R c a v u e h = (plug c u, subst (λ (t : Term). Reached R t (plug c u)) (sym e) (reached_plugged R c a u h))

mutual
  reached_stays : (R : Rel) → IsFinal R → (m v t : Term) → Unfolds m v → Reached R m t → (u : Term) × Reached R v u
  reached_stays R final m v t h (inl g) = absurd (final m t v g h)
  reached_stays R final (Seq m n) v t (inr (c, e, h)) (inr (d, f, g)) =
      let (u, stays) = reached_stays R final m c d h g in stay_in R (SeqFirst n) c v u e stays
  reached_stays R final (If m n p) v t (inr (c, e, h)) (inr (d, f, g)) =
      let (u, stays) = reached_stays R final m c d h g in stay_in R (IfTest n p) c v u e stays
  reached_stays R final (Bin op m n) v t (inr (c, e, h)) (inr (d, f, g)) =
      let (u, stays) = reached_stays R final m c d h g in stay_in R (BinLeft op n) c v u e stays
  reached_stays R final (Held k op n) v t (inr (c, e, h)) (inr (d, f, g)) =
      let (u, stays) = reached_stays R final n c d h g in stay_in R (HeldRight k op) c v u e stays
  reached_stays R final (Not m) v t (inr (c, e, h)) (inr (d, f, g)) =
      let (u, stays) = reached_stays R final m c d h g in stay_in R NotOf c v u e stays
  reached_stays R final (Assign m n) v t (inr (c, e, h)) (inr (d, f, g)) =
      let (u, stays) = reached_stays R final n c d h g in stay_in R (AssignRight m) c v u e stays
  reached_stays R final (Scope l m) v t (inr (c, e, h)) (inr (d, f, g)) =
      let (u, stays) = reached_stays R final m c d h g in stay_in R (ScopeBody l) c v u e stays
  reached_stays R final (Par m n) v t (inr (inl (c, e, h))) (inr (inl (d, f, g))) =
      let (u, stays) = reached_stays R final m c d h g in stay_in R (ParLeft n) c v u e stays
  reached_stays R final (Par m n) v t (inr (inr (c, e, h))) (inr (inr (d, f, g))) =
      let (u, stays) = reached_stays R final n c d h g in stay_in R (ParRight m) c v u e stays
  reached_stays R final (Par m n) v t (inr (inl (c, e, h))) (inr (inr (d, f, g))) = stay_in R (ParRight c) n v d e g
  reached_stays R final (Par m n) v t (inr (inr (c, e, h))) (inr (inl (d, f, g))) = stay_in R (ParLeft c) m v d e g
  reached_stays R final (Deref m) v t (inr (c, e, h)) (inr (d, f, g)) =
      index_stays R final (λ (y : Term). Deref y) (λ (x : Name) (b : Term). ReadIndex x b) (λ (l : ℕ). ReadAt l) (λ x b y. refl) (λ l y. refl) m c d v e h g
  reached_stays R final (Put m k) v t (inr (c, e, h)) (inr (d, f, g)) =
      index_stays R final (λ (y : Term). Put y k) (λ (x : Name) (b : Term). WriteIndex x b k) (λ (l : ℕ). WriteAt l k) (λ x b y. refl) (λ l y. refl) m c d v e h g
  reached_stays R final m v t (inl h) (inr g) = absurd (head_below R m v t h g)
  reached_stays R final m v t (inr h) (inr g) = absurd h

  index_stays : (R : Rel) → IsFinal R → (w : Term → Term) (port : Name → Term → Context) (own : ℕ → Context)
      → ((x : Name) (b v : Term) → plug (port x b) v ≡ w (App (Wait x 0) (Both b v))) → ((l : ℕ) (v : Term) → plug (own l) v ≡ w (App (Arr l) v))
      → (m c d v : Term) → v ≡ w c → InIndex OneHead m c → InIndex R m d → (t : Term) × Reached R v t
  index_stays R final w port own at_port at_own (App h n) c d v ev (inr ((l, place), p, e, k)) (inr ((j, other), q, f, g)) =
      let (u, stays) = reached_stays R final n p q k g in
      stay_in R (own l) p v u (of_access w (λ (x : Term). x) (own l) h (Arr l) p c v place e ev (at_own l)) stays
  index_stays R final w port own at_port at_own (App h (Both b n)) c d v ev (inl ((x, head), p, e, k)) (inl ((y, other), q, f, g)) =
      let (u, stays) = reached_stays R final n p q k g in
      stay_in R (port x b) p v u (of_access w (λ (x : Term). Both b x) (port x b) h (Wait x 0) p c v head e ev (at_port x b)) stays
  index_stays R final w port own at_port at_own (App h (Both b n)) c d v ev (inl ((x, head), p, e, k)) (inr ((l, place), q, f, g)) =
      absurd (no_wait_array x l (sym head ∙ place))
  index_stays R final w port own at_port at_own (App h (Both b n)) c d v ev (inr ((l, place), p, e, k)) (inl ((x, head), q, f, g)) =
      absurd (no_wait_array x l (sym head ∙ place))
  index_stays R final w port own at_port at_own (App h n) c d v ev (inl k) g = absurd k
  index_stays R final w port own at_port at_own (App h n) c d v ev k (inl g) = absurd g
  index_stays R final w port own at_port at_own m c d v ev h g = absurd h

-- a row of computation, and a label, are final
value_rests : (m v : Term) → IsValue m → Unfolds m v → ⊥
value_rests m v (inl e) h = none (subst (λ (x : Term). Unfolds x v) e h)
  where
    none : Unfolds Skip v → ⊥
    none g = grind (arith, g)
value_rests m v (inr (k, w, e)) h = none (subst (λ (x : Term). Unfolds x v) e h)
  where
    none : Unfolds (Lit k w) v → ⊥
    none g = grind (arith, g)

no_lower_loc : (m : Term) (l : ℕ) (v : Term) → m ≡ Loc l → Lower m v → ⊥
no_lower_loc m l v e h = none (subst (λ (x : Term). Lower x v) e h)
  where
    none : Lower (Loc l) v → ⊥
    none (inl g) = g
    none (inr g) = g

no_lower_import : (m : Term) (x : Name) (v : Term) → m ≡ Import x → Lower m v → ⊥
no_lower_import m x v e h = none (subst (λ (t : Term). Lower t v) e h)
  where
    none : Lower (Import x) v → ⊥
    none (inl g) = g
    none (inr g) = g

-- nor in what stands for a number
no_lower_array : (l : ℕ) (n v : Term) → Lower (App (Arr l) n) v → ⊥
no_lower_array l n v (inl (a, b, e, et)) = cc e
no_lower_array l n v (inr (h, e, inl k)) = k
no_lower_array l n v (inr (h, e, inr k)) = k

no_lower_located : (m : Term) (l i : ℕ) (v : Term) → Locates m l i → Lower m v → ⊥
no_lower_located m l i v (inl (e, first)) h = no_lower_loc m l v e h
no_lower_located m l i v (inr (w, e)) h = no_lower_array l (Lit i w) v (subst (λ (x : Term). Lower x v) e h)

located_rests : (m : Term) (l i : ℕ) (v : Term) → Locates m l i → InIndex OneHead m v → ⊥
located_rests m l i v (inl (e, first)) h = absurd (subst (λ (x : Term). InIndex OneHead x v) e h)
located_rests m l i v (inr (w, e)) h = none (subst (λ (x : Term). InIndex OneHead x v) e h)
  where
    none : InIndex OneHead (App (Arr l) (Lit i w)) v → ⊥
    none (inl g) = g
    none (inr (place, n, f, g)) = value_rests (Lit i w) n (inr (i, w, refl)) g

row_final : (s s' : Store) → IsFinal (Computes s s')
row_final s s' (Seq m n) t v (em, et, es) (inr (c, e, h)) = value_rests m c (inl em) h
row_final s s' (Par m n) t v (em, en, et, es) (inr (inl (c, e, h))) = value_rests m c (inl em) h
row_final s s' (Par m n) t v (em, en, et, es) (inr (inr (c, e, h))) = value_rests n c (inl en) h
row_final s s' (If m n p) t v (inl (em, et), es) (inr (c, e, h)) = value_rests m c (inr (1, 1, em)) h
row_final s s' (If m n p) t v (inr (em, et), es) (inr (c, e, h)) = value_rests m c (inr (0, 1, em)) h
row_final s s' (Bin op m n) t v (k, w, em, et, es) (inr (c, e, h)) = value_rests m c (inr (k, w, em)) h
row_final s s' (Held k op n) t v (j, w, en, et, es) (inr (c, e, h)) = value_rests n c (inr (j, w, en)) h
row_final s s' (Not m) t v (k, w, em, et, es) (inr (c, e, h)) = value_rests m c (inr (k, w, em)) h
row_final s s' (Assign m n) t v (k, w, en, et, es) (inr (c, e, h)) = value_rests n c (inr (k, w, en)) h
row_final s s' (Scope l m) t v (is, et, es) (inr (c, e, h)) = value_rests m c is h
row_final s s' (Put m k) t v (d, j, old, em, here, has, et, es) (inl (inr (c, e, h))) = no_lower_located m d.place j c em h
row_final s s' (Deref m) t v (d, j, old, em, here, has, et, es) (inl (inr (c, e, h))) = no_lower_located m d.place j c em h
row_final s s' (Put m k) t v (d, j, old, em, here, has, et, es) (inr (c, e, h)) = located_rests m d.place j c em h
row_final s s' (Deref m) t v (d, j, old, em, here, has, et, es) (inr (c, e, h)) = located_rests m d.place j c em h
row_final s s' (App m n) t v g h = absurd g
row_final s s' (Fst m) t v g h = absurd g
row_final s s' (Snd m) t v g h = absurd g
row_final s s' m t v g (inl (inl (inl h))) = absurd h
row_final s s' m t v g (inl (inl (inr h))) = absurd h
row_final s s' m t v g (inl (inr h)) = absurd h
row_final s s' m t v g (inr h) = absurd h

-- nothing unfolds in an access of a port, but in the index that is asked for
abbrev IsPortTerm : Term → Type 0
IsPortTerm h = ((x : Name) × (h ≡ Import x)) ⊎ ((x : Name) × (s : ℕ) × (h ≡ Wait x s))

port_rests : (h t : Term) → IsPortTerm h → Lower h t → ⊥
port_rests h t (inl (x, e)) g = no_lower_import h x t e g
port_rests h t (inr (x, s, e)) g = none (subst (λ (y : Term). Lower y t) e g)
  where
    none : Lower (Wait x s) t → ⊥
    none (inl k) = k
    none (inr k) = k

port_no_lam : (h : Term) (a : Type') (b : Term) → IsPortTerm h → h ≡ Lam a b → ⊥
port_no_lam h a b (inl (x, e)) g = let bad : Lam a b ≡ Import x = sym g ∙ e in cc bad
port_no_lam h a b (inr (x, s, e)) g = let bad : Lam a b ≡ Wait x s = sym g ∙ e in cc bad

no_lower_port : (m h n c : Term) → IsPortTerm h → m ≡ App h n → Lower m c → ⊥
no_lower_port m h n c port em g = by (subst (λ (y : Term). Lower y c) em g)
  where
    by : Lower (App h n) c → ⊥
    by (inl (a, b, eh, et)) = port_no_lam h a b port eh
    by (inr (h', e, k)) = port_rests h h' port k

no_index_in : (h a c : Term) → IsUnasked h → InIndex OneHead (App h a) c → ⊥
no_index_in h a c none (inr ((l, e), n, f, g)) = none.1 l e
no_index_in h (Both n m) c none (inl g) = none.0 g.0.0 g.0.1
no_index_in h a c none (inl g) = absurd g

no_index_before : (m h n c : Term) → IsUnasked h → m ≡ App h n → InIndex OneHead m c → ⊥
no_index_before m h n c none em g = no_index_in h n c none (subst (λ (y : Term). InIndex OneHead y c) em g)

index_rests : (m : Term) (x : Name) (n j c : Term) (k w : ℕ) → m ≡ App (Wait x 0) (Both n j) → j ≡ Lit k w → InIndex OneHead m c → ⊥
index_rests m x n j c k w em ej g = none (subst (λ (y : Term). InIndex OneHead y c) em g)
  where
    none : InIndex OneHead (App (Wait x 0) (Both n j)) c → ⊥
    none (inl (head, p, e, h)) = value_rests j p (inr (k, w, ej)) h
    none (inr ((l, e), p, f, h)) = no_wait_array x l e

label_final : (i : Imports) (o : Label) → IsFinal (OneLabel i o)
label_final i o (Put m k) t v (inl (inl (x, w, em, h, e, et))) (inl (inr (c, f, g))) = no_lower_import m x c em g
label_final i o (Deref m) t v (inl (inl (x, w, em, h, e, et))) (inl (inr (c, f, g))) = no_lower_import m x c em g
label_final i o (Put m k) t v (inl (inl (x, w, em, h, e, et))) (inr (c, f, g)) = absurd (subst (λ (u : Term). InIndex OneHead u c) em g)
label_final i o (Put m k) t v (inl (inr (x, p, (d, w, n, array, inl (em, ee, ek, et))))) (inl (inr (c, f, g))) = no_lower_port m (Import x) n c (inl (x, refl)) em g
label_final i o (Put m k) t v (inl (inr (x, p, (d, w, n, array, inr (j, em, ej, ee, et))))) (inl (inr (c, f, g))) = no_lower_port m (Wait x 0) (Both n j) c (inr (x, 0, refl)) em g
label_final i o (Put m k) t v (inr (x, p, (d, w, n, j, array, em, rest))) (inl (inr (c, f, g))) = no_lower_port m (Wait x 1) (Both n j) c (inr (x, 1, refl)) em g
label_final i o (Put m k) t v (inl (inr (x, p, (d, w, n, array, inl (em, ee, ek, et))))) (inr (c, f, g)) = no_index_before m (Import x) n c (import_unasked x) em g
label_final i o (Put m k) t v (inl (inr (x, p, (d, w, n, array, inr (j, em, ej, ee, et))))) (inr (c, f, g)) = index_rests m x n j c o.value d em ej g
label_final i o (Put m k) t v (inr (x, p, (d, w, n, j, array, em, rest))) (inr (c, f, g)) = no_index_before m (Wait x 1) (Both n j) c (request_unasked x) em g
label_final i o (Deref m) t v (inl (inl (x, w, em, h, e, et))) (inr (c, f, g)) = absurd (subst (λ (u : Term). InIndex OneHead u c) em g)
label_final i o (Deref m) t v (inl (inr (x, p, (d, w, n, array, inl (em, ee, ek, et))))) (inl (inr (c, f, g))) = no_lower_port m (Import x) n c (inl (x, refl)) em g
label_final i o (Deref m) t v (inl (inr (x, p, (d, w, n, array, inr (j, em, ej, ee, et))))) (inl (inr (c, f, g))) = no_lower_port m (Wait x 0) (Both n j) c (inr (x, 0, refl)) em g
label_final i o (Deref m) t v (inr (x, p, (d, w, n, j, array, em, rest))) (inl (inr (c, f, g))) = no_lower_port m (Wait x 1) (Both n j) c (inr (x, 1, refl)) em g
label_final i o (Deref m) t v (inl (inr (x, p, (d, w, n, array, inl (em, ee, ek, et))))) (inr (c, f, g)) = no_index_before m (Import x) n c (import_unasked x) em g
label_final i o (Deref m) t v (inl (inr (x, p, (d, w, n, array, inr (j, em, ej, ee, et))))) (inr (c, f, g)) = index_rests m x n j c o.value d em ej g
label_final i o (Deref m) t v (inr (x, p, (d, w, n, j, array, em, rest))) (inr (c, f, g)) = no_index_before m (Wait x 1) (Both n j) c (request_unasked x) em g
label_final i o (Import x) t v h (inl (inl (inl g))) = g
label_final i o (Import x) t v h (inl (inl (inr g))) = g
label_final i o (Import x) t v h (inl (inr g)) = g
label_final i o (Import x) t v h (inr g) = g
label_final i o (Wait x n) t v h (inl (inl (inl g))) = g
label_final i o (Wait x n) t v h (inl (inl (inr g))) = g
label_final i o (Wait x n) t v h (inl (inr g)) = g
label_final i o (Wait x n) t v h (inr g) = g
label_final i o (Put m k) t v h (inl (inl (inl g))) = g
label_final i o (Put m k) t v h (inl (inl (inr g))) = g
label_final i o (Deref m) t v h (inl (inl (inl g))) = g
label_final i o (Deref m) t v h (inl (inl (inr g))) = g
label_final i o m t v (inl h) g = absurd h
label_final i o m t v (inr h) g = absurd h

pub acts_stay : ActsStay
acts_stay i Computing s s' m v t h g = reached_stays (Computes s s') (row_final s s') m v t h g
acts_stay i (Showing o) s s' m v t h (g, e) = let (u, k) = reached_stays (OneLabel i o) (label_final i o) m v t h g in (u, (k, e))

-- what comes after unfoldings comes after one more
abbrev Active : Program → Act → Term → Store → Type 0
Active q a m s = (d : Config) × Move q a (Running m s) d

before_one : (q : Program) (a : Act) (m v : Term) (s : Store) → Unfolds m v → Active q a v s → Active q a m s
before_one q a m v s h (d, (n, u, hs, g)) = (d, (suc n, u, (v, h, hs), g))

pub answers_value : (o : Label) (m : Term) → Answers o m → IsValue m
answers_value o m (inl (is, e)) = inl is
answers_value o m (inr (k, w, is, e)) = inr (k, w, is)

after_one : (q : Program) (a : Act) (n : ℕ) (m v u : Term) (s : Store) (d : Config) → Unfolds m v → Unfoldings n m u → ActsTo q.imports a s u d → Active q a v s
after_one q a zero m v u s d h same g = by_end a d (subst (λ (x : Term). ActsTo q.imports a s x d) (sym same) g)
  where
    by_end : (a : Act) (d : Config) → ActsTo q.imports a s m d → Active q a v s
    by_end Computing Idle k = absurd k
    by_end (Showing o) Idle k = absurd (value_rests m v (answers_value o m k) h)
    by_end a (Running t s') k =
        let (w, stays) = acts_stay q.imports a s s' m v t h (acts_of q.imports a s s' m t k) in
        (Running w s', (0, v, refl, acts_to q.imports a s s' v w stays))
after_one q a (suc n) m v u s d h (x, one, more) g = by_meeting (unfoldings_meet m v x h one) (λ w right. after_one q a n x w u s d right more g)
  where
    by_meeting : (v ≡ x) ⊎ ((w : Term) × Unfolds v w × Unfolds x w) → ((w : Term) → Unfolds x w → Active q a w s) → Active q a v s
    by_meeting (inl same) later = (d, (n, u, subst (λ (y : Term). Unfoldings n y u) (sym same) more, g))
    by_meeting (inr (w, left, right)) later = before_one q a v w s left (later w right)

one_before : (q : Program) (s : Store) (m v : Term) → Unfolds m v → Stalled q (Running v s) → Stalled q (Running m s)
one_before q s m v h stalled = (
  λ d (n, u, hs, g). let (e, move) = after_one q Computing n m v u s d h hs g in stalled.0 e move,
  λ o d out (n, u, hs, g). let (e, move) = after_one q (Showing o) n m v u s d h hs g in stalled.1 o e out move,
)

pub waits_before : WaitsBefore
waits_before q zero s m v same stalled = subst (λ (x : Term). Stalled q (Running x s)) (sym same) stalled
waits_before q (suc n) s m v (u, h, hs) stalled = one_before q s m u h (waits_before q n s u v hs stalled)
