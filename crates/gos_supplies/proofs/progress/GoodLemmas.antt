-- Good terms: by Tait's method (1967), each closed term that has its type and no wait is one.
--
-- At a ground type a term is good where unfoldings of its head end; at a product where its sides are good; at a function
-- type where it makes a good term of each good argument.
use Rattle.std.specs.Prelude.{◌≡◌, ◌⊎◌, ℕ, zero, suc, ◌-◌, ◌^◌, ◌<◌, IsTrue, List, [], ◌∷◌, get_or, length, Some, slice_get}
use Rattle.std.proofs.Common.{arith, refl, sym, ap, subst, inl, inr, ◌∙◌}
use Rattle.std.proofs.lemmas.Bool.{le-ltb}
use Rattle.std.proofs.lemmas.Option.{same_Some, slice_get-get_or}
use Rattle.gos_types.specs.Types.{Type', Com, Exp, Var, Pair, Fun, IsGround, IsPort, IsDone}
use Rattle.gos_model.specs.Terms.{Name, Term, Skip, Lit, Bound, Import, Lam, App, Both, Fst, Snd, Seq, Par, If, While, Assign, Deref, New, NewArray, Not, Bin, Loc, Arr, Scope, Wait, Held, Put, result_of, complement, result_width}
use Rattle.gos_model.specs.Substitution.{put_at, instantiate}
use Rattle.gos_model.specs.Typing.{Imports, import_type, IsLength, index_width, array_type}
use Rattle.gos_model.specs.Stores.{Entry, variable_at, array_at, Store, entry_at, store_put, without}
use Rattle.gos_model.proofs.ArrayLemmas.{length_is_power}
use Rattle.gos_model.specs.Reach.{Rewrites, Under}
use Rattle.gos_model.specs.Accesses.{IsArrayImport}
use Rattle.gos_model.specs.Labels.{is_output, taken}
use Rattle.gos_model.specs.Moves.{Act, Computing, Showing, Acts, Unfoldings}
use Rattle.gos_programs.specs.contexts.Contexts.{Context, SeqFirst, ParLeft, ParRight, IfTest, BinLeft, HeldRight, NotOf, AssignRight, ScopeBody, ReadAt, WriteAt, plug}
use Rattle.gos_programs.proofs.contexts.PluggedLemmas.{unfoldings_plugged, acts_plugged}
use Rattle.gos_programs.proofs.contexts.RenamedStoreLemmas.{entry_place, above, above_absent}
use Rattle.gos_programs.specs.results.HasTypes.{widths_of, HasType}
use Rattle.gos_supplies.specs.progress.Progress.{HasNoWait}
use Rattle.gos_supplies.proofs.progress.ClosingLemmas.{chosen, close, IsClosed, AllClosed, stays, put_closes}

-- a computation step or an output
abbrev pub IsOwn : Act → Type 0
IsOwn Computing = Unit {0}
IsOwn (Showing o) = IsTrue (is_output o)

-- it moves by itself, as it stands
abbrev pub CanMove : Imports → Store → Term → Type 0
CanMove i s m = (a : Act) × (r : Store) × (t : Term) × IsOwn a × Acts i a s r m t

-- it moves by itself, after unfoldings
abbrev pub CanBegin : Imports → Store → Term → Type 0
CanBegin i s m = (n : ℕ) × (u : Term) × Unfoldings n m u × CanMove i s u

-- it unfolds to what is V, or moves
abbrev pub EndsOrBegins : (Term → Type 0) → Imports → Store → Term → Type 0
EndsOrBegins V i s m = (n : ℕ) × (u : Term) × Unfoldings n m u × (V u ⊎ CanMove i s u)

abbrev pub IsSkip : Term → Type 0
IsSkip v = v ≡ Skip

abbrev pub IsNumber : ℕ → Term → Type 0
IsNumber w v = (k : ℕ) × (v ≡ Lit k w) × (k < 2 ^ w)

-- an unfolding of the term's own head
abbrev pub UnfoldsHead : Term → Term → Type 0
UnfoldsHead m t = Rewrites m t ⊎ Under Rewrites m t

abbrev pub UnfoldsHeads : ℕ → Term → Term → Type 0
UnfoldsHeads zero m t = m ≡ t
UnfoldsHeads (suc n) m t = (u : Term) × UnfoldsHead m u × UnfoldsHeads n u t

-- an import of a variable, a location with a number, an array's import with an index, or an array with a good index
abbrev pub IsPlace : Imports → Store → ℕ → Term → Type 0
IsPlace i s w v =
    ((x : Name) × (v ≡ Import x) × (import_type i x ≡ Some (Var w)))
    ⊎ (((e : Entry) × (j : ℕ) × (v ≡ Loc e.place) × (entry_at s e.place ≡ Some e) × (slice_get e.numbers 0 ≡ Some j))
    ⊎ (((x : Name) × (j : ℕ) × (n : Term) × (v ≡ App (Import x) n) × IsArrayImport i x j w)
    ⊎ ((e : Entry) × (j : ℕ) × (n : Term) × (v ≡ App (Arr e.place) n) × (entry_at s e.place ≡ Some e) × (length e.numbers ≡ 2 ^ j) × EndsOrBegins (IsNumber j) i s n)))

abbrev pub IsGood : Imports → Store → Type' → Term → Type 0
IsGood i s Com m = EndsOrBegins IsSkip i s m
IsGood i s (Exp w) m = EndsOrBegins (IsNumber w) i s m
IsGood i s (Var w) m = (n : ℕ) × (v : Term) × UnfoldsHeads n m v × IsPlace i s w v
IsGood i s (Pair a b) m = IsGood i s a (Fst m) × IsGood i s b (Snd m)
IsGood i s (Fun a b) m = (n : Term) → IsClosed n → IsGood i s a n → IsGood i s b (App m n)

-- a term is good where what its head unfolds to is
pub expanded : (i : Imports) (s : Store) (t : Type') (m u : Term) → UnfoldsHead m u → IsGood i s t u → IsGood i s t m
expanded i s Com m u h (n, v, hs, e) = (suc n, v, (u, inl (inl h), hs), e)
expanded i s (Exp w) m u h (n, v, hs, e) = (suc n, v, (u, inl (inl h), hs), e)
expanded i s (Var w) m u h (n, v, hs, e) = (suc n, v, (u, h, hs), e)
expanded i s (Pair a b) m u h (k, l) =
    (expanded i s a (Fst m) (Fst u) (inr (u, refl, h)) k, expanded i s b (Snd m) (Snd u) (inr (u, refl, h)) l)
expanded i s (Fun a b) m u h k = λ n closed good. expanded i s b (App m n) (App u n) (inr (u, refl, h)) (k n closed good)

-- a command or an expression that begins is good
pub begins : (i : Imports) (s : Store) (t : Type') (m : Term) → IsDone t → CanBegin i s m → IsGood i s t m
begins i s Com m d (n, u, hs, h) = (n, u, hs, inr h)
begins i s (Exp w) m d (n, u, hs, h) = (n, u, hs, inr h)
begins i s (Var w) m d h = absurd d
begins i s (Pair a b) m d h = absurd d
begins i s (Fun a b) m d h = absurd d

-- it computes as it stands
computes : (i : Imports) (s : Store) (m : Term) (r : Store) (t : Term) → Acts i Computing s r m t → CanMove i s m
computes i s m r t h = (Computing, r, t, tt, h)

-- what begins does so in a context, and where it ends the context has to move
within : (V : Term → Type 0) (i : Imports) (s : Store) (c : Context) (m : Term) → EndsOrBegins V i s m → ((v : Term) → V v → CanMove i s (plug c v)) → CanBegin i s (plug c m)
within V i s c m (n, u, hs, inl v) f = (n, plug c u, unfoldings_plugged c n m u hs, f u v)
within V i s c m (n, u, hs, inr (a, r, t, own, h)) f =
    (n, plug c u, unfoldings_plugged c n m u hs, (a, r, plug c t, own, acts_plugged i a c s r u t h))

-- after unfoldings
after : (i : Imports) (s : Store) (n : ℕ) (m u : Term) → Unfoldings n m u → CanBegin i s u → CanBegin i s m
after i s zero m u e h = subst (λ (x : Term). CanBegin i s x) (sym e) h
after i s (suc n) m u (v, one, more) h = let b = after i s n v u more h in (suc b.0, b.1, (v, one, b.2), b.3)

pub both_begin : (i : Imports) (s : Store) (m n : Term) → EndsOrBegins IsSkip i s m → EndsOrBegins IsSkip i s n → CanBegin i s (Par m n)
both_begin i s m n (j, u, hs, inr (a, r, t, own, h)) k =
    (j, Par u n, unfoldings_plugged (ParLeft n) j m u hs, (a, r, Par t n, own, acts_plugged i a (ParLeft n) s r u t h))
both_begin i s m n (j, u, hs, inl e) k =
    after i s j (Par m n) (Par u n) (unfoldings_plugged (ParLeft n) j m u hs)
    (within IsSkip i s (ParRight u) n k (λ v e'. computes i s (Par u v) s Skip (inl (e, e', refl, refl))))

-- a variable is read and written
derefs : (n : ℕ) (m t : Term) → UnfoldsHeads n m t → Unfoldings n (Deref m) (Deref t)
derefs zero m t e = λ i. Deref (e i)
derefs (suc n) m t (u, h, hs) = (Deref u, inl (inr (u, refl, h)), derefs n u t hs)

writes : (k n : ℕ) (m t : Term) → UnfoldsHeads n m t → Unfoldings n (Put m k) (Put t k)
writes k zero m t e = λ i. Put (e i) k
writes k (suc n) m t (u, h, hs) = (Put u k, inl (inr (u, refl, h)), writes k n u t hs)

at_once : (i : Imports) (s : Store) (m : Term) → CanMove i s m → CanBegin i s m
at_once i s m h = (0, m, refl, h)

-- the number at an index that there is
there : (ks : List ℕ) (j k : ℕ) → length ks ≡ 2 ^ j → k < 2 ^ j → slice_get ks k ≡ Some (get_or ks k 0)
there ks j k long fits = slice_get-get_or ks k 0 (subst (λ (n : ℕ). k < n) (sym long) fits)

asks_place : (i : Imports) (s : Store) (w : ℕ) (v : Term) → IsPlace i s w v → CanBegin i s (Deref v)
asks_place i s w v (inl (x, is, e)) =
    at_once i s (Deref v) (Showing (taken x 0 0), s, Wait x 1, refl, (inl (inl (inl (x, w, is, e, refl, refl))), refl))
asks_place i s w v (inr (inr (inl (x, j, n, is, array)))) =
    at_once i s (Deref v) (
      Showing (taken x 2 0),
      s,
      Deref (App (Wait x 1) (Both n n)),
      refl,
      (inl (inl (inr (x, refl, (j, w, n, array, inl (is, refl, refl, refl))))), refl),
    )
asks_place i s w v (inr (inl (e, j, is, here, has))) =
    at_once i s (Deref v) (computes i s (Deref v) s (Lit j e.width) (inl (e, 0, j, inl (is, refl), here, has, refl, refl)))
asks_place i s w v (inr (inr (inr (e, j, n, is, here, long, index)))) =
    subst (λ (m : Term). CanBegin i s (Deref m)) (sym is)
    (within (IsNumber j) i s (ReadAt e.place) n index
    (λ u number.
    let (k, lit, fits) = number in
    computes i s (Deref (App (Arr e.place) u)) s (Lit (get_or e.numbers k 0) e.width)
    (inl (e, k, get_or e.numbers k 0, inr (j, ap (App (Arr e.place)) lit), here, there e.numbers j k long fits, refl, refl))))

puts_place : (i : Imports) (s : Store) (w k : ℕ) (v : Term) → IsPlace i s w v → CanBegin i s (Put v k)
puts_place i s w k v (inl (x, is, e)) =
    at_once i s (Put v k) (Showing (taken x 2 k), s, Wait x 3, refl, (inl (inl (inl (x, w, is, e, refl, refl))), refl))
puts_place i s w k v (inr (inr (inl (x, j, n, is, array)))) =
    at_once i s (Put v k) (
      Showing (taken x 4 k),
      s,
      Put (App (Wait x 1) (Both n n)) k,
      refl,
      (inl (inl (inr (x, refl, (j, w, n, array, inl (is, refl, refl, refl))))), refl),
    )
puts_place i s w k v (inr (inl (e, j, is, here, has))) =
    at_once i s (Put v k) (computes i s (Put v k) (store_put s e.place 0 k) Skip (inl (e, 0, j, inl (is, refl), here, has, refl, refl)))
puts_place i s w k v (inr (inr (inr (e, j, n, is, here, long, index)))) =
    subst (λ (m : Term). CanBegin i s (Put m k)) (sym is)
    (within (IsNumber j) i s (WriteAt e.place k) n index
    (λ u number.
    let (d, lit, fits) = number in
    computes i s (Put (App (Arr e.place) u) k) (store_put s e.place d k) Skip
    (inl (e, d, get_or e.numbers d 0, inr (j, ap (App (Arr e.place)) lit), here, there e.numbers j d long fits, refl, refl))))

asks : (i : Imports) (s : Store) (w : ℕ) (m : Term) → IsGood i s (Var w) m → CanBegin i s (Deref m)
asks i s w m (n, v, hs, h) = after i s n (Deref m) (Deref v) (derefs n m v hs) (asks_place i s w v h)

puts : (i : Imports) (s : Store) (w k : ℕ) (m : Term) → IsGood i s (Var w) m → CanBegin i s (Put m k)
puts i s w k m (n, v, hs, h) = after i s n (Put m k) (Put v k) (writes k n m v hs) (puts_place i s w k v h)

-- an import that is a port
abbrev pub ImportsArePorts : Imports → Type 0
ImportsArePorts i = (x : Name) (t : Type') → import_type i x ≡ Some t → IsPort t

ground_import_good : (i : Imports) (s : Store) (x : Name) (t : Type') → IsGround t → import_type i x ≡ Some t → IsGood i s t (Import x)
ground_import_good i s x Com g e = (0, Import x, refl, inr (Showing (taken x 0 0), s, Wait x 1, refl, (inl (inl (inl (e, refl, refl))), refl)))
ground_import_good i s x (Exp w) g e = (0, Import x, refl, inr (Showing (taken x 0 0), s, Wait x 1, refl, (inl (inl (inr (w, e, refl, refl))), refl)))
ground_import_good i s x (Var w) g e = (0, Import x, refl, inl (x, refl, e))
ground_import_good i s x (Pair a b) g e = absurd g
ground_import_good i s x (Fun a b) g e = absurd g

good_import : (i : Imports) (s : Store) (x : Name) (t : Type') → IsPort t → import_type i x ≡ Some t → IsGood i s t (Import x)
good_import i s x t (inl ground) e = ground_import_good i s x t ground e
good_import i s x (Fun (Exp j) (Var w)) (inr array) e = λ n closed index. (0, App (Import x) n, refl, inr (inr (inl (x, j, n, refl, e))))
good_import i s x Com (inr array) e = absurd array
good_import i s x (Exp w) (inr array) e = absurd array
good_import i s x (Var w) (inr array) e = absurd array
good_import i s x (Pair a b) (inr array) e = absurd array
good_import i s x (Fun a b) (inr array) e = absurd array

-- good closed terms for these binders
abbrev pub Suit : Imports → Store → List Type' → List Term → Type 0
Suit i s [] [] = Unit {0}
Suit i s (a ∷ g) (q ∷ qs) = IsClosed q × IsGood i s a q × Suit i s g qs
Suit i s [] (q ∷ qs) = ⊥
Suit i s (a ∷ g) [] = ⊥

suit_closed : (i : Imports) (s : Store) (g : List Type') (qs : List Term) → Suit i s g qs → AllClosed qs
suit_closed i s [] [] f = tt
suit_closed i s (a ∷ g) (q ∷ qs) f = (f.0, suit_closed i s g qs f.2)
suit_closed i s [] (q ∷ qs) f = absurd f
suit_closed i s (a ∷ g) [] f = absurd f

suit_good : (i : Imports) (s : Store) (g : List Type') (qs : List Term) (n : ℕ) (t : Type') → Suit i s g qs → slice_get g n ≡ Some t → IsGood i s t (chosen qs n)
suit_good i s [] qs n t f e = absurd (cc e)
suit_good i s (a ∷ g) [] n t f e = absurd f
suit_good i s (a ∷ g) (q ∷ qs) zero t f e = subst (λ (x : Type'). IsGood i s x q) (same_Some a t e) f.1
suit_good i s (a ∷ g) (q ∷ qs) (suc n) t f e = suit_good i s g qs n t f.2 e

all_bound : (qs : List Term) (n : ℕ) → close 0 qs (Bound n) ≡ chosen qs n
all_bound qs n =
    let same : n - 0 ≡ n = omega arith in
    rw (le-ltb n 0 (omega arith)) (ap (chosen qs) same)

one_bit : (k : ℕ) → k < 2 ^ 1 → (k ≡ 1) ⊎ (k ≡ 0)
one_bit zero h = inr refl
one_bit (suc zero) h = inl refl
one_bit (suc (suc k)) h = absurd (omega (arith, h))

chooses : (i : Imports) (s : Store) (m n p : Term) → IsNumber 1 m → CanMove i s (If m n p)
chooses i s m n p (k, e, fits) =
    elim (one_bit k fits) [
      | inl one ↦ computes i s (If m n p) s n (inl (inl (e ∙ ap (λ x. Lit x 1) one, refl), refl))
      | inr none ↦ computes i s (If m n p) s p (inl (inr (e ∙ ap (λ x. Lit x 1) none, refl), refl))
    ]

as_type : (i : Imports) (s : Store) (m : Term) (t u : Type') → t ≡ u → IsGood i s u m → IsGood i s t m
as_type i s m t u e h = subst (λ (x : Type'). IsGood i s x m) (sym e) h

-- a block
block : (i : Imports) (s : Store) (l : ℕ) (t : Type') (m : Term) → IsDone t → IsGood i s t m → IsGood i s t (Scope l m)
block i s l Com m d h =
    begins i s Com (Scope l m) tt
    (within IsSkip i s (ScopeBody l) m h (λ v e. computes i s (Scope l v) (without s l) v (inl (inl e, refl, refl))))
block i s l (Exp w) m d h =
    begins i s (Exp w) (Scope l m) tt
    (within (IsNumber w) i s (ScopeBody l) m h
    (λ v is. computes i s (Scope l v) (without s l) v (inl (inr (is.0, w, is.1), refl, refl))))
block i s l (Var w) m d h = absurd d
block i s l (Pair a b) m d h = absurd d
block i s l (Fun a b) m d h = absurd d

module _ (i : Imports) (s : Store) (ports : ImportsArePorts i) where
  -- with good terms for its variables each term without waits is good
  pub good : (g : List Type') (m : Term) (t : Type') (qs : List Term) → Suit i s g qs → HasNoWait m → HasType (widths_of s) i g m t → IsGood i s t (close 0 qs m)
  good g Skip t qs f nw e = as_type i s Skip t Com e (0, Skip, refl, inl refl)
  good g (Lit k w) t qs f nw (e, fits) = as_type i s (Lit k w) t (Exp w) e (0, Lit k w, refl, inl (k, refl, fits))
  good g (Bound n) t qs f nw e = subst (λ (x : Term). IsGood i s t x) (sym (all_bound qs n)) (suit_good i s g qs n t f e)
  good g (Import x) t qs f nw e = good_import i s x t (ports x t e) e
  good g (Lam a m) t qs f nw (b, e, h) =
      as_type i s (Lam a (close 1 qs m)) t (Fun a b) e
      (λ n closed k.
      expanded i s b (App (Lam a (close 1 qs m)) n) (put_at 0 n (close 1 qs m)) (inl (a, close 1 qs m, refl, refl))
      (subst (λ (x : Term). IsGood i s b x) (sym (put_closes m qs (suit_closed i s g qs f) 0 n)) (good (a ∷ g) m b (n ∷ qs) (closed, k, f) nw h)))
  good g (App m n) t qs f nw (a, h, k) =
      good g m (Fun a t) qs f nw.0 h (close 0 qs n) (λ d q. stays n qs (suit_closed i s g qs f) 0 d q (omega arith)) (good g n a qs f nw.1 k)
  good g (Both m n) t qs f nw (a, b, e, h, k) =
      as_type i s (Both (close 0 qs m) (close 0 qs n)) t (Pair a b) e (
        expanded i s a (Fst (Both (close 0 qs m) (close 0 qs n))) (close 0 qs m) (inl (close 0 qs n, refl)) (good g m a qs f nw.0 h),
        expanded i s b (Snd (Both (close 0 qs m) (close 0 qs n))) (close 0 qs n) (inl (close 0 qs m, refl)) (good g n b qs f nw.1 k),
      )
  good g (Fst m) t qs f nw (b, h) = (good g m (Pair t b) qs f nw h).0
  good g (Snd m) t qs f nw (a, h) = (good g m (Pair a t) qs f nw h).1
  good g (Seq m n) t qs f nw (d, h, k) =
      begins i s t (close 0 qs (Seq m n)) d
      (within IsSkip i s (SeqFirst (close 0 qs n)) (close 0 qs m) (good g m Com qs f nw.0 h)
      (λ v e. computes i s (Seq v (close 0 qs n)) s (close 0 qs n) (inl (e, refl, refl))))
  good g (Par m n) t qs f nw (e, h, k) =
      as_type i s (close 0 qs (Par m n)) t Com e
      (begins i s Com (close 0 qs (Par m n)) tt (both_begin i s (close 0 qs m) (close 0 qs n) (good g m Com qs f nw.0 h) (good g n Com qs f nw.1 k)))
  good g (If m n p) t qs f nw (d, h, k, l) =
      begins i s t (close 0 qs (If m n p)) d
      (within (IsNumber 1) i s (IfTest (close 0 qs n) (close 0 qs p)) (close 0 qs m) (good g m (Exp 1) qs f nw.0 h)
      (λ v is. chooses i s v (close 0 qs n) (close 0 qs p) is))
  good g (While m n) t qs f nw (e, h, k) =
      let whole = close 0 qs (While m n) in
      as_type i s whole t Com e
      (begins i s Com whole tt (
        0,
        whole,
        refl,
        computes i s whole s (If (close 0 qs m) (Seq (close 0 qs n) whole) Skip) (inl (refl, refl)),
      ))
  good g (Assign m n) t qs f nw (w, e, h, k) =
      as_type i s (close 0 qs (Assign m n)) t Com e
      (begins i s Com (close 0 qs (Assign m n)) tt
      (within (IsNumber w) i s (AssignRight (close 0 qs m)) (close 0 qs n) (good g n (Exp w) qs f nw.1 k)
      (λ v is. computes i s (Assign (close 0 qs m) v) s (Put (close 0 qs m) is.0) (inl (is.0, w, is.1, refl, refl)))))
  good g (Deref m) t qs f nw (w, e, h) =
      as_type i s (close 0 qs (Deref m)) t (Exp w) e (begins i s (Exp w) (close 0 qs (Deref m)) tt (asks i s w (close 0 qs m) (good g m (Var w) qs f nw h)))
  good g (New w m) t qs f nw (d, h) =
      let whole = close 0 qs (New w m) in
      begins i s t whole d (
        0,
        whole,
        refl,
        computes i s whole (variable_at (above s) w 0 ∷ s) (Scope (above s) (instantiate (close 1 qs m) (Loc (above s))))
            (inl (above s, above_absent s (above s) (omega arith), refl, refl)),
      )
  good g (NewArray n w m) t qs f nw (d, long, h) =
      let whole = close 0 qs (NewArray n w m) in
      begins i s t whole d (
        0,
        whole,
        refl,
        computes i s whole (array_at (above s) w n ∷ s) (Scope (above s) (instantiate (close 1 qs m) (Arr (above s))))
            (inl (above s, above_absent s (above s) (omega arith), refl, refl)),
      )
  good g (Not m) t qs f nw (w, e, h) =
      as_type i s (close 0 qs (Not m)) t (Exp w) e
      (begins i s (Exp w) (close 0 qs (Not m)) tt
      (within (IsNumber w) i s NotOf (close 0 qs m) (good g m (Exp w) qs f nw h)
      (λ v is. computes i s (Not v) s (Lit (complement w is.0) w) (inl (is.0, w, is.1, refl, refl)))))
  good g (Bin op m n) t qs f nw (w, e, h, k) =
      let whole = close 0 qs (Bin op m n) in
      as_type i s whole t (Exp (result_width op w)) e
      (begins i s (Exp (result_width op w)) whole tt
      (within (IsNumber w) i s (BinLeft op (close 0 qs n)) (close 0 qs m) (good g m (Exp w) qs f nw.0 h)
      (λ v is. computes i s (Bin op v (close 0 qs n)) s (Held is.0 op (close 0 qs n)) (inl (is.0, w, is.1, refl, refl)))))
  good g (Loc l) t qs f nw (w, is, (e, here, wide, one)) =
      let at = entry_place s l e here in
      let number = slice_get-get_or e.numbers 0 0 (omega (arith, one)) in
      as_type i s (Loc l) t (Var w) is
      (0, Loc l, refl, inr (inl (e, get_or e.numbers 0 0, ap Loc (sym at), subst (λ (x : ℕ). entry_at s x ≡ Some e) (sym at) here, number)))
  good g (Arr l) t qs f nw (n, w, is, long, (e, here, wide, many)) =
      let at = entry_place s l e here in
      let numbers : length e.numbers ≡ 2 ^ index_width n = many ∙ (length_is_power n long).0 in
      as_type i s (Arr l) t (array_type n w) is
      (λ u closed index. (
        0,
        App (Arr l) u,
        refl,
        inr (inr (inr (e, index_width n, u, ap (λ (x : ℕ). App (Arr x) u) (sym at), subst (λ (x : ℕ). entry_at s x ≡ Some e) (sym at) here, numbers, index))),
      ))
  good g (Scope l m) t qs f nw (d, h) = block i s l t (close 0 qs m) d (good g m t qs f nw h)
  good g (Wait x n) t qs f nw h = absurd nw
  good g (Held k op n) t qs f nw (w, e, fits, h) =
      let whole = close 0 qs (Held k op n) in
      as_type i s whole t (Exp (result_width op w)) e
      (begins i s (Exp (result_width op w)) whole tt
      (within (IsNumber w) i s (HeldRight k op) (close 0 qs n) (good g n (Exp w) qs f nw h)
      (λ v is. computes i s (Held k op v) s (Lit (result_of op w k is.0) (result_width op w)) (inl (is.0, w, is.1, refl, refl)))))
  good g (Put m k) t qs f nw (w, e, fits, h) =
      as_type i s (close 0 qs (Put m k)) t Com e
      (begins i s Com (close 0 qs (Put m k)) tt (puts i s w k (close 0 qs m) (good g m (Var w) qs f nw h)))
