-- The configurations of a run are proper.
use Rattle.std.specs.Prelude.{◌≡◌, ◌+◌, ◌-◌, ◌<◌, ℕ, zero, suc, true, false, Bool, List, [], ◌∷◌, ◌++◌, length, Contains, Some, nat_lt, if◌then◌else◌, slice_get}
use Rattle.std.proofs.Common.{arith, refl, sym, ap, subst}
use Rattle.std.proofs.lemmas.Bool.Decides.{nat_tests}
use Rattle.std.proofs.lemmas.Option.{slice_get_within}
use Rattle.gos_types.specs.Types.{Type', Com, Exp, Var, Pair, Fun}
use Rattle.gos_model.specs.Terms.{Term, Skip, Lit, Bound, Import, Lam, App, Both, Fst, Snd, Seq, Par, If, While, Assign, Deref, New, Not, Bin, Loc, Scope, Wait, Held, Put, NewArray, Arr}
use Rattle.gos_model.specs.Stores.{Store}
use Rattle.gos_model.specs.Typing.{Imports, Thing, Variable, Named, Place, things, Typed, array_type}
use Rattle.gos_model.specs.Reach.{Unfolds}
use Rattle.gos_model.specs.Moves.{Program, Config, Idle, Running, Act, Unfoldings, Move, Moves}
use Rattle.gos_programs.specs.contexts.Standing.{StandsIn}
use Rattle.gos_programs.proofs.contexts.PluggedLemmas.{acts_of}
use Rattle.gos_programs.proofs.contexts.ScopeLemmas.{runs_keep_scopes}
use Rattle.gos_programs.proofs.contexts.ShutLemmas.{sources_are_shut}
use Rattle.gos_programs.proofs.contexts.StandingLemmas.{runs_stay}
use Rattle.gos_swaps.specs.proper.Proper.{PartsApart, IsClosed, SourcesAreApart, SourcesAreClosed, RunsAreProper}
use Rattle.gos_swaps.proofs.proper.ThingLemmas.{only_one, nothing, by_parts, place_present, stands_from}
use Rattle.gos_swaps.proofs.proper.ShrinkLemmas.{unfoldings_shrink, unfoldings_keep_apart, acts_keep_apart}

-- sources
pub sources_are_apart : SourcesAreApart
sources_are_apart i g Skip t h = tt
sources_are_apart i g (Lit k w) t h = tt
sources_are_apart i g (Bound n) t h = tt
sources_are_apart i g (Import x) t h = tt
sources_are_apart i g (Lam a m) t (b, e, h) = sources_are_apart i (a ∷ g) m b h
sources_are_apart i g (App m n) t (a, h, k, apart) = (apart, sources_are_apart i g m (Fun a t) h, sources_are_apart i g n a k)
sources_are_apart i g (Both m n) t (a, b, e, h, k) = (sources_are_apart i g m a h, sources_are_apart i g n b k)
sources_are_apart i g (Fst m) t (b, h) = sources_are_apart i g m (Pair t b) h
sources_are_apart i g (Snd m) t (a, h) = sources_are_apart i g m (Pair a t) h
sources_are_apart i g (Seq m n) t (d, h, k) = (sources_are_apart i g m Com h, sources_are_apart i g n t k)
sources_are_apart i g (Par m n) t (e, h, k, apart) = (apart, sources_are_apart i g m Com h, sources_are_apart i g n Com k)
sources_are_apart i g (If m n p) t (d, h, k, o) =
    (sources_are_apart i g m (Exp 1) h, sources_are_apart i g n t k, sources_are_apart i g p t o)
sources_are_apart i g (While m n) t (e, h, k) = (sources_are_apart i g m (Exp 1) h, sources_are_apart i g n Com k)
sources_are_apart i g (Assign m n) t (w, e, h, k) = (sources_are_apart i g m (Var w) h, sources_are_apart i g n (Exp w) k)
sources_are_apart i g (Deref m) t (w, e, h) = sources_are_apart i g m (Var w) h
sources_are_apart i g (New w m) t (d, k, h) = sources_are_apart i (Var w ∷ g) m t h
sources_are_apart i g (NewArray n w m) t (d, l, k, h) = sources_are_apart i (array_type n w ∷ g) m t h
sources_are_apart i g (Not m) t (w, e, h) = sources_are_apart i g m (Exp w) h
sources_are_apart i g (Bin op m n) t (w, e, h, k) = (sources_are_apart i g m (Exp w) h, sources_are_apart i g n (Exp w) k)
sources_are_apart i g (Loc l) t h = absurd h
sources_are_apart i g (Arr l) t h = absurd h
sources_are_apart i g (Scope l m) t h = absurd h
sources_are_apart i g (Wait x s) t h = absurd h
sources_are_apart i g (Held k op n) t h = absurd h
sources_are_apart i g (Put m k) t h = absurd h

-- a variable that is free under c binders of its own is one of those that have a type
variable_of : (e n : ℕ) → Variable e ≡ Variable n → e ≡ n
variable_of e n h = ap number h
  where
    number : Thing → ℕ
    number (Variable k) = k
    number t = 0

bound_within : (g : List Type') (c n e : ℕ) (t : Type') → slice_get g n ≡ Some t
    → Contains (if nat_lt n c then [] else Variable (n - c) ∷ []) (Variable e) → c + e < length g
bound_within g c n e t h k = tested (nat_lt n c) refl k
  where
    tested : (b : Bool) → nat_lt n c ≡ b → Contains (if b then [] else Variable (n - c) ∷ []) (Variable e) → c + e < length g
    tested true l j = nothing (Variable e) j
    tested false l j =
        let same : e ≡ n - c = variable_of e (n - c) (only_one (Variable (n - c)) (Variable e) j) in
        let low : n < length g = slice_get_within g n t h in
        grind (arith, nat_tests, l, same, low)

typed_within : (i : Imports) (g : List Type') (m : Term) (t : Type') (c e : ℕ) → Typed i g m t → Contains (things c m) (Variable e)
    → c + e < length g
typed_within i g Skip t c e h k = nothing (Variable e) k
typed_within i g (Lit n w) t c e h k = nothing (Variable e) k
typed_within i g (Bound n) t c e h k = bound_within g c n e t h k
typed_within i g (Import x) t c e h k = let bad : Variable e ≡ Named x = only_one (Named x) (Variable e) k in absurd (cc bad)
typed_within i g (Lam a m) t c e (b, et, h) k = let l = typed_within i (a ∷ g) m b (suc c) e h k in omega (arith, l)
typed_within i g (App m n) t c e (a, h, j, apart) k =
    by_parts (things c m) (things c n) (Variable e) (typed_within i g m (Fun a t) c e h) (typed_within i g n a c e j) k
typed_within i g (Both m n) t c e (a, b, et, h, j) k =
    by_parts (things c m) (things c n) (Variable e) (typed_within i g m a c e h) (typed_within i g n b c e j) k
typed_within i g (Fst m) t c e (b, h) k = typed_within i g m (Pair t b) c e h k
typed_within i g (Snd m) t c e (a, h) k = typed_within i g m (Pair a t) c e h k
typed_within i g (Seq m n) t c e (d, h, j) k =
    by_parts (things c m) (things c n) (Variable e) (typed_within i g m Com c e h) (typed_within i g n t c e j) k
typed_within i g (Par m n) t c e (et, h, j, apart) k =
    by_parts (things c m) (things c n) (Variable e) (typed_within i g m Com c e h) (typed_within i g n Com c e j) k
typed_within i g (If m n p) t c e (d, h, j, o) k =
    by_parts (things c m) (things c n ++ things c p) (Variable e) (typed_within i g m (Exp 1) c e h)
    (by_parts (things c n) (things c p) (Variable e) (typed_within i g n t c e j) (typed_within i g p t c e o)) k
typed_within i g (While m n) t c e (et, h, j) k =
    by_parts (things c m) (things c n) (Variable e) (typed_within i g m (Exp 1) c e h) (typed_within i g n Com c e j) k
typed_within i g (Assign m n) t c e (w, et, h, j) k =
    by_parts (things c m) (things c n) (Variable e) (typed_within i g m (Var w) c e h) (typed_within i g n (Exp w) c e j) k
typed_within i g (Deref m) t c e (w, et, h) k = typed_within i g m (Var w) c e h k
typed_within i g (New w m) t c e (d, is, h) k = let l = typed_within i (Var w ∷ g) m t (suc c) e h k in omega (arith, l)
typed_within i g (NewArray n w m) t c e (d, many, is, h) k = let l = typed_within i (array_type n w ∷ g) m t (suc c) e h k in omega (arith, l)
typed_within i g (Not m) t c e (w, et, h) k = typed_within i g m (Exp w) c e h k
typed_within i g (Bin op m n) t c e (w, et, h, j) k =
    by_parts (things c m) (things c n) (Variable e) (typed_within i g m (Exp w) c e h) (typed_within i g n (Exp w) c e j) k
typed_within i g (Loc l) t c e h k = absurd h
typed_within i g (Arr l) t c e h k = absurd h
typed_within i g (Scope l m) t c e h k = absurd h
typed_within i g (Wait x s) t c e h k = absurd h
typed_within i g (Held n op m) t c e h k = absurd h
typed_within i g (Put m n) t c e h k = absurd h

pub sources_are_closed : SourcesAreClosed
sources_are_closed i m t h n k = let low : 0 + n < 0 = typed_within i [] m t 0 n h k in omega (arith, low)

-- an unfolding leaves each location its entry
pub unfolding_stands : (s : Store) (m t : Term) → IsClosed m → StandsIn s m → Unfolds m t → StandsIn s t
unfolding_stands s m t closed st h =
    stands_from s t 0 (λ l g. place_present s m 0 l st (unfoldings_shrink m t (Place l) closed h g))

-- a term whose parts are apart, that is closed and stands in a store
pub record Settled (m : Term) (s : Store) : Type 0 where
  pub apart : PartsApart m
  pub closed : IsClosed m
  pub standing : StandsIn s m

pub settled_after : (s : Store) (n : ℕ) (m t : Term) → Settled m s → Unfoldings n m t → Settled t s
settled_after s zero m t h e = subst (λ (z : Term). Settled z s) e h
settled_after s (suc n) m t h (u, g, gs) =
    let k = unfoldings_keep_apart m u h.apart h.closed g in
    settled_after s n u t (record { apart = k.0; closed = k.1; standing = unfolding_stands s m u h.closed h.standing g }) gs

-- in runs
moves_on : (p : Program) (acts : List Act) (a : Act) (c b d : Config) → Moves p acts c b → Move p a b d → Moves p (acts ++ a ∷ []) c d
moves_on p [] a c b d h g = (d, subst (λ (z : Config). Move p a z d) (sym h) g, refl)
moves_on p (x ∷ acts) a c b d (e, h, hs) g = (e, h, moves_on p acts a e b d hs g)

abbrev Apartly : Config → Type 0
Apartly Idle = Unit {0}
Apartly (Running m s) = PartsApart m × IsClosed m

module _ (p : Program) (ty : Type') (typed : Typed p.imports [] p.body ty) where
  move_apart : (before : List Act) (a : Act) (c d : Config) → Moves p before Idle c → Apartly c → Move p a c d → Apartly d
  move_apart before a Idle d run k (e, h) =
      subst Apartly (sym h) (sources_are_apart p.imports [] p.body ty typed, sources_are_closed p.imports p.body ty typed)
  move_apart before a (Running m s) Idle run k h = tt
  move_apart before a (Running m s) (Running t u) run (apart, closed) (n, v, hs, h) =
      let st = (runs_stay p before m s ty typed run).2 in
      let k = settled_after s n m v (record { apart = apart; closed = closed; standing = st }) hs in
      acts_keep_apart p.imports a s u v t k.apart k.closed k.standing (acts_of p.imports a s u v t h)

  moves_apart : (before acts : List Act) (c d : Config) → Moves p before Idle c → Apartly c → Moves p acts c d → Apartly d
  moves_apart before [] c d run k h = subst Apartly h k
  moves_apart before (a ∷ acts) c d run k (b, h, hs) =
      moves_apart (before ++ a ∷ []) acts b d (moves_on p before a Idle c b run h) (move_apart before a c b run k h) hs

pub runs_are_proper : RunsAreProper
runs_are_proper p acts t s ty typed h =
    let k : PartsApart t × IsClosed t = moves_apart p ty typed [] acts Idle (Running t s) refl tt h in
    let stays = runs_stay p acts t s ty typed h in
    record {
      apart = k.0;
      closed = k.1;
      scopes = runs_keep_scopes p acts t s (sources_are_shut p.imports [] p.body ty typed) h;
      within = stays.0;
      differ = stays.1;
      standing = stays.2;
    }
