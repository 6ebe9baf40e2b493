-- Firings in order that don't go on: where they lead, and what the ranks of requests are after them.
use Rattle.std.specs.Prelude.{Option, None}
use Rattle.std.proofs.Common.{◌≡◌, ℕ, suc, ◌≤◌, Bool, true, false, List, [], ◌∷◌, ◌++◌, Some, refl, sym, ◌∙◌, subst, arith, if◌then◌else◌}
use Rattle.gos_types.specs.Events.{Request, Answer}
use Rattle.gos_plan.specs.Firing.{Slot, Req, Ans, Token}
use Rattle.gos_plan.specs.Plans.{End, PartEnd, Plan, same_end}
use Rattle.gos_plan.specs.Tokens.{Tokens, Element, Fire, places_of, with_held, end_of, way_of, with_token, with_puts, Runs}
use Rattle.gos_plan.specs.Orderly.{named_by, handshake_at, Open, OrderlyFrom}
use Rattle.gos_plan.specs.Made.{PartFiring, fires_of, Made}
use Rattle.gos_plan.proofs.DecidedLemmas.{one_state}
use Rattle.gos_plan.proofs.HeldLemmas.{AllFit}
use Rattle.gos_plan.proofs.HeldLemmas as held
use Rattle.gos_realises.specs.realises.Matched.{asks_on}
use Rattle.gos_realises.specs.quiet.Quiet.{NoneGoesOn, FiresOnly, all_fires}
use Rattle.gos_realises.specs.quiet.Ranks.{Ranks, with_rank, rank_put, ranks_after, Stepped, Steps}

-- an orderly list that begins with what leads to this state
pub orderly_apart : (p : Plan) (xs ys : List Element) (o u : Open) (s m t : Tokens) → OrderlyFrom p (xs ++ ys) o s u t → Runs p xs s m
    → (n : Open) × OrderlyFrom p xs o s n m × OrderlyFrom p ys n m u t
orderly_apart p [] ys o u s m t h r = (o, (refl, r), subst (λ (x : Tokens). OrderlyFrom p ys o x u t) (sym r) h)
orderly_apart p (x ∷ xs) ys o u s m t (n, w, does, comes, welcome, rest) (z, also, runs) =
    let same : w ≡ z = one_state p x s w z does also in
    let more = orderly_apart p xs ys n u w m t rest (subst (λ (y : Tokens). Runs p xs y m) (sym same) runs) in
    (more.0, (n, w, does, comes, welcome, more.1), more.2)

-- firings of a list as steps
steps_of : (p : Plan) (fs : List PartFiring) (ys : List Element) (o u : Open) (f : Ranks) (s m t : Tokens) → NoneGoesOn p (fires_of fs) s m
    → OrderlyFrom p (fires_of fs ++ ys) o s u t → (n : Open) × (g : Ranks) × Steps p fs o f s n g m × OrderlyFrom p ys n m u t
steps_of p [] ys o u f s m t none h = (o, f, (refl, refl, none), subst (λ (x : Tokens). OrderlyFrom p ys o x u t) (sym none) h)
steps_of p (x ∷ fs) ys o u f s m t (z, (v, r, lies, fires, leads), stays, none) (n, w, does, comes, welcome, rest) =
    let same : w ≡ z = one_state p (Fire x.part x.takes) s w z does (v, r, lies, fires, leads) in
    let ranks = ranks_after p x.part (suc (f (handshake_at p (end_of x.part x.takes)))) (r.puts v) f in
    let more = steps_of p fs ys n u ranks w m t (subst (λ (y : Tokens). NoneGoesOn p (fires_of fs) y m) (sym same) none) rest in (
      more.0,
      more.1,
      (
        n,
        ranks,
        w,
        record { value = v; row = r; lies = lies; fires = fires; leads = same ∙ leads; comes = comes; welcome = welcome; stays = stays; ranks = refl },
        more.2,
      ),
      more.3,
    )

-- the steps of cycles
abbrev pub Cycles : Plan → Open → Ranks → Tokens → List Made → Type 0
Cycles p o f s [] = Unit {0}
Cycles p o f s (m ∷ ms) = (u : Open) × (g : Ranks) × Steps p m.firings o f s u g m.after × Cycles p u g m.after ms

pub cycles_of : (p : Plan) (ms : List Made) (o u : Open) (f : Ranks) (s t : Tokens) → FiresOnly p s ms → OrderlyFrom p (all_fires ms) o s u t
    → Cycles p o f s ms
cycles_of p [] o u f s t only h = tt
cycles_of p (m ∷ ms) o u f s t only h =
    let now = steps_of p m.firings (all_fires ms) o u f s m.after t only.0 h in
    (now.0, now.1, now.2, cycles_of p ms now.0 u now.1 m.after t only.1 now.3)

pub steps_append : (p : Plan) (xs ys : List PartFiring) (o m u : Open) (f h g : Ranks) (s w t : Tokens) → Steps p xs o f s m h w → Steps p ys m h w u g t
    → Steps p (xs ++ ys) o f s u g t
steps_append p [] ys o m u f h g s w t (a, b, c) k =
    subst (λ (x : Open). Steps p ys x f s u g t) a
    (subst (λ (x : Ranks). Steps p ys m x s u g t) b (subst (λ (x : Tokens). Steps p ys m h x u g t) c k))
steps_append p (x ∷ xs) ys o m u f h g s w t (n, y, z, one, rest) k = (n, y, z, one, steps_append p xs ys n m u y h g z w t rest k)

-- each joint holds one token at most
pub step_fits : (p : Plan) (i : ℕ) (slot : Slot) (o m : Open) (f h : Ranks) (s w : Tokens) → Stepped p i slot o f s m h w → AllFit o s → AllFit m w
step_fits p i slot o m f h s w k fit = held.step p (Fire i slot) o m s w (k.value, k.row, k.lies, k.fires, k.leads) k.comes fit

pub steps_fit : (p : Plan) (fs : List PartFiring) (o u : Open) (f g : Ranks) (s t : Tokens) → Steps p fs o f s u g t → AllFit o s → AllFit u t
steps_fit p [] o u f g s t (a, b, c) fit = subst (λ (x : Open). AllFit x t) (sym a) (subst (AllFit o) (sym c) fit)
steps_fit p (x ∷ xs) o u f g s t (n, y, z, one, rest) fit = steps_fit p xs n u y g z t rest (step_fits p x.part x.takes o n f y s z one fit)

-- a request in the place of this name has this rank at least
abbrev pub AtLeast : ℕ → End → Ranks → Tokens → Type 0
AtLeast k e f s = (v : ℕ) → s.in_place Request e ≡ Some v → k ≤ f e

-- part i puts tokens, requests of rank n
put_one : (p : Plan) (i k n : ℕ) (t : Token) (e : End) (f : Ranks) (s : Tokens) → (asks_on (t ∷ []) ≡ true → k ≤ n) → AtLeast k e f s
    → AtLeast k e (rank_put p (end_of i t.slot) (way_of t.slot) n f) (with_token p (end_of i t.slot) (way_of t.slot) (Some t.value) s)
put_one p i k n t e f s high least = by_slot t.slot refl
  where
    by_slot : (slot : Slot) → t.slot ≡ slot
        → AtLeast k e (rank_put p (end_of i slot) (way_of slot) n f) (with_token p (end_of i slot) (way_of slot) (Some t.value) s)
    by_slot (Req h) is = by_place (places_of p (PartEnd i h))
      where
        enough : k ≤ n
        enough = high (rw is refl)

        by_test : (b : Bool) (held other : Option ℕ) → ((v : ℕ) → other ≡ Some v → k ≤ f e) → (v : ℕ) → (if b then held else other) ≡ Some v
            → k ≤ (if b then n else f e)
        by_test true held other rest v lies = enough
        by_test false held other rest v lies = rest v lies

        no_place : (b : Bool) → ((v : ℕ) → s.in_place Request e ≡ Some v → k ≤ f e) → (v : ℕ) → s.in_place Request e ≡ Some v
            → k ≤ (if b then n else f e)
        no_place true rest v lies = enough
        no_place false rest v lies = rest v lies

        by_place : (a : Option End) → AtLeast k e (with_rank (named_by a (PartEnd i h)) n f) (with_held Request a (Some t.value) s)
        by_place None = no_place (same_end e (PartEnd i h)) least
        by_place (Some a) = by_test (same_end e a) (Some t.value) (s.in_place Request e) least
    by_slot (Ans h) is = by_place (places_of p (PartEnd i h))
      where
        by_place : (a : Option End) → AtLeast k e f (with_held Answer a (Some t.value) s)
        by_place None = least
        by_place (Some a) = least

pub put_all : (p : Plan) (i k n : ℕ) (ts : List Token) (e : End) (f : Ranks) (s : Tokens) → (asks_on ts ≡ true → k ≤ n) → AtLeast k e f s
    → AtLeast k e (ranks_after p i n ts f) (with_puts p i ts s)
put_all p i k n [] e f s high least = least
put_all p i k n (t ∷ ts) e f s high least =
    put_all p i k n ts e (rank_put p (end_of i t.slot) (way_of t.slot) n f) (with_token p (end_of i t.slot) (way_of t.slot) (Some t.value) s)
    (λ h. high (grind (arith, h)))
    (put_one p i k n t e f s (λ h. high (grind (arith, h))) least)
