-- A change at a way is a change of the part there.
use Rattle.std.proofs.Common.{◌≡◌, ◌⊎◌, ℕ, zero, suc, List, [], ◌∷◌, ◌++◌, length, refl, sym, ap, subst, arith, Some, None, inl, inr, ◌∙◌}
use Rattle.std.proofs.lemmas.Option.{none-some}
use Rattle.gos_model.specs.Terms.{Term, Skip, App, Both, Fst, Snd, Seq, Par, If, Assign, Deref, Not, Bin, Arr, Scope, Wait, Held, Put}
use Rattle.gos_model.specs.Reach.{Rel}
use Rattle.gos_model.specs.Paths.{ReachedAt, IndexAt}
use Rattle.gos_swaps.specs.doings.Heads.{UnderAt, HeadAt, HeadInIndexAt}
use Rattle.gos_witness.specs.declared.walking.Zone.{Zone}
use Rattle.gos_witness.specs.declared.walking.Zone.TheVariants as zones
use Rattle.gos_witness.specs.declared.walking.Frame.{Frame}
use Rattle.gos_witness.specs.declared.walking.Frame.TheVariants as frames
use Rattle.gos_witness.specs.NodeLists.{Tables, Listed, two_term}
use Rattle.gos_witness.specs.inner.Keeping.{Keeps}
use Rattle.gos_witness.specs.inner.Places.{pair, own, argument, and_part, part_at, replaced, At, fill, plug, FitsFrame, AreFrames}
use Rattle.gos_witness.proofs.KeepLemmas.{one_keeps, fits_one}

-- a way begins among reached places, or among heads
abbrev pub IsStart : Zone → Type 0
IsStart zones.Reached = Unit {0}
IsStart zones.Head = Unit {0}
IsStart z = ⊥

-- R changes the part at the way, and nothing else changes
abbrev pub Found : Zone → List ℕ → Rel → Term → Term → Type 0
Found z path R m t = (x : Term) × (y : Term) × (part_at z path m ≡ Some x) × R x y × (t ≡ replaced z path m y)

under_found : (R : Rel) (path : List ℕ) (m t : Term) → UnderAt path R m t → Found zones.Under path R m t
under_found R [] m t h = (m, t, refl, h, refl)
under_found R (zero ∷ path) (App m n) t (m', e, h) =
    let (x, y, at, r, is) = under_found R path m m' h in (x, y, at, r, e ∙ ap (λ q. App q n) is)
under_found R (zero ∷ path) (Fst m) t (m', e, h) = let (x, y, at, r, is) = under_found R path m m' h in (x, y, at, r, e ∙ ap Fst is)
under_found R (zero ∷ path) (Snd m) t (m', e, h) = let (x, y, at, r, is) = under_found R path m m' h in (x, y, at, r, e ∙ ap Snd is)
under_found R (i ∷ path) m t h = absurd h

-- a head below a read or a write
aside_found : (R : Rel) (path : List ℕ) (m t : Term) → UnderAt path R m t → Found zones.Aside path R m t
aside_found R [] m t h = (m, t, refl, h, refl)
aside_found R (zero ∷ path) (App m n) t (m', e, h) =
    let (x, y, at, r, is) = under_found R path m m' h in (x, y, at, r, e ∙ ap (λ q. App q n) is)
aside_found R (zero ∷ path) (Fst m) t (m', e, h) = let (x, y, at, r, is) = under_found R path m m' h in (x, y, at, r, e ∙ ap Fst is)
aside_found R (zero ∷ path) (Snd m) t (m', e, h) = let (x, y, at, r, is) = under_found R path m m' h in (x, y, at, r, e ∙ ap Snd is)
aside_found R (i ∷ path) m t h = absurd h

mutual
  reached_found : (R : Rel) (path : List ℕ) (m t : Term) → ReachedAt path R m t → Found zones.Reached path R m t
  reached_found R [] m t h = (m, t, refl, h, refl)
  reached_found R (zero ∷ path) (Seq m n) t (m', e, h) =
      let (x, y, at, r, is) = reached_found R path m m' h in (x, y, at, r, e ∙ ap (λ q. Seq q n) is)
  reached_found R (zero ∷ path) (Par m n) t (m', e, h) =
      let (x, y, at, r, is) = reached_found R path m m' h in (x, y, at, r, e ∙ ap (λ q. Par q n) is)
  reached_found R (suc zero ∷ path) (Par m n) t (n', e, h) =
      let (x, y, at, r, is) = reached_found R path n n' h in (x, y, at, r, e ∙ ap (λ q. Par m q) is)
  reached_found R (zero ∷ path) (If m n p) t (m', e, h) =
      let (x, y, at, r, is) = reached_found R path m m' h in (x, y, at, r, e ∙ ap (λ q. If q n p) is)
  reached_found R (zero ∷ path) (Bin op m n) t (m', e, h) =
      let (x, y, at, r, is) = reached_found R path m m' h in (x, y, at, r, e ∙ ap (λ q. Bin op q n) is)
  reached_found R (zero ∷ path) (Held k op n) t (n', e, h) =
      let (x, y, at, r, is) = reached_found R path n n' h in (x, y, at, r, e ∙ ap (λ q. Held k op q) is)
  reached_found R (zero ∷ path) (Not m) t (m', e, h) =
      let (x, y, at, r, is) = reached_found R path m m' h in (x, y, at, r, e ∙ ap (λ q. Not q) is)
  reached_found R (suc zero ∷ path) (Assign m n) t (n', e, h) =
      let (x, y, at, r, is) = reached_found R path n n' h in (x, y, at, r, e ∙ ap (λ q. Assign m q) is)
  reached_found R (zero ∷ path) (Scope l m) t (m', e, h) =
      let (x, y, at, r, is) = reached_found R path m m' h in (x, y, at, r, e ∙ ap (λ q. Scope l q) is)
  reached_found R (zero ∷ path) (Put m k) t (m', e, h) =
      let (x, y, at, r, is) = index_found R path m m' h in (x, y, at, r, e ∙ ap (λ q. Put q k) is)
  reached_found R (zero ∷ path) (Deref m) t (m', e, h) =
      let (x, y, at, r, is) = index_found R path m m' h in (x, y, at, r, e ∙ ap (λ q. Deref q) is)
  reached_found R (i ∷ path) m t h = absurd h

  index_found : (R : Rel) (path : List ℕ) (m t : Term) → IndexAt path R m t → Found zones.Access path R m t
  index_found R (suc zero ∷ path) (App h n) t (inr ((l, eh), b, e, k)) =
      let (x, y, at, r, is) = reached_found R path n b k in
      subst (λ (q : Term). Found zones.Access (1 ∷ path) R (App q n) t) (sym eh) (x, y, at, r, e ∙ (λ i. App (eh i) (is i)))
  index_found R (suc zero ∷ suc zero ∷ path) (App h (Both n a)) t (inl ((z, eh), b, e, k)) =
      let (x, y, at, r, is) = reached_found R path a b k in
      subst (λ (q : Term). Found zones.Access (1 ∷ 1 ∷ path) R (App q (Both n a)) t) (sym eh) (x, y, at, r, e ∙ (λ i. App (eh i) (Both n (is i))))
  index_found R (suc zero ∷ path) (App h n) t (inl k) = absurd k
  index_found R path m t h = absurd h

mutual
  head_found : (R : Rel) (path : List ℕ) (m t : Term) → HeadAt path R m t → Found zones.Head path R m t
  head_found R [] m t h = (m, t, refl, h, refl)
  head_found R (zero ∷ path) (Seq m n) t (m', e, h) =
      let (x, y, at, r, is) = head_found R path m m' h in (x, y, at, r, e ∙ ap (λ q. Seq q n) is)
  head_found R (zero ∷ path) (Par m n) t (m', e, h) =
      let (x, y, at, r, is) = head_found R path m m' h in (x, y, at, r, e ∙ ap (λ q. Par q n) is)
  head_found R (suc zero ∷ path) (Par m n) t (n', e, h) =
      let (x, y, at, r, is) = head_found R path n n' h in (x, y, at, r, e ∙ ap (λ q. Par m q) is)
  head_found R (zero ∷ path) (If m n p) t (m', e, h) =
      let (x, y, at, r, is) = head_found R path m m' h in (x, y, at, r, e ∙ ap (λ q. If q n p) is)
  head_found R (zero ∷ path) (Bin op m n) t (m', e, h) =
      let (x, y, at, r, is) = head_found R path m m' h in (x, y, at, r, e ∙ ap (λ q. Bin op q n) is)
  head_found R (zero ∷ path) (Held k op n) t (n', e, h) =
      let (x, y, at, r, is) = head_found R path n n' h in (x, y, at, r, e ∙ ap (λ q. Held k op q) is)
  head_found R (zero ∷ path) (Not m) t (m', e, h) =
      let (x, y, at, r, is) = head_found R path m m' h in (x, y, at, r, e ∙ ap (λ q. Not q) is)
  head_found R (suc zero ∷ path) (Assign m n) t (n', e, h) =
      let (x, y, at, r, is) = head_found R path n n' h in (x, y, at, r, e ∙ ap (λ q. Assign m q) is)
  head_found R (zero ∷ path) (Scope l m) t (m', e, h) =
      let (x, y, at, r, is) = head_found R path m m' h in (x, y, at, r, e ∙ ap (λ q. Scope l q) is)
  head_found R (zero ∷ path) (App m n) t (m', e, h) =
      let (x, y, at, r, is) = under_found R path m m' h in (x, y, at, r, e ∙ ap (λ q. App q n) is)
  head_found R (zero ∷ path) (Fst m) t (m', e, h) =
      let (x, y, at, r, is) = under_found R path m m' h in (x, y, at, r, e ∙ ap (λ q. Fst q) is)
  head_found R (zero ∷ path) (Snd m) t (m', e, h) =
      let (x, y, at, r, is) = under_found R path m m' h in (x, y, at, r, e ∙ ap (λ q. Snd q) is)
  head_found R (zero ∷ path) (Put m k) t (m', e, inl h) =
      let (x, y, at, r, is) = aside_found R path m m' h in (x, y, at, r, e ∙ ap (λ q. Put q k) is)
  head_found R (zero ∷ path) (Put m k) t (m', e, inr h) =
      let (x, y, at, r, is) = head_index_found R path m m' h in (x, y, at, r, e ∙ ap (λ q. Put q k) is)
  head_found R (zero ∷ path) (Deref m) t (m', e, inl h) =
      let (x, y, at, r, is) = aside_found R path m m' h in (x, y, at, r, e ∙ ap (λ q. Deref q) is)
  head_found R (zero ∷ path) (Deref m) t (m', e, inr h) =
      let (x, y, at, r, is) = head_index_found R path m m' h in (x, y, at, r, e ∙ ap (λ q. Deref q) is)
  head_found R (i ∷ path) m t h = absurd h

  head_index_found : (R : Rel) (path : List ℕ) (m t : Term) → HeadInIndexAt path R m t → Found zones.Aside path R m t
  head_index_found R (suc zero ∷ path) (App h n) t (inr ((l, eh), b, e, k)) =
      let (x, y, at, r, is) = head_found R path n b k in
      subst (λ (q : Term). Found zones.Aside (1 ∷ path) R (App q n) t) (sym eh) (x, y, at, r, e ∙ (λ i. App (eh i) (is i)))
  head_index_found R (suc zero ∷ suc zero ∷ path) (App h (Both n a)) t (inl ((z, eh), b, e, k)) =
      let (x, y, at, r, is) = head_found R path a b k in
      subst (λ (q : Term). Found zones.Aside (1 ∷ 1 ∷ path) R (App q (Both n a)) t) (sym eh) (x, y, at, r, e ∙ (λ i. App (eh i) (Both n (is i))))
  head_index_found R (suc zero ∷ path) (App h n) t (inl k) = absurd k
  head_index_found R path m t h = absurd h

-- what is changed at a way is found there
pub at_found : (z : Zone) (R : Rel) (path : List ℕ) (m t : Term) → At z path R m t → Found z path R m t
at_found zones.Reached R path m t h = reached_found R path m t h
at_found zones.Head R path m t h = head_found R path m t h
at_found z R path m t h = absurd h

-- no argument is reached but that of an access on the way to its index
no_argument : (z : Zone) → ((n : Term) → pair z n ≡ None) → ((n : Term) → own z n ≡ None) → (path : List ℕ) (m n x : Term)
    → and_part (λ y c. part_at y path c) (argument z m n) ≡ Some x → ⊥
no_argument z none not_own path (Wait w zero) n x e = none-some x (sym (ap (and_part (λ y c. part_at y path c)) (none n)) ∙ e)
no_argument z none not_own path (Arr l) n x e = none-some x (sym (ap (and_part (λ y c. part_at y path c)) (not_own n)) ∙ e)
no_argument z none not_own path m n x e = none-some x e

under_at : (R : Rel) (path : List ℕ) (m x y : Term) → part_at zones.Under path m ≡ Some x → R x y → UnderAt path R m (replaced zones.Under path m y)
under_at R [] m x y e r = subst (λ (q : Term). R q y) (sym (grind (arith, e))) r
under_at R (zero ∷ path) (App m n) x y e r = (replaced zones.Under path m y, refl, under_at R path m x y e r)
under_at R (zero ∷ path) (Fst m) x y e r = (replaced zones.Under path m y, refl, under_at R path m x y e r)
under_at R (zero ∷ path) (Snd m) x y e r = (replaced zones.Under path m y, refl, under_at R path m x y e r)
under_at R (suc zero ∷ path) (App m n) x y e r = absurd (no_argument zones.Under (λ q. refl) (λ q. refl) path m n x e)
under_at R (suc zero ∷ path) Skip x y e r = absurd (none-some x e)
under_at R (suc (suc i) ∷ path) Skip x y e r = absurd (none-some x e)
under_at R (i ∷ path) m x y e r = absurd (none-some x e)

mutual
  reached_at : (R : Rel) (path : List ℕ) (m x y : Term) → part_at zones.Reached path m ≡ Some x → R x y → ReachedAt path R m (replaced zones.Reached path m y)
  reached_at R [] m x y e r = subst (λ (q : Term). R q y) (sym (grind (arith, e))) r
  reached_at R (zero ∷ path) (Seq m n) x y e r = (replaced zones.Reached path m y, refl, reached_at R path m x y e r)
  reached_at R (zero ∷ path) (Par m n) x y e r = (replaced zones.Reached path m y, refl, reached_at R path m x y e r)
  reached_at R (suc zero ∷ path) (Par m n) x y e r = (replaced zones.Reached path n y, refl, reached_at R path n x y e r)
  reached_at R (zero ∷ path) (If m n p) x y e r = (replaced zones.Reached path m y, refl, reached_at R path m x y e r)
  reached_at R (zero ∷ path) (Bin op m n) x y e r = (replaced zones.Reached path m y, refl, reached_at R path m x y e r)
  reached_at R (zero ∷ path) (Held k op n) x y e r = (replaced zones.Reached path n y, refl, reached_at R path n x y e r)
  reached_at R (zero ∷ path) (Not m) x y e r = (replaced zones.Reached path m y, refl, reached_at R path m x y e r)
  reached_at R (suc zero ∷ path) (Assign m n) x y e r = (replaced zones.Reached path n y, refl, reached_at R path n x y e r)
  reached_at R (zero ∷ path) (Scope l m) x y e r = (replaced zones.Reached path m y, refl, reached_at R path m x y e r)
  reached_at R (zero ∷ path) (Put m k) x y e r = (replaced zones.Access path m y, refl, index_at R path m x y e r)
  reached_at R (zero ∷ path) (Deref m) x y e r = (replaced zones.Access path m y, refl, index_at R path m x y e r)
  reached_at R (suc zero ∷ path) (App m n) x y e r = absurd (no_argument zones.Reached (λ q. refl) (λ q. refl) path m n x e)
  reached_at R (suc (suc i) ∷ path) Skip x y e r = absurd (none-some x e)
  reached_at R (i ∷ path) m x y e r = absurd (none-some x e)

  index_at : (R : Rel) (path : List ℕ) (m x y : Term) → part_at zones.Access path m ≡ Some x → R x y → IndexAt path R m (replaced zones.Access path m y)
  index_at R [] m x y e r = absurd (none-some x e)
  index_at R (zero ∷ path) Skip x y e r = absurd (none-some x e)
  index_at R (suc zero ∷ []) (App (Wait z zero) n) x y e r = absurd (none-some x e)
  index_at R (suc zero ∷ zero ∷ path) (App (Wait z zero) Skip) x y e r = absurd (none-some x e)
  index_at R (suc zero ∷ path) (App (Arr l) n) x y e r = inr ((l, refl), replaced zones.Reached path n y, refl, reached_at R path n x y e r)
  index_at R (suc zero ∷ suc zero ∷ path) (App (Wait z zero) (Both n a)) x y e r =
      inl ((z, refl), replaced zones.Reached path a y, refl, reached_at R path a x y e r)
  index_at R (suc zero ∷ suc zero ∷ path) (App (Wait z zero) (App m n)) x y e r = absurd (no_argument zones.Pair (λ q. refl) (λ q. refl) path m n x e)
  index_at R (suc zero ∷ suc (suc i) ∷ path) (App (Wait z zero) Skip) x y e r = absurd (none-some x e)
  index_at R (suc (suc i) ∷ path) Skip x y e r = absurd (none-some x e)
  index_at R path m x y e r = absurd (none-some x e)

mutual
  head_at : (R : Rel) (path : List ℕ) (m x y : Term) → part_at zones.Head path m ≡ Some x → R x y → HeadAt path R m (replaced zones.Head path m y)
  head_at R [] m x y e r = subst (λ (q : Term). R q y) (sym (grind (arith, e))) r
  head_at R (zero ∷ path) (Seq m n) x y e r = (replaced zones.Head path m y, refl, head_at R path m x y e r)
  head_at R (zero ∷ path) (Par m n) x y e r = (replaced zones.Head path m y, refl, head_at R path m x y e r)
  head_at R (suc zero ∷ path) (Par m n) x y e r = (replaced zones.Head path n y, refl, head_at R path n x y e r)
  head_at R (zero ∷ path) (If m n p) x y e r = (replaced zones.Head path m y, refl, head_at R path m x y e r)
  head_at R (zero ∷ path) (Bin op m n) x y e r = (replaced zones.Head path m y, refl, head_at R path m x y e r)
  head_at R (zero ∷ path) (Held k op n) x y e r = (replaced zones.Head path n y, refl, head_at R path n x y e r)
  head_at R (zero ∷ path) (Not m) x y e r = (replaced zones.Head path m y, refl, head_at R path m x y e r)
  head_at R (suc zero ∷ path) (Assign m n) x y e r = (replaced zones.Head path n y, refl, head_at R path n x y e r)
  head_at R (zero ∷ path) (Scope l m) x y e r = (replaced zones.Head path m y, refl, head_at R path m x y e r)
  head_at R (zero ∷ path) (App m n) x y e r = (replaced zones.Under path m y, refl, under_at R path m x y e r)
  head_at R (zero ∷ path) (Fst m) x y e r = (replaced zones.Under path m y, refl, under_at R path m x y e r)
  head_at R (zero ∷ path) (Snd m) x y e r = (replaced zones.Under path m y, refl, under_at R path m x y e r)
  head_at R (zero ∷ path) (Put m k) x y e r = (replaced zones.Aside path m y, refl, aside_at R path m x y e r)
  head_at R (zero ∷ path) (Deref m) x y e r = (replaced zones.Aside path m y, refl, aside_at R path m x y e r)
  head_at R (suc zero ∷ path) (App m n) x y e r = absurd (no_argument zones.Head (λ q. refl) (λ q. refl) path m n x e)
  head_at R (suc (suc i) ∷ path) Skip x y e r = absurd (none-some x e)
  head_at R (i ∷ path) m x y e r = absurd (none-some x e)

  aside_at : (R : Rel) (path : List ℕ) (m x y : Term) → part_at zones.Aside path m ≡ Some x → R x y
      → UnderAt path R m (replaced zones.Aside path m y) ⊎ HeadInIndexAt path R m (replaced zones.Aside path m y)
  aside_at R [] m x y e r = inl (subst (λ (q : Term). R q y) (sym (grind (arith, e))) r)
  aside_at R (zero ∷ path) (App m n) x y e r = inl (replaced zones.Under path m y, refl, under_at R path m x y e r)
  aside_at R (zero ∷ path) (Fst m) x y e r = inl (replaced zones.Under path m y, refl, under_at R path m x y e r)
  aside_at R (zero ∷ path) (Snd m) x y e r = inl (replaced zones.Under path m y, refl, under_at R path m x y e r)
  aside_at R (suc zero ∷ []) (App (Wait z zero) n) x y e r = absurd (none-some x e)
  aside_at R (suc zero ∷ zero ∷ path) (App (Wait z zero) Skip) x y e r = absurd (none-some x e)
  aside_at R (suc zero ∷ path) (App (Arr l) n) x y e r = inr (inr ((l, refl), replaced zones.Head path n y, refl, head_at R path n x y e r))
  aside_at R (suc zero ∷ suc zero ∷ path) (App (Wait z zero) (Both n a)) x y e r =
      inr (inl ((z, refl), replaced zones.Head path a y, refl, head_at R path a x y e r))
  aside_at R (suc zero ∷ suc zero ∷ path) (App (Wait z zero) (App m n)) x y e r = absurd (no_argument zones.HeadPair (λ q. refl) (λ q. refl) path m n x e)
  aside_at R (suc zero ∷ suc (suc i) ∷ path) (App (Wait z zero) Skip) x y e r = absurd (none-some x e)
  aside_at R (suc (suc i) ∷ path) Skip x y e r = absurd (none-some x e)
  aside_at R path m x y e r = absurd (none-some x e)

-- and a change of the part is one at the way
pub changed_at : (z : Zone) → IsStart z → (R : Rel) (path : List ℕ) (m x y : Term) → part_at z path m ≡ Some x → R x y → At z path R m (replaced z path m y)
changed_at zones.Reached start R path m x y e r = reached_at R path m x y e r
changed_at zones.Head start R path m x y e r = head_at R path m x y e r
changed_at z start R path m x y e r = absurd start

-- frames in a list that grows
pub fill_keeps : (l l' : Listed) (f : Frame) (m : Term) → Keeps l l' → FitsFrame l.tables (length l.nodes) f → fill l' f m ≡ fill l f m
fill_keeps l l' (frames.One o) m k fits = one_keeps l.tables l'.tables o m k.tables fits
fill_keeps l l' (frames.First o b) m k fits = ap (λ q. two_term o m q) (k.terms b fits)
fill_keeps l l' (frames.Second o c) m k fits = ap (λ q. two_term o q m) (k.terms c fits)
fill_keeps l l' (frames.Test b c) m k fits = λ i. If m (k.terms b fits.0 i) (k.terms c fits.1 i)

pub frame_keeps : (l l' : Listed) (f : Frame) → Keeps l l' → FitsFrame l.tables (length l.nodes) f → FitsFrame l'.tables (length l'.nodes) f
frame_keeps l l' (frames.One o) k fits = fits_one l.tables l'.tables o k.tables fits
frame_keeps l l' (frames.First o b) k fits = omega (arith, fits, k.more)
frame_keeps l l' (frames.Second o c) k fits = omega (arith, fits, k.more)
frame_keeps l l' (frames.Test b c) k fits = (omega (arith, fits.0, k.more), omega (arith, fits.1, k.more))

pub frames_keep : (l l' : Listed) (fs : List Frame) → Keeps l l' → AreFrames l.tables (length l.nodes) fs → AreFrames l'.tables (length l'.nodes) fs
frames_keep l l' [] k fits = tt
frames_keep l l' (f ∷ fs) k fits = (frame_keeps l l' f k fits.0, frames_keep l l' fs k fits.1)

pub plug_more : (l : Listed) (fs : List Frame) (f : Frame) (m : Term) → plug l (fs ++ f ∷ []) m ≡ plug l fs (fill l f m)
plug_more l [] f m = refl
plug_more l (g ∷ fs) f m = ap (fill l g) (plug_more l fs f m)

pub frames_more : (a : Tables) (i : ℕ) (fs : List Frame) (f : Frame) → AreFrames a i fs → FitsFrame a i f → AreFrames a i (fs ++ f ∷ [])
frames_more a i [] f are fits = (fits, tt)
frames_more a i (g ∷ fs) f are fits = (are.0, frames_more a i fs f are.1 fits)

pub frames_less : (a : Tables) (i : ℕ) (fs : List Frame) (f : Frame) → AreFrames a i (fs ++ f ∷ []) → AreFrames a i fs × FitsFrame a i f
frames_less a i [] f are = (tt, are.0)
frames_less a i (g ∷ fs) f are = let (rest, last) = frames_less a i fs f are.1 in ((are.0, rest), last)
