-- What leads to an aim is in every list to it.
use Rattle.std.specs.Prelude.{◌≡◌, ◌≢◌, ◌⊎◌, ℕ, zero, suc, List, [], ◌∷◌}
use Rattle.std.proofs.Common.{refl, sym, ap, subst, inl, inr}
use Rattle.gos_model.specs.Terms.{Term, App, Both, Seq, Par, If, Assign, Deref, Not, Bin, Scope, Held, Put, Arr, Wait}
use Rattle.gos_model.specs.Typing.{Imports, Named}
use Rattle.gos_model.specs.Stores.{Store}
use Rattle.gos_model.specs.Steps.{IsValue}
use Rattle.gos_model.specs.Labels.{Port, Given, Taken, Label}
use Rattle.gos_model.specs.Moves.{Running}
use Rattle.gos_programs.specs.contexts.Renaming.{renamed}
use Rattle.gos_swaps.specs.doings.Doings.{Doing, Unfolding, Computing, Showing, DoesAt, SameSort}
use Rattle.gos_swaps.specs.doings.Sides.{OnSides}
use Rattle.gos_swaps.specs.proper.Proper.{IsProper}
use Rattle.gos_swaps.specs.orders.Alike.{Alike}
use Rattle.gos_swaps.specs.needed.Lists.{Runs, steps_among, labels_among, Goal, ToShow, ToEnd, port_of, Meets}
use Rattle.gos_swaps.specs.needed.Needed.{HasPort, IsNeeded, IsToward, Leads, TakesOff, Residue}
use Rattle.gos_swaps.proofs.doings.SideLemmas.{Places, places, value_quiet, sides_differ}
use Rattle.gos_swaps.proofs.proper.KeptLemmas.{doings_stay_proper}
use Rattle.gos_swaps.proofs.orders.AlikeLemmas.{alike_itself, alike_back, alike_on, alike_do_alike}
use Rattle.gos_swaps.proofs.orders.AlikeProperLemmas.{old_thing, alike_stay_proper}
use Rattle.gos_swaps.proofs.orders.OrderLemmas.{either_order}
use Rattle.gos_swaps.proofs.orders.OneLemmas.{one_doing}
use Rattle.gos_swaps.proofs.needed.NeededLemmas.{stays_needed, not_elsewhere}

-- under other names of locations the same places are needed
module _ (q r : ℕ → ℕ) (back : (l : ℕ) → q (r l) ≡ l) where
  old_port : (o : Port) (m : Term) → HasPort o (renamed r m) → HasPort o m
  old_port Given m h = h
  old_port (Taken x) m h = old_thing q r back m 0 (Named x) h

  needed_renamed : (o : Port) (path : List ℕ) (m : Term) → IsNeeded o path m → IsNeeded o path (renamed r m)
  needed_renamed o (zero ∷ path) (Par m n) (out, h) = ((λ k. out (old_port o n k)), needed_renamed o path m h)
  needed_renamed o (suc zero ∷ path) (Par m n) (out, h) = ((λ k. out (old_port o m k)), needed_renamed o path n h)
  needed_renamed o (zero ∷ path) (Seq m n) h = needed_renamed o path m h
  needed_renamed o (zero ∷ path) (If m n p) h = needed_renamed o path m h
  needed_renamed o (zero ∷ path) (Bin op m n) h = needed_renamed o path m h
  needed_renamed o (zero ∷ path) (Held k op n) h = needed_renamed o path n h
  needed_renamed o (zero ∷ path) (Not m) h = needed_renamed o path m h
  needed_renamed o (suc zero ∷ path) (Assign m n) h = needed_renamed o path n h
  needed_renamed o (zero ∷ path) (Scope l m) h = needed_renamed o path m h
  needed_renamed o (zero ∷ suc zero ∷ path) (Deref (App (Arr l) m)) h = needed_renamed o path m h
  needed_renamed o (zero ∷ suc zero ∷ path) (Put (App (Arr l) m) k) h = needed_renamed o path m h
  needed_renamed o (zero ∷ suc zero ∷ suc zero ∷ path) (Deref (App (Wait x s) (Both n m))) h = needed_renamed o path m h
  needed_renamed o (zero ∷ suc zero ∷ suc zero ∷ path) (Put (App (Wait x s) (Both n m)) k) h = needed_renamed o path m h
  needed_renamed o path m h = tt

-- lists of configurations that are alike
runs_alike :
    (i : Imports) (ds : List Doing) (s r s' : Store) (m x m' : Term) → Alike (Running m s) (Running m' s') → Runs i ds s r m x
    → (x' : Term) × (r' : Store) × Runs i ds s' r' m' x' × Alike (Running x r) (Running x' r')
runs_alike i [] s r s' m x m' alike (em, es) = (
  m',
  s',
  (refl, refl),
  subst (λ (z : Term). Alike (Running z r) (Running m' s')) em (subst (λ (z : Store). Alike (Running m z) (Running m' s')) (sym es) alike),
)
runs_alike i (d ∷ ds) s r s' m x m' alike (p, y, v, h, rest) =
    let (y', v', h', there) = alike_do_alike i p d s v s' m y m' alike h in
    let (x', r', rest', ends) = runs_alike i ds v r v' y x y' there rest in
    (x', r', (p, y', v', h', rest'), ends)

-- what is left of a list
abbrev Rest : Imports → Doing → Store → Store → Term → Term → List Doing → Type 0
Rest i e u r t x ds =
    (u' : Store) × (r' : Store) × (t' : Term) × (x' : Term) × (es : List Doing)
    × Alike (Running t u) (Running t' u') × Alike (Running x r) (Running x' r') × Runs i es u' r' t' x'
    × TakesOff e (labels_among ds) (steps_among ds) (labels_among es) (steps_among es)

one_step_more : (e : Doing) (ls ls' : List Label) (k k' : ℕ) → TakesOff e ls k ls' k' → TakesOff e ls (suc k) ls' (suc k')
one_step_more Unfolding ls ls' k k' (el, ek) = (el, ap (λ (z : ℕ). suc z) ek)
one_step_more Computing ls ls' k k' (el, ek) = (el, ap (λ (z : ℕ). suc z) ek)
one_step_more (Showing o) ls ls' k k' (el, ek) = (el, ap (λ (z : ℕ). suc z) ek)

-- the first label of a list
abbrev first_of : Label → List Label → Label
first_of o [] = o
first_of o (k ∷ ls) = k

pub first_label : (o k : Label) (ls ms : List Label) → k ∷ ls ≡ o ∷ ms → k ≡ o
first_label o k ls ms e = ap (first_of o) e

pub none_and_some : (o : Label) (ls : List Label) → [] ≡ o ∷ ls → ⊥
none_and_some o ls e = subst (λ (z : List Label). IsNone z) e tt
  where
    IsNone : List Label → Type 0
    IsNone [] = Unit {0}
    IsNone (k ∷ ks) = ⊥

-- a value leads nowhere
at_end :
    (i : Imports) (g : Goal) (path : List ℕ) (e : Doing) (s u : Store) (m t x : Term) → Leads i g path e s u m t → m ≡ x → Meets g [] x → ⊥
at_end i (ToShow o) path e s u m t x leads em (rest, bad) = none_and_some o rest bad
at_end i ToEnd path e s u m t x leads em (none, is) = value_quiet i path e s u m t (subst IsValue (sym em) is) leads.does

module _ (i : Imports) (g : Goal) (path : List ℕ) (e : Doing) where
  -- the first of the list is at the needed place
  same_first :
      (d : Doing) (ds : List Doing) (s u v r : Store) (m t y x : Term) → IsProper m s → Leads i g path e s u m t → DoesAt i path d s v m y
      → SameSort e d → Runs i ds v r y x → Meets g (labels_among (d ∷ ds)) x → Rest i e u r t x (d ∷ ds)
  same_first d ds s u v r m t y x proper leads h kind rest meets = by_kind e d leads.does leads.toward h kind meets
    where
      by_kind : (e d' : Doing) → DoesAt i path e s u m t → IsToward g e → DoesAt i path d' s v m y → SameSort e d' → Meets g (labels_among (d' ∷ ds)) x
          → Rest i e u r t x (d' ∷ ds)
      by_kind Unfolding Unfolding does toward h' same meets' =
          (v, r, y, x, ds, one_doing i path Unfolding s u v m t y proper does h', alike_itself (Running x r), rest, (refl, refl))
      by_kind Computing Computing does toward h' same meets' =
          (v, r, y, x, ds, one_doing i path Computing s u v m t y proper does h', alike_itself (Running x r), rest, (refl, refl))
      by_kind (Showing o) (Showing k) does toward h' same meets' =
          let (ls, is) = subst (λ (z : Goal). Meets z (k ∷ labels_among ds) x) toward meets' in
          let one : k ≡ o = first_label o k (labels_among ds) ls is in (
            v,
            r,
            y,
            x,
            ds,
            one_doing i path (Showing o) s u v m t y proper does (subst (λ (z : Label). DoesAt i path (Showing z) s v m y) one h'),
            alike_itself (Running x r),
            rest,
            (ap (λ (z : Label). z ∷ labels_among ds) one, refl),
          )
      by_kind Unfolding Computing does toward h' same meets' = absurd same
      by_kind Unfolding (Showing k) does toward h' same meets' = absurd same
      by_kind Computing Unfolding does toward h' same meets' = absurd same
      by_kind Computing (Showing k) does toward h' same meets' = absurd same
      by_kind (Showing o) Unfolding does toward h' same meets' = absurd same
      by_kind (Showing o) Computing does toward h' same meets' = absurd same

  -- the first is elsewhere: it isn't the label
  abbrev Elsewhere : List ℕ → Doing → Store → Store → Store → Term → Term → Term → Type 0
  Elsewhere p d s u v m t y = OnSides i path p e d s u v m t y ⊎ OnSides i p path d e s v u m y t

  apart : (p : List ℕ) (d : Doing) (s u v : Store) (m t y : Term) → Elsewhere p d s u v m t y → path ≢ p
  apart p d s u v m t y (inl o) same = sides_differ i path p e d s u v m t y o same
  apart p d s u v m t y (inr o) same = sides_differ i p path d e s v u m y t o (sym same)

  not_label :
      (p : List ℕ) (k : Label) (ls : List Label) (s u v : Store) (m t y x : Term) → IsProper m s → Leads i g path e s u m t
      → Elsewhere p (Showing k) s u v m t y → Meets g (k ∷ ls) x → ⊥
  not_label p k ls s u v m t y x proper leads sides meets = by_goal g leads.needed meets
    where
      by_goal : (g : Goal) → IsNeeded (port_of g) path m → Meets g (k ∷ ls) x → ⊥
      by_goal (ToShow o) needed (rest, is) =
          let one : k ≡ o = first_label o k ls rest is in
          not_elsewhere i path p e k s u v m t y proper.closed sides (subst (λ (z : Label). IsNeeded z.port path m) (sym one) needed)
      by_goal ToEnd needed (none, is) = none_and_some k ls (sym none)

  -- so it comes after what leads as well
  other_first :
      (p : List ℕ) (d : Doing) (ds : List Doing) (s u v r : Store) (m t y x : Term) → IsProper m s → Leads i g path e s u m t
      → DoesAt i p d s v m y → Elsewhere p d s u v m t y
      → ((z : Store) (n : Term) → IsProper y v → Leads i g path e v z y n → Rest i e z r n x ds)
      → (r' : Store) × (x' : Term) × (es : List Doing) × Alike (Running x r) (Running x' r') × Runs i (d ∷ es) u r' t x'
      × TakesOff e (labels_among ds) (steps_among ds) (labels_among es) (steps_among es)
  other_first p d ds s u v r m t y x proper leads h sides later =
      let (a, b, w, z, does_d, does_e, alike) =
      either_order i path p e d s u v m t y proper (apart p d s u v m t y sides) leads.does h in
      let there : Leads i g path e v z y b =
      record {
        needed = stays_needed i path p e d s u v m t y (port_of g) proper.closed sides leads.needed;
        does = does_e;
        toward = leads.toward;
      } in
      let (u', r', t', x', es, starts, ends, runs, off) = later z b (doings_stay_proper i p d s v m y proper h) there in
      let from : Alike (Running t' u') (Running a w) =
      alike_back (Running a w) (Running t' u') (alike_on (Running a w) (Running b z) (Running t' u') alike starts) in
      let (x'', r'', runs', ends') = runs_alike i es u' r' w t' x' a from runs in
      (r'', x'', es, alike_on (Running x r) (Running x' r') (Running x'' r'') ends ends', (p, a, w, does_d, runs'), off)

  rest_of :
      (ds : List Doing) (s u r : Store) (m t x : Term) → IsProper m s → Leads i g path e s u m t → Runs i ds s r m x → Meets g (labels_among ds) x
      → Rest i e u r t x ds
  rest_of [] s u r m t x proper leads (em, es) meets = absurd (at_end i g path e s u m t x leads em meets)
  rest_of (d ∷ ds) s u r m t x proper leads (p, y, v, h, runs) meets =
      by_places d h meets (places i path p e d s u s v m t y leads.does h)
      (λ z n kept there meets'. rest_of ds v z r y n x kept there runs meets')
    where
      by_places : (d : Doing) → DoesAt i p d s v m y → Meets g (labels_among (d ∷ ds)) x → Places i path p e d s u s v m t y
          → ((z : Store) (n : Term) → IsProper y v → Leads i g path e v z y n → Meets g (labels_among ds) x → Rest i e z r n x ds)
          → Rest i e u r t x (d ∷ ds)
      by_places d h' meets' (inl (same, kind)) later =
          same_first d ds s u v r m t y x proper leads (subst (λ (z : List ℕ). DoesAt i z d s v m y) (sym same) h') kind.0 runs meets'
      by_places (Showing k) h' meets' (inr f) later = absurd (not_label p k (labels_among ds) s u v m t y x proper leads (f refl) meets')
      by_places Unfolding h' meets' (inr f) later =
          let (r', x', es, ends, runs', off) =
          other_first p Unfolding ds s u v r m t y x proper leads h' (f refl) (λ z n kept there. later z n kept there meets') in
          (u, r', t, x', Unfolding ∷ es, alike_itself (Running t u), ends, runs', off)
      by_places Computing h' meets' (inr f) later =
          let (r', x', es, ends, runs', off) =
          other_first p Computing ds s u v r m t y x proper leads h' (f refl) (λ z n kept there. later z n kept there meets') in (
            u,
            r',
            t,
            x',
            Computing ∷ es,
            alike_itself (Running t u),
            ends,
            runs',
            one_step_more e (labels_among ds) (labels_among es) (steps_among ds) (steps_among es) off,
          )

pub residue : Residue
residue i g path e s u s' r m t m' x ds proper leads alike runs meets =
    let (t', u', does, ends) = alike_do_alike i path e s u s' m t m' alike leads.does in
    let (q, em, stores) = alike in
    let there : Leads i g path e s' u' m' t' =
    record {
      needed = subst (IsNeeded (port_of g) path) (sym em) (needed_renamed q.back q.to q.there (port_of g) path m leads.needed);
      does = does;
      toward = leads.toward;
    } in
    let (v, w, y, z, es, starts, finish, runs', off) = rest_of i g path e ds s' u' r m' t' x (alike_stay_proper m m' s s' proper alike) there runs meets in
    (v, w, y, z, es, alike_on (Running t u) (Running t' u') (Running y v) ends starts, finish, runs', off)
