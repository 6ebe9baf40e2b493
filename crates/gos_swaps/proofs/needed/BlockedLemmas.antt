-- What is stuck at a needed place stays so, whatever happens elsewhere.
use Rattle.std.specs.Prelude.{◌≡◌, ◌⊎◌, ℕ, List, [], ◌∷◌, ◌++◌, Contains}
use Rattle.std.proofs.Common.{refl, sym, ap, subst, inl, inr, ◌∙◌}
use Rattle.gos_model.specs.Terms.{Term, Par}
use Rattle.gos_model.specs.Typing.{Imports, Place, things, Apart}
use Rattle.gos_model.specs.Stores.{Store, entry_at}
use Rattle.gos_model.specs.Steps.{IsValue}
use Rattle.gos_model.specs.Labels.{Port, Label}
use Rattle.gos_programs.specs.contexts.Contexts.{Context, ParLeft, ParRight, plug, plug_all}
use Rattle.gos_programs.specs.contexts.Standing.{StandsIn}
use Rattle.gos_swaps.specs.doings.Doings.{Doing, Unfolding, Computing, Showing, DoesAt}
use Rattle.gos_swaps.specs.doings.Sides.{way, path_through}
use Rattle.gos_swaps.specs.proper.Proper.{PartsApart, IsClosed, IsProper}
use Rattle.gos_swaps.specs.needed.Lists.{Runs, labels_among, Goal, ToShow, ToEnd, port_of, Meets}
use Rattle.gos_swaps.specs.needed.Needed.{HasPort, IsNeeded, IsToward}
use Rattle.gos_swaps.specs.needed.Blocked.{SameAt, IsStuck, BlockedStays, AbsentNeverComes}
use Rattle.gos_swaps.proofs.doings.PlaceLemmas.{Here, Found, found, does_here, does_through}
use Rattle.gos_swaps.proofs.doings.SideLemmas.{Ways, ways, value_alone, context_value}
use Rattle.gos_swaps.proofs.proper.ThingLemmas.{left_part, right_part, within}
use Rattle.gos_swaps.proofs.proper.KeptLemmas.{doings_stay_proper}
use Rattle.gos_swaps.proofs.orders.EffectLemmas.{doings_have_effects, untouched}
use Rattle.gos_swaps.proofs.orders.OrderLemmas.{apart_in, stands_in, other_side}
use Rattle.gos_swaps.proofs.needed.NeededLemmas.{shown_port, no_new_port, needed_in, needed_of}
use Rattle.gos_swaps.proofs.needed.ResidueLemmas.{first_label, none_and_some}

within_all : (cs : List Context) (m : Term) (l : ℕ) → Contains (things 0 m) (Place l) → Contains (things 0 (plug_all cs m)) (Place l)
within_all [] m l h = h
within_all (c ∷ cs) m l h = within c (plug_all cs m) (Place l) (within_all cs m l h)

pub no_whole_value : (cs : List Context) (m : Term) → (IsValue m → ⊥) → IsValue (plug_all cs m) → ⊥
no_whole_value [] m alive is = alive is
no_whole_value (c ∷ cs) m alive is = value_alone (plug c (plug_all cs m)) c (plug_all cs m) is refl

-- a doing on the side n of a `||` leaves the other side m as it was, needed and with its numbers
abbrev Beside : Port → Doing → Store → Store → Term → Term → Type 0
Beside o d s v m n' = (HasPort o n' → ⊥) × SameAt m s v × ((k : Label) → d ≡ Showing k → k.port ≡ o → ⊥)

beside :
    (i : Imports) (o : Port) (d : Doing) (path : List ℕ) (s v : Store) (m n n' : Term) → DoesAt i path d s v n n' → Apart n m → StandsIn s m → IsClosed n
    → (HasPort o n → ⊥) → Beside o d s v m n'
beside i o d path s v m n n' does apart stands closed out = (
  λ h. out (no_new_port i path d s v n n' o closed does h),
  same,
  λ k shows port. out (subst (λ (z : Port). HasPort z n) port
      (shown_port i path k s v n n' (subst (λ (z : Doing). DoesAt i path z s v n n') shows does))),
)
  where
    same : SameAt m s v
    same l h =
        let e = doings_have_effects i path d s v n n' does in
        ap (λ (z : Store). entry_at z l) e.leads ∙ untouched e.effect s l (other_side s e.effect n m l e.own e.free apart stands h)

-- of a term in contexts: something happens to it, or it stands in other contexts and is needed there
abbrev First : Imports → Port → Doing → Store → Store → Term → Term → Type 0
First i o d s v m y =
    ((path : List ℕ) × (t : Term) × DoesAt i path d s v m t)
    ⊎ ((cs : List Context) × (y ≡ plug_all cs m) × IsNeeded o (path_through cs []) (plug_all cs m) × SameAt m s v
    × ((k : Label) → d ≡ Showing k → k.port ≡ o → ⊥))

module _ (i : Imports) (o : Port) (d : Doing) (s v : Store) (m : Term) where
  -- on the one side, and in contexts
  first_left :
      (cs : List Context) (path : List ℕ) (n n' y : Term) → y ≡ Par (plug_all cs m) n' → DoesAt i path d s v n n'
      → PartsApart (Par (plug_all cs m) n) → StandsIn s (Par (plug_all cs m) n) → IsClosed (Par (plug_all cs m) n)
      → (HasPort o n → ⊥) × IsNeeded o (path_through cs []) (plug_all cs m) → First i o d s v m y
  first_left cs path n n' y ey does apart stands closed (out, needed) =
      let (out', same, quiet) = beside i o d path s v (plug_all cs m) n n' does (λ x h g. apart.0 x g h) stands.0
      (λ j h. closed j (right_part (things 0 (plug_all cs m)) (things 0 n) _ h)) out in
      inr (ParLeft n' ∷ cs, ey, (out', needed), (λ l h. same l (within_all cs m l h)), quiet)

  first_right :
      (cs : List Context) (path : List ℕ) (n n' y : Term) → y ≡ Par n' (plug_all cs m) → DoesAt i path d s v n n'
      → PartsApart (Par n (plug_all cs m)) → StandsIn s (Par n (plug_all cs m)) → IsClosed (Par n (plug_all cs m))
      → (HasPort o n → ⊥) × IsNeeded o (path_through cs []) (plug_all cs m) → First i o d s v m y
  first_right cs path n n' y ey does apart stands closed (out, needed) =
      let (out', same, quiet) = beside i o d path s v (plug_all cs m) n n' does apart.0 stands.1
      (λ j h. closed j (left_part (things 0 n) (things 0 (plug_all cs m)) _ h)) out in
      inr (ParRight n' ∷ cs, ey, (out', needed), (λ l h. same l (within_all cs m l h)), quiet)

  first_of :
      (cs ds : List Context) (rest : List ℕ) (x y : Term) → plug_all cs m ≡ plug_all ds x → Here i d s v rest x y → (IsValue m → ⊥)
      → PartsApart (plug_all cs m) → StandsIn s (plug_all cs m) → IsClosed (plug_all cs m) → IsNeeded o (path_through cs []) (plug_all cs m)
      → First i o d s v m (plug_all ds y)
  first_of [] ds rest x y e here alive apart stands closed needed =
      inl (
        path_through ds rest,
        plug_all ds y,
        subst (λ (z : Term). DoesAt i (path_through ds rest) d s v z (plug_all ds y)) (sym e) (does_through i ds rest d s v x y (does_here i d s v rest x y here)),
      )
  first_of (c ∷ cs) [] rest x y e here alive apart stands closed needed =
      absurd (no_whole_value cs m alive
      (context_value i d s v rest c (plug_all cs m) y (subst (λ (z : Term). Here i d s v rest z y) (sym e) here)))
  first_of (c ∷ cs) (e ∷ ds) rest x y same here alive apart stands closed needed =
      by_ways (ways c e (plug_all cs m) (plug_all ds x) same)
      (λ inner. first_of cs ds rest x y inner here alive (apart_in c (plug_all cs m) apart) (stands_in s c (plug_all cs m) stands)
      (λ j h. closed j (within c (plug_all cs m) _ h)) (needed_of o c (path_through cs []) (plug_all cs m) needed).1)
    where
      P : Term
      P = plug_all cs m

      Q : Term
      Q = plug_all ds x

      does : DoesAt i (path_through ds rest) d s v Q (plug_all ds y)
      does = does_through i ds rest d s v x y (does_here i d s v rest x y here)

      around : e ≡ c → First i o d s v m (plug_all ds y) → First i o d s v m (plug_all (e ∷ ds) y)
      around ec (inl h) = inl h
      around ec (inr (ds', ey, there, kept, quiet)) = inr (
        c ∷ ds',
        ap (plug e) ey ∙ ap (λ (z : Context). plug z (plug_all ds' m)) ec,
        needed_in o c (path_through ds' []) (plug_all ds' m) (needed_of o c (path_through cs []) P needed).0 there,
        kept,
        quiet,
      )

      by_ways : Ways c e P Q → (P ≡ Q → First i o d s v m (plug_all ds y)) → First i o d s v m (plug_all (e ∷ ds) y)
      by_ways (inl (ec, inner)) later = around (sym ec) (later inner)
      by_ways (inr (inl (ec, ed))) later =
          first_left cs (path_through ds rest) Q (plug_all ds y) (plug e (plug_all ds y)) (ap (λ (z : Context). plug z (plug_all ds y)) ed) does
          (subst (λ (z : Context). PartsApart (plug z P)) ec apart) (subst (λ (z : Context). StandsIn s (plug z P)) ec stands)
          (subst (λ (z : Context). IsClosed (plug z P)) ec closed)
          (subst (λ (z : Context). IsNeeded o (way z ++ path_through cs []) (plug z P)) ec needed)
      by_ways (inr (inr (ed, ec))) later =
          first_right cs (path_through ds rest) Q (plug_all ds y) (plug e (plug_all ds y)) (ap (λ (z : Context). plug z (plug_all ds y)) ed) does
          (subst (λ (z : Context). PartsApart (plug z P)) ec apart) (subst (λ (z : Context). StandsIn s (plug z P)) ec stands)
          (subst (λ (z : Context). IsClosed (plug z P)) ec closed)
          (subst (λ (z : Context). IsNeeded o (way z ++ path_through cs []) (plug z P)) ec needed)

-- of the aim the first label is known
aimed : (g : Goal) (k : Label) (ls : List Label) (t : Term) → Meets g (k ∷ ls) t → g ≡ ToShow k
aimed (ToShow o) k ls t (rest, is) = ap ToShow (sym (first_label o k ls rest is))
aimed ToEnd k ls t (none, is) = absurd (none_and_some k ls (sym none))

toward_first : (g : Goal) (d : Doing) (ds : List Doing) (t : Term) → Meets g (labels_among (d ∷ ds)) t → IsToward g d
toward_first g Unfolding ds t meets = tt
toward_first g Computing ds t meets = tt
toward_first g (Showing k) ds t meets = aimed g k (labels_among ds) t meets

silent_first : (g : Goal) (d : Doing) (ds : List Doing) (t : Term) → ((k : Label) → d ≡ Showing k → k.port ≡ port_of g → ⊥) → Meets g (labels_among (d ∷ ds)) t
    → Meets g (labels_among ds) t
silent_first g Unfolding ds t quiet meets = meets
silent_first g Computing ds t quiet meets = meets
silent_first g (Showing k) ds t quiet meets = absurd (quiet k refl (sym (ap port_of (aimed g k (labels_among ds) t meets))))

not_at_once : (g : Goal) (cs : List Context) (m t : Term) → (IsValue m → ⊥) → plug_all cs m ≡ t → Meets g [] t → ⊥
not_at_once (ToShow o) cs m t alive e (rest, is) = none_and_some o rest is
not_at_once ToEnd cs m t alive e (none, is) = no_whole_value cs m alive (subst IsValue (sym e) is)

pub blocked_stays : BlockedStays
blocked_stays i g cs s r m t [] proper needed alive stuck (em, es) meets = not_at_once g cs m t alive em meets
blocked_stays i g cs s r m t (d ∷ ds) proper needed alive stuck (p, y, v, does, runs) meets =
    by_place (found i p d s v (plug_all cs m) y does) (λ ds' kept there still rest. blocked_stays i g ds' v r m t ds kept there alive still rest)
  where
    by_place : Found (Here i d s v) p (plug_all cs m) y
        → ((ds' : List Context) → IsProper (plug_all ds' m) v → IsNeeded (port_of g) (path_through ds' []) (plug_all ds' m) → IsStuck i g v m
        → Runs i ds v r (plug_all ds' m) t → Meets g (labels_among ds) t → ⊥) → ⊥
    by_place (ds', rest, x, x', ep, em, ey, here) later =
        by_first (first_of i (port_of g) d s v m cs ds' rest x x' em here alive proper.apart proper.standing proper.closed needed)
      where
        by_first : First i (port_of g) d s v m (plug_all ds' x') → ⊥
        by_first (inl (path, t', h)) = stuck path d s v t' (λ l k. refl) h (toward_first g d ds t meets)
        by_first (inr (es, ez, there, same, quiet)) =
            let whole : y ≡ plug_all es m = ey ∙ ez in
            later es (subst (λ (z : Term). IsProper z v) whole (doings_stay_proper i p d s v (plug_all cs m) y proper does)) there
            (λ path e w u n kept h toward. stuck path e w u n (λ l k. kept l k ∙ same l k) h toward)
            (subst (λ (z : Term). Runs i ds v r z t) whole runs) (silent_first g d ds t quiet meets)

pub absent_never_comes : AbsentNeverComes
absent_never_comes i o s r m t [] rest proper out runs is = none_and_some o rest is
absent_never_comes i o s r m t (d ∷ ds) rest proper out (p, y, v, does, runs) is =
    by_kind d does is (λ more. absent_never_comes i o v r y t ds rest (doings_stay_proper i p d s v m y proper does)
    (λ h. out (no_new_port i p d s v m y o.port proper.closed does h)) runs more)
  where
    by_kind : (d' : Doing) → DoesAt i p d' s v m y → labels_among (d' ∷ ds) ≡ o ∷ rest → (labels_among ds ≡ o ∷ rest → ⊥) → ⊥
    by_kind Unfolding h same later = later same
    by_kind Computing h same later = later same
    by_kind (Showing k) h same later =
        out (subst (λ (z : Label). HasPort z.port m) (first_label o k (labels_among ds) rest same) (shown_port i p k s v m y h))
