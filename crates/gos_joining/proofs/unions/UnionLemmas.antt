-- The joining of plans of webs is the plan of the union of their webs, and back.
use Rattle.std.specs.Prelude.{◌≡◌, ℕ, zero, suc, ◌+◌, List, [], ◌∷◌, map, Option, Some, None, Contains, slice_get}
use Rattle.std.proofs.Common.{refl, sym, ◌∙◌, ap, subst, arith, inl, inr}
use Rattle.std.proofs.lemmas.List.Elements.{Contains-append_left, Contains-append_right, Contains-append_cases}
use Rattle.gos_plan.specs.Kinds.{Contact, asks, serves}
use Rattle.gos_plan.specs.Plans.{End, Plan, contact_at}
use Rattle.gos_plan.specs.Joining as joining
use Rattle.gos_plan.specs.Joining.{Place, Link, Wiring, origin}
use Rattle.gos_realises.proofs.joined.ReachLemmas.{Paths}
use Rattle.gos_joining.specs.webs.Webs.{Dot, Within, Tie, tie, Web, Meet, Way, here, along, Connects, IsOfWeb}
use Rattle.gos_joining.proofs.webs.WayLemmas.{meet_back}
use Rattle.gos_joining.specs.unions.Unions.{within, all_within, at_of, dot_at, link_ties, union, AreOfWebs, IsThere, LinksStand, JoiningIsUnion, UnionIsJoining}
use Rattle.gos_joining.proofs.unions.WalkLemmas.{Walk, Walks, goes, mapped_walk, followed_walk}
use Rattle.gos_joining.proofs.unions.PathLemmas.{IsLed, spot, Whole, path_to_walk, walk_to_path}
use Rattle.gos_joining.proofs.unions.PlaceLemmas.{fields_of, stands_at}

-- ways are walks of ties
way_walks : (ts : List Tie) (a b : Dot) → Way ts a b → Walks Dot (Meet ts) a b
way_walks ts a b (here c) = (0, refl)
way_walks ts a b (along d c e meets way) = let (n, u) = way_walks ts c e way in (suc n, (c, meets, u))

walk_way : (ts : List Tie) (n : ℕ) (a b : Dot) → Walk Dot (Meet ts) n a b → Way ts a b
walk_way ts zero a b e = subst (λ (x : Dot). Way ts a x) e (here a)
walk_way ts (suc n) a b (c, s, u) = along a c b s (walk_way ts n c b u)

-- lists of images
abbrev pub Image : {X Y : Type 0} → (X → Y) → List X → Y → Type 0
Image {X = X} f xs y = (x : X) × Contains xs x × (f x ≡ y)

pub of_image : {X Y : Type 0} (f : X → Y) (xs : List X) (y : Y) → Contains (map f xs) y → Image f xs y
of_image f [] y (k, small, e) = absurd (omega (arith, small))
of_image f (x ∷ xs) y (zero, small, e) = (x, (0, omega arith, refl), e)
of_image f (x ∷ xs) y (suc k, small, e) =
    let (z, (n, low, is), same) = of_image f xs y (k, omega (arith, small), e) in (z, (suc n, omega (arith, low), is), same)

pub in_image : {X Y : Type 0} (f : X → Y) (xs : List X) (x : X) → Contains xs x → Contains (map f xs) (f x)
in_image f [] x (k, small, e) = absurd (omega (arith, small))
in_image f (z ∷ xs) x (zero, small, e) = (0, omega arith, ap f e)
in_image f (z ∷ xs) x (suc k, small, e) = let (n, low, is) = in_image f xs x (k, omega (arith, small), e) in (suc n, omega (arith, low), is)

-- the ties of web k, if there is one
abbrev ties_of : Option Web → List Tie
ties_of None = []
ties_of (Some w) = w.ties

abbrev inside : ℕ → Tie → Tie
inside k t = tie (Within k t.one) (Within k t.other)

next_inside : (n k : ℕ) (t : Tie) → inside (suc n + k) t ≡ inside (n + suc k) t
next_inside n k t = let sum : suc n + k ≡ n + suc k = omega arith in ap (λ (m : ℕ). inside m t) sum

in_within : (n : ℕ) (ws : List Web) (k : ℕ) (t : Tie) → Contains (ties_of (slice_get ws k)) t → Contains (all_within n ws) (inside (n + k) t)
in_within n [] k t (i, small, e) = absurd (omega (arith, small))
in_within n (w ∷ ws) zero t has =
    let sum : n ≡ n + 0 = omega arith in
    Contains-append_left (within n w.ties) (all_within (suc n) ws) (inside (n + 0) t)
    (subst (λ (m : ℕ). Contains (within n w.ties) (inside m t)) sum (in_image (inside n) w.ties t has))
in_within n (w ∷ ws) (suc k) t has =
    Contains-append_right (within n w.ties) (all_within (suc n) ws) (inside (n + suc k) t)
    (subst (λ (u : Tie). Contains (all_within (suc n) ws) u) (next_inside n k t) (in_within (suc n) ws k t has))

abbrev OfWithin : ℕ → List Web → Tie → Type 0
OfWithin n ws t = (k : ℕ) × (u : Tie) × Contains (ties_of (slice_get ws k)) u × (inside (n + k) u ≡ t)

of_within : (n : ℕ) (ws : List Web) (t : Tie) → Contains (all_within n ws) t → OfWithin n ws t
of_within n [] t (i, small, e) = absurd (omega (arith, small))
of_within n (w ∷ ws) t has =
    elim (Contains-append_cases (within n w.ties) (all_within (suc n) ws) t has) [
      | inl h ↦ first (of_image (inside n) w.ties t h)
      | inr h ↦ later (of_within (suc n) ws t h)
    ]
  where
    first : Image (inside n) w.ties t → OfWithin n (w ∷ ws) t
    first (u, is_in, same) = let sum : n + 0 ≡ n = omega arith in (0, u, is_in, ap (λ (m : ℕ). inside m u) sum ∙ same)

    later : OfWithin (suc n) ws t → OfWithin n (w ∷ ws) t
    later (k, u, is_in, same) = (suc k, u, is_in, sym (next_inside n k u) ∙ same)

web_of : (ws : List Web) (ps : List Plan) (k : ℕ) (p : Plan) → AreOfWebs ws ps → slice_get ps k ≡ Some p
    → (v : Web) × (slice_get ws k ≡ Some v) × IsOfWeb v p
web_of [] [] k p are is = absurd (cc is)
web_of [] (q ∷ ps) k p are is = absurd are
web_of (w ∷ ws) [] k p are is = absurd are
web_of (w ∷ ws) (q ∷ ps) zero p are is = let same : q ≡ p = cc is in (w, refl, subst (IsOfWeb w) same are.0)
web_of (w ∷ ws) (q ∷ ps) (suc k) p are is = web_of ws ps k p are.1 is

module _ (w : Wiring) (ws : List Web) where
  abbrev In : ℕ → Dot → Dot → Type 0
  In k = Meet (ties_of (slice_get ws k))

  abbrev at : ℕ → End → Dot
  at k = at_of (slice_get ws k)

  abbrev Steps : ℕ × Dot → ℕ × Dot → Type 0
  Steps = Whole Dot In at w

  abbrev ties : List Tie
  ties = (union w ws).ties

  abbrev dot : ℕ × Dot → Dot
  dot x = Within x.0 x.1

  turn : (k : ℕ) (x y : Dot) → In k x y → In k y x
  turn k x y s = meet_back (ties_of (slice_get ws k)) x y s

  led : AreOfWebs ws w.plans → (k : ℕ) (p : Plan) → slice_get w.plans k ≡ Some p → IsLed Dot (In k) (at k) p
  led are k p is = by_web (web_of ws w.plans k p are is)
    where
      by_web : (v : Web) × (slice_get ws k ≡ Some v) × IsOfWeb v p → IsLed Dot (In k) (at k) p
      by_web (v, there, of_v) = subst (λ (o : Option Web). IsLed Dot (Meet (ties_of o)) (at_of o) p) (sym there) of_some
        where
          of_some : IsLed Dot (Meet v.ties) v.at p
          of_some =
              record {
                fits = λ a b c d at_a at_b apart walk. of_v.fits a b c d at_a at_b apart (walk_way v.ties walk.0 (v.at a) (v.at b) walk.1);
                joints = λ a b. (
                  λ has. (let (q, n, asked, served, way) = (of_v.joints a b).0 has in (q, n, asked, served, way_walks v.ties (v.at a) (v.at b) way)),
                  λ leads. (of_v.joints a b).1 (leads.0, leads.1, leads.2, leads.3, walk_way v.ties leads.4.0 (v.at a) (v.at b) leads.4.1),
                );
              }

  -- a step is a tie
  inner_tie : (k : ℕ) (x y : Dot) → In k x y → Meet ties (Within k x) (Within k y)
  inner_tie k x y (inl has) =
      let zeros : 0 + k ≡ k = omega arith in
      inl (Contains-append_left (all_within 0 ws) (link_ties ws w.links) (tie (Within k x) (Within k y))
      (subst (λ (m : ℕ). Contains (all_within 0 ws) (inside m (tie x y))) zeros (in_within 0 ws k (tie x y) has)))
  inner_tie k x y (inr has) =
      let zeros : 0 + k ≡ k = omega arith in
      inr (Contains-append_left (all_within 0 ws) (link_ties ws w.links) (tie (Within k y) (Within k x))
      (subst (λ (m : ℕ). Contains (all_within 0 ws) (inside m (tie y x))) zeros (in_within 0 ws k (tie y x) has)))

  abbrev of_link : Link → Tie
  of_link l = tie (dot_at ws l.one) (dot_at ws l.other)

  link_tie : (l : Link) → Contains w.links l → Contains ties (of_link l)
  link_tie l has = Contains-append_right (all_within 0 ws) (link_ties ws w.links) (of_link l) (in_image of_link w.links l has)

  step_tie : (x y : ℕ × Dot) → Steps x y → Meet ties (dot x) (dot y)
  step_tie x y (inl (same, s)) = subst (λ (k : ℕ). Meet ties (dot x) (Within k y.1)) same (inner_tie x.0 x.1 y.1 s)
  step_tie x y (inr (l, has, inl (e, f))) =
      subst (λ (u : ℕ × Dot). Meet ties (dot u) (dot y)) (sym e)
      (subst (λ (u : ℕ × Dot). Meet ties (dot_at ws l.one) (dot u)) (sym f) (inl (link_tie l has)))
  step_tie x y (inr (l, has, inr (e, f))) =
      subst (λ (u : ℕ × Dot). Meet ties (dot u) (dot y)) (sym e)
      (subst (λ (u : ℕ × Dot). Meet ties (dot_at ws l.other) (dot u)) (sym f) (inr (link_tie l has)))

  -- a tie from where a point stands is a step
  abbrev IsAt : Dot → ℕ × Dot → Type 0
  IsAt d x = d ≡ dot x

  abbrev Onward : Dot → ℕ × Dot → Type 0
  Onward d x = (y : ℕ × Dot) × IsAt d y × Walks (ℕ × Dot) Steps x y

  dot_is : (x y : ℕ × Dot) → dot x ≡ dot y → x ≡ y
  dot_is x y e =
      let k : x.0 ≡ y.0 = cc e in
      let d : x.1 ≡ y.1 = cc e in
      λ i. (k i, d i)

  steps_back : (x y : ℕ × Dot) → Steps x y → Steps y x
  steps_back x y (inl (same, s)) = inl (sym same, subst (λ (k : ℕ). In k y.1 x.1) same (turn x.0 x.1 y.1 s))
  steps_back x y (inr (l, has, inl (e, f))) = inr (l, has, inr (f, e))
  steps_back x y (inr (l, has, inr (e, f))) = inr (l, has, inl (f, e))

  abbrev Stepping : Tie → Type 0
  Stepping t = (x y : ℕ × Dot) × (t.one ≡ dot x) × (t.other ≡ dot y) × Steps x y

  tie_step : (t : Tie) → Contains ties t → Stepping t
  tie_step t has =
      elim (Contains-append_cases (all_within 0 ws) (link_ties ws w.links) t has) [
        | inl h ↦ of_web (of_within 0 ws t h)
        | inr h ↦ of_a_link (of_image of_link w.links t h)
      ]
    where
      of_web : OfWithin 0 ws t → Stepping t
      of_web (k, u, is_in, same) =
          let zeros : k ≡ 0 + k = omega arith in
          let there : t ≡ inside k u = sym same ∙ sym (ap (λ (m : ℕ). inside m u) zeros) in
          ((k, u.one), (k, u.other), ap (λ (x : Tie). x.one) there, ap (λ (x : Tie). x.other) there, inl (refl, inl is_in))

      of_a_link : Image of_link w.links t → Stepping t
      of_a_link (l, is_in, same) =
          (spot Dot In at l.one, spot Dot In at l.other, ap (λ (x : Tie). x.one) (sym same), ap (λ (x : Tie). x.other) (sym same), inr (l, is_in, inl (refl, refl)))

  onward : (d e : Dot) (x : ℕ × Dot) → IsAt d x → Meet ties d e → Onward e x
  onward d e x here_x (inl has) =
      let (y, z, at_y, at_z, s) = tie_step (tie d e) has in
      let same : y ≡ x = dot_is y x (sym at_y ∙ here_x) in
      (z, at_z, goes (ℕ × Dot) Steps x z (subst (λ (u : ℕ × Dot). Steps u z) same s))
  onward d e x here_x (inr has) =
      let (z, y, at_z, at_y, s) = tie_step (tie e d) has in
      let same : y ≡ x = dot_is y x (sym at_y ∙ here_x) in
      (z, at_z, goes (ℕ × Dot) Steps x z (subst (λ (u : ℕ × Dot). Steps u z) same (steps_back z y s)))

  to_way : AreOfWebs ws w.plans → LinksStand w → (a b : Place) → Paths w a b → Way ties (dot_at ws a) (dot_at ws b)
  to_way are stand a b path =
      let (n, u) = path_to_walk Dot In at w turn (led are) stand a b path in
      let (m, v) =
      mapped_walk (ℕ × Dot) Dot Steps (Meet ties) dot (λ x y s. goes Dot (Meet ties) (dot x) (dot y) (step_tie x y s)) n (spot Dot In at a) (spot Dot In at b) u
      in
      walk_way ties m (dot_at ws a) (dot_at ws b) v

  to_path : AreOfWebs ws w.plans → LinksStand w → (a b : Place) → IsThere w a → IsThere w b → Way ties (dot_at ws a) (dot_at ws b) → Paths w a b
  to_path are stand a b there_a there_b way =
      let (n, u) = way_walks ties (dot_at ws a) (dot_at ws b) way in
      let (y, at_y, v) = followed_walk Dot (ℕ × Dot) (Meet ties) Steps IsAt onward n (dot_at ws a) (dot_at ws b) (spot Dot In at a) refl u in
      let same : y ≡ spot Dot In at b = dot_is y (spot Dot In at b) (sym at_y) in
      walk_to_path Dot In at w turn (led are) stand a b there_a there_b (subst (λ (x : ℕ × Dot). Walks (ℕ × Dot) Steps (spot Dot In at a) x) same v)

pub joining_is_union : JoiningIsUnion
joining_is_union w ws r are stand is =
    record {
      right = is.right;
      fits = λ a b c d at_a at_b apart way.
          (let path = to_path w ws are stand (origin w a) (origin w b) (there a c at_a) (there b d at_b) way in
          is.fits a b c d path.0 at_a at_b apart path.1);
      joints = λ a b. (
        λ has. (let (q, v, n, asked, served, path) = (is.joints a b).0 has in
            (q, v, asked, served, to_way w ws are stand (origin w a) (origin w b) (n, path))),
        λ led. (is.joints a b).1 (connected a b led),
      );
    }
  where
    there : (e : End) (c : Contact) → contact_at r e ≡ Some c → IsThere w (origin w e)
    there e c has = (c, stands_at w r (fields_of w r is) e c has)

    connected : (a b : End) → Connects (union w ws) r a b → joining.Connects w r a b
    connected a b (q, v, asked, served, way) =
        let path = to_path w ws are stand (origin w a) (origin w b) (there a (asks q v) asked) (there b (serves q v) served) way in
        (q, v, path.0, asked, served, path.1)

pub union_is_joining : UnionIsJoining
union_is_joining w ws r are stand has is =
    record {
      parts = has.parts;
      imports = has.imports;
      outcome = has.outcome;
      weight = has.weight;
      right = is.right;
      result = has.result;
      fits = λ a b c d n at_a at_b apart path. is.fits a b c d at_a at_b apart (to_way w ws are stand (origin w a) (origin w b) (n, path));
      joints = λ a b. (
        λ in_r. connected a b ((is.joints a b).0 in_r),
        λ led. (is.joints a b).1 (led.0, led.1, led.3, led.4, to_way w ws are stand (origin w a) (origin w b) (led.2, led.5)),
      );
    }
  where
    there : (e : End) (c : Contact) → contact_at r e ≡ Some c → IsThere w (origin w e)
    there e c at_e = (c, stands_at w r has e c at_e)

    connected : (a b : End) → Connects (union w ws) r a b → joining.Connects w r a b
    connected a b (q, v, asked, served, way) =
        let path = to_path w ws are stand (origin w a) (origin w b) (there a (asks q v) asked) (there b (serves q v) served) way in
        (q, v, path.0, asked, served, path.1)
