-- The supplied function applied to an argument is the body that has the argument for a supply: of the two flat wirings each
-- path of one is a path of the other, with the argument's handshakes at the result in place of an import.
use Rattle.std.specs.Prelude.{◌≡◌, ℕ, zero, suc, ◌+◌, ◌-◌, ◌<◌, ◌≤◌, Bool, true, false, List, [], ◌∷◌, ◌++◌, ◌⊎◌, length, map, Option, Some, None, Contains, slice_get, nat_eq, nat_lt, if◌then◌else◌}
use Rattle.std.proofs.Common.{refl, sym, ◌∙◌, ap, subst, arith, inl, inr}
use Rattle.std.proofs.lemmas.Bool.Decides.{nat_tests}
use Rattle.std.proofs.lemmas.Option.{slice_get_within}
use Rattle.gos_types.specs.Types.{Type'}
use Rattle.gos_types.proofs.ListLemmas.{found_in_front, found_behind}
use Rattle.gos_model.specs.Typing.{Imported}
use Rattle.gos_plan.specs.Kinds.{Part, Contact, asks, serves}
use Rattle.gos_plan.specs.Plans.{End, PartEnd, ImportEnd, ResultEnd, Plan, contact_at, contacts_of_import}
use Rattle.gos_plan.specs.Joining.{Place, place, Link, Wiring, is_joined, LeftImport, left_in, left_among, all_left, left_place, part_place, all_parts, origin, JoinedWithin, Linked, IsJoining}
use Rattle.gos_plan.proofs.JointLemmas.{contained}
use Rattle.gos_plan.proofs.JointLemmas as joints
use Rattle.gos_realises.specs.realises.Regular.{count}
use Rattle.gos_realises.specs.realises.Links.{contact_of}
use Rattle.gos_realises.specs.realises.Wirings.{link, applying}
use Rattle.gos_realises.specs.realises.Modules.{Supply, plans_of, supplying}
use Rattle.gos_realises.proofs.realises.CountLemmas.{some_shake}
use Rattle.gos_realises.proofs.realises.LeftLemmas.{left_joined}
use Rattle.gos_realises.proofs.joined.OriginLemmas.{import_of}
use Rattle.gos_realises.proofs.joined.ReachLemmas.{Step, Paths}
use Rattle.gos_joining.specs.webs.Webs.{joint}
use Rattle.gos_joining.specs.webs.Renumbering.{IsRenumbered, moved_end}
use Rattle.gos_joining.specs.unions.Flat.{later_link, deeper_link, flat}
use Rattle.gos_joining.proofs.unions.WalkLemmas.{goes, mapped_walk}
use Rattle.gos_joining.proofs.unions.PathLemmas.{path_walk, walks_paths}
use Rattle.gos_joining.proofs.unions.PlaceLemmas.{fields_of, stands_at}
use Rattle.gos_joining.proofs.unions.LinkLemmas.{flat_inner, flat_outer, OfWiring, OfOuter, of_flat, IsAt, JoinedBy, joined_by, by_joined}
use Rattle.gos_joining.proofs.unions.FlatFitLemmas.{in_two}
use Rattle.gos_joining.specs.renumbered.SmallRewirings.{unchanged}
use Rattle.gos_joining.proofs.renumbered.HigherLemmas.{unchanged_end, unchanged_one}
use Rattle.gos_joining.proofs.renumbered.SupplyLemmas.{supply_link, OfImports, of_imports, in_imports}
use Rattle.gos_supplies.specs.applications.Opened.{opened, IsFunctionOf}
use Rattle.gos_supplies.proofs.applications.SeamLemmas.{single, result_link, of_results, in_results}
use Rattle.gos_supplies.proofs.applications.SideLemmas.{later_plain}
use Rattle.gos_supplies.proofs.applications.TogetherLemmas.{plans_two}

-- the links of both flat wirings: of the argument, and of imports
data Seam : Type 0 where
  Passes : (shake : ℕ) → Seam
  Given : (import shake : ℕ) → Seam

-- imports that other links join too
in_same : (ls ms : List Link) (k i : ℕ) (xs : List Imported) → ((j : ℕ) → is_joined ls k j ≡ is_joined ms k j) → left_in ls k i xs ≡ left_in ms k i xs
in_same ls ms k i [] same = refl
in_same ls ms k i (x ∷ xs) same =
    let rest = in_same ls ms k (suc i) xs same in
    λ j. if same i j then rest j else record { plan = k; number = i; import = x } ∷ rest j

among_same : (ls ms : List Link) (n : ℕ) (ps : List Plan) → ((k j : ℕ) → n ≤ k → is_joined ls k j ≡ is_joined ms k j) → left_among ls n ps ≡ left_among ms n ps
among_same ls ms n [] same = refl
among_same ls ms n (p ∷ ps) same =
    let first = in_same ls ms n 0 p.imports (λ j. same n j (omega arith)) in
    let rest = among_same ls ms (suc n) ps (λ k j above. same k j (omega (arith, above))) in
    λ i. first i ++ rest i

module _ (x : Imported) (p q y : Plan) (ss : List Supply) (u : Supply) (is : IsFunctionOf x p q) (own_size : length (plans_of ss) ≡ length p.imports) where
  abbrev argument : ℕ
  argument = length p.imports

  abbrev shakes : ℕ
  shakes = count x.ty

  abbrev pub own : List Wiring
  own = supplying p ss ∷ single u ∷ []

  abbrev pub applied : Wiring
  applied = flat (applying x.ty q.outcome y u.plan) own

  abbrev pub body : Wiring
  body = supplying q (ss ++ (u ∷ []))

  abbrev opens : End → End
  opens = opened argument shakes

  abbrev closes : End → End
  closes (PartEnd i h) = PartEnd i h
  closes (ImportEnd i h) = if nat_eq i argument then ResultEnd h else ImportEnd i h
  closes (ResultEnd h) = ResultEnd (shakes + h)

  abbrev end_to : ℕ → End → End
  end_to zero e = opens e
  end_to (suc k) e = e

  abbrev end_from : ℕ → End → End
  end_from zero e = closes e
  end_from (suc k) e = e

  abbrev to : Place → Place
  to a = place a.plan (end_to a.plan a.end)

  abbrev from : Place → Place
  from a = place a.plan (end_from a.plan a.end)

  result_low : (h : ℕ) → h < shakes → opens (ResultEnd h) ≡ ImportEnd argument h
  result_low h low =
      let test : nat_lt h shakes ≡ true = grind (arith, nat_tests, low) in ap (λ (b : Bool). if b then ImportEnd argument h else ResultEnd (h - shakes)) test

  result_high : (h : ℕ) → opens (ResultEnd (shakes + h)) ≡ ResultEnd h
  result_high h =
      let test : nat_lt (shakes + h) shakes ≡ false = grind (arith, nat_tests) in
      let less : shakes + h - shakes ≡ h = omega arith in
      ap (λ (b : Bool). if b then ImportEnd argument (shakes + h) else ResultEnd (shakes + h - shakes)) test ∙ ap ResultEnd less

  import_low : (i h : ℕ) → i < argument → closes (ImportEnd i h) ≡ ImportEnd i h
  import_low i h low =
      let test : nat_eq i argument ≡ false = grind (arith, nat_tests, low) in ap (λ (b : Bool). if b then ResultEnd h else ImportEnd i h) test

  import_at : (i h : ℕ) → i ≡ argument → closes (ImportEnd i h) ≡ ResultEnd h
  import_at i h same =
      let test : nat_eq i argument ≡ true = grind (arith, nat_tests, same) in ap (λ (b : Bool). if b then ResultEnd h else ImportEnd i h) test

  -- an end of the function, there and back
  close_open : (e : End) (c : Contact) → contact_at p e ≡ Some c → closes (opens e) ≡ e
  close_open (PartEnd i h) c there = refl
  close_open (ImportEnd i h) c there = by_import (slice_get p.imports i) refl there
    where
      by_import : (o : Option Imported) → slice_get p.imports i ≡ o → slice_get (contacts_of_import o) h ≡ Some c → closes (ImportEnd i h) ≡ ImportEnd i h
      by_import None none at = absurd (cc at)
      by_import (Some z) found at = import_low i h (slice_get_within p.imports i z found)
  close_open (ResultEnd h) c there = by_test (nat_lt h shakes) refl
    where
      by_test : (b : Bool) → nat_lt h shakes ≡ b → closes (opens (ResultEnd h)) ≡ ResultEnd h
      by_test true test = ap closes (result_low h (grind (arith, nat_tests, test))) ∙ import_at argument h refl
      by_test false test =
          let high : shakes ≤ h = grind (arith, nat_tests, test) in
          let sum : h ≡ shakes + (h - shakes) = omega (arith, high) in
          ap (λ (n : ℕ). closes (opens (ResultEnd n))) sum ∙ (ap closes (result_high (h - shakes)) ∙ ap ResultEnd (sym sum))

  argument_is : slice_get q.imports argument ≡ Some x
  argument_is =
      let sum : argument ≡ argument + 0 = omega arith in
      (λ i. slice_get (is.imports i) (sum i)) ∙ found_behind p.imports (x ∷ []) 0

  -- the other plans are the same
  same_tail : plans_of ss ++ ((u.plan ∷ []) ++ []) ≡ plans_of (ss ++ (u ∷ []))
  same_tail = sym (plans_two ss (u ∷ []))

  -- joints
  joint_to : (k l : ℕ) (e f : End) → JoinedWithin applied (place k e) (place l f) → JoinedWithin body (place k (end_to k e)) (place l (end_to l f))
  joint_to zero zero e f (v, j, same, at, has, ways) =
      let plans : p ≡ v = cc at in
      let in_p : Contains p.joints j = subst (λ (z : Plan). Contains z.joints j) (sym plans) has in (
        q,
        joint (opens j.asking) (opens j.serving),
        refl,
        refl,
        is.joints j.asking j.serving in_p,
        elim ways [ inl (a, b) ↦ inl (ap opens a, ap opens b) | inr (a, b) ↦ inr (ap opens a, ap opens b) ],
      )
  joint_to zero (suc l) e f (v, j, same, at, has, ways) = absurd (omega (arith, same))
  joint_to (suc k) zero e f (v, j, same, at, has, ways) = absurd (omega (arith, same))
  joint_to (suc k) (suc l) e f (v, j, same, at, has, ways) =
      (v, j, same, ap (λ (ps : List Plan). slice_get ps k) (sym same_tail) ∙ at, has, ways)

  joint_from : (k l : ℕ) (e f : End) → JoinedWithin body (place k e) (place l f) → JoinedWithin applied (place k (end_from k e)) (place l (end_from l f))
  joint_from zero zero e f (v, j, same, at, has, ways) =
      let plans : q ≡ v = cc at in
      let in_q : Contains q.joints j = subst (λ (z : Plan). Contains z.joints j) (sym plans) has in
      let (c, d, in_p, at_c, at_d) = is.no_more j.asking j.serving in_q in
      let (bits, answer, asked, served) = joints.fits p [] p.joints (joint c d) is.right (contained p.joints (joint c d) in_p) in
      let asking : closes j.asking ≡ c = ap closes (sym at_c) ∙ close_open c (asks bits answer) asked in
      let serving : closes j.serving ≡ d = ap closes (sym at_d) ∙ close_open d (serves bits answer) served in (
        p,
        joint c d,
        refl,
        refl,
        in_p,
        elim ways [ inl (a, b) ↦ inl (ap closes a ∙ asking, ap closes b ∙ serving) | inr (a, b) ↦ inr (ap closes a ∙ serving, ap closes b ∙ asking) ],
      )
  joint_from zero (suc l) e f (v, j, same, at, has, ways) = absurd (omega (arith, same))
  joint_from (suc k) zero e f (v, j, same, at, has, ways) = absurd (omega (arith, same))
  joint_from (suc k) (suc l) e f (v, j, same, at, has, ways) =
      (v, j, same, ap (λ (ps : List Plan). slice_get ps k) same_tail ∙ at, has, ways)

  -- links
  abbrev IsSeam : Seam → Type 0
  IsSeam (Passes h) = h < shakes
  IsSeam (Given i h) = (z : Imported) × (slice_get p.imports i ≡ Some z) × (h < count z.ty)

  abbrev applied_link : Seam → Link
  applied_link (Passes h) = link 0 (ResultEnd h) (suc argument) (ResultEnd h)
  applied_link (Given i h) = supply_link i h

  abbrev body_link : Seam → Link
  body_link (Passes h) = supply_link argument h
  body_link (Given i h) = supply_link i h

  abbrev OfSeam : (Seam → Link) → Link → Type 0
  OfSeam f m = (k : Seam) × IsSeam k × (m ≡ f k)

  passes_is : (h : ℕ) → deeper_link own (result_link h) ≡ applied_link (Passes h)
  passes_is h =
      let zeros : 0 + h ≡ h = omega arith in
      let sum : suc (length (plans_of ss)) + 0 + 0 ≡ suc argument = omega (arith, own_size) in
      λ j. link 0 (ResultEnd (zeros j)) (sum j) (ResultEnd (zeros j))

  applied_seam : (m : Link) → Contains applied.links m → OfSeam applied_link m
  applied_seam m has = by_flat (of_flat (applying x.ty q.outcome y u.plan) own m has)
    where
      by_flat : OfWiring own m ⊎ OfOuter (applying x.ty q.outcome y u.plan) own m → OfSeam applied_link m
      by_flat (inl (zero, v, l, at, among, same)) =
          let is_v : supplying p ss ≡ v = cc at in
          let there = of_imports 0 p.imports l (subst (λ (z : Wiring). Contains z.links l) (sym is_v) among) in (
            Given there.number there.shake,
            (there.import, there.at, there.small),
            sym same ∙ (ap (later_link 0) there.same ∙ later_plain there.number there.shake),
          )
      by_flat (inl (suc zero, v, l, at, among, same)) =
          let is_v : single u ≡ v = cc at in
          let (j, small, e) = subst (λ (z : Wiring). Contains z.links l) (sym is_v) among in absurd (omega (arith, small))
      by_flat (inl (suc (suc k), v, l, at, among, same)) = absurd (cc at)
      by_flat (inr (l, among, same)) =
          let (h, small, found) = of_results 0 shakes l among in
          (Passes h, omega (arith, small), sym same ∙ (ap (deeper_link own) found ∙ passes_is h))

  seam_applied : (k : Seam) → IsSeam k → Contains applied.links (applied_link k)
  seam_applied (Passes h) small =
      subst (Contains applied.links) (passes_is h)
      (flat_outer (applying x.ty q.outcome y u.plan) own (result_link h) (in_results 0 shakes h (omega arith) (omega (arith, small))))
  seam_applied (Given i h) (z, at, small) =
      subst (Contains applied.links) (later_plain i h)
      (flat_inner (applying x.ty q.outcome y u.plan) own 0 (supplying p ss) (supply_link (0 + i) h) refl (in_imports 0 p.imports i h z at small))

  plain : (i h : ℕ) → supply_link (0 + i) h ≡ supply_link i h
  plain i h = let zeros : 0 + i ≡ i = omega arith in ap (λ (n : ℕ). supply_link n h) zeros

  body_seam : (m : Link) → Contains body.links m → OfSeam body_link m
  body_seam m has = by_import (of_imports 0 q.imports m has)
    where
      by_import : OfImports 0 q.imports m → OfSeam body_link m
      by_import there =
          elim (in_two p.imports (x ∷ []) there.number there.import (ap (λ (l : List Imported). slice_get l there.number) (sym is.imports) ∙ there.at)) [
            | inl at ↦ (Given there.number there.shake, (there.import, at, there.small), there.same ∙ plain there.number there.shake)
            | inr (j, sum, at) ↦ by_last there j sum at
          ]
        where
          by_last : (there : OfImports 0 q.imports m) (j : ℕ) → there.number ≡ argument + j → slice_get (x ∷ []) j ≡ Some there.import → OfSeam body_link m
          by_last there zero sum at =
              let same : x ≡ there.import = cc at in
              let number : there.number ≡ argument = omega (arith, sum) in (
                Passes there.shake,
                subst (λ (z : Imported). there.shake < count z.ty) (sym same) there.small,
                there.same ∙ (plain there.number there.shake ∙ ap (λ (n : ℕ). supply_link n there.shake) number),
              )
          by_last there (suc j) sum at = absurd (cc at)

  seam_body : (k : Seam) → IsSeam k → Contains body.links (body_link k)
  seam_body (Passes h) small = subst (Contains body.links) (plain argument h) (in_imports 0 q.imports argument h x argument_is small)
  seam_body (Given i h) (z, at, small) =
      subst (Contains body.links) (plain i h)
      (in_imports 0 q.imports i h z (ap (λ (l : List Imported). slice_get l i) is.imports ∙ found_in_front p.imports (x ∷ []) i z at) small)

  seam_to : (k : Seam) → IsSeam k → (to (applied_link k).one ≡ (body_link k).one) × (to (applied_link k).other ≡ (body_link k).other)
  seam_to (Passes h) small = (ap (place 0) (result_low h small), refl)
  seam_to (Given i h) seam = (refl, refl)

  seam_from : (k : Seam) → IsSeam k → (from (body_link k).one ≡ (applied_link k).one) × (from (body_link k).other ≡ (applied_link k).other)
  seam_from (Passes h) small = (ap (place 0) (import_at argument h refl), refl)
  seam_from (Given i h) (z, at, small) = (ap (place 0) (import_low i h (slice_get_within p.imports i z at)), refl)

  link_to : (a b : Place) → Linked applied a b → Linked body (to a) (to b)
  link_to a b (l, has, ways) =
      let (k, seam, same) = applied_seam l has in
      let one : to l.one ≡ (body_link k).one = ap (λ (m : Link). to m.one) same ∙ (seam_to k seam).0 in
      let other : to l.other ≡ (body_link k).other = ap (λ (m : Link). to m.other) same ∙ (seam_to k seam).1 in
      elim ways [
        | inl (e, f) ↦ (body_link k, seam_body k seam, inl (ap to e ∙ one, ap to f ∙ other))
        | inr (e, f) ↦ (body_link k, seam_body k seam, inr (ap to e ∙ other, ap to f ∙ one))
      ]

  link_from : (a b : Place) → Linked body a b → Linked applied (from a) (from b)
  link_from a b (l, has, ways) =
      let (k, seam, same) = body_seam l has in
      let one : from l.one ≡ (applied_link k).one = ap (λ (m : Link). from m.one) same ∙ (seam_from k seam).0 in
      let other : from l.other ≡ (applied_link k).other = ap (λ (m : Link). from m.other) same ∙ (seam_from k seam).1 in
      elim ways [
        | inl (e, f) ↦ (applied_link k, seam_applied k seam, inl (ap from e ∙ one, ap from f ∙ other))
        | inr (e, f) ↦ (applied_link k, seam_applied k seam, inr (ap from e ∙ other, ap from f ∙ one))
      ]

  step_to : (a b : Place) → Step applied a b → Step body (to a) (to b)
  step_to a b (inl s) = inl (joint_to a.plan b.plan a.end b.end s)
  step_to a b (inr s) = inr (link_to a b s)

  step_from : (a b : Place) → Step body a b → Step applied (from a) (from b)
  step_from a b (inl s) = inl (joint_from a.plan b.plan a.end b.end s)
  step_from a b (inr s) = inr (link_from a b s)

  path_to : (a b : Place) → Paths applied a b → Paths body (to a) (to b)
  path_to a b (n, w) =
      walks_paths body (to a) (to b)
      (mapped_walk Place Place (Step applied) (Step body) to (λ c d s. goes Place (Step body) (to c) (to d) (step_to c d s)) n a b (path_walk applied n a b w))

  path_from : (a b : Place) → Paths body a b → Paths applied (from a) (from b)
  path_from a b (n, w) =
      walks_paths applied (from a) (from b)
      (mapped_walk Place Place (Step body) (Step applied) from (λ c d s. goes Place (Step applied) (from c) (from d) (step_from c d s)) n a b (path_walk body n a b w))

  -- a place of the applied function, there and back
  home : (k : ℕ) (e : End) (c : Contact) → contact_of applied (place k e) ≡ Some c → from (to (place k e)) ≡ place k e
  home zero e c there = ap (place 0) (close_open e c there)
  home (suc k) e c there = refl

  -- imports that stay
  not_at : (k i : ℕ) (l : Link) (f : Seam → Link) → OfSeam f l → ((s : Seam) → IsAt (suc k) i (f s).one ⊎ IsAt (suc k) i (f s).other → ⊥)
      → IsAt (suc k) i l.one ⊎ IsAt (suc k) i l.other → ⊥
  not_at k i l f (s, seam, same) none ends =
      none s (subst (λ (m : Link). IsAt (suc k) i m.one ⊎ IsAt (suc k) i m.other) same ends)

  none_applied : (k i : ℕ) (s : Seam) → IsAt (suc k) i (applied_link s).one ⊎ IsAt (suc k) i (applied_link s).other → ⊥
  none_applied k i (Passes h) (inl (g, e)) = let no_plan : 0 ≡ suc k = ap (λ (a : Place). a.plan) e in omega (arith, no_plan)
  none_applied k i (Passes h) (inr (g, e)) = let no_end : ResultEnd h ≡ ImportEnd i g = ap (λ (a : Place). a.end) e in cc no_end
  none_applied k i (Given j h) (inl (g, e)) = let no_plan : 0 ≡ suc k = ap (λ (a : Place). a.plan) e in omega (arith, no_plan)
  none_applied k i (Given j h) (inr (g, e)) = let no_end : ResultEnd h ≡ ImportEnd i g = ap (λ (a : Place). a.end) e in cc no_end

  none_body : (k i : ℕ) (s : Seam) → IsAt (suc k) i (body_link s).one ⊎ IsAt (suc k) i (body_link s).other → ⊥
  none_body k i (Passes h) (inl (g, e)) = let no_plan : 0 ≡ suc k = ap (λ (a : Place). a.plan) e in omega (arith, no_plan)
  none_body k i (Passes h) (inr (g, e)) = let no_end : ResultEnd h ≡ ImportEnd i g = ap (λ (a : Place). a.end) e in cc no_end
  none_body k i (Given j h) (inl (g, e)) = let no_plan : 0 ≡ suc k = ap (λ (a : Place). a.plan) e in omega (arith, no_plan)
  none_body k i (Given j h) (inr (g, e)) = let no_end : ResultEnd h ≡ ImportEnd i g = ap (λ (a : Place). a.end) e in cc no_end

  unjoined : (ls : List Link) (k i : ℕ) → (JoinedBy ls (suc k) i → ⊥) → is_joined ls (suc k) i ≡ false
  unjoined ls k i none = by_test (is_joined ls (suc k) i) refl
    where
      by_test : (b : Bool) → is_joined ls (suc k) i ≡ b → is_joined ls (suc k) i ≡ false
      by_test true test = absurd (none (joined_by ls (suc k) i test))
      by_test false test = test

  same_joined : (k i : ℕ) → 1 ≤ k → is_joined applied.links k i ≡ is_joined body.links k i
  same_joined zero i above = absurd (omega (arith, above))
  same_joined (suc k) i above =
      unjoined applied.links k i (λ found. not_at k i found.0 applied_link (applied_seam found.0 found.1) (none_applied k i) found.2)
      ∙ sym (unjoined body.links k i (λ found. not_at k i found.0 body_link (body_seam found.0 found.1) (none_body k i) found.2))

  joined_p : (j : ℕ) (z : Imported) → slice_get p.imports j ≡ Some z → is_joined applied.links 0 (0 + j) ≡ true
  joined_p j z at =
      let zeros : 0 + j ≡ j = omega arith in
      ap (is_joined applied.links 0) zeros
      ∙ by_joined applied.links 0 j (supply_link j 0, seam_applied (Given j 0) (z, at, some_shake z.ty), inl (0, refl))

  joined_q : (j : ℕ) (z : Imported) → slice_get q.imports j ≡ Some z → is_joined body.links 0 (0 + j) ≡ true
  joined_q j z at =
      let zeros : 0 + j ≡ j = omega arith in
      by_joined body.links 0 (0 + j) (supply_link (0 + j) 0, in_imports 0 q.imports j 0 z at (some_shake z.ty), inl (0, refl))

  same_left : all_left applied ≡ all_left body
  same_left =
      (λ i. left_joined applied.links 0 0 p.imports joined_p i ++ left_among applied.links 1 (same_tail i))
      ∙ (among_same applied.links body.links 1 (plans_of (ss ++ (u ∷ []))) same_joined
      ∙ (λ i. sym (left_joined body.links 0 0 q.imports joined_q) i ++ left_among body.links 1 (plans_of (ss ++ (u ∷ [])))))

  same_parts : all_parts applied.plans ≡ all_parts body.plans
  same_parts = λ i. is.parts i ++ all_parts (same_tail i)

  -- where ends stand
  end_part : (k i h : ℕ) → end_to k (PartEnd i h) ≡ PartEnd i h
  end_part zero i h = refl
  end_part (suc k) i h = refl

  end_import : (k i h : ℕ) → end_to k (ImportEnd i h) ≡ ImportEnd i h
  end_import zero i h = refl
  end_import (suc k) i h = refl

  part_fixed : (n : ℕ) (ps : List Plan) (i h : ℕ) → to (part_place n ps i h) ≡ part_place n ps i h
  part_fixed n [] i h = ap (place n) (end_part n i h)
  part_fixed n (v ∷ ps) i h = by_test (nat_lt i (length v.parts)) (part_fixed (suc n) ps (i - length v.parts) h)
    where
      by_test : (b : Bool) → to (part_place (suc n) ps (i - length v.parts) h) ≡ part_place (suc n) ps (i - length v.parts) h
          → to (if b then place n (PartEnd i h) else part_place (suc n) ps (i - length v.parts) h)
          ≡ (if b then place n (PartEnd i h) else part_place (suc n) ps (i - length v.parts) h)
      by_test true rest = ap (place n) (end_part n i h)
      by_test false rest = rest

  left_fixed : (o : Option LeftImport) (h : ℕ) → to (left_place o h) ≡ left_place o h
  left_fixed None h = refl
  left_fixed (Some l) h = ap (place l.plan) (end_import l.plan l.number h)

  stands : (e : End) → origin body e ≡ to (origin applied e)
  stands (PartEnd i h) =
      (λ t. if nat_lt i (length (sym is.parts t)) then place 0 (PartEnd i h) else part_place 1 (sym same_tail t) (i - length (sym is.parts t)) h)
      ∙ sym (part_fixed 0 applied.plans i h)
  stands (ImportEnd i h) =
      ap (λ (l : List LeftImport). left_place (slice_get l i) h) (sym same_left) ∙ sym (left_fixed (slice_get (all_left applied) i) h)
  stands (ResultEnd h) =
      let sum : 0 + shakes + h ≡ shakes + h = omega arith in
      let zeros : 0 + h ≡ h = omega arith in
      ap (λ (n : ℕ). place 0 (ResultEnd n)) zeros ∙ sym (ap (λ (n : ℕ). place 0 (opens (ResultEnd n))) sum ∙ ap (place 0) (result_high h))

  module _ (r z : Plan) (of_r : IsJoining applied r) (of_z : IsJoining body z) where
    parts : z.parts ≡ r.parts
    parts = of_z.parts ∙ (sym same_parts ∙ sym of_r.parts)

    imports : z.imports ≡ r.imports
    imports = of_z.imports ∙ (ap (map import_of) (sym same_left) ∙ sym of_r.imports)

    outcome : z.outcome ≡ r.outcome
    outcome = of_z.outcome ∙ sym of_r.outcome

    contact_same : (e : End) → contact_at z e ≡ contact_at r e
    contact_same (PartEnd i h) = ap (λ (ks : List Part). contact_at (record z { parts = ks }) (PartEnd i h)) parts
    contact_same (ImportEnd i h) = ap (λ (l : List Imported). contact_at (record z { imports = l }) (ImportEnd i h)) imports
    contact_same (ResultEnd h) = ap (λ (t : Type'). contact_at (record z { outcome = t }) (ResultEnd h)) outcome

    back_home : (e : End) (c : Contact) → contact_at r e ≡ Some c → from (origin body e) ≡ origin applied e
    back_home e c there =
        ap from (stands e) ∙ home (origin applied e).plan (origin applied e).end c (stands_at applied r (fields_of applied r of_r) e c there)

    joint_forth : (a b : End) → Contains r.joints (joint a b) → Contains z.joints (joint a b)
    joint_forth a b has =
        let (bits, answer, n, asked, served, path) = (of_r.joints a b).0 has in
        let (m, there) =
        subst (λ (c : Place). Paths body c (origin body b)) (sym (stands a))
        (subst (λ (c : Place). Paths body (to (origin applied a)) c) (sym (stands b)) (path_to (origin applied a) (origin applied b) (n, path)))
        in
        (of_z.joints a b).1 (bits, answer, m, contact_same a ∙ asked, contact_same b ∙ served, there)

    joint_back : (a b : End) → Contains z.joints (joint a b) → Contains r.joints (joint a b)
    joint_back a b has =
        let (bits, answer, n, asked, served, path) = (of_z.joints a b).0 has in
        let at_a = sym (contact_same a) ∙ asked in
        let at_b = sym (contact_same b) ∙ served in
        let (m, there) =
        subst (λ (c : Place). Paths applied c (origin applied b)) (back_home a (asks bits answer) at_a)
        (subst (λ (c : Place). Paths applied (from (origin body a)) c) (back_home b (serves bits answer) at_b) (path_from (origin body a) (origin body b) (n, path)))
        in
        (of_r.joints a b).1 (bits, answer, m, at_a, at_b, there)

    pub is_body : IsRenumbered unchanged r z
    is_body =
        record {
          one_to_one = unchanged_one;
          parts = λ i. ap (λ (ks : List Part). slice_get ks i) parts;
          imports = λ i. ap (λ (l : List Imported). slice_get l i) imports;
          outcome = outcome;
          joints = λ a b. (
            λ has. subst (λ (c : End). Contains z.joints (joint c (moved_end unchanged b))) (sym (unchanged_end a))
                (subst (λ (d : End). Contains z.joints (joint a d)) (sym (unchanged_end b)) (joint_forth a b has)),
            λ has. joint_back a b
                (subst (λ (c : End). Contains z.joints (joint c b)) (unchanged_end a)
                (subst (λ (d : End). Contains z.joints (joint (moved_end unchanged a) d)) (unchanged_end b) has)),
          );
          right = of_r.right;
          also_right = of_z.right;
        }
