-- A side of the plan of a product, joined, has its region's plan for its core.
--
-- The region lies in what is joined too: there it is the one side, so it alone runs.
use Rattle.std.specs.Prelude.{zero, suc, ◌+◌, ◌<◌, length, None, Contains, nat_eq, slice_get}
use Rattle.std.proofs.Common.{◌≡◌, ℕ, Bool, true, false, List, [], ◌∷◌, ◌⊎◌, Option, Some, inl, inr, refl, sym, ◌∙◌, ap, subst, arith, if◌then◌else◌}
use Rattle.std.proofs.lemmas.Option.{slice_get_within, same_Some, none-some}
use Rattle.gos_types.specs.Types.{Type'}
use Rattle.gos_types.proofs.ListLemmas.{element_at}
use Rattle.gos_model.specs.Typing.{Imported}
use Rattle.gos_plan.specs.Kinds.{Part, contacts_of}
use Rattle.gos_plan.specs.Plans.{End, PartEnd, ImportEnd, ResultEnd, Joint, Plan, IsRight, contact_at, contacts_of_part, contacts_of_import, turned_if}
use Rattle.gos_plan.specs.Tokens.{Tokens, Element, IsPortEnd, Does, Runs, IsIdle}
use Rattle.gos_plan.specs.Orderly.{Open, none_open}
use Rattle.gos_plan.specs.Joining.{IsJoining}
use Rattle.gos_plan.proofs.JointLemmas.{one_joint, contained, asking_stands, serving_stands, which_end}
use Rattle.gos_realises.specs.realises.Regular.{Pass, count, InputsKeepTurns}
use Rattle.gos_realises.specs.realises.Wirings.{side}
use Rattle.gos_realises.specs.realises.Realises.{NamesDiffer}
use Rattle.gos_realises.proofs.realises.InputLemmas.{passed, InputTurns, first_turn, later_turns}
use Rattle.gos_realises.proofs.realises.RingLemmas.{after}
use Rattle.gos_realises.proofs.realises.CountLemmas.{below_count}
use Rattle.gos_joining.specs.webs.Webs.{joint}
use Rattle.gos_joining.specs.webs.Cutting.{Cut, lies_at, IsInside, IsOutside, StandsIn, asks_in}
use Rattle.gos_joining.proofs.webs.MovedLemmas.{listed}
use Rattle.gos_joining.proofs.webs.CutLemmas.{Owns, stands_by, stands_own, Asked, asks_one}
use Rattle.gos_nodes.specs.windows.Regions.{IsOther, IsRegion}
use Rattle.gos_nodes.proofs.windows.ClosingLemmas.{Ports, ports_after}
use Rattle.gos_nodes.proofs.windows.PortLemmas.{stands_contact, one_place}
use Rattle.gos_supplies.proofs.turns.TypeLemmas.{told_same}
use Rattle.gos_sharing.specs.cores.Core.{Core, core_end, IsCore, IsStill}
use Rattle.gos_nodes.specs.products.Both.{Side, IsSide}
use Rattle.gos_nodes.specs.products.Cores.{IsStillCore, SidesAreCores}
use Rattle.gos_nodes.proofs.products.PlaceLemmas.{IsPartOf, IsLaid, import_number, import_there, at, at_lies}
use Rattle.gos_nodes.proofs.products.PartLemmas.{all_of}
use Rattle.gos_nodes.proofs.products.StirLemmas.{InSide}
use Rattle.gos_nodes.proofs.products.GoingLemmas.{Going, begins, step, Next, AsksBeside}
use Rattle.gos_nodes.proofs.products.SideLemmas.{behind, same_parts, same_imports, joint_behind, from_behind}
use Rattle.gos_nodes.proofs.products.BothLemmas.{first_laid, second_laid}

-- where the region lies in what is joined: its result is the whole's
abbrev pub side_outer : Cut → End → End
side_outer f (PartEnd i h) = f.outer (PartEnd i h)
side_outer f (ImportEnd i h) = f.outer (ImportEnd i h)
side_outer f (ResultEnd h) = ResultEnd h

abbrev pub side_inner : ℕ → Cut → End → Option End
side_inner n f (PartEnd i h) = f.inner (PartEnd i h)
side_inner n f (ImportEnd i h) = f.inner (ImportEnd i h)
side_inner n f (ResultEnd h) = f.inner (ResultEnd (n + h))

abbrev pub side_cut : ℕ → Cut → Cut
side_cut n f = record f { outer = side_outer f; inner = side_inner n f }

abbrev pub alone : ℕ → Side → Side
alone n g = record g { cut = side_cut n g.cut }

module _
    (n : ℕ) (t : Type') (r : Plan) (g : Side) (is : IsLaid r n g) (outcome : g.plan.outcome ≡ t) (s : Plan) (join : IsJoining (side n t r) s) where
  right : IsRight r
  right = is.side.region.whole_right

  abbrev back : End → End
  back = behind n t r right s join

  back_one : (a b : End) → back a ≡ back b → a ≡ b
  back_one (PartEnd i h) (PartEnd j m) same = same
  back_one (PartEnd i h) (ImportEnd j m) same = absurd (cc same)
  back_one (PartEnd i h) (ResultEnd m) same = absurd (cc same)
  back_one (ImportEnd i h) (PartEnd j m) same = absurd (cc same)
  back_one (ImportEnd i h) (ImportEnd j m) same = same
  back_one (ImportEnd i h) (ResultEnd m) same = absurd (cc same)
  back_one (ResultEnd h) (PartEnd j m) same = absurd (cc same)
  back_one (ResultEnd h) (ImportEnd j m) same = absurd (cc same)
  back_one (ResultEnd h) (ResultEnd m) same =
      let sums : n + h ≡ n + m = cc same in
      let shakes : h ≡ m = omega (arith, sums) in ap ResultEnd shakes

  -- where an end of the region lies in both
  import_back : (i h : ℕ) → StandsIn g.plan (ImportEnd i h) → back (g.cut.outer (ImportEnd i h)) ≡ g.cut.outer (ImportEnd i h)
  import_back i h stands =
      let (k, outer, same) = is.side.ports i h stands in subst (λ (x : End). back x ≡ x) (sym outer) refl

  back_lies : (e : End) → Owns g.plan e → back (lies_at (side_cut n g.cut) e) ≡ lies_at g.cut e
  back_lies (PartEnd i h) own = refl
  back_lies (ImportEnd i h) stands = import_back i h stands
  back_lies (ResultEnd h) stands = sym (is.side.result h stands)

  -- handshakes
  abbrev IsLow : End → Type 0
  IsLow (PartEnd i h) = Unit {0}
  IsLow (ImportEnd i h) = Unit {0}
  IsLow (ResultEnd h) = h < count t

  same_contact : (e : End) → IsLow e → contact_at s e ≡ contact_at r (back e)
  same_contact (PartEnd i h) low = ap (λ (ks : List Part). slice_get (contacts_of_part (slice_get ks i)) h) (same_parts n t r right s join)
  same_contact (ImportEnd i h) low =
      ap (λ (xs : List Imported). slice_get (contacts_of_import (slice_get xs i)) h) (same_imports n t r right s join)
  same_contact (ResultEnd h) low =
      let (c, there) = element_at (contacts_of t) h low in
      ap (λ (u : Type'). turned_if (slice_get (contacts_of u) h)) join.outcome ∙ ap turned_if (there ∙ sym (join.result h c there))

  result_small : (h : ℕ) → StandsIn g.plan (ResultEnd h) → h < count t
  result_small h stands =
      let (c, there) = stands_contact g.plan is.side.region.right (ResultEnd h) stands in
      subst (λ (u : Type'). h < count u) outcome (below_count g.plan.outcome h c there)

  low_lies : (e : End) → Owns g.plan e → IsLow (lies_at (side_cut n g.cut) e)
  low_lies (PartEnd i h) own = tt
  low_lies (ImportEnd i h) stands = let (k, outer, same) = is.side.ports i h stands in subst (λ (x : End). IsLow x) (sym outer) tt
  low_lies (ResultEnd h) stands = result_small h stands

  -- the region
  owns_first : (a b : End) → Contains g.plan.joints (joint a b) → Owns g.plan a × Owns g.plan b
  owns_first a b here =
      let is_in = contained g.plan.joints (joint a b) here in
      (stands_own g.plan (joint a b) a is.side.region.right is_in (asking_stands (joint a b)), stands_own g.plan (joint a b) b is.side.region.right is_in (serving_stands (joint a b)))

  ports : (e : End) → IsPortEnd e → StandsIn g.plan e → IsOutside (side_cut n g.cut) (side_outer g.cut e) × (side_inner n g.cut (side_outer g.cut e) ≡ Some e)
  ports (PartEnd i h) port stands = absurd port
  ports (ImportEnd i h) port stands =
      let (k, outer, same) = is.side.ports i h stands in
      let there = is.side.region.ports (ImportEnd i h) tt stands in
      subst (λ (x : End). IsOutside (side_cut n g.cut) x × (side_inner n g.cut x ≡ Some (ImportEnd i h))) (sym outer)
      (tt, ap g.cut.inner (sym outer) ∙ there.1)
  ports (ResultEnd h) port stands = (tt, ap g.cut.inner (sym (is.side.result h stands)) ∙ (is.side.region.ports (ResultEnd h) tt stands).1)

  inner_back : (b e : End) → side_inner n g.cut b ≡ Some e → g.cut.inner (back b) ≡ Some e
  inner_back (PartEnd i h) e same = same
  inner_back (ImportEnd i h) e same = same
  inner_back (ResultEnd h) e same = same

  outer_back : (e : End) → IsPortEnd e → StandsIn g.plan e → back (side_outer g.cut e) ≡ g.cut.outer e
  outer_back (PartEnd i h) port stands = absurd port
  outer_back (ImportEnd i h) port stands = import_back i h stands
  outer_back (ResultEnd h) port stands = sym (is.side.result h stands)

  inners : (b e : End) → side_inner n g.cut b ≡ Some e → IsPortEnd e × StandsIn g.plan e × (side_outer g.cut e ≡ b)
  inners b e same =
      let (port, stands, at_b) = is.side.region.inners (back b) e (inner_back b e same) in
      (port, stands, back_one (side_outer g.cut e) b (outer_back e port stands ∙ at_b))

  contacts : (e : End) → IsPortEnd e → StandsIn g.plan e → contact_at s (side_outer g.cut e) ≡ contact_at g.plan e
  contacts e port stands =
      same_contact (side_outer g.cut e) (low e port stands) ∙ (ap (contact_at r) (outer_back e port stands) ∙ is.side.region.contacts e port stands)
    where
      low : (e : End) → IsPortEnd e → StandsIn g.plan e → IsLow (side_outer g.cut e)
      low (PartEnd i h) port stands = absurd port
      low (ImportEnd i h) port stands = low_lies (ImportEnd i h) stands
      low (ResultEnd h) port stands = result_small h stands

  joints : (a b : End) → Contains g.plan.joints (joint a b)
      → Contains s.joints (joint (lies_at (side_cut n g.cut) a) (lies_at (side_cut n g.cut) b))
  joints a b here =
      let (first, last) = owns_first a b here in
      from_behind n t r right s join (lies_at (side_cut n g.cut) a) (lies_at (side_cut n g.cut) b)
      (subst (λ (x : Joint). Contains r.joints x) (λ l. joint (sym (back_lies a first) l) (sym (back_lies b last) l)) (is.side.region.joints a b here))
      (same_contact (lies_at (side_cut n g.cut) a) (low_lies a first)) (same_contact (lies_at (side_cut n g.cut) b) (low_lies b last))

  inside_back : (a : End) → IsInside (side_cut n g.cut) a → IsInside g.cut (back a)
  inside_back (PartEnd i h) inside = inside
  inside_back (ImportEnd i h) inside = inside
  inside_back (ResultEnd h) inside = inside

  other_back : (a : End) → IsInside (side_cut n g.cut) a → IsOther g.sides (back a) → IsOther g.sides a
  other_back (PartEnd i h) inside other = other
  other_back (ImportEnd i h) inside other = absurd inside
  other_back (ResultEnd h) inside other = absurd inside

  all : (a b : End) → Contains s.joints (joint a b) → IsInside (side_cut n g.cut) a ⊎ IsInside (side_cut n g.cut) b
      → ((d e : End) × Contains g.plan.joints (joint d e) × (lies_at (side_cut n g.cut) d ≡ a) × (lies_at (side_cut n g.cut) e ≡ b))
      ⊎ ((IsInside (side_cut n g.cut) a → IsOther g.sides a) × (IsInside (side_cut n g.cut) b → IsOther g.sides b))
  all a b here inside =
      elim (is.side.region.all (back a) (back b) (joint_behind n t r right s join a b here) (either inside)) [
        | inl (d, e, own, at_a, at_b) ↦
            (let (first, last) = owns_first d e own in
            inl (
              d,
              e,
              own,
              back_one (lies_at (side_cut n g.cut) d) a (back_lies d first ∙ at_a),
              back_one (lies_at (side_cut n g.cut) e) b (back_lies e last ∙ at_b),
            ))
        | inr (first, last) ↦
            inr ((λ within. other_back a within (first (inside_back a within))), (λ within. other_back b within (last (inside_back b within))))
      ]
    where
      either : IsInside (side_cut n g.cut) a ⊎ IsInside (side_cut n g.cut) b → IsInside g.cut (back a) ⊎ IsInside g.cut (back b)
      either (inl within) = inl (inside_back a within)
      either (inr within) = inr (inside_back b within)

  region : IsRegion (side_cut n g.cut) g.sides s g.plan
  region =
      record {
        whole_right = join.right;
        right = is.side.region.right;
        parts = λ i k there.
            (let (whole, number) = is.side.region.parts i k there in
            (ap (λ (ks : List Part). slice_get ks (g.cut.part i)) (same_parts n t r right s join) ∙ whole, number));
        numbers = is.side.region.numbers;
        ports = ports;
        inners = inners;
        contacts = contacts;
        joints = joints;
        all = all;
        serving = is.side.region.serving;
        unused = is.side.region.unused;
      }

  -- what stands in a joint of it does so in the product
  stands_back : (e : End) → StandsIn s e → StandsIn r (back e)
  stands_back e (j, here, stands) = (
    joint (back j.asking) (back j.serving),
    joint_behind n t r right s join j.asking j.serving here,
    elim (which_end e j stands) [
      | inl asks ↦ stands_by (back e) (joint (back j.asking) (back j.serving)) (inl (ap back asks))
      | inr serves ↦ stands_by (back e) (joint (back j.asking) (back j.serving)) (inr (ap back serves))
    ],
  )

  lone : IsSide s 0 (alone n g)
  lone =
      record {
        region = region;
        regular = is.side.regular;
        loyal = is.side.loyal;
        result = λ h stands. (let zeros : h ≡ 0 + h = omega arith in ap ResultEnd zeros);
        imports = λ x has. subst (λ (xs : List Imported). Contains xs x) (sym (same_imports n t r right s join)) (is.side.imports x has);
        names = is.side.names;
        ports = λ i h stands.
            (let (k, outer, same) = is.side.ports i h stands in
            (k, outer, ap (λ (xs : List Imported). slice_get xs k) (same_imports n t r right s join) ∙ same));
        heard = λ i h m k x stands outer there role.
            (let (at_k, joined) = is.side.heard i h m k x stands outer there role in (at_k, λ stood. joined (stands_back (ImportEnd k m) stood)));
      }

  pub laid : IsLaid s 0 (alone n g)
  laid =
      record {
        side = lone;
        names = subst (λ (xs : List Imported). NamesDiffer xs) (sym (same_imports n t r right s join)) is.names;
        part = subst (λ (u : Type'). IsPartOf g.plan.outcome 0 u) (outcome ∙ sym join.outcome) (all_of g.plan.outcome);
        joined = λ h low stood.
            (let zeros : 0 + h ≡ h = omega arith in
            is.joined h low (stands_back (ResultEnd h) (subst (λ (m : ℕ). StandsIn s (ResultEnd m)) zeros stood)));
      }

-- A side that is alone in the whole goes on in each list.
module _ (r : Plan) (g : Side) (is : IsLaid r 0 g) (whole : r.outcome ≡ g.plan.outcome) where
  never_beside : (k : ℕ) → k < count r.outcome → ((h : ℕ) → h < count g.plan.outcome → 0 + h ≡ k → ⊥) → ⊥
  never_beside k small apart = let zeros : 0 + k ≡ k = omega arith in apart k (subst (λ (t : Type'). k < count t) whole small) zeros

  record Goes (t : Tokens) (past : List Pass) : Type 0 where
    now : Open
    going : Going r 0 g is t past now

  one_step : (s t : Tokens) (past : List Pass) (o : Open) (x : Element) → Going r 0 g is s past o → Ports r is.side.region.whole_right o past → Does r x s t
      → InputTurns r past x → Next r 0 g is s t past o x
  one_step s t past o x going ports does turn = of_step (step r 0 g is s past o going ports t x does turn)
    where
      of_step : Next r 0 g is s t past o x ⊎ AsksBeside r 0 g is s past o going ports x → Next r 0 g is s t past o x
      of_step (inl next) = next
      of_step (inr (b, v, same, (m, at_b, small, way, apart))) = absurd (never_beside m small apart)

  along : (xs : List Element) (s t : Tokens) (past : List Pass) (o : Open) → Going r 0 g is s past o → Ports r is.side.region.whole_right o past → Runs r xs s t
      → InputsKeepTurns r past xs → Goes t (passed r past xs)
  along [] s t past o going ports same turns = record { now = o; going = subst (λ (x : Tokens). Going r 0 g is x past o) (sym same) going }
  along (x ∷ xs) s t past o going ports (w, does, more) turns =
      let next = one_step s w past o x going ports does (first_turn r past x xs turns) in
      along xs w t (after r x past) next.now next.going
      (ports_after r is.side.region.whole_right x o next.now s w past does next.comes ports) more (later_turns r past x xs turns)

  stays : (s t : Tokens) (xs : List Element) → IsIdle r s → Runs r xs s t → InputsKeepTurns r [] xs → InSide r 0 g is t
  stays s t xs idle runs turns =
      let goes = along xs s t [] none_open (begins r 0 g is s [] none_open idle (λ e. refl) (λ x. refl)) (λ e port up. absurd (cc up)) runs turns in
      goes.going.within

  -- the import of the side that is this one of the whole
  abbrev find : ℕ → ℕ → Option ℕ
  find zero k = None
  find (suc m) k = if nat_eq (import_number r 0 g is m) k then Some m else find m k

  found_one : (m k i : ℕ) → find m k ≡ Some i → (i < m) × (import_number r 0 g is i ≡ k)
  found_one zero k i same = absurd (none-some i same)
  found_one (suc m) k i same = by_test (nat_eq (import_number r 0 g is m) k) refl (found_one m k i) same
    where
      by_test : (b : Bool) → nat_eq (import_number r 0 g is m) k ≡ b → (find m k ≡ Some i → (i < m) × (import_number r 0 g is i ≡ k))
          → (if b then Some m else find m k) ≡ Some i → (i < suc m) × (import_number r 0 g is i ≡ k)
      by_test true t rest same =
          let one : m ≡ i = cc same in
          let here : import_number r 0 g is m ≡ k = grind (arith, t) in
          (omega (arith, one), ap (import_number r 0 g is) (sym one) ∙ here)
      by_test false t rest same = let (low, here) = rest same in (omega (arith, low), here)

  is_found : (m k i : ℕ) → i < m → import_number r 0 g is i ≡ k → ((j : ℕ) → j < m → import_number r 0 g is j ≡ k → j ≡ i) → find m k ≡ Some i
  is_found zero k i low here one = absurd (omega (arith, low))
  is_found (suc m) k i low here one =
      by_test (nat_eq (import_number r 0 g is m) k) refl (λ less. is_found m k i less here (λ j small there. one j (omega (arith, small)) there))
    where
      by_last : nat_eq (import_number r 0 g is m) k ≡ false → (i ≡ m) ⊎ (i ≡ m → ⊥) → i < m
      by_last t (inr apart) = omega (arith, low, apart)
      by_last t (inl same) =
          let there : import_number r 0 g is m ≡ k = ap (import_number r 0 g is) (sym same) ∙ here in
          let clash : ⊥ = grind (arith, t, there) in absurd clash

      by_test : (b : Bool) → nat_eq (import_number r 0 g is m) k ≡ b → (i < m → find m k ≡ Some i) → (if b then Some m else find m k) ≡ Some i
      by_test true t rest = let there : import_number r 0 g is m ≡ k = grind (arith, t) in ap Some (one m (omega arith) there)
      by_test false t rest = rest (by_last t (told_same i m))

  abbrev core : Core
  core =
      record {
        part = g.cut.part;
        number = g.cut.number;
        import = import_number r 0 g is;
        origin = find (length g.plan.imports);
      }

  import_here : (i : ℕ) → i < length g.plan.imports → (x : Imported) × (slice_get g.plan.imports i ≡ Some x)
  import_here i low = there_at g.plan.imports i low
    where
      there_at : (xs : List Imported) (i : ℕ) → i < length xs → (x : Imported) × (slice_get xs i ≡ Some x)
      there_at [] i low = absurd (omega (arith, low))
      there_at (x ∷ xs) zero low = (x, refl)
      there_at (x ∷ xs) (suc i) low = there_at xs i (omega (arith, low))

  one_number : (i j : ℕ) (x y : Imported) → slice_get g.plan.imports i ≡ Some x → slice_get g.plan.imports j ≡ Some y
      → import_number r 0 g is i ≡ import_number r 0 g is j → i ≡ j
  one_number i j x y here there same =
      let one : x ≡ y = same_Some x y (sym (import_there r 0 g is i x here) ∙ (ap (slice_get r.imports) same ∙ import_there r 0 g is j y there)) in
      one_place g.plan.imports is.side.names i j x here (there ∙ ap Some (sym one))

  core_lies : (e : End) → Owns g.plan e → lies_at g.cut e ≡ core_end core e
  core_lies e own = at_lies r 0 g is e own ∙ at_core e
    where
      at_core : (e : End) → at r 0 g is e ≡ core_end core e
      at_core (PartEnd i h) = refl
      at_core (ImportEnd i h) = refl
      at_core (ResultEnd h) = let zeros : 0 + h ≡ h = omega arith in ap ResultEnd zeros

  owns : (a b : End) → Contains g.plan.joints (joint a b) → Owns g.plan a × Owns g.plan b
  owns a b here =
      let is_in = contained g.plan.joints (joint a b) here in
      (stands_own g.plan (joint a b) a is.side.region.right is_in (asking_stands (joint a b)), stands_own g.plan (joint a b) b is.side.region.right is_in (serving_stands (joint a b)))

  is_core : IsCore core r g.plan
  is_core =
      record {
        right = is.side.region.whole_right;
        also_right = is.side.region.right;
        outcome = whole;
        parts = is.side.region.parts;
        numbers = is.side.region.numbers;
        imports = λ i x here. (
          import_there r 0 g is i x here,
          is_found (length g.plan.imports) (import_number r 0 g is i) i (slice_get_within g.plan.imports i x here) refl
              (λ j low same. (let (y, there) = import_here j low in one_number j i y x there here same)),
        );
        origins = λ k i same. (let (low, here) = found_one (length g.plan.imports) k i same in (here, import_here i low));
        joints = λ a b here.
            (let (first, last) = owns a b here in
            subst (λ (x : Joint). Contains r.joints x) (λ l. joint (core_lies a first l) (core_lies b last l)) (is.side.region.joints a b here));
      }

  is_still : IsStill core r g.plan
  is_still s t xs a b way idle runs turns (here, dead) = by_held (t.in_place way a) refl
    where
      of_joint : (d : End) → asks_in g.plan.joints d ≡ true → lies_at g.cut d ≡ a → ⊥
      of_joint d asks lies = dead one.joint.asking one.joint.serving own (sym (core_lies one.joint.asking both.0) ∙ at_a) (sym (core_lies one.joint.serving both.1) ∙ at_b)
        where
          one : Asked g.plan.joints d
          one = asks_one g.plan.joints d asks

          own : Contains g.plan.joints (joint one.joint.asking one.joint.serving)
          own = listed g.plan.joints one.joint one.is_in

          both : Owns g.plan one.joint.asking × Owns g.plan one.joint.serving
          both = owns one.joint.asking one.joint.serving own

          at_a : lies_at g.cut one.joint.asking ≡ a
          at_a = ap (lies_at g.cut) (sym one.asker) ∙ lies

          whole_joint : Joint
          whole_joint = joint (lies_at g.cut one.joint.asking) (lies_at g.cut one.joint.serving)

          same : whole_joint ≡ joint a b
          same =
              one_joint r [] r.joints whole_joint (joint a b) a is.side.region.whole_right
              (contained r.joints whole_joint (is.side.region.joints one.joint.asking one.joint.serving own)) (contained r.joints (joint a b) here)
              (stands_by a whole_joint (inl (sym at_a))) (asking_stands (joint a b))

          at_b : lies_at g.cut one.joint.serving ≡ b
          at_b = ap (λ (x : Joint). x.serving) same

      by_held : (o : Option ℕ) → t.in_place way a ≡ o → t.in_place way a ≡ None
      by_held None none = none
      by_held (Some v) held = let (d, asks, lies) = stays s t xs idle runs turns way a v held in absurd (of_joint d asks lies)

  pub still_core : IsStillCore r g.plan
  still_core = (core, is_core, is_still)

side_core : (n : ℕ) (t : Type') (r : Plan) (g : Side) → IsLaid r n g → g.plan.outcome ≡ t → (s : Plan) → IsJoining (side n t r) s → IsStillCore s g.plan
side_core n t r g is outcome s join = still_core s (alone n g) (laid n t r g is outcome s join) (join.outcome ∙ sym outcome)

pub sides_are_cores : SidesAreCores
sides_are_cores a b r g e both = (
  λ s joined. side_core 0 a r g (first_laid a b r g e both) both.first_type s joined.joining,
  λ s joined. side_core (count a) b r e (second_laid a b r g e both) both.second_type s joined.joining,
)
