-- A web has a plan: of the pairs of ends those that a way connects, one after another.
use Rattle.std.specs.Prelude.{◌≡◌, ℕ, ◌&&◌, Bool, true, false, not, IsTrue, List, [], ◌∷◌, ◌⊎◌, Option, Some, None, Contains}
use Rattle.std.proofs.Common.{refl, sym, ◌∙◌, ap, subst, inl, inr}
use Rattle.std.proofs.lemmas.Option.{none-some, same_Some}
use Rattle.gos_types.specs.declared.shakes.Role.{Role}
use Rattle.gos_types.specs.declared.shakes.Role.TheVariants.{Serve, Ask}
use Rattle.gos_plan.specs.Kinds.{Contact, asks, serves, turned_contact}
use Rattle.gos_plan.specs.Plans.{End, PartEnd, ImportEnd, ResultEnd, Joint, Plan, contact_at, stands_in, is_free, Fits, AreRight}
use Rattle.gos_plan.proofs.JointLemmas.{IsIn, contained, which_end}
use Rattle.gos_plan.proofs.ContactLemmas.{as_asks, serves_is_not_asks}
use Rattle.gos_joining.specs.webs.Webs.{Web, Way, Connects, WaysFit, joint, IsOfWeb}
use Rattle.gos_joining.proofs.webs.MovedLemmas.{listed}
use Rattle.gos_joining.proofs.webs.WayLemmas.{way_back}
use Rattle.gos_joining.specs.weaving.Woven.{IsPlain, WebHasPlan}
use Rattle.gos_joining.proofs.weaving.DotLemmas.{Decided, one_end}
use Rattle.gos_joining.proofs.weaving.CrossingLemmas.{decided_way}
use Rattle.gos_joining.proofs.weaving.EndLemmas.{ends_of, there, pairs, pair}

serving : (k : Contact) (q v : ℕ) → k.role ≡ Serve → k ≡ asks q v → ⊥
serving k q v is asked = let h : Serve ≡ Ask = sym is ∙ ap (λ (c : Contact). c.role) asked in cc h

-- an end that stands in a joint of these stands in one of them
record Held (js : List Joint) (e : End) : Type 0 where
  by : Joint
  is_in : IsIn by js
  stands : stands_in e by ≡ true

held : (js : List Joint) (e : End) → is_free e js ≡ false → Held js e
held [] e h = let bad : true ≡ false = h in absurd (cc bad)
held (j ∷ js) e h = by_test (stands_in e j) refl (λ rest. held js e rest)
  where
    later : Held js e → Held (j ∷ js) e
    later x = record { by = x.by; is_in = inr x.is_in; stands = x.stands }

    by_test : (b : Bool) → stands_in e j ≡ b → (is_free e js ≡ false → Held js e) → Held (j ∷ js) e
    by_test true t further = record { by = j; is_in = inl refl; stands = t }
    by_test false t further = later (further (sym (ap (λ (b : Bool). not b && is_free e js) t) ∙ h))

module _
    (v : Web) (c : Plan) (fits : WaysFit v c) (plain : IsPlain v c) where
  -- it is decided whether the web connects two ends
  when_way : (a b : End) (k l : Contact)
      → contact_at c a ≡ Some k → k.role ≡ Ask → contact_at c b ≡ Some l → Decided (a ≡ b) → Decided (Way v.ties (v.at a) (v.at b)) → Decided (Connects v c a b)
  when_way a b k l at_a asked at_b (inl same) way =
      inr (λ (con : Connects v c a b). serves_is_not_asks con.0 con.1 con.0 con.1 (sym con.3 ∙ (ap (contact_at c) (sym same) ∙ con.2)))
  when_way a b k l at_a asked at_b (inr differ) (inr never) = inr (λ (con : Connects v c a b). never con.4)
  when_way a b k l at_a asked at_b (inr differ) (inl way) =
      let is = as_asks k asked in
      inl (k.ask_bits, k.answer_bits, at_a ∙ ap Some is, at_b ∙ ap Some (fits a b k l at_a at_b differ way ∙ ap turned_contact is), way)

  when_there : (a b : End) (k : Contact) (o : Option Contact) → contact_at c a ≡ Some k → k.role ≡ Ask → contact_at c b ≡ o → Decided (Connects v c a b)
  when_there a b k None at_a asked at_b = inr (λ (con : Connects v c a b). none-some (serves con.0 con.1) (sym at_b ∙ con.3))
  when_there a b k (Some l) at_a asked at_b =
      when_way a b k l at_a asked at_b (one_end a b) (decided_way v.ties (v.at a) (v.at b))

  when_asked : (a b : End) (k : Contact) (r : Role) → contact_at c a ≡ Some k → k.role ≡ r → Decided (Connects v c a b)
  when_asked a b k Serve at_a served =
      inr (λ (con : Connects v c a b). serving k con.0 con.1 served (same_Some k (asks con.0 con.1) (sym at_a ∙ con.2)))
  when_asked a b k Ask at_a asked = when_there a b k (contact_at c b) at_a asked refl

  when_here : (a b : End) (o : Option Contact) → contact_at c a ≡ o → Decided (Connects v c a b)
  when_here a b None at_a = inr (λ (con : Connects v c a b). none-some (asks con.0 con.1) (sym at_a ∙ con.2))
  when_here a b (Some k) at_a = when_asked a b k k.role at_a refl

  connected : (a b : End) → Decided (Connects v c a b)
  connected a b = when_here a b (contact_at c a) refl

  -- a joint that has an end with another is that
  abbrev Connected : Joint → Type 0
  Connected j = Connects v c j.asking j.serving

  differ : (a b : End) (q w m n : ℕ) → contact_at c a ≡ Some (asks q w) → contact_at c b ≡ Some (serves m n) → a ≡ b → ⊥
  differ a b q w m n asked served same = serves_is_not_asks m n q w (sym served ∙ (ap (contact_at c) (sym same) ∙ asked))

  same_asking : (j k : Joint) → Connected j → Connected k → j.asking ≡ k.asking → j ≡ k
  same_asking j k one other same =
      let moved : Connects v c j.asking k.serving = subst (λ (x : End). Connects v c x k.serving) (sym same) other in
      let far : j.serving ≡ k.serving =
      plain j.asking j.serving k.serving (asks one.0 one.1) (serves one.0 one.1) (serves moved.0 moved.1) one.2 one.3 moved.3
      (differ j.asking j.serving one.0 one.1 one.0 one.1 one.2 one.3)
      (differ j.asking k.serving one.0 one.1 moved.0 moved.1 one.2 moved.3)
      one.4 moved.4 in
      λ i. joint (same i) (far i)

  same_serving : (j k : Joint) → Connected j → Connected k → j.serving ≡ k.serving → j ≡ k
  same_serving j k one other same =
      let moved : Connects v c k.asking j.serving = subst (λ (x : End). Connects v c k.asking x) (sym same) other in
      let far : j.asking ≡ k.asking =
      plain j.serving j.asking k.asking (serves one.0 one.1) (asks one.0 one.1) (asks moved.0 moved.1) one.3 one.2 moved.2
      (λ is. differ j.asking j.serving one.0 one.1 one.0 one.1 one.2 one.3 (sym is))
      (λ is. differ k.asking j.serving moved.0 moved.1 one.0 one.1 moved.2 one.3 (sym is))
      (way_back v.ties (v.at j.asking) (v.at j.serving) one.4)
      (way_back v.ties (v.at k.asking) (v.at j.serving) moved.4) in
      λ i. joint (far i) (same i)

  asking_held : (j k : Joint) → Connected j → Connected k → (j.asking ≡ k.asking) ⊎ (j.asking ≡ k.serving) → j ≡ k
  asking_held j k one other (inl same) = same_asking j k one other same
  asking_held j k one other (inr same) = absurd (differ j.asking k.serving one.0 one.1 other.0 other.1 one.2 other.3 same)

  serving_held : (j k : Joint) → Connected j → Connected k → (j.serving ≡ k.asking) ⊎ (j.serving ≡ k.serving) → j ≡ k
  serving_held j k one other (inl same) = absurd (differ k.asking j.serving other.0 other.1 one.0 one.1 other.2 one.3 (sym same))
  serving_held j k one other (inr same) = same_serving j k one other same

  -- the joints of these pairs, after those
  record Gathered (before xs : List Joint) : Type 0 where
    joints : List Joint
    right : AreRight c before joints
    are : (j : Joint) → IsIn j joints → Connected j
    all : (j : Joint) → IsIn j xs → Connected j → IsIn j joints ⊎ IsIn j before

  abbrev AreConnected : List Joint → Type 0
  AreConnected js = (j : Joint) → IsIn j js → Connected j

  -- a pair that adds none
  passed : (before xs : List Joint) (x : Joint) → (Connected x → IsIn x before) → Gathered before xs → Gathered before (x ∷ xs)
  passed before xs x known rest =
      record { joints = rest.joints; right = rest.right; are = rest.are; all = all }
    where
      all : (j : Joint) → IsIn j (x ∷ xs) → Connected j → IsIn j rest.joints ⊎ IsIn j before
      all j (inl is) con =
          inr (subst (λ (y : Joint). IsIn y before) (sym is) (known (subst (λ (y : Joint). Connected y) is con)))
      all j (inr later) con = rest.all j later con

  -- a pair that is a joint
  added : (before xs : List Joint) (x : Joint) → Connected x → IsTrue (is_free x.asking before) → IsTrue (is_free x.serving before) → Gathered (x ∷ before) xs → Gathered before (x ∷ xs)
  added before xs x con first last rest =
      record { joints = x ∷ rest.joints; right = (((con.0, con.1, con.2, con.3), first, last), rest.right); are = are; all = all }
    where
      are : (j : Joint) → IsIn j (x ∷ rest.joints) → Connected j
      are j (inl is) = subst (λ (y : Joint). Connected y) (sym is) con
      are j (inr later) = rest.are j later

      onto : (j : Joint) → IsIn j rest.joints ⊎ IsIn j (x ∷ before) → IsIn j (x ∷ rest.joints) ⊎ IsIn j before
      onto j (inl h) = inl (inr h)
      onto j (inr (inl is)) = inl (inl is)
      onto j (inr (inr old)) = inr old

      all : (j : Joint) → IsIn j (x ∷ xs) → Connected j → IsIn j (x ∷ rest.joints) ⊎ IsIn j before
      all j (inl is) its = inl (inl is)
      all j (inr later) its = onto j (rest.all j later its)

  with_one : (before : List Joint) (x : Joint) → AreConnected before → Connected x → AreConnected (x ∷ before)
  with_one before x old con j (inl is) = subst (λ (y : Joint). Connected y) (sym is) con
  with_one before x old con j (inr later) = old j later

  when_free : (before xs : List Joint) (x : Joint) → AreConnected before → Connected x → (b d : Bool) → is_free x.asking before ≡ b → is_free x.serving before ≡ d
      → ((bs : List Joint) → AreConnected bs → Gathered bs xs) → Gathered before (x ∷ xs)
  when_free before xs x old con true true first last further =
      added before xs x con first last (further (x ∷ before) (with_one before x old con))
  when_free before xs x old con true false first last further =
      let h = held before x.serving last in
      let same = serving_held x h.by con (old h.by h.is_in) (which_end x.serving h.by h.stands) in
      passed before xs x (λ its. subst (λ (y : Joint). IsIn y before) (sym same) h.is_in) (further before old)
  when_free before xs x old con false d first last further =
      let h = held before x.asking first in
      let same = asking_held x h.by con (old h.by h.is_in) (which_end x.asking h.by h.stands) in
      passed before xs x (λ its. subst (λ (y : Joint). IsIn y before) (sym same) h.is_in) (further before old)

  when_connected : (before xs : List Joint) (x : Joint) → AreConnected before → Decided (Connected x)
      → ((bs : List Joint) → AreConnected bs → Gathered bs xs) → Gathered before (x ∷ xs)
  when_connected before xs x old (inl con) further =
      when_free before xs x old con (is_free x.asking before) (is_free x.serving before) refl refl further
  when_connected before xs x old (inr never) further = passed before xs x (λ con. absurd (never con)) (further before old)

  gathered : (xs before : List Joint) → AreConnected before → Gathered before xs
  gathered [] before old =
      record { joints = []; right = tt; are = λ j h. absurd h; all = λ j h con. absurd h }
  gathered (x ∷ xs) before old = when_connected before xs x old (connected x.asking x.serving) (λ bs olds. gathered xs bs olds)

  -- with these joints
  module _
      (js : List Joint) where
    abbrev p : Plan
    p = record c { joints = js }

    same_contact : (e : End) → contact_at p e ≡ contact_at c e
    same_contact (PartEnd i h) = refl
    same_contact (ImportEnd i h) = refl
    same_contact (ResultEnd h) = refl

    fits_there : (j : Joint) → Fits c j → Fits p j
    fits_there j (q, m, asked, served) = (q, m, same_contact j.asking ∙ asked, same_contact j.serving ∙ served)

    right_there : (ks before : List Joint) → AreRight c before ks → AreRight p before ks
    right_there [] before right = tt
    right_there (k ∷ ks) before ((fit, first, last), rest) = ((fits_there k fit, first, last), right_there ks (k ∷ before) rest)

    connects_there : (a b : End) → Connects v c a b → Connects v p a b
    connects_there a b (q, m, asked, served, way) = (q, m, same_contact a ∙ asked, same_contact b ∙ served, way)

    connects_here : (a b : End) → Connects v p a b → Connects v c a b
    connects_here a b (q, m, asked, served, way) = (q, m, sym (same_contact a) ∙ asked, sym (same_contact b) ∙ served, way)

    ways_fit : WaysFit v p
    ways_fit a b k l at_a at_b differs way =
        fits a b k l (sym (same_contact a) ∙ at_a) (sym (same_contact b) ∙ at_b) differs way

    not_before : (j : Joint) → IsIn j js ⊎ IsIn j [] → IsIn j js
    not_before j (inl h) = h
    not_before j (inr none) = absurd none

    of_web : (right : AreRight c [] js) → ((j : Joint) → IsIn j js → Connected j) → ((j : Joint) → IsIn j (pairs (ends_of c) (ends_of c)) → Connected j → IsIn j js ⊎ IsIn j []) → IsOfWeb v p
    of_web right are all =
        record {
          right = right_there js [] right;
          fits = ways_fit;
          joints = λ a b. (λ has. connects_there a b (are (joint a b) (contained js (joint a b) has)), to_joint a b);
        }
      where
        to_joint : (a b : End) → Connects v p a b → Contains js (joint a b)
        to_joint a b con =
            let here = connects_here a b con in
            listed js (joint a b)
            (not_before (joint a b)
            (all (joint a b)
            (pair a b (ends_of c) (ends_of c) (there c a (asks here.0 here.1) here.2) (there c b (serves here.0 here.1) here.3))
            here))

  pub woven : (js : List Joint) × IsOfWeb v (record c { joints = js })
  woven =
      let g = gathered (pairs (ends_of c) (ends_of c)) [] (λ j none. absurd none) in
      (g.joints, of_web g.joints g.right g.are g.all)

pub web_has_plan : WebHasPlan
web_has_plan v c fits plain = woven v c fits plain
