-- A child that shares nothing is asked where an import of it asks: no other part of the node has an end of that import.
use Rattle.std.specs.Prelude.{slice_get, Contains}
use Rattle.std.proofs.Common.{◌≡◌, ℕ, suc, ◌⊎◌, Some, inl, inr, refl, sym, ◌∙◌, ap, subst}
use Rattle.gos_types.specs.Types.{IsDone}
use Rattle.gos_plan.specs.Plans.{End, PartEnd, ImportEnd, ResultEnd, Plan, IsRight}
use Rattle.gos_plan.proofs.JointLemmas.{asking_stands, serving_stands, which_end}
use Rattle.gos_realises.specs.realises.Realises.{NamesDiffer, HaveOtherNames}
use Rattle.gos_realises.proofs.realises.InputLemmas.{result_asks}
use Rattle.gos_realises.proofs.realises.PlaceLemmas.{contains_at}
use Rattle.gos_realises.proofs.realises.ToldLemmas.{there_is}
use Rattle.gos_joining.specs.webs.Webs.{joint}
use Rattle.gos_joining.specs.webs.Cutting.{Cut, lies_at, StandsIn}
use Rattle.gos_nodes.specs.windows.OpenNodes.{IsHeard}
use Rattle.gos_nodes.proofs.windows.PortLemmas.{stands_contact, one_place}
use Rattle.gos_nodes.specs.parallel.Parallel.{IsJointOf, IsSide, IsParallel}
use Rattle.gos_nodes.specs.blocks.Servers.{run_of}
use Rattle.gos_nodes.specs.blocks.Block.{Block, IsBlock}
use Rattle.gos_terms.specs.regions.Frames.{KeepsImports}

-- an end of an import of the whole that is an end of a region
abbrev Other : Cut → Plan → ℕ → ℕ → Type 0
Other f c k n = (m : ℕ) × StandsIn c (ImportEnd m n) × (f.outer (ImportEnd m n) ≡ ImportEnd k n)

module _
    (f : Cut) (r c : Plan) (right : IsRight c) (names : NamesDiffer c.imports) (keeps : KeepsImports f)
    (ports : (i h k : ℕ) → StandsIn c (ImportEnd i h) → f.outer (ImportEnd i h) ≡ ImportEnd k h → slice_get c.imports i ≡ slice_get r.imports k)
    (own : (i h k n : ℕ) → StandsIn c (ImportEnd i h) → f.outer (ImportEnd i h) ≡ ImportEnd k h → StandsIn r (ImportEnd k n) → Other f c k n) where
  pub heard_by : IsHeard f r c
  heard_by i h n k x stands at contact asks = (keeps i h k n at, back)
    where
      back : StandsIn r (ImportEnd k n) → StandsIn c (ImportEnd i n)
      back there =
          let (m, also, at_m) = own i h k n stands at there in
          let (y, is_y) = stands_contact c right (ImportEnd i h) stands in
          let (z, is_z) = there_is c.imports i h y is_y in
          let same : m ≡ i = one_place c.imports names m i z (ports m n k also at_m ∙ (sym (ports i h k stands at) ∙ is_z)) is_z in
          subst (λ (a : ℕ). StandsIn c (ImportEnd a n)) same also

-- an end of a joint of a region that lies at an end of an import
of_end : (f : Cut) (c : Plan) (k n : ℕ)
    → ((m q : ℕ) → StandsIn c (ImportEnd m q) → f.outer (ImportEnd m q) ≡ ImportEnd k n → q ≡ n)
    → ((q : ℕ) → StandsIn c (ResultEnd q) → f.outer (ResultEnd q) ≡ ImportEnd k n → ⊥)
    → (e : End) → StandsIn c e → lies_at f e ≡ ImportEnd k n → Other f c k n
of_end f c k n shakes result (PartEnd i h) stands lies = absurd (cc lies)
of_end f c k n shakes result (ImportEnd m q) stands lies =
    let same = shakes m q stands lies in
    (m, subst (λ (x : ℕ). StandsIn c (ImportEnd m x)) same stands, subst (λ (x : ℕ). f.outer (ImportEnd m x) ≡ ImportEnd k n) same lies)
of_end f c k n shakes result (ResultEnd q) stands lies = absurd (result q stands lies)

of_joint : (f : Cut) (c : Plan) (k n : ℕ)
    → ((m q : ℕ) → StandsIn c (ImportEnd m q) → f.outer (ImportEnd m q) ≡ ImportEnd k n → q ≡ n)
    → ((q : ℕ) → StandsIn c (ResultEnd q) → f.outer (ResultEnd q) ≡ ImportEnd k n → ⊥)
    → (a b : End) → IsJointOf f c a b → (ImportEnd k n ≡ a) ⊎ (ImportEnd k n ≡ b) → Other f c k n
of_joint f c k n shakes result a b (x, y, has, at_x, at_y) (inl is) =
    of_end f c k n shakes result x (joint x y, has, asking_stands (joint x y)) (at_x ∙ sym is)
of_joint f c k n shakes result a b (x, y, has, at_x, at_y) (inr is) =
    of_end f c k n shakes result y (joint x y, has, serving_stands (joint x y)) (at_y ∙ sym is)

-- a side of `||`
module _ (d h : ℕ) (f : Cut) (r p : Plan) (side : IsSide d h f r p) where
  side_import : (i s k : ℕ) → StandsIn p (ImportEnd i s) → f.outer (ImportEnd i s) ≡ ImportEnd k s → slice_get p.imports i ≡ slice_get r.imports k
  side_import i s k stands at =
      let (j, at_j, same) = side.imports i s stands in
      let both : ImportEnd j s ≡ ImportEnd k s = sym at_j ∙ at in
      let one : j ≡ k = cc both in
      same ∙ ap (slice_get r.imports) one

  side_shake : (k n m q : ℕ) → StandsIn p (ImportEnd m q) → f.outer (ImportEnd m q) ≡ ImportEnd k n → q ≡ n
  side_shake k n m q stands at =
      let (j, at_j, same) = side.imports m q stands in
      let both : ImportEnd j q ≡ ImportEnd k n = sym at_j ∙ at in cc both

  side_result : (k n q : ℕ) → StandsIn p (ResultEnd q) → f.outer (ResultEnd q) ≡ ImportEnd k n → ⊥
  side_result k n q stands at =
      let (c, there) = stands_contact p side.cut.right (ResultEnd q) stands in
      let zero_is = (result_asks p.outcome (subst IsDone (sym side.outcome) tt) q c there).0 in
      let clash : PartEnd d h ≡ ImportEnd k n = sym side.result ∙ (ap (λ (x : ℕ). f.outer (ResultEnd x)) (sym zero_is) ∙ at) in cc clash

  side_other : (k n : ℕ) (a b : End) → IsJointOf f p a b → (ImportEnd k n ≡ a) ⊎ (ImportEnd k n ≡ b) → Other f p k n
  side_other k n a b of which = of_joint f p k n (side_shake k n) (side_result k n) a b of which

abbrev OfSides : Cut → Cut → Plan → Plan → ℕ → End → End → Type 0
OfSides f g p q d a b = (IsJointOf f p a b ⊎ IsJointOf g q a b) ⊎ ((a ≡ ResultEnd 0) × (b ≡ PartEnd d 2))

side_heard : (d h s : ℕ) (f g : Cut) (r p q : Plan) → IsSide d h f r p → IsSide d s g r q → NamesDiffer p.imports → HaveOtherNames p.imports q.imports
    → KeepsImports f → ((a b : End) → Contains r.joints (joint a b) → OfSides f g p q d a b) → IsHeard f r p
side_heard d h s f g r p q side other names apart keeps joints =
    heard_by f r p side.cut.right names keeps (side_import d h f r p side) own
  where
    own : (i e k n : ℕ) → StandsIn p (ImportEnd i e) → f.outer (ImportEnd i e) ≡ ImportEnd k e → StandsIn r (ImportEnd k n) → Other f p k n
    own i e k n stands at (j, has, there) = by_joint (joints j.asking j.serving has) (which_end (ImportEnd k n) j there)
      where
        not_other : Other g q k n → ⊥
        not_other (m, also, at_m) =
            let (y, is_y) = stands_contact p side.cut.right (ImportEnd i e) stands in
            let (z, is_z) = there_is p.imports i e y is_y in
            let there_q : slice_get q.imports m ≡ Some z = side_import d s g r q other m n k also at_m ∙ (sym (side_import d h f r p side i e k stands at) ∙ is_z) in
            apart z z (contains_at p.imports i z is_z) (contains_at q.imports m z there_q) refl

        by_joint : OfSides f g p q d j.asking j.serving → (ImportEnd k n ≡ j.asking) ⊎ (ImportEnd k n ≡ j.serving) → Other f p k n
        by_joint (inl (inl of)) which = side_other d h f r p side k n j.asking j.serving of which
        by_joint (inl (inr of)) which = absurd (not_other (side_other d s g r q other k n j.asking j.serving of which))
        by_joint (inr (first, last)) (inl is) = let clash : ImportEnd k n ≡ ResultEnd 0 = is ∙ first in absurd (cc clash)
        by_joint (inr (first, last)) (inr is) = let clash : ImportEnd k n ≡ PartEnd d 2 = is ∙ last in absurd (cc clash)

-- so both sides of `||` are
pub sides_heard : (d : ℕ) (f g : Cut) (r p q : Plan) → IsParallel d f g r p q → NamesDiffer p.imports → NamesDiffer q.imports → KeepsImports f → KeepsImports g
    → IsHeard f r p × IsHeard g r q
sides_heard d f g r p q is left_names right_names left_keeps right_keeps = (
  side_heard d 0 1 f g r p q is.left is.right left_names is.names left_keeps is.joints,
  side_heard d 1 0 g f r q p is.right is.left right_names (λ i j of_i of_j same. is.names j i of_j of_i (sym same)) right_keeps (λ a b has. turned a b (is.joints a b has)),
)
  where
    turned : (a b : End) → OfSides f g p q d a b → OfSides g f q p d a b
    turned a b (inl (inl one)) = inl (inr one)
    turned a b (inl (inr one)) = inl (inl one)
    turned a b (inr run) = inr run

-- the body of a block
module _ (r : Plan) (b : Block) (is : IsBlock r b) where
  -- an import that leads to one of the whole isn't the variable
  not_place : (i h k n : ℕ) → b.cut.outer (ImportEnd i h) ≡ ImportEnd k n → i ≡ b.place → ⊥
  not_place i h k n at same =
      let clash : PartEnd b.own (suc h) ≡ ImportEnd k n = sym (is.served h) ∙ (ap (λ (x : ℕ). b.cut.outer (ImportEnd x h)) (sym same) ∙ at) in cc clash

  body_import : (i h k : ℕ) → StandsIn b.body (ImportEnd i h) → b.cut.outer (ImportEnd i h) ≡ ImportEnd k h → slice_get b.body.imports i ≡ slice_get r.imports k
  body_import i h k stands at =
      let (j, at_j, same) = is.imports i h (not_place i h k h at) stands in
      let both : ImportEnd j h ≡ ImportEnd k h = sym at_j ∙ at in
      let one : j ≡ k = cc both in
      same ∙ ap (slice_get r.imports) one

  body_shake : (k n m q : ℕ) → StandsIn b.body (ImportEnd m q) → b.cut.outer (ImportEnd m q) ≡ ImportEnd k n → q ≡ n
  body_shake k n m q stands at =
      let (j, at_j, same) = is.imports m q (not_place m q k n at) stands in
      let both : ImportEnd j q ≡ ImportEnd k n = sym at_j ∙ at in cc both

  body_result : (k n q : ℕ) → StandsIn b.body (ResultEnd q) → b.cut.outer (ResultEnd q) ≡ ImportEnd k n → ⊥
  body_result k n q stands at =
      let (c, there) = stands_contact b.body is.cut.right (ResultEnd q) stands in
      let zero_is = (result_asks b.body.outcome (subst IsDone (sym is.outcome) is.done) q c there).0 in
      let clash : PartEnd b.own 0 ≡ ImportEnd k n = sym is.result ∙ (ap (λ (x : ℕ). b.cut.outer (ResultEnd x)) (sym zero_is) ∙ at) in cc clash

  pub body_heard : NamesDiffer b.body.imports → KeepsImports b.cut → IsHeard b.cut r b.body
  body_heard names keeps = heard_by b.cut r b.body is.cut.right names keeps body_import own
    where
      own : (i e k n : ℕ) → StandsIn b.body (ImportEnd i e) → b.cut.outer (ImportEnd i e) ≡ ImportEnd k e → StandsIn r (ImportEnd k n) → Other b.cut b.body k n
      own i e k n stands at (j, has, there) = by_joint (is.joints j.asking j.serving has) (which_end (ImportEnd k n) j there)
        where
          by_joint : IsJointOf b.cut b.body j.asking j.serving ⊎ ((j.asking ≡ ResultEnd 0) × (j.serving ≡ PartEnd b.own (run_of b.server)))
              → (ImportEnd k n ≡ j.asking) ⊎ (ImportEnd k n ≡ j.serving) → Other b.cut b.body k n
          by_joint (inl of) which = of_joint b.cut b.body k n (body_shake k n) (body_result k n) j.asking j.serving of which
          by_joint (inr (first, last)) (inl is) = let clash : ImportEnd k n ≡ ResultEnd 0 = is ∙ first in absurd (cc clash)
          by_joint (inr (first, last)) (inr is) = let clash : ImportEnd k n ≡ PartEnd b.own (run_of b.server) = is ∙ last in absurd (cc clash)
