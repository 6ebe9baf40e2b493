-- The instances of a linked build have an order in which each giver stands lower than its user.
use Rattle.std.specs.Prelude.{◌≡◌, ◌<◌, ◌-◌, ℕ, zero, suc, Bool, true, false, List, [], ◌∷◌, length, map, Some, slice_get}
use Rattle.std.proofs.Common.{refl, arith, subst, inl, inr}
use Rattle.std.proofs.lemmas.Bool.{ltb-true, lt-ltb}
use lib.Dec.{ltb}
use Rattle.gos_plan.specs.Plans.{Plan}
use Rattle.gos_link.specs.declared.services.Service.{Service}
use Rattle.gos_link.specs.Services.{HasService}
use Rattle.gos_linked.proofs.linked.ChainLemmas.{Below, IsRooted, reached, same_level, user_low, giver_low}
use Rattle.gos_witness.specs.declared.binding.Bound.{Bound}
use Rattle.gos_witness.specs.Substituted.{AreOrdered}
use Rattle.gos_tool.specs.explained.LinkedModules.{bound_of}

-- a bind is one of a service
of_service : (ss : List Service) (i : ℕ) (b : Bound) → slice_get (map bound_of ss) i ≡ Some b → (s : Service) × HasService ss s × (bound_of s ≡ b)
of_service [] i b e = absurd (cc e)
of_service (s ∷ ss) zero b e = (s, inl refl, cc e)
of_service (s ∷ ss) (suc i) b e = let (t, has, is) = of_service ss i b e in (t, inr has, is)

module _ (ps : List Plan) (ss : List Service) (root : ℕ) (rooted : IsRooted ps ss root) where
  -- how many services lead from an instance up to the root; 0 for a number of none
  depth_if : (k : ℕ) (b : Bool) → ltb k (length ps) ≡ b → ℕ
  depth_if k true test = (reached ps ss root rooted k (ltb-true k (length ps) test)).0
  depth_if k false test = 0

  depth : ℕ → ℕ
  depth k = depth_if k (ltb k (length ps)) refl

  depth_is : (k i : ℕ) → k < length ps → Below ss i k root → depth k ≡ i
  unfolding depth_if depth
  depth_is k i low up = by_test (ltb k (length ps)) refl
    where
      by_test : (b : Bool) (test : ltb k (length ps) ≡ b) → depth_if k b test ≡ i
      by_test true test =
          let (j, small, leads) = reached ps ss root rooted k (ltb-true k (length ps) test) in
          same_level ps ss rooted.sound j i k root leads up
      by_test false test = let there = lt-ltb k (length ps) low in absurd (cc (there, test))

  rank : ℕ → ℕ
  rank k = length ps - depth k

  giver_is_lower : (s : Service) → HasService ss s → rank s.giver < rank s.user
  unfolding rank
  giver_is_lower s has =
      let (i, small, up) = reached ps ss root rooted s.user (user_low ps ss root rooted s has) in
      let low = giver_low ps ss root rooted s has in
      let (j, less, leads) = reached ps ss root rooted s.giver low in
      let one : j ≡ suc i = same_level ps ss rooted.sound j (suc i) s.giver root leads (s, has, refl, up) in
      let user : depth s.user ≡ i = depth_is s.user i (user_low ps ss root rooted s has) up in
      let giver : depth s.giver ≡ suc i = depth_is s.giver (suc i) low (s, has, refl, up) in
      omega (arith, one, less, small, user, giver)

  pub are_ordered : AreOrdered (map bound_of ss)
  are_ordered =
      record {
        rank = rank;
        lower = λ i b at.
            let (s, has, is) = of_service ss i b at in subst (λ (c : Bound). rank c.giver < rank c.user) is (giver_is_lower s has);
      }
