-- Where the branches of a fork are, which of the node's parts are theirs, and the children that they are.
use Rattle.std.specs.Prelude.{◌+◌, ◌-◌, ◌<◌, ◌≤◌, ◌≢◌, ◌⊎◌, length, nat_lt, slice_get, Contains}
use Rattle.std.proofs.Common.{◌≡◌, ℕ, zero, suc, Bool, true, false, List, [], ◌∷◌, ◌++◌, Some, inl, inr, refl, sym, ◌∙◌, ap, subst, arith}
use Rattle.std.proofs.lemmas.Bool.Decides.{nat_tests}
use Rattle.std.proofs.lemmas.List.{append_assoc, append-nil, length-append}
use Rattle.std.proofs.lemmas.Option.{slice_get_within}
use Rattle.gos_check.specs.declared.linear.Split.{Split}
use Rattle.gos_check.specs.Linearity.{times}
use Rattle.gos_check.proofs.TimesLemmas.{times-append}
use Rattle.gos_plan.specs.Kinds.{Part, Share}
use Rattle.gos_compile.specs.Wiring.{Types, shares, parts_of}
use Rattle.gos_terms.specs.wired.Wired.{Supplies}
use Rattle.gos_terms.specs.stages.Folding.{Child}
use Rattle.gos_terms.specs.stages.Nodes.{Cared}
use Rattle.gos_terms.specs.run_children.Forks.{Branch, branch_parts, branch_uses, branch_child}
use Rattle.gos_terms.specs.branches.Covers.{AreBranchChildren}

-- one of these branches, with those around it
pub record Standing (bs : List Branch) : Type 0 where
  pub before : List Branch
  pub here : Branch
  pub after : List Branch
  pub is : bs ≡ before ++ here ∷ after

abbrev first : (b : Branch) (bs : List Branch) → Standing (b ∷ bs)
first b bs = record { before = []; here = b; after = bs; is = refl }

abbrev later : (b : Branch) (bs : List Branch) → Standing bs → Standing (b ∷ bs)
later b bs p = record { before = b ∷ p.before; here = p.here; after = p.after; is = ap (λ (xs : List Branch). b ∷ xs) p.is }

-- the first one
pub some_standing : (bs : List Branch) → bs ≢ [] → Standing bs
some_standing [] some = absurd (some refl)
some_standing (b ∷ bs) some = first b bs

-- by how many are before it
pub standing_at : (bs : List Branch) (c : ℕ) → c < length bs → (p : Standing bs) × (length p.before ≡ c)
standing_at [] c lt = absurd (omega (arith, lt))
standing_at (b ∷ bs) zero lt = (first b bs, refl)
standing_at (b ∷ bs) (suc c) lt = let (p, at) = standing_at bs c (omega (arith, lt)) in (later b bs p, ap suc at)

-- by a number that is there for it
pub standing_used : (bs : List Branch) (k : ℕ) → 0 < times k (branch_uses bs) → (p : Standing bs) × (0 < times k p.here.uses)
standing_used [] k lt = absurd (omega (arith, lt))
standing_used (b ∷ bs) k lt = by_test (λ some. standing_used bs k some) (nat_lt 0 (times k b.uses)) refl
  where
    by_test : (0 < times k (branch_uses bs) → (p : Standing bs) × (0 < times k p.here.uses)) → (t : Bool) → nat_lt 0 (times k b.uses) ≡ t
        → (p : Standing (b ∷ bs)) × (0 < times k p.here.uses)
    by_test rest true t = (first b bs, grind (arith, nat_tests, t))
    by_test rest false t =
        let both = times-append k b.uses (branch_uses bs) in
        let none : times k b.uses ≡ 0 = grind (arith, nat_tests, t) in
        let (p, some) = rest (omega (arith, lt, both, none)) in
        (later b bs p, some)

-- by one of its parts
abbrev pub HasPart : Types → List Branch → ℕ → Type 0
HasPart types bs k = (p : Standing bs) × (x : ℕ) × (x < length (parts_of types p.here.term)) × (k ≡ length (branch_parts types p.before) + x)

pub standing_part : (types : Types) (bs : List Branch) (k : ℕ) → k < length (branch_parts types bs) → HasPart types bs k
standing_part types [] k lt = absurd (omega (arith, lt))
standing_part types (b ∷ bs) k lt = by_test (λ l low. standing_part types bs l low) (nat_lt k (length (parts_of types b.term))) refl
  where
    by_test : ((l : ℕ) → l < length (branch_parts types bs) → HasPart types bs l) → (t : Bool) → nat_lt k (length (parts_of types b.term)) ≡ t
        → HasPart types (b ∷ bs) k
    by_test rest true t = (first b bs, k, grind (arith, nat_tests, t), omega arith)
    by_test rest false t =
        let high : length (parts_of types b.term) ≤ k = grind (arith, nat_tests, t) in
        let all = length-append (parts_of types b.term) (branch_parts types bs) in
        let (p, x, low, at) = rest (k - length (parts_of types b.term)) (omega (arith, lt, high, all)) in
        let behind = length-append (parts_of types b.term) (branch_parts types p.before) in
        (later b bs p, x, low, omega (arith, at, high, behind))

-- A part of the node is a Share, its own part, or a branch's.
abbrev pub IsOfFork : Types → List Split → List Branch → Part → Part → ℕ → Type 0
IsOfFork types ss bs own y k =
    ((s : Split) × (y ≡ Share (types s.of)) × (slice_get (shares ss types) k ≡ Some (Share (types s.of))))
    ⊎ (((k ≡ length ss) × (y ≡ own))
    ⊎ ((p : Standing bs) × (x : ℕ) × (x < length (parts_of types p.here.term)) × (k ≡ length ss + 1 + length (branch_parts types p.before) + x)))

pub of_fork : (types : Types) (ss : List Split) (bs : List Branch) (own y : Part) (k : ℕ)
    → slice_get (shares ss types ++ own ∷ branch_parts types bs) k ≡ Some y → IsOfFork types ss bs own y k
of_fork types [] bs own y zero at = let same : own ≡ y = cc at in inr (inl (refl, sym same))
of_fork types [] bs own y (suc k) at =
    let (p, x, low, is) = standing_part types bs k (slice_get_within (branch_parts types bs) k y at) in
    inr (inr (p, x, low, omega (arith, is)))
of_fork types (s ∷ ss) bs own y zero at = let same : Share (types s.of) ≡ y = cc at in inl (s, sym same, refl)
of_fork types (s ∷ ss) bs own y (suc k) at = further (of_fork types ss bs own y k at)
  where
    further : IsOfFork types ss bs own y k → IsOfFork types (s ∷ ss) bs own y (suc k)
    further (inl it) = inl it
    further (inr (inl (e, is))) = inr (inl (ap suc e, is))
    further (inr (inr (p, x, low, e))) = inr (inr (p, x, low, omega (arith, e)))

-- The child that a branch is.
module _ (types : Types) (i j : ℕ) (ss : List Split) (env : Supplies) (ns : List ℕ) where
  abbrev child : List Branch → Branch → Child
  child before b = branch_child types i j ss env ns before b

  child_behind : (so_far before after : List Branch) (b : Branch) (es : List Cared) → AreBranchChildren types i j ss env ns so_far (before ++ b ∷ after) es
      → (e : Cared) × Contains es e × (e.child ≡ child (so_far ++ before) b)
  child_behind so_far [] after b [] are = absurd are
  child_behind so_far [] after b (e ∷ es) (is, are) =
      (e, (0, omega arith, refl), is ∙ ap (λ (xs : List Branch). child xs b) (sym (append-nil so_far)))
  child_behind so_far (a ∷ before) after b [] are = absurd are
  child_behind so_far (a ∷ before) after b (e ∷ es) (is, are) =
      let (d, (k, lt, at), same) = child_behind (so_far ++ a ∷ []) before after b es are in
      (d, (suc k, omega (arith, lt), at), same ∙ ap (λ (xs : List Branch). child xs b) (append_assoc so_far (a ∷ []) before))

  pub child_of : (bs : List Branch) (es : List Cared) (p : Standing bs) → AreBranchChildren types i j ss env ns [] bs es
      → (e : Cared) × Contains es e × (e.child ≡ child p.before p.here)
  child_of bs es p are =
      child_behind [] p.before p.after p.here es (subst (λ (xs : List Branch). AreBranchChildren types i j ss env ns [] xs es) p.is are)
